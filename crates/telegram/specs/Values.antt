-- The values that fields may have.
-- Assumes nothing.
use Rattle.std.specs.Prelude.{Bool, true, false, List, [], ◌∷◌, ℕ, ◌%◌, get_or, leb, eqb}
use Rattle.ground.specs.Choice.{pick, all}
use Rattle.telegram.specs.declared.Kind.{Kind}
use Rattle.telegram.specs.declared.Kind.TheVariants.{Request, Confirm, Authentication, Acknowledgement, Disconnect, Idle, Data, Unknown}

-- Idle times: 0, or a multiple of 100 in 100..65500 (5.2.1.3, bytes 7..8).
unfoldable pub good_idle : ℕ → Bool
good_idle time = all (leb time 65500 ∷ eqb (time % 100) 0 ∷ [])

-- New set-up desired (5.2.5.9, byte 3): 0 final, 1 not.
unfoldable pub good_type : ℕ → Bool
good_type type = leb type 1

-- The reasons that 5.2.5.9, byte 4, lists: 00h..07h, 1Fh, and 20h..40h, which note 5.2.5.9.1 gives to the layer above.
unfoldable pub listed_reason : ℕ → Bool
listed_reason reason = pick (leb reason 0x07) true (pick (leb 0x1F reason) (leb reason 0x40) false)

-- Dual bus (5.2.1.3, byte 12): 0 and 1; 2..255 is reserved.
unfoldable pub good_dual_bus : ℕ → Bool
good_dual_bus bus = leb bus 1

-- The fixed fields of a received telegram are in range, given their values in the layout's order. Of a disconnect any reason byte is in range: a final
-- disconnect with a reason that we don't know still ends the connection.
abbrev pub good_fields : Kind → List ℕ → Bool
good_fields Request vs = all (good_idle (get_or vs 1 0) ∷ good_dual_bus (get_or vs 5 0) ∷ [])
good_fields Confirm vs = all (good_idle (get_or vs 1 0) ∷ good_dual_bus (get_or vs 5 0) ∷ [])
good_fields Disconnect vs = good_type (get_or vs 0 0)
good_fields Authentication vs = true
good_fields Acknowledgement vs = true
good_fields Idle vs = true
good_fields Data vs = true
good_fields Unknown vs = true
