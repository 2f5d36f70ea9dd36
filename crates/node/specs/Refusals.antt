-- The order of the refusals: one list, of which a call uses some.
-- Assumes nothing.
use Rattle.std.specs.Prelude.{Bool, true, List, [], ◌∷◌, ◌++◌, ℕ, length, leb, ltb}
use Rattle.ground.specs.Choice.{pick}
use Rattle.telegram.specs.Layout.{longest}
use Rattle.link.specs.declared.Record.{Record}
use Rattle.node.specs.declared.Head.{Head}
use Rattle.node.specs.Accepted.{accepted}

-- What a call asks for before it does anything: each true where it is as it should be. What a call doesn't ask for is true.
pub record Asked : Type 0 where
  -- the table is accepted
  pub table : Bool
  -- the buffer has room for the longest telegram
  pub room : Bool
  -- the time is not smaller than the latest
  pub timely : Bool
  -- the telegram has a length that the bus carries
  pub carried : Bool
  -- there is such a record
  pub placed : Bool
  -- it is not finally closed
  pub live : Bool
  -- its phase is one that the call is for
  pub suited : Bool
  -- the values are allowed
  pub allowed : Bool

-- What is answered where it is not, in the scope's order: first what concerns the table, the buffer, the time, the telegram and the place, then what concerns
-- the record.
abbrev pub of_table : Asked → List (ℕ × Bool)
of_table a = (1, a.table) ∷ (4, a.room) ∷ (7, a.timely) ∷ (6, a.carried) ∷ (2, a.placed) ∷ []

abbrev pub of_record : Asked → List (ℕ × Bool)
of_record a = (8, a.live) ∷ (3, a.suited) ∷ (5, a.allowed) ∷ []

abbrev pub order : Asked → List (ℕ × Bool)
order a = of_table a ++ of_record a

-- The first that is not as it should be, or 0.
abbrev pub first : List (ℕ × Bool) → ℕ
first [] = 0
first ((n, good) ∷ rest) = pick good (first rest) n

-- Only what is asked for before the record is looked at.
abbrev pub until_place : Bool → Bool → Bool → Bool → Bool → Asked
until_place table room timely carried placed =
    record { table = table; room = room; timely = timely; carried = carried; placed = placed; live = true; suited = true; allowed = true }

-- The first refusal of a call before the record is looked at, or 0.
unfoldable pub before : Head → List Record → ℕ → ℕ → Bool → ℕ → ℕ
before h t time room carried place = first (of_table (until_place (accepted h t) (leb longest room) (leb h.latest time) carried (ltb place (length t))))
