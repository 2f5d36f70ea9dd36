-- What each writer does: the telegram that it writes at the front of the buffer, or the refusal that it answers, which leaves the buffer as it was.
-- Assumes nothing.
use Rattle.std.specs.Prelude.{Bool, true, List, [], ◌∷◌, ◌++◌, ℕ, zero, suc, length, drop, leb}
use Rattle.ground.specs.Choice.{pick, all}
use Rattle.telegram.specs.Commands.{is_data}
use Rattle.telegram.specs.Layout.{longest, most}
use Rattle.telegram.specs.Ends.{in_range}
use Rattle.telegram.specs.Values.{good_idle, good_type, listed_reason}
use Rattle.telegram.specs.Telegrams.{request, confirm, authentication, acknowledgement, disconnect, idle, data_telegram}
use Rattle.telegram.specs.declared.End.{End}
use Rattle.telegram.specs.declared.Written.{Written}
use Rattle.telegram.specs.declared.Kind.TheVariants.{Request, Disconnect, Data}

pub data Outcome : Type 0 where
  refused : ℕ → Outcome
  wrote : List ℕ → Outcome

-- What is answered.
abbrev pub answer_of : Outcome → Written
answer_of (refused n) = record { answer = n; length = 0 }
answer_of (wrote t) = record { answer = 0; length = length t }

-- What the buffer d is left as.
abbrev pub left_by : Outcome → List ℕ → List ℕ
left_by (refused n) d = d
left_by (wrote t) d = t ++ drop (length t) d

-- The first refusal that holds, 0 where none does: 1 an end out of range, 4 a buffer without room for the longest telegram, 5 a value not allowed.
unfoldable pub refusal : End → ℕ → Bool → ℕ
refusal e room allowed = pick (in_range e) (pick (leb longest room) (pick allowed 0 5) 4) 1

abbrev pub unless : ℕ → List ℕ → Outcome
unless zero t = wrote t
unless (suc n) t = refused (suc n)

-- The values that a connect request or confirm may carry, a disconnect, a data telegram.
unfoldable pub connect_allowed : ℕ → ℕ → ℕ → Bool
connect_allowed time count l = all (good_idle time ∷ leb count (most Request l) ∷ [])

unfoldable pub disconnect_allowed : ℕ → ℕ → ℕ → ℕ → Bool
disconnect_allowed type reason count l = all (good_type type ∷ listed_reason reason ∷ leb count (most Disconnect l) ∷ [])

unfoldable pub data_allowed : ℕ → ℕ → ℕ → Bool
data_allowed low count l = all (is_data low ∷ leb count (most Data l) ∷ [])

-- The seven writers, onto the buffer d.

unfoldable pub writes_request : End → ℕ → ℕ → List ℕ → List ℕ → Outcome
writes_request e random time net d = unless (refusal e (length d) (connect_allowed time (length net) e.level)) (request e random time net)

unfoldable pub writes_confirm : End → ℕ → ℕ → List ℕ → List ℕ → Outcome
writes_confirm e random time net d = unless (refusal e (length d) (connect_allowed time (length net) e.level)) (confirm e random time net)

unfoldable pub writes_authentication : End → ℕ → ℕ → List ℕ → Outcome
writes_authentication e number received d = unless (refusal e (length d) true) (authentication e number received)

unfoldable pub writes_acknowledgement : End → ℕ → ℕ → List ℕ → Outcome
writes_acknowledgement e number received d = unless (refusal e (length d) true) (acknowledgement e number received)

unfoldable pub writes_disconnect : End → ℕ → ℕ → ℕ → List ℕ → List ℕ → Outcome
writes_disconnect e number type reason text d =
    unless (refusal e (length d) (disconnect_allowed type reason (length text) e.level)) (disconnect e number type reason text)

unfoldable pub writes_idle : End → ℕ → List ℕ → Outcome
writes_idle e number d = unless (refusal e (length d) true) (idle e number)

unfoldable pub writes_data : End → ℕ → ℕ → List ℕ → List ℕ → Outcome
writes_data e number low net d = unless (refusal e (length d) (data_allowed low (length net) e.level)) (data_telegram e number low net)
