-- The refusals by their numbers, as the caller is answered; 0 is no refusal.
-- Assumes nothing.
use Rattle.std.specs.Prelude.{ℕ, Result, Ok, Err}
use Rattle.telegram.specs.declared.Refusal.{Refusal}
use Rattle.telegram.specs.declared.Refusal.TheVariants.{OutOfRange, NoRecord, WrongPhase, NoRoom, BadValue, BadTelegram, TimeBackwards, Ended}

abbrev pub refusal_number : Refusal → ℕ
refusal_number OutOfRange = 1
refusal_number NoRecord = 2
refusal_number WrongPhase = 3
refusal_number NoRoom = 4
refusal_number BadValue = 5
refusal_number BadTelegram = 6
refusal_number TimeBackwards = 7
refusal_number Ended = 8

-- The answer to what gives a value or a refusal.
abbrev pub answered : {A : Type 0} → Result A Refusal → ℕ
answered (Ok x) = 0
answered (Err r) = refusal_number r
