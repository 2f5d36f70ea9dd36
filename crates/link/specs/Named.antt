-- The numbers of what the code has names for: phases, the telegrams of an answer.
-- Assumes nothing.
use Rattle.std.specs.Prelude.{ℕ, max, min}
use Rattle.link.specs.declared.phases.Phase.{Phase}
use Rattle.link.specs.declared.phases.Phase.TheVariants as phase
use Rattle.link.specs.declared.act.Telegram.{Telegram}
use Rattle.link.specs.declared.act.Telegram.TheVariants as telegram

-- The phases (Records.antt).
abbrev pub phase_number : Phase → ℕ
phase_number phase.Closed = 1
phase_number phase.ConfirmAwaited = 2
phase_number phase.AuthenticationAwaited = 3
phase_number phase.AcknowledgementAwaited = 4
phase_number phase.Open = 5
phase_number phase.FinallyClosed = 6

-- The column of the table that a number falls to: that of its phase, for 0 the first, for a number above 6 the last.
abbrev pub column : ℕ → ℕ
column p = min (max 1 p) 6

-- The telegrams, as an answer names them (Steps.antt).
abbrev pub telegram_number : Telegram → ℕ
telegram_number telegram.Request = 1
telegram_number telegram.Confirm = 2
telegram_number telegram.Authentication = 3
telegram_number telegram.Acknowledgement = 4
telegram_number telegram.Disconnect = 5
telegram_number telegram.Idle = 6
telegram_number telegram.Data = 7
