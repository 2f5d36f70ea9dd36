-- What is told by plain numbers: the answer's number, and the value. Where there is none it is 0.
-- Assumes nothing.
use Rattle.std.specs.Prelude.{ℕ, Option, Some, None, Result, Ok, Err}
use Rattle.clock.specs.declared.RefTime.{RefTime}
use Rattle.clock.specs.declared.Message.{Message}
use Rattle.clock.specs.declared.Unreadable.{Unreadable}
use Rattle.clock.specs.declared.Unreadable.TheVariants.{NotEleven, OtherPrefix}
use Rattle.clock.specs.declared.PlainReading.{PlainReading}
use Rattle.clock.specs.declared.PlainFactor.{PlainFactor}
use Rattle.clock.specs.declared.PlainTime.{PlainTime}

-- No message, for a reason.
abbrev pub no_message : ℕ → PlainReading
no_message answer = record { answer = answer; message = record { number = 0; reference = record { 0 = 0 } } }

-- 201: not eleven bytes. 202: another prefix than 3, 0, 0.
abbrev pub plain_reading : Result Message Unreadable → PlainReading
plain_reading (Ok m) = record { answer = 0; message = m }
plain_reading (Err NotEleven) = no_message 201
plain_reading (Err OtherPrefix) = no_message 202

-- 9: fewer than sixteen pairs count.
abbrev pub plain_factor : Option ℕ → PlainFactor
plain_factor (Some f) = record { answer = 0; factor = f }
plain_factor None = record { answer = 9; factor = 0 }

-- 9 likewise.
abbrev pub plain_time : Option RefTime → PlainTime
plain_time (Some t) = record { answer = 0; time = t }
plain_time None = record { answer = 9; time = record { 0 = 0 } }
