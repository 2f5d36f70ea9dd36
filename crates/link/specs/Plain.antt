-- A step as plain numbers, for C: the scope's number and values for each case of the event.
-- Assumes nothing.
use Rattle.std.specs.Prelude.{ℕ, ◌==◌, Option, Some, None}
use Rattle.ground.specs.Choice.{pick}
use Rattle.link.specs.declared.Event.{Event}
use Rattle.link.specs.declared.Event.TheVariants.{Nothing, Opened, Data, Closed}
use Rattle.link.specs.declared.Step.{Step}
use Rattle.link.specs.declared.Happened.{Happened}
use Rattle.link.specs.declared.Stepped.{Stepped}

-- An idle time is named where the flag is not 0, and else none is, whatever number stands beside the flag.
unfoldable pub idle_time_by : ℕ → ℕ → Option ℕ
idle_time_by named time = pick (named == 0) None (Some time)

-- 0 nothing, 1 opened, 2 data with command, start and count, 3 closed with its reason, last 1 where it is closed finally. Unused parts are 0.
abbrev pub happened : Event → Happened
happened Nothing = record { event = 0; command = 0; start = 0; count = 0; reason = 0; last = 0 }
happened Opened = record { event = 1; command = 0; start = 0; count = 0; reason = 0; last = 0 }
happened (Data command start count) = record { event = 2; command = command; start = start; count = count; reason = 0; last = 0 }
happened (Closed reason last) = record { event = 3; command = 0; start = 0; count = 0; reason = reason; last = pick last 1 0 }

unfoldable pub plain : Step → Stepped
plain s = record { «record» = s.«record»; answer = s.answer; happened = happened s.event }
