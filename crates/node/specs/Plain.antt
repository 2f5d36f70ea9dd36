-- An outcome as plain numbers, for C, and the net data of an event.
-- Assumes nothing.
use Rattle.std.specs.Prelude.{List, [], ℕ, ◌+◌, length, take, drop, leb}
use Rattle.ground.specs.Choice.{pick}
use Rattle.telegram.specs.declared.Part.{Part}
use Rattle.link.specs.Plain.{happened}
use Rattle.link.specs.declared.Event.{Event}
use Rattle.link.specs.declared.Event.TheVariants.{Nothing, Opened, Data, Closed}
use Rattle.node.specs.declared.Outcome.{Outcome}
use Rattle.node.specs.declared.PlainOutcome.{PlainOutcome}

-- Head and answer as they are, the event by its numbers.
unfoldable pub plain : Outcome → PlainOutcome
plain o = record { head = o.head; answer = o.answer; happened = happened o.event }

-- Where the net data of an event lie in the telegram.
abbrev pub part_of : Event → Part
part_of Nothing = record { start = 0; count = 0 }
part_of Opened = record { start = 0; count = 0 }
part_of (Data command start count) = record { start = start; count = count }
part_of (Closed reason last) = record { start = 0; count = 0 }

-- That part of the telegram; nothing of a telegram that doesn't reach so far.
abbrev pub within : Part → List ℕ → List ℕ
within p t = pick (leb (p.start + p.count) (length t)) (take p.count (drop p.start t)) []

unfoldable pub data_of : Event → List ℕ → List ℕ
data_of e t = within (part_of e) t
