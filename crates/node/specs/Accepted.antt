-- Which tables are accepted: answer 1 is given exactly where this says no.
-- Assumes nothing.
use Rattle.std.specs.Prelude.{Bool, true, false, not, ◌&&◌, List, [], ◌∷◌, ℕ, length, get_or, leb, eqb}
use Rattle.ground.specs.Choice.{pick, all}
use Rattle.link.specs.Records.{record_in_range}
use Rattle.link.specs.declared.Record.{Record}
use Rattle.node.specs.declared.Head.{Head}

-- What stands past the end of a table: a record of no connection.
abbrev pub nowhere : Record
nowhere = record { partner = 0; partner_sap = 0; local_sap = 0; level = 0; phase = 0; sending = 0; expected = 0; declared = 0; watched = 0; sent_at = 0; taken_at = 0 }

-- The record at a place.
abbrev pub record_at : List Record → ℕ → Record
record_at t place = get_or t place nowhere

-- A table has 1 to 64 records; the own address is 0..126.
unfoldable pub bounds_accepted : ℕ → ℕ → Bool
bounds_accepted count own = all (leb 1 count ∷ leb count 64 ∷ leb own 126 ∷ [])

-- A record's fields are in range (`record_in_range`: addresses, SAPs, level, phase, idle times, and a closed record at rest), and no timer is later than the
-- head's latest time.
unfoldable pub record_accepted : Head → Record → Bool
record_accepted h r = all (leb r.sent_at h.latest ∷ leb r.taken_at h.latest ∷ record_in_range r h.own ∷ [])

abbrev pub all_accepted : Head → List Record → Bool
all_accepted h [] = true
all_accepted h (r ∷ rs) = pick (record_accepted h r) (all_accepted h rs) false

-- Two records alike: partner address and both SAPs agree. The level doesn't matter.
abbrev pub alike : Record → Record → Bool
alike a b = (eqb a.partner b.partner && eqb a.partner_sap b.partner_sap) && eqb a.local_sap b.local_sap

abbrev pub has_like : Record → List Record → Bool
has_like a [] = false
has_like a (b ∷ bs) = pick (alike a b) true (has_like a bs)

-- Some two records of the table are alike.
abbrev pub has_pair : List Record → Bool
has_pair [] = false
has_pair (a ∷ rs) = pick (has_like a rs) true (has_pair rs)

-- The one predicate.
unfoldable pub accepted : Head → List Record → Bool
accepted h t = all (bounds_accepted (length t) h.own ∷ all_accepted h t ∷ not (has_pair t) ∷ [])
