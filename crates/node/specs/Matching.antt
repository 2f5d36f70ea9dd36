-- Which record a telegram is for: by sender address, destination SAP and source SAP, never by place.
-- Assumes nothing.
use Rattle.std.specs.Prelude.{Bool, ◌&&◌, List, [], ◌∷◌, ℕ, zero, suc, length, eqb, ltb, Option, Some, None, if◌then◌else◌}
use Rattle.ground.specs.Choice.{pick}
use Rattle.link.specs.declared.Record.{Record}
use Rattle.node.specs.declared.Route.{Route}

-- The sender is the record's partner, the destination SAP ours, the source SAP the partner's.
abbrev pub is_for : Route → Record → Bool
is_for w r = (eqb r.partner w.sender && eqb r.local_sap w.destination_sap) && eqb r.partner_sap w.source_sap

-- The place of the first record that it is for, or the length of the table where there is none. An accepted table has at most one.
abbrev pub first_match : Route → List Record → ℕ
first_match w [] = zero
first_match w (r ∷ rs) = pick (is_for w r) zero (suc (first_match w rs))

-- A place, where the table has it.
abbrev pub place_in : List Record → ℕ → Option ℕ
place_in t i = if ltb i (length t) then Some i else None

-- What the telegrams for a record are sent under: its partner sends them, to our SAP, from the partner's.
abbrev pub route_of : Record → Route
route_of r = record { sender = r.partner; destination_sap = r.local_sap; source_sap = r.partner_sap }

-- A route by its numbers.
unfoldable pub route_by : ℕ → ℕ → ℕ → Route
route_by sender dsap ssap = record { sender = sender; destination_sap = dsap; source_sap = ssap }
