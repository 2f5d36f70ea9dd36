-- A connection's record: its phases, which records the rules accept, and what closing leaves.
-- Assumes nothing.
use Rattle.std.specs.Prelude.{ℕ, Bool, true, [], ◌∷◌, ◌==◌, nat_le}
use Rattle.ground.specs.Choice.{pick, all}
use Rattle.telegram.specs.Ends.{in_range}
use Rattle.telegram.specs.Values.{good_idle}
use Rattle.telegram.specs.declared.End.{End}
use Rattle.link.specs.declared.Record.{Record}

-- The phases (5.5.1.2) by their numbers: 1 closed (Idle), 2 confirm awaited (wConAck), 3 authentication awaited (wAuthReq), 4 acknowledgement awaited (wAuthAck), 5 open
-- (Data), 6 finally closed (Defect).

-- The end of the connection that a node of this address is.
unfoldable pub end_of : Record → ℕ → End
end_of r own =
    record { own = own; partner = r.partner; partner_sap = r.partner_sap; local_sap = r.local_sap; level = r.level }

-- A phase that there is.
unfoldable pub is_phase : ℕ → Bool
is_phase p = all (nat_le 1 p ∷ nat_le p 6 ∷ [])

-- Numbers, idle times and timers at 0, as a fresh or closed record has them.
unfoldable pub at_rest : Record → Bool
at_rest r =
    all
    ((r.sending == 0) ∷ (r.expected == 0) ∷ (r.declared == 0) ∷ (r.watched == 0) ∷ (r.sent_at == 0) ∷ (r.taken_at == 0) ∷ [])

-- Closed, finally or not.
unfoldable pub is_closed : ℕ → Bool
is_closed p = pick (p == 1) true (p == 6)

-- The record's own fields and the node's address are in range: addresses, SAPs and level; a phase that there is; idle times that answer 5 would not turn
-- away; and a closed record at rest.
unfoldable pub record_in_range : Record → ℕ → Bool
record_in_range r own =
    all
    (in_range (end_of r own) ∷ is_phase r.phase ∷ good_idle r.declared ∷ good_idle r.watched ∷ pick (is_closed r.phase) (at_rest r) true ∷ [])

-- A record that has never been used.
unfoldable pub fresh_of : ℕ → ℕ → ℕ → ℕ → Record
fresh_of partner partnerSap localSap level =
    record {
      partner = partner;
      partner_sap = partnerSap;
      local_sap = localSap;
      level = level;
      phase = 1;
      sending = 0;
      expected = 0;
      declared = 0;
      watched = 0;
      sent_at = 0;
      taken_at = 0;
    }

-- The same connection in another phase, with these numbers, idle times and timers. Partner, SAPs and level stay.
unfoldable pub become : Record → ℕ → ℕ → ℕ → ℕ → ℕ → ℕ → ℕ → Record
become r phase sending expected declared watched sentAt takenAt =
    record {
      partner = r.partner;
      partner_sap = r.partner_sap;
      local_sap = r.local_sap;
      level = r.level;
      phase = phase;
      sending = sending;
      expected = expected;
      declared = declared;
      watched = watched;
      sent_at = sentAt;
      taken_at = takenAt;
    }

-- Closed, finally (5.2.5.5) or so that it may be established again (5.2.5.4).
unfoldable pub closed_by : Bool → Record → Record
closed_by last r = become r (pick last 6 1) 0 0 0 0 0 0
