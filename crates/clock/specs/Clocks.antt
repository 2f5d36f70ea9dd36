-- The clock, and what becomes of it.
-- Assumes nothing.
use Rattle.std.specs.Prelude.{ℕ, ◌+◌, ◌-◌, ◌%◌, ◌^◌, Bool, replicate, nat_lt}
use Rattle.ground.specs.Choice.{pick}
use Rattle.clock.specs.Factor.{fronted, no_pair, mean_of}
use Rattle.clock.specs.Limits.{pairs_of_factor, time_for_long_term_drift_check}
use Rattle.clock.specs.declared.LocalTime.{LocalTime}
use Rattle.clock.specs.declared.Pair.{Pair}
use Rattle.clock.specs.declared.Message.{Message}
use Rattle.clock.specs.declared.Period.{Period}
use Rattle.clock.specs.declared.Clock.{Clock}

-- The states (7.4.1.7.2). A clock whose state is neither of the first two counts as isolated.
abbrev pub unsynchronised : ℕ
unsynchronised = 1

abbrev pub synchronised : ℕ
synchronised = 2

abbrev pub isolated : ℕ
isolated = 3

-- No message was received, no pair counts.
unfoldable pub new_clock : Clock
new_clock = record {
  pairs = replicate pairs_of_factor no_pair;
  count = 0;
  state = unsynchronised;
  last = record { received = 0; number = 0; local = record { 0 = 0 } };
  resynchronised = record { 0 = 0 };
  period = record { begun = record { 0 = 0 }; factor = 0; messages = 0 };
}

-- The message is the one received last, and its local time is saved (7.2.1.13).
unfoldable pub kept_by : Clock → Message → LocalTime → Clock
kept_by c m t = record {
  pairs = c.pairs;
  count = c.count;
  state = c.state;
  last = record { received = 1; number = m.number; local = t };
  resynchronised = c.resynchronised;
  period = c.period;
}

-- The pairs begin anew: none counts.
unfoldable pub begun_anew : Clock → Clock
begun_anew c = record {
  pairs = c.pairs;
  count = 0;
  state = c.state;
  last = c.last;
  resynchronised = c.resynchronised;
  period = c.period;
}

-- As before the first message: no pair counts, and no message was received.
unfoldable pub forgotten : Clock → Clock
forgotten c = record {
  pairs = c.pairs;
  count = 0;
  state = c.state;
  last = record { received = 0; number = c.last.number; local = c.last.local };
  resynchronised = c.resynchronised;
  period = c.period;
}

-- Isolated, and no pair counts.
unfoldable pub isolated_by : Clock → Clock
isolated_by c = record {
  pairs = c.pairs;
  count = 0;
  state = isolated;
  last = c.last;
  resynchronised = c.resynchronised;
  period = c.period;
}

-- One pair more counts, and at most sixteen; a count over sixteen counts as sixteen.
unfoldable pub counted_of : ℕ → ℕ
counted_of n = pick (nat_lt n pairs_of_factor) (n + 1) pairs_of_factor

-- A new pair.
unfoldable pub paired_by : Clock → Pair → Clock
paired_by c p = record {
  pairs = fronted p c.pairs;
  count = counted_of c.count;
  state = c.state;
  last = c.last;
  resynchronised = c.resynchronised;
  period = c.period;
}

-- Synchronised at a moment (7.4.1.7.4.2), from which the first period runs. The message that came then is the first of it.
unfoldable pub synchronised_at : Clock → LocalTime → Clock
synchronised_at c t = record {
  pairs = c.pairs;
  count = c.count;
  state = synchronised;
  last = c.last;
  resynchronised = t;
  period = record { begun = t; factor = mean_of c.pairs; messages = 1 };
}

-- Resynchronised at a moment: the Synchronised Timer runs from there (7.4.1.7.4.3).
unfoldable pub resynchronised_at : Clock → LocalTime → Clock
resynchronised_at c t = record {
  pairs = c.pairs;
  count = c.count;
  state = c.state;
  last = c.last;
  resynchronised = t;
  period = c.period;
}

-- The next period begins where the last ended, with the factor valid there; the message that shows it is its first.
unfoldable pub next_period : Period → ℕ → Period
next_period p factor = record { begun = record { 0 = (p.begun.0 + time_for_long_term_drift_check) % 2 ^ 32 }; factor = factor; messages = 1 }

-- One message more in the period. The count ends at the greatest number there is.
unfoldable pub counting_period : Period → Period
counting_period p =
    record { begun = p.begun; factor = p.factor; messages = pick (nat_lt p.messages (2 ^ 32 - 1)) (p.messages + 1) p.messages }

-- The period after a message: the next one where it is over, else the same.
unfoldable pub period_after : Period → Bool → ℕ → Period
period_after p over factor = pick over (next_period p factor) (counting_period p)

-- The clock with its period after a message.
unfoldable pub in_period : Clock → Bool → ℕ → Clock
in_period c over factor = record {
  pairs = c.pairs;
  count = c.count;
  state = c.state;
  last = c.last;
  resynchronised = c.resynchronised;
  period = period_after c.period over factor;
}
