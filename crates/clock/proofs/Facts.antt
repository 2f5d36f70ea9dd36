-- The facts of specs/Facts.antt, each under its name in snake case. Those of the mean are in Rounding.antt, of moved clocks in Moving.antt and Starting.antt, of what a message can't do in
-- Losing.antt; that of the bytes is here.
-- Assumes nothing.
use Rattle.std.proofs.Common.{◌≡◌, ℕ, ◌+◌, ◌*◌, ◌/◌, ◌%◌, ◌^◌, ◌<◌, arith}
use Rattle.ground.specs.Choice.{pick}
use Rattle.clock.specs.Reading.{prefixed, read_by}
use Rattle.clock.specs.Facts.{ReadBack, Facts}
use Rattle.clock.proofs.Rounding.{equal_differences, between, floor, distance_back}
use Rattle.clock.proofs.Moving.{constant_added, wrap_unseen, wrap_unseen_run, wrap_unseen_asking}
use Rattle.clock.proofs.Starting.{wrap_unseen_from_power_on}
use Rattle.clock.proofs.Losing.{only_in_sequence, message_0_unused, synchronised_timer, short_term, period_judged, lost_isolates, isolated_for_good, sixteen_when_synchronised, time_given, not_before, never_stale}

-- four bytes, lowest first, and the number again
digits : (x : ℕ) → x < 2 ^ 32 → x % 256 + 256 * (x / 256 % 256 + 256 * (x / 256 / 256 % 256 + 256 * (x / 256 / 256 / 256 % 256 + 256 * 0))) ≡ x
digits x l = omega arith

pub read_back : ReadBack
unfolding read_by prefixed pick
read_back m ln lr = rw (digits m.number ln, digits m.reference.0 lr)

pub facts : Facts
facts =
    record {
      equal_differences = equal_differences;
      constant_added = constant_added;
      between = between;
      floor = floor;
      distance_back = distance_back;
      only_in_sequence = only_in_sequence;
      message_0_unused = message_0_unused;
      short_term = short_term;
      period_judged = period_judged;
      synchronised_timer = synchronised_timer;
      sixteen_when_synchronised = sixteen_when_synchronised;
      time_given = time_given;
      lost_isolates = lost_isolates;
      isolated_for_good = isolated_for_good;
      not_before = not_before;
      never_stale = never_stale;
      wrap_unseen = wrap_unseen;
      wrap_unseen_run = wrap_unseen_run;
      wrap_unseen_asking = wrap_unseen_asking;
      wrap_unseen_from_power_on = wrap_unseen_from_power_on;
      read_back = read_back;
    }
