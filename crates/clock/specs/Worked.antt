-- Worked numbers: each limit at both its sides, on a clock that is given, and a clock from its first message on. proofs/Worked.antt proves `Worked` under the same name in
-- small letters.
-- Assumes nothing.
use Rattle.std.specs.Prelude.{◌≡◌, ℕ, zero, suc, ◌+◌, ◌*◌, List, [], ◌∷◌, replicate, Some}
use Rattle.clock.specs.Factor.{mean_of}
use Rattle.clock.specs.Clocks.{new_clock}
use Rattle.clock.specs.Updates.{heard_by}
use Rattle.clock.specs.Asking.{time_at}
use Rattle.clock.specs.Events.{number_of}
use Rattle.clock.specs.declared.events.Event.TheVariants.{Dropped}
use Rattle.clock.specs.Facts.{after}
use Rattle.clock.specs.declared.LocalTime.{LocalTime}
use Rattle.clock.specs.declared.Pair.{Pair}
use Rattle.clock.specs.declared.Message.{Message}
use Rattle.clock.specs.declared.Clock.{Clock}

abbrev pub pair_of : ℕ → ℕ → Pair
pair_of reference local = record { reference = record { 0 = reference }; local = record { 0 = local } }

abbrev pub message : ℕ → ℕ → Message
message number reference = record { number = number; reference = record { 0 = reference } }

abbrev pub at : ℕ → LocalTime
at ms = record { 0 = ms }

-- Synchronised, with sixteen pairs whose difference is 60,000 and of which the newest is of 40,000 on the local clock; message 7 was received at 40,500. The period is
-- given.
abbrev pub steady : ℕ → ℕ → ℕ → Clock
steady begun factor messages = record {
  pairs = replicate 16 (pair_of 100000 40000);
  count = 16;
  state = 2;
  last = record { received = 1; number = 7; local = at 40500 };
  resynchronised = at 40500;
  period = record { begun = at begun; factor = factor; messages = messages };
}

-- The number of the event of message 8, or another one, on such a clock: the time it carries, and when it comes.
abbrev pub event : Clock → ℕ → ℕ → ℕ → ℕ
event c number reference local = number_of (heard_by c (message number reference) (at local)).event

-- Messages n, n + 1, .. of a reference clock that starts at 4,294,966,000 and wraps, one each 500 ms; the local clock is at 1,000 at message 0. Message 0 carries 0.
abbrev pub reference : ℕ → ℕ
reference zero = 0
reference (suc zero) = 4294966000
reference (suc (suc zero)) = 4294966500
reference (suc (suc (suc zero))) = 4294967000
reference (suc (suc (suc (suc n)))) = 204 + 500 * n

abbrev pub run : ℕ → ℕ → List (Message × LocalTime)
run n zero = []
run n (suc k) = (message n (reference n), at (1000 + 500 * n)) ∷ run (n + 1) k

pub record Worked : Type 0 where
  -- 7.4.3.5, against the factor 60,000
  pub short_term_99_passes : event (steady 40500 60000 1) 8 100599 41000 ≡ 3
  pub short_term_100_fails : event (steady 40500 60000 1) 8 100600 41000 ≡ 106
  pub short_term_100_less_fails : event (steady 40500 60000 1) 8 100400 41000 ≡ 106
  -- 7.4.3.7, in a period that ends as the message comes
  pub long_term_30_passes : event (steady 11000 60030 18) 8 100500 41000 ≡ 3
  pub long_term_31_fails : event (steady 11000 60031 18) 8 100500 41000 ≡ 108
  pub long_term_31_less_fails : event (steady 11000 59969 18) 8 100500 41000 ≡ 108
  -- 7.4.3.6
  pub seventeen_messages_fail : event (steady 11000 60000 17) 8 100500 41000 ≡ 107
  pub a_period_that_goes_on_is_not_judged : event (steady 11001 60031 17) 8 100500 41000 ≡ 3
  -- 7.4.1.6
  pub three_seconds_pass : event (steady 40500 60000 1) 8 100500 43500 ≡ 3
  pub one_more_fails : event (steady 40500 60000 1) 8 100500 43501 ≡ 103
  -- 7.4.3.3
  pub the_same_time_fails : event (steady 40500 60000 1) 8 100000 41000 ≡ 104
  -- message 8 was lost; message 7 comes again
  pub no_pair_behind_a_gap : event (steady 40500 60000 1) 9 100500 41000 ≡ 0
  pub a_number_again_is_dropped : heard_by (steady 40500 60000 1) (message 7 100500) (at 41000) ≡ record { clock = steady 40500 60000 1; event = Dropped }
  pub a_number_again_is_told_as_4 : event (steady 40500 60000 1) 7 100500 41000 ≡ 4
  -- fifteen differences a millisecond less than the newest: -15 / 16 is rounded down to -1. Fifteen a millisecond more: 15 / 16 is rounded down to 0
  pub rounded_down : mean_of (pair_of 60000 0 ∷ replicate 15 (pair_of 59999 0)) ≡ 59999
  pub rounded_down_from_below : mean_of (pair_of 59999 0 ∷ replicate 15 (pair_of 60000 0)) ≡ 59999
  -- seventeen messages from the first on synchronise, across the wrap; sixteen do not
  pub sixteen_messages : (after new_clock (run 0 16)).state ≡ 1
  pub seventeen_messages : (after new_clock (run 0 17)).state ≡ 2
  pub the_time_then : time_at (after new_clock (run 0 17)) (at 9000) ≡ Some (record { 0 = 6704 })
