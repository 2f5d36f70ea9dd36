-- The tests of a message, clause by clause.
-- Assumes nothing.
use Rattle.std.specs.Prelude.{ℕ, ◌+◌, ◌*◌, Bool, true, false, List, [], ◌∷◌, ◌++◌, ◌==◌, nat_le, nat_lt, Result, Ok, Err, ⊤}
use Rattle.ground.specs.Choice.{pick}
use Rattle.clock.specs.Circle.{minus, later_than, apart_by}
use Rattle.clock.specs.Factor.{difference_of}
use Rattle.clock.specs.Limits.{pairs_of_factor, local_clock_max_re_sync_interval, max_clock_inaccuracy, time_for_long_term_drift_check, min_number_of_messages}
use Rattle.clock.specs.declared.events.FailedTest.{FailedTest}
use Rattle.clock.specs.declared.events.FailedTest.TheVariants.{NoFactor, TooLate, ReferenceNotLater, LocalNotLater, ShortTerm, TooFew, LongTerm}
use Rattle.clock.specs.declared.LocalTime.{LocalTime}
use Rattle.clock.specs.declared.Pair.{Pair}
use Rattle.clock.specs.declared.Last.{Last}
use Rattle.clock.specs.declared.Period.{Period}

-- The number is above that of the message received last, if there was one (6.3.1.3, 6.3.1.5).
unfoldable pub is_above : Last → ℕ → Bool
is_above l n = pick (l.received == 0) true (nat_lt l.number n)

-- The message before this number was the one received last (7.2.1.15). There is no number before 0, so that nothing is made of message 0 (6.3.1.8).
unfoldable pub is_following : Last → ℕ → Bool
is_following l n = pick (l.received == 0) false (l.number + 1 == n)

-- The milliseconds from one moment of the local clock on to another, modulo 2^32: back to an earlier one it is nearly 2^32.
unfoldable pub elapsed : LocalTime → LocalTime → ℕ
elapsed from to = minus to.0 from.0

-- What tests say: the one that failed, or that all passed.
abbrev pub Tested : Type 0
Tested = Result ⊤ FailedTest

abbrev pub all_passed : Tested
all_passed = Ok tt

-- A list of tests in their order, each with what it says where it fails: the first that does not hold, if one doesn't.
abbrev pub failing : List (Bool × FailedTest) → Tested
failing [] = all_passed
failing (t ∷ ts) = pick t.0 (failing ts) (Err t.1)

-- One thing where all tests passed, else another by the test that failed.
unfoldable pub by_tests : {A : Type 0} → Tested → A → (FailedTest → A) → A
by_tests (Ok all) x f = x
by_tests (Err test) x f = f test

-- The clock still stands: an adjustment factor can be calculated (7.4.1.5.1), and the Synchronised Timer has not run out (7.4.1.6.1).
abbrev pub standing_tests : ℕ → LocalTime → LocalTime → List (Bool × FailedTest)
standing_tests count resynchronised local = (nat_le pairs_of_factor count, NoFactor) ∷ (nat_le (elapsed resynchronised local) local_clock_max_re_sync_interval, TooLate) ∷ []

-- Both times of a new pair are later than those of the newest: 7.4.2.2.1 and 7.4.2.2.2, which are 7.4.3.3 and 7.4.3.4.
abbrev pub later_tests : Pair → Pair → List (Bool × FailedTest)
later_tests new newest =
    (later_than new.reference.0 newest.reference.0, ReferenceNotLater) ∷ (later_than new.local.0 newest.local.0, LocalNotLater) ∷ []

-- 7.4.3.5, against the factor in use before the pair.
abbrev pub near_tests : Pair → ℕ → List (Bool × FailedTest)
near_tests new factor = (nat_lt (apart_by (difference_of new) factor) max_clock_inaccuracy, ShortTerm) ∷ []

-- 7.4.3.3 to 7.4.3.5.
abbrev pub pair_tests : Pair → Pair → ℕ → List (Bool × FailedTest)
pair_tests new newest factor = later_tests new newest ++ near_tests new factor

-- The moment lies at the end of the period or behind it.
unfoldable pub period_over : Period → LocalTime → Bool
period_over p local = nat_le time_for_long_term_drift_check (elapsed p.begun local)

-- A period that is over: enough messages came in it (7.4.3.6), and the factor at its end is at most a thousandth of it away from the one at its beginning
-- (7.4.3.7).
abbrev pub period_tests : Period → ℕ → List (Bool × FailedTest)
period_tests p factor = (nat_le min_number_of_messages p.messages, TooFew) ∷ (nat_le (1000 * apart_by factor p.factor) time_for_long_term_drift_check, LongTerm) ∷ []
