-- What a message leaves: the clock, and the event.
-- Assumes nothing.
use Rattle.std.specs.Prelude.{ℕ, Bool, List, [], ◌++◌, ◌==◌, nat_lt}
use Rattle.ground.specs.Choice.{pick}
use Rattle.clock.specs.Factor.{newest_of, mean_of}
use Rattle.clock.specs.Tests.{is_above, is_following, Tested, all_passed, failing, by_tests, standing_tests, later_tests, pair_tests, period_over, period_tests}
use Rattle.clock.specs.Clocks.{unsynchronised, synchronised, kept_by, begun_anew, forgotten, isolated_by, paired_by, synchronised_at, resynchronised_at, in_period}
use Rattle.clock.specs.Limits.{pairs_of_factor}
use Rattle.clock.specs.declared.events.FailedTest.{FailedTest}
use Rattle.clock.specs.declared.events.FailedTest.TheVariants.{NotAbove}
use Rattle.clock.specs.declared.events.Event.{Event}
use Rattle.clock.specs.declared.events.Event.TheVariants.{Kept, Paired, NowSynchronised, Resynchronised, Dropped, StaysIsolated, Failed}
use Rattle.clock.specs.declared.LocalTime.{LocalTime}
use Rattle.clock.specs.declared.Pair.{Pair}
use Rattle.clock.specs.declared.Message.{Message}
use Rattle.clock.specs.declared.Clock.{Clock}
use Rattle.clock.specs.declared.Step.{Step}

-- The Reference Time that a message carries is of the one before it, whose local time was saved (6.3.1.7, 7.2.1.15).
unfoldable pub pair_by : Clock → Message → Pair
pair_by c m = record { reference = m.reference; local = c.last.local }

-- A clock, and the event that goes with it.
abbrev pub saying : Event → Clock → Step
saying event c = record { clock = c; event = event }

-- A failed test while unsynchronised: the pairs begin anew, and the message is kept.
unfoldable pub anew_by : Clock → Message → LocalTime → FailedTest → Step
anew_by c m t test = saying (Failed test) (kept_by (begun_anew c) m t)

-- A failed test while synchronised: LostSync (7.4.1.7.3.3).
unfoldable pub lost_by : Clock → FailedTest → Step
lost_by c test = saying (Failed test) (isolated_by c)

-- ---- Synchronise (7.4.2)

-- The tests of 7.4.2.2. The first pair has none before it.
unfoldable pub first_failing : Clock → Pair → Tested
first_failing c p = pick (c.count == 0) all_passed (failing (later_tests p (newest_of c.pairs)))

-- A pair more, of which the sixteenth synchronises.
unfoldable pub joined_by : Clock → Pair → Message → LocalTime → Step
joined_by c p m t =
    pick (nat_lt (kept_by (paired_by c p) m t).count pairs_of_factor) (saying Paired (kept_by (paired_by c p) m t)) (saying NowSynchronised (synchronised_at (kept_by (paired_by c p) m t) t))

-- A number not above the last forgets all: whether it is a copy, or the reference clock began anew, can't be told. A message that does not follow the
-- last makes no pair; it is kept, and the pairs stay.
unfoldable pub synchronise : Clock → Message → LocalTime → Step
synchronise c m t =
    pick (is_above c.last m.number)
    (pick (is_following c.last m.number)
    (by_tests (first_failing c (pair_by c m)) (joined_by c (pair_by c m) m t) (anew_by c m t))
    (saying Kept (kept_by c m t)))
    (saying (Failed NotAbove) (forgotten c))

-- ---- Resynchronise (7.4.3)

-- 7.4.3.3 to 7.4.3.5, where the message makes a pair.
abbrev pub tests_of_pair : Clock → Message → ℕ → List (Bool × FailedTest)
tests_of_pair c m factor = pick (is_following c.last m.number) (pair_tests (pair_by c m) (newest_of c.pairs) factor) []

-- 7.4.3.6 and 7.4.3.7, where the period is over.
abbrev pub tests_of_period : Clock → LocalTime → ℕ → List (Bool × FailedTest)
tests_of_period c t factor = pick (period_over c.period t) (period_tests c.period factor) []

-- All of them in the order of the paper, with the factor in use before the message.
abbrev pub resynchronise_tests : Clock → Message → LocalTime → List (Bool × FailedTest)
resynchronise_tests c m t = tests_of_pair c m (mean_of c.pairs) ++ tests_of_period c t (mean_of c.pairs)

-- The pair of a message that makes one.
unfoldable pub pair_taken : Clock → Message → LocalTime → Step
pair_taken c m t = pick (is_following c.last m.number) (saying Resynchronised (resynchronised_at (paired_by c (pair_by c m)) t)) (saying Kept c)

-- All tests passed: the pair, the period, and the message is the last.
unfoldable pub gone_on : Clock → Message → LocalTime → ℕ → Step
gone_on c m t factor = saying (pair_taken c m t).event (kept_by (in_period (pair_taken c m t).clock (period_over c.period t) factor) m t)

-- First whether the clock still stands; a number not above the last is dropped; then the tests.
unfoldable pub resynchronise : Clock → Message → LocalTime → Step
resynchronise c m t =
    by_tests (failing (standing_tests c.count c.resynchronised t))
    (pick (is_above c.last m.number) (by_tests (failing (resynchronise_tests c m t)) (gone_on c m t (mean_of c.pairs)) (lost_by c)) (saying Dropped c))
    (lost_by c)

-- ---- The state machine (7.4.1.7)

-- An isolated clock takes no message.
unfoldable pub heard_by : Clock → Message → LocalTime → Step
heard_by c m t =
    pick (c.state == unsynchronised) (synchronise c m t) (pick (c.state == synchronised) (resynchronise c m t) (saying StaysIsolated c))
