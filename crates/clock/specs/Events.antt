-- What a message did, by its number. Those from 101 on name the test that failed.
-- Assumes nothing.
use Rattle.std.specs.Prelude.{ℕ}
use Rattle.clock.specs.declared.events.FailedTest.{FailedTest}
use Rattle.clock.specs.declared.events.FailedTest.TheVariants.{NotAbove, NoFactor, TooLate, ReferenceNotLater, LocalNotLater, ShortTerm, TooFew, LongTerm}
use Rattle.clock.specs.declared.events.Event.{Event}
use Rattle.clock.specs.declared.events.Event.TheVariants.{Kept, Paired, NowSynchronised, Resynchronised, Dropped, StaysIsolated, Failed}

-- The number of a test that failed.
abbrev pub number_of_test : FailedTest → ℕ
-- Unsynchronised, and the number is not above the last.
number_of_test NotAbove = 101
-- 7.4.1.5.1
number_of_test NoFactor = 102
-- 7.4.1.6.1
number_of_test TooLate = 103
-- 7.4.2.2.1, 7.4.3.3
number_of_test ReferenceNotLater = 104
-- 7.4.2.2.2, 7.4.3.4
number_of_test LocalNotLater = 105
-- 7.4.3.5
number_of_test ShortTerm = 106
-- 7.4.3.6
number_of_test TooFew = 107
-- 7.4.3.7
number_of_test LongTerm = 108

-- The number of an event.
abbrev pub number_of : Event → ℕ
-- No pair: the message is kept for the next one.
number_of Kept = 0
-- One pair more, and not yet sixteen.
number_of Paired = 1
-- The sixteenth pair (7.4.1.7.3.2).
number_of NowSynchronised = 2
-- One pair more, and all tests passed.
number_of Resynchronised = 3
-- Synchronised, and the number is not above the last: not looked at.
number_of Dropped = 4
-- Isolated: not looked at.
number_of StaysIsolated = 5
number_of (Failed test) = number_of_test test
