-- What is shown of the clock. Each statement is proved under the same name in snake case in proofs/ (Rounding, Moving, Starting, Losing, Facts), and all of them are
-- `facts` in proofs/Facts.antt.
-- Assumes nothing.
use Rattle.std.specs.Prelude.{◌≡◌, ℕ, zero, suc, ◌+◌, ◌-◌, ◌/◌, ◌%◌, ◌^◌, ◌<◌, ◌≤◌, true, false, List, [], ◌∷◌, ◌++◌, map, length, ℤ, pos, negsuc, ◌+ℤ◌, ◌*ℤ◌, ◌≤ℤ◌, ◌≢◌, Option, Some, None, Ok}
use Rattle.clock.specs.Limits.{pairs_of_factor}
use Rattle.clock.specs.Events.{number_of}
use Rattle.clock.specs.declared.events.FailedTest.TheVariants as failed
use Rattle.clock.specs.Circle.{minus, distance_of, apart_by}
use Rattle.clock.specs.Factor.{difference_of, floor16, around, newest_of, mean_of}
use Rattle.clock.specs.Tests.{is_above, is_following, elapsed, all_passed, failing, standing_tests, later_tests, period_over}
use Rattle.clock.specs.Clocks.{unsynchronised, synchronised, isolated, new_clock}
use Rattle.clock.specs.Updates.{pair_by, tests_of_pair, lost_by, gone_on, heard_by}
use Rattle.clock.specs.Asking.{factor_at, adjusted_by, time_at}
use Rattle.clock.specs.Reading.{read_by}
use Rattle.clock.specs.Plain.{plain_factor, plain_time}
use Rattle.clock.specs.declared.LocalTime.{LocalTime}
use Rattle.clock.specs.declared.RefTime.{RefTime}
use Rattle.clock.specs.declared.Pair.{Pair}
use Rattle.clock.specs.declared.Message.{Message}
use Rattle.clock.specs.declared.Last.{Last}
use Rattle.clock.specs.declared.Period.{Period}
use Rattle.clock.specs.declared.Clock.{Clock}
use Rattle.clock.specs.declared.Step.{Step}

-- Every element of a list has a property.
abbrev pub Every : {A : Type 0} → (A → Type 0) → List A → Type 0
Every P [] = Unit {0}
Every P (x ∷ xs) = P x × Every P xs

-- ---- The factor

-- The mean of sixteen equal differences is that difference.
abbrev pub EqualDifferences : Type 0
EqualDifferences = (ps : List Pair) (d : ℕ) → length ps ≡ 16 → Every (λ (p : Pair). difference_of p ≡ d) ps → mean_of ps ≡ d

-- Both times of a pair are numbers of 32 bits, as they are in the code.
abbrev pub Timed : Pair → Type 0
Timed p = (p.reference.0 < 2 ^ 32) × (p.local.0 < 2 ^ 32)

-- A number moved on by k on the circle.
abbrev pub onward : ℕ → ℕ → ℕ
onward k a = (a + k) % 2 ^ 32

-- A pair whose reference time is k later.
abbrev pub later_reference : ℕ → Pair → Pair
later_reference k p = record { reference = record { 0 = onward k p.reference.0 }; local = p.local }

-- Adding one constant to all reference times adds it to the factor, modulo 2^32.
abbrev pub ConstantAdded : Type 0
ConstantAdded = (ps : List Pair) (k : ℕ) → length ps ≡ 16 → Every Timed ps → mean_of (map (later_reference k) ps) ≡ onward k (mean_of ps)

-- The factor lies between the least and the greatest difference, as signed distances from the newest one: any two bounds of theirs are bounds of its.
abbrev pub Between : Type 0
Between =
    (ps : List Pair) (low high : ℤ) → length ps ≡ 16
    → Every (λ (p : Pair). (low ≤ℤ distance_of (difference_of p) (difference_of (newest_of ps))) × (distance_of (difference_of p) (difference_of (newest_of ps)) ≤ℤ high)) ps
    → (low ≤ℤ distance_of (mean_of ps) (difference_of (newest_of ps))) × (distance_of (mean_of ps) (difference_of (newest_of ps)) ≤ℤ high)

-- What a division by sixteen leaves.
abbrev pub left16 : ℤ → ℕ
left16 (pos n) = n % 16
left16 (negsuc n) = 15 - n % 16

-- Rounded down: sixteen times the sixteenth, and from 0 to 15 more, is the number.
abbrev pub Floor : Type 0
Floor = (z : ℤ) → (left16 z < 16) × (floor16 z *ℤ pos 16 +ℤ pos (left16 z) ≡ z)

-- Going the distance of a from b on from b leads to a.
abbrev pub DistanceBack : Type 0
DistanceBack = (a b : ℕ) → a < 2 ^ 32 → b < 2 ^ 32 → around (pos b +ℤ distance_of a b) ≡ a

-- ---- Which messages make a pair

-- Where the message before it was not the one received last, the pairs stay as they are, and the Reference Time that it carries is not looked at.
abbrev pub OnlyInSequence : Type 0
OnlyInSequence =
    (c : Clock) (n : ℕ) (r s : RefTime) (t : LocalTime) → is_following c.last n ≡ false
    → ((heard_by c (record { number = n; reference = r }) t).clock.pairs ≡ c.pairs)
    × (heard_by c (record { number = n; reference = r }) t ≡ heard_by c (record { number = n; reference = s }) t)

-- So it is for message 0, whatever was received before it (6.3.1.8).
abbrev pub Message0Unused : Type 0
Message0Unused = (l : Last) → is_following l 0 ≡ false

-- ---- The limits of the tests, at both sides, on a message to a synchronised clock

-- What comes before the tests of 7.4.3: the clock is synchronised and stands, and the number is above the last.
pub record Judged (c : Clock) (m : Message) (t : LocalTime) : Type 0 where
  pub synchronised : c.state ≡ synchronised
  pub standing : failing (standing_tests c.count c.resynchronised t) ≡ all_passed
  pub above : is_above c.last m.number ≡ true

-- On a synchronised clock with sixteen pairs: 3,000 ms since the last resynchronisation pass this test, at 3,001 synchronisation is lost (7.4.1.6).
abbrev pub SynchronisedTimer : Type 0
SynchronisedTimer =
    (c : Clock) (m : Message) (t : LocalTime) → c.state ≡ synchronised → pairs_of_factor ≤ c.count
    → (elapsed c.resynchronised t ≤ 3000 → failing (standing_tests c.count c.resynchronised t) ≡ all_passed)
    × (3001 ≤ elapsed c.resynchronised t → heard_by c m t ≡ lost_by c failed.TooLate)

-- A pair of which both times are later passes the tests of a pair at 99 ms from the factor; at 100 synchronisation is lost (7.4.3.5).
abbrev pub ShortTerm : Type 0
ShortTerm =
    (c : Clock) (m : Message) (t : LocalTime) → Judged c m t → is_following c.last m.number ≡ true → failing (later_tests (pair_by c m) (newest_of c.pairs)) ≡ all_passed
    → (apart_by (difference_of (pair_by c m)) (mean_of c.pairs) ≤ 99 → failing (tests_of_pair c m (mean_of c.pairs)) ≡ all_passed)
    × (100 ≤ apart_by (difference_of (pair_by c m)) (mean_of c.pairs) → heard_by c m t ≡ lost_by c failed.ShortTerm)

-- Where a message passes the tests of its pair, or makes none, and shows the period's end: with 17 messages or fewer in it synchronisation is lost (7.4.3.6); with 18 or
-- more the clock goes on at 30 ms, and synchronisation is lost at 31 (7.4.3.7).
abbrev pub PeriodJudged : Type 0
PeriodJudged =
    (c : Clock) (m : Message) (t : LocalTime) → Judged c m t → failing (tests_of_pair c m (mean_of c.pairs)) ≡ all_passed → period_over c.period t ≡ true
    → (c.period.messages ≤ 17 → heard_by c m t ≡ lost_by c failed.TooFew)
    × (18 ≤ c.period.messages
    → (apart_by (mean_of c.pairs) c.period.factor ≤ 30 → heard_by c m t ≡ gone_on c m t (mean_of c.pairs))
    × (31 ≤ apart_by (mean_of c.pairs) c.period.factor → heard_by c m t ≡ lost_by c failed.LongTerm))

-- ---- Losing synchronisation

-- A test that fails while synchronised isolates, and no pair counts.
abbrev pub LostIsolates : Type 0
LostIsolates =
    (c : Clock) (m : Message) (t : LocalTime) → c.state ≡ synchronised → 101 ≤ number_of (heard_by c m t).event
    → ((heard_by c m t).clock.state ≡ isolated) × ((heard_by c m t).clock.count ≡ 0)

-- The clock after a run of messages, each with the local time at its reception.
abbrev pub after : Clock → List (Message × LocalTime) → Clock
after c [] = c
after c (x ∷ xs) = after (heard_by c x.0 x.1).clock xs

-- A clock that is isolated, by whatever number of its state, stays as it is whatever comes, and whoever asks gets 9 ever after.
abbrev pub IsolatedForGood : Type 0
IsolatedForGood =
    (c : Clock) (xs : List (Message × LocalTime)) (t : LocalTime) → (c.state ≢ unsynchronised) → (c.state ≢ synchronised)
    → (after c xs ≡ c) × (((plain_factor (factor_at (after c xs) t)).answer ≡ 9) × ((plain_time (time_at (after c xs) t)).answer ≡ 9))

-- ---- When a time is given

-- A clock that is synchronised has sixteen pairs, whatever messages came since it was new.
abbrev pub SixteenWhenSynchronised : Type 0
SixteenWhenSynchronised = (xs : List (Message × LocalTime)) → (after new_clock xs).state ≡ synchronised → (after new_clock xs).count ≡ pairs_of_factor

-- Synchronised, with sixteen pairs, and at most 3 s away from the last resynchronisation, it gives the time.
abbrev pub TimeGiven : Type 0
TimeGiven =
    (c : Clock) (t : LocalTime) → c.state ≡ synchronised → pairs_of_factor ≤ c.count → apart_by t.0 c.resynchronised.0 ≤ 3000
    → time_at c t ≡ Some (adjusted_by t (mean_of c.pairs))

-- A clock that is not synchronised gives neither factor nor time (7.4.1.1) ..
abbrev pub NotBefore : Type 0
NotBefore = (c : Clock) (t : LocalTime) → (c.state ≢ synchronised) → (factor_at c t ≡ None) × (time_at c t ≡ None)

-- .. nor does one at a moment more than 3 s away from the last resynchronisation, on the circle of 2^32: 49.7 days later is near again (docs/TRUST.md).
abbrev pub NeverStale : Type 0
NeverStale =
    (c : Clock) (t : LocalTime) → 3001 ≤ apart_by t.0 c.resynchronised.0 → (factor_at c t ≡ None) × (time_at c t ≡ None)

-- ---- The wrap

-- Every time that the clock keeps is a number of 32 bits, as it is in the code, and there are sixteen pairs.
pub record Ranged (c : Clock) : Type 0 where
  pub sixteen : length c.pairs ≡ 16
  pub pairs : Every Timed c.pairs
  pub last : c.last.local.0 < 2 ^ 32
  pub resynchronised : c.resynchronised.0 < 2 ^ 32
  pub begun : c.period.begun.0 < 2 ^ 32
  pub factor : c.period.factor < 2 ^ 32

-- The same with all reference times moved on by j and all local times by k: the factor moves on by j - k.
abbrev pub moved_pair : ℕ → ℕ → Pair → Pair
moved_pair j k p = record { reference = record { 0 = onward j p.reference.0 }; local = record { 0 = onward k p.local.0 } }

abbrev pub moved_factor : ℕ → ℕ → ℕ → ℕ
moved_factor j k f = minus (onward j f) k

abbrev pub moved_local : ℕ → LocalTime → LocalTime
moved_local k t = record { 0 = onward k t.0 }

abbrev pub moved_period : ℕ → ℕ → Period → Period
moved_period j k p = record { begun = moved_local k p.begun; factor = moved_factor j k p.factor; messages = p.messages }

abbrev pub moved_clock : ℕ → ℕ → Clock → Clock
moved_clock j k c = record {
  pairs = map (moved_pair j k) c.pairs;
  count = c.count;
  state = c.state;
  last = record { received = c.last.received; number = c.last.number; local = moved_local k c.last.local };
  resynchronised = moved_local k c.resynchronised;
  period = moved_period j k c.period;
}

abbrev pub moved_message : ℕ → Message → Message
moved_message j m = record { number = m.number; reference = record { 0 = onward j m.reference.0 } }

abbrev pub moved_step : ℕ → ℕ → Step → Step
moved_step j k s = record { clock = moved_clock j k s.clock; event = s.event }

-- Where a clock wraps changes nothing but the wrap: with both clocks begun anywhere else, each message has the same event and leaves the same clock, moved.
abbrev pub WrapUnseen : Type 0
WrapUnseen =
    (j k : ℕ) → k < 2 ^ 32 → (c : Clock) (m : Message) (t : LocalTime) → Ranged c → m.reference.0 < 2 ^ 32
    → heard_by (moved_clock j k c) (moved_message j m) (moved_local k t) ≡ moved_step j k (heard_by c m t)

-- A message and its moment in range, and moved.
abbrev pub InRange : Message × LocalTime → Type 0
InRange x = (x.0.reference.0 < 2 ^ 32) × (x.1.0 < 2 ^ 32)

abbrev pub moved_heard : ℕ → ℕ → Message × LocalTime → Message × LocalTime
moved_heard j k x = (moved_message j x.0, moved_local k x.1)

-- So it is after every run of messages.
abbrev pub WrapUnseenRun : Type 0
WrapUnseenRun =
    (j k : ℕ) → k < 2 ^ 32 → (c : Clock) (xs : List (Message × LocalTime)) → Ranged c → Every InRange xs
    → after (moved_clock j k c) (map (moved_heard j k) xs) ≡ moved_clock j k (after c xs)

-- An answer, moved.
abbrev pub moved_asked : ℕ → Option RefTime → Option RefTime
moved_asked j (Some r) = Some (record { 0 = onward j r.0 })
moved_asked j None = None

-- And the Reference Time asked for is the same, moved.
abbrev pub WrapUnseenAsking : Type 0
WrapUnseenAsking =
    (j k : ℕ) → k < 2 ^ 32 → (c : Clock) (t : LocalTime) → Ranged c
    → time_at (moved_clock j k c) (moved_local k t) ≡ moved_asked j (time_at c t)

-- So from power-on: with all reference times moved by j and all local times by k the new clock comes to the same state, and the Reference Time given is the same, moved
-- by j. With j = 0: two nodes on one bus whose counters differ.
abbrev pub WrapUnseenFromPowerOn : Type 0
WrapUnseenFromPowerOn =
    (j k : ℕ) → k < 2 ^ 32 → (xs : List (Message × LocalTime)) (t : LocalTime) → Every InRange xs
    → ((after new_clock (map (moved_heard j k) xs)).state ≡ (after new_clock xs).state)
    × (time_at (after new_clock (map (moved_heard j k) xs)) (moved_local k t) ≡ moved_asked j (time_at (after new_clock xs) t))

-- ---- The bytes

-- The n lowest bytes of a number, lowest first.
abbrev pub lowest_first : ℕ → ℕ → List ℕ
lowest_first zero x = []
lowest_first (suc n) x = x % 256 ∷ lowest_first n (x / 256)

-- A message laid out as 6.3.1.9 prints it is read back.
abbrev pub ReadBack : Type 0
ReadBack =
    (m : Message) → m.number < 2 ^ 32 → m.reference.0 < 2 ^ 32
    → read_by (3 ∷ 0 ∷ 0 ∷ lowest_first 4 m.number ++ lowest_first 4 m.reference.0) ≡ Ok m

-- ---- All of them

pub record Facts : Type 0 where
  pub equal_differences : EqualDifferences
  pub constant_added : ConstantAdded
  pub between : Between
  pub floor : Floor
  pub distance_back : DistanceBack
  pub only_in_sequence : OnlyInSequence
  pub message_0_unused : Message0Unused
  pub synchronised_timer : SynchronisedTimer
  pub short_term : ShortTerm
  pub period_judged : PeriodJudged
  pub lost_isolates : LostIsolates
  pub isolated_for_good : IsolatedForGood
  pub sixteen_when_synchronised : SixteenWhenSynchronised
  pub time_given : TimeGiven
  pub not_before : NotBefore
  pub never_stale : NeverStale
  pub wrap_unseen : WrapUnseen
  pub wrap_unseen_run : WrapUnseenRun
  pub wrap_unseen_asking : WrapUnseenAsking
  pub wrap_unseen_from_power_on : WrapUnseenFromPowerOn
  pub read_back : ReadBack
