-- What a message can't do, by cases of the tests: make a pair out of sequence, leave a failed clock synchronised, bring an isolated one back. And the limits.
-- Assumes nothing.
use Rattle.std.proofs.Common.{◌≡◌, ℕ, ◌+◌, ◌<◌, ◌≤◌, Bool, true, false, eqb, ltb, leb, List, [], ◌∷◌, sym, refl, ap, ◌∙◌, subst, arith, ltb-false, ltb-true, le-ltb, lt-ltb, ne_eqb, eqb-true, le-leb}
use borrow.Author.Tests.{lt-leb}
use Rattle.ground.specs.Choice.{pick}
use Rattle.clock.specs.Circle.{apart_by}
use Rattle.clock.specs.Factor.{difference_of, newest_of, mean_of}
use Rattle.std.specs.Prelude.{Ok, Err}
use Rattle.clock.specs.Events.{number_of}
use Rattle.clock.specs.declared.events.FailedTest.{FailedTest}
use Rattle.clock.specs.declared.events.FailedTest.TheVariants as failed
use Rattle.clock.specs.declared.events.Event.TheVariants.{Kept, Paired, NowSynchronised, Dropped, StaysIsolated, Failed}
use Rattle.clock.specs.Tests.{is_above, is_following, elapsed, Tested, all_passed, failing, by_tests, standing_tests, later_tests, near_tests, period_tests, period_over}
use Rattle.clock.specs.Clocks.{new_clock, kept_by, begun_anew, forgotten, isolated_by, counted_of, paired_by, synchronised_at, resynchronised_at, in_period, synchronised, isolated}
use Rattle.clock.specs.Updates.{saying, pair_by, first_failing, joined_by, anew_by, lost_by, tests_of_pair, tests_of_period, resynchronise_tests, pair_taken, gone_on, synchronise, resynchronise, heard_by}
use Rattle.clock.specs.Asking.{counts_at, factor_at, time_at}
use Rattle.clock.specs.Facts.{OnlyInSequence, Message0Unused, Judged, SynchronisedTimer, ShortTerm, PeriodJudged, LostIsolates, after, IsolatedForGood, SixteenWhenSynchronised, TimeGiven, NotBefore, NeverStale}
use Rattle.clock.specs.declared.LocalTime.{LocalTime}
use Rattle.clock.specs.declared.Pair.{Pair}
use Rattle.clock.specs.declared.Period.{Period}
use Rattle.clock.specs.declared.RefTime.{RefTime}
use Rattle.clock.specs.declared.Message.{Message}
use Rattle.clock.specs.declared.Clock.{Clock}
use Rattle.clock.specs.declared.Step.{Step}
use Rattle.clock.proofs.Cases.{before_none, failing_join, drift_held, drift_failed}

-- a property of both sides of a choice is a property of the choice
pub either : {A : Type 0} (P : A → Type 0) (b : Bool) (x y : A) → P x → P y → P (pick b x y)
unfolding pick
either P true x y p q = p
either P false x y p q = q

-- and a property of what follows tests, whatever they say
pub either_tested : {A : Type 0} (P : A → Type 0) (r : Tested) (x : A) (f : FailedTest → A) → P x → ((test : FailedTest) → P (f test)) → P (by_tests r x f)
unfolding by_tests
either_tested P (Ok all) x f p q = p
either_tested P (Err test) x f p q = q test

-- ---- pairs are made in sequence alone

pub message_0_unused : Message0Unused
unfolding is_following
message_0_unused l = either (λ (b : Bool). b ≡ false) (eqb l.received 0) false (eqb (l.number + 1) 0) refl (before_none l.number 0 refl)

-- what is left of a message out of sequence: its number and its moment
module _ (c : Clock) (n : ℕ) (t : LocalTime) (out : is_following c.last n ≡ false) where
  abbrev told : RefTime → Message
  told r = record { number = n; reference = r }

  abbrev unpaired : RefTime → ℕ → Step
  unpaired r factor =
      pick (is_above c.last n)
      (by_tests (failing (tests_of_period c t factor)) (saying Kept (kept_by (in_period c (period_over c.period t) factor) (told r) t)) (lost_by c))
      (saying Dropped c)

  abbrev left : RefTime → Step
  left r =
      pick (eqb c.state 1) (pick (is_above c.last n) (saying Kept (kept_by c (told r) t)) (saying (Failed failed.NotAbove) (forgotten c)))
      (pick (eqb c.state 2)
      (by_tests (failing (standing_tests c.count c.resynchronised t)) (unpaired r (mean_of c.pairs)) (lost_by c))
      (saying StaysIsolated c))

  heard_out : (r : RefTime) → heard_by c (told r) t ≡ left r
  unfolding heard_by synchronise resynchronise gone_on pair_taken pick
  heard_out r = rw out

  left_alike : (r s : RefTime) → left r ≡ left s
  unfolding kept_by
  left_alike r s = refl

  left_pairs : (r : RefTime) → (left r).clock.pairs ≡ c.pairs
  unfolding kept_by in_period forgotten lost_by isolated_by
  left_pairs r =
      either (λ (h : Step). h.clock.pairs ≡ c.pairs) (eqb c.state 1) _ _ (either (λ (h : Step). h.clock.pairs ≡ c.pairs) (is_above c.last n) _ _ refl refl)
      (either (λ (h : Step). h.clock.pairs ≡ c.pairs) (eqb c.state 2) _ _
      (either_tested (λ (h : Step). h.clock.pairs ≡ c.pairs) (failing (standing_tests c.count c.resynchronised t)) _ _
      (either (λ (h : Step). h.clock.pairs ≡ c.pairs) (is_above c.last n) _ _
      (either_tested (λ (h : Step). h.clock.pairs ≡ c.pairs) (failing (tests_of_period c t (mean_of c.pairs))) _ _ refl (λ test. refl)) refl) (λ test. refl)) refl)

pub only_in_sequence : OnlyInSequence
only_in_sequence c n r s t out =
    (ap (λ (h : Step). h.clock.pairs) (heard_out c n t out r) ∙ left_pairs c n t out r, heard_out c n t out r ∙ left_alike c n t out r s ∙ sym (heard_out c n t out s))

-- ---- losing it

-- a clock that is lost, or an event below 101
abbrev Lost : Step → Type 0
Lost h = 101 ≤ number_of h.event → (h.clock.state ≡ isolated) × (h.clock.count ≡ 0)

lost_is : (c : Clock) (test : FailedTest) → Lost (lost_by c test)
unfolding lost_by isolated_by
lost_is c test h = (refl, refl)

taken_small : (c : Clock) (m : Message) (t : LocalTime) → number_of (pair_taken c m t).event ≤ 3
unfolding pair_taken
taken_small c m t = either (λ (h : Step). number_of h.event ≤ 3) (is_following c.last m.number) _ _ (omega arith) (omega arith)

gone_on_is : (c : Clock) (m : Message) (t : LocalTime) (f : ℕ) → Lost (gone_on c m t f)
unfolding gone_on
gone_on_is c m t f h = absurd (omega (arith, taken_small c m t))

resynchronise_lost : (c : Clock) (m : Message) (t : LocalTime) → Lost (resynchronise c m t)
unfolding resynchronise
resynchronise_lost c m t =
    either_tested Lost (failing (standing_tests c.count c.resynchronised t)) _ _
    (either Lost (is_above c.last m.number) _ _
    (either_tested Lost (failing (resynchronise_tests c m t)) _ _ (gone_on_is c m t (mean_of c.pairs)) (lost_is c)) (λ h. absurd (omega arith)))
    (lost_is c)

by_state : (c : Clock) (m : Message) (t : LocalTime) → c.state ≡ synchronised → heard_by c m t ≡ resynchronise c m t
unfolding heard_by pick
by_state c m t e = rw e

pub lost_isolates : LostIsolates
lost_isolates c m t e h = subst Lost (sym (by_state c m t e)) (resynchronise_lost c m t) h

-- ---- the limits

pub synchronised_timer : SynchronisedTimer
unfolding resynchronise by_tests pick
synchronised_timer c m t e enough = (
  λ h. rw (le-leb 16 c.count enough, le-leb (elapsed c.resynchronised t) 3000 h),
  λ h. by_state c m t e ∙ rw (le-leb 16 c.count enough, lt-leb (elapsed c.resynchronised t) 3000 (omega arith)),
)

-- a message that is judged: what the tests answer decides
module _ (c : Clock) (m : Message) (t : LocalTime) (j : Judged c m t) where
  judged_is : heard_by c m t ≡ by_tests (failing (resynchronise_tests c m t)) (gone_on c m t (mean_of c.pairs)) (lost_by c)
  unfolding resynchronise by_tests pick
  judged_is = by_state c m t j.synchronised ∙ rw (j.standing, j.above)

  judged_lost : (test : FailedTest) → failing (resynchronise_tests c m t) ≡ Err test → heard_by c m t ≡ lost_by c test
  unfolding by_tests
  judged_lost test e = judged_is ∙ rw e

  judged_on : failing (resynchronise_tests c m t) ≡ all_passed → heard_by c m t ≡ gone_on c m t (mean_of c.pairs)
  unfolding by_tests
  judged_on e = judged_is ∙ rw e

  -- where both times are later, the short-term test decides on the pair
  pair_near : is_following c.last m.number ≡ true → failing (later_tests (pair_by c m) (newest_of c.pairs)) ≡ all_passed
      → failing (tests_of_pair c m (mean_of c.pairs)) ≡ failing (near_tests (pair_by c m) (mean_of c.pairs))
  unfolding by_tests pick
  pair_near f l =
      rw f (failing_join (later_tests (pair_by c m) (newest_of c.pairs)) (near_tests (pair_by c m) (mean_of c.pairs)) ∙ rw l)

  tests_joined : failing (resynchronise_tests c m t) ≡ by_tests (failing (tests_of_pair c m (mean_of c.pairs))) (failing (tests_of_period c t (mean_of c.pairs))) Err
  tests_joined = failing_join (tests_of_pair c m (mean_of c.pairs)) (tests_of_period c t (mean_of c.pairs))

  pair_first : (test : FailedTest) → failing (tests_of_pair c m (mean_of c.pairs)) ≡ Err test → failing (resynchronise_tests c m t) ≡ Err test
  unfolding by_tests
  pair_first test e = tests_joined ∙ rw e

  period_next : failing (tests_of_pair c m (mean_of c.pairs)) ≡ all_passed → period_over c.period t ≡ true → failing (resynchronise_tests c m t) ≡ failing (period_tests c.period (mean_of c.pairs))
  unfolding by_tests pick
  period_next e o = tests_joined ∙ rw (e, o)

near_held : (p : Pair) (f : ℕ) → apart_by (difference_of p) f ≤ 99 → failing (near_tests p f) ≡ all_passed
unfolding pick
near_held p f h = rw (lt-ltb (apart_by (difference_of p) f) 100 (omega arith))

near_failed : (p : Pair) (f : ℕ) → 100 ≤ apart_by (difference_of p) f → failing (near_tests p f) ≡ Err failed.ShortTerm
unfolding pick
near_failed p f h = rw (le-ltb (apart_by (difference_of p) f) 100 h)

pub short_term : ShortTerm
short_term c m t j f l = (
  λ h. pair_near c m t j f l ∙ near_held (pair_by c m) (mean_of c.pairs) h,
  λ h. judged_lost c m t j failed.ShortTerm (pair_first c m t j failed.ShortTerm (pair_near c m t j f l ∙ near_failed (pair_by c m) (mean_of c.pairs) h)),
)

drift_good : (p : Period) (f : ℕ) → 18 ≤ p.messages → apart_by f p.factor ≤ 30 → failing (period_tests p f) ≡ all_passed
unfolding pick
drift_good p f n h = rw (le-leb 18 p.messages n, drift_held (apart_by f p.factor) h)

drift_bad : (p : Period) (f : ℕ) → 18 ≤ p.messages → 31 ≤ apart_by f p.factor → failing (period_tests p f) ≡ Err failed.LongTerm
unfolding pick
drift_bad p f n h = rw (le-leb 18 p.messages n, drift_failed (apart_by f p.factor) (omega arith))

messages_bad : (p : Period) (f : ℕ) → p.messages ≤ 17 → failing (period_tests p f) ≡ Err failed.TooFew
unfolding pick
messages_bad p f h = rw (lt-leb 18 p.messages (omega arith))

pub period_judged : PeriodJudged
period_judged c m t j e o = (
  λ h. judged_lost c m t j failed.TooFew (period_next c m t j e o ∙ messages_bad c.period (mean_of c.pairs) h),
  λ n. (
    λ h. judged_on c m t j (period_next c m t j e o ∙ drift_good c.period (mean_of c.pairs) n h),
    λ h. judged_lost c m t j failed.LongTerm (period_next c m t j e o ∙ drift_bad c.period (mean_of c.pairs) n h),
  ),
)

-- ---- isolated

isolated_stays : (c : Clock) (m : Message) (t : LocalTime) → (c.state ≡ 1 → ⊥) → (c.state ≡ 2 → ⊥) → (heard_by c m t).clock ≡ c
unfolding heard_by pick
isolated_stays c m t u v = rw (ne_eqb c.state 1 u, ne_eqb c.state 2 v)

after_isolated : (c : Clock) (xs : List (Message × LocalTime)) → (c.state ≡ 1 → ⊥) → (c.state ≡ 2 → ⊥) → after c xs ≡ c
after_isolated c [] u v = refl
after_isolated c (x ∷ xs) u v = rw (isolated_stays c x.0 x.1 u v) (after_isolated c xs u v)

pub not_before : NotBefore
unfolding factor_at time_at counts_at pick
not_before c t h = (rw (ne_eqb c.state synchronised h), rw (ne_eqb c.state synchronised h))

counts_none : (c : Clock) (t : LocalTime) → 3001 ≤ apart_by t.0 c.resynchronised.0 → counts_at c t ≡ false
unfolding counts_at
counts_none c t h =
    either (λ (b : Bool). b ≡ false) (eqb c.state synchronised) _ _
    (either (λ (b : Bool). b ≡ false) (leb 16 c.count) _ _ (lt-leb (apart_by t.0 c.resynchronised.0) 3000 (omega arith)) refl) refl

pub never_stale : NeverStale
unfolding factor_at time_at pick
never_stale c t h = (rw (counts_none c t h), rw (counts_none c t h))

pub isolated_for_good : IsolatedForGood
isolated_for_good c xs t u v =
    (after_isolated c xs u v, (rw (after_isolated c xs u v, (not_before c t v).0), rw (after_isolated c xs u v, (not_before c t v).1)))

-- ---- when a time is given

pub time_given : TimeGiven
unfolding time_at factor_at counts_at pick
time_given c t e n h = rw (e, le-leb 16 c.count n, le-leb (apart_by t.0 c.resynchronised.0) 3000 h)

pub new_unsynchronised : new_clock.state ≡ 2 → ⊥
unfolding new_clock
new_unsynchronised f = omega arith

-- sixteen pairs where synchronised
abbrev Full : Clock → Type 0
Full c = c.state ≡ synchronised → c.count ≡ 16

counted_full : (n : ℕ) (b : Bool) → ltb n 16 ≡ b → (pick b (n + 1) 16 < 16 → ⊥) → pick b (n + 1) 16 ≡ 16
unfolding pick
counted_full n true e h = absurd_or (n + 1) (omega (arith, ltb-true n 16 e)) h
  where
    absurd_or : (k : ℕ) → k ≤ 16 → (k < 16 → ⊥) → k ≡ 16
    absurd_or k l z = omega arith
counted_full n false e h = refl

-- a clock that is not synchronised becomes it with sixteen pairs alone
module _ (c : Clock) (m : Message) (t : LocalTime) (e : c.state ≡ 1) where
  other : c.state ≡ 2 → ⊥
  other f = omega arith

  joined_full : (b : Bool) → ltb (kept_by (paired_by c (pair_by c m)) m t).count 16 ≡ b
      → Full (pick b (saying Paired (kept_by (paired_by c (pair_by c m)) m t)) (saying NowSynchronised (synchronised_at (kept_by (paired_by c (pair_by c m)) m t) t))).clock
  unfolding pick kept_by paired_by synchronised_at counted_of
  joined_full true l f = absurd (other f)
  joined_full false l f = counted_full c.count (ltb c.count 16) refl (λ h. omega (arith, ltb-false (pick (ltb c.count 16) (c.count + 1) 16) 16 l))

  synchronise_full : Full (synchronise c m t).clock
  unfolding synchronise joined_by anew_by kept_by begun_anew forgotten
  synchronise_full =
      either (λ (h : Step). Full h.clock) (is_above c.last m.number) _ _
      (either (λ (h : Step). Full h.clock) (is_following c.last m.number) _ _
      (either_tested (λ (h : Step). Full h.clock) (first_failing c (pair_by c m)) _ _
      (joined_full (ltb (kept_by (paired_by c (pair_by c m)) m t).count 16) refl) (λ test f. absurd (other f))) (λ f. absurd (other f))) (λ f. absurd (other f))

-- and a synchronised one keeps them, or is lost
module _ (c : Clock) (m : Message) (t : LocalTime) (full : c.count ≡ 16) where
  lost_full : (test : FailedTest) → Full (lost_by c test).clock
  unfolding lost_by isolated_by
  lost_full test f = absurd (omega arith)

  taken_full : (pair_taken c m t).clock.count ≡ 16
  unfolding pair_taken resynchronised_at paired_by counted_of pick
  taken_full = either (λ (h : Step). h.clock.count ≡ 16) (is_following c.last m.number) _ _ (rw full) full

  gone_full : (f : ℕ) → Full (gone_on c m t f).clock
  unfolding gone_on kept_by in_period
  gone_full f e = taken_full

  resynchronise_full : Full (resynchronise c m t).clock
  unfolding resynchronise
  resynchronise_full =
      either_tested (λ (h : Step). Full h.clock) (failing (standing_tests c.count c.resynchronised t)) _ _
      (either (λ (h : Step). Full h.clock) (is_above c.last m.number) _ _
      (either_tested (λ (h : Step). Full h.clock) (failing (resynchronise_tests c m t)) _ _ (gone_full (mean_of c.pairs)) lost_full) (λ f. full))
      lost_full

heard_full : (c : Clock) (m : Message) (t : LocalTime) (u v : Bool) → eqb c.state 1 ≡ u → eqb c.state 2 ≡ v → Full c → Full (pick u (synchronise c m t) (pick v (resynchronise c m t) (saying StaysIsolated c))).clock
unfolding pick
heard_full c m t true v e f full = synchronise_full c m t (eqb-true c.state 1 e)
heard_full c m t false true e f full = resynchronise_full c m t (full (eqb-true c.state 2 f))
heard_full c m t false false e f full = full

after_full : (c : Clock) (xs : List (Message × LocalTime)) → Full c → Full (after c xs)
unfolding heard_by
after_full c [] full = full
after_full c (x ∷ xs) full = after_full (heard_by c x.0 x.1).clock xs (heard_full c x.0 x.1 (eqb c.state 1) (eqb c.state 2) refl refl full)

pub sixteen_when_synchronised : SixteenWhenSynchronised
sixteen_when_synchronised xs = after_full new_clock xs new_full
  where
    new_full : Full new_clock
    new_full f = absurd (new_unsynchronised f)
