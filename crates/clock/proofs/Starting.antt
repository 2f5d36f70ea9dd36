-- From power-on: what a new clock has in the fields that mean nothing yet is never looked at. Two clocks that differ in such fields alone stay so, message by message, and
-- once synchronised are one. So the moved clock of Moving.antt may be a new one.
-- Assumes nothing.
use Rattle.std.proofs.Common.{◌≡◌, ℕ, zero, suc, ◌+◌, ◌^◌, ◌<◌, ◌≤◌, Bool, true, false, eqb, ltb, List, [], ◌∷◌, map, get_or, take, replicate, sym, refl, ap, ◌∙◌, subst, arith, ltb-false, ltb-true, eqb-true}
use lib.ListN.{length-map}
use borrow.Author.Tests.{eqb-false}
use Rattle.ground.specs.Choice.{pick}
use Rattle.clock.specs.Factor.{fronted, newest_of, no_pair, mean_of}
use Rattle.std.specs.Prelude.{Ok, Err}
use Rattle.clock.specs.declared.events.FailedTest.{FailedTest}
use Rattle.clock.specs.declared.events.FailedTest.TheVariants.{NotAbove}
use Rattle.clock.specs.declared.events.Event.TheVariants.{Kept, NowSynchronised, StaysIsolated, Failed}
use Rattle.clock.specs.Tests.{is_above, is_following, Tested, failing, by_tests, standing_tests}
use Rattle.clock.specs.Clocks.{new_clock, kept_by, begun_anew, forgotten, isolated_by, counted_of, paired_by, synchronised_at, resynchronised_at, in_period}
use Rattle.clock.specs.Updates.{saying, pair_by, first_failing, joined_by, anew_by, lost_by, resynchronise_tests, pair_taken, gone_on, synchronise, resynchronise, heard_by}
use Rattle.clock.specs.Asking.{time_at}
use Rattle.clock.specs.Facts.{Every, Timed, Ranged, InRange, after, onward, moved_pair, moved_heard, moved_local, moved_clock, WrapUnseenFromPowerOn}
use Rattle.clock.specs.declared.LocalTime.{LocalTime}
use Rattle.clock.specs.declared.Pair.{Pair}
use Rattle.clock.specs.declared.Message.{Message}
use Rattle.clock.specs.declared.Last.{Last}
use Rattle.clock.specs.declared.Clock.{Clock}
use Rattle.clock.specs.declared.Step.{Step}
use Rattle.clock.proofs.Circling.{minus_small}
use Rattle.clock.proofs.Losing.{either, either_tested, not_before, new_unsynchronised}
use Rattle.clock.proofs.Moving.{onward_below, kept_fits, anew_fits, forgotten_fits, paired_fits, synchronised_fits, resynchronise_fits, heard_fits, wrap_unseen_run, wrap_unseen_asking}

-- ---- lists that begin alike

take_take : {A : Type 0} (k n : ℕ) (xs : List A) → k ≤ n → take k (take n xs) ≡ take k xs
take_take zero n xs l = refl
take_take (suc k) zero xs l = absurd (omega arith)
take_take (suc k) (suc n) [] l = refl
take_take (suc k) (suc n) (x ∷ xs) l = ap (λ (r : List _). x ∷ r) (take_take k n xs (omega arith))

fewer_alike : {A : Type 0} (k n : ℕ) (xs ys : List A) → k ≤ n → take n xs ≡ take n ys → take k xs ≡ take k ys
fewer_alike k n xs ys l e = sym (take_take k n xs l) ∙ ap (take k) e ∙ take_take k n ys l

first_of : {A : Type 0} (n : ℕ) (xs : List A) (d : A) → get_or (take (suc n) xs) 0 d ≡ get_or xs 0 d
first_of n [] d = refl
first_of n (x ∷ xs) d = refl

fronted_alike : (k n : ℕ) (p : Pair) (xs ys : List Pair) → k ≤ 16 → k ≤ n + 1 → take n xs ≡ take n ys → take k (fronted p xs) ≡ take k (fronted p ys)
unfolding fronted
fronted_alike zero n p xs ys l h e = refl
fronted_alike (suc k) n p xs ys l h e =
    take_take (suc k) 16 (p ∷ xs) l ∙ ap (λ (r : List Pair). p ∷ r) (fewer_alike k n xs ys (omega arith) e) ∙ sym (take_take (suc k) 16 (p ∷ ys) l)

-- ---- clocks that differ only where nothing looks

record Alike (c d : Clock) : Type 0 where
  ranged_c : Ranged c
  ranged_d : Ranged d
  few : c.count ≤ 16
  count : c.count ≡ d.count
  state : c.state ≡ d.state
  pairs : take c.count c.pairs ≡ take c.count d.pairs
  received : c.last.received ≡ d.last.received
  last : (c.last.received ≡ 0 → ⊥) → c.last ≡ d.last
  rest : c.state ≡ 2 → c ≡ d

alike_same : (c d : Clock) → Ranged c → c.count ≤ 16 → c ≡ d → Alike c d
alike_same c d r f e = subst (Alike c) e (record { ranged_c = r; ranged_d = r; few = f; count = refl; state = refl; pairs = refl; received = refl; last = λ h. refl; rest = λ h. refl })

-- the same event, and clocks alike
abbrev Both : Step → Step → Type 0
Both h k = (h.event ≡ k.event) × Alike h.clock k.clock

by_test : (b : Bool) (x y x' y' : Step) → (b ≡ true → Both x x') → (b ≡ false → Both y y') → Both (pick b x y) (pick b x' y')
unfolding pick
by_test true x y x' y' p q = p refl
by_test false x y x' y' p q = q refl

by_same_test : (b b' : Bool) (x y x' y' : Step) → b ≡ b' → (b ≡ true → Both x x') → (b ≡ false → Both y y') → Both (pick b x y) (pick b' x' y')
by_same_test b b' x y x' y' e p q = subst (λ (z : Bool). Both (pick b x y) (pick z x' y')) e (by_test b x y x' y' p q)

by_tested : (r : Tested) (x : Step) (f : FailedTest → Step) (x' : Step) (f' : FailedTest → Step) → Both x x' → ((test : FailedTest) → Both (f test) (f' test))
    → Both (by_tests r x f) (by_tests r x' f')
unfolding by_tests
by_tested (Ok all) x f x' f' p q = p
by_tested (Err test) x f x' f' p q = q test

few_by : (n : ℕ) (b : Bool) → ltb n 16 ≡ b → pick b (n + 1) 16 ≤ 16
unfolding pick
few_by n true e = omega (arith, ltb-true n 16 e)
few_by n false e = omega arith

most_by : (n : ℕ) (b : Bool) → ltb n 16 ≡ b → pick b (n + 1) 16 ≤ n + 1
unfolding pick
most_by n true e = omega arith
most_by n false e = omega (arith, ltb-false n 16 e)

counted_few : (n : ℕ) → counted_of n ≤ 16
unfolding counted_of
counted_few n = few_by n (ltb n 16) refl

counted_most : (n : ℕ) → counted_of n ≤ n + 1
unfolding counted_of
counted_most n = most_by n (ltb n 16) refl

-- at most sixteen pairs count after a message
module _ (c : Clock) (m : Message) (t : LocalTime) (few : c.count ≤ 16) where
  abbrev Few : Step → Type 0
  Few h = h.clock.count ≤ 16

  taken_few : Few (pair_taken c m t)
  unfolding pair_taken resynchronised_at paired_by
  taken_few = either Few (is_following c.last m.number) _ _ (counted_few c.count) few

  lost_few : (test : FailedTest) → Few (lost_by c test)
  unfolding lost_by isolated_by
  lost_few test = omega arith

  gone_few : (f : ℕ) → Few (gone_on c m t f)
  unfolding gone_on kept_by in_period
  gone_few f = taken_few

  resynchronise_few : Few (resynchronise c m t)
  unfolding resynchronise
  resynchronise_few =
      either_tested Few (failing (standing_tests c.count c.resynchronised t)) _ _
      (either Few (is_above c.last m.number) _ _ (either_tested Few (failing (resynchronise_tests c m t)) _ _ (gone_few (mean_of c.pairs)) lost_few) few)
      lost_few

-- ---- the number of a message, for clocks alike
module _ (l k : Last) (n : ℕ) (same : l.received ≡ k.received) (known : (l.received ≡ 0 → ⊥) → l ≡ k) where
  above_by : (b : Bool) → eqb l.received 0 ≡ b → is_above l n ≡ is_above k n
  unfolding is_above pick
  above_by true e = rw (← same, e)
  above_by false e = ap (λ (x : Last). is_above x n) (known (eqb-false l.received 0 e))

  following_by : (b : Bool) → eqb l.received 0 ≡ b → is_following l n ≡ is_following k n
  unfolding is_following pick
  following_by true e = rw (← same, e)
  following_by false e = ap (λ (x : Last). is_following x n) (known (eqb-false l.received 0 e))

clash : false ≡ true → ⊥
unfolding pick
clash h = let z : ◌≡◌ {A = ℕ} 0 1 = ap (λ (b : Bool). pick b 1 0) h in omega arith

following_received : (l : Last) (n : ℕ) → is_following l n ≡ true → l.received ≡ 0 → ⊥
unfolding is_following pick
following_received l n f e = clash (rw e at f)

-- ---- a message to clocks alike
module _ (c d : Clock) (m : Message) (t : LocalTime) (a : Alike c d) (lm : m.reference.0 < 2 ^ 32) (lt : t.0 < 2 ^ 32) where
  same_above : is_above c.last m.number ≡ is_above d.last m.number
  same_above = above_by c.last d.last m.number a.received a.last (eqb c.last.received 0) refl

  same_following : is_following c.last m.number ≡ is_following d.last m.number
  same_following = following_by c.last d.last m.number a.received a.last (eqb c.last.received 0) refl

  -- unsynchronised
  module _ (e : c.state ≡ 1) where
    other : c.state ≡ 2 → ⊥
    other f = omega arith

    kept_both : Both (saying Kept (kept_by c m t)) (saying Kept (kept_by d m t))
    unfolding kept_by
    kept_both = (
      refl,
      record {
        ranged_c = kept_fits c m t a.ranged_c lm lt c a.ranged_c;
        ranged_d = kept_fits d m t a.ranged_d lm lt d a.ranged_d;
        few = a.few;
        count = a.count;
        state = a.state;
        pairs = a.pairs;
        received = refl;
        last = λ h. refl;
        rest = λ h. absurd (other h);
      },
    )

    anew_both : (test : FailedTest) → Both (anew_by c m t test) (anew_by d m t test)
    unfolding anew_by kept_by begun_anew
    anew_both test = (
      refl,
      record {
        ranged_c = anew_fits c m t a.ranged_c lm lt test;
        ranged_d = anew_fits d m t a.ranged_d lm lt test;
        few = omega arith;
        count = refl;
        state = a.state;
        pairs = refl;
        received = refl;
        last = λ h. refl;
        rest = λ h. absurd (other h);
      },
    )

    forgotten_both : Both (saying (Failed NotAbove) (forgotten c)) (saying (Failed NotAbove) (forgotten d))
    unfolding forgotten
    forgotten_both = (
      refl,
      record {
        ranged_c = forgotten_fits c m t a.ranged_c lm lt;
        ranged_d = forgotten_fits d m t a.ranged_d lm lt;
        few = omega arith;
        count = refl;
        state = a.state;
        pairs = refl;
        received = refl;
        last = λ h. absurd (h refl);
        rest = λ h. absurd (other h);
      },
    )

    -- the message makes a pair, the same for both
    module _ (follows : is_following c.last m.number ≡ true) where
      abbrev new : Pair
      new = pair_by c m

      last_same : c.last ≡ d.last
      last_same = a.last (following_received c.last m.number follows)

      pair_same : pair_by d m ≡ new
      unfolding pair_by
      pair_same = rw last_same

      newest_by : (n : ℕ) → c.count ≡ suc n → newest_of c.pairs ≡ newest_of d.pairs
      newest_by n f =
          sym (first_of n c.pairs no_pair) ∙ ap (λ (xs : List Pair). get_or xs 0 no_pair) (subst (λ (k : ℕ). take k c.pairs ≡ take k d.pairs) f a.pairs) ∙ first_of n d.pairs no_pair

      failing_by : (n : ℕ) → c.count ≡ n → first_failing c new ≡ first_failing d new
      unfolding first_failing pick
      failing_by zero f = rw (← a.count, f)
      failing_by (suc n) f = rw (← a.count, newest_by n f)

      joined_fewer : Alike (kept_by (paired_by c new) m t) (kept_by (paired_by d new) m t)
      unfolding kept_by paired_by
      joined_fewer =
          record {
            ranged_c = kept_fits c m t a.ranged_c lm lt (paired_by c new) (paired_fits c m t a.ranged_c lm lt);
            ranged_d = kept_fits d m t a.ranged_d lm lt (paired_by d new) (rw (← pair_same) (paired_fits d m t a.ranged_d lm lt));
            few = counted_few c.count;
            count = ap counted_of a.count;
            state = a.state;
            pairs = fronted_alike (counted_of c.count) c.count new c.pairs d.pairs (counted_few c.count) (counted_most c.count) a.pairs;
            received = refl;
            last = λ h. refl;
            rest = λ h. absurd (other h);
          }

      counted_same : (kept_by (paired_by d new) m t).count ≡ (kept_by (paired_by c new) m t).count
      unfolding kept_by paired_by
      counted_same = ap counted_of (sym a.count)

      enough : ltb (kept_by (paired_by c new) m t).count 16 ≡ false → 15 ≤ c.count
      unfolding kept_by paired_by
      enough f = omega (arith, ltb-false (counted_of c.count) 16 f, counted_most c.count)

      fronted_same : 15 ≤ c.count → fronted new c.pairs ≡ fronted new d.pairs
      unfolding fronted
      fronted_same l = ap (λ (r : List Pair). new ∷ r) (fewer_alike 15 c.count c.pairs d.pairs l a.pairs)

      synchronised_same : 15 ≤ c.count → synchronised_at (kept_by (paired_by c new) m t) t ≡ synchronised_at (kept_by (paired_by d new) m t) t
      unfolding synchronised_at kept_by paired_by
      synchronised_same l = rw (fronted_same l, a.count)

      synchronised_few : (synchronised_at (kept_by (paired_by c new) m t) t).count ≤ 16
      unfolding synchronised_at kept_by paired_by
      synchronised_few = counted_few c.count

      synchronised_both : 15 ≤ c.count → Both (saying NowSynchronised (synchronised_at (kept_by (paired_by c new) m t) t)) (saying NowSynchronised (synchronised_at (kept_by (paired_by d new) m t) t))
      synchronised_both l = (
        refl,
        alike_same (synchronised_at (kept_by (paired_by c new) m t) t) (synchronised_at (kept_by (paired_by d new) m t) t)
            (synchronised_fits c m t a.ranged_c lm lt (kept_by (paired_by c new) m t) (kept_fits c m t a.ranged_c lm lt (paired_by c new) (paired_fits c m t a.ranged_c lm lt)))
            synchronised_few (synchronised_same l),
      )

      joined_both : Both (joined_by c new m t) (joined_by d new m t)
      unfolding joined_by
      joined_both =
          by_same_test (ltb (kept_by (paired_by c new) m t).count 16) (ltb (kept_by (paired_by d new) m t).count 16) _ _ _ _ (ap (λ (n : ℕ). ltb n 16) (sym counted_same))
          (λ f. (refl, joined_fewer)) (λ f. synchronised_both (enough f))

      paired_both : Both (by_tests (first_failing c new) (joined_by c new m t) (anew_by c m t)) (by_tests (first_failing d (pair_by d m)) (joined_by d (pair_by d m) m t) (anew_by d m t))
      paired_both = rw (pair_same, ← failing_by c.count refl) (by_tested (first_failing c new) _ _ _ _ joined_both anew_both)

    synchronise_both : Both (synchronise c m t) (synchronise d m t)
    unfolding synchronise
    synchronise_both =
        rw (← same_above, ← same_following)
        (by_test (is_above c.last m.number) _ _ _ _
        (λ g. by_test (is_following c.last m.number) _ _ _ _ (λ f. paired_both f) (λ f. kept_both)) (λ g. forgotten_both))

  -- synchronised: one clock
  resynchronise_both : c.state ≡ 2 → Both (resynchronise c m t) (resynchronise d m t)
  resynchronise_both e =
      subst (λ (x : Clock). Both (resynchronise c m t) (resynchronise x m t)) (a.rest e)
      (refl, alike_same (resynchronise c m t).clock (resynchronise c m t).clock (resynchronise_fits c m t a.ranged_c lm lt) (resynchronise_few c m t a.few) refl)

  heard_by_holds : (u v : Bool) → eqb c.state 1 ≡ u → eqb c.state 2 ≡ v
      → Both (pick u (synchronise c m t) (pick v (resynchronise c m t) (saying StaysIsolated c))) (pick u (synchronise d m t) (pick v (resynchronise d m t) (saying StaysIsolated d)))
  unfolding pick
  heard_by_holds true v e f = synchronise_both (eqb-true c.state 1 e)
  heard_by_holds false true e f = resynchronise_both (eqb-true c.state 2 f)
  heard_by_holds false false e f = (refl, a)

  heard_both : Both (heard_by c m t) (heard_by d m t)
  unfolding heard_by
  heard_both =
      subst (λ (s : ℕ). Both (heard_by c m t) (pick (eqb s 1) (synchronise d m t) (pick (eqb s 2) (resynchronise d m t) (saying StaysIsolated d)))) a.state
      (heard_by_holds (eqb c.state 1) (eqb c.state 2) refl refl)

-- ---- a run of messages, and whoever asks

alike_run : (c d : Clock) (xs : List (Message × LocalTime)) → Alike c d → Every InRange xs → Alike (after c xs) (after d xs)
alike_run c d [] a i = a
alike_run c d (x ∷ xs) a i =
    alike_run (heard_by c x.0 x.1).clock (heard_by d x.0 x.1).clock xs (heard_both c d x.0 x.1 a i.0.0 i.0.1).1 i.1

time_alike : (c d : Clock) (t : LocalTime) (b : Bool) → eqb c.state 2 ≡ b → Alike c d → time_at c t ≡ time_at d t
time_alike c d t true e a = ap (λ (x : Clock). time_at x t) (a.rest (eqb-true c.state 2 e))
time_alike c d t false e a =
    (not_before c t (eqb-false c.state 2 e)).1 ∙ sym (not_before d t (λ f. eqb-false c.state 2 e (a.state ∙ f))).1

ranged_run : (c : Clock) (xs : List (Message × LocalTime)) → Ranged c → Every InRange xs → Ranged (after c xs)
ranged_run c [] r i = r
ranged_run c (x ∷ xs) r i = ranged_run (heard_by c x.0 x.1).clock xs (heard_fits c x.0 x.1 r i.0.0 i.0.1) i.1

every_same : (n : ℕ) (p : Pair) → Timed p → Every Timed (replicate n p)
every_same zero p i = tt
every_same (suc n) p i = (i, every_same n p i)

every_moved : (j k : ℕ) (ps : List Pair) → Every Timed (map (moved_pair j k) ps)
every_moved j k [] = tt
every_moved j k (p ∷ ps) = ((onward_below j p.reference.0, onward_below k p.local.0), every_moved j k ps)

new_ranged : Ranged new_clock
unfolding new_clock
new_ranged =
    record {
      sixteen = refl;
      pairs = every_same 16 no_pair (omega arith, omega arith);
      last = omega arith;
      resynchronised = omega arith;
      begun = omega arith;
      factor = omega arith;
    }

moved_ranged : (j k : ℕ) (c : Clock) → Ranged c → Ranged (moved_clock j k c)
moved_ranged j k c r =
    record {
      sixteen = length-map c.pairs (moved_pair j k) ∙ r.sixteen;
      pairs = every_moved j k c.pairs;
      last = onward_below k c.last.local.0;
      resynchronised = onward_below k c.resynchronised.0;
      begun = onward_below k c.period.begun.0;
      factor = minus_small (onward j c.period.factor) k;
    }

new_few : new_clock.count ≤ 16
unfolding new_clock
new_few = omega arith

new_unheard : new_clock.last.received ≡ 0
unfolding new_clock
new_unheard = refl

new_pairs : (j k : ℕ) → take new_clock.count new_clock.pairs ≡ take new_clock.count (moved_clock j k new_clock).pairs
unfolding new_clock
new_pairs j k = refl

new_alike : (j k : ℕ) → Alike new_clock (moved_clock j k new_clock)
new_alike j k =
    record {
      ranged_c = new_ranged;
      ranged_d = moved_ranged j k new_clock new_ranged;
      few = new_few;
      count = refl;
      state = refl;
      pairs = new_pairs j k;
      received = refl;
      last = λ h. absurd (h new_unheard);
      rest = λ h. absurd (new_unsynchronised h);
    }

moved_in_range : (j k : ℕ) (xs : List (Message × LocalTime)) → Every InRange xs → Every InRange (map (moved_heard j k) xs)
moved_in_range j k [] i = tt
moved_in_range j k (x ∷ xs) i = ((onward_below j x.0.reference.0, onward_below k x.1.0), moved_in_range j k xs i.1)

pub wrap_unseen_from_power_on : WrapUnseenFromPowerOn
wrap_unseen_from_power_on j k lk xs t i = (
  alike.state ∙ ap (λ (x : Clock). x.state) moved,
  time_alike (after new_clock ys) (after (moved_clock j k new_clock) ys) (moved_local k t) (eqb (after new_clock ys).state 2) refl alike
      ∙ ap (λ (x : Clock). time_at x (moved_local k t)) moved ∙ wrap_unseen_asking j k lk (after new_clock xs) t (ranged_run new_clock xs new_ranged i),
)
  where
    ys : List (Message × LocalTime)
    ys = map (moved_heard j k) xs

    alike : Alike (after new_clock (map (moved_heard j k) xs)) (after (moved_clock j k new_clock) (map (moved_heard j k) xs))
    alike = alike_run new_clock (moved_clock j k new_clock) (map (moved_heard j k) xs) (new_alike j k) (moved_in_range j k xs i)

    moved : after (moved_clock j k new_clock) (map (moved_heard j k) xs) ≡ moved_clock j k (after new_clock xs)
    moved = wrap_unseen_run j k lk new_clock xs new_ranged i
