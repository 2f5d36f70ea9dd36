-- Where the clocks wrap is not seen. Differences, distances and elapsed times are the same wherever a clock began; so are all tests; so each definition commutes with
-- moving both clocks on.
-- Assumes nothing.
use Rattle.std.proofs.Common.{◌≡◌, ℕ, zero, suc, ◌+◌, ◌-◌, ◌*◌, ◌/◌, ◌^◌, ◌<◌, Bool, true, false, eqb, ltb, List, [], ◌∷◌, ◌++◌, map, length, take, ℤ, pos, ◌+ℤ◌, sym, refl, ap, ◌∙◌, arith, length-take}
use Rattle.std.specs.Prelude.{Some, None, option_map, Ok, Err}
use Rattle.clock.specs.declared.events.FailedTest.{FailedTest}
use Rattle.clock.specs.declared.events.Event.TheVariants.{NowSynchronised, Resynchronised}
use Rattle.ground.specs.Choice.{pick}
use Rattle.clock.specs.Circle.{minus, distance_of, later_than, apart_by}
use Rattle.clock.specs.Factor.{fronted, difference_of, spread_of, floor16, around, newest_of, mean_of}
use Rattle.clock.specs.Facts.{Every, Timed, after, onward, later_reference, ConstantAdded, Ranged, moved_pair, moved_factor, moved_local, moved_period, moved_clock, moved_message, moved_step, WrapUnseen, moved_heard, WrapUnseenRun, moved_asked, WrapUnseenAsking}
use Rattle.clock.specs.Tests.{is_above, is_following, elapsed, Tested, failing, by_tests, standing_tests, later_tests, pair_tests, period_tests, period_over}
use Rattle.clock.specs.Clocks.{kept_by, begun_anew, forgotten, isolated_by, counted_of, paired_by, synchronised_at, resynchronised_at, next_period, counting_period, period_after, in_period}
use Rattle.clock.specs.Updates.{saying, pair_by, first_failing, joined_by, anew_by, lost_by, tests_of_pair, tests_of_period, resynchronise_tests, pair_taken, gone_on, synchronise, resynchronise, heard_by}
use Rattle.clock.specs.Asking.{counts_at, factor_at, adjusted_by, time_at}
use Rattle.clock.specs.declared.LocalTime.{LocalTime}
use Rattle.clock.specs.declared.Message.{Message}
use Rattle.clock.specs.declared.Period.{Period}
use Rattle.clock.specs.declared.Clock.{Clock}
use Rattle.clock.specs.declared.Step.{Step}
use Rattle.clock.specs.declared.Pair.{Pair}
use Rattle.clock.proofs.Circling.{minus_small}
use Rattle.clock.proofs.Averages.{around_add, around_small}
use Rattle.clock.proofs.Cases.{asked_or_none, failing_join}
use Rattle.clock.proofs.Losing.{either, either_tested}

-- ---- on the circle

-- what a remainder leaves out is a multiple of 2^32
minus_law : (a b : ℕ) → b < 2 ^ 32 → minus a b + b + (a + (2 ^ 32 - b)) / 2 ^ 32 * 2 ^ 32 ≡ a + 2 ^ 32
unfolding minus
minus_law a b l = omega arith

onward_law : (k a : ℕ) → onward k a + (a + k) / 2 ^ 32 * 2 ^ 32 ≡ a + k
onward_law k a = omega arith

pub onward_below : (k a : ℕ) → onward k a < 2 ^ 32
onward_below k a = omega arith

-- two numbers below 2^32 that differ by multiples of it are one
same_differences : (x y a b k oa ob p q r s : ℕ) → x < 2 ^ 32 → y < 2 ^ 32 → x + ob + p * 2 ^ 32 ≡ oa + 2 ^ 32 → oa + q * 2 ^ 32 ≡ a + k → ob + r * 2 ^ 32 ≡ b + k
    → y + b + s * 2 ^ 32 ≡ a + 2 ^ 32 → x ≡ y
same_differences x y a b k oa ob p q r s lx ly e f g h = omega arith

same_minus : (k a b : ℕ) → b < 2 ^ 32 → minus (onward k a) (onward k b) ≡ minus a b
same_minus k a b lb =
    same_differences _ _ a b k (onward k a) (onward k b) _ _ _ _ (minus_small (onward k a) (onward k b)) (minus_small a b)
    (minus_law (onward k a) (onward k b) (onward_below k b)) (onward_law k a) (onward_law k b) (minus_law a b lb)

-- r and l moved on by j and k, and their difference moved on by j and back by k
moved_differences : (x y z j k r l or ol oy p q s t u v : ℕ) → x < 2 ^ 32 → z < 2 ^ 32 → x + ol + p * 2 ^ 32 ≡ or + 2 ^ 32 → or + q * 2 ^ 32 ≡ r + j → ol + s * 2 ^ 32 ≡ l + k
    → y + l + t * 2 ^ 32 ≡ r + 2 ^ 32 → oy + u * 2 ^ 32 ≡ y + j → z + k + v * 2 ^ 32 ≡ oy + 2 ^ 32 → x ≡ z
moved_differences x y z j k r l or ol oy p q s t u v lx lz a b c d e f = omega arith

difference_moved : (j k r l : ℕ) → k < 2 ^ 32 → l < 2 ^ 32 → minus (onward j r) (onward k l) ≡ moved_factor j k (minus r l)
difference_moved j k r l lk ll =
    moved_differences _ (minus r l) _ j k r l (onward j r) (onward k l) (onward j (minus r l)) _ _ _ _ _ _ (minus_small (onward j r) (onward k l)) (minus_small (onward j (minus r l)) k)
    (minus_law (onward j r) (onward k l) (onward_below k l)) (onward_law j r) (onward_law k l) (minus_law r l ll) (onward_law j (minus r l)) (minus_law (onward j (minus r l)) k lk)

-- two numbers moved alike
moved_alike : (x y a b j k oa ob ma mb p q r s t u : ℕ) → x < 2 ^ 32 → y < 2 ^ 32 → oa + p * 2 ^ 32 ≡ a + j → ma + k + q * 2 ^ 32 ≡ oa + 2 ^ 32 → ob + r * 2 ^ 32 ≡ b + j
    → mb + k + s * 2 ^ 32 ≡ ob + 2 ^ 32 → x + mb + t * 2 ^ 32 ≡ ma + 2 ^ 32 → y + b + u * 2 ^ 32 ≡ a + 2 ^ 32 → x ≡ y
moved_alike x y a b j k oa ob ma mb p q r s t u lx ly c d e f g h = omega arith

factor_minus : (j k a b : ℕ) → k < 2 ^ 32 → b < 2 ^ 32 → minus (moved_factor j k a) (moved_factor j k b) ≡ minus a b
factor_minus j k a b lk lb =
    moved_alike _ _ a b j k (onward j a) (onward j b) (moved_factor j k a) (moved_factor j k b) _ _ _ _ _ _ (minus_small (moved_factor j k a) (moved_factor j k b)) (minus_small a b)
    (onward_law j a) (minus_law (onward j a) k lk) (onward_law j b) (minus_law (onward j b) k lk)
    (minus_law (moved_factor j k a) (moved_factor j k b) (minus_small (onward j b) k)) (minus_law a b lb)

-- moved, and then on by w; and the other way round
moved_onward : (x y b w j k ob mb bw oz p q r s t u : ℕ) → x < 2 ^ 32 → y < 2 ^ 32 → ob + p * 2 ^ 32 ≡ b + j → mb + k + q * 2 ^ 32 ≡ ob + 2 ^ 32 → x + r * 2 ^ 32 ≡ mb + w
    → bw + s * 2 ^ 32 ≡ b + w → oz + t * 2 ^ 32 ≡ bw + j → y + k + u * 2 ^ 32 ≡ oz + 2 ^ 32 → x ≡ y
moved_onward x y b w j k ob mb bw oz p q r s t u lx ly a c d e f g = omega arith

factor_add : (j k b w : ℕ) → k < 2 ^ 32 → onward w (moved_factor j k b) ≡ moved_factor j k (onward w b)
factor_add j k b w lk =
    moved_onward _ _ b w j k (onward j b) (moved_factor j k b) (onward w b) (onward j (onward w b)) _ _ _ _ _ _ (onward_below w (moved_factor j k b)) (minus_small (onward j (onward w b)) k)
    (onward_law j b) (minus_law (onward j b) k lk) (onward_law w (moved_factor j k b)) (onward_law w b) (onward_law j (onward w b)) (minus_law (onward j (onward w b)) k lk)

module _ (j k : ℕ) (lk : k < 2 ^ 32) where
  distance_factor : (a b : ℕ) → b < 2 ^ 32 → distance_of (moved_factor j k a) (moved_factor j k b) ≡ distance_of a b
  unfolding distance_of
  distance_factor a b lb = rw (factor_minus j k a b lk lb)

  -- ---- the mean
  difference_of_holds : (p : Pair) → Timed p → difference_of (moved_pair j k p) ≡ moved_factor j k (difference_of p)
  unfolding difference_of
  difference_of_holds p i = difference_moved j k p.reference.0 p.local.0 lk i.1

  difference_below : (p : Pair) → difference_of p < 2 ^ 32
  unfolding difference_of
  difference_below p = minus_small p.reference.0 p.local.0

  spread_moved : (base : ℕ) (ps : List Pair) → base < 2 ^ 32 → Every Timed ps → spread_of (moved_factor j k base) (map (moved_pair j k) ps) ≡ spread_of base ps
  unfolding spread_of
  spread_moved base [] l i = refl
  spread_moved base (p ∷ ps) l i = rw (difference_of_holds p i.0, distance_factor (difference_of p) base l, spread_moved base ps l i.1)

  around_moved : (b : ℕ) (z : ℤ) → around (pos (moved_factor j k b) +ℤ z) ≡ moved_factor j k (around (pos b +ℤ z))
  around_moved b z =
      sym (around_add (moved_factor j k b) z) ∙ factor_add j k b (around z) lk ∙ ap (moved_factor j k) (around_add b z)

  newest_moved : (ps : List Pair) → length ps ≡ 16 → newest_of (map (moved_pair j k) ps) ≡ moved_pair j k (newest_of ps)
  newest_moved [] long = absurd (omega arith)
  newest_moved (p ∷ ps) long = refl

  newest_timed : (ps : List Pair) → length ps ≡ 16 → Every Timed ps → Timed (newest_of ps)
  newest_timed [] long i = absurd (omega arith)
  newest_timed (p ∷ ps) long i = i.0

  mean_moved : (ps : List Pair) → length ps ≡ 16 → Every Timed ps → mean_of (map (moved_pair j k) ps) ≡ moved_factor j k (mean_of ps)
  unfolding mean_of
  mean_moved ps long i =
      rw (newest_moved ps long, difference_of_holds (newest_of ps) (newest_timed ps long i), spread_moved (difference_of (newest_of ps)) ps (difference_below (newest_of ps)) i)
      (around_moved (difference_of (newest_of ps)) (floor16 (spread_of (difference_of (newest_of ps)) ps)))

-- ---- reference times alone

back_none : (j f : ℕ) → moved_factor j 0 f ≡ onward j f
unfolding minus
back_none j f = omega arith

stands_still : (l : LocalTime) → l.0 < 2 ^ 32 → moved_local 0 l ≡ l
stands_still l i = let e : onward 0 l.0 ≡ l.0 = omega arith in ap (λ (n : ℕ). record { 0 = n }) e

pair_alike : (j : ℕ) (p : Pair) → Timed p → later_reference j p ≡ moved_pair j 0 p
pair_alike j p i = ap (λ (l : LocalTime). record { reference = record { 0 = onward j p.reference.0 }; local = l }) (sym (stands_still p.local i.1))

map_alike : (j : ℕ) (ps : List Pair) → Every Timed ps → map (later_reference j) ps ≡ map (moved_pair j 0) ps
map_alike j [] i = refl
map_alike j (p ∷ ps) i = rw (pair_alike j p i.0, map_alike j ps i.1)

pub constant_added : ConstantAdded
constant_added ps j long i = rw (map_alike j ps i) (mean_moved j 0 (omega arith) ps long i ∙ back_none j (mean_of ps))

-- ---- lists

map_take : {A B : Type 0} (f : A → B) (n : ℕ) (xs : List A) → take n (map f xs) ≡ map f (take n xs)
map_take f zero xs = refl
map_take f (suc n) [] = refl
map_take f (suc n) (x ∷ xs) = ap (λ (r : List _). f x ∷ r) (map_take f n xs)

every_take : {A : Type 0} (P : A → Type 0) (n : ℕ) (xs : List A) → Every P xs → Every P (take n xs)
every_take P zero xs i = tt
every_take P (suc n) [] i = tt
every_take P (suc n) (x ∷ xs) i = (i.0, every_take P n xs i.1)

-- a choice between two things that moved
under : {A B : Type 0} (f : A → B) (b : Bool) (x y : A) (x' y' : B) → x' ≡ f x → y' ≡ f y → pick b x' y' ≡ f (pick b x y)
unfolding pick
under f true x y x' y' p q = p
under f false x y x' y' p q = q

-- and what follows tests
under_tested : {A B : Type 0} (f : A → B) (r : Tested) (x : A) (g : FailedTest → A) (x' : B) (g' : FailedTest → B) → x' ≡ f x → ((test : FailedTest) → g' test ≡ f (g test))
    → by_tests r x' g' ≡ f (by_tests r x g)
unfolding by_tests
under_tested f (Ok all) x g x' g' p q = p
under_tested f (Err test) x g x' g' p q = q test

twice_onward : (k b : ℕ) → onward 30000 (onward k b) ≡ onward k (onward 30000 b)
twice_onward k b = omega arith

-- ---- the tests, and what a message leaves
module _ (j k : ℕ) (lk : k < 2 ^ 32) where
  same_elapsed : (a b : LocalTime) → a.0 < 2 ^ 32 → elapsed (moved_local k a) (moved_local k b) ≡ elapsed a b
  unfolding elapsed
  same_elapsed a b l = same_minus k b.0 a.0 l

  same_later : (i a b : ℕ) → b < 2 ^ 32 → later_than (onward i a) (onward i b) ≡ later_than a b
  unfolding later_than distance_of
  same_later i a b l = rw (same_minus i a b l)

  same_apart : (a b : ℕ) → b < 2 ^ 32 → apart_by (moved_factor j k a) (moved_factor j k b) ≡ apart_by a b
  unfolding apart_by
  same_apart a b l = rw (distance_factor j k lk a b l)

  later_moved : (p q : Pair) → Timed q → failing (later_tests (moved_pair j k p) (moved_pair j k q)) ≡ failing (later_tests p q)
  later_moved p q i = rw (same_later j p.reference.0 q.reference.0 i.0, same_later k p.local.0 q.local.0 i.1)

  pair_tests_moved : (p q : Pair) (f : ℕ) → Timed p → Timed q → f < 2 ^ 32
      → failing (pair_tests (moved_pair j k p) (moved_pair j k q) (moved_factor j k f)) ≡ failing (pair_tests p q f)
  pair_tests_moved p q f i l b =
      rw (same_later j p.reference.0 q.reference.0 l.0, same_later k p.local.0 q.local.0 l.1, difference_of_holds j k lk p i, same_apart (difference_of p) f b)

  period_tests_moved : (p : Period) (f : ℕ) → p.factor < 2 ^ 32 → failing (period_tests (moved_period j k p) (moved_factor j k f)) ≡ failing (period_tests p f)
  period_tests_moved p f l = rw (same_apart f p.factor l)

  over_moved : (p : Period) (t : LocalTime) → p.begun.0 < 2 ^ 32 → period_over (moved_period j k p) (moved_local k t) ≡ period_over p t
  unfolding period_over
  over_moved p t l = rw (same_elapsed p.begun t l)

  standing_moved : (n : ℕ) (a t : LocalTime) → a.0 < 2 ^ 32 → failing (standing_tests n (moved_local k a) (moved_local k t)) ≡ failing (standing_tests n a t)
  standing_moved n a t l = rw (same_elapsed a t l)

  abbrev on : Clock → Clock
  on c = moved_clock j k c

  abbrev onStep : Step → Step
  onStep s = moved_step j k s

  kept_moved : (c : Clock) (m : Message) (t : LocalTime) → kept_by (on c) (moved_message j m) (moved_local k t) ≡ on (kept_by c m t)
  unfolding kept_by
  kept_moved c m t = refl

  anew_moved : (c : Clock) (m : Message) (t : LocalTime) (test : FailedTest) → anew_by (on c) (moved_message j m) (moved_local k t) test ≡ onStep (anew_by c m t test)
  unfolding anew_by kept_by begun_anew
  anew_moved c m t test = refl

  forgotten_moved : (c : Clock) → forgotten (on c) ≡ on (forgotten c)
  unfolding forgotten
  forgotten_moved c = refl

  lost_moved : (c : Clock) (test : FailedTest) → lost_by (on c) test ≡ onStep (lost_by c test)
  unfolding lost_by isolated_by
  lost_moved c test = refl

  pair_by_moved : (c : Clock) (m : Message) → pair_by (on c) (moved_message j m) ≡ moved_pair j k (pair_by c m)
  unfolding pair_by
  pair_by_moved c m = refl

  paired_moved : (c : Clock) (p : Pair) → paired_by (on c) (moved_pair j k p) ≡ on (paired_by c p)
  unfolding paired_by fronted
  paired_moved c p = ap (λ (ps : List Pair). record { pairs = ps; count = counted_of c.count; state = c.state; last = (on c).last; resynchronised = (on c).resynchronised; period = (on c).period }) (map_take (moved_pair j k) 16 (p ∷ c.pairs))

  period_moved : (p : Period) (over : Bool) (f : ℕ) → period_after (moved_period j k p) over (moved_factor j k f) ≡ moved_period j k (period_after p over f)
  unfolding period_after next_period counting_period
  period_moved p over f =
      under (moved_period j k) over _ _ _ _ (ap (λ (n : ℕ). record { begun = record { 0 = n }; factor = moved_factor j k f; messages = 1 }) (twice_onward k p.begun.0)) refl

  in_period_moved : (c : Clock) (over : Bool) (f : ℕ) → in_period (on c) over (moved_factor j k f) ≡ on (in_period c over f)
  unfolding in_period
  in_period_moved c over f = ap (λ (p : Period). record { pairs = (on c).pairs; count = c.count; state = c.state; last = (on c).last; resynchronised = (on c).resynchronised; period = p }) (period_moved c.period over f)

  resynchronised_moved : (c : Clock) (t : LocalTime) → resynchronised_at (on c) (moved_local k t) ≡ on (resynchronised_at c t)
  unfolding resynchronised_at
  resynchronised_moved c t = refl

  synchronised_moved : (c : Clock) (t : LocalTime) → length c.pairs ≡ 16 → Every Timed c.pairs → synchronised_at (on c) (moved_local k t) ≡ on (synchronised_at c t)
  unfolding synchronised_at
  synchronised_moved c t long i =
      ap (λ (f : ℕ). record { pairs = (on c).pairs; count = c.count; state = 2; last = (on c).last; resynchronised = moved_local k t; period = record { begun = moved_local k t; factor = f; messages = 1 } }) (mean_moved j k lk c.pairs long i)

-- ---- a message to a clock in range
module _ (j k : ℕ) (lk : k < 2 ^ 32) (c : Clock) (m : Message) (t : LocalTime) (i : Ranged c) (lm : m.reference.0 < 2 ^ 32) where
  abbrev c' : Clock
  c' = moved_clock j k c

  abbrev m' : Message
  m' = moved_message j m

  abbrev t' : LocalTime
  t' = moved_local k t

  abbrev new : Pair
  new = pair_by c m

  abbrev factor : ℕ
  factor = mean_of c.pairs

  abbrev moving : Step → Step
  moving s = moved_step j k s

  mean_is : mean_of c'.pairs ≡ moved_factor j k factor
  mean_is = mean_moved j k lk c.pairs i.sixteen i.pairs

  mean_below : factor < 2 ^ 32
  unfolding mean_of
  mean_below = around_small (pos (difference_of (newest_of c.pairs)) +ℤ floor16 (spread_of (difference_of (newest_of c.pairs)) c.pairs))

  newest_is : newest_of c'.pairs ≡ moved_pair j k (newest_of c.pairs)
  newest_is = newest_moved j k lk c.pairs i.sixteen

  newest_in : Timed (newest_of c.pairs)
  newest_in = newest_timed j k lk c.pairs i.sixteen i.pairs

  new_in : Timed new
  unfolding pair_by
  new_in = (lm, i.last)

  -- the sixteen pairs with the new one
  fronted_long : length (fronted new c.pairs) ≡ 16
  unfolding fronted
  fronted_long = let e = i.sixteen in simp length-take (omega arith)

  fronted_in : Every Timed (fronted new c.pairs)
  unfolding fronted
  fronted_in = every_take Timed 16 (new ∷ c.pairs) (new_in, i.pairs)

  first_is : first_failing c' (moved_pair j k new) ≡ first_failing c new
  unfolding first_failing
  first_is = rw (newest_is, later_moved j k lk new (newest_of c.pairs) newest_in)

  kept_long : length (kept_by (paired_by c new) m t).pairs ≡ 16
  unfolding kept_by paired_by
  kept_long = fronted_long

  kept_in : Every Timed (kept_by (paired_by c new) m t).pairs
  unfolding kept_by paired_by
  kept_in = fronted_in

  joined_is : joined_by c' (moved_pair j k new) m' t' ≡ moving (joined_by c new m t)
  unfolding joined_by
  joined_is =
      rw (paired_moved j k lk c new, kept_moved j k lk (paired_by c new) m t)
      (under moving (ltb (kept_by (paired_by c new) m t).count 16) _ _ _ _ refl
      (ap (saying NowSynchronised) (synchronised_moved j k lk (kept_by (paired_by c new) m t) t kept_long kept_in)))

  above_is : is_above c'.last m.number ≡ is_above c.last m.number
  unfolding is_above
  above_is = refl

  following_is : is_following c'.last m.number ≡ is_following c.last m.number
  unfolding is_following
  following_is = refl

  synchronise_is : synchronise c' m' t' ≡ moving (synchronise c m t)
  unfolding synchronise
  synchronise_is =
      rw (above_is, following_is, pair_by_moved j k lk c m, first_is, forgotten_moved j k lk c, kept_moved j k lk c m t)
      (under moving (is_above c.last m.number) _ _ _ _
      (under moving (is_following c.last m.number) _ _ _ _
      (under_tested moving (first_failing c new) _ _ _ _ joined_is (anew_moved j k lk c m t)) refl) refl)

  pair_tests_is : failing (tests_of_pair c' m' (moved_factor j k factor)) ≡ failing (tests_of_pair c m factor)
  pair_tests_is =
      sym (asked_or_none (is_following c'.last m.number) (pair_tests (pair_by c' m') (newest_of c'.pairs) (moved_factor j k factor)))
      ∙ rw (following_is, pair_by_moved j k lk c m, newest_is, pair_tests_moved j k lk new (newest_of c.pairs) factor new_in newest_in mean_below)
      (asked_or_none (is_following c.last m.number) (pair_tests new (newest_of c.pairs) factor))

  period_tests_is : failing (tests_of_period c' t' (moved_factor j k factor)) ≡ failing (tests_of_period c t factor)
  period_tests_is =
      sym (asked_or_none (period_over c'.period t') (period_tests c'.period (moved_factor j k factor)))
      ∙ rw (over_moved j k lk c.period t i.begun, period_tests_moved j k lk c.period factor i.factor)
      (asked_or_none (period_over c.period t) (period_tests c.period factor))

  failing_is : failing (tests_of_pair c' m' (moved_factor j k factor) ++ tests_of_period c' t' (moved_factor j k factor)) ≡ failing (resynchronise_tests c m t)
  failing_is =
      failing_join (tests_of_pair c' m' (moved_factor j k factor)) (tests_of_period c' t' (moved_factor j k factor))
      ∙ rw (pair_tests_is, period_tests_is)
      (sym (failing_join (tests_of_pair c m factor) (tests_of_period c t factor)))

  resynchronised_is : resynchronised_at (paired_by c' (moved_pair j k new)) t' ≡ moved_clock j k (resynchronised_at (paired_by c new) t)
  resynchronised_is = rw (paired_moved j k lk c new) again
    where
      again : resynchronised_at (moved_clock j k (paired_by c new)) t' ≡ moved_clock j k (resynchronised_at (paired_by c new) t)
      again = resynchronised_moved j k lk (paired_by c new) t

  taken_is : pair_taken c' m' t' ≡ moving (pair_taken c m t)
  unfolding pair_taken
  taken_is =
      rw (following_is, pair_by_moved j k lk c m)
      (under moving (is_following c.last m.number) _ _ _ _ (ap (saying Resynchronised) resynchronised_is) refl)

  gone_on_is : gone_on c' m' t' (moved_factor j k factor) ≡ moving (gone_on c m t factor)
  unfolding gone_on
  gone_on_is =
      rw (taken_is, over_moved j k lk c.period t i.begun, in_period_moved j k lk (pair_taken c m t).clock (period_over c.period t) factor)
      (ap (saying (pair_taken c m t).event) (kept_moved j k lk (in_period (pair_taken c m t).clock (period_over c.period t) factor) m t))

  resynchronise_is : resynchronise c' m' t' ≡ moving (resynchronise c m t)
  unfolding resynchronise
  resynchronise_is =
      rw (standing_moved j k lk c.count c.resynchronised t i.resynchronised, above_is, mean_is, failing_is)
      (under_tested moving (failing (standing_tests c.count c.resynchronised t)) _ _ _ _
      (under moving (is_above c.last m.number) _ _ _ _
      (under_tested moving (failing (resynchronise_tests c m t)) _ _ _ _ gone_on_is (lost_moved j k lk c)) refl)
      (lost_moved j k lk c))

  heard_is : heard_by c' m' t' ≡ moving (heard_by c m t)
  unfolding heard_by
  heard_is = under moving (eqb c.state 1) _ _ _ _ synchronise_is (under moving (eqb c.state 2) _ _ _ _ resynchronise_is refl)

pub wrap_unseen : WrapUnseen
wrap_unseen j k lk c m t i lm = heard_is j k lk c m t i lm

-- ---- a run of messages: what a message leaves is in range again
module _ (c : Clock) (m : Message) (t : LocalTime) (i : Ranged c) (lm : m.reference.0 < 2 ^ 32) (lt : t.0 < 2 ^ 32) where
  abbrev Fits : Step → Type 0
  Fits s = Ranged s.clock

  pub kept_fits : (d : Clock) → Ranged d → Ranged (kept_by d m t)
  unfolding kept_by
  kept_fits d r = record { sixteen = r.sixteen; pairs = r.pairs; last = lt; resynchronised = r.resynchronised; begun = r.begun; factor = r.factor }

  pub forgotten_fits : Ranged (forgotten c)
  unfolding forgotten
  forgotten_fits = record { sixteen = i.sixteen; pairs = i.pairs; last = i.last; resynchronised = i.resynchronised; begun = i.begun; factor = i.factor }

  pub anew_fits : (test : FailedTest) → Fits (anew_by c m t test)
  unfolding anew_by kept_by begun_anew
  anew_fits test = record { sixteen = i.sixteen; pairs = i.pairs; last = lt; resynchronised = i.resynchronised; begun = i.begun; factor = i.factor }

  lost_fits : (test : FailedTest) → Fits (lost_by c test)
  unfolding lost_by isolated_by
  lost_fits test = record { sixteen = i.sixteen; pairs = i.pairs; last = i.last; resynchronised = i.resynchronised; begun = i.begun; factor = i.factor }

  pub paired_fits : Ranged (paired_by c (pair_by c m))
  unfolding paired_by
  paired_fits =
      record {
        sixteen = fronted_long 0 0 (omega arith) c m t i lm;
        pairs = fronted_in 0 0 (omega arith) c m t i lm;
        last = i.last;
        resynchronised = i.resynchronised;
        begun = i.begun;
        factor = i.factor;
      }

  pub synchronised_fits : (d : Clock) → Ranged d → Ranged (synchronised_at d t)
  unfolding synchronised_at
  synchronised_fits d r = record { sixteen = r.sixteen; pairs = r.pairs; last = r.last; resynchronised = lt; begun = lt; factor = mean_below 0 0 (omega arith) d m t r lm }

  resynchronised_fits : (d : Clock) → Ranged d → Ranged (resynchronised_at d t)
  unfolding resynchronised_at
  resynchronised_fits d r = record { sixteen = r.sixteen; pairs = r.pairs; last = r.last; resynchronised = lt; begun = r.begun; factor = r.factor }

  in_period_fits : (d : Clock) (over : Bool) (f : ℕ) → Ranged d → f < 2 ^ 32 → Ranged (in_period d over f)
  unfolding in_period period_after next_period counting_period
  in_period_fits d over f r l =
      record {
        sixteen = r.sixteen;
        pairs = r.pairs;
        last = r.last;
        resynchronised = r.resynchronised;
        begun = either (λ (p : Period). p.begun.0 < 2 ^ 32) over _ _ (onward_below 30000 d.period.begun.0) r.begun;
        factor = either (λ (p : Period). p.factor < 2 ^ 32) over _ _ l r.factor;
      }

  pub joined_fits : Fits (joined_by c (pair_by c m) m t)
  unfolding joined_by
  joined_fits =
      either Fits (ltb (kept_by (paired_by c (pair_by c m)) m t).count 16) _ _ (kept_fits (paired_by c (pair_by c m)) paired_fits)
      (synchronised_fits (kept_by (paired_by c (pair_by c m)) m t) (kept_fits (paired_by c (pair_by c m)) paired_fits))

  synchronise_fits : Fits (synchronise c m t)
  unfolding synchronise
  synchronise_fits =
      either Fits (is_above c.last m.number) _ _
      (either Fits (is_following c.last m.number) _ _
      (either_tested Fits (first_failing c (pair_by c m)) _ _ joined_fits anew_fits) (kept_fits c i)) forgotten_fits

  taken_fits : Fits (pair_taken c m t)
  unfolding pair_taken
  taken_fits = either Fits (is_following c.last m.number) _ _ (resynchronised_fits (paired_by c (pair_by c m)) paired_fits) i

  gone_on_fits : Fits (gone_on c m t (mean_of c.pairs))
  unfolding gone_on
  gone_on_fits = kept_fits _ (in_period_fits (pair_taken c m t).clock (period_over c.period t) (mean_of c.pairs) taken_fits (mean_below 0 0 (omega arith) c m t i lm))

  pub resynchronise_fits : Fits (resynchronise c m t)
  unfolding resynchronise
  resynchronise_fits =
      either_tested Fits (failing (standing_tests c.count c.resynchronised t)) _ _
      (either Fits (is_above c.last m.number) _ _ (either_tested Fits (failing (resynchronise_tests c m t)) _ _ gone_on_fits lost_fits) i)
      lost_fits

  pub heard_fits : Fits (heard_by c m t)
  unfolding heard_by
  heard_fits = either Fits (eqb c.state 1) _ _ synchronise_fits (either Fits (eqb c.state 2) _ _ resynchronise_fits i)

pub wrap_unseen_run : WrapUnseenRun
wrap_unseen_run j k lk c [] i r = refl
wrap_unseen_run j k lk c (x ∷ xs) i r =
    ap (λ (s : Step). after s.clock (map (moved_heard j k) xs)) (wrap_unseen j k lk c x.0 x.1 i r.0.0)
    ∙ (wrap_unseen_run j k lk (heard_by c x.0 x.1).clock xs (heard_fits c x.0 x.1 i r.0.0 r.0.1) r.1)

-- ---- whoever asks

module _ (j k : ℕ) (lk : k < 2 ^ 32) (c : Clock) (t : LocalTime) (i : Ranged c) where
  counts_is : counts_at (moved_clock j k c) (moved_local k t) ≡ counts_at c t
  unfolding counts_at apart_by distance_of
  counts_is = rw (same_minus k t.0 c.resynchronised.0 i.resynchronised)

adjusted_law : (x y t f j k ot of mf tf p q r s u v : ℕ) → x < 2 ^ 32 → y < 2 ^ 32 → ot + p * 2 ^ 32 ≡ t + k → of + q * 2 ^ 32 ≡ f + j → mf + k + r * 2 ^ 32 ≡ of + 2 ^ 32
    → x + s * 2 ^ 32 ≡ ot + mf → tf + u * 2 ^ 32 ≡ t + f → y + v * 2 ^ 32 ≡ tf + j → x ≡ y
adjusted_law x y t f j k ot of mf tf p q r s u v lx ly a b c d e g = omega arith

adjusted_moved : (j k t f : ℕ) → k < 2 ^ 32 → onward (moved_factor j k f) (onward k t) ≡ onward j (onward f t)
adjusted_moved j k t f lk =
    adjusted_law _ _ t f j k (onward k t) (onward j f) (moved_factor j k f) (onward f t) _ _ _ _ _ _ (onward_below (moved_factor j k f) (onward k t)) (onward_below j (onward f t))
    (onward_law k t) (onward_law j f) (minus_law (onward j f) k lk) (onward_law (moved_factor j k f) (onward k t)) (onward_law f t) (onward_law j (onward f t))

time_moved : (j k : ℕ) (t : LocalTime) (b : Bool) (f f' : ℕ) → k < 2 ^ 32 → f' ≡ moved_factor j k f
    → option_map (adjusted_by (moved_local k t)) (pick b (Some f') None) ≡ moved_asked j (option_map (adjusted_by t) (pick b (Some f) None))
unfolding pick adjusted_by
time_moved j k t true f f' lk e = rw e (ap (λ (n : ℕ). Some (record { 0 = n })) (adjusted_moved j k t.0 f lk))
time_moved j k t false f f' lk e = refl

pub wrap_unseen_asking : WrapUnseenAsking
unfolding time_at factor_at
wrap_unseen_asking j k lk c t i =
    rw (counts_is j k lk c t i) (time_moved j k t (counts_at c t) (mean_of c.pairs) (mean_of (moved_clock j k c).pairs) lk (mean_moved j k lk c.pairs i.sixteen i.pairs))
