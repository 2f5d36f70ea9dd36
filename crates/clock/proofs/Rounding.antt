-- The mean lies where it should. Whole numbers are lifted by a height h into the numbers from 0 on, where sums and bounds are plain arithmetic; h is chosen above
-- all sizes that occur.
-- Assumes nothing.
use Rattle.std.proofs.Common.{◌≡◌, ℕ, zero, suc, ◌+◌, ◌-◌, ◌*◌, ◌/◌, ◌%◌, ◌^◌, ◌<◌, ◌≤◌, Bool, true, false, ltb, List, [], ◌∷◌, length, ℤ, pos, negsuc, ◌+ℤ◌, ◌-ℤ◌, neg_ℤ, ◌≤ℤ◌, sym, refl, ap, ◌∙◌, subst, arith, le→leb, leb→le, ltb-false, ltb-true}
use lib.IntN.{sub_ℕ}
use lib.Signed.{mag}
use Rattle.ground.specs.Choice.{pick}
use Rattle.clock.specs.Circle.{minus, signed_of, distance_of}
use Rattle.clock.specs.Factor.{difference_of, spread_of, floor16, around, newest_of, mean_of}
use Rattle.clock.specs.Facts.{Every, EqualDifferences, Between, Floor, DistanceBack}
use Rattle.clock.specs.declared.Pair.{Pair}
use Rattle.clock.proofs.Circling.{near_is, far_is, minus_small, far_mag, distance_small}
use Rattle.clock.proofs.Averages.{around_add, spread_small}
use Rattle.clock.proofs.Whole.{sub_below, sub_above}

-- ---- lifted numbers

abbrev lifted : ℕ → ℤ → ℕ
lifted h (pos n) = h + n
lifted h (negsuc n) = h - suc n

le_lifted : (h : ℕ) (a b : ℤ) → mag a < h → mag b < h → a ≤ℤ b → lifted h a ≤ lifted h b
le_lifted h (pos a) (pos b) x y l = omega (arith, leb→le a b l.le)
le_lifted h (pos a) (negsuc b) x y l = absurd l.le
le_lifted h (negsuc a) (pos b) x y l = omega arith
le_lifted h (negsuc a) (negsuc b) x y l = omega (arith, leb→le b a l.le)

lifted_le : (h : ℕ) (a b : ℤ) → mag a < h → mag b < h → lifted h a ≤ lifted h b → a ≤ℤ b
lifted_le h (pos a) (pos b) x y l = record { le = le→leb a b (omega arith) }
lifted_le h (pos a) (negsuc b) x y l = absurd (omega arith)
lifted_le h (negsuc a) (pos b) x y l = record { le = tt }
lifted_le h (negsuc a) (negsuc b) x y l = record { le = le→leb b a (omega arith) }

lifted_sub : (h a b : ℕ) (t : Bool) → ltb a b ≡ t → a < h → b < h → lifted h (sub_ℕ a b) + b ≡ h + a
lifted_sub h a b true e x y = let l = ltb-true a b e in rw (sub_below a b l) (omega arith)
lifted_sub h a b false e x y = let l = ltb-false a b e in rw (sub_above a b l) (omega arith)

lifted_add : (h : ℕ) (a b : ℤ) → mag a + mag b + 2 < h → lifted h (a +ℤ b) + h ≡ lifted h a + lifted h b
lifted_add h (pos a) (pos b) x = omega arith
lifted_add h (pos a) (negsuc b) x = omega (arith, lifted_sub h a (suc b) (ltb a (suc b)) refl (omega arith) (omega arith))
lifted_add h (negsuc a) (pos b) x = omega (arith, lifted_sub h b (suc a) (ltb b (suc a)) refl (omega arith) (omega arith))
lifted_add h (negsuc a) (negsuc b) x = omega arith

floor_low : (h : ℕ) (z : ℤ) → mag z < h → 16 * lifted h (floor16 z) + h ≤ lifted h z + 16 * h
unfolding floor16
floor_low h (pos n) x = omega arith
floor_low h (negsuc n) x = omega arith

floor_high : (h : ℕ) (z : ℤ) → mag z < h → lifted h z + 16 * h < 16 * lifted h (floor16 z) + h + 16
unfolding floor16
floor_high h (pos n) x = omega arith
floor_high h (negsuc n) x = omega arith

floor_size : (z : ℤ) → mag (floor16 z) ≤ mag z
unfolding floor16
floor_size (pos n) = omega arith
floor_size (negsuc n) = omega arith

-- ---- the sum between two bounds, for any number of pairs
module _ (base h : ℕ) (low high : ℤ) (low_below : mag low < h) (high-below : mag high < h) where
  abbrev Bounded : Pair → Type 0
  Bounded p = (low ≤ℤ distance_of (difference_of p) base) × (distance_of (difference_of p) base ≤ℤ high)

  sum_low : (ps : List Pair) → length ps * 2 ^ 31 + 2 ^ 31 + 2 < h → Every Bounded ps → length ps * lifted h low + h ≤ lifted h (spread_of base ps) + length ps * h
  unfolding spread_of
  sum_low [] x a = omega arith
  sum_low (p ∷ ps) x a =
      omega (
        arith,
        sum_low ps (omega arith) a.1,
        distance_small (difference_of p) base,
        spread_small base ps,
        le_lifted h low (distance_of (difference_of p) base) low_below (omega (arith, distance_small (difference_of p) base)) a.0.0,
        lifted_add h (distance_of (difference_of p) base) (spread_of base ps) (omega (arith, distance_small (difference_of p) base, spread_small base ps)),
      )

  sum_high : (ps : List Pair) → length ps * 2 ^ 31 + 2 ^ 31 + 2 < h → Every Bounded ps → lifted h (spread_of base ps) + length ps * h ≤ length ps * lifted h high + h
  unfolding spread_of
  sum_high [] x a = omega arith
  sum_high (p ∷ ps) x a =
      omega (
        arith,
        sum_high ps (omega arith) a.1,
        distance_small (difference_of p) base,
        spread_small base ps,
        le_lifted h (distance_of (difference_of p) base) high (omega (arith, distance_small (difference_of p) base)) high-below a.0.1,
        lifted_add h (distance_of (difference_of p) base) (spread_of base ps) (omega (arith, distance_small (difference_of p) base, spread_small base ps)),
      )

  floor_between : (ps : List Pair) → length ps ≡ 16 → 2 ^ 40 < h → Every Bounded ps → (low ≤ℤ floor16 (spread_of base ps)) × (floor16 (spread_of base ps) ≤ℤ high)
  floor_between ps long x a = (
    lifted_le h low (floor16 (spread_of base ps)) low_below f_below
        (omega (arith, sixteen_low, floor_high h (spread_of base ps) s_below)),
    lifted_le h (floor16 (spread_of base ps)) high f_below high-below
        (omega (arith, sixteen_high, floor_low h (spread_of base ps) s_below)),
  )
    where
      sixteen_low : 16 * lifted h low + h ≤ lifted h (spread_of base ps) + 16 * h
      sixteen_low = subst (λ (n : ℕ). n * lifted h low + h ≤ lifted h (spread_of base ps) + n * h) long (sum_low ps (rw long (omega arith)) a)

      sixteen_high : lifted h (spread_of base ps) + 16 * h ≤ 16 * lifted h high + h
      sixteen_high = subst (λ (n : ℕ). lifted h (spread_of base ps) + n * h ≤ n * lifted h high + h) long (sum_high ps (rw long (omega arith)) a)

      s_below : mag (spread_of base ps) < h
      s_below = let b = spread_small base ps in omega arith

      f_below : mag (floor16 (spread_of base ps)) < h
      f_below = omega (arith, floor_size (spread_of base ps), s_below)

-- ---- the mean, from the newest difference

-- a signed number below 2^31 in size, added on the circle, is the distance from where it was added
after_part : (b n : ℕ) → b < 2 ^ 32 → n < 2 ^ 31 → n ≡ minus ((b + around (pos n)) % 2 ^ 32) b
unfolding minus around
after_part b n l m = omega arith

before_part : (b n : ℕ) → b < 2 ^ 32 → n < 2 ^ 31 → 2 ^ 32 - suc n ≡ minus ((b + around (negsuc n)) % 2 ^ 32) b
unfolding minus around
before_part b n l m = omega arith

back_again : (b : ℕ) (z : ℤ) → b < 2 ^ 32 → mag z < 2 ^ 31 → distance_of (around (pos b +ℤ z)) b ≡ z
back_again b (pos n) l m = sym (near_is n (around (pos b +ℤ pos n)) b (pos n) (after_part b n l m ∙ ap (λ (x : ℕ). minus x b) (around_add b (pos n))) m refl)
back_again b (negsuc n) l m =
    sym (far_is (2 ^ 32 - suc n) (around (pos b +ℤ negsuc n)) b (negsuc n) (before_part b n l m ∙ ap (λ (x : ℕ). minus x b) (around_add b (negsuc n))) (omega arith)
    (let e : 2 ^ 32 - suc (2 ^ 32 - suc n) ≡ n = omega arith in ap negsuc (sym e) ∙ sym (far_mag (2 ^ 32 - suc n) (omega arith) (omega arith))))

difference_small : (p : Pair) → difference_of p < 2 ^ 32
unfolding difference_of
difference_small p = minus_small p.reference.0 p.local.0

-- every distance lies within the signed numbers of 32 bits
in_range_holds : (z : ℤ) → mag z < 2 ^ 31 → (negsuc (2 ^ 31 - 1) ≤ℤ z) × (z ≤ℤ pos (2 ^ 31 - 1))
in_range_holds (pos n) x = (record { le = tt }, record { le = le→leb n (2 ^ 31 - 1) (omega arith) })
in_range_holds (negsuc n) x = (record { le = le→leb n (2 ^ 31 - 1) (omega arith) }, record { le = tt })

range_size : (z : ℤ) → negsuc (2 ^ 31 - 1) ≤ℤ z → z ≤ℤ pos (2 ^ 31 - 1) → mag z < 2 ^ 31
range_size (pos n) a b = omega (arith, leb→le n (2 ^ 31 - 1) b.le)
range_size (negsuc n) a b = omega (arith, leb→le n (2 ^ 31 - 1) a.le)

all_in_range : (base : ℕ) (ps : List Pair) → Every (Bounded base (2 ^ 41) (negsuc (2 ^ 31 - 1)) (pos (2 ^ 31 - 1)) (omega arith) (omega arith)) ps
all_in_range base [] = tt
all_in_range base (p ∷ ps) = (in_range_holds (distance_of (difference_of p) base) (distance_small (difference_of p) base), all_in_range base ps)

module _ (ps : List Pair) (long : length ps ≡ 16) where
  floor_small : mag (floor16 (spread_of (difference_of (newest_of ps)) ps)) < 2 ^ 31
  floor_small =
      let b = floor_between (difference_of (newest_of ps)) (2 ^ 41) (negsuc (2 ^ 31 - 1)) (pos (2 ^ 31 - 1)) (omega arith) (omega arith) ps long (omega arith) (all_in_range (difference_of (newest_of ps)) ps)
      in range_size (floor16 (spread_of (difference_of (newest_of ps)) ps)) b.0 b.1

  -- how far the mean lies from the newest difference is the sixteenth of the sum
  mean_away : distance_of (mean_of ps) (difference_of (newest_of ps)) ≡ floor16 (spread_of (difference_of (newest_of ps)) ps)
  unfolding mean_of
  mean_away = back_again (difference_of (newest_of ps)) (floor16 (spread_of (difference_of (newest_of ps)) ps)) (difference_small (newest_of ps)) floor_small

pub between : Between
between ps low high long a =
    rw (mean_away ps long)
    (floor_between (difference_of (newest_of ps)) (mag low + mag high + 2 ^ 41) low high (omega arith) (omega arith) ps long (omega arith) a)

-- ---- equal differences

same_place : (d : ℕ) → d < 2 ^ 32 → distance_of d d ≡ pos 0
unfolding minus
same_place d l = sym (near_is 0 d d (pos 0) (omega arith) (omega arith) refl)

spread_equal : (d : ℕ) (ps : List Pair) → d < 2 ^ 32 → Every (λ (p : Pair). difference_of p ≡ d) ps → spread_of d ps ≡ pos 0
unfolding spread_of
spread_equal d [] l a = refl
spread_equal d (p ∷ ps) l a = rw (a.0, same_place d l, spread_equal d ps l a.1)

newest_equal : (d : ℕ) (ps : List Pair) → length ps ≡ 16 → Every (λ (p : Pair). difference_of p ≡ d) ps → difference_of (newest_of ps) ≡ d
newest_equal d [] long a = absurd (omega arith)
newest_equal d (p ∷ ps) long a = a.0

pub equal_differences : EqualDifferences
unfolding mean_of floor16 around
equal_differences ps d long a = let l : d < 2 ^ 32 = rw (← newest_equal d ps long a) (difference_small (newest_of ps)) in rw (newest_equal d ps long a, spread_equal d ps l a) (omega arith)

-- ---- what the definitions say in other words

floor_negative : (n r k : ℕ) → k ≡ n + 1 + r → neg_ℤ (pos k) +ℤ pos r ≡ negsuc n
floor_negative n r zero e = absurd (omega arith)
floor_negative n r (suc k) e = let f : suc k - suc r ≡ n = omega arith in sub_below r (suc k) (omega arith) ∙ ap negsuc f

pub floor : Floor
unfolding floor16
floor (pos n) = (omega arith, let e : n / 16 * 16 + n % 16 ≡ n = omega arith in ap pos e)
floor (negsuc n) = (omega arith, floor_negative n (15 - n % 16) (suc (n / 16) * 16) (omega arith))

signed_back : (a b n : ℕ) (t : Bool) → a < 2 ^ 32 → b < 2 ^ 32 → n ≡ (a + (2 ^ 32 - b)) % 2 ^ 32 → ltb n (2 ^ 31) ≡ t → around (pos b +ℤ pick t (pos n) (pos n -ℤ pos (2 ^ 32))) ≡ a
unfolding pick around
signed_back a b n true ha hb e h = omega arith
signed_back a b n false ha hb e h = let l = ltb-false n (2 ^ 31) h in rw (sub_below n (2 ^ 32) (omega arith)) (sym (around_add b (negsuc (2 ^ 32 - suc n))) ∙ omega arith)

pub distance_back : DistanceBack
unfolding distance_of signed_of minus
distance_back a b ha hb = signed_back a b (minus a b) (ltb (minus a b) (2 ^ 31)) ha hb refl refl
