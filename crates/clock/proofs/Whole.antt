-- Sums and differences of whole numbers. Each law is over plain variables, by cases on the sign, with `omega` in each case. It says nothing of a function.
-- Assumes nothing.
use Rattle.std.proofs.Common.{◌≡◌, ℕ, suc, ◌+◌, ◌-◌, ◌*◌, ◌/◌, ◌<◌, ◌≤◌, Bool, true, false, cond, ltb, leb, ℤ, pos, negsuc, ◌+ℤ◌, refl, arith, le-ltb, lt-ltb, leb-false, leb-true}
use lib.IntN.{sub_ℕ}
use lib.Signed.{mag}

-- a difference of two numbers, at each side of 0
pub sub_below : (a b : ℕ) → a < b → sub_ℕ a b ≡ negsuc (b - suc a)
sub_below a b h = rw (lt-ltb a b h)

pub sub_above : (a b : ℕ) → b ≤ a → sub_ℕ a b ≡ pos (a - b)
sub_above a b h = rw (le-ltb a b h)

-- how large a sum can be
mag_cond : (t : Bool) (x y : ℤ) (k : ℕ) → mag x ≤ k → mag y ≤ k → mag (cond t x y) ≤ k
mag_cond true x y k h l = h
mag_cond false x y k h l = l

pub mag_sub : (a b : ℕ) → mag (sub_ℕ a b) ≤ a + b
mag_sub a b = mag_cond (ltb a b) (negsuc (b - suc a)) (pos (a - b)) (a + b) (omega arith) (omega arith)

pub mag_add : (x y : ℤ) → mag (x +ℤ y) ≤ suc (mag x + mag y)
mag_add (pos a) (pos b) = omega arith
mag_add (pos a) (negsuc b) = omega (arith, mag_sub a (suc b))
mag_add (negsuc a) (pos b) = omega (arith, mag_sub b (suc a))
mag_add (negsuc a) (negsuc b) = omega arith

-- two tests of which each holds where the other does
module _ (a b c d : ℕ) (there : a ≤ b → c ≤ d) (back : c ≤ d → a ≤ b) where
  alike : (s t : Bool) → leb a b ≡ s → leb c d ≡ t → s ≡ t
  alike true true e f = refl
  alike false false e f = refl
  alike true false e f = absurd (omega (arith, there (leb-true a b e), leb-false c d f))
  alike false true e f = absurd (omega (arith, back (leb-true c d f), leb-false a b e))

  pub same_test : leb a b ≡ leb c d
  same_test = alike (leb a b) (leb c d) refl refl

pub scaled_test : (k m : ℕ) → leb k (m / 1000) ≡ leb (1000 * k) m
scaled_test k m = same_test k (m / 1000) (1000 * k) m (λ h. omega arith) (λ h. omega arith)
