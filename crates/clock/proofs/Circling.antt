-- Signed distances on the circle, over plain variables: which side of 2^31 a difference lies on, and how large a distance can be.
-- Assumes nothing.
use Rattle.std.proofs.Common.{◌≡◌, ℕ, suc, ◌-◌, ◌^◌, ◌<◌, ◌≤◌, Bool, true, false, ltb, ℤ, pos, negsuc, ◌-ℤ◌, refl, arith, ltb-false, ltb-true, le-ltb, lt-ltb}
use lib.Signed.{mag}
use Rattle.ground.specs.Choice.{pick, yes, no}
use Rattle.clock.specs.Circle.{minus, signed_of, distance_of}

pub near_is : (d a b : ℕ) (z : ℤ) → d ≡ minus a b → d < 2 ^ 31 → z ≡ pos d → z ≡ distance_of a b
unfolding distance_of signed_of
near_is d a b z e h f = rw (← e) (yes _ _ _ _ (lt-ltb d (2 ^ 31) h) f)

pub far_is : (d a b : ℕ) (z : ℤ) → d ≡ minus a b → 2 ^ 31 ≤ d → z ≡ pos d -ℤ pos (2 ^ 32) → z ≡ distance_of a b
unfolding distance_of signed_of
far_is d a b z e h f = rw (← e) (no _ _ _ _ (le-ltb d (2 ^ 31) h) f)

pub minus_small : (a b : ℕ) → minus a b < 2 ^ 32
unfolding minus
minus_small a b = omega arith

pub far_mag : (n : ℕ) → 2 ^ 31 ≤ n → n < 2 ^ 32 → pos n -ℤ pos (2 ^ 32) ≡ negsuc (2 ^ 32 - suc n)
far_mag n h l = rw (lt-ltb n (2 ^ 32) l)

signed_small : (n : ℕ) (t : Bool) → ltb n (2 ^ 31) ≡ t → n < 2 ^ 32 → mag (pick t (pos n) (pos n -ℤ pos (2 ^ 32))) < 2 ^ 31
unfolding pick
signed_small n true e l = ltb-true n (2 ^ 31) e
signed_small n false e l = let h = ltb-false n (2 ^ 31) e in rw (far_mag n h l) (omega arith)

pub distance_small : (a b : ℕ) → mag (distance_of a b) < 2 ^ 31
unfolding distance_of signed_of
distance_small a b = signed_small (minus a b) (ltb (minus a b) (2 ^ 31)) refl (minus_small a b)
