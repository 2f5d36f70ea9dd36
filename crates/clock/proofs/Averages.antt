-- The sum of the distances, its sixteenth and the number it moves to, over plain variables: first as numbers, then as the machine has them in a signed local, as
-- bits that are read back.
-- Assumes nothing.
use Rattle.std.proofs.Common.{◌≡◌, ℕ, suc, ◌+◌, ◌-◌, ◌*◌, ◌%◌, ◌^◌, ◌<◌, ◌≤◌, Bool, true, false, ltb, List, [], ◌∷◌, ◌++◌, length, get_or, take, ℤ, pos, negsuc, ◌+ℤ◌, sym, refl, ap, ◌∙◌, add-one, arith, length-take, take-suc, w64, SFits, to_z, of_z, ltb-false, ltb-true}
use lib.Bits.{bit_and, and_mask}
use lib.IntN.{sub_ℕ, +ℤ_assoc, +ℤ_idr, +ℤ_idl}
use lib.Signed.{mag, shr_z, mag_shr}
use mir.ValLaws.{sfits_le}
use Rattle.clock.specs.Circle.{distance_of}
use Rattle.clock.specs.Factor.{difference_of, spread_of, floor16, around, mean_of, newest_of, no_pair}
use Rattle.clock.specs.declared.Pair.{Pair}
use Rattle.clock.proofs.Circling.{distance_small}
use Rattle.clock.proofs.Whole.{sub_below, sub_above, mag_add}
use Rattle.std.proofs.lemmas.Int.{to_z-of_z, to_z_pos}

-- ---- the sum

spread_join : (base : ℕ) (xs : List Pair) (p : Pair) → spread_of base (xs ++ (p ∷ [])) ≡ spread_of base xs +ℤ distance_of (difference_of p) base
unfolding spread_of
spread_join base [] p = +ℤ_idr (distance_of (difference_of p) base) ∙ sym (+ℤ_idl (distance_of (difference_of p) base))
spread_join base (x ∷ xs) p =
    ap (λ (z : ℤ). distance_of (difference_of x) base +ℤ z) (spread_join base xs p)
    ∙ sym (+ℤ_assoc (distance_of (difference_of x) base) (spread_of base xs) (distance_of (difference_of p) base))

spread_next : (base : ℕ) (ps : List Pair) (i : ℕ) → i < length ps → spread_of base (take (i + 1) ps) ≡ spread_of base (take i ps) +ℤ distance_of (difference_of (get_or ps i no_pair)) base
spread_next base ps i h = rw (add-one i, take-suc ps i no_pair h) (spread_join base (take i ps) (get_or ps i no_pair))

pub spread_none : (base : ℕ) (ps : List Pair) → pos 0 ≡ spread_of base (take 0 ps)
unfolding spread_of
spread_none base ps = refl

-- how large a sum of distances can be: with sixteen of them it is far from the ends of 64 bits
pub spread_small : (base : ℕ) (ps : List Pair) → mag (spread_of base ps) ≤ length ps * 2 ^ 31
unfolding spread_of
spread_small base [] = omega arith
spread_small base (p ∷ ps) = omega (arith, mag_add (distance_of (difference_of p) base) (spread_of base ps), distance_small (difference_of p) base, spread_small base ps)

spread_fits : (base : ℕ) (ps : List Pair) → length ps ≤ 16 → SFits w64 (spread_of base ps)
spread_fits base ps h = record { sfits = omega (arith, spread_small base ps) }

pub taken_fits : (base : ℕ) (ps : List Pair) (i : ℕ) → length ps ≡ 16 → SFits w64 (spread_of base (take i ps))
taken_fits base ps i h = spread_fits base (take i ps) (simp length-take (omega arith))

-- a turn of the loop: the sum, and one distance more
module _ (base : ℕ) (ps : List Pair) (i s d : ℕ) (e : ℤ) (long : length ps ≡ 16) (l : i < 16) (so_far : s ≡ of_z w64 (spread_of base (take i ps)))
    (here : d ≡ difference_of (get_or ps i no_pair)) (away : e ≡ distance_of d base) where
  sum_back : to_z w64 s ≡ spread_of base (take i ps)
  sum_back = rw so_far (to_z-of_z w64 (spread_of base (take i ps)) (taken_fits base ps i long))

  away_back : to_z w64 (of_z w64 e) ≡ distance_of (difference_of (get_or ps i no_pair)) base
  away_back = rw (away, here) (to_z-of_z w64 (distance_of (difference_of (get_or ps i no_pair)) base) (record { sfits = omega (arith, distance_small (difference_of (get_or ps i no_pair)) base) }))

  pub turned : to_z w64 s +ℤ to_z w64 (of_z w64 e) ≡ spread_of base (take (i + 1) ps)
  turned = rw (sum_back, away_back) (sym (spread_next base ps i (omega arith)))

-- ---- a sixteenth: the shift rounds down

shr_is : (s : ℤ) → shr_z s 16 ≡ floor16 s
unfolding floor16
shr_is (pos n) = refl
shr_is (negsuc n) = refl

pub floor_is : (s : ℤ) → SFits w64 s → to_z w64 (of_z w64 (shr_z (to_z w64 (of_z w64 s)) 16)) ≡ floor16 s
floor_is s f = rw (to_z-of_z w64 s f) (to_z-of_z w64 (shr_z s 16) (sfits_le (mag_shr s 16) f) ∙ shr_is s)

floor_mag : (s : ℤ) → mag (floor16 s) ≤ mag s
unfolding floor16
floor_mag (pos n) = omega arith
floor_mag (negsuc n) = omega arith

-- ---- modulo 2^32: the lowest 32 bits

low_bits : (m : ℤ) → SFits w64 m → of_z w64 m % 2 ^ 32 ≡ around m
unfolding around
low_bits (pos n) f = refl
low_bits (negsuc n) f = omega (arith, f.sfits)

pub around_small : (m : ℤ) → around m < 2 ^ 32
unfolding around
around_small (pos n) = omega arith
around_small (negsuc n) = omega arith

pub low_is : (m : ℤ) → SFits w64 m → to_z w64 (bit_and (of_z w64 m) 4294967295) ≡ pos (around m)
low_is m f = rw (and_mask (of_z w64 m) 32 ∙ low_bits m f) (to_z_pos w64 (around m) (omega (arith, around_small m)))

-- a number added on the circle
around_less : (b n : ℕ) (t : Bool) → ltb b (suc n) ≡ t → (b + (2 ^ 32 - 1 - n % 2 ^ 32)) % 2 ^ 32 ≡ around (sub_ℕ b (suc n))
unfolding around
around_less b n true e = let h = ltb-true b (suc n) e in rw (sub_below b (suc n) h) (omega arith)
around_less b n false e = let h = ltb-false b (suc n) e in rw (sub_above b (suc n) h) (omega arith)

pub around_add : (b : ℕ) (z : ℤ) → (b + around z) % 2 ^ 32 ≡ around (pos b +ℤ z)
unfolding around
around_add b (pos n) = omega arith
around_add b (negsuc n) = around_less b n (ltb b (suc n)) refl

-- ---- the three calls in a row: each passes a signed number on, which its callee reads back from bits
module _ (ps : List Pair) (base r : ℕ) (s m : ℤ) (long : length ps ≡ 16) (first : base ≡ difference_of (newest_of ps)) (sum : s ≡ spread_of base ps)
    (sixteenth : m ≡ floor16 (to_z w64 (of_z w64 s))) (at_last : r ≡ around (pos base +ℤ to_z w64 (of_z w64 m))) where
  s_fits : SFits w64 s
  s_fits = rw sum (spread_fits base ps (omega arith))

  m_is : m ≡ floor16 s
  m_is = rw (to_z-of_z w64 s s_fits) at sixteenth

  m_fits : SFits w64 m
  m_fits = rw m_is (sfits_le (floor_mag s) s_fits)

  pub mean_is : r ≡ mean_of ps
  unfolding mean_of
  mean_is = at_last ∙ rw (to_z-of_z w64 m m_fits, m_is, sum, first)
