-- Rows that pass the test hold what their rule says, at every place. So what digits pick from the rows is what they leave in the
-- register, and that leaves the remainder of the number that the digits write.
-- Assumes nothing.
use mathlib.Core.Path.{◌≡◌, refl, sym, ap, ap₂, ◌∙◌}
use mathlib.Core.List.{List, ◌++◌}
use Prim.Native.Nat.{ℕ, zero, suc, ◌+◌, ◌*◌, ◌/◌, ◌%◌, ◌^◌, ◌≤◌, ◌<◌}
use native.Mathlib.Nat.{mul-div_cancel, add-zero, zero-add, add-suc, suc-add, zero-mul, mul_assoc, mod-lt, mod-one, zero-lt-suc, le_of_suc-le-suc, not-suc-le-zero, lt_of_lt_of_le}
use native.Mathlib.Omega.{arith}
use lib.Pow.{pow_pos, pow-add, pow_mono, mod-pow-add}
use lib.ListN.{get_or, get_or-append}
use lib.Seq.{get_or-take, get_or-drop}
use lib.Bits.{bit_xor, xor_lt, xor_shifted}
use Rattle.digits.specs.Digits.{picked}
use Rattle.checkword.specs.Polynomial.{Generator}
use Rattle.checkword.specs.Rows.{shifts, made, Test}
use Rattle.checkword.proofs.Xor.{xor_mul}
use Rattle.checkword.proofs.Shift.{shifts_add, shifts_lt}
use Rattle.checkword.proofs.Remainder.{Same, same_refl, same_eq, same_both, shifts_same}

made_at : (f : ℕ → ℕ) (n i k : ℕ) → k < n → get_or (made f i n) k 0 ≡ f (i + k)
made_at f zero i k h = absurd (not-suc-le-zero h)
made_at f (suc n) i zero h = ap f (sym (add-zero i))
made_at f (suc n) i (suc k) h = made_at f n (suc i) k (le_of_suc-le-suc h) ∙ ap f (suc-add i k ∙ sym (add-suc i k))

-- n rows that keep the rule: place d of row p, of rows whose lowest digit has a bits behind it, is the digit d after a + 6 * p shifts, at the top of 64 bits
abbrev pub Kept : ℕ → ℕ → ℕ → ℕ → List ℕ → ℕ → Type 0
Kept w g s a rows n = (p d : ℕ) → p < n → d < 64 → get_or rows (p * 64 + d) 0 ≡ shifts w g (a + 6 * p) d * 2 ^ s

module _ (w g s : ℕ) (low high : List ℕ) (test : Test w g s low high) where
  all_kept : Kept w g s w (low ++ high) 11
  all_kept zero d hp hd =
      let place : 0 * 64 + d ≡ d = omega arith in
      ap (λ (k : ℕ). get_or (low ++ high) k 0) place ∙ sym (get_or-take 64 (low ++ high) d 0 hd) ∙ ap (λ (l : List ℕ). get_or l d 0) test.first
      ∙ made_at (λ (n : ℕ). shifts w g w n * 2 ^ s) 64 0 d hd
      ∙ ap₂ (λ (n m : ℕ). shifts w g n m * 2 ^ s) (sym (add-zero w)) (zero-add d)
  all_kept (suc p) d hp hd =
      let place : suc p * 64 + d ≡ 64 + (p * 64 + d) = omega arith in
      let count : w + 6 * p + 6 ≡ w + 6 * suc p = omega arith in
      ap (λ (k : ℕ). get_or (low ++ high) k 0) place ∙ sym (get_or-drop 64 (low ++ high) (p * 64 + d) 0)
      ∙ ap (λ (l : List ℕ). get_or l (p * 64 + d) 0) test.others
      ∙ made_at (λ (k : ℕ). shifts w g 6 (get_or (low ++ high) k 0 / 2 ^ s) * 2 ^ s) 640 0 (p * 64 + d) (omega arith)
      ∙ ap (λ (k : ℕ). shifts w g 6 (get_or (low ++ high) k 0 / 2 ^ s) * 2 ^ s) (zero-add (p * 64 + d))
      ∙ ap (λ (x : ℕ). shifts w g 6 (x / 2 ^ s) * 2 ^ s) (all_kept p d (omega arith) hd)
      ∙ ap (λ (x : ℕ). shifts w g 6 x * 2 ^ s) (mul-div_cancel (shifts w g (w + 6 * p) d) (pow_pos s))
      ∙ ap (λ (x : ℕ). x * 2 ^ s) (sym (shifts_add w g (w + 6 * p) 6 d) ∙ ap (λ (n : ℕ). shifts w g n d) count)

  pub low_kept : Kept w g s w low 5
  low_kept p d hp hd =
      sym (get_or-append low high 0 (p * 64 + d) (omega (arith, test.five))) ∙ all_kept p d (omega arith) hd

  pub high_kept : Kept w g s (w + 30) high 6
  high_kept p d hp hd =
      let place : 320 + (p * 64 + d) ≡ (5 + p) * 64 + d = omega arith in
      let count : w + 6 * (5 + p) ≡ w + 30 + 6 * p = omega arith in
      ap (λ (l : List ℕ). get_or l (p * 64 + d) 0) (sym test.rest) ∙ get_or-drop 320 (low ++ high) (p * 64 + d) 0
      ∙ ap (λ (k : ℕ). get_or (low ++ high) k 0) place ∙ all_kept (5 + p) d (omega arith) hd
      ∙ ap (λ (n : ℕ). shifts w g n d * 2 ^ s) count

-- what the n lowest digits of v leave, each moved up by a bits more
abbrev pub leaves : ℕ → ℕ → ℕ → ℕ → ℕ → ℕ
leaves w g a zero v = 0
leaves w g a (suc p) v = bit_xor (shifts w g (a + 6 * p) (v / 2 ^ (6 * p) % 64)) (leaves w g a p v)

pub picked_leaves : (w g s a : ℕ) (rows : List ℕ) (n : ℕ) → Kept w g s a rows n → (p v : ℕ) → p ≤ n → picked rows p v ≡ leaves w g a p v * 2 ^ s
picked_leaves w g s a rows n k zero v h = sym (zero-mul (2 ^ s))
picked_leaves w g s a rows n k (suc p) v h =
    ap₂ bit_xor (k p (v / 2 ^ (6 * p) % 64) h (mod-lt (v / 2 ^ (6 * p)) (zero-lt-suc 63))) (picked_leaves w g s a rows n k p v (omega arith))
    ∙ sym (xor_mul (shifts w g (a + 6 * p) (v / 2 ^ (6 * p) % 64)) (leaves w g a p v) s)

pub leaves_same : (w g a p v : ℕ) → Same g (v % 2 ^ (6 * p) * 2 ^ a) (leaves w g a p v)
leaves_same w g a zero v = same_eq g (sym (ap (λ (x : ℕ). x * 2 ^ a) (mod-one v) ∙ zero-mul (2 ^ a))) refl (same_refl g 0)
leaves_same w g a (suc p) v =
    same_eq g (sym written) refl (same_both g (shifts_same g w (a + 6 * p) d) (leaves_same w g a p v))
  where
    d : ℕ
    d = v / 2 ^ (6 * p) % 64

    count : 6 * suc p ≡ 6 + 6 * p
    count = omega arith

    up : d * 2 ^ (6 * p) * 2 ^ a ≡ d * 2 ^ (a + 6 * p)
    up =
        mul_assoc d (2 ^ (6 * p)) (2 ^ a)
        ∙ ap (λ (x : ℕ). d * x) (sym (pow-add 2 (6 * p) a) ∙ ap (λ (n : ℕ). 2 ^ n) (omega arith))

    written : v % 2 ^ (6 * suc p) * 2 ^ a ≡ bit_xor (d * 2 ^ (a + 6 * p)) (v % 2 ^ (6 * p) * 2 ^ a)
    written =
        ap (λ (n : ℕ). v % 2 ^ n * 2 ^ a) count
        ∙ ap (λ (x : ℕ). x * 2 ^ a)
        (mod-pow-add v 6 (6 * p) ∙ sym (xor_shifted d (6 * p) (v % 2 ^ (6 * p)) (mod-lt v (pow_pos (6 * p)))))
        ∙ xor_mul (d * 2 ^ (6 * p)) (v % 2 ^ (6 * p)) a ∙ ap (λ (x : ℕ). bit_xor x (v % 2 ^ (6 * p) * 2 ^ a)) up

pub leaves_lt : (w g : ℕ) → Generator w g → (a p v : ℕ) → leaves w g a p v < 2 ^ w
leaves_lt w g good a zero v = pow_pos w
leaves_lt w g good a (suc p) v =
    let digit : v / 2 ^ (6 * p) % 64 < 2 ^ w =
    lt_of_lt_of_le (mod-lt (v / 2 ^ (6 * p)) (zero-lt-suc 63)) (pow_mono {i = 6} {j = w} (omega (arith, good.wide))) in
    xor_lt w (shifts w g (a + 6 * p) (v / 2 ^ (6 * p) % 64)) (leaves w g a p v) (shifts_lt w g good (a + 6 * p) (v / 2 ^ (6 * p) % 64) digit)
    (leaves_lt w g good a p v)
