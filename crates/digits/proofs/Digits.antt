-- A loop that goes from the highest of n digits down to the lowest comes to what all of them pick: what it has, with what is still to come, stays the same.
-- Assumes nothing.
use mathlib.Core.Path.{◌≡◌, ap, ◌∙◌}
use mathlib.Core.List.{List}
use Prim.Native.Nat.{ℕ, zero, suc, ◌+◌, ◌-◌, ◌*◌, ◌/◌, ◌%◌, ◌^◌, ◌<◌}
use native.Mathlib.Nat.{mod-eq_of_lt}
use native.Mathlib.Omega.{arith}
use lib.ListN.{get_or}
use lib.Bits.{bit_xor}
use Rattle.digits.specs.Digits.{picked}
use Rattle.digits.proofs.Xor.{xor_assoc}

-- the place that digit p of v picks in rows that stand one after the other
abbrev pub place : ℕ → ℕ → ℕ
place v p = p * 64 + v / 2 ^ (6 * p) % 64

-- it lies within rows for n digits
pub inside : (v p n : ℕ) → p < n → place v p % (n * 64) ≡ place v p
inside v p n h = mod-eq_of_lt (omega arith)

-- the digit that is next
pub next : (rows : List ℕ) (x v p : ℕ) → 0 < p → bit_xor (bit_xor x (get_or rows (place v (p - 1)) 0)) (picked rows (p - 1) v) ≡ bit_xor x (picked rows p v)
next rows x v zero h = absurd (omega arith)
next rows x v (suc q) h =
    let e : suc q - 1 ≡ q = omega arith in
    ap (λ (n : ℕ). bit_xor (bit_xor x (get_or rows (place v n) 0)) (picked rows n v)) e
    ∙ xor_assoc x (get_or rows (place v q) 0) (picked rows q v)
