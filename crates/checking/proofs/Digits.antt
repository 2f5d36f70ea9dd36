-- A run of bytes as a number, highest first, one byte at a time.
-- Assumes nothing.
use mathlib.Core.Path.{◌≡◌, sym, ap, ap₂, ◌∙◌}
use mathlib.Core.List.{List, [], ◌∷◌, ◌++◌}
use Prim.Native.Nat.{ℕ, ◌+◌, ◌*◌, ◌^◌, ◌<◌}
use native.Mathlib.Nat.{mul_assoc}
use native.Mathlib.Numerals.{add-one}
use native.Mathlib.Omega.{arith}
use lib.ListN.{length, take, get_or, length-append}
use lib.Seq.{take-suc}
use Rattle.checkword.specs.Bytes.{number}

-- one more byte behind a number, highest first
number_snoc : (bs : List ℕ) (b : ℕ) → number (bs ++ (b ∷ [])) ≡ number bs * 256 + b
number_snoc [] b = omega arith
number_snoc (x ∷ xs) b =
    let size : 8 * length (xs ++ (b ∷ [])) ≡ 8 * length xs + 8 = ap (λ (n : ℕ). 8 * n) (length-append xs (b ∷ [])) ∙ omega arith in
    let step : x * 2 ^ (8 * length xs + 8) ≡ x * 2 ^ (8 * length xs) * 256 =
    ap (λ (n : ℕ). x * n) (lib.Pow.pow-add 2 (8 * length xs) 8) ∙ sym (mul_assoc x (2 ^ (8 * length xs)) 256) in
    ap₂ (λ (m n : ℕ). x * 2 ^ m + n) size (number_snoc xs b) ∙ omega (arith, step)

-- a turn of a loop that reads a number highest byte first
pub number_next : (bs : List ℕ) (i x : ℕ) → i < length bs → x ≡ number (take i bs) → x * 256 + get_or bs i 0 ≡ number (take (i + 1) bs)
number_next bs i x h e =
    ap (λ (n : ℕ). n * 256 + get_or bs i 0) e ∙ sym (number_snoc (take i bs) (get_or bs i 0))
    ∙ ap number (sym (take-suc bs i 0 h) ∙ ap (λ (n : ℕ). take n bs) (sym (add-one i)))
