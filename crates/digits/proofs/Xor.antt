-- Exclusive-or is associative, cancels, and passes through a shift to the left.
-- Assumes nothing.
use mathlib.Core.Path.{◌≡◌, refl, sym, ap, ap₂, ◌∙◌}
use Prim.Native.Nat.{ℕ, zero, suc, ◌+◌, ◌*◌, ◌/◌, ◌%◌, ◌^◌, ◌<◌}
use native.Mathlib.Nat.{add-zero, mod-lt, zero-lt-suc}
use native.Mathlib.Omega.{arith}
use lib.Arith.{bin_ind}
use lib.Pow.{pow_pos}
use lib.Bits.{bit_xor, differ, xor_step, xor_shr, xor_mod, xor_block, xor_self, xor_comm}

bits : (x y : ℕ) → x < 2 → y < 2 → bit_xor x y ≡ differ x y
bits zero y hx hy = refl
bits (suc zero) zero hx hy = refl
bits (suc zero) (suc zero) hx hy = refl
bits (suc zero) (suc (suc y)) hx hy = absurd (omega arith)
bits (suc (suc x)) y hx hy = absurd (omega arith)

bits_assoc : (x y z : ℕ) → x < 2 → y < 2 → z < 2 → differ (bit_xor x y) z ≡ differ x (bit_xor y z)
bits_assoc zero y z hx hy hz = sym (bits y z hy hz)
bits_assoc (suc zero) zero z hx hy hz = refl
bits_assoc (suc zero) (suc zero) zero hx hy hz = refl
bits_assoc (suc zero) (suc zero) (suc zero) hx hy hz = refl
bits_assoc (suc zero) (suc zero) (suc (suc z)) hx hy hz = absurd (omega arith)
bits_assoc (suc zero) (suc (suc y)) z hx hy hz = absurd (omega arith)
bits_assoc (suc (suc x)) y z hx hy hz = absurd (omega arith)

low : (a : ℕ) → a % 2 < 2
low a = mod-lt a (zero-lt-suc 1)

pub xor_assoc : (a b c : ℕ) → bit_xor (bit_xor a b) c ≡ bit_xor a (bit_xor b c)
xor_assoc a =
    bin_ind (λ (n : ℕ). (b c : ℕ) → bit_xor (bit_xor n b) c ≡ bit_xor n (bit_xor b c)) (λ b c. refl)
    (λ n ih b c.
    xor_step (bit_xor n b) c
    ∙ ap₂ (λ (x y : ℕ). bit_xor x (c / 2) * 2 + differ y (c % 2)) (xor_shr n b 1) (xor_mod n b 1)
    ∙ ap₂ (λ (x y : ℕ). x * 2 + y) (ih (b / 2) (c / 2)) (bits_assoc (n % 2) (b % 2) (c % 2) (low n) (low b) (low c))
    ∙ sym
    (xor_step n (bit_xor b c)
    ∙ ap₂ (λ (x y : ℕ). bit_xor (n / 2) x * 2 + differ (n % 2) y) (xor_shr b c 1) (xor_mod b c 1)))
    a

-- two pairs, with the inner ones exchanged
pub xor_swap : (a b c d : ℕ) → bit_xor (bit_xor a b) (bit_xor c d) ≡ bit_xor (bit_xor a c) (bit_xor b d)
xor_swap a b c d =
    xor_assoc a b (bit_xor c d)
    ∙ ap (bit_xor a) (sym (xor_assoc b c d) ∙ ap (λ (x : ℕ). bit_xor x d) (xor_comm b c) ∙ xor_assoc c b d)
    ∙ sym (xor_assoc a c (bit_xor b d))

pub xor_twice : (a b : ℕ) → bit_xor a (bit_xor a b) ≡ b
xor_twice a b = sym (xor_assoc a a b) ∙ ap (λ (x : ℕ). bit_xor x b) (xor_self a)

pub xor_cancel_l : (a : ℕ) {b c : ℕ} → bit_xor a b ≡ bit_xor a c → b ≡ c
xor_cancel_l a {b} {c} e = sym (xor_twice a b) ∙ ap (bit_xor a) e ∙ xor_twice a c

pub xor_cancel_r : (a : ℕ) {b c : ℕ} → bit_xor b a ≡ bit_xor c a → b ≡ c
xor_cancel_r a {b} {c} e = xor_cancel_l a (xor_comm a b ∙ e ∙ xor_comm c a)

pub xor_mul : (a b k : ℕ) → bit_xor a b * 2 ^ k ≡ bit_xor (a * 2 ^ k) (b * 2 ^ k)
xor_mul a b k =
    sym (add-zero (bit_xor a b * 2 ^ k)) ∙ sym (xor_block k a b 0 0 (pow_pos k) (pow_pos k))
    ∙ ap₂ bit_xor (add-zero (a * 2 ^ k)) (add-zero (b * 2 ^ k))
