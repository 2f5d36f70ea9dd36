-- The shift of a register of w bits by a generator of degree w: it keeps below 2 ^ w, it is linear, and where the generator's constant term is
-- one, no two registers shift to one.
-- Assumes nothing.
use mathlib.Core.Path.{◌≡◌, refl, sym, ap, ap₂, ◌∙◌, subst}
use Prim.Native.Nat.{ℕ, zero, suc, ◌+◌, ◌*◌, ◌/◌, ◌%◌, ◌^◌, ◌<◌}
use native.Mathlib.Nat.{zero-div, div-lt_iff_lt-mul, div-eq_of_lt, mul-mod_left, mul_assoc, mul_comm, mul-one, one-mul, pow-suc, suc-add, zero-add, le-mul_of_pos_right, lt_of_le_of_lt}
use native.Mathlib.Omega.{arith}
use lib.Pow.{pow_pos}
use lib.Bits.{bit_xor, xor_shr, xor_mod, xor_self, xor_zero_r}
use Rattle.checkword.specs.Polynomial.{Generator}
use Rattle.checkword.specs.Word.{fallen, shift}
pub use Rattle.checkword.specs.Rows.{shifts}
use Rattle.checkword.proofs.Xor.{xor_swap, xor_cancel_r, xor_mul}

fallen_lin : (g c d : ℕ) → c < 2 → d < 2 → fallen g (bit_xor c d) ≡ bit_xor (fallen g c) (fallen g d)
fallen_lin g zero d hc hd = refl
fallen_lin g (suc zero) zero hc hd = sym (xor_zero_r g)
fallen_lin g (suc zero) (suc zero) hc hd = sym (xor_self g)
fallen_lin g (suc zero) (suc (suc d)) hc hd = absurd (omega arith)
fallen_lin g (suc (suc c)) d hc hd = absurd (omega arith)

module _ (w g : ℕ) where
  out_lt : {r : ℕ} → r < 2 ^ w → r * 2 / 2 ^ w < 2
  out_lt h = (div-lt_iff_lt-mul (pow_pos w)).1 (omega arith)

  pub shift_lin : (a b : ℕ) → a < 2 ^ w → b < 2 ^ w → shift w g (bit_xor a b) ≡ bit_xor (shift w g a) (shift w g b)
  unfolding shift
  shift_lin a b ha hb =
      ap (λ (x : ℕ). bit_xor x (fallen g (x / 2 ^ w))) (xor_mul a b 1)
      ∙ ap (λ (x : ℕ). bit_xor (bit_xor (a * 2) (b * 2)) (fallen g x)) (xor_shr (a * 2) (b * 2) w)
      ∙ ap (bit_xor (bit_xor (a * 2) (b * 2))) (fallen_lin g (a * 2 / 2 ^ w) (b * 2 / 2 ^ w) (out_lt ha) (out_lt hb))
      ∙ xor_swap (a * 2) (b * 2) (fallen g (a * 2 / 2 ^ w)) (fallen g (b * 2 / 2 ^ w))

  -- nothing falls out
  pub shift_free : (r : ℕ) → r * 2 < 2 ^ w → shift w g r ≡ r * 2
  unfolding shift
  shift_free r h = ap (λ (x : ℕ). bit_xor (r * 2) (fallen g x)) (div-eq_of_lt h) ∙ xor_zero_r (r * 2)

  pub shifts_free : (n r : ℕ) → r * 2 ^ n < 2 ^ w → shifts w g n r ≡ r * 2 ^ n
  shifts_free zero r h = sym (mul-one r)
  shifts_free (suc n) r h =
      let e : r * 2 ^ suc n ≡ r * 2 * 2 ^ n = ap (λ (x : ℕ). r * x) (pow-suc 2 n ∙ mul_comm (2 ^ n) 2) ∙ sym (mul_assoc r 2 (2 ^ n)) in
      let h' : r * 2 * 2 ^ n < 2 ^ w = subst (λ (x : ℕ). x < 2 ^ w) e h in
      let s : r * 2 < 2 ^ w = lt_of_le_of_lt (le-mul_of_pos_right (r * 2) (pow_pos n)) h' in
      ap (shifts w g n) (shift_free r s) ∙ shifts_free n (r * 2) h' ∙ sym e

  pub shifts_add : (m n r : ℕ) → shifts w g (m + n) r ≡ shifts w g n (shifts w g m r)
  shifts_add zero n r = ap (λ (x : ℕ). shifts w g x r) (zero-add n)
  shifts_add (suc m) n r = ap (λ (x : ℕ). shifts w g x r) (suc-add m n) ∙ shifts_add m n (shift w g r)

module _ (w g : ℕ) (good : Generator w g) where
  out_clears : (c : ℕ) → c < 2 → bit_xor c (fallen g c / 2 ^ w) ≡ 0
  out_clears zero h = zero-div (2 ^ w)
  out_clears (suc zero) h = ap (bit_xor 1) good.degree
  out_clears (suc (suc c)) h = absurd (omega arith)

  pub shift_lt : (r : ℕ) → r < 2 ^ w → shift w g r < 2 ^ w
  unfolding shift
  shift_lt r h =
      let e : shift w g r / 2 ^ w ≡ 0 = xor_shr (r * 2) (fallen g (r * 2 / 2 ^ w)) w ∙ out_clears (r * 2 / 2 ^ w) (out_lt w g h) in
      subst (λ (x : ℕ). shift w g r < x) (one-mul (2 ^ w)) ((div-lt_iff_lt-mul (pow_pos w)).0 (omega arith))

  pub shifts_lt : (n r : ℕ) → r < 2 ^ w → shifts w g n r < 2 ^ w
  shifts_lt zero r h = h
  shifts_lt (suc n) r h = shifts_lt n (shift w g r) (shift_lt r h)

  pub shifts_lin : (n a b : ℕ) → a < 2 ^ w → b < 2 ^ w → shifts w g n (bit_xor a b) ≡ bit_xor (shifts w g n a) (shifts w g n b)
  shifts_lin zero a b ha hb = refl
  shifts_lin (suc n) a b ha hb =
      ap (shifts w g n) (shift_lin w g a b ha hb) ∙ shifts_lin n (shift w g a) (shift w g b) (shift_lt a ha) (shift_lt b hb)

  fallen_odd : (c : ℕ) → c < 2 → fallen g c % 2 ≡ c
  fallen_odd zero h = refl
  fallen_odd (suc zero) h = good.constant
  fallen_odd (suc (suc c)) h = absurd (omega arith)

  -- the lowest bit tells what fell out
  shift_odd : (r : ℕ) → r < 2 ^ w → shift w g r % 2 ≡ r * 2 / 2 ^ w
  unfolding shift
  shift_odd r h =
      xor_mod (r * 2) (fallen g (r * 2 / 2 ^ w)) 1
      ∙ ap₂ bit_xor (mul-mod_left r 2) (fallen_odd (r * 2 / 2 ^ w) (out_lt w g h))

  pub shift_inj : (a b : ℕ) → a < 2 ^ w → b < 2 ^ w → shift w g a ≡ shift w g b → a ≡ b
  unfolding shift
  shift_inj a b ha hb e =
      let o : a * 2 / 2 ^ w ≡ b * 2 / 2 ^ w = sym (shift_odd a ha) ∙ ap (λ (x : ℕ). x % 2) e ∙ shift_odd b hb in
      let d : a * 2 ≡ b * 2 = xor_cancel_r (fallen g (b * 2 / 2 ^ w)) (ap (λ (x : ℕ). bit_xor (a * 2) (fallen g x)) (sym o) ∙ e) in
      omega arith

  pub shifts_inj : (n a b : ℕ) → a < 2 ^ w → b < 2 ^ w → shifts w g n a ≡ shifts w g n b → a ≡ b
  shifts_inj zero a b ha hb e = e
  shifts_inj (suc n) a b ha hb e =
      shift_inj a b ha hb (shifts_inj n (shift w g a) (shift w g b) (shift_lt a ha) (shift_lt b hb) e)
