-- A turn of the run: the top of the register, as long as the bytes that come in, with the bytes added to it is one number; what its digits leave, added to the
-- rest of the register moved up, is the register after the bytes. Both leave the remainder of one number and are below 2 ^ w, so they are equal.
-- Assumes nothing.
use mathlib.Core.Path.{◌≡◌, refl, sym, ap, ap₂, ◌∙◌, subst}
use mathlib.Core.List.{List}
use Prim.Native.Nat.{ℕ, ◌+◌, ◌*◌, ◌/◌, ◌%◌, ◌^◌, ◌≤◌, ◌<◌, min}
use native.Mathlib.Nat.{add_comm, add-zero, zero-add, mul_assoc, mul_right_comm, mul-mod_left, mod-lt, mod-eq_of_lt, lt_of_lt_of_le}
use native.Mathlib.Omega.{arith}
use lib.Pow.{pow_pos, pow-add, pow_mono, shl_lt, shr_lt, shl-shr, shr-shr, mod-pow-add, split}
use lib.ListN.{length, take, drop, get_or, length-take, length-drop, take-append-drop}
use lib.Seq.{take-add}
use lib.Bits.{bit_xor, xor_comm, xor_lt, xor_shifted}
use Rattle.digits.specs.Digits.{picked}
use Rattle.checkword.specs.Bytes.{Bytes, number}
use Rattle.checkword.specs.Polynomial.{Generator}
use Rattle.checkword.specs.Word.{run}
use Rattle.checkword.specs.Rows.{Test}
use Rattle.checkword.specs.Turn.{Taken}
use Rattle.checkword.proofs.Xor.{xor_assoc, xor_mul}
use Rattle.checkword.proofs.Bytes.{number_lt, bytes_of_holds, bytes_hold, bytes_take, bytes_drop}
use Rattle.checkword.proofs.Run.{run_append, run_lt}
use Rattle.checkword.proofs.Remainder.{Same, same_refl, same_eq, same_both, run_same, same_unique}
use Rattle.checkword.proofs.Rows.{Kept, leaves, picked_leaves, leaves_same, leaves_lt, low_kept, high_kept}

module _ (w g : ℕ) (good : Generator w g) where
  turn : (bs : List ℕ) (r v : ℕ) → 8 * length bs ≤ 64 → r < 2 ^ w → Bytes bs → v ≡ bit_xor (r * 2 ^ (8 * length bs) / 2 ^ w) (number bs)
      → bit_xor (bit_xor (r * 2 ^ (8 * length bs) % 2 ^ w) (leaves w g (w + 30) 6 (v / 2 ^ 30))) (leaves w g w 5 (v % 2 ^ 30)) ≡ run w g r bs
  turn bs r v l hr h e =
      same_unique w g good (same_eq g written refl (same_both g (same_both g (same_refl g y) high_same) low_same)) (run_same w g good bs r hr h)
      (xor_lt w (bit_xor y (leaves w g (w + 30) 6 (v / 2 ^ 30))) (leaves w g w 5 (v % 2 ^ 30))
      (xor_lt w y (leaves w g (w + 30) 6 (v / 2 ^ 30)) (mod-lt up (pow_pos w)) (leaves_lt w g good (w + 30) 6 (v / 2 ^ 30)))
      (leaves_lt w g good w 5 (v % 2 ^ 30)))
      (run_lt w g good bs r hr h)
    where
      -- the register moved up by the bytes: its top goes out, and the rest stays
      up : ℕ
      up = r * 2 ^ (8 * length bs)

      y : ℕ
      y = r * 2 ^ (8 * length bs) % 2 ^ w

      top : ℕ
      top = r * 2 ^ (8 * length bs) / 2 ^ w

      top_lt : top < 2 ^ (8 * length bs)
      top_lt = shr_lt (8 * length bs) w (subst (λ (n : ℕ). up < 2 ^ n) (add_comm w (8 * length bs)) (shl_lt w (8 * length bs) hr))

      v_lt : v < 2 ^ (34 + 30)
      v_lt =
          subst (λ (x : ℕ). x < 2 ^ 64) (sym e)
          (lt_of_lt_of_le (xor_lt (8 * length bs) top (number bs) top_lt (number_lt bs h)) (pow_mono l))

      high_same : Same g (v / 2 ^ 30 * 2 ^ (w + 30)) (leaves w g (w + 30) 6 (v / 2 ^ 30))
      high_same =
          same_eq g
          (ap (λ (x : ℕ). x * 2 ^ (w + 30)) (mod-eq_of_lt (lt_of_lt_of_le (shr_lt 34 30 v_lt) (pow_mono {i = 34} {j = 36} (omega arith))))) refl
          (leaves_same w g (w + 30) 6 (v / 2 ^ 30))

      low_same : Same g (v % 2 ^ 30 * 2 ^ w) (leaves w g w 5 (v % 2 ^ 30))
      low_same =
          same_eq g (ap (λ (x : ℕ). x * 2 ^ w) (mod-eq_of_lt (mod-lt v (pow_pos 30)))) refl (leaves_same w g w 5 (v % 2 ^ 30))

      -- the digits write v
      digits : bit_xor (v / 2 ^ 30 * 2 ^ (w + 30)) (v % 2 ^ 30 * 2 ^ w) ≡ v * 2 ^ w
      digits =
          ap (λ (x : ℕ). bit_xor x (v % 2 ^ 30 * 2 ^ w))
          (ap (λ (x : ℕ). v / 2 ^ 30 * x) (ap (λ (n : ℕ). 2 ^ n) (add_comm w 30) ∙ pow-add 2 30 w) ∙ sym (mul_assoc (v / 2 ^ 30) (2 ^ 30) (2 ^ w)))
          ∙ sym (xor_mul (v / 2 ^ 30 * 2 ^ 30) (v % 2 ^ 30) w)
          ∙ ap (λ (x : ℕ). x * 2 ^ w) (xor_shifted (v / 2 ^ 30) 30 (v % 2 ^ 30) (mod-lt v (pow_pos 30)) ∙ split v 30)

      -- with the rest of the register they write the register moved up, and the bytes
      written : bit_xor (bit_xor y (v / 2 ^ 30 * 2 ^ (w + 30))) (v % 2 ^ 30 * 2 ^ w) ≡ bit_xor up (number bs * 2 ^ w)
      written =
          xor_assoc y (v / 2 ^ 30 * 2 ^ (w + 30)) (v % 2 ^ 30 * 2 ^ w) ∙ ap (bit_xor y) (digits ∙ ap (λ (x : ℕ). x * 2 ^ w) e ∙ xor_mul top (number bs) w)
          ∙ sym (xor_assoc y (top * 2 ^ w) (number bs * 2 ^ w))
          ∙ ap (λ (x : ℕ). bit_xor x (number bs * 2 ^ w))
          (xor_comm y (top * 2 ^ w) ∙ xor_shifted top w y (mod-lt up (pow_pos w)) ∙ split up w)

  -- The same as the code has it, with the register x at the top of 64 bits: the n bytes from place i on go in.
  module _ (s : ℕ) (room : w + s ≡ 64) (low high : List ℕ) (kept_low : Kept w g s w low 5) (kept_high : Kept w g s (w + 30) high 6) where
    aligned : (bs : List ℕ) (r x v y m : ℕ) → 8 * length bs ≡ m → m ≤ 64 → r < 2 ^ w → Bytes bs → x ≡ r * 2 ^ s
        → v ≡ bit_xor (x * 2 ^ m / 2 ^ 64) (number bs) → y ≡ x * 2 ^ m % 2 ^ 64
        → bit_xor (bit_xor y (picked high 6 (v / 2 ^ 30))) (picked low 5 (v % 2 ^ 30)) ≡ run w g r bs * 2 ^ s
    aligned bs r x v y m c l hr h ex ev ey =
        ap₂ bit_xor (ap₂ bit_xor (ey ∙ rest) (picked_leaves w g s (w + 30) high 6 kept_high 6 (v / 2 ^ 30) (omega arith)))
        (picked_leaves w g s w low 5 kept_low 5 (v % 2 ^ 30) (omega arith))
        ∙ ap (λ (n : ℕ). bit_xor n (leaves w g w 5 (v % 2 ^ 30) * 2 ^ s))
        (sym (xor_mul (r * 2 ^ (8 * length bs) % 2 ^ w) (leaves w g (w + 30) 6 (v / 2 ^ 30)) s))
        ∙ sym (xor_mul (bit_xor (r * 2 ^ (8 * length bs) % 2 ^ w) (leaves w g (w + 30) 6 (v / 2 ^ 30))) (leaves w g w 5 (v % 2 ^ 30)) s)
        ∙ ap (λ (n : ℕ). n * 2 ^ s) (turn bs r v (omega (arith, c)) hr h (ev ∙ ap (λ (n : ℕ). bit_xor n (number bs)) top))
      where
        up : x * 2 ^ m ≡ r * 2 ^ (8 * length bs) * 2 ^ s
        up = ap₂ (λ (a n : ℕ). a * 2 ^ n) ex (sym c) ∙ mul_right_comm r (2 ^ s) (2 ^ (8 * length bs))

        top : x * 2 ^ m / 2 ^ 64 ≡ r * 2 ^ (8 * length bs) / 2 ^ w
        top =
            ap₂ (λ (a n : ℕ). a / 2 ^ n) up (sym room ∙ add_comm w s) ∙ sym (shr-shr (r * 2 ^ (8 * length bs) * 2 ^ s) s w)
            ∙ ap (λ (a : ℕ). a / 2 ^ w) (shl-shr (r * 2 ^ (8 * length bs)) s)

        rest : x * 2 ^ m % 2 ^ 64 ≡ r * 2 ^ (8 * length bs) % 2 ^ w * 2 ^ s
        rest =
            ap₂ (λ (a n : ℕ). a % 2 ^ n) up (sym room) ∙ mod-pow-add (r * 2 ^ (8 * length bs) * 2 ^ s) w s
            ∙ ap₂ (λ (a b : ℕ). a % 2 ^ w * 2 ^ s + b) (shl-shr (r * 2 ^ (8 * length bs)) s) (mul-mod_left (r * 2 ^ (8 * length bs)) (2 ^ s))
            ∙ add-zero (r * 2 ^ (8 * length bs) % 2 ^ w * 2 ^ s)

    -- the turns of a loop over the bytes of a that has come to the register x at place i
    module _ (r : ℕ) (a : List ℕ) (hr : r < 2 ^ w) (small : (k : ℕ) → get_or a k 0 < 256) (i x : ℕ) (so_far : x ≡ run w g r (take i a) * 2 ^ s) where
      pub turned : (n v y : ℕ) → n ≤ 8 → i + n ≤ length a → v ≡ bit_xor (x * 2 ^ (8 * n) / 2 ^ 64) (number (take n (drop i a))) → y ≡ x * 2 ^ (8 * n) % 2 ^ 64
          → bit_xor (bit_xor y (picked high 6 (v / 2 ^ 30))) (picked low 5 (v % 2 ^ 30)) ≡ run w g r (take (i + n) a) * 2 ^ s
      turned n v y few fits ev ey =
          let all : Bytes a = bytes_of_holds a small in
          let size : length (take n (drop i a)) ≡ n = length-take n (drop i a) ∙ ap (min n) (length-drop i a) ∙ omega arith in
          aligned (take n (drop i a)) (run w g r (take i a)) x v y (8 * n) (ap (λ (k : ℕ). 8 * k) size) (omega arith)
          (run_lt w g good (take i a) r hr (bytes_take i a all)) (bytes_take n (drop i a) (bytes_drop i a all)) so_far ev ey
          ∙ ap (λ (k : ℕ). k * 2 ^ s) (sym (run_append w g r (take i a) (take n (drop i a))) ∙ ap (run w g r) (sym (take-add i n a)))

-- The turns of the code: over the bytes that are left, with the rows of a width.
module _ (w g s : ℕ) (low high : List ℕ) (test : Test w g s low high) where
  -- a register with s zeros at its end is what stands above them, moved up
  pub raised : (x : ℕ) → x % 2 ^ s ≡ 0 → x ≡ x / 2 ^ s * 2 ^ s
  raised x free = sym (split x s) ∙ ap (λ (n : ℕ). x / 2 ^ s * 2 ^ s + n) free ∙ add-zero (x / 2 ^ s * 2 ^ s)

  -- the register that a turn leaves
  after_taken : {x v y : ℕ} {a behind : List ℕ} (t : Taken x a v y behind) → x < 2 ^ 64 → x % 2 ^ s ≡ 0 → Bytes a
      → bit_xor (bit_xor y (picked high 6 (v / 2 ^ 30))) (picked low 5 (v % 2 ^ 30)) ≡ run w g (x / 2 ^ s) (take t.count a) * 2 ^ s
  after_taken {x} {v} {y} {a} t fits free all =
      let below : x / 2 ^ s < 2 ^ w = shr_lt w s (subst (λ (n : ℕ). x < 2 ^ n) (sym test.room) fits) in
      turned w g test.good s test.room low high (low_kept w g s low high test) (high_kept w g s low high test) (x / 2 ^ s) a below (bytes_hold a all) 0 x
      (raised x free) t.count v y t.few (omega (arith, t.fits)) t.top t.rest
      ∙ ap (λ (n : ℕ). run w g (x / 2 ^ s) (take n a) * 2 ^ s) (zero-add t.count)

  -- A turn leaves s zeros at the end of the register, from which the bytes behind it come to what all of them come to from the register before it.
  pub goes_on : {x v y x' : ℕ} {a behind : List ℕ} → Taken x a v y behind → x < 2 ^ 64 → x % 2 ^ s ≡ 0 → Bytes a
      → x' ≡ bit_xor (bit_xor y (picked high 6 (v / 2 ^ 30))) (picked low 5 (v % 2 ^ 30))
      → (x' % 2 ^ s ≡ 0) × (run w g (x' / 2 ^ s) behind ≡ run w g (x / 2 ^ s) a)
  goes_on {x} {v} {y} {x'} {a} {behind} t fits free all e =
      let e' : x' ≡ run w g (x / 2 ^ s) (take t.count a) * 2 ^ s = e ∙ after_taken t fits free all in (
        ap (λ (n : ℕ). n % 2 ^ s) e' ∙ mul-mod_left (run w g (x / 2 ^ s) (take t.count a)) (2 ^ s),
        ap₂ (run w g) (ap (λ (n : ℕ). n / 2 ^ s) e' ∙ shl-shr (run w g (x / 2 ^ s) (take t.count a)) s) t.left
            ∙ sym (run_append w g (x / 2 ^ s) (take t.count a) (drop t.count a)) ∙ ap (run w g (x / 2 ^ s)) (take-append-drop t.count a),
      )
