-- The word of a list of bytes is the remainder, by the generator, of the number that they write times x^w: each shift leaves the remainder as it is,
-- and a multiple of the generator with no term from x^w on is 0, so there is one remainder only.
-- Assumes nothing.
use mathlib.Core.Path.{◌≡◌, refl, sym, ap, ap₂, ◌∙◌, subst}
use mathlib.Core.Bool.{Bool, true, false}
use mathlib.Core.List.{List, [], ◌∷◌, ◌++◌, map}
use Prim.Native.Nat.{ℕ, zero, suc, ◌+◌, ◌-◌, ◌*◌, ◌/◌, ◌^◌, ◌<◌}
use native.Mathlib.Nat.{zero-mul, mul-one, mul_assoc, mul_right_comm, pow-suc, sub-add_cancel, div-lt_iff_lt-mul, div-eq_of_lt}
use native.Mathlib.Omega.{arith}
use lib.Pow.{pow_pos, pow-add}
use lib.ListN.{length}
use lib.Bits.{bit_xor, xor_zero_r, xor_self, xor_comm, xor_shr, xor_shifted, xor_lt}
use Rattle.checkword.specs.Bytes.{Bytes, number}
use Rattle.checkword.specs.Polynomial.{times, Generator, Remainder}
use Rattle.checkword.specs.Word.{fallen, shift, feed, run, word}
use Rattle.checkword.proofs.Xor.{xor_assoc, xor_swap, xor_twice, xor_mul}
use Rattle.checkword.proofs.Bytes.{number_lt}
use Rattle.checkword.proofs.Shift.{shifts}
use Rattle.checkword.proofs.Run.{feed_is, feed_lt, run_lt}

-- A sum of quotients, and a quotient times x.

times_append : (g : ℕ) (p q : List ℕ) → times (p ++ q) g ≡ bit_xor (times p g) (times q g)
times_append g [] q = refl
times_append g (e ∷ es) q = ap (bit_xor (g * 2 ^ e)) (times_append g es q) ∙ sym (xor_assoc (g * 2 ^ e) (times es g) (times q g))

double_pow : (a n : ℕ) → a * 2 ^ n * 2 ≡ a * 2 ^ suc n
double_pow a n = mul_assoc a (2 ^ n) 2 ∙ ap (λ (x : ℕ). a * x) (sym (pow-suc 2 n))

times_up : (g : ℕ) (p : List ℕ) → times (map suc p) g ≡ times p g * 2
times_up g [] = refl
times_up g (e ∷ es) = ap₂ bit_xor (sym (double_pow g e)) (times_up g es) ∙ sym (xor_mul (g * 2 ^ e) (times es g) 1)

-- a and b leave one remainder: their difference, which is their exclusive-or, is a multiple of g
pub record Same (g a b : ℕ) : Type 0 where
  pub quotient : List ℕ
  pub exact : bit_xor a b ≡ times quotient g

module _ (g : ℕ) where
  pub same_refl : (a : ℕ) → Same g a a
  same_refl a = record { quotient = []; exact = xor_self a }

  same_trans : {a b c : ℕ} → Same g a b → Same g b c → Same g a c
  same_trans {a} {b} {c} p q =
      record {
        quotient = p.quotient ++ q.quotient;
        exact =
            sym (xor_assoc a b (bit_xor b c) ∙ ap (bit_xor a) (xor_twice b c)) ∙ ap₂ bit_xor p.exact q.exact
            ∙ sym (times_append g p.quotient q.quotient);
      }

  pub same_eq : {a b c d : ℕ} → a ≡ c → b ≡ d → Same g a b → Same g c d
  same_eq e f p = record { quotient = p.quotient; exact = sym (ap₂ bit_xor e f) ∙ p.exact }

  same_add : {a b : ℕ} (c : ℕ) → Same g a b → Same g (bit_xor a c) (bit_xor b c)
  same_add {a} {b} c p =
      record {
        quotient = p.quotient;
        exact = xor_swap a c b c ∙ ap (bit_xor (bit_xor a b)) (xor_self c) ∙ xor_zero_r (bit_xor a b) ∙ p.exact;
      }

  pub same_both : {a b c d : ℕ} → Same g a b → Same g c d → Same g (bit_xor a c) (bit_xor b d)
  same_both {a} {b} {c} {d} p q = same_trans (same_add c p) (same_eq (xor_comm c b) (xor_comm d b) (same_add b q))

  same_double : {a b : ℕ} → Same g a b → Same g (a * 2) (b * 2)
  same_double {a} {b} p =
      record {
        quotient = map suc p.quotient;
        exact = sym (xor_mul a b 1) ∙ ap (λ (x : ℕ). x * 2) p.exact ∙ sym (times_up g p.quotient);
      }

  same_up : (n : ℕ) {a b : ℕ} → Same g a b → Same g (a * 2 ^ n) (b * 2 ^ n)
  same_up zero {a} {b} p = same_eq (sym (mul-one a)) (sym (mul-one b)) p
  same_up (suc n) {a} {b} p = same_eq (double_pow a n) (double_pow b n) (same_double (same_up n p))

  fallen_times : (c : ℕ) → (q : List ℕ) × (fallen g c ≡ times q g)
  fallen_times zero = ([], refl)
  fallen_times (suc c) = (0 ∷ [], sym (xor_zero_r (g * 1) ∙ mul-one g))

  shift_same : (w r : ℕ) → Same g (r * 2) (shift w g r)
  unfolding shift
  shift_same w r =
      let f = fallen_times (r * 2 / 2 ^ w) in
      record { quotient = f.0; exact = xor_twice (r * 2) (fallen g (r * 2 / 2 ^ w)) ∙ f.1 }

  pub shifts_same : (w n r : ℕ) → Same g (r * 2 ^ n) (shifts w g n r)
  shifts_same w zero r = same_eq (sym (mul-one r)) refl (same_refl r)
  shifts_same w (suc n) r =
      let e : r * 2 * 2 ^ n ≡ r * 2 ^ suc n = mul_right_comm r 2 (2 ^ n) ∙ double_pow r n in
      same_trans (same_eq e refl (same_up n (shift_same w r))) (shifts_same w n (shift w g r))

module _ (w g : ℕ) (good : Generator w g) where
  feed_same : (r b : ℕ) → r < 2 ^ w → b < 256 → Same g (bit_xor (r * 2 ^ 8) (b * 2 ^ w)) (feed w g r b)
  feed_same r b hr hb =
      let e : b * 2 ^ (w - 8) * 2 ^ 8 ≡ b * 2 ^ w =
      mul_assoc b (2 ^ (w - 8)) (2 ^ 8) ∙ ap (λ (x : ℕ). b * x) (sym (pow-add 2 (w - 8) 8) ∙ ap (λ (n : ℕ). 2 ^ n) (sub-add_cancel good.wide)) in
      same_eq g (xor_mul r (b * 2 ^ (w - 8)) 8 ∙ ap (bit_xor (r * 2 ^ 8)) e) (sym (feed_is w g good r b hr hb))
      (shifts_same g w 8 (bit_xor r (b * 2 ^ (w - 8))))

  -- the register after the bytes leaves the remainder of what it was, moved up by the bytes, and of the bytes
  pub run_same : (bs : List ℕ) (r : ℕ) → r < 2 ^ w → Bytes bs → Same g (bit_xor (r * 2 ^ (8 * length bs)) (number bs * 2 ^ w)) (run w g r bs)
  run_same [] r hr h = same_eq g (sym (ap₂ bit_xor (mul-one r) (zero-mul (2 ^ w)) ∙ xor_zero_r r)) refl (same_refl g r)
  run_same (b ∷ bs) r hr h =
      same_trans g (same_eq g joined refl (same_add g (number bs * 2 ^ w) (same_up g (8 * length bs) (feed_same r b hr h.0))))
      (run_same bs (feed w g r b) (feed_lt w g good r b hr h.0) h.1)
    where
      up : r * 2 ^ 8 * 2 ^ (8 * length bs) ≡ r * 2 ^ (8 * suc (length bs))
      up =
          mul_assoc r (2 ^ 8) (2 ^ (8 * length bs))
          ∙ ap (λ (x : ℕ). r * x) (sym (pow-add 2 8 (8 * length bs)) ∙ ap (λ (n : ℕ). 2 ^ n) (omega arith))

      written : bit_xor (b * 2 ^ w * 2 ^ (8 * length bs)) (number bs * 2 ^ w) ≡ (b * 2 ^ (8 * length bs) + number bs) * 2 ^ w
      written =
          ap (λ (x : ℕ). bit_xor x (number bs * 2 ^ w)) (mul_right_comm b (2 ^ w) (2 ^ (8 * length bs)))
          ∙ sym (xor_mul (b * 2 ^ (8 * length bs)) (number bs) w)
          ∙ ap (λ (x : ℕ). x * 2 ^ w) (xor_shifted b (8 * length bs) (number bs) (number_lt bs h.1))

      joined : bit_xor (bit_xor (r * 2 ^ 8) (b * 2 ^ w) * 2 ^ (8 * length bs)) (number bs * 2 ^ w)
          ≡ bit_xor (r * 2 ^ (8 * suc (length bs))) ((b * 2 ^ (8 * length bs) + number bs) * 2 ^ w)
      joined =
          ap (λ (x : ℕ). bit_xor x (number bs * 2 ^ w)) (xor_mul (r * 2 ^ 8) (b * 2 ^ w) (8 * length bs))
          ∙ xor_assoc (r * 2 ^ 8 * 2 ^ (8 * length bs)) (b * 2 ^ w * 2 ^ (8 * length bs)) (number bs * 2 ^ w)
          ∙ ap₂ bit_xor up written

  remainder_of : {a r : ℕ} → Same g a r → r < 2 ^ w → Remainder w g a r
  remainder_of {a} {r} s h =
      record {
        quotient = s.quotient;
        exact = sym (xor_zero_r a) ∙ ap (bit_xor a) (sym (xor_self r)) ∙ sym (xor_assoc a r r) ∙ ap (λ (n : ℕ). bit_xor n r) s.exact;
        below = h;
      }

  pub word_remainder : (bs : List ℕ) → Bytes bs → Remainder w g (number bs * 2 ^ w) (word w g bs)
  word_remainder bs h =
      let e : bit_xor (0 * 2 ^ (8 * length bs)) (number bs * 2 ^ w) ≡ number bs * 2 ^ w =
      ap (λ (x : ℕ). bit_xor x (number bs * 2 ^ w)) (zero-mul (2 ^ (8 * length bs))) in
      remainder_of (same_eq g e refl (run_same bs 0 (pow_pos w) h)) (run_lt w g good bs 0 (pow_pos w) h)

-- A quotient by its coefficients, lowest first: so a multiple of g can be taken apart from its lowest term on.

once : Bool → ℕ → ℕ
once true g = g
once false g = 0

sum : ℕ → List Bool → ℕ
unfolding once
sum g [] = 0
sum g (c ∷ cs) = bit_xor (once c g) (sum g cs * 2)

either : Bool → Bool → Bool
either true true = false
either true false = true
either false d = d

once_either : (g : ℕ) (c d : Bool) → once (either c d) g ≡ bit_xor (once c g) (once d g)
unfolding either once
once_either g true true = sym (xor_self g)
once_either g true false = sym (xor_zero_r g)
once_either g false d = refl

plus : List Bool → List Bool → List Bool
plus [] q = q
plus (c ∷ cs) [] = c ∷ cs
plus (c ∷ cs) (d ∷ ds) = either c d ∷ plus cs ds

sum_plus : (g : ℕ) (p q : List Bool) → sum g (plus p q) ≡ bit_xor (sum g p) (sum g q)
unfolding plus sum
sum_plus g [] q = refl
sum_plus g (c ∷ cs) [] = sym (xor_zero_r (sum g (c ∷ cs)))
sum_plus g (c ∷ cs) (d ∷ ds) =
    ap₂ (λ (x y : ℕ). bit_xor x (y * 2)) (once_either g c d) (sum_plus g cs ds)
    ∙ ap (bit_xor (bit_xor (once c g) (once d g))) (xor_mul (sum g cs) (sum g ds) 1)
    ∙ xor_swap (once c g) (once d g) (sum g cs * 2) (sum g ds * 2)

term : ℕ → List Bool
term zero = true ∷ []
term (suc e) = false ∷ term e

sum_term : (g e : ℕ) → sum g (term e) ≡ g * 2 ^ e
unfolding once term sum
sum_term g zero = xor_zero_r g ∙ sym (mul-one g)
sum_term g (suc e) = ap (λ (x : ℕ). x * 2) (sum_term g e) ∙ double_pow g e

coefficients : List ℕ → List Bool
coefficients [] = []
coefficients (e ∷ es) = plus (term e) (coefficients es)

sum_times : (g : ℕ) (es : List ℕ) → sum g (coefficients es) ≡ times es g
unfolding coefficients sum
sum_times g [] = refl
sum_times g (e ∷ es) = sum_plus g (term e) (coefficients es) ∙ ap₂ bit_xor (sum_term g e) (sum_times g es)

-- a multiple of a generator of degree w that has no term from x^w on is 0
sum_small : (w g : ℕ) → g / 2 ^ w ≡ 1 → (q : List Bool) → sum g q < 2 ^ w → sum g q ≡ 0
unfolding sum
sum_small w g degree [] h = refl
sum_small w g degree (c ∷ cs) h =
    let e : sum g cs ≡ 0 = sum_small w g degree cs below in
    let f : bit_xor (once c g) (sum g cs * 2) ≡ once c g = ap (λ (x : ℕ). bit_xor (once c g) (x * 2)) e ∙ xor_zero_r (once c g) in
    f ∙ first c (subst (λ (x : ℕ). x < 2 ^ w) f h)
  where
    first : (d : Bool) → once d g < 2 ^ w → once d g ≡ 0
    first true l = absurd (omega (arith, sym (div-eq_of_lt l) ∙ degree))
    first false l = refl

    next : 2 ^ suc w ≡ 2 ^ w * 2
    next = pow-suc 2 w

    -- one place further up there is nothing of the generator
    beyond : (d : Bool) → once d g / 2 ^ suc w ≡ 0
    beyond true =
        let l : g < 2 * 2 ^ w = (div-lt_iff_lt-mul (pow_pos w)).0 (omega arith) in
        div-eq_of_lt (omega (arith, next))
    beyond false = div-eq_of_lt (pow_pos (suc w))

    below : sum g cs < 2 ^ w
    below =
        let z : bit_xor (once c g) (sum g cs * 2) / 2 ^ suc w ≡ 0 = div-eq_of_lt (omega (arith, next)) in
        let e : sum g cs * 2 / 2 ^ suc w ≡ 0 =
        ap (λ (x : ℕ). bit_xor x (sum g cs * 2 / 2 ^ suc w)) (sym (beyond c)) ∙ sym (xor_shr (once c g) (sum g cs * 2) (suc w)) ∙ z in
        let l : sum g cs * 2 < 1 * 2 ^ suc w = (div-lt_iff_lt-mul (pow_pos (suc w))).0 (omega arith) in
        omega (arith, next)

-- two remainders of one number are one
pub remainder_unique : (w g : ℕ) → Generator w g → {a r s : ℕ} → Remainder w g a r → Remainder w g a s → r ≡ s
remainder_unique w g good {a} {r} {s} p q =
    let apart : bit_xor (times p.quotient g) (times q.quotient g) ≡ bit_xor r s =
    sym (xor_zero_r (bit_xor (times p.quotient g) (times q.quotient g)))
    ∙ ap (bit_xor (bit_xor (times p.quotient g) (times q.quotient g))) (sym (xor_self (bit_xor r s)))
    ∙ sym (xor_assoc (bit_xor (times p.quotient g) (times q.quotient g)) (bit_xor r s) (bit_xor r s))
    ∙ ap (λ (n : ℕ). bit_xor n (bit_xor r s))
    (xor_swap (times p.quotient g) (times q.quotient g) r s ∙ ap₂ bit_xor (sym p.exact) (sym q.exact) ∙ xor_self a) in
    let multiple : sum g (coefficients (p.quotient ++ q.quotient)) ≡ bit_xor r s =
    sum_times g (p.quotient ++ q.quotient) ∙ times_append g p.quotient q.quotient ∙ apart in
    let none : bit_xor r s ≡ 0 =
    sym multiple
    ∙ sum_small w g good.degree (coefficients (p.quotient ++ q.quotient))
    (subst (λ (n : ℕ). n < 2 ^ w) (sym multiple) (xor_lt w r s p.below q.below)) in
    sym (xor_zero_r r) ∙ ap (bit_xor r) (sym none) ∙ xor_twice r s

-- two numbers below 2 ^ w that leave the remainder of one number are equal
pub same_unique : (w g : ℕ) → Generator w g → {a r s : ℕ} → Same g a r → Same g a s → r < 2 ^ w → s < 2 ^ w → r ≡ s
same_unique w g good p q hr hs = remainder_unique w g good (remainder_of w g good p hr) (remainder_of w g good q hs)
