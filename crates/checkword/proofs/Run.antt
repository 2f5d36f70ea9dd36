-- The register after a list of bytes. Eight bits that go in one after the other are the byte put into the top and shifted through; so the register is
-- linear, no two registers come to one over the same bytes, and a few bytes, highest first, are one number that is shifted through.
-- Assumes nothing.
use mathlib.Core.Path.{◌≡◌, refl, sym, ap, ap₂, ◌∙◌, subst}
use mathlib.Core.List.{List, [], ◌∷◌, ◌++◌}
use Prim.Native.Nat.{ℕ, zero, suc, ◌+◌, ◌-◌, ◌*◌, ◌/◌, ◌%◌, ◌^◌, ◌≤◌, ◌<◌, min}
use native.Mathlib.Nat.{zero-mul, mul_assoc, eq_of_mul-eq-mul_right, mod-lt, mod-one, mod-eq_of_lt, zero-lt-suc}
use native.Mathlib.Omega.{arith}
use lib.Pow.{pow_pos, pow-add, shl_lt, shl-shr, mod-pow-add}
use lib.ListN.{length, take, drop, length-take, length-drop, take-append-drop}
use lib.Seq.{drop-drop}
use lib.Bits.{bit_xor, xor_lt, xor_zero_r, xor_shifted}
use Rattle.checkword.specs.Bytes.{Bytes, xors, number}
use Rattle.checkword.specs.Polynomial.{Generator}
use Rattle.checkword.specs.Word.{shift, enter, entered, bits, feed, run, word}
use Rattle.checkword.proofs.Xor.{xor_assoc, xor_swap, xor_cancel_l, xor_cancel_r, xor_mul}
use Rattle.checkword.proofs.Bytes.{number_lt, number_inj, bytes_take, bytes_drop}
use Rattle.checkword.proofs.Shift.{shifts, shift_lin, shift_free, shift_lt, shifts_free, shifts_add, shifts_lt, shifts_lin, shifts_inj}

pub run_append : (w g r : ℕ) (a b : List ℕ) → run w g r (a ++ b) ≡ run w g (run w g r a) b
run_append w g r [] b = refl
run_append w g r (x ∷ xs) b = run_append w g (feed w g r x) xs b

-- a second run that goes on from the register of the first, both with the register s bits up, ends with the word of the two, one after the other
pub two_runs : (w g s : ℕ) (a b : List ℕ) {x y : ℕ} → x ≡ run w g 0 a * 2 ^ s → y ≡ run w g (x / 2 ^ s) b * 2 ^ s → y / 2 ^ s ≡ word w g (a ++ b)
two_runs w g s a b {x} {y} e f =
    ap (λ (n : ℕ). n / 2 ^ s) f ∙ shl-shr (run w g (x / 2 ^ s) b) s
    ∙ ap (λ (r : ℕ). run w g r b) (ap (λ (n : ℕ). n / 2 ^ s) e ∙ shl-shr (run w g 0 a) s) ∙ sym (run_append w g 0 a b)

module _ (w g : ℕ) (good : Generator w g) where
  -- the n lowest bits of b, one after the other, are one number below the top of the register that is shifted through
  entered_is : (n k r b : ℕ) → w ≡ n + k → r < 2 ^ w → entered w g r (bits n b) ≡ shifts w g n (bit_xor r (b % 2 ^ n * 2 ^ k))
  entered_is zero k r b e hr = sym (ap (λ (x : ℕ). bit_xor r (x * 2 ^ k)) (mod-one b) ∙ ap (bit_xor r) (zero-mul (2 ^ k)) ∙ xor_zero_r r)
  entered_is (suc n) k r b e hr =
      entered_is n (k + 1) (enter w g r d) b (omega arith) (shift_lt w g good (bit_xor r top) (xor_lt w r top hr top_lt))
      ∙ ap (λ (x : ℕ). shifts w g n (bit_xor (enter w g r d) x)) moved
      ∙ ap (shifts w g n) (sym (shift_lin w g (bit_xor r top) rest (xor_lt w r top hr top_lt) rest_lt))
      ∙ ap (shifts w g (suc n)) (xor_assoc r top rest ∙ ap (bit_xor r) joined)
    where
      d : ℕ
      d = b / 2 ^ n % 2

      top : ℕ
      top = d * 2 ^ (w - 1)

      rest : ℕ
      rest = b % 2 ^ n * 2 ^ k

      top_lt : top < 2 ^ w
      top_lt =
          subst (λ (x : ℕ). d * 2 ^ (w - 1) < 2 ^ x) (omega arith) (shl_lt 1 (w - 1) (mod-lt (b / 2 ^ n) (zero-lt-suc 1)))

      twice : b % 2 ^ n * 2 ^ (k + 1) ≡ rest * 2
      twice = ap (λ (x : ℕ). b % 2 ^ n * x) (pow-add 2 k 1) ∙ sym (mul_assoc (b % 2 ^ n) (2 ^ k) 2)

      free : rest * 2 < 2 ^ w
      free =
          subst (λ (x : ℕ). x < 2 ^ w) twice
          (subst (λ (x : ℕ). b % 2 ^ n * 2 ^ (k + 1) < 2 ^ x) (omega arith) (shl_lt n (k + 1) (mod-lt b (pow_pos n))))

      rest_lt : rest < 2 ^ w
      rest_lt = omega (arith, free)

      moved : b % 2 ^ n * 2 ^ (k + 1) ≡ shift w g rest
      moved = twice ∙ sym (shift_free w g rest free)

      joined : bit_xor top rest ≡ b % 2 ^ suc n * 2 ^ k
      joined =
          ap (λ (x : ℕ). bit_xor x rest)
          (ap (λ (x : ℕ). d * 2 ^ x) (omega arith) ∙ ap (λ (x : ℕ). d * x) (pow-add 2 n k) ∙ sym (mul_assoc d (2 ^ n) (2 ^ k)))
          ∙ sym (xor_mul (d * 2 ^ n) (b % 2 ^ n) k)
          ∙ ap (λ (x : ℕ). x * 2 ^ k)
          (xor_shifted d n (b % 2 ^ n) (mod-lt b (pow_pos n)) ∙ sym (mod-pow-add b 1 n) ∙ ap (λ (x : ℕ). b % 2 ^ x) (omega arith))

  -- a byte that goes in is put into the top of the register and shifted through
  pub feed_is : (r b : ℕ) → r < 2 ^ w → b < 256 → feed w g r b ≡ shifts w g 8 (bit_xor r (b * 2 ^ (w - 8)))
  unfolding feed
  feed_is r b hr hb =
      entered_is 8 (w - 8) r b (omega (arith, good.wide)) hr
      ∙ ap (λ (x : ℕ). shifts w g 8 (bit_xor r (x * 2 ^ (w - 8)))) (mod-eq_of_lt hb)

  pub top_lt : {b : ℕ} → b < 256 → b * 2 ^ (w - 8) < 2 ^ w
  top_lt {b} h = subst (λ (n : ℕ). b * 2 ^ (w - 8) < 2 ^ n) (omega (arith, good.wide)) (shl_lt 8 (w - 8) h)

  -- what is shifted through fits the register
  pub with_lt : {r b : ℕ} → r < 2 ^ w → b < 256 → bit_xor r (b * 2 ^ (w - 8)) < 2 ^ w
  with_lt {r} {b} hr hb = xor_lt w r (b * 2 ^ (w - 8)) hr (top_lt hb)

  pub feed_lt : (r b : ℕ) → r < 2 ^ w → b < 256 → feed w g r b < 2 ^ w
  feed_lt r b hr hb =
      subst (λ (x : ℕ). x < 2 ^ w) (sym (feed_is r b hr hb)) (shifts_lt w g good 8 (bit_xor r (b * 2 ^ (w - 8))) (with_lt hr hb))

  pub run_lt : (bs : List ℕ) (r : ℕ) → r < 2 ^ w → Bytes bs → run w g r bs < 2 ^ w
  run_lt [] r hr h = hr
  run_lt (b ∷ bs) r hr h = run_lt bs (feed w g r b) (feed_lt r b hr h.0) h.1

  byte_lt : {a b : ℕ} → a < 256 → b < 256 → bit_xor a b < 256
  byte_lt {a} {b} ha hb = xor_lt 8 a b ha hb

  feed_lin : (r s a b : ℕ) → r < 2 ^ w → s < 2 ^ w → a < 256 → b < 256
      → feed w g (bit_xor r s) (bit_xor a b) ≡ bit_xor (feed w g r a) (feed w g s b)
  feed_lin r s a b hr hs ha hb =
      feed_is (bit_xor r s) (bit_xor a b) (xor_lt w r s hr hs) (byte_lt ha hb)
      ∙ ap (λ (x : ℕ). shifts w g 8 (bit_xor (bit_xor r s) x)) (xor_mul a b (w - 8))
      ∙ ap (shifts w g 8) (xor_swap r s (a * 2 ^ (w - 8)) (b * 2 ^ (w - 8)))
      ∙ shifts_lin w g good 8 (bit_xor r (a * 2 ^ (w - 8))) (bit_xor s (b * 2 ^ (w - 8))) (with_lt hr ha) (with_lt hs hb)
      ∙ sym (ap₂ bit_xor (feed_is r a hr ha) (feed_is s b hs hb))

  pub run_lin : (a b : List ℕ) (r s : ℕ) → length a ≡ length b → r < 2 ^ w → s < 2 ^ w → Bytes a → Bytes b
      → run w g (bit_xor r s) (xors a b) ≡ bit_xor (run w g r a) (run w g s b)
  run_lin [] [] r s l hr hs ha hb = refl
  run_lin [] (y ∷ ys) r s l hr hs ha hb = absurd (omega arith)
  run_lin (x ∷ xs) [] r s l hr hs ha hb = absurd (omega arith)
  run_lin (x ∷ xs) (y ∷ ys) r s l hr hs ha hb =
      ap (λ (n : ℕ). run w g n (xors xs ys)) (feed_lin r s x y hr hs ha.0 hb.0)
      ∙ run_lin xs ys (feed w g r x) (feed w g s y) (omega arith) (feed_lt r x hr ha.0) (feed_lt s y hs hb.0) ha.1 hb.1

  feed_plus : (r b t : ℕ) → r < 2 ^ w → b < 256 → t < 2 ^ w
      → bit_xor (feed w g r b) (shifts w g 8 t) ≡ shifts w g 8 (bit_xor (bit_xor r (b * 2 ^ (w - 8))) t)
  feed_plus r b t hr hb ht =
      ap (λ (x : ℕ). bit_xor x (shifts w g 8 t)) (feed_is r b hr hb)
      ∙ sym (shifts_lin w g good 8 (bit_xor r (b * 2 ^ (w - 8))) t (with_lt hr hb) ht)

  -- a few bytes are one number, that is put below the top and shifted through: at k ≡ 0 it fills the register
  pub run_is : (bs : List ℕ) (k r : ℕ) → w ≡ k + 8 * length bs → r < 2 ^ w → Bytes bs
      → run w g r bs ≡ shifts w g (8 * length bs) (bit_xor r (number bs * 2 ^ k))
  run_is [] k r e hr h = sym (ap (bit_xor r) (zero-mul (2 ^ k)) ∙ xor_zero_r r)
  run_is (b ∷ bs) k r e hr h =
      let below : number bs * 2 ^ (k + 8) < 2 ^ w =
      subst (λ (x : ℕ). number bs * 2 ^ (k + 8) < 2 ^ x) (omega arith) (shl_lt (8 * length bs) (k + 8) (number_lt bs h.1)) in
      let below' : number bs * 2 ^ k < 2 ^ w = fewer below in
      let eight : number bs * 2 ^ (k + 8) ≡ shifts w g 8 (number bs * 2 ^ k) = through below in
      let ih : run w g (feed w g r b) bs ≡ shifts w g (8 * length bs) (bit_xor (feed w g r b) (number bs * 2 ^ (k + 8))) =
      run_is bs (k + 8) (feed w g r b) (omega arith) (feed_lt r b hr h.0) h.1 in
      let count : 8 + 8 * length bs ≡ 8 * suc (length bs) = omega arith in
      ih ∙ ap (shifts w g (8 * length bs)) (ap (bit_xor (feed w g r b)) eight ∙ feed_plus r b (number bs * 2 ^ k) hr h.0 below')
      ∙ sym (shifts_add w g 8 (8 * length bs) (bit_xor (bit_xor r (b * 2 ^ (w - 8))) (number bs * 2 ^ k)))
      ∙ ap₂ (shifts w g) count (xor_assoc r (b * 2 ^ (w - 8)) (number bs * 2 ^ k) ∙ ap (bit_xor r) joined)
    where
      twice : number bs * 2 ^ (k + 8) ≡ number bs * 2 ^ k * 2 ^ 8
      twice = ap (λ (x : ℕ). number bs * x) (pow-add 2 k 8) ∙ sym (mul_assoc (number bs) (2 ^ k) 256)

      fewer : number bs * 2 ^ (k + 8) < 2 ^ w → number bs * 2 ^ k < 2 ^ w
      fewer below = omega (arith, twice)

      through : number bs * 2 ^ (k + 8) < 2 ^ w → number bs * 2 ^ (k + 8) ≡ shifts w g 8 (number bs * 2 ^ k)
      through below = twice ∙ sym (shifts_free w g 8 (number bs * 2 ^ k) (subst (λ (x : ℕ). x < 2 ^ w) twice below))

      joined : bit_xor (b * 2 ^ (w - 8)) (number bs * 2 ^ k) ≡ (b * 2 ^ (8 * length bs) + number bs) * 2 ^ k
      joined =
          ap (λ (x : ℕ). bit_xor x (number bs * 2 ^ k))
          (ap (λ (x : ℕ). b * 2 ^ x) (omega arith) ∙ ap (λ (x : ℕ). b * x) (pow-add 2 (8 * length bs) k) ∙ sym (mul_assoc b (2 ^ (8 * length bs)) (2 ^ k)))
          ∙ sym (xor_mul (b * 2 ^ (8 * length bs)) (number bs) k)
          ∙ ap (λ (x : ℕ). x * 2 ^ k) (xor_shifted b (8 * length bs) (number bs) (number_lt bs h.1))

  feed_inj : (r s b : ℕ) → r < 2 ^ w → s < 2 ^ w → b < 256 → feed w g r b ≡ feed w g s b → r ≡ s
  feed_inj r s b hr hs hb e =
      xor_cancel_r (b * 2 ^ (w - 8))
      (shifts_inj w g good 8 (bit_xor r (b * 2 ^ (w - 8))) (bit_xor s (b * 2 ^ (w - 8))) (with_lt hr hb) (with_lt hs hb)
      (sym (feed_is r b hr hb) ∙ e ∙ feed_is s b hs hb))

  -- no two registers come to one over the same bytes
  pub run_inj : (bs : List ℕ) (r s : ℕ) → r < 2 ^ w → s < 2 ^ w → Bytes bs → run w g r bs ≡ run w g s bs → r ≡ s
  run_inj [] r s hr hs h e = e
  run_inj (b ∷ bs) r s hr hs h e =
      feed_inj r s b hr hs h.0
      (run_inj bs (feed w g r b) (feed w g s b) (feed_lt r b hr h.0) (feed_lt s b hs h.0) h.1 e)

  -- from one register, no two lists of the same few bytes come to one
  pub few_inj : (x y : List ℕ) (r : ℕ) → length x ≡ length y → 8 * length x ≤ w → r < 2 ^ w → Bytes x → Bytes y
      → run w g r x ≡ run w g r y → x ≡ y
  few_inj x y r l few hr hx hy e =
      number_inj x y l hx hy
      (eq_of_mul-eq-mul_right (2 ^ k) (pow_pos k) (number x) (number y)
      (xor_cancel_l r
      (shifts_inj w g good (8 * length x) (bit_xor r (number x * 2 ^ k)) (bit_xor r (number y * 2 ^ k))
      (xor_lt w r (number x * 2 ^ k) hr (fits x hx (omega arith))) (xor_lt w r (number y * 2 ^ k) hr (fits y hy (omega arith)))
      (sym (run_is x k r (omega arith) hr hx) ∙ e ∙ run_is y k r (omega arith) hr hy
      ∙ ap (λ (n : ℕ). shifts w g (8 * n) (bit_xor r (number y * 2 ^ k))) (sym l)))))
    where
      k : ℕ
      k = w - 8 * length x

      fits : (z : List ℕ) → Bytes z → 8 * length z + k ≡ w → number z * 2 ^ k < 2 ^ w
      fits z h e = subst (λ (n : ℕ). number z * 2 ^ k < 2 ^ n) e (shl_lt (8 * length z) k (number_lt z h))

  -- two lists that agree before place i and from place i + n on, with n bytes no longer than the register, and have one word, are one
  pub parts_equal : (a b : List ℕ) (i n : ℕ) → length a ≡ length b → 8 * n ≤ w → Bytes a → Bytes b
      → take i a ≡ take i b → drop (i + n) a ≡ drop (i + n) b → word w g a ≡ word w g b → a ≡ b
  parts_equal a b i n l few ha hb before after e =
      sym (parts a)
      ∙ ap₂ {C = List ℕ} (λ (s t : List ℕ). s ++ t) before (ap₂ {C = List ℕ} (λ (s t : List ℕ). s ++ t) middle after)
      ∙ parts b
    where
      parts : (c : List ℕ) → take i c ++ (take n (drop i c) ++ drop (i + n) c) ≡ c
      parts c =
          ap {B = List ℕ} (λ (t : List ℕ). take i c ++ (take n (drop i c) ++ t)) (sym (drop-drop n i c))
          ∙ ap {B = List ℕ} (λ (t : List ℕ). take i c ++ t) (take-append-drop n (drop i c)) ∙ take-append-drop i c

      along : (c : List ℕ) → word w g c ≡ run w g (run w g (word w g (take i c)) (take n (drop i c))) (drop (i + n) c)
      along c =
          ap (word w g) (sym (parts c)) ∙ run_append w g 0 (take i c) (take n (drop i c) ++ drop (i + n) c)
          ∙ run_append w g (word w g (take i c)) (take n (drop i c)) (drop (i + n) c)

      r : ℕ
      r = word w g (take i a)

      r_lt : r < 2 ^ w
      r_lt = run_lt (take i a) 0 (pow_pos w) (bytes_take i a ha)

      x_bytes : Bytes (take n (drop i a))
      x_bytes = bytes_take n (drop i a) (bytes_drop i a ha)

      y_bytes : Bytes (take n (drop i b))
      y_bytes = bytes_take n (drop i b) (bytes_drop i b hb)

      one : run w g (run w g r (take n (drop i a))) (drop (i + n) a) ≡ run w g (run w g r (take n (drop i b))) (drop (i + n) a)
      one =
          sym (along a) ∙ e ∙ along b
          ∙ ap₂ (λ (s t : List ℕ). run w g (run w g (word w g s) (take n (drop i b))) t) (sym before) (sym after)

      size : (c : List ℕ) → length (take n (drop i c)) ≡ min n (length c - i)
      size c = length-take n (drop i c) ∙ ap (min n) (length-drop i c)

      middle : take n (drop i a) ≡ take n (drop i b)
      middle =
          few_inj (take n (drop i a)) (take n (drop i b)) r (omega (arith, size a, size b)) (omega (arith, size a)) r_lt x_bytes y_bytes
          (run_inj (drop (i + n) a) (run w g r (take n (drop i a))) (run w g r (take n (drop i b))) (run_lt (take n (drop i a)) r r_lt x_bytes)
          (run_lt (take n (drop i b)) r r_lt y_bytes) (bytes_drop (i + n) a ha) one)
