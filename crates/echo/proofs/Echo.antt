-- A change of the header, no longer than the check word, is seen though it changes the implicit bytes with it. If it were not, the changed bytes would be
-- the check word of the implicit bytes' change and the zeros up to them; elimination over the 24 bits of that change leaves no change but none.
-- Assumes nothing.
use mathlib.Core.Path.{◌≡◌, refl, sym, ap, ap₂, ◌∙◌, subst}
use mathlib.Core.List.{List, [], ◌∷◌, ◌++◌, append-nil}
use Prim.Native.Nat.{ℕ, zero, suc, ◌+◌, ◌-◌, ◌*◌, ◌/◌, ◌%◌, ◌^◌, ◌≤◌, ◌<◌}
use native.Mathlib.Nat.{mod-eq_of_lt, div-lt_iff_lt-mul, zero-mul, mul-one}
use native.Mathlib.Omega.{arith}
use lib.Bits.{bit_xor, xor_self, xor_zero_r, xor_comm, xor_lt}
use lib.Count.{count_trailing_zeros}
use lib.Dec.{T, lit≤}
use lib.ListN.{length, get_or, take, drop, replicate, length-take, length-drop, length-replicate, get_or-replicate, take-append-drop}
use lib.Pow.{pow_pos, shl_lt}
use lib.Seq.{ext_get_or, get_or-take, get_or-drop, drop-drop}
use Rattle.checkword.specs.Bytes.{Bytes, number, bytes_of}
use Rattle.checkword.specs.Generators.{generator48, generator32, good48, good32}
use Rattle.checkword.specs.Polynomial.{Generator}
use Rattle.checkword.specs.Word.{fallen, shift, feed, run, word}
use Rattle.checkword.proofs.Bytes.{bytes_take, bytes_drop, number_lt, bytes_of_number}
use Rattle.checkword.proofs.Run.{run_append, run_is, run_lt, feed_is, feed_lt}
use Rattle.checkword.proofs.Shift.{shifts, shift_lt, shifts_lt, shifts_add, shifts_inj, shifts_lin}
use Rattle.checkword.proofs.Xor.{xor_twice, xor_cancel_l}
use Rattle.echo.proofs.Linear.{Additive, additive_zero, after_additive, shifted_additive, Additives, zeros_additive, bytes_additive, parts, parts_additive, clear, clear_additive, independent, only_zero, each, each_at}

-- What a change of the header leads to: the bytes 4 to 6, which are implicit bytes too, and then the header's.
abbrev pub echoed : List ℕ → List ℕ
echoed ds = get_or ds 3 0 ∷ get_or ds 4 0 ∷ get_or ds 5 0 ∷ ds

-- A change of the twelve header bytes within n neighbouring ones, the first of them at index 5 or before. Byte 1 is the lowest byte of the random number,
-- before and after, and both idle times are multiples of 100, so of 4.
pub record Change (n : ℕ) (ds : List ℕ) : Type 0 where
  pub bytes : Bytes ds
  pub twelve : length ds ≡ 12
  pub number : get_or ds 0 0 ≡ get_or ds 2 0
  pub idle_time : get_or ds 6 0 % 4 ≡ 0
  pub start : ℕ
  pub early : start ≤ 5
  pub before : (k : ℕ) → k < start → get_or ds k 0 ≡ 0
  pub after : (k : ℕ) → start + n ≤ k → get_or ds k 0 ≡ 0

-- n shifts of the register, so that they compute fast: what falls out is cleared.
abbrev moved : ℕ → ℕ → ℕ → ℕ → ℕ
moved w g zero r = r
moved w g (suc n) r = moved w g n (clear w g (r * 2))

moved_additive : (w g n : ℕ) → Additive (moved w g n)
moved_additive w g zero = λ x y. refl
moved_additive w g (suc n) =
    after_additive (moved w g n) (λ r. clear w g (r * 2)) (moved_additive w g n) (shifted_additive (clear w g) 1 (clear_additive w g))

-- The check word of the three bytes of e and then s zeros.
abbrev led : ℕ → ℕ → ℕ → ℕ → ℕ
led w g s e = moved w g (24 + 8 * s) (e * 2 ^ (w - 24))

-- The change of the implicit bytes by e, and of the header by s zeros, the n bytes of the check word of this, and zeros.
abbrev trace : ℕ → ℕ → ℕ → ℕ → ℕ → List ℕ
trace w g n s e = bytes_of 3 e ++ (replicate s 0 ++ (bytes_of n (led w g s e) ++ (replicate (12 - (s + n)) 0 ++ [])))

trace_additive : (w g n s : ℕ) → Additives (trace w g n s)
trace_additive w g n s =
    let m : ℕ = 12 - (s + n) in
    bytes_additive 3 (λ e. e) (λ e. replicate s 0 ++ (bytes_of n (led w g s e) ++ (replicate m 0 ++ []))) (λ x y. refl)
    (zeros_additive s (λ e. bytes_of n (led w g s e) ++ (replicate m 0 ++ []))
    (bytes_additive n (led w g s) (λ e. replicate m 0 ++ []) (shifted_additive (moved w g (24 + 8 * s)) (w - 24) (moved_additive w g (24 + 8 * s)))
    (zeros_additive m (λ e. []) (λ k x y. refl))))

-- What has to be 0 of such a list: by exclusive-or, the implicit bytes and the bytes 4 to 6, and the bytes 1 and 3; the two lowest bits of byte 7.
abbrev places : List (ℕ × ℕ × ℕ)
places =
    (0, 8, 0) ∷ (6, 8, 0) ∷ (1, 8, 8) ∷ (7, 8, 8) ∷ (2, 8, 16) ∷ (8, 8, 16) ∷ (3, 8, 24) ∷ (5, 8, 24) ∷ (9, 2, 40) ∷ []

-- What speaks against the change that e leads to.
wrong : ℕ → ℕ → ℕ → ℕ → ℕ → ℕ
wrong w g n s e = parts places (trace w g n s e)

-- A list that is 0 at each place is one of zeros.
zeros : (n : ℕ) (l : List ℕ) → length l ≡ n → ((k : ℕ) → k < n → get_or l k 0 ≡ 0) → l ≡ replicate n 0
zeros n l e h =
    ext_get_or 0 l (replicate n 0) (e ∙ sym (length-replicate n 0))
    (λ k m. let b : k < n = omega arith in h k b ∙ sym (get_or-replicate n k 0 0 b))

-- Each place of a list of bytes is a byte.
pub byte_lt : (l : List ℕ) → Bytes l → (k : ℕ) → get_or l k 0 < 256
byte_lt [] h k = lit≤ tt
byte_lt (x ∷ l) h zero = h.0
byte_lt (x ∷ l) h (suc k) = byte_lt l h.1 k

module _ (w g : ℕ) (good : Generator w g) where
  -- they are the shifts of the check word
  moved_is : (n r : ℕ) → r < 2 ^ w → moved w g n r ≡ shifts w g n r
  unfolding shift
  moved_is zero r h = refl
  moved_is (suc n) r h =
      let bit : r * 2 / 2 ^ w % 2 ≡ r * 2 / 2 ^ w = mod-eq_of_lt ((div-lt_iff_lt-mul (pow_pos w)).1 (omega arith)) in
      ap (moved w g n) (ap (λ (v : ℕ). bit_xor (fallen g v) (r * 2)) bit ∙ xor_comm (fallen g (r * 2 / 2 ^ w)) (r * 2))
      ∙ moved_is n (shift w g r) (shift_lt w g good r h)

  -- zeros that go in shift the register
  run_zeros : (n r : ℕ) (l : List ℕ) → r < 2 ^ w → run w g r (replicate n 0 ++ l) ≡ run w g (shifts w g (8 * n) r) l
  run_zeros zero r l h = refl
  run_zeros (suc n) r l h =
      let count : 8 + 8 * n ≡ 8 * suc n = omega arith in
      run_zeros n (feed w g r 0) l (feed_lt w g good r 0 h (lit≤ tt))
      ∙ ap (λ (v : ℕ). run w g v l)
      (ap (shifts w g (8 * n)) (feed_is w g good r 0 h (lit≤ tt) ∙ ap (shifts w g 8) (ap (bit_xor r) (zero-mul (2 ^ (w - 8))) ∙ xor_zero_r r))
      ∙ sym (shifts_add w g 8 (8 * n) r) ∙ ap (λ (k : ℕ). shifts w g k r) count)

  -- three bytes, s zeros, as many bytes as the check word has and zeros leave 0: then the many are the check word of what stands before them
  check_word_holds : (a b c s m : ℕ) (l : List ℕ) → Bytes (a ∷ b ∷ c ∷ []) → Bytes l → w ≡ 8 * length l → 24 ≤ w
      → word w g (a ∷ b ∷ c ∷ (replicate s 0 ++ (l ++ (replicate m 0 ++ [])))) ≡ 0 → number l ≡ led w g s (number (a ∷ b ∷ c ∷ []))
  check_word_holds a b c s m l ha hl size room e =
      xor_cancel_l r
      (shifts_inj w g good (8 * length l + 8 * m) (bit_xor r (number l)) 0
      (xor_lt w r (number l) r_lt (subst (λ (k : ℕ). number l < 2 ^ k) (sym size) (number_lt l hl))) (pow_pos w)
      (shifts_add w g (8 * length l) (8 * m) (bit_xor r (number l)) ∙ sym along ∙ e
      ∙ sym (shifts_lin w g good (8 * length l + 8 * m) 0 0 (pow_pos w) (pow_pos w) ∙ xor_self (shifts w g (8 * length l + 8 * m) 0)))
      ∙ sym (xor_self r))
      ∙ sym (moved_is (24 + 8 * s) top top_lt ∙ shifts_add w g 24 (8 * s) top)
    where
      top : ℕ
      top = number (a ∷ b ∷ c ∷ []) * 2 ^ (w - 24)

      top_lt : top < 2 ^ w
      top_lt = subst (λ (k : ℕ). top < 2 ^ k) (omega arith) (shl_lt 24 (w - 24) (number_lt (a ∷ b ∷ c ∷ []) ha))

      -- the register after the three bytes, and after the zeros
      q : ℕ
      q = shifts w g 24 top

      q_lt : q < 2 ^ w
      q_lt = shifts_lt w g good 24 top top_lt

      r : ℕ
      r = shifts w g (8 * s) q

      r_lt : r < 2 ^ w
      r_lt = shifts_lt w g good (8 * s) q q_lt

      along : word w g (a ∷ b ∷ c ∷ (replicate s 0 ++ (l ++ (replicate m 0 ++ [])))) ≡ shifts w g (8 * m) (shifts w g (8 * length l) (bit_xor r (number l)))
      along =
          ap (λ (v : ℕ). run w g v (replicate s 0 ++ (l ++ (replicate m 0 ++ []))))
          (run_is w g good (a ∷ b ∷ c ∷ []) (w - 24) 0 (omega arith) (pow_pos w) ha)
          ∙ run_zeros s q (l ++ (replicate m 0 ++ [])) q_lt ∙ run_append w g r l (replicate m 0 ++ [])
          ∙ run_zeros m (run w g r l) [] (run_lt w g good l r r_lt hl)
          ∙ ap (shifts w g (8 * m)) (run_is w g good l 0 r (omega arith) r_lt hl ∙ ap (λ (v : ℕ). shifts w g (8 * length l) (bit_xor r v)) (mul-one (number l)))

  -- where each start passes the test, a change within n bytes, as many as the check word has, that leaves the check word is none
  seen : (n : ℕ) → w ≡ 8 * n → 3 ≤ n → n ≤ 7 → T (each 6 (λ s. independent 24 (wrong w g n s)))
      → (ds : List ℕ) → Change n ds → word w g (echoed ds) ≡ 0 → (k : ℕ) → get_or ds k 0 ≡ 0
  unfolding wrong
  seen n size least most tests ds c e k =
      ap (λ (l : List ℕ). get_or l (suc (suc (suc k))) 0) (whole ∙ ap (trace w g n s) none)
      ∙ additive_zero (λ x. get_or (trace w g n s x) (suc (suc (suc k))) 0) (trace_additive w g n s (suc (suc (suc k))))
    where
      s : ℕ
      s = c.start

      m : ℕ
      m = 12 - (s + n)

      lead : List ℕ
      lead = get_or ds 3 0 ∷ get_or ds 4 0 ∷ get_or ds 5 0 ∷ []

      lead_bytes : Bytes lead
      lead_bytes = (byte_lt ds c.bytes 3, (byte_lt ds c.bytes 4, (byte_lt ds c.bytes 5, tt)))

      changed : List ℕ
      changed = take n (drop s ds)

      changed_bytes : Bytes changed
      changed_bytes = bytes_take n (drop s ds) (bytes_drop s ds c.bytes)

      many : length changed ≡ n
      many = omega (arith, length-take n (drop s ds), length-drop s ds)

      shape : ds ≡ replicate s 0 ++ (changed ++ (replicate m 0 ++ []))
      shape =
          sym (take-append-drop s ds)
          ∙ ap₂ {C = List ℕ} (λ (a b : List ℕ). a ++ b)
          (zeros s (take s ds) (omega (arith, length-take s ds)) (λ i h. get_or-take s ds i 0 h ∙ c.before i h))
          (sym (take-append-drop n (drop s ds))
          ∙ ap {B = List ℕ} (λ (l : List ℕ). changed ++ l)
          (drop-drop n s ds
          ∙ zeros m (drop (s + n) ds) (omega (arith, length-drop (s + n) ds)) (λ i h. get_or-drop (s + n) ds i 0 ∙ c.after (s + n + i) (omega arith))
          ∙ sym (append-nil (replicate m 0))))

      equal : number changed ≡ led w g s (number lead)
      equal =
          check_word_holds (get_or ds 3 0) (get_or ds 4 0) (get_or ds 5 0) s m changed lead_bytes changed_bytes (omega (arith, many)) (omega arith)
          (ap (λ (l : List ℕ). word w g (lead ++ l)) (sym shape) ∙ e)

      whole : echoed ds ≡ trace w g n s (number lead)
      whole =
          ap₂ {C = List ℕ} (λ (a b : List ℕ). a ++ b) (sym (bytes_of_number 3 lead refl lead_bytes))
          (shape
          ∙ ap {B = List ℕ} (λ (l : List ℕ). replicate s 0 ++ (l ++ (replicate m 0 ++ [])))
          (sym (bytes_of_number n changed many changed_bytes) ∙ ap (bytes_of n) equal))

      kept : parts places (echoed ds) ≡ 0
      kept = rw (c.number, c.idle_time) (simp xor_twice)

      none : number lead ≡ 0
      none =
          only_zero 24 (wrong w g n s) (parts_additive places (trace w g n s) (trace_additive w g n s))
          (each_at 6 (λ i. independent 24 (wrong w g n i)) tests s (omega arith)) (number lead) (number_lt lead lead_bytes)
          (ap (parts places) (sym whole) ∙ kept)

-- At level 4 it is seen within six bytes ..
pub echo_seen_4 : (ds : List ℕ) → Change 6 ds → word 48 generator48 (echoed ds) ≡ 0 → (k : ℕ) → get_or ds k 0 ≡ 0
unfolding generator48 count_trailing_zeros independent each wrong
echo_seen_4 = seen 48 generator48 good48 6 refl (lit≤ tt) (lit≤ tt) tt

-- .. and at level 2 within four.
pub echo_seen_2 : (ds : List ℕ) → Change 4 ds → word 32 generator32 (echoed ds) ≡ 0 → (k : ℕ) → get_or ds k 0 ≡ 0
unfolding generator32 count_trailing_zeros independent each wrong
echo_seen_2 = seen 32 generator32 good32 4 refl (lit≤ tt) (lit≤ tt) tt
