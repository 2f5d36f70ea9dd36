-- The facts of the check word that everything above rests on, as specs/Facts.antt states them: each over the width, then at 48 and at 32 bits.
-- Assumes nothing.
use mathlib.Core.Path.{◌≡◌, refl, sym, ap, ◌∙◌, subst}
use mathlib.Core.List.{List, [], ◌∷◌, ◌++◌}
use Prim.Native.Nat.{ℕ, zero, suc, ◌+◌, ◌*◌, ◌/◌, ◌^◌, ◌≤◌, ◌<◌}
use native.Mathlib.Nat.{zero-mul, mul-one, mod-eq_of_lt}
use native.Mathlib.Omega.{arith}
use lib.Dec.{lit<}
use lib.Pow.{pow_pos}
use lib.ListN.{length, take, drop, get_or, length-take, length-drop}
use lib.Seq.{ext_get_or, get_or-take, get_or-drop}
use lib.Bits.{bit_xor, xor_lt, xor_self, xor_zero_r}
use Rattle.checkword.specs.Bytes.{Bytes, number, bytes_of, Within}
use Rattle.checkword.specs.Polynomial.{Generator}
use Rattle.checkword.specs.Generators.{generator48, generator32, good48, good32}
use Rattle.checkword.specs.Word.{word}
use Rattle.checkword.specs.Facts.{Law, DependsOnlyOnXor, Burst, Meaning, OnlyMeaning, Below, ChangeInWordSeen, AgreesByBytes, AgreesByRemainder, Facts}
use Rattle.checkword.proofs.Xor.{xor_twice}
use Rattle.checkword.proofs.Bytes.{number_lt, number_inj, number_bytes_of, bytes_of_number}
use Rattle.checkword.proofs.Shift.{shifts, shifts_free, shifts_inj}
use Rattle.checkword.proofs.Run.{run_append, run_is, run_lt, run_lin, parts_equal}
use Rattle.checkword.proofs.Remainder.{word_remainder, remainder_unique}

before_take : (a b : List ℕ) (i : ℕ) → length a ≡ length b → ((k : ℕ) → k < i → get_or a k 0 ≡ get_or b k 0) → take i a ≡ take i b
before_take a b i l h =
    ext_get_or 0 (take i a) (take i b) (omega (arith, length-take i a, length-take i b))
    (λ k m.
    let below : k < i = omega (arith, length-take i a) in
    get_or-take i a k 0 below ∙ h k below ∙ sym (get_or-take i b k 0 below))

after_drop : (a b : List ℕ) (j : ℕ) → length a ≡ length b → ((k : ℕ) → j ≤ k → get_or a k 0 ≡ get_or b k 0) → drop j a ≡ drop j b
after_drop a b j l h =
    ext_get_or 0 (drop j a) (drop j b) (omega (arith, length-drop j a, length-drop j b))
    (λ k m. get_or-drop j a k 0 ∙ h (j + k) (omega arith) ∙ sym (get_or-drop j b k 0))

module _ (w g : ℕ) (good : Generator w g) where
  pub below : Below w g
  below bs h = run_lt w g good bs 0 (pow_pos w) h

  pub law : Law (word w g)
  law a b ha hb l = sym (run_lin w g good a b 0 0 l (pow_pos w) (pow_pos w) ha hb)

  pub depends_only_on_xor : DependsOnlyOnXor (word w g)
  depends_only_on_xor a b c d ha hb hc hd l m e = law a b ha hb l ∙ ap (word w g) e ∙ sym (law c d hc hd m)

  -- for any n bytes that are no longer than the word
  pub burst_of : (n : ℕ) → 8 * n ≤ w → Burst n (word w g)
  burst_of n few a b ha hb within differ e =
      differ
      (parts_equal w g good a b within.start n within.one_length few ha hb
      (before_take a b within.start within.one_length within.before) (after_drop a b (within.start + n) within.one_length within.after) e)

  pub burst : Burst (w / 8) (word w g)
  burst = burst_of (w / 8) (omega arith)

  pub meaning : Meaning w g
  meaning = word_remainder w g good

  pub only_meaning : OnlyMeaning w g
  only_meaning bs r h p = remainder_unique w g good p (word_remainder w g good bs h)

  pub change_in_word_seen : ChangeInWordSeen w g
  change_in_word_seen bs c d hc hd l differ p q = differ (number_inj c d l hc hd (p ∙ sym q))

  pub agrees_by_bytes : AgreesByBytes w g
  agrees_by_bytes n e bs c h hc l = (
    λ p. sym (bytes_of_number n c l hc) ∙ ap (bytes_of n) p,
    λ p. ap number p ∙ number_bytes_of n (word w g bs) ∙ mod-eq_of_lt (subst (λ (m : ℕ). word w g bs < 2 ^ m) e (below bs h)),
  )

  -- the whole message leaves what is left between the word and the check word that came, shifted through
  whole : (n : ℕ) → w ≡ 8 * n → (bs c : List ℕ) → Bytes bs → Bytes c → length c ≡ n
      → word w g (bs ++ c) ≡ shifts w g (8 * length c) (bit_xor (word w g bs) (number c))
  whole n e bs c h hc l =
      run_append w g 0 bs c ∙ run_is w g good c 0 (word w g bs) (omega arith) (below bs h) hc
      ∙ ap (λ (x : ℕ). shifts w g (8 * length c) (bit_xor (word w g bs) x)) (mul-one (number c))

  none : (n : ℕ) → shifts w g n 0 ≡ 0
  none n = shifts_free w g n 0 (subst (λ (x : ℕ). x < 2 ^ w) (sym (zero-mul (2 ^ n))) (pow_pos w)) ∙ zero-mul (2 ^ n)

  pub agrees_by_remainder : AgreesByRemainder w g
  agrees_by_remainder n e bs c h hc l =
      let fits : number c < 2 ^ w = subst (λ (m : ℕ). number c < 2 ^ m) (omega arith) (number_lt c hc) in (
        λ p.
            whole n e bs c h hc l ∙ ap (λ (x : ℕ). shifts w g (8 * length c) (bit_xor (word w g bs) x)) p
            ∙ ap (shifts w g (8 * length c)) (xor_self (word w g bs)) ∙ none (8 * length c),
        λ p.
            let z : bit_xor (word w g bs) (number c) ≡ 0 =
            shifts_inj w g good (8 * length c) (bit_xor (word w g bs) (number c)) 0 (xor_lt w (word w g bs) (number c) (below bs h) fits) (pow_pos w)
            (sym (whole n e bs c h hc l) ∙ p ∙ sym (none (8 * length c))) in
            sym (xor_twice (word w g bs) (number c)) ∙ ap (bit_xor (word w g bs)) z ∙ xor_zero_r (word w g bs),
      )

  -- all of them
  pub facts : Facts w g
  facts =
      record {
        law = law;
        depends_only_on_xor = depends_only_on_xor;
        burst = burst;
        meaning = meaning;
        only_meaning = only_meaning;
        below = below;
        change_in_word_seen = change_in_word_seen;
        agrees_by_bytes = agrees_by_bytes;
        agrees_by_remainder = agrees_by_remainder;
      }

-- CRC_SL4.
pub facts48 : Facts 48 generator48
facts48 = facts 48 generator48 good48

-- CRC_SL2.
pub facts32 : Facts 32 generator32
facts32 = facts 32 generator32 good32

-- Why the law alone is not enough: a word that is always 0 obeys it ..
pub constant_obeys_law : Law (λ (bs : List ℕ). 0)
constant_obeys_law a b ha hb l = refl

-- .. and no word that is always the same has the burst fact, even for one place.
pub constant_breaks_burst : (k : ℕ) → Burst 1 (λ (bs : List ℕ). k) → ⊥
constant_breaks_burst k claim = claim (0 ∷ []) (1 ∷ []) (lit< tt, tt) (lit< tt, tt) one_place (λ e. absurd (omega (arith, ap number e))) refl
  where
    after : (i : ℕ) → 1 ≤ i → ◌≡◌ {A = ℕ} (get_or (0 ∷ []) i 0) (get_or (1 ∷ []) i 0)
    after zero h = absurd (omega arith)
    after (suc i) h = refl

    one_place : Within 1 (0 ∷ []) (1 ∷ [])
    one_place = record { start = 0; one_length = refl; before = λ i h. absurd (omega arith); after = after }
