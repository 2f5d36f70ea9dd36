-- Damage of connect requests and confirms is found too. Their bytes 4 to 6 are implicit bytes as well, so what the check word covers changes at two places; by the law that
-- change alone, the echoed one, would have to leave 0, and Echo.antt shows that it doesn't.
-- Assumes nothing.
use mathlib.Core.Path.{◌≡◌, refl, sym, ap, ap₂, ◌∙◌}
use mathlib.Core.Bool.{Bool, true, false}
use mathlib.Core.List.{List, [], ◌∷◌, ◌++◌}
use mathlib.Core.Logic.{◌⊎◌, inl, inr}
use Prim.Native.Nat.{ℕ, zero, suc, ◌+◌, ◌*◌, ◌/◌, ◌%◌, ◌^◌, ◌≤◌, ◌<◌}
use native.Mathlib.Omega.{arith}
use lib.Pow.{pow_pos}
use lib.ListN.{length, take, drop, get_or, length-take, length-drop, take-append-drop}
use lib.Seq.{ext_get_or, get_or-take, get_or-drop}
use lib.Bits.{bit_xor, xor_lt, xor_self, xor_mod, xor_zero_r}
use lib.Dec.{leb, ltb, eqb}
use borrow.Author.Tests.{ltb-true, ltb-false, leb-true, leb-false, eqb-true}
use Rattle.checkword.specs.Bytes.{Bytes, xors, Within}
use Rattle.checkword.specs.Polynomial.{Generator}
use Rattle.checkword.specs.Generators.{generator48, generator32, good48, good32}
use Rattle.checkword.specs.Word.{run, word}
use Rattle.checkword.proofs.Xor.{xor_twice}
use Rattle.checkword.proofs.Bytes.{bytes_take, bytes_drop}
use Rattle.checkword.proofs.Run.{run_append, run_lt, run_lin, run_inj}
use Rattle.ground.specs.Choice.{pick}
use Rattle.telegram.specs.Levels.{width, word_length, generator}
use Rattle.ground.specs.Numbers.{lowest_first}
use Rattle.telegram.specs.Values.{good_idle}
use Rattle.telegram.specs.Ends.{is_level, implicit, receiving}
use Rattle.telegram.specs.Check.{used_for, check_of, Passes}
use Rattle.telegram.specs.declared.End.{End}
use Rattle.telegram.specs.declared.Kind.TheVariants.{Request, Confirm}
use Rattle.telegram.proofs.Widths.{width_is, word_small, four}
use Rattle.telegram.proofs.Refusals.{both_true, suits_room}
use Rattle.telegram.proofs.Taken.{level_there}
use Rattle.telegram.proofs.Apart.{Passed, passed}
use Rattle.demands.specs.Damage.{Changed, Connect}
use Rattle.echo.proofs.Echo.{echoed, Change, byte_lt, echo_seen_4, echo_seen_2}
use Rattle.demands.proofs.Damage.{message, leaves_nothing, seen}

-- Lists of bytes, and their exclusive-or place by place

xors_at : (a b : List ℕ) → length a ≡ length b → (k : ℕ) → get_or (xors a b) k 0 ≡ bit_xor (get_or a k 0) (get_or b k 0)
xors_at [] [] l k = refl
xors_at [] (y ∷ b) l k = absurd (omega arith)
xors_at (x ∷ a) [] l k = absurd (omega arith)
xors_at (x ∷ a) (y ∷ b) l zero = refl
xors_at (x ∷ a) (y ∷ b) l (suc k) = xors_at a b (omega arith) k

xors_length : (a b : List ℕ) → length a ≡ length b → length (xors a b) ≡ length a
xors_length [] [] l = refl
xors_length [] (y ∷ b) l = absurd (omega arith)
xors_length (x ∷ a) [] l = absurd (omega arith)
xors_length (x ∷ a) (y ∷ b) l = ap suc (xors_length a b (omega arith))

xors_bytes : (a b : List ℕ) → Bytes a → Bytes b → Bytes (xors a b)
xors_bytes [] b ha hb = tt
xors_bytes (x ∷ a) [] ha hb = tt
xors_bytes (x ∷ a) (y ∷ b) ha hb = (xor_lt 8 x y ha.0 hb.0, xors_bytes a b ha.1 hb.1)

-- where two lists agree, so do their first parts
take_same : (c : ℕ) (a b : List ℕ) (k : ℕ) → length a ≡ length b → get_or a k 0 ≡ get_or b k 0 → get_or (take c a) k 0 ≡ get_or (take c b) k 0
take_same zero a b k l e = refl
take_same (suc c) [] [] k l e = refl
take_same (suc c) [] (y ∷ b) k l e = absurd (omega arith)
take_same (suc c) (x ∷ a) [] k l e = absurd (omega arith)
take_same (suc c) (x ∷ a) (y ∷ b) zero l e = e
take_same (suc c) (x ∷ a) (y ∷ b) (suc k) l e = take_same c a b k (omega arith) e

equal_of : (a b : ℕ) → bit_xor a b ≡ 0 → a ≡ b
equal_of a b e = sym (sym (xor_twice a b) ∙ ap (bit_xor a) e ∙ xor_zero_r a)

-- Two strings that differ only in a part, and both leave 0: the change of that part leaves 0
change_leaves_nothing : (w g : ℕ) (good : Generator w g) (s a b z : List ℕ) → Bytes s → Bytes a → Bytes b → Bytes z → length a ≡ length b
    → word w g (s ++ (a ++ z)) ≡ 0 → word w g (s ++ (b ++ z)) ≡ 0 → word w g (xors a b) ≡ 0
change_leaves_nothing w g good s a b z hs ha hb hz l p q =
    ap (λ (x : ℕ). run w g x (xors a b)) (sym (xor_self r)) ∙ run_lin w g good a b r r l r_lt r_lt ha hb ∙ ap (bit_xor (run w g r a)) (sym same) ∙ xor_self (run w g r a)
  where
    r : ℕ
    r = run w g 0 s

    r_lt : r < 2 ^ w
    r_lt = run_lt w g good s 0 (pow_pos w) hs

    along : (c : List ℕ) → word w g (s ++ (c ++ z)) ≡ run w g (run w g r c) z
    along c = run_append w g 0 s (c ++ z) ∙ run_append w g r c z

    same : run w g r a ≡ run w g r b
    same =
        run_inj w g good z (run w g r a) (run w g r b) (run_lt w g good a r r_lt ha) (run_lt w g good b r r_lt hb) hz
        (sym (along a) ∙ p ∙ sym q ∙ along b)

-- What a connect request or confirm that passes says of its bytes

-- the implicit bytes before those of the number
abbrev parties : End → ℕ → List ℕ
parties e n = n % 256 ∷ e.own % 256 ∷ e.partner % 256 ∷ e.local_sap % 256 ∷ e.partner_sap % 256 ∷ []

digit : (a y : ℕ) → a < 256 → ((a + 256 * y) / 256 ≡ y) × ((a + 256 * y) % 256 ≡ a)
digit a y h = (omega arith, omega arith)

-- the upper three bytes of a number of four
upper : (a b c d : ℕ) → a < 256 → b < 256 → c < 256 → d < 256 → lowest_first 3 ((a + 256 * (b + 256 * (c + 256 * (d + 256 * 0)))) / 256) ≡ b ∷ c ∷ d ∷ []
upper a b c d ha hb hc hd =
    let once = (digit a (b + 256 * (c + 256 * (d + 256 * 0))) ha).0 in
    let twice = ap (λ (x : ℕ). x / 256) once ∙ (digit b (c + 256 * (d + 256 * 0)) hb).0 in
    let thrice = ap (λ (x : ℕ). x / 256) twice ∙ (digit c (d + 256 * 0) hc).0 in
    let p = ap (λ (x : ℕ). x % 256) once ∙ (digit b (c + 256 * (d + 256 * 0)) hb).1 in
    let q = ap (λ (x : ℕ). x % 256) twice ∙ (digit c (d + 256 * 0) hc).1 in
    let r = ap (λ (x : ℕ). x % 256) thrice ∙ (digit d 0 hd).1 in
    cc

record Header (e : End) (m : ℕ) (t : List ℕ) : Type 0 where
  implicit_are : receiving e (used_for m t) (length t) ≡ parties e (length t) ++ (get_or t 3 0 ∷ get_or t 4 0 ∷ get_or t 5 0 ∷ [])
  byte_1_and_3 : get_or t 0 0 ≡ get_or t 2 0
  idle_time : get_or t 6 0 % 4 ≡ 0
  room : 12 + word_length e.level ≤ length t

-- an idle time is a multiple of 4
by_four : (low high : ℕ) → good_idle (low + 256 * (high + 256 * 0)) ≡ true → low % 4 ≡ 0
unfolding good_idle
by_four low high h =
    let hundred : (low + 256 * (high + 256 * 0)) % 100 ≡ 0 = eqb-true _ _ (both_true _ _ h).1 in
    omega arith

module _ (e : End) (m : ℕ) (t : List ℕ) (bytes : Bytes t) (p : Passed e m t) where
  abbrev random : ℕ
  random = get_or t 2 0 + 256 * (get_or t 3 0 + 256 * (get_or t 4 0 + 256 * (get_or t 5 0 + 256 * 0)))

  header_by : used_for m t ≡ random → good_idle (get_or t 6 0 + 256 * (get_or t 7 0 + 256 * 0)) ≡ true → 12 + word_length e.level ≤ length t → Header e m t
  unfolding implicit
  header_by used idle room =
      let at = byte_lt t bytes in
      record {
        implicit_are =
            rw (used, upper (get_or t 2 0) (get_or t 3 0) (get_or t 4 0) (get_or t 5 0) (at 2) (at 3) (at 4) (at 5)) refl;
        byte_1_and_3 =
            eqb-true (get_or t 0 0) (used_for m t % 256) p.byte_1 ∙ ap (λ (x : ℕ). x % 256) used
            ∙ (digit (get_or t 2 0) (get_or t 3 0 + 256 * (get_or t 4 0 + 256 * (get_or t 5 0 + 256 * 0))) (at 2)).1;
        idle_time = by_four (get_or t 6 0) (get_or t 7 0) idle;
        room = room;
      }

  header_of : Connect t → Header e m t
  header_of (inl k) =
      header_by (rw k) (both_true _ _ (rw k at p.good_fields_holds)).0 (suits_room Request e.level (length t) (rw k at p.of_length)).0
  header_of (inr k) =
      header_by (rw k) (both_true _ _ (rw k at p.good_fields_holds)).0 (suits_room Confirm e.level (length t) (rw k at p.of_length)).0

-- The twelve bytes of the header, behind those of them that are implicit bytes too
abbrev led : List ℕ → List ℕ
led t = get_or t 3 0 ∷ get_or t 4 0 ∷ get_or t 5 0 ∷ take 12 t

parties_bytes : (e : End) (n : ℕ) → Bytes (parties e n)
parties_bytes e n = (omega arith, (omega arith, (omega arith, (omega arith, (omega arith, tt)))))

led_bytes : (t : List ℕ) → Bytes t → Bytes (led t)
led_bytes t h = (byte_lt t h 3, (byte_lt t h 4, (byte_lt t h 5, bytes_take 12 t h)))

led_message : (e : End) (m : ℕ) (t : List ℕ) → Header e m t → message e (used_for m t) t ≡ parties e (length t) ++ (led t ++ drop 12 t)
led_message e m t h =
    rw h.implicit_are
    (ap {B = List ℕ} (λ (s : List ℕ). parties e (length t) ++ (get_or t 3 0 ∷ get_or t 4 0 ∷ get_or t 5 0 ∷ s)) (sym (take-append-drop 12 t)))

-- Of two that pass and differ within n neighbouring bytes
module _ (e : End) (m n : ℕ) (t u : List ℕ) (changed : Changed t u) (within : Within n t u) (h : Header e m t) (k : Header e m u) where
  -- the change of the header
  abbrev change : List ℕ
  change = xors (take 12 t) (take 12 u)

  twelve : (s : List ℕ) → 12 ≤ length s → length (take 12 s) ≡ 12
  twelve s r = omega (arith, length-take 12 s)

  one_size : length (take 12 t) ≡ length (take 12 u)
  one_size = twelve t (omega (arith, h.room)) ∙ sym (twelve u (omega (arith, k.room)))

  change_at : (i : ℕ) → i < 12 → get_or change i 0 ≡ bit_xor (get_or t i 0) (get_or u i 0)
  change_at i low = xors_at (take 12 t) (take 12 u) one_size i ∙ ap₂ bit_xor (get_or-take 12 t i 0 low) (get_or-take 12 u i 0 low)

  unchanged : (i : ℕ) → get_or t i 0 ≡ get_or u i 0 → get_or change i 0 ≡ 0
  unchanged i same =
      xors_at (take 12 t) (take 12 u) one_size i ∙ ap (bit_xor (get_or (take 12 t) i 0)) (sym (take_same 12 t u i changed.one_length same)) ∙ xor_self (get_or (take 12 t) i 0)

  -- from byte 7 on they are no implicit bytes
  same_implicit : 6 ≤ within.start → receiving e (used_for m t) (length t) ≡ receiving e (used_for m u) (length u)
  same_implicit late =
      let three = within.before 3 (omega arith) in
      let four = within.before 4 (omega arith) in
      let five = within.before 5 (omega arith) in
      h.implicit_are ∙ rw (changed.one_length, three, four, five) (sym k.implicit_are)

  module _ (few : n ≤ 6) (early : within.start ≤ 5) where
    same_rest : drop 12 t ≡ drop 12 u
    same_rest =
        ext_get_or 0 (drop 12 t) (drop 12 u) (omega (arith, changed.one_length, length-drop 12 t, length-drop 12 u)) (λ i low. get_or-drop 12 t i 0 ∙ within.after (12 + i) (omega arith) ∙ sym (get_or-drop 12 u i 0))

    is_change : (j : ℕ) → n ≤ j → Change j change
    is_change j most =
        record {
          bytes = xors_bytes (take 12 t) (take 12 u) (bytes_take 12 t changed.bytes) (bytes_take 12 u changed.came);
          twelve = xors_length (take 12 t) (take 12 u) one_size ∙ twelve t (omega (arith, h.room));
          number = change_at 0 (omega arith) ∙ ap₂ bit_xor h.byte_1_and_3 k.byte_1_and_3 ∙ sym (change_at 2 (omega arith));
          idle_time =
              ap (λ (x : ℕ). x % 4) (change_at 6 (omega arith)) ∙ xor_mod (get_or t 6 0) (get_or u 6 0) 2 ∙ ap₂ bit_xor h.idle_time k.idle_time;
          start = within.start;
          early = early;
          before = λ i low. unchanged i (within.before i low);
          after = λ i high. unchanged i (within.after i (omega arith));
        }

    leaves : (w g : ℕ) → Generator w g → word w g (message e (used_for m t) t) ≡ 0 → word w g (message e (used_for m u) u) ≡ 0 → word w g (echoed change) ≡ 0
    leaves w g good p q =
        rw (change_at 3 (omega arith), change_at 4 (omega arith), change_at 5 (omega arith))
        (change_leaves_nothing w g good (parties e (length u)) (led t) (led u) (drop 12 u) (parties_bytes e (length u)) (led_bytes t changed.bytes) (led_bytes u changed.came) (bytes_drop 12 u changed.came)
        (ap (λ (x : ℕ). suc (suc (suc x))) one_size)
        (sym (ap (word w g) (led_message e m t h ∙ ap₂ {C = List ℕ} (λ (x : ℕ) (s : List ℕ). parties e x ++ (led t ++ s)) changed.one_length same_rest)) ∙ p)
        (sym (ap (word w g) (led_message e m u k)) ∙ q))

    same_telegram : ((i : ℕ) → get_or change i 0 ≡ 0) → t ≡ u
    same_telegram none = ext_get_or 0 t u changed.one_length (λ i low. by i (ltb i 12) refl)
      where
        by : (i : ℕ) (b : Bool) → ltb i 12 ≡ b → get_or t i 0 ≡ get_or u i 0
        by i true f = let low : i < 12 = ltb-true i 12 f in equal_of (get_or t i 0) (get_or u i 0) (sym (change_at i low) ∙ none i)
        by i false f = let high : 12 ≤ i = ltb-false i 12 f in within.after i (omega arith)

-- the levels that there are
pub of_levels : (l : ℕ) → is_level l ≡ true → (l ≡ 4) ⊎ (l ≡ 2)
unfolding pick
of_levels l = by (eqb l 4) refl
  where
    by : (b : Bool) → eqb l 4 ≡ b → pick b true (eqb l 2) ≡ true → (l ≡ 4) ⊎ (l ≡ 2)
    by true f h = inl (eqb-true l 4 f)
    by false f h = inr (eqb-true l 2 h)

-- One at most passes.
pub connect_seen : (e : End) (m n : ℕ) (t u : List ℕ) → 8 * n ≤ width e.level → Connect t → Connect u → Changed t u → Within n t u
    → check_of e m t ≡ Passes → check_of e m u ≡ Passes → ⊥
unfolding width generator pick
connect_seen e m n t u few connect connect' changed within p q = by (leb within.start 5) refl
  where
    h : Header e m t
    h = header_of e m t changed.bytes (passed e m t p) connect

    k : Header e m u
    k = header_of e m u changed.came (passed e m u q) connect'

    at_level : n ≤ 6 → within.start ≤ 5 → (e.level ≡ 4) ⊎ (e.level ≡ 2) → (i : ℕ) → get_or (change e m n t u changed within h k) i 0 ≡ 0
    at_level small early (inl at_4) =
        echo_seen_4 _ (is_change e m n t u changed within h k small early 6 small)
        (leaves e m n t u changed within h k small early 48 generator48 good48 (rw at_4 at (leaves_nothing e m t changed.bytes p)) (rw at_4 at (leaves_nothing e m u changed.came q)))
    at_level small early (inr at_2) =
        echo_seen_2 _ (is_change e m n t u changed within h k small early 4 (omega (arith, width_is e.level, four e.level (λ f. omega arith))))
        (leaves e m n t u changed within h k small early 32 generator32 good32 (rw at_2 at (leaves_nothing e m t changed.bytes p)) (rw at_2 at (leaves_nothing e m u changed.came q)))

    by : (b : Bool) → leb within.start 5 ≡ b → ⊥
    by true f =
        let early : within.start ≤ 5 = leb-true within.start 5 f in
        let small : n ≤ 6 = omega (arith, width_is e.level, word_small e.level) in
        changed.differs
        (same_telegram e m n t u changed within h k small early (at_level small early (of_levels e.level (level_there e (passed e m t p).in_range_holds))))
    by false f =
        seen e m n t u few changed within (same_implicit e m n t u changed within h k (leb-false within.start 5 f)) p q
