-- No telegram passes the checks of two ends that it should be told apart for: the check words worked out are equal, and the bytes that they cover are not.
-- Assumes nothing.
use mathlib.Core.Path.{◌≡◌, refl, sym, ap, ◌∙◌}
use mathlib.Core.Bool.{Bool, true, false}
use mathlib.Core.List.{List, [], ◌∷◌, ◌++◌, append_cancel_right}
use mathlib.Core.Logic.{◌⊎◌, inl, inr}
use Prim.Native.Nat.{ℕ, zero, suc, ◌+◌, ◌*◌, ◌/◌, ◌%◌, ◌^◌, ◌≤◌, ◌<◌}
use native.Mathlib.Omega.{arith}
use lib.ListN.{length, take, drop, get_or, length-append, get_or-eq_default}
use lib.Dec.{eqb}
use borrow.Author.Tests.{leb-true, eqb-true, eqb-false}
use Rattle.std.specs.Prelude.{Option, Some, None}
use Rattle.checkword.specs.Bytes.{Bytes, number, Within}
use Rattle.checkword.specs.Word.{word}
use Rattle.checkword.proofs.Bytes.{bytes_append, bytes_take}
use Rattle.checkword.proofs.Facts.{burst_of}
use Rattle.ground.specs.Choice.{pick}
use Rattle.telegram.specs.Levels.{level_of, width, generator}
use Rattle.telegram.specs.Commands.{kind_of_command, known}
use Rattle.telegram.specs.Layout.{on_bus, suits, values}
use Rattle.ground.specs.Numbers.{lowest_first}
use Rattle.telegram.specs.Ends.{in_range, implicit, receiving}
use Rattle.telegram.specs.Values.{good_fields}
use Rattle.telegram.specs.Telegrams.{check_word}
use Rattle.telegram.specs.Check.{command_of, same_level, number_used, used_for, covered, word_agrees, clauses, first_failing, check_of, Check, Passes, Failed, Refused}
use Rattle.telegram.specs.Facts.{OtherPartner, ApartAt4, ApartAt2, ConnectApart, OneNumber, LevelApart}
use Rattle.telegram.specs.declared.End.{End}
use Rattle.telegram.specs.declared.Kind.{Kind}
use Rattle.telegram.specs.declared.Kind.TheVariants.{Request, Confirm, Authentication, Acknowledgement, Disconnect, Idle, Data, Unknown}
use Rattle.telegram.specs.declared.Clause.{Clause}
use Rattle.telegram.proofs.Widths.{width_is, word_some, six, generator_good}
use Rattle.telegram.proofs.Refusals.{both_true}
use Rattle.telegram.proofs.ReadBack.{implicit_bytes}

-- A choice that passes took its first side, where the second is a failure or a refusal.
chosen : (b : Bool) (x y : Check) → (y ≡ Passes → ⊥) → pick b x y ≡ Passes → (b ≡ true) × (x ≡ Passes)
unfolding pick
chosen true x y h p = (refl, p)
chosen false x y h p = absurd (h p)

not_failed : (c : Clause) → Failed c ≡ Passes → ⊥
not_failed c p = let z : ◌≡◌ {A = ℕ} 0 1 = cc in omega arith

not_refused : (n : ℕ) → Refused n ≡ Passes → ⊥
not_refused n p = let z : ◌≡◌ {A = ℕ} 0 1 = cc in omega arith

-- Where no clause fails, every one holds.
abbrev Hold : List (Bool × Clause) → Type 0
Hold [] = Unit {0}
Hold (c ∷ cs) = (c.0 ≡ true) × Hold cs

hold : (cs : List (Bool × Clause)) → first_failing cs ≡ Passes → Hold cs
hold [] p = tt
hold (c ∷ cs) p =
    let both = chosen c.0 (first_failing cs) (Failed c.1) (not_failed c.1) p in
    (both.0, hold cs both.1)

-- What a check that passes says.
pub record Passed (e : End) (m : ℕ) (t : List ℕ) : Type 0 where
  pub in_range_holds : in_range e ≡ true
  pub on_bus_holds : on_bus (length t) ≡ true
  pub of_level : same_level (level_of (command_of t)) e.level ≡ true
  pub of_kind : known (kind_of_command (command_of t)) ≡ true
  pub of_length : suits (kind_of_command (command_of t)) e.level (length t) ≡ true
  pub byte_1 : eqb (get_or t 0 0) (used_for m t % 256) ≡ true
  pub good_fields_holds : good_fields (kind_of_command (command_of t)) (values (kind_of_command (command_of t)) t) ≡ true
  pub agrees : word_agrees e (used_for m t) t ≡ true

pub passed : (e : End) (m : ℕ) (t : List ℕ) → check_of e m t ≡ Passes → Passed e m t
unfolding check_of
passed e m t p =
    let ranged = chosen _ _ _ (not_refused 1) p in
    let sized = chosen _ _ _ (not_refused 6) ranged.1 in
    let all = hold (clauses e m t) sized.1 in
    record {
      in_range_holds = ranged.0;
      on_bus_holds = sized.0;
      of_level = all.0;
      of_kind = all.1.0;
      of_length = all.1.1.0;
      byte_1 = all.1.1.1.0;
      good_fields_holds = all.1.1.1.1.0;
      agrees = all.1.1.1.1.1.0;
    }

-- One command says one level.
one_level : (x : Option ℕ) (l m : ℕ) → same_level x l ≡ true → same_level x m ≡ true → l ≡ m
one_level (Some k) l m p q = sym (eqb-true k l p) ∙ eqb-true k m q
one_level None l m p q = let z : ◌≡◌ {A = ℕ} 0 1 = cc in absurd (omega arith)

pub level_apart : LevelApart
level_apart e f m n t p q =
    one_level (level_of (command_of t)) e.level f.level (passed e m t p).of_level (passed f n t q).of_level

-- Addresses and SAPs in range are bytes.
small : (e : End) → in_range e ≡ true → (e.partner < 256) × (e.partner_sap < 256) × (e.local_sap < 256)
unfolding in_range
small e h =
    let own = both_true _ _ h in
    let partner = both_true _ _ own.1 in
    let theirs = both_true _ _ partner.1 in
    let ours = both_true _ _ theirs.1 in
    (omega (arith, leb-true), omega (arith, leb-true), omega (arith, leb-true))

-- The implicit bytes show the partner and the SAPs.
shown : (e f : End) (u v n : ℕ) → in_range e ≡ true → in_range f ≡ true → OtherPartner e f → receiving e u n ≡ receiving f v n → ⊥
unfolding implicit
shown e f u v n h k other p =
    let es = small e h in
    let fs = small f k in
    let at : (i : ℕ) → get_or (receiving e u n) i 0 ≡ get_or (receiving f v n) i 0 = λ i. ap (λ (l : List ℕ). get_or l i 0) p in
    other (omega (arith, at 2)) (omega (arith, at 4)) (omega (arith, at 3))

-- Where two lists differ: anywhere in all of their length ..
pub within_all : (a b : List ℕ) → length a ≡ length b → Within (length a) a b
within_all a b l =
    record {
      start = 0;
      one_length = l;
      before = λ k h. absurd (omega arith);
      after = λ k h. get_or-eq_default a 0 {n = k} (omega arith) ∙ sym (get_or-eq_default b 0 {n = k} (omega arith));
    }

-- .. only where they did, when the same goes on behind them ..
same_behind : (a b s : List ℕ) (k : ℕ) → length a ≡ length b → get_or a k 0 ≡ get_or b k 0 → get_or (a ++ s) k 0 ≡ get_or (b ++ s) k 0
same_behind [] [] s k l e = refl
same_behind [] (y ∷ b) s k l e = absurd (omega arith)
same_behind (x ∷ a) [] s k l e = absurd (omega arith)
same_behind (x ∷ a) (y ∷ b) s zero l e = e
same_behind (x ∷ a) (y ∷ b) s (suc k) l e = same_behind a b s k (omega arith) e

pub within_append : {n : ℕ} {a b : List ℕ} (s : List ℕ) → Within n a b → Within n (a ++ s) (b ++ s)
within_append {n} {a} {b} s w =
    record {
      start = w.start;
      one_length = omega (arith, length-append a s, length-append b s);
      before = λ k h. same_behind a b s k w.one_length (w.before k h);
      after = λ k h. same_behind a b s k w.one_length (w.after k h);
    }

-- .. and when the same stands before them.
pub within_cons : {n x y : ℕ} {a b : List ℕ} → x ≡ y → Within n a b → Within n (x ∷ a) (y ∷ b)
within_cons {n} {x} {y} {a} {b} e w = record { start = suc w.start; one_length = ap suc w.one_length; before = before; after = after }
  where
    before : (k : ℕ) → k < suc w.start → get_or (x ∷ a) k 0 ≡ get_or (y ∷ b) k 0
    before zero h = e
    before (suc k) h = w.before k (omega arith)

    after : (k : ℕ) → suc w.start + n ≤ k → get_or (x ∷ a) k 0 ≡ get_or (y ∷ b) k 0
    after zero h = absurd (omega arith)
    after (suc k) h = w.after k (omega arith)

-- What the word covers: bytes ..
abbrev pub whole : End → ℕ → ℕ → List ℕ → List ℕ
whole e l used t = receiving e used (length t) ++ take (covered l t) t

pub whole_bytes : (e : End) (l used : ℕ) (t : List ℕ) → Bytes t → Bytes (whole e l used t)
whole_bytes e l used t h =
    bytes_append (receiving e used (length t)) (take (covered l t) t)
    (implicit_bytes (length t) e.own e.partner e.local_sap e.partner_sap used) (bytes_take (covered l t) t h)

-- .. whose word is the one that came.
pub came : (e : End) (l used : ℕ) (t : List ℕ) → e.level ≡ l → word_agrees e used t ≡ true
    → number (drop (covered l t) t) ≡ word (width l) (generator l) (whole e l used t)
unfolding word_agrees check_word
came e l used t p h =
    rw p at (eqb-true (number (drop (covered e.level t) t)) (check_word e.level (receiving e used (length t)) (take (covered e.level t) t)) h)

-- Implicit bytes that differ, within no more places than the word has bytes.
told : (e f : End) (m n places : ℕ) (t : List ℕ) → Bytes t → 8 * places ≤ width e.level
    → (receiving e (used_for m t) (length t) ≡ receiving f (used_for n t) (length t) → ⊥)
    → Within places (receiving e (used_for m t) (length t)) (receiving f (used_for n t) (length t))
    → check_of e m t ≡ Passes → check_of f n t ≡ Passes → ⊥
told e f m n places t bytes few other within p q =
    let l : ℕ = e.level in
    let u : ℕ = used_for m t in
    let v : ℕ = used_for n t in
    burst_of (width l) (generator l) (generator_good l) places few (whole e l u t) (whole f l v t) (whole_bytes e l u t bytes) (whole_bytes f l v t bytes)
    (within_append (take (covered l t) t) within) (λ same. other (append_cancel_right _ _ (take (covered l t) t) same))
    (sym (came e l u t refl (passed e m t p).agrees) ∙ came f l v t (sym (level_apart e f m n t p q)) (passed f n t q).agrees)

-- So of two ends.
pub told_apart : (e f : End) (m n places : ℕ) (t : List ℕ) → Bytes t → 8 * places ≤ width e.level → OtherPartner e f
    → Within places (receiving e (used_for m t) (length t)) (receiving f (used_for n t) (length t))
    → check_of e m t ≡ Passes → check_of f n t ≡ Passes → ⊥
told_apart e f m n places t bytes few other within p q =
    told e f m n places t bytes few
    (λ same. shown e f (used_for m t) (used_for n t) (length t) (passed e m t p).in_range_holds (passed f n t q).in_range_holds other same) within p q

-- Of one own address: six places, the partner, the SAPs and the number ..
six_places : (e f : End) (u v n : ℕ) → e.own ≡ f.own → Within 6 (receiving e u n) (receiving f v n)
unfolding implicit
six_places e f u v n own = within_cons refl (within_cons (ap (λ (x : ℕ). x % 256) own) (within_all _ _ refl))

-- .. and three with one number.
abbrev parties : End → List ℕ
parties e = e.partner % 256 ∷ e.local_sap % 256 ∷ e.partner_sap % 256 ∷ []

three_places : (e f : End) (u v n : ℕ) → e.own ≡ f.own → u ≡ v → Within 3 (receiving e u n) (receiving f v n)
unfolding implicit
three_places e f u v n own same =
    rw same
    (within_cons refl
    (within_cons (ap (λ (x : ℕ). x % 256) own) (within_append (lowest_first 3 (v / 256)) (within_all (parties e) (parties f) refl))))

pub apart_at_4 : ApartAt4
apart_at_4 e f m n t bytes four also own other =
    told_apart e f m n 6 t bytes (omega (arith, width_is e.level, six e.level four)) other (six_places e f (used_for m t) (used_for n t) (length t) own)

pub apart_at_2 : ApartAt2
apart_at_2 e f m n t bytes two also other within =
    told_apart e f m n 4 t bytes (omega (arith, width_is e.level, word_some e.level)) other within

-- A connect request or confirm is checked with its own random number, whatever is expected.
own_number : (k : Kind) (m n : ℕ) (vs : List ℕ) → (k ≡ Request) ⊎ (k ≡ Confirm) → number_used k m vs ≡ number_used k n vs
own_number k m n vs (inl p) = rw p
own_number k m n vs (inr p) = rw p

pub connect_apart : ConnectApart
connect_apart e f m n t bytes connect own other =
    told_apart e f m n 3 t bytes (omega (arith, width_is e.level, word_some e.level)) other
    (three_places e f (used_for m t) (used_for n t) (length t) own
    (own_number (kind_of_command (command_of t)) m n (values (kind_of_command (command_of t)) t) connect))

-- Of one end: the three bytes of the number.
number_places : (e : End) (u v n : ℕ) → Within 3 (receiving e u n) (receiving e v n)
unfolding implicit
number_places e u v n = within_cons refl (within_cons refl (within_cons refl (within_cons refl (within_cons refl (within_all _ _ refl)))))

-- They and byte 1 show the number: byte by byte.
joined : (n x y : ℕ) → x < 256 * n → y < 256 * n → x % 256 ≡ y % 256 → (x / 256 < n → y / 256 < n → x / 256 ≡ y / 256) → x ≡ y
joined n x y h k low rest = let p : x / 256 ≡ y / 256 = rest (omega arith) (omega arith) in omega arith

number_shown : (e : End) (m n byte count : ℕ) → m < 2 ^ 32 → n < 2 ^ 32 → byte ≡ m % 256 → byte ≡ n % 256 → receiving e m count ≡ receiving e n count → m ≡ n
unfolding implicit
number_shown e m n byte count h k p q same =
    let at : (i : ℕ) → get_or (receiving e m count) i 0 ≡ get_or (receiving e n count) i 0 = λ i. ap (λ (l : List ℕ). get_or l i 0) same in
    joined (2 ^ 24) m n h k (sym p ∙ q)
    (λ h k. joined (2 ^ 16) (m / 256) (n / 256) h k (at 5)
    (λ h k. joined (2 ^ 8) (m / 256 / 256) (n / 256 / 256) h k (at 6) (λ h k. joined 1 (m / 256 / 256 / 256) (n / 256 / 256 / 256) h k (at 7) (λ h k. omega arith))))

-- What is expected is what is used, but for a connect request or confirm.
pub expected_used : (k : Kind) (m : ℕ) (vs : List ℕ) → (k ≡ Request → ⊥) → (k ≡ Confirm → ⊥) → number_used k m vs ≡ m
expected_used Request m vs r c = absurd (r refl)
expected_used Confirm m vs r c = absurd (c refl)
expected_used Authentication m vs r c = refl
expected_used Acknowledgement m vs r c = refl
expected_used Disconnect m vs r c = refl
expected_used Idle m vs r c = refl
expected_used Data m vs r c = refl
expected_used Unknown m vs r c = refl

pub one_number : OneNumber
one_number e m n t bytes request confirm h k p q = by (eqb m n) refl
  where
    used : (x : ℕ) → used_for x t ≡ x
    used x = expected_used (kind_of_command (command_of t)) x (values (kind_of_command (command_of t)) t) request confirm

    first : (x : ℕ) → check_of e x t ≡ Passes → get_or t 0 0 ≡ x % 256
    first x passes = eqb-true (get_or t 0 0) (used_for x t % 256) (passed e x t passes).byte_1 ∙ ap (λ (y : ℕ). y % 256) (used x)

    by : (b : Bool) → eqb m n ≡ b → m ≡ n
    by true f = eqb-true m n f
    by false f =
        absurd
        (told e e m n 3 t bytes (omega (arith, width_is e.level, word_some e.level))
        (λ same. eqb-false m n f (number_shown e m n (get_or t 0 0) (length t) h k (first m p) (first n q) (rw (used m, used n) at same)))
        (number_places e (used_for m t) (used_for n t) (length t)) p q)
