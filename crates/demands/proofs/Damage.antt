-- Damage on the cable is found. A telegram that passes, behind its implicit bytes and with its check word, leaves 0; so does what came of it, if that passes too; and two
-- byte strings that differ only within as many neighbouring places as the check word has bytes don't both leave 0.
-- Assumes nothing.
use mathlib.Core.Path.{◌≡◌, refl, sym, ap, ap₂, ◌∙◌, subst}
use mathlib.Core.Bool.{Bool, true, false}
use mathlib.Core.List.{List, [], ◌∷◌, ◌++◌, append_assoc, append_cancel_left}
use mathlib.Core.Logic.{inl, inr}
use Prim.Native.Nat.{ℕ, ◌*◌, ◌%◌, ◌≤◌}
use native.Mathlib.Omega.{arith}
use lib.ListN.{length, get_or, length-drop, take-append-drop}
use lib.Dec.{eqb}
use Rattle.checkword.specs.Bytes.{Bytes, Within}
use Rattle.checkword.specs.Word.{word, Agrees}
use Rattle.checkword.proofs.Bytes.{bytes_append, bytes_drop}
use Rattle.checkword.proofs.Facts.{burst_of, agrees_by_remainder}
use Rattle.ground.specs.Choice.{pick}
use Rattle.telegram.specs.Levels.{level_of, width, word_length, generator}
use Rattle.telegram.specs.Commands.{kind_of_command, known}
use Rattle.telegram.specs.Layout.{on_bus, suits, values}
use Rattle.telegram.specs.Ends.{receiving}
use Rattle.telegram.specs.Values.{good_fields}
use Rattle.telegram.specs.Check.{command_of, same_level, used_for, covered, word_agrees, check_of, Check, Passes, Failed}
use Rattle.telegram.specs.declared.End.{End}
use Rattle.telegram.specs.declared.Clause.TheVariants as clause
use Rattle.telegram.proofs.Widths.{width_is, word_some, six, generator_good}
use Rattle.telegram.proofs.Refusals.{suits_room}
use Rattle.telegram.proofs.Apart.{Passed, passed, whole, whole_bytes, came, within_all, within_append, within_cons, expected_used}
use Rattle.link.specs.Records.{end_of}
use Rattle.link.specs.declared.Record.{Record}
use Rattle.demands.specs.Damage.{SeenOverTheWidth, body_of, word_of, Changed, Damage, Connect, OtherThanConnect, Fails, Found, DamageIsFound, DamageIsFoundAt4, DamageIsFoundAt2}
use Rattle.demands.specs.Damage.Damage.{before_the_word, in_the_word}

pub seen_over_the_width : SeenOverTheWidth
seen_over_the_width w g n k good size few a b c d ha hb hc hd lc ld within differ p q =
    burst_of w g good n few (a ++ c) (b ++ d) (bytes_append a c ha hc) (bytes_append b d hb hd) within differ
    ((agrees_by_remainder w g good k size a c ha hc lc).0 p ∙ sym ((agrees_by_remainder w g good k size b d hb hd ld).0 q))

-- A telegram behind its implicit bytes, with its check word: what is covered, and the check word.
abbrev pub message : End → ℕ → List ℕ → List ℕ
message e used t = receiving e used (length t) ++ t

joined : (e : End) (l used : ℕ) (t : List ℕ) → whole e l used t ++ word_of l t ≡ message e used t
joined e l used t =
    append_assoc (receiving e used (length t)) (body_of l t) (word_of l t)
    ∙ ap {B = List ℕ} (λ (s : List ℕ). receiving e used (length t) ++ s) (take-append-drop (covered l t) t)

-- the check word that came has the bytes of its level, where there is room for it
word_size : (l : ℕ) (t : List ℕ) → word_length l ≤ length t → length (word_of l t) ≡ word_length l
word_size l t h = omega (arith, length-drop (covered l t) t)

has_room : (e : End) (m : ℕ) (t : List ℕ) → Passed e m t → word_length e.level ≤ length t
has_room e m t p = omega (arith, suits_room (kind_of_command (command_of t)) e.level (length t) p.of_length)

-- What a telegram that passes says at its level's width: the sizes, and that its check word agrees.
module _ (e : End) (m : ℕ) (t : List ℕ) (bytes : Bytes t) (p : check_of e m t ≡ Passes) where
  abbrev l : ℕ
  l = e.level

  covered_bytes : Bytes (whole e l (used_for m t) t)
  covered_bytes = whole_bytes e l (used_for m t) t bytes

  word_bytes : Bytes (word_of l t)
  word_bytes = bytes_drop (covered l t) t bytes

  size : length (word_of l t) ≡ word_length l
  size = word_size l t (has_room e m t (passed e m t p))

  agrees : Agrees (width l) (generator l) (whole e l (used_for m t) t) (word_of l t)
  agrees = came e l (used_for m t) t refl (passed e m t p).agrees

  -- so the whole leaves 0 (10.2.1.2)
  pub leaves_nothing : word (width l) (generator l) (message e (used_for m t) t) ≡ 0
  leaves_nothing =
      sym (ap (word (width l) (generator l)) (joined e l (used_for m t) t))
      ∙ (agrees_by_remainder (width l) (generator l) (generator_good l) (word_length l) (width_is l) (whole e l (used_for m t) t) (word_of l t) covered_bytes word_bytes size).0 agrees

-- what differs only within n places still does behind the same bytes
within_behind : {n : ℕ} {a b : List ℕ} (s : List ℕ) → Within n a b → Within n (s ++ a) (s ++ b)
within_behind [] w = w
within_behind (x ∷ s) w = within_cons refl (within_behind s w)

-- of two telegrams with the same implicit bytes that differ only within n places, one at most passes
pub seen : (e : End) (m n : ℕ) (t u : List ℕ) → 8 * n ≤ width e.level → Changed t u → Within n t u
    → receiving e (used_for m t) (length t) ≡ receiving e (used_for m u) (length u) → check_of e m t ≡ Passes → check_of e m u ≡ Passes → ⊥
seen e m n t u few changed within same p q =
    let ht = changed.bytes in
    let hu = changed.came in
    let before : List ℕ = receiving e (used_for m u) (length u) in
    let t-is : whole e e.level (used_for m t) t ++ word_of e.level t ≡ before ++ t =
    joined e e.level (used_for m t) t ∙ ap {B = List ℕ} (λ (s : List ℕ). s ++ t) same in
    let u-is : whole e e.level (used_for m u) u ++ word_of e.level u ≡ before ++ u = joined e e.level (used_for m u) u in
    seen_over_the_width (width e.level) (generator e.level) n (word_length e.level) (generator_good e.level) (width_is e.level) few
    (whole e e.level (used_for m t) t) (whole e e.level (used_for m u) u) (word_of e.level t) (word_of e.level u) (covered_bytes e m t ht p)
    (covered_bytes e m u hu q) (word_bytes e m t ht p) (word_bytes e m u hu q) (size e m t ht p) (size e m u hu q) (rw (t-is, u-is) (within_behind before within))
    (λ one. changed.differs (append_cancel_left before t u (sym t-is ∙ one ∙ u-is))) (agrees e m t ht p) (agrees e m u hu q)

-- What a telegram is used with

expects : (m : ℕ) (t : List ℕ) → OtherThanConnect t → used_for m t ≡ m
expects m t other = expected_used (kind_of_command (command_of t)) m (values (kind_of_command (command_of t)) t) (λ k. other (inl k)) (λ k. other (inr k))

same_implicit : (e : End) (m : ℕ) (t u : List ℕ) → OtherThanConnect t → OtherThanConnect u → Changed t u
    → receiving e (used_for m t) (length t) ≡ receiving e (used_for m u) (length u)
same_implicit e m t u other other' changed = ap₂ {C = List ℕ} (receiving e) (expects m t other ∙ sym (expects m u other')) changed.one_length

-- the command byte says which kind it is
pub still_connect : (t u : List ℕ) → command_of t ≡ command_of u → Connect t → Connect u
still_connect t u command (inl k) = inl (ap kind_of_command (sym command) ∙ k)
still_connect t u command (inr k) = inr (ap kind_of_command (sym command) ∙ k)

-- Where the check fails

abbrev last_three : Bool → Bool → Bool → Check
last_three a b c = pick a (pick b (pick c Passes (Failed clause.Word)) (Failed clause.Fields)) (Failed clause.Number)

by_three : (a b c : Bool) → (last_three a b c ≡ Passes → ⊥) → Fails (last_three a b c)
unfolding pick
by_three false b c h = inl refl
by_three true false c h = inr (inl refl)
by_three true true false h = inr (inr refl)
by_three true true true h = absurd (h refl)

-- with the level, command and length of a telegram that passes, only the last three clauses are left
left_to_fail : (e : End) (m : ℕ) (t u : List ℕ) → Changed t u → command_of t ≡ command_of u → Passed e m t
    → check_of e m u
    ≡ last_three (eqb (get_or u 0 0) (used_for m u % 256)) (good_fields (kind_of_command (command_of u)) (values (kind_of_command (command_of u)) u)) (word_agrees e (used_for m u) u)
unfolding check_of pick
left_to_fail e m t u changed command was =
    let on_bus_holds : on_bus (length u) ≡ true = rw (← changed.one_length) was.on_bus_holds in
    let of_level : same_level (level_of (command_of u)) e.level ≡ true = rw (← command) was.of_level in
    let of_kind : known (kind_of_command (command_of u)) ≡ true = rw (← command) was.of_kind in
    let of_length : suits (kind_of_command (command_of u)) e.level (length u) ≡ true = rw (← command, ← changed.one_length) was.of_length in
    rw (was.in_range_holds, on_bus_holds, of_level, of_kind, of_length) refl

pub fails : (e : End) (m : ℕ) (t u : List ℕ) → Changed t u → command_of t ≡ command_of u → check_of e m t ≡ Passes → (check_of e m u ≡ Passes → ⊥) → Fails (check_of e m u)
fails e m t u changed command p not_passed =
    let left = left_to_fail e m t u changed command (passed e m t p) in
    rw left (by_three _ _ _ (λ q. not_passed (left ∙ q)))

-- Where the changes lie, in the whole telegram

rejoined : (l n : ℕ) (t u : List ℕ) → Within n (body_of l t ++ word_of l t) (body_of l u ++ word_of l u) → Within n t u
rejoined l n t u within =
    subst (λ (s : List ℕ). Within n s u) (take-append-drop (covered l t) t)
    (subst (λ (s : List ℕ). Within n (body_of l t ++ word_of l t) s) (take-append-drop (covered l u) u) within)

in_the_whole : (l n : ℕ) (t u : List ℕ) → Within n (body_of l t) (body_of l u) → word_of l t ≡ word_of l u → Within n t u
in_the_whole l n t u within same =
    rejoined l n t u (subst (λ (s : List ℕ). Within n (body_of l t ++ word_of l t) (body_of l u ++ s)) same (within_append (word_of l t) within))

at_the_end : (l n : ℕ) (t u : List ℕ) → body_of l t ≡ body_of l u → length (word_of l t) ≡ n → length (word_of l u) ≡ n → Within n t u
at_the_end l n t u same size size' =
    rejoined l n t u
    (subst (λ (s : List ℕ). Within n (body_of l t ++ word_of l t) (s ++ word_of l u)) same
    (within_behind (body_of l t) (subst (λ (k : ℕ). Within k (word_of l t) (word_of l u)) size (within_all (word_of l t) (word_of l u) (size ∙ sym size')))))

-- Of two telegrams, neither of them a connect request or confirm, one at most passes.
pub other_seen : (e : End) (m n : ℕ) (t u : List ℕ) → 8 * n ≤ width e.level → OtherThanConnect t → OtherThanConnect u → Changed t u → Within n t u
    → check_of e m t ≡ Passes → check_of e m u ≡ Passes → ⊥
other_seen e m n t u few other other' changed within p = seen e m n t u few changed within (same_implicit e m t u other other' changed) p

-- Damage lies within some neighbouring bytes of the whole telegram, no more than the width has room for.
pub somewhere : (e : End) (m n : ℕ) (t u : List ℕ) → 8 * n ≤ width e.level → Changed t u → Damage n e.level t u → check_of e m t ≡ Passes
    → (k : ℕ) × ((8 * k ≤ width e.level) × Within k t u)
somewhere e m n t u few changed (before_the_word within same) p = (n, (few, in_the_whole e.level n t u within same))
somewhere e m n t u few changed (in_the_word same) p =
    let l : ℕ = e.level in
    let room : word_length l ≤ length t = has_room e m t (passed e m t p) in
    let one_length = changed.one_length in
    (word_length l, (omega (arith, width_is l), at_the_end l (word_length l) t u same (word_size l t room) (word_size l u (omega arith))))

pub damage_is_found : DamageIsFound
unfolding end_of
damage_is_found r own m n t u few other changed command damage p =
    let place = somewhere (end_of r own) m n t u few changed damage p in
    fails (end_of r own) m t u changed command p
    (other_seen (end_of r own) m place.0 t u place.1.0 other (λ k. other (still_connect u t (sym command) k)) changed place.1.1 p)

-- at a level, by the damage and the room that its word has for it
at_level : {n l : ℕ} (r : Record) (own m : ℕ) (t u : List ℕ) → Damage n l t u → r.level ≡ l → 8 * n ≤ width r.level → OtherThanConnect t → Changed t u
    → command_of t ≡ command_of u → Found r own m t u
at_level {n} {l} r own m t u damage level few other changed command = damage_is_found r own m n t u few other changed command (rw level damage)

pub damage_is_found_at_4 : DamageIsFoundAt4
damage_is_found_at_4 r own m t u level other changed command damage =
    at_level r own m t u damage level (omega (arith, width_is r.level, six r.level level)) other changed command

pub damage_is_found_at_2 : DamageIsFoundAt2
damage_is_found_at_2 r own m t u level other changed command damage =
    at_level r own m t u damage level (omega (arith, width_is r.level, word_some r.level)) other changed command
