-- The searches, one record after the other: as std's words say them, and as the definitions of specs/ do.
-- Assumes nothing.
use Prim.Native.Nat.{ℕ, suc, ◌+◌, ◌<◌, ◌≤◌}
use native.Mathlib.Numerals.{add-one, one-add}
use mathlib.Core.Path.{◌≡◌, refl, sym, ◌∙◌, ap}
use mathlib.Core.Bool.{Bool, true, false, cond, ◌&&◌}
use mathlib.Core.List.{List}
use lib.ListN.{length, drop, drop_of_length-le}
use lib.Seq.{drop-cons}
use Rattle.std.specs.List.{list_all, position_or_len}
use Rattle.std.proofs.lemmas.List.Recursion.{same_from_clauses, is_position_or_len}
use Rattle.ground.specs.Choice.{pick, yes, no}
use Rattle.link.specs.declared.Record.{Record}
use Rattle.node.specs.declared.Head.{Head}
use Rattle.node.specs.declared.Route.{Route}
use Rattle.node.specs.Accepted.{nowhere, record_at, record_accepted, all_accepted, alike, has_like, has_pair}
use Rattle.node.specs.Matching.{is_for, first_match}

pub pick_true : {X : Type 0} (z : Bool) (a b : X) → z ≡ true → pick z a b ≡ a
pick_true z a b h = sym (yes z a b a h refl)

pub pick_false : {X : Type 0} (z : Bool) (a b : X) → z ≡ false → pick z a b ≡ b
pick_false z a b h = sym (no z a b b h refl)

-- whether every record is accepted
pub all_is : (h : Head) (t : List Record) → list_all (record_accepted h) t ≡ all_accepted h t
unfolding pick
all_is h = same_from_clauses (list_all (record_accepted h)) (all_accepted h) (λ r b. record_accepted h r && b) refl (λ r rs. refl) (λ r rs. and_by (record_accepted h r) (all_accepted h rs))
  where
    and_by : (b c : Bool) → pick b c false ≡ (b && c)
    and_by true c = refl
    and_by false c = refl

-- the first record that a telegram is for
pub first_is : (w : Route) (t : List Record) → position_or_len (is_for w) t ≡ first_match w t
unfolding pick
first_is w t = sym (is_position_or_len (first_match w) (is_for w) refl (λ r rs. chosen (is_for w r) (first_match w rs)) t)
  where
    chosen : (b : Bool) (n : ℕ) → pick b 0 (suc n) ≡ cond b 0 (1 + n)
    chosen true n = refl
    chosen false n = sym (one-add n)

-- whether two records of t are alike: none that begins before a, and none of a with one of the first i that follow it
module _ (t : List Record) (a : Record) (rest : List Record) where
  abbrev pub Passed : ℕ → Type 0
  Passed i = has_pair t ≡ pick (has_like a (drop i rest)) true (has_pair rest)

  module _ (i : ℕ) where
    abbrev here : Bool
    here = alike a (record_at rest i)

    next_pair : i < length rest → Passed i → has_pair t ≡ pick (pick here true (has_like a (drop (suc i) rest))) true (has_pair rest)
    next_pair l e = e ∙ ap (λ (m : List Record). pick (has_like a m) true (has_pair rest)) (drop-cons rest i nowhere l)

    pub pair_here : i < length rest → here ≡ true → Passed i → true ≡ has_pair t
    unfolding pick
    pair_here l m e = sym (next_pair l e ∙ ap (λ (z : Bool). pick z true (has_pair rest)) (pick_true here true _ m))

    pub pair_later : i < length rest → here ≡ false → Passed i → Passed (i + 1)
    pair_later l m e =
        next_pair l e ∙ ap (λ (z : Bool). pick z true (has_pair rest)) (pick_false here true _ m)
        ∙ ap (λ (k : ℕ). pick (has_like a (drop k rest)) true (has_pair rest)) (sym (add-one i))

    pub pair_none : length rest ≤ i → Passed i → has_pair t ≡ has_pair rest
    unfolding pick
    pair_none l e = e ∙ ap (λ (m : List Record). pick (has_like a m) true (has_pair rest)) (drop_of_length-le rest l)
