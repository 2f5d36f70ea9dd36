-- Writes into a buffer, one after the other: their laws have no side conditions.
-- Assumes nothing.
use mathlib.Core.Path.{◌≡◌, refl, sym, ap, ◌∙◌}
use mathlib.Core.List.{List, [], ◌∷◌, ◌++◌}
use Prim.Native.Nat.{ℕ, zero, suc, ◌+◌, ◌≤◌, ◌<◌}
use native.Mathlib.Nat.{add-zero, add-suc, suc-add, not-suc-le-zero, le_of_suc-le-suc, le_of_lt}
use native.Mathlib.Numerals.{add-one}
use lib.ListN.{length, take, drop, get_or, set}
use lib.Seq.{sets, sets-eq, length-take-le, take-suc}
use Rattle.telegram.specs.Over.{over}

-- one write after the other, where the second starts at the first's end
sets_join : (l : List ℕ) (i : ℕ) (vs ws : List ℕ) → sets (sets l i vs) (i + length vs) ws ≡ sets l i (vs ++ ws)
sets_join l i [] ws = rw add-zero
sets_join l i (v ∷ vs) ws =
    ap (λ (k : ℕ). sets (sets (set l i v) (suc i) vs) k ws) (add-suc i (length vs) ∙ sym (suc-add i (length vs)))
    ∙ sets_join (set l i v) (suc i) vs ws

pub over_join : (l : List ℕ) (i j : ℕ) (vs ws : List ℕ) → i + length vs ≡ j → over (over l i vs) j ws ≡ over l i (vs ++ ws)
unfolding over
over_join l i j vs ws e = rw (← e) (sets_join l i vs ws)

-- one store
pub over_set : (l : List ℕ) (i : ℕ) (v : ℕ) → set l i v ≡ over l i (v ∷ [])
unfolding over
over_set l i v = refl

-- what was written at the front is there
sets_cons : (x : ℕ) (l : List ℕ) (i : ℕ) (vs : List ℕ) → sets (x ∷ l) (suc i) vs ≡ x ∷ sets l i vs
sets_cons x l i [] = refl
sets_cons x l i (v ∷ vs) = sets_cons x (set l i v) (suc i) vs

pub take_sets : (l vs : List ℕ) → length vs ≤ length l → take (length vs) (sets l zero vs) ≡ vs
take_sets l [] h = refl
take_sets [] (v ∷ vs) h = absurd (not-suc-le-zero h)
take_sets (x ∷ l) (v ∷ vs) h = ap (take (suc (length vs))) (sets_cons v l zero vs) ∙ ap (λ (r : List ℕ). v ∷ r) (take_sets l vs (le_of_suc-le-suc h))

pub take_over : (l vs : List ℕ) (n : ℕ) → length vs ≡ n → n ≤ length l → take n (over l zero vs) ≡ vs
unfolding over
take_over l vs n e h = rw (← e) (take_sets l vs (rw e h))

-- a turn of a loop that copies: its store takes the copy of i elements to the copy of one more
pub over_next : (l src : List ℕ) (at i : ℕ) → i < length src → set (over l at (take i src)) (at + i) (get_or src i 0) ≡ over l at (take (i + 1) src)
over_next l src at i h =
    over_set _ _ _
    ∙ over_join l at (at + i) (take i src) (get_or src i 0 ∷ []) (ap (λ (k : ℕ). at + k) (length-take-le i src (le_of_lt h)))
    ∙ rw (add-one, take-suc src i 0)

pub over_none : (l : List ℕ) (i : ℕ) → over l i [] ≡ l
unfolding over
over_none l i = refl

-- what the name stands for, where there is room: the new elements, and then the rest as it was
pub over_is : (l vs : List ℕ) (i : ℕ) → i + length vs ≤ length l → over l i vs ≡ take i l ++ vs ++ drop (i + length vs) l
unfolding over
over_is l vs i h = sets-eq vs l i h
