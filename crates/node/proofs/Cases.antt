-- The part of a telegram that an event's net data are, or nothing of a telegram that doesn't reach so far.
-- Assumes nothing.
use mathlib.Core.Path.{◌≡◌, refl, ap, ◌∙◌}
use mathlib.Core.List.{List, []}
use Prim.Native.Nat.{ℕ, ◌+◌, ◌-◌, ◌<◌, ◌≤◌}
use native.Mathlib.Omega.{arith}
use lib.ListN.{length, take, drop}
use lib.Dec.{leb}
use borrow.Author.Tests.{le-leb, lt-leb}
use Rattle.std.proofs.Common.{Option, Some, None, MatchOption, unwrap_or, slice_range, ◌⊎◌, inl, inr, Bor}
use Rattle.ground.specs.Choice.{yes, no}
use Rattle.telegram.specs.declared.Part.{Part}
use Rattle.link.specs.declared.Event.{Event}
use Rattle.node.specs.Plain.{part_of, data_of}

module _ (e : Event) (p : Part) (t : List ℕ) where
  abbrev end : ℕ
  end = p.start + p.count

  -- it does not reach so far
  pub none_within : p ≡ part_of e → length t < end → [] ≡ data_of e t
  unfolding data_of
  none_within q l = rw (← q) (no (leb end (length t)) _ _ _ (lt-leb _ _ l) refl)

  -- it does
  pub part_within : p ≡ part_of e → end ≤ length t → slice_range t p.start end ≡ data_of e t
  unfolding data_of
  part_within q l = rw (← q) (yes (leb end (length t)) _ _ _ (le-leb _ _ l) (ap (λ (n : ℕ). take n (drop p.start t)) (count_is p.start p.count)))
    where
      count_is : (a n : ℕ) → a + n - a ≡ n
      count_is a n = omega arith

  -- what `get` says of the part from its start to its end, with nothing where it has none
  pub got_within : (o : Option (Bor (List ℕ))) (r nothing : Bor (List ℕ)) → r ≡ unwrap_or o nothing → p ≡ part_of e → nothing.now ≡ []
      → MatchOption o ((end < p.start) ⊎ (length t < end)) (λ x. (p.start ≤ end) × (end ≤ length t) × (x.now ≡ slice_range t p.start end) × (length x.now + p.start ≡ end))
      → r.now ≡ data_of e t
  got_within None r nothing u q n (inl l) = absurd (omega arith)
  got_within None r nothing u q n (inr l) = ap (λ x. x.now) u ∙ n ∙ none_within q l
  got_within (Some x) r nothing u q n m = ap (λ y. y.now) u ∙ m.2 ∙ part_within q m.1
