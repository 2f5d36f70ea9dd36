-- The net data lie within the telegram.
-- Assumes nothing.
use mathlib.Core.Path.{◌≡◌, refl, ap, ◌∙◌}
use mathlib.Core.Bool.{Bool, true, false}
use mathlib.Core.List.{List, [], ◌∷◌}
use Prim.Native.Nat.{ℕ, ◌+◌, ◌-◌, ◌≤◌}
use native.Mathlib.Omega.{arith}
use lib.ListN.{length, take, drop}
use Rattle.std.specs.Prelude.{Option, Some, None}
use Rattle.ground.specs.Choice.{pick, all}
use Rattle.telegram.specs.Levels.{level_of, word_length}
use Rattle.telegram.specs.Commands.{kind_of_command, known}
use Rattle.telegram.specs.Layout.{header, suits}
use Rattle.telegram.specs.Ends.{is_level}
use Rattle.telegram.specs.Check.{command_of}
use Rattle.telegram.specs.NetData.{nowhere, part_of, net_part, net_data}
use Rattle.telegram.specs.declared.Kind.{Kind}
use Rattle.telegram.specs.declared.Part.{Part}
use Rattle.telegram.proofs.Refusals.{telegram_room}

Inside : Part → ℕ → Type 0
Inside p n = p.start + p.count ≤ n

picked : (k : Kind) (l n : ℕ) (b : Bool) → (b ≡ true → header k + word_length l ≤ n)
    → Inside (pick b (record { start = header k; count = n - header k - word_length l }) nowhere) n
unfolding Inside pick
picked k l n true h = omega (arith, h refl)
picked k l n false h = omega arith

inside : (lv : Option ℕ) (k : Kind) (n : ℕ) → Inside (part_of lv k n) n
unfolding Inside
inside (Some l) k n = picked k l n (all (is_level l ∷ known k ∷ suits k l n ∷ [])) (λ e. (telegram_room k l n e).0)
inside None k n = omega arith

pub part_inside : (t : List ℕ) → (net_part t).start + (net_part t).count ≤ length t
unfolding net_part Inside
part_inside t = inside (level_of (command_of t)) (kind_of_command (command_of t)) (length t)

-- the same of what a call gave
pub inside_by : (p : Part) (t : List ℕ) → p ≡ net_part t → p.start + p.count ≤ length t
inside_by p t e = rw e (part_inside t)

pub data_by : (p : Part) (t : List ℕ) → p ≡ net_part t → take (p.start + p.count - p.start) (drop p.start t) ≡ net_data t
unfolding net_data
data_by p t e =
    let n : p.start + p.count - p.start ≡ p.count = omega arith in
    ap (λ (m : ℕ). take m (drop p.start t)) n ∙ ap {B = List ℕ} (λ (q : Part). take q.count (drop q.start t)) e
