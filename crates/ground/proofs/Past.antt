-- Past the end of a run there is only 0: a number that begins there is 0.
-- Assumes nothing.
use mathlib.Core.Path.{◌≡◌, refl, ap₂}
use mathlib.Core.List.{List}
use Prim.Native.Nat.{ℕ, zero, suc, ◌+◌, ◌*◌, ◌≤◌}
use native.Mathlib.Omega.{arith}
use lib.ListN.{length, get_or-eq_default}
use Rattle.ground.specs.Numbers.{number_at}

pub past : (n at : ℕ) (t : List ℕ) → length t ≤ at → number_at n at t ≡ 0
past zero at t h = refl
past (suc n) at t h = ap₂ (λ (b m : ℕ). b + 256 * m) (get_or-eq_default t 0 h) (past n (at + 1) t (omega (arith, h)))
