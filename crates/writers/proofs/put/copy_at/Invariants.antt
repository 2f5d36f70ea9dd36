-- The buffer is as it was, with the bytes passed over it.
use Rattle.std.proofs.Common.{◌≡◌, ◌≤◌, length, take}
use Rattle.telegram.specs.Over.{over}
use Rattle.writers.proofs.put.copy_at.Given as goal

abbrev pub invariant-loop-i : goal.invariant-loop-i
invariant-loop-i l = (l.i ≤ length l.src) × (l.out ≡ over l.fn.out l.at (take l.i l.src))
