-- What the loop has, with what the lower digits pick, is what all pick.
use Rattle.std.proofs.Common.{◌≡◌}
use Rattle.std.specs.Int.Bits.{bit_xor}
use Rattle.digits.specs.Digits.{picked}
use Rattle.digits.proofs.low.Given as goal

abbrev pub invariant-loop-p : goal.invariant-loop-p
invariant-loop-p g l = bit_xor l.x (picked g.R.Rows.low l.p l.v) ≡ picked g.R.Rows.low 5 l.v
