-- What the loop has, with what the lower digits pick, is `y` with what all pick.
use Rattle.std.proofs.Common.{◌≡◌}
use Rattle.std.specs.Int.Bits.{bit_xor}
use Rattle.digits.specs.Digits.{picked}
use Rattle.digits.proofs.high.Given as goal

abbrev pub invariant-loop-p : goal.invariant-loop-p
invariant-loop-p g l = bit_xor l.x (picked g.R.Rows.high l.p l.v) ≡ bit_xor l.y (picked g.R.Rows.high 6 l.v)
