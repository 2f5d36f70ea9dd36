-- From the register, which has zeros below its bits, the bytes left come to what all of them come to.
use Rattle.std.proofs.Common.{◌≡◌, ◌-◌, ◌/◌, ◌%◌, ◌^◌, ◌<◌, length}
use Rattle.checkword.specs.Bytes.{Bytes}
use Rattle.checkword.specs.Word.{run}
use Rattle.checkword.proofs.run_on.Given as goal

abbrev pub invariant-loop-top : goal.invariant-loop-top
invariant-loop-top g l =
    let w = g.W.Width.BITS in
    let s = 64 - w in
    record {
      fits : l.x < 2 ^ 64;
      bytes : Bytes l.left;
      free : l.x % 2 ^ s ≡ 0;
      same : run w g.W.Width.generator (l.x / 2 ^ s) l.left ≡ run w g.W.Width.generator (l.fn.register / 2 ^ s) l.bytes;
    }

abbrev pub decreases-loop-top : goal.decreases-loop-top
decreases-loop-top g l = length l.left
