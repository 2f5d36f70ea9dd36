-- The number is that of the bytes passed.
use Rattle.std.proofs.Common.{◌≡◌, take}
use Rattle.checkword.specs.Bytes.{number}
use Rattle.checking.proofs.numbers.number_of.Given as goal

abbrev pub invariant-loop-next : goal.invariant-loop-next
invariant-loop-next l = l.x ≡ number (take l.next-index l.bytes)
