-- No pair begins with a record passed, nor with the one looked at and one that was compared with it: the search is that of the rest.
use Rattle.std.proofs.Common.{◌≡◌, length, false}
use Rattle.node.specs.Accepted.{has_pair}
use Rattle.node.proofs.Searches.{Passed}
use Rattle.node.proofs.accepted.has_pair.Given as goal

abbrev pub invariant-pairs : goal.invariant-pairs
invariant-pairs l = (l.found ≡ false) × (has_pair l.table ≡ has_pair l.rest)

abbrev pub decreases-pairs : goal.decreases-pairs
decreases-pairs l = length l.rest

abbrev pub invariant-loop-other : goal.invariant-loop-other
invariant-loop-other l = (l.found ≡ false) × Passed l.table l.first l.others l.other-index
