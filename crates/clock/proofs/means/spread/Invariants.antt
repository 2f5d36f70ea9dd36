-- The sum so far is that of the first pairs.
use Rattle.std.proofs.Common.{◌≡◌, take}
use Rattle.clock.specs.Factor.{spread_of}
use Rattle.clock.proofs.means.spread.Given as goal

abbrev pub invariant-loop-pair : goal.invariant-loop-pair
invariant-loop-pair l = l.sum ≡ spread_of l.base (take l.pair-index l.pair-items)
