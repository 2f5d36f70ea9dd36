-- No sum of sixteen distances is too large for 64 bits, and a turn adds one distance (`turned`).
use Rattle.std.proofs.Common.{◌≡◌, ◌+◌, ◌∙◌, length, take, sym, ap, arith, w64, to_z, of_z, ◌+ℤ◌, rules}
use Rattle.std.proofs.Math.Facts.{of_z-to_z}
use Rattle.std.proofs.lemmas.Int.{to_z-of_z}
use Rattle.clock.specs.Factor.{spread_of}
use Rattle.clock.proofs.Averages.{spread_none, turned, taken_fits}
use Rattle.clock.proofs.means.spread.Goals as goal

long : (c : goal.After-distance-sum) → length c.args.pairs ≡ 16
long c = search rules

-- the sum after this turn
sum_next : (c : goal.After-distance-sum) →
    to_z w64 c.loop-pair.sum-bits +ℤ to_z w64 (of_z w64 c.distance-sum.result) ≡ spread_of c.args.base (take (c.loop-pair.pair-index + 1) c.args.pairs)
sum_next c =
    let so_far : c.loop-pair.sum-bits ≡ of_z w64 (spread_of c.args.base (take c.loop-pair.pair-index c.args.pairs)) = sym (of_z-to_z c.loop-pair.auto.sum) ∙ ap (of_z w64) c.loop-pair.invariant in
    turned c.args.base c.args.pairs c.loop-pair.pair-index c.loop-pair.sum-bits c.difference.result c.distance-sum.result (long c) (omega arith) so_far c.difference.ensures c.distance-sum.ensures

pub loop-pair-init : goal.loop-pair-init
loop-pair-init c = spread_none c.args.base c.args.pairs

pub overflow_add-sum : goal.overflow_add-sum
overflow_add-sum c = rw (sum_next c) (taken_fits c.args.base c.args.pairs (c.loop-pair.pair-index + 1) (long c))

pub loop-pair-preserved : goal.loop-pair-preserved
loop-pair-preserved c = rw (sum_next c) (to_z-of_z w64 _ (taken_fits c.args.base c.args.pairs (c.loop-pair.pair-index + 1) (long c)))
