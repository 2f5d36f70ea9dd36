-- A search that has passed a record is the search of the rest.
use Rattle.std.proofs.Common.{◌≡◌, true, false, arith}
use Rattle.node.specs.Accepted.{record_at, alike}
use Rattle.node.proofs.Searches.{pair_here, pair_later, pair_none}
use Rattle.node.proofs.accepted.has_pair.Goals as goal

pub loop-other-preserved : goal.loop-other-preserved
loop-other-preserved c =
    let a = c.in-Some.first.now in let rest = c.in-Some.others.now in let i = c.loop-other.other-index in
    let unlike : alike a (record_at rest i) ≡ false = c.if-first-other.false in
    (c.loop-other.invariant.0, pair_later c.args.table.now a rest i (omega arith) unlike c.loop-other.invariant.1)

pub pairs-preserved : goal.pairs-preserved
pairs-preserved c =
    (c.loop-other.invariant.0, pair_none c.args.table.now c.in-Some.first.now c.in-Some.others.now c.loop-other.other-index (omega arith) c.loop-other.invariant.1)

pub returns-then-first-other : goal.returns-then-first-other
returns-then-first-other c =
    let a = c.in-Some.first.now in let rest = c.in-Some.others.now in let i = c.loop-other.other-index in
    let like : alike a (record_at rest i) ≡ true = c.if-first-other.true in
    pair_here c.args.table.now a rest i (omega arith) like c.loop-other.invariant.1
