-- A turn takes some of the bytes left (`taken`), and what their digits leave is the register behind them (`goes_on`).
use Rattle.std.proofs.Common.{◌-◌, refl, sym, ap₂, ◌∙◌, arith, subst}
use Rattle.std.specs.Int.Bits.{bit_xor}
use lib.Bits.{xor_lt}
use Rattle.checkword.specs.Bytes.{Bytes}
use Rattle.checkword.proofs.Bytes.{bytes_of_holds, bytes_drop}
use Rattle.checkword.proofs.Turn.{goes_on}
use Rattle.checkword.proofs.run_on.Goals as goal

pub loop-top-init : goal.loop-top-init
loop-top-init g c =
    record {
      fits = omega arith;
      bytes = bytes_of_holds c.args.bytes.now (λ k. omega (arith, c.type_inv.bytes k));
      free = c.requires;
      same = refl;
    }

pub loop-top-preserved : goal.loop-top-preserved
loop-top-preserved g c =
    let w = g.W.Width.BITS in
    let test = g.met.W.Width.test in
    let taken = c.in-Some.ensures in
    let i = c.loop-top.invariant in
    let next = goes_on w g.W.Width.generator (64 - w) g.W.Rows.low g.W.Rows.high test taken i.fits i.free i.bytes (ap₂ bit_xor c.high.ensures c.low.ensures) in
    record {
      fits = xor_lt 64 c.high.result c.low.result (omega arith) (omega arith);
      bytes = subst Bytes (sym taken.left) (bytes_drop taken.count c.loop-top.left.now i.bytes);
      free = next.0;
      same = next.1 ∙ i.same;
    }
