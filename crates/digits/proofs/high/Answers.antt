-- A turn adds what the next digit picks (`next`); in the end no digit is left.
use Rattle.std.proofs.Common.{◌≡◌, ℕ, ◌-◌, sym, ap, ◌∙◌, arith}
use Rattle.std.specs.Int.Bits.{bit_xor}
use lib.Bits.{xor_zero_r}
use lib.ListN.{get_or}
use Rattle.digits.specs.Digits.{picked}
use Rattle.digits.proofs.Digits.{inside, next}
use Rattle.digits.proofs.high.Goals as goal

pub loop-p-preserved : goal.loop-p-preserved
loop-p-preserved g c =
    let v = c.args.v in
    ap (λ (n : ℕ). bit_xor (bit_xor c.loop-p.x n) (picked g.R.Rows.high (c.loop-p.p - 1) v)) (c.high_at-x.ensures ∙ ap (λ (k : ℕ). get_or g.R.Rows.high k 0) (inside v (c.loop-p.p - 1) 6 (omega arith)))
    ∙ next g.R.Rows.high c.loop-p.x v c.loop-p.p (omega arith) ∙ c.loop-p.invariant

pub returns : goal.returns
returns g c =
    let none : c.loop-p.p ≡ 0 = omega arith in
    sym (ap (λ (n : ℕ). bit_xor c.loop-p.x (picked g.R.Rows.high n c.args.v)) none ∙ xor_zero_r c.loop-p.x) ∙ c.loop-p.invariant
