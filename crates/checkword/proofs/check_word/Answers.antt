-- The second run goes on from the register of the first, and the word is taken down from the top of 64 bits.
use Rattle.std.proofs.Common.{rules, ℕ, ◌≡◌, ◌++◌, ◌+◌, ◌-◌, ◌*◌, ◌/◌, ◌%◌, ◌^◌, ◌<◌, sym, ap, ◌∙◌, arith, subst}
use native.Mathlib.Nat.{zero-div, mul-mod_left}
use lib.Pow.{shr_lt}
use Rattle.checkword.specs.Word.{run, word}
use Rattle.checkword.proofs.Run.{two_runs}
use Rattle.checkword.proofs.check_word.Goals as goal

pub run_on-requires-2 : goal.run_on-requires-2
run_on-requires-2 g c =
    let s = 64 - g.W.Width.BITS in
    ap (λ (x : ℕ). x % 2 ^ s) c.run_on.ensures ∙ mul-mod_left (run g.W.Width.BITS g.W.Width.generator _ c.args.first.now) (2 ^ s)

pub returns : goal.returns
returns g c =
    let w = g.W.Width.BITS in
    let generator = g.W.Width.generator in
    let s = 64 - w in
    let y = c.run_on-2.result in
    let first = c.args.first.now in
    let begun : c.run_on.result ≡ run w generator 0 first * 2 ^ s = c.run_on.ensures ∙ ap (λ (r : ℕ). run w generator r first * 2 ^ s) (search (rules, zero-div)) in
    let room : 64 ≡ w + s = sym g.met.W.Width.test.room in
    let down : (n : ℕ) → n ≡ s → (y / 2 ^ n ≡ word w generator (first ++ c.args.second.now)) × (y / 2 ^ n < 2 ^ w) =
    λ n e. (
      ap (λ (m : ℕ). y / 2 ^ m) e ∙ two_runs w generator s first c.args.second.now begun c.run_on-2.ensures,
      subst (λ (m : ℕ). y / 2 ^ m < 2 ^ w) (sym e) (shr_lt w s (subst (λ (m : ℕ). y < 2 ^ m) room (omega arith))),
    ) in
    down _ (search (rules, arith))
