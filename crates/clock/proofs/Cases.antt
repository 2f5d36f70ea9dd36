-- Small laws of the tests, over plain variables: each ties a test of the code to the one of the definitions.
-- Assumes nothing.
use Rattle.std.proofs.Common.{◌≡◌, ℕ, ◌+◌, ◌-◌, ◌*◌, ◌<◌, ◌≤◌, Bool, true, false, eqb, leb, List, [], ◌∷◌, ◌++◌, refl, arith, ne_eqb, eqb-true, le-leb}
use Rattle.std.specs.Prelude.{Err}
use borrow.Author.Tests.{lt-leb, eqb-false}
use Rattle.ground.specs.Choice.{pick}
use Rattle.clock.specs.Tests.{all_passed, failing, by_tests}
use Rattle.clock.specs.declared.events.FailedTest.{FailedTest}

-- no number has one before 0
pub before_none : (n m : ℕ) → m ≡ 0 → eqb (n + 1) m ≡ false
before_none n m e = ne_eqb (n + 1) m (λ f. omega arith)

-- the number before m is n, or m the one after n
same_step : (n m : ℕ) (s t : Bool) → (m ≡ 0 → ⊥) → eqb (m - 1) n ≡ s → eqb (n + 1) m ≡ t → s ≡ t
same_step n m true true z e f = refl
same_step n m false false z e f = refl
same_step n m true false z e f = absurd (eqb-false (n + 1) m f (let g = eqb-true (m - 1) n e in omega arith))
same_step n m false true z e f = absurd (eqb-false (m - 1) n e (let g = eqb-true (n + 1) m f in omega arith))

pub one_before : (n m : ℕ) → (m ≡ 0 → ⊥) → eqb (m - 1) n ≡ eqb (n + 1) m
one_before n m z = same_step n m (eqb (m - 1) n) (eqb (n + 1) m) z refl refl

-- tests, and the ones behind them
join_by : (b : Bool) (test : FailedTest) (ts us : List (Bool × FailedTest)) → failing (ts ++ us) ≡ by_tests (failing ts) (failing us) Err
    → pick b (failing (ts ++ us)) (Err test) ≡ by_tests (pick b (failing ts) (Err test)) (failing us) Err
unfolding pick by_tests
join_by true test ts us e = e
join_by false test ts us e = refl

pub failing_join : (ts us : List (Bool × FailedTest)) → failing (ts ++ us) ≡ by_tests (failing ts) (failing us) Err
unfolding by_tests
failing_join [] us = refl
failing_join (t ∷ ts) us = join_by t.0 t.1 ts us (failing_join ts us)

-- tests that are asked for, or not
pub asked_or_none : (b : Bool) (ts : List (Bool × FailedTest)) → pick b (failing ts) all_passed ≡ failing (pick b ts [])
unfolding pick
asked_or_none true ts = refl
asked_or_none false ts = refl

-- a thousandth of the period
pub drift_held : (x : ℕ) → x ≤ 30 → leb (1000 * x) 30000 ≡ true
drift_held x h = le-leb (1000 * x) 30000 (omega arith)

pub drift_failed : (x : ℕ) → 30 < x → leb (1000 * x) 30000 ≡ false
drift_failed x h = lt-leb (1000 * x) 30000 (omega arith)
