-- What the rows of a width hold, computed for every entry. The code rests on it, and no promise does.
-- Assumes nothing.
use Rattle.std.specs.Prelude.{◌≡◌, refl, List, [], ◌∷◌, ◌++◌, ℕ, zero, suc, ◌+◌, ◌*◌, ◌/◌, ◌^◌, length, take, drop, get_or}
use Rattle.rows48.specs.Rows as rows48
use Rattle.rows32.specs.Rows as rows32
use Rattle.checkword.specs.Polynomial.{Generator}
use Rattle.checkword.specs.Generators.{generator48, generator32, good48, good32}
use Rattle.checkword.specs.Word.{shift}

-- n shifts
abbrev pub shifts : ℕ → ℕ → ℕ → ℕ → ℕ
shifts w g zero r = r
shifts w g (suc n) r = shifts w g n (shift w g r)

-- what f gives of the n numbers from i on
abbrev pub made : (ℕ → ℕ) → ℕ → ℕ → List ℕ
made f i zero = []
made f i (suc n) = f i ∷ made f (suc i) n

-- The test of all rows of a width, whose register stands above s bits at the top of 64: the first row is what the digits leave, each other row is the row
-- before it after six shifts more.
pub record Test (w g s : ℕ) (low high : List ℕ) : Type 0 where
  pub good : Generator w g
  pub room : w + s ≡ 64
  pub first : take 64 (low ++ high) ≡ made (λ (d : ℕ). shifts w g w d * 2 ^ s) 0 64
  pub others : drop 64 (low ++ high) ≡ made (λ (k : ℕ). shifts w g 6 (get_or (low ++ high) k 0 / 2 ^ s) * 2 ^ s) 0 640
  pub five : length low ≡ 320
  pub rest : drop 320 (low ++ high) ≡ high

-- antt computes the test of each width
pub test48 : Test 48 generator48 16 rows48.low rows48.high
unfolding shift generator48
test48 = record { good = good48; room = refl; first = refl; others = refl; five = refl; rest = refl }

pub test32 : Test 32 generator32 32 rows32.low rows32.high
unfolding shift generator32
test32 = record { good = good32; room = refl; first = refl; others = refl; five = refl; rest = refl }
