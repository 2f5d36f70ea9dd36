-- Numbers as bytes, lowest byte first (5.1.1.6).
-- Assumes nothing.
use Rattle.std.specs.Prelude.{List, [], ◌∷◌, ℕ, zero, suc, ◌+◌, ◌*◌, ◌/◌, ◌%◌, get_or}

-- The n lowest bytes of a number.
abbrev pub lowest_first : ℕ → ℕ → List ℕ
lowest_first zero x = []
lowest_first (suc n) x = x % 256 ∷ lowest_first n (x / 256)

-- The number that n bytes from a place on write. A byte past the end counts as 0.
abbrev pub number_at : ℕ → ℕ → List ℕ → ℕ
number_at zero at t = 0
number_at (suc n) at t = get_or t at 0 + 256 * number_at n (at + 1) t

-- The n bytes from a place on. A byte past the end is 0.
abbrev pub bytes_at : ℕ → ℕ → List ℕ → List ℕ
bytes_at zero at t = []
bytes_at (suc n) at t = get_or t at 0 ∷ bytes_at n (at + 1) t
