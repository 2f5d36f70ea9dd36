-- Numbers on a circle of 2^32, as clocks of 32 bits count, and how far they lie apart.
-- Assumes nothing.
use Rattle.std.specs.Prelude.{ℕ, ◌+◌, ◌-◌, ◌%◌, ◌^◌, Bool, ℤ, pos, ◌-ℤ◌, int_lt, nat_lt, unsigned_abs}
use Rattle.ground.specs.Choice.{pick}

-- a - b, modulo 2^32, of two numbers below 2^32.
unfoldable pub minus : ℕ → ℕ → ℕ
minus a b = (a + (2 ^ 32 - b)) % 2 ^ 32

-- A number below 2^32 as a signed one: below 2^31 it is itself, else 2^32 less.
unfoldable pub signed_of : ℕ → ℤ
signed_of n = pick (nat_lt n (2 ^ 31)) (pos n) (pos n -ℤ pos (2 ^ 32))

-- How far a lies after b, from -2^31 to 2^31 - 1.
unfoldable pub distance_of : ℕ → ℕ → ℤ
distance_of a b = signed_of (minus a b)

-- a is later than b: it lies more than 0 after it.
unfoldable pub later_than : ℕ → ℕ → Bool
later_than a b = int_lt (pos 0) (distance_of a b)

-- The size of the distance.
unfoldable pub apart_by : ℕ → ℕ → ℕ
apart_by a b = unsigned_abs (distance_of a b)
