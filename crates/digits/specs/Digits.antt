-- Numbers as digits of six bits, and what rows of 64 numbers hold for them.
-- Assumes nothing.
use Rattle.std.specs.Prelude.{List, ℕ, zero, suc, ◌+◌, ◌*◌, ◌/◌, ◌%◌, ◌^◌, get_or}
use Rattle.std.specs.Int.Bits.{bit_xor}

-- The exclusive-or of what the rows hold for the n lowest digits of v: digit p picks its place in row p.
abbrev pub picked : List ℕ → ℕ → ℕ → ℕ
picked rows zero v = 0
picked rows (suc p) v = bit_xor (get_or rows (p * 64 + v / 2 ^ (6 * p) % 64) 0) (picked rows p v)
