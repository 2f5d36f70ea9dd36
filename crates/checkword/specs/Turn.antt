-- What a turn of the loop over a run takes. The code rests on it, and no promise does.
-- Assumes nothing.
use Rattle.std.specs.Prelude.{◌≡◌, List, ℕ, ◌*◌, ◌/◌, ◌%◌, ◌^◌, ◌≤◌, ◌<◌, length, take, drop}
use Rattle.std.specs.Int.Bits.{bit_xor}
use Rattle.checkword.specs.Bytes.{number}

-- Of what is left of the run, a: so many bytes, the top v of the register x with them added to it, the rest y of the register,
-- moved up, and the bytes behind.
pub record Taken (x : ℕ) (a : List ℕ) (v y : ℕ) (behind : List ℕ) : Type 0 where
  pub count : ℕ
  pub some : 0 < count
  pub few : count ≤ 8
  pub fits : count ≤ length a
  pub left : behind ≡ drop count a
  pub rest : y ≡ x * 2 ^ (8 * count) % 2 ^ 64
  pub top : v ≡ bit_xor (x * 2 ^ (8 * count) / 2 ^ 64) (number (take count a))
