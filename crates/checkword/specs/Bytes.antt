-- Lists of bytes: what a byte is, the exclusive-or of two lists place by place, the number that a list writes with its highest byte first and the
-- bytes of a number, and where two lists differ.
-- Assumes nothing.
use Rattle.std.specs.Prelude.{◌≡◌, List, [], ◌∷◌, ℕ, zero, suc, ◌+◌, ◌*◌, ◌/◌, ◌%◌, ◌^◌, ◌≤◌, ◌<◌, length, get_or}
use Rattle.std.specs.Int.Bits.{bit_xor}

-- Each number of the list is a byte.
abbrev pub Bytes : List ℕ → Type 0
Bytes [] = Unit {0}
Bytes (b ∷ bs) = (b < 256) × Bytes bs

-- The exclusive-or of two lists of one length, place by place.
abbrev pub xors : List ℕ → List ℕ → List ℕ
xors [] bs = []
xors (a ∷ as') [] = []
xors (a ∷ as') (b ∷ bs) = bit_xor a b ∷ xors as' bs

-- The number that the bytes write, highest byte first.
abbrev pub number : List ℕ → ℕ
number [] = 0
number (b ∷ bs) = b * 2 ^ (8 * length bs) + number bs

-- The n bytes of a number, highest byte first: how a check word stands in a telegram (5.3.1.7, 10.2.1.3.2).
abbrev pub bytes_of : ℕ → ℕ → List ℕ
bytes_of zero x = []
bytes_of (suc n) x = x / 2 ^ (8 * n) % 256 ∷ bytes_of n x

-- Two lists of one length that agree at every place but, perhaps, the n neighbouring places from `start` on.
pub record Within (n : ℕ) (a b : List ℕ) : Type 0 where
  pub start : ℕ
  pub one_length : length a ≡ length b
  pub before : (k : ℕ) → k < start → get_or a k 0 ≡ get_or b k 0
  pub after : (k : ℕ) → start + n ≤ k → get_or a k 0 ≡ get_or b k 0
