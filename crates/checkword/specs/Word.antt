-- The check word of section 10 over a width w and a generator g, which is written whole, with its highest term x^w. Bits go in highest first; when a
-- one falls out, exclusive-or the generator; the register starts at 0. Why this is the remainder of 10.2.1.3 is `meaning` of proofs/Facts.
-- Assumes nothing.
use Rattle.std.specs.Prelude.{◌≡◌, List, [], ◌∷◌, ℕ, zero, suc, ◌-◌, ◌*◌, ◌/◌, ◌%◌, ◌^◌}
use Rattle.std.specs.Int.Bits.{bit_xor}
use Rattle.checkword.specs.Bytes.{number}

-- The generator when a one falls out, and nothing when a zero does.
abbrev pub fallen : ℕ → ℕ → ℕ
fallen g zero = 0
fallen g (suc n) = g

-- One shift of the register: what falls out is bit w of its double. The generator's highest term takes that bit away again.
unfoldable pub shift : ℕ → ℕ → ℕ → ℕ
shift w g r = bit_xor (r * 2) (fallen g (r * 2 / 2 ^ w))

-- One bit goes in: it is added to the register's highest bit, and the register is shifted.
abbrev pub enter : ℕ → ℕ → ℕ → ℕ → ℕ
enter w g r bit = shift w g (bit_xor r (bit * 2 ^ (w - 1)))

-- Bits go in, one after the other.
abbrev pub entered : ℕ → ℕ → ℕ → List ℕ → ℕ
entered w g r [] = r
entered w g r (bit ∷ bits) = entered w g (enter w g r bit) bits

-- The lowest n bits of a number, highest first.
abbrev pub bits : ℕ → ℕ → List ℕ
bits zero b = []
bits (suc n) b = b / 2 ^ n % 2 ∷ bits n b

-- A byte goes in, its highest bit first.
unfoldable pub feed : ℕ → ℕ → ℕ → ℕ → ℕ
feed w g r b = entered w g r (bits 8 b)

-- The register after a list of bytes.
abbrev pub run : ℕ → ℕ → ℕ → List ℕ → ℕ
run w g r [] = r
run w g r (b ∷ bs) = run w g (feed w g r b) bs

-- The check word of a list of bytes: the register starts at 0 (10.1.1.10).
abbrev pub word : ℕ → ℕ → List ℕ → ℕ
word w g bs = run w g 0 bs

-- The check word c that came with the bytes is the one worked out from them (10.2.1.3).
abbrev pub Agrees : ℕ → ℕ → List ℕ → List ℕ → Type 0
Agrees w g bs c = number c ≡ word w g bs
