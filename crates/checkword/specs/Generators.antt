-- The two generators of section 10, each by its exponents as printed, and what is shown of them before anything rests on them.
-- Assumes nothing.
use Rattle.std.specs.Prelude.{◌≡◌, refl, [], ◌∷◌, ℕ, ◌+◌, ◌^◌}
use Rattle.std.proofs.Common.{lit≤}
use Rattle.checkword.specs.Bytes.{number}
use Rattle.checkword.specs.Polynomial.{times, poly, Generator}

-- CRC_SL2, 10.1.2.1.
unfoldable pub generator32 : ℕ
generator32 = poly (32 ∷ 30 ∷ 27 ∷ 25 ∷ 22 ∷ 20 ∷ 13 ∷ 12 ∷ 11 ∷ 10 ∷ 8 ∷ 7 ∷ 6 ∷ 5 ∷ 4 ∷ 0 ∷ [])

-- CRC_SL4, 10.1.3.2, first line.
unfoldable pub generator48 : ℕ
generator48 =
    poly
    (48 ∷ 47 ∷ 46 ∷ 44 ∷ 41 ∷ 39 ∷ 35 ∷ 34 ∷ 32 ∷ 31 ∷ 29 ∷ 28 ∷ 25 ∷ 24 ∷ 23 ∷ 22 ∷ 21 ∷ 20 ∷ 19 ∷ 17 ∷ 14 ∷ 11 ∷ 9 ∷ 7 ∷ 5 ∷ 3 ∷ 2 ∷ 0 ∷ [])

-- Each has the degree of its check word and a constant term of one.
pub good32 : Generator 32 generator32
unfolding generator32
good32 = record { wide = lit≤ tt; degree = refl; constant = refl }

pub good48 : Generator 48 generator48
unfolding generator48
good48 = record { wide = lit≤ tt; degree = refl; constant = refl }

-- 10.1.3.2, second line: CRC_SL4 is the product of the additional polynomial and CRC_SL2.
pub product48 : generator48 ≡ times (16 ∷ 15 ∷ 13 ∷ 12 ∷ 4 ∷ 3 ∷ 2 ∷ 0 ∷ []) generator32
unfolding generator32 generator48
product48 = refl

-- 10.2 prints each generator as bytes, without its highest term.
pub printed32 : generator32 ≡ 2 ^ 32 + number (0x4A ∷ 0x50 ∷ 0x3D ∷ 0xF1 ∷ [])
unfolding generator32
printed32 = refl

pub printed48 : generator48 ≡ 2 ^ 48 + number (0xD2 ∷ 0x8D ∷ 0xB3 ∷ 0xFA ∷ 0x4A ∷ 0xAD ∷ [])
unfolding generator48
printed48 = refl
