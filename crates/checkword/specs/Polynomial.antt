-- Polynomials over one bit, written as numbers: bit e of the number is the coefficient of x^e, and a sum is an exclusive-or.
-- Assumes nothing.
use Rattle.std.specs.Prelude.{◌≡◌, List, [], ◌∷◌, ℕ, ◌*◌, ◌/◌, ◌%◌, ◌^◌, ◌≤◌, ◌<◌}
use Rattle.std.specs.Int.Bits.{bit_xor}

-- The product of a polynomial, given by its exponents, and g: for each term x^e, g moved up by e.
abbrev pub times : List ℕ → ℕ → ℕ
times [] g = 0
times (e ∷ es) g = bit_xor (g * 2 ^ e) (times es g)

-- The polynomial that has these exponents.
abbrev pub poly : List ℕ → ℕ
poly es = times es 1

-- What section 10 lets every fact rest on: g has degree w, which is room for a byte, and a constant term of one.
pub record Generator (w g : ℕ) : Type 0 where
  pub wide : 8 ≤ w
  pub degree : g / 2 ^ w ≡ 1
  pub constant : g % 2 ≡ 1

-- r is the remainder of a divided by g, of degree w: a is g times the quotient plus r, and r has no term from x^w on.
pub record Remainder (w g a r : ℕ) : Type 0 where
  pub quotient : List ℕ
  pub exact : a ≡ bit_xor (times quotient g) r
  pub below : r < 2 ^ w
