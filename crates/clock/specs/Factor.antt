-- The adjustment factor (7.4.4): the mean of the differences of the pairs, as signed distances from the newest one.
-- Assumes nothing.
use Rattle.std.specs.Prelude.{ℕ, ◌-◌, ◌/◌, ◌%◌, ◌^◌, List, [], ◌∷◌, take, ℤ, pos, negsuc, ◌+ℤ◌, slice_index_or}
use Rattle.clock.specs.Circle.{minus, distance_of}
use Rattle.clock.specs.Limits.{pairs_of_factor}
use Rattle.clock.specs.declared.Pair.{Pair}

-- The new one at the front, and of all at most sixteen: the oldest falls out.
unfoldable pub fronted : {A : Type 0} → A → List A → List A
fronted x xs = take pairs_of_factor (x ∷ xs)

-- Reference time less local time, modulo 2^32.
unfoldable pub difference_of : Pair → ℕ
difference_of p = minus p.reference.0 p.local.0

-- The sum of the signed distances of the differences from `base`.
unfoldable pub spread_of : ℕ → List Pair → ℤ
spread_of base [] = pos 0
spread_of base (p ∷ ps) = distance_of (difference_of p) base +ℤ spread_of base ps

-- A sixteenth, rounded down: of -(n + 1) it is -(n / 16 + 1). `Floor` in Facts.antt says it by the remainder.
unfoldable pub floor16 : ℤ → ℤ
floor16 (pos n) = pos (n / 16)
floor16 (negsuc n) = negsuc (n / 16)

-- A whole number modulo 2^32: -(n + 1) is 2^32 - 1 - n.
unfoldable pub around : ℤ → ℕ
around (pos n) = n % 2 ^ 32
around (negsuc n) = 2 ^ 32 - 1 - n % 2 ^ 32

-- What stands in a place where there is no pair.
abbrev pub no_pair : Pair
no_pair = record { reference = record { 0 = 0 }; local = record { 0 = 0 } }

-- The newest pair.
abbrev pub newest_of : List Pair → Pair
newest_of ps = slice_index_or ps 0 no_pair

-- The newest difference, and a sixteenth of the sum of the distances from it, modulo 2^32.
unfoldable pub mean_of : List Pair → ℕ
mean_of ps = around (pos (difference_of (newest_of ps)) +ℤ floor16 (spread_of (difference_of (newest_of ps)) ps))
