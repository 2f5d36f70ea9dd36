-- The law behind demand 3, in the specialist's words: for byte strings of one length, the exclusive-or of the check words depends only on the exclusive-or of
-- the strings.
-- Assumes nothing.
use Rattle.std.specs.Prelude.{◌≡◌, refl, [], ◌∷◌}
use Rattle.std.specs.Int.Bits.{bit_xor}
use Rattle.checkword.specs.Bytes.{xors}
use Rattle.checkword.specs.Generators.{generator48, generator32}
use Rattle.checkword.specs.Word.{shift, feed, word}
use Rattle.checkword.specs.Facts.{DependsOnlyOnXor}

-- Both check words obey it.
pub record TheLaw : Type 0 where
  pub at_level_4 : DependsOnlyOnXor (word 48 generator48)
  pub at_level_2 : DependsOnlyOnXor (word 32 generator32)

-- Worked example: 12h 34h and 12h 35h have the exclusive-or of 00h 00h and 00h 01h, and so it is with their words.
pub example_xors : xors (0x12 ∷ 0x34 ∷ []) (0x12 ∷ 0x35 ∷ []) ≡ xors (0x00 ∷ 0x00 ∷ []) (0x00 ∷ 0x01 ∷ [])
example_xors = refl

pub example_words :
    bit_xor (word 32 generator32 (0x12 ∷ 0x34 ∷ [])) (word 32 generator32 (0x12 ∷ 0x35 ∷ []))
    ≡ bit_xor (word 32 generator32 (0x00 ∷ 0x00 ∷ [])) (word 32 generator32 (0x00 ∷ 0x01 ∷ []))
unfolding generator32 shift feed
example_words = refl
