-- Everything that differs by level, each as one definition over the level; and the level that a command says.
-- Assumes nothing.
use Rattle.std.specs.Prelude.{ℕ, ◌/◌, eqb, Option, Some, None}
use Rattle.checkword.specs.Generators.{generator48, generator32}
use Rattle.ground.specs.Choice.{pick}

-- What is `four` at level 4 and `two` at level 2.
abbrev pub by_level : {A : Type 0} → A → A → ℕ → A
by_level four two l = pick (eqb l 4) four two

-- The top two bits of the level's commands: 80h..BFh at SL 4, 00h..3Fh at SL 2 (5.1.1.5, byte 2).
unfoldable pub top_bits : ℕ → ℕ
top_bits = by_level 2 0

-- The bits of its check word, and how many bytes they are.
unfoldable pub width : ℕ → ℕ
width = by_level 48 32

unfoldable pub word_length : ℕ → ℕ
word_length = by_level 6 4

-- The generator of its check word (10.1.1.5, 10.1.1.6).
unfoldable pub generator : ℕ → ℕ
generator = by_level generator48 generator32

-- What authentication adds to the random number received (5.1.4.2.1, 5.1.4.3.1).
unfoldable pub added : ℕ → ℕ
added = by_level 1 2

-- The level that a command's top two bits give (5.1.1.5): 10 is SL 4, 00 is SL 2, 11 is SL 0, 01 is none.
unfoldable pub level_of : ℕ → Option ℕ
level_of command =
    pick (eqb (command / 64) 2) (Some 4) (pick (eqb (command / 64) 0) (Some 2) (pick (eqb (command / 64) 3) (Some 0) None))
