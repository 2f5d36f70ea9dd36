-- By the level, its word's bytes are the last six or four of the eight, behind the n bytes.
use Rattle.std.proofs.Common.{◌≡◌, ℕ, List, ap, ◌∙◌, take, drop, length, refl, arith, w64, div-one}
use Rattle.std.specs.Int.{to_be_bytes}
use Rattle.checkword.specs.Bytes.{bytes_of}
use Rattle.telegram.specs.Over.{over}
use Rattle.telegram.proofs.Widths.{six, four, word_bytes}
use Rattle.writers.proofs.put.put_word.Goals as goal

last_six : (bytes : List ℕ) (word : ℕ) → bytes ≡ to_be_bytes w64 word → take 6 (drop 2 bytes) ≡ bytes_of 6 word
last_six bytes word e = rw (e, div-one word) refl

last_four : (bytes : List ℕ) (word : ℕ) → bytes ≡ to_be_bytes w64 word → take 4 (drop 4 bytes) ≡ bytes_of 4 word
last_four bytes word e = rw (e, div-one word) refl

pub copy_at-requires : goal.copy_at-requires
copy_at-requires c = omega (arith, six _ c.if-level-eq4.true, ap length (last_six _ _ c.to_be_bytes-word.ensures))

pub copy_at-requires-else-level-eq4 : goal.copy_at-requires-else-level-eq4
copy_at-requires-else-level-eq4 c = omega (arith, four _ c.if-level-eq4.false, ap length (last_four _ _ c.to_be_bytes-word.ensures))

pub returns-then-level-eq4 : goal.returns-then-level-eq4
returns-then-level-eq4 c =
    c.copy_at.ensures ∙ ap (over _ _) (word_bytes _ _ _ _ _ _ (six _ c.if-level-eq4.true) c.word_of.ensures (last_six _ _ c.to_be_bytes-word.ensures))

pub returns-else-level-eq4 : goal.returns-else-level-eq4
returns-else-level-eq4 c =
    c.copy_at-else-level-eq4.ensures ∙ ap (over _ _) (word_bytes _ _ _ _ _ _ (four _ c.if-level-eq4.false) c.word_of.ensures (last_four _ _ c.to_be_bytes-word.ensures))
