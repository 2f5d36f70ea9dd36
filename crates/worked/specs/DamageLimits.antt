-- What isn't so: without one of the conditions of Damage.antt a changed telegram can pass. Each is shown by two telegrams, what was sent and what came, that both pass.
-- Assumes nothing.
use Rattle.std.specs.Prelude.{◌≡◌, refl, List, [], ◌∷◌, ℕ, length, get_or, T}
use Rattle.std.proofs.Common.{arith}
use Rattle.checkword.specs.Bytes.{Within}
use Rattle.checkword.specs.Generators.{generator48, generator32}
use Rattle.checkword.specs.Word.{shift, feed}
use Rattle.ground.specs.Choice.{pick}
use Rattle.telegram.specs.Levels.{width, word_length, generator, level_of}
use Rattle.telegram.specs.Commands.{kind_of, is_data}
use Rattle.telegram.specs.Values.{good_idle, good_dual_bus}
use Rattle.telegram.specs.Ends.{in_range, implicit}
use Rattle.telegram.specs.Telegrams.{check_word}
use Rattle.telegram.specs.Check.{command_of, check_of, word_agrees, Passes}
use Rattle.link.specs.Records.{end_of}
use Rattle.worked.specs.Demand3.{example_telegram4, example_telegram2}
use Rattle.demands.specs.Damage.{Changed, Damage}
use Rattle.demands.specs.Damage.Damage.{before_the_word}
use Rattle.worked.specs.Damage.{example_open_at, example_six_sent, are_bytes, changed_at, within_by}

-- A telegram t passes the check of node 1's record for node 8 at the number m; it was changed, and what came passes it at the number m'.
pub record Missed (level m m' : ℕ) (t u : List ℕ) : Type 0 where
  pub changed : Changed t u
  pub passes : check_of (end_of (example_open_at level) 1) m t ≡ Passes
  pub passes_too : check_of (end_of (example_open_at level) 1) m' u ≡ Passes

-- Such a pair, which differs at place k.
missed_at : (level m m' k : ℕ) (t u : List ℕ) → T (are_bytes t) → T (are_bytes u) → length t ≡ length u → (get_or t k 0 ≡ get_or u k 0 → ⊥)
    → check_of (end_of (example_open_at level) 1) m t ≡ Passes → check_of (end_of (example_open_at level) 1) m' u ≡ Passes → Missed level m m' t u
missed_at level m m' k t u ht hu l differ p q = record { changed = changed_at k t u ht hu l differ; passes = p; passes_too = q }

-- What is not missing: the command byte is left, and the number is the same ..
pub record MissedByPlace (level : ℕ) (t u : List ℕ) : Type 0 where
  pub missed : Missed level 0x01234569 0x01234569 t u
  pub command : command_of t ≡ command_of u

-- .. the changes lie within n bytes, and the command byte is left ..
pub record MissedByNumber (level n : ℕ) (t u : List ℕ) : Type 0 where
  pub missed : Missed level 0x01234569 0x01234669 t u
  pub command : command_of t ≡ command_of u
  pub damage : Damage n level t u

-- .. or the changes lie within n bytes, and the number is the same.
pub record MissedByCommand (level n m : ℕ) (t u : List ℕ) : Type 0 where
  pub missed : Missed level m m t u
  pub damage : Damage n level t u

-- One byte more. Seven net bytes of 0, changed by the generator of level 4 as 10.1.3.2 has it, with its highest term: what came leaves the same remainder ..
abbrev pub seven_sent : List ℕ
seven_sent = 0x69 ∷ 0x89 ∷ 0x00 ∷ 0x00 ∷ 0x00 ∷ 0x00 ∷ 0x00 ∷ 0x00 ∷ 0x00 ∷ 0x12 ∷ 0x24 ∷ 0x3D ∷ 0xB1 ∷ 0x7F ∷ 0xCC ∷ []

abbrev pub seven_changed : List ℕ
seven_changed = 0x69 ∷ 0x89 ∷ 0x01 ∷ 0xD2 ∷ 0x8D ∷ 0xB3 ∷ 0xFA ∷ 0x4A ∷ 0xAD ∷ 0x12 ∷ 0x24 ∷ 0x3D ∷ 0xB1 ∷ 0x7F ∷ 0xCC ∷ []

-- .. and five at level 2.
abbrev pub five_sent : List ℕ
five_sent = 0x69 ∷ 0x09 ∷ 0x00 ∷ 0x00 ∷ 0x00 ∷ 0x00 ∷ 0x00 ∷ 0xF1 ∷ 0xA8 ∷ 0x4A ∷ 0x3E ∷ []

abbrev pub five_changed : List ℕ
five_changed = 0x69 ∷ 0x09 ∷ 0x01 ∷ 0x4A ∷ 0x50 ∷ 0x3D ∷ 0xF1 ∷ 0xF1 ∷ 0xA8 ∷ 0x4A ∷ 0x3E ∷ []

pub one_byte_longer :
    (MissedByPlace 4 seven_sent seven_changed × Damage 7 4 seven_sent seven_changed) × (MissedByPlace 2 five_sent five_changed × Damage 5 2 five_sent five_changed)
unfolding check_of word_agrees in_range level_of check_word implicit width word_length generator generator48 generator32 shift feed kind_of is_data end_of pick
one_byte_longer = (
  (record { missed = missed_at 4 0x01234569 0x01234569 2 seven_sent seven_changed tt tt refl (λ e. omega arith) refl refl; command = refl }, before_the_word (within_by 7 2 _ _ refl refl refl) refl),
  (record { missed = missed_at 2 0x01234569 0x01234569 2 five_sent five_changed tt tt refl (λ e. omega arith) refl refl; command = refl }, before_the_word (within_by 5 2 _ _ refl refl refl) refl),
)

-- Another expected number. Six net bytes, and four at level 2, can be changed so that what came passes at 01234669h, 256 later; byte 1 says the same.
abbrev pub six_changed : List ℕ
six_changed = 0x69 ∷ 0x89 ∷ 0xCA ∷ 0xAD ∷ 0x33 ∷ 0x90 ∷ 0xA3 ∷ 0x85 ∷ 0x96 ∷ 0xD1 ∷ 0xD6 ∷ 0xCB ∷ 0xF2 ∷ 0x39 ∷ []

abbrev pub four_sent : List ℕ
four_sent = 0x69 ∷ 0x09 ∷ 0x00 ∷ 0x00 ∷ 0x00 ∷ 0x00 ∷ 0x7F ∷ 0x0D ∷ 0xDB ∷ 0x43 ∷ []

abbrev pub four_changed : List ℕ
four_changed = 0x69 ∷ 0x09 ∷ 0x00 ∷ 0x62 ∷ 0x82 ∷ 0x7F ∷ 0x7F ∷ 0x0D ∷ 0xDB ∷ 0x43 ∷ []

pub another_number : MissedByNumber 4 6 example_six_sent six_changed × MissedByNumber 2 4 four_sent four_changed
unfolding check_of word_agrees in_range level_of check_word implicit width word_length generator generator48 generator32 shift feed kind_of is_data end_of pick
another_number = (
  record { missed = missed_at 4 0x01234569 0x01234669 2 example_six_sent six_changed tt tt refl (λ e. omega arith) refl refl; command = refl; damage = before_the_word (within_by 6 2 _ _ refl refl refl) refl },
  record { missed = missed_at 2 0x01234569 0x01234669 3 four_sent four_changed tt tt refl (λ e. omega arith) refl refl; command = refl; damage = before_the_word (within_by 4 2 _ _ refl refl refl) refl },
)

-- One byte before the check word, and the check word with it, worked out anew: together they are one byte too many. 83h 6Ah B0h 3Eh 32h 22h is the check word of 69h 89h 01h 02h,
-- and 51h E7h 03h C4h 78h 8Fh that of 69h 89h 01h 03h; at level 2 DDh 0Eh BCh 6Fh that of 69h 09h 01h 02h, and 97h 5Eh 81h 9Eh that of 69h 09h 01h 03h.
abbrev pub word_anew4 : List ℕ
word_anew4 = 0x69 ∷ 0x89 ∷ 0x01 ∷ 0x03 ∷ 0x51 ∷ 0xE7 ∷ 0x03 ∷ 0xC4 ∷ 0x78 ∷ 0x8F ∷ []

abbrev pub word_anew2 : List ℕ
word_anew2 = 0x69 ∷ 0x09 ∷ 0x01 ∷ 0x03 ∷ 0x97 ∷ 0x5E ∷ 0x81 ∷ 0x9E ∷ []

pub before_and_in_the_word :
    (MissedByPlace 4 example_telegram4 word_anew4 × Within 7 example_telegram4 word_anew4) × (MissedByPlace 2 example_telegram2 word_anew2 × Within 5 example_telegram2 word_anew2)
unfolding check_of word_agrees in_range level_of check_word implicit width word_length generator generator48 generator32 shift feed kind_of is_data end_of pick
before_and_in_the_word = (
  (record { missed = missed_at 4 0x01234569 0x01234569 3 example_telegram4 word_anew4 tt tt refl (λ e. omega arith) refl refl; command = refl }, within_by 7 3 _ _ refl refl refl),
  (record { missed = missed_at 2 0x01234569 0x01234569 3 example_telegram2 word_anew2 tt tt refl (λ e. omega arith) refl refl; command = refl }, within_by 5 3 _ _ refl refl refl),
)

-- The command byte among the changes, so that a data telegram becomes a connect request: that is checked with its own random number. Six neighbouring bytes at level 4 ..
abbrev pub data_telegram4 : List ℕ
data_telegram4 = 0x69 ∷ 0x89 ∷ 0xD8 ∷ 0xD3 ∷ 0xAD ∷ 0x8D ∷ 0x2E ∷ 0x01 ∷ 0x03 ∷ 0x00 ∷ 0x00 ∷ 0x00 ∷ 0x2C ∷ 0x01 ∷ 0x3F ∷ 0xE8 ∷ 0xB9 ∷ 0x47 ∷ []

abbrev pub request_telegram4 : List ℕ
request_telegram4 = 0x69 ∷ 0x80 ∷ 0x69 ∷ 0x45 ∷ 0x23 ∷ 0x01 ∷ 0xF4 ∷ 0x01 ∷ 0x03 ∷ 0x00 ∷ 0x00 ∷ 0x00 ∷ 0x2C ∷ 0x01 ∷ 0x3F ∷ 0xE8 ∷ 0xB9 ∷ 0x47 ∷ []

-- .. and four at level 2.
abbrev pub data_telegram2 : List ℕ
data_telegram2 = 0x69 ∷ 0x09 ∷ 0x46 ∷ 0x0F ∷ 0x81 ∷ 0x01 ∷ 0xF4 ∷ 0x01 ∷ 0x03 ∷ 0x00 ∷ 0x00 ∷ 0x00 ∷ 0x6A ∷ 0x96 ∷ 0xC1 ∷ 0xAF ∷ []

abbrev pub request_telegram2 : List ℕ
request_telegram2 = 0x69 ∷ 0x00 ∷ 0x69 ∷ 0x45 ∷ 0x23 ∷ 0x01 ∷ 0xF4 ∷ 0x01 ∷ 0x03 ∷ 0x00 ∷ 0x00 ∷ 0x00 ∷ 0x6A ∷ 0x96 ∷ 0xC1 ∷ 0xAF ∷ []

pub becomes_a_request : MissedByCommand 4 6 0x01614569 data_telegram4 request_telegram4 × MissedByCommand 2 4 0x013B4469 data_telegram2 request_telegram2
unfolding good_idle good_dual_bus check_of word_agrees in_range level_of check_word implicit width word_length generator generator48 generator32 shift feed kind_of is_data end_of pick
becomes_a_request = (
  record { missed = missed_at 4 0x01614569 0x01614569 1 data_telegram4 request_telegram4 tt tt refl (λ e. omega arith) refl refl; damage = before_the_word (within_by 6 1 _ _ refl refl refl) refl },
  record { missed = missed_at 2 0x013B4469 0x013B4469 1 data_telegram2 request_telegram2 tt tt refl (λ e. omega arith) refl refl; damage = before_the_word (within_by 4 1 _ _ refl refl refl) refl },
)

-- And the other way round: a connect request comes as data, and passes where the record expects just this number. On an open connection its net data are handed up.
pub comes_as_data : MissedByCommand 4 6 0x01614569 request_telegram4 data_telegram4 × MissedByCommand 2 4 0x013B4469 request_telegram2 data_telegram2
unfolding good_idle good_dual_bus check_of word_agrees in_range level_of check_word implicit width word_length generator generator48 generator32 shift feed kind_of is_data end_of pick
comes_as_data = (
  record { missed = missed_at 4 0x01614569 0x01614569 1 request_telegram4 data_telegram4 tt tt refl (λ e. omega arith) refl refl; damage = before_the_word (within_by 6 1 _ _ refl refl refl) refl },
  record { missed = missed_at 2 0x013B4469 0x013B4469 1 request_telegram2 data_telegram2 tt tt refl (λ e. omega arith) refl refl; damage = before_the_word (within_by 4 1 _ _ refl refl refl) refl },
)
