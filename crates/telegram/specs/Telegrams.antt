-- The seven telegrams of 5.2, each a list of bytes from its fields.
-- Assumes nothing.
use Rattle.std.specs.Prelude.{List, [], ◌∷◌, ◌++◌, ℕ, ◌+◌, ◌*◌, ◌%◌, ◌^◌, length}
use Rattle.checkword.specs.Bytes.{bytes_of}
use Rattle.checkword.specs.Word.{word}
use Rattle.telegram.specs.Levels.{top_bits, width, word_length, generator, added}
use Rattle.telegram.specs.Commands.{kind_of}
use Rattle.telegram.specs.Layout.{layout, field_bytes}
use Rattle.telegram.specs.Ends.{sending}
use Rattle.telegram.specs.declared.End.{End}

-- The check word at a level, over implicit bytes and then a telegram's (5.1.3.2).
unfoldable pub check_word : ℕ → List ℕ → List ℕ → ℕ
check_word l before t = word (width l) (generator l) (before ++ t)

-- The bytes before the check word: the number's lowest, the command, the fixed fields, the net data.
unfoldable pub body : ℕ → ℕ → ℕ → List ℕ → List ℕ → List ℕ
body l number low fields net = number % 256 ∷ (top_bits l * 64 + low) ∷ (fields ++ net)

-- A body and its check word, highest byte first. The implicit length counts the check word (5.1.3.4, byte 1).
unfoldable pub sealed : End → ℕ → List ℕ → List ℕ
sealed e number bs = bs ++ bytes_of (word_length e.level) (check_word e.level (sending e number (length bs + word_length e.level)) bs)

-- A telegram by the command's low six bits, the values of its fixed fields, and its net data.
abbrev pub telegram : End → ℕ → ℕ → List ℕ → List ℕ → List ℕ
telegram e number low vs net = sealed e number (body e.level number low (field_bytes (layout (kind_of low)) vs) net)

-- The version that we write, X, Y and Z, and the dual bus byte: not equipped with dual busses.
abbrev pub version_and_bus : List ℕ
version_and_bus = 3 ∷ 0 ∷ 0 ∷ 0 ∷ []

-- 5.2.1: the random number is the sequence number.
unfoldable pub request : End → ℕ → ℕ → List ℕ → List ℕ
request e random idle net = telegram e random 0x00 (random ∷ idle ∷ version_and_bus) net

-- 5.2.2.
unfoldable pub confirm : End → ℕ → ℕ → List ℕ → List ℕ
confirm e random idle net = telegram e random 0x02 (random ∷ idle ∷ version_and_bus) net

-- 5.1.4: the random number received at set-up, changed as the level asks.
abbrev pub authentication_number : ℕ → ℕ → ℕ
authentication_number l received = (received + added l) % 2 ^ 32

-- 5.2.3.
unfoldable pub authentication : End → ℕ → ℕ → List ℕ
authentication e number received = telegram e number 0x03 (authentication_number e.level received ∷ []) []

-- 5.2.4.
unfoldable pub acknowledgement : End → ℕ → ℕ → List ℕ
acknowledgement e number received = telegram e number 0x04 (authentication_number e.level received ∷ []) []

-- 5.2.5.
unfoldable pub disconnect : End → ℕ → ℕ → ℕ → List ℕ → List ℕ
disconnect e number type reason text = telegram e number 0x05 (type ∷ reason ∷ []) text

-- 5.2.6.
unfoldable pub idle : End → ℕ → List ℕ
idle e number = telegram e number 0x06 [] []

-- 5.2.7: the command's low six bits are named by the layer above.
unfoldable pub data_telegram : End → ℕ → ℕ → List ℕ → List ℕ
data_telegram e number low net = telegram e number low [] net
