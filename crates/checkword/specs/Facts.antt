-- What is shown of the check word. The law and the burst fact are stated of any function f from bytes to a word, so that it can be said which of them a
-- wrong word breaks; the others of the word over a width w and a generator g. proofs/Facts.antt proves each of them for every generator with the
-- degree of its check word and a constant term of one, under the same name in snake case, and all of them at 48 bits, `facts48`, and at 32, `facts32`.
-- Assumes nothing.
use Rattle.std.specs.Prelude.{◌≡◌, List, ◌++◌, ℕ, ◌*◌, ◌/◌, ◌^◌, ◌<◌, length}
use Rattle.std.specs.Int.Bits.{bit_xor}
use Rattle.checkword.specs.Bytes.{Bytes, xors, number, bytes_of, Within}
use Rattle.checkword.specs.Polynomial.{Remainder}
use Rattle.checkword.specs.Word.{word, Agrees}

-- The law: for two byte lists of one length, the exclusive-or of the words is the word of the exclusive-or of the lists.
abbrev pub Law : (List ℕ → ℕ) → Type 0
Law f = (a b : List ℕ) → Bytes a → Bytes b → length a ≡ length b → bit_xor (f a) (f b) ≡ f (xors a b)

-- Hence the exclusive-or of two words depends only on the exclusive-or of the strings: a, b and c, d of one length with equal exclusive-ors have words
-- with equal exclusive-ors.
abbrev pub DependsOnlyOnXor : (List ℕ → ℕ) → Type 0
DependsOnlyOnXor f =
    (a b c d : List ℕ) → Bytes a → Bytes b → Bytes c → Bytes d → length a ≡ length b → length c ≡ length d
    → xors a b ≡ xors c d → bit_xor (f a) (f b) ≡ bit_xor (f c) (f d)

-- The burst fact: two byte lists of one length that differ, and only within n neighbouring places, have different words, whatever stands before and
-- after. It holds for as many places as the word has bytes.
abbrev pub Burst : ℕ → (List ℕ → ℕ) → Type 0
Burst n f = (a b : List ℕ) → Bytes a → Bytes b → Within n a b → (a ≡ b → ⊥) → f a ≡ f b → ⊥

-- The meaning: the word is the remainder, over one bit, of the bytes' polynomial times x^w divided by the generator (10.2.1.3) ..
abbrev pub Meaning : ℕ → ℕ → Type 0
Meaning w g = (bs : List ℕ) → Bytes bs → Remainder w g (number bs * 2 ^ w) (word w g bs)

-- .. and no other number is.
abbrev pub OnlyMeaning : ℕ → ℕ → Type 0
OnlyMeaning w g = (bs : List ℕ) (r : ℕ) → Bytes bs → Remainder w g (number bs * 2 ^ w) r → r ≡ word w g bs

-- A word is below 2^w.
abbrev pub Below : ℕ → ℕ → Type 0
Below w g = (bs : List ℕ) → Bytes bs → word w g bs < 2 ^ w

-- A change within the check word itself is seen: bytes that agree with one check word agree with no other of its length.
abbrev pub ChangeInWordSeen : ℕ → ℕ → Type 0
ChangeInWordSeen w g =
    (bs c d : List ℕ) → Bytes c → Bytes d → length c ≡ length d → (c ≡ d → ⊥) → Agrees w g bs c → Agrees w g bs d → ⊥

-- A check word of n bytes agrees exactly when it is the word's bytes, highest first.
abbrev pub AgreesByBytes : ℕ → ℕ → Type 0
AgreesByBytes w g =
    (n : ℕ) → w ≡ 8 * n → (bs c : List ℕ) → Bytes bs → Bytes c → length c ≡ n
    → (Agrees w g bs c → c ≡ bytes_of n (word w g bs)) × (c ≡ bytes_of n (word w g bs) → Agrees w g bs c)

-- The two methods of 10.2.1 are one: a check word of n bytes agrees exactly when the whole message, its check word included, leaves 0 (10.2.1.2).
abbrev pub AgreesByRemainder : ℕ → ℕ → Type 0
AgreesByRemainder w g =
    (n : ℕ) → w ≡ 8 * n → (bs c : List ℕ) → Bytes bs → Bytes c → length c ≡ n
    → (Agrees w g bs c → word w g (bs ++ c) ≡ 0) × (word w g (bs ++ c) ≡ 0 → Agrees w g bs c)

-- All of them. A user cites one as `facts48.burst`.
pub record Facts (w g : ℕ) : Type 0 where
  pub law : Law (word w g)
  pub depends_only_on_xor : DependsOnlyOnXor (word w g)
  pub burst : Burst (w / 8) (word w g)
  pub meaning : Meaning w g
  pub only_meaning : OnlyMeaning w g
  pub below : Below w g
  pub change_in_word_seen : ChangeInWordSeen w g
  pub agrees_by_bytes : AgreesByBytes w g
  pub agrees_by_remainder : AgreesByRemainder w g
