-- What is the same at every level, shown at both.
-- Assumes nothing.
use mathlib.Core.Path.{◌≡◌, refl}
use mathlib.Core.Bool.{Bool, true, false}
use mathlib.Core.List.{List}
use Prim.Native.Nat.{ℕ, ◌*◌, ◌≤◌}
use lib.Dec.{lit≤, eqb}
use borrow.Author.Tests.{ne_eqb}
use Rattle.checkword.specs.Bytes.{bytes_of}
use Rattle.checkword.specs.Polynomial.{Generator}
use Rattle.checkword.specs.Generators.{generator48, generator32, good48, good32}
use Rattle.ground.specs.Choice.{pick}
use Rattle.telegram.specs.Levels.{top_bits, width, word_length, generator}
use Rattle.telegram.specs.Telegrams.{check_word}

-- a statement that holds at level 4 and at level 2 holds of whatever the test picks
either : {A : Type 0} (P : A → Type 0) (b : Bool) (x y : A) → P x → P y → P (pick b x y)
unfolding pick
either P true x y p q = p
either P false x y p q = q

pub word_small : (l : ℕ) → word_length l ≤ 6
unfolding word_length
word_small l = either (λ (n : ℕ). n ≤ 6) (eqb l 4) 6 4 (lit≤ tt) (lit≤ tt)

pub word_some : (l : ℕ) → 4 ≤ word_length l
unfolding word_length
word_some l = either (λ (n : ℕ). 4 ≤ n) (eqb l 4) 6 4 (lit≤ tt) (lit≤ tt)

both : (b : Bool) → pick b 48 32 ≡ 8 * pick b 6 4
unfolding pick
both true = refl
both false = refl

pub width_is : (l : ℕ) → width l ≡ 8 * word_length l
unfolding width word_length
width_is l = both (eqb l 4)

each : (b : Bool) → Generator (pick b 48 32) (pick b generator48 generator32)
unfolding pick
each true = good48
each false = good32

pub generator_good : (l : ℕ) → Generator (width l) (generator l)
unfolding width generator
generator_good l = each (eqb l 4)

-- the bytes of a level's word, as many as the level has
pub word_bytes : (l k w : ℕ) (before t bytes : List ℕ) → word_length l ≡ k → w ≡ check_word l before t → bytes ≡ bytes_of k w
    → bytes ≡ bytes_of (word_length l) (check_word l before t)
word_bytes l k w before t bytes n f p = rw (n, ← f) p

pub six : (l : ℕ) → l ≡ 4 → word_length l ≡ 6
unfolding pick word_length
six l e = rw e

pub four : (l : ℕ) → (l ≡ 4 → ⊥) → word_length l ≡ 4
unfolding pick word_length
four l h = rw (ne_eqb l 4 h)

pub top_small : (l : ℕ) → top_bits l ≤ 2
unfolding top_bits
top_small l = either (λ (n : ℕ). n ≤ 2) (eqb l 4) 2 0 (lit≤ tt) (lit≤ tt)
