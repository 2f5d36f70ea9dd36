-- A choice by a test, and tests that all must hold.
-- Assumes nothing.
use Rattle.std.specs.Prelude.{◌≡◌, Bool, true, false, List, [], ◌∷◌}
use Rattle.std.proofs.Common.{lt-ltb, le-ltb, le-leb, eq-eqb, ne_eqb}
use Rattle.std.proofs.lemmas.Bool.{lt-leb, not-true, not-false}

-- x where the test holds, y where it doesn't.
unfoldable pub pick : {A : Type 0} → Bool → A → A → A
pick true x y = x
pick false x y = y

-- Every test of the list holds.
abbrev pub all : List Bool → Bool
all [] = true
all (b ∷ []) = b
all (b ∷ c ∷ bs) = pick b (all (c ∷ bs)) false

-- Which side a known test takes.
pub yes : {A : Type 0} (b : Bool) (x y z : A) → b ≡ true → z ≡ x → z ≡ pick b x y
unfolding pick
yes b x y z t e = rw t e

pub no : {A : Type 0} (b : Bool) (x y z : A) → b ≡ false → z ≡ y → z ≡ pick b x y
unfolding pick
no b x y z t e = rw t e

pub ruleset tests = (yes, no, lt-ltb, le-ltb, le-leb, lt-leb, eq-eqb, ne_eqb, not-true, not-false)
