-- What the writers share: a refusal leaves the buffer as it was, and where there is none the telegram has room.
-- Assumes nothing.
use mathlib.Core.Path.{◌≡◌, refl, sym, ◌∙◌}
use mathlib.Core.Bool.{Bool, true, false}
use mathlib.Core.Logic.{◌⊎◌, inl, inr}
use mathlib.Core.List.{List, [], ◌∷◌}
use Prim.Native.Nat.{ℕ, zero, suc, ◌+◌, ◌≤◌, ◌<◌}
use native.Mathlib.Omega.{arith}
use lib.ListN.{length}
use lib.Dec.{leb, eqb}
use borrow.Author.Tests.{leb-true, eqb-true, ne_eqb}
use Rattle.ground.specs.Choice.{pick, all}
use Rattle.telegram.specs.Levels.{word_length}
use Rattle.telegram.specs.Commands.{is_data, kind_of, known}
use Rattle.telegram.specs.Layout.{longest, header, most, on_bus, suits, field_bytes}
use Rattle.telegram.specs.Ends.{is_level, in_range}
use Rattle.telegram.specs.Values.{good_idle, good_type, listed_reason}
use Rattle.telegram.specs.Telegrams.{body, sealed}
use Rattle.telegram.specs.Writers.{answer_of, left_by, refusal, unless, connect_allowed, disconnect_allowed, data_allowed}
use Rattle.telegram.specs.Writers.Outcome.{wrote}
use Rattle.telegram.specs.declared.End.{End}
use Rattle.telegram.specs.declared.Written.{Written}
use Rattle.telegram.specs.declared.Kind.{Kind}
use Rattle.telegram.specs.declared.Kind.TheVariants.{Request, Disconnect, Data}
use Rattle.telegram.proofs.Widths.{word_small}
use Rattle.telegram.proofs.Cases.{most_small}

-- both of two tests, and what a picked true says
pub both_true : (a b : Bool) → pick a b false ≡ true → (a ≡ true) × (b ≡ true)
unfolding pick
both_true true b e = (refl, e)
both_true false b e = let z : ◌≡◌ {A = ℕ} 0 1 = cc in absurd (omega arith)

pub both_are : (a b : Bool) → a ≡ true → b ≡ true → pick a b false ≡ true
unfolding pick
both_are a b p q = rw (p, q)

pub either_true : (a b : Bool) → pick a true b ≡ true → (a ≡ true) ⊎ (b ≡ true)
unfolding pick
either_true true b e = inl refl
either_true false b e = inr e

-- the length told and the buffer left by a writer that refuses
pub refusing : (n : ℕ) (t d : List ℕ) → (n ≡ 0 → ⊥) → (0 ≡ (answer_of (unless n t)).length) × (d ≡ left_by (unless n t) d)
refusing zero t d h = absurd (h refl)
refusing (suc n) t d h = (refl, refl)

-- and by one that writes
pub writing : (n : ℕ) (t d x : List ℕ) (r : ℕ) → n ≡ 0 → (r ≡ length t) × (x ≡ left_by (wrote t) d)
    → (r ≡ (answer_of (unless n t)).length) × (x ≡ left_by (unless n t) d)
writing n t d x r z w = rw z w

-- the refusal beside the length is the answer
answered : (n : ℕ) (t : List ℕ) (r : ℕ) → r ≡ (answer_of (unless n t)).length → ◌≡◌ {A = Written} (record { answer = n; length = r }) (answer_of (unless n t))
answered zero t r e = rw e
answered (suc n) t r e = rw e

-- with the refusal and the fields that the definition has
pub as_defined : (e : End) (number low n m : ℕ) (f g net d x : List ℕ) (r : ℕ) → n ≡ m → f ≡ g
    → (r ≡ (answer_of (unless n (sealed e number (body e.level number low f net)))).length)
    × (x ≡ left_by (unless n (sealed e number (body e.level number low f net))) d)
    → (◌≡◌ {A = Written} (record { answer = n; length = r }) (answer_of (unless m (sealed e number (body e.level number low g net)))))
    × (x ≡ left_by (unless m (sealed e number (body e.level number low g net))) d)
as_defined e number low n m f g net d x r p q w = rw (← p, ← q) (answered n (sealed e number (body e.level number low f net)) r w.0, w.1)

-- a telegram without values has no fixed fields
pub no_fields : (ws : List ℕ) → [] ≡ field_bytes ws []
no_fields [] = refl
no_fields (w ∷ ws) = refl

none : (a b c : Bool) → ◌≡◌ {A = ℕ} (pick a (pick b (pick c 0 5) 4) 1) 0 → (a ≡ true) × (b ≡ true) × (c ≡ true)
unfolding pick
none true true true e = (refl, refl, refl)
none true true false e = absurd (omega arith)
none true false c e = absurd (omega arith)
none false b c e = absurd (omega arith)

-- no refusal: the end is in range, the buffer has room, the values are allowed
pub clear : (e : End) (room n : ℕ) (allowed : Bool) → n ≡ refusal e room allowed → n ≡ 0 → (in_range e ≡ true) × (longest ≤ room) × (allowed ≡ true)
unfolding refusal
clear e room n allowed p z =
    let All-three = none (in_range e) (leb longest room) allowed (sym p ∙ z) in
    (All-three.0, leb-true longest room All-three.1, All-three.2)

pub connect_room : (time count l : ℕ) → connect_allowed time count l ≡ true → 12 + count + word_length l ≤ 244
unfolding connect_allowed
connect_room time count l e =
    omega (arith, word_small l, leb-true count (most Request l) (both_true (good_idle time) (leb count (most Request l)) e).1)

pub disconnect_room : (type reason count l : ℕ) → disconnect_allowed type reason count l ≡ true → 4 + count + word_length l ≤ 244
unfolding disconnect_allowed
disconnect_room type reason count l e =
    let inner : pick (listed_reason reason) (leb count (most Disconnect l)) false ≡ true = (both_true (good_type type) (pick (listed_reason reason) (leb count (most Disconnect l)) false) e).1 in
    omega (arith, word_small l, leb-true count 40 (both_true (listed_reason reason) (leb count 40) inner).1)

pub data_room : (low count l : ℕ) → data_allowed low count l ≡ true → 2 + count + word_length l ≤ 244
unfolding data_allowed
data_room low count l e =
    omega (arith, word_small l, leb-true count (most Data l) (both_true (is_data low) (leb count (most Data l)) e).1)

pub data_command : (low count l : ℕ) → data_allowed low count l ≡ true → is_data low ≡ true
unfolding data_allowed
data_command low count l e = (both_true (is_data low) (leb count (most Data l)) e).0

-- the low six bits of a data telegram: six bits, and no other kind's
data_low : (low : ℕ) → is_data low ≡ true → (low ≡ 9) ⊎ ((32 ≤ low) × (low ≤ 63))
unfolding is_data
data_low low e = split (either_true (eqb low 9) (pick (leb 32 low) (leb low 63) false) e)
  where
    split : (eqb low 9 ≡ true) ⊎ (pick (leb 32 low) (leb low 63) false ≡ true) → (low ≡ 9) ⊎ ((32 ≤ low) × (low ≤ 63))
    split (inl p) = inl (eqb-true low 9 p)
    split (inr p) =
        let b = both_true (leb 32 low) (leb low 63) p in
        inr (leb-true 32 low b.0, leb-true low 63 b.1)

pub data_small : (low : ℕ) → is_data low ≡ true → (7 ≤ low) × (low < 64)
data_small low e = split (data_low low e)
  where
    split : (low ≡ 9) ⊎ ((32 ≤ low) × (low ≤ 63)) → (7 ≤ low) × (low < 64)
    split (inl p) = (omega arith, omega arith)
    split (inr p) = (omega arith, omega arith)

pub data_kind : (low : ℕ) → is_data low ≡ true → kind_of low ≡ Data
unfolding kind_of pick
data_kind low e =
    let big = data_small low e in
    rw (ne_eqb low 0 (λ p. omega arith), ne_eqb low 2 (λ p. omega arith), ne_eqb low 3 (λ p. omega arith), ne_eqb low 4 (λ p. omega arith), ne_eqb low 5 (λ p. omega arith), ne_eqb low 6 (λ p. omega arith), e)

-- the lengths that the tests tell
pub on_bus_room : (n : ℕ) → on_bus n ≡ true → (6 ≤ n) × (n ≤ 244)
on_bus_room n e =
    let b = both_true (leb 6 n) (leb n 244) e in
    (leb-true 6 n b.0, leb-true n 244 b.1)

pub suits_room : (k : Kind) (l n : ℕ) → suits k l n ≡ true → (header k + word_length l ≤ n) × (n ≤ header k + most k l + word_length l)
suits_room k l n e =
    let b = both_true (leb (header k + word_length l) n) (leb n (header k + most k l + word_length l)) e in
    (leb-true (header k + word_length l) n b.0, leb-true n (header k + most k l + word_length l) b.1)

pub telegram_room : (k : Kind) (l n : ℕ) → all (is_level l ∷ known k ∷ suits k l n ∷ []) ≡ true → (header k + word_length l ≤ n) × (n ≤ 244)
telegram_room k l n e =
    let inner = (both_true (is_level l) (pick (known k) (suits k l n) false) e).1 in
    let room = suits_room k l n (both_true (known k) (suits k l n) inner).1 in
    (room.0, omega (arith, most_small k l))
