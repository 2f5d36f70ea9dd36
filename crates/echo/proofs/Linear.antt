-- Functions that are additive over exclusive-or, and a test by elimination that such a function takes nothing but 0 to 0. Each round takes the value at 1
-- out of the values at the even numbers, by a place where it has a one: so a sum of the two is 0 only where both are, and the even numbers go on.
-- Assumes nothing.
use mathlib.Core.Path.{◌≡◌, refl, sym, ap, ap₂, ◌∙◌, subst}
use mathlib.Core.Bool.{Bool, true, false, ◌&&◌}
use mathlib.Core.List.{List, [], ◌∷◌, ◌++◌}
use Prim.Native.Nat.{ℕ, zero, suc, ◌+◌, ◌*◌, ◌/◌, ◌%◌, ◌^◌, ◌<◌}
use native.Mathlib.Nat.{mod-lt, zero-lt-suc, zero-div, div-add-mod', div-lt_iff_lt-mul, pow-suc}
use native.Mathlib.Omega.{arith}
use lib.Arith.{lt-one}
use lib.Bits.{bit_xor, xor_self, xor_zero_r, xor_shr, xor_mod, xor_shifted}
use lib.Count.{count_trailing_zeros}
use lib.Dec.{T, eqb, eqb→eq}
use lib.ListN.{get_or, replicate}
use Rattle.checkword.specs.Bytes.{bytes_of}
use Rattle.checkword.specs.Word.{fallen}
use Rattle.checkword.proofs.Xor.{xor_swap, xor_mul, xor_cancel_r}

-- The function takes the exclusive-or of two numbers to that of their values, so 0 to 0.
abbrev pub Additive : (ℕ → ℕ) → Type 0
Additive f = (x y : ℕ) → f (bit_xor x y) ≡ bit_xor (f x) (f y)

pub additive_zero : (f : ℕ → ℕ) → Additive f → f 0 ≡ 0
additive_zero f h = h 0 0 ∙ xor_self (f 0)

-- So is one after another, one after a shift to the left, and the exclusive-or of two.
pub after_additive : (f g : ℕ → ℕ) → Additive f → Additive g → Additive (λ x. f (g x))
after_additive f g p q x y = ap f (q x y) ∙ p (g x) (g y)

pub shifted_additive : (f : ℕ → ℕ) (k : ℕ) → Additive f → Additive (λ x. f (x * 2 ^ k))
shifted_additive f k h x y = ap f (xor_mul x y k) ∙ h (x * 2 ^ k) (y * 2 ^ k)

xor_additive : (f g : ℕ → ℕ) → Additive f → Additive g → Additive (λ x. bit_xor (f x) (g x))
xor_additive f g p q x y = ap₂ bit_xor (p x y) (q x y) ∙ xor_swap (f x) (f y) (g x) (g y)

-- A function to lists that is additive at each place. Zeros can stand before its lists, and the bytes of an additive function.
abbrev pub Additives : (ℕ → List ℕ) → Type 0
Additives l = (k : ℕ) → Additive (λ x. get_or (l x) k 0)

pub zeros_additive : (n : ℕ) (l : ℕ → List ℕ) → Additives l → Additives (λ x. replicate n 0 ++ l x)
zeros_additive zero l h k = h k
zeros_additive (suc n) l h zero = λ x y. refl
zeros_additive (suc n) l h (suc k) = zeros_additive n l h k

pub bytes_additive : (n : ℕ) (f : ℕ → ℕ) (l : ℕ → List ℕ) → Additive f → Additives l → Additives (λ x. bytes_of n (f x) ++ l x)
bytes_additive zero f l p h k = h k
bytes_additive (suc n) f l p h zero = λ x y.
    ap (λ (z : ℕ). z / 2 ^ (8 * n) % 256) (p x y) ∙ ap (λ (z : ℕ). z % 256) (xor_shr (f x) (f y) (8 * n))
    ∙ xor_mod (f x / 2 ^ (8 * n)) (f y / 2 ^ (8 * n)) 8
bytes_additive (suc n) f l p h (suc k) = bytes_additive n f l p h k

-- Parts of a list by exclusive-or: (k, b, i) stands for the b lowest bits of the number at place k, from bit i on.
abbrev pub parts : List (ℕ × ℕ × ℕ) → List ℕ → ℕ
parts [] l = 0
parts (p ∷ ps) l = bit_xor (get_or l p.0 0 % 2 ^ p.1 * 2 ^ p.2) (parts ps l)

pub parts_additive : (ps : List (ℕ × ℕ × ℕ)) (l : ℕ → List ℕ) → Additives l → Additive (λ x. parts ps (l x))
parts_additive [] l h = λ x y. refl
parts_additive (p ∷ ps) l h =
    xor_additive (λ x. get_or (l x) p.0 0 % 2 ^ p.1 * 2 ^ p.2) (λ x. parts ps (l x))
    (after_additive (λ z. z % 2 ^ p.1 * 2 ^ p.2) (λ x. get_or (l x) p.0 0)
    (λ x y. ap (λ (z : ℕ). z * 2 ^ p.2) (xor_mod x y p.1) ∙ xor_mul (x % 2 ^ p.1) (y % 2 ^ p.1) p.2) (h p.0))
    (parts_additive ps l h)

-- The number with c taken out, by exclusive-or, where it has a one at place p.
abbrev pub clear : ℕ → ℕ → ℕ → ℕ
clear p c x = bit_xor (fallen c (x / 2 ^ p % 2)) x

pub clear_additive : (p c : ℕ) → Additive (clear p c)
clear_additive p c =
    xor_additive (λ x. fallen c (x / 2 ^ p % 2)) (λ x. x)
    (λ x y.
    ap (λ (z : ℕ). fallen c (z % 2)) (xor_shr x y p) ∙ ap (fallen c) (xor_mod (x / 2 ^ p) (y / 2 ^ p) 1)
    ∙ bits (x / 2 ^ p % 2) (y / 2 ^ p % 2) (mod-lt (x / 2 ^ p) (zero-lt-suc 1)) (mod-lt (y / 2 ^ p) (zero-lt-suc 1)))
    (λ x y. refl)
  where
    bits : (a b : ℕ) → a < 2 → b < 2 → fallen c (bit_xor a b) ≡ bit_xor (fallen c a) (fallen c b)
    bits zero b ha hb = refl
    bits (suc zero) zero ha hb = sym (xor_zero_r c)
    bits (suc zero) (suc zero) ha hb = sym (xor_self c)
    bits (suc zero) (suc (suc b)) ha hb = absurd (omega arith)
    bits (suc (suc a)) b ha hb = absurd (omega arith)

-- The test, for the numbers of k bits.
unfoldable pub independent : ℕ → (ℕ → ℕ) → Bool
independent zero f = true
independent (suc k) f =
    let c : ℕ = f 1 in
    let p : ℕ = count_trailing_zeros 64 c in
    eqb (c / 2 ^ p % 2) 1 && independent k (λ y. clear p c (f (y * 2)))

-- Both of two tests.
both : (a b : Bool) → T (a && b) → T a × T b
both true b t = (tt, t)
both false b t = absurd t

-- An additive function that passes the test takes no number of k bits but 0 to 0.
pub only_zero : (k : ℕ) (f : ℕ → ℕ) → Additive f → T (independent k f) → (x : ℕ) → x < 2 ^ k → f x ≡ 0 → x ≡ 0
unfolding independent
only_zero zero f h t x l e = lt-one l
only_zero (suc k) f h t x l e =
    by_bit (x % 2) (mod-lt x (zero-lt-suc 1)) (sym (div-add-mod' x 2))
    (only_zero k rest (after_additive (clear p c) (λ y. f (y * 2)) (clear_additive p c) (shifted_additive f 1 h)) passed.1 (x / 2)
    ((div-lt_iff_lt-mul (zero-lt-suc 1)).1 (subst (λ (z : ℕ). x < z) (pow-suc 2 k) l)))
  where
    c : ℕ
    c = f 1

    p : ℕ
    p = count_trailing_zeros 64 c

    rest : ℕ → ℕ
    rest y = clear p c (f (y * 2))

    passed : T (eqb (c / 2 ^ p % 2) 1) × T (independent k rest)
    passed = both (eqb (c / 2 ^ p % 2) 1) (independent k rest) t

    one : c / 2 ^ p % 2 ≡ 1
    one = eqb→eq (c / 2 ^ p % 2) 1 passed.0

    -- the even part of x has the value of its lowest bit
    same : (b : ℕ) → b < 2 → x ≡ x / 2 * 2 + b → f (x / 2 * 2) ≡ f b
    same b hb s =
        xor_cancel_r (f b) (sym (h (x / 2 * 2) b) ∙ ap f (xor_shifted (x / 2) 1 b hb ∙ sym s) ∙ e ∙ sym (xor_self (f b)))

    by_bit : (b : ℕ) → b < 2 → x ≡ x / 2 * 2 + b → (rest (x / 2) ≡ 0 → x / 2 ≡ 0) → x ≡ 0
    by_bit zero hb s ih =
        let z : x / 2 ≡ 0 = ih (ap (clear p c) (same 0 hb s ∙ additive_zero f h) ∙ additive_zero (clear p c) (clear_additive p c)) in
        omega arith
    by_bit (suc zero) hb s ih =
        let z : x / 2 ≡ 0 = ih (ap (clear p c) (same 1 hb s) ∙ ap (λ (v : ℕ). bit_xor (fallen c v) c) one ∙ xor_self c) in
        let n : c ≡ 0 = sym (same 1 hb s) ∙ ap (λ (v : ℕ). f (v * 2)) z ∙ additive_zero f h in
        absurd (omega (arith, sym one ∙ ap (λ (v : ℕ). v / 2 ^ p % 2) n ∙ ap (λ (v : ℕ). v % 2) (zero-div (2 ^ p))))
    by_bit (suc (suc b)) hb s ih = absurd (omega arith)

-- A test that each number below k passes.
unfoldable pub each : ℕ → (ℕ → Bool) → Bool
each zero p = true
each (suc k) p = p 0 && each k (λ s. p (suc s))

pub each_at : (k : ℕ) (p : ℕ → Bool) → T (each k p) → (s : ℕ) → s < k → T (p s)
unfolding each
each_at zero p t s h = absurd (omega arith)
each_at (suc k) p t zero h = (both (p 0) (each k (λ s. p (suc s))) t).0
each_at (suc k) p t (suc s) h = each_at k (λ s. p (suc s)) (both (p 0) (each k (λ s. p (suc s))) t).1 s (omega arith)
