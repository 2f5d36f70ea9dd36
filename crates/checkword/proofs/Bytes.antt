-- Lists of bytes: their parts and their exclusive-or are bytes, and a list of n bytes and the number that it writes are two ways to say one thing.
-- Assumes nothing.
use mathlib.Core.Path.{◌≡◌, refl, sym, ap, ap₂, ◌∙◌, subst}
use mathlib.Core.List.{List, [], ◌∷◌, ◌++◌}
use Prim.Native.Nat.{ℕ, zero, suc, ◌+◌, ◌*◌, ◌/◌, ◌%◌, ◌^◌, ◌≤◌, ◌<◌, min}
use native.Mathlib.Nat.{add-zero, zero-add, add_assoc, add-mul, zero-mul, mul-one, mul_assoc, mod-eq_of_lt, zero-lt-suc, mod-lt, mod-one}
use native.Mathlib.Omega.{arith}
use lib.Arith.{digits_lt}
use lib.Pow.{pow-add, high, low, mod-pow-add}
use lib.ListN.{length, take, drop, get_or, length-append, length-take, length-drop}
use lib.Seq.{drop-cons, drop-drop, take-add}
use Rattle.checkword.specs.Bytes.{Bytes, number, bytes_of}

pub bytes_of_holds : (a : List ℕ) → ((k : ℕ) → get_or a k 0 < 256) → Bytes a
bytes_of_holds [] h = tt
bytes_of_holds (x ∷ xs) h = (h 0, bytes_of_holds xs (λ k. h (suc k)))

pub bytes_hold : (a : List ℕ) → Bytes a → (k : ℕ) → get_or a k 0 < 256
bytes_hold [] h k = omega arith
bytes_hold (x ∷ xs) h zero = h.0
bytes_hold (x ∷ xs) h (suc k) = bytes_hold xs h.1 k

pub bytes_append : (a b : List ℕ) → Bytes a → Bytes b → Bytes (a ++ b)
bytes_append [] b ha hb = hb
bytes_append (x ∷ xs) b ha hb = (ha.0, bytes_append xs b ha.1 hb)

pub bytes_take : (n : ℕ) (a : List ℕ) → Bytes a → Bytes (take n a)
bytes_take zero a h = tt
bytes_take (suc n) [] h = tt
bytes_take (suc n) (x ∷ xs) h = (h.0, bytes_take n xs h.1)

pub bytes_drop : (n : ℕ) (a : List ℕ) → Bytes a → Bytes (drop n a)
bytes_drop zero a h = h
bytes_drop (suc n) [] h = tt
bytes_drop (suc n) (x ∷ xs) h = bytes_drop n xs h.1

pub number_lt : (bs : List ℕ) → Bytes bs → number bs < 2 ^ (8 * length bs)
number_lt [] h = omega arith
number_lt (b ∷ bs) h =
    let e : 2 ^ (8 * suc (length bs)) ≡ 256 * 2 ^ (8 * length bs) =
    ap (λ (n : ℕ). 2 ^ n) (omega arith) ∙ pow-add 2 8 (8 * length bs) in
    subst (λ (x : ℕ). b * 2 ^ (8 * length bs) + number bs < x) (sym e) (digits_lt h.0 (number_lt bs h.1))

pub number_append : (x y : List ℕ) → number (x ++ y) ≡ number x * 2 ^ (8 * length y) + number y
number_append [] y = sym (ap (λ (n : ℕ). n + number y) (zero-mul (2 ^ (8 * length y))) ∙ zero-add (number y))
number_append (b ∷ x) y =
    let count : 8 * (length x + length y) ≡ 8 * length x + 8 * length y = omega arith in
    ap₂ (λ (n m : ℕ). b * 2 ^ (8 * n) + m) (length-append x y) (number_append x y)
    ∙ ap (λ (n : ℕ). b * n + (number x * 2 ^ (8 * length y) + number y))
    (ap (λ (n : ℕ). 2 ^ n) count ∙ pow-add 2 (8 * length x) (8 * length y))
    ∙ ap (λ (n : ℕ). n + (number x * 2 ^ (8 * length y) + number y)) (sym (mul_assoc b (2 ^ (8 * length x)) (2 ^ (8 * length y))))
    ∙ sym
    (ap (λ (n : ℕ). n + number y) (add-mul (b * 2 ^ (8 * length x)) (number x) (2 ^ (8 * length y)))
    ∙ add_assoc (b * 2 ^ (8 * length x) * 2 ^ (8 * length y)) (number x * 2 ^ (8 * length y)) (number y))

pub number_inj : (a b : List ℕ) → length a ≡ length b → Bytes a → Bytes b → number a ≡ number b → a ≡ b
number_inj [] [] l ha hb e = refl
number_inj [] (y ∷ ys) l ha hb e = absurd (omega arith)
number_inj (x ∷ xs) [] l ha hb e = absurd (omega arith)
number_inj (x ∷ xs) (y ∷ ys) l ha hb e =
    let m : length xs ≡ length ys = omega arith in
    let k : ℕ = 8 * length ys in
    let hx : number xs < 2 ^ (8 * length ys) = subst (λ (n : ℕ). number xs < 2 ^ (8 * n)) m (number_lt xs ha.1) in
    let hy : number ys < 2 ^ (8 * length ys) = number_lt ys hb.1 in
    let e' : x * 2 ^ (8 * length ys) + number xs ≡ y * 2 ^ (8 * length ys) + number ys =
    ap (λ (n : ℕ). x * 2 ^ (8 * n) + number xs) (sym m) ∙ e in
    let p : x ≡ y = sym (high x k hx) ∙ ap (λ (n : ℕ). n / 2 ^ (8 * length ys)) e' ∙ high y k hy in
    let q : number xs ≡ number ys = sym (low x k hx) ∙ ap (λ (n : ℕ). n % 2 ^ (8 * length ys)) e' ∙ low y k hy in
    ap₂ {C = List ℕ} (λ (z : ℕ) (zs : List ℕ). z ∷ zs) p (number_inj xs ys m ha.1 hb.1 q)

pub bytes_of_length : (n x : ℕ) → length (bytes_of n x) ≡ n
bytes_of_length zero x = refl
bytes_of_length (suc n) x = ap suc (bytes_of_length n x)

pub bytes_of_bytes : (n x : ℕ) → Bytes (bytes_of n x)
bytes_of_bytes zero x = tt
bytes_of_bytes (suc n) x = (mod-lt (x / 2 ^ (8 * n)) (zero-lt-suc 255), bytes_of_bytes n x)

-- The n lowest bytes of a number write what is left of it by 2 ^ (8 * n).
pub number_bytes_of : (n x : ℕ) → number (bytes_of n x) ≡ x % 2 ^ (8 * n)
number_bytes_of zero x = sym (mod-one x)
number_bytes_of (suc n) x =
    let count : 8 * suc n ≡ 8 + 8 * n = omega arith in
    ap₂ (λ (m y : ℕ). x / 2 ^ (8 * n) % 256 * 2 ^ (8 * m) + y) (bytes_of_length n x) (number_bytes_of n x)
    ∙ sym (ap (λ (m : ℕ). x % 2 ^ m) count ∙ mod-pow-add x 8 (8 * n))

-- The bytes of the number that a list writes are the list.
pub bytes_of_number : (n : ℕ) (c : List ℕ) → length c ≡ n → Bytes c → bytes_of n (number c) ≡ c
bytes_of_number n c l h =
    let same : length (bytes_of n (number c)) ≡ length c = bytes_of_length n (number c) ∙ sym l in
    let fits : number c < 2 ^ (8 * n) = subst (λ (m : ℕ). number c < 2 ^ (8 * m)) l (number_lt c h) in
    number_inj (bytes_of n (number c)) c same (bytes_of_bytes n (number c)) h (number_bytes_of n (number c) ∙ mod-eq_of_lt fits)

-- The number of the bytes from place i on, byte by byte.
pub number_from : (a : List ℕ) (i j n : ℕ) → j ≡ i + 1 → i + suc n ≤ length a
    → number (take (suc n) (drop i a)) ≡ get_or a i 0 * 2 ^ (8 * n) + number (take n (drop j a))
number_from a i j n e h =
    let size : length (take n (drop (suc i) a)) ≡ n = length-take n (drop (suc i) a) ∙ ap (min n) (length-drop (suc i) a) ∙ omega arith in
    let next : suc i ≡ j = omega arith in
    ap (λ (l : List ℕ). number (take (suc n) l)) (drop-cons a i 0 (omega arith))
    ∙ ap₂ (λ (k m : ℕ). get_or a i 0 * 2 ^ (8 * k) + number (take n (drop m a))) size next

pub one_number : (a : List ℕ) (i : ℕ) → i < length a → number (take 1 (drop i a)) ≡ get_or a i 0
one_number a i h = number_from a i (i + 1) 0 refl (omega arith) ∙ add-zero (get_or a i 0 * 1) ∙ mul-one (get_or a i 0)

pub two_number : (a : List ℕ) (i : ℕ) → i + 2 ≤ length a → number (take 2 (drop i a)) ≡ get_or a i 0 * 0x100 + get_or a (i + 1) 0
two_number a i h = number_from a i (i + 1) 1 refl h ∙ ap (λ (n : ℕ). get_or a i 0 * 0x100 + n) (one_number a (i + 1) (omega arith))

pub four_number : (a : List ℕ) (i : ℕ) → i + 4 ≤ length a
    → number (take 4 (drop i a)) ≡ get_or a i 0 * 0x100_0000 + get_or a (i + 1) 0 * 0x1_0000 + get_or a (i + 2) 0 * 0x100 + get_or a (i + 3) 0
four_number a i h =
    let one : number (take 1 (drop (i + 3) a)) ≡ get_or a (i + 3) 0 = one_number a (i + 3) (omega arith) in
    let two : number (take 2 (drop (i + 2) a)) ≡ get_or a (i + 2) 0 * 0x100 + number (take 1 (drop (i + 3) a)) =
    number_from a (i + 2) (i + 3) 1 (omega arith) (omega arith) in
    let three : number (take 3 (drop (i + 1) a)) ≡ get_or a (i + 1) 0 * 0x1_0000 + number (take 2 (drop (i + 2) a)) =
    number_from a (i + 1) (i + 2) 2 (omega arith) (omega arith) in
    let four : number (take 4 (drop i a)) ≡ get_or a i 0 * 0x100_0000 + number (take 3 (drop (i + 1) a)) =
    number_from a i (i + 1) 3 refl h in
    omega (arith, one, two, three, four)

-- Four bytes and four more.
pub eight_number : (a : List ℕ) (i : ℕ) → i + 8 ≤ length a
    → number (take 8 (drop i a)) ≡ number (take 4 (drop i a)) * 2 ^ 32 + number (take 4 (drop (i + 4) a))
eight_number a i h =
    let size : length (take 4 (drop (i + 4) a)) ≡ 4 = length-take 4 (drop (i + 4) a) ∙ ap (min 4) (length-drop (i + 4) a) ∙ omega arith in
    ap number (take-add 4 4 (drop i a) ∙ ap {B = List ℕ} (λ (l : List ℕ). take 4 (drop i a) ++ take 4 l) (drop-drop 4 i a))
    ∙ number_append (take 4 (drop i a)) (take 4 (drop (i + 4) a))
    ∙ ap (λ (k : ℕ). number (take 4 (drop i a)) * 2 ^ (8 * k) + number (take 4 (drop (i + 4) a))) size
