-- What was written lowest byte first is read back: one field, and all fields of a layout. What is written are bytes.
-- Assumes nothing.
use mathlib.Core.Path.{◌≡◌, refl, sym, ap, ap₂, ◌∙◌, subst}
use mathlib.Core.List.{List, [], ◌∷◌, ◌++◌, append_assoc}
use Prim.Native.Nat.{ℕ, zero, suc, ◌+◌, ◌*◌, ◌/◌, ◌%◌, ◌^◌, ◌<◌}
use native.Mathlib.Nat.{add-zero, mod-lt, zero-lt-suc}
use native.Mathlib.Omega.{arith}
use lib.Pow.{pow-add}
use lib.ListN.{length, get_or, length-append}
use lib.Seq.{get_or-append-add}
use Rattle.checkword.specs.Bytes.{Bytes}
use Rattle.checkword.proofs.Bytes.{bytes_append}
use Rattle.ground.specs.Numbers.{lowest_first, number_at}
use Rattle.telegram.specs.Layout.{sum, field_bytes, fields_at}
use Rattle.telegram.specs.Ends.{implicit}

-- each value has room in its field
abbrev pub Fit : List ℕ → List ℕ → Type 0
Fit [] [] = Unit {0}
Fit [] (v ∷ vs) = ⊥
Fit (w ∷ ws) [] = ⊥
Fit (w ∷ ws) (v ∷ vs) = (v < 2 ^ (8 * w)) × Fit ws vs

pub lowest_length : (n x : ℕ) → length (lowest_first n x) ≡ n
lowest_length zero x = refl
lowest_length (suc n) x = ap suc (lowest_length n (x / 256))

pub lowest_bytes : (n x : ℕ) → Bytes (lowest_first n x)
lowest_bytes zero x = tt
lowest_bytes (suc n) x = (mod-lt x (zero-lt-suc 255), lowest_bytes n (x / 256))

pub fields_length : (ws vs : List ℕ) → Fit ws vs → length (field_bytes ws vs) ≡ sum ws
fields_length [] vs h = refl
fields_length (w ∷ ws) [] h = absurd h
fields_length (w ∷ ws) (v ∷ vs) h =
    length-append (lowest_first w v) (field_bytes ws vs) ∙ ap₂ (λ (m n : ℕ). m + n) (lowest_length w v) (fields_length ws vs h.1)

pub fields_bytes : (ws vs : List ℕ) → Bytes (field_bytes ws vs)
fields_bytes [] vs = tt
fields_bytes (w ∷ ws) [] = tt
fields_bytes (w ∷ ws) (v ∷ vs) = bytes_append (lowest_first w v) (field_bytes ws vs) (lowest_bytes w v) (fields_bytes ws vs)

-- the element behind a list
pub behind : (xs ys : List ℕ) (x n : ℕ) → length xs ≡ n → get_or (xs ++ (x ∷ ys)) n 0 ≡ x
behind xs ys x n e = ap (λ (k : ℕ). get_or (xs ++ (x ∷ ys)) k 0) (sym e ∙ sym (add-zero (length xs))) ∙ get_or-append-add xs (x ∷ ys) 0 0

-- one field
pub number_back : (w at v : ℕ) (before rest : List ℕ) → length before ≡ at → v < 2 ^ (8 * w) → number_at w at (before ++ (lowest_first w v ++ rest)) ≡ v
number_back zero at v before rest l h = omega arith
number_back (suc w) at v before rest l h =
    let size : 8 * suc w ≡ 8 + 8 * w = omega arith in
    let room : v < 256 * 2 ^ (8 * w) = subst (λ (n : ℕ). v < n) (ap (λ (n : ℕ). 2 ^ n) size ∙ pow-add 2 8 (8 * w)) h in
    let less : v / 256 < 2 ^ (8 * w) = omega arith in
    let next : List ℕ = before ++ (v % 256 ∷ []) in
    let moved : before ++ (v % 256 ∷ (lowest_first w (v / 256) ++ rest)) ≡ next ++ (lowest_first w (v / 256) ++ rest) =
    sym (append_assoc before (v % 256 ∷ []) (lowest_first w (v / 256) ++ rest)) in
    let one : get_or (before ++ (v % 256 ∷ (lowest_first w (v / 256) ++ rest))) at 0 ≡ v % 256 = behind before (lowest_first w (v / 256) ++ rest) (v % 256) at l in
    let others : number_at w (at + 1) (before ++ (v % 256 ∷ (lowest_first w (v / 256) ++ rest))) ≡ v / 256 =
    ap (number_at w (at + 1)) moved
    ∙ number_back w (at + 1) (v / 256) next rest (length-append before (v % 256 ∷ []) ∙ ap (λ (n : ℕ). n + 1) l) less in
    ap₂ (λ (x y : ℕ). x + 256 * y) one others ∙ omega arith

-- all fields
pub fields_back : (ws vs before rest : List ℕ) (at : ℕ) → length before ≡ at → Fit ws vs → fields_at at ws (before ++ (field_bytes ws vs ++ rest)) ≡ vs
fields_back [] [] before rest at l h = refl
fields_back [] (v ∷ vs) before rest at l h = absurd h
fields_back (w ∷ ws) [] before rest at l h = absurd h
fields_back (w ∷ ws) (v ∷ vs) before rest at l h =
    let apart : (lowest_first w v ++ field_bytes ws vs) ++ rest ≡ lowest_first w v ++ (field_bytes ws vs ++ rest) = append_assoc (lowest_first w v) (field_bytes ws vs) rest in
    let moved : before ++ ((lowest_first w v ++ field_bytes ws vs) ++ rest) ≡ (before ++ lowest_first w v) ++ (field_bytes ws vs ++ rest) =
    ap {B = List ℕ} (λ (x : List ℕ). before ++ x) apart ∙ sym (append_assoc before (lowest_first w v) (field_bytes ws vs ++ rest)) in
    let first : number_at w at (before ++ ((lowest_first w v ++ field_bytes ws vs) ++ rest)) ≡ v =
    ap {B = ℕ} (λ (x : List ℕ). number_at w at (before ++ x)) apart ∙ number_back w at v before (field_bytes ws vs ++ rest) l h.0 in
    let others : fields_at (at + w) ws (before ++ ((lowest_first w v ++ field_bytes ws vs) ++ rest)) ≡ vs =
    ap {B = List ℕ} (λ (x : List ℕ). fields_at (at + w) ws x) moved
    ∙ fields_back ws vs (before ++ lowest_first w v) rest (at + w)
    (length-append before (lowest_first w v) ∙ ap₂ (λ (m n : ℕ). m + n) l (lowest_length w v)) h.1 in
    ap₂ {C = List ℕ} (λ (x : ℕ) (xs : List ℕ). x ∷ xs) first others

-- a remainder by 256 is a byte
byte : (x : ℕ) → x % 256 < 256
byte x = omega arith

-- the implicit bytes are bytes
pub implicit_bytes : (count receiver sender dsap ssap number : ℕ) → Bytes (implicit count receiver sender dsap ssap number)
unfolding implicit
implicit_bytes count receiver sender dsap ssap number =
    (byte count, (byte receiver, (byte sender, (byte dsap, (byte ssap, lowest_bytes 3 (number / 256))))))
