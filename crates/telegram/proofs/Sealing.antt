-- A telegram that is written piece by piece: head, fixed fields, net data and check word make the whole telegram at the front of the buffer.
-- Assumes nothing.
use mathlib.Core.Path.{◌≡◌, refl, sym, ap, ap₂, ◌∙◌}
use mathlib.Core.List.{List, [], ◌∷◌, ◌++◌}
use Prim.Native.Nat.{ℕ, ◌+◌, ◌*◌, ◌%◌, ◌≤◌}
use native.Mathlib.Nat.{zero-add}
use native.Mathlib.Omega.{arith}
use lib.ListN.{length, take, drop, length-append}
use Rattle.checkword.specs.Bytes.{bytes_of}
use Rattle.checkword.proofs.Bytes.{bytes_of_length}
use Rattle.telegram.specs.Levels.{top_bits, word_length}
use Rattle.telegram.specs.Ends.{sending}
use Rattle.telegram.specs.Over.{over}
use Rattle.telegram.specs.Telegrams.{check_word, body, sealed}
use Rattle.telegram.specs.declared.End.{End}
use Rattle.telegram.proofs.Over.{over_join, over_is, take_over}

-- how long a body and a telegram are
pub body_length : (l number low : ℕ) (fields net : List ℕ) → length (body l number low fields net) ≡ 2 + length fields + length net
unfolding body
body_length l number low fields net = omega (arith, length-append fields net)

pub sealed_length : (e : End) (number : ℕ) (bs : List ℕ) → length (sealed e number bs) ≡ length bs + word_length e.level
unfolding sealed
sealed_length e number bs =
    length-append bs (bytes_of (word_length e.level) (check_word e.level (sending e number (length bs + word_length e.level)) bs))
    ∙ ap (λ (n : ℕ). length bs + n) (bytes_of_length (word_length e.level) (check_word e.level (sending e number (length bs + word_length e.level)) bs))

pub telegram_length : (e : End) (number low : ℕ) (fields net : List ℕ)
    → length (sealed e number (body e.level number low fields net)) ≡ 2 + length fields + length net + word_length e.level
telegram_length e number low fields net =
    sealed_length e number (body e.level number low fields net) ∙ ap (λ (n : ℕ). n + word_length e.level) (body_length e.level number low fields net)

-- head, fields and net data are the body
joined : (l number low : ℕ) (d fields net : List ℕ)
    → over (over (over d 0 (number % 256 ∷ (top_bits l * 64 + low) ∷ [])) 2 fields) (2 + length fields) net ≡ over d 0 (body l number low fields net)
unfolding body
joined l number low d fields net =
    ap (λ (x : List ℕ). over x (2 + length fields) net) (over_join d 0 2 (number % 256 ∷ (top_bits l * 64 + low) ∷ []) fields refl)
    ∙ over_join d 0 (2 + length fields) (number % 256 ∷ (top_bits l * 64 + low) ∷ fields) net (omega arith)

-- a body at the front and its check word behind it are the telegram at the front
sealing : (e : End) (number : ℕ) (d bs : List ℕ) → length bs + word_length e.level ≤ length d
    → over (over d 0 bs) (length bs)
    (bytes_of (word_length e.level) (check_word e.level (sending e number (length bs + word_length e.level)) (take (length bs) (over d 0 bs))))
    ≡ sealed e number bs ++ drop (length (sealed e number bs)) d
unfolding sealed
sealing e number d bs room =
    let w : List ℕ = bytes_of (word_length e.level) (check_word e.level (sending e number (length bs + word_length e.level)) bs) in
    ap
    (λ (x : List ℕ).
    over (over d 0 bs) (length bs) (bytes_of (word_length e.level) (check_word e.level (sending e number (length bs + word_length e.level)) x)))
    (take_over d bs (length bs) refl (omega arith))
    ∙ over_join d 0 (length bs) bs w (omega arith)
    ∙ over_is d (bs ++ w) 0 (omega (arith, sealed_length e number bs))
    ∙ ap (λ (n : ℕ). (bs ++ w) ++ drop n d) (zero-add (length (bs ++ w)))

-- the same from what each call of the writer said
pub put_steps : (e : End) (number low top wl : ℕ) (d a b f g fields net imp : List ℕ)
    → top ≡ top_bits e.level → wl ≡ word_length e.level
    → a ≡ over d 0 (number % 256 ∷ (top * 64 + low) ∷ []) → b ≡ over a 2 fields → f ≡ over b (2 + length fields) net
    → imp ≡ sending e number (2 + length fields + length net + wl)
    → g ≡ over f (2 + length fields + length net) (bytes_of (word_length e.level) (check_word e.level imp (take (2 + length fields + length net) f)))
    → 2 + length fields + length net + word_length e.level ≤ length d
    → g ≡ sealed e number (body e.level number low fields net) ++ drop (length (sealed e number (body e.level number low fields net))) d
put_steps e number low top wl d a b f g fields net imp et ew ea eb ef ei eg room =
    let bs : List ℕ = body e.level number low fields net in
    let size : length (body e.level number low fields net) ≡ 2 + length fields + length net = body_length e.level number low fields net in
    let front : f ≡ over d 0 (body e.level number low fields net) =
    ef ∙ ap (λ (x : List ℕ). over x (2 + length fields) net) (eb ∙ ap (λ (x : List ℕ). over x 2 fields) (ea ∙ ap (λ (t : ℕ). over d 0 (number % 256 ∷ (t * 64 + low) ∷ [])) et))
    ∙ joined e.level number low d fields net in
    let implicit : imp ≡ sending e number (length (body e.level number low fields net) + word_length e.level) =
    ei ∙ ap₂ (λ (n w : ℕ). sending e number (n + w)) (sym size) ew in
    eg
    ∙ ap₂ (λ (x i : List ℕ). over x (2 + length fields + length net) (bytes_of (word_length e.level) (check_word e.level i (take (2 + length fields + length net) x)))) front implicit
    ∙ ap
    (λ (n : ℕ).
    over (over d 0 (body e.level number low fields net)) n
    (bytes_of (word_length e.level)
    (check_word e.level (sending e number (length (body e.level number low fields net) + word_length e.level))
    (take n (over d 0 (body e.level number low fields net))))))
    (sym size)
    ∙ sealing e number d (body e.level number low fields net) (omega arith)
