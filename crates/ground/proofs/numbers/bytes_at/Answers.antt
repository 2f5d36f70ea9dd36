-- The closure is called at each place in turn and reads its byte; what lies past the largest index reads 0 as every place past the end does.
use Rattle.std.proofs.Common.{rules, ◌≡◌, get_or, ℕ, zero, suc, ◌+◌, ◌-◌, ◌^◌, ◌<◌, ◌≤◌, length, List, arith, sym, ap, refl, subst, ◌∙◌, min, add-zero, zero-add}
use Rattle.std.proofs.lemmas.Grind.{same_number_lists}
use Rattle.std.proofs.lemmas.List.{get_or_past}
use Rattle.std.specs.Fn.{Called, Mut}
use Rattle.std.specs.Array.{IsFromFnResult, IsFromFnResultFrom}
use Rattle.ground.specs.Numbers.{bytes_at}
use Rattle.ground.proofs.numbers.bytes_at.Goals as goal

module _ {F : Type 0} (g : Mut F (ℕ × Unit {0}) ℕ) (f : F) (v : ℕ → ℕ) (each : (i y : ℕ) (q : F) → Called g f (i, tt) y q → (q ≡ f) × (y ≡ v i)) where
  items : (ys : List ℕ) (n i : ℕ) → IsFromFnResultFrom g f ys i n → (k : ℕ) → k < n → get_or ys (i + k) 0 ≡ v (i + k)
  items ys zero i r k lt = absurd (omega arith)
  items ys (suc n) i (q, y, e, h, more) zero lt = rw (add-zero) (e.1 0 ∙ (each i y q h).1)
  items ys (suc n) i (q, y, e, h, more) (suc k) lt =
      subst (λ j. get_or ys j 0 ≡ v j) (omega arith) (items ys n (i + 1) (subst (λ p. IsFromFnResultFrom g p ys (i + 1) n) (each i y q h).0 more) k (omega arith))

bytes_length : (n at : ℕ) (t : List ℕ) → length (bytes_at n at t) ≡ n
bytes_length zero at t = refl
bytes_length (suc n) at t = ap suc (bytes_length n (at + 1) t)

bytes_item : (n at : ℕ) (t : List ℕ) (k : ℕ) → k < n → get_or (bytes_at n at t) k 0 ≡ get_or t (at + k) 0
bytes_item zero at t k lt = absurd (omega arith)
bytes_item (suc n) at t zero lt = rw add-zero
bytes_item (suc n) at t (suc k) lt = bytes_item n (at + 1) t k (omega arith) ∙ ap (λ j. get_or t j 0) (omega arith)

-- a place past the largest index
beyond : (t : List ℕ) (i m : ℕ) → length t ≤ m → get_or t (min i m) 0 ≡ get_or t i 0
beyond t i m h = grind (arith, get_or_past)

run : {F : Type 0} (g : Mut F (ℕ × Unit {0}) ℕ) (f : F) (n at m : ℕ) (t ys : List ℕ) → length t ≤ m
    → ((i y : ℕ) (q : F) → Called g f (i, tt) y q → (q ≡ f) × (y ≡ get_or t (min (at + i) m) 0)) → IsFromFnResult g f ys n → ys ≡ bytes_at n at t
run g f n at m t ys h each r =
    same_number_lists ys (bytes_at n at t) (r.long ∙ sym (bytes_length n at t)) (λ k lt.
    ap (λ j. get_or ys j 0) (sym (zero-add k))
    ∙ items g f (λ i. get_or t (min (at + i) m) 0) each ys n 0 r.each k (omega (arith, r.long, lt))
    ∙ ap (λ j. get_or t (min (at + j) m) 0) (zero-add k)
    ∙ beyond t (at + k) m h
    ∙ sym (bytes_item n at t k (omega (arith, r.long, lt))))

pub returns : goal.returns
returns g c = run _ _ _ _ (2 ^ 64 - 1) c.args.t.now _ (omega arith) (λ i y q k. search rules) c.from_fn.ensures.items
