-- What the code that all calls share does, as `called` says it: a call is refused before its record is looked at, or takes the step of the record.
-- Assumes nothing.
use mathlib.Core.Path.{◌≡◌, refl, sym, ap, ◌∙◌}
use mathlib.Core.Bool.{Bool, true, false, not}
use mathlib.Core.List.{List}
use Prim.Native.Nat.{ℕ, ◌<◌, ◌+◌}
use native.Mathlib.Omega.{arith}
use lib.ListN.{length, set}
use lib.Dec.{T, ltb, eqb}
use borrow.Author.Tests.{ne_eqb, eq-eqb, lt-ltb}
use denote.Enum.Declared.{tag_of}
use Rattle.telegram.specs.contracts.Refusal.{the_type}
use Rattle.telegram.specs.declared.Refusal.{Refusal}
use Rattle.telegram.specs.declared.Refusal.TheVariants.{OutOfRange, NoRecord, WrongPhase, NoRoom, BadValue, BadTelegram, TimeBackwards, Ended}
use Rattle.link.specs.declared.Step.{Step}
use Rattle.link.specs.declared.Record.{Record}
use Rattle.node.specs.declared.Head.{Head}
use Rattle.node.specs.declared.Outcome.{Outcome}
use Rattle.node.specs.Accepted.{record_at}
use Rattle.node.specs.Matching.{place_in}
use Rattle.telegram.specs.Refusals.{refusal_number}
use Rattle.node.specs.Refusals.{before}
use Rattle.node.specs.Calls.{Call, place_of, carried_by, step_of, step_out, refused_outcome, settled}
use Rattle.node.proofs.Order.{Said, refused_by_table, left_by_step}

-- a refusal's number is the one that the code has of it
pub number_is : (e : Refusal) → tag_of the_type e + 1 ≡ refusal_number e
number_is OutOfRange = refl
number_is NoRecord = refl
number_is WrongPhase = refl
number_is NoRoom = refl
number_is BadValue = refl
number_is BadTelegram = refl
number_is TimeBackwards = refl
number_is Ended = refl

-- and not 0
not_zero : (e : Refusal) → eqb (refusal_number e) 0 ≡ false
not_zero e = ne_eqb (refusal_number e) 0 (λ z. let is = number_is e in omega arith)

-- two places that the table has or has not alike
there_alike : (t : List Record) (i k : ℕ) → place_in t i ≡ place_in t k → ltb i (length t) ≡ ltb k (length t)
there_alike t i k e = by (ltb i (length t)) (ltb k (length t)) refl refl
  where
    by : (a b : Bool) → ltb i (length t) ≡ a → ltb k (length t) ≡ b → ltb i (length t) ≡ ltb k (length t)
    by true true p q = p ∙ sym q
    by false false p q = p ∙ sym q
    by true false p q = let f = rw (p, q) at e in cc
    by false true p q = let f = rw (p, q) at e in cc

same_place : (t : List Record) (i k : ℕ) → place_in t i ≡ place_in t k → i < length t → i ≡ k
same_place t i k e l = let p = lt-ltb i (length t) l in let q = sym (there_alike t i k e) ∙ p in let f = rw (p, q) at e in cc

module _ (c : Call) (h : Head) (t : List Record) (time : ℕ) (d : List ℕ) where
  -- it is refused: table and buffer as they were
  pub call_refused : (place : ℕ) (carried : Bool) (e : Refusal) (u : Outcome) → place_in t place ≡ place_in t (place_of c t) → carried ≡ carried_by c
      → refusal_number e ≡ before h t time (length d) carried place → u ≡ refused_outcome (tag_of the_type e + 1) h → Said c h t time d u t d
  unfolding before
  call_refused place carried e u same k n is =
      let m : refusal_number e ≡ before h t time (length d) (carried_by c) (place_of c t) = rw (← k, ← there_alike t place (place_of c t) same) n in
      let f = not_zero e in let g : T (not (eqb (before h t time (length d) (carried_by c) (place_of c t)) 0)) = rw (← m, f) tt in
      let said = refused_by_table c h t time d g in (is ∙ ap (λ x. refused_outcome x h) (number_is e ∙ m) ∙ said.0, said.1)

  -- else the record has what the step leaves
  pub call_done : (i : ℕ) (carried : Bool) (s : Step) (out : List ℕ) (u : Outcome) → place_in t i ≡ place_in t (place_of c t) → carried ≡ carried_by c → i < length t
      → before h t time (length d) carried i ≡ 0 → (s ≡ step_of c (record_at t i) h.own time d) × (out ≡ step_out c (record_at t i) h.own time d)
      → u ≡ settled s h time → Said c h t time d u (set t i s.«record») out
  call_done i carried s out u same k l n left is =
      let p = same_place t i (place_of c t) same l in
      let z : T (eqb (before h t time (length d) (carried_by c) (place_of c t)) 0) = let f = eq-eqb _ 0 (rw (k, p) at n) in rw f tt in
      let said = left_by_step c h t time d z in let moved = rw p at left in
      rw p (is ∙ ap (λ x. settled x h time) moved.0 ∙ said.0, (ap (λ x. set t (place_of c t) x.«record») moved.0 ∙ said.1.0, moved.1 ∙ said.1.1))
