-- A call that was done: what it leaves is what the step leaves, of a record that is there in an accepted table.
-- Assumes nothing.
use mathlib.Core.Path.{◌≡◌, refl, sym, ◌∙◌}
use mathlib.Core.Bool.{Bool, true, false}
use mathlib.Core.List.{List}
use Prim.Native.Nat.{ℕ, ◌≤◌, ◌<◌}
use lib.ListN.{length, set}
use lib.Dec.{T, eqb}
use borrow.Author.Tests.{eqb-false, eq-eqb, ne_eqb, le-leb, lt-ltb}
use Rattle.ground.specs.Choice.{pick}
use Rattle.telegram.specs.Layout.{longest}
use Rattle.link.specs.declared.Record.{Record}
use Rattle.link.specs.declared.Step.{Step}
use Rattle.node.specs.declared.Head.{Head}
use Rattle.node.specs.Heads.{at}
use Rattle.node.specs.Accepted.{record_at, accepted}
use Rattle.node.specs.Refusals.{order, first, before}
use Rattle.node.specs.Calls.{Call, place_of, carried_by, suited_to, allowed_by, asked, step_of, step_out, refused_outcome, settled, called}
use Rattle.node.proofs.Facts.{first_answered}
use Rattle.node.proofs.Order.{refused_answered, fine_by, placed}
use Rattle.demands.specs.Pairs.{Done}

settled_number : (s : Step) (h : Head) (time : ℕ) → (settled s h time).answer.number ≡ s.answer.number
unfolding settled refused_outcome pick
settled_number s h time = by (eqb s.answer.number 0)
  where
    by : (b : Bool) → (pick b (record { head = at h time; answer = s.answer; event = s.event }) (refused_outcome s.answer.number h)).answer.number ≡ s.answer.number
    by true = refl
    by false = refl

-- the step of a call, and the buffer that it leaves
abbrev pub step_in : Call → Head → List Record → ℕ → List ℕ → Step
step_in c h t time d = step_of c (record_at t (place_of c t)) h.own time d

pub record Carried (c : Call) (h : Head) (t : List Record) (time : ℕ) (d : List ℕ) : Type 0 where
  pub number : (step_in c h t time d).answer.number ≡ 0
  pub head : (called c h t time d).outcome.head ≡ at h time
  pub answer : (called c h t time d).outcome.answer ≡ (step_in c h t time d).answer
  pub event : (called c h t time d).outcome.event ≡ (step_in c h t time d).event
  pub table : (called c h t time d).table ≡ set t (place_of c t) (step_in c h t time d).«record»
  pub out : (called c h t time d).out ≡ step_out c (record_at t (place_of c t)) h.own time d
  pub there : place_of c t < length t
  pub good : accepted h t ≡ true

pub carried : (c : Call) (h : Head) (t : List Record) (time : ℕ) (d : List ℕ) → Done (called c h t time d) → Carried c h t time d
unfolding called settled pick
carried c h t time d done =
    let z : first (order (asked c h t time d)) ≡ 0 = sym (first_answered c h t time d) ∙ done in
    let f = eq-eqb (first (order (asked c h t time d))) 0 z in
    let m : (step_in c h t time d).answer.number ≡ 0 = sym (settled_number (step_in c h t time d) h time) ∙ (rw f at done) in
    let g = eq-eqb (step_in c h t time d).answer.number 0 m in
    let y = by (eqb n 0) refl z in
    record {
      number = m;
      head = rw (f, g) refl;
      answer = rw (f, g) refl;
      event = rw (f, g) refl;
      table = rw f refl;
      out = rw f refl;
      there = placed c h t time d y;
      good = (fine_by c h t time d y).table;
    }
  where
    n : ℕ
    n = before h t time (length d) (carried_by c) (place_of c t)

    by : (b : Bool) → eqb n 0 ≡ b → first (order (asked c h t time d)) ≡ 0 → T (eqb n 0)
    by true e z = rw e tt
    by false e z = absurd (eqb-false n 0 e (sym (refused_answered c h t time d (rw e tt)) ∙ z))

-- a call is done where nothing in the order refuses it
pub done_by_holds : (c : Call) (h : Head) (t : List Record) (time : ℕ) (d : List ℕ) → accepted h t ≡ true → 244 ≤ length d → h.latest ≤ time → carried_by c ≡ true → place_of c t < length t
    → ((record_at t (place_of c t)).phase ≡ 6 → ⊥) → suited_to c (record_at t (place_of c t)) ≡ true → allowed_by c (record_at t (place_of c t)) ≡ true → Done (called c h t time d)
unfolding asked pick
done_by_holds c h t time d good room timely carried there live suited allowed =
    first_answered c h t time d
    ∙ rw (
      good,
      le-leb longest (length d) room,
      le-leb h.latest time timely,
      carried,
      lt-ltb (place_of c t) (length t) there,
      ne_eqb (record_at t (place_of c t)).phase 6 live,
      suited,
      allowed,
    ) refl
