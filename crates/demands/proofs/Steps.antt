-- One telegram between two ends, at the level of the steps: what an open end's step wrote is the writer's telegram, and the mirrored end that expects its
-- number judges it by its kind.
-- Assumes nothing.
use mathlib.Core.Path.{◌≡◌, refl, sym, ap, ◌∙◌}
use mathlib.Core.Bool.{false}
use mathlib.Core.List.{List, [], ◌∷◌, ◌++◌}
use Prim.Native.Nat.{ℕ, zero, suc}
use native.Mathlib.Omega.{arith}
use lib.ListN.{length, take, drop}
use borrow.Author.Tests.{eq-eqb, ne_eqb}
use Rattle.std.specs.Prelude.{Option}
use Rattle.ground.specs.Choice.{pick}
use Rattle.telegram.specs.Commands.{kind_of_command}
use Rattle.telegram.specs.Writers.{answer_of, left_by, unless}
use Rattle.telegram.specs.Writers.Outcome.{wrote}
use Rattle.telegram.specs.Check.{command_of, check_of, Passes}
use Rattle.telegram.specs.declared.Kind.{Kind}
use Rattle.link.specs.Records.{end_of}
use Rattle.link.specs.Times.{watch_over}
use Rattle.link.specs.Judged.{row_of, ruled, narrowed, expected_now, run_out, judged}
use Rattle.link.specs.Steps.{unless_step, unless_out, refused_step, writing_step, act_of, declared_by, received_refusal, received_of}
use Rattle.link.specs.declared.Record.{Record}
use Rattle.link.specs.declared.Step.{Step}
use Rattle.link.specs.declared.Event.{Event}
use Rattle.link.proofs.Facts.{by_the_table}
use Rattle.link.proofs.Answers.{answers}

-- the front of two lists put together
pub front : (a b : List ℕ) → take (length a) (a ++ b) ≡ a
front [] b = refl
front (x ∷ a) b = ap {B = List ℕ} (λ (r : List ℕ). x ∷ r) (front a b)

-- a step that writes x and was done: its record, its event, the telegram's length, and the buffer that begins with it and else is d
pub record Writes (x d : List ℕ) (q : Record) (kind : ℕ) (e : Event) (m : ℕ) (s : Step) (out : List ℕ) : Type 0 where
  pub none : m ≡ 0
  pub written : unless m x ≡ wrote x
  pub left : s.«record» ≡ q
  pub telegram : s.answer.telegram ≡ kind
  pub event : s.event ≡ e
  pub size : s.answer.length ≡ length x
  pub buffer : out ≡ x ++ drop (length x) d

pub writes : (n m : ℕ) (x d : List ℕ) (r q : Record) (kind : ℕ) (e : Event) → (unless_step n r (writing_step (answer_of (unless m x)) r q kind e)).answer.number ≡ 0
    → Writes x d q kind e m (unless_step n r (writing_step (answer_of (unless m x)) r q kind e)) (unless_out n d (left_by (unless m x) d))
unfolding pick writing_step refused_step
writes zero zero x d r q kind e z = record { none = refl; written = refl; left = refl; telegram = refl; event = refl; size = refl; buffer = refl }
writes zero (suc m) x d r q kind e z = let f = ne_eqb (suc m) 0 (λ y. omega arith) in let y : suc m ≡ 0 = (rw f at z) in absurd (omega arith)
writes (suc n) m x d r q kind e z = let f = ne_eqb (suc n) 0 (λ y. omega arith) in let y : suc n ≡ 0 = (rw f at z) in absurd (omega arith)

-- a received telegram that is not refused is judged and acted upon
pub taken_in : (q : Record) (b at random : ℕ) (i : Option ℕ) (u net e : List ℕ) → (received_of q b at random i u net e).answer.number ≡ 0
    → received_of q b at random i u net e ≡ act_of (judged q b at u) q b at random (declared_by i) u net e
unfolding received_of pick
taken_in q b at random i u net e z =
    let f = eq-eqb (received_refusal q b i u net e) 0 (sym (answers.by_received q b at random i u net e) ∙ z) in rw f refl

-- by an open record, in time: its kind's row
pub judged_open : (q : Record) (b at : ℕ) (u : List ℕ) (k : Kind) → q.phase ≡ 5 → watch_over q at ≡ false → check_of (end_of q b) q.expected u ≡ Passes
    → kind_of_command (command_of u) ≡ k → judged q b at u ≡ narrowed (ruled (row_of k) 5) q u
unfolding run_out expected_now watch_over end_of pick
judged_open q b at u k p w c e =
    by_the_table.passing q b at u (rw p w) (rw p c) ∙ ap (λ (x : Kind). narrowed (ruled (row_of x) q.phase) q u) e ∙ ap (λ (x : ℕ). narrowed (ruled (row_of k) x) q u) p
