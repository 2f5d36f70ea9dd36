-- Demand 1, by the facts of the calls and of the steps.
-- Assumes nothing.
use mathlib.Core.Path.{◌≡◌, refl, ◌∙◌}
use mathlib.Core.Bool.{Bool, true, false}
use mathlib.Core.List.{List, [], ◌∷◌}
use mathlib.Core.Logic.{◌⊎◌, inl, inr}
use Prim.Native.Nat.{ℕ, zero, suc}
use lib.ListN.{length}
use borrow.Author.Tests.{ne_eqb}
use Rattle.ground.specs.Choice.{pick}
use Rattle.telegram.specs.Writers.{Outcome, answer_of, left_by, refusal, unless, writes_request, writes_confirm, writes_authentication, writes_acknowledgement, writes_disconnect, writes_idle, writes_data}
use Rattle.telegram.specs.Writers.Outcome.{refused, wrote}
use Rattle.telegram.specs.Check.{clauses, first_failing, check_of, answer_number}
use Rattle.telegram.specs.declared.End.{End}
use Rattle.telegram.specs.declared.Clause.{Clause}
use Rattle.link.specs.Steps.{refused_step, open_refusal, open_of, open_out, close_refusal, close_of, close_out, send_refusal, send_of, send_out, received_refusal, received_of, received_out, tick_refusal, tick_of, tick_out}
use Rattle.link.proofs.Answers.{answers}
use Rattle.node.specs.Calls.{called}
use Rattle.node.proofs.Facts.{first_answered, refused_changes_nothing, done_sets_the_time}
use Rattle.demands.specs.Demand1.{RefusedStepsChangeNothing, AnswersInOrder, WritersAnswerInOrder, CheckAnswersInOrder, Demand1, Demand1Below}

pub refused_steps_change_nothing : RefusedStepsChangeNothing
unfolding open_of open_out close_of close_out send_of send_out received_of received_out tick_of tick_out refused_step pick
refused_steps_change_nothing =
    record {
      by_open = λ r own time random i net d other. rw (ne_eqb (open_refusal r own i net d) 0 (λ z. other (answers.by_open r own time random i net d ∙ z))) (refl, refl);
      by_close = λ r own type reason text d other. rw (ne_eqb (close_refusal r own type reason text d) 0 (λ z. other (answers.by_close r own type reason text d ∙ z))) (refl, refl);
      by_send = λ r own time low net d other. rw (ne_eqb (send_refusal r own low net d) 0 (λ z. other (answers.by_send r own time low net d ∙ z))) (refl, refl);
      by_received = λ r own time random i t net d other. rw (ne_eqb (received_refusal r own i t net d) 0 (λ z. other (answers.by_received r own time random i t net d ∙ z))) (refl, refl);
      by_tick = λ r own time d other. rw (ne_eqb (tick_refusal r own d) 0 (λ z. other (answers.by_tick r own time d ∙ z))) (refl, refl);
    }

-- what a writer answers, and that it leaves its buffer where it writes nothing
left_alone : (o : Outcome) (d : List ℕ) → ((answer_of o).answer ≡ 0 → ⊥) → left_by o d ≡ d
left_alone (refused n) d other = refl
left_alone (wrote t) d other = absurd (other refl)

answered : (n : ℕ) (t : List ℕ) → (answer_of (unless n t)).answer ≡ n
answered zero t = refl
answered (suc n) t = refl

in_order : (e : End) (d t : List ℕ) (allowed : Bool) → AnswersInOrder (unless (refusal e (length d) allowed) t) e d allowed
unfolding refusal
in_order e d t allowed = record { first_in_the_order = answered (refusal e (length d) allowed) t; refused_changes_nothing = left_alone (unless (refusal e (length d) allowed) t) d }

pub writers_answer_in_order : WritersAnswerInOrder
unfolding writes_request writes_confirm writes_authentication writes_acknowledgement writes_disconnect writes_idle writes_data
writers_answer_in_order =
    record {
      request = λ e random time net d. in_order e d _ _;
      confirm = λ e random time net d. in_order e d _ _;
      authentication = λ e number received d. in_order e d _ _;
      acknowledgement = λ e number received d. in_order e d _ _;
      disconnect = λ e number type reason text d. in_order e d _ _;
      idle = λ e number d. in_order e d _ _;
      data_telegram_holds = λ e number low net d. in_order e d _ _;
    }

passes_or_fails : (cs : List (Bool × Clause)) → (answer_number (first_failing cs) ≡ 0) ⊎ (answer_number (first_failing cs) ≡ 100)
unfolding pick
passes_or_fails [] = inl refl
passes_or_fails ((true, c) ∷ cs) = passes_or_fails cs
passes_or_fails ((false, c) ∷ cs) = inr refl

pub check_answers_in_order : CheckAnswersInOrder
unfolding check_of pick
check_answers_in_order =
    record {
      out_of_range = λ e expected t out. rw out refl;
      not_carried = λ e expected t in_range_holds out. rw (in_range_holds, out) refl;
      else = λ e expected t in_range_holds carried. rw (in_range_holds, carried) (passes_or_fails (clauses e expected t));
    }

pub demand_1 : Demand1 called
demand_1 = record { first_in_the_order = first_answered; refused_changes_nothing = refused_changes_nothing; done_sets_the_time = done_sets_the_time }

pub demand_1_below : Demand1Below
demand_1_below =
    record {
      steps_answer = answers;
      refused_steps_change_nothing = refused_steps_change_nothing;
      writers_answer_in_order = writers_answer_in_order;
      check_answers_in_order = check_answers_in_order;
    }
