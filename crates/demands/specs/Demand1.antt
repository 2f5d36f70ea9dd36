-- Demand 1: every public entry takes any table, head, buffer, number and telegram. What doesn't fit is refused with the first number in the scope's order, and a
-- refused call changes nothing. That no public function asks for anything (no `requires`) is looked up in the sources by .ci/no-requires; that each ends is
-- part of what it means to be proved.
-- Assumes nothing.
use Rattle.std.specs.Prelude.{◌≡◌, Bool, true, false, List, [], ◌∷◌, ◌⊎◌, ℕ, length, leb, Option}
use Rattle.telegram.specs.Layout.{longest, on_bus}
use Rattle.telegram.specs.Ends.{in_range}
use Rattle.telegram.specs.Writers.{Outcome, answer_of, left_by, connect_allowed, disconnect_allowed, data_allowed, writes_request, writes_confirm, writes_authentication, writes_acknowledgement, writes_disconnect, writes_idle, writes_data}
use Rattle.telegram.specs.Check.{check_of, answer_number}
use Rattle.telegram.specs.declared.End.{End}
use Rattle.link.specs.Steps.{open_of, open_out, close_of, close_out, send_of, send_out, received_of, received_out, tick_of, tick_out}
use Rattle.link.specs.Facts.{Answers}
use Rattle.link.specs.declared.Record.{Record}
use Rattle.node.specs.Refusals.{first}
use Rattle.node.specs.Calls.{Link}
use Rattle.node.specs.Facts.{FirstAnswered, RefusedChangesNothing, DoneSetsTheTime}

-- A step of one connection that is refused leaves record and buffer as they were.
pub record RefusedStepsChangeNothing : Type 0 where
  pub by_open : (r : Record) (own time random : ℕ) (i : Option ℕ) (net d : List ℕ) → ((open_of r own time random i net d).answer.number ≡ 0 → ⊥)
      → ((open_of r own time random i net d).«record» ≡ r) × (open_out r own random i net d ≡ d)
  pub by_close : (r : Record) (own type reason : ℕ) (text d : List ℕ) → ((close_of r own type reason text d).answer.number ≡ 0 → ⊥)
      → ((close_of r own type reason text d).«record» ≡ r) × (close_out r own type reason text d ≡ d)
  pub by_send : (r : Record) (own time low : ℕ) (net d : List ℕ) → ((send_of r own time low net d).answer.number ≡ 0 → ⊥)
      → ((send_of r own time low net d).«record» ≡ r) × (send_out r own low net d ≡ d)
  pub by_received : (r : Record) (own time random : ℕ) (i : Option ℕ) (t net d : List ℕ) → ((received_of r own time random i t net d).answer.number ≡ 0 → ⊥)
      → ((received_of r own time random i t net d).«record» ≡ r) × (received_out r own time random i t net d ≡ d)
  pub by_tick : (r : Record) (own time : ℕ) (d : List ℕ) → ((tick_of r own time d).answer.number ≡ 0 → ⊥)
      → ((tick_of r own time d).«record» ≡ r) × (tick_out r own time d ≡ d)

-- The order in which a writer answers: 1 an end out of range, 4 a buffer without room for the longest telegram, 5 a value not allowed.
abbrev pub writers_order : End → List ℕ → Bool → List (ℕ × Bool)
writers_order e d allowed = (1, in_range e) ∷ (4, leb longest (length d)) ∷ (5, allowed) ∷ []

-- A writer answers the first in that order, and where that is not 0 it leaves its buffer as it was.
pub record AnswersInOrder (o : Outcome) (e : End) (d : List ℕ) (allowed : Bool) : Type 0 where
  pub first_in_the_order : (answer_of o).answer ≡ first (writers_order e d allowed)
  pub refused_changes_nothing : ((answer_of o).answer ≡ 0 → ⊥) → left_by o d ≡ d

-- So do all seven.
pub record WritersAnswerInOrder : Type 0 where
  pub request : (e : End) (random time : ℕ) (net d : List ℕ) → AnswersInOrder (writes_request e random time net d) e d (connect_allowed time (length net) e.level)
  pub confirm : (e : End) (random time : ℕ) (net d : List ℕ) → AnswersInOrder (writes_confirm e random time net d) e d (connect_allowed time (length net) e.level)
  pub authentication : (e : End) (number received : ℕ) (d : List ℕ) → AnswersInOrder (writes_authentication e number received d) e d true
  pub acknowledgement : (e : End) (number received : ℕ) (d : List ℕ) → AnswersInOrder (writes_acknowledgement e number received d) e d true
  pub disconnect : (e : End) (number type reason : ℕ) (text d : List ℕ)
      → AnswersInOrder (writes_disconnect e number type reason text d) e d (disconnect_allowed type reason (length text) e.level)
  pub idle : (e : End) (number : ℕ) (d : List ℕ) → AnswersInOrder (writes_idle e number d) e d true
  pub data_telegram_holds : (e : End) (number low : ℕ) (net d : List ℕ) → AnswersInOrder (writes_data e number low net d) e d (data_allowed low (length net) e.level)

-- The check answers 1 for an end out of range, then 6 for a telegram that the bus doesn't carry; else it passes (0) or fails (100).
pub record CheckAnswersInOrder : Type 0 where
  pub out_of_range : (e : End) (expected : ℕ) (t : List ℕ) → in_range e ≡ false → answer_number (check_of e expected t) ≡ 1
  pub not_carried : (e : End) (expected : ℕ) (t : List ℕ) → in_range e ≡ true → on_bus (length t) ≡ false → answer_number (check_of e expected t) ≡ 6
  pub else : (e : End) (expected : ℕ) (t : List ℕ) → in_range e ≡ true → on_bus (length t) ≡ true
      → (answer_number (check_of e expected t) ≡ 0) ⊎ (answer_number (check_of e expected t) ≡ 100)

-- The five calls of a link: the number answered, and what a refused and a done call leave of the head.
pub record Demand1 (link : Link) : Type 0 where
  pub first_in_the_order : FirstAnswered link
  pub refused_changes_nothing : RefusedChangesNothing link
  pub done_sets_the_time : DoneSetsTheTime link

-- The other entries: the five steps of one connection, the seven writers, the check.
pub record Demand1Below : Type 0 where
  pub steps_answer : Answers
  pub refused_steps_change_nothing : RefusedStepsChangeNothing
  pub writers_answer_in_order : WritersAnswerInOrder
  pub check_answers_in_order : CheckAnswersInOrder
