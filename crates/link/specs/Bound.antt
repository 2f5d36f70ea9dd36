-- What the table says is what is done: after a step the connection is in the next state of its cell, and the step has done what the cell's action says (5.5.1.2
-- to 5.5.1.5). Said of any table: that none with another next state binds the steps is shown in crates/wrong. proofs/Bound.antt proves the statement under the same name in small
-- letters.
-- Assumes nothing.
use Rattle.std.specs.Prelude.{◌≡◌, ℕ, Bool, true, false, List, [], ◌∷◌, ◌++◌, length, drop, ◌==◌, ◌≢◌, nat_le, Option}
use Rattle.ground.specs.Choice.{pick, all}
use Rattle.telegram.specs.Commands.{kind_of_command}
use Rattle.telegram.specs.Fields.{type_of}
use Rattle.telegram.specs.Telegrams as telegrams
use Rattle.telegram.specs.Check.{command_of, check_of, Passes, Failed}
use Rattle.telegram.specs.declared.End.{End}
use Rattle.telegram.specs.declared.Kind.{Kind}
use Rattle.telegram.specs.declared.Kind.TheVariants as kind
use Rattle.telegram.specs.declared.Clause.{Clause}
use Rattle.link.specs.Records.{end_of}
use Rattle.link.specs.Times.{idle_due}
use Rattle.link.specs.Table.{Action, Next, Cell, Row, ◌⇒◌, reading, f00, f01, f02, f03, f04, f05, f06, f07, f08, f09, f10, f11, f12, f13, stays, idle, wConAck, wAuthReq, wAuthAck, opens, defect, Connect-snd, Data-snd, Timeout-snd, Timeout-rcv, Timeout-brk, Incorrect-rcv-1st, Incorrect-rcv-2nd, Discon-snd, FDiscon-snd}
use Rattle.link.specs.Judged.{row_of, good_version, good_number, expected_now, run_out}
use Rattle.link.specs.Steps.{open_of, open_out, close_of, close_out, send_of, send_out, received_of, received_out, tick_of, tick_out}
use Rattle.link.specs.Facts.{AsPrinted}
use Rattle.link.specs.declared.Record.{Record}
use Rattle.link.specs.declared.Step.{Step}
use Rattle.link.specs.declared.Event.{Event}
use Rattle.link.specs.declared.Event.TheVariants as event

-- The phase that a next state names (5.5.1.2), by its number (Records.antt).
abbrev pub leads : Next → ℕ → ℕ
leads stays p = p
leads idle p = 1
leads wConAck p = 2
leads wAuthReq p = 3
leads wAuthAck p = 4
leads opens p = 5
leads defect p = 6

-- What an action sends.
pub data Sent : Type 0 where
  none connectRequest connectConfirm authentication acknowledgement data_telegram idleTelegram disconnect finalDisconnect : Sent

-- The number with which an answer names it.
abbrev pub number_of : Sent → ℕ
number_of none = 0
number_of connectRequest = 1
number_of connectConfirm = 2
number_of authentication = 3
number_of acknowledgement = 4
number_of disconnect = 5
number_of finalDisconnect = 5
number_of idleTelegram = 6
number_of data_telegram = 7

-- A telegram stands at the front of the buffer o, which behind it is as d was.
abbrev pub Front : List ℕ → List ℕ → List ℕ → Type 0
Front t d o = o ≡ t ++ drop (length t) d

-- It stands there, of the end e and under the number n; a connect request or confirm has a random number of its own, and a disconnect is final where its type is
-- 0 (5.2.5.3).
abbrev pub Stands : Sent → End → ℕ → List ℕ → List ℕ → Type 0
Stands none e n d o = o ≡ d
Stands connectRequest e n d o = (random : ℕ) × (time : ℕ) × (net : List ℕ) × Front (telegrams.request e random time net) d o
Stands connectConfirm e n d o = (random : ℕ) × (time : ℕ) × (net : List ℕ) × Front (telegrams.confirm e random time net) d o
Stands authentication e n d o = (received : ℕ) × Front (telegrams.authentication e n received) d o
Stands acknowledgement e n d o = (received : ℕ) × Front (telegrams.acknowledgement e n received) d o
Stands data_telegram e n d o = (low : ℕ) × (net : List ℕ) × Front (telegrams.data_telegram e n low net) d o
Stands idleTelegram e n d o = Front (telegrams.idle e n) d o
Stands disconnect e n d o = (reason : ℕ) × (text : List ℕ) × Front (telegrams.disconnect e n 1 reason text) d o
Stands finalDisconnect e n d o = (reason : ℕ) × (text : List ℕ) × Front (telegrams.disconnect e n 0 reason text) d o

-- What an action does: what it sends; whether it passes data to the application; whether it triggers a timer of our sending (acknowledgement timeout, idle
-- cycle interval), and the one of the partner's (idle cycle timeout).
pub record Doing : Type 0 where
  pub sends : Sent
  pub passes : Bool
  pub sending : Bool
  pub taking : Bool

abbrev does : Sent → Bool → Bool → Bool → Doing
does x passes sending taking = record { sends = x; passes = passes; sending = sending; taking = taking }

-- 5.5.1.4, row by row. f_11 and f_13 save a time besides, for which the record has no place.
abbrev pub doing : Action → Doing
doing f00 = does none false false false
doing f01 = does connectRequest false true false
doing f02 = does connectConfirm false true false
doing f03 = does authentication false true false
doing f04 = does acknowledgement false true true
doing f05 = does data_telegram false true false
doing f06 = does idleTelegram false true false
doing f07 = does disconnect false false false
doing f08 = does finalDisconnect false false false
doing f09 = does none true false true
doing f10 = does none false false true
doing f11 = does disconnect false false false
doing f12 = does none false false true
doing f13 = does none false false false

-- An event that hands data up.
abbrev pub hands_up : Event → Bool
hands_up event.Nothing = false
hands_up event.Opened = false
hands_up (event.Data low start count) = true
hands_up (event.Closed reason last) = false

-- A step s on the record r, at a time, has done this, and left the buffer d as o.
pub record Done (x : Doing) (r : Record) (own time : ℕ) (d : List ℕ) (s : Step) (o : List ℕ) : Type 0 where
  pub named : s.answer.telegram ≡ number_of x.sends
  pub stands : Stands x.sends (end_of r own) r.sending d o
  pub handed : hands_up s.event ≡ x.passes
  pub sending : x.sending ≡ true → s.«record».sent_at ≡ time
  pub taking : x.taking ≡ true → s.«record».taken_at ≡ time

-- It has done what the cell says.
pub record Obeys (c : Cell) (r : Record) (own time : ℕ) (d : List ℕ) (s : Step) (o : List ℕ) : Type 0 where
  pub next : s.«record».phase ≡ leads c.next r.phase
  pub action : Done (doing c.action) r own time d s o

-- The answers that the phase decides: 0 done, 3 a phase that the step is not for, 8 finally closed. The others are about record, buffer, telegram or values.
abbrev pub of_phase : ℕ → Bool
of_phase n = pick (n == 0) true (pick (n == 3) true (n == 8))

abbrev pub Keeps : Cell → Record → ℕ → ℕ → List ℕ → Step → List ℕ → Type 0
Keeps c r own time d s o = of_phase s.answer.number ≡ true → Obeys c r own time d s o

-- The exceptions, of a telegram t of kind k that passes the check, in the phase p: what holds instead of the cell c where t says what the table does not know.
abbrev pub instead : Kind → ℕ → Record → List ℕ → Cell → Cell
-- a request of another version is dropped (8.1.2)
instead kind.Request p r t c = pick (p == 1) (pick (good_version t) c (f00 ⇒ stays)) c
-- a confirm of another version closes finally (5.2.5.8.2)
instead kind.Confirm p r t c = pick (p == 2) (pick (good_version t) c (f08 ⇒ defect)) c
-- so does an authentication number that is not ours, changed as the level asks (5.1.4, 5.2.5.8.3)
instead kind.Authentication p r t c = pick (p == 3) (pick (good_number r 1 t) c (f08 ⇒ defect)) c
instead kind.Acknowledgement p r t c = pick (p == 4) (pick (good_number r 2 t) c (f08 ⇒ defect)) c
-- a disconnect whose type is final closes finally, where there is something to close (5.2.5.3, 5.2.5.5)
instead kind.Disconnect p r t c = pick (all (nat_le 2 p ∷ nat_le p 5 ∷ (type_of t == 0) ∷ [])) (f00 ⇒ defect) c
instead kind.Idle p r t c = c
instead kind.Data p r t c = c
instead kind.Unknown p r t c = c

-- The timers of 5.5.1.3, each with its row and the phases in which it runs: idle cycle interval and timeout on an open connection, the acknowledgement timeout
-- while something is awaited.
pub data Timer : Type 0 where
  interval watch wait : Timer

abbrev pub row_of_timer : Timer → Row
row_of_timer interval = Timeout-snd
row_of_timer watch = Timeout-rcv
row_of_timer wait = Timeout-brk

abbrev pub runs : Timer → ℕ → Bool
runs interval p = p == 5
runs watch p = p == 5
runs wait p = all (nat_le 2 p ∷ nat_le p 4 ∷ [])

-- The steps do what this table says, event by event (5.5.1.3) and in every phase.
pub record TableBinds (table : Row → ℕ → Cell) : Type 0 where
  pub connect_snd : (r : Record) (own time random : ℕ) (i : Option ℕ) (net d : List ℕ)
      → Keeps (table Connect-snd r.phase) r own time d (open_of r own time random i net d) (open_out r own random i net d)
  pub data_snd : (r : Record) (own time low : ℕ) (net d : List ℕ)
      → Keeps (table Data-snd r.phase) r own time d (send_of r own time low net d) (send_out r own low net d)
  -- 5.2.5.3: type 1, a new set-up is desired; 0, it is final
  pub discon_snd : (r : Record) (own time reason : ℕ) (text d : List ℕ)
      → Keeps (table Discon-snd r.phase) r own time d (close_of r own 1 reason text d) (close_out r own 1 reason text d)
  pub fdiscon_snd : (r : Record) (own time reason : ℕ) (text d : List ℕ)
      → Keeps (table FDiscon-snd r.phase) r own time d (close_of r own 0 reason text d) (close_out r own 0 reason text d)
  -- a telegram that comes in time and passes the check: its kind's row
  pub passing : (r : Record) (own time random : ℕ) (i : Option ℕ) (t net d : List ℕ) → run_out r time ≡ false
      → check_of (end_of r own) (expected_now r) t ≡ Passes
      → Keeps (instead (kind_of_command (command_of t)) r.phase r t (table (row_of (kind_of_command (command_of t))) r.phase)) r own time d
      (received_of r own time random i t net d) (received_out r own time random i t net d)
  -- one that comes in time and fails it, the first and any other
  pub failing : (r : Record) (own time random : ℕ) (i : Option ℕ) (t net d : List ℕ) (c : Clause) → run_out r time ≡ false
      → check_of (end_of r own) (expected_now r) t ≡ Failed c
      → Keeps (table Incorrect-rcv-1st r.phase) r own time d (received_of r own time random i t net d) (received_out r own time random i t net d)
      × Keeps (table Incorrect-rcv-2nd r.phase) r own time d (received_of r own time random i t net d) (received_out r own time random i t net d)
  -- a wait that ran out, seen by a telegram or a tick
  pub waited : (r : Record) (own time random : ℕ) (i : Option ℕ) (t net d : List ℕ) → (r.phase ≢ 5) → run_out r time ≡ true
      → Keeps (table Timeout-brk r.phase) r own time d (received_of r own time random i t net d) (received_out r own time random i t net d)
      × Keeps (table Timeout-brk r.phase) r own time d (tick_of r own time d) (tick_out r own time d)
  -- the watch of an open connection that ran out
  pub silent : (r : Record) (own time random : ℕ) (i : Option ℕ) (t net d : List ℕ) → r.phase ≡ 5 → run_out r time ≡ true
      → Keeps (table Timeout-rcv r.phase) r own time d (received_of r own time random i t net d) (received_out r own time random i t net d)
      × Keeps (table Timeout-rcv r.phase) r own time d (tick_of r own time d) (tick_out r own time d)
  -- an idle telegram that is due
  pub due : (r : Record) (own time : ℕ) (d : List ℕ) → r.phase ≡ 5 → run_out r time ≡ false → idle_due r time ≡ true
      → Keeps (table Timeout-snd r.phase) r own time d (tick_of r own time d) (tick_out r own time d)
  -- a tick with nothing run out and nothing due: the row of a timer that does not run
  pub resting : (k : Timer) (r : Record) (own time : ℕ) (d : List ℕ) → runs k r.phase ≡ false → run_out r time ≡ false
      → pick (r.phase == 5) (idle_due r time) false ≡ false
      → Keeps (table (row_of_timer k) r.phase) r own time d (tick_of r own time d) (tick_out r own time d)

-- The table as it is read binds the steps, and is the printed one but for the cells of the second list.
pub record TableBound : Type 0 where
  pub binds : TableBinds reading
  pub printed : AsPrinted
