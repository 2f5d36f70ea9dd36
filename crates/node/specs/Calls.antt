-- The five calls: the outcome, the table and the buffer that each leaves, for all inputs.
-- Assumes nothing.
use Rattle.std.specs.Prelude.{◌≡◌, Bool, true, List, ℕ, length, set, leb, ltb, eqb, Option}
use Rattle.std.proofs.Common.{MutBor}
use Rattle.ground.specs.Choice.{pick}
use Rattle.telegram.specs.Layout.{longest, on_bus}
use Rattle.telegram.specs.Writers.{connect_allowed, disconnect_allowed, data_allowed}
use Rattle.link.specs.Steps.{neb, declared_by, open_of, open_out, close_of, close_out, send_of, send_out, received_of, received_out, tick_of, tick_out}
use Rattle.link.specs.declared.Record.{Record}
use Rattle.link.specs.declared.Step.{Step}
use Rattle.link.specs.declared.Event.TheVariants.{Nothing}
use Rattle.node.specs.declared.Head.{Head}
use Rattle.node.specs.declared.Route.{Route}
use Rattle.node.specs.declared.Outcome.{Outcome}
use Rattle.node.specs.Heads.{at}
use Rattle.node.specs.Accepted.{record_at, accepted}
use Rattle.node.specs.Matching.{first_match}
use Rattle.node.specs.Refusals.{Asked, order, first}

-- The calls, with what each is given beside table, head, time and buffer. A place is a record's number in the table.
pub data Call : Type 0 where
  -- place, random number, idle time, net data
  Open : ℕ → ℕ → Option ℕ → List ℕ → Call
  -- place, type, reason, text
  Close : ℕ → ℕ → ℕ → List ℕ → Call
  -- place, command's low six bits, net data
  Send : ℕ → ℕ → List ℕ → Call
  -- what it was sent under, random number and idle time for a possible confirm, telegram, net data for a possible confirm
  Received : Route → ℕ → Option ℕ → List ℕ → List ℕ → Call
  -- place
  Tick : ℕ → Call

-- The record that a call is for: the one named, or the one that the telegram's route names.
abbrev pub place_of : Call → List Record → ℕ
place_of (Open place random i net) t = place
place_of (Close place type reason text) t = place
place_of (Send place low net) t = place
place_of (Received w random i telegram net) t = first_match w t
place_of (Tick place) t = place

-- 6: only a received telegram has a length to ask for.
abbrev pub carried_by : Call → Bool
carried_by (Open place random i net) = true
carried_by (Close place type reason text) = true
carried_by (Send place low net) = true
carried_by (Received w random i telegram net) = on_bus (length telegram)
carried_by (Tick place) = true

-- 3: open on a closed record, send on an open one, close on one not closed.
abbrev pub suited_to : Call → Record → Bool
suited_to (Open place random i net) r = eqb r.phase 1
suited_to (Close place type reason text) r = neb r.phase 1
suited_to (Send place low net) r = eqb r.phase 5
suited_to (Received w random i telegram net) r = true
suited_to (Tick place) r = true

-- 5: idle time and net data of a request; type, reason and text; command and net data; on receipt, idle time and net data of a possible confirm.
abbrev pub allowed_by : Call → Record → Bool
allowed_by (Open place random i net) r = connect_allowed (declared_by i) (length net) r.level
allowed_by (Close place type reason text) r = disconnect_allowed type reason (length text) r.level
allowed_by (Send place low net) r = data_allowed low (length net) r.level
allowed_by (Received w random i telegram net) r = connect_allowed (declared_by i) (length net) r.level
allowed_by (Tick place) r = true

-- What a call asks for, by the scope's table of numbers.
unfoldable pub asked : Call → Head → List Record → ℕ → List ℕ → Asked
asked c h t time d =
    record {
      table = accepted h t;
      room = leb longest (length d);
      timely = leb h.latest time;
      carried = carried_by c;
      placed = ltb (place_of c t) (length t);
      live = neb (record_at t (place_of c t)).phase 6;
      suited = suited_to c (record_at t (place_of c t));
      allowed = allowed_by c (record_at t (place_of c t));
    }

-- The step of the one record, and the buffer that it leaves.
abbrev pub step_of : Call → Record → ℕ → ℕ → List ℕ → Step
step_of (Open place random i net) r own time d = open_of r own time random i net d
step_of (Close place type reason text) r own time d = close_of r own type reason text d
step_of (Send place low net) r own time d = send_of r own time low net d
step_of (Received w random i telegram net) r own time d = received_of r own time random i telegram net d
step_of (Tick place) r own time d = tick_of r own time d

abbrev pub step_out : Call → Record → ℕ → ℕ → List ℕ → List ℕ
step_out (Open place random i net) r own time d = open_out r own random i net d
step_out (Close place type reason text) r own time d = close_out r own type reason text d
step_out (Send place low net) r own time d = send_out r own low net d
step_out (Received w random i telegram net) r own time d = received_out r own time random i telegram net d
step_out (Tick place) r own time d = tick_out r own time d

-- The outcome of a refused call: the head as it was.
unfoldable pub refused_outcome : ℕ → Head → Outcome
refused_outcome n h = record { head = h; answer = record { number = n; telegram = 0; length = 0 }; event = Nothing }

-- The outcome of a step: its answer and event, and its time as the latest.
unfoldable pub settled : Step → Head → ℕ → Outcome
settled s h time =
    pick (eqb s.answer.number 0) (record { head = at h time; answer = s.answer; event = s.event }) (refused_outcome s.answer.number h)

-- What a call leaves.
pub record Left : Type 0 where
  pub outcome : Outcome
  pub table : List Record
  pub out : List ℕ

-- A link is whatever leaves something at each call, under head, table, time and buffer. `called`, below, is ours. The statements about calls are said of any
-- link, so that they can be tried on wrong ones too.
abbrev pub Link : Type 0
Link = Call → Head → List Record → ℕ → List ℕ → Left

-- Refused with the number n, or, where that is 0, done: the step's record in its place, every other as it was.
abbrev pub leaves : ℕ → Head → List Record → ℕ → List ℕ → ℕ → Step → List ℕ → Left
leaves n h t time d place s e =
    pick (eqb n 0) (record { outcome = settled s h time; table = set t place s.«record»; out = e }) (record { outcome = refused_outcome n h; table = t; out = d })

-- Our link.
unfoldable pub called : Link
called c h t time d =
    leaves (first (order (asked c h t time d))) h t time d (place_of c t) (step_of c (record_at t (place_of c t)) h.own time d)
    (step_out c (record_at t (place_of c t)) h.own time d)

-- A function that takes the step of the call c: whatever it gives of a record and a buffer is what that step makes of them.
abbrev pub TakesStep : Call → ℕ → ℕ → (Record → MutBor (List ℕ) → Step → MutBor (List ℕ) → Type 0) → Type 0
TakesStep c own time gives =
    (r : Record) (before after : MutBor (List ℕ)) (s : Step) → gives r before s after
    → (s ≡ step_of c r own time before.now) × (after.now ≡ step_out c r own time before.now)
