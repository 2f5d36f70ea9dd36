-- What is shown of the steps. proofs/Facts.antt proves each statement under the same name in snake case.
-- Assumes nothing.
use Rattle.std.specs.Prelude.{◌≡◌, ℕ, ◌+◌, ◌≤◌, Bool, true, false, List, [], ◌∷◌, ◌≢◌, nat_le, slice_index_or, Option, Some, None}
use Rattle.ground.specs.Choice.{pick}
use Rattle.telegram.specs.Commands.{kind_of_command}
use Rattle.telegram.specs.Layout.{most}
use Rattle.telegram.specs.Fields.{idle_time_of}
use Rattle.telegram.specs.Writers.{left_by, connect_allowed, writes_disconnect}
use Rattle.telegram.specs.Writers.Outcome.{wrote}
use Rattle.telegram.specs.Facts.{Taken}
use Rattle.telegram.specs.declared.Kind.TheVariants.{Request, Disconnect}
use Rattle.telegram.specs.Check.{command_of, check_of, Passes, Failed}
use Rattle.telegram.specs.declared.Clause.{Clause}
use Rattle.link.specs.Records.{end_of, at_rest, record_in_range, closed_by}
use Rattle.link.specs.Times.{wait_over, watch_over, idle_due}
use Rattle.link.specs.Table.{Row, cell, reading, otherwise, Timeout-snd, Timeout-rcv, Timeout-brk, Incorrect-rcv-1st}
use Rattle.link.specs.Judged.{row_of, ruled, narrowed, expected_now, run_out, judged, ticked}
use Rattle.link.specs.declared.Verdict.TheVariants.{Confirm, Close}
use Rattle.link.specs.Steps.{declared_by, act_out, open_refusal, open_of, open_out, close_refusal, close_of, send_refusal, send_of, received_refusal, received_of, received_out, tick_refusal, tick_of}
use Rattle.link.specs.Plain.{idle_time_by}
use Rattle.link.specs.declared.Record.{Record}

-- The same connection: partner address, SAPs and level.
pub record Same (r q : Record) : Type 0 where
  pub partner : q.partner ≡ r.partner
  pub partner_sap : q.partner_sap ≡ r.partner_sap
  pub local_sap : q.local_sap ≡ r.local_sap
  pub level : q.level ≡ r.level

-- No step changes partner address, SAPs or level.
pub record SameConnection : Type 0 where
  pub by_open : (r : Record) (own time random : ℕ) (i : Option ℕ) (net d : List ℕ) → Same r (open_of r own time random i net d).«record»
  pub by_close : (r : Record) (own type reason : ℕ) (text d : List ℕ) → Same r (close_of r own type reason text d).«record»
  pub by_send : (r : Record) (own time low : ℕ) (net d : List ℕ) → Same r (send_of r own time low net d).«record»
  pub by_received : (r : Record) (own time random : ℕ) (i : Option ℕ) (t net d : List ℕ) → Same r (received_of r own time random i t net d).«record»
  pub by_tick : (r : Record) (own time : ℕ) (d : List ℕ) → Same r (tick_of r own time d).«record»

-- A finally closed record changes in no step.
pub record FinalStays : Type 0 where
  pub by_open : (r : Record) (own time random : ℕ) (i : Option ℕ) (net d : List ℕ) → r.phase ≡ 6 → (open_of r own time random i net d).«record» ≡ r
  pub by_close : (r : Record) (own type reason : ℕ) (text d : List ℕ) → r.phase ≡ 6 → (close_of r own type reason text d).«record» ≡ r
  pub by_send : (r : Record) (own time low : ℕ) (net d : List ℕ) → r.phase ≡ 6 → (send_of r own time low net d).«record» ≡ r
  pub by_received : (r : Record) (own time random : ℕ) (i : Option ℕ) (t net d : List ℕ) → r.phase ≡ 6 → (received_of r own time random i t net d).«record» ≡ r
  pub by_tick : (r : Record) (own time : ℕ) (d : List ℕ) → r.phase ≡ 6 → (tick_of r own time d).«record» ≡ r

-- A record that the rules accept stays one that the rules accept.
pub record StaysAccepted : Type 0 where
  pub by_open : (r : Record) (own time random : ℕ) (i : Option ℕ) (net d : List ℕ) → record_in_range r own ≡ true
      → record_in_range (open_of r own time random i net d).«record» own ≡ true
  pub by_close : (r : Record) (own type reason : ℕ) (text d : List ℕ) → record_in_range r own ≡ true
      → record_in_range (close_of r own type reason text d).«record» own ≡ true
  pub by_send : (r : Record) (own time low : ℕ) (net d : List ℕ) → record_in_range r own ≡ true → record_in_range (send_of r own time low net d).«record» own ≡ true
  pub by_received : (r : Record) (own time random : ℕ) (i : Option ℕ) (t net d : List ℕ) → record_in_range r own ≡ true
      → record_in_range (received_of r own time random i t net d).«record» own ≡ true
  pub by_tick : (r : Record) (own time : ℕ) (d : List ℕ) → record_in_range r own ≡ true → record_in_range (tick_of r own time d).«record» own ≡ true

-- A step answers its first refusal, and where there is none it is done: what the step lets through, no writer below it refuses.
pub record Answers : Type 0 where
  pub by_open : (r : Record) (own time random : ℕ) (i : Option ℕ) (net d : List ℕ) → (open_of r own time random i net d).answer.number ≡ open_refusal r own i net d
  pub by_close : (r : Record) (own type reason : ℕ) (text d : List ℕ) → (close_of r own type reason text d).answer.number ≡ close_refusal r own type reason text d
  pub by_send : (r : Record) (own time low : ℕ) (net d : List ℕ) → (send_of r own time low net d).answer.number ≡ send_refusal r own low net d
  pub by_received : (r : Record) (own time random : ℕ) (i : Option ℕ) (t net d : List ℕ)
      → (received_of r own time random i t net d).answer.number ≡ received_refusal r own i t net d
  pub by_tick : (r : Record) (own time : ℕ) (d : List ℕ) → (tick_of r own time d).answer.number ≡ tick_refusal r own d

-- The timers of a record are not later than a time.
pub record Timers (time : ℕ) (r : Record) : Type 0 where
  pub sent_at_holds : r.sent_at ≤ time
  pub taken_at : r.taken_at ≤ time

-- No step sets a timer later than its own time.
pub record TimersKept : Type 0 where
  pub by_open : (r : Record) (own time random : ℕ) (i : Option ℕ) (net d : List ℕ) → Timers time r → Timers time (open_of r own time random i net d).«record»
  pub by_close : (r : Record) (own time type reason : ℕ) (text d : List ℕ) → Timers time r → Timers time (close_of r own type reason text d).«record»
  pub by_send : (r : Record) (own time low : ℕ) (net d : List ℕ) → Timers time r → Timers time (send_of r own time low net d).«record»
  pub by_received : (r : Record) (own time random : ℕ) (i : Option ℕ) (t net d : List ℕ) → Timers time r
      → Timers time (received_of r own time random i t net d).«record»
  pub by_tick : (r : Record) (own time : ℕ) (d : List ℕ) → Timers time r → Timers time (tick_of r own time d).«record»

-- A disconnect that a closing writes carries the number from before it: the mirrored end that expects that number takes it, with its type and reason.
abbrev pub DisconnectBeforeClosing : Type 0
DisconnectBeforeClosing =
    (r : Record) (own random declared reason : ℕ) (last : Bool) (t net d u : List ℕ)
    → writes_disconnect (end_of r own) r.sending (pick last 0 1) reason [] d ≡ wrote u
    → (act_out (Close reason last) r own random declared t net d ≡ left_by (wrote u) d)
    × Taken (end_of r own) r.sending u Disconnect (pick last 0 1 ∷ reason ∷ []) []

-- A closed record, finally or not, has its numbers, idle times and timers at 0.
abbrev pub ClosedAtRest : Type 0
ClosedAtRest = (r : Record) (last : Bool) → at_rest (closed_by last r) ≡ true

-- The connect telegram at the front of a buffer carries 1,000: bytes 7 and 8 (5.2.1.3, 5.2.2.2) are E8h 03h, lowest first (5.1.1.6), and are read back so.
pub record Carries1000 (out : List ℕ) : Type 0 where
  pub byte_7 : slice_index_or out 6 0 ≡ 0xE8
  pub byte_8 : slice_index_or out 7 0 ≡ 0x03
  pub read_back : idle_time_of out ≡ 1000

-- An opening or a confirm that names no idle time declares 1,000 (change request e); a time that is named is declared, 0 too. Of C the flag 0 names none,
-- whatever number stands beside it, and any other flag names that number. None named is never the cause of answer 5. And 1,000 goes out: in the request of every
-- opening that is done, and in the confirm of every request that is confirmed.
pub record Unnamed : Type 0 where
  pub declares : declared_by None ≡ 1000
  pub named : (time : ℕ) → declared_by (Some time) ≡ time
  pub flag_0 : (beside : ℕ) → idle_time_by 0 beside ≡ None
  pub flag_else : (flag time : ℕ) → (flag ≢ 0) → idle_time_by flag time ≡ Some time
  pub never_refused : (count l : ℕ) → connect_allowed (declared_by None) count l ≡ nat_le count (most Request l)
  pub written : (r : Record) (own time random : ℕ) (net d : List ℕ) → (open_of r own time random None net d).answer.number ≡ 0
      → Carries1000 (open_out r own random None net d)
  pub confirmed : (r : Record) (own time random : ℕ) (t net d : List ℕ) → judged r own time t ≡ Confirm
      → (received_of r own time random None t net d).answer.number ≡ 0 → Carries1000 (received_out r own time random None t net d)

-- Waits: 5,000 ms after our last sending is in time, 5,001 is not.
pub record Waits : Type 0 where
  pub in_time : (r : Record) → wait_over r (r.sent_at + 5000) ≡ false
  pub too_late_holds : (r : Record) → wait_over r (r.sent_at + 5001) ≡ true

-- The watch uses the partner's idle time: a gap equal to it is allowed, one more is not, and 0 means no watch.
pub record Watch : Type 0 where
  pub in_time : (r : Record) → watch_over r (r.taken_at + r.watched) ≡ false
  pub too_late_holds : (r : Record) → (r.watched ≢ 0) → watch_over r (r.taken_at + (r.watched + 1)) ≡ true
  pub none : (r : Record) (time : ℕ) → r.watched ≡ 0 → watch_over r time ≡ false

-- Every cell but those of the second list is read as printed.
abbrev pub AsPrinted : Type 0
AsPrinted = (row : Row) (p : ℕ) → 1 ≤ p → p ≤ 6 → otherwise row p ≡ false → reading row p ≡ cell row p

-- What is asked for is what the cell of the row and the phase says.
pub record ByTheTable : Type 0 where
  -- a telegram that comes in time and passes the check: its kind's row, narrowed where the table leaves version or authentication number open
  pub passing : (r : Record) (own time : ℕ) (t : List ℕ) → run_out r time ≡ false → check_of (end_of r own) (expected_now r) t ≡ Passes
      → judged r own time t ≡ narrowed (ruled (row_of (kind_of_command (command_of t))) r.phase) r t
  -- one that comes in time and fails it, whichever clause
  pub failing : (r : Record) (own time : ℕ) (t : List ℕ) (c : Clause) → run_out r time ≡ false → check_of (end_of r own) (expected_now r) t ≡ Failed c
      → judged r own time t ≡ ruled Incorrect-rcv-1st r.phase
  -- a wait that ran out, on a telegram or a tick
  pub waited : (r : Record) (own time : ℕ) (t : List ℕ) → (r.phase ≢ 5) → run_out r time ≡ true
      → (judged r own time t ≡ ruled Timeout-brk r.phase) × (ticked r time ≡ ruled Timeout-brk r.phase)
  -- the watch of an open connection that ran out
  pub silent : (r : Record) (own time : ℕ) (t : List ℕ) → r.phase ≡ 5 → run_out r time ≡ true
      → (judged r own time t ≡ ruled Timeout-rcv 5) × (ticked r time ≡ ruled Timeout-rcv 5)
  -- an idle telegram that is due
  pub due : (r : Record) (time : ℕ) → r.phase ≡ 5 → run_out r time ≡ false → idle_due r time ≡ true → ticked r time ≡ ruled Timeout-snd 5
