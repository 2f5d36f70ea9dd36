-- The five steps over one record: the record after it, the answer, the event, and the buffer. A refused step leaves all as it was.
-- Assumes nothing.
use Rattle.std.specs.Prelude.{ℕ, ◌+◌, ◌%◌, ◌^◌, Bool, true, false, List, [], length, ◌==◌, nat_le, Option, unwrap_or}
use Rattle.ground.specs.Choice.{pick}
use Rattle.telegram.specs.Layout.{longest, on_bus}
use Rattle.telegram.specs.Fields.{random_of, idle_time_of, type_of, reason_of, low_of}
use Rattle.telegram.specs.Writers.{answer_of, left_by, connect_allowed, disconnect_allowed, data_allowed, writes_request, writes_confirm, writes_authentication, writes_acknowledgement, writes_disconnect, writes_idle, writes_data}
use Rattle.telegram.specs.NetData.{net_part}
use Rattle.telegram.specs.declared.Written.{Written}
use Rattle.link.specs.Records.{end_of, record_in_range, become, closed_by}
use Rattle.link.specs.Judged.{back, judged, ticked}
use Rattle.link.specs.declared.Record.{Record}
use Rattle.link.specs.declared.Step.{Step}
use Rattle.link.specs.declared.Event.{Event}
use Rattle.link.specs.declared.Event.TheVariants as event
use Rattle.link.specs.declared.Verdict.{Verdict}
use Rattle.link.specs.declared.Verdict.TheVariants.{Nothing, Confirm, Authenticate, Acknowledge, Open, Data, Idle, SendIdle, Disconnected, Close}

-- The first refusal that holds, 0 where none does, in the scope's order: 1 the record's fields or the own address out of range, 4 no room in the buffer, 6 no
-- telegram that the bus can carry, 8 finally closed, 3 a phase that the step is not for, 5 a value not allowed.
unfoldable pub first_refusal : Bool → Bool → Bool → Bool → Bool → Bool → ℕ
first_refusal ranged room carried live suited allowed =
    pick ranged (pick room (pick carried (pick live (pick suited (pick allowed 0 5) 3) 8) 6) 4) 1

-- The idle time declared: the one named, or 1,000.
unfoldable pub declared_by : Option ℕ → ℕ
declared_by i = unwrap_or i 1000

-- The number after x, modulo 2^32.
abbrev pub next : ℕ → ℕ
next x = (x + 1) % 2 ^ 32

-- A number that is not this one.
abbrev pub neb : ℕ → ℕ → Bool
neb x y = pick (x == y) false true

-- The record of an open connection after a telegram was taken, and after one was sent.
unfoldable pub taken : Record → ℕ → Record
taken r time = become r 5 r.sending (next r.expected) r.declared r.watched r.sent_at time

unfoldable pub sent : Record → ℕ → Record
sent r time = become r 5 (next r.sending) r.expected r.declared r.watched time r.taken_at

-- A step that writes nothing.
unfoldable pub quietly : Record → Event → Step
quietly q e = record { «record» = q; answer = record { number = 0; telegram = 0; length = 0 }; event = e }

unfoldable pub refused_step : ℕ → Record → Step
refused_step n r = record { «record» = r; answer = record { number = n; telegram = 0; length = 0 }; event = event.Nothing }

-- A step that writes a telegram, by what the writer answered: the record q and the event where it wrote, else a refusal.
unfoldable pub writing_step : Written → Record → Record → ℕ → Event → Step
writing_step w r q kind e =
    pick (w.answer == 0) (record { «record» = q; answer = record { number = 0; telegram = kind; length = w.length }; event = e }) (refused_step w.answer r)

-- What a verdict on the telegram t does, with a random number, an idle time to declare and net data for a possible confirm, and the buffer d.
abbrev pub act_of : Verdict → Record → ℕ → ℕ → ℕ → ℕ → List ℕ → List ℕ → List ℕ → Step
act_of Nothing r own time random declared t net d = quietly r event.Nothing
-- 5.2.2: the responder's own random number is its sequence number; the partner's was the request's
act_of Confirm r own time random declared t net d =
    writing_step (answer_of (writes_confirm (end_of r own) random declared net d)) r
    (become r 3 (next random) (next (random_of t)) declared (idle_time_of t) time time) 2 event.Nothing
-- 5.2.3, from the confirm's random number
act_of Authenticate r own time random declared t net d =
    writing_step (answer_of (writes_authentication (end_of r own) r.sending (random_of t) d)) r
    (become r 4 (next r.sending) (next (random_of t)) r.declared (idle_time_of t) time time) 3 event.Nothing
-- 5.2.4, from the request's random number, which is one before the number expected
act_of Acknowledge r own time random declared t net d =
    writing_step (answer_of (writes_acknowledgement (end_of r own) r.sending (back 1 r.expected) d)) r
    (become r 5 (next r.sending) (next r.expected) r.declared r.watched time time) 4 event.Opened
act_of Open r own time random declared t net d = quietly (taken r time) event.Opened
act_of Data r own time random declared t net d = quietly (taken r time) (event.Data (low_of t) (net_part t).start (net_part t).count)
act_of Idle r own time random declared t net d = quietly (taken r time) event.Nothing
act_of SendIdle r own time random declared t net d =
    writing_step (answer_of (writes_idle (end_of r own) r.sending d)) r (sent r time) 6 event.Nothing
-- 5.2.5: final where its type says so
act_of Disconnected r own time random declared t net d = quietly (closed_by (type_of t == 0) r) (event.Closed (reason_of t) (type_of t == 0))
-- the disconnect carries the number from before closing
act_of (Close reason last) r own time random declared t net d =
    writing_step (answer_of (writes_disconnect (end_of r own) r.sending (pick last 0 1) reason [] d)) r (closed_by last r) 5 (event.Closed reason last)

-- The buffer that it leaves.
abbrev pub act_out : Verdict → Record → ℕ → ℕ → ℕ → List ℕ → List ℕ → List ℕ → List ℕ
act_out Nothing r own random declared t net d = d
act_out Confirm r own random declared t net d = left_by (writes_confirm (end_of r own) random declared net d) d
act_out Authenticate r own random declared t net d = left_by (writes_authentication (end_of r own) r.sending (random_of t) d) d
act_out Acknowledge r own random declared t net d = left_by (writes_acknowledgement (end_of r own) r.sending (back 1 r.expected) d) d
act_out Open r own random declared t net d = d
act_out Data r own random declared t net d = d
act_out Idle r own random declared t net d = d
act_out SendIdle r own random declared t net d = left_by (writes_idle (end_of r own) r.sending d) d
act_out Disconnected r own random declared t net d = d
act_out (Close reason last) r own random declared t net d = left_by (writes_disconnect (end_of r own) r.sending (pick last 0 1) reason [] d) d

-- Unless a refusal holds.
abbrev pub unless_step : ℕ → Record → Step → Step
unless_step n r s = pick (n == 0) s (refused_step n r)

abbrev pub unless_out : ℕ → List ℕ → List ℕ → List ℕ
unless_out n d e = pick (n == 0) e d

-- Open (f_01): a request under a random number.

unfoldable pub open_refusal : Record → ℕ → Option ℕ → List ℕ → List ℕ → ℕ
open_refusal r own i net d =
    first_refusal (record_in_range r own) (nat_le longest (length d)) true (neb r.phase 6) (r.phase == 1)
    (connect_allowed (declared_by i) (length net) r.level)

unfoldable pub open_of : Record → ℕ → ℕ → ℕ → Option ℕ → List ℕ → List ℕ → Step
open_of r own time random i net d =
    unless_step (open_refusal r own i net d) r
    (writing_step (answer_of (writes_request (end_of r own) random (declared_by i) net d)) r (become r 2 (next random) 0 (declared_by i) 0 time 0) 1 event.Nothing)

unfoldable pub open_out : Record → ℕ → ℕ → Option ℕ → List ℕ → List ℕ → List ℕ
open_out r own random i net d = unless_out (open_refusal r own i net d) d (left_by (writes_request (end_of r own) random (declared_by i) net d) d)

-- Close (f_07, f_08): a disconnect with the layer above's reason and text.

unfoldable pub close_refusal : Record → ℕ → ℕ → ℕ → List ℕ → List ℕ → ℕ
close_refusal r own type reason text d =
    first_refusal (record_in_range r own) (nat_le longest (length d)) true (neb r.phase 6) (neb r.phase 1)
    (disconnect_allowed type reason (length text) r.level)

unfoldable pub close_of : Record → ℕ → ℕ → ℕ → List ℕ → List ℕ → Step
close_of r own type reason text d =
    unless_step (close_refusal r own type reason text d) r
    (writing_step (answer_of (writes_disconnect (end_of r own) r.sending type reason text d)) r (closed_by (type == 0) r) 5 (event.Closed reason (type == 0)))

unfoldable pub close_out : Record → ℕ → ℕ → ℕ → List ℕ → List ℕ → List ℕ
close_out r own type reason text d =
    unless_out (close_refusal r own type reason text d) d (left_by (writes_disconnect (end_of r own) r.sending type reason text d) d)

-- Send (f_05): data on an open connection.

unfoldable pub send_refusal : Record → ℕ → ℕ → List ℕ → List ℕ → ℕ
send_refusal r own low net d =
    first_refusal (record_in_range r own) (nat_le longest (length d)) true (neb r.phase 6) (r.phase == 5) (data_allowed low (length net) r.level)

unfoldable pub send_of : Record → ℕ → ℕ → ℕ → List ℕ → List ℕ → Step
send_of r own time low net d =
    unless_step (send_refusal r own low net d) r (writing_step (answer_of (writes_data (end_of r own) r.sending low net d)) r (sent r time) 7 event.Nothing)

unfoldable pub send_out : Record → ℕ → ℕ → List ℕ → List ℕ → List ℕ
send_out r own low net d = unless_out (send_refusal r own low net d) d (left_by (writes_data (end_of r own) r.sending low net d) d)

-- Received: a telegram t, with what a possible confirm would carry.

unfoldable pub received_refusal : Record → ℕ → Option ℕ → List ℕ → List ℕ → List ℕ → ℕ
received_refusal r own i t net d =
    first_refusal (record_in_range r own) (nat_le longest (length d)) (on_bus (length t)) (neb r.phase 6) true (connect_allowed (declared_by i) (length net) r.level)

unfoldable pub received_of : Record → ℕ → ℕ → ℕ → Option ℕ → List ℕ → List ℕ → List ℕ → Step
received_of r own time random i t net d =
    unless_step (received_refusal r own i t net d) r (act_of (judged r own time t) r own time random (declared_by i) t net d)

unfoldable pub received_out : Record → ℕ → ℕ → ℕ → Option ℕ → List ℕ → List ℕ → List ℕ → List ℕ
received_out r own time random i t net d =
    unless_out (received_refusal r own i t net d) d (act_out (judged r own time t) r own random (declared_by i) t net d)

-- Tick: the waits, the watch and idle telegrams.

unfoldable pub tick_refusal : Record → ℕ → List ℕ → ℕ
tick_refusal r own d = first_refusal (record_in_range r own) (nat_le longest (length d)) true (neb r.phase 6) true true

unfoldable pub tick_of : Record → ℕ → ℕ → List ℕ → Step
tick_of r own time d = unless_step (tick_refusal r own d) r (act_of (ticked r time) r own time 0 0 [] [] d)

unfoldable pub tick_out : Record → ℕ → ℕ → List ℕ → List ℕ
tick_out r own time d = unless_out (tick_refusal r own d) d (act_out (ticked r time) r own 0 0 [] [] d)
