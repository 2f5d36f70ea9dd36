-- Demand 2, at one end, whatever its partner does. For each cell of the transition table (5.5.1.5) that a receipt or a tick can meet, in phases 1 to 5 (in 6 every call
-- is refused): what is said, the record afterwards, and the telegram that goes out. Then what alone opens a connection, what alone hands up data, and that what is
-- finally closed stays so.
-- Assumes nothing.
use Rattle.std.specs.Prelude.{◌≡◌, Bool, true, false, List, [], ◌⊎◌, ℕ, ◌+◌, ◌≤◌, ◌<◌, length, eqb, Option}
use Rattle.telegram.specs.Fields.{authentication_of, type_of, reason_of}
use Rattle.telegram.specs.Commands.{kind_of_command}
use Rattle.telegram.specs.Telegrams.{authentication_number}
use Rattle.telegram.specs.Check.{command_of, check_of, Passes}
use Rattle.telegram.specs.declared.Kind.{Kind}
use Rattle.telegram.specs.declared.Kind.TheVariants.{Request, Confirm, Authentication, Acknowledgement, Disconnect, Idle, Data}
use Rattle.link.specs.Records.{end_of}
use Rattle.link.specs.Judged.{back, good_version}
use Rattle.link.specs.Steps.{declared_by}
use Rattle.link.specs.Plain.{happened}
use Rattle.link.specs.declared.Record.{Record}
use Rattle.link.specs.declared.Event.TheVariants.{Opened}
use Rattle.node.specs.declared.Head.{Head}
use Rattle.node.specs.declared.Route.{Route}
use Rattle.node.specs.Matching.{first_match}
use Rattle.node.specs.Accepted.{record_at, accepted}
use Rattle.node.specs.Calls.{Call, Link}
use Rattle.node.specs.Calls.Call.{Open, Close, Send, Received, Tick}
use Rattle.node.specs.Facts.{NetDataHandedOn}
use Rattle.demands.specs.Pairs.{Done, Made, table_after, InTime, Listens, Due}
use Rattle.demands.specs.Effects.{Effect, Does, nothing, asking, confirming, authenticating, acknowledging, opening, handing_up, taking_idle, sending_idle, sending_data, closing, closed_by_partner, Receipt, record_for, Passing, kind_of, ReceiptDoes}
use Rattle.demands.specs.Demand2.{IsClosed}

-- Timers

-- A call that looks at the timers of the record at place i: a tick of it, or any telegram for it.
pub data LooksAt (c : Call) (t : List Record) (i : ℕ) : Type 0 where
  tick : c ≡ Tick i → LooksAt c t i
  receipt : (w : Route) (random : ℕ) (idle_time : Option ℕ) (telegram net : List ℕ) → c ≡ Received w random idle_time telegram net → first_match w t ≡ i → LooksAt c t i

-- More than the watched time after the last telegram was taken, such a call closes an open connection with 05h, not finally (5.2.5.7.4,
-- 5.2.6.3, 5.2.6.4).
abbrev pub SilenceClosesHere : Link → Type 0
SilenceClosesHere link =
    (c : Call) (h : Head) (t : List Record) (i time : ℕ) (d : List ℕ) → LooksAt c t i → (record_at t i).phase ≡ 5 → ((record_at t i).watched ≡ 0 → ⊥)
    → (record_at t i).taken_at + (record_at t i).watched < time → Done (link c h t time d) → IsClosed (link c h t time d) h t d i 0x05 false []

-- More than 5,000 after the last sending, it closes a connection that awaits an answer in this phase, with this reason, finally or not.
abbrev pub LateCloses : Link → ℕ → ℕ → Bool → Type 0
LateCloses link phase reason last =
    (c : Call) (h : Head) (t : List Record) (i time : ℕ) (d : List ℕ) → LooksAt c t i → (record_at t i).phase ≡ phase → (record_at t i).sent_at + 5000 < time
    → Done (link c h t time d) → IsClosed (link c h t time d) h t d i reason last []

-- A confirm that is late (2) closes with 02h and not finally (5.2.5.7.2); an authentication (3) or an acknowledgement (4) with 03h and finally (5.2.5.8.3).
pub record LateAnswerCloses (link : Link) : Type 0 where
  pub confirm : LateCloses link 2 0x02 false
  pub authentication : LateCloses link 3 0x03 true
  pub acknowledgement : LateCloses link 4 0x03 true

-- Before that, a tick writes the idle telegram that is due on an open connection (5.2.6.2), and else does nothing; on a closed one it never does anything.
pub record TicksInTime (link : Link) : Type 0 where
  -- nothing refuses a tick where table, room, time and place are good and the record is not finally closed, whatever its timers say
  pub done : (h : Head) (t : List Record) (i time : ℕ) (d : List ℕ) → accepted h t ≡ true → 244 ≤ length d → h.latest ≤ time → i < length t
      → ((record_at t i).phase ≡ 6 → ⊥) → Done (link (Tick i) h t time d)
  pub due : (h : Head) (t : List Record) (i time : ℕ) (d : List ℕ) → (record_at t i).phase ≡ 5 → Due (record_at t i) time → Done (link (Tick i) h t time d)
      → Does (link (Tick i) h t time d) d i (sending_idle (record_at t i) h.own time)
  pub early : (h : Head) (t : List Record) (i time : ℕ) (d : List ℕ) → Listens (record_at t i) time → ((record_at t i).phase ≡ 5 → Due (record_at t i) time → ⊥)
      → Done (link (Tick i) h t time d) → Does (link (Tick i) h t time d) d i (nothing (record_at t i))
  pub closed : (h : Head) (t : List Record) (i time : ℕ) (d : List ℕ) → (record_at t i).phase ≡ 1 → Done (link (Tick i) h t time d)
      → Does (link (Tick i) h t time d) d i (nothing (record_at t i))

-- Telegrams for a closed connection (1)

-- A request that passes the check, with a version that we speak.
pub record GoodRequest (x : Receipt) : Type 0 where
  pub passes : Passing x
  pub kind : kind_of x ≡ Request
  pub version : good_version x.telegram ≡ true

-- Such a one is confirmed. Whatever else comes is dropped: an incorrect telegram, another one, a request of a version that we don't speak.
pub record WhenClosed (link : Link) : Type 0 where
  pub confirms : (x : Receipt) → (record_for x).phase ≡ 1 → GoodRequest x
      → ReceiptDoes link x (confirming (record_for x) x.head.own x.time x.random (declared_by x.idle_time) x.telegram x.net)
  pub drops : (x : Receipt) → (record_for x).phase ≡ 1 → (GoodRequest x → ⊥) → ReceiptDoes link x (nothing (record_for x))

-- Telegrams while an answer is awaited (2 to 4)

-- In this phase, and at most 5,000 after the last sending (7.2).
pub record Awaiting (r : Record) (time phase : ℕ) : Type 0 where
  pub phase_is : r.phase ≡ phase
  pub in_time : time ≤ r.sent_at + 5000

-- While a confirm is awaited: one of our version is answered by an authentication, one of another closes with 01h and finally (5.2.5.8.2); a telegram that is
-- neither a confirm nor a disconnect is ignored.
pub record ConfirmAwaited (link : Link) : Type 0 where
  pub authenticates : (x : Receipt) → Awaiting (record_for x) x.time 2 → Passing x → kind_of x ≡ Confirm → good_version x.telegram ≡ true
      → ReceiptDoes link x (authenticating (record_for x) x.head.own x.time x.telegram)
  pub other_version : (x : Receipt) → Awaiting (record_for x) x.time 2 → Passing x → kind_of x ≡ Confirm → good_version x.telegram ≡ false
      → ReceiptDoes link x (closing (record_for x) x.head.own 0x01 true [])
  pub ignores : (x : Receipt) → Awaiting (record_for x) x.time 2 → Passing x → (kind_of x ≡ Confirm → ⊥) → (kind_of x ≡ Disconnect → ⊥)
      → ReceiptDoes link x (nothing (record_for x))

-- It returns our random number, changed as the level asks (5.1.4). Ours is n before the number that is sent next.
abbrev pub ReturnsOurs : Receipt → ℕ → Type 0
ReturnsOurs x n = authentication_of x.telegram ≡ authentication_number (record_for x).level (back n (record_for x).sending)

-- While an authentication or an acknowledgement is awaited, by its phase, its kind and n: the right one does this. One with a wrong number, or another telegram
-- in its place that is no disconnect, closes with 03h and finally (5.2.5.8.3).
pub record AnswerAwaited (link : Link) (phase n : ℕ) (k : Kind) (right : Receipt → Effect) : Type 0 where
  pub answers : (x : Receipt) → Awaiting (record_for x) x.time phase → Passing x → kind_of x ≡ k → ReturnsOurs x n → ReceiptDoes link x (right x)
  pub wrong_number : (x : Receipt) → Awaiting (record_for x) x.time phase → Passing x → kind_of x ≡ k → (ReturnsOurs x n → ⊥)
      → ReceiptDoes link x (closing (record_for x) x.head.own 0x03 true [])
  pub another : (x : Receipt) → Awaiting (record_for x) x.time phase → Passing x → (kind_of x ≡ k → ⊥) → (kind_of x ≡ Disconnect → ⊥)
      → ReceiptDoes link x (closing (record_for x) x.head.own 0x03 true [])

-- The responder acknowledges and is open; the opener is open.
abbrev pub acknowledged : Receipt → Effect
acknowledged x = acknowledging (record_for x) x.head.own x.time

abbrev pub opened : Receipt → Effect
opened x = opening (record_for x) x.time

-- Telegrams for an open connection (5) that come in time

pub record ForAnOpen (x : Receipt) : Type 0 where
  pub open_here : (record_for x).phase ≡ 5
  pub in_time : InTime (record_for x) x.time

-- A telegram of a set-up.
abbrev pub SetsUpAnew : Kind → Type 0
SetsUpAnew k = (k ≡ Request) ⊎ ((k ≡ Confirm) ⊎ ((k ≡ Authentication) ⊎ (k ≡ Acknowledgement)))

-- Data are handed up, an idle telegram is taken, and a telegram of a set-up closes with 04h, not finally (5.2.5.7.5).
pub record WhenOpen (link : Link) : Type 0 where
  pub hands_up_holds : (x : Receipt) → ForAnOpen x → Passing x → kind_of x ≡ Data → ReceiptDoes link x (handing_up (record_for x) x.time x.telegram)
  pub takes_idle : (x : Receipt) → ForAnOpen x → Passing x → kind_of x ≡ Idle → ReceiptDoes link x (taking_idle (record_for x) x.time)
  pub set_up_anew : (x : Receipt) → ForAnOpen x → Passing x → SetsUpAnew (kind_of x)
      → ReceiptDoes link x (closing (record_for x) x.head.own 0x04 false [])

-- Telegrams in all of these phases (2 to 5)

-- One that doesn't pass the check closes with 06h, not finally (5.2.5.7.3).
abbrev pub IncorrectClosesHere : Link → Type 0
IncorrectClosesHere link =
    (x : Receipt) → Listens (record_for x) x.time → (Passing x → ⊥) → ReceiptDoes link x (closing (record_for x) x.head.own 0x06 false [])

-- A disconnect of the partner closes with its reason, finally where its type is 0 (5.2.5.3), and none is written.
abbrev pub PartnerClosesHere : Link → Type 0
PartnerClosesHere link =
    (x : Receipt) → Listens (record_for x) x.time → Passing x → kind_of x ≡ Disconnect
    → ReceiptDoes link x (closed_by_partner (record_for x) (reason_of x.telegram) (eqb (type_of x.telegram) 0))

-- Calls of the layer above

-- Opening writes a request, sending a data telegram, and closing a disconnect with this reason and text, final where the type is 0.
pub record CallsOfOurs (link : Link) : Type 0 where
  pub opens : (i random : ℕ) (idle_time : Option ℕ) (net : List ℕ) (h : Head) (t : List Record) (time : ℕ) (d : List ℕ) → Done (link (Open i random idle_time net) h t time d)
      → Does (link (Open i random idle_time net) h t time d) d i (asking (record_at t i) h.own time random (declared_by idle_time) net)
  pub sends : (i low : ℕ) (net : List ℕ) (h : Head) (t : List Record) (time : ℕ) (d : List ℕ) → Done (link (Send i low net) h t time d)
      → Does (link (Send i low net) h t time d) d i (sending_data (record_at t i) h.own time low net)
  pub closes : (i type reason : ℕ) (text : List ℕ) (h : Head) (t : List Record) (time : ℕ) (d : List ℕ) → Done (link (Close i type reason text) h t time d)
      → IsClosed (link (Close i type reason text) h t time d) h t d i reason (eqb type 0) text

-- What alone opens, and what alone hands up data

-- What a telegram must be that opens the connection of this record in this phase: it comes at most 5,000 after the last sending, passes the check, is of this
-- kind, and returns our random number, changed as the level asks (5.1.4). Ours is n before the number that is sent next.
pub record AnswersUs (r : Record) (own time : ℕ) (telegram : List ℕ) (phase n : ℕ) (k : Kind) : Type 0 where
  pub phase_is : r.phase ≡ phase
  pub in_time : time ≤ r.sent_at + 5000
  pub passes : check_of (end_of r own) r.expected telegram ≡ Passes
  pub kind : kind_of_command (command_of telegram) ≡ k
  pub number : authentication_of telegram ≡ authentication_number r.level (back n r.sending)

-- No call but received opens a connection, and it does so only on the authentication that the responder awaits (3), or on the acknowledgement that the opener
-- awaits (4).
abbrev pub ByAnAnswer : Call → Head → List Record → ℕ → Type 0
ByAnAnswer (Received w random idle_time telegram net) h t time =
    AnswersUs (record_at t (first_match w t)) h.own time telegram 3 1 Authentication ⊎ AnswersUs (record_at t (first_match w t)) h.own time telegram 4 2 Acknowledgement
ByAnAnswer (Open place random idle_time net) h t time = ⊥
ByAnAnswer (Close place type reason text) h t time = ⊥
ByAnAnswer (Send place low net) h t time = ⊥
ByAnAnswer (Tick place) h t time = ⊥

abbrev pub OpensOnlyByAnAnswer : Link → Type 0
OpensOnlyByAnAnswer link = (c : Call) (h : Head) (t : List Record) (time : ℕ) (d : List ℕ) → (link c h t time d).outcome.event ≡ Opened → ByAnAnswer c h t time

-- A data telegram for an open connection that comes in time and passes the check at the number expected.
pub record GoodData (w : Route) (h : Head) (t : List Record) (time : ℕ) (telegram : List ℕ) : Type 0 where
  pub open_here : (record_at t (first_match w t)).phase ≡ 5
  pub in_time : InTime (record_at t (first_match w t)) time
  pub passes : check_of (end_of (record_at t (first_match w t)) h.own) (record_at t (first_match w t)).expected telegram ≡ Passes
  pub kind : kind_of_command (command_of telegram) ≡ Data

-- No call but received hands up data (2), and it does so only from such a one; which net bytes these are, `NetDataHandedOn` says.
abbrev pub FromAGoodTelegram : Call → Head → List Record → ℕ → Type 0
FromAGoodTelegram (Received w random idle_time telegram net) h t time = GoodData w h t time telegram
FromAGoodTelegram (Open place random idle_time net) h t time = ⊥
FromAGoodTelegram (Close place type reason text) h t time = ⊥
FromAGoodTelegram (Send place low net) h t time = ⊥
FromAGoodTelegram (Tick place) h t time = ⊥

abbrev pub DataOnlyFromAGoodTelegram : Link → Type 0
DataOnlyFromAGoodTelegram link =
    (c : Call) (h : Head) (t : List Record) (time : ℕ) (d : List ℕ) → (happened (link c h t time d).outcome.event).event ≡ 2 → FromAGoodTelegram c h t time

-- Never again (5.2.5.5.1): whatever calls a node makes, done or refused, a record that is finally closed (6) is the same record, field for field, at the end.
abbrev pub NeverReopens : Link → Type 0
NeverReopens link = (h : Head) (t : List Record) (ms : List Made) (i : ℕ) → (record_at t i).phase ≡ 6 → record_at (table_after link h t ms) i ≡ record_at t i

-- All of it.
pub record Demand2OneEnd (link : Link) : Type 0 where
  pub silence_closes_here : SilenceClosesHere link
  pub late_answer_closes : LateAnswerCloses link
  pub ticks_in_time : TicksInTime link
  pub when_closed : WhenClosed link
  pub confirm_awaited : ConfirmAwaited link
  pub authentication_awaited : AnswerAwaited link 3 1 Authentication acknowledged
  pub acknowledgement_awaited : AnswerAwaited link 4 2 Acknowledgement opened
  pub when_open : WhenOpen link
  pub incorrect_closes_here : IncorrectClosesHere link
  pub partner_closes_here : PartnerClosesHere link
  pub calls_of_ours : CallsOfOurs link
  pub opens_only_by_an_answer : OpensOnlyByAnAnswer link
  pub data_only_from_a_good_telegram : DataOnlyFromAGoodTelegram link
  pub net_data_handed_on : NetDataHandedOn link
  pub never_reopens : NeverReopens link
