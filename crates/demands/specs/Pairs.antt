-- Two nodes, the two ends of a connection between them, and a telegram from one to the other, whatever link they run: `called` is ours.
-- Assumes nothing.
use Rattle.std.specs.Prelude.{◌≡◌, true, List, [], ◌∷◌, ℕ, ◌+◌, ◌*◌, ◌≤◌, ◌<◌, length, take, Option}
use Rattle.telegram.specs.Ends.{mirrored}
use Rattle.telegram.specs.Writers.{connect_allowed}
use Rattle.link.specs.Records.{end_of}
use Rattle.link.specs.Steps.{declared_by}
use Rattle.link.specs.declared.Record.{Record}
use Rattle.node.specs.declared.Head.{Head}
use Rattle.node.specs.declared.Route.{Route}
use Rattle.node.specs.Accepted.{record_at, accepted}
use Rattle.node.specs.Calls.{Call, Left, Link, place_of}
use Rattle.node.specs.Calls.Call.{Received, Tick}

-- The record q of the node b is the mirror of the record r of the node a: addresses and SAPs crossed, one level.
abbrev pub Mirror : ℕ → Record → ℕ → Record → Type 0
Mirror a r b q = end_of q b ≡ mirrored (end_of r a)

-- Open at both ends, and what r sends next is what q expects.
pub record OpenTo (a : ℕ) (r : Record) (b : ℕ) (q : Record) : Type 0 where
  pub ends : Mirror a r b q
  pub open_here : r.phase ≡ 5
  pub open_there : q.phase ≡ 5
  pub number : q.expected ≡ r.sending

-- The telegram that a call wrote: so much of the buffer as its answer says.
abbrev pub telegram_of : Left → List ℕ
telegram_of l = take l.outcome.answer.length l.out

-- What a node's telegram for this record is sent under.
abbrev pub route_from : ℕ → Record → Route
route_from own r = record { sender = own; destination_sap = r.partner_sap; source_sap = r.local_sap }

-- The call was done.
abbrev pub Done : Left → Type 0
Done l = l.outcome.answer.number ≡ 0

-- Two nodes, by head and table: the one that sends, and its partner.
pub record Nodes : Type 0 where
  pub head : Head
  pub table : List Record
  pub head' : Head
  pub table' : List Record

-- Seen from the partner.
abbrev pub turned : Nodes → Nodes
turned n = record { head = n.head'; table = n.table'; head' = n.head; table' = n.table }

-- The sender's record at place i is open towards the partner's record at place j. Of what the partner sends nothing is said: it may be on its way, or lost.
pub record Towards (n : Nodes) (i j : ℕ) : Type 0 where
  pub here : i < length n.table
  pub there : j < length n.table'
  pub open_to : OpenTo n.head.own (record_at n.table i) n.head'.own (record_at n.table' j)

-- The two are open towards each other.
pub record Connected (n : Nodes) (i j : ℕ) : Type 0 where
  pub towards : Towards n i j
  pub back : Towards (turned n) j i

-- The idle times and timers of a record: what it declares and watches for, and when it last sent and took a telegram.
pub record Watching (r : Record) (declares watches sent_at taken_at : ℕ) : Type 0 where
  pub declared_is : r.declared ≡ declares
  pub watched_is : r.watched ≡ watches
  pub sent_at_is : r.sent_at ≡ sent_at
  pub taken_at_is : r.taken_at ≡ taken_at

-- The circumstances of a telegram: when it is sent and when it is received, the buffers of both ends, and what the receiving call lends for a possible confirm.
pub record Moment : Type 0 where
  pub sent_at : ℕ
  pub received_at : ℕ
  pub buffer : List ℕ
  pub buffer' : List ℕ
  pub random : ℕ
  pub idle_time : Option ℕ
  pub net : List ℕ

-- A call of the sender.
abbrev pub sent : Link → Nodes → Call → Moment → Left
sent link n c m = link c n.head n.table m.sent_at m.buffer

-- The call with which the partner takes what it wrote for the record at place i: the telegram, under the address and SAPs that it was sent under.
abbrev pub got : Link → Nodes → ℕ → Call → Moment → Left
got link n i c m =
    link (Received (route_from n.head.own (record_at n.table i)) m.random m.idle_time (telegram_of (sent link n c m)) m.net) n.head' n.table' m.received_at m.buffer'

-- The nodes afterwards.
abbrev pub after : Link → Nodes → ℕ → Call → Moment → Nodes
after link n i c m =
    record { head = (sent link n c m).outcome.head; table = (sent link n c m).table; head' = (got link n i c m).outcome.head; table' = (got link n i c m).table }

-- A call of one node, with its time and its buffer, and what it leaves.
pub record Made : Type 0 where
  pub call : Call
  pub time : ℕ
  pub buffer : List ℕ

abbrev pub made : Link → Head → List Record → Made → Left
made link h t m = link m.call h t m.time m.buffer

-- Head and table of a node after a list of calls, done or refused.
abbrev pub head_after : Link → Head → List Record → List Made → Head
head_after link h t [] = h
head_after link h t (m ∷ ms) = head_after link (made link h t m).outcome.head (made link h t m).table ms

abbrev pub table_after : Link → Head → List Record → List Made → List Record
table_after link h t [] = t
table_after link h t (m ∷ ms) = table_after link (made link h t m).outcome.head (made link h t m).table ms

-- A time at which the watch of an open record has not run out: it has none (0), or the last telegram was taken at most so long ago.
abbrev pub InTime : Record → ℕ → Type 0
InTime r time = (r.watched ≡ 0 → ⊥) → time ≤ r.taken_at + r.watched

-- A record whose connection is being set up (2 to 4) or open (5), at a time at which its wait or watch has not run out.
pub data Listens (r : Record) (time : ℕ) : Type 0 where
  set_up : 2 ≤ r.phase → r.phase ≤ 4 → time ≤ r.sent_at + 5000 → Listens r time
  open_here : r.phase ≡ 5 → InTime r time → Listens r time

-- An idle telegram is due at this time: at least half of the time declared has passed since the last sending, and the own watch has not run out.
pub record Due (r : Record) (time : ℕ) : Type 0 where
  pub declares : r.declared ≡ 0 → ⊥
  pub half : 2 * r.sent_at + r.declared ≤ 2 * time
  pub in_time : InTime r time

-- A call that is nothing to the connection of the record at place i: for another record; refused; or a tick of it where neither its wait or watch has run out
-- nor, on an open one, an idle telegram is due.
pub data NothingTo (link : Link) (h : Head) (t : List Record) (i : ℕ) (m : Made) : Type 0 where
  elsewhere : (place_of m.call t ≡ i → ⊥) → NothingTo link h t i m
  refused : (Done (made link h t m) → ⊥) → NothingTo link h t i m
  early : m.call ≡ Tick i → Listens (record_at t i) m.time → ((record_at t i).phase ≡ 5 → Due (record_at t i) m.time → ⊥) → NothingTo link h t i m

-- A list of such calls, one after the other.
abbrev pub AllNothingTo : Link → Head → List Record → ℕ → List Made → Type 0
AllNothingTo link h t i [] = Unit {0}
AllNothingTo link h t i (m ∷ ms) = NothingTo link h t i m × AllNothingTo link (made link h t m).outcome.head (made link h t m).table i ms

-- Both calls are done, and the telegram comes in time for the partner's record at place j.
pub record Arrives (link : Link) (n : Nodes) (i j : ℕ) (c : Call) (m : Moment) : Type 0 where
  pub done : Done (sent link n c m)
  pub taken : Done (got link n i c m)
  pub in_time : InTime (record_at n.table' j) m.received_at

-- Nothing stands in the way of the two calls: both tables are accepted, both buffers have room, neither clock goes back, and what is lent for a possible confirm
-- is allowed.
pub record NothingWrong (n : Nodes) (j : ℕ) (m : Moment) : Type 0 where
  pub table_here : accepted n.head n.table ≡ true
  pub room_here : 244 ≤ length m.buffer
  pub time_here : n.head.latest ≤ m.sent_at
  pub table_there : accepted n.head' n.table' ≡ true
  pub room_there : 244 ≤ length m.buffer'
  pub time_there : n.head'.latest ≤ m.received_at
  pub lent : connect_allowed (declared_by m.idle_time) (length m.net) (record_at n.table' j).level ≡ true
