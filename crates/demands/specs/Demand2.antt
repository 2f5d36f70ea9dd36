-- Demand 2: what an open end writes, its mirrored record takes, and net data come up unchanged; a call for one connection changes no other.
-- Assumes nothing.
use Rattle.std.specs.Prelude.{◌≡◌, Bool, true, false, List, [], ℕ, ◌+◌, ◌<◌, length, eqb, Option}
use Rattle.checkword.specs.Bytes.{Bytes}
use Rattle.telegram.specs.Writers.{data_allowed, disconnect_allowed}
use Rattle.telegram.specs.Check.{check_of, Passes}
use Rattle.link.specs.Records.{end_of}
use Rattle.link.specs.Plain.{happened}
use Rattle.link.specs.declared.Record.{Record}
use Rattle.link.specs.declared.Event.{Event}
use Rattle.node.specs.declared.Head.{Head}
use Rattle.node.specs.declared.Route.{Route}
use Rattle.node.specs.Matching.{first_match}
use Rattle.node.specs.Accepted.{record_at}
use Rattle.node.specs.Calls.{Call, Left, Link, place_of}
use Rattle.node.specs.Calls.Call.{Open, Close, Send, Received, Tick}
use Rattle.node.specs.Plain.{data_of}
use Rattle.node.specs.Facts.{OthersUnchanged, PartnersStay, StaysAccepted}
use Rattle.demands.specs.Effects.{Does, closing, closed_by_partner}
use Rattle.demands.specs.Pairs.{telegram_of, Done, Nodes, turned, Towards, Watching, Moment, sent, got, after, InTime, Due, Arrives, NothingWrong}

-- The event is data with this command, and the part of the telegram that it names are these net bytes.
pub record ComesUp (low : ℕ) (net telegram : List ℕ) (e : Event) : Type 0 where
  pub data_event : (happened e).event ≡ 2
  pub command : (happened e).command ≡ low
  pub net_data_holds : data_of e telegram ≡ net

-- After a telegram that was sent and taken: open towards the partner as before; and the partner towards us, if it was. Idle times stay, the
-- sender's time of sending and the partner's time of taking are the calls': so the watch goes on.
pub record GoesOn (link : Link) (n : Nodes) (i j : ℕ) (c : Call) (m : Moment) : Type 0 where
  pub towards : Towards (after link n i c m) i j
  pub back : Towards (turned n) j i → Towards (turned (after link n i c m)) j i
  pub sender_watches : Watching (record_at (sent link n c m).table i) (record_at n.table i).declared (record_at n.table i).watched m.sent_at (record_at n.table i).taken_at
  pub partner_watches : Watching (record_at (got link n i c m).table j) (record_at n.table' j).declared (record_at n.table' j).watched (record_at n.table' j).sent_at m.received_at

-- What send writes comes up as data with the same command and the same net bytes.
abbrev pub SentComesUp : Link → Type 0
SentComesUp link =
    (n : Nodes) (i j low : ℕ) (net : List ℕ) (m : Moment) → Bytes net → Towards n i j → Arrives link n i j (Send i low net) m
    → ComesUp low net (telegram_of (sent link n (Send i low net) m)) (got link n i (Send i low net) m).outcome.event × GoesOn link n i j (Send i low net) m

-- Where an idle telegram is due tick writes one (6); it is taken, and says nothing to the layer above.
abbrev pub IdleIsTaken : Link → Type 0
IdleIsTaken link =
    (n : Nodes) (i j : ℕ) (m : Moment) → Towards n i j → Due (record_at n.table i) m.sent_at → Arrives link n i j (Tick i) m
    → ((sent link n (Tick i) m).outcome.answer.telegram ≡ 6)
    × (((happened (got link n i (Tick i) m).outcome.event).event ≡ 0) × GoesOn link n i j (Tick i) m)

-- A call of a node with this head and table closes its record at this place with this reason, finally or not, and a disconnect goes out with this text.
abbrev pub IsClosed : Left → Head → List Record → List ℕ → ℕ → ℕ → Bool → List ℕ → Type 0
IsClosed l h t d place reason last text = Does l d place (closing (record_at t place) h.own reason last text)

-- A disconnect of the partner closes it: nothing goes out.
abbrev pub ClosedByPartner : Left → List Record → List ℕ → ℕ → ℕ → Bool → Type 0
ClosedByPartner l t d place reason last = Does l d place (closed_by_partner (record_at t place) reason last)

-- A call of the one closes its record, and its disconnect that of the other.
pub record ClosedWith (link : Link) (n : Nodes) (i j : ℕ) (c : Call) (m : Moment) (reason : ℕ) (last : Bool) (text : List ℕ) : Type 0 where
  pub here : IsClosed (sent link n c m) n.head n.table m.buffer i reason last text
  pub there : ClosedByPartner (got link n i c m) n.table' m.buffer' j reason last

-- What close writes closes the partner with its reason and type (0: finally).
abbrev pub CloseCloses : Link → Type 0
CloseCloses link =
    (n : Nodes) (i j type reason : ℕ) (text : List ℕ) (m : Moment) → Bytes text → Towards n i j → Arrives link n i j (Close i type reason text) m
    → ClosedWith link n i j (Close i type reason text) m reason (eqb type 0) text

-- Tick by itself closes both where the watch has run out, with 05h and not finally.
abbrev pub SilenceCloses : Link → Type 0
SilenceCloses link =
    (n : Nodes) (i j : ℕ) (m : Moment) → Towards n i j → ((record_at n.table i).watched ≡ 0 → ⊥)
    → (record_at n.table i).taken_at + (record_at n.table i).watched < m.sent_at → Arrives link n i j (Tick i) m
    → ClosedWith link n i j (Tick i) m 0x05 false []

-- Received by itself closes both where a telegram for the record comes in time and doesn't pass the check, with 06h and not finally.
abbrev pub IncorrectCloses : Link → Type 0
IncorrectCloses link =
    (n : Nodes) (i j random : ℕ) (idle_time : Option ℕ) (w : Route) (telegram net : List ℕ) (m : Moment) → Towards n i j → first_match w n.table ≡ i
    → InTime (record_at n.table i) m.sent_at
    → (check_of (end_of (record_at n.table i) n.head.own) (record_at n.table i).expected telegram ≡ Passes → ⊥)
    → Arrives link n i j (Received w random idle_time telegram net) m
    → ClosedWith link n i j (Received w random idle_time telegram net) m 0x06 false []

-- The text that a closing carries, and the net data of a sending: what must be bytes.
abbrev pub text_of : Call → List ℕ
text_of (Close place type reason text) = text
text_of (Open place random i net) = []
text_of (Send place low net) = []
text_of (Received w random i telegram net) = []
text_of (Tick place) = []

abbrev pub net_of : Call → List ℕ
net_of (Send place low net) = net
net_of (Open place random i net) = []
net_of (Close place type reason text) = []
net_of (Received w random i telegram net) = []
net_of (Tick place) = []

-- Whatever call for the record wrote a disconnect (5), and for whatever reason: both ends are closed with that one reason, finally or not alike.
abbrev pub DisconnectCloses : Link → Type 0
DisconnectCloses link =
    (n : Nodes) (i j : ℕ) (c : Call) (m : Moment) → place_of c n.table ≡ i → Bytes (text_of c) → Towards n i j → Arrives link n i j c m
    → (sent link n c m).outcome.answer.telegram ≡ 5 → (reason : ℕ) × ((last : Bool) × ClosedWith link n i j c m reason last (text_of c))

-- What a call for an open record wrote, and how the mirrored record takes it: data by a sending (7), an idle telegram by a tick (6), or a disconnect (5). No
-- other telegram is written.
pub data IsTaken (link : Link) (n : Nodes) (i j : ℕ) (c : Call) (m : Moment) : Type 0 where
  as_data : (low : ℕ) (net : List ℕ) → c ≡ Send i low net → (sent link n c m).outcome.answer.telegram ≡ 7
      → ComesUp low net (telegram_of (sent link n c m)) (got link n i c m).outcome.event → GoesOn link n i j c m → IsTaken link n i j c m
  as_idle : c ≡ Tick i → (sent link n c m).outcome.answer.telegram ≡ 6 → (happened (got link n i c m).outcome.event).event ≡ 0 → GoesOn link n i j c m
      → IsTaken link n i j c m
  as_disconnect : (reason : ℕ) (last : Bool) → (sent link n c m).outcome.answer.telegram ≡ 5 → ClosedWith link n i j c m reason last (text_of c) → IsTaken link n i j c m

-- What an open end writes, whatever the call, its mirrored record takes.
abbrev pub WrittenIsTaken : Link → Type 0
WrittenIsTaken link =
    (n : Nodes) (i j : ℕ) (c : Call) (m : Moment) → place_of c n.table ≡ i → Bytes (text_of c) → Bytes (net_of c) → Towards n i j → Arrives link n i j c m
    → ((sent link n c m).outcome.answer.telegram ≡ 0 → ⊥) → IsTaken link n i j c m

-- No call is refused for no reason: where nothing is wrong and what is sent is allowed, both calls are done.
pub record NothingRefused (link : Link) : Type 0 where
  pub by_send : (n : Nodes) (i j low : ℕ) (net : List ℕ) (m : Moment) → Bytes net → Towards n i j → NothingWrong n j m
      → data_allowed low (length net) (record_at n.table i).level ≡ true → Done (sent link n (Send i low net) m) × Done (got link n i (Send i low net) m)
  pub by_tick : (n : Nodes) (i j : ℕ) (m : Moment) → Towards n i j → NothingWrong n j m → Due (record_at n.table i) m.sent_at
      → Done (sent link n (Tick i) m) × Done (got link n i (Tick i) m)
  pub by_close : (n : Nodes) (i j type reason : ℕ) (text : List ℕ) (m : Moment) → Bytes text → Towards n i j → NothingWrong n j m
      → disconnect_allowed type reason (length text) (record_at n.table i).level ≡ true
      → Done (sent link n (Close i type reason text) m) × Done (got link n i (Close i type reason text) m)

-- A call for one record leaves every other record as it was; an accepted table stays accepted.
pub record Isolation (link : Link) : Type 0 where
  pub others_unchanged : OthersUnchanged link
  pub partners_stay : PartnersStay link
  pub stays_accepted : StaysAccepted link

pub record Demand2OneStep (link : Link) : Type 0 where
  pub sent_comes_up : SentComesUp link
  pub idle_is_taken : IdleIsTaken link
  pub close_closes : CloseCloses link
  pub silence_closes : SilenceCloses link
  pub incorrect_closes : IncorrectCloses link
  pub disconnect_closes : DisconnectCloses link
  pub written_is_taken : WrittenIsTaken link
  pub nothing_refused : NothingRefused link
  pub isolation : Isolation link
