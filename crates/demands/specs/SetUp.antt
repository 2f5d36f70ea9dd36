-- Demand 2, set-up: from two closed mirrored records the four telegrams, each received in time, end with the two connected, at both levels and whatever the
-- random numbers, and whatever the two nodes do for other connections meanwhile; nothing refuses them where all that is given fits; and what is then sent comes up.
-- Assumes nothing.
use Rattle.std.specs.Prelude.{◌≡◌, true, List, [], ◌∷◌, ℕ, ◌+◌, ◌^◌, ◌≤◌, ◌<◌, length, Option}
use Rattle.checkword.specs.Bytes.{Bytes}
use Rattle.telegram.specs.Writers.{connect_allowed}
use Rattle.link.specs.Steps.{declared_by}
use Rattle.link.specs.declared.Record.{Record}
use Rattle.link.specs.declared.Event.TheVariants.{Opened}
use Rattle.node.specs.declared.Head.{Head}
use Rattle.node.specs.Accepted.{record_at, accepted}
use Rattle.node.specs.Calls.{Left, Link}
use Rattle.node.specs.Calls.Call.{Open}
use Rattle.demands.specs.Pairs.{Mirror, telegram_of, route_from, Done, Nodes, Connected, Watching, Made, head_after, table_after, AllNothingTo}
use Rattle.demands.specs.Effects.{Receipt, takes}
use Rattle.demands.specs.EveryStep.{Exchange, AllGoWell, handed_up, messages, StayConnected}

-- What a call is given: its time and buffer, a random number, and an idle time and net data for a request or a possible confirm.
pub record Given : Type 0 where
  pub time : ℕ
  pub out : List ℕ
  pub random : ℕ
  pub idle_time : Option ℕ
  pub net : List ℕ

-- The opener, its record at place i; the responder, its record at place j; and what each of the five calls is given.
pub record Parties : Type 0 where
  pub head : Head
  pub table : List Record
  pub i : ℕ
  pub head' : Head
  pub table' : List Record
  pub j : ℕ
  pub first : Given
  pub second : Given
  pub third : Given
  pub fourth : Given
  pub fifth : Given
  -- what the opener does between the first and the third call, the responder between the second and the fourth, and the opener between the third and the fifth
  pub while_asking : List Made
  pub while_confirming : List Made
  pub while_authenticating : List Made

-- The opener's record and the responder's.
abbrev pub here : Parties → Record
here p = record_at p.table p.i

abbrev pub there : Parties → Record
there p = record_at p.table' p.j

-- A telegram of a node taken by one with this head and table.
abbrev pub arriving : Left → ℕ → Record → Head → List Record → Given → Receipt
arriving l own r h t g =
    record {
      route = route_from own r;
      random = g.random;
      idle_time = g.idle_time;
      telegram = telegram_of l;
      net = g.net;
      head = h;
      table = t;
      time = g.time;
      buffer = g.out;
    }

-- Head and table of a node that made a call and then others.
abbrev pub head_then : Link → Left → List Made → Head
head_then link l ms = head_after link l.outcome.head l.table ms

abbrev pub table_then : Link → Left → List Made → List Record
table_then link l ms = table_after link l.outcome.head l.table ms

-- The five calls: the opener asks, the responder confirms, the opener authenticates, the responder acknowledges and is open, the opener is open.
abbrev pub asks : Link → Parties → Left
asks link p = link (Open p.i p.first.random p.first.idle_time p.first.net) p.head p.table p.first.time p.first.out

abbrev pub confirms : Link → Parties → Left
confirms link p = takes link (arriving (asks link p) p.head.own (here p) p.head' p.table' p.second)

abbrev pub authenticates : Link → Parties → Left
authenticates link p =
    takes link
    (arriving (confirms link p) p.head'.own (there p) (head_then link (asks link p) p.while_asking) (table_then link (asks link p) p.while_asking) p.third)

abbrev pub acknowledges : Link → Parties → Left
acknowledges link p =
    takes link
    (arriving (authenticates link p) p.head.own (here p) (head_then link (confirms link p) p.while_confirming) (table_then link (confirms link p) p.while_confirming)
    p.fourth)

abbrev pub opens : Link → Parties → Left
opens link p =
    takes link
    (arriving (acknowledges link p) p.head'.own (there p) (head_then link (authenticates link p) p.while_authenticating)
    (table_then link (authenticates link p) p.while_authenticating) p.fifth)

-- Mirrored, and closed at the responder; what is random and what is lent are 32 bits and bytes; each awaited telegram comes at most 5,000 after the one that
-- it answers was sent (7.2); and what the nodes do between the five calls is nothing to this connection.
pub record Undisturbed (link : Link) (p : Parties) : Type 0 where
  pub mirror : Mirror p.head.own (here p) p.head'.own (there p)
  pub place : p.j < length p.table'
  pub closed_there : (there p).phase ≡ 1
  pub random_here : p.first.random < 2 ^ 32
  pub random_there : p.second.random < 2 ^ 32
  pub net_here : Bytes p.first.net
  pub net_there : Bytes p.second.net
  pub confirmed_in_time : p.third.time ≤ p.first.time + 5000
  pub authenticated_in_time : p.fourth.time ≤ p.second.time + 5000
  pub acknowledged_in_time : p.fifth.time ≤ p.third.time + 5000
  pub while_asking : AllNothingTo link (asks link p).outcome.head (asks link p).table p.i p.while_asking
  pub while_confirming : AllNothingTo link (confirms link p).outcome.head (confirms link p).table p.j p.while_confirming
  pub while_authenticating : AllNothingTo link (authenticates link p).outcome.head (authenticates link p).table p.i p.while_authenticating

-- Every one of the five is done.
pub record AllDone (link : Link) (p : Parties) : Type 0 where
  pub asked : Done (asks link p)
  pub confirmed : Done (confirms link p)
  pub authenticated : Done (authenticates link p)
  pub acknowledged : Done (acknowledges link p)
  pub opened : Done (opens link p)

-- The two nodes afterwards, the opener first.
abbrev pub set_up : Link → Parties → Nodes
set_up link p =
    record { head = (opens link p).outcome.head; table = (opens link p).table; head' = (acknowledges link p).outcome.head; table' = (acknowledges link p).table }

-- Both say that they are open, and so they are, towards each other; and each watches for the idle time that the other declared, from the last telegram on.
pub record BothOpen (link : Link) (p : Parties) : Type 0 where
  pub opener : (opens link p).outcome.event ≡ Opened
  pub responder : (acknowledges link p).outcome.event ≡ Opened
  pub connected : Connected (set_up link p) p.i p.j
  pub opener_watches : Watching (record_at (opens link p).table p.i) (declared_by p.first.idle_time) (declared_by p.second.idle_time) p.third.time p.fifth.time
  pub responder_watches : Watching (record_at (acknowledges link p).table p.j) (declared_by p.second.idle_time) (declared_by p.first.idle_time) p.fourth.time p.fourth.time

abbrev pub Demand2SetUp : Link → Type 0
Demand2SetUp link = (p : Parties) → Undisturbed link p → AllDone link p → BothOpen link p

-- What a call must be given to be done: room for the longest telegram, a time that is not before this one, and values that are allowed at this level.
pub record Fits (earlier level : ℕ) (g : Given) : Type 0 where
  pub room : 244 ≤ length g.out
  pub timely : earlier ≤ g.time
  pub allowed : connect_allowed (declared_by g.idle_time) (length g.net) level ≡ true

-- None of these calls is later than a time.
abbrev pub Until : ℕ → List Made → Type 0
Until time [] = Unit {0}
Until time (m ∷ ms) = (m.time ≤ time) × Until time ms

-- Both tables are accepted, the opener's record is there and closed too, each of the five calls is given what fits, and no clock goes back.
pub record AllFit (p : Parties) : Type 0 where
  pub table_here : accepted p.head p.table ≡ true
  pub table_there : accepted p.head' p.table' ≡ true
  pub place_here : p.i < length p.table
  pub closed_here : (here p).phase ≡ 1
  pub first : Fits p.head.latest (here p).level p.first
  pub second : Fits p.head'.latest (here p).level p.second
  pub third : Fits p.first.time (here p).level p.third
  pub fourth : Fits p.second.time (here p).level p.fourth
  pub fifth : Fits p.third.time (here p).level p.fifth
  pub until_third : Until p.third.time p.while_asking
  pub until_fourth : Until p.fourth.time p.while_confirming
  pub until_fifth : Until p.fifth.time p.while_authenticating

-- Then nothing refuses the set-up.
abbrev pub SetUpIsDone : Link → Type 0
SetUpIsDone link = (p : Parties) → Undisturbed link p → AllFit p → AllDone link p

-- From the request on: after a set-up, whatever is exchanged comes up.
abbrev pub Demand2FromTheRequest : Link → Type 0
Demand2FromTheRequest link =
    (p : Parties) (xs : List Exchange) → Undisturbed link p → AllDone link p → AllGoWell link (set_up link p) p.i p.j xs
    → (handed_up link (set_up link p) p.i p.j xs ≡ messages xs) × StayConnected link (set_up link p) p.i p.j xs
