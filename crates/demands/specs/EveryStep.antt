-- Demand 2, over every step: whatever is sent, one telegram after the other in either direction, each received in time and before the next is sent, and
-- whatever the two nodes do for other connections meanwhile, the other end hands up exactly that, in order, and the two stay connected.
-- Assumes nothing.
use Rattle.std.specs.Prelude.{◌≡◌, List, [], ◌∷◌, ◌++◌, ℕ, eqb}
use Rattle.checkword.specs.Bytes.{Bytes}
use Rattle.ground.specs.Choice.{pick}
use Rattle.link.specs.Plain.{happened}
use Rattle.link.specs.declared.Event.{Event}
use Rattle.node.specs.Accepted.{record_at}
use Rattle.node.specs.Calls.{Link, place_of}
use Rattle.node.specs.Calls.Call.{Send, Tick}
use Rattle.node.specs.Plain.{data_of}
use Rattle.demands.specs.Pairs.{telegram_of, Nodes, turned, Connected, Moment, sent, got, after, Made, made, Due, NothingTo, Arrives}

-- From the first node to the second, or back.
pub data Way : Type 0 where
  there : Way
  back : Way

-- What happens at the two nodes, one after the other: a message, by its command and net bytes, or an idle telegram by a tick, from one end to the other; or
-- a call of one node meanwhile that is nothing to this connection.
pub data Exchange : Type 0 where
  message : Way → ℕ → List ℕ → Moment → Exchange
  idle : Way → Moment → Exchange
  meanwhile : Way → Made → Exchange

-- The two nodes with the one that calls first, and the places of its record and of the other's.
abbrev pub facing : Way → Nodes → Nodes
facing there n = n
facing back n = turned n

abbrev pub caller : Way → ℕ → ℕ → ℕ
caller there i j = i
caller back i j = j

abbrev pub partner : Way → ℕ → ℕ → ℕ
partner there i j = j
partner back i j = i

-- The nodes after a call of one alone.
abbrev pub alone : Link → Nodes → Made → Nodes
alone link n m = record { head = (made link n.head n.table m).outcome.head; table = (made link n.head n.table m).table; head' = n.head'; table' = n.table' }

-- The nodes after an exchange.
abbrev pub then_on : Link → Nodes → ℕ → ℕ → Exchange → Nodes
then_on link n i j (message w low net m) = facing w (after link (facing w n) (caller w i j) (Send (caller w i j) low net) m)
then_on link n i j (idle w m) = facing w (after link (facing w n) (caller w i j) (Tick (caller w i j)) m)
then_on link n i j (meanwhile w m) = facing w (alone link (facing w n) m)

-- What each needs: a message has bytes and arrives; an idle telegram is due and arrives.
abbrev pub GoesWell : Link → Nodes → ℕ → ℕ → Exchange → Type 0
GoesWell link n i j (message w low net m) = Bytes net × Arrives link (facing w n) (caller w i j) (partner w i j) (Send (caller w i j) low net) m
GoesWell link n i j (idle w m) = Due (record_at (facing w n).table (caller w i j)) m.sent_at × Arrives link (facing w n) (caller w i j) (partner w i j) (Tick (caller w i j)) m
GoesWell link n i j (meanwhile w m) = NothingTo link (facing w n).head (facing w n).table (caller w i j) m

abbrev pub AllGoWell : Link → Nodes → ℕ → ℕ → List Exchange → Type 0
AllGoWell link n i j [] = Unit {0}
AllGoWell link n i j (x ∷ xs) = GoesWell link n i j x × AllGoWell link (then_on link n i j x) i j xs

-- What a taken telegram hands up: a data event its command and net bytes, any other nothing.
abbrev pub handed_by : Way → Event → List ℕ → List (Way × (ℕ × List ℕ))
handed_by w e telegram = pick (eqb (happened e).event 2) ((w, ((happened e).command, data_of e telegram)) ∷ []) []

-- What the two ends of the connection hand up at an exchange: the partner, of the telegram that it takes; and a node that makes a call meanwhile for its record
-- of this connection, whatever that call says, ..
abbrev pub heard : Link → Nodes → ℕ → ℕ → Exchange → List (Way × (ℕ × List ℕ))
heard link n i j (message w low net m) =
    handed_by w (got link (facing w n) (caller w i j) (Send (caller w i j) low net) m).outcome.event (telegram_of (sent link (facing w n) (Send (caller w i j) low net) m))
heard link n i j (idle w m) = handed_by w (got link (facing w n) (caller w i j) (Tick (caller w i j)) m).outcome.event (telegram_of (sent link (facing w n) (Tick (caller w i j)) m))
heard link n i j (meanwhile w m) =
    pick (eqb (place_of m.call (facing w n).table) (caller w i j)) (handed_by w (made link (facing w n).head (facing w n).table m).outcome.event []) []

-- .. and over all of them, and what was said.
abbrev pub handed_up : Link → Nodes → ℕ → ℕ → List Exchange → List (Way × (ℕ × List ℕ))
handed_up link n i j [] = []
handed_up link n i j (x ∷ xs) = heard link n i j x ++ handed_up link (then_on link n i j x) i j xs

abbrev pub messages : List Exchange → List (Way × (ℕ × List ℕ))
messages [] = []
messages (message w low net m ∷ xs) = (w, (low, net)) ∷ messages xs
messages (idle w m ∷ xs) = messages xs
messages (meanwhile w m ∷ xs) = messages xs

-- Connected at the start, and after each exchange.
abbrev pub StayConnected : Link → Nodes → ℕ → ℕ → List Exchange → Type 0
StayConnected link n i j [] = Connected n i j
StayConnected link n i j (x ∷ xs) = Connected n i j × StayConnected link (then_on link n i j x) i j xs

abbrev pub Demand2OverEveryStep : Link → Type 0
Demand2OverEveryStep link =
    (n : Nodes) (i j : ℕ) (xs : List Exchange) → Connected n i j → AllGoWell link n i j xs
    → (handed_up link n i j xs ≡ messages xs) × StayConnected link n i j xs
