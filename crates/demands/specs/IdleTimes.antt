-- Demand 2, the idle times that are declared, in numbers: an opening and a confirm declare the time that is named, 0 too, and 1,000 where none is (change
-- request e). OneEnd.antt and SetUp.antt state them by `declared_by`; here that definition is not named, so that a fault in it is seen too.
-- Assumes nothing.
use Rattle.std.specs.Prelude.{◌≡◌, false, List, [], ◌∷◌, ℕ, ◌+◌, ◌%◌, ◌≤◌, ◌<◌, length, take, drop, Option, Some, None}
use Rattle.ground.specs.Numbers.{lowest_first}
use Rattle.telegram.specs.Layout.{most}
use Rattle.telegram.specs.declared.Kind.TheVariants.{Request}
use Rattle.link.specs.declared.Record.{Record}
use Rattle.node.specs.declared.Head.{Head}
use Rattle.node.specs.Accepted.{record_at}
use Rattle.node.specs.Calls.{Left, Link}
use Rattle.node.specs.Calls.Call.{Open, Tick}
use Rattle.demands.specs.Pairs.{telegram_of, Done}
use Rattle.demands.specs.Effects.{Does, nothing, sending_idle, Receipt, takes, place_for, record_for}
use Rattle.demands.specs.Demand2.{IsClosed}
use Rattle.demands.specs.OneEnd.{GoodRequest}
use Rattle.demands.specs.SetUp.{Parties, Undisturbed, AllDone, acknowledges, opens}

-- The record at a place declares this time, and the telegram carries it: its bytes 7 and 8 (5.2.1.3, 5.2.2.2) are these.
pub record Carries (l : Left) (place time : ℕ) (bytes : List ℕ) : Type 0 where
  pub declared : (record_at l.table place).declared ≡ time
  pub bytes_7_and_8 : take 2 (drop 6 (telegram_of l)) ≡ bytes

-- A call that is given this idle time declares that time, by these bytes, where it opens and where it confirms. And a time that a telegram may carry (5.2.1.3) is
-- not the cause of answer 5: that comes from net data which are too long.
pub record Declares (link : Link) (i : Option ℕ) (time : ℕ) (bytes : List ℕ) : Type 0 where
  pub opening : (place random : ℕ) (net : List ℕ) (h : Head) (t : List Record) (now : ℕ) (d : List ℕ) → Done (link (Open place random i net) h t now d)
      → Carries (link (Open place random i net) h t now d) place time bytes
  pub confirming : (x : Receipt) → x.idle_time ≡ i → (record_for x).phase ≡ 1 → GoodRequest x → Done (takes link x) → Carries (takes link x) (place_for x) time bytes
  pub opening_allowed : time ≤ 65500 → time % 100 ≡ 0 → (place random : ℕ) (net : List ℕ) (h : Head) (t : List Record) (now : ℕ) (d : List ℕ)
      → (link (Open place random i net) h t now d).outcome.answer.number ≡ 5 → most Request (record_at t place).level < length net
  pub receipt_allowed : time ≤ 65500 → time % 100 ≡ 0 → (x : Receipt) → x.idle_time ≡ i → (takes link x).outcome.answer.number ≡ 5
      → most Request (record_for x).level < length x.net

-- What ticks do with an open record at a place that last sent and last took a telegram at these times, where both ends declare 1,000: an idle telegram is due 500
-- after the last sending (5.2.6.5; half of the time is ours) and not before, and the partner's silence is borne for 1,000 (5.2.6.3, 5.2.6.4) and no longer.
pub record Keeps1000 (link : Link) (h : Head) (t : List Record) (i sent_at taken_at : ℕ) : Type 0 where
  pub early : (time : ℕ) (d : List ℕ) → time < sent_at + 500 → time ≤ taken_at + 1000 → Done (link (Tick i) h t time d)
      → Does (link (Tick i) h t time d) d i (nothing (record_at t i))
  pub due : (time : ℕ) (d : List ℕ) → sent_at + 500 ≤ time → time ≤ taken_at + 1000 → Done (link (Tick i) h t time d)
      → Does (link (Tick i) h t time d) d i (sending_idle (record_at t i) h.own time)
  pub silence : (time : ℕ) (d : List ℕ) → taken_at + 1000 < time → Done (link (Tick i) h t time d) → IsClosed (link (Tick i) h t time d) h t d i 0x05 false []

-- So it is after a set-up at the opener, which sent its authentication with the third call and took the acknowledgement with the fifth, and at the responder, which
-- took the one and sent the other with the fourth (5.2.6.2.1, 5.2.6.2.2).
pub record BothKeep1000 (link : Link) (p : Parties) : Type 0 where
  pub opener : Keeps1000 link (opens link p).outcome.head (opens link p).table p.i p.third.time p.fifth.time
  pub responder : Keeps1000 link (acknowledges link p).outcome.head (acknowledges link p).table p.j p.fourth.time p.fourth.time

-- Where none is named 1,000, lowest byte first (5.1.1.6), else the time that is; and where neither end names one, both keep 1,000.
pub record Demand2IdleTimes (link : Link) : Type 0 where
  pub none : Declares link None 1000 (0xE8 ∷ 0x03 ∷ [])
  pub named : (time : ℕ) → Declares link (Some time) time (lowest_first 2 time)
  pub neither : (p : Parties) → p.first.idle_time ≡ None → p.second.idle_time ≡ None → Undisturbed link p → AllDone link p → BothKeep1000 link p
