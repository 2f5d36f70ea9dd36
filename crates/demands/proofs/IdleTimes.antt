-- The idle times declared, as specs/IdleTimes.antt states them: what a call does, which Effects.antt and OneEnd.antt have, with `declared_by` computed.
-- Assumes nothing.
use mathlib.Core.Path.{◌≡◌, refl, sym, ap, ◌∙◌}
use mathlib.Core.Bool.{Bool, true, false}
use mathlib.Core.List.{List, [], ◌∷◌}
use Prim.Native.Nat.{ℕ, ◌%◌, ◌≤◌, ◌<◌}
use native.Mathlib.Omega.{arith}
use lib.ListN.{length, take, drop}
use borrow.Author.Tests.{leb-false, le-leb, eq-eqb}
use Rattle.std.specs.Prelude.{Option, Some, None}
use Rattle.ground.specs.Choice.{pick}
use Rattle.ground.specs.Numbers.{lowest_first}
use Rattle.telegram.specs.Commands.{kind_of}
use Rattle.telegram.specs.Layout.{most}
use Rattle.telegram.specs.Telegrams.{sealed, body, request, confirm}
use Rattle.telegram.specs.Values.{good_idle}
use Rattle.telegram.specs.Writers.{connect_allowed}
use Rattle.telegram.specs.declared.End.{End}
use Rattle.telegram.specs.declared.Kind.TheVariants.{Request}
use Rattle.link.specs.Records.{become}
use Rattle.link.specs.Steps.{declared_by}
use Rattle.link.specs.declared.Record.{Record}
use Rattle.link.proofs.Facts.{unnamed}
use Rattle.node.specs.declared.Head.{Head}
use Rattle.node.specs.Accepted.{record_at}
use Rattle.node.specs.Refusals.{Asked, order, first}
use Rattle.node.specs.Calls.{Left, asked, called}
use Rattle.node.specs.Calls.Call.{Open, Received, Tick}
use Rattle.node.proofs.Facts.{first_answered}
use Rattle.demands.specs.Pairs.{Watching, Listens}
use Rattle.demands.specs.Effects.{Effect, Does, place_for, record_for}
use Rattle.demands.specs.OneEnd.{LooksAt}
use Rattle.demands.specs.IdleTimes.{Carries, Declares, Keeps1000, Demand2IdleTimes}
use Rattle.demands.proofs.Effects.{told, open_does}
use Rattle.demands.proofs.OneEnd.{silence_closes_here, ticks_in_time, when_closed}
use Rattle.demands.proofs.SetUp.{demand_2_set_up}

-- Bytes 7 and 8 of a connect telegram are its idle time.
request_says : (e : End) (random time : ℕ) (net : List ℕ) → take 2 (drop 6 (request e random time net)) ≡ lowest_first 2 time
unfolding request sealed body kind_of pick
request_says e random time net = refl

confirm_says : (e : End) (random time : ℕ) (net : List ℕ) → take 2 (drop 6 (confirm e random time net)) ≡ lowest_first 2 time
unfolding confirm sealed body kind_of pick
confirm_says e random time net = refl

-- What was done, where the record left declares this time and the telegram says so.
says : (l : Left) (d : List ℕ) (place : ℕ) (x : Effect) (time : ℕ) (bytes : List ℕ) → Does l d place x → x.after.declared ≡ time → take 2 (drop 6 x.telegram) ≡ bytes
    → Carries l place time bytes
says l d place x time bytes does declared bytes_are =
    record {
      declared = ap (λ (r : Record). r.declared) does.leaves ∙ declared;
      bytes_7_and_8 = ap (λ (u : List ℕ). take 2 (drop 6 u)) (told l d place x does) ∙ bytes_are;
    }

-- Answer 5 is the last in the order: the values are not allowed.
past : (b : Bool) (n rest : ℕ) → (n ≡ 5 → ⊥) → pick b rest n ≡ 5 → rest ≡ 5
unfolding pick
past true n rest other five = five
past false n rest other five = absurd (other five)

not_allowed : (b : Bool) → ◌≡◌ {A = ℕ} (pick b 0 5) 5 → b ≡ false
unfolding pick
not_allowed true five = absurd (omega arith)
not_allowed false five = refl

five : (a : Asked) → first (order a) ≡ 5 → a.allowed ≡ false
five a e =
    not_allowed a.allowed
    (past a.suited 3 _ (λ z. omega arith)
    (past a.live 8 _ (λ z. omega arith)
    (past a.placed 2 _ (λ z. omega arith)
    (past a.carried 6 _ (λ z. omega arith)
    (past a.timely 7 _ (λ z. omega arith) (past a.room 4 _ (λ z. omega arith) (past a.table 1 _ (λ z. omega arith) e)))))))

-- And with a good idle time it is the net data.
too_long : (time count l : ℕ) → good_idle time ≡ true → connect_allowed time count l ≡ false → most Request l < count
unfolding connect_allowed pick
too_long time count l good not = leb-false count (most Request l) (rw good at not)

good_by : (time : ℕ) → time ≤ 65500 → time % 100 ≡ 0 → good_idle time ≡ true
unfolding good_idle pick
good_by time most_is hundreds = rw (le-leb time 65500 most_is, eq-eqb (time % 100) 0 hundreds) refl

declares : (i : Option ℕ) (time : ℕ) (bytes : List ℕ) → declared_by i ≡ time → lowest_first 2 time ≡ bytes → Declares called i time bytes
unfolding become asked
declares i time bytes known written =
    record {
      opening = λ place random net h t now d done.
          says _ d place _ time bytes (open_does h t place now d random i net done) known (request_says _ random (declared_by i) net ∙ ap (lowest_first 2) known ∙ written);
      confirming = λ x same closed good done.
          let is : declared_by x.idle_time ≡ time = ap declared_by same ∙ known in
          says _ x.buffer (place_for x) _ time bytes (when_closed.confirms x closed good done) is
          (confirm_says _ x.random (declared_by x.idle_time) x.net ∙ ap (lowest_first 2) is ∙ written);
      opening_allowed = λ most_is hundreds place random net h t now d e.
          too_long time (length net) (record_at t place).level (good_by time most_is hundreds)
          (ap (λ (y : ℕ). connect_allowed y (length net) (record_at t place).level) (sym known)
          ∙ five (asked (Open place random i net) h t now d) (sym (first_answered (Open place random i net) h t now d) ∙ e));
      receipt_allowed = λ most_is hundreds x same e.
          let c = Received x.route x.random x.idle_time x.telegram x.net in
          too_long time (length x.net) (record_for x).level (good_by time most_is hundreds)
          (ap (λ (y : ℕ). connect_allowed y (length x.net) (record_for x).level) (sym (ap declared_by same ∙ known))
          ∙ five (asked c x.head x.table x.time x.buffer) (sym (first_answered c x.head x.table x.time x.buffer) ∙ e));
    }

-- A record that is open and has these idle times and timers.
keeps_1000 : (h : Head) (t : List Record) (i T U sent_at taken_at : ℕ) → T ≡ 1000 → U ≡ 1000 → (record_at t i).phase ≡ 5 → Watching (record_at t i) T U sent_at taken_at
    → Keeps1000 called h t i sent_at taken_at
keeps_1000 h t i T U sent_at taken_at T-is U-is phase w =
    let declared : (record_at t i).declared ≡ 1000 = w.declared_is ∙ T-is in
    let watched : (record_at t i).watched ≡ 1000 = w.watched_is ∙ U-is in
    let sent : (record_at t i).sent_at ≡ sent_at = w.sent_at_is in
    let taken : (record_at t i).taken_at ≡ taken_at = w.taken_at_is in
    record {
      early = λ time d soon in_time.
          ticks_in_time.early h t i time d (Listens.open_here phase (λ some. omega arith)) (λ opened due. let half = due.half in omega arith);
      due = λ time d late in_time. ticks_in_time.due h t i time d phase (record { declares = λ e. omega arith; half = omega arith; in_time = λ some. omega arith });
      silence = λ time d late. silence_closes_here (Tick i) h t i time d (LooksAt.tick refl) phase (λ e. omega arith) (omega arith);
    }

pub demand_2_idle_times : Demand2IdleTimes called
demand_2_idle_times =
    record {
      none = declares None 1000 (0xE8 ∷ 0x03 ∷ []) unnamed.declares refl;
      named = λ time. declares (Some time) time (lowest_first 2 time) (unnamed.named time) refl;
      neither = λ p first second s done.
          let both = demand_2_set_up p s done in
          let T = ap declared_by first ∙ unnamed.declares in
          let U = ap declared_by second ∙ unnamed.declares in
          record {
            opener = keeps_1000 _ _ p.i _ _ p.third.time p.fifth.time T U both.connected.towards.open_to.open_here both.opener_watches;
            responder = keeps_1000 _ _ p.j _ _ p.fourth.time p.fourth.time U T both.connected.towards.open_to.open_there both.responder_watches;
          };
    }
