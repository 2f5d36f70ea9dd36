-- What a call that was done did, as one effect: a receipt or a tick by its verdict, the other three by what they write.
-- Assumes nothing.
use mathlib.Core.Path.{◌≡◌, refl, sym, ap, subst, ◌∙◌}
use mathlib.Core.Bool.{Bool, true, false}
use mathlib.Core.List.{List, [], ◌++◌}
use Prim.Native.Nat.{ℕ, zero, suc, ◌≤◌}
use native.Mathlib.Omega.{arith}
use lib.ListN.{length, drop}
use lib.Seq.{get_or-set_same}
use lib.Dec.{leb, eqb}
use borrow.Author.Tests.{ne_eqb, leb-true, eqb-true, eqb-false}
use Rattle.std.specs.Prelude.{Option}
use Rattle.ground.specs.Choice.{pick}
use Rattle.telegram.specs.Fields.{type_of, reason_of}
use Rattle.telegram.specs.Values.{good_type, listed_reason}
use Rattle.telegram.specs.Layout.{most}
use Rattle.telegram.specs.Telegrams.{request, confirm, disconnect, data_telegram}
use Rattle.telegram.specs.Writers.Outcome.{wrote}
use Rattle.telegram.specs.Writers.{answer_of, unless, refusal, connect_allowed, data_allowed, disconnect_allowed, writes_request, writes_confirm, writes_authentication, writes_acknowledgement, writes_disconnect, writes_idle, writes_data}
use Rattle.telegram.specs.declared.Kind.TheVariants.{Disconnect}
use Rattle.telegram.proofs.Refusals.{clear, both_true}
use Rattle.link.specs.Records.{end_of, closed_by}
use Rattle.link.specs.Judged.{judged, ticked}
use Rattle.link.specs.Steps.{unless_step, unless_out, refused_step, quietly, writing_step, taken, sent, act_of, act_out, declared_by, open_refusal, open_of, open_out, close_refusal, close_of, close_out, send_refusal, send_of, send_out, received_refusal, received_of, received_out, tick_refusal, tick_of, tick_out}
use Rattle.link.specs.declared.Record.{Record}
use Rattle.link.specs.declared.Step.{Step}
use Rattle.link.specs.declared.Answer.{Answer}
use Rattle.link.specs.declared.Event.{Event}
use Rattle.link.specs.declared.Event.TheVariants as event
use Rattle.link.specs.declared.Verdict.{Verdict}
use Rattle.link.specs.declared.Verdict.TheVariants.{Nothing, Confirm, Authenticate, Acknowledge, Open as Opens, Data, Idle, SendIdle, Disconnected, Close as Closes}
use Rattle.node.specs.declared.Head.{Head}
use Rattle.node.specs.Accepted.{nowhere, record_at}
use Rattle.node.specs.Calls.{Call, Left, place_of, step_out, called}
use Rattle.node.specs.Calls.Call.{Open, Close, Send, Received, Tick}
use Rattle.demands.specs.Pairs.{telegram_of, Done}
use Rattle.demands.specs.Effects.{Effect, Does, nothing, asking, confirming, authenticating, acknowledging, opening, handing_up, taking_idle, sending_idle, sending_data, closing, closed_by_partner, Receipt, takes, place_for, record_for, ReceiptDoes}
use Rattle.demands.specs.Demand2.{IsClosed}
use Rattle.demands.proofs.Carried.{Carried, carried, step_in}
use Rattle.demands.proofs.Steps.{front, Writes, writes}

-- the telegram of what was done
pub told : (l : Left) (d : List ℕ) (place : ℕ) (x : Effect) → Does l d place x → telegram_of l ≡ x.telegram
told l d place x does = rw (does.size, does.buffer) (front x.telegram (drop (length x.telegram) d))

-- A step and the buffer that it leaves, as an effect
pub record StepsAs (s : Step) (out d : List ℕ) (x : Effect) : Type 0 where
  pub event : s.event ≡ x.event
  pub left : s.«record» ≡ x.after
  pub number : s.answer.telegram ≡ x.number
  pub size : s.answer.length ≡ length x.telegram
  pub buffer : out ≡ x.telegram ++ drop (length x.telegram) d

pub from_writes : {x d : List ℕ} {q : Record} {kind : ℕ} {e : Event} {m : ℕ} {s : Step} {out : List ℕ} → Writes x d q kind e m s out
    → StepsAs s out d (record { event = e; after = q; number = kind; telegram = x })
from_writes w = record { event = w.event; left = w.left; number = w.telegram; size = w.size; buffer = w.buffer }

-- one that writes nothing
from_quiet : (n : ℕ) (r q : Record) (e : Event) (d : List ℕ) → (unless_step n r (quietly q e)).answer.number ≡ 0
    → StepsAs (unless_step n r (quietly q e)) (unless_out n d d) d (record { event = e; after = q; number = 0; telegram = [] })
unfolding pick refused_step quietly
from_quiet zero r q e d z = record { event = refl; left = refl; number = refl; size = refl; buffer = refl }
from_quiet (suc n) r q e d z = let f = ne_eqb (suc n) 0 (λ y. omega arith) in let y : suc n ≡ 0 = (rw f at z) in absurd (omega arith)

-- the record that a call left
pub left_by : (c : Call) (h : Head) (t : List Record) (time : ℕ) (d : List ℕ) → Carried c h t time d → record_at (called c h t time d).table (place_of c t) ≡ (step_in c h t time d).«record»
left_by c h t time d g = ap (λ (y : List Record). record_at y (place_of c t)) g.table ∙ get_or-set_same t (place_of c t) _ nowhere g.there

-- so of the call
pub call_does : (c : Call) (h : Head) (t : List Record) (time : ℕ) (d : List ℕ) (x : Effect) → Carried c h t time d
    → StepsAs (step_in c h t time d) (step_out c (record_at t (place_of c t)) h.own time d) d x → Does (called c h t time d) d (place_of c t) x
call_does c h t time d x g s =
    record {
      says = g.event ∙ s.event;
      leaves = left_by c h t time d g ∙ s.left;
      writes = ap (λ (y : Answer). y.telegram) g.answer ∙ s.number;
      size = ap (λ (y : Answer). y.length) g.answer ∙ s.size;
      buffer = g.out ∙ s.buffer;
    }

-- By a verdict

abbrev pub effect_of : Verdict → Record → ℕ → ℕ → ℕ → ℕ → List ℕ → List ℕ → Effect
effect_of Nothing r own time random declared t net = nothing r
effect_of Confirm r own time random declared t net = confirming r own time random declared t net
effect_of Authenticate r own time random declared t net = authenticating r own time t
effect_of Acknowledge r own time random declared t net = acknowledging r own time
effect_of Opens r own time random declared t net = opening r time
effect_of Data r own time random declared t net = handing_up r time t
effect_of Idle r own time random declared t net = taking_idle r time
effect_of SendIdle r own time random declared t net = sending_idle r own time
effect_of Disconnected r own time random declared t net = closed_by_partner r (reason_of t) (eqb (type_of t) 0)
effect_of (Closes reason last) r own time random declared t net = closing r own reason last []

pub act_does : (n : ℕ) (v : Verdict) (r : Record) (own time random declared : ℕ) (t net d : List ℕ)
    → (unless_step n r (act_of v r own time random declared t net d)).answer.number ≡ 0
    → StepsAs (unless_step n r (act_of v r own time random declared t net d)) (unless_out n d (act_out v r own random declared t net d)) d (effect_of v r own time random declared t net)
unfolding taken sent writes_confirm writes_authentication writes_acknowledgement writes_disconnect writes_idle
act_does n Nothing r own time random declared t net d z = from_quiet n r r event.Nothing d z
act_does n Confirm r own time random declared t net d z =
    from_writes (writes n (refusal (end_of r own) (length d) (connect_allowed declared (length net) (end_of r own).level)) (confirm (end_of r own) random declared net) d r _ 2 event.Nothing z)
act_does n Authenticate r own time random declared t net d z = from_writes (writes n (refusal (end_of r own) (length d) true) _ d r _ 3 event.Nothing z)
act_does n Acknowledge r own time random declared t net d z = from_writes (writes n (refusal (end_of r own) (length d) true) _ d r _ 4 event.Opened z)
act_does n Opens r own time random declared t net d z = from_quiet n r _ event.Opened d z
act_does n Data r own time random declared t net d z = from_quiet n r _ _ d z
act_does n Idle r own time random declared t net d z = from_quiet n r _ event.Nothing d z
act_does n SendIdle r own time random declared t net d z = from_writes (writes n (refusal (end_of r own) (length d) true) _ d r _ 6 event.Nothing z)
act_does n Disconnected r own time random declared t net d z = from_quiet n r _ _ d z
act_does n (Closes reason last) r own time random declared t net d z =
    from_writes (writes n (refusal (end_of r own) (length d) (disconnect_allowed (pick last 0 1) reason 0 (end_of r own).level)) _ d r (closed_by last r) 5 (event.Closed reason last) z)

pub receipt_does : (x : Receipt) (v : Verdict) → judged (record_for x) x.head.own x.time x.telegram ≡ v
    → ReceiptDoes called x (effect_of v (record_for x) x.head.own x.time x.random (declared_by x.idle_time) x.telegram x.net)
unfolding received_of received_out
receipt_does x v f done =
    let r = record_for x in
    let c : Call = Received x.route x.random x.idle_time x.telegram x.net in
    let g = carried c x.head x.table x.time x.buffer done in
    subst (λ (w : Verdict). Does (takes called x) x.buffer (place_for x) (effect_of w r x.head.own x.time x.random (declared_by x.idle_time) x.telegram x.net)) f
    (call_does c x.head x.table x.time x.buffer _ g
    (act_does (received_refusal r x.head.own x.idle_time x.telegram x.net x.buffer) (judged r x.head.own x.time x.telegram) r x.head.own x.time x.random
    (declared_by x.idle_time) x.telegram x.net x.buffer g.number))

-- at a place that is known
pub receipt_at : (x : Receipt) (j : ℕ) (v : Verdict) → place_for x ≡ j → judged (record_at x.table j) x.head.own x.time x.telegram ≡ v → Done (takes called x)
    → Does (takes called x) x.buffer j (effect_of v (record_at x.table j) x.head.own x.time x.random (declared_by x.idle_time) x.telegram x.net)
receipt_at x j v p f done =
    subst (λ (y : ℕ). Does (takes called x) x.buffer y (effect_of v (record_at x.table y) x.head.own x.time x.random (declared_by x.idle_time) x.telegram x.net)) p
    (receipt_does x v (subst (λ (y : ℕ). judged (record_at x.table y) x.head.own x.time x.telegram ≡ v) (sym p) f) done)

pub tick_does : (h : Head) (t : List Record) (i time : ℕ) (d : List ℕ) (v : Verdict) → ticked (record_at t i) time ≡ v → Done (called (Tick i) h t time d)
    → Does (called (Tick i) h t time d) d i (effect_of v (record_at t i) h.own time 0 0 [] [])
unfolding tick_of tick_out
tick_does h t i time d v f done =
    let r = record_at t i in
    let g = carried (Tick i) h t time d done in
    subst (λ (w : Verdict). Does (called (Tick i) h t time d) d i (effect_of w r h.own time 0 0 [] [])) f
    (call_does (Tick i) h t time d _ g (act_does (tick_refusal r h.own d) (ticked r time) r h.own time 0 0 [] [] d g.number))

-- The other three calls

module _ (h : Head) (t : List Record) (i time : ℕ) (d : List ℕ) where
  abbrev r : Record
  r = record_at t i

  pub open_does : (random : ℕ) (idle_time : Option ℕ) (net : List ℕ) → Done (called (Open i random idle_time net) h t time d)
      → Does (called (Open i random idle_time net) h t time d) d i (asking r h.own time random (declared_by idle_time) net)
  unfolding open_of open_out writes_request
  open_does random idle_time net done =
      let g = carried (Open i random idle_time net) h t time d done in
      call_does (Open i random idle_time net) h t time d _ g
      (from_writes
      (writes (open_refusal r h.own idle_time net d) (refusal (end_of r h.own) (length d) (connect_allowed (declared_by idle_time) (length net) (end_of r h.own).level))
      (request (end_of r h.own) random (declared_by idle_time) net) d r _ 1 event.Nothing g.number))

  pub send_writes : (low : ℕ) (net : List ℕ) → Carried (Send i low net) h t time d
      → Writes (data_telegram (end_of r h.own) r.sending low net) d (sent r time) 7 event.Nothing (refusal (end_of r h.own) (length d) (data_allowed low (length net) (end_of r h.own).level))
      (send_of r h.own time low net d) (send_out r h.own low net d)
  unfolding send_of send_out writes_data
  send_writes low net g =
      writes (send_refusal r h.own low net d) (refusal (end_of r h.own) (length d) (data_allowed low (length net) (end_of r h.own).level))
      (data_telegram (end_of r h.own) r.sending low net) d r (sent r time) 7 event.Nothing g.number

  pub send_does : (low : ℕ) (net : List ℕ) → Done (called (Send i low net) h t time d) → Does (called (Send i low net) h t time d) d i (sending_data r h.own time low net)
  unfolding sent
  send_does low net done =
      let g = carried (Send i low net) h t time d done in call_does (Send i low net) h t time d _ g (from_writes (send_writes low net g))

-- a disconnect has a type, 0 or 1
type_is : (type reason count l : ℕ) → disconnect_allowed type reason count l ≡ true → type ≡ pick (eqb type 0) 0 1
unfolding disconnect_allowed good_type pick
type_is type reason count l ok = by (eqb type 0) refl
  where
    small : type ≤ 1
    small = leb-true type 1 (both_true (good_type type) (pick (listed_reason reason) (leb count (most Disconnect l)) false) ok).0

    by : (b : Bool) → eqb type 0 ≡ b → type ≡ pick b 0 1
    by true f = eqb-true type 0 f
    by false f = let some = eqb-false type 0 f in omega (arith, small)

-- A step that wrote a disconnect, with reason, finality and text
pub record Disconnects (r : Record) (own : ℕ) (d : List ℕ) (s : Step) (out : List ℕ) (reason : ℕ) (last : Bool) (text : List ℕ) : Type 0 where
  pub written : writes_disconnect (end_of r own) r.sending (pick last 0 1) reason text d ≡ wrote (disconnect (end_of r own) r.sending (pick last 0 1) reason text)
  pub does : StepsAs s out d (closing r own reason last text)

-- by a verdict
pub act_closes : (n reason : ℕ) (last : Bool) (r : Record) (own time random declared : ℕ) (t net d : List ℕ)
    → (unless_step n r (act_of (Closes reason last) r own time random declared t net d)).answer.number ≡ 0
    → Disconnects r own d (unless_step n r (act_of (Closes reason last) r own time random declared t net d)) (unless_out n d (act_out (Closes reason last) r own random declared t net d)) reason last []
unfolding writes_disconnect
act_closes n reason last r own time random declared t net d z =
    let w =
    writes n (refusal (end_of r own) (length d) (disconnect_allowed (pick last 0 1) reason 0 (end_of r own).level)) (disconnect (end_of r own) r.sending (pick last 0 1) reason []) d r
    (closed_by last r) 5 (event.Closed reason last) z in
    record { written = w.written; does = from_writes w }

-- by close
pub close_closes_step : (r : Record) (own type reason : ℕ) (text d : List ℕ) → (close_of r own type reason text d).answer.number ≡ 0
    → Disconnects r own d (close_of r own type reason text d) (close_out r own type reason text d) reason (eqb type 0) text
unfolding close_of close_out writes_disconnect
close_closes_step r own type reason text d z =
    let m : ℕ = refusal (end_of r own) (length d) (disconnect_allowed type reason (length text) (end_of r own).level) in
    let w = writes (close_refusal r own type reason text d) m (disconnect (end_of r own) r.sending type reason text) d r (closed_by (eqb type 0) r) 5 (event.Closed reason (eqb type 0)) z in
    let ok = clear (end_of r own) (length d) 0 (disconnect_allowed type reason (length text) (end_of r own).level) (sym w.none) refl in
    let e = type_is type reason (length text) (end_of r own).level ok.2 in
    record {
      written = subst (λ (y : ℕ). writes_disconnect (end_of r own) r.sending y reason text d ≡ wrote (disconnect (end_of r own) r.sending y reason text)) e w.written;
      does = subst (λ (y : ℕ). StepsAs (close_of r own type reason text d) (close_out r own type reason text d) d (record { event = event.Closed reason (eqb type 0); after = closed_by (eqb type 0) r; number = 5; telegram = disconnect (end_of r own) r.sending y reason text })) e (from_writes w);
    }

pub close_does : (h : Head) (t : List Record) (i time : ℕ) (d : List ℕ) (type reason : ℕ) (text : List ℕ) → Done (called (Close i type reason text) h t time d)
    → IsClosed (called (Close i type reason text) h t time d) h t d i reason (eqb type 0) text
close_does h t i time d type reason text done =
    let g = carried (Close i type reason text) h t time d done in
    call_does (Close i type reason text) h t time d _ g (close_closes_step (record_at t i) h.own type reason text d g.number).does

-- What the writer of a done call answered: that it wrote, not that it refused

pub call_wrote : (c : Call) (h : Head) (t : List Record) (time : ℕ) (d : List ℕ) (n m : ℕ) (x : List ℕ) (q : Record) (kind : ℕ) (e : Event)
    → step_in c h t time d ≡ unless_step n (record_at t (place_of c t)) (writing_step (answer_of (unless m x)) (record_at t (place_of c t)) q kind e) → Done (called c h t time d) → unless m x ≡ wrote x
call_wrote c h t time d n m x q kind e is done =
    (writes n m x d (record_at t (place_of c t)) q kind e (ap (λ (s : Step). s.answer.number) (sym is) ∙ (carried c h t time d done).number)).written

-- of a receipt, at a place that is known, by a verdict that writes
pub receipt_wrote : (x : Receipt) (j : ℕ) (v : Verdict) (m : ℕ) (y : List ℕ) (q : Record) (kind : ℕ) (e : Event) → place_for x ≡ j
    → judged (record_at x.table j) x.head.own x.time x.telegram ≡ v
    → act_of v (record_at x.table j) x.head.own x.time x.random (declared_by x.idle_time) x.telegram x.net x.buffer
    ≡ writing_step (answer_of (unless m y)) (record_at x.table j) q kind e → Done (takes called x) → unless m y ≡ wrote y
unfolding received_of
receipt_wrote x j v m y q kind e p f is done =
    call_wrote (Received x.route x.random x.idle_time x.telegram x.net) x.head x.table x.time x.buffer
    (received_refusal (record_for x) x.head.own x.idle_time x.telegram x.net x.buffer) m y q kind e (rw (p, f, is) refl) done
