-- Demand 2, at one end: the verdict on a receipt or a tick is what the table says for the timer, the check or the kind, and the call does what the verdict
-- says; a verdict that opens stands in two of its cells only, one that hands up data in one.
-- Assumes nothing.
use mathlib.Core.Path.{◌≡◌, refl, sym, ap, subst, ◌∙◌}
use mathlib.Core.Bool.{Bool, true, false}
use mathlib.Core.List.{List, [], ◌∷◌}
use mathlib.Core.Logic.{◌⊎◌, inl, inr}
use Prim.Native.Nat.{ℕ, ◌+◌, ◌≤◌, ◌<◌}
use native.Mathlib.Omega.{arith}
use lib.Dec.{ltb, eqb}
use borrow.Author.Tests.{eq-eqb, ne_eqb, eqb-true, eqb-false, le-leb, ltb-true, ltb-false, lt-ltb}
use Rattle.ground.specs.Choice.{pick}
use Rattle.std.specs.Prelude.{Ok, Err}
use Rattle.telegram.specs.Fields.{authentication_of}
use Rattle.telegram.specs.Commands.{kind_of_command, known}
use Rattle.telegram.specs.Telegrams.{authentication_number}
use Rattle.telegram.specs.Check.{command_of, check_of, Check, Passes}
use Rattle.telegram.specs.declared.Kind.{Kind}
use Rattle.telegram.specs.declared.Kind.TheVariants as kind
use Rattle.telegram.proofs.Apart.{passed as passed-check}
use Rattle.link.specs.Records.{end_of}
use Rattle.link.specs.Table.{Timeout-brk, Timeout-snd, Incorrect-rcv-1st}
use Rattle.link.specs.Times.{gap, wait_over, idle_due}
use Rattle.link.specs.Judged.{row_of, ruled, narrowed, checked_by, back, good_version, good_number, expected_now, run_out, run_out_verdict, passed, judged, ticked}
use Rattle.link.specs.Steps.{declared_by, received_refusal, tick_refusal}
use Rattle.link.specs.Plain.{happened}
use Rattle.link.specs.declared.Record.{Record}
use Rattle.link.specs.declared.Event.{Event}
use Rattle.link.specs.declared.Verdict.{Verdict}
use Rattle.link.specs.declared.Verdict.TheVariants.{Nothing, Confirm, Authenticate, Acknowledge, Open as Opens, Data, Idle, SendIdle, Disconnected, Close as Closes}
use Rattle.link.proofs.Cases.{phases, live_phase}
use Rattle.link.proofs.Facts.{by_the_table, final_stays}
use Rattle.link.proofs.Answers.{answers}
use Rattle.node.specs.declared.Head.{Head}
use Rattle.node.specs.declared.Outcome.{Outcome}
use Rattle.node.specs.Accepted.{record_at}
use Rattle.node.specs.Matching.{first_match}
use Rattle.node.specs.Calls.{Call, place_of, refused_outcome, called}
use Rattle.node.specs.Calls.Call.{Open, Close, Send, Received, Tick}
use Rattle.node.proofs.Facts.{refused_changes_nothing, others_unchanged, net_data_handed_on}
use Rattle.demands.specs.Pairs.{Done, Made, made, InTime, Listens}
use Rattle.demands.specs.Pairs.Listens.{set_up, open_here}
use Rattle.demands.specs.Effects.{Effect, Does, Receipt, takes, record_for, Passing, kind_of}
use Rattle.demands.specs.Demand2.{IsClosed}
use Rattle.demands.specs.OneEnd.{LooksAt, SilenceClosesHere, LateCloses, LateAnswerCloses, TicksInTime, GoodRequest, WhenClosed, Awaiting, ConfirmAwaited, AnswerAwaited, acknowledged, opened, ForAnOpen, WhenOpen, IncorrectClosesHere, PartnerClosesHere, CallsOfOurs, AnswersUs, ByAnAnswer, OpensOnlyByAnAnswer, FromAGoodTelegram, DataOnlyFromAGoodTelegram, NeverReopens, Demand2OneEnd}
use Rattle.demands.specs.OneEnd.LooksAt.{tick, receipt}
use Rattle.demands.proofs.Carried.{carried, step_in, done_by_holds}
use Rattle.demands.proofs.Effects.{effect_of, left_by, receipt_does, receipt_at, tick_does, open_does, send_does, close_does}
use Rattle.demands.proofs.Demand2.{open_in_time, waits_in_time, due_sends, expects, watch_ran_out}
use Rattle.demands.proofs.EveryStep.{quiet_tick}

-- Timers

-- a timer that has run out, whichever call looks at it
record RanOut (r : Record) (own time reason : ℕ) (last : Bool) : Type 0 where
  on_tick_holds : ticked r time ≡ Closes reason last
  on_receipt : (telegram : List ℕ) → judged r own time telegram ≡ Closes reason last

looking_closes : (c : Call) (h : Head) (t : List Record) (i time : ℕ) (d : List ℕ) (reason : ℕ) (last : Bool) → LooksAt c t i → RanOut (record_at t i) h.own time reason last
    → Done (called c h t time d) → IsClosed (called c h t time d) h t d i reason last []
looking_closes c h t i time d reason last (tick e) v done = rw e (tick_does h t i time d (Closes reason last) v.on_tick_holds (rw e at done))
looking_closes c h t i time d reason last (receipt w random idle_time telegram net e place) v done =
    rw e
    (receipt_at (record { route = w; random = random; idle_time = idle_time; telegram = telegram; net = net; head = h; table = t; time = time; buffer = d }) i (Closes reason last) place
    (v.on_receipt telegram) (rw e at done))

pub silence_closes_here : SilenceClosesHere called
unfolding pick
silence_closes_here c h t i time d looks p some over done =
    let r = record_at t i in
    let out = watch_ran_out r time p some over in
    looking_closes c h t i time d 0x05 false looks
    (record { on_tick_holds = (by_the_table.silent r 0 time [] p out).1; on_receipt = λ telegram. (by_the_table.silent r h.own time telegram p out).0 }) done

wait_ran_out : (r : Record) (time q : ℕ) → r.phase ≡ q → 2 ≤ q → q ≤ 4 → r.sent_at + 5000 < time → run_out r time ≡ true
unfolding run_out wait_over pick
wait_ran_out r time q p low high over = rw (p, ne_eqb q 5 (λ e. omega arith), le-leb 2 q low, le-leb q 4 high) (lt-ltb 5000 (gap r.sent_at time) (omega arith))

waited_out : (r : Record) (own time q reason : ℕ) (last : Bool) → r.phase ≡ q → 2 ≤ q → q ≤ 4 → r.sent_at + 5000 < time → ruled Timeout-brk q ≡ Closes reason last
    → RanOut r own time reason last
waited_out r own time q reason last p low high over cell =
    let out = wait_ran_out r time q p low high over in
    let waiting : r.phase ≡ 5 → ⊥ = λ e. omega arith in
    record {
      on_tick_holds = (by_the_table.waited r own time [] waiting out).1 ∙ ap (ruled Timeout-brk) p ∙ cell;
      on_receipt = λ telegram. (by_the_table.waited r own time telegram waiting out).0 ∙ ap (ruled Timeout-brk) p ∙ cell;
    }

late_closes : (q reason : ℕ) (last : Bool) → 2 ≤ q → q ≤ 4 → ruled Timeout-brk q ≡ Closes reason last → LateCloses called q reason last
late_closes q reason last low high cell c h t i time d looks p over done =
    looking_closes c h t i time d reason last looks (waited_out (record_at t i) h.own time q reason last p low high over cell) done

pub late_answer_closes : LateAnswerCloses called
unfolding pick
late_answer_closes =
    record {
      confirm = late_closes 2 0x02 false (omega arith) (omega arith) refl;
      authentication = late_closes 3 0x03 true (omega arith) (omega arith) refl;
      acknowledgement = late_closes 4 0x03 true (omega arith) (omega arith) refl;
    }

-- timers that have not run out
awaiting_in_time : (r : Record) (time p : ℕ) → 2 ≤ p → p ≤ 4 → Awaiting r time p → run_out r time ≡ false
awaiting_in_time r time p low high a = let q = a.phase_is in waits_in_time r time (omega arith) (omega arith) a.in_time

-- on a closed record nothing runs out
closed_in_time : (r : Record) (time : ℕ) → r.phase ≡ 1 → run_out r time ≡ false
unfolding run_out pick
closed_in_time r time p = rw p refl

listens_in_time : (r : Record) (time : ℕ) → Listens r time → run_out r time ≡ false
listens_in_time r time (set_up low high early) = waits_in_time r time low high early
listens_in_time r time (open_here p early) = open_in_time r time p early

closed_tick : (r : Record) (time : ℕ) → r.phase ≡ 1 → ticked r time ≡ Nothing
unfolding ticked run_out pick
closed_tick r time p = rw p refl

pub ticks_in_time : TicksInTime called
ticks_in_time =
    record {
      done = λ h t i time d good room timely there live. done_by_holds (Tick i) h t time d good room timely refl there live refl refl;
      due = λ h t i time d p due done. tick_does h t i time d SendIdle (due_sends (record_at t i) time p due) done;
      early = λ h t i time d listens not_yet done. tick_does h t i time d Nothing (quiet_tick (record_at t i) time listens not_yet) done;
      closed = λ h t i time d p done. tick_does h t i time d Nothing (closed_tick (record_at t i) time p) done;
    }

-- Telegrams

-- one that passes the check: its kind's row
row_in : (x : Receipt) (k : Kind) (p : ℕ) → (record_for x).phase ≡ p → run_out (record_for x) x.time ≡ false → Passing x → kind_of x ≡ k
    → judged (record_for x) x.head.own x.time x.telegram ≡ narrowed (ruled (row_of k) p) (record_for x) x.telegram
row_in x k p e w c f =
    by_the_table.passing (record_for x) x.head.own x.time x.telegram w c ∙ ap (λ (z : Kind). narrowed (ruled (row_of z) (record_for x).phase) (record_for x) x.telegram) f
    ∙ ap (λ (z : ℕ). narrowed (ruled (row_of k) z) (record_for x) x.telegram) e

-- one that doesn't
pub failing_row : (r : Record) (own time : ℕ) (t : List ℕ) → run_out r time ≡ false → (check_of (end_of r own) (expected_now r) t ≡ Passes → ⊥) → judged r own time t ≡ ruled Incorrect-rcv-1st r.phase
unfolding judged pick
failing_row r own time t in_time fails = rw in_time (by (check_of (end_of r own) (expected_now r) t) refl)
  where
    by : (c : Check) → check_of (end_of r own) (expected_now r) t ≡ c → checked_by c r t ≡ ruled Incorrect-rcv-1st r.phase
    by (Ok done) e = absurd (fails e)
    by (Err why) e = refl

-- a telegram that passes is of a kind that there is
pub kind_known : (x : Receipt) → Passing x → known (kind_of x) ≡ true
kind_known x c = (passed-check (end_of (record_for x) x.head.own) (expected_now (record_for x)) x.telegram c).of_kind

pub unknown_is_not : known kind.Unknown ≡ true → ⊥
unknown_is_not e = let z : ◌≡◌ {A = ℕ} 0 1 = cc in omega arith

-- Closed: a good request is confirmed, all else dropped

closed_row : (k : Kind) (r : Record) (t : List ℕ) → (k ≡ kind.Request → good_version t ≡ false) → narrowed (ruled (row_of k) 1) r t ≡ Nothing
unfolding pick
closed_row kind.Request r t bad = rw (bad refl) refl
closed_row kind.Confirm r t bad = refl
closed_row kind.Authentication r t bad = refl
closed_row kind.Acknowledgement r t bad = refl
closed_row kind.Disconnect r t bad = refl
closed_row kind.Idle r t bad = refl
closed_row kind.Data r t bad = refl
closed_row kind.Unknown r t bad = refl

not-true : (b : Bool) → (b ≡ true → ⊥) → b ≡ false
not-true true n = absurd (n refl)
not-true false n = refl

pub when_closed : WhenClosed called
unfolding judged passed pick
when_closed =
    record {
      confirms = λ x p good done.
          receipt_does x Confirm (row_in x kind.Request 1 p (closed_in_time (record_for x) x.time p) good.passes good.kind ∙ (rw good.version refl)) done;
      drops = λ x p bad done. receipt_does x Nothing (dropped x p bad) done;
    }
  where
    dropped : (x : Receipt) → (record_for x).phase ≡ 1 → (GoodRequest x → ⊥) → judged (record_for x) x.head.own x.time x.telegram ≡ Nothing
    dropped x p bad = rw (closed_in_time (record_for x) x.time p) (by (check_of (end_of (record_for x) x.head.own) (expected_now (record_for x)) x.telegram) refl)
      where
        by : (c : Check) → check_of (end_of (record_for x) x.head.own) (expected_now (record_for x)) x.telegram ≡ c → checked_by c (record_for x) x.telegram ≡ Nothing
        by (Ok done) e =
            rw p (closed_row (kind_of x) (record_for x) x.telegram (λ k. not-true (good_version x.telegram) (λ v. bad (record { passes = e; kind = k; version = v }))))
        by (Err why) e = ap (ruled Incorrect-rcv-1st) p

-- A confirm awaited

ignored_row : (k : Kind) (r : Record) (t : List ℕ) → known k ≡ true → (k ≡ kind.Confirm → ⊥) → (k ≡ kind.Disconnect → ⊥) → narrowed (ruled (row_of k) 2) r t ≡ Nothing
ignored_row kind.Request r t n a b = refl
ignored_row kind.Confirm r t n a b = absurd (a refl)
ignored_row kind.Authentication r t n a b = refl
ignored_row kind.Acknowledgement r t n a b = refl
ignored_row kind.Disconnect r t n a b = absurd (b refl)
ignored_row kind.Idle r t n a b = refl
ignored_row kind.Data r t n a b = refl
ignored_row kind.Unknown r t n a b = absurd (unknown_is_not n)

pub confirm_awaited : ConfirmAwaited called
unfolding pick
confirm_awaited =
    record {
      authenticates = λ x a c k v done. receipt_does x Authenticate (row_in x kind.Confirm 2 a.phase_is (on_time x a) c k ∙ (rw v refl)) done;
      other_version = λ x a c k v done. receipt_does x (Closes 0x01 true) (row_in x kind.Confirm 2 a.phase_is (on_time x a) c k ∙ (rw v refl)) done;
      ignores = λ x a c k k' done.
          receipt_does x Nothing (row_in x (kind_of x) 2 a.phase_is (on_time x a) c refl ∙ ignored_row (kind_of x) (record_for x) x.telegram (kind_known x c) k k') done;
    }
  where
    on_time : (x : Receipt) → Awaiting (record_for x) x.time 2 → run_out (record_for x) x.time ≡ false
    on_time x a = awaiting_in_time (record_for x) x.time 2 (omega arith) (omega arith) a

-- An authentication or an acknowledgement awaited, in the phase p

module _ (p n : ℕ) (k : Kind) (v : Verdict) (right : Receipt → Effect) (low : 2 ≤ p) (high : p ≤ 4)
    (right_is : (x : Receipt) → effect_of v (record_for x) x.head.own x.time x.random (declared_by x.idle_time) x.telegram x.net ≡ right x)
    (its-row : (r : Record) (t : List ℕ) → narrowed (ruled (row_of k) p) r t ≡ pick (good_number r n t) v (Closes 0x03 true))
    (other-rows : (y : Kind) (r : Record) (t : List ℕ) → known y ≡ true → (y ≡ k → ⊥) → (y ≡ kind.Disconnect → ⊥) → narrowed (ruled (row_of y) p) r t ≡ Closes 0x03 true) where
  on-timeₐ : (x : Receipt) → Awaiting (record_for x) x.time p → run_out (record_for x) x.time ≡ false
  on-timeₐ x a = awaiting_in_time (record_for x) x.time p low high a

  answer_awaited : AnswerAwaited called p n k right
  unfolding good_number pick
  answer_awaited =
      record {
        answers = λ x a c f same done.
            subst (λ (e : Effect). Does (takes called x) x.buffer (first_match x.route x.table) e) (right_is x)
            (receipt_does x v
            (row_in x k p a.phase_is (on-timeₐ x a) c f ∙ its-row (record_for x) x.telegram
            ∙ (rw (eq-eqb (authentication_of x.telegram) (authentication_number (record_for x).level (back n (record_for x).sending)) same) refl)) done);
        wrong_number = λ x a c f other done.
            receipt_does x (Closes 0x03 true)
            (row_in x k p a.phase_is (on-timeₐ x a) c f ∙ its-row (record_for x) x.telegram
            ∙ (rw (ne_eqb (authentication_of x.telegram) (authentication_number (record_for x).level (back n (record_for x).sending)) other) refl)) done;
        another = λ x a c f f' done.
            receipt_does x (Closes 0x03 true)
            (row_in x (kind_of x) p a.phase_is (on-timeₐ x a) c refl ∙ other-rows (kind_of x) (record_for x) x.telegram (kind_known x c) f f') done;
      }

other_than_authentication : (y : Kind) (r : Record) (t : List ℕ) → known y ≡ true → (y ≡ kind.Authentication → ⊥) → (y ≡ kind.Disconnect → ⊥)
    → narrowed (ruled (row_of y) 3) r t ≡ Closes 0x03 true
unfolding pick
other_than_authentication kind.Request r t n a b = refl
other_than_authentication kind.Confirm r t n a b = refl
other_than_authentication kind.Authentication r t n a b = absurd (a refl)
other_than_authentication kind.Acknowledgement r t n a b = refl
other_than_authentication kind.Disconnect r t n a b = absurd (b refl)
other_than_authentication kind.Idle r t n a b = refl
other_than_authentication kind.Data r t n a b = refl
other_than_authentication kind.Unknown r t n a b = absurd (unknown_is_not n)

other_than_acknowledgement : (y : Kind) (r : Record) (t : List ℕ) → known y ≡ true → (y ≡ kind.Acknowledgement → ⊥) → (y ≡ kind.Disconnect → ⊥)
    → narrowed (ruled (row_of y) 4) r t ≡ Closes 0x03 true
unfolding pick
other_than_acknowledgement kind.Request r t n a b = refl
other_than_acknowledgement kind.Confirm r t n a b = refl
other_than_acknowledgement kind.Authentication r t n a b = refl
other_than_acknowledgement kind.Acknowledgement r t n a b = absurd (a refl)
other_than_acknowledgement kind.Disconnect r t n a b = absurd (b refl)
other_than_acknowledgement kind.Idle r t n a b = refl
other_than_acknowledgement kind.Data r t n a b = refl
other_than_acknowledgement kind.Unknown r t n a b = absurd (unknown_is_not n)

pub authentication_awaited : AnswerAwaited called 3 1 kind.Authentication acknowledged
authentication_awaited = answer_awaited 3 1 kind.Authentication Acknowledge acknowledged (omega arith) (omega arith) (λ x. refl) (λ r t. refl) other_than_authentication

pub acknowledgement_awaited : AnswerAwaited called 4 2 kind.Acknowledgement opened
acknowledgement_awaited = answer_awaited 4 2 kind.Acknowledgement Opens opened (omega arith) (omega arith) (λ x. refl) (λ r t. refl) other_than_acknowledgement

-- Open

pub when_open : WhenOpen called
unfolding pick
when_open =
    record {
      hands_up_holds = λ x o c k done. receipt_does x Data (row_in x kind.Data 5 o.open_here (on_time x o) c k) done;
      takes_idle = λ x o c k done. receipt_does x Idle (row_in x kind.Idle 5 o.open_here (on_time x o) c k) done;
      set_up_anew = λ x o c anew done. receipt_does x (Closes 0x04 false) (by x o c anew) done;
    }
  where
    on_time : (x : Receipt) → ForAnOpen x → run_out (record_for x) x.time ≡ false
    on_time x o = open_in_time (record_for x) x.time o.open_here o.in_time

    by : (x : Receipt) → ForAnOpen x → Passing x → (kind_of x ≡ kind.Request) ⊎ ((kind_of x ≡ kind.Confirm) ⊎ ((kind_of x ≡ kind.Authentication) ⊎ (kind_of x ≡ kind.Acknowledgement)))
        → judged (record_for x) x.head.own x.time x.telegram ≡ Closes 0x04 false
    by x o c (inl e) = row_in x kind.Request 5 o.open_here (on_time x o) c e
    by x o c (inr (inl e)) = row_in x kind.Confirm 5 o.open_here (on_time x o) c e
    by x o c (inr (inr (inl e))) = row_in x kind.Authentication 5 o.open_here (on_time x o) c e
    by x o c (inr (inr (inr e))) = row_in x kind.Acknowledgement 5 o.open_here (on_time x o) c e

-- From the first wait on

listens_low : (r : Record) (time : ℕ) → Listens r time → (2 ≤ r.phase) × (r.phase ≤ 5)
listens_low r time (set_up low high early) = (low, omega arith)
listens_low r time (open_here p early) = (omega arith, omega arith)

-- one value for all four phases
in_the_four : (P : ℕ → Type 0) (p : ℕ) → 2 ≤ p → p ≤ 5 → P 2 → P 3 → P 4 → P 5 → P p
in_the_four P p low high two three four five = by (eqb p 2) refl (eqb p 3) refl (eqb p 4) refl
  where
    by : (a : Bool) → eqb p 2 ≡ a → (b : Bool) → eqb p 3 ≡ b → (c : Bool) → eqb p 4 ≡ c → P p
    by true f b g c k = rw (eqb-true p 2 f) two
    by false f true g c k = rw (eqb-true p 3 g) three
    by false f false g true k = rw (eqb-true p 4 k) four
    by false f false g false k =
        let x = eqb-false p 2 f in let y = eqb-false p 3 g in let z = eqb-false p 4 k in let e : p ≡ 5 = omega arith in rw e five

pub incorrect_closes_here : IncorrectClosesHere called
unfolding pick
incorrect_closes_here x listens fails done =
    let r = record_for x in
    let l = listens_low r x.time listens in
    receipt_does x (Closes 0x06 false)
    (failing_row r x.head.own x.time x.telegram (listens_in_time r x.time listens) fails
    ∙ in_the_four (λ (p : ℕ). ruled Incorrect-rcv-1st p ≡ Closes 0x06 false) r.phase l.0 l.1 refl refl refl refl) done

pub partner_closes_here : PartnerClosesHere called
partner_closes_here x listens passes disconnects done =
    let r = record_for x in
    let l = listens_low r x.time listens in
    receipt_does x Disconnected
    (row_in x kind.Disconnect r.phase refl (listens_in_time r x.time listens) passes disconnects
    ∙ in_the_four (λ (p : ℕ). narrowed (ruled (row_of kind.Disconnect) p) r x.telegram ≡ Disconnected) r.phase l.0 l.1 refl refl refl refl) done

-- Calls of the layer above

pub calls_of_ours : CallsOfOurs called
calls_of_ours =
    record {
      opens = λ i random idle_time net h t time d done. open_does h t i time d random idle_time net done;
      sends = λ i low net h t time d done. send_does h t i time d low net done;
      closes = λ i type reason text h t time d done. close_does h t i time d type reason text done;
    }

-- What alone opens, and what alone hands up data

-- the number of a verdict's event
abbrev event_of : Verdict → ℕ
event_of Nothing = 0
event_of Confirm = 0
event_of Authenticate = 0
event_of Acknowledge = 1
event_of Opens = 1
event_of Data = 2
event_of Idle = 0
event_of SendIdle = 0
event_of Disconnected = 3
event_of (Closes reason last) = 3

event_of_holds : (v : Verdict) (r : Record) (own time random declared : ℕ) (t net : List ℕ) → (happened (effect_of v r own time random declared t net).event).event ≡ event_of v
event_of_holds Nothing r own time random declared t net = refl
event_of_holds Confirm r own time random declared t net = refl
event_of_holds Authenticate r own time random declared t net = refl
event_of_holds Acknowledge r own time random declared t net = refl
event_of_holds Opens r own time random declared t net = refl
event_of_holds Data r own time random declared t net = refl
event_of_holds Idle r own time random declared t net = refl
event_of_holds SendIdle r own time random declared t net = refl
event_of_holds Disconnected r own time random declared t net = refl
event_of_holds (Closes reason last) r own time random declared t net = refl

-- told by a telegram that comes in time and passes the check, in the cell of its kind
record ByATelegram (x : ℕ) (r : Record) (own time : ℕ) (t : List ℕ) : Type 0 where
  in_time : run_out r time ≡ false
  passes : check_of (end_of r own) (expected_now r) t ≡ Passes
  cell : event_of (narrowed (ruled (row_of (kind_of_command (command_of t))) r.phase) r t) ≡ x

-- of a call: by received alone
abbrev Tells : ℕ → Call → Head → List Record → ℕ → Type 0
Tells x (Received w random idle_time telegram net) h t time =
    (1 ≤ (record_at t (first_match w t)).phase) × (((record_at t (first_match w t)).phase ≤ 5) × ByATelegram x (record_at t (first_match w t)) h.own time telegram)
Tells x (Open place random idle_time net) h t time = ⊥
Tells x (Close place type reason text) h t time = ⊥
Tells x (Send place low net) h t time = ⊥
Tells x (Tick place) h t time = ⊥

unless_good : (x : ℕ) (b : Bool) (v w : Verdict) → (event_of w ≡ x → event_of v ≡ x) → event_of (pick b v w) ≡ x → event_of v ≡ x
unfolding pick
unless_good x true v w f z = z
unless_good x false v w f z = f z

none_in : (x : ℕ) (k : Kind) (p : ℕ) → 1 ≤ p → p ≤ 5 → (event_of (ruled (row_of k) 1) ≡ x → ⊥) → (event_of (ruled (row_of k) 2) ≡ x → ⊥) → (event_of (ruled (row_of k) 3) ≡ x → ⊥)
    → (event_of (ruled (row_of k) 4) ≡ x → ⊥) → (event_of (ruled (row_of k) 5) ≡ x → ⊥) → event_of (ruled (row_of k) p) ≡ x → ⊥
none_in x k p = phases (λ (q : ℕ). event_of (ruled (row_of k) q) ≡ x → ⊥) p

not_both : (b : Bool) → b ≡ true → b ≡ false → ⊥
not_both b e f = let z : ◌≡◌ {A = Bool} true false = sym e ∙ f in let n : ◌≡◌ {A = ℕ} 0 1 = cc in omega arith

-- opened is 1, data is 2
module _ (x : ℕ) (low : 1 ≤ x) (high : x ≤ 2) where
  -- neither a timer nor an incorrect telegram does, and no tick
  run_out_tells : (p : ℕ) → 1 ≤ p → p ≤ 5 → event_of (run_out_verdict p) ≡ x → ⊥
  unfolding run_out_verdict pick
  run_out_tells p l h = phases (λ (q : ℕ). event_of (run_out_verdict q) ≡ x → ⊥) p l h (λ y. omega arith) (λ y. omega arith) (λ y. omega arith) (λ y. omega arith) (λ y. omega arith)

  incorrect_tells : (p : ℕ) → 1 ≤ p → p ≤ 5 → event_of (ruled Incorrect-rcv-1st p) ≡ x → ⊥
  unfolding pick
  incorrect_tells p l h = phases (λ (q : ℕ). event_of (ruled Incorrect-rcv-1st q) ≡ x → ⊥) p l h (λ y. omega arith) (λ y. omega arith) (λ y. omega arith) (λ y. omega arith) (λ y. omega arith)

  tick_tells : (r : Record) (time : ℕ) → 1 ≤ r.phase → r.phase ≤ 5 → event_of (ticked r time) ≡ x → ⊥
  unfolding ticked pick
  tick_tells r time l h = by (run_out r time) (eqb r.phase 5) (idle_due r time)
    where
      by : (a b c : Bool) → event_of (pick a (run_out_verdict r.phase) (pick b (pick c (ruled Timeout-snd r.phase) Nothing) Nothing)) ≡ x → ⊥
      by true b c z = run_out_tells r.phase l h z
      by false true true z =
          phases (λ (q : ℕ). event_of (ruled Timeout-snd q) ≡ x → ⊥) r.phase l h (λ y. omega arith) (λ y. omega arith) (λ y. omega arith) (λ y. omega arith) (λ y. omega arith) z
      by false true false z = omega arith
      by false false c z = omega arith

  -- what the table leaves open only takes away
  narrowed_tells : (v : Verdict) (r : Record) (t : List ℕ) → event_of (narrowed v r t) ≡ x → event_of v ≡ x
  narrowed_tells Confirm r t = unless_good x (good_version t) Confirm Nothing (λ z. z)
  narrowed_tells Authenticate r t = unless_good x (good_version t) Authenticate (Closes 0x01 true) (λ z. absurd (omega arith))
  narrowed_tells Acknowledge r t = unless_good x (good_number r 1 t) Acknowledge (Closes 0x03 true) (λ z. absurd (omega arith))
  narrowed_tells Opens r t = unless_good x (good_number r 2 t) Opens (Closes 0x03 true) (λ z. absurd (omega arith))
  narrowed_tells Nothing r t = λ z. z
  narrowed_tells Data r t = λ z. z
  narrowed_tells Idle r t = λ z. z
  narrowed_tells SendIdle r t = λ z. z
  narrowed_tells Disconnected r t = λ z. z
  narrowed_tells (Closes reason last) r t = λ z. z

  judged_tells : (r : Record) (own time : ℕ) (t : List ℕ) → 1 ≤ r.phase → r.phase ≤ 5 → event_of (judged r own time t) ≡ x → ByATelegram x r own time t
  unfolding judged passed pick
  judged_tells r own time t l h = by (run_out r time) refl (check_of (end_of r own) (expected_now r) t) refl
    where
      by : (b : Bool) → run_out r time ≡ b → (c : Check) → check_of (end_of r own) (expected_now r) t ≡ c → event_of (pick b (run_out_verdict r.phase) (checked_by c r t)) ≡ x
          → ByATelegram x r own time t
      by true out c e z = absurd (run_out_tells r.phase l h z)
      by false out (Err why) e z = absurd (incorrect_tells r.phase l h z)
      by false out (Ok done) e z = record { in_time = out; passes = e; cell = z }

  done_tells : (c : Call) (h : Head) (t : List Record) (time : ℕ) (d : List ℕ) → Done (called c h t time d) → (happened (called c h t time d).outcome.event).event ≡ x → Tells x c h t time
  unfolding received_refusal tick_refusal
  done_tells (Open place random i net) h t time d done o =
      let z : ◌≡◌ {A = ℕ} 0 x = ap (λ (y : Event). (happened y).event) (sym (open_does h t place time d random i net done).says) ∙ o in omega arith
  done_tells (Close place type reason text) h t time d done o =
      let z : ◌≡◌ {A = ℕ} 3 x = ap (λ (y : Event). (happened y).event) (sym (close_does h t place time d type reason text done).says) ∙ o in omega arith
  done_tells (Send place command net) h t time d done o =
      let z : ◌≡◌ {A = ℕ} 0 x = ap (λ (y : Event). (happened y).event) (sym (send_does h t place time d command net done).says) ∙ o in omega arith
  done_tells (Received w random idle_time telegram net) h t time d done o =
      let r = record_at t (first_match w t) in
      let g = carried (Received w random idle_time telegram net) h t time d done in
      let n = answers.by_received r h.own time random idle_time telegram net d in
      let p = live_phase r h.own (received_refusal r h.own idle_time telegram net d) _ _ _ _ refl (sym n ∙ g.number) in
      let says =
      (receipt_does (record { route = w; random = random; idle_time = idle_time; telegram = telegram; net = net; head = h; table = t; time = time; buffer = d }) (judged r h.own time telegram) refl done).says in (
        p.0,
        (
          p.1,
          judged_tells r h.own time telegram p.0 p.1
              (sym (event_of_holds (judged r h.own time telegram) r h.own time random (declared_by idle_time) telegram net) ∙ ap (λ (y : Event). (happened y).event) (sym says) ∙ o),
        ),
      )
  done_tells (Tick place) h t time d done o =
      let r = record_at t place in
      let g = carried (Tick place) h t time d done in
      let n = answers.by_tick r h.own time d in
      let p = live_phase r h.own (tick_refusal r h.own d) _ _ _ _ refl (sym n ∙ g.number) in
      tick_tells r time p.0 p.1
      (sym (event_of_holds (ticked r time) r h.own time 0 0 [] []) ∙ ap (λ (y : Event). (happened y).event) (sym (tick_does h t place time d (ticked r time) refl done).says) ∙ o)

  called_tells : (c : Call) (h : Head) (t : List Record) (time : ℕ) (d : List ℕ) → (happened (called c h t time d).outcome.event).event ≡ x → Tells x c h t time
  unfolding refused_outcome
  called_tells c h t time d o = by (eqb (called c h t time d).outcome.answer.number 0) refl
    where
      by : (b : Bool) → eqb (called c h t time d).outcome.answer.number 0 ≡ b → Tells x c h t time
      by true f = done_tells c h t time d (eqb-true _ 0 f) o
      by false f =
          let s = refused_changes_nothing c h t time d (eqb-false _ 0 f) in
          let z : ◌≡◌ {A = ℕ} 0 x = ap (λ (y : Outcome). (happened y.event).event) (sym s.0) ∙ o in absurd (omega arith)

-- What alone opens: of the telegrams that pass the check two kinds do, each in one phase

opening_cell : (k : Kind) (p : ℕ) → 1 ≤ p → p ≤ 5 → event_of (ruled (row_of k) p) ≡ 1 → ((k ≡ kind.Authentication) × (p ≡ 3)) ⊎ ((k ≡ kind.Acknowledgement) × (p ≡ 4))
unfolding pick
opening_cell kind.Authentication p low high z =
    inl (refl, phases (λ (q : ℕ). event_of (ruled (row_of kind.Authentication) q) ≡ 1 → q ≡ 3) p low high (λ y. absurd (omega arith)) (λ y. absurd (omega arith)) (λ y. refl) (λ y. absurd (omega arith)) (λ y. absurd (omega arith)) z)
opening_cell kind.Acknowledgement p low high z =
    inr (refl, phases (λ (q : ℕ). event_of (ruled (row_of kind.Acknowledgement) q) ≡ 1 → q ≡ 4) p low high (λ y. absurd (omega arith)) (λ y. absurd (omega arith)) (λ y. absurd (omega arith)) (λ y. refl) (λ y. absurd (omega arith)) z)
opening_cell kind.Request p low high z = absurd (none_in 1 kind.Request p low high (λ y. omega arith) (λ y. omega arith) (λ y. omega arith) (λ y. omega arith) (λ y. omega arith) z)
opening_cell kind.Confirm p low high z = absurd (none_in 1 kind.Confirm p low high (λ y. omega arith) (λ y. omega arith) (λ y. omega arith) (λ y. omega arith) (λ y. omega arith) z)
opening_cell kind.Disconnect p low high z = absurd (none_in 1 kind.Disconnect p low high (λ y. omega arith) (λ y. omega arith) (λ y. omega arith) (λ y. omega arith) (λ y. omega arith) z)
opening_cell kind.Idle p low high z = absurd (none_in 1 kind.Idle p low high (λ y. omega arith) (λ y. omega arith) (λ y. omega arith) (λ y. omega arith) (λ y. omega arith) z)
opening_cell kind.Data p low high z = absurd (none_in 1 kind.Data p low high (λ y. omega arith) (λ y. omega arith) (λ y. omega arith) (λ y. omega arith) (λ y. omega arith) z)
opening_cell kind.Unknown p low high z = absurd (none_in 1 kind.Unknown p low high (λ y. omega arith) (λ y. omega arith) (λ y. omega arith) (λ y. omega arith) (λ y. omega arith) z)

good_by : (b : Bool) (v : Verdict) → event_of (pick b v (Closes 0x03 true)) ≡ 1 → b ≡ true
unfolding pick
good_by true v z = refl
good_by false v z = absurd (omega arith)

-- a wait that has not run out
not_waited_out : (r : Record) (time q : ℕ) → r.phase ≡ q → 2 ≤ q → q ≤ 4 → run_out r time ≡ false → time ≤ r.sent_at + 5000
not_waited_out r time q p low high in_time = by (ltb (r.sent_at + 5000) time) refl
  where
    by : (b : Bool) → ltb (r.sent_at + 5000) time ≡ b → time ≤ r.sent_at + 5000
    by true f = absurd (not_both (run_out r time) (wait_ran_out r time q p low high (ltb-true (r.sent_at + 5000) time f)) in_time)
    by false f = ltb-false (r.sent_at + 5000) time f

answers_us : (r : Record) (own time : ℕ) (t : List ℕ) (q n : ℕ) (k : Kind) → r.phase ≡ q → 3 ≤ q → q ≤ 4 → ByATelegram 1 r own time t → kind_of_command (command_of t) ≡ k
    → good_number r n t ≡ true → AnswersUs r own time t q n k
unfolding good_number
answers_us r own time t q n k p low high b e good =
    record {
      phase_is = p;
      in_time = not_waited_out r time q p (omega arith) high b.in_time;
      passes = subst (λ (y : ℕ). check_of (end_of r own) y t ≡ Passes) (expects r q p low) b.passes;
      kind = e;
      number = eqb-true (authentication_of t) (authentication_number r.level (back n r.sending)) good;
    }

opens_by : (r : Record) (own time : ℕ) (t : List ℕ) → 1 ≤ r.phase → r.phase ≤ 5 → ByATelegram 1 r own time t
    → AnswersUs r own time t 3 1 kind.Authentication ⊎ AnswersUs r own time t 4 2 kind.Acknowledgement
opens_by r own time t low high b = by (opening_cell k r.phase low high (narrowed_tells 1 (omega arith) (omega arith) (ruled (row_of k) r.phase) r t b.cell))
  where
    k : Kind
    k = kind_of_command (command_of t)

    at : (v : Kind) (q : ℕ) → k ≡ v → r.phase ≡ q → event_of (narrowed (ruled (row_of v) q) r t) ≡ 1
    at v q e p = subst (λ (y : Kind). event_of (narrowed (ruled (row_of y) q) r t) ≡ 1) e (subst (λ (y : ℕ). event_of (narrowed (ruled (row_of k) y) r t) ≡ 1) p b.cell)

    by : ((k ≡ kind.Authentication) × (r.phase ≡ 3)) ⊎ ((k ≡ kind.Acknowledgement) × (r.phase ≡ 4))
        → AnswersUs r own time t 3 1 kind.Authentication ⊎ AnswersUs r own time t 4 2 kind.Acknowledgement
    by (inl (e, p)) = inl (answers_us r own time t 3 1 kind.Authentication p (omega arith) (omega arith) b e (good_by (good_number r 1 t) Acknowledge (at kind.Authentication 3 e p)))
    by (inr (e, p)) = inr (answers_us r own time t 4 2 kind.Acknowledgement p (omega arith) (omega arith) b e (good_by (good_number r 2 t) Opens (at kind.Acknowledgement 4 e p)))

pub opens_only_by_an_answer : OpensOnlyByAnAnswer called
opens_only_by_an_answer c h t time d e = by c (called_tells 1 (omega arith) (omega arith) c h t time d (ap (λ (y : Event). (happened y).event) e))
  where
    by : (c : Call) → Tells 1 c h t time → ByAnAnswer c h t time
    by (Received w random idle_time telegram net) (low, (high, b)) = opens_by (record_at t (first_match w t)) h.own time telegram low high b
    by (Open place random idle_time net) z = z
    by (Close place type reason text) z = z
    by (Send place low net) z = z
    by (Tick place) z = z

-- What alone hands up data: one kind does, on an open record

data_cell : (k : Kind) (p : ℕ) → 1 ≤ p → p ≤ 5 → event_of (ruled (row_of k) p) ≡ 2 → (k ≡ kind.Data) × (p ≡ 5)
unfolding pick
data_cell kind.Data p low high z =
    (refl, phases (λ (q : ℕ). event_of (ruled (row_of kind.Data) q) ≡ 2 → q ≡ 5) p low high (λ y. absurd (omega arith)) (λ y. absurd (omega arith)) (λ y. absurd (omega arith)) (λ y. absurd (omega arith)) (λ y. refl) z)
data_cell kind.Authentication p low high z = absurd (none_in 2 kind.Authentication p low high (λ y. omega arith) (λ y. omega arith) (λ y. omega arith) (λ y. omega arith) (λ y. omega arith) z)
data_cell kind.Acknowledgement p low high z = absurd (none_in 2 kind.Acknowledgement p low high (λ y. omega arith) (λ y. omega arith) (λ y. omega arith) (λ y. omega arith) (λ y. omega arith) z)
data_cell kind.Request p low high z = absurd (none_in 2 kind.Request p low high (λ y. omega arith) (λ y. omega arith) (λ y. omega arith) (λ y. omega arith) (λ y. omega arith) z)
data_cell kind.Confirm p low high z = absurd (none_in 2 kind.Confirm p low high (λ y. omega arith) (λ y. omega arith) (λ y. omega arith) (λ y. omega arith) (λ y. omega arith) z)
data_cell kind.Disconnect p low high z = absurd (none_in 2 kind.Disconnect p low high (λ y. omega arith) (λ y. omega arith) (λ y. omega arith) (λ y. omega arith) (λ y. omega arith) z)
data_cell kind.Idle p low high z = absurd (none_in 2 kind.Idle p low high (λ y. omega arith) (λ y. omega arith) (λ y. omega arith) (λ y. omega arith) (λ y. omega arith) z)
data_cell kind.Unknown p low high z = absurd (none_in 2 kind.Unknown p low high (λ y. omega arith) (λ y. omega arith) (λ y. omega arith) (λ y. omega arith) (λ y. omega arith) z)

-- a watch that has not run out
not_silent : (r : Record) (time : ℕ) → r.phase ≡ 5 → run_out r time ≡ false → InTime r time
not_silent r time p in_time some = by (ltb (r.taken_at + r.watched) time) refl
  where
    by : (b : Bool) → ltb (r.taken_at + r.watched) time ≡ b → time ≤ r.taken_at + r.watched
    by true f = absurd (not_both (run_out r time) (watch_ran_out r time p some (ltb-true (r.taken_at + r.watched) time f)) in_time)
    by false f = ltb-false (r.taken_at + r.watched) time f

pub data_only_from_a_good_telegram : DataOnlyFromAGoodTelegram called
data_only_from_a_good_telegram c h t time d e = by c (called_tells 2 (omega arith) (omega arith) c h t time d e)
  where
    by : (c : Call) → Tells 2 c h t time → FromAGoodTelegram c h t time
    by (Received w random idle_time telegram net) (low, (high, b)) =
        let r = record_at t (first_match w t) in
        let k = kind_of_command (command_of telegram) in
        let z = data_cell k r.phase low high (narrowed_tells 2 (omega arith) (omega arith) (ruled (row_of k) r.phase) r telegram b.cell) in
        record {
          open_here = z.1;
          in_time = not_silent r time z.1 b.in_time;
          passes = subst (λ (y : ℕ). check_of (end_of r h.own) y telegram ≡ Passes) (expects r 5 z.1 (omega arith)) b.passes;
          kind = z.0;
        }
    by (Open place random idle_time net) z = z
    by (Close place type reason text) z = z
    by (Send place low net) z = z
    by (Tick place) z = z

-- Never again

final_step : (c : Call) (h : Head) (t : List Record) (time : ℕ) (d : List ℕ) → (record_at t (place_of c t)).phase ≡ 6 → (step_in c h t time d).«record» ≡ record_at t (place_of c t)
final_step (Open place random i net) h t time d six = final_stays.by_open (record_at t place) h.own time random i net d six
final_step (Close place type reason text) h t time d six = final_stays.by_close (record_at t place) h.own type reason text d six
final_step (Send place low net) h t time d six = final_stays.by_send (record_at t place) h.own time low net d six
final_step (Received w random i telegram net) h t time d six = final_stays.by_received (record_at t (first_match w t)) h.own time random i telegram net d six
final_step (Tick place) h t time d six = final_stays.by_tick (record_at t place) h.own time d six

-- by one call
final_call : (h : Head) (t : List Record) (m : Made) (i : ℕ) → (record_at t i).phase ≡ 6 → record_at (made called h t m).table i ≡ record_at t i
final_call h t m i six = by (eqb i (place_of m.call t)) refl (eqb (made called h t m).outcome.answer.number 0) refl
  where
    by : (a : Bool) → eqb i (place_of m.call t) ≡ a → (b : Bool) → eqb (made called h t m).outcome.answer.number 0 ≡ b → record_at (made called h t m).table i ≡ record_at t i
    by false e b f = others_unchanged.records m.call h t m.time m.buffer i (eqb-false i (place_of m.call t) e)
    by true e false f = ap (λ (y : List Record). record_at y i) (refused_changes_nothing m.call h t m.time m.buffer (eqb-false _ 0 f)).1.0
    by true e true f =
        let here : i ≡ place_of m.call t = eqb-true i (place_of m.call t) e in
        let g = carried m.call h t m.time m.buffer (eqb-true _ 0 f) in
        let here-six = subst (λ (y : ℕ). (record_at t y).phase ≡ 6) here six in
        subst (λ (y : ℕ). record_at (made called h t m).table y ≡ record_at t y) (sym here) (left_by m.call h t m.time m.buffer g ∙ final_step m.call h t m.time m.buffer here-six)

pub never_reopens : NeverReopens called
never_reopens h t [] i six = refl
never_reopens h t (m ∷ ms) i six =
    let one = final_call h t m i six in never_reopens (made called h t m).outcome.head (made called h t m).table ms i (ap (λ (r : Record). r.phase) one ∙ six) ∙ one

pub demand_2_one_end : Demand2OneEnd called
demand_2_one_end =
    record {
      silence_closes_here = silence_closes_here;
      late_answer_closes = late_answer_closes;
      ticks_in_time = ticks_in_time;
      when_closed = when_closed;
      confirm_awaited = confirm_awaited;
      authentication_awaited = authentication_awaited;
      acknowledgement_awaited = acknowledgement_awaited;
      when_open = when_open;
      incorrect_closes_here = incorrect_closes_here;
      partner_closes_here = partner_closes_here;
      calls_of_ours = calls_of_ours;
      opens_only_by_an_answer = opens_only_by_an_answer;
      data_only_from_a_good_telegram = data_only_from_a_good_telegram;
      net_data_handed_on = net_data_handed_on;
      never_reopens = never_reopens;
    }
