-- The facts of the steps, as specs/Facts.antt states them: by the cases that a step can take.
-- Assumes nothing.
use Rattle.std.specs.Prelude.{None}
use Rattle.std.proofs.Common.{◌≡◌, ℕ, zero, suc, ◌+◌, Bool, true, false, eqb, ltb, List, [], ◌++◌, length, drop, sym, refl, ap, subst, arith, le-ltb, lt-ltb, eq-eqb, ne_eqb}
use Rattle.ground.specs.Choice.{pick}
use Rattle.telegram.specs.Commands.{kind_of}
use Rattle.telegram.specs.Telegrams.{sealed, body, request, confirm}
use Rattle.telegram.specs.Values.{good_idle}
use Rattle.telegram.specs.Fields.{random_of, idle_time_of}
use Rattle.telegram.specs.Writers.{Outcome, answer_of, left_by, refusal, unless, connect_allowed, writes_request, writes_confirm}
use Rattle.telegram.proofs.Taken.{disconnect_taken}
use Rattle.telegram.specs.declared.End.{End}
use Rattle.telegram.specs.declared.Written.{Written}
use Rattle.link.proofs.Cases.{clear, columns, either}
use Rattle.link.specs.Records.{end_of, at_rest, become, closed_by}
use Rattle.link.specs.Times.{gap, wait_over, watch_over}
use Rattle.link.specs.Table.{cell, reading, otherwise, Connect-snd, Data-snd, Timeout-snd, Timeout-rcv, Timeout-brk, Data-rcv, Idle-rcv, Incorrect-rcv-1st, Incorrect-rcv-2nd, ConReq-rcv, ConAck-rcv, AuthReq-rcv, AuthAck-rcv, Discon-snd, FDiscon-snd, Discon-rcv}
use Rattle.link.specs.Judged.{ruled, judged, passed, ticked, run_out_verdict}
use Rattle.link.specs.Steps.{next, neb, first_refusal, declared_by, taken, sent, quietly, refused_step, writing_step, act_of, act_out, unless_step, unless_out, open_refusal, open_of, open_out, close_refusal, close_of, send_refusal, send_of, received_refusal, received_of, received_out, tick_refusal, tick_of}
use Rattle.link.specs.Facts.{Same, SameConnection, FinalStays, DisconnectBeforeClosing, ClosedAtRest, Carries1000, Unnamed, Waits, Watch, AsPrinted, ByTheTable}
use Rattle.link.specs.Plain.{idle_time_by}
use Rattle.link.specs.declared.Record.{Record}
use Rattle.link.specs.declared.Step.{Step}
use Rattle.link.specs.declared.Event.{Event}
use Rattle.link.specs.declared.Event.TheVariants as event
use Rattle.link.specs.declared.Verdict.{Verdict}
use Rattle.link.specs.declared.Verdict.TheVariants.{Nothing, Confirm, Authenticate, Acknowledge, Open, Data, Idle, SendIdle, Disconnected, Close}

-- The same connection

same_refl : (r : Record) → Same r r
same_refl r = record { partner = refl; partner_sap = refl; local_sap = refl; level = refl }

become_same : (r : Record) (phase sending expected declared watched sentAt takenAt : ℕ) → Same r (become r phase sending expected declared watched sentAt takenAt)
unfolding become
become_same r phase sending expected declared watched sentAt takenAt = record { partner = refl; partner_sap = refl; local_sap = refl; level = refl }

closed_same : (last : Bool) (r : Record) → Same r (closed_by last r)
unfolding closed_by
closed_same last r = become_same r (pick last 6 1) 0 0 0 0 0 0

taken_same : (r : Record) (time : ℕ) → Same r (taken r time)
unfolding taken
taken_same r time = become_same r 5 r.sending _ r.declared r.watched r.sent_at time

sent_same : (r : Record) (time : ℕ) → Same r (sent r time)
unfolding sent
sent_same r time = become_same r 5 _ r.expected r.declared r.watched time r.taken_at

quiet_same : (r q : Record) (e : Event) → Same r q → Same r (quietly q e).«record»
unfolding quietly
quiet_same r q e p = p

refused_same : (n : ℕ) (r : Record) → Same r (refused_step n r).«record»
unfolding refused_step
refused_same n r = same_refl r

writing_same : (w : Written) (r q : Record) (kind : ℕ) (e : Event) → Same r q → Same r (writing_step w r q kind e).«record»
unfolding writing_step
writing_same w r q kind e p = either (λ (s : Step). Same r s.«record») (eqb w.answer 0) _ _ p (refused_same w.answer r)

act_same : (v : Verdict) (r : Record) (own time random declared : ℕ) (t net d : List ℕ) → Same r (act_of v r own time random declared t net d).«record»
act_same Nothing r own time random declared t net d = quiet_same r r _ (same_refl r)
act_same Confirm r own time random declared t net d = writing_same _ r _ 2 _ (become_same r 3 _ _ _ _ _ _)
act_same Authenticate r own time random declared t net d = writing_same _ r _ 3 _ (become_same r 4 _ _ _ _ _ _)
act_same Acknowledge r own time random declared t net d = writing_same _ r _ 4 _ (become_same r 5 _ _ _ _ _ _)
act_same Open r own time random declared t net d = quiet_same r _ _ (taken_same r time)
act_same Data r own time random declared t net d = quiet_same r _ _ (taken_same r time)
act_same Idle r own time random declared t net d = quiet_same r _ _ (taken_same r time)
act_same SendIdle r own time random declared t net d = writing_same _ r _ 6 _ (sent_same r time)
act_same Disconnected r own time random declared t net d = quiet_same r _ _ (closed_same _ r)
act_same (Close reason last) r own time random declared t net d = writing_same _ r _ 5 _ (closed_same last r)

unless_same : (n : ℕ) (r : Record) (s : Step) → Same r s.«record» → Same r (unless_step n r s).«record»
unless_same n r s p = either (λ (s : Step). Same r s.«record») (eqb n 0) s (refused_step n r) p (refused_same n r)

pub same_connection : SameConnection
unfolding open_of close_of send_of received_of tick_of
same_connection =
    record {
      by_open = λ r own time random i net d. unless_same (open_refusal r own i net d) r _ (writing_same _ r _ 1 _ (become_same r 2 _ _ _ _ _ _));
      by_close = λ r own type reason text d. unless_same (close_refusal r own type reason text d) r _ (writing_same _ r _ 5 _ (closed_same _ r));
      by_send = λ r own time low net d. unless_same (send_refusal r own low net d) r _ (writing_same _ r _ 7 _ (sent_same r time));
      by_received = λ r own time random i t net d. unless_same (received_refusal r own i t net d) r _ (act_same (judged r own time t) r own time random _ t net d);
      by_tick = λ r own time d. unless_same (tick_refusal r own d) r _ (act_same (ticked r time) r own time 0 0 _ _ d);
    }

-- A finally closed record

-- with the fourth test failed there is a refusal
stopped : (a b c e f : Bool) → first_refusal a b c false e f ≡ 0 → ⊥
stopped a b c e f p = let k = (clear a b c false e f p).live in let z : ◌≡◌ {A = ℕ} 0 1 = cc in omega arith

finally : (r : Record) → r.phase ≡ 6 → neb r.phase 6 ≡ false
unfolding pick
finally r p = rw p

unless_stays : (a b c d e f : Bool) (r : Record) (s : Step) → d ≡ false → (unless_step (first_refusal a b c d e f) r s).«record» ≡ r
unfolding pick refused_step
unless_stays a b c d e f r s p = rw (p, ne_eqb (first_refusal a b c false e f) 0 (stopped a b c e f))

pub final_stays : FinalStays
unfolding open_of open_refusal close_of close_refusal send_of send_refusal received_of received_refusal tick_of tick_refusal
final_stays =
    record {
      by_open = λ r own time random i net d p. unless_stays _ _ _ _ _ _ r _ (finally r p);
      by_close = λ r own type reason text d p. unless_stays _ _ _ _ _ _ r _ (finally r p);
      by_send = λ r own time low net d p. unless_stays _ _ _ _ _ _ r _ (finally r p);
      by_received = λ r own time random i t net d p. unless_stays _ _ _ _ _ _ r _ (finally r p);
      by_tick = λ r own time d p. unless_stays _ _ _ _ _ _ r _ (finally r p);
    }

pub closed_at_rest : ClosedAtRest
unfolding at_rest closed_by become pick
closed_at_rest r last = refl

-- No idle time named

request_1000 : (e : End) (random : ℕ) (net rest : List ℕ) → Carries1000 (request e random 1000 net ++ rest)
unfolding request sealed body kind_of pick
request_1000 e random net rest = record { byte_7 = refl; byte_8 = refl; read_back = refl }

confirm_1000 : (e : End) (random : ℕ) (net rest : List ℕ) → Carries1000 (confirm e random 1000 net ++ rest)
unfolding confirm sealed body kind_of pick
confirm_1000 e random net rest = record { byte_7 = refl; byte_8 = refl; read_back = refl }

-- a step that is done and writes leaves its telegram at the front of the buffer
out_is : (n m : ℕ) (x d : List ℕ) (r q : Record) (kind : ℕ) (e : Event) → (unless_step n r (writing_step (answer_of (unless m x)) r q kind e)).answer.number ≡ 0
    → unless_out n d (left_by (unless m x) d) ≡ x ++ drop (length x) d
unfolding pick refused_step writing_step
out_is zero zero x d r q kind e z = refl
out_is zero (suc m) x d r q kind e z = let f = ne_eqb (suc m) 0 (λ y. omega arith) in let y : suc m ≡ 0 = (rw f at z) in absurd (omega arith)
out_is (suc n) m x d r q kind e z = let f = ne_eqb (suc n) 0 (λ y. omega arith) in let y : suc n ≡ 0 = (rw f at z) in absurd (omega arith)

pub unnamed : Unnamed
unfolding idle_time_by open_of open_out received_of received_out writes_request writes_confirm connect_allowed good_idle declared_by pick
unnamed =
    record {
      declares = refl;
      named = λ time. refl;
      flag_0 = λ beside. refl;
      flag_else = λ flag time some. rw (ne_eqb flag 0 some) refl;
      never_refused = λ count l. refl;
      written = λ r own time random net d done.
          let n = open_refusal r own None net d in
          let m = refusal (end_of r own) (length d) (connect_allowed 1000 (length net) (end_of r own).level) in
          let x = request (end_of r own) random 1000 net in
          subst Carries1000 (sym (out_is n m x d r (become r 2 (next random) 0 1000 0 time 0) 1 event.Nothing done)) (request_1000 (end_of r own) random net (drop (length x) d));
      confirmed = λ r own time random t net d asks done.
          let n = received_refusal r own None t net d in
          let m = refusal (end_of r own) (length d) (connect_allowed 1000 (length net) (end_of r own).level) in
          let x = confirm (end_of r own) random 1000 net in
          subst (λ (v : Verdict). (unless_step n r (act_of v r own time random 1000 t net d)).answer.number ≡ 0 → Carries1000 (unless_out n d (act_out v r own random 1000 t net d)))
          (sym asks)
          (λ z.
          subst Carries1000 (sym (out_is n m x d r (become r 3 (next random) (next (random_of t)) 1000 (idle_time_of t) time time) 2 event.Nothing z))
          (confirm_1000 (end_of r own) random net (drop (length x) d))) done;
    }

-- Times

pub waits : Waits
unfolding wait_over
waits =
    record {
      in_time = λ r. le-ltb 5000 (gap r.sent_at (r.sent_at + 5000)) (omega arith);
      too_late_holds = λ r. lt-ltb 5000 (gap r.sent_at (r.sent_at + 5001)) (omega arith);
    }

watch_picked : (w g : ℕ) → ltb w g ≡ false → pick (eqb w 0) false (ltb w g) ≡ false
unfolding pick
watch_picked w g p = split (eqb w 0)
  where
    split : (b : Bool) → pick b false (ltb w g) ≡ false
    split true = refl
    split false = p

pub watch : Watch
unfolding watch_over pick
watch =
    record {
      in_time = λ r. watch_picked r.watched _ (le-ltb r.watched (gap r.taken_at (r.taken_at + r.watched)) (omega arith));
      too_late_holds = λ r some. rw (ne_eqb r.watched 0 some) (lt-ltb r.watched (gap r.taken_at (r.taken_at + (r.watched + 1))) (omega arith));
      none = λ r time p. rw p;
    }

-- The table

-- a cell of the second list
listed : {A : Type 0} → true ≡ false → A
listed e = let z : ◌≡◌ {A = ℕ} 0 1 = cc in absurd (omega arith)

pub as_printed : AsPrinted
unfolding pick
as_printed Timeout-snd p l h = columns (λ (q : ℕ). otherwise Timeout-snd q ≡ false → reading Timeout-snd q ≡ cell Timeout-snd q) p l h (λ _. refl) (λ _. refl) (λ _. refl) listed (λ _. refl) (λ _. refl)
as_printed Timeout-rcv p l h = columns (λ (q : ℕ). otherwise Timeout-rcv q ≡ false → reading Timeout-rcv q ≡ cell Timeout-rcv q) p l h (λ _. refl) listed listed listed (λ _. refl) (λ _. refl)
as_printed Timeout-brk p l h = columns (λ (q : ℕ). otherwise Timeout-brk q ≡ false → reading Timeout-brk q ≡ cell Timeout-brk q) p l h (λ _. refl) (λ _. refl) (λ _. refl) (λ _. refl) listed (λ _. refl)
as_printed Incorrect-rcv-2nd p l h = columns (λ (q : ℕ). otherwise Incorrect-rcv-2nd q ≡ false → reading Incorrect-rcv-2nd q ≡ cell Incorrect-rcv-2nd q) p l h listed listed listed listed listed (λ _. refl)
as_printed Connect-snd p l h = λ _. refl
as_printed Data-snd p l h = λ _. refl
as_printed Data-rcv p l h = λ _. refl
as_printed Idle-rcv p l h = λ _. refl
as_printed Incorrect-rcv-1st p l h = λ _. refl
as_printed ConReq-rcv p l h = λ _. refl
as_printed ConAck-rcv p l h = λ _. refl
as_printed AuthReq-rcv p l h = λ _. refl
as_printed AuthAck-rcv p l h = λ _. refl
as_printed Discon-snd p l h = λ _. refl
as_printed FDiscon-snd p l h = λ _. refl
as_printed Discon-rcv p l h = λ _. refl

ran_out_open : (p : ℕ) → p ≡ 5 → run_out_verdict p ≡ ruled Timeout-rcv 5
unfolding run_out_verdict pick
ran_out_open p e = ap run_out_verdict e

ran_out_waiting : (p : ℕ) → (p ≡ 5 → ⊥) → run_out_verdict p ≡ ruled Timeout-brk p
unfolding run_out_verdict pick
ran_out_waiting p other = rw (ne_eqb p 5 other)

pub by_the_table : ByTheTable
unfolding judged ticked passed pick
by_the_table =
    record {
      passing = λ r own time t in_time p. rw (in_time, p);
      failing = λ r own time t c in_time p. rw (in_time, p);
      waited = λ r own time t other out. (rw out (ran_out_waiting r.phase other), rw out (ran_out_waiting r.phase other));
      silent = λ r own time t going out. (rw out (ran_out_open r.phase going), rw out (ran_out_open r.phase going));
      due = λ r time going in_time idle. rw (in_time, eq-eqb r.phase 5 going, idle) (ap (ruled Timeout-snd) going);
    }

pub disconnect_before_closing : DisconnectBeforeClosing
disconnect_before_closing r own random declared reason last t net d u p =
    (ap (λ (o : Outcome). left_by o d) p, disconnect_taken (end_of r own) r.sending (pick last 0 1) reason [] d u tt p)
