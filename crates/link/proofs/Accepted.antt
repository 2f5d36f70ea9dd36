-- A record that the rules accept stays one that the rules accept, in every step: the phases that a step leaves are phases, the idle times that it stores are
-- good, since a check or a refusal has looked at them, and a closed record is at rest.
-- Assumes nothing.
use Rattle.std.proofs.Common.{◌≡◌, ℕ, ◌≤◌, Bool, true, false, eqb, leb, List, [], ◌∷◌, length, refl, arith, ne_eqb, eqb-true, le-leb}
use Rattle.ground.specs.Choice.{pick, all}
use Rattle.std.specs.Prelude.{Ok, Err}
use Rattle.telegram.specs.Ends.{in_range}
use Rattle.telegram.specs.Values.{good_idle, good_fields}
use Rattle.telegram.specs.Layout.{values}
use Rattle.telegram.specs.Commands.{kind_of_command}
use Rattle.telegram.specs.Fields.{idle_time_of}
use Rattle.telegram.specs.Writers.{connect_allowed}
use Rattle.telegram.specs.Check.{command_of, check_of, Check}
use Rattle.telegram.specs.declared.Written.{Written}
use Rattle.telegram.specs.declared.Kind.{Kind}
use Rattle.telegram.specs.declared.Kind.TheVariants as kind
use Rattle.telegram.proofs.Refusals.{both_true, both_are}
use Rattle.telegram.proofs.Apart.{passed}
use Rattle.link.proofs.Cases.{clear, either, live_phase, phases}
use Rattle.link.specs.Records.{end_of, is_phase, is_closed, at_rest, record_in_range, become, closed_by}
use Rattle.link.specs.Table.{Incorrect-rcv-1st}
use Rattle.link.specs.Judged.{passed as passed-kind, row_of, ruled, good_number, narrowed, checked_by, expected_now, run_out, run_out_verdict, judged, ticked}
use Rattle.link.specs.Steps.{declared_by, open_refusal, open_of, close_refusal, close_of, send_refusal, send_of, received_refusal, received_of, tick_refusal, tick_of, taken, sent, quietly, refused_step, writing_step, act_of, unless_step}
use Rattle.link.specs.Facts.{StaysAccepted}
use Rattle.link.specs.declared.Record.{Record}
use Rattle.link.specs.declared.Step.{Step}
use Rattle.link.specs.declared.Event.{Event}
use Rattle.link.specs.declared.Verdict.{Verdict}
use Rattle.link.specs.declared.Verdict.TheVariants.{Nothing, Confirm, Authenticate, Acknowledge, Open, Data, Idle, SendIdle, Disconnected, Close}

-- the five parts of a record in range
pub record Parts (r : Record) (own : ℕ) : Type 0 where
  pub end : in_range (end_of r own) ≡ true
  pub phase : is_phase r.phase ≡ true
  pub declared : good_idle r.declared ≡ true
  pub watched : good_idle r.watched ≡ true
  pub rest : pick (is_closed r.phase) (at_rest r) true ≡ true

pub parts : (r : Record) (own : ℕ) → record_in_range r own ≡ true → Parts r own
unfolding record_in_range
parts r own h =
    let a = both_true (in_range (end_of r own)) (all (is_phase r.phase ∷ good_idle r.declared ∷ good_idle r.watched ∷ pick (is_closed r.phase) (at_rest r) true ∷ [])) h in
    let b = both_true (is_phase r.phase) (all (good_idle r.declared ∷ good_idle r.watched ∷ pick (is_closed r.phase) (at_rest r) true ∷ [])) a.1 in
    let c = both_true (good_idle r.declared) (all (good_idle r.watched ∷ pick (is_closed r.phase) (at_rest r) true ∷ [])) b.1 in
    let d = both_true (good_idle r.watched) (pick (is_closed r.phase) (at_rest r) true) c.1 in
    record { end = a.0; phase = b.0; declared = c.0; watched = d.0; rest = d.1 }

whole : (r : Record) (own : ℕ) → Parts r own → record_in_range r own ≡ true
unfolding record_in_range
whole r own p = both_are _ _ p.end (both_are _ _ p.phase (both_are _ _ p.declared (both_are _ _ p.watched p.rest)))

-- a phase between the closed ones
going : (p : ℕ) → 2 ≤ p → p ≤ 5 → is_closed p ≡ false
unfolding is_closed pick
going p l h = rw (ne_eqb p 1 (λ e. omega arith), ne_eqb p 6 (λ e. omega arith))

there : (p : ℕ) → 2 ≤ p → p ≤ 5 → is_phase p ≡ true
unfolding is_phase
there p l h = both_are (leb 1 p) (leb p 6) (le-leb 1 p (omega arith)) (le-leb p 6 (omega arith))

become_accepted : (r : Record) (own phase sending expected declared watched sentAt takenAt : ℕ) → record_in_range r own ≡ true → 2 ≤ phase → phase ≤ 5
    → good_idle declared ≡ true → good_idle watched ≡ true → record_in_range (become r phase sending expected declared watched sentAt takenAt) own ≡ true
unfolding become end_of pick
become_accepted r own phase sending expected declared watched sentAt takenAt h l u d w =
    whole _ own (record { end = (parts r own h).end; phase = there phase l u; declared = d; watched = w; rest = rw (going phase l u) })

closed_accepted : (last : Bool) (r : Record) (own : ℕ) → record_in_range r own ≡ true → record_in_range (closed_by last r) own ≡ true
unfolding closed_by become end_of is_phase is_closed at_rest good_idle pick
closed_accepted true r own h = whole _ own (record { end = (parts r own h).end; phase = refl; declared = refl; watched = refl; rest = refl })
closed_accepted false r own h = whole _ own (record { end = (parts r own h).end; phase = refl; declared = refl; watched = refl; rest = refl })

taken_accepted : (r : Record) (own time : ℕ) → record_in_range r own ≡ true → record_in_range (taken r time) own ≡ true
unfolding taken
taken_accepted r own time h = become_accepted r own 5 _ _ _ _ _ _ h (omega arith) (omega arith) (parts r own h).declared (parts r own h).watched

sent_accepted : (r : Record) (own time : ℕ) → record_in_range r own ≡ true → record_in_range (sent r time) own ≡ true
unfolding sent
sent_accepted r own time h = become_accepted r own 5 _ _ _ _ _ _ h (omega arith) (omega arith) (parts r own h).declared (parts r own h).watched

refused_accepted : (n : ℕ) (r : Record) (own : ℕ) → record_in_range r own ≡ true → record_in_range (refused_step n r).«record» own ≡ true
unfolding refused_step
refused_accepted n r own h = h

quiet_accepted : (q : Record) (e : Event) (own : ℕ) → record_in_range q own ≡ true → record_in_range (quietly q e).«record» own ≡ true
unfolding quietly
quiet_accepted q e own h = h

pub writing_accepted : (w : Written) (r q : Record) (own kind : ℕ) (e : Event) → record_in_range r own ≡ true → record_in_range q own ≡ true
    → record_in_range (writing_step w r q kind e).«record» own ≡ true
unfolding writing_step
writing_accepted w r q own kind e h g = either (λ (s : Step). record_in_range s.«record» own ≡ true) (eqb w.answer 0) _ _ g (refused_accepted w.answer r own h)

-- which verdicts store the telegram's idle time
abbrev stores : Verdict → Bool
stores Confirm = true
stores Authenticate = true
stores Nothing = false
stores Acknowledge = false
stores Open = false
stores Data = false
stores Idle = false
stores SendIdle = false
stores Disconnected = false
stores (Close reason last) = false

act_accepted : (v : Verdict) (r : Record) (own time random declared : ℕ) (t net d : List ℕ) → record_in_range r own ≡ true → good_idle declared ≡ true
    → (stores v ≡ true → good_idle (idle_time_of t) ≡ true) → record_in_range (act_of v r own time random declared t net d).«record» own ≡ true
act_accepted Nothing r own time random declared t net d h g i = quiet_accepted r _ own h
act_accepted Confirm r own time random declared t net d h g i =
    writing_accepted _ r _ own 2 _ h (become_accepted r own 3 _ _ _ _ _ _ h (omega arith) (omega arith) g (i refl))
act_accepted Authenticate r own time random declared t net d h g i =
    writing_accepted _ r _ own 3 _ h (become_accepted r own 4 _ _ _ _ _ _ h (omega arith) (omega arith) (parts r own h).declared (i refl))
act_accepted Acknowledge r own time random declared t net d h g i =
    writing_accepted _ r _ own 4 _ h (become_accepted r own 5 _ _ _ _ _ _ h (omega arith) (omega arith) (parts r own h).declared (parts r own h).watched)
act_accepted Open r own time random declared t net d h g i = quiet_accepted _ _ own (taken_accepted r own time h)
act_accepted Data r own time random declared t net d h g i = quiet_accepted _ _ own (taken_accepted r own time h)
act_accepted Idle r own time random declared t net d h g i = quiet_accepted _ _ own (taken_accepted r own time h)
act_accepted SendIdle r own time random declared t net d h g i = writing_accepted _ r _ own 6 _ h (sent_accepted r own time h)
act_accepted Disconnected r own time random declared t net d h g i = quiet_accepted _ _ own (closed_accepted _ r own h)
act_accepted (Close reason last) r own time random declared t net d h g i = writing_accepted _ r _ own 5 _ h (closed_accepted last r own h)

not_both : {A : Type 0} (b : Bool) → b ≡ false → b ≡ true → A
not_both b p q = let z : ◌≡◌ {A = ℕ} 0 1 = cc in absurd (omega arith)

-- neither side of these choices stores an idle time
number_stores : (b : Bool) (v : Verdict) → stores v ≡ false → stores (pick b v (Close 0x03 true)) ≡ false
number_stores b v p = either (λ (w : Verdict). stores w ≡ false) b v (Close 0x03 true) p refl

-- only a request or confirm that passes the check has its idle time stored
by_kind : (k : Kind) (p : ℕ) (r : Record) (t : List ℕ) → 1 ≤ p → p ≤ 5 → good_fields k (values k t) ≡ true
    → stores (narrowed (ruled (row_of k) p) r t) ≡ true → good_idle (idle_time_of t) ≡ true
by_kind kind.Request p r t l h g s = (both_true (good_idle (idle_time_of t)) _ g).0
by_kind kind.Confirm p r t l h g s = (both_true (good_idle (idle_time_of t)) _ g).0
by_kind kind.Authentication p r t l h g s =
    not_both _ (phases (λ (q : ℕ). stores (narrowed (ruled (row_of kind.Authentication) q) r t) ≡ false) p l h refl refl (number_stores (good_number r 1 t) Acknowledge refl) refl refl) s
by_kind kind.Acknowledgement p r t l h g s =
    not_both _ (phases (λ (q : ℕ). stores (narrowed (ruled (row_of kind.Acknowledgement) q) r t) ≡ false) p l h refl refl refl (number_stores (good_number r 2 t) Open refl) refl) s
by_kind kind.Disconnect p r t l h g s = not_both _ (phases (λ (q : ℕ). stores (narrowed (ruled (row_of kind.Disconnect) q) r t) ≡ false) p l h refl refl refl refl refl) s
by_kind kind.Idle p r t l h g s = not_both _ (phases (λ (q : ℕ). stores (narrowed (ruled (row_of kind.Idle) q) r t) ≡ false) p l h refl refl refl refl refl) s
by_kind kind.Data p r t l h g s = not_both _ (phases (λ (q : ℕ). stores (narrowed (ruled (row_of kind.Data) q) r t) ≡ false) p l h refl refl refl refl refl) s
by_kind kind.Unknown p r t l h g s = not_both _ (phases (λ (q : ℕ). stores (narrowed (ruled (row_of kind.Unknown) q) r t) ≡ false) p l h refl refl refl refl refl) s

run_out_stores : (p : ℕ) → 1 ≤ p → p ≤ 5 → stores (run_out_verdict p) ≡ false
unfolding run_out_verdict pick
run_out_stores p l h = phases (λ (q : ℕ). stores (run_out_verdict q) ≡ false) p l h refl refl refl refl refl

incorrect_stores : (p : ℕ) → 1 ≤ p → p ≤ 5 → stores (ruled Incorrect-rcv-1st p) ≡ false
incorrect_stores p l h = phases (λ (q : ℕ). stores (ruled Incorrect-rcv-1st q) ≡ false) p l h refl refl refl refl refl

by_check : (c : Check) (r : Record) (own : ℕ) (t : List ℕ) → check_of (end_of r own) (expected_now r) t ≡ c → 1 ≤ r.phase → r.phase ≤ 5
    → stores (checked_by c r t) ≡ true → good_idle (idle_time_of t) ≡ true
unfolding passed-kind
by_check (Ok done) r own t e l h s = by_kind (kind_of_command (command_of t)) r.phase r t l h (passed (end_of r own) (expected_now r) t e).good_fields_holds s
by_check (Err why) r own t e l h s = not_both _ (incorrect_stores r.phase l h) s

stored : (r : Record) (own time : ℕ) (t : List ℕ) → 1 ≤ r.phase → r.phase ≤ 5 → stores (judged r own time t) ≡ true → good_idle (idle_time_of t) ≡ true
unfolding judged pick
stored r own time t l h = split (run_out r time)
  where
    split : (b : Bool) → stores (pick b (run_out_verdict r.phase) (checked_by (check_of (end_of r own) (expected_now r) t) r t)) ≡ true → good_idle (idle_time_of t) ≡ true
    split true s = not_both _ (run_out_stores r.phase l h) s
    split false s = by_check (check_of (end_of r own) (expected_now r) t) r own t refl l h s

declared_good : (time count l : ℕ) → connect_allowed time count l ≡ true → good_idle time ≡ true
unfolding connect_allowed
declared_good time count l h = (both_true (good_idle time) _ h).0

unless_accepted : (n own : ℕ) (r : Record) (s : Step) → record_in_range r own ≡ true → (n ≡ 0 → record_in_range s.«record» own ≡ true)
    → record_in_range (unless_step n r s).«record» own ≡ true
unfolding pick
unless_accepted n own r s h g = split (eqb n 0) refl
  where
    split : (b : Bool) → eqb n 0 ≡ b → record_in_range (pick b s (refused_step n r)).«record» own ≡ true
    split true e = g (eqb-true n 0 e)
    split false e = refused_accepted n r own h

pub stays_accepted : StaysAccepted
unfolding open_of open_refusal close_of close_refusal send_of send_refusal received_of received_refusal tick_of tick_refusal good_idle pick
stays_accepted =
    record {
      by_open = λ r own time random i net d h.
          unless_accepted (open_refusal r own i net d) own r _ h
          (λ z. writing_accepted _ r _ own 1 _ h
          (become_accepted r own 2 _ _ _ _ _ _ h (omega arith) (omega arith) (declared_good (declared_by i) (length net) r.level (clear _ _ _ _ _ _ z).allowed) refl));
      by_close = λ r own type reason text d h.
          unless_accepted (close_refusal r own type reason text d) own r _ h (λ z. writing_accepted _ r _ own 5 _ h (closed_accepted _ r own h));
      by_send = λ r own time low net d h.
          unless_accepted (send_refusal r own low net d) own r _ h (λ z. writing_accepted _ r _ own 7 _ h (sent_accepted r own time h));
      by_received = λ r own time random i t net d h.
          unless_accepted (received_refusal r own i t net d) own r _ h
          (λ z.
          let live = live_phase r own (received_refusal r own i t net d) _ _ _ _ refl z in
          act_accepted (judged r own time t) r own time random (declared_by i) t net d h (declared_good (declared_by i) (length net) r.level (clear _ _ _ _ _ _ z).allowed)
          (stored r own time t live.0 live.1));
      by_tick = λ r own time d h.
          unless_accepted (tick_refusal r own d) own r _ h (λ z. act_accepted (ticked r time) r own time 0 0 [] [] d h refl (λ s. refl));
    }
