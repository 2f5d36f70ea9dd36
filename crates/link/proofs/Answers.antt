-- A step answers its first refusal. Where there is none, the writer has an end in range, room and values that are allowed, so it writes; a closing has a
-- reason that may be written, whatever row and phase it comes from.
-- Assumes nothing.
use Rattle.std.proofs.Common.{◌≡◌, ℕ, ◌≤◌, Bool, true, false, eqb, leb, List, [], length, sym, refl, ◌∙◌, arith, eqb-true, le-leb}
use Rattle.ground.specs.Choice.{pick}
use Rattle.std.specs.Prelude.{Ok, Err}
use Rattle.telegram.specs.Ends.{in_range}
use Rattle.telegram.specs.Values.{good_idle, good_type, listed_reason}
use Rattle.telegram.specs.Layout.{longest, most}
use Rattle.telegram.specs.Commands.{kind_of_command}
use Rattle.telegram.specs.Writers.{refusal, unless, answer_of, connect_allowed, disconnect_allowed, writes_request, writes_confirm, writes_authentication, writes_acknowledgement, writes_disconnect, writes_idle, writes_data}
use Rattle.telegram.specs.Check.{command_of, check_of, Check}
use Rattle.telegram.specs.declared.Written.{Written}
use Rattle.telegram.specs.declared.End.{End}
use Rattle.telegram.specs.declared.Kind.{Kind}
use Rattle.telegram.specs.declared.Kind.TheVariants as kind
use Rattle.telegram.proofs.Refusals.{both_are}
use Rattle.link.proofs.Cases.{clear, live_phase, phases, either}
use Rattle.link.proofs.Accepted.{parts}
use Rattle.link.specs.Records.{end_of, record_in_range}
use Rattle.link.specs.Table.{Timeout-snd, Incorrect-rcv-1st}
use Rattle.link.specs.Judged.{passed, row_of, ruled, good_version, good_number, narrowed, checked_by, expected_now, run_out, run_out_verdict, judged, ticked}
use Rattle.link.specs.Times.{idle_due}
use Rattle.link.specs.Steps.{declared_by, open_refusal, open_of, close_refusal, close_of, send_refusal, send_of, received_refusal, received_of, tick_refusal, tick_of, quietly, refused_step, writing_step, act_of, unless_step}
use Rattle.link.specs.Facts.{Answers}
use Rattle.link.specs.declared.Record.{Record}
use Rattle.link.specs.declared.Step.{Step}
use Rattle.link.specs.declared.Event.{Event}
use Rattle.link.specs.declared.Verdict.{Verdict}
use Rattle.link.specs.declared.Verdict.TheVariants.{Nothing, Confirm, Authenticate, Acknowledge, Open, Data, Idle, SendIdle, Disconnected, Close}

-- a writer that has all it asks for writes
writes : (e : End) (room : ℕ) (allowed : Bool) (t : List ℕ) → in_range e ≡ true → leb longest room ≡ true → allowed ≡ true → (answer_of (unless (refusal e room allowed) t)).answer ≡ 0
unfolding refusal pick
writes e room allowed t h r a = rw (h, r, a) refl

writing_number : (w : Written) (r q : Record) (kind : ℕ) (e : Event) → w.answer ≡ 0 → (writing_step w r q kind e).answer.number ≡ 0
unfolding writing_step pick
writing_number w r q kind e h = rw h refl

quiet_number : (q : Record) (e : Event) → (quietly q e).answer.number ≡ 0
unfolding quietly
quiet_number q e = refl

unless_number : (n : ℕ) (r : Record) (s : Step) → (n ≡ 0 → s.answer.number ≡ 0) → (unless_step n r s).answer.number ≡ n
unfolding pick refused_step
unless_number n r s h = split (eqb n 0) refl
  where
    split : (b : Bool) → eqb n 0 ≡ b → (pick b s (refused_step n r)).answer.number ≡ n
    split true e = let z = eqb-true n 0 e in h z ∙ sym z
    split false e = refl

-- a verdict that closes has a reason that may be written
abbrev writable : Verdict → Bool
writable (Close reason last) = listed_reason reason
writable Nothing = true
writable Confirm = true
writable Authenticate = true
writable Acknowledge = true
writable Open = true
writable Data = true
writable Idle = true
writable SendIdle = true
writable Disconnected = true

type_good : (last : Bool) → good_type (pick last 0 1) ≡ true
unfolding good_type pick
type_good true = refl
type_good false = refl

closing_allowed : (last : Bool) (reason l : ℕ) → listed_reason reason ≡ true → disconnect_allowed (pick last 0 1) reason 0 l ≡ true
unfolding disconnect_allowed
closing_allowed last reason l h = both_are (good_type (pick last 0 1)) _ (type_good last) (both_are (listed_reason reason) _ h refl)

act_number : (v : Verdict) (r : Record) (own time random declared : ℕ) (t net d : List ℕ) → record_in_range r own ≡ true → leb longest (length d) ≡ true
    → connect_allowed declared (length net) r.level ≡ true → writable v ≡ true → (act_of v r own time random declared t net d).answer.number ≡ 0
unfolding end_of writes_confirm writes_authentication writes_acknowledgement writes_disconnect writes_idle
act_number Nothing r own time random declared t net d h m a w = quiet_number r _
act_number Confirm r own time random declared t net d h m a w = writing_number _ r _ 2 _ (writes (end_of r own) (length d) _ _ (parts r own h).end m a)
act_number Authenticate r own time random declared t net d h m a w = writing_number _ r _ 3 _ (writes (end_of r own) (length d) true _ (parts r own h).end m refl)
act_number Acknowledge r own time random declared t net d h m a w = writing_number _ r _ 4 _ (writes (end_of r own) (length d) true _ (parts r own h).end m refl)
act_number Open r own time random declared t net d h m a w = quiet_number _ _
act_number Data r own time random declared t net d h m a w = quiet_number _ _
act_number Idle r own time random declared t net d h m a w = quiet_number _ _
act_number SendIdle r own time random declared t net d h m a w = writing_number _ r _ 6 _ (writes (end_of r own) (length d) true _ (parts r own h).end m refl)
act_number Disconnected r own time random declared t net d h m a w = quiet_number _ _
act_number (Close reason last) r own time random declared t net d h m a w =
    writing_number _ r _ 5 _ (writes (end_of r own) (length d) _ _ (parts r own h).end m (closing_allowed last reason r.level w))

-- no writer refuses what the verdict asks for
abbrev GoesOut : Verdict → Type 0
GoesOut v = writable v ≡ true

-- every row's reasons are listed, in every phase
by_kind : (k : Kind) (p : ℕ) (r : Record) (t : List ℕ) → 1 ≤ p → p ≤ 5 → writable (narrowed (ruled (row_of k) p) r t) ≡ true
unfolding listed_reason pick
by_kind kind.Request p r t l h =
    phases (λ (q : ℕ). writable (narrowed (ruled (row_of kind.Request) q) r t) ≡ true) p l h (either GoesOut (good_version t) Confirm Nothing refl refl) refl refl refl refl
by_kind kind.Confirm p r t l h =
    phases (λ (q : ℕ). writable (narrowed (ruled (row_of kind.Confirm) q) r t) ≡ true) p l h refl (either GoesOut (good_version t) Authenticate (Close 0x01 true) refl refl) refl refl refl
by_kind kind.Authentication p r t l h =
    phases (λ (q : ℕ). writable (narrowed (ruled (row_of kind.Authentication) q) r t) ≡ true) p l h refl refl (either GoesOut (good_number r 1 t) Acknowledge (Close 0x03 true) refl refl) refl refl
by_kind kind.Acknowledgement p r t l h =
    phases (λ (q : ℕ). writable (narrowed (ruled (row_of kind.Acknowledgement) q) r t) ≡ true) p l h refl refl refl (either GoesOut (good_number r 2 t) Open (Close 0x03 true) refl refl) refl
by_kind kind.Disconnect p r t l h = phases (λ (q : ℕ). writable (narrowed (ruled (row_of kind.Disconnect) q) r t) ≡ true) p l h refl refl refl refl refl
by_kind kind.Idle p r t l h = phases (λ (q : ℕ). writable (narrowed (ruled (row_of kind.Idle) q) r t) ≡ true) p l h refl refl refl refl refl
by_kind kind.Data p r t l h = phases (λ (q : ℕ). writable (narrowed (ruled (row_of kind.Data) q) r t) ≡ true) p l h refl refl refl refl refl
by_kind kind.Unknown p r t l h = phases (λ (q : ℕ). writable (narrowed (ruled (row_of kind.Unknown) q) r t) ≡ true) p l h refl refl refl refl refl

incorrect : (p : ℕ) → 1 ≤ p → p ≤ 5 → writable (ruled Incorrect-rcv-1st p) ≡ true
unfolding listed_reason pick
incorrect p l h = phases (λ (q : ℕ). writable (ruled Incorrect-rcv-1st q) ≡ true) p l h refl refl refl refl refl

run_out_lem : (p : ℕ) → 1 ≤ p → p ≤ 5 → writable (run_out_verdict p) ≡ true
unfolding run_out_verdict listed_reason pick
run_out_lem p l h = phases (λ (q : ℕ). writable (run_out_verdict q) ≡ true) p l h refl refl refl refl refl

by_check : (c : Check) (r : Record) (t : List ℕ) → 1 ≤ r.phase → r.phase ≤ 5 → writable (checked_by c r t) ≡ true
unfolding passed
by_check (Ok done) r t l h = by_kind (kind_of_command (command_of t)) r.phase r t l h
by_check (Err why) r t l h = incorrect r.phase l h

judged_writable : (r : Record) (own time : ℕ) (t : List ℕ) → 1 ≤ r.phase → r.phase ≤ 5 → writable (judged r own time t) ≡ true
unfolding judged
judged_writable r own time t l h = either GoesOut (run_out r time) _ _ (run_out_lem r.phase l h) (by_check (check_of (end_of r own) (expected_now r) t) r t l h)

ticked_writable : (r : Record) (time : ℕ) → 1 ≤ r.phase → r.phase ≤ 5 → writable (ticked r time) ≡ true
unfolding ticked pick
ticked_writable r time l h =
    either GoesOut (run_out r time) _ _ (run_out_lem r.phase l h) (either GoesOut (eqb r.phase 5) _ Nothing (either GoesOut (idle_due r time) _ Nothing (sends r.phase l h) refl) refl)
  where
    sends : (p : ℕ) → 1 ≤ p → p ≤ 5 → writable (ruled Timeout-snd p) ≡ true
    sends p m n = phases (λ (q : ℕ). writable (ruled Timeout-snd q) ≡ true) p m n refl refl refl refl refl

-- a tick has no confirm to write, so no idle time and no net data
none_allowed : (l : ℕ) → connect_allowed 0 0 l ≡ true
unfolding connect_allowed good_idle pick
none_allowed l = le-leb 0 (most kind.Request l) (omega arith)

pub answers : Answers
unfolding open_of open_refusal close_of close_refusal send_of send_refusal received_of received_refusal tick_of tick_refusal end_of writes_request writes_disconnect writes_data
answers =
    record {
      by_open = λ r own time random i net d.
          unless_number (open_refusal r own i net d) r _ (λ z. let k = clear _ _ _ _ _ _ z in
          writing_number _ r _ 1 _ (writes (end_of r own) (length d) _ _ (parts r own k.ranged).end k.room k.allowed));
      by_close = λ r own type reason text d.
          unless_number (close_refusal r own type reason text d) r _ (λ z. let k = clear _ _ _ _ _ _ z in
          writing_number _ r _ 5 _ (writes (end_of r own) (length d) _ _ (parts r own k.ranged).end k.room k.allowed));
      by_send = λ r own time low net d.
          unless_number (send_refusal r own low net d) r _ (λ z. let k = clear _ _ _ _ _ _ z in
          writing_number _ r _ 7 _ (writes (end_of r own) (length d) _ _ (parts r own k.ranged).end k.room k.allowed));
      by_received = λ r own time random i t net d.
          unless_number (received_refusal r own i t net d) r _ (λ z. let k = clear _ _ _ _ _ _ z in let live = live_phase r own (received_refusal r own i t net d) _ _ _ _ refl z in
          act_number (judged r own time t) r own time random (declared_by i) t net d k.ranged k.room k.allowed (judged_writable r own time t live.0 live.1));
      by_tick = λ r own time d.
          unless_number (tick_refusal r own d) r _ (λ z. let k = clear _ _ _ _ _ _ z in let live = live_phase r own (tick_refusal r own d) _ _ _ _ refl z in
          act_number (ticked r time) r own time 0 0 [] [] d k.ranged k.room (none_allowed r.level) (ticked_writable r time live.0 live.1));
    }
