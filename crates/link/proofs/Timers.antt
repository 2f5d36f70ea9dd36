-- No step sets a timer later than its own time: a record that it leaves has each timer at that time, at 0, or as it was.
-- Assumes nothing.
use Rattle.std.proofs.Common.{ℕ, ◌≤◌, Bool, eqb, List, [], arith}
use Rattle.ground.specs.Choice.{pick}
use Rattle.telegram.specs.declared.Written.{Written}
use Rattle.link.proofs.Cases.{either}
use Rattle.link.specs.Records.{become, closed_by}
use Rattle.link.specs.Judged.{judged, ticked}
use Rattle.link.specs.Steps.{taken, sent, quietly, refused_step, writing_step, act_of, unless_step, open_refusal, open_of, close_refusal, close_of, send_refusal, send_of, received_refusal, received_of, tick_refusal, tick_of}
use Rattle.link.specs.Facts.{Timers, TimersKept}
use Rattle.link.specs.declared.Record.{Record}
use Rattle.link.specs.declared.Step.{Step}
use Rattle.link.specs.declared.Event.{Event}
use Rattle.link.specs.declared.Verdict.{Verdict}
use Rattle.link.specs.declared.Verdict.TheVariants.{Nothing, Confirm, Authenticate, Acknowledge, Open, Data, Idle, SendIdle, Disconnected, Close}

become_timed : (time : ℕ) (r : Record) (phase sending expected declared watched sentAt takenAt : ℕ) → sentAt ≤ time → takenAt ≤ time
    → Timers time (become r phase sending expected declared watched sentAt takenAt)
unfolding become
become_timed time r phase sending expected declared watched sentAt takenAt s t = record { sent_at_holds = s; taken_at = t }

closed_timed : (time : ℕ) (last : Bool) (r : Record) → Timers time (closed_by last r)
unfolding closed_by
closed_timed time last r = become_timed time r (pick last 6 1) 0 0 0 0 0 0 (omega arith) (omega arith)

taken_timed : (time : ℕ) (r : Record) → Timers time r → Timers time (taken r time)
unfolding taken
taken_timed time r h = become_timed time r 5 r.sending _ r.declared r.watched r.sent_at time h.sent_at_holds (omega arith)

sent_timed : (time : ℕ) (r : Record) → Timers time r → Timers time (sent r time)
unfolding sent
sent_timed time r h = become_timed time r 5 _ r.expected r.declared r.watched time r.taken_at (omega arith) h.taken_at

quiet_timed : (time : ℕ) (q : Record) (e : Event) → Timers time q → Timers time (quietly q e).«record»
unfolding quietly
quiet_timed time q e h = h

refused_timed : (time n : ℕ) (r : Record) → Timers time r → Timers time (refused_step n r).«record»
unfolding refused_step
refused_timed time n r h = h

writing_timed : (time : ℕ) (w : Written) (r q : Record) (kind : ℕ) (e : Event) → Timers time r → Timers time q → Timers time (writing_step w r q kind e).«record»
unfolding writing_step
writing_timed time w r q kind e h g = either (λ (s : Step). Timers time s.«record») (eqb w.answer 0) _ _ g (refused_timed time w.answer r h)

-- set to the step's time
now_timed : (time : ℕ) (r : Record) (phase sending expected declared watched : ℕ) → Timers time (become r phase sending expected declared watched time time)
now_timed time r phase sending expected declared watched = become_timed time r phase sending expected declared watched time time (omega arith) (omega arith)

act_timed : (v : Verdict) (r : Record) (own time random declared : ℕ) (t net d : List ℕ) → Timers time r → Timers time (act_of v r own time random declared t net d).«record»
act_timed Nothing r own time random declared t net d h = quiet_timed time r _ h
act_timed Confirm r own time random declared t net d h = writing_timed time _ r _ 2 _ h (now_timed time r 3 _ _ _ _)
act_timed Authenticate r own time random declared t net d h = writing_timed time _ r _ 3 _ h (now_timed time r 4 _ _ _ _)
act_timed Acknowledge r own time random declared t net d h = writing_timed time _ r _ 4 _ h (now_timed time r 5 _ _ _ _)
act_timed Open r own time random declared t net d h = quiet_timed time _ _ (taken_timed time r h)
act_timed Data r own time random declared t net d h = quiet_timed time _ _ (taken_timed time r h)
act_timed Idle r own time random declared t net d h = quiet_timed time _ _ (taken_timed time r h)
act_timed SendIdle r own time random declared t net d h = writing_timed time _ r _ 6 _ h (sent_timed time r h)
act_timed Disconnected r own time random declared t net d h = quiet_timed time _ _ (closed_timed time _ r)
act_timed (Close reason last) r own time random declared t net d h = writing_timed time _ r _ 5 _ h (closed_timed time last r)

unless_timed : (time n : ℕ) (r : Record) (s : Step) → Timers time r → Timers time s.«record» → Timers time (unless_step n r s).«record»
unless_timed time n r s h g = either (λ (s : Step). Timers time s.«record») (eqb n 0) s (refused_step n r) g (refused_timed time n r h)

pub timers_kept : TimersKept
unfolding open_of close_of send_of received_of tick_of
timers_kept =
    record {
      by_open = λ r own time random i net d h.
          unless_timed time (open_refusal r own i net d) r _ h (writing_timed time _ r _ 1 _ h (become_timed time r 2 _ _ _ _ time 0 (omega arith) (omega arith)));
      by_close = λ r own time type reason text d h.
          unless_timed time (close_refusal r own type reason text d) r _ h (writing_timed time _ r _ 5 _ h (closed_timed time _ r));
      by_send = λ r own time low net d h. unless_timed time (send_refusal r own low net d) r _ h (writing_timed time _ r _ 7 _ h (sent_timed time r h));
      by_received = λ r own time random i t net d h.
          unless_timed time (received_refusal r own i t net d) r _ h (act_timed (judged r own time t) r own time random _ t net d h);
      by_tick = λ r own time d h. unless_timed time (tick_refusal r own d) r _ h (act_timed (ticked r time) r own time 0 0 [] [] d h);
    }
