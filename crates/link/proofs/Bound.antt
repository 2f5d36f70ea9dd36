-- The table binds the steps: a verdict's step does one thing and leaves one phase, whatever row asked for it, and cell by cell these are the cell's. A refusal
-- for the phase leaves all as it was, which is what the cell says there.
-- Assumes nothing.
use Rattle.std.specs.Prelude.{Option}
use Rattle.std.proofs.Common.{◌≡◌, ℕ, zero, suc, ◌≤◌, Bool, true, false, eqb, List, [], length, refl, ◌∙◌, arith, eq-eqb, eqb-true}
use Rattle.ground.specs.Choice.{pick}
use Rattle.telegram.specs.Commands.{kind_of_command}
use Rattle.telegram.specs.Fields.{random_of, type_of}
use Rattle.telegram.specs.Telegrams as telegrams
use Rattle.telegram.specs.Writers.{refusal, unless, answer_of, left_by, connect_allowed, disconnect_allowed, data_allowed, writes_request, writes_confirm, writes_authentication, writes_acknowledgement, writes_disconnect, writes_idle, writes_data}
use Rattle.telegram.specs.Check.{command_of}
use Rattle.telegram.specs.declared.End.{End}
use Rattle.telegram.specs.declared.Written.{Written}
use Rattle.telegram.specs.declared.Kind.{Kind}
use Rattle.telegram.specs.declared.Kind.TheVariants as kind
use Rattle.link.proofs.Cases.{phases, live_phase}
use Rattle.link.proofs.Facts.{as_printed, by_the_table}
use Rattle.link.proofs.Answers.{answers}
use Rattle.link.specs.Records.{end_of, record_in_range, become, closed_by}
use Rattle.link.specs.Times.{idle_due}
use Rattle.link.specs.Table.{Cell, Row, ◌⇒◌, reading, f00, f01, f02, f03, f04, f05, f06, f07, f08, f09, f10, f12, idle, defect, Connect-snd, Data-snd, Timeout-snd, Timeout-rcv, Timeout-brk, Incorrect-rcv-1st, Discon-snd, FDiscon-snd}
use Rattle.link.specs.Judged.{row_of, ruled, narrowed, back, good_version, good_number, run_out, judged, ticked}
use Rattle.link.specs.Steps.{neb, first_refusal, declared_by, taken, sent, quietly, refused_step, writing_step, act_of, act_out, unless_step, unless_out, open_refusal, open_of, open_out, close_refusal, close_of, close_out, send_refusal, send_of, send_out, received_refusal, received_of, received_out, tick_refusal, tick_of, tick_out}
use Rattle.link.specs.Bound.{leads, number_of, Front, Stands, Doing, doing, hands_up, Done, Obeys, Keeps, instead, Timer, interval, watch, wait, row_of_timer, runs, TableBound}
use Rattle.link.specs.declared.Record.{Record}
use Rattle.link.specs.declared.Step.{Step}
use Rattle.link.specs.declared.Event.{Event}
use Rattle.link.specs.declared.Verdict.{Verdict}
use Rattle.link.specs.declared.Verdict.TheVariants.{Nothing, Confirm, Authenticate, Acknowledge, Open, Data, Idle, SendIdle, Disconnected, Close}

never : {A : Type 0} → false ≡ true → A
never e = let z : ◌≡◌ {A = ℕ} 0 1 = cc in absurd (omega arith)

always : {A : Type 0} → true ≡ false → A
always e = let z : ◌≡◌ {A = ℕ} 0 1 = cc in absurd (omega arith)

-- What a step does

-- what a verdict does, by an action that does it, and the phase that it leaves
abbrev done_by : Verdict → Doing
done_by Nothing = doing f00
done_by Confirm = doing f02
done_by Authenticate = doing f03
done_by Acknowledge = doing f04
done_by Open = doing f12
done_by Data = doing f09
done_by Idle = doing f10
done_by SendIdle = doing f06
done_by Disconnected = doing f00
done_by (Close reason true) = doing f08
done_by (Close reason false) = doing f07

abbrev phase_by : Verdict → ℕ → List ℕ → ℕ
phase_by Nothing p t = p
phase_by Confirm p t = 3
phase_by Authenticate p t = 4
phase_by Acknowledge p t = 5
phase_by Open p t = 5
phase_by Data p t = 5
phase_by Idle p t = 5
phase_by SendIdle p t = 5
phase_by Disconnected p t = pick (eqb (type_of t) 0) 6 1
phase_by (Close reason last) p t = pick last 6 1

-- what a step leaves: a phase, and what was done
abbrev Leaves : ℕ → Doing → Record → ℕ → ℕ → List ℕ → Step → List ℕ → Type 0
Leaves m x r own time d s o = (s.«record».phase ≡ m) × Done x r own time d s o

-- a writing step that is done has the record and the telegram that it was given, and its writer has written
abbrev made : Written → Record → ℕ → Event → Step
made w q kind e = record { «record» = q; answer = record { number = 0; telegram = kind; length = w.length }; event = e }

made_is : (w : Written) (r q : Record) (kind : ℕ) (e : Event) → (writing_step w r q kind e).answer.number ≡ 0 → (w.answer ≡ 0) × (writing_step w r q kind e ≡ made w q kind e)
unfolding writing_step refused_step pick
made_is w r q kind e = split (eqb w.answer 0) refl
  where
    split : (b : Bool) → eqb w.answer 0 ≡ b → (pick b (made w q kind e) (refused_step w.answer r)).answer.number ≡ 0
        → (w.answer ≡ 0) × (pick b (made w q kind e) (refused_step w.answer r) ≡ made w q kind e)
    split true h z = (eqb-true w.answer 0 h, refl)
    split false h z = never (cc (eq-eqb w.answer 0 z))

front_by : (n : ℕ) (t d : List ℕ) → (answer_of (unless n t)).answer ≡ 0 → Front t d (left_by (unless n t) d)
front_by zero t d z = refl
front_by (suc n) t d z = absurd (omega arith)

front : (e : End) (allowed : Bool) (t d : List ℕ) → (answer_of (unless (refusal e (length d) allowed) t)).answer ≡ 0 → Front t d (left_by (unless (refusal e (length d) allowed) t) d)
front e allowed t d = front_by (refusal e (length d) allowed) t d

disconnects : (r : Record) (own type reason : ℕ) (text d : List ℕ) → (answer_of (writes_disconnect (end_of r own) r.sending type reason text d)).answer ≡ 0
    → Front (telegrams.disconnect (end_of r own) r.sending type reason text) d (left_by (writes_disconnect (end_of r own) r.sending type reason text d) d)
unfolding writes_disconnect
disconnects r own type reason text d = front (end_of r own) (disconnect_allowed type reason (length text) (end_of r own).level) (telegrams.disconnect (end_of r own) r.sending type reason text) d

writing : (x : Doing) (w : Written) (r q : Record) (own time m kind : ℕ) (e : Event) (d o : List ℕ) → q.phase ≡ m → kind ≡ number_of x.sends
    → (w.answer ≡ 0 → Stands x.sends (end_of r own) r.sending d o) → hands_up e ≡ x.passes → (x.sending ≡ true → q.sent_at ≡ time)
    → (x.taking ≡ true → q.taken_at ≡ time) → (writing_step w r q kind e).answer.number ≡ 0 → Leaves m x r own time d (writing_step w r q kind e) o
writing x w r q own time m kind e d o p n stands h s t z =
    let is = made_is w r q kind e z in rw is.1 (p, record { named = n; stands = stands is.0; handed = h; sending = s; taking = t })

quiet : (x : Doing) (r q : Record) (own time m : ℕ) (e : Event) (d : List ℕ) → q.phase ≡ m → 0 ≡ number_of x.sends
    → Stands x.sends (end_of r own) r.sending d d → hands_up e ≡ x.passes → (x.sending ≡ true → q.sent_at ≡ time) → (x.taking ≡ true → q.taken_at ≡ time)
    → Leaves m x r own time d (quietly q e) d
unfolding quietly
quiet x r q own time m e d p n stands h s t = (p, record { named = n; stands = stands; handed = h; sending = s; taking = t })

act_leaves : (v : Verdict) (r : Record) (own time random declared : ℕ) (t net d : List ℕ) → (act_of v r own time random declared t net d).answer.number ≡ 0
    → Leaves (phase_by v r.phase t) (done_by v) r own time d (act_of v r own time random declared t net d) (act_out v r own random declared t net d)
unfolding end_of writes_confirm writes_authentication writes_acknowledgement writes_idle become closed_by taken sent pick
act_leaves Nothing r own time random declared t net d = λ _. quiet (doing f00) r r own time _ _ d refl refl refl refl never never
act_leaves Confirm r own time random declared t net d =
    writing (doing f02) _ r _ own time 3 2 _ d _ refl refl
    (λ z. (random, declared, net, front (end_of r own) (connect_allowed declared (length net) r.level) (telegrams.confirm (end_of r own) random declared net) d z)) refl (λ _. refl) never
act_leaves Authenticate r own time random declared t net d =
    writing (doing f03) _ r _ own time 4 3 _ d _ refl refl
    (λ z. (random_of t, front (end_of r own) true (telegrams.authentication (end_of r own) r.sending (random_of t)) d z)) refl (λ _. refl) never
act_leaves Acknowledge r own time random declared t net d =
    writing (doing f04) _ r _ own time 5 4 _ d _ refl refl
    (λ z. (back 1 r.expected, front (end_of r own) true (telegrams.acknowledgement (end_of r own) r.sending (back 1 r.expected)) d z)) refl (λ _. refl) (λ _. refl)
act_leaves Open r own time random declared t net d = λ _. quiet (doing f12) r _ own time _ _ d refl refl refl refl never (λ _. refl)
act_leaves Data r own time random declared t net d = λ _. quiet (doing f09) r _ own time _ _ d refl refl refl refl never (λ _. refl)
act_leaves Idle r own time random declared t net d = λ _. quiet (doing f10) r _ own time _ _ d refl refl refl refl never (λ _. refl)
act_leaves SendIdle r own time random declared t net d =
    writing (doing f06) _ r _ own time 5 6 _ d _ refl refl (front (end_of r own) true (telegrams.idle (end_of r own) r.sending) d) refl (λ _. refl) never
act_leaves Disconnected r own time random declared t net d = λ _. quiet (doing f00) r _ own time _ _ d refl refl refl refl never never
act_leaves (Close reason true) r own time random declared t net d =
    writing (doing f08) _ r _ own time 6 5 _ d _ refl refl (λ z. (reason, [], disconnects r own 0 reason [] d z)) refl never never
act_leaves (Close reason false) r own time random declared t net d =
    writing (doing f07) _ r _ own time 1 5 _ d _ refl refl (λ z. (reason, [], disconnects r own 1 reason [] d z)) refl never never

-- What a cell says

-- the cell of the phase p leads to the phase m by doing x
abbrev Says : ℕ → Doing → Cell → ℕ → Type 0
Says m x c p = (m ≡ leads c.next p) × (x ≡ doing c.action)

-- where a test holds; where it does not, nothing is done
abbrev SaysWhere : Bool → ℕ → Doing → Cell → ℕ → Type 0
SaysWhere b m x c p = Says (pick b m p) (pick b x (doing f00)) c p

abbrev ByVerdict : Verdict → Cell → ℕ → List ℕ → Type 0
ByVerdict v c p t = Says (phase_by v p t) (done_by v) c p

-- either way of a choice
chosen : (b : Bool) (v w : Verdict) (c e : Cell) (p : ℕ) (t : List ℕ) → ByVerdict v c p t → ByVerdict w e p t → ByVerdict (pick b v w) (pick b c e) p t
unfolding pick
chosen true v w c e p t x y = x
chosen false v w c e p t x y = y

-- a disconnect received, by its type
typed : (b : Bool) (p : ℕ) → Says (pick b 6 1) (doing f00) (pick b (f00 ⇒ defect) (f00 ⇒ idle)) p
unfolding pick
typed true p = (refl, refl)
typed false p = (refl, refl)

-- a telegram that passes the check
abbrev PassedCell : Kind → Record → List ℕ → ℕ → Type 0
PassedCell k r t p = ByVerdict (narrowed (ruled (row_of k) p) r t) (instead k p r t (reading (row_of k) p)) p t

passed_cells : (k : Kind) (p : ℕ) (r : Record) (t : List ℕ) → 1 ≤ p → p ≤ 5 → PassedCell k r t p
unfolding pick
passed_cells kind.Request p r t l h =
    phases (PassedCell kind.Request r t) p l h (chosen (good_version t) _ _ _ _ 1 t (refl, refl) (refl, refl)) (refl, refl) (refl, refl) (refl, refl) (refl, refl)
passed_cells kind.Confirm p r t l h =
    phases (PassedCell kind.Confirm r t) p l h (refl, refl) (chosen (good_version t) _ _ _ _ 2 t (refl, refl) (refl, refl)) (refl, refl) (refl, refl) (refl, refl)
passed_cells kind.Authentication p r t l h =
    phases (PassedCell kind.Authentication r t) p l h (refl, refl) (refl, refl) (chosen (good_number r 1 t) _ _ _ _ 3 t (refl, refl) (refl, refl)) (refl, refl) (refl, refl)
passed_cells kind.Acknowledgement p r t l h =
    phases (PassedCell kind.Acknowledgement r t) p l h (refl, refl) (refl, refl) (refl, refl) (chosen (good_number r 2 t) _ _ _ _ 4 t (refl, refl) (refl, refl)) (refl, refl)
passed_cells kind.Disconnect p r t l h =
    let type = eqb (type_of t) 0 in phases (PassedCell kind.Disconnect r t) p l h (refl, refl) (typed type 2) (typed type 3) (typed type 4) (typed type 5)
passed_cells kind.Idle p r t l h = phases (PassedCell kind.Idle r t) p l h (refl, refl) (refl, refl) (refl, refl) (refl, refl) (refl, refl)
passed_cells kind.Data p r t l h = phases (PassedCell kind.Data r t) p l h (refl, refl) (refl, refl) (refl, refl) (refl, refl) (refl, refl)
passed_cells kind.Unknown p r t l h = phases (PassedCell kind.Unknown r t) p l h (refl, refl) (refl, refl) (refl, refl) (refl, refl) (refl, refl)

-- in the column Defect nothing is done
defect_cells : (k : Kind) (r : Record) (t : List ℕ) → Says 6 (doing f00) (instead k 6 r t (reading (row_of k) 6)) 6
unfolding pick
defect_cells kind.Request r t = (refl, refl)
defect_cells kind.Confirm r t = (refl, refl)
defect_cells kind.Authentication r t = (refl, refl)
defect_cells kind.Acknowledgement r t = (refl, refl)
defect_cells kind.Disconnect r t = (refl, refl)
defect_cells kind.Idle r t = (refl, refl)
defect_cells kind.Data r t = (refl, refl)
defect_cells kind.Unknown r t = (refl, refl)

-- one that fails it, and what runs out
abbrev RuledCell : Row → List ℕ → ℕ → Type 0
RuledCell row t p = ByVerdict (ruled row p) (reading row p) p t

failed_cells : (p : ℕ) (t : List ℕ) → 1 ≤ p → p ≤ 5 → RuledCell Incorrect-rcv-1st t p
unfolding pick
failed_cells p t l h = phases (RuledCell Incorrect-rcv-1st t) p l h (refl, refl) (refl, refl) (refl, refl) (refl, refl) (refl, refl)

wait_cells : (p : ℕ) (t : List ℕ) → 1 ≤ p → p ≤ 5 → RuledCell Timeout-brk t p
unfolding pick
wait_cells p t l h = phases (RuledCell Timeout-brk t) p l h (refl, refl) (refl, refl) (refl, refl) (refl, refl) (refl, refl)

watch_cells : (p : ℕ) (t : List ℕ) → p ≡ 5 → ByVerdict (ruled Timeout-rcv 5) (reading Timeout-rcv p) p t
unfolding pick
watch_cells p t e = rw e (refl, refl)

interval_cells : (p : ℕ) → p ≡ 5 → ByVerdict (ruled Timeout-snd 5) (reading Timeout-snd p) p []
unfolding pick
interval_cells p e = rw e (refl, refl)

-- a timer that does not run
resting_cells : (k : Timer) (p : ℕ) → runs k p ≡ false → 1 ≤ p → p ≤ 5 → Says p (doing f00) (reading (row_of_timer k) p) p
unfolding pick
resting_cells interval p n l h =
    phases (λ (q : ℕ). runs interval q ≡ false → Says q (doing f00) (reading Timeout-snd q) q) p l h (λ _. (refl, refl)) (λ _. (refl, refl)) (λ _. (refl, refl)) (λ _. (refl, refl)) always n
resting_cells watch p n l h =
    phases (λ (q : ℕ). runs watch q ≡ false → Says q (doing f00) (reading Timeout-rcv q) q) p l h (λ _. (refl, refl)) (λ _. (refl, refl)) (λ _. (refl, refl)) (λ _. (refl, refl)) always n
resting_cells wait p n l h =
    phases (λ (q : ℕ). runs wait q ≡ false → Says q (doing f00) (reading Timeout-brk q) q) p l h (λ _. (refl, refl)) always always always (λ _. (refl, refl)) n

defect_timers : (k : Timer) → Says 6 (doing f00) (reading (row_of_timer k) 6) 6
unfolding pick
defect_timers interval = (refl, refl)
defect_timers watch = (refl, refl)
defect_timers wait = (refl, refl)

-- what the layer above asks for: done in the phases that it is for
open_cells : (p : ℕ) → 1 ≤ p → p ≤ 5 → SaysWhere (eqb p 1) 2 (doing f01) (reading Connect-snd p) p
unfolding pick
open_cells p l h = phases (λ (q : ℕ). SaysWhere (eqb q 1) 2 (doing f01) (reading Connect-snd q) q) p l h (refl, refl) (refl, refl) (refl, refl) (refl, refl) (refl, refl)

send_cells : (p : ℕ) → 1 ≤ p → p ≤ 5 → SaysWhere (eqb p 5) 5 (doing f05) (reading Data-snd p) p
unfolding pick
send_cells p l h = phases (λ (q : ℕ). SaysWhere (eqb q 5) 5 (doing f05) (reading Data-snd q) q) p l h (refl, refl) (refl, refl) (refl, refl) (refl, refl) (refl, refl)

close_cells : (p : ℕ) → 1 ≤ p → p ≤ 5 → SaysWhere (neb p 1) 1 (doing f07) (reading Discon-snd p) p
unfolding pick
close_cells p l h = phases (λ (q : ℕ). SaysWhere (neb q 1) 1 (doing f07) (reading Discon-snd q) q) p l h (refl, refl) (refl, refl) (refl, refl) (refl, refl) (refl, refl)

final_cells : (p : ℕ) → 1 ≤ p → p ≤ 5 → SaysWhere (neb p 1) 6 (doing f08) (reading FDiscon-snd p) p
unfolding pick
final_cells p l h = phases (λ (q : ℕ). SaysWhere (neb q 1) 6 (doing f08) (reading FDiscon-snd q) q) p l h (refl, refl) (refl, refl) (refl, refl) (refl, refl) (refl, refl)

-- From cells to steps

obeyed : (c : Cell) (r : Record) (own time m : ℕ) (x : Doing) (s : Step) (d o : List ℕ) → Leaves m x r own time d s o → Says m x c r.phase → Obeys c r own time d s o
obeyed c r own time m x s d o left says = record { next = left.0 ∙ says.0; action = rw (← says.1) left.1 }

refused_obeys : (n : ℕ) (c : Cell) (r : Record) (own time : ℕ) (d : List ℕ) → Says r.phase (doing f00) c r.phase → Obeys c r own time d (refused_step n r) d
unfolding refused_step
refused_obeys n c r own time d says = obeyed c r own time r.phase (doing f00) _ d d (refl, record { named = refl; stands = refl; handed = refl; sending = never; taking = never }) says

-- done, refused for the phase, or finally closed; every other refusal is not the table's
keeps_by : (a b k l e f : Bool) (c : Cell) (r : Record) (own time m : ℕ) (x : Doing) (s : Step) (d o : List ℕ)
    → (unless_step (first_refusal a b k l e f) r s).answer.number ≡ first_refusal a b k l e f → (s.answer.number ≡ 0 → Leaves m x r own time d s o)
    → (a ≡ true → l ≡ true → SaysWhere e m x c r.phase) → (a ≡ true → l ≡ false → Says r.phase (doing f00) c r.phase)
    → Keeps c r own time d (unless_step (first_refusal a b k l e f) r s) (unless_out (first_refusal a b k l e f) d o)
unfolding first_refusal pick refused_step
keeps_by true true true true true true c r own time m x s d o num left says last h = obeyed c r own time m x s d o (left num) (says refl refl)
keeps_by true true true true true false c r own time m x s d o num left says last h = never h
keeps_by true true true true false f c r own time m x s d o num left says last h = refused_obeys 3 c r own time d (says refl refl)
keeps_by true true true false e f c r own time m x s d o num left says last h = refused_obeys 8 c r own time d (last refl refl)
keeps_by true true false l e f c r own time m x s d o num left says last h = never h
keeps_by true false k l e f c r own time m x s d o num left says last h = never h
keeps_by false b k l e f c r own time m x s d o num left says last h = never h

living : (r : Record) (own : ℕ) → record_in_range r own ≡ true → neb r.phase 6 ≡ true → (1 ≤ r.phase) × (r.phase ≤ 5)
unfolding first_refusal pick
living r own a l = live_phase r own (first_refusal (record_in_range r own) true true (neb r.phase 6) true true) true true true true refl (rw (a, l))

same : (x y : ℕ) → neb x y ≡ false → x ≡ y
unfolding pick
same x y = split (eqb x y) refl
  where
    split : (b : Bool) → eqb x y ≡ b → pick b false true ≡ false → x ≡ y
    split true e h = eqb-true x y e
    split false e h = always h

finally : (c : ℕ → Cell) (p : ℕ) → p ≡ 6 → Says 6 (doing f00) (c 6) 6 → Says p (doing f00) (c p) p
finally c p e says = rw e says

keeps : (c : ℕ → Cell) (r : Record) (own time m : ℕ) (x : Doing) (room carried suited allowed : Bool) (s : Step) (d o : List ℕ)
    → (let n : ℕ = first_refusal (record_in_range r own) room carried (neb r.phase 6) suited allowed in (unless_step n r s).answer.number ≡ n)
    → (s.answer.number ≡ 0 → Leaves m x r own time d s o) → (1 ≤ r.phase → r.phase ≤ 5 → SaysWhere suited m x (c r.phase) r.phase) → Says 6 (doing f00) (c 6) 6
    → (let n : ℕ = first_refusal (record_in_range r own) room carried (neb r.phase 6) suited allowed in Keeps (c r.phase) r own time d (unless_step n r s) (unless_out n d o))
keeps c r own time m x room carried suited allowed s d o num left says last =
    keeps_by (record_in_range r own) room carried (neb r.phase 6) suited allowed (c r.phase) r own time m x s d o num left
    (λ a l. says (living r own a l).0 (living r own a l).1) (λ a l. finally c r.phase (same r.phase 6 l) last)

received_keeps : (c : ℕ → Cell) (v : Verdict) (r : Record) (own time random : ℕ) (i : Option ℕ) (t net d : List ℕ) → judged r own time t ≡ v
    → (1 ≤ r.phase → r.phase ≤ 5 → ByVerdict v (c r.phase) r.phase t) → Says 6 (doing f00) (c 6) 6
    → Keeps (c r.phase) r own time d (received_of r own time random i t net d) (received_out r own time random i t net d)
unfolding received_of received_out received_refusal pick
received_keeps c v r own time random i t net d e says last =
    keeps c r own time (phase_by v r.phase t) (done_by v) _ _ true _ _ d _ (answers.by_received r own time random i t net d)
    (rw (← e) (act_leaves (judged r own time t) r own time random (declared_by i) t net d)) says last

tick_keeps : (c : ℕ → Cell) (v : Verdict) (r : Record) (own time : ℕ) (d : List ℕ) → ticked r time ≡ v
    → (1 ≤ r.phase → r.phase ≤ 5 → ByVerdict v (c r.phase) r.phase []) → Says 6 (doing f00) (c 6) 6
    → Keeps (c r.phase) r own time d (tick_of r own time d) (tick_out r own time d)
unfolding tick_of tick_out tick_refusal pick
tick_keeps c v r own time d e says last =
    keeps c r own time (phase_by v r.phase []) (done_by v) _ _ true _ _ d _ (answers.by_tick r own time d)
    (rw (← e) (act_leaves (ticked r time) r own time 0 0 [] [] d)) says last

-- nothing run out and nothing due
ticked_nothing : (r : Record) (time : ℕ) → run_out r time ≡ false → pick (eqb r.phase 5) (idle_due r time) false ≡ false → ticked r time ≡ Nothing
unfolding ticked pick
ticked_nothing r time out due = rw out (split (eqb r.phase 5) (idle_due r time) due)
  where
    split : (b k : Bool) → pick b k false ≡ false → pick b (pick k (ruled Timeout-snd r.phase) Nothing) Nothing ≡ Nothing
    split true true h = always h
    split true false h = refl
    split false k h = refl

pub table_bound : TableBound
unfolding open_of open_out open_refusal close_of close_out close_refusal send_of send_out send_refusal end_of writes_request writes_data become closed_by sent pick
table_bound =
    record {
      binds = record {
        connect_snd = λ r own time random i net d.
            keeps (reading Connect-snd) r own time 2 (doing f01) _ _ _ _ _ d _ (answers.by_open r own time random i net d)
            (writing (doing f01) _ r _ own time 2 1 _ d _ refl refl
            (λ z. (random, declared_by i, net, front (end_of r own) (connect_allowed (declared_by i) (length net) r.level) (telegrams.request (end_of r own) random (declared_by i) net) d z))
            refl (λ _. refl) never) (open_cells r.phase) (refl, refl);
        data_snd = λ r own time low net d.
            keeps (reading Data-snd) r own time 5 (doing f05) _ _ _ _ _ d _ (answers.by_send r own time low net d)
            (writing (doing f05) _ r _ own time 5 7 _ d _ refl refl
            (λ z. (low, net, front (end_of r own) (data_allowed low (length net) r.level) (telegrams.data_telegram (end_of r own) r.sending low net) d z)) refl (λ _. refl) never) (send_cells r.phase) (refl, refl);
        discon_snd = λ r own time reason text d.
            keeps (reading Discon-snd) r own time 1 (doing f07) _ _ _ _ _ d _ (answers.by_close r own 1 reason text d)
            (writing (doing f07) _ r _ own time 1 5 _ d _ refl refl (λ z. (reason, text, disconnects r own 1 reason text d z)) refl never never) (close_cells r.phase) (refl, refl);
        fdiscon_snd = λ r own time reason text d.
            keeps (reading FDiscon-snd) r own time 6 (doing f08) _ _ _ _ _ d _ (answers.by_close r own 0 reason text d)
            (writing (doing f08) _ r _ own time 6 5 _ d _ refl refl (λ z. (reason, text, disconnects r own 0 reason text d z)) refl never never) (final_cells r.phase) (refl, refl);
        passing = λ r own time random i t net d in_time p.
            let k = kind_of_command (command_of t) in
            received_keeps (λ q. instead k q r t (reading (row_of k) q)) _ r own time random i t net d (by_the_table.passing r own time t in_time p)
            (passed_cells k r.phase r t) (defect_cells k r t);
        failing = λ r own time random i t net d c in_time p.
            let step = received_keeps (reading Incorrect-rcv-1st) _ r own time random i t net d (by_the_table.failing r own time t c in_time p) (failed_cells r.phase t) (refl, refl) in
            (step, step);
        waited = λ r own time random i t net d other out.
            let asked = by_the_table.waited r own time t other out in (
              received_keeps (reading Timeout-brk) _ r own time random i t net d asked.0 (wait_cells r.phase t) (refl, refl),
              tick_keeps (reading Timeout-brk) _ r own time d asked.1 (wait_cells r.phase []) (refl, refl),
            );
        silent = λ r own time random i t net d going out.
            let asked = by_the_table.silent r own time t going out in (
              received_keeps (reading Timeout-rcv) _ r own time random i t net d asked.0 (λ _ _. watch_cells r.phase t going) (refl, refl),
              tick_keeps (reading Timeout-rcv) _ r own time d asked.1 (λ _ _. watch_cells r.phase [] going) (refl, refl),
            );
        due = λ r own time d going in_time idle.
            tick_keeps (reading Timeout-snd) _ r own time d (by_the_table.due r time going in_time idle) (λ _ _. interval_cells r.phase going) (refl, refl);
        resting = λ k r own time d off in_time idle.
            tick_keeps (reading (row_of_timer k)) Nothing r own time d (ticked_nothing r time in_time idle) (resting_cells k r.phase off) (defect_timers k);
      };
      printed = as_printed;
    }
