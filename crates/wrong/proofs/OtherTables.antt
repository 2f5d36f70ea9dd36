-- No other table binds the steps: for each row and phase there is a step that is its event, and what that step does, both tables say.
-- Assumes nothing.
use mathlib.Core.Path.{◌≡◌, refl, sym, ap, ◌∙◌}
use mathlib.Core.Bool.{Bool, true, false}
use mathlib.Core.List.{List, [], ◌∷◌}
use Prim.Native.Nat.{ℕ, ◌≤◌}
use native.Mathlib.Omega.{arith}
use lib.ListN.{length, replicate, get_or}
use lib.Dec.{leb, eqb}
use borrow.Author.Tests.{eq-eqb}
use Rattle.std.specs.Prelude.{None}
use Rattle.ground.specs.Choice.{pick, all}
use Rattle.telegram.specs.Levels.{word_length, level_of}
use Rattle.telegram.specs.Commands.{kind_of_command, kind_of, is_data}
use Rattle.telegram.specs.Ends.{in_range, mirrored}
use Rattle.telegram.specs.Values.{good_idle, good_type, listed_reason}
use Rattle.telegram.specs.Fields.{type_of, authentication_of}
use Rattle.telegram.specs.Layout.{on_bus, values}
use Rattle.telegram.specs.Telegrams as telegrams
use Rattle.telegram.specs.Telegrams.{version_and_bus, authentication_number, body, sealed}
use Rattle.telegram.specs.Writers.{refusal, connect_allowed, disconnect_allowed, data_allowed, writes_request, writes_confirm, writes_authentication, writes_acknowledgement, writes_disconnect, writes_idle, writes_data}
use Rattle.telegram.specs.Check.{command_of, check_of, Failed}
use Rattle.telegram.specs.Facts.{Taken}
use Rattle.telegram.specs.declared.End.{End}
use Rattle.telegram.specs.declared.Kind.{Kind}
use Rattle.telegram.specs.declared.Kind.TheVariants as kind
use Rattle.telegram.specs.declared.Clause.TheVariants as clause
use Rattle.telegram.proofs.Taken.{request_taken, confirm_taken, authentication_taken, acknowledgement_taken, disconnect_taken, idle_taken, data_taken}
use Rattle.telegram.proofs.Apart.{passed}
use Rattle.link.proofs.Cases.{columns}
use Rattle.link.proofs.Answers.{answers}
use Rattle.link.proofs.Bound.{table_bound}
use Rattle.link.specs.Records.{end_of, is_phase, is_closed, at_rest, record_in_range}
use Rattle.link.specs.Times.{wait_over, watch_over, idle_due}
use Rattle.link.specs.Table.{Cell, Row, ◌⇒◌, f00, defect, reading, Connect-snd, Data-snd, Timeout-snd, Timeout-rcv, Timeout-brk, Data-rcv, Idle-rcv, Incorrect-rcv-1st, Incorrect-rcv-2nd, ConReq-rcv, ConAck-rcv, AuthReq-rcv, AuthAck-rcv, Discon-snd, FDiscon-snd, Discon-rcv}
use Rattle.link.specs.Judged.{row_of, good_version, good_number, back, expected_now, run_out}
use Rattle.link.specs.Steps.{first_refusal, declared_by, open_refusal, open_of, open_out, close_refusal, close_of, close_out, send_refusal, send_of, send_out, received_refusal, received_of, received_out, tick_refusal, tick_of, tick_out}
use Rattle.link.specs.Bound.{Sent, none, connectRequest, connectConfirm, authentication, acknowledgement, data_telegram, idleTelegram, disconnect, finalDisconnect, number_of, Stands, of_phase, Obeys, Keeps, instead, Timer, interval, watch, wait, row_of_timer, runs, TableBinds}
use Rattle.wrong.specs.OtherTables.{Alike, NoOtherTable}
use Rattle.link.specs.declared.Record.{Record}
use Rattle.link.specs.declared.Step.{Step}

-- What a step does, both tables say

-- what was sent can be told from its number and, of a disconnect, from the type in the buffer
abbrev final : Sent → Bool
final finalDisconnect = true
final none = false
final connectRequest = false
final connectConfirm = false
final authentication = false
final acknowledgement = false
final data_telegram = false
final idleTelegram = false
final disconnect = false

abbrev told : ℕ → Bool → Sent
told n last =
    pick (eqb n 0) none (pick (eqb n 1) connectRequest (pick (eqb n 2) connectConfirm (pick (eqb n 3) authentication (pick (eqb n 4) acknowledgement
    (pick (eqb n 5) (pick last finalDisconnect disconnect) (pick (eqb n 6) idleTelegram data_telegram))))))

told_is : (x : Sent) → told (number_of x) (final x) ≡ x
unfolding pick
told_is none = refl
told_is connectRequest = refl
told_is connectConfirm = refl
told_is authentication = refl
told_is acknowledgement = refl
told_is data_telegram = refl
told_is idleTelegram = refl
told_is disconnect = refl
told_is finalDisconnect = refl

-- the type is the third byte
final_by : (x : Sent) (e : End) (n : ℕ) (d o : List ℕ) → Stands x e n d o → final x ≡ pick (eqb (number_of x) 5) (eqb (get_or o 2 0) 0) false
unfolding telegrams.disconnect sealed body kind_of pick
final_by none e n d o s = refl
final_by connectRequest e n d o s = refl
final_by connectConfirm e n d o s = refl
final_by authentication e n d o s = refl
final_by acknowledgement e n d o s = refl
final_by data_telegram e n d o s = refl
final_by idleTelegram e n d o s = refl
final_by disconnect e n d o s = sym (ap (λ (l : List ℕ). eqb (get_or l 2 0) 0) s.2)
final_by finalDisconnect e n d o s = sym (ap (λ (l : List ℕ). eqb (get_or l 2 0) 0) s.2)

one_sent : (x y : Sent) (e : End) (n : ℕ) (d o : List ℕ) → number_of x ≡ number_of y → Stands x e n d o → Stands y e n d o → x ≡ y
one_sent x y e n d o k s t =
    let last : final x ≡ final y = final_by x e n d o s ∙ ap (λ (m : ℕ). pick (eqb m 5) (eqb (get_or o 2 0) 0) false) k ∙ sym (final_by y e n d o t) in
    sym (told_is x) ∙ ap (λ (m : ℕ). told m (final x)) k ∙ ap (told (number_of y)) last ∙ told_is y

alike : (c e : Cell) (r : Record) (own time : ℕ) (d : List ℕ) (s : Step) (o : List ℕ) → Obeys c r own time d s o → Obeys e r own time d s o → Alike r.phase c e
alike c e r own time d s o x y =
    record {
      next = sym x.next ∙ y.next;
      sends = one_sent _ _ (end_of r own) r.sending d o (sym x.action.named ∙ y.action.named) x.action.stands y.action.stands;
      passes = sym x.action.handed ∙ y.action.handed;
    }

-- a cell of this row and phase that every table must have alike
abbrev Seen : Row → ℕ → Type 0
Seen row p = (table : Row → ℕ → Cell) → TableBinds table → Alike p (table row p) (reading row p)

seen : (row : Row) (r : Record) (own time : ℕ) (d : List ℕ) (s : Step) (o : List ℕ) → of_phase s.answer.number ≡ true
    → ((table : Row → ℕ → Cell) → TableBinds table → Keeps (table row r.phase) r own time d s o) → Seen row r.phase
seen row r own time d s o n by table binds =
    alike (table row r.phase) (reading row r.phase) r own time d s o (by table binds n) (by reading table_bound.binds n)

-- The records: node 8's connection to node 9, in any phase, with numbers and timers at 0

abbrev at : ℕ → ℕ → ℕ → Record
at p declares watches =
    record {
      partner = 9;
      partner_sap = 3;
      local_sap = 3;
      level = 4;
      phase = p;
      sending = 0;
      expected = 0;
      declared = declares;
      watched = watches;
      sent_at = 0;
      taken_at = 0;
    }

abbrev room : List ℕ
room = replicate 244 0

-- What the layer above asks for

asked_open : (p : ℕ) → 1 ≤ p → p ≤ 6 → of_phase (open_refusal (at p 0 0) 8 None [] room) ≡ true
unfolding open_refusal first_refusal record_in_range is_phase is_closed at_rest in_range end_of good_idle connect_allowed declared_by word_length pick
asked_open p l h = columns (λ (q : ℕ). of_phase (open_refusal (at q 0 0) 8 None [] room) ≡ true) p l h refl refl refl refl refl refl

asked_send : (p : ℕ) → 1 ≤ p → p ≤ 6 → of_phase (send_refusal (at p 0 0) 8 0x20 [] room) ≡ true
unfolding send_refusal first_refusal record_in_range is_phase is_closed at_rest in_range end_of good_idle data_allowed is_data word_length pick
asked_send p l h = columns (λ (q : ℕ). of_phase (send_refusal (at q 0 0) 8 0x20 [] room) ≡ true) p l h refl refl refl refl refl refl

asked_close : (p : ℕ) → 1 ≤ p → p ≤ 6 → of_phase (close_refusal (at p 0 0) 8 1 0 [] room) ≡ true
unfolding close_refusal first_refusal record_in_range is_phase is_closed at_rest in_range end_of good_idle disconnect_allowed good_type listed_reason pick
asked_close p l h = columns (λ (q : ℕ). of_phase (close_refusal (at q 0 0) 8 1 0 [] room) ≡ true) p l h refl refl refl refl refl refl

asked_final : (p : ℕ) → 1 ≤ p → p ≤ 6 → of_phase (close_refusal (at p 0 0) 8 0 0 [] room) ≡ true
unfolding close_refusal first_refusal record_in_range is_phase is_closed at_rest in_range end_of good_idle disconnect_allowed good_type listed_reason pick
asked_final p l h = columns (λ (q : ℕ). of_phase (close_refusal (at q 0 0) 8 0 0 [] room) ≡ true) p l h refl refl refl refl refl refl

-- Timers

ticking : (p declares watches : ℕ) → good_idle declares ≡ true → good_idle watches ≡ true → 2 ≤ p → p ≤ 5 → of_phase (tick_refusal (at p declares watches) 8 room) ≡ true
unfolding tick_refusal first_refusal record_in_range is_phase is_closed in_range end_of pick
ticking p declares watches x y l h =
    columns (λ (q : ℕ). 2 ≤ q → q ≤ 5 → of_phase (tick_refusal (at q declares watches) 8 room) ≡ true) p (omega arith) (omega arith)
    (λ m _. absurd (omega arith)) (λ _ _. rw (x, y)) (λ _ _. rw (x, y)) (λ _ _. rw (x, y)) (λ _ _. rw (x, y)) (λ _ m. absurd (omega arith)) l h

at_rest_lem : (p : ℕ) → 1 ≤ p → p ≤ 6 → of_phase (tick_refusal (at p 0 0) 8 room) ≡ true
unfolding tick_refusal first_refusal record_in_range is_phase is_closed at_rest in_range end_of good_idle pick
at_rest_lem p l h = columns (λ (q : ℕ). of_phase (tick_refusal (at q 0 0) 8 room) ≡ true) p l h refl refl refl refl refl refl

-- at time 0 nothing has run out, and with no idle time declared nothing is due
in_time : (p : ℕ) → 1 ≤ p → p ≤ 6 → run_out (at p 0 0) 0 ≡ false
unfolding run_out wait_over watch_over pick
in_time p l h = columns (λ (q : ℕ). run_out (at q 0 0) 0 ≡ false) p l h refl refl refl refl refl refl

none_due : (p : ℕ) → 1 ≤ p → p ≤ 6 → pick (eqb p 5) (idle_due (at p 0 0) 0) false ≡ false
unfolding idle_due pick
none_due p l h = columns (λ (q : ℕ). pick (eqb q 5) (idle_due (at q 0 0) 0) false ≡ false) p l h refl refl refl refl refl refl

resting : (k : Timer) (p : ℕ) → 1 ≤ p → p ≤ 6 → runs k p ≡ false → Seen (row_of_timer k) p
resting k p l h off =
    seen (row_of_timer k) (at p 0 0) 8 0 room (tick_of (at p 0 0) 8 0 room) (tick_out (at p 0 0) 8 0 room) (rw (answers.by_tick (at p 0 0) 8 0 room) (at_rest_lem p l h))
    (λ table binds. binds.resting k (at p 0 0) 8 0 room off (in_time p l h) (none_due p l h))

-- the wait runs out after 5,001 ms
waited : (p : ℕ) → 2 ≤ p → p ≤ 4 → Seen Timeout-brk p
unfolding good_idle run_out wait_over pick
waited p l h =
    seen Timeout-brk (at p 0 0) 8 5001 room (tick_of (at p 0 0) 8 5001 room) (tick_out (at p 0 0) 8 5001 room)
    (rw (answers.by_tick (at p 0 0) 8 5001 room) (ticking p 0 0 refl refl l (omega arith)))
    (λ table binds. (binds.waited (at p 0 0) 8 5001 0 None [] [] room (λ e. omega arith) (out p l h)).1)
  where
    out : (p : ℕ) → 2 ≤ p → p ≤ 4 → run_out (at p 0 0) 5001 ≡ true
    out p l h =
        columns (λ (q : ℕ). 2 ≤ q → q ≤ 4 → run_out (at q 0 0) 5001 ≡ true) p (omega arith) (omega arith) (λ m _. absurd (omega arith)) (λ _ _. refl) (λ _ _. refl) (λ _ _. refl)
        (λ _ m. absurd (omega arith)) (λ _ m. absurd (omega arith)) l h

-- the watch of 100 ms after 101, and an idle telegram is due after half of 100
silent : Seen Timeout-rcv 5
unfolding good_idle run_out watch_over pick
silent =
    seen Timeout-rcv (at 5 0 100) 8 101 room (tick_of (at 5 0 100) 8 101 room) (tick_out (at 5 0 100) 8 101 room)
    (rw (answers.by_tick (at 5 0 100) 8 101 room) (ticking 5 0 100 refl refl (omega arith) (omega arith)))
    (λ table binds. (binds.silent (at 5 0 100) 8 101 0 None [] [] room refl refl).1)

due : Seen Timeout-snd 5
unfolding good_idle run_out watch_over idle_due pick
due =
    seen Timeout-snd (at 5 100 0) 8 50 room (tick_of (at 5 100 0) 8 50 room) (tick_out (at 5 100 0) 8 50 room)
    (rw (answers.by_tick (at 5 100 0) 8 50 room) (ticking 5 100 0 refl refl (omega arith) (omega arith)))
    (λ table binds. binds.due (at 5 100 0) 8 50 room refl refl refl)

-- Telegrams

receiving : (p : ℕ) (t : List ℕ) → on_bus (length t) ≡ true → 1 ≤ p → p ≤ 6 → of_phase (received_refusal (at p 0 0) 8 None t [] room) ≡ true
unfolding received_refusal first_refusal record_in_range is_phase is_closed at_rest in_range end_of good_idle connect_allowed declared_by word_length pick
receiving p t b l h =
    columns (λ (q : ℕ). of_phase (received_refusal (at q 0 0) 8 None t [] room) ≡ true) p l h (rw b) (rw b) (rw b) (rw b) (rw b) (rw b)

expects : (p : ℕ) → expected_now (at p 0 0) ≡ 0
unfolding expected_now pick
expects p = split (leb 3 p)
  where
    split : (b : Bool) → ◌≡◌ {A = ℕ} (pick b 0 0) 0
    split true = refl
    split false = refl

-- six bytes of 0 are no telegram of level 4
abbrev zeros : List ℕ
zeros = replicate 6 0

fails : check_of (end_of (at 1 0 0) 8) 0 zeros ≡ Failed clause.Level
unfolding check_of in_range end_of level_of pick
fails = refl

failed : (row : Row) (p : ℕ) → 1 ≤ p → p ≤ 6
    → ((table : Row → ℕ → Cell) → TableBinds table → check_of (end_of (at p 0 0) 8) (expected_now (at p 0 0)) zeros ≡ Failed clause.Level
    → Keeps (table row p) (at p 0 0) 8 0 room (received_of (at p 0 0) 8 0 0 None zeros [] room) (received_out (at p 0 0) 8 0 0 None zeros [] room)) → Seen row p
unfolding end_of pick
failed row p l h by =
    seen row (at p 0 0) 8 0 room (received_of (at p 0 0) 8 0 0 None zeros [] room) (received_out (at p 0 0) 8 0 0 None zeros [] room)
    (rw (answers.by_received (at p 0 0) 8 0 0 None zeros [] room) (receiving p zeros refl l h)) (λ table binds. by table binds (rw (expects p) fails))

-- node 9's end of the connection writes
abbrev there : End
there = record { own = 9; partner = 8; partner_sap = 3; local_sap = 3; level = 4 }

-- a telegram that it writes, of kind k, in which nothing stands that the table does not know
seen_of : (k : Kind) (p : ℕ) (t : List ℕ) (vs net : List ℕ) → 1 ≤ p → p ≤ 6 → Taken there 0 t k vs net → ((c : Cell) → instead k p (at p 0 0) t c ≡ c) → Seen (row_of k) p
unfolding end_of
seen_of k p t vs net l h taken plain =
    seen (row_of k) (at p 0 0) 8 0 room (received_of (at p 0 0) 8 0 0 None t [] room) (received_out (at p 0 0) 8 0 0 None t [] room)
    (rw (answers.by_received (at p 0 0) 8 0 0 None t [] room) (receiving p t (passed (mirrored there) 0 t taken.passes).on_bus_holds l h))
    (λ table binds. of_kind table (binds.passing (at p 0 0) 8 0 0 None t [] room (in_time p l h) (rw (expects p) taken.passes)))
  where
    of_kind : (table : Row → ℕ → Cell)
        → Keeps (instead (kind_of_command (command_of t)) p (at p 0 0) t (table (row_of (kind_of_command (command_of t))) p)) (at p 0 0) 8 0 room (received_of (at p 0 0) 8 0 0 None t [] room) (received_out (at p 0 0) 8 0 0 None t [] room)
        → Keeps (table (row_of k) p) (at p 0 0) 8 0 room (received_of (at p 0 0) 8 0 0 None t [] room) (received_out (at p 0 0) 8 0 0 None t [] room)
    of_kind table x = rw (← plain (table (row_of k) p), ← taken.kind) x

either_way : (b : Bool) (c : Cell) → pick b c c ≡ c
unfolding pick
either_way true c = refl
either_way false c = refl

-- our version is a good one, and the numbers returned are those two and one before 0
pub good_version_holds : (t : List ℕ) → values kind.Request t ≡ 0 ∷ 0 ∷ version_and_bus → good_version t ≡ true
unfolding good_version pick
good_version_holds t e = ap (λ (vs : List ℕ). all (eqb (get_or vs 2 0) 3 ∷ eqb (get_or vs 3 0) 0 ∷ [])) e

good_number_holds : (n p : ℕ) (t : List ℕ) → values kind.Authentication t ≡ authentication_number 4 (back n 0) ∷ [] → good_number (at p 0 0) n t ≡ true
unfolding good_number
good_number_holds n p t e = eq-eqb (authentication_of t) (authentication_number 4 (back n 0)) (ap (λ (vs : List ℕ). get_or vs 0 0) e)

requested : (p : ℕ) → 1 ≤ p → p ≤ 6 → Seen ConReq-rcv p
unfolding writes_request refusal connect_allowed in_range good_idle word_length pick
requested p l h =
    let taken = request_taken there 0 0 0 [] room (telegrams.request there 0 0 []) (omega arith) tt refl in
    seen_of kind.Request p (telegrams.request there 0 0 []) _ _ l h taken (λ c. rw (good_version_holds (telegrams.request there 0 0 []) taken.fields) (either_way (eqb p 1) c))

confirmed : (p : ℕ) → 1 ≤ p → p ≤ 6 → Seen ConAck-rcv p
unfolding writes_confirm refusal connect_allowed in_range good_idle word_length pick
confirmed p l h =
    let taken = confirm_taken there 0 0 0 [] room (telegrams.confirm there 0 0 []) (omega arith) tt refl in
    seen_of kind.Confirm p (telegrams.confirm there 0 0 []) _ _ l h taken (λ c. rw (good_version_holds (telegrams.confirm there 0 0 []) taken.fields) (either_way (eqb p 2) c))

authenticated : (p : ℕ) → 1 ≤ p → p ≤ 6 → Seen AuthReq-rcv p
unfolding writes_authentication refusal in_range pick
authenticated p l h =
    let taken = authentication_taken there 0 (back 1 0) room (telegrams.authentication there 0 (back 1 0)) refl in
    seen_of kind.Authentication p (telegrams.authentication there 0 (back 1 0)) _ _ l h taken (λ c. rw (good_number_holds 1 p (telegrams.authentication there 0 (back 1 0)) taken.fields) (either_way (eqb p 3) c))

acknowledged : (p : ℕ) → 1 ≤ p → p ≤ 6 → Seen AuthAck-rcv p
unfolding writes_acknowledgement refusal in_range pick
acknowledged p l h =
    let taken = acknowledgement_taken there 0 (back 2 0) room (telegrams.acknowledgement there 0 (back 2 0)) refl in
    seen_of kind.Acknowledgement p (telegrams.acknowledgement there 0 (back 2 0)) _ _ l h taken (λ c. rw (good_number_holds 2 p (telegrams.acknowledgement there 0 (back 2 0)) taken.fields) (either_way (eqb p 4) c))

-- of the type that is not final
disconnected : (p : ℕ) → 1 ≤ p → p ≤ 6 → Seen Discon-rcv p
unfolding writes_disconnect refusal disconnect_allowed good_type listed_reason in_range pick
disconnected p l h =
    let taken = disconnect_taken there 0 1 0 [] room (telegrams.disconnect there 0 1 0 []) tt refl in
    seen_of kind.Disconnect p (telegrams.disconnect there 0 1 0 []) _ _ l h taken (λ c. not_final p c (type_of (telegrams.disconnect there 0 1 0 [])) l h (ap (λ (vs : List ℕ). get_or vs 0 0) taken.fields))
  where
    not_final : (p : ℕ) (c : Cell) (type : ℕ) → 1 ≤ p → p ≤ 6 → type ≡ 1 → pick (all (leb 2 p ∷ leb p 5 ∷ eqb type 0 ∷ [])) (f00 ⇒ defect) c ≡ c
    not_final p c type l h e = rw e (columns (λ (q : ℕ). pick (all (leb 2 q ∷ leb q 5 ∷ false ∷ [])) (f00 ⇒ defect) c ≡ c) p l h refl refl refl refl refl refl)

idled : (p : ℕ) → 1 ≤ p → p ≤ 6 → Seen Idle-rcv p
unfolding writes_idle refusal in_range pick
idled p l h = seen_of kind.Idle p (telegrams.idle there 0) _ _ l h (idle_taken there 0 room (telegrams.idle there 0) refl) (λ c. refl)

sent_data : (p : ℕ) → 1 ≤ p → p ≤ 6 → Seen Data-rcv p
unfolding writes_data refusal data_allowed is_data in_range word_length pick
sent_data p l h = seen_of kind.Data p (telegrams.data_telegram there 0 0x20 []) _ _ l h (data_taken there 0 0x20 [] room (telegrams.data_telegram there 0 0x20 []) tt refl) (λ c. refl)

pub no_other_table : NoOtherTable
unfolding pick
no_other_table table binds Connect-snd p l h =
    seen Connect-snd (at p 0 0) 8 0 room (open_of (at p 0 0) 8 0 0 None [] room) (open_out (at p 0 0) 8 0 None [] room)
    (rw (answers.by_open (at p 0 0) 8 0 0 None [] room) (asked_open p l h)) (λ table binds. binds.connect_snd (at p 0 0) 8 0 0 None [] room) table binds
no_other_table table binds Data-snd p l h =
    seen Data-snd (at p 0 0) 8 0 room (send_of (at p 0 0) 8 0 0x20 [] room) (send_out (at p 0 0) 8 0x20 [] room)
    (rw (answers.by_send (at p 0 0) 8 0 0x20 [] room) (asked_send p l h)) (λ table binds. binds.data_snd (at p 0 0) 8 0 0x20 [] room) table binds
no_other_table table binds Discon-snd p l h =
    seen Discon-snd (at p 0 0) 8 0 room (close_of (at p 0 0) 8 1 0 [] room) (close_out (at p 0 0) 8 1 0 [] room)
    (rw (answers.by_close (at p 0 0) 8 1 0 [] room) (asked_close p l h)) (λ table binds. binds.discon_snd (at p 0 0) 8 0 0 [] room) table binds
no_other_table table binds FDiscon-snd p l h =
    seen FDiscon-snd (at p 0 0) 8 0 room (close_of (at p 0 0) 8 0 0 [] room) (close_out (at p 0 0) 8 0 0 [] room)
    (rw (answers.by_close (at p 0 0) 8 0 0 [] room) (asked_final p l h)) (λ table binds. binds.fdiscon_snd (at p 0 0) 8 0 0 [] room) table binds
no_other_table table binds Timeout-snd p l h =
    columns (λ (q : ℕ). Seen Timeout-snd q) p l h (resting interval 1 (omega arith) (omega arith) refl) (resting interval 2 (omega arith) (omega arith) refl)
    (resting interval 3 (omega arith) (omega arith) refl) (resting interval 4 (omega arith) (omega arith) refl) due (resting interval 6 (omega arith) (omega arith) refl) table binds
no_other_table table binds Timeout-rcv p l h =
    columns (λ (q : ℕ). Seen Timeout-rcv q) p l h (resting watch 1 (omega arith) (omega arith) refl) (resting watch 2 (omega arith) (omega arith) refl)
    (resting watch 3 (omega arith) (omega arith) refl) (resting watch 4 (omega arith) (omega arith) refl) silent (resting watch 6 (omega arith) (omega arith) refl) table binds
no_other_table table binds Timeout-brk p l h =
    columns (λ (q : ℕ). Seen Timeout-brk q) p l h (resting wait 1 (omega arith) (omega arith) refl) (waited 2 (omega arith) (omega arith)) (waited 3 (omega arith) (omega arith))
    (waited 4 (omega arith) (omega arith)) (resting wait 5 (omega arith) (omega arith) refl) (resting wait 6 (omega arith) (omega arith) refl) table binds
no_other_table table binds Incorrect-rcv-1st p l h =
    failed Incorrect-rcv-1st p l h (λ table binds e. (binds.failing (at p 0 0) 8 0 0 None zeros [] room clause.Level (in_time p l h) e).0) table binds
no_other_table table binds Incorrect-rcv-2nd p l h =
    failed Incorrect-rcv-2nd p l h (λ table binds e. (binds.failing (at p 0 0) 8 0 0 None zeros [] room clause.Level (in_time p l h) e).1) table binds
no_other_table table binds Data-rcv p l h = sent_data p l h table binds
no_other_table table binds Idle-rcv p l h = idled p l h table binds
no_other_table table binds ConReq-rcv p l h = requested p l h table binds
no_other_table table binds ConAck-rcv p l h = confirmed p l h table binds
no_other_table table binds AuthReq-rcv p l h = authenticated p l h table binds
no_other_table table binds AuthAck-rcv p l h = acknowledged p l h table binds
no_other_table table binds Discon-rcv p l h = disconnected p l h table binds
