-- Each wrong link or check breaks one statement of its demand in one case, which is computed.
-- Assumes nothing.
use mathlib.Core.Path.{◌≡◌, refl, ap, ◌∙◌}
use mathlib.Core.Bool.{Bool, true, false}
use mathlib.Core.List.{List, [], ◌∷◌}
use mathlib.Core.Logic.{inl, inr}
use Prim.Native.Nat.{ℕ, ◌+◌, ◌/◌, ◌%◌}
use native.Mathlib.Nat.{mod-eq_of_lt}
use native.Mathlib.Omega.{arith}
use lib.ListN.{length, get_or, replicate}
use lib.Dec.{leb, eqb, lit<, lit≤}
use borrow.Author.Tests.{eq-eqb, eqb-true}
use Rattle.std.specs.Prelude.{None}
use Rattle.checkword.specs.Bytes.{number, bytes_of}
use Rattle.checkword.specs.Generators.{generator32}
use Rattle.checkword.specs.Word.{shift, feed}
use Rattle.checkword.proofs.Bytes.{bytes_of_bytes, number_bytes_of}
use Rattle.ground.specs.Choice.{pick, all}
use Rattle.std.specs.Prelude.{Ok, Err}
use Rattle.telegram.specs.Levels.{level_of, top_bits, width, word_length, generator, added}
use Rattle.telegram.specs.Commands.{kind_of_command, kind_of, is_data}
use Rattle.telegram.specs.Values.{good_idle, good_type, listed_reason, good_dual_bus}
use Rattle.telegram.specs.Ends.{is_level, in_range, implicit, mirrored}
use Rattle.telegram.specs.NetData.{net_part, net_data}
use Rattle.telegram.specs.Telegrams as telegrams
use Rattle.telegram.specs.Telegrams.{sealed, body, check_word}
use Rattle.telegram.specs.Writers.{refusal, connect_allowed, disconnect_allowed, data_allowed, writes_request, writes_confirm, writes_authentication, writes_acknowledgement, writes_disconnect, writes_idle, writes_data}
use Rattle.telegram.specs.Check.{command_of, check_of, word_agrees, answer_number, Check, Passes, Failed, Refused}
use Rattle.telegram.specs.declared.End.{End}
use Rattle.telegram.specs.declared.Clause.TheVariants as clause
use Rattle.link.specs.Records.{end_of, record_in_range, is_phase, is_closed, at_rest, fresh_of, become, closed_by}
use Rattle.link.specs.Times.{wait_over, watch_over, idle_due}
use Rattle.link.specs.Judged.{row_of, ruled, narrowed, checked_by, judged, passed, expected_now, run_out, run_out_verdict, ticked, good_version, good_number}
use Rattle.link.specs.Steps as steps
use Rattle.link.specs.Steps.{first_refusal, writing_step, declared_by, quietly, taken, open_refusal, open_of, open_out, close_refusal, close_of, send_refusal, send_of, send_out, received_refusal, received_of, received_out, tick_refusal, tick_of, tick_out}
use Rattle.link.specs.Plain.{happened}
use Rattle.link.specs.declared.Record.{Record}
use Rattle.link.specs.declared.Event.{Event}
use Rattle.link.specs.declared.Event.TheVariants.{Opened}
use Rattle.link.specs.declared.Verdict.{Verdict}
use Rattle.link.specs.declared.Verdict.TheVariants as verdict
use Rattle.node.specs.declared.Head.{Head}
use Rattle.node.specs.declared.Outcome.{Outcome}
use Rattle.node.specs.Heads.{at}
use Rattle.node.specs.Accepted.{nowhere, accepted, bounds_accepted, record_accepted}
use Rattle.node.specs.Plain.{data_of}
use Rattle.node.specs.Calls.{Call, Link, called, asked, refused_outcome, settled}
use Rattle.node.specs.Calls.Call.{Open, Close, Send, Received, Tick}
use Rattle.demands.specs.Pairs.{Nodes, Connected, Moment, Due, NothingWrong}
use Rattle.demands.specs.Pairs.Listens.{set_up}
use Rattle.demands.specs.EveryStep.Way.{there}
use Rattle.demands.specs.EveryStep.Exchange.{message}
use Rattle.demands.specs.Demands.{Demand2}
use Rattle.demands.specs.Demand3.{Two, Wrote}
use Rattle.demands.specs.Demand3.Wrote.{idle}
use Rattle.demands.specs.OneEnd.{ByAnAnswer}
use Rattle.demands.specs.OneEnd.LooksAt.{tick, receipt}
use Rattle.wrong.specs.WrongLinks.{judging, numbered, numbered_by, NumberingByOurNumberIsOurs, PassingEverythingIsShutOut, PassingNothingIsShutOut, CheckingByOurWordIsOurs, ConstantWordIsShutOut, ConstantWordPassesForTwo, AddressesFromTheFrameAreShutOut, OnlyByte1ComparedIsShutOut, RefusingEverythingIsShutOut, SayingTheSameIsShutOut, LeavingTheSameIsShutOut, OneOutcomeAlwaysIsShutOut, LeavingTableAndBufferIdleIsShutOut, WorkingForTheFirstOnlyIsShutOut, JudgingByOurRulesIsOurs, OwnIdleTimeWatchedIsShutOut, WaitOf5000OrMoreIsShutOut, NeverSendingIdleIsShutOut, RefusingLateTicksIsShutOut, TakingWhatComesTooLateIsShutOut, AuthenticationPlus1AtBothLevelsIsShutOut, TwoWithPlus1Open, WrongNumberBy05IsShutOut, OpeningByAnyNumberIsShutOut, ClosingWithoutADisconnectIsShutOut, WritingAConstantWordIsShutOut, TwoWithAConstantWordOpen, ExchangedSAPsAreShutOut, TwoWithExchangedSAPsOpen, NumberNotAdvancedIsShutOut, NetDataOneByteFurtherAreShutOut, OpenAtTheConfirmIsShutOut, ReopeningIsShutOut, ClosingNeverFinallyIsShutOut, RecordByPlaceIsShutOut, RecordByPlaceAndFrameIsShutOut, TouchingTheNeighbourIsShutOut, AnotherOrderIsShutOut, TimeSetByARefusalIsShutOut, WrongOnesAreShutOut}

-- Checks

-- A check that fails or refuses doesn't pass.
fails : (c : Check) → c ≡ Passes → (answer_number c ≡ 0 → ⊥) → ⊥
fails c e n = n (ap answer_number e)

-- Node 8 with two closed connections at level 4, to nodes 9 and 10.
abbrev head : Head
head = record { own = 8; latest = 0 }

abbrev two : List Record
two = fresh_of 9 3 3 4 ∷ fresh_of 10 3 3 4 ∷ []

are_two : Two head two 0 1
unfolding accepted bounds_accepted record_accepted record_in_range end_of in_range is_phase is_closed good_idle at_rest fresh_of pick
are_two = record { table = refl; first = lit< tt; second = lit< tt; different = λ e. omega arith }

pub passing_everything_is_shut_out : PassingEverythingIsShutOut
unfolding fresh_of
passing_everything_is_shut_out d = d.at_4 head two 0 1 0 0 [] tt are_two refl refl refl

-- An idle telegram of this end, as it is written.
abbrev end9 : ℕ → End
end9 level = record { own = 9; partner = 8; partner_sap = 3; local_sap = 3; level = level }

idle_of_9 : Wrote (end9 4) 0 (telegrams.idle (end9 4) 0)
unfolding writes_idle refusal in_range pick
idle_of_9 = idle (replicate 244 0) refl

pub passing_nothing_is_shut_out : PassingNothingIsShutOut
passing_nothing_is_shut_out d = fails (Failed clause.Word) (d.written_passes (end9 4) 0 (telegrams.idle (end9 4) 0) idle_of_9) (λ e. omega arith)

pub checking_by_our_word_is_ours : CheckingByOurWordIsOurs
unfolding check_of
checking_by_our_word_is_ours e n t = refl

-- The words of two idle telegrams differ.
agrees : (a w : ℕ) → pick (eqb a w) Passes (Failed clause.Word) ≡ Passes → a ≡ w
unfolding pick
agrees a w e = by (eqb a w) refl e
  where
    by : (b : Bool) → eqb a w ≡ b → pick b Passes (Failed clause.Word) ≡ Passes → a ≡ w
    by true f e = eqb-true a w f
    by false f e = absurd (fails (Failed clause.Word) e (λ z. omega arith))

pub constant_word_is_shut_out : ConstantWordIsShutOut
unfolding writes_idle telegrams.idle sealed body check_word implicit top_bits width word_length generator generator32 shift feed refusal in_range level_of kind_of is_data pick
constant_word_is_shut_out w d =
    let a = agrees 0x88A4C2BF w (d.written_passes (end9 2) 0 (0x00 ∷ 0x06 ∷ 0x88 ∷ 0xA4 ∷ 0xC2 ∷ 0xBF ∷ []) (idle (replicate 244 0) refl)) in
    let b = agrees 0x4CA4CEB0 w (d.written_passes (end9 2) 1 (0x01 ∷ 0x06 ∷ 0x4C ∷ 0xA4 ∷ 0xCE ∷ 0xB0 ∷ []) (idle (replicate 244 0) refl)) in
    omega arith

-- The idle telegram with the number 0 and the word w passes for both.
pub constant_word_passes_for_two : ConstantWordPassesForTwo
unfolding fresh_of end_of in_range level_of kind_of is_data word_length pick
constant_word_passes_for_two w small claim =
    claim head two 0 1 0 0 (0x00 ∷ 0x86 ∷ bytes_of 6 w) (lit< tt, (lit< tt, bytes_of_bytes 6 w)) are_two refl
    (rw (eq-eqb (number (bytes_of 6 w)) w (number_bytes_of 6 w ∙ mod-eq_of_lt small)) refl)
    (rw (eq-eqb (number (bytes_of 6 w)) w (number_bytes_of 6 w ∙ mod-eq_of_lt small)) refl)

-- An end is in range where its partner's is.
mirrored_in_range : (e : End) → in_range e ≡ true → in_range (mirrored e) ≡ true
unfolding in_range pick
mirrored_in_range e h = by (leb e.own 126) (leb e.partner 126) (leb e.partner_sap 62) (leb e.local_sap 62) (is_level e.level) h
  where
    by : (a b c d l : Bool) → all (a ∷ b ∷ c ∷ d ∷ l ∷ []) ≡ true → all (b ∷ a ∷ d ∷ c ∷ l ∷ []) ≡ true
    by true true true true l h = h
    by true true true false l h = h
    by true true false true l h = h
    by true true false false l h = h
    by true false c d l h = h
    by false true c d l h = h
    by false false c d l h = h

-- What the partner of that frame writes passes for every record of its level; and where the frame is out of range, nothing passes.
pub addresses_from_the_frame_are_shut_out : AddressesFromTheFrameAreShutOut
unfolding check_of writes_idle telegrams.idle sealed body top_bits word_length kind_of fresh_of end_of refusal pick
addresses_from_the_frame_are_shut_out frame d = by (in_range framed) refl
  where
    framed : End
    framed = record { own = frame.own; partner = frame.partner; partner_sap = frame.partner_sap; local_sap = frame.local_sap; level = 4 }

    by : (b : Bool) → in_range framed ≡ b → ⊥
    by true e =
        let passes = d.written_passes (mirrored framed) 0 (telegrams.idle (mirrored framed) 0) (idle (replicate 244 0) (rw (mirrored_in_range framed e) refl)) in
        d.at_4 head two 0 1 0 0 (telegrams.idle (mirrored framed) 0) (lit< tt, (lit< tt, bytes_of_bytes 6 _)) are_two refl passes passes
    by false e =
        fails (Refused 1) (rw e at (d.written_passes (end9 4) 0 (telegrams.idle (end9 4) 0) idle_of_9)) (λ z. omega arith)

-- The idle telegram with the number 0 passes at 0, and at 256 too.
pub only_byte_1_compared_is_shut_out : OnlyByte1ComparedIsShutOut
unfolding check_of word_agrees check_word implicit width word_length generator generator32 shift feed in_range level_of kind_of is_data pick
only_byte_1_compared_is_shut_out d =
    let same : ◌≡◌ {A = ℕ} 0 256 =
    d.one_number (mirrored (end9 2)) 0 256 (0x00 ∷ 0x06 ∷ 0x88 ∷ 0xA4 ∷ 0xC2 ∷ 0xBF ∷ []) (lit< tt, (lit< tt, (lit< tt, (lit< tt, (lit< tt, (lit< tt, tt))))))
    (λ e. let z : ◌≡◌ {A = ℕ} 0 1 = cc in absurd (omega arith)) (λ e. let z : ◌≡◌ {A = ℕ} 0 1 = cc in absurd (omega arith)) (lit< tt) (lit< tt) refl refl in
    omega arith

-- Links that don't work

-- A record of node 8 or 9 for a connection between SAP 3 and SAP 3 at level 2, by its partner, phase, sending number, and the idle times declared and watched. It
-- expects the number 0, and its timers are at 0.
abbrev at_2 : ℕ → ℕ → ℕ → ℕ → ℕ → Record
at_2 partner phase sending declared watched = become (fresh_of partner 3 3 2) phase sending 0 declared watched 0 0

-- Nodes 8 and 9, connected, without idle times.
abbrev nodes : Nodes
nodes = record { head = head; table = at_2 9 5 0 0 0 ∷ []; head' = record { own = 9; latest = 0 }; table' = at_2 8 5 0 0 0 ∷ [] }

connected : Connected nodes 0 0
unfolding end_of fresh_of become
connected =
    record {
      towards = record { here = lit< tt; there = lit< tt; open_to = record { ends = refl; open_here = refl; open_there = refl; number = refl } };
      back = record { here = lit< tt; there = lit< tt; open_to = record { ends = refl; open_here = refl; open_there = refl; number = refl } };
    }

-- A buffer, and a telegram that is sent at this time and received 50 later, with no idle time named for a confirm.
abbrev room : List ℕ
room = replicate 244 0

abbrev moment : ℕ → Moment
moment time = record { sent_at = time; received_at = time + 50; buffer = room; buffer' = room; random = 0; idle_time = None; net = [] }

nothing_wrong : NothingWrong nodes 0 (moment 100)
unfolding accepted bounds_accepted record_accepted record_in_range end_of in_range is_phase is_closed good_idle fresh_of become connect_allowed declared_by pick word_length
nothing_wrong = record { table_here = refl; room_here = lit≤ tt; time_here = lit≤ tt; table_there = refl; room_there = lit≤ tt; time_there = lit≤ tt; lent = refl }

pub refusing_everything_is_shut_out : RefusingEverythingIsShutOut
unfolding data_allowed is_data word_length fresh_of become refused_outcome pick
refusing_everything_is_shut_out n other d = other (d.one_step.nothing_refused.by_send nodes 0 0 0x09 [] (moment 100) tt connected.towards nothing_wrong refl).0

-- Where it says that it is done, it has not sent.
pub saying_the_same_is_shut_out : SayingTheSameIsShutOut
unfolding refused_outcome
saying_the_same_is_shut_out n d =
    refusing_everything_is_shut_out n (λ e. let z : ◌≡◌ {A = ℕ} 0 7 = (d.one_end.calls_of_ours.sends 0 0x09 [] head [] 0 [] e).writes in absurd (omega arith)) d

-- Two tables have two lengths.
pub leaving_the_same_is_shut_out : LeavingTheSameIsShutOut
leaving_the_same_is_shut_out l d =
    let none : length l.table ≡ 0 = d.one_step.isolation.others_unchanged.count (Tick 0) head [] 0 [] in
    let one : length l.table ≡ 1 = d.one_step.isolation.others_unchanged.count (Tick 0) head (nowhere ∷ []) 0 [] in
    omega arith

-- A sending writes a data telegram (7), and a tick on a closed record none.
pub one_outcome_always_is_shut_out : OneOutcomeAlwaysIsShutOut
unfolding data_allowed is_data word_length fresh_of become pick
one_outcome_always_is_shut_out o d =
    let done : o.answer.number ≡ 0 = (d.one_step.nothing_refused.by_send nodes 0 0 0x09 [] (moment 100) tt connected.towards nothing_wrong refl).0 in
    let seven : o.answer.telegram ≡ 7 = (d.one_end.calls_of_ours.sends 0 0x09 [] head nodes.table 0 room done).writes in
    let none : o.answer.telegram ≡ 0 = (d.one_end.ticks_in_time.closed head (fresh_of 9 3 3 2 ∷ []) 0 0 room refl done).writes in
    omega arith

-- After a sending the sending number is 1.
pub leaving_table_and_buffer_idle_is_shut_out : LeavingTableAndBufferIdleIsShutOut
unfolding called asked settled accepted bounds_accepted record_accepted record_in_range end_of in_range is_phase is_closed good_idle first_refusal fresh_of become pick send_refusal send_of send_out data_allowed is_data writes_data writing_step refusal steps.sent word_length
leaving_table_and_buffer_idle_is_shut_out d =
    let z : ◌≡◌ {A = ℕ} 0 1 = ap (λ (r : Record). r.sending) (d.one_end.calls_of_ours.sends 0 0x09 [] head nodes.table 0 room refl).leaves in omega arith

-- Of two messages only the first comes up.
pub working_for_the_first_only_is_shut_out : WorkingForTheFirstOnlyIsShutOut
unfolding called asked settled accepted bounds_accepted record_accepted record_in_range end_of in_range is_phase is_closed good_idle first_refusal fresh_of become pick send_refusal send_of send_out data_allowed is_data writes_data writing_step refusal steps.sent received_refusal received_of declared_by connect_allowed judged passed run_out watch_over expected_now check_of level_of kind_of word_agrees check_word implicit width word_length generator generator32 shift feed telegrams.data_telegram sealed body top_bits quietly taken at disconnect_allowed good_type listed_reason writes_disconnect closed_by
working_for_the_first_only_is_shut_out d =
    let heard = (d.over_every_step nodes 0 0 (message there 0x09 [] (moment 100) ∷ message there 0x09 [] (moment 200) ∷ []) connected
    ((tt, record { done = refl; taken = refl; in_time = λ some. absurd (some refl) }), ((tt, record { done = refl; taken = refl; in_time = λ some. absurd (some refl) }), tt))).0 in
    let z : ◌≡◌ {A = ℕ} 1 2 = ap length heard in omega arith

-- Links that judge by another rule

pub judging_by_our_rules_is_ours : JudgingByOurRulesIsOurs
unfolding called received_of received_out tick_of tick_out
judging_by_our_rules_is_ours (Received w random i telegram net) h t time d = refl
judging_by_our_rules_is_ours (Tick place) h t time d = refl
judging_by_our_rules_is_ours (Open place random i net) h t time d = refl
judging_by_our_rules_is_ours (Close place type reason text) h t time d = refl
judging_by_our_rules_is_ours (Send place low net) h t time d = refl

-- Events that are not one: by their numbers, or by their reasons.
other_event : (a b : Event) → a ≡ b → ((happened a).event ≡ (happened b).event → ⊥) → ⊥
other_event a b e n = n (ap (λ (x : Event). (happened x).event) e)

other_reason : (a b : Event) → a ≡ b → ((happened a).reason ≡ (happened b).reason → ⊥) → ⊥
other_reason a b e n = n (ap (λ (x : Event). (happened x).reason) e)

-- 501 after the last telegram, with a watch of 500, while we declare none: nothing happens.
pub own_idle_time_watched_is_shut_out : OwnIdleTimeWatchedIsShutOut
unfolding called asked settled accepted bounds_accepted record_accepted record_in_range end_of in_range is_phase is_closed good_idle first_refusal fresh_of become pick tick_refusal ticked run_out watch_over idle_due quietly
own_idle_time_watched_is_shut_out d =
    other_event _ _
    (d.one_end.silence_closes_here (Tick 0) head (at_2 9 5 0 0 500 ∷ []) 0 501 room (tick refl) refl (λ e. omega arith) (lit< tt) refl).says (λ z. omega arith)

-- 5,000 after the request, a tick closes.
pub wait_of_5000_or_more_is_shut_out : WaitOf5000OrMoreIsShutOut
unfolding called asked settled accepted bounds_accepted record_accepted record_in_range end_of in_range is_phase is_closed good_idle first_refusal fresh_of become pick tick_refusal ticked run_out wait_over run_out_verdict disconnect_allowed good_type listed_reason writes_disconnect writing_step refusal closed_by
wait_of_5000_or_more_is_shut_out d =
    other_event _ _
    (d.one_end.ticks_in_time.early head (at_2 9 2 1 500 0 ∷ []) 0 5000 room (set_up (lit≤ tt) (lit≤ tt) (lit≤ tt)) (λ p due. omega arith) refl).says (λ z. omega arith)

-- 250 after the last sending, with 500 declared, nothing is written.
pub never_sending_idle_is_shut_out : NeverSendingIdleIsShutOut
unfolding called asked settled accepted bounds_accepted record_accepted record_in_range end_of in_range is_phase is_closed good_idle first_refusal fresh_of become pick tick_refusal ticked run_out watch_over idle_due quietly
never_sending_idle_is_shut_out d =
    let z : ◌≡◌ {A = ℕ} 0 6 =
    (d.one_end.ticks_in_time.due head (at_2 9 5 0 500 0 ∷ []) 0 250 room refl (record { declares = λ e. omega arith; half = lit≤ tt; in_time = λ some. absurd (some refl) }) refl).writes in
    omega arith

-- 501 after the last telegram, with a watch of 500, a tick is refused.
pub refusing_late_ticks_is_shut_out : RefusingLateTicksIsShutOut
unfolding accepted bounds_accepted record_accepted record_in_range end_of in_range is_phase is_closed good_idle fresh_of become run_out watch_over refused_outcome pick
refusing_late_ticks_is_shut_out d =
    let z : ◌≡◌ {A = ℕ} 3 0 = d.one_end.ticks_in_time.done head (at_2 9 5 0 0 500 ∷ []) 0 501 room refl (lit≤ tt) (lit≤ tt) (lit< tt) (λ e. omega arith) in
    omega arith

-- A telegram of node 9, or of node 10, for node 8.
abbrev from : ℕ → List ℕ → Call
from sender telegram = Received (record { sender = sender; destination_sap = 3; source_sap = 3 }) 0 None telegram []

-- Data 09h of node 9 with the net byte 1, which pass the check, come 501 after the last telegram, with a watch of 500: they are handed up (2), where the
-- connection is to be closed (3).
abbrev data_of_9 : List ℕ
data_of_9 = 0x00 ∷ 0x09 ∷ 0x01 ∷ 0x9C ∷ 0x93 ∷ 0x97 ∷ 0xD2 ∷ []

pub taking_what_comes_too_late_is_shut_out : TakingWhatComesTooLateIsShutOut
unfolding called asked settled accepted bounds_accepted record_accepted record_in_range end_of in_range is_phase is_closed good_idle first_refusal fresh_of become pick received_refusal declared_by connect_allowed passed expected_now check_of level_of kind_of is_data word_agrees check_word implicit width word_length generator generator32 shift feed quietly taken
taking_what_comes_too_late_is_shut_out d =
    let z : ◌≡◌ {A = ℕ} 2 3 =
    ap (λ (x : Event). (happened x).event)
    (d.one_end.silence_closes_here (from 9 data_of_9) head (at_2 9 5 0 0 500 ∷ []) 0 501 room
    (receipt (record { sender = 9; destination_sap = 3; source_sap = 3 }) 0 None data_of_9 [] refl refl) refl (λ e. omega arith) (lit< tt) refl).says in
    omega arith

pub numbering_by_our_number_is_ours : NumberingByOurNumberIsOurs
unfolding judged passed
numbering_by_our_number_is_ours c h t time d =
    ap (λ (receipt : Record → ℕ → ℕ → List ℕ → Verdict). judging receipt ticked c h t time d)
    (λ i r own now telegram. pick (run_out r now) (run_out_verdict r.phase) (checked (check_of (end_of r own) (expected_now r) telegram) r telegram i))
    ∙ judging_by_our_rules_is_ours c h t time d
  where
    alike : (v : Verdict) (r : Record) (t : List ℕ) → numbered good_number (verdict.Close 0x03 true) v r t ≡ narrowed v r t
    alike verdict.Acknowledge r t = refl
    alike verdict.Open r t = refl
    alike verdict.Nothing r t = refl
    alike verdict.Confirm r t = refl
    alike verdict.Authenticate r t = refl
    alike verdict.Data r t = refl
    alike verdict.Idle r t = refl
    alike verdict.SendIdle r t = refl
    alike verdict.Disconnected r t = refl
    alike (verdict.Close reason last) r t = refl

    checked : (c : Check) (r : Record) (t : List ℕ) → numbered_by good_number (verdict.Close 0x03 true) c r t ≡ checked_by c r t
    checked (Ok done) r t = alike (ruled (row_of (kind_of_command (command_of t))) r.phase) r t
    checked (Err why) r t = refl

-- Node 8 awaits an acknowledgement with its random number 0, changed: 2 at level 2. Node 9 acknowledges with 1.
abbrev acknowledged_1 : List ℕ
acknowledged_1 = 0x00 ∷ 0x04 ∷ 0x01 ∷ 0x00 ∷ 0x00 ∷ 0x00 ∷ 0xFD ∷ 0xB0 ∷ 0x8C ∷ 0xE8 ∷ []

-- A link that is opened by it.
opened_by_1 : (link : Link) → Demand2 link → (link (from 9 acknowledged_1) head (at_2 9 4 2 0 0 ∷ []) 0 room).outcome.event ≡ Opened → ⊥
unfolding fresh_of become added pick
opened_by_1 link d says = by (d.one_end.opens_only_by_an_answer (from 9 acknowledged_1) head (at_2 9 4 2 0 0 ∷ []) 0 room says)
  where
    by : ByAnAnswer (from 9 acknowledged_1) head (at_2 9 4 2 0 0 ∷ []) 0 → ⊥
    by (inl a) = let z : ◌≡◌ {A = ℕ} 4 3 = a.phase_is in omega arith
    by (inr a) = let z : ◌≡◌ {A = ℕ} 1 2 = a.number in omega arith

pub authentication_plus_1_at_both_levels_is_shut_out : AuthenticationPlus1AtBothLevelsIsShutOut
unfolding called asked settled accepted bounds_accepted record_accepted record_in_range end_of in_range is_phase is_closed good_idle first_refusal fresh_of become pick received_refusal declared_by connect_allowed run_out wait_over expected_now check_of level_of kind_of is_data word_agrees check_word implicit width word_length generator generator32 shift feed added quietly taken
authentication_plus_1_at_both_levels_is_shut_out d = opened_by_1 _ d refl

pub two_with_plus_1_open : TwoWithPlus1Open
unfolding called asked settled accepted bounds_accepted record_accepted record_in_range end_of in_range is_phase is_closed good_idle first_refusal fresh_of become pick at_rest at open_refusal open_of open_out received_refusal declared_by connect_allowed run_out wait_over expected_now check_of level_of kind_of is_data word_agrees sealed body top_bits check_word implicit width word_length generator generator32 shift feed added good_version good_dual_bus writing_step refusal writes_request telegrams.request writes_confirm telegrams.confirm writes_authentication telegrams.authentication writes_acknowledgement telegrams.acknowledgement quietly taken
two_with_plus_1_open = (refl, refl)

pub opening_by_any_number_is_shut_out : OpeningByAnyNumberIsShutOut
unfolding called asked settled accepted bounds_accepted record_accepted record_in_range end_of in_range is_phase is_closed good_idle first_refusal fresh_of become pick received_refusal declared_by connect_allowed run_out wait_over expected_now check_of level_of kind_of is_data word_agrees check_word implicit width word_length generator generator32 shift feed quietly taken
opening_by_any_number_is_shut_out d = opened_by_1 _ d refl

pub wrong_number_by_05_is_shut_out : WrongNumberBy05IsShutOut
unfolding called asked settled accepted bounds_accepted record_accepted record_in_range end_of in_range is_phase is_closed good_idle first_refusal fresh_of become pick received_refusal declared_by connect_allowed run_out wait_over expected_now check_of level_of kind_of is_data word_agrees check_word implicit width word_length generator generator32 shift feed good_number added run_out_verdict disconnect_allowed good_type listed_reason writes_disconnect writing_step refusal closed_by
wrong_number_by_05_is_shut_out d =
    other_reason _ _
    (d.one_end.acknowledgement_awaited.wrong_number
    (record {
      route = record { sender = 9; destination_sap = 3; source_sap = 3 };
      random = 0;
      idle_time = None;
      telegram = acknowledged_1;
      net = [];
      head = head;
      table = at_2 9 4 2 0 0 ∷ [];
      time = 0;
      buffer = room;
    }) (record { phase_is = refl; in_time = lit≤ tt }) refl refl (λ e. let z : ◌≡◌ {A = ℕ} 1 2 = e in omega arith) refl).says (λ z. omega arith)

-- Links that write or keep something else

-- 501 after the last telegram the watch of 500 closes, and nothing is written.
pub closing_without_a_disconnect_is_shut_out : ClosingWithoutADisconnectIsShutOut
unfolding called asked settled accepted bounds_accepted record_accepted record_in_range end_of in_range is_phase is_closed good_idle first_refusal fresh_of become pick tick_refusal ticked run_out tick_of watch_over run_out_verdict disconnect_allowed good_type listed_reason writes_disconnect writing_step refusal closed_by
closing_without_a_disconnect_is_shut_out d =
    let z : ◌≡◌ {A = ℕ} 0 5 =
    (d.one_end.silence_closes_here (Tick 0) head (at_2 9 5 0 0 500 ∷ []) 0 501 room (tick refl) refl (λ e. omega arith) (lit< tt) refl).writes in
    omega arith

-- The last bytes of the words of two idle telegrams differ.
pub writing_a_constant_word_is_shut_out : WritingAConstantWordIsShutOut
unfolding called asked settled accepted bounds_accepted record_accepted record_in_range end_of in_range is_phase is_closed good_idle first_refusal fresh_of become pick tick_refusal ticked run_out watch_over idle_due writes_idle writing_step refusal steps.sent telegrams.idle sealed body top_bits kind_of check_word implicit width word_length generator generator32 shift feed
writing_a_constant_word_is_shut_out w d =
    let a : w / 1 % 256 ≡ 0x6B = ap (λ (l : List ℕ). get_or l 5 0) (d.one_end.ticks_in_time.due head (at_2 9 5 0 500 0 ∷ []) 0 250 room refl due refl).buffer in
    let b : w / 1 % 256 ≡ 0x64 = ap (λ (l : List ℕ). get_or l 5 0) (d.one_end.ticks_in_time.due head (at_2 9 5 1 500 0 ∷ []) 0 250 room refl due refl).buffer in
    omega arith
  where
    due : {sending : ℕ} → Due (at_2 9 5 sending 500 0) 250
    due = record { declares = λ e. omega arith; half = lit≤ tt; in_time = λ some. absurd (some refl) }

pub two_with_a_constant_word_open : TwoWithAConstantWordOpen
unfolding called asked settled accepted bounds_accepted record_accepted record_in_range end_of in_range is_phase is_closed good_idle first_refusal fresh_of become pick at_rest at open_refusal open_of open_out received_refusal declared_by connect_allowed run_out wait_over passed expected_now check_of level_of kind_of is_data word_agrees sealed body top_bits check_word implicit width word_length generator generator32 shift feed good_number added good_version good_dual_bus writing_step refusal writes_request telegrams.request writes_confirm telegrams.confirm writes_authentication telegrams.authentication writes_acknowledgement telegrams.acknowledgement quietly taken
two_with_a_constant_word_open = (refl, refl)

-- Data from SAP 4 to SAP 3: the check word begins with E5h, and with exchanged SAPs with 20h.
pub exchanged_saps_are_shut_out : ExchangedSAPsAreShutOut
unfolding called asked settled accepted bounds_accepted record_accepted record_in_range end_of in_range is_phase is_closed good_idle first_refusal fresh_of become pick send_refusal send_of send_out data_allowed is_data writes_data writing_step refusal steps.sent telegrams.data_telegram sealed body top_bits kind_of check_word implicit width word_length generator generator32 shift feed
exchanged_saps_are_shut_out d =
    let z : ◌≡◌ {A = ℕ} 0x20 0xE5 =
    ap (λ (l : List ℕ). get_or l 2 0) (d.one_end.calls_of_ours.sends 0 0x09 [] head (become (fresh_of 9 3 4 2) 5 0 0 0 0 0 0 ∷ []) 0 room refl).buffer in
    omega arith

pub two_with_exchanged_saps_open : TwoWithExchangedSAPsOpen
unfolding called asked settled accepted bounds_accepted record_accepted record_in_range end_of in_range is_phase is_closed good_idle first_refusal fresh_of become pick at_rest at open_refusal open_of open_out received_refusal received_of received_out declared_by connect_allowed run_out wait_over judged passed expected_now check_of level_of kind_of is_data word_agrees sealed body top_bits check_word implicit width word_length generator generator32 shift feed good_number added good_version good_dual_bus writing_step refusal writes_request telegrams.request writes_confirm telegrams.confirm writes_authentication telegrams.authentication writes_acknowledgement telegrams.acknowledgement quietly taken
two_with_exchanged_saps_open = (refl, refl)

pub number_not_advanced_is_shut_out : NumberNotAdvancedIsShutOut
unfolding called asked settled accepted bounds_accepted record_accepted record_in_range end_of in_range is_phase is_closed good_idle first_refusal fresh_of become pick send_refusal send_of send_out data_allowed is_data writes_data writing_step refusal steps.sent word_length
number_not_advanced_is_shut_out d =
    let z : ◌≡◌ {A = ℕ} 0 1 = ap (λ (r : Record). r.sending) (d.one_end.calls_of_ours.sends 0 0x09 [] head nodes.table 0 room refl).leaves in omega arith

-- Of the same data the first byte of the check word is handed up.
pub net_data_one_byte_further_are_shut_out : NetDataOneByteFurtherAreShutOut
unfolding called asked settled accepted bounds_accepted record_accepted record_in_range end_of in_range is_phase is_closed good_idle first_refusal fresh_of become pick received_refusal declared_by connect_allowed received_of judged passed run_out watch_over expected_now check_of level_of kind_of is_data word_agrees check_word implicit width word_length generator generator32 shift feed quietly taken net_part net_data data_of
net_data_one_byte_further_are_shut_out d =
    let z : ◌≡◌ {A = ℕ} 0x9C 0x01 =
    ap (λ (l : List ℕ). get_or l 0 0)
    (d.one_end.net_data_handed_on (record { sender = 9; destination_sap = 3; source_sap = 3 }) 0 None data_of_9 [] head
    nodes.table 0 room refl) in
    omega arith

-- A request of node 9 on a closed record.
pub open_at_the_confirm_is_shut_out : OpenAtTheConfirmIsShutOut
unfolding called asked settled accepted bounds_accepted record_accepted record_in_range end_of in_range is_phase is_closed good_idle first_refusal fresh_of become pick at_rest received_refusal declared_by connect_allowed received_of judged passed run_out expected_now check_of level_of kind_of is_data good_dual_bus word_agrees check_word implicit width word_length generator generator32 shift feed good_version writes_confirm writing_step refusal
open_at_the_confirm_is_shut_out d = by (d.one_end.opens_only_by_an_answer (from 9 asked_by_9) head (fresh_of 9 3 3 2 ∷ []) 0 room refl)
  where
    asked_by_9 : List ℕ
    asked_by_9 = 0x00 ∷ 0x00 ∷ 0x00 ∷ 0x00 ∷ 0x00 ∷ 0x00 ∷ 0x00 ∷ 0x00 ∷ 0x03 ∷ 0x00 ∷ 0x00 ∷ 0x00 ∷ 0x82 ∷ 0xCB ∷ 0x64 ∷ 0x59 ∷ []

    by : ByAnAnswer (from 9 asked_by_9) head (fresh_of 9 3 3 2 ∷ []) 0 → ⊥
    by (inl a) = let z : ◌≡◌ {A = ℕ} 1 3 = a.phase_is in omega arith
    by (inr a) = let z : ◌≡◌ {A = ℕ} 1 4 = a.phase_is in omega arith

-- Opened, after it was finally closed.
pub reopening_is_shut_out : ReopeningIsShutOut
unfolding called asked settled accepted bounds_accepted record_accepted record_in_range end_of in_range is_phase is_closed good_idle first_refusal fresh_of become pick at_rest closed_by open_refusal open_of connect_allowed declared_by writes_request writing_step refusal word_length
reopening_is_shut_out d =
    let z : ◌≡◌ {A = ℕ} 2 6 =
    ap (λ (r : Record). r.phase)
    (d.one_end.never_reopens head (at_2 9 6 0 0 0 ∷ []) (record { call = Open 0 0 None []; time = 0; buffer = room } ∷ []) 0 refl) in
    omega arith

-- Closed finally, by the layer above.
pub closing_never_finally_is_shut_out : ClosingNeverFinallyIsShutOut
unfolding called asked settled accepted bounds_accepted record_accepted record_in_range end_of in_range is_phase is_closed good_idle first_refusal fresh_of become pick closed_by close_refusal close_of disconnect_allowed good_type listed_reason writes_disconnect writing_step refusal
closing_never_finally_is_shut_out d =
    let z : ◌≡◌ {A = ℕ} 1 6 = ap (λ (r : Record). r.phase) (d.one_end.calls_of_ours.closes 0 0 0x20 [] head nodes.table 0 room refl).leaves in omega arith

-- Links that take a record by its place

-- Node 8 with open connections to nodes 9 and 10.
abbrev open_two : List Record
open_two = at_2 9 5 0 0 0 ∷ at_2 10 5 0 0 0 ∷ []

-- An incorrect telegram of node 10 closes the connection to node 9.
pub record_by_place_is_shut_out : RecordByPlaceIsShutOut
unfolding called asked settled accepted bounds_accepted record_accepted record_in_range end_of in_range is_phase is_closed good_idle first_refusal fresh_of become pick received_refusal declared_by connect_allowed received_of judged run_out watch_over expected_now check_of level_of kind_of is_data word_length run_out_verdict disconnect_allowed good_type listed_reason writes_disconnect writing_step refusal closed_by
record_by_place_is_shut_out d =
    let z : ◌≡◌ {A = ℕ} 1 5 =
    ap (λ (r : Record). r.phase) (d.one_step.isolation.others_unchanged.records (from 10 (replicate 10 0)) head open_two 0 room 0 (λ e. omega arith)) in
    omega arith

-- Data 09h of node 10 with the net byte 1 are taken on the connection to node 9.
pub record_by_place_and_frame_is_shut_out : RecordByPlaceAndFrameIsShutOut
unfolding called asked settled accepted bounds_accepted record_accepted record_in_range end_of in_range is_phase is_closed good_idle first_refusal fresh_of become pick received_refusal declared_by connect_allowed judged passed run_out watch_over expected_now check_of level_of kind_of is_data word_agrees check_word implicit width word_length generator generator32 shift feed quietly taken
record_by_place_and_frame_is_shut_out d =
    let z : ◌≡◌ {A = ℕ} 1 0 =
    ap (λ (r : Record). r.expected)
    (d.one_step.isolation.others_unchanged.records (from 10 (0x00 ∷ 0x09 ∷ 0x01 ∷ 0xE4 ∷ 0x8F ∷ 0xB8 ∷ 0x5C ∷ [])) head open_two 0 room 0 (λ e. omega arith)) in
    omega arith

-- A tick of the connection to node 9 writes it over the one to node 10.
pub touching_the_neighbour_is_shut_out : TouchingTheNeighbourIsShutOut
unfolding called asked settled accepted bounds_accepted record_accepted record_in_range end_of in_range is_phase is_closed good_idle first_refusal fresh_of become pick tick_refusal ticked run_out tick_of watch_over idle_due quietly
touching_the_neighbour_is_shut_out d =
    let z : ◌≡◌ {A = ℕ} 9 10 = ap (λ (r : Record). r.partner) (d.one_step.isolation.others_unchanged.records (Tick 0) head open_two 0 room 1 (λ e. omega arith)) in
    omega arith

-- Links that refuse otherwise

-- Sending in a table of no record.
pub another_order_is_shut_out : AnotherOrderIsShutOut
unfolding asked accepted bounds_accepted refused_outcome pick
another_order_is_shut_out d = let z : ◌≡◌ {A = ℕ} 3 1 = d.first_in_the_order (Send 0 0x09 []) head [] 0 [] in omega arith

pub time_set_by_a_refusal_is_shut_out : TimeSetByARefusalIsShutOut
unfolding called asked accepted bounds_accepted refused_outcome at pick
time_set_by_a_refusal_is_shut_out d =
    let z : ◌≡◌ {A = ℕ} 5 0 = ap (λ (o : Outcome). o.head.latest) (d.refused_changes_nothing (Tick 0) head [] 5 [] (λ e. let y : ◌≡◌ {A = ℕ} 1 0 = e in omega arith)).0 in
    omega arith

pub wrong_ones_are_shut_out : WrongOnesAreShutOut
wrong_ones_are_shut_out =
    record {
      checking_by_our_word_is_ours = checking_by_our_word_is_ours;
      judging_by_our_rules_is_ours = judging_by_our_rules_is_ours;
      numbering_by_our_number_is_ours = numbering_by_our_number_is_ours;
      passing_everything = passing_everything_is_shut_out;
      passing_nothing = passing_nothing_is_shut_out;
      constant_word_holds = constant_word_is_shut_out;
      constant_word_passes_for_two = constant_word_passes_for_two;
      addresses_from_the_frame = addresses_from_the_frame_are_shut_out;
      only_byte_1_compared = only_byte_1_compared_is_shut_out;
      refusing_everything = refusing_everything_is_shut_out;
      saying_the_same = saying_the_same_is_shut_out;
      leaving_the_same = leaving_the_same_is_shut_out;
      one_outcome_always = one_outcome_always_is_shut_out;
      leaving_table_and_buffer_idle = leaving_table_and_buffer_idle_is_shut_out;
      working_for_the_first_only = working_for_the_first_only_is_shut_out;
      own_idle_time_watched = own_idle_time_watched_is_shut_out;
      wait_of_5000_or_more = wait_of_5000_or_more_is_shut_out;
      never_sending_idle = never_sending_idle_is_shut_out;
      refusing_late_ticks = refusing_late_ticks_is_shut_out;
      taking_what_comes_too_late = taking_what_comes_too_late_is_shut_out;
      authentication_plus_1_at_both_levels = authentication_plus_1_at_both_levels_is_shut_out;
      two_with_plus_1_open = two_with_plus_1_open;
      wrong_number_by_05 = wrong_number_by_05_is_shut_out;
      opening_by_any_number = opening_by_any_number_is_shut_out;
      closing_without_a_disconnect = closing_without_a_disconnect_is_shut_out;
      writing_a_constant_word = writing_a_constant_word_is_shut_out;
      two_with_a_constant_word_open = two_with_a_constant_word_open;
      exchanged_saps = exchanged_saps_are_shut_out;
      two_with_exchanged_saps_open = two_with_exchanged_saps_open;
      number_not_advanced = number_not_advanced_is_shut_out;
      net_data_one_byte_further = net_data_one_byte_further_are_shut_out;
      open_at_the_confirm = open_at_the_confirm_is_shut_out;
      reopening_again = reopening_is_shut_out;
      closing_never_finally = closing_never_finally_is_shut_out;
      record_by_place = record_by_place_is_shut_out;
      record_by_place_and_frame = record_by_place_and_frame_is_shut_out;
      touching_the_neighbour = touching_the_neighbour_is_shut_out;
      another_order = another_order_is_shut_out;
      time_set_by_a_refusal = time_set_by_a_refusal_is_shut_out;
    }
