-- Wrong links and wrong checks, each with a fault that somebody would make, and of each the statement that a demand shuts it out. proofs/WrongLinks.antt proves
-- each statement by one case, under the same name in snake case.
-- Assumes nothing.
use Rattle.std.specs.Prelude.{◌≡◌, Bool, true, false, List, [], ◌∷◌, ◌++◌, map, ℕ, ◌+◌, ◌-◌, ◌^◌, ◌<◌, length, take, drop, set, replicate, leb, eqb, None}
use Rattle.checkword.specs.Bytes.{number, bytes_of}
use Rattle.ground.specs.Choice.{pick, all}
use Rattle.std.specs.Prelude.{Ok, Err}
use Rattle.telegram.specs.Levels.{word_length}
use Rattle.telegram.specs.Layout.{on_bus}
use Rattle.telegram.specs.Ends.{in_range}
use Rattle.telegram.specs.Fields.{random_of, authentication_of}
use Rattle.telegram.specs.Telegrams as telegrams
use Rattle.telegram.specs.Telegrams.{authentication_number}
use Rattle.telegram.specs.Commands.{kind_of_command}
use Rattle.telegram.specs.Check.{command_of, used_for, covered, word_agrees, clauses, first_failing, check_of, answer_number, Check, Passes, Failed, Refused}
use Rattle.telegram.specs.declared.End.{End}
use Rattle.telegram.specs.declared.Clause.TheVariants as clause
use Rattle.link.specs.Records.{end_of, fresh_of, become, closed_by}
use Rattle.link.specs.Table.{Incorrect-rcv-1st}
use Rattle.link.specs.Judged.{row_of, ruled, narrowed, checked_by, back, good_number, expected_now, run_out, run_out_verdict, judged, ticked}
use Rattle.link.specs.Steps.{declared_by, act_of, act_out, unless_step, unless_out, received_refusal, tick_refusal}
use Rattle.link.specs.declared.Record.{Record}
use Rattle.link.specs.declared.Step.{Step}
use Rattle.link.specs.declared.Event.{Event}
use Rattle.link.specs.declared.Event.TheVariants as event
use Rattle.link.specs.declared.Verdict.{Verdict}
use Rattle.link.specs.declared.Verdict.TheVariants as verdict
use Rattle.node.specs.declared.Head.{Head}
use Rattle.node.specs.declared.Route.{Route}
use Rattle.node.specs.declared.Outcome.{Outcome}
use Rattle.node.specs.Heads.{at}
use Rattle.node.specs.Accepted.{record_at}
use Rattle.node.specs.Refusals.{order, of_table, of_record, first}
use Rattle.node.specs.Calls.{Call, Left, Link, place_of, asked, step_of, step_out, refused_outcome, leaves, called}
use Rattle.node.specs.Calls.Call.{Open, Close, Send, Received, Tick}
use Rattle.demands.specs.Demand1.{Demand1}
use Rattle.demands.specs.Demands.{Demand2}
use Rattle.demands.specs.SetUp.{Given, Parties, acknowledges, opens}
use Rattle.demands.specs.Demand3.{Checking, NoTelegramForTwoAt4, Demand3}

-- Checks

-- Everything passes; nothing does.
abbrev pub passes_all : Checking
passes_all e n t = Passes

abbrev pub passes_none : Checking
passes_none e n t = Failed clause.Word

abbrev pub PassingEverythingIsShutOut : Type 0
PassingEverythingIsShutOut = Demand3 passes_all → ⊥

abbrev pub PassingNothingIsShutOut : Type 0
PassingNothingIsShutOut = Demand3 passes_none → ⊥

-- Our check, but what says whether the check word agrees is given; with `word_agrees` it is ours.
abbrev pub checking_by : (End → ℕ → List ℕ → Bool) → Checking
checking_by agrees e expected t =
    pick (in_range e) (pick (on_bus (length t)) (first_failing (take 5 (clauses e expected t) ++ (agrees e (used_for expected t) t, clause.Word) ∷ [])) (Refused 6)) (Refused 1)

abbrev pub CheckingByOurWordIsOurs : Type 0
CheckingByOurWordIsOurs = (e : End) (n : ℕ) (t : List ℕ) → checking_by word_agrees e n t ≡ check_of e n t

-- The word is one and the same for all telegrams. Such a word obeys the law (`constant_obeys_law` of crates/checkword/proofs/Facts.antt); but a telegram that
-- carries it passes for two records.
abbrev pub constant_word : ℕ → Checking
constant_word w = checking_by (λ e used t. eqb (number (drop (covered e.level t) t)) w)

abbrev pub ConstantWordIsShutOut : Type 0
ConstantWordIsShutOut = (w : ℕ) → Demand3 (constant_word w) → ⊥

abbrev pub ConstantWordPassesForTwo : Type 0
ConstantWordPassesForTwo = (w : ℕ) → w < 2 ^ 48 → NoTelegramForTwoAt4 (constant_word w) → ⊥

-- Address bytes taken from the frame: addresses and SAPs are those that the telegram came with, whichever record it is checked for. Crossed cards then agree
-- with themselves.
abbrev pub from_frame : End → Checking
from_frame frame e n t =
    check_of (record { own = frame.own; partner = frame.partner; partner_sap = frame.partner_sap; local_sap = frame.local_sap; level = e.level }) n t

abbrev pub AddressesFromTheFrameAreShutOut : Type 0
AddressesFromTheFrameAreShutOut = (frame : End) → Demand3 (from_frame frame) → ⊥

-- Byte 1 of the sequence number decides, and not all 32 bits: beside what passes at the expected number, a telegram 256 older passes too.
abbrev pub only_byte1 : Checking
only_byte1 e n t = pick (eqb (answer_number (check_of e n t)) 0) Passes (check_of e (back 256 n) t)

abbrev pub OnlyByte1ComparedIsShutOut : Type 0
OnlyByte1ComparedIsShutOut = Demand3 only_byte1 → ⊥

-- Links that don't work

-- Says the number n always, and leaves head, table and buffer as they were: where n is not 0, it refuses everything.
abbrev pub saying : ℕ → Link
saying n c h t time d = record { outcome = refused_outcome n h; table = t; out = d }

abbrev pub RefusingEverythingIsShutOut : Type 0
RefusingEverythingIsShutOut = (n : ℕ) → (n ≡ 0 → ⊥) → Demand2 (saying n) → ⊥

abbrev pub SayingTheSameIsShutOut : Type 0
SayingTheSameIsShutOut = (n : ℕ) → Demand2 (saying n) → ⊥

-- Leaves the same always: outcome, table and buffer.
abbrev pub always : Left → Link
always l c h t time d = l

abbrev pub LeavingTheSameIsShutOut : Type 0
LeavingTheSameIsShutOut = (l : Left) → Demand2 (always l) → ⊥

-- Says the same always, and leaves the table and the buffer that ours leaves.
abbrev pub one_outcome : Outcome → Link
one_outcome o c h t time d = record { outcome = o; table = (called c h t time d).table; out = (called c h t time d).out }

abbrev pub OneOutcomeAlwaysIsShutOut : Type 0
OneOutcomeAlwaysIsShutOut = (o : Outcome) → Demand2 (one_outcome o) → ⊥

-- Says what ours says, and leaves table and buffer idle.
abbrev pub only_says : Link
only_says c h t time d = record { outcome = (called c h t time d).outcome; table = t; out = d }

abbrev pub LeavingTableAndBufferIdleIsShutOut : Type 0
LeavingTableAndBufferIdleIsShutOut = Demand2 only_says → ⊥

-- Works for the first telegram, while the head has seen no time, and afterwards only says so.
abbrev pub first_only : Link
first_only c h t time d = pick (eqb h.latest 0) (called c h t time d) (only_says c h t time d)

abbrev pub WorkingForTheFirstOnlyIsShutOut : Type 0
WorkingForTheFirstOnlyIsShutOut = Demand2 first_only → ⊥

-- Links that judge by another rule

-- As ours, but what a telegram and what a tick ask for are given; with `judged` and `ticked` it is ours.
abbrev pub step_by : (Record → ℕ → ℕ → List ℕ → Verdict) → (Record → ℕ → Verdict) → Call → Record → ℕ → ℕ → List ℕ → Step
step_by receipt tick (Received w random i telegram net) r own time d =
    unless_step (received_refusal r own i telegram net d) r (act_of (receipt r own time telegram) r own time random (declared_by i) telegram net d)
step_by receipt tick (Tick place) r own time d = unless_step (tick_refusal r own d) r (act_of (tick r time) r own time 0 0 [] [] d)
step_by receipt tick (Open place random i net) r own time d = step_of (Open place random i net) r own time d
step_by receipt tick (Close place type reason text) r own time d = step_of (Close place type reason text) r own time d
step_by receipt tick (Send place low net) r own time d = step_of (Send place low net) r own time d

abbrev pub out_by : (Record → ℕ → ℕ → List ℕ → Verdict) → (Record → ℕ → Verdict) → Call → Record → ℕ → ℕ → List ℕ → List ℕ
out_by receipt tick (Received w random i telegram net) r own time d =
    unless_out (received_refusal r own i telegram net d) d (act_out (receipt r own time telegram) r own random (declared_by i) telegram net d)
out_by receipt tick (Tick place) r own time d = unless_out (tick_refusal r own d) d (act_out (tick r time) r own 0 0 [] [] d)
out_by receipt tick (Open place random i net) r own time d = step_out (Open place random i net) r own time d
out_by receipt tick (Close place type reason text) r own time d = step_out (Close place type reason text) r own time d
out_by receipt tick (Send place low net) r own time d = step_out (Send place low net) r own time d

abbrev pub judging : (Record → ℕ → ℕ → List ℕ → Verdict) → (Record → ℕ → Verdict) → Link
judging receipt tick c h t time d =
    leaves (first (order (asked c h t time d))) h t time d (place_of c t) (step_by receipt tick c (record_at t (place_of c t)) h.own time d)
    (out_by receipt tick c (record_at t (place_of c t)) h.own time d)

abbrev pub JudgingByOurRulesIsOurs : Type 0
JudgingByOurRulesIsOurs = (c : Call) (h : Head) (t : List Record) (time : ℕ) (d : List ℕ) → judging judged ticked c h t time d ≡ called c h t time d

-- Our own idle time is watched, instead of the partner's.
abbrev pub watching_ours : Record → Record
watching_ours r = become r r.phase r.sending r.expected r.declared r.declared r.sent_at r.taken_at

abbrev pub own_watched : Link
own_watched = judging (λ r own time t. judged (watching_ours r) own time t) (λ r time. ticked (watching_ours r) time)

abbrev pub OwnIdleTimeWatchedIsShutOut : Type 0
OwnIdleTimeWatchedIsShutOut = Demand2 own_watched → ⊥

-- The wait is tested with 5,000 or more: as ours one millisecond later, while an answer is awaited.
abbrev pub one_more : Record → ℕ → ℕ
one_more r time = pick (all (leb 2 r.phase ∷ leb r.phase 4 ∷ [])) (time + 1) time

abbrev pub waits5000 : Link
waits5000 = judging (λ r own time t. judged r own (one_more r time) t) (λ r time. ticked r (one_more r time))

abbrev pub WaitOf5000OrMoreIsShutOut : Type 0
WaitOf5000OrMoreIsShutOut = Demand2 waits5000 → ⊥

-- No idle telegram is ever sent: a tick looks at wait and watch only.
abbrev pub never_idle : Link
never_idle = judging judged (λ r time. pick (run_out r time) (run_out_verdict r.phase) verdict.Nothing)

abbrev pub NeverSendingIdleIsShutOut : Type 0
NeverSendingIdleIsShutOut = Demand2 never_idle → ⊥

-- A tick is refused, as in a phase that it is not for (3), where a wait or watch has run out: nobody closes a connection whose partner is silent.
abbrev pub refuses_late : Link
refuses_late (Tick place) h t time d =
    pick (run_out (record_at t place) time) (record { outcome = refused_outcome 3 h; table = t; out = d }) (called (Tick place) h t time d)
refuses_late (Open place random i net) h t time d = called (Open place random i net) h t time d
refuses_late (Close place type reason text) h t time d = called (Close place type reason text) h t time d
refuses_late (Send place low net) h t time d = called (Send place low net) h t time d
refuses_late (Received w random i telegram net) h t time d = called (Received w random i telegram net) h t time d

abbrev pub RefusingLateTicksIsShutOut : Type 0
RefusingLateTicksIsShutOut = Demand2 refuses_late → ⊥

-- The timers are looked at on a tick only: a telegram that comes too late is taken, and its data are handed up.
abbrev pub timers_on_ticks_only : Link
timers_on_ticks_only = judging (λ r own time t. checked_by (check_of (end_of r own) (expected_now r) t) r t) ticked

abbrev pub TakingWhatComesTooLateIsShutOut : Type 0
TakingWhatComesTooLateIsShutOut = Demand2 timers_on_ticks_only → ⊥

-- As ours, but which authentication number is good, and what another one asks for, are given; with `good_number` and 03h, finally, it is ours.
abbrev pub numbered : (Record → ℕ → List ℕ → Bool) → Verdict → Verdict → Record → List ℕ → Verdict
numbered good bad verdict.Acknowledge r t = pick (good r 1 t) verdict.Acknowledge bad
numbered good bad verdict.Open r t = pick (good r 2 t) verdict.Open bad
numbered good bad verdict.Nothing r t = narrowed verdict.Nothing r t
numbered good bad verdict.Confirm r t = narrowed verdict.Confirm r t
numbered good bad verdict.Authenticate r t = narrowed verdict.Authenticate r t
numbered good bad verdict.Data r t = narrowed verdict.Data r t
numbered good bad verdict.Idle r t = narrowed verdict.Idle r t
numbered good bad verdict.SendIdle r t = narrowed verdict.SendIdle r t
numbered good bad verdict.Disconnected r t = narrowed verdict.Disconnected r t
numbered good bad (verdict.Close reason last) r t = narrowed (verdict.Close reason last) r t

abbrev pub numbered_by : (Record → ℕ → List ℕ → Bool) → Verdict → Check → Record → List ℕ → Verdict
numbered_by good bad (Ok done) r t = numbered good bad (ruled (row_of (kind_of_command (command_of t))) r.phase) r t
numbered_by good bad (Err why) r t = ruled Incorrect-rcv-1st r.phase

abbrev pub numbering : (Record → ℕ → List ℕ → Bool) → Verdict → Link
numbering good bad =
    judging
    (λ r own time t. pick (run_out r time) (run_out_verdict r.phase) (numbered_by good bad (check_of (end_of r own) (expected_now r) t) r t)) ticked

abbrev pub NumberingByOurNumberIsOurs : Type 0
NumberingByOurNumberIsOurs =
    (c : Call) (h : Head) (t : List Record) (time : ℕ) (d : List ℕ) → numbering good_number (verdict.Close 0x03 true) c h t time d ≡ called c h t time d

-- What two nodes say that have the same link and set up a connection, from SAP 4 to SAP 3 at level 2: both are open. Some links below do so, and are wrong all
-- the same, as ours would not understand them.
abbrev pub giving : ℕ → Given
giving random = record { time = 0; out = replicate 244 0; random = random; idle_time = None; net = [] }

abbrev pub closed_two : Parties
closed_two =
    record {
      head = record { own = 8; latest = 0 };
      table = fresh_of 9 3 4 2 ∷ [];
      i = 0;
      head' = record { own = 9; latest = 0 };
      table' = fresh_of 8 4 3 2 ∷ [];
      j = 0;
      first = giving 0x01234567;
      second = giving 0x89ABCDEF;
      third = giving 0;
      fourth = giving 0;
      fifth = giving 0;
      while_asking = [];
      while_confirming = [];
      while_authenticating = [];
    }

abbrev pub TwoOpen : Link → Type 0
TwoOpen link = ((acknowledges link closed_two).outcome.event ≡ event.Opened) × ((opens link closed_two).outcome.event ≡ event.Opened)

-- Plus 1 at both levels, in writing and in testing alike. The test: at either level a number is good that is good at level 4.
abbrev pub testing1 : Link
testing1 = numbering (λ r n t. eqb (authentication_of t) (authentication_number 4 (back n r.sending))) (verdict.Close 0x03 true)

-- The writing: an authentication (03h) or an acknowledgement (04h) with the number that it has at level 4, over the one that stands in the buffer.
abbrev pub written1 : Record → ℕ → ℕ → ℕ → List ℕ → List ℕ
written1 r own low received out =
    telegrams.telegram (end_of r own) r.sending low (authentication_number 4 received ∷ []) []
    ++ drop (length (telegrams.telegram (end_of r own) r.sending low (authentication_number 4 received ∷ []) [])) out

abbrev pub writing1 : Call → Record → ℕ → ℕ → List ℕ → List ℕ
writing1 (Received w random i telegram net) r own writes out =
    pick (eqb writes 3) (written1 r own 0x03 (random_of telegram) out) (pick (eqb writes 4) (written1 r own 0x04 (back 1 r.expected) out) out)
writing1 (Open place random i net) r own writes out = out
writing1 (Close place type reason text) r own writes out = out
writing1 (Send place low net) r own writes out = out
writing1 (Tick place) r own writes out = out

abbrev pub plus1_at_both : Link
plus1_at_both c h t time d =
    record {
      outcome = (testing1 c h t time d).outcome;
      table = (testing1 c h t time d).table;
      out = writing1 c (record_at t (place_of c t)) h.own (testing1 c h t time d).outcome.answer.telegram (testing1 c h t time d).out;
    }

abbrev pub AuthenticationPlus1AtBothLevelsIsShutOut : Type 0
AuthenticationPlus1AtBothLevelsIsShutOut = Demand2 plus1_at_both → ⊥

-- Two such nodes understand each other.
abbrev pub TwoWithPlus1Open : Type 0
TwoWithPlus1Open = TwoOpen plus1_at_both

-- A wrong authentication number closes with 05h and not finally.
abbrev pub wrong_number_by05 : Link
wrong_number_by05 = numbering good_number (verdict.Close 0x05 false)

abbrev pub WrongNumberBy05IsShutOut : Type 0
WrongNumberBy05IsShutOut = Demand2 wrong_number_by05 → ⊥

-- Any authentication number opens.
abbrev pub any_number : Link
any_number = numbering (λ r n t. true) (verdict.Close 0x03 true)

abbrev pub OpeningByAnyNumberIsShutOut : Type 0
OpeningByAnyNumberIsShutOut = Demand2 any_number → ⊥

-- Links that write or keep something else

-- An outcome with another telegram, length and event.
abbrev pub said_as : Outcome → ℕ → ℕ → Event → Outcome
said_as o telegram size e = record { head = o.head; answer = record { number = o.answer.number; telegram = telegram; length = size }; event = e }

-- A closing writes no disconnect.
abbrev pub silenced : Left → List ℕ → Left
silenced l d = pick (eqb l.outcome.answer.telegram 5) (record { outcome = said_as l.outcome 0 0 l.outcome.event; table = l.table; out = d }) l

abbrev pub silent_closing : Link
silent_closing c h t time d = silenced (called c h t time d) d

abbrev pub ClosingWithoutADisconnectIsShutOut : Type 0
ClosingWithoutADisconnectIsShutOut = Demand2 silent_closing → ⊥

-- Each telegram that is written carries the word w, of which it takes as many bytes as its level has; and by these bytes each that is received is checked.
abbrev pub word_for : ℕ → ℕ → ℕ → List ℕ → List ℕ
word_for w level size out = take (size - word_length level) out ++ bytes_of (word_length level) w ++ drop size out

abbrev pub constant_checked : ℕ → Link
constant_checked w =
    judging
    (λ r own time t.
    pick (run_out r time) (run_out_verdict r.phase)
    (checked_by (constant_word (number (bytes_of (word_length r.level) w)) (end_of r own) (expected_now r) t) r t)) ticked

abbrev pub constant_written : ℕ → Link
constant_written w c h t time d =
    record {
      outcome = (constant_checked w c h t time d).outcome;
      table = (constant_checked w c h t time d).table;
      out =
          pick (eqb (constant_checked w c h t time d).outcome.answer.telegram 0) (constant_checked w c h t time d).out
          (word_for w (record_at t (place_of c t)).level (constant_checked w c h t time d).outcome.answer.length (constant_checked w c h t time d).out);
    }

abbrev pub WritingAConstantWordIsShutOut : Type 0
WritingAConstantWordIsShutOut = (w : ℕ) → Demand2 (constant_written w) → ⊥

-- Two such nodes, with one word, understand each other.
abbrev pub TwoWithAConstantWordOpen : Type 0
TwoWithAConstantWordOpen = TwoOpen (constant_written 0x01234567)

-- SAPs are exchanged in the implicit bytes, in writing and in checking alike.
abbrev pub saps_exchanged : Record → Record
saps_exchanged r =
    record {
      partner = r.partner;
      partner_sap = r.local_sap;
      local_sap = r.partner_sap;
      level = r.level;
      phase = r.phase;
      sending = r.sending;
      expected = r.expected;
      declared = r.declared;
      watched = r.watched;
      sent_at = r.sent_at;
      taken_at = r.taken_at;
    }

abbrev pub route_exchanged : Call → Call
route_exchanged (Received w random i telegram net) =
    Received (record { sender = w.sender; destination_sap = w.source_sap; source_sap = w.destination_sap }) random i telegram net
route_exchanged (Open place random i net) = Open place random i net
route_exchanged (Close place type reason text) = Close place type reason text
route_exchanged (Send place low net) = Send place low net
route_exchanged (Tick place) = Tick place

abbrev pub exchanging : Link
exchanging c h t time d =
    record {
      outcome = (called (route_exchanged c) h (map saps_exchanged t) time d).outcome;
      table = map saps_exchanged (called (route_exchanged c) h (map saps_exchanged t) time d).table;
      out = (called (route_exchanged c) h (map saps_exchanged t) time d).out;
    }

abbrev pub ExchangedSAPsAreShutOut : Type 0
ExchangedSAPsAreShutOut = Demand2 exchanging → ⊥

-- Two such nodes understand each other.
abbrev pub TwoWithExchangedSAPsOpen : Type 0
TwoWithExchangedSAPsOpen = TwoOpen exchanging

-- The sending number is not advanced: a call that sends leaves the record as it was.
abbrev pub record_kept : Call → List Record → List Record → List Record
record_kept (Send place low net) before after = before
record_kept (Open place random i net) before after = after
record_kept (Close place type reason text) before after = after
record_kept (Received w random i telegram net) before after = after
record_kept (Tick place) before after = after

abbrev pub number_kept : Link
number_kept c h t time d = record { outcome = (called c h t time d).outcome; table = record_kept c t (called c h t time d).table; out = (called c h t time d).out }

abbrev pub NumberNotAdvancedIsShutOut : Type 0
NumberNotAdvancedIsShutOut = Demand2 number_kept → ⊥

-- Net data are handed up from one byte further on; of another event nothing is changed.
abbrev pub shifted : Event → Event
shifted (event.Data command start count) = event.Data command (start + 1) count
shifted event.Nothing = event.Nothing
shifted event.Opened = event.Opened
shifted (event.Closed reason last) = event.Closed reason last

abbrev pub one_byte_further : Link
one_byte_further c h t time d =
    record {
      outcome =
          said_as (called c h t time d).outcome (called c h t time d).outcome.answer.telegram (called c h t time d).outcome.answer.length
          (shifted (called c h t time d).outcome.event);
      table = (called c h t time d).table;
      out = (called c h t time d).out;
    }

abbrev pub NetDataOneByteFurtherAreShutOut : Type 0
NetDataOneByteFurtherAreShutOut = Demand2 one_byte_further → ⊥

-- The responder says that it is open when it confirms, before its partner has authenticated itself.
abbrev pub opens_at_confirm : Link
opens_at_confirm c h t time d =
    record {
      outcome =
          said_as (called c h t time d).outcome (called c h t time d).outcome.answer.telegram (called c h t time d).outcome.answer.length
          (pick (eqb (called c h t time d).outcome.answer.telegram 2) event.Opened (called c h t time d).outcome.event);
      table = (called c h t time d).table;
      out = (called c h t time d).out;
    }

abbrev pub OpenAtTheConfirmIsShutOut : Type 0
OpenAtTheConfirmIsShutOut = Demand2 opens_at_confirm → ⊥

-- What is finally closed is only closed: any call finds it so, and it can be opened again.
abbrev pub revived : Record → Record
revived r = pick (eqb r.phase 6) (closed_by false r) r

abbrev pub reopening : Link
reopening c h t time d = called c h (map revived t) time d

abbrev pub ReopeningIsShutOut : Type 0
ReopeningIsShutOut = Demand2 reopening → ⊥

-- A final closing leaves the record as one that may be established again.
abbrev pub never_finally : Link
never_finally c h t time d = record { outcome = (called c h t time d).outcome; table = map revived (called c h t time d).table; out = (called c h t time d).out }

abbrev pub ClosingNeverFinallyIsShutOut : Type 0
ClosingNeverFinallyIsShutOut = Demand2 never_finally → ⊥

-- Links that take a record by its place

-- A telegram is for the first record, whatever it came under.
abbrev pub route_to : Record → Route
route_to r = record { sender = r.partner; destination_sap = r.local_sap; source_sap = r.partner_sap }

abbrev pub by_place : Link
by_place (Received w random i telegram net) h t time d = called (Received (route_to (record_at t 0)) random i telegram net) h t time d
by_place (Open place random i net) h t time d = called (Open place random i net) h t time d
by_place (Close place type reason text) h t time d = called (Close place type reason text) h t time d
by_place (Send place low net) h t time d = called (Send place low net) h t time d
by_place (Tick place) h t time d = called (Tick place) h t time d

abbrev pub RecordByPlaceIsShutOut : Type 0
RecordByPlaceIsShutOut = Demand2 by_place → ⊥

-- And it is checked by the addresses that it came under: what is for one record is taken by another.
abbrev pub under : Route → Record → Record
under w r =
    record {
      partner = w.sender;
      partner_sap = w.source_sap;
      local_sap = w.destination_sap;
      level = r.level;
      phase = r.phase;
      sending = r.sending;
      expected = r.expected;
      declared = r.declared;
      watched = r.watched;
      sent_at = r.sent_at;
      taken_at = r.taken_at;
    }

abbrev pub by_place_and_frame : Link
by_place_and_frame (Received w random i telegram net) h t time d =
    judging (λ r own now telegram. judged (under w r) own now telegram) ticked (Received (route_to (record_at t 0)) random i telegram net) h t time d
by_place_and_frame (Open place random i net) h t time d = called (Open place random i net) h t time d
by_place_and_frame (Close place type reason text) h t time d = called (Close place type reason text) h t time d
by_place_and_frame (Send place low net) h t time d = called (Send place low net) h t time d
by_place_and_frame (Tick place) h t time d = called (Tick place) h t time d

abbrev pub RecordByPlaceAndFrameIsShutOut : Type 0
RecordByPlaceAndFrameIsShutOut = Demand2 by_place_and_frame → ⊥

-- A call writes its record into the next place too.
abbrev pub touching : Link
touching c h t time d =
    record {
      outcome = (called c h t time d).outcome;
      table = set (called c h t time d).table (place_of c t + 1) (record_at (called c h t time d).table (place_of c t));
      out = (called c h t time d).out;
    }

abbrev pub TouchingTheNeighbourIsShutOut : Type 0
TouchingTheNeighbourIsShutOut = Demand2 touching → ⊥

-- Links that refuse otherwise

-- The record is asked before the table.
abbrev pub record_first : Link
record_first c h t time d =
    leaves (first (of_record (asked c h t time d) ++ of_table (asked c h t time d))) h t time d (place_of c t) (step_of c (record_at t (place_of c t)) h.own time d)
    (step_out c (record_at t (place_of c t)) h.own time d)

abbrev pub AnotherOrderIsShutOut : Type 0
AnotherOrderIsShutOut = Demand1 record_first → ⊥

-- A refused call sets the time too.
abbrev pub time_always : Link
time_always c h t time d =
    record {
      outcome = record { head = at h time; answer = (called c h t time d).outcome.answer; event = (called c h t time d).outcome.event };
      table = (called c h t time d).table;
      out = (called c h t time d).out;
    }

abbrev pub TimeSetByARefusalIsShutOut : Type 0
TimeSetByARefusalIsShutOut = Demand1 time_always → ⊥

-- All of them; the families from which most are taken have ours among them; and where the fault is on both sides, two such nodes understand each other.
pub record WrongOnesAreShutOut : Type 0 where
  pub checking_by_our_word_is_ours : CheckingByOurWordIsOurs
  pub judging_by_our_rules_is_ours : JudgingByOurRulesIsOurs
  pub numbering_by_our_number_is_ours : NumberingByOurNumberIsOurs
  pub passing_everything : PassingEverythingIsShutOut
  pub passing_nothing : PassingNothingIsShutOut
  pub constant_word_holds : ConstantWordIsShutOut
  pub constant_word_passes_for_two : ConstantWordPassesForTwo
  pub addresses_from_the_frame : AddressesFromTheFrameAreShutOut
  pub only_byte_1_compared : OnlyByte1ComparedIsShutOut
  pub refusing_everything : RefusingEverythingIsShutOut
  pub saying_the_same : SayingTheSameIsShutOut
  pub leaving_the_same : LeavingTheSameIsShutOut
  pub one_outcome_always : OneOutcomeAlwaysIsShutOut
  pub leaving_table_and_buffer_idle : LeavingTableAndBufferIdleIsShutOut
  pub working_for_the_first_only : WorkingForTheFirstOnlyIsShutOut
  pub own_idle_time_watched : OwnIdleTimeWatchedIsShutOut
  pub wait_of_5000_or_more : WaitOf5000OrMoreIsShutOut
  pub never_sending_idle : NeverSendingIdleIsShutOut
  pub refusing_late_ticks : RefusingLateTicksIsShutOut
  pub taking_what_comes_too_late : TakingWhatComesTooLateIsShutOut
  pub authentication_plus_1_at_both_levels : AuthenticationPlus1AtBothLevelsIsShutOut
  pub two_with_plus_1_open : TwoWithPlus1Open
  pub wrong_number_by_05 : WrongNumberBy05IsShutOut
  pub opening_by_any_number : OpeningByAnyNumberIsShutOut
  pub closing_without_a_disconnect : ClosingWithoutADisconnectIsShutOut
  pub writing_a_constant_word : WritingAConstantWordIsShutOut
  pub two_with_a_constant_word_open : TwoWithAConstantWordOpen
  pub exchanged_saps : ExchangedSAPsAreShutOut
  pub two_with_exchanged_saps_open : TwoWithExchangedSAPsOpen
  pub number_not_advanced : NumberNotAdvancedIsShutOut
  pub net_data_one_byte_further : NetDataOneByteFurtherAreShutOut
  pub open_at_the_confirm : OpenAtTheConfirmIsShutOut
  pub reopening_again : ReopeningIsShutOut
  pub closing_never_finally : ClosingNeverFinallyIsShutOut
  pub record_by_place : RecordByPlaceIsShutOut
  pub record_by_place_and_frame : RecordByPlaceAndFrameIsShutOut
  pub touching_the_neighbour : TouchingTheNeighbourIsShutOut
  pub another_order : AnotherOrderIsShutOut
  pub time_set_by_a_refusal : TimeSetByARefusalIsShutOut
