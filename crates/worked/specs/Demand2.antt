-- Worked examples that meet what Demand2 asks for, at level 4 and at level 2; the other files begin with their nodes and records.
-- Assumes nothing.
use Rattle.std.specs.Prelude.{◌≡◌, refl, List, [], ◌∷◌, ℕ, ◌+◌, replicate, None}
use Rattle.std.proofs.Common.{arith, lit<, lit≤}
use Rattle.checkword.specs.Bytes.{Bytes}
use Rattle.checkword.specs.Generators.{generator48, generator32}
use Rattle.checkword.specs.Word.{shift, feed}
use Rattle.ground.specs.Choice.{pick}
use Rattle.telegram.specs.Levels.{level_of, top_bits, width, word_length, generator}
use Rattle.telegram.specs.Commands.{kind_of, is_data}
use Rattle.telegram.specs.Values.{good_idle, good_type, listed_reason}
use Rattle.telegram.specs.Ends.{in_range, implicit}
use Rattle.telegram.specs.Telegrams.{data_telegram, idle, disconnect, sealed, body, check_word}
use Rattle.telegram.specs.Writers.{refusal, data_allowed, writes_data, writes_idle, disconnect_allowed, writes_disconnect, connect_allowed}
use Rattle.telegram.specs.Check.{check_of, word_agrees, Failed}
use Rattle.telegram.specs.declared.Clause.{Clause}
use Rattle.telegram.specs.declared.Clause.TheVariants as clause
use Rattle.link.specs.Records.{is_closed, end_of, record_in_range, is_phase, become}
use Rattle.link.specs.Times.{watch_over, idle_due}
use Rattle.link.specs.Judged.{ticked, run_out, run_out_verdict, judged, passed, expected_now}
use Rattle.link.specs.Steps as steps
use Rattle.link.specs.Steps.{first_refusal, writing_step, send_refusal, send_of, send_out, tick_refusal, tick_of, tick_out, close_refusal, close_of, close_out, received_refusal, received_of, received_out, declared_by, quietly}
use Rattle.link.specs.declared.Record.{Record}
use Rattle.node.specs.Accepted.{record_at, accepted, bounds_accepted, record_accepted}
use Rattle.node.specs.Calls.{Call, place_of, called, asked, settled}
use Rattle.node.specs.Calls.Call.{Close, Send, Received, Tick}
use Rattle.demands.specs.Pairs.{Nodes, Connected, Moment, sent, Due, Arrives, NothingWrong}

-- Worked example: node 8 and node 9, each with one connection, to the other, from SAP 3 to SAP 3 at this level. It is open since time 1000, after the random
-- numbers 01234567h of node 8 and 89ABCDEFh of node 9, with an idle time of 500 both ways.
abbrev pub example_record : ℕ → ℕ → ℕ → ℕ → ℕ → Record
example_record level partner number expects taken =
    record {
      partner = partner;
      partner_sap = 3;
      local_sap = 3;
      level = level;
      phase = 5;
      sending = number;
      expected = expects;
      declared = 500;
      watched = 500;
      sent_at = 1000;
      taken_at = taken;
    }

-- Node 8's at level 4, which last took a telegram at 1000.
abbrev pub example_open : Record
example_open = example_record 4 9 0x01234569 0x89ABCDF1 1000

-- The receipt of a telegram from this sender, with neither an idle time named nor net data for a possible confirm.
abbrev pub example_receipt : ℕ → List ℕ → Call
example_receipt sender telegram = Received (record { sender = sender; destination_sap = 3; source_sap = 3 }) 0 None telegram []

-- The two nodes: node 8 sends 01234569h next and expects 89ABCDF1h, and node 9 the other way round. Node 9 last took a telegram at this time.
abbrev pub example_nodes_at : ℕ → ℕ → Nodes
example_nodes_at taken' level =
    record {
      head = record { own = 8; latest = 1000 };
      table = example_record level 9 0x01234569 0x89ABCDF1 1000 ∷ [];
      head' = record { own = 9; latest = taken' };
      table' = example_record level 8 0x89ABCDF1 0x01234569 taken' ∷ [];
    }

abbrev pub example_nodes : ℕ → Nodes
example_nodes = example_nodes_at 1000

-- They are connected.
pub example_connected : (taken' level : ℕ) → Connected (example_nodes_at taken' level) 0 0
unfolding end_of
example_connected taken' level =
    record {
      towards = record { here = lit< tt; there = lit< tt; open_to = record { ends = refl; open_here = refl; open_there = refl; number = refl } };
      back = record { here = lit< tt; there = lit< tt; open_to = record { ends = refl; open_here = refl; open_there = refl; number = refl } };
    }

-- A telegram sent at this time is received 50 later, with neither an idle time named nor net data for a possible confirm.
abbrev pub example_moment : ℕ → Moment
example_moment time =
    record {
      sent_at = time;
      received_at = time + 50;
      buffer = replicate 244 0;
      buffer' = replicate 244 0;
      random = 0;
      idle_time = None;
      net = [];
    }

-- These net data and this text are bytes.
pub example_bytes : Bytes (1 ∷ 2 ∷ [])
example_bytes = (lit< tt, (lit< tt, tt))

-- At time 1300 nothing stands in the way, an idle telegram is due, and ten bytes of 0 pass no check: at level 4 they are of another level, and at level 2 of a
-- length that their command doesn't have.
pub record Premises (level : ℕ) (c : Clause) : Type 0 where
  pub nothing_wrong : NothingWrong (example_nodes level) 0 (example_moment 1300)
  pub due : Due (record_at (example_nodes level).table 0) 1300
  pub incorrect : check_of (end_of (record_at (example_nodes level).table 0) 8) 0x89ABCDF1 (replicate 10 0) ≡ Failed c

pub example_premises : Premises 4 clause.Level × Premises 2 clause.Length
unfolding called asked settled accepted bounds_accepted record_accepted record_in_range end_of in_range is_phase is_closed good_idle first_refusal writing_step refusal send_refusal send_of send_out data_allowed writes_data data_telegram tick_refusal tick_of tick_out ticked run_out run_out_verdict watch_over idle_due writes_idle idle close_refusal close_of close_out disconnect_allowed good_type listed_reason writes_disconnect disconnect received_refusal received_of received_out declared_by connect_allowed judged passed expected_now check_of word_agrees level_of quietly sealed body check_word implicit top_bits width word_length generator generator48 generator32 shift feed kind_of is_data steps.sent become pick
example_premises = (
  record {
    nothing_wrong =
        record { table_here = refl; room_here = lit≤ tt; time_here = lit≤ tt; table_there = refl; room_there = lit≤ tt; time_there = lit≤ tt; lent = refl };
    due = record { declares = λ none. omega arith; half = lit≤ tt; in_time = λ some. lit≤ tt };
    incorrect = refl;
  },
  record {
    nothing_wrong =
        record { table_here = refl; room_here = lit≤ tt; time_here = lit≤ tt; table_there = refl; room_there = lit≤ tt; time_there = lit≤ tt; lent = refl };
    due = record { declares = λ none. omega arith; half = lit≤ tt; in_time = λ some. lit≤ tt };
    incorrect = refl;
  },
)

-- What node 8 does at this time is for its record, it writes a telegram of this kind, and the telegram arrives.
pub record Example (n : Nodes) (c : Call) (time kind : ℕ) : Type 0 where
  pub place : place_of c n.table ≡ 0
  pub arrives : Arrives called n 0 0 c (example_moment time)
  pub telegram : (sent called n c (example_moment time)).outcome.answer.telegram ≡ kind

-- So it is where it sends data 09h with the net bytes 1 and 2 (7); where it ticks, 300 after it last sent (an idle telegram, 6); where it closes finally with reason
-- 20h and the text bytes 1 and 2 (a disconnect, 5); where it receives ten bytes of 0 (5); and where it ticks at 1501, one after its watch ran out, while node
-- 9, which took a telegram at 1400, still has time (5).
pub record Examples (level : ℕ) : Type 0 where
  pub sending : Example (example_nodes level) (Send 0 0x09 (1 ∷ 2 ∷ [])) 1300 7
  pub idle_due_holds : Example (example_nodes level) (Tick 0) 1300 6
  pub closing : Example (example_nodes level) (Close 0 0 0x20 (1 ∷ 2 ∷ [])) 1300 5
  pub incorrect : Example (example_nodes level)
      (example_receipt 9 (replicate 10 0)) 1300 5
  pub silence : Example (example_nodes_at 1400 level) (Tick 0) 1501 5

-- All of this at level 4, and at level 2.
pub examples : Examples 4 × Examples 2
unfolding called asked settled accepted bounds_accepted record_accepted record_in_range end_of in_range is_phase is_closed good_idle first_refusal writing_step refusal send_refusal send_of send_out data_allowed writes_data data_telegram tick_refusal tick_of tick_out ticked run_out run_out_verdict watch_over idle_due writes_idle idle close_refusal close_of close_out disconnect_allowed good_type listed_reason writes_disconnect disconnect received_refusal received_of received_out declared_by connect_allowed judged passed expected_now check_of word_agrees level_of quietly sealed body check_word implicit top_bits width word_length generator generator48 generator32 shift feed kind_of is_data steps.sent become pick
examples = (
  record {
    sending = record { place = refl; arrives = record { done = refl; taken = refl; in_time = λ some. lit≤ tt }; telegram = refl };
    idle_due_holds = record { place = refl; arrives = record { done = refl; taken = refl; in_time = λ some. lit≤ tt }; telegram = refl };
    closing = record { place = refl; arrives = record { done = refl; taken = refl; in_time = λ some. lit≤ tt }; telegram = refl };
    incorrect = record { place = refl; arrives = record { done = refl; taken = refl; in_time = λ some. lit≤ tt }; telegram = refl };
    silence = record { place = refl; arrives = record { done = refl; taken = refl; in_time = λ some. lit≤ tt }; telegram = refl };
  },
  record {
    sending = record { place = refl; arrives = record { done = refl; taken = refl; in_time = λ some. lit≤ tt }; telegram = refl };
    idle_due_holds = record { place = refl; arrives = record { done = refl; taken = refl; in_time = λ some. lit≤ tt }; telegram = refl };
    closing = record { place = refl; arrives = record { done = refl; taken = refl; in_time = λ some. lit≤ tt }; telegram = refl };
    incorrect = record { place = refl; arrives = record { done = refl; taken = refl; in_time = λ some. lit≤ tt }; telegram = refl };
    silence = record { place = refl; arrives = record { done = refl; taken = refl; in_time = λ some. lit≤ tt }; telegram = refl };
  },
)

-- Node 8 with a second connection, to node 10: what it sends for the first leaves the second as it was.
abbrev pub example_two : List Record
example_two = example_open ∷ example_record 4 10 0x01234569 0x89ABCDF1 1000 ∷ []

pub example_isolated :
    ((called (Send 0 0x09 (1 ∷ 2 ∷ [])) (example_nodes 4).head example_two 1300 (replicate 244 0)).outcome.answer.number ≡ 0)
    × ((record_at (called (Send 0 0x09 (1 ∷ 2 ∷ [])) (example_nodes 4).head example_two 1300 (replicate 244 0)).table 0).sending ≡ 0x0123456A)
    × (record_at (called (Send 0 0x09 (1 ∷ 2 ∷ [])) (example_nodes 4).head example_two 1300 (replicate 244 0)).table 1 ≡ record_at example_two 1)
unfolding called asked settled accepted bounds_accepted record_accepted record_in_range end_of in_range is_phase is_closed good_idle first_refusal writing_step refusal send_refusal send_of send_out data_allowed writes_data data_telegram tick_refusal tick_of tick_out ticked run_out run_out_verdict watch_over idle_due writes_idle idle close_refusal close_of close_out disconnect_allowed good_type listed_reason writes_disconnect disconnect received_refusal received_of received_out declared_by connect_allowed judged passed expected_now check_of word_agrees level_of quietly sealed body check_word implicit top_bits width word_length generator generator48 generator32 shift feed kind_of is_data steps.sent become pick
example_isolated = (refl, refl, refl)
