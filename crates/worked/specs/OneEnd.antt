-- Worked examples of demand 2 at one end: what closes a connection, by which call.
-- Assumes nothing.
use Rattle.std.specs.Prelude.{refl, Bool, true, false, List, [], ◌∷◌, ℕ, replicate, None}
use Rattle.checkword.specs.Generators.{generator48, generator32}
use Rattle.checkword.specs.Word.{shift, feed}
use Rattle.ground.specs.Choice.{pick}
use Rattle.telegram.specs.Levels.{level_of, top_bits, width, word_length, generator}
use Rattle.telegram.specs.Commands.{kind_of, is_data}
use Rattle.telegram.specs.Values.{good_idle, good_type, listed_reason, good_dual_bus}
use Rattle.telegram.specs.Ends.{in_range, implicit}
use Rattle.telegram.specs.Telegrams.{request, disconnect, sealed, body, check_word}
use Rattle.telegram.specs.Writers.{refusal, connect_allowed, writes_request, disconnect_allowed, writes_disconnect}
use Rattle.telegram.specs.Check.{check_of, word_agrees}
use Rattle.link.specs.Records.{end_of, record_in_range, is_phase, is_closed, at_rest, fresh_of, become, closed_by}
use Rattle.link.specs.Times.{watch_over, wait_over}
use Rattle.link.specs.Judged.{judged, passed, expected_now, run_out, run_out_verdict, ticked}
use Rattle.link.specs.Steps.{first_refusal, writing_step, declared_by, open_refusal, open_of, open_out, received_refusal, received_of, received_out, tick_refusal, tick_of, tick_out}
use Rattle.link.specs.declared.Record.{Record}
use Rattle.node.specs.Accepted.{accepted, bounds_accepted, record_accepted}
use Rattle.node.specs.Calls.{Call, Left, called, asked, settled}
use Rattle.node.specs.Calls.Call.{Open, Tick}
use Rattle.demands.specs.Pairs.{telegram_of}
use Rattle.demands.specs.Demand2.{IsClosed}
use Rattle.worked.specs.Demand2.{example_open, example_receipt}

-- Worked example: node 8, with one connection at level 4, to node 9, makes a call at this time.
abbrev pub example_called : Call → Record → ℕ → Left
example_called c r time = called c (record { own = 8; latest = 1000 }) (r ∷ []) time (replicate 244 0)

-- Its record where it awaits an answer in this phase, to what it sent at time 1000.
abbrev pub example_waiting : ℕ → Record
example_waiting phase = become (fresh_of 9 3 3 4) phase 0x01234569 0 500 0 1000 0

-- The request of a node 9 that was restarted and asks anew.
abbrev pub example_request : List ℕ
example_request =
    telegram_of (called (Open 0 0x89ABCDEF None []) (record { own = 9; latest = 0 }) (fresh_of 8 3 3 4 ∷ []) 1300 (replicate 244 0))

-- So its record at place 0 is closed, with this reason and finally or not.
abbrev pub ClosesIt : Call → Record → ℕ → ℕ → Bool → Type 0
ClosesIt c r time reason last = IsClosed (example_called c r time) (record { own = 8; latest = 1000 }) (r ∷ []) (replicate 244 0) 0 reason last []

-- At 1501, one after the watch, a tick and any telegram close with 05h; at 6001, one after the wait, a tick closes; and at 1350 the request closes with 04h.
pub record Examples : Type 0 where
  pub silence_on_tick : ClosesIt (Tick 0) example_open 1501 0x05 false
  pub silence_on_receipt : ClosesIt (example_receipt 9 (replicate 10 0)) example_open 1501 0x05 false
  pub no_confirm : ClosesIt (Tick 0) (example_waiting 2) 6001 0x02 false
  pub no_authentication : ClosesIt (Tick 0) (example_waiting 3) 6001 0x03 true
  pub no_acknowledgement : ClosesIt (Tick 0) (example_waiting 4) 6001 0x03 true
  pub set_up_anew : ClosesIt (example_receipt 9 example_request) example_open 1350 0x04 false

pub examples : Examples
unfolding called asked settled accepted bounds_accepted record_accepted record_in_range end_of in_range is_phase is_closed good_idle at_rest fresh_of become closed_by first_refusal writing_step refusal open_refusal open_of open_out connect_allowed writes_request request tick_refusal tick_of tick_out ticked run_out run_out_verdict watch_over wait_over received_refusal received_of received_out declared_by judged passed expected_now check_of word_agrees level_of disconnect_allowed good_type listed_reason good_dual_bus writes_disconnect disconnect sealed body check_word implicit top_bits width word_length generator generator48 generator32 shift feed kind_of is_data pick
examples =
    record {
      silence_on_tick = record { says = refl; leaves = refl; writes = refl; size = refl; buffer = refl };
      silence_on_receipt = record { says = refl; leaves = refl; writes = refl; size = refl; buffer = refl };
      no_confirm = record { says = refl; leaves = refl; writes = refl; size = refl; buffer = refl };
      no_authentication = record { says = refl; leaves = refl; writes = refl; size = refl; buffer = refl };
      no_acknowledgement = record { says = refl; leaves = refl; writes = refl; size = refl; buffer = refl };
      set_up_anew = record { says = refl; leaves = refl; writes = refl; size = refl; buffer = refl };
    }
