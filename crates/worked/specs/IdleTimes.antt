-- Worked example of the idle times of demand 2: the set-up of level 4 in SetUp.antt, in which neither node names one. The opener's record declares and
-- watches 1,000 afterwards, and its ticks do nothing, write an idle telegram and close, each at its time.
-- Assumes nothing.
use Rattle.std.specs.Prelude.{◌≡◌, refl, List, [], ◌∷◌, ℕ, replicate}
use Rattle.checkword.specs.Generators.{generator48}
use Rattle.checkword.specs.Word.{shift, feed}
use Rattle.ground.specs.Choice.{pick}
use Rattle.telegram.specs.Levels.{level_of, top_bits, width, word_length, generator, added}
use Rattle.telegram.specs.Commands.{kind_of}
use Rattle.telegram.specs.Values.{good_idle, good_dual_bus, good_type, listed_reason}
use Rattle.telegram.specs.Ends.{in_range, implicit}
use Rattle.telegram.specs.Telegrams.{request, sealed, body, check_word, confirm, authentication, acknowledgement, idle, disconnect}
use Rattle.telegram.specs.Writers.{refusal, connect_allowed, disconnect_allowed, writes_request, writes_confirm, writes_authentication, writes_acknowledgement, writes_idle, writes_disconnect}
use Rattle.telegram.specs.Check.{check_of, word_agrees}
use Rattle.link.specs.Records.{record_in_range, end_of, is_phase, is_closed, become, closed_by, at_rest, fresh_of}
use Rattle.link.specs.Times.{wait_over, watch_over, idle_due}
use Rattle.link.specs.Judged.{judged, ticked, passed, expected_now, run_out, run_out_verdict, good_version, good_number}
use Rattle.link.specs.Steps.{first_refusal, writing_step, open_refusal, open_of, open_out, received_refusal, received_of, received_out, tick_refusal, tick_of, tick_out, declared_by, quietly, taken, sent}
use Rattle.link.specs.declared.Record.{Record}
use Rattle.link.specs.declared.Answer.{Answer}
use Rattle.node.specs.Heads.{at}
use Rattle.node.specs.declared.Head.{Head}
use Rattle.node.specs.Accepted.{accepted, bounds_accepted, record_accepted}
use Rattle.node.specs.Calls.{called, asked, settled}
use Rattle.node.specs.Calls.Call.{Tick}
use Rattle.demands.specs.SetUp.{Parties, opens}
use Rattle.worked.specs.SetUp.{example_parties}

abbrev pub example_unnamed : Parties
example_unnamed = example_parties 4 0x01234567 0x89ABCDEF [] [] []

-- The opener afterwards: it sent last at 1020, and took the acknowledgement at 1040.
abbrev pub example_head : Head
example_head = record { own = 8; latest = 1040 }

abbrev pub example_table : List Record
example_table =
    record {
      partner = 9;
      partner_sap = 3;
      local_sap = 3;
      level = 4;
      phase = 5;
      sending = 0x01234569;
      expected = 0x89ABCDF1;
      declared = 1000;
      watched = 1000;
      sent_at = 1020;
      taken_at = 1040;
    }
    ∷ fresh_of 10 3 3 4 ∷ []

-- What a tick of it at this time answers: the number, the telegram and how long that is.
abbrev pub ticking : ℕ → Answer
ticking time = (called (Tick 0) example_head example_table time (replicate 244 0)).outcome.answer

-- A tick 499 after the last sending writes nothing, one after 500 an idle telegram (6); so does one that is still 1,000 after the acknowledgement, and after 1,001 it
-- is a disconnect (5).
pub example_keeps : (((opens called example_unnamed).outcome.head ≡ example_head) × ((opens called example_unnamed).table ≡ example_table))
    × ((ticking 1519 ≡ record { number = 0; telegram = 0; length = 0 })
    × ((ticking 1520 ≡ record { number = 0; telegram = 6; length = 8 })
    × ((ticking 2040 ≡ record { number = 0; telegram = 6; length = 8 }) × (ticking 2041 ≡ record { number = 0; telegram = 5; length = 10 }))))
unfolding called asked settled accepted bounds_accepted record_accepted record_in_range end_of in_range is_phase is_closed good_idle first_refusal writing_step refusal open_refusal open_of open_out connect_allowed writes_request request become received_refusal received_of received_out declared_by judged passed expected_now run_out check_of word_agrees level_of quietly sealed body check_word implicit top_bits width word_length generator generator48 shift feed kind_of writes_confirm confirm writes_authentication authentication writes_acknowledgement acknowledgement added good_version good_number good_dual_bus wait_over at at_rest fresh_of tick_refusal tick_of tick_out ticked run_out_verdict watch_over idle_due idle disconnect writes_idle writes_disconnect disconnect_allowed good_type listed_reason closed_by taken sent pick
example_keeps = ((refl, refl), (refl, (refl, (refl, refl))))
