-- A worked example of demand 2 over every step, at level 4 and at level 2: it meets what the demand asks for.
-- Assumes nothing.
use Rattle.std.specs.Prelude.{◌≡◌, refl, List, [], ◌∷◌, ℕ, ◌≤◌, replicate}
use Rattle.std.proofs.Common.{arith, lit<, lit≤}
use Rattle.checkword.specs.Generators.{generator48, generator32}
use Rattle.checkword.specs.Word.{shift, feed}
use Rattle.ground.specs.Choice.{pick}
use Rattle.telegram.specs.Levels.{level_of, top_bits, width, word_length, generator}
use Rattle.telegram.specs.Commands.{kind_of, is_data}
use Rattle.telegram.specs.Values.{good_idle}
use Rattle.telegram.specs.Ends.{in_range, implicit}
use Rattle.telegram.specs.Telegrams as telegrams
use Rattle.telegram.specs.Telegrams.{data_telegram, sealed, body, check_word}
use Rattle.telegram.specs.Writers.{refusal, data_allowed, writes_data, writes_idle, connect_allowed}
use Rattle.telegram.specs.Check.{check_of, word_agrees}
use Rattle.link.specs.Records.{record_in_range, end_of, is_phase, is_closed, become}
use Rattle.link.specs.Times.{watch_over, idle_due}
use Rattle.link.specs.Judged.{ticked, run_out, judged, passed, expected_now}
use Rattle.link.specs.Steps as steps
use Rattle.link.specs.Steps.{first_refusal, writing_step, send_refusal, send_of, send_out, tick_refusal, tick_of, tick_out, received_refusal, received_of, declared_by, quietly, taken}
use Rattle.node.specs.Heads.{at}
use Rattle.node.specs.Accepted.{accepted, bounds_accepted, record_accepted}
use Rattle.node.specs.Calls.{called, asked, refused_outcome, settled}
use Rattle.node.specs.Calls.Call.{Send, Tick}
use Rattle.worked.specs.Demand2.{example_nodes, example_moment}
use Rattle.demands.specs.EveryStep.{Exchange, AllGoWell, messages}
use Rattle.demands.specs.EveryStep.Way.{there, back}
use Rattle.demands.specs.EveryStep.Exchange.{message, idle, meanwhile}
use Rattle.demands.specs.Pairs.NothingTo.{refused, early}
use Rattle.demands.specs.Pairs.Listens.{open_here}

-- Worked example: nodes 8 and 9 as in Demand2's, which are connected. Node 8 sends data 09h with the net bytes 1 and 2 at time 1100, and ticks at 1200, where
-- nothing is due; node 9 sends data 20h with the net byte 3 at 1250; node 8 is refused a sending for a place that its table has not at 1350, and ticks again at
-- 1400, 300 after it last sent. Each telegram is received 50 later.
abbrev pub example_exchanges : List Exchange
example_exchanges =
    message there 0x09 (1 ∷ 2 ∷ []) (example_moment 1100)
    ∷ meanwhile there (record { call = Tick 0; time = 1200; buffer = replicate 244 0 })
    ∷ message back 0x20 (3 ∷ []) (example_moment 1250)
    ∷ meanwhile there (record { call = Send 1 0x09 []; time = 1350; buffer = replicate 244 0 })
    ∷ idle there (example_moment 1400)
    ∷ []

-- All go well, at level 4 and at level 2 ..
pub example_goes_well : AllGoWell called (example_nodes 4) 0 0 example_exchanges × AllGoWell called (example_nodes 2) 0 0 example_exchanges
unfolding called asked settled refused_outcome accepted bounds_accepted record_accepted record_in_range end_of in_range is_phase is_closed good_idle first_refusal writing_step refusal send_refusal send_of send_out data_allowed writes_data data_telegram steps.sent become tick_refusal tick_of tick_out ticked run_out watch_over idle_due writes_idle telegrams.idle received_refusal received_of declared_by connect_allowed judged passed expected_now check_of word_agrees level_of quietly taken sealed body check_word implicit top_bits width word_length generator generator48 generator32 shift feed kind_of is_data at pick
example_goes_well = (
  (
    ((lit< tt, (lit< tt, tt)), record { done = refl; taken = refl; in_time = λ some. lit≤ tt }),
    (
      early refl (open_here refl (λ some. lit≤ tt)) (λ five due. let h : 2700 ≤ 2400 = due.half in omega arith),
      (
        ((lit< tt, tt), record { done = refl; taken = refl; in_time = λ some. lit≤ tt }),
        (
          refused (λ done. let n : ◌≡◌ {A = ℕ} 2 0 = done in omega arith),
          ((record { declares = λ none. omega arith; half = lit≤ tt; in_time = λ some. lit≤ tt }, record { done = refl; taken = refl; in_time = λ some. lit≤ tt }), tt),
        ),
      ),
    ),
  ),
  (
    ((lit< tt, (lit< tt, tt)), record { done = refl; taken = refl; in_time = λ some. lit≤ tt }),
    (
      early refl (open_here refl (λ some. lit≤ tt)) (λ five due. let h : 2700 ≤ 2400 = due.half in omega arith),
      (
        ((lit< tt, tt), record { done = refl; taken = refl; in_time = λ some. lit≤ tt }),
        (
          refused (λ done. let n : ◌≡◌ {A = ℕ} 2 0 = done in omega arith),
          ((record { declares = λ none. omega arith; half = lit≤ tt; in_time = λ some. lit≤ tt }, record { done = refl; taken = refl; in_time = λ some. lit≤ tt }), tt),
        ),
      ),
    ),
  ),
)

-- .. and what is handed up is then this.
pub example_messages : messages example_exchanges ≡ (there, (0x09, 1 ∷ 2 ∷ [])) ∷ (back, (0x20, 3 ∷ [])) ∷ []
example_messages = refl
