-- Worked examples of demand 1: the order in which calls are refused.
-- Assumes nothing.
use Rattle.std.specs.Prelude.{◌≡◌, refl, true, [], ◌∷◌, ℕ, replicate}
use Rattle.ground.specs.Choice.{pick}
use Rattle.telegram.specs.Commands.{is_data}
use Rattle.telegram.specs.Values.{good_idle}
use Rattle.telegram.specs.Ends.{in_range}
use Rattle.telegram.specs.Writers.{data_allowed}
use Rattle.link.specs.Records.{record_in_range, end_of, is_phase, is_closed, at_rest, fresh_of, become, closed_by}
use Rattle.link.specs.declared.Record.{Record}
use Rattle.node.specs.Accepted.{accepted, bounds_accepted, record_accepted}
use Rattle.node.specs.Calls.{Call, asked, refused_outcome, called}
use Rattle.node.specs.Calls.Call.{Send}
use Rattle.worked.specs.Demand2.{example_open, example_receipt}

-- Worked example: node 8, which has seen time 1000, makes a call with this own address, this one record, at this time and with a buffer of this many bytes.
abbrev pub example_answer : Call → ℕ → Record → ℕ → ℕ → ℕ
example_answer c own r time room = (called c (record { own = own; latest = 1000 }) (r ∷ []) time (replicate room 0)).outcome.answer.number

-- Beside the open record a closed and a finally closed one.
abbrev pub example_closed : Record
example_closed = fresh_of 9 3 3 4

abbrev pub example_ended : Record
example_ended = closed_by true (fresh_of 9 3 3 4)

-- A command for send that isn't data is refused with 5; on a closed record besides, with 3; on a finally closed one, with 8; for a place that the table has not,
-- with 2; at an earlier time besides, with 7; with too small a buffer besides, with 4; with an own address out of range besides, with 1.
pub example_order :
    (example_answer (Send 0 0x00 []) 8 example_open 1000 244 ≡ 5)
    × (example_answer (Send 0 0x00 []) 8 example_closed 1000 244 ≡ 3)
    × (example_answer (Send 0 0x00 []) 8 example_ended 1000 244 ≡ 8)
    × (example_answer (Send 1 0x00 []) 8 example_ended 1000 244 ≡ 2)
    × (example_answer (Send 1 0x00 []) 8 example_ended 999 244 ≡ 7)
    × (example_answer (Send 1 0x00 []) 8 example_ended 999 243 ≡ 4)
    × (example_answer (Send 1 0x00 []) 127 example_ended 999 243 ≡ 1)
unfolding called asked refused_outcome accepted bounds_accepted record_accepted record_in_range end_of in_range is_phase is_closed at_rest good_idle data_allowed is_data fresh_of closed_by become pick
example_order = (refl, refl, refl, refl, refl, refl, refl)

-- A telegram of five bytes from an unknown sender is refused with 6, and at an earlier time with 7.
pub example_short : (example_answer (example_receipt 10 (replicate 5 0)) 8 example_open 1000 244 ≡ 6) × (example_answer (example_receipt 10 (replicate 5 0)) 8 example_open 999 244 ≡ 7)
unfolding called asked refused_outcome accepted bounds_accepted record_accepted record_in_range end_of in_range is_phase is_closed good_idle pick
example_short = (refl, refl)
