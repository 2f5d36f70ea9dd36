-- Worked examples of demand 3: two records, a telegram for one of them, and two cards exchanged.
-- Assumes nothing.
use Rattle.std.specs.Prelude.{◌≡◌, refl, false, List, [], ◌∷◌, ℕ, zero, suc, ◌+◌, ◌≤◌, ◌<◌, length, get_or, replicate}
use Rattle.std.proofs.Common.{arith, lit<}
use Rattle.checkword.specs.Bytes.{Bytes, Within}
use Rattle.checkword.specs.Generators.{generator48, generator32}
use Rattle.checkword.specs.Word.{shift, feed}
use Rattle.ground.specs.Choice.{pick}
use Rattle.telegram.specs.Levels.{top_bits, width, word_length, generator, level_of}
use Rattle.telegram.specs.Commands.{kind_of, is_data}
use Rattle.telegram.specs.Values.{good_idle, good_type, listed_reason}
use Rattle.telegram.specs.Ends.{receiving, mirrored, in_range, implicit}
use Rattle.telegram.specs.Telegrams as telegrams
use Rattle.telegram.specs.Telegrams.{data_telegram, sealed, body, check_word}
use Rattle.telegram.specs.Writers.{writes_disconnect, writes_data, refusal, data_allowed, connect_allowed, disconnect_allowed}
use Rattle.telegram.specs.Check.{used_for, check_of, word_agrees, Check, Passes, Failed}
use Rattle.telegram.specs.declared.Clause.TheVariants as clause
use Rattle.link.specs.Records.{end_of, record_in_range, is_phase, is_closed, at_rest, fresh_of, become, closed_by}
use Rattle.link.specs.Times.{watch_over}
use Rattle.link.specs.Judged.{judged, run_out, expected_now}
use Rattle.link.specs.Steps.{first_refusal, writing_step, received_refusal, received_of, received_out, declared_by}
use Rattle.link.specs.declared.Record.{Record}
use Rattle.link.specs.declared.Event.TheVariants.{Closed}
use Rattle.node.specs.declared.Head.{Head}
use Rattle.node.specs.Accepted.{record_at, accepted, bounds_accepted, record_accepted}
use Rattle.node.specs.Calls.{Left, called, asked, settled}
use Rattle.demands.specs.Pairs.{Done}
use Rattle.worked.specs.Demand2.{example_record, example_receipt}
use Rattle.demands.specs.Demand3.{Two, end_at, Wrote}
use Rattle.demands.specs.Demand3.Wrote.{data_telegram_holds}

-- Worked example: node 1, which has seen no time yet ..
abbrev pub example_head : Head
example_head = record { own = 1; latest = 0 }

-- .. and has a connection with node 8 and one with node 9, both from its SAP 3 to SAP 3 and both of this level.
abbrev pub example_table : ℕ → List Record
example_table level = fresh_of 8 3 3 level ∷ fresh_of 9 3 3 level ∷ []

-- These are two different records of an accepted table, at level 4 and at level 2.
pub example_two_holds : Two example_head (example_table 4) 0 1 × Two example_head (example_table 2) 0 1
unfolding accepted bounds_accepted record_accepted record_in_range end_of in_range is_phase is_closed good_idle at_rest fresh_of pick
example_two_holds = (
  record { table = refl; first = lit< tt; second = lit< tt; different = λ p. omega arith },
  record { table = refl; first = lit< tt; second = lit< tt; different = λ p. omega arith },
)

-- What node 8 writes to node 1 under the number 01234569h, data 09h with the net bytes 1 and 2: at level 4 ..
abbrev pub example_telegram4 : List ℕ
example_telegram4 = 0x69 ∷ 0x89 ∷ 0x01 ∷ 0x02 ∷ 0x83 ∷ 0x6A ∷ 0xB0 ∷ 0x3E ∷ 0x32 ∷ 0x22 ∷ []

-- .. and at level 2.
abbrev pub example_telegram2 : List ℕ
example_telegram2 = 0x69 ∷ 0x09 ∷ 0x01 ∷ 0x02 ∷ 0xDD ∷ 0x0E ∷ 0xBC ∷ 0x6F ∷ []

-- Both are lists of bytes.
pub example_bytes : Bytes example_telegram4 × Bytes example_telegram2
example_bytes = (
  (lit< tt, (lit< tt, (lit< tt, (lit< tt, (lit< tt, (lit< tt, (lit< tt, (lit< tt, (lit< tt, (lit< tt, tt)))))))))),
  (lit< tt, (lit< tt, (lit< tt, (lit< tt, (lit< tt, (lit< tt, (lit< tt, (lit< tt, tt)))))))),
)

-- Both are what the partner's end of the first record writes.
pub example_wrote :
    Wrote (mirrored (end_at example_head (example_table 4) 0)) 0x01234569 example_telegram4
    × Wrote (mirrored (end_at example_head (example_table 2) 0)) 0x01234569 example_telegram2
unfolding writes_data refusal data_allowed data_telegram in_range sealed body check_word implicit top_bits width word_length generator generator48 generator32 shift feed kind_of is_data fresh_of end_of pick
example_wrote = (
  data_telegram_holds 0x09 (1 ∷ 2 ∷ []) (replicate 244 0) (lit< tt, (lit< tt, tt)) refl,
  data_telegram_holds 0x09 (1 ∷ 2 ∷ []) (replicate 244 0) (lit< tt, (lit< tt, tt)) refl,
)

-- The check by the record at a place, with 01234569h as the number expected.
abbrev pub example_check : ℕ → ℕ → List ℕ → Check
example_check level i telegram = check_of (end_at example_head (example_table level) i) 0x01234569 telegram

-- Each passes the check of the record for node 8 ..
pub example_passes : (example_check 4 0 example_telegram4 ≡ Passes) × (example_check 2 0 example_telegram2 ≡ Passes)
unfolding check_of word_agrees in_range level_of check_word implicit width word_length generator generator48 generator32 shift feed kind_of is_data fresh_of end_of pick
example_passes = (refl, refl)

-- .. and, as the theorem says, not that of the record for node 9: there the check word doesn't agree.
pub example_fails : (example_check 4 1 example_telegram4 ≡ Failed clause.Word) × (example_check 2 1 example_telegram2 ≡ Failed clause.Word)
unfolding check_of word_agrees in_range level_of check_word implicit width word_length generator generator48 generator32 shift feed kind_of is_data fresh_of end_of pick
example_fails = (refl, refl)

-- The implicit bytes at level 2, as the record at a place has them.
abbrev pub example_implicit : ℕ → List ℕ
example_implicit i = receiving (end_at example_head (example_table 2) i) (used_for 0x01234569 example_telegram2) (length example_telegram2)

-- Those of the two records differ only at the sender's place, the third.
pub example_within : Within 4 (example_implicit 0) (example_implicit 1)
unfolding implicit is_data kind_of fresh_of end_of pick
example_within = record { start = 2; one_length = refl; before = before; after = after }
  where
    before : (k : ℕ) → k < 2 → get_or (example_implicit 0) k 0 ≡ get_or (example_implicit 1) k 0
    before zero p = refl
    before (suc zero) p = refl
    before (suc (suc k)) p = absurd (omega arith)

    after : (k : ℕ) → 2 + 4 ≤ k → get_or (example_implicit 0) k 0 ≡ get_or (example_implicit 1) k 0
    after zero p = refl
    after (suc zero) p = refl
    after (suc (suc zero)) p = absurd (omega arith)
    after (suc (suc (suc k))) p = refl

-- With both connections open, each at the number 01234569h: the telegram of node 8 arrives as if from node 9, and is not refused ..
abbrev pub example_both_open : List Record
example_both_open = example_record 4 8 0x89ABCDF1 0x01234569 1000 ∷ example_record 4 9 0x89ABCDF1 0x01234569 1000 ∷ []

abbrev pub example_exchanged : Left
example_exchanged =
    called (example_receipt 9 example_telegram4) (record { own = 1; latest = 1000 }) example_both_open 1300
    (replicate 244 0)

-- .. the connection to node 9 is closed with 06h, and the one to node 8 stays open.
pub example_exchanged_holds :
    Done example_exchanged × (example_exchanged.outcome.event ≡ Closed 0x06 false) × ((record_at example_exchanged.table 1).phase ≡ 1) × ((record_at example_exchanged.table 0).phase ≡ 5)
unfolding called asked settled accepted bounds_accepted record_accepted record_in_range end_of in_range is_phase is_closed good_idle at_rest first_refusal writing_step refusal received_refusal received_of received_out declared_by connect_allowed judged run_out watch_over expected_now check_of word_agrees level_of disconnect_allowed good_type listed_reason writes_disconnect telegrams.disconnect closed_by become sealed body check_word implicit top_bits width word_length generator generator48 generator32 shift feed kind_of is_data pick
example_exchanged_holds = (refl, refl, refl, refl)
