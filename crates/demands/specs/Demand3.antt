-- Demand 3: in an accepted table no telegram passes the check of two level 4 records, whatever numbers they expect; at level 2 when the implicit bytes differ
-- only within four neighbouring places.
-- A check is whatever says of a telegram, under an end and an expected number, whether it passes; `check_of` is ours.
-- Assumes nothing.
use Rattle.std.specs.Prelude.{◌≡◌, true, false, List, [], ◌⊎◌, ℕ, ◌^◌, ◌<◌, length}
use Rattle.checkword.specs.Bytes.{Bytes, Within}
use Rattle.telegram.specs.Commands.{kind_of_command}
use Rattle.telegram.specs.Ends.{in_range, receiving, mirrored}
use Rattle.telegram.specs.Writers.{writes_request, writes_confirm, writes_authentication, writes_acknowledgement, writes_disconnect, writes_idle, writes_data}
use Rattle.telegram.specs.Writers.Outcome.{wrote}
use Rattle.telegram.specs.Check.{command_of, used_for, Check, Passes}
use Rattle.telegram.specs.declared.End.{End}
use Rattle.telegram.specs.declared.Kind.TheVariants.{Request, Confirm}
use Rattle.link.specs.Records.{end_of}
use Rattle.link.specs.declared.Record.{Record}
use Rattle.link.specs.Plain.{happened}
use Rattle.link.specs.declared.Event.TheVariants.{Opened}
use Rattle.node.specs.declared.Head.{Head}
use Rattle.node.specs.Accepted.{record_at, accepted}
use Rattle.node.specs.Calls.{Link}
use Rattle.demands.specs.Pairs.{Listens}
use Rattle.demands.specs.Passing.{TelegramOf}
use Rattle.demands.specs.Effects.{nothing, closing, Receipt, takes, place_for, record_for, ReceiptDoes}

-- Two different records of an accepted table.
pub record Two (h : Head) (t : List Record) (i j : ℕ) : Type 0 where
  -- the very predicate of answer 1
  pub table : accepted h t ≡ true
  pub first : i < length t
  pub second : j < length t
  pub different : i ≡ j → ⊥

-- The end of the connection at a place of the table: its address is the head's, all else the record's. Nothing comes from a frame.
abbrev pub end_at : Head → List Record → ℕ → End
end_at h t i = end_of (record_at t i) h.own

abbrev pub Checking : Type 0
Checking = End → ℕ → List ℕ → Check

-- A telegram passes the checks of records of one level only.
abbrev pub NoTelegramForTwoLevels : Checking → Type 0
NoTelegramForTwoLevels check =
    (h : Head) (t : List Record) (i j m n : ℕ) (telegram : List ℕ)
    → check (end_at h t i) m telegram ≡ Passes → check (end_at h t j) n telegram ≡ Passes → (record_at t i).level ≡ (record_at t j).level

-- One that passes the check of a level 4 record passes that of no other record, whatever numbers m and n they expect.
abbrev pub NoTelegramForTwoAt4 : Checking → Type 0
NoTelegramForTwoAt4 check =
    (h : Head) (t : List Record) (i j m n : ℕ) (telegram : List ℕ) → Bytes telegram → Two h t i j → (record_at t i).level ≡ 4
    → check (end_at h t i) m telegram ≡ Passes → check (end_at h t j) n telegram ≡ Passes → ⊥

-- Nor does one for a level 2 record, when the implicit bytes, with the numbers used, differ only within four neighbouring places ..
abbrev pub NoTelegramForTwoAt2 : Checking → Type 0
NoTelegramForTwoAt2 check =
    (h : Head) (t : List Record) (i j m n : ℕ) (telegram : List ℕ) → Bytes telegram → Two h t i j → (record_at t i).level ≡ 2
    → Within 4 (receiving (end_at h t i) (used_for m telegram) (length telegram)) (receiving (end_at h t j) (used_for n telegram) (length telegram))
    → check (end_at h t i) m telegram ≡ Passes → check (end_at h t j) n telegram ≡ Passes → ⊥

-- .. as they do for a connect request or confirm, at either level.
abbrev pub NoConnectForTwo : Checking → Type 0
NoConnectForTwo check =
    (h : Head) (t : List Record) (i j m n : ℕ) (telegram : List ℕ) → Bytes telegram → Two h t i j
    → (kind_of_command (command_of telegram) ≡ Request) ⊎ (kind_of_command (command_of telegram) ≡ Confirm)
    → check (end_at h t i) m telegram ≡ Passes → check (end_at h t j) n telegram ≡ Passes → ⊥

-- A telegram other than a connect request or confirm passes at one expected number only: all 32 bits count, though the telegram carries the lowest eight.
abbrev pub OneNumber : Checking → Type 0
OneNumber check =
    (e : End) (m n : ℕ) (t : List ℕ) → Bytes t → (kind_of_command (command_of t) ≡ Request → ⊥) → (kind_of_command (command_of t) ≡ Confirm → ⊥)
    → m < 2 ^ 32 → n < 2 ^ 32 → check e m t ≡ Passes → check e n t ≡ Passes → m ≡ n

-- What an end writes: one of the seven telegrams, under the number n.
pub data Wrote (e : End) (n : ℕ) (telegram : List ℕ) : Type 0 where
  request : (time : ℕ) (net d : List ℕ) → n < 2 ^ 32 → Bytes net → writes_request e n time net d ≡ wrote telegram → Wrote e n telegram
  confirm : (time : ℕ) (net d : List ℕ) → n < 2 ^ 32 → Bytes net → writes_confirm e n time net d ≡ wrote telegram → Wrote e n telegram
  authentication : (received : ℕ) (d : List ℕ) → writes_authentication e n received d ≡ wrote telegram → Wrote e n telegram
  acknowledgement : (received : ℕ) (d : List ℕ) → writes_acknowledgement e n received d ≡ wrote telegram → Wrote e n telegram
  disconnect : (type reason : ℕ) (text d : List ℕ) → Bytes text → writes_disconnect e n type reason text d ≡ wrote telegram → Wrote e n telegram
  idle : (d : List ℕ) → writes_idle e n d ≡ wrote telegram → Wrote e n telegram
  data_telegram_holds : (low : ℕ) (net d : List ℕ) → Bytes net → writes_data e n low net d ≡ wrote telegram → Wrote e n telegram

-- What an end writes passes the check of the mirrored end, at the number that it was written with: a check that lets nothing pass is none.
abbrev pub WrittenPasses : Checking → Type 0
WrittenPasses check = (e : End) (n : ℕ) (telegram : List ℕ) → Wrote e n telegram → check (mirrored e) n telegram ≡ Passes

-- Two cards exchanged: what the partner's end of one connection writes passes the check of no other record of level 4, whatever that record
-- expects: the telegram keeps the implicit bytes that it was written with.
abbrev pub CardsExchanged : Checking → Type 0
CardsExchanged check =
    (h : Head) (t : List Record) (i j m n : ℕ) (telegram : List ℕ) → Bytes telegram → Two h t i j → (record_at t j).level ≡ 4
    → Wrote (mirrored (end_at h t i)) n telegram → check (end_at h t j) m telegram ≡ Passes → ⊥

-- A check passes exactly the telegrams that there are, as the mirrored end sends them: of a list of bytes, for an end in range; for no other end does it pass
-- anything. So it asks no less and no more than 5.1 and 5.2 do, and there is no other way past it.
abbrev pub PassesExactly : Checking → Type 0
PassesExactly check =
    (e : End) (expected : ℕ) (telegram : List ℕ) → Bytes telegram
    → (check e expected telegram ≡ Passes → (in_range e ≡ true) × TelegramOf (mirrored e) expected telegram)
    × (in_range e ≡ true → TelegramOf (mirrored e) expected telegram → check e expected telegram ≡ Passes)

-- All of demand 3 over tables.
pub record Demand3 (check : Checking) : Type 0 where
  pub one_level : NoTelegramForTwoLevels check
  pub at_4 : NoTelegramForTwoAt4 check
  pub at_2 : NoTelegramForTwoAt2 check
  pub connect : NoConnectForTwo check
  pub one_number : OneNumber check
  pub written_passes : WrittenPasses check
  pub cards_exchanged : CardsExchanged check
  pub passes_exactly : PassesExactly check

-- And what a node does then: a telegram that the partner of the record at place i wrote, under the number n, comes under the route of another record, of level 4.
pub record UnderAnotherRoute (x : Receipt) (i n : ℕ) : Type 0 where
  pub bytes : Bytes x.telegram
  pub two : Two x.head x.table i (place_for x)
  pub level : (record_for x).level ≡ 4
  pub written : Wrote (mirrored (end_at x.head x.table i)) n x.telegram

-- In no phase does it open that record or hand up data. On a closed one (1) it is dropped; one that is being set up or open, and whose wait or watch has not
-- run out, it closes with 06h.
pub record CardsExchangedAtANode (link : Link) : Type 0 where
  pub never_opens : (x : Receipt) (i n : ℕ) → UnderAnotherRoute x i n → (takes link x).outcome.event ≡ Opened → ⊥
  pub never_data : (x : Receipt) (i n : ℕ) → UnderAnotherRoute x i n → (happened (takes link x).outcome.event).event ≡ 2 → ⊥
  pub dropped : (x : Receipt) (i n : ℕ) → UnderAnotherRoute x i n → (record_for x).phase ≡ 1 → ReceiptDoes link x (nothing (record_for x))
  pub closes : (x : Receipt) (i n : ℕ) → UnderAnotherRoute x i n → Listens (record_for x) x.time
      → ReceiptDoes link x (closing (record_for x) x.head.own 0x06 false [])
