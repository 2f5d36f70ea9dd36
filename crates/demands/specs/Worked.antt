-- The scope, "Worked numbers": the lines marked P as one list with one statement. Each line says what the paper prints of the definition that the contracts
-- use, with the paper's words above it. proofs/Worked.antt proves the statement under the same name in snake case.
-- Assumes nothing.
use Rattle.std.specs.Prelude.{◌≡◌, true, false, List, [], ◌∷◌, ℕ, ◌≤◌, ◌<◌, length, drop, get_or, Some, None}
use Rattle.checkword.specs.Bytes.{Bytes}
use Rattle.telegram.specs.Levels.{level_of}
use Rattle.telegram.specs.Commands.{kind_of_command}
use Rattle.telegram.specs.Layout.{longest, most, on_bus}
use Rattle.telegram.specs.Ends.{in_range, implicit, mirrored}
use Rattle.telegram.specs.Telegrams.{telegram, authentication_number, idle, data_telegram}
use Rattle.telegram.specs.Values.{good_idle}
use Rattle.telegram.specs.Writers.{answer_of, writes_request, writes_confirm, writes_idle, writes_data}
use Rattle.telegram.specs.Writers.Outcome.{wrote}
use Rattle.telegram.specs.Check.{command_of, same_level, check_of, Passes, Failed}
use Rattle.telegram.specs.declared.End.{End}
use Rattle.telegram.specs.declared.Kind.TheVariants.{Request, Data, Unknown}
use Rattle.telegram.specs.declared.Clause.{Clause}
use Rattle.telegram.specs.declared.Clause.TheVariants as clause
use Rattle.link.specs.Records.{record_in_range}
use Rattle.link.specs.Steps.{open_of}
use Rattle.link.specs.declared.Record.{Record}
use Rattle.node.specs.declared.Head.{Head}
use Rattle.node.specs.declared.Route.{Route}
use Rattle.node.specs.Accepted.{record_at, accepted}
use Rattle.node.specs.Matching.{first_match}
use Rattle.node.specs.Calls.{called}
use Rattle.node.specs.Calls.Call.{Open, Received}

-- Byte 1 of every telegram that has this number.
abbrev pub Byte1 : ℕ → ℕ → Type 0
Byte1 number byte = (e : End) (low : ℕ) (fields net : List ℕ) → get_or (telegram e number low fields net) 0 0 ≡ byte

-- The implicit bytes of this number, whatever the other five are.
abbrev pub ImplicitBytes : ℕ → List ℕ → Type 0
ImplicitBytes number bytes = (count receiver sender dsap ssap : ℕ) → drop 5 (implicit count receiver sender dsap ssap number) ≡ bytes

-- A command, by its low six bits, is data at SL 4: every end in range writes such a telegram from net data that fit, its byte 2 is the command, and the mirrored
-- end takes it.
pub record DataAt4 (low command : ℕ) : Type 0 where
  pub written : (e : End) (number : ℕ) (net d : List ℕ) → in_range e ≡ true → e.level ≡ 4 → length net ≤ 236 → longest ≤ length d
      → writes_data e number low net d ≡ wrote (data_telegram e number low net)
  pub byte_2 : (e : End) (number : ℕ) (net : List ℕ) → e.level ≡ 4 → command_of (data_telegram e number low net) ≡ command
  pub taken : (e : End) (number : ℕ) (net : List ℕ) → in_range e ≡ true → e.level ≡ 4 → length net ≤ 236 → Bytes net
      → check_of (mirrored e) number (data_telegram e number low net) ≡ Passes

-- A command is not taken at SL 4: every telegram that has it fails the check of every end in range, at this clause.
abbrev pub FailsAt4 : ℕ → Clause → Type 0
FailsAt4 command c =
    (e : End) (expected : ℕ) (t : List ℕ) → in_range e ≡ true → e.level ≡ 4 → on_bus (length t) ≡ true → command_of t ≡ command → check_of e expected t ≡ Failed c

-- The number answered to an idle time where nothing else is wrong: by both writers, by the link's opening, and by the node's calls that are given one.
pub record IdleTimeAnswers (time n : ℕ) : Type 0 where
  pub by_request : (e : End) (random : ℕ) (net d : List ℕ) → in_range e ≡ true → longest ≤ length d → length net ≤ most Request e.level
      → (answer_of (writes_request e random time net d)).answer ≡ n
  pub by_confirm : (e : End) (random : ℕ) (net d : List ℕ) → in_range e ≡ true → longest ≤ length d → length net ≤ most Request e.level
      → (answer_of (writes_confirm e random time net d)).answer ≡ n
  pub by_link : (r : Record) (own clock random : ℕ) (net d : List ℕ) → record_in_range r own ≡ true → longest ≤ length d → r.phase ≡ 1
      → length net ≤ most Request r.level → (open_of r own clock random (Some time) net d).answer.number ≡ n
  pub by_open : (h : Head) (t : List Record) (clock place random : ℕ) (net d : List ℕ) → accepted h t ≡ true → longest ≤ length d → h.latest ≤ clock
      → place < length t → (record_at t place).phase ≡ 1 → length net ≤ most Request (record_at t place).level
      → (called (Open place random (Some time) net) h t clock d).outcome.answer.number ≡ n
  pub by_received : (h : Head) (t : List Record) (clock : ℕ) (w : Route) (random : ℕ) (u net d : List ℕ) → accepted h t ≡ true → longest ≤ length d
      → h.latest ≤ clock → on_bus (length u) ≡ true → first_match w t < length t → ((record_at t (first_match w t)).phase ≡ 6 → ⊥)
      → length net ≤ most Request (record_at t (first_match w t)).level
      → (called (Received w random (Some time) u net) h t clock d).outcome.answer.number ≡ n

-- An idle telegram has so many bytes at a level, and the writer says so.
pub record IdleTelegram (level count : ℕ) : Type 0 where
  pub bytes : (e : End) (number : ℕ) → e.level ≡ level → length (idle e number) ≡ count
  pub written : (e : End) (number : ℕ) (d : List ℕ) → e.level ≡ level → in_range e ≡ true → longest ≤ length d
      → answer_of (writes_idle e number d) ≡ record { answer = 0; length = count }

-- The list.
abbrev pub lines : List (Type 0)
lines =
    -- "authentication: 89ABCDEFh gives 89ABCDF0h at SL 4, 89ABCDF1h at SL 2;
    (authentication_number 4 0x89ABCDEF ≡ 0x89ABCDF0)
    ∷ (authentication_number 2 0x89ABCDEF ≡ 0x89ABCDF1)
    -- FFFFFFFFh gives 0 and 1."
    ∷ (authentication_number 4 0xFFFFFFFF ≡ 0)
    ∷ (authentication_number 2 0xFFFFFFFF ≡ 1)
    -- "01234568h: byte 1 is 68h, implicit bytes 45h 23h 01h."
    ∷ Byte1 0x01234568 0x68
    ∷ ImplicitBytes 0x01234568 (0x45 ∷ 0x23 ∷ 0x01 ∷ [])
    -- "levels: 80h 4, 3Fh 2, E0h 0, 40h none."
    ∷ (level_of 0x80 ≡ Some 4)
    ∷ (level_of 0x3F ≡ Some 2)
    ∷ (level_of 0xE0 ≡ Some 0)
    ∷ (level_of 0x40 ≡ None)
    -- "data: BFh yes,
    ∷ (kind_of_command 0xBF ≡ Data)
    ∷ (same_level (level_of 0xBF) 4 ≡ true)
    ∷ DataAt4 0x3F 0xBF
    -- 8Dh no,
    ∷ (kind_of_command 0x8D ≡ Unknown)
    ∷ FailsAt4 0x8D clause.Command
    -- C9h not at SL 4."
    ∷ (kind_of_command 0xC9 ≡ Data)
    ∷ (same_level (level_of 0xC9) 4 ≡ false)
    ∷ FailsAt4 0xC9 clause.Level
    -- "idle time: 0, 100, 65500 good;
    ∷ (good_idle 0 ≡ true)
    ∷ (good_idle 100 ≡ true)
    ∷ (good_idle 65500 ≡ true)
    ∷ IdleTimeAnswers 0 0
    ∷ IdleTimeAnswers 100 0
    ∷ IdleTimeAnswers 65500 0
    -- 50, 150, 65535 answer 5."
    ∷ IdleTimeAnswers 50 5
    ∷ IdleTimeAnswers 150 5
    ∷ IdleTimeAnswers 65535 5
    -- "an SL 4 idle telegram has 8 bytes, an SL 2 one 6."
    ∷ IdleTelegram 4 8
    ∷ IdleTelegram 2 6
    ∷ []

-- Every statement of a list holds.
abbrev pub AllHold : List (Type 0) → Type 0
AllHold [] = Unit {0}
AllHold (s ∷ ss) = s × AllHold ss

-- The one statement: every line holds.
abbrev pub Worked : Type 0
Worked = AllHold lines
