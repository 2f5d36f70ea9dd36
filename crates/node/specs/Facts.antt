-- What is shown of the calls, said of any link. proofs/Facts.antt proves each statement of ours, `called`, under the same name in snake case.
-- Assumes nothing.
use Rattle.std.specs.Prelude.{◌≡◌, true, List, ℕ, ◌<◌, length, Option}
use Rattle.telegram.specs.NetData.{net_data}
use Rattle.link.specs.Plain.{happened}
use Rattle.link.specs.Facts.{Same}
use Rattle.link.specs.declared.Record.{Record}
use Rattle.node.specs.declared.Head.{Head}
use Rattle.node.specs.declared.Route.{Route}
use Rattle.node.specs.Heads.{at}
use Rattle.node.specs.Accepted.{record_at, accepted}
use Rattle.node.specs.Matching.{is_for, first_match}
use Rattle.node.specs.Refusals.{order, first}
use Rattle.node.specs.Calls.{Call, Link, place_of, asked, refused_outcome}
use Rattle.node.specs.Calls.Call.{Received}
use Rattle.node.specs.Plain.{data_of}

-- The number answered is the first refusal in the scope's order, 0 where none holds.
abbrev pub FirstAnswered : Link → Type 0
FirstAnswered link = (c : Call) (h : Head) (t : List Record) (time : ℕ) (d : List ℕ) → (link c h t time d).outcome.answer.number ≡ first (order (asked c h t time d))

-- Any number but 0 leaves head, table and buffer as they were, and names no telegram and no event.
abbrev pub RefusedChangesNothing : Link → Type 0
RefusedChangesNothing link =
    (c : Call) (h : Head) (t : List Record) (time : ℕ) (d : List ℕ) → ((link c h t time d).outcome.answer.number ≡ 0 → ⊥)
    → ((link c h t time d).outcome ≡ refused_outcome (link c h t time d).outcome.answer.number h)
    × (((link c h t time d).table ≡ t) × ((link c h t time d).out ≡ d))

-- Answer 0 sets the head's latest time to the call's.
abbrev pub DoneSetsTheTime : Link → Type 0
DoneSetsTheTime link =
    (c : Call) (h : Head) (t : List Record) (time : ℕ) (d : List ℕ) → (link c h t time d).outcome.answer.number ≡ 0 → (link c h t time d).outcome.head ≡ at h time

-- A call for one record leaves every other as it was.
pub record OthersUnchanged (link : Link) : Type 0 where
  pub records : (c : Call) (h : Head) (t : List Record) (time : ℕ) (d : List ℕ) (i : ℕ) → (i ≡ place_of c t → ⊥)
      → record_at (link c h t time d).table i ≡ record_at t i
  pub count : (c : Call) (h : Head) (t : List Record) (time : ℕ) (d : List ℕ) → length (link c h t time d).table ≡ length t

-- And in its own record it changes neither partner address nor SAPs nor level.
abbrev pub PartnersStay : Link → Type 0
PartnersStay link = (c : Call) (h : Head) (t : List Record) (time : ℕ) (d : List ℕ) (i : ℕ) → Same (record_at t i) (record_at (link c h t time d).table i)

-- An accepted table stays accepted under the head that comes back.
abbrev pub StaysAccepted : Link → Type 0
StaysAccepted link =
    (c : Call) (h : Head) (t : List Record) (time : ℕ) (d : List ℕ) → accepted h t ≡ true → accepted (link c h t time d).outcome.head (link c h t time d).table ≡ true

-- A telegram is for the record of its route, wherever that stands in the table.
pub record ByRoute : Type 0 where
  -- the record found is one that the telegram is for
  pub found : (w : Route) (t : List Record) → first_match w t < length t → is_for w (record_at t (first_match w t)) ≡ true
  -- and in an accepted table it is the only one
  pub only : (w : Route) (h : Head) (t : List Record) (i : ℕ) → accepted h t ≡ true → i < length t → is_for w (record_at t i) ≡ true → first_match w t ≡ i

-- The net data that a data event (number 2) hands on are those of the telegram: after its fixed header and before its check word.
abbrev pub NetDataHandedOn : Link → Type 0
NetDataHandedOn link =
    (w : Route) (random : ℕ) (i : Option ℕ) (telegram net : List ℕ) (h : Head) (t : List Record) (time : ℕ) (d : List ℕ)
    → (happened (link (Received w random i telegram net) h t time d).outcome.event).event ≡ 2
    → data_of (link (Received w random i telegram net) h t time d).outcome.event telegram ≡ net_data telegram
