-- What is shown of telegrams: what each writer writes is taken by the mirrored end and reads back as it went in; and no telegram is taken by two ends that
-- it should be told apart for. proofs/Taken.antt and proofs/Apart.antt prove each statement under the same name in snake case.
-- Assumes nothing.
use Rattle.std.specs.Prelude.{◌≡◌, List, [], ◌∷◌, ◌⊎◌, ℕ, ◌^◌, ◌<◌, length}
use Rattle.checkword.specs.Bytes.{Bytes, Within}
use Rattle.telegram.specs.Commands.{kind_of_command}
use Rattle.telegram.specs.Layout.{values}
use Rattle.telegram.specs.Ends.{receiving, mirrored}
use Rattle.telegram.specs.Telegrams.{version_and_bus, authentication_number}
use Rattle.telegram.specs.Writers.{writes_request, writes_confirm, writes_authentication, writes_acknowledgement, writes_disconnect, writes_idle, writes_data}
use Rattle.telegram.specs.Writers.Outcome.{wrote}
use Rattle.telegram.specs.Check.{command_of, used_for, check_of, Passes}
use Rattle.telegram.specs.NetData.{net_data}
use Rattle.telegram.specs.declared.End.{End}
use Rattle.telegram.specs.declared.Kind.{Kind}
use Rattle.telegram.specs.declared.Kind.TheVariants.{Request, Confirm, Authentication, Acknowledgement, Disconnect, Idle, Data}

-- What an end writes, the mirrored end takes.

-- The telegram t of the end e passes the check of the mirrored end that expects this number, and is read back as this kind, these fields and these net data.
pub record Taken (e : End) (expected : ℕ) (t : List ℕ) (k : Kind) (vs net : List ℕ) : Type 0 where
  pub passes : check_of (mirrored e) expected t ≡ Passes
  pub kind : kind_of_command (command_of t) ≡ k
  pub fields : values k t ≡ vs
  pub net_data_holds : net_data t ≡ net

-- Request and confirm: whatever is expected, since they are checked with their own random number.
abbrev pub RequestTaken : Type 0
RequestTaken =
    (e : End) (random time expected : ℕ) (net d t : List ℕ) → random < 2 ^ 32 → Bytes net → writes_request e random time net d ≡ wrote t
    → Taken e expected t Request (random ∷ time ∷ version_and_bus) net

abbrev pub ConfirmTaken : Type 0
ConfirmTaken =
    (e : End) (random time expected : ℕ) (net d t : List ℕ) → random < 2 ^ 32 → Bytes net → writes_confirm e random time net d ≡ wrote t
    → Taken e expected t Confirm (random ∷ time ∷ version_and_bus) net

-- The others with the number that they were written with.
abbrev pub AuthenticationTaken : Type 0
AuthenticationTaken =
    (e : End) (number received : ℕ) (d t : List ℕ) → writes_authentication e number received d ≡ wrote t
    → Taken e number t Authentication (authentication_number e.level received ∷ []) []

abbrev pub AcknowledgementTaken : Type 0
AcknowledgementTaken =
    (e : End) (number received : ℕ) (d t : List ℕ) → writes_acknowledgement e number received d ≡ wrote t
    → Taken e number t Acknowledgement (authentication_number e.level received ∷ []) []

abbrev pub DisconnectTaken : Type 0
DisconnectTaken =
    (e : End) (number type reason : ℕ) (text d t : List ℕ) → Bytes text → writes_disconnect e number type reason text d ≡ wrote t
    → Taken e number t Disconnect (type ∷ reason ∷ []) text

abbrev pub IdleTaken : Type 0
IdleTaken = (e : End) (number : ℕ) (d t : List ℕ) → writes_idle e number d ≡ wrote t → Taken e number t Idle [] []

abbrev pub DataTaken : Type 0
DataTaken =
    (e : End) (number low : ℕ) (net d t : List ℕ) → Bytes net → writes_data e number low net d ≡ wrote t
    → Taken e number t Data [] net

-- Demand 3 at this layer: what tells two ends apart.

-- Partner address and SAPs are not all the same.
abbrev pub OtherPartner : End → End → Type 0
OtherPartner e f = (e.partner ≡ f.partner → e.partner_sap ≡ f.partner_sap → e.local_sap ≡ f.local_sap → ⊥)

-- At level 4 no telegram passes the checks of two ends of one own address, whatever numbers are expected.
abbrev pub ApartAt4 : Type 0
ApartAt4 =
    (e f : End) (m n : ℕ) (t : List ℕ) → Bytes t → e.level ≡ 4 → f.level ≡ 4 → e.own ≡ f.own → OtherPartner e f
    → check_of e m t ≡ Passes → check_of f n t ≡ Passes → ⊥

-- At level 2 none does when the implicit bytes of the numbers used differ only within four neighbouring places ..
abbrev pub ApartAt2 : Type 0
ApartAt2 =
    (e f : End) (m n : ℕ) (t : List ℕ) → Bytes t → e.level ≡ 2 → f.level ≡ 2 → OtherPartner e f
    → Within 4 (receiving e (used_for m t) (length t)) (receiving f (used_for n t) (length t))
    → check_of e m t ≡ Passes → check_of f n t ≡ Passes → ⊥

-- .. and no connect request or confirm does at all.
abbrev pub ConnectApart : Type 0
ConnectApart =
    (e f : End) (m n : ℕ) (t : List ℕ) → Bytes t → (kind_of_command (command_of t) ≡ Request) ⊎ (kind_of_command (command_of t) ≡ Confirm)
    → e.own ≡ f.own → OtherPartner e f → check_of e m t ≡ Passes → check_of f n t ≡ Passes → ⊥

-- A telegram other than a connect request or confirm passes at one expected number only: all 32 bits count, though the telegram carries the lowest eight.
abbrev pub OneNumber : Type 0
OneNumber =
    (e : End) (m n : ℕ) (t : List ℕ) → Bytes t → (kind_of_command (command_of t) ≡ Request → ⊥) → (kind_of_command (command_of t) ≡ Confirm → ⊥)
    → m < 2 ^ 32 → n < 2 ^ 32 → check_of e m t ≡ Passes → check_of e n t ≡ Passes → m ≡ n

-- A telegram passes no check of another level.
abbrev pub LevelApart : Type 0
LevelApart = (e f : End) (m n : ℕ) (t : List ℕ) → check_of e m t ≡ Passes → check_of f n t ≡ Passes → e.level ≡ f.level
