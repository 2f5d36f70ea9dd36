-- An end of a connection, and the implicit bytes that the check word covers before the telegram.
-- Assumes nothing.
use Rattle.std.specs.Prelude.{Bool, true, List, [], ◌∷◌, ℕ, ◌/◌, ◌%◌, leb, eqb}
use Rattle.ground.specs.Choice.{pick, all}
use Rattle.ground.specs.Numbers.{lowest_first}
use Rattle.telegram.specs.declared.End.{End}

-- The levels that there are.
abbrev pub is_level : ℕ → Bool
is_level l = pick (eqb l 4) true (eqb l 2)

-- Addresses 0..126, SAPs 0..62 (5.1.3.4), a level that there is.
unfoldable pub in_range : End → Bool
in_range e =
    all
    (leb e.own 126 ∷ leb e.partner 126 ∷ leb e.partner_sap 62 ∷ leb e.local_sap 62 ∷ is_level e.level ∷ [])

-- The eight implicit bytes (5.1.3.4): length, receiver, sender, DSAP, SSAP as the telegram travels, and the upper 24 bits of the sequence number, lowest
-- byte first (5.3.1.7).
unfoldable pub implicit : ℕ → ℕ → ℕ → ℕ → ℕ → ℕ → List ℕ
implicit count receiver sender dsap ssap number =
    count % 256 ∷ receiver % 256 ∷ sender % 256 ∷ dsap % 256 ∷ ssap % 256 ∷ lowest_first 3 (number / 256)

-- What an end writes travels to its partner: the destination SAP is the partner's, the source SAP its own.
abbrev pub sending : End → ℕ → ℕ → List ℕ
sending e number count = implicit count e.partner e.own e.partner_sap e.local_sap number

-- What an end takes came from its partner: the destination SAP is its own, the source SAP the partner's.
abbrev pub receiving : End → ℕ → ℕ → List ℕ
receiving e number count = implicit count e.own e.partner e.local_sap e.partner_sap number

-- The same connection seen from the partner.
abbrev pub mirrored : End → End
mirrored e = record { own = e.partner; partner = e.own; partner_sap = e.local_sap; local_sap = e.partner_sap; level = e.level }
