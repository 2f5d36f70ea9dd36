-- What the writers share: what is told of a refusal, and a telegram that is put at the front of a buffer unless it is refused.
-- Assumes nothing.
use Rattle.std.specs.Prelude.{Bool, true, List, [], ◌∷◌, ℕ, ◌+◌, ◌≤◌, ◌<◌, length, Result, Ok, Err}
use Rattle.telegram.specs.Levels.{word_length}
use Rattle.telegram.specs.Layout.{longest, layout, field_bytes}
use Rattle.telegram.specs.Telegrams.{body, sealed, version_and_bus, authentication_number}
use Rattle.telegram.specs.Refusals.{refusal_number}
use Rattle.telegram.specs.Writers.{Outcome, refusal, unless, connect_allowed}
use Rattle.telegram.specs.declared.End.{End}
use Rattle.telegram.specs.declared.Written.{Written}
use Rattle.telegram.specs.declared.Kind.TheVariants.{Request, Authentication}
use Rattle.telegram.specs.declared.Refusal.{Refusal}

-- What the caller of a writer is told of a length or a refusal.
abbrev pub told : Result ℕ Refusal → Written
told (Ok n) = record { answer = 0; length = n }
told (Err e) = record { answer = refusal_number e; length = 0 }

-- Head, fixed fields, net data and check word fit the longest telegram, and the command's low bits are six.
abbrev pub Suits : End → ℕ → List ℕ → List ℕ → Type 0
Suits e low fields net = (2 + length fields + length net + word_length e.level ≤ longest) × (low < 64)

-- Onto the buffer d a telegram by its command's low six bits, the bytes of its fixed fields and its net data, or the first refusal that holds.
abbrev pub puts : End → ℕ → ℕ → Bool → List ℕ → List ℕ → List ℕ → Outcome
puts e number low allowed fields net d = unless (refusal e (length d) allowed) (sealed e number (body e.level number low fields net))

-- A connect request or confirm, and an authentication or its acknowledgement, by the command's low six bits.
abbrev pub puts_connect : End → ℕ → ℕ → ℕ → List ℕ → List ℕ → Outcome
puts_connect e low random time net d =
    puts e random low (connect_allowed time (length net) e.level) (field_bytes (layout Request) (random ∷ time ∷ version_and_bus)) net d

abbrev pub puts_number : End → ℕ → ℕ → ℕ → List ℕ → Outcome
puts_number e low number received d =
    puts e number low true (field_bytes (layout Authentication) (authentication_number e.level received ∷ [])) [] d
