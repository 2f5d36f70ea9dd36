-- Wrong checks that pass more or less than the telegrams that there are, and of each the statement that demand 3 shuts it out. proofs/WrongChecks.antt proves each
-- statement by one telegram, under the same name in snake case.
-- Assumes nothing.
use Rattle.std.specs.Prelude.{◌≡◌, Bool, true, List, ◌∷◌, ◌++◌, ℕ, suc, ◌%◌, ◌<◌, length, take, drop, get_or, leb, eqb}
use Rattle.checkword.specs.Bytes.{Bytes}
use Rattle.ground.specs.Choice.{pick}
use Rattle.telegram.specs.Layout.{on_bus}
use Rattle.telegram.specs.Ends.{in_range}
use Rattle.telegram.specs.Fields.{low_of, version_x_of}
use Rattle.telegram.specs.Check.{used_for, clauses, first_failing, check_of, Passes, Failed, Refused}
use Rattle.telegram.specs.declared.End.{End}
use Rattle.telegram.specs.declared.Clause.{Clause}
use Rattle.telegram.specs.declared.Clause.TheVariants as clause
use Rattle.demands.specs.Demand3.{Checking, Demand3}

-- Our check, but the clauses are given; with `clauses` it is ours.
abbrev pub clauses_by : (End → ℕ → List ℕ → List (Bool × Clause)) → Checking
clauses_by cs e expected t = pick (in_range e) (pick (on_bus (length t)) (first_failing (cs e expected t)) (Refused 6)) (Refused 1)

abbrev pub OurClausesAreOurs : Type 0
OurClausesAreOurs = (e : End) (n : ℕ) (t : List ℕ) → clauses_by clauses e n t ≡ check_of e n t

-- One of the six clauses is left out: level, command, length, number, fields or word.
abbrev pub without : ℕ → Checking
without i = clauses_by (λ e expected t. take i (clauses e expected t) ++ drop (suc i) (clauses e expected t))

abbrev pub AClauseLeftOutIsShutOut : Type 0
AClauseLeftOutIsShutOut = (i : ℕ) → i < 6 → Demand3 (without i) → ⊥

-- Byte 1 of a connect request or confirm is not compared.
abbrev pub connect_byte1_free : Checking
connect_byte1_free =
    clauses_by
    (λ e expected t.
    take 3 (clauses e expected t)
    ++ (pick (leb (low_of t) 0x02) true (eqb (get_or t 0 0) (used_for expected t % 256)), clause.Number) ∷ drop 4 (clauses e expected t))

abbrev pub Byte1OfAConnectNotComparedIsShutOut : Type 0
Byte1OfAConnectNotComparedIsShutOut = Demand3 connect_byte1_free → ⊥

-- A back door, for whatever end, number and telegram it opens: one that opens where ours doesn't pass.
abbrev pub with_door : (End → ℕ → List ℕ → Bool) → Checking
with_door door e n t = pick (door e n t) Passes (check_of e n t)

abbrev pub ABackDoorIsShutOut : Type 0
ABackDoorIsShutOut =
    (door : End → ℕ → List ℕ → Bool) (e : End) (n : ℕ) (t : List ℕ) → Bytes t → door e n t ≡ true → (check_of e n t ≡ Passes → ⊥) → Demand3 (with_door door) → ⊥

-- Too strict: a connect request or confirm passes only with our X, though the check leaves the version to the link.
abbrev pub only_our_version : Checking
only_our_version e n t = pick (leb (low_of t) 0x02) (pick (eqb (version_x_of t) 3) (check_of e n t) (Failed clause.Fields)) (check_of e n t)

abbrev pub PassingOnlyOurVersionIsShutOut : Type 0
PassingOnlyOurVersionIsShutOut = Demand3 only_our_version → ⊥

-- All of them; and the family from which most are taken has ours among it.
pub record WrongChecksAreShutOut : Type 0 where
  pub our_clauses_are_ours : OurClausesAreOurs
  pub a_clause_left_out : AClauseLeftOutIsShutOut
  pub byte_1_of_a_connect_not_compared : Byte1OfAConnectNotComparedIsShutOut
  pub a_back_door : ABackDoorIsShutOut
  pub passing_only_our_version : PassingOnlyOurVersionIsShutOut
