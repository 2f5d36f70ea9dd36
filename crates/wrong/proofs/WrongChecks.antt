-- Demand 3 determines what passes, so a check that passes one telegram that ours doesn't, or the other way round, does not meet it. Each telegram is computed: from
-- node 9 to node 8, between SAP 3 and SAP 3 at level 2, under the number 0, with the check word that its bytes have.
-- Assumes nothing.
use mathlib.Core.Path.{◌≡◌, refl, ap}
use mathlib.Core.List.{List, [], ◌∷◌}
use Prim.Native.Nat.{ℕ, zero, suc}
use native.Mathlib.Omega.{arith}
use lib.Dec.{lit<}
use Rattle.checkword.specs.Bytes.{Bytes}
use Rattle.checkword.specs.Generators.{generator32}
use Rattle.checkword.specs.Word.{shift, feed}
use Rattle.ground.specs.Choice.{pick}
use Rattle.telegram.specs.Levels.{level_of, width, word_length, generator}
use Rattle.telegram.specs.Commands.{kind_of, is_data}
use Rattle.telegram.specs.Values.{good_idle, good_type, good_dual_bus}
use Rattle.telegram.specs.Ends.{in_range, implicit}
use Rattle.telegram.specs.Telegrams.{check_word}
use Rattle.telegram.specs.Check.{check_of, word_agrees, answer_number, Passes}
use Rattle.telegram.specs.declared.End.{End}
use Rattle.demands.specs.Demand3.{Checking, Demand3}
use Rattle.demands.proofs.Determined.{demand_3_determines_what_passes}
use Rattle.wrong.specs.WrongChecks.{without, OurClausesAreOurs, AClauseLeftOutIsShutOut, Byte1OfAConnectNotComparedIsShutOut, ABackDoorIsShutOut, PassingOnlyOurVersionIsShutOut, WrongChecksAreShutOut}

pub our_clauses_are_ours : OurClausesAreOurs
unfolding check_of
our_clauses_are_ours e n t = refl

-- What passes where ours does not.
passes_more : (check : Checking) (e : End) (n : ℕ) (t : List ℕ) → Bytes t → Demand3 check → check e n t ≡ Passes → (answer_number (check_of e n t) ≡ 0 → ⊥) → ⊥
passes_more check e n t bytes d p fails = fails (ap answer_number ((demand_3_determines_what_passes check d e n t bytes).0 p))

abbrev end8 : End
end8 = record { own = 8; partner = 9; partner_sap = 3; local_sap = 3; level = 2 }

pub a_clause_left_out_is_shut_out : AClauseLeftOutIsShutOut
unfolding check_of word_agrees check_word implicit width word_length generator generator32 shift feed in_range level_of kind_of is_data good_type pick
-- command C6h: the level's bits are those of SL 0
a_clause_left_out_is_shut_out zero h d =
    passes_more (without 0) end8 0 (0x00 ∷ 0xC6 ∷ 0x89 ∷ 0x30 ∷ 0xC8 ∷ 0xC7 ∷ []) (lit< tt, (lit< tt, (lit< tt, (lit< tt, (lit< tt, (lit< tt, tt)))))) d refl (λ e. omega arith)
-- command 01h, which no telegram has
a_clause_left_out_is_shut_out (suc zero) h d =
    passes_more (without 1) end8 0 (0x00 ∷ 0x01 ∷ 0x35 ∷ 0x44 ∷ 0x4E ∷ 0x99 ∷ []) (lit< tt, (lit< tt, (lit< tt, (lit< tt, (lit< tt, (lit< tt, tt)))))) d refl (λ e. omega arith)
-- an idle telegram with a net byte
a_clause_left_out_is_shut_out (suc (suc zero)) h d =
    passes_more (without 2) end8 0 (0x00 ∷ 0x06 ∷ 0x00 ∷ 0xC9 ∷ 0xD3 ∷ 0x24 ∷ 0x43 ∷ []) (lit< tt, (lit< tt, (lit< tt, (lit< tt, (lit< tt, (lit< tt, (lit< tt, tt))))))) d refl (λ e. omega arith)
-- byte 1 is another number's
a_clause_left_out_is_shut_out (suc (suc (suc zero))) h d =
    passes_more (without 3) end8 0 (0x01 ∷ 0x06 ∷ 0x4C ∷ 0xA4 ∷ 0xCE ∷ 0xB0 ∷ []) (lit< tt, (lit< tt, (lit< tt, (lit< tt, (lit< tt, (lit< tt, tt)))))) d refl (λ e. omega arith)
-- a disconnect that says 2 where 0 or 1 says whether a new set-up is desired
a_clause_left_out_is_shut_out (suc (suc (suc (suc zero)))) h d =
    passes_more (without 4) end8 0 (0x00 ∷ 0x05 ∷ 0x02 ∷ 0x00 ∷ 0x12 ∷ 0x5B ∷ 0xEC ∷ 0x3D ∷ []) (lit< tt, (lit< tt, (lit< tt, (lit< tt, (lit< tt, (lit< tt, (lit< tt, (lit< tt, tt)))))))) d refl
    (λ e. omega arith)
-- an idle telegram with another word
a_clause_left_out_is_shut_out (suc (suc (suc (suc (suc zero))))) h d =
    passes_more (without 5) end8 0 (0x00 ∷ 0x06 ∷ 0x00 ∷ 0x00 ∷ 0x00 ∷ 0x00 ∷ []) (lit< tt, (lit< tt, (lit< tt, (lit< tt, (lit< tt, (lit< tt, tt)))))) d refl (λ e. omega arith)
a_clause_left_out_is_shut_out (suc (suc (suc (suc (suc (suc i)))))) h d = absurd (omega arith)

-- A request whose byte 1 is 1 and whose random number is 0.
pub byte_1_of_a_connect_not_compared_is_shut_out : Byte1OfAConnectNotComparedIsShutOut
unfolding check_of word_agrees check_word implicit width word_length generator generator32 shift feed in_range level_of kind_of is_data good_idle good_dual_bus pick
byte_1_of_a_connect_not_compared_is_shut_out d =
    passes_more _ end8 0 (0x01 ∷ 0x00 ∷ 0x00 ∷ 0x00 ∷ 0x00 ∷ 0x00 ∷ 0x00 ∷ 0x00 ∷ 0x03 ∷ 0x00 ∷ 0x00 ∷ 0x00 ∷ 0x3F ∷ 0x27 ∷ 0xE9 ∷ 0x3A ∷ [])
    (lit< tt, (lit< tt, (lit< tt, (lit< tt, (lit< tt, (lit< tt, (lit< tt, (lit< tt, (lit< tt, (lit< tt, (lit< tt, (lit< tt, (lit< tt, (lit< tt, (lit< tt, (lit< tt, tt))))))))))))))))
    d refl (λ e. omega arith)

pub a_back_door_is_shut_out : ABackDoorIsShutOut
unfolding pick
a_back_door_is_shut_out door e n t bytes opens shut d = shut ((demand_3_determines_what_passes _ d e n t bytes).0 (rw opens refl))

-- A request of version 2.0.0.
pub passing_only_our_version_is_shut_out : PassingOnlyOurVersionIsShutOut
unfolding check_of word_agrees check_word implicit width word_length generator generator32 shift feed in_range level_of kind_of is_data good_idle good_dual_bus pick
passing_only_our_version_is_shut_out d =
    let z : ◌≡◌ {A = ℕ} 100 0 =
    ap answer_number
    ((demand_3_determines_what_passes _ d end8 0
    (0x00 ∷ 0x00 ∷ 0x00 ∷ 0x00 ∷ 0x00 ∷ 0x00 ∷ 0x00 ∷ 0x00 ∷ 0x02 ∷ 0x00 ∷ 0x00 ∷ 0x00 ∷ 0x9E ∷ 0x6E ∷ 0x57 ∷ 0x87 ∷ [])
    (lit< tt, (lit< tt, (lit< tt, (lit< tt, (lit< tt, (lit< tt, (lit< tt, (lit< tt, (lit< tt, (lit< tt, (lit< tt, (lit< tt, (lit< tt, (lit< tt, (lit< tt, (lit< tt, tt))))))))))))))))).1 refl) in
    omega arith

pub wrong_checks_are_shut_out : WrongChecksAreShutOut
wrong_checks_are_shut_out =
    record {
      our_clauses_are_ours = our_clauses_are_ours;
      a_clause_left_out = a_clause_left_out_is_shut_out;
      byte_1_of_a_connect_not_compared = byte_1_of_a_connect_not_compared_is_shut_out;
      a_back_door = a_back_door_is_shut_out;
      passing_only_our_version = passing_only_our_version_is_shut_out;
    }
