-- The check of a received telegram: the clauses of the scope in their order, and the first of them that fails.
-- Assumes nothing.
use Rattle.std.specs.Prelude.{Bool, false, List, [], ◌∷◌, ℕ, ◌-◌, ◌%◌, length, take, drop, get_or, eqb, Option, Some, None, Result, Ok, Err}
use Rattle.checkword.specs.Bytes.{number}
use Rattle.ground.specs.Choice.{pick}
use Rattle.telegram.specs.Levels.{level_of, word_length}
use Rattle.telegram.specs.Commands.{kind_of_command, known}
use Rattle.telegram.specs.Layout.{on_bus, suits, values}
use Rattle.telegram.specs.Ends.{in_range, receiving}
use Rattle.telegram.specs.Values.{good_fields}
use Rattle.telegram.specs.Telegrams.{check_word}
use Rattle.telegram.specs.declared.End.{End}
use Rattle.telegram.specs.declared.Kind.{Kind}
use Rattle.telegram.specs.declared.Kind.TheVariants.{Request, Confirm, Authentication, Acknowledgement, Disconnect, Idle, Data, Unknown}
use Rattle.telegram.specs.declared.Clause.{Clause}
use Rattle.telegram.specs.declared.Clause.TheVariants as clause
use Rattle.telegram.specs.declared.Unfit.{Unfit}
use Rattle.telegram.specs.declared.Unfit.TheVariants as unfit

-- What the check found: the telegram passes, or why it does not.
abbrev pub Check : Type 0
Check = Result (Unit {0}) Unfit

abbrev pub Passes : Check
Passes = Ok tt

-- The first clause that fails.
abbrev pub Failed : Clause → Check
Failed c = Err (unfit.Failed c)

-- What is not looked at, by the number of the refusal: an end out of range, or bytes that the bus can't carry as a telegram of ours.
abbrev pub Refused : ℕ → Check
Refused n = Err (unfit.Refused n)

-- The command, byte 2.
abbrev pub command_of : List ℕ → ℕ
command_of t = get_or t 1 0

-- A level that is the end's.
abbrev pub same_level : Option ℕ → ℕ → Bool
same_level (Some m) l = eqb m l
same_level None l = false

-- The number used: the expected one, or the telegram's own random number for connect request and confirm (5.2.1.3, bytes 3..6). vs are the values of the
-- fixed fields.
abbrev pub number_used : Kind → ℕ → List ℕ → ℕ
number_used Request expected vs = get_or vs 0 0
number_used Confirm expected vs = get_or vs 0 0
number_used Authentication expected vs = expected
number_used Acknowledgement expected vs = expected
number_used Disconnect expected vs = expected
number_used Idle expected vs = expected
number_used Data expected vs = expected
number_used Unknown expected vs = expected

abbrev pub used_for : ℕ → List ℕ → ℕ
used_for expected t = number_used (kind_of_command (command_of t)) expected (values (kind_of_command (command_of t)) t)

-- How many bytes stand before the check word.
abbrev pub covered : ℕ → List ℕ → ℕ
covered l t = length t - word_length l

-- The check word that came is the one worked out from the implicit bytes and the telegram's (10.2.1.3). The implicit bytes are the end's and the number's;
-- of the frame only the length counts.
unfoldable pub word_agrees : End → ℕ → List ℕ → Bool
word_agrees e used t =
    eqb (number (drop (covered e.level t) t)) (check_word e.level (receiving e used (length t)) (take (covered e.level t) t))

-- The six clauses.
abbrev pub clauses : End → ℕ → List ℕ → List (Bool × Clause)
clauses e expected t =
    (same_level (level_of (command_of t)) e.level, clause.Level)
    ∷ (known (kind_of_command (command_of t)), clause.Command)
    ∷ (suits (kind_of_command (command_of t)) e.level (length t), clause.Length)
    ∷ (eqb (get_or t 0 0) (used_for expected t % 256), clause.Number)
    ∷ (good_fields (kind_of_command (command_of t)) (values (kind_of_command (command_of t)) t), clause.Fields)
    ∷ (word_agrees e (used_for expected t) t, clause.Word)
    ∷ []

abbrev pub first_failing : List (Bool × Clause) → Check
first_failing [] = Passes
first_failing (c ∷ cs) = pick c.0 (first_failing cs) (Failed c.1)

-- The check: refused with 1 or 6, or the first clause that fails, or passed.
unfoldable pub check_of : End → ℕ → List ℕ → Check
check_of e expected t = pick (in_range e) (pick (on_bus (length t)) (first_failing (clauses e expected t)) (Refused 6)) (Refused 1)

-- The number that says what the check found: 0 passes, 1 and 6 refused, 100 failed.
abbrev pub answer_number : Check → ℕ
answer_number (Ok u) = 0
answer_number (Err (unfit.Failed c)) = 100
answer_number (Err (unfit.Refused n)) = n
