-- Links that declare another idle time than ours, and of each the statement that the numbers of demand 2 shut it out. `Demand2IdleTimes` does not name
-- `declared_by`: a fault in that definition and in the code alike is such a link, and is shut out too. A link is given a time that is named or none; a fault in
-- how the flag of a call from C is read is shut out by what that reading has to meet, `ReadsTheFlag`. proofs/IdleTimes.antt proves them as
-- `wrong_idle_times_are_shut_out`.
-- Assumes nothing.
use Rattle.std.specs.Prelude.{◌≡◌, true, false, List, ℕ, ◌%◌, ◌≤◌, eqb, ◌≢◌, Option, Some, None, unwrap_or}
use Rattle.ground.specs.Choice.{pick}
use Rattle.telegram.specs.Ends.{is_level}
use Rattle.telegram.specs.Values.{good_idle}
use Rattle.telegram.specs.Fields.{idle_time_of}
use Rattle.link.specs.Plain.{idle_time_by}
use Rattle.link.specs.Steps.{declared_by}
use Rattle.link.specs.declared.Record.{Record}
use Rattle.node.specs.declared.Head.{Head}
use Rattle.node.specs.Accepted.{record_at}
use Rattle.node.specs.Matching.{first_match}
use Rattle.node.specs.Calls.{Call, Link, called}
use Rattle.node.specs.Calls.Call.{Open, Close, Send, Received, Tick}
use Rattle.demands.specs.IdleTimes.{Demand2IdleTimes}

-- What is declared, by the level of the record and what the call names.
abbrev pub Rule : Type 0
Rule = ℕ → Option ℕ → ℕ

-- As ours, but an opening and a confirm declare by these rules: each goes on as if the caller had named what its rule says.
abbrev pub declaring : Rule → Rule → Link
declaring asks confirms (Open place random i net) h t time d = called (Open place random (Some (asks (record_at t place).level i)) net) h t time d
declaring asks confirms (Received w random i telegram net) h t time d =
    called (Received w random (Some (confirms (record_at t (first_match w t)).level i)) telegram net) h t time d
declaring asks confirms (Close place type reason text) h t time d = called (Close place type reason text) h t time d
declaring asks confirms (Send place low net) h t time d = called (Send place low net) h t time d
declaring asks confirms (Tick place) h t time d = called (Tick place) h t time d

-- Our rule.
abbrev pub ours : Rule
ours l i = declared_by i

abbrev pub DeclaringByOurRuleIsOurs : Type 0
DeclaringByOurRuleIsOurs = (c : Call) (h : Head) (t : List Record) (time : ℕ) (d : List ℕ) → declaring ours ours c h t time d ≡ called c h t time d

-- A rule that declares, at both levels, 1,000 where none is named, and the time that is, where a telegram may carry it (5.2.1.3).
pub record AsThePapersSay (rule : Rule) : Type 0 where
  pub none : (l : ℕ) → is_level l ≡ true → rule l None ≡ 1000
  pub named : (l time : ℕ) → is_level l ≡ true → time ≤ 65500 → time % 100 ≡ 0 → rule l (Some time) ≡ time
  -- what answer 5 turns away is not made into something that it lets through
  pub turned_away : (l time : ℕ) → is_level l ≡ true → good_idle time ≡ false → good_idle (rule l (Some time)) ≡ false

-- No link of these meets the numbers by another rule, for its openings or for its confirms.
abbrev pub NoOtherRule : Type 0
NoOtherRule = (asks confirms : Rule) → Demand2IdleTimes (declaring asks confirms) → AsThePapersSay asks × AsThePapersSay confirms

-- 500 where none is named: by openings, whatever confirms declare, or by confirms, whatever openings do.
abbrev pub with500 : Rule
with500 l i = unwrap_or i 500

abbrev pub OpeningsWith500AreShutOut : Type 0
OpeningsWith500AreShutOut = (confirms : Rule) → Demand2IdleTimes (declaring with500 confirms) → ⊥

abbrev pub ConfirmsWith500AreShutOut : Type 0
ConfirmsWith500AreShutOut = (asks : Rule) → Demand2IdleTimes (declaring asks with500) → ⊥

-- So at level 2 alone.
abbrev pub with500_at2 : Rule
with500_at2 l i = pick (eqb l 2) (with500 l i) (declared_by i)

abbrev pub Level2With500IsShutOut : Type 0
Level2With500IsShutOut = Demand2IdleTimes (declaring with500_at2 with500_at2) → ⊥

-- Where none is named, a number of its own is declared, whichever it is but 1,000.
abbrev pub number_beside : ℕ → Rule
number_beside beside l i = unwrap_or i beside

abbrev pub NumberBesideTheFlagIsShutOut : Type 0
NumberBesideTheFlagIsShutOut = (beside : ℕ) → (beside ≢ 1000) → Demand2IdleTimes (declaring (number_beside beside) (number_beside beside)) → ⊥

-- The flag and the number beside it in a call from C, read as an idle time that is named or not.
pub record ReadsTheFlag (read : ℕ → ℕ → Option ℕ) : Type 0 where
  pub flag_0 : (beside : ℕ) → read 0 beside ≡ None
  pub flag_else : (flag time : ℕ) → (flag ≢ 0) → read flag time ≡ Some time

abbrev pub OursReadsTheFlag : Type 0
OursReadsTheFlag = ReadsTheFlag idle_time_by

-- The flag is not looked at: the number beside it is named.
abbrev pub number_read : ℕ → ℕ → Option ℕ
number_read flag beside = Some beside

abbrev pub FlagNotReadIsShutOut : Type 0
FlagNotReadIsShutOut = ReadsTheFlag number_read → ⊥

-- 0 that is named is taken for none named.
abbrev pub zero_is_none : Rule
zero_is_none l i = pick (eqb (declared_by i) 0) 1000 (declared_by i)

abbrev pub ZeroTakenForNoneIsShutOut : Type 0
ZeroTakenForNoneIsShutOut = Demand2IdleTimes (declaring zero_is_none zero_is_none) → ⊥

-- 65,535 where none is named, which no telegram may carry: every such call is refused.
abbrev pub unwritable : Rule
unwritable l i = unwrap_or i 65535

abbrev pub RefusingWhereNoneIsNamedIsShutOut : Type 0
RefusingWhereNoneIsNamedIsShutOut = Demand2IdleTimes (declaring unwritable unwritable) → ⊥

-- A confirm that names no time declares the partner's, which the request brought.
abbrev pub partners_time : Link
partners_time (Received w random i telegram net) h t time d =
    called (Received w random (Some (unwrap_or i (idle_time_of telegram))) telegram net) h t time d
partners_time (Open place random i net) h t time d = called (Open place random i net) h t time d
partners_time (Close place type reason text) h t time d = called (Close place type reason text) h t time d
partners_time (Send place low net) h t time d = called (Send place low net) h t time d
partners_time (Tick place) h t time d = called (Tick place) h t time d

abbrev pub PartnersTimeIsShutOut : Type 0
PartnersTimeIsShutOut = Demand2IdleTimes partners_time → ⊥

-- All of them; and ours is among the links that most are taken from.
pub record WrongIdleTimesAreShutOut : Type 0 where
  pub declaring_by_our_rule_is_ours : DeclaringByOurRuleIsOurs
  pub no_other_rule : NoOtherRule
  pub openings_with_500 : OpeningsWith500AreShutOut
  pub confirms_with_500 : ConfirmsWith500AreShutOut
  pub level_2_with_500 : Level2With500IsShutOut
  pub number_beside_the_flag : NumberBesideTheFlagIsShutOut
  pub ours_reads_the_flag : OursReadsTheFlag
  pub flag_not_read : FlagNotReadIsShutOut
  pub zero_taken_for_none : ZeroTakenForNoneIsShutOut
  pub refusing_where_none_is_named : RefusingWhereNoneIsNamedIsShutOut
  pub partners_time_holds : PartnersTimeIsShutOut
