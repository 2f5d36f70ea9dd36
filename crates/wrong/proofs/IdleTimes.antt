-- The numbers of the idle times leave no other rule: at each level an opening and a confirm are tried with every idle time. What such a link declares there it
-- declares as ours when its rule's time is named, and so declares that time; the demand says which it must be.
-- Assumes nothing.
use mathlib.Core.Path.{◌≡◌, refl, sym, ap, subst, ◌∙◌}
use mathlib.Core.Bool.{Bool, true, false}
use mathlib.Core.List.{List, [], ◌∷◌}
use mathlib.Core.Logic.{◌⊎◌, inl, inr}
use Prim.Native.Nat.{ℕ, ◌%◌, ◌≤◌}
use native.Mathlib.Omega.{arith}
use lib.ListN.{replicate, get_or}
use lib.Dec.{lit<, lit≤}
use Rattle.std.specs.Prelude.{Option, Some, None, unwrap_or}
use Rattle.ground.specs.Choice.{pick}
use Rattle.telegram.specs.Levels.{word_length}
use Rattle.telegram.specs.Ends.{is_level, in_range, mirrored}
use Rattle.telegram.specs.Values.{good_idle}
use Rattle.telegram.specs.Fields.{idle_time_of}
use Rattle.telegram.specs.Telegrams.{version_and_bus, request}
use Rattle.telegram.specs.Writers.{refusal, connect_allowed, writes_request}
use Rattle.telegram.specs.Facts.{Taken}
use Rattle.telegram.specs.declared.End.{End}
use Rattle.telegram.specs.declared.Kind.TheVariants as kind
use Rattle.telegram.proofs.Taken.{request_taken}
use Rattle.telegram.proofs.Apart.{passed}
use Rattle.link.specs.Records.{end_of, is_phase, is_closed, at_rest, record_in_range, fresh_of}
use Rattle.link.specs.Judged.{expected_now}
use Rattle.link.specs.Steps.{declared_by, open_refusal, open_of, open_out, received_refusal, received_of, received_out}
use Rattle.link.specs.declared.Record.{Record}
use Rattle.node.specs.declared.Head.{Head}
use Rattle.node.specs.Accepted.{record_at, record_accepted, bounds_accepted, accepted}
use Rattle.node.specs.Calls.{Left, Link, asked, called}
use Rattle.node.specs.Calls.Call.{Open, Close, Send, Received, Tick}
use Rattle.demands.specs.Effects.{Receipt, takes}
use Rattle.demands.specs.OneEnd.{GoodRequest}
use Rattle.demands.specs.IdleTimes.{Declares}
use Rattle.demands.proofs.DamagedConnect.{of_levels}
use Rattle.demands.proofs.Worked.{idle_time_answers}
use Rattle.demands.proofs.IdleTimes.{demand_2_idle_times}
use Rattle.link.proofs.Facts.{unnamed}
use Rattle.wrong.proofs.OtherTables.{good_version_holds}
use Rattle.wrong.specs.IdleTimes.{Rule, declaring, DeclaringByOurRuleIsOurs, AsThePapersSay, NoOtherRule, with500, with500_at2, number_beside, zero_is_none, unwritable, partners_time, PartnersTimeIsShutOut, WrongIdleTimesAreShutOut}

pub declaring_by_our_rule_is_ours : DeclaringByOurRuleIsOurs
unfolding called asked open_refusal open_of open_out received_refusal received_of received_out declared_by pick
declaring_by_our_rule_is_ours (Open place random i net) h t time d = refl
declaring_by_our_rule_is_ours (Close place type reason text) h t time d = refl
declaring_by_our_rule_is_ours (Send place low net) h t time d = refl
declaring_by_our_rule_is_ours (Received w random i telegram net) h t time d = refl
declaring_by_our_rule_is_ours (Tick place) h t time d = refl

-- Node 8 with one record, for node 9 at this level, which is closed; and a request of node 9.

abbrev head : Head
head = record { own = 8; latest = 0 }

abbrev table : ℕ → List Record
table l = fresh_of 9 3 4 l ∷ []

abbrev room : List ℕ
room = replicate 244 0

abbrev there : ℕ → End
there l = record { own = 9; partner = 8; partner_sap = 4; local_sap = 3; level = l }

abbrev asking : ℕ → List ℕ
asking l = request (there l) 0 0 []

abbrev comes : ℕ → Option ℕ → Receipt
comes l i =
    record {
      route = record { sender = 9; destination_sap = 4; source_sap = 3 };
      random = 0;
      idle_time = i;
      telegram = asking l;
      net = [];
      head = head;
      table = table l;
      time = 0;
      buffer = room;
    }

record Level (l : ℕ) : Type 0 where
  good : accepted head (table l) ≡ true
  taken : Taken (there l) 0 (asking l) kind.Request (0 ∷ 0 ∷ version_and_bus) []

level_4 : Level 4
unfolding accepted bounds_accepted record_accepted record_in_range is_phase is_closed at_rest fresh_of end_of writes_request refusal connect_allowed in_range good_idle word_length pick
level_4 = record { good = refl; taken = request_taken (there 4) 0 0 0 [] room (asking 4) (omega arith) tt refl }

level_2 : Level 2
unfolding accepted bounds_accepted record_accepted record_in_range is_phase is_closed at_rest fresh_of end_of writes_request refusal connect_allowed in_range good_idle word_length pick
level_2 = record { good = refl; taken = request_taken (there 2) 0 0 0 [] room (asking 2) (omega arith) tt refl }

levels : (l : ℕ) → is_level l ≡ true → Level l
levels l is = by (of_levels l is)
  where
    by : (l ≡ 4) ⊎ (l ≡ 2) → Level l
    by (inl e) = subst Level (sym e) level_4
    by (inr e) = subst Level (sym e) level_2

good_request : (l : ℕ) (i : Option ℕ) → Level l → GoodRequest (comes l i)
unfolding fresh_of end_of expected_now pick
good_request l i k = record { passes = k.taken.passes; kind = k.taken.kind; version = good_version_holds (asking l) k.taken.fields }

-- What a link declares by a time x of its own, where a telegram is to carry another: x is that time, if it is one that a telegram may carry, and else is turned
-- away too.
record Settled (x time : ℕ) : Type 0 where
  so : time ≤ 65500 → time % 100 ≡ 0 → x ≡ time
  away : good_idle time ≡ false → good_idle x ≡ false

-- The answer hangs on x alone, and where the call is done both are declared.
settled : (x time number : ℕ) → number ≡ pick (good_idle x) 0 5 → (time ≤ 65500 → time % 100 ≡ 0 → number ≡ 5 → ⊥) → (number ≡ 0 → x ≡ time) → Settled x time
unfolding pick
settled x time number is allowed done = record { so = so (good_idle x) is; away = λ bad. away (good_idle x) refl is bad }
  where
    so : (b : Bool) → number ≡ pick b 0 5 → time ≤ 65500 → time % 100 ≡ 0 → x ≡ time
    so true e most_is hundreds = done e
    so false e most_is hundreds = absurd (allowed most_is hundreds e)

    away : (b : Bool) → good_idle x ≡ b → number ≡ pick b 0 5 → good_idle time ≡ false → b ≡ false
    away true e z bad = sym e ∙ ap good_idle (done z) ∙ bad
    away false e z bad = refl

-- An opening, and a confirm, that a link makes as ours makes it when x is named.
module _ (link : Link) (x l : ℕ) (k : Level l) (i : Option ℕ) (time : ℕ) (bytes : List ℕ) (d : Declares link i time bytes) where
  asked_as : link (Open 0 0 i []) head (table l) 0 room ≡ called (Open 0 0 (Some x) []) head (table l) 0 room → Settled x time
  unfolding fresh_of
  asked_as e =
      let number : (link (Open 0 0 i []) head (table l) 0 room).outcome.answer.number ≡ (called (Open 0 0 (Some x) []) head (table l) 0 room).outcome.answer.number =
      ap (λ (y : Left). y.outcome.answer.number) e in
      settled x time (called (Open 0 0 (Some x) []) head (table l) 0 room).outcome.answer.number
      ((idle_time_answers x _ refl).by_open head (table l) 0 0 0 [] room k.good (lit≤ tt) (lit≤ tt) (lit< tt) refl (omega arith))
      (λ most_is hundreds five. let long = d.opening_allowed most_is hundreds 0 0 [] head (table l) 0 room (number ∙ five) in omega arith)
      (λ done.
      sym ((demand_2_idle_times.named x).opening 0 0 [] head (table l) 0 room done).declared ∙ sym (ap (λ (y : Left). (record_at y.table 0).declared) e)
      ∙ (d.opening 0 0 [] head (table l) 0 room (number ∙ done)).declared)

  confirmed_as : takes link (comes l i) ≡ takes called (comes l (Some x)) → Settled x time
  unfolding fresh_of pick
  confirmed_as e =
      let number : (takes link (comes l i)).outcome.answer.number ≡ (takes called (comes l (Some x))).outcome.answer.number = ap (λ (y : Left). y.outcome.answer.number) e in
      settled x time (takes called (comes l (Some x))).outcome.answer.number
      ((idle_time_answers x _ refl).by_received head (table l) 0 (comes l i).route 0 (asking l) [] room k.good (lit≤ tt) (lit≤ tt)
      (passed (mirrored (there l)) 0 (asking l) k.taken.passes).on_bus_holds (lit< tt) (λ e. omega arith) (omega arith))
      (λ most_is hundreds five. let long = d.receipt_allowed most_is hundreds (comes l i) refl (number ∙ five) in omega arith)
      (λ done.
      sym ((demand_2_idle_times.named x).confirming (comes l (Some x)) refl refl (good_request l (Some x) k) done).declared
      ∙ sym (ap (λ (y : Left). (record_at y.table 0).declared) e) ∙ (d.confirming (comes l i) refl refl (good_request l i k) (number ∙ done)).declared)

-- Where it is settled for every idle time, the rule is as the papers say.
as_the_papers_say : (rule : Rule) → ((l : ℕ) → is_level l ≡ true → Settled (rule l None) 1000)
    → ((l : ℕ) → is_level l ≡ true → (time : ℕ) → Settled (rule l (Some time)) time) → AsThePapersSay rule
as_the_papers_say rule none named =
    record {
      none = λ l level. (none l level).so (lit≤ tt) refl;
      named = λ l time level. (named l level time).so;
      turned_away = λ l time level. (named l level time).away;
    }

pub no_other_rule : NoOtherRule
unfolding fresh_of pick
no_other_rule asks confirms d = (
  as_the_papers_say asks
      (λ l level. asked_as (declaring asks confirms) (asks l None) l (levels l level) None 1000 _ d.none refl)
      (λ l level time. asked_as (declaring asks confirms) (asks l (Some time)) l (levels l level) (Some time) time _ (d.named time) refl),
  as_the_papers_say confirms
      (λ l level. confirmed_as (declaring asks confirms) (confirms l None) l (levels l level) None 1000 _ d.none refl)
      (λ l level time. confirmed_as (declaring asks confirms) (confirms l (Some time)) l (levels l level) (Some time) time _ (d.named time) refl),
)

-- The request of node 9 carries 0.
partners_time_is_shut_out : PartnersTimeIsShutOut
unfolding fresh_of pick
partners_time_is_shut_out d =
    let zero_is : idle_time_of (asking 4) ≡ 0 = ap (λ (vs : List ℕ). get_or vs 1 0) level_4.taken.fields in
    let same : idle_time_of (asking 4) ≡ 1000 = (confirmed_as partners_time (idle_time_of (asking 4)) 4 level_4 None 1000 _ d.none refl).so (lit≤ tt) refl in
    omega arith

pub wrong_idle_times_are_shut_out : WrongIdleTimesAreShutOut
unfolding good_idle declared_by pick
wrong_idle_times_are_shut_out =
    record {
      declaring_by_our_rule_is_ours = declaring_by_our_rule_is_ours;
      no_other_rule = no_other_rule;
      openings_with_500 = λ confirms d. let e : ◌≡◌ {A = ℕ} 500 1000 = (no_other_rule with500 confirms d).0.none 4 refl in omega arith;
      confirms_with_500 = λ asks d. let e : ◌≡◌ {A = ℕ} 500 1000 = (no_other_rule asks with500 d).1.none 4 refl in omega arith;
      level_2_with_500 = λ d. let e : ◌≡◌ {A = ℕ} 500 1000 = (no_other_rule with500_at2 with500_at2 d).0.none 2 refl in omega arith;
      number_beside_the_flag = λ beside other d. other ((no_other_rule (number_beside beside) (number_beside beside) d).0.none 4 refl);
      ours_reads_the_flag = record { flag_0 = unnamed.flag_0; flag_else = unnamed.flag_else };
      flag_not_read = λ d. let e : ◌≡◌ {A = ℕ} 0 1 = ap (λ (i : Option ℕ). unwrap_or i 1) (d.flag_0 0) in omega arith;
      zero_taken_for_none = λ d. let e : ◌≡◌ {A = ℕ} 1000 0 = (no_other_rule zero_is_none zero_is_none d).0.named 4 0 refl (lit≤ tt) refl in omega arith;
      refusing_where_none_is_named = λ d. let e : ◌≡◌ {A = ℕ} 65535 1000 = (no_other_rule unwritable unwritable d).0.none 4 refl in omega arith;
      partners_time_holds = partners_time_is_shut_out;
    }
