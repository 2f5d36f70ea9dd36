-- Demand 3: two different records of an accepted table have another partner, since a route that is for both would name both, and then no telegram passes both
-- checks. What the partner's end writes passes its own record's check, so it passes no other's.
-- Assumes nothing.
use mathlib.Core.Path.{◌≡◌, refl, sym, ◌∙◌}
use mathlib.Core.Bool.{true}
use mathlib.Core.List.{List}
use mathlib.Core.Logic.{◌⊎◌, inl, inr}
use Prim.Native.Nat.{ℕ}
use borrow.Author.Tests.{eq-eqb}
use Rattle.telegram.specs.Ends.{mirrored}
use Rattle.telegram.specs.Facts.{OtherPartner}
use Rattle.telegram.specs.Check.{check_of, Passes}
use Rattle.telegram.specs.declared.End.{End}
use Rattle.telegram.specs.declared.Kind.TheVariants.{Authentication, Acknowledgement}
use Rattle.telegram.proofs.Apart.{level_apart, apart_at_4, apart_at_2, connect_apart, one_number}
use Rattle.telegram.proofs.Taken.{request_taken, confirm_taken, authentication_taken, acknowledgement_taken, disconnect_taken, idle_taken, data_taken}
use Rattle.link.specs.Records.{end_of}
use Rattle.link.specs.Judged.{expected_now}
use Rattle.link.specs.declared.Record.{Record}
use Rattle.node.specs.declared.Head.{Head}
use Rattle.node.specs.declared.Route.{Route}
use Rattle.node.specs.Accepted.{record_at}
use Rattle.node.specs.Matching.{is_for, route_of}
use Rattle.node.proofs.Facts.{by_route}
use Rattle.node.specs.Calls.{Call, called}
use Rattle.node.specs.Calls.Call.{Received}
use Rattle.demands.specs.Effects.{Receipt, place_for, record_for}
use Rattle.demands.specs.OneEnd.{AnswersUs}
use Rattle.demands.specs.Demand3.{Two, end_at, NoTelegramForTwoLevels, NoTelegramForTwoAt4, NoTelegramForTwoAt2, NoConnectForTwo, Wrote, CardsExchanged, Demand3, UnderAnotherRoute, CardsExchangedAtANode}
use Rattle.demands.proofs.Passing.{passes_exactly}
use Rattle.demands.proofs.OneEnd.{opens_only_by_an_answer, data_only_from_a_good_telegram, when_closed, incorrect_closes_here}
use Rattle.demands.specs.Demand3.Wrote.{request, confirm, authentication, acknowledgement, disconnect, idle, data_telegram_holds}

is_for_holds : (r q : Record) → q.partner ≡ r.partner → q.local_sap ≡ r.local_sap → q.partner_sap ≡ r.partner_sap → is_for (route_of r) q ≡ true
is_for_holds r q p l s = rw (eq-eqb _ _ p, eq-eqb _ _ l, eq-eqb _ _ s) refl

other_partner : (h : Head) (t : List Record) (i j : ℕ) → Two h t i j → OtherPartner (end_at h t i) (end_at h t j)
unfolding end_of
other_partner h t i j two p s l =
    two.different
    (sym (by_route.only (route_of (record_at t i)) h t i two.table two.first (is_for_holds (record_at t i) (record_at t i) refl refl refl))
    ∙ by_route.only (route_of (record_at t i)) h t j two.table two.second (is_for_holds (record_at t i) (record_at t j) (sym p) (sym l) (sym s)))

-- what an end writes passes the check of the mirrored end, at the number that it was written with
pub wrote_passes : (e : End) (n : ℕ) (u : List ℕ) → Wrote e n u → check_of (mirrored e) n u ≡ Passes
wrote_passes e n u (request time net d small bytes w) = (request_taken e n time n net d u small bytes w).passes
wrote_passes e n u (confirm time net d small bytes w) = (confirm_taken e n time n net d u small bytes w).passes
wrote_passes e n u (authentication received d w) = (authentication_taken e n received d u w).passes
wrote_passes e n u (acknowledgement received d w) = (acknowledgement_taken e n received d u w).passes
wrote_passes e n u (disconnect type reason text d bytes w) = (disconnect_taken e n type reason text d u bytes w).passes
wrote_passes e n u (idle d w) = (idle_taken e n d u w).passes
wrote_passes e n u (data_telegram_holds low net d bytes w) = (data_taken e n low net d u bytes w).passes

pub no_telegram_for_two_levels : NoTelegramForTwoLevels check_of
unfolding end_of
no_telegram_for_two_levels h t i j m n u = level_apart (end_at h t i) (end_at h t j) m n u

pub no_telegram_for_two_at_4 : NoTelegramForTwoAt4 check_of
unfolding end_of
no_telegram_for_two_at_4 h t i j m n u bytes two four p q =
    apart_at_4 (end_at h t i) (end_at h t j) m n u bytes four (sym (no_telegram_for_two_levels h t i j m n u p q) ∙ four) refl (other_partner h t i j two) p q

pub no_telegram_for_two_at_2 : NoTelegramForTwoAt2 check_of
unfolding end_of
no_telegram_for_two_at_2 h t i j m n u bytes two level near p q =
    apart_at_2 (end_at h t i) (end_at h t j) m n u bytes level (sym (no_telegram_for_two_levels h t i j m n u p q) ∙ level) (other_partner h t i j two) near p q

pub no_connect_for_two : NoConnectForTwo check_of
unfolding end_of
no_connect_for_two h t i j m n u bytes two connects = connect_apart (end_at h t i) (end_at h t j) m n u bytes connects refl (other_partner h t i j two)

-- the other way round
two_back : (h : Head) (t : List Record) (i j : ℕ) → Two h t i j → Two h t j i
two_back h t i j two = record { table = two.table; first = two.second; second = two.first; different = λ e. two.different (sym e) }

pub cards_exchanged : CardsExchanged check_of
unfolding end_of
cards_exchanged h t i j m n u bytes two four w p = no_telegram_for_two_at_4 h t j i m n u bytes (two_back h t i j two) four p (wrote_passes (mirrored (end_at h t i)) n u w)

pub demand_3 : Demand3 check_of
demand_3 =
    record {
      one_level = no_telegram_for_two_levels;
      at_4 = no_telegram_for_two_at_4;
      at_2 = no_telegram_for_two_at_2;
      connect = no_connect_for_two;
      one_number = one_number;
      written_passes = wrote_passes;
      cards_exchanged = cards_exchanged;
      passes_exactly = passes_exactly;
    }

-- At a node

not_passing : (x : Receipt) (i n m : ℕ) → UnderAnotherRoute x i n → check_of (end_of (record_for x) x.head.own) m x.telegram ≡ Passes → ⊥
not_passing x i n m u = cards_exchanged x.head x.table i (place_for x) m n x.telegram u.bytes u.two u.level u.written

opens_by_none : (x : Receipt) (i n : ℕ) → UnderAnotherRoute x i n
    → AnswersUs (record_for x) x.head.own x.time x.telegram 3 1 Authentication ⊎ AnswersUs (record_for x) x.head.own x.time x.telegram 4 2 Acknowledgement → ⊥
opens_by_none x i n u (inl a) = not_passing x i n (record_for x).expected u a.passes
opens_by_none x i n u (inr a) = not_passing x i n (record_for x).expected u a.passes

pub cards_exchanged_at_a_node : CardsExchangedAtANode called
cards_exchanged_at_a_node =
    record {
      never_opens = λ x i n u e. opens_by_none x i n u (opens_only_by_an_answer (call x) x.head x.table x.time x.buffer e);
      never_data = λ x i n u e. not_passing x i n (record_for x).expected u (data_only_from_a_good_telegram (call x) x.head x.table x.time x.buffer e).passes;
      dropped = λ x i n u p done. when_closed.drops x p (λ good. not_passing x i n (expected_now (record_for x)) u good.passes) done;
      closes = λ x i n u listens done. incorrect_closes_here x listens (not_passing x i n (expected_now (record_for x)) u) done;
    }
  where
    call : Receipt → Call
    call x = Received x.route x.random x.idle_time x.telegram x.net
