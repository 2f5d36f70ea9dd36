-- Damage on the cable, put together: it is found in every telegram, and what the receiving node does with what came follows from the row of the transition table for a
-- telegram that fails the check.
-- Assumes nothing.
use mathlib.Core.Path.{◌≡◌, refl, sym, ap, subst, ◌∙◌}
use mathlib.Core.Bool.{Bool, false}
use mathlib.Core.List.{List, []}
use mathlib.Core.Logic.{◌⊎◌, inl, inr}
use Prim.Native.Nat.{ℕ}
use native.Mathlib.Omega.{arith}
use lib.ListN.{length, set}
use lib.Seq.{set-get_or}
use borrow.Author.Tests.{le-leb}
use Rattle.std.specs.Prelude.{Option}
use Rattle.ground.specs.Choice.{pick}
use Rattle.telegram.specs.Levels.{word_length}
use Rattle.telegram.specs.Commands.{kind_of_command}
use Rattle.telegram.specs.Ends.{mirrored}
use Rattle.telegram.specs.Check.{command_of, check_of, Check, Passes, Failed}
use Rattle.telegram.specs.declared.End.{End}
use Rattle.telegram.specs.declared.Kind.{Kind}
use Rattle.telegram.specs.declared.Kind.TheVariants.{Request, Confirm, Authentication, Acknowledgement, Disconnect, Idle, Data, Unknown}
use Rattle.telegram.specs.declared.Clause.{Clause}
use Rattle.telegram.specs.declared.Clause.TheVariants as clause
use Rattle.telegram.proofs.Widths.{width_is}
use Rattle.link.specs.Records.{end_of}
use Rattle.link.specs.Judged.{expected_now}
use Rattle.link.specs.declared.Record.{Record}
use Rattle.link.specs.declared.Event.{Event}
use Rattle.link.specs.declared.Event.TheVariants as event
use Rattle.node.specs.declared.Head.{Head}
use Rattle.node.specs.declared.Route.{Route}
use Rattle.node.specs.Accepted.{nowhere, record_at}
use Rattle.node.specs.Matching.{first_match}
use Rattle.node.specs.Calls.{called}
use Rattle.node.specs.Calls.Call.{Received}
use Rattle.node.specs.Plain.{data_of}
use Rattle.demands.specs.Pairs.{Done, Listens}
use Rattle.demands.specs.Effects.{Receipt, takes, Passing}
use Rattle.demands.specs.Demand2.{IsClosed}
use Rattle.demands.specs.Damage.{Connect, OtherThanConnect, Fails, DamageAnywhereIsFound, SameSort, DamagedCommandIsFound, ConnectDamageIsFound, WrittenDamageIsFound, ComesDamaged, TurnedAway, DamageCloses, DamageClosesBoth, Dropped, DamageIsDroppedWhenClosed, DamageOnTheCable}
use Rattle.demands.proofs.Carried.{carried}
use Rattle.demands.proofs.Effects.{left_by}
use Rattle.demands.proofs.Demand2.{expects, incorrect_closes}
use Rattle.demands.proofs.OneEnd.{when_closed, incorrect_closes_here}
use Rattle.demands.proofs.Demand3.{wrote_passes}
use Rattle.demands.proofs.Damage.{seen_over_the_width, still_connect, fails, other_seen, somewhere, damage_is_found, damage_is_found_at_4, damage_is_found_at_2}
use Rattle.demands.proofs.DamagedConnect.{connect_seen}

-- Every telegram is a connect request or confirm (0), or it is another (1).
abbrev sort : Kind → ℕ
sort Request = 0
sort Confirm = 0
sort Authentication = 1
sort Acknowledgement = 1
sort Disconnect = 1
sort Idle = 1
sort Data = 1
sort Unknown = 1

other : (k : Kind) → sort k ≡ 1 → (k ≡ Request) ⊎ (k ≡ Confirm) → ⊥
other k one (inl e) = omega (arith, ap sort e)
other k one (inr e) = omega (arith, ap sort e)

either : (k : Kind) → ((k ≡ Request) ⊎ (k ≡ Confirm)) ⊎ ((k ≡ Request) ⊎ (k ≡ Confirm) → ⊥)
either Request = inl (inl refl)
either Confirm = inl (inr refl)
either Authentication = inr (other Authentication refl)
either Acknowledgement = inr (other Acknowledgement refl)
either Disconnect = inr (other Disconnect refl)
either Idle = inr (other Idle refl)
either Data = inr (other Data refl)
either Unknown = inr (other Unknown refl)

pub damaged_command_is_found : DamagedCommandIsFound
unfolding end_of
damaged_command_is_found r own m n t u few sort-stays changed within = by (either (kind_of_command (command_of t)))
  where
    by : Connect t ⊎ OtherThanConnect t → check_of (end_of r own) m t ≡ Passes → check_of (end_of r own) m u ≡ Passes → ⊥
    by (inl connect) = connect_seen (end_of r own) m n t u few connect (sort-stays.0 connect) changed within
    by (inr not-connect) = other_seen (end_of r own) m n t u few not-connect (λ k. not-connect (sort-stays.1 k)) changed within

-- the command byte says which sort it is
sort_by : (t u : List ℕ) → command_of t ≡ command_of u → SameSort t u
sort_by t u command = (still_connect t u command, still_connect u t (sym command))

pub damage_anywhere_is_found : DamageAnywhereIsFound
unfolding end_of
damage_anywhere_is_found r own m n t u few changed command within p =
    fails (end_of r own) m t u changed command p (damaged_command_is_found r own m n t u few (sort_by t u command) changed within p)

pub connect_damage_is_found : ConnectDamageIsFound
unfolding end_of
connect_damage_is_found r own m n t u few connect changed command damage p =
    let place = somewhere (end_of r own) m n t u few changed damage p in
    damage_anywhere_is_found r own m place.0 t u place.1.0 changed command place.1.1 p

-- a connect request or confirm passes at any expected number
any_number_holds : (e : End) (k m : ℕ) (t : List ℕ) → Connect t → check_of e k t ≡ check_of e m t
unfolding check_of
any_number_holds e k m t (inl c) = rw c refl
any_number_holds e k m t (inr c) = rw c refl

at_expected : (e : End) (k m : ℕ) (t : List ℕ) → Connect t ⊎ (k ≡ m) → check_of e k t ≡ check_of e m t
at_expected e k m t (inl connect) = any_number_holds e k m t connect
at_expected e k m t (inr same) = rw same

pub written_damage_is_found : WrittenDamageIsFound
unfolding end_of
written_damage_is_found r own k m n t u few changed command within wrote_it number =
    damage_anywhere_is_found r own m n t u few changed command within
    (sym (at_expected (end_of r own) k m t number) ∙ wrote_passes (mirrored (end_of r own)) k t wrote_it)

-- What the receiving node does

-- a check that fails, fails at some clause, and doesn't pass
at_clause : (c : Check) → Fails c → (f : Clause) × (c ≡ Failed f)
at_clause c (inl e) = (clause.Number, e)
at_clause c (inr (inl e)) = (clause.Fields, e)
at_clause c (inr (inr e)) = (clause.Word, e)

not_passed : (c : Check) → Fails c → c ≡ Passes → ⊥
not_passed c f p = let at = at_clause c f in let e = at.1 in let z : ◌≡◌ {A = ℕ} 0 1 = cc in omega arith

comes_failing : (w : Route) (h : Head) (table : List Record) (i : ℕ) (t u : List ℕ) → ComesDamaged w h table i t u
    → Fails (check_of (end_of (record_at table i) h.own) (expected_now (record_at table i)) u)
comes_failing w h table i t u c =
    let l : ℕ = (record_at table i).level in
    damage_anywhere_is_found (record_at table i) h.own (expected_now (record_at table i)) (word_length l) t u (omega (arith, width_is l)) c.changed c.command c.within c.passes

-- a closing hands up nothing
nothing_of : (e : Event) (u : List ℕ) (reason : ℕ) (last : Bool) → e ≡ event.Closed reason last → data_of e u ≡ []
unfolding data_of pick
nothing_of e u reason last p = rw (p, le-leb 0 (length u) (omega arith)) refl

-- the receipt of what came, for the record at place i
module _ (w : Route) (random : ℕ) (idle_time : Option ℕ) (t u net : List ℕ) (h : Head) (table : List Record) (i time : ℕ) (d : List ℕ) (c : ComesDamaged w h table i t u) where
  abbrev x : Receipt
  x = record { route = w; random = random; idle_time = idle_time; telegram = u; net = net; head = h; table = table; time = time; buffer = d }

  not_passing : Passing x → ⊥
  not_passing =
      subst (λ (y : ℕ). check_of (end_of (record_at table y) h.own) (expected_now (record_at table y)) u ≡ Passes → ⊥) (sym c.place) (not_passed _ (comes_failing w h table i t u c))

  turned_away : Listens (record_at table i) time → Done (takes called x) → TurnedAway (takes called x) h table d i u
  turned_away listens done =
      let closed =
      subst (λ (y : ℕ). IsClosed (takes called x) h table d y 0x06 false []) c.place
      (incorrect_closes_here x (subst (λ (y : ℕ). Listens (record_at table y) time) (sym c.place) listens) not_passing done) in
      record { closed = closed; nothing_up = nothing_of _ u 0x06 false closed.says }

  dropped : (record_at table i).phase ≡ 1 → Done (takes called x) → Dropped (takes called x) table d
  dropped phase done =
      let g = carried (Received w random idle_time u net) h table time d done in
      let quiet =
      when_closed.drops x (subst (λ (y : ℕ). (record_at table y).phase ≡ 1) (sym c.place) phase) (λ good. not_passing good.passes) done in
      record {
        says_nothing = quiet.says;
        writes_nothing = quiet.writes;
        same_table = g.table ∙ ap (set table (first_match w table)) (sym (left_by (Received w random idle_time u net) h table time d g) ∙ quiet.leaves) ∙ set-get_or table (first_match w table) nowhere;
        same_buffer = quiet.buffer;
      }

pub damage_closes : DamageCloses
damage_closes w random idle_time t u net h table i time d c listens done = turned_away w random idle_time t u net h table i time d c listens done

pub damage_closes_both : DamageClosesBoth
damage_closes_both n i j random idle_time w t u net m link c early arrives =
    let r = record_at n.table i in
    incorrect_closes n i j random idle_time w u net m link c.place early
    (rw (expects r 5 link.open_to.open_here (omega arith)) at (not_passed _ (comes_failing w n.head n.table i t u c))) arrives

pub damage_is_dropped_when_closed : DamageIsDroppedWhenClosed
damage_is_dropped_when_closed w random idle_time t u net h table i time d c phase done = dropped w random idle_time t u net h table i time d c phase done

pub damage_on_the_cable : DamageOnTheCable
damage_on_the_cable =
    record {
      over_the_width = seen_over_the_width;
      at_each_level = damage_is_found;
      at_4 = damage_is_found_at_4;
      at_2 = damage_is_found_at_2;
      anywhere = damage_anywhere_is_found;
      command_too = damaged_command_is_found;
      connect = connect_damage_is_found;
      written = written_damage_is_found;
      closes = damage_closes;
      closes_both = damage_closes_both;
      dropped = damage_is_dropped_when_closed;
    }
