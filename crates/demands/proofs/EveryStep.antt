-- Demand 2, over every step: by induction over what is exchanged, since one step leaves the two connected, whichever of them calls.
-- Assumes nothing.
use mathlib.Core.Path.{◌≡◌, refl, sym, ap, ◌∙◌}
use mathlib.Core.Bool.{Bool, true, false}
use mathlib.Core.List.{List, [], ◌∷◌, ◌++◌}
use Prim.Native.Nat.{ℕ, ◌*◌}
use native.Mathlib.Omega.{arith}
use lib.Dec.{leb, eqb}
use borrow.Author.Tests.{eq-eqb, ne_eqb, eqb-true, eqb-false, leb-true, le-leb, le-ltb}
use Rattle.ground.specs.Choice.{pick}
use Rattle.link.specs.Times.{gap, wait_over, watch_over, idle_due}
use Rattle.link.specs.Judged.{run_out, ticked}
use Rattle.link.specs.Plain.{happened}
use Rattle.link.specs.declared.Record.{Record}
use Rattle.link.specs.declared.Event.{Event}
use Rattle.link.specs.declared.Verdict.TheVariants.{Nothing}
use Rattle.node.specs.declared.Head.{Head}
use Rattle.node.specs.declared.Outcome.{Outcome}
use Rattle.node.specs.Accepted.{record_at}
use Rattle.node.specs.Calls.{Call, place_of, refused_outcome, called}
use Rattle.node.specs.Calls.Call.{Send, Tick}
use Rattle.node.proofs.Facts.{refused_changes_nothing, others_unchanged}
use Rattle.demands.specs.Pairs.{telegram_of, Done, Nodes, Connected, Moment, sent, got, after, Made, made, InTime, Listens, Due, NothingTo}
use Rattle.demands.specs.Pairs.Listens.{set_up, open_here}
use Rattle.demands.specs.Pairs.NothingTo.{elsewhere, refused, early}
use Rattle.demands.specs.Demand2.{ComesUp, GoesOn}
use Rattle.demands.specs.EveryStep.{Way, Exchange, facing, caller, partner, alone, then_on, GoesWell, handed_by, heard, messages, Demand2OverEveryStep}
use Rattle.demands.specs.EveryStep.Way.{there, back}
use Rattle.demands.specs.EveryStep.Exchange.{message, idle, meanwhile}
use Rattle.demands.proofs.Effects.{tick_does}
use Rattle.demands.proofs.Demand2.{own_kept, in_watch, sent_comes_up, idle_is_taken}

handed_data : (w : Way) (e : Event) (x : List ℕ) (low : ℕ) (net : List ℕ) → ComesUp low net x e → handed_by w e x ≡ (w, (low, net)) ∷ []
unfolding pick
handed_data w e x low net c = let f = eq-eqb (happened e).event 2 c.data_event in rw (f, c.command, c.net_data_holds) refl

handed_none : (w : Way) (e : Event) (x : List ℕ) → (happened e).event ≡ 0 → handed_by w e x ≡ []
unfolding pick
handed_none w e x z = let f = ne_eqb (happened e).event 2 (λ y. omega arith) in rw f refl

-- seen from either end
faced : (w : Way) (n : Nodes) (i j : ℕ) → Connected n i j → Connected (facing w n) (caller w i j) (partner w i j)
faced there n i j c = c
faced back n i j c = record { towards = c.back; back = c.towards }

faced_back : (w : Way) (n : Nodes) (i j : ℕ) → Connected n (caller w i j) (partner w i j) → Connected (facing w n) i j
faced_back there n i j c = c
faced_back back n i j c = record { towards = c.back; back = c.towards }

-- after a telegram that was sent and taken
both : (n : Nodes) (i j : ℕ) (c : Call) (m : Moment) → Connected n i j → GoesOn called n i j c m → Connected (after called n i c m) i j
both n i j c m y g = record { towards = g.towards; back = g.back y.back }

-- What a call that is nothing to the connection leaves

-- a tick where neither an idle telegram is due nor the watch has run out
not_due : (r : Record) (time : ℕ) → InTime r time → (Due r time → ⊥) → idle_due r time ≡ false
unfolding idle_due pick
not_due r time ok not_yet = by (eqb r.declared 0) refl
  where
    half : (b : Bool) → (r.declared ≡ 0 → ⊥) → leb r.declared (2 * gap r.sent_at time) ≡ b → b ≡ false
    half false some f = refl
    half true some f =
        let l = leb-true r.declared (2 * gap r.sent_at time) f in absurd (not_yet (record { declares = some; half = omega arith; in_time = ok }))

    by : (b : Bool) → eqb r.declared 0 ≡ b → pick b false (leb r.declared (2 * gap r.sent_at time)) ≡ false
    by true f = refl
    by false f = half _ (eqb-false r.declared 0 f) refl

pub quiet_tick : (r : Record) (time : ℕ) → Listens r time → (r.phase ≡ 5 → Due r time → ⊥) → ticked r time ≡ Nothing
unfolding ticked run_out wait_over watch_over idle_due pick
quiet_tick r time (open_here p ok) not_yet = rw (p, in_watch r time ok, not_due r time ok (not_yet p)) refl
quiet_tick r time (set_up low high ok) not_yet =
    rw (ne_eqb r.phase 5 (λ e. omega arith), le-leb 2 r.phase low, le-leb r.phase 4 high, le-ltb 5000 (gap r.sent_at time) (omega arith)) refl

-- the own address, the record and the number of records; and no word for the layer above if the call was for it
pub record Kept (h : Head) (t : List Record) (i : ℕ) (m : Made) : Type 0 where
  pub own : (made called h t m).outcome.head.own ≡ h.own
  pub left : record_at (made called h t m).table i ≡ record_at t i
  pub silent : place_of m.call t ≡ i → (happened (made called h t m).outcome.event).event ≡ 0

unchanged : (h : Head) (t : List Record) (i : ℕ) (m : Made) → (Done (made called h t m) → ⊥) → Kept h t i m
unfolding refused_outcome
unchanged h t i m not_done =
    let s = refused_changes_nothing m.call h t m.time m.buffer not_done in
    record {
      own = ap (λ (y : Outcome). y.head.own) s.0;
      left = ap (λ (y : List Record). record_at y i) s.1.0;
      silent = λ place. ap (λ (y : Outcome). (happened y.event).event) s.0;
    }

-- whether it was done or refused
either : (h : Head) (t : List Record) (i : ℕ) (m : Made) → (Done (made called h t m) → Kept h t i m) → Kept h t i m
either h t i m done = by (eqb (made called h t m).outcome.answer.number 0) refl
  where
    by : (b : Bool) → eqb (made called h t m).outcome.answer.number 0 ≡ b → Kept h t i m
    by true f = done (eqb-true _ 0 f)
    by false f = unchanged h t i m (eqb-false _ 0 f)

pub kept : (h : Head) (t : List Record) (i : ℕ) (m : Made) → NothingTo called h t i m → Kept h t i m
kept h t i m (elsewhere other) =
    either h t i m
    (λ done. record {
      own = own_kept m.call h t m.time m.buffer done;
      left = others_unchanged.records m.call h t m.time m.buffer i (λ e. other (sym e));
      silent = λ place. absurd (other place);
    })
kept h t i m (refused not_done) = unchanged h t i m not_done
kept h t i m (early f ok not_yet) =
    either h t i m
    (λ done.
    let x = tick_does h t i m.time m.buffer Nothing (quiet_tick (record_at t i) m.time ok not_yet) (rw f at done) in
    record {
      own = own_kept m.call h t m.time m.buffer done;
      left = rw f x.leaves;
      silent = λ place. rw f (ap (λ (y : Event). (happened y).event) x.says);
    })

-- so nothing is handed up
unheard : (w : Way) (h : Head) (t : List Record) (i : ℕ) (m : Made) → Kept h t i m → pick (eqb (place_of m.call t) i) (handed_by w (made called h t m).outcome.event []) [] ≡ []
unfolding pick
unheard w h t i m k = by (eqb (place_of m.call t) i) refl
  where
    by : (b : Bool) → eqb (place_of m.call t) i ≡ b → pick b (handed_by w (made called h t m).outcome.event []) [] ≡ []
    by true f = handed_none w (made called h t m).outcome.event [] (k.silent (eqb-true _ i f))
    by false f = refl

-- so the two are connected as before
stay : (n : Nodes) (i j : ℕ) (m : Made) → Connected n i j → Kept n.head n.table i m → Connected (alone called n m) i j
stay n i j m y k =
    let count = others_unchanged.count m.call n.head n.table m.time m.buffer in
    record {
      towards = record { here = rw count y.towards.here; there = y.towards.there; open_to = rw (k.own, k.left) y.towards.open_to };
      back = record { here = y.back.here; there = rw count y.back.there; open_to = rw (k.own, k.left) y.back.open_to };
    }

-- One exchange: what it hands up before the rest, and the two are connected afterwards

record Stepped (n : Nodes) (i j : ℕ) (x : Exchange) (xs : List Exchange) : Type 0 where
  hands : heard called n i j x ++ messages xs ≡ messages (x ∷ xs)
  again : Connected (then_on called n i j x) i j

stepped : (n : Nodes) (i j : ℕ) (x : Exchange) (xs : List Exchange) → Connected n i j → GoesWell called n i j x → Stepped n i j x xs
stepped n i j (message w low net m) xs c (bytes, ok) =
    let s = sent_comes_up (facing w n) (caller w i j) (partner w i j) low net m bytes (faced w n i j c).towards ok in
    record {
      hands = ap (λ (y : List (Way × (ℕ × List ℕ))). y ++ messages xs) (handed_data w _ _ low net s.0);
      again = faced_back w _ i j (both (facing w n) (caller w i j) (partner w i j) (Send (caller w i j) low net) m (faced w n i j c) s.1);
    }
stepped n i j (idle w m) xs c (due, ok) =
    let s = idle_is_taken (facing w n) (caller w i j) (partner w i j) m (faced w n i j c).towards due ok in
    record {
      hands = ap (λ (y : List (Way × (ℕ × List ℕ))). y ++ messages xs)
          (handed_none w (got called (facing w n) (caller w i j) (Tick (caller w i j)) m).outcome.event (telegram_of (sent called (facing w n) (Tick (caller w i j)) m)) s.1.0);
      again = faced_back w _ i j (both (facing w n) (caller w i j) (partner w i j) (Tick (caller w i j)) m (faced w n i j c) s.1.1);
    }
stepped n i j (meanwhile w m) xs y z =
    let k = kept (facing w n).head (facing w n).table (caller w i j) m z in
    record {
      hands = ap (λ (y : List (Way × (ℕ × List ℕ))). y ++ messages xs) (unheard w (facing w n).head (facing w n).table (caller w i j) m k);
      again = faced_back w _ i j (stay (facing w n) (caller w i j) (partner w i j) m (faced w n i j y) k);
    }

pub demand_2_over_every_step : Demand2OverEveryStep called
demand_2_over_every_step n i j [] c g = (refl, c)
demand_2_over_every_step n i j (x ∷ xs) c g =
    let s = stepped n i j x xs c g.0 in let rest = demand_2_over_every_step (then_on called n i j x) i j xs s.again g.1 in
    (ap (λ (y : List (Way × (ℕ × List ℕ))). heard called n i j x ++ y) rest.0 ∙ s.hands, (c, rest.1))
