-- The facts of the calls, as specs/Facts.antt states them: a call is refused by the table or does what its step does, and a step keeps its connection.
-- Assumes nothing.
use mathlib.Core.Path.{◌≡◌, refl, sym, ap, ◌∙◌}
use mathlib.Core.Bool.{Bool, true, false, not, ◌&&◌}
use mathlib.Core.List.{List, [], ◌∷◌}
use Prim.Native.Nat.{ℕ, zero, suc, ◌+◌, ◌<◌, ◌≤◌}
use native.Mathlib.Nat.{not-suc-le-zero, le_of_suc-le-suc}
use native.Mathlib.Omega.{arith}
use lib.ListN.{length, set, length-set}
use lib.Seq.{get_or-set_other}
use lib.Dec.{T, leb, eqb}
use borrow.Author.Tests.{leb-true, le-leb, eqb-true, eqb-false, ne_eqb, eq-eqb}
use Rattle.std.specs.Prelude.{Option}
use Rattle.ground.specs.Choice.{pick, all, yes}
use Rattle.telegram.specs.NetData.{net_part, net_data}
use Rattle.telegram.specs.declared.Written.{Written}
use Rattle.telegram.proofs.Refusals.{both_true, both_are}
use Rattle.telegram.proofs.Inside.{inside_by}
use Rattle.link.specs.Records.{record_in_range}
use Rattle.link.specs.Judged.{judged}
use Rattle.link.specs.Steps.{received_refusal, received_of, declared_by, act_of, quietly, writing_step, refused_step}
use Rattle.link.specs.Plain.{happened}
use Rattle.link.specs.Facts.{Same, Timers}
use Rattle.link.proofs.Facts.{same_connection}
use Rattle.link.proofs.Accepted as accepting
use Rattle.link.proofs.Answers.{answers}
use Rattle.link.proofs.Timers.{timers_kept}
use Rattle.link.specs.declared.Record.{Record}
use Rattle.link.specs.declared.Step.{Step}
use Rattle.link.specs.declared.Event.{Event}
use Rattle.link.specs.declared.Event.TheVariants as event
use Rattle.link.specs.declared.Verdict.{Verdict}
use Rattle.link.specs.declared.Verdict.TheVariants.{Nothing, Confirm, Authenticate, Acknowledge, Open as Opens, Data, Idle, SendIdle, Disconnected, Close as Closes}
use Rattle.node.specs.declared.Head.{Head}
use Rattle.node.specs.declared.Route.{Route}
use Rattle.node.specs.Heads.{at}
use Rattle.node.specs.Accepted.{nowhere, record_at, bounds_accepted, record_accepted, all_accepted, alike, has_like, has_pair, accepted}
use Rattle.node.specs.Matching.{is_for, first_match}
use Rattle.node.specs.Refusals.{order, first, before}
use Rattle.node.specs.Calls.{Call, place_of, carried_by, asked, step_of, refused_outcome, settled, called}
use Rattle.node.specs.Calls.Call.{Open, Close, Send, Received, Tick}
use Rattle.node.specs.Plain.{data_of}
use Rattle.node.specs.Facts.{FirstAnswered, RefusedChangesNothing, DoneSetsTheTime, OthersUnchanged, PartnersStay, StaysAccepted, ByRoute, NetDataHandedOn}
use Rattle.node.proofs.Order.{refusal_of, refused_by_table, refused_answered, left_by_step, answered_by, fine_by, accepted_at, table_of, placed}

-- What a step keeps

step_number : (c : Call) (r : Record) (own time : ℕ) (d : List ℕ) → (step_of c r own time d).answer.number ≡ refusal_of c r own d
step_number (Open place random i net) r own time d = answers.by_open r own time random i net d
step_number (Close place type reason text) r own time d = answers.by_close r own type reason text d
step_number (Send place low net) r own time d = answers.by_send r own time low net d
step_number (Received w random i telegram net) r own time d = answers.by_received r own time random i telegram net d
step_number (Tick place) r own time d = answers.by_tick r own time d

step_same : (c : Call) (r : Record) (own time : ℕ) (d : List ℕ) → Same r (step_of c r own time d).«record»
step_same (Open place random i net) r own time d = same_connection.by_open r own time random i net d
step_same (Close place type reason text) r own time d = same_connection.by_close r own type reason text d
step_same (Send place low net) r own time d = same_connection.by_send r own time low net d
step_same (Received w random i telegram net) r own time d = same_connection.by_received r own time random i telegram net d
step_same (Tick place) r own time d = same_connection.by_tick r own time d

step_in_range : (c : Call) (r : Record) (own time : ℕ) (d : List ℕ) → record_in_range r own ≡ true → record_in_range (step_of c r own time d).«record» own ≡ true
step_in_range (Open place random i net) r own time d h = (accepting.stays_accepted).by_open r own time random i net d h
step_in_range (Close place type reason text) r own time d h = (accepting.stays_accepted).by_close r own type reason text d h
step_in_range (Send place low net) r own time d h = (accepting.stays_accepted).by_send r own time low net d h
step_in_range (Received w random i telegram net) r own time d h = (accepting.stays_accepted).by_received r own time random i telegram net d h
step_in_range (Tick place) r own time d h = (accepting.stays_accepted).by_tick r own time d h

step_timed : (c : Call) (r : Record) (own time : ℕ) (d : List ℕ) → Timers time r → Timers time (step_of c r own time d).«record»
step_timed (Open place random i net) r own time d h = timers_kept.by_open r own time random i net d h
step_timed (Close place type reason text) r own time d h = timers_kept.by_close r own time type reason text d h
step_timed (Send place low net) r own time d h = timers_kept.by_send r own time low net d h
step_timed (Received w random i telegram net) r own time d h = timers_kept.by_received r own time random i telegram net d h
step_timed (Tick place) r own time d h = timers_kept.by_tick r own time d h

settled_number : (s : Step) (h : Head) (time : ℕ) → (settled s h time).answer.number ≡ s.answer.number
unfolding settled refused_outcome pick
settled_number s h time = by (eqb s.answer.number 0)
  where
    by : (b : Bool) → (pick b (record { head = at h time; answer = s.answer; event = s.event }) (refused_outcome s.answer.number h)).answer.number ≡ s.answer.number
    by true = refl
    by false = refl

-- A call by cases: refused by the table, or what its step leaves

module _ (c : Call) (h : Head) (t : List Record) (time : ℕ) (d : List ℕ) where
  abbrev n : ℕ
  n = before h t time (length d) (carried_by c) (place_of c t)

  abbrev k : ℕ
  k = first (order (asked c h t time d))

  abbrev r : Record
  r = record_at t (place_of c t)

  abbrev s : Step
  s = step_of c r h.own time d

  answered : (called c h t time d).outcome.answer.number ≡ k
  unfolding refused_outcome
  answered = by (eqb n 0) refl
    where
      by : (b : Bool) → eqb n 0 ≡ b → (called c h t time d).outcome.answer.number ≡ k
      by false e =
          let z : T (not (eqb n 0)) = rw e tt in
          ap (λ u. u.answer.number) (sym (refused_by_table c h t time d z).0) ∙ sym (refused_answered c h t time d z)
      by true e =
          let z : T (eqb n 0) = rw e tt in
          ap (λ u. u.answer.number) (sym (left_by_step c h t time d z).0) ∙ settled_number s h time ∙ step_number c r h.own time d ∙ sym (answered_by c h t time d z)

  refused_left : (k ≡ 0 → ⊥) → ((called c h t time d).outcome ≡ refused_outcome k h) × (((called c h t time d).table ≡ t) × ((called c h t time d).out ≡ d))
  unfolding called pick
  refused_left ne = let f = ne_eqb k 0 ne in rw f (refl, (refl, refl))

  -- where nothing is refused, the table has nothing against it
  table_fine : k ≡ 0 → T (eqb n 0)
  table_fine e = by (eqb n 0) refl
    where
      by : (b : Bool) → eqb n 0 ≡ b → T (eqb n 0)
      by true f = rw f tt
      by false f = absurd (eqb-false n 0 f (sym (refused_answered c h t time d (rw f tt)) ∙ e))

  done_left : k ≡ 0 → ((called c h t time d).outcome ≡ settled s h time) × ((called c h t time d).table ≡ set t (place_of c t) s.«record»)
  unfolding called pick
  done_left e = let f = eq-eqb k 0 e in rw f (refl, refl)

  done_head : k ≡ 0 → (called c h t time d).outcome.head ≡ at h time
  unfolding settled pick
  done_head e =
      let m : s.answer.number ≡ 0 = step_number c r h.own time d ∙ sym (answered_by c h t time d (table_fine e)) ∙ e in
      ap (λ u. u.head) (done_left e).0 ∙ (let f = eq-eqb s.answer.number 0 m in rw f refl)

pub first_answered : FirstAnswered called
first_answered c h t time d = answered c h t time d

pub refused_changes_nothing : RefusedChangesNothing called
refused_changes_nothing c h t time d ne =
    let e = answered c h t time d in let left = refused_left c h t time d (λ z. ne (e ∙ z)) in (left.0 ∙ ap (λ m. refused_outcome m h) (sym e), left.1)

pub done_sets_the_time : DoneSetsTheTime called
done_sets_the_time c h t time d e = done_head c h t time d (sym (answered c h t time d) ∙ e)

-- Every other record

same_refl : (r : Record) → Same r r
same_refl r = record { partner = refl; partner_sap = refl; local_sap = refl; level = refl }

-- a record put in a place, seen from any place
same_set : (t : List Record) (i j : ℕ) (q : Record) → Same (record_at t i) q → Same (record_at t j) (record_at (set t i q) j)
same_set [] i j q s = same_refl nowhere
same_set (x ∷ xs) zero zero q s = s
same_set (x ∷ xs) zero (suc j) q s = same_refl _
same_set (x ∷ xs) (suc i) zero q s = same_refl _
same_set (x ∷ xs) (suc i) (suc j) q s = same_set xs i j q s

-- what holds of the table as it was and with the step's record in it holds of what a call leaves
either_table : (P : List Record → Type 0) (c : Call) (h : Head) (t : List Record) (time : ℕ) (d : List ℕ) → P t
    → P (set t (place_of c t) (step_of c (record_at t (place_of c t)) h.own time d).«record») → P (called c h t time d).table
either_table P c h t time d p q = by (eqb (k c h t time d) 0) refl
  where
    by : (b : Bool) → eqb (k c h t time d) 0 ≡ b → P (called c h t time d).table
    by true e = rw (done_left c h t time d (eqb-true _ _ e)).1 q
    by false e = rw (refused_left c h t time d (eqb-false _ _ e)).1.0 p

pub others_unchanged : OthersUnchanged called
others_unchanged =
    record {
      records = λ c h t time d i ne.
          either_table (λ (u : List Record). record_at u i ≡ record_at t i) c h t time d refl (get_or-set_other t (place_of c t) i _ nowhere ne);
      count = λ c h t time d. either_table (λ (u : List Record). length u ≡ length t) c h t time d refl (length-set t (place_of c t) _);
    }

pub partners_stay : PartnersStay called
partners_stay c h t time d i =
    either_table (λ (u : List Record). Same (record_at t i) (record_at u i)) c h t time d (same_refl _)
    (same_set t (place_of c t) i _ (step_same c (record_at t (place_of c t)) h.own time d))

-- An accepted table stays accepted

alike_left : (a r q : Record) → Same r q → alike a q ≡ alike a r
alike_left a r q s = rw (s.partner, s.partner_sap, s.local_sap) refl

alike_right : (r q b : Record) → Same r q → alike q b ≡ alike r b
alike_right r q b s = rw (s.partner, s.partner_sap, s.local_sap) refl

like_set : (a : Record) (t : List Record) (i : ℕ) (q : Record) → Same (record_at t i) q → has_like a (set t i q) ≡ has_like a t
like_set a [] i q s = refl
like_set a (x ∷ xs) zero q s = rw (alike_left a x q s) refl
like_set a (x ∷ xs) (suc i) q s = rw (like_set a xs i q s) refl

like_same : (r q : Record) (t : List Record) → Same r q → has_like q t ≡ has_like r t
like_same r q [] s = refl
like_same r q (x ∷ xs) s = rw (alike_right r q x s, like_same r q xs s) refl

pair_set : (t : List Record) (i : ℕ) (q : Record) → Same (record_at t i) q → has_pair (set t i q) ≡ has_pair t
pair_set [] i q s = refl
pair_set (x ∷ xs) zero q s = rw (like_same x q xs s) refl
pair_set (x ∷ xs) (suc i) q s = rw (like_set x xs i q s, pair_set xs i q s) refl

-- what an accepted record is
record Kept (h : Head) (r : Record) : Type 0 where
  timers : Timers h.latest r
  in_range_holds : record_in_range r h.own ≡ true

kept : (h : Head) (r : Record) → record_accepted h r ≡ true → Kept h r
unfolding record_accepted
kept h r e =
    let a = both_true (leb r.sent_at h.latest) (all (leb r.taken_at h.latest ∷ record_in_range r h.own ∷ [])) e in
    let b = both_true (leb r.taken_at h.latest) (record_in_range r h.own) a.1 in
    record { timers = record { sent_at_holds = leb-true _ _ a.0; taken_at = leb-true _ _ b.0 }; in_range_holds = b.1 }

accepts : (h : Head) (r : Record) → Kept h r → record_accepted h r ≡ true
unfolding record_accepted
accepts h r g = both_are _ _ (le-leb _ _ g.timers.sent_at_holds) (both_are _ _ (le-leb _ _ g.timers.taken_at) g.in_range_holds)

later_kept : (h : Head) (time : ℕ) (r : Record) → h.latest ≤ time → Kept h r → Kept (at h time) r
unfolding at
later_kept h time r l g = record { timers = record { sent_at_holds = upto l g.timers.sent_at_holds; taken_at = upto l g.timers.taken_at }; in_range_holds = g.in_range_holds }
  where
    upto : {a b c : ℕ} → b ≤ c → a ≤ b → a ≤ c
    upto l m = omega arith

all_set : (h : Head) (time : ℕ) (t : List Record) (i : ℕ) (q : Record) → h.latest ≤ time → all_accepted h t ≡ true → Kept (at h time) q → all_accepted (at h time) (set t i q) ≡ true
all_set h time [] i q l e g = refl
all_set h time (x ∷ xs) zero q l e g = both_are _ _ (accepts (at h time) q g) (later h time xs l (both_true (record_accepted h x) (all_accepted h xs) e).1)
  where
    later : (h : Head) (time : ℕ) (t : List Record) → h.latest ≤ time → all_accepted h t ≡ true → all_accepted (at h time) t ≡ true
    later h time [] l e = refl
    later h time (x ∷ xs) l e =
        let a = both_true (record_accepted h x) (all_accepted h xs) e in both_are _ _ (accepts (at h time) x (later_kept h time x l (kept h x a.0))) (later h time xs l a.1)
all_set h time (x ∷ xs) (suc i) q l e g =
    let a = both_true (record_accepted h x) (all_accepted h xs) e in both_are _ _ (accepts (at h time) x (later_kept h time x l (kept h x a.0))) (all_set h time xs i q l a.1 g)

accepted_set : (h : Head) (time : ℕ) (t : List Record) (i : ℕ) (q : Record) → accepted h t ≡ true → h.latest ≤ time → Kept (at h time) q → Same (record_at t i) q
    → accepted (at h time) (set t i q) ≡ true
unfolding accepted at
accepted_set h time t i q e l g s =
    let a = table_of h t e in
    both_are _ _ (ap (λ m. bounds_accepted m h.own) (length-set t i q) ∙ a.bounds) (both_are _ _ (all_set h time t i q l a.records g) (ap not (pair_set t i q s) ∙ a.apart))

step_kept : (c : Call) (h : Head) (r : Record) (time : ℕ) (d : List ℕ) → Kept (at h time) r → Kept (at h time) (step_of c r h.own time d).«record»
unfolding at
step_kept c h r time d g = record { timers = step_timed c r h.own time d g.timers; in_range_holds = step_in_range c r h.own time d g.in_range_holds }

pub stays_accepted : StaysAccepted called
unfolding refused_outcome
stays_accepted c h t time d e = by (eqb (k c h t time d) 0) refl
  where
    by : (b : Bool) → eqb (k c h t time d) 0 ≡ b → accepted (called c h t time d).outcome.head (called c h t time d).table ≡ true
    by false f = let left = refused_left c h t time d (eqb-false _ _ f) in rw (left.0, left.1.0) e
    by true f =
        let z = eqb-true _ _ f in let y = table_fine c h t time d z in let r = record_at t (place_of c t) in
        let l = leb-true _ _ (fine_by c h t time d y).timely in
        let g = later_kept h time r l (kept h r (accepted_at h t (place_of c t) (table_of h t e).records (placed c h t time d y))) in
        rw (done_head c h t time d z, (done_left c h t time d z).1)
        (accepted_set h time t (place_of c t) _ e l (step_kept c h r time d g) (step_same c r h.own time d))

-- Which record a telegram is for

found : (w : Route) (t : List Record) → first_match w t < length t → is_for w (record_at t (first_match w t)) ≡ true
unfolding pick
found w [] l = absurd (not-suc-le-zero l)
found w (r ∷ rs) l = by (is_for w r) refl (found w rs) l
  where
    by : (b : Bool) → is_for w r ≡ b → (first_match w rs < length rs → is_for w (record_at rs (first_match w rs)) ≡ true) → pick b zero (suc (first_match w rs)) < suc (length rs)
        → is_for w (record_at (r ∷ rs) (pick b zero (suc (first_match w rs)))) ≡ true
    by true e later m = e
    by false e later m = later (le_of_suc-le-suc m)

both : (a b : Bool) → a && b ≡ true → (a ≡ true) × (b ≡ true)
both true true e = (refl, refl)
both true false e = (refl, e)
both false b e = cc

-- two records that a telegram is for are alike
alike_by : (w : Route) (a b : Record) → is_for w a ≡ true → is_for w b ≡ true → alike a b ≡ true
alike_by w a b p q =
    let p' = both _ _ p in let p'' = both _ _ p'.0 in let q' = both _ _ q in let q'' = both _ _ q'.0 in
    rw (
      eq-eqb a.partner b.partner (eqb-true _ _ p''.0 ∙ sym (eqb-true _ _ q''.0)),
      eq-eqb a.partner_sap b.partner_sap (eqb-true _ _ p'.1 ∙ sym (eqb-true _ _ q'.1)),
      eq-eqb a.local_sap b.local_sap (eqb-true _ _ p''.1 ∙ sym (eqb-true _ _ q''.1)),
    ) refl

like_at : (a : Record) (t : List Record) (i : ℕ) → i < length t → alike a (record_at t i) ≡ true → has_like a t ≡ true
unfolding pick
like_at a [] i l e = absurd (not-suc-le-zero l)
like_at a (x ∷ xs) zero l e = rw e refl
like_at a (x ∷ xs) (suc i) l e = by (alike a x) (like_at a xs i (le_of_suc-le-suc l) e)
  where
    by : (b : Bool) → has_like a xs ≡ true → pick b true (has_like a xs) ≡ true
    by true y = refl
    by false y = y

only : (w : Route) (t : List Record) (i : ℕ) → has_pair t ≡ false → i < length t → is_for w (record_at t i) ≡ true → first_match w t ≡ i
unfolding pick
only w [] i z l e = absurd (not-suc-le-zero l)
only w (r ∷ rs) zero z l e = rw e refl
only w (r ∷ rs) (suc i) z l e = by (is_for w r) (has_like r rs) refl refl (λ y. only w rs i y (le_of_suc-le-suc l) e) z
  where
    by : (b c : Bool) → is_for w r ≡ b → has_like r rs ≡ c → (has_pair rs ≡ false → first_match w rs ≡ i) → pick c true (has_pair rs) ≡ false → pick b zero (suc (first_match w rs)) ≡ suc i
    by b true p q later y = cc
    by false false p q later y = ap suc (later y)
    by true false p q later y = let like = like_at r rs i (le_of_suc-le-suc l) (alike_by w r (record_at rs i) p e) in cc

no_pair_holds : (t : List Record) → not (has_pair t) ≡ true → has_pair t ≡ false
no_pair_holds t e = by (has_pair t) e
  where
    by : (b : Bool) → not b ≡ true → b ≡ false
    by true x = sym x
    by false x = refl

pub by_route : ByRoute
by_route = record { found = found; only = λ w h t i e l m. only w t i (no_pair_holds t (table_of h t e).apart) l m }

-- The net data that are handed on

module _ (t : List ℕ) where
  -- an event that is data hands on the telegram's
  abbrev Hands : Event → Type 0
  Hands e = (happened e).event ≡ 2 → data_of e t ≡ net_data t

  hands_data : (low : ℕ) → Hands (event.Data low (net_part t).start (net_part t).count)
  unfolding data_of net_data
  hands_data low x = sym (yes (leb ((net_part t).start + (net_part t).count) (length t)) _ _ _ (le-leb _ _ (inside_by (net_part t) t refl)) refl)

  hands_nothing : Hands event.Nothing
  hands_nothing x = absurd (omega arith)

  picked_hands : (b : Bool) (s u : Step) → Hands s.event → Hands u.event → Hands (pick b s u).event
  unfolding pick
  picked_hands true s u p q = p
  picked_hands false s u p q = q

  refused_hands : (n : ℕ) (r : Record) → Hands (refused_step n r).event
  unfolding refused_step
  refused_hands n r = hands_nothing

  quiet_hands : (q : Record) (e : Event) → Hands e → Hands (quietly q e).event
  unfolding quietly
  quiet_hands q e h = h

  writing_hands : (w : Written) (r q : Record) (kind : ℕ) (e : Event) → Hands e → Hands (writing_step w r q kind e).event
  unfolding writing_step
  writing_hands w r q kind e h = picked_hands (eqb w.answer 0) _ _ h (refused_hands w.answer r)

  act_hands : (v : Verdict) (r : Record) (own time random declared : ℕ) (net d : List ℕ) → Hands (act_of v r own time random declared t net d).event
  act_hands Nothing r own time random declared net d = quiet_hands r _ hands_nothing
  act_hands Confirm r own time random declared net d = writing_hands _ r _ 2 _ hands_nothing
  act_hands Authenticate r own time random declared net d = writing_hands _ r _ 3 _ hands_nothing
  act_hands Acknowledge r own time random declared net d = writing_hands _ r _ 4 _ (λ x. absurd (omega arith))
  act_hands Opens r own time random declared net d = quiet_hands _ _ (λ x. absurd (omega arith))
  act_hands Data r own time random declared net d = quiet_hands _ _ (hands_data _)
  act_hands Idle r own time random declared net d = quiet_hands _ _ hands_nothing
  act_hands SendIdle r own time random declared net d = writing_hands _ r _ 6 _ hands_nothing
  act_hands Disconnected r own time random declared net d = quiet_hands _ _ (λ x. absurd (omega arith))
  act_hands (Closes reason last) r own time random declared net d = writing_hands _ r _ 5 _ (λ x. absurd (omega arith))

  received_hands : (r : Record) (own time random : ℕ) (i : Option ℕ) (net d : List ℕ) → Hands (received_of r own time random i t net d).event
  unfolding received_of
  received_hands r own time random i net d =
      picked_hands (eqb (received_refusal r own i t net d) 0) _ _ (act_hands (judged r own time t) r own time random (declared_by i) net d) (refused_hands (received_refusal r own i t net d) r)

  settled_hands : (s : Step) (h : Head) (time : ℕ) → Hands s.event → Hands (settled s h time).event
  unfolding settled refused_outcome pick
  settled_hands s h time p = by (eqb s.answer.number 0)
    where
      by : (b : Bool) → Hands (pick b (record { head = at h time; answer = s.answer; event = s.event }) (refused_outcome s.answer.number h)).event
      by true = p
      by false = hands_nothing

pub net_data_handed_on : NetDataHandedOn called
unfolding refused_outcome
net_data_handed_on w random i telegram net h t time d = by (eqb (k c h t time d) 0) refl
  where
    c : Call
    c = Received w random i telegram net

    by : (b : Bool) → eqb (k c h t time d) 0 ≡ b → Hands telegram (called c h t time d).outcome.event
    by true e = rw (done_left c h t time d (eqb-true _ _ e)).0 (settled_hands telegram _ h time (received_hands telegram _ h.own time random i net d))
    by false e = rw (refused_left c h t time d (eqb-false _ _ e)).0 (hands_nothing telegram)
