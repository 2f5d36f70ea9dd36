-- Demand 2, set-up: telegram by telegram. Each passes the check of the end that awaits it, and its version or authentication number is the one asked for; the
-- numbers on both sides are those after the two random numbers. What the nodes do between leaves the two records as they are.
-- Assumes nothing.
use mathlib.Core.Path.{◌≡◌, refl, sym, ap, subst, ◌∙◌}
use mathlib.Core.Bool.{Bool, true, false}
use mathlib.Core.List.{List, [], ◌∷◌}
use Prim.Native.Nat.{ℕ, ◌^◌, ◌≤◌, ◌<◌}
use native.Mathlib.Omega.{arith}
use lib.ListN.{length, get_or}
use lib.Dec.{eqb, lit≤}
use borrow.Author.Tests.{eq-eqb, eqb-true, eqb-false}
use Rattle.ground.specs.Choice.{pick, all}
use Rattle.telegram.specs.Ends.{mirrored}
use Rattle.telegram.specs.Layout.{values}
use Rattle.telegram.specs.Fields.{random_of, authentication_of}
use Rattle.telegram.specs.Telegrams.{version_and_bus, authentication_number}
use Rattle.telegram.specs.Writers.Outcome.{wrote}
use Rattle.telegram.specs.Writers.{answer_of, unless, refusal, connect_allowed, writes_request, writes_confirm, writes_authentication, writes_acknowledgement}
use Rattle.telegram.specs.Facts.{Taken}
use Rattle.telegram.specs.declared.End.{End}
use Rattle.telegram.specs.declared.Kind.{Kind}
use Rattle.telegram.specs.declared.Kind.TheVariants as kind
use Rattle.telegram.proofs.Apart.{passed}
use Rattle.telegram.proofs.Taken.{request_taken, confirm_taken, authentication_taken, acknowledgement_taken}
use Rattle.link.specs.Records.{end_of, become}
use Rattle.link.specs.Judged.{row_of, ruled, narrowed, good_version, good_number, back, expected_now, run_out, judged}
use Rattle.link.specs.Steps.{next, writing_step, act_of, declared_by, open_refusal, open_of}
use Rattle.link.specs.declared.Record.{Record}
use Rattle.link.specs.declared.Event.{Event}
use Rattle.link.specs.declared.Event.TheVariants as event
use Rattle.link.specs.declared.Verdict.{Verdict}
use Rattle.link.specs.declared.Verdict.TheVariants.{Confirm, Authenticate, Acknowledge, Open as Opens}
use Rattle.link.proofs.Facts.{by_the_table}
use Rattle.node.specs.declared.Head.{Head}
use Rattle.node.specs.Accepted.{record_at, accepted}
use Rattle.node.specs.Heads.{at}
use Rattle.node.specs.Calls.{Call, Left, refused_outcome, called}
use Rattle.node.specs.Calls.Call.{Open, Received}
use Rattle.node.proofs.Facts.{refused_changes_nothing, done_sets_the_time, others_unchanged, stays_accepted}
use Rattle.demands.specs.Pairs.{Mirror, telegram_of, Done, Made, made, head_after, table_after, AllNothingTo}
use Rattle.demands.specs.Effects.{Does, asking, Receipt, takes}
use Rattle.demands.specs.SetUp.{Given, Parties, here, there, arriving, head_then, table_then, asks, confirms, authenticates, acknowledges, opens, Undisturbed, set_up, Fits, Until, Demand2SetUp, SetUpIsDone, Demand2FromTheRequest}
use Rattle.demands.proofs.Carried.{carried, done_by_holds}
use Rattle.demands.proofs.Effects.{told, effect_of, receipt_at, open_does, call_wrote, receipt_wrote}
use Rattle.demands.proofs.Demand2.{own_kept, mirror_place, received_done, watching, waits_in_time}
use Rattle.demands.proofs.EveryStep.{kept, demand_2_over_every_step}

-- What a node has of the connection: its address, and the record at a place.
record Holds (h : Head) (t : List Record) (i own : ℕ) (r : Record) : Type 0 where
  own_is : h.own ≡ own
  record_is : record_at t i ≡ r
  there_is : i < length t

-- after a call that was done
left_with : (c : Call) (h : Head) (t : List Record) (time : ℕ) (d : List ℕ) (i own : ℕ) (r : Record) → h.own ≡ own → i < length t → record_at (called c h t time d).table i ≡ r
    → Done (called c h t time d) → Holds (called c h t time d).outcome.head (called c h t time d).table i own r
left_with c h t time d i own r o l e done =
    record { own_is = own_kept c h t time d done ∙ o; record_is = e; there_is = rw (others_unchanged.count c h t time d) l }

-- calls that are nothing to it leave it so, and the table accepted
meanwhile : (h : Head) (t : List Record) (i own : ℕ) (r : Record) (ms : List Made) → Holds h t i own r → AllNothingTo called h t i ms
    → Holds (head_after called h t ms) (table_after called h t ms) i own r
meanwhile h t i own r [] x z = x
meanwhile h t i own r (m ∷ ms) x (y, ys) =
    let k = kept h t i m y in
    meanwhile (made called h t m).outcome.head (made called h t m).table i own r ms
    (record {
      own_is = k.own ∙ x.own_is;
      record_is = k.left ∙ x.record_is;
      there_is = rw (others_unchanged.count m.call h t m.time m.buffer) x.there_is;
    }) ys

good_after : (h : Head) (t : List Record) (ms : List Made) → accepted h t ≡ true → accepted (head_after called h t ms) (table_after called h t ms) ≡ true
good_after h t [] good = good
good_after h t (m ∷ ms) good = good_after (made called h t m).outcome.head (made called h t m).table ms (stays_accepted m.call h t m.time m.buffer good)

-- and no clock goes back: the latest time is that of a call that was done
made_latest : (h : Head) (t : List Record) (m : Made) (time : ℕ) → h.latest ≤ time → m.time ≤ time → (made called h t m).outcome.head.latest ≤ time
unfolding at refused_outcome
made_latest h t m time before now = by (eqb (made called h t m).outcome.answer.number 0) refl
  where
    by : (b : Bool) → eqb (made called h t m).outcome.answer.number 0 ≡ b → (made called h t m).outcome.head.latest ≤ time
    by true f = rw (done_sets_the_time m.call h t m.time m.buffer (eqb-true _ 0 f)) now
    by false f = rw (refused_changes_nothing m.call h t m.time m.buffer (eqb-false _ 0 f)).0 before

latest_after : (h : Head) (t : List Record) (ms : List Made) (time : ℕ) → h.latest ≤ time → Until time ms → (head_after called h t ms).latest ≤ time
latest_after h t [] time before z = before
latest_after h t (m ∷ ms) time before (now, rest) =
    latest_after (made called h t m).outcome.head (made called h t m).table ms time (made_latest h t m time before now) rest

-- so what fits behind a call that was done still fits behind those after it
fits_after : (c : Call) (h : Head) (t : List Record) (time : ℕ) (d : List ℕ) (ms : List Made) (level : ℕ) (g : Given) → Done (called c h t time d) → Until g.time ms → Fits time level g
    → Fits (head_then called (called c h t time d) ms).latest level g
unfolding at
fits_after c h t time d ms level g done until f =
    record { room = f.room; timely = latest_after _ _ ms g.time (rw (done_sets_the_time c h t time d done) f.timely) until; allowed = f.allowed }

-- A telegram taken by a node with the record q at place j, by a verdict: what it does, what the node has then, and that the verdict's writer wrote.
record Taking (x : Receipt) (j b : ℕ) (q : Record) (v : Verdict) : Type 0 where
  does : Does (takes called x) x.buffer j (effect_of v q b x.time x.random (declared_by x.idle_time) x.telegram x.net)
  holds : Holds (takes called x).outcome.head (takes called x).table j b (effect_of v q b x.time x.random (declared_by x.idle_time) x.telegram x.net).after
  written : (n : ℕ) (y : List ℕ) (q' : Record) (kind : ℕ) (e : Event)
      → act_of v q b x.time x.random (declared_by x.idle_time) x.telegram x.net x.buffer ≡ writing_step (answer_of (unless n y)) q q' kind e → unless n y ≡ wrote y

module _ (l : Left) (a : ℕ) (r : Record) (k : Head) (u : List Record) (g : Given) (j b : ℕ) (q : Record) (y : Holds k u j b q) (m : Mirror a r b q) where
  mirrored_there : Mirror a r k.own (record_at u j)
  mirrored_there = rw (y.own_is, y.record_is) m

  is_done : {vs net : List ℕ} {n : ℕ} {v : Kind} → accepted k u ≡ true → Taken (end_of r a) n (telegram_of l) v vs net → (q.phase ≡ 6 → ⊥) → Fits k.latest r.level g
      → Done (takes called (arriving l a r k u g))
  unfolding end_of
  is_done {n = n} good x live f =
      let level : (record_at u j).level ≡ r.level = ap (λ (e : End). e.level) mirrored_there in
      received_done a r k u j g.time g.random g.idle_time (telegram_of l) g.net g.out good f.room f.timely (passed (mirrored (end_of r a)) n (telegram_of l) x.passes).on_bus_holds mirrored_there y.there_is
      (rw y.record_is live) (rw level f.allowed)

  taking : (v : Verdict) → judged q b g.time (telegram_of l) ≡ v → Done (takes called (arriving l a r k u g)) → Taking (arriving l a r k u g) j b q v
  taking v f done =
      let x : Receipt = arriving l a r k u g in
      let c : Call = Received x.route g.random g.idle_time (telegram_of l) g.net in
      let found = mirror_place a r k u j (carried c k u g.time g.out done).good mirrored_there y.there_is in
      let f' : judged (record_at u j) k.own g.time (telegram_of l) ≡ v = rw (y.own_is, y.record_is) f in
      let d : Does (takes called x) g.out j (effect_of v q b g.time g.random (declared_by g.idle_time) (telegram_of l) g.net) =
      rw (← y.own_is, ← y.record_is) (receipt_at x j v found f' done) in
      record {
        does = d;
        holds = left_with c k u g.time g.out j b _ y.own_is y.there_is d.leaves done;
        written = λ n z q' kind e is. receipt_wrote x j v n z q' kind e found f' (rw (y.own_is, y.record_is) is) done;
      }

-- and later, when the record has become r
later : (x : Receipt) (j b : ℕ) (q : Record) (v : Verdict) (r : Record) (ms : List Made) → Taking x j b q v
    → (effect_of v q b x.time x.random (declared_by x.idle_time) x.telegram x.net).after ≡ r
    → AllNothingTo called (takes called x).outcome.head (takes called x).table j ms → Holds (head_then called (takes called x) ms) (table_then called (takes called x) ms) j b r
later x j b q v r ms t e z = meanwhile (takes called x).outcome.head (takes called x).table j b r ms (rw (← e) t.holds) z

-- What awaits a telegram

-- by the table, in time
judged_by : (a b time : ℕ) (r q : Record) (x : List ℕ) (v : Kind) (vs net : List ℕ) (n : ℕ) → Mirror a r b q → q.phase ≡ n → run_out q time ≡ false
    → Taken (end_of r a) (expected_now q) x v vs net → judged q b time x ≡ narrowed (ruled (row_of v) n) q x
judged_by a b time r q x v vs net n m p w y =
    by_the_table.passing q b time x w (rw m y.passes) ∙ ap (λ (z : Kind). narrowed (ruled (row_of z) q.phase) q x) y.kind ∙ ap (λ (z : ℕ). narrowed (ruled (row_of v) z) q x) p

-- our version is a good one
version_good : (t : List ℕ) (random time : ℕ) → values kind.Request t ≡ random ∷ time ∷ version_and_bus → good_version t ≡ true
unfolding good_version pick
version_good t random time e = ap (λ (vs : List ℕ). all (eqb (get_or vs 2 0) 3 ∷ eqb (get_or vs 3 0) 0 ∷ [])) e

-- one before and two before, modulo 2^32
back_one : (n : ℕ) → n < 2 ^ 32 → back 1 (next n) ≡ n
back_one n l = omega arith

back_two : (n : ℕ) → n < 2 ^ 32 → back 2 (next (next n)) ≡ n
back_two n l = omega arith

-- mirrored both ways
mirror_back : (a b : ℕ) (r q : Record) → Mirror a r b q → Mirror b q a r
mirror_back a b r q m = sym (ap mirrored m)

-- The records of a set-up

module _ (p : Parties) where
  abbrev a : ℕ
  a = p.head.own

  abbrev b : ℕ
  b = p.head'.own

  abbrev R : ℕ
  R = p.first.random

  abbrev S : ℕ
  S = p.second.random

  -- the idle times declared
  abbrev T : ℕ
  T = declared_by p.first.idle_time

  abbrev U : ℕ
  U = declared_by p.second.idle_time

  abbrev r₁ : Record
  r₁ = become (here p) 2 (next R) 0 T 0 p.first.time 0

  abbrev q₁ : Record
  q₁ = become (there p) 3 (next S) (next R) U T p.second.time p.second.time

  abbrev r₂ : Record
  r₂ = become (here p) 4 (next (next R)) (next S) T U p.third.time p.third.time

module _ (p : Parties) (s : Undisturbed called p) where
  back_to_here : Mirror (b p) (there p) (a p) (here p)
  back_to_here = mirror_back (a p) (b p) (here p) (there p) s.mirror

  same_level_holds : (there p).level ≡ (here p).level
  unfolding end_of
  same_level_holds = ap (λ (e : End). e.level) s.mirror

  responder : Holds p.head' p.table' p.j (b p) (there p)
  responder = record { own_is = refl; record_is = refl; there_is = s.place }

  -- The request

  module _ (asked : Done (asks called p)) where
    abbrev c₁ : Call
    c₁ = Open p.i (R p) p.first.idle_time p.first.net

    first_does : Does (asks called p) p.first.out p.i (asking (here p) (a p) p.first.time (R p) (T p) p.first.net)
    first_does = open_does p.head p.table p.i p.first.time p.first.out (R p) p.first.idle_time p.first.net asked

    waits_for_confirm : Holds (head_then called (asks called p) p.while_asking) (table_then called (asks called p) p.while_asking) p.i (a p) (r₁ p)
    waits_for_confirm =
        meanwhile (asks called p).outcome.head (asks called p).table p.i (a p) (r₁ p) p.while_asking
        (left_with c₁ p.head p.table p.first.time p.first.out p.i (a p) (r₁ p) refl
        (carried c₁ p.head p.table p.first.time p.first.out asked).there first_does.leaves asked) s.while_asking

    request_there : (expected : ℕ) → Taken (end_of (here p) (a p)) expected (telegram_of (asks called p)) kind.Request (R p ∷ T p ∷ version_and_bus) p.first.net
    unfolding open_of writes_request
    request_there expected =
        rw (told (asks called p) p.first.out p.i _ first_does)
        (request_taken (end_of (here p) (a p)) (R p) (T p) expected p.first.net p.first.out _ s.random_here s.net_here
        (call_wrote c₁ p.head p.table p.first.time p.first.out (open_refusal (here p) (a p) p.first.idle_time p.first.net p.first.out)
        (refusal (end_of (here p) (a p)) (length p.first.out) (connect_allowed (T p) (length p.first.net) (end_of (here p) (a p)).level)) _ (r₁ p) 1 event.Nothing refl asked))

    confirms_it : judged (there p) (b p) p.second.time (telegram_of (asks called p)) ≡ Confirm
    unfolding run_out pick
    confirms_it =
        let at_rest : run_out (there p) p.second.time ≡ false = rw s.closed_there refl in
        judged_by (a p) (b p) p.second.time (here p) (there p) (telegram_of (asks called p)) kind.Request _ _ 1 s.mirror s.closed_there at_rest (request_there (expected_now (there p)))
        ∙ (rw (version_good (telegram_of (asks called p)) (R p) (T p) (request_there 0).fields) refl)

    -- The confirm

    module _ (confirmed : Done (confirms called p)) where
      abbrev x₂ : Receipt
      x₂ = arriving (asks called p) (a p) (here p) p.head' p.table' p.second

      second_taken : Taking x₂ p.j (b p) (there p) Confirm
      second_taken = taking (asks called p) (a p) (here p) p.head' p.table' p.second p.j (b p) (there p) responder s.mirror Confirm confirms_it confirmed

      waits_for_authentication : Holds (head_then called (confirms called p) p.while_confirming) (table_then called (confirms called p) p.while_confirming) p.j (b p) (q₁ p)
      waits_for_authentication =
          later x₂ p.j (b p) (there p) Confirm (q₁ p) p.while_confirming second_taken
          (ap (λ (vs : List ℕ). become (there p) 3 (next (S p)) (next (get_or vs 0 0)) (U p) (get_or vs 1 0) p.second.time p.second.time) (request_there 0).fields) s.while_confirming

      confirm_there : (expected : ℕ) → Taken (end_of (there p) (b p)) expected (telegram_of (confirms called p)) kind.Confirm (S p ∷ U p ∷ version_and_bus) p.second.net
      unfolding writes_confirm
      confirm_there expected =
          rw (told (confirms called p) p.second.out p.j _ second_taken.does)
          (confirm_taken (end_of (there p) (b p)) (S p) (U p) expected p.second.net p.second.out _ s.random_there s.net_there
          (second_taken.written (refusal (end_of (there p) (b p)) (length p.second.out) (connect_allowed (U p) (length p.second.net) (end_of (there p) (b p)).level)) _ _ 2 event.Nothing refl))

      authenticates_it : judged (r₁ p) (a p) p.third.time (telegram_of (confirms called p)) ≡ Authenticate
      unfolding become end_of pick
      authenticates_it =
          judged_by (b p) (a p) p.third.time (there p) (r₁ p) (telegram_of (confirms called p)) kind.Confirm _ _ 2 back_to_here refl (waits_in_time (r₁ p) p.third.time (lit≤ tt) (lit≤ tt) s.confirmed_in_time)
          (confirm_there (expected_now (r₁ p)))
          ∙ (rw (version_good (telegram_of (confirms called p)) (S p) (U p) (confirm_there 0).fields) refl)

      -- The authentication

      module _ (authenticated : Done (authenticates called p)) where
        abbrev x₃ : Receipt
        x₃ = arriving (confirms called p) (b p) (there p) (head_then called (asks called p) p.while_asking) (table_then called (asks called p) p.while_asking) p.third

        third_taken : Taking x₃ p.i (a p) (r₁ p) Authenticate
        unfolding become end_of
        third_taken = taking (confirms called p) (b p) (there p) x₃.head x₃.table p.third p.i (a p) (r₁ p) waits_for_confirm back_to_here Authenticate authenticates_it authenticated

        waits_for_acknowledgement : Holds (head_then called (authenticates called p) p.while_authenticating) (table_then called (authenticates called p) p.while_authenticating) p.i (a p) (r₂ p)
        unfolding become
        waits_for_acknowledgement =
            later x₃ p.i (a p) (r₁ p) Authenticate (r₂ p) p.while_authenticating third_taken
            (ap (λ (vs : List ℕ). become (here p) 4 (next (next (R p))) (next (get_or vs 0 0)) (T p) (get_or vs 1 0) p.third.time p.third.time) (confirm_there 0).fields) s.while_authenticating

        authentication_there : Taken (end_of (here p) (a p)) (next (R p)) (telegram_of (authenticates called p)) kind.Authentication (authentication_number (here p).level (S p) ∷ []) []
        unfolding writes_authentication end_of become
        authentication_there =
            subst (λ (vs : List ℕ). Taken (end_of (here p) (a p)) (next (R p)) (telegram_of (authenticates called p)) kind.Authentication (authentication_number (here p).level (get_or vs 0 0) ∷ []) []) (confirm_there 0).fields
            (rw (told (authenticates called p) p.third.out p.i _ third_taken.does)
            (authentication_taken (end_of (here p) (a p)) (next (R p)) (random_of (telegram_of (confirms called p))) p.third.out _
            (third_taken.written (refusal (end_of (here p) (a p)) (length p.third.out) true) _ _ 3 event.Nothing refl)))

        acknowledges_it : judged (q₁ p) (b p) p.fourth.time (telegram_of (authenticates called p)) ≡ Acknowledge
        unfolding become end_of expected_now good_number pick
        acknowledges_it =
            let number-is-ours : good_number (q₁ p) 1 (telegram_of (authenticates called p)) ≡ true =
            eq-eqb (authentication_of (telegram_of (authenticates called p))) (authentication_number (there p).level (back 1 (next (S p))))
            (ap (λ (vs : List ℕ). get_or vs 0 0) authentication_there.fields ∙ rw (same_level_holds, back_one (S p) s.random_there) refl) in
            judged_by (a p) (b p) p.fourth.time (here p) (q₁ p) (telegram_of (authenticates called p)) kind.Authentication _ _ 3 s.mirror refl
            (waits_in_time (q₁ p) p.fourth.time (lit≤ tt) (lit≤ tt) s.authenticated_in_time) authentication_there
            ∙ (rw number-is-ours refl)

        -- The acknowledgement

        module _ (acknowledged : Done (acknowledges called p)) where
          abbrev x₄ : Receipt
          x₄ = arriving (authenticates called p) (a p) (here p) (head_then called (confirms called p) p.while_confirming) (table_then called (confirms called p) p.while_confirming) p.fourth

          fourth_taken : Taking x₄ p.j (b p) (q₁ p) Acknowledge
          unfolding become end_of
          fourth_taken = taking (authenticates called p) (a p) (here p) x₄.head x₄.table p.fourth p.j (b p) (q₁ p) waits_for_authentication s.mirror Acknowledge acknowledges_it acknowledged

          acknowledgement_there : Taken (end_of (there p) (b p)) (next (S p)) (telegram_of (acknowledges called p)) kind.Acknowledgement (authentication_number (there p).level (R p) ∷ []) []
          unfolding writes_acknowledgement end_of become
          acknowledgement_there =
              subst (λ (n : ℕ). Taken (end_of (there p) (b p)) (next (S p)) (telegram_of (acknowledges called p)) kind.Acknowledgement (authentication_number (there p).level n ∷ []) []) (back_one (R p) s.random_here)
              (rw (told (acknowledges called p) p.fourth.out p.j _ fourth_taken.does)
              (acknowledgement_taken (end_of (there p) (b p)) (next (S p)) (back 1 (next (R p))) p.fourth.out _
              (fourth_taken.written (refusal (end_of (there p) (b p)) (length p.fourth.out) true) _ _ 4 event.Opened refl)))

          opens_it : judged (r₂ p) (a p) p.fifth.time (telegram_of (acknowledges called p)) ≡ Opens
          unfolding become end_of expected_now good_number pick
          opens_it =
              let number-is-mine : good_number (r₂ p) 2 (telegram_of (acknowledges called p)) ≡ true =
              eq-eqb (authentication_of (telegram_of (acknowledges called p))) (authentication_number (here p).level (back 2 (next (next (R p)))))
              (ap (λ (vs : List ℕ). get_or vs 0 0) acknowledgement_there.fields ∙ rw (same_level_holds, back_two (R p) s.random_here) refl) in
              judged_by (b p) (a p) p.fifth.time (there p) (r₂ p) (telegram_of (acknowledges called p)) kind.Acknowledgement _ _ 4 back_to_here refl
              (waits_in_time (r₂ p) p.fifth.time (lit≤ tt) (lit≤ tt) s.acknowledged_in_time) acknowledgement_there
              ∙ (rw number-is-mine refl)

          fifth_taken : Done (opens called p)
              → Taking (arriving (acknowledges called p) (b p) (there p) (head_then called (authenticates called p) p.while_authenticating) (table_then called (authenticates called p) p.while_authenticating) p.fifth)
              p.i (a p) (r₂ p) Opens
          unfolding become end_of
          fifth_taken opened =
              taking (acknowledges called p) (b p) (there p) _ _ p.fifth p.i (a p) (r₂ p) waits_for_acknowledgement back_to_here Opens opens_it opened

pub demand_2_set_up : Demand2SetUp called
unfolding become end_of
demand_2_set_up p s all =
    let l = fifth_taken p s all.asked all.confirmed all.authenticated all.acknowledged all.opened in
    let k = fourth_taken p s all.asked all.confirmed all.authenticated all.acknowledged in
    record {
      opener = l.does.says;
      responder = k.does.says;
      connected =
          record {
            towards =
                record {
                  here = l.holds.there_is;
                  there = k.holds.there_is;
                  open_to =
                      rw (l.holds.own_is, k.holds.own_is, l.holds.record_is, k.holds.record_is) (record { ends = s.mirror; open_here = refl; open_there = refl; number = refl });
                };
            back =
                record {
                  here = k.holds.there_is;
                  there = l.holds.there_is;
                  open_to =
                      rw (l.holds.own_is, k.holds.own_is, l.holds.record_is, k.holds.record_is) (record { ends = back_to_here p s; open_here = refl; open_there = refl; number = refl });
                };
          };
      opener_watches = watching _ _ l.holds.record_is;
      responder_watches = watching _ _ k.holds.record_is;
    }

pub set_up_is_done : SetUpIsDone called
unfolding become end_of
set_up_is_done p s fit =
    let asked =
    done_by_holds (Open p.i (R p) p.first.idle_time p.first.net) p.head p.table p.first.time p.first.out fit.table_here fit.first.room fit.first.timely refl fit.place_here
    (λ e. let z = fit.closed_here in omega arith) (eq-eqb (here p).phase 1 fit.closed_here) fit.first.allowed in
    let good₁ = good_after (asks called p).outcome.head (asks called p).table p.while_asking (stays_accepted _ p.head p.table p.first.time p.first.out fit.table_here) in
    let confirmed =
    is_done (asks called p) (a p) (here p) p.head' p.table' p.second p.j (b p) (there p) (responder p s) s.mirror fit.table_there (request_there p s asked 0)
    (λ e. let z = s.closed_there in omega arith) fit.second in
    let good₂ =
    good_after (confirms called p).outcome.head (confirms called p).table p.while_confirming (stays_accepted _ p.head' p.table' p.second.time p.second.out fit.table_there) in
    let authenticated =
    is_done (confirms called p) (b p) (there p) _ _ p.third p.i (a p) (r₁ p) (waits_for_confirm p s asked) (back_to_here p s) good₁ (confirm_there p s asked confirmed 0) (λ e. omega arith)
    (rw (same_level_holds p s) (fits_after _ p.head p.table p.first.time p.first.out p.while_asking (here p).level p.third asked fit.until_third fit.third)) in
    let good₃ =
    good_after (authenticates called p).outcome.head (authenticates called p).table p.while_authenticating (stays_accepted _ _ _ p.third.time p.third.out good₁) in
    let acknowledged =
    is_done (authenticates called p) (a p) (here p) _ _ p.fourth p.j (b p) (q₁ p) (waits_for_authentication p s asked confirmed) s.mirror good₂ (authentication_there p s asked confirmed authenticated)
    (λ e. omega arith) (fits_after _ p.head' p.table' p.second.time p.second.out p.while_confirming (here p).level p.fourth confirmed fit.until_fourth fit.fourth) in
    record {
      asked = asked;
      confirmed = confirmed;
      authenticated = authenticated;
      acknowledged = acknowledged;
      opened =
          is_done (acknowledges called p) (b p) (there p) _ _ p.fifth p.i (a p) (r₂ p) (waits_for_acknowledgement p s asked confirmed authenticated) (back_to_here p s) good₃
          (acknowledgement_there p s asked confirmed authenticated acknowledged) (λ e. omega arith)
          (rw (same_level_holds p s) (fits_after _ _ _ p.third.time p.third.out p.while_authenticating (here p).level p.fifth authenticated fit.until_fifth fit.fifth));
    }

pub demand_2_from_the_request : Demand2FromTheRequest called
demand_2_from_the_request p xs s all go = demand_2_over_every_step (set_up called p) p.i p.j xs (demand_2_set_up p s all).connected go
