-- The demands determine the link: of each call the number answered says whether it is done; a refused one changes nothing; and of one that is done some statement
-- of one end names the whole effect, whatever phase, time and telegram.
-- Assumes nothing.
use mathlib.Core.Path.{◌≡◌, refl, sym, ap, subst, ◌∙◌}
use mathlib.Core.Bool.{Bool, true, false}
use mathlib.Core.List.{List, [], ◌∷◌}
use mathlib.Core.Logic.{◌⊎◌, inl, inr}
use Prim.Native.Nat.{ℕ, zero, suc, ◌+◌, ◌*◌, ◌≤◌, ◌<◌}
use native.Mathlib.Omega.{arith}
use lib.ListN.{length}
use lib.Dec.{ltb, eqb}
use borrow.Author.Tests.{eqb-true, eqb-false, ltb-true, ltb-false}
use Rattle.std.specs.Prelude.{Ok, Err}
use Rattle.telegram.specs.Fields.{authentication_of}
use Rattle.telegram.specs.Commands.{known}
use Rattle.telegram.specs.Telegrams.{authentication_number}
use Rattle.telegram.specs.Check.{check_of, Check, Passes}
use Rattle.telegram.specs.declared.Kind.{Kind}
use Rattle.telegram.specs.declared.Kind.TheVariants as kind
use Rattle.link.specs.Records.{end_of}
use Rattle.link.specs.Judged.{back, good_version, expected_now}
use Rattle.link.specs.Steps.{received_refusal, tick_refusal}
use Rattle.link.specs.declared.Record.{Record}
use Rattle.link.specs.declared.Event.{Event}
use Rattle.link.proofs.Cases.{phases, live_phase}
use Rattle.link.proofs.Answers.{answers}
use Rattle.node.specs.declared.Head.{Head}
use Rattle.node.specs.declared.Outcome.{Outcome}
use Rattle.node.specs.Accepted.{record_at}
use Rattle.node.specs.Calls.{Call, Left, Link, place_of, refused_outcome, called}
use Rattle.node.specs.Calls.Call.{Open, Close, Send, Received, Tick}
use Rattle.node.specs.Facts.{OthersUnchanged}
use Rattle.node.proofs.Facts.{first_answered, refused_changes_nothing, done_sets_the_time, others_unchanged}
use Rattle.demands.specs.Pairs.{Done, InTime, Listens, Due}
use Rattle.demands.specs.Pairs.Listens.{set_up, open_here}
use Rattle.demands.specs.Effects.{Effect, Does, Receipt, takes, place_for, record_for, Passing, kind_of, ReceiptDoes}
use Rattle.demands.specs.Demand1.{Demand1}
use Rattle.demands.specs.OneEnd.{LooksAt, LateCloses, GoodRequest, Awaiting, ReturnsOurs, AnswerAwaited, ForAnOpen, SetsUpAnew, Demand2OneEnd}
use Rattle.demands.specs.OneEnd.LooksAt.{tick, receipt}
use Rattle.demands.specs.Determined.{DemandsDetermineTheLink, Demand3DeterminesWhatPasses}
use Rattle.demands.proofs.Carried.{carried}
use Rattle.demands.proofs.Passing.{passes_exactly}
use Rattle.demands.proofs.OneEnd.{kind_known, unknown_is_not, demand_2_one_end}

-- Decisions

abbrev EitherWay : Type 0 → Type 0
EitherWay A = A ⊎ (A → ⊥)

same_number : (m n : ℕ) → EitherWay (m ≡ n)
same_number m n = by (eqb m n) refl
  where
    by : (b : Bool) → eqb m n ≡ b → EitherWay (m ≡ n)
    by true f = inl (eqb-true m n f)
    by false f = inr (eqb-false m n f)

later : (m n : ℕ) → (m < n) ⊎ (n ≤ m)
later m n = by (ltb m n) refl
  where
    by : (b : Bool) → ltb m n ≡ b → (m < n) ⊎ (n ≤ m)
    by true f = inl (ltb-true m n f)
    by false f = inr (ltb-false m n f)

passes_or_not : (c : Check) → EitherWay (c ≡ Passes)
passes_or_not (Ok done) = inl refl
passes_or_not (Err why) = inr (λ e. let z : ◌≡◌ {A = ℕ} 0 1 = cc in omega arith)

true_or_false : (b : Bool) → (b ≡ true) ⊎ (b ≡ false)
true_or_false true = inl refl
true_or_false false = inr refl

-- kinds by number
abbrev tag : Kind → ℕ
tag kind.Request = 0
tag kind.Confirm = 1
tag kind.Authentication = 2
tag kind.Acknowledgement = 3
tag kind.Disconnect = 4
tag kind.Idle = 5
tag kind.Data = 6
tag kind.Unknown = 7

abbrev untag : ℕ → Kind
untag zero = kind.Request
untag (suc zero) = kind.Confirm
untag (suc (suc zero)) = kind.Authentication
untag (suc (suc (suc zero))) = kind.Acknowledgement
untag (suc (suc (suc (suc zero)))) = kind.Disconnect
untag (suc (suc (suc (suc (suc zero))))) = kind.Idle
untag (suc (suc (suc (suc (suc (suc zero)))))) = kind.Data
untag (suc (suc (suc (suc (suc (suc (suc k))))))) = kind.Unknown

tag_back : (k : Kind) → untag (tag k) ≡ k
tag_back kind.Request = refl
tag_back kind.Confirm = refl
tag_back kind.Authentication = refl
tag_back kind.Acknowledgement = refl
tag_back kind.Disconnect = refl
tag_back kind.Idle = refl
tag_back kind.Data = refl
tag_back kind.Unknown = refl

same_kind : (k l : Kind) → EitherWay (k ≡ l)
same_kind k l = by (same_number (tag k) (tag l))
  where
    by : EitherWay (tag k ≡ tag l) → EitherWay (k ≡ l)
    by (inl e) = inl (sym (tag_back k) ∙ ap untag e ∙ tag_back l)
    by (inr n) = inr (λ e. n (ap tag e))

-- What two calls left is the same

same_left : (o o' : Outcome) (t t' : List Record) (d d' : List ℕ) → o ≡ o' → t ≡ t' → d ≡ d'
    → ◌≡◌ {A = Left} (record { outcome = o; table = t; out = d }) (record { outcome = o'; table = t'; out = d' })
same_left o o' t t' d d' p q r = rw (p, q, r) refl

same_outcome : (h h' : Head) (n n' k k' l l' : ℕ) (e e' : Event) → h ≡ h' → n ≡ n' → k ≡ k' → l ≡ l' → e ≡ e'
    → ◌≡◌ {A = Outcome} (record { head = h; answer = record { number = n; telegram = k; length = l }; event = e }) (record { head = h'; answer = record { number = n'; telegram = k'; length = l' }; event = e' })
same_outcome h h' n n' k k' l l' e e' p q r s u = rw (p, q, r, s, u) refl

-- two tables with the same records
same_table : (t u : List Record) → length t ≡ length u → ((i : ℕ) → record_at t i ≡ record_at u i) → t ≡ u
same_table [] [] p f = refl
same_table [] (y ∷ u) p f = absurd (omega arith)
same_table (x ∷ t) [] p f = absurd (omega arith)
same_table (x ∷ t) (y ∷ u) p f = let rest = same_table t u (omega arith) (λ i. f (suc i)) in let first = f 0 in rw (first, rest) refl

-- A link that meets the demands

module _ (link : Link) (first : Demand1 link) (others : OthersUnchanged link) (ends : Demand2OneEnd link) where
  module _ (c : Call) (h : Head) (t : List Record) (time : ℕ) (d : List ℕ) where
    abbrev Agree : Type 0
    Agree = link c h t time d ≡ called c h t time d

    numbers : (link c h t time d).outcome.answer.number ≡ (called c h t time d).outcome.answer.number
    numbers = first.first_in_the_order c h t time d ∙ sym (first_answered c h t time d)

    -- one that is refused
    refused_agree : (Done (called c h t time d) → ⊥) → Agree
    refused_agree other =
        let a = first.refused_changes_nothing c h t time d (λ z. other (sym numbers ∙ z)) in
        let b = refused_changes_nothing c h t time d other in
        same_left _ _ _ _ _ _ (a.0 ∙ ap (λ (n : ℕ). refused_outcome n h) numbers ∙ sym b.0) (a.1.0 ∙ sym b.1.0) (a.1.1 ∙ sym b.1.1)

    -- one that is done, and of which both name the same effect
    module _ (done : Done (called c h t time d)) where
      done_there : Done (link c h t time d)
      done_there = numbers ∙ done

      effect_agrees : (place : ℕ) (x : Effect) → place ≡ place_of c t → (Done (link c h t time d) → Does (link c h t time d) d place x)
          → (Done (called c h t time d) → Does (called c h t time d) d place x) → Agree
      effect_agrees place x here f g =
          let a = f done_there in
          let b = g done in
          same_left _ _ _ _ _ _
          (same_outcome _ _ _ _ _ _ _ _ _ _ (first.done_sets_the_time c h t time d done_there ∙ sym (done_sets_the_time c h t time d done)) numbers
          (a.writes ∙ sym b.writes) (a.size ∙ sym b.size) (a.says ∙ sym b.says))
          (same_table _ _ (others.count c h t time d ∙ sym (others_unchanged.count c h t time d)) (λ i. by i (same_number i place) a.leaves b.leaves))
          (a.buffer ∙ sym b.buffer)
        where
          by : (i : ℕ) → EitherWay (i ≡ place) → record_at (link c h t time d).table place ≡ x.after → record_at (called c h t time d).table place ≡ x.after
              → record_at (link c h t time d).table i ≡ record_at (called c h t time d).table i
          by i (inl e) a b = subst (λ (y : ℕ). record_at (link c h t time d).table y ≡ record_at (called c h t time d).table y) (sym e) (a ∙ sym b)
          by i (inr n) a b =
              let elsewhere : i ≡ place_of c t → ⊥ = λ e. n (e ∙ sym here) in others.records c h t time d i elsewhere ∙ sym (others_unchanged.records c h t time d i elsewhere)

  -- A tick

  module _ (h : Head) (t : List Record) (i time : ℕ) (d : List ℕ) (done : Done (called (Tick i) h t time d)) where
    abbrev r : Record
    r = record_at t i

    abbrev Ticks : Type 0
    Ticks = link (Tick i) h t time d ≡ called (Tick i) h t time d

    ticks_by : (x : Effect) → (Done (link (Tick i) h t time d) → Does (link (Tick i) h t time d) d i x) → (Done (called (Tick i) h t time d) → Does (called (Tick i) h t time d) d i x) → Ticks
    ticks_by x f g = effect_agrees (Tick i) h t time d done i x refl f g

    -- an answer awaited
    waiting_tick : (phase reason : ℕ) (last : Bool) → LateCloses link phase reason last → LateCloses called phase reason last → 2 ≤ phase → phase ≤ 4 → r.phase ≡ phase → Ticks
    waiting_tick phase reason last theirs ours low high p = by (later (r.sent_at + 5000) time)
      where
        by : (r.sent_at + 5000 < time) ⊎ (time ≤ r.sent_at + 5000) → Ticks
        by (inl over) = ticks_by _ (theirs (Tick i) h t i time d (tick refl) p over) (ours (Tick i) h t i time d (tick refl) p over)
        by (inr ok) =
            let listens : Listens r time = set_up (omega arith) (omega arith) ok in
            ticks_by _ (ends.ticks_in_time.early h t i time d listens (λ five. absurd (omega arith))) (demand_2_one_end.ticks_in_time.early h t i time d listens (λ five. absurd (omega arith)))

    open_tick : r.phase ≡ 5 → Ticks
    open_tick p = watch (same_number r.watched 0) (later (r.taken_at + r.watched) time)
      where
        quiet : InTime r time → (Due r time → ⊥) → Ticks
        quiet ok none =
            ticks_by _ (ends.ticks_in_time.early h t i time d (open_here p ok) (λ p. none)) (demand_2_one_end.ticks_in_time.early h t i time d (open_here p ok) (λ p. none))

        half : InTime r time → (r.declared ≡ 0 → ⊥) → (2 * time < 2 * r.sent_at + r.declared) ⊎ (2 * r.sent_at + r.declared ≤ 2 * time) → Ticks
        half ok some (inl l) = quiet ok (λ due. let h = due.half in omega arith)
        half ok some (inr l) =
            let due : Due r time = record { declares = some; half = l; in_time = ok } in
            ticks_by _ (ends.ticks_in_time.due h t i time d p due) (demand_2_one_end.ticks_in_time.due h t i time d p due)

        idle : InTime r time → EitherWay (r.declared ≡ 0) → Ticks
        idle ok (inl none) = quiet ok (λ due. due.declares none)
        idle ok (inr some) = half ok some (later (2 * time) (2 * r.sent_at + r.declared))

        watch : EitherWay (r.watched ≡ 0) → (r.taken_at + r.watched < time) ⊎ (time ≤ r.taken_at + r.watched) → Ticks
        watch (inl none) l = idle (λ some. absurd (some none)) (same_number r.declared 0)
        watch (inr some) (inl over) =
            ticks_by _ (ends.silence_closes_here (Tick i) h t i time d (tick refl) p some over) (demand_2_one_end.silence_closes_here (Tick i) h t i time d (tick refl) p some over)
        watch (inr some) (inr ok) = idle (λ some. ok) (same_number r.declared 0)

    tick_agrees : 1 ≤ r.phase → r.phase ≤ 5 → Ticks
    tick_agrees low high =
        phases (λ (q : ℕ). r.phase ≡ q → Ticks) r.phase low high
        (λ p. ticks_by _ (ends.ticks_in_time.closed h t i time d p) (demand_2_one_end.ticks_in_time.closed h t i time d p))
        (waiting_tick 2 0x02 false ends.late_answer_closes.confirm demand_2_one_end.late_answer_closes.confirm (omega arith) (omega arith))
        (waiting_tick 3 0x03 true ends.late_answer_closes.authentication demand_2_one_end.late_answer_closes.authentication (omega arith) (omega arith))
        (waiting_tick 4 0x03 true ends.late_answer_closes.acknowledgement demand_2_one_end.late_answer_closes.acknowledgement (omega arith) (omega arith)) open_tick refl

  -- A receipt

  module _ (x : Receipt) (done : Done (takes called x)) where
    abbrev q : Record
    q = record_for x

    abbrev c : Call
    c = Received x.route x.random x.idle_time x.telegram x.net

    abbrev Takes : Type 0
    Takes = takes link x ≡ takes called x

    takes_by : (e : Effect) → ReceiptDoes link x e → ReceiptDoes called x e → Takes
    takes_by e f g = effect_agrees c x.head x.table x.time x.buffer done (place_for x) e refl f g

    passing? : EitherWay (Passing x)
    passing? = passes_or_not (check_of (end_of q x.head.own) (expected_now q) x.telegram)

    looks : LooksAt c x.table (place_for x)
    looks = receipt x.route x.random x.idle_time x.telegram x.net refl refl

    -- closed
    closed_takes : q.phase ≡ 1 → Takes
    closed_takes p = by passing? (same_kind (kind_of x) kind.Request) (true_or_false (good_version x.telegram))
      where
        drop : (GoodRequest x → ⊥) → Takes
        drop bad = takes_by _ (ends.when_closed.drops x p bad) (demand_2_one_end.when_closed.drops x p bad)

        by : EitherWay (Passing x) → EitherWay (kind_of x ≡ kind.Request) → (good_version x.telegram ≡ true) ⊎ (good_version x.telegram ≡ false) → Takes
        by (inl a) (inl b) (inl v) =
            let good : GoodRequest x = record { passes = a; kind = b; version = v } in
            takes_by _ (ends.when_closed.confirms x p good) (demand_2_one_end.when_closed.confirms x p good)
        by (inl a) (inl b) (inr v) = drop (λ good. let n : ◌≡◌ {A = Bool} true false = sym good.version ∙ v in let z : ◌≡◌ {A = ℕ} 0 1 = cc in omega arith)
        by (inl a) (inr b) v = drop (λ good. b good.kind)
        by (inr a) b v = drop (λ good. a good.passes)

    -- incorrect, or a disconnect of the partner: in all the other phases
    incorrect_takes : Listens q x.time → (Passing x → ⊥) → Takes
    incorrect_takes listens n = takes_by _ (ends.incorrect_closes_here x listens n) (demand_2_one_end.incorrect_closes_here x listens n)

    disconnect_takes : Listens q x.time → Passing x → kind_of x ≡ kind.Disconnect → Takes
    disconnect_takes listens a k = takes_by _ (ends.partner_closes_here x listens a k) (demand_2_one_end.partner_closes_here x listens a k)

    -- an answer awaited: late, or in time
    waiting_takes : (phase reason : ℕ) (last : Bool) → LateCloses link phase reason last → LateCloses called phase reason last → q.phase ≡ phase
        → (Awaiting q x.time phase → Takes) → Takes
    waiting_takes phase reason last theirs ours p in_time = by (later (q.sent_at + 5000) x.time)
      where
        by : (q.sent_at + 5000 < x.time) ⊎ (x.time ≤ q.sent_at + 5000) → Takes
        by (inl over) =
            takes_by _ (theirs c x.head x.table (place_for x) x.time x.buffer looks p over) (ours c x.head x.table (place_for x) x.time x.buffer looks p over)
        by (inr ok) = in_time (record { phase_is = p; in_time = ok })

    -- a confirm
    confirm_takes : Awaiting q x.time 2 → Takes
    confirm_takes w = by passing? (same_kind (kind_of x) kind.Confirm) (same_kind (kind_of x) kind.Disconnect) (true_or_false (good_version x.telegram))
      where
        listens : Listens q x.time
        listens = let p = w.phase_is in set_up (omega arith) (omega arith) w.in_time

        by : EitherWay (Passing x) → EitherWay (kind_of x ≡ kind.Confirm) → EitherWay (kind_of x ≡ kind.Disconnect)
            → (good_version x.telegram ≡ true) ⊎ (good_version x.telegram ≡ false) → Takes
        by (inr n) k l v = incorrect_takes listens n
        by (inl a) (inl k) l (inl v) = takes_by _ (ends.confirm_awaited.authenticates x w a k v) (demand_2_one_end.confirm_awaited.authenticates x w a k v)
        by (inl a) (inl k) l (inr v) = takes_by _ (ends.confirm_awaited.other_version x w a k v) (demand_2_one_end.confirm_awaited.other_version x w a k v)
        by (inl a) (inr k) (inl l) v = disconnect_takes listens a l
        by (inl a) (inr k) (inr l) v = takes_by _ (ends.confirm_awaited.ignores x w a k l) (demand_2_one_end.confirm_awaited.ignores x w a k l)

    -- an authentication or an acknowledgement
    answer_takes : (phase n : ℕ) (k : Kind) (right : Receipt → Effect) → AnswerAwaited link phase n k right → AnswerAwaited called phase n k right → 3 ≤ phase → phase ≤ 4
        → Awaiting q x.time phase → Takes
    answer_takes phase n k right theirs ours low high w =
        by passing? (same_kind (kind_of x) k) (same_kind (kind_of x) kind.Disconnect) (same_number (authentication_of x.telegram) (authentication_number q.level (back n q.sending)))
      where
        listens : Listens q x.time
        listens = let p = w.phase_is in set_up (omega arith) (omega arith) w.in_time

        by : EitherWay (Passing x) → EitherWay (kind_of x ≡ k) → EitherWay (kind_of x ≡ kind.Disconnect) → EitherWay (ReturnsOurs x n) → Takes
        by (inr none) b l v = incorrect_takes listens none
        by (inl a) (inl b) l (inl v) = takes_by _ (theirs.answers x w a b v) (ours.answers x w a b v)
        by (inl a) (inl b) l (inr v) = takes_by _ (theirs.wrong_number x w a b v) (ours.wrong_number x w a b v)
        by (inl a) (inr b) (inl l) v = disconnect_takes listens a l
        by (inl a) (inr b) (inr l) v = takes_by _ (theirs.another x w a b l) (ours.another x w a b l)

    -- open
    open_takes : q.phase ≡ 5 → Takes
    open_takes p = watch (same_number q.watched 0) (later (q.taken_at + q.watched) x.time)
      where
        anew : ForAnOpen x → Passing x → SetsUpAnew (kind_of x) → Takes
        anew o a k = takes_by _ (ends.when_open.set_up_anew x o a k) (demand_2_one_end.when_open.set_up_anew x o a k)

        taken : ForAnOpen x → Passing x → (k : Kind) → kind_of x ≡ k → Takes
        taken o a kind.Request e = anew o a (inl e)
        taken o a kind.Confirm e = anew o a (inr (inl e))
        taken o a kind.Authentication e = anew o a (inr (inr (inl e)))
        taken o a kind.Acknowledgement e = anew o a (inr (inr (inr e)))
        taken o a kind.Disconnect e = disconnect_takes (open_here p o.in_time) a e
        taken o a kind.Idle e = takes_by _ (ends.when_open.takes_idle x o a e) (demand_2_one_end.when_open.takes_idle x o a e)
        taken o a kind.Data e = takes_by _ (ends.when_open.hands_up_holds x o a e) (demand_2_one_end.when_open.hands_up_holds x o a e)
        taken o a kind.Unknown e = absurd (unknown_is_not (subst (λ (k : Kind). known k ≡ true) e (kind_known x a)))

        by : InTime q x.time → EitherWay (Passing x) → Takes
        by ok (inr n) = incorrect_takes (open_here p ok) n
        by ok (inl a) = taken (record { open_here = p; in_time = ok }) a (kind_of x) refl

        watch : EitherWay (q.watched ≡ 0) → (q.taken_at + q.watched < x.time) ⊎ (x.time ≤ q.taken_at + q.watched) → Takes
        watch (inl none) l = by (λ some. absurd (some none)) passing?
        watch (inr some) (inl over) =
            takes_by _ (ends.silence_closes_here c x.head x.table (place_for x) x.time x.buffer looks p some over)
            (demand_2_one_end.silence_closes_here c x.head x.table (place_for x) x.time x.buffer looks p some over)
        watch (inr some) (inr ok) = by (λ some. ok) passing?

    receipt_agrees : 1 ≤ q.phase → q.phase ≤ 5 → Takes
    receipt_agrees low high =
        phases (λ (y : ℕ). q.phase ≡ y → Takes) q.phase low high closed_takes
        (λ p. waiting_takes 2 0x02 false ends.late_answer_closes.confirm demand_2_one_end.late_answer_closes.confirm p confirm_takes)
        (λ p.
        waiting_takes 3 0x03 true ends.late_answer_closes.authentication demand_2_one_end.late_answer_closes.authentication p
        (answer_takes 3 1 kind.Authentication _ ends.authentication_awaited demand_2_one_end.authentication_awaited (omega arith) (omega arith)))
        (λ p.
        waiting_takes 4 0x03 true ends.late_answer_closes.acknowledgement demand_2_one_end.late_answer_closes.acknowledgement p
        (answer_takes 4 2 kind.Acknowledgement _ ends.acknowledgement_awaited demand_2_one_end.acknowledgement_awaited (omega arith) (omega arith)))
        open_takes refl

  -- Any call that is done

  done_agrees : (c : Call) (h : Head) (t : List Record) (time : ℕ) (d : List ℕ) → Done (called c h t time d) → link c h t time d ≡ called c h t time d
  unfolding received_refusal tick_refusal
  done_agrees (Open i random idle_time net) h t time d done =
      effect_agrees (Open i random idle_time net) h t time d done i _ refl (ends.calls_of_ours.opens i random idle_time net h t time d) (demand_2_one_end.calls_of_ours.opens i random idle_time net h t time d)
  done_agrees (Close i type reason text) h t time d done =
      effect_agrees (Close i type reason text) h t time d done i _ refl (ends.calls_of_ours.closes i type reason text h t time d) (demand_2_one_end.calls_of_ours.closes i type reason text h t time d)
  done_agrees (Send i low net) h t time d done =
      effect_agrees (Send i low net) h t time d done i _ refl (ends.calls_of_ours.sends i low net h t time d) (demand_2_one_end.calls_of_ours.sends i low net h t time d)
  done_agrees (Received w random idle_time telegram net) h t time d done =
      let x : Receipt = record { route = w; random = random; idle_time = idle_time; telegram = telegram; net = net; head = h; table = t; time = time; buffer = d } in
      let g = carried (Received w random idle_time telegram net) h t time d done in
      let n = answers.by_received (record_for x) h.own time random idle_time telegram net d in
      let p = live_phase (record_for x) h.own (received_refusal (record_for x) h.own idle_time telegram net d) _ _ _ _ refl (sym n ∙ g.number) in
      receipt_agrees x done p.0 p.1
  done_agrees (Tick i) h t time d done =
      let g = carried (Tick i) h t time d done in
      let n = answers.by_tick (record_at t i) h.own time d in
      let p = live_phase (record_at t i) h.own (tick_refusal (record_at t i) h.own d) _ _ _ _ refl (sym n ∙ g.number) in
      tick_agrees h t i time d done p.0 p.1

pub demands_determine_the_link : DemandsDetermineTheLink
demands_determine_the_link link one two c h t time d = by (same_number (called c h t time d).outcome.answer.number 0)
  where
    by : EitherWay (Done (called c h t time d)) → link c h t time d ≡ called c h t time d
    by (inl done) = done_agrees link one two.one_step.isolation.others_unchanged two.one_end c h t time d done
    by (inr other) = refused_agree link one two.one_step.isolation.others_unchanged two.one_end c h t time d other

-- Both pass exactly the telegrams that there are.
pub demand_3_determines_what_passes : Demand3DeterminesWhatPasses
demand_3_determines_what_passes check three e n t bytes =
    let theirs = three.passes_exactly e n t bytes in
    let ours = passes_exactly e n t bytes in (
      λ p. let q = theirs.0 p in ours.1 q.0 q.1,
      λ p. let q = ours.0 p in theirs.1 q.0 q.1,
    )
