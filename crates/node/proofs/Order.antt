-- The order of the refusals: what is asked of the table comes first, then the step's own refusals of the record, and a step that is refused changes nothing.
--     refused-by-table     a refusal before the record is looked at
--     refused-answered, answered-by     which number is answered
--     left-by-step         else what the step leaves is what the call leaves
-- Assumes nothing.
use mathlib.Core.Path.{◌≡◌, refl, sym, ap, ◌∙◌}
use mathlib.Core.Bool.{Bool, true, false, not}
use mathlib.Core.List.{List, [], ◌∷◌}
use Prim.Native.Nat.{ℕ, zero, suc, ◌<◌}
use native.Mathlib.Nat.{not-suc-le-zero, le_of_suc-le-suc}
use lib.ListN.{length, set}
use lib.Dec.{T, leb, ltb, eqb, ltb→lt}
use Rattle.ground.specs.Choice.{pick, all}
use Rattle.telegram.specs.Layout.{longest}
use Rattle.telegram.proofs.Refusals.{both_true}
use Rattle.link.specs.Records.{record_in_range}
use Rattle.link.specs.Steps.{first_refusal, refused_step, open_refusal, open_of, open_out, close_refusal, close_of, close_out, send_refusal, send_of, send_out, received_refusal, received_of, received_out, tick_refusal, tick_of, tick_out}
use Rattle.link.specs.declared.Record.{Record}
use Rattle.node.specs.declared.Head.{Head}
use Rattle.node.specs.declared.Outcome.{Outcome}
use Rattle.node.specs.Accepted.{record_at, bounds_accepted, record_accepted, all_accepted, has_pair, accepted}
use Rattle.node.specs.Refusals.{order, of_record, first, before}
use Rattle.node.specs.Calls.{Call, place_of, carried_by, asked, step_of, step_out, refused_outcome, settled, called}
use Rattle.node.specs.Calls.Call.{Open, Close, Send, Received, Tick}
use Rattle.node.proofs.Searches.{pick_true, pick_false}

-- the five tests of the table, then the rest
table_first : (a r t c p : Bool) (rest : ℕ) → pick a (pick r (pick t (pick c (pick p rest 2) 6) 7) 4) 1
    ≡ pick (eqb (pick a (pick r (pick t (pick c (pick p 0 2) 6) 7) 4) 1) 0) rest (pick a (pick r (pick t (pick c (pick p 0 2) 6) 7) 4) 1)
unfolding pick
table_first false r t c p rest = refl
table_first true false t c p rest = refl
table_first true true false c p rest = refl
table_first true true true false p rest = refl
table_first true true true true false rest = refl
table_first true true true true true rest = refl

-- all five hold
pub record Fine (a r t c p : Bool) : Type 0 where
  pub table : a ≡ true
  pub room : r ≡ true
  pub timely : t ≡ true
  pub carried : c ≡ true
  pub placed : p ≡ true

pub all_fine : (a r t c p : Bool) → T (eqb (pick a (pick r (pick t (pick c (pick p 0 2) 6) 7) 4) 1) 0) → Fine a r t c p
unfolding pick
all_fine false r t c p h = absurd h
all_fine true false t c p h = absurd h
all_fine true true false c p h = absurd h
all_fine true true true false p h = absurd h
all_fine true true true true false h = absurd h
all_fine true true true true true h = record { table = refl; room = refl; timely = refl; carried = refl; placed = refl }

-- every record of an accepted table is accepted
pub accepted_at : (h : Head) (t : List Record) (i : ℕ) → all_accepted h t ≡ true → i < length t → record_accepted h (record_at t i) ≡ true
accepted_at h [] i e l = absurd (not-suc-le-zero l)
accepted_at h (r ∷ rs) zero e l = (both_true (record_accepted h r) (all_accepted h rs) e).0
accepted_at h (r ∷ rs) (suc i) e l = accepted_at h rs i (both_true (record_accepted h r) (all_accepted h rs) e).1 (le_of_suc-le-suc l)

-- what an accepted table is
pub record Table (h : Head) (t : List Record) : Type 0 where
  pub bounds : bounds_accepted (length t) h.own ≡ true
  pub records : all_accepted h t ≡ true
  pub apart : not (has_pair t) ≡ true

pub table_of : (h : Head) (t : List Record) → accepted h t ≡ true → Table h t
unfolding accepted
table_of h t e =
    let a = both_true (bounds_accepted (length t) h.own) (all (all_accepted h t ∷ not (has_pair t) ∷ [])) e in let b = both_true (all_accepted h t) (not (has_pair t)) a.1 in
    record { bounds = a.0; records = b.0; apart = b.1 }

pub in_range_at : (h : Head) (t : List Record) (i : ℕ) → accepted h t ≡ true → i < length t → record_in_range (record_at t i) h.own ≡ true
unfolding record_accepted
in_range_at h t i e l =
    let g = accepted_at h t i (table_of h t e).records l in
    let a = both_true (leb (record_at t i).sent_at h.latest) (all (leb (record_at t i).taken_at h.latest ∷ record_in_range (record_at t i) h.own ∷ [])) g in
    (both_true (leb (record_at t i).taken_at h.latest) (record_in_range (record_at t i) h.own) a.1).1

-- the step's own refusal
abbrev pub refusal_of : Call → Record → ℕ → List ℕ → ℕ
refusal_of (Open place random i net) r own d = open_refusal r own i net d
refusal_of (Close place type reason text) r own d = close_refusal r own type reason text d
refusal_of (Send place low net) r own d = send_refusal r own low net d
refusal_of (Received w random i telegram net) r own d = received_refusal r own i telegram net d
refusal_of (Tick place) r own d = tick_refusal r own d

-- of a record in range, with room and a telegram that the bus carries, it is what the list asks of the record
own_refusal : (c : Call) (h : Head) (t : List Record) (time : ℕ) (d : List ℕ) → record_in_range (record_at t (place_of c t)) h.own ≡ true → leb longest (length d) ≡ true → carried_by c ≡ true
    → refusal_of c (record_at t (place_of c t)) h.own d ≡ first (of_record (asked c h t time d))
unfolding pick first_refusal open_refusal close_refusal send_refusal received_refusal tick_refusal asked
own_refusal (Open place random i net) h t time d g r k = rw (g, r) refl
own_refusal (Close place type reason text) h t time d g r k = rw (g, r) refl
own_refusal (Send place low net) h t time d g r k = rw (g, r) refl
own_refusal (Received w random i telegram net) h t time d g r k = rw (g, r, k) refl
own_refusal (Tick place) h t time d g r k = rw (g, r) refl

-- a step that is refused changes nothing
refused_step_holds : (c : Call) (r : Record) (own time : ℕ) (d : List ℕ) → eqb (refusal_of c r own d) 0 ≡ false
    → (step_of c r own time d ≡ refused_step (refusal_of c r own d) r) × (step_out c r own time d ≡ d)
unfolding pick open_of open_out close_of close_out send_of send_out received_of received_out tick_of tick_out
refused_step_holds (Open place random i net) r own time d e = (rw e refl, rw e refl)
refused_step_holds (Close place type reason text) r own time d e = (rw e refl, rw e refl)
refused_step_holds (Send place low net) r own time d e = (rw e refl, rw e refl)
refused_step_holds (Received w random i telegram net) r own time d e = (rw e refl, rw e refl)
refused_step_holds (Tick place) r own time d e = (rw e refl, rw e refl)

-- a record put back where it was
pub put_back : (t : List Record) (i : ℕ) → set t i (record_at t i) ≡ t
put_back [] i = refl
put_back (r ∷ rs) zero = refl
put_back (r ∷ rs) (suc i) = ap (λ (m : List Record). r ∷ m) (put_back rs i)

-- what is said at a call's exit
abbrev pub Said : Call → Head → List Record → ℕ → List ℕ → Outcome → List Record → List ℕ → Type 0
Said c h t time d u zs ws = (u ≡ (called c h t time d).outcome) × ((zs ≡ (called c h t time d).table) × (ws ≡ (called c h t time d).out))

-- the first refusal of the whole list, by that of the table
by_table : (c : Call) (h : Head) (t : List Record) (time : ℕ) (d : List ℕ)
    → first (order (asked c h t time d)) ≡ pick (eqb (before h t time (length d) (carried_by c) (place_of c t)) 0) (first (of_record (asked c h t time d))) (before h t time (length d) (carried_by c) (place_of c t))
unfolding asked before
by_table c h t time d = table_first (accepted h t) (leb longest (length d)) (leb h.latest time) (carried_by c) (ltb (place_of c t) (length t)) _

is_no : (b : Bool) → T (not b) → b ≡ false
is_no true g = absurd g
is_no false g = refl

is_yes : (b : Bool) → T b → b ≡ true
is_yes true g = refl
is_yes false g = absurd g

-- a refusal of the table is the first of the whole list
pub refused_answered : (c : Call) (h : Head) (t : List Record) (time : ℕ) (d : List ℕ) → T (not (eqb (before h t time (length d) (carried_by c) (place_of c t)) 0))
    → first (order (asked c h t time d)) ≡ before h t time (length d) (carried_by c) (place_of c t)
refused_answered c h t time d z = by_table c h t time d ∙ pick_false _ _ _ (is_no _ z)

pub refused_by_table : (c : Call) (h : Head) (t : List Record) (time : ℕ) (d : List ℕ) → T (not (eqb (before h t time (length d) (carried_by c) (place_of c t)) 0))
    → Said c h t time d (refused_outcome (before h t time (length d) (carried_by c) (place_of c t)) h) t d
unfolding pick called
refused_by_table c h t time d z =
    let f = is_no (eqb (before h t time (length d) (carried_by c) (place_of c t)) 0) z in rw (refused_answered c h t time d z, f) (refl, (refl, refl))

-- and where there is none, all is as it should be before the record is looked at
pub fine_by : (c : Call) (h : Head) (t : List Record) (time : ℕ) (d : List ℕ) → T (eqb (before h t time (length d) (carried_by c) (place_of c t)) 0)
    → Fine (accepted h t) (leb longest (length d)) (leb h.latest time) (carried_by c) (ltb (place_of c t) (length t))
unfolding before
fine_by c h t time d z = all_fine _ _ _ _ _ z

-- there is such a record
pub placed : (c : Call) (h : Head) (t : List Record) (time : ℕ) (d : List ℕ) → T (eqb (before h t time (length d) (carried_by c) (place_of c t)) 0) → place_of c t < length t
placed c h t time d z = ltb→lt (place_of c t) (length t) (rw (fine_by c h t time d z).placed tt)

-- with the record's own refusal, or without
by_refusal : (c : Call) (h : Head) (t : List Record) (time : ℕ) (d : List ℕ) (b : Bool) → eqb (refusal_of c (record_at t (place_of c t)) h.own d) 0 ≡ b
    → first (order (asked c h t time d)) ≡ refusal_of c (record_at t (place_of c t)) h.own d
    → Said c h t time d (settled (step_of c (record_at t (place_of c t)) h.own time d) h time) (set t (place_of c t) (step_of c (record_at t (place_of c t)) h.own time d).«record»)
    (step_out c (record_at t (place_of c t)) h.own time d)
unfolding pick called settled refused_step
by_refusal c h t time d true f e = rw (e, f) (refl, (refl, refl))
by_refusal c h t time d false f e =
    let g = refused_step_holds c (record_at t (place_of c t)) h.own time d f in rw (e, f, g.0, g.1, f) (refl, (put_back t (place_of c t), refl))

-- the record's own refusal is the first of the whole list
pub answered_by : (c : Call) (h : Head) (t : List Record) (time : ℕ) (d : List ℕ) → T (eqb (before h t time (length d) (carried_by c) (place_of c t)) 0)
    → first (order (asked c h t time d)) ≡ refusal_of c (record_at t (place_of c t)) h.own d
answered_by c h t time d z =
    let fine = fine_by c h t time d z in
    by_table c h t time d ∙ pick_true _ _ _ (is_yes _ z) ∙ sym (own_refusal c h t time d (in_range_at h t (place_of c t) fine.table (placed c h t time d z)) fine.room fine.carried)

pub left_by_step : (c : Call) (h : Head) (t : List Record) (time : ℕ) (d : List ℕ) → T (eqb (before h t time (length d) (carried_by c) (place_of c t)) 0)
    → Said c h t time d (settled (step_of c (record_at t (place_of c t)) h.own time d) h time) (set t (place_of c t) (step_of c (record_at t (place_of c t)) h.own time d).«record»)
    (step_out c (record_at t (place_of c t)) h.own time d)
left_by_step c h t time d z = by_refusal c h t time d (eqb (refusal_of c (record_at t (place_of c t)) h.own d) 0) refl (answered_by c h t time d z)
