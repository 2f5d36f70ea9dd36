-- Phases by case: what holds in each holds in any, what the table says of a number that is no phase, and in which phase a step may begin.
-- Assumes nothing.
use Rattle.std.proofs.lemmas.List.{get_or_past}
use Rattle.std.proofs.Common.{slice_index_or, ◌-◌, ◌≡◌, ℕ, zero, suc, ◌≤◌, Bool, true, false, eqb, leb, List, [], ◌∷◌, sym, refl, ap, ◌∙◌, arith, eq-eqb, ne_eqb, leb-true}
use Rattle.ground.specs.Choice.{pick, all}
use Rattle.telegram.specs.Ends.{in_range}
use Rattle.telegram.specs.Values.{good_idle}
use Rattle.telegram.specs.declared.Kind.{Kind}
use Rattle.telegram.specs.declared.Kind.TheVariants as kind
use Rattle.telegram.proofs.Refusals.{both_true}
use Rattle.link.specs.Named.{column}
use Rattle.link.specs.Records.{become, end_of, is_phase, is_closed, at_rest, record_in_range}
use Rattle.link.specs.Table.{Cell, ◌⇒◌, f00, stays, Timeout-snd, Incorrect-rcv-1st}
use Rattle.link.specs.Times.{idle_due}
use Rattle.link.specs.Judged.{row_of, ruled, run_out, run_out_verdict, on_tick, ticked}
use Rattle.link.specs.Steps.{neb, first_refusal, act_of, act_out}
use Rattle.link.specs.declared.Record.{Record}
use Rattle.link.specs.declared.Step.{Step}
use Rattle.link.specs.declared.Verdict.{Verdict}
use Rattle.link.specs.declared.Verdict.TheVariants.{Nothing}

-- a record after a step, field by field
pub becomes : (r : Record) (phase sending expected declared watched sentAt takenAt : ℕ) → become r phase sending expected declared watched sentAt takenAt
    ≡ record {
      partner = r.partner;
      partner_sap = r.partner_sap;
      local_sap = r.local_sap;
      level = r.level;
      phase = phase;
      sending = sending;
      expected = expected;
      declared = declared;
      watched = watched;
      sent_at = sentAt;
      taken_at = takenAt;
    }
unfolding become
becomes r phase sending expected declared watched sentAt takenAt = refl

-- what holds in each of the six phases holds in any of them
pub columns : (P : ℕ → Type 0) (p : ℕ) → 1 ≤ p → p ≤ 6 → P 1 → P 2 → P 3 → P 4 → P 5 → P 6 → P p
columns P zero l h a b c d e f = absurd (omega arith)
columns P (suc zero) l h a b c d e f = a
columns P (suc (suc zero)) l h a b c d e f = b
columns P (suc (suc (suc zero))) l h a b c d e f = c
columns P (suc (suc (suc (suc zero)))) l h a b c d e f = d
columns P (suc (suc (suc (suc (suc zero))))) l h a b c d e f = e
columns P (suc (suc (suc (suc (suc (suc zero)))))) l h a b c d e f = f
columns P (suc (suc (suc (suc (suc (suc (suc p))))))) l h a b c d e f = absurd (omega arith)

-- and so from 1 to 5
pub phases : (P : ℕ → Type 0) (p : ℕ) → 1 ≤ p → p ≤ 5 → P 1 → P 2 → P 3 → P 4 → P 5 → P p
phases P p l h a b c d e = columns (λ (q : ℕ). q ≤ 5 → P q) p l (omega arith) (λ _. a) (λ _. b) (λ _. c) (λ _. d) (λ _. e) (λ m. absurd (omega arith)) h

-- what holds of each column and of the numbers that fall to it holds of any number and its column
falls : (P : ℕ → ℕ → Type 0) (p : ℕ) → P 1 0 → P 1 1 → P 2 2 → P 3 3 → P 4 4 → P 5 5 → P 6 6 → ((q : ℕ) → 7 ≤ q → P 6 q) → P (column p) p
falls P zero z a b c d e f g = z
falls P (suc zero) z a b c d e f g = a
falls P (suc (suc zero)) z a b c d e f g = b
falls P (suc (suc (suc zero))) z a b c d e f g = c
falls P (suc (suc (suc (suc zero)))) z a b c d e f g = d
falls P (suc (suc (suc (suc (suc zero))))) z a b c d e f g = e
falls P (suc (suc (suc (suc (suc (suc zero)))))) z a b c d e f g = f
falls P (suc (suc (suc (suc (suc (suc (suc p))))))) z a b c d e f g = above (suc (suc (suc (suc (suc (suc (suc p))))))) (omega arith)
  where
    above : (q : ℕ) → 7 ≤ q → P (column q) q
    above q h = let e : column q ≡ 6 = omega arith in rw e (g q h)

-- a number above the last column's has no cell in any row
no_cell : (a b c d e f : Cell) (p : ℕ) → 7 ≤ p → slice_index_or (a ∷ b ∷ c ∷ d ∷ e ∷ f ∷ []) (p - 1) (f00 ⇒ stays) ≡ f00 ⇒ stays
no_cell a b c d e f p h = get_or_past (a ∷ b ∷ c ∷ d ∷ e ∷ f ∷ []) (p - 1) (f00 ⇒ stays) (omega arith)

nothing_above : (k : Kind) (p : ℕ) → 7 ≤ p → ruled (row_of k) p ≡ Nothing
nothing_above kind.Request p h = rw no_cell
nothing_above kind.Confirm p h = rw no_cell
nothing_above kind.Authentication p h = rw no_cell
nothing_above kind.Acknowledgement p h = rw no_cell
nothing_above kind.Disconnect p h = rw no_cell
nothing_above kind.Idle p h = rw no_cell
nothing_above kind.Data p h = rw no_cell
nothing_above kind.Unknown p h = rw no_cell

-- the table says of a number what it says of its column
pub ruled_by_column : (k : Kind) (p : ℕ) → ruled (row_of k) (column p) ≡ ruled (row_of k) p
unfolding pick
ruled_by_column kind.Request p = falls (λ x y. ruled (row_of kind.Request) x ≡ ruled (row_of kind.Request) y) p refl refl refl refl refl refl refl (λ q h. sym (nothing_above kind.Request q h))
ruled_by_column kind.Confirm p = falls (λ x y. ruled (row_of kind.Confirm) x ≡ ruled (row_of kind.Confirm) y) p refl refl refl refl refl refl refl (λ q h. sym (nothing_above kind.Confirm q h))
ruled_by_column kind.Authentication p = falls (λ x y. ruled (row_of kind.Authentication) x ≡ ruled (row_of kind.Authentication) y) p refl refl refl refl refl refl refl (λ q h. sym (nothing_above kind.Authentication q h))
ruled_by_column kind.Acknowledgement p = falls (λ x y. ruled (row_of kind.Acknowledgement) x ≡ ruled (row_of kind.Acknowledgement) y) p refl refl refl refl refl refl refl (λ q h. sym (nothing_above kind.Acknowledgement q h))
ruled_by_column kind.Disconnect p = falls (λ x y. ruled (row_of kind.Disconnect) x ≡ ruled (row_of kind.Disconnect) y) p refl refl refl refl refl refl refl (λ q h. sym (nothing_above kind.Disconnect q h))
ruled_by_column kind.Idle p = falls (λ x y. ruled (row_of kind.Idle) x ≡ ruled (row_of kind.Idle) y) p refl refl refl refl refl refl refl (λ q h. sym (nothing_above kind.Idle q h))
ruled_by_column kind.Data p = falls (λ x y. ruled (row_of kind.Data) x ≡ ruled (row_of kind.Data) y) p refl refl refl refl refl refl refl (λ q h. sym (nothing_above kind.Data q h))
ruled_by_column kind.Unknown p = falls (λ x y. ruled (row_of kind.Unknown) x ≡ ruled (row_of kind.Unknown) y) p refl refl refl refl refl refl refl (λ q h. sym (nothing_above kind.Unknown q h))

pub incorrect_by_column : (p : ℕ) → ruled Incorrect-rcv-1st (column p) ≡ ruled Incorrect-rcv-1st p
incorrect_by_column p = ruled_by_column kind.Unknown p

pub run_out_by_column : (p : ℕ) → run_out_verdict (column p) ≡ run_out_verdict p
unfolding run_out_verdict pick
run_out_by_column p =
    falls (λ x y. run_out_verdict x ≡ run_out_verdict y) p refl refl refl refl refl refl refl (λ q h. rw (ne_eqb q 5 (λ e. omega arith), no_cell))

-- the last column has no action
pub last_column : (k : Kind) → ruled (row_of k) 6 ≡ Nothing
unfolding pick
last_column kind.Request = refl
last_column kind.Confirm = refl
last_column kind.Authentication = refl
last_column kind.Acknowledgement = refl
last_column kind.Disconnect = refl
last_column kind.Idle = refl
last_column kind.Data = refl
last_column kind.Unknown = refl

-- what holds of both sides holds of the one that a test picks
pub either : {A : Type 0} (P : A → Type 0) (b : Bool) (x y : A) → P x → P y → P (pick b x y)
unfolding pick
either P true x y p q = p
either P false x y p q = q

-- a tick asks for nothing that needs a telegram
pub tick_asks : (r : Record) (time : ℕ) → on_tick (ticked r time) ≡ ticked r time
unfolding ticked run_out_verdict pick
tick_asks r time =
    let own : Verdict → Type 0 = λ v. on_tick v ≡ v in
    either own (run_out r time) _ _
    (falls (λ _ p. own (run_out_verdict p)) r.phase refl refl refl refl refl refl refl (λ q h. rw (ne_eqb q 5 (λ e. omega arith), no_cell)))
    (either own (eqb r.phase 5) _ Nothing
    (either own (idle_due r time) _ Nothing
    (falls (λ _ p. own (ruled Timeout-snd p)) r.phase refl refl refl refl refl refl refl (λ q h. rw (ne_eqb q 4 (λ e. omega arith), no_cell))) refl) refl)

-- what the step of a tick is, and what it leaves, goes by its verdict alone
pub tick_step_is : (v w : Verdict) (r : Record) (own time : ℕ) (d : List ℕ) (s : Step) → v ≡ w
    → s ≡ act_of (on_tick w) r own time 0 0 [] [] d → s ≡ act_of (on_tick v) r own time 0 0 [] [] d
tick_step_is v w r own time d s e h = rw e h

pub tick_out_is : (v w : Verdict) (r : Record) (own : ℕ) (d x : List ℕ) → v ≡ w
    → x ≡ act_out (on_tick w) r own 0 0 [] [] d → x ≡ act_out (on_tick v) r own 0 0 [] [] d
tick_out_is v w r own d x e h = rw e h

-- with no refusal every test holds
pub record Clear (a b c d e f : Bool) : Type 0 where
  pub ranged : a ≡ true
  pub room : b ≡ true
  pub carried : c ≡ true
  pub live : d ≡ true
  pub suited : e ≡ true
  pub allowed : f ≡ true

pub clear : (a b c d e f : Bool) → first_refusal a b c d e f ≡ 0 → Clear a b c d e f
unfolding first_refusal pick
clear true true true true true true p = record { ranged = refl; room = refl; carried = refl; live = refl; suited = refl; allowed = refl }
clear true true true true true false p = absurd (omega arith)
clear true true true true false f p = absurd (omega arith)
clear true true true false e f p = absurd (omega arith)
clear true true false d e f p = absurd (omega arith)
clear true false c d e f p = absurd (omega arith)
clear false b c d e f p = absurd (omega arith)

different : (x y : ℕ) → neb x y ≡ true → x ≡ y → ⊥
unfolding pick
different x y h e = let z : ◌≡◌ {A = Bool} false true = sym (ap (λ (b : Bool). pick b false true) (eq-eqb x y e)) ∙ h in let n : ◌≡◌ {A = ℕ} 0 1 = cc in omega arith

-- no refusal: the record is in one of the phases from 1 to 5
pub live_phase : (r : Record) (own n : ℕ) (room carried suited allowed : Bool)
    → n ≡ first_refusal (record_in_range r own) room carried (neb r.phase 6) suited allowed → n ≡ 0 → (1 ≤ r.phase) × (r.phase ≤ 5)
unfolding record_in_range is_phase
live_phase r own n room carried suited allowed p z =
    let k = clear (record_in_range r own) room carried (neb r.phase 6) suited allowed (sym p ∙ z) in
    let ranged = both_true (in_range (end_of r own)) (all (is_phase r.phase ∷ good_idle r.declared ∷ good_idle r.watched ∷ pick (is_closed r.phase) (at_rest r) true ∷ [])) k.ranged in
    let phase = both_true (is_phase r.phase) (all (good_idle r.declared ∷ good_idle r.watched ∷ pick (is_closed r.phase) (at_rest r) true ∷ [])) ranged.1 in
    let bounds = both_true (leb 1 r.phase) (leb r.phase 6) phase.0 in
    (leb-true 1 r.phase bounds.0, below r.phase (leb-true r.phase 6 bounds.1) (different r.phase 6 k.live))
  where
    below : (p : ℕ) → p ≤ 6 → (p ≡ 6 → ⊥) → p ≤ 5
    below p h d = omega arith
