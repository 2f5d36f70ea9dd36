-- What each writer writes passes the check of the mirrored end, and its fields and net data read back: once for any telegram that has the layout of its kind,
-- then for the seven writers.
-- Assumes nothing.
use mathlib.Core.Path.{◌≡◌, refl, sym, ap, ap₂, ◌∙◌, subst}
use mathlib.Core.Bool.{Bool, true, false}
use mathlib.Core.Logic.{◌⊎◌, inl, inr}
use mathlib.Core.List.{List, [], ◌∷◌, ◌++◌, append_assoc}
use Prim.Native.Nat.{ℕ, zero, suc, ◌+◌, ◌-◌, ◌*◌, ◌/◌, ◌%◌, ◌^◌, ◌≤◌, ◌<◌}
use native.Mathlib.Nat.{mod-lt, mod-eq_of_lt, zero-lt-suc}
use native.Mathlib.Omega.{arith}
use lib.Pow.{pow_pos}
use lib.ListN.{length, take, drop, get_or}
use lib.Seq.{take_at, drop_at}
use lib.Dec.{leb, eqb, lit<}
use Rattle.std.specs.Prelude.{Option, Some}
use borrow.Author.Tests.{leb-true, le-leb, eqb-true, eq-eqb}
use Rattle.checkword.specs.Bytes.{Bytes, number, bytes_of}
use Rattle.checkword.proofs.Bytes.{bytes_append, number_bytes_of}
use Rattle.checkword.proofs.Facts.{below}
use Rattle.ground.specs.Choice.{pick, all}
use Rattle.telegram.specs.Levels.{top_bits, width, word_length, generator, added, level_of}
use Rattle.telegram.specs.Commands.{kind_of, kind_of_command, known}
use Rattle.telegram.specs.Layout.{layout, header, most, on_bus, suits, field_bytes, values}
use Rattle.telegram.specs.Ends.{is_level, in_range, sending, receiving, mirrored}
use Rattle.telegram.specs.Values.{good_idle, good_type, listed_reason, good_dual_bus, good_fields}
use Rattle.telegram.specs.Telegrams.{check_word, body, sealed, telegram, version_and_bus, authentication_number, request, confirm, authentication, acknowledgement, disconnect, idle, data_telegram}
use Rattle.telegram.specs.Writers.{refusal, unless, connect_allowed, disconnect_allowed, data_allowed, writes_request, writes_confirm, writes_authentication, writes_acknowledgement, writes_disconnect, writes_idle, writes_data}
use Rattle.telegram.specs.Writers.Outcome.{wrote}
use Rattle.telegram.specs.Check.{command_of, same_level, number_used, used_for, word_agrees, check_of, Passes}
use Rattle.telegram.specs.NetData.{part_of, net_part, net_data}
use Rattle.telegram.specs.Facts.{Taken, RequestTaken, ConfirmTaken, AuthenticationTaken, AcknowledgementTaken, DisconnectTaken, IdleTaken, DataTaken}
use Rattle.telegram.specs.declared.End.{End}
use Rattle.telegram.specs.declared.Kind.{Kind}
use Rattle.telegram.specs.declared.Kind.TheVariants.{Request, Confirm, Authentication, Acknowledgement, Disconnect, Idle, Data}
use Rattle.telegram.specs.declared.Part.{Part}
use Rattle.telegram.proofs.Refusals.{both_true, both_are, either_true, clear, data_room, data_command, data_small, data_kind}
use Rattle.telegram.proofs.Widths.{word_some, width_is, generator_good, top_small}
use Rattle.telegram.proofs.Cases.{header_some, most_small}
use Rattle.telegram.proofs.Sealing.{body_length, sealed_length}
use Rattle.telegram.proofs.ReadBack.{Fit, implicit_bytes, fields_length, fields_bytes, fields_back}

-- a chain of tests that all hold ends in what they lead to
step : {A : Type 0} (b : Bool) (x y z : A) → b ≡ true → x ≡ z → pick b x y ≡ z
unfolding pick
step b x y z p q = rw p q

-- an end in range: its level is 4 or 2, and the mirrored end is in range
pub level_there : (e : End) → in_range e ≡ true → is_level e.level ≡ true
unfolding in_range
level_there e h = (both_true (leb e.local_sap 62) (is_level e.level) (both_true (leb e.partner_sap 62) (pick (leb e.local_sap 62) (is_level e.level) false) (both_true (leb e.partner 126) (pick (leb e.partner_sap 62) (pick (leb e.local_sap 62) (is_level e.level) false) false) (both_true (leb e.own 126) (pick (leb e.partner 126) (pick (leb e.partner_sap 62) (pick (leb e.local_sap 62) (is_level e.level) false) false) false) h).1).1).1).1

swapped : (a b c d x : Bool) → pick a (pick b (pick c (pick d x false) false) false) false ≡ true → pick b (pick a (pick d (pick c x false) false) false) false ≡ true
unfolding pick
swapped true true true true x e = e
swapped false b c d x e = let z : ◌≡◌ {A = ℕ} 0 1 = cc in absurd (omega arith)
swapped true false c d x e = let z : ◌≡◌ {A = ℕ} 0 1 = cc in absurd (omega arith)
swapped true true false d x e = let z : ◌≡◌ {A = ℕ} 0 1 = cc in absurd (omega arith)
swapped true true true false x e = let z : ◌≡◌ {A = ℕ} 0 1 = cc in absurd (omega arith)

mirrored_in_range : (e : End) → in_range e ≡ true → in_range (mirrored e) ≡ true
unfolding in_range
mirrored_in_range e h = swapped (leb e.own 126) (leb e.partner 126) (leb e.partner_sap 62) (leb e.local_sap 62) (is_level e.level) h

-- a command says the level and the kind that it was made from
level_back : (l low : ℕ) → is_level l ≡ true → low < 64 → level_of (top_bits l * 64 + low) ≡ Some l
unfolding level_of top_bits pick
level_back l low h small = split (either_true (eqb l 4) (eqb l 2) h)
  where
    four : (2 * 64 + low) / 64 ≡ 2
    four = omega arith

    two : (0 * 64 + low) / 64 ≡ 0
    two = omega arith

    split : (eqb l 4 ≡ true) ⊎ (eqb l 2 ≡ true) → level_of (top_bits l * 64 + low) ≡ Some l
    split (inl p) = rw (eqb-true l 4 p, four)
    split (inr p) = rw (eqb-true l 2 p, two)

module _ (e : End) (n low : ℕ) (vs net : List ℕ) where
  abbrev l : ℕ
  l = e.level

  abbrev k : Kind
  k = kind_of low

  abbrev fields : List ℕ
  fields = field_bytes (layout (kind_of low)) vs

  abbrev bs : List ℕ
  bs = body e.level n low (field_bytes (layout (kind_of low)) vs) net

  abbrev worked : ℕ
  worked = check_word e.level (sending e n (length bs + word_length e.level)) bs

  abbrev t : List ℕ
  t = telegram e n low vs net

  whole : t ≡ bs ++ bytes_of (word_length e.level) worked
  unfolding sealed
  whole = refl

  command : command_of t ≡ top_bits e.level * 64 + low
  unfolding sealed body
  command = refl

  first : get_or t 0 0 ≡ n % 256
  unfolding sealed body
  first = refl

  module _ (ranged : in_range e ≡ true) (small : low < 64) (there : known (kind_of low) ≡ true) (fit : Fit (layout (kind_of low)) vs) (bytes : Bytes net)
      (room : length net ≤ most (kind_of low) e.level) (good : good_fields (kind_of low) vs ≡ true) where
    kind_back : kind_of_command (command_of t) ≡ kind_of low
    kind_back =
        let e' : (top_bits e.level * 64 + low) % 64 ≡ low = omega arith in
        ap kind_of_command command ∙ ap kind_of e'

    body_is : length bs ≡ header (kind_of low) + length net
    body_is =
        body_length e.level n low (field_bytes (layout (kind_of low)) vs) net
        ∙ ap (λ (m : ℕ). 2 + m + length net) (fields_length (layout (kind_of low)) vs fit)

    size : length t ≡ header (kind_of low) + length net + word_length e.level
    size = sealed_length e n bs ∙ ap (λ (m : ℕ). m + word_length e.level) body_is

    values_back : values (kind_of low) t ≡ vs
    unfolding sealed body
    values_back =
        ap {B = List ℕ} (λ (x : List ℕ). values (kind_of low) (n % 256 ∷ (top_bits e.level * 64 + low) ∷ x))
        (append_assoc (field_bytes (layout (kind_of low)) vs) net (bytes_of (word_length e.level) worked))
        ∙ fields_back (layout (kind_of low)) vs (n % 256 ∷ (top_bits e.level * 64 + low) ∷ []) (net ++ bytes_of (word_length e.level) worked) 2 refl fit

    body_bytes : Bytes bs
    unfolding body
    body_bytes = (
      mod-lt n (zero-lt-suc 255),
      (omega (arith, top_small e.level), bytes_append (field_bytes (layout (kind_of low)) vs) net (fields_bytes (layout (kind_of low)) vs) bytes),
    )

    covered_is : length t - word_length e.level ≡ length bs
    covered_is = omega (arith, sealed_length e n bs)

    -- the check word that stands at the end is the one of the mirrored end
    came : number (drop (length bs) t) ≡ worked
    unfolding check_word
    came =
        ap number (ap {B = List ℕ} (drop (length bs)) whole ∙ drop_at bs (bytes_of (word_length e.level) worked) (length bs) refl)
        ∙ number_bytes_of (word_length e.level) worked
        ∙ mod-eq_of_lt
        (subst (λ (m : ℕ). worked < 2 ^ m) (width_is e.level)
        (below (width e.level) (generator e.level) (generator_good e.level) (sending e n (length bs + word_length e.level) ++ bs)
        (bytes_append (sending e n (length bs + word_length e.level)) bs (implicit_bytes (length bs + word_length e.level) e.partner e.own e.partner_sap e.local_sap n) body_bytes)))

    front : take (length bs) t ≡ bs
    front = ap {B = List ℕ} (take (length bs)) whole ∙ take_at bs (bytes_of (word_length e.level) worked) (length bs) refl

    agrees : word_agrees (mirrored e) n t ≡ true
    unfolding word_agrees
    agrees =
        eq-eqb (number (drop (length t - word_length e.level) t)) (check_word e.level (receiving (mirrored e) n (length t)) (take (length t - word_length e.level) t))
        (ap (λ (m : ℕ). number (drop m t)) covered_is ∙ came
        ∙ sym
        (ap₂ (λ (m c : ℕ). check_word e.level (receiving (mirrored e) n c) (take m t)) covered_is (sealed_length e n bs)
        ∙ ap {B = ℕ} (check_word e.level (sending e n (length bs + word_length e.level))) front))

    on_bus_holds : on_bus (length t) ≡ true
    on_bus_holds =
        both_are (leb 6 (length t)) (leb (length t) 244) (le-leb 6 (length t) (omega (arith, size, header_some (kind_of low), word_some e.level)))
        (le-leb (length t) 244 (omega (arith, size, most_small (kind_of low) e.level)))

    level_told : level_of (command_of t) ≡ Some e.level
    level_told = ap level_of command ∙ level_back e.level low (level_there e ranged) small

    level_clause : same_level (level_of (command_of t)) e.level ≡ true
    level_clause = ap {B = Bool} (λ (x : Option ℕ). same_level x e.level) level_told ∙ eq-eqb e.level e.level refl

    suits_telegram : suits (kind_of low) e.level (length t) ≡ true
    suits_telegram =
        both_are (leb (header (kind_of low) + word_length e.level) (length t)) (leb (length t) (header (kind_of low) + most (kind_of low) e.level + word_length e.level))
        (le-leb (header (kind_of low) + word_length e.level) (length t) (omega (arith, size)))
        (le-leb (length t) (header (kind_of low) + most (kind_of low) e.level + word_length e.level) (omega (arith, size)))

    net_part_holds : net_part t ≡ record { start = header (kind_of low); count = length net }
    unfolding net_part
    net_part_holds =
        ap₂ {C = Part} (λ (x : Option ℕ) (y : Kind). part_of x y (length t)) level_told kind_back
        ∙ step (all (is_level e.level ∷ known (kind_of low) ∷ suits (kind_of low) e.level (length t) ∷ [])) _ _ _
        (both_are (is_level e.level) (pick (known (kind_of low)) (suits (kind_of low) e.level (length t)) false) (level_there e ranged)
        (both_are (known (kind_of low)) (suits (kind_of low) e.level (length t)) there suits_telegram))
        (ap {B = Part} (λ (m : ℕ). record { start = header (kind_of low); count = m }) left)
      where
        left : length t - header (kind_of low) - word_length e.level ≡ length net
        left = omega (arith, size)

    -- the bytes before the net data
    head : List ℕ
    head = n % 256 ∷ (top_bits e.level * 64 + low) ∷ field_bytes (layout (kind_of low)) vs

    head_length : length head ≡ header (kind_of low)
    unfolding head
    head_length = omega (arith, fields_length (layout (kind_of low)) vs fit)

    split : t ≡ head ++ (net ++ bytes_of (word_length e.level) worked)
    unfolding sealed body head
    split =
        ap {B = List ℕ} (λ (x : List ℕ). n % 256 ∷ (top_bits e.level * 64 + low) ∷ x)
        (append_assoc (field_bytes (layout (kind_of low)) vs) net (bytes_of (word_length e.level) worked))

    net_back : net_data t ≡ net
    unfolding net_data
    net_back =
        ap {B = List ℕ} (λ (p : Part). take p.count (drop p.start t)) net_part_holds
        ∙ ap {B = List ℕ} (λ (x : List ℕ). take (length net) (drop (header (kind_of low)) x)) split
        ∙ ap {B = List ℕ} (take (length net)) (drop_at head (net ++ bytes_of (word_length e.level) worked) (header (kind_of low)) head_length)
        ∙ take_at net (bytes_of (word_length e.level) worked) (length net) refl

    module _ (expected : ℕ) (used : number_used (kind_of low) expected vs ≡ n) where
      used_back : used_for expected t ≡ n
      used_back =
          ap {B = ℕ} (λ (x : Kind). number_used x expected (values x t)) kind_back ∙ ap {B = ℕ} (number_used (kind_of low) expected) values_back ∙ used

      number_clause : eqb (get_or t 0 0) (used_for expected t % 256) ≡ true
      number_clause = eq-eqb (get_or t 0 0) (used_for expected t % 256) (first ∙ sym (ap (λ (m : ℕ). m % 256) used_back))

      fields_clause : good_fields (kind_of_command (command_of t)) (values (kind_of_command (command_of t)) t) ≡ true
      fields_clause = ap {B = Bool} (λ (x : Kind). good_fields x (values x t)) kind_back ∙ ap {B = Bool} (good_fields (kind_of low)) values_back ∙ good

      pub taken : Taken e expected t (kind_of low) vs net
      unfolding check_of
      taken =
          record {
            passes =
                step (in_range (mirrored e)) _ _ Passes (mirrored_in_range e ranged)
                (step (on_bus (length t)) _ _ Passes on_bus_holds
                (step (same_level (level_of (command_of t)) e.level) _ _ Passes level_clause
                (step (known (kind_of_command (command_of t))) _ _ Passes (ap {B = Bool} known kind_back ∙ there)
                (step (suits (kind_of_command (command_of t)) e.level (length t)) _ _ Passes
                (ap {B = Bool} (λ (x : Kind). suits x e.level (length t)) kind_back ∙ suits_telegram)
                (step (eqb (get_or t 0 0) (used_for expected t % 256)) _ _ Passes number_clause
                (step (good_fields (kind_of_command (command_of t)) (values (kind_of_command (command_of t)) t)) _ _ Passes fields_clause
                (step (word_agrees (mirrored e) (used_for expected t) t) _ _ Passes
                (ap {B = Bool} (λ (m : ℕ). word_agrees (mirrored e) m t) used_back ∙ agrees) refl)))))));
            kind = kind_back;
            fields = values_back;
            net_data_holds = net_back;
          }

-- The seven writers.

written : (n : ℕ) (x t : List ℕ) → unless n x ≡ wrote t → (n ≡ 0) × (x ≡ t)
written zero x t p = (refl, cc)
written (suc n) x t p = let z : ◌≡◌ {A = ℕ} 0 1 = cc in absurd (omega arith)

-- what is written under a kind's command is taken
carried : (e : End) (expected : ℕ) (k h : Kind) (x t vs net : List ℕ) → x ≡ t → k ≡ h → Taken e expected x k vs net → Taken e expected t h vs net
carried e expected k h x t vs net p q r = rw (← p, ← q) r

idle_small : (time : ℕ) → good_idle time ≡ true → time < 2 ^ 16
unfolding good_idle
idle_small time e = omega (arith, leb-true time 65500 (both_true (leb time 65500) (eqb (time % 100) 0) e).0)

-- what no refusal says of a connect request's or confirm's values
connect_good : (e : End) (random time room n : ℕ) (net : List ℕ) → random < 2 ^ 32 → n ≡ refusal e room (connect_allowed time (length net) e.level) → n ≡ 0
    → (in_range e ≡ true) × Fit (layout Request) (random ∷ time ∷ version_and_bus) × (length net ≤ most Request e.level)
    × (good_fields Request (random ∷ time ∷ version_and_bus) ≡ true)
unfolding connect_allowed good_dual_bus
connect_good e random time room n net small p z =
    let ok = clear e room n (connect_allowed time (length net) e.level) p z in
    let allowed = both_true (good_idle time) (leb (length net) (most Request e.level)) ok.2 in (
      ok.0,
      (small, (idle_small time allowed.0, (lit< tt, (lit< tt, (lit< tt, (lit< tt, tt)))))),
      leb-true (length net) (most Request e.level) allowed.1,
      both_are (good_idle time) (good_dual_bus 0) allowed.0 refl,
    )

pub request_taken : RequestTaken
unfolding writes_request request kind_of pick
request_taken e random time expected net d t small bytes p =
    let w = written (refusal e (length d) (connect_allowed time (length net) e.level)) (request e random time net) t p in
    let ok = connect_good e random time (length d) 0 net small (sym w.0) refl in
    carried e expected Request Request (request e random time net) t (random ∷ time ∷ version_and_bus) net w.1 refl
    (taken e random 0x00 (random ∷ time ∷ version_and_bus) net ok.0 (lit< tt) refl ok.1 bytes ok.2 ok.3 expected refl)

pub confirm_taken : ConfirmTaken
unfolding writes_confirm confirm kind_of pick
confirm_taken e random time expected net d t small bytes p =
    let w = written (refusal e (length d) (connect_allowed time (length net) e.level)) (confirm e random time net) t p in
    let ok = connect_good e random time (length d) 0 net small (sym w.0) refl in
    carried e expected Confirm Confirm (confirm e random time net) t (random ∷ time ∷ version_and_bus) net w.1 refl
    (taken e random 0x02 (random ∷ time ∷ version_and_bus) net ok.0 (lit< tt) refl ok.1 bytes ok.2 ok.3 expected refl)

-- the authentication number has its four bytes
authentication_fits : (l received : ℕ) → Fit (layout Authentication) (authentication_number l received ∷ [])
authentication_fits l received = (mod-lt (received + added l) (pow_pos 32), tt)

pub authentication_taken : AuthenticationTaken
unfolding writes_authentication authentication kind_of pick
authentication_taken e n received d t p =
    let w = written (refusal e (length d) true) (authentication e n received) t p in
    let ok = clear e (length d) 0 true (sym w.0) refl in
    carried e n Authentication Authentication (authentication e n received) t (authentication_number e.level received ∷ []) [] w.1 refl
    (taken e n 0x03 (authentication_number e.level received ∷ []) [] ok.0 (lit< tt) refl (authentication_fits e.level received) tt (omega arith) refl n refl)

pub acknowledgement_taken : AcknowledgementTaken
unfolding writes_acknowledgement acknowledgement kind_of pick
acknowledgement_taken e n received d t p =
    let w = written (refusal e (length d) true) (acknowledgement e n received) t p in
    let ok = clear e (length d) 0 true (sym w.0) refl in
    carried e n Acknowledgement Acknowledgement (acknowledgement e n received) t (authentication_number e.level received ∷ []) [] w.1 refl
    (taken e n 0x04 (authentication_number e.level received ∷ []) [] ok.0 (lit< tt) refl (authentication_fits e.level received) tt (omega arith) refl n refl)

-- a listed reason is a byte
listed_small : (reason : ℕ) → listed_reason reason ≡ true → reason < 2 ^ 8
unfolding listed_reason
listed_small reason e = split (either_true (leb reason 0x07) (pick (leb 0x1F reason) (leb reason 0x40) false) e)
  where
    split : (leb reason 0x07 ≡ true) ⊎ (pick (leb 0x1F reason) (leb reason 0x40) false ≡ true) → reason < 2 ^ 8
    split (inl p) = omega (arith, leb-true reason 0x07 p)
    split (inr p) = omega (arith, leb-true reason 0x40 (both_true (leb 0x1F reason) (leb reason 0x40) p).1)

type_small : (type : ℕ) → good_type type ≡ true → type < 2 ^ 8
unfolding good_type
type_small type e = omega (arith, leb-true type 1 e)

pub disconnect_taken : DisconnectTaken
unfolding writes_disconnect disconnect disconnect_allowed kind_of pick
disconnect_taken e n type reason text d t bytes p =
    let w = written (refusal e (length d) (disconnect_allowed type reason (length text) e.level)) (disconnect e n type reason text) t p in
    let ok = clear e (length d) 0 (disconnect_allowed type reason (length text) e.level) (sym w.0) refl in
    let allowed = both_true (good_type type) (pick (listed_reason reason) (leb (length text) 40) false) ok.2 in
    let listed = both_true (listed_reason reason) (leb (length text) 40) allowed.1 in
    carried e n Disconnect Disconnect (disconnect e n type reason text) t (type ∷ reason ∷ []) text w.1 refl
    (taken e n 0x05 (type ∷ reason ∷ []) text ok.0 (lit< tt) refl (type_small type allowed.0, (listed_small reason listed.0, tt)) bytes
    (leb-true (length text) 40 listed.1) allowed.0 n refl)

pub idle_taken : IdleTaken
unfolding writes_idle idle kind_of pick
idle_taken e n d t p =
    let w = written (refusal e (length d) true) (idle e n) t p in
    let ok = clear e (length d) 0 true (sym w.0) refl in
    carried e n Idle Idle (idle e n) t [] [] w.1 refl (taken e n 0x06 [] [] ok.0 (lit< tt) refl tt tt (omega arith) refl n refl)

pub data_taken : DataTaken
unfolding writes_data data_telegram
data_taken e n low net d t bytes p =
    let w = written (refusal e (length d) (data_allowed low (length net) e.level)) (data_telegram e n low net) t p in
    let ok = clear e (length d) 0 (data_allowed low (length net) e.level) (sym w.0) refl in
    let is = data_command low (length net) e.level ok.2 in
    let k : kind_of low ≡ Data = data_kind low is in
    let few : length net ≤ most Data e.level = omega (arith, data_room low (length net) e.level ok.2) in
    carried e n (kind_of low) Data (data_telegram e n low net) t [] net w.1 k
    (taken e n low [] net ok.0 (data_small low is).1 (ap {B = Bool} known k) (subst (λ (x : Kind). Fit (layout x) []) (sym k) tt) bytes
    (subst (λ (x : Kind). length net ≤ most x e.level) (sym k) few) (ap {B = Bool} (λ (x : Kind). good_fields x []) k) n
    (ap {B = ℕ} (λ (x : Kind). number_used x n []) k))
