-- A check that passes says of each part of the telegram what it is: byte 1 and byte 2 are told by their clauses, a field that is read and written again gives its
-- bytes back, and so does the check word; put together they are the telegram that the layout makes. The other way round is what the writers rest on.
-- Assumes nothing.
use mathlib.Core.Path.{◌≡◌, refl, sym, ap, ap₂, ◌∙◌, subst}
use mathlib.Core.Bool.{Bool, true, false}
use mathlib.Core.List.{List, [], ◌∷◌, ◌++◌}
use mathlib.Core.Logic.{◌⊎◌, inl, inr}
use Prim.Native.Nat.{ℕ, zero, suc, ◌+◌, ◌-◌, ◌*◌, ◌/◌, ◌%◌, ◌^◌, ◌≤◌, ◌<◌}
use native.Mathlib.Omega.{arith}
use lib.Pow.{pow-add}
use lib.ListN.{length, take, drop, get_or, length-take, length-drop, take-append-drop}
use lib.Seq.{drop-cons, drop-drop, take-add}
use lib.Dec.{leb, eqb, lit<}
use borrow.Author.Tests.{leb-true, le-leb, eqb-true, eq-eqb, ne_eqb}
use Rattle.std.specs.Prelude.{Some, None}
use Rattle.checkword.specs.Bytes.{Bytes, bytes_of}
use Rattle.checkword.proofs.Bytes.{bytes_take, bytes_drop, bytes_of_number}
use Rattle.ground.specs.Choice.{pick}
use Rattle.ground.specs.Numbers.{lowest_first, number_at}
use Rattle.telegram.specs.Levels.{top_bits, word_length, level_of}
use Rattle.telegram.specs.Commands.{is_data, kind_of, known}
use Rattle.telegram.specs.Layout.{sum, layout, header, most, field_bytes, fields_at, values}
use Rattle.telegram.specs.Ends.{is_level, in_range, receiving, mirrored}
use Rattle.telegram.specs.Values.{good_idle, good_type, good_dual_bus, good_fields}
use Rattle.telegram.specs.Telegrams.{check_word, body, sealed, telegram}
use Rattle.telegram.specs.Check.{command_of, same_level, number_used, used_for, covered, word_agrees, check_of, Passes}
use Rattle.telegram.specs.declared.End.{End}
use Rattle.telegram.specs.declared.Kind.{Kind}
use Rattle.telegram.specs.declared.Kind.TheVariants.{Request, Confirm, Authentication, Acknowledgement, Disconnect, Idle, Data, Unknown}
use Rattle.telegram.proofs.Refusals.{both_true, both_are, either_true, suits_room, data_small, data_kind}
use Rattle.telegram.proofs.Widths.{word_small}
use Rattle.telegram.proofs.ReadBack.{Fit}
use Rattle.telegram.proofs.Taken.{level_there, taken}
use Rattle.telegram.proofs.Apart.{Passed, passed}
use Rattle.echo.proofs.Echo.{byte_lt}
use Rattle.demands.specs.Demand3.{PassesExactly}
use Rattle.demands.specs.Passing.{ConnectFields, NetData, TelegramOf}
use Rattle.demands.specs.Passing.TelegramOf.{request, confirm, authentication, acknowledgement, disconnect, idle, data_telegram_holds}

-- What was read and is written again

-- one field gives its bytes back ..
written_at : (w at : ℕ) (t : List ℕ) → Bytes t → at + w ≤ length t → lowest_first w (number_at w at t) ≡ take w (drop at t)
written_at zero at t h r = refl
written_at (suc w) at t h r =
    let small : get_or t at 0 < 256 = byte_lt t h at in
    let low : (get_or t at 0 + 256 * number_at w (at + 1) t) % 256 ≡ get_or t at 0 = omega arith in
    let high : (get_or t at 0 + 256 * number_at w (at + 1) t) / 256 ≡ number_at w (at + 1) t = omega arith in
    let next : at + 1 ≡ suc at = omega arith in
    ap₂ {C = List ℕ} (λ (x y : ℕ). x ∷ lowest_first w y) low high
    ∙ ap {B = List ℕ} (λ (x : List ℕ). get_or t at 0 ∷ x) (written_at w (at + 1) t h (omega arith) ∙ ap {B = List ℕ} (λ (n : ℕ). take w (drop n t)) next)
    ∙ sym (ap {B = List ℕ} (take (suc w)) (drop-cons t at 0 (omega arith)))

-- .. and all fields of a layout do
fields_written : (ws : List ℕ) (at : ℕ) (t : List ℕ) → Bytes t → at + sum ws ≤ length t → field_bytes ws (fields_at at ws t) ≡ take (sum ws) (drop at t)
fields_written [] at t h r = refl
fields_written (w ∷ ws) at t h r =
    ap₂ {C = List ℕ} (λ (x y : List ℕ). x ++ y) (written_at w at t h (omega arith)) (fields_written ws (at + w) t h (omega arith))
    ∙ sym
    (take-add w (sum ws) (drop at t) ∙ ap {B = List ℕ} (λ (x : List ℕ). take w (drop at t) ++ take (sum ws) x) (drop-drop w at t))

-- a field has room for what is read from it
field_lt : (w at : ℕ) (t : List ℕ) → Bytes t → number_at w at t < 2 ^ (8 * w)
field_lt zero at t h = omega arith
field_lt (suc w) at t h =
    let size : 8 * suc w ≡ 8 + 8 * w = omega arith in
    let room : 2 ^ (8 * suc w) ≡ 256 * 2 ^ (8 * w) = ap (λ (n : ℕ). 2 ^ n) size ∙ pow-add 2 8 (8 * w) in
    omega (arith, room, byte_lt t h at, field_lt w (at + 1) t h)

-- The command

-- its top two bits are the level's
of_level : (x y z : Bool) (b l : ℕ) → eqb (b / 64) 2 ≡ x → eqb (b / 64) 0 ≡ y → eqb (b / 64) 3 ≡ z → is_level l ≡ true
    → same_level (pick x (Some 4) (pick y (Some 2) (pick z (Some 0) None))) l ≡ true → b ≡ top_bits l * 64 + b % 64
unfolding top_bits pick
of_level true y z b l p q r there same =
    let top : top_bits l ≡ 2 = rw (← eqb-true 4 l same) refl in
    omega (arith, top, eqb-true (b / 64) 2 p)
of_level false true z b l p q r there same =
    let top : top_bits l ≡ 0 = rw (← eqb-true 2 l same) refl in
    omega (arith, top, eqb-true (b / 64) 0 q)
of_level false false true b l p q r there same =
    let none : is_level 0 ≡ true = subst (λ (n : ℕ). is_level n ≡ true) (sym (eqb-true 0 l same)) there in
    let z : ◌≡◌ {A = ℕ} 0 1 = cc in
    absurd (omega arith)
of_level false false false b l p q r there same = let z : ◌≡◌ {A = ℕ} 0 1 = cc in absurd (omega arith)

command_is : (b l : ℕ) → is_level l ≡ true → same_level (level_of b) l ≡ true → b ≡ top_bits l * 64 + b % 64
unfolding level_of
command_is b l there same = of_level (eqb (b / 64) 2) (eqb (b / 64) 0) (eqb (b / 64) 3) b l refl refl refl there same

-- its low six bits are the kind's
abbrev Low : Kind → ℕ → Type 0
Low Request low = low ≡ 0x00
Low Confirm low = low ≡ 0x02
Low Authentication low = low ≡ 0x03
Low Acknowledgement low = low ≡ 0x04
Low Disconnect low = low ≡ 0x05
Low Idle low = low ≡ 0x06
Low Data low = (low ≡ 0x09) ⊎ ((0x20 ≤ low) × (low ≤ 0x3F))
Low Unknown low = Unit {0}

choose : (low : ℕ) (b : Bool) (x y : Kind) → (b ≡ true → Low x low) → Low y low → Low (pick b x y) low
unfolding pick
choose low true x y f g = f refl
choose low false x y f g = g

data_low : (low : ℕ) → is_data low ≡ true → (low ≡ 0x09) ⊎ ((0x20 ≤ low) × (low ≤ 0x3F))
unfolding is_data
data_low low e = by (either_true (eqb low 9) (pick (leb 32 low) (leb low 63) false) e)
  where
    by : (eqb low 9 ≡ true) ⊎ (pick (leb 32 low) (leb low 63) false ≡ true) → (low ≡ 0x09) ⊎ ((0x20 ≤ low) × (low ≤ 0x3F))
    by (inl p) = inl (eqb-true low 9 p)
    by (inr p) = inr (leb-true 32 low (both_true _ _ p).0, leb-true low 63 (both_true _ _ p).1)

low_of : (low : ℕ) → Low (kind_of low) low
unfolding kind_of
low_of low =
    choose low _ Request _ (eqb-true low 0x00)
    (choose low _ Confirm _ (eqb-true low 0x02)
    (choose low _ Authentication _ (eqb-true low 0x03)
    (choose low _ Acknowledgement _ (eqb-true low 0x04)
    (choose low _ Disconnect _ (eqb-true low 0x05) (choose low _ Idle _ (eqb-true low 0x06) (choose low _ Data Unknown (data_low low) tt))))))

-- The first two bytes
two : (t : List ℕ) → 2 ≤ length t → take 2 t ≡ get_or t 0 0 ∷ get_or t 1 0 ∷ []
two [] h = absurd (omega arith)
two (x ∷ []) h = absurd (omega arith)
two (x ∷ y ∷ t) h = refl

-- A telegram that passes is the one that the layout makes
module _ (e : End) (m : ℕ) (t : List ℕ) (bytes : Bytes t) (p : Passed e m t) where
  abbrev low : ℕ
  low = command_of t % 64

  abbrev k : Kind
  k = kind_of (command_of t % 64)

  abbrev count : ℕ
  count = length t - header (kind_of (command_of t % 64)) - word_length e.level

  abbrev net : List ℕ
  net = take count (drop (header (kind_of (command_of t % 64))) t)

  long : header k + word_length e.level ≤ length t
  long = (suits_room k e.level (length t) p.of_length).0

  front : take (covered e.level t) t ≡ get_or t 0 0 ∷ get_or t 1 0 ∷ (field_bytes (layout k) (values k t) ++ net)
  front =
      let parts : covered e.level t ≡ 2 + (sum (layout k) + count) = omega (arith, long) in
      ap {B = List ℕ} (λ (n : ℕ). take n t) parts ∙ take-add 2 (sum (layout k) + count) t
      ∙ ap₂ {C = List ℕ} (λ (x y : List ℕ). x ++ y) (two t (omega (arith, long)))
      (take-add (sum (layout k)) count (drop 2 t)
      ∙ ap₂ {C = List ℕ} (λ (x y : List ℕ). x ++ take count y) (sym (fields_written (layout k) 2 t bytes (omega (arith, long)))) (drop-drop (sum (layout k)) 2 t))

  body_is : body e.level (used_for m t) low (field_bytes (layout k) (values k t)) net ≡ take (covered e.level t) t
  unfolding body
  body_is =
      sym
      (front
      ∙ ap₂ {C = List ℕ} (λ (x y : ℕ). x ∷ y ∷ (field_bytes (layout k) (values k t) ++ net)) (eqb-true (get_or t 0 0) (used_for m t % 256) p.byte_1)
      (command_is (command_of t) e.level (level_there e p.in_range_holds) p.of_level))

  sealed_is : sealed (mirrored e) (used_for m t) (take (covered e.level t) t) ≡ t
  unfolding sealed word_agrees
  sealed_is =
      let size : length (take (covered e.level t) t) + word_length e.level ≡ length t = omega (arith, long, length-take (covered e.level t) t) in
      ap {B = List ℕ}
      (λ (n : ℕ).
      take (covered e.level t) t
      ++ bytes_of (word_length e.level) (check_word e.level (receiving e (used_for m t) n) (take (covered e.level t) t))) size
      ∙ ap {B = List ℕ} (λ (w : ℕ). take (covered e.level t) t ++ bytes_of (word_length e.level) w) (sym (eqb-true _ _ p.agrees))
      ∙ ap {B = List ℕ} (λ (x : List ℕ). take (covered e.level t) t ++ x)
      (bytes_of_number (word_length e.level) (drop (covered e.level t) t) (omega (arith, long, length-drop (covered e.level t) t)) (bytes_drop (covered e.level t) t bytes))
      ∙ take-append-drop (covered e.level t) t

  made : t ≡ telegram (mirrored e) (used_for m t) low (values k t) net
  made = sym (ap {B = List ℕ} (sealed (mirrored e) (used_for m t)) body_is ∙ sealed_is)

  -- with the kind, the low six bits and the net data known
  made_as : (h : Kind) (x : ℕ) (ns : List ℕ) → kind_of low ≡ h → low ≡ x → net ≡ ns
      → t ≡ sealed (mirrored e) (number_used h m (values h t)) (body e.level (number_used h m (values h t)) x (field_bytes (layout h) (values h t)) ns)
  made_as h x ns q r z = rw (← q, ← r, ← z) made

  net_bytes : Bytes net
  net_bytes = bytes_take count (drop (header k) t) (bytes_drop (header k) t bytes)

  few : (h : Kind) → kind_of low ≡ h → length net ≤ most h e.level
  few h q =
      let sized = suits_room k e.level (length t) p.of_length in
      subst (λ (x : Kind). length net ≤ most x e.level) q (omega (arith, sized.0, sized.1, length-take count (drop (header k) t), length-drop (header k) t))

  -- none where there is room for none
  nothing : (h : Kind) → kind_of low ≡ h → most h e.level ≡ 0 → net ≡ []
  nothing h q z = empty net (omega (arith, few h q))
    where
      empty : (l : List ℕ) → length l ≤ 0 → l ≡ []
      empty [] r = refl
      empty (x ∷ l) r = absurd (omega arith)

  good : (h : Kind) → kind_of low ≡ h → good_fields h (values h t) ≡ true
  good h q = subst (λ (x : Kind). good_fields x (values x t) ≡ true) q p.good_fields_holds

  six_bits : (h : Kind) → kind_of low ≡ h → Low h low
  six_bits h q = subst (λ (x : Kind). Low x low) q (low_of low)

  connects : good_fields Request (values Request t) ≡ true
      → ConnectFields (number_at 4 2 t) (number_at 2 6 t) (number_at 1 8 t) (number_at 1 9 t) (number_at 1 10 t) (number_at 1 11 t)
  unfolding good_idle good_dual_bus
  connects g =
      let both = both_true _ _ g in
      let times = both_true _ _ both.0 in
      record {
        random_room = field_lt 4 2 t bytes;
        time_most = leb-true _ _ times.0;
        hundreds = eqb-true _ _ times.1;
        x_byte = field_lt 1 8 t bytes;
        y_byte = field_lt 1 9 t bytes;
        z_byte = field_lt 1 10 t bytes;
        one_bus_or_two = leb-true _ _ both.1;
      }

  some_data : kind_of low ≡ Data → TelegramOf (mirrored e) m t
  some_data q =
      data_telegram_holds low net (six_bits Data q) (record { bytes = net_bytes; room = omega (arith, few Data q, word_small e.level) })
      (made_as Data low net q refl refl
      ∙ ap {B = List ℕ} (λ (x : Kind). sealed (mirrored e) m (body e.level m low (field_bytes (layout x) []) net)) (sym q))

  there_is : (h : Kind) → kind_of low ≡ h → TelegramOf (mirrored e) m t
  unfolding kind_of good_type pick
  there_is Request q =
      request (number_at 4 2 t) (number_at 2 6 t) (number_at 1 8 t) (number_at 1 9 t) (number_at 1 10 t) (number_at 1 11 t) net (connects (good Request q))
      (record { bytes = net_bytes; room = omega (arith, few Request q, word_small e.level) }) (made_as Request 0x00 net q (six_bits Request q) refl)
  there_is Confirm q =
      confirm (number_at 4 2 t) (number_at 2 6 t) (number_at 1 8 t) (number_at 1 9 t) (number_at 1 10 t) (number_at 1 11 t) net (connects (good Confirm q))
      (record { bytes = net_bytes; room = omega (arith, few Confirm q, word_small e.level) }) (made_as Confirm 0x02 net q (six_bits Confirm q) refl)
  there_is Authentication q =
      authentication (number_at 4 2 t) (field_lt 4 2 t bytes)
      (made_as Authentication 0x03 [] q (six_bits Authentication q) (nothing Authentication q refl))
  there_is Acknowledgement q =
      acknowledgement (number_at 4 2 t) (field_lt 4 2 t bytes)
      (made_as Acknowledgement 0x04 [] q (six_bits Acknowledgement q) (nothing Acknowledgement q refl))
  there_is Disconnect q =
      disconnect (number_at 1 2 t) (number_at 1 3 t) net (leb-true _ _ (good Disconnect q)) (field_lt 1 3 t bytes) net_bytes (few Disconnect q)
      (made_as Disconnect 0x05 net q (six_bits Disconnect q) refl)
  there_is Idle q = idle (made_as Idle 0x06 [] q (six_bits Idle q) (nothing Idle q refl))
  there_is Data q = some_data q
  there_is Unknown q =
      let none : known Unknown ≡ true = subst (λ (x : Kind). known x ≡ true) q p.of_kind in
      let z : ◌≡◌ {A = ℕ} 0 1 = cc in
      absurd (omega arith)

-- And the other way round

swapped : (a b c d x : Bool) → pick a (pick b (pick c (pick d x false) false) false) false ≡ true → pick b (pick a (pick d (pick c x false) false) false) false ≡ true
swapped a b c d x h =
    let first = both_true _ _ h in
    let second = both_true _ _ first.1 in
    let third = both_true _ _ second.1 in
    let last = both_true _ _ third.1 in
    both_are _ _ second.0 (both_are _ _ first.0 (both_are _ _ last.0 (both_are _ _ third.0 last.1)))

mirrored_in_range : (e : End) → in_range e ≡ true → in_range (mirrored e) ≡ true
unfolding in_range
mirrored_in_range e h = swapped (leb e.own 126) (leb e.partner 126) (leb e.partner_sap 62) (leb e.local_sap 62) (is_level e.level) h

connect_good : (random time x y z bus : ℕ) → ConnectFields random time x y z bus → good_fields Request (random ∷ time ∷ x ∷ y ∷ z ∷ bus ∷ []) ≡ true
unfolding good_idle good_dual_bus
connect_good random time x y z bus c =
    both_are _ _ (both_are _ _ (le-leb time 65500 c.time_most) (eq-eqb (time % 100) 0 c.hundreds)) (le-leb bus 1 c.one_bus_or_two)

connect_fits : (random time x y z bus : ℕ) → ConnectFields random time x y z bus → Fit (layout Request) (random ∷ time ∷ x ∷ y ∷ z ∷ bus ∷ [])
connect_fits random time x y z bus c = (
  c.random_room,
  (omega (arith, c.time_most), (omega (arith, c.x_byte), (omega (arith, c.y_byte), (omega (arith, c.z_byte), (omega (arith, c.one_bus_or_two), tt))))),
)

data_is : (low : ℕ) → (low ≡ 0x09) ⊎ ((0x20 ≤ low) × (low ≤ 0x3F)) → is_data low ≡ true
unfolding is_data pick
data_is low (inl p) = rw p
data_is low (inr p) = rw (ne_eqb low 9 (λ q. omega arith), le-leb 32 low p.0, le-leb low 63 p.1)

module _ (e : End) (m : ℕ) (ranged : in_range e ≡ true) where
  passes : (t : List ℕ) → TelegramOf (mirrored e) m t → check_of e m t ≡ Passes
  unfolding kind_of pick good_type
  passes t (request random time x y z bus net c n is) =
      subst (λ (u : List ℕ). check_of e m u ≡ Passes) (sym is)
      (taken (mirrored e) random 0x00 (random ∷ time ∷ x ∷ y ∷ z ∷ bus ∷ []) net (mirrored_in_range e ranged) (lit< tt) refl
      (connect_fits random time x y z bus c) n.bytes (omega (arith, n.room)) (connect_good random time x y z bus c) m refl).passes
  passes t (confirm random time x y z bus net c n is) =
      subst (λ (u : List ℕ). check_of e m u ≡ Passes) (sym is)
      (taken (mirrored e) random 0x02 (random ∷ time ∷ x ∷ y ∷ z ∷ bus ∷ []) net (mirrored_in_range e ranged) (lit< tt) refl
      (connect_fits random time x y z bus c) n.bytes (omega (arith, n.room)) (connect_good random time x y z bus c) m refl).passes
  passes t (authentication number small is) =
      subst (λ (u : List ℕ). check_of e m u ≡ Passes) (sym is)
      (taken (mirrored e) m 0x03 (number ∷ []) [] (mirrored_in_range e ranged) (lit< tt) refl (small, tt) tt (omega arith) refl m refl).passes
  passes t (acknowledgement number small is) =
      subst (λ (u : List ℕ). check_of e m u ≡ Passes) (sym is)
      (taken (mirrored e) m 0x04 (number ∷ []) [] (mirrored_in_range e ranged) (lit< tt) refl (small, tt) tt (omega arith) refl m refl).passes
  passes t (disconnect type reason text end small bytes few is) =
      subst (λ (u : List ℕ). check_of e m u ≡ Passes) (sym is)
      (taken (mirrored e) m 0x05 (type ∷ reason ∷ []) text (mirrored_in_range e ranged) (lit< tt) refl (omega arith, (small, tt)) bytes few (le-leb type 1 end) m refl
      ).passes
  passes t (idle is) =
      subst (λ (u : List ℕ). check_of e m u ≡ Passes) (sym is)
      (taken (mirrored e) m 0x06 [] [] (mirrored_in_range e ranged) (lit< tt) refl tt tt (omega arith) refl m refl).passes
  passes t (data_telegram_holds low net d n is) =
      subst (λ (u : List ℕ). check_of e m u ≡ Passes) (sym is) (data_passes low net d n)
    where
      data_passes : (low : ℕ) (net : List ℕ) → (low ≡ 0x09) ⊎ ((0x20 ≤ low) × (low ≤ 0x3F)) → NetData (mirrored e) 2 net
          → check_of e m (telegram (mirrored e) m low [] net) ≡ Passes
      data_passes low net d n =
          let k : kind_of low ≡ Data = data_kind low (data_is low d) in
          (taken (mirrored e) m low [] net (mirrored_in_range e ranged) (data_small low (data_is low d)).1 (ap {B = Bool} known k) (subst (λ (x : Kind). Fit (layout x) []) (sym k) tt)
          n.bytes (subst (λ (x : Kind). length net ≤ most x e.level) (sym k) (omega (arith, n.room))) (ap {B = Bool} (λ (x : Kind). good_fields x []) k) m
          (ap {B = ℕ} (λ (x : Kind). number_used x m []) k)).passes

pub passes_exactly : PassesExactly check_of
passes_exactly e m t bytes = (
  λ p. let q = passed e m t p in (q.in_range_holds, there_is e m t bytes q (kind_of (command_of t % 64)) refl),
  λ ranged u. passes e m ranged t u,
)
