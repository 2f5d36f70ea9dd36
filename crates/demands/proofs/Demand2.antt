-- Demand 2, one step: the writer's telegram passes the check of the mirrored end that expects its number, and an open record takes it by its kind.
-- Assumes nothing.
use mathlib.Core.Path.{◌≡◌, refl, sym, ap, subst, ◌∙◌}
use mathlib.Core.Bool.{Bool, true, false}
use mathlib.Core.List.{List, [], ◌∷◌}
use Prim.Native.Nat.{ℕ, ◌+◌, ◌*◌, ◌%◌, ◌≤◌, ◌<◌}
use native.Mathlib.Omega.{arith}
use lib.ListN.{length, get_or}
use lib.Dec.{leb, ltb, eqb}
use borrow.Author.Tests.{eq-eqb, eqb-false, ne_eqb, le-leb, le-ltb, lt-ltb}
use Rattle.std.specs.Prelude.{Option}
use Rattle.checkword.specs.Bytes.{Bytes}
use Rattle.ground.specs.Choice.{pick}
use Rattle.std.specs.Prelude.{Ok, Err}
use Rattle.telegram.specs.Ends.{mirrored}
use Rattle.telegram.specs.Levels.{top_bits}
use Rattle.telegram.specs.Fields.{low_of}
use Rattle.telegram.specs.Commands.{kind_of_command}
use Rattle.telegram.specs.Telegrams.{body, sealed, telegram, data_telegram, idle, disconnect}
use Rattle.telegram.specs.Writers.Outcome.{wrote}
use Rattle.telegram.specs.Writers.{refusal, connect_allowed, data_allowed, writes_data, writes_idle, writes_disconnect}
use Rattle.telegram.specs.Check.{command_of, check_of, Check, Passes}
use Rattle.telegram.specs.Layout.{longest, on_bus}
use Rattle.telegram.specs.Facts.{Taken}
use Rattle.telegram.specs.declared.End.{End}
use Rattle.telegram.specs.declared.Kind.{Kind}
use Rattle.telegram.specs.declared.Kind.TheVariants as kind
use Rattle.telegram.proofs.Refusals.{clear, data_command, data_small}
use Rattle.telegram.proofs.Apart.{passed as passed-check}
use Rattle.telegram.proofs.Taken.{data_taken, idle_taken, disconnect_taken}
use Rattle.link.specs.Records.{end_of, record_in_range, become}
use Rattle.link.specs.Table.{Timeout-snd, Incorrect-rcv-1st}
use Rattle.link.specs.Times.{gap, wait_over, watch_over, idle_due}
use Rattle.link.specs.Judged.{row_of, ruled, narrowed, checked_by, expected_now, run_out, run_out_verdict, passed, judged, ticked}
use Rattle.link.specs.Steps.{first_refusal, neb, next, taken, sent, declared_by, tick_refusal, tick_of, tick_out, received_refusal, received_of, received_out, open_refusal}
use Rattle.link.specs.Plain.{happened}
use Rattle.link.specs.declared.Record.{Record}
use Rattle.link.specs.declared.Answer.{Answer}
use Rattle.link.proofs.Facts.{by_the_table}
use Rattle.link.proofs.Answers.{answers}
use Rattle.link.specs.declared.Event.{Event}
use Rattle.link.specs.declared.Event.TheVariants as event
use Rattle.link.specs.declared.Verdict.{Verdict}
use Rattle.link.specs.declared.Verdict.TheVariants.{Nothing, SendIdle, Close as Closes}
use Rattle.node.specs.declared.Head.{Head}
use Rattle.node.specs.declared.Route.{Route}
use Rattle.node.specs.Heads.{at}
use Rattle.node.specs.Accepted.{record_at, accepted}
use Rattle.node.specs.Matching.{is_for, first_match}
use Rattle.node.specs.Calls.{Call, Left, place_of, step_of, step_out, called}
use Rattle.node.specs.Calls.Call.{Open, Close, Send, Received, Tick}
use Rattle.node.proofs.Facts.{by_route, net_data_handed_on, others_unchanged, partners_stay, stays_accepted}
use Rattle.demands.specs.Pairs.{Mirror, OpenTo, telegram_of, route_from, Done, Nodes, Towards, Watching, Moment, sent as given, got, InTime, Due, Arrives, NothingWrong}
use Rattle.demands.specs.Effects.{Does, handing_up, taking_idle, Receipt, takes}
use Rattle.demands.specs.Demand2.{ComesUp, GoesOn, SentComesUp, IdleIsTaken, IsClosed, ClosedByPartner, ClosedWith, CloseCloses, SilenceCloses, IncorrectCloses, text_of, net_of, DisconnectCloses, IsTaken, WrittenIsTaken, NothingRefused, Isolation, Demand2OneStep}
use Rattle.demands.specs.Demand2.IsTaken.{as_data, as_idle, as_disconnect}
use Rattle.demands.proofs.Carried.{Carried, carried, step_in, done_by_holds}
use Rattle.demands.proofs.Steps.{Writes, writes, judged_open}
use Rattle.demands.proofs.Effects.{told, effect_of, act_does, call_does, left_by, receipt_at, tick_does, send_writes, send_does, Disconnects, act_closes, close_closes_step}

-- Two nodes by their heads and tables, as the calls take them; the statements put them together.
record Link (h : Head) (t : List Record) (i : ℕ) (k : Head) (u : List Record) (j : ℕ) : Type 0 where
  here : i < length t
  there : j < length u
  open_to : OpenTo h.own (record_at t i) k.own (record_at u j)

-- the call with which the partner takes what a call for the record r of the node h wrote
abbrev arrival : Left → Head → Record → ℕ → Option ℕ → List ℕ → Head → List Record → ℕ → List ℕ → Receipt
arrival l h r random idle net k u at e =
    record { route = route_from h.own r; random = random; idle_time = idle; telegram = telegram_of l; net = net; head = k; table = u; time = at; buffer = e }

-- a call keeps the node's address
pub own_kept : (c : Call) (h : Head) (t : List Record) (time : ℕ) (d : List ℕ) → Done (called c h t time d) → (called c h t time d).outcome.head.own ≡ h.own
unfolding at
own_kept c h t time d done = ap (λ (y : Head). y.own) (carried c h t time d done).head

linked : (n : Nodes) (i j : ℕ) → Towards n i j → Link n.head n.table i n.head' n.table' j
linked n i j c = record { here = c.here; there = c.there; open_to = c.open_to }

-- a time that is in time is not over the watch
pub in_watch : (r : Record) (time : ℕ) → InTime r time → watch_over r time ≡ false
unfolding watch_over pick
in_watch r time ok = by (eqb r.watched 0) refl
  where
    by : (b : Bool) → eqb r.watched 0 ≡ b → pick b false (ltb r.watched (gap r.taken_at time)) ≡ false
    by true f = refl
    by false f = let l = ok (eqb-false r.watched 0 f) in le-ltb r.watched (gap r.taken_at time) (omega arith)

-- so that an open record's timer has not run out
pub open_in_time : (r : Record) (time : ℕ) → r.phase ≡ 5 → InTime r time → run_out r time ≡ false
unfolding run_out watch_over pick
open_in_time r time p early = rw p (in_watch r time early)

-- nor has that of one that awaits an answer, in time
pub waits_in_time : (r : Record) (time : ℕ) → 2 ≤ r.phase → r.phase ≤ 4 → time ≤ r.sent_at + 5000 → run_out r time ≡ false
unfolding run_out wait_over pick
waits_in_time r time low high early =
    rw (ne_eqb r.phase 5 (λ e. omega arith), le-leb 2 r.phase low, le-leb r.phase 4 high) (le-ltb 5000 (gap r.sent_at time) (omega arith))

-- What arrives

-- the mirrored record is the one that the route names
pub for_mirror : (a b : ℕ) (r q : Record) → Mirror a r b q → is_for (route_from a r) q ≡ true
unfolding end_of
for_mirror a b r q m =
    rw (
      eq-eqb q.partner a (ap (λ (e : End). e.partner) m),
      eq-eqb q.local_sap r.partner_sap (ap (λ (e : End). e.local_sap) m),
      eq-eqb q.partner_sap r.local_sap (ap (λ (e : End). e.partner_sap) m),
    ) refl

pub mirror_place : (a : ℕ) (r : Record) (k : Head) (u : List Record) (j : ℕ) → accepted k u ≡ true → Mirror a r k.own (record_at u j) → j < length u → first_match (route_from a r) u ≡ j
mirror_place a r k u j good m l = by_route.only (route_from a r) k u j good l (for_mirror a k.own r (record_at u j) m)

-- a telegram that arrives is not refused where nothing is wrong with the table, the buffer, the time and what is lent
pub received_done : (a : ℕ) (r : Record) (k : Head) (u : List Record) (j at random : ℕ) (i : Option ℕ) (x net e : List ℕ) → accepted k u ≡ true → 244 ≤ length e → k.latest ≤ at
    → on_bus (length x) ≡ true → Mirror a r k.own (record_at u j) → j < length u → ((record_at u j).phase ≡ 6 → ⊥)
    → connect_allowed (declared_by i) (length net) (record_at u j).level ≡ true → Done (called (Received (route_from a r) random i x net) k u at e)
received_done a r k u j at random i x net e good room timely carried m l live allowed =
    let p = mirror_place a r k u j good m l in
    done_by_holds (Received (route_from a r) random i x net) k u at e good room timely carried (rw p l) (rw p live) refl (rw p allowed)

-- the check of the mirrored end, at the number that it expects
passes_there : (a b : ℕ) (r q : Record) (x : List ℕ) → OpenTo a r b q → check_of (mirrored (end_of r a)) r.sending x ≡ Passes → check_of (end_of q b) q.expected x ≡ Passes
passes_there a b r q x o p = rw (o.ends, o.number) p

-- what an open end wrote, as its mirrored record takes it: by its kind
taken_there : (l : Left) (h k : Head) (t u : List Record) (i j at random : ℕ) (idle : Option ℕ) (spare e : List ℕ) (v : Kind) (vs net : List ℕ)
    → Link h t i k u j → watch_over (record_at u j) at ≡ false → Taken (end_of (record_at t i) h.own) (record_at t i).sending (telegram_of l) v vs net
    → Done (takes called (arrival l h (record_at t i) random idle spare k u at e))
    → Does (takes called (arrival l h (record_at t i) random idle spare k u at e)) e j
    (effect_of (narrowed (ruled (row_of v) 5) (record_at u j) (telegram_of l)) (record_at u j) k.own at random (declared_by idle) (telegram_of l) spare)
taken_there l h k t u i j at random idle spare e v vs net link watch y got =
    let r = record_at t i in
    let g = carried (Received (route_from h.own r) random idle (telegram_of l) spare) k u at e got in
    receipt_at (arrival l h r random idle spare k u at e) j _ (mirror_place h.own r k u j g.good link.open_to.ends link.there)
    (judged_open (record_at u j) k.own at (telegram_of l) v link.open_to.open_there watch
    (passes_there h.own k.own r (record_at u j) (telegram_of l) link.open_to y.passes) y.kind) got

-- after one telegram sent and taken the two are open to each other as before
still_open : (a b time at : ℕ) (r q : Record) → OpenTo a r b q → OpenTo a (sent r time) b (taken q at)
unfolding sent taken become end_of
still_open a b time at r q o = record { ends = o.ends; open_here = refl; open_there = refl; number = ap next o.number }

-- and the other way
still_back : (a b time at : ℕ) (r q : Record) → OpenTo b q a r → OpenTo b (taken q at) a (sent r time)
unfolding sent taken become end_of
still_back a b time at r q o = record { ends = o.ends; open_here = refl; open_there = refl; number = o.number }

-- what a telegram that was sent and taken leaves of the two records
record Moved (t t' : List Record) (i time : ℕ) (u u' : List Record) (j at : ℕ) : Type 0 where
  here : i < length t'
  there : j < length u'
  left : record_at t' i ≡ sent (record_at t i) time
  taken_is : record_at u' j ≡ taken (record_at u j) at

-- the idle times and timers of a record that is known
pub watching : (r q : Record) → r ≡ q → Watching r q.declared q.watched q.sent_at q.taken_at
watching r q e =
    record {
      declared_is = ap (λ (y : Record). y.declared) e;
      watched_is = ap (λ (y : Record). y.watched) e;
      sent_at_is = ap (λ (y : Record). y.sent_at) e;
      taken_at_is = ap (λ (y : Record). y.taken_at) e;
    }

-- and so of the nodes, under the heads that come back
goes_on : (n : Nodes) (i j : ℕ) (c : Call) (m : Moment) → Towards n i j → Done (given called n c m) → Done (got called n i c m)
    → Moved n.table (given called n c m).table i m.sent_at n.table' (got called n i c m).table j m.received_at → GoesOn called n i j c m
unfolding sent taken become
goes_on n i j c m link done took moved =
    let own = own_kept c n.head n.table m.sent_at m.buffer done in
    let own' = own_kept _ n.head' n.table' m.received_at m.buffer' took in
    record {
      towards =
          record {
            here = moved.here;
            there = moved.there;
            open_to = rw (own, own', moved.left, moved.taken_is) (still_open n.head.own n.head'.own m.sent_at m.received_at (record_at n.table i) (record_at n.table' j) link.open_to);
          };
      back = λ b.
          record {
            here = moved.there;
            there = moved.here;
            open_to = rw (own, own', moved.left, moved.taken_is) (still_back n.head.own n.head'.own m.sent_at m.received_at (record_at n.table i) (record_at n.table' j) b.open_to);
          };
      sender_watches = watching _ _ moved.left;
      partner_watches = watching _ _ moved.taken_is;
    }

-- What send writes

-- the command's low six bits read back
low_back : (l number low : ℕ) (e : End) (net : List ℕ) → low < 64 → low_of (data_telegram e number low net) ≡ low
unfolding data_telegram sealed body
low_back l number low e net small = modulo (top_bits e.level) low small
  where
    modulo : (m n : ℕ) → n < 64 → (m * 64 + n) % 64 ≡ n
    modulo m n s = omega arith

module _ (h k : Head) (t u : List Record) (i j low time at random : ℕ) (idle_time : Option ℕ) (net spare d e : List ℕ) where
  abbrev r : Record
  r = record_at t i

  abbrev end : End
  end = end_of r h.own

  abbrev x : List ℕ
  x = data_telegram end r.sending low net

  abbrev l : Left
  l = called (Send i low net) h t time d

  module _ (bytes : Bytes net) (done : Done l) where
    c : Carried (Send i low net) h t time d
    c = carried (Send i low net) h t time d done

    is : telegram_of l ≡ x
    is = told l d i _ (send_does h t i time d low net done)

    is_taken : Taken end r.sending (telegram_of l) kind.Data [] net
    unfolding writes_data
    is_taken = subst (λ (y : List ℕ). Taken end r.sending y kind.Data [] net) (sym is) (data_taken end r.sending low net d x bytes (send_writes h t i time d low net c).written)

    low_is : low_of (telegram_of l) ≡ low
    low_is =
        let ok = clear end (length d) 0 (data_allowed low (length net) end.level) (sym (send_writes h t i time d low net c).none) refl in
        ap low_of is ∙ low_back end.level r.sending low end net (data_small low (data_command low (length net) end.level ok.2)).1

    abbrev came : Left
    came = takes called (arrival l h r random idle_time spare k u at e)

    module _ (link : Link h t i k u j) (watch : watch_over (record_at u j) at ≡ false) (got : Done came) where
      there : Does came e j (handing_up (record_at u j) at (telegram_of l))
      there = taken_there l h k t u i j at random idle_time spare e kind.Data [] net link watch is_taken got

      up : ComesUp low net (telegram_of l) came.outcome.event
      up =
          let two : (happened came.outcome.event).event ≡ 2 = ap (λ (y : Event). (happened y).event) there.says in
          record {
            data_event = two;
            command = ap (λ (y : Event). (happened y).command) there.says ∙ low_is;
            net_data_holds = net_data_handed_on (route_from h.own r) random idle_time (telegram_of l) spare k u at e two ∙ is_taken.net_data_holds;
          }

      moved : Moved t l.table i time u came.table j at
      unfolding taken
      moved =
          record {
            here = rw (others_unchanged.count (Send i low net) h t time d) link.here;
            there = rw (others_unchanged.count (Received (route_from h.own r) random idle_time (telegram_of l) spare) k u at e) link.there;
            left = left_by (Send i low net) h t time d c ∙ (send_writes h t i time d low net c).left;
            taken_is = there.leaves;
          }

pub sent_comes_up : SentComesUp called
sent_comes_up n i j low net m bytes link ok =
    let watch = in_watch (record_at n.table' j) m.received_at ok.in_time in (
      up n.head n.head' n.table n.table' i j low m.sent_at m.received_at m.random m.idle_time net m.net m.buffer m.buffer' bytes ok.done (linked n i j link) watch ok.taken,
      goes_on n i j (Send i low net) m link ok.done ok.taken
          (moved n.head n.head' n.table n.table' i j low m.sent_at m.received_at m.random m.idle_time net m.net m.buffer m.buffer' bytes ok.done (linked n i j link) watch ok.taken),
    )

-- What tick writes

-- where idle is due
pub due_sends : (r : Record) (time : ℕ) → r.phase ≡ 5 → Due r time → ticked r time ≡ SendIdle
unfolding idle_due pick
due_sends r time p due =
    by_the_table.due r time p (open_in_time r time p due.in_time)
    (rw (ne_eqb r.declared 0 due.declares) (le-leb r.declared (2 * gap r.sent_at time) (let h = due.half in omega arith)))

module _ (h k : Head) (t u : List Record) (i j time at random : ℕ) (idle_time : Option ℕ) (spare d e : List ℕ) where
  abbrev rᵢ : Record
  rᵢ = record_at t i

  abbrev endᵢ : End
  endᵢ = end_of rᵢ h.own

  abbrev lᵢ : Left
  lᵢ = called (Tick i) h t time d

  module _ (done : Done lᵢ) (verdict : ticked rᵢ time ≡ SendIdle) where
    cᵢ : Carried (Tick i) h t time d
    cᵢ = carried (Tick i) h t time d done

    idle_writes : Writes (idle endᵢ rᵢ.sending) d (sent rᵢ time) 6 event.Nothing (refusal endᵢ (length d) true) (tick_of rᵢ h.own time d) (tick_out rᵢ h.own time d)
    unfolding tick_of tick_out writes_idle
    idle_writes = rw verdict (writes (tick_refusal rᵢ h.own d) (refusal endᵢ (length d) true) (idle endᵢ rᵢ.sending) d rᵢ (sent rᵢ time) 6 event.Nothing (rw verdict at cᵢ.number))

    isᵢ : telegram_of lᵢ ≡ idle endᵢ rᵢ.sending
    isᵢ = told lᵢ d i _ (tick_does h t i time d SendIdle verdict done)

    is-takenᵢ : Taken endᵢ rᵢ.sending (telegram_of lᵢ) kind.Idle [] []
    unfolding writes_idle
    is-takenᵢ = subst (λ (y : List ℕ). Taken endᵢ rᵢ.sending y kind.Idle [] []) (sym isᵢ) (idle_taken endᵢ rᵢ.sending d (idle endᵢ rᵢ.sending) idle_writes.written)

    abbrev cameᵢ : Left
    cameᵢ = takes called (arrival lᵢ h rᵢ random idle_time spare k u at e)

    module _ (link : Link h t i k u j) (watch : watch_over (record_at u j) at ≡ false) (got : Done cameᵢ) where
      idle_there : Does cameᵢ e j (taking_idle (record_at u j) at)
      idle_there = taken_there lᵢ h k t u i j at random idle_time spare e kind.Idle [] [] link watch is-takenᵢ got

      movedᵢ : Moved t lᵢ.table i time u cameᵢ.table j at
      unfolding taken
      movedᵢ =
          record {
            here = rw (others_unchanged.count (Tick i) h t time d) link.here;
            there = rw (others_unchanged.count (Received (route_from h.own rᵢ) random idle_time (telegram_of lᵢ) spare) k u at e) link.there;
            left = left_by (Tick i) h t time d cᵢ ∙ idle_writes.left;
            taken_is = idle_there.leaves;
          }

idle_taken_by : (n : Nodes) (i j : ℕ) (m : Moment) → Towards n i j → ticked (record_at n.table i) m.sent_at ≡ SendIdle → Arrives called n i j (Tick i) m
    → ((given called n (Tick i) m).outcome.answer.telegram ≡ 6) × (((happened (got called n i (Tick i) m).outcome.event).event ≡ 0) × GoesOn called n i j (Tick i) m)
idle_taken_by n i j m link verdict ok =
    let watch = in_watch (record_at n.table' j) m.received_at ok.in_time in
    let there =
    idle_there n.head n.head' n.table n.table' i j m.sent_at m.received_at m.random m.idle_time m.net m.buffer m.buffer' ok.done verdict (linked n i j link) watch ok.taken in (
      (tick_does n.head n.table i m.sent_at m.buffer SendIdle verdict ok.done).writes,
      (
        ap (λ (y : Event). (happened y).event) there.says,
        goes_on n i j (Tick i) m link ok.done ok.taken
            (movedᵢ n.head n.head' n.table n.table' i j m.sent_at m.received_at m.random m.idle_time m.net m.buffer m.buffer' ok.done verdict (linked n i j link) watch ok.taken),
      ),
    )

pub idle_is_taken : IdleIsTaken called
idle_is_taken n i j m link due ok = idle_taken_by n i j m link (due_sends (record_at n.table i) m.sent_at link.open_to.open_here due) ok

-- What a closing writes

-- what closes: a watch that has run out, and a telegram that fails the check
pub watch_ran_out : (r : Record) (time : ℕ) → r.phase ≡ 5 → (r.watched ≡ 0 → ⊥) → r.taken_at + r.watched < time → run_out r time ≡ true
unfolding run_out watch_over pick
watch_ran_out r time p some over = rw p (rw (ne_eqb r.watched 0 some) (lt-ltb r.watched (gap r.taken_at time) (omega arith)))

-- from the confirm on a record expects the number that it holds
pub expects : (r : Record) (q : ℕ) → r.phase ≡ q → 3 ≤ q → expected_now r ≡ r.expected
unfolding expected_now pick
expects r q p low = rw (p, le-leb 3 q low) refl

pub failing_closes : (r : Record) (own time : ℕ) (t : List ℕ) → r.phase ≡ 5 → InTime r time → (check_of (end_of r own) r.expected t ≡ Passes → ⊥)
    → judged r own time t ≡ Closes 0x06 false
unfolding judged pick
failing_closes r own time t p early fails = rw (open_in_time r time p early, expects r 5 p (omega arith)) (by (check_of (end_of r own) r.expected t) refl)
  where
    by : (c : Check) → check_of (end_of r own) r.expected t ≡ c → checked_by c r t ≡ Closes 0x06 false
    by (Ok done) e = absurd (fails e)
    by (Err why) e = ap (ruled Incorrect-rcv-1st) p

-- What a call for an open record writes

-- every verdict on a telegram closes or writes nothing
data OpenVerdict (v : Verdict) : Type 0 where
  closes_it : (reason : ℕ) (last : Bool) → v ≡ Closes reason last → OpenVerdict v
  writes_nothing : ((r : Record) (own time random declared : ℕ) (t net : List ℕ) → (effect_of v r own time random declared t net).number ≡ 0) → OpenVerdict v

narrowed_open : (k : Kind) (r : Record) (t : List ℕ) → OpenVerdict (narrowed (ruled (row_of k) 5) r t)
unfolding pick
narrowed_open kind.Request r t = closes_it 0x04 false refl
narrowed_open kind.Confirm r t = closes_it 0x04 false refl
narrowed_open kind.Authentication r t = closes_it 0x04 false refl
narrowed_open kind.Acknowledgement r t = closes_it 0x04 false refl
narrowed_open kind.Disconnect r t = writes_nothing (λ r own time random declared t net. refl)
narrowed_open kind.Idle r t = writes_nothing (λ r own time random declared t net. refl)
narrowed_open kind.Data r t = writes_nothing (λ r own time random declared t net. refl)
narrowed_open kind.Unknown r t = closes_it 0x06 false refl

open_judged : (r : Record) (own time : ℕ) (t : List ℕ) → r.phase ≡ 5 → OpenVerdict (judged r own time t)
unfolding judged passed run_out_verdict pick
open_judged r own time t p = by (run_out r time) (check_of (end_of r own) (expected_now r) t)
  where
    in_phase : (f : ℕ → Verdict) → OpenVerdict (f 5) → OpenVerdict (f r.phase)
    in_phase f = subst (λ (y : ℕ). OpenVerdict (f y)) (sym p)

    by : (b : Bool) (c : Check) → OpenVerdict (pick b (run_out_verdict r.phase) (checked_by c r t))
    by true c = in_phase run_out_verdict (closes_it 0x05 false refl)
    by false (Ok done) = in_phase (λ (y : ℕ). narrowed (ruled (row_of (kind_of_command (command_of t))) y) r t) (narrowed_open (kind_of_command (command_of t)) r t)
    by false (Err why) = in_phase (ruled Incorrect-rcv-1st) (closes_it 0x06 false refl)

-- a tick closes, writes an idle telegram, or nothing
data OpenTick (v : Verdict) : Type 0 where
  tick_closes : (reason : ℕ) (last : Bool) → v ≡ Closes reason last → OpenTick v
  tick_idles : v ≡ SendIdle → OpenTick v
  tick_rests : v ≡ Nothing → OpenTick v

open_ticked : (r : Record) (time : ℕ) → r.phase ≡ 5 → OpenTick (ticked r time)
unfolding ticked run_out_verdict pick
open_ticked r time p =
    subst (λ (y : ℕ). OpenTick (pick (run_out r time) (run_out_verdict y) (pick (eqb y 5) (pick (idle_due r time) (ruled Timeout-snd y) Nothing) Nothing))) (sym p) (by (run_out r time) (idle_due r time))
  where
    by : (b c : Bool) → OpenTick (pick b (run_out_verdict 5) (pick c (ruled Timeout-snd 5) Nothing))
    by true c = tick_closes 0x05 false refl
    by false true = tick_idles refl
    by false false = tick_rests refl

-- opening is refused there
not_opened : (r : Record) (own : ℕ) (i : Option ℕ) (net d : List ℕ) → r.phase ≡ 5 → open_refusal r own i net d ≡ 0 → ⊥
unfolding open_refusal first_refusal pick
not_opened r own i net d p z =
    let ok = connect_allowed (declared_by i) (length net) r.level in
    by (record_in_range r own) (leb longest (length d)) ok
    (subst (λ (y : ℕ). first_refusal (record_in_range r own) (leb longest (length d)) true (neb y 6) (eqb y 1) ok ≡ 0) p z)
  where
    by : (a b c : Bool) → first_refusal a b true (neb 5 6) (eqb 5 1) c ≡ 0 → ⊥
    by true true c z = omega arith
    by true false c z = omega arith
    by false b c z = omega arith

-- so of the calls
data Writing (c : Call) (i : ℕ) (r : Record) (own time : ℕ) (d : List ℕ) : Type 0 where
  by_sending : (low : ℕ) (net : List ℕ) → c ≡ Send i low net → Writing c i r own time d
  by_ticking : c ≡ Tick i → ticked r time ≡ SendIdle → Writing c i r own time d
  by_closing : (reason : ℕ) (last : Bool) → Disconnects r own d (step_of c r own time d) (step_out c r own time d) reason last (text_of c) → Writing c i r own time d

writing : (c : Call) (t : List Record) (i : ℕ) (r : Record) (own time : ℕ) (d : List ℕ) → place_of c t ≡ i → r.phase ≡ 5 → (step_of c r own time d).answer.number ≡ 0
    → ((step_of c r own time d).answer.telegram ≡ 0 → ⊥) → Writing c i r own time d
unfolding received_of received_out tick_of tick_out
writing (Open place random idle net) t i r own time d at p z some = absurd (not_opened r own idle net d p (sym (answers.by_open r own time random idle net d) ∙ z))
writing (Close place type reason text) t i r own time d at p z some = by_closing reason (eqb type 0) (close_closes_step r own type reason text d z)
writing (Send place low net) t i r own time d at p z some = by_sending low net (ap (λ (y : ℕ). Send y low net) at)
writing (Received w random idle telegram net) t i r own time d at p z some = by (judged r own time telegram) refl (open_judged r own time telegram p)
  where
    n : ℕ
    n = received_refusal r own idle telegram net d

    by : (v : Verdict) → judged r own time telegram ≡ v → OpenVerdict v → Writing (Received w random idle telegram net) i r own time d
    by v f (closes_it reason last e) =
        by_closing reason last
        (rw (f, e) (act_closes n reason last r own time random (declared_by idle) telegram net d (rw (f, e) at z)))
    by v f (writes_nothing none) =
        absurd (some (rw f ((act_does n v r own time random (declared_by idle) telegram net d (rw f at z)).number ∙ none r own time random (declared_by idle) telegram net)))
writing (Tick place) t i r own time d at p z some = by (ticked r time) refl (open_ticked r time p)
  where
    n : ℕ
    n = tick_refusal r own d

    by : (v : Verdict) → ticked r time ≡ v → OpenTick v → Writing (Tick place) i r own time d
    by v f (tick_closes reason last e) = by_closing reason last (rw (f, e) (act_closes n reason last r own time 0 0 [] [] d (rw (f, e) at z)))
    by v f (tick_idles e) = by_ticking (ap Tick at) (f ∙ e)
    by v f (tick_rests e) = absurd (some (rw (f, e) (act_does n Nothing r own time 0 0 [] [] d (rw (f, e) at z)).number))

-- What a disconnect does to both ends

by_type : (last : Bool) → eqb (pick last 0 1) 0 ≡ last
unfolding pick
by_type true = refl
by_type false = refl

module _ (n : Nodes) (i j : ℕ) (c : Call) (m : Moment) (place : place_of c n.table ≡ i) where
  abbrev r₅ : Record
  r₅ = record_at n.table (place_of c n.table)

  abbrev Wrote-one : ℕ → Bool → List ℕ → Type 0
  Wrote-one reason last text =
      Disconnects r₅ n.head.own m.buffer (step_in c n.head n.table m.sent_at m.buffer) (step_out c r₅ n.head.own m.sent_at m.buffer) reason last text

  module _ (reason : ℕ) (last : Bool) (text : List ℕ) (bytes : Bytes text) (g : Carried c n.head n.table m.sent_at m.buffer) (s : Wrote-one reason last text) where
    closed_here : IsClosed (given called n c m) n.head n.table m.buffer i reason last text
    closed_here =
        subst (λ (y : ℕ). IsClosed (given called n c m) n.head n.table m.buffer y reason last text) place
        (call_does c n.head n.table m.sent_at m.buffer _ g s.does)

    -- the telegram is taken by the mirrored end
    is_taken₅ : Taken (end_of (record_at n.table i) n.head.own) (record_at n.table i).sending (telegram_of (given called n c m)) kind.Disconnect (pick last 0 1 ∷ reason ∷ []) text
    is_taken₅ =
        subst (λ (z : List ℕ). Taken (end_of (record_at n.table i) n.head.own) (record_at n.table i).sending z kind.Disconnect (pick last 0 1 ∷ reason ∷ []) text)
        (sym (told (given called n c m) m.buffer i _ closed_here))
        (disconnect_taken (end_of (record_at n.table i) n.head.own) (record_at n.table i).sending (pick last 0 1) reason text m.buffer _ bytes
        (subst (λ (y : ℕ). writes_disconnect (end_of (record_at n.table y) n.head.own) (record_at n.table y).sending (pick last 0 1) reason text m.buffer ≡ wrote (disconnect (end_of (record_at n.table y) n.head.own) (record_at n.table y).sending (pick last 0 1) reason text)) place s.written))

    closes : Towards n i j → Arrives called n i j c m → ClosedWith called n i j c m reason last text
    closes link ok =
        let q = record_at n.table' j in
        let there =
        taken_there (given called n c m) n.head n.head' n.table n.table' i j m.received_at m.random m.idle_time m.net m.buffer' kind.Disconnect (pick last 0 1 ∷ reason ∷ []) text
        (linked n i j link) (in_watch q m.received_at ok.in_time) is_taken₅ ok.taken in
        record {
          here = closed_here;
          there =
              subst (λ (b : Bool). ClosedByPartner (got called n i c m) n.table' m.buffer' j reason b) (by_type last)
              (subst (λ (vs : List ℕ). ClosedByPartner (got called n i c m) n.table' m.buffer' j (get_or vs 1 0) (eqb (get_or vs 0 0) 0)) is_taken₅.fields there);
        }

pub close_closes : CloseCloses called
close_closes n i j type reason text m bytes link ok =
    let g = carried (Close i type reason text) n.head n.table m.sent_at m.buffer ok.done in
    closes n i j (Close i type reason text) m refl reason (eqb type 0) text bytes g
    (close_closes_step (record_at n.table i) n.head.own type reason text m.buffer g.number) link ok

-- by a verdict
tick_disconnects : (h : Head) (t : List Record) (i time : ℕ) (d : List ℕ) (reason : ℕ) (last : Bool) → ticked (record_at t i) time ≡ Closes reason last → Carried (Tick i) h t time d
    → Disconnects (record_at t i) h.own d (step_in (Tick i) h t time d) (step_out (Tick i) (record_at t i) h.own time d) reason last []
unfolding tick_of tick_out
tick_disconnects h t i time d reason last v g =
    let r = record_at t i in rw v (act_closes (tick_refusal r h.own d) reason last r h.own time 0 0 [] [] d (rw v at g.number))

receipt_disconnects : (h : Head) (t : List Record) (w : Route) (random : ℕ) (idle_time : Option ℕ) (telegram net : List ℕ) (time : ℕ) (d : List ℕ) (reason : ℕ) (last : Bool)
    → judged (record_at t (first_match w t)) h.own time telegram ≡ Closes reason last → Carried (Received w random idle_time telegram net) h t time d
    → Disconnects (record_at t (first_match w t)) h.own d (step_in (Received w random idle_time telegram net) h t time d)
    (step_out (Received w random idle_time telegram net) (record_at t (first_match w t)) h.own time d) reason last []
unfolding received_of received_out
receipt_disconnects h t w random idle_time telegram net time d reason last v g =
    let r = record_at t (first_match w t) in
    rw v (act_closes (received_refusal r h.own idle_time telegram net d) reason last r h.own time random (declared_by idle_time) telegram net d (rw v at g.number))

pub silence_closes : SilenceCloses called
unfolding pick
silence_closes n i j m link some over ok =
    let r = record_at n.table i in
    let g = carried (Tick i) n.head n.table m.sent_at m.buffer ok.done in
    let p = link.open_to.open_here in
    let v = (by_the_table.silent r 0 m.sent_at [] p (watch_ran_out r m.sent_at p some over)).1 in
    closes n i j (Tick i) m refl 0x05 false [] tt g (tick_disconnects n.head n.table i m.sent_at m.buffer 0x05 false v g) link ok

pub incorrect_closes : IncorrectCloses called
incorrect_closes n i j random idle_time w telegram net m link place early fails ok =
    let g = carried (Received w random idle_time telegram net) n.head n.table m.sent_at m.buffer ok.done in
    let v : judged (record_at n.table (first_match w n.table)) n.head.own m.sent_at telegram ≡ Closes 0x06 false =
    subst (λ (y : ℕ). judged (record_at n.table y) n.head.own m.sent_at telegram ≡ Closes 0x06 false) (sym place)
    (failing_closes (record_at n.table i) n.head.own m.sent_at telegram link.open_to.open_here early fails) in
    closes n i j (Received w random idle_time telegram net) m place 0x06 false [] tt g
    (receipt_disconnects n.head n.table w random idle_time telegram net m.sent_at m.buffer 0x06 false v g) link ok

-- What is written is taken, whatever it is

module _ (n : Nodes) (i j : ℕ) (c : Call) (m : Moment) (place : place_of c n.table ≡ i) (text : Bytes (text_of c)) (link : Towards n i j) (ok : Arrives called n i j c m) where
  g₀ : Carried c n.head n.table m.sent_at m.buffer
  g₀ = carried c n.head n.table m.sent_at m.buffer ok.done

  abbrev How : Type 0
  How = Writing c i (record_at n.table (place_of c n.table)) n.head.own m.sent_at m.buffer

  how : ((given called n c m).outcome.answer.telegram ≡ 0 → ⊥) → How
  how some =
      writing c n.table i (record_at n.table (place_of c n.table)) n.head.own m.sent_at m.buffer place (rw place link.open_to.open_here) g₀.number
      (λ z. some (ap (λ (y : Answer). y.telegram) g₀.answer ∙ z))

  taken_by : Bytes (net_of c) → How → IsTaken called n i j c m
  taken_by bytes (by_sending low net e) =
      let s = sent_comes_up n i j low net m (subst (λ (y : Call). Bytes (net_of y)) e bytes) link (rw e at ok) in
      rw e (as_data low net refl (send_does n.head n.table i m.sent_at m.buffer low net (rw e at ok.done)).writes s.0 s.1)
  taken_by bytes (by_ticking e v) =
      let s = idle_taken_by n i j m link (subst (λ (y : ℕ). ticked (record_at n.table y) m.sent_at ≡ SendIdle) place v) (rw e at ok) in rw e (as_idle refl s.0 s.1.0 s.1.1)
  taken_by bytes (by_closing reason last s) =
      let both = closes n i j c m place reason last (text_of c) text g₀ s link ok in as_disconnect reason last both.here.writes both

  disconnected_by : (given called n c m).outcome.answer.telegram ≡ 5 → How → (reason : ℕ) × ((last : Bool) × ClosedWith called n i j c m reason last (text_of c))
  disconnected_by five (by_sending low net e) =
      let y : ◌≡◌ {A = ℕ} 7 5 = sym (send_does n.head n.table i m.sent_at m.buffer low net (rw e at ok.done)).writes ∙ (rw e at five) in absurd (omega arith)
  disconnected_by five (by_ticking e v) =
      let idles = subst (λ (y : ℕ). ticked (record_at n.table y) m.sent_at ≡ SendIdle) place v in
      let y : ◌≡◌ {A = ℕ} 6 5 = sym (tick_does n.head n.table i m.sent_at m.buffer SendIdle idles (rw e at ok.done)).writes ∙ (rw e at five) in absurd (omega arith)
  disconnected_by five (by_closing reason last s) = (reason, (last, closes n i j c m place reason last (text_of c) text g₀ s link ok))

pub written_is_taken : WrittenIsTaken called
written_is_taken n i j c m place text net link ok some = taken_by n i j c m place text link ok net (how n i j c m place text link ok some)

pub disconnect_closes : DisconnectCloses called
disconnect_closes n i j c m place text link ok five =
    disconnected_by n i j c m place text link ok five (how n i j c m place text link ok (λ z. let y : ◌≡◌ {A = ℕ} 0 5 = sym z ∙ five in omega arith))

-- Nothing is refused

-- a telegram that the mirrored end takes
taken_done : (n : Nodes) (i j : ℕ) (c : Call) (m : Moment) (v : Kind) (vs net : List ℕ) → Towards n i j → NothingWrong n j m
    → Taken (end_of (record_at n.table i) n.head.own) (record_at n.table i).sending (telegram_of (given called n c m)) v vs net → Done (got called n i c m)
taken_done n i j c m v vs net link ok y =
    received_done n.head.own (record_at n.table i) n.head' n.table' j m.received_at m.random m.idle_time (telegram_of (given called n c m)) m.net m.buffer' ok.table_there ok.room_there
    ok.time_there (passed-check (mirrored (end_of (record_at n.table i) n.head.own)) (record_at n.table i).sending (telegram_of (given called n c m)) y.passes).on_bus_holds link.open_to.ends link.there
    (λ p. let z : ◌≡◌ {A = ℕ} 5 6 = sym link.open_to.open_there ∙ p in absurd (omega arith)) ok.lent

-- an open record is not finally closed
open_live : (r : Record) → r.phase ≡ 5 → r.phase ≡ 6 → ⊥
open_live r p q = let z : ◌≡◌ {A = ℕ} 5 6 = sym p ∙ q in omega arith

-- and can be closed
open_closes : (r : Record) → r.phase ≡ 5 → neb r.phase 1 ≡ true
unfolding pick
open_closes r p = ap (λ (y : ℕ). neb y 1) p

pub nothing_refused : NothingRefused called
nothing_refused =
    record {
      by_send = λ n i j low net m bytes link ok fits.
          let r = record_at n.table i in
          let p = link.open_to.open_here in
          let done =
          done_by_holds (Send i low net) n.head n.table m.sent_at m.buffer ok.table_here ok.room_here ok.time_here refl link.here (open_live r p) (eq-eqb r.phase 5 p) fits in
          (done, taken_done n i j (Send i low net) m kind.Data [] net link ok (is_taken n.head n.head' n.table n.table' i j low m.sent_at m.received_at m.random m.idle_time net m.net m.buffer m.buffer' bytes done));
      by_tick = λ n i j m link ok due.
          let r = record_at n.table i in
          let p = link.open_to.open_here in
          let done = done_by_holds (Tick i) n.head n.table m.sent_at m.buffer ok.table_here ok.room_here ok.time_here refl link.here (open_live r p) refl refl in (
            done,
            taken_done n i j (Tick i) m kind.Idle [] [] link ok
                (is-takenᵢ n.head n.head' n.table n.table' i j m.sent_at m.received_at m.random m.idle_time m.net m.buffer m.buffer' done (due_sends r m.sent_at p due)),
          );
      by_close = λ n i j type reason text m bytes link ok fits.
          let r = record_at n.table i in
          let p = link.open_to.open_here in
          let done =
          done_by_holds (Close i type reason text) n.head n.table m.sent_at m.buffer ok.table_here ok.room_here ok.time_here refl link.here (open_live r p) (open_closes r p) fits in
          let g = carried (Close i type reason text) n.head n.table m.sent_at m.buffer done in
          let s = close_closes_step r n.head.own type reason text m.buffer g.number in
          (done, taken_done n i j (Close i type reason text) m kind.Disconnect _ text link ok (is_taken₅ n i j (Close i type reason text) m refl reason (eqb type 0) text bytes g s));
    }

pub isolation : Isolation called
isolation = record { others_unchanged = others_unchanged; partners_stay = partners_stay; stays_accepted = stays_accepted }

pub demand_2_one_step : Demand2OneStep called
demand_2_one_step =
    record {
      sent_comes_up = sent_comes_up;
      idle_is_taken = idle_is_taken;
      close_closes = close_closes;
      silence_closes = silence_closes;
      incorrect_closes = incorrect_closes;
      disconnect_closes = disconnect_closes;
      written_is_taken = written_is_taken;
      nothing_refused = nothing_refused;
      isolation = isolation;
    }
