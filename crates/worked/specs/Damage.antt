-- Worked examples of damage on the cable: node 1 and node 8, connected, being set up, or closed; at the end node 8 and node 9.
-- Assumes nothing.
use Rattle.std.specs.Prelude.{◌≡◌, refl, Bool, true, false, ◌&&◌, List, [], ◌∷◌, ℕ, ◌+◌, ◌-◌, length, take, drop, get_or, replicate, T, ltb}
use Rattle.std.proofs.Common.{sym, ap, ◌∙◌, inl, inr, arith, get_or-take, get_or-drop, ltb→lt, lit≤}
use Rattle.checkword.specs.Bytes.{Bytes, Within}
use Rattle.checkword.specs.Generators.{generator48, generator32}
use Rattle.checkword.specs.Word.{shift, feed}
use Rattle.ground.specs.Choice.{pick}
use Rattle.telegram.specs.Levels.{top_bits, width, word_length, generator, level_of}
use Rattle.telegram.specs.Commands.{kind_of_command, kind_of, is_data}
use Rattle.telegram.specs.Values.{good_idle, good_dual_bus, good_type, listed_reason}
use Rattle.telegram.specs.Ends.{mirrored, in_range, implicit}
use Rattle.telegram.specs.Telegrams as telegrams
use Rattle.telegram.specs.Telegrams.{sealed, body, check_word}
use Rattle.telegram.specs.Writers.{refusal, connect_allowed, disconnect_allowed, writes_disconnect}
use Rattle.telegram.specs.Check.{command_of, check_of, word_agrees, Passes, Failed}
use Rattle.telegram.specs.declared.Kind.TheVariants.{Data}
use Rattle.telegram.specs.declared.Clause.{Clause}
use Rattle.telegram.specs.declared.Clause.TheVariants as clause
use Rattle.link.specs.Records.{end_of, record_in_range, is_phase, is_closed, at_rest, fresh_of, become, closed_by}
use Rattle.link.specs.Times.{wait_over, watch_over}
use Rattle.link.specs.Judged.{judged, passed, run_out, expected_now}
use Rattle.link.specs.Steps.{first_refusal, writing_step, received_refusal, received_of, received_out, declared_by, quietly}
use Rattle.link.specs.declared.Record.{Record}
use Rattle.link.specs.declared.Event.TheVariants.{Nothing, Closed}
use Rattle.node.specs.declared.Head.{Head}
use Rattle.node.specs.declared.Route.{Route}
use Rattle.node.specs.Accepted.{record_at, accepted, bounds_accepted, record_accepted}
use Rattle.node.specs.Calls.{Left, called, asked, settled}
use Rattle.demands.specs.Pairs.{Done, Towards, Listens, Arrives}
use Rattle.worked.specs.Demand2.{example_record, example_receipt, example_nodes, example_connected, example_moment}
use Rattle.demands.specs.Demand3.{Wrote}
use Rattle.worked.specs.Demand3.{example_telegram4, example_telegram2, example_wrote}
use Rattle.demands.specs.Damage.{Changed, Damage, OtherThanConnect, SameSort, ComesDamaged}
use Rattle.demands.specs.Damage.Damage.{before_the_word, in_the_word}
use Rattle.demands.specs.Pairs.Listens.{set_up, open_here}

-- Node 1's record for node 8 at this level: open, and expecting the number 01234569h.
abbrev pub example_open_at : ℕ → Record
example_open_at level = example_record level 8 0x89ABCDF1 0x01234569 1000

-- What the theorem asks for, at a level with so many neighbouring bytes, and the clause at which what came fails.
pub record Example (level n : ℕ) (t u : List ℕ) (c : Clause) : Type 0 where
  pub other : OtherThanConnect t
  pub changed : Changed t u
  pub command : command_of t ≡ command_of u
  pub damage : Damage n level t u
  pub passes : check_of (end_of (example_open_at level) 1) 0x01234569 t ≡ Passes
  pub fails : check_of (end_of (example_open_at level) 1) 0x01234569 u ≡ Failed c

-- The data telegram of node 8, 69h 89h 01h 02h and the check word 83h 6Ah B0h 3Eh 32h 22h, with both net bytes changed; with its first byte changed; and with two bytes of
-- its check word changed.
abbrev pub example_net_changed4 : List ℕ
example_net_changed4 = 0x69 ∷ 0x89 ∷ 0xFE ∷ 0xFD ∷ 0x83 ∷ 0x6A ∷ 0xB0 ∷ 0x3E ∷ 0x32 ∷ 0x22 ∷ []

abbrev pub example_number_changed4 : List ℕ
example_number_changed4 = 0x68 ∷ 0x89 ∷ 0x01 ∷ 0x02 ∷ 0x83 ∷ 0x6A ∷ 0xB0 ∷ 0x3E ∷ 0x32 ∷ 0x22 ∷ []

abbrev pub example_word_changed4 : List ℕ
example_word_changed4 = 0x69 ∷ 0x89 ∷ 0x01 ∷ 0x02 ∷ 0x84 ∷ 0x6A ∷ 0xB0 ∷ 0x3E ∷ 0x32 ∷ 0x23 ∷ []

-- At level 2 69h 09h 01h 02h and DDh 0Eh BCh 6Fh, likewise.
abbrev pub example_net_changed2 : List ℕ
example_net_changed2 = 0x69 ∷ 0x09 ∷ 0xFE ∷ 0xFD ∷ 0xDD ∷ 0x0E ∷ 0xBC ∷ 0x6F ∷ []

abbrev pub example_word_changed2 : List ℕ
example_word_changed2 = 0x69 ∷ 0x09 ∷ 0x01 ∷ 0x02 ∷ 0xDE ∷ 0x0E ∷ 0xBC ∷ 0x70 ∷ []

-- A telegram with six net bytes of 0, all of them changed: the whole window.
abbrev pub example_six_sent : List ℕ
example_six_sent = 0x69 ∷ 0x89 ∷ 0x00 ∷ 0x00 ∷ 0x00 ∷ 0x00 ∷ 0x00 ∷ 0x00 ∷ 0x96 ∷ 0xD1 ∷ 0xD6 ∷ 0xCB ∷ 0xF2 ∷ 0x39 ∷ []

abbrev pub example_six_changed : List ℕ
example_six_changed = 0x69 ∷ 0x89 ∷ 0x11 ∷ 0x22 ∷ 0x33 ∷ 0x44 ∷ 0x55 ∷ 0x66 ∷ 0x96 ∷ 0xD1 ∷ 0xD6 ∷ 0xCB ∷ 0xF2 ∷ 0x39 ∷ []

-- A data telegram is neither connect request nor confirm.
data_is_other : (t : List ℕ) → kind_of_command (command_of t) ≡ Data → OtherThanConnect t
data_is_other t d (inl e) = let z : ◌≡◌ {A = ℕ} 0 1 = cc in absurd (omega arith)
data_is_other t d (inr e) = let z : ◌≡◌ {A = ℕ} 0 1 = cc in absurd (omega arith)

-- Lists whose numbers are all seen to be bytes, and that differ at place k.
abbrev pub are_bytes : List ℕ → Bool
are_bytes [] = true
are_bytes (b ∷ bs) = ltb b 256 && are_bytes bs

both : (a b : Bool) → T (a && b) → T a × T b
both true b h = (tt, h)
both false b h = absurd h

bytes_are : (bs : List ℕ) → T (are_bytes bs) → Bytes bs
bytes_are [] h = tt
bytes_are (b ∷ bs) h = let each = both (ltb b 256) (are_bytes bs) h in (ltb→lt b 256 each.0, bytes_are bs each.1)

pub changed_at : (k : ℕ) (t u : List ℕ) → T (are_bytes t) → T (are_bytes u) → length t ≡ length u → (get_or t k 0 ≡ get_or u k 0 → ⊥) → Changed t u
changed_at k t u ht hu l differ =
    record { bytes = bytes_are t ht; came = bytes_are u hu; one_length = l; differs = λ e. differ (ap (λ (s : List ℕ). get_or s k 0) e) }

-- Two lists with the same s first places, and the same from place s + n on.
pub within_by : (n s : ℕ) (a b : List ℕ) → length a ≡ length b → take s a ≡ take s b → drop (s + n) a ≡ drop (s + n) b → Within n a b
within_by n s a b l same rest =
    record {
      start = s;
      one_length = l;
      before = λ k h. sym (get_or-take s a k 0 h) ∙ ap (λ (x : List ℕ). get_or x k 0) same ∙ get_or-take s b k 0 h;
      after = λ k h.
          let past : s + n + (k - (s + n)) ≡ k = omega arith in
          let at : (x : List ℕ) → get_or x k 0 ≡ get_or (drop (s + n) x) (k - (s + n)) 0 =
          λ x. sym (get_or-drop (s + n) x (k - (s + n)) 0 ∙ ap (λ (i : ℕ). get_or x i 0) past) in
          at a ∙ ap (λ (x : List ℕ). get_or x (k - (s + n)) 0) rest ∙ sym (at b);
    }

-- Before the check word, where byte 1 is seen by itself, and in the check word; at level 4 and at level 2.
pub record Examples : Type 0 where
  pub whole_window_at_4 : Example 4 6 example_six_sent example_six_changed clause.Word
  pub net_at_4 : Example 4 6 example_telegram4 example_net_changed4 clause.Word
  pub number_at_4 : Example 4 6 example_telegram4 example_number_changed4 clause.Number
  pub word_at_4 : Example 4 6 example_telegram4 example_word_changed4 clause.Word
  pub net_at_2 : Example 2 4 example_telegram2 example_net_changed2 clause.Word
  pub word_at_2 : Example 2 4 example_telegram2 example_word_changed2 clause.Word

-- One of them, of a data telegram that differs at place k.
data_example : (level n k : ℕ) (t u : List ℕ) (c : Clause) → kind_of_command (command_of t) ≡ Data → T (are_bytes t) → T (are_bytes u) → length t ≡ length u
    → (get_or t k 0 ≡ get_or u k 0 → ⊥) → command_of t ≡ command_of u → Damage n level t u → check_of (end_of (example_open_at level) 1) 0x01234569 t ≡ Passes
    → check_of (end_of (example_open_at level) 1) 0x01234569 u ≡ Failed c → Example level n t u c
data_example level n k t u c kind ht hu l differ command damage passes fails =
    record { other = data_is_other t kind; changed = changed_at k t u ht hu l differ; command = command; damage = damage; passes = passes; fails = fails }

pub examples : Examples
unfolding check_of word_agrees in_range level_of check_word implicit width word_length generator generator48 generator32 shift feed kind_of is_data end_of pick
examples =
    record {
      whole_window_at_4 = data_example 4 6 2 example_six_sent example_six_changed clause.Word refl tt tt refl (λ e. omega arith) refl (before_the_word (within_by 6 2 _ _ refl refl refl) refl) refl refl;
      net_at_4 = data_example 4 6 2 example_telegram4 example_net_changed4 clause.Word refl tt tt refl (λ e. omega arith) refl (before_the_word (within_by 6 2 _ _ refl refl refl) refl) refl refl;
      number_at_4 = data_example 4 6 0 example_telegram4 example_number_changed4 clause.Number refl tt tt refl (λ e. omega arith) refl (before_the_word (within_by 6 0 _ _ refl refl refl) refl) refl refl;
      word_at_4 = data_example 4 6 4 example_telegram4 example_word_changed4 clause.Word refl tt tt refl (λ e. omega arith) refl (in_the_word refl) refl refl;
      net_at_2 = data_example 2 4 2 example_telegram2 example_net_changed2 clause.Word refl tt tt refl (λ e. omega arith) refl (before_the_word (within_by 4 2 _ _ refl refl refl) refl) refl refl;
      word_at_2 = data_example 2 4 4 example_telegram2 example_word_changed2 clause.Word refl tt tt refl (λ e. omega arith) refl (in_the_word refl) refl refl;
    }

-- Anywhere: the last net byte and the first five of the check word; and the command byte with the first net byte, so that another data telegram comes.
abbrev pub example_across4 : List ℕ
example_across4 = 0x69 ∷ 0x89 ∷ 0x01 ∷ 0xFD ∷ 0x7C ∷ 0x95 ∷ 0x4F ∷ 0xC1 ∷ 0xCD ∷ 0x22 ∷ []

abbrev pub example_command_changed4 : List ℕ
example_command_changed4 = 0x69 ∷ 0xA9 ∷ 0xFE ∷ 0x02 ∷ 0x83 ∷ 0x6A ∷ 0xB0 ∷ 0x3E ∷ 0x32 ∷ 0x22 ∷ []

pub record AnywhereExample (u : List ℕ) : Type 0 where
  pub changed : Changed example_telegram4 u
  pub same_sort : SameSort example_telegram4 u
  pub within : Within 6 example_telegram4 u
  pub fails : check_of (end_of (example_open_at 4) 1) 0x01234569 u ≡ Failed clause.Word

-- Both are data, and so of one sort.
both_data : (t u : List ℕ) → kind_of_command (command_of t) ≡ Data → kind_of_command (command_of u) ≡ Data → SameSort t u
both_data t u d e = (λ c. absurd (data_is_other t d c), λ c. absurd (data_is_other u e c))

pub examples_anywhere : AnywhereExample example_across4 × AnywhereExample example_command_changed4
unfolding check_of word_agrees in_range level_of check_word implicit width word_length generator generator48 shift feed kind_of is_data end_of pick
examples_anywhere = (
  record {
    changed = changed_at 3 example_telegram4 example_across4 tt tt refl (λ e. omega arith);
    same_sort = both_data example_telegram4 example_across4 refl refl;
    within = within_by 6 3 _ _ refl refl refl;
    fails = refl;
  },
  record {
    changed = changed_at 1 example_telegram4 example_command_changed4 tt tt refl (λ e. omega arith);
    same_sort = both_data example_telegram4 example_command_changed4 refl refl;
    within = within_by 6 1 _ _ refl refl refl;
    fails = refl;
  },
)

-- The telegrams are what node 8 writes under the number that node 1 expects.
pub example_written : Wrote (mirrored (end_of (example_open_at 4) 1)) 0x01234569 example_telegram4 × Wrote (mirrored (end_of (example_open_at 2) 1)) 0x01234569 example_telegram2
unfolding fresh_of end_of
example_written = example_wrote

-- What node 1 does with it at time 1300: the damaged telegram arrives from node 8, as the only record of its table expects it ..
abbrev pub example_head : Head
example_head = record { own = 1; latest = 1000 }

abbrev pub example_route : Route
example_route = record { sender = 8; destination_sap = 3; source_sap = 3 }

pub example_comes :
    ComesDamaged example_route example_head (example_open_at 4 ∷ []) 0 example_telegram4 example_net_changed4
    × ComesDamaged example_route example_head (example_open_at 2 ∷ []) 0 example_telegram2 example_net_changed2
unfolding expected_now check_of word_agrees in_range level_of check_word implicit width word_length generator generator48 generator32 shift feed kind_of is_data end_of pick
example_comes = (
  record { place = refl; passes = refl; changed = examples.net_at_4.changed; command = refl; within = within_by 6 2 _ _ refl refl refl },
  record { place = refl; passes = refl; changed = examples.net_at_2.changed; command = refl; within = within_by 4 2 _ _ refl refl refl },
)

-- .. and in time.
pub example_listens : (level : ℕ) → Listens (example_open_at level) 1300
example_listens level = open_here refl (λ some. lit≤ tt)

abbrev pub example_left : ℕ → List ℕ → Left
example_left level u = called (example_receipt 8 u) example_head (example_open_at level ∷ []) 1300 (replicate 244 0)

-- The call is done, closes the connection with 06h, not finally, and writes a disconnect.
pub record TurnedAwayExample (l : Left) : Type 0 where
  pub done : Done l
  pub says : l.outcome.event ≡ Closed 0x06 false
  pub writes : l.outcome.answer.telegram ≡ 5
  pub phase : (record_at l.table 0).phase ≡ 1

pub example_turned_away : TurnedAwayExample (example_left 4 example_net_changed4) × TurnedAwayExample (example_left 2 example_net_changed2)
unfolding called asked settled accepted bounds_accepted record_accepted record_in_range end_of in_range is_phase is_closed good_idle at_rest first_refusal writing_step refusal received_refusal received_of received_out declared_by connect_allowed judged run_out watch_over expected_now check_of word_agrees level_of disconnect_allowed good_type listed_reason writes_disconnect telegrams.disconnect closed_by become sealed body check_word implicit top_bits width word_length generator generator48 generator32 shift feed kind_of is_data pick
example_turned_away = (record { done = refl; says = refl; writes = refl; phase = refl }, record { done = refl; says = refl; writes = refl; phase = refl })

-- During set-up: node 1 awaits the authentication of 5.3.1.7, 68h 83h F0h CDh ABh 89h with its check word 20h 2Ah 5Dh E9h BAh 6Dh, and its last byte before the check word comes
-- changed, 5,000 after node 1 sent its confirm. That is in time, and closes with 06h, not with 03h and not finally.
abbrev pub example_awaiting : Record
example_awaiting =
    record {
      partner = 8;
      partner_sap = 3;
      local_sap = 3;
      level = 4;
      phase = 3;
      sending = 0x89ABCDF0;
      expected = 0x01234568;
      declared = 500;
      watched = 500;
      sent_at = 1000;
      taken_at = 1000;
    }

abbrev pub example_authentication : List ℕ
example_authentication = 0x68 ∷ 0x83 ∷ 0xF0 ∷ 0xCD ∷ 0xAB ∷ 0x89 ∷ 0x20 ∷ 0x2A ∷ 0x5D ∷ 0xE9 ∷ 0xBA ∷ 0x6D ∷ []

abbrev pub example_authentication_changed : List ℕ
example_authentication_changed = 0x68 ∷ 0x83 ∷ 0xF0 ∷ 0xCD ∷ 0xAB ∷ 0x8A ∷ 0x20 ∷ 0x2A ∷ 0x5D ∷ 0xE9 ∷ 0xBA ∷ 0x6D ∷ []

pub example_in_set_up :
    ComesDamaged example_route example_head (example_awaiting ∷ []) 0 example_authentication example_authentication_changed
    × Listens example_awaiting 6000
    × TurnedAwayExample (called (example_receipt 8 example_authentication_changed) example_head (example_awaiting ∷ []) 6000 (replicate 244 0))
unfolding called asked settled accepted bounds_accepted record_accepted record_in_range end_of in_range is_phase is_closed good_idle at_rest first_refusal writing_step refusal received_refusal received_of received_out declared_by connect_allowed judged run_out wait_over expected_now check_of word_agrees level_of disconnect_allowed good_type listed_reason writes_disconnect telegrams.disconnect closed_by become sealed body check_word implicit top_bits width word_length generator generator48 shift feed kind_of is_data pick
example_in_set_up = (
  record {
    place = refl;
    passes = refl;
    changed = changed_at 5 example_authentication example_authentication_changed tt tt refl (λ e. omega arith);
    command = refl;
    within = within_by 6 5 _ _ refl refl refl;
  },
  set_up (lit≤ tt) (lit≤ tt) (lit≤ tt),
  record { done = refl; says = refl; writes = refl; phase = refl },
)

-- A connect request at level 2 with the random number 01234569h and the idle time 500, and what comes of it when bytes 5 to 8 change by 06h 29h 5Fh 72h: the check word agrees with
-- the new random number 28254569h, and the idle time 29611 is what fails.
abbrev pub example_request2 : List ℕ
example_request2 = 0x69 ∷ 0x00 ∷ 0x69 ∷ 0x45 ∷ 0x23 ∷ 0x01 ∷ 0xF4 ∷ 0x01 ∷ 0x03 ∷ 0x00 ∷ 0x00 ∷ 0x00 ∷ 0x6A ∷ 0x96 ∷ 0xC1 ∷ 0xAF ∷ []

abbrev pub example_request_changed2 : List ℕ
example_request_changed2 = 0x69 ∷ 0x00 ∷ 0x69 ∷ 0x45 ∷ 0x25 ∷ 0x28 ∷ 0xAB ∷ 0x73 ∷ 0x03 ∷ 0x00 ∷ 0x00 ∷ 0x00 ∷ 0x6A ∷ 0x96 ∷ 0xC1 ∷ 0xAF ∷ []

abbrev pub example_closed : Record
example_closed = fresh_of 8 3 3 2

pub example_request_comes : ComesDamaged example_route example_head (example_closed ∷ []) 0 example_request2 example_request_changed2
unfolding good_idle good_dual_bus expected_now check_of word_agrees in_range level_of check_word implicit width word_length generator generator32 shift feed kind_of is_data fresh_of end_of pick
example_request_comes =
    record {
      place = refl;
      passes = refl;
      changed = changed_at 4 example_request2 example_request_changed2 tt tt refl (λ e. omega arith);
      command = refl;
      within = within_by 4 4 _ _ refl refl refl;
    }

pub example_request_fails :
    (check_of (end_of example_closed 1) 0 example_request_changed2 ≡ Failed clause.Fields)
    × (word_agrees (end_of example_closed 1) 0x28254569 example_request_changed2 ≡ true)
unfolding good_idle good_dual_bus check_of word_agrees in_range level_of check_word implicit width word_length generator generator32 shift feed kind_of is_data fresh_of end_of pick
example_request_fails = (refl, refl)

-- The call with it is done, and nothing happens.
abbrev pub example_dropped : Left
example_dropped = called (example_receipt 8 example_request_changed2) example_head (example_closed ∷ []) 1300 (replicate 244 0)

pub example_dropped_holds : Done example_dropped × (example_dropped.outcome.event ≡ Nothing) × (example_dropped.table ≡ example_closed ∷ [])
unfolding called asked settled accepted bounds_accepted record_accepted record_in_range end_of in_range is_phase is_closed good_idle good_dual_bus at_rest first_refusal refusal received_refusal received_of received_out declared_by connect_allowed judged run_out expected_now check_of word_agrees level_of quietly check_word implicit width word_length generator generator32 shift feed kind_of is_data fresh_of pick
example_dropped_holds = (refl, refl, refl)

-- Both ends: node 9 sends data to node 8 under the number 89ABCDF1h, its net bytes come changed, and the disconnect of node 8 arrives at node 9.
abbrev pub example_back : List ℕ
example_back = 0xF1 ∷ 0x89 ∷ 0x01 ∷ 0x02 ∷ 0x91 ∷ 0xE7 ∷ 0x23 ∷ 0xD7 ∷ 0x30 ∷ 0xD2 ∷ []

abbrev pub example_back_changed : List ℕ
example_back_changed = 0xF1 ∷ 0x89 ∷ 0xFE ∷ 0xFD ∷ 0x91 ∷ 0xE7 ∷ 0x23 ∷ 0xD7 ∷ 0x30 ∷ 0xD2 ∷ []

pub example_both_ends :
    Towards (example_nodes 4) 0 0
    × ComesDamaged (record { sender = 9; destination_sap = 3; source_sap = 3 }) (example_nodes 4).head (example_nodes 4).table 0 example_back example_back_changed
    × Arrives called (example_nodes 4) 0 0 (example_receipt 9 example_back_changed) (example_moment 1300)
unfolding called asked settled accepted bounds_accepted record_accepted record_in_range end_of in_range is_phase is_closed good_idle at_rest first_refusal writing_step refusal received_refusal received_of received_out declared_by connect_allowed judged passed run_out watch_over expected_now check_of word_agrees level_of disconnect_allowed good_type listed_reason writes_disconnect telegrams.disconnect closed_by become quietly sealed body check_word implicit top_bits width word_length generator generator48 shift feed kind_of is_data pick
example_both_ends = (
  (example_connected 1000 4).towards,
  record {
    place = refl;
    passes = refl;
    changed = changed_at 2 example_back example_back_changed tt tt refl (λ e. omega arith);
    command = refl;
    within = within_by 6 2 _ _ refl refl refl;
  },
  record { done = refl; taken = refl; in_time = λ some. lit≤ tt },
)
