-- Worked examples of demand 2's set-up, at level 4 and at level 2, and at level 4 with other calls between: they meet what the demand asks for, and all that is
-- given fits.
-- Assumes nothing.
use Rattle.std.specs.Prelude.{◌≡◌, refl, List, [], ◌∷◌, ℕ, replicate, None}
use Rattle.std.proofs.Common.{arith, lit<, lit≤}
use Rattle.checkword.specs.Generators.{generator48, generator32}
use Rattle.checkword.specs.Word.{shift, feed}
use Rattle.ground.specs.Choice.{pick}
use Rattle.telegram.specs.Levels.{level_of, top_bits, width, word_length, generator, added}
use Rattle.telegram.specs.Commands.{kind_of}
use Rattle.telegram.specs.Values.{good_idle, good_dual_bus}
use Rattle.telegram.specs.Ends.{in_range, implicit}
use Rattle.telegram.specs.Telegrams.{request, sealed, body, check_word, confirm, authentication, acknowledgement}
use Rattle.telegram.specs.Writers.{refusal, connect_allowed, writes_request, writes_confirm, writes_authentication, writes_acknowledgement}
use Rattle.telegram.specs.Check.{check_of, word_agrees}
use Rattle.link.specs.Records.{record_in_range, end_of, is_phase, is_closed, become, at_rest, fresh_of}
use Rattle.link.specs.Times.{wait_over}
use Rattle.link.specs.Judged.{judged, ticked, passed, expected_now, run_out, good_version, good_number}
use Rattle.link.specs.Steps.{first_refusal, writing_step, open_refusal, open_of, open_out, received_refusal, received_of, received_out, tick_refusal, tick_of, declared_by, quietly}
use Rattle.node.specs.Heads.{at}
use Rattle.node.specs.Accepted.{record_at, accepted, bounds_accepted, record_accepted}
use Rattle.node.specs.Calls.{Call, refused_outcome, called, asked, settled}
use Rattle.node.specs.Calls.Call.{Open, Send, Tick}
use Rattle.demands.specs.Pairs.{Made}
use Rattle.demands.specs.Pairs.NothingTo.{elsewhere, refused, early}
use Rattle.demands.specs.Pairs.Listens.{set_up}
use Rattle.demands.specs.SetUp.{Given, Parties, table_then, asks, Undisturbed, AllDone, AllFit}

-- Worked example: what a call is given at this time, with this random number and these net data, and no idle time named.
abbrev pub example_given : ℕ → ℕ → List ℕ → Given
example_given time random net = record { time = time; out = replicate 244 0; random = random; idle_time = None; net = net }

-- A call of a node with a buffer that has room.
abbrev pub example_made : Call → ℕ → Made
example_made call time = record { call = call; time = time; buffer = replicate 244 0 }

-- Node 8 opens a connection to node 9, from SAP 3 to SAP 3 at this level, with these random numbers. The request carries the net byte 1, the confirm the net
-- bytes 2 and 3. Node 8 has a connection to node 10 too, and the two make these calls while they wait.
abbrev pub example_parties : ℕ → ℕ → ℕ → List Made → List Made → List Made → Parties
example_parties level random random' asking confirming authenticating =
    record {
      head = record { own = 8; latest = 0 };
      table = fresh_of 9 3 3 level ∷ fresh_of 10 3 3 level ∷ [];
      i = 0;
      head' = record { own = 9; latest = 0 };
      table' = fresh_of 8 3 3 level ∷ [];
      j = 0;
      first = example_given 1000 random (1 ∷ []);
      second = example_given 1010 random' (2 ∷ 3 ∷ []);
      third = example_given 1020 0 [];
      fourth = example_given 1030 0 [];
      fifth = example_given 1040 0 [];
      while_asking = asking;
      while_confirming = confirming;
      while_authenticating = authenticating;
    }

-- Every call is done and in time: with the random numbers 01234567h and 89ABCDEFh (5.3.1.7) at level 4, and at level 2 with the largest one, after which the
-- numbers begin again at 0.
pub example_sets_up : (Undisturbed called (example_parties 4 0x01234567 0x89ABCDEF [] [] []) × AllDone called (example_parties 4 0x01234567 0x89ABCDEF [] [] []))
    × (Undisturbed called (example_parties 2 0xFFFFFFFF 0xFFFFFFFF [] [] []) × AllDone called (example_parties 2 0xFFFFFFFF 0xFFFFFFFF [] [] []))
unfolding called asked settled accepted bounds_accepted record_accepted record_in_range end_of in_range is_phase is_closed good_idle first_refusal writing_step refusal open_refusal open_of open_out connect_allowed writes_request request become received_refusal received_of received_out declared_by judged passed expected_now run_out check_of word_agrees level_of quietly sealed body check_word implicit top_bits width word_length generator generator48 generator32 shift feed kind_of writes_confirm confirm writes_authentication authentication writes_acknowledgement acknowledgement added good_version good_number good_dual_bus wait_over at at_rest fresh_of pick
example_sets_up = (
  (
    record {
      mirror = refl;
      place = lit< tt;
      closed_there = refl;
      random_here = lit< tt;
      random_there = lit< tt;
      net_here = (lit< tt, tt);
      net_there = (lit< tt, (lit< tt, tt));
      confirmed_in_time = lit≤ tt;
      authenticated_in_time = lit≤ tt;
      acknowledged_in_time = lit≤ tt;
      while_asking = tt;
      while_confirming = tt;
      while_authenticating = tt;
    },
    record { asked = refl; confirmed = refl; authenticated = refl; acknowledged = refl; opened = refl },
  ),
  (
    record {
      mirror = refl;
      place = lit< tt;
      closed_there = refl;
      random_here = lit< tt;
      random_there = lit< tt;
      net_here = (lit< tt, tt);
      net_there = (lit< tt, (lit< tt, tt));
      confirmed_in_time = lit≤ tt;
      authenticated_in_time = lit≤ tt;
      acknowledged_in_time = lit≤ tt;
      while_asking = tt;
      while_confirming = tt;
      while_authenticating = tt;
    },
    record { asked = refl; confirmed = refl; authenticated = refl; acknowledged = refl; opened = refl },
  ),
)

-- At level 4 again: while node 8 awaits the confirm it is refused a sending for a place that its table has not, at 1003, asks node 10 too, at 1005, and ticks at
-- 1015, where the wait has not run out; node 9 ticks at 1025, and node 8 again at 1035.
abbrev pub example_busy : Parties
example_busy =
    example_parties 4 0x01234567 0x89ABCDEF
    (example_made (Send 2 0x09 []) 1003 ∷ example_made (Open 1 5 None []) 1005 ∷ example_made (Tick 0) 1015 ∷ []) (example_made (Tick 0) 1025 ∷ [])
    (example_made (Tick 0) 1035 ∷ [])

-- Then too nothing disturbs it, and all that is given fits; and the call for node 10 was done: a confirm is awaited of it.
pub example_fits : (Undisturbed called example_busy × AllFit example_busy)
    × ((record_at (table_then called (asks called example_busy) example_busy.while_asking) 1).phase ≡ 2)
unfolding refused_outcome called asked settled accepted bounds_accepted record_accepted record_in_range end_of in_range is_phase is_closed good_idle first_refusal writing_step refusal open_refusal open_of open_out connect_allowed writes_request request become received_refusal received_of received_out declared_by judged passed expected_now run_out check_of word_agrees level_of quietly sealed body check_word implicit top_bits width word_length generator generator48 generator32 shift feed kind_of writes_confirm confirm writes_authentication authentication writes_acknowledgement acknowledgement added good_version good_number good_dual_bus wait_over at at_rest fresh_of ticked tick_refusal tick_of pick
example_fits = (
  (
    record {
      mirror = refl;
      place = lit< tt;
      closed_there = refl;
      random_here = lit< tt;
      random_there = lit< tt;
      net_here = (lit< tt, tt);
      net_there = (lit< tt, (lit< tt, tt));
      confirmed_in_time = lit≤ tt;
      authenticated_in_time = lit≤ tt;
      acknowledged_in_time = lit≤ tt;
      while_asking = (
        refused (λ done. let n : ◌≡◌ {A = ℕ} 2 0 = done in omega arith),
        (elsewhere (λ e. omega arith), (early refl (set_up (lit≤ tt) (lit≤ tt) (lit≤ tt)) (λ five due. omega arith), tt)),
      );
      while_confirming = (early refl (set_up (lit≤ tt) (lit≤ tt) (lit≤ tt)) (λ five due. omega arith), tt);
      while_authenticating = (early refl (set_up (lit≤ tt) (lit≤ tt) (lit≤ tt)) (λ five due. omega arith), tt);
    },
    record {
      table_here = refl;
      table_there = refl;
      place_here = lit< tt;
      closed_here = refl;
      first = record { room = lit≤ tt; timely = lit≤ tt; allowed = refl };
      second = record { room = lit≤ tt; timely = lit≤ tt; allowed = refl };
      third = record { room = lit≤ tt; timely = lit≤ tt; allowed = refl };
      fourth = record { room = lit≤ tt; timely = lit≤ tt; allowed = refl };
      fifth = record { room = lit≤ tt; timely = lit≤ tt; allowed = refl };
      until_third = (lit≤ tt, (lit≤ tt, (lit≤ tt, tt)));
      until_fourth = (lit≤ tt, tt);
      until_fifth = (lit≤ tt, tt);
    },
  ),
  refl,
)
