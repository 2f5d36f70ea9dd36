-- The worked numbers come out as said: all of it computes.
-- Assumes nothing.
use Rattle.std.proofs.Common.{refl}
use Rattle.ground.specs.Choice.{pick}
use Rattle.clock.specs.Circle.{minus, signed_of, distance_of, later_than, apart_by}
use Rattle.clock.specs.Factor.{fronted, difference_of, spread_of, floor16, around, mean_of}
use Rattle.clock.specs.Tests.{is_above, is_following, elapsed, by_tests, period_over}
use Rattle.clock.specs.Clocks.{new_clock, kept_by, begun_anew, forgotten, isolated_by, counted_of, paired_by, synchronised_at, resynchronised_at, next_period, counting_period, period_after, in_period}
use Rattle.clock.specs.Updates.{pair_by, anew_by, lost_by, first_failing, joined_by, synchronise, pair_taken, gone_on, resynchronise, heard_by}
use Rattle.clock.specs.Asking.{counts_at, factor_at, adjusted_by, time_at}
use Rattle.clock.specs.Worked.{Worked}

pub worked : Worked
unfolding pick minus signed_of distance_of later_than apart_by fronted difference_of spread_of floor16 around mean_of is_above is_following elapsed by_tests period_over new_clock kept_by begun_anew forgotten isolated_by counted_of paired_by synchronised_at resynchronised_at next_period counting_period period_after in_period pair_by anew_by lost_by first_failing joined_by synchronise pair_taken gone_on resynchronise heard_by counts_at factor_at adjusted_by time_at
worked =
    record {
      short_term_99_passes = refl;
      short_term_100_fails = refl;
      short_term_100_less_fails = refl;
      long_term_30_passes = refl;
      long_term_31_fails = refl;
      long_term_31_less_fails = refl;
      seventeen_messages_fail = refl;
      a_period_that_goes_on_is_not_judged = refl;
      three_seconds_pass = refl;
      one_more_fails = refl;
      the_same_time_fails = refl;
      no_pair_behind_a_gap = refl;
      a_number_again_is_dropped = refl;
      a_number_again_is_told_as_4 = refl;
      rounded_down = refl;
      rounded_down_from_below = refl;
      sixteen_messages = refl;
      seventeen_messages = refl;
      the_time_then = refl;
    }
