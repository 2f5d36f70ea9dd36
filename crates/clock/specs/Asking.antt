-- The factor and the Reference Time for whoever asks.
-- Assumes nothing.
use Rattle.std.specs.Prelude.{ℕ, ◌+◌, ◌%◌, ◌^◌, Bool, false, ◌==◌, nat_le, Option, Some, None, option_map}
use Rattle.ground.specs.Choice.{pick}
use Rattle.clock.specs.Circle.{apart_by}
use Rattle.clock.specs.Factor.{mean_of}
use Rattle.clock.specs.Clocks.{synchronised}
use Rattle.clock.specs.Limits.{pairs_of_factor, local_clock_max_re_sync_interval}
use Rattle.clock.specs.declared.LocalTime.{LocalTime}
use Rattle.clock.specs.declared.RefTime.{RefTime}
use Rattle.clock.specs.declared.Clock.{Clock}

-- Sixteen pairs count at a moment: the clock is synchronised (7.4.1.1), has sixteen (7.4.1.5.1), and the last resynchronisation is at most 3 s away (7.4.1.6). A
-- moment shortly before it, read off before the message was taken, is as good as one behind it.
unfoldable pub counts_at : Clock → LocalTime → Bool
counts_at c t = pick (c.state == synchronised) (pick (nat_le pairs_of_factor c.count) (nat_le (apart_by t.0 c.resynchronised.0) local_clock_max_re_sync_interval) false) false

-- The factor at a moment, where there is one.
unfoldable pub factor_at : Clock → LocalTime → Option ℕ
factor_at c t = pick (counts_at c t) (Some (mean_of c.pairs)) None

-- Local_Reference_Time is the local time and the factor (7.4.5.1), modulo 2^32.
unfoldable pub adjusted_by : LocalTime → ℕ → RefTime
adjusted_by t factor = record { 0 = (t.0 + factor) % 2 ^ 32 }

-- The Reference Time at a moment, by the factor, where there is one.
unfoldable pub time_at : Clock → LocalTime → Option RefTime
time_at c t = option_map (adjusted_by t) (factor_at c t)
