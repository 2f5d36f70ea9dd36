-- Waits, the idle watch, and when an idle telegram is due. Times are milliseconds.
-- Assumes nothing.
use Rattle.std.specs.Prelude.{ℕ, ◌-◌, ◌*◌, Bool, false, ◌==◌, nat_le, nat_lt}
use Rattle.ground.specs.Choice.{pick}
use Rattle.link.specs.declared.Record.{Record}

-- How long ago something was; a timer later than the time counts as no gap.
abbrev pub gap : ℕ → ℕ → ℕ
gap then time = time - then

-- The acknowledgement timeout (7.2): 5,000 is in time, 5,001 is not.
unfoldable pub wait_over : Record → ℕ → Bool
wait_over r time = nat_lt 5000 (gap r.sent_at time)

-- The idle watch (5.2.6.3, 5.2.6.4) uses the time received from the partner; equal to it is allowed; 0 is no watch.
unfoldable pub watch_over : Record → ℕ → Bool
watch_over r time = pick (r.watched == 0) false (nat_lt r.watched (gap r.taken_at time))

-- An idle telegram is due when at least half of the time that we declared has passed since we last sent; declared 0 sends none.
unfoldable pub idle_due : Record → ℕ → Bool
idle_due r time = pick (r.declared == 0) false (nat_le r.declared (2 * gap r.sent_at time))
