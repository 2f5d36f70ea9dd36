-- The bytes of a Sync and Reference Time message (6.3.1.9): 3, 0, 0, then its number and the Reference Time of the one before it, of four bytes each, lowest
-- first (6.1.1.1).
-- Assumes nothing.
use Rattle.std.specs.Prelude.{ℕ, Bool, false, List, length, ◌==◌, slice_index, Result, Ok, Err}
use Rattle.ground.specs.Choice.{pick}
use Rattle.ground.specs.Numbers.{number_at}
use Rattle.clock.specs.declared.Message.{Message}
use Rattle.clock.specs.declared.Unreadable.{Unreadable}
use Rattle.clock.specs.declared.Unreadable.TheVariants.{NotEleven, OtherPrefix}

-- The configuration data prefix.
unfoldable pub prefixed : List ℕ → Bool
prefixed bs = pick (slice_index bs 0 == 3) (pick (slice_index bs 1 == 0) (slice_index bs 2 == 0) false) false

-- What a run of bytes is: the length is looked at first, then the prefix.
unfoldable pub read_by : List ℕ → Result Message Unreadable
read_by bs =
    pick (length bs == 11)
    (pick (prefixed bs) (Ok (record { number = number_at 4 3 bs; reference = record { 0 = number_at 4 7 bs } })) (Err OtherPrefix)) (Err NotEleven)
