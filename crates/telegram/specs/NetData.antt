-- Where the net data of a telegram lie: after the fixed header and before the check word; of a disconnect its text.
-- Assumes nothing.
use Rattle.std.specs.Prelude.{List, [], ◌∷◌, ℕ, ◌-◌, length, take, drop, Option, Some, None}
use Rattle.ground.specs.Choice.{pick, all}
use Rattle.telegram.specs.Levels.{level_of, word_length}
use Rattle.telegram.specs.Commands.{kind_of_command, known}
use Rattle.telegram.specs.Layout.{header, suits}
use Rattle.telegram.specs.Ends.{is_level}
use Rattle.telegram.specs.Check.{command_of}
use Rattle.telegram.specs.declared.Kind.{Kind}
use Rattle.telegram.specs.declared.Part.{Part}

-- What is no telegram has no net data.
abbrev pub nowhere : Part
nowhere = record { start = 0; count = 0 }

-- Of a telegram of n bytes, by its level and kind.
abbrev pub part_of : Option ℕ → Kind → ℕ → Part
part_of (Some l) k n =
    pick (all (is_level l ∷ known k ∷ suits k l n ∷ [])) (record { start = header k; count = n - header k - word_length l }) nowhere
part_of None k n = nowhere

unfoldable pub net_part : List ℕ → Part
net_part t = part_of (level_of (command_of t)) (kind_of_command (command_of t)) (length t)

-- The net data themselves.
unfoldable pub net_data : List ℕ → List ℕ
net_data t = take (net_part t).count (drop (net_part t).start t)
