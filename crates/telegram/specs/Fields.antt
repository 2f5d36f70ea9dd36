-- The fields of a telegram by their names (5.2), as the layout places them.
-- Assumes nothing.
use Rattle.std.specs.Prelude.{List, ℕ, ◌%◌, get_or}
use Rattle.telegram.specs.Layout.{values}
use Rattle.telegram.specs.Check.{command_of}
use Rattle.telegram.specs.declared.Kind.TheVariants.{Request, Authentication, Disconnect}

-- Of a connect request or confirm, whose layouts are one.
abbrev pub random_of : List ℕ → ℕ
random_of t = get_or (values Request t) 0 0

abbrev pub idle_time_of : List ℕ → ℕ
idle_time_of t = get_or (values Request t) 1 0

abbrev pub version_x_of : List ℕ → ℕ
version_x_of t = get_or (values Request t) 2 0

abbrev pub version_y_of : List ℕ → ℕ
version_y_of t = get_or (values Request t) 3 0

-- Of an authentication or its acknowledgement.
abbrev pub authentication_of : List ℕ → ℕ
authentication_of t = get_or (values Authentication t) 0 0

-- Of a disconnect.
abbrev pub type_of : List ℕ → ℕ
type_of t = get_or (values Disconnect t) 0 0

abbrev pub reason_of : List ℕ → ℕ
reason_of t = get_or (values Disconnect t) 1 0

-- The command's low six bits.
abbrev pub low_of : List ℕ → ℕ
low_of t = command_of t % 64
