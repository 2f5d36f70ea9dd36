-- Commands by their low six bits (5.1.1.5, byte 2).
-- Assumes nothing.
use Rattle.std.specs.Prelude.{Bool, true, false, ℕ, ◌%◌, leb, eqb}
use Rattle.ground.specs.Choice.{pick}
use Rattle.telegram.specs.declared.Kind.{Kind}
use Rattle.telegram.specs.declared.Kind.TheVariants.{Request, Confirm, Authentication, Acknowledgement, Disconnect, Idle, Data, Unknown}

-- 09h, and 20h..3Fh for the layer above (5.2.7.2). 0Dh is multicast, which is not a telegram of a connection.
unfoldable pub is_data : ℕ → Bool
is_data low = pick (eqb low 0x09) true (pick (leb 0x20 low) (leb low 0x3F) false)

unfoldable pub kind_of : ℕ → Kind
kind_of low =
    pick (eqb low 0x00) Request
    (pick (eqb low 0x02) Confirm
    (pick (eqb low 0x03) Authentication
    (pick (eqb low 0x04) Acknowledgement
    (pick (eqb low 0x05) Disconnect
    (pick (eqb low 0x06) Idle
    (pick (is_data low) Data Unknown))))))

-- The kind of telegram that a whole command names.
abbrev pub kind_of_command : ℕ → Kind
kind_of_command command = kind_of (command % 64)

-- Whether a telegram can be of this kind.
abbrev pub known : Kind → Bool
known Unknown = false
known Request = true
known Confirm = true
known Authentication = true
known Acknowledgement = true
known Disconnect = true
known Idle = true
known Data = true
