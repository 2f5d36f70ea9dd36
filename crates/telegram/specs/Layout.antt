-- The layout of each kind of telegram (5.2), the one that the writers and the check share: byte 1 the lowest byte of the sequence number, byte 2 the
-- command, then fixed fields, then net data, then the check word. Numbers go lowest byte first. Bytes are counted from 1 in the paper, from 0 here.
-- Assumes nothing.
use Rattle.std.specs.Prelude.{Bool, List, [], ◌∷◌, ◌++◌, ℕ, ◌+◌, ◌-◌, leb}
use Rattle.ground.specs.Choice.{all}
use Rattle.ground.specs.Numbers.{lowest_first, number_at}
use Rattle.telegram.specs.Levels.{word_length}
use Rattle.telegram.specs.declared.Kind.{Kind}
use Rattle.telegram.specs.declared.Kind.TheVariants.{Request, Confirm, Authentication, Acknowledgement, Disconnect, Idle, Data, Unknown}

-- The fixed fields behind byte 2, each by its count of bytes.
abbrev pub layout : Kind → List ℕ
-- 5.2.1.3: random number 3..6, idle time 7..8, version X 9, Y 10, Z 11, dual bus 12
layout Request = 4 ∷ 2 ∷ 1 ∷ 1 ∷ 1 ∷ 1 ∷ []
-- 5.2.2.2
layout Confirm = 4 ∷ 2 ∷ 1 ∷ 1 ∷ 1 ∷ 1 ∷ []
-- 5.2.3.4: authentication number 3..6
layout Authentication = 4 ∷ []
-- 5.2.4.4
layout Acknowledgement = 4 ∷ []
-- 5.2.5.9: new set-up desired 3, reason 4
layout Disconnect = 1 ∷ 1 ∷ []
-- 5.2.6.6, 5.2.7.2
layout Idle = []
layout Data = []
layout Unknown = []

abbrev pub sum : List ℕ → ℕ
sum [] = 0
sum (n ∷ ns) = n + sum ns

-- How many bytes stand before the net data.
abbrev pub header : Kind → ℕ
header k = 2 + sum (layout k)

-- The longest telegram, check word included (5.1.1.5).
abbrev pub longest : ℕ
longest = 244

-- The lengths of the telegrams that the bus can carry for us: from the shortest of all, an idle at SL 2.
abbrev pub on_bus : ℕ → Bool
on_bus n = all (leb 6 n ∷ leb n longest ∷ [])

-- How many net bytes a telegram of this kind can carry at a level; a disconnect's text is counted as net data (5.2.5.9, bytes 5 on).
abbrev pub most : Kind → ℕ → ℕ
most Request l = longest - 12 - word_length l
most Confirm l = longest - 12 - word_length l
most Authentication l = 0
most Acknowledgement l = 0
most Disconnect l = 40
most Idle l = 0
most Data l = longest - 2 - word_length l
most Unknown l = 0

-- The lengths that suit a kind at a level.
abbrev pub suits : Kind → ℕ → ℕ → Bool
suits k l n = all (leb (header k + word_length l) n ∷ leb n (header k + most k l + word_length l) ∷ [])

-- Writing: the bytes of the fields that have these values.
abbrev pub field_bytes : List ℕ → List ℕ → List ℕ
field_bytes [] vs = []
field_bytes (w ∷ ws) [] = []
field_bytes (w ∷ ws) (v ∷ vs) = lowest_first w v ++ field_bytes ws vs

-- Reading: the values of the fields from a place on.
abbrev pub fields_at : ℕ → List ℕ → List ℕ → List ℕ
fields_at at [] t = []
fields_at at (w ∷ ws) t = number_at w at t ∷ fields_at (at + w) ws t

-- The values of a telegram's fixed fields.
abbrev pub values : Kind → List ℕ → List ℕ
values k t = fields_at 2 (layout k) t
