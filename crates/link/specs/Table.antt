-- The transition table of 5.5.1.5 as printed, row by row, and beside it the cells that the scope reads otherwise.
-- Assumes nothing.
use Rattle.std.specs.Prelude.{ℕ, ◌-◌, Bool, false, List, [], ◌∷◌, ◌==◌, nat_le, slice_index_or}
use Rattle.ground.specs.Choice.{pick, all}

-- The actions of 5.5.1.4.
pub data Action : Type 0 where
  f00 f01 f02 f03 f04 f05 f06 f07 f08 f09 f10 f11 f12 f13 : Action

-- The next state: the same, or another phase.
pub data Next : Type 0 where
  stays : Next
  idle wConAck wAuthReq wAuthAck opens defect : Next

pub record Cell : Type 0 where
  pub action : Action
  pub next : Next

infixl 90 ◌⇒◌
abbrev pub ◌⇒◌ : Action → Next → Cell
a ⇒ n = record { action = a; next = n }

-- The events of 5.5.1.3, in the order of the table's rows.
pub data Row : Type 0 where
  Connect-snd Data-snd Timeout-snd Timeout-rcv Timeout-brk Data-rcv Idle-rcv Incorrect-rcv-1st Incorrect-rcv-2nd : Row
  ConReq-rcv ConAck-rcv AuthReq-rcv AuthAck-rcv Discon-snd FDiscon-snd Discon-rcv : Row

-- Columns: Idle, wConAck, wAuthReq, wAuthAck, Data, Defect.
abbrev pub cells : Row → List Cell
cells Connect-snd = f01 ⇒ wConAck ∷ f00 ⇒ stays ∷ f00 ⇒ stays ∷ f00 ⇒ stays ∷ f00 ⇒ stays ∷ f00 ⇒ stays ∷ []
cells Data-snd = f00 ⇒ stays ∷ f00 ⇒ stays ∷ f00 ⇒ stays ∷ f00 ⇒ stays ∷ f05 ⇒ stays ∷ f00 ⇒ stays ∷ []
cells Timeout-snd = f00 ⇒ stays ∷ f00 ⇒ stays ∷ f00 ⇒ stays ∷ f06 ⇒ stays ∷ f06 ⇒ stays ∷ f00 ⇒ stays ∷ []
cells Timeout-rcv = f00 ⇒ stays ∷ f07 ⇒ idle ∷ f07 ⇒ idle ∷ f07 ⇒ idle ∷ f07 ⇒ idle ∷ f00 ⇒ stays ∷ []
cells Timeout-brk = f00 ⇒ stays ∷ f07 ⇒ idle ∷ f08 ⇒ defect ∷ f08 ⇒ defect ∷ f07 ⇒ idle ∷ f00 ⇒ stays ∷ []
cells Data-rcv = f00 ⇒ stays ∷ f00 ⇒ stays ∷ f08 ⇒ defect ∷ f08 ⇒ defect ∷ f09 ⇒ stays ∷ f00 ⇒ stays ∷ []
cells Idle-rcv = f00 ⇒ stays ∷ f00 ⇒ stays ∷ f08 ⇒ defect ∷ f08 ⇒ defect ∷ f10 ⇒ stays ∷ f00 ⇒ stays ∷ []
cells Incorrect-rcv-1st = f13 ⇒ stays ∷ f11 ⇒ idle ∷ f11 ⇒ idle ∷ f11 ⇒ idle ∷ f11 ⇒ idle ∷ f00 ⇒ stays ∷ []
cells Incorrect-rcv-2nd = f00 ⇒ defect ∷ f08 ⇒ defect ∷ f08 ⇒ defect ∷ f08 ⇒ defect ∷ f08 ⇒ defect ∷ f00 ⇒ stays ∷ []
cells ConReq-rcv = f02 ⇒ wAuthReq ∷ f00 ⇒ stays ∷ f08 ⇒ defect ∷ f08 ⇒ defect ∷ f07 ⇒ idle ∷ f00 ⇒ stays ∷ []
cells ConAck-rcv = f00 ⇒ stays ∷ f03 ⇒ wAuthAck ∷ f08 ⇒ defect ∷ f08 ⇒ defect ∷ f07 ⇒ idle ∷ f00 ⇒ stays ∷ []
cells AuthReq-rcv = f00 ⇒ stays ∷ f00 ⇒ stays ∷ f04 ⇒ opens ∷ f08 ⇒ defect ∷ f07 ⇒ idle ∷ f00 ⇒ stays ∷ []
cells AuthAck-rcv = f00 ⇒ stays ∷ f00 ⇒ stays ∷ f08 ⇒ defect ∷ f12 ⇒ opens ∷ f07 ⇒ idle ∷ f00 ⇒ stays ∷ []
cells Discon-snd = f00 ⇒ stays ∷ f07 ⇒ idle ∷ f07 ⇒ idle ∷ f07 ⇒ idle ∷ f07 ⇒ idle ∷ f00 ⇒ stays ∷ []
cells FDiscon-snd = f00 ⇒ stays ∷ f08 ⇒ defect ∷ f08 ⇒ defect ∷ f08 ⇒ defect ∷ f08 ⇒ defect ∷ f00 ⇒ stays ∷ []
cells Discon-rcv = f00 ⇒ stays ∷ f00 ⇒ idle ∷ f00 ⇒ idle ∷ f00 ⇒ idle ∷ f00 ⇒ idle ∷ f00 ⇒ stays ∷ []

-- The cell of a row in a phase; phases are numbered in the columns' order from 1.
abbrev pub cell : Row → ℕ → Cell
cell row phase = slice_index_or (cells row) (phase - 1) (f00 ⇒ stays)

-- The second list: the cells that are read otherwise than printed, each with its reason. Two more kinds of cells need what the table does not know, and are
-- narrowed where that is known (`narrowed` in Judged, `Disconnected` in Steps): version and authentication number (8.1.2, 5.1.4), and the type of a received
-- disconnect (5.2.5.3).
abbrev pub reading : Row → ℕ → Cell
-- F_06 in wAuthAck: no idle telegram while the acknowledgement is awaited. The scope has idle due on an open connection only, against f_03 and 5.2.6.2.2: the
-- record keeps our random number as the number two before the next one sent.
reading Timeout-snd p = pick (p == 4) (f00 ⇒ stays) (cell Timeout-snd p)
-- f_07 in wConAck, wAuthReq, wAuthAck: the watch runs on an open connection only (5.2.6.2.1).
reading Timeout-rcv p = pick (p == 5) (cell Timeout-rcv p) (f00 ⇒ stays)
-- f_07 in Data: the acknowledgement timeout is stopped by then (f_04, f_12).
reading Timeout-brk p = pick (p == 5) (f00 ⇒ stays) (cell Timeout-brk p)
-- the whole row: a second incorrect telegram needs a saved time (f_11, f_13), which the record of the scope does not have; it is taken as a first one.
reading Incorrect-rcv-2nd p = cell Incorrect-rcv-1st p
-- every other row as printed
reading Connect-snd p = cell Connect-snd p
reading Data-snd p = cell Data-snd p
reading Data-rcv p = cell Data-rcv p
reading Idle-rcv p = cell Idle-rcv p
reading Incorrect-rcv-1st p = cell Incorrect-rcv-1st p
reading ConReq-rcv p = cell ConReq-rcv p
reading ConAck-rcv p = cell ConAck-rcv p
reading AuthReq-rcv p = cell AuthReq-rcv p
reading AuthAck-rcv p = cell AuthAck-rcv p
reading Discon-snd p = cell Discon-snd p
reading FDiscon-snd p = cell FDiscon-snd p
reading Discon-rcv p = cell Discon-rcv p

-- Which cells these are.
abbrev pub otherwise : Row → ℕ → Bool
otherwise Timeout-snd p = p == 4
otherwise Timeout-rcv p = all (nat_le 2 p ∷ nat_le p 4 ∷ [])
otherwise Timeout-brk p = p == 5
otherwise Incorrect-rcv-2nd p = nat_le p 5
otherwise Connect-snd p = false
otherwise Data-snd p = false
otherwise Data-rcv p = false
otherwise Idle-rcv p = false
otherwise Incorrect-rcv-1st p = false
otherwise ConReq-rcv p = false
otherwise ConAck-rcv p = false
otherwise AuthReq-rcv p = false
otherwise AuthAck-rcv p = false
otherwise Discon-snd p = false
otherwise FDiscon-snd p = false
otherwise Discon-rcv p = false
