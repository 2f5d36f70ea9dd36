-- Wrong transition tables: one that the steps obey has in every cell the next state, the telegram and the handing up of ours, `reading`. Timers are not compared:
-- a cell with f_00 for f_10 or f_12 is not told apart. proofs/OtherTables.antt proves the statement under the same name in snake case.
-- Assumes nothing.
use Rattle.std.specs.Prelude.{◌≡◌, ℕ, ◌≤◌}
use Rattle.link.specs.Table.{Cell, Row, reading}
use Rattle.link.specs.Bound.{leads, doing, TableBinds}

-- Two cells of the phase p are alike: the same phase follows, the same is sent, and data are passed on by both or neither.
pub record Alike (p : ℕ) (c e : Cell) : Type 0 where
  pub next : leads c.next p ≡ leads e.next p
  pub sends : (doing c.action).sends ≡ (doing e.action).sends
  pub passes : (doing c.action).passes ≡ (doing e.action).passes

-- One that binds the steps is alike in every row and phase. So one next state that is changed, anywhere, is seen.
abbrev pub NoOtherTable : Type 0
NoOtherTable = (table : Row → ℕ → Cell) → TableBinds table → (row : Row) (p : ℕ) → 1 ≤ p → p ≤ 6 → Alike p (table row p) (reading row p)
