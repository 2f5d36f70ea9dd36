-- Demands 1 and 2 leave no freedom: whatever link meets them leaves, at every call, under every head, table, time and buffer, what ours leaves. So every link
-- that differs from ours anywhere fails one of the two. Of demand 2 it needs what one end does by itself and that other records stay; the rest follows from these.
-- A fault in a definition that the demands name themselves, as `accepted`, `check_of` or the seven telegrams, is on both sides, and not seen here.
-- Assumes nothing.
use Rattle.std.specs.Prelude.{◌≡◌, List, ℕ}
use Rattle.checkword.specs.Bytes.{Bytes}
use Rattle.telegram.specs.Check.{check_of, Passes}
use Rattle.telegram.specs.declared.End.{End}
use Rattle.link.specs.declared.Record.{Record}
use Rattle.node.specs.declared.Head.{Head}
use Rattle.node.specs.Calls.{Call, Link, called}
use Rattle.demands.specs.Demand1.{Demand1}
use Rattle.demands.specs.Demands.{Demand2}
use Rattle.demands.specs.Demand3.{Checking, Demand3}

abbrev pub DemandsDetermineTheLink : Type 0
DemandsDetermineTheLink =
    (link : Link) → Demand1 link → Demand2 link → (c : Call) (h : Head) (t : List Record) (time : ℕ) (d : List ℕ) → link c h t time d ≡ called c h t time d

abbrev pub Demand3DeterminesWhatPasses : Type 0
Demand3DeterminesWhatPasses =
    (check : Checking) → Demand3 check → (e : End) (expected : ℕ) (t : List ℕ) → Bytes t
    → (check e expected t ≡ Passes → check_of e expected t ≡ Passes) × (check_of e expected t ≡ Passes → check e expected t ≡ Passes)
