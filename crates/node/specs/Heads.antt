-- The head of a node: its own bus address and the latest time seen.
-- Assumes nothing.
use Rattle.std.specs.Prelude.{ℕ}
use Rattle.node.specs.declared.Head.{Head}

-- The head of a node that has seen no time yet.
unfoldable pub new_head : ℕ → Head
new_head own = record { own = own; latest = 0 }

-- The head after a call that was done.
unfoldable pub at : Head → ℕ → Head
at h time = record { own = h.own; latest = time }
