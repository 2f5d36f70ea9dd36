-- A list with some of its elements replaced: what a write into a lent buffer leaves. What would fall past the end is not written, and the length stays.
-- Assumes nothing.
use Rattle.std.specs.Prelude.{List, ℕ}
use Rattle.std.proofs.lemmas.List.Edits.{sets}

-- l with the elements from index i on replaced by vs, one by one
unfoldable pub over : List ℕ → ℕ → List ℕ → List ℕ
over l i vs = sets l i vs
