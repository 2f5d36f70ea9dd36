-- The law, at both widths.
-- Assumes nothing.
use Rattle.checkword.proofs.Facts.{facts48, facts32}
use Rattle.demands.specs.Law.{TheLaw}

pub the_law : TheLaw
the_law = record { at_level_4 = facts48.depends_only_on_xor; at_level_2 = facts32.depends_only_on_xor }
