-- The part lies within the telegram, or nothing is handed on.
use Rattle.std.proofs.Common.{rules}
use Rattle.node.proofs.Cases.{got_within}
use Rattle.node.proofs.outcomes.net_data.Goals as goal

pub returns : goal.returns
returns c = search (rules, got_within)
