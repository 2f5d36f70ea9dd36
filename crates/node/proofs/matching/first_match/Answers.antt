-- `position` asks each record in turn, as the definition does.
use Rattle.std.proofs.Common.{◌∙◌, ap, rules, tests}
use Rattle.std.proofs.lemmas.Iterator.{YieldsList-from_slice}
use Rattle.std.proofs.lemmas.Iterator.Search.{position_from_yields_List}
use Rattle.node.specs.Matching.{is_for, place_in}
use Rattle.node.proofs.Searches.{first_is}
use Rattle.node.proofs.matching.first_match.Goals as goal

pub returns : goal.returns
returns c =
    let w = c.args.route in let t = c.args.table.now in
    position_from_yields_List (is_for w) _ _ _ c.position.ensures.ran (YieldsList-from_slice t cc) (λ x b q k. search (rules, tests)) ∙ ap (place_in t) (first_is w t)
