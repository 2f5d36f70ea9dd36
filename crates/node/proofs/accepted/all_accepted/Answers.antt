-- `all` asks each record in turn, as the definition does.
use Rattle.std.proofs.Common.{◌∙◌, rules, tests}
use Rattle.std.proofs.lemmas.Iterator.{YieldsList-from_slice}
use Rattle.std.proofs.lemmas.Iterator.Search.{all_from_yields_List}
use Rattle.node.specs.Accepted.{record_accepted}
use Rattle.node.proofs.Searches.{all_is}
use Rattle.node.proofs.accepted.all_accepted.Goals as goal

pub returns : goal.returns
returns c =
    let h = c.args.head in let t = c.args.table.now in
    all_from_yields_List (record_accepted h) _ _ _ c.all.ensures.ran (YieldsList-from_slice t cc) (λ x b q k. search (rules, tests)) ∙ all_is h t
