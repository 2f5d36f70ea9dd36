-- The three demands, each as one statement, of our link `called` and our check `check_of`. The parts stand in the files that are named here; crates/wrong shows
-- which wrong links and checks they shut out.
-- Assumes nothing.
use Rattle.telegram.specs.Check.{check_of}
use Rattle.node.specs.Calls.{Link, called}
use Rattle.demands.specs.Demand1.{Demand1, Demand1Below}
use Rattle.demands.specs.Demand2.{Demand2OneStep}
use Rattle.demands.specs.OneEnd.{Demand2OneEnd}
use Rattle.demands.specs.EveryStep.{Demand2OverEveryStep}
use Rattle.demands.specs.SetUp.{Demand2SetUp, SetUpIsDone, Demand2FromTheRequest}
use Rattle.demands.specs.IdleTimes.{Demand2IdleTimes}
use Rattle.demands.specs.Demand3.{Demand3, CardsExchangedAtANode}
use Rattle.demands.specs.Law.{TheLaw}

-- What one telegram does between two ends; what one end does by itself; every telegram, one after the other; the set-up, and that nothing refuses it; both, one
-- behind the other; and the idle times declared, in numbers.
pub record Demand2 (link : Link) : Type 0 where
  pub one_step : Demand2OneStep link
  pub one_end : Demand2OneEnd link
  pub over_every_step : Demand2OverEveryStep link
  pub set_up : Demand2SetUp link
  pub set_up_is_done : SetUpIsDone link
  pub from_the_request : Demand2FromTheRequest link
  pub idle_times : Demand2IdleTimes link

-- Demand 1, of the calls and of the entries below them; demand 2; demand 3, of the check and of what a node does with exchanged cards; and the law behind it.
pub record Demands : Type 0 where
  pub first : Demand1 called
  pub first_below : Demand1Below
  pub second : Demand2 called
  pub third : Demand3 check_of
  pub third_at_a_node : CardsExchangedAtANode called
  pub law : TheLaw
