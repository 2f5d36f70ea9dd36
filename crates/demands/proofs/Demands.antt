-- The three demands, put together.
-- Assumes nothing.
use Rattle.node.specs.Calls.{called}
use Rattle.demands.specs.Demands.{Demand2, Demands}
use Rattle.demands.proofs.Demand1.{demand_1, demand_1_below}
use Rattle.demands.proofs.Demand2.{demand_2_one_step}
use Rattle.demands.proofs.OneEnd.{demand_2_one_end}
use Rattle.demands.proofs.EveryStep.{demand_2_over_every_step}
use Rattle.demands.proofs.SetUp.{demand_2_set_up, set_up_is_done, demand_2_from_the_request}
use Rattle.demands.proofs.IdleTimes.{demand_2_idle_times}
use Rattle.demands.proofs.Demand3.{demand_3, cards_exchanged_at_a_node}
use Rattle.demands.proofs.Law.{the_law}

pub demand_2 : Demand2 called
demand_2 =
    record {
      one_step = demand_2_one_step;
      one_end = demand_2_one_end;
      over_every_step = demand_2_over_every_step;
      set_up = demand_2_set_up;
      set_up_is_done = set_up_is_done;
      from_the_request = demand_2_from_the_request;
      idle_times = demand_2_idle_times;
    }

pub demands : Demands
demands =
    record {
      first = demand_1;
      first_below = demand_1_below;
      second = demand_2;
      third = demand_3;
      third_at_a_node = cards_exchanged_at_a_node;
      law = the_law;
    }
