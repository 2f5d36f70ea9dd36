-- Net data have room where they are allowed (`data_room`), and their telegram has no fixed fields (`no_fields`).
use Rattle.std.proofs.Common.{sym, ◌∙◌, arith}
use Rattle.telegram.specs.Commands.{kind_of}
use Rattle.telegram.specs.Writers.{writes_data}
use Rattle.telegram.specs.Telegrams.{data_telegram}
use Rattle.telegram.specs.Layout.{layout}
use Rattle.telegram.proofs.Refusals.{data_room, data_command, data_small, no_fields}
use Rattle.writers.proofs.write.write_data.Goals as goal

pub put-requires : goal.put-requires
put-requires c = λ yes. let allowed = sym c.data_allowed-allowed.ensures ∙ yes in (omega (arith, data_room _ _ _ allowed), (data_small _ (data_command _ _ _ allowed)).1)

pub returns : goal.returns
unfolding writes_data data_telegram
returns c = rw (← c.data_allowed-allowed.ensures, ← no_fields (layout (kind_of c.args.low))) (c.told.ensures ∙ c.put.ensures.0, c.put.ensures.1)
