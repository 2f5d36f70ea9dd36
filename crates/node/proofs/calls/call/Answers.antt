-- As `called` says: refused before the record is looked at, or the record's step, put in its place.
use Rattle.node.proofs.Called.{call_refused, call_done}
use Rattle.node.proofs.calls.call.Goals as goal

pub returns-in-Err : goal.returns-in-Err
returns-in-Err g c = λ call same carried takes. call_refused call _ _ _ _ _ _ c.in-Err.refusal _ same carried c.in-Err.ensures.refused c.refused.ensures

pub returns : goal.returns
returns g c = λ call same carried takes.
    let is = c.in-Ok.ensures.placed in
    call_done call _ _ _ _ c.in-Ok.place _ _ _ _ (rw is.0 at same) carried is.1 is.2 (takes _ _ _ _ c.step-step.ensures) c.settle.ensures
