use Rattle.chain_walk.proofs.WellFormedFields.{frame_formed, form_by_fit, step_formed}
use Rattle.chain_walk.proofs.laws.values_stay_well_formed.Goals as goal

pub returns-clause-frame : goal.returns-clause-frame
returns-clause-frame g c = λ frame. frame_formed frame

pub returns-clause-fit : goal.returns-clause-fit
returns-clause-fit g c = λ values frame fits. form_by_fit values frame fits

pub returns-clause-step : goal.returns-clause-step
returns-clause-step g c = λ b fixed f values keeps formed. step_formed b fixed f values keeps formed
