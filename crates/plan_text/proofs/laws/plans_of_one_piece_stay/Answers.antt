use Rattle.plan_text.proofs.Cutting.{one_piece}
use Rattle.plan_text.proofs.laws.plans_of_one_piece_stay.Goals as goal

pub returns : goal.returns
returns c = one_piece
