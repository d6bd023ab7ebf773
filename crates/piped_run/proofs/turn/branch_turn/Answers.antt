use Rattle.std.proofs.Common.{refl}
use Rattle.chain_walk.specs.Counting.{quiet}
use Rattle.graph_run.specs.Running.{profiles_of}
use Rattle.piped_run.proofs.Noting.{notes_nothing}
use Rattle.piped_run.proofs.Staying.{all_stay}
use Rattle.piped_run.proofs.Turns.{passes_on}
use Rattle.piped_run.proofs.turn.branch_turn.Goals as goal

pub returns-in_default : goal.returns-in_default
returns-in_default g c =
    let on = passes_on (quiet g.F.Function.behaviour) c.args.positions.now c.args.functions.now c.args.message c.in_default.not-Live in
    let none = notes_nothing (quiet g.F.Function.behaviour) g.F.Function.notes c.args.item c.args.positions.now c.args.functions.now c.args.message c.args.notes.now.items c.in_default.not-Live in
    record {
      ran = on.ran;
      functions = on.functions;
      noted = none.all;
      each = all_stay (quiet g.F.Function.behaviour) c.args.functions.now;
      profiles = refl {a = profiles_of g.F.Function.behaviour c.args.functions.now};
      listed = none.some;
      gone = λ p is. is;
      stays = λ gone. (refl {a = c.args.functions.now}, refl {a = c.args.notes.now.items});
    }
