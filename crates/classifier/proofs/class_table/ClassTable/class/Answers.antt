use Rattle.std.proofs.Common.{Some, None}
use Rattle.classifier.proofs.Firsts.{class_by_seen}
use Rattle.classifier.proofs.class_table.ClassTable.class.Goals as goal

pub returns-in-None : goal.returns-in-None
returns-in-None c = class_by_seen None c.seen.result c.as_slice-chains.result.now c.self.inside.fits c.args.self.now c.args.frame.now c.in-None.ensures.found c.as_slice-chains.ensures c.self.view_is c.seen.ensures

pub returns-in-Some : goal.returns-in-Some
returns-in-Some c = class_by_seen (Some c.in-Some.place) c.seen.result c.as_slice-chains.result.now c.self.inside.fits c.args.self.now c.args.frame.now c.in-Some.ensures.found c.as_slice-chains.ensures c.self.view_is c.seen.ensures
