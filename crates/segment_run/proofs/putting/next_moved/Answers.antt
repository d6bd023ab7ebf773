use Rattle.std.proofs.Common.{subst}
use Rattle.std.specs.Prelude.{All}
use Rattle.std.proofs.lemmas.List.Elements.{All-tail}
use Rattle.chain_walk.specs.Walk.{EndsWithin}
use Rattle.segment_run.proofs.putting.next_moved.Goals as goal

pub returns-in-Some-clause-within : goal.returns-in-Some-clause-within
returns-in-Some-clause-within c = All-tail (EndsWithin 64) c.in-Some.fate c.next.new.self.rest.items (subst (All (EndsWithin 64)) c.in-Some.ensures.items c.requires.within)
