use Rattle.std.specs.Prelude.{◌≡◌, ◌++◌, map}
use Rattle.segment_run.specs.Rewriting.{out_by, rewritten}
use Rattle.segment_run.proofs.ends.rewrite_fates.Given as goal

abbrev pub invariant-fates : goal.invariant-fates
invariant-fates l = l.fates.items ++ map (out_by (rewritten l.end)) l.fate-iterator.rest.items ≡ map (out_by (rewritten l.end)) l.fn.ended.items
