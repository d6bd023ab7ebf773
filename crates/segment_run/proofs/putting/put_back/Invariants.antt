use Rattle.std.specs.Prelude.{◌≡◌, ◌++◌, All, map}
use Rattle.chain_walk.specs.Walk.{EndsWithin}
use Rattle.piece_walk.specs.Rejoining.{moved, put_back}
use Rattle.segment_run.proofs.putting.put_back.Given as goal

abbrev pub invariant-fates : goal.invariant-fates
invariant-fates l = record {
  within : All (EndsWithin 64) l.later.rest.items;
  due : l.all.items ++ put_back l.fate-iterator.rest.items (map (moved l.before) l.later.rest.items) ≡ put_back l.fn.ended.items (map (moved l.before) l.fn.later.items);
}
