use Rattle.std.specs.Prelude.{◌≡◌, ◌≤◌, ◌++◌}
use Rattle.segment_run.specs.Segments.{pieces_of}
use Rattle.policy_chains.specs.Parts.{parts_count, parts_of}
use Rattle.chain_service.proofs.running.running_pieces.Given as goal

abbrev pub invariant-parts : goal.invariant-parts
invariant-parts l = record {
  pieces : pieces_of l.pieces.items ++ parts_of l.part-iterator.rest.items ≡ parts_of l.fn.parts;
  few : parts_count l.part-iterator.rest.items ≤ 64;
}
