use Rattle.std.proofs.Common.{◌≡◌}
use Rattle.nf_tunnel.specs.Ends.{decap_by}
use Rattle.nf_tunnel.proofs.decap.Decap.of_lines.Given as goal

abbrev pub invariant-lines : goal.invariant-lines
invariant-lines l = l.decap ≡ decap_by l.yielded
