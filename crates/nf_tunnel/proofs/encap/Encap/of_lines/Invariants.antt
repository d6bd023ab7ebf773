use Rattle.std.proofs.Common.{◌≡◌}
use Rattle.nf_tunnel.specs.Ends.{encap_by}
use Rattle.nf_tunnel.proofs.encap.Encap.of_lines.Given as goal

abbrev pub invariant-lines : goal.invariant-lines
invariant-lines l = l.encap ≡ encap_by l.yielded
