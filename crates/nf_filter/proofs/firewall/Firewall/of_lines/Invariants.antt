use Rattle.std.proofs.Common.{◌≡◌}
use Rattle.nf_filter.specs.Firewalls.{firewall_by}
use Rattle.nf_filter.proofs.firewall.Firewall.of_lines.Given as goal

abbrev pub invariant-lines : goal.invariant-lines
invariant-lines l = l.draft ≡ firewall_by l.yielded
