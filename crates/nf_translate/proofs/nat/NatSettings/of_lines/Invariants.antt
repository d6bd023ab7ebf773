use Rattle.std.proofs.Common.{◌≡◌}
use Rattle.nf_translate.specs.Nats.{settings_by}
use Rattle.nf_translate.proofs.nat.NatSettings.of_lines.Given as goal

abbrev pub invariant-lines : goal.invariant-lines
invariant-lines l = l.settings ≡ settings_by l.yielded
