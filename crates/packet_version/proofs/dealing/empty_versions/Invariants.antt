use Rattle.std.proofs.Common.{◌≡◌, map, take}
use Rattle.packet_version.specs.Versions.{nothing}
use Rattle.packet_version.proofs.dealing.empty_versions.Given as goal

abbrev pub invariant-loop-touch : goal.invariant-loop-touch
invariant-loop-touch l = l.versions.items ≡ map (λ t. nothing t l.fixed) (take l.touch-index l.touches)
