-- A balancer that is accepted has a backend.
use Rattle.std.proofs.Common.{◌≡◌, ◌<◌, List, [], ◌∷◌, ◌++◌, length, true, false, refl, ap, arith, rules}
use Rattle.std.specs.Prelude.{filter_map}
use Rattle.std.specs.List.{list_any}
use Rattle.std.specs.Option.{option_to_list}
use Rattle.function_lines.specs.KindLines.{lacks_one}
use Rattle.nf_translate.specs.declared.balancer_lines.BalancerLine.{BalancerLine}
use Rattle.nf_translate.specs.declared.balancer_lines.BalancerLine.TheVariants as lines
use Rattle.nf_translate.specs.BalancerLines.{is_backend, backend_in, balancer_lines}
use Rattle.nf_translate.specs.Balancers.{settings_by}

come : (said : List BalancerLine) → list_any is_backend said ≡ true → 0 < length (filter_map backend_in said)
come [] h = absurd cc
come (lines.VirtualAddress a ∷ said) h = come said h
come (lines.Backend a ∷ said) h = omega arith

-- one more line adds its backend, if it has one
pub one_more : (said : List BalancerLine) (line : BalancerLine) → filter_map backend_in (said ++ line ∷ []) ≡ filter_map backend_in said ++ option_to_list (backend_in line)
one_more [] (lines.VirtualAddress a) = refl
one_more [] (lines.Backend a) = refl
one_more (lines.VirtualAddress a ∷ said) line = one_more said line
one_more (lines.Backend a ∷ said) line = ap (λ backends. a ∷ backends) (one_more said line)

pub has_backends : (said : List BalancerLine) → lacks_one balancer_lines said ≡ false → 0 < length (settings_by said).backends
has_backends said h = come said (grind (rules, h))
