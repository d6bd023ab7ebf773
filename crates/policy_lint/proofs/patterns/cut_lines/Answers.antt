use Rattle.std.proofs.Common.{◌≡◌, ◌∙◌, ℕ, List, map, ap, Bor, rules}
use Rattle.policy_lint.specs.Patterns.{is_cut}
use Rattle.policy_lint.proofs.Steps.{map_twice}
use Rattle.policy_lint.proofs.patterns.cut_lines.Goals as goal

pub returns : goal.returns
returns c =
    let lines = c.in_ok-lines.lines.items in
    let cuts : c.new.result ≡ map (λ (line : Bor (List ℕ)). is_cut line.now) lines = search rules in
    cuts ∙ map_twice is_cut (λ (line : Bor (List ℕ)). line.now) lines ∙ ap (map is_cut) c.in_ok-lines.ensures
