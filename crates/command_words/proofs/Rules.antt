-- The rules that a command is given one after another.
use Rattle.std.proofs.Common.{◌≡◌, ◌∙◌, ℕ, ◌+◌, ◌<◌, List, [], ◌∷◌, ◌++◌, length, map, take, get_or, append_assoc, ap, refl, sym}
use Rattle.std.proofs.lemmas.List.{map_push, take_more}
use Rattle.clap.specs.Words.{App, Rule, with_rule}
use Rattle.command_words.specs.declared.commands.Argument.{Argument}
use Rattle.command_words.specs.Apps.{rule_for, with_rules}

rules_up_to : (arguments : List Argument) (i : ℕ) (d : Argument) → i < length arguments
    → map rule_for (take (i + 1) arguments) ≡ map rule_for (take i arguments) ++ rule_for (get_or arguments i d) ∷ []
rules_up_to arguments i d h = ap (map rule_for) (take_more arguments i d h) ∙ map_push rule_for (take i arguments) (get_or arguments i d)

with_one_more : (a : App) (rules : List Rule) (rule : Rule) → with_rule (with_rules a rules) rule ≡ with_rules a (rules ++ rule ∷ [])
with_one_more a rules rule = rw (append_assoc a.top.rules rules (rule ∷ [])) refl

pub one_more : (a : App) (arguments : List Argument) (i : ℕ) (d : Argument) → i < length arguments
    → with_rule (with_rules a (map rule_for (take i arguments))) (rule_for (get_or arguments i d)) ≡ with_rules a (map rule_for (take (i + 1) arguments))
one_more a arguments i d h =
    with_one_more a (map rule_for (take i arguments)) (rule_for (get_or arguments i d)) ∙ ap (with_rules a) (sym (rules_up_to arguments i d h))
