use Rattle.std.proofs.Common.{◌∙◌, ap}
use Rattle.std.specs.Option.{option_map_or}
use Rattle.packet_version.specs.Views.{seen_values}
use Rattle.nf_filter.specs.Firewalls.{all_seen, passes}
use Rattle.nf_filter.proofs.firewall.Firewall.passes.Goals as goal

pub returns : goal.returns
unfolding passes
returns c =
    let v = c.args.view.now in
    c.judge.ensures ∙ ap (λ met. option_map_or (λ rule. rule.allow) met c.args.self.now.default) (c.asked-asked.ensures (all_seen (seen_values v) v.version.fixed) c.seen_in.result c.seen_in.ensures)
