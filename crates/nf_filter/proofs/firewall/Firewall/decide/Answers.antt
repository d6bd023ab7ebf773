use Rattle.std.proofs.Common.{◌∙◌, ◌++◌, [], ◌∷◌, ap, position}
use Rattle.policy_text.specs.Meeting.{is_fitting}
use Rattle.nf_filter.specs.Firewalls.{line_at}
use Rattle.nf_filter.proofs.firewall.Firewall.decide.Goals as goal

pub returns-clause-decided : goal.returns-clause-decided
returns-clause-decided c =
    c.in_ok-push.ensures.items
    ∙ ap (λ line. c.args.deciding.now.items ++ line ∷ [])
    (c.deciding_line.ensures ∙ ap (λ seen. line_at (position (λ rule. is_fitting rule.fit seen) c.args.self.now.rules)) c.all_in.ensures)
