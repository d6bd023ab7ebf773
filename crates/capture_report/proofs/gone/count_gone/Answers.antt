use Rattle.std.proofs.Common.{◌≡◌, ◌∙◌, false, rules}
use Rattle.std.specs.Prelude.{count_by}
use Rattle.std.specs.Option.{option_map_or}
use Rattle.capture_report.specs.Report.{is_gone}
use Rattle.capture_report.proofs.Counted.{count-gone}
use Rattle.capture_report.proofs.gone.count_gone.Goals as goal

pub returns : goal.returns
returns c =
    let counted : c.count.result ≡ count_by (λ o. option_map_or is_gone o false) c.args.fates.now = search rules in
    counted ∙ count-gone c.args.items.now c.args.fates.now c.requires
