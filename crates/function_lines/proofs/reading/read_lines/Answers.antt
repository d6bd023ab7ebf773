use Rattle.std.proofs.Common.{rules}
use Rattle.function_lines.proofs.Gathering.{goes_on}
use Rattle.function_lines.proofs.reading.read_lines.Goals as goal

pub settings-preserved : goal.settings-preserved
settings-preserved g c = goes_on _ c.as_slice-settings.result.now c.settings.place c.settings.lines c.keep.new.lines c.settings.least c.least_behind-least.result c.index-settings-place.result c.index-settings-place.result c.settings.invariant (search rules) (search rules) (search rules) (search rules)
