-- Believed: the line of flows that were exported.
use Rattle.std.specs.Prelude.{ℕ, List, [], ◌∷◌, length, codes}
use Rattle.std.specs.Fmt.{decimal}
use Rattle.text_lines.specs.Texts.{joined}
use Rattle.flow_export.specs.Exports.{exported, packet_count}
use Rattle.flow_line.specs.declared.line.FlowLine.{FlowLine}

-- `flows records N flows F exported X packets P`
unfoldable pub flows_text : ℕ → List FlowLine → List ℕ
flows_text records lines = joined (
    codes "flows records " ∷ decimal records ∷ codes " flows " ∷ decimal (length lines) ∷ codes " exported " ∷ decimal (length (exported lines))
    ∷ codes " packets " ∷ decimal (packet_count (length (exported lines))) ∷ codes "\n" ∷ [])
