-- Believed: the line of the totals.
use Rattle.std.specs.Prelude.{ℕ, List, [], ◌∷◌, ◌-◌, codes}
use Rattle.std.specs.Fmt.{decimal}
use Rattle.text_lines.specs.Texts.{joined}

-- `records N emitted E dropped D`
unfoldable pub total_line : ℕ → ℕ → List ℕ
total_line records dropped =
    joined (codes "records " ∷ decimal records ∷ codes " emitted " ∷ decimal (records - dropped) ∷ codes " dropped " ∷ decimal dropped ∷ codes "\n" ∷ [])
