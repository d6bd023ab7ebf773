-- Believed: the summary of the demo, by its numbers.
use Rattle.std.specs.Prelude.{codes, ℕ, List, [], ◌∷◌, ◌++◌}
use Rattle.std.specs.Fmt.{decimal}
use Rattle.text_lines.specs.Texts.{line_of}
use Rattle.demo_capture.specs.declared.summary.Weighed.{Weighed}
use Rattle.demo_capture.specs.declared.summary.Summary.{Summary}

-- `demo SEED COUNT`
unfoldable pub demo_line : ℕ → ℕ → List ℕ
demo_line seed count = line_of (codes "demo " ∷ decimal seed ∷ codes " " ∷ decimal count ∷ [])

-- `records N emitted E dropped D`
unfoldable pub records_line : ℕ → ℕ → ℕ → List ℕ
records_line records emitted dropped =
    line_of (codes "records " ∷ decimal records ∷ codes " emitted " ∷ decimal emitted ∷ codes " dropped " ∷ decimal dropped ∷ [])

-- `NAME BYTES WEIGHT`
unfoldable pub weighed_line : List ℕ → Weighed → List ℕ
weighed_line name w = line_of (name ∷ codes " " ∷ decimal w.bytes ∷ codes " " ∷ decimal w.weight ∷ [])

abbrev pub summary_text : Summary → List ℕ
summary_text s =
    demo_line s.seed s.count ++ records_line s.records s.emitted s.dropped ++ weighed_line (codes "out") s.out ++ weighed_line (codes "report") s.report
