use Rattle.std.proofs.Common.{◌≡◌, ◌<◌, ◌==◌, ◌∙◌, ◌++◌, ◌∷◌, [], length, get_or, set, refl, ap, sym, arith}
use Rattle.std.specs.List.{list_any}
use Rattle.declared_lines.specs.DeclaredLines.{deciders, number_of}
use Rattle.why_report.specs.Report.{hits}
use Rattle.why_report.proofs.Raising.{length_raised, raises_all, raises_line}
use Rattle.why_report.proofs.uses.raise_each.Goals as goal

pub counts-preserved : goal.counts-preserved
counts-preserved c = λ decl acts act is_lines is_deciding before.
    let are = c.counts.invariant decl acts act is_lines is_deciding before in
    let many : length c.counts.counts ≡ length (deciders decl) =
    ap length are ∙ length_raised (λ line. hits decl line (acts ++ act ∷ [])) (λ line. hits decl line acts) (deciders decl) c.counts.place in
    let inside : c.counts.place < length (deciders decl) = omega (arith, many) in
    ap (λ n. set c.counts.counts c.counts.place n) c.raised.ensures
    ∙ raises_line decl acts act c.counts.counts c.counts.place (get_or c.counts.counts c.counts.place 0) 0 c.is_hit.result inside are refl
    (c.is_hit.ensures decl is_lines inside ∙ ap (λ roles. list_any (λ role. number_of decl role == get_or (deciders decl) c.counts.place 0) roles) (sym is_deciding))

pub returns : goal.returns
returns c = λ decl acts act is_lines is_deciding before.
    raises_all decl acts act c.counts.counts c.counts.place (c.counts.invariant decl acts act is_lines is_deciding before) (omega arith)
