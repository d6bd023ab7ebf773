use Rattle.std.proofs.Common.{◌≡◌, ◌∷◌, [], ◌++◌, List}
use Rattle.policy_text.specs.declared.policy.FunctionDecl.{FunctionDecl}
use Rattle.declared_lines.specs.DeclaredLines.{deciders}
use Rattle.declared_lines.specs.LinesOf.{lines_of}
use Rattle.traced_walk.specs.Traced.{Act}
use Rattle.why_report.specs.Report.{hits}
use Rattle.why_report.specs.Uses.{hits_of}
use Rattle.why_report.proofs.Raising.{raised_to}
use Rattle.why_report.proofs.uses.raise_each.Given as goal

-- the act counts for the lines before this place
abbrev pub invariant-counts : goal.invariant-counts
invariant-counts l = (decl : FunctionDecl) → (acts : List Act) → (act : Act) → l.lines ≡ lines_of decl → act.lines ≡ l.deciding → l.fn.counts ≡ hits_of decl acts
    → l.counts ≡ raised_to (λ line. hits decl line (acts ++ act ∷ [])) (λ line. hits decl line acts) l.place (deciders decl)
