-- The lines that can decide are listed in the order of the text.
use Rattle.std.proofs.Common.{◌≡◌, ◌<◌, ℕ, List, [], ◌∷◌, ◌++◌, map, filter, length, get_or, subst, Bool, true, false, cond, arith}
use Rattle.std.specs.Prelude.{All, AllPairs}
use Rattle.std.proofs.lemmas.List.{length-map, get_or-map}
use Rattle.std.proofs.lemmas.List.Elements.{All-map, All-filter}
use Rattle.std.proofs.lemmas.List.Kept.{AllPairs-filter, AllPairs-cons}
use Rattle.policy_text.specs.declared.policy.FunctionDecl.{FunctionDecl}
use Rattle.policy_text.specs.declared.policy.Setting.{Setting}
use Rattle.declared_lines.specs.DeclaredLines.{can_decide, declaration_decides, deciders}
use Rattle.declared_lines.specs.Roles.{LinesRise}

abbrev line_of : Setting → ℕ
line_of s = s.line

abbrev no_setting : Setting
no_setting = record { line = 0; words = [] }

lines_rise : (settings : List Setting) → AllPairs (λ s t. s.line < t.line) settings → AllPairs (λ a b. a < b) (map line_of settings)
lines_rise settings rise = λ i j d below inside.
    let inside_too : j < length settings = subst (λ (n : ℕ). j < n) (length-map settings line_of) inside in
    let here : get_or (map line_of settings) i d ≡ (get_or settings i no_setting).line = get_or-map line_of settings i no_setting d (omega arith) in
    let there : get_or (map line_of settings) j d ≡ (get_or settings j no_setting).line = get_or-map line_of settings j no_setting d inside_too in
    let less : (get_or settings i no_setting).line < (get_or settings j no_setting).line = rise i j no_setting below inside_too in
    omega arith

behind_first : (b : Bool) (line : ℕ) (lines : List ℕ) → All (λ n. line < n) lines → AllPairs (λ a b. a < b) lines → AllPairs (λ a b. a < b) (cond b (line ∷ []) [] ++ lines)
behind_first true line lines first rise = AllPairs-cons (λ a b. a < b) line lines first rise
behind_first false line lines first rise = rise

pub deciders_rise : (decl : FunctionDecl) → LinesRise decl → AllPairs (λ a b. a < b) (deciders decl)
deciders_rise decl rise =
    let chosen : List Setting = filter (can_decide decl.kind) decl.settings in
    behind_first (declaration_decides decl decl.kind) decl.line (map line_of chosen)
    (All-map (λ n. decl.line < n) line_of chosen (All-filter (can_decide decl.kind) (λ s. decl.line < s.line) decl.settings rise.first))
    (lines_rise chosen (AllPairs-filter (λ s t. s.line < t.line) (can_decide decl.kind) decl.settings rise.settings))
