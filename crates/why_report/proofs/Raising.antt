-- The hits of a function's lines, raised one after another by one act.
use Rattle.std.proofs.Common.{◌≡◌, ◌<◌, ◌+◌, ◌∙◌, ℕ, zero, suc, List, [], ◌∷◌, ◌++◌, length, map, take, drop, set, get_or, refl, ap, sym, add-one, Bool, true, false, arith}
use Rattle.std.specs.Prelude.{count_by, cond, ◌==◌, ◌||◌}
use Rattle.std.specs.List.{list_any}
use Rattle.std.proofs.lemmas.List.{length-map}
use Rattle.std.proofs.lemmas.List.Sums.{sum_by_push}
use Rattle.policy_text.specs.declared.policy.FunctionDecl.{FunctionDecl}
use Rattle.declared_lines.specs.DeclaredLines.{deciders, number_of}
use Rattle.traced_walk.specs.Traced.{Act}
use Rattle.why_report.specs.Report.{counted, decided_lines, hits}
use Rattle.why_report.specs.Uses.{hits_of, raised}

-- the counts, raised for the lines before this place
abbrev pub raised_to : (ℕ → ℕ) → (ℕ → ℕ) → ℕ → List ℕ → List ℕ
raised_to after before place lines = map after (take place lines) ++ map before (drop place lines)

module _ (after before : ℕ → ℕ) where
  pub count_before : (lines : List ℕ) (place d : ℕ) → place < length lines → get_or (raised_to after before place lines) place d ≡ before (get_or lines place d)
  count_before [] place d inside = absurd (omega arith)
  count_before (line ∷ lines) zero d inside = refl
  count_before (line ∷ lines) (suc place) d inside = count_before lines place d (omega arith)

  pub raised_more : (lines : List ℕ) (place d count : ℕ) → place < length lines → count ≡ after (get_or lines place d)
      → set (raised_to after before place lines) place count ≡ raised_to after before (suc place) lines
  raised_more [] place d count inside is = absurd (omega arith)
  raised_more (line ∷ lines) zero d count inside is = ap (λ n. n ∷ map before lines) is
  raised_more (line ∷ lines) (suc place) d count inside is = ap (λ l. after line ∷ l) (raised_more lines place d count (omega arith) is)

  pub all_raised : (lines : List ℕ) → raised_to after before (length lines) lines ≡ map after lines
  all_raised [] = refl
  all_raised (line ∷ lines) = ap (λ l. after line ∷ l) (all_raised lines)

  pub length_raised : (lines : List ℕ) (place : ℕ) → length (raised_to after before place lines) ≡ length lines
  length_raised lines zero = length-map lines before
  length_raised [] (suc place) = refl
  length_raised (line ∷ lines) (suc place) = ap suc (length_raised lines place)

-- one more act raises a count where it has the property that is counted
raised_once : (n : ℕ) (holds : Bool) → raised (counted n) holds ≡ counted (n + cond holds 1 0)
raised_once n true = omega arith
raised_once n false = omega arith

pub counted_more : (p : Act → Bool) (acts : List Act) (act : Act) (holds : Bool) → p act ≡ holds → raised (counted (count_by p acts)) holds ≡ counted (count_by p (acts ++ act ∷ []))
counted_more p acts act holds is =
    raised_once (count_by p acts) holds
    ∙ ap (λ b. counted (count_by p acts + cond b 1 0)) (sym is)
    ∙ ap counted (sym (sum_by_push (λ a. cond (p a) 1 0) acts act))

any_of_map : {A : Type 0} (f : A → ℕ) (test : ℕ → Bool) (xs : List A) → list_any test (map f xs) ≡ list_any (λ x. test (f x)) xs
any_of_map f test [] = refl
any_of_map f test (x ∷ xs) = ap (λ b. test (f x) || b) (any_of_map f test xs)

-- one more act is a hit of each line that decided it
pub hits_more : (decl : FunctionDecl) (line : ℕ) (acts : List Act) (act : Act) (hit : Bool) → hit ≡ list_any (λ role. number_of decl role == line) act.lines
    → raised (hits decl line acts) hit ≡ hits decl line (acts ++ act ∷ [])
hits_more decl line acts act hit is =
    counted_more (λ a. list_any (λ n. n == line) (decided_lines decl a)) acts act hit (any_of_map (number_of decl) (λ n. n == line) act.lines ∙ sym is)

-- the act counts for one line more
pub raises_line : (decl : FunctionDecl) (acts : List Act) (act : Act) (counts : List ℕ) (place count d : ℕ) (hit : Bool) → place < length (deciders decl)
    → counts ≡ raised_to (λ line. hits decl line (acts ++ act ∷ [])) (λ line. hits decl line acts) place (deciders decl)
    → count ≡ get_or counts place d → hit ≡ list_any (λ role. number_of decl role == get_or (deciders decl) place d) act.lines
    → set counts place (raised count hit) ≡ raised_to (λ line. hits decl line (acts ++ act ∷ [])) (λ line. hits decl line acts) (place + 1) (deciders decl)
raises_line decl acts act counts place count d hit inside are is decided =
    let after : ℕ → ℕ = λ (line : ℕ). hits decl line (acts ++ act ∷ []) in
    let before : ℕ → ℕ = λ (line : ℕ). hits decl line acts in
    let line : ℕ = get_or (deciders decl) place d in
    let was : count ≡ before line = is ∙ ap (λ l. get_or l place d) are ∙ count_before after before (deciders decl) place d inside in
    let becomes : raised count hit ≡ after line = ap (λ n. raised n hit) was ∙ hits_more decl line acts act hit decided in
    ap (λ l. set l place (raised count hit)) are
    ∙ raised_more after before (deciders decl) place d (raised count hit) inside becomes
    ∙ ap (λ n. raised_to after before n (deciders decl)) (sym (add-one place))

-- behind the last line the act counts for all
pub raises_all : (decl : FunctionDecl) (acts : List Act) (act : Act) (counts : List ℕ) (place : ℕ)
    → counts ≡ raised_to (λ line. hits decl line (acts ++ act ∷ [])) (λ line. hits decl line acts) place (deciders decl)
    → place ≡ length counts → counts ≡ hits_of decl (acts ++ act ∷ [])
raises_all decl acts act counts place are past =
    let after : ℕ → ℕ = λ (line : ℕ). hits decl line (acts ++ act ∷ []) in
    let before : ℕ → ℕ = λ (line : ℕ). hits decl line acts in
    let many : place ≡ length (deciders decl) = past ∙ ap length are ∙ length_raised after before (deciders decl) place in
    are ∙ ap (λ n. raised_to after before n (deciders decl)) many ∙ all_raised after before (deciders decl)
