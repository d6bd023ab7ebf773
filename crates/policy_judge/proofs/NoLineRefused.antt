-- If no line is the least that is refused, no function refuses one, and each is kept.
use Rattle.std.proofs.Common.{◌≡◌, ◌≤◌, ◌∙◌, ℕ, List, [], ◌∷◌, length, map, take, refl, ap, sym}
use Rattle.std.specs.Prelude.{All, Option, Some, None, fold}
use Rattle.std.proofs.lemmas.List.{take_all}
use Rattle.std.proofs.lemmas.List.Elements.{All-nil, All-cons, All-head, All-tail}
use Rattle.policy_text.specs.declared.policy.ChainPolicy.{ChainPolicy}
use Rattle.policy_text.specs.declared.policy.FunctionDecl.{FunctionDecl}
use Rattle.net_functions.specs.Builds.{refused_line, function_of}
use Rattle.net_functions.specs.declared.making.Made.{Made}
use Rattle.policy_judge.specs.Kept.{kept_where, kept_of, kept_each}
use Rattle.policy_judge.specs.Making.{place_of, functions_made}
use Rattle.policy_judge.specs.Settings.{lesser_of, least_among, least_refused, IsSettled}

first_none : (a b : Option ℕ) → lesser_of a b ≡ None → a ≡ None
first_none None b e = refl
first_none (Some x) None e = e
first_none (Some x) (Some y) e = absurd cc

second_none : (a b : Option ℕ) → lesser_of a b ≡ None → b ≡ None
second_none None b e = e
second_none (Some x) None e = refl
second_none (Some x) (Some y) e = absurd cc

-- a line that was refused before stays
stays : (line : Option ℕ) (fs : List FunctionDecl) → least_among line fs ≡ None → line ≡ None
stays line [] e = e
stays line (f ∷ fs) e = first_none line (refused_line f) (stays (lesser_of line (refused_line f)) fs e)

among : (line : Option ℕ) (fs : List FunctionDecl) → least_among line fs ≡ None → All (λ f. refused_line f ≡ None) fs
among line [] e = All-nil (λ f. refused_line f ≡ None)
among line (f ∷ fs) e =
    let next = lesser_of line (refused_line f) in
    All-cons (λ g. refused_line g ≡ None) f fs (second_none line (refused_line f) (stays next fs e)) (among next fs e)

stays_on : (line : Option ℕ) (cs : List ChainPolicy) → fold (λ l c. least_among l c.functions) line cs ≡ None → line ≡ None
stays_on line [] e = e
stays_on line (c ∷ cs) e = stays line c.functions (stays_on (least_among line c.functions) cs e)

settled_from : (line : Option ℕ) (cs : List ChainPolicy) → fold (λ l c. least_among l c.functions) line cs ≡ None → All IsSettled cs
settled_from line [] e = All-nil IsSettled
settled_from line (c ∷ cs) e = All-cons IsSettled c cs (among line c.functions (stays_on (least_among line c.functions) cs e)) (settled_from (least_among line c.functions) cs e)

pub all_settled : (cs : List ChainPolicy) → least_refused cs ≡ None → All IsSettled cs
all_settled cs e = settled_from None cs e

-- if no line is refused, each function is kept
kept_here : (fs : List FunctionDecl) → All (λ f. refused_line f ≡ None) fs → kept_each fs ≡ map place_of fs
kept_here [] settled = refl
kept_here (f ∷ fs) settled =
    let here : kept_of f ≡ place_of f = ap (λ o. kept_where o (function_of f)) (All-head (λ g. refused_line g ≡ None) f fs settled) in
    ap (λ o. o ∷ kept_each fs) here ∙ ap (λ l. place_of f ∷ l) (kept_here fs (All-tail (λ g. refused_line g ≡ None) f fs settled))

kept_in : (cs : List ChainPolicy) → All IsSettled cs → map (λ c. kept_each c.functions) cs ≡ functions_made cs
kept_in [] settled = refl
kept_in (c ∷ cs) settled =
    ap (λ l. l ∷ map (λ d. kept_each d.functions) cs) (kept_here c.functions (All-head IsSettled c cs settled))
    ∙ ap (λ l. map place_of c.functions ∷ l) (kept_in cs (All-tail IsSettled c cs settled))

-- after the last chain all functions are made, if no line was refused
pub all_made : (cs : List ChainPolicy) (index : ℕ) (least : Option ℕ) (functions made : List (List (Option Made))) → length cs ≤ index →
    least ≡ least_refused (take index cs) → functions ≡ map (λ c. kept_each c.functions) (take index cs) → least ≡ None → made ≡ functions →
    (least_refused cs ≡ None) × (made ≡ functions_made cs)
all_made cs index least functions made past least_is functions_are none made_are =
    let all : take index cs ≡ cs = take_all index cs past in
    let settled : least_refused cs ≡ None = ap least_refused (sym all) ∙ sym least_is ∙ none in
    (settled, made_are ∙ functions_are ∙ ap (map (λ c. kept_each c.functions)) all ∙ kept_in cs (all_settled cs settled))

pub lesser_of_none : (line : Option ℕ) → lesser_of line None ≡ line
lesser_of_none None = refl
lesser_of_none (Some line) = refl
