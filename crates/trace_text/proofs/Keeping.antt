-- The text of what is kept of the acts is the text of the acts.
use Rattle.std.proofs.Common.{◌≡◌, ◌∙◌, ℕ, zero, suc, List, [], ◌∷◌, ◌++◌, map, take, true, Some, None, refl, sym, ap, append_assoc, arith}
use Rattle.std.specs.Prelude.{Result, Ok, Err, OnOk, ◌<◌, ◌≤◌, ◌+◌, length, filter_map, option_map, slice_index_or}
use Rattle.std.specs.List.{cons_option}
use Rattle.std.specs.Borrow.{Bor}
use Rattle.std.proofs.lemmas.Option.{slice_get-map, slice_get-get_or, slice_get_past}
use Rattle.std.proofs.lemmas.List.{map-append}
use Rattle.std.proofs.lemmas.List.Elements.{filter_map-append}
use Rattle.std.specs.List.{slice_get}
use Rattle.chain_walk.specs.declared.walk.Fate.{Fate}
use Rattle.policy_text.specs.declared.policy.FunctionDecl.{FunctionDecl}
use Rattle.trace_text.specs.Kept.{kept_act, kept_acts, kept_at, kept_trace}
use Rattle.traced_run.specs.declared.acts.TracedAct.{TracedAct}
use Rattle.trace_text.specs.Trace.{act_text, acts_text, chain_line, chain_trace, fate_line}
use Rattle.traced_run.specs.Telling.{told}
use Rattle.traced_walk.specs.Traced.{Act}
use Rattle.why_report.specs.Report.{OrderedChain}

same_acts : (order : List FunctionDecl) (acts : List Act) → kept_acts order (map (told true) acts) ≡ acts_text order acts
same_acts [] acts = refl
same_acts (decl ∷ order) [] = refl
same_acts (decl ∷ order) (act ∷ acts) = ap (λ t. act_text decl act ++ t) (same_acts order acts)

pub told_trace : (chain : OrderedChain) (acts : List Act) (fate : Fate) → kept_trace chain (map (told true) acts) fate ≡ chain_trace chain acts fate
unfolding chain_trace
told_trace chain acts fate = ap (λ t. chain_line chain.declared.name ++ (t ++ fate_line chain.order fate)) (same_acts chain.order acts)

pub none_kept : (order : List FunctionDecl) → kept_acts order [] ≡ []
none_kept [] = refl
none_kept (decl ∷ order) = refl

pub append_nil : (t : List ℕ) → t ++ [] ≡ t
append_nil [] = refl
append_nil (c ∷ cs) = ap (λ t. c ∷ t) (append_nil cs)

append_nothing : (t nothing : List ℕ) → nothing ≡ [] → t ++ nothing ≡ t
append_nothing t nothing e = ap (λ x. t ++ x) e ∙ append_nil t

-- one act more
pub one_more : (order : List FunctionDecl) (acts : List TracedAct) (place : ℕ) (act : TracedAct) → slice_get acts place ≡ Some act
    → kept_acts order (take (suc place) acts) ≡ kept_acts order (take place acts) ++ kept_at (slice_get order place) act
one_more order [] place act e = cc
one_more [] (a ∷ acts) zero act e = refl
one_more [] (a ∷ acts) (suc place) act e = refl
one_more (d ∷ order) (a ∷ acts) zero act e =
    let same : a ≡ act = cc in
    append_nothing (kept_act d a) (kept_acts order []) (none_kept order) ∙ ap (kept_act d) same
one_more (d ∷ order) (a ∷ acts) (suc place) act e =
    ap (λ t. kept_act d a ++ t) (one_more order acts place act e)
    ∙ sym (append_assoc (kept_act d a) (kept_acts order (take place acts)) (kept_at (slice_get order place) act))

-- ---- the declarations in order

pub decl_at : (order : List (Bor FunctionDecl)) (place : ℕ) (d : Bor FunctionDecl) → slice_get order place ≡ Some d → slice_get (map (λ d. d.now) order) place ≡ Some d.now
decl_at order place d e = slice_get-map (λ d. d.now) order place ∙ ap (option_map (λ d. d.now)) e

pub no_decl_at : (order : List (Bor FunctionDecl)) (place : ℕ) → slice_get order place ≡ None → slice_get (map (λ d. d.now) order) place ≡ None
no_decl_at order place e = slice_get-map (λ d. d.now) order place ∙ ap (option_map (λ d. d.now)) e

-- one position more
pub one_place : (functions : List FunctionDecl) (positions : List ℕ) (k p : ℕ) → slice_get positions k ≡ Some p
    → filter_map (λ place. slice_get functions place) (take (suc k) positions)
    ≡ filter_map (λ place. slice_get functions place) (take k positions) ++ filter_map (λ place. slice_get functions place) (p ∷ [])
one_place functions [] k p e = cc
one_place functions (q ∷ positions) zero p e = let same : q ≡ p = cc in ap (λ x. filter_map (λ place. slice_get functions place) (x ∷ [])) same
one_place functions (q ∷ positions) (suc k) p e =
    filter_map-append (λ place. slice_get functions place) (q ∷ []) (take (suc k) positions)
    ∙ ap (λ t. filter_map (λ place. slice_get functions place) (q ∷ []) ++ t) (one_place functions positions k p e)
    ∙ sym (append_assoc (filter_map (λ place. slice_get functions place) (q ∷ [])) (filter_map (λ place. slice_get functions place) (take k positions)) (filter_map (λ place. slice_get functions place) (p ∷ [])))
    ∙ ap (λ t. t ++ filter_map (λ place. slice_get functions place) (p ∷ [])) (sym (filter_map-append (λ place. slice_get functions place) (q ∷ []) (take k positions)))

pub nothing_kept : (before : List ℕ) (order : List FunctionDecl) → before ≡ before ++ kept_acts order []
nothing_kept before order = sym (append_nothing before (kept_acts order []) (none_kept order))

pub kept_more : (before now new : List ℕ) (order : List FunctionDecl) (acts : List TracedAct) (place : ℕ) (act : TracedAct) → slice_get acts place ≡ Some act
    → now ≡ before ++ kept_acts order (take place acts) → new ≡ now ++ kept_at (slice_get order place) act → new ≡ before ++ kept_acts order (take (suc place) acts)
kept_more before now new order acts place act e was put =
    put ∙ ap (λ t. t ++ kept_at (slice_get order place) act) was ∙ append_assoc before (kept_acts order (take place acts)) (kept_at (slice_get order place) act)
    ∙ ap (λ t. before ++ t) (sym (one_more order acts place act e))

-- ---- what a look-up gives

pub got : {A : Type 0} (xs : List A) (i : ℕ) (x : A) → i < length xs → x ≡ slice_index_or xs i x → slice_get xs i ≡ Some x
got xs i x h e = slice_get-get_or xs i x h ∙ ap Some (sym e)

pub append_none : (before : List FunctionDecl) → before ≡ before ++ []
append_none [] = refl
append_none (d ∷ ds) = ap (λ t. d ∷ t) (append_none ds)

pub act_there : (before : List ℕ) (order : List (Bor FunctionDecl)) (place : ℕ) (d : Bor FunctionDecl) (act : TracedAct) → place < length order → d ≡ slice_index_or order place d
    → before ++ kept_act d.now act ≡ before ++ kept_at (slice_get (map (λ d. d.now) order) place) act
act_there before order place d act h e = ap (λ o. before ++ kept_at o act) (sym (decl_at order place d (got order place d h e)))

pub act_nowhere : (before : List ℕ) (order : List (Bor FunctionDecl)) (place : ℕ) (act : TracedAct) → length order ≤ place
    → before ≡ before ++ kept_at (slice_get (map (λ d. d.now) order) place) act
act_nowhere before order place act h = sym (append_nil before) ∙ ap (λ o. before ++ kept_at o act) (sym (no_decl_at order place (slice_get_past order place h)))

pub decl_there : (functions : List FunctionDecl) (order after : List (Bor FunctionDecl)) (place : ℕ) (d : Bor FunctionDecl) → place < length functions → d.now ≡ slice_index_or functions place d.now
    → after ≡ order ++ d ∷ [] → map (λ d. d.now) after ≡ map (λ d. d.now) order ++ filter_map (λ p. slice_get functions p) (place ∷ [])
decl_there functions order after place d h e is =
    ap (map (λ (d : Bor FunctionDecl). d.now)) is ∙ map-append (λ (d : Bor FunctionDecl). d.now) order (d ∷ [])
    ∙ ap (λ o. map (λ (d : Bor FunctionDecl). d.now) order ++ cons_option o []) (sym (got functions place d.now h e))

pub decl_nowhere : (functions : List FunctionDecl) (order : List (Bor FunctionDecl)) (place : ℕ) → length functions ≤ place
    → map (λ d. d.now) order ≡ map (λ d. d.now) order ++ filter_map (λ p. slice_get functions p) (place ∷ [])
decl_nowhere functions order place h =
    append_none (map (λ (d : Bor FunctionDecl). d.now) order)
    ∙ ap (λ o. map (λ (d : Bor FunctionDecl). d.now) order ++ cons_option o []) (sym (slice_get_past functions place h))

pub plus_one : (n : ℕ) → suc n ≡ n + 1
plus_one n = omega arith

-- a text that grew three times
pub grown : (before first second third a b c : List ℕ) → first ≡ before ++ a → second ≡ first ++ b → third ≡ second ++ c → third ≡ before ++ (a ++ (b ++ c))
grown before first second third a b c one two three =
    three ∙ ap (λ t. t ++ c) (two ∙ ap (λ t. t ++ b) one) ∙ append_assoc (before ++ a) b c ∙ append_assoc before a (b ++ c)

pub on_ok : {T E P Q : Type 0} (r : Result T E) → (P → Q) → OnOk r P → OnOk r Q
on_ok (Ok x) f p = f p
on_ok (Err e) f p = p

pub told_all : (before after : List ℕ) (chain : OrderedChain) (kept : List TracedAct) (acts : List Act) (fate : Fate) → kept ≡ map (told true) acts
    → after ≡ before ++ kept_trace chain kept fate → after ≡ before ++ chain_trace chain acts fate
told_all before after chain kept acts fate e put = put ∙ ap (λ t. before ++ t) (ap (λ k. kept_trace chain k fate) e ∙ told_trace chain acts fate)
