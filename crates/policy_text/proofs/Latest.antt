-- The last of a list, changed in place.
use Rattle.std.proofs.Common.{◌≡◌, ◌<◌, ◌≤◌, ◌-◌, ◌∙◌, ℕ, List, ◌∷◌, [], length, set, get_or, zero, suc, ap, arith}
use Rattle.std.specs.Prelude.{slice_get}
use Rattle.std.specs.Option.{option_map_or}
use Rattle.std.proofs.lemmas.List.Sums.{sum_by-cons}
use Rattle.policy_text.specs.declared.policy.ChainPolicy.{ChainPolicy}
use Rattle.policy_text.specs.declared.policy.FunctionDecl.{FunctionDecl}
use Rattle.policy_text.specs.declared.policy.Setting.{Setting}
use Rattle.policy_text.specs.Grammar.{count_functions, change_latest, functions_here, set_up_latest, add_setting}

pub set_latest : {A : Type 0} (f : A → A) (xs : List A) (i : ℕ) (x d : A) → 0 < length xs → i ≡ length xs - 1 → x ≡ f (get_or xs i d) → set xs i x ≡ change_latest f xs
set_latest f [] i x d some last is = absurd (omega arith)
set_latest f (y ∷ []) zero x d some last is = ap (λ z. z ∷ []) is
set_latest f (y ∷ []) (suc i) x d some last is = absurd (omega arith)
set_latest f (y ∷ z ∷ zs) zero x d some last is = absurd (omega arith)
set_latest f (y ∷ z ∷ zs) (suc i) x d some last is = ap (λ ws. y ∷ ws) (set_latest f (z ∷ zs) i x d (omega arith) (omega arith) is)

pub here_some : (chains : List ChainPolicy) → 0 < length (functions_here chains) → 0 < length chains
here_some [] some = absurd (omega arith)
here_some (c ∷ cs) some = omega arith

pub set_up_here : (chains now : List ChainPolicy) (i : ℕ) (c : ChainPolicy) (fs : List FunctionDecl) (s : Setting) → chains ≡ now → 0 < length (functions_here now) → i ≡ length now - 1 → c ≡ get_or chains i c →
    fs ≡ set_up_latest c.functions s → set chains i (record c { functions = fs }) ≡ add_setting now s
set_up_here chains now i c fs s same some last here is =
    set_latest (λ chain. record chain { functions = set_up_latest chain.functions s }) chains i (record c { functions = fs }) c (rw same (here_some now some)) (rw same last)
    (ap (λ f. let k : ChainPolicy = record c { functions = f } in k) is ∙ ap (λ chain. let k : ChainPolicy = record chain { functions = set_up_latest chain.functions s } in k) here)
    ∙ ap (λ cs. add_setting cs s) same

here_at : (chains : List ChainPolicy) (k : ℕ) → length (option_map_or (λ c. c.functions) (slice_get chains k) []) ≤ count_functions chains
here_at [] k = omega arith
here_at (c ∷ cs) zero = omega (arith, sum_by-cons (λ c. length c.functions) c cs)
here_at (c ∷ cs) (suc k) = omega (arith, here_at cs k, sum_by-cons (λ c. length c.functions) c cs)

-- the current chain has no more functions than the policy
pub here_few : (chains : List ChainPolicy) → length (functions_here chains) ≤ count_functions chains
here_few chains = here_at chains (length chains - 1)
