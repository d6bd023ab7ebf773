-- A balancer's virtual address, as findings read it and as balancers are made of it.
use Rattle.std.proofs.Common.{◌≡◌, ◌∙◌, ℕ, List, [], ◌∷◌, Bool, true, false, refl, sym, ap, subst, cond, Some, None}
use Rattle.std.specs.Prelude.{◌&&◌, ◌||◌, not, Option, is_none, find, codes, unwrap_or, if◌then◌else◌}
use Rattle.std.specs.List.{list_any, cons_option}
use Rattle.std.specs.Option.{option_map, option_and_then, option_or}
use Rattle.std.specs.Str.{bytes_eq}
use Rattle.std.specs.declared.net.ip_addr.IpAddr.{IpAddr}
use Rattle.std.proofs.lemmas.Slice.Eq.{bytes_eq-Decides}
use Rattle.action_profile.specs.declared.kind.Kind.TheVariants as kinds
use Rattle.policy_text.specs.Addresses6.{address6_of}
use Rattle.policy_text.specs.Values.{address_of}
use Rattle.policy_text.specs.declared.policy.FunctionDecl.{FunctionDecl}
use Rattle.policy_text.specs.declared.policy.Setting.{Setting}
use Rattle.function_lines.specs.KindLines.{said_by, refused_line as refused_line_of}
use Rattle.nf_translate.specs.declared.balancer_lines.BalancerLine.{BalancerLine}
use Rattle.nf_translate.specs.declared.balancer_lines.BalancerLine.TheVariants as lines
use Rattle.nf_translate.specs.Addresses.{ip_address_of, ipv4_address, ipv6_address}
use Rattle.nf_translate.specs.BalancerLines.{virtual_address_of, backend_of, line_of, is_virtual_address, is_backend, virtual_in, virtual_address_by, balancer_lines}
use Rattle.net_functions.specs.Builds.{making_of, function_of, refused_line}
use Rattle.policy_lint.specs.Nats.{sets, lined}
use Rattle.policy_lint.specs.Rules.{word_of}
use Rattle.lint_laws.specs.Made.{made_virtual}
use Rattle.lint_laws.specs.Reading.{read_virtual}
use Rattle.lint_laws.proofs.Accepted.{AreSaid, neither, not_both, all_said, none_lacking}
use Rattle.lint_laws.proofs.SetLines.{words_of, same_words, sets_by, not_none}

abbrev IsSpelled : List (List ℕ) → BalancerLine → Type 0
IsSpelled words (lines.VirtualAddress a) = (text : List ℕ) × (words ≡ words_of (codes "vip") text) × (ip_address_of text ≡ Some a)
IsSpelled words (lines.Backend a) = (text : List ℕ) × (key : List ℕ) × (words ≡ codes "rule" ∷ key ∷ text ∷ [])

virtual_by : (words : List (List ℕ)) (text : List ℕ) (l : BalancerLine) (o : Option IpAddr) → words ≡ words_of (codes "vip") text → ip_address_of text ≡ o → option_map (λ a. lines.VirtualAddress a) o ≡ Some l → IsSpelled words l
virtual_by words text l None w e h = absurd cc
virtual_by words text l (Some a) w e h = let same : lines.VirtualAddress a ≡ l = cc in subst (IsSpelled words) same (text, w, e)

virtual_spelled : (lead key text : List ℕ) (l : BalancerLine) (v : Bool) → lead ≡ codes "set" → bytes_eq key (codes "vip") ≡ v → (if v then option_map (λ a. lines.VirtualAddress a) (ip_address_of text) else None) ≡ Some l → IsSpelled (lead ∷ key ∷ text ∷ []) l
virtual_spelled lead key text l true s e h = virtual_by (lead ∷ key ∷ text ∷ []) text l (ip_address_of text) (same_words lead key text (codes "vip") s ((bytes_eq-Decides key (codes "vip")).0 e)) refl h
virtual_spelled lead key text l false s e h = absurd cc

backend_by : (words : List (List ℕ)) (key text : List ℕ) (l : BalancerLine) (o : Option IpAddr) → words ≡ codes "rule" ∷ key ∷ text ∷ [] → option_map (λ a. lines.Backend a) o ≡ Some l → IsSpelled words l
backend_by words key text l None w h = absurd cc
backend_by words key text l (Some a) w h = let same : lines.Backend a ≡ l = cc in subst (IsSpelled words) same (text, key, w)

backend_spelled : (lead key text : List ℕ) (l : BalancerLine) (b : Bool) → lead ≡ codes "rule" → (if b then option_map (λ a. lines.Backend a) (ip_address_of text) else None) ≡ Some l → IsSpelled (lead ∷ key ∷ text ∷ []) l
backend_spelled lead key text l true s h = backend_by (lead ∷ key ∷ text ∷ []) key text l (ip_address_of text) (ap (λ a. a ∷ key ∷ text ∷ []) s) h
backend_spelled lead key text l false s h = absurd cc

lead_spelled : (lead key text : List ℕ) (l : BalancerLine) (s r : Bool) → bytes_eq lead (codes "set") ≡ s → bytes_eq lead (codes "rule") ≡ r →
    (if s then virtual_address_of key text else (if r then backend_of key text else None)) ≡ Some l → IsSpelled (lead ∷ key ∷ text ∷ []) l
lead_spelled lead key text l true r es er h = virtual_spelled lead key text l (bytes_eq key (codes "vip")) ((bytes_eq-Decides lead (codes "set")).0 es) refl h
lead_spelled lead key text l false true es er h = backend_spelled lead key text l (bytes_eq key (codes "backend")) ((bytes_eq-Decides lead (codes "rule")).0 er) h
lead_spelled lead key text l false false es er h = absurd cc

spelled : (words : List (List ℕ)) (l : BalancerLine) → line_of words ≡ Some l → IsSpelled words l
unfolding line_of
spelled [] l h = absurd cc
spelled (lead ∷ []) l h = absurd cc
spelled (lead ∷ key ∷ []) l h = absurd cc
spelled (lead ∷ key ∷ text ∷ []) l h = lead_spelled lead key text l (bytes_eq lead (codes "set")) (bytes_eq lead (codes "rule")) refl refl h
spelled (lead ∷ key ∷ text ∷ more ∷ words) l h = absurd cc

abbrev address_in : Option Setting → Option IpAddr
address_in o = option_and_then (λ (s : Setting). ip_address_of (word_of s.words 2)) o

found_by : (s : Setting) (l : BalancerLine) (said : List BalancerLine) (later : List Setting) → IsSpelled s.words l → option_and_then virtual_in (find is_virtual_address said) ≡ address_in (find (sets (codes "vip")) later) →
    option_and_then virtual_in (find is_virtual_address (l ∷ said)) ≡ address_in (cond (sets (codes "vip") s) (Some s) (find (sets (codes "vip")) later))
found_by s (lines.VirtualAddress a) said later sp rest =
    sym (ap (λ b. address_in (cond b (Some s) (find (sets (codes "vip")) later))) (ap (sets_by (codes "vip")) sp.1) ∙ ap (λ w. ip_address_of (word_of w 2)) sp.1 ∙ sp.2)
found_by s (lines.Backend a) said later sp rest = rest ∙ sym (ap (λ b. address_in (cond b (Some s) (find (sets (codes "vip")) later))) (ap (sets_by (codes "vip")) sp.2))

found : (later : List Setting) → AreSaid balancer_lines later → virtual_address_by (said_by balancer_lines later) ≡ address_in (find (sets (codes "vip")) later)
found [] said = refl
found (s ∷ later) said = by (line_of s.words) refl (found later said.1)
  where
    by : (o : Option BalancerLine) → line_of s.words ≡ o → virtual_address_by (said_by balancer_lines later) ≡ address_in (find (sets (codes "vip")) later) →
        virtual_address_by (cons_option o (said_by balancer_lines later)) ≡ address_in (cond (sets (codes "vip") s) (Some s) (find (sets (codes "vip")) later))
    by None is rest = absurd (not_both (is_none (line_of s.words)) (ap is_none is) said.0)
    by (Some l) is rest = found_by s l (said_by balancer_lines later) later (spelled s.words l is) rest

there : (said : List BalancerLine) → list_any is_virtual_address said ≡ true → (a : IpAddr) × (virtual_address_by said ≡ Some a)
there [] h = absurd cc
there (lines.VirtualAddress a ∷ said) h = (a, refl)
there (lines.Backend a ∷ said) h = there said h

-- an address that is read as a number of either version
as_numbers : (line : ℕ) (o p : Option ℕ) → option_or (option_map ipv4_address o) (option_map ipv6_address p) ≡
    option_or (option_map (λ (v : ℕ × ℕ). ipv4_address v.1) (option_map (λ (n : ℕ). (line, n)) o)) (option_map (λ (v : ℕ × ℕ). ipv6_address v.1) (option_map (λ (n : ℕ). (line, n)) p))
as_numbers line None None = refl
as_numbers line None (Some n) = refl
as_numbers line (Some n) p = refl

as_value : (o : Option Setting) → address_in o ≡ option_or (option_map (λ (v : ℕ × ℕ). ipv4_address v.1) (option_and_then (lined address_of) o)) (option_map (λ (v : ℕ × ℕ). ipv6_address v.1) (option_and_then (lined address6_of) o))
as_value None = refl
as_value (Some s) = as_numbers s.line (address_of (word_of s.words 2)) (address6_of (word_of s.words 2))

virtual_made : (decl : FunctionDecl) → refused_line_of balancer_lines decl ≡ None → Some (unwrap_or (virtual_address_by (said_by balancer_lines decl.settings)) (ipv4_address 0)) ≡ read_virtual decl
virtual_made decl accepted =
    let said : List BalancerLine = said_by balancer_lines decl.settings in
    let is_there = there said (not_none (list_any is_virtual_address said) (neither (not (list_any is_virtual_address said)) (not (list_any is_backend said) || false) (none_lacking balancer_lines decl accepted)).0) in
    ap (λ o. Some (unwrap_or o (ipv4_address 0))) is_there.1
    ∙ sym is_there.1
    ∙ found decl.settings (all_said balancer_lines decl accepted)
    ∙ as_value (find (sets (codes "vip")) decl.settings)

pub virtual_read : (decl : FunctionDecl) → decl.kind ≡ kinds.Balancer → refused_line decl ≡ None → made_virtual (function_of decl) ≡ read_virtual decl
unfolding making_of
virtual_read decl is accepted = ap (λ kind. made_virtual ((making_of kind).made decl)) is ∙ virtual_made decl (subst (λ kind. (making_of kind).refused decl ≡ None) is accepted)
