-- How findings and rules are gathered, one thing after another.
use Rattle.std.proofs.Common.{◌≡◌, ◌<◌, ◌≤◌, ◌+◌, ◌∙◌, ℕ, List, [], ◌∷◌, ◌++◌, length, take, drop, get_or, map, Bool, refl, sym, ap, append_assoc, Some, None, true, false, arith}
use Rattle.std.specs.Prelude.{Option, filter_map, if◌then◌else◌}
use Rattle.std.specs.List.{cons_option, flat_map}
use Rattle.std.specs.Option.{option_to_list}
use Rattle.std.proofs.lemmas.Grind.{flat_map-append}
use Rattle.std.proofs.lemmas.List.{take_more, take_all, drop_more, drop_all, append-nil, length-take-le}
use Rattle.std.proofs.lemmas.List.Elements.{filter_map-append}
use Rattle.policy_text.specs.declared.policy.ChainPolicy.{ChainPolicy}
use Rattle.policy_text.specs.declared.policy.FunctionDecl.{FunctionDecl}
use Rattle.policy_check.specs.declared.fault.Order.{Order}
use Rattle.policy_lint.specs.declared.nats.NatLines.{NatLines}
use Rattle.policy_lint.specs.Behind.{is_at, told_unreached, unreached}
use Rattle.policy_lint.specs.Findings.{told_in, order_at, told_at}
use Rattle.policy_lint.specs.Firewalls.{drops_all}
use Rattle.policy_lint.specs.Nats.{nat_of, nats_of}
use Rattle.policy_lint.specs.declared.finding.Finding.{Finding}
use Rattle.policy_lint.specs.declared.rule_line.RuleLine.{RuleLine}
use Rattle.policy_lint.specs.Gathering.{gathered}
use Rattle.policy_lint.specs.Versions.{firewall_rules, all_rules}

-- one more thing behind the others
gathered_more : {T : Type 0} (gives : List T → T → List Finding) (before things : List T) (t : T) → gathered gives before (things ++ t ∷ []) ≡ gathered gives before things ++ gives (before ++ things) t
gathered_more gives before [] t = append-nil (gives before t) ∙ ap (λ b. gives b t) (sym (append-nil before))
gathered_more gives before (x ∷ things) t =
    ap (λ l. gives before x ++ l) (gathered_more gives (before ++ x ∷ []) things t)
    ∙ sym (append_assoc (gives before x) (gathered gives (before ++ x ∷ []) things) (gives ((before ++ x ∷ []) ++ things) t))
    ∙ ap (λ b. (gives before x ++ gathered gives (before ++ x ∷ []) things) ++ gives b t) (append_assoc before (x ∷ []) things)

-- what was found first, and of the things before this place
pub record AreGathered {T : Type 0} (gives : List T → T → List Finding) (things : List T) (first : List Finding) (count : ℕ) (found : List Finding) : Type 0 where
  pub so_far : found ≡ first ++ gathered gives [] (take count things)

pub begins : {T : Type 0} (gives : List T → T → List Finding) (things : List T) (first : List Finding) → AreGathered gives things first 0 first
begins gives things first = record { so_far = sym (append-nil first) }

pub goes_on : {T : Type 0} (gives : List T → T → List Finding) (things : List T) (first : List Finding) (i : ℕ) (found next : List Finding) (d t : T) → AreGathered gives things first i found → i < length things → t ≡ get_or things i d →
    next ≡ found ++ gives (take i things) t → AreGathered gives things first (i + 1) next
goes_on gives things first i found next d t so inside is more =
    let behind : take (i + 1) things ≡ take i things ++ t ∷ [] = take_more things i d inside ∙ ap (λ x. take i things ++ x ∷ []) (sym is) in
    record {
      so_far = more
          ∙ ap (λ l. l ++ gives (take i things) t) so.so_far
          ∙ append_assoc first (gathered gives [] (take i things)) (gives (take i things) t)
          ∙ ap (λ l. first ++ l) (sym (gathered_more gives [] (take i things) t))
          ∙ ap (λ l. first ++ gathered gives [] l) (sym behind);
    }

pub ends : {T : Type 0} (gives : List T → T → List Finding) (things : List T) (first : List Finding) (i : ℕ) (found : List Finding) → AreGathered gives things first i found → length things ≤ i → found ≡ first ++ gathered gives [] things
ends gives things first i found so past = so.so_far ∙ ap (λ l. first ++ gathered gives [] l) (take_all i things past)

-- what is kept of the things before this place, behind what was kept first
pub record AreKeptBehind {A B : Type 0} (keeps : A → Option B) (first : List B) (things : List A) (count : ℕ) (kept : List B) : Type 0 where
  pub so_far : kept ≡ first ++ filter_map keeps (take count things)

pub keeps_none : {A B : Type 0} (keeps : A → Option B) (first : List B) (things : List A) → AreKeptBehind keeps first things 0 first
keeps_none keeps first things = record { so_far = sym (append-nil first) }

one_kept : {B : Type 0} (o : Option B) → cons_option o [] ≡ option_to_list o
one_kept None = refl
one_kept (Some b) = refl

pub keeps_more : {A B : Type 0} (keeps : A → Option B) (first : List B) (things : List A) (i : ℕ) (kept next : List B) (d t : A) → AreKeptBehind keeps first things i kept → i < length things → t ≡ get_or things i d →
    next ≡ kept ++ option_to_list (keeps t) → AreKeptBehind keeps first things (i + 1) next
keeps_more keeps first things i kept next d t so inside is more =
    let behind : take (i + 1) things ≡ take i things ++ t ∷ [] = take_more things i d inside ∙ ap (λ x. take i things ++ x ∷ []) (sym is) in
    record {
      so_far = more
          ∙ ap (λ l. l ++ option_to_list (keeps t)) so.so_far
          ∙ append_assoc first (filter_map keeps (take i things)) (option_to_list (keeps t))
          ∙ ap (λ l. first ++ (filter_map keeps (take i things) ++ l)) (sym (one_kept (keeps t)))
          ∙ ap (λ l. first ++ l) (sym (filter_map-append keeps (take i things) (t ∷ [])))
          ∙ ap (λ l. first ++ filter_map keeps l) (sym behind);
    }

pub keeps_all : {A B : Type 0} (keeps : A → Option B) (first : List B) (things : List A) (i : ℕ) (kept : List B) → AreKeptBehind keeps first things i kept → length things ≤ i → kept ≡ first ++ filter_map keeps things
keeps_all keeps first things i kept so past = so.so_far ∙ ap (λ l. first ++ filter_map keeps l) (take_all i things past)

-- none of the functions before this place drops every packet, and nothing was found of them
pub record NoneYet (functions : List FunctionDecl) (order : List ℕ) (first : List Finding) (count : ℕ) (found : List Finding) : Type 0 where
  pub same : found ≡ first
  pub rest : unreached functions (drop count order) ≡ unreached functions order

pub none_first : (functions : List FunctionDecl) (order : List ℕ) (first : List Finding) → NoneYet functions order first 0 first
none_first functions order first = record { same = refl; rest = refl }

from_here : (functions : List FunctionDecl) (order : List ℕ) (i d : ℕ) → i < length order →
    unreached functions (drop i order) ≡ (if is_at drops_all functions (get_or order i d) then map (told_unreached functions (get_or order i d)) (drop (i + 1) order) else unreached functions (drop (i + 1) order))
from_here functions order i d inside = ap (unreached functions) (drop_more order i d inside)

pub none_more : (functions : List FunctionDecl) (order : List ℕ) (first : List Finding) (i d : ℕ) (found : List Finding) → NoneYet functions order first i found → i < length order →
    is_at drops_all functions (get_or order i d) ≡ false → NoneYet functions order first (i + 1) found
none_more functions order first i d found so inside passes = record {
  same = so.same;
  rest = sym (from_here functions order i d inside ∙ ap (λ b. if b then map (told_unreached functions (get_or order i d)) (drop (i + 1) order) else unreached functions (drop (i + 1) order)) passes) ∙ so.rest;
}

pub some_here : (functions : List FunctionDecl) (order : List ℕ) (first : List Finding) (i d : ℕ) (found next : List Finding) → NoneYet functions order first i found → i < length order →
    is_at drops_all functions (get_or order i d) ≡ true → next ≡ found ++ map (told_unreached functions (get_or order i d)) (drop (i + 1) order) → next ≡ first ++ unreached functions order
some_here functions order first i d found next so inside drops is =
    is
    ∙ ap (λ l. l ++ map (told_unreached functions (get_or order i d)) (drop (i + 1) order)) so.same
    ∙ ap (λ l. first ++ l) (sym (from_here functions order i d inside ∙ ap (λ b. if b then map (told_unreached functions (get_or order i d)) (drop (i + 1) order) else unreached functions (drop (i + 1) order)) drops) ∙ so.rest)

pub none_at_all : (functions : List FunctionDecl) (order : List ℕ) (first : List Finding) (i : ℕ) (found : List Finding) → NoneYet functions order first i found → length order ≤ i → found ≡ first ++ unreached functions order
none_at_all functions order first i found so past = so.same ∙ sym (append-nil first) ∙ ap (λ l. first ++ l) (ap (unreached functions) (sym (drop_all i order past)) ∙ so.rest)

-- the nats of one more chain
pub nats_more : (chains : List ChainPolicy) (i : ℕ) (d : ChainPolicy) (nats next : List NatLines) → nats ≡ nats_of (take i chains) → i < length chains →
    next ≡ nats ++ filter_map nat_of (get_or chains i d).functions → next ≡ nats_of (take (i + 1) chains)
nats_more chains i d nats next is inside more =
    more
    ∙ ap (λ l. l ++ filter_map nat_of (get_or chains i d).functions) is
    ∙ sym (filter_map-append nat_of (flat_map (λ c. c.functions) (take i chains)) (get_or chains i d).functions)
    ∙ ap (filter_map nat_of) (sym (flat_map-append (λ (c : ChainPolicy). c.functions) (take i chains) (get_or chains i d ∷ []) ∙ ap (λ l. flat_map (λ (c : ChainPolicy). c.functions) (take i chains) ++ l) (append-nil (get_or chains i d).functions)))
    ∙ ap nats_of (sym (take_more chains i d inside))

-- the rules of one more firewall
pub rules_more : (functions : List FunctionDecl) (i : ℕ) (d t : FunctionDecl) (rules next : List RuleLine) → rules ≡ all_rules (take i functions) → i < length functions → t ≡ get_or functions i d →
    next ≡ rules ++ firewall_rules t → next ≡ all_rules (take (i + 1) functions)
rules_more functions i d t rules next so inside is more =
    more
    ∙ ap (λ l. l ++ firewall_rules t) so
    ∙ ap (λ x. all_rules (take i functions) ++ firewall_rules x) is
    ∙ sym (flat_map-append firewall_rules (take i functions) (get_or functions i d ∷ []) ∙ ap (λ l. all_rules (take i functions) ++ l) (append-nil (firewall_rules (get_or functions i d))))
    ∙ ap all_rules (sym (take_more functions i d inside))

-- the order of the chain at this place is that of the chain behind those before it
pub told_here : (cuts : List Bool) (orders : List Order) (chains : List ChainPolicy) (chain : ChainPolicy) (order : List ℕ) (i : ℕ) → i < length chains → order ≡ order_at orders i → told_in cuts order (take i chains) chain ≡ told_at cuts orders (take i chains) chain
told_here cuts orders chains chain order i inside is = ap (λ o. told_in cuts o (take i chains) chain) (is ∙ ap (order_at orders) (sym (length-take-le i chains (omega arith))))

-- two maps, one after the other
pub map_twice : {A B C : Type 0} (f : B → C) (g : A → B) (xs : List A) → map (λ x. f (g x)) xs ≡ map f (map g xs)
map_twice f g [] = refl
map_twice f g (x ∷ xs) = ap (λ l. f (g x) ∷ l) (map_twice f g xs)
