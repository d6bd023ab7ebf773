-- Each line that has a role which decides in its kind is listed.
use Rattle.std.proofs.Common.{◌≡◌, ◌<◌, ℕ, suc, zero, List, [], ◌∷◌, ◌++◌, map, filter, length, get_or, refl, subst, Bool, true, false, ◌||◌, cond, arith}
use Rattle.std.specs.Prelude.{Option, Some, None, is_some, is_none, find}
use Rattle.std.specs.List.{Contains}
use Rattle.std.specs.Option.{option_map, unwrap_or}
use Rattle.std.proofs.lemmas.List.{length-map}
use Rattle.std.proofs.lemmas.Bool.{ltb-true}
use Rattle.action_profile.specs.declared.kind.Kind.{Kind}
use Rattle.action_profile.specs.declared.kind.Kind.TheVariants.{Firewall, Signature, Nat, Balancer, Monitor, Limiter, Marker, Nexthop, Hop, Redactor, Tagger, Untagger, Encap, Decap}
use Rattle.policy_text.specs.declared.policy.FunctionDecl.{FunctionDecl}
use Rattle.policy_text.specs.declared.policy.Setting.{Setting}
use Rattle.packet_function.specs.declared.deciding.DecidingLine.{DecidingLine}
use Rattle.packet_function.specs.declared.deciding.DecidingLine.TheVariants.{Rule, Set, Declaration}
use Rattle.packet_function.specs.declared.deciding.SettingKey.{SettingKey}
use Rattle.packet_function.specs.declared.deciding.SettingKey.TheVariants.{Default, Inside, Public, Ports, Rate}
use Rattle.declared_lines.specs.DeclaredLines.{is_rule, sets, rule_lines, set_line, number_of, can_decide, deciders}
use Rattle.declared_lines.specs.Roles.{uses, has_line}

abbrev line_of : Setting → ℕ
line_of s = s.line

at_head : (x : ℕ) (xs : List ℕ) → Contains (x ∷ xs) x
at_head x xs = (0, omega arith, refl)

behind_one : (x y : ℕ) (xs : List ℕ) → Contains xs y → Contains (x ∷ xs) y
behind_one x y xs (k, inside, is) = (suc k, omega arith, is)

behind : (xs ys : List ℕ) (y : ℕ) → Contains ys y → Contains (xs ++ ys) y
behind [] ys y h = h
behind (x ∷ xs) ys y h = behind_one x y (xs ++ ys) (behind xs ys y h)

-- a line of some kind is among the kept lines, which are all of this kind and more
kept_step : (b c : Bool) → (c ≡ true → b ≡ true) → (s : Setting) (ps qs : List Setting) (place d : ℕ) → place < length (cond c (s ∷ qs) qs)
    → ((n : ℕ) → n < length qs → Contains (map line_of ps) (get_or (map line_of qs) n d))
    → Contains (map line_of (cond b (s ∷ ps) ps)) (get_or (map line_of (cond c (s ∷ qs) qs)) place d)
kept_step true true sub s ps qs zero d inside later = at_head s.line (map line_of ps)
kept_step true true sub s ps qs (suc n) d inside later = behind_one s.line (get_or (map line_of qs) n d) (map line_of ps) (later n (omega arith))
kept_step true false sub s ps qs place d inside later = behind_one s.line (get_or (map line_of qs) place d) (map line_of ps) (later place inside)
kept_step false true sub s ps qs place d inside later = let wrong : false ≡ true = sub refl in cc
kept_step false false sub s ps qs place d inside later = later place inside

kept : (p q : Setting → Bool) → ((s : Setting) → q s ≡ true → p s ≡ true) → (settings : List Setting) (place d : ℕ) → place < length (filter q settings)
    → Contains (map line_of (filter p settings)) (get_or (map line_of (filter q settings)) place d)
kept p q sub [] place d inside = absurd (omega arith)
kept p q sub (s ∷ settings) place d inside = kept_step (p s) (q s) (sub s) s (filter p settings) (filter q settings) place d inside (λ n lt. kept p q sub settings n d lt)

first_step : (b c : Bool) → (c ≡ true → b ≡ true) → (s : Setting) (ps : List Setting) (found : Option Setting) (d : ℕ) → is_some (option_map line_of (cond c (Some s) found)) ≡ true
    → (is_some (option_map line_of found) ≡ true → Contains (map line_of ps) (unwrap_or (option_map line_of found) d))
    → Contains (map line_of (cond b (s ∷ ps) ps)) (unwrap_or (option_map line_of (cond c (Some s) found)) d)
first_step true true sub s ps found d there later = at_head s.line (map line_of ps)
first_step true false sub s ps found d there later = behind_one s.line (unwrap_or (option_map line_of found) d) (map line_of ps) (later there)
first_step false true sub s ps found d there later = let wrong : false ≡ true = sub refl in cc
first_step false false sub s ps found d there later = later there

first_kept : (p q : Setting → Bool) → ((s : Setting) → q s ≡ true → p s ≡ true) → (settings : List Setting) (d : ℕ) → is_some (option_map line_of (find q settings)) ≡ true
    → Contains (map line_of (filter p settings)) (unwrap_or (option_map line_of (find q settings)) d)
first_kept p q sub [] d there = let wrong : false ≡ true = there in cc
first_kept p q sub (s ∷ settings) d there = first_step (p s) (q s) (sub s) s (filter p settings) (find q settings) d there (λ is. first_kept p q sub settings d is)

-- the `fn` line stands for a `set` line that isn't there
stood_for : (found : Option ℕ) (line : ℕ) (lines : List ℕ) → (is_some found ≡ true → Contains lines (unwrap_or found line)) → Contains (line ∷ lines) (unwrap_or found line)
stood_for None line lines h = at_head line lines
stood_for (Some n) line lines h = behind_one line n lines (h refl)

default_stood_for : (found : Option ℕ) (line : ℕ) (lines : List ℕ) → (is_some found ≡ true → Contains lines (unwrap_or found line))
    → Contains (cond (is_none found) (line ∷ []) [] ++ lines) (unwrap_or found line)
default_stood_for None line lines h = at_head line lines
default_stood_for (Some n) line lines h = h refl

or_first : (a b : Bool) → a ≡ true → (a || b) ≡ true
or_first true b h = refl
or_first false b h = let wrong : false ≡ true = h in cc

or_second : (a b : Bool) → b ≡ true → (a || b) ≡ true
or_second true b h = refl
or_second false b h = h

or_none : (a : Bool) → (a || false) ≡ true → a ≡ true
or_none true h = refl
or_none false h = h

below_rules : (decl : FunctionDecl) (place : ℕ) → has_line decl (Rule place) ≡ true → place < length (filter is_rule decl.settings)
below_rules decl place there = subst (λ (n : ℕ). place < n) (length-map (filter is_rule decl.settings) line_of) (ltb-true place (length (rule_lines decl)) there)

rules_kept : (decl : FunctionDecl) (p : Setting → Bool) (place : ℕ) → ((s : Setting) → is_rule s ≡ true → p s ≡ true) → has_line decl (Rule place) ≡ true
    → Contains (map line_of (filter p decl.settings)) (number_of decl (Rule place))
rules_kept decl p place sub there = kept p is_rule sub decl.settings place decl.line (below_rules decl place there)

rules_alone : (decl : FunctionDecl) (place : ℕ) → has_line decl (Rule place) ≡ true → Contains (map line_of (filter is_rule decl.settings)) (number_of decl (Rule place))
rules_alone decl place there = rules_kept decl is_rule place (λ s is. is) there

key_kept : (decl : FunctionDecl) (p : Setting → Bool) (key : SettingKey) → ((s : Setting) → sets key s ≡ true → p s ≡ true) → is_some (set_line decl key) ≡ true
    → Contains (map line_of (filter p decl.settings)) (number_of decl (Set key))
key_kept decl p key sub there = first_kept p (sets key) sub decl.settings decl.line there

-- a role that no line of the kind has
unused : {A : Type 0} → false ≡ true → A
unused h = absurd cc

-- a line that has a role which decides in this kind is listed
abbrev Listed : Kind → FunctionDecl → DecidingLine → Type 0
Listed kind decl line =
    uses kind line ≡ true → has_line (record decl { kind = kind }) line ≡ true
    → Contains (deciders (record decl { kind = kind })) (number_of (record decl { kind = kind }) line)

of_firewall : (decl : FunctionDecl) (line : DecidingLine) → Listed Firewall decl line
of_firewall decl (Rule place) = λ used there.
    behind (cond (is_none (set_line decl Default)) (decl.line ∷ []) []) (map line_of (filter (can_decide Firewall) decl.settings)) (number_of decl (Rule place))
    (rules_kept decl (can_decide Firewall) place (λ s is. or_first (is_rule s) (sets Default s) is) there)
of_firewall decl (Set Default) = λ used there.
    default_stood_for (set_line decl Default) decl.line (map line_of (filter (can_decide Firewall) decl.settings))
    (λ is. key_kept decl (can_decide Firewall) Default (λ s is. or_second (is_rule s) (sets Default s) is) is)
of_firewall decl (Set Inside) = λ used there. unused used
of_firewall decl (Set Public) = λ used there. unused used
of_firewall decl (Set Ports) = λ used there. unused used
of_firewall decl (Set Rate) = λ used there. unused used
of_firewall decl Declaration = λ used there. unused used

of_nat : (decl : FunctionDecl) (line : DecidingLine) → Listed Nat decl line
of_nat decl (Rule place) = λ used there. unused used
of_nat decl (Set Default) = λ used there. unused used
of_nat decl (Set Inside) = λ used there.
    stood_for (set_line decl Inside) decl.line (map line_of (filter (can_decide Nat) decl.settings))
    (λ is. key_kept decl (can_decide Nat) Inside (λ s is. or_first (sets Inside s || sets Public s) (sets Ports s) (or_first (sets Inside s) (sets Public s) is)) is)
of_nat decl (Set Public) = λ used there.
    stood_for (set_line decl Public) decl.line (map line_of (filter (can_decide Nat) decl.settings))
    (λ is. key_kept decl (can_decide Nat) Public (λ s is. or_first (sets Inside s || sets Public s) (sets Ports s) (or_second (sets Inside s) (sets Public s) is)) is)
of_nat decl (Set Ports) = λ used there.
    stood_for (set_line decl Ports) decl.line (map line_of (filter (can_decide Nat) decl.settings))
    (λ is. key_kept decl (can_decide Nat) Ports (λ s is. or_second (sets Inside s || sets Public s) (sets Ports s) is) is)
of_nat decl (Set Rate) = λ used there. unused used
of_nat decl Declaration = λ used there. at_head decl.line (map line_of (filter (can_decide Nat) decl.settings))

of_limiter : (decl : FunctionDecl) (line : DecidingLine) → Listed Limiter decl line
of_limiter decl (Set Rate) = λ used there. key_kept decl (sets Rate) Rate (λ s is. is) (or_none (is_some (set_line decl Rate)) there)
of_limiter decl (Set Default) = λ used there. unused used
of_limiter decl (Set Inside) = λ used there. unused used
of_limiter decl (Set Public) = λ used there. unused used
of_limiter decl (Set Ports) = λ used there. unused used
of_limiter decl (Rule place) = λ used there. unused used
of_limiter decl Declaration = λ used there. unused used

-- a kind in which rules alone decide
of_rules : (decl : FunctionDecl) (line : DecidingLine) → uses Signature line ≡ true → has_line decl line ≡ true → Contains (map line_of (filter is_rule decl.settings)) (number_of decl line)
of_rules decl (Rule place) used there = rules_alone decl place there
of_rules decl (Set key) used there = unused used
of_rules decl Declaration used there = unused used

of_hop : (decl : FunctionDecl) (line : DecidingLine) → uses Hop line ≡ true → Contains (deciders (record decl { kind = Hop })) (number_of decl line)
of_hop decl (Rule place) used = unused used
of_hop decl (Set key) used = unused used
of_hop decl Declaration used = at_head decl.line (map line_of (filter (can_decide Hop) decl.settings))

of_kind : (decl : FunctionDecl) (kind : Kind) (line : DecidingLine) → Listed kind decl line
of_kind decl Firewall line = λ used there. of_firewall decl line used there
of_kind decl Signature line = λ used there. of_rules (record decl { kind = Signature }) line used there
of_kind decl Nat line = λ used there. of_nat decl line used there
of_kind decl Balancer line = λ used there. of_rules (record decl { kind = Balancer }) line used there
of_kind decl Monitor line = λ used there. unused used
of_kind decl Limiter line = λ used there. of_limiter decl line used there
of_kind decl Marker line = λ used there. of_rules (record decl { kind = Marker }) line used there
of_kind decl Nexthop line = λ used there. of_rules (record decl { kind = Nexthop }) line used there
of_kind decl Hop line = λ used there. of_hop decl line used
of_kind decl Redactor line = λ used there. of_rules (record decl { kind = Redactor }) line used there
of_kind decl Tagger line = λ used there. of_rules (record decl { kind = Tagger }) line used there
of_kind decl Untagger line = λ used there. unused used
of_kind decl Encap line = λ used there. unused used
of_kind decl Decap line = λ used there. unused used

pub each_role : (decl : FunctionDecl) (line : DecidingLine) → uses decl.kind line ≡ true → has_line decl line ≡ true → Contains (deciders decl) (number_of decl line)
each_role decl line used there = of_kind decl decl.kind line used there
