-- A translation's lines, as findings read them and as translations are made of them.
use Rattle.std.proofs.Common.{◌≡◌, ◌∙◌, ℕ, List, [], ◌∷◌, Bool, true, false, refl, sym, ap, subst, Some, None}
use Rattle.std.specs.Prelude.{◌&&◌, ◌||◌, ◌==◌, not, Option, is_some, find, codes, unwrap_or, if◌then◌else◌}
use Rattle.std.specs.List.{list_any}
use Rattle.std.specs.Option.{option_map, option_map_or, option_and_then}
use Rattle.std.specs.Str.{bytes_eq}
use Rattle.std.proofs.lemmas.Slice.Eq.{bytes_eq-Decides}
use Rattle.action_profile.specs.declared.kind.Kind.TheVariants as kinds
use Rattle.policy_text.specs.Values.{address_of, prefix_of, range_of}
use Rattle.policy_text.specs.declared.policy.FunctionDecl.{FunctionDecl}
use Rattle.function_lines.specs.KindLines.{said_by, refused_line}
use Rattle.nf_translate.specs.declared.nat.NatSettings.{NatSettings}
use Rattle.nf_translate.specs.declared.nat_lines.NatLine.{NatLine}
use Rattle.nf_translate.specs.declared.nat_lines.NatLine.TheVariants as lines
use Rattle.nf_translate.specs.NatLines.{nat_lines, has_dash, ports_of, value_of as made_value, line_of, is_inside, is_public, is_ports}
use Rattle.nf_translate.specs.Nats.{no_settings, with_line, settings_by, nat_of as made_nat}
use Rattle.policy_lint.specs.declared.nats.NatLines.{NatLines}
use Rattle.policy_lint.specs.Nats.{sets, lined, is_nat, nat_by, nat_of}
use Rattle.policy_lint.specs.Rules.{word_of}
use Rattle.lint_laws.specs.Reading.{read_nat}
use Rattle.lint_laws.proofs.Accepted.{neither, all_said, all_new, none_lacking}
use Rattle.lint_laws.proofs.Keyed.{IsKey, value_made, value_there}
use Rattle.lint_laws.proofs.SetLines.{words_of, same_words, sets_by, value_by, any_same, not_none}

-- How each line is spelled.
abbrev IsSpelled : List (List ℕ) → NatLine → Type 0
IsSpelled words (lines.Inside prefix bits) = (text : List ℕ) × (words ≡ words_of (codes "inside") text) × (prefix_of text ≡ Some (prefix, bits))
IsSpelled words (lines.Public address) = (text : List ℕ) × (words ≡ words_of (codes "public") text) × (address_of text ≡ Some address)
IsSpelled words (lines.Ports low high) = (text : List ℕ) × (words ≡ words_of (codes "ports") text) × (range_of text ≡ Some (low, high))

inside_spelled : (words : List (List ℕ)) (text : List ℕ) (l : NatLine) (o : Option (ℕ × ℕ)) → words ≡ words_of (codes "inside") text → prefix_of text ≡ o → option_map (λ p. lines.Inside p.0 p.1) o ≡ Some l → IsSpelled words l
inside_spelled words text l None w e h = absurd cc
inside_spelled words text l (Some p) w e h = let same : lines.Inside p.0 p.1 ≡ l = cc in subst (IsSpelled words) same (text, w, e)

public_spelled : (words : List (List ℕ)) (text : List ℕ) (l : NatLine) (o : Option ℕ) → words ≡ words_of (codes "public") text → address_of text ≡ o → option_map (λ a. lines.Public a) o ≡ Some l → IsSpelled words l
public_spelled words text l None w e h = absurd cc
public_spelled words text l (Some a) w e h = let same : lines.Public a ≡ l = cc in subst (IsSpelled words) same (text, w, e)

range_spelled : (words : List (List ℕ)) (text : List ℕ) (l : NatLine) (p : ℕ × ℕ) (zero : Bool) → words ≡ words_of (codes "ports") text → range_of text ≡ Some p → (if zero then None else Some (lines.Ports p.0 p.1)) ≡ Some l → IsSpelled words l
range_spelled words text l p true w e h = absurd cc
range_spelled words text l p false w e h = let same : lines.Ports p.0 p.1 ≡ l = cc in subst (IsSpelled words) same (text, w, e)

ports_spelled : (words : List (List ℕ)) (text : List ℕ) (l : NatLine) (dash : Bool) (o : Option (ℕ × ℕ)) → words ≡ words_of (codes "ports") text → range_of text ≡ o →
    (if dash then option_and_then (λ p. if p.0 == 0 then None else Some (lines.Ports p.0 p.1)) o else None) ≡ Some l → IsSpelled words l
ports_spelled words text l false o w e h = absurd cc
ports_spelled words text l true None w e h = absurd cc
ports_spelled words text l true (Some p) w e h = range_spelled words text l p (p.0 == 0) w e h

key_spelled : (lead key text : List ℕ) (l : NatLine) (i p q : Bool) → lead ≡ codes "set" → bytes_eq key (codes "inside") ≡ i → bytes_eq key (codes "public") ≡ p → bytes_eq key (codes "ports") ≡ q →
    (if i then option_map (λ v. lines.Inside v.0 v.1) (prefix_of text) else (if p then option_map (λ a. lines.Public a) (address_of text) else (if q then ports_of text else None))) ≡ Some l → IsSpelled (lead ∷ key ∷ text ∷ []) l
key_spelled lead key text l true p q s ei ep eq h = inside_spelled (lead ∷ key ∷ text ∷ []) text l (prefix_of text) (same_words lead key text (codes "inside") s ((bytes_eq-Decides key (codes "inside")).0 ei)) refl h
key_spelled lead key text l false true q s ei ep eq h = public_spelled (lead ∷ key ∷ text ∷ []) text l (address_of text) (same_words lead key text (codes "public") s ((bytes_eq-Decides key (codes "public")).0 ep)) refl h
key_spelled lead key text l false false true s ei ep eq h = ports_spelled (lead ∷ key ∷ text ∷ []) text l (has_dash text) (range_of text) (same_words lead key text (codes "ports") s ((bytes_eq-Decides key (codes "ports")).0 eq)) refl h
key_spelled lead key text l false false false s ei ep eq h = absurd cc

lead_spelled : (lead key text : List ℕ) (l : NatLine) (s : Bool) → bytes_eq lead (codes "set") ≡ s → (if s then made_value key text else None) ≡ Some l → IsSpelled (lead ∷ key ∷ text ∷ []) l
lead_spelled lead key text l true e h = key_spelled lead key text l (bytes_eq key (codes "inside")) (bytes_eq key (codes "public")) (bytes_eq key (codes "ports")) ((bytes_eq-Decides lead (codes "set")).0 e) refl refl refl h
lead_spelled lead key text l false e h = absurd cc

spelled : (words : List (List ℕ)) (l : NatLine) → line_of words ≡ Some l → IsSpelled words l
unfolding line_of
spelled [] l h = absurd cc
spelled (lead ∷ []) l h = absurd cc
spelled (lead ∷ key ∷ []) l h = absurd cc
spelled (lead ∷ key ∷ text ∷ []) l h = lead_spelled lead key text l (bytes_eq lead (codes "set")) refl h
spelled (lead ∷ key ∷ text ∷ more ∷ words) l h = absurd cc

-- The three keys.
abbrev inside_in : NatLine → Option (ℕ × ℕ)
inside_in (lines.Inside prefix bits) = Some (prefix, bits)
inside_in l = None

abbrev public_in : NatLine → Option ℕ
public_in (lines.Public address) = Some address
public_in l = None

abbrev ports_in : NatLine → Option (ℕ × ℕ)
ports_in (lines.Ports low high) = Some (low, high)
ports_in l = None

inside_set : (words : List (List ℕ)) (l : NatLine) → IsSpelled words l → (sets_by (codes "inside") words ≡ is_some (inside_in l)) × (inside_in l ≡ value_by prefix_of (codes "inside") words)
inside_set words (lines.Inside prefix bits) sp = (ap (sets_by (codes "inside")) sp.1, sym (ap (value_by prefix_of (codes "inside")) sp.1 ∙ sp.2))
inside_set words (lines.Public address) sp = (ap (sets_by (codes "inside")) sp.1, sym (ap (value_by prefix_of (codes "inside")) sp.1))
inside_set words (lines.Ports low high) sp = (ap (sets_by (codes "inside")) sp.1, sym (ap (value_by prefix_of (codes "inside")) sp.1))

public_set : (words : List (List ℕ)) (l : NatLine) → IsSpelled words l → (sets_by (codes "public") words ≡ is_some (public_in l)) × (public_in l ≡ value_by address_of (codes "public") words)
public_set words (lines.Inside prefix bits) sp = (ap (sets_by (codes "public")) sp.1, sym (ap (value_by address_of (codes "public")) sp.1))
public_set words (lines.Public address) sp = (ap (sets_by (codes "public")) sp.1, sym (ap (value_by address_of (codes "public")) sp.1 ∙ sp.2))
public_set words (lines.Ports low high) sp = (ap (sets_by (codes "public")) sp.1, sym (ap (value_by address_of (codes "public")) sp.1))

ports_set : (words : List (List ℕ)) (l : NatLine) → IsSpelled words l → (sets_by (codes "ports") words ≡ is_some (ports_in l)) × (ports_in l ≡ value_by range_of (codes "ports") words)
ports_set words (lines.Inside prefix bits) sp = (ap (sets_by (codes "ports")) sp.1, sym (ap (value_by range_of (codes "ports")) sp.1))
ports_set words (lines.Public address) sp = (ap (sets_by (codes "ports")) sp.1, sym (ap (value_by range_of (codes "ports")) sp.1))
ports_set words (lines.Ports low high) sp = (ap (sets_by (codes "ports")) sp.1, sym (ap (value_by range_of (codes "ports")) sp.1 ∙ sp.2))

abbrev inside_at : NatSettings → ℕ × ℕ
inside_at s = (s.inside, s.inside_bits)

abbrev ports_at : NatSettings → ℕ × ℕ
ports_at s = (s.low, s.high)

inside_taken : (s : NatSettings) (l : NatLine) → inside_at (with_line s l) ≡ unwrap_or (inside_in l) (inside_at s)
inside_taken s (lines.Inside prefix bits) = refl
inside_taken s (lines.Public address) = refl
inside_taken s (lines.Ports low high) = refl

public_taken : (s : NatSettings) (l : NatLine) → (with_line s l).public_address ≡ unwrap_or (public_in l) s.public_address
public_taken s (lines.Inside prefix bits) = refl
public_taken s (lines.Public address) = refl
public_taken s (lines.Ports low high) = refl

ports_taken : (s : NatSettings) (l : NatLine) → ports_at (with_line s l) ≡ unwrap_or (ports_in l) (ports_at s)
ports_taken s (lines.Inside prefix bits) = refl
ports_taken s (lines.Public address) = refl
ports_taken s (lines.Ports low high) = refl

inside_key : IsKey nat_lines with_line prefix_of (codes "inside") inside_in inside_at
inside_key = record { taken = inside_taken; is_set = λ s l is. (inside_set s.words l (spelled s.words l is)).0; is_read = λ s l is. (inside_set s.words l (spelled s.words l is)).1 }

public_key : IsKey nat_lines with_line address_of (codes "public") public_in (λ (s : NatSettings). s.public_address)
public_key = record { taken = public_taken; is_set = λ s l is. (public_set s.words l (spelled s.words l is)).0; is_read = λ s l is. (public_set s.words l (spelled s.words l is)).1 }

ports_key : IsKey nat_lines with_line range_of (codes "ports") ports_in ports_at
ports_key = record { taken = ports_taken; is_set = λ s l is. (ports_set s.words l (spelled s.words l is)).0; is_read = λ s l is. (ports_set s.words l (spelled s.words l is)).1 }

-- All lines.
inside_same : (l : NatLine) → is_inside l ≡ is_some (inside_in l)
inside_same (lines.Inside prefix bits) = refl
inside_same (lines.Public address) = refl
inside_same (lines.Ports low high) = refl

public_same : (l : NatLine) → is_public l ≡ is_some (public_in l)
public_same (lines.Inside prefix bits) = refl
public_same (lines.Public address) = refl
public_same (lines.Ports low high) = refl

ports_same : (l : NatLine) → is_ports l ≡ is_some (ports_in l)
ports_same (lines.Inside prefix bits) = refl
ports_same (lines.Public address) = refl
ports_same (lines.Ports low high) = refl

settings_same : (s : NatSettings) (i : ℕ × ℕ) (p : ℕ) (r : ℕ × ℕ) → inside_at s ≡ i → s.public_address ≡ p → ports_at s ≡ r →
    s ≡ record { inside = i.0; inside_bits = i.1; public_address = p; low = r.0; high = r.1 }
settings_same s i p r ei ep er =
    ap (λ (x : ℕ × ℕ). record { inside = x.0; inside_bits = x.1; public_address = s.public_address; low = s.low; high = s.high }) ei
    ∙ ap (λ (x : ℕ). record { inside = i.0; inside_bits = i.1; public_address = x; low = s.low; high = s.high }) ep
    ∙ ap (λ (x : ℕ × ℕ). record { inside = i.0; inside_bits = i.1; public_address = p; low = x.0; high = x.1 }) er

module _ (decl : FunctionDecl) (accepted : refused_line nat_lines decl ≡ None) where
  abbrev said : List NatLine
  said = said_by nat_lines decl.settings

  lacking : (not (list_any is_inside said) ≡ false) × (not (list_any is_public said) ≡ false) × (not (list_any is_ports said) ≡ false)
  lacking =
      let first = neither (not (list_any is_inside said)) (not (list_any is_public said) || (not (list_any is_ports said) || false)) (none_lacking nat_lines decl accepted) in
      let second = neither (not (list_any is_public said)) (not (list_any is_ports said) || false) first.1 in
      (first.0, second.0, (neither (not (list_any is_ports said)) false second.1).0)

  -- the line of a key, read
  abbrev read_at : {V : Type 0} → (List ℕ → Option V) → List ℕ → Option (ℕ × V)
  read_at read key = option_and_then (lined read) (find (sets key) decl.settings)

  inside_there : (v : ℕ × (ℕ × ℕ)) × (read_at prefix_of (codes "inside") ≡ Some v)
  inside_there = value_there nat_lines with_line prefix_of (codes "inside") inside_in inside_at inside_key decl.settings (all_said nat_lines decl accepted)
      (sym (any_same is_inside (λ l. is_some (inside_in l)) inside_same said) ∙ not_none (list_any is_inside said) lacking.0)

  public_there : (v : ℕ × ℕ) × (read_at address_of (codes "public") ≡ Some v)
  public_there = value_there nat_lines with_line address_of (codes "public") public_in (λ (s : NatSettings). s.public_address) public_key decl.settings (all_said nat_lines decl accepted)
      (sym (any_same is_public (λ l. is_some (public_in l)) public_same said) ∙ not_none (list_any is_public said) lacking.1)

  ports_there : (v : ℕ × (ℕ × ℕ)) × (read_at range_of (codes "ports") ≡ Some v)
  ports_there = value_there nat_lines with_line range_of (codes "ports") ports_in ports_at ports_key decl.settings (all_said nat_lines decl accepted)
      (sym (any_same is_ports (λ l. is_some (ports_in l)) ports_same said) ∙ not_none (list_any is_ports said) lacking.2)

  abbrev made : NatSettings
  made = settings_by said

  inside_made : inside_at made ≡ inside_there.0.1
  inside_made = value_made nat_lines with_line prefix_of (codes "inside") inside_in inside_at inside_key no_settings [] decl.settings (all_new nat_lines decl accepted)
      ∙ ap (λ o. option_map_or (λ (v : ℕ × (ℕ × ℕ)). v.1) o (inside_at no_settings)) inside_there.1

  public_made : made.public_address ≡ public_there.0.1
  public_made = value_made nat_lines with_line address_of (codes "public") public_in (λ (s : NatSettings). s.public_address) public_key no_settings [] decl.settings (all_new nat_lines decl accepted)
      ∙ ap (λ o. option_map_or (λ (v : ℕ × ℕ). v.1) o 0) public_there.1

  ports_made : ports_at made ≡ ports_there.0.1
  ports_made = value_made nat_lines with_line range_of (codes "ports") ports_in ports_at ports_key no_settings [] decl.settings (all_new nat_lines decl accepted)
      ∙ ap (λ o. option_map_or (λ (v : ℕ × (ℕ × ℕ)). v.1) o (ports_at no_settings)) ports_there.1

  abbrev read : Option NatLines
  read = nat_by (read_at prefix_of (codes "inside")) (read_at address_of (codes "public")) (read_at range_of (codes "ports"))

  pub nat_read : decl.kind ≡ kinds.Nat → option_map read_nat (nat_of decl) ≡ Some (made_nat decl)
  nat_read is =
      ap (λ kind. option_map read_nat (if is_nat kind then read else None)) is
      ∙ ap (λ o. option_map read_nat (nat_by o (read_at address_of (codes "public")) (read_at range_of (codes "ports")))) inside_there.1
      ∙ ap (λ o. option_map read_nat (nat_by (Some inside_there.0) o (read_at range_of (codes "ports")))) public_there.1
      ∙ ap (λ o. option_map read_nat (nat_by (Some inside_there.0) (Some public_there.0) o)) ports_there.1
      ∙ ap (λ s. Some (record { settings = s; mappings = [] })) (sym (settings_same made inside_there.0.1 public_there.0.1 ports_there.0.1 inside_made public_made ports_made))
