-- The ends of a tunnel, as findings read them and as entries are made of them.
use Rattle.std.proofs.Common.{◌≡◌, ◌∙◌, ℕ, List, [], ◌∷◌, Bool, true, false, refl, sym, ap, subst, Some, None}
use Rattle.std.specs.Prelude.{◌&&◌, ◌||◌, not, Option, is_some, find, codes, unwrap_or, if◌then◌else◌}
use Rattle.std.specs.List.{list_any}
use Rattle.std.specs.Option.{option_map, option_map_or, option_and_then}
use Rattle.std.specs.Str.{bytes_eq}
use Rattle.std.specs.declared.net.ipv4_addr.Ipv4Addr.{Ipv4Addr}
use Rattle.std.proofs.lemmas.Slice.Eq.{bytes_eq-Decides}
use Rattle.action_profile.specs.declared.kind.Kind.TheVariants as kinds
use Rattle.policy_text.specs.Values.{address_of}
use Rattle.policy_text.specs.declared.policy.FunctionDecl.{FunctionDecl}
use Rattle.policy_text.specs.declared.policy.Setting.{Setting}
use Rattle.function_lines.specs.KindLines.{said_by, refused_line as refused_line_of}
use Rattle.nf_tunnel.specs.declared.encap.Encap.{Encap}
use Rattle.nf_tunnel.specs.declared.encap.lines.EntryLine.{EntryLine}
use Rattle.nf_tunnel.specs.declared.encap.lines.EntryLine.TheVariants as entries
use Rattle.nf_tunnel.specs.Ends.{unset_encap, with_entry_line, encap_by}
use Rattle.nf_tunnel.specs.TunnelLines.{ipv4_address, address_by, ttl_of, entry_setting_of, entry_line_of, entry_lines, is_entry, is_entry_exit, is_ttl}
use Rattle.net_functions.specs.Builds.{making_of, function_of, refused_line}
use Rattle.policy_lint.specs.Nats.{sets, lined, value_of}
use Rattle.policy_lint.specs.Rules.{word_of}
use Rattle.lint_laws.specs.Made.{made_entry, made_exit}
use Rattle.lint_laws.proofs.Accepted.{neither, all_said, all_new, none_lacking}
use Rattle.lint_laws.proofs.Keyed.{IsKey, value_made, value_there}
use Rattle.lint_laws.proofs.SetLines.{words_of, same_words, sets_by, value_by, any_same, not_none}

abbrev IsSpelled : List (List ℕ) → EntryLine → Type 0
IsSpelled words (entries.Entry a) = (text : List ℕ) × (words ≡ words_of (codes "entry") text) × (address_by text ≡ Some a)
IsSpelled words (entries.Exit a) = (text : List ℕ) × (words ≡ words_of (codes "exit") text) × (address_by text ≡ Some a)
IsSpelled words (entries.Ttl n) = (text : List ℕ) × (words ≡ words_of (codes "ttl") text)

entry_spelled : (words : List (List ℕ)) (text : List ℕ) (l : EntryLine) (o : Option Ipv4Addr) → words ≡ words_of (codes "entry") text → address_by text ≡ o → option_map (λ a. entries.Entry a) o ≡ Some l → IsSpelled words l
entry_spelled words text l None w e h = absurd cc
entry_spelled words text l (Some a) w e h = let same : entries.Entry a ≡ l = cc in subst (IsSpelled words) same (text, w, e)

exit_spelled : (words : List (List ℕ)) (text : List ℕ) (l : EntryLine) (o : Option Ipv4Addr) → words ≡ words_of (codes "exit") text → address_by text ≡ o → option_map (λ a. entries.Exit a) o ≡ Some l → IsSpelled words l
exit_spelled words text l None w e h = absurd cc
exit_spelled words text l (Some a) w e h = let same : entries.Exit a ≡ l = cc in subst (IsSpelled words) same (text, w, e)

ttl_spelled : (words : List (List ℕ)) (text : List ℕ) (l : EntryLine) (o : Option ℕ) → words ≡ words_of (codes "ttl") text → option_map (λ n. entries.Ttl n) o ≡ Some l → IsSpelled words l
ttl_spelled words text l None w h = absurd cc
ttl_spelled words text l (Some n) w h = let same : entries.Ttl n ≡ l = cc in subst (IsSpelled words) same (text, w)

key_spelled : (lead key text : List ℕ) (l : EntryLine) (e x t : Bool) → lead ≡ codes "set" → bytes_eq key (codes "entry") ≡ e → bytes_eq key (codes "exit") ≡ x → bytes_eq key (codes "ttl") ≡ t →
    (if e then option_map (λ a. entries.Entry a) (address_by text) else (if x then option_map (λ a. entries.Exit a) (address_by text) else (if t then option_map (λ n. entries.Ttl n) (ttl_of text) else None))) ≡ Some l →
    IsSpelled (lead ∷ key ∷ text ∷ []) l
key_spelled lead key text l true x t s ee ex et h = entry_spelled (lead ∷ key ∷ text ∷ []) text l (address_by text) (same_words lead key text (codes "entry") s ((bytes_eq-Decides key (codes "entry")).0 ee)) refl h
key_spelled lead key text l false true t s ee ex et h = exit_spelled (lead ∷ key ∷ text ∷ []) text l (address_by text) (same_words lead key text (codes "exit") s ((bytes_eq-Decides key (codes "exit")).0 ex)) refl h
key_spelled lead key text l false false true s ee ex et h = ttl_spelled (lead ∷ key ∷ text ∷ []) text l (ttl_of text) (same_words lead key text (codes "ttl") s ((bytes_eq-Decides key (codes "ttl")).0 et)) h
key_spelled lead key text l false false false s ee ex et h = absurd cc

lead_spelled : (lead key text : List ℕ) (l : EntryLine) (s : Bool) → bytes_eq lead (codes "set") ≡ s → (if s then entry_setting_of key text else None) ≡ Some l → IsSpelled (lead ∷ key ∷ text ∷ []) l
lead_spelled lead key text l true e h = key_spelled lead key text l (bytes_eq key (codes "entry")) (bytes_eq key (codes "exit")) (bytes_eq key (codes "ttl")) ((bytes_eq-Decides lead (codes "set")).0 e) refl refl refl h
lead_spelled lead key text l false e h = absurd cc

spelled : (words : List (List ℕ)) (l : EntryLine) → entry_line_of words ≡ Some l → IsSpelled words l
unfolding entry_line_of
spelled [] l h = absurd cc
spelled (lead ∷ []) l h = absurd cc
spelled (lead ∷ key ∷ []) l h = absurd cc
spelled (lead ∷ key ∷ text ∷ []) l h = lead_spelled lead key text l (bytes_eq lead (codes "set")) refl h
spelled (lead ∷ key ∷ text ∷ more ∷ words) l h = absurd cc

abbrev entry_in : EntryLine → Option Ipv4Addr
entry_in (entries.Entry a) = Some a
entry_in l = None

abbrev exit_in : EntryLine → Option Ipv4Addr
exit_in (entries.Exit a) = Some a
exit_in l = None

entry_set : (words : List (List ℕ)) (l : EntryLine) → IsSpelled words l → (sets_by (codes "entry") words ≡ is_some (entry_in l)) × (entry_in l ≡ value_by address_by (codes "entry") words)
entry_set words (entries.Entry a) sp = (ap (sets_by (codes "entry")) sp.1, sym (ap (value_by address_by (codes "entry")) sp.1 ∙ sp.2))
entry_set words (entries.Exit a) sp = (ap (sets_by (codes "entry")) sp.1, sym (ap (value_by address_by (codes "entry")) sp.1))
entry_set words (entries.Ttl n) sp = (ap (sets_by (codes "entry")) sp.1, sym (ap (value_by address_by (codes "entry")) sp.1))

exit_set : (words : List (List ℕ)) (l : EntryLine) → IsSpelled words l → (sets_by (codes "exit") words ≡ is_some (exit_in l)) × (exit_in l ≡ value_by address_by (codes "exit") words)
exit_set words (entries.Entry a) sp = (ap (sets_by (codes "exit")) sp.1, sym (ap (value_by address_by (codes "exit")) sp.1))
exit_set words (entries.Exit a) sp = (ap (sets_by (codes "exit")) sp.1, sym (ap (value_by address_by (codes "exit")) sp.1 ∙ sp.2))
exit_set words (entries.Ttl n) sp = (ap (sets_by (codes "exit")) sp.1, sym (ap (value_by address_by (codes "exit")) sp.1))

entry_taken : (e : Encap) (l : EntryLine) → (with_entry_line e l).entry ≡ unwrap_or (entry_in l) e.entry
entry_taken e (entries.Entry a) = refl
entry_taken e (entries.Exit a) = refl
entry_taken e (entries.Ttl n) = refl

exit_taken : (e : Encap) (l : EntryLine) → (with_entry_line e l).exit ≡ unwrap_or (exit_in l) e.exit
exit_taken e (entries.Entry a) = refl
exit_taken e (entries.Exit a) = refl
exit_taken e (entries.Ttl n) = refl

entry_key : IsKey entry_lines with_entry_line address_by (codes "entry") entry_in (λ (e : Encap). e.entry)
entry_key = record { taken = entry_taken; is_set = λ s l is. (entry_set s.words l (spelled s.words l is)).0; is_read = λ s l is. (entry_set s.words l (spelled s.words l is)).1 }

exit_key : IsKey entry_lines with_entry_line address_by (codes "exit") exit_in (λ (e : Encap). e.exit)
exit_key = record { taken = exit_taken; is_set = λ s l is. (exit_set s.words l (spelled s.words l is)).0; is_read = λ s l is. (exit_set s.words l (spelled s.words l is)).1 }

entry_same : (l : EntryLine) → is_entry l ≡ is_some (entry_in l)
entry_same (entries.Entry a) = refl
entry_same (entries.Exit a) = refl
entry_same (entries.Ttl n) = refl

exit_same : (l : EntryLine) → is_entry_exit l ≡ is_some (exit_in l)
exit_same (entries.Entry a) = refl
exit_same (entries.Exit a) = refl
exit_same (entries.Ttl n) = refl

-- an address that is read as a number
as_number : (s : Setting) (o : Option ℕ) → option_map (λ (v : ℕ × Ipv4Addr). v.1) (option_map (λ (a : Ipv4Addr). (s.line, a)) (option_map ipv4_address o)) ≡ option_map (λ (v : ℕ × ℕ). ipv4_address v.1) (option_map (λ (n : ℕ). (s.line, n)) o)
as_number s None = refl
as_number s (Some n) = refl

as_value : (o : Option Setting) → option_map (λ (v : ℕ × Ipv4Addr). v.1) (option_and_then (lined address_by) o) ≡ option_map (λ (v : ℕ × ℕ). ipv4_address v.1) (option_and_then (lined address_of) o)
as_value None = refl
as_value (Some s) = as_number s (address_of (word_of s.words 2))

module _ (decl : FunctionDecl) (accepted : refused_line_of entry_lines decl ≡ None) where
  abbrev said : List EntryLine
  said = said_by entry_lines decl.settings

  lacking : (not (list_any is_entry said) ≡ false) × (not (list_any is_entry_exit said) ≡ false)
  lacking =
      let first = neither (not (list_any is_entry said)) (not (list_any is_entry_exit said) || (not (list_any is_ttl said) || false)) (none_lacking entry_lines decl accepted) in
      (first.0, (neither (not (list_any is_entry_exit said)) (not (list_any is_ttl said) || false) first.1).0)

  entry_there : (v : ℕ × Ipv4Addr) × (option_and_then (lined address_by) (find (sets (codes "entry")) decl.settings) ≡ Some v)
  entry_there = value_there entry_lines with_entry_line address_by (codes "entry") entry_in (λ (e : Encap). e.entry) entry_key decl.settings (all_said entry_lines decl accepted)
      (sym (any_same is_entry (λ l. is_some (entry_in l)) entry_same said) ∙ not_none (list_any is_entry said) lacking.0)

  exit_there : (v : ℕ × Ipv4Addr) × (option_and_then (lined address_by) (find (sets (codes "exit")) decl.settings) ≡ Some v)
  exit_there = value_there entry_lines with_entry_line address_by (codes "exit") exit_in (λ (e : Encap). e.exit) exit_key decl.settings (all_said entry_lines decl accepted)
      (sym (any_same is_entry_exit (λ l. is_some (exit_in l)) exit_same said) ∙ not_none (list_any is_entry_exit said) lacking.1)

  entry_by : Some (encap_by said).entry ≡ option_map (λ (v : ℕ × ℕ). ipv4_address v.1) (value_of address_of (codes "entry") decl)
  entry_by =
      ap Some (value_made entry_lines with_entry_line address_by (codes "entry") entry_in (λ (e : Encap). e.entry) entry_key unset_encap [] decl.settings (all_new entry_lines decl accepted)
      ∙ ap (λ o. option_map_or (λ (v : ℕ × Ipv4Addr). v.1) o unset_encap.entry) entry_there.1)
      ∙ sym (ap (option_map (λ (v : ℕ × Ipv4Addr). v.1)) entry_there.1)
      ∙ as_value (find (sets (codes "entry")) decl.settings)

  exit_by : Some (encap_by said).exit ≡ option_map (λ (v : ℕ × ℕ). ipv4_address v.1) (value_of address_of (codes "exit") decl)
  exit_by =
      ap Some (value_made entry_lines with_entry_line address_by (codes "exit") exit_in (λ (e : Encap). e.exit) exit_key unset_encap [] decl.settings (all_new entry_lines decl accepted)
      ∙ ap (λ o. option_map_or (λ (v : ℕ × Ipv4Addr). v.1) o unset_encap.exit) exit_there.1)
      ∙ sym (ap (option_map (λ (v : ℕ × Ipv4Addr). v.1)) exit_there.1)
      ∙ as_value (find (sets (codes "exit")) decl.settings)

pub entry_read : (decl : FunctionDecl) → decl.kind ≡ kinds.Encap → refused_line decl ≡ None → made_entry (function_of decl) ≡ option_map (λ (v : ℕ × ℕ). ipv4_address v.1) (value_of address_of (codes "entry") decl)
unfolding making_of
entry_read decl is accepted = ap (λ kind. made_entry ((making_of kind).made decl)) is ∙ entry_by decl (subst (λ kind. (making_of kind).refused decl ≡ None) is accepted)

pub exit_read : (decl : FunctionDecl) → decl.kind ≡ kinds.Encap → refused_line decl ≡ None → made_exit (function_of decl) ≡ option_map (λ (v : ℕ × ℕ). ipv4_address v.1) (value_of address_of (codes "exit") decl)
unfolding making_of
exit_read decl is accepted = ap (λ kind. made_exit ((making_of kind).made decl)) is ∙ exit_by decl (subst (λ kind. (making_of kind).refused decl ≡ None) is accepted)
