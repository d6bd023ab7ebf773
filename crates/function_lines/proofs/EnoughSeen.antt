-- A view of a packet that shows all that the rules look at meets the same rule as the packet.
use Rattle.std.proofs.Common.{◌≡◌, List, [], ◌∷◌, Bool, true, false, ◌&&◌, refl, ap, subst}
use Rattle.std.specs.Prelude.{◌==◌, Some, is_some, cond}
use Rattle.std.specs.List.{list_all, list_any}
use Rattle.std.specs.Option.{option_map_or}
use Rattle.std.proofs.lemmas.Bool.{or_left, or_right}
use Rattle.policy_text.specs.Meeting.{is_within, is_within6, is_between, has_id, is_bare, is_type, has_bits, is_met}
use Rattle.policy_text.specs.declared.clause.Clause.{Clause}
use Rattle.policy_text.specs.declared.clause.Clause.TheVariants.{Src, Dst, Src6, Dst6, Sport, Dport, Proto, TagId, NoTag, Version4, Version6, Flags}
use Rattle.policy_text.specs.declared.clause.Match.{Match}
use Rattle.policy_text.specs.declared.seen.Seen.{Seen}
use Rattle.function_lines.specs.Asking.{looks_at, fit_asks, rules_ask, asked_of, Shows}
use Rattle.function_lines.specs.Rules.{first_met}
use Rattle.function_lines.specs.declared.asking.Asked.{Asked}
use Rattle.function_lines.specs.declared.asking.Value.{Value}
use Rattle.function_lines.specs.declared.asking.Value.TheVariants as values

-- what these tests of values look at
abbrev asked_by : (Value → Bool) → Asked
asked_by asks = record {
  tag = asks values.Tag;
  source = asks values.Source;
  destination = asks values.Destination;
  source_port = asks values.SourcePort;
  destination_port = asks values.DestinationPort;
}

module _ (full seen : Seen) where
  -- if the tests look at less
  less : (few many : Value → Bool) → ((v : Value) → few v ≡ true → many v ≡ true) → Shows (asked_by many) full seen → Shows (asked_by few) full seen
  less few many within s = record {
    tag = λ h. s.tag (within values.Tag h);
    src = λ h. s.src (within values.Source h);
    src6 = λ h. s.src6 (within values.Source h);
    dst = λ h. s.dst (within values.Destination h);
    dst6 = λ h. s.dst6 (within values.Destination h);
    sport = λ h. s.sport (within values.SourcePort h);
    dport = λ h. s.dport (within values.DestinationPort h);
    proto = s.proto;
    ether_type = s.ether_type;
    tcp_flags = s.tcp_flags;
  }

  clause_same : (c : Clause) → Shows (asked_by (λ v. looks_at v c)) full seen → is_met seen c ≡ is_met full c
  clause_same (Src prefix bits) s = ap (λ a. option_map_or (is_within prefix bits) a false) (s.src refl)
  clause_same (Dst prefix bits) s = ap (λ a. option_map_or (is_within prefix bits) a false) (s.dst refl)
  clause_same (Src6 prefix bits) s = ap (λ a. option_map_or (is_within6 prefix bits) a false) (s.src6 refl)
  clause_same (Dst6 prefix bits) s = ap (λ a. option_map_or (is_within6 prefix bits) a false) (s.dst6 refl)
  clause_same (Sport low high) s = ap (λ p. option_map_or (is_between low high) p false) (s.sport refl)
  clause_same (Dport low high) s = ap (λ p. option_map_or (is_between low high) p false) (s.dport refl)
  clause_same (Proto p) s = ap (λ x. option_map_or (λ y. y == p) x false) s.proto
  clause_same (TagId id) s = ap (has_id id) (s.tag refl)
  clause_same NoTag s = ap is_bare (s.tag refl)
  clause_same Version4 s = λ i. is_type 0x0800 (s.ether_type i) && is_some (s.src refl i)
  clause_same Version6 s = λ i. is_type 0x86DD (s.ether_type i) && is_some (s.src6 refl i)
  clause_same (Flags mask set) s = ap (λ x. option_map_or (has_bits mask set) x false) s.tcp_flags

  clauses_same : (cs : List Clause) → Shows (asked_by (λ v. list_any (looks_at v) cs)) full seen → list_all (is_met seen) cs ≡ list_all (is_met full) cs
  clauses_same [] s = refl
  clauses_same (c ∷ cs) s = λ i.
      clause_same c (less (λ v. looks_at v c) (λ v. list_any (looks_at v) (c ∷ cs)) (λ v h. or_left (looks_at v c) (list_any (looks_at v) cs) h) s) i
      && clauses_same cs (less (λ v. list_any (looks_at v) cs) (λ v. list_any (looks_at v) (c ∷ cs)) (λ v h. or_right (looks_at v c) (list_any (looks_at v) cs) h) s) i

  module _ {R : Type 0} (fit : R → Match) where
    rules_same : (rules : List R) → Shows (asked_by (λ v. rules_ask fit v rules)) full seen → first_met fit seen rules ≡ first_met fit full rules
    rules_same [] s = refl
    rules_same (r ∷ rs) s = λ i.
        cond
        (clauses_same (fit r).clauses (less (λ v. fit_asks v (fit r)) (λ v. rules_ask fit v (r ∷ rs)) (λ v h. or_left (fit_asks v (fit r)) (rules_ask fit v rs) h) s) i)
        (Some r)
        (rules_same rs (less (λ v. rules_ask fit v rs) (λ v. rules_ask fit v (r ∷ rs)) (λ v h. or_right (fit_asks v (fit r)) (rules_ask fit v rs) h) s) i)

pub same_first_met : {R : Type 0} (fit : R → Match) (rules : List R) (asked : Asked) → asked ≡ asked_of fit rules → (full seen : Seen) → Shows asked full seen → first_met fit seen rules ≡ first_met fit full rules
same_first_met fit rules asked is full seen s = rules_same full seen fit rules (subst (λ a. Shows a full seen) is s)
