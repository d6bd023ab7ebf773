-- For proofs: which values of a packet the rules look at, so that no other has to be seen.
use Rattle.std.specs.Prelude.{◌≡◌, List, Bool, true, false}
use Rattle.std.specs.List.{list_any}
use Rattle.policy_text.specs.declared.clause.Clause.{Clause}
use Rattle.policy_text.specs.declared.clause.Clause.TheVariants.{Src, Dst, Src6, Dst6, Sport, Dport, TagId, NoTag, Version4, Version6}
use Rattle.policy_text.specs.declared.clause.Match.{Match}
use Rattle.policy_text.specs.declared.seen.Seen.{Seen}
use Rattle.function_lines.specs.declared.asking.Asked.{Asked}
use Rattle.function_lines.specs.declared.asking.Value.{Value}
use Rattle.function_lines.specs.declared.asking.Value.TheVariants as values

-- the clause looks at this value
abbrev pub looks_at : Value → Clause → Bool
looks_at values.Tag (TagId id) = true
looks_at values.Tag NoTag = true
looks_at values.Source (Src prefix bits) = true
looks_at values.Source (Src6 prefix bits) = true
looks_at values.Source Version4 = true
looks_at values.Source Version6 = true
looks_at values.Destination (Dst prefix bits) = true
looks_at values.Destination (Dst6 prefix bits) = true
looks_at values.SourcePort (Sport low high) = true
looks_at values.DestinationPort (Dport low high) = true
looks_at value clause = false

-- some clause of a rule looks at it
abbrev pub fit_asks : Value → Match → Bool
fit_asks value fit = list_any (looks_at value) fit.clauses

-- some rule does
abbrev pub rules_ask : {R : Type 0} → (R → Match) → Value → List R → Bool
rules_ask fit value rules = list_any (λ rule. fit_asks value (fit rule)) rules

abbrev pub asked_of : {R : Type 0} → (R → Match) → List R → Asked
asked_of fit rules = record {
  tag = rules_ask fit values.Tag rules;
  source = rules_ask fit values.Source rules;
  destination = rules_ask fit values.Destination rules;
  source_port = rules_ask fit values.SourcePort rules;
  destination_port = rules_ask fit values.DestinationPort rules;
}

-- what is seen has the values that the rules look at, and those that no function writes
pub record Shows (asked : Asked) (full seen : Seen) : Type 0 where
  pub tag : asked.tag ≡ true → seen.tag ≡ full.tag
  pub src : asked.source ≡ true → seen.src ≡ full.src
  pub src6 : asked.source ≡ true → seen.src6 ≡ full.src6
  pub dst : asked.destination ≡ true → seen.dst ≡ full.dst
  pub dst6 : asked.destination ≡ true → seen.dst6 ≡ full.dst6
  pub sport : asked.source_port ≡ true → seen.sport ≡ full.sport
  pub dport : asked.destination_port ≡ true → seen.dport ≡ full.dport
  pub proto : seen.proto ≡ full.proto
  pub ether_type : seen.ether_type ≡ full.ether_type
  pub tcp_flags : seen.tcp_flags ≡ full.tcp_flags
