-- For proofs: findings that things of a list give, each by itself and those before it.
use Rattle.std.specs.Prelude.{ℕ, List, [], ◌∷◌, ◌++◌, Bool, if◌then◌else◌, Option, find}
use Rattle.std.specs.Option.{option_map, option_to_list}
use Rattle.policy_text.specs.declared.clause.Match.{Match}
use Rattle.policy_lint.specs.declared.finding.Finding.{Finding}
use Rattle.policy_lint.specs.Implying.{covers}

-- a finding, where it is so
abbrev pub told_if : Bool → Finding → List Finding
told_if is_so finding = if is_so then finding ∷ [] else []

-- what each of these gives, with what stands before it
abbrev pub gathered : {T : Type 0} → (List T → T → List Finding) → List T → List T → List Finding
gathered gives before [] = []
gathered gives before (t ∷ later) = gives before t ++ gathered gives (before ++ t ∷ []) later

-- What asks for clauses: its line, its clauses, and what is told where one before it, on the second line, covers it.
pub record Asking (T : Type 0) : Type 0 where
  pub line : T → ℕ
  pub fit : T → Match
  pub told : ℕ → ℕ → Finding

-- the first of those before it that covers it
abbrev pub cover_of : {T : Type 0} → Asking T → List T → T → Option T
cover_of asks before t = find (λ other. covers (asks.fit other) (asks.fit t)) before

abbrev pub told_of : {T : Type 0} → Asking T → List T → T → Option Finding
told_of asks before t = option_map (λ other. asks.told (asks.line t) (asks.line other)) (cover_of asks before t)

-- those that one before them covers
abbrev pub covered : {T : Type 0} → Asking T → List T → List Finding
covered asks things = gathered (λ before t. option_to_list (told_of asks before t)) [] things
