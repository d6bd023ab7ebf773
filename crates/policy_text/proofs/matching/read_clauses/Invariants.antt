use Rattle.std.proofs.Common.{◌≡◌, ◌+◌, ◌-◌, ◌≤◌, [], length, map, drop}
use Rattle.policy_text.specs.Clauses.{clauses_from}
use Rattle.policy_text.proofs.matching.read_clauses.Given as goal

-- the rest decides
abbrev pub invariant-clauses : goal.invariant-clauses
invariant-clauses l =
    (l.at ≤ length l.words) × (clauses_from l.clauses.items (l.place + l.at) (drop l.at (map (λ w. w.now) l.words)) ≡ clauses_from [] l.place (map (λ w. w.now) l.words))

abbrev pub decreases-clauses : goal.decreases-clauses
decreases-clauses l = length l.words - l.at
