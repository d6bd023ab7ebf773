-- Believed: which chain takes a packet.
use Rattle.std.specs.Prelude.{ℕ, List, Option, position}
use Rattle.frame_seen.specs.Seeing.{seen_of}
use Rattle.policy_text.specs.Meeting.{is_fitting}
use Rattle.policy_text.specs.declared.clause.Match.{Match}

-- the first chain, counted from 0, whose clauses the frame as it was read meets
abbrev pub class_of : List Match → List ℕ → Option ℕ
class_of fits frame = position (λ fit. is_fitting fit (seen_of frame)) fits
