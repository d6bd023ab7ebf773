-- What comes from the mergers of a stage, in turn.
use Rattle.std.proofs.Common.{◌≡◌, ◌<◌, ◌∙◌, List, ◌∷◌, length, ap, subst}
use Rattle.packet_version.specs.Splitting.{PlainApart}
use Rattle.packet_messages.specs.Messages.{PlainMessage, Fits, Owing, first, front, turned}
use Rattle.stage_nodes.specs.Dues.{ComesFrom}
use Rattle.stage_nodes.specs.Turns.{HasMore}
use Rattle.stage_nodes.proofs.Shares.{turned_shares}
use Rattle.stage_nodes.proofs.Ends.{front_of}

-- something is due from the merger whose turn it is
pub mergers_have : (inlets : List (List (PlainMessage PlainApart))) → HasMore ComesFrom inlets → (0 < length inlets) × Owing (front inlets)
mergers_have inlets more =
    let from = more.2 in
    let first = front_of from.0 more.0 more.1 inlets from.1 from.2 in (first.some, first.owing)

-- a message that was taken, and what is left
pub record Came (inlets : List (List (PlainMessage PlainApart))) (message x : PlainMessage PlainApart) (xs : List (PlainMessage PlainApart)) : Type 0 where
  pub next : Fits x message
  pub later : ComesFrom inlets xs

pub came_in_turn : (old new : List (List (PlainMessage PlainApart))) (message : PlainMessage PlainApart) → Fits (first (front old)) message → new ≡ turned old →
    (x : PlainMessage PlainApart) (xs : List (PlainMessage PlainApart)) → ComesFrom old (x ∷ xs) → Came new message x xs
came_in_turn old new message fits turns x xs due = record {
  next = subst (λ y. Fits y message) (front_of due.0 x xs old due.1 due.2).is fits;
  later = (due.0, due.1, turns ∙ ap turned due.2 ∙ turned_shares due.0 x xs due.1);
}
