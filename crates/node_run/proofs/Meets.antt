-- What comes from the branches of a stage meets its mergers, over links or on boards.
use Rattle.std.proofs.Common.{◌≡◌, ◌<◌, ◌≤◌, ◌+◌, ◌∙◌, ℕ, List, [], ◌∷◌, ◌++◌, length, map, drop, arith, ap, sym, subst, All, append_assoc, length-append}
use Rattle.std.proofs.lemmas.List.{append-nil, length-map}
use Rattle.action_profile.specs.declared.parts.Touch.{Touch}
use Rattle.packet_version.specs.Splitting.{PlainApart}
use Rattle.packet_version.specs.Versions.{PlainVersion}
use Rattle.packet_messages.specs.Messages.{PlainMessage}
use Rattle.packet_messages.specs.Turns.{share, share_len}
use Rattle.stage_nodes.specs.Streams.{Kit, PlainStage, parted, ran, came_from}
use Rattle.stage_nodes.specs.Flows.{MayPass}
use Rattle.node_run.specs.declared.meeting.Meeting.{Meeting}
use Rattle.node_run.specs.Wired.{AreLinked, MayMeet, Meets}
use Rattle.node_run.proofs.Wiring.{came_even, came_many, drop_none, share_even}

-- over links: branch by branch

pub none_linked : {F : Type 0} (k : Kit F) (touches : List Touch) (fs : List F) (m i : ℕ) (xs : List (PlainMessage PlainApart)) (ends : List (List (PlainMessage PlainVersion))) → ends ≡ [] → AreLinked k touches fs m i xs 0 ends
none_linked k touches fs m i xs ends e = record {
  many = ap length e;
  inside = omega arith;
  shared = ap (λ y. y ++ map (share m i) (came_from k touches fs xs)) e;
}

pub linked_more : {F : Type 0} (k : Kit F) (touches : List Touch) (fs : List F) (m i : ℕ) (xs : List (PlainMessage PlainApart)) (j : ℕ) (ends more : List (List (PlainMessage PlainVersion))) (own : List (PlainMessage PlainVersion)) (touch : Touch) (f : F)
    → AreLinked k touches fs m i xs j ends → j < length touches → drop j touches ≡ touch ∷ drop (j + 1) touches → drop j fs ≡ f ∷ drop (j + 1) fs
    → own ≡ share m i (ran k f (map (parted touch) xs)) → more ≡ ends ++ own ∷ [] → AreLinked k touches fs m i xs (j + 1) more
unfolding came_from
linked_more k touches fs m i xs j ends more own touch f h lt d e is add =
    let later = map (share m i) (came_from k (drop (j + 1) touches) (drop (j + 1) fs) xs) in record {
      many = omega (arith, h.many, ap length add, length-append ends (own ∷ []));
      inside = omega (arith, lt);
      shared = ap (λ y. y ++ later) add
          ∙ append_assoc ends (own ∷ []) later
          ∙ ap (λ y. ends ++ (y ∷ later)) is
          ∙ ap (λ y. ends ++ map (share m i) (came_from k (touch ∷ drop (j + 1) touches) y xs)) (sym e)
          ∙ ap (λ y. ends ++ map (share m i) (came_from k y (drop j fs) xs)) (sym d)
          ∙ h.shared;
    }

pub all_linked : {F : Type 0} (k : Kit F) (touches : List Touch) (fs : List F) (m i : ℕ) (xs : List (PlainMessage PlainApart)) (j : ℕ) (ends : List (List (PlainMessage PlainVersion)))
    → AreLinked k touches fs m i xs j ends → length fs ≤ j → length fs ≡ length touches → ends ≡ map (share m i) (came_from k touches fs xs)
unfolding came_from
all_linked k touches fs m i xs j ends h le owners =
    let none : drop j touches ≡ [] = drop_none j touches (omega (arith, le, owners)) in
    sym (append-nil ends) ∙ ap (λ y. ends ++ map (share m i) (came_from k y (drop j fs) xs)) (sym none) ∙ h.shared

-- as many as there are branches
pub shares_many : {F : Type 0} (k : Kit F) (touches : List Touch) (fs : List F) (m i : ℕ) (xs : List (PlainMessage PlainApart)) (ends : List (List (PlainMessage PlainVersion)))
    → ends ≡ map (share m i) (came_from k touches fs xs) → length fs ≡ length touches → length ends ≡ length touches
shares_many k touches fs m i xs ends e owners = ap length e ∙ length-map (came_from k touches fs xs) (share m i) ∙ came_many k touches fs xs owners

-- on a board

pub board_long : {F : Type 0} (k : Kit F) (touches : List Touch) (fs : List F) (m i : ℕ) (xs : List (PlainMessage PlainApart)) (count own : ℕ) (due : List (List (PlainMessage PlainVersion)))
    → due ≡ map (share m i) (came_from k touches fs xs) → length xs ≡ count → own ≡ share_len m i count → All (λ row. length row ≤ own) due
board_long k touches fs m i xs count own due e many is =
    subst (All (λ row. length row ≤ own)) (sym e) (λ n d lt. let long = share_even m i count own (came_from k touches fs xs) is (came_even k touches fs xs count many) n d lt in omega (arith, long))

-- merger by merger

pub may_meet : {F : Type 0} (k : Kit F) (may : F → ℕ → PlainVersion → Type 0) (s : PlainStage F) (touches : List Touch) (fs : List F) (m count : ℕ) (xs : List (PlainMessage PlainApart))
    → MayPass k may s xs → touches ≡ s.parts.touches → fs ≡ s.branches → 0 < m → count < 65537 → length xs ≡ count → MayMeet touches fs m count xs
may_meet k may s touches fs m count xs p t f some few many =
    let of_stage : MayMeet s.parts.touches s.branches m count xs = record {
      branches = (p.some, p.few);
      owners = p.owners;
      some = some;
      few = few;
      many = many;
    } in
    subst (λ y. MayMeet y fs m count xs) (sym t) (subst (λ y. MayMeet s.parts.touches y m count xs) (sym f) of_stage)

pub meets_by : {F : Type 0} (k : Kit F) (touches touches' : List Touch) (fs fs' : List F) (m : ℕ) (xs : List (PlainMessage PlainApart)) (w : Meeting)
    → Meets m (came_from k touches fs xs) w → touches ≡ touches' → fs ≡ fs' → Meets m (came_from k touches' fs' xs) w
meets_by k touches touches' fs fs' m xs w h t f = subst (λ y. Meets m (came_from k y fs' xs) w) t (subst (λ y. Meets m (came_from k touches y xs) w) f h)
