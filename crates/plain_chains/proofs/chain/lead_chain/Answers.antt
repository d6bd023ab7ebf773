use Rattle.std.proofs.Common.{◌≡◌, ◌≤◌, ◌∙◌, ℕ, List, ap, length, subst, sum_by, sym}
use Rattle.piece_walk.specs.Pieces.{count_of}
use Rattle.policy_chains.specs.NamedFunctions.{named_behaviour, named_decides}
use Rattle.policy_chains.specs.Parts.{parts_count, parts_of}
use Rattle.policy_chains.specs.declared.part.ChainPart.{ChainPart}
use Rattle.plain_chains.proofs.Leading.{count_stays, overwritten}
use Rattle.plain_chains.proofs.chain.lead_chain.Goals as goal

pub new-requires-3 : goal.new-requires-3
new-requires-3 g c =
    let begun : List ChainPart = c.as_mut_slice.result.now in
    let same : begun ≡ c.into_vec-parts.result.items = c.as_mut_slice.ensures.value in
    let few : parts_count begun ≤ 64 = subst (λ (l : List ChainPart). parts_count l ≤ 64) (sym (same ∙ c.into_vec-parts.ensures.parts)) c.into_vec-parts.ensures.few in
    let count : parts_count c.walk_parts.new.parts ≡ parts_count begun =
    ap (sum_by count_of) (c.in_ok-fate.ensures.pieces ∙ c.the_trace_is_the_walk.ensures.pieces named_behaviour named_decides c.args.time 1 (parts_of begun) c.args.frame)
    ∙ count_stays named_behaviour c.args.time (parts_of begun) c.args.frame c.pieces_keep_their_kind.ensures.count in
    let whole = overwritten c.walk_parts.new.parts c.into_vec-parts.result.items c.into_vec-parts.result.len c.into_vec-parts.result.ok.0 (c.walk_parts.auto.parts ∙ ap length same) in
    subst (λ (l : List ChainPart). parts_count l ≤ 64) (sym whole) (subst (λ (n : ℕ). n ≤ 64) (sym count) few)
