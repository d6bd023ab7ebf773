use Rattle.std.proofs.Common.{◌∙◌, All, ap, arith, refl, subst, sym}
use Rattle.packet_version.specs.Tallies.{count_of, raised}
use Rattle.piece_walk.specs.Kinds.{GrowsLittle}
use Rattle.piece_walk.specs.PiecePackets.{long_fates, pieces_after}
use Rattle.chain_service.specs.SegmentRun.{copies_through}
use Rattle.chain_service.specs.SegmentRunProofs.{functions_count, pieces_of}
use Rattle.chain_service.specs.SegmentRunProofs.{packets_taken}
use Rattle.service_walk.specs.Service.{packets_in}
use Rattle.policy_chains.specs.NamedFunctions.{named_behaviour}
use Rattle.burst_walk.specs.Leading.{IsWritable, classed_items}
use Rattle.burst_walk.proofs.Growing.{all_writable}
use Rattle.burst_walk.proofs.Leading.{packets_led, short_packets}
use Rattle.burst_walk.proofs.lead.lead_chain.Goals as goal

pub new-requires : goal.new-requires
new-requires g c =
    let left = ap functions_count c.in_ok-pieces.ensures.goes.pieces_left in
    let same = c.pieces_keep_their_kind.ensures.count named_behaviour (pieces_of c.args.chain.pieces) (packets_taken c.args.unit c.args.number c.args.burst.now.items) in
    let stay = ap (λ pieces. functions_count (pieces_after named_behaviour (pieces_of pieces) (packets_taken c.args.unit c.args.number c.args.burst.now.items))) c.into_vec-pieces.ensures.pieces in
    let few = c.into_vec-pieces.ensures.few in
    omega (arith, left, stay, same, few)

pub returns-clause-led : goal.returns-clause-led
returns-clause-led g c =
    let goes = c.in_ok-pieces.ensures.goes in
    let own = ap pieces_of c.into_vec-pieces.ensures.pieces in
    let led = packets_led c.args.unit c.args.number c.args.burst.now.items in
    record {
      same_chain = refl;
      same_names = refl;
      pieces = ap pieces_of c.new.ensures ∙ goes.pieces_left ∙ (λ i. pieces_after named_behaviour (own i) (led i));
      copied = λ f. goes.counted f ∙ ap (raised (count_of c.args.chain.copies f)) (λ i. copies_through named_behaviour (own i) (led i) f);
    }

pub returns-clause-fates : goal.returns-clause-fates
returns-clause-fates g c =
    let own = ap pieces_of c.into_vec-pieces.ensures.pieces in
    let led = packets_led c.args.unit c.args.number c.args.burst.now.items in
    c.in_ok-pieces.ensures.goes.fates ∙ (λ i. long_fates named_behaviour (own i) (led i))

pub returns-clause-writable : goal.returns-clause-writable
returns-clause-writable g c =
    subst (All IsWritable) (sym (returns-clause-fates g c))
    (all_writable (pieces_of c.args.chain.pieces) (packets_in c.args.number (classed_items c.args.unit c.args.burst.now.items)) c.frames_grow_little.ensures
    (subst (λ l. All GrowsLittle (pieces_of l)) (c.as_slice.ensures.value ∙ c.into_vec-pieces.ensures.pieces) c.pieces_grow_little.ensures) c.into_vec-pieces.ensures.few (short_packets c.args.unit c.args.number c.args.burst.now.items c.requires.short))
