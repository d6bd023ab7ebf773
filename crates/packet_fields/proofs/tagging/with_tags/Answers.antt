use Rattle.std.proofs.Common.{◌≡◌, ◌∙◌, ◌++◌, List, ℕ, take, ap}
use Rattle.packet_fields.specs.Writing.{with_tags, rest_of}
use Rattle.packet_fields.specs.declared.field.Field.TheVariants.{Tag}
use Rattle.packet_fields.proofs.Rest.{rest_of-put}
use Rattle.packet_fields.proofs.Puts.{is_retagged}
use Rattle.packet_fields.proofs.Fixed.{fixed-packet}
use Rattle.packet_fields.proofs.tagging.with_tags.Goals as goal

pub returns-clause-tags : goal.returns-clause-tags
returns-clause-tags c =
    let made : c.new.result ≡ with_tags c.args.list.now c.args.frame.now = c.new.ensures ∙ (c.in_ok-bytes.ensures ∙ ap (λ (p : List ℕ). take 12 c.args.frame.now ++ (c.args.list.now ++ p)) c.packet_from-packet.ensures.packet) in
    (is_retagged c.args.list.now c.args.frame.now c.new.result c.requires.present c.requires.whole made).tags_are

pub returns-clause-others : goal.returns-clause-others
returns-clause-others c =
    let made : c.new.result ≡ with_tags c.args.list.now c.args.frame.now = c.new.ensures ∙ (c.in_ok-bytes.ensures ∙ ap (λ (p : List ℕ). take 12 c.args.frame.now ++ (c.args.list.now ++ p)) c.packet_from-packet.ensures.packet) in
    (is_retagged c.args.list.now c.args.frame.now c.new.result c.requires.present c.requires.whole made).others

pub returns-clause-packet : goal.returns-clause-packet
returns-clause-packet c =
    let made : c.new.result ≡ with_tags c.args.list.now c.args.frame.now = c.new.ensures ∙ (c.in_ok-bytes.ensures ∙ ap (λ (p : List ℕ). take 12 c.args.frame.now ++ (c.args.list.now ++ p)) c.packet_from-packet.ensures.packet) in
    (is_retagged c.args.list.now c.args.frame.now c.new.result c.requires.present c.requires.whole made).packet_is

pub returns-clause-ether_type : goal.returns-clause-ether_type
returns-clause-ether_type c =
    let made : c.new.result ≡ with_tags c.args.list.now c.args.frame.now = c.new.ensures ∙ (c.in_ok-bytes.ensures ∙ ap (λ (p : List ℕ). take 12 c.args.frame.now ++ (c.args.list.now ++ p)) c.packet_from-packet.ensures.packet) in
    (fixed-packet c.args.frame.now c.new.result (is_retagged c.args.list.now c.args.frame.now c.new.result c.requires.present c.requires.whole made).packet_is).kind

pub returns-clause-rest : goal.returns-clause-rest
returns-clause-rest c =
    let made : c.new.result ≡ with_tags c.args.list.now c.args.frame.now = c.new.ensures ∙ (c.in_ok-bytes.ensures ∙ ap (λ (p : List ℕ). take 12 c.args.frame.now ++ (c.args.list.now ++ p)) c.packet_from-packet.ensures.packet) in
    ap (λ (xs : List ℕ). rest_of xs) made ∙ rest_of-put Tag c.args.list.now c.args.frame.now (c.requires.present, c.requires.whole)
