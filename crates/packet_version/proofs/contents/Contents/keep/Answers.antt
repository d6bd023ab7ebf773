use Rattle.packet_version.proofs.Keeping.{held_kept, closed_keeps, is_closed, is_listed, listed_ten}
use Rattle.packet_version.proofs.contents.Contents.keep.Goals as goal

pub returns : goal.returns
returns c = held_kept c.self.inside.taggers c.self.inside.rest c.self.inside.writers c.self.inside.places c.number-number.result c.args.field c.at_mut.result.now c.forget_writer.new.self c.args.self.now
    c.at_mut.ensures.value c.forget_writer.ensures c.number-number.ensures.number c.number-number.ensures.below c.self.told
    (listed_ten c.self.inside.places (is_listed c.self.inside.places c.is_empty.result c.is_empty.ensures c.if-is_empty.false) c.self.invariant.ten)
    c.self.view_is

pub returns-then-is_empty : goal.returns-then-is_empty
returns-then-is_empty c = closed_keeps c.self.inside.taggers c.self.inside.rest c.self.inside.writers c.self.inside.places c.number-number.result c.args.field c.args.self.now
    (is_closed c.self.inside.places c.is_empty.result c.is_empty.ensures c.if-is_empty.true)
    c.number-number.ensures.number c.number-number.ensures.below c.self.told c.self.view_is
