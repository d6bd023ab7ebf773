use Rattle.std.proofs.Common.{◌∙◌, sym, ap}
use Rattle.packet_version.specs.Parts.{PlainHeld}
use Rattle.packet_version.proofs.Keeping.{closed_again, is_closed}
use Rattle.packet_version.proofs.contents.Contents.put_back.Goals as goal

pub returns-then-is_empty : goal.returns-then-is_empty
returns-then-is_empty c =
    let places = c.self.inside.places in
    ap (λ (h : PlainHeld). h.frame) (sym c.self.view_is) ∙ sym (closed_again c.self.inside.taggers c.self.inside.rest c.self.inside.writers places c.args.self.now (is_closed places c.is_empty.result c.is_empty.ensures c.if-is_empty.true) c.self.view_is)
