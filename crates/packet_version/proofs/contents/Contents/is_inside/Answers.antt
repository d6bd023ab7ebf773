use Rattle.std.proofs.Common.{◌∙◌, sym}
use Rattle.std.specs.Cmp.Lexicographic.{same_text}
use Rattle.packet_version.proofs.Keeping.{no_writers, closed_unwritten, is_closed}
use Rattle.packet_version.proofs.contents.Contents.is_inside.Goals as goal

pub returns-then-is_empty : goal.returns-then-is_empty
returns-then-is_empty c = λ t f. closed_unwritten c.self.inside.taggers c.self.inside.rest c.self.inside.writers c.self.inside.places f c.args.self.now
    (is_closed c.self.inside.places c.is_empty.result c.is_empty.ensures c.if-is_empty.true)
    (same_text c.self.inside.writers no_writers (sym t ∙ c.eq.ensures))
    c.self.view_is
