use Rattle.std.proofs.Common.{List, length, map, ap, sym, subst, arith}
use Rattle.std.proofs.lemmas.List.{length-map}
use Rattle.packet_version.specs.Versions.{PlainVersion}
use Rattle.packet_messages.specs.Messages.{PlainMessage, AllFit, first}
use Rattle.stage_nodes.specs.Gathering.{RowFits}
use Rattle.stage_nodes.proofs.Gathering.{row_of, row_of_length}
use Rattle.stage_nodes.proofs.board_rows.BoardRows.accept_row.Goals as goal

pub hand_over-requires-clause-room : goal.hand_over-requires-clause-room
hand_over-requires-clause-room g c =
    let long = row_of_length (map (first {P = PlainVersion}) c.self.inside.inlets) c.accept_row.new.row.items c.accept_row.ensures.fits in
    omega (arith, long, length-map c.self.inside.inlets (first {P = PlainVersion}), ap length c.self.view_is, c.requires.room)

pub returns-clause-row : goal.returns-clause-row
returns-clause-row g c =
    subst (RowFits (map first c.args.self.now)) (sym c.hand_over.ensures.row)
    (row_of (map first c.args.self.now) c.accept_row.new.row.items (subst (λ (l : List (List (PlainMessage PlainVersion))). AllFit (map first l) c.accept_row.new.row.items) c.self.view_is c.accept_row.ensures.fits))
