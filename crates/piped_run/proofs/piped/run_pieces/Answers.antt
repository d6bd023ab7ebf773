use Rattle.std.proofs.Common.{rules, [], ◌-◌, take, drop, refl, arith, subst, sym}
use Rattle.graph_run.specs.Leading.{Leads}
use Rattle.piped_run.proofs.InPieces.{piece_led, piece_refused, led_refused, all_led}
use Rattle.piped_run.proofs.piped.run_pieces.Goals as goal

pub pieces-init : goal.pieces-init
pieces-init g c = record {
  inside = omega arith;
  led = subst (λ l. Leads g.F.Function.behaviour c.args.run [] c.args.tally.now c.args.tally.now c.args.run l) (sym c.in_ok-fates.ensures.items) (c.pieces_are_led_in_a_row.ensures.none g.F.Function.behaviour c.args.run c.args.tally.now);
}

pub returns-clause-leads : goal.returns-clause-leads
returns-clause-leads g c = all_led g.F.Function.behaviour c.args.run c.pieces.run c.args.unit c.args.chain c.args.items.now c.pieces.start c.args.tally.now c.pieces.tally c.pieces.fates.items c.pieces-test.false c.pieces.invariant.led

pub pieces-preserved : goal.pieces-preserved
pieces-preserved g c = record {
  inside = c.piece_end-end.ensures.inside;
  led = let further = c.piece_end-end.ensures.further in
      piece_led g.F.Function.behaviour c.args.run c.pieces.run c.in_ok-left.left c.args.unit c.args.chain c.args.items.now (take (c.piece_end-end.result - c.pieces.start) (drop c.pieces.start c.args.items.now)) c.pieces.start c.piece_end-end.result
      c.args.tally.now c.pieces.tally c.run_piece.new.tally c.pieces.fates.items c.in_ok-left.ended.items c.append.new.self.items
      c.pieces_are_led_in_a_row.ensures.leads c.pieces_are_led_in_a_row.ensures.taken c.functions_keep_to_profiles.ensures (omega (arith, further)) refl c.in_ok-append.ensures.items
      c.pieces.invariant.led c.in_ok-left.ensures.leads;
}

pub returns-in_err-left-clause-refused : goal.returns-in_err-left-clause-refused
returns-in_err-left-clause-refused g c =
    let further = c.piece_end-end.ensures.further in
    let within = piece_refused g.F.Function.behaviour c.args.run c.pieces.run c.args.unit c.args.chain c.args.items.now (take (c.piece_end-end.result - c.pieces.start) (drop c.pieces.start c.args.items.now)) c.pieces.start c.piece_end-end.result
    c.args.tally.now c.pieces.tally c.run_piece.new.tally c.pieces.fates.items c.pieces_are_led_in_a_row.ensures.refused c.pieces_are_led_in_a_row.ensures.taken (omega (arith, further)) refl
    c.pieces.invariant.led c.in_err-left.ensures.refused in search rules

pub returns-in_err-append-clause-refused : goal.returns-in_err-append-clause-refused
returns-in_err-append-clause-refused g c =
    let further = c.piece_end-end.ensures.further in
    let led = piece_led g.F.Function.behaviour c.args.run c.pieces.run c.in_ok-left.left c.args.unit c.args.chain c.args.items.now (take (c.piece_end-end.result - c.pieces.start) (drop c.pieces.start c.args.items.now)) c.pieces.start c.piece_end-end.result
    c.args.tally.now c.pieces.tally c.run_piece.new.tally c.pieces.fates.items c.in_ok-left.ended.items _
    c.pieces_are_led_in_a_row.ensures.leads c.pieces_are_led_in_a_row.ensures.taken c.functions_keep_to_profiles.ensures (omega (arith, further)) refl refl
    c.pieces.invariant.led c.in_ok-left.ensures.leads in
    let within = led_refused g.F.Function.behaviour c.args.run c.in_ok-left.left c.args.unit c.args.chain c.args.items.now c.piece_end-end.result c.args.tally.now c.run_piece.new.tally _
    c.pieces_are_led_in_a_row.ensures.refused c.pieces_are_led_in_a_row.ensures.taken c.pieces_are_led_in_a_row.ensures.none led in search rules
