use Rattle.std.proofs.Common.{◌≡◌, ◌<◌, ◌++◌, ◌∷◌, [], length, get_or, refl, arith, rules}
use Rattle.std.specs.Prelude.{slice_get}
use Rattle.std.proofs.lemmas.Option.{slice_get_past, slice_get_read}
use Rattle.declared_lines.specs.LinesOf.{lines_of}
use Rattle.why_account.proofs.Naming.{kept_none, kept_one}
use Rattle.why_account.proofs.chain.lines_in.Goals.{in-Some+in_ok-of+in_ok-push, in_default}
use Rattle.why_account.proofs.chain.lines_in.Goals as goal

pub positions-preserved : goal.positions-preserved
positions-preserved c =
    let inside : c.positions.position-index < length c.args.positions.now = omega arith in
    elim c.match-get.branch [
      | in-Some+in_ok-of+in_ok-push w ↦ kept_one lines_of (slice_get c.args.declared.now) c.args.positions.now c.positions.position-index 0 w.in-Some.decl.now c.match-get.lines c.positions.lines inside
          (slice_get_read c.args.declared.now (length c.args.declared.now) (get_or c.args.positions.now c.positions.position-index 0) w.in-Some.decl.now refl w.in-Some.ensures.lookup.3.0 w.in-Some.ensures.lookup.1) c.positions.invariant (search rules)
      | in_default w ↦ kept_none lines_of (slice_get c.args.declared.now) c.args.positions.now c.positions.position-index 0 c.match-get.lines c.positions.lines inside
          (slice_get_past c.args.declared.now (get_or c.args.positions.now c.positions.position-index 0) w.in_default.ensures.lookup.3) c.positions.invariant w.lines-is
    ]
