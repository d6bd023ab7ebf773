use Rattle.std.proofs.Common.{◌≡◌, ◌∙◌, ◌*◌, ap, bit_or, below_more}
use Rattle.std.specs.Int.{bit_at}
use Rattle.patterns.specs.Sieving.{groups_of}
use Rattle.patterns.specs.Windows.{window_at}
use Rattle.patterns.proofs.Sieving.{or_keeps, or_adds}
use Rattle.patterns.proofs.sieve.Sieve.groups_in.Goals as goal

pub turns-preserved : goal.turns-preserved
turns-preserved c =
    let table = c.as_slice-table.result.now in
    let stride = c.args.self.now.stride in
    let groups = c.turns.groups in
    let more = c.groups_of-groups.result in
    record {
      always = λ group h. or_keeps groups more group (c.turns.invariant.always group h);
      seen = λ turn group below h. below_more (λ turn. bit_at (groups_of table (window_at c.args.self.now.width c.args.payload.now (turn * stride))) group ≡ 1 → bit_at (bit_or groups more) group ≡ 1) c.turns.turn
          (λ before within marked. or_keeps groups more group (c.turns.invariant.seen before group within marked))
          (λ marked. or_adds groups more group (ap (λ n. bit_at n group) (c.groups_of-groups.ensures ∙ ap (groups_of table) c.window_at.ensures) ∙ marked)) turn below h;
    }
