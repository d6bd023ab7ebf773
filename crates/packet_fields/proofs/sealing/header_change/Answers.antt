use Rattle.std.proofs.Common.{◌≡◌, ◌-◌, ◌*◌, ◌≤◌, drop, ap, arith, length-take}
use Rattle.packet_fields.specs.declared.sums.Change.{Change}
use Rattle.packet_fields.proofs.ChecksumSteps.{header_changed}
use Rattle.packet_fields.proofs.sealing.header_change.Goals as goal

pub returns : goal.returns
returns c =
    let zero : c.none.result.sum ≡ 0 = ap (λ (x : Change). x.sum) c.none.ensures in
    let first : c.with_bytes.result.sum ≤ 65536 * 11 = omega (arith, zero, c.with_bytes.ensures.bound, length-take 10 (drop 2 c.args.old.now)) in
    let second : c.with_bytes-2.result.sum ≤ 65536 * 80 = omega (arith, first, c.with_bytes-2.ensures.bound, length-take (c.args.end - 14) (drop 14 c.args.old.now), c.requires.short) in
    header_changed c.args.end c.args.old.now c.args.new.now c.none.result c.with_bytes.result c.with_bytes-2.result c.requires.same (omega arith) c.none.ensures
    (record { total = c.with_bytes.ensures.sum; some_word = c.with_bytes.ensures.is_some; small = omega (arith, first) })
    (record { total = c.with_bytes-2.ensures.sum; some_word = c.with_bytes-2.ensures.is_some; small = omega (arith, second) })
