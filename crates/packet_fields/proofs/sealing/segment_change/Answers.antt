use Rattle.std.proofs.Common.{◌≡◌, ◌*◌, ◌≤◌, ◌+◌, ◌-◌, ◌<◌, ℕ, take, drop, ap, arith, length-take, sym, subst}
use Rattle.std.specs.Prelude.{Option, ⊤}
use Rattle.std.proofs.lemmas.Option.{MatchOption-at_some}
use Rattle.packet_fields.specs.Fields.{bytes_at}
use Rattle.packet_fields.specs.Changes.{IsChange, segment_bytes}
use Rattle.packet_fields.specs.declared.sums.Change.{Change}
use Rattle.packet_fields.specs.declared.plan.Span.{Span}
use Rattle.packet_fields.proofs.ChecksumSteps.{segment_changed_some, segment_changed_none, step_at}
use Rattle.packet_fields.proofs.sealing.segment_change.Goals as goal

pub returns-in-None : goal.returns-in-None
returns-in-None c =
    let a = c.args.addresses in
    let start = c.args.start in
    let p = c.args.old.now in
    let q = c.args.new.now in
    let zero : c.none.result.sum ≡ 0 = ap (λ (x : Change). x.sum) c.none.ensures in
    let first : c.with_bytes.result.sum ≤ 65536 * 33 = omega (arith, zero, c.with_bytes.ensures.bound, c.part.ensures.len, c.requires.few) in
    let second : c.with_bytes-change.result.sum ≤ 65536 * 38 = omega (arith, first, c.with_bytes-change.ensures.bound, length-take 4 (drop start p)) in
    let four : start + 4 - start ≡ 4 = omega arith in
    let whole = segment_changed_none a start p q c.none.result c.with_bytes.result c.with_bytes-change.result c.requires.same c.requires.addresses c.requires.even c.requires.ports c.none.ensures
    (step_at (bytes_at p a) (bytes_at q a) c.part.result.now c.part-2.result.now c.none.result c.with_bytes.result c.part.ensures.part c.part-2.ensures.part c.with_bytes.ensures.sum c.with_bytes.ensures.is_some (omega (arith, first)))
    (step_at (take 4 (drop start p)) (take 4 (drop start q)) (take (start + 4 - start) (drop start p)) (take (start + 4 - start) (drop start q)) c.with_bytes.result c.with_bytes-change.result
    (ap (λ (n : ℕ). take n (drop start p)) four) (ap (λ (n : ℕ). take n (drop start q)) four) c.with_bytes-change.ensures.sum c.with_bytes-change.ensures.is_some (omega (arith, second))) in
    subst (λ (o : Option Span). IsChange (segment_bytes a start o p) (segment_bytes a start o q) c.with_bytes-change.result) (sym c.in-None.is) whole

pub returns-in-Some : goal.returns-in-Some
returns-in-Some c =
    let a = c.args.addresses in
    let start = c.args.start in
    let p = c.args.old.now in
    let q = c.args.new.now in
    let zero : c.none.result.sum ≡ 0 = ap (λ (x : Change). x.sum) c.none.ensures in
    let first : c.with_bytes.result.sum ≤ 65536 * 33 = omega (arith, zero, c.with_bytes.ensures.bound, c.part.ensures.len, c.requires.few) in
    let second : c.with_bytes-change.result.sum ≤ 65536 * 38 = omega (arith, first, c.with_bytes-change.ensures.bound, length-take 4 (drop start p)) in
    let s = c.in-Some.span in
    let short : s.len ≤ 65537 = MatchOption-at_some ⊤ (λ s. s.len ≤ 65537) s c.in-Some.is c.requires.short in
    let third : c.with_data.result.sum < 65536 * 70000 = omega (arith, second, short, c.part-in-Some.ensures.len, c.with_data.ensures.bound) in
    let four : start + 4 - start ≡ 4 = omega arith in
    let whole = segment_changed_some a start s p q c.none.result c.with_bytes.result c.with_bytes-change.result c.with_data.result c.requires.same c.requires.addresses c.requires.even c.requires.ports c.none.ensures
    (step_at (bytes_at p a) (bytes_at q a) c.part.result.now c.part-2.result.now c.none.result c.with_bytes.result c.part.ensures.part c.part-2.ensures.part c.with_bytes.ensures.sum c.with_bytes.ensures.is_some (omega (arith, first)))
    (step_at (take 4 (drop start p)) (take 4 (drop start q)) (take (start + 4 - start) (drop start p)) (take (start + 4 - start) (drop start q)) c.with_bytes.result c.with_bytes-change.result
    (ap (λ (n : ℕ). take n (drop start p)) four) (ap (λ (n : ℕ). take n (drop start q)) four) c.with_bytes-change.ensures.sum c.with_bytes-change.ensures.is_some (omega (arith, second)))
    (step_at (take s.len (drop s.at p)) (take s.len (drop s.at q)) c.part-in-Some.result.now c.part-in-Some-2.result.now c.with_bytes-change.result c.with_data.result c.part-in-Some.ensures.part c.part-in-Some-2.ensures.part c.with_data.ensures.sum c.with_data.ensures.is_some (omega (arith, third))) in
    subst (λ (o : Option Span). IsChange (segment_bytes a start o p) (segment_bytes a start o q) c.with_data.result) (sym c.in-Some.is) whole
