-- Each option gives the resolution, or is skipped.
use Rattle.std.proofs.Common.{◌≡◌, ◌∙◌, ◌<◌, ◌+◌, Some, None, ap, sym, subst, arith, length}
use Rattle.capture_bytes.specs.Numbers.{number_at}
use Rattle.pcapng_io.specs.Options.{padded}
use Rattle.pcapng_io.proofs.OptionList.{Searching, search_stops, search_over, search_passes, search_finds, search_ends, known_end, may_pass, is_unknown}
use Rattle.pcapng_io.proofs.options.resolution_among.Goals as goal

pub returns-then-code-eq-END : goal.returns-then-code-eq-END
returns-then-code-eq-END c =
    ap (λ r. Some r) (c.unwrap_or.ensures ∙ known_end c.options.found)
    ∙ sym (search_stops c.args.order c.args.bytes.now c.options.at c.options.found c.options.invariant c.options-test.true (sym c.u16_at-code.ensures ∙ c.if-code-eq-END.true))

pub returns-then-next-bytes : goal.returns-then-next-bytes
returns-then-next-bytes c =
    let over : length c.args.bytes.now < c.options.at + 4 + padded (number_at c.args.order 2 (c.options.at + 2) c.args.bytes.now) = omega (arith, c.if-next-bytes.true, c.padded.ensures ∙ ap padded c.u16_at-length.ensures) in
    sym (search_over c.args.order c.args.bytes.now c.options.at c.options.found c.options.invariant c.options-test.true (omega (arith, c.if-code-eq-END.false, c.u16_at-code.ensures)) over)

pub options-preserved-then-length-eq1 : goal.options-preserved-then-length-eq1
options-preserved-then-length-eq1 c =
    let size : c.padded.result ≡ padded (number_at c.args.order 2 (c.options.at + 2) c.args.bytes.now) = c.padded.ensures ∙ ap padded c.u16_at-length.ensures in
    let so_far : Searching c.args.order c.args.bytes.now c.options.at None = subst (Searching c.args.order c.args.bytes.now c.options.at) (is_unknown c.options.found c.if-is_none.ensures) c.options.invariant in
    rw size (search_finds c.args.order c.args.bytes.now c.options.at so_far c.options-test.true (sym c.u16_at-code.ensures ∙ c.if-code-eq-RESOLUTION.true) (sym c.u16_at-length.ensures ∙ c.if-length-eq1.true)
    (omega (arith, c.if-next-bytes.false, size)))

pub options-preserved : goal.options-preserved
options-preserved c =
    let size : c.padded.result ≡ padded (number_at c.args.order 2 (c.options.at + 2) c.args.bytes.now) = c.padded.ensures ∙ ap padded c.u16_at-length.ensures in
    rw size (search_passes c.args.order c.args.bytes.now c.options.at c.options.found c.options.invariant c.options-test.true (omega (arith, c.if-code-eq-END.false, c.u16_at-code.ensures))
    (omega (arith, c.if-next-bytes.false, size))
    (λ none nine one. may_pass c.options.found c.is_none.result c.u16_at-code.result c.u16_at-length.result c.is_none.ensures c.else-is_none.either none (c.u16_at-code.ensures ∙ nine) (c.u16_at-length.ensures ∙ one)))

pub returns : goal.returns
returns c = ap (λ r. Some r) (c.unwrap_or-2.ensures ∙ known_end c.options.found) ∙ sym (search_ends c.args.order c.args.bytes.now c.options.at c.options.found c.options.invariant c.options-test.false)
