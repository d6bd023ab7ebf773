use Rattle.std.proofs.Common.{◌≡◌, ◌∙◌, List, length, ap, sym}
use Rattle.std.specs.Prelude.{Option, Some}
use Rattle.packet_version.specs.declared.loan.Loan.{Loan}
use Rattle.packet_version.specs.Parts.{PlainPart, PlainHeld, Parts, as_map}
use Rattle.packet_version.specs.Splitting.{packet_parts}
use Rattle.packet_version.specs.Rejoining.{rejoined_by, rejoined_parts, with_rejoined}
use Rattle.packet_version.proofs.Maps.{as_list-again}
use Rattle.packet_version.proofs.PutTogether.{base_of, beside_kept, beside_rejoined, beside_whole, beside_again, packet_whole, packet_again}
use Rattle.packet_version.proofs.version.Version.rejoin.Goals as goal

pub invariant_of-result : goal.invariant_of-result
invariant_of-result c =
    let within = c.self.inside.within in
    let own = c.self.inside.own.items in
    let lent = c.self.inside.lent in
    let touch = c.self.inside.touch in
    let fixed = c.self.inside.fixed in
    packet_whole within own lent c.in-Some.held touch fixed c.args.self c.in-Some.is c.self.view_is c.requires.whole

pub returns-in-Some : goal.returns-in-Some
returns-in-Some c =
    let within = c.self.inside.within in
    let own = c.self.inside.own.items in
    let lent = c.self.inside.lent in
    let touch = c.self.inside.touch in
    let fixed = c.self.inside.fixed in
    packet_again within own lent c.in-Some.held touch fixed c.args.self c.in-Some.is c.has_ten.ensures c.self.view_is

pub put_all_back-requires-clause-listed : goal.put_all_back-requires-clause-listed
put_all_back-requires-clause-listed c = sym (as_list-again c.in-Some-Whole.held.parts c.has_ten-2.ensures)

pub put_all_back-requires-clause-there : goal.put_all_back-requires-clause-there
put_all_back-requires-clause-there c = λ f w. ap (λ (xs : List (Option PlainPart)). length xs) c.as_mut_slice.ensures.value ∙ c.self.invariant.there c.in_default.is f w

pub finish-requires : goal.finish-requires
finish-requires c =
    let within = c.self.inside.within in
    let own = c.self.inside.own.items in
    let lent = c.self.inside.lent in
    let touch = c.self.inside.touch in
    let fixed = c.self.inside.fixed in
    let held = c.in-Some-Whole.held in
    let base = base_of held fixed in
    let kept = beside_kept within own lent held touch fixed c.args.self c.in_default.is (c.in-Some-Whole.is ∙ ap (λ (l : Loan PlainHeld). Some l) c.in-Some-Whole.field-0-is) c.self.view_is in
    let made : c.put_all_back.new.gathered ≡ with_rejoined base (rejoined_parts c.args.self base) =
    c.put_all_back.ensures
    ∙ (ap (λ (xs : List (Option PlainPart)). with_rejoined base (rejoined_by touch (as_map xs) (packet_parts base))) c.as_mut_slice.ensures.value
    ∙ ap (λ (m : Parts). with_rejoined base m) (beside_rejoined within own lent touch fixed c.args.self base c.in_default.is c.self.view_is)) in
    beside_whole c.args.self base c.put_all_back.new.gathered kept made c.requires.whole

pub returns : goal.returns
returns c =
    let within = c.self.inside.within in
    let own = c.self.inside.own.items in
    let lent = c.self.inside.lent in
    let touch = c.self.inside.touch in
    let fixed = c.self.inside.fixed in
    let held = c.in-Some-Whole.held in
    let base = base_of held fixed in
    let kept = beside_kept within own lent held touch fixed c.args.self c.in_default.is (c.in-Some-Whole.is ∙ ap (λ (l : Loan PlainHeld). Some l) c.in-Some-Whole.field-0-is) c.self.view_is in
    let made : c.put_all_back.new.gathered ≡ with_rejoined base (rejoined_parts c.args.self base) =
    c.put_all_back.ensures
    ∙ (ap (λ (xs : List (Option PlainPart)). with_rejoined base (rejoined_by touch (as_map xs) (packet_parts base))) c.as_mut_slice.ensures.value
    ∙ ap (λ (m : Parts). with_rejoined base m) (beside_rejoined within own lent touch fixed c.args.self base c.in_default.is c.self.view_is)) in
    beside_again c.args.self base c.finish.result kept (c.finish.ensures ∙ made)
