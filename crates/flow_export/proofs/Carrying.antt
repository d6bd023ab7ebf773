-- Which lines the packets carry.
use Rattle.std.proofs.Common.{◌≡◌, ◌≤◌, ◌<◌, ◌+◌, ◌*◌, ◌∙◌, ℕ, zero, suc, List, ◌++◌, length, take, drop, refl, sym, ap, drop-drop, take-add, length-drop, arith}
use Rattle.std.specs.List.{flat_map, range_with_len}
use Rattle.std.proofs.lemmas.Grind.{div_ceil_times}
use Rattle.std.proofs.lemmas.List.{length-take, take_all}
use Rattle.flow_line.specs.declared.line.FlowLine.{FlowLine}
use Rattle.flow_export.specs.Collecting.{carried_by, carried_in, packets_of}
use Rattle.flow_export.specs.Exports.{exported, lines_of}

-- the lines of this number of packets from this one on
in_a_row : (lines : List FlowLine) (first count : ℕ) → flat_map (lines_of lines) (range_with_len first count) ≡ take (30 * count) (drop (30 * first) lines)
in_a_row lines first zero = refl
in_a_row lines first (suc count) =
    let more : 30 * suc count ≡ 30 + 30 * count = omega arith in
    let next : 30 * first + 30 ≡ 30 * (first + 1) = omega arith in
    ap (λ l. lines_of lines first ++ l) (in_a_row lines (first + 1) count ∙ ap (λ n. take (30 * count) (drop n lines)) (sym next) ∙ ap (take (30 * count)) (sym (drop-drop 30 (30 * first) lines)))
    ∙ sym (take-add 30 (30 * count) (drop (30 * first) lines))
    ∙ ap (λ n. take n (drop (30 * first) lines)) (sym more)

from_the_first : (lines : List FlowLine) (count : ℕ) → carried_in lines count ≡ take (30 * count) (exported lines)
from_the_first lines count = in_a_row (exported lines) 0 count

pub all_carried : (lines : List FlowLine) → carried_in lines (packets_of lines) ≡ exported lines
all_carried lines =
    let bound = div_ceil_times (length (exported lines)) 30 (omega arith) in
    from_the_first lines (packets_of lines) ∙ take_all (30 * packets_of lines) (exported lines) (omega (arith, bound.0))

pub counts_before : (lines : List FlowLine) (number : ℕ) → number < packets_of lines → length (carried_in lines number) ≡ 30 * number
counts_before lines number inside =
    let bound = div_ceil_times (length (exported lines)) 30 (omega arith) in
    let size = length-take (30 * number) (exported lines) in
    ap length (from_the_first lines number) ∙ omega (arith, bound.1, size, inside)

pub thirty_each : (lines : List FlowLine) (number : ℕ) → number + 1 < packets_of lines → length (carried_by lines number) ≡ 30
thirty_each lines number inside =
    let bound = div_ceil_times (length (exported lines)) 30 (omega arith) in
    let size = length-take 30 (drop (30 * number) (exported lines)) in
    let left = length-drop (30 * number) (exported lines) in
    omega (arith, bound.1, size, left, inside)

pub last_has_some : (lines : List FlowLine) (number : ℕ) → number + 1 ≡ packets_of lines → 0 < length (carried_by lines number)
last_has_some lines number inside =
    let bound = div_ceil_times (length (exported lines)) 30 (omega arith) in
    let size = length-take 30 (drop (30 * number) (exported lines)) in
    let left = length-drop (30 * number) (exported lines) in
    omega (arith, bound.1, size, left, inside)

pub thirty_at_most : (lines : List FlowLine) (number : ℕ) → length (carried_by lines number) ≤ 30
thirty_at_most lines number = let size = length-take 30 (drop (30 * number) (exported lines)) in omega (arith, size)
