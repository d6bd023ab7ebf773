-- The sum of a segment and of what is before it.
use Rattle.std.proofs.Common.{◌≡◌, ◌+◌, ◌-◌, ◌∙◌, ℕ, List, ◌++◌, sum, length, take, drop, ap, arith}
use Rattle.std.proofs.lemmas.List.{take_rest}
use Rattle.packet_fields.specs.Checksums.{folded, words}
use Rattle.packet_fields.proofs.Rightness.{sum-append}
use Rattle.internet_checksum.specs.Checksums.{checksum_of}
use Rattle.demo_capture.specs.declared.draws.Draws.{Draws}
use Rattle.demo_capture.specs.DemoFrames.{frame_with, ip_header, pseudo_header, segment_with}

-- a segment after what is before it in its sum
pub sum_pseudo : (r : Draws) (xs : List ℕ) → sum (words (pseudo_header r ++ xs)) ≡ sum (words (pseudo_header r)) + sum (words xs)
unfolding words
sum_pseudo r xs = sum-append (words (pseudo_header r)) (words xs)

pub segment_part : (r : Draws) (frame : List ℕ) → frame ≡ frame_with 0 r → take (length frame - 34) (drop 34 frame) ≡ segment_with 0 r
unfolding frame_with ip_header
segment_part r frame is = take_rest frame 34 ∙ ap (λ xs. drop 34 xs) is

-- the complement of both sums
pub segment_sum_is : (r : Draws) (front frame : List ℕ) (m n : ℕ) → front ≡ pseudo_header r → frame ≡ frame_with 0 r → m ≡ sum (words front) → n ≡ sum (words (take (length frame - 34) (drop 34 frame)))
    → 0xffff - folded (m + n) ≡ checksum_of (pseudo_header r ++ segment_with 0 r)
unfolding checksum_of
segment_sum_is r front frame m n is_front is_frame is_m is_n =
    let first : m ≡ sum (words (pseudo_header r)) = is_m ∙ ap (λ (xs : List ℕ). sum (words xs)) is_front in
    let second : n ≡ sum (words (segment_with 0 r)) = is_n ∙ ap (λ (xs : List ℕ). sum (words xs)) (segment_part r frame is_frame) in
    let both : m + n ≡ sum (words (pseudo_header r ++ segment_with 0 r)) = omega (arith, first, second, sum_pseudo r (segment_with 0 r)) in
    ap (λ (k : ℕ). 0xffff - folded k) both
