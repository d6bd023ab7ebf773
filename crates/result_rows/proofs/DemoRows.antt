-- The policy of a demo, judged by the definitions.
use Rattle.std.proofs.Common.{◌≡◌, ◌∙◌, ℕ, zero, suc, List, [], ◌∷◌, length, Bool, true, false, refl, ap, sym, subst, arith}
use Rattle.std.specs.Prelude.{IsAscii, IsOk, Err, if◌then◌else◌, ◌==◌, ◌&&◌, nat_lt}
use Rattle.std.specs.Str.Lossy.{utf8_valid_len}
use Rattle.std.proofs.lemmas.Bool.{and_parts, eq-eqb}
use Rattle.std.proofs.lemmas.Bool.Decides.{nat_tests}
use Rattle.std.proofs.lemmas.Str.{IsUtf8-from_ascii, utf8_valid_len-IsUtf8}
use Rattle.std.proofs.lemmas.Str.Ascii.{IsAscii-nil}
use Rattle.dependency_table.specs.Actions.{all_actions, actions}
use Rattle.dependency_table.specs.Table.{pairs, first_forbidden, is_copied, copied, pair_of}
use Rattle.policy_text.specs.Grammar.{policy_of, policy_of_utf8, after_line}
use Rattle.policy_check.specs.Checked.{answer_of}
use Rattle.policy_check.specs.Cycles.{cycle_back, from_earliest, named_cycle}
use Rattle.policy_check.specs.Edges.{edges_of}
use Rattle.policy_check.specs.Refusals.{first_refusal}
use Rattle.policy_check.specs.Turns.{taken, stuck}
use Rattle.policy_text.specs.declared.fault.TextFault.TheVariants.{NotUtf8}
use Rattle.policy_judge.specs.declared.fault.PolicyFault.TheVariants.{TooLong}
use Rattle.policy_judge.specs.Judging.{judged, judged_text, orders_from, told}
use Rattle.policy_judge.specs.Lines.{too_long_line}
use Rattle.net_functions.specs.Builds.{making_of}
use Rattle.nf_filter.specs.Lines.{line_of as firewall_line_of}
use Rattle.nf_translate.specs.NatLines.{line_of as nat_line_of}
use Rattle.nf_translate.specs.BalancerLines.{line_of as balancer_line_of}
use Rattle.nf_observe.specs.LimiterLines.{line_of as limiter_line_of}
use Rattle.nf_mark.specs.MarkerLines.{line_of as marker_line_of}
use Rattle.nf_mark.specs.TaggerLines.{line_of as tagger_line_of}
use Rattle.patterns.specs.Lines.{line_of as pattern_line_of}
use Rattle.demo_capture.specs.DemoCapture.{policy_text, policy_lines}

-- its lines have no fault
accepted : IsOk (judged_text (policy_of_utf8 policy_text))
unfolding policy_text policy_lines making_of firewall_line_of nat_line_of balancer_line_of limiter_line_of marker_line_of tagger_line_of pattern_line_of policy_of_utf8 after_line orders_from answer_of edges_of taken stuck named_cycle from_earliest cycle_back first_refusal pair_of first_forbidden pairs actions all_actions is_copied copied
accepted = refl

all_ascii : List ℕ → Bool
all_ascii [] = true
all_ascii (b ∷ bs) = nat_lt b 128 && all_ascii bs

is_ascii : (bs : List ℕ) → all_ascii bs ≡ true → IsAscii bs
unfolding all_ascii
is_ascii [] all i = IsAscii-nil i
is_ascii (b ∷ bs) all zero = let small = (and_parts (nat_lt b 128) (all_ascii bs) all).0 in grind (arith, nat_tests, small)
is_ascii (b ∷ bs) all (suc i) = is_ascii bs (and_parts (nat_lt b 128) (all_ascii bs) all).1 i

in_ascii : all_ascii policy_text ≡ true
unfolding all_ascii policy_text policy_lines
in_ascii = refl

short : nat_lt 1048576 (length policy_text) ≡ false
unfolding policy_text policy_lines
short = refl

in_utf8 : (utf8_valid_len policy_text == length policy_text) ≡ true
in_utf8 = eq-eqb (utf8_valid_len policy_text) (length policy_text) (utf8_valid_len-IsUtf8 policy_text (IsUtf8-from_ascii policy_text (is_ascii policy_text in_ascii)))

-- the text is accepted: it is short, it is UTF-8, and its lines have no fault
pub demo_is_judged : IsOk (judged policy_text)
unfolding judged policy_of
demo_is_judged =
    subst IsOk (sym (ap (λ b. if b then Err (told TooLong too_long_line) else judged_text (policy_of policy_text)) short
    ∙ ap (λ b. judged_text (if b then policy_of_utf8 policy_text else Err (NotUtf8 (utf8_valid_len policy_text)))) in_utf8)) accepted
