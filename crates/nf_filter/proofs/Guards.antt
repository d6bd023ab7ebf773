-- A guard passes what meets the clauses.
use Rattle.std.proofs.Common.{◌≡◌, ◌-◌, ◌+◌, ◌*◌, ◌/◌, ◌%◌, ◌^◌, ◌∙◌, ℕ, List, [], ◌∷◌, sym, ap, refl, true, false, arith, bit_and}
use Rattle.std.specs.Prelude.{Option, Some, None, fold}
use Rattle.std.specs.Option.{option_map_or}
use Rattle.std.specs.List.{list_all}
use Rattle.std.specs.Int.Bits.{and_zero_r}
use Rattle.std.proofs.lemmas.Bool.{true≢false, and_parts, and_from, eq-eqb, eqb-true, false_from_ne_true, both_ways}
use Rattle.std.proofs.lemmas.Nat.Bits.{and_high}
use Rattle.policy_text.specs.declared.clause.Clause.{Clause}
use Rattle.policy_text.specs.declared.clause.Clause.TheVariants.{Src, Dst, Src6, Dst6, Sport, Dport, Proto, TagId, NoTag, Version4, Version6, Flags}
use Rattle.policy_text.specs.declared.clause.Match.{Match}
use Rattle.policy_text.specs.declared.seen.Seen.{Seen}
use Rattle.policy_text.specs.Meeting.{is_within, is_met, is_fitting}
use Rattle.nf_filter.specs.declared.guard.Guard.{Guard}
use Rattle.nf_filter.specs.Guards.{mask_of, prefix_of, covers, with_clause, open_guard, guard_of, lets}

-- an address that begins with a prefix's first bits has its bits under the mask
under_mask : (n bits : ℕ) → bit_and n (mask_of bits) ≡ n / 2 ^ (32 - bits) % 2 ^ (32 - (32 - bits)) * 2 ^ (32 - bits)
under_mask n bits =
    let k = 32 - bits in
    let whole : 32 - k + k ≡ 32 = omega arith in
    ap (λ w. bit_and n (2 ^ w - 2 ^ k)) (sym whole) ∙ and_high n (32 - k) k

within_covered : (prefix bits : ℕ) (address : Option ℕ) → (a : ℕ) → address ≡ Some a → is_within prefix bits a ≡ true → covers (prefix_of prefix bits) address ≡ true
within_covered prefix bits (Some b) a is within =
    let same : b ≡ a = cc in
    let first = eqb-true (a / 2 ^ (32 - bits)) (prefix / 2 ^ (32 - bits)) within in
    eq-eqb (bit_and b (mask_of bits)) (bit_and prefix (mask_of bits))
    (ap (λ n. bit_and n (mask_of bits)) same ∙ under_mask a bits ∙ ap (λ q. q % 2 ^ (32 - (32 - bits)) * 2 ^ (32 - bits)) first ∙ sym (under_mask prefix bits))
within_covered prefix bits None a is within = absurd cc

covered : (prefix bits : ℕ) (address : Option ℕ) → option_map_or (is_within prefix bits) address false ≡ true → covers (prefix_of prefix bits) address ≡ true
covered prefix bits (Some a) h = within_covered prefix bits (Some a) a refl h
covered prefix bits None h = absurd (true≢false (sym h))

one_more : (guard : Guard) (clause : Clause) (seen : Seen) → lets guard seen ≡ true → is_met seen clause ≡ true → lets (with_clause guard clause) seen ≡ true
one_more guard (Src prefix bits) seen h met =
    let parts = and_parts (covers guard.source seen.src) (covers guard.destination seen.dst) h in
    and_from (covers (prefix_of prefix bits) seen.src) (covers guard.destination seen.dst) (covered prefix bits seen.src met) parts.1
one_more guard (Dst prefix bits) seen h met =
    let parts = and_parts (covers guard.source seen.src) (covers guard.destination seen.dst) h in
    and_from (covers guard.source seen.src) (covers (prefix_of prefix bits) seen.dst) parts.0 (covered prefix bits seen.dst met)
one_more guard (Src6 prefix bits) seen h met = h
one_more guard (Dst6 prefix bits) seen h met = h
one_more guard (Sport low high) seen h met = h
one_more guard (Dport low high) seen h met = h
one_more guard (Proto p) seen h met = h
one_more guard (TagId id) seen h met = h
one_more guard NoTag seen h met = h
one_more guard Version4 seen h met = h
one_more guard Version6 seen h met = h
one_more guard (Flags mask set) seen h met = h

all_more : (clauses : List Clause) (guard : Guard) (seen : Seen) → lets guard seen ≡ true → list_all (is_met seen) clauses ≡ true → lets (fold with_clause guard clauses) seen ≡ true
all_more [] guard seen h met = h
all_more (clause ∷ clauses) guard seen h met =
    let parts = and_parts (is_met seen clause) (list_all (is_met seen) clauses) met in
    all_more clauses (with_clause guard clause) seen (one_more guard clause seen h parts.0) parts.1

open_lets : (seen : Seen) → lets open_guard seen ≡ true
open_lets seen =
    and_from (covers open_guard.source seen.src) (covers open_guard.destination seen.dst)
    (eq-eqb _ 0 (and_zero_r (option_map_or (λ a. a) seen.src 0))) (eq-eqb _ 0 (and_zero_r (option_map_or (λ a. a) seen.dst 0)))

-- what a guard doesn't pass doesn't meet the clauses
pub not_let : (guard : Guard) (fit : Match) (seen : Seen) → guard ≡ guard_of fit → lets guard seen ≡ false → is_fitting fit seen ≡ false
not_let guard fit seen is h = false_from_ne_true (is_fitting fit seen) (λ met.
    both_ways (lets guard seen) h (ap (λ g. lets g seen) is ∙ all_more fit.clauses open_guard seen (open_lets seen) met))
