-- Clauses that exclude each other, and bits past a prefix's length.
use Rattle.std.proofs.Common.{◌≡◌, ◌<◌, ◌≤◌, ◌+◌, ◌-◌, ◌*◌, ◌/◌, ◌%◌, ◌^◌, ◌∙◌, ℕ, List, [], ◌∷◌, Bool, true, false, refl, sym, ap, arith, Some, None, cond, ◌⊎◌, inl, inr}
use Rattle.std.specs.Prelude.{◌&&◌, ◌||◌, ◌==◌, not, nat_le, nat_lt, bit_and, Option}
use Rattle.std.specs.List.{list_all, list_any}
use Rattle.std.specs.Option.{option_map_or}
use Rattle.std.proofs.Math.Nat.{mod-add-div', mul-div_cancel}
use Rattle.std.proofs.lemmas.Bool.{eqb-true, eq-eqb, leb-true, leb-false, le-leb, ltb-true}
use Rattle.std.proofs.lemmas.Nat.{pow_pos, and_assoc, and_comm}
use Rattle.policy_text.specs.Meeting.{first_bits, is_within, is_within6, is_between, has_id, is_bare, has_bits, is_met, is_fitting}
use Rattle.policy_text.specs.declared.clause.Clause.{Clause}
use Rattle.policy_text.specs.declared.clause.Clause.TheVariants.{Src, Dst, Src6, Dst6, Sport, Dport, Proto, TagId, NoTag, Version4, Version6, Flags}
use Rattle.policy_text.specs.declared.clause.Match.{Match}
use Rattle.policy_text.specs.declared.seen.Seen.{Seen}
use Rattle.policy_text.specs.declared.seen.TagSeen.{TagSeen}
use Rattle.policy_text.specs.declared.seen.TagSeen.TheVariants.{Absent, Bare, Id}
use Rattle.policy_lint.specs.declared.versions.Version.TheVariants.{Ipv4, Ipv6}
use Rattle.policy_lint.specs.Opposing.{has_ports, are_apart, are_apart6, are_parted, are_contrary, opposes, is_opposed, clash, IsOfPacket}
use Rattle.policy_lint.specs.Spelling.{bits_past}
use Rattle.policy_lint.specs.Versions.{is_of, Lacks}
use Rattle.policy_lint.proofs.Covered.{both_true, right_of, same_front}
use Rattle.policy_lint.proofs.Denied.{negated, clause_unmet}

true_not_false : (b : Bool) → b ≡ true → b ≡ false → ⊥
true_not_false true h fails = cc
true_not_false false h fails = cc

-- Prefixes.

-- two prefixes of one address begin alike
begin_alike : (width p b q n a : ℕ) → n ≤ b → first_bits width b a ≡ first_bits width b p → first_bits width n a ≡ first_bits width n q → first_bits width n p ≡ first_bits width n q
begin_alike width p b q n a fewer within other =
    let apart : (width - b) + ((width - n) - (width - b)) ≡ width - n = omega arith in
    sym (same_front (width - b) ((width - n) - (width - b)) (width - n) a p apart within) ∙ other

-- so one of them lies in the other
not_apart : (width p b q n a : ℕ) → (not (nat_le n b && (first_bits width n p == first_bits width n q)) && not (nat_le b n && (first_bits width b q == first_bits width b p))) ≡ true →
    (first_bits width b a == first_bits width b p) ≡ true → (first_bits width n a == first_bits width n q) ≡ true → ⊥
not_apart width p b q n a h within other = by (nat_le n b) refl
  where
    parts : (not (nat_le n b && (first_bits width n p == first_bits width n q)) ≡ true) × (not (nat_le b n && (first_bits width b q == first_bits width b p)) ≡ true)
    parts = both_true (not (nat_le n b && (first_bits width n p == first_bits width n q))) (not (nat_le b n && (first_bits width b q == first_bits width b p))) h

    first : first_bits width b a ≡ first_bits width b p
    first = eqb-true (first_bits width b a) (first_bits width b p) within

    second : first_bits width n a ≡ first_bits width n q
    second = eqb-true (first_bits width n a) (first_bits width n q) other

    both_so : (x y : Bool) → x ≡ true → y ≡ true → not (x && y) ≡ true → ⊥
    both_so true true is so wrong = cc
    both_so true false is so wrong = cc
    both_so false y is so wrong = cc

    by : (x : Bool) → nat_le n b ≡ x → ⊥
    by true is = both_so (nat_le n b) (first_bits width n p == first_bits width n q) is
        (eq-eqb (first_bits width n p) (first_bits width n q) (begin_alike width p b q n a (leb-true n b is) first second)) parts.0
    by false is =
        let more : b < n = leb-false n b is in
        let fewer : b ≤ n = omega arith in
        both_so (nat_le b n) (first_bits width b q == first_bits width b p) (le-leb b n fewer)
        (eq-eqb (first_bits width b q) (first_bits width b p) (begin_alike width q n p b a fewer second first)) parts.1

-- a value that is there can't meet both
on_both : (f g : ℕ → Bool) (o : Option ℕ) → ((a : ℕ) → f a ≡ true → g a ≡ true → ⊥) → option_map_or f o false ≡ true → option_map_or g o false ≡ true → ⊥
on_both f g None never met other = cc
on_both f g (Some a) never met other = never a met other

-- Ranges.
not_parted : (low high least greatest port : ℕ) → are_parted low high least greatest ≡ true → is_between low high port ≡ true → is_between least greatest port ≡ true → ⊥
not_parted low high least greatest port h within other = by (nat_lt high least) refl
  where
    one : (nat_le low port ≡ true) × (nat_le port high ≡ true)
    one = both_true (nat_le low port) (nat_le port high) within

    two : (nat_le least port ≡ true) × (nat_le port greatest ≡ true)
    two = both_true (nat_le least port) (nat_le port greatest) other

    by : (x : Bool) → nat_lt high least ≡ x → ⊥
    by true is =
        let a : high < least = ltb-true high least is in
        let b : port ≤ high = leb-true port high one.1 in
        let c : least ≤ port = leb-true least port two.0 in
        omega arith
    by false is =
        let a : greatest < low = ltb-true greatest low (right_of (nat_lt high least) (nat_lt greatest low) h is) in
        let b : low ≤ port = leb-true low port one.0 in
        let c : port ≤ greatest = leb-true port greatest two.1 in
        omega arith

-- Versions, protocols, tags.
two_versions : (seen : Seen) (c e : Clause) → is_of Ipv4 c ≡ true → is_of Ipv6 e ≡ true → Lacks Ipv4 seen ⊎ Lacks Ipv6 seen → is_met seen c ≡ true → is_met seen e ≡ true → ⊥
two_versions seen c e four six (inl lacks) met other = true_not_false (is_met seen c) met (clause_unmet Ipv4 c seen four lacks)
two_versions seen c e four six (inr lacks) met other = true_not_false (is_met seen e) other (clause_unmet Ipv6 e seen six lacks)

same_protocol : (p : ℕ) (o : Option ℕ) → option_map_or (λ x. x == p) o false ≡ true → option_map_or has_ports o false ≡ has_ports p
same_protocol p None met = absurd cc
same_protocol p (Some x) met = ap has_ports (eqb-true x p met)

unmet_without : (f : ℕ → Bool) (o : Option ℕ) → o ≡ None → option_map_or f o false ≡ true → ⊥
unmet_without f o none met = true_not_false (option_map_or f o false) met (ap (λ x. option_map_or f x false) none)

no_ports : (seen : Seen) (p : ℕ) → IsOfPacket seen → not (has_ports p) ≡ true → option_map_or (λ x. x == p) seen.proto false ≡ true → (seen.sport ≡ None) × (seen.dport ≡ None)
no_ports seen p real h met = by real.ports
  where
    by : (option_map_or has_ports seen.proto false ≡ true) ⊎ ((seen.sport ≡ None) × (seen.dport ≡ None)) → (seen.sport ≡ None) × (seen.dport ≡ None)
    by (inl has) = absurd (true_not_false (has_ports p) (sym (same_protocol p seen.proto met) ∙ has) (negated (has_ports p) h))
    by (inr none) = none

two_numbers : (p q : ℕ) → not (p == q) ≡ true → (x : ℕ) → (x == p) ≡ true → (x == q) ≡ true → ⊥
two_numbers p q h x met other = true_not_false (p == q) (eq-eqb p q (sym (eqb-true x p met) ∙ eqb-true x q other)) (negated (p == q) h)

two_ids : (id other : ℕ) (tag : TagSeen) → not (id == other) ≡ true → has_id id tag ≡ true → has_id other tag ≡ true → ⊥
two_ids id other Absent h met more = cc
two_ids id other Bare h met more = cc
two_ids id other (Id n) h met more = two_numbers id other h n met more

tagged_bare : (id : ℕ) (tag : TagSeen) → has_id id tag ≡ true → is_bare tag ≡ true → ⊥
tagged_bare id Absent met bare = cc
tagged_bare id Bare met bare = cc
tagged_bare id (Id n) met bare = cc

-- Flags.
not_contrary : (mask set other some flags : ℕ) → are_contrary mask set other some ≡ true → has_bits mask set flags ≡ true → has_bits other some flags ≡ true → ⊥
not_contrary mask set other some flags h met more =
    true_not_false (bit_and set other == bit_and some mask)
    (eq-eqb (bit_and set other) (bit_and some mask)
    (ap (λ n. bit_and n other) (sym (eqb-true (bit_and flags mask) set met)) ∙ and_assoc other flags mask ∙ ap (bit_and flags) (and_comm mask other)
    ∙ sym (and_assoc mask flags other) ∙ ap (λ n. bit_and n mask) (eqb-true (bit_and flags other) some more)))
    (negated (bit_and set other == bit_and some mask) h)

flags_of_tcp : (seen : Seen) (p mask set : ℕ) → IsOfPacket seen → not (p == 6) ≡ true → option_map_or (λ x. x == p) seen.proto false ≡ true → option_map_or (has_bits mask set) seen.tcp_flags false ≡ true → ⊥
flags_of_tcp seen p mask set real h met more = by real.flags
  where
    by : (seen.proto ≡ Some 6) ⊎ (seen.tcp_flags ≡ None) → ⊥
    by (inl tcp) =
        let same : (6 == p) ≡ true = sym (ap (λ o. option_map_or (λ x. x == p) o false) tcp) ∙ met in
        true_not_false (p == 6) (eq-eqb p 6 (sym (eqb-true 6 p same))) (negated (p == 6) h)
    by (inr none) = unmet_without (has_bits mask set) seen.tcp_flags none more

-- Clauses.
pub not_both : (seen : Seen) (c e : Clause) → IsOfPacket seen → opposes c e ≡ true → is_met seen c ≡ true → is_met seen e ≡ true → ⊥
not_both seen (Src p b) (Src q n) real h met other = on_both (is_within p b) (is_within q n) seen.src (λ a. not_apart 32 p b q n a h) met other
not_both seen (Src p b) (Src6 q n) real h met other = two_versions seen (Src p b) (Src6 q n) refl refl real.one_version met other
not_both seen (Src p b) (Dst6 q n) real h met other = two_versions seen (Src p b) (Dst6 q n) refl refl real.one_version met other
not_both seen (Dst p b) (Dst q n) real h met other = on_both (is_within p b) (is_within q n) seen.dst (λ a. not_apart 32 p b q n a h) met other
not_both seen (Dst p b) (Src6 q n) real h met other = two_versions seen (Dst p b) (Src6 q n) refl refl real.one_version met other
not_both seen (Dst p b) (Dst6 q n) real h met other = two_versions seen (Dst p b) (Dst6 q n) refl refl real.one_version met other
not_both seen (Src6 p b) (Src6 q n) real h met other = on_both (is_within6 p b) (is_within6 q n) seen.src6 (λ a. not_apart 128 p b q n a h) met other
not_both seen (Src6 p b) (Src q n) real h met other = two_versions seen (Src q n) (Src6 p b) refl refl real.one_version other met
not_both seen (Src6 p b) (Dst q n) real h met other = two_versions seen (Dst q n) (Src6 p b) refl refl real.one_version other met
not_both seen (Dst6 p b) (Dst6 q n) real h met other = on_both (is_within6 p b) (is_within6 q n) seen.dst6 (λ a. not_apart 128 p b q n a h) met other
not_both seen (Dst6 p b) (Src q n) real h met other = two_versions seen (Src q n) (Dst6 p b) refl refl real.one_version other met
not_both seen (Dst6 p b) (Dst q n) real h met other = two_versions seen (Dst q n) (Dst6 p b) refl refl real.one_version other met
not_both seen (Sport l u) (Sport m g) real h met other = on_both (is_between l u) (is_between m g) seen.sport (λ a. not_parted l u m g a h) met other
not_both seen (Sport l u) (Proto p) real h met other = unmet_without (is_between l u) seen.sport (no_ports seen p real h other).0 met
not_both seen (Dport l u) (Dport m g) real h met other = on_both (is_between l u) (is_between m g) seen.dport (λ a. not_parted l u m g a h) met other
not_both seen (Dport l u) (Proto p) real h met other = unmet_without (is_between l u) seen.dport (no_ports seen p real h other).1 met
not_both seen (Proto p) (Sport l u) real h met other = unmet_without (is_between l u) seen.sport (no_ports seen p real h met).0 other
not_both seen (Proto p) (Dport l u) real h met other = unmet_without (is_between l u) seen.dport (no_ports seen p real h met).1 other
not_both seen (Proto p) (Proto q) real h met other = on_both (λ x. x == p) (λ x. x == q) seen.proto (two_numbers p q h) met other
not_both seen (TagId id) (TagId more) real h met other = two_ids id more seen.tag h met other
not_both seen (TagId id) NoTag real h met other = tagged_bare id seen.tag met other
not_both seen NoTag (TagId id) real h met other = tagged_bare id seen.tag other met
not_both seen Version4 Version6 real h met other = two_versions seen Version4 Version6 refl refl real.one_version met other
not_both seen Version4 (Src6 q n) real h met other = two_versions seen Version4 (Src6 q n) refl refl real.one_version met other
not_both seen Version4 (Dst6 q n) real h met other = two_versions seen Version4 (Dst6 q n) refl refl real.one_version met other
not_both seen Version6 Version4 real h met other = two_versions seen Version4 Version6 refl refl real.one_version other met
not_both seen Version6 (Src q n) real h met other = two_versions seen (Src q n) Version6 refl refl real.one_version other met
not_both seen Version6 (Dst q n) real h met other = two_versions seen (Dst q n) Version6 refl refl real.one_version other met
not_both seen (Src p b) Version6 real h met other = two_versions seen (Src p b) Version6 refl refl real.one_version met other
not_both seen (Dst p b) Version6 real h met other = two_versions seen (Dst p b) Version6 refl refl real.one_version met other
not_both seen (Src6 p b) Version4 real h met other = two_versions seen Version4 (Src6 p b) refl refl real.one_version other met
not_both seen (Dst6 p b) Version4 real h met other = two_versions seen Version4 (Dst6 p b) refl refl real.one_version other met
not_both seen (Flags m s) (Flags o t) real h met other = on_both (has_bits m s) (has_bits o t) seen.tcp_flags (λ f. not_contrary m s o t f h) met other
not_both seen (Flags m s) (Proto p) real h met other = flags_of_tcp seen p m s real h other met
not_both seen (Proto p) (Flags m s) real h met other = flags_of_tcp seen p m s real h met other
not_both seen c e real h met other = cc

-- one of the things passes, and with all of them the other test
one_of : {T : Type 0} (p q : T → Bool) (things : List T) → list_any p things ≡ true → list_all q things ≡ true → (t : T) × (p t ≡ true) × (q t ≡ true)
one_of p q [] h all = absurd cc
one_of {T} p q (t ∷ things) h all = by (p t) refl (λ later. one_of p q things later parts.1)
  where
    parts : (q t ≡ true) × (list_all q things ≡ true)
    parts = both_true (q t) (list_all q things) all

    by : (b : Bool) → p t ≡ b → (list_any p things ≡ true → (x : T) × (p x ≡ true) × (q x ≡ true)) → (x : T) × (p x ≡ true) × (q x ≡ true)
    by true is later = (t, is, parts.0)
    by false is later = later (right_of (p t) (list_any p things) h is)

pub never_met : (fit : Match) (seen : Seen) → clash fit ≡ true → IsOfPacket seen → is_fitting fit seen ≡ false
never_met fit seen h real = by (is_fitting fit seen) refl
  where
    by : (b : Bool) → is_fitting fit seen ≡ b → is_fitting fit seen ≡ false
    by false is = is
    by true is =
        let c = one_of (is_opposed fit.clauses) (is_met seen) fit.clauses h is in
        let e = one_of (opposes c.0) (is_met seen) fit.clauses c.1 is in
        absurd (not_both seen c.0 e.0 real e.1 c.2 e.2)

-- Bits past the length.
same_quotient : (n d : ℕ) → 0 < d → (n - n % d) / d ≡ n / d
same_quotient n d some =
    let whole : n % d + n / d * d ≡ n = mod-add-div' n d in
    let rest : n - n % d ≡ n / d * d = omega (arith, whole) in
    ap (λ x. x / d) rest ∙ mul-div_cancel (n / d) some

pub same_within : (prefix bits address : ℕ) → is_within (prefix - bits_past 32 bits prefix) bits address ≡ is_within prefix bits address
same_within prefix bits address = ap (λ x. first_bits 32 bits address == x) (same_quotient prefix (2 ^ (32 - bits)) (pow_pos (32 - bits)))
