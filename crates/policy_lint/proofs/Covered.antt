-- What clauses cover others is worth.
use Rattle.std.proofs.Common.{◌≡◌, ◌≢◌, ◌<◌, ◌≤◌, ◌+◌, ◌-◌, ◌/◌, ◌^◌, ◌∙◌, ℕ, List, [], ◌∷◌, ◌++◌, length, get_or, Bool, true, false, refl, sym, ap, subst, arith, Some, None, cond, suc}
use Rattle.std.specs.Prelude.{◌&&◌, ◌||◌, ◌==◌, nat_le, bit_and, Option, find, position}
use Rattle.std.specs.List.{list_all, list_any}
use Rattle.std.specs.Option.{option_map_or}
use Rattle.std.proofs.Math.Nat.{div-div-eq-div-mul}
use Rattle.std.proofs.lemmas.Nat.{pow-add, and_assoc}
use Rattle.std.proofs.lemmas.Bool.{eqb-true, eq-eqb, leb-true, le-leb}
use Rattle.std.proofs.lemmas.List.Quantifiers.{position-Some}
use Rattle.policy_text.specs.Meeting.{first_bits, is_within, is_within6, is_between, has_id, has_bits, is_met, is_fitting}
use Rattle.policy_text.specs.declared.clause.Clause.{Clause}
use Rattle.policy_text.specs.declared.clause.Clause.TheVariants.{Src, Dst, Src6, Dst6, Sport, Dport, Proto, TagId, NoTag, Version4, Version6, Flags}
use Rattle.policy_text.specs.declared.clause.Match.{Match}
use Rattle.policy_text.specs.declared.seen.Seen.{Seen}
use Rattle.policy_text.specs.declared.seen.TagSeen.{TagSeen}
use Rattle.policy_text.specs.declared.seen.TagSeen.TheVariants.{Absent, Bare, Id}
use Rattle.function_lines.specs.Rules.{first_met}
use Rattle.policy_lint.specs.Implying.{is_part, asks_more, implies, covers}

pub both_true : (a b : Bool) → (a && b) ≡ true → (a ≡ true) × (b ≡ true)
both_true true b h = (refl, h)
both_true false b h = absurd cc

both : (a b : Bool) → a ≡ true → b ≡ true → (a && b) ≡ true
both true b first second = second
both false b first second = absurd cc

pub right_of : (a b : Bool) → (a || b) ≡ true → a ≡ false → b ≡ true
right_of true b h fails = absurd cc
right_of false b h fails = h

left_or : (a b : Bool) → a ≡ true → (a || b) ≡ true
left_or true b h = refl
left_or false b h = absurd cc

right_or : (a b : Bool) → b ≡ true → (a || b) ≡ true
right_or true b h = refl
right_or false b h = h

-- Prefixes.

-- the first bits are the first of more first bits
fewer_bits : (m k n address : ℕ) → m + k ≡ n → address / 2 ^ n ≡ address / 2 ^ m / 2 ^ k
fewer_bits m k n address is =
    ap (λ e. address / 2 ^ e) (sym is) ∙ ap (λ d. address / d) (pow-add 2 m k) ∙ sym (div-div-eq-div-mul address (2 ^ m) (2 ^ k))

pub same_front : (m k n address prefix : ℕ) → m + k ≡ n → address / 2 ^ m ≡ prefix / 2 ^ m → address / 2 ^ n ≡ prefix / 2 ^ n
same_front m k n address prefix is same = fewer_bits m k n address is ∙ ap (λ f. f / 2 ^ k) same ∙ sym (fewer_bits m k n prefix is)

-- an address in a prefix that lies in another is in the other
in_both : (width prefix bits other count address : ℕ) → (nat_le count bits && (first_bits width count prefix == first_bits width count other)) ≡ true →
    (first_bits width bits address == first_bits width bits prefix) ≡ true → (first_bits width count address == first_bits width count other) ≡ true
in_both width prefix bits other count address lies within =
    let parts = both_true (nat_le count bits) (first_bits width count prefix == first_bits width count other) lies in
    let fewer : count ≤ bits = leb-true count bits parts.0 in
    let apart : (width - bits) + ((width - count) - (width - bits)) ≡ width - count = omega arith in
    eq-eqb (first_bits width count address) (first_bits width count other)
    (same_front (width - bits) ((width - count) - (width - bits)) (width - count) address prefix apart (eqb-true (first_bits width bits address) (first_bits width bits prefix) within)
    ∙ eqb-true (first_bits width count prefix) (first_bits width count other) parts.1)

-- Ranges.
in_range : (low high least greatest port : ℕ) → is_part low high least greatest ≡ true → is_between low high port ≡ true → is_between least greatest port ≡ true
in_range low high least greatest port part within =
    let ends = both_true (nat_le least low) (nat_le high greatest) part in
    let inside = both_true (nat_le low port) (nat_le port high) within in
    let a : least ≤ low = leb-true least low ends.0 in
    let b : high ≤ greatest = leb-true high greatest ends.1 in
    let c : low ≤ port = leb-true low port inside.0 in
    let d : port ≤ high = leb-true port high inside.1 in
    both (nat_le least port) (nat_le port greatest) (le-leb least port (omega arith)) (le-leb port greatest (omega arith))

-- Clauses.

-- a value that is there
on_value : (f g : ℕ → Bool) (o : Option ℕ) → ((a : ℕ) → f a ≡ true → g a ≡ true) → option_map_or f o false ≡ true → option_map_or g o false ≡ true
on_value f g None goes met = met
on_value f g (Some a) goes met = goes a met

same_number : (a b c : ℕ) → (b == c) ≡ true → (a == b) ≡ true → (a == c) ≡ true
same_number a b c second first = eq-eqb a c (eqb-true a b first ∙ eqb-true b c second)

same_id : (id other : ℕ) (tag : TagSeen) → (id == other) ≡ true → has_id id tag ≡ true → has_id other tag ≡ true
same_id id other Absent same met = met
same_id id other Bare same met = met
same_id id other (Id n) same met = same_number n id other same met

-- bits that are as they have to be are so where fewer are looked at
fewer_flags : (mask set fewer some flags : ℕ) → asks_more mask set fewer some ≡ true → has_bits mask set flags ≡ true → has_bits fewer some flags ≡ true
fewer_flags mask set fewer some flags more met =
    let parts = both_true (bit_and mask fewer == fewer) (bit_and set fewer == some) more in
    eq-eqb (bit_and flags fewer) some
    (ap (bit_and flags) (sym (eqb-true (bit_and mask fewer) fewer parts.0)) ∙ sym (and_assoc fewer flags mask)
    ∙ ap (λ n. bit_and n fewer) (eqb-true (bit_and flags mask) set met) ∙ eqb-true (bit_and set fewer) some parts.1)

implied_is_met : (seen : Seen) (c e : Clause) → implies c e ≡ true → is_met seen c ≡ true → is_met seen e ≡ true
implied_is_met seen (Src p b) (Src q n) h met = on_value (is_within p b) (is_within q n) seen.src (λ a. in_both 32 p b q n a h) met
implied_is_met seen (Dst p b) (Dst q n) h met = on_value (is_within p b) (is_within q n) seen.dst (λ a. in_both 32 p b q n a h) met
implied_is_met seen (Src6 p b) (Src6 q n) h met = on_value (is_within6 p b) (is_within6 q n) seen.src6 (λ a. in_both 128 p b q n a h) met
implied_is_met seen (Dst6 p b) (Dst6 q n) h met = on_value (is_within6 p b) (is_within6 q n) seen.dst6 (λ a. in_both 128 p b q n a h) met
implied_is_met seen (Sport l u) (Sport m g) h met = on_value (is_between l u) (is_between m g) seen.sport (λ a. in_range l u m g a h) met
implied_is_met seen (Dport l u) (Dport m g) h met = on_value (is_between l u) (is_between m g) seen.dport (λ a. in_range l u m g a h) met
implied_is_met seen (Proto p) (Proto q) h met = on_value (λ x. x == p) (λ x. x == q) seen.proto (λ a. same_number a p q h) met
implied_is_met seen (TagId id) (TagId other) h met = same_id id other seen.tag h met
implied_is_met seen NoTag NoTag h met = met
implied_is_met seen Version4 Version4 h met = met
implied_is_met seen Version6 Version6 h met = met
implied_is_met seen (Flags m s) (Flags w t) h met = on_value (has_bits m s) (has_bits w t) seen.tcp_flags (λ f. fewer_flags m s w t f h) met
implied_is_met seen c e h met = absurd cc

any_implied : (seen : Seen) (e : Clause) (cs : List Clause) → list_any (λ c. implies c e) cs ≡ true → list_all (is_met seen) cs ≡ true → is_met seen e ≡ true
any_implied seen e [] h met = absurd cc
any_implied seen e (c ∷ cs) h met = by (implies c e) refl (λ rest. any_implied seen e cs rest parts.1)
  where
    parts : (is_met seen c ≡ true) × (list_all (is_met seen) cs ≡ true)
    parts = both_true (is_met seen c) (list_all (is_met seen) cs) met

    by : (b : Bool) → implies c e ≡ b → (list_any (λ c. implies c e) cs ≡ true → is_met seen e ≡ true) → is_met seen e ≡ true
    by true is later = implied_is_met seen c e is parts.0
    by false is later = later (right_of (implies c e) (list_any (λ c. implies c e) cs) h is)

all_implied : (seen : Seen) (es later : List Clause) → list_all (λ e. list_any (λ c. implies c e) later) es ≡ true → list_all (is_met seen) later ≡ true → list_all (is_met seen) es ≡ true
all_implied seen [] later h met = refl
all_implied seen (e ∷ es) later h met =
    let parts = both_true (list_any (λ c. implies c e) later) (list_all (λ e. list_any (λ c. implies c e) later) es) h in
    both (is_met seen e) (list_all (is_met seen) es) (any_implied seen e later parts.0 met) (all_implied seen es later parts.1 met)

pub covered_is_met : (earlier later : Match) (seen : Seen) → covers earlier later ≡ true → is_fitting later seen ≡ true → is_fitting earlier seen ≡ true
covered_is_met earlier later seen h met = all_implied seen earlier.clauses later.clauses h met

-- Rules and chains.

module _ {R : Type 0} (fit : R → Match) (m : Match) (seen : Seen) where
  -- one of those that cover it is met
  some_met : (before : List R) → list_any (λ r. covers (fit r) m) before ≡ true → is_fitting m seen ≡ true → list_any (λ r. is_fitting (fit r) seen) before ≡ true
  some_met [] h is_met = absurd cc
  some_met (r ∷ before) h is_met = by (covers (fit r) m) refl (λ rest. some_met before rest is_met)
    where
      by : (b : Bool) → covers (fit r) m ≡ b → (list_any (λ r. covers (fit r) m) before ≡ true → list_any (λ r. is_fitting (fit r) seen) before ≡ true) →
          list_any (λ r. is_fitting (fit r) seen) (r ∷ before) ≡ true
      by true is later = left_or (is_fitting (fit r) seen) (list_any (λ r. is_fitting (fit r) seen) before) (covered_is_met (fit r) m seen is is_met)
      by false is later = right_or (is_fitting (fit r) seen) (list_any (λ r. is_fitting (fit r) seen) before) (later (right_of (covers (fit r) m) (list_any (λ r. covers (fit r) m) before) h is))

module _ {R : Type 0} (p : R → Bool) where
  -- what stands behind the first doesn't count
  found_before : (before xs ys : List R) → list_any p before ≡ true → find p (before ++ xs) ≡ find p (before ++ ys)
  found_before [] xs ys h = absurd cc
  found_before (r ∷ before) xs ys h = by (p r) refl (λ rest. found_before before xs ys rest)
    where
      by : (b : Bool) → p r ≡ b → (list_any p before ≡ true → find p (before ++ xs) ≡ find p (before ++ ys)) → cond b (Some r) (find p (before ++ xs)) ≡ cond b (Some r) (find p (before ++ ys))
      by true is later = refl
      by false is later = later (right_of (p r) (list_any p before) h is)

  -- nor does one that doesn't pass
  found_without : (before after : List R) (r : R) → p r ≡ false → find p (before ++ r ∷ after) ≡ find p (before ++ after)
  found_without [] after r fails = ap (λ b. cond b (Some r) (find p after)) fails
  found_without (b ∷ before) after r fails = ap (λ f. cond (p b) (Some b) f) (found_without before after r fails)

  -- none passes where each place has one that doesn't
  none_passes : (d : R) (before rest : List R) → ((k : ℕ) → k < length before → p (get_or (before ++ rest) k d) ≡ false) → list_any p before ≡ true → ⊥
  none_passes d [] rest fails h = cc
  none_passes d (r ∷ before) rest fails h = none_passes d before rest (λ k inside. fails (suc k) (omega arith)) (right_of (p r) (list_any p before) h (fails 0 (omega arith)))

  here : (d : R) (before after : List R) (r : R) → get_or (before ++ r ∷ after) (length before) d ≡ r
  here d [] after r = refl
  here d (b ∷ before) after r = here d before after r

pub never_first : {R : Type 0} (fit : R → Match) (before after : List R) (rule : R) (seen : Seen) → list_any (λ r. covers (fit r) (fit rule)) before ≡ true →
    first_met fit seen (before ++ rule ∷ after) ≡ first_met fit seen (before ++ after)
never_first fit before after rule seen h = by (is_fitting (fit rule) seen) refl
  where
    by : (b : Bool) → is_fitting (fit rule) seen ≡ b → first_met fit seen (before ++ rule ∷ after) ≡ first_met fit seen (before ++ after)
    by true is = found_before (λ r. is_fitting (fit r) seen) before (rule ∷ after) after (some_met fit (fit rule) seen before h is)
    by false is = found_without (λ r. is_fitting (fit r) seen) before after rule is

pub takes_nothing : (before after : List Match) (fit : Match) (seen : Seen) → list_any (λ b. covers b fit) before ≡ true →
    position (λ f. is_fitting f seen) (before ++ fit ∷ after) ≢ Some (length before)
takes_nothing before after fit seen h at =
    let p : Match → Bool = λ f. is_fitting f seen in
    let told = position-Some p (before ++ fit ∷ after) (length before) fit at in
    let fits : is_fitting fit seen ≡ true = subst (λ f. is_fitting f seen ≡ true) (here p fit before after fit) told.1 in
    none_passes p fit before (fit ∷ after) told.2 (some_met (λ f. f) fit seen before h fits)
