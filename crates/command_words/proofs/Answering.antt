-- The answer by the words that `clap` matched is the answer by the definitions.
use Rattle.std.proofs.Common.{◌≡◌, ◌∙◌, ◌⊎◌, ◌==◌, ◌&&◌, ℕ, Bool, cond, true, false, not, refl, sym, ap, subst, List, [], ◌∷◌, map, length, Option, Some, None, Err, Result, codes, ⊎_elim, true≢false}
use Rattle.std.specs.Prelude.{⊤}
use Rattle.std.specs.List.{list_all}
use Rattle.std.specs.Str.{bytes_eq}
use Rattle.clap.specs.Words.{Text, first_value, found_of}
use Rattle.clap.specs.declared.parser.matches.ArgMatches.{ArgMatches}
use Rattle.command_words.specs.declared.usage.UsageFault.{UsageFault}
use Rattle.command_words.specs.declared.usage.UsageFault.TheVariants as fault
use Rattle.command_words.specs.declared.usage.WordsFault.{WordsFault}
use Rattle.command_words.specs.declared.usage.WordsFault.TheVariants as error
use Rattle.command_words.specs.Apps.{demo_names, flows_names, plan_names, run_names, why_names}
use Rattle.command_words.specs.Matched.{Matches, demo_read, flow_options_have_text, flows_read, four_names, given_has_text, options_have_text, plan_read, run_options_have_text, run_read, why_read}
use Rattle.command_words.specs.Named.{ReadsWhy, ReadsWords}
use Rattle.command_words.specs.Roles.{Role, anything, gives, is_fit, is_whole, name, names_in, opens, option_names, options_in, roles, separator, unfit}
use Rattle.command_words.specs.Given.{Given, Word, all_differ, contains, given_by, has_text, value_given}
use Rattle.command_words.specs.WhyWords.{why_by, why_of, why_options}
use Rattle.command_words.specs.Words.{Answer, answer_by, demo_by, demo_of, demo_options, flows_by, flows_of, flows_options, plan_by, plan_of, plan_options, run_by, run_of, run_options}
use Rattle.command_words.proofs.Givens.{fit_given, given_of, same_given, sieved, texts}
use Rattle.command_words.proofs.Placing.{GivesOnly, eq_sym, roles_give}
use Rattle.command_words.proofs.Table.{same_text}

both_true : (a b : Bool) → (a && b) ≡ true → (a ≡ true) × (b ≡ true)
both_true true b e = (refl, e)
both_true false b e = absurd (true≢false (sym e))

and_true : (b : Bool) → (b && true) ≡ b
and_true true = refl
and_true false = refl

-- ---- the answer by the parts of the words, by their roles

sieved_answer : {X : Type 0} → (answer : List Word → List (Word × Word) → Result X UsageFault) (o : Option Given) → answer_by answer o ≡ answer_by answer (sieved o)
sieved_answer answer None = refl
sieved_answer answer (Some g) = go (texts g) (all_differ (map (λ o. o.0) g.options)) refl refl
  where
    go : (t d : Bool) → all_differ (map (λ o. o.0) g.options) ≡ d → texts g ≡ t → cond (t && d) (answer g.names g.options) (Err fault.Words) ≡ answer_by answer (cond t (Some g) None)
    go true d ed et = rw (et, ed) refl
    go false d ed et = refl

role_answer : {X : Type 0} → (known words : List Word) (answer : List Word → List (Word × Word) → Result X UsageFault)
    → answer_by answer (given_by known None words) ≡ answer_by answer (fit_given (roles known anything words))
role_answer known words answer =
    sieved_answer answer (given_by known None words) ∙ ap (answer_by answer) (same_given known None words) ∙ sym (sieved_answer answer (fit_given (roles known anything words)))

-- if they make up a command
whole_answer : {X : Type 0} → (n : ℕ) (known words : List Word) (answer : List Word → List (Word × Word) → Result X UsageFault) → is_whole n (roles known anything words) ≡ true
    → answer_by answer (given_by known None words)
    ≡ cond (texts (given_of (roles known anything words))) (answer (names_in (roles known anything words)) (options_in (roles known anything words))) (Err fault.Words)
whole_answer n known words answer e =
    let rs = roles known anything words in
    let fit = both_true (list_all is_fit rs) _ e in
    let rest = both_true (length (names_in rs) == n) _ fit.1 in
    role_answer known words answer ∙ rw (fit.0, rest.1, and_true (texts (given_of rs))) refl

-- an answer that needs this number of names
abbrev pub Wants : {X : Type 0} → ℕ → (List Word → List (Word × Word) → Result X UsageFault) → Type 0
Wants n answer = (names : List Word) (options : List (Word × Word)) → (length names == n) ≡ false → answer names options ≡ Err fault.Words

run_wants : Wants 4 run_by
run_wants [] options e = refl
run_wants (a ∷ []) options e = refl
run_wants (a ∷ b ∷ []) options e = refl
run_wants (a ∷ b ∷ c ∷ []) options e = refl
run_wants (a ∷ b ∷ c ∷ d ∷ []) options e = absurd (true≢false e)
run_wants (a ∷ b ∷ c ∷ d ∷ x ∷ xs) options e = refl

plan_wants : Wants 1 plan_by
plan_wants [] options e = refl
plan_wants (a ∷ []) options e = absurd (true≢false e)
plan_wants (a ∷ b ∷ xs) options e = refl

demo_wants : Wants 2 demo_by
demo_wants [] options e = refl
demo_wants (a ∷ []) options e = refl
demo_wants (a ∷ b ∷ []) options e = absurd (true≢false e)
demo_wants (a ∷ b ∷ c ∷ xs) options e = refl

flows_wants : Wants 2 flows_by
flows_wants [] options e = refl
flows_wants (a ∷ []) options e = refl
flows_wants (a ∷ b ∷ []) options e = absurd (true≢false e)
flows_wants (a ∷ b ∷ c ∷ xs) options e = refl

why_wants : Wants 3 why_by
why_wants [] options e = refl
why_wants (a ∷ []) options e = refl
why_wants (a ∷ b ∷ []) options e = refl
why_wants (a ∷ b ∷ c ∷ []) options e = absurd (true≢false e)
why_wants (a ∷ b ∷ c ∷ x ∷ xs) options e = refl

-- if they make up none
unfit_answer : {X : Type 0} → (n : ℕ) (known words : List Word) (answer : List Word → List (Word × Word) → Result X UsageFault) → Wants n answer → is_whole n (roles known anything words) ≡ false
    → answer_by answer (given_by known None words) ≡ Err fault.Words
unfit_answer {X = X} n known words answer wants e =
    let rs = roles known anything words in
    role_answer known words answer ∙ go (list_all is_fit rs) (length (names_in rs) == n) (all_differ (option_names (options_in rs))) refl refl e
  where
    or_refused : (t : Bool) (a : Result X UsageFault) → a ≡ Err fault.Words → cond t a (Err fault.Words) ≡ Err fault.Words
    or_refused true a e = e
    or_refused false a e = refl

    never : (t : Bool) (a : Result X UsageFault) → cond (t && false) a (Err fault.Words) ≡ Err fault.Words
    never true a = refl
    never false a = refl

    go : (fit many differ : Bool) → (length (names_in (roles known anything words)) == n) ≡ many → all_differ (option_names (options_in (roles known anything words))) ≡ differ
        → (fit && (many && differ)) ≡ false → answer_by answer (cond fit (Some (given_of (roles known anything words))) None) ≡ Err fault.Words
    go false many differ is apart e = refl
    go true false differ is apart e = or_refused (texts (given_of (roles known anything words)) && all_differ (option_names (options_in (roles known anything words)))) _ (wants _ _ is)
    go true true false is apart e = rw apart (never (texts (given_of (roles known anything words))) _)
    go true true true is apart e = absurd (true≢false e)

-- ---- each value that is given has text

abbrev pub OnlyKnown : List Word → List (Word × Word) → Type 0
OnlyKnown known [] = ⊤
OnlyKnown known (o ∷ os) = (contains o.0 known ≡ true) × OnlyKnown known os

only_known : (known : List Word) (rs : List Role) → GivesOnly known rs → OnlyKnown known (options_in rs)
only_known known [] g = tt
only_known known (gives x v ∷ rs) g = (g.0, only_known known rs g.1)
only_known known (name w ∷ rs) g = only_known known rs g
only_known known (separator ∷ rs) g = only_known known rs g
only_known known (opens x ∷ rs) g = only_known known rs g
only_known known (unfit ∷ rs) g = only_known known rs g

none_given : (x : Word) (os : List (Word × Word)) → not (contains x (option_names os)) ≡ true → value_given x os ≡ None
none_given x [] e = refl
none_given x (o ∷ os) e = go (bytes_eq o.0 x) refl (λ f. none_given x os f)
  where
    go : (b : Bool) → bytes_eq o.0 x ≡ b → (not (contains x (option_names os)) ≡ true → value_given x os ≡ None) → cond b (Some o.1) (value_given x os) ≡ None
    go true same more = absurd (true≢false (sym (rw same at e)))
    go false other more = more (rw other at e)

abbrev pub given_texts : List (Word × Word) → List Word → Bool
given_texts os known = list_all (λ x. given_has_text (value_given x os)) known

more_texts : (o : Word × Word) (os : List (Word × Word)) (known : List Word) → value_given o.0 os ≡ None
    → given_texts (o ∷ os) known ≡ (cond (contains o.0 known) (has_text o.1) true && given_texts os known)
more_texts o os [] none = refl
more_texts o os (y ∷ ys) none = go (bytes_eq o.0 y) refl (more_texts o os ys none)
  where
    twice : (c t r : Bool) → (t && (cond c t true && r)) ≡ (t && (true && r))
    twice true true r = refl
    twice true false r = refl
    twice false t r = refl

    apart : (c t g r : Bool) → (g && (cond c t true && r)) ≡ (cond c t true && (g && r))
    apart true true g r = refl
    apart true false true r = refl
    apart true false false r = refl
    apart false t g r = refl

    go : (b : Bool) → bytes_eq o.0 y ≡ b → given_texts (o ∷ os) ys ≡ (cond (contains o.0 ys) (has_text o.1) true && given_texts os ys)
        → given_texts (o ∷ os) (y ∷ ys) ≡ (cond (contains o.0 (y ∷ ys)) (has_text o.1) true && given_texts os (y ∷ ys))
    go true same more =
        let none_here : value_given y os ≡ None = subst (λ z. value_given z os ≡ None) (same_text o.0 y same) none in
        rw (eq_sym y o.0, same, none_here, more) (twice (contains o.0 ys) (has_text o.1) (given_texts os ys))
    go false other more = rw (eq_sym y o.0, other, more) (apart (contains o.0 ys) (has_text o.1) (given_has_text (value_given y os)) (given_texts os ys))

all_true : (known : List Word) → given_texts [] known ≡ true
all_true [] = refl
all_true (x ∷ xs) = all_true xs

values_have_text : (known : List Word) (os : List (Word × Word)) → OnlyKnown known os → all_differ (option_names os) ≡ true
    → given_texts os known ≡ list_all (λ o. has_text o.1) os
values_have_text known [] only e = all_true known
values_have_text known (o ∷ os) only e =
    let parts = both_true (not (contains o.0 (option_names os))) _ e in
    more_texts o os known (none_given o.0 os parts.0) ∙ rw (only.0, values_have_text known os only.1 parts.1) refl

-- ---- each command

options_are : (options : List (Word × Word))
    → options_have_text (value_given (codes "mergers") options) (value_given (codes "burst") options) (value_given (codes "merge") options)
    ≡ given_texts options demo_options
options_are options = ap (λ t. given_has_text (value_given (codes "mergers") options) && (given_has_text (value_given (codes "burst") options) && t))
    (sym (and_true (given_has_text (value_given (codes "merge") options))))

run_options_are : (options : List (Word × Word))
    → run_options_have_text (value_given (codes "mergers") options) (value_given (codes "burst") options) (value_given (codes "merge") options)
    (value_given (codes "graph") options) ≡ given_texts options run_options
run_options_are options = ap (λ t. given_has_text (value_given (codes "mergers") options) && (given_has_text (value_given (codes "burst") options)
    && (given_has_text (value_given (codes "merge") options) && t))) (sym (and_true (given_has_text (value_given (codes "graph") options))))

run_is : (a b c d m n o g : Option Word) (names : List Word) (options : List (Word × Word)) → a ∷ b ∷ c ∷ d ∷ [] ≡ map Some names
    → m ≡ value_given (codes "mergers") options → n ≡ value_given (codes "burst") options → o ≡ value_given (codes "merge") options
    → g ≡ value_given (codes "graph") options
    → run_read (four_names a b c d g) m n o ≡ cond (list_all has_text names && given_texts options run_options) (run_by names options) (Err fault.Words)
run_is a b c d m n o g [] options e em en eo eg = cc
run_is a b c d m n o g (p ∷ []) options e em en eo eg = cc
run_is a b c d m n o g (p ∷ q ∷ []) options e em en eo eg = cc
run_is a b c d m n o g (p ∷ q ∷ r ∷ []) options e em en eo eg = cc
run_is a b c d m n o g (p ∷ q ∷ r ∷ s ∷ t ∷ ts) options e em en eo eg = cc
run_is a b c d m n o g (p ∷ q ∷ r ∷ s ∷ []) options e em en eo eg =
    let ea : a ≡ Some p = cc in
    let eb : b ≡ Some q = cc in
    let ec : c ≡ Some r = cc in
    let ed : d ≡ Some s = cc in
    rw (ea, eb, ec, ed, em, en, eo, eg) (ap (λ t. cond (list_all has_text (p ∷ q ∷ r ∷ s ∷ []) && t) (run_by (p ∷ q ∷ r ∷ s ∷ []) options) (Err fault.Words))
    (run_options_are options))

plan_is : (a g : Option Word) (names : List Word) (options : List (Word × Word)) → a ∷ [] ≡ map Some names → g ≡ value_given (codes "graph") options
    → plan_read a g ≡ cond (list_all has_text names && given_texts options plan_options) (plan_by names options) (Err fault.Words)
plan_is a g [] options e eg = cc
plan_is a g (p ∷ q ∷ qs) options e eg = cc
plan_is a g (p ∷ []) options e eg =
    let ea : a ≡ Some p = cc in
    let name_is : has_text p ≡ (has_text p && true) = sym (and_true (has_text p)) in
    let graph_is : given_has_text (value_given (codes "graph") options) ≡ given_texts options plan_options
    = sym (and_true (given_has_text (value_given (codes "graph") options))) in
    rw (ea, eg) (λ i. cond (name_is i && graph_is i) (plan_by (p ∷ []) options) (Err fault.Words))

demo_is : (a b m n o : Option Word) (names : List Word) (options : List (Word × Word)) → a ∷ b ∷ [] ≡ map Some names
    → m ≡ value_given (codes "mergers") options → n ≡ value_given (codes "burst") options → o ≡ value_given (codes "merge") options
    → demo_read a b m n o ≡ cond (list_all has_text names && given_texts options demo_options) (demo_by names options) (Err fault.Words)
demo_is a b m n o [] options e em en eo = cc
demo_is a b m n o (p ∷ []) options e em en eo = cc
demo_is a b m n o (p ∷ q ∷ r ∷ rs) options e em en eo = cc
demo_is a b m n o (p ∷ q ∷ []) options e em en eo =
    let ea : a ≡ Some p = cc in
    let eb : b ≡ Some q = cc in
    let name_is : has_text q ≡ (has_text q && true) = sym (and_true (has_text q)) in
    rw (ea, eb, em, en, eo) (λ i. cond ((has_text p && name_is i) && options_are options i) (demo_by (p ∷ q ∷ []) options) (Err fault.Words))

flow_options_are : (options : List (Word × Word))
    → flow_options_have_text (value_given (codes "workers") options) (value_given (codes "burst") options) ≡ given_texts options flows_options
flow_options_are options = ap (λ t. given_has_text (value_given (codes "workers") options) && t) (sym (and_true (given_has_text (value_given (codes "burst") options))))

flows_is : (a b m n : Option Word) (names : List Word) (options : List (Word × Word)) → a ∷ b ∷ [] ≡ map Some names
    → m ≡ value_given (codes "workers") options → n ≡ value_given (codes "burst") options
    → flows_read a b m n ≡ cond (list_all has_text names && given_texts options flows_options) (flows_by names options) (Err fault.Words)
flows_is a b m n [] options e em en = cc
flows_is a b m n (p ∷ []) options e em en = cc
flows_is a b m n (p ∷ q ∷ r ∷ rs) options e em en = cc
flows_is a b m n (p ∷ q ∷ []) options e em en =
    let ea : a ≡ Some p = cc in
    let eb : b ≡ Some q = cc in
    let name_is : has_text q ≡ (has_text q && true) = sym (and_true (has_text q)) in
    rw (ea, eb, em, en) (λ i. cond ((has_text p && name_is i) && flow_options_are options i) (flows_by (p ∷ q ∷ []) options) (Err fault.Words))

why_is : (a b c n : Option Word) (names : List Word) (options : List (Word × Word)) → a ∷ b ∷ c ∷ [] ≡ map Some names
    → n ≡ value_given (codes "record") options
    → why_read a b c n ≡ cond (list_all has_text names && given_texts options why_options) (why_by names options) (Err fault.Words)
why_is a b c n [] options e en = cc
why_is a b c n (p ∷ []) options e en = cc
why_is a b c n (p ∷ q ∷ []) options e en = cc
why_is a b c n (p ∷ q ∷ r ∷ s ∷ ss) options e en = cc
why_is a b c n (p ∷ q ∷ r ∷ []) options e en =
    let ea : a ≡ Some p = cc in
    let eb : b ≡ Some q = cc in
    let ec : c ≡ Some r = cc in
    let name_is : has_text r ≡ (has_text r && true) = sym (and_true (has_text r)) in
    let number_is : given_has_text (value_given (codes "record") options) ≡ given_texts options why_options
    = sym (and_true (given_has_text (value_given (codes "record") options))) in
    rw (ea, eb, ec, en) (λ i. cond ((has_text p && (has_text q && name_is i)) && number_is i) (why_by (p ∷ q ∷ r ∷ []) options) (Err fault.Words))

abbrev value : ArgMatches → Text → Option Word
value m x = first_value (found_of m) x

-- what is required of the values that are looked up is what is required of the list of them
texts_are : {X : Type 0} → (n : ℕ) (known words : List Word) (answer : Result X UsageFault) → is_whole n (roles known anything words) ≡ true
    → cond (list_all has_text (names_in (roles known anything words)) && given_texts (options_in (roles known anything words)) known) answer (Err fault.Words)
    ≡ cond (texts (given_of (roles known anything words))) answer (Err fault.Words)
texts_are n known words answer e =
    let rs = roles known anything words in
    let differ = (both_true (length (names_in rs) == n) _ (both_true (list_all is_fit rs) _ e).1).1 in
    ap (λ t. cond (list_all has_text (names_in rs) && t) answer (Err fault.Words))
    (values_have_text known (options_in rs) (only_known known rs (roles_give known anything words tt)) differ)

pub run_answered : (words : List Word) (m : ArgMatches) → Matches run_names run_options words m
    → run_read (four_names (value m (codes "policy")) (value m (codes "capture")) (value m (codes "out")) (value m (codes "report")) (value m (codes "graph")))
    (value m (codes "mergers")) (value m (codes "burst")) (value m (codes "merge")) ≡ run_of words
run_answered words m h =
    run_is _ _ _ _ _ _ _ _ (names_in (roles run_options anything words)) (options_in (roles run_options anything words)) h.gives_names
    (h.gives_options (codes "mergers") refl) (h.gives_options (codes "burst") refl) (h.gives_options (codes "merge") refl)
    (h.gives_options (codes "graph") refl) ∙ texts_are 4 run_options words _ h.whole ∙ sym (whole_answer 4 run_options words run_by h.whole)

pub plan_answered : (words : List Word) (m : ArgMatches) → Matches plan_names plan_options words m
    → plan_read (value m (codes "policy")) (value m (codes "graph")) ≡ plan_of words
plan_answered words m h =
    plan_is _ _ (names_in (roles plan_options anything words)) (options_in (roles plan_options anything words)) h.gives_names
    (h.gives_options (codes "graph") refl) ∙ texts_are 1 plan_options words _ h.whole ∙ sym (whole_answer 1 plan_options words plan_by h.whole)

pub demo_answered : (words : List Word) (m : ArgMatches) → Matches demo_names demo_options words m
    → demo_read (value m (codes "seed")) (value m (codes "count")) (value m (codes "mergers")) (value m (codes "burst")) (value m (codes "merge"))
    ≡ demo_of words
demo_answered words m h =
    demo_is _ _ _ _ _ (names_in (roles demo_options anything words)) (options_in (roles demo_options anything words)) h.gives_names
    (h.gives_options (codes "mergers") refl) (h.gives_options (codes "burst") refl) (h.gives_options (codes "merge") refl)
    ∙ texts_are 2 demo_options words _ h.whole ∙ sym (whole_answer 2 demo_options words demo_by h.whole)

pub flows_answered : (words : List Word) (m : ArgMatches) → Matches flows_names flows_options words m
    → flows_read (value m (codes "capture")) (value m (codes "out")) (value m (codes "workers")) (value m (codes "burst")) ≡ flows_of words
flows_answered words m h =
    flows_is _ _ _ _ (names_in (roles flows_options anything words)) (options_in (roles flows_options anything words)) h.gives_names
    (h.gives_options (codes "workers") refl) (h.gives_options (codes "burst") refl)
    ∙ texts_are 2 flows_options words _ h.whole ∙ sym (whole_answer 2 flows_options words flows_by h.whole)

pub why_answered : (words : List Word) (m : ArgMatches) → Matches why_names why_options words m
    → why_read (value m (codes "policy")) (value m (codes "capture")) (value m (codes "report")) (value m (codes "record")) ≡ why_of words
why_answered words m h =
    why_is _ _ _ _ (names_in (roles why_options anything words)) (options_in (roles why_options anything words)) h.gives_names
    (h.gives_options (codes "record") refl)
    ∙ texts_are 3 why_options words _ h.whole ∙ sym (whole_answer 3 why_options words why_by h.whole)

-- if there are no matches
refused : (n : ℕ) (known words : List Word) (answer : List Word → List (Word × Word) → Answer) (e : WordsFault) → Wants n answer
    → (e ≡ error.OutOfMemory) ⊎ ((e ≡ error.Usage fault.Words) × (is_whole n (roles known anything words) ≡ false))
    → ReadsWords (Err e) (answer_by answer (given_by known None words))
refused n known words answer e wants h =
    ⊎_elim (λ memory. subst (λ x. ReadsWords (Err x) (answer_by answer (given_by known None words))) (sym memory) tt)
    (λ unfit. subst (λ x. ReadsWords (Err x) (answer_by answer (given_by known None words))) (sym unfit.0) (unfit_answer n known words answer wants unfit.1)) h

pub run_refused : (words : List Word) (e : WordsFault) → (e ≡ error.OutOfMemory) ⊎ ((e ≡ error.Usage fault.Words) × (is_whole 4 (roles run_options anything words) ≡ false)) → ReadsWords (Err e) (run_of words)
run_refused words e h = refused 4 run_options words run_by e run_wants h

pub plan_refused : (words : List Word) (e : WordsFault) → (e ≡ error.OutOfMemory) ⊎ ((e ≡ error.Usage fault.Words) × (is_whole 1 (roles plan_options anything words) ≡ false)) → ReadsWords (Err e) (plan_of words)
plan_refused words e h = refused 1 plan_options words plan_by e plan_wants h

pub demo_refused : (words : List Word) (e : WordsFault) → (e ≡ error.OutOfMemory) ⊎ ((e ≡ error.Usage fault.Words) × (is_whole 2 (roles demo_options anything words) ≡ false)) → ReadsWords (Err e) (demo_of words)
demo_refused words e h = refused 2 demo_options words demo_by e demo_wants h

pub flows_refused : (words : List Word) (e : WordsFault) → (e ≡ error.OutOfMemory) ⊎ ((e ≡ error.Usage fault.Words) × (is_whole 2 (roles flows_options anything words) ≡ false)) → ReadsWords (Err e) (flows_of words)
flows_refused words e h = refused 2 flows_options words flows_by e flows_wants h

pub why_refused : (words : List Word) (e : WordsFault) → (e ≡ error.OutOfMemory) ⊎ ((e ≡ error.Usage fault.Words) × (is_whole 3 (roles why_options anything words) ≡ false)) → ReadsWhy (Err e) (why_of words)
why_refused words e h =
    ⊎_elim (λ memory. subst (λ x. ReadsWhy (Err x) (why_of words)) (sym memory) tt)
    (λ unfit. subst (λ x. ReadsWhy (Err x) (why_of words)) (sym unfit.0) (unfit_answer 3 why_options words why_by why_wants unfit.1)) h
