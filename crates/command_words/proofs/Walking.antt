-- `clap`'s walk over the words finds a fault exactly when the words have no parts, and else
-- leaves a row for each name and option.
use Rattle.std.proofs.Common.{◌≡◌, ◌∙◌, ◌&&◌, ◌||◌, ℕ, Bool, cond, true, false, not, refl, sym, ap, subst, List, [], ◌∷◌, ◌++◌, map, length, Option, Some, None, true≢false}
use Rattle.std.specs.Prelude.{⊤, fold}
use Rattle.std.specs.List.{list_all, list_any}
use Rattle.std.specs.Str.{bytes_eq, IsUtf8}
use Rattle.std.proofs.lemmas.List.{map-append}
use Rattle.clap.specs.Kinds.{Kinds, or_else}
use Rattle.clap.specs.Faults.{check_fault, defaults_fault, flags_fault, settle_fault, step_fault, turn_fault, use_fault, walk_fault}
use Rattle.clap.specs.Takes.{is_given}
use Rattle.clap.specs.Walk.{Held, Row, Rule, Text, Waiting, Walk, arg_by_id, arg_by_index, arg_by_long, arg_by_short, at_row, finished, has_row, idle, is_pending, more_values, option, settled, to_positional, used, value, walked, with_default, with_values, without}
use Rattle.clap.specs.Simple.{Shape}
use Rattle.clap.specs.declared.builder.value_parser.Reading.TheVariants as reading
use Rattle.clap.specs.declared.error.kind.ErrorKind.TheVariants as kind
use Rattle.clap.specs.declared.parser.matches.ValueSource.TheVariants.{CommandLine}
use Rattle.command_words.specs.Roles.{Due, Look, Role, anything, dashes, due_after, gives, long, look_of, name, names_only, opens, option_role, plain, role_by, roles, separator, short, unfit, value_of}
use Rattle.command_words.specs.Given.{contains}
use Rattle.command_words.proofs.Looks.{Facts, HasFirst, looks}
use Rattle.command_words.proofs.Table.{Indexed, text_same, built_name, built_option, next, shape}

-- ---- uses of the arguments, as rows

-- a value, after the id that it is given for
abbrev pub Use : Type 0
Use = Text × Text

abbrev pub use_row : Use → Row
use_row u = record {
  id = u.0;
  values = u.1 ∷ [];
  count = None;
  source = Some CommandLine;
  reading = reading.AsWritten;
}

abbrev pub rows_for : List Use → List Row
rows_for = map use_row

or_false : (a b : Bool) → (a || b) ≡ false → (a ≡ false) × (b ≡ false)
or_false true b e = absurd (true≢false e)
or_false false b e = (refl, e)

at_missing : (id : Text) (change : Row → List Row) (missing rows : List Row) → has_row id rows ≡ false → at_row id change missing rows ≡ rows ++ missing
at_missing id change missing [] e = refl
at_missing id change missing (r ∷ rs) e =
    let parts = or_false (bytes_eq r.id id) (has_row id rs) e in
    rw parts.0 (ap (λ xs. r ∷ xs) (at_missing id change missing rs parts.1))

append_nil : (rows : List Row) → rows ++ [] ≡ rows
append_nil [] = refl
append_nil (r ∷ rs) = ap (λ xs. r ∷ xs) (append_nil rs)

-- a first use puts its row last
fresh_row : (id v : Text) (us : List Use) → has_row id (rows_for us) ≡ false
    → with_values id reading.AsWritten CommandLine (v ∷ []) (without id (rows_for us)) ≡ rows_for (us ++ (id, v) ∷ [])
fresh_row id v us e =
    let kept : without id (rows_for us) ≡ rows_for us = at_missing id (λ _. []) [] (rows_for us) e ∙ append_nil (rows_for us) in
    ap (with_values id reading.AsWritten CommandLine (v ∷ [])) kept
    ∙ at_missing id (more_values CommandLine (v ∷ [])) _ (rows_for us) e
    ∙ sym (map-append use_row us ((id, v) ∷ []))

abbrev pub fails : Kinds → Bool
fails [] = false
fails (k ∷ ks) = true

name_fails : (i : ℕ) (id v : Text) (rows : List Row) → fails (use_fault false (built_name i id) (v ∷ []) rows) ≡ has_row id rows
name_fails i id v rows = go (has_row id rows)
  where
    go : (b : Bool) → fails (or_else (cond (b && true) (kind.ArgumentConflict ∷ []) []) []) ≡ b
    go true = refl
    go false = refl

option_fails : (id v : Text) (rows : List Row) → fails (use_fault false (built_option id) (v ∷ []) rows) ≡ has_row id rows
option_fails id v rows = name_fails 1 id v rows

none_fails : (k : Kinds) → fails k ≡ false → k ≡ []
none_fails [] e = refl
none_fails (x ∷ xs) e = absurd (true≢false e)

-- ---- agreement

abbrev pub unless : {X : Type 0} → Bool → Option X → Option X
unless true o = None
unless false o = o

-- there are kinds of fault exactly if there are no uses, and else the rows are those of the uses
abbrev pub Agrees : Kinds → List Row → Option (List Use) → Type 0
Agrees k rows None = fails k ≡ true
Agrees k rows (Some us) = (k ≡ []) × (rows ≡ rows_for us)

fails_first : (t k : Kinds) → fails t ≡ true → fails (or_else t k) ≡ true
fails_first [] k e = absurd (true≢false (sym e))
fails_first (x ∷ xs) k e = refl

agrees_fail : (t k : Kinds) (rows : List Row) (o : Option (List Use)) → fails t ≡ true → o ≡ None → Agrees (or_else t k) rows o
agrees_fail t k rows o e none = subst (Agrees (or_else t k) rows) (sym none) (fails_first t k e)

agrees_past : (t k : Kinds) (rows : List Row) (o : Option (List Use)) → t ≡ [] → Agrees k rows o → Agrees (or_else t k) rows o
agrees_past t k rows o e h = subst (λ x. Agrees (or_else x k) rows o) (sym e) h

or_else_assoc : (a b c : Kinds) → or_else (or_else a b) c ≡ or_else a (or_else b c)
or_else_assoc [] b c = refl
or_else_assoc (x ∷ xs) b c = refl

unless_none : {X : Type 0} (b : Bool) → unless {X = X} b None ≡ None
unless_none true = refl
unless_none false = refl

-- ---- the uses by the roles; a name goes to the next id

abbrev pub placed_by : List Use → Role → List Text → (List Use → List Text → Option (List Use)) → Option (List Use)
placed_by us (name v) [] more = None
placed_by us (name v) (n ∷ left) more = unless (has_row n (rows_for us)) (more (us ++ (n, v) ∷ []) left)
placed_by us (gives x v) left more = unless (has_row x (rows_for us)) (more (us ++ (x, v) ∷ []) left)
placed_by us unfit left more = None
placed_by us separator left more = more us left
placed_by us (opens x) left more = more us left

unfoldable pub placed : List Text → List Use → List Text → List Role → Option (List Use)
placed all us left [] = cond (list_all (λ n. is_given n (rows_for us)) all) (Some us) None
placed all us left (role ∷ rest) = placed_by us role left (λ vs more. placed all vs more rest)

-- ---- the answers of the arguments

pub record Serves (rules : List Rule) (names options : List Text) : Type 0 where
  pub by_long : (x : Text) → arg_by_long rules x ≡ cond (contains x options) (Some (built_option x)) None
  pub by_short : (c : ℕ) → arg_by_short rules c ≡ None
  pub by_id : (x : Text) → contains x options ≡ true → arg_by_id rules x ≡ Some (built_option x)
  pub no_default_fault : (rows : List Row) → defaults_fault rows rules ≡ []
  pub no_defaults : (rows : List Row) → fold with_default rows rules ≡ rows
  pub required : (rows : List Row) → list_any (λ a. a.required && not (is_given a.id rows)) rules ≡ not (list_all (λ n. is_given n rows) names)

abbrev pub AllUtf8 : List Text → Type 0
AllUtf8 [] = ⊤
AllUtf8 (w ∷ ws) = IsUtf8 w × AllUtf8 ws

module _ (title : Text) (rules : List Rule) (names options : List Text) (serves : Serves rules names options) where
  abbrev pub at : Held → ℕ → Waiting → Bool → Walk
  at h i wait trailing = record { held = h; waiting = wait; position = i; is_trailing = trailing; stopped = None }

  -- the kinds of what comes after the words
  abbrev pub end_fault : Held → Kinds
  end_fault h = or_else (settle_fault rules false h)
      (or_else (defaults_fault (settled rules h).rows rules) (check_fault (shape title rules) (finished rules h) false))

  abbrev pub end_of : Walk → List Text → Held
  end_of w words = (fold (walked rules []) w words).held

  abbrev pub total : Walk → List Text → Kinds
  total w words = or_else (walk_fault (shape title rules) [] w words) (end_fault (end_of w words))

  abbrev pub Ends : Walk → List Text → Option (List Use) → Type 0
  Ends w words o = Agrees (total w words) (finished rules (end_of w words)) o

  -- one more word
  more_words : (w : Walk) (word : Text) (words : List Text)
      → total w (word ∷ words) ≡ or_else (turn_fault (shape title rules) [] w word) (total (walked rules [] w word) words)
  unfolding walk_fault
  more_words w word words = or_else_assoc (turn_fault (shape title rules) [] w word) _ _

  pub step_fails : (w : Walk) (word : Text) (words : List Text) (o : Option (List Use))
      → fails (turn_fault (shape title rules) [] w word) ≡ true → o ≡ None → Ends w (word ∷ words) o
  step_fails w word words o e none =
      subst (λ k. Agrees k (finished rules (end_of w (word ∷ words))) o) (sym (more_words w word words)) (agrees_fail _ _ _ o e none)

  pub step_goes : (w after : Walk) (word : Text) (words : List Text) (o : Option (List Use))
      → turn_fault (shape title rules) [] w word ≡ [] → walked rules [] w word ≡ after → Ends after words o → Ends w (word ∷ words) o
  step_goes w after word words o e goes h =
      subst (λ k. Agrees k (finished rules (end_of w (word ∷ words))) o) (sym (more_words w word words))
      (agrees_past _ _ _ o e (subst (λ v. Ends v words o) (sym goes) h))

  -- ---- a word that is a name

  abbrev pub s : Shape
  s = shape title rules

  -- the rows that are held after the last use is in, if that use is no fault
  pub record Rests (h : Held) (us : List Use) : Type 0 where
    pub rows_are : fails (settle_fault rules false h) ≡ false → (settled rules h).rows ≡ rows_for us
    pub no_skip : h.skip ≡ 0

  and_false : (b : Bool) → (b && false) ≡ false
  and_false true = refl
  and_false false = refl

  -- after a use whose values wait to be settled
  pub pending_rests : (a : Rule) (id v : Text) (h : Held) (us : List Use) → arg_by_id rules id ≡ Some a
      → (fails (use_fault false a (v ∷ []) (rows_for us)) ≡ has_row id (rows_for us))
      → ((rs : List Row) → used a (v ∷ []) rs ≡ with_values id reading.AsWritten CommandLine (v ∷ []) (without id rs))
      → h.rows ≡ rows_for us → h.pending ≡ Some (id, v ∷ []) → h.skip ≡ 0
      → (fails (settle_fault rules false h) ≡ has_row id (rows_for us)) × Rests h (us ++ (id, v) ∷ [])
  pending_rests a id v h us found fault as_used rows pend skip =
      let is_fault : fails (settle_fault rules false h) ≡ has_row id (rows_for us) = rw (pend, found, rows) fault in (
        is_fault,
        record {
          rows_are = λ e. rw (pend, found, rows) (as_used (rows_for us) ∙ fresh_row id v us (sym is_fault ∙ e));
          no_skip = skip;
        },
      )

  pub name_rests : (i : ℕ) (id v : Text) (rows : List Row) (us : List Use) (skip : ℕ) → arg_by_id rules id ≡ Some (built_name i id) → rows ≡ rows_for us → skip ≡ 0
      → (fails (settle_fault rules false (record { rows = rows; pending = Some (id, v ∷ []); skip = skip })) ≡ has_row id (rows_for us))
      × Rests (record { rows = rows; pending = Some (id, v ∷ []); skip = skip }) (us ++ (id, v) ∷ [])
  name_rests i id v rows us skip found is none =
      pending_rests (built_name i id) id v (record { rows = rows; pending = Some (id, v ∷ []); skip = skip }) us found (name_fails i id v (rows_for us)) (λ rs. refl) is refl none

  pub option_rests : (id v : Text) (rows : List Row) (us : List Use) (skip : ℕ) → arg_by_id rules id ≡ Some (built_option id) → rows ≡ rows_for us → skip ≡ 0
      → (fails (settle_fault rules false (record { rows = rows; pending = Some (id, v ∷ []); skip = skip })) ≡ has_row id (rows_for us))
      × Rests (record { rows = rows; pending = Some (id, v ∷ []); skip = skip }) (us ++ (id, v) ∷ [])
  option_rests id v rows us skip found is none =
      pending_rests (built_option id) id v (record { rows = rows; pending = Some (id, v ∷ []); skip = skip }) us found (option_fails id v (rows_for us)) (λ rs. refl) is refl none

  -- ---- the effect of each kind of word

  -- after `--` a word goes to a name
  trailing_turn : (h : Held) (i : ℕ) (wait : Waiting) (word : Text)
      → (turn_fault s [] (at h i wait true) word ≡ step_fault s i h value)
      × (walked rules [] (at h i wait true) word ≡ to_positional rules (arg_by_index rules i) word (at h i wait true) h)
  unfolding walked
  trailing_turn h i wait word = (refl, refl)

  plain_turn : (h : Held) (i : ℕ) (word : Text) → Facts plain word
      → (turn_fault s [] (at h i idle false) word ≡ step_fault s i h value)
      × (walked rules [] (at h i idle false) word ≡ to_positional rules (arg_by_index rules i) word (at h i idle false) h)
  unfolding walked
  plain_turn h i word f = (rw (f.0, f.1, f.2) refl, rw (f.0, f.1, f.2) refl)

  dashes_turn : (h : Held) (i : ℕ) (word : Text) → Facts dashes word
      → (turn_fault s [] (at h i idle false) word ≡ []) × (walked rules [] (at h i idle false) word ≡ at h i idle true)
  unfolding walked
  dashes_turn h i word f = (rw f refl, rw f refl)

  waiting_dashes_turn : (h : Held) (i : ℕ) (x word : Text) → Facts dashes word
      → (turn_fault s [] (at h i (option x) false) word ≡ []) × (walked rules [] (at h i (option x) false) word ≡ at h i (option x) true)
  unfolding walked
  waiting_dashes_turn h i x word f = (rw f refl, rw f refl)

  bundle_fails : (flags : Text) (h : Held) → HasFirst flags → h.skip ≡ 0 → flags_fault rules false (length flags) flags h.skip (record h { skip = 0 }) ≡ kind.UnknownArgument ∷ []
  unfolding flags_fault
  bundle_fails flags h first none = rw (first.3, none, first.2, serves.by_short first.0) refl

  short_turn : (h : Held) (i : ℕ) (word : Text) → Facts short word → IsUtf8 word → h.skip ≡ 0 → fails (turn_fault s [] (at h i idle false) word) ≡ true
  short_turn h i word f u none =
      let bundle = bundle_fails f.2.0 h (f.2.2 u) none in
      rw (f.0, f.1, f.2.1, bundle) refl

  waiting_short_turn : (h : Held) (i : ℕ) (x word : Text) → Facts short word → IsUtf8 word → h.skip ≡ 0 → fails (turn_fault s [] (at h i (option x) false) word) ≡ true
  waiting_short_turn h i x word f u none =
      let bundle = bundle_fails f.2.0 h (f.2.2 u) none in
      rw (f.0, f.1, f.2.1, bundle) refl

  unknown : (y : Text) → contains y options ≡ false → arg_by_long rules y ≡ None
  unknown y e = serves.by_long y ∙ rw e refl

  known : (y : Text) → contains y options ≡ true → arg_by_long rules y ≡ Some (built_option y)
  known y e = serves.by_long y ∙ rw e refl

  unknown_turn : (h : Held) (i : ℕ) (y word : Text) (v : Option Text) → Facts (long y v) word → contains y options ≡ false
      → fails (turn_fault s [] (at h i idle false) word) ≡ true
  unknown_turn h i y word v f e = rw (f.0, f.1, unknown y e) refl

  opening_turn : (h : Held) (i : ℕ) (y word : Text) → Facts (long y None) word → contains y options ≡ true
      → (turn_fault s [] (at h i idle false) word ≡ or_else (settle_fault rules false h) [])
      × (walked rules [] (at h i idle false) word ≡ at (record (settled rules h) { pending = Some (y, []) }) i (option y) false)
  unfolding walked
  opening_turn h i y word f e = (rw (f.0, f.1, known y e) refl, rw (f.0, f.1, known y e) refl)

  giving_turn : (h : Held) (i : ℕ) (y word v : Text) → Facts (long y (Some v)) word → contains y options ≡ true
      → (turn_fault s [] (at h i idle false) word
      ≡ or_else (or_else (settle_fault rules false h) (use_fault false (built_option y) (v ∷ []) (settled rules h).rows)) [])
      × (walked rules [] (at h i idle false) word ≡ at (record h { rows = used (built_option y) (v ∷ []) (settled rules h).rows; pending = None }) i idle false)
  unfolding walked
  giving_turn h i y word v f e = (rw (f.0, f.1, known y e) refl, rw (f.0, f.1, known y e) refl)

  abbrev pub opened : List Row → Text → Held
  opened rows x = record { rows = rows; pending = Some (x, []); skip = 0 }

  value_turn : (rows : List Row) (i : ℕ) (x word : Text) → Facts plain word → contains x options ≡ true
      → (turn_fault s [] (at (opened rows x) i (option x) false) word ≡ [])
      × (walked rules [] (at (opened rows x) i (option x) false) word ≡ at (record { rows = rows; pending = Some (x, word ∷ []); skip = 0 }) i idle false)
  unfolding walked
  value_turn rows i x word f e = (rw (f.0, f.1, f.2) refl, rw (f.0, f.1, f.2, serves.by_id x e, text_same x) refl)

  waiting_long_turn : (rows : List Row) (i : ℕ) (x y word : Text) (v : Option Text) → Facts (long y v) word → contains x options ≡ true
      → fails (turn_fault s [] (at (opened rows x) i (option x) false) word) ≡ true
  waiting_long_turn rows i x y word v f e = go (contains y options) refl v f
    where
      go : (b : Bool) → contains y options ≡ b → (w : Option Text) → Facts (long y w) word → fails (turn_fault s [] (at (opened rows x) i (option x) false) word) ≡ true
      go false k w g = rw (g.0, g.1, unknown y k) refl
      go true k None g = rw (g.0, g.1, known y k, serves.by_id x e) refl
      go true k (Some t) g = rw (g.0, g.1, known y k, serves.by_id x e) refl

  -- ---- one step of the agreement

  abbrev pub after_name : Held → Text → Text → Held
  after_name h n word = record { rows = (settled rules h).rows; pending = Some (n, word ∷ []); skip = h.skip }

  abbrev pub after_option : Held → Text → Text → Held
  after_option h y v = record h { rows = used (built_option y) (v ∷ []) (settled rules h).rows; pending = None }

  -- the walk goes to the next name, if there is one
  to_name : (t : Bool) (wait : Waiting) (h : Held) (i : ℕ) (us : List Use) (left : List Text) (word : Text) (words : List Text) (rs : List Role)
      → turn_fault s [] (at h i wait t) word ≡ step_fault s i h value
      → walked rules [] (at h i wait t) word ≡ to_positional rules (arg_by_index rules i) word (at h i wait t) h
      → ((g : Held) (j : ℕ) (vs : List Use) (rest : List Text) → Indexed rules j rest → Rests g vs
      → Ends (at g j idle (t || false)) words (unless (fails (settle_fault rules false g)) (placed names vs rest rs)))
      → Indexed rules i left → Rests h us
      → Ends (at h i wait t) (word ∷ words) (unless (fails (settle_fault rules false h)) (placed names us left (name word ∷ rs)))
  unfolding placed
  to_name t wait h i us [] word words rs turn goes more at_i stands =
      step_fails (at h i wait t) word words _ (rw (turn, at_i) refl) (unless_none _)
  to_name t wait h i us (n ∷ left) word words rs turn goes more at_i stands = go (fails (settle_fault rules false h)) refl
    where
      settles : turn_fault s [] (at h i wait t) word ≡ settle_fault rules false h
      settles = turn ∙ rw (at_i.0, and_false (is_pending (built_name i n) h.pending)) refl

      reaches : walked rules [] (at h i wait t) word ≡ at (record { rows = (settled rules h).rows; pending = Some (n, word ∷ []); skip = h.skip }) (next i) idle (t || false)
      reaches = goes ∙ rw (at_i.0, and_false (is_pending (built_name i n) h.pending)) refl

      go : (b : Bool) → fails (settle_fault rules false h) ≡ b
          → Ends (at h i wait t) (word ∷ words) (unless b (unless (has_row n (rows_for us)) (placed names (us ++ (n, word) ∷ []) left rs)))
      go true e = step_fails (at h i wait t) word words None (rw settles e) refl
      go false e =
          let rests = name_rests i n word (settled rules h).rows us h.skip at_i.1.0 (stands.rows_are e) stands.no_skip in
          step_goes (at h i wait t) (at (after_name h n word) (next i) idle (t || false)) word words (unless (has_row n (rows_for us)) (placed names (us ++ (n, word) ∷ []) left rs))
          (settles ∙ none_fails (settle_fault rules false h) e) reaches
          (subst (λ b. Ends (at (after_name h n word) (next i) idle (t || false)) words (unless b (placed names (us ++ (n, word) ∷ []) left rs))) rests.0
          (more (after_name h n word) (next i) (us ++ (n, word) ∷ []) left at_i.1.1 rests.1))

  -- ---- the words

  abbrev pub walk_at : Held → ℕ → Waiting → Due → Walk
  walk_at h i wait anything = at h i idle false
  walk_at h i wait (value_of x) = at h i (option x) false
  walk_at h i wait names_only = at h i wait true

  abbrev pub Stands : Held → List Use → Due → Type 0
  Stands h us (value_of x) = (h ≡ opened (rows_for us) x) × (contains x options ≡ true)
  Stands h us due = Rests h us

  -- the last use is a fault
  abbrev pub stuck : Held → Due → Bool
  stuck h (value_of x) = false
  stuck h due = fails (settle_fault rules false h)

  abbrev pub AgreesOn : List Text → Type 0
  AgreesOn words = (due : Due) (h : Held) (i : ℕ) (wait : Waiting) (us : List Use) (left : List Text) → Indexed rules i left → Stands h us due
      → Ends (walk_at h i wait due) words (unless (stuck h due) (placed names us left (roles options due words)))

  not_stuck : (h : Held) (us : List Use) → fails (settle_fault rules false h) ≡ false → Rests h us → settle_fault rules false h ≡ []
  not_stuck h us e r = none_fails _ e

  -- no more words
  at_end : (wait : Waiting) (t : Bool) (h : Held) (i : ℕ) (us : List Use) (left : List Text) → Rests h us
      → Ends (at h i wait t) [] (unless (fails (settle_fault rules false h)) (placed names us left []))
  unfolding walk_fault placed
  at_end wait t h i us left stands = go (fails (settle_fault rules false h)) refl
    where
      last : (b : Bool) → list_all (λ n. is_given n (rows_for us)) names ≡ b
          → Agrees (cond (not b) (kind.MissingRequiredArgument ∷ []) []) (rows_for us) (cond b (Some us) None)
      last true e = (refl, refl)
      last false e = refl

      go : (b : Bool) → fails (settle_fault rules false h) ≡ b
          → Agrees (end_fault h) (finished rules h) (unless b (cond (list_all (λ n. is_given n (rows_for us)) names) (Some us) None))
      go true e = fails_first _ _ e
      go false e =
          let rows : (settled rules h).rows ≡ rows_for us = stands.rows_are e in
          let done : finished rules h ≡ rows_for us = serves.no_defaults (settled rules h).rows ∙ rows in
          agrees_past _ _ _ _ (none_fails _ e) (agrees_past _ _ _ _ (serves.no_default_fault _)
          (rw (done, serves.required (rows_for us)) (last _ refl)))

  nothing_after : AgreesOn []
  unfolding roles walk_fault placed
  nothing_after anything h i wait us left at_i stands = at_end idle false h i us left stands
  nothing_after names_only h i wait us left at_i stands = at_end wait true h i us left stands
  nothing_after (value_of x) h i wait us left at_i stands = value_lacks h us stands
    where
      value_lacks : (g : Held) (vs : List Use) → (g ≡ opened (rows_for vs) x) × (contains x options ≡ true)
          → Ends (at g i (option x) false) [] (placed names vs left (unfit ∷ []))
      value_lacks g vs st = rw (st.0, serves.by_id x st.1) refl

  -- the agreement, if `more` holds for the rest
  abbrev pub StepsOn : Text → List Text → Due → Look → Held → ℕ → Waiting → List Use → List Text → Type 0
  StepsOn word words due look h i wait us left = Ends (walk_at h i wait due) (word ∷ words)
      (unless (stuck h due) (placed names us left (role_by options due look word ∷ roles options (due_after due (role_by options due look word)) words)))

  opening_step : (word : Text) (words : List Text) (y : Text) → AgreesOn words → Facts (long y None) word → contains y options ≡ true
      → (h : Held) (i : ℕ) (us : List Use) (left : List Text) → Indexed rules i left → Rests h us
      → Ends (at h i idle false) (word ∷ words) (unless (fails (settle_fault rules false h)) (placed names us left (opens y ∷ roles options (value_of y) words)))
  unfolding placed
  opening_step word words y more f e h i us left at_i stands = go (fails (settle_fault rules false h)) refl
    where
      go : (b : Bool) → fails (settle_fault rules false h) ≡ b
          → Ends (at h i idle false) (word ∷ words) (unless b (placed names us left (roles options (value_of y) words)))
      go true k = step_fails (at h i idle false) word words None (rw (opening_turn h i y word f e).0 (fails_first _ _ k)) refl
      go false k =
          let opens_to : ◌≡◌ {A = Held} (record (settled rules h) { pending = Some (y, []) }) (opened (rows_for us) y) =
          λ j. record { rows = stands.rows_are k j; pending = Some (y, []); skip = stands.no_skip j } in
          step_goes (at h i idle false) _ word words _ (rw ((opening_turn h i y word f e).0, none_fails (settle_fault rules false h) k) refl) (opening_turn h i y word f e).1
          (more (value_of y) _ i idle us left at_i (opens_to, e))

  giving_step : (word : Text) (words : List Text) (y v : Text) → AgreesOn words → Facts (long y (Some v)) word → contains y options ≡ true
      → (h : Held) (i : ℕ) (us : List Use) (left : List Text) → Indexed rules i left → Rests h us
      → Ends (at h i idle false) (word ∷ words) (unless (fails (settle_fault rules false h)) (placed names us left (gives y v ∷ roles options anything words)))
  unfolding placed
  giving_step word words y v more f e h i us left at_i stands = go (fails (settle_fault rules false h)) refl
    where
      given : fails (settle_fault rules false h) ≡ false → (b : Bool) → has_row y (rows_for us) ≡ b → Ends (at h i idle false) (word ∷ words) (unless b (placed names (us ++ (y, v) ∷ []) left (roles options anything words)))
      given k true is =
          let repeats : fails (use_fault false (built_option y) (v ∷ []) (settled rules h).rows) ≡ true = rw (stands.rows_are k) (option_fails y v (rows_for us) ∙ is) in
          step_fails (at h i idle false) word words None (rw ((giving_turn h i y word v f e).0, none_fails (settle_fault rules false h) k) (fails_first _ _ repeats)) refl
      given k false is =
          let first : use_fault false (built_option y) (v ∷ []) (settled rules h).rows ≡ [] = none_fails _ (rw (stands.rows_are k) (option_fails y v (rows_for us) ∙ is)) in
          let rows : used (built_option y) (v ∷ []) (settled rules h).rows ≡ rows_for (us ++ (y, v) ∷ []) = rw (stands.rows_are k) (fresh_row y v us is) in
          step_goes (at h i idle false) (at (after_option h y v) i idle false) word words (placed names (us ++ (y, v) ∷ []) left (roles options anything words)) (rw ((giving_turn h i y word v f e).0, none_fails (settle_fault rules false h) k, first) refl)
          (giving_turn h i y word v f e).1 (more anything (after_option h y v) i idle (us ++ (y, v) ∷ []) left at_i (record { rows_are = λ _. rows; no_skip = stands.no_skip }))

      go : (b : Bool) → fails (settle_fault rules false h) ≡ b → Ends (at h i idle false) (word ∷ words) (unless b (unless (has_row y (rows_for us)) (placed names (us ++ (y, v) ∷ []) left (roles options anything words))))
      go true k = step_fails (at h i idle false) word words None (rw (giving_turn h i y word v f e).0 (fails_first _ _ (fails_first _ _ k))) refl
      go false k = given k (has_row y (rows_for us)) refl

  long_step : (word : Text) (words : List Text) (y : Text) (v : Option Text) → AgreesOn words → Facts (long y v) word
      → (h : Held) (i : ℕ) (wait : Waiting) (us : List Use) (left : List Text) → Indexed rules i left → Rests h us → StepsOn word words anything (long y v) h i wait us left
  unfolding placed
  long_step word words y v more f h i wait us left at_i stands = go (contains y options) refl v f
    where
      go : (b : Bool) → contains y options ≡ b → (w : Option Text) → Facts (long y w) word
          → Ends (at h i idle false) (word ∷ words) (unless (fails (settle_fault rules false h)) (placed names us left
          (option_role b y w ∷ roles options (due_after anything (option_role b y w)) words)))
      go false e w g = step_fails (at h i idle false) word words _ (unknown_turn h i y word w g e) (unless_none (fails (settle_fault rules false h)))
      go true e None g = opening_step word words y more g e h i us left at_i stands
      go true e (Some t) g = giving_step word words y t more g e h i us left at_i stands

  anything_step : (word : Text) (words : List Text) → IsUtf8 word → AgreesOn words → (l : Look) → Facts l word
      → (h : Held) (i : ℕ) (wait : Waiting) (us : List Use) (left : List Text) → Indexed rules i left → Rests h us → StepsOn word words anything l h i wait us left
  unfolding placed
  anything_step word words u more plain f h i wait us left at_i stands =
      to_name false idle h i us left word words (roles options anything words) (plain_turn h i word f).0 (plain_turn h i word f).1
      (λ g j vs rest at_j r. more anything g j idle vs rest at_j r) at_i stands
  anything_step word words u more short f h i wait us left at_i stands =
      step_fails (at h i idle false) word words _ (short_turn h i word f u stands.no_skip) (unless_none (fails (settle_fault rules false h)))
  anything_step word words u more dashes f h i wait us left at_i stands =
      step_goes (at h i idle false) (at h i idle true) word words _ (dashes_turn h i word f).0 (dashes_turn h i word f).1 (more names_only h i idle us left at_i stands)
  anything_step word words u more (long y v) f h i wait us left at_i stands = long_step word words y v more f h i wait us left at_i stands

  value_step : (word : Text) (words : List Text) → IsUtf8 word → AgreesOn words → (x : Text) → contains x options ≡ true → (l : Look) → Facts l word
      → (i : ℕ) (wait : Waiting) (us : List Use) (left : List Text) → Indexed rules i left → StepsOn word words (value_of x) l (opened (rows_for us) x) i wait us left
  unfolding placed
  value_step word words u more x e plain f i wait us left at_i =
      let rests = option_rests x word (rows_for us) us 0 (serves.by_id x e) refl refl in
      step_goes (at (opened (rows_for us) x) i (option x) false) _ word words _ (value_turn (rows_for us) i x word f e).0 (value_turn (rows_for us) i x word f e).1
      (subst (λ b. Ends (at (record { rows = rows_for us; pending = Some (x, word ∷ []); skip = 0 }) i idle false) words
      (unless b (placed names (us ++ (x, word) ∷ []) left (roles options anything words)))) rests.0 (more anything _ i idle (us ++ (x, word) ∷ []) left at_i rests.1))
  value_step word words u more x e short f i wait us left at_i =
      step_fails (at (opened (rows_for us) x) i (option x) false) word words _ (waiting_short_turn (opened (rows_for us) x) i x word f u refl) refl
  value_step word words u more x e dashes f i wait us left at_i =
      let lacks : fails (settle_fault rules false (opened (rows_for us) x)) ≡ true = rw (serves.by_id x e) refl in
      let rests : Rests (opened (rows_for us) x) us = record { rows_are = λ none. absurd (true≢false (sym lacks ∙ none)); no_skip = refl } in
      step_goes (at (opened (rows_for us) x) i (option x) false) (at (opened (rows_for us) x) i (option x) true) word words None (waiting_dashes_turn (opened (rows_for us) x) i x word f).0
      (waiting_dashes_turn (opened (rows_for us) x) i x word f).1
      (subst (λ b. Ends (at (opened (rows_for us) x) i (option x) true) words (unless b (placed names us left (roles options names_only words)))) lacks (more names_only (opened (rows_for us) x) i (option x) us left at_i rests))
  value_step word words u more x e (long y v) f i wait us left at_i =
      step_fails (at (opened (rows_for us) x) i (option x) false) word words _ (waiting_long_turn (rows_for us) i x y word v f e) refl

  one_word : (word : Text) (words : List Text) → IsUtf8 word → AgreesOn words → AgreesOn (word ∷ words)
  unfolding roles
  one_word word words u more anything h i wait us left at_i stands = anything_step word words u more (look_of word) (looks word) h i wait us left at_i stands
  one_word word words u more names_only h i wait us left at_i stands =
      to_name true wait h i us left word words (roles options names_only words) (trailing_turn h i wait word).0 (trailing_turn h i wait word).1
      (λ g j vs rest at_j r. more names_only g j idle vs rest at_j r) at_i stands
  one_word word words u more (value_of x) h i wait us left at_i stands =
      subst (λ g. StepsOn word words (value_of x) (look_of word) g i wait us left) (sym stands.0) (value_step word words u more x stands.1 (look_of word) (looks word) i wait us left at_i)

  pub agrees : (words : List Text) → AllUtf8 words → AgreesOn words
  agrees [] u = nothing_after
  agrees (word ∷ words) u = one_word word words u.0 (agrees words u.1)
