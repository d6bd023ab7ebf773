-- A part that is passed out by the mode of its field.
use Rattle.std.proofs.Common.{rules, ◌≡◌, ◌∙◌, ◌-◌, ℕ, Bool, true, false, List, [], ◌∷◌, map, sym, ap, subst, refl, arith}
use mathlib.Core.Path.{fun_ext}
use Rattle.std.specs.Prelude.{if◌then◌else◌, count_by, position, Option, Some, None, option_map, ◌||◌, ◌&&◌, not, ◌==◌}
use Rattle.std.specs.List.{All, list_any}
use Rattle.std.specs.Int.{bit_at}
use Rattle.std.proofs.lemmas.Bool.{false≢true}
use Rattle.std.proofs.lemmas.List.Elements.{All-map}
use Rattle.packet_fields.specs.Fields.{number_of}
use Rattle.packet_fields.specs.declared.field.Field.{Field}
use Rattle.action_profile.specs.FieldSets.{has, joined}
use Rattle.action_profile.proofs.Bits.{has_joined}
use Rattle.action_profile.specs.Modes.{has_write, has_touch, only_reads, mode_of, copies_by_mode}
use Rattle.action_profile.specs.declared.parts.Mode.{Mode}
use Rattle.action_profile.specs.declared.parts.Mode.TheVariants.{Shared, Moved, Copied}
use Rattle.action_profile.specs.declared.parts.Touch.{Touch}
use Rattle.chain_walk.specs.declared.fixed.Fixed.{Fixed}
use Rattle.packet_version.specs.Parts.{PlainPart, PlainHeld, Parts, as_list, as_map, unwritten, writer_in, IsPartOf}
use Rattle.packet_version.specs.Versions.{PlainVersion, nothing, had_by}
use Rattle.packet_fields.specs.Writing.{rest_of}
use Rattle.packet_version.specs.Splitting.{PlainApart}
use Rattle.packet_version.specs.Dealing.{dealt_parts, dealt_version, is_given, kept_parts, copies_due}
use Rattle.packet_version.specs.Handing.{touches_in, copied_some, copies_of, own_parts, with_own, with_loan, with_packet, lent_to, reads_more, writers_in}
use Rattle.packet_version.proofs.Firsts.{NoneOf, count-map, count-weaker, any-none, none-map}
use Rattle.packet_version.proofs.Maps.{as_map-listed}
use Rattle.packet_version.proofs.Modal.{shared_unwritten, moved_given, copied_given, copied_lent}
use Rattle.packet_version.proofs.Originals.{none_copied}

due_by : (f : Field) (o : Option PlainPart) (vs : List PlainVersion) (m : Mode) (n : ℕ) → m ≡ mode_of (touches_in vs) f → n ≡ copies_by_mode m (touches_in vs) f → copies_of o n ≡ copies_due (touches_in vs) f o
due_by f None vs m n mode is = refl
due_by f (Some p) vs m n mode is = is ∙ ap (λ (k : Mode). copies_by_mode k (touches_in vs) f) mode

writers_are : (f : Field) (vs : List PlainVersion) → count_by (has_write f) (touches_in vs) ≡ writers_in f vs
writers_are f vs = count-map (has_write f) (λ v. v.touch) vs

-- a shared field
pub shared_alone : (f : Field) (o : Option PlainPart) (vs : List PlainVersion) (m : Mode) → m ≡ Shared → m ≡ mode_of (touches_in vs) f → vs ≡ map (copied_some f o) vs
shared_alone f o vs m shared mode = none_copied f o vs (none-map (has_write f) (λ v. v.touch) vs (shared_unwritten (touches_in vs) f (sym shared ∙ mode)))

-- a moved field
pub moved_first : (f : Field) (vs : List PlainVersion) (m : Mode) (first : ℕ) → m ≡ Moved first → m ≡ mode_of (touches_in vs) f → position (has_write f) (touches_in vs) ≡ Some first
moved_first f vs m first moved mode = (moved_given (touches_in vs) f first (sym moved ∙ mode)).0.place

touched : (r w : Bool) → w ≡ true → (r || w) ≡ true
touched true w e = refl
touched false w e = e

pub moved_due : (f : Field) (o : Option PlainPart) (vs : List PlainVersion) (m : Mode) (first : ℕ) → m ≡ Moved first → m ≡ mode_of (touches_in vs) f → copies_of o (writers_in f vs - 1) ≡ copies_due (touches_in vs) f o
moved_due f o vs m first moved mode =
    let due : copies_by_mode m (touches_in vs) f ≡ 0 = ap (λ (k : Mode). copies_by_mode k (touches_in vs) f) moved in
    let one = (moved_given (touches_in vs) f first (sym moved ∙ mode)).1 in
    let few = count-weaker (has_write f) (has_touch f) (λ t. touched (has t.reads f) (has t.writes f)) (touches_in vs) in
    let are = writers_are f vs in
    due_by f o vs m (writers_in f vs - 1) mode (omega arith)

-- a field that every branch that touches it writes
pub copied_first : (f : Field) (vs : List PlainVersion) (m : Mode) (first : ℕ) → m ≡ Copied (Some first) → m ≡ mode_of (touches_in vs) f → position (has_write f) (touches_in vs) ≡ Some first
copied_first f vs m first copied mode = (copied_given (touches_in vs) f first (sym copied ∙ mode)).0.place

pub copied_alone : (f : Field) (vs : List PlainVersion) (m : Mode) (first : ℕ) → m ≡ Copied (Some first) → m ≡ mode_of (touches_in vs) f → list_any (only_reads f) (touches_in vs) ≡ false
copied_alone f vs m first copied mode = (copied_given (touches_in vs) f first (sym copied ∙ mode)).1

pub copied_due : (f : Field) (o : Option PlainPart) (vs : List PlainVersion) (m : Mode) (first : ℕ) → m ≡ Copied (Some first) → m ≡ mode_of (touches_in vs) f → copies_of o (writers_in f vs - 1) ≡ copies_due (touches_in vs) f o
copied_due f o vs m first copied mode =
    let n = count_by (has_write f) (touches_in vs) in
    due_by f o vs m (writers_in f vs - 1) mode (sym (ap (λ (k : Mode). copies_by_mode k (touches_in vs) f) copied
    ∙ (ap (λ (b : Bool). if b then n else n - 1) (copied_alone f vs m first copied mode) ∙ ap (λ (k : ℕ). k - 1) (writers_are f vs))))

-- a field of which some branch has a copy beside a loan
pub lent_due : (f : Field) (o : Option PlainPart) (vs : List PlainVersion) (m : Mode) → m ≡ Copied None → m ≡ mode_of (touches_in vs) f → copies_of o (writers_in f vs) ≡ copies_due (touches_in vs) f o
lent_due f o vs m copied mode =
    let n = count_by (has_write f) (touches_in vs) in
    due_by f o vs m (writers_in f vs) mode (sym (ap (λ (k : Mode). copies_by_mode k (touches_in vs) f) copied
    ∙ (ap (λ (b : Bool). if b then n else n - 1) (copied_lent (touches_in vs) f (sym copied ∙ mode)) ∙ writers_are f vs)))

-- no branch only reads a field whose original goes to a branch
given_alone : (m : Mode) (ts : List Touch) (f : Field) → m ≡ mode_of ts f → is_given m ≡ true → NoneOf (only_reads f) ts
given_alone Shared ts f mode given = absurd (cc)
given_alone (Moved first) ts f mode given = (moved_given ts f first mode).0.alone
given_alone (Copied None) ts f mode given = absurd (cc)
given_alone (Copied (Some first)) ts f mode given = (copied_given ts f first mode).0.alone

-- so what is kept is there for those that only read it
abbrev AreKept : List Touch → Parts → Parts → Type 0
AreKept ts parts kept = (f : Field) → list_any (only_reads f) ts ≡ true → kept f ≡ option_map unwritten (parts f)

are_kept : (ts : List Touch) (parts : Parts) → AreKept ts parts (kept_parts ts parts)
are_kept ts parts f some = by_test (is_given (mode_of ts f)) refl
  where
    by_test : (b : Bool) → is_given (mode_of ts f) ≡ b → (if is_given (mode_of ts f) then None else option_map unwritten (parts f)) ≡ option_map unwritten (parts f)
    by_test true e = absurd (false≢true (sym (any-none (only_reads f) ts (given_alone (mode_of ts f) ts f refl e)) ∙ some))
    by_test false e = ap (λ (b : Bool). if b then None else option_map unwritten (parts f)) e

first_any : (f : Field) (t : Touch) (ts : List Touch) → only_reads f t ≡ true → list_any (only_reads f) (t ∷ ts) ≡ true
first_any f t ts e = ap (λ (b : Bool). b || list_any (only_reads f) ts) e

later_any : (f : Field) (t : Touch) (ts : List Touch) → list_any (only_reads f) ts ≡ true → list_any (only_reads f) (t ∷ ts) ≡ true
later_any f t ts e = by_test (only_reads f t)
  where
    by_test : (b : Bool) → (b || list_any (only_reads f) ts) ≡ true
    by_test true = refl
    by_test false = e

-- what a branch gets, by what it reads and writes
dealt_by : (r w : Bool) (o k : Option PlainPart) → ((r && not w) ≡ true → k ≡ o) → (if w then (if w then o else None) else (if r && not w then k else None)) ≡ (if r || w then o else None)
dealt_by true true o k kept = refl
dealt_by true false o k kept = kept refl
dealt_by false true o k kept = refl
dealt_by false false o k kept = refl

parts_dealt : (parts kept : Parts) (touch : Touch) → ((f : Field) → only_reads f touch ≡ true → kept f ≡ option_map unwritten (parts f)) → had_by touch (as_map (as_list (own_parts touch parts))) kept ≡ dealt_parts touch parts
parts_dealt parts kept touch are =
    ap (λ (m : Parts). had_by touch m kept) (as_map-listed (own_parts touch parts))
    ∙ fun_ext (λ f. dealt_by (has touch.reads f) (has touch.writes f) (option_map unwritten (parts f)) (kept f) (are f))

loan_dealt : (parts kept : Parts) (v : PlainVersion) → ((f : Field) → only_reads f v.touch ≡ true → kept f ≡ option_map unwritten (parts f)) → with_loan kept (with_own parts v) ≡ dealt_version parts v.fixed v.touch
loan_dealt parts kept v are = ap (λ (m : Parts). let x : PlainVersion = record { parts = as_list m; touch = v.touch; fixed = v.fixed; kept = None } in x) (parts_dealt parts kept v.touch are)

not_more : (a b : ℕ) → not (a == b) ≡ false → a ≡ b
not_more a b e = search rules

-- a branch that reads no more than it writes
no_more : (touch : Touch) (f : Field) → reads_more touch ≡ false → has_touch f touch ≡ has_write f touch
unfolding reads_more
no_more touch f e =
    sym (has_joined touch.reads touch.writes f) ∙ ap (λ (n : ℕ). bit_at n (number_of f) == 1) (not_more (joined touch.reads touch.writes).0 touch.writes.0 e)

lent_dealt : (parts kept : Parts) (v : PlainVersion) → v.kept ≡ None → ((f : Field) → only_reads f v.touch ≡ true → kept f ≡ option_map unwritten (parts f)) → lent_to kept (with_own parts v) ≡ dealt_version parts v.fixed v.touch
lent_dealt parts kept v none are = by_test (reads_more v.touch) refl
  where
    by_test : (b : Bool) → reads_more v.touch ≡ b → (if b then with_loan kept (with_own parts v) else with_own parts v) ≡ dealt_version parts v.fixed v.touch
    by_test true e = loan_dealt parts kept v are
    by_test false e =
        ap (λ (k : Option PlainApart). record (with_own parts v) { kept = k }) none
        ∙ ap (λ (m : Parts). let x : PlainVersion = record { parts = as_list m; touch = v.touch; fixed = v.fixed; kept = None } in x)
        (fun_ext (λ f. ap (λ (b : Bool). if b then option_map unwritten (parts f) else None) (sym (no_more v.touch f e))))

-- versions with parts of their own and a loan are those that branches get
all_dealt : (parts kept : Parts) (fixed : Fixed) (ts : List Touch) → AreKept ts parts kept → map (lent_to kept) (map (with_own parts) (map (λ t. nothing t fixed) ts)) ≡ map (dealt_version parts fixed) ts
all_dealt parts kept fixed [] are = refl
all_dealt parts kept fixed (t ∷ ts) are =
    ap (λ (x : PlainVersion). x ∷ map (lent_to kept) (map (with_own parts) (map (λ t. nothing t fixed) ts))) (lent_dealt parts kept (nothing t fixed) refl (λ f e. are f (first_any f t ts e)))
    ∙ ap (λ (xs : List PlainVersion). dealt_version parts fixed t ∷ xs) (all_dealt parts kept fixed ts (λ f e. are f (later_any f t ts e)))

-- and so are those of a stage
pub stage_dealt : (ts : List Touch) (parts : Parts) (fixed : Fixed) (vs owned lent : List PlainVersion) → vs ≡ map (λ t. nothing t fixed) ts → owned ≡ map (with_own parts) vs → lent ≡ map (lent_to (kept_parts ts parts)) owned → lent ≡ map (dealt_version parts fixed) ts
stage_dealt ts parts fixed vs owned lent empty own loan =
    loan
    ∙ (ap (λ (xs : List PlainVersion). map (lent_to (kept_parts ts parts)) xs) (own ∙ ap (map (with_own parts)) empty)
    ∙ all_dealt parts (kept_parts ts parts) fixed ts (are_kept ts parts))

-- none of them has anything of the packet
pub owned_apart : (ts : List Touch) (parts : Parts) (fixed : Fixed) (vs owned : List PlainVersion) → vs ≡ map (λ t. nothing t fixed) ts → owned ≡ map (with_own parts) vs → All (λ v. v.kept ≡ None) owned
owned_apart ts parts fixed vs owned empty own = subst (All (λ v. v.kept ≡ None)) (sym (own ∙ ap (map (with_own parts)) empty))
    (All-map (λ v. v.kept ≡ None) (with_own parts) (map (λ t. nothing t fixed) ts) (All-map (λ v. (with_own parts v).kept ≡ None) (λ t. nothing t fixed) ts (λ k d below. refl)))

-- the version that the only branch of a stage gets, with the rest of the packet
pub whole_dealt : (t : Touch) (parts : Parts) (frame : List ℕ) (fixed : Fixed) (v : PlainVersion) (held : PlainHeld) → v ≡ with_own parts (nothing t fixed) → held ≡ record { parts = as_list (kept_parts (t ∷ []) parts); frame = frame } →
    with_packet held v ≡ record (dealt_version parts fixed t) { kept = Some (record { parts = as_list (kept_parts (t ∷ []) parts); rest = rest_of frame; fixed = fixed }) }
whole_dealt t parts frame fixed v held own is =
    ap (λ (x : PlainVersion). with_packet held x) own
    ∙ ap (λ (h : PlainHeld). with_packet h (with_own parts (nothing t fixed))) is
    ∙ ap (λ (m : Parts). let x : PlainVersion = record { parts = as_list m; touch = t; fixed = fixed; kept = Some (record { parts = as_list (kept_parts (t ∷ []) parts); rest = rest_of frame; fixed = fixed }) } in x)
    (ap (λ (m : Parts). had_by t (as_map (as_list (own_parts t parts))) m) (as_map-listed (kept_parts (t ∷ []) parts))
    ∙ parts_dealt parts (kept_parts (t ∷ []) parts) t (λ f e. are_kept (t ∷ []) parts f (first_any f t [] e)))

-- the kept parts have no writer, and are their fields'
pub kept_unwritten : (ts : List Touch) (parts : Parts) (f : Field) → writer_in (kept_parts ts parts f) ≡ 0
kept_unwritten ts parts f = by_test (is_given (mode_of ts f)) (parts f)
  where
    by_test : (b : Bool) (o : Option PlainPart) → writer_in (if b then None else option_map unwritten o) ≡ 0
    by_test true o = refl
    by_test false None = refl
    by_test false (Some p) = refl

pub kept_formed : (ts : List Touch) (parts : Parts) (f : Field) → IsPartOf f (parts f) → IsPartOf f (kept_parts ts parts f)
kept_formed ts parts f formed = by_test (is_given (mode_of ts f)) (parts f) formed
  where
    by_test : (b : Bool) (o : Option PlainPart) → IsPartOf f o → IsPartOf f (if b then None else option_map unwritten o)
    by_test true o has = tt
    by_test false None has = tt
    by_test false (Some p) has = has
