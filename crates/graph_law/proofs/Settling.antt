-- A walk of functions that count is the walk without their counting, after which each settles what it noted.
use Rattle.std.proofs.Common.{◌≡◌, ◌+◌, ◌∙◌, ℕ, List, ◌∷◌, [], ◌++◌, length, map, sym, ap, refl, Bool, true, false, Some, None, if◌then◌else◌}
use Rattle.std.specs.Prelude.{Option, slice_get}
use Rattle.packet_fields.specs.Writing.{over, fields_of}
use Rattle.chain_walk.specs.Counting.{idle, quiet}
use Rattle.chain_walk.specs.FieldWalk.{End.Out, End.Gone, Ended, walk_fields, then_ended, walked_by}
use Rattle.chain_walk.specs.Laws.{KeepsProfile}
use Rattle.chain_walk.specs.Notes.{Notes, noted, settled, CountsByNotes}
use Rattle.chain_walk.specs.Packets.{Packet, fates, functions_after}
use Rattle.chain_walk.specs.Shown.{Values, shown_by, fixed_of}
use Rattle.chain_walk.specs.Step.{Behaviour, Step, stepped, is_drop}
use Rattle.chain_walk.specs.Walk.{Walked, walk}
use Rattle.chain_walk.specs.declared.fixed.Fixed.{Fixed}
use Rattle.graph_law.specs.NotedWalk.{walk_notes, settled_all, packet_notes, settled_in_turn}
use Rattle.graph_law.proofs.Walking.{then_walk, walk_keeps}

-- a step after which a note is settled
abbrev settled_step : {F N : Type 0} → Notes F N → Step F → Option N → Step F
settled_step notes t note = record { after = settled notes t.after note; verdict = t.verdict; written = t.written }

-- a function's step is its step without counting, after which it settles what it noted
step_settles : {F N : Type 0} (b : Behaviour F) (notes : Notes F N) (fixed : Fixed) (f : F) (v : Values) → CountsByNotes b notes →
    stepped b fixed f v ≡ settled_step notes (stepped (quiet b) fixed f v) (noted b notes fixed f v)
step_settles {F} {N} b notes fixed f v by_notes = go (b.profile f).counts refl
  where
    go : (c : Bool) → (b.profile f).counts ≡ c →
        stepped b fixed f v ≡ settled_step notes (if c then idle f else stepped b fixed f v) (if c then notes.look f (shown_by (b.profile f) fixed v) else None)
    go true is = by_notes.step fixed f v is ∙ ap (λ c. settled_step notes (idle f) (if c then notes.look f (shown_by (b.profile f) fixed v) else None)) is
    go false is = refl

-- a walk after which notes are settled
abbrev settled_end : {F N : Type 0} → Notes F N → List (Option N) → Ended F → Ended F
settled_end notes made w = record { functions = settled_all notes w.functions made; end = w.end }

-- if nothing was noted, nothing is settled
settled_none : {F N : Type 0} (notes : Notes F N) (xs gs : List F) → settled_all notes xs (map (λ g. None) gs) ≡ xs
unfolding settled_all
settled_none notes [] gs = refl
settled_none notes (x ∷ xs) [] = refl
settled_none notes (x ∷ xs) (g ∷ gs) = ap (λ l. x ∷ l) (settled_none notes xs gs)

pub walk_settles : {F N : Type 0} (b : Behaviour F) (notes : Notes F N) (fixed : Fixed) (p : ℕ) (fs : List F) (values : Values) → CountsByNotes b notes →
    walk_fields b fixed p fs values ≡ settled_end notes (walk_notes (quiet b) notes fixed fs values) (walk_fields (quiet b) fixed p fs values)
unfolding walk_fields walk_notes settled_all
walk_settles b notes fixed p [] values by_notes = refl
walk_settles {F} {N} b notes fixed p (f ∷ fs) values by_notes =
    ap (λ t. then_walk b fixed p t fs values (is_drop t.verdict)) (step_settles b notes fixed f values by_notes)
    ∙ go (is_drop s.verdict) (walk_settles b notes fixed (p + 1) fs (over s.written values) by_notes)
  where
    s : Step F
    s = stepped (quiet b) fixed f values

    note : Option N
    note = noted b notes fixed f values

    rest : List (Option N)
    rest = walk_notes (quiet b) notes fixed fs (over s.written values)

    go : (d : Bool) →
        walk_fields b fixed (p + 1) fs (over s.written values) ≡ settled_end notes rest (walk_fields (quiet b) fixed (p + 1) fs (over s.written values)) →
        then_walk b fixed p (settled_step notes s note) fs values d ≡ settled_end notes (note ∷ (if d then map (λ g. None) fs else rest)) (then_walk (quiet b) fixed p s fs values d)
    go true ih = λ i. record { functions = settled notes s.after note ∷ sym (settled_none notes fs fs) i; end = Gone p }
    go false ih = ap (then_ended (settled notes s.after note)) ih

-- notes that these functions may have made: one that doesn't count made none
unfoldable pub Fit : {F N : Type 0} → Behaviour F → List F → List (Option N) → Type 0
Fit b [] [] = Unit {0}
Fit b [] (_ ∷ made) = ⊥
Fit b (f ∷ fs) [] = ⊥
Fit b (f ∷ fs) (note ∷ made) = ((b.profile f).counts ≡ false → note ≡ None) × Fit b fs made

-- without counting, a settled note changes no step
pub step_quiet : {F N : Type 0} (b : Behaviour F) (notes : Notes F N) (fixed : Fixed) (f : F) (note : Option N) (v : Values) → CountsByNotes b notes → ((b.profile f).counts ≡ false → note ≡ None) →
    stepped (quiet b) fixed (settled notes f note) v ≡ settled_step notes (stepped (quiet b) fixed f v) note
step_quiet b notes fixed f None v by_notes fit = refl
step_quiet {F} {N} b notes fixed f (Some note) v by_notes fit = go (b.profile f).counts refl
  where
    g : F
    g = notes.settle f note

    go : (c : Bool) → (b.profile f).counts ≡ c → stepped (quiet b) fixed g v ≡ settled_step notes (if c then idle f else stepped b fixed f v) (Some note)
    go true is = ap (λ c. if c then idle g else stepped b fixed g v) (ap (λ q. q.counts) (by_notes.stays f note) ∙ is)
    go false is = absurd (let none = fit is in cc)

-- nor what is noted
pub noted_quiet : {F N : Type 0} (b : Behaviour F) (notes : Notes F N) (fixed : Fixed) (f : F) (note : Option N) (v : Values) → CountsByNotes b notes →
    noted b notes fixed (settled notes f note) v ≡ noted b notes fixed f v
noted_quiet b notes fixed f None v by_notes = refl
noted_quiet b notes fixed f (Some note) v by_notes =
    ap (λ q. if q.counts then notes.look (notes.settle f note) (shown_by q fixed v) else None) (by_notes.stays f note)
    ∙ ap (λ o. if (b.profile f).counts then o else None) (by_notes.looks f note (shown_by (b.profile f) fixed v))

none_each : {F N : Type 0} (notes : Notes F N) (fs : List F) (made : List (Option N)) → ◌≡◌ {A = List (Option N)} (map (λ g. None) (settled_all notes fs made)) (map (λ g. None) fs)
unfolding settled_all
none_each notes [] made = refl
none_each notes (f ∷ fs) [] = refl
none_each notes (f ∷ fs) (_ ∷ made) = ap (λ l. None ∷ l) (none_each notes fs made)

pub quiet_settled : {F N : Type 0} (b : Behaviour F) (notes : Notes F N) (fixed : Fixed) (p : ℕ) (fs : List F) (made : List (Option N)) (values : Values) → CountsByNotes b notes → Fit b fs made →
    walk_fields (quiet b) fixed p (settled_all notes fs made) values ≡ settled_end notes made (walk_fields (quiet b) fixed p fs values)
unfolding walk_fields settled_all Fit
quiet_settled b notes fixed p [] [] values by_notes fit = refl
quiet_settled b notes fixed p [] (_ ∷ made) values by_notes fit = absurd fit
quiet_settled b notes fixed p (f ∷ fs) [] values by_notes fit = absurd fit
quiet_settled {F} {N} b notes fixed p (f ∷ fs) (note ∷ made) values by_notes fit =
    ap (λ t. then_walk (quiet b) fixed p t (settled_all notes fs made) values (is_drop t.verdict)) (step_quiet b notes fixed f note values by_notes fit.0)
    ∙ go (is_drop s.verdict) (quiet_settled b notes fixed (p + 1) fs made (over s.written values) by_notes fit.1)
  where
    s : Step F
    s = stepped (quiet b) fixed f values

    go : (d : Bool) →
        walk_fields (quiet b) fixed (p + 1) (settled_all notes fs made) (over s.written values) ≡ settled_end notes made (walk_fields (quiet b) fixed (p + 1) fs (over s.written values)) →
        then_walk (quiet b) fixed p (settled_step notes s note) (settled_all notes fs made) values d ≡ settled_end notes (note ∷ made) (then_walk (quiet b) fixed p s fs values d)
    go true ih = refl
    go false ih = ap (then_ended (settled notes s.after note)) ih

-- what becomes of a note and of those after it
abbrev then_notes : {F N : Type 0} → Option N → List F → List (Option N) → Bool → List (Option N)
then_notes note later rest drops = note ∷ (if drops then map (λ g. None) later else rest)

pub notes_settled : {F N : Type 0} (b : Behaviour F) (notes : Notes F N) (fixed : Fixed) (fs : List F) (made : List (Option N)) (values : Values) → CountsByNotes b notes → Fit b fs made →
    walk_notes (quiet b) notes fixed (settled_all notes fs made) values ≡ walk_notes (quiet b) notes fixed fs values
unfolding walk_notes settled_all Fit
notes_settled b notes fixed [] [] values by_notes fit = refl
notes_settled b notes fixed [] (_ ∷ made) values by_notes fit = absurd fit
notes_settled b notes fixed (f ∷ fs) [] values by_notes fit = absurd fit
notes_settled {F} {N} b notes fixed (f ∷ fs) (note ∷ made) values by_notes fit =
    ap (λ t. then_notes (noted b notes fixed (settled notes f note) values) (settled_all notes fs made) (walk_notes (quiet b) notes fixed (settled_all notes fs made) (over t.written values)) (is_drop t.verdict))
    (step_quiet b notes fixed f note values by_notes fit.0)
    ∙ (λ i. then_notes (noted_quiet b notes fixed f note values by_notes i) (settled_all notes fs made) (notes_settled b notes fixed fs made (over s.written values) by_notes fit.1 i) (is_drop s.verdict))
    ∙ ap (λ l. noted b notes fixed f values ∷ (if is_drop s.verdict then l else walk_notes (quiet b) notes fixed fs (over s.written values))) (none_each notes fs made)
  where
    s : Step F
    s = stepped (quiet b) fixed f values

-- functions of the same profiles may have made the same notes
pub fit_same : {F N : Type 0} (b : Behaviour F) (fs gs : List F) (made : List (Option N)) → map b.profile gs ≡ map b.profile fs → Fit b fs made → Fit b gs made
unfolding Fit
fit_same b [] [] [] same fit = tt
fit_same b [] [] (_ ∷ made) same fit = absurd fit
fit_same b [] (g ∷ gs) made same fit = absurd cc
fit_same b (f ∷ fs) [] made same fit = absurd cc
fit_same b (f ∷ fs) (g ∷ gs) [] same fit = absurd fit
fit_same b (f ∷ fs) (g ∷ gs) (_ ∷ made) same fit =
    let here : b.profile g ≡ b.profile f = cc in
    let rest : map b.profile gs ≡ map b.profile fs = cc in
    (λ none. fit.0 (ap (λ q. q.counts) (sym here) ∙ none), fit_same b fs gs made rest fit.1)

fit_none : (N : Type 0) {F : Type 0} (b : Behaviour F) (fs : List F) → Fit {N = N} b fs (map (λ g. None) fs)
unfolding Fit
fit_none N b [] = tt
fit_none N b (f ∷ fs) = (λ none. refl, fit_none N b fs)

pub fit_notes : {F N : Type 0} (b : Behaviour F) (notes : Notes F N) (fixed : Fixed) (fs : List F) (values : Values) → Fit b fs (walk_notes (quiet b) notes fixed fs values)
unfolding Fit walk_notes
fit_notes b notes fixed [] values = tt
fit_notes {F} {N} b notes fixed (f ∷ fs) values = (
  λ none. ap (λ c. if c then notes.look f (shown_by (b.profile f) fixed values) else None) none,
  go (is_drop s.verdict) (fit_notes b notes fixed fs (over s.written values)),
)
  where
    s : Step F
    s = stepped (quiet b) fixed f values

    go : (d : Bool) → Fit b fs (walk_notes (quiet b) notes fixed fs (over s.written values)) → Fit b fs (if d then map (λ g. None) fs else walk_notes (quiet b) notes fixed fs (over s.written values))
    go true ih = fit_none N b fs
    go false ih = ih

-- what is said about whole frames that walk
abbrev pub WalkAsFields : Type 0 → Type 0
WalkAsFields F = (b : Behaviour F) (time position : ℕ) (functions : List F) (frame : List ℕ) → KeepsProfile b →
    ◌≡◌ {A = Walked F} (walk b time position functions frame) (walked_by frame (walk_fields b (fixed_of time frame) position functions (fields_of frame)))

abbrev settled_walk : {F N : Type 0} → Notes F N → List (Option N) → Walked F → Walked F
settled_walk notes made w = record { functions = settled_all notes w.functions made; fate = w.fate }

-- the notes of a packet that walks
abbrev pub notes_of : {F N : Type 0} → Behaviour F → Notes F N → List F → Packet → List (Option N)
notes_of b notes fs p = walk_notes b notes (fixed_of p.time p.frame) fs (fields_of p.frame)

frame_settles : {F N : Type 0} (b : Behaviour F) (notes : Notes F N) (fs : List F) (p : Packet) → WalkAsFields F → KeepsProfile b → KeepsProfile (quiet b) → CountsByNotes b notes →
    walk b p.time 1 fs p.frame ≡ settled_walk notes (notes_of (quiet b) notes fs p) (walk (quiet b) p.time 1 fs p.frame)
frame_settles b notes fs p walks law quiet_law by_notes =
    walks b p.time 1 fs p.frame law
    ∙ ap (walked_by p.frame) (walk_settles b notes (fixed_of p.time p.frame) 1 fs (fields_of p.frame) by_notes)
    ∙ ap (settled_walk notes (notes_of (quiet b) notes fs p)) (sym (walks (quiet b) p.time 1 fs p.frame quiet_law))

frame_quiet : {F N : Type 0} (b : Behaviour F) (notes : Notes F N) (fs : List F) (made : List (Option N)) (p : Packet) → WalkAsFields F → KeepsProfile (quiet b) → CountsByNotes b notes → Fit b fs made →
    walk (quiet b) p.time 1 (settled_all notes fs made) p.frame ≡ settled_walk notes made (walk (quiet b) p.time 1 fs p.frame)
frame_quiet b notes fs made p walks quiet_law by_notes fit =
    walks (quiet b) p.time 1 (settled_all notes fs made) p.frame quiet_law
    ∙ ap (walked_by p.frame) (quiet_settled b notes (fixed_of p.time p.frame) 1 fs made (fields_of p.frame) by_notes fit)
    ∙ ap (settled_walk notes made) (sym (walks (quiet b) p.time 1 fs p.frame quiet_law))

frame_keeps : {F : Type 0} (b : Behaviour F) (fs : List F) (p : Packet) → WalkAsFields F → KeepsProfile b → map b.profile (walk b p.time 1 fs p.frame).functions ≡ map b.profile fs
frame_keeps b fs p walks law = ap (λ w. map b.profile w.functions) (walks b p.time 1 fs p.frame law) ∙ walk_keeps b (fixed_of p.time p.frame) 1 fs (fields_of p.frame) law

-- Packets change functions whose notes are settled, without counting, as they change the functions before that.
record LaterQuiet {F N : Type 0} (b : Behaviour F) (notes : Notes F N) (fs : List F) (made : List (Option N)) (packets : List Packet) : Type 0 where
  ends : fates (quiet b) (settled_all notes fs made) packets ≡ fates (quiet b) fs packets
  after : functions_after (quiet b) (settled_all notes fs made) packets ≡ settled_all notes (functions_after (quiet b) fs packets) made
  same : packet_notes (quiet b) notes (settled_all notes fs made) packets ≡ packet_notes (quiet b) notes fs packets

later_quiet : {F N : Type 0} (b : Behaviour F) (notes : Notes F N) (fs : List F) (made : List (Option N)) (packets : List Packet) → WalkAsFields F → KeepsProfile (quiet b) → CountsByNotes b notes → Fit b fs made →
    LaterQuiet b notes fs made packets
unfolding fates functions_after packet_notes
later_quiet b notes fs made [] walks quiet_law by_notes fit = record { ends = refl; after = refl; same = refl }
later_quiet {F} {N} b notes fs made (p ∷ packets) walks quiet_law by_notes fit =
    let w : Walked F = walk (quiet b) p.time 1 fs p.frame in
    let here : walk (quiet b) p.time 1 (settled_all notes fs made) p.frame ≡ settled_walk notes made w = frame_quiet b notes fs made p walks quiet_law by_notes fit in
    let later : LaterQuiet b notes w.functions made packets = later_quiet b notes w.functions made packets walks quiet_law by_notes (fit_same b fs w.functions made (frame_keeps (quiet b) fs p walks quiet_law) fit) in
    record {
      ends = ap (λ x. x.fate ∷ fates (quiet b) x.functions packets) here ∙ ap (λ l. w.fate ∷ l) later.ends;
      after = ap (λ x. functions_after (quiet b) x.functions packets) here ∙ later.after;
      same = ap (λ x. notes_of (quiet b) notes (settled_all notes fs made) p ∷ packet_notes (quiet b) notes x.functions packets) here
          ∙ (λ i. notes_settled b notes (fixed_of p.time p.frame) fs made (fields_of p.frame) by_notes fit i ∷ later.same i);
    }

-- Packets walk as they do without counting, and after them all notes are settled.
pub record Settles {F N : Type 0} (b : Behaviour F) (notes : Notes F N) (fs : List F) (packets : List Packet) : Type 0 where
  pub ends : fates b fs packets ≡ fates (quiet b) fs packets
  pub after : functions_after b fs packets ≡ settled_in_turn notes (functions_after (quiet b) fs packets) (packet_notes (quiet b) notes fs packets)

pub packets_settle : {F N : Type 0} (b : Behaviour F) (notes : Notes F N) (fs : List F) (packets : List Packet) → WalkAsFields F → KeepsProfile b → KeepsProfile (quiet b) → CountsByNotes b notes → Settles b notes fs packets
unfolding fates functions_after packet_notes settled_in_turn
packets_settle b notes fs [] walks law quiet_law by_notes = record { ends = refl; after = refl }
packets_settle {F} {N} b notes fs (p ∷ packets) walks law quiet_law by_notes =
    let w : Walked F = walk (quiet b) p.time 1 fs p.frame in
    let made : List (Option N) = notes_of (quiet b) notes fs p in
    let here : walk b p.time 1 fs p.frame ≡ settled_walk notes made w = frame_settles b notes fs p walks law quiet_law by_notes in
    let later : LaterQuiet b notes w.functions made packets = later_quiet b notes w.functions made packets walks quiet_law by_notes
    (fit_same b fs w.functions made (frame_keeps (quiet b) fs p walks quiet_law) (fit_notes b notes (fixed_of p.time p.frame) fs (fields_of p.frame))) in
    let ih : Settles b notes (settled_all notes w.functions made) packets = packets_settle b notes (settled_all notes w.functions made) packets walks law quiet_law by_notes in
    record {
      ends = ap (λ x. x.fate ∷ fates b x.functions packets) here ∙ ap (λ l. w.fate ∷ l) (ih.ends ∙ later.ends);
      after = ap (λ x. functions_after b x.functions packets) here ∙ ih.after ∙ (λ i. settled_in_turn notes (later.after i) (later.same i));
    }

-- a function notes what it sees of what the functions before it passed on
pub noted_reached : {F N : Type 0} (b : Behaviour F) (notes : Notes F N) (fixed : Fixed) (p : ℕ) (first : List F) (f : F) (later : List F) (values after : Values) →
    (walk_fields b fixed p first values).end ≡ Out after → slice_get (walk_notes b notes fixed (first ++ f ∷ later) values) (length first) ≡ Some (noted b notes fixed f after)
unfolding walk_fields walk_notes
noted_reached b notes fixed p [] f later values after e = let same : values ≡ after = cc in ap (λ v. Some (noted b notes fixed f v)) same
noted_reached {F} {N} b notes fixed p (g ∷ first) f later values after e =
    go (is_drop t.verdict) e (λ e. noted_reached b notes fixed (p + 1) first f later (over t.written values) after e)
  where
    t : Step F
    t = stepped b fixed g values

    rest : List (Option N)
    rest = walk_notes b notes fixed (first ++ f ∷ later) (over t.written values)

    go : (d : Bool) → (then_walk b fixed p t first values d).end ≡ Out after →
        ((walk_fields b fixed (p + 1) first (over t.written values)).end ≡ Out after → slice_get rest (length first) ≡ Some (noted b notes fixed f after)) →
        slice_get (if d then map (λ h. None) (first ++ f ∷ later) else rest) (length first) ≡ Some (noted b notes fixed f after)
    go true e ih = absurd cc
    go false e ih = ih e

none_at : {F N : Type 0} (first : List F) (f : F) (later : List F) → ◌≡◌ {A = Option (Option N)} (slice_get (map (λ h. None) (first ++ f ∷ later)) (length first)) (Some None)
none_at [] f later = refl
none_at (g ∷ first) f later = none_at first f later

-- and nothing about what one of them drops
pub noted_dropped : {F N : Type 0} (b : Behaviour F) (notes : Notes F N) (fixed : Fixed) (p : ℕ) (first : List F) (f : F) (later : List F) (values : Values) (position : ℕ) →
    (walk_fields b fixed p first values).end ≡ Gone position → slice_get (walk_notes b notes fixed (first ++ f ∷ later) values) (length first) ≡ Some None
unfolding walk_fields walk_notes
noted_dropped b notes fixed p [] f later values position e = absurd cc
noted_dropped {F} {N} b notes fixed p (g ∷ first) f later values position e =
    go (is_drop t.verdict) e (λ e. noted_dropped b notes fixed (p + 1) first f later (over t.written values) position e)
  where
    t : Step F
    t = stepped b fixed g values

    rest : List (Option N)
    rest = walk_notes b notes fixed (first ++ f ∷ later) (over t.written values)

    go : (d : Bool) → (then_walk b fixed p t first values d).end ≡ Gone position →
        ((walk_fields b fixed (p + 1) first (over t.written values)).end ≡ Gone position → slice_get rest (length first) ≡ Some None) →
        slice_get (if d then map (λ h. None) (first ++ f ∷ later) else rest) (length first) ≡ Some None
    go true e ih = none_at first f later
    go false e ih = ih e
