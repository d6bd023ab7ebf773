-- One packet's notes, settled among all functions of the chain by position, leave the functions as its walk does.
use Rattle.std.proofs.Common.{◌≡◌, ◌≢◌, ◌≤◌, ◌-◌, ◌∙◌, ℕ, List, ◌∷◌, [], ◌++◌, length, map, sym, ap, refl, subst, arith, Bool, true, false, Some, None, if◌then◌else◌, length-set}
use Rattle.std.specs.Prelude.{Option, slice_get}
use Rattle.std.specs.List.{cons_option}
use Rattle.chain_walk.specs.Counting.{quiet}
use Rattle.chain_walk.specs.FieldWalk.{Ended, walk_fields}
use Rattle.chain_walk.specs.Laws.{KeepsProfile}
use Rattle.chain_walk.specs.Notes.{Notes, settled, CountsByNotes}
use Rattle.chain_walk.specs.Shown.{Values}
use Rattle.chain_walk.specs.Step.{Behaviour}
use Rattle.chain_walk.specs.declared.fixed.Fixed.{Fixed}
use Rattle.graph_compile.specs.Facts.{IsLawful, IsFull, positions_of, all_positions, times}
use Rattle.graph_compile.specs.declared.graph.Branch.{Branch}
use Rattle.graph_compile.specs.declared.graph.Graph.{Graph}
use Rattle.graph_compile.specs.declared.graph.Stage.{Stage}
use Rattle.graph_compile.proofs.FiveFacts.{times-stages}
use Rattle.graph_compile.proofs.Times.{times-append}
use Rattle.graph_law.specs.BranchNotes.{flow_notes, gone_before, kept, kept_in, kept_by}
use Rattle.graph_law.specs.Flow.{flow}
use Rattle.graph_law.specs.NotedWalk.{walk_notes, settled_all}
use Rattle.graph_law.proofs.Walking.{length_walk, walk_keeps}
use Rattle.burst_law.specs.Owned.{owned, owned_in, owned_by}
use Rattle.burst_law.specs.Placed.{PlacedNote, placed, placed_in, placed_by, settled_there, settled_where, settled_placed}
use Rattle.burst_law.proofs.Below.{Below}
use Rattle.burst_law.proofs.Bursting.{functions_once, owned_whole}
use Rattle.burst_law.proofs.ListedNotes.{all_nothing}
use Rattle.burst_law.proofs.NotedBursts.{BelowNotes}
use Rattle.burst_law.proofs.NotedPackets.{settled_in, settled_by, by_settled}
use Rattle.burst_law.proofs.Positions.{got, AreOnce, times_here, times_later, once_rest, once_front, once_back, once_apart, stage_front, stage_back, stage_apart, behind_apart, owned_same, owned_in_same, owned_by_same}
use Rattle.burst_law.proofs.Splitting.{CountFromOne, set_here, set_others}

placed_append : {F N : Type 0} (notes : Notes F N) (gone : ℕ → Bool) (fs : List F) (xs ys : List (PlacedNote N)) → settled_placed notes gone fs (xs ++ ys) ≡ settled_placed notes gone (settled_placed notes gone fs xs) ys
unfolding settled_placed
placed_append notes gone fs [] ys = refl
placed_append notes gone fs (x ∷ xs) ys = placed_append notes gone (settled_where notes gone fs x) xs ys

-- one more note of the function at position `q`, or none
abbrev one_more : {F N : Type 0} → Notes F N → (ℕ → Bool) → ℕ → Option N → List F → List F
one_more notes gone q None fs = fs
one_more notes gone q (Some n) fs = settled_where notes gone fs (record { position = q; note = n })

placed_more : {F N : Type 0} (notes : Notes F N) (gone : ℕ → Bool) (q : ℕ) (qs : List ℕ) (o : Option N) (row : List (Option N)) (fs : List F) →
    settled_placed notes gone fs (placed (q ∷ qs) (o ∷ row)) ≡ settled_placed notes gone (one_more notes gone q o fs) (placed qs row)
unfolding settled_placed placed
placed_more notes gone q qs None row fs = refl
placed_more notes gone q qs (Some n) row fs = refl

there_length : {F N : Type 0} (notes : Notes F N) (o : PlacedNote N) (x : Option F) (fs : List F) → length (settled_there notes o x fs) ≡ length fs
unfolding settled_there
there_length notes o None fs = refl
there_length notes o (Some f) fs = length-set fs (o.position - 1) (notes.settle f o.note)

where_length : {F N : Type 0} (notes : Notes F N) (gone : ℕ → Bool) (fs : List F) (o : PlacedNote N) → length (settled_where notes gone fs o) ≡ length fs
where_length notes gone fs o = go (gone o.position)
  where
    go : (c : Bool) → length (if c then fs else settled_there notes o (slice_get fs (o.position - 1)) fs) ≡ length fs
    go true = refl
    go false = there_length notes o (slice_get fs (o.position - 1)) fs

placed_length : {F N : Type 0} (notes : Notes F N) (gone : ℕ → Bool) (fs : List F) (listed : List (PlacedNote N)) → length (settled_placed notes gone fs listed) ≡ length fs
unfolding settled_placed
placed_length notes gone fs [] = refl
placed_length notes gone fs (o ∷ listed) = placed_length notes gone (settled_where notes gone fs o) listed ∙ where_length notes gone fs o

more_length : {F N : Type 0} (notes : Notes F N) (gone : ℕ → Bool) (q : ℕ) (o : Option N) (fs : List F) → length (one_more notes gone q o fs) ≡ length fs
more_length notes gone q None fs = refl
more_length notes gone q (Some n) fs = where_length notes gone fs (record { position = q; note = n })

there_others : {F N : Type 0} (notes : Notes F N) (o : PlacedNote N) (x : Option F) (fs : List F) (j : ℕ) → o.position - 1 ≢ j → slice_get (settled_there notes o x fs) j ≡ slice_get fs j
unfolding settled_there
there_others notes o None fs j ne = refl
there_others notes o (Some f) fs j ne = set_others fs (o.position - 1) j (notes.settle f o.note) ne

more_others : {F N : Type 0} (notes : Notes F N) (gone : ℕ → Bool) (q : ℕ) (o : Option N) (fs : List F) (j : ℕ) → q - 1 ≢ j → slice_get (one_more notes gone q o fs) j ≡ slice_get fs j
more_others notes gone q None fs j ne = refl
more_others {F} {N} notes gone q (Some n) fs j ne = go (gone q)
  where
    note : PlacedNote N
    note = record { position = q; note = n }

    go : (c : Bool) → slice_get (if c then fs else settled_there notes note (slice_get fs (q - 1)) fs) j ≡ slice_get fs j
    go true = refl
    go false = there_others notes note (slice_get fs (q - 1)) fs j ne

more_here : {F N : Type 0} (notes : Notes F N) (gone : ℕ → Bool) (q : ℕ) (o : Option N) (fs : List F) (f : F) → slice_get fs (q - 1) ≡ Some f →
    slice_get (one_more notes gone q o fs) (q - 1) ≡ Some (settled notes f (if gone q then None else o))
unfolding settled_there
more_here notes gone q None fs f is = is ∙ ap Some (none_settled notes f (gone q))
  where
    none_settled : {F N : Type 0} (notes : Notes F N) (f : F) (c : Bool) → f ≡ settled notes f (if c then None else None)
    none_settled notes f true = refl
    none_settled notes f false = refl
more_here {F} {N} notes gone q (Some n) fs f is = go (gone q)
  where
    note : PlacedNote N
    note = record { position = q; note = n }

    go : (c : Bool) → slice_get (if c then fs else settled_there notes note (slice_get fs (q - 1)) fs) (q - 1) ≡ Some (settled notes f (if c then None else Some n))
    go true = is
    go false = ap (λ x. slice_get (settled_there notes note x fs) (q - 1)) is ∙ set_here fs (q - 1) f (notes.settle f n) is

-- a branch's notes change no function at another position
placed_others : {F N : Type 0} (notes : Notes F N) (gone : ℕ → Bool) (qs : List ℕ) (row : List (Option N)) (fs : List F) (r : ℕ) → CountFromOne qs → 1 ≤ r → times r qs ≡ 0 →
    slice_get (settled_placed notes gone fs (placed qs row)) (r - 1) ≡ slice_get fs (r - 1)
unfolding settled_placed placed
placed_others notes gone [] row fs r low lows none = refl
placed_others notes gone (q ∷ qs) [] fs r low lows none = refl
placed_others {F} {N} notes gone (q ∷ qs) (o ∷ row) fs r low lows none =
    ap (λ l. slice_get l (r - 1)) (placed_more notes gone q qs o row fs)
    ∙ placed_others notes gone qs row (one_more notes gone q o fs) r (λ p some. low p (let l = times_later p q qs in omega arith)) lows (let l = times_later r q qs in omega arith)
    ∙ more_others notes gone q o fs (r - 1) (λ e. other (let l = low q (let t = times_here q qs in omega arith) in omega arith))
  where
    other : q ≢ r
    other e = let t = times_here q qs in let same : times q (q ∷ qs) ≡ times r (q ∷ qs) = ap (λ p. times p (q ∷ qs)) e in omega arith

placed_owned : {F N : Type 0} (notes : Notes F N) (gone : ℕ → Bool) (qs : List ℕ) (row : List (Option N)) (fs : List F) → AreOnce (length fs) qs →
    owned qs (settled_placed notes gone fs (placed qs row)) ≡ settled_all notes (owned qs fs) (kept gone qs row)
unfolding settled_placed placed settled_all kept
placed_owned notes gone [] row fs h = refl
placed_owned notes gone (q ∷ qs) [] fs h = sym (all_nothing notes (owned (q ∷ qs) fs) gone (q ∷ qs))
placed_owned {F} {N} notes gone (q ∷ qs) (o ∷ row) fs h =
    ap (owned (q ∷ qs)) (placed_more notes gone q qs o row fs)
    ∙ (λ i. cons_option (at_q i) (placed_owned notes gone qs row next (subst (λ n. AreOnce n qs) (sym (more_length notes gone q o fs)) (once_rest (length fs) q qs h)) i))
    ∙ ap (λ l. settled notes x.0 (if gone q then None else o) ∷ settled_all notes l (kept gone qs row)) others
    ∙ (λ i. settled_all notes (cons_option (sym x.1 i) (owned qs fs)) (kept gone (q ∷ qs) (o ∷ row)))
  where
    some : 1 ≤ times q (q ∷ qs)
    some = let t = times_here q qs in omega arith

    low : 1 ≤ q
    low = (h.within q some).0

    x : (f : F) × (slice_get fs (q - 1) ≡ Some f)
    x = got fs (q - 1) (let w = h.within q some in let l = w.0 in let u = w.1 in omega arith)

    next : List F
    next = one_more notes gone q o fs

    none : times q qs ≡ 0
    none = let n = h.once q in let t = times_here q qs in omega arith

    other : (r : ℕ) → 1 ≤ times r qs → q ≢ r
    other r there e = let same : times q qs ≡ times r qs = ap (λ p. times p qs) e in let n = none in omega arith

    at_q : slice_get (settled_placed notes gone next (placed qs row)) (q - 1) ≡ Some (settled notes x.0 (if gone q then None else o))
    at_q = placed_others notes gone qs row next q (λ p there. (h.within p (let l = times_later p q qs in omega arith)).0) low none ∙ more_here notes gone q o fs x.0 x.1

    others : owned qs next ≡ owned qs fs
    others = owned_same qs fs next (record { same = λ r there. more_others notes gone q o fs (r - 1) (λ e. other r there (let w = h.within r (let l = times_later r q qs in omega arith) in let u = w.0 in let l = low in omega arith)) })

-- the branches of a stage
in_others : {F N : Type 0} (notes : Notes F N) (gone : ℕ → Bool) (branches : List Branch) (rows : List (List (Option N))) (fs : List F) (r : ℕ) → CountFromOne (positions_of branches) → 1 ≤ r → times r (positions_of branches) ≡ 0 →
    slice_get (settled_placed notes gone fs (placed_in branches rows)) (r - 1) ≡ slice_get fs (r - 1)
unfolding settled_placed placed_in
in_others notes gone [] rows fs r low lows none = refl
in_others notes gone (x ∷ branches) [] fs r low lows none = refl
in_others notes gone (x ∷ branches) (row ∷ rows) fs r low lows none =
    ap (λ l. slice_get l (r - 1)) (placed_append notes gone fs (placed x.positions row) (placed_in branches rows))
    ∙ in_others notes gone branches rows (settled_placed notes gone fs (placed x.positions row)) r (λ q some. low q (let s = times-append q x.positions (positions_of branches) in omega arith)) lows (let s = times-append r x.positions (positions_of branches) in omega arith)
    ∙ placed_others notes gone x.positions row fs r (λ q some. low q (let s = times-append q x.positions (positions_of branches) in omega arith)) lows (let s = times-append r x.positions (positions_of branches) in omega arith)

in_owned : {F N : Type 0} (notes : Notes F N) (gone : ℕ → Bool) (branches : List Branch) (rows : List (List (Option N))) (fs : List F) → AreOnce (length fs) (positions_of branches) →
    owned_in branches (settled_placed notes gone fs (placed_in branches rows)) ≡ settled_in notes (owned_in branches fs) (kept_in gone branches rows)
unfolding settled_placed placed_in settled_in kept_in
in_owned notes gone [] rows fs h = refl
in_owned notes gone (x ∷ branches) [] fs h = refl
in_owned {F} {N} notes gone (x ∷ branches) (row ∷ rows) fs h =
    ap (owned_in (x ∷ branches)) (placed_append notes gone fs (placed x.positions row) (placed_in branches rows))
    ∙ (λ i. (first ∙ placed_owned notes gone x.positions row fs (once_front (length fs) x.positions later h)) i
    ∷ in_owned notes gone branches rows next (subst (λ n. AreOnce n later) (sym (placed_length notes gone fs (placed x.positions row))) (once_back (length fs) x.positions later h)) i)
    ∙ ap (λ l. settled_all notes (owned x.positions fs) (kept gone x.positions row) ∷ settled_in notes l (kept_in gone branches rows)) left
  where
    later : List ℕ
    later = positions_of branches

    next : List F
    next = settled_placed notes gone fs (placed x.positions row)

    first : owned x.positions (settled_placed notes gone next (placed_in branches rows)) ≡ owned x.positions next
    first = owned_same x.positions next (settled_placed notes gone next (placed_in branches rows)) (record {
      same = λ q some. in_others notes gone branches rows next q (λ p there. ((once_back (length fs) x.positions later h).within p there).0) ((once_front (length fs) x.positions later h).within q some).0 (once_apart (length fs) x.positions later h q some);
    })

    left : owned_in branches next ≡ owned_in branches fs
    left = owned_in_same branches fs next (record {
      same = λ q some. placed_others notes gone x.positions row fs q (λ p there. ((once_front (length fs) x.positions later h).within p there).0) ((once_back (length fs) x.positions later h).within q some).0
          (let o = h.once q in let s = times-append q x.positions later in omega arith);
    })

-- all stages
by_others : {F N : Type 0} (notes : Notes F N) (gone : ℕ → Bool) (stages : List Stage) (rows : List (List (List (Option N)))) (fs : List F) (r : ℕ) → CountFromOne (all_positions stages) → 1 ≤ r → times r (all_positions stages) ≡ 0 →
    slice_get (settled_placed notes gone fs (placed_by stages rows)) (r - 1) ≡ slice_get fs (r - 1)
unfolding settled_placed placed_by
by_others notes gone [] rows fs r low lows none = refl
by_others notes gone (s ∷ stages) [] fs r low lows none = refl
by_others notes gone (s ∷ stages) (row ∷ rows) fs r low lows none =
    ap (λ l. slice_get l (r - 1)) (placed_append notes gone fs (placed_in s.branches row) (placed_by stages rows))
    ∙ by_others notes gone stages rows (settled_placed notes gone fs (placed_in s.branches row)) r (λ q some. low q (let t = times-stages q s stages in omega arith)) lows (let t = times-stages r s stages in omega arith)
    ∙ in_others notes gone s.branches row fs r (λ q some. low q (let t = times-stages q s stages in omega arith)) lows (let t = times-stages r s stages in omega arith)

by_owned : {F N : Type 0} (notes : Notes F N) (gone : ℕ → Bool) (stages : List Stage) (rows : List (List (List (Option N)))) (fs : List F) → AreOnce (length fs) (all_positions stages) →
    owned_by stages (settled_placed notes gone fs (placed_by stages rows)) ≡ settled_by notes (owned_by stages fs) (kept_by gone stages rows)
unfolding settled_placed placed_by settled_by kept_by
by_owned notes gone [] rows fs h = refl
by_owned notes gone (s ∷ stages) [] fs h = refl
by_owned {F} {N} notes gone (s ∷ stages) (row ∷ rows) fs h =
    ap (owned_by (s ∷ stages)) (placed_append notes gone fs (placed_in s.branches row) (placed_by stages rows))
    ∙ (λ i. (first ∙ in_owned notes gone s.branches row fs (stage_front (length fs) s stages h)) i
    ∷ by_owned notes gone stages rows next (subst (λ n. AreOnce n (all_positions stages)) (sym (placed_length notes gone fs (placed_in s.branches row))) (stage_back (length fs) s stages h)) i)
    ∙ ap (λ l. settled_in notes (owned_in s.branches fs) (kept_in gone s.branches row) ∷ settled_by notes l (kept_by gone stages rows)) left
  where
    next : List F
    next = settled_placed notes gone fs (placed_in s.branches row)

    first : owned_in s.branches (settled_placed notes gone next (placed_by stages rows)) ≡ owned_in s.branches next
    first = owned_in_same s.branches next (settled_placed notes gone next (placed_by stages rows)) (record {
      same = λ q some. by_others notes gone stages rows next q (λ p there. ((stage_back (length fs) s stages h).within p there).0) ((stage_front (length fs) s stages h).within q some).0 (stage_apart (length fs) s stages h q some);
    })

    left : owned_by stages next ≡ owned_by stages fs
    left = owned_by_same stages fs next (record {
      same = λ q some. in_others notes gone s.branches row fs q (λ p there. ((stage_front (length fs) s stages h).within p there).0) ((stage_back (length fs) s stages h).within q some).0 (behind_apart (length fs) s stages h q some);
    })

-- one packet through a lawful graph
pub packet_placed : {F N : Type 0} (b : Behaviour F) (notes : Notes F N) (fixed : Fixed) (graph : Graph) (fs : List F) (values : Values) → Below F → BelowNotes F N → KeepsProfile b → CountsByNotes b notes → IsLawful graph (map b.profile fs) → IsFull graph →
    settled_placed notes (gone_before (flow (quiet b) fixed graph.stages values fs).end) (flow (quiet b) fixed graph.stages values fs).functions (placed_by graph.stages (flow_notes (quiet b) notes fixed graph.stages values fs))
    ≡ (walk_fields b fixed 1 fs values).functions
packet_placed {F} {N} b notes fixed graph fs values below more law by_notes lawful full =
    ap (λ e. settled_placed notes (gone_before e.end) e.functions listed) is
    ∙ owned_whole b graph (settled_all notes w.functions made) (settled_placed notes (gone_before w.end) w.functions listed) lawful_after
    (placed_length notes (gone_before w.end) w.functions listed ∙ same_length)
    (by_owned notes (gone_before w.end) graph.stages (flow_notes (quiet b) notes fixed graph.stages values fs) w.functions once
    ∙ ap (settled_by notes (owned_by graph.stages w.functions)) (more.graph (quiet b) notes fixed graph fs values quiet_law (more.still b) lawful full)
    ∙ by_settled notes graph.stages w.functions made (more.count (quiet b) notes fixed fs values ∙ sym size) once)
    ∙ ap (λ t. t.functions) (sym walk)
  where
    w : Ended F
    w = walk_fields (quiet b) fixed 1 fs values

    made : List (Option N)
    made = walk_notes (quiet b) notes fixed fs values

    listed : List (PlacedNote N)
    listed = placed_by graph.stages (flow_notes (quiet b) notes fixed graph.stages values fs)

    quiet_law : KeepsProfile (quiet b)
    quiet_law = more.keeps b law

    is : flow (quiet b) fixed graph.stages values fs ≡ w
    is = below.chain (quiet b) fixed graph fs values quiet_law (more.still b) lawful full

    size : length w.functions ≡ length fs
    size = length_walk (quiet b) fixed 1 fs values

    once : AreOnce (length w.functions) (all_positions graph.stages)
    once = subst (λ n. AreOnce n (all_positions graph.stages)) (sym size) (functions_once b graph fs lawful)

    walk : walk_fields b fixed 1 fs values ≡ record { functions = settled_all notes w.functions made; end = w.end }
    walk = more.walk b notes fixed 1 fs values by_notes

    same_length : length w.functions ≡ length (settled_all notes w.functions made)
    same_length = size ∙ sym (length_walk b fixed 1 fs values) ∙ ap (λ t. length t.functions) walk

    lawful_after : IsLawful graph (map b.profile (settled_all notes w.functions made))
    lawful_after = subst (λ l. IsLawful graph (map b.profile l)) (ap (λ t. t.functions) walk) (subst (IsLawful graph) (sym (walk_keeps b fixed 1 fs values law)) lawful)
