-- The notes of a packet that went through a graph, settled: its functions are left as its walk leaves them.
use Rattle.std.proofs.Common.{◌≡◌, ◌∙◌, ◌<◌, ◌≤◌, ◌+◌, ◌-◌, ℕ, zero, suc, Bool, List, [], ◌∷◌, ◌++◌, length, drop, get_or, map, set, sym, ap, refl, subst, arith}
use Rattle.std.specs.Prelude.{Option, Some, None, slice_get, Result, Ok, Err, OnOk}
use Rattle.std.proofs.lemmas.List.{drop_more, drop_all}
use mathlib.Core.Path.{fun_ext}
use Rattle.packet_fields.specs.Writing.{fields_of}
use Rattle.chain_walk.specs.Counting.{quiet, IsQuiet}
use Rattle.chain_walk.specs.Laws.{KeepsProfile}
use Rattle.chain_walk.specs.FieldWalk.{End, End.Out, End.Gone, Ended, fate_by, walk_fields, walked_by}
use Rattle.chain_walk.specs.Notes.{Notes, CountsByNotes}
use Rattle.chain_walk.specs.Shown.{Values, fixed_of}
use Rattle.chain_walk.specs.Step.{Behaviour}
use Rattle.chain_walk.specs.Walk.{Walked, walk}
use Rattle.chain_walk.specs.declared.fixed.Fixed.{Fixed}
use Rattle.chain_walk.specs.declared.walk.Fate.{Fate}
use Rattle.graph_compile.specs.Facts.{IsLawful, IsFull}
use Rattle.graph_compile.specs.declared.graph.Graph.{Graph}
use Rattle.graph_law.specs.BranchNotes.{flow_notes, gone_before}
use Rattle.graph_law.specs.Flow.{flow}
use Rattle.graph_law.specs.NotedWalk.{walk_notes, settled_all}
use Rattle.burst_law.specs.Placed.{PlacedNote, placed_by, settled_there, settled_where, settled_placed}
use Rattle.graph_run.specs.Counting.{RaisesAll, RaisesUpTo, copies_of}
use Rattle.graph_run.specs.Running.{IsRunning}
use Rattle.graph_run.specs.Settling.{gone_at}
use Rattle.graph_run.proofs.Onward.{all_made}

-- this number of notes are settled, and the rest of them gives what all give
abbrev pub SettlesOn : {F N : Type 0} → Notes F N → (ℕ → Bool) → List F → List F → List (PlacedNote N) → ℕ → Type 0
SettlesOn notes gone first now listed i = settled_placed notes gone now (drop i listed) ≡ settled_placed notes gone first listed

one_settled : {F N : Type 0} (notes : Notes F N) (gone : ℕ → Bool) (fs : List F) (o : PlacedNote N) (listed : List (PlacedNote N)) → settled_placed notes gone (settled_where notes gone fs o) listed ≡ settled_placed notes gone fs (o ∷ listed)
unfolding settled_placed
one_settled notes gone fs o listed = refl

pub settles_more : {F N : Type 0} (notes : Notes F N) (gone : ℕ → Bool) (first now after : List F) (listed : List (PlacedNote N)) (i : ℕ) (o : PlacedNote N) → i < length listed → o ≡ get_or listed i o → after ≡ settled_where notes gone now o →
    SettlesOn notes gone first now listed i → SettlesOn notes gone first after listed (i + 1)
settles_more notes gone first now after listed i o inside is settles so =
    ap (λ l. settled_placed notes gone l (drop (i + 1) listed)) settles
    ∙ one_settled notes gone now o (drop (i + 1) listed)
    ∙ ap (settled_placed notes gone now) (ap (λ x. x ∷ drop (i + 1) listed) is ∙ sym (drop_more listed i o inside))
    ∙ so

pub settles_over : {F N : Type 0} (notes : Notes F N) (gone : ℕ → Bool) (first now : List F) (listed : List (PlacedNote N)) (i : ℕ) → length listed ≤ i → SettlesOn notes gone first now listed i → now ≡ settled_placed notes gone first listed
unfolding settled_placed
settles_over notes gone first now listed i past so = ap (settled_placed notes gone now) (sym (drop_all i listed past)) ∙ so

got_at : {A : Type 0} (xs : List A) (j : ℕ) (d : A) → j < length xs → slice_get xs j ≡ Some (get_or xs j d)
got_at [] j d less = absurd (omega arith)
got_at (x ∷ xs) zero d less = refl
got_at (x ∷ xs) (suc j) d less = got_at xs j d (omega arith)

none_at : {A : Type 0} (xs : List A) (j : ℕ) → length xs ≤ j → slice_get xs j ≡ None
none_at [] j past = refl
none_at (x ∷ xs) zero past = absurd (omega arith)
none_at (x ∷ xs) (suc j) past = none_at xs j (omega arith)

pub settled_ok : {A E P Q : Type 0} (r : Result A E) → (P → Q) → OnOk r P → OnOk r Q
settled_ok (Ok x) f p = f p
settled_ok (Err e) f p = tt

-- the function at a note's position settles it
pub settles_there : {F N : Type 0} (notes : Notes F N) (fs : List F) (o : PlacedNote N) (d f : F) (i p : ℕ) (n : N) → record { position = p; note = n } ≡ o → i ≡ p - 1 → i < length fs →
    f ≡ notes.settle (get_or fs i d) n → set fs i f ≡ settled_there notes o (slice_get fs (o.position - 1)) fs
unfolding settled_there
settles_there {F} {N} notes fs o d f i p n is at inside settles =
    ap (set fs i) settles
    ∙ (λ j. set fs (at j) (notes.settle (get_or fs i d) n))
    ∙ ap (λ (x : Option F). settled_there notes (record { position = p; note = n }) x fs) (sym (got_at fs i d inside) ∙ ap (slice_get fs) at)
    ∙ ap (λ (x : PlacedNote N). settled_there notes x (slice_get fs (x.position - 1)) fs) is

pub none_settles : {F N : Type 0} (notes : Notes F N) (fs : List F) (o : PlacedNote N) (i p : ℕ) (n : N) → record { position = p; note = n } ≡ o → i ≡ p - 1 → length fs ≤ i → fs ≡ settled_there notes o (slice_get fs (o.position - 1)) fs
unfolding settled_there
none_settles {F} {N} notes fs o i p n is at past =
    ap (λ (x : Option F). settled_there notes (record { position = p; note = n }) x fs) (sym (none_at fs i past) ∙ ap (slice_get fs) at)
    ∙ ap (λ (x : PlacedNote N). settled_there notes x (slice_get fs (x.position - 1)) fs) is

-- the walks of whole frames, with the counting and without it, and what the laws say about them
pub record Walks {F N : Type 0} (b : Behaviour F) (notes : Notes F N) (graph : Graph) (time : ℕ) (frame : List ℕ) (first : List F) : Type 0 where
  pub chain : flow (quiet b) (fixed_of time frame) graph.stages (fields_of frame) first ≡ walk_fields (quiet b) (fixed_of time frame) 1 first (fields_of frame)
  pub quiet_frames : walk (quiet b) time 1 first frame ≡ walked_by frame (walk_fields (quiet b) (fixed_of time frame) 1 first (fields_of frame))
  pub frames : walk b time 1 first frame ≡ walked_by frame (walk_fields b (fixed_of time frame) 1 first (fields_of frame))
  pub ends : (walk_fields b (fixed_of time frame) 1 first (fields_of frame)).end ≡ (walk_fields (quiet b) (fixed_of time frame) 1 first (fields_of frame)).end
  pub placed_so : settled_placed notes (gone_before (flow (quiet b) (fixed_of time frame) graph.stages (fields_of frame) first).end) (flow (quiet b) (fixed_of time frame) graph.stages (fields_of frame) first).functions
      (placed_by graph.stages (flow_notes (quiet b) notes (fixed_of time frame) graph.stages (fields_of frame) first)) ≡ (walk_fields b (fixed_of time frame) 1 first (fields_of frame)).functions

-- the functions also run without the counting
pub runs_quiet : {F : Type 0} (b : Behaviour F) (functions : List F) (graph : Graph) → IsRunning b functions graph → IsRunning (quiet b) functions graph
runs_quiet b functions graph running = record { few = running.few; lawful = running.lawful; full = running.full }

pub walks_are : {F N : Type 0} (b : Behaviour F) (notes : Notes F N) (graph : Graph) (time : ℕ) (frame : List ℕ) (first : List F) →
    ((b : Behaviour F) (fixed : Fixed) (graph : Graph) (functions : List F) (values : Values) → KeepsProfile b → IsQuiet b → IsLawful graph (map b.profile functions) → IsFull graph →
    ◌≡◌ {A = Ended F} (flow b fixed graph.stages values functions) (walk_fields b fixed 1 functions values)) →
    ((b : Behaviour F) → KeepsProfile b → KeepsProfile (quiet b)) → ((b : Behaviour F) → IsQuiet (quiet b)) →
    ((b : Behaviour F) (time position : ℕ) (functions : List F) (frame : List ℕ) → KeepsProfile b → ◌≡◌ {A = Walked F} (walk b time position functions frame) (walked_by frame (walk_fields b (fixed_of time frame) position functions (fields_of frame)))) →
    ((b : Behaviour F) (notes : Notes F N) (fixed : Fixed) (position : ℕ) (functions : List F) (values : Values) → CountsByNotes b notes → ◌≡◌ {A = Ended F} (walk_fields b fixed position functions values)
    (record { functions = settled_all notes (walk_fields (quiet b) fixed position functions values).functions (walk_notes (quiet b) notes fixed functions values); end = (walk_fields (quiet b) fixed position functions values).end })) →
    ((b : Behaviour F) (notes : Notes F N) (fixed : Fixed) (graph : Graph) (functions : List F) (values : Values) → KeepsProfile b → CountsByNotes b notes → IsLawful graph (map b.profile functions) → IsFull graph →
    settled_placed notes (gone_before (flow (quiet b) fixed graph.stages values functions).end) (flow (quiet b) fixed graph.stages values functions).functions (placed_by graph.stages (flow_notes (quiet b) notes fixed graph.stages values functions))
    ≡ (walk_fields b fixed 1 functions values).functions) →
    KeepsProfile b → CountsByNotes b notes → IsRunning b first graph → Walks b notes graph time frame first
walks_are b notes graph time frame first chain keeps_quiet still frames behind placed_law keeps counts running = record {
  chain = chain (quiet b) (fixed_of time frame) graph first (fields_of frame) (keeps_quiet b keeps) (still b) running.lawful running.full;
  quiet_frames = frames (quiet b) time 1 first frame (keeps_quiet b keeps);
  frames = frames b time 1 first frame keeps;
  ends = ap (λ e. e.end) (behind b notes (fixed_of time frame) 1 first (fields_of frame) counts);
  placed_so = placed_law b notes (fixed_of time frame) graph first (fields_of frame) keeps counts running.lawful running.full;
}

-- a packet ends as without the counting
same_fate : {F N : Type 0} (b : Behaviour F) (notes : Notes F N) (graph : Graph) (time : ℕ) (frame : List ℕ) (first : List F) → Walks b notes graph time frame first → (walk (quiet b) time 1 first frame).fate ≡ (walk b time 1 first frame).fate
same_fate b notes graph time frame first w = ap (λ x. x.fate) w.quiet_frames ∙ ap (fate_by frame) (sym w.ends) ∙ sym (ap (λ x. x.fate) w.frames)

pub fate_so : {F N : Type 0} (b : Behaviour F) (notes : Notes F N) (graph : Graph) (time : ℕ) (frame : List ℕ) (first : List F) (fate : Fate) → Walks b notes graph time frame first → fate ≡ (walk (quiet b) time 1 first frame).fate → fate ≡ (walk b time 1 first frame).fate
fate_so b notes graph time frame first fate w is = is ∙ same_fate b notes graph time frame first w

-- so are the copies that are made of it
pub counted_so : {F N : Type 0} (b : Behaviour F) (notes : Notes F N) (graph : Graph) (time : ℕ) (frame : List ℕ) (first : List F) (old new : List ℕ) → Walks b notes graph time frame first →
    RaisesAll (copies_of graph.stages frame (walk (quiet b) time 1 first frame).fate) old new → RaisesAll (copies_of graph.stages frame (walk b time 1 first frame).fate) old new
counted_so b notes graph time frame first old new w counted = subst (λ fate. RaisesAll (copies_of graph.stages frame fate) old new) (same_fate b notes graph time frame first w) counted

pub refused_so : {F N : Type 0} (b : Behaviour F) (notes : Notes F N) (graph : Graph) (time : ℕ) (frame : List ℕ) (first : List F) (old new : List ℕ) → Walks b notes graph time frame first →
    RaisesUpTo (copies_of graph.stages frame (walk (quiet b) time 1 first frame).fate) old new → RaisesUpTo (copies_of graph.stages frame (walk b time 1 first frame).fate) old new
refused_so b notes graph time frame first old new w within = subst (λ fate. RaisesUpTo (copies_of graph.stages frame fate) old new) (same_fate b notes graph time frame first w) within

pub unsettled_so : {F N : Type 0} (b : Behaviour F) (notes : Notes F N) (graph : Graph) (time : ℕ) (frame : List ℕ) (first : List F) (old new : List ℕ) → Walks b notes graph time frame first →
    RaisesAll (copies_of graph.stages frame (walk (quiet b) time 1 first frame).fate) old new → RaisesUpTo (copies_of graph.stages frame (walk b time 1 first frame).fate) old new
unsettled_so b notes graph time frame first old new w counted = all_made (copies_of graph.stages frame (walk b time 1 first frame).fate) old new (counted_so b notes graph time frame first old new w counted)

gone_same : (frame : List ℕ) (end : End) → gone_at (fate_by frame end) ≡ gone_before end
gone_same frame (Out values) = fun_ext (λ q. refl)
gone_same frame (Gone p) = fun_ext (λ q. refl)

pub settled_so : {F N : Type 0} (b : Behaviour F) (notes : Notes F N) (graph : Graph) (time : ℕ) (frame : List ℕ) (first passed after : List F) (fate : Fate) (before listed : List (PlacedNote N)) → Walks b notes graph time frame first →
    passed ≡ (walk (quiet b) time 1 first frame).functions → fate ≡ (walk (quiet b) time 1 first frame).fate →
    before ≡ [] → listed ≡ before ++ placed_by graph.stages (flow_notes (quiet b) notes (fixed_of time frame) graph.stages (fields_of frame) first) →
    after ≡ settled_placed notes (gone_at fate) passed listed → after ≡ (walk b time 1 first frame).functions
settled_so {F} {N} b notes graph time frame first passed after fate before listed w passes ends none lists settles =
    let made : List (PlacedNote N) = placed_by graph.stages (flow_notes (quiet b) notes (fixed_of time frame) graph.stages (fields_of frame) first) in
    let all = lists ∙ ap (λ l. l ++ made) none in
    settles
    ∙ (λ j. settled_placed notes (gone_at ((ends ∙ ap (λ x. x.fate) w.quiet_frames) j)) ((passes ∙ ap (λ x. x.functions) w.quiet_frames) j) (all j))
    ∙ ap (λ g. settled_placed notes g (walk_fields (quiet b) (fixed_of time frame) 1 first (fields_of frame)).functions made) (gone_same frame (walk_fields (quiet b) (fixed_of time frame) 1 first (fields_of frame)).end)
    ∙ ap (λ (x : Ended F). settled_placed notes (gone_before x.end) x.functions made) (sym w.chain)
    ∙ w.placed_so
    ∙ sym (ap (λ x. x.functions) w.frames)
