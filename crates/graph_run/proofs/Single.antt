-- One item of a burst.
use Rattle.std.proofs.Common.{◌≡◌, ◌∙◌, ◌<◌, ◌≤◌, ◌+◌, ℕ, Bool, true, false, List, [], ◌∷◌, ◌++◌, map, length, take, drop, get_or, sym, ap, refl, subst, arith}
use Rattle.std.specs.Prelude.{if◌then◌else◌}
use Rattle.std.proofs.lemmas.List.{append-nil}
use Rattle.std.proofs.lemmas.List.Sums.{sum_by-cons}
use Rattle.packet_fields.specs.declared.field.Field.{Field}
use Rattle.capture_bytes.specs.declared.packet.Unit.{Unit as TimeUnit}
use Rattle.chain_walk.specs.Step.{Behaviour}
use Rattle.chain_walk.specs.Laws.{KeepsProfile}
use Rattle.chain_walk.specs.Packets.{Packet, fates, functions_after}
use Rattle.chain_walk.specs.Walk.{walk}
use Rattle.chain_walk.specs.declared.walk.Fate.{Fate}
use Rattle.classifier.specs.declared.burst.Item.{Item}
use Rattle.graph_compile.specs.declared.graph.Graph.{Graph}
use Rattle.graph_compile.specs.declared.graph.Stage.{Stage}
use Rattle.packet_version.specs.Tallies.{count_of, raised}
use Rattle.graph_run.specs.Counting.{copies_of, copies_made, RaisesAll, RaisesUpTo}
use Rattle.graph_run.specs.Packets.{is_of, packet_of, packets_taken}
use Rattle.graph_run.proofs.Bursting.{walked_copies, FatesInARow, FunctionsInARow, AsManyFates, HasRunItems, item_more, item_fails, after_profiles}

not_of : (unit : TimeUnit) (chain : ℕ) (item : Item) → is_of chain item ≡ false → packets_taken unit chain (item ∷ []) ≡ []
not_of unit chain item is = ap (λ (t : Bool). map (packet_of unit) (if t then item ∷ [] else [])) is

one_of : (unit : TimeUnit) (chain : ℕ) (item : Item) → is_of chain item ≡ true → packets_taken unit chain (item ∷ []) ≡ packet_of unit item ∷ []
one_of unit chain item is = ap (λ (t : Bool). map (packet_of unit) (if t then item ∷ [] else [])) is

no_copies : {F : Type 0} (b : Behaviour F) (stages : List Stage) (fs : List F) (f : Field) → walked_copies b stages fs [] f ≡ 0
unfolding copies_made fates
no_copies b stages fs f = refl

one_copies : {F : Type 0} (b : Behaviour F) (stages : List Stage) (fs : List F) (p : Packet) (f : Field) → walked_copies b stages fs (p ∷ []) f ≡ copies_of stages p.frame (walk b p.time 1 fs p.frame).fate f
unfolding copies_made fates
one_copies b stages fs p f = sum_by-cons (λ (x : Packet × Fate). copies_of stages x.0.frame x.1 f) (p, (walk b p.time 1 fs p.frame).fate) [] ∙ no_more (copies_of stages p.frame (walk b p.time 1 fs p.frame).fate f)
  where
    no_more : (n : ℕ) → n + 0 ≡ n
    no_more n = omega arith

-- an item of another chain changes nothing
pub record Skipped {F : Type 0} (b : Behaviour F) (stages : List Stage) (fs : List F) (done : List Fate) (packets : List Packet) (tally : List ℕ) : Type 0 where
  pub functions : fs ≡ functions_after b fs packets
  pub fates_are : done ≡ done ++ fates b fs packets
  pub counted : RaisesAll (walked_copies b stages fs packets) tally tally

skipped_none : {F : Type 0} (b : Behaviour F) (stages : List Stage) (fs : List F) (done : List Fate) (tally : List ℕ) → Skipped b stages fs done [] tally
unfolding functions_after fates
skipped_none b stages fs done tally = record {
  functions = refl;
  fates_are = sym (append-nil done);
  counted = λ f. let none = no_copies b stages fs f in omega (arith, none);
}

pub skipped : {F : Type 0} (b : Behaviour F) (stages : List Stage) (fs : List F) (done : List Fate) (unit : TimeUnit) (chain : ℕ) (item : Item) (tally : List ℕ) → is_of chain item ≡ false → Skipped b stages fs done (packets_taken unit chain (item ∷ [])) tally
skipped b stages fs done unit chain item tally is = subst (λ (l : List Packet). Skipped b stages fs done l tally) (sym (not_of unit chain item is)) (skipped_none b stages fs done tally)

-- an item of the chain walks
pub record Walks {F : Type 0} (b : Behaviour F) (stages : List Stage) (fs after : List F) (done more : List Fate) (packets : List Packet) (old new : List ℕ) : Type 0 where
  pub functions : after ≡ functions_after b fs packets
  pub fates_are : more ≡ done ++ fates b fs packets
  pub counted : RaisesAll (walked_copies b stages fs packets) old new

walks_one : {F : Type 0} (b : Behaviour F) (stages : List Stage) (fs after : List F) (done more : List Fate) (fate : Fate) (p : Packet) (old new : List ℕ) → after ≡ (walk b p.time 1 fs p.frame).functions → fate ≡ (walk b p.time 1 fs p.frame).fate → more ≡ done ++ fate ∷ [] →
    RaisesAll (copies_of stages p.frame (walk b p.time 1 fs p.frame).fate) old new → Walks b stages fs after done more (p ∷ []) old new
unfolding functions_after fates
walks_one b stages fs after done more fate p old new functions is push counted = record {
  functions = functions;
  fates_are = push ∙ ap (λ x. done ++ x ∷ []) is;
  counted = λ f. counted f ∙ ap (raised (count_of old f)) (sym (one_copies b stages fs p f));
}

pub walks : {F : Type 0} (b : Behaviour F) (stages : List Stage) (fs after : List F) (done more : List Fate) (fate : Fate) (unit : TimeUnit) (chain : ℕ) (item : Item) (time : ℕ) (frame : List ℕ) (old new : List ℕ) → is_of chain item ≡ true → time ≡ (packet_of unit item).time → frame ≡ item.packet.frame →
    after ≡ (walk b time 1 fs frame).functions → fate ≡ (walk b time 1 fs frame).fate → more ≡ done ++ fate ∷ [] → RaisesAll (copies_of stages frame (walk b time 1 fs frame).fate) old new → Walks b stages fs after done more (packets_taken unit chain (item ∷ [])) old new
walks b stages fs after done more fate unit chain item time frame old new is at framed functions came push counted =
    subst (λ (l : List Packet). Walks b stages fs after done more l old new) (sym (one_of unit chain item is))
    (walks_one b stages fs after done more fate (packet_of unit item) old new
    (functions ∙ (λ i. (walk b (at i) 1 fs (framed i)).functions)) (came ∙ (λ i. (walk b (at i) 1 fs (framed i)).fate)) push
    (subst (λ (t : ℕ). RaisesAll (copies_of stages item.packet.frame (walk b t 1 fs item.packet.frame).fate) old new) at (subst (λ (l : List ℕ). RaisesAll (copies_of stages l (walk b time 1 fs l).fate) old new) framed counted)))

pub walks_up_to : {F : Type 0} (b : Behaviour F) (stages : List Stage) (fs : List F) (unit : TimeUnit) (chain : ℕ) (item : Item) (time : ℕ) (frame : List ℕ) (old new : List ℕ) → is_of chain item ≡ true → time ≡ (packet_of unit item).time → frame ≡ item.packet.frame →
    RaisesUpTo (copies_of stages frame (walk b time 1 fs frame).fate) old new → RaisesUpTo (walked_copies b stages fs (packets_taken unit chain (item ∷ []))) old new
walks_up_to b stages fs unit chain item time frame old new is at framed within = λ f.
    let same : walked_copies b stages fs (packets_taken unit chain (item ∷ [])) f ≡ copies_of stages frame (walk b time 1 fs frame).fate f =
    ap (λ (l : List Packet). walked_copies b stages fs l f) (one_of unit chain item is) ∙ one_copies b stages fs (packet_of unit item) f ∙ sym (λ i. copies_of stages (framed i) (walk b (at i) 1 fs (framed i)).fate f) in
    ((within f).0, subst (λ n. count_of new f ≤ raised (count_of old f) n) (sym same) (within f).1)

-- a list written back is that list
pub wrote_back : {A : Type 0} (n : ℕ) (xs ys : List A) → length xs ≡ n → take n (xs ++ drop (length xs) ys) ≡ xs
wrote_back n xs ys e = ap (λ k. take k (xs ++ drop (length xs) ys)) (sym e) ∙ front xs (drop (length xs) ys)
  where
    front : {A : Type 0} (xs ys : List A) → take (length xs) (xs ++ ys) ≡ xs
    front [] ys = refl
    front (x ∷ xs) ys = ap (λ l. x ∷ l) (front xs ys)

-- one more item, if the functions were lent and written back
pub item_taken : {F : Type 0} (b : Behaviour F) (graph : Graph) (unit : TimeUnit) (chain : ℕ) (items : List Item) (first now lent after back : List F) (i : ℕ) (done more : List Fate) (old new newer : List ℕ) (item : Item) → FatesInARow F → FunctionsInARow F → AsManyFates F → KeepsProfile b →
    HasRunItems b graph unit chain items first now i done old new → i < length items → item ≡ get_or items i item → lent ≡ now → back ≡ after →
    after ≡ functions_after b lent (packets_taken unit chain (item ∷ [])) → more ≡ done ++ fates b lent (packets_taken unit chain (item ∷ [])) →
    RaisesAll (walked_copies b graph.stages lent (packets_taken unit chain (item ∷ []))) new newer → HasRunItems b graph unit chain items first back (i + 1) more old newer
item_taken {F} b graph unit chain items first now lent after back i done more old new newer item rows functions_rows many keeps run inside is lends writes fs came counted =
    let row : packets_taken unit chain (item ∷ []) ≡ packets_taken unit chain (get_or items i item ∷ []) = ap (λ (x : Item). packets_taken unit chain (x ∷ [])) is in
    let functions : back ≡ functions_after b now (packets_taken unit chain (get_or items i item ∷ [])) = writes ∙ fs ∙ (λ j. functions_after b (lends j) (row j)) in
    item_more b graph unit chain items first now back i done more old new newer item rows functions_rows many run inside
    (ap (map b.profile) functions ∙ after_profiles b now (packets_taken unit chain (get_or items i item ∷ [])) keeps) functions
    (came ∙ (λ j. done ++ fates b (lends j) (row j)))
    (λ f. counted f ∙ (λ j. raised (count_of new f) (walked_copies b graph.stages (lends j) (row j) f)))

pub item_refused : {F : Type 0} (b : Behaviour F) (graph : Graph) (unit : TimeUnit) (chain : ℕ) (items : List Item) (first now lent : List F) (i : ℕ) (done : List Fate) (old new newer : List ℕ) (item : Item) → FatesInARow F → FunctionsInARow F → AsManyFates F →
    HasRunItems b graph unit chain items first now i done old new → i < length items → item ≡ get_or items i item → lent ≡ now →
    RaisesUpTo (walked_copies b graph.stages lent (packets_taken unit chain (item ∷ []))) new newer → RaisesUpTo (walked_copies b graph.stages first (packets_taken unit chain items)) old newer
item_refused b graph unit chain items first now lent i done old new newer item rows functions_rows many run inside is lends within =
    item_fails b graph unit chain items first now i done old new newer item rows functions_rows many run inside
    (λ f. ((within f).0, subst (λ n. count_of newer f ≤ raised (count_of new f) n) (λ j. walked_copies b graph.stages (lends j) (packets_taken unit chain (is j ∷ [])) f) (within f).1))
