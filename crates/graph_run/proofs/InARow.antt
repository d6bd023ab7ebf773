-- Functions in a row: packets that ran through a graph without copies, with the copies of another graph counted, ran
-- through that other graph.
use Rattle.std.proofs.Common.{◌≡◌, ◌∙◌, ℕ, Bool, true, false, List, [], ◌∷◌, map, sym, ap, refl, subst, arith}
use Rattle.std.specs.Prelude.{◌==◌, if◌then◌else◌, Option, Some, None, is_some}
use Rattle.std.specs.List.{list_all, sum_by, zip}
use Rattle.std.specs.Option.{IfSome}
use Rattle.std.proofs.lemmas.Bool.Decides.{nat_tests}
use Rattle.std.proofs.lemmas.List.Sums.{sum_by-cons}
use Rattle.packet_fields.specs.Fields.{value}
use Rattle.packet_fields.specs.declared.field.Field.{Field}
use Rattle.packet_fields.specs.declared.field.Field.TheVariants.{LinkDst, LinkSrc, Tag, Tos, Ttl, SrcIp, DstIp, SrcPort, DstPort, Payload}
use Rattle.action_profile.specs.FieldSets.{all_fields}
use Rattle.action_profile.specs.Modes.{copies}
use Rattle.chain_walk.specs.Laws.{KeepsProfile}
use Rattle.chain_walk.specs.Packets.{Packet, fates}
use Rattle.chain_walk.specs.Step.{Behaviour}
use Rattle.chain_walk.specs.declared.walk.Fate.{Fate}
use Rattle.chain_walk.specs.declared.walk.Fate.TheVariants.{Out, Gone}
use Rattle.graph_compile.specs.InARow.{copies_nothing, stage_copies_nothing}
use Rattle.graph_compile.specs.Positions.{stands}
use Rattle.graph_compile.specs.declared.graph.Graph.{Graph}
use Rattle.graph_compile.specs.declared.graph.Stage.{Stage}
use Rattle.packet_version.specs.Tallies.{raised}
use Rattle.graph_run.specs.Counting.{reached, copies_in, copies_of, copies_made, RaisesAll, RaisesUpTo}
use Rattle.graph_run.specs.Leading.{Leads}
use Rattle.graph_run.specs.Running.{PlainRunning, IsRunning, IsRow}
use Rattle.graph_run.proofs.Bursting.{after_profiles, runs_on}

each_field : (p : Field → Bool) → list_all p all_fields ≡ true → (f : Field) → p f ≡ true
each_field p h LinkDst = grind arith
each_field p h LinkSrc = grind arith
each_field p h Tag = grind arith
each_field p h Tos = grind arith
each_field p h Ttl = grind arith
each_field p h SrcIp = grind arith
each_field p h DstIp = grind arith
each_field p h SrcPort = grind arith
each_field p h DstPort = grind arith
each_field p h Payload = grind arith

copies_none : (stages : List Stage) (f : Field) → copies_nothing stages ≡ true → copies_in stages f ≡ 0
copies_none [] f h = refl
copies_none (s ∷ later) f h =
    let here : stage_copies_nothing s ≡ true = grind arith in
    let one = each_field (λ g. copies s.parts g == 0) here f in
    let none : copies s.parts f ≡ 0 = grind (arith, nat_tests) in
    let rest = copies_none later f (grind arith) in
    let all = sum_by-cons (λ (t : Stage). copies t.parts f) s later in
    omega (arith, none, rest, all)

reached_none : (stages : List Stage) (fate : Fate) → copies_nothing stages ≡ true → copies_nothing (reached stages fate) ≡ true
reached_none [] fate h = refl
reached_none (s ∷ later) (Out frame) h = let rest = reached_none later (Out frame) (grind arith) in grind arith
reached_none (s ∷ later) (Gone p) h = by_test (stands p s) (reached_none later (Gone p) (grind arith))
  where
    by_test : (t : Bool) → copies_nothing (reached later (Gone p)) ≡ true → copies_nothing (s ∷ (if t then [] else reached later (Gone p))) ≡ true
    by_test true rest = grind arith
    by_test false rest = grind arith

packet_none : (stages : List Stage) (frame : List ℕ) (fate : Fate) (f : Field) → copies_nothing stages ≡ true → copies_of stages frame fate f ≡ 0
packet_none stages frame fate f h = by_test (is_some (value f frame)) (copies_none (reached stages fate) f (reached_none stages fate h))
  where
    by_test : (t : Bool) → copies_in (reached stages fate) f ≡ 0 → (if t then copies_in (reached stages fate) f else 0) ≡ 0
    by_test true e = e
    by_test false e = refl

sum_none : {A : Type 0} (g : A → ℕ) → ((x : A) → g x ≡ 0) → (xs : List A) → sum_by g xs ≡ 0
sum_none g none [] = refl
sum_none g none (x ∷ xs) = let here = none x in let rest = sum_none g none xs in let all = sum_by-cons g x xs in omega (arith, here, rest, all)

-- a graph that copies nothing makes no copies of any packets
pub made_none : (stages : List Stage) (packets : List Packet) (ended : List Fate) (f : Field) → copies_nothing stages ≡ true → copies_made stages packets ended f ≡ 0
unfolding copies_made
made_none stages packets ended f h = sum_none (λ (x : Packet × Fate). copies_of stages x.0.frame x.1 f) (λ x. packet_none stages x.0.frame x.1 f h) (zip packets ended)

pub none_counted : (stages : List Stage) (packets : List Packet) (ended : List Fate) (tally : List ℕ) → copies_nothing stages ≡ true → RaisesAll (copies_made stages packets ended) tally tally
none_counted stages packets ended tally h f = let none = made_none stages packets ended f h in omega (arith, none)

-- the functions after the walk run in it too
row_stays : {F : Type 0} (b : Behaviour F) (functions after : List F) (row : Graph) → map b.profile after ≡ map b.profile functions → IsRow b functions row → IsRow b after row
row_stays b functions after row same is = record { runs = runs_on b row functions after is.runs same; copies = is.copies }

pub row_left : {F : Type 0} (b : Behaviour F) (functions after : List F) (beside : Option Graph) → map b.profile after ≡ map b.profile functions → IfSome beside (IsRow b functions) → IfSome beside (IsRow b after)
row_left b functions after (Some row) same is = row_stays b functions after row same is
row_left b functions after None same is = tt

-- what ran through the row, with the count after it
led_in_a_row : {F : Type 0} (b : Behaviour F) (run : PlainRunning F) (row : Graph) (packets : List Packet) (old mid new : List ℕ) (after : PlainRunning F) (ended : List Fate) → IsRow b run.functions row →
    Leads b (record { functions = run.functions; graph = row }) packets old mid after ended → RaisesAll (copies_made run.graph.stages packets ended) mid new → Leads b run packets old new (record { functions = after.functions; graph = run.graph }) ended
led_in_a_row b run row packets old mid new after ended is led counted = record {
  fates = led.fates;
  functions = led.functions;
  graph = refl;
  within = led.within;
  counted = λ f.
      let walked : List Fate = fates b run.functions packets in
      let none = made_none row.stages packets walked f is.copies in
      let before = led.counted f in
      let behind = counted f in
      let same : copies_made run.graph.stages packets ended f ≡ copies_made run.graph.stages packets walked f = ap (λ (l : List Fate). copies_made run.graph.stages packets l f) led.fates in
      both _ _ _ _ _ _ before none behind same;
}
  where
    both : (c m n none made due : ℕ) → m ≡ raised c none → none ≡ 0 → n ≡ raised m made → made ≡ due → n ≡ raised c due
    both c m n none made due x y z e = omega arith

pub led_back : {F : Type 0} (b : Behaviour F) (run shown : PlainRunning F) (functions left : List F) (graph row : Graph) (packets : List Packet) (old mid new : List ℕ) (after : PlainRunning F) (ended : List Fate) →
    ◌≡◌ {A = PlainRunning F} (record { functions = functions; graph = graph }) run → shown ≡ record { functions = functions; graph = row } → left ≡ after.functions → IsRow b functions row → Leads b shown packets old mid after ended →
    RaisesAll (copies_made graph.stages packets ended) mid new → Leads b run packets old new (record { functions = left; graph = graph }) ended
led_back {F} b run shown functions left graph row packets old mid new after ended whole through back is led counted =
    subst (λ (r : PlainRunning F). Leads b r packets old new (record { functions = left; graph = graph }) ended) whole
    (subst (λ (fs : List F). Leads b (record { functions = functions; graph = graph }) packets old new (record { functions = fs; graph = graph }) ended) (sym back)
    (led_in_a_row b (record { functions = functions; graph = graph }) row packets old mid new after ended is
    (subst (λ (r : PlainRunning F). Leads b r packets old mid after ended) through led) counted))

-- if it ran out of memory in the row, nothing was counted
pub refused_back : {F : Type 0} (b : Behaviour F) (run shown : PlainRunning F) (functions : List F) (graph row : Graph) (packets : List Packet) (old new : List ℕ) →
    ◌≡◌ {A = PlainRunning F} (record { functions = functions; graph = graph }) run → shown ≡ record { functions = functions; graph = row } → IsRow b functions row →
    RaisesUpTo (copies_made shown.graph.stages packets (fates b shown.functions packets)) old new → RaisesUpTo (copies_made run.graph.stages packets (fates b run.functions packets)) old new
refused_back {F} b run shown functions graph row packets old new whole through is within = λ f.
    let none : copies_made shown.graph.stages packets (fates b shown.functions packets) f ≡ 0 =
    ap (λ (r : PlainRunning F). copies_made r.graph.stages packets (fates b r.functions packets) f) through ∙ made_none row.stages packets (fates b functions packets) f is.copies in
    let up = within f in
    let low = up.0 in
    let high = up.1 in
    (low, omega (arith, none, high))

-- the row that is there
pub row_there : {F : Type 0} (b : Behaviour F) (shown functions : List F) (row : Graph) → shown ≡ functions → IsRow b shown row → IsRow b functions row
row_there {F} b shown functions row same is = subst (λ (fs : List F). IsRow b fs row) same is

-- the returned functions run in their own graph, with the row beside it
pub row_back : {F : Type 0} (b : Behaviour F) (shown : PlainRunning F) (functions left : List F) (graph row back : Graph) (packets : List Packet) (old new : List ℕ) (after : PlainRunning F) (ended : List Fate) → KeepsProfile b →
    shown ≡ record { functions = functions; graph = row } → left ≡ after.functions → back ≡ after.graph → IsRunning b functions graph → IsRow b functions row → IsRunning b left back → Leads b shown packets old new after ended →
    IsRunning b left graph × IsRow b left back
row_back {F} b shown functions left graph row back packets old new after ended keeps through is_left is_back running is runs led =
    let same : map b.profile left ≡ map b.profile functions = ap (map b.profile) (is_left ∙ led.functions) ∙ after_profiles b shown.functions packets keeps ∙ ap (λ (r : PlainRunning F). map b.profile r.functions) through in
    let last : back ≡ row = is_back ∙ led.graph ∙ ap (λ (r : PlainRunning F). r.graph) through in (
      runs_on b graph functions left running same,
      record { runs = runs; copies = subst (λ (g : Graph). copies_nothing g.stages ≡ true) (sym last) is.copies },
    )
