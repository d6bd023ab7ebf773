-- A burst that runs in pieces.
use Rattle.std.proofs.Common.{◌≡◌, ◌∙◌, ◌+◌, ℕ, List, [], ◌++◌, length, refl, sym, ap, subst, arith}
use Rattle.std.specs.Prelude.{All}
use Rattle.packet_fields.specs.declared.field.Field.{Field}
use Rattle.chain_walk.specs.Laws.{KeepsProfile}
use Rattle.chain_walk.specs.Packets.{Packet, fates, functions_after}
use Rattle.chain_walk.specs.Step.{Behaviour}
use Rattle.chain_walk.specs.Walk.{walk, EndsWithin}
use Rattle.chain_walk.specs.declared.walk.Fate.{Fate}
use Rattle.graph_compile.specs.declared.graph.Graph.{Graph}
use Rattle.packet_version.specs.Tallies.{count_of, raised}
use Rattle.graph_run.specs.Counting.{RaisesUpTo}
use Rattle.graph_run.specs.Leading.{Leads}
use Rattle.graph_run.specs.Running.{PlainRunning}
use Rattle.graph_run.proofs.Bursting.{FatesInARow, FunctionsInARow, AsManyFates, walked_copies, copies_in_a_row, nothing_yet, raised_more, bounded, all_within}

pub led_none : {F : Type 0} (b : Behaviour F) (run : PlainRunning F) (tally : List ℕ) → Leads b run [] tally tally run []
unfolding functions_after fates
led_none b run tally = record {
  fates = refl;
  functions = refl;
  graph = refl;
  within = λ k d less. absurd (omega arith);
  counted = λ f. let none = nothing_yet b run.graph.stages run.functions f in omega (arith, none);
}

-- the copies of the first pieces, and of those after them
behind : {F : Type 0} (b : Behaviour F) (run between : PlainRunning F) (first later : List Packet) (f : Field) → FatesInARow F → AsManyFates F → between.functions ≡ functions_after b run.functions first →
    walked_copies b run.graph.stages run.functions (first ++ later) f ≡ walked_copies b run.graph.stages run.functions first f + walked_copies b run.graph.stages between.functions later f
behind {F} b run between first later f rows many left =
    copies_in_a_row b run.graph.stages run.functions first later f rows many
    ∙ ap (λ (l : List F). walked_copies b run.graph.stages run.functions first f + walked_copies b run.graph.stages l later f) (sym left)

pub led_behind : {F : Type 0} (b : Behaviour F) (run between after : PlainRunning F) (first later : List Packet) (old new newer : List ℕ) (ended more : List Fate) → FatesInARow F → FunctionsInARow F → AsManyFates F → KeepsProfile b →
    ((b : Behaviour F) (time : ℕ) (functions : List F) (frame : List ℕ) → EndsWithin (length functions) (walk b time 1 functions frame).fate) →
    Leads b run first old new between ended → Leads b between later new newer after more → Leads b run (first ++ later) old newer after (ended ++ more)
led_behind {F} b run between after first later old new newer ended more rows functions_rows many keeps law x y =
    let all : ended ++ more ≡ fates b run.functions (first ++ later) = (λ i. x.fates i ++ y.fates i) ∙ ap (λ (l : List F). fates b run.functions first ++ fates b l later) x.functions ∙ sym (rows b run.functions first later) in
    record {
      fates = all;
      functions = y.functions ∙ ap (λ (l : List F). functions_after b l later) x.functions ∙ sym (functions_rows b run.functions first later);
      graph = y.graph ∙ x.graph;
      within = subst (All (EndsWithin (length run.functions))) (sym all) (all_within b run.functions (first ++ later) keeps law);
      counted = λ f. raised_more (count_of old f) (walked_copies b run.graph.stages run.functions first f) (walked_copies b run.graph.stages between.functions later f) (walked_copies b run.graph.stages run.functions (first ++ later) f) (count_of new f) (count_of newer f) (x.counted f)
          (y.counted f ∙ ap (λ (g : Graph). raised (count_of new f) (walked_copies b g.stages between.functions later f)) x.graph)
          (behind b run between first later f rows many x.functions);
    }

pub refused_behind : {F : Type 0} (b : Behaviour F) (run between : PlainRunning F) (first later last : List Packet) (old new newer : List ℕ) (ended : List Fate) → FatesInARow F → AsManyFates F →
    Leads b run first old new between ended → RaisesUpTo (walked_copies b between.graph.stages between.functions later) new newer → RaisesUpTo (walked_copies b run.graph.stages run.functions (first ++ (later ++ last))) old newer
refused_behind {F} b run between first later last old new newer ended rows many x within = λ f.
    let all = behind b run between first (later ++ last) f rows many x.functions
    ∙ ap (λ (n : ℕ). walked_copies b run.graph.stages run.functions first f + n) (copies_in_a_row b run.graph.stages between.functions later last f rows many) in
    let most = subst (λ (g : Graph). RaisesUpTo (walked_copies b g.stages between.functions later) new newer) x.graph within f in
    bounded (count_of old f) (walked_copies b run.graph.stages run.functions first f) (walked_copies b run.graph.stages between.functions later f) (walked_copies b run.graph.stages (functions_after b between.functions later) last f)
    (walked_copies b run.graph.stages run.functions (first ++ (later ++ last)) f) (count_of new f) (count_of newer f) (x.counted f) most.0 most.1 all
