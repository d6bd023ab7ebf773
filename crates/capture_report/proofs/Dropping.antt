-- The lines of a burst's dropped packets, one after another.
use Rattle.std.proofs.Common.{◌≡◌, ◌<◌, ◌+◌, ◌∙◌, ℕ, zero, suc, List, [], ◌∷◌, ◌++◌, length, map, take, refl, ap, sym, append_assoc, add-one, arith}
use Rattle.std.specs.Prelude.{slice_get, slice_index_or, Option, Some, None}
use Rattle.std.specs.Option.{option_map, option_map_or}
use Rattle.std.proofs.lemmas.List.{append-nil}
use Rattle.std.proofs.lemmas.Option.{slice_get-map}
use Rattle.chain_walk.specs.declared.walk.Fate.{Fate}
use Rattle.chain_walk.specs.declared.walk.Fate.TheVariants.{Gone}
use Rattle.classifier.specs.declared.burst.Item.{Item}
use Rattle.burst_walk.specs.ChainServiceProofs.{ServiceChain, chains_of}
use Rattle.burst_walk.specs.Leading.{all_ended, ended}
use Rattle.capture_report.specs.Report.{ChainNames, drop_line, drop_lines, dropped_by, names_among}
use Rattle.capture_report.specs.Telling.{names_in}

-- the lines up to a packet and its own
pub lines_up_to : (names : List ChainNames) (first : ℕ) (items : List Item) (fates : List (Option Fate)) (index number : ℕ) (item : Item) (fate : Option Fate) → index < length items →
    index < length fates →
    item ≡ slice_index_or items index item → fate ≡ slice_index_or fates index fate → number ≡ first + index →
    drop_lines names first (map (λ i. i.class) (take (index + 1) items)) (all_ended (take (index + 1) items) (take (index + 1) fates))
    ≡ drop_lines names first (map (λ i. i.class) (take index items)) (all_ended (take index items) (take index fates)) ++ drop_line names number item.class (ended item.packet fate)
unfolding drop_lines all_ended
lines_up_to names first items fates index number item fate inside inside' is is' count =
    ap (λ n. drop_lines names first (map (λ i. i.class) (take n items)) (all_ended (take n items) (take n fates))) (add-one index)
    ∙ go index first items fates inside inside' is is'
    ∙ ap (λ n. drop_lines names first (map (λ i. i.class) (take index items)) (all_ended (take index items) (take index fates)) ++ drop_line names n item.class (ended item.packet fate)) (sym count)
  where
    go : (index first : ℕ) (items : List Item) (fates : List (Option Fate)) → index < length items → index < length fates → item ≡ slice_index_or items index item →
        fate ≡ slice_index_or fates index fate →
        drop_lines names first (map (λ i. i.class) (take (suc index) items)) (all_ended (take (suc index) items) (take (suc index) fates))
        ≡ drop_lines names first (map (λ i. i.class) (take index items)) (all_ended (take index items) (take index fates)) ++ drop_line names (first + index) item.class (ended item.packet fate)
    go index first [] fates inside inside' is is' = absurd (omega arith)
    go index first (i ∷ items) [] inside inside' is is' = absurd (omega arith)
    go zero first (i ∷ items) (f ∷ fates) inside inside' is is' =
        append-nil (drop_line names first i.class (ended i.packet f)) ∙ (let same : first ≡ first + 0 =
        omega arith in λ j. drop_line names (same j) (sym is j).class (ended (sym is j).packet (sym is' j)))
    go (suc index) first (i ∷ items) (f ∷ fates) inside inside' is is' =
        ap (λ l. drop_line names first i.class (ended i.packet f) ++ l)
        (go index (first + 1) items fates (omega arith) (omega arith) is is'
        ∙ ap (λ n. drop_lines names (first + 1) (map (λ i. i.class) (take index items)) (all_ended (take index items) (take index fates)) ++ drop_line names n item.class (ended item.packet fate)) (omega arith))
        ∙ sym (append_assoc (drop_line names first i.class (ended i.packet f)) (drop_lines names (first + 1) (map (λ i. i.class) (take index items)) (all_ended (take index items) (take index fates))) (drop_line names (first + suc index) item.class (ended item.packet fate)))

-- no packets have no lines
pub no_lines : (names : List ChainNames) (first : ℕ) → drop_lines names first [] (all_ended [] []) ≡ []
unfolding drop_lines all_ended
no_lines names first = refl

names_each : (chains : List ServiceChain) → names_among (chains_of chains) ≡ map names_in chains
names_each [] = refl
names_each (c ∷ chains) = ap (λ l. names_in c ∷ l) (names_each chains)

named_at : (chains : List ServiceChain) (class : ℕ) (o : Option ServiceChain) → slice_get chains class ≡ o → slice_get (names_among (chains_of chains)) class ≡ option_map names_in o
named_at chains class o is = ap (λ l. slice_get l class) (names_each chains) ∙ slice_get-map names_in chains class ∙ ap (option_map names_in) is

-- the line of a packet is that of its own chain
pub line_of_chain : (chains : List ServiceChain) (chain : ServiceChain) (number class position : ℕ) → slice_get chains class ≡ Some chain →
    drop_line (names_among (chains_of chains)) number (Some class) (Gone position) ≡ dropped_by number position (names_in chain)
line_of_chain chains chain number class position is = ap (λ o. option_map_or (dropped_by number position) o []) (named_at chains class (Some chain) is)

pub line_of_none : (chains : List ServiceChain) (number class position : ℕ) → slice_get chains class ≡ None → drop_line (names_among (chains_of chains)) number (Some class) (Gone position) ≡ []
line_of_none chains number class position is = ap (λ o. option_map_or (dropped_by number position) o []) (named_at chains class None is)
