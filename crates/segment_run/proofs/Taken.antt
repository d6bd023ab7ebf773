-- Packets of a chain, taken one after another from among those of a burst.
use Rattle.std.proofs.Common.{◌≡◌, ◌<◌, ◌≤◌, ◌∙◌, ◌+◌, ℕ, Bool, true, false, cond, List, [], ◌∷◌, ◌++◌, length, map, filter, drop, ap, refl, sym, append_assoc}
use Rattle.std.specs.Prelude.{slice_index_or}
use Rattle.std.proofs.lemmas.List.{append-nil, drop_all, drop_more}
use Rattle.capture_bytes.specs.declared.packet.Unit.{Unit as TimeUnit}
use Rattle.chain_walk.specs.Packets.{Packet}
use Rattle.chain_walk.specs.declared.walk.Fate.{Fate}
use Rattle.chain_walk.specs.declared.walk.Fate.TheVariants.{Out}
use Rattle.classifier.specs.declared.burst.Item.{Item}
use Rattle.graph_run.specs.Packets.{is_of, packet_of, packets_taken}
use Rattle.piece_walk.specs.Rejoining.{sealed_by, sealed_fates, still_going}
use Rattle.segment_run.specs.Rewriting.{out_of}

module _ (unit : TimeUnit) (chain : ℕ) where
  pub taken : (item : Item) (items : List Item) → is_of chain item ≡ true → packets_taken unit chain (item ∷ items) ≡ packet_of unit item ∷ packets_taken unit chain items
  taken item items e = ap (λ (b : Bool). map (packet_of unit) (cond b (item ∷ filter (is_of chain) items) (filter (is_of chain) items))) e

  pub skipped : (item : Item) (items : List Item) → is_of chain item ≡ false → packets_taken unit chain (item ∷ items) ≡ packets_taken unit chain items
  skipped item items e = ap (λ (b : Bool). map (packet_of unit) (cond b (item ∷ filter (is_of chain) items) (filter (is_of chain) items))) e

  pub taken_append : (first later : List Item) → packets_taken unit chain (first ++ later) ≡ packets_taken unit chain first ++ packets_taken unit chain later
  taken_append [] later = refl
  taken_append (item ∷ first) later = by_test (is_of chain item) refl (taken_append first later)
    where
      by_test : (b : Bool) → is_of chain item ≡ b → packets_taken unit chain (first ++ later) ≡ packets_taken unit chain first ++ packets_taken unit chain later →
          packets_taken unit chain (item ∷ first ++ later) ≡ packets_taken unit chain (item ∷ first) ++ packets_taken unit chain later
      by_test true e rest = taken item (first ++ later) e ∙ ap (λ l. packet_of unit item ∷ l) rest ∙ ap (λ l. l ++ packets_taken unit chain later) (sym (taken item first e))
      by_test false e rest = skipped item (first ++ later) e ∙ rest ∙ ap (λ l. l ++ packets_taken unit chain later) (sym (skipped item first e))

  -- one packet goes out rewritten
  pub rewrites : (by : List ℕ → List ℕ) (fates fates' : List Fate) (item : Item) (frame : List ℕ) (later : List Item) → is_of chain item ≡ true → frame ≡ by item.packet.frame → fates' ≡ fates ++ Out frame ∷ [] →
      fates' ++ map (out_of by) (packets_taken unit chain later) ≡ fates ++ map (out_of by) (packets_taken unit chain (item ∷ later))
  rewrites by fates fates' item frame later e same push =
      ap (λ l. l ++ map (out_of by) (packets_taken unit chain later)) push
      ∙ append_assoc fates (Out frame ∷ []) (map (out_of by) (packets_taken unit chain later))
      ∙ ap (λ x. fates ++ Out x ∷ map (out_of by) (packets_taken unit chain later)) same
      ∙ ap (λ ps. fates ++ map (out_of by) ps) (sym (taken item later e))

  -- one fate is sealed
  pub seals : (all all' : List Fate) (item : Item) (fate ended : Fate) (left left' : List Fate) (later : List Item) → is_of chain item ≡ true → left ≡ fate ∷ left' → ended ≡ sealed_by item.packet.frame fate → all' ≡ all ++ ended ∷ [] →
      all' ++ sealed_fates (packets_taken unit chain later) left' ≡ all ++ sealed_fates (packets_taken unit chain (item ∷ later)) left
  unfolding sealed_fates
  seals all all' item fate ended left left' later e row same push =
      ap (λ l. l ++ sealed_fates (packets_taken unit chain later) left') push
      ∙ append_assoc all (ended ∷ []) (sealed_fates (packets_taken unit chain later) left')
      ∙ ap (λ x. all ++ x ∷ sealed_fates (packets_taken unit chain later) left') same
      ∙ ap (λ l. all ++ l) (sym (ap (λ ps. sealed_fates ps left) (taken item later e) ∙ ap (sealed_fates (packet_of unit item ∷ packets_taken unit chain later)) row))

  none_sealed : (ps : List Packet) → sealed_fates ps [] ≡ []
  unfolding sealed_fates
  none_sealed [] = refl
  none_sealed (p ∷ ps) = refl

  -- if there is no more fate
  pub seals_none : (all : List Fate) (item : Item) (left left' : List Fate) (later : List Item) → left ≡ [] → left' ≡ [] →
      all ++ sealed_fates (packets_taken unit chain later) left' ≡ all ++ sealed_fates (packets_taken unit chain (item ∷ later)) left
  seals_none all item left left' later none none' =
      ap (λ l. all ++ l) (ap (sealed_fates (packets_taken unit chain later)) none' ∙ none_sealed (packets_taken unit chain later)
      ∙ sym (ap (sealed_fates (packets_taken unit chain (item ∷ later))) none ∙ none_sealed (packets_taken unit chain (item ∷ later))))

-- the items from the current one on
pub next_item : (items : List Item) (i : ℕ) (d : Item) → i < length items → drop i items ≡ slice_index_or items i d ∷ drop (i + 1) items
next_item items i d inside = drop_more items i d inside

-- a quantity that a loop over items keeps: what was made, and what the rest makes
pub loop_goes_on : {S X : Type 0} (items : List Item) (i : ℕ) (item : Item) (due : List Item → S → List X) (total : List X) (s s' : S) → i < length items → item ≡ slice_index_or items i item →
    due (drop (i + 1) items) s' ≡ due (item ∷ drop (i + 1) items) s → due (drop i items) s ≡ total → due (drop (i + 1) items) s' ≡ total
loop_goes_on items i item due total s s' inside is step before =
    step ∙ ap (λ x. due (x ∷ drop (i + 1) items) s) is ∙ ap (λ l. due l s) (sym (next_item items i item inside)) ∙ before

pub loop_ends : {S X : Type 0} (items : List Item) (i : ℕ) (due : List Item → S → List X) (total : List X) (s : S) → length items ≤ i → due (drop i items) s ≡ total → due [] s ≡ total
loop_ends items i due total s over is = ap (λ l. due l s) (sym (drop_all i items over)) ∙ is

-- nothing is due for no packets
pub rewritten_ends : (by : List ℕ → List ℕ) (unit : TimeUnit) (chain : ℕ) (items : List Item) (i : ℕ) (fates total : List Fate) → length items ≤ i → fates ++ map (out_of by) (packets_taken unit chain (drop i items)) ≡ total → fates ≡ total
rewritten_ends by unit chain items i fates total over is =
    sym (append-nil fates) ∙ loop_ends items i (λ later (made : List Fate). made ++ map (out_of by) (packets_taken unit chain later)) total fates over is

pub sealed_ends : (unit : TimeUnit) (chain : ℕ) (items : List Item) (i : ℕ) (all left total : List Fate) → length items ≤ i → all ++ sealed_fates (packets_taken unit chain (drop i items)) left ≡ total → all ≡ total
unfolding sealed_fates
sealed_ends unit chain items i all left total over is =
    sym (append-nil all) ∙ loop_ends items i (λ later (made : List Fate). made ++ sealed_fates (packets_taken unit chain later) left) total all over is

pub going_ends_all : (unit : TimeUnit) (chain : ℕ) (items : List Item) (i : ℕ) (chosen : List Item) (left : List Fate) (total : List Packet) → length items ≤ i →
    packets_taken unit chain chosen ++ still_going (packets_taken unit chain (drop i items)) left ≡ total → packets_taken unit chain chosen ≡ total
unfolding still_going
going_ends_all unit chain items i chosen left total over is =
    sym (append-nil (packets_taken unit chain chosen)) ∙ loop_ends items i (λ later (made : List Item). packets_taken unit chain made ++ still_going (packets_taken unit chain later) left) total chosen over is
