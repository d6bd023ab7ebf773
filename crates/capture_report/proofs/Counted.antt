-- The packets that were dropped are those whose chain gave such a fate.
use Rattle.std.proofs.Common.{◌≡◌, ◌+◌, ◌∙◌, ℕ, List, [], ◌∷◌, length, refl, sym, arith}
use Rattle.std.specs.Prelude.{Option, Some, None, cond, count_by, false}
use Rattle.std.specs.Option.{option_map_or}
use Rattle.std.proofs.lemmas.List.Sums.{sum_by-cons}
use Rattle.capture_bytes.specs.declared.packet.PcapRecord.{PcapRecord}
use Rattle.chain_walk.specs.declared.walk.Fate.{Fate}
use Rattle.classifier.specs.declared.burst.Item.{Item}
use Rattle.burst_walk.specs.Leading.{all_ended, ended}
use Rattle.capture_report.specs.Report.{is_gone}

pub count-gone : (items : List Item) (fates : List (Option Fate)) → length fates ≡ length items → count_by (λ o. option_map_or is_gone o false) fates ≡ count_by is_gone (all_ended items fates)
unfolding all_ended
count-gone [] [] many = refl
count-gone [] (fate ∷ fates) many = absurd (omega arith)
count-gone (item ∷ items) [] many = absurd (omega arith)
count-gone (item ∷ items) (fate ∷ fates) many =
    sum_by-cons (λ o. cond (option_map_or is_gone o false) 1 0) fate fates
    ∙ (λ i. same item.packet fate i + count-gone items fates (omega arith) i)
    ∙ sym (sum_by-cons (λ x. cond (is_gone x) 1 0) (ended item.packet fate) (all_ended items fates))
  where
    same : (packet : PcapRecord) (o : Option Fate) → ◌≡◌ {A = ℕ} (cond (option_map_or is_gone o false) 1 0) (cond (is_gone (ended packet o)) 1 0)
    same packet None = refl
    same packet (Some f) = refl
