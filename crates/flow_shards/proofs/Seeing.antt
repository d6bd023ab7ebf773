-- What is seen of one more packet goes after what was seen of those before.
use Rattle.std.proofs.Common.{◌≡◌, ◌<◌, ◌∙◌, ℕ, ◌+◌, List, [], ◌∷◌, ◌++◌, length, get_or, take, sym, ap}
use Rattle.std.specs.Prelude.{Option, filter_map}
use Rattle.std.specs.List.{cons_option}
use Rattle.std.proofs.lemmas.List.{take_more}
use Rattle.std.proofs.lemmas.List.Elements.{filter_map-append}
use Rattle.capture_bytes.specs.declared.packet.Unit.{Unit as TimeUnit}
use Rattle.classifier.specs.declared.burst.Item.{Item}
use Rattle.flow_shards.specs.Flows.{sight_of}
use Rattle.flow_shards.specs.declared.sight.Sight.{Sight}

pub seen_more : (unit : TimeUnit) (items : List Item) (seen : List Sight) (i : ℕ) (item : Item) (o : Option Sight) → i < length items → item ≡ get_or items i item →
    seen ≡ filter_map (sight_of unit) (take i items) → o ≡ sight_of unit item → seen ++ cons_option o [] ≡ filter_map (sight_of unit) (take (i + 1) items)
seen_more unit items seen i item o inside at so own =
    ap (λ l. l ++ cons_option o []) so
    ∙ ap (λ p. filter_map (sight_of unit) (take i items) ++ cons_option p []) (own ∙ ap (sight_of unit) at)
    ∙ sym (filter_map-append (sight_of unit) (take i items) (get_or items i item ∷ []))
    ∙ sym (ap (filter_map (sight_of unit)) (take_more items i item inside))
