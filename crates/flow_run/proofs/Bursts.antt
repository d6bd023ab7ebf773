-- One more packet after those of the open burst.
use Rattle.std.proofs.Common.{◌≡◌, ◌<◌, ◌+◌, ◌∙◌, ℕ, List, [], ◌∷◌, ◌++◌, Bool, true, false, refl, sym, ap, subst, arith, rules}
use Rattle.std.specs.Prelude.{IsTrue, IfSome, Option, None, filter_map, if◌then◌else◌}
use Rattle.std.proofs.lemmas.Bool.{false≢true}
use Rattle.std.proofs.lemmas.List.Elements.{filter_map-append}
use Rattle.std.proofs.lemmas.List.Sums.{fold-append}
use Rattle.capture_bytes.specs.declared.packet.PcapRecord.{PcapRecord}
use Rattle.capture_bytes.specs.declared.packet.Unit.{Unit as TimeUnit}
use Rattle.classifier.specs.Cutting.{Cutting, after, closes, with_packet}
use Rattle.classifier.specs.declared.burst.Item.{Item}
use Rattle.flow_export.specs.declared.span.Span5.{Span5}
use Rattle.flow_shards.specs.Flows.{Lines, counted, counted_all, flows_from, sight_of}
use Rattle.flow_shards.specs.Sharding.{AreRising, ShardsView, last_of}
use Rattle.flow_run.specs.Counting.{FitsSpan, IsCounting}
use Rattle.flow_run.specs.FlowsOut.{item_of}

pub lines_more : (unit : TimeUnit) (lines : Lines) (held later : List Item) → flows_from unit lines (held ++ later) ≡ flows_from unit (flows_from unit lines held) later
lines_more unit lines held later =
    ap (counted_all lines) (filter_map-append (sight_of unit) held later) ∙ fold-append counted lines (filter_map (sight_of unit) held) (filter_map (sight_of unit) later)

rising_more : (last : ℕ) (held : List Item) (item : Item) → AreRising last held → last_of last held < item.number → AreRising last (held ++ item ∷ [])
rising_more last [] item rising above = (above, tt)
rising_more last (x ∷ held) item rising above = (rising.0, rising_more x.number held item rising.1 above)

last_more : (last : ℕ) (held : List Item) (item : Item) → last_of last (held ++ item ∷ []) ≡ item.number
last_more last [] item = refl
last_more last (x ∷ held) item = last_more x.number held item

-- the packets of the open burst with one more continue the numbers
pub rising_with : (records : ℕ) (cut : Cutting) (shards : ShardsView) (span : Option Span5) (packet : PcapRecord) (items : List Item) → IsCounting records cut shards span → items ≡ with_packet cut packet None → AreRising shards.last items
rising_with records cut shards span packet items is are =
    let last = is.last in
    subst (AreRising shards.last) (sym are) (rising_more shards.last cut.held (record { number = cut.added + 1; class = None; packet = packet }) is.rising (omega (arith, last)))

-- what is counted with one packet more
pub record IsTaken (unit : TimeUnit) (records : ℕ) (cut : Cutting) (packet : PcapRecord) (before : ShardsView) (cut' : Cutting) (after' : ShardsView) (span' : Option Span5) : Type 0 where
  pub counting : IsCounting (records + 1) cut' after' span'
  pub lines : flows_from unit after'.lines cut'.held ≡ flows_from unit (flows_from unit before.lines cut.held) (item_of (records + 1) packet ∷ [])

-- under the number of its record
as_numbered : (unit : TimeUnit) (records : ℕ) (cut : Cutting) (shards : ShardsView) (span : Option Span5) (packet : PcapRecord) → IsCounting records cut shards span →
    flows_from unit shards.lines (with_packet cut packet None) ≡ flows_from unit (flows_from unit shards.lines cut.held) (item_of (records + 1) packet ∷ [])
as_numbered unit records cut shards span packet is =
    ap (λ n. flows_from unit shards.lines (cut.held ++ item_of (n + 1) packet ∷ [])) (sym is.added) ∙ lines_more unit shards.lines cut.held (item_of (records + 1) packet ∷ [])

-- the burst stays open
pub taken_open : (unit : TimeUnit) (records : ℕ) (cut cut' : Cutting) (packet : PcapRecord) (shards : ShardsView) (span span' : Option Span5) → IsCounting records cut shards span → ¬ IsTrue (closes cut packet None) →
    cut' ≡ after cut packet None → IfSome span' FitsSpan → IsTaken unit records cut packet shards cut' shards span'
taken_open unit records cut cut' packet shards span span' is stays now fits = go (closes cut packet None) refl
  where
    go : (b : Bool) → closes cut packet None ≡ b → IsTaken unit records cut packet shards cut' shards span'
    go true e = absurd (stays (subst IsTrue (sym e) (search rules)))
    go false e =
        let held : cut' ≡ record { limit = cut.limit; added = cut.added + 1; held = with_packet cut packet None } =
        now ∙ ap (λ b. if b then record { limit = cut.limit; added = cut.added + 1; held = [] } else record { limit = cut.limit; added = cut.added + 1; held = with_packet cut packet None }) e in
        subst (λ (x : Cutting). IsTaken unit records cut packet shards x shards span') (sym held) (record {
          counting = record {
            added = ap (λ n. n + 1) is.added;
            rising = rising_with records cut shards span packet (with_packet cut packet None) is refl;
            last = last_more shards.last cut.held (record { number = cut.added + 1; class = None; packet = packet });
            span_fits = fits;
          };
          lines = as_numbered unit records cut shards span packet is;
        })

-- the burst was closed, and is counted
pub taken_closed : (unit : TimeUnit) (records : ℕ) (cut cut' : Cutting) (packet : PcapRecord) (items : List Item) (shards shards' : ShardsView) (span span' : Option Span5) → IsCounting records cut shards span → IsTrue (closes cut packet None) →
    cut' ≡ after cut packet None → items ≡ with_packet cut packet None → shards'.last ≡ last_of shards.last items → shards'.lines ≡ flows_from unit shards.lines items → IfSome span' FitsSpan → IsTaken unit records cut packet shards cut' shards' span'
taken_closed unit records cut cut' packet items shards shards' span span' is closed now are last lines fits = go (closes cut packet None) refl
  where
    go : (b : Bool) → closes cut packet None ≡ b → IsTaken unit records cut packet shards cut' shards' span'
    go false e = absurd (false≢true (subst IsTrue e closed))
    go true e =
        let none : cut' ≡ record { limit = cut.limit; added = cut.added + 1; held = [] } =
        now ∙ ap (λ b. if b then record { limit = cut.limit; added = cut.added + 1; held = [] } else record { limit = cut.limit; added = cut.added + 1; held = with_packet cut packet None }) e in
        subst (λ (x : Cutting). IsTaken unit records cut packet shards x shards' span') (sym none) (record {
          counting = record {
            added = ap (λ n. n + 1) is.added;
            rising = tt;
            last = last ∙ ap (last_of shards.last) are ∙ last_more shards.last cut.held (record { number = cut.added + 1; class = None; packet = packet });
            span_fits = fits;
          };
          lines = lines ∙ ap (flows_from unit shards.lines) are ∙ as_numbered unit records cut shards span packet is;
        })
