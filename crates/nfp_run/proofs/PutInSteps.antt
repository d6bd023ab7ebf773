-- How what is put into Out and Report in two steps adds up.
use Rattle.std.proofs.Common.{ℕ, List, ◌++◌, arith}
use Rattle.nfp_outside.specs.declared.slot.Slot.{Slot}
use Rattle.nfp_outside.specs.declared.slot.Slot.TheVariants.{Out, Report}
use Rattle.nfp_outside.specs.Outside.{SlotView}
use Rattle.nfp_outside.specs.Adding.{appends_more, prefix_longer, prefix_more}
use Rattle.capture_items.specs.Slots.{IsLater, Puts, PutsPrefixes}

later_more : (old mid new : Slot → SlotView) → IsLater old mid → IsLater mid new → IsLater old new
later_more old mid new a b = record {
  capture = let x = a.capture in let y = b.capture in omega arith;
  out = let x = a.out in let y = b.out in omega arith;
  report = let x = a.report in let y = b.report in omega arith;
}

pub puts_more : (a b c d : List ℕ) (old mid new : Slot → SlotView) → Puts a b old mid → Puts c d mid new → Puts (a ++ c) (b ++ d) old new
puts_more a b c d old mid new first second = record {
  in_out = appends_more a c (old Out) (mid Out) (new Out) first.in_out second.in_out;
  in_report = appends_more b d (old Report) (mid Report) (new Report) first.in_report second.in_report;
  later = later_more old mid new first.later second.later;
}

-- of the second a prefix was put
pub puts_more_partly : (a b c d : List ℕ) (old mid new : Slot → SlotView) → Puts a b old mid → PutsPrefixes c d mid new → PutsPrefixes (a ++ c) (b ++ d) old new
puts_more_partly a b c d old mid new first second = record {
  in_out = prefix_more a c (old Out) (mid Out) (new Out) first.in_out second.in_out;
  in_report = prefix_more b d (old Report) (mid Report) (new Report) first.in_report second.in_report;
  later = later_more old mid new first.later second.later;
}

-- there is more due
pub prefixes_longer : (a b c d : List ℕ) (old new : Slot → SlotView) → PutsPrefixes a b old new → PutsPrefixes (a ++ c) (b ++ d) old new
prefixes_longer a b c d old new put = record {
  in_out = prefix_longer a c (old Out) (new Out) put.in_out;
  in_report = prefix_longer b d (old Report) (new Report) put.in_report;
  later = put.later;
}
