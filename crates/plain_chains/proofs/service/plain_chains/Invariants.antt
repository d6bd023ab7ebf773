use Rattle.std.specs.Vec.Iter.{into_iter_items}
use Rattle.std.specs.Iterator.Adapters.{zip_first, zip_second}
use Rattle.plain_chains.proofs.Chaining.{IsCounted, IsUnderway}
use Rattle.plain_chains.proofs.service.plain_chains.Given as goal

abbrev pub invariant-chains : goal.invariant-chains
invariant-chains l = record {
  can_next : (goal.iterator-chains).can_next l.chain-iterator;
  is_finite : (goal.iterator-chains).is_finite l.chain-iterator;
  underway : IsUnderway l.fn.chains l.fn.orders l.plain.items (into_iter_items (zip_first (zip_first l.chain-iterator))) (into_iter_items (zip_second (zip_first l.chain-iterator)))
      (into_iter_items (zip_second l.chain-iterator));
  chains : IsCounted (zip_first (zip_first l.chain-iterator));
  orders : IsCounted (zip_second (zip_first l.chain-iterator));
  made : IsCounted (zip_second l.chain-iterator);
}
