use Rattle.std.proofs.Common.{◌≡◌, None, replicate, sym, subst, arith, rules}
use Rattle.acc_table.specs.Arrivals.{heads_for}
use Rattle.acc_table.specs.Links.{AreLinked}
use Rattle.acc_table.proofs.Beginning.{Linked, linked_more, begun}
use Rattle.acc_table.proofs.links.Links.all_free.Goals as goal

pub loop-place-preserved : goal.loop-place-preserved
loop-place-preserved c = linked_more c.loop-place.nexts.items c.push.new.self.items c.loop-place.free c.loop-place.place c.loop-place.invariant (search rules)

pub returns : goal.returns
returns c =
    let all : c.loop-place.place ≡ c.args.places = omega arith in
    subst (λ hs. AreLinked (heads_for c.args.places) (replicate c.args.places None) (record { nexts = c.loop-place.nexts.items; heads = hs; free = c.loop-place.free; taken = 0 })) (sym c.in_ok-heads.ensures)
    (begun c.args.places c.head_count.result c.loop-place.free c.loop-place.nexts.items c.requires c.head_count.ensures.some c.head_count.ensures.heads (subst (λ n. Linked c.loop-place.nexts.items c.loop-place.free n) all c.loop-place.invariant))
