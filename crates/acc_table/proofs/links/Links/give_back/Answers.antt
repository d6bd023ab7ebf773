use Rattle.std.proofs.Common.{◌≡◌, ◌<◌, length, ap, ◌∙◌, arith, rules}
use Rattle.acc_table.proofs.Linking.{within}
use Rattle.acc_table.proofs.Freeing.{length-unlinking}
use Rattle.acc_table.proofs.links.Links.give_back.Goals as goal

pub unlink-requires-clause-place : goal.unlink-requires-clause-place
unlink-requires-clause-place c = within c.args.self.now.nexts _ c.requires.is_in.chain c.args.place c.requires.is_in.is c.requires.is_in.among

pub index_mut-requires : goal.index_mut-requires
index_mut-requires c =
    let h : c.args.place < length c.args.self.now.nexts = within c.args.self.now.nexts _ c.requires.is_in.chain c.args.place c.requires.is_in.is c.requires.is_in.among in
    let same : length c.self.inside.nexts.items ≡ length c.args.self.now.nexts = ap (λ l. length l.nexts) (c.self.view_is ∙ c.unlink.ensures) ∙ length-unlinking c.args.self.now c.bucket-bucket.result c.args.place c.before-before.result in
    let at : c.args.place < length c.self.inside.nexts.items = omega arith in
    search rules

pub overflow_cast-self : goal.overflow_cast-self
overflow_cast-self c =
    let h : c.args.place < length c.args.self.now.nexts = within c.args.self.now.nexts _ c.requires.is_in.chain c.args.place c.requires.is_in.is c.requires.is_in.among in
    let few = c.requires.is_in.few in
    search rules
