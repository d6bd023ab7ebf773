use Rattle.std.proofs.Common.{◌∙◌, sym}
use Rattle.why_account.proofs.Noting.{chain_unmoved}
use Rattle.why_account.proofs.chain.ChainAccount.note.Goals as goal

pub returns-else-is_class : goal.returns-else-is_class
returns-else-is_class c = λ number chain ways way keeps class are was.
    chain_unmoved number chain ways way keeps c.args.class c.args.acts.now c.args.self.now class was (sym c.if-is_class.false ∙ c.is_class.ensures)
