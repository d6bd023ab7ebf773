use Rattle.std.proofs.Common.{◌∙◌, nat_eq, rules}
use Rattle.first_sight.proofs.Sameness.{as_numbers}
use Rattle.first_sight.proofs.address.same_octets.Goals as goal

pub returns : goal.returns
returns c =
    (λ i. nat_eq (c.from_be_bytes.ensures i) (c.from_be_bytes-2.ensures i))
    ∙ as_numbers c.args.a c.args.b (search rules) (search rules) (search rules) (search rules)
