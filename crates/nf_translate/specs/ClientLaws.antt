-- For proofs: to be the same client is an equivalence.
use Rattle.std.specs.Prelude.{◌≡◌, ◌==◌, ◌&&◌, ◌++◌, true}
use Rattle.std.proofs.Common.{ap, ◌∙◌}
use Rattle.std.specs.Cmp.{IsEquivalence, first_so, second_so}
use Rattle.std.specs.Hash.{HashWrites}
use Rattle.std.specs.Hash as fed
use Rattle.std.proofs.lemmas.Bool.{eqb-true}
use Rattle.first_sight.specs.SameAddress.{is_same_address}
use Rattle.first_sight.specs.HashedAddress.{endpoint_writes, same_endpoint_fed}
use Rattle.std.proofs.lemmas.Cmp.{and_equiv, on_equiv, nat_eq_equiv}
use Rattle.first_sight.specs.SameAddressLaws.{same_address}
use Rattle.nf_translate.specs.Clients.{is_same}
use Rattle.nf_translate.specs.declared.client.Client.{Client}

pub same_client : IsEquivalence is_same
same_client = and_equiv (on_equiv (λ (c : Client). c.proto) nat_eq_equiv) (and_equiv (on_equiv (λ (c : Client). c.address) same_address) (on_equiv (λ (c : Client). c.port) nat_eq_equiv))

-- what a hasher is fed for a client
abbrev pub client_writes : Client → HashWrites
client_writes c = fed.u8 c.proto ++ endpoint_writes c.address c.port

pub client_alike : (a b : Client) → is_same a b ≡ true → client_writes a ≡ client_writes b
client_alike a b same =
    ap (λ proto. fed.u8 proto ++ endpoint_writes a.address a.port) (eqb-true a.proto b.proto (first_so (a.proto == b.proto) (is_same_address a.address b.address && a.port == b.port) same))
    ∙ ap (λ writes. fed.u8 b.proto ++ writes) (end_alike (second_so (a.proto == b.proto) (is_same_address a.address b.address && a.port == b.port) same))
  where
    end_alike : is_same_address a.address b.address && a.port == b.port ≡ true → endpoint_writes a.address a.port ≡ endpoint_writes b.address b.port
    end_alike h =
        same_endpoint_fed a.address b.address a.port (first_so (is_same_address a.address b.address) (a.port == b.port) h)
        ∙ ap (λ port. endpoint_writes b.address port) (eqb-true a.port b.port (second_so (is_same_address a.address b.address) (a.port == b.port) h))
