-- A state that has no line more has no key more.
use Rattle.std.proofs.Common.{◌≡◌, ◌∙◌, ℕ, length, Option, Some, sym, ap}
use Rattle.first_sight.proofs.Telling.{rows_counted}
use Rattle.nf_translate.specs.Balancers.{PlainBalancer}
use Rattle.nf_translate.specs.Clients.{with_client}
use Rattle.nf_translate.specs.Endpoints.{with_endpoint}
use Rattle.nf_translate.specs.Nats.{PlainNat, leaving}
use Rattle.nf_translate.specs.StateRows.{flow_rows, mapping_rows}
use Rattle.nf_translate.specs.declared.client.Client.{Client}
use Rattle.nf_translate.specs.declared.endpoint.Endpoint.{Endpoint}

pub no_new_flow : (b : PlainBalancer) (flow : Client) → length (flow_rows (record b { flows = with_client b.flows flow })) ≡ length (flow_rows b) →
    length (with_client b.flows flow) ≡ length b.flows
no_new_flow b flow as_many = sym (rows_counted _ (with_client b.flows flow)) ∙ as_many ∙ rows_counted _ b.flows

pub no_new_mapping : (n : PlainNat) (source : Endpoint) (port : Option ℕ) (p : ℕ) → port ≡ Some p → length (mapping_rows (leaving n source port).after) ≡ length (mapping_rows n) →
    length (with_endpoint n.mappings source) ≡ length n.mappings
no_new_mapping n source port p is as_many =
    sym (rows_counted _ (with_endpoint n.mappings source)) ∙ ap (λ found. length (mapping_rows (leaving n source found).after)) (sym is) ∙ as_many ∙ rows_counted _ n.mappings
