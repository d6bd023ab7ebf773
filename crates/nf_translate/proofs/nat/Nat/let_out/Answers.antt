use Rattle.std.proofs.Common.{◌≡◌, ◌∙◌, length, ap, subst, sym, true≢false}
use Rattle.nf_translate.specs.Endpoints.{place_of, with_endpoint}
use Rattle.nf_translate.specs.Nats.{PlainNat, port_at}
use Rattle.nf_translate.proofs.NoNewKey.{no_new_mapping}
use Rattle.nf_translate.proofs.nat.Nat.let_out.Goals as goal

pub returns-in_err-note-clause-known : goal.returns-in_err-note-clause-known
returns-in_err-note-clause-known c = λ as_many.
    absurd (true≢false (sym (c.in_err-note.ensures.known
    (subst (λ (n : PlainNat). length (with_endpoint n.mappings c.args.source) ≡ length n.mappings) (sym c.self.view_is)
    (no_new_mapping c.args.self.now c.args.source _ c.in-Some.port
    (ap (λ (n : PlainNat). port_at n.settings (place_of n.mappings c.args.source)) (sym c.self.view_is) ∙ ap (port_at c.self.inside.settings) (sym c.place-place.ensures) ∙ sym c.port_at.ensures ∙ c.in-Some.is)
    as_many)))))
