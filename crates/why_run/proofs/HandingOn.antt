-- What a `?` passes on.
use Rattle.std.proofs.Common.{◌≡◌, sym, subst}
use Rattle.std.specs.Prelude.{Result, Ok, Err, IfErr, IsErrAnd}
use Rattle.capture_items.specs.declared.fault.RunFault.{RunFault}

pub handed_on : {T : Type 0} (r : Result T RunFault) (x : RunFault) (P : RunFault → Type 0) → IsErrAnd r (λ e. e ≡ x) → P x → IfErr r P
handed_on (Ok y) x P h p = tt
handed_on (Err e) x P h p = subst P (sym h) p
