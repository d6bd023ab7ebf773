-- One function of a branch, as the law of graphs sees it.
use Rattle.std.proofs.Common.{◌≡◌, ◌∙◌, ℕ, ap}
use Rattle.std.specs.Prelude.{if◌then◌else◌}
use Rattle.action_profile.specs.declared.rights.Profile.{Profile}
use Rattle.packet_version.specs.Views.{PlainView, viewed, wrote_all}
use Rattle.chain_walk.specs.Step.{Behaviour, stepped, is_drop}
use Rattle.chain_walk.specs.Laws.{KeepsProfile}
use Rattle.chain_walk.specs.declared.verdict.Verdict.TheVariants.{Pass, Drop}
use Rattle.graph_law.specs.Branches.{BranchEnd.Live, BranchEnd.Nil, moved_function, moved_end, written_at}
use Rattle.packet_version.specs.Versions.{PlainVersion}
use Rattle.graph_run.specs.Carrying.{as_version}
use Rattle.graph_run.proofs.Writing.{as_wrote}
use Rattle.graph_run.proofs.Carried.{only_there}

-- what the function at this position sees of a version
abbrev pub seen_at : ℕ → Profile → PlainVersion → PlainView
seen_at q p v = record { version = v; profile = p; position = q }

pub function_moved : {F : Type 0} (b : Behaviour F) (q : ℕ) (p : Profile) (f after : F) (v : PlainVersion) (view : PlainView) → view ≡ seen_at q p v → after ≡ (viewed b f view).after → after ≡ moved_function b v.fixed f (Live (as_version v))
unfolding moved_function
function_moved b q p f after v view sees is = is ∙ ap (λ w. (viewed b f w).after) sees

pub passes : {F : Type 0} (b : Behaviour F) (q : ℕ) (p : Profile) (f : F) (v after : PlainVersion) (view left : PlainView) → KeepsProfile b → view ≡ seen_at q p v → Pass ≡ (viewed b f view).verdict →
    left ≡ wrote_all (viewed b f view).written view → after ≡ left.version → Live (as_version after) ≡ moved_end b v.fixed q f (Live (as_version v))
unfolding moved_end
passes b q p f v after view left keeps sees decided wrote ends =
    ap (λ x. Live (as_version x)) (ends ∙ ap (λ w. w.version) wrote ∙ ap (λ w. (wrote_all (viewed b f w).written w).version) sees)
    ∙ ap (λ x. Live x) (as_wrote q (stepped b v.fixed f (as_version v).values).written v (only_there b v.fixed f v keeps))
    ∙ ap (λ verdict. if is_drop verdict then Nil q else Live (written_at q (stepped b v.fixed f (as_version v).values).written (as_version v))) (decided ∙ ap (λ w. (viewed b f w).verdict) sees)

pub drops : {F : Type 0} (b : Behaviour F) (q : ℕ) (p : Profile) (f : F) (v : PlainVersion) (view : PlainView) → view ≡ seen_at q p v → Drop ≡ (viewed b f view).verdict → Nil q ≡ moved_end b v.fixed q f (Live (as_version v))
unfolding moved_end
drops b q p f v view sees decided = ap (λ verdict. if is_drop verdict then Nil q else Live (written_at q (stepped b v.fixed f (as_version v).values).written (as_version v))) (decided ∙ ap (λ w. (viewed b f w).verdict) sees)
