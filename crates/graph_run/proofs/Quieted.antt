-- One function of a branch, without its counting, as the law of graphs sees it.
use Rattle.std.proofs.Common.{◌≡◌, ◌∙◌, ℕ, Bool, true, false, refl, sym, ap}
use Rattle.std.specs.Prelude.{if◌then◌else◌, Option, None}
use Rattle.packet_version.specs.Views.{PlainView, viewed, wrote_all, seen_values}
use Rattle.action_profile.specs.declared.rights.Profile.{Profile}
use Rattle.chain_walk.specs.Counting.{quiet, idle}
use Rattle.chain_walk.specs.Laws.{KeepsProfile}
use Rattle.chain_walk.specs.Notes.{Notes, noted}
use Rattle.chain_walk.specs.Shown.{shown_by}
use Rattle.chain_walk.specs.Step.{Behaviour, Step, stepped, nothing}
use Rattle.chain_walk.specs.declared.verdict.Verdict.TheVariants.{Pass, Drop}
use Rattle.graph_law.specs.Branches.{BranchEnd.Live, moved_function, moved_end}
use Rattle.packet_version.specs.Versions.{PlainVersion}
use Rattle.merge_ops.specs.declared.arrival.Arrival.{Arrival}
use Rattle.merge_ops.specs.declared.arrival.Arrival.TheVariants as came
use Rattle.graph_run.specs.Carrying.{as_version, as_branch_end}
use Rattle.graph_run.specs.Staging.{IsWhatWasWritten}
use Rattle.graph_run.proofs.Stepped.{seen_at, function_moved, passes, drops}

-- the result for a version at one function, and what the function noted
pub record Acts {F N : Type 0} (b : Behaviour F) (notes : Notes F N) (q : ℕ) (f after : F) (v : PlainVersion) (arrives : Arrival) (note : Option N) : Type 0 where
  pub function : after ≡ moved_function (quiet b) v.fixed f (Live (as_version v))
  pub arrival : as_branch_end arrives ≡ moved_end (quiet b) v.fixed q f (Live (as_version v))
  pub written : IsWhatWasWritten q (stepped (quiet b) v.fixed f (as_version v).values).written v arrives
  pub is_noted : note ≡ noted b notes v.fixed f (as_version v).values

-- a function that doesn't count does what it did
acts_so : {F : Type 0} (b : Behaviour F) (f : F) (view : PlainView) → (b.profile f).counts ≡ false → viewed b f view ≡ viewed (quiet b) f view
acts_so {F} b f view e = sym (ap (λ (t : Bool). if t then idle f else viewed b f view) e)

-- and one that counts does nothing
idles : {F : Type 0} (b : Behaviour F) (f : F) (view : PlainView) → (b.profile f).counts ≡ true → idle f ≡ viewed (quiet b) f view
idles {F} b f view e = sym (ap (λ (t : Bool). if t then idle f else viewed b f view) e)

unnoted : {F N : Type 0} (b : Behaviour F) (notes : Notes F N) (f : F) (v : PlainVersion) → (b.profile f).counts ≡ false → None ≡ noted b notes v.fixed f (as_version v).values
unnoted {F} {N} b notes f v e = sym (ap (λ (t : Bool). if t then notes.look f (shown_by (b.profile f) v.fixed (as_version v).values) else None) e)

-- a function that passes the packet, by its step
passed : {F N : Type 0} (b : Behaviour F) (notes : Notes F N) (q : ℕ) (p : Profile) (f after : F) (v left : PlainVersion) (view wrote : PlainView) (note : Option N) (s : Step F) → KeepsProfile (quiet b) → s ≡ viewed (quiet b) f view →
    view ≡ seen_at q p v → Pass ≡ s.verdict → after ≡ s.after → wrote ≡ wrote_all s.written view → left ≡ wrote.version → note ≡ noted b notes v.fixed f (as_version v).values → Acts b notes q f after v (came.Version left) note
passed b notes q p f after v left view wrote made s keeps is sees decided moved writes ends notes_so =
    let written = writes ∙ ap (λ x. wrote_all x.written view) is in
    record {
      function = function_moved (quiet b) q p f after v view sees (moved ∙ ap (λ x. x.after) is);
      arrival = passes (quiet b) q p f v left view wrote keeps sees (decided ∙ ap (λ x. x.verdict) is) written ends;
      written = ends ∙ ap (λ w. w.version) written ∙ ap (λ w. (wrote_all (viewed (quiet b) f w).written w).version) sees;
      is_noted = notes_so;
    }

pub acts : {F N : Type 0} (b : Behaviour F) (notes : Notes F N) (q : ℕ) (p : Profile) (f after : F) (v left : PlainVersion) (view wrote : PlainView) → KeepsProfile (quiet b) → p ≡ b.profile f → p.counts ≡ false →
    view ≡ seen_at q p v → Pass ≡ (viewed b f view).verdict → after ≡ (viewed b f view).after → wrote ≡ wrote_all (viewed b f view).written view → left ≡ wrote.version → Acts b notes q f after v (came.Version left) None
acts b notes q p f after v left view wrote keeps is counts sees decided moved writes ends =
    let e = ap (λ x. x.counts) (sym is) ∙ counts in
    passed b notes q p f after v left view wrote None (viewed b f view) keeps (acts_so b f view e) sees decided moved writes ends (unnoted b notes f v e)

pub drops_it : {F N : Type 0} (b : Behaviour F) (notes : Notes F N) (q : ℕ) (p : Profile) (f after : F) (v : PlainVersion) (view : PlainView) → p ≡ b.profile f → p.counts ≡ false →
    view ≡ seen_at q p v → Drop ≡ (viewed b f view).verdict → after ≡ (viewed b f view).after → Acts b notes q f after v (came.Nil q) None
drops_it b notes q p f after v view is counts sees decided moved =
    let e = ap (λ x. x.counts) (sym is) ∙ counts in
    let so = acts_so b f view e in
    record {
      function = function_moved (quiet b) q p f after v view sees (moved ∙ ap (λ x. x.after) so);
      arrival = drops (quiet b) q p f v view sees (decided ∙ ap (λ x. x.verdict) so);
      written = tt;
      is_noted = unnoted b notes f v e;
    }

pub looks : {F N : Type 0} (b : Behaviour F) (notes : Notes F N) (q : ℕ) (p : Profile) (f : F) (v left : PlainVersion) (view : PlainView) (note : Option N) → KeepsProfile (quiet b) → p ≡ b.profile f → p.counts ≡ true →
    view ≡ seen_at q p v → wrote_all nothing view ≡ view → left ≡ view.version → note ≡ noted b notes view.version.fixed f (seen_values view) → Acts b notes q f f v (came.Version left) note
looks b notes q p f v left view note keeps is counts sees same ends notes_so =
    let e = ap (λ x. x.counts) (sym is) ∙ counts in
    passed b notes q p f f v left view view note (idle f) keeps (idles b f view e) sees refl refl (sym same) ends (notes_so ∙ ap (λ w. noted b notes w.version.fixed f (seen_values w)) sees)
