-- A new tag is the outermost, has its VLAN id and its priority, and is taken off again.
use Rattle.std.proofs.Common.{◌≡◌, ◌∙◌, ◌<◌, ◌+◌, ◌*◌, ◌/◌, ◌%◌, ℕ, List, ◌++◌, length, ap, false, inl, inr, arith}
use Rattle.std.specs.Prelude.{◌==◌, if◌then◌else◌, Some, None}
use Rattle.std.proofs.lemmas.Bool.Decides.{eqb_tells}
use Rattle.policy_text.specs.declared.seen.TagSeen.TheVariants.{Bare, Id}
use Rattle.frame_seen.specs.Seeing.{vlan_id, outermost}
use Rattle.nf_mark.specs.TaggerLines.{control_of}
use Rattle.nf_mark.specs.Taggers.{tag_of, tagged}
use Rattle.nf_mark.specs.Untaggers.{untagged}

not_empty : (tags : List ℕ) → 0 < length tags → (length tags == 0) ≡ false
not_empty tags some = elim (eqb_tells (length tags) 0) [ inl same ↦ absurd (let none : length tags ≡ 0 = same.1 in omega arith) | inr other ↦ other.0 ]

has_four : (control : ℕ) (tags : List ℕ) → 0 < length (tag_of control ++ tags)
has_four control tags = omega arith

-- the two bytes of the control information are read as they were written
read_back : (control : ℕ) → control < 65536 → (control / 256 % 256) * 256 + control % 256 ≡ control
read_back control small = omega arith

low_bits : (vid priority : ℕ) → vid < 4096 → control_of vid priority % 4096 ≡ vid
low_bits vid priority small = omega arith

has_id : (vid priority : ℕ) (tags : List ℕ) → vid < 4096 → control_of vid priority < 65536 → vlan_id (tag_of (control_of vid priority) ++ tags) ≡ vid
has_id vid priority tags id small = omega (arith, read_back (control_of vid priority) small, low_bits vid priority id)

pub high_bits : (vid priority : ℕ) → vid < 4096 → control_of vid priority / 8192 ≡ priority
high_bits vid priority small = omega arith

pub seen_id : (vid priority : ℕ) (tags : List ℕ) → vid < 4096 → priority < 8 → outermost (tag_of (control_of vid priority) ++ tags) ≡ Id vid
seen_id vid priority tags id high =
    let new = tag_of (control_of vid priority) ++ tags in
    let small : control_of vid priority < 65536 = omega arith in
    ap (λ b. if b then Bare else Id (vlan_id new)) (not_empty new (has_four (control_of vid priority) tags))
    ∙ ap Id (has_id vid priority tags id small)

pub taken_off : (control : ℕ) (tags : List ℕ) → untagged (tagged (Some control) (Some tags)) ≡ Some tags
taken_off control tags = ap (λ b. if b then None else Some tags) (not_empty (tag_of control ++ tags) (has_four control tags))
