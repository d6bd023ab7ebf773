-- Believed: what a desk over files holds at the end of a run, and that its files are apart.
use Rattle.std.specs.Prelude.{ℕ, List, Bool, Option}
use Rattle.file_desk.specs.declared.files.FileDesk.{FileDesk}
use Rattle.file_desk.specs.declared.identity.Identity.{Identity}
use Rattle.file_desk.specs.Port.{IsWritten, IsSynced, input_identity, output_identity}
use Rattle.file_desk.specs.Apart.{Differ}

-- no write failed, and the files of Out and Report, if they are attached, hold what was put into them, and nothing else
pub record IsAllWritten {S I O : Type 0} (contents : O → Option (List ℕ)) (desk : FileDesk S I O) : Type 0 where
  pub out : IsWritten contents desk.out
  pub report : IsWritten contents desk.report

-- all that the files of Out and Report hold, if they are attached, was brought to the disk, unless a call on the slot has failed
pub record IsAllSynced {S I O : Type 0} (on_disk : O → Bool) (desk : FileDesk S I O) : Type 0 where
  pub out : IsSynced on_disk desk.out
  pub report : IsSynced on_disk desk.report

-- a file is none of the files that are attached
pub record IsApart {S I O : Type 0} (input : I → Option Identity) (output : O → Option Identity) (file : Option Identity) (desk : FileDesk S I O) : Type 0 where
  pub from_policy : Differ file (input_identity input desk.policy)
  pub from_capture : Differ file (input_identity input desk.capture)
  pub from_graph : Differ file (input_identity input desk.graph)
  pub from_out : Differ file (output_identity output desk.out)
  pub from_report : Differ file (output_identity output desk.report)
