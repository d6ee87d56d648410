-- The parts of a replay of a pair, as the program has them, against what it shows.
use Rattle.std.specs.Prelude.{◌≡◌, ℕ, Bool, Option, None, Some, IsSomeAnd, IfSome, Result, Ok, Err, IfOk}
use Rattle.std.proofs.Common.{refl, ap, subst}
use Rattle.blob_device.specs.Disk.{Disk}
use Rattle.blob_device.specs.Opened.{OpenedList}
use Rattle.sealed_pages.specs.declared.page_blob.PageBlob.{PageBlob}
use Rattle.section_manager.specs.declared.unsealed.WriteFactory.{WriteFactory}
use Rattle.section_manager.specs.Setting.{Setting}
use Rattle.section_manager.specs.managing.Managed as manager
use Rattle.segments.specs.FixedReplay.{Walk, SameWalk}
use Rattle.paired.specs.declared.oversized.replaying.Replay.{Replay}
use Rattle.paired.specs.declared.glob.recovery.Recovery.{Recovery}
use Rattle.paired.specs.glob.Sections.{IsGlob}
use Rattle.paired.specs.ReplayShown.{limits_of}
use Rattle.paired.specs.Replaying.{Limits, Run, HasFailed, SameRun, Sorts}
use Rattle.paired.specs.lemmas.Glob.{buffers}
use Rattle.paired.specs.lemmas.next.Running.{moved}

pub same_moved : {F B : Type 0} (run : Run F B) (w : Walk F B) (ends : Limits) (ended : Option ℕ) (failed : Bool) → SameWalk run.walk w → (HasFailed run → HasFailed (moved run w ends ended failed)) → SameRun run (moved run w ends ended failed)
same_moved run w ends ended failed same later = record {
  layout = record { index = refl; values = refl; marked = refl; metadata = refl; page_size = refl };
  walk = same;
  values = refl;
  store = refl;
  trailing = refl;
  tracked = refl;
  later = later;
}

-- what a record was sorted by, of the ends alone
pub sorts_as : {F S T E : Type 0} {gs : _} (m n : Run F (PageBlob S gs)) (ended : Option ℕ) (d : Disk) (s p : ℕ) (location : ℕ × ℕ) (Kept : T → Type 0) (r : Result T E) → IfOk r (λ y. Sorts m n d s p location (Kept y))
    → IfOk r (λ y. Sorts m (record m { ends = n.ends; ended_section = ended }) d s p location (Kept y))
sorts_as m n ended d s p location Kept (Ok y) has = record { kept = has.kept; goes_on = has.goes_on; ends = has.ends; ended = has.ended; others = has.others; value = has.value; other_values = has.other_values }
sorts_as m n ended d s p location Kept (Err x) has = has

-- an opened blob is there
pub open_there : {A : Type 0} (o : Option A) (P R : A → Type 0) (Q : Type 0) → IsSomeAnd o P → IfSome o (λ x. Q × R x) → Q
open_there None P R Q has also = absurd has
open_there (Some x) P R Q has also = also.0

module _ {V S C : Type 0} {r q : Recovery V S C} (same : q ≡ r) where
  pub glob_as : (takes : WriteFactory → Setting) (told : Type 0) (opened : OpenedList) (d : Disk) → IsGlob buffers takes told (manager.shown q.manager) opened d → IsGlob buffers takes told (manager.shown r.manager) opened d
  glob_as takes told opened d is = subst (λ (x : Recovery V S C). IsGlob buffers takes told (manager.shown x.manager) opened d) same is

  pub config_as : q.codec_config ≡ r.codec_config
  config_as = ap (λ (x : Recovery V S C). x.codec_config) same

module _ {I V S C : Type 0} {fixed codec seal : _} {r q : Replay I V S C fixed codec seal} (same : q ≡ r) where
  pub ends_as : limits_of q.ends ≡ limits_of r.ends
  ends_as = ap (λ (x : Replay I V S C fixed codec seal). limits_of x.ends) same

  pub section_as : q.ended_section ≡ r.ended_section
  section_as = ap (λ (x : Replay I V S C fixed codec seal). x.ended_section) same
