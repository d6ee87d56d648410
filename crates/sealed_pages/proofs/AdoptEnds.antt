-- An opened blob that is not adopted.
use Rattle.std.proofs.Common.{◌≤◌, ℕ, List, Result, Ok, Err}
use Rattle.std.specs.Prelude.{OnErr}
use Rattle.std.specs.Result.{IsErr}
use Rattle.blob_device.specs.Disk.{Key}
use Rattle.blob_device.specs.declared.device.Device as device
use Rattle.blob_device.specs.declared.runtime.RError.{RError}
use Rattle.sealed_pages.specs.declared.pages.Pages.{Pages}
use Rattle.sealed_pages.specs.Adopts.{Adopts}
use Rattle.sealed_pages.specs.Buffer.{Buffer}
use Rattle.sealed_pages.specs.Calls.{FailsBelow}
use Rattle.sealed_pages.specs.Reading.{Unchanged, OnlyRead}

module _ {D : Type 0} (dev : device.Ghosts D) (seal : List ℕ → ℕ) (blob : Key) (pages : Pages) {B : Type 0} (see : B → Buffer) (n most : ℕ) where
  pub adopt_failed : (old new : D) (r : Result B RError) → IsErr r → (dev.Tells → Unchanged (dev.time old) (dev.time new)) → OnlyRead blob (dev.opened old) (dev.opened new) → dev.faults old ≤ dev.faults new → OnErr r (FailsBelow dev r old new)
      → Adopts dev seal blob pages old new see n most r
  adopt_failed old new (Ok v) is unchanged read later cause = absurd (cc is)
  adopt_failed old new (Err e) is unchanged read later cause = record {
    size = λ t. tt;
    backed = λ t. tt;
    sealed = λ t rest whole. tt;
    unrecovered = λ t rest less. tt;
    adopted = λ t rest. tt;
    leftover = λ t. tt;
    known = λ t rest. tt;
    cache = tt;
    cache_pages = tt;
    unchanged = unchanged;
    settled = tt;
    key = tt;
    page_size = tt;
    capacity = tt;
    end = tt;
    «open» = tt;
    entries = read;
    faults = later;
    cause = cause;
  }
