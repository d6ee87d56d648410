-- A log that was opened holds what it reads as.
use Rattle.std.proofs.Common.{ℕ, [], Ok, sym, subst, cond}
use Rattle.blob_device.specs.Change.{Make}
use Rattle.blob_device.specs.Disk.{Key, Blob}
use Rattle.blob_device.specs.Timeline.{Timeline, disk, Passes}
use Rattle.blob_device.specs.lemmas.Moments.{ok_blob}
use Rattle.append_log.specs.Appended.{Holds}
use Rattle.append_log.specs.lemmas.Appended.{holds_settled}

pub opened_holds : (k : Key) (len : ℕ) (before after : Timeline) → Passes {T = ℕ} k Make (Ok len) before after → Holds (disk after k).content (disk after k)
opened_holds k len before after opening =
    subst (λ (b : Blob). Holds b.content b) (sym (ok_blob k Make len before after opening)) (holds_settled (cond (disk before k).there (disk before k).content []))
