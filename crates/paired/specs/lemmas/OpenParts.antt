-- Two partitions have no blob in common.
use Rattle.std.specs.Prelude.{◌≢◌, ℕ, List}
use Rattle.std.proofs.Common.{sym, ap}
use Rattle.blob_device.specs.Disk.{Key}
use Rattle.section_manager.specs.Sections.{section_key}

-- no section of the one partition has the blob of one of the other
pub keys_apart : (i v : List ℕ) → i ≢ v → (s t : ℕ) → section_key v s ≢ section_key i t
keys_apart i v differ s t same = differ (sym (ap (λ (k : Key). k.0) same))
