-- What an image has of a blob that is there.
use Rattle.std.proofs.Common.{◌≡◌, ℕ, Bool, cond, List, [], None, Some, unwrap_or, true, ap}
use Rattle.blob_device.specs.Disk.{Disk}
use Rattle.section_manager.specs.Sections.{section_key}
use Rattle.paired.specs.Kept.{content_at}
use Rattle.paired.specs.Opening.{as_read}

-- what stands in a blob that is there, and nothing where none is
pub content_there : (d : Disk) (partition : List ℕ) (s : ℕ) → (d (section_key partition s)).there ≡ true → content_at (as_read d) partition s ≡ (d (section_key partition s)).content
content_there d partition s there = ap (λ (b : Bool). unwrap_or (cond b (Some (d (section_key partition s)).content) None) []) there
