-- A history that the code holds tells a blob.
use Rattle.std.specs.Prelude.{◌≡◌}
use Rattle.blob_device.specs.declared.memory.history.History.{History}
use Rattle.blob_device.specs.Disk.{Blob, shortest, longest}

pub record IsHistory (h : History) (b : Blob) : Type 0 where
  pub is_there : h.there ≡ b.there
  pub is_unsure : h.unsure ≡ b.unsure
  pub reads_as : h.content.items ≡ b.content
  pub settled_as : h.settled.items ≡ b.settled
  pub least_is : h.shortest ≡ shortest b
  pub greatest_is : h.longest ≡ longest b
  pub loose_are : h.loose.items ≡ b.loose
