use Rattle.std.proofs.Common.{ℕ, [], ◌∷◌, sym, subst}
use Rattle.blob_device.specs.Disk.{Key}
use Rattle.blob_device.specs.MemoryMeaning.{memory_opened}
use Rattle.sealed_pages.specs.Entries.{IsOpenAt}
use Rattle.sealed_pages.specs.lemmas.Entries.{open_entered}
use Rattle.sealed_pages_tests.proofs.unsealed.open.Goals as goal

pub returns : goal.returns
returns c =
    subst (λ (k : Key). IsOpenAt (memory_opened c.open_blob.new.self) k c.in_ok-blob.blob.end) (sym c.in_ok-blob.ensures.key)
    (subst (λ (n : ℕ). IsOpenAt (memory_opened c.open_blob.new.self) (112 ∷ [], 119 ∷ []) n) (sym c.in_ok-blob.ensures.end) (open_entered _ _ _ _ c.in_ok-size.ensures.opened))
