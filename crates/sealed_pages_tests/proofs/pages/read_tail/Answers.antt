use Rattle.std.proofs.Common.{[], ◌∷◌}
use Rattle.blob_device.specs.MemoryMeaning.{memory_opened}
use Rattle.sealed_pages.specs.lemmas.Entries.{open_entered, open_some}
use Rattle.sealed_pages_tests.proofs.pages.read_tail.Goals as goal

pub read_tail-requires-clause-open : goal.read_tail-requires-clause-open
read_tail-requires-clause-open c =
    open_some (memory_opened c.open_blob.new.self) (112 ∷ [], 120 ∷ []) c.in_ok-open_blob.field-0
    (open_entered (112 ∷ [], 120 ∷ []) (memory_opened c.args.dev.now) (memory_opened c.open_blob.new.self) c.in_ok-open_blob.field-0 c.in_ok-open_blob.ensures.opened)
