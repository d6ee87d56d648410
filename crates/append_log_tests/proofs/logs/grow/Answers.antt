use Rattle.std.proofs.Common.{[], ◌∷◌}
use Rattle.blob_device.specs.MemoryMeaning.{memory_time}
use Rattle.append_log_tests.proofs.OpenedLemmas.{opened_holds}
use Rattle.append_log_tests.proofs.logs.grow.Goals as goal

pub append_all-requires : goal.append_all-requires
append_all-requires c t = opened_holds (112 ∷ [], 108 ∷ 111 ∷ 103 ∷ []) _ (memory_time c.args.dev.now) (memory_time c.open_blob.new.self) c.in-Ok.ensures.told
