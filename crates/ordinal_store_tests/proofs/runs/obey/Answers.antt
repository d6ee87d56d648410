use Rattle.std.proofs.Common.{◌≡◌, ℕ, Option, Some, None, sym, subst}
use Rattle.value_codec.specs.declared.seal.Sha256Seal.{Sha256Seal}
use Rattle.value_codec.specs.contracts.numbers.U64Codec.TheImpl as number
use Rattle.value_codec.specs.contracts.seal.Sha256SealSeal.TheImpl as sealing
use Rattle.blob_device.specs.declared.memory.Memory.{Memory}
use Rattle.blob_device.specs.MemoryMeaning.{memory_opened, memory_time}
use Rattle.blob_device.specs.Opened.{OpenedList}
use Rattle.blob_device.specs.Timeline.{Timeline, disk}
use Rattle.ordinal_store.specs.Shown.{shown}
use Rattle.ordinal_store.specs.Stores.{IsUsable}
use Rattle.ordinal_store.specs.declared.store.Ordinal.{Ordinal}
use Rattle.ordinal_store_tests.specs.Over.{MayBeOver}
use Rattle.ordinal_store_tests.proofs.runs.obey.Goals as goal

abbrev at : Ordinal ℕ Sha256Seal → OpenedList → Timeline → Type 0
at o opened time = IsUsable (shown 8 sealing.ghosts.seal_of number.ghosts.refusal o) (Unit {0}) opened (disk time)

-- where neither the list of opened blobs nor the disk changes, the store may be used as before
stays : (store : Option (Ordinal ℕ Sha256Seal)) (old new : Memory) → memory_opened new ≡ memory_opened old → memory_time new ≡ memory_time old → MayBeOver store old → MayBeOver store new
stays None old new opened time over = over
stays (Some o) old new opened time over = subst (λ (x : OpenedList). at o x (memory_time new)) (sym opened) (subst (at o (memory_opened old)) (sym time) over)

pub returns-in-Arm : goal.returns-in-Arm
returns-in-Arm c = stays c.args.store.now c.args.dev.now c.arm.new.dev c.arm.ensures.opened c.arm.ensures.time c.requires
