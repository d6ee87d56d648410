use Rattle.std.proofs.Common.{◌≡◌, ℕ, Option, Some, None, sym, subst}
use Rattle.std.specs.Prelude.{IfSome}
use Rattle.value_codec.specs.declared.key.Key8.{Key8}
use Rattle.value_codec.specs.declared.seal.Sha256Seal.{Sha256Seal}
use Rattle.blob_device.specs.declared.memory.Memory.{Memory}
use Rattle.blob_device.specs.MemoryMeaning.{memory_opened}
use Rattle.meta_store.specs.declared.metadata.Metadata.{Metadata}
use Rattle.meta_store.specs.Calls.{IsOpened}
use Rattle.meta_store.specs.Store.{shown}
use Rattle.meta_store_tests.specs.Over.{IsOver}
use Rattle.meta_store_tests.proofs.session.carried_out.Goals as goal

-- where the list of opened blobs stays, the map is as it was
stays : (map : Option (Metadata Key8 ℕ Sha256Seal (Unit {0}))) (old new : Memory) → memory_opened new ≡ memory_opened old → IfSome map (λ m. IsOver m old) → IfSome map (λ m. IsOver m new)
stays None old new same over = over
stays (Some m) old new same over = record { storable = over.storable; opened = subst (IsOpened (shown m).partition) (sym same) over.opened }

pub returns-then-branch : goal.returns-then-branch
returns-then-branch c = stays c.args.map c.args.dev.now c.plan.new.dev c.plan.ensures c.requires

pub on_map-requires : goal.on_map-requires
on_map-requires c = stays c.args.map c.args.dev.now c.plan.new.dev c.plan.ensures c.requires
