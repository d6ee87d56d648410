use Rattle.std.proofs.Common.{◌≡◌, take}
use Rattle.std.specs.List.{Contains}
use Rattle.section_manager.specs.managing.Managed.{shown}
use Rattle.paired.proofs.ValuesRemoved.{ValuesGone}
use Rattle.paired.proofs.oversized.recovery.remove_values.Given as goal

abbrev pub invariant-loop-section : goal.invariant-loop-section
invariant-loop-section g l = record {
  gone : ValuesGone (shown l.fn.values.manager) (shown l.values.manager) (λ f. record { page_size = 1; capacity = f.capacity; cache_pages = 0 }) g.D.Device.Tells g.D.Device.time g.D.Device.opened g.D.Device.faults (Contains l.sections) (take l.section-index l.sections) l.fn.dev l.dev;
  codec : l.values.codec_config ≡ l.fn.values.codec_config;
}
