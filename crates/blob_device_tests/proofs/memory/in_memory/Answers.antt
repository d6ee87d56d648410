use Rattle.blob_device.specs.MemoryMeaning.{memory_opened}
use Rattle.blob_device_tests.proofs.HeldLemmas.{list_stays}
use Rattle.blob_device_tests.proofs.memory.in_memory.Goals as goal

pub returns-then-branch : goal.returns-then-branch
returns-then-branch c = list_stays c.args.held (memory_opened c.args.dev.now) (memory_opened c.plan.new.dev) c.plan.ensures c.requires

pub carried_out-requires : goal.carried_out-requires
carried_out-requires c = list_stays c.args.held (memory_opened c.args.dev.now) (memory_opened c.plan.new.dev) c.plan.ensures c.requires
