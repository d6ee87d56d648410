use Rattle.std.proofs.Common.{◌≡◌, ◌++◌}
use Rattle.blob_device.specs.NameList.{names_of}
use Rattle.blob_device.specs.NamesThere.{there_in}
use Rattle.blob_device.proofs.memory.logs.there_names.Given as goal

abbrev pub invariant-loop-name : goal.invariant-loop-name
invariant-loop-name l = names_of l.there.items ++ there_in l.name-iterator ≡ there_in l.names.entries
