-- The ways to put a record: how a line names each, and which command it is.
use Rattle.std.specs.Prelude.{ℕ, List, codes}
use Rattle.archives.specs.Commands.{Put, PutSync, PutStart, Multi, MultiSync, MultiStart}
use Rattle.archive_service.specs.Texts.{Spelled}
use Rattle.archive_service.specs.declared.script.Putting.{Putting}
use Rattle.archive_service.specs.declared.script.Putting.TheVariants as way

abbrev pub name_of : Putting → List ℕ
name_of way.Put = codes "put"
name_of way.PutSync = codes "putsync"
name_of way.PutStart = codes "putstart"
name_of way.Multi = codes "multi"
name_of way.MultiSync = codes "multisync"
name_of way.MultiStart = codes "multistart"

abbrev pub command_of : Putting → ℕ → List ℕ → List ℕ → Spelled
command_of way.Put index key value = Put index key value
command_of way.PutSync index key value = PutSync index key value
command_of way.PutStart index key value = PutStart index key value
command_of way.Multi index key value = Multi index key value
command_of way.MultiSync index key value = MultiSync index key value
command_of way.MultiStart index key value = MultiStart index key value
