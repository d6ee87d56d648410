use Rattle.sealed_pages.specs.lemmas.Entries.{open_entered}
use Rattle.segments_tests.proofs.buffers.settled_size.Goals as goal

pub create-requires : goal.create-requires
create-requires g c = record { «open» = open_entered _ _ _ _ c.in_ok-size.ensures.opened }
