use Rattle.blob_device.specs.lemmas.Opened.{updated_open}
use Rattle.power_cut_tests.proofs.OpenLemmas.{room_for_none, written_open, resized_open}
use Rattle.power_cut_tests.proofs.calls.changed.Goals as goal

pub read_at-requires : goal.read_at-requires
read_at-requires g c = room_for_none _ c.requires

pub returns-in-Read : goal.returns-in-Read
returns-in-Read g c = updated_open _ _ _ _ c.read_at.ensures.opened c.requires

pub returns-else-is_none : goal.returns-else-is_none
returns-else-is_none g c = written_open _ _ _ _ c.requires _ c.write_at.result c.write_at.ensures.opened c.write_at.ensures.opened_err

pub returns-in-Resize : goal.returns-in-Resize
returns-in-Resize g c = resized_open _ _ _ _ c.requires c.resize.result c.resize.ensures.opened c.resize.ensures.opened_err
