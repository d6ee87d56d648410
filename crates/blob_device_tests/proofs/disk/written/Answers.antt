use Rattle.std.proofs.Common.{◌∙◌, ap}
use Rattle.blob_device.specs.Opened.{OpenedList}
use Rattle.blob_device.specs.lemmas.Opened.{entered_open, updated_open, entered_other, updated_other}
use Rattle.blob_device_tests.proofs.disk.written.Goals as goal

pub write_at-requires-clause-open : goal.write_at-requires-clause-open
write_at-requires-clause-open g c = entered_open _ _ _ _ c.in_ok-open_blob.ensures.opened

pub sync-requires : goal.sync-requires
sync-requires g c = updated_open _ _ _ _ c.in_ok-write_at.ensures.opened (entered_open _ _ _ _ c.in_ok-open_blob.ensures.opened)

pub returns-in_err-write_at : goal.returns-in_err-write_at
returns-in_err-write_at g c q other = updated_other _ _ _ q _ c.in_err-write_at.ensures.opened_err.is other ∙ entered_other _ _ _ q _ c.in_ok-open_blob.ensures.opened other

pub returns : goal.returns
returns g c q other = ap (λ (o : OpenedList). o q) c.sync.ensures.opened ∙ updated_other _ _ _ q _ c.in_ok-write_at.ensures.opened other ∙ entered_other _ _ _ q _ c.in_ok-open_blob.ensures.opened other
