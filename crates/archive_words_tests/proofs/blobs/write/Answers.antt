use Rattle.blob_device.specs.lemmas.Opened.{entered_open, updated_open}
use Rattle.archive_words_tests.proofs.blobs.write.Goals as goal

pub write_at-requires-clause-open : goal.write_at-requires-clause-open
write_at-requires-clause-open g c = entered_open _ _ _ _ c.in_ok-open_blob.ensures.opened

pub resize-requires : goal.resize-requires
resize-requires g c = updated_open _ _ _ _ c.in_ok-write_at.ensures.opened (entered_open _ _ _ _ c.in_ok-open_blob.ensures.opened)
