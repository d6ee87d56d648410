use Rattle.blob_device.specs.lemmas.Opened.{entered_open}
use Rattle.archive_words_tests.proofs.blobs.resize.Goals as goal

pub resize-requires : goal.resize-requires
resize-requires g c = entered_open _ _ _ _ c.in_ok-open_blob.ensures.opened
