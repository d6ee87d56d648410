-- What a journal of frames shows: the journal of bytes below it.
use Rattle.sealed_pages.specs.declared.page_blob.PageBlob.{PageBlob}
use Rattle.section_manager.specs.declared.sealed.AppendFactory.{AppendFactory}
use Rattle.segments.specs.FixedLists.{Lists}
use Rattle.segments.specs.FixedShown as bytes
use Rattle.variable_journal.specs.declared.journal.Journal.{Journal}

abbrev pub shown : {V S C : Type 0} {seal : _}
    → Journal V S C seal → Lists (AppendFactory S) (PageBlob S seal)
shown j = bytes.shown j.bytes

-- what decoding an item needs to know
abbrev pub config_of : {V S C : Type 0} {seal : _} → Journal V S C seal → C
config_of j = j.codec_config
