-- What a replay of frames shows of itself: the replay of the bytes below it.
use Rattle.sealed_pages.specs.declared.page_blob.PageBlob.{PageBlob}
use Rattle.section_manager.specs.declared.sealed.AppendFactory.{AppendFactory}
use Rattle.segments.specs.FixedReplay.{Walk}
use Rattle.segments.specs.FixedWalking as bytes
use Rattle.variable_journal.specs.declared.journal.replaying.Replay.{Replay}

abbrev pub walk_of : {V S C : Type 0} {seal : _}
    → Replay V S C seal → Walk (AppendFactory S) (PageBlob S seal)
walk_of r = bytes.walk_of r.bytes

-- what decoding an item needs to know
abbrev pub config_of : {V S C : Type 0} {seal : _} → Replay V S C seal → C
config_of r = r.codec_config
