-- What the codec of a pair's values is told, of a pair and of a replay of one.
use Rattle.paired.specs.declared.oversized.Oversized.{Oversized}
use Rattle.paired.specs.declared.oversized.replaying.Replay.{Replay}

abbrev pub pair_codec_config : {I V S C : Type 0} {fixed codec seal : _} → Oversized I V S C fixed codec seal → C
pair_codec_config o = o.values.codec_config

abbrev pub replay_codec_config : {I V S C : Type 0} {fixed codec seal : _} → Replay I V S C fixed codec seal → C
replay_codec_config r = r.values.codec_config
