use Rattle.std.specs.Prelude.{map}
use Rattle.value_codec.specs.Keys.{key8_bytes}
use Rattle.archives.specs.Machine.{asked}
use Rattle.archive_service.specs.Stores.{codec_config_of}
use Rattle.archive_program.proofs.ServedLemmas.{is_served_by, values_may_be_put}
use Rattle.archive_program.proofs.answer.run_of.Goals as goal

pub serve-requires-clause-values : goal.serve-requires-clause-values
serve-requires-clause-values g c =
    values_may_be_put c.args.settings.now.max_value (codec_config_of c.in-Ok.config) c.as_slice.result.now c.args.script.now c.as_slice.ensures c.in-Ok.ensures.values c.requires.values

pub returns : goal.returns
returns g c =
    is_served_by c.args.settings.now c.args.items g.D.Device c.args.dev.now c.serve.new.dev c.serve.result.marks c.in-Ok.config c.in-Ok.ensures
    (map (asked key8_bytes (λ v. v)) c.as_slice.result.now) c.args.script.now _ c.serve.result.end c.as_slice.ensures c.serve.ensures
