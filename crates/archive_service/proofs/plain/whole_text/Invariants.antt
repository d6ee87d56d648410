use Rattle.std.proofs.Common.{◌≡◌, map, take}
use Rattle.std.specs.Prelude.{string_bytes}
use Rattle.archives.specs.Machine.{asked}
use Rattle.value_codec.specs.Keys.{key8_bytes}
use Rattle.archive_service.specs.Texts.{script_text}
use Rattle.archive_service.proofs.plain.whole_text.Given as goal

abbrev pub invariant-loop-command : goal.invariant-loop-command
invariant-loop-command l = string_bytes l.text ≡ script_text (map (asked key8_bytes (λ v. v)) (take l.command-index l.commands))
