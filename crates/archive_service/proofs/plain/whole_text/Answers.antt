-- One line more is written.
use Rattle.std.proofs.Common.{◌≡◌, ◌+◌, ◌++◌, ◌∷◌, [], map, take, sym, ap, ◌∙◌}
use Rattle.std.proofs.lemmas.List.{map-append, take_more}
use Rattle.std.specs.Prelude.{string_bytes}
use Rattle.archives.specs.Machine.{asked}
use Rattle.value_codec.specs.Keys.{key8_bytes}
use Rattle.archive_service.specs.Texts.{line_of, script_text}
use Rattle.archive_service.proofs.ScriptLemmas.{text_more}
use Rattle.archive_service.proofs.plain.whole_text.Goals as goal

pub loop-command-preserved : goal.loop-command-preserved
loop-command-preserved c =
    let command = c.command-item.result in
    let before = take c.loop-command.command-index c.args.commands.now in
    let line = c.in_ok-push_str.ensures.bytes ∙ ap (λ t. string_bytes c.loop-command.text ++ t) (c.as_str.ensures.value ∙ c.in_ok-line.ensures) in
    let both = c.in_ok-push_str-2.ensures.bytes ∙ ap (λ t. t ++ 10 ∷ []) (line ∙ ap (λ t. t ++ line_of (asked key8_bytes (λ v. v) command)) c.loop-command.invariant) in
    let more : take (c.loop-command.command-index + 1) c.args.commands.now ≡ before ++ command ∷ [] =
    take_more c.args.commands.now c.loop-command.command-index command c.loop-command-test.true ∙ ap (λ x. before ++ x ∷ []) (sym c.command-item.is) in
    both ∙ sym (ap (λ l. script_text (map (asked key8_bytes (λ v. v)) l)) more ∙ ap script_text (map-append (asked key8_bytes (λ v. v)) before (command ∷ []))
    ∙ text_more (map (asked key8_bytes (λ v. v)) before) (asked key8_bytes (λ v. v) command))
