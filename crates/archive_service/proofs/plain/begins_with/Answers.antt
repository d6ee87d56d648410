use Rattle.std.proofs.Common.{◌≡◌, ◌++◌, ◌∷◌, [], length, drop, sym, ap, ◌∙◌}
use Rattle.std.proofs.lemmas.Bool.Decides.{Decides-eqb}
use Rattle.std.proofs.lemmas.Slice.Eq.{starts_is}
use Rattle.std.proofs.lemmas.List.{append_assoc}
use Rattle.archives.specs.Machine.{asked}
use Rattle.value_codec.specs.Keys.{key8_bytes}
use Rattle.archive_service.specs.Texts.{line_of}
use Rattle.archive_service.proofs.plain.begins_with.Goals as goal

pub returns : goal.returns
returns c =
    let line = line_of (asked key8_bytes (λ v. v) c.args.command.now) in
    let needle : c.as_bytes.result.now ≡ line ++ 10 ∷ [] =
    c.as_bytes.ensures.value ∙ c.in_ok-push_str.ensures.bytes ∙ ap (λ l. l ++ 10 ∷ []) c.in_ok-line.ensures in
    let test = starts_is Decides-eqb c.args.text.now c.as_bytes.result.now c.starts_with.result c.starts_with.ensures.value in (
      λ yes.
          let rest = drop (length c.as_bytes.result.now) c.args.text.now in
          (rest, test.0 yes ∙ ap (λ n. n ++ rest) needle ∙ append_assoc line (10 ∷ []) rest),
      λ begins. test.1 begins.0 (begins.1 ∙ sym (append_assoc line (10 ∷ []) begins.0) ∙ ap (λ n. n ++ begins.0) (sym needle)),
    )
