-- The lists, one behind the other.
use Rattle.std.proofs.Common.{◌++◌, map, refl, ap, ◌∙◌}
use Rattle.std.specs.List.{flat_map, range_with_len}
use Rattle.archives.specs.Machine.{asked}
use Rattle.archives.specs.declared.commands.Command.TheVariants as ask
use Rattle.value_codec.specs.Keys.{key8_bytes}
use Rattle.archive_service.specs.Made.{made_puts}
use Rattle.archive_service.proofs.MadeLemmas.{seen_more, whole_script}
use Rattle.archive_service.proofs.made.make.Goals as goal

pub returns : goal.returns
returns c =
    c.from_vec.ensures ∙ whole_script c.args.n _ _ _ _ _ _ _ _
    (c.in_ok-add_puts.ensures ∙ ap (λ l. map (asked key8_bytes (λ v. v)) l ++ flat_map made_puts (range_with_len 0 c.args.n)) c.new-commands.ensures.items)
    (seen_more (asked key8_bytes (λ v. v)) _ ask.Sync _ _ refl c.in_ok-push.ensures.items)
    (seen_more (asked key8_bytes (λ v. v)) _ ask.Reopen _ _ refl c.in_ok-push-2.ensures.items)
    c.in_ok-add_gets.ensures
    c.in_ok-add_tests.ensures
    (seen_more (asked key8_bytes (λ v. v)) _ ask.Ranges _ _ refl c.in_ok-push-3.ensures.items)
    (seen_more (asked key8_bytes (λ v. v)) _ ask.First _ _ refl c.in_ok-push-4.ensures.items)
    (seen_more (asked key8_bytes (λ v. v)) _ ask.Last _ _ refl c.in_ok-push-5.ensures.items)
