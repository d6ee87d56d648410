-- Each thousandth key is asked for.
use Rattle.std.proofs.Common.{◌≡◌, ◌++◌, map, sym, ap, ◌∙◌, append-nil, arith}
use Rattle.std.specs.List.{flat_map, range_with_len}
use Rattle.archives.specs.Commands.{HasKey}
use Rattle.archives.specs.Machine.{asked}
use Rattle.archives.specs.declared.commands.Command.TheVariants as ask
use Rattle.value_codec.specs.Keys.{key8_bytes}
use Rattle.archive_service.specs.Made.{made_tests}
use Rattle.archive_service.proofs.MadeLemmas.{key_asked, made_more, none_asked}
use Rattle.archive_service.proofs.made.add_tests.Goals as goal
use Rattle.archive_service.proofs.made.add_tests.Goals.{then-i-eq0+in_ok-push, else-i-eq0}

pub loop-i-init : goal.loop-i-init
loop-i-init c = sym (append-nil (map (asked key8_bytes (λ v. v)) c.args.commands.now.items))

pub loop-i-preserved : goal.loop-i-preserved
loop-i-preserved c = made_more made_tests _ _ _ c.loop-i.i c.loop-i.invariant (elim c.if-i-eq0.branch [
  | then-i-eq0+in_ok-push w ↦ ap (λ v. map (asked key8_bytes (λ v. v)) v.items) w.commands-is
      ∙ key_asked (asked key8_bytes (λ v. v)) c.loop-i.commands.items c.loop-i.i (ask.HasKey w.key.result) _ (ap HasKey w.key.ensures) w.in_ok-push.ensures.items w.if-i-eq0.true
  | else-i-eq0 w ↦ ap (λ v. map (asked key8_bytes (λ v. v)) v.items) w.commands-is
      ∙ none_asked (asked key8_bytes (λ v. v)) c.loop-i.commands.items c.loop-i.i w.if-i-eq0.false
])

pub returns : goal.returns
returns c =
    let all : c.loop-i.i ≡ c.args.n = omega (arith, c.loop-i-test.false, c.loop-i.auto.i-end) in
    c.loop-i.invariant ∙ ap (λ k. map (asked key8_bytes (λ v. v)) c.args.commands.now.items ++ flat_map made_tests (range_with_len 0 k)) all
