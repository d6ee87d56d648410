-- The put of one record more, and a sync behind each hundredth.
use Rattle.std.proofs.Common.{◌≡◌, ◌++◌, map, refl, sym, ap, ◌∙◌, append-nil, arith}
use Rattle.std.specs.List.{flat_map, range_with_len}
use Rattle.archives.specs.Machine.{asked}
use Rattle.archives.specs.declared.commands.Command.TheVariants as ask
use Rattle.value_codec.specs.Keys.{key8_bytes}
use Rattle.archive_service.specs.Made.{made_puts}
use Rattle.archive_service.proofs.MadeLemmas.{made_more, put_is, put_synced, put_unsynced}
use Rattle.archive_service.proofs.made.add_puts.Goals as goal
use Rattle.archive_service.proofs.made.add_puts.Goals.{then-i-eq0+in_ok-push-2, else-i-eq0}

pub loop-i-init : goal.loop-i-init
loop-i-init c = sym (append-nil (map (asked key8_bytes (λ v. v)) c.args.commands.now.items))

pub loop-i-preserved : goal.loop-i-preserved
loop-i-preserved c =
    let is = put_is c.loop-i.i c.from.result _ _ c.from.ensures c.key.ensures c.in_ok-value.ensures in
    made_more made_puts _ _ _ c.loop-i.i c.loop-i.invariant (elim c.if-i-eq0.branch [
      | then-i-eq0+in_ok-push-2 w ↦ ap (λ v. map (asked key8_bytes (λ v. v)) v.items) w.commands-is
          ∙ put_synced (asked key8_bytes (λ v. v)) c.loop-i.commands.items c.push.new.self.items (ask.Put _ c.key.result _) c.loop-i.i is c.in_ok-push.ensures.items ask.Sync _ refl
          w.in_ok-push-2.ensures.items w.if-i-eq0.true
      | else-i-eq0 w ↦ ap (λ v. map (asked key8_bytes (λ v. v)) v.items) w.commands-is
          ∙ put_unsynced (asked key8_bytes (λ v. v)) c.loop-i.commands.items c.push.new.self.items (ask.Put _ c.key.result _) c.loop-i.i is c.in_ok-push.ensures.items w.if-i-eq0.false
    ])

pub returns : goal.returns
returns c =
    let all : c.loop-i.i ≡ c.args.n = omega (arith, c.loop-i-test.false, c.loop-i.auto.i-end) in
    c.loop-i.invariant ∙ ap (λ k. map (asked key8_bytes (λ v. v)) c.args.commands.now.items ++ flat_map made_puts (range_with_len 0 k)) all
