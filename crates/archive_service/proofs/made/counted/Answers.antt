-- One reply more.
use Rattle.std.proofs.Common.{◌≡◌, ◌+◌, ◌*◌, ◌^◌, ◌<◌, ◌∷◌, [], ◌++◌, map, take, sym, ap, ◌∙◌, subst, rules, arith}
use Rattle.std.proofs.lemmas.List.{map_more, take_all}
use Rattle.archives.specs.Machine.{replied}
use Rattle.archive_service.specs.MadeCounts.{AreCounted, AreUpTo}
use Rattle.archive_service.proofs.MadeLemmas.{none_up_to, up_to}
use Rattle.archive_service.proofs.made.counted.Goals as goal

pub loop-reply-init : goal.loop-reply-init
loop-reply-init c = (c.none-counts.ensures, none_up_to c.none-counts.result c.none-counts.ensures)

pub add-requires : goal.add-requires
add-requires c =
    let few : c.loop-reply.reply-index * 40 < 2 ^ 64 = search rules in
    up_to (c.loop-reply.reply-index * 2 ^ 64) (2 ^ 127) c.loop-reply.counts (omega (arith, few)) c.loop-reply.invariant.1

pub loop-reply-preserved : goal.loop-reply-preserved
loop-reply-preserved c =
    let i = c.loop-reply.reply-index in
    let before = map (replied (λ v. v)) (take i c.args.replies.now) in
    let more : map (replied (λ v. v)) (take (i + 1) c.args.replies.now) ≡ before ++ replied (λ v. v) c.reply-item.result ∷ [] =
    map_more (replied (λ v. v)) c.args.replies.now i c.reply-item.result c.loop-reply-test.true ∙ ap (λ r. before ++ replied (λ v. v) r ∷ []) (sym c.reply-item.is) in
    let next : i * 2 ^ 64 + 2 ^ 64 ≡ (i + 1) * 2 ^ 64 = omega arith in
    (subst (AreCounted c.add.new.self) (sym more) (c.add.ensures.counted before c.loop-reply.invariant.0), subst (λ n. AreUpTo n c.add.new.self) next (c.add.ensures.grows (i * 2 ^ 64) c.loop-reply.invariant.1))

pub returns : goal.returns
returns c =
    subst (λ l. AreCounted c.loop-reply.counts (map (replied (λ v. v)) l)) (take_all c.loop-reply.reply-index c.args.replies.now c.loop-reply-test.false) c.loop-reply.invariant.0
