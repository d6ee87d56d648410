-- One record more is asked for.
use Rattle.std.proofs.Common.{◌≡◌, ◌*◌, ◌∷◌, [], ◌++◌, map, refl, sym, ap, ◌∙◌, append-nil, arith}
use Rattle.std.specs.List.{flat_map, range_with_len}
use Rattle.std.proofs.lemmas.List.Concat.{flat_map_single}
use Rattle.archives.specs.Machine.{asked}
use Rattle.archives.specs.declared.commands.Command.TheVariants as ask
use Rattle.value_codec.specs.Keys.{key8_bytes}
use Rattle.archive_service.proofs.MadeLemmas.{get_at, get_is, made_more, seen_more}
use Rattle.archive_service.proofs.made.add_gets.Goals as goal

pub loop-i-init : goal.loop-i-init
loop-i-init c = sym (append-nil (map (asked key8_bytes (λ v. v)) c.args.commands.now.items))

pub loop-i-preserved : goal.loop-i-preserved
loop-i-preserved c =
    let items = c.loop-i.commands.items in
    made_more (λ i. get_at (2 * i) ∷ []) _ _ _ c.loop-i.i c.loop-i.invariant
    (seen_more (asked key8_bytes (λ v. v)) items (ask.Get _) (map (asked key8_bytes (λ v. v)) items) c.push.new.self.items refl c.in_ok-push.ensures.items
    ∙ ap (λ x. map (asked key8_bytes (λ v. v)) items ++ x ∷ []) (get_is c.loop-i.i c.from.result c.from.ensures))

pub returns : goal.returns
returns c =
    let all : c.loop-i.i ≡ c.args.n = omega (arith, c.loop-i-test.false, c.loop-i.auto.i-end) in
    let old = map (asked key8_bytes (λ v. v)) c.args.commands.now.items in
    c.loop-i.invariant ∙ ap (λ k. old ++ flat_map (λ i. get_at (2 * i) ∷ []) (range_with_len 0 k)) all
    ∙ ap (λ l. old ++ l) (flat_map_single (λ i. get_at (2 * i)) (range_with_len 0 c.args.n))
