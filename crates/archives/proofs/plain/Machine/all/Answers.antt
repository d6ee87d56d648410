use Rattle.std.proofs.Common.{◌≡◌, [], ◌∷◌, ◌++◌, ◌+◌, ◌∙◌, ap, sym, refl, take, true, false, length, arith}
use Rattle.std.proofs.lemmas.Bool.{eq-eqb, eqb-false, eqb-true, ne_eqb}
use Rattle.std.proofs.lemmas.List.{append-nil, take_all}
use Rattle.archives.proofs.machine.Entries.{tells_all, tells_none, values_at, values_pass}
use Rattle.archives.proofs.plain.Machine.all.Goals as goal
use Rattle.archives.proofs.plain.Machine.all.Goals.{then-item-index+in_ok-clone+in_ok-push, else-item-index}

pub loop-item-init : goal.loop-item-init
loop-item-init g c = c.new-values.ensures.items

pub loop-item-preserved : goal.loop-item-preserved
loop-item-preserved g c =
    let all = c.deref-item-items.result.now in
    let item = c.item-item.result in
    elim c.if-item-index.branch as (λ _. c.if-item-index.values.items ≡ values_at c.args.index (take (c.loop-item.item-index + 1) all)) [
      | then-item-index+in_ok-clone+in_ok-push w ↦ values_pass c.args.index c.loop-item.item-index all item true c.loop-item.values.items c.if-item-index.values.items c.loop-item-test.true c.item-item.is c.loop-item.invariant (eq-eqb item.index c.args.index (omega (arith, w.if-item-index.true)))
          (ap (λ v. v.items) w.values-is ∙ w.in_ok-push.ensures.items ∙ ap (λ v. c.loop-item.values.items ++ v ∷ []) (c.requires item.value w.in_ok-clone.field-0 w.in_ok-clone.ensures.cases))
      | else-item-index w ↦ values_pass c.args.index c.loop-item.item-index all item false c.loop-item.values.items c.if-item-index.values.items c.loop-item-test.true c.item-item.is c.loop-item.invariant (ne_eqb item.index c.args.index (λ e. omega (arith, e, w.if-item-index.false)))
          (ap (λ v. v.items) w.values-is ∙ sym (append-nil c.loop-item.values.items))
    ]

pub returns-then-is_empty : goal.returns-then-is_empty
returns-then-is_empty g c =
    let m = c.args.self.now in
    let all = c.deref-item-items.result.now in
    let are = c.loop-item.invariant ∙ ap (values_at c.args.index) (take_all c.loop-item.item-index all c.loop-item-test.false ∙ c.deref-item-items.ensures.value) in (
      tells_none g.K.Key.key_bytes m.items_per_section m.floor m.is_open c.args.index m.items.items c.loop-item.values.items are
          (omega (arith, eqb-true c.loop-item.values.len 0 (sym c.is_empty.ensures ∙ c.if-is_empty.true))),
      refl,
    )

pub returns : goal.returns
returns g c =
    let m = c.args.self.now in
    let all = c.deref-item-items.result.now in
    let are = c.from_vec.ensures ∙ c.loop-item.invariant ∙ ap (values_at c.args.index) (take_all c.loop-item.item-index all c.loop-item-test.false ∙ c.deref-item-items.ensures.value) in (
      tells_all g.K.Key.key_bytes m.items_per_section m.floor m.is_open c.args.index m.items.items c.from_vec.result are
          (λ none. eqb-false c.loop-item.values.len 0 (sym c.is_empty.ensures ∙ c.if-is_empty.false) (omega (arith, none, ap length c.from_vec.ensures))),
      refl,
    )
