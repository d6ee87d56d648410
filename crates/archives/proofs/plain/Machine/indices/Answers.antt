use Rattle.std.proofs.Common.{List, [], ◌∷◌, ◌++◌, take, ◌∙◌, ap, sym, subst}
use Rattle.std.proofs.lemmas.List.{take_more, take_all}
use Rattle.ordinal_store.specs.Plain.{listed}
use Rattle.archives.specs.declared.error.Error.TheVariants.{Mem}
use Rattle.archives.specs.declared.plain.Item.{Item}
use Rattle.archives.proofs.machine.Indices.{AreOf, has_none, of_more, of_none, of_state}
use Rattle.archives.proofs.plain.Machine.indices.Goals as goal
use Rattle.blob_device.proofs.general.Results.{err_of}

pub loop-item-init : goal.loop-item-init
loop-item-init g c = of_none g.row.K.Denot g.row.V.Denot c.new-set.result.numbers.items c.new-set.ensures

pub loop-item-preserved : goal.loop-item-preserved
loop-item-preserved g c =
    let items = c.deref-item-items.result.now in
    let at = c.loop-item.item-index in
    let item = c.item-item.result in
    subst (λ (xs : List (Item g.row.K.Denot g.row.V.Denot)). AreOf (listed c.insert.new.self.numbers.items) xs)
    (ap (λ (x : Item g.row.K.Denot g.row.V.Denot). take at items ++ x ∷ []) c.item-item.is ∙ sym (take_more items at item c.loop-item-test.true))
    (of_more (listed c.loop-item.set.numbers.items) (listed c.insert.new.self.numbers.items) (take at items) item c.loop-item.invariant c.in_ok-insert.ensures)

pub returns-in_err-insert : goal.returns-in_err-insert
returns-in_err-insert g c = has_none g.K.Key.key_bytes c.args.self.now c.from_residual.result (err_of _ Mem c.from_residual.ensures.1)

pub returns : goal.returns
returns g c =
    of_state g.K.Key.key_bytes c.args.self.now (listed c.loop-item.set.numbers.items)
    (subst (λ (xs : List (Item g.row.K.Denot g.row.V.Denot)). AreOf (listed c.loop-item.set.numbers.items) xs)
    (take_all c.loop-item.item-index c.deref-item-items.result.now c.loop-item-test.false ∙ c.deref-item-items.ensures.value) c.loop-item.invariant)
