use Rattle.std.proofs.Common.{◌≡◌, ◌≤◌, [], inr, None, length, refl, sym, ◌∙◌, ap, arith}
use Rattle.std.specs.List.{slice_get}
use Rattle.std.specs.Option.{option_copied}
use Rattle.std.proofs.lemmas.Option.{get_or_from_slice_get, slice_get_within, slice_get-get_or}
use Rattle.blob_device.specs.Change.{Remove}
use Rattle.blob_device.specs.lemmas.Moments.{ok_blob}
use Rattle.ordinal_store.specs.Emptying.{IsIn}
use Rattle.ordinal_store.specs.Stores.{now, sight}
use Rattle.ordinal_store.proofs.EmptyingLemmas.{empties_start, none_emptied, empties_more, one_more, emptying_failed, emptied_all}
use Rattle.ordinal_store.proofs.store.opening.remove_named.Goals as goal
use Rattle.ordinal_store.proofs.store.opening.remove_named.Goals.{else-loop-i-test, then-loop-i-test+in_default}

pub loop-i-init : goal.loop-i-init
loop-i-init g c = record {
  goes = empties_start (IsIn c.args.partition.now) g.D.Device.Tells (sight g.D.Device c.args.dev.now);
  emptied = λ t. none_emptied (IsIn c.args.partition.now) c.args.partition.now c.args.names.now (now (sight g.D.Device c.args.dev.now));
}

pub returns-in_err-remove : goal.returns-in_err-remove
returns-in_err-remove g c =
    let inside = slice_get_within c.args.names.now c.loop-i.i c.in-Some.name.now (sym c.in-Some.ensures) in
    let here = get_or_from_slice_get c.args.names.now c.loop-i.i c.in-Some.name.now [] (sym c.in-Some.ensures) in
    emptying_failed (IsIn c.args.partition.now) g.D.Device.Tells (sight g.D.Device c.args.dev.now) (sight g.D.Device c.loop-i.dev) (sight g.D.Device c.remove.new.self) c.loop-i.invariant.goes.faults
    (empties_more (IsIn c.args.partition.now) c.args.partition.now g.D.Device.Tells c.args.names.now c.loop-i.i c.in-Some.name.now (sight g.D.Device c.args.dev.now) (sight g.D.Device c.loop-i.dev) (sight g.D.Device c.remove.new.self) here refl
    (λ t. ((c.requires.named t).each c.in-Some.name.now).0 (c.loop-i.i, inside, get_or_from_slice_get c.args.names.now c.loop-i.i c.in-Some.name.now c.in-Some.name.now (sym c.in-Some.ensures)))
    c.loop-i.invariant.goes c.loop-i.invariant.emptied c.remove.result c.remove.ensures.told c.in_err-remove.ensures.opened_err c.remove.ensures.counts.later)
    c.from_residual.result c.in_err-remove.field-0.0 c.from_residual.ensures.1 c.in_err-remove.ensures.counts.cause

pub loop-i-preserved : goal.loop-i-preserved
loop-i-preserved g c =
    let inside = slice_get_within c.args.names.now c.loop-i.i c.in-Some.name.now (sym c.in-Some.ensures) in
    let here = get_or_from_slice_get c.args.names.now c.loop-i.i c.in-Some.name.now [] (sym c.in-Some.ensures) in
    let there = λ (t : g.D.Device.Tells). ((c.requires.named t).each c.in-Some.name.now).0 (c.loop-i.i, inside, get_or_from_slice_get c.args.names.now c.loop-i.i c.in-Some.name.now c.in-Some.name.now (sym c.in-Some.ensures)) in
    record {
      goes = empties_more (IsIn c.args.partition.now) c.args.partition.now g.D.Device.Tells c.args.names.now c.loop-i.i c.in-Some.name.now (sight g.D.Device c.args.dev.now) (sight g.D.Device c.loop-i.dev) (sight g.D.Device c.remove.new.self) here refl there c.loop-i.invariant.goes c.loop-i.invariant.emptied c.remove.result c.remove.ensures.told (inr c.in_ok-remove.ensures.opened) c.remove.ensures.counts.later;
      emptied = λ t. one_more (IsIn c.args.partition.now) c.args.partition.now g.D.Device.Tells c.args.names.now c.loop-i.i c.in-Some.name.now (sight g.D.Device c.args.dev.now) (sight g.D.Device c.loop-i.dev) (sight g.D.Device c.remove.new.self) here refl there c.loop-i.invariant.goes c.loop-i.invariant.emptied c.remove.result c.remove.ensures.told
          (ok_blob _ Remove c.in_ok-remove.field-0 _ _ (c.in_ok-remove.ensures.told t)) t;
    }

pub returns : goal.returns
returns g c =
    let over : length c.args.names.now ≤ c.loop-i.i = elim c.loop-i-test.branch [
      | else-loop-i-test w ↦ omega (arith, w.loop-i-test.false, c.len-i-end.ensures)
      | then-loop-i-test+in_default w ↦
          let found = slice_get-get_or c.args.names.now c.loop-i.i [] (omega (arith, w.loop-i-test.true, c.len-i-end.ensures)) in
          let none : slice_get c.args.names.now c.loop-i.i ≡ None = sym w.get.ensures ∙ ap option_copied w.in_default.is in
          absurd (cc (found, none))
    ] in
    emptied_all (IsIn c.args.partition.now) c.args.partition.now g.D.Device.Tells c.args.names.now c.loop-i.i (sight g.D.Device c.args.dev.now) (sight g.D.Device c.loop-i.dev) (λ q is. is) c.requires.named over c.loop-i.invariant.goes c.loop-i.invariant.emptied
