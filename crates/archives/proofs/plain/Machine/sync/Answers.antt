use Rattle.std.proofs.Common.{◌≡◌, ◌∙◌, ap, refl, ℕ, ◌<◌, ◌≤◌, length, map, slice_index_or, arith}
use Rattle.std.proofs.lemmas.List.{get_or_default, with_items_is}
use Rattle.std.proofs.lemmas.List.Edits.{map_over_more}
use Rattle.archives.specs.plain.Machine.{state_with}
use Rattle.archives.proofs.machine.Lemmas.{all_passed, as_synced, state_synced}
use Rattle.archives.proofs.plain.Machine.sync.Goals as goal

pub loop-item-preserved : goal.loop-item-preserved
loop-item-preserved g c =
    let first = c.deref_mut-item-items.result.now in
    let items = c.loop-item.item-items in
    let at : ℕ = c.loop-item.item-index in
    let within : at < length first = omega arith in
    let here : at < length items = omega arith in
    let item = slice_index_or items at c.item-item.result in
    map_over_more as_synced first items at item within c.loop-item.invariant (get_or_default items at c.item-item.result item here)

pub returns : goal.returns
returns g c =
    let m = c.args.self.now in
    let v = c.args.self.now.items in
    let first = c.deref_mut-item-items.result.now in
    let items = c.loop-item.item-items in
    let at : ℕ = c.loop-item.item-index in
    let passed : length first ≤ at = omega arith in
    let long : length items ≡ v.len = omega (arith, c.loop-item.auto.item-items, c.deref_mut-item-items.ensures.len) in
    let all : items ≡ map as_synced v.items = all_passed first items at passed c.loop-item.invariant ∙ ap (map as_synced) c.deref_mut-item-items.ensures.value in
    record {
      done = refl;
      state = ap (state_with g.K.Key.key_bytes m.items_per_section m.floor m.is_open) (with_items_is v items long ∙ all) ∙ state_synced g.K.Key.key_bytes m.items_per_section m.floor m.is_open v.items;
      same = refl;
    }
