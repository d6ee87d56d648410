use Rattle.std.proofs.Common.{◌≡◌, ◌<◌, ℕ, List, inr, map, refl, sym, subst, ◌∙◌, arith, length, get_or}
use Rattle.std.specs.BTreeMap.{get}
use Rattle.std.specs.Int.{w64, to_be_bytes}
use Rattle.std.specs.Ordering.{nat_cmp}
use Rattle.std.specs.Prelude.{IsTrue}
use Rattle.std.proofs.lemmas.List.{length-map}
use Rattle.blob_device.specs.Change.{Remove}
use Rattle.blob_device.specs.lemmas.Moments.{ok_blob}
use Rattle.ordinal_store.specs.Emptying.{IsUnkept}
use Rattle.ordinal_store.specs.Stores.{now, sight}
use Rattle.ordinal_store.proofs.EmptyingLemmas.{emptied_all, empties_more, empties_start, emptying_failed, kept_named, name_at, name_listed, named_kept, none_emptied, one_more, one_passed, passed_named, unkept_at, unkept_in}
use Rattle.ordinal_store.proofs.store.opening.remove_unkept.Goals as goal

pub loop-number-init : goal.loop-number-init
loop-number-init g c k same some = (
  empties_start (IsUnkept k (get nat_cmp c.args.map.now)) g.D.Device.Tells (sight g.D.Device c.args.dev.now),
  λ t. none_emptied (IsUnkept k (get nat_cmp c.args.map.now)) c.args.partition.now (map (to_be_bytes w64) c.args.numbers.now) (now (sight g.D.Device c.args.dev.now)),
)

pub loop-number-preserved-then-is_named : goal.loop-number-preserved-then-is_named
loop-number-preserved-then-is_named g c k same some =
    let kept = named_kept k (get nat_cmp c.args.map.now) (get_or c.args.numbers.now c.loop-number.number-index 0) (omega (arith, (c.type_inv.numbers c.loop-number.number-index).fits)) ((c.if-is_named.ensures k.items some).0 refl) in (
      (c.loop-number.invariant k same some).0,
      λ t. one_passed (IsUnkept k (get nat_cmp c.args.map.now)) c.args.partition.now (map (to_be_bytes w64) c.args.numbers.now) c.loop-number.number-index (now (sight g.D.Device c.args.dev.now)) (now (sight g.D.Device c.loop-number.dev))
          (passed_named k (get nat_cmp c.args.map.now) c.args.partition.now c.args.numbers.now c.loop-number.number-index (get_or c.args.numbers.now c.loop-number.number-index 0) same (omega (arith, c.loop-number-test.true)) refl (omega (arith, (c.type_inv.numbers c.loop-number.number-index).fits)) kept) ((c.loop-number.invariant k same some).1 t),
    )

pub returns-in_err-remove : goal.returns-in_err-remove
returns-in_err-remove g c k same some =
    let inside : c.loop-number.number-index < length c.args.numbers.now = omega (arith, c.loop-number-test.true) in
    let spelled : c.as_slice.result.now ≡ to_be_bytes w64 (get_or c.args.numbers.now c.loop-number.number-index 0) = c.as_slice.ensures ∙ c.to_be_bytes-name.ensures in
    let may : IsUnkept k (get nat_cmp c.args.map.now) (c.args.partition.now, c.as_slice.result.now) = subst (λ (b : List ℕ). IsUnkept k (get nat_cmp c.args.map.now) (c.args.partition.now, b)) (sym spelled)
    (unkept_at k (get nat_cmp c.args.map.now) c.args.partition.now (get_or c.args.numbers.now c.loop-number.number-index 0) same (omega (arith, (c.type_inv.numbers c.loop-number.number-index).fits)) (λ kept. absurd (cc ((c.if-is_named.ensures k.items some).1 (kept_named k (get nat_cmp c.args.map.now) (get_or c.args.numbers.now c.loop-number.number-index 0) kept))))) in
    emptying_failed (IsUnkept k (get nat_cmp c.args.map.now)) g.D.Device.Tells (sight g.D.Device c.args.dev.now) (sight g.D.Device c.loop-number.dev) (sight g.D.Device c.remove.new.self) (c.loop-number.invariant k same some).0.faults
    (empties_more (IsUnkept k (get nat_cmp c.args.map.now)) c.args.partition.now g.D.Device.Tells (map (to_be_bytes w64) c.args.numbers.now) c.loop-number.number-index c.as_slice.result.now (sight g.D.Device c.args.dev.now) (sight g.D.Device c.loop-number.dev) (sight g.D.Device c.remove.new.self) (name_at c.args.numbers.now c.loop-number.number-index (get_or c.args.numbers.now c.loop-number.number-index 0) inside refl ∙ sym spelled) may
    (λ t. subst (λ (b : List ℕ). IsTrue (now (sight g.D.Device c.args.dev.now) (c.args.partition.now, b)).there) (sym spelled) (((c.requires.named t).each (to_be_bytes w64 (get_or c.args.numbers.now c.loop-number.number-index 0))).0 (name_listed c.args.numbers.now c.loop-number.number-index (get_or c.args.numbers.now c.loop-number.number-index 0) inside refl)))
    (c.loop-number.invariant k same some).0 (c.loop-number.invariant k same some).1 c.remove.result c.remove.ensures.told c.in_err-remove.ensures.opened_err c.remove.ensures.counts.later)
    c.from_residual.result c.in_err-remove.field-0.0 c.from_residual.ensures.1 c.in_err-remove.ensures.counts.cause

pub loop-number-preserved : goal.loop-number-preserved
loop-number-preserved g c k same some =
    let inside : c.loop-number.number-index < length c.args.numbers.now = omega (arith, c.loop-number-test.true) in
    let spelled : c.as_slice.result.now ≡ to_be_bytes w64 (get_or c.args.numbers.now c.loop-number.number-index 0) = c.as_slice.ensures ∙ c.to_be_bytes-name.ensures in
    let may : IsUnkept k (get nat_cmp c.args.map.now) (c.args.partition.now, c.as_slice.result.now) = subst (λ (b : List ℕ). IsUnkept k (get nat_cmp c.args.map.now) (c.args.partition.now, b)) (sym spelled)
    (unkept_at k (get nat_cmp c.args.map.now) c.args.partition.now (get_or c.args.numbers.now c.loop-number.number-index 0) same (omega (arith, (c.type_inv.numbers c.loop-number.number-index).fits)) (λ kept. absurd (cc ((c.if-is_named.ensures k.items some).1 (kept_named k (get nat_cmp c.args.map.now) (get_or c.args.numbers.now c.loop-number.number-index 0) kept))))) in
    let there = λ (t : g.D.Device.Tells). subst (λ (b : List ℕ). IsTrue (now (sight g.D.Device c.args.dev.now) (c.args.partition.now, b)).there) (sym spelled) (((c.requires.named t).each (to_be_bytes w64 (get_or c.args.numbers.now c.loop-number.number-index 0))).0 (name_listed c.args.numbers.now c.loop-number.number-index (get_or c.args.numbers.now c.loop-number.number-index 0) inside refl)) in
    let here = name_at c.args.numbers.now c.loop-number.number-index (get_or c.args.numbers.now c.loop-number.number-index 0) inside refl ∙ sym spelled in (
      empties_more (IsUnkept k (get nat_cmp c.args.map.now)) c.args.partition.now g.D.Device.Tells (map (to_be_bytes w64) c.args.numbers.now) c.loop-number.number-index c.as_slice.result.now (sight g.D.Device c.args.dev.now) (sight g.D.Device c.loop-number.dev) (sight g.D.Device c.remove.new.self) here may there (c.loop-number.invariant k same some).0 (c.loop-number.invariant k same some).1 c.remove.result c.remove.ensures.told (inr c.in_ok-remove.ensures.opened) c.remove.ensures.counts.later,
      λ t. one_more (IsUnkept k (get nat_cmp c.args.map.now)) c.args.partition.now g.D.Device.Tells (map (to_be_bytes w64) c.args.numbers.now) c.loop-number.number-index c.as_slice.result.now (sight g.D.Device c.args.dev.now) (sight g.D.Device c.loop-number.dev) (sight g.D.Device c.remove.new.self) here may there (c.loop-number.invariant k same some).0 (c.loop-number.invariant k same some).1 c.remove.result c.remove.ensures.told
          (ok_blob _ Remove c.in_ok-remove.field-0 _ _ (c.in_ok-remove.ensures.told t)) t,
    )

pub returns : goal.returns
returns g c k same some =
    emptied_all (IsUnkept k (get nat_cmp c.args.map.now)) c.args.partition.now g.D.Device.Tells (map (to_be_bytes w64) c.args.numbers.now) c.loop-number.number-index (sight g.D.Device c.args.dev.now) (sight g.D.Device c.loop-number.dev) (unkept_in k (get nat_cmp c.args.map.now) c.args.partition.now same) c.requires.named
    (omega (arith, c.loop-number-test.false, length-map c.args.numbers.now (to_be_bytes w64))) (c.loop-number.invariant k same some).0 (c.loop-number.invariant k same some).1
