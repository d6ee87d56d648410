use Rattle.std.proofs.Common.{◌≡◌, ◌∙◌, ◌<◌, ◌+◌, ◌*◌, ◌/◌, count_by, take, ◌∷◌, ◌++◌, [], inl, inr, ℕ, List, not, Err, length, get_or, map, sym, ap, subst, below_more, arith}
use Rattle.std.specs.List.{Contains}
use Rattle.std.proofs.Math.Seq.{take-length}
use Rattle.std.proofs.lemmas.Bool.{cases_Bool, not-false}
use Rattle.std.proofs.lemmas.List.{map-append, map_more, get_or_default}
use Rattle.std.proofs.lemmas.List.Elements.{Contains-get_or, Contains-push_cases}
use Rattle.std.proofs.lemmas.List.Sums.{count_by_more_yes, count_by_more_no}
use Rattle.blob_device.specs.Disk.{Disk}
use Rattle.blob_device.specs.Timeline.{disk}
use Rattle.blob_device.specs.declared.runtime.RError.TheVariants.{InvalidChecksum}
use Rattle.sealed_pages.specs.Buffer.{key_of, bytes_of, IsBacked}
use Rattle.sealed_pages.specs.Entries.{ReadsAtMost}
use Rattle.sealed_pages.specs.Shown.{shown}
use Rattle.sealed_pages.specs.lemmas.looking.Looking.{unchanged_now, unchanged_then}
use Rattle.section_manager.specs.declared.journal.Error.TheVariants.{Runtime, Codec, Mem}
use Rattle.segments.specs.FixedItems.{item_at}
use Rattle.segments.specs.FixedReading.{is_item_held, IsDamaged, IsItemCovered}
use Rattle.segments.proofs.looking.ItemReads.{each_failed}
use Rattle.segments.specs.lemmas.FixedErrors.{of_error, read_failed}
use Rattle.segments.proofs.looking.Memory.{count_within}
use Rattle.segments.proofs.looking.ReadLemmas.{none_next, none_here, reads_one, reads_next, reads_here}
use Rattle.segments.proofs.fixed.Journal.read_each.Goals as goal
use Rattle.blob_device.proofs.general.Results.{err_of, err_with}

pub read_into-requires-clause-inside : goal.read_into-requires-clause-inside
read_into-requires-clause-inside g c = c.requires.inside (get_or c.args.positions.now c.loop-i.i 0) (Contains-get_or c.args.positions.now c.loop-i.i 0 c.loop-i-test.true)

pub returns-in_err-item : goal.returns-in_err-item
returns-in_err-item g c =
    each_failed _ _ _ _ _ _ _ _ _ _ _ c.from_residual.result c.in_err-item.field-0.0 (err_of _ _ c.from_residual.ensures.1)
    (λ t. (unchanged_then _ _ _ (c.loop-i.invariant.unchanged t) (c.in_err-item.ensures.reads.unchanged t)))
    (λ none. (let u = c.args.buffer.now in
    let unheld = λ (p : ℕ). not (is_item_held g.A.CodecFixed.SIZE u p) in
    let here = none_here unheld c.args.positions.now c.loop-i.i c.loop-i-test.true none in
    c.in_err-item.ensures.reads.idle (not-false _ here.1) ∙ c.loop-i.invariant.idle here.0))
    (let u = c.args.buffer.now in
    let X = g.A.CodecFixed.SIZE / u.page_size + 2 in
    let unheld = λ (p : ℕ). not (is_item_held g.A.CodecFixed.SIZE u p) in
    let one = reads_one (key_of (shown u)) X (unheld (get_or c.args.positions.now c.loop-i.i 0)) (g.D.Device.opened c.loop-i.dev) (g.D.Device.opened c.read_into.new.dev)
    (λ held. ap g.D.Device.opened (c.in_err-item.ensures.reads.idle (not-false _ held))) c.in_err-item.ensures.reads.reads in
    reads_here unheld c.args.positions.now c.loop-i.i c.loop-i-test.true (key_of (shown u)) X (g.D.Device.opened c.args.dev.now) (g.D.Device.opened c.loop-i.dev) (g.D.Device.opened c.read_into.new.dev) c.loop-i.invariant.reads one)
    (omega (arith, c.loop-i.invariant.faults, c.in_err-item.ensures.reads.faults))
    (λ t holds k is. (let u = c.args.buffer.now in
    let same = unchanged_now (g.D.Device.time c.args.dev.now) (g.D.Device.time c.loop-i.dev) (c.loop-i.invariant.unchanged t) in
    let p = get_or c.args.positions.now c.loop-i.i 0 in (p, Contains-get_or c.args.positions.now c.loop-i.i 0 c.loop-i-test.true, subst (λ (d : Disk). IsDamaged g.A.CodecFixed.SIZE g.S.Seal.seal_of u (d (key_of (shown u))).content p k) same (c.in_err-item.ensures.reads.damaged t (subst (λ (d : Disk). IsBacked g.S.Seal.seal_of (shown u) (d (key_of (shown u))).content) (sym same) holds) k (ap Err (of_error c.from_residual.result c.in_err-item.field-0.0 (Runtime (InvalidChecksum k)) c.from_residual.ensures.1 is))))))
    (λ t holds e is. (let u = c.args.buffer.now in
    let p = get_or c.args.positions.now c.loop-i.i 0 in
    let same = unchanged_now (g.D.Device.time c.args.dev.now) (g.D.Device.time c.loop-i.dev) (c.loop-i.invariant.unchanged t) in
    let here = subst (λ (d : Disk). IsBacked g.S.Seal.seal_of (shown u) (d (key_of (shown u))).content) (sym same) holds in
    let err = ap Err (of_error c.from_residual.result c.in_err-item.field-0.0 (Codec e) c.from_residual.ensures.1 is) in (p, Contains-get_or c.args.positions.now c.loop-i.i 0 c.loop-i-test.true, ap (λ (d : Disk). g.A.Codec.refusal (item_at g.A.CodecFixed.SIZE (bytes_of (shown u) (d (key_of (shown u))).content) p) tt) (sym same) ∙ c.in_err-item.ensures.reads.refused t here e err, subst (λ (d : Disk). IsItemCovered g.A.CodecFixed.SIZE g.S.Seal.seal_of u (d (key_of (shown u))).content p) same (c.in_err-item.ensures.reads.sealed_first t here e err))))
    (read_failed c.from_residual.result c.in_err-item.field-0.0 (g.D.Device.faults c.args.dev.now) (g.D.Device.faults c.loop-i.dev) (g.D.Device.faults c.read_into.new.dev)
    c.from_residual.ensures.1 c.loop-i.invariant.faults c.in_err-item.ensures.reads.cause)

pub returns-in_err-push : goal.returns-in_err-push
returns-in_err-push g c =
    let r = c.from_residual-in_err-push.result in
    let none : r ≡ Err Mem = err_of r Mem c.from_residual-in_err-push.ensures.1 in
    each_failed _ _ _ _ _ _ _ _ _ _ _ r Mem none
    (λ t. (unchanged_then _ _ _ (c.loop-i.invariant.unchanged t) (c.in_ok-item.ensures.reads.unchanged t)))
    (λ none. (let u = c.args.buffer.now in
    let unheld = λ (p : ℕ). not (is_item_held g.A.CodecFixed.SIZE u p) in
    let here = none_here unheld c.args.positions.now c.loop-i.i c.loop-i-test.true none in
    c.in_ok-item.ensures.reads.idle (not-false _ here.1) ∙ c.loop-i.invariant.idle here.0))
    (let u = c.args.buffer.now in
    let X = g.A.CodecFixed.SIZE / u.page_size + 2 in
    let unheld = λ (p : ℕ). not (is_item_held g.A.CodecFixed.SIZE u p) in
    let one = reads_one (key_of (shown u)) X (unheld (get_or c.args.positions.now c.loop-i.i 0)) (g.D.Device.opened c.loop-i.dev) (g.D.Device.opened c.read_into.new.dev)
    (λ held. ap g.D.Device.opened (c.in_ok-item.ensures.reads.idle (not-false _ held))) c.in_ok-item.ensures.reads.reads in
    reads_here unheld c.args.positions.now c.loop-i.i c.loop-i-test.true (key_of (shown u)) X (g.D.Device.opened c.args.dev.now) (g.D.Device.opened c.loop-i.dev) (g.D.Device.opened c.read_into.new.dev) c.loop-i.invariant.reads one)
    (omega (arith, c.loop-i.invariant.faults, c.in_ok-item.ensures.reads.faults)) (λ t backed k at. absurd (cc (none, at))) (λ t backed x at. absurd (cc (none, at))) (err_with r (inr (inr (inl none))))

pub loop-i-preserved : goal.loop-i-preserved
loop-i-preserved g c =
    let u = c.args.buffer.now in
    let xs = c.args.positions.now in
    let i = c.loop-i.i in
    let p = get_or c.args.positions.now c.loop-i.i 0 in
    let d0 = disk (g.D.Device.time c.args.dev.now) in
    let lt : c.loop-i.i < length c.args.positions.now = c.loop-i-test.true in
    let unheld = λ (q : ℕ). not (is_item_held g.A.CodecFixed.SIZE u q) in
    let X = g.A.CodecFixed.SIZE / c.args.buffer.now.page_size + 2 in
    let same = λ (t : g.D.Device.Tells). unchanged_now (g.D.Device.time c.args.dev.now) (g.D.Device.time c.loop-i.dev) (c.loop-i.invariant.unchanged t) in
    let here = λ (t : g.D.Device.Tells) (holds : IsBacked g.S.Seal.seal_of (shown u) (d0 (key_of (shown u))).content). subst (λ (d : Disk). IsBacked g.S.Seal.seal_of (shown u) (d (key_of (shown u))).content) (sym (same t)) holds in
    let pushed : c.push.new.self.items ≡ c.loop-i.items.items ++ c.in_ok-item.item ∷ [] = c.in_ok-push.ensures.items in
    record {
      items = λ t holds. (let F = item_at g.A.CodecFixed.SIZE (bytes_of (shown u) (d0 (key_of (shown u))).content) in
          let one : g.A.Codec.spelling c.in_ok-item.item ≡ item_at g.A.CodecFixed.SIZE (bytes_of (shown u) (d0 (key_of (shown u))).content) p
          = (c.in_ok-item.ensures.reads.item t (here t holds)).spelled ∙ ap (λ (d : Disk). item_at g.A.CodecFixed.SIZE (bytes_of (shown u) (d (key_of (shown u))).content) p) (same t) in
          ap (map g.A.Codec.spelling) pushed ∙ map-append g.A.Codec.spelling c.loop-i.items.items (c.in_ok-item.item ∷ []) ∙ (λ j. c.loop-i.invariant.items t holds j ++ one j ∷ []) ∙ sym (map_more F xs i 0 lt));
      accepted = λ v has. elim (Contains-push_cases c.loop-i.items.items c.in_ok-item.item v (subst (λ (l : List g.row.A.Denot). Contains l v) pushed has)) [
        | inl before ↦ c.loop-i.invariant.accepted v before
        | inr is ↦ subst (λ (w : g.row.A.Denot). g.A.Codec.accepted w tt) is c.in_ok-item.ensures.reads.accepted
      ];
      held = elim (cases_Bool c.in_ok-item.held) [
        | inl is_held ↦ (let one : c.from-held_count.result ≡ 1 = rw is_held at c.from-held_count.ensures in omega (arith, one, c.loop-i.invariant.held, count_by_more_yes (is_item_held g.A.CodecFixed.SIZE u) xs i 0 lt (sym c.in_ok-item.ensures.held ∙ is_held)))
        | inr not_held ↦ (let none : c.from-held_count.result ≡ 0 = rw not_held at c.from-held_count.ensures in omega (arith, none, c.loop-i.invariant.held, count_by_more_no (is_item_held g.A.CodecFixed.SIZE u) xs i 0 lt (sym c.in_ok-item.ensures.held ∙ not_held)))
      ];
      checked = λ t holds. below_more (λ k. IsItemCovered g.A.CodecFixed.SIZE g.S.Seal.seal_of u (d0 (key_of (shown u))).content (get_or xs k 0)) i (c.loop-i.invariant.checked t holds)
          (subst (λ (d : Disk). IsItemCovered g.A.CodecFixed.SIZE g.S.Seal.seal_of u (d (key_of (shown u))).content p) (same t) (c.in_ok-item.ensures.reads.checked t (here t holds)));
      is_open = c.in_ok-item.ensures.reads.reads.length u.end c.loop-i.invariant.is_open;
      unchanged = λ t. unchanged_then _ _ _ (c.loop-i.invariant.unchanged t) (c.in_ok-item.ensures.reads.unchanged t);
      idle = λ none. (let here = none_next unheld xs i lt none in c.in_ok-item.ensures.reads.idle (not-false _ here.1) ∙ c.loop-i.invariant.idle here.0);
      reads = reads_next unheld xs i lt (key_of (shown u)) X (g.D.Device.opened c.args.dev.now) (g.D.Device.opened c.loop-i.dev) (g.D.Device.opened c.read_into.new.dev) c.loop-i.invariant.reads
          (reads_one (key_of (shown u)) X (unheld p) (g.D.Device.opened c.loop-i.dev) (g.D.Device.opened c.read_into.new.dev) (λ held. ap g.D.Device.opened (c.in_ok-item.ensures.reads.idle (not-false _ held))) c.in_ok-item.ensures.reads.reads);
      faults = omega (arith, c.loop-i.invariant.faults, c.in_ok-item.ensures.reads.faults);
    }

pub returns : goal.returns
returns g c =
    let i : c.loop-i.i ≡ length c.args.positions.now = omega (arith, c.loop-i-test.false, c.loop-i.auto.i-end) in
    let all : take c.loop-i.i c.args.positions.now ≡ c.args.positions.now = ap (λ (n : ℕ). take n c.args.positions.now) i ∙ take-length c.args.positions.now in
    record {
      items = λ t backed. ap (map g.A.Codec.spelling) c.from_vec.ensures ∙ c.loop-i.invariant.items t backed ∙ ap (map (item_at g.A.CodecFixed.SIZE (bytes_of (shown c.args.buffer.now) (disk (g.D.Device.time c.args.dev.now) (key_of (shown c.args.buffer.now))).content))) all;
      accepted = λ v has. c.loop-i.invariant.accepted v (subst (λ (l : List g.row.A.Denot). Contains l v) c.from_vec.ensures has);
      held = c.loop-i.invariant.held ∙ ap (λ (l : List ℕ). count_by (is_item_held g.A.CodecFixed.SIZE c.args.buffer.now) l) all;
      checked = λ t holds p has. (let u = c.args.buffer.now in
          let xs = c.args.positions.now in
          subst (λ (q : ℕ). IsItemCovered g.A.CodecFixed.SIZE g.S.Seal.seal_of u (disk (g.D.Device.time c.args.dev.now) (key_of (shown u))).content q) (get_or_default xs has.0 0 p has.1 ∙ has.2)
          (c.loop-i.invariant.checked t holds has.0 (omega (arith, has.1, c.loop-i-test.false))));
      damaged = λ t backed k at. absurd (cc at);
      refused = λ t backed e at. absurd (cc at);
      unchanged = c.loop-i.invariant.unchanged;
      idle = λ none. c.loop-i.invariant.idle (ap (λ (l : List ℕ). count_by (λ p. not (is_item_held g.A.CodecFixed.SIZE c.args.buffer.now p)) l) all ∙ none);
      reads = subst (λ (l : List ℕ). ReadsAtMost (count_by (λ p. not (is_item_held g.A.CodecFixed.SIZE c.args.buffer.now p)) l * (g.A.CodecFixed.SIZE / c.args.buffer.now.page_size + 2)) (key_of (shown c.args.buffer.now)) (g.D.Device.opened c.args.dev.now) (g.D.Device.opened c.loop-i.dev)) all c.loop-i.invariant.reads;
      faults = c.loop-i.invariant.faults;
      cause = tt;
    }

pub overflow_add-held_count : goal.overflow_add-held_count
overflow_add-held_count g c = elim (cases_Bool c.in_ok-item.held) [
  | inl is_held ↦ (let one : c.from-held_count.result ≡ 1 = rw is_held at c.from-held_count.ensures in
      omega (arith, one, c.loop-i.invariant.held, c.well_formed, count_within (is_item_held g.A.CodecFixed.SIZE c.args.buffer.now) c.args.positions.now c.loop-i.i c.loop-i-test.true (sym c.in_ok-item.ensures.held ∙ is_held)))
  | inr not_held ↦ (let none : c.from-held_count.result ≡ 0 = rw not_held at c.from-held_count.ensures in omega (arith, none, c.loop-i.auto.held_count-fits))
]
