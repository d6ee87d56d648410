use Rattle.std.proofs.Common.{◌≡◌, ◌∙◌, ◌+◌, ◌<◌, ◌^◌, ◌++◌, ◌∷◌, [], sym, ap, subst, arith, List, ℕ, length, get_or, length-append, refl, rules}
use Rattle.blob_device.specs.Disk.{Key}
use Rattle.blob_device.specs.Timeline.{Timeline, disk, Always, OnlyAt, Stretches}
use Rattle.append_log.specs.Appended.{Grown, grown, Appending, LeavesFirst, Holds}
use Rattle.append_log.proofs.Grows.{grown_start, grown_size, run_more, others_more, grown_more}
use Rattle.append_log.proofs.log.append_all.Goals as goal

pub records-init : goal.records-init
records-init g c =
    let k : Key = (c.args.partition.now, c.args.name.now) in
    let first : Timeline = g.D.Device.time c.args.dev.now in
    let none : c.new-marks.result.items ≡ [] = search rules in
    record {
      faults = omega arith;
      count = ap length none;
      entries = λ q other. refl;
      told = λ t. subst (λ (marks : List ℕ). Grown k (disk first k).content c.args.records.now first first marks) (sym none) (grown_start k c.args.records.now first (c.requires t));
      room = λ t lt. absurd (omega (arith, lt));
    }

pub returns-in-Err-clause-others : goal.returns-in-Err-clause-others
returns-in-Err-clause-others g c t =
    let k : Key = (c.args.partition.now, c.args.name.now) in
    let first : Timeline = g.D.Device.time c.args.dev.now in
    let before : Timeline = g.D.Device.time c.records.dev in
    let records = c.args.records.now in
    let marks = c.records.marks.items in
    let lt : length marks < length records = omega (arith, c.records.invariant.count, c.records-test.true) in
    let is : c.record-item.result ≡ get_or records (length marks) c.record-item.result = c.record-item.is ∙ ap (λ (i : ℕ). get_or records i c.record-item.result) (sym c.records.invariant.count) in
    let adding = λ (t : g.D.Device.Tells). subst (λ (r : List ℕ). Always before (g.D.Device.time c.append.new.dev) (OnlyAt k (disk before) (LeavesFirst (disk before k).content (length (disk before k).content + length r)))) c.as_slice.ensures.value (c.append.ensures.any_moment t) in
    others_more k (disk first k).content records first before (g.D.Device.time c.append.new.dev) marks c.record-item.result (c.records.invariant.told t) lt is (adding t)

pub returns-in-Err-clause-any_moment : goal.returns-in-Err-clause-any_moment
returns-in-Err-clause-any_moment g c t =
    let k : Key = (c.args.partition.now, c.args.name.now) in
    let first : Timeline = g.D.Device.time c.args.dev.now in
    let before : Timeline = g.D.Device.time c.records.dev in
    let records = c.args.records.now in
    let marks = c.records.marks.items in
    let lt : length marks < length records = omega (arith, c.records.invariant.count, c.records-test.true) in
    let is : c.record-item.result ≡ get_or records (length marks) c.record-item.result = c.record-item.is ∙ ap (λ (i : ℕ). get_or records i c.record-item.result) (sym c.records.invariant.count) in
    let adding = λ (t : g.D.Device.Tells). subst (λ (r : List ℕ). Always before (g.D.Device.time c.append.new.dev) (OnlyAt k (disk before) (LeavesFirst (disk before k).content (length (disk before k).content + length r)))) c.as_slice.ensures.value (c.append.ensures.any_moment t) in
    let pushed : c.push.new.self.items ≡ marks ++ before.calls ∷ [] = search rules in
    subst (λ (l : List ℕ). Stretches first (g.D.Device.time c.append.new.dev) l (Appending k (disk first) (disk first k).content records)) (sym pushed)
    (run_more k (disk first k).content records first before (g.D.Device.time c.append.new.dev) marks c.record-item.result (c.records.invariant.told t) lt is (adding t))

pub records-preserved : goal.records-preserved
records-preserved g c =
    let k : Key = (c.args.partition.now, c.args.name.now) in
    let first : Timeline = g.D.Device.time c.args.dev.now in
    let before : Timeline = g.D.Device.time c.records.dev in
    let records = c.args.records.now in
    let marks = c.records.marks.items in
    let lt : length marks < length records = omega (arith, c.records.invariant.count, c.records-test.true) in
    let is : c.record-item.result ≡ get_or records (length marks) c.record-item.result = c.record-item.is ∙ ap (λ (i : ℕ). get_or records i c.record-item.result) (sym c.records.invariant.count) in
    let adding = λ (t : g.D.Device.Tells). subst (λ (r : List ℕ). Always before (g.D.Device.time c.append.new.dev) (OnlyAt k (disk before) (LeavesFirst (disk before k).content (length (disk before k).content + length r)))) c.as_slice.ensures.value (c.append.ensures.any_moment t) in
    let pushed : c.push.new.self.items ≡ marks ++ before.calls ∷ [] = search rules in
    record {
      faults = omega (arith, c.records.invariant.faults, c.append.ensures.faults);
      count = omega (arith, ap length pushed, length-append marks (before.calls ∷ []), c.records.invariant.count);
      entries = λ q other. c.append.ensures.other_entries q other ∙ c.records.invariant.entries q other;
      told = λ t. subst (λ (l : List ℕ). Grown k (disk first k).content records first (g.D.Device.time c.append.new.dev) l) (sym pushed)
          (grown_more k (disk first k).content records first before (g.D.Device.time c.append.new.dev) marks c.record-item.result (c.records.invariant.told t) lt is (adding t)
          (subst (λ (r : List ℕ). Holds ((disk before k).content ++ r) (disk (g.D.Device.time c.append.new.dev) k)) c.as_slice.ensures.value (c.in-Ok.ensures.done t)));
      room = λ t some. omega (
        arith,
        c.in-Ok.ensures.room t,
        ap length c.as_slice.ensures.value,
        grown_size (disk first k).content (disk before k).content records (length marks) c.record-item.result lt is (c.records.invariant.told t).holds.content,
        ap (λ (n : ℕ). length (grown (disk first k).content records (n + 1))) c.records.invariant.count,
      );
    }

pub returns-in-Err-clause-full : goal.returns-in-Err-clause-full
returns-in-Err-clause-full g c t is_full =
    let k : Key = (c.args.partition.now, c.args.name.now) in
    let first : Timeline = g.D.Device.time c.args.dev.now in
    let before : Timeline = g.D.Device.time c.records.dev in
    let records = c.args.records.now in
    let marks = c.records.marks.items in
    let lt : length marks < length records = omega (arith, c.records.invariant.count, c.records-test.true) in
    let is : c.record-item.result ≡ get_or records (length marks) c.record-item.result = c.record-item.is ∙ ap (λ (i : ℕ). get_or records i c.record-item.result) (sym c.records.invariant.count) in
    let pushed : c.push.new.self.items ≡ marks ++ before.calls ∷ [] = search rules in
    let count : length c.push.new.self.items ≡ length marks + 1 = omega (arith, ap length pushed, length-append marks (before.calls ∷ [])) in
    omega (
      arith,
      c.append.ensures.full t (c.in-Err.is ∙ is_full),
      ap length c.as_slice.ensures.value,
      grown_size (disk first k).content (disk before k).content records (length marks) c.record-item.result lt is (c.records.invariant.told t).holds.content,
      ap (λ (n : ℕ). length (grown (disk first k).content records n)) count,
    )

pub returns-clause-room : goal.returns-clause-room
returns-clause-room g c t some =
    let k : Key = (c.args.partition.now, c.args.name.now) in
    let base = (disk (g.D.Device.time c.args.dev.now) k).content in
    let end : c.records.record-index ≡ length c.args.records.now = omega (arith, c.records-test.false, c.records.auto.record-index-end) in
    subst (λ (n : ℕ). length (grown base c.args.records.now n) < 2 ^ 64) end (c.records.invariant.room t (omega (arith, some, end)))
