use Rattle.sealed_pages.proofs.cutting.Truncating.{no_value}
use Rattle.std.proofs.Common.{rules, ◌≡◌, ◌∙◌, ◌≤◌, ◌<◌, ◌+◌, ◌-◌, ◌*◌, ◌/◌, ◌^◌, min, cond, Err, inl, inr, ℕ, length, refl, ap, sym, subst, arith}
use Rattle.std.proofs.lemmas.Bool.{cases_lt}
use Rattle.std.specs.List.{list_any}
use Rattle.std.specs.Prelude.{nat_eq}
use Rattle.std.specs.Result.{IsErrOf}
use Rattle.blob_device.specs.declared.runtime.RError.{RError}
use Rattle.blob_device.specs.declared.runtime.RError.TheVariants.{InvalidChecksum}
use Rattle.sealed_pages.specs.Entries.{ReadsAtMost}
use Rattle.blob_device.specs.Disk.{Disk}
use Rattle.blob_device.specs.Timeline.{disk}
use borrow.Rule.Slice.PartMut.{put_mid}
use Rattle.std.specs.Map.{keys_of}
use Rattle.sealed_pages.specs.Cached.{held_in, uncached, AreCachedOf}
use Rattle.sealed_pages.proofs.memory.CacheLemmas.{uncached_more, uncached_next}
use Rattle.sealed_pages.specs.Reads.{IsWanted, IsShort, needed}
use Rattle.sealed_pages.specs.SealedPrefix.{place}
use Rattle.sealed_pages.specs.Slots.{page_length}
use Rattle.sealed_pages.specs.View.{view, page_at}
use Rattle.sealed_pages.specs.lemmas.adopted.Adopt.{place_in}
use Rattle.sealed_pages.specs.lemmas.looking.Looking.{unchanged_now, unchanged_then}
use Rattle.sealed_pages.specs.lemmas.looking.Read.{page_before, touched_upto}
use Rattle.sealed_pages.specs.lemmas.Entries.{reads_then, reads_more}
use Rattle.sealed_pages.proofs.looking.ReadLemmas.{index_twice, filled, same_error, step_needed, step_next, step_reached, step_last, step_short, step_wanted}
use Rattle.sealed_pages.specs.SlotNames.{opened_key}
use Rattle.sealed_pages.proofs.range.read_each.Given as given
use Rattle.sealed_pages.proofs.range.read_each.Goals.{After-min-n, After-read_part}
use Rattle.sealed_pages.proofs.range.read_each.Goals as goal
use Rattle.blob_device.proofs.general.Results.{err_of}

pub overflow_add-page : goal.overflow_add-page
overflow_add-page g c =
    let at = c.pages.invariant.place_is c.pages-test.true in
    let below : page_at c.args.source.now.blob.page_size c.pages.page + (c.args.source.now.blob.page_size + 12) < 2 ^ 64 = c.requires.room c.pages.page (omega (arith, at, c.pages-test.true)) in
    omega (arith, below, index_twice c.args.source.now.blob.page_size c.pages.page)

-- how many bytes the page gives
taken : (g : given.Over) (c : After-min-n g) → c.min-n.result ≡ min (length c.args.out.now - c.pages.at) (c.args.source.now.blob.page_size - c.pages.skip)
taken g c = omega (arith, c.min-n.ensures, c.from-size.ensures, c.pages.auto.out)

-- more are wanted
more : (g : given.Over) (c : After-min-n g) → c.pages.at < length c.args.out.now
more g c = omega (arith, c.pages-test.true, c.pages.auto.out)

-- where the next one stands
stands : (g : given.Over) (c : After-min-n g) → c.pages.page * c.args.source.now.blob.page_size + c.pages.skip ≡ c.args.offset + c.pages.at
stands g c = c.pages.invariant.place_is c.pages-test.true

-- no read changed the disk
same : (g : given.Over) (c : After-min-n g) → g.D.Device.Tells → disk (g.D.Device.time c.pages.dev) ≡ disk (g.D.Device.time c.args.dev.now)
same g c t = unchanged_now (g.D.Device.time c.args.dev.now) (g.D.Device.time c.pages.dev) (c.pages.invariant.unchanged t)

-- as many bytes come
long : (g : given.Over) (c : After-read_part g) → length c.read_part.new.out ≡ c.min-n.result
long g c = search rules

-- the reads up to this page
reads : (g : given.Over) (c : After-read_part g) → ReadsAtMost (cond (list_any (nat_eq c.pages.page) (keys_of (held_in c.args.source.now.cache.now))) 0 1) (opened_key c.args.source.now.blob) (g.D.Device.opened c.pages.dev) (g.D.Device.opened c.read_part.new.dev)
    → ReadsAtMost (uncached (keys_of (held_in c.args.source.now.cache.now)) (c.args.offset / c.args.source.now.blob.page_size) (c.pages.page + 1 - c.args.offset / c.args.source.now.blob.page_size)) (opened_key c.args.source.now.blob) (g.D.Device.opened c.args.dev.now) (g.D.Device.opened c.read_part.new.dev)
reads g c one = reads_then _ _ _ _ _ _ _ (uncached_next (keys_of (held_in c.args.source.now.cache.now)) (c.args.offset / c.args.source.now.blob.page_size) c.pages.page c.pages.invariant.from) c.pages.invariant.reads one

pub pages-preserved : goal.pages-preserved
pages-preserved g c =
    let whole : length (put_mid c.pages.at (c.pages.at + c.min-n.result - c.pages.at) c.pages.out c.read_part.new.out) ≡ length c.args.out.now = search rules in
    let held_then : (t : g.D.Device.Tells) → AreCachedOf g.S.Seal.seal_of c.args.source.now.blob.page_size (disk (g.D.Device.time c.args.dev.now) (opened_key c.args.source.now.blob)).content (held_in c.args.source.now.cache.now) → AreCachedOf g.S.Seal.seal_of c.args.source.now.blob.page_size (disk (g.D.Device.time c.pages.dev) (opened_key c.args.source.now.blob)).content (held_in c.args.source.now.cache.now)
    = λ t held. subst (λ (d : Disk). AreCachedOf g.S.Seal.seal_of c.args.source.now.blob.page_size (d (opened_key c.args.source.now.blob)).content (held_in c.args.source.now.cache.now)) (sym (same g (goal.at.pages-preserved g c).After-min-n t)) held in
    record {
      page_buf = search rules;
      within = omega (arith, whole, taken g (goal.at.pages-preserved g c).After-min-n, more g (goal.at.pages-preserved g c).After-min-n);
      in_page = c.requires.some;
      place_is = λ lt. step_next c.args.source.now.blob.page_size c.args.offset (length c.args.out.now) c.pages.page c.pages.skip c.pages.at c.min-n.result c.pages.invariant.in_page (stands g (goal.at.pages-preserved g c).After-min-n) (more g (goal.at.pages-preserved g c).After-min-n) (taken g (goal.at.pages-preserved g c).After-min-n) (omega (arith, lt, whole));
      reached = λ some. (refl, step_reached c.args.source.now.blob.page_size c.args.offset (length c.args.out.now) c.pages.page c.pages.skip c.pages.at c.min-n.result c.pages.invariant.in_page (stands g (goal.at.pages-preserved g c).After-min-n) (more g (goal.at.pages-preserved g c).After-min-n) (taken g (goal.at.pages-preserved g c).After-min-n));
      from = omega (arith, c.pages.invariant.from);
      idle = λ e. absurd (omega (arith, e, taken g (goal.at.pages-preserved g c).After-min-n, more g (goal.at.pages-preserved g c).After-min-n, c.pages.invariant.in_page));
      visited = λ e. absurd (omega (arith, e, taken g (goal.at.pages-preserved g c).After-min-n, more g (goal.at.pages-preserved g c).After-min-n, c.pages.invariant.in_page));
      last = λ some. step_last c.args.source.now.blob.page_size c.args.offset (length c.args.out.now) c.pages.page c.pages.skip c.pages.at c.min-n.result c.pages.invariant.in_page (stands g (goal.at.pages-preserved g c).After-min-n) (more g (goal.at.pages-preserved g c).After-min-n) (taken g (goal.at.pages-preserved g c).After-min-n);
      reads = reads g (goal.at.pages-preserved g c).After-read_part c.in_ok-read_part.ensures.entries;
      faults = omega (arith, c.pages.invariant.faults, c.in_ok-read_part.ensures.faults);
      unchanged = λ t. unchanged_then _ _ _ (c.pages.invariant.unchanged t) (c.in_ok-read_part.ensures.unchanged t);
      bytes = λ t held i lt. filled (λ x. view (disk (g.D.Device.time c.args.dev.now) (opened_key c.args.source.now.blob)).content (place c.args.source.now.blob.page_size (c.args.offset + x))) c.pages.at (c.pages.at + c.min-n.result - c.pages.at) c.pages.out c.read_part.new.out
          (c.pages.invariant.within) (c.pages.invariant.bytes t held)
          (λ j jn.
          let j_in : j < c.min-n.result = omega (arith, jn, long g (goal.at.pages-preserved g c).After-read_part) in
          let inside : c.pages.skip + j < c.args.source.now.blob.page_size = omega (arith, j_in, taken g (goal.at.pages-preserved g c).After-min-n, c.pages.invariant.in_page) in
          let e : c.pages.page * c.args.source.now.blob.page_size + (c.pages.skip + j) ≡ c.args.offset + (c.pages.at + j) = omega (arith, stands g (goal.at.pages-preserved g c).After-min-n) in
          c.in_ok-read_part.ensures.bytes t (held_then t held) j (omega (arith, jn, c.read_part.auto.out)) ∙ ap (λ (d : Disk). view (d (opened_key c.args.source.now.blob)).content (page_at c.args.source.now.blob.page_size c.pages.page + (c.pages.skip + j))) (same g (goal.at.pages-preserved g c).After-min-n t)
          ∙ ap (view (disk (g.D.Device.time c.args.dev.now) (opened_key c.args.source.now.blob)).content) (sym (place_in c.args.source.now.blob.page_size c.pages.page (c.pages.skip + j) inside) ∙ ap (place c.args.source.now.blob.page_size) e))
          i (omega (arith, lt, long g (goal.at.pages-preserved g c).After-read_part));
      covered = λ t held k lt w. elim (cases_lt k c.pages.page) [
        | inl less ↦ subst (λ (x : ℕ). needed c.args.source.now.blob.page_size c.args.offset x k ≤ page_length g.S.Seal.seal_of c.args.source.now.blob.page_size (disk (g.D.Device.time c.args.dev.now) (opened_key c.args.source.now.blob)).content k) (c.pages.auto.out ∙ sym whole)
            (c.pages.invariant.covered t held k less (subst (λ (x : ℕ). IsWanted c.args.source.now.blob.page_size c.args.offset x k) (whole ∙ sym c.pages.auto.out) w))
        | inr le ↦ (let e : k ≡ c.pages.page = omega (arith, le, lt) in
            let need : needed c.args.source.now.blob.page_size c.args.offset (length c.args.out.now) c.pages.page ≡ c.pages.skip + c.min-n.result = step_needed c.args.source.now.blob.page_size c.args.offset (length c.args.out.now) c.pages.page c.pages.skip c.pages.at c.min-n.result c.pages.invariant.in_page (stands g (goal.at.pages-preserved g c).After-min-n) (more g (goal.at.pages-preserved g c).After-min-n) (taken g (goal.at.pages-preserved g c).After-min-n) in
            let to : needed c.args.source.now.blob.page_size c.args.offset (length (put_mid c.pages.at (c.pages.at + c.min-n.result - c.pages.at) c.pages.out c.read_part.new.out)) k ≡ c.pages.skip + c.min-n.result = (λ i. needed c.args.source.now.blob.page_size c.args.offset (whole i) (e i)) ∙ need in
            let has : page_length g.S.Seal.seal_of c.args.source.now.blob.page_size (disk (g.D.Device.time c.pages.dev) (opened_key c.args.source.now.blob)).content c.pages.page ≡ page_length g.S.Seal.seal_of c.args.source.now.blob.page_size (disk (g.D.Device.time c.args.dev.now) (opened_key c.args.source.now.blob)).content k
            = λ i. page_length g.S.Seal.seal_of c.args.source.now.blob.page_size (same g (goal.at.pages-preserved g c).After-min-n t i (opened_key c.args.source.now.blob)).content (sym e i) in
            omega (arith, to, has, c.in_ok-read_part.ensures.covered t (held_then t held), long g (goal.at.pages-preserved g c).After-read_part, c.read_part.auto.out))
      ];
    }

pub returns-in_err-read_part : goal.returns-in_err-read_part
returns-in_err-read_part g c =
    let given = err_of c.from_residual.result c.in_err-read_part.field-0.0 c.from_residual.ensures.1 in
    record {
      bytes = λ t h1. no_value _ _ c.from_residual.ensures.0;
      covered = λ t h1. no_value _ _ c.from_residual.ensures.0;
      short = λ t p e.
          let told : IsErrOf {T = ℕ} {E = RError} (Err c.in_err-read_part.field-0.0) (InvalidChecksum p) = same_error (rw given at e) in
          elim c.in_err-read_part.ensures.cause [
            | inl is ↦ (let page : c.pages.page ≡ p = cc (is, told) in
                let has : page_length g.S.Seal.seal_of c.args.source.now.blob.page_size (disk (g.D.Device.time c.pages.dev) (opened_key c.args.source.now.blob)).content c.pages.page ≡ page_length g.S.Seal.seal_of c.args.source.now.blob.page_size (disk (g.D.Device.time c.args.dev.now) (opened_key c.args.source.now.blob)).content c.pages.page
                = ap (λ (d : Disk). page_length g.S.Seal.seal_of c.args.source.now.blob.page_size (d (opened_key c.args.source.now.blob)).content c.pages.page) (same g (goal.at.returns-in_err-read_part g c).After-min-n t) in
                subst (λ (k : ℕ). IsShort g.S.Seal.seal_of c.args.source.now.blob.page_size (disk (g.D.Device.time c.args.dev.now) (opened_key c.args.source.now.blob)).content c.args.offset (length c.args.out.now) k) page
                (step_short g.S.Seal.seal_of (disk (g.D.Device.time c.args.dev.now) (opened_key c.args.source.now.blob)).content c.args.source.now.blob.page_size c.args.offset (length c.args.out.now) c.pages.page c.pages.skip c.pages.at c.min-n.result c.pages.invariant.in_page (stands g (goal.at.returns-in_err-read_part g c).After-min-n) (more g (goal.at.returns-in_err-read_part g c).After-min-n) (taken g (goal.at.returns-in_err-read_part g c).After-min-n)
                (omega (arith, has, c.in_err-read_part.ensures.short t is, long g (goal.at.returns-in_err-read_part g c).After-read_part, c.read_part.auto.out))))
            | inr (inl mem) ↦ absurd (cc (mem, told))
            | inr (inr (fault, rose)) ↦ absurd (cc (fault, told))
          ];
      unchanged = λ t. unchanged_then _ _ _ (c.pages.invariant.unchanged t) (c.in_err-read_part.ensures.unchanged t);
      none = λ empty. absurd (omega (arith, empty, more g (goal.at.returns-in_err-read_part g c).After-min-n));
      entries =
          reads_more _ _ _ _ _ (uncached_more (keys_of (held_in c.args.source.now.cache.now)) (c.args.offset / c.args.source.now.blob.page_size) (c.pages.page + 1 - c.args.offset / c.args.source.now.blob.page_size) _ (touched_upto c.args.source.now.blob.page_size c.args.offset (length c.args.out.now) c.pages.page c.requires.some (omega (arith, more g (goal.at.returns-in_err-read_part g c).After-min-n)) (omega (arith, stands g (goal.at.returns-in_err-read_part g c).After-min-n, more g (goal.at.returns-in_err-read_part g c).After-min-n))))
          (reads g (goal.at.returns-in_err-read_part g c).After-read_part c.in_err-read_part.ensures.entries);
      faults = omega (arith, c.pages.invariant.faults, c.in_err-read_part.ensures.faults);
      cause = rw given (elim c.in_err-read_part.ensures.cause [
        | inl is ↦ inl (c.pages.page, same_error is, step_wanted c.args.source.now.blob.page_size c.args.offset (length c.args.out.now) c.pages.page c.pages.skip c.pages.at c.min-n.result c.pages.invariant.in_page (stands g (goal.at.returns-in_err-read_part g c).After-min-n) (more g (goal.at.returns-in_err-read_part g c).After-min-n) (taken g (goal.at.returns-in_err-read_part g c).After-min-n))
        | inr (inl mem) ↦ inr (inl (same_error mem))
        | inr (inr (fault, rose)) ↦ inr (inr (same_error fault, omega (arith, rose, c.pages.invariant.faults)))
      ]);
    }

pub returns : goal.returns
returns g c =
    let done : c.pages.at ≡ length c.args.out.now = omega (arith, c.pages-test.false, c.pages.invariant.within, c.pages.auto.out) in
    record {
      bytes = λ t held i lt. c.pages.invariant.bytes t held i (omega (arith, lt, c.pages-test.false, c.pages.auto.out));
      covered = λ t held k w.
          let reached = c.pages.invariant.reached (omega (arith, done, w.some)) in
          let wide : length c.args.out.now ≡ length c.pages.out = sym c.pages.auto.out in
          subst (λ (n : ℕ). needed c.args.source.now.blob.page_size c.args.offset n k ≤ page_length g.S.Seal.seal_of c.args.source.now.blob.page_size (disk (g.D.Device.time c.args.dev.now) (opened_key c.args.source.now.blob)).content k) c.pages.auto.out
          (c.pages.invariant.covered t held k (page_before c.args.source.now.blob.page_size k c.pages.page (omega (arith, w.high, reached.1, done))) (subst (λ (n : ℕ). IsWanted c.args.source.now.blob.page_size c.args.offset n k) wide w));
      short = search rules;
      unchanged = c.pages.invariant.unchanged;
      none = λ empty. c.pages.invariant.idle (omega (arith, empty, done));
      entries =
          elim (cases_lt 0 (length c.args.out.now)) [
            | inl some ↦ (let at : 0 < c.pages.at = omega (arith, done, some) in
                let high : (c.pages.page - 1) * c.args.source.now.blob.page_size < c.args.offset + length c.args.out.now = omega (arith, c.pages.invariant.last at, done) in
                reads_more _ _ _ _ _ (uncached_more (keys_of (held_in c.args.source.now.cache.now)) (c.args.offset / c.args.source.now.blob.page_size) (c.pages.page - c.args.offset / c.args.source.now.blob.page_size) _ (omega (arith, touched_upto c.args.source.now.blob.page_size c.args.offset (length c.args.out.now) (c.pages.page - 1) c.requires.some some high))) c.pages.invariant.reads)
            | inr none ↦ (let e : c.pages.page ≡ c.args.offset / c.args.source.now.blob.page_size = c.pages.invariant.visited (omega (arith, none, c.pages.invariant.within, c.pages.auto.out)) in reads_more _ _ _ _ _ (uncached_more (keys_of (held_in c.args.source.now.cache.now)) (c.args.offset / c.args.source.now.blob.page_size) (c.pages.page - c.args.offset / c.args.source.now.blob.page_size) _ (omega (arith, e))) c.pages.invariant.reads)
          ];
      faults = c.pages.invariant.faults;
      cause = tt;
    }
