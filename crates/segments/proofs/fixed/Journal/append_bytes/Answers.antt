-- The section is taken, its buffer adds the bytes, and is put back.
use Rattle.std.proofs.Common.{◌≡◌, ◌≢◌, ◌∙◌, ◌+◌, ◌/◌, ◌^◌, ◌++◌, inl, inr, IsSome, length, List, ℕ, Err, refl, sym, ap, subst, arith}
use Rattle.std.proofs.lemmas.Bool.{cases_lt}
use Rattle.blob_device.specs.declared.runtime.RError.TheVariants.{OffsetOverflow}
use Rattle.blob_device.specs.Disk.{Key}
use Rattle.blob_device.specs.Timeline.{disk}
use Rattle.blob_device.specs.lemmas.Moments.{always_now}
use Rattle.sealed_pages.specs.Buffer as pages
use Rattle.sealed_pages.specs.Buffer.{extent, bytes_of, IsSealed}
use Rattle.sealed_pages.specs.Entries.{IsOpenAt}
use Rattle.sealed_pages.specs.Shown as page_blob
use Rattle.sealed_pages.specs.Tails.{LeavesTail}
use Rattle.sealed_pages.specs.Unrecovered.{IsAdopted, IsUnrecovered}
use Rattle.sealed_pages.specs.declared.page_blob.PageBlob.{PageBlob}
use Rattle.sealed_pages.specs.lemmas.Unrecovered.{adopted_backed}
use Rattle.section_manager.specs.lemmas.sections.Lent.{lent_back}
use Rattle.segments.specs.lemmas.adding.Adding.{Took, along_taken, along_untaken, error_is, failed, mem_not_full, mem_not_pruned, too_many, too_many_taken, took_of}
use Rattle.segments.specs.lemmas.adding.Append.{Added, added_stands, append_journal, taken_adopted, taken_bytes, taken_size, taken_still}
use Rattle.segments.specs.lemmas.adding.Write.{are_pages, bytes_here, size_here}
use Rattle.segments.specs.lemmas.held.Passing.{guard_ok, guard_on, no_error}
use Rattle.section_manager.specs.Sealed.{Stands}
use Rattle.section_manager.specs.Sections.{section_key, key_of}
use Rattle.section_manager.specs.declared.journal.Error.{Error}
use Rattle.section_manager.specs.declared.journal.Error.TheVariants.{Full, Mem}
use Rattle.section_manager.specs.managing.Managed as managed
use Rattle.section_manager.specs.lemmas.Keys.{keys_differ}
use Rattle.segments.specs.FixedFull.{full_or_raised_of}
use Rattle.segments.specs.FixedLists.{section_size}
use Rattle.segments.specs.FixedShown.{shown}
use Rattle.segments.proofs.adding.Adding.{buffer_error, buffer_well, taken_cause, taken_not_full, why_cause, why_not_pruned, why_of}
use Rattle.segments.proofs.adding.AppendLemmas.{appended_adopted, at_ok, full_is, same_setting, was_err, was_ok}
use Rattle.segments.proofs.held.Calls.{bounds_then, same_then}
use Rattle.segments.proofs.adding.Spared.{bytes_spared}
use Rattle.segments.proofs.adding.TailLemmas.{appended_tail}
use Rattle.segments.proofs.fixed.Journal.append_bytes.Goals as goal
use Rattle.blob_device.proofs.general.Options.{some_same}
use Rattle.blob_device.proofs.general.Results.{err_of}

pub put-requires-clause-floor : goal.put-requires-clause-floor
put-requires-clause-floor g c = elim (cases_lt c.args.section (shown c.args.self).sections.floor) [
  | inl lt ↦ absurd (no_error _ _ (c.in_ok-buffer.ensures.guard.1 lt))
  | inr le ↦ omega (arith, le, c.take.ensures.bounds.floor)
]

pub returns-in_err-buffer : goal.returns-in_err-buffer
returns-in_err-buffer g c =
    let e = c.in_err-buffer.field-0.0 in
    let o = c.in_err-buffer.ensures in
    let along = along_untaken g.S.Seal.seal_of g.A.CodecFixed.SIZE _ (are_pages g.row.S g.S.Seal g.S.Seal-dict) _ g.D.Device (shown c.args.self) c.args.section c.args.dev.now c.requires.over c.requires.recovered c.args.bytes.now c.take.new.dev c.take.ensures.untouched c.take.ensures.moments c.take.ensures.entries c.take.ensures.faults (length c.args.bytes.now) in
    rw (err_of c.from_residual.result e c.from_residual.ensures.1)
    (failed g.S.Seal.seal_of g.A.CodecFixed.SIZE _ (are_pages g.row.S g.S.Seal g.S.Seal-dict) _ g.D.Device (shown c.args.self) c.args.section c.args.dev.now c.requires.over c.requires.recovered c.args.bytes.now (length c.args.bytes.now) _ _ c.take.new.dev e along (guard_on _ e _ _ refl o.guard) c.take.ensures.refuses
    (λ is which. absurd (taken_not_full e _ _ _ o.cause is))
    (λ le w held big. inr (ap Err (error_is e Mem (o.held_cause (subst IsSome (sym held) refl)))))
    (taken_cause e _ _ _ o.cause))

pub returns-in_err-buffer-2 : goal.returns-in_err-buffer-2
returns-in_err-buffer-2 g c =
    let took : Took g.S.Seal.seal_of g.A.CodecFixed.SIZE _ (are_pages g.row.S g.S.Seal g.S.Seal-dict) _ g.D.Device (shown c.args.self) c.args.section c.args.dev.now c.requires.over c.requires.recovered c.args.bytes.now c.take.new.dev c.in_ok-buffer.buffer = took_of g.S.Seal.seal_of g.A.CodecFixed.SIZE _ (are_pages g.row.S g.S.Seal g.S.Seal-dict) _ g.D.Device (shown c.args.self) c.args.section c.args.dev.now c.requires.over c.requires.recovered c.args.bytes.now c.take.new.dev c.in_ok-buffer.buffer c.in_ok-buffer.ensures.same c.take.ensures.untouched c.in_ok-buffer.ensures.stands c.in_ok-buffer.ensures.made c.in_ok-buffer.ensures.bytes c.in_ok-buffer.ensures.key (λ i. (c.in_ok-buffer.ensures.setting i).page_size) c.take.ensures.moments c.take.ensures.entries c.take.ensures.faults in
    let along = along_taken g.S.Seal.seal_of g.A.CodecFixed.SIZE _ (are_pages g.row.S g.S.Seal g.S.Seal-dict) _ g.D.Device (shown c.args.self) c.args.section c.args.dev.now c.requires.over c.requires.recovered c.args.bytes.now c.ranges.section.fits c.take.new.dev c.in_ok-buffer.buffer took c.append.new.dev c.append.ensures.crashes c.append.ensures.steady c.append.ensures.alone c.append.ensures.below c.append.ensures.entries.others c.append.ensures.faults in
    let e = c.in_err-buffer-2.field-0.0 in
    let was = was_err c.append.result e full_or_raised_of c.in_err-buffer-2.ensures.cases in
    let why = why_of c.append.result e was.0 (g.D.Device.faults c.take.new.dev) (g.D.Device.faults c.append.new.dev) was.1 was.2 c.append.ensures.cause in
    rw (err_of c.from_residual-in_err-buffer-2.result e c.from_residual-in_err-buffer-2.ensures.1)
    (failed g.S.Seal.seal_of g.A.CodecFixed.SIZE _ (are_pages g.row.S g.S.Seal g.S.Seal-dict) _ g.D.Device (shown c.args.self) c.args.section c.args.dev.now c.requires.over c.requires.recovered c.args.bytes.now (length c.args.bytes.now) _ _ c.append.new.dev e along
    (λ pruned. absurd (why_not_pruned e _ _ why _ pruned), λ lt. absurd (no_error _ _ (c.in_ok-buffer.ensures.guard.1 lt))) (λ lt. absurd (no_error _ _ (c.in_ok-buffer.ensures.guard.1 lt)))
    (λ is which. (let full : e ≡ Full = error_is e Full is in let over : was.0 ≡ OffsetOverflow = full_is was.0 (sym was.2 ∙ full) in
    too_many g.S.Seal.seal_of g.A.CodecFixed.SIZE _ (are_pages g.row.S g.S.Seal g.S.Seal-dict) _ g.D.Device (shown c.args.self) c.args.section c.args.dev.now c.requires.over c.requires.recovered c.args.bytes.now c.ranges.section.fits c.take.new.dev c.in_ok-buffer.buffer took (c.append.ensures.overflow.0 (was.1 ∙ ap Err over)) which))
    (λ le w held big. (let over : was.0 ≡ OffsetOverflow = buffer_error c.append.result was.0 OffsetOverflow was.1 (c.append.ensures.overflow.1 (too_many_taken g.S.Seal.seal_of g.A.CodecFixed.SIZE _ (are_pages g.row.S g.S.Seal g.S.Seal-dict) _ g.D.Device (shown c.args.self) c.args.section c.args.dev.now c.requires.over c.requires.recovered c.args.bytes.now c.ranges.section.fits c.take.new.dev c.in_ok-buffer.buffer took w held big)) in inl (ap Err (was.2 ∙ ap full_or_raised_of over))))
    (why_cause e _ _ why _ _ c.take.ensures.faults))

pub returns-in_err-put : goal.returns-in_err-put
returns-in_err-put g c =
    let took : Took g.S.Seal.seal_of g.A.CodecFixed.SIZE _ (are_pages g.row.S g.S.Seal g.S.Seal-dict) _ g.D.Device (shown c.args.self) c.args.section c.args.dev.now c.requires.over c.requires.recovered c.args.bytes.now c.take.new.dev c.in_ok-buffer.buffer = took_of g.S.Seal.seal_of g.A.CodecFixed.SIZE _ (are_pages g.row.S g.S.Seal g.S.Seal-dict) _ g.D.Device (shown c.args.self) c.args.section c.args.dev.now c.requires.over c.requires.recovered c.args.bytes.now c.take.new.dev c.in_ok-buffer.buffer c.in_ok-buffer.ensures.same c.take.ensures.untouched c.in_ok-buffer.ensures.stands c.in_ok-buffer.ensures.made c.in_ok-buffer.ensures.bytes c.in_ok-buffer.ensures.key (λ i. (c.in_ok-buffer.ensures.setting i).page_size) c.take.ensures.moments c.take.ensures.entries c.take.ensures.faults in
    let along = along_taken g.S.Seal.seal_of g.A.CodecFixed.SIZE _ (are_pages g.row.S g.S.Seal g.S.Seal-dict) _ g.D.Device (shown c.args.self) c.args.section c.args.dev.now c.requires.over c.requires.recovered c.args.bytes.now c.ranges.section.fits c.take.new.dev c.in_ok-buffer.buffer took c.append.new.dev c.append.ensures.crashes c.append.ensures.steady c.append.ensures.alone c.append.ensures.below c.append.ensures.entries.others c.append.ensures.faults in
    let e = c.in_err-put.field-0.0 in
    let mem : e ≡ Mem = error_is e Mem c.in_err-put.ensures.cause in
    rw (err_of c.from_residual-in_err-put.result e c.from_residual-in_err-put.ensures.1)
    (failed g.S.Seal.seal_of g.A.CodecFixed.SIZE _ (are_pages g.row.S g.S.Seal g.S.Seal-dict) _ g.D.Device (shown c.args.self) c.args.section c.args.dev.now c.requires.over c.requires.recovered c.args.bytes.now (length c.args.bytes.now) _ _ c.append.new.dev e along
    (λ pruned. absurd (mem_not_pruned e mem _ pruned), λ lt. absurd (no_error _ _ (c.in_ok-buffer.ensures.guard.1 lt))) (λ lt. absurd (no_error _ _ (c.in_ok-buffer.ensures.guard.1 lt)))
    (λ is which. absurd (mem_not_full e mem is)) (λ le w held big. inr (ap Err mem)) (inr (inr (inl (ap Err mem)))))

pub returns : goal.returns
returns g c =
    let took : Took g.S.Seal.seal_of g.A.CodecFixed.SIZE _ (are_pages g.row.S g.S.Seal g.S.Seal-dict) _ g.D.Device (shown c.args.self) c.args.section c.args.dev.now c.requires.over c.requires.recovered c.args.bytes.now c.take.new.dev c.in_ok-buffer.buffer = took_of g.S.Seal.seal_of g.A.CodecFixed.SIZE _ (are_pages g.row.S g.S.Seal g.S.Seal-dict) _ g.D.Device (shown c.args.self) c.args.section c.args.dev.now c.requires.over c.requires.recovered c.args.bytes.now c.take.new.dev c.in_ok-buffer.buffer c.in_ok-buffer.ensures.same c.take.ensures.untouched c.in_ok-buffer.ensures.stands c.in_ok-buffer.ensures.made c.in_ok-buffer.ensures.bytes c.in_ok-buffer.ensures.key (λ i. (c.in_ok-buffer.ensures.setting i).page_size) c.take.ensures.moments c.take.ensures.entries c.take.ensures.faults in
    let along = along_taken g.S.Seal.seal_of g.A.CodecFixed.SIZE _ (are_pages g.row.S g.S.Seal g.S.Seal-dict) _ g.D.Device (shown c.args.self) c.args.section c.args.dev.now c.requires.over c.requires.recovered c.args.bytes.now c.ranges.section.fits c.take.new.dev c.in_ok-buffer.buffer took c.append.new.dev c.append.ensures.crashes c.append.ensures.steady c.append.ensures.alone c.append.ensures.below c.append.ensures.entries.others c.append.ensures.faults in
    let v = c.in_ok-buffer-2.buffer in
    let ok = was_ok Error c.append.result (v, c.in_ok-buffer-2.offset) c.in_ok-buffer-2.ensures.cases in
    let put = c.in_ok-put.ensures.put in
    let m = (shown c.args.self).sections in
    let p = managed.shown c.put.new.self in
    let key = key_of m c.args.section in
    let now = g.D.Device.time c.take.new.dev in
    let end = g.D.Device.time c.append.new.dev in
    let bounds = bounds_then m (managed.shown c.take.new.self) p c.take.ensures.bounds put.bounds in
    let same = λ (q : ℕ) (other : q ≢ c.args.section). same_then m (managed.shown c.take.new.self) p q (c.take.ensures.others q other) (put.others q other) in
    let adopted : g.D.Device.Tells → IsAdopted g.S.Seal.seal_of (page_blob.shown c.in_ok-buffer.buffer) (disk now (pages.key_of (page_blob.shown c.in_ok-buffer.buffer))) = λ t. subst (λ (q : Key). IsAdopted g.S.Seal.seal_of (page_blob.shown c.in_ok-buffer.buffer) (disk now q)) (sym c.in_ok-buffer.ensures.key)
    (taken_adopted g.S.Seal.seal_of g.A.CodecFixed.SIZE g.D.Device.Tells _ (are_pages g.row.S g.S.Seal g.S.Seal-dict) _ (shown c.args.self) (g.D.Device.opened c.args.dev.now) (g.D.Device.time c.args.dev.now) c.requires.over c.args.section c.requires.recovered c.ranges.section.fits now c.in_ok-buffer.buffer took.takes t) in
    let added : Added g.S.Seal.seal_of g.A.CodecFixed.SIZE g.D.Device.Tells _ (are_pages g.row.S g.S.Seal g.S.Seal-dict) _ (shown c.args.self) (g.D.Device.opened c.args.dev.now) (g.D.Device.time c.args.dev.now) c.requires.over c.args.section c.requires.recovered c.ranges.section.fits now c.in_ok-buffer.buffer took.takes (length c.args.bytes.now) end v = record {
      few = c.requires.whole;
      idle = λ flushes. ap (λ (x : g.row.D.Denot). disk (g.D.Device.time x)) (c.append.ensures.below flushes);
      adopted = λ t. subst (λ (q : Key). IsAdopted g.S.Seal.seal_of (page_blob.shown v) (disk end q)) c.in_ok-buffer.ensures.key
          (appended_adopted g.S.Seal.seal_of (page_blob.shown c.in_ok-buffer.buffer) (page_blob.shown v) (disk now (pages.key_of (page_blob.shown c.in_ok-buffer.buffer))) (disk end (pages.key_of (page_blob.shown c.in_ok-buffer.buffer)))
          (λ is. at_ok c.append.result (v, c.in_ok-buffer-2.offset) (λ (x : PageBlob g.row.S.Denot g.S.Seal × ℕ). IsSealed g.S.Seal.seal_of (page_blob.shown x.0) (disk end (pages.key_of (page_blob.shown c.in_ok-buffer.buffer)))) ok (c.append.ensures.sealed t is))
          (λ is. at_ok c.append.result (v, c.in_ok-buffer-2.offset) (λ (x : PageBlob g.row.S.Denot g.S.Seal × ℕ). IsUnrecovered g.S.Seal.seal_of (page_blob.shown x.0) (disk end (pages.key_of (page_blob.shown c.in_ok-buffer.buffer)))) ok (c.append.ensures.unrecovered t is))
          (adopted t));
      sealed = λ t is. subst (λ (q : Key). IsSealed g.S.Seal.seal_of (page_blob.shown v) (disk end q)) c.in_ok-buffer.ensures.key
          (at_ok c.append.result (v, c.in_ok-buffer-2.offset) (λ (x : PageBlob g.row.S.Denot g.S.Seal × ℕ). IsSealed g.S.Seal.seal_of (page_blob.shown x.0) (disk end (pages.key_of (page_blob.shown c.in_ok-buffer.buffer)))) ok
          (c.append.ensures.sealed t (subst (λ (q : Key). IsSealed g.S.Seal.seal_of (page_blob.shown c.in_ok-buffer.buffer) (disk now q)) (sym c.in_ok-buffer.ensures.key) is)));
      long = at_ok c.append.result (v, c.in_ok-buffer-2.offset) (λ (x : PageBlob g.row.S.Denot g.S.Seal × ℕ). pages.size_of (page_blob.shown x.0) ≡ pages.size_of (page_blob.shown c.in_ok-buffer.buffer) + (length c.args.bytes.now)) ok c.append.ensures.size;
      settled = at_ok c.append.result (v, c.in_ok-buffer-2.offset) (λ (x : PageBlob g.row.S.Denot g.S.Seal × ℕ). x.0.settled ≡ c.in_ok-buffer.buffer.settled) ok c.append.ensures.settled;
      others = λ t q other. (always_now now end _ (c.append.ensures.alone t (adopted_backed g.S.Seal.seal_of (page_blob.shown c.in_ok-buffer.buffer) (disk now (pages.key_of (page_blob.shown c.in_ok-buffer.buffer))) (adopted t)))).others q (λ is. other (is ∙ c.in_ok-buffer.ensures.key));
      before = λ t q other. (always_now (g.D.Device.time c.args.dev.now) now _ (c.take.ensures.moments t)).others q other;
    } in
    let lent = lent_back _ _ g.D.Device m c.args.section (managed.shown c.take.new.self) c.args.dev.now c.take.new.dev c.in_ok-buffer.buffer c.in_ok-buffer.ensures c.append.new.dev v p (omega (arith, c.requires.recovered.below)) (record {
      touches = record {
        entries = c.append.ensures.entries.others;
        blobs = λ t q other. (always_now now end _ (c.append.ensures.alone t (adopted_backed g.S.Seal.seal_of (page_blob.shown c.in_ok-buffer.buffer) (disk now (pages.key_of (page_blob.shown c.in_ok-buffer.buffer))) (adopted t)))).others q other;
      };
      key = at_ok c.append.result (v, c.in_ok-buffer-2.offset) (λ (x : PageBlob g.row.S.Denot g.S.Seal × ℕ). pages.key_of (page_blob.shown x.0) ≡ pages.key_of (page_blob.shown c.in_ok-buffer.buffer)) ok c.append.ensures.key;
      setting = same_setting v.page_size c.in_ok-buffer.buffer.page_size v.capacity c.in_ok-buffer.buffer.capacity (page_blob.shown v).cache_pages (page_blob.shown c.in_ok-buffer.buffer).cache_pages (at_ok c.append.result (v, c.in_ok-buffer-2.offset) (λ (x : PageBlob g.row.S.Denot g.S.Seal × ℕ). x.0.page_size ≡ c.in_ok-buffer.buffer.page_size) ok c.append.ensures.page_size) (at_ok c.append.result (v, c.in_ok-buffer-2.offset) (λ (x : PageBlob g.row.S.Denot g.S.Seal × ℕ). x.0.capacity ≡ c.in_ok-buffer.buffer.capacity) ok c.append.ensures.capacity) (at_ok c.append.result (v, c.in_ok-buffer-2.offset) (λ (x : PageBlob g.row.S.Denot g.S.Seal × ℕ). (page_blob.shown x.0).cache_pages ≡ (page_blob.shown c.in_ok-buffer.buffer).cache_pages) ok c.append.ensures.cache_pages);
      «open» = subst (λ (q : Key). IsOpenAt (g.D.Device.opened c.append.new.dev) q v.end) (at_ok c.append.result (v, c.in_ok-buffer-2.offset) (λ (x : PageBlob g.row.S.Denot g.S.Seal × ℕ). pages.key_of (page_blob.shown x.0) ≡ pages.key_of (page_blob.shown c.in_ok-buffer.buffer)) ok c.append.ensures.key) (at_ok c.append.result (v, c.in_ok-buffer-2.offset) (λ (x : PageBlob g.row.S.Denot g.S.Seal × ℕ). IsOpenAt (g.D.Device.opened c.append.new.dev) (pages.key_of (page_blob.shown x.0)) x.0.end) ok c.append.ensures.«open»);
      stands = λ t. subst (λ (q : Key). Stands g.S.Seal.seal_of (page_blob.shown v) (disk end q)) (sym c.in_ok-buffer.ensures.key) (added_stands g.S.Seal.seal_of g.A.CodecFixed.SIZE g.D.Device.Tells _ (are_pages g.row.S g.S.Seal g.S.Seal-dict) _ (shown c.args.self) (g.D.Device.opened c.args.dev.now) (g.D.Device.time c.args.dev.now) c.requires.over c.args.section c.requires.recovered c.ranges.section.fits now c.in_ok-buffer.buffer took.takes (length c.args.bytes.now) end v added t);
    }) put in
    record {
      over = append_journal g.S.Seal.seal_of g.A.CodecFixed.SIZE g.D.Device.Tells _ (are_pages g.row.S g.S.Seal g.S.Seal-dict) _ (shown c.args.self) (g.D.Device.opened c.args.dev.now) (g.D.Device.time c.args.dev.now) c.requires.over c.args.section c.requires.recovered c.ranges.section.fits now c.in_ok-buffer.buffer took.takes (length c.args.bytes.now) (managed.shown c.take.new.self) c.take.ensures.others c.take.ensures.bounds end v (g.D.Device.opened c.append.new.dev) added _ lent.over put (λ q. refl) (λ q. refl);
      position = λ which. (let offset : c.in_ok-buffer-2.offset ≡ section_size m c.args.section = at_ok c.append.result (v, c.in_ok-buffer-2.offset) (λ (x : PageBlob g.row.S.Denot g.S.Seal × ℕ). x.1 ≡ pages.size_of (page_blob.shown c.in_ok-buffer.buffer)) ok c.append.ensures.at
          ∙ taken_size g.S.Seal.seal_of g.A.CodecFixed.SIZE g.D.Device.Tells _ (are_pages g.row.S g.S.Seal g.S.Seal-dict) _ (shown c.args.self) (g.D.Device.opened c.args.dev.now) (g.D.Device.time c.args.dev.now) c.requires.over c.args.section c.requires.recovered c.ranges.section.fits now c.in_ok-buffer.buffer took.takes which in
          ap (λ (x : ℕ). x / c.SIZE.result) offset ∙ ap (λ (x : ℕ). section_size m c.args.section / x) c.SIZE.ensures);
      size = λ which. size_here p c.args.section v put.here ∙ added.long ∙ ap (λ (x : ℕ). x + (length c.args.bytes.now)) (taken_size g.S.Seal.seal_of g.A.CodecFixed.SIZE g.D.Device.Tells _ (are_pages g.row.S g.S.Seal g.S.Seal-dict) _ (shown c.args.self) (g.D.Device.opened c.args.dev.now) (g.D.Device.time c.args.dev.now) c.requires.over c.args.section c.requires.recovered c.ranges.section.fits now c.in_ok-buffer.buffer took.takes which);
      bytes = λ t. bytes_here p c.args.section v put.here (disk end)
          ∙ ap (λ (q : List ℕ). bytes_of (page_blob.shown v) (disk end (section_key q c.args.section)).content) bounds.place.partition
          ∙ ap (λ (q : Key). bytes_of (page_blob.shown v) (disk end q).content) (sym c.in_ok-buffer.ensures.key)
          ∙ at_ok c.append.result (v, c.in_ok-buffer-2.offset) (λ (x : PageBlob g.row.S.Denot g.S.Seal × ℕ). bytes_of (page_blob.shown x.0) (disk end (pages.key_of (page_blob.shown c.in_ok-buffer.buffer))).content ≡ bytes_of (page_blob.shown c.in_ok-buffer.buffer) (disk now (pages.key_of (page_blob.shown c.in_ok-buffer.buffer))).content ++ c.args.bytes.now) ok
          (c.append.ensures.bytes t (adopted_backed g.S.Seal.seal_of (page_blob.shown c.in_ok-buffer.buffer) (disk now (pages.key_of (page_blob.shown c.in_ok-buffer.buffer))) (adopted t)))
          ∙ ap (λ (q : Key). bytes_of (page_blob.shown c.in_ok-buffer.buffer) (disk now q).content ++ c.args.bytes.now) c.in_ok-buffer.ensures.key
          ∙ ap (λ (l : List ℕ). l ++ c.args.bytes.now) (taken_bytes g.S.Seal.seal_of g.A.CodecFixed.SIZE g.D.Device.Tells _ (are_pages g.row.S g.S.Seal g.S.Seal-dict) _ (shown c.args.self) (g.D.Device.opened c.args.dev.now) (g.D.Device.time c.args.dev.now) c.requires.over c.args.section c.requires.recovered c.ranges.section.fits now c.in_ok-buffer.buffer took.takes t);
      tail = appended_tail m c.args.section c.in_ok-buffer.buffer c.in_ok-buffer.ensures.same c.in_ok-buffer.ensures.idle p v (length c.args.bytes.now) (length c.args.bytes.now) put.here (λ i. (c.in_ok-buffer.ensures.setting i).capacity) refl
          (at_ok c.append.result (v, c.in_ok-buffer-2.offset) (λ (x : PageBlob g.row.S.Denot g.S.Seal × ℕ). LeavesTail (page_blob.shown c.in_ok-buffer.buffer) (length c.args.bytes.now) (page_blob.shown x.0)) ok c.append.ensures.tail);
      held = subst IsSome (sym put.here) refl;
      settled = λ w x held after. (let is : v ≡ x = some_same v x (sym put.here ∙ after) in
          subst (λ (y : PageBlob g.row.S.Denot g.S.Seal). y.settled ≡ w.settled) is
          (subst (λ (y : PageBlob g.row.S.Denot g.S.Seal). v.settled ≡ y.settled) (c.in_ok-buffer.ensures.same w held) added.settled));
      others = same;
      spares = λ t q other. bytes_spared m p (disk (g.D.Device.time c.args.dev.now)) (disk end) q (same q other) bounds.place
          (λ w held. (always_now (g.D.Device.time c.args.dev.now) end _ (along.alone t)).others (key_of m q) (keys_differ m.partition q c.args.section (c.requires.over.over.opened_list.number q (inl (subst IsSome (sym held) refl))) c.ranges.section.fits other));
      bounds = bounds;
      unrecovered = λ q. refl;
      floors = λ q. refl;
      alone = along.alone;
      moments = along.moments;
      sealed = λ t w x held after sealed. (let is : v ≡ x = some_same v x (sym put.here ∙ after) in
          subst (λ (y : PageBlob g.row.S.Denot g.S.Seal). IsSealed g.S.Seal.seal_of (page_blob.shown y) (disk end key)) is
          (added.sealed t (taken_still g.S.Seal.seal_of g.A.CodecFixed.SIZE g.D.Device.Tells _ (are_pages g.row.S g.S.Seal g.S.Seal-dict) _ (shown c.args.self) (g.D.Device.opened c.args.dev.now) (g.D.Device.time c.args.dev.now) c.requires.over c.args.section c.requires.recovered c.ranges.section.fits now c.in_ok-buffer.buffer took.takes w held sealed)));
      steady = along.steady;
      made = along.made;
      below = along.below;
      entries = along.entries;
      guard = guard_ok _ _ _ _ c.in_ok-buffer.ensures.guard;
      refuses = λ lt. absurd (no_error _ _ (c.in_ok-buffer.ensures.guard.1 lt));
      full = λ is which. absurd (no_error _ _ is);
      full_first = λ le w held big. absurd (buffer_well c.append.result (v, c.in_ok-buffer-2.offset) OffsetOverflow ok (c.append.ensures.overflow.1 (too_many_taken g.S.Seal.seal_of g.A.CodecFixed.SIZE _ (are_pages g.row.S g.S.Seal g.S.Seal-dict) _ g.D.Device (shown c.args.self) c.args.section c.args.dev.now c.requires.over c.requires.recovered c.args.bytes.now c.ranges.section.fits c.take.new.dev c.in_ok-buffer.buffer took w held big)));
      room = λ w held. elim (cases_lt (extent w.page_size (pages.size_of (page_blob.shown w) + (length c.args.bytes.now))) (2 ^ 64)) [
        | inl lt ↦ lt
        | inr big ↦ absurd (buffer_well c.append.result (v, c.in_ok-buffer-2.offset) OffsetOverflow ok (c.append.ensures.overflow.1 (too_many_taken g.S.Seal.seal_of g.A.CodecFixed.SIZE _ (are_pages g.row.S g.S.Seal g.S.Seal-dict) _ g.D.Device (shown c.args.self) c.args.section c.args.dev.now c.requires.over c.requires.recovered c.args.bytes.now c.ranges.section.fits c.take.new.dev c.in_ok-buffer.buffer took w held big)))
      ];
      faults = along.faults;
      cause = tt;
    }
