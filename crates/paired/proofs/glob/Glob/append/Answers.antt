use Rattle.std.proofs.Common.{◌≡◌, ◌+◌, ◌++◌, ◌⊎◌, false, ◌≤◌, ◌<◌, ◌-◌, ◌^◌, ℕ, List, ◌∷◌, [], length, Ok, inl, inr, refl, sym, ◌∙◌, ap, subst, arith}
use Rattle.std.specs.Option.{is_some}
use Rattle.std.specs.Result.{is_ok}
use Rattle.blob_device.specs.declared.runtime.RError.TheVariants.{Fault}
use Rattle.blob_device.specs.declared.runtime.RError.TheVariants.{Mem as RMem}
use Rattle.section_manager.specs.declared.journal.Error.TheVariants.{Full}
use Rattle.blob_device.specs.lemmas.Moments.{always_now}
use Rattle.blob_device.specs.Disk.{Key, Outside}
use Rattle.sealed_pages.specs.Entries.{IsOpenAt}
use Rattle.blob_device.specs.Timeline.{disk}
use Rattle.sealed_pages.specs.unsealed.Writing.{WriteBuffer, run_of}
use Rattle.sealed_pages.specs.unsealed.Writing as writing
use Rattle.section_manager.specs.Leaving.{AllMoments}
use Rattle.section_manager.specs.managing.Lent.{IsLent, StepsTo}
use Rattle.section_manager.specs.managing.Managed.{shown}
use Rattle.section_manager.specs.Sections.{key_of}
use Rattle.section_manager.specs.unsealed.Buffer.{content_of, count_of}
use Rattle.paired.specs.glob.Lasting.{Outlasts, settled_bytes}
use Rattle.sealed_pages.specs.declared.write_blob.WriteBlob.{WriteBlob}
use Rattle.section_manager.specs.Setting.{Setting}
use Rattle.section_manager.specs.lemmas.Keys.{keys_differ}
use Rattle.paired.specs.lemmas.Frame.{length-frame, stands as frame_stands}
use Rattle.paired.specs.lemmas.Glob.{Serves, buffers, glob_one, held_bytes, no_bytes, same_bytes, section_counted, serves_of}
use Rattle.section_manager.specs.lemmas.sections.Entry.{starts_none}
use Rattle.section_manager.specs.lemmas.sections.Lent.{lent_back}
use Rattle.section_manager.specs.lemmas.sections.Over.{same_key}
use Rattle.section_manager.specs.lemmas.sections.Truncate.{unread_then}
use Rattle.paired.specs.Frames.{frame, HasFrame}
use Rattle.paired.specs.glob.Sections.{section_bytes, section_size, pending_size, pending_held, settled_held, HadPrefixes, TakesMore}
use Rattle.paired.proofs.AppendLemmas.{stays_below, full_held, end_size, some_size, match_err, never_full, why_of, same_error, mapped_ok, ok_at, open_long, taken_size, taken_bytes, appended_takes, appended_whole, still_moments, begin_moments, begun_moments, append_prefixes, append_moments, taken_serves, held_moments}
use Rattle.std.proofs.lemmas.Bool.{cases_lt}
use Rattle.paired.proofs.CallLemmas.{held_some}
use Rattle.sealed_pages.specs.Tails.{LeavesPending}
use Rattle.paired.proofs.TailLemmas.{appended_tail}
use Rattle.paired.proofs.glob.Glob.append.Given as given
use Rattle.paired.proofs.glob.Glob.append.Goals as goal
use Rattle.paired.proofs.glob.Glob.append.Goals.{In_ok-put}
use Rattle.blob_device.proofs.general.Options.{some_same, some_there}
use Rattle.blob_device.proofs.general.Results.{err_of}

pub returns-clause-tail : goal.returns-clause-tail
returns-clause-tail g c =
    let w = c.in_ok-buffer.buffer in
    let v = c.in_ok-buffer-2.buffer in
    let got : c.append.result ≡ Ok (v, c.in_ok-buffer-2.offset) = mapped_ok _ c.append.result (v, c.in_ok-buffer-2.offset) c.in_ok-buffer-2.ensures.cases in
    let left = ok_at c.append.result (v, c.in_ok-buffer-2.offset) (λ r. LeavesPending (writing.shown w) (length c.as_slice.result.now) (writing.shown r.0)) got c.append.ensures.tail in
    appended_tail (shown c.args.self.manager) c.args.section w c.in_ok-buffer.ensures.same c.in_ok-buffer.ensures.idle (c.requires.over.behind c.args.section) (shown c.put.new.self) v _ _ c.in_ok-put.ensures.put.here (ap (λ (x : Setting). x.capacity) c.in_ok-buffer.ensures.setting)
    (ap length (c.as_slice.ensures.value ∙ c.in_ok-frame.ensures.frame) ∙ length-frame g.S.Seal.seal_of (g.V.Codec.spelling c.args.value.now) ∙ sym c.in_ok-size.ensures.size) left

abbrev setting_at : ℕ → Setting
setting_at capacity = record { page_size = 1; capacity = capacity; cache_pages = 0 }

pub returns-in_err-size-clause-moments : goal.returns-in_err-size-clause-moments
returns-in_err-size-clause-moments g c t u held =
    let m = shown c.args.self.manager in
    still_moments u (frame g.S.Seal.seal_of (g.V.Codec.spelling c.args.value.now)) (key_of m c.args.section) (g.D.Device.time c.args.dev.now) t ((c.requires.over.over.disk t).stands c.args.section u held) (serves_of _ m _ _ c.requires.over c.args.section u held)

pub returns-in_err-end-clause-moments : goal.returns-in_err-end-clause-moments
returns-in_err-end-clause-moments g c t u held =
    let m = shown c.args.self.manager in
    still_moments u (frame g.S.Seal.seal_of (g.V.Codec.spelling c.args.value.now)) (key_of m c.args.section) (g.D.Device.time c.args.dev.now) t ((c.requires.over.over.disk t).stands c.args.section u held) (serves_of _ m _ _ c.requires.over c.args.section u held)

pub returns-then-from-end-clause-moments : goal.returns-then-from-end-clause-moments
returns-then-from-end-clause-moments g c t u held =
    let m = shown c.args.self.manager in
    still_moments u (frame g.S.Seal.seal_of (g.V.Codec.spelling c.args.value.now)) (key_of m c.args.section) (g.D.Device.time c.args.dev.now) t ((c.requires.over.over.disk t).stands c.args.section u held) (serves_of _ m _ _ c.requires.over c.args.section u held)

pub returns-in_err-frame-clause-moments : goal.returns-in_err-frame-clause-moments
returns-in_err-frame-clause-moments g c t u held =
    let m = shown c.args.self.manager in
    still_moments u (frame g.S.Seal.seal_of (g.V.Codec.spelling c.args.value.now)) (key_of m c.args.section) (g.D.Device.time c.args.dev.now) t ((c.requires.over.over.disk t).stands c.args.section u held) (serves_of _ m _ _ c.requires.over c.args.section u held)

pub returns-in_err-buffer-clause-moments : goal.returns-in_err-buffer-clause-moments
returns-in_err-buffer-clause-moments g c t u held =
    let m = shown c.args.self.manager in
    let k = key_of m c.args.section in
    let a = g.D.Device.time c.args.dev.now in
    let f = frame g.S.Seal.seal_of (g.V.Codec.spelling c.args.value.now) in
    subst (λ x. AllMoments k (Outlasts (settled_bytes u (disk a k).content) (content_of u (disk a k).content ++ f)) a (g.D.Device.time x)) (sym (c.take.ensures.untouched (some_there (m.held c.args.section) u held)))
    (still_moments u f k a t ((c.requires.over.over.disk t).stands c.args.section u held) (serves_of _ m _ _ c.requires.over c.args.section u held))

pub returns-in_err-buffer-clause-made : goal.returns-in_err-buffer-clause-made
returns-in_err-buffer-clause-made g c t none = begin_moments (frame g.S.Seal.seal_of (g.V.Codec.spelling c.args.value.now)) (key_of (shown c.args.self.manager) c.args.section) (g.D.Device.time c.args.dev.now) (g.D.Device.time c.take.new.dev) (c.take.ensures.moments t)

pub returns-in_err-buffer-2-clause-moments : goal.returns-in_err-buffer-2-clause-moments
returns-in_err-buffer-2-clause-moments g c t u held =
    let m = shown c.args.self.manager in
    let s = c.args.section in
    let k = key_of m s in
    let time = g.D.Device.time in
    let w = c.in_ok-buffer.buffer in
    let took = c.in_ok-buffer.ensures in
    let b = time c.take.new.dev in
    let e = time c.append.new.dev in
    let f = frame g.S.Seal.seal_of (g.V.Codec.spelling c.args.value.now) in
    let is : c.as_slice.result.now ≡ f = c.as_slice.ensures.value ∙ c.in_ok-frame.ensures.frame in
    let serves = taken_serves _ m (g.D.Device.opened c.args.dev.now) (disk (time c.args.dev.now)) c.requires.over s w (disk b) took.same (λ held. ap (λ x. disk (time x)) (c.take.ensures.untouched held)) took.idle took.stands in
    let adds = append_moments w c.as_slice.result.now f is k b e took.key t (took.stands t) serves (c.append.ensures.spares t) (c.append.ensures.since t) in
    held_moments time c.args.dev.now c.take.new.dev c.append.new.dev u w f k (c.take.ensures.untouched (some_there (m.held s) u held)) (took.same u held) adds

pub returns-in_err-buffer-2-clause-made : goal.returns-in_err-buffer-2-clause-made
returns-in_err-buffer-2-clause-made g c t none =
    let m = shown c.args.self.manager in
    let s = c.args.section in
    let k = key_of m s in
    let time = g.D.Device.time in
    let w = c.in_ok-buffer.buffer in
    let took = c.in_ok-buffer.ensures in
    let b = time c.take.new.dev in
    let e = time c.append.new.dev in
    let f = frame g.S.Seal.seal_of (g.V.Codec.spelling c.args.value.now) in
    let is : c.as_slice.result.now ≡ f = c.as_slice.ensures.value ∙ c.in_ok-frame.ensures.frame in
    let serves = taken_serves _ m (g.D.Device.opened c.args.dev.now) (disk (time c.args.dev.now)) c.requires.over s w (disk b) took.same (λ held. ap (λ x. disk (time x)) (c.take.ensures.untouched held)) took.idle took.stands in
    let adds = append_moments w c.as_slice.result.now f is k b e took.key t (took.stands t) serves (c.append.ensures.spares t) (c.append.ensures.since t) in
    let none_before = taken_bytes _ m (g.D.Device.opened c.args.dev.now) (disk (time c.args.dev.now)) c.requires.over s c.ranges.section.fits c.requires.ceiling w (disk b) took.same (λ held. ap (λ x. disk (time x)) (c.take.ensures.untouched held)) took.idle took.made t (took.bytes t)
    ∙ no_bytes m (disk (time c.args.dev.now)) s none in
    begun_moments (settled_bytes w (disk b k).content) (content_of w (disk b k).content ++ f) f (ap (λ (l : List ℕ). l ++ f) none_before) k (time c.args.dev.now) b e (c.take.ensures.moments t) adds

pub returns-in_err-put-clause-moments : goal.returns-in_err-put-clause-moments
returns-in_err-put-clause-moments g c t u held =
    let m = shown c.args.self.manager in
    let s = c.args.section in
    let k = key_of m s in
    let time = g.D.Device.time in
    let w = c.in_ok-buffer.buffer in
    let took = c.in_ok-buffer.ensures in
    let b = time c.take.new.dev in
    let e = time c.append.new.dev in
    let f = frame g.S.Seal.seal_of (g.V.Codec.spelling c.args.value.now) in
    let is : c.as_slice.result.now ≡ f = c.as_slice.ensures.value ∙ c.in_ok-frame.ensures.frame in
    let serves = taken_serves _ m (g.D.Device.opened c.args.dev.now) (disk (time c.args.dev.now)) c.requires.over s w (disk b) took.same (λ held. ap (λ x. disk (time x)) (c.take.ensures.untouched held)) took.idle took.stands in
    let adds = append_moments w c.as_slice.result.now f is k b e took.key t (took.stands t) serves (c.append.ensures.spares t) (c.append.ensures.since t) in
    held_moments time c.args.dev.now c.take.new.dev c.append.new.dev u w f k (c.take.ensures.untouched (some_there (m.held s) u held)) (took.same u held) adds

pub returns-in_err-put-clause-made : goal.returns-in_err-put-clause-made
returns-in_err-put-clause-made g c t none =
    let m = shown c.args.self.manager in
    let s = c.args.section in
    let k = key_of m s in
    let time = g.D.Device.time in
    let w = c.in_ok-buffer.buffer in
    let took = c.in_ok-buffer.ensures in
    let b = time c.take.new.dev in
    let e = time c.append.new.dev in
    let f = frame g.S.Seal.seal_of (g.V.Codec.spelling c.args.value.now) in
    let is : c.as_slice.result.now ≡ f = c.as_slice.ensures.value ∙ c.in_ok-frame.ensures.frame in
    let serves = taken_serves _ m (g.D.Device.opened c.args.dev.now) (disk (time c.args.dev.now)) c.requires.over s w (disk b) took.same (λ held. ap (λ x. disk (time x)) (c.take.ensures.untouched held)) took.idle took.stands in
    let adds = append_moments w c.as_slice.result.now f is k b e took.key t (took.stands t) serves (c.append.ensures.spares t) (c.append.ensures.since t) in
    let none_before = taken_bytes _ m (g.D.Device.opened c.args.dev.now) (disk (time c.args.dev.now)) c.requires.over s c.ranges.section.fits c.requires.ceiling w (disk b) took.same (λ held. ap (λ x. disk (time x)) (c.take.ensures.untouched held)) took.idle took.made t (took.bytes t)
    ∙ no_bytes m (disk (time c.args.dev.now)) s none in
    begun_moments (settled_bytes w (disk b k).content) (content_of w (disk b k).content ++ f) f (ap (λ (l : List ℕ). l ++ f) none_before) k (time c.args.dev.now) b e (c.take.ensures.moments t) adds

pub returns-clause-moments : goal.returns-clause-moments
returns-clause-moments g c t u held =
    let m = shown c.args.self.manager in
    let s = c.args.section in
    let k = key_of m s in
    let time = g.D.Device.time in
    let w = c.in_ok-buffer.buffer in
    let took = c.in_ok-buffer.ensures in
    let b = time c.take.new.dev in
    let e = time c.append.new.dev in
    let f = frame g.S.Seal.seal_of (g.V.Codec.spelling c.args.value.now) in
    let is : c.as_slice.result.now ≡ f = c.as_slice.ensures.value ∙ c.in_ok-frame.ensures.frame in
    let serves = taken_serves _ m (g.D.Device.opened c.args.dev.now) (disk (time c.args.dev.now)) c.requires.over s w (disk b) took.same (λ held. ap (λ x. disk (time x)) (c.take.ensures.untouched held)) took.idle took.stands in
    let adds = append_moments w c.as_slice.result.now f is k b e took.key t (took.stands t) serves (c.append.ensures.spares t) (c.append.ensures.since t) in
    held_moments time c.args.dev.now c.take.new.dev c.append.new.dev u w f k (c.take.ensures.untouched (some_there (m.held s) u held)) (took.same u held) adds

pub returns-clause-made : goal.returns-clause-made
returns-clause-made g c t none =
    let m = shown c.args.self.manager in
    let s = c.args.section in
    let k = key_of m s in
    let time = g.D.Device.time in
    let w = c.in_ok-buffer.buffer in
    let took = c.in_ok-buffer.ensures in
    let b = time c.take.new.dev in
    let e = time c.append.new.dev in
    let f = frame g.S.Seal.seal_of (g.V.Codec.spelling c.args.value.now) in
    let is : c.as_slice.result.now ≡ f = c.as_slice.ensures.value ∙ c.in_ok-frame.ensures.frame in
    let serves = taken_serves _ m (g.D.Device.opened c.args.dev.now) (disk (time c.args.dev.now)) c.requires.over s w (disk b) took.same (λ held. ap (λ x. disk (time x)) (c.take.ensures.untouched held)) took.idle took.stands in
    let adds = append_moments w c.as_slice.result.now f is k b e took.key t (took.stands t) serves (c.append.ensures.spares t) (c.append.ensures.since t) in
    let none_before = taken_bytes _ m (g.D.Device.opened c.args.dev.now) (disk (time c.args.dev.now)) c.requires.over s c.ranges.section.fits c.requires.ceiling w (disk b) took.same (λ held. ap (λ x. disk (time x)) (c.take.ensures.untouched held)) took.idle took.made t (took.bytes t)
    ∙ no_bytes m (disk (time c.args.dev.now)) s none in
    begun_moments (settled_bytes w (disk b k).content) (content_of w (disk b k).content ++ f) f (ap (λ (l : List ℕ). l ++ f) none_before) k (time c.args.dev.now) b e (c.take.ensures.moments t) adds

pub returns-clause-reads : goal.returns-clause-reads
returns-clause-reads g c = unread_then (g.D.Device.opened c.args.dev.now) (g.D.Device.opened c.take.new.dev) (g.D.Device.opened c.append.new.dev) (c.take.ensures.reads (λ no. no))
    (starts_none (writing.blob_key (writing.shown c.in_ok-buffer.buffer)) (g.D.Device.opened c.take.new.dev) (g.D.Device.opened c.append.new.dev) c.append.ensures.entries)

pub returns-clause-below : goal.returns-clause-below
returns-clause-below g c held few =
    let m = shown c.args.self.manager in
    let u = held_some (m.held c.args.section) held in
    let w = c.in_ok-buffer.buffer in
    let same : w ≡ u.0 = c.in_ok-buffer.ensures.same u.0 u.1 in
    let long : length c.as_slice.result.now ≡ length (frame g.S.Seal.seal_of (g.V.Codec.spelling c.args.value.now)) = ap length (c.as_slice.ensures.value ∙ c.in_ok-frame.ensures.frame) in
    let pending : length w.pending.items ≡ pending_size m c.args.section = ap (λ (x : WriteBlob). length x.pending.items) same ∙ sym (ap pending_held u.1) in
    c.append.ensures.below (stays_below w (length c.as_slice.result.now) c.args.self.manager.factory.capacity (subst TakesMore (sym same) (c.requires.over.ends c.args.section u.0 u.1))
    (ap (λ (x : Setting). x.capacity) c.in_ok-buffer.ensures.setting) (omega (arith, few, long, pending)))
    ∙ c.take.ensures.untouched held

pub returns-then-from-end-clause-full : goal.returns-then-from-end-clause-full
returns-then-from-end-clause-full g c known =
    let m = shown c.args.self.manager in
    let seal = g.S.Seal.seal_of in
    let value = g.V.Codec.spelling c.args.value.now in
    let few : length (frame seal value) ≤ 2 ^ 32 - 1 = elim (cases_lt (2 ^ 32 - 1) (length value + 4)) [
      | inl more ↦ absurd (cc (c.in_ok-size.ensures.large.1 more))
      | inr le ↦ omega (arith, le, length-frame seal value)
    ] in (
      λ is. (few, full_held (m.held c.args.section) c.in_ok-end.end c.from.result (length (frame seal value)) c.in_ok-end.ensures.size c.if-from-end.true (omega (arith, c.from.ensures, c.in_ok-size.ensures.size, length-frame seal value)) (omega (arith, few))),
      λ p. refl,
    )

pub returns-clause-place : goal.returns-clause-place
returns-clause-place g c known =
    let m = shown c.args.self.manager in
    let s = c.args.section in
    let time = g.D.Device.time in
    let w = c.in_ok-buffer.buffer in
    let v = c.in_ok-buffer-2.buffer in
    let took = c.in_ok-buffer.ensures in
    let put = c.in_ok-put.ensures.put in
    let got : c.append.result ≡ Ok (v, c.in_ok-buffer-2.offset) = mapped_ok _ c.append.result (v, c.in_ok-buffer-2.offset) c.in_ok-buffer-2.ensures.cases in
    ok_at c.append.result (v, c.in_ok-buffer-2.offset) (λ r. r.1 ≡ count_of w) got c.append.ensures.at ∙ (taken_size _ m (g.D.Device.opened c.args.dev.now) (disk (time c.args.dev.now)) c.requires.over s c.ranges.section.fits c.requires.ceiling w (disk (time c.take.new.dev)) took.same (λ held. ap (λ x. disk (time x)) (c.take.ensures.untouched held)) took.idle took.made took.stands known).0

pub returns-clause-settled : goal.returns-clause-settled
returns-clause-settled g c known =
    let m = shown c.args.self.manager in
    let s = c.args.section in
    let time = g.D.Device.time in
    let w = c.in_ok-buffer.buffer in
    let v = c.in_ok-buffer-2.buffer in
    let took = c.in_ok-buffer.ensures in
    let put = c.in_ok-put.ensures.put in
    let got : c.append.result ≡ Ok (v, c.in_ok-buffer-2.offset) = mapped_ok _ c.append.result (v, c.in_ok-buffer-2.offset) c.in_ok-buffer-2.ensures.cases in
    ap settled_held put.here ∙ ap (λ (x : WriteBuffer). x.settled) (ok_at c.append.result (v, c.in_ok-buffer-2.offset) (λ r. writing.shown r.0 ≡ record (writing.shown w) { end = r.0.end; at = r.0.at; pending = r.0.pending.items; dirty = r.0.dirty }) got c.append.ensures.same) ∙ (taken_size _ m (g.D.Device.opened c.args.dev.now) (disk (time c.args.dev.now)) c.requires.over s c.ranges.section.fits c.requires.ceiling w (disk (time c.take.new.dev)) took.same (λ held. ap (λ x. disk (time x)) (c.take.ensures.untouched held)) took.idle took.made took.stands known).1

-- what the buffer's append answered, as the buffer raised it
appended : (g : given.Over) (c : In_ok-put g) → c.append.result ≡ Ok (c.in_ok-buffer-2.buffer, c.in_ok-buffer-2.offset)
appended g c = mapped_ok _ c.append.result (c.in_ok-buffer-2.buffer, c.in_ok-buffer-2.offset) c.in_ok-buffer-2.ensures.cases

-- the frame went to the buffer that was taken out
stepped : (g : given.Over) (c : In_ok-put g) → StepsTo buffers g.D.Device c.in_ok-buffer.buffer c.in_ok-buffer-2.buffer c.take.new.dev c.append.new.dev
stepped g c =
    let b = g.D.Device.time c.take.new.dev in
    let e = g.D.Device.time c.append.new.dev in
    let w = c.in_ok-buffer.buffer in
    let v = c.in_ok-buffer-2.buffer in
    let got = appended g c in
    let same = ok_at c.append.result (v, c.in_ok-buffer-2.offset) (λ r. writing.shown r.0 ≡ record (writing.shown w) { end = r.0.end; at = r.0.at; pending = r.0.pending.items; dirty = r.0.dirty }) got c.append.ensures.same in
    let key : writing.blob_key (writing.shown v) ≡ writing.blob_key (writing.shown w) = ap (λ (x : WriteBuffer). writing.blob_key x) same in
    let opens = ok_at c.append.result (v, c.in_ok-buffer-2.offset) (λ r. IsOpenAt (g.D.Device.opened c.append.new.dev) (writing.blob_key (writing.shown r.0)) r.0.end) got c.append.ensures.«open» in
    record {
      touches = record { entries = c.append.ensures.entries.others; blobs = λ t. (always_now b e _ (c.append.ensures.spares t)).others };
      key = key;
      setting = ap (λ (x : WriteBuffer). setting_at x.capacity) same;
      «open» = subst (λ (q : Key). IsOpenAt (g.D.Device.opened c.append.new.dev) q v.end) key opens;
      stands = λ t. record {
        over = ok_at c.append.result (v, c.in_ok-buffer-2.offset) (λ r. writing.Over (writing.shown r.0) (disk e (writing.blob_key (writing.shown w)))) got
            (c.append.ensures.over t (subst (λ (q : Key). writing.Over (writing.shown w) (disk b q)) (sym c.in_ok-buffer.ensures.key) (c.in_ok-buffer.ensures.stands t).over));
        size = ap (λ (q : Key). length (disk e q).content) (sym key) ∙ open_long (g.D.Device.opened c.append.new.dev (writing.blob_key (writing.shown v))) v.end (length (disk e (writing.blob_key (writing.shown v))).content) _ opens
            (g.met.D.Device.opened_stands t c.append.new.dev (writing.blob_key (writing.shown v)));
      };
    }

-- so the section was lent to it
lent : (g : given.Over) (c : In_ok-put g) → IsLent buffers (λ f. setting_at f.capacity) g.D.Device (shown c.args.self.manager) c.args.section (shown c.put.new.self) c.args.dev.now c.append.new.dev
lent g c = lent_back buffers (λ f. setting_at f.capacity) g.D.Device (shown c.args.self.manager) c.args.section (shown c.take.new.self) c.args.dev.now c.take.new.dev c.in_ok-buffer.buffer c.in_ok-buffer.ensures c.append.new.dev c.in_ok-buffer-2.buffer (shown c.put.new.self)
    c.requires.ceiling (stepped g c) c.in_ok-put.ensures.put

pub returns-clause-over : goal.returns-clause-over
returns-clause-over g c =
    let m = shown c.args.self.manager in
    let n = shown c.put.new.self in
    let s = c.args.section in
    let k = key_of m s in
    let time = g.D.Device.time in
    let a = time c.args.dev.now in
    let b = time c.take.new.dev in
    let e = time c.append.new.dev in
    let w = c.in_ok-buffer.buffer in
    let v = c.in_ok-buffer-2.buffer in
    let bytes = c.as_slice.result.now in
    let took = c.in_ok-buffer.ensures in
    let put = c.in_ok-put.ensures.put in
    let at = (goal.at.returns-clause-over g c).In_ok-put in
    let got = appended g at in
    let is = lent g at in
    let same = ok_at c.append.result (v, c.in_ok-buffer-2.offset) (λ r. writing.shown r.0 ≡ record (writing.shown w) { end = r.0.end; at = r.0.at; pending = r.0.pending.items; dirty = r.0.dirty }) got c.append.ensures.same in
    let size = ok_at c.append.result (v, c.in_ok-buffer-2.offset) (λ r. count_of r.0 ≡ count_of w + length bytes) got c.append.ensures.size in
    let run = ok_at c.append.result (v, c.in_ok-buffer-2.offset) (λ r. writing.HoldsOnly (writing.shown w) (count_of w) bytes (writing.shown r.0)) got c.append.ensures.run in
    let before = taken_serves _ m (g.D.Device.opened c.args.dev.now) (disk a) c.requires.over s w (disk b) took.same (λ here. ap (λ x. disk (time x)) (c.take.ensures.untouched here)) took.idle took.stands in
    let serves : Serves g.D.Device.Tells v (disk e k) = record {
      ends = appended_takes w v bytes size run;
      behind = ok_at c.append.result (v, c.in_ok-buffer-2.offset) (λ r. writing.StandsBehind (writing.shown r.0)) got (c.append.ensures.behind before.behind);
      whole = λ t. appended_whole w v bytes size run (disk b k) (disk e k) (ap (λ (x : WriteBuffer). x.settled) same) (before.whole t)
          (subst (λ (q : Key). (i : ℕ) → Outside ((count_of w, length bytes) ∷ run_of (writing.shown w) ∷ []) i → Outside (disk b q).loose i → Outside (disk e q).loose i) took.key (always_now b e _ (c.append.ensures.spares t)).here.loose);
      prefixes = λ t. subst (λ (l : List ℕ). HadPrefixes l (disk e k))
          (sym (subst (λ (q : Key). content_of v (disk e q).content ≡ content_of w (disk b q).content ++ bytes) took.key
          (ok_at c.append.result (v, c.in_ok-buffer-2.offset) (λ r. content_of r.0 (disk e (writing.blob_key (writing.shown w))).content ≡ content_of w (disk b (writing.blob_key (writing.shown w))).content ++ bytes) got (c.append.ensures.bytes t))))
          (append_prefixes w bytes bytes refl k b e took.key t (took.stands t) before (c.append.ensures.spares t) (c.append.ensures.since t));
    } in
    glob_one _ m (g.D.Device.opened c.args.dev.now) (disk a) c.requires.over n (g.D.Device.opened c.append.new.dev) (disk e) s is.over is.bounds is.others c.ranges.section.fits is.touches.blobs
    (λ u held. subst (λ (x : WriteBlob). Serves g.D.Device.Tells x (disk e (key_of n s))) (some_same v u (sym put.here ∙ held))
    (subst (λ (q : Key). Serves g.D.Device.Tells v (disk e q)) (sym (same_key m n is.bounds s)) serves))
    (λ t some. absurd (cc (some, ap is_some put.opened)))

pub returns-clause-other_bytes : goal.returns-clause-other_bytes
returns-clause-other_bytes g c t q other =
    let m = shown c.args.self.manager in
    let n = shown c.put.new.self in
    let s = c.args.section in
    let a = g.D.Device.time c.args.dev.now in
    let e = g.D.Device.time c.append.new.dev in
    let is = lent g (goal.at.returns-clause-other_bytes g c).In_ok-put in
    same_bytes m n (disk a) (disk e) q (is.others q other).held (λ held.
    ap (disk e) (same_key m n is.bounds q) ∙ is.touches.blobs t (key_of m q) (keys_differ m.partition q s (c.requires.over.over.opened_list.number q (inl held)) c.ranges.section.fits other))

pub returns-clause-bytes : goal.returns-clause-bytes
returns-clause-bytes g c t =
    let m = shown c.args.self.manager in
    let n = shown c.put.new.self in
    let s = c.args.section in
    let time = g.D.Device.time in
    let a = time c.args.dev.now in
    let b = time c.take.new.dev in
    let e = time c.append.new.dev in
    let w = c.in_ok-buffer.buffer in
    let v = c.in_ok-buffer-2.buffer in
    let bytes = c.as_slice.result.now in
    let took = c.in_ok-buffer.ensures in
    let at = (goal.at.returns-clause-bytes g c).In_ok-put in
    let kn : key_of n s ≡ writing.blob_key (writing.shown w) = same_key m n (lent g at).bounds s ∙ sym took.key in
    let added = ok_at c.append.result (v, c.in_ok-buffer-2.offset) (λ r. content_of r.0 (disk e (writing.blob_key (writing.shown w))).content ≡ content_of w (disk b (writing.blob_key (writing.shown w))).content ++ bytes) (appended g at) (c.append.ensures.bytes t) in
    held_bytes n (disk e) s v c.in_ok-put.ensures.put.here ∙ ap (λ (q : Key). content_of v (disk e q).content) kn ∙ added
    ∙ ap (λ (l : List ℕ). l ++ bytes) (ap (λ (q : Key). content_of w (disk b q).content) took.key ∙ taken_bytes _ m (g.D.Device.opened c.args.dev.now) (disk a) c.requires.over s c.ranges.section.fits c.requires.ceiling w (disk b) took.same (λ held. ap (λ x. disk (time x)) (c.take.ensures.untouched held)) took.idle took.made t (took.bytes t))
    ∙ ap (λ (l : List ℕ). section_bytes m (disk a) s ++ l) (c.as_slice.ensures.value ∙ c.in_ok-frame.ensures.frame)

pub returns-clause-stands : goal.returns-clause-stands
returns-clause-stands g c t =
    let m = shown c.args.self.manager in
    let s = c.args.section in
    let a = g.D.Device.time c.args.dev.now in
    let seal = g.S.Seal.seal_of in
    let value = g.V.Codec.spelling c.args.value.now in
    let all = section_bytes m (disk a) s in
    let f = frame seal value in
    let at : c.in_ok-buffer-2.offset ≡ length all = returns-clause-place g c (inl t) ∙ sym (section_counted _ m (g.D.Device.opened c.args.dev.now) (disk a) c.requires.over t s) in
    let size : c.in_ok-size.size ≡ length f = omega (arith, c.in_ok-size.ensures.size, length-frame seal value) in
    subst (λ (x : List ℕ). HasFrame seal x c.in_ok-buffer-2.offset c.in_ok-size.size value) (sym (returns-clause-bytes g c t))
    (subst (λ (i : ℕ). HasFrame seal (all ++ f) i c.in_ok-size.size value) (sym at)
    (subst (λ (i : ℕ). HasFrame seal (all ++ f) (length all) i value) (sym size) (frame_stands seal all value)))

pub returns-in_err-buffer-2-clause-full : goal.returns-in_err-buffer-2-clause-full
returns-in_err-buffer-2-clause-full g c known =
    let m = shown c.args.self.manager in
    let s = c.args.section in
    let time = g.D.Device.time in
    let w = c.in_ok-buffer.buffer in
    let took = c.in_ok-buffer.ensures in
    let seal = g.S.Seal.seal_of in
    let value = g.V.Codec.spelling c.args.value.now in
    let n = length (frame seal value) in
    let long : length c.as_slice.result.now ≡ n = ap length (c.as_slice.ensures.value ∙ c.in_ok-frame.ensures.frame) in
    let end : c.in_ok-end.end ≡ section_size m s = end_size (m.held s) c.in_ok-end.end c.in_ok-end.ensures.size in
    let fits : section_size m s + n < 2 ^ 64 = omega (arith, c.if-from-end.false, c.from.ensures, c.in_ok-size.ensures.size, length-frame seal value, end) in
    let failed : is_ok c.append.result ≡ false = sym c.map_err.ensures.variant ∙ ap is_ok c.in_err-buffer-2.was in
    let x = match_err c.append.result _ _ c.in_err-buffer-2.ensures.cases failed in
    let size = taken_size _ m (g.D.Device.opened c.args.dev.now) (disk (time c.args.dev.now)) c.requires.over s c.ranges.section.fits c.requires.ceiling w (disk (time c.take.new.dev)) took.same (λ held. ap (λ x. disk (time x)) (c.take.ensures.untouched held)) took.idle took.made took.stands known in
    let over : 2 ^ 64 ≤ count_of w + length c.as_slice.result.now → ⊥ = λ past. absurd (omega (arith, past, size.0, long, fits)) in
    let cause = c.append.ensures.cause in
    let why : (x.0 ≡ RMem) ⊎ (x.0 ≡ Fault) = why_of _ c.append.result x.0 x.1 (λ is. over (c.append.ensures.overflow.0 is)) cause in
    let same = err_of c.from_residual-in_err-buffer-2.result c.in_err-buffer-2.field-0.0 c.from_residual-in_err-buffer-2.ensures.1 in
    let never = never_full x.0 c.in_err-buffer-2.field-0.0 why x.2.1 in (
      λ is. absurd (never (same_error c.in_err-buffer-2.field-0.0 Full (sym same ∙ is))),
      λ p. absurd (omega (arith, some_size (m.held s) n p.1, fits)),
    )

pub returns-in_err-buffer-2-clause-full_idle : goal.returns-in_err-buffer-2-clause-full_idle
returns-in_err-buffer-2-clause-full_idle g c known is =
    let m = shown c.args.self.manager in
    let s = c.args.section in
    let time = g.D.Device.time in
    let w = c.in_ok-buffer.buffer in
    let took = c.in_ok-buffer.ensures in
    let seal = g.S.Seal.seal_of in
    let value = g.V.Codec.spelling c.args.value.now in
    let n = length (frame seal value) in
    let long : length c.as_slice.result.now ≡ n = ap length (c.as_slice.ensures.value ∙ c.in_ok-frame.ensures.frame) in
    let end : c.in_ok-end.end ≡ section_size m s = end_size (m.held s) c.in_ok-end.end c.in_ok-end.ensures.size in
    let fits : section_size m s + n < 2 ^ 64 = omega (arith, c.if-from-end.false, c.from.ensures, c.in_ok-size.ensures.size, length-frame seal value, end) in
    let failed : is_ok c.append.result ≡ false = sym c.map_err.ensures.variant ∙ ap is_ok c.in_err-buffer-2.was in
    let x = match_err c.append.result _ _ c.in_err-buffer-2.ensures.cases failed in
    let size = taken_size _ m (g.D.Device.opened c.args.dev.now) (disk (time c.args.dev.now)) c.requires.over s c.ranges.section.fits c.requires.ceiling w (disk (time c.take.new.dev)) took.same (λ held. ap (λ x. disk (time x)) (c.take.ensures.untouched held)) took.idle took.made took.stands known in
    let over : 2 ^ 64 ≤ count_of w + length c.as_slice.result.now → ⊥ = λ past. absurd (omega (arith, past, size.0, long, fits)) in
    let cause = c.append.ensures.cause in
    let why : (x.0 ≡ RMem) ⊎ (x.0 ≡ Fault) = why_of _ c.append.result x.0 x.1 (λ is. over (c.append.ensures.overflow.0 is)) cause in
    let same = err_of c.from_residual-in_err-buffer-2.result c.in_err-buffer-2.field-0.0 c.from_residual-in_err-buffer-2.ensures.1 in
    let never = never_full x.0 c.in_err-buffer-2.field-0.0 why x.2.1 in
    absurd (never (same_error c.in_err-buffer-2.field-0.0 Full (sym same ∙ is)))
