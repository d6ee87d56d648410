use Rattle.std.proofs.Common.{◌≡◌, ℕ, List, ◌++◌, length, take, drop, inl, inr, refl, ap, sym, ◌∙◌, arith}
use Rattle.std.proofs.Math.Seq.{take-append_seam}
use Rattle.blob_device.specs.Timeline.{disk}
use Rattle.sealed_pages.specs.unsealed.Writing.{blob_key, bytes_of, shown}
use Rattle.blob_device.specs.lemmas.Moments.{always_start}
use Rattle.sealed_pages.specs.lemmas.Entries.{reads_start}
use Rattle.ordinal_store.proofs.MendLemmas.{failed_of}
use Rattle.ordinal_store.proofs.ReadLemmas.{part_done, part_failed}
use Rattle.ordinal_store.proofs.TrailLemmas.{failed_as}
use Rattle.ordinal_store.specs.Stores.{now, sight}
use Rattle.ordinal_store.specs.declared.ordinal.Error.TheVariants.{Mem}
use Rattle.ordinal_store.specs.Raised.{passed_on}
use Rattle.ordinal_store.specs.Slots.{part_at}
use Rattle.ordinal_store.proofs.slot.read_part.Goals as goal

filled : (len : ℕ) (buf items : List ℕ) → length buf ≡ length items → length items ≡ len → take len (buf ++ drop (length buf) items) ≡ buf
filled len buf items long is = ap (λ (k : ℕ). take k (buf ++ drop (length buf) items)) (sym (long ∙ is)) ∙ take-append_seam buf (drop (length buf) items)

pub returns-in_err-bytes : goal.returns-in_err-bytes
returns-in_err-bytes g c =
    let v = sight g.D.Device c.args.dev.now in
    part_failed (λ r. r.items) g.D.Device.Tells (shown c.args.buffer.now) c.args.at c.args.size v v (λ t. always_start v.time (λ d. d ≡ now v) refl) (reads_start 1 (blob_key (shown c.args.buffer.now)) v.opened) (omega arith)
    c.from_residual.result Mem c.from_residual.ensures.1 (inl refl)

pub returns-in_err-read_at : goal.returns-in_err-read_at
returns-in_err-read_at g c =
    let e = c.in_err-read_at.field-0.0 in
    let says = c.in_err-read_at.ensures in
    let old = sight g.D.Device c.args.dev.now in
    let new = sight g.D.Device c.read_at.new.dev in
    let size_is : length c.as_mut_slice.result.now ≡ c.args.size = c.as_mut_slice.ensures.len ∙ c.in_ok-bytes.ensures.len in
    part_failed (λ r. r.items) g.D.Device.Tells (shown c.args.buffer.now) c.args.at c.args.size old new c.read_at.ensures.unchanged c.read_at.ensures.reads c.read_at.ensures.faults
    c.from_residual-in_err-read_at.result (passed_on e) c.from_residual-in_err-read_at.ensures.1 (failed_as (passed_on e) old old new (omega arith) (failed_of e old new (elim says.cause [
      | inl over ↦ absurd (omega (arith, says.overflow.0 over, c.requires.fits, size_is))
      | inr (inl short) ↦ absurd (omega (arith, (says.short.0 short).1, c.requires.room, size_is))
      | inr (inr (inl none)) ↦ inl (cc none)
      | inr (inr (inr fault)) ↦ inr (cc fault.0, fault.1)
    ])))

pub returns : goal.returns
returns g c =
    let long : length c.as_mut_slice.result.now ≡ c.args.size = c.as_mut_slice.ensures.len ∙ c.in_ok-bytes.ensures.len in
    let content = bytes_of (shown c.args.buffer.now) (disk (g.D.Device.time c.args.dev.now) (blob_key (shown c.args.buffer.now))).content in
    let whole = filled c.in_ok-bytes.bytes.len c.read_at.new.buf c.in_ok-bytes.bytes.items (omega (arith, c.as_mut_slice.ensures.len)) (omega arith) in
    part_done (λ r. r.items) g.D.Device.Tells (shown c.args.buffer.now) c.args.at c.args.size (sight g.D.Device c.args.dev.now) (sight g.D.Device c.read_at.new.dev) c.read_at.ensures.unchanged c.read_at.ensures.reads c.read_at.ensures.faults _
    (λ t. whole ∙ c.in_ok-read_at.ensures.bytes t ∙ ap (part_at content c.args.at) long) (ap length whole ∙ omega (arith, c.as_mut_slice.ensures.len, long))
