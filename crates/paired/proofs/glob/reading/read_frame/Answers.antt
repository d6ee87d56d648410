use Rattle.std.proofs.Common.{◌≡◌, ℕ, List, ◌++◌, length, take, drop, inl, inr, ap, sym, ◌∙◌, arith}
use Rattle.std.proofs.Math.Seq.{take-append_seam}
use Rattle.blob_device.specs.Timeline.{disk}
use Rattle.paired.specs.Frames.{bytes_at}
use Rattle.section_manager.specs.Raised.{raised}
use Rattle.section_manager.specs.unsealed.Buffer.{content_of, key_of}
use Rattle.paired.proofs.FailLemmas.{raised_failed}
use Rattle.paired.proofs.glob.reading.read_frame.Goals as goal
use Rattle.blob_device.proofs.general.Results.{err_of, err_with}

filled : (len : ℕ) (buf items : List ℕ) → length buf ≡ length items → length items ≡ len → take len (buf ++ drop (length buf) items) ≡ buf
filled len buf items long is = ap (λ (k : ℕ). take k (buf ++ drop (length buf) items)) (sym (long ∙ is)) ∙ take-append_seam buf (drop (length buf) items)

pub returns-in_err-read_at-clause-cause : goal.returns-in_err-read_at-clause-cause
returns-in_err-read_at-clause-cause g c =
    let e = c.in_err-read_at.field-0.0 in
    let says = c.in_err-read_at.ensures in
    let long : length c.as_mut_slice.result.now ≡ c.args.size = c.as_mut_slice.ensures.len ∙ c.in_ok-bytes.ensures.len in
    err_with c.from_residual-in_err-read_at.result (raised_failed c.from_residual-in_err-read_at.result e (g.D.Device.faults c.args.dev.now) (g.D.Device.faults c.read_at.new.dev)
    (err_of c.from_residual-in_err-read_at.result (raised e) c.from_residual-in_err-read_at.ensures.1)
    (elim says.cause [
      | inl over ↦ absurd (omega (arith, says.overflow.0 over, c.requires.fits, long))
      | inr more ↦ elim more [
        | inl short ↦ absurd (omega (arith, (says.short.0 short).1, c.requires.inside.inside, long))
        | inr last ↦ elim last [
          | inl none ↦ inl (cc none)
          | inr fault ↦ inr (cc fault.0, fault.1)
        ]
      ]
    ]))

pub returns-clause-bytes : goal.returns-clause-bytes
returns-clause-bytes g c t =
    let long : length c.as_mut_slice.result.now ≡ c.args.size = c.as_mut_slice.ensures.len ∙ c.in_ok-bytes.ensures.len in
    let content = content_of c.args.buffer.now (disk (g.D.Device.time c.args.dev.now) (key_of c.args.buffer.now)).content in
    filled c.in_ok-bytes.bytes.len c.read_at.new.buf c.in_ok-bytes.bytes.items (omega (arith, c.as_mut_slice.ensures.len)) (omega arith)
    ∙ c.in_ok-read_at.ensures.bytes t ∙ ap (bytes_at content c.args.offset) long
