use Rattle.std.proofs.Common.{◌≡◌, ℕ, List, length, Some, None, inl, inr, sym, ◌∙◌, ap, subst, arith}
use Rattle.blob_device.specs.Timeline.{disk}
use Rattle.blob_device.specs.Disk.{Key}
use Rattle.sealed_pages.specs.Entries.{ReadsAtMost}
use Rattle.paired.specs.lemmas.Frame.{length-frame, not_broken}
use Rattle.paired.specs.lemmas.Glob.{glob_read}
use Rattle.sealed_pages.specs.lemmas.looking.Looking.{unchanged_now}
use Rattle.section_manager.specs.managing.Managed.{shown}
use Rattle.section_manager.specs.Raised.{raised_codec}
use Rattle.paired.specs.Frames.{HasFrame}
use Rattle.paired.specs.glob.Sections.{section_bytes}
use Rattle.paired.proofs.FailLemmas.{failed_as, codec_mismatch, codec_refusal, codec_memory, decoded_as, decoded_error}
use Rattle.paired.proofs.ReadLemmas.{broken_at, differ_so, frame_at, same_prefix, no_frame, none_below, own_key, as_long, bytes_read, frame_inside}
use Rattle.paired.proofs.glob.Glob.get.Goals as goal
use Rattle.blob_device.proofs.general.Results.{err_of}

pub returns-in_err-buffer-clause-gives : goal.returns-in_err-buffer-clause-gives
returns-in_err-buffer-clause-gives g c t v accepted has =
    let m = shown c.args.self.now.manager in
    let d = disk (g.D.Device.time c.args.dev.now) in
    let s = c.args.section in
    let none : m.held s ≡ None = elim c.in_err-buffer.ensures.cause [
      | inl pruned ↦ none_below _ m (g.D.Device.opened c.args.dev.now) d c.requires s (c.in_err-buffer.ensures.guard.0 pruned)
      | inr absent ↦ (c.in_err-buffer.ensures.absent.0 absent).1
    ] in
    absurd (no_frame g.S.Seal.seal_of m d s c.args.offset c.args.size (g.V.Codec.spelling v) none has)

pub returns-in_err-check_range-clause-gives : goal.returns-in_err-check_range-clause-gives
returns-in_err-check_range-clause-gives g c t v accepted has =
    let m = shown c.args.self.now.manager in
    let says = c.in_err-check_range.ensures in
    let inside = frame_inside _ m _ _ c.requires c.args.section c.in_ok-buffer.buffer.now c.in_ok-buffer.ensures.held t g.S.Seal.seal_of c.args.offset c.args.size (g.V.Codec.spelling v) has in
    absurd (elim says.cause [
      | inl over ↦ absurd (omega (arith, says.overflow.0 over, says.bound, inside.inside))
      | inr short ↦ elim (says.short.0 short).1 [
        | inl past ↦ absurd (omega (arith, past, inside.inside))
        | inr little ↦ absurd (omega (arith, little, inside.enough))
      ]
    ])

pub returns-in_err-bytes-clause-gives : goal.returns-in_err-bytes-clause-gives
returns-in_err-bytes-clause-gives g c t v accepted has =
    let r = c.from_residual-in_err-bytes.result in
    let e = c.in_err-bytes.field-0.0 in
    inr (failed_as r e (g.D.Device.faults c.args.dev.now) (g.D.Device.faults c.read_frame.new.dev) (err_of r e c.from_residual-in_err-bytes.ensures.1) c.in_err-bytes.ensures.cause)

pub returns-in_err-bytes-clause-over : goal.returns-in_err-bytes-clause-over
returns-in_err-bytes-clause-over g c = glob_read _ (shown c.args.self.now.manager) _ _ c.requires _ _ (disk (g.D.Device.time c.read_frame.new.dev)) c.read_frame.ensures.reads (λ t. unchanged_now _ _ (c.read_frame.ensures.unchanged t))

pub returns-in_err-prefix-clause-over : goal.returns-in_err-prefix-clause-over
returns-in_err-prefix-clause-over g c = glob_read _ (shown c.args.self.now.manager) _ _ c.requires _ _ (disk (g.D.Device.time c.read_frame.new.dev)) c.read_frame.ensures.reads (λ t. unchanged_now _ _ (c.read_frame.ensures.unchanged t))

pub returns-in_err-decode_cfg-clause-over : goal.returns-in_err-decode_cfg-clause-over
returns-in_err-decode_cfg-clause-over g c = glob_read _ (shown c.args.self.now.manager) _ _ c.requires _ _ (disk (g.D.Device.time c.read_frame.new.dev)) c.read_frame.ensures.reads (λ t. unchanged_now _ _ (c.read_frame.ensures.unchanged t))

pub returns-clause-over : goal.returns-clause-over
returns-clause-over g c = glob_read _ (shown c.args.self.now.manager) _ _ c.requires _ _ (disk (g.D.Device.time c.read_frame.new.dev)) c.read_frame.ensures.reads (λ t. unchanged_now _ _ (c.read_frame.ensures.unchanged t))

pub returns-in_err-decode_cfg-clause-reads : goal.returns-in_err-decode_cfg-clause-reads
returns-in_err-decode_cfg-clause-reads g c =
    subst (λ (k : Key). ReadsAtMost 1 k (g.D.Device.opened c.args.dev.now) (g.D.Device.opened c.read_frame.new.dev)) (own_key _ (shown c.args.self.now.manager) _ _ c.requires c.args.section c.in_ok-buffer.buffer.now c.in_ok-buffer.ensures.held) c.read_frame.ensures.reads

pub returns-in_err-prefix-clause-mismatch : goal.returns-in_err-prefix-clause-mismatch
returns-in_err-prefix-clause-mismatch g c t stored computed is =
    let m = shown c.args.self.now.manager in
    let d = disk (g.D.Device.time c.args.dev.now) in
    let u = c.in_ok-buffer.buffer.now in
    let held = c.in_ok-buffer.ensures.held in
    let r = c.from_residual-in_err-prefix.result in
    let e = c.in_err-prefix.field-0.0 in
    broken_at g.S.Seal.seal_of (section_bytes m d c.args.section) c.as_slice.result.now c.args.offset c.args.size stored computed
    (omega (arith, as_long _ m _ d c.requires c.args.section u held t, c.in_ok-check_range.ensures.inside.inside))
    (bytes_read _ m _ d c.requires c.args.section u held c.as_slice.result.now c.args.offset c.args.size (c.as_slice.ensures.value ∙ c.in_ok-bytes.ensures.bytes t))
    (c.in_err-prefix.ensures.broken stored computed (cc (is, err_of r e c.from_residual-in_err-prefix.ensures.1)))

pub returns-in_err-prefix-clause-mismatch_any : goal.returns-in_err-prefix-clause-mismatch_any
returns-in_err-prefix-clause-mismatch_any g c stored computed is =
    let r = c.from_residual-in_err-prefix.result in
    let e = c.in_err-prefix.field-0.0 in
    differ_so g.S.Seal.seal_of c.as_slice.result.now c.args.size stored computed (ap length c.as_slice.ensures.value ∙ c.in_ok-bytes.ensures.size)
    (c.in_err-prefix.ensures.broken stored computed (cc (is, err_of r e c.from_residual-in_err-prefix.ensures.1)))

pub returns-in_err-prefix-clause-gives : goal.returns-in_err-prefix-clause-gives
returns-in_err-prefix-clause-gives g c t v accepted has =
    let m = shown c.args.self.now.manager in
    let d = disk (g.D.Device.time c.args.dev.now) in
    let u = c.in_ok-buffer.buffer.now in
    let held = c.in_ok-buffer.ensures.held in
    let w = c.in_err-prefix.ensures.cause in
    let broken = broken_at g.S.Seal.seal_of (section_bytes m d c.args.section) c.as_slice.result.now c.args.offset c.args.size w.0 w.1
    (omega (arith, as_long _ m _ d c.requires c.args.section u held t, c.in_ok-check_range.ensures.inside.inside))
    (bytes_read _ m _ d c.requires c.args.section u held c.as_slice.result.now c.args.offset c.args.size (c.as_slice.ensures.value ∙ c.in_ok-bytes.ensures.bytes t))
    (c.in_err-prefix.ensures.broken w.0 w.1 w.2) in
    absurd (not_broken g.S.Seal.seal_of g.met.S.Seal.fits (section_bytes m d c.args.section) c.args.offset c.args.size w.0 w.1 broken (g.V.Codec.spelling v, has))

pub returns-in_err-decode_cfg-clause-gives : goal.returns-in_err-decode_cfg-clause-gives
returns-in_err-decode_cfg-clause-gives g c t v accepted has =
    let m = shown c.args.self.now.manager in
    let d = disk (g.D.Device.time c.args.dev.now) in
    let u = c.in_ok-buffer.buffer.now in
    let held = c.in_ok-buffer.ensures.held in
    let r = c.from_residual-in_err-decode_cfg.result in
    let e = c.in_err-decode_cfg.field-0.0 in
    let is = bytes_read _ m _ d c.requires c.args.section u held c.as_slice.result.now c.args.offset c.args.size (c.as_slice.ensures.value ∙ c.in_ok-bytes.ensures.bytes t) in
    let prefix = same_prefix g.S.Seal.seal_of (section_bytes m d c.args.section) c.as_slice.result.now c.in_ok-prefix.prefix.now (g.V.Codec.spelling v) c.args.offset c.args.size is c.in_ok-prefix.ensures.sealed has in
    elim (c.in_err-decode_cfg.ensures.gives v accepted prefix) [
      | inl same ↦ absurd (cc same)
      | inr none ↦ inr (inl (codec_memory {U = g.row.V.Denot} r e (err_of r (raised_codec e) c.from_residual-in_err-decode_cfg.ensures.1) none))
    ]

pub returns-in_err-decode_cfg-clause-mismatch : goal.returns-in_err-decode_cfg-clause-mismatch
returns-in_err-decode_cfg-clause-mismatch g c t stored computed is =
    let r = c.from_residual-in_err-decode_cfg.result in
    let e = c.in_err-decode_cfg.field-0.0 in
    absurd (codec_mismatch e stored computed (cc (is, err_of r (raised_codec e) c.from_residual-in_err-decode_cfg.ensures.1)))

pub returns-in_err-decode_cfg-clause-refused : goal.returns-in_err-decode_cfg-clause-refused
returns-in_err-decode_cfg-clause-refused g c t x is =
    let m = shown c.args.self.now.manager in
    let d = disk (g.D.Device.time c.args.dev.now) in
    let u = c.in_ok-buffer.buffer.now in
    let held = c.in_ok-buffer.ensures.held in
    let r = c.from_residual-in_err-decode_cfg.result in
    let e = c.in_err-decode_cfg.field-0.0 in
    let why = codec_refusal e x (cc (is, err_of r (raised_codec e) c.from_residual-in_err-decode_cfg.ensures.1)) in (
      c.in_ok-prefix.prefix.now,
      frame_at g.S.Seal.seal_of (section_bytes m d c.args.section) c.as_slice.result.now c.in_ok-prefix.prefix.now c.args.offset c.args.size
          (omega (arith, as_long _ m _ d c.requires c.args.section u held t, c.in_ok-check_range.ensures.inside.inside))
          (bytes_read _ m _ d c.requires c.args.section u held c.as_slice.result.now c.args.offset c.args.size (c.as_slice.ensures.value ∙ c.in_ok-bytes.ensures.bytes t))
          c.in_ok-prefix.ensures.sealed,
      elim c.in_err-decode_cfg.ensures.refused [
        | inl none ↦ absurd (why.1 none)
        | inr refused ↦ refused ∙ ap (λ y. Some y) why.0
      ],
    )

pub returns-in_err-decode_cfg-clause-refused_any : goal.returns-in_err-decode_cfg-clause-refused_any
returns-in_err-decode_cfg-clause-refused_any g c x is =
    let r = c.from_residual-in_err-decode_cfg.result in
    let e = c.in_err-decode_cfg.field-0.0 in
    let why = codec_refusal e x (cc (is, err_of r (raised_codec e) c.from_residual-in_err-decode_cfg.ensures.1)) in (
      λ none. why.1 (why.0 ∙ none),
      (
        c.in_ok-prefix.prefix.now,
        sym (length-frame g.S.Seal.seal_of c.in_ok-prefix.prefix.now) ∙ ap length (sym c.in_ok-prefix.ensures.sealed) ∙ ap length c.as_slice.ensures.value ∙ c.in_ok-bytes.ensures.size,
        elim c.in_err-decode_cfg.ensures.refused [
          | inl none ↦ absurd (why.1 none)
          | inr refused ↦ refused ∙ ap (λ y. Some y) why.0
        ],
      ),
    )

pub returns-clause-value : goal.returns-clause-value
returns-clause-value g c t =
    let m = shown c.args.self.now.manager in
    let d = disk (g.D.Device.time c.args.dev.now) in
    let u = c.in_ok-buffer.buffer.now in
    let held = c.in_ok-buffer.ensures.held in
    let all = section_bytes m d c.args.section in
    subst (λ (l : List ℕ). HasFrame g.S.Seal.seal_of all c.args.offset c.args.size l) (sym c.in_ok-decode_cfg.ensures.spelled)
    (frame_at g.S.Seal.seal_of all c.as_slice.result.now c.in_ok-prefix.prefix.now c.args.offset c.args.size
    (omega (arith, as_long _ m _ d c.requires c.args.section u held t, c.in_ok-check_range.ensures.inside.inside))
    (bytes_read _ m _ d c.requires c.args.section u held c.as_slice.result.now c.args.offset c.args.size (c.as_slice.ensures.value ∙ c.in_ok-bytes.ensures.bytes t))
    c.in_ok-prefix.ensures.sealed)

pub returns-clause-gives : goal.returns-clause-gives
returns-clause-gives g c t v accepted has =
    let m = shown c.args.self.now.manager in
    let d = disk (g.D.Device.time c.args.dev.now) in
    let u = c.in_ok-buffer.buffer.now in
    let held = c.in_ok-buffer.ensures.held in
    let is = bytes_read _ m _ d c.requires c.args.section u held c.as_slice.result.now c.args.offset c.args.size (c.as_slice.ensures.value ∙ c.in_ok-bytes.ensures.bytes t) in
    let prefix = same_prefix g.S.Seal.seal_of (section_bytes m d c.args.section) c.as_slice.result.now c.in_ok-prefix.prefix.now (g.V.Codec.spelling v) c.args.offset c.args.size is c.in_ok-prefix.ensures.sealed has in
    elim (c.in_ok-decode_cfg.ensures.gives v accepted prefix) [
      | inl same ↦ inl (decoded_as c.in_ok-decode_cfg.field-0 v same)
      | inr none ↦ absurd (decoded_error none)
    ]
