use Rattle.std.proofs.Common.{rules, ◌≡◌, ◌⊎◌, ◌-◌, ◌*◌, ◌∙◌, ℕ, length, drop, inl, inr, refl, sym, ap, subst, arith}
use Rattle.std.proofs.lemmas.List.{take_at}
use Rattle.blob_device.specs.Disk.{Disk}
use Rattle.sealed_pages.specs.Buffer.{key_of}
use Rattle.sealed_pages.specs.Shown.{shown}
use Rattle.sealed_pages.specs.Reads.{IsShort, PassesSize}
use Rattle.sealed_pages.specs.lemmas.looking.Looking.{unchanged_now, unchanged_start}
use Rattle.segments.proofs.checkpoint.ChecksEnds.{looks_coded, looks_failed, looks_got, looks_since, read_failed_last}
use Rattle.segments.proofs.fixed.preflighting.Preflight.last_below.Goals as goal
use Rattle.blob_device.proofs.general.Results.{err_of}

pub refuse-requires-clause-there : goal.refuse-requires-clause-there
refuse-requires-clause-there g c t = ap (λ (d : Disk). (d (key_of (shown c.args.buffer.now))).there) (unchanged_now (g.D.Device.time c.args.dev.now) (g.D.Device.time c.read_last.new.dev) (c.read_last.ensures.unchanged t)) ∙ (c.requires.adopted t).there

pub refuse-requires-clause-broken : goal.refuse-requires-clause-broken
refuse-requires-clause-broken g c t =
    let same = unchanged_now (g.D.Device.time c.args.dev.now) (g.D.Device.time c.read_last.new.dev) (c.read_last.ensures.unchanged t) in
    subst (λ (d : Disk). ((k : ℕ) × IsShort g.S.Seal.seal_of c.args.buffer.now.page_size (d (key_of (shown c.args.buffer.now))).content ((c.args.items - 1) * g.A.CodecFixed.SIZE) g.A.CodecFixed.SIZE k) ⊎ PassesSize g.S.Seal.seal_of c.args.buffer.now.page_size (d (key_of (shown c.args.buffer.now))).content ((c.args.items - 1) * g.A.CodecFixed.SIZE) g.A.CodecFixed.SIZE) (sym same)
    (elim c.in-Err.ensures.cause [
      | inl short ↦ inr (c.in-Err.ensures.short t short)
      | inr (inl page) ↦ inl (page.0, c.in-Err.ensures.checksum t page.0 page.1)
      | inr (inr (inl mem)) ↦ (let at = c.in-InvalidChecksum.is in absurd (cc (mem, at)))
      | inr (inr (inr fault)) ↦ (let at = c.in-InvalidChecksum.is in let first = fault.0 in absurd (cc (first, at)))
    ])

pub returns-in_err-bytes : goal.returns-in_err-bytes
returns-in_err-bytes g c =
    looks_failed _ _ _ _ _ _ _ _ _ _ _ c.args.dev.now c.args.dev.now (λ t. unchanged_start _) (λ q other. refl) c.requires.«open» (omega arith) _ _ (err_of c.from_residual.result _ c.from_residual.ensures.1) (inl refl)

pub returns-in_err-decode_cfg-in-Ok : goal.returns-in_err-decode_cfg-in-Ok
returns-in_err-decode_cfg-in-Ok g c =
    let h = c.in-Ok.ensures in
    let whole : length c.read_last.new.bytes ≡ c.in_ok-bytes.bytes.len = search rules in
    let stand = c.as_slice.ensures.value ∙ take_at c.read_last.new.bytes (drop (length c.read_last.new.bytes) c.in_ok-bytes.bytes.items) c.in_ok-bytes.bytes.len whole in
    looks_coded _ _ _ _ _ _ _ _ _ _ _ _ _ h.unchanged h.entries h.«open» h.faults c.as_slice.result.now c.requires.some (λ t. stand ∙ h.bytes t) h.checked _ _ (err_of c.from_residual-in_err-decode_cfg-in-Ok.result _ c.from_residual-in_err-decode_cfg-in-Ok.ensures.1) c.in_err-decode_cfg-in-Ok.ensures.refused

pub returns-in-Ok : goal.returns-in-Ok
returns-in-Ok g c =
    let h = c.in-Ok.ensures in
    let whole : length c.read_last.new.bytes ≡ c.in_ok-bytes.bytes.len = search rules in
    let stand = c.as_slice.ensures.value ∙ take_at c.read_last.new.bytes (drop (length c.read_last.new.bytes) c.in_ok-bytes.bytes.items) c.in_ok-bytes.bytes.len whole in
    looks_got _ _ _ _ _ _ _ _ _ _ _ _ _ h.unchanged h.entries h.«open» h.faults _ (λ t. record {
      item = record { spelled = c.in_ok-decode_cfg-in-Ok.ensures.spelled ∙ stand ∙ h.bytes t; allowed = c.in_ok-decode_cfg-in-Ok.ensures.allowed };
      covered = h.checked t;
      within = h.within t;
    })

pub returns-in-InvalidChecksum : goal.returns-in-InvalidChecksum
returns-in-InvalidChecksum g c = looks_since _ _ _ _ _ _ _ _ _ _ _ _ c.read_last.new.dev _ c.read_last.ensures.unchanged c.read_last.ensures.entries c.read_last.ensures.faults _ c.refuse.ensures.looks

pub returns-in-BlobInsufficientLength : goal.returns-in-BlobInsufficientLength
returns-in-BlobInsufficientLength g c = looks_since _ _ _ _ _ _ _ _ _ _ _ _ c.read_last.new.dev _ c.read_last.ensures.unchanged c.read_last.ensures.entries c.read_last.ensures.faults _ c.refuse-in-BlobInsufficientLength.ensures.looks

pub returns : goal.returns
returns g c =
    let h = c.read_last.ensures in
    looks_failed _ _ _ _ _ _ _ _ _ _ _ _ _ h.unchanged h.entries h.«open» h.faults _ c.from.result refl (read_failed_last c.in-Err.e c.from.result _ _ c.from.ensures c.in_default.not-BlobInsufficientLength c.in_default.not-InvalidChecksum c.in-Err.ensures.cause)
