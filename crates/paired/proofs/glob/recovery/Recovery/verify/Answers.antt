use Rattle.std.proofs.Common.{◌≡◌, ◌+◌, ◌≤◌, ℕ, List, Bor, Some, inl, inr, sym, ◌∙◌, ap, subst, arith}
use Rattle.std.specs.Prelude.{◌↔◌, IsTrue}
use Rattle.std.specs.Option.{option_copied}
use Rattle.blob_device.specs.Timeline.{disk}
use Rattle.blob_device.specs.Disk.{Key}
use Rattle.sealed_pages.specs.Entries.{ReadsAtMost}
use Rattle.paired.specs.lemmas.Glob.{glob_read}
use Rattle.paired.specs.lemmas.Kept.{sound_parts}
use Rattle.sealed_pages.specs.lemmas.looking.Looking.{unchanged_now}
use Rattle.section_manager.specs.managing.Managed.{shown}
use Rattle.paired.specs.Frames.{IsSealed}
use Rattle.paired.specs.glob.Sections.{section_bytes}
use Rattle.section_manager.specs.unsealed.Buffer.{count_of}
use Rattle.paired.specs.Records.{is_sound}
use Rattle.paired.proofs.SoundLemmas.{sound_verdict}
use Rattle.paired.proofs.ReadLemmas.{own_key, as_long, bytes_read, frame_inside, refused_so, taken_so, verdict}
use Rattle.paired.proofs.glob.recovery.Recovery.verify.Goals as goal

pub returns-then-is_err-clause-sealed : goal.returns-then-is_err-clause-sealed
returns-then-is_err-clause-sealed g c t =
    let m = shown c.args.self.now.manager in
    let u = c.in-Some.buffer.now in
    let held : m.held c.args.section ≡ Some u = sym c.in_ok-buffer.ensures.held ∙ ap option_copied c.in-Some.is in
    let says = c.check_range.ensures in
    let why = refused_so c.check_range.result _ (sym c.is_err.ensures.value ∙ c.if-is_err.true) says.cause in (
      λ yes. absurd (cc yes),
      λ sealed.
          let inside = frame_inside _ m _ _ c.requires c.args.section u held t g.S.Seal.seal_of c.args.offset c.args.size sealed.0 sealed.1 in
          absurd (elim why [
            | inl over ↦ absurd (omega (arith, says.overflow.0 over, says.bound, inside.inside))
            | inr short ↦ elim (says.short.0 short).1 [
              | inl past ↦ absurd (omega (arith, past, inside.inside))
              | inr little ↦ absurd (omega (arith, little, inside.enough))
            ]
          ]),
    )

pub returns-in_err-bytes-clause-over : goal.returns-in_err-bytes-clause-over
returns-in_err-bytes-clause-over g c = glob_read _ (shown c.args.self.now.manager) _ _ c.requires _ _ (disk (g.D.Device.time c.read_frame.new.dev)) c.read_frame.ensures.reads (λ t. unchanged_now _ _ (c.read_frame.ensures.unchanged t))

pub returns-clause-over : goal.returns-clause-over
returns-clause-over g c = glob_read _ (shown c.args.self.now.manager) _ _ c.requires _ _ (disk (g.D.Device.time c.read_frame.new.dev)) c.read_frame.ensures.reads (λ t. unchanged_now _ _ (c.read_frame.ensures.unchanged t))

pub returns-clause-reads : goal.returns-clause-reads
returns-clause-reads g c =
    let m = shown c.args.self.now.manager in
    let u = c.in-Some.buffer.now in
    let held : m.held c.args.section ≡ Some u = sym c.in_ok-buffer.ensures.held ∙ ap option_copied c.in-Some.is in
    subst (λ (k : Key). ReadsAtMost 1 k (g.D.Device.opened c.args.dev.now) (g.D.Device.opened c.read_frame.new.dev)) (own_key _ m _ _ c.requires c.args.section u held) c.read_frame.ensures.reads

pub returns-clause-sealed : goal.returns-clause-sealed
returns-clause-sealed g c t =
    let m = shown c.args.self.now.manager in
    let d = disk (g.D.Device.time c.args.dev.now) in
    let u = c.in-Some.buffer.now in
    let held : m.held c.args.section ≡ Some u = sym c.in_ok-buffer.ensures.held ∙ ap option_copied c.in-Some.is in
    let all = section_bytes m d c.args.section in
    let inside = taken_so c.check_range.result _ (sym c.is_err.ensures.value ∙ c.if-is_err.false) c.check_range.ensures.inside in
    subst (λ b. IsTrue b ↔ IsSealed g.S.Seal.seal_of all c.args.offset c.args.size) (sym c.is_ok.ensures.value)
    (verdict c.spelled.result (λ (b : Bor (List ℕ)). b.now) g.S.Seal.seal_of g.met.S.Seal.fits all c.as_slice.result.now c.args.offset c.args.size
    (omega (arith, as_long _ m _ d c.requires c.args.section u held t, inside.inside))
    (bytes_read _ m _ d c.requires c.args.section u held c.as_slice.result.now c.args.offset c.args.size (c.as_slice.ensures.value ∙ c.in_ok-bytes.ensures.bytes t))
    c.spelled.ensures.sealed c.spelled.ensures.broken c.spelled.ensures.cause)

pub returns-clause-sound : goal.returns-clause-sound
returns-clause-sound g c t =
    let m = shown c.args.self.now.manager in
    let d = disk (g.D.Device.time c.args.dev.now) in
    let u = c.in-Some.buffer.now in
    let held : m.held c.args.section ≡ Some u = sym c.in_ok-buffer.ensures.held ∙ ap option_copied c.in-Some.is in
    let all = section_bytes m d c.args.section in
    let inside = taken_so c.check_range.result _ (sym c.is_err.ensures.value ∙ c.if-is_err.false) c.check_range.ensures.inside in
    subst (λ b. IsTrue b ↔ IsTrue (is_sound g.S.Seal.seal_of all (c.args.offset, c.args.size))) (sym c.is_ok.ensures.value)
    (sound_verdict g.S.Seal.seal_of g.met.S.Seal.fits c.spelled.result (λ (b : Bor (List ℕ)). b.now) all c.as_slice.result.now c.args.offset c.args.size
    (omega (arith, as_long _ m _ d c.requires c.args.section u held t, inside.inside))
    (bytes_read _ m _ d c.requires c.args.section u held c.as_slice.result.now c.args.offset c.args.size (c.as_slice.ensures.value ∙ c.in_ok-bytes.ensures.bytes t))
    c.spelled.ensures.sealed c.spelled.ensures.broken c.spelled.ensures.cause)

pub returns-then-is_err-clause-sound : goal.returns-then-is_err-clause-sound
returns-then-is_err-clause-sound g c t =
    let m = shown c.args.self.now.manager in
    let u = c.in-Some.buffer.now in
    let held : m.held c.args.section ≡ Some u = sym c.in_ok-buffer.ensures.held ∙ ap option_copied c.in-Some.is in
    let says = c.check_range.ensures in
    let why = refused_so c.check_range.result _ (sym c.is_err.ensures.value ∙ c.if-is_err.true) says.cause in (
      λ yes. absurd (cc yes),
      λ sound.
          let parts = sound_parts g.S.Seal.seal_of (section_bytes m (disk (g.D.Device.time c.args.dev.now)) c.args.section) c.args.offset c.args.size sound in
          let inside : c.args.offset + c.args.size ≤ count_of u = omega (arith, parts.1, as_long _ m _ (disk (g.D.Device.time c.args.dev.now)) c.requires c.args.section u held t) in
          absurd (elim why [
            | inl over ↦ absurd (omega (arith, says.overflow.0 over, says.bound, inside))
            | inr short ↦ elim (says.short.0 short).1 [
              | inl past ↦ absurd (omega (arith, past, inside))
              | inr little ↦ absurd (omega (arith, little, parts.0))
            ]
          ]),
    )

pub returns-in_err-bytes-clause-reads : goal.returns-in_err-bytes-clause-reads
returns-in_err-bytes-clause-reads g c =
    let m = shown c.args.self.now.manager in
    let u = c.in-Some.buffer.now in
    let held : m.held c.args.section ≡ Some u = sym c.in_ok-buffer.ensures.held ∙ ap option_copied c.in-Some.is in
    subst (λ (k : Key). ReadsAtMost 1 k (g.D.Device.opened c.args.dev.now) (g.D.Device.opened c.read_frame.new.dev)) (own_key _ m _ _ c.requires c.args.section u held) c.read_frame.ensures.reads
