use Rattle.std.proofs.Common.{inl, inr, min, sym, ap, subst, arith}
use Rattle.std.proofs.lemmas.Bool.{cases_lt}
use Rattle.blob_device.specs.Timeline.{Timeline, disk}
use Rattle.sealed_pages.specs.Buffer.{key_of, size_of}
use Rattle.sealed_pages.specs.Shown.{shown}
use Rattle.sealed_pages.specs.lemmas.Unrecovered.{adopted_backed}
use Rattle.section_manager.specs.lemmas.buffers.SealedCalls.{sound_page}
use Rattle.section_manager.specs.Sealed.{Stands}
use Rattle.section_manager.proofs.buffers.SealedCalls.{cut_moments, cut_stands, same_stands, cut_sealed}
use Rattle.section_manager.proofs.sealed.PageBlobSectionBuffer.truncate.Goals as goal

pub returns-clause-moments : goal.returns-clause-moments
returns-clause-moments g c t stands = cut_moments g.S.Seal.seal_of (shown c.args.self) (key_of (shown c.args.self)) (g.D.Device.time c.args.dev.now) (g.D.Device.time c.truncate.new.dev) (min c.args.self.settled c.args.len) c.args.len (omega arith) stands.adopted
    (c.truncate.ensures.crashes t) (c.truncate.ensures.recovering t) (c.truncate.ensures.steady t)

pub returns-clause-stands : goal.returns-clause-stands
returns-clause-stands g c t stands = elim (cases_lt c.args.len (size_of (shown c.args.self))) [
  | inl cuts ↦ cut_stands g.S.Seal.seal_of (shown c.args.self) (key_of (shown c.args.self)) (g.D.Device.time c.args.dev.now) (g.D.Device.time c.truncate.new.dev) c.truncate.result (λ v. shown v) c.args.len stands (c.truncate.ensures.rests t cuts)
      (c.truncate.ensures.sealed t) (c.truncate.ensures.recovered t) (c.truncate.ensures.unrecovered t)
  | inr past ↦ same_stands g.S.Seal.seal_of (shown c.args.self) (key_of (shown c.args.self)) (g.D.Device.time c.args.dev.now) (g.D.Device.time c.truncate.new.dev) c.truncate.result (λ v. shown v)
      (subst (λ (x : Timeline). Stands g.S.Seal.seal_of (shown c.args.self) (disk x (key_of (shown c.args.self)))) (ap g.D.Device.time (sym (c.truncate.ensures.unchanged past))) stands) (c.truncate.ensures.same past)
]

pub returns-clause-bytes : goal.returns-clause-bytes
returns-clause-bytes g c t stands = c.truncate.ensures.bytes t (adopted_backed g.S.Seal.seal_of (shown c.args.self) (disk (g.D.Device.time c.args.dev.now) (key_of (shown c.args.self))) stands.adopted)

pub returns-clause-whole : goal.returns-clause-whole
returns-clause-whole g c t stands sealed = c.truncate.ensures.sealed t sealed

pub returns-clause-mended : goal.returns-clause-mended
returns-clause-mended g c t stands cuts = cut_sealed g.S.Seal.seal_of (shown c.args.self) (key_of (shown c.args.self)) (g.D.Device.time c.args.dev.now) (g.D.Device.time c.truncate.new.dev) c.truncate.result (λ v. shown v) c.args.len (c.requires.can t) cuts (c.truncate.ensures.sealed t) (c.truncate.ensures.recovered t)

pub returns-clause-damage : goal.returns-clause-damage
returns-clause-damage g c t stands page = sound_page c.truncate.result page _ (c.truncate.ensures.whole t (c.requires.can t))
