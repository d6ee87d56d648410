use Rattle.std.proofs.Common.{inl, inr, ap, sym, subst}
use Rattle.std.proofs.lemmas.Bool.{cases_lt}
use Rattle.blob_device.specs.Disk.{Blob}
use Rattle.blob_device.specs.Timeline.{Timeline, disk}
use Rattle.section_manager.specs.unsealed.Buffer.{key_of, count_of, IsWhole}
use Rattle.section_manager.specs.lemmas.buffers.UnsealedCalls.{whole_settled}
use Rattle.section_manager.specs.lemmas.sections.Entry.{starts_none}
use Rattle.section_manager.proofs.buffers.UnsealedCalls.{cut_moments, whole_again, stands_after, undamaged}
use Rattle.section_manager.proofs.unsealed.WriteBlobSectionBuffer.truncate.Goals as goal
use Rattle.blob_device.proofs.general.Results.{if_ok_with}

pub returns-clause-moments : goal.returns-clause-moments
returns-clause-moments g c t stands = cut_moments c.args.self _ _ _ stands c.args.len (c.truncate.ensures.spares t) (c.truncate.ensures.since_cut t)

pub returns-clause-reads : goal.returns-clause-reads
returns-clause-reads g c none = starts_none _ _ _ c.truncate.ensures.entries

pub returns-clause-mended : goal.returns-clause-mended
returns-clause-mended g c t stands cuts = if_ok_with c.truncate.result (c.truncate.ensures.settles t cuts) (c.truncate.ensures.cut cuts)
    (λ r rest cut. whole_settled r (disk (g.D.Device.time c.truncate.new.dev) (key_of c.args.self)) cut.0 (ap (λ (b : Blob). b.loose) rest))

pub returns-clause-whole : goal.returns-clause-whole
returns-clause-whole g c t stands whole = elim (cases_lt c.args.len (count_of c.args.self)) [
  | inl cuts ↦ if_ok_with c.truncate.result (c.truncate.ensures.settles t cuts) (c.truncate.ensures.cut cuts)
      (λ r rest cut. whole_settled r (disk (g.D.Device.time c.truncate.new.dev) (key_of c.args.self)) cut.0 (ap (λ (b : Blob). b.loose) rest))
  | inr past ↦ whole_again c.truncate.result c.args.self (disk (g.D.Device.time c.truncate.new.dev) (key_of c.args.self)) (c.truncate.ensures.stays past)
      (subst (λ (x : Timeline). IsWhole c.args.self (disk x (key_of c.args.self))) (ap g.D.Device.time (sym (c.truncate.ensures.untouched past))) whole)
]

pub returns-clause-stands : goal.returns-clause-stands
returns-clause-stands g c t stands =
    stands_after c.truncate.result (key_of c.args.self) (disk (g.D.Device.time c.truncate.new.dev) (key_of c.args.self)) (g.D.Device.opened c.truncate.new.dev) (c.truncate.ensures.over t stands.over) c.truncate.ensures.key c.truncate.ensures.«open»
    (g.met.D.Device.opened_stands t c.truncate.new.dev (key_of c.args.self))

pub returns-clause-damage : goal.returns-clause-damage
returns-clause-damage g c t stands page is = undamaged c.truncate.result _ c.truncate.ensures.cause page is
