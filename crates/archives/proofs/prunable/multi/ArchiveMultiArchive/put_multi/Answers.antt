use Rattle.std.proofs.Common.{refl, arith}
use Rattle.std.proofs.lemmas.Bool.{le-ltb, lt-ltb}
use Rattle.blob_device.specs.Timeline.{disk}
use Rattle.archives.specs.Putting.{Often}
use Rattle.archives.specs.Shown.{shown}
use Rattle.archives.proofs.put.Sync.{section_small}
use Rattle.archives.proofs.put.Stands.{stands_settled}
use Rattle.archives.proofs.PutsLemmas.{put_nothing}
use Rattle.archives.proofs.prunable.multi.ArchiveMultiArchive.put_multi.Goals as goal

-- the index is below the floor
pub returns-then-index-self : goal.returns-then-index-self
returns-then-index-self g c =
    put_nothing _ g.D.Device Often c.args.self c.args.index (g.K.Key.key_bytes c.args.key) (g.V.Codec.spelling c.args.value.now) (section_small _ c.args.index c.ranges.index.fits)
    (lt-ltb c.args.index (shown c.args.self).floor c.if-index-self.true)
    c.args.dev.now c.requires.over
    (λ t sound. stands_settled (shown c.args.self) (disk (g.D.Device.time c.args.dev.now)) (omega arith) refl refl refl refl (λ s v held. λ i. (c.requires.over.pair.index.over.opened_list.setting s v held i).page_size) c.requires.over t sound)

pub append-requires-clause-floor : goal.append-requires-clause-floor
append-requires-clause-floor g c = omega (arith, c.if-index-self.false)

pub returns : goal.returns
returns g c = c.append.ensures Often (le-ltb c.args.index (shown c.args.self).floor (omega (arith, c.if-index-self.false)))
