use Rattle.std.proofs.Common.{◌≡◌, refl, sym, ◌∙◌, arith, true}
use Rattle.blob_device.specs.Timeline.{disk}
use Rattle.archives.specs.Putting.{Once, is_skipped}
use Rattle.archives.specs.Shown.{shown}
use Rattle.archives.proofs.put.Sync.{section_small}
use Rattle.archives.proofs.put.Stands.{stands_settled}
use Rattle.archives.proofs.PutsLemmas.{put_nothing}
use Rattle.archives.proofs.PuttingLemmas.{skips_low, skips_not, skips_taken}
use Rattle.archives.proofs.prunable.ArchiveArchive.put.Goals as goal
use Rattle.archives.proofs.prunable.ArchiveArchive.put.Goals.{then-index-self-via-then-index-self, then-index-self-via-else-index-self+then-has_index}

-- the index is below the floor, or it is taken, as the set has it
pub returns-then-index-self : goal.returns-then-index-self
returns-then-index-self g c =
    let a = shown c.args.self in
    let skips : is_skipped a c.args.index Once ≡ true = elim c.then-index-self.branch [
      | then-index-self-via-then-index-self w ↦ skips_low a c.args.index w.if-index-self.true
      | then-index-self-via-else-index-self+then-has_index w ↦ skips_taken a c.args.index (c.requires.over.indices c.args.index) (sym w.has_index.ensures ∙ w.if-has_index.true)
    ] in
    put_nothing _ g.D.Device Once c.args.self c.args.index (g.K.Key.key_bytes c.args.key) (g.V.Codec.spelling c.args.value.now) (section_small _ c.args.index c.ranges.index.fits) skips
    c.args.dev.now c.requires.over
    (λ t sound. stands_settled a (disk (g.D.Device.time c.args.dev.now)) (omega arith) refl refl refl refl (λ s v held. λ i. (c.requires.over.pair.index.over.opened_list.setting s v held i).page_size) c.requires.over t sound)

pub append-requires-clause-floor : goal.append-requires-clause-floor
append-requires-clause-floor g c = omega (arith, c.if-index-self.false)

pub returns : goal.returns
returns g c = c.append.ensures Once (skips_not (shown c.args.self) c.args.index (c.requires.over.indices c.args.index) (omega (arith, c.if-index-self.false)) (sym c.has_index.ensures ∙ c.if-has_index.false))
