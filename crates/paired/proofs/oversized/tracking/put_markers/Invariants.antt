use Rattle.std.proofs.Common.{◌≡◌, false}
use Rattle.blob_device.specs.Disk.{Disk}
use Rattle.meta_store.specs.Store.{shown, Stands, MayBeSynced}
use Rattle.paired.specs.sighted.Shown.{marker_format}
use Rattle.paired.proofs.tracking.Lemmas.{Staging}
use Rattle.paired.proofs.oversized.tracking.put_markers.Given as goal
use Rattle.meta_store.specs.declared.copy.Contents.{Contents}

abbrev pub invariant-loop-section : goal.invariant-loop-section
invariant-loop-section g l = record {
  staging : Staging l.active l.lens.entries l.section-iterator (shown l.initial.metadata) (shown l.metadata);
  fresh : (shown l.metadata).staged ≡ false → shown l.metadata ≡ shown l.initial.metadata;
  storable : MayBeSynced (marker_format g.S.Seal) (shown l.initial.metadata).entries → MayBeSynced (marker_format g.S.Seal) (shown l.metadata).entries;
  stands : (synced : Contents _ _) (d : Disk) → Stands (marker_format g.S.Seal) (shown l.initial.metadata) synced d → Stands (marker_format g.S.Seal) (shown l.metadata) synced d;
}
