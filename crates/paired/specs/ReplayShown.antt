-- What a replay of a pair shows of itself, and how a pair that is opened is stored.
use Rattle.std.specs.Prelude.{ℕ, true, List, string_bytes}
use Rattle.std.specs.Ordering.{nat_cmp}
use Rattle.std.specs.BTreeMap as tree
use Rattle.value_codec.specs.declared.seal.Seal as seal
use Rattle.sealed_pages.specs.declared.page_blob.PageBlob.{PageBlob}
use Rattle.section_manager.specs.declared.sealed.AppendFactory.{AppendFactory}
use Rattle.section_manager.specs.managing.Managed as manager
use Rattle.segments.specs.FixedWalking.{walk_of}
use Rattle.meta_store.specs.Store as store
use Rattle.paired.specs.declared.oversized.opening.Config.{Config}
use Rattle.paired.specs.declared.oversized.replaying.Limits as declared
use Rattle.paired.specs.declared.oversized.replaying.Replay.{Replay}
use Rattle.paired.specs.Kept.{Layout}
use Rattle.paired.specs.Replaying.{Limits, Run}
use Rattle.paired.specs.sighted.Shown.{marker_format}

-- records of this size, which name places so, under this seal
abbrev pub layout_for : {S C : Type 0} → (List ℕ → ℕ × ℕ) → ℕ → seal.Ghosts S → Config C → List ℕ → Layout
layout_for place size sealing cfg metadata = record {
  index = string_bytes cfg.index_partition;
  values = string_bytes cfg.value_partition;
  marked = true;
  metadata = metadata;
  page_size = cfg.index_pages.page_size;
  record_size = size;
  seal = sealing.seal_of;
  place = place;
  markers = marker_format sealing;
}

-- how far an opening keeps the sections
abbrev pub limits_of : declared.Limits → Limits
limits_of l = record { at = tree.get nat_cmp l.at; values = tree.get nat_cmp l.values }

abbrev pub run_of : {I V S C : Type 0} {fixed codec seal : _} → (List ℕ → ℕ × ℕ) → Replay I V S C fixed codec seal → Run (AppendFactory S) (PageBlob S seal)
run_of {fixed = f} {seal = s} place r = record {
  layout = record {
    index = string_bytes r.index.journal.manager.partition;
    values = string_bytes r.values.manager.partition;
    marked = true;
    metadata = string_bytes r.tracking.metadata.partition;
    page_size = r.index.journal.manager.factory.pages.page_size;
    record_size = f.SIZE;
    seal = s.seal_of;
    place = place;
    markers = marker_format s;
  };
  walk = walk_of r.index;
  values = manager.shown r.values.manager;
  store = store.shown r.tracking.metadata;
  trailing = tree.get nat_cmp r.tracking.trailing;
  tracked = r.is_tracked;
  ends = limits_of r.ends;
  ended_section = r.ended_section;
  failed = r.has_failed;
}
