-- What a pair shows of itself.
use Rattle.std.specs.Prelude.{ℕ, true, List, string_bytes}
use Rattle.std.specs.Ordering.{nat_cmp}
use Rattle.std.specs.BTreeMap as tree
use Rattle.sealed_pages.specs.declared.page_blob.PageBlob.{PageBlob}
use Rattle.section_manager.specs.declared.sealed.AppendFactory.{AppendFactory}
use Rattle.section_manager.specs.managing.Managed as manager
use Rattle.segments.specs.FixedShown as fixed
use Rattle.meta_store.specs.Store as store
use Rattle.paired.specs.declared.oversized.Oversized.{Oversized}
use Rattle.paired.specs.Pair.{Pair}
use Rattle.paired.specs.sighted.Shown.{marker_format}

abbrev pub shown : {I V S C : Type 0} {fixed codec seal : _} → (List ℕ → ℕ × ℕ) → Oversized I V S C fixed codec seal → Pair (AppendFactory S) (PageBlob S seal)
shown {fixed = f} {seal = s} place o = record {
  layout = record {
    index = string_bytes o.index.manager.partition;
    values = string_bytes o.values.manager.partition;
    marked = true;
    metadata = string_bytes o.tracking.metadata.partition;
    page_size = o.index.manager.factory.pages.page_size;
    record_size = f.SIZE;
    seal = s.seal_of;
    place = place;
    markers = marker_format s;
  };
  index = fixed.shown o.index;
  values = manager.shown o.values.manager;
  store = store.shown o.tracking.metadata;
  trailing = tree.get nat_cmp o.tracking.trailing;
}
