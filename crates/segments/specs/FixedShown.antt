-- What a fixed journal shows of itself.
use Rattle.std.specs.Prelude.{Bool}
use Rattle.std.specs.Ordering.{nat_cmp}
use Rattle.std.specs.BTreeSet as set
use Rattle.sealed_pages.specs.declared.page_blob.PageBlob.{PageBlob}
use Rattle.section_manager.specs.declared.sealed.AppendFactory.{AppendFactory}
use Rattle.section_manager.specs.managing.Managed as manager
use Rattle.segments.specs.declared.fixed.Journal.{Journal}
use Rattle.segments.specs.FixedLists.{Lists, floor_in}

abbrev pub shown : {A S : Type 0} {fixed codec seal : _} → Journal A S fixed codec seal
    → Lists (AppendFactory S) (PageBlob S seal)
shown j = record {
  sections = manager.shown j.manager;
  unrecovered = set.contains nat_cmp j.unrecovered;
  floor_of = floor_in j.floors;
}

-- the same beside an answer
abbrev pub flagged : {A S : Type 0} {fixed codec seal : _} → Journal A S fixed codec seal × Bool
    → Lists (AppendFactory S) (PageBlob S seal) × Bool
flagged r = (shown r.0, r.1)
