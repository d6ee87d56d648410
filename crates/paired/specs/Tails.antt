-- What stays unflushed of a section of a glob, and of a pair, behind an append.
use Rattle.std.specs.Prelude.{◌≡◌, ℕ}
use Rattle.sealed_pages.specs.declared.page_blob.PageBlob.{PageBlob}
use Rattle.sealed_pages.specs.declared.write_blob.WriteBlob.{WriteBlob}
use Rattle.sealed_pages.specs.Tails.{tail_after}
use Rattle.section_manager.specs.declared.sealed.AppendFactory.{AppendFactory}
use Rattle.section_manager.specs.declared.unsealed.WriteFactory.{WriteFactory}
use Rattle.section_manager.specs.Sections.{Sections}
use Rattle.segments.specs.Tails as fixed
use Rattle.paired.specs.glob.Sections.{pending_size}
use Rattle.paired.specs.Pair.{Pair}

-- In n the section's values have a tail as an append of so many bytes leaves it, whether m held the section or not.
abbrev pub IsTailAfter : Sections WriteFactory WriteBlob → ℕ → ℕ → Sections WriteFactory WriteBlob → Type 0
IsTailAfter m s added n = pending_size n s ≡ tail_after m.factory.capacity (pending_size m s) added

-- In q the section's two buffers have tails as a record more, and a frame of so many bytes, leave them.
pub record AreTailsAfter {S : Type 0} {gs : _} (p : Pair (AppendFactory S) (PageBlob S gs)) (s frame : ℕ) (q : Pair (AppendFactory S) (PageBlob S gs)) : Type 0 where
  -- that of the records
  pub records : fixed.IsTailAfter p.index.sections s p.layout.record_size q.index.sections
  -- that of the values
  pub values : IsTailAfter p.values s frame q.values
