-- What stays unflushed of a fixed journal's section.
use Rattle.std.specs.Prelude.{◌≡◌, ℕ, Option, None, Some}
use Rattle.sealed_pages.specs.declared.page_blob.PageBlob.{PageBlob}
use Rattle.sealed_pages.specs.Shown.{shown}
use Rattle.sealed_pages.specs.Tails.{tail_of, tail_after}
use Rattle.section_manager.specs.declared.sealed.AppendFactory.{AppendFactory}
use Rattle.section_manager.specs.Sections.{Sections}

module _ {S : Type 0} {gs : _} where
  abbrev pub tail_held : Option (PageBlob S gs) → ℕ
  tail_held None = 0
  tail_held (Some u) = tail_of (shown u)

  -- how many bytes of a section are not flushed; none where it is not held
  abbrev pub tail_size : Sections (AppendFactory S) (PageBlob S gs) → ℕ → ℕ
  tail_size m s = tail_held (m.held s)

  -- In n the section has a tail as an append of so many bytes leaves it, whether m held the section
  -- or not.
  abbrev pub IsTailAfter : Sections (AppendFactory S) (PageBlob S gs) → ℕ → ℕ
      → Sections (AppendFactory S) (PageBlob S gs) → Type 0
  IsTailAfter m s added n = tail_size n s ≡ tail_after m.factory.write_buffer (tail_size m s) added
