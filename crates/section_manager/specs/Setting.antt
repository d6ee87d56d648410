-- What buffers are made with.
use Rattle.std.specs.Prelude.{ℕ}

-- how many data bytes a page has, 1 where there are no pages, from how many bytes on they are flushed, and how many
-- full pages are held in memory at most
pub record Setting : Type 0 where
  pub page_size : ℕ
  pub capacity : ℕ
  pub cache_pages : ℕ
