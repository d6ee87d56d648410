-- How far a read of a frame goes, and what it needs of the pages.
use Rattle.std.specs.Prelude.{ℕ, ◌+◌, ◌^◌, min, List, length, Result, Ok, Err}
use Rattle.std.specs.Option.{option_map_or}
use Rattle.value_codec.specs.Varint.{varint_prefix}
use Rattle.value_codec.specs.declared.codec.Error as codec
use Rattle.sealed_pages.specs.Reads.{IsCovered, IsShort, below}
use Rattle.sealed_pages.specs.declared.page_blob.PageBlob.{PageBlob}
use Rattle.variable_journal.specs.Frames.{first_frame}

-- how many bytes say the length: its own; where they say none, five, or all where there are fewer
abbrev pub length_within : ℕ → Result (ℕ × ℕ) codec.Error → ℕ
length_within size (Ok r) = r.1
length_within size (Err e) = min 5 size

abbrev pub length_reach : List ℕ → ℕ
length_reach bytes = length_within (length bytes) (varint_prefix (2 ^ 32) 5 bytes)

-- how many bytes are the frame's; where no frame is whole, how many say its length
abbrev pub frame_reach : List ℕ → ℕ
frame_reach bytes = option_map_or (λ f. f.1 + f.0) (first_frame bytes) (length_reach bytes)

-- So many bytes are read from the offset on, of a buffer over this content.
module _ {S : Type 0} {gs : _} (seal : List ℕ → ℕ) (u : PageBlob S gs) (content : List ℕ)
    (offset reach : ℕ) where
  -- matching slots cover each page below the tip that has one of them, as far as they go
  abbrev pub IsCoveredTo : Type 0
  IsCoveredTo = IsCovered seal u.page_size content offset (below u.page_size u.first offset reach)

  -- page k has one of them, and no matching slot covers it as far as they go
  abbrev pub IsDamagedTo : ℕ → Type 0
  IsDamagedTo k = IsShort seal u.page_size content offset (below u.page_size u.first offset reach) k
