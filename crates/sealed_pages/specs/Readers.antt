-- What a reader over a sealed blob shows: a position, and the bytes at hand there.
use Rattle.std.specs.Prelude.{◌≡◌, ℕ, ◌+◌, ◌-◌, ◌/◌, ◌<◌, ◌≤◌, min, List, length, drop, get_or, string_bytes}
use Rattle.blob_device.specs.Disk.{Key}
use Rattle.blob_device.specs.Opened.{OpenedList, reads_of}
use Rattle.sealed_pages.specs.declared.piece.Piece.{Piece}
use Rattle.sealed_pages.specs.declared.replay.PageReplay.{PageReplay}
use Rattle.sealed_pages.specs.Pieces.{IsPieceOf, next_missing}
use Rattle.sealed_pages.specs.Reads.{IsCovered}
use Rattle.sealed_pages.specs.SealedPrefix.{data_from}
use Rattle.sealed_pages.specs.Slots.{page_length}
use Rattle.sealed_pages.specs.View.{view, page_at}

-- `end` is the physical end of the blob, `size` the number of its bytes. `tip` has those of a last page that is not full.
pub record Reader : Type 0 where
  pub key : Key
  pub page_size : ℕ
  pub end : ℕ
  pub size : ℕ
  pub at : ℕ
  pub bytes : List ℕ
  pub piece : Piece
  pub tip : List ℕ

abbrev pub reading : {S : Type 0} {g : _} → PageReplay S g → Reader
reading r = record {
  key = (string_bytes r.partition, r.name.items);
  page_size = r.page_size;
  end = r.end;
  size = r.size;
  at = r.at;
  bytes = drop r.used r.held.items;
  piece = r.piece;
  tip = r.tip.items;
}

-- where the next byte stands that is not at hand
abbrev pub next_of : Reader → ℕ
next_of r = r.at + length r.bytes

-- how many of n bytes from the position on are in the blob and not yet at hand
abbrev pub missing_of : Reader → ℕ → ℕ
missing_of r n = min (r.size - r.at) n - length r.bytes

-- how many of the blob's full pages, from that of the next byte on, are not yet read
abbrev pub unread_of : Reader → ℕ
unread_of r = r.size / r.page_size - next_missing r.piece (next_of r / r.page_size)

-- The tip is as the content has it in this page, and a matching slot covers it.
pub record IsTipOf (seal : List ℕ → ℕ) (P : ℕ) (content : List ℕ) (k : ℕ) (tip : List ℕ) : Type 0 where
  pub same : (i : ℕ) → i < length tip → get_or tip i 0 ≡ view content (page_at P k + i)
  pub covered : length tip ≤ page_length seal P content k

-- The bytes at hand are those of the content at the position, and matching slots cover each page that has one of them, as far as
-- they go.
pub record IsReplayOf (seal : List ℕ → ℕ) (content : List ℕ) (r : Reader) : Type 0 where
  pub bytes : r.bytes ≡ data_from r.page_size (view content) r.at (length r.bytes)
  pub covered : IsCovered seal r.page_size content r.at (length r.bytes)
  pub piece : IsPieceOf content r.piece
  pub tip : IsTipOf seal r.page_size content (r.size / r.page_size) r.tip

-- Reads that began on the blob, and pages that are not yet read, come to no more than before: each read takes a page that was not.
abbrev pub ReadsUnread : Reader → Reader → OpenedList → OpenedList → Type 0
ReadsUnread old new before after = reads_of (after old.key) + unread_of new ≤ reads_of (before old.key) + unread_of old

-- the same blob, and the same position
pub record SameReader (old new : Reader) : Type 0 where
  pub key : new.key ≡ old.key
  pub page_size : new.page_size ≡ old.page_size
  pub end : new.end ≡ old.end
  pub size : new.size ≡ old.size
  pub at : new.at ≡ old.at
