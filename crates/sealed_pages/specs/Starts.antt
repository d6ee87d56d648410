-- How a buffer starts over a blob that it adopts, from the last page with a matching slot.
use Rattle.std.specs.Prelude.{◌≡◌, ℕ, ◌+◌, ◌*◌, ◌^◌, ◌<◌, ◌≤◌, not, Bool, true, false, List, length, Option, Some, None}
use Rattle.sealed_pages.specs.declared.reading.LastPage.{LastPage}
use Rattle.sealed_pages.specs.declared.start.Start.{Start}
use Rattle.sealed_pages.specs.Found.{Finds}
use Rattle.sealed_pages.specs.Leftover.{Leftover}
use Rattle.sealed_pages.specs.Reading.{page_of}
use Rattle.sealed_pages.specs.View.{page_at}
use Rattle.sealed_pages.specs.Slots.{slot_length, page_length, best_slot}
use Rattle.sealed_pages.specs.Flushing.{IsClean}
use Rattle.sealed_pages.specs.Buffer.{pages_of}
use Rattle.sealed_pages.specs.SlotNames.{is_b}

-- The tip begins in that page if it is not full, else behind it; its slot of greater length is the newest.
-- What stands behind that page, and a torn other slot of a page that is not full, have to be removed.
pub record Starts (seal : List ℕ → ℕ) (P : ℕ) (c : List ℕ) (page first from : ℕ)
    (newest behind torn : Bool) : Type 0 where
  -- the flushed bytes end where a matching slot of that page says,
  pub size : first * P + from ≡ page * P + page_length seal P c page
  -- less than a page of the tip stands in the blob,
  pub begun : from < P
  -- that page is the last one with flushed bytes,
  pub pages : pages_of first from ≡ page + 1
  -- and the tip begins in it if it is not full
  pub within : 0 < from → first ≡ page
  -- the newest slot is its longer one
  pub newest_is : newest ≡ best_slot seal P c page
  -- bytes stand behind it only where the blob is longer,
  pub longer : behind ≡ true → page_at P (page + 1) ≤ length c
  -- and else it is not
  pub shorter : behind ≡ false → length c ≤ page_at P (page + 1)
  -- a torn slot stands beside one that covers bytes of the tip,
  pub inside : torn ≡ true → 0 < from
  -- and where none is torn, the other slot of such a page is clean
  pub clean : torn ≡ false → 0 < from → IsClean seal P c page (not newest)

-- with no such page, the buffer is empty and all bytes of the blob have to be removed
abbrev pub StartsOver : (List ℕ → ℕ) → ℕ → List ℕ → Option LastPage → ℕ → ℕ → Bool → Bool → Bool
    → Type 0
StartsOver seal P c None first from newest behind torn = (first ≡ 0) × (from ≡ 0) × (torn ≡ false)
    × (behind ≡ false → length c ≡ 0)
StartsOver seal P c (Some p) first from newest behind torn =
    Starts seal P c p.page first from newest behind torn

-- A start over the last page with a matching slot, of which these bytes stand below the blob's end.
pub record StartsAt (seal : List ℕ → ℕ) (P end : ℕ) (last : LastPage) (page : List ℕ)
    (result : Start) : Type 0 where
  -- less than a page of the tip stands in the blob,
  pub begun : result.from < P
  -- and no page behind this one is begun
  pub pages : pages_of result.first result.from ≤ last.page + 1
  -- and a torn slot stands beside one that covers bytes of it
  pub inside : result.torn ≡ true → 0 < result.from
  -- the start is that of any content that ends there, and has this page and these lengths
  pub starts : (c : List ℕ) → length c ≡ end → page ≡ page_of P c last.page
      → last.first_len ≡ slot_length seal P c last.page false
      → last.second_len ≡ slot_length seal P c last.page true
      → 1 ≤ page_length seal P c last.page → Starts seal P c last.page result.first result.from
      (is_b result.newest) result.behind result.torn
  -- and says what a crash may have left in it
  pub leftover : (c : List ℕ) → length c ≡ end → page ≡ page_of P c last.page
      → last.first_len ≡ slot_length seal P c last.page false
      → last.second_len ≡ slot_length seal P c last.page true → Leftover seal P c result.first
      result.from (is_b result.newest) result.behind result.torn

-- A start over what was found: the last page with a matching slot, or none. `buf` begins with its
-- bytes.
pub record StartsOf (seal : List ℕ → ℕ) (P end : ℕ) (found : Option LastPage) (buf : List ℕ)
    (result : Start) : Type 0 where
  -- less than a page of the tip stands in the blob,
  pub begun : result.from < P
  -- and the place behind the flushed pages is below 2^64
  pub place : page_at P (pages_of result.first result.from) < 2 ^ 64
  -- and a torn slot stands beside one that covers bytes of it
  pub inside : result.torn ≡ true → 0 < result.from
  -- the start is that of any content that ends there, and in which this is found
  pub starts : (c : List ℕ) → length c ≡ end → Finds seal P c found buf
      → StartsOver seal P c found result.first result.from (is_b result.newest) result.behind
      result.torn
  -- and says what a crash may have left in it
  pub leftover : (c : List ℕ) → length c ≡ end → Finds seal P c found buf
      → Leftover seal P c result.first result.from (is_b result.newest) result.behind result.torn
