-- Pages with two slots each, under any seal: which slots of a content match, and how far a page is covered.
use Rattle.std.specs.Prelude.{ℕ, ◌+◌, ◌^◌, ◌++◌, ◌&&◌, leb, ltb, eqb, max, Bool, true, false, cond, List, length}
use Rattle.std.specs.Int.{w16, w32, to_be_bytes, from_be_bytes}
use Rattle.sealed_pages.specs.View.{View, view, bytes_at, page_at, slot_at}

-- the length that a slot names: two bytes, the greater first
abbrev pub named_length : View → ℕ → ℕ
named_length v at = from_be_bytes w16 (bytes_at v at 2)

-- the seal that it names: the four bytes behind
abbrev pub named_seal : View → ℕ → ℕ
named_seal v at = from_be_bytes w32 (bytes_at v (at + 2) 4)

-- Page k, with both its slots, ends below 2^64. A page that does not can not have both: it counts as one without a matching slot.
abbrev pub has_places : ℕ → ℕ → Bool
has_places P k = ltb (page_at P k + (P + 12)) (2 ^ 64)

-- the six bytes of a slot stand below the content's end, in a page that has its places
unfoldable pub is_whole : ℕ → List ℕ → ℕ → Bool → Bool
is_whole P c k second = leb (slot_at P k second + 6) (length c) && has_places P k

module _ (seal : List ℕ → ℕ) (P : ℕ) where
  -- the seal over the two length bytes and the data bytes that the slot covers
  abbrev pub computed_seal : View → ℕ → ℕ → ℕ → ℕ
  computed_seal v page slot n = seal (bytes_at v slot 2 ++ bytes_at v page n)

  -- The length of a slot that matches, else 0. A slot matches where its six bytes stand whole below the content's end, in a
  -- page that has its places, its length is 1 to P, and its seal holds. (One that names the length 0 is like one that does not
  -- match.)
  unfoldable pub slot_length : List ℕ → ℕ → Bool → ℕ
  slot_length c k second = let n = named_length (view c) (slot_at P k second) in
      cond (is_whole P c k second)
      (cond (leb n P) (cond (eqb (computed_seal (view c) (page_at P k) (slot_at P k second) n) (named_seal (view c) (slot_at P k second))) n 0) 0)
      0

  -- a page's length: the greater length of its matching slots, or 0
  unfoldable pub page_length : List ℕ → ℕ → ℕ
  page_length c k = max (slot_length c k false) (slot_length c k true)

  -- the slot of greater length, and slot A at a tie
  abbrev pub best_slot : List ℕ → ℕ → Bool
  best_slot c k = ltb (slot_length c k false) (slot_length c k true)

  -- a slot over these data bytes
  unfoldable pub slot_bytes : List ℕ → List ℕ
  slot_bytes bytes = to_be_bytes w16 (length bytes) ++ to_be_bytes w32 (seal (to_be_bytes w16 (length bytes) ++ bytes))
