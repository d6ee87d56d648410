-- What calls on one blob leave of the places that they were not handed.
use Rattle.std.specs.Prelude.{◌≡◌, ℕ, ◌<◌, ◌≤◌, true, false, List, length, get_or, Option, IsSomeAnd}
use Rattle.blob_device.specs.Disk.{Key, Blob, Outside, MayLeave, shortest}
use Rattle.blob_device.specs.Keeps.{Keeps}
use Rattle.blob_device.specs.Timeline.{Timeline, disk, Always, OnlyAt}

-- each crash leaves the blob, with at least n bytes, and it reads as that long
pub record Lasts (n : ℕ) (b : Blob) : Type 0 where
  pub there : b.there ≡ true
  pub sure : b.unsure ≡ false
  pub short : n ≤ shortest b
  pub long : n ≤ length b.content

-- a content has the byte of another at a place
pub record SameByte (i : ℕ) (old new : List ℕ) : Type 0 where
  pub inside : i < length new
  pub same : get_or new i 0 ≡ get_or old i 0

-- The blob at a moment, where it was `from` before: none of the places that R names was made loose, and each reads as before,
-- places past the end as zeros. Of the first n bytes, as many as had settled and were not loose are in each crash image.
pub record Spares (R : ℕ → Type 0) (n : ℕ) (from b : Blob) : Type 0 where
  pub loose : (i : ℕ) → R i → Outside from.loose i → Outside b.loose i
  pub same : (i : ℕ) → R i → get_or b.content i 0 ≡ get_or from.content i 0
  pub lasts : (m : ℕ) → m ≤ n → Lasts m from → Lasts m b
  pub crashes : (m : ℕ) → m ≤ n → Lasts m from → (left : Option (List ℕ)) → MayLeave b left → IsSomeAnd left (λ c. (i : ℕ) → i < m → R i → Outside from.loose i → SameByte i from.content c)

-- at each moment, also inside calls of the device; no other blob changes
abbrev pub Sparing : (ℕ → Type 0) → ℕ → Key → Timeline → Timeline → Type 0
Sparing R n key old new = Always old new (OnlyAt key (disk old) (Spares R n (disk old key)))

-- at each moment, also inside calls of the device, none of the places that R names was made loose
abbrev pub LooseOnly : (ℕ → Type 0) → Key → Timeline → Timeline → Type 0
LooseOnly R key old new = Always old new (λ d. (i : ℕ) → R i → Outside (disk old key).loose i → Outside (d key).loose i)

-- at each moment, also inside calls of the device, each crash leaves the blob with these bytes at its start; no other blob changes
abbrev pub Keeping : List ℕ → Key → Timeline → Timeline → Type 0
Keeping kept key old new = Always old new (OnlyAt key (disk old) (Keeps kept))
