-- Items of one size, one after another in a list of bytes.
use Rattle.std.specs.Prelude.{◌≡◌, ℕ, ◌*◌, ◌/◌, ◌<◌, ◌≤◌, List, length, take, drop}

-- how many items are whole
abbrev pub item_count : ℕ → List ℕ → ℕ
item_count size bytes = length bytes / size

-- the bytes of item p
abbrev pub item_at : ℕ → List ℕ → ℕ → List ℕ
item_at size bytes p = take size (drop (p * size) bytes)

-- v is the item that these bytes spell
pub record IsItem {V : Type 0} (spelling : V → List ℕ) (accepted : V → Unit {0} → Type 0)
    (bytes : List ℕ) (v : V) : Type 0 where
  pub spelled : spelling v ≡ bytes
  pub allowed : accepted v tt

-- The whole items of `kept` are the first ones of `bytes`, and no fewer than are whole in `least`
-- bytes.
pub record HoldsFirstItems (size : ℕ) (bytes : List ℕ) (least : ℕ) (kept : List ℕ) : Type 0 where
  pub no_fewer : least / size ≤ item_count size kept
  pub no_more : item_count size kept ≤ item_count size bytes
  pub same : (p : ℕ) → p < item_count size kept → item_at size kept p ≡ item_at size bytes p
