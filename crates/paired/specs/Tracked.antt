-- Markers, and what trails them.
use Rattle.std.specs.Prelude.{◌≡◌, ◌≢◌, ℕ, ◌<◌, ◌^◌, nat_le, Bool, Option, Some, unwrap_or}
use Rattle.std.specs.Int.{w64, to_be_bytes}
use Rattle.meta_store.specs.Store.{Store}
use Rattle.value_codec.specs.declared.key.Key8.{Key8}
use Rattle.value_codec.specs.Keys.{key8_bytes}
use Rattle.paired.specs.Kept.{marker_of}

-- The markers, and of each section whose marker is another number, its length at its last completed sync or opening.
pub record Tracked : Type 0 where
  pub store : Store Key8 ℕ
  pub trailing : ℕ → Option ℕ

-- the length of a section at its last completed sync or opening; 0 where it is not held
abbrev pub synced_of : Tracked → ℕ → ℕ
synced_of t s = unwrap_or (t.trailing s) (marker_of t.store.entries s)

-- what trails is another number than the marker
abbrev pub Trails : Tracked → Type 0
Trails t = (s n : ℕ) → t.trailing s ≡ Some n → (n ≢ marker_of t.store.entries s)

-- the answer to whether the section that this key is of is at or above the bound
pub record IsFrom (min : ℕ) (key : Key8) (answer : Bool) : Type 0 where
  pub section : ℕ
  pub fits : section < 2 ^ 64
  pub bytes : to_be_bytes w64 section ≡ key8_bytes key
  pub answers : answer ≡ nat_le min section
