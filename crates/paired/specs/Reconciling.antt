-- What the end of an opening cuts, and what each moment of a cut leaves.
use Rattle.std.specs.Prelude.{◌≡◌, ℕ, ◌*◌, ◌-◌, ◌^◌, ◌<◌, ◌≤◌, min, List, Option, Some, IsSomeAnd}
use Rattle.std.specs.Option.{option_map}
use Rattle.blob_device.specs.Disk.{Key, Blob, Disk}
use Rattle.sealed_pages.specs.Buffer.{bytes_of, size_of}
use Rattle.sealed_pages.specs.ChanceSeal.{Leaves}
use Rattle.sealed_pages.specs.Shown.{shown}
use Rattle.sealed_pages.specs.declared.page_blob.PageBlob.{PageBlob}
use Rattle.section_manager.specs.Sections.{Sections, key_of, IsKeyOf}
use Rattle.segments.specs.FixedLists.{section_bytes}
use Rattle.paired.specs.Places.{last_end}
use Rattle.paired.specs.Records.{records}

-- to how many bytes a section is cut, where it is cut to so many records
abbrev pub CutTo : ℕ → Option ℕ → Option ℕ
CutTo size = option_map (λ n. n * size)

-- n is `end`, or the size where that is less, which a u64 counts
pub record IsCutOff (end size n : ℕ) : Type 0 where
  -- it is the lesser of the two
  pub least : n ≡ min end size
  -- the size is a u64
  pub counted : size < 2 ^ 64

-- The values of a section end at `end`, within its bytes, and n is that as far as a u64 counts.
pub record IsEndWithin (end size n : ℕ) : Type 0 where
  -- it is the end, or the greatest u64 where that is less
  pub counted : n ≡ min end (2 ^ 64 - 1)
  -- the values stand within the section's bytes
  pub within : end ≤ size

module _ {F S : Type 0} {gs : _} where
  -- Each crash leaves of a section that is cut a prefix of its bytes, no shorter than the cut or than what had settled. No other blob changes.
  pub record Shortening (seal : List ℕ → ℕ) (m : Sections F (PageBlob S gs)) (size_to : ℕ → Option ℕ) (from : Disk) (q : Key) (b : Blob) : Type 0 where
    pub shortened : (s n : ℕ) (u : PageBlob S gs) → size_to s ≡ Some n → m.held s ≡ Some u → q ≡ key_of m s → Leaves seal u.page_size (bytes_of (shown u) (from q).content) (min u.settled n) b
    pub others : (IsKeyOf m (λ s. IsSomeAnd (size_to s) (λ n. IsSomeAnd (m.held s) (λ u. n < size_of (shown u)))) q → ⊥) → b ≡ from q

  -- where the values of a held section end
  abbrev pub EndOf : (List ℕ → ℕ × ℕ) → ℕ → Sections F (PageBlob S gs) → Disk → ℕ → Option ℕ
  EndOf place size m d s = option_map (λ u. last_end place (records size (section_bytes m d s))) (m.held s)
