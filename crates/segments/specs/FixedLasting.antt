-- What the calls of a fixed journal leave of its sections' blobs, at each moment.
use Rattle.std.specs.Prelude.{◌≡◌, ◌⊎◌, ℕ, false, List, length, Some}
use Rattle.blob_device.specs.Disk.{Key, Blob, Disk}
use Rattle.sealed_pages.specs.declared.page_blob.PageBlob.{PageBlob}
use Rattle.sealed_pages.specs.Shown.{shown}
use Rattle.sealed_pages.specs.Buffer.{bytes_of, IsSealed}
use Rattle.sealed_pages.specs.ChanceSeal.{Leaves}
use Rattle.sealed_pages.specs.SealedPrefix.{sealed_prefix}
use Rattle.sealed_pages.specs.Unrecovered.{IsUnrecovered}
use Rattle.section_manager.specs.Sections.{key_of, IsHeld, IsKeyOf}
use Rattle.section_manager.specs.Lasting.{IsOpening}
use Rattle.segments.specs.FixedLists.{Lists}

-- The blob is made, or being made; then each crash leaves a prefix of these bytes in it.
abbrev pub IsBeginning : (List ℕ → ℕ) → ℕ → List ℕ → Blob → Blob → Type 0
IsBeginning seal P bytes from b = IsOpening from b ⊎ Leaves seal P bytes 0 b

-- Each crash leaves of a named section that is sealed, as each proven one is, a prefix of its
-- bytes, no shorter than what had settled, and of one that is not all of its sealed prefix, as it
-- read. No blob changes but those of the named sections that owe no replay.
pub record Settling {F S : Type 0} {gs : _} (seal : List ℕ → ℕ) (j : Lists F (PageBlob S gs))
    (IsNamed : ℕ → Type 0) (from : Disk) (q : Key) (b : Blob) : Type 0 where
  pub named : (s : ℕ) (u : PageBlob S gs) → IsNamed s → j.sections.held s ≡ Some u
      → IsSealed seal (shown u) (from q) → q ≡ key_of j.sections s
      → Leaves seal u.page_size (bytes_of (shown u) (from q).content) u.settled b
  pub prefix : (s : ℕ) (u : PageBlob S gs) → IsNamed s → j.sections.held s ≡ Some u
      → IsUnrecovered seal (shown u) (from q) → q ≡ key_of j.sections s
      → Leaves seal u.page_size (sealed_prefix seal u.page_size (from q).content)
      (length (sealed_prefix seal u.page_size (from q).content)) b
  pub others : (IsKeyOf j.sections (λ s. IsNamed s × IsHeld j.sections s
      × (j.unrecovered s ≡ false)) q → ⊥) → b ≡ from q
