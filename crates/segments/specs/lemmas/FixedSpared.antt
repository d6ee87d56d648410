-- A section of which neither the buffer nor the blob changes has the bytes that it had: after any call, after a cut of all behind
-- a byte, and after a call on another section's blob alone.
use Rattle.std.specs.Prelude.{◌≡◌, ◌≢◌, ℕ, ◌^◌, ◌<◌, ◌≤◌, List, Option}
use Rattle.std.proofs.Common.{◌∙◌, ap, arith}
use Rattle.blob_device.specs.Disk.{Key, Blob, Disk}
use Rattle.sealed_pages.specs.declared.page_blob.PageBlob.{PageBlob}
use Rattle.section_manager.specs.Sections.{Sections, section_key, key_of, IsKeyOf, IsKnown, IsSame, SamePlace}
use Rattle.section_manager.specs.lemmas.Keys.{keys_differ, key_injective}
use Rattle.segments.specs.FixedBounds.{CuttingTail}
use Rattle.segments.specs.FixedLists.{Lists, bytes_held, section_bytes}

module _ {F S : Type 0} {gs : _} where
  pub same_bytes : (m n : Sections F (PageBlob S gs)) (s : ℕ) (from to : Disk) → SamePlace m n → IsSame m n s → (to (key_of m s)).content ≡ (from (key_of m s)).content → section_bytes n to s ≡ section_bytes m from s
  same_bytes m n s from to place same blob =
      ap (λ (p : List ℕ). bytes_held (n.held s) (to (section_key p s)).content) place.partition
      ∙ ap (λ (o : Option (PageBlob S gs)). bytes_held o (to (key_of m s)).content) same.held
      ∙ ap (bytes_held (m.held s)) blob

  -- the key of a section before is none of those behind
  before_cut : (m : Sections F (PageBlob S gs)) (section s : ℕ) → ((t : ℕ) → IsKnown m t → t < 2 ^ 64) → s < section → IsKeyOf m (λ t. IsKnown m t × (section ≤ t)) (key_of m s) → ⊥
  before_cut m section s small less key =
      let high : key.0 < 2 ^ 64 = small key.0 key.1.0 in
      let same : s ≡ key.0 = key_injective m.partition s key.0 (omega (arith, high, less, key.1.1)) high key.2 in
      omega (arith, same, less, key.1.1)

  pub tail_bytes : (seal : List ℕ → ℕ) (j : Lists F (PageBlob S gs)) (m : Sections F (PageBlob S gs)) (section n s : ℕ) (from to : Disk) → CuttingTail seal j section n from to → ((t : ℕ) → IsKnown j.sections t → t < 2 ^ 64)
      → s < section → SamePlace j.sections m → IsSame j.sections m s → section_bytes m to s ≡ section_bytes j.sections from s
  tail_bytes seal j m section n s from to cutting small less place same =
      same_bytes j.sections m s from to place same (ap (λ (b : Blob). b.content) (cutting.others (key_of j.sections s) (before_cut j.sections section s small less)))

  pub beside_bytes : (m n : Sections F (PageBlob S gs)) (section s : ℕ) (from to : Disk) → ((q : Key) → q ≢ key_of m section → to q ≡ from q) → section < 2 ^ 64 → s < 2 ^ 64 → s ≢ section
      → SamePlace m n → IsSame m n s → section_bytes n to s ≡ section_bytes m from s
  beside_bytes m n section s from to blobs section_small small other place same =
      same_bytes m n s from to place same (ap (λ (b : Blob). b.content) (blobs (key_of m s) (keys_differ m.partition s section small section_small other)))
