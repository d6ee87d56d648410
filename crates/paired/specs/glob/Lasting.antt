-- What the calls of a glob leave of its sections' blobs, at each moment.
use Rattle.std.specs.Prelude.{◌≡◌, ◌⊎◌, ℕ, ◌<◌, ◌≤◌, min, List, [], take, Option, Some, IsSomeAnd}
use Rattle.blob_device.specs.Disk.{Key, Blob, Disk, MayLeave, nothing}
use Rattle.sealed_pages.specs.declared.write_blob.WriteBlob.{WriteBlob}
use Rattle.section_manager.specs.Sections.{Sections, key_of, IsKnown, IsKeyOf}
use Rattle.section_manager.specs.Lasting.{IsOpening, Going}
use Rattle.section_manager.specs.unsealed.Buffer.{content_of}
use Rattle.section_manager.specs.Prefixes.{IsPrefixOf}
use Rattle.paired.specs.glob.Sections.{HadPrefixes, IsUnsettled, IsLonger}

-- Each crash leaves the blob, and the kept bytes at its start. Where a crash may leave it at all, each content that the blob has had since
-- it settled is a prefix of all the bytes.
pub record Outlasts (kept bytes : List ℕ) (b : Blob) : Type 0 where
  pub leaves : (left : Option (List ℕ)) → MayLeave b left → IsSomeAnd left (IsPrefixOf kept)
  pub since : (left : Option (List ℕ)) → MayLeave b left → HadPrefixes bytes b

-- what has settled of a buffer over a blob of this content, and of that the first n bytes
abbrev pub settled_bytes : WriteBlob → List ℕ → List ℕ
settled_bytes u content = take u.settled (content_of u content)

abbrev pub settled_to : ℕ → WriteBlob → List ℕ → List ℕ
settled_to n u content = take (min u.settled n) (content_of u content)

-- The blob is made, or being made; then each crash leaves it, and each content that it has had since is a prefix of these bytes.
abbrev pub IsBeginning : List ℕ → Blob → Blob → Type 0
IsBeginning bytes from b = IsOpening from b ⊎ Outlasts [] bytes b

module _ {F : Type 0} (m : Sections F WriteBlob) where
  -- Each crash leaves of a named section what had settled, and behind it only what its bytes make. No other blob changes.
  pub record Settling (IsNamed : ℕ → Type 0) (from : Disk) (q : Key) (b : Blob) : Type 0 where
    pub named : (s : ℕ) (u : WriteBlob) → IsNamed s → m.held s ≡ Some u → q ≡ key_of m s → Outlasts (settled_bytes u (from q).content) (content_of u (from q).content) b
    pub others : (IsKeyOf m (λ s. IsNamed s × IsUnsettled m s) q → ⊥) → b ≡ from q

  -- Each crash leaves of a section that is shortened what had settled, up to the cut, and behind it only what its bytes make. No other
  -- blob changes.
  pub record Cutting (size_of : ℕ → Option ℕ) (from : Disk) (q : Key) (b : Blob) : Type 0 where
    pub shortened : (s n : ℕ) (u : WriteBlob) → size_of s ≡ Some n → m.held s ≡ Some u → q ≡ key_of m s → Outlasts (settled_to n u (from q).content) (content_of u (from q).content) b
    pub others : (IsKeyOf m (λ s. IsSomeAnd (size_of s) (IsLonger m s)) q → ⊥) → b ≡ from q

  -- The later sections are removed, newest first; when all are gone the target, if it is held and longer, is shortened to n bytes.
  pub record Truncating (target n : ℕ) (from d : Disk) : Type 0 where
    pub later : Going m (λ s. IsKnown m s × (target < s)) (λ s t. t < s) from d
    pub cut : (u : WriteBlob) → m.held target ≡ Some u → Outlasts (settled_to n u (from (key_of m target)).content) (content_of u (from (key_of m target)).content) (d (key_of m target))
    pub last : (d (key_of m target) ≡ from (key_of m target)) ⊎ (IsLonger m target n × ((s : ℕ) → IsKnown m s → target < s → d (key_of m s) ≡ nothing))
    pub others : (q : Key) → (IsKeyOf m (λ s. IsKnown m s × (target ≤ s)) q → ⊥) → d q ≡ from q
