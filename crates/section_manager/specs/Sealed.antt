-- A section in a buffer whose pages carry seals: what it means, and what a crash may leave of it.
use Rattle.std.specs.Prelude.{◌≡◌, ℕ, ◌==◌, not, min, Bool, List, length}
use Rattle.blob_device.specs.Disk.{Blob}
use Rattle.sealed_pages.specs.Buffer.{Buffer, size_of, bytes_of, IsSealed}
use Rattle.sealed_pages.specs.Cutting.{StandsSettled}
use Rattle.sealed_pages.specs.SealedPrefix.{sealed_prefix, adopted_size, data_from, Prefix}
use Rattle.sealed_pages.specs.Unrecovered.{IsUnrecovered, IsAdopted}
use Rattle.sealed_pages.specs.View.{view}
use Rattle.section_manager.specs.Setting.{Setting}

abbrev pub is_unsettled : Buffer → Bool
is_unsettled u = not (u.settled == size_of u)

-- what it was made with
abbrev pub setting_of : Buffer → Setting
setting_of u = record { page_size = u.page_size; capacity = u.capacity; cache_pages = u.cache_pages }

module _ (seal : List ℕ → ℕ) where
  -- the bytes of a new buffer over a blob of this content: the data up to the size at which it is adopted
  abbrev pub adopted_bytes : ℕ → List ℕ → List ℕ
  adopted_bytes P content = data_from P (view content) 0 (adopted_size seal P content)

  -- The buffer stands over this blob, which has settled where all bytes have.
  pub record Stands (u : Buffer) (b : Blob) : Type 0 where
    pub adopted : IsAdopted seal u b
    pub rest : u.settled ≡ size_of u → StandsSettled b

  -- A crash may leave these bytes: their sealed prefix is a prefix of the buffer's bytes, with as many as are to be kept. Where
  -- the sealed prefix of an adopted blob is shorter than its size, no more is kept than that prefix as it read.
  pub record MayKeep (u : Buffer) (b : Blob) (least : ℕ) (c : List ℕ) : Type 0 where
    pub sealed : IsSealed seal u b → Prefix seal u.page_size (bytes_of u b.content) least c
    pub unrecovered : IsUnrecovered seal u b → Prefix seal u.page_size (sealed_prefix seal u.page_size b.content) (min least (length (sealed_prefix seal u.page_size b.content))) c
