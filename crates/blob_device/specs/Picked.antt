-- The crash images that a device in memory picks.
use Rattle.std.specs.Prelude.{◌≡◌, ◌↔◌, ◌&&◌, ◌||◌, ℕ, ◌+◌, ◌<◌, ◌%◌, ◌==◌, zero, suc, Bool, not, cond, ltb, leb, List, length, get_or, Option, Some, None, is_some, map, IsTrue}
use Rattle.std.specs.declared.cmp.Ordering.{Ordering}
use Rattle.std.specs.List.{list_all, range_with_len, sum_by, take_while, Contains}
use Rattle.std.specs.List.Sorted.{IsStrictlySortedBy}
use Rattle.std.specs.Ordering.{nat_cmp, ordering_then}
use Rattle.std.specs.Cmp.Lexicographic.{slice_cmp}
use Rattle.std.specs.Int.{bit_at}
use Rattle.blob_device.specs.Disk.{Key, Blob, Disk, Image, same_key, shortest, longest}

-- each blob as it last settled
abbrev pub settled_of : Blob → Option (List ℕ)
settled_of b = cond b.there (Some b.settled) None

abbrev pub IsAsSettled : Disk → Image → Type 0
IsAsSettled d image = (k : Key) → image k ≡ settled_of (d k)

-- the place is at or past the least length, or in a loose range
abbrev pub is_free : Blob → ℕ → Bool
is_free b i = not (ltb i (shortest b) && list_all (λ (r : ℕ × ℕ). ltb i r.0 || leb (r.0 + r.1) i) b.loose)

-- how many free places are among the first n
unfoldable pub free_below : Blob → ℕ → ℕ
free_below b zero = 0
free_below b (suc n) = free_below b n + cond (is_free b n) 1 0

-- bit i of n is 1
abbrev pub is_set : ℕ → ℕ → Bool
is_set n i = bit_at n i == 1

-- a blob that may be there has its greatest length where n is odd, and else its least
abbrev pub mixed_length : ℕ → Blob → ℕ
mixed_length n b = cond (is_set n 0) (longest b) (shortest b)

-- The byte at a place: as it reads where the place is not free, or where the bit of its number is set and the blob reads that far; else 255.
-- The numbers of the blob's free places begin at `first`.
abbrev pub mixed_byte : ℕ → ℕ → Blob → ℕ → ℕ
mixed_byte n first b i = cond (is_free b i && not (is_set n ((first + free_below b i) % 64) && ltb i (length b.content))) 255 (get_or b.content i 0)

pub record IsMixedBlob (n first : ℕ) (b : Blob) (c : List ℕ) : Type 0 where
  pub size : length c ≡ mixed_length n b
  pub each : (i : ℕ) → i < mixed_length n b → get_or c i 0 ≡ mixed_byte n first b i

abbrev pub mixed_bytes : ℕ → ℕ → Blob → List ℕ
mixed_bytes n first b = map (mixed_byte n first b) (range_with_len 0 (mixed_length n b))

abbrev pub mixed_of : ℕ → ℕ → Blob → Option (List ℕ)
mixed_of n first b = cond (b.there || b.unsure) (Some (mixed_bytes n first b)) None

-- the number of the next free place behind the blob, modulo 64
abbrev pub number_past : ℕ → ℕ → Blob → ℕ
number_past n first b = cond (b.there || b.unsure) ((first + free_below b (mixed_length n b)) % 64) first

-- keys in the order of their partitions' bytes, and in a partition of their names'
abbrev pub key_cmp : Key → Key → Ordering
key_cmp a b = ordering_then (slice_cmp nat_cmp a.0 b.0) (slice_cmp nat_cmp a.1 b.1)

-- the keys that stand before k in the list
abbrev pub ahead_of : Key → List Key → List Key
ahead_of k keys = take_while (λ q. not (same_key q k)) keys

-- how many free bytes the blobs at these keys have in the mixed image
abbrev pub free_in : ℕ → Disk → List Key → ℕ
free_in n d keys = sum_by (λ k. free_below (d k) (mixed_length n (d k))) keys

-- The keys of the blobs that the image has stand in one ascending list, and each blob is mixed: the numbers of its free bytes
-- begin at the number of free bytes of the blobs before it in the list.
pub record IsMixed (n : ℕ) (d : Disk) (image : Image) : Type 0 where
  pub keys : List Key
  pub ascending : IsStrictlySortedBy key_cmp keys
  pub listed : (k : Key) → Contains keys k ↔ IsTrue (is_some (image k))
  pub each : (k : Key) → image k ≡ mixed_of n (free_in n d (ahead_of k keys)) (d k)
