-- What the bytes of an index record say: they say the record, and as many bytes as a record has are always one's.
use Rattle.std.specs.Prelude.{◌≡◌, ℕ, zero, suc, ◌+◌, ◌<◌, ◌≤◌, ◌^◌, List, [], ◌∷◌, ◌++◌, length, take, drop, get_or, None}
use Rattle.std.specs.Int.{w32, w64, to_be_bytes, from_be_bytes}
use Rattle.std.proofs.Common.{arith, refl, sym, subst, ap, ◌∙◌, append_assoc, length-append, length-drop}
use Rattle.std.proofs.Math.Seq.{take-append_seam, drop-append_seam, take-length}
use Rattle.std.proofs.lemmas.Bool.Decides.{nat_tests}
use Rattle.std.proofs.lemmas.List.{take-append-drop, drop-drop, length-take-le}
use Rattle.std.proofs.lemmas.Nat.{be_bytes_4, be_bytes_8, from_be_bytes-to_be_bytes_4, from_be_bytes-to_be_bytes_8}
use Rattle.blob_device.specs.Disk.{AreBytes}
use Rattle.value_codec.specs.Spelling.{size_refusal}
use Rattle.archives.specs.declared.prunable.index_record.IndexRecord.{IndexRecord}
use Rattle.archives.specs.IndexRecord.{IsInRange, index_record, index_of, key_of, place_of, spelling_of}

-- ---- what a record's bytes say

pub length-index_record : (n index : ℕ) (key : List ℕ) (offset size : ℕ) → length key ≡ n
    → length (index_record index key offset size) ≡ n + 20
unfolding index_record
length-index_record n index key offset size e =
    omega (
      arith,
      length-append (key ++ to_be_bytes w64 offset) (to_be_bytes w32 size),
      length-append key (to_be_bytes w64 offset),
    )

pub index_of-index_record : (index : ℕ) (key : List ℕ) (offset size : ℕ) → index < 2 ^ 64
    → index_of (index_record index key offset size) ≡ index
unfolding index_record index_of
index_of-index_record index key offset size below = from_be_bytes-to_be_bytes_8 index below

take_seam : (n : ℕ) (xs ys : List ℕ) → length xs ≡ n → take n (xs ++ ys) ≡ xs
take_seam n xs ys e = subst (λ (m : ℕ). take m (xs ++ ys) ≡ xs) e (take-append_seam xs ys)

drop_seam : (n : ℕ) (xs ys : List ℕ) → length xs ≡ n → drop n (xs ++ ys) ≡ ys
drop_seam n xs ys e = subst (λ (m : ℕ). drop m (xs ++ ys) ≡ ys) e (drop-append_seam xs ys)

pub key_of-index_record : (n index : ℕ) (key : List ℕ) (offset size : ℕ) → length key ≡ n
    → key_of n (index_record index key offset size) ≡ key
unfolding index_record key_of
key_of-index_record n index key offset size e =
    ap (take n) (append_assoc key (to_be_bytes w64 offset) (to_be_bytes w32 size))
    ∙ take_seam n key (to_be_bytes w64 offset ++ to_be_bytes w32 size) e

-- the bytes behind the key
from_offset : (n index : ℕ) (key : List ℕ) (offset size : ℕ) → length key ≡ n
    → drop (n + 8) (index_record index key offset size) ≡ to_be_bytes w64 offset ++ to_be_bytes w32 size
unfolding index_record
from_offset n index key offset size e =
    ap (drop (n + 8)) (append_assoc (to_be_bytes w64 index ++ key) (to_be_bytes w64 offset) (to_be_bytes w32 size))
    ∙ drop_seam (n + 8) (to_be_bytes w64 index ++ key) (to_be_bytes w64 offset ++ to_be_bytes w32 size) (omega arith)

-- and behind the frame's place
from_size : (n index : ℕ) (key : List ℕ) (offset size : ℕ) → length key ≡ n
    → drop (n + 16) (index_record index key offset size) ≡ to_be_bytes w32 size
unfolding index_record
from_size n index key offset size e =
    drop_seam (n + 16) (to_be_bytes w64 index ++ key ++ to_be_bytes w64 offset) (to_be_bytes w32 size) (omega (
      arith,
      length-append key (to_be_bytes w64 offset),
    ))

pub place_of-index_record : (n index : ℕ) (key : List ℕ) (offset size : ℕ) → length key ≡ n → offset < 2 ^ 64
    → size < 2 ^ 32
    → place_of n (index_record index key offset size) ≡ (offset, size)
unfolding place_of
place_of-index_record n index key offset size e below small = λ i. (
  (ap (λ (bytes : List ℕ). from_be_bytes w64 (take 8 bytes)) (from_offset n index key offset size e)
      ∙ from_be_bytes-to_be_bytes_8 offset below) i,
  (ap (λ (bytes : List ℕ). from_be_bytes w32 (take 4 bytes)) (from_size n index key offset size e)
      ∙ from_be_bytes-to_be_bytes_4 size small) i,
)

-- two records have two spellings, as two keys have
pub one_index_record : {K : Type 0} (key_bytes : K → List ℕ) (n : ℕ) → ((k : K) → length (key_bytes k) ≡ n)
    → ((k l : K) → key_bytes k ≡ key_bytes l → k ≡ l)
    → (r q : IndexRecord K) → IsInRange r → IsInRange q → spelling_of key_bytes r ≡ spelling_of key_bytes q → r ≡ q
one_index_record key_bytes n sized one_key r q fits fits_too same =
    λ i. record { index = index i; key = one_key r.key q.key key i; offset = (place i).0; size = (place i).1 }
  where
    index : r.index ≡ q.index
    index = sym (index_of-index_record r.index (key_bytes r.key) r.offset r.size fits.0) ∙ ap index_of same
        ∙ index_of-index_record q.index (key_bytes q.key) q.offset q.size fits_too.0

    key : key_bytes r.key ≡ key_bytes q.key
    key = sym (key_of-index_record n r.index (key_bytes r.key) r.offset r.size (sized r.key)) ∙ ap (key_of n) same
        ∙ key_of-index_record n q.index (key_bytes q.key) q.offset q.size (sized q.key)

    place : ◌≡◌ {A = ℕ × ℕ} (r.offset, r.size) (q.offset, q.size)
    place = sym (place_of-index_record n r.index (key_bytes r.key) r.offset r.size (sized r.key) fits.1 fits.2)
        ∙ ap (place_of n) same
        ∙ place_of-index_record n q.index (key_bytes q.key) q.offset q.size (sized q.key) fits_too.1 fits_too.2

-- four parts, one behind the other, are the spelling of what they say
pub index_record-joined : (index offset size : ℕ) (bytes a r b s c d : List ℕ) → to_be_bytes w64 index ≡ a
    → to_be_bytes w64 offset ≡ c → to_be_bytes w32 size ≡ d
    → bytes ≡ a ++ r → r ≡ b ++ s → s ≡ c ++ d → index_record index b offset size ≡ bytes
unfolding index_record
index_record-joined index offset size bytes a r b s c d e f h whole rest last =
    ap (λ (xs : List ℕ). xs ++ b ++ to_be_bytes w64 offset ++ to_be_bytes w32 size) e
    ∙ ap (λ (xs : List ℕ). a ++ b ++ xs ++ to_be_bytes w32 size) f
    ∙ ap (λ (xs : List ℕ). a ++ b ++ c ++ xs) h
    ∙ append_assoc (a ++ b) c d
    ∙ ap (λ (xs : List ℕ). a ++ b ++ xs) (sym last)
    ∙ append_assoc a b s
    ∙ ap (λ (xs : List ℕ). a ++ xs) (sym rest)
    ∙ sym whole

-- ---- how many bytes there are

-- as many bytes as a record has are never refused
pub size_kept : (n : ℕ) (bytes : List ℕ) → length bytes ≡ n → size_refusal n bytes ≡ None
size_kept n bytes long = grind (arith, nat_tests)

pub index_record_kept : (n index : ℕ) (key : List ℕ) (offset size : ℕ) → length key ≡ n
    → size_refusal (n + 20) (index_record index key offset size) ≡ None
index_record_kept n index key offset size e =
    size_kept (n + 20) (index_record index key offset size) (length-index_record n index key offset size e)

pub index_record_at_least : (n : ℕ) → 1 ≤ n + 20
index_record_at_least n = omega arith

pub index_record_at_most : (n : ℕ) → n ≤ 1024 → n + 20 ≤ 65535
index_record_at_most n small = omega arith

-- ---- any bytes

byte_in : (bytes : List ℕ) (i : ℕ) → AreBytes bytes → get_or bytes i 0 < 256
byte_in [] i all = omega arith
byte_in (x ∷ bytes) zero all = all.0
byte_in (x ∷ bytes) (suc i) all = byte_in bytes i all.1

bytes_taken : (n : ℕ) (bytes : List ℕ) → AreBytes bytes → AreBytes (take n bytes)
bytes_taken zero bytes all = tt
bytes_taken (suc n) [] all = tt
bytes_taken (suc n) (x ∷ bytes) all = (all.0, bytes_taken n bytes all.1)

bytes_left : (n : ℕ) (bytes : List ℕ) → AreBytes bytes → AreBytes (drop n bytes)
bytes_left zero bytes all = all
bytes_left (suc n) [] all = tt
bytes_left (suc n) (x ∷ bytes) all = bytes_left n bytes all.1

worth_8 : (bytes : List ℕ) → AreBytes bytes → from_be_bytes w64 bytes < 2 ^ 64
worth_8 bytes all =
    omega (
      arith,
      byte_in bytes 0 all,
      byte_in bytes 1 all,
      byte_in bytes 2 all,
      byte_in bytes 3 all,
      byte_in bytes 4 all,
      byte_in bytes 5 all,
      byte_in bytes 6 all,
      byte_in bytes 7 all,
    )

worth_4 : (bytes : List ℕ) → AreBytes bytes → from_be_bytes w32 bytes < 2 ^ 32
worth_4 bytes all = omega (arith, byte_in bytes 0 all, byte_in bytes 1 all, byte_in bytes 2 all, byte_in bytes 3 all)

-- the numbers that any bytes say are in their ranges
pub index_of-fits : (bytes : List ℕ) → AreBytes bytes → index_of bytes < 2 ^ 64
unfolding index_of
index_of-fits bytes all = worth_8 (take 8 bytes) (bytes_taken 8 bytes all)

pub place_of-fits : (n : ℕ) (bytes : List ℕ) → AreBytes bytes
    → ((place_of n bytes).0 < 2 ^ 64) × ((place_of n bytes).1 < 2 ^ 32)
unfolding place_of
place_of-fits n bytes all = (
  worth_8 (take 8 (drop (n + 8) bytes)) (bytes_taken 8 (drop (n + 8) bytes) (bytes_left (n + 8) bytes all)),
  worth_4 (take 4 (drop (n + 16) bytes)) (bytes_taken 4 (drop (n + 16) bytes) (bytes_left (n + 16) bytes all)),
)

spelled_8 : (bytes : List ℕ) → AreBytes bytes → 8 ≤ length bytes
    → to_be_bytes w64 (from_be_bytes w64 (take 8 bytes)) ≡ take 8 bytes
spelled_8 bytes all long =
    be_bytes_8 (take 8 bytes) (from_be_bytes w64 (take 8 bytes)) (length-take-le 8 bytes long)
    (λ i. byte_in (take 8 bytes) i (bytes_taken 8 bytes all)) refl

spelled_4 : (bytes : List ℕ) → AreBytes bytes → length bytes ≡ 4
    → to_be_bytes w32 (from_be_bytes w32 (take 4 bytes)) ≡ bytes
spelled_4 bytes all long =
    be_bytes_4 (take 4 bytes) (from_be_bytes w32 (take 4 bytes)) (length-take-le 4 bytes (omega arith))
    (λ i. byte_in (take 4 bytes) i (bytes_taken 4 bytes all)) refl
    ∙ subst (λ (m : ℕ). take m bytes ≡ bytes) long (take-length bytes)

-- of the bytes from a place on the first, and those behind them
split : (a b c : ℕ) (bytes : List ℕ) → a + b ≡ c → drop a bytes ≡ take b (drop a bytes) ++ drop c bytes
split a b c bytes e = sym (take-append-drop b (drop a bytes))
    ∙ ap (λ (rest : List ℕ). take b (drop a bytes) ++ rest) (drop-drop b a bytes ∙ ap (λ (m : ℕ). drop m bytes) e)

-- as many bytes as a record has are the spelling of what they say
pub index_record-parts : (n : ℕ) (bytes : List ℕ) → AreBytes bytes → length bytes ≡ n + 20
    → index_record (index_of bytes) (key_of n bytes) (place_of n bytes).0 (place_of n bytes).1 ≡ bytes
unfolding index_record index_of key_of place_of
index_record-parts n bytes all long =
    ap (λ (xs : List ℕ). xs ++ key_of n bytes ++ to_be_bytes w64 (place_of n bytes).0
    ++ to_be_bytes w32 (place_of n bytes).1)
    (spelled_8 bytes all (omega arith))
    ∙ ap (λ (xs : List ℕ). take 8 bytes ++ key_of n bytes ++ xs ++ to_be_bytes w32 (place_of n bytes).1)
    (spelled_8 (drop (n + 8) bytes) (bytes_left (n + 8) bytes all) (omega (arith, length-drop (n + 8) bytes)))
    ∙ ap (λ (xs : List ℕ). take 8 bytes ++ key_of n bytes ++ take 8 (drop (n + 8) bytes) ++ xs)
    (spelled_4 (drop (n + 16) bytes) (bytes_left (n + 16) bytes all) (omega (arith, length-drop (n + 16) bytes)))
    ∙ joined
  where
    joined : take 8 bytes ++ take n (drop 8 bytes) ++ take 8 (drop (n + 8) bytes) ++ drop (n + 16) bytes ≡ bytes
    joined =
        append_assoc (take 8 bytes ++ take n (drop 8 bytes)) (take 8 (drop (n + 8) bytes)) (drop (n + 16) bytes)
        ∙ ap (λ (xs : List ℕ). take 8 bytes ++ take n (drop 8 bytes) ++ xs)
        (sym (split (n + 8) 8 (n + 16) bytes (omega arith)))
        ∙ append_assoc (take 8 bytes) (take n (drop 8 bytes)) (drop (n + 8) bytes)
        ∙ ap (λ (xs : List ℕ). take 8 bytes ++ xs) (sym (split 8 n (n + 8) bytes (omega arith)))
        ∙ take-append-drop 8 bytes
