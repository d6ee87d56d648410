-- The entry of a blob in the opened list of a device in memory, after each change.
use Rattle.std.proofs.Common.{◌≡◌, ◌⊎◌, inl, inr, ℕ, ◌+◌, ◌/◌, ◌≤◌, max, Bool, true, false, cond, not, ◌&&◌, List, [], ◌∷◌, ◌++◌, length, take, length-take, Option, Some, None, is_some, IsSome, IfSome, IsTrue, Fits, w8, get_or, suc, refl, sym, ◌∙◌, ap, arith}
use Rattle.std.specs.Option.{option_map}
use Rattle.std.proofs.lemmas.Bool.Decides.{Decides-ltb}
use Rattle.blob_device.specs.Disk.{Key, Blob, put}
use Rattle.blob_device.specs.Change.{Make, Write, Resize, during, done, written, resized}
use Rattle.blob_device.specs.Opened.{Opened, with_len, reads_of, PartlyGrown}
use Rattle.blob_device.specs.Calls.{Track, now, entry_of, entry_after, opening, opened_of, timeline_of, all_bytes, IsSound}
use Rattle.blob_device.specs.Laws.{opened_stands}
use Rattle.blob_device.specs.Timeline.{disk}
use Rattle.blob_device.specs.lemmas.Puts.{put_self}
use Rattle.blob_device.specs.Lengths.{length-resized, length-written}

abbrev pub with_reads : ℕ → ℕ → Opened
with_reads len r = record { len = len; reads = r }

-- a failed making leaves the entry
made_len : (b : Blob) (r : Option ℕ) → (is_some r && not b.there) ≡ false → option_map (with_reads (length (during Make b).content)) r ≡ option_map (with_reads (length b.content)) r
made_len b None is = refl
made_len b (Some r) is = ap (λ (n : ℕ). Some (with_reads n r)) (same b.there is)
  where
    same : (v : Bool) → not v ≡ false → length (cond v b (record b { content = []; unsure = true; since = b.since ++ [] ∷ [] })).content ≡ length b.content
    same true is = refl
    same false is = absurd (cc is)

pub entry_made : (n : ℕ) (t : Track) → IsSound n t → entry_after Make true t ≡ entry_of t
entry_made n t sound = made_len (now t) t.reads sound.open_there

-- an opened blob keeps its reads
pub entry_opened : (t : Track) → entry_after Make false t ≡ Some (with_reads (length (done Make (now t)).content) (reads_of (entry_of t)))
entry_opened t = go t.reads
  where
    go : (r : Option ℕ) → option_map (with_reads (length (done Make (now t)).content)) (opening Make false r) ≡ Some (with_reads (length (done Make (now t)).content) (reads_of (option_map (with_reads (length (now t).content)) r)))
    go None = refl
    go (Some r) = refl

pub entry_written : (t : Track) (at : ℕ) (bytes : List ℕ) → entry_after (Write at bytes) false t ≡ option_map (λ (o : Opened). with_len (max o.len (at + length bytes)) o) (entry_of t)
entry_written t at bytes = go t.reads
  where
    go : (r : Option ℕ) → option_map (with_reads (length (written (now t).content at bytes))) r ≡ option_map (λ (o : Opened). with_len (max o.len (at + length bytes)) o) (option_map (with_reads (length (now t).content)) r)
    go None = refl
    go (Some r) = ap (λ (n : ℕ). Some (with_reads n r)) (length-written (now t).content at bytes)

pub entry_resized : (t : Track) (n : ℕ) → entry_after (Resize n) false t ≡ option_map (with_len n) (entry_of t)
entry_resized t n = go t.reads
  where
    go : (r : Option ℕ) → option_map (with_reads (length (resized (now t).content n))) r ≡ option_map (with_len n) (option_map (with_reads (length (now t).content)) r)
    go None = refl
    go (Some r) = ap (λ (m : ℕ). Some (with_reads m r)) (length-resized (now t).content n)

-- the entry stays
pub same_entry : (tracks : Key → Track) (k : Key) (o : Option Opened) → o ≡ entry_of (tracks k) → put (opened_of tracks) k o ≡ opened_of tracks
same_entry tracks k o is = ap (λ (x : Option Opened). put (opened_of tracks) k x) is ∙ put_self (opened_of tracks) k

pub stays_or_same : (tracks more : Key → Track) (k : Key) (o : Option Opened) → o ≡ entry_of (tracks k) → (opened_of more ≡ opened_of tracks) ⊎ (opened_of more ≡ put (opened_of tracks) k o) → opened_of more ≡ opened_of tracks
stays_or_same tracks more k o is (inl same) = same
stays_or_same tracks more k o is (inr put_is) = put_is ∙ same_entry tracks k o is

part_entry : (t : Track) (at : ℕ) (bytes : List ℕ) → entry_after (Write at bytes) true t ≡ option_map (with_len (length (written (now t).content at (take (length bytes / 2) bytes)))) (entry_of t)
part_entry t at bytes = go t.reads
  where
    go : (r : Option ℕ) → option_map (with_reads (length (written (now t).content at (take (length bytes / 2) bytes)))) r ≡ option_map (with_len (length (written (now t).content at (take (length bytes / 2) bytes)))) (option_map (with_reads (length (now t).content)) r)
    go None = refl
    go (Some r) = refl

for_entry : (P : ℕ → Type 0) (n : ℕ) (r : Option ℕ) → P n → IfSome (option_map (with_reads n) r) (λ o. P o.len)
for_entry P n None p = tt
for_entry P n (Some r) p = p

pub partly_grown : (tracks more : Key → Track) (k : Key) (at : ℕ) (bytes : List ℕ) → (opened_of more ≡ opened_of tracks) ⊎ (opened_of more ≡ put (opened_of tracks) k (entry_after (Write at bytes) true (tracks k))) → PartlyGrown k (at + length bytes) (opened_of tracks) (opened_of more)
partly_grown tracks more k at bytes (inl same) = record {
  len = length (now (tracks k)).content;
  no_shorter = for_entry (λ n. n ≤ length (now (tracks k)).content) (length (now (tracks k)).content) (tracks k).reads (omega arith);
  no_longer = for_entry (λ n. length (now (tracks k)).content ≤ max n (at + length bytes)) (length (now (tracks k)).content) (tracks k).reads (omega arith);
  is = same ∙ sym (same_entry tracks k _ (own (tracks k).reads));
}
  where
    own : (r : Option ℕ) → option_map (with_len (length (now (tracks k)).content)) (option_map (with_reads (length (now (tracks k)).content)) r) ≡ option_map (with_reads (length (now (tracks k)).content)) r
    own None = refl
    own (Some r) = refl
partly_grown tracks more k at bytes (inr put_is) =
    let c = (now (tracks k)).content in
    let half = take (length bytes / 2) bytes in
    record {
      len = length (written c at half);
      no_shorter = for_entry (λ n. n ≤ length (written c at half)) (length c) (tracks k).reads (omega (arith, length-written c at half));
      no_longer = for_entry (λ n. length (written c at half) ≤ max n (at + length bytes)) (length c) (tracks k).reads (omega (arith, length-written c at half, length-take (length bytes / 2) bytes));
      is = put_is ∙ ap (λ (o : Option Opened). put (opened_of tracks) k o) (part_entry (tracks k) at bytes);
    }

-- what a slice of bytes holds
pub tested_bytes : (c : List ℕ) → ((i : ℕ) → Fits w8 (get_or c i 0)) → all_bytes c ≡ true
tested_bytes [] fits = refl
tested_bytes (x ∷ xs) fits = ap (λ (b : Bool). b && all_bytes xs) ((Decides-ltb x 256).1 (fits 0).fits) ∙ tested_bytes xs (λ i. fits (suc i))

there_of : (b : Blob) (o : Option Opened) → IsSome o → IfSome o (λ x. IsTrue b.there × (length b.content ≡ x.len)) → b.there ≡ true
there_of b None some both = absurd (cc some)
there_of b (Some x) some both = both.0

-- an opened blob is there
pub open_is_there : (tracks : Key → Track) (n : ℕ) (k : Key) → IsSound n (tracks k) → IsSome (opened_of tracks k) → (disk (timeline_of tracks n) k).there ≡ true
open_is_there tracks n k sound is_open = there_of (disk (timeline_of tracks n) k) (entry_of (tracks k)) is_open (opened_stands tracks n k sound)
