-- A store depends on its own partition alone.
use Rattle.std.specs.Prelude.{◌≡◌, ℕ, IsSomeAnd, IsTrue}
use Rattle.std.proofs.Common.{inl, inr, refl, sym, subst}
use Rattle.blob_device.specs.lemmas.Puts.{same_or_other}
use Rattle.blob_device.specs.Disk.{Blob, Disk, Key}
use Rattle.blob_device.specs.Opened.{OpenedList}
use Rattle.sealed_pages.specs.unsealed.Writing.{Over, shown}
use Rattle.sealed_pages.specs.Entries.{IsOpenAt, ReadsAtMost}
use Rattle.ordinal_store.specs.Stores.{IsUsable, StandsOver, Store, key_of}

-- where the disk is as before, and each opened blob is as long
pub usable_on : (told : Type 0) (o : Store) (a b : OpenedList) (d e : Disk) → ((q : Key) (n : ℕ) → IsOpenAt a q n → IsOpenAt b q n) → (told → e ≡ d) → IsUsable o told a d → IsUsable o told b e
usable_on told o a b d e entries same usable = record {
  items = usable.items;
  width = usable.width;
  ranges = usable.ranges;
  number = usable.number;
  first = usable.first;
  capacity = usable.capacity;
  key = usable.key;
  is_open = λ s u is. entries (key_of o s) u.end (usable.is_open s u is);
  room = usable.room;
  bounded = usable.bounded;
  unwritten = usable.unwritten;
  disk = λ t. subst (λ (x : Disk). StandsOver o x) (sym (same t)) (usable.disk t);
}

-- a read leaves each opened blob as long
pub read_lengths : (n : ℕ) (k : Key) (a b : OpenedList) → ReadsAtMost n k a b → (q : Key) (len : ℕ) → IsOpenAt a q len → IsOpenAt b q len
read_lengths n k a b few q len is = elim (same_or_other q k) [
  | inl same ↦ subst (λ (x : Key). IsOpenAt b x len) (sym same) (few.length len (subst (λ (x : Key). IsOpenAt a x len) same is))
  | inr other ↦ subst (λ (x : _). IsSomeAnd x (λ o. o.len ≡ len)) (sym (few.others q other)) is
]

pub framed : (told : Type 0) (o : Store) (a b : OpenedList) (d e : Disk) → ((q : Key) → q.0 ≡ o.layout.partition → b q ≡ a q) → (told → (q : Key) → q.0 ≡ o.layout.partition → e q ≡ d q) → IsUsable o told a d → IsUsable o told b e
framed told o a b d e entries blobs usable = record {
  items = usable.items;
  width = usable.width;
  ranges = usable.ranges;
  number = usable.number;
  first = usable.first;
  capacity = usable.capacity;
  key = usable.key;
  is_open = λ s u is. subst (λ (x : _). IsSomeAnd x (λ y. y.len ≡ u.end)) (sym (entries (key_of o s) refl)) (usable.is_open s u is);
  room = usable.room;
  bounded = usable.bounded;
  unwritten = usable.unwritten;
  disk = λ t. record {
    over = λ s u is. subst (Over (shown u)) (sym (blobs t (key_of o s) refl)) ((usable.disk t).over s u is);
    whose = λ s small there. (usable.disk t).whose s small (subst (λ (x : Blob). IsTrue x.there) (blobs t (key_of o s) refl) there);
  };
}
