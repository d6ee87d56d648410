-- A cache goes on where its caller has written elsewhere: what is asked of the device is of its partition alone.
use Rattle.std.specs.Prelude.{◌≡◌, ◌⊎◌, ℕ, ◌≤◌, false, nat_eq, List, [], map, Option, None, Some, IsSomeAnd, IsTrue, unwrap_or}
use Rattle.std.specs.List.{AllByRecursion, IsDistinct}
use Rattle.std.proofs.Common.{inl, inr, refl, sym, ap, ◌∙◌, subst}
use Rattle.blob_device.specs.Disk.{Blob, Disk, Image, IsCrashOf, Key, MayLeave, longest, past, reads}
use Rattle.blob_device.specs.Opened.{Opened}
use Rattle.blob_device.specs.Timeline.{disk}
use Rattle.blob_device.specs.declared.device.Device as device
use Rattle.blob_device.specs.lemmas.Puts.{same_or_other}
use Rattle.sealed_pages.specs.Buffer.{IsSealed}
use Rattle.sealed_pages.specs.ChanceSeal as pages
use Rattle.sealed_pages.specs.Shown.{shown}
use Rattle.sealed_pages.specs.declared.page_blob.PageBlob.{PageBlob}
use Rattle.section_manager.specs.Sections.{key_of, section_key}
use Rattle.section_manager.specs.Setting.{Setting}
use Rattle.section_manager.specs.declared.buffer.SectionBuffer as buffer
use Rattle.section_manager.specs.declared.sealed.AppendFactory.{AppendFactory}
use Rattle.segments.specs.FixedLists.{bytes_held}
use Rattle.variable_journal.specs.Frames.{items_of, rest_of}
use Rattle.cache_store.specs.Caches.{Cache, IsTold, bytes_in}
use Rattle.cache_store.specs.Changes.{MayUse}
use Rattle.cache_store.specs.Elsewhere.{GoesOn, IsSameIn, IsSpared}
use Rattle.cache_store.specs.Filing.{offset_in, state_by, synced_in}
use Rattle.cache_store.specs.Kept.{HasNoChanceSeal, IsLawfulIn, Layout, NoChanceSeal, entries_of, sealed_in}
use Rattle.cache_store.specs.Machine.{State, section_of}
use Rattle.cache_store.specs.Records.{entry_of, record_refusal}
use Rattle.cache_store.specs.Reopening.{MayOpen}
use Rattle.cache_store.specs.Standing.{IsHeld, Keeps, Leaves, Wanted, wanted_of}

-- On the disk e the partition of a cache is as it was on the disk d, which may be left as it reads.
module _ (l : Layout) (d e : Disk) (as_read : (q : Key) → MayLeave (d q) (reads (d q))) (same : IsSameIn l.partition d e) where
  -- whether a blob is of the partition
  inside : (q : Key) → (q.0 ≡ l.partition) ⊎ (q.0 ≡ l.partition → ⊥)
  inside q = elim (same_or_other (q.0, []) (l.partition, [])) [
    | inl is ↦ inl (ap (λ (k : Key). k.0) is)
    | inr other ↦ inr (λ is. other (ap (λ (p : List ℕ). (p, [])) is))
  ]

  module _ (image : Image) (crash : IsCrashOf e image) where
    -- an image that a crash of d leaves, with the same blobs in the partition
    pick : (q : Key) → (q.0 ≡ l.partition) ⊎ (q.0 ≡ l.partition → ⊥) → Option (List ℕ)
    pick q (inl is) = image q
    pick q (inr other) = reads (d q)

    before : Image
    before q = pick q (inside q)

    before_crash : IsCrashOf d before
    unfolding pick before inside
    before_crash q = go (inside q)
      where
        go : (r : (q.0 ≡ l.partition) ⊎ (q.0 ≡ l.partition → ⊥)) → MayLeave (d q) (pick q r)
        go (inl is) = subst (λ (b : Blob). MayLeave b (image q)) (same q is) (crash q)
        go (inr other) = as_read q

    before_same : (name : List ℕ) → before (l.partition, name) ≡ image (l.partition, name)
    unfolding pick before inside
    before_same name = go (inside (l.partition, name))
      where
        go : (r : (l.partition ≡ l.partition) ⊎ (l.partition ≡ l.partition → ⊥)) → pick (l.partition, name) r ≡ image (l.partition, name)
        go (inl is) = refl
        go (inr other) = absurd (other refl)

    before_clear : NoChanceSeal l e image → NoChanceSeal l d before
    before_clear clear s small = subst (HasNoChanceSeal l d s) (sym (before_same (section_key l.partition s).1))
        (subst (λ (b : Blob). pages.NoChanceSeal l.seal l.page_size (past b) (unwrap_or (image (section_key l.partition s)) [])) (same (section_key l.partition s) refl) (clear s small))

    keeps_after : (w : Wanted) → Keeps l w before → Keeps l w image
    keeps_after w keeps = record {
      lawful = record {
        names = λ name x is. keeps.lawful.names name x (before_same name ∙ is);
        sections = λ s small. subst (λ (o : Option (List ℕ)). IsLawfulIn l s (sealed_in l o)) (before_same (section_key l.partition s).1) (keeps.lawful.sections s small);
      };
      each = λ s small. subst (λ (o : Option (List ℕ)). IsHeld l w s (entries_of (sealed_in l o))) (before_same (section_key l.partition s).1) (keeps.each s small);
    }

  leaves_there : (w : Wanted) → Leaves l w d → Leaves l w e
  leaves_there w leaves image crash clear = keeps_after image crash w (leaves (before image crash) (before_crash image crash) (before_clear image crash clear))

  -- so the cache may be opened from either
  pub opens_there : (st : State (List ℕ)) → MayOpen l st d → MayOpen l st e
  opens_there st may = record {
    no_chance = λ s small. subst (λ (b : Blob). pages.NoChanceSeal l.seal l.page_size (past b) (unwrap_or (reads b) [])) (sym (same (section_key l.partition s) refl)) (may.no_chance s small);
    absent = λ s small. subst (λ (b : Blob). b.there ≡ false → longest b ≡ 0) (sym (same (section_key l.partition s) refl)) (may.absent s small);
    stands = leaves_there (wanted_of l.items st None) may.stands;
  }

module _ {S D : Type 0} {gs : _} (g : buffer.Ghosts (PageBlob S gs)) (gives : AppendFactory S → Setting) (dev : device.Ghosts D)
    (c : Cache (AppendFactory S) (PageBlob S gs)) (a b : D) (spared : IsSpared g gives dev c a b) (over : MayUse g gives dev c a) where
  -- what is said of a section's blob before is said of it then
  blob_same : dev.Tells → (s : ℕ) → disk (dev.time b) (key_of c.journal.sections s) ≡ disk (dev.time a) (key_of c.journal.sections s)
  blob_same t s = spared.blobs t (key_of c.journal.sections s) over.partition

  moved : dev.Tells → (s : ℕ) (P : Blob → Type 0) → P (disk (dev.time a) (key_of c.journal.sections s)) → P (disk (dev.time b) (key_of c.journal.sections s))
  moved t s P = subst P (sym (blob_same t s))

  bytes_same : dev.Tells → (s : ℕ) → bytes_in c (disk (dev.time b)) s ≡ bytes_in c (disk (dev.time a)) s
  bytes_same t s = ap (λ (x : Blob). bytes_held (c.journal.sections.held s) x.content) (blob_same t s)

  -- and of its bytes
  of_bytes : dev.Tells → (s : ℕ) (P : List ℕ → Type 0) → P (bytes_in c (disk (dev.time a)) s) → P (bytes_in c (disk (dev.time b)) s)
  of_bytes t s P = subst P (sym (bytes_same t s))

  told_then : dev.Tells → IsTold c (disk (dev.time b))
  told_then t = record {
    indices = (over.memory t).indices;
    listed = λ i. of_bytes t (section_of c.layout.items i) (λ bytes. c.offsets i ≡ offset_in i 0 (items_of bytes)) ((over.memory t).listed i);
    decoded = λ s. of_bytes t s (λ bytes. AllByRecursion (λ x. record_refusal c.layout.refusal x ≡ None) (items_of bytes)) ((over.memory t).decoded s);
    in_section = λ s. of_bytes t s (λ bytes. AllByRecursion (λ x. section_of c.layout.items (entry_of x).index ≡ s) (items_of bytes)) ((over.memory t).in_section s);
    settled = λ s u held. of_bytes t s (λ bytes. synced_in (c.written s) bytes ≤ u.settled) ((over.memory t).settled s u held);
  }

  over_then : MayUse g gives dev c b
  over_then = record {
    journal = record {
      bytes = record {
        over = record {
          opened_list = record {
            key = over.journal.bytes.over.opened_list.key;
            setting = over.journal.bytes.over.opened_list.setting;
            is_open = λ s u held. subst (λ (o : Option Opened). IsSomeAnd o (λ x. x.len ≡ g.extent u)) (sym (spared.entries (key_of c.journal.sections s) over.partition)) (over.journal.bytes.over.opened_list.is_open s u held);
            to_ceiling = over.journal.bytes.over.opened_list.to_ceiling;
            apart = over.journal.bytes.over.opened_list.apart;
            from_floor = over.journal.bytes.over.opened_list.from_floor;
            number = over.journal.bytes.over.opened_list.number;
          };
          disk = λ t. record {
            stands = λ s u held. moved t s (g.Stands u) ((over.journal.bytes.over.disk t).stands s u held);
            whose = λ s small there. (over.journal.bytes.over.disk t).whose s small (subst (λ (x : Blob). IsTrue x.there) (blob_same t s) there);
          };
        };
        owes_held = over.journal.bytes.owes_held;
        owes_settled = over.journal.bytes.owes_settled;
        disk = λ t. record {
          sealed = λ s u held proven. moved t s (IsSealed c.layout.seal (shown u)) ((over.journal.bytes.disk t).sealed s u held proven);
          whole = (over.journal.bytes.disk t).whole;
        };
        unopened = over.journal.bytes.unopened;
      };
      free = over.journal.free;
      framed = λ t s free. ap rest_of (bytes_same t s) ∙ over.journal.framed t s free;
    };
    ceiling = over.ceiling;
    recovered = over.recovered;
    partition = over.partition;
    pages = over.pages;
    items = over.items;
    floor = over.floor;
    journal_floor = over.journal_floor;
    indices = over.indices;
    none_below = over.none_below;
    below = over.below;
    written = over.written;
    settled = over.settled;
    memory = told_then;
  }

  pub goes_on : GoesOn g gives dev c a b
  goes_on = record {
    over = over_then;
    sound = λ t sound. record {
      once = λ s. of_bytes t s (λ bytes. IsDistinct nat_eq (map (λ x. x.index) (entries_of bytes))) (sound.once s);
      names = λ name x may. sound.names name x (subst (λ (l : Blob). MayLeave l (Some x)) (spared.blobs t (c.layout.partition, name) refl) may);
      absent = λ s small none. ap longest (blob_same t s) ∙ sound.absent s small none;
    };
    state = λ t. ap (λ (bytes : ℕ → List ℕ). state_by bytes c.written c.floor) (λ i s. bytes_same t s i);
  }
