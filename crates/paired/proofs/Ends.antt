-- What each call of the end of an opening says of the sections that are cut, and what stands between two of these calls.
use Rattle.std.proofs.Common.{◌≡◌, ◌↔◌, ℕ, ◌*◌, ◌^◌, ◌<◌, ◌≤◌, min, false, List, length, map, take, Option, None, Some, IsSome, IsSomeAnd, refl, subst, arith}
use Rattle.std.specs.Option.{option_map}
use Rattle.blob_device.specs.Disk.{Key, Disk, MayLeave, reads, nothing}
use Rattle.blob_device.specs.Opened.{OpenedList}
use Rattle.blob_device.specs.Timeline.{Timeline, disk, Always, Each}
use Rattle.sealed_pages.specs.ChanceSeal as pages
use Rattle.sealed_pages.specs.SealedPrefix.{sealed_prefix}
use Rattle.sealed_pages.specs.declared.page_blob.PageBlob.{PageBlob}
use Rattle.sealed_pages.specs.declared.write_blob.WriteBlob.{WriteBlob}
use Rattle.section_manager.specs.declared.buffer.SectionBuffer as buffer
use Rattle.section_manager.specs.declared.unsealed.WriteFactory.{WriteFactory}
use Rattle.section_manager.specs.Lasting.{EntriesLeave}
use Rattle.section_manager.specs.Sections.{Sections, section_key, key_of, IsHeld, IsKeyOf, IsSame, SameBounds}
use Rattle.section_manager.specs.Setting.{Setting}
use Rattle.section_manager.specs.unsealed.Buffer.{count_of}
use Rattle.segments.specs.FixedLists.{Lists, IsJournal, IsProven}
use Rattle.segments.specs.FixedLists as fixed
use Rattle.value_codec.specs.declared.key.Key8.{Key8}
use Rattle.meta_store.specs.Store.{Store}
use Rattle.paired.specs.Crashes.{IsIndexOf}
use Rattle.paired.specs.glob.Lasting.{Cutting}
use Rattle.paired.specs.glob.Sections.{IsGlob, IsAllSettled}
use Rattle.paired.specs.glob.Sections as glob
use Rattle.paired.specs.Kept.{Layout, marker_of, content_at, stored_records, is_sound_in, kept}
use Rattle.paired.specs.Opening.{as_read, Relation, IsOrder}
use Rattle.paired.specs.Pair.{HasNoBytes}
use Rattle.paired.specs.Places.{last_end}
use Rattle.paired.specs.Reconciling.{CutTo, EndOf, Shortening}
use Rattle.paired.specs.Records.{records, unbroken_prefix, entry_of}
use Rattle.paired.specs.lemmas.Glob.{buffers}
use Rattle.paired.specs.lemmas.reconcile.Resting.{Resting}
use Rattle.paired.specs.lemmas.Ends.{Ends}

pub none_of_not : {T : Type 0} (o : Option T) → (IsSome o → ⊥) → o ≡ None
none_of_not None not = refl
none_of_not (Some v) not = absurd (not refl)

pub not_of_none : {T : Type 0} (o : Option T) → o ≡ None → IsSome o → ⊥
not_of_none o none some = cc (subst IsSome none some)

-- no longer than it is
pub not_longer : {S : Type 0} {gs : _} (y : Option (PageBlob S gs)) (v : Option WriteBlob) (n : ℕ) → glob.size_held v ≡ n → IsSomeAnd (option_map (λ w. n) y) (λ k. IsSomeAnd v (λ w. k < count_of w)) → ⊥
not_longer None v n same is = is
not_longer (Some w) None n same is = is
not_longer (Some w) (Some v) n same is = absurd (omega (arith, same, is))

pub long_held : {S : Type 0} {gs : _} (y : Option (PageBlob S gs)) (v : Option WriteBlob) (n : ℕ) → IsSomeAnd (option_map (λ w. n) y) (λ k. IsSomeAnd v (λ w. k < count_of w)) → IsSome v
long_held None v n is = absurd is
long_held (Some w) None n is = absurd is
long_held (Some w) (Some v) n is = refl

pub ends_held : {S : Type 0} {gs : _} (y : Option (PageBlob S gs)) (v : Option WriteBlob) (n : ℕ) → IsSomeAnd (option_map (λ w. n) y) (λ k. IsSomeAnd v (λ w. k < count_of w)) → IsSome y
ends_held None v n is = absurd is
ends_held (Some w) v n is = refl

-- what the call that cuts records says
pub record RecordsCut {F S : Type 0} {gs : _} (g : buffer.Ghosts (PageBlob S gs)) (gives : F → Setting) (told : Type 0) (l : Layout) (ends : ℕ → Option ℕ) (j k : Lists F (PageBlob S gs)) (o o1 : OpenedList) (a b : Timeline) : Type 0 where
  pub over : IsJournal g gives l.seal l.record_size told k o1 (disk b)
  pub proven : (s : ℕ) → IsProven k s
  pub cut : told → (s n : ℕ) → ends s ≡ Some n → fixed.section_bytes k.sections (disk b) s ≡ take (n * l.record_size) (fixed.section_bytes j.sections (disk a) s)
  pub sizes : (s n : ℕ) → ends s ≡ Some n → fixed.section_size k.sections s ≡ min (fixed.section_size j.sections s) (n * l.record_size)
  pub others : (s : ℕ) → ends s ≡ None → IsSame j.sections k.sections s
  pub held : (s : ℕ) → IsHeld k.sections s ↔ IsHeld j.sections s
  pub unopened : (s : ℕ) → k.sections.unopened s ≡ j.sections.unopened s
  pub settled : ((s : ℕ) (u : PageBlob S gs) → j.sections.held s ≡ Some u → g.unsettled u ≡ false) → (s : ℕ) (u : PageBlob S gs) → k.sections.held s ≡ Some u → g.unsettled u ≡ false
  pub bounds : SameBounds j.sections k.sections
  pub moments : told → Always a b (Each (Shortening l.seal j.sections (λ s. CutTo l.record_size (ends s)) (disk a)))
  pub entries : (q : Key) → (IsKeyOf j.sections (λ s. IsSome (ends s)) q → ⊥) → o1 q ≡ o q

-- what the call that cuts values says
pub record ValuesCut {F S : Type 0} {gs : _} (g : buffer.Ghosts (PageBlob S gs)) (gives : F → Setting) (takes : WriteFactory → Setting) (told : Type 0) (l : Layout) (j : Lists F (PageBlob S gs)) (m n : Sections WriteFactory WriteBlob) (o o1 : OpenedList) (a b : Timeline) : Type 0 where
  pub over : IsJournal g gives l.seal l.record_size told j o1 (disk b)
  pub values : IsGlob buffers takes told n o1 (disk b)
  pub cut : told → (s : ℕ) → IsHeld j.sections s → glob.section_bytes n (disk b) s ≡ take (last_end l.place (records l.record_size (fixed.section_bytes j.sections (disk a) s))) (glob.section_bytes m (disk a) s)
  pub others : (s : ℕ) → j.sections.held s ≡ None → n.held s ≡ m.held s
  pub held : (s : ℕ) → IsHeld n s ↔ IsHeld m s
  pub unopened : (s : ℕ) → n.unopened s ≡ m.unopened s
  pub settled : ((s : ℕ) → IsHeld m s → IsAllSettled m s) → (s : ℕ) → IsHeld n s → IsAllSettled n s
  pub bounds : SameBounds m n
  pub moments : told → Always a b (Each (Cutting m (EndOf l.place l.record_size j.sections (disk a)) (disk a)))
  pub entries : (q : Key) → (IsKeyOf m (IsHeld j.sections) q → ⊥) → o1 q ≡ o q

-- what the call that removes values says
pub record ValuesRemoved (takes : WriteFactory → Setting) (told : Type 0) (Doomed : ℕ → Type 0) (m n : Sections WriteFactory WriteBlob) (o o1 : OpenedList) (a b : Timeline) : Type 0 where
  pub values : IsGlob buffers takes told n o1 (disk b)
  pub removed : (s : ℕ) → Doomed s → n.held s ≡ None
  pub others : (s : ℕ) → (Doomed s → ⊥) → IsSame m n s
  pub bytes : told → (s : ℕ) → (Doomed s → ⊥) → glob.section_bytes n (disk b) s ≡ glob.section_bytes m (disk a) s
  pub unopened : (s : ℕ) → n.unopened s ≡ m.unopened s
  pub bounds : SameBounds m n
  pub gone : told → (s : ℕ) → Doomed s → IsHeld m s → disk b (key_of m s) ≡ nothing
  pub moments : told → Always a b (λ d. (q : Key) → (IsKeyOf m (λ s. Doomed s × IsHeld m s) q → ⊥) → d q ≡ disk a q)
  pub entries : EntriesLeave (IsKeyOf m Doomed) o o1

-- What of that a cut of records needs, whatever is owed of a replay.
pub record Bounds (Rel : Relation) (l : Layout) (u : Store Key8 ℕ) (ends : ℕ → Option ℕ) (d : Disk) : Type 0 where
  pub order : IsOrder Rel
  pub from : (s p : ℕ) → ends s ≡ Some p → (s < 2 ^ 64) × (marker_of u.entries s ≤ p)
  pub prefixes : (s p : ℕ) → s < 2 ^ 64 → ends s ≡ Some p → (k : ℕ) → p ≤ k → k ≤ length (stored_records l (as_read d) s)
      → Rel s (map (entry_of l.place (content_at (as_read d) l.values s)) (unbroken_prefix (is_sound_in l (as_read d) s) (marker_of u.entries s) 0 (take k (stored_records l (as_read d) s)))) (kept l (as_read d) (marker_of u.entries s) s)

pub bounds_of : {F S : Type 0} {gs : _} {g : buffer.Ghosts (PageBlob S gs)} {gives : F → Setting} {takes : WriteFactory → Setting} {told : Type 0} {Rel : Relation} {l : Layout} {i0 : Sections F (PageBlob S gs)} {m0 : Sections WriteFactory WriteBlob} {u : Store Key8 ℕ} {ends : ℕ → Option ℕ} {given : ℕ → List (List ℕ)} {j : Lists F (PageBlob S gs)} {o : OpenedList} {d : Disk}
    → Ends g gives takes told Rel l i0 m0 u ends given j o d → told → Bounds Rel l u ends d
bounds_of e t = record { order = e.order; from = e.from; prefixes = e.prefixes t }

-- Each crash leaves of the sealed bytes of a section that is cut a prefix that holds the records before its end. No other blob has changed.
pub record CutsTo (l : Layout) (ends : ℕ → Option ℕ) (from d : Disk) : Type 0 where
  pub leaves : (s p : ℕ) → s < 2 ^ 64 → ends s ≡ Some p
      → pages.Leaves l.seal l.page_size (sealed_prefix l.seal l.page_size (content_at (as_read from) l.index s)) (p * l.record_size) (d (section_key l.index s))
  pub others : (q : Key) → (IsIndexOf l (λ s. IsSome (ends s)) q → ⊥) → d q ≡ from q

-- no crash brings bytes back into the blobs of sections that are not held
pub record Bare {F B : Type 0} (l : Layout) (i : Sections F B) (m : Sections WriteFactory WriteBlob) (d : Disk) : Type 0 where
  pub index : (s : ℕ) → s < 2 ^ 64 → i.held s ≡ None → HasNoBytes (d (section_key l.index s))
  pub values : (s : ℕ) → s < 2 ^ 64 → m.held s ≡ None → HasNoBytes (d (section_key l.values s))

-- Between two steps: all has settled, the same sections are held, and the journal has the records that were given.
pub record Between {F S : Type 0} {gs : _} (g : buffer.Ghosts (PageBlob S gs)) (gives : F → Setting) (takes : WriteFactory → Setting) (told : Type 0) (l : Layout) (i0 : Sections F (PageBlob S gs)) (u : Store Key8 ℕ) (given : ℕ → List (List ℕ)) (May : Type 0)
    (j : Lists F (PageBlob S gs)) (m : Sections WriteFactory WriteBlob) (o : OpenedList) (d : Disk) : Type 0 where
  pub rests : Resting g gives takes told l j m u o d
  pub held : (s : ℕ) → IsHeld j.sections s ↔ IsHeld i0 s
  pub records : told → (s : ℕ) → records l.record_size (fixed.section_bytes j.sections d s) ≡ given s
  pub bare : told → May → Bare l j.sections m d
  pub readable : told → (q : Key) → MayLeave (d q) (reads (d q))
