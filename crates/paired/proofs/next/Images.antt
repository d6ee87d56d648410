-- What calls of `next` leave of the images of a pair, in the walk of an opening: each section has the records that it had, and each other blob is as it was.
use Rattle.std.specs.Prelude.{◌≡◌, ◌≢◌, ◌⊎◌, ℕ, ◌^◌, ◌<◌, ◌≤◌, ⊤, cond, Bool, true, false, List, [], ◌∷◌, length, map, take, IsTrue, Option, None, Some, IsSome, unwrap_or}
use Rattle.std.proofs.Common.{inl, inr, refl, sym, ◌∙◌, ap, subst, arith}
use Rattle.std.specs.Int.{w64, from_be_bytes}
use Rattle.std.specs.List.{AllByRecursion}
use Rattle.std.proofs.lemmas.Bool.{cases_lt}
use Rattle.std.proofs.lemmas.Nat.{from_be_bytes-to_be_bytes_8}
use Rattle.blob_device.specs.Disk.{Key, Blob, Disk, Image, IsCrashOf, MayLeave, past, reads, longest, settled_at}
use Rattle.blob_device.specs.Opened.{OpenedList}
use Rattle.blob_device.specs.Timeline.{Timeline, disk, Always, Each}
use Rattle.blob_device.specs.lemmas.Moments.{always_now, always_weaker}
use Rattle.blob_device.specs.lemmas.Puts.{same_or_other}
use Rattle.sealed_pages.specs.declared.page_blob.PageBlob.{PageBlob}
use Rattle.sealed_pages.specs.ChanceSeal as pages
use Rattle.sealed_pages.specs.Cutting.{StandsSettled}
use Rattle.sealed_pages.specs.SealedPrefix.{sealed_prefix}
use Rattle.sealed_pages.specs.Shown.{shown}
use Rattle.value_codec.specs.declared.codec.Error as codec
use Rattle.section_manager.specs.declared.buffer.SectionBuffer as buffer
use Rattle.section_manager.specs.declared.unsealed.WriteFactory.{WriteFactory}
use Rattle.section_manager.specs.SealedLaws.{no_chance, all_settled}
use Rattle.section_manager.specs.Sections.{section_key, key_of, IsHeld}
use Rattle.section_manager.specs.Setting.{Setting}
use Rattle.section_manager.specs.lemmas.Keys.{key_injective}
use Rattle.segments.specs.FixedReplay.{Walk, SameItems, Replaying}
use Rattle.segments.specs.lemmas.FixedOwed.{same_items}
use Rattle.meta_store.specs.lemmas.Leaving.{settled_content}
use Rattle.paired.specs.lemmas.Glob.{buffers}
use Rattle.paired.specs.lemmas.next.Went.{Went}
use Rattle.paired.specs.lemmas.pair.Synced.{Here}
use Rattle.segments.specs.lemmas.adding.Write.{ArePages}
use Rattle.meta_store.specs.Blobs.{blob_of, bytes_of}
use Rattle.meta_store.specs.Crashes as metadata
use Rattle.meta_store.specs.declared.error.Side.{Side}
use Rattle.meta_store.specs.declared.error.Side.TheVariants.{Left, Right}
use Rattle.meta_store.specs.Pairs.{HoldMap}
use Rattle.paired.specs.Crashes.{IsIndexOf, WasThere}
use Rattle.paired.specs.Kept.{Layout, Markers, content_at, stored_records, is_sound_in, kept}
use Rattle.paired.specs.Opening.{as_read, IsLawful, NoChanceSlots, MayBeOpened, RecallsAlone}
use Rattle.paired.specs.OpeningRefusing.{AreSpellings}
use Rattle.paired.specs.Pair.{AreApart}
use Rattle.paired.specs.Places.{Follow}
use Rattle.paired.specs.Records.{records, unbroken_prefix, entry_of, is_sound}
use Rattle.paired.specs.Replaying.{Run, pair_of, IsRun, IsStill}
use Rattle.paired.proofs.pair.Moments.{no_index, copy_no_index}
use Rattle.paired.proofs.ReplayLemmas.{records_of_items}
use Rattle.paired.proofs.ReplayLemmasRecalls.{replaying_recalls}
use Rattle.blob_device.proofs.general.Options.{none_or_value}

-- a key is that of some section of the partition, or of none
pub index_or_not : (l : Layout) (q : Key) → IsIndexOf l (λ _. ⊤) q ⊎ (IsIndexOf l (λ _. ⊤) q → ⊥)
index_or_not l q = elim (cases_lt (from_be_bytes w64 q.1) (2 ^ 64)) [
  | inr large ↦ inr (λ found. absurd (omega (arith, large, found.1, number found)))
  | inl small ↦ elim (same_or_other q (section_key l.index (from_be_bytes w64 q.1))) [
    | inr other ↦ inr (λ found. other (found.3 ∙ ap (section_key l.index) (sym (number found))))
    | inl is ↦ inl (from_be_bytes w64 q.1, small, tt, is)
  ]
]
  where
    number : (found : IsIndexOf l (λ _. ⊤) q) → from_be_bytes w64 q.1 ≡ found.0
    number found = ap (λ (k : Key). from_be_bytes w64 k.1) found.3 ∙ from_be_bytes-to_be_bytes_8 found.0 found.1

-- The index blobs of the disk d have the items that those of `from` have, and every other blob is as it was.
pub record KeepsIndex (l : Layout) (from d : Disk) : Type 0 where
  pub index : (s : ℕ) → s < 2 ^ 64 → SameItems l.seal l.page_size l.record_size (from (section_key l.index s)) (d (section_key l.index s))
  pub others : (q : Key) → (IsIndexOf l (λ _. ⊤) q → ⊥) → d q ≡ from q

-- what a blob reads as
reads_same : (b c : Blob) → c.there ≡ b.there → IsSome (reads c) → IsSome (reads b)
reads_same b c same is = go b.there c.there refl refl
  where
    go : (x y : Bool) → b.there ≡ x → c.there ≡ y → IsSome (reads b)
    go true y here now = subst (λ (t : Bool). IsSome (cond t (Some b.content) None)) (sym here) refl
    go false y here now = absurd (cc (subst (λ (t : Bool). IsSome (cond t (Some c.content) None)) (same ∙ here) is))

-- a blob that has settled is left as it is, and has had no other content
rest_left : (b : Blob) (o : Option (List ℕ)) → StandsSettled b → MayLeave b o → o ≡ reads b
rest_left b o rest may = go o (subst (λ (x : Blob). MayLeave x o) rest may) ∙ sym here
  where
    here : reads b ≡ Some b.content
    here = ap (λ (x : Blob). reads x) rest

    go : (o : Option (List ℕ)) → MayLeave (settled_at b.content) o → o ≡ Some b.content
    go None may = absurd (cc may)
    go (Some c) may = ap (λ (x : List ℕ). let some : List ℕ → Option (List ℕ) = λ z. Some z in some x) (settled_content b.content c may.1)

module _ (l : Layout) (pos : 1 ≤ l.record_size) (apart : AreApart l) (from d : Disk) (keeps : KeepsIndex l from d) where
  pub stored_same : (s : ℕ) → s < 2 ^ 64 → stored_records l (as_read d) s ≡ stored_records l (as_read from) s
  stored_same s small = go (from (section_key l.index s)).there refl
    where
      is : SameItems l.seal l.page_size l.record_size (from (section_key l.index s)) (d (section_key l.index s))
      is = keeps.index s small

      read_as : (b : Blob) (t : Bool) → b.there ≡ t → records l.record_size (sealed_prefix l.seal l.page_size (unwrap_or (reads b) [])) ≡ records l.record_size (sealed_prefix l.seal l.page_size (unwrap_or (cond t (Some b.content) None) []))
      read_as b t there = ap (λ (x : Bool). records l.record_size (sealed_prefix l.seal l.page_size (unwrap_or (cond x (Some b.content) None) []))) there

      go : (t : Bool) → (from (section_key l.index s)).there ≡ t → stored_records l (as_read d) s ≡ stored_records l (as_read from) s
      go false none = read_as (d (section_key l.index s)) false (is.there ∙ none) ∙ sym (read_as (from (section_key l.index s)) false none)
      go true there = read_as (d (section_key l.index s)) true (is.there ∙ there)
          ∙ records_of_items l.record_size (sealed_prefix l.seal l.page_size (d (section_key l.index s)).content) (sealed_prefix l.seal l.page_size (from (section_key l.index s)).content) pos is.count is.items
          ∙ sym (read_as (from (section_key l.index s)) true there)

  pub values_blob : (s : ℕ) → d (section_key l.values s) ≡ from (section_key l.values s)
  values_blob s = keeps.others (section_key l.values s) (no_index l apart.values apart.metadata apart.both (λ _. ⊤) s)

  pub copy_blob : (side : Side) → d (blob_of l.metadata side) ≡ from (blob_of l.metadata side)
  copy_blob side = keeps.others (blob_of l.metadata side) (copy_no_index l apart.values apart.metadata apart.both (λ _. ⊤) side)

  values_same : (s : ℕ) → content_at (as_read d) l.values s ≡ content_at (as_read from) l.values s
  values_same s = ap (λ (b : Blob). unwrap_or (reads b) []) (values_blob s)

  sound_same : (s : ℕ) → is_sound_in l (as_read d) s ≡ is_sound_in l (as_read from) s
  sound_same s = (λ i r. is_sound l.seal (values_same s i) (l.place r))

  pub kept_same : (m s : ℕ) → s < 2 ^ 64 → kept l (as_read d) m s ≡ kept l (as_read from) m s
  kept_same m s small = (λ i. map (entry_of l.place (values_same s i)) (unbroken_prefix (sound_same s i) m 0 (stored_same s small i)))

  there_back : (q : Key) → IsSome (as_read d q) → IsSome (as_read from q)
  there_back q is = elim (index_or_not l q) [
    | inr none ↦ subst (λ (b : Blob). IsSome (reads b)) (keeps.others q none) is
    | inl found ↦ subst (λ (k : Key). IsSome (as_read from k)) (sym found.3)
        (reads_same (from (section_key l.index found.0)) (d (section_key l.index found.0)) (keeps.index found.0 found.1).there (subst (λ (k : Key). IsSome (as_read d k)) found.3 is))
  ]

  there_on : (s : ℕ) → s < 2 ^ 64 → IsSome (as_read from (section_key l.index s)) → IsSome (as_read d (section_key l.index s))
  there_on s small = reads_same (d (section_key l.index s)) (from (section_key l.index s)) (sym (keeps.index s small).there)

  pub lawful_on : (markers : Markers) → IsLawful l (as_read from) markers → IsLawful l (as_read d) markers
  lawful_on markers lawful = record {
    names = record { index = λ name is. lawful.names.index name (there_back (l.index, name) is); values = λ name is. lawful.names.values name (there_back (l.values, name) is) };
    held = record {
      copies = λ is. subst (λ (b : Blob). HoldMap l.markers (bytes_of (reads b)) (bytes_of (as_read d (blob_of l.metadata Right))) markers) (sym (copy_blob Left))
          (subst (λ (b : Blob). HoldMap l.markers (bytes_of (as_read from (blob_of l.metadata Left))) (bytes_of (reads b)) markers) (sym (copy_blob Right)) (lawful.held.copies is));
      none = lawful.held.none;
    };
    floor = lawful.floor;
    true_markers = λ s m is. (let was = lawful.true_markers s m is in record {
      index_blob = there_on s is.0 was.index_blob;
      enough = subst (λ (rs : List (List ℕ)). m ≤ length rs) (sym (stored_same s is.0)) was.enough;
      sound = subst (λ (rs : List (List ℕ)). AllByRecursion (λ r. IsTrue (is_sound_in l (as_read d) s r)) (take m rs)) (sym (stored_same s is.0))
          (subst (λ (f : List ℕ → Bool). AllByRecursion (λ r. IsTrue (f r)) (take m (stored_records l (as_read from) s))) (sym (sound_same s)) was.sound);
    });
    places = λ s small. (let was = lawful.places s small in record {
      end = was.end;
      fits = was.fits;
      follow = subst (λ (rs : List (List ℕ)). Follow l.place 0 rs was.end) (sym (stored_same s small)) was.follow;
    });
  }

  pub spelled_on : (refusal : List ℕ → Unit {0} → Option codec.Error) → AreSpellings l refusal (as_read from) → AreSpellings l refusal (as_read d)
  spelled_on refusal spelled s small = subst (AllByRecursion (λ r. refusal r tt ≡ None)) (sym (stored_same s small)) (spelled s small)

  -- ---- the disk may be opened, if it might
  module _ (readable : (q : Key) → MayLeave (from q) (reads (from q))) (is_open : MayBeOpened l from) where
    -- what is said of the frames that records name
    abbrev FramesOf : Blob → List (List ℕ) → Type 0
    FramesOf b rs = AllByRecursion (λ r. IsTrue (is_sound l.seal (unwrap_or (reads b) []) (l.place r)) → WasThere (past b) (unwrap_or (reads b) []) (l.place r)) rs

    slots_on : (s : ℕ) → s < 2 ^ 64 → pages.NoChanceSeal l.seal l.page_size (past (d (section_key l.index s))) (content_at (as_read d) l.index s)
    slots_on s small = elim (keeps.index s small).rests [
      | inl same ↦ subst (λ (b : Blob). pages.NoChanceSeal l.seal l.page_size (past b) (unwrap_or (reads b) [])) (sym same) (is_open.no_chance.slots s small)
      | inr rest ↦ subst (λ (b : Blob). pages.NoChanceSeal l.seal l.page_size (past b) (unwrap_or (reads b) [])) (sym rest) (alone (d (section_key l.index s)).content)
    ]
      where
        alone : (c : List ℕ) → pages.NoChanceSeal l.seal l.page_size (c ∷ []) c
        alone c = no_chance l.seal l.page_size (c ∷ []) c (0, omega arith, refl)

    -- an image that has another blob at one key
    abbrev with_blob : Key → Option (List ℕ) → (q : Key) → (q' : Key) → (q' ≡ q) ⊎ (q' ≢ q) → Option (List ℕ)
    with_blob k o q q' (inl is) = o
    with_blob k o q q' (inr other) = reads (from q')

    abbrev at_key : Key → Option (List ℕ) → Image
    at_key k o q' = with_blob k o k q' (same_or_other q' k)

    at_here : (k : Key) (o : Option (List ℕ)) → at_key k o k ≡ o
    at_here k o = go (same_or_other k k)
      where
        go : (e : (k ≡ k) ⊎ (k ≢ k)) → with_blob k o k k e ≡ o
        go (inl is) = refl
        go (inr other) = absurd (other refl)

    at_crash : (k : Key) (o : Option (List ℕ)) → MayLeave (from k) o → IsCrashOf from (at_key k o)
    at_crash k o may q = go (same_or_other q k)
      where
        go : (e : (q ≡ k) ⊎ (q ≢ k)) → MayLeave (from q) (with_blob k o k q e)
        go (inl is) = subst (λ (x : Key). MayLeave (from x) o) (sym is) may
        go (inr other) = readable q

    named_on : (image : Image) → IsCrashOf d image → (s : ℕ) → s < 2 ^ 64 → NoChanceSlots l d image s → FramesOf (from (section_key l.values s)) (stored_records l image s)
    named_on image crash s small slots = elim (keeps.index s small).rests [
      | inl same ↦
          let k : Key = section_key l.index s in
          let there : at_key k (image k) k ≡ image k = at_here k (image k) in
          subst (λ (o : Option (List ℕ)). FramesOf (from (section_key l.values s)) (records l.record_size (sealed_prefix l.seal l.page_size (unwrap_or o [])))) there
          (is_open.named (at_key k (image k)) (at_crash k (image k) (subst (λ (b : Blob). MayLeave b (image k)) same (crash k))) s small
          (subst (λ (o : Option (List ℕ)). pages.NoChanceSeal l.seal l.page_size (past (from k)) (unwrap_or o [])) (sym there)
          (subst (λ (b : Blob). pages.NoChanceSeal l.seal l.page_size (past b) (content_at image l.index s)) same slots)))
      | inr rest ↦
          let k : Key = section_key l.index s in
          let left : image k ≡ reads (d k) = rest_left (d k) (image k) rest (crash k) in
          let same : stored_records l image s ≡ stored_records l (as_read from) s = ap (λ (o : Option (List ℕ)). records l.record_size (sealed_prefix l.seal l.page_size (unwrap_or o []))) left ∙ stored_same s small in
          subst (FramesOf (from (section_key l.values s))) (sym same) (is_open.named (as_read from) readable s small (is_open.no_chance.slots s small))
    ]

    absent_on : (s : ℕ) → s < 2 ^ 64 → (d (section_key l.index s)).there ≡ false → longest (d (section_key l.index s)) ≡ 0
    absent_on s small none = elim (keeps.index s small).rests [
      | inl same ↦ subst (λ (b : Blob). longest b ≡ 0) (sym same) (is_open.absent s small (sym (ap (λ (b : Blob). b.there) same) ∙ none))
      | inr rest ↦ (let there : (d (section_key l.index s)).there ≡ true = ap (λ (b : Blob). b.there) rest in absurd (cc (there, none)))
    ]

    pub opened_on : MayBeOpened l d
    opened_on = record {
      no_chance = record {
        slots = slots_on;
        frames = λ s small. subst (λ (b : Blob). FramesOf b (stored_records l (as_read d) s)) (sym (values_blob s))
            (subst (FramesOf (from (section_key l.values s))) (sym (stored_same s small)) (is_open.no_chance.frames s small));
        copies = λ is side. subst (λ (b : Blob). metadata.NoChanceSeal l.markers.seal (past b) (bytes_of (reads b))) (sym (copy_blob side)) (is_open.no_chance.copies is side);
      };
      named = λ image crash s small slots. subst (λ (b : Blob). FramesOf b (stored_records l image s)) (sym (values_blob s)) (named_on image crash s small slots);
      absent = absent_on;
      values_absent = λ s small none. subst (λ (b : Blob). longest b ≡ 0) (sym (values_blob s)) (is_open.values_absent s small (sym (ap (λ (b : Blob). b.there) (values_blob s)) ∙ none));
    }

-- ---- after calls of `next` in an opening
module _ {F S : Type 0} {gs : _} (g : buffer.Ghosts (PageBlob S gs)) (gives : F → Setting) {takes : WriteFactory → Setting} (told : Type 0) (run : Run F (PageBlob S gs)) (pages_are : ArePages g run.layout.seal)
    (before : OpenedList) (a c : Timeline) (here : Here gives (pair_of run)) (was : IsRun run g gives buffers takes told before (disk a)) (w : Walk F (PageBlob S gs)) (went : Went run.layout.seal run.layout.record_size g told run.walk w a c) (t : told) where
  -- a held section's pages are as large as the layout says
  pub paged : (s : ℕ) (u : PageBlob S gs) → run.walk.journal.sections.held s ≡ Some u → u.page_size ≡ run.layout.page_size
  paged s u held = sym (pages_are.page_size u) ∙ ap (λ (y : Setting). y.page_size) (was.index.over.opened_list.setting s u held) ∙ here.page_size

  number_of : (s : ℕ) → IsHeld run.walk.journal.sections s → s < 2 ^ 64
  number_of s held = was.index.over.opened_list.number s (inl held)

  pub here_key : (s : ℕ) → key_of run.walk.journal.sections s ≡ section_key run.layout.index s
  here_key s = ap (λ (p : List ℕ). section_key p s) here.index

  -- at each moment no blob changes but index blobs of held sections
  pub moment_others : (x : Disk) → Each (Replaying run.layout.seal run.layout.record_size run.walk (disk a)) x → (q : Key) → (IsIndexOf run.layout (IsHeld run.walk.journal.sections) q → ⊥) → x q ≡ disk a q
  moment_others x each q not = (each q).others (λ k. not (k.0, number_of k.0 k.1.0, k.1.0, k.2 ∙ here_key k.0))

  pub any_index : (q : Key) → IsIndexOf run.layout (IsHeld run.walk.journal.sections) q → IsIndexOf run.layout (λ _. ⊤) q
  any_index q is = (is.0, is.1, tt, is.3)

  -- a section that is not held has the blob that it had
  pub unheld_blob : (x : Disk) → Each (Replaying run.layout.seal run.layout.record_size run.walk (disk a)) x → (s : ℕ) → s < 2 ^ 64 → run.walk.journal.sections.held s ≡ None → x (section_key run.layout.index s) ≡ disk a (section_key run.layout.index s)
  unheld_blob x each s small none = moment_others x each (section_key run.layout.index s)
      (λ is. (let same : s ≡ is.0 = key_injective run.layout.index s is.0 small is.1 is.3 in
      let held : IsHeld run.walk.journal.sections s = subst (IsHeld run.walk.journal.sections) (sym same) is.2 in cc (subst IsSome none held)))

  at_end : Each (Replaying run.layout.seal run.layout.record_size run.walk (disk a)) (disk c)
  at_end = always_now a c (Each (Replaying run.layout.seal run.layout.record_size run.walk (disk a))) (went.moments t)

  pub others_end : (q : Key) → (IsIndexOf run.layout (λ _. ⊤) q → ⊥) → disk c q ≡ disk a q
  others_end q not = moment_others (disk c) at_end q (λ is. not (any_index q is))

  pub keeps_index : run.tracked ≡ true → w.ended ≡ false → KeepsIndex run.layout (disk a) (disk c)
  keeps_index tracked going = record { index = index; others = others_end }
    where
      held_items : (s : ℕ) (u : PageBlob S gs) → run.walk.journal.sections.held s ≡ Some u → (owes : Bool) → run.walk.journal.unrecovered s ≡ owes
          → SameItems run.layout.seal u.page_size run.layout.record_size (disk a (key_of run.walk.journal.sections s)) (disk c (key_of run.walk.journal.sections s))
      held_items s u held true owed = went.items t going s u held owed
      held_items s u held false free = same_items run.layout.seal u.page_size run.layout.record_size (disk a (key_of run.walk.journal.sections s)) (disk c (key_of run.walk.journal.sections s))
          ((at_end (key_of run.walk.journal.sections s)).still s u held (all_settled (shown u) (sym (pages_are.unsettled u) ∙ (was.opening tracked).index_settled s u held), inl free) refl)

      index : (s : ℕ) → s < 2 ^ 64 → SameItems run.layout.seal run.layout.page_size run.layout.record_size (disk a (section_key run.layout.index s)) (disk c (section_key run.layout.index s))
      index s small = elim (none_or_value (run.walk.journal.sections.held s)) [
        | inl none ↦ same_items run.layout.seal run.layout.page_size run.layout.record_size (disk a (section_key run.layout.index s)) (disk c (section_key run.layout.index s)) (unheld_blob (disk c) at_end s small none)
        | inr u ↦
            subst (λ (k : Key). SameItems run.layout.seal run.layout.page_size run.layout.record_size (disk a k) (disk c k)) (here_key s)
            (subst (λ (P : ℕ). SameItems run.layout.seal P run.layout.record_size (disk a (key_of run.walk.journal.sections s)) (disk c (key_of run.walk.journal.sections s))) (paged s u.0 u.1)
            (held_items s u.0 u.1 (run.walk.journal.unrecovered s) refl))
      ]

  -- ---- whichever walk it is
  pub untouched_of : Always a c (λ d. (q : Key) → (IsIndexOf run.layout (IsHeld run.walk.journal.sections) q → ⊥) → d q ≡ disk a q)
  untouched_of = always_weaker a c (Each (Replaying run.layout.seal run.layout.record_size run.walk (disk a))) (λ d. (q : Key) → (IsIndexOf run.layout (IsHeld run.walk.journal.sections) q → ⊥) → d q ≡ disk a q) moment_others (went.moments t)

  still_at : (x : Disk) → Each (Replaying run.layout.seal run.layout.record_size run.walk (disk a)) x → (s : ℕ) → s < 2 ^ 64 → IsStill run (disk a) s → x (section_key run.layout.index s) ≡ disk a (section_key run.layout.index s)
  still_at x each s small still = elim (none_or_value (run.walk.journal.sections.held s)) [
    | inl none ↦ unheld_blob x each s small none
    | inr u ↦ subst (λ (k : Key). x k ≡ disk a k) (here_key s) ((each (key_of run.walk.journal.sections s)).still s u.0 u.1 (still u.0 u.1) refl)
  ]

  -- where there is nothing to flush or cut
  pub still_of : (s : ℕ) → s < 2 ^ 64 → IsStill run (disk a) s → Always a c (λ d. d (section_key run.layout.index s) ≡ disk a (section_key run.layout.index s))
  still_of s small still = always_weaker a c (Each (Replaying run.layout.seal run.layout.record_size run.walk (disk a))) (λ d. d (section_key run.layout.index s) ≡ disk a (section_key run.layout.index s))
      (λ d each. still_at d each s small still) (went.moments t)

  pub idle_of : ((s : ℕ) → IsStill run (disk a) s) → Always a c (Each (λ q b. b ≡ disk a q))
  idle_of still = always_weaker a c (Each (Replaying run.layout.seal run.layout.record_size run.walk (disk a))) (Each (λ q b. b ≡ disk a q)) (λ d each q. elim (index_or_not run.layout q) [
    | inr none ↦ moment_others d each q (λ is. none (any_index q is))
    | inl found ↦ subst (λ (k : Key). d k ≡ disk a k) (sym found.3) (still_at d each found.0 found.1 (still found.0))
  ]) (went.moments t)

  -- at each moment a crash leaves what one before the calls would have left
  pub moments_of : run.tracked ≡ true → ((q : Key) → MayLeave (disk a q) (reads (disk a q))) → MayBeOpened run.layout (disk a) → Always a c (RecallsAlone run.layout (IsIndexOf run.layout (λ _. ⊤)) (disk a))
  moments_of tracked readable is_open = always_weaker a c (Each (Replaying run.layout.seal run.layout.record_size run.walk (disk a))) (RecallsAlone run.layout (IsIndexOf run.layout (λ _. ⊤)) (disk a))
      (λ x each. replaying_recalls {opened = before} run (disk a) x pages_are here was tracked t readable is_open each) (went.moments t)
