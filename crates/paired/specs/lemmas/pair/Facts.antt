-- What is known of a pair between calls: its facts, and how its blobs stand, from what its three parts promise.
use Rattle.std.proofs.Common.{◌≡◌, ◌⊎◌, inl, inr, ℕ, ◌+◌, ◌*◌, ◌/◌, ◌%◌, ◌^◌, ◌<◌, ◌≤◌, Bool, true, false, List, [], ◌∷◌, length, take, IsTrue, Option, None, Some, IsSome, refl, sym, ◌∙◌, ap, subst, arith}
use Rattle.std.specs.List.{AllByRecursion}
use Rattle.std.proofs.lemmas.Nat.{div_below}
use Rattle.blob_device.specs.Disk.{Blob, Disk, longest}
use Rattle.blob_device.specs.Opened.{OpenedList}
use Rattle.sealed_pages.specs.declared.page_blob.PageBlob.{PageBlob}
use Rattle.sealed_pages.specs.declared.write_blob.WriteBlob.{WriteBlob}
use Rattle.sealed_pages.specs.Buffer.{bytes_of}
use Rattle.sealed_pages.specs.ChanceSeal as pages
use Rattle.sealed_pages.specs.Shown.{shown}
use Rattle.meta_store.specs.lemmas.Syncing.{stands_keeps}
use Rattle.paired.specs.lemmas.Glob.{buffers, outlasts_of, serves_of}
use Rattle.paired.specs.lemmas.Kept.{follow_least}
use Rattle.paired.specs.lemmas.pair.Blobs.{lasting_none, values_of}
use Rattle.paired.specs.lemmas.pair.Holding.{no_bytes}
use Rattle.sealed_pages.specs.lemmas.memory.Holding.{holds_leaves}
use Rattle.section_manager.specs.declared.buffer.SectionBuffer as buffer
use Rattle.section_manager.specs.Sections.{Sections, section_key, key_of, IsHeld, IsOver}
use Rattle.section_manager.specs.Setting.{Setting}
use Rattle.section_manager.specs.unsealed.Buffer.{content_of}
use Rattle.section_manager.specs.unsealed.Laws.{passes, counted, settled_within}
use Rattle.section_manager.specs.SealedLaws.{counted as index_counted}
use Rattle.segments.specs.FixedLists.{Lists, IsProven, IsJournal}
use Rattle.segments.specs.FixedLists as fixed
use Rattle.value_codec.specs.declared.key.Key8.{Key8}
use Rattle.meta_store.specs.Store.{Store, Stands, contents_of}
use Rattle.meta_store.specs.Crashes as metadata
use Rattle.paired.specs.glob.Lasting.{Outlasts}
use Rattle.paired.specs.glob.Sections.{IsGlob}
use Rattle.paired.specs.glob.Sections as glob
use Rattle.paired.specs.Pair.{Pair, AreWhole}
use Rattle.paired.specs.Places.{Follow, end_of}
use Rattle.paired.specs.Records.{records, is_sound}
use Rattle.paired.specs.Kept.{Layout, HasNoFloor, IsMarked}
use Rattle.paired.specs.Holding.{Facts, AreGood, IsLasting, IndexStands, LeavesNoRecords, ValuesStand, AreTrue, Holding}
use Rattle.paired.specs.lemmas.Records.{length-records}
use Rattle.blob_device.proofs.general.Numbers.{no_rest}
use Rattle.blob_device.proofs.general.Options.{none_or_value}

-- a section that is neither held nor known has no blob that is there
pub not_there : {F B : Type 0} {g : buffer.Ghosts B} {gives : F → Setting} {told : Type 0} (m : Sections F B) (opened : OpenedList) (d : Disk) → IsOver g gives told m opened d → told
    → (s : ℕ) → s < 2 ^ 64 → m.held s ≡ None → m.unopened s ≡ None → (d (key_of m s)).there ≡ false
not_there m opened d over t s small held unopened = go (d (key_of m s)).there refl
  where
    go : (b : Bool) → (d (key_of m s)).there ≡ b → b ≡ false
    go false is = refl
    go true is = elim ((over.disk t).whose s small is) [
      | inl known ↦ absurd (cc (subst IsSome held known))
      | inr known ↦ absurd (cc (subst IsSome unopened known))
    ]

-- all pages of each section of a pair were read, or written since
pub proven_of : {F S : Type 0} {gs : _} {p : Pair F (PageBlob S gs)} → AreWhole p → (s : ℕ) → IsProven p.index s
proven_of whole s = record { checked = whole.recovered s; free = whole.unfloored s }

-- each crash leaves of a held section that is proven a prefix of its bytes, with what has settled
pub journal_lasts : {F S : Type 0} {gs : _} {g : buffer.Ghosts (PageBlob S gs)} {gives : F → Setting} {told : Type 0} (seal : List ℕ → ℕ) (size : ℕ) (j : Lists F (PageBlob S gs)) (opened : OpenedList) (d : Disk)
    → IsJournal g gives seal size told j opened d → told → (s : ℕ) (u : PageBlob S gs) → j.sections.held s ≡ Some u → IsProven j s
    → pages.Leaves seal u.page_size (bytes_of (shown u) (d (key_of j.sections s)).content) u.settled (d (key_of j.sections s))
journal_lasts seal size j opened d journal t s u held is_proven =
    holds_leaves seal (shown u) (bytes_of (shown u) (d (key_of j.sections s)).content) (d (key_of j.sections s)) u.fit.begun ((journal.disk t).sealed s u held is_proven).holds

-- each crash leaves of a held section of a glob what has settled of its values
pub glob_outlasts : {F : Type 0} {takes : F → Setting} {told : Type 0} (m : Sections F WriteBlob) (opened : OpenedList) (d : Disk) → IsGlob buffers takes told m opened d → told → (s : ℕ) (v : WriteBlob) → m.held s ≡ Some v
    → Outlasts (take v.settled (content_of v (d (key_of m s)).content)) (content_of v (d (key_of m s)).content) (d (key_of m s))
glob_outlasts {takes = takes} m opened d over t s v held =
    let stands = (over.over.disk t).stands s v held in
    outlasts_of v (d (key_of m s)) (d (key_of m s)) v.settled stands (serves_of takes m opened d over s v held) t (omega arith) (passes v (d (key_of m s)) stands)

-- the copies of a map that stands hold its entries and its floor
pub store_keeps : (l : Layout) (u : Store Key8 ℕ) (d : Disk) → u.partition ≡ l.metadata → Stands l.markers u (contents_of u) d → metadata.Keeps l.markers l.metadata (contents_of u) (contents_of u) d
store_keeps l u d here stands = subst (λ (p : List ℕ). metadata.Keeps l.markers p (contents_of u) (contents_of u) d) here
    (stands_keeps l.markers u (contents_of u) (contents_of u) d stands)

-- no records stand in no room
follow_none : (place : List ℕ → ℕ × ℕ) (rs : List (List ℕ)) → Follow place 0 rs 0 → rs ≡ []
follow_none place [] follow = refl
follow_none place (r ∷ rs) follow = absurd (omega (arith, follow.1, follow_least place (0 + (place r).1) rs 0 follow.2))

-- how many bytes of a section's records have settled
abbrev pub settled_held : {S : Type 0} {gs : _} → Option (PageBlob S gs) → ℕ
settled_held None = 0
settled_held (Some u) = u.settled

-- A pair of this layout: its index, its values, and how many records of each section were synced.
module _ {F G S : Type 0} {gs : _} (l : Layout) (j : Lists F (PageBlob S gs)) (m : Sections G WriteBlob) (synced : ℕ → ℕ) (d : Disk) where
  -- what is known of its sections
  abbrev pub facts_of : ℕ → Facts
  facts_of s = record {
    index = fixed.section_bytes j.sections d s;
    values = glob.section_bytes m d s;
    index_settled = settled_held (j.sections.held s);
    values_settled = glob.settled_size m s;
    synced = synced s;
  }

  -- The values stand one behind the other up to the section's end, each sound, and of what was synced both the records and the values have settled.
  pub record IsGood (s : ℕ) : Type 0 where
    pub places : Follow l.place 0 (records l.record_size (fixed.section_bytes j.sections d s)) (glob.section_size m s)
    pub sound : AllByRecursion (λ r. IsTrue (is_sound l.seal (glob.section_bytes m d s) (l.place r))) (records l.record_size (fixed.section_bytes j.sections d s))
    pub index_settled : (u : PageBlob S gs) → j.sections.held s ≡ Some u → synced s * l.record_size ≤ u.settled
    pub values_settled : end_of l.place 0 (take (synced s) (records l.record_size (fixed.section_bytes j.sections d s))) ≤ glob.settled_size m s
    pub lengths : synced s ≤ fixed.section_size j.sections s / l.record_size

  -- what a held section's index blob leaves, said of what is known of the section
  pub lasting_held : (s : ℕ) (u : PageBlob S gs) (b : Blob) → j.sections.held s ≡ Some u → u.page_size ≡ l.page_size
      → pages.Leaves l.seal u.page_size (bytes_of (shown u) (d (key_of j.sections s)).content) u.settled b → IsLasting l (facts_of s) b
  lasting_held s u b held paged leaves =
      let content : List ℕ = (d (key_of j.sections s)).content in
      subst (λ (o : Option (PageBlob S gs)). pages.Leaves l.seal l.page_size (fixed.bytes_held o content) (settled_held o) b) (sym held)
      (subst (λ (P : ℕ). pages.Leaves l.seal P (bytes_of (shown u) content) u.settled b) paged leaves)

  -- what a held section's value blob leaves, and which contents it had
  pub values_held : (s : ℕ) (v : WriteBlob) (b : Blob) → m.held s ≡ Some v → Outlasts (take v.settled (content_of v (d (key_of m s)).content)) (content_of v (d (key_of m s)).content) b
      → ValuesStand l (facts_of s) b
  values_held s v b held outlasts =
      let content : List ℕ = (d (key_of m s)).content in
      values_of l (facts_of s) b
      (subst (λ (o : Option WriteBlob). Outlasts (take (glob.settled_held o) (glob.bytes_held o content)) (glob.bytes_held o content) b) (sym held) outlasts)

  -- The three parts stand, each section is proven, and they are where the layout says; no crash brings bytes back into an index blob of a
  -- section that is not held; and the markers are true.
  pub record Parts (g : buffer.Ghosts (PageBlob S gs)) (gives : F → Setting) (takes : G → Setting) (told : Type 0) (u : Store Key8 ℕ) (opened : OpenedList) : Type 0 where
    pub journal : IsJournal g gives l.seal l.record_size told j opened d
    pub values : IsGlob buffers takes told m opened d
    pub store : Stands l.markers u (contents_of u) d
    pub proven : (s : ℕ) → IsProven j s
    pub index_here : j.sections.partition ≡ l.index
    pub values_here : m.partition ≡ l.values
    pub store_here : u.partition ≡ l.metadata
    pub is_marked : IsTrue l.marked
    pub paged : (s : ℕ) (v : PageBlob S gs) → j.sections.held s ≡ Some v → v.page_size ≡ l.page_size
    pub absent : (s : ℕ) → s < 2 ^ 64 → j.sections.held s ≡ None → longest (d (section_key l.index s)) ≡ 0
    pub marked : (s n : ℕ) → IsMarked u.entries s n → IsHeld j.sections s × (n ≤ synced s)
    pub good : (s : ℕ) → IsGood s

  module _ {g : buffer.Ghosts (PageBlob S gs)} {gives : F → Setting} {takes : G → Setting} {told : Type 0} (u : Store Key8 ℕ) (opened : OpenedList) (pos : 1 ≤ l.record_size) (parts : Parts g gives takes told u opened) where
    -- nothing was synced of a section that is not held
    pub unheld : (s : ℕ) → j.sections.held s ≡ None → synced s ≡ 0
    unheld s none = omega (arith, (parts.good s).lengths, ap (λ (o : Option (PageBlob S gs)). fixed.size_held o / l.record_size) none, div_below 0 l.record_size 1 (omega (arith, pos)) (omega (arith, pos)))

    -- a section without values has no records
    pub unvalued : (s : ℕ) → m.held s ≡ None → records l.record_size (fixed.section_bytes j.sections d s) ≡ []
    unvalued s none = follow_none l.place (records l.record_size (fixed.section_bytes j.sections d s))
        (subst (λ (o : Option WriteBlob). Follow l.place 0 (records l.record_size (fixed.section_bytes j.sections d s)) (glob.size_held o)) none (parts.good s).places)

    module _ (t : told) where
      -- a section's values are as long as it counts
      values_size : (s : ℕ) → length (glob.section_bytes m d s) ≡ glob.section_size m s
      values_size s = elim (none_or_value (m.held s)) [
        | inl none ↦ rw none refl
        | inr some ↦ rw some.1 (counted some.0 (d (key_of m s)) ((parts.values.over.disk t).stands s some.0 some.1))
      ]

      -- and no more of them has settled
      pub values_within : (s : ℕ) → (facts_of s).values_settled ≤ length (facts_of s).values
      values_within s = elim (none_or_value (m.held s)) [
        | inl none ↦ rw none (omega arith)
        | inr some ↦ rw some.1 (let stands = (parts.values.over.disk t).stands s some.0 some.1 in
            omega (arith, counted some.0 (d (key_of m s)) stands, settled_within some.0 (d (key_of m s)) stands))
      ]

      -- what is known of the sections is good
      pub good_of : (s : ℕ) → AreGood l (facts_of s)
      good_of s = record {
        end = glob.section_size m s;
        follow = (parts.good s).places;
        room = omega (arith, values_size s);
        sound = (parts.good s).sound;
        index_settled = elim (none_or_value (j.sections.held s)) [
          | inl none ↦ rw none (omega (arith, ap (λ (n : ℕ). n * l.record_size) (unheld s none)))
          | inr some ↦ rw some.1 ((parts.good s).index_settled some.0 some.1)
        ];
        values_settled = (parts.good s).values_settled;
      }

      -- a section's records are as many bytes as it counts
      index_size : (s : ℕ) → length (fixed.section_bytes j.sections d s) ≡ fixed.section_size j.sections s
      index_size s = elim (none_or_value (j.sections.held s)) [
        | inl none ↦ rw none refl
        | inr some ↦ rw some.1 (index_counted (shown some.0) (d (key_of j.sections s)).content)
      ]

      -- all of them whole
      pub whole_of : (s : ℕ) → length (facts_of s).index % l.record_size ≡ 0
      whole_of s = elim (none_or_value (j.sections.held s)) [
        | inl none ↦ rw none (no_rest l.record_size)
        | inr some ↦ rw some.1 (ap (λ (n : ℕ). n % l.record_size) (index_counted (shown some.0) (d (key_of j.sections s)).content) ∙ (parts.journal.disk t).whole s some.0 some.1 (parts.proven s).checked)
      ]

      -- no more were synced than there are
      pub few_of : (s : ℕ) → (facts_of s).synced ≤ length (records l.record_size (facts_of s).index)
      few_of s = omega (arith, (parts.good s).lengths, length-records l.record_size (facts_of s).index, ap (λ (n : ℕ). n / l.record_size) (index_size s))

      -- the values end where the frames do
      pub tight_of : (s : ℕ) → (good_of s).end ≡ length (facts_of s).values
      unfolding good_of
      tight_of s = sym (values_size s)

      -- a held section's index blob lasts
      pub index_lasts : (s : ℕ) (v : PageBlob S gs) → j.sections.held s ≡ Some v → IsLasting l (facts_of s) (d (section_key l.index s))
      index_lasts s v held = subst (λ (p : List ℕ). IsLasting l (facts_of s) (d (section_key p s))) parts.index_here
          (lasting_held s v (d (key_of j.sections s)) held (parts.paged s v held) (journal_lasts l.seal l.record_size j opened d parts.journal t s v held (parts.proven s)))

      pub index_stands : (Gone : Type 0) (s : ℕ) → s < 2 ^ 64 → IndexStands l Gone (facts_of s) (d (section_key l.index s))
      index_stands Gone s lt = elim (none_or_value (j.sections.held s)) [
        | inl none ↦ inr (inr (parts.absent s lt none, unheld s none))
        | inr some ↦ inl (index_lasts s some.0 some.1)
      ]

      -- no crash leaves a record of a section that has no values
      pub no_records_left : (s : ℕ) → s < 2 ^ 64 → m.held s ≡ None → LeavesNoRecords l (d (section_key l.index s))
      no_records_left s lt bare = elim (none_or_value (j.sections.held s)) [
        | inl none ↦ no_bytes l pos (d (section_key l.index s)) (parts.absent s lt none)
        | inr some ↦ lasting_none l (facts_of s) pos (d (section_key l.index s)) (unvalued s bare) (index_lasts s some.0 some.1)
      ]

      -- a held section's values stand
      pub values_last : (s : ℕ) (v : WriteBlob) → m.held s ≡ Some v → ValuesStand l (facts_of s) (d (section_key l.values s))
      values_last s v held = subst (λ (p : List ℕ). ValuesStand l (facts_of s) (d (section_key p s))) parts.values_here
          (values_held s v (d (key_of m s)) held (glob_outlasts m opened d parts.values t s v held))

      pub values_stand : (s : ℕ) → s < 2 ^ 64 → ValuesStand l (facts_of s) (d (section_key l.values s)) ⊎ LeavesNoRecords l (d (section_key l.index s))
      values_stand s lt = elim (none_or_value (m.held s)) [
        | inl none ↦ inr (no_records_left s lt none)
        | inr some ↦ inl (values_last s some.0 some.1)
      ]

      -- the section of each of the map's markers is held, and has that many records synced
      pub are_true : HasNoFloor (contents_of u) → AreTrue l facts_of d (contents_of u)
      are_true no_floor = record {
        sections = λ s n is. elim (none_or_value (j.sections.held s)) [
          | inl none ↦ absurd (cc (subst IsSome none (parts.marked s n is).0))
          | inr some ↦ (index_lasts s some.0 some.1, (parts.marked s n is).1)
        ];
        floor = no_floor;
      }

      -- how the pair's blobs stand between calls
      pub holding_of : HasNoFloor (contents_of u) → (Gone : ℕ → Type 0) → Holding l facts_of Gone (contents_of u) (contents_of u) d
      holding_of no_floor Gone = record {
        sections = λ s lt. record { index = index_stands (Gone s) s lt; values = values_stand s lt };
        marked = parts.is_marked;
        copies = store_keeps l u d parts.store_here parts.store;
        one_marked = are_true no_floor;
        other_marked = are_true no_floor;
      }
