-- A pair of which all has settled, on its disk: what its blobs read as, and that a disk so has no chance seal.
use Rattle.std.proofs.Common.{◌≡◌, inl, inr, ℕ, ◌^◌, ◌<◌, ◌≤◌, Bool, true, false, cond, List, [], ◌∷◌, IsTrue, Option, None, Some, IsSome, unwrap_or, refl, sym, ◌∙◌, ap, subst, arith}
use Rattle.std.specs.List.{AllByRecursion}
use Rattle.std.proofs.lemmas.List.{nil_from_length}
use Rattle.std.proofs.lemmas.Nat.{div_below}
use Rattle.blob_device.specs.Disk.{Key, Blob, Disk, MayLeave, IsSettled, past, reads}
use Rattle.blob_device.specs.Opened.{OpenedList}
use Rattle.sealed_pages.specs.Buffer.{bytes_of, size_of}
use Rattle.sealed_pages.specs.ChanceSeal as pages
use Rattle.sealed_pages.specs.Cutting.{StandsSettled, Settles}
use Rattle.sealed_pages.specs.SealedPrefix.{sealed_prefix}
use Rattle.sealed_pages.specs.Shown.{shown}
use Rattle.sealed_pages.specs.declared.page_blob.PageBlob.{PageBlob}
use Rattle.sealed_pages.specs.declared.write_blob.WriteBlob.{WriteBlob}
use Rattle.paired.specs.lemmas.Glob.{buffers, idle_whole}
use Rattle.paired.specs.lemmas.Kept.{sound_parts}
use Rattle.paired.specs.lemmas.opening.Laws.{left_as_read}
use Rattle.paired.specs.lemmas.pair.Facts.{not_there}
use Rattle.sealed_pages.specs.lemmas.cutting.Truncating.{all_flushed, settles_of}
use Rattle.sealed_pages.specs.lemmas.looking.Looking.{slot_short}
use Rattle.section_manager.specs.lemmas.buffers.NothingSealed.{nothing_sealed}
use Rattle.segments.specs.lemmas.adding.Write.{ArePages}
use Rattle.section_manager.specs.declared.buffer.SectionBuffer as buffer
use Rattle.section_manager.specs.declared.unsealed.WriteFactory.{WriteFactory}
use Rattle.section_manager.specs.SealedLaws.{no_chance}
use Rattle.section_manager.specs.SealedLaws as sealed_laws
use Rattle.section_manager.specs.Sections.{Sections, section_key, key_of, IsHeld, IsOver}
use Rattle.section_manager.specs.Setting.{Setting}
use Rattle.section_manager.specs.unsealed.Buffer.{count_of, is_unsettled}
use Rattle.section_manager.specs.unsealed.Laws.{rested, found_again}
use Rattle.segments.specs.FixedLists.{Lists, IsJournal, IsProven}
use Rattle.segments.specs.FixedLists as fixed
use Rattle.std.proofs.lemmas.List.Elements.{Contains-push}
use Rattle.value_codec.specs.declared.key.Key8.{Key8}
use Rattle.meta_store.specs.declared.error.Side.{Side}
use Rattle.meta_store.specs.declared.error.Side.TheVariants.{Left, Right}
use Rattle.meta_store.specs.Blobs.{blob_of}
use Rattle.meta_store.specs.Crashes as metadata
use Rattle.meta_store.specs.Pairs.{empty_map}
use Rattle.meta_store.specs.Store.{Store, Stands, contents_of}
use Rattle.paired.specs.Crashes.{NoChanceSeal, WasThere}
use Rattle.paired.specs.glob.Sections.{IsGlob, IsAllSettled}
use Rattle.paired.specs.glob.Sections as glob
use Rattle.paired.specs.Kept.{Layout, content_at, stored_records, is_sound_in}
use Rattle.paired.specs.Opening.{as_read}
use Rattle.paired.specs.Records.{records, is_sound}
use Rattle.paired.specs.lemmas.Records.{length-records}
use Rattle.blob_device.proofs.general.Options.{none_or_value, some_same, value_of}

pub stands_is_settled : (b : Blob) → StandsSettled b → IsSettled b
stands_is_settled b is = subst IsSettled (sym is) (record { sure = refl; since = refl; loose = refl; content = refl })

-- each crash leaves a settled blob as it reads
pub rest_left : (b : Blob) → StandsSettled b → (left : Option (List ℕ)) → MayLeave b left → left ≡ reads b
rest_left b is left may = left_as_read b (stands_is_settled b is) left may

-- what holds of a content that is all of its past holds of a settled blob
pub of_rest : (P : List (List ℕ) → List ℕ → Type 0) (b : Blob) → StandsSettled b → ((c : List ℕ) → P (c ∷ []) c) → P (past b) (unwrap_or (reads b) [])
of_rest P b is has = subst (λ (x : Blob). P (past x) (unwrap_or (reads x) [])) (sym is) (has b.content)

pub rest_there : (b : Blob) → StandsSettled b → b.there ≡ true
rest_there b is = ap (λ (x : Blob). x.there) is

-- what a blob that is there reads as, and one that is not
pub reads_there : (b : Blob) → b.there ≡ true → reads b ≡ Some b.content
reads_there b is = ap (λ (t : Bool). cond t (Some b.content) None) is

pub reads_absent : (b : Blob) → b.there ≡ false → reads b ≡ None
reads_absent b is = ap (λ (t : Bool). cond t (Some b.content) None) is

-- no slot of no bytes holds
pub no_slots : (seal : List ℕ → ℕ) (P : ℕ) (contents : List (List ℕ)) → pages.NoChanceSeal seal P contents []
no_slots seal P contents k second some = absurd (omega (arith, some, slot_short seal P [] k second (omega arith)))

-- no range of no bytes is sound
pub none_sound : (seal : List ℕ → ℕ) (at n : ℕ) → IsTrue (is_sound seal [] (at, n)) → ⊥
none_sound seal at n is = (let parts = sound_parts seal [] at n is in omega (arith, parts.0, parts.1))

-- no bytes have no records
pub none_of : (size : ℕ) → 1 ≤ size → records size [] ≡ []
none_of size pos = nil_from_length (records size []) (omega (arith, length-records size [], div_below 0 size 1 (omega (arith, pos)) (omega (arith, pos))))

each_of : {X : Type 0} (P : X → Type 0) → ((x : X) → P x) → (xs : List X) → AllByRecursion P xs
each_of P has [] = tt
each_of P has (x ∷ xs) = (has x, each_of P has xs)

was_there : (c : List ℕ) (at : ℕ × ℕ) → WasThere (c ∷ []) c at
was_there c (at, n) = inl refl

-- Index and values are those of their partitions, and all that is held has settled. Nothing is said of a replay that is owed, nor of a section whose
-- records an error took.
pub record Rests {F S : Type 0} {gs : _} (g : buffer.Ghosts (PageBlob S gs)) (gives : F → Setting) (takes : WriteFactory → Setting) (told : Type 0) (l : Layout)
    (i : Sections F (PageBlob S gs)) (m : Sections WriteFactory WriteBlob) (o : OpenedList) (d : Disk) : Type 0 where
  pub pages : ArePages g l.seal
  pub index : IsOver g gives told i o d
  pub index_settled : (s : ℕ) (v : PageBlob S gs) → i.held s ≡ Some v → g.unsettled v ≡ false
  pub index_here : i.partition ≡ l.index
  pub page_size : (gives i.factory).page_size ≡ l.page_size
  pub some : 1 ≤ l.record_size
  pub values : IsGlob buffers takes told m o d
  pub values_settled : (s : ℕ) → IsHeld m s → IsAllSettled m s
  pub values_known : (s : ℕ) → m.unopened s ≡ None
  pub values_here : m.partition ≡ l.values

-- The markers are synced, where the pair has them.
pub record MarksRest (told : Type 0) (l : Layout) (u : Store Key8 ℕ) (d : Disk) : Type 0 where
  pub stands : told → IsTrue l.marked → Stands l.markers u (contents_of u) d
  pub here : IsTrue l.marked → u.partition ≡ l.metadata
  pub none : l.marked ≡ false → contents_of u ≡ empty_map

-- Both, where every section is known. Nothing is said of a replay that is owed.
pub record Known {F S : Type 0} {gs : _} (g : buffer.Ghosts (PageBlob S gs)) (gives : F → Setting) (takes : WriteFactory → Setting) (told : Type 0) (l : Layout)
    (i : Sections F (PageBlob S gs)) (m : Sections WriteFactory WriteBlob) (u : Store Key8 ℕ) (o : OpenedList) (d : Disk) : Type 0 where
  pub parts : Rests g gives takes told l i m o d
  pub index_known : (s : ℕ) → i.unopened s ≡ None
  pub marks : MarksRest told l u d

-- And where no replay is owed: each section is proven.
pub record Resting {F S : Type 0} {gs : _} (g : buffer.Ghosts (PageBlob S gs)) (gives : F → Setting) (takes : WriteFactory → Setting) (told : Type 0) (l : Layout)
    (j : Lists F (PageBlob S gs)) (m : Sections WriteFactory WriteBlob) (u : Store Key8 ℕ) (o : OpenedList) (d : Disk) : Type 0 where
  pub parts : Rests g gives takes told l j.sections m o d
  pub journal : IsJournal g gives l.seal l.record_size told j o d
  pub proven : (s : ℕ) → IsProven j s
  pub index_known : (s : ℕ) → j.sections.unopened s ≡ None
  pub marks : MarksRest told l u d

pub known_of : {F S : Type 0} {gs : _} {g : buffer.Ghosts (PageBlob S gs)} {gives : F → Setting} {takes : WriteFactory → Setting} {told : Type 0} {l : Layout}
    {j : Lists F (PageBlob S gs)} {m : Sections WriteFactory WriteBlob} {u : Store Key8 ℕ} {o : OpenedList} {d : Disk} → Resting g gives takes told l j m u o d → Known g gives takes told l j.sections m u o d
known_of rests = record { parts = rests.parts; index_known = rests.index_known; marks = rests.marks }

module _ {F S : Type 0} {gs : _} {g : buffer.Ghosts (PageBlob S gs)} {gives : F → Setting} {takes : WriteFactory → Setting} {told : Type 0} {l : Layout}
    {i : Sections F (PageBlob S gs)} {m : Sections WriteFactory WriteBlob} {o : OpenedList} {d : Disk} (rests : Rests g gives takes told l i m o d) where
  pub index_number : (s : ℕ) → IsHeld i s → s < 2 ^ 64
  index_number s held = rests.index.opened_list.number s (inl held)

  pub values_number : (s : ℕ) → IsHeld m s → s < 2 ^ 64
  values_number s held = rests.values.over.opened_list.number s (inl held)

  pub index_key : (s : ℕ) → key_of i s ≡ section_key l.index s
  index_key s = ap (λ (x : List ℕ). section_key x s) rests.index_here

  pub values_key : (s : ℕ) → key_of m s ≡ section_key l.values s
  values_key s = ap (λ (x : List ℕ). section_key x s) rests.values_here

  pub paged : (s : ℕ) (v : PageBlob S gs) → i.held s ≡ Some v → v.page_size ≡ l.page_size
  paged s v held = sym (rests.pages.page_size v) ∙ ap (λ (x : Setting). x.page_size) (rests.index.opened_list.setting s v held) ∙ rests.page_size

  pub all_of : (s : ℕ) (v : PageBlob S gs) → i.held s ≡ Some v → v.settled ≡ size_of (shown v)
  all_of s v held = sealed_laws.all_settled (shown v) (sym (rests.pages.unsettled v) ∙ rests.index_settled s v held)

  pub value_idle : (s : ℕ) (v : WriteBlob) → m.held s ≡ Some v → (v.settled ≡ count_of v) × (is_unsettled v ≡ false)
  value_idle s v held =
      let w = value_of (m.held s) (λ x. (x.settled ≡ count_of x) × (is_unsettled x ≡ false)) (rests.values_settled s (subst IsSome (sym held) refl)) in
      subst (λ (x : WriteBlob). (x.settled ≡ count_of x) × (is_unsettled x ≡ false)) (some_same w.value v (sym w.is ∙ held)) w.has

  module _ (t : told) where
    -- a held section of records is settled
    pub index_rest : (s : ℕ) (v : PageBlob S gs) → i.held s ≡ Some v → StandsSettled (d (section_key l.index s))
    index_rest s v held = subst (λ (k : Key). StandsSettled (d k)) (index_key s)
        (sealed_laws.rested l.seal (shown v) (d (key_of i s)) (rests.pages.stands v (d (key_of i s)) ((rests.index.disk t).stands s v held)) (sym (rests.pages.unsettled v) ∙ rests.index_settled s v held))

    pub absent_of : ((s : ℕ) → i.unopened s ≡ None) → (s : ℕ) → s < 2 ^ 64 → i.held s ≡ None → (d (section_key l.index s)).there ≡ false
    absent_of known s small none = subst (λ (k : Key). (d k).there ≡ false) (index_key s) (not_there i o d rests.index t s small none (known s))

    -- a held section of values has settled with its bytes
    pub values_rest : (s : ℕ) (v : WriteBlob) → m.held s ≡ Some v → StandsSettled (d (section_key l.values s)) × ((d (section_key l.values s)).content ≡ glob.section_bytes m d s)
    values_rest s v held =
        let stands = (rests.values.over.disk t).stands s v held in
        let idle : is_unsettled v ≡ false = (value_idle s v held).1 in
        subst (λ (k : Key). StandsSettled (d k) × ((d k).content ≡ glob.section_bytes m d s)) (values_key s) (
          rested v (d (key_of m s)) stands idle,
          found_again v (d (key_of m s)) stands (idle_whole v (d (key_of m s)) stands idle) idle ∙ sym (ap (λ (x : Option WriteBlob). glob.bytes_held x (d (key_of m s)).content) held),
        )

    pub values_absent : (s : ℕ) → s < 2 ^ 64 → m.held s ≡ None → (d (section_key l.values s)).there ≡ false
    values_absent s small none = subst (λ (k : Key). (d k).there ≡ false) (values_key s) (not_there m o d rests.values.over t s small none (rests.values_known s))

    -- the values read as the glob's bytes
    pub values_at : (s : ℕ) → s < 2 ^ 64 → content_at (as_read d) l.values s ≡ glob.section_bytes m d s
    values_at s small = elim (none_or_value (m.held s)) [
      | inl none ↦ ap (λ (x : Option (List ℕ)). unwrap_or x []) (reads_absent (d (section_key l.values s)) (values_absent s small none))
          ∙ sym (ap (λ (x : Option WriteBlob). glob.bytes_held x (d (key_of m s)).content) none)
      | inr some ↦
          let rest = values_rest s some.0 some.1 in
          ap (λ (x : Option (List ℕ)). unwrap_or x []) (reads_there (d (section_key l.values s)) (rest_there (d (section_key l.values s)) rest.0)) ∙ rest.1
    ]

    slots_at : ((s : ℕ) → i.unopened s ≡ None) → (s : ℕ) → s < 2 ^ 64 → pages.NoChanceSeal l.seal l.page_size (past (d (section_key l.index s))) (content_at (as_read d) l.index s)
    slots_at known s small = elim (none_or_value (i.held s)) [
      | inl none ↦ subst (λ (x : Option (List ℕ)). pages.NoChanceSeal l.seal l.page_size (past (d (section_key l.index s))) (unwrap_or x [])) (sym (reads_absent (d (section_key l.index s)) (absent_of known s small none)))
          (no_slots l.seal l.page_size (past (d (section_key l.index s))))
      | inr some ↦ of_rest (pages.NoChanceSeal l.seal l.page_size) (d (section_key l.index s)) (index_rest s some.0 some.1) (λ c. no_chance l.seal l.page_size (c ∷ []) c (Contains-push [] c))
    ]

    pub frame_at : (s : ℕ) → s < 2 ^ 64 → (r : List ℕ) → IsTrue (is_sound_in l (as_read d) s r) → WasThere (past (d (section_key l.values s))) (content_at (as_read d) l.values s) (l.place r)
    frame_at s small r sound = elim (none_or_value (m.held s)) [
      | inl none ↦ absurd (none_sound l.seal (l.place r).0 (l.place r).1
          (subst (λ (x : Option (List ℕ)). IsTrue (is_sound l.seal (unwrap_or x []) (l.place r))) (reads_absent (d (section_key l.values s)) (values_absent s small none)) sound))
      | inr some ↦ of_rest (λ contents c. WasThere contents c (l.place r)) (d (section_key l.values s)) (values_rest s some.0 some.1).0 (λ c. was_there c (l.place r))
    ]

    -- no seal of records and values holds by chance
    pub frames_at : (s : ℕ) → s < 2 ^ 64 → (rs : List (List ℕ)) → AllByRecursion (λ r. IsTrue (is_sound_in l (as_read d) s r) → WasThere (past (d (section_key l.values s))) (content_at (as_read d) l.values s) (l.place r)) rs
    frames_at s small rs = each_of (λ r. IsTrue (is_sound_in l (as_read d) s r) → WasThere (past (d (section_key l.values s))) (content_at (as_read d) l.values s) (l.place r)) (frame_at s small) rs

    pub parts_no_chance : ((s : ℕ) → i.unopened s ≡ None) → (IsTrue l.marked → (side : Side) → StandsSettled (d (blob_of l.metadata side))) → NoChanceSeal l d (as_read d)
    parts_no_chance known copies = record {
      slots = slots_at known;
      frames = λ s small. frames_at s small (stored_records l (as_read d) s);
      copies = λ is side. of_rest (metadata.NoChanceSeal l.markers.seal) (d (blob_of l.metadata side)) (copies is side) (λ c version form body sealed. inl refl);
    }

pub copy_rest : {told : Type 0} {l : Layout} {u : Store Key8 ℕ} {d : Disk} (marks : MarksRest told l u d) (t : told) (is : IsTrue l.marked) (side : Side) → StandsSettled (d (blob_of l.metadata side))
copy_rest {u = u} {d = d} marks t is side = subst (λ (x : List ℕ). StandsSettled (d (blob_of x side))) (marks.here is) (go side)
  where
    go : (x : Side) → StandsSettled (d (blob_of u.partition x))
    go Left = (marks.stands t is).left
    go Right = (marks.stands t is).right

-- no seal that is read holds by chance
pub known_no_chance : {F S : Type 0} {gs : _} {g : buffer.Ghosts (PageBlob S gs)} {gives : F → Setting} {takes : WriteFactory → Setting} {told : Type 0} {l : Layout}
    {i : Sections F (PageBlob S gs)} {m : Sections WriteFactory WriteBlob} {u : Store Key8 ℕ} {o : OpenedList} {d : Disk} → Known g gives takes told l i m u o d → told → NoChanceSeal l d (as_read d)
known_no_chance known t = parts_no_chance known.parts t known.index_known (copy_rest known.marks t)

module _ {F S : Type 0} {gs : _} {g : buffer.Ghosts (PageBlob S gs)} {gives : F → Setting} {takes : WriteFactory → Setting} {told : Type 0} {l : Layout}
    {j : Lists F (PageBlob S gs)} {m : Sections WriteFactory WriteBlob} {u : Store Key8 ℕ} {o : OpenedList} {d : Disk} (rests : Resting g gives takes told l j m u o d) where
  module _ (t : told) where
    pub index_absent : (s : ℕ) → s < 2 ^ 64 → j.sections.held s ≡ None → (d (section_key l.index s)).there ≡ false
    index_absent = absent_of rests.parts t rests.index_known

    -- a held section of records has settled with its bytes
    pub index_settles : (s : ℕ) (v : PageBlob S gs) → j.sections.held s ≡ Some v → Settles l.seal l.page_size (fixed.section_bytes j.sections d s) (d (section_key l.index s))
    index_settles s v held =
        subst (λ (k : Key). Settles l.seal l.page_size (fixed.section_bytes j.sections d s) (d k)) (index_key rests.parts s)
        (subst (λ (x : Option (PageBlob S gs)). Settles l.seal l.page_size (fixed.bytes_held x (d (key_of j.sections s)).content) (d (key_of j.sections s))) (sym held)
        (settles_of l.seal (shown v) l.page_size (bytes_of (shown v) (d (key_of j.sections s)).content) (d (key_of j.sections s)) (paged rests.parts s v held) v.fit.begun
        (all_flushed (shown v) v.fit.within v.order (all_of rests.parts s v held)) (all_of rests.parts s v held) ((rests.journal.disk t).sealed s v held (rests.proven s)).holds))

    -- the records that are stored are those that the journal has
    pub stored_at : (s : ℕ) → s < 2 ^ 64 → stored_records l (as_read d) s ≡ records l.record_size (fixed.section_bytes j.sections d s)
    stored_at s small = elim (none_or_value (j.sections.held s)) [
      | inl none ↦ ap (λ (x : Option (List ℕ)). records l.record_size (sealed_prefix l.seal l.page_size (unwrap_or x []))) (reads_absent (d (section_key l.index s)) (index_absent s small none))
          ∙ ap (records l.record_size) (nothing_sealed l.seal l.page_size) ∙ sym (ap (λ (x : Option (PageBlob S gs)). records l.record_size (fixed.bytes_held x (d (key_of j.sections s)).content)) none)
      | inr some ↦
          let settles = index_settles s some.0 some.1 in
          ap (λ (x : Option (List ℕ)). records l.record_size (sealed_prefix l.seal l.page_size (unwrap_or x []))) (reads_there (d (section_key l.index s)) (rest_there (d (section_key l.index s)) settles.rest))
          ∙ ap (records l.record_size) settles.prefix
    ]

    pub none_stored : (s : ℕ) → j.sections.held s ≡ None → records l.record_size (fixed.section_bytes j.sections d s) ≡ []
    none_stored s none = ap (λ (x : Option (PageBlob S gs)). records l.record_size (fixed.bytes_held x (d (key_of j.sections s)).content)) none ∙ none_of l.record_size rests.parts.some

    pub rests_no_chance : NoChanceSeal l d (as_read d)
    rests_no_chance = known_no_chance (known_of rests) t
