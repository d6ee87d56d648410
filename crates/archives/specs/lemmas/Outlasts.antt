-- What the state of the machine says of the markers: whether a sync has to move one, and whether they have a next version.
use Rattle.std.proofs.Common.{◌≡◌, ◌≢◌, ◌⊎◌, ◌↔◌, inl, inr, refl, sym, ◌∙◌, ap, subst, ℕ, ◌+◌, ◌^◌, ◌<◌, ◌≤◌, List, [], ◌∷◌, ◌++◌, length, Bool, true, false, if◌then◌else◌, ◌==◌, IsTrue, Ok, arith, length-append}
use Rattle.std.proofs.lemmas.Bool.{eq-eqb, ne_eqb}
use Rattle.std.proofs.lemmas.List.{length-map}
use Rattle.blob_device.specs.Disk.{Blob, Disk, reads}
use Rattle.blob_device.specs.Opened.{OpenedList}
use Rattle.value_codec.specs.declared.key.Key8.{Key8}
use Rattle.meta_store.specs.Blobs.{blob_of, bytes_of, read_bytes}
use Rattle.meta_store.specs.Copies.{ReadsAs}
use Rattle.meta_store.specs.Pairs.{ReadsPair}
use Rattle.meta_store.specs.Store.{Stands, Store, chosen_by, contents_of}
use Rattle.meta_store.specs.declared.error.Side.TheVariants.{Left, Right}
use Rattle.meta_store.specs.declared.pair.Chosen.{Chosen}
use Rattle.archives.specs.lemmas.init.Records.{one_chosen, one_markers}
use Rattle.archives.specs.lemmas.put.Rows.{other_or_same}
use Rattle.archives.specs.lemmas.put.Stands.{put_by}
use Rattle.archives.specs.lemmas.sync.Lemmas.{list_counted}
use Rattle.meta_store.specs.lemmas.Uses.{IsReadable}
use Rattle.sealed_pages.specs.declared.page_blob.PageBlob.{PageBlob}
use Rattle.paired.specs.Kept.{Layout, Markers, marker_of}
use Rattle.paired.specs.Crashes.{HoldMarkers}
use Rattle.paired.specs.Opening.{as_read}
use Rattle.paired.specs.Pair.{length_of, list_of, synced_length}
use Rattle.paired.specs.Pair as pair
use Rattle.archives.specs.Archives.{Archive, Buffers, IsArchive, filing_of, state_of}
use Rattle.archives.specs.Filing.{filed}
use Rattle.archives.specs.Machine.{State, appended, section_of}
use Rattle.archives.specs.Opening.{HasNoVersion}
use Rattle.archives.specs.Putting.{IsMovingAfter, IsWrittenAfter, Times, after_putting, is_skipped}
use Rattle.archives.specs.Syncing.{IsMoving, IsMovingBy}

module _ (l : Layout) (u : Store Key8 ℕ) (d : Disk) (here : u.partition ≡ l.metadata) (marked : IsTrue l.marked) (stands : Stands l.markers u (contents_of u) d) where
  reads_so : (bytes : Blob → List ℕ) → ((d (blob_of u.partition Left)).content ≡ bytes (d (blob_of u.partition Left))) → ((d (blob_of u.partition Right)).content ≡ bytes (d (blob_of u.partition Right)))
      → ReadsPair l.markers (bytes (d (blob_of l.metadata Left))) (bytes (d (blob_of l.metadata Right))) (Ok (chosen_by u (contents_of u)))
  reads_so bytes left right = subst (λ (p : List ℕ). ReadsPair l.markers (bytes (d (blob_of p Left))) (bytes (d (blob_of p Right))) (Ok (chosen_by u (contents_of u)))) here (record {
    left_text = stands.pair.left_text;
    right_text = stands.pair.right_text;
    left_reads = subst (λ (c : List ℕ). ReadsAs l.markers c stands.pair.left_text) left stands.pair.left_reads;
    right_reads = subst (λ (c : List ℕ). ReadsAs l.markers c stands.pair.right_text) right stands.pair.right_reads;
    is = stands.pair.is;
  })

  -- the disk holds the markers of the store
  pub markers_held : HoldMarkers l (as_read d) (contents_of u)
  markers_held = record {
    copies = λ is. record {
      chosen = chosen_by u (contents_of u);
      reads = reads_so (λ b. bytes_of (reads b)) (sym (ap (λ (b : Blob). bytes_of (reads b)) stands.left)) (sym (ap (λ (b : Blob). bytes_of (reads b)) stands.right));
      map = refl;
    };
    none = λ not. absurd (cc (marked, not));
  }

  module _ (readable : IsReadable l.markers) where
    -- where those on the disk have no next version, the store's have none
    pub no_next_version : HasNoVersion l d → 2 ^ 64 ≤ u.version + 1
    no_next_version (chosen, pair, over) =
        let same = one_chosen l.markers readable (read_bytes (d (blob_of l.metadata Left))) (read_bytes (d (blob_of l.metadata Right))) chosen (chosen_by u (contents_of u)) pair
        (reads_so read_bytes (sym (ap read_bytes stands.left)) (sym (ap read_bytes stands.right))) in
        omega (arith, over, ap (λ (c : Chosen Key8 ℕ). c.version) same)

    pub markers_are : (markers : Markers) → HoldMarkers l (as_read d) markers → markers ≡ contents_of u
    markers_are markers held = one_markers l readable (as_read d) markers (contents_of u) held markers_held

true_or_not : (b : Bool) → IsTrue b ⊎ (b ≡ false)
true_or_not true = inl refl
true_or_not false = inr refl

-- A section has to be moved just where nothing of it is unsynced, and its marker is another number.
module _ {F S : Type 0} {gs : _} (a : Archive F (PageBlob S gs)) {bs : Buffers F (PageBlob S gs)} {told : Type 0} (opened : OpenedList) (d : Disk) (archive : IsArchive a bs told opened d) (t : told)
    (here : a.pair.store.partition ≡ a.pair.layout.metadata) (marked : IsTrue a.pair.layout.marked) (readable : IsReadable a.pair.layout.markers) where
  counted : (s : ℕ) → length ((state_of a d).lists s) ≡ length_of a.pair s
  counted s = length-map (list_of a.pair d s) (filed (filing_of a)) ∙ list_counted a.pair d s

  held : HoldMarkers a.pair.layout (as_read d) (contents_of a.pair.store)
  held = markers_held a.pair.layout a.pair.store d here marked (archive.pair.disk t).markers

  -- By which sections count as written, and how many records each has.
  module _ (IsCounted : ℕ → Type 0) (lengths : ℕ → ℕ) (rests : (s : ℕ) → (IsCounted s → ⊥) → synced_length a.pair s ≡ lengths s) (grows : (s : ℕ) → IsCounted s → synced_length a.pair s < lengths s) where
    moves_so : ((s : ℕ) × pair.IsMoving a.pair IsCounted IsCounted s) → IsMovingBy (filing_of a) d lengths (synced_length a.pair)
    moves_so (s, (below, not, how)) = (
      contents_of a.pair.store,
      held,
      (
        s,
        below,
        rests s not,
        elim how [
          | inl named ↦ absurd (not named.0)
          | inr trails ↦ λ same. trails.1 (sym same)
        ],
      ),
    )

    said_so : IsMovingBy (filing_of a) d lengths (synced_length a.pair) → (s : ℕ) × pair.IsMoving a.pair IsCounted IsCounted s
    said_so (markers, holds, (s, below, all, other)) =
        let same : markers ≡ contents_of a.pair.store = markers_are a.pair.layout a.pair.store d here marked (archive.pair.disk t).markers readable markers holds in
        let not : IsCounted s → ⊥ = λ is. omega (arith, grows s is, all) in
        (s, (below, not, inr (not, λ is. other (ap (λ (m : Markers). marker_of m.entries s) same ∙ sym is))))

  still_synced : (s : ℕ) → (IsTrue (a.is_written s) → ⊥) → synced_length a.pair s ≡ length_of a.pair s
  still_synced s not = elim (true_or_not (a.is_written s)) [
    | inl is ↦ absurd (not is)
    | inr unwritten ↦ archive.unwritten s unwritten
  ]

  pub moving_said : IsMoving a ↔ IsMovingBy (filing_of a) d (λ s. length ((state_of a d).lists s)) (synced_length a.pair)
  moving_said =
      let rests : (s : ℕ) → (IsTrue (a.is_written s) → ⊥) → synced_length a.pair s ≡ length ((state_of a d).lists s) = λ s not. still_synced s not ∙ sym (counted s) in
      let grows : (s : ℕ) → IsTrue (a.is_written s) → synced_length a.pair s < length ((state_of a d).lists s) = λ s is. omega (arith, archive.unsynced t s is, counted s) in
      (moves_so (λ s. IsTrue (a.is_written s)) (λ s. length ((state_of a d).lists s)) rests grows, said_so (λ s. IsTrue (a.is_written s)) (λ s. length ((state_of a d).lists s)) rests grows)

  -- ---- once a put ended

  module _ (times : Times) (index : ℕ) (key value : List ℕ) where
    abbrev skip : Bool
    skip = is_skipped a index times

    abbrev after : State (List ℕ)
    after = after_putting times a.items index key value (state_of a d)

    -- the put appends where it is not skipped
    after_is : after ≡ (if skip then state_of a d else appended a.items index key value (state_of a d))
    after_is = put_by a d index key value (archive.listed t) skip times refl

    synced_after : (b : Bool) → (if b then state_of a d else appended a.items index key value (state_of a d)).synced ≡ synced_length a.pair
    synced_after true = refl
    synced_after false = refl

    abbrev choice : Bool → State (List ℕ)
    choice b = if b then state_of a d else appended a.items index key value (state_of a d)

    -- the section of the record has one more, and the others as many as before
    appended_here : (s : ℕ) → s ≡ section_of a.items index → length ((choice false).lists s) ≡ length_of a.pair s + 1
    appended_here s same =
        let is : (s == section_of a.items index) ≡ true = eq-eqb s (section_of a.items index) same in
        let old = (state_of a d).lists s in
        ap (λ (b : Bool). length (if b then old ++ record { index = index; key = key; value = value } ∷ [] else old)) is ∙ length-append old (record { index = index; key = key; value = value } ∷ []) ∙ ap (λ (n : ℕ). n + 1) (counted s)

    appended_other : (s : ℕ) → s ≢ section_of a.items index → length ((choice false).lists s) ≡ length_of a.pair s
    appended_other s other =
        let is : (s == section_of a.items index) ≡ false = ne_eqb s (section_of a.items index) other in
        let old = (state_of a d).lists s in
        ap (λ (b : Bool). length (if b then old ++ record { index = index; key = key; value = value } ∷ [] else old)) is ∙ counted s

    grown : (s : ℕ) (b : Bool) → skip ≡ b → IsWrittenAfter a index skip s → synced_length a.pair s < length ((choice skip).lists s)
    grown s b is written = subst (λ (c : Bool). synced_length a.pair s < length ((choice c).lists s)) (sym is) (go b is written)
      where
        go : (c : Bool) → skip ≡ c → IsWrittenAfter a index skip s → synced_length a.pair s < length ((choice c).lists s)
        go true taken (inl was) = omega (arith, archive.unsynced t s was, counted s)
        go true taken (inr new) = (let free = new.0 in absurd (cc (taken, free)))
        go false free written = elim (other_or_same (section_of a.items index) s) [
          | inl same ↦ omega (arith, appended_here s same, archive.pair.settled.lengths s)
          | inr other ↦ elim written [
            | inl was ↦ omega (arith, archive.unsynced t s was, appended_other s other)
            | inr new ↦ absurd (other new.1)
          ]
        ]

    stayed : (s : ℕ) (b : Bool) → skip ≡ b → (IsWrittenAfter a index skip s → ⊥) → synced_length a.pair s ≡ length ((choice skip).lists s)
    stayed s b is not = subst (λ (c : Bool). synced_length a.pair s ≡ length ((choice c).lists s)) (sym is) (go b is)
      where
        go : (c : Bool) → skip ≡ c → synced_length a.pair s ≡ length ((choice c).lists s)
        go true taken = still_synced s (λ was. not (inl was)) ∙ sym (counted s)
        go false free = elim (other_or_same (section_of a.items index) s) [
          | inl same ↦ absurd (not (inr (free, same)))
          | inr other ↦ still_synced s (λ was. not (inl was)) ∙ sym (appended_other s other)
        ]

    -- how many records a section then has
    long_after : (s : ℕ) → IsWrittenAfter a index skip s → synced_length a.pair s < length (after.lists s)
    long_after s written = omega (arith, grown s skip refl written, ap (λ (st : State (List ℕ)). length (st.lists s)) after_is)

    same_after : (s : ℕ) → (IsWrittenAfter a index skip s → ⊥) → synced_length a.pair s ≡ length (after.lists s)
    same_after s not = stayed s skip refl not ∙ sym (ap (λ (st : State (List ℕ)). length (st.lists s)) after_is)

    pub moving_after_said : IsMovingAfter a index skip ↔ IsMovingBy (filing_of a) d (λ s. length (after.lists s)) after.synced
    moving_after_said =
        let synced : after.synced ≡ synced_length a.pair = ap (λ (st : State (List ℕ)). st.synced) after_is ∙ synced_after skip in
        subst (λ (n : ℕ → ℕ). IsMovingAfter a index skip ↔ IsMovingBy (filing_of a) d (λ s. length (after.lists s)) n) (sym synced)
        (moves_so (IsWrittenAfter a index skip) (λ s. length (after.lists s)) same_after long_after, said_so (IsWrittenAfter a index skip) (λ s. length (after.lists s)) same_after long_after)
