-- What a put asks of an archive, said of the state of the machine.
use Rattle.std.proofs.Common.{◌≡◌, ◌≢◌, ◌↔◌, inl, inr, refl, sym, ◌∙◌, ap, subst, ℕ, ◌+◌, ◌-◌, ◌*◌, ◌/◌, ◌%◌, ◌<◌, ◌≤◌, ◌^◌, List, [], ◌∷◌, length, map, Option, None, Some, Ok, IsTrue, IsSomeAnd, arith}
use Rattle.std.proofs.Math.Nat.{div-add-mod, div-le_self}
use Rattle.std.specs.List.{AllByRecursion, fold, sum_by}
use Rattle.std.proofs.lemmas.List.{length-map, nil_from_length}
use Rattle.std.proofs.lemmas.Nat.{mul-le}
use Rattle.blob_device.specs.Disk.{Disk}
use Rattle.blob_device.specs.Opened.{OpenedList}
use Rattle.value_codec.specs.declared.key.Key8.{Key8}
use Rattle.sealed_pages.specs.Buffer.{extent, size_of}
use Rattle.sealed_pages.specs.Shown as page_blob
use Rattle.sealed_pages.specs.View.{page_at}
use Rattle.sealed_pages.specs.declared.page_blob.PageBlob.{PageBlob}
use Rattle.sealed_pages.specs.declared.write_blob.WriteBlob.{WriteBlob}
use Rattle.section_manager.specs.unsealed.Buffer.{count_of}
use Rattle.segments.specs.FixedLists as fixed
use Rattle.meta_store.specs.Blobs.{blob_of, read_bytes}
use Rattle.meta_store.specs.Copies.{ReadsAs}
use Rattle.meta_store.specs.Pairs.{ReadsPair}
use Rattle.meta_store.specs.Store.{Stands, Store, chosen_by, contents_of}
use Rattle.meta_store.specs.declared.error.Side.TheVariants.{Left, Right}
use Rattle.paired.specs.Frames.{bytes_at, frame}
use Rattle.paired.specs.glob.Sections as glob
use Rattle.paired.specs.Kept.{Layout}
use Rattle.paired.specs.Pair.{list_of, records_of}
use Rattle.paired.specs.Places.{Follow}
use Rattle.paired.specs.Records as stored
use Rattle.paired.specs.Records.{is_sound}
use Rattle.archives.specs.lemmas.put.Lemmas.{whole_bytes}
use Rattle.paired.specs.lemmas.Frame.{length-bytes_at, length-frame}
use Rattle.paired.specs.lemmas.Kept.{sound_parts}
use Rattle.paired.specs.lemmas.pair.Reads.{index_size}
use Rattle.paired.specs.lemmas.Records.{length-records}
use Rattle.archives.specs.Archives.{Archive, IsArchive, IsSoundArchive, filing_of, state_of}
use Rattle.archives.specs.Filing.{Filing, filed}
use Rattle.archives.specs.Machine.{section_of}
use Rattle.archives.specs.Opening.{HasNoVersion}
use Rattle.archives.specs.Putting.{IsAllowed, IsPassed, WouldPass}
use Rattle.archives.specs.Rows.{HasRoom}
use Rattle.archives.proofs.ArchiveStands.{length_rows}
use Rattle.blob_device.proofs.general.Lists.{all_by}
use Rattle.blob_device.proofs.general.Options.{has_value, none_or_value}

-- ---- room

none_alike : {X Y : Type 0} (xs : List X) (ys : List Y) → length xs ≡ length ys → xs ≡ [] → ys ≡ []
none_alike xs ys same none = nil_from_length ys (omega (arith, same, ap length none))

-- lists that are as long have room where the others have it
pub room_alike : {X Y : Type 0} (sections per_section : ℕ) (v : ℕ → List X) (w : ℕ → List Y) → ((s : ℕ) → length (v s) ≡ length (w s)) → (s : ℕ) → HasRoom sections per_section v s → HasRoom sections per_section w s
room_alike sections per_section v w same s (inl (some, few)) = inl ((λ none. some (none_alike (w s) (v s) (sym (same s)) none)), omega (arith, few, same s))
room_alike sections per_section v w same s (inr (none, few)) = inr (
  none_alike (v s) (w s) (same s) none,
  λ ss sorted all. few ss sorted (all_by (λ t. w t ≢ []) (λ t. v t ≢ []) (λ t has none. has (none_alike (v t) (w t) (same t) none)) ss all),
)

-- ---- sizes

-- the frame of what is spelled at a sound place is as long as the place
frame_size : (seal : List ℕ → ℕ) (values : List ℕ) (at n : ℕ) → IsTrue (is_sound seal values (at, n)) → length (frame seal (bytes_at values at (n - 4))) ≡ n
frame_size seal values at n sound =
    let parts = sound_parts seal values at n sound in
    omega (arith, parts.0, parts.1, length-frame seal (bytes_at values at (n - 4)), length-bytes_at values at (n - 4) (omega (arith, parts.0, parts.1)))

-- sound values that follow each other are as many bytes as their frames
frames_follow : (f : Filing) (values : List ℕ) (rs : List (List ℕ)) (at end : ℕ) → Follow f.layout.place at rs end → AllByRecursion (λ r. IsTrue (is_sound f.layout.seal values (f.layout.place r))) rs
    → fold (λ n x. n + length (frame f.layout.seal x.value)) at (map (filed f) (map (stored.entry_of f.layout.place values) rs)) ≡ end
frames_follow f values [] at end follow sound = follow
frames_follow f values (r ∷ rs) at end follow sound =
    let size = frame_size f.layout.seal values (f.layout.place r).0 (f.layout.place r).1 sound.0 in
    ap (λ (k : ℕ). fold (λ n x. n + length (frame f.layout.seal x.value)) (at + k) (map (filed f) (map (stored.entry_of f.layout.place values) rs))) size
    ∙ frames_follow f values rs (at + (f.layout.place r).1) end follow.2 sound.1

-- whole records are as many as their bytes hold
one_more : (size n count : ℕ) → count ≡ n / size → n % size ≡ 0 → (count + 1) * size ≡ n + size
one_more size n count is whole = omega (arith, div-add-mod n size, whole, ap (λ (k : ℕ). size * k) is)

-- A blob of few bytes ends far below 2^64.
few_pages : (P k : ℕ) → k ≤ 2 ^ 17 → P < 2 ^ 16 → page_at P k ≤ 2 ^ 17 * 2 ^ 17
unfolding page_at
few_pages P k few small = mul-le k (P + 12) (2 ^ 17) (2 ^ 17) few (omega (arith, small))

small_extent : (P n : ℕ) → P < 2 ^ 16 → n < 2 ^ 16 → extent P n < 2 ^ 64
small_extent P n small few =
    let least : (n + (P - 1)) / P ≤ n + (P - 1) = div-le_self (n + (P - 1)) P in
    omega (arith, few_pages P ((n + (P - 1)) / P) (omega (arith, least, small, few)) small)

module _ {F S : Type 0} {gs : _} {bs : _} {told : Type 0} (a : Archive F (PageBlob S gs)) (opened : OpenedList) (d : Disk) (archive : IsArchive a bs told opened d) (t : told) where
  as_long : (s : ℕ) → length (a.rows s) ≡ length ((state_of a d).lists s)
  as_long s = length_rows a d (archive.listed t) s ∙ sym (length-map (list_of a.pair d s) (filed (filing_of a)))

  -- the limits allow one record more of the rows where they allow it of the lists
  pub allowed : (i : ℕ) → IsAllowed a i ↔ HasRoom a.most_sections a.most_records (state_of a d).lists (section_of a.items i)
  allowed i = (
    room_alike a.most_sections a.most_records a.rows (state_of a d).lists as_long (section_of a.items i),
    room_alike a.most_sections a.most_records (state_of a d).lists a.rows (λ s. sym (as_long s)) (section_of a.items i),
  )

  module _ (sound : IsSoundArchive a d) (paged : (s : ℕ) (v : PageBlob S gs) → a.pair.index.sections.held s ≡ Some v → v.page_size ≡ a.pair.layout.page_size) where
    list_long : (s : ℕ) → (length ((state_of a d).lists s) + 1) * a.pair.layout.record_size ≡ fixed.section_size a.pair.index.sections s + a.pair.layout.record_size
    list_long s =
        let size : ℕ = a.pair.layout.record_size in
        let bytes : List ℕ = fixed.section_bytes a.pair.index.sections d s in
        let rs = records_of a.pair d s in
        let entry = stored.entry_of a.pair.layout.place (glob.section_bytes a.pair.values d s) in
        let count : length ((state_of a d).lists s) ≡ length bytes / size = length-map (list_of a.pair d s) (filed (filing_of a)) ∙ length-map rs entry ∙ length-records size bytes in
        omega (arith, one_more size (length bytes) (length ((state_of a d).lists s)) count (whole_bytes a.pair opened d archive.pair t s), index_size a.pair.index.sections d s)

    values_long : (s : ℕ) → sum_by (λ r. length (frame a.pair.layout.seal r.value)) ((state_of a d).lists s) ≡ glob.section_size a.pair.values s
    values_long s = frames_follow (filing_of a) (glob.section_bytes a.pair.values d s) (records_of a.pair d s) 0 (glob.section_size a.pair.values s) (sound.pair.sound.places s) (sound.pair.sound.sound s)

    -- What would pass 2^64 in the buffers would pass it by the lists.
    pub passed : (i n : ℕ) → IsPassed a i n → WouldPass (filing_of a) (state_of a d) i n
    passed i n (inl index) = (let s : ℕ = section_of a.items i in go (a.pair.index.sections.held s) refl index)
      where
        go : (o : Option (PageBlob S gs)) → a.pair.index.sections.held (section_of a.items i) ≡ o → IsSomeAnd o (λ u. 2 ^ 64 ≤ extent u.page_size (size_of (page_blob.shown u) + a.pair.layout.record_size)) → WouldPass (filing_of a) (state_of a d) i n
        go None is over = absurd over
        go (Some u) is over =
            let s : ℕ = section_of a.items i in
            let size : ℕ = a.pair.layout.record_size in
            let long : size_of (page_blob.shown u) + size ≡ (length ((state_of a d).lists s) + 1) * size = sym (ap (λ (o : Option (PageBlob S gs)). fixed.size_held o + size) is) ∙ sym (list_long s) in
            inl (subst (λ (k : ℕ). 2 ^ 64 ≤ extent a.pair.layout.page_size k) long (subst (λ (p : ℕ). 2 ^ 64 ≤ extent p (size_of (page_blob.shown u) + size)) (paged s u is) over))
    passed i n (inr values) = go (a.pair.values.held (section_of a.items i)) refl values
      where
        go : (o : Option WriteBlob) → a.pair.values.held (section_of a.items i) ≡ o → IsSomeAnd o (λ v. 2 ^ 64 ≤ count_of v + n) → WouldPass (filing_of a) (state_of a d) i n
        go None is over = absurd over
        go (Some v) is over =
            let s : ℕ = section_of a.items i in
            let long : glob.section_size a.pair.values s ≡ count_of v = ap glob.size_held is in
            inr (omega (arith, over, long, values_long s))

    -- What would pass it by the lists would pass it in the buffers: of a section that is not held nothing is kept, and there is room for one record.
    pub passes : (i n : ℕ) → a.pair.layout.page_size < 2 ^ 16 → a.pair.layout.record_size < 2 ^ 16 → n < 2 ^ 64 → WouldPass (filing_of a) (state_of a d) i n → IsPassed a i n
    passes i n page record_small few would =
        let s : ℕ = section_of a.items i in
        let P : ℕ = a.pair.layout.page_size in
        let size : ℕ = a.pair.layout.record_size in
        elim would [
          | inl index ↦ elim (none_or_value (a.pair.index.sections.held s)) [
            | inl none ↦ (let nothing : fixed.section_size a.pair.index.sections s ≡ 0 = ap (λ (o : Option (PageBlob S gs)). fixed.size_held o) none in let one : (length ((state_of a d).lists s) + 1) * size ≡ size = omega (arith, list_long s, nothing) in absurd (omega (arith, index, ap (extent P) one, small_extent P size page record_small)))
            | inr (u, is) ↦
                let long : (length ((state_of a d).lists s) + 1) * size ≡ size_of (page_blob.shown u) + size = list_long s ∙ ap (λ (o : Option (PageBlob S gs)). fixed.size_held o + size) is in
                inl (has_value (a.pair.index.sections.held s) (λ v. 2 ^ 64 ≤ extent v.page_size (size_of (page_blob.shown v) + size)) u is (subst (λ (p : ℕ). 2 ^ 64 ≤ extent p (size_of (page_blob.shown u) + size)) (sym (paged s u is)) (subst (λ (k : ℕ). 2 ^ 64 ≤ extent P k) long index)))
          ]
          | inr values ↦ elim (none_or_value (a.pair.values.held s)) [
            | inl none ↦ (let nothing : glob.section_size a.pair.values s ≡ 0 = ap glob.size_held none in absurd (omega (arith, values, few, values_long s, nothing)))
            | inr (v, is) ↦ (let long : glob.section_size a.pair.values s ≡ count_of v = ap glob.size_held is in inr (has_value (a.pair.values.held s) (λ w. 2 ^ 64 ≤ count_of w + n) v is (omega (arith, values, values_long s, long))))
          ]
        ]

-- ---- versions

-- a store that stands has the version that its copies read as
pub has_no_version_now : (l : Layout) (u : Store Key8 ℕ) (d : Disk) → u.partition ≡ l.metadata → Stands l.markers u (contents_of u) d → 2 ^ 64 ≤ u.version + 1 → HasNoVersion l d
has_no_version_now l u d here stands over =
    let read : ReadsPair l.markers (read_bytes (d (blob_of u.partition Left))) (read_bytes (d (blob_of u.partition Right))) (Ok (chosen_by u (contents_of u))) = record {
      left_text = stands.pair.left_text;
      right_text = stands.pair.right_text;
      left_reads = subst (λ (c : List ℕ). ReadsAs l.markers c stands.pair.left_text) (sym (ap read_bytes stands.left)) stands.pair.left_reads;
      right_reads = subst (λ (c : List ℕ). ReadsAs l.markers c stands.pair.right_text) (sym (ap read_bytes stands.right)) stands.pair.right_reads;
      is = stands.pair.is;
    } in
    (chosen_by u (contents_of u), subst (λ (p : List ℕ). ReadsPair l.markers (read_bytes (d (blob_of p Left))) (read_bytes (d (blob_of p Right))) (Ok (chosen_by u (contents_of u)))) here read, over)
