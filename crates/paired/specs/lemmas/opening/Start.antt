-- An opening that changes no byte: the disk reads as before, each crash leaves what it left before, and the disk may be opened again.
use Rattle.std.specs.Prelude.{◌≡◌, ◌≢◌, ◌⊎◌, ℕ, ◌-◌, ◌^◌, ◌<◌, ◌≤◌, ◌++◌, ⊤, cond, Bool, true, false, List, [], ◌∷◌, length, map, take, IsTrue, IsSome, Option, None, Some, unwrap_or}
use Rattle.std.proofs.Common.{inl, inr, refl, sym, ◌∙◌, ap, subst, arith}
use Rattle.std.specs.Int.{w64, to_be_bytes, from_be_bytes}
use Rattle.std.specs.List.{AllByRecursion}
use Rattle.std.proofs.lemmas.List.{take_all}
use Rattle.std.proofs.lemmas.List.Elements.{Contains-push}
use Rattle.std.proofs.lemmas.Nat.{from_be_bytes-to_be_bytes_8}
use Rattle.blob_device.specs.Disk.{Key, Blob, Disk, Image, IsCrashOf, MayLeave, past, reads, put, settled_at}
use Rattle.blob_device.specs.Change.{Make, during}
use Rattle.blob_device.specs.lemmas.Puts.{same_or_other, put_same, put_other}
use Rattle.sealed_pages.specs.ChanceSeal as pages
use Rattle.sealed_pages.specs.SealedPrefix.{sealed_prefix}
use Rattle.section_manager.specs.Lasting.{IsSettling}
use Rattle.section_manager.specs.SealedLaws.{no_chance}
use Rattle.section_manager.specs.Sections.{section_key}
use Rattle.meta_store.specs.declared.copy.CopyText.{CopyText}
use Rattle.meta_store.specs.declared.error.Side.{Side}
use Rattle.meta_store.specs.declared.error.Side.TheVariants.{Left, Right}
use Rattle.meta_store.specs.Blobs.{blob_of, bytes_of, read_bytes}
use Rattle.meta_store.specs.Copies.{ReadsAs}
use Rattle.meta_store.specs.Crashes as metadata
use Rattle.meta_store.specs.Opening.{Opens, as_before, begun, made, settled}
use Rattle.meta_store.specs.lemmas.Reopening.{IsPromised, by_opens}
use Rattle.meta_store.specs.lemmas.Sealing.{empty_absent}
use Rattle.meta_store.specs.lemmas.Sides.{left_apart}
use Rattle.paired.specs.lemmas.opening.Laws.{left_as_read}
use Rattle.value_codec.specs.declared.key.Key8.{Key8}
use Rattle.paired.specs.Crashes.{HoldMarkers, IsOwn, WasThere}
use Rattle.paired.specs.Kept.{Layout, Markers, marker_of, content_at, stored_records, is_sound_in, kept, IsTrueMarker}
use Rattle.paired.specs.Opening.{as_read, IsInPlace, IsLawful, KeepsAs, MayBeOpened, NoChanceSlots, OnlyOpens, Recalls}
use Rattle.paired.specs.Pair.{AreApart, HasNoBytes}
use Rattle.paired.specs.Places.{Follow}
use Rattle.paired.specs.Records.{records, is_sound, unbroken_prefix, entry_of}

-- The blobs of both kinds of sections are the same, and the copies of the markers read alike.
pub record AlikeImage (l : Layout) (a b : Image) : Type 0 where
  pub index : (name : List ℕ) → b (l.index, name) ≡ a (l.index, name)
  pub values : (name : List ℕ) → b (l.values, name) ≡ a (l.values, name)
  pub copies : (side : Side) (t : CopyText Key8 ℕ) → ReadsAs l.markers (bytes_of (a (blob_of l.metadata side))) t → ReadsAs l.markers (bytes_of (b (blob_of l.metadata side))) t

module _ (l : Layout) (a b : Image) (same : AlikeImage l a b) where
  pub stored_alike : (s : ℕ) → stored_records l b s ≡ stored_records l a s
  stored_alike s = ap (λ (o : Option (List ℕ)). records l.record_size (sealed_prefix l.seal l.page_size (unwrap_or o []))) (same.index (to_be_bytes w64 s))

  values_alike : (s : ℕ) → content_at b l.values s ≡ content_at a l.values s
  values_alike s = ap (λ (o : Option (List ℕ)). unwrap_or o []) (same.values (to_be_bytes w64 s))

  sound_alike : (s : ℕ) → is_sound_in l b s ≡ is_sound_in l a s
  sound_alike s = λ i r. is_sound l.seal (values_alike s i) (l.place r)

  pub kept_alike : (m s : ℕ) → kept l b m s ≡ kept l a m s
  kept_alike m s = λ i. map (entry_of l.place (values_alike s i)) (unbroken_prefix (sound_alike s i) m 0 (stored_alike s i))

  pub held_alike : (markers : Markers) → HoldMarkers l a markers → HoldMarkers l b markers
  held_alike markers held = record {
    copies = λ is. (let h = held.copies is in record {
      chosen = h.chosen;
      reads = record {
        left_text = h.reads.left_text;
        right_text = h.reads.right_text;
        left_reads = same.copies Left h.reads.left_text h.reads.left_reads;
        right_reads = same.copies Right h.reads.right_text h.reads.right_reads;
        is = h.reads.is;
      };
      map = h.map;
    });
    none = held.none;
  }

  true_alike : (s m : ℕ) → IsTrueMarker l a s m → IsTrueMarker l b s m
  true_alike s m was = record {
    index_blob = subst IsSome (sym (same.index (to_be_bytes w64 s))) was.index_blob;
    enough = subst (λ (rs : List (List ℕ)). m ≤ length rs) (sym (stored_alike s)) was.enough;
    sound = subst (λ (rs : List (List ℕ)). AllByRecursion (λ r. IsTrue (is_sound_in l b s r)) (take m rs)) (sym (stored_alike s))
        (subst (λ (f : List ℕ → Bool). AllByRecursion (λ r. IsTrue (f r)) (take m (stored_records l a s))) (sym (sound_alike s)) was.sound);
  }

  in_place_alike : (s : ℕ) → IsInPlace l a s → IsInPlace l b s
  in_place_alike s was = record {
    end = was.end;
    fits = was.fits;
    follow = subst (λ (rs : List (List ℕ)). Follow l.place 0 rs was.end) (sym (stored_alike s)) was.follow;
  }

  pub lawful_alike : (markers : Markers) → IsLawful l a markers → IsLawful l b markers
  lawful_alike markers was = record {
    names = record {
      index = λ name there. was.names.index name (subst IsSome (same.index name) there);
      values = λ name there. was.names.values name (subst IsSome (same.values name) there);
    };
    held = held_alike markers was.held;
    floor = was.floor;
    true_markers = λ s m is. true_alike s m (was.true_markers s m is);
    places = λ s small. in_place_alike s (was.places s small);
  }

  pub keeps_alike : (markers : Markers) → IsLawful l a markers → KeepsAs l a markers b
  keeps_alike markers lawful = record {
    markers = markers;
    lawful = lawful_alike markers lawful;
    same = λ s small. kept_alike (marker_of markers.entries s) s;
    stored = λ s small. stored_alike s ∙ sym (take_all (length (stored_records l b s)) (stored_records l a s) (omega (arith, ap length (stored_alike s))));
  }

pub settling_reads : (partition : List ℕ) (ceiling : ℕ) (from : Disk) (q : Key) (b : Blob) → IsSettling partition ceiling from q b → reads b ≡ reads (from q)
settling_reads partition ceiling from q b (inl same) = ap reads same
settling_reads partition ceiling from q b (inr found) = ap reads found.4 ∙ sym (ap (λ (t : Bool). cond t (Some (from q).content) None) found.3)

-- each crash leaves a settled content
left_settled : (c : List ℕ) (o : Option (List ℕ)) → MayLeave (settled_at c) o → o ≡ Some c
left_settled c o may = left_as_read (settled_at c) (record { sure = refl; since = refl; loose = refl; content = refl }) o may

settling_left : (partition : List ℕ) (ceiling : ℕ) (from : Disk) (q : Key) (b : Blob) → MayLeave (from q) (reads (from q)) → IsSettling partition ceiling from q b → (o : Option (List ℕ)) → MayLeave b o → MayLeave (from q) o
settling_left partition ceiling from q b law (inl same) o may = subst (λ (x : Blob). MayLeave x o) same may
settling_left partition ceiling from q b law (inr found) o may =
    let is : o ≡ reads (from q) = left_settled (from q).content o (subst (λ (x : Blob). MayLeave x o) found.4 may) ∙ sym (ap (λ (t : Bool). cond t (Some (from q).content) None) found.3) in
    subst (MayLeave (from q)) (sym is) law

-- a blob that is being made, where it was not there
abbrev under : Blob → Blob
under b = record b { content = []; unsure = true; since = b.since ++ [] ∷ [] }

pub opens_bytes : (old b : Blob) → Opens old b → read_bytes b ≡ read_bytes old
opens_bytes old b (as_before is) = ap read_bytes is
opens_bytes old b (settled is) = ap read_bytes is
opens_bytes old b (begun is) = ap read_bytes is ∙ begins old.there refl
  where
    begins : (t : Bool) → old.there ≡ t → read_bytes (during Make old) ≡ read_bytes old
    begins true there = ap (λ (x : Bool). read_bytes (cond x old (under old))) there
    begins false there =
        ap (λ (x : Bool). read_bytes (cond x old (under old))) there ∙ ap (λ (x : Bool). bytes_of (cond x (Some []) None)) there ∙ sym (ap (λ (x : Bool). bytes_of (cond x (Some old.content) None)) there)
opens_bytes old b (made is) = ap read_bytes is ∙ makes old.there refl
  where
    makes : (t : Bool) → old.there ≡ t → (during Make old).content ≡ read_bytes old
    makes true there = ap (λ (x : Bool). (cond x old (under old)).content) there ∙ sym (ap (λ (x : Bool). bytes_of (cond x (Some old.content) None)) there)
    makes false there = ap (λ (x : Bool). (cond x old (under old)).content) there ∙ sym (ap (λ (x : Bool). bytes_of (cond x (Some old.content) None)) there)

-- while it is opened, what it reads as has no chance seal
opens_fresh : (seal : List ℕ → ℕ) (old b : Blob) → Opens old b → metadata.ReadsNoChance seal old → metadata.ReadsNoChance seal b
opens_fresh seal old b (as_before is) fresh = subst (metadata.ReadsNoChance seal) (sym is) fresh
opens_fresh seal old b (settled is) fresh = subst (metadata.ReadsNoChance seal) (sym is) (λ version form body sealed. inl refl)
opens_fresh seal old b (begun is) fresh = subst (metadata.ReadsNoChance seal) (sym is) (begins old.there refl)
  where
    begins : (t : Bool) → old.there ≡ t → metadata.ReadsNoChance seal (during Make old)
    begins true there = subst (λ (x : Bool). metadata.ReadsNoChance seal (cond x old (under old))) (sym there) fresh
    begins false there = subst (λ (x : Bool). metadata.ReadsNoChance seal (cond x old (under old))) (sym there)
        (subst (λ (x : Bool). metadata.NoChanceSeal seal (past (under old)) (bytes_of (cond x (Some []) None))) (sym there) (λ version form body sealed. absurd (empty_absent seal version form body sealed)))
opens_fresh seal old b (made is) fresh = subst (metadata.ReadsNoChance seal) (sym is) (makes old.there refl)
  where
    makes : (t : Bool) → old.there ≡ t → metadata.NoChanceSeal seal (past (during Make old)) (during Make old).content
    makes true there = subst (λ (x : Bool). metadata.NoChanceSeal seal (past (cond x old (under old))) (cond x old (under old)).content) (sym there)
        (subst (metadata.NoChanceSeal seal (past old)) (ap (λ (x : Bool). bytes_of (cond x (Some old.content) None)) there) fresh)
    makes false there = subst (λ (x : Bool). metadata.NoChanceSeal seal (past (cond x old (under old))) (cond x old (under old)).content) (sym there)
        (λ version form body sealed. absurd (empty_absent seal version form body sealed))

-- each frame in these values that a record of these bytes names, and that is sealed, is one that the blob had
abbrev Frames : Layout → Option (List ℕ) → Option (List ℕ) → Blob → Type 0
Frames l index values b = AllByRecursion (λ r. IsTrue (is_sound l.seal (unwrap_or values []) (l.place r)) → WasThere (past b) (unwrap_or values []) (l.place r)) (records l.record_size (sealed_prefix l.seal l.page_size (unwrap_or index [])))

module _ (l : Layout) (apart : AreApart l) (from d : Disk) (opens : OnlyOpens l from d) where
  -- a name in the partition of the records or of the values is that of a section, or its blob does not change
  at_index : (name : List ℕ) → IsSettling l.index (2 ^ 64 - 1) from (l.index, name) (d (l.index, name))
  at_index name = elim (same_or_other (l.index, name) (section_key l.index (from_be_bytes w64 name))) [
    | inl is ↦ subst (λ (q : Key). IsSettling l.index (2 ^ 64 - 1) from q (d q)) (sym is) (opens.index (from_be_bytes w64 name))
    | inr other ↦ inl (opens.others (l.index, name) (not_own other))
  ]
    where
      not_own : (l.index, name) ≢ section_key l.index (from_be_bytes w64 name) → IsOwn l (λ _. ⊤) (l.index, name) → ⊥
      not_own other (inl found) =
          let number : from_be_bytes w64 name ≡ found.0 = ap (λ (k : Key). from_be_bytes w64 k.1) found.3 ∙ from_be_bytes-to_be_bytes_8 found.0 found.1 in
          other (found.3 ∙ ap (section_key l.index) (sym number))
      not_own other (inr (inl found)) = apart.values (ap (λ (k : Key). k.0) found.3)
      not_own other (inr (inr copy)) = apart.metadata (ap (λ (k : Key). k.0) copy.1)

  at_values : (name : List ℕ) → IsSettling l.values (2 ^ 64 - 1) from (l.values, name) (d (l.values, name))
  at_values name = elim (same_or_other (l.values, name) (section_key l.values (from_be_bytes w64 name))) [
    | inl is ↦ subst (λ (q : Key). IsSettling l.values (2 ^ 64 - 1) from q (d q)) (sym is) (opens.values (from_be_bytes w64 name))
    | inr other ↦ inl (opens.others (l.values, name) (not_own other))
  ]
    where
      not_own : (l.values, name) ≢ section_key l.values (from_be_bytes w64 name) → IsOwn l (λ _. ⊤) (l.values, name) → ⊥
      not_own other (inr (inl found)) =
          let number : from_be_bytes w64 name ≡ found.0 = ap (λ (k : Key). from_be_bytes w64 k.1) found.3 ∙ from_be_bytes-to_be_bytes_8 found.0 found.1 in
          other (found.3 ∙ ap (section_key l.values) (sym number))
      not_own other (inl found) = apart.values (sym (ap (λ (k : Key). k.0) found.3))
      not_own other (inr (inr copy)) = apart.both (ap (λ (k : Key). k.0) copy.1)

  pub index_reads : (name : List ℕ) → reads (d (l.index, name)) ≡ reads (from (l.index, name))
  index_reads name = settling_reads l.index (2 ^ 64 - 1) from (l.index, name) (d (l.index, name)) (at_index name)

  pub values_reads : (name : List ℕ) → reads (d (l.values, name)) ≡ reads (from (l.values, name))
  values_reads name = settling_reads l.values (2 ^ 64 - 1) from (l.values, name) (d (l.values, name)) (at_values name)

  pub read_alike : AlikeImage l (as_read from) (as_read d)
  read_alike = record {
    index = index_reads;
    values = values_reads;
    copies = λ side t is. subst (λ (c : List ℕ). ReadsAs l.markers c t) (sym (opens_bytes (from (blob_of l.metadata side)) (d (blob_of l.metadata side)) (opens.copies side))) is;
  }

  -- a blob that is no copy
  at_other : (q : Key) → q ≢ blob_of l.metadata Left → q ≢ blob_of l.metadata Right → (IsSettling l.index (2 ^ 64 - 1) from q (d q)) ⊎ (IsSettling l.values (2 ^ 64 - 1) from q (d q))
  at_other q left right = elim (same_or_other q (section_key l.index (from_be_bytes w64 q.1))) [
    | inl is ↦ inl (subst (λ (k : Key). IsSettling l.index (2 ^ 64 - 1) from k (d k)) (sym is) (opens.index (from_be_bytes w64 q.1)))
    | inr no_index ↦ elim (same_or_other q (section_key l.values (from_be_bytes w64 q.1))) [
      | inl is ↦ inr (subst (λ (k : Key). IsSettling l.values (2 ^ 64 - 1) from k (d k)) (sym is) (opens.values (from_be_bytes w64 q.1)))
      | inr no_values ↦ inl (inl (opens.others q (not_own no_index no_values)))
    ]
  ]
    where
      number : (partition : List ℕ) (s : ℕ) → s < 2 ^ 64 → q ≡ section_key partition s → q ≡ section_key partition (from_be_bytes w64 q.1)
      number partition s small is = is ∙ ap (section_key partition) (sym (ap (λ (k : Key). from_be_bytes w64 k.1) is ∙ from_be_bytes-to_be_bytes_8 s small))

      no_copy : (side : Side) → q ≡ blob_of l.metadata side → ⊥
      no_copy Left is = left is
      no_copy Right is = right is

      not_own : q ≢ section_key l.index (from_be_bytes w64 q.1) → q ≢ section_key l.values (from_be_bytes w64 q.1) → IsOwn l (λ _. ⊤) q → ⊥
      not_own no_index no_values (inl found) = no_index (number l.index found.0 found.1 found.3)
      not_own no_index no_values (inr (inl found)) = no_values (number l.values found.0 found.1 found.3)
      not_own no_index no_values (inr (inr copy)) = no_copy copy.0 copy.1

  -- ---- what a crash leaves
  module _ (promised : (k : Key) → IsPromised (from k)) (may : MayBeOpened l from) where
    -- the image of an earlier crash, which has of the copies this
    abbrev earlier : Image → Option (List ℕ) → Option (List ℕ) → Image
    earlier image left right = put (put image (blob_of l.metadata Left) left) (blob_of l.metadata Right) right

    -- The image is that of an earlier crash, and has of the sections what the later one has.
    record IsEarlier (image old : Image) : Type 0 where
      pub crash : IsCrashOf from old
      pub index : (name : List ℕ) → old (l.index, name) ≡ image (l.index, name)
      pub values : (name : List ℕ) → old (l.values, name) ≡ image (l.values, name)

    module _ (image : Image) (left right : Option (List ℕ)) where
      earlier_left : earlier image left right (blob_of l.metadata Left) ≡ left
      earlier_left = put_other (put image (blob_of l.metadata Left) left) (blob_of l.metadata Right) right (blob_of l.metadata Left) (left_apart l.metadata) ∙ put_same image (blob_of l.metadata Left) left

      earlier_right : earlier image left right (blob_of l.metadata Right) ≡ right
      earlier_right = put_same (put image (blob_of l.metadata Left) left) (blob_of l.metadata Right) right

      earlier_other : (q : Key) → q ≢ blob_of l.metadata Left → q ≢ blob_of l.metadata Right → earlier image left right q ≡ image q
      earlier_other q no_left no_right = put_other (put image (blob_of l.metadata Left) left) (blob_of l.metadata Right) right q no_right ∙ put_other image (blob_of l.metadata Left) left q no_left

      earlier_is : IsCrashOf d image → MayLeave (from (blob_of l.metadata Left)) left → MayLeave (from (blob_of l.metadata Right)) right → IsEarlier image (earlier image left right)
      earlier_is crash may_left may_right = record {
        crash = λ k. elim (same_or_other k (blob_of l.metadata Right)) [
          | inl is ↦ subst (λ (q : Key). MayLeave (from q) (earlier image left right q)) (sym is) (subst (MayLeave (from (blob_of l.metadata Right))) (sym earlier_right) may_right)
          | inr no_right ↦ elim (same_or_other k (blob_of l.metadata Left)) [
            | inl is ↦ subst (λ (q : Key). MayLeave (from q) (earlier image left right q)) (sym is) (subst (MayLeave (from (blob_of l.metadata Left))) (sym earlier_left) may_left)
            | inr no_left ↦ subst (MayLeave (from k)) (sym (earlier_other k no_left no_right)) (elim (at_other k no_left no_right) [
              | inl settling ↦ settling_left l.index (2 ^ 64 - 1) from k (d k) (promised k).as_read settling (image k) (crash k)
              | inr settling ↦ settling_left l.values (2 ^ 64 - 1) from k (d k) (promised k).as_read settling (image k) (crash k)
            ])
          ]
        ];
        index = λ name. earlier_other (l.index, name) (λ is. apart.metadata (ap (λ (k : Key). k.0) is)) (λ is. apart.metadata (ap (λ (k : Key). k.0) is));
        values = λ name. earlier_other (l.values, name) (λ is. apart.both (ap (λ (k : Key). k.0) is)) (λ is. apart.both (ap (λ (k : Key). k.0) is));
      }

    module _ (image old : Image) (crash : IsCrashOf d image) (is : IsEarlier image old) (s : ℕ) (small : s < 2 ^ 64) where
      slots_earlier : NoChanceSlots l d image s → NoChanceSlots l from old s
      slots_earlier fresh =
          let key = section_key l.index s in
          subst (λ (o : Option (List ℕ)). pages.NoChanceSeal l.seal l.page_size (past (from key)) (unwrap_or o [])) (sym (is.index (to_be_bytes w64 s))) (elim (opens.index s) [
            | inl same ↦ subst (λ (b : Blob). pages.NoChanceSeal l.seal l.page_size (past b) (content_at image l.index s)) same fresh
            | inr found ↦
                let left : image key ≡ reads (from key) = left_settled (from key).content (image key) (subst (λ (x : Blob). MayLeave x (image key)) found.4 (crash key)) ∙ sym (ap (λ (t : Bool). cond t (Some (from key).content) None) found.3) in
                subst (λ (o : Option (List ℕ)). pages.NoChanceSeal l.seal l.page_size (past (from key)) (unwrap_or o [])) (sym left) (may.no_chance.slots s small)
          ])

      frames_earlier : NoChanceSlots l d image s → Frames l (image (section_key l.index s)) (image (section_key l.values s)) (d (section_key l.values s))
          → Frames l (old (section_key l.index s)) (old (section_key l.values s)) (from (section_key l.values s))
      frames_earlier slots fresh =
          let key = section_key l.values s in
          let name = to_be_bytes w64 s in
          elim (opens.values s) [
            | inl same ↦ subst (λ (o : Option (List ℕ)). Frames l o (old key) (from key)) (sym (is.index name)) (subst (λ (o : Option (List ℕ)). Frames l (image (section_key l.index s)) o (from key)) (sym (is.values name))
                (subst (λ (b : Blob). Frames l (image (section_key l.index s)) (image key) b) same fresh))
            | inr found ↦
                let left : image key ≡ reads (from key) = left_settled (from key).content (image key) (subst (λ (x : Blob). MayLeave x (image key)) found.4 (crash key)) ∙ sym (ap (λ (t : Bool). cond t (Some (from key).content) None) found.3) in
                subst (λ (o : Option (List ℕ)). Frames l (old (section_key l.index s)) o (from key)) (sym (is.values name ∙ left)) (may.named old is.crash s small (slots_earlier slots))
          ]

    pub opening_recalls : IsTrue l.marked → ((x : List ℕ) → l.markers.seal x < 2 ^ 32) → Recalls l from d
    opening_recalls is_marked fits image crash fresh =
        let lk = blob_of l.metadata Left in
        let rk = blob_of l.metadata Right in
        let x = by_opens l.markers fits (from lk) (d lk) (promised lk) (may.no_chance.copies is_marked Left) (opens.copies Left) (image lk) (crash lk) (fresh.copies is_marked Left) in
        let y = by_opens l.markers fits (from rk) (d rk) (promised rk) (may.no_chance.copies is_marked Right) (opens.copies Right) (image rk) (crash rk) (fresh.copies is_marked Right) in
        let old = earlier image x.left y.left in
        let is = earlier_is image x.left y.left crash x.may y.may in
        record {
          old = old;
          crash = is.crash;
          no_chance = record {
            slots = λ s small. slots_earlier image old crash is s small (fresh.slots s small);
            frames = λ s small. frames_earlier image old crash is s small (fresh.slots s small) (fresh.frames s small);
            copies = λ _. fresh_copies x.left y.left x.none y.none image;
          };
          keeps = keeps_alike l old image (record {
            index = λ name. sym (is.index name);
            values = λ name. sym (is.values name);
            copies = alike_copies x.left y.left image x.alike y.alike;
          });
        }
      where
        fresh_copies : (left right : Option (List ℕ)) → metadata.NoChanceSeal l.markers.seal (past (from (blob_of l.metadata Left))) (bytes_of left) → metadata.NoChanceSeal l.markers.seal (past (from (blob_of l.metadata Right))) (bytes_of right)
            → (image : Image) (side : Side) → metadata.NoChanceSeal l.markers.seal (past (from (blob_of l.metadata side))) (bytes_of (earlier image left right (blob_of l.metadata side)))
        fresh_copies left right of_left of_right image Left = subst (λ (o : Option (List ℕ)). metadata.NoChanceSeal l.markers.seal (past (from (blob_of l.metadata Left))) (bytes_of o)) (sym (earlier_left image left right)) of_left
        fresh_copies left right of_left of_right image Right = subst (λ (o : Option (List ℕ)). metadata.NoChanceSeal l.markers.seal (past (from (blob_of l.metadata Right))) (bytes_of o)) (sym (earlier_right image left right)) of_right

        alike_copies : (left right : Option (List ℕ)) (image : Image) → ((t : CopyText Key8 ℕ) → ReadsAs l.markers (bytes_of left) t → ReadsAs l.markers (bytes_of (image (blob_of l.metadata Left))) t)
            → ((t : CopyText Key8 ℕ) → ReadsAs l.markers (bytes_of right) t → ReadsAs l.markers (bytes_of (image (blob_of l.metadata Right))) t) → (side : Side) (t : CopyText Key8 ℕ)
            → ReadsAs l.markers (bytes_of (earlier image left right (blob_of l.metadata side))) t → ReadsAs l.markers (bytes_of (image (blob_of l.metadata side))) t
        alike_copies left right image of_left of_right Left t is = of_left t (subst (λ (o : Option (List ℕ)). ReadsAs l.markers (bytes_of o) t) (earlier_left image left right) is)
        alike_copies left right image of_left of_right Right t is = of_right t (subst (λ (o : Option (List ℕ)). ReadsAs l.markers (bytes_of o) t) (earlier_right image left right) is)

    -- of a pair without markers, where the names of copies stay as they are
    pub unmarked_recalls : l.marked ≡ false → ((side : Side) → d (blob_of l.metadata side) ≡ from (blob_of l.metadata side)) → Recalls l from d
    unmarked_recalls not_marked stay image crash fresh =
        let left = image (blob_of l.metadata Left) in
        let right = image (blob_of l.metadata Right) in
        let old = earlier image left right in
        let is = earlier_is image left right crash (left_as Left) (left_as Right) in
        record {
          old = old;
          crash = is.crash;
          no_chance = record {
            slots = λ s small. slots_earlier image old crash is s small (fresh.slots s small);
            frames = λ s small. frames_earlier image old crash is s small (fresh.slots s small) (fresh.frames s small);
            copies = λ marked. absurd (cc (marked, not_marked));
          };
          keeps = keeps_alike l old image (record {
            index = λ name. sym (is.index name);
            values = λ name. sym (is.values name);
            copies = same_copies;
          });
        }
      where
        left_as : (side : Side) → MayLeave (from (blob_of l.metadata side)) (image (blob_of l.metadata side))
        left_as side = subst (λ (b : Blob). MayLeave b (image (blob_of l.metadata side))) (stay side) (crash (blob_of l.metadata side))

        same_copies : (side : Side) (t : CopyText Key8 ℕ) → ReadsAs l.markers (bytes_of (earlier image (image (blob_of l.metadata Left)) (image (blob_of l.metadata Right)) (blob_of l.metadata side))) t → ReadsAs l.markers (bytes_of (image (blob_of l.metadata side))) t
        same_copies Left t is = subst (λ (o : Option (List ℕ)). ReadsAs l.markers (bytes_of o) t) (earlier_left image (image (blob_of l.metadata Left)) (image (blob_of l.metadata Right))) is
        same_copies Right t is = subst (λ (o : Option (List ℕ)). ReadsAs l.markers (bytes_of o) t) (earlier_right image (image (blob_of l.metadata Left)) (image (blob_of l.metadata Right))) is

    -- ---- the disk may be opened again
    each_of : {X : Type 0} (P : X → Type 0) → ((x : X) → P x) → (xs : List X) → AllByRecursion P xs
    each_of P has [] = tt
    each_of P has (x ∷ xs) = (has x, each_of P has xs)

    -- what holds of a settled content holds of the blob
    of_settled : (P : List (List ℕ) → List ℕ → Type 0) (c : List ℕ) (b : Blob) → b ≡ settled_at c → P (c ∷ []) c → P (past b) (unwrap_or (reads b) [])
    of_settled P c b is has = subst (λ (x : Blob). P (past x) (unwrap_or (reads x) [])) (sym is) has

    pub opening_stays : MayBeOpened l d
    opening_stays = record {
      no_chance = record {
        slots = λ s small. elim (opens.index s) [
          | inl same ↦ subst (λ (b : Blob). pages.NoChanceSeal l.seal l.page_size (past b) (unwrap_or (reads b) [])) (sym same) (may.no_chance.slots s small)
          | inr found ↦ of_settled (λ contents c. pages.NoChanceSeal l.seal l.page_size contents c) (from (section_key l.index s)).content (d (section_key l.index s)) found.4
              (no_chance l.seal l.page_size ((from (section_key l.index s)).content ∷ []) (from (section_key l.index s)).content (Contains-push [] (from (section_key l.index s)).content))
        ];
        frames = λ s small. elim (opens.values s) [
          | inl same ↦ subst (λ (o : Option (List ℕ)). Frames l o (reads (d (section_key l.values s))) (d (section_key l.values s))) (sym (index_reads (to_be_bytes w64 s)))
              (subst (λ (b : Blob). Frames l (reads (from (section_key l.index s))) (reads b) b) (sym same) (may.no_chance.frames s small))
          | inr found ↦ all_there s (reads (d (section_key l.index s))) (from (section_key l.values s)).content found.4
        ];
        copies = λ is side. opens_fresh l.markers.seal (from (blob_of l.metadata side)) (d (blob_of l.metadata side)) (opens.copies side) (may.no_chance.copies is side);
      };
      named = λ image crash s small slots. elim (opens.values s) [
        | inl same ↦
            let left = reads (from (blob_of l.metadata Left)) in
            let right = reads (from (blob_of l.metadata Right)) in
            let old = earlier image left right in
            let is = earlier_is image left right crash (promised (blob_of l.metadata Left)).as_read (promised (blob_of l.metadata Right)).as_read in
            subst (λ (o : Option (List ℕ)). Frames l o (reads (d (section_key l.values s))) (d (section_key l.values s))) (is.index (to_be_bytes w64 s))
            (subst (λ (b : Blob). Frames l (old (section_key l.index s)) (reads b) b) (sym same) (may.named old is.crash s small (slots_earlier image old crash is s small slots)))
        | inr found ↦ all_there s (image (section_key l.index s)) (from (section_key l.values s)).content found.4
      ];
      absent = λ s small none. elim (opens.index s) [
        | inl same ↦ subst HasNoBytes (sym same) (may.absent s small (subst (λ (b : Blob). b.there ≡ false) same none))
        | inr found ↦ absurd (cc (subst (λ (b : Blob). b.there ≡ false) found.4 none))
      ];
      values_absent = λ s small none. elim (opens.values s) [
        | inl same ↦ subst HasNoBytes (sym same) (may.values_absent s small (subst (λ (b : Blob). b.there ≡ false) same none))
        | inr found ↦ absurd (cc (subst (λ (b : Blob). b.there ≡ false) found.4 none))
      ];
    }
      where
        there_itself : (c : List ℕ) (at : ℕ × ℕ) → WasThere (c ∷ []) c at
        there_itself c (at, n) = inl refl

        all_there : (s : ℕ) (index : Option (List ℕ)) (c : List ℕ) → d (section_key l.values s) ≡ settled_at c → Frames l index (reads (d (section_key l.values s))) (d (section_key l.values s))
        all_there s index c is = each_of (λ r. IsTrue (is_sound l.seal (unwrap_or (reads (d (section_key l.values s))) []) (l.place r)) → WasThere (past (d (section_key l.values s))) (unwrap_or (reads (d (section_key l.values s))) []) (l.place r))
            (λ r sound. of_settled (λ contents x. WasThere contents x (l.place r)) c (d (section_key l.values s)) is (there_itself c (l.place r))) (records l.record_size (sealed_prefix l.seal l.page_size (unwrap_or index [])))
