-- A search for a record with a key, by the ways in which it ends: the records whose keys have the word are read one after another.
use Rattle.std.proofs.Common.{◌≡◌, ◌≢◌, inl, inr, refl, sym, ◌∙◌, ap, subst, subst₂, ℕ, ◌+◌, ◌<◌, ◌≤◌, ◌^◌, Bool, List, [], ◌∷◌, ◌++◌, length, take, get_or, slice_get, Contains, Option, None, Some, IsSomeAnd, IsTrue, Result, Ok, Err, arith}
use Rattle.std.specs.Prelude.{⊤}
use Rattle.std.proofs.lemmas.Option.{same_Some}
use Rattle.std.proofs.lemmas.List.{get_or_default, take_all, take_more}
use Rattle.std.proofs.lemmas.List.Elements.{Contains-push_cases}
use Rattle.blob_device.specs.Disk.{Disk, Key}
use Rattle.blob_device.specs.Footprint.{AtMostBoth, NoBound}
use Rattle.blob_device.specs.Timeline.{disk}
use Rattle.blob_device.specs.declared.device.Device as device
use Rattle.blob_device.specs.lemmas.Footprint.{footprint_then, footprint_wider}
use Rattle.sealed_pages.specs.lemmas.looking.Looking.{unchanged_now, unchanged_then}
use Rattle.sealed_pages.specs.declared.page_blob.PageBlob.{PageBlob}
use Rattle.section_manager.specs.Sections.{section_key}
use Rattle.paired.specs.Crashes.{IsIndexOf}
use Rattle.paired.specs.Pair.{list_of}
use Rattle.record_tables.specs.Handles.{position_of, slot_of}
use Rattle.record_tables.specs.Tables as tables
use Rattle.record_tables.specs.Tables.{AreCandidates, HasPlace, IsPlace}
use Rattle.record_tables.specs.declared.handle.Handle.{Handle}
use Rattle.record_tables.specs.declared.tables.Tables.{Tables}
use Rattle.archives.specs.Entries.{FindsKey, ReadsRecordAt}
use Rattle.archives.specs.Finding.{IsIn, Wanted}
use Rattle.archives.specs.Finding as wanted_by
use Rattle.archives.specs.Gets.{HasToLookIn, SomeToLookAt}
use Rattle.archives.specs.Prunable.{HasToLook, IsOver, Prunable, filing_by}
use Rattle.archives.specs.Rows.{Row, row_of, rows_of}
use Rattle.archives.specs.declared.error.Error.{Error}
use Rattle.archives.specs.declared.prunable.index_record.IndexRecord.{IndexRecord}
use Rattle.archives.proofs.EntryLemmas.{key_there}
use Rattle.archives.proofs.positions.PositionEntries.{HasKeyAt, HasOtherKeyAt}
use Rattle.archives.proofs.read.Finding.{to_list}
use Rattle.archives.proofs.read.Records.{all_at, clash, from_map, to_map, weaker_at}
use Rattle.archives.proofs.SeveralLemmas.{Walked, not_walked}
use Rattle.archives.proofs.ValueLemmas.{no_record_since, stood_before}
use Rattle.blob_device.proofs.general.Options.{the_some}

-- ---- lists

none_left : (hs : List Handle) → ((h : Handle) → Contains hs h → ⊥) → hs ≡ []
none_left [] none = refl
none_left (h ∷ hs) none = absurd (none h (0, omega arith, refl))

not_nil : (hs : List Handle) (h : Handle) → hs ++ h ∷ [] ≡ [] → ⊥
not_nil [] h is = cc
not_nil (k ∷ hs) h is = cc

module _ {A V F S D : Type 0} {gs : _} (p : Prunable A V F (PageBlob S gs)) (dev : device.Ghosts D) (a : A) where
  -- ---- one record more was read, at which a lookup has to look

  module _ (wanted : Wanted) (s at : ℕ) (small : s < 2 ^ 64) (looks : HasToLook p a wanted s at) where
    record_walked_on : {K : Type 0} (key_bytes : K → List ℕ) (old mid new : D) (r : Result (IndexRecord K) Error)
        → Walked p dev a (IsIndexOf (filing_by p a).layout (HasToLookIn p dev a wanted)) NoBound old mid → ReadsRecordAt p dev key_bytes a s at r mid new
        → Walked p dev a (IsIndexOf (filing_by p a).layout (HasToLookIn p dev a wanted)) NoBound old new
    record_walked_on key_bytes old mid new r walked reads =
        let l = (filing_by p a).layout in
        let Blobs : Key → Type 0 = IsIndexOf l (HasToLookIn p dev a wanted) in
        record {
          over = reads.over;
          unchanged = λ t. unchanged_then _ _ _ (walked.unchanged t) (reads.unchanged t);
          footprint = footprint_wider dev Blobs Blobs (AtMostBoth NoBound NoBound) NoBound old new (λ q is. is) (λ q m none. absurd none)
              (footprint_then dev Blobs NoBound NoBound old mid new walked.footprint
              (footprint_wider dev (λ q. q ≡ section_key l.index s) Blobs _ NoBound mid new (λ q is. (s, small, (at, looks), is)) (λ q m none. absurd none) reads.footprint));
        }

  -- ---- one candidate after another

  module _ {K W : Type 0} (key_bytes : K → List ℕ) (t : Tables W K) (key : List ℕ) where
    -- Of the records with these handles the key was read, and is another than the wanted one.
    pub record HasReadOthers (handles : List Handle) (old new : D) : Type 0 where
      pub walked : Walked p dev a (IsIndexOf (filing_by p a).layout (HasToLookIn p dev a (wanted_by.Key key))) NoBound old new
      pub other : dev.Tells → (h : Handle) → Contains handles h → (s at : ℕ) → IsPlace t h s at → HasOtherKeyAt (p.see a) (disk (dev.time old)) s key at
      -- nothing was done before the first
      pub idle : handles ≡ [] → new ≡ old

    pub none_read : (old : D) → IsOver p dev a old → HasReadOthers [] old old
    none_read old over = record { walked = not_walked p dev a _ _ old over; other = λ told h has. absurd (omega (arith, has.1)); idle = λ none. refl }

    module _ (shows : (s : ℕ) → (p.see a).rows s ≡ rows_of key_bytes t s) (eq : W → W → Bool) (word : List ℕ → W) (alike : (k l : List ℕ) → eq (word k) (word l) ≡ p.alike a k l) (refl_word : (x : W) → IsTrue (eq x x))
        (handles : List Handle) (are : AreCandidates eq (λ k. word (key_bytes k)) (word key) t handles) where
      -- a lookup has to look at the place of a candidate
      candidate_near : (h : Handle) → Contains handles h → (s at : ℕ) → IsPlace t h s at → HasToLook p a (wanted_by.Key key) s at
      candidate_near h has s at place =
          subst (λ (rows : List Row). IsSomeAnd (slice_get rows at) (λ r. IsTrue (p.alike a key r.key))) (sym (shows s))
          (to_map (row_of key_bytes) (λ r. IsTrue (p.alike a key r.key)) (tables.rows_of t s) at
          (weaker_at (slice_get (tables.rows_of t s) at) (λ r same. subst (λ (b : Bool). IsTrue b) (alike key (key_bytes r.key)) same) (are.found h has s at place)))

      -- and a row with the key is at the place of one
      candidate_of : (s : ℕ) → IsIn (p.see a) (wanted_by.Key key) s → (h : Handle) × Contains handles h × ((at : ℕ) × IsPlace t h s at × IsSomeAnd (slice_get ((p.see a).rows s) at) (λ r. r.key ≡ key))
      candidate_of s (at, is) =
          let row = from_map (row_of key_bytes) (λ r. r.key ≡ key) (tables.rows_of t s) at (subst (λ (rows : List Row). IsSomeAnd (slice_get rows at) (λ r. r.key ≡ key)) (shows s) is) in
          let found = are.all s at (weaker_at (slice_get (tables.rows_of t s) at) (λ r same. subst (λ (k : List ℕ). IsTrue (eq (word key) (word k))) (sym same) (refl_word (word key))) row) in
          (found.0, found.1, (at, found.2, is))

      -- all were read: no record has the key
      pub key_none : (old new : D) → IsOver p dev a old → (n : ℕ) → length handles ≤ n → HasReadOthers (take n handles) old new → FindsKey p dev key_bytes a key (Ok None) old new
      key_none old new over n all read_all = record {
        over = so_far.walked.over;
        unchanged = so_far.walked.unchanged;
        footprint = so_far.walked.footprint;
        none = λ far. (refl, so_far.idle (no_candidate far));
        ends = λ told s is. (let found = candidate_of s is in apart told s found.2.0 found.2.2 (so_far.other told found.0 found.1 s found.2.0 found.2.1));
      }
        where
          so_far : HasReadOthers handles old new
          so_far = subst (λ (hs : List Handle). HasReadOthers hs old new) (take_all n handles all) read_all

          -- where no record has the word there is no candidate
          no_candidate : (SomeToLookAt p dev a (wanted_by.Key key) (λ s at. ⊤) → ⊥) → handles ≡ []
          no_candidate far = none_left handles (λ h has.
              let place = are.placed h has in
              far (place.0, position_of h, candidate_near h has place.0 (position_of h) (record { section = place.1.named; position = refl }), tt))

          -- the key of the row is that of the record on the disk
          apart : (told : dev.Tells) (s at : ℕ) → IsSomeAnd (slice_get ((p.see a).rows s) at) (λ r. r.key ≡ key) → HasOtherKeyAt (p.see a) (disk (dev.time old)) s key at → ⊥
          apart told s at is other = clash (slice_get (list_of (p.see a).pair (disk (dev.time old)) s) at)
              (to_list (p.see a) (disk (dev.time old)) (over.listed told) (λ r. r.key ≡ key) s at is) other (λ e same not. not same)

      -- ---- the next candidate

      module _ (n : ℕ) (d : Handle) (next : n < length handles) where
        has : Contains handles (get_or handles n d)
        has = (n, next, get_or_default handles n (get_or handles n d) d next)

        -- it has a place
        pub next_placed : HasPlace t (get_or handles n d)
        next_placed = are.placed (get_or handles n d) has

        module _ (s at : ℕ) (place : IsPlace t (get_or handles n d) s at) where
          -- at which a lookup has to look
          pub next_near : HasToLook p a (wanted_by.Key key) s at
          next_near = candidate_near (get_or handles n d) has s at place

          -- a row stands there, whose index a u64 counts
          small : tables.AreInOrder (λ _. ⊥) t → s < 2 ^ 64
          small order =
              let row = the_some (slice_get (tables.rows_of t s) at) (all_at (λ r. (s ≤ r.index) × (r.index < 2 ^ 64)) (λ r. IsTrue (eq (word key) (word (key_bytes r.key)))) (tables.rows_of t s) at (order.low s) (are.found (get_or handles n d) has s at place)) in
              omega (arith, row.2.0.0, row.2.0.1)

          -- the record there was read
          module _ (order : tables.AreInOrder (λ _. ⊥) t) (sized : (k : K) → length (key_bytes k) ≡ (p.see a).key_size) (old mid new : D) (so_far : HasReadOthers (take n handles) old mid) where
            walked : (r : Result (IndexRecord K) Error) → ReadsRecordAt p dev key_bytes a s at r mid new → Walked p dev a (IsIndexOf (filing_by p a).layout (HasToLookIn p dev a (wanted_by.Key key))) NoBound old new
            walked r reads = record_walked_on (wanted_by.Key key) s at (small order) next_near key_bytes old mid new r so_far.walked reads

            -- its key is that of the record on the disk, as it was at first
            keyed : (r : IndexRecord K) → ReadsRecordAt p dev key_bytes a s at (Ok r) mid new → dev.Tells → HasKeyAt (p.see a) (disk (dev.time old)) s (key_bytes r.key) at
            keyed r reads told = subst (λ (x : Disk). HasKeyAt (p.see a) x s (key_bytes r.key) at) (unchanged_now _ _ (so_far.walked.unchanged told)) (key_there p dev key_bytes a s at mid new sized r reads.ends r.key refl told)

            -- it has another key too
            pub other_more : (r : IndexRecord K) → ReadsRecordAt p dev key_bytes a s at (Ok r) mid new → key_bytes r.key ≢ key → HasReadOthers (take (n + 1) handles) old new
            other_more r reads other = subst (λ (hs : List Handle). HasReadOthers hs old new) (sym (take_more handles n d next)) (record {
              walked = walked (Ok r) reads;
              other = λ told k in_k s' at' place'. elim (Contains-push_cases (take n handles) (get_or handles n d) k in_k) as (λ _. HasOtherKeyAt (p.see a) (disk (dev.time old)) s' key at') [
                | inl before ↦ so_far.other told k before s' at' place'
                | inr last ↦
                    let one_section : s ≡ s' = same_Some s s' (sym place.section ∙ ap (λ (j : Handle). slice_get t.slots.sections.items (slot_of j)) last ∙ place'.section) in
                    let one_position : at ≡ at' = sym place.position ∙ ap position_of last ∙ place'.position in
                    subst₂ (λ (m q : ℕ). HasOtherKeyAt (p.see a) (disk (dev.time old)) m key q) one_section one_position
                    (weaker_at (slice_get (list_of (p.see a).pair (disk (dev.time old)) s) at) (λ e same equal. other (sym same ∙ equal)) (keyed r reads told))
              ];
              idle = λ none. absurd (not_nil (take n handles) (get_or handles n d) none);
            })

            -- it is the wanted one
            pub key_found : (r : IndexRecord K) → ReadsRecordAt p dev key_bytes a s at (Ok r) mid new → key_bytes r.key ≡ key → FindsKey p dev key_bytes a key (Ok (Some (s, r))) old new
            key_found r reads same = record {
              over = reads.over;
              unchanged = (walked (Ok r) reads).unchanged;
              footprint = (walked (Ok r) reads).footprint;
              none = λ far. absurd (far (s, at, next_near, tt));
              ends = record { at = at; near = next_near; stands = stood_before p dev a key_bytes s at old mid so_far.walked.unchanged r reads.ends; same = same };
            }

            -- it could not be read
            pub key_unread : (e : Error) → ReadsRecordAt p dev key_bytes a s at (Err e) mid new → (r : Result (Option (ℕ × IndexRecord K)) Error) → r ≡ Err e → FindsKey p dev key_bytes a key r old new
            key_unread e reads r same = subst (λ (x : Result (Option (ℕ × IndexRecord K)) Error). FindsKey p dev key_bytes a key x old new) (sym same) (record {
              over = reads.over;
              unchanged = (walked (Err e) reads).unchanged;
              footprint = (walked (Err e) reads).footprint;
              none = λ far. absurd (far (s, at, next_near, tt));
              ends = no_record_since p dev a old mid new so_far.walked.footprint.faults e reads.ends;
            })
