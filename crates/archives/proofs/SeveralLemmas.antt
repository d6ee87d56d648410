-- Lookups of all records at an index, one record after another: what was read so far, and how they end.
use Rattle.std.proofs.Common.{◌≡◌, ◌≢◌, ◌↔◌, inl, inr, refl, sym, ◌∙◌, ap, subst, ℕ, ◌+◌, ◌*◌, ◌/◌, ◌<◌, ◌≤◌, ◌^◌, Bool, true, false, List, [], ◌∷◌, ◌++◌, map, length, take, get_or, slice_get, Option, None, Some, IsSomeAnd, IsTrue, Result, Ok, Err, arith}
use Rattle.std.specs.Prelude.{⊤, IfSome}
use Rattle.std.specs.List.{AllByRecursion}
use Rattle.std.specs.Option.{option_map}
use Rattle.std.proofs.lemmas.Bool.{false≢true}
use Rattle.std.proofs.lemmas.List.{take_all, take_more}
use Rattle.std.proofs.lemmas.Nat.{mul-le}
use Rattle.blob_device.specs.Disk.{Disk, Key}
use Rattle.blob_device.specs.Footprint.{AtLeastBound, AtMostBoth, Footprint, NoBound}
use Rattle.blob_device.specs.Timeline.{disk}
use Rattle.blob_device.specs.declared.device.Device as device
use Rattle.blob_device.specs.lemmas.Footprint.{footprint_none, footprint_then, footprint_wider}
use Rattle.blob_device.specs.lemmas.Moments.{always_start}
use Rattle.sealed_pages.specs.Reading.{Unchanged}
use Rattle.sealed_pages.specs.declared.page_blob.PageBlob.{PageBlob}
use Rattle.sealed_pages.specs.lemmas.looking.Looking.{unchanged_now, unchanged_then}
use Rattle.section_manager.specs.Sections.{section_key}
use Rattle.paired.specs.Crashes.{IsBlobOf, IsIndexOf, IsOwn}
use Rattle.paired.specs.Pair.{list_of}
use Rattle.record_tables.specs.Rows.{ArePositions}
use Rattle.archives.specs.Archives.{state_of}
use Rattle.archives.specs.Changes.{AskEnds, IsUnanswered, outcome, state_over}
use Rattle.archives.specs.Commands.{All}
use Rattle.archives.specs.Commands as command
use Rattle.archives.specs.Entries.{AllEnd, EntriesEnd, GetsAll, GetsEntries, HasAt, LooksAt, ReadsEntry, ReadsRecordAlone, ReadsRecordAt, ReadsRecords, ReadsRecordsAlone, count_at}
use Rattle.archives.specs.Finding.{Index}
use Rattle.archives.specs.Gets.{HasEnds, HasNoRecord, HasNotRead, HasToLookIn, IsLookupCause, IsSectionBlob, Reads, ReadsRecord, SomeToLookAt}
use Rattle.archives.specs.Machine.{ContainsAt, entries_at, section_of}
use Rattle.archives.specs.Prunable.{HasToLook, IsOver, Prunable, filing_by, meaning}
use Rattle.archives.specs.Refusing.{IsFault}
use Rattle.archives.specs.Replies as reply
use Rattle.archives.specs.Rows.{count_with}
use Rattle.archives.specs.declared.error.Error.{Error}
use Rattle.archives.specs.declared.error.Error.TheVariants.{Mem}
use Rattle.archives.specs.declared.prunable.index_record.IndexRecord.{IndexRecord}
use Rattle.archives.proofs.EntryLemmas.{key_there}
use Rattle.archives.proofs.positions.PositionEntries.{HasKeyAt, HasOtherKeyAt, IsEntry, at_both, entries_of_positions, no_entries, none_both, some_entries, values_allowed, values_spelled}
use Rattle.archives.proofs.positions.PositionLemmas.{AreEach, count_positions, each_push, row_at, standing, standing_rows}
use Rattle.archives.proofs.read.Finding.{both_at}
use Rattle.archives.proofs.read.Records.{weaker_at}
use Rattle.archives.proofs.ReadsLemmas.{lookup_cause, no_record}
use Rattle.archives.proofs.ValueLemmas.{no_record_since, unread_since}
use Rattle.blob_device.proofs.general.Lists.{all_push}
use Rattle.blob_device.proofs.general.Numbers.{times_next}

-- ---- no answer

-- want of memory is no fault
not_fault : IsFault Mem → ⊥
not_fault (inl is) = cc is
not_fault (inr is) = cc is

module _ {A V F S D : Type 0} {gs : _} (p : Prunable A V F (PageBlob S gs)) (dev : device.Ghosts D) (a : A) where
  pub short_of_memory : (old new : D) → IsUnanswered (meaning p) dev a Mem old new
  short_of_memory old new = record { gives = λ t sound. inl refl; fault = λ is. absurd (not_fault is) }

  -- ---- what was read so far

  -- No blob's history has changed, only blobs that may be read were, each so often, and the archive may still be used.
  pub record Walked (MayTouch : Key → Type 0) (AtMost : Key → ℕ → Type 0) (old new : D) : Type 0 where
    pub over : IsOver p dev a new
    pub unchanged : dev.Tells → Unchanged (dev.time old) (dev.time new)
    pub footprint : Footprint dev MayTouch AtMost old new

  pub not_walked : (MayTouch : Key → Type 0) (AtMost : Key → ℕ → Type 0) (old : D) → IsOver p dev a old → Walked MayTouch AtMost old old
  not_walked MayTouch AtMost old over = record {
    over = over;
    unchanged = λ t. always_start (dev.time old) (λ x. x ≡ disk (dev.time old)) refl;
    footprint = footprint_none dev MayTouch AtMost old old refl;
  }

  -- as many records at the index were read, without their values
  abbrev pub KeysWalked : ℕ → ℕ → ℕ → D → D → Type 0
  KeysWalked i s n old new = Walked (IsIndexOf (filing_by p a).layout (HasToLookIn p dev a (Index i))) (ReadsRecordsAlone (filing_by p a).layout s n) old new

  module _ (i s : ℕ) (here : s ≡ section_of (p.see a).items i) (small : s < 2 ^ 64) where
    -- a lookup at the index has to look at each row that has it
    pub has_to_look : (at : ℕ) → IsSomeAnd (slice_get ((p.see a).rows s) at) (λ r. r.index ≡ i) → HasToLook p a (Index i) s at
    has_to_look at row = weaker_at (slice_get ((p.see a).rows s) at) (λ r is. (here, is)) row

    module _ (at : ℕ) (row : IsSomeAnd (slice_get ((p.see a).rows s) at) (λ r. r.index ≡ i)) where
      near : (q : Key) → IsSectionBlob (filing_by p a).layout s q → IsBlobOf (filing_by p a).layout (HasToLookIn p dev a (Index i)) q
      near q (inl is) = inl (s, small, (at, has_to_look at row), is)
      near q (inr is) = inr (s, small, (at, has_to_look at row), is)

      -- ---- a record could not be read

      module _ (MayTouch : Key → Type 0) (AtMost : Key → ℕ → Type 0) (old mid new : D) (walked : Walked MayTouch AtMost old mid) (e : Error) (why : HasNotRead p dev a s at e mid new) where
        unread : HasNotRead p dev a s at e old new
        unread = unread_since p dev a s at old mid new walked.unchanged walked.footprint.faults e why

        unread_cause : IsLookupCause p dev a (Index i) old new e
        unread_cause = lookup_cause p dev a (Index i) s at (has_to_look at row) old new e unread

        unread_unanswered : IsUnanswered (meaning p) dev a e old new
        unread_unanswered = unread.unanswered

      -- ---- one record more

      one_reads : (n : ℕ) (q : Key) (m : ℕ) → ReadsRecordsAlone (filing_by p a).layout s (n + 1) q m → AtMostBoth (ReadsRecordsAlone (filing_by p a).layout s n) (ReadsRecordAlone (filing_by p a).layout s) q m
      one_reads n q m is = record {
        before = n * ((filing_by p a).layout.record_size / (filing_by p a).layout.page_size + 2);
        after = (filing_by p a).layout.record_size / (filing_by p a).layout.page_size + 2;
        first = (is.0, refl);
        second = (is.0, refl);
        sum = is.1 ∙ times_next n ((filing_by p a).layout.record_size / (filing_by p a).layout.page_size + 2);
      }

      both_reads : (n : ℕ) (q : Key) (m : ℕ) → ReadsRecords (filing_by p a).layout s (n + 1) q m → AtMostBoth (ReadsRecords (filing_by p a).layout s n) (ReadsRecord (filing_by p a).layout s) q m
      both_reads n q m (inl is) = let one = one_reads n q m is in record { before = one.before; after = one.after; first = inl one.first; second = inl one.second; sum = one.sum }
      both_reads n q m (inr is) = record { before = n; after = 1; first = inr (is.0, refl); second = inr (is.0, refl); sum = omega (arith, is.1) }

      -- with its value
      pub entry_walked : (n : ℕ) (old mid new : D) (r : Result V Error) → Walked (IsBlobOf (filing_by p a).layout (HasToLookIn p dev a (Index i))) (ReadsRecords (filing_by p a).layout s n) old mid → Reads p dev a s at r mid new
          → Walked (IsBlobOf (filing_by p a).layout (HasToLookIn p dev a (Index i))) (ReadsRecords (filing_by p a).layout s (n + 1)) old new
      entry_walked n old mid new r walked reads =
          let l = (filing_by p a).layout in
          let Blobs : Key → Type 0 = IsBlobOf l (HasToLookIn p dev a (Index i)) in
          record {
            over = reads.over;
            unchanged = λ t. unchanged_then _ _ _ (walked.unchanged t) (reads.unchanged t);
            footprint = footprint_wider dev Blobs Blobs (AtMostBoth (ReadsRecords l s n) (ReadsRecord l s)) (ReadsRecords l s (n + 1)) old new (λ q is. is) (λ q m more. record { bound = m; holds = both_reads n q m more; within = omega arith })
                (footprint_then dev Blobs (ReadsRecords l s n) (ReadsRecord l s) old mid new walked.footprint
                (footprint_wider dev (IsSectionBlob l s) Blobs (ReadsRecord l s) (ReadsRecord l s) mid new near (λ q m is. record { bound = m; holds = is; within = omega arith }) reads.footprint));
          }

      -- and without
      pub record_walked : {K : Type 0} (key_bytes : K → List ℕ) (n : ℕ) (old mid new : D) (r : Result (IndexRecord K) Error) → KeysWalked i s n old mid → ReadsRecordAt p dev key_bytes a s at r mid new → KeysWalked i s (n + 1) old new
      record_walked key_bytes n old mid new r walked reads =
          let l = (filing_by p a).layout in
          let Blobs : Key → Type 0 = IsIndexOf l (HasToLookIn p dev a (Index i)) in
          record {
            over = reads.over;
            unchanged = λ t. unchanged_then _ _ _ (walked.unchanged t) (reads.unchanged t);
            footprint = footprint_wider dev Blobs Blobs (AtMostBoth (ReadsRecordsAlone l s n) (ReadsRecordAlone l s)) (ReadsRecordsAlone l s (n + 1)) old new (λ q is. is) (λ q m more. record { bound = m; holds = one_reads n q m more; within = omega arith })
                (footprint_then dev Blobs (ReadsRecordsAlone l s n) (ReadsRecordAlone l s) old mid new walked.footprint
                (footprint_wider dev (λ q. q ≡ section_key l.index s) Blobs (ReadsRecordAlone l s) (ReadsRecordAlone l s) mid new (λ q is. (s, small, (at, has_to_look at row), is)) (λ q m is. record { bound = m; holds = is; within = omega arith }) reads.footprint));
          }

    -- ---- what all of it comes to

    -- so many records were read, of those at the positions
    module _ (ps : List ℕ) (are : ArePositions ((p.see a).rows s) i ps) (n : ℕ) (few : n ≤ length ps) where
      within : n ≤ count_at p dev a i
      within = subst (λ (t : ℕ). n ≤ count_with ((p.see a).rows t) i) here (omega (arith, few, count_positions ((p.see a).rows s) i ps are))

      fewer_alone : (q : Key) (m : ℕ) → ReadsRecordsAlone (filing_by p a).layout (section_of (p.see a).items i) (count_at p dev a i) q m → AtLeastBound (ReadsRecordsAlone (filing_by p a).layout s n) q m
      fewer_alone q m is =
          let most = mul-le n ((filing_by p a).layout.record_size / (filing_by p a).layout.page_size + 2) (count_at p dev a i) ((filing_by p a).layout.record_size / (filing_by p a).layout.page_size + 2) within (omega arith) in
          record { bound = n * ((filing_by p a).layout.record_size / (filing_by p a).layout.page_size + 2); holds = (is.0 ∙ ap (section_key (filing_by p a).layout.index) (sym here), refl); within = omega (arith, most, is.1) }

      fewer : (q : Key) (m : ℕ) → ReadsRecords (filing_by p a).layout (section_of (p.see a).items i) (count_at p dev a i) q m → AtLeastBound (ReadsRecords (filing_by p a).layout s n) q m
      fewer q m (inl is) = let one = fewer_alone q m is in record { bound = one.bound; holds = inl one.holds; within = one.within }
      fewer q m (inr is) = record { bound = n; holds = inr (is.0 ∙ ap (section_key (filing_by p a).layout.values) (sym here), refl); within = omega (arith, within, is.1) }

      -- with their values
      module _ (old new : D) (walked : Walked (IsBlobOf (filing_by p a).layout (HasToLookIn p dev a (Index i))) (ReadsRecords (filing_by p a).layout s n) old new) where
        -- as a lookup that had to look at one
        pub looked : (at : ℕ) → IsSomeAnd (slice_get ((p.see a).rows s) at) (λ r. r.index ≡ i) → (Nothing : Type 0) → LooksAt p dev a i Nothing old new
        looked at row Nothing = record {
          footprint = footprint_wider dev Blobs Blobs (ReadsRecords (filing_by p a).layout s n) (ReadsRecords (filing_by p a).layout (section_of (p.see a).items i) (count_at p dev a i)) old new (λ q is. is) fewer walked.footprint;
          none = λ far. absurd (far (s, at, has_to_look at row, tt));
        }
          where
            Blobs : Key → Type 0
            Blobs = IsBlobOf (filing_by p a).layout (HasToLookIn p dev a (Index i))

        -- however it ended
        pub entries_ended : {K : Type 0} (key_bytes : K → List ℕ) (at : ℕ) → IsSomeAnd (slice_get ((p.see a).rows s) at) (λ r. r.index ≡ i) → (r : Result (Option (List (K × V))) Error) → EntriesEnd p dev key_bytes a i r old new → GetsEntries p dev key_bytes a i r old new
        entries_ended key_bytes at row r ends = record { over = walked.over; unchanged = walked.unchanged; looks = looked at row (r ≡ Ok None); ends = ends }

      -- and without
      module _ (key : List ℕ) (old new : D) (walked : KeysWalked i s n old new) where
        at_ended : (r : Result Bool Error) → ((SomeToLookAt p dev a (Index i) (λ s at. ⊤) → ⊥) → (r ≡ Ok false) × (new ≡ old)) → AskEnds (meaning p) dev a (command.HasAt i key) reply.Flag r old new → HasEnds p dev a r old new → HasAt p dev a i key r old new
        at_ended r none answer ends = record {
          asks = record {
            over = walked.over;
            unchanged = walked.unchanged;
            footprint = footprint_wider dev Blobs (IsOwn (filing_by p a).layout (λ _. ⊤)) (ReadsRecordsAlone (filing_by p a).layout s n) NoBound old new (λ q (s, small, looks, is). inl (s, small, tt, is)) (λ q n none. absurd none) walked.footprint;
            ends = answer;
          };
          footprint = footprint_wider dev Blobs Blobs (ReadsRecordsAlone (filing_by p a).layout s n) (ReadsRecordsAlone (filing_by p a).layout (section_of (p.see a).items i) (count_at p dev a i)) old new (λ q is. is) fewer_alone walked.footprint;
          none = none;
          ends = ends;
        }
          where
            Blobs : Key → Type 0
            Blobs = IsIndexOf (filing_by p a).layout (HasToLookIn p dev a (Index i))

        -- it told
        pub at_told : (flag : Bool) → ((SomeToLookAt p dev a (Index i) (λ s at. ⊤) → ⊥) → (◌≡◌ {A = Result Bool Error} (Ok flag) (Ok false)) × (new ≡ old)) → (dev.Tells → IsTrue flag ↔ ContainsAt (p.see a).items (state_over (meaning p) dev a old) i key) → HasAt p dev a i key (Ok flag) old new
        at_told flag none tells = at_ended (Ok flag) none (λ t. (tells t, ap (state_of (p.see a)) (unchanged_now _ _ (walked.unchanged t)))) tt

        -- there is no answer, of one record at least
        pub at_untold : (at : ℕ) → IsSomeAnd (slice_get ((p.see a).rows s) at) (λ r. r.index ≡ i) → (e : Error) (r : Result Bool Error) → r ≡ Err e → HasNoRecord p dev a e old new → HasAt p dev a i key r old new
        at_untold at row e r is why = subst (λ (x : Result Bool Error). HasAt p dev a i key x old new) (sym is) (at_ended (Err e) (λ far. absurd (far (s, at, has_to_look at row, tt))) why.unanswered why.cause)

  -- ---- key and value of one record after another

  -- Of records at the positions key and value were read, in order, and nothing else.
  pub record HasReadEntries {K : Type 0} (key_bytes : K → List ℕ) (i s n : ℕ) (ps : List ℕ) (es : List (K × V)) (old new : D) : Type 0 where
    pub walked : Walked (IsBlobOf (filing_by p a).layout (HasToLookIn p dev a (Index i))) (ReadsRecords (filing_by p a).layout s n) old new
    pub read : dev.Tells → AreEach (λ at e. IsEntry (p.see a) (disk (dev.time old)) s (key_bytes e.0, p.spelling e.1) at) ps es
    pub accepted : AllByRecursion (λ e. p.Accepts a e.1) es

  module _ {K : Type 0} (key_bytes : K → List ℕ) (i s : ℕ) (here : s ≡ section_of (p.see a).items i) (small : s < 2 ^ 64) (old : D) where
    -- there is no position
    pub no_entries_at : IsOver p dev a old → (ps : List ℕ) → ArePositions ((p.see a).rows s) i ps → ps ≡ [] → GetsEntries p dev key_bytes a i (Ok None) old old
    no_entries_at over ps are none = record {
      over = over;
      unchanged = λ t. always_start (dev.time old) (λ x. x ≡ disk (dev.time old)) refl;
      looks = record { footprint = footprint_none dev (IsBlobOf (filing_by p a).layout (HasToLookIn p dev a (Index i))) _ old old refl; none = λ far. (refl, refl) };
      ends = record {
        entries = λ t. no_entries (entries_at (p.see a).items (state_over (meaning p) dev a old) i)
            (entries_of_positions (p.see a) (disk (dev.time old)) (over.listed t) i s here (λ (e : List ℕ × List ℕ). e) [] [] (subst (ArePositions ((p.see a).rows s) i) none are) tt);
        accepted = tt;
      };
    }

    -- memory was short for the positions, of which there is one
    pub positions_short : IsOver p dev a old → (at : ℕ) → IsSomeAnd (slice_get ((p.see a).rows s) at) (λ r. r.index ≡ i) → (r : Result (Option (List (K × V))) Error) → r ≡ Err Mem → GetsEntries p dev key_bytes a i r old old
    positions_short over at row r is = subst (λ (x : Result (Option (List (K × V))) Error). GetsEntries p dev key_bytes a i x old old) (sym is)
        (entries_ended i s here small (standing (λ x. x.index) i 0 ((p.see a).rows s)) (standing_rows ((p.see a).rows s) i) 0 (omega arith) old old
        (not_walked (IsBlobOf (filing_by p a).layout (HasToLookIn p dev a (Index i))) (ReadsRecords (filing_by p a).layout s 0) old over) key_bytes at row (Err Mem) (record { cause = tt; unanswered = short_of_memory old old }))

    -- nothing was read yet
    pub none_read : IsOver p dev a old → (es : List (K × V)) → es ≡ [] → HasReadEntries key_bytes i s 0 [] es old old
    none_read over es is = subst (λ (x : List (K × V)). HasReadEntries key_bytes i s 0 [] x old old) (sym is) (record { walked = not_walked _ _ old over; read = λ t. tt; accepted = tt })

    -- A walk over the positions has come to the next: n entries were read before it.
    module _ (ps : List ℕ) (are : ArePositions ((p.see a).rows s) i ps) (items : List ℕ) (same : items ≡ ps) (n : ℕ) (next : n < length items) (es : List (K × V)) (mid new : D) (so_far : HasReadEntries key_bytes i s n (take n items) es old mid) where
      few : n < length ps
      few = subst (λ (x : List ℕ). n < length x) same next

      row : IsSomeAnd (slice_get ((p.see a).rows s) (get_or items n 0)) (λ r. r.index ≡ i)
      row = row_at ((p.see a).rows s) i ps are items same n next

      walked_more : (r : Result (K × V) Error) → ReadsEntry p dev key_bytes a s (get_or items n 0) r mid new → Walked (IsBlobOf (filing_by p a).layout (HasToLookIn p dev a (Index i))) (ReadsRecords (filing_by p a).layout s (n + 1)) old new
      walked_more r reads = entry_walked i s here small (get_or items n 0) row n old mid new (outcome (λ e. e.1) r) so_far.walked reads.reads

      -- its entry was read
      pub entry_more : (e : K × V) → ReadsEntry p dev key_bytes a s (get_or items n 0) (Ok e) mid new → (grown : List (K × V)) → grown ≡ es ++ e ∷ [] → HasReadEntries key_bytes i s (n + 1) (take (n + 1) items) grown old new
      entry_more e reads grown is = subst (λ (x : List ℕ × List (K × V)). HasReadEntries key_bytes i s (n + 1) x.0 x.1 old new) (sym (λ j. (take_more items n 0 next j, is j))) (record {
        walked = walked_more (Ok e) reads;
        read = λ t. each_push (λ q y. IsEntry (p.see a) (disk (dev.time old)) s (key_bytes y.0, p.spelling y.1) q) (take n items) es (get_or items n 0) e (so_far.read t)
            (subst (λ (d : Disk). IsEntry (p.see a) d s (key_bytes e.0, p.spelling e.1) (get_or items n 0)) (unchanged_now _ _ (so_far.walked.unchanged t)) (both_at _ _ _ (reads.key t) (reads.reads.ends.value t)));
        accepted = all_push (λ x. p.Accepts a x.1) es e so_far.accepted reads.reads.ends.accepted;
      })

      -- it could not be read
      pub entry_unread : (e : Error) → ReadsEntry p dev key_bytes a s (get_or items n 0) (Err e) mid new → (r : Result (Option (List (K × V))) Error) → r ≡ Err e → GetsEntries p dev key_bytes a i r old new
      entry_unread e reads r is = subst (λ (x : Result (Option (List (K × V))) Error). GetsEntries p dev key_bytes a i x old new) (sym is)
          (entries_ended i s here small ps are (n + 1) (omega (arith, few)) old new (walked_more (Err e) reads) key_bytes (get_or items n 0) row (Err e) (record {
            cause = unread_cause i s here small (get_or items n 0) row _ _ old mid new so_far.walked e reads.reads.ends;
            unanswered = unread_unanswered i s here small (get_or items n 0) row _ _ old mid new so_far.walked e reads.reads.ends;
          }))

      -- memory was short for the list
      pub entry_short : (e : K × V) → ReadsEntry p dev key_bytes a s (get_or items n 0) (Ok e) mid new → (r : Result (Option (List (K × V))) Error) → r ≡ Err Mem → GetsEntries p dev key_bytes a i r old new
      entry_short e reads r is = subst (λ (x : Result (Option (List (K × V))) Error). GetsEntries p dev key_bytes a i x old new) (sym is)
          (entries_ended i s here small ps are (n + 1) (omega (arith, few)) old new (walked_more (Ok e) reads) key_bytes (get_or items n 0) row (Err Mem) (record { cause = tt; unanswered = short_of_memory old new }))

    -- all were read, of one position at least
    pub entries_done : IsOver p dev a old → (ps : List ℕ) → ArePositions ((p.see a).rows s) i ps → ps ≢ [] → (items : List ℕ) → items ≡ ps → (n : ℕ) → n ≤ length items → length items ≤ n → (es : List (K × V)) (new : D) → HasReadEntries key_bytes i s n (take n items) es old new
        → (given : List (K × V)) → given ≡ es → GetsEntries p dev key_bytes a i (Ok (Some given)) old new
    entries_done over ps are some items same n most all es new so_far given is =
        subst (λ (x : List (K × V)). GetsEntries p dev key_bytes a i (Ok (Some x)) old new) (sym is)
        (go ps es are some (subst (λ (x : List ℕ). n ≤ length x) same most) (subst (λ (x : List ℕ). HasReadEntries key_bytes i s n x es old new) (take_all n items all ∙ same) so_far))
      where
        go : (xs : List ℕ) (ys : List (K × V)) → ArePositions ((p.see a).rows s) i xs → xs ≢ [] → n ≤ length xs → HasReadEntries key_bytes i s n xs ys old new → GetsEntries p dev key_bytes a i (Ok (Some ys)) old new
        go [] ys there any fit read = absurd (any refl)
        go (x ∷ xs) [] there any fit read =
            entries_ended i s here small (x ∷ xs) there n fit old new read.walked key_bytes x ((there.exact x).0 (0, omega arith, refl)) (Ok (Some [])) (record { entries = λ t. absurd (read.read t); accepted = tt })
        go (x ∷ xs) (y ∷ ys) there any fit read =
            let g : K × V → List ℕ × List ℕ = λ e. (key_bytes e.0, p.spelling e.1) in
            entries_ended i s here small (x ∷ xs) there n fit old new read.walked key_bytes x ((there.exact x).0 (0, omega arith, refl)) (Ok (Some (y ∷ ys))) (record {
              entries = λ t. some_entries (entries_at (p.see a).items (state_over (meaning p) dev a old) i) (g y) (map g ys)
                  (entries_of_positions (p.see a) (disk (dev.time old)) (over.listed t) i s here g (x ∷ xs) (y ∷ ys) there (read.read t));
              accepted = read.accepted;
            })

  -- ---- the values of all of them

  module _ {K : Type 0} (key_bytes : K → List ℕ) (i : ℕ) (old new : D) where
    own : (q : Key) → IsBlobOf (filing_by p a).layout (HasToLookIn p dev a (Index i)) q → IsOwn (filing_by p a).layout (λ _. ⊤) q
    own q (inl (s, small, looks, is)) = inl (s, small, tt, is)
    own q (inr (s, small, looks, is)) = inr (inl (s, small, tt, is))

    all_ended : (found : Result (Option (List (K × V))) Error) (r : Result (Option (List V)) Error) → GetsEntries p dev key_bytes a i found old new → (found ≡ Ok None → r ≡ Ok None)
        → AskEnds (meaning p) dev a (All i) (λ vs. reply.Values (option_map (map p.spelling) vs)) r old new → AllEnd p dev a i r old new → GetsAll p dev a i r old new
    all_ended found r entries nothing answer ends = record {
      asks = record {
        over = entries.over;
        unchanged = entries.unchanged;
        footprint = footprint_wider dev (IsBlobOf (filing_by p a).layout (HasToLookIn p dev a (Index i))) (IsOwn (filing_by p a).layout (λ _. ⊤)) _ NoBound old new own (λ q n none. absurd none) entries.looks.footprint;
        ends = answer;
      };
      looks = record { footprint = entries.looks.footprint; none = λ far. (let none = entries.looks.none far in (nothing none.0, none.1)) };
      ends = ends;
    }

    -- no entry could be read
    pub all_unread : (e : Error) (r : Result (Option (List V)) Error) → r ≡ Err e → GetsEntries p dev key_bytes a i (Err e) old new → GetsAll p dev a i r old new
    all_unread e r is entries = subst (λ (x : Result (Option (List V)) Error). GetsAll p dev a i x old new) (sym is)
        (all_ended (Err e) (Err e) entries (λ no. absurd (cc no)) entries.ends.unanswered entries.ends.cause)

    -- memory was short for the list of values
    pub all_short : (found : Option (List (K × V))) (es : List (K × V)) → found ≡ Some es → GetsEntries p dev key_bytes a i (Ok found) old new → (r : Result (Option (List V)) Error) → r ≡ Err Mem → GetsAll p dev a i r old new
    all_short found es some entries r is = subst (λ (x : Result (Option (List V)) Error). GetsAll p dev a i x old new) (sym is)
        (all_ended (Ok found) (Err Mem) entries (λ none. absurd (cc (none, some))) (short_of_memory old new) tt)

    -- they are those of the entries
    all_done : (found : Option (List (K × V))) (values : Option (List V)) → values ≡ option_map (map (λ e. e.1)) found → GetsEntries p dev key_bytes a i (Ok found) old new → GetsAll p dev a i (Ok values) old new
    all_done found values is entries = all_ended (Ok found) (Ok values) entries nothing
        (λ t. (
          ap (option_map (map p.spelling)) is ∙ values_spelled key_bytes p.spelling found (entries_at (p.see a).items (state_over (meaning p) dev a old) i) (entries.ends.entries t),
          ap (state_of (p.see a)) (unchanged_now _ _ (entries.unchanged t)),
        ))
        (subst (λ (o : Option (List V)). IfSome o (AllByRecursion (p.Accepts a))) (sym is) (values_allowed key_bytes p.spelling (p.Accepts a) found entries.ends.accepted))
      where
        nothing : ◌≡◌ {A = Result (Option (List (K × V))) Error} (Ok found) (Ok None) → ◌≡◌ {A = Result (Option (List V)) Error} (Ok values) (Ok None)
        nothing same =
            let ok : Option (List V) → Result (Option (List V)) Error = λ o. Ok o in
            let none : found ≡ None = cc same in
            ap ok (is ∙ ap (option_map (map (λ (e : K × V). e.1))) none)

    pub all_some : (found : Option (List (K × V))) (es : List (K × V)) (values : List V) → found ≡ Some es → values ≡ map (λ e. e.1) es → GetsEntries p dev key_bytes a i (Ok found) old new → GetsAll p dev a i (Ok (Some values)) old new
    all_some found es values some is =
        let one : List V → Option (List V) = λ l. Some l in
        all_done found (Some values) (ap one is ∙ sym (ap (option_map (map (λ (e : K × V). e.1))) some))

    pub all_none : (found : Option (List (K × V))) → found ≡ None → GetsEntries p dev key_bytes a i (Ok found) old new → GetsAll p dev a i (Ok None) old new
    all_none found none = all_done found None (sym (ap (option_map (map (λ (e : K × V). e.1))) none))

  -- ---- the key of one record after another

  -- Of records at the positions the key was read, and is another than the wanted one.
  pub record HasReadKeys (i s : ℕ) (key : List ℕ) (n : ℕ) (ps : List ℕ) (old new : D) : Type 0 where
    pub walked : KeysWalked i s n old new
    pub start : n ≡ 0 → new ≡ old
    pub other : dev.Tells → AllByRecursion (HasOtherKeyAt (p.see a) (disk (dev.time old)) s key) ps

  module _ (i s : ℕ) (here : s ≡ section_of (p.see a).items i) (small : s < 2 ^ 64) (key : List ℕ) (old : D) where
    -- nothing was read yet
    pub no_key_read : IsOver p dev a old → HasReadKeys i s key 0 [] old old
    no_key_read over = record { walked = not_walked _ _ old over; start = λ none. refl; other = λ t. tt }

    -- memory was short for the positions, of which there is one
    pub places_short : IsOver p dev a old → (at : ℕ) → IsSomeAnd (slice_get ((p.see a).rows s) at) (λ r. r.index ≡ i) → (r : Result Bool Error) → r ≡ Err Mem → HasAt p dev a i key r old old
    places_short over at row r is =
        at_untold i s here small (standing (λ x. x.index) i 0 ((p.see a).rows s)) (standing_rows ((p.see a).rows s) i) 0 (omega arith) key old old (not_walked _ _ old over) at row Mem r is (no_record p dev a Mem old old tt)

    -- no record has both
    pub at_none : IsOver p dev a old → (ps : List ℕ) → ArePositions ((p.see a).rows s) i ps → (items : List ℕ) → items ≡ ps → (n : ℕ) → n ≤ length items → length items ≤ n → (new : D) → HasReadKeys i s key n (take n items) old new → HasAt p dev a i key (Ok false) old new
    at_none over ps are items same n most all new so_far = at_told i s here small ps are n fit key old new so_far.walked false (λ far. (refl, untouched ps are fit far))
        (λ t. (
          (λ yes. absurd (false≢true yes)),
          (λ has. absurd (none_both (p.see a) (disk (dev.time old)) (over.listed t) i s here key ps are (subst (AllByRecursion (HasOtherKeyAt (p.see a) (disk (dev.time old)) s key)) (take_all n items all ∙ same) (so_far.other t)) has)),
        ))
      where
        fit : n ≤ length ps
        fit = subst (λ (x : List ℕ). n ≤ length x) same most

        untouched : (xs : List ℕ) → ArePositions ((p.see a).rows s) i xs → n ≤ length xs → (SomeToLookAt p dev a (Index i) (λ s at. ⊤) → ⊥) → new ≡ old
        untouched [] there few far = so_far.start (omega (arith, few))
        untouched (x ∷ xs) there few far = absurd (far (s, x, has_to_look i s here small x ((there.exact x).0 (0, omega arith, refl)), tt))

    -- A walk over the positions has come to the next: the records at n were read before it, each of another key.
    module _ {K : Type 0} (key_bytes : K → List ℕ) (sized : (k : K) → length (key_bytes k) ≡ (p.see a).key_size) (over : IsOver p dev a old) (ps : List ℕ) (are : ArePositions ((p.see a).rows s) i ps) (items : List ℕ) (same : items ≡ ps) (n : ℕ)
        (next : n < length items) (mid new : D) (so_far : HasReadKeys i s key n (take n items) old mid) where
      fits_next : n + 1 ≤ length ps
      fits_next = let few = subst (λ (x : List ℕ). n < length x) same next in omega (arith, few)

      row_next : IsSomeAnd (slice_get ((p.see a).rows s) (get_or items n 0)) (λ r. r.index ≡ i)
      row_next = row_at ((p.see a).rows s) i ps are items same n next

      key_walked : (r : Result (IndexRecord K) Error) → ReadsRecordAt p dev key_bytes a s (get_or items n 0) r mid new → KeysWalked i s (n + 1) old new
      key_walked r reads = record_walked i s here small (get_or items n 0) row_next key_bytes n old mid new r so_far.walked reads

      keyed : (r : IndexRecord K) → ReadsRecordAt p dev key_bytes a s (get_or items n 0) (Ok r) mid new → dev.Tells → HasKeyAt (p.see a) (disk (dev.time old)) s (key_bytes r.key) (get_or items n 0)
      keyed r reads t = subst (λ (d : Disk). HasKeyAt (p.see a) d s (key_bytes r.key) (get_or items n 0)) (unchanged_now _ _ (so_far.walked.unchanged t)) (key_there p dev key_bytes a s (get_or items n 0) mid new sized r reads.ends r.key refl t)

      -- its key is another too
      pub key_more : (r : IndexRecord K) → ReadsRecordAt p dev key_bytes a s (get_or items n 0) (Ok r) mid new → key_bytes r.key ≢ key → HasReadKeys i s key (n + 1) (take (n + 1) items) old new
      key_more r reads other = subst (λ (x : List ℕ). HasReadKeys i s key (n + 1) x old new) (sym (take_more items n 0 next)) (record {
        walked = key_walked (Ok r) reads;
        start = λ none. absurd (let no : ⊥ = omega (arith, none) in no);
        other = λ t. all_push (HasOtherKeyAt (p.see a) (disk (dev.time old)) s key) (take n items) (get_or items n 0) (so_far.other t)
            (weaker_at (slice_get (list_of (p.see a).pair (disk (dev.time old)) s) (get_or items n 0)) (λ x is equal. other (sym is ∙ equal)) (keyed r reads t));
      })

      -- it is the wanted one
      pub at_found : (r : IndexRecord K) → ReadsRecordAt p dev key_bytes a s (get_or items n 0) (Ok r) mid new → key_bytes r.key ≡ key → HasAt p dev a i key (Ok true) old new
      at_found r reads equal = at_told i s here small ps are (n + 1) fits_next key old new (key_walked (Ok r) reads) true (λ far. absurd (far (s, get_or items n 0, has_to_look i s here small (get_or items n 0) row_next, tt)))
          (λ t. ((λ yes. at_both (p.see a) (disk (dev.time old)) (over.listed t) i s here key (get_or items n 0) row_next (subst (λ (k : List ℕ). HasKeyAt (p.see a) (disk (dev.time old)) s k (get_or items n 0)) equal (keyed r reads t))), (λ has. refl)))

      -- the record could not be read
      pub at_unread : (e : Error) → ReadsRecordAt p dev key_bytes a s (get_or items n 0) (Err e) mid new → (r : Result Bool Error) → r ≡ Err e → HasAt p dev a i key r old new
      at_unread e reads r is = at_untold i s here small ps are (n + 1) fits_next key old new (key_walked (Err e) reads) (get_or items n 0) row_next e r is
          (no_record_since p dev a old mid new so_far.walked.footprint.faults e reads.ends)
