-- What lookups by key promise, by the ways in which one ends: a search for the record, and the value of what it finds.
use Rattle.std.proofs.Common.{◌≡◌, ◌≢◌, inl, inr, refl, sym, ◌∙◌, ap, subst, ℕ, ◌+◌, ◌<◌, ◌≤◌, ◌^◌, Bool, false, List, length, Option, None, Some, Result, Ok, Err, arith}
use Rattle.std.specs.Prelude.{⊤}
use Rattle.std.specs.Option.{is_some, option_map}
use Rattle.std.proofs.lemmas.Bool.{false≢true}
use Rattle.blob_device.specs.Disk.{Key}
use Rattle.blob_device.specs.Footprint.{AtMostBoth, Footprint, NoBound}
use Rattle.blob_device.specs.Opened.{Opened, reads_of}
use Rattle.blob_device.specs.Timeline.{disk}
use Rattle.blob_device.specs.declared.device.Device as device
use Rattle.blob_device.specs.lemmas.Footprint.{footprint_then, footprint_wider}
use Rattle.blob_device.specs.lemmas.Puts.{same_or_other}
use Rattle.sealed_pages.specs.declared.page_blob.PageBlob.{PageBlob}
use Rattle.sealed_pages.specs.lemmas.looking.Looking.{unchanged_now, unchanged_then}
use Rattle.section_manager.specs.Sections.{section_key}
use Rattle.paired.specs.Crashes.{IsIndexOf, IsOwn}
use Rattle.archives.specs.Archives.{state_of}
use Rattle.archives.specs.Changes.{AskEnds}
use Rattle.archives.specs.Commands.{GetKey, HasKey}
use Rattle.archives.specs.Entries.{FindsKey, ReadsValueOf}
use Rattle.archives.specs.Finding.{IsAt}
use Rattle.archives.specs.Finding as wanted
use Rattle.archives.specs.Gets.{GetEnds, Gets, Has, HasEnds, HasToLookIn, IsIndexOrValues, ReadEnds, ReadsValueAlone, ReadsWanted, SomeToLookAt}
use Rattle.archives.specs.Prunable.{IsOver, Prunable, filing_by, meaning}
use Rattle.archives.specs.Replies as reply
use Rattle.archives.specs.declared.error.Error.{Error}
use Rattle.archives.specs.declared.prunable.index_record.IndexRecord.{IndexRecord}
use Rattle.archives.proofs.EntryLemmas.{key_there}
use Rattle.archives.proofs.positions.PositionEntries.{HasKeyAt}
use Rattle.archives.proofs.read.Causes.{cause_of_record}
use Rattle.archives.proofs.read.Finding.{from_list, has_key, key_found, key_none}
use Rattle.archives.proofs.ReadsLemmas.{lookup_cause}
use Rattle.archives.proofs.ValueLemmas.{read_since, still_stands}

module _ {A V F S D K : Type 0} {gs : _} (p : Prunable A V F (PageBlob S gs)) (dev : device.Ghosts D) (key_bytes : K → List ℕ) (a : A) (key : List ℕ) (old : D) (over : IsOver p dev a old) where
  -- a section with a record whose key has the word
  abbrev Near : ℕ → Type 0
  Near = HasToLookIn p dev a (wanted.Key key)

  index_own : (q : Key) → IsIndexOf (filing_by p a).layout Near q → IsOwn (filing_by p a).layout (λ _. ⊤) q
  index_own q (s, small, looks, is) = inl (s, small, tt, is)

  -- the record that was found has the key
  found_at : ((k : K) → length (key_bytes k) ≡ (p.see a).key_size) → (mid : D) (s : ℕ) (r : IndexRecord K) (finds : FindsKey p dev key_bytes a key (Ok (Some (s, r))) old mid) → dev.Tells → IsAt (p.see a) (wanted.Key key) s finds.ends.at
  found_at sized mid s r finds t = from_list (p.see a) (disk (dev.time old)) (over.listed t) (λ x. x.key ≡ key) s finds.ends.at
      (subst (λ (k : List ℕ). HasKeyAt (p.see a) (disk (dev.time old)) s k finds.ends.at) finds.ends.same (key_there p dev key_bytes a s finds.ends.at old old sized r finds.ends.stands r.key refl t))

  -- ---- whether it is there

  has_ended : (found : Result (Option (ℕ × IndexRecord K)) Error) (new : D) → FindsKey p dev key_bytes a key found old new → (r : Result Bool Error) → (found ≡ Ok None → r ≡ Ok false)
      → AskEnds (meaning p) dev a (HasKey key) reply.Flag r old new → HasEnds p dev a r old new → Has p dev a (wanted.Key key) r old new
  has_ended found new finds r none answer ends = record {
    asks = record {
      asks = record {
        over = finds.over;
        unchanged = finds.unchanged;
        footprint = footprint_wider dev (IsIndexOf (filing_by p a).layout Near) (IsOwn (filing_by p a).layout (λ _. ⊤)) NoBound NoBound old new index_own (λ q n no. absurd no) finds.footprint;
        ends = answer;
      };
      by_index = λ i no. absurd (cc no);
    };
    footprint = finds.footprint;
    none = λ far. (let nothing = finds.none far in (none nothing.0, nothing.1));
    ends = ends;
  }

  pub has_by_key : ((k : K) → length (key_bytes k) ≡ (p.see a).key_size) → (found : Option (ℕ × IndexRecord K)) (new : D) → FindsKey p dev key_bytes a key (Ok found) old new → (flag : Bool) → flag ≡ is_some found → Has p dev a (wanted.Key key) (Ok flag) old new
  has_by_key sized None new finds flag is =
      let ok : Bool → Result Bool Error = λ b. Ok b in
      has_ended (Ok None) new finds (Ok flag) (λ none. ap ok is)
      (λ t. (((λ yes. absurd (false≢true (sym is ∙ yes))), (λ has. absurd (key_none (p.see a) (disk (dev.time old)) (over.listed t) key (finds.ends t) has))), ap (state_of (p.see a)) (unchanged_now _ _ (finds.unchanged t)))) tt
  has_by_key sized (Some (s, r)) new finds flag is =
      has_ended (Ok (Some (s, r))) new finds (Ok flag) (λ no. absurd (cc no))
      (λ t. (((λ yes. has_key (p.see a) (disk (dev.time old)) (over.listed t) key s finds.ends.at (found_at sized new s r finds t)), (λ has. is)), ap (state_of (p.see a)) (unchanged_now _ _ (finds.unchanged t)))) tt

  pub has_unread : (e : Error) (new : D) → FindsKey p dev key_bytes a key (Err e) old new → (r : Result Bool Error) → r ≡ Err e → Has p dev a (wanted.Key key) r old new
  has_unread e new finds r is = subst (λ (x : Result Bool Error). Has p dev a (wanted.Key key) x old new) (sym is)
      (has_ended (Err e) new finds (Err e) (λ no. absurd (cc no)) finds.ends.unanswered finds.ends.cause)

  -- ---- its value

  module _ (apart : (filing_by p a).layout.index ≢ (filing_by p a).layout.values) where
    -- a search reads no value
    no_value : (found : Result (Option (ℕ × IndexRecord K)) Error) (mid : D) → FindsKey p dev key_bytes a key found old mid → (q : Key) (s : ℕ) → q ≡ section_key (filing_by p a).layout.values s → dev.opened mid q ≡ dev.opened old q
    no_value found mid finds q s is = finds.footprint.entries q (λ other. apart (ap (λ (k : Key). k.0) (sym other.3 ∙ is)))

    -- no record was found, or one could not be read
    unfound : (found : Result (Option (ℕ × IndexRecord K)) Error) (new : D) → FindsKey p dev key_bytes a key found old new → (r : Result (Option V) Error) → (found ≡ Ok None → r ≡ Ok None)
        → AskEnds (meaning p) dev a (GetKey key) (λ v. reply.Value (option_map p.spelling v)) r old new → GetEnds p dev a (wanted.Key key) r old new → Gets p dev a (wanted.Key key) r old new
    unfound found new finds r none answer ends = record {
      asks = record {
        over = finds.over;
        unchanged = finds.unchanged;
        footprint = footprint_wider dev (IsIndexOf (filing_by p a).layout Near) (IsOwn (filing_by p a).layout (λ _. ⊤)) NoBound NoBound old new index_own (λ q n no. absurd no) finds.footprint;
        ends = answer;
      };
      section = None;
      there = tt;
      footprint = record { alone = wide.alone; entries = wide.entries; reads = reads; faults = wide.faults };
      none = λ far. (let nothing = finds.none far in (none nothing.0, nothing.1));
      ends = ends;
    }
      where
        wide : Footprint dev (IsIndexOrValues (filing_by p a).layout Near None) NoBound old new
        wide = footprint_wider dev (IsIndexOf (filing_by p a).layout Near) (IsIndexOrValues (filing_by p a).layout Near None) NoBound NoBound old new (λ q is. inl is) (λ q n no. absurd no) finds.footprint

        reads : (q : Key) (n : ℕ) → ReadsWanted (filing_by p a).layout (wanted.Key key) q n → reads_of (dev.opened new q) ≤ reads_of (dev.opened old q) + n
        reads q n (s, small, is) = subst (λ (o : Option Opened). reads_of o ≤ reads_of (dev.opened old q) + n) (sym (no_value found new finds q s is.0)) (omega arith)

    pub get_unfound : (e : Error) (new : D) → FindsKey p dev key_bytes a key (Err e) old new → (r : Result (Option V) Error) → r ≡ Err e → Gets p dev a (wanted.Key key) r old new
    get_unfound e new finds r is = subst (λ (x : Result (Option V) Error). Gets p dev a (wanted.Key key) x old new) (sym is)
        (unfound (Err e) new finds (Err e) (λ no. absurd (cc no)) finds.ends.unanswered
        (cause_of_record (p.see a) (disk (dev.time old)) dev.Tells (SomeToLookAt p dev a (wanted.Key key)) (dev.faults old) (dev.faults new) e finds.ends.cause))

    -- a record was found, and its value was read
    module _ (sized : (k : K) → length (key_bytes k) ≡ (p.see a).key_size) (mid new : D) (s : ℕ) (small : s < 2 ^ 64) (r : IndexRecord K) (finds : FindsKey p dev key_bytes a key (Ok (Some (s, r))) old mid) (v : Result V Error) (value : ReadsValueOf p dev key_bytes a s r v mid new) where
      -- as one reading
      ended : ReadEnds p dev a s finds.ends.at v old new
      ended = read_since p dev a s finds.ends.at old mid new finds.unchanged finds.footprint.faults v
          (value.ends finds.ends.at (still_stands p dev a key_bytes s finds.ends.at old mid finds.unchanged r finds.ends.stands))

      wide_value : Footprint dev (IsIndexOrValues (filing_by p a).layout Near (Some s)) NoBound old new
      wide_value =
          let l = (filing_by p a).layout in
          let Blobs : Key → Type 0 = IsIndexOrValues l Near (Some s) in
          footprint_wider dev Blobs Blobs (AtMostBoth NoBound NoBound) NoBound old new (λ q is. is) (λ q n no. absurd no)
          (footprint_then dev Blobs NoBound NoBound old mid new
          (footprint_wider dev (IsIndexOf l Near) Blobs NoBound NoBound old mid (λ q is. inl is) (λ q n no. absurd no) finds.footprint)
          (footprint_wider dev (λ q. q ≡ section_key l.values s) Blobs (ReadsValueAlone l s) NoBound mid new (λ q is. inr is) (λ q n no. absurd no) value.footprint))

      own : (q : Key) → IsIndexOrValues (filing_by p a).layout Near (Some s) q → IsOwn (filing_by p a).layout (λ _. ⊤) q
      own q (inl is) = index_own q is
      own q (inr is) = inr (inl (s, small, tt, is))

      -- of the values of the record's section one is read, and of others none
      reads_value : (q : Key) (n : ℕ) → ReadsWanted (filing_by p a).layout (wanted.Key key) q n → reads_of (dev.opened new q) ≤ reads_of (dev.opened old q) + n
      reads_value q n (t, few, is) = subst (λ (o : Option Opened). reads_of (dev.opened new q) ≤ reads_of o + n) (no_value (Ok (Some (s, r))) mid finds q t is.0)
          (elim (same_or_other q (section_key (filing_by p a).layout.values s)) as (λ _. reads_of (dev.opened new q) ≤ reads_of (dev.opened mid q) + n) [
            | inl here ↦ value.footprint.reads q n (here, is.1)
            | inr other ↦ subst (λ (o : Option Opened). reads_of o ≤ reads_of (dev.opened mid q) + n) (sym (value.footprint.entries q other)) (omega arith)
          ])

      value_ended : (x : Result (Option V) Error) → AskEnds (meaning p) dev a (GetKey key) (λ y. reply.Value (option_map p.spelling y)) x old new → GetEnds p dev a (wanted.Key key) x old new → Gets p dev a (wanted.Key key) x old new
      value_ended x answer ends = record {
        asks = record {
          over = value.over;
          unchanged = λ t. unchanged_then _ _ _ (finds.unchanged t) (value.unchanged t);
          footprint = footprint_wider dev (IsIndexOrValues (filing_by p a).layout Near (Some s)) (IsOwn (filing_by p a).layout (λ _. ⊤)) NoBound NoBound old new own (λ q n no. absurd no) wide_value;
          ends = answer;
        };
        section = Some s;
        there = ((finds.ends.at, finds.ends.near), λ t. (finds.ends.at, found_at sized mid s r finds t));
        footprint = record { alone = wide_value.alone; entries = wide_value.entries; reads = reads_value; faults = wide_value.faults };
        none = λ far. absurd (far (s, finds.ends.at, finds.ends.near, tt));
        ends = ends;
      }

    module _ (mid new : D) (found : Option (ℕ × IndexRecord K)) (finds : FindsKey p dev key_bytes a key (Ok found) old mid) where
      module _ (s : ℕ) (small : s < 2 ^ 64) (r : IndexRecord K) (is : found ≡ Some (s, r)) where
        this : FindsKey p dev key_bytes a key (Ok (Some (s, r))) old mid
        this = subst (λ (o : Option (ℕ × IndexRecord K)). FindsKey p dev key_bytes a key (Ok o) old mid) is finds

        pub get_by_key : (sized : (k : K) → length (key_bytes k) ≡ (p.see a).key_size) → (v : V) → ReadsValueOf p dev key_bytes a s r (Ok v) mid new → Gets p dev a (wanted.Key key) (Ok (Some v)) old new
        get_by_key sized v value =
            let read = ended sized mid new s small r this (Ok v) value in
            value_ended sized mid new s small r this (Ok v) value (Ok (Some v))
            (λ t. (
              key_found (p.see a) (disk (dev.time old)) (over.listed t) key s this.ends.at (p.spelling v) (found_at sized mid s r this t) (read.value t),
              ap (state_of (p.see a)) (unchanged_now _ _ (unchanged_then _ _ _ (finds.unchanged t) (value.unchanged t))),
            ))
            read.accepted

        pub get_unread : (sized : (k : K) → length (key_bytes k) ≡ (p.see a).key_size) → (e : Error) → ReadsValueOf p dev key_bytes a s r (Err e) mid new → (x : Result (Option V) Error) → x ≡ Err e → Gets p dev a (wanted.Key key) x old new
        get_unread sized e value x same =
            let why = ended sized mid new s small r this (Err e) value in
            subst (λ (y : Result (Option V) Error). Gets p dev a (wanted.Key key) y old new) (sym same)
            (value_ended sized mid new s small r this (Err e) value (Err e) why.unanswered
            (lookup_cause p dev a (wanted.Key key) s this.ends.at this.ends.near old new e why))

    pub get_absent : (new : D) (found : Option (ℕ × IndexRecord K)) → FindsKey p dev key_bytes a key (Ok found) old new → found ≡ None → Gets p dev a (wanted.Key key) (Ok None) old new
    get_absent new found finds is =
        let this = subst (λ (o : Option (ℕ × IndexRecord K)). FindsKey p dev key_bytes a key (Ok o) old new) is finds in
        unfound (Ok None) new this (Ok None) (λ none. refl)
        (λ t. (key_none (p.see a) (disk (dev.time old)) (over.listed t) key (this.ends t), ap (state_of (p.see a)) (unchanged_now _ _ (this.unchanged t)))) tt
