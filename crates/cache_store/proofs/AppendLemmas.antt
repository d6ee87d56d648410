-- How a put ends that adds its record.
use Rattle.std.specs.Prelude.{◌≡◌, ◌≢◌, ◌⊎◌, ℕ, ◌^◌, ◌<◌, ◌≤◌, ◌==◌, ◌||◌, nat_lt, nat_eq, if◌then◌else◌, Bool, false, true, List, [], ◌∷◌, ◌++◌, length, map, Option, None, Some, IsSome, is_some, unwrap_or, Result, Ok, Err}
use Rattle.std.specs.List.{IsDistinct}
use Rattle.std.specs.Result.{IsErrOf}
use Rattle.std.proofs.Common.{inl, inr, ⊎_elim, refl, sym, ap, ◌∙◌, subst, arith}
use Rattle.std.proofs.Math.Nat.{div-mul-le_self}
use Rattle.std.proofs.lemmas.Bool.{cases_eq, cases_lt, false_from_ne_true}
use Rattle.std.proofs.lemmas.List.{append-nil}
use Rattle.blob_device.specs.Disk.{Key, Blob, MayLeave, longest}
use Rattle.blob_device.specs.Footprint.{Footprint, NoBound}
use Rattle.blob_device.specs.Timeline.{Always, disk}
use Rattle.blob_device.specs.declared.device.Device as device
use Rattle.blob_device.specs.lemmas.Moments.{always_now, always_start, always_weaker}
use Rattle.sealed_pages.specs.ChanceSeal as pages
use Rattle.sealed_pages.specs.Shown.{shown}
use Rattle.sealed_pages.specs.declared.page_blob.PageBlob.{PageBlob}
use Rattle.value_codec.specs.Varint.{varint, varint_prefix}
use Rattle.section_manager.specs.lemmas.Number.{length-number_name}
use Rattle.segments.specs.lemmas.adding.Adding.{error_is}
use Rattle.segments.specs.lemmas.adding.Write.{ArePages}
use Rattle.value_codec.specs.lemmas.VarintPrefix.{prefix_gives}
use Rattle.variable_journal.specs.lemmas.Adding.{below_large}
use Rattle.section_manager.specs.Sections.{key_of, section_key, IsHeld}
use Rattle.section_manager.specs.SealedLaws.{counted}
use Rattle.section_manager.specs.Setting.{Setting}
use Rattle.section_manager.specs.declared.buffer.SectionBuffer as buffer
use Rattle.section_manager.specs.declared.journal.Error.{Error}
use Rattle.section_manager.specs.declared.journal.Error.TheVariants.{Full, Mem, ValueTooLarge}
use Rattle.section_manager.specs.declared.sealed.AppendFactory.{AppendFactory}
use Rattle.section_manager.specs.lemmas.Keys.{key_injective}
use Rattle.segments.specs.FixedLists.{Lists, section_bytes, size_held}
use Rattle.variable_journal.specs.Adding.{Appends}
use Rattle.variable_journal.specs.Frames.{frame}
use Rattle.cache_store.specs.Caches.{Cache, IsSound, bytes_in, holds}
use Rattle.cache_store.specs.Changes.{IsOverfull, IsPutCause, IsSkipped, IsSoundOver, MayUse, Puts, Seen, state_over, with_index}
use Rattle.cache_store.specs.Holding.{marked, noted}
use Rattle.cache_store.specs.Kept.{Layout, entries_of}
use Rattle.cache_store.specs.Machine.{Entry, Put, State, after_put, appended, has_index, section_of}
use Rattle.cache_store.specs.RecordLaws.{record_kept}
use Rattle.cache_store.specs.Records.{record_bytes}
use Rattle.cache_store.specs.Reopening.{MayOpen}
use Rattle.cache_store.specs.Standing.{Leaves, Wanted, wanted_of}
use Rattle.cache_store.proofs.AskLemmas.{not_skipped}
use Rattle.cache_store.proofs.EndLemmas.{failed}
use Rattle.cache_store.proofs.HoldingLemmas.{held_with, none_of, ok_is}
use Rattle.cache_store.proofs.LawfulLemmas.{entry_record}
use Rattle.cache_store.proofs.LeavingLemmas.{more_leaves}
use Rattle.cache_store.proofs.PlaceLemmas.{section_from}
use Rattle.cache_store.proofs.PutLemmas.{added_over, added_step}
use Rattle.cache_store.proofs.RecallLemmas.{recalls_new, recalls_same}
use Rattle.cache_store.proofs.ReopenLemmas.{may_open_again}
use Rattle.cache_store.proofs.RestLemmas.{bytes_none, bytes_some, rest_leaves}
use Rattle.cache_store.proofs.StateLemmas.{chosen, passed}
use Rattle.cache_store.proofs.WritingLemmas.{grown_lawful, put_leaves}
use Rattle.blob_device.proofs.general.Options.{none_or_value}

-- a put makes of each list one that goes on
pub after_put_more : (items index : ℕ) (value : List ℕ) (st : State (List ℕ)) (s : ℕ)
    → (xs : List (Entry (List ℕ))) × ((after_put items index value st).lists s ≡ st.lists s ++ xs)
after_put_more items index value st s = put (nat_lt index st.floor || has_index items st index)
  where
    here : (b : Bool) → (xs : List (Entry (List ℕ))) × ((if b then st.lists s ++ record { index = index; value = value } ∷ [] else st.lists s) ≡ st.lists s ++ xs)
    here true = (record { index = index; value = value } ∷ [], refl)
    here false = ([], sym (append-nil (st.lists s)))

    put : (b : Bool) → (xs : List (Entry (List ℕ))) × ((if b then st else appended items index value st).lists s ≡ st.lists s ++ xs)
    put true = ([], sym (append-nil (st.lists s)))
    put false = here (s == section_of items index)

-- What is put, where, and over which cache.
module _ {S D C : Type 0} {gs : _} (g : buffer.Ghosts (PageBlob S gs)) (gives : AppendFactory S → Setting)
    (papers : (f : AppendFactory S) → (gives f).page_size ≡ f.pages.page_size)
    (dev : device.Ghosts D) (c : Cache (AppendFactory S) (PageBlob S gs)) (are : ArePages g c.layout.seal) (now : D) (over : MayUse g gives dev c now)
    (index : ℕ) (spelled : List ℕ) (small : index < 2 ^ 64) (high : c.floor ≤ index) (new : holds c index ≡ false)
    (allowed : c.layout.refusal spelled ≡ None) (cfg : C) (mid : D) where
  abbrev s0 : ℕ
  s0 = section_of c.layout.items index

  abbrev item : List ℕ
  item = record_bytes index spelled

  -- the journal's append ended so
  abbrev pub Did : Result (Lists (AppendFactory S) (PageBlob S gs) × ℕ × ℕ) Error → Result C Error → Type 0
  Did result kept = Appends g gives c.layout.seal dev (section_of c.layout.items index) (record_bytes index spelled) c.journal result cfg kept now mid

  -- in the section of the index, by whatever name
  at_section : (section : ℕ) → section ≡ section_of c.layout.items index → (result : Result (Lists (AppendFactory S) (PageBlob S gs) × ℕ × ℕ) Error) (kept : Result C Error)
      → Appends g gives c.layout.seal dev section (record_bytes index spelled) c.journal result cfg kept now mid → Did result kept
  at_section section same result kept did = subst (λ (s : ℕ). Appends g gives c.layout.seal dev s (record_bytes index spelled) c.journal result cfg kept now mid) same did

  abbrev under_way : Wanted
  under_way = wanted_of c.layout.items (state_over g gives dev c now) (Some (Put index spelled))

  stored : IsSkipped g gives dev c index → ⊥
  stored skip = ⊎_elim (λ low. omega (arith, low, high)) (λ has. cc (has, new)) skip

  numbered : section_of c.layout.items index < 2 ^ 64
  numbered = omega (arith, small, div-mul-le_self index c.layout.items)

  read : varint_prefix (2 ^ 64) 10 (record_bytes index spelled) ≡ Ok (index, length (varint index))
  read = prefix_gives (2 ^ 64) 10 index spelled small

  no_lower : c.floor ≤ section_of c.layout.items index
  no_lower = section_from c.layout.items c.floor index over.items over.floor high

  not_there : dev.Tells → c.journal.sections.held (section_of c.layout.items index) ≡ None
      → (disk (dev.time now) (key_of c.journal.sections (section_of c.layout.items index))).there ≡ false
  not_there t none = false_from_ne_true _ (λ has. ⊎_elim (λ held. cc (subst IsSome none held))
      (λ known. (let late = (over.journal.bytes.unopened t).later (section_of c.layout.items index) known in omega (arith, late, over.ceiling, numbered)))
      ((over.journal.bytes.over.disk t).whose (section_of c.layout.items index) numbered has))

  module _ (result : Result (Lists (AppendFactory S) (PageBlob S gs) × ℕ × ℕ) Error) (kept : Result C Error) (did : Did result kept) where
    -- while the record is added
    added_moments : dev.Tells → IsSoundOver g gives dev c now → length (record_bytes index spelled) < 2 ^ 32
        → Always (dev.time now) (dev.time mid) (Leaves c.layout under_way)
    added_moments t sound fits = elim (none_or_value (c.journal.sections.held (section_of c.layout.items index))) [
      | inl none ↦ always_weaker _ _ _ _ (λ e o.
          put_leaves g gives are.page_size dev.Tells c (dev.opened now) (disk (dev.time now)) over t sound index spelled small high new fits allowed
          c.journal.sections.factory.pages.page_size (sym (papers c.journal.sections.factory) ∙ over.pages) e o.others
          (λ u held. absurd (cc (none, held))) (λ again. (not_there t none, o.here))) (did.made t none)
      | inr held ↦ always_weaker _ _ _ _ (λ e o.
          put_leaves g gives are.page_size dev.Tells c (dev.opened now) (disk (dev.time now)) over t sound index spelled small high new fits allowed
          c.journal.sections.factory.pages.page_size (sym (papers c.journal.sections.factory) ∙ over.pages) e o.others
          (λ v is. (let same : held.0 ≡ v = cc (held.1, is) in
          subst (λ (u : PageBlob S gs). pages.Leaves c.layout.seal u.page_size
          (bytes_in c (disk (dev.time now)) (section_of c.layout.items index) ++ frame (record_bytes index spelled)) u.settled (e (key_of c.journal.sections (section_of c.layout.items index)))) same o.here))
          (λ none. absurd (cc (none, held.1)))) (did.moments t held.0 held.1)
    ]

    -- while a record is refused that is too large
    refused_moments : dev.Tells → IsSoundOver g gives dev c now → Leaves c.layout under_way (disk (dev.time now))
    refused_moments t sound = more_leaves c.layout (wanted_of c.layout.items (state_over g gives dev c now) None) under_way
        (after_put_more c.layout.items index spelled (state_over g gives dev c now)) (λ s. refl) (λ s goes. absurd goes) (disk (dev.time now))
        (rest_leaves g gives are.page_size dev.Tells c (dev.opened now) (disk (dev.time now)) over t sound (wanted_of c.layout.items (state_over g gives dev c now) None) (λ s. refl) (λ s. refl))

    pub put_moments : dev.Tells → IsSoundOver g gives dev c now → Always (dev.time now) (dev.time mid) (Leaves c.layout under_way)
    put_moments t sound = ⊎_elim (added_moments t sound)
        (λ (large : 2 ^ 32 ≤ length (record_bytes index spelled)). subst (λ (x : D). Always (dev.time now) (dev.time x) (Leaves c.layout under_way)) (sym (did.refuses (inl large)))
        (always_start (dev.time now) _ (refused_moments t sound)))
        (cases_lt (length (record_bytes index spelled)) (2 ^ 32))

    pub put_footprint : Footprint dev (λ q. (q ≡ key_of c.journal.sections (section_of c.layout.items index)) × (IsSkipped g gives dev c index → ⊥)) NoBound now mid
    put_footprint = record {
      alone = λ t. always_weaker _ _ _ _ (λ e o q other. o.others q (λ is. other (is, stored))) (did.alone t);
      entries = λ q other. did.entries q (λ is. other (is, stored));
      reads = λ q n most. absurd most;
      faults = did.faults;
    }

    -- it failed, with the record appended or not
    pub put_failed : (e : Error) → IsPutCause g gives dev c index spelled (dev.faults now) (dev.faults mid) e
        → (2 ^ 32 ≤ length (record_bytes index spelled) → e ≡ ValueTooLarge) → (e ≡ ValueTooLarge → mid ≡ now)
        → ((2 ^ 32 ≤ length (record_bytes index spelled) → ⊥) → IsOverfull g gives dev c index spelled → (e ≡ Full) ⊎ (e ≡ Mem))
        → (e ≡ Full → IsHeld c.journal.sections (section_of c.layout.items index) → mid ≡ now)
        → Puts g gives dev c index spelled (Err e) cfg (Err e) now mid
    put_failed e cause large refuses full full_refuses = record {
      changes = record { moments = put_moments; footprint = put_footprint; config = tt; ends = cause };
      skips = λ skip. absurd (stored skip);
      buffered = did.below;
      memory = λ r is. absurd (cc is);
      written = λ r is. absurd (cc is);
      limits = record {
        large = λ not big. ap Err (large big);
        refuses = λ is. refuses (cc is);
        full = λ not fits over. ⊎_elim (λ a. inl (ap Err a)) (λ b. inr (ap Err b)) (full fits over);
        full_refuses = λ is. full_refuses (cc is);
      };
    }

  -- the append failed
  pub append_failed : (e : Error) (kept : Result C Error) → Did (Err e) kept → Puts g gives dev c index spelled (Err e) cfg (Err e) now mid
  append_failed e kept did = put_failed (Err e) kept did e
      (elim did.cause [
        | inl large ↦ inl (error_is e ValueTooLarge large, stored, did.large.0 large)
        | inr (inl pruned) ↦ absurd (let low = did.guard.0 pruned in omega (arith, low.1, over.journal_floor, no_lower))
        | inr (inr (inl full)) ↦ inr (inl (error_is e Full full, stored, did.full full))
        | inr (inr (inr has)) ↦ inr (inr (failed (Err e) _ _ e refl has))
      ])
      (λ big. error_is e ValueTooLarge (did.large.1 big)) (λ is. did.refuses (inl (did.large.0 (ap Err is))))
      (λ fits over_full. (let it = held_with (c.journal.sections.held (section_of c.layout.items index)) _ over_full in
      ⊎_elim (λ a. inl (error_is e Full a)) (λ b. inr (error_is e Mem b)) (did.full_first (few fits) (omega (arith, over.journal_floor, no_lower)) it.0 it.1 it.2)))
      (λ is. did.full_refuses (ap Err is))
    where
      few : (2 ^ 32 ≤ length (record_bytes index spelled) → ⊥) → length (record_bytes index spelled) < 2 ^ 32
      few not = ⊎_elim (λ less. less) (λ big. absurd (not big)) (cases_lt (length (record_bytes index spelled)) (2 ^ 32))

  -- to the section of the index, by whatever name
  pub append_failed_at : (section : ℕ) → section ≡ section_of c.layout.items index → (e : Error) (kept : Result C Error)
      → Appends g gives c.layout.seal dev section (record_bytes index spelled) c.journal (Err e) cfg kept now mid → Puts g gives dev c index spelled (Err e) cfg (Err e) now mid
  append_failed_at section same e kept did = append_failed e kept (at_section section same (Err e) kept did)

  -- the record was appended to the journal k
  module _ (k : Lists (AppendFactory S) (PageBlob S gs)) (offset n : ℕ) (kept : Result C Error) (did : Did (Ok (k, offset, n)) kept) where
    fits : length (record_bytes index spelled) < 2 ^ 32
    fits = below_large _ _ did.large

    room : IsOverfull g gives dev c index spelled → ⊥
    room over_full = (let it = held_with (c.journal.sections.held (section_of c.layout.items index)) _ over_full in
        omega (arith, it.2, did.room it.0 it.1))

    -- there was no memory to note it
    pub put_lost : (e : Error) → e ≡ Mem → Puts g gives dev c index spelled (Err e) cfg (Err e) now mid
    put_lost e is = put_failed (Ok (k, offset, n)) kept did e (inr (inr (inl is))) (λ big. absurd (omega (arith, fits, big))) (λ large. absurd (cc (is, large))) (λ few over_full. inr is) (λ full. absurd (cc (is, full)))

    place : dev.Tells → offset ≡ length (bytes_in c (disk (dev.time now)) (section_of c.layout.items index))
    place t = did.offset (inl t) ∙ ⊎_elim
        (λ none. ap (λ (o : Option (PageBlob S gs)). size_held o) none ∙ sym (ap length (bytes_none g gives are.page_size dev.Tells c (dev.opened now) (disk (dev.time now)) over (section_of c.layout.items index) none)))
        (λ some. ap (λ (o : Option (PageBlob S gs)). size_held o) some.1
        ∙ sym (ap length (bytes_some g gives are.page_size dev.Tells c (dev.opened now) (disk (dev.time now)) over (section_of c.layout.items index) some.0 some.1)
        ∙ counted (shown some.0) (disk (dev.time now) (key_of c.journal.sections (section_of c.layout.items index))).content))
        (none_or_value (c.journal.sections.held (section_of c.layout.items index)))

    module _ (lay : Layout) (same : lay ≡ c.layout) (off : ℕ → Option ℕ) (offs : (i : ℕ) → off i ≡ noted index offset c.offsets i)
        (idx : ℕ → Bool) (tied : (i : ℕ) → idx i ≡ is_some (off i))
        (written : ℕ → Option ℕ) (marks : (s : ℕ) → written s ≡ marked (section_of c.layout.items index) offset c.written s) where
      abbrev more : Cache (AppendFactory S) (PageBlob S gs)
      more = record c { journal = k; layout = lay; offsets = off; indices = idx; written = written }

      written_here : written (section_of c.layout.items index) ≡ Some (unwrap_or (c.written (section_of c.layout.items index)) offset)
      written_here = marks (section_of c.layout.items index) ∙ chosen (section_of c.layout.items index) (section_of c.layout.items index) _ _ refl

      written_other : (s : ℕ) → s ≢ section_of c.layout.items index → written s ≡ c.written s
      written_other s other = marks s ∙ passed s (section_of c.layout.items index) _ _ other

      more_over : MayUse g gives dev (record c { journal = k; offsets = off; indices = idx; written = written }) mid
      more_over = added_over g gives are.page_size dev.Tells c (dev.opened now) (dev.opened mid) (disk (dev.time now)) (disk (dev.time mid)) over index spelled no_lower
          (none_of (c.offsets index) new) fits (record_kept c.layout.refusal index spelled small allowed)
          (entry_record c.layout 0 [] index spelled read) k offset off idx written did.over place did.bytes did.held did.settled did.others did.spares did.bounds did.unrecovered
          offs tied written_here written_other

      more_step : dev.Tells → state_over g gives dev more mid ≡ after_put c.layout.items index spelled (state_over g gives dev c now)
      more_step t = added_step g gives are.page_size dev.Tells c (dev.opened now) (dev.opened mid) (disk (dev.time now)) (disk (dev.time mid)) over index spelled no_lower
          (none_of (c.offsets index) new) fits (record_kept c.layout.refusal index spelled small allowed)
          (entry_record c.layout 0 [] index spelled read) k offset off idx written did.over place did.bytes did.held did.settled did.others did.spares did.bounds did.unrecovered
          offs tied written_here written_other t
          ∙ sym (not_skipped c index spelled high new (disk (dev.time now)) (over.memory t))

      bytes_here : dev.Tells → (s : ℕ) → s ≡ section_of c.layout.items index
          → section_bytes k.sections (disk (dev.time mid)) s ≡ bytes_in c (disk (dev.time now)) s ++ frame (record_bytes index spelled)
      bytes_here t s here = subst (λ (r : ℕ). section_bytes k.sections (disk (dev.time mid)) r ≡ bytes_in c (disk (dev.time now)) r ++ frame (record_bytes index spelled)) (sym here) (did.bytes t)

      more_sound : dev.Tells → IsSoundOver g gives dev c now → IsSound (record c { journal = k; offsets = off; indices = idx; written = written }) (disk (dev.time mid))
      more_sound t sound = record {
        once = λ s. ⊎_elim
            (λ (here : s ≡ section_of c.layout.items index). subst (λ bytes. IsDistinct nat_eq (map (λ x. x.index) (entries_of bytes))) (sym (bytes_here t s here))
            (grown_lawful g gives are.page_size dev.Tells c (dev.opened now) (disk (dev.time now)) over t sound index spelled small high new fits allowed s here).once)
            (λ other. subst (λ bytes. IsDistinct nat_eq (map (λ x. x.index) (entries_of bytes))) (sym (did.spares t s other)) (sound.once s))
            (cases_eq s (section_of c.layout.items index));
        names = λ name x may. ⊎_elim (λ eight. eight)
            (λ long. sound.names name x (subst (λ (b : Blob). MayLeave b (Some x))
            ((always_now _ _ _ (did.alone t)).others (c.layout.partition, name) (λ is. long (ap (λ (q : Key). length q.1) is ∙ length-number_name (section_of c.layout.items index)))) may))
            (cases_eq (length name) 8);
        absent = λ s below none. ⊎_elim
            (λ (here : s ≡ section_of c.layout.items index). absurd (cc (subst IsSome none (subst (λ (r : ℕ). IsSome (k.sections.held r)) (sym here) did.held))))
            (λ other. ap longest (ap (disk (dev.time mid)) (ap (λ (p : List ℕ). section_key p s) did.bounds.place.partition)
            ∙ (always_now _ _ _ (did.alone t)).others (key_of c.journal.sections s) (λ is. other (key_injective c.journal.sections.partition s (section_of c.layout.items index) below numbered is)))
            ∙ sound.absent s below (sym (did.others s other).held ∙ none))
            (cases_eq s (section_of c.layout.items index));
      }

      pub put_done : Puts g gives dev c index spelled (Ok (record c { journal = k; layout = lay; offsets = off; indices = idx; written = written })) cfg kept now mid
      put_done = record {
        changes = record {
          moments = put_moments (Ok (k, offset, n)) kept did;
          footprint = put_footprint (Ok (k, offset, n)) kept did;
          config = did.config;
          ends = record {
            over = subst (λ (l : Layout). MayUse g gives dev (record c { journal = k; layout = l; offsets = off; indices = idx; written = written }) mid) (sym same) more_over;
            layout = same;
            place = did.bounds.place;
            sound = λ t sound. subst (λ (l : Layout). IsSound (record c { journal = k; layout = l; offsets = off; indices = idx; written = written }) (disk (dev.time mid))) (sym same) (more_sound t sound);
            rest = λ t sound. subst (λ (l : Layout). MayOpen l (state_over g gives dev more mid) (disk (dev.time mid))) (sym same)
                (may_open_again g gives dev.Tells (record c { journal = k; offsets = off; indices = idx; written = written }) are (dev.opened mid) (disk (dev.time mid)) more_over t (more_sound t sound));
            step = more_step;
          };
        };
        skips = λ skip. absurd (stored skip);
        buffered = did.below;
        memory = λ r is. recalls_same more (with_index c index) (recalls_new c index offset high off offs) r (ok_is is);
        written = λ r is s some. ⊎_elim (λ here. inl (here, stored))
            (λ other. inr (λ none. some (ap (λ (x : Seen g gives dev). x.written s) (sym (ok_is is)) ∙ written_other s other ∙ none)))
            (cases_eq s (section_of c.layout.items index));
        limits = record {
          large = λ not big. absurd (omega (arith, fits, big));
          refuses = λ is. absurd (cc is);
          full = λ not few over_full. absurd (room over_full);
          full_refuses = λ is. absurd (cc is);
        };
      }

  -- to the section of the index, by whatever name
  module _ (section : ℕ) (same : section ≡ section_of c.layout.items index) (k : Lists (AppendFactory S) (PageBlob S gs)) (offset n : ℕ) (kept : Result C Error)
      (did : Appends g gives c.layout.seal dev section (record_bytes index spelled) c.journal (Ok (k, offset, n)) cfg kept now mid) where
    pub put_lost_at : (e : Error) → IsErrOf {T = Unit {0}} (Err e) Mem → Puts g gives dev c index spelled (Err e) cfg (Err e) now mid
    put_lost_at e is = put_lost k offset n kept (at_section section same (Ok (k, offset, n)) kept did) e (error_is e Mem is)

    pub put_done_at : (lay : Layout) → lay ≡ c.layout → (off : ℕ → Option ℕ) → ((i : ℕ) → off i ≡ noted index offset c.offsets i)
        → (idx : ℕ → Bool) → ((i : ℕ) → idx i ≡ is_some (off i)) → (written : ℕ → Option ℕ) → ((s : ℕ) → written s ≡ marked section offset c.written s)
        → Puts g gives dev c index spelled (Ok (record c { journal = k; layout = lay; offsets = off; indices = idx; written = written })) cfg kept now mid
    put_done_at lay is off offs idx tied written marks = put_done k offset n kept (at_section section same (Ok (k, offset, n)) kept did) lay is off offs idx tied written
        (λ s. marks s ∙ ap (λ (r : ℕ). marked r offset c.written s) same)
