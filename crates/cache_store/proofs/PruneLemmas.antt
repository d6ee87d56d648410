-- How a prune of a cache ends that is above the floor.
use Rattle.std.specs.Prelude.{◌≡◌, ℕ, ◌<◌, ◌≤◌, ◌^◌, nat_eq, nat_le, max, if◌then◌else◌, Bool, false, true, List, [], length, map, Option, None, Some, IsSome, is_some, Result, Ok, Err}
use Rattle.std.specs.List.{AllByRecursion, IsDistinct}
use Rattle.std.proofs.Common.{inl, inr, ⊎_elim, refl, sym, ap, ◌∙◌, subst, arith}
use Rattle.std.proofs.lemmas.Bool.{cases_eq, cases_lt, cond-true, cond-false, false_from_ne_true, le-leb, lt-leb}
use Rattle.blob_device.specs.Disk.{Key, Blob, MayLeave, longest}
use Rattle.blob_device.specs.Footprint.{Footprint, NoBound}
use Rattle.blob_device.specs.Timeline.{Always, disk}
use Rattle.blob_device.specs.declared.device.Device as device
use Rattle.blob_device.specs.lemmas.Moments.{always_now, always_weaker}
use Rattle.sealed_pages.specs.declared.page_blob.PageBlob.{PageBlob}
use Rattle.section_manager.specs.Sections.{key_of, section_key, IsKeyOf, IsKnown}
use Rattle.section_manager.specs.Setting.{Setting}
use Rattle.section_manager.specs.declared.buffer.SectionBuffer as buffer
use Rattle.section_manager.specs.declared.journal.Error.{Error}
use Rattle.section_manager.specs.declared.sealed.AppendFactory.{AppendFactory}
use Rattle.section_manager.specs.lemmas.Keys.{key_injective}
use Rattle.segments.specs.FixedLists.{Lists}
use Rattle.segments.specs.lemmas.adding.Write.{ArePages}
use Rattle.variable_journal.specs.Frames.{items_of}
use Rattle.variable_journal.specs.Removing as journal
use Rattle.variable_journal.specs.lemmas.Section.{gone_bytes, pruned_bytes}
use Rattle.cache_store.specs.Caches.{Cache, IsSound, IsTold, bytes_in}
use Rattle.cache_store.specs.Changes.{IsSoundOver, MayUse, NoneThere, OldestFirst, Prunes, Recalls, Seen, held_from, state_over}
use Rattle.cache_store.specs.Filing.{offset_in, synced_in}
use Rattle.cache_store.specs.Holding.{forgotten}
use Rattle.cache_store.specs.Kept.{Layout, entries_of}
use Rattle.cache_store.specs.Machine.{Prune, after_prune, emptied_below, section_of}
use Rattle.cache_store.specs.Records.{entry_of, record_refusal}
use Rattle.cache_store.specs.Reopening.{MayOpen}
use Rattle.cache_store.specs.Standing.{Leaves, Wanted, wanted_of}
use Rattle.cache_store.proofs.EndLemmas.{failed, leaving_footprint}
use Rattle.cache_store.proofs.HoldingLemmas.{ok_is}
use Rattle.cache_store.proofs.LawfulLemmas.{no_items}
use Rattle.cache_store.proofs.PlaceLemmas.{section_again, section_below, section_from}
use Rattle.cache_store.proofs.RecallLemmas.{forgotten_held}
use Rattle.cache_store.proofs.RemovalLemmas.{below_or, removing_leaves}
use Rattle.cache_store.proofs.ReopenLemmas.{may_open_again}
use Rattle.cache_store.proofs.RestLemmas.{no_section}
use Rattle.cache_store.proofs.StateLemmas.{prune_state}
use Rattle.blob_device.proofs.general.Options.{none_or_value}

-- the map keeps what is from the bound on, and nothing below it
pub kept_from : (bound : ℕ) (was now : ℕ → Option ℕ) → ((i : ℕ) → now i ≡ forgotten bound was i) → (i : ℕ) → bound ≤ i → now i ≡ was i
kept_from bound was now is i high = is i ∙ cond-true (nat_le bound i) (was i) None (le-leb bound i high)

pub gone_below : (bound : ℕ) (was now : ℕ → Option ℕ) → ((i : ℕ) → now i ≡ forgotten bound was i) → (i : ℕ) → i < bound → now i ≡ None
gone_below bound was now is i low = is i ∙ cond-false (nat_le bound i) (was i) None (lt-leb bound i low)

nothing_twice : IsDistinct nat_eq []
unfolding IsDistinct
nothing_twice = tt

module _ {S D C : Type 0} {gs : _} (g : buffer.Ghosts (PageBlob S gs)) (gives : AppendFactory S → Setting)
    (dev : device.Ghosts D) (c : Cache (AppendFactory S) (PageBlob S gs)) (are : ArePages g c.layout.seal) (now : D) (over : MayUse g gives dev c now)
    (min : ℕ) (above : c.floor < section_of c.layout.items min) (cfg : C) (mid : D) where
  -- the journal's prune ended so
  abbrev pub Did : Result (Lists (AppendFactory S) (PageBlob S gs) × Bool) Error → Result C Error → Type 0
  Did result kept = journal.Prunes g gives c.layout.seal dev c.journal (section_of c.layout.items min) result cfg kept now mid

  -- below that section, by whatever name
  pub at_bound : (bound : ℕ) → bound ≡ section_of c.layout.items min → (result : Result (Lists (AppendFactory S) (PageBlob S gs) × Bool) Error) (kept : Result C Error)
      → journal.Prunes g gives c.layout.seal dev c.journal bound result cfg kept now mid → Did result kept
  at_bound bound same result kept did = subst (λ (b : ℕ). journal.Prunes g gives c.layout.seal dev c.journal b result cfg kept now mid) same did

  abbrev IsDoomed : ℕ → Type 0
  IsDoomed s = IsKnown c.journal.sections s × (s < section_of c.layout.items min)

  -- the sections below the bound
  abbrev IsLow : ℕ → Type 0
  IsLow s = s < section_of c.layout.items min

  abbrev under_way : Wanted
  under_way = wanted_of c.layout.items (state_over g gives dev c now) (Some (Prune min))

  module _ (result : Result (Lists (AppendFactory S) (PageBlob S gs) × Bool) Error) (kept : Result C Error) (did : Did result kept) where
    -- while sections go
    prune_moments : dev.Tells → IsSoundOver g gives dev c now → Always (dev.time now) (dev.time mid) (Leaves c.layout under_way)
    prune_moments t sound = always_weaker _ _ _ _ (λ x. removing_leaves g gives are.page_size dev.Tells c (dev.opened now) (disk (dev.time now)) over t sound under_way (λ s. refl) (λ s. refl)
        IsDoomed (λ s it. it.0) (below_or c.journal.sections (section_of c.layout.items min)) (λ s it. (it.1, above)) x) (did.moments t)

    prune_footprint : Footprint dev (IsKeyOf c.journal.sections IsLow) NoBound now mid
    prune_footprint = leaving_footprint dev (IsKeyOf c.journal.sections IsLow) (IsKeyOf c.journal.sections IsDoomed) (λ q it. (it.0, it.1.1, it.2)) now mid
        (λ t. always_weaker _ _ _ _ (λ x removing q other. removing.others q (λ it. other (it.0, it.1.1, it.2))) (did.moments t)) did.entries did.faults

    prune_order : dev.Tells → OldestFirst g gives dev c IsLow now mid
    prune_order t = always_weaker _ _ _ _ (λ x removing. removing.going) (did.moments t)

    pub prune_failed : (e : Error) → result ≡ Err e → Prunes g gives dev c min (Err e) cfg (Err e) now mid
    prune_failed e is = record {
      changes = record { moments = prune_moments; footprint = prune_footprint; config = tt; ends = failed result _ _ e is did.cause };
      low = λ le. absurd (omega (arith, le, above));
      gone = λ t r ok. absurd (cc ok);
      oldest_first = prune_order;
      memory = λ r ok. absurd (cc ok);
      written = λ r ok. absurd (cc ok);
    }

  -- the sections below are gone, and the others are those of the journal k
  module _ (k : Lists (AppendFactory S) (PageBlob S gs)) (flag : Bool) (kept : Result C Error) (did : Did (Ok (k, flag)) kept)
      (lay : Layout) (same : lay ≡ c.layout) (off : ℕ → Option ℕ) (offs : (i : ℕ) → off i ≡ forgotten (section_of c.layout.items min) c.offsets i)
      (idx : ℕ → Bool) (tied : (i : ℕ) → idx i ≡ is_some (off i))
      (written : ℕ → Option ℕ) (marks : (s : ℕ) → written s ≡ forgotten (section_of c.layout.items min) c.written s) where
    abbrev left : Cache (AppendFactory S) (PageBlob S gs)
    left = record c { journal = k; offsets = off; indices = idx; written = written; floor = section_of c.layout.items min }

    bytes_low : dev.Tells → (s : ℕ) → s < section_of c.layout.items min → bytes_in left (disk (dev.time mid)) s ≡ []
    bytes_low t s low = gone_bytes k (disk (dev.time mid)) s (did.removed s low)

    bytes_high : dev.Tells → (s : ℕ) → section_of c.layout.items min ≤ s → bytes_in left (disk (dev.time mid)) s ≡ bytes_in c (disk (dev.time now)) s
    bytes_high t s high = ⊎_elim (λ low. absurd (omega (arith, low.0, high))) (λ it. it.1)
        (pruned_bytes (section_of c.layout.items min) c.journal k (dev.time now) (dev.time mid) over.journal.bytes.over.opened_list.number did.removed did.spared did.place (did.moments t) s)

    -- what holds of the items of each section holds of those of one that is left
    all_left : dev.Tells → (P : ℕ → List ℕ → Type 0) → ((s : ℕ) → AllByRecursion (P s) (items_of (bytes_in c (disk (dev.time now)) s)))
        → (s : ℕ) → AllByRecursion (P s) (items_of (bytes_in left (disk (dev.time mid)) s))
    all_left t P all s = ⊎_elim
        (λ low. subst (λ xs. AllByRecursion (P s) xs) (sym (ap items_of (bytes_low t s low) ∙ no_items)) tt)
        (λ high. subst (λ bytes. AllByRecursion (P s) (items_of bytes)) (sym (bytes_high t s high)) (all s))
        (cases_lt s (section_of c.layout.items min))

    left_told : dev.Tells → IsTold left (disk (dev.time mid))
    left_told t = record {
      indices = tied;
      listed = λ i. ⊎_elim
          (λ (low : i < section_of c.layout.items min). gone_below (section_of c.layout.items min) c.offsets off offs i low
          ∙ sym (ap (offset_in i 0) (ap items_of (bytes_low t (section_of c.layout.items i) (section_below c.layout.items (section_of c.layout.items min) i low)) ∙ no_items)))
          (λ high. kept_from (section_of c.layout.items min) c.offsets off offs i high ∙ (over.memory t).listed i
          ∙ sym (ap (λ bytes. offset_in i 0 (items_of bytes)) (bytes_high t (section_of c.layout.items i)
          (section_from c.layout.items (section_of c.layout.items min) i over.items (section_again c.layout.items min over.items) high))))
          (cases_lt i (section_of c.layout.items min));
      decoded = all_left t (λ s x. record_refusal c.layout.refusal x ≡ None) (over.memory t).decoded;
      in_section = all_left t (λ s x. section_of c.layout.items (entry_of x).index ≡ s) (over.memory t).in_section;
      settled = λ s v is. ⊎_elim
          (λ (low : s < section_of c.layout.items min). absurd (cc (is, (did.removed s low).held)))
          (λ high. omega (
            arith,
            (over.memory t).settled s v (sym (did.spared s high).held ∙ is),
            ap (λ (o : Option ℕ). synced_in o (bytes_in left (disk (dev.time mid)) s)) (kept_from (section_of c.layout.items min) c.written written marks s high),
            ap (λ bytes. synced_in (c.written s) bytes) (bytes_high t s high),
          ))
          (cases_lt s (section_of c.layout.items min));
    }

    floor_no_higher : k.sections.floor ≤ section_of c.layout.items min
    floor_no_higher = go flag refl
      where
        go : (b : Bool) → flag ≡ b → k.sections.floor ≤ section_of c.layout.items min
        go true is = omega (arith, did.floor is)
        go false is = omega (arith, did.same_floor is, over.journal_floor, above)

    left_over : MayUse g gives dev left mid
    left_over = record {
      journal = did.over;
      ceiling = did.ceiling ∙ over.ceiling;
      recovered = λ s. ⊎_elim (did.recovered s) (λ high. did.unrecovered s high ∙ over.recovered s) (cases_lt s (section_of c.layout.items min));
      partition = did.place.partition ∙ over.partition;
      pages = ap (λ (f : AppendFactory S). (gives f).page_size) did.place.factory ∙ over.pages;
      items = over.items;
      floor = section_again c.layout.items min over.items;
      journal_floor = floor_no_higher;
      indices = tied;
      below = did.removed;
      none_below = λ i low. ap is_some (gone_below (section_of c.layout.items min) c.offsets off offs i low);
      written = λ s has. ⊎_elim
          (λ (low : s < section_of c.layout.items min). absurd (cc (subst IsSome (gone_below (section_of c.layout.items min) c.written written marks s low) has)))
          (λ high. subst IsSome (sym (did.spared s high).held) (over.written s (subst IsSome (kept_from (section_of c.layout.items min) c.written written marks s high) has)))
          (cases_lt s (section_of c.layout.items min));
      settled = λ s v is none. ⊎_elim
          (λ (low : s < section_of c.layout.items min). absurd (cc (is, (did.removed s low).held)))
          (λ high. over.settled s v (sym (did.spared s high).held ∙ is) (sym (kept_from (section_of c.layout.items min) c.written written marks s high) ∙ none))
          (cases_lt s (section_of c.layout.items min));
      memory = left_told;
    }

    -- a section whose blob has not gone
    stays : dev.Tells → (q : Key) → (IsKeyOf c.journal.sections IsDoomed q → ⊥) → disk (dev.time mid) q ≡ disk (dev.time now) q
    stays t q not = (always_now _ _ _ (did.moments t)).others q not

    not_doomed : (s : ℕ) → s < 2 ^ 64 → (IsDoomed s → ⊥) → IsKeyOf c.journal.sections IsDoomed (key_of c.journal.sections s) → ⊥
    not_doomed s small not is = not (subst IsDoomed (key_injective c.journal.sections.partition is.0 s (over.journal.bytes.over.opened_list.number is.0 is.1.0) small (sym is.2)) is.1)

    left_sound : dev.Tells → IsSoundOver g gives dev c now → IsSound left (disk (dev.time mid))
    left_sound t sound = record {
      once = λ s. ⊎_elim
          (λ low. subst (λ xs. IsDistinct nat_eq (map (λ x. x.index) (map entry_of xs))) (sym (ap items_of (bytes_low t s low) ∙ no_items)) nothing_twice)
          (λ high. subst (λ bytes. IsDistinct nat_eq (map (λ x. x.index) (entries_of bytes))) (sym (bytes_high t s high)) (sound.once s))
          (cases_lt s (section_of c.layout.items min));
      names = λ name x may. ⊎_elim (λ eight. eight)
          (λ long. sound.names name x (subst (λ (b : Blob). MayLeave b (Some x)) (stays t (c.layout.partition, name) (no_section c.journal.sections IsDoomed (c.layout.partition, name) long)) may))
          (cases_eq (length name) 8);
      absent = λ s small none. ap longest (ap (disk (dev.time mid)) (ap (λ (p : List ℕ). section_key p s) did.place.partition)) ∙ ⊎_elim
          (λ (known : IsDoomed s). ap longest (did.gone t s known.0 known.1))
          (λ not. ap longest (stays t (key_of c.journal.sections s) (not_doomed s small not)) ∙ sound.absent s small (not_held s none not))
          (below_or c.journal.sections (section_of c.layout.items min) s);
    }
      where
        not_held : (s : ℕ) → k.sections.held s ≡ None → (IsDoomed s → ⊥) → c.journal.sections.held s ≡ None
        not_held s none not = ⊎_elim (λ is. is)
            (λ some. absurd (⊎_elim
            (λ (low : s < section_of c.layout.items min). not (inl (ap is_some some.1), low))
            (λ high. cc (none, (did.spared s high).held, some.1))
            (cases_lt s (section_of c.layout.items min))))
            (none_or_value (c.journal.sections.held s))

    left_step : dev.Tells → state_over g gives dev left mid ≡ after_prune c.layout.items min (state_over g gives dev c now)
    left_step t = prune_state (section_of c.layout.items min) c.floor (bytes_in c (disk (dev.time now))) (bytes_in left (disk (dev.time mid))) c.written written
        (bytes_low t) (bytes_high t) (kept_from (section_of c.layout.items min) c.written written marks)
        ∙ sym (ap (λ (b : Bool). if b then state_over g gives dev c now else emptied_below (section_of c.layout.items min) (state_over g gives dev c now)) (lt-leb (section_of c.layout.items min) c.floor above))

    none_there : dev.Tells → NoneThere g gives dev c IsLow (disk (dev.time mid))
    none_there t s small low = ⊎_elim
        (λ (known : IsDoomed s). ap (λ (b : Blob). b.there) (did.gone t s known.0 known.1))
        (λ not. ap (λ (b : Blob). b.there) (stays t (key_of c.journal.sections s) (not_doomed s small not))
        ∙ false_from_ne_true _ (λ has. not ((over.journal.bytes.over.disk t).whose s small has, low)))
        (below_or c.journal.sections (section_of c.layout.items min) s)

    prune_done : Prunes g gives dev c min (Ok (record left { layout = lay })) cfg kept now mid
    prune_done = record {
      changes = record {
        moments = prune_moments (Ok (k, flag)) kept did;
        footprint = prune_footprint (Ok (k, flag)) kept did;
        config = did.config;
        ends = record {
          over = subst (λ (l : Layout). MayUse g gives dev (record left { layout = l }) mid) (sym same) left_over;
          layout = same;
          place = did.place;
          sound = λ t sound. subst (λ (l : Layout). IsSound (record left { layout = l }) (disk (dev.time mid))) (sym same) (left_sound t sound);
          rest = λ t sound. subst (λ (l : Layout). MayOpen l (state_over g gives dev left mid) (disk (dev.time mid))) (sym same)
              (may_open_again g gives dev.Tells left are (dev.opened mid) (disk (dev.time mid)) left_over t (left_sound t sound));
          step = left_step;
        };
      };
      low = λ le. absurd (omega (arith, le, above));
      gone = λ t r is. none_there t;
      oldest_first = prune_order (Ok (k, flag)) kept did;
      memory = λ r is. subst (λ (x : Seen g gives dev). Recalls x (max c.floor (section_of c.layout.items min)) (held_from c (section_of c.layout.items min))) (ok_is is) (record {
        floor = omega (arith, above);
        held = λ i. ap is_some (offs i) ∙ forgotten_held (section_of c.layout.items min) c.offsets i;
      });
      written = λ r is s. ⊎_elim
          (λ (low : s < section_of c.layout.items min). inr (low, written_is r is s ∙ gone_below (section_of c.layout.items min) c.written written marks s low))
          (λ high. inl (written_is r is s ∙ kept_from (section_of c.layout.items min) c.written written marks s high))
          (cases_lt s (section_of c.layout.items min));
    }
      where
        written_is : (r : Seen g gives dev) → ◌≡◌ {A = Result (Seen g gives dev) Error} (Ok (record left { layout = lay })) (Ok r) → (s : ℕ) → r.written s ≡ written s
        written_is r is s = ap (λ (x : Seen g gives dev). x.written s) (sym (ok_is is))

    -- with the floor by whatever name
    pub prune_done_at : (floor : ℕ) → floor ≡ section_of c.layout.items min → Prunes g gives dev c min (Ok (record left { layout = lay; floor = floor })) cfg kept now mid
    prune_done_at floor at = subst (λ (n : ℕ). Prunes g gives dev c min (Ok (record left { layout = lay; floor = n })) cfg kept now mid) (sym at) prune_done

-- The journal was pruned below the section of `min`, by whatever name.
module _ {S D C : Type 0} {gs : _} (g : buffer.Ghosts (PageBlob S gs)) (gives : AppendFactory S → Setting)
    (dev : device.Ghosts D) (c : Cache (AppendFactory S) (PageBlob S gs)) (are : ArePages g c.layout.seal) (now : D) (over : MayUse g gives dev c now)
    (min bound : ℕ) (same : bound ≡ section_of c.layout.items min) (high : c.floor < bound) (cfg : C) (mid : D) where
  above : c.floor < section_of c.layout.items min
  above = omega (arith, same, high)

  -- without success
  pub pruned_not : (e : Error) (kept : Result C Error) → journal.Prunes g gives c.layout.seal dev c.journal bound (Err e) cfg kept now mid → Prunes g gives dev c min (Err e) cfg (Err e) now mid
  pruned_not e kept did = prune_failed g gives dev c are now over min above cfg mid (Err e) kept (at_bound g gives dev c are now over min above cfg mid bound same (Err e) kept did) e refl

  pub pruned_so : (k : Lists (AppendFactory S) (PageBlob S gs)) (flag : Bool) (kept : Result C Error) → journal.Prunes g gives c.layout.seal dev c.journal bound (Ok (k, flag)) cfg kept now mid
      → (lay : Layout) → lay ≡ c.layout → (off : ℕ → Option ℕ) → ((i : ℕ) → off i ≡ forgotten bound c.offsets i) → (idx : ℕ → Bool) → ((i : ℕ) → idx i ≡ is_some (off i))
      → (written : ℕ → Option ℕ) → ((s : ℕ) → written s ≡ forgotten bound c.written s)
      → Prunes g gives dev c min (Ok (record c { journal = k; layout = lay; offsets = off; indices = idx; written = written; floor = bound })) cfg kept now mid
  pruned_so k flag kept did lay is off offs idx tied written marks = prune_done_at g gives dev c are now over min above cfg mid k flag kept
      (at_bound g gives dev c are now over min above cfg mid bound same (Ok (k, flag)) kept did) lay is
      off (λ i. offs i ∙ ap (λ (b : ℕ). forgotten b c.offsets i) same) idx tied written (λ s. marks s ∙ ap (λ (b : ℕ). forgotten b c.written s) same) bound same
