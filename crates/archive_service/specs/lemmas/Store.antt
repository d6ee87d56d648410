-- An archive, open or closed, as a store that serves commands: what is known of it before a call, and what it answers.
use Rattle.std.proofs.Common.{◌≡◌, ◌≢◌, ◌⊎◌, inl, inr, refl, sym, ◌∙◌, ap, subst, ℕ, ◌+◌, ◌-◌, ◌*◌, ◌/◌, ◌%◌, ◌^◌, ◌<◌, ◌≤◌, ◌||◌, ◌&&◌, not, ◌==◌, nat_lt, if◌then◌else◌, Bool, true, false, List, [], ◌∷◌, length, Option, Some, None, IsSomeAnd, Result, arith}
use Rattle.std.specs.Prelude.{IsTrue}
use Rattle.std.proofs.lemmas.Bool.{cases_lt, cases_Bool, eq-eqb}
use Rattle.std.proofs.lemmas.List.{length-map}
use Rattle.std.proofs.Math.Nat.{div-add-mod}
use Rattle.blob_device.specs.Disk.{Disk, Key}
use Rattle.blob_device.specs.Timeline.{Timeline, disk, Always}
use Rattle.blob_device.specs.declared.device.Device as device
use Rattle.archives.specs.lemmas.put.Lemmas.{whole_bytes}
use Rattle.meta_store.specs.lemmas.Uses.{IsReadable}
use Rattle.paired.specs.lemmas.pair.Reads.{index_size}
use Rattle.sealed_pages.specs.Buffer.{extent, size_of}
use Rattle.sealed_pages.specs.Reading.{Unchanged}
use Rattle.sealed_pages.specs.Shown as page_blob
use Rattle.sealed_pages.specs.declared.page_blob.PageBlob.{PageBlob}
use Rattle.sealed_pages.specs.declared.write_blob.WriteBlob.{WriteBlob}
use Rattle.section_manager.specs.unsealed.Buffer.{count_of}
use Rattle.section_manager.specs.declared.sealed.AppendFactory.{AppendFactory}
use Rattle.segments.specs.FixedLists as fixed
use Rattle.segments.specs.Tails.{tail_held}
use Rattle.paired.specs.glob.Sections as glob
use Rattle.paired.specs.Pair.{length_of, list_of, records_of}
use Rattle.paired.specs.Records as stored
use Rattle.paired.specs.lemmas.Records.{length-records}
use Rattle.archives.specs.Archives.{IsArchive, IsSoundArchive, filing_of, state_of}
use Rattle.archives.specs.Changes.{Asked, Replied}
use Rattle.archives.specs.Commands.{Reopen}
use Rattle.archives.specs.Filing.{Filing, filed}
use Rattle.archives.specs.FilingLaws.{one_filing}
use Rattle.archives.specs.Machine.{Entry, State, section_of}
use Rattle.archives.specs.Outlasts.{Outlasts}
use Rattle.archives.specs.Prunable.{Prunable, Setup, filing_by, write_buffer_of}
use Rattle.archives.specs.Putting.{HasBufferRoom, IsAllowed, IsFullFor, IsFullOver, IsPassed, IsTooLargeFor, Often, Once, Times, frame_size, is_skipped, record_tail, rows_after, size_after}
use Rattle.archives.specs.Rows.{row_in}
use Rattle.archives.specs.Syncing.{IsMovingBy, IsMovingIn}
use Rattle.archives.specs.declared.error.Error.{Error}
use Rattle.archive_service.specs.Causes.{Adds, Held, IsPastAll, IsPastSizeAlone, IsRefusedAsFull, IsRefusedAsTooLarge, IsSurelyFull, PassesNumbers, PutsBy, PutsHere, added_by, adds_to, bytes_with, frame_by, rows_with}
use Rattle.archive_service.specs.Families.{IfFree, InAnyCase, PutOf, family_of, put_of}
use Rattle.archive_service.specs.StoreCalls.{Answers, Serving}
use Rattle.archive_service.specs.PrunableKind.{Clears, ClearsOpen, FitsBuffers, IsBuffered, prunable_kind}
use Rattle.archive_service.specs.Starts.{start_with}
use Rattle.archive_service.specs.PrunableStore.{IsSoundOpenable, IsUsableOpenable, IsUsableStore, held_by, openable_held, openable_serving, openable_state}
use Rattle.archive_service.specs.declared.store.openable.Openable.{Openable}
use Rattle.archive_service.specs.declared.store.openable.Openable.TheVariants.{Open}

pub always_as : (a b : Timeline) (P Q : Disk → Type 0) → ((d : Disk) → P d → Q d) → Always a b P → Always a b Q
always_as a b P Q weaker always = record { later = always.later; kept = always.kept; each = λ m lo hi. weaker (b.at m) (always.each m lo hi) }

-- a call that only reads leaves what stood before it
pub unchanged_always : (a b : Timeline) (P : Disk → Type 0) → Unchanged a b → P (disk a) → Always a b P
unchanged_always a b P unchanged holds = always_as a b (λ d. d ≡ disk a) P (λ d same. subst P (sym same) holds) unchanged

-- where no call of the device was made
pub nothing_done : {Dev : Type 0} (time : Dev → Timeline) (before now : Dev) → now ≡ before → Unchanged (time before) (time now)
nothing_done {Dev = Dev} time before now same = subst (λ (x : Dev). Unchanged (time before) (time x)) (sym same) (record { later = omega arith; kept = λ m le. refl; each = λ m lo hi. ap (λ (k : ℕ). (time before).at k) (omega (arith, lo, hi)) })

-- what is put, where an index may have one record, or several
abbrev pub putting : Times → Entry (List ℕ) → PutOf
putting Once r = IfFree r
putting Often r = InAnyCase r

module _ {A V D : Type 0} (s : Serving A V) (dev : device.Ghosts D) (a : A) where
  -- the same result, written otherwise
  pub answers_with : (command : Asked) (result other : Result (A × Replied) Error) (old new : D) → other ≡ result
      → Answers s dev a command result old new → Answers s dev a command other old new
  answers_with command result other old new same answers = subst (λ (o : Result (A × Replied) Error). Answers s dev a command o old new) (sym same) answers

  -- the same command, written otherwise
  pub answers_to : (command other : Asked) (result : Result (A × Replied) Error) (old new : D) → other ≡ command
      → Answers s dev a command result old new → Answers s dev a other result old new
  answers_to command other result old new same answers = subst (λ (x : Asked). Answers s dev a x result old new) (sym same) answers

-- whole records are as many as their bytes hold
one_more : (size n count : ℕ) → count ≡ n / size → n % size ≡ 0 → (count + 1) * size ≡ n + size
one_more size n count is whole = omega (arith, div-add-mod n size, whole, ap (λ (k : ℕ). size * k) is)

at_most : (n m : ℕ) → (m < n → ⊥) → n ≤ m
at_most n m not_more = elim (cases_lt m n) as (λ _. n ≤ m) [ inl more ↦ absurd (not_more more) | inr le ↦ le ]

zero_div : (m : ℕ) → 0 / m ≡ 0
zero_div m = omega (arith, div-add-mod 0 m)

pub none_long : {X : Type 0} (xs : List X) → length xs ≡ 0 → xs ≡ []
none_long [] is = refl
none_long (x ∷ xs) is = absurd (omega (arith, is))

free_adds : (skipped : Bool) (r : Entry (List ℕ)) (P : Entry (List ℕ) → Type 0) → skipped ≡ false → P r → IsSomeAnd (if skipped then None else Some r) P
free_adds skipped r P free has = subst (λ (b : Bool). IsSomeAnd (if b then None else Some r) P) (sym free) has

adds_free : (skipped : Bool) (r : Entry (List ℕ)) (P : Entry (List ℕ) → Type 0) → IsSomeAnd (if skipped then None else Some r) P → (skipped ≡ false) × P r
adds_free true r P none = absurd none
adds_free false r P has = (refl, has)

module _ {A V S D : Type 0} {gs : _} (p : Prunable A V (AppendFactory S) (PageBlob S gs)) (setup : Setup V) (valid : Type 0) (dev : device.Ghosts D) where
  -- the store of archives that file their records so, open or closed
  abbrev pub serving_by : Filing → Serving (Openable A) V
  serving_by f = record {
    kind = prunable_kind f setup.write_buffer setup.value_buffer;
    starts = start_with f;
    IsValid = valid;
    Accepts = setup.Allows;
    IsUsable = IsUsableOpenable p setup;
    IsSound = IsSoundOpenable p setup;
    state = openable_state p setup;
    known = openable_held p setup;
  }

  -- there is a row for each record
  pub rows_long_of : (x : A) (now : D) → IsArchive (p.see x) p.buffers dev.Tells (dev.opened now) (disk (dev.time now)) → dev.Tells
      → (s : ℕ) → length ((p.see x).rows s) ≡ length_of (p.see x).pair s
  rows_long_of x now over t s =
      ap length (over.listed t s) ∙ length-map (records_of (p.see x).pair (disk (dev.time now)) s) (row_in (p.see x).key_size)
      ∙ length-records (p.see x).pair.layout.record_size (fixed.section_bytes (p.see x).pair.index.sections (disk (dev.time now)) s)
      ∙ ap (λ (n : ℕ). n / (p.see x).pair.layout.record_size) (index_size (p.see x).pair.index.sections (disk (dev.time now)) s)

  -- and so many records the state has
  pub lists_long_of : (x : A) (now : D) (s : ℕ) → length ((state_of (p.see x) (disk (dev.time now))).lists s) ≡ length_of (p.see x).pair s
  lists_long_of x now s =
      length-map (list_of (p.see x).pair (disk (dev.time now)) s) (filed (filing_of (p.see x)))
      ∙ length-map (records_of (p.see x).pair (disk (dev.time now)) s)
      (stored.entry_of (p.see x).pair.layout.place (glob.section_bytes (p.see x).pair.values (disk (dev.time now)) s))
      ∙ length-records (p.see x).pair.layout.record_size (fixed.section_bytes (p.see x).pair.index.sections (disk (dev.time now)) s)
      ∙ ap (λ (n : ℕ). n / (p.see x).pair.layout.record_size) (index_size (p.see x).pair.index.sections (disk (dev.time now)) s)

  -- What is known of the archive before a call: it may be used, and what its state says; how its markers are stored, and where; and how its buffers are made.
  pub record Given (a : A) (old : D) : Type 1 where
    pub usable : IsUsableStore p setup a dev.Tells (dev.opened old) (disk (dev.time old))
    pub laws : Outlasts p dev a old
    pub markers : (x : A) → (filing_by p x).layout.markers ≡ setup.filing.layout.markers
    pub readable : IsReadable (filing_by p a).layout.markers
    pub partition : (p.see a).pair.store.partition ≡ (filing_by p a).layout.metadata
    pub marked : IsTrue (filing_by p a).layout.marked
    pub buffers : (s : ℕ) (u : PageBlob S gs) → (p.see a).pair.index.sections.held s ≡ Some u
        → (u.page_size ≡ (p.see a).pair.layout.page_size) × (u.capacity ≡ write_buffer_of (p.see a))

  module _ (a : A) (old : D) (given : Given a old) where
    abbrev pub d : Disk
    d = disk (dev.time old)

    abbrev pub f : Filing
    f = filing_by p a

    abbrev pub st : State (List ℕ)
    st = state_of (p.see a) d

    abbrev pub known : Held
    known = held_by p a

    pub own : f ≡ setup.filing
    own = one_filing setup.filing f given.usable.filing (given.markers a)

    -- what holds in the terms of the archive holds in those of the configuration
    pub as_asked : (command : Asked) (result : Result (Openable A × Replied) Error) (new : D) → Answers (serving_by f) dev (Open a) command result old new
        → Answers (openable_serving p setup valid) dev (Open a) command result old new
    as_asked command result new answers = subst (λ (g : Filing). Answers (serving_by g) dev (Open a) command result old new) own answers

    -- ---- how many rows

    pub rows_long : dev.Tells → (s : ℕ) → length ((p.see a).rows s) ≡ length_of (p.see a).pair s
    rows_long = rows_long_of a old given.usable.usable

    pub lists_long : (s : ℕ) → length (st.lists s) ≡ length_of (p.see a).pair s
    lists_long = lists_long_of a old

    -- what the state says of markers the rows say
    pub moving_by_rows : dev.Tells → (lengths rows synced : ℕ → ℕ) → ((s : ℕ) → rows s ≡ lengths s) → IsMovingBy f d lengths synced → IsMovingBy f d rows synced
    moving_by_rows t lengths rows synced same moving = subst (λ (long : ℕ → ℕ). IsMovingBy f d long synced) (λ i s. sym (same s) i) moving

    pub moving_held : dev.Tells → IsMovingIn f d st → IsMovingBy f d (λ s. length (known.rows s)) known.synced
    moving_held t moving = moving_by_rows t (λ s. length (st.lists s)) (λ s. length (known.rows s)) known.synced (λ s. rows_long t s ∙ sym (lists_long s)) moving

    -- and what the rows say the state does
    pub held_moving : dev.Tells → IsMovingBy f d (λ s. length (known.rows s)) known.synced → IsMovingIn f d st
    held_moving t moving = moving_by_rows t (λ s. length (known.rows s)) (λ s. length (st.lists s)) known.synced (λ s. lists_long s ∙ sym (rows_long t s)) moving

    -- ---- a record that is put, once to its index or often

    module _ (times : Times) (i : ℕ) (k v : List ℕ) where
      abbrev pub r : Entry (List ℕ)
      r = record { index = i; key = k; value = v }

      abbrev pub n : ℕ
      n = frame_size f.layout v

      -- it is dropped
      abbrev pub skip : Bool
      skip = is_skipped (p.see a) i times

      -- it is added, and has P: by the state, and by what is held
      abbrev pub Added : (Entry (List ℕ) → Type 0) → Type 0
      Added P = IsSomeAnd (added_by f st (putting times r)) P

      abbrev pub HeldAdded : (Entry (List ℕ) → Type 0) → Type 0
      HeldAdded P = PutsBy f known (putting times r) P

      -- A command that puts it.
      pub record PutsIt (c : Asked) : Type 1 where
        pub no_reopen : c ≡ Reopen → ⊥
        pub adds : (P : Entry (List ℕ) → Type 0) → Added P → Adds f st (Some c) P
        pub added : (P : Entry (List ℕ) → Type 0) → Adds f st (Some c) P → Added P
        pub holds : (P : Entry (List ℕ) → Type 0) → HeldAdded P → PutsHere f known (Some c) P
        pub held : (P : Entry (List ℕ) → Type 0) → PutsHere f known (Some c) P → HeldAdded P
        pub clears : (q : Key) → Clears f setup.write_buffer setup.value_buffer known c q → ⊥

      -- it is one by what it puts
      pub puts_it : (c : Asked) → put_of c ≡ Some (putting times r) → (c ≡ Reopen → ⊥) → ((q : Key) → ClearsOpen f setup.write_buffer setup.value_buffer (family_of c) q → ⊥) → PutsIt c
      puts_it c same never clears = record {
        no_reopen = never;
        adds = λ P adds. subst (λ (x : Option PutOf). IsSomeAnd x (λ put. IsSomeAnd (added_by f st put) P)) (sym same) adds;
        added = λ P adds. subst (λ (x : Option PutOf). IsSomeAnd x (λ put. IsSomeAnd (added_by f st put) P)) same adds;
        holds = λ P holds. subst (λ (x : Option PutOf). IsSomeAnd x (λ put. PutsBy f known put P)) (sym same) holds;
        held = λ P holds. subst (λ (x : Option PutOf). IsSomeAnd x (λ put. PutsBy f known put P)) same holds;
        clears = λ q both. clears q both.1;
      }

      -- what is held of a section, with what is put
      frame_of : (m : Times) → frame_by f (putting m r) ≡ n
      frame_of Once = refl
      frame_of Often = refl

      adds_of : (m : Times) (s : ℕ) → adds_to f known (putting m r) s ≡ (not (is_skipped (p.see a) i m) && (s == section_of f.items i))
      adds_of Once s = refl
      adds_of Often s = refl

      rows_of : (m : Times) (s : ℕ) → rows_with f known (putting m r) s ≡ rows_after (p.see a) i (is_skipped (p.see a) i m) k s
      rows_of Once s = refl
      rows_of Often s = refl

      bytes_of : (m : Times) (s : ℕ) → bytes_with f known (putting m r) s ≡ size_after (p.see a) i (is_skipped (p.see a) i m) n s
      bytes_of Once s = refl
      bytes_of Often s = refl

      pub frame_is : frame_by f (putting times r) ≡ n
      frame_is = frame_of times

      pub adds_is : (s : ℕ) → adds_to f known (putting times r) s ≡ (not skip && (s == section_of f.items i))
      adds_is = adds_of times

      pub rows_are : (s : ℕ) → rows_with f known (putting times r) s ≡ rows_after (p.see a) i skip k s
      rows_are = rows_of times

      pub bytes_are : (s : ℕ) → bytes_with f known (putting times r) s ≡ size_after (p.see a) i skip n s
      bytes_are = bytes_of times

      -- by what is held it is dropped just where the archive skips it
      holds_of : (m : Times) (P : Entry (List ℕ) → Type 0) → is_skipped (p.see a) i m ≡ false → P r → PutsBy f known (putting m r) P
      holds_of Once P free has = (free, has)
      holds_of Often P free has = (free, has)

      held_of : (m : Times) (P : Entry (List ℕ) → Type 0) → PutsBy f known (putting m r) P → (is_skipped (p.see a) i m ≡ false) × P r
      held_of Once P holds = holds
      held_of Often P holds = holds

      pub holds_now : (P : Entry (List ℕ) → Type 0) → skip ≡ false → P r → HeldAdded P
      holds_now = holds_of times

      pub now_holds : (P : Entry (List ℕ) → Type 0) → HeldAdded P → (skip ≡ false) × P r
      now_holds = held_of times

    module _ (times : Times) (i : ℕ) (k v : List ℕ) (t : dev.Tells) where
      abbrev entry : Entry (List ℕ)
      entry = r times i k v

      abbrev framed : ℕ
      framed = n times i k v

      abbrev dropped : Bool
      dropped = skip times i k v

      -- and so it is by the state
      added_of : (m : Times) → added_by f st (putting m entry) ≡ (if is_skipped (p.see a) i m then None else Some entry)
      added_of Once = ap (λ (b : Bool). if nat_lt i (p.see a).floor || b then None else Some entry) (sym ((given.laws.state t).taken i))
      added_of Often = refl

      pub adds_now : (P : Entry (List ℕ) → Type 0) → dropped ≡ false → P entry → Added times i k v P
      adds_now P free has = subst (λ (o : Option (Entry (List ℕ))). IsSomeAnd o P) (sym (added_of times)) (free_adds dropped entry P free has)

      pub now_adds : (P : Entry (List ℕ) → Type 0) → Added times i k v P → (dropped ≡ false) × P entry
      now_adds P adds = adds_free dropped entry P (subst (λ (o : Option (Entry (List ℕ))). IsSomeAnd o P) (added_of times) adds)

      pub full_for : IsFullOver (p.see a) i dropped dev.Tells framed → IsFullFor (p.see a) i dropped framed
      full_for over = record {
        free = over.free;
        full = elim over.full as (λ _. (IsAllowed (p.see a) i → ⊥) ⊎ ((framed ≤ 2 ^ 32 - 1) × IsPassed (p.see a) i framed)) [ inl limits ↦ inl limits | inr passed ↦ inr (passed.0, passed.1 (inl t)) ];
      }

      pub full_adds : IsSoundArchive (p.see a) d → IsFullFor (p.see a) i dropped framed → Added times i k v (IsRefusedAsFull f st)
      full_adds sound full = adds_now (IsRefusedAsFull f st) full.free (elim full.full as (λ _. IsRefusedAsFull f st entry) [
        | inl over ↦ inl (λ room. over (((given.laws.state t).allowed i).1 room))
        | inr passed ↦ inr ((λ large. absurd (omega (arith, large, passed.0))), ((given.laws.state t).passed sound i framed (omega (arith, passed.0))).0 passed.1)
      ])

      pub adds_full : IsSoundArchive (p.see a) d → Added times i k v (IsRefusedAsFull f st) → IsFullFor (p.see a) i dropped framed
      adds_full sound adds =
          let found = now_adds (IsRefusedAsFull f st) adds in
          record {
            free = found.0;
            full = elim found.1 as (λ _. (IsAllowed (p.see a) i → ⊥) ⊎ ((framed ≤ 2 ^ 32 - 1) × IsPassed (p.see a) i framed)) [
              | inl over ↦ inl (λ room. over (((given.laws.state t).allowed i).0 room))
              | inr none ↦ (let few : framed ≤ 2 ^ 32 - 1 = at_most framed (2 ^ 32 - 1) none.0 in inr (few, ((given.laws.state t).passed sound i framed (omega (arith, few))).1 none.1))
            ];
          }

      pub large_adds : IsTooLargeFor (p.see a) i dropped framed → Added times i k v (IsRefusedAsTooLarge f st)
      large_adds large = adds_now (IsRefusedAsTooLarge f st) large.free (record { allowed = λ over. over (((given.laws.state t).allowed i).0 large.allowed); large = large.large })

      -- what contradicts that it is too large contradicts that the state says so
      pub not_large : (IsTooLargeFor (p.see a) i dropped framed → ⊥) → Added times i k v (IsRefusedAsTooLarge f st) → ⊥
      not_large never adds =
          let found = now_adds (IsRefusedAsTooLarge f st) adds in
          found.1.allowed (λ room. never (record { free = found.0; allowed = ((given.laws.state t).allowed i).1 room; large = found.1.large }))

      -- ---- over any image

      abbrev pub here : ℕ
      here = section_of f.items i

      -- as many bytes of records as the buffer has, and one more
      index_long : (u : PageBlob S gs) → (p.see a).pair.index.sections.held here ≡ Some u
          → size_of (page_blob.shown u) + f.layout.record_size ≡ (length (known.rows here) + 1) * f.layout.record_size
      index_long u is =
          let whole = whole_bytes (p.see a).pair (dev.opened old) d given.usable.usable.pair t here in
          let bytes : List ℕ = fixed.section_bytes (p.see a).pair.index.sections d here in
          let size : length bytes ≡ size_of (page_blob.shown u) = index_size (p.see a).pair.index.sections d here ∙ ap (λ (o : Option (PageBlob S gs)). fixed.size_held o) is in
          let count : length (known.rows here) ≡ length bytes / f.layout.record_size = rows_long t here
          ∙ sym (ap (λ (m : ℕ). m / f.layout.record_size) (index_size (p.see a).pair.index.sections d here)) in
          omega (arith, one_more f.layout.record_size (length bytes) (length (known.rows here)) count whole, size)

      numbers : IsPassed (p.see a) i framed → PassesNumbers f known.rows known.bytes entry
      numbers (inl index) = go ((p.see a).pair.index.sections.held here) refl index
        where
          go : (o : Option (PageBlob S gs)) → (p.see a).pair.index.sections.held here ≡ o → IsSomeAnd o (λ u. 2 ^ 64 ≤ extent u.page_size (size_of (page_blob.shown u) + (p.see a).pair.layout.record_size)) → PassesNumbers f known.rows known.bytes entry
          go None is over = absurd over
          go (Some u) is over = inl (subst (λ (m : ℕ). 2 ^ 64 ≤ extent f.layout.page_size m) (index_long u is)
              (subst (λ (P : ℕ). 2 ^ 64 ≤ extent P (size_of (page_blob.shown u) + f.layout.record_size)) (given.buffers here u is).0 over))
      numbers (inr values) = go ((p.see a).pair.values.held here) refl values
        where
          go : (o : Option WriteBlob) → (p.see a).pair.values.held here ≡ o → IsSomeAnd o (λ u. 2 ^ 64 ≤ count_of u + framed) → PassesNumbers f known.rows known.bytes entry
          go None is over = absurd over
          go (Some u) is over = (let size : glob.section_size (p.see a).pair.values here ≡ count_of u = ap glob.size_held is in inr (omega (arith, over, size)))

      pub past : IsFullFor (p.see a) i dropped framed → IsPastAll f known entry
      past full = elim full.full as (λ _. IsPastAll f known entry) [
        | inl over ↦ inl over
        | inr passed ↦ inr ((λ large. omega (arith, large, passed.0)), numbers passed.1)
      ]

      pub past_size : IsTooLargeFor (p.see a) i dropped framed → IsPastSizeAlone f known entry
      past_size large = record { allowed = λ over. over large.allowed; large = large.large }

      -- a section with rows is held
      held_index : known.rows here ≢ [] → (p.see a).pair.index.sections.held here ≡ None → ⊥
      held_index some none = some (none_long (known.rows here)
          (rows_long t here ∙ ap (λ (o : Option (PageBlob S gs)). fixed.size_held o / f.layout.record_size) none ∙ zero_div f.layout.record_size))

      passed_by : known.rows here ≢ [] → framed ≤ 2 ^ 32 - 1 → PassesNumbers f known.rows known.bytes entry → IsPassed (p.see a) i framed
      passed_by some few (inl index) = inl (go ((p.see a).pair.index.sections.held here) refl)
        where
          go : (o : Option (PageBlob S gs)) → (p.see a).pair.index.sections.held here ≡ o → IsSomeAnd o (λ u. 2 ^ 64 ≤ extent u.page_size (size_of (page_blob.shown u) + (p.see a).pair.layout.record_size))
          go None is = absurd (held_index some is)
          go (Some u) is = subst (λ (P : ℕ). 2 ^ 64 ≤ extent P (size_of (page_blob.shown u) + f.layout.record_size)) (sym (given.buffers here u is).0)
              (subst (λ (m : ℕ). 2 ^ 64 ≤ extent f.layout.page_size m) (sym (index_long u is)) index)
      passed_by some few (inr values) = inr (go ((p.see a).pair.values.held here) refl)
        where
          go : (o : Option WriteBlob) → (p.see a).pair.values.held here ≡ o → IsSomeAnd o (λ u. 2 ^ 64 ≤ count_of u + framed)
          go None is = (let none : glob.section_size (p.see a).pair.values here ≡ 0 = ap glob.size_held is in absurd (omega (arith, values, none, few)))
          go (Some u) is = (let size : glob.section_size (p.see a).pair.values here ≡ count_of u = ap glob.size_held is in omega (arith, values, size))

      -- what is held is surely full for the record, and so the archive is
      pub surely_full : dropped ≡ false → IsSurelyFull f known entry → IsFullFor (p.see a) i dropped framed
      surely_full free sure = record {
        free = free;
        full = elim sure.0 as (λ _. (IsAllowed (p.see a) i → ⊥) ⊎ ((framed ≤ 2 ^ 32 - 1) × IsPassed (p.see a) i framed)) [
          | inl over ↦ inl over
          | inr none ↦ elim sure.1 as (λ _. (IsAllowed (p.see a) i → ⊥) ⊎ ((framed ≤ 2 ^ 32 - 1) × IsPassed (p.see a) i framed)) [
            | inl over ↦ inl over
            | inr some ↦ (let few : framed ≤ 2 ^ 32 - 1 = at_most framed (2 ^ 32 - 1) none.0 in inr (few, passed_by some few none.1))
          ]
        ];
      }

      pub not_large_held : (IsTooLargeFor (p.see a) i dropped framed → ⊥) → dropped ≡ false → IsPastSizeAlone f known entry → ⊥
      not_large_held never free alone = alone.allowed (λ room. never (record { free = free; allowed = room; large = alone.large }))

      -- both buffers have room, by what is known
      pub room : FitsBuffers f setup.write_buffer setup.value_buffer known (putting times entry) here → HasBufferRoom (p.see a) i framed
      room fits = held_room ((p.see a).pair.index.sections.held here) refl ((p.see a).pair.values.held here) refl
        where
          held_room : (o : Option (PageBlob S gs)) → (p.see a).pair.index.sections.held here ≡ o → (q : Option WriteBlob) → (p.see a).pair.values.held here ≡ q → HasBufferRoom (p.see a) i framed
          held_room None is q also = absurd (held_index fits.records_there is)
          held_room (Some u) is None also = absurd (fits.values_there (ap glob.size_held also))
          held_room (Some u) is (Some w) also =
              let tail : record_tail (p.see a) here ≡ length (page_blob.shown u).tip - (page_blob.shown u).from = ap (λ (o : Option (PageBlob S gs)). tail_held o) is in
              let capacity : u.capacity ≡ setup.write_buffer = (given.buffers here u is).1 ∙ given.usable.write_buffer in
              record {
                records = u;
                held = is;
                no_flush = inl (omega (arith, fits.record_room, tail, capacity));
                values = w;
                values_held = also;
                below = omega (arith, fits.value_room, given.usable.value_buffer, frame_is times i k v);
              }

      pub buffered : (new : D) → (IsTrue dropped → new ≡ old) → (HasBufferRoom (p.see a) i framed → new ≡ old)
          → IsBuffered f setup.write_buffer setup.value_buffer known (putting times entry) → new ≡ old
      buffered new skipped below fits = elim (cases_Bool dropped) as (λ _. new ≡ old) [
        | inl there ↦ skipped there
        | inr free ↦ below (room (fits here (adds_is times i k v here ∙ ap (λ (b : Bool). not b && (here == here)) free ∙ eq-eqb here here refl)))
      ]
