-- How an opening of a partition ends.
use Rattle.std.specs.Prelude.{◌≡◌, ◌≢◌, ◌⊎◌, ◌↔◌, ℕ, ◌^◌, ◌<◌, ◌≤◌, List, length, map, is_some, IsTrue, Result, Ok, Err, IfOk, OnErr}
use Rattle.std.specs.Int.{w64, to_be_bytes}
use Rattle.std.specs.List.{Contains}
use Rattle.std.specs.Result.{IsErrOf}
use Rattle.std.proofs.Common.{inl, inr, refl, sym, ◌∙◌, ap, subst, arith}
use Rattle.blob_device.specs.Disk.{AreNamesIn, Disk}
use Rattle.blob_device.specs.Opened.{OpenedList, reads_of}
use Rattle.blob_device.specs.Timeline.{disk}
use Rattle.blob_device.specs.declared.device.Device as device
use Rattle.sealed_pages.specs.Reading.{Unchanged}
use Rattle.sealed_pages.specs.lemmas.looking.Looking.{unchanged_now}
use Rattle.section_manager.specs.lemmas.Init.{settling_after, settling_start, settling_unchanged}
use Rattle.section_manager.specs.declared.buffer.SectionBuffer as buffer
use Rattle.section_manager.specs.declared.journal.Error.{Error}
use Rattle.section_manager.specs.declared.journal.Error.TheVariants.{InvalidBlobName, Mem}
use Rattle.section_manager.specs.Entries.{StartsNoRead}
use Rattle.section_manager.specs.managing.Finding.{AreSectionsIn, Finding, Scans}
use Rattle.section_manager.specs.managing.Opening.{Inits, OpensEach, OpensFound}
use Rattle.section_manager.specs.Refusing.{HasFailed, IsForeign}
use Rattle.section_manager.specs.Sections.{Sections, section_key, key_of, IsHeld, IsKnown, IsOver}
use Rattle.section_manager.specs.Setting.{Setting}
use Rattle.section_manager.proofs.InitLemmas.{Found, Opened, above_unopened, found_over, held_wanted, listed_there, none_foreign, none_leftover, opened_as, there_listed, unopened_above}
use Rattle.section_manager.specs.lemmas.Seen.{failed_again, failed_unnamed}
use Rattle.blob_device.proofs.general.Results.{if_ok_weaker, on_err}

-- an opening that was refused for no name
pub not_named : {T : Type 0} (r : Result T Error) (n : List ℕ) (a b : ℕ) → OnErr r (HasFailed r a b) → r ≡ Err (InvalidBlobName n) → ⊥
not_named (Ok v) n a b cause is = absurd (cc is)
not_named {T = T} (Err e) n a b cause is = failed_unnamed {T = T} e n a b cause (cc is)

module _ {F B D : Type 0} (g : buffer.Ghosts B) (gives : F → Setting) (dev : device.Ghosts D) where
  -- ---- over what was found

  -- there is no memory for the maps
  pub found_short : (place : List ℕ) (maker : F) (bound : ℕ) (numbers : List ℕ) (old : D) → (dev.Tells → AreSectionsIn (disk (dev.time old)) place numbers) → (r : Result (Sections F B) Error) → r ≡ Err Mem
      → OpensFound g gives dev place maker bound old old r
  found_short place maker bound numbers old are r is = subst (OpensFound g gives dev place maker bound old old) (sym is) (record {
    inits = record {
      over = tt;
      held = λ t. tt;
      unopened = λ t. tt;
      no_leftover = tt;
      later = tt;
      bytes = λ t. tt;
      idle = tt;
      partition = tt;
      factory = tt;
      floor = tt;
      ceiling = tt;
      moments = λ t. settling_start place bound (dev.time old);
      foreign = λ t name foreign. absurd (none_foreign numbers (map (to_be_bytes w64) numbers) refl (disk (dev.time old)) place (are t) name foreign);
      foreign_disk = λ t name foreign. absurd (none_foreign numbers (map (to_be_bytes w64) numbers) refl (disk (dev.time old)) place (are t) name foreign);
      foreign_entries = λ t name foreign. refl;
      name = λ n named. absurd (cc named);
      name_entries = λ n named. refl;
      named = λ t n named. absurd (cc named);
      entries = λ q other. refl;
      reads = λ none q. omega arith;
      faults = omega arith;
      cause = inr (inl refl);
    };
    names = λ n named. absurd (cc named);
  })

  -- each of them was to be opened
  module _ (numbers : List ℕ) (start : Sections F B) (found : Found numbers start) (number : (s : ℕ) → IsKnown start s → s < 2 ^ 64) (floor : start.floor ≡ 0) (old new : D)
      (are : dev.Tells → AreSectionsIn (disk (dev.time old)) start.partition numbers) where
    small : (k : ℕ) → Contains numbers k → k < 2 ^ 64
    small k listed = number k (inr (ap is_some (found.known k listed)))

    pub start_over : IsOver g gives dev.Tells start (dev.opened old) (disk (dev.time old))
    start_over = found_over g gives dev.Tells numbers start found (dev.opened old) (disk (dev.time old)) floor small
        (λ t s s_small there. there_listed numbers (map (to_be_bytes w64) numbers) refl (disk (dev.time old)) start.partition (are t) small s s_small there)

    pub start_there : dev.Tells → (s : ℕ) → Contains numbers s → IsTrue (disk (dev.time old) (key_of start s)).there
    start_there t s listed = listed_there numbers (map (to_be_bytes w64) numbers) refl (disk (dev.time old)) start.partition (are t) s listed

    module _ (r : Result (Sections F B) Error) (each : OpensEach g gives dev start numbers old new r) where
      opened : IfOk r (λ n. Opened numbers start found n)
      opened = opened_as numbers numbers refl start g gives dev.Tells found (dev.opened new) (disk (dev.time new)) r (λ v. v) each.held each.passed each.over

      no_foreign : dev.Tells → (name : List ℕ) → IsForeign (disk (dev.time old)) start.partition name → ⊥
      no_foreign t = none_foreign numbers (map (to_be_bytes w64) numbers) refl (disk (dev.time old)) start.partition (are t)

      is_there : dev.Tells → (s : ℕ) → Contains numbers s → IsTrue (disk (dev.time old) (section_key start.partition s)).there
      is_there t s listed = start_there t s listed

      is_listed : dev.Tells → (s : ℕ) → s < 2 ^ 64 → IsTrue (disk (dev.time old) (section_key start.partition s)).there → Contains numbers s
      is_listed t = there_listed numbers (map (to_be_bytes w64) numbers) refl (disk (dev.time old)) start.partition (are t) small

      pub found_opened : OpensFound g gives dev start.partition start.factory start.ceiling old new r
      found_opened = record {
        inits = record {
          over = each.over;
          held = λ t. if_ok_weaker r opened (λ n is s s_small. (
            λ held. let wanted = held_wanted numbers start found n is s held in (is_there t s wanted.0, wanted.1),
            λ both. is.held s (is_listed t s s_small both.0) both.1,
          ));
          unopened = λ t. if_ok_weaker r opened (λ n is s s_small. (
            λ unopened. let above = unopened_above numbers start found n is s (ap is_some unopened) in (is_there t s above.0, above.1),
            λ both. above_unopened numbers start found n is s (is_listed t s s_small both.0) both.1,
          ));
          no_leftover = if_ok_weaker r opened (λ n is. none_leftover numbers start found n is);
          later = if_ok_weaker r opened (λ n is s some. (unopened_above numbers start found n is s some).1);
          bytes = each.bytes;
          idle = each.idle;
          partition = if_ok_weaker r each.bounds (λ n b. b.place.partition);
          factory = if_ok_weaker r each.bounds (λ n b. b.place.factory);
          floor = if_ok_weaker r each.bounds (λ n b. b.floor ∙ floor);
          ceiling = if_ok_weaker r each.bounds (λ n b. b.ceiling);
          moments = each.moments;
          foreign = λ t name foreign. absurd (no_foreign t name foreign);
          foreign_disk = λ t name foreign. absurd (no_foreign t name foreign);
          foreign_entries = λ t name foreign. absurd (no_foreign t name foreign);
          name = λ n is. absurd (not_named r n (dev.faults old) (dev.faults new) each.cause is);
          name_entries = λ n is. absurd (not_named r n (dev.faults old) (dev.faults new) each.cause is);
          named = λ t n is. absurd (not_named r n (dev.faults old) (dev.faults new) each.cause is);
          entries = each.entries;
          reads = each.reads;
          faults = each.faults;
          cause = on_err r inr each.cause;
        };
        names = λ n is. not_named r n (dev.faults old) (dev.faults new) each.cause is;
      }

  -- ---- behind the scan

  module _ (place : List ℕ) (maker : F) (bound : ℕ) (old mid : D) where
    pub init_refused : (e : Error) (r : Result (Sections F B) Error) → r ≡ Err e → Scans dev place maker old mid (Err e) → Inits g gives dev place maker bound old mid r
    init_refused e r is scans =
        let refused : Error → Result (Finding F) Error = λ y. Err y in
        subst (Inits g gives dev place maker bound old mid) (sym is) (record {
          over = tt;
          held = λ t. tt;
          unopened = λ t. tt;
          no_leftover = tt;
          later = tt;
          bytes = λ t. tt;
          idle = tt;
          partition = tt;
          factory = tt;
          floor = tt;
          ceiling = tt;
          moments = λ t. settling_unchanged place bound (dev.time old) (dev.time mid) (scans.unchanged t);
          foreign = λ t name foreign. tt;
          foreign_disk = λ t name foreign. scans.unchanged t;
          foreign_entries = λ t name foreign. scans.unopened;
          name = λ n named. scans.name n (let same : e ≡ InvalidBlobName n = cc named in ap refused same);
          name_entries = λ n named. scans.unopened;
          named = λ t n named. scans.named t n (let same : e ≡ InvalidBlobName n = cc named in ap refused same);
          entries = λ q other. ap (λ (l : OpenedList). l q) scans.unopened;
          reads = λ none q. omega (arith, ap reads_of (ap (λ (l : OpenedList). l q) scans.unopened));
          faults = scans.faults;
          cause = elim scans.cause [
            | inl named ↦ (let same : e ≡ InvalidBlobName named.0 = cc named.1 in inl (named.0, cc same))
            | inr failed ↦ inr (failed_again {T = Finding F} {U = Sections F B} e (dev.faults old) (dev.faults mid) failed)
          ];
        })

    module _ (f : Finding F) (scans : Scans dev place maker old mid (Ok f)) where
      pub found_there : dev.Tells → AreSectionsIn (disk (dev.time mid)) f.partition f.numbers
      found_there t = subst (λ (p : List ℕ). AreSectionsIn (disk (dev.time mid)) p f.numbers) (sym scans.partition)
          (subst (λ (d : Disk). AreSectionsIn d place f.numbers) (sym (unchanged_now (dev.time old) (dev.time mid) (scans.unchanged t))) (scans.found t))

      pub inits_after : (new : D) (r : Result (Sections F B) Error) → OpensFound g gives dev f.partition f.factory bound mid new r → Inits g gives dev place maker bound old new r
      inits_after new r opened =
          let opens = subst (λ (p : List ℕ). OpensFound g gives dev p maker bound mid new r) scans.partition (subst (λ (x : F). OpensFound g gives dev f.partition x bound mid new r) scans.factory opened) in
          let i = opens.inits in
          let same : dev.Tells → disk (dev.time mid) ≡ disk (dev.time old) = λ t. unchanged_now (dev.time old) (dev.time mid) (scans.unchanged t) in
          record {
            over = i.over;
            held = λ t. subst (λ (d : Disk). IfOk r (λ n. (s : ℕ) → s < 2 ^ 64 → IsHeld n s ↔ (IsTrue (d (section_key place s)).there × (s ≤ bound)))) (same t) (i.held t);
            unopened = λ t. if_ok_weaker r (i.unopened t) (λ n is s small. (
              λ un. let both = (is s small).0 un in (subst (λ (d : Disk). IsTrue (d (section_key place s)).there) (same t) both.0, both.1),
              λ both. (is s small).1 (subst (λ (d : Disk). IsTrue (d (section_key place s)).there) (sym (same t)) both.0, both.1),
            ));
            no_leftover = i.no_leftover;
            later = i.later;
            bytes = λ t. if_ok_weaker r (i.bytes t) (λ n is s u held. is s u held ∙ ap (λ (d : Disk). g.holds (gives maker) (d (section_key place s)).content) (same t));
            idle = i.idle;
            partition = i.partition;
            factory = i.factory;
            floor = i.floor;
            ceiling = i.ceiling;
            moments = λ t. settling_after place bound (dev.time old) (dev.time mid) (dev.time new) (scans.unchanged t) (i.moments t);
            foreign = λ t name foreign. absurd (scans.foreign t name foreign);
            foreign_disk = λ t name foreign. absurd (scans.foreign t name foreign);
            foreign_entries = λ t name foreign. absurd (scans.foreign t name foreign);
            name = λ n is. absurd (opens.names n is);
            name_entries = λ n is. absurd (opens.names n is);
            named = λ t n is. absurd (opens.names n is);
            entries = λ q other. i.entries q other ∙ ap (λ (l : OpenedList). l q) scans.unopened;
            reads = λ none. subst (λ (l : OpenedList). StartsNoRead l (dev.opened new)) scans.unopened (i.reads none);
            faults = omega (arith, scans.faults, i.faults);
            cause = on_err r (λ cause. elim cause [
              | inl named ↦ inl named
              | inr failed ↦ elim failed [
                | inl none ↦ inr (inl none)
                | inr fault ↦ inr (inr (fault.0, omega (arith, scans.faults, fault.1)))
              ]
            ]) i.cause;
          }

-- ---- the scan

abbrev pub refusal : {T : Type 0} → Error → Result T Error
refusal e = Err e

module _ {F D : Type 0} (dev : device.Ghosts D) (place : List ℕ) (maker : F) (old new : D) (unchanged : dev.Tells → Unchanged (dev.time old) (dev.time new)) (unopened : dev.opened new ≡ dev.opened old) (faults : dev.faults old ≤ dev.faults new) where
  -- the names could not be read
  pub names_unread : (e : Error) (r : Result (Finding F) Error) → r ≡ Err e → HasFailed {T = Finding F} (Err e) (dev.faults old) (dev.faults new) → Scans dev place maker old new r
  names_unread e r is failed = subst (Scans dev place maker old new) (sym is) (record {
    partition = tt;
    factory = tt;
    found = λ t. tt;
    unchanged = unchanged;
    unopened = unopened;
    foreign = λ t name foreign. tt;
    name = λ n named. absurd (failed_unnamed {T = Finding F} e n (dev.faults old) (dev.faults new) failed (cc named));
    named = λ t n named. absurd (failed_unnamed {T = Finding F} e n (dev.faults old) (dev.faults new) failed (cc named));
    faults = faults;
    cause = inr failed;
  })

  module _ (names : List (List ℕ)) (are : dev.Tells → AreNamesIn (disk (dev.time old)) place names) where
    -- one of them is no section's, or there is no memory for their numbers
    pub names_refused : {T : Type 0} (e : Error) (r : Result (Finding F) Error) → r ≡ Err e → ((n : List ℕ) → refusal {T = T} e ≡ refusal {T = T} (InvalidBlobName n) → Contains names n × (length n ≢ 8))
        → IsErrOf {T = T} (Err e) Mem ⊎ ((n : List ℕ) × IsErrOf {T = T} (Err e) (InvalidBlobName n)) → Scans dev place maker old new r
    names_refused {T = T} e r is foreign cause =
        let refused : Error → Result T Error = λ y. Err y in
        subst (Scans dev place maker old new) (sym is) (record {
          partition = tt;
          factory = tt;
          found = λ t. tt;
          unchanged = unchanged;
          unopened = unopened;
          foreign = λ t name foreign. tt;
          name = λ n named. (let same : e ≡ InvalidBlobName n = cc named in (foreign n (ap refused same)).1);
          named = λ t n named.
              let same : e ≡ InvalidBlobName n = cc named in
              let has = foreign n (ap refused same) in
              record { there = ((are t).each n).0 has.0; size = has.1 };
          faults = faults;
          cause = elim cause [
            | inl none ↦ (let same : e ≡ Mem = cc none in inr (inl (cc same)))
            | inr named ↦ (let same : e ≡ InvalidBlobName named.0 = cc named.1 in inl (named.0, cc same))
          ];
        })

    -- they spell these numbers
    pub scanned : (numbers : List ℕ) → map (to_be_bytes w64) numbers ≡ names → Scans dev place maker old new (Ok (record { partition = place; factory = maker; numbers = numbers }))
    scanned numbers spelled = record {
      partition = refl;
      factory = refl;
      found = λ t. subst (λ (l : List (List ℕ)). AreNamesIn (disk (dev.time old)) place l) (sym spelled) (are t);
      unchanged = unchanged;
      unopened = unopened;
      foreign = λ t name foreign. none_foreign numbers names spelled (disk (dev.time old)) place (are t) name foreign;
      name = λ n named. absurd (cc named);
      named = λ t n named. absurd (cc named);
      faults = faults;
      cause = tt;
    }
