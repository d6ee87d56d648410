-- How a read of a fixed journal by position ends: with no call, or as the read of its section's buffer.
use Rattle.std.specs.Prelude.{◌≡◌, ◌⊎◌, ◌↔◌, ℕ, ◌+◌, ◌-◌, ◌*◌, ◌/◌, ◌<◌, ◌≤◌, false, List, map, count_by, Option, Some, None, Result, Ok, Err, IfOk, OnErr, IsSomeAnd}
use Rattle.std.specs.Result.{IsErrOf}
use Rattle.std.specs.List.{Contains}
use Rattle.std.proofs.Common.{inl, inr, refl, sym, ◌∙◌, ap, subst, arith}
use Rattle.blob_device.specs.Disk.{Disk}
use Rattle.blob_device.specs.Opened.{OpenedList}
use Rattle.blob_device.specs.Timeline.{disk}
use Rattle.blob_device.specs.declared.device.Device as device
use Rattle.blob_device.specs.declared.runtime.RError.TheVariants.{InvalidChecksum}
use Rattle.value_codec.specs.declared.codec.Error as codec
use Rattle.sealed_pages.specs.declared.page_blob.PageBlob.{PageBlob}
use Rattle.sealed_pages.specs.Buffer.{size_of, bytes_of, IsBacked}
use Rattle.sealed_pages.specs.Buffer as pages
use Rattle.sealed_pages.specs.Shown.{shown}
use Rattle.sealed_pages.specs.lemmas.Entries.{only_read_of}
use Rattle.sealed_pages.specs.lemmas.looking.Looking.{unchanged_now, unchanged_start}
use Rattle.segments.specs.lemmas.adding.Write.{ArePages}
use Rattle.segments.specs.lemmas.held.Sections.{bytes_own, from_here, holds_own, is_held, journal_read, own_here, size_here, some_here}
use Rattle.section_manager.specs.Refusing.{IsPruned}
use Rattle.section_manager.specs.Sections.{key_of}
use Rattle.section_manager.specs.Setting.{Setting}
use Rattle.section_manager.specs.declared.buffer.SectionBuffer as buffer
use Rattle.section_manager.specs.declared.journal.Error.{Error}
use Rattle.section_manager.specs.declared.journal.Error.TheVariants.{Runtime, Codec, AlreadyPrunedToSection, SectionOutOfRange, ItemOutOfRange}
use Rattle.section_manager.specs.declared.sealed.AppendFactory.{AppendFactory}
use Rattle.section_manager.specs.lemmas.Seen.{err_same}
use Rattle.segments.specs.FixedGetting.{Gets, GetsLast, GetsMany, ReadsItem, ReadsEach}
use Rattle.segments.specs.FixedItems.{item_at, IsItem}
use Rattle.segments.specs.FixedLists.{Lists, section_bytes, section_size, IsJournal}
use Rattle.segments.specs.FixedReading.{HasItem, is_item_held, unheld, IsDamaged, IsItemCovered, IsAbsent, IsPast, HasNotRead}
use Rattle.segments.proofs.looking.ItemReads.{no_reads}
use Rattle.segments.proofs.looking.ReadLemmas.{none_over}
use Rattle.segments.proofs.held.Sections.{reads_as, sound_page}
use Rattle.blob_device.proofs.general.Options.{some_same, value_of}
use Rattle.blob_device.proofs.general.Results.{on_ok}
use Rattle.std.proofs.lemmas.Bool.{cases_Bool}

-- what a read of a buffer answers is none of these refusals
unrefused : {T : Type 0} (x : Error) (a b n s p : ℕ) → HasNotRead {T = T} (Err x) a b → (x ≡ AlreadyPrunedToSection n) ⊎ ((x ≡ SectionOutOfRange s) ⊎ (x ≡ ItemOutOfRange p)) → ⊥
unrefused x a b n s p (inl page) is = elim is [ inl e ↦ absurd (cc (page.1, e)) | inr more ↦ elim more [ inl e ↦ absurd (cc (page.1, e)) | inr e ↦ absurd (cc (page.1, e)) ] ]
unrefused x a b n s p (inr (inl code)) is = elim is [ inl e ↦ absurd (cc (code.1, e)) | inr more ↦ elim more [ inl e ↦ absurd (cc (code.1, e)) | inr e ↦ absurd (cc (code.1, e)) ] ]
unrefused x a b n s p (inr (inr (inl mem))) is = elim is [ inl e ↦ absurd (cc (mem, e)) | inr more ↦ elim more [ inl e ↦ absurd (cc (mem, e)) | inr e ↦ absurd (cc (mem, e)) ] ]
unrefused x a b n s p (inr (inr (inr fault))) is = elim is [ inl e ↦ absurd (cc (fault.0, e)) | inr more ↦ elim more [ inl e ↦ absurd (cc (fault.0, e)) | inr e ↦ absurd (cc (fault.0, e)) ] ]

-- so it is where it has an answer of this kind
read_apart : {T : Type 0} (r : Result T Error) (a b n s p : ℕ) → OnErr r (HasNotRead r a b) → (IsErrOf r (AlreadyPrunedToSection n) → ⊥) × (IsErrOf r (SectionOutOfRange s) → ⊥) × (IsErrOf r (ItemOutOfRange p) → ⊥)
read_apart (Ok v) a b n s p cause = (λ is. absurd (cc is), λ is. absurd (cc is), λ is. absurd (cc is))
read_apart {T = T} (Err x) a b n s p cause =
    let none = unrefused {T = T} x a b n s p cause in
    (λ is. none (inl (cc is)), λ is. none (inr (inl (cc is))), λ is. none (inr (inr (cc is))))

-- a section that is not found is refused for that alone
module _ {T U : Type 0} (e : Error) (floor s : ℕ) (cause : IsPruned {T = T} (Err e) floor ⊎ IsAbsent {T = T} (Err e) s) where
  pub unfound_page : (k : ℕ) → IsErrOf {T = U} (Err e) (Runtime (InvalidChecksum k)) → ⊥
  unfound_page k is = elim cause [ inl pruned ↦ absurd (cc (pruned, is)) | inr none ↦ absurd (cc (none, is)) ]

  pub unfound_code : (x : codec.Error) → IsErrOf {T = U} (Err e) (Codec x) → ⊥
  unfound_code x is = elim cause [ inl pruned ↦ absurd (cc (pruned, is)) | inr none ↦ absurd (cc (none, is)) ]

  pub unfound_past : (p : ℕ) → IsErrOf {T = U} (Err e) (ItemOutOfRange p) → ⊥
  unfound_past p is = elim cause [ inl pruned ↦ absurd (cc (pruned, is)) | inr none ↦ absurd (cc (none, is)) ]

module _ {S : Type 0} {gs : _} (g : buffer.Ghosts (PageBlob S gs)) (gives : AppendFactory S → Setting) (seal : List ℕ → ℕ) (size : ℕ) (told : Type 0) (j : Lists (AppendFactory S) (PageBlob S gs)) (s : ℕ)
    (opened : OpenedList) (d : Disk) (journal : IsJournal g gives seal size told j opened d) where
  -- a section that is held is not below the floor
  pub unpruned : (u : PageBlob S gs) → j.sections.held s ≡ Some u → j.sections.floor ≤ s
  unpruned u held = journal.over.opened_list.from_floor s (inl (is_held j.sections s u held))

  -- what is refused is not held
  pub none_there : {T : Type 0} (e : Error) → IsPruned {T = T} (Err e) j.sections.floor ⊎ IsAbsent {T = T} (Err e) s → (IsPruned {T = T} (Err e) j.sections.floor → s < j.sections.floor)
      → (IsAbsent {T = T} (Err e) s → j.sections.held s ≡ None) → (P : PageBlob S gs → Type 0) → IsSomeAnd (j.sections.held s) P → ⊥
  none_there e cause below absent P has =
      let u = value_of (j.sections.held s) P has in
      elim cause [ inl pruned ↦ omega (arith, below pruned, unpruned u.value u.is) | inr none ↦ (let gone = absent none in absurd (cc (gone, u.is))) ]

  module _ (are : ArePages g seal) (u : PageBlob S gs) (held : j.sections.held s ≡ Some u) where
    -- its buffer is over its blob
    pub own_key : pages.key_of (shown u) ≡ key_of j.sections s
    own_key = sym (are.key u) ∙ journal.over.opened_list.key s u held

    pub own_backed : told → IsBacked seal (shown u) (d (pages.key_of (shown u))).content
    own_backed t = holds_own j.sections s u held own_key seal d (are.stands u _ ((journal.over.disk t).stands s u held))

    -- in pages as the factory makes them
    pub own_pages : ((f : AppendFactory S) → (gives f).page_size ≡ f.pages.page_size) → u.page_size ≡ j.sections.factory.pages.page_size
    own_pages paging = sym (are.page_size u) ∙ ap (λ (t : Setting). t.page_size) (journal.over.opened_list.setting s u held) ∙ paging j.sections.factory

module _ {V S D : Type 0} {gs : _} (g : buffer.Ghosts (PageBlob S gs)) (gives : AppendFactory S → Setting) (seal : List ℕ → ℕ) (size : ℕ) (spelling : V → List ℕ) (allows : V → Unit {0} → Type 0)
    (refusal : List ℕ → Unit {0} → Option codec.Error) (dev : device.Ghosts D) (j : Lists (AppendFactory S) (PageBlob S gs)) (s : ℕ) (old new : D)
    (journal : IsJournal g gives seal size dev.Tells j (dev.opened old) (disk (dev.time old))) where
  -- ---- the section is refused
  module _ {T : Type 0} (e : Error) (cause : IsPruned {T = T} (Err e) j.sections.floor ⊎ IsAbsent {T = T} (Err e) s) (guard : IsPruned {T = T} (Err e) j.sections.floor ↔ (s < j.sections.floor))
      (absent : IsAbsent {T = T} (Err e) s ↔ ((j.sections.floor ≤ s) × (j.sections.held s ≡ None))) where
    nowhere : (P : PageBlob S gs → Type 0) → IsSomeAnd (j.sections.held s) P → ⊥
    nowhere = none_there g gives seal size dev.Tells j s (dev.opened old) (disk (dev.time old)) journal e cause guard.0 (λ none. (absent.0 none).1)

    pub get_unfound : (p : ℕ) (r : Result V Error) → r ≡ Err e → Gets g gives seal size spelling allows refusal dev j s old old p r
    get_unfound p r is = rw is record {
      item = λ t. tt;
      guard = (λ pruned. guard.0 (err_same pruned), λ below. err_same (guard.1 below));
      absent = (λ none. absent.0 (err_same none), λ none. err_same (absent.1 none));
      past = (λ past. absurd (unfound_past e _ s cause p past), λ has. absurd (nowhere _ has));
      checked = λ t. tt;
      damaged = λ t k page. absurd (unfound_page e _ s cause k page);
      sound = λ t which k page. unfound_page e _ s cause k page;
      refused = λ t x code. absurd (unfound_code e _ s cause x code);
      sealed_first = λ t x code. absurd (unfound_code e _ s cause x code);
      accepted = tt;
      over = journal;
      unchanged = λ t. unchanged_start (dev.time old);
      idle = λ no. refl;
      reads = λ held. no_reads _ _ _;
      faults = omega arith;
      cause = elim cause [ inl pruned ↦ inl (err_same pruned) | inr none ↦ inr (inl (err_same none)) ];
    }

    pub last_unfound : (r : Result (Option V) Error) → r ≡ Err e → GetsLast g gives seal size spelling allows refusal dev j s old old r
    last_unfound r is = rw is record {
      none = tt;
      item = λ t. tt;
      guard = (λ pruned. guard.0 (err_same pruned), λ below. err_same (guard.1 below));
      absent = (λ none. absent.0 (err_same none), λ none. err_same (absent.1 none));
      damaged = λ t k page. absurd (unfound_page e _ s cause k page);
      sound = λ t which k page. unfound_page e _ s cause k page;
      refused = λ t x code. absurd (unfound_code e _ s cause x code);
      checked = λ t. tt;
      sealed_first = λ t x code. absurd (unfound_code e _ s cause x code);
      accepted = tt;
      over = journal;
      unchanged = λ t. unchanged_start (dev.time old);
      idle = λ no. refl;
      reads = λ held. no_reads _ _ _;
      faults = omega arith;
      cause = elim cause [ inl pruned ↦ inl (err_same pruned) | inr none ↦ inr (inl (err_same none)) ];
    }

    pub many_unfound : (positions : List ℕ) (r : Result (List V × ℕ) Error) → r ≡ Err e → GetsMany g gives seal size spelling allows refusal dev j s old old positions r
    many_unfound positions r is = rw is record {
      items = λ t. tt;
      accepted = tt;
      held = tt;
      guard = (λ pruned. guard.0 (err_same pruned), λ below. err_same (guard.1 below));
      absent = (λ none. absent.0 (err_same none), λ none. err_same (absent.1 none));
      past = λ p past. absurd (unfound_past e _ s cause p past);
      first = λ p q past has less. absurd (unfound_past e _ s cause p past);
      inside = λ u p held has at. absurd (nowhere (λ v. Unit {0}) (some_here j.sections s u held (λ v. Unit {0}) tt));
      checked = λ t. tt;
      damaged = λ t k page. absurd (unfound_page e _ s cause k page);
      sound = λ t which k page. unfound_page e _ s cause k page;
      refused = λ t x code. absurd (unfound_code e _ s cause x code);
      over = journal;
      unchanged = λ t. unchanged_start (dev.time old);
      idle = λ no. refl;
      reads = λ u held. no_reads _ _ _;
      faults = omega arith;
      cause = elim cause [ inl pruned ↦ inl (err_same pruned) | inr none ↦ inr (inl (err_same none)) ];
    }

  -- ---- the section is held
  module _ (u : PageBlob S gs) (held : j.sections.held s ≡ Some u) where
    from : j.sections.floor ≤ s
    from = unpruned g gives seal size dev.Tells j s (dev.opened old) (disk (dev.time old)) journal u held

    -- the position is past its end
    pub get_past : (p : ℕ) → size_of (shown u) / size ≤ p → Gets g gives seal size spelling allows refusal dev j s old old p (Err (ItemOutOfRange p))
    get_past p past = record {
      item = λ t. tt;
      guard = (λ is. absurd (cc is), λ below. absurd (omega (arith, below, from)));
      absent = (λ is. absurd (cc is), λ none. (let gone = none.1 in absurd (cc (gone, held))));
      past = (λ is. some_here j.sections s u held (λ v. size_of (shown v) / size ≤ p) past, λ has. refl);
      checked = λ t. tt;
      damaged = λ t k is. absurd (cc is);
      sound = λ t which k is. absurd (cc is);
      refused = λ t x is. absurd (cc is);
      sealed_first = λ t x is. absurd (cc is);
      accepted = tt;
      over = journal;
      unchanged = λ t. unchanged_start (dev.time old);
      idle = λ no. refl;
      reads = λ has. no_reads _ _ _;
      faults = omega arith;
      cause = inr (inr (inl refl));
    }

    -- it has no item
    pub last_none : size_of (shown u) / size ≡ 0 → GetsLast g gives seal size spelling allows refusal dev j s old old (Ok None)
    last_none empty = record {
      none = (λ is. ap (λ (n : ℕ). n / size) (size_here j.sections s u held) ∙ empty, λ is. refl);
      item = λ t v is. absurd (cc is);
      guard = (λ is. absurd (cc is), λ below. absurd (omega (arith, below, from)));
      absent = (λ is. absurd (cc is), λ none. (let gone = none.1 in absurd (cc (gone, held))));
      damaged = λ t k is. absurd (cc is);
      sound = λ t which k is. absurd (cc is);
      refused = λ t x is. absurd (cc is);
      checked = λ t v is some. (let same = some_same u v (sym held ∙ is) in absurd (omega (arith, some, ap (λ (w : PageBlob S gs). size_of (shown w) / size) same, empty)));
      sealed_first = λ t x is. absurd (cc is);
      accepted = λ v is. absurd (cc is);
      over = journal;
      unchanged = λ t. unchanged_start (dev.time old);
      idle = λ no. refl;
      reads = λ has. no_reads _ _ _;
      faults = omega arith;
      cause = tt;
    }

    -- one of the positions is past its end
    pub many_past : {T : Type 0} (positions : List ℕ) (r : Result (List V × ℕ) Error) (e : Error) → r ≡ Err e → ((p : ℕ) × IsPast {T = T} (Err e) p)
        → ((p : ℕ) → IsPast {T = T} (Err e) p → Contains positions p × (size_of (shown u) / size ≤ p)) → ((p q : ℕ) → IsPast {T = T} (Err e) p → Contains positions q → q < p → HasItem size u q)
        → GetsMany g gives seal size spelling allows refusal dev j s old old positions r
    many_past positions r e is cause past first =
        let at = cause.1 in
        rw is record {
          items = λ t. tt;
          accepted = tt;
          held = tt;
          guard = (λ pruned. absurd (cc (at, pruned)), λ below. absurd (omega (arith, below, from)));
          absent = (λ none. absurd (cc (at, none)), λ none. (let gone = none.1 in absurd (cc (gone, held))));
          past = λ p is. (let here = past p (err_same is) in (here.0, some_here j.sections s u held (λ v. size_of (shown v) / size ≤ p) here.1));
          first = λ p q is has less. some_here j.sections s u held (λ v. HasItem size v q) (first p q (err_same is) has less);
          inside = λ v p is has over. (cause.0, err_same at);
          checked = λ t. tt;
          damaged = λ t k is. absurd (cc (at, is));
          sound = λ t which k is. absurd (cc (at, is));
          refused = λ t x is. absurd (cc (at, is));
          over = journal;
          unchanged = λ t. unchanged_start (dev.time old);
          idle = λ no. refl;
          reads = λ v is. no_reads _ _ _;
          faults = omega arith;
          cause = inr (inr (inl (cause.0, err_same at)));
        }

    -- ---- its buffer is read
    module _ (are : ArePages g seal) (paging : (f : AppendFactory S) → (gives f).page_size ≡ f.pages.page_size) where
      abbrev d : Disk
      d = disk (dev.time old)

      key : pages.key_of (shown u) ≡ key_of j.sections s
      key = own_key g gives seal size dev.Tells j s (dev.opened old) d journal are u held

      backed : dev.Tells → IsBacked seal (shown u) (d (pages.key_of (shown u))).content
      backed = own_backed g gives seal size dev.Tells j s (dev.opened old) d journal are u held

      paged : u.page_size ≡ j.sections.factory.pages.page_size
      paged = own_pages g gives seal size dev.Tells j s (dev.opened old) d journal are u held paging

      pub got : (p : ℕ) → HasItem size u p → (r : Result V Error) → ReadsItem seal size spelling allows refusal dev u old new (disk (dev.time old) (pages.key_of (shown u))) p r
          → Gets g gives seal size spelling allows refusal dev j s old new p r
      got p inside r reads =
          let apart = λ (n k q : ℕ). read_apart r (dev.faults old) (dev.faults new) n k q reads.cause in
          let damaged = λ (t : dev.Tells) (k : ℕ) (is : IsErrOf r (Runtime (InvalidChecksum k))). own_here j.sections s u held key (λ v b. IsDamaged size seal v b.content p k) d (reads.damaged t (backed t) k is) in
          record {
            item = λ t. subst (λ (l : List ℕ). IfOk r (IsItem spelling allows (item_at size l p))) (sym (bytes_own j.sections s u held key d)) (reads.item t (backed t));
            guard = (λ is. absurd ((apart j.sections.floor 0 0).0 is), λ below. absurd (omega (arith, below, from)));
            absent = (λ is. absurd ((apart 0 s 0).1 is), λ none. (let gone = none.1 in absurd (cc (gone, held))));
            past = (λ is. absurd ((apart 0 0 p).2 is), λ has. absurd (omega (arith, inside, from_here j.sections s u held (λ v. size_of (shown v) / size ≤ p) has)));
            checked = λ t. on_ok r (own_here j.sections s u held key (λ v b. IsItemCovered size seal v b.content p) d) (reads.checked t (backed t));
            damaged = damaged;
            sound = λ t which k is. sound_page g gives seal size dev.Tells j (dev.opened old) d journal t s (λ v. p) k which (damaged t k is);
            refused = λ t x is. ap (λ (l : List ℕ). refusal (item_at size l p) tt) (bytes_own j.sections s u held key d) ∙ reads.refused t (backed t) x is;
            sealed_first = λ t x is. own_here j.sections s u held key (λ v b. IsItemCovered size seal v b.content p) d (reads.sealed_first t (backed t) x is);
            accepted = reads.accepted;
            over = journal_read g gives seal size dev.Tells j _ _ _ _ _ (only_read_of _ _ _ _ reads.reads) (λ t. unchanged_now (dev.time old) (dev.time new) (reads.unchanged t)) journal;
            unchanged = reads.unchanged;
            idle = λ no. elim (cases_Bool (is_item_held size u p)) [
              | inl is ↦ reads.idle is
              | inr out ↦ absurd (no (some_here j.sections s u held (λ v. HasItem size v p × (is_item_held size v p ≡ false)) (inside, out)))
            ];
            reads = λ has. reads_as (size / u.page_size + 2) (size / j.sections.factory.pages.page_size + 2) (pages.key_of (shown u)) (key_of j.sections s) _ _ (ap (λ (P : ℕ). size / P + 2) paged) key reads.reads;
            faults = reads.faults;
            cause = weaker r reads.cause;
          }
        where
          weaker : (x : Result V Error) → OnErr x (HasNotRead x (dev.faults old) (dev.faults new))
              → OnErr x (IsPruned x j.sections.floor ⊎ (IsAbsent x s ⊎ (IsPast x p ⊎ HasNotRead x (dev.faults old) (dev.faults new))))
          weaker (Ok v) has = tt
          weaker (Err e) has = inr (inr (inr has))

      pub many_got : (positions : List ℕ) → ((p : ℕ) → Contains positions p → HasItem size u p) → (r : Result (List V × ℕ) Error)
          → ReadsEach seal size spelling allows refusal dev u old new (disk (dev.time old) (pages.key_of (shown u))) positions r → GetsMany g gives seal size spelling allows refusal dev j s old new positions r
      many_got positions inside r reads =
          let apart = λ (n k q : ℕ). read_apart r (dev.faults old) (dev.faults new) n k q reads.cause in
          record {
            items = λ t. subst (λ (l : List ℕ). IfOk r (λ x. map spelling x.0 ≡ map (item_at size l) positions)) (sym (bytes_own j.sections s u held key d)) (reads.items t (backed t));
            accepted = reads.accepted;
            held = counted r reads.held;
            guard = (λ is. absurd ((apart j.sections.floor 0 0).0 is), λ below. absurd (omega (arith, below, from)));
            absent = (λ is. absurd ((apart 0 s 0).1 is), λ none. (let gone = none.1 in absurd (cc (gone, held))));
            past = λ p is. absurd ((apart 0 0 p).2 is);
            first = λ p q is has less. absurd ((apart 0 0 p).2 is);
            inside = λ v p is has over. (let same = some_same u v (sym held ∙ is) in absurd (omega (arith, inside p has, over, ap (λ (w : PageBlob S gs). size_of (shown w) / size) same)));
            checked = λ t. on_ok r (own_here j.sections s u held key (λ v b. (p : ℕ) → Contains positions p → IsItemCovered size seal v b.content p) d) (reads.checked t (backed t));
            damaged = λ t k is. own_here j.sections s u held key (λ v b. (p : ℕ) × Contains positions p × IsDamaged size seal v b.content p k) d (reads.damaged t (backed t) k is);
            sound = λ t which k is. (let page = reads.damaged t (backed t) k is in
                sound_page g gives seal size dev.Tells j (dev.opened old) d journal t s (λ v. page.0) k which (own_here j.sections s u held key (λ v b. IsDamaged size seal v b.content page.0 k) d page.2));
            refused = λ t x is. (let has = reads.refused t (backed t) x is in (
              has.0,
              has.1,
              ap (λ (l : List ℕ). refusal (item_at size l has.0) tt) (bytes_own j.sections s u held key d) ∙ has.2,
              own_here j.sections s u held key (λ v b. IsItemCovered size seal v b.content has.0) d has.3,
            ));
            over = journal_read g gives seal size dev.Tells j _ _ _ _ _ (only_read_of _ _ _ _ reads.reads) (λ t. unchanged_now (dev.time old) (dev.time new) (reads.unchanged t)) journal;
            unchanged = reads.unchanged;
            idle = λ no. reads.idle (none_over (unheld size u positions) (λ some. no (some_here j.sections s u held (λ v. ((p : ℕ) → Contains positions p → HasItem size v p) × (0 < unheld size v positions)) (inside, some))));
            reads = λ v is. (let it : u ≡ v = some_same u v (sym held ∙ is) in
                reads_as (unheld size u positions * (size / u.page_size + 2)) (unheld size v positions * (size / j.sections.factory.pages.page_size + 2)) (pages.key_of (shown u)) (key_of j.sections s) _ _
                (ap (λ (P : ℕ). unheld size u positions * (size / P + 2)) paged ∙ ap (λ (w : PageBlob S gs). unheld size w positions * (size / j.sections.factory.pages.page_size + 2)) it) key reads.reads);
            faults = reads.faults;
            cause = weaker r reads.cause;
          }
        where
          counted : (x : Result (List V × ℕ) Error) → IfOk x (λ y. y.1 ≡ count_by (is_item_held size u) positions) → IfOk x (λ y. IsSomeAnd (j.sections.held s) (λ v. y.1 ≡ count_by (is_item_held size v) positions))
          counted (Ok y) has = some_here j.sections s u held (λ v. y.1 ≡ count_by (is_item_held size v) positions) has
          counted (Err e) has = tt

          weaker : (x : Result (List V × ℕ) Error) → OnErr x (HasNotRead x (dev.faults old) (dev.faults new))
              → OnErr x (IsPruned x j.sections.floor ⊎ (IsAbsent x s ⊎ (((p : ℕ) × IsPast x p) ⊎ HasNotRead x (dev.faults old) (dev.faults new))))
          weaker (Ok v) has = tt
          weaker (Err e) has = inr (inr (inr has))

    -- ---- the last item is that at the last position
    module _ (some : 0 < size_of (shown u) / size) where
      short : section_size j.sections s / size ≡ size_of (shown u) / size
      short = ap (λ (n : ℕ). n / size) (size_here j.sections s u held)

      -- of each buffer that the section may have
      last_here : (P : PageBlob S gs → ℕ → Type 0) → IsSomeAnd (j.sections.held s) (λ v. P v (size_of (shown u) / size - 1)) → IsSomeAnd (j.sections.held s) (λ v. P v (size_of (shown v) / size - 1))
      last_here P has = some_here j.sections s u held (λ v. P v (size_of (shown v) / size - 1)) (from_here j.sections s u held (λ v. P v (size_of (shown u) / size - 1)) has)

      not_idle : (IsSomeAnd (j.sections.held s) (λ v. (0 < size_of (shown v) / size) × (is_item_held size v (size_of (shown v) / size - 1) ≡ false)) → ⊥)
          → IsSomeAnd (j.sections.held s) (λ v. HasItem size v (size_of (shown u) / size - 1) × (is_item_held size v (size_of (shown u) / size - 1) ≡ false)) → ⊥
      not_idle none has = none (some_here j.sections s u held (λ v. (0 < size_of (shown v) / size) × (is_item_held size v (size_of (shown v) / size - 1) ≡ false))
          (some, (from_here j.sections s u held (λ v. HasItem size v (size_of (shown u) / size - 1) × (is_item_held size v (size_of (shown u) / size - 1) ≡ false)) has).1))

      last_is : (item : V) → Gets g gives seal size spelling allows refusal dev j s old new (size_of (shown u) / size - 1) (Ok item) → GetsLast g gives seal size spelling allows refusal dev j s old new (Ok (Some item))
      last_is item has = record {
        none = (λ is. absurd (cc is), λ is. absurd (omega (arith, is, short, some)));
        item = λ t v is. (let same : item ≡ v = cc is in
            subst (λ (w : V). IsItem spelling allows (item_at size (section_bytes j.sections (disk (dev.time old)) s) (section_size j.sections s / size - 1)) w) same
            (subst (λ (n : ℕ). IsItem spelling allows (item_at size (section_bytes j.sections (disk (dev.time old)) s) (n - 1)) item) (sym short) (has.item t)));
        guard = (λ is. absurd (cc is), λ below. (let no = has.guard.1 below in absurd (cc no)));
        absent = (λ is. absurd (cc is), λ none. (let no = has.absent.1 none in absurd (cc no)));
        damaged = λ t k is. absurd (cc is);
        sound = λ t which k is. absurd (cc is);
        refused = λ t x is. absurd (cc is);
        checked = λ t v is more. from_here j.sections s v is (λ w. IsItemCovered size seal w (disk (dev.time old) (key_of j.sections s)).content (size_of (shown w) / size - 1))
            (last_here (λ w p. IsItemCovered size seal w (disk (dev.time old) (key_of j.sections s)).content p) (has.checked t));
        sealed_first = λ t x is. absurd (cc is);
        accepted = λ v is. (let same : item ≡ v = cc is in subst (λ (w : V). allows w tt) same has.accepted);
        over = has.over;
        unchanged = has.unchanged;
        idle = λ no. has.idle (not_idle no);
        reads = has.reads;
        faults = has.faults;
        cause = tt;
      }

      last_fails : (r : Result (Option V) Error) (e : Error) → r ≡ Err e → Gets g gives seal size spelling allows refusal dev j s old new (size_of (shown u) / size - 1) (Err e)
          → GetsLast g gives seal size spelling allows refusal dev j s old new r
      last_fails r e is has = rw is record {
        none = tt;
        item = λ t. tt;
        guard = (λ pruned. has.guard.0 (err_same pruned), λ below. err_same (has.guard.1 below));
        absent = (λ none. has.absent.0 (err_same none), λ none. err_same (has.absent.1 none));
        damaged = λ t k page. last_here (λ v p. IsDamaged size seal v (disk (dev.time old) (key_of j.sections s)).content p k) (has.damaged t k (err_same page));
        sound = λ t which k page. has.sound t which k (err_same page);
        refused = λ t x code. ap (λ (n : ℕ). refusal (item_at size (section_bytes j.sections (disk (dev.time old)) s) (n - 1)) tt) short ∙ has.refused t x (err_same code);
        checked = λ t. tt;
        sealed_first = λ t x code. last_here (λ v p. IsItemCovered size seal v (disk (dev.time old) (key_of j.sections s)).content p) (has.sealed_first t x (err_same code));
        accepted = tt;
        over = has.over;
        unchanged = has.unchanged;
        idle = λ no. has.idle (not_idle no);
        reads = has.reads;
        faults = has.faults;
        cause = elim has.cause [
          | inl pruned ↦ inl (err_same pruned)
          | inr more ↦ elim more [
            | inl none ↦ inr (inl (err_same none))
            | inr else ↦ elim else [
              | inl past ↦ absurd (omega (arith, from_here j.sections s u held (λ v. size_of (shown v) / size ≤ size_of (shown u) / size - 1) (has.past.0 past), some))
              | inr read ↦ inr (inr (read_as e read))
            ]
          ]
        ];
      }
        where
          read_as : (x : Error) → HasNotRead {T = V} (Err x) (dev.faults old) (dev.faults new) → HasNotRead {T = Option V} (Err x) (dev.faults old) (dev.faults new)
          read_as x (inl page) = inl (page.0, err_same page.1)
          read_as x (inr (inl code)) = inr (inl (code.0, err_same code.1))
          read_as x (inr (inr (inl mem))) = inr (inr (inl (err_same mem)))
          read_as x (inr (inr (inr fault))) = inr (inr (inr (err_same fault.0, fault.1)))

      module _ (are : ArePages g seal) (paging : (f : AppendFactory S) → (gives f).page_size ≡ f.pages.page_size) (p : ℕ) (at : p ≡ size_of (shown u) / size - 1) where
        at_last : (r : Result V Error) → ReadsItem seal size spelling allows refusal dev u old new (disk (dev.time old) (pages.key_of (shown u))) p r
            → Gets g gives seal size spelling allows refusal dev j s old new (size_of (shown u) / size - 1) r
        at_last r reads = got are paging (size_of (shown u) / size - 1) (omega (arith, some)) r
            (subst (λ (q : ℕ). ReadsItem seal size spelling allows refusal dev u old new (disk (dev.time old) (pages.key_of (shown u))) q r) at reads)

        pub last_got : (item : V) → ReadsItem seal size spelling allows refusal dev u old new (disk (dev.time old) (pages.key_of (shown u))) p (Ok item)
            → GetsLast g gives seal size spelling allows refusal dev j s old new (Ok (Some item))
        last_got item reads = last_is item (at_last (Ok item) reads)

        pub last_failed : (r : Result (Option V) Error) (e : Error) → r ≡ Err e → ReadsItem seal size spelling allows refusal dev u old new (disk (dev.time old) (pages.key_of (shown u))) p (Err e)
            → GetsLast g gives seal size spelling allows refusal dev j s old new r
        last_failed r e is reads = last_fails r e is (at_last (Err e) reads)
