-- What a check of markers shows before a fixed journal is opened, and what an opening above them makes of it.
use Rattle.std.specs.Prelude.{OnErr, MatchOption, ◌≡◌, ◌≢◌, ◌⊎◌, ◌↔◌, ℕ, ◌+◌, ◌-◌, ◌*◌, ◌%◌, ◌^◌, ◌<◌, ◌≤◌, cond, Bool, true, false, List, [], ◌∷◌, ◌++◌, length, IsTrue, Option, Some, None, IsSome, IsSomeAnd, Result, Err}
use Rattle.std.specs.List.{Contains, filter}
use Rattle.std.specs.Map.{lookup}
use Rattle.std.specs.Result.{IsErrOf}
use Rattle.std.specs.BTreeMap as tree
use Rattle.std.specs.Option.{unwrap_or}
use Rattle.std.specs.Ordering.{nat_cmp}
use Rattle.std.proofs.Common.{inl, inr, refl, sym, ◌∙◌, ap, subst, arith}
use Rattle.std.proofs.lemmas.Bool.{cases_eq, cases_lt, cond-true, cond-false}
use Rattle.std.proofs.lemmas.Map.Entries.{lookup-filter-keys}
use Rattle.std.proofs.Math.Nat.{mul-mod_left}
use Rattle.std.proofs.lemmas.List.Elements.{Contains-append_left, Contains-push, Contains-push_cases}
use Rattle.blob_device.specs.Disk.{Key, Blob, Disk}
use Rattle.blob_device.specs.declared.runtime.RError.{RError}
use Rattle.blob_device.specs.declared.runtime.RError.TheVariants.{Fault, InvalidChecksum, BlobInsufficientLength, OffsetOverflow}
use Rattle.blob_device.specs.declared.runtime.RError.TheVariants as runtime
use Rattle.blob_device.specs.Counts.{Rose}
use Rattle.blob_device.specs.Opened.{Opened, OpenedList}
use Rattle.blob_device.specs.Timeline.{Timeline, disk, Always, Each}
use Rattle.blob_device.specs.lemmas.Moments.{always_now}
use Rattle.sealed_pages.specs.declared.pages.Pages.{Pages}
use Rattle.value_codec.specs.declared.codec.Error as codec
use Rattle.sealed_pages.specs.declared.page_blob.PageBlob.{PageBlob}
use Rattle.sealed_pages.specs.Reads.{IsCovered, IsShort, PassesSize}
use Rattle.sealed_pages.specs.Reading.{Unchanged}
use Rattle.sealed_pages.specs.SealedPrefix.{sealed_prefix, adopted_size, data_from}
use Rattle.sealed_pages.specs.Shown.{shown}
use Rattle.sealed_pages.specs.View.{view}
use Rattle.sealed_pages.specs.lemmas.Reaching.{prefix_size}
use Rattle.sealed_pages.specs.lemmas.Unrecovered.{adopted_backed}
use Rattle.sealed_pages.specs.lemmas.adopted.Adopt.{length-data_from}
use Rattle.sealed_pages.specs.lemmas.looking.Looking.{unchanged_now}
use Rattle.sealed_pages.specs.lemmas.memory.Holding.{bytes_length}
use Rattle.section_manager.specs.lemmas.Init.{settling_content, settling_there, settling_was}
use Rattle.segments.specs.lemmas.adding.Write.{ArePages}
use Rattle.segments.specs.lemmas.replay.Kept.{short_length}
use Rattle.sealed_pages.specs.Buffer.{size_of, bytes_of}
use Rattle.sealed_pages.specs.Entries.{IsOpenAt}
use Rattle.section_manager.specs.declared.buffer.SectionBuffer as buffer
use Rattle.section_manager.specs.declared.journal.Damage.{Damage}
use Rattle.section_manager.specs.declared.journal.Error.{Error}
use Rattle.section_manager.specs.declared.journal.Error.TheVariants.{InvalidBlobName, Corruption, Codec}
use Rattle.section_manager.specs.declared.unopened.Unopened.TheVariants.{Section, Leftover}
use Rattle.section_manager.specs.Entries.{OnlyOwnEntry}
use Rattle.section_manager.specs.Lasting.{IsSettling}
use Rattle.section_manager.specs.Refusing.{HasFailed}
use Rattle.section_manager.specs.Sealed.{adopted_bytes}
use Rattle.section_manager.specs.SealedLaws.{all_settled}
use Rattle.section_manager.specs.Sections.{Sections, section_key, key_of, IsHeld, StandsOver, IsOver}
use Rattle.section_manager.specs.Setting.{Setting}
use Rattle.section_manager.specs.lemmas.Keys.{keys_differ}
use Rattle.segments.specs.FixedFloors.{Floors, AreAdopted, IsBoundary, Keeps, KeepsBoundary, IsUnsealed, IsRefused}
use Rattle.segments.specs.FixedLists.{floor_in, bytes_held, size_held, section_bytes, section_size}
use Rattle.blob_device.proofs.general.Numbers.{same_number, times_next}
use Rattle.blob_device.proofs.general.Options.{has_value, none_or_value, some_same, value_of}
use Rattle.blob_device.proofs.general.Results.{on_err}

-- a read that ends below the greatest u64
pub read_cause : {T : Type 0} (r : Result T RError) (W : ℕ → Type 0) (before now : ℕ) → (r ≡ Err OffsetOverflow → ⊥)
    → OnErr r ((r ≡ Err OffsetOverflow) ⊎ ((r ≡ Err BlobInsufficientLength) ⊎ (((k : ℕ) × (r ≡ Err (InvalidChecksum k)) × W k) ⊎ ((r ≡ Err runtime.Mem) ⊎ ((r ≡ Err Fault) × Rose before now)))))
    → OnErr r ((r ≡ Err BlobInsufficientLength) ⊎ (((k : ℕ) × (r ≡ Err (InvalidChecksum k))) ⊎ ((r ≡ Err runtime.Mem) ⊎ ((r ≡ Err Fault) × Rose before now))))
read_cause r W before now fits = on_err r (λ (c : (r ≡ Err OffsetOverflow) ⊎ ((r ≡ Err BlobInsufficientLength) ⊎ (((k : ℕ) × (r ≡ Err (InvalidChecksum k)) × W k) ⊎ ((r ≡ Err runtime.Mem) ⊎ ((r ≡ Err Fault) × Rose before now))))). elim c [
  | inl over ↦ absurd (fits over)
  | inr (inl short) ↦ inl short
  | inr (inr (inl page)) ↦ inr (inl (page.0, page.1))
  | inr (inr (inr other)) ↦ inr (inr other)
])

-- the last of n items ends where all do
pub whole_end : (n size : ℕ) → 0 < n → (n - 1) * size + size ≡ n * size
whole_end n size some = (let back : n - 1 + 1 ≡ n = omega (arith, some) in sym (times_next (n - 1) size) ∙ ap (λ (m : ℕ). m * size) back)

pub whole_items : (n size floor : ℕ) → floor ≡ n * size → floor % size ≡ 0
whole_items n size floor is = ap (λ (m : ℕ). m % size) is ∙ mul-mod_left n size

-- ---- why a marker is refused
module _ (seal : List ℕ → ℕ) (P size : ℕ) where
  -- an item that is not sealed ends behind the sealed prefix
  pub unsealed_less : (c : List ℕ) (n : ℕ) → 1 ≤ P → 0 < n → ((k : ℕ) × IsShort seal P c ((n - 1) * size) size k) ⊎ PassesSize seal P c ((n - 1) * size) size
      → length (sealed_prefix seal P c) < n * size
  unsealed_less c n pos some broken = elim broken [
    | inl page ↦ omega (arith, whole_end n size some, short_length seal P c pos ((n - 1) * size) size page.0 page.1)
    | inr past ↦ omega (arith, whole_end n size some, past.past, prefix_size seal P c)
  ]

  -- it is refused alike where the blob has settled
  module _ (b d : Blob) (n : ℕ) (x : Damage) (content : d.content ≡ b.content) (was : IsTrue d.there → IsTrue b.there) (there : IsTrue b.there → IsTrue d.there) where
    pub unsealed_same : IsUnsealed seal P size d n x → IsUnsealed seal P size b n x
    unsealed_same un = record {
      there = was un.there;
      fits = un.fits;
      some = un.some;
      broken = subst (λ (c : List ℕ). ((k : ℕ) × IsShort seal P c ((n - 1) * size) size k) ⊎ PassesSize seal P c ((n - 1) * size) size) content un.broken;
      kept = un.kept ∙ ap (λ (c : List ℕ). length (sealed_prefix seal P c)) content;
      wanted = un.wanted;
      less = un.less;
    }

    pub refused_same : IsRefused seal P size d n x → IsRefused seal P size b n x
    refused_same (inl many) = inl many
    refused_same (inr (inl missing)) = inr (inl (record { absent = gone b.there refl; fits = missing.fits; kept = missing.kept; wanted = missing.wanted }))
      where
        gone : (t : Bool) → b.there ≡ t → b.there ≡ false
        gone true is = absurd (cc (there is, missing.absent))
        gone false is = is
    refused_same (inr (inr un)) = inr (inr (unsealed_same un))

  -- nor where its items stand in the sealed prefix
  pub keeps_none : (b : Blob) (n : ℕ) (x : Damage) → Keeps seal P size b n → IsRefused seal P size b n x → ⊥
  keeps_none b n x keeps (inl many) = omega (arith, keeps.fits, many.many)
  keeps_none b n x keeps (inr (inl missing)) = absurd (cc (keeps.there, missing.absent))
  keeps_none b n x keeps (inr (inr un)) = omega (arith, keeps.sealed, un.kept, un.wanted, un.less)

-- ---- markers that are checked one after another, of sections up to a ceiling
module _ (partition : List ℕ) (ceiling : ℕ) (from : Timeline) where
  module _ (now : Timeline) (moments : Always from now (Each (IsSettling partition ceiling (disk from)))) (s : ℕ) where
    settling_now : IsSettling partition ceiling (disk from) (section_key partition s) (disk now (section_key partition s))
    settling_now = always_now from now (Each (IsSettling partition ceiling (disk from))) moments (section_key partition s)

    pub content_now : (disk now (section_key partition s)).content ≡ (disk from (section_key partition s)).content
    content_now = settling_content partition ceiling (disk from) (section_key partition s) (disk now (section_key partition s)) settling_now

    pub there_now : IsTrue (disk from (section_key partition s)).there → IsTrue (disk now (section_key partition s)).there
    there_now = settling_there partition ceiling (disk from) (section_key partition s) (disk now (section_key partition s)) settling_now

    pub was_there : IsTrue (disk now (section_key partition s)).there → IsTrue (disk from (section_key partition s)).there
    was_there = settling_was partition ceiling (disk from) (section_key partition s) (disk now (section_key partition s)) settling_now

-- ---- the sections of an opening up to a ceiling
module _ {F S : Type 0} {gs : _} (g : buffer.Ghosts (PageBlob S gs)) (gives : F → Setting) (told : Type 0) (partition : List ℕ) (ceiling : ℕ) (from : Timeline) where
  -- what the opening made of them, and the checks keep
  pub record AreOpened (m : Sections F (PageBlob S gs)) (now : Timeline) (opened : OpenedList) : Type 0 where
    pub over : IsOver g gives told m opened (disk now)
    pub held : told → (s : ℕ) → s < 2 ^ 64 → IsHeld m s ↔ (IsTrue (disk from (section_key partition s)).there × (s ≤ ceiling))
    pub unopened : told → (s : ℕ) → s < 2 ^ 64 → (m.unopened s ≡ Some Section) ↔ (IsTrue (disk from (section_key partition s)).there × (ceiling < s))
    pub no_leftover : (s : ℕ) → m.unopened s ≢ Some Leftover
    pub later : (s : ℕ) → IsSome (m.unopened s) → ceiling < s
    pub bytes : told → (s : ℕ) → IsHeld m s → section_bytes m (disk now) s ≡ g.holds (gives m.factory) (disk from (section_key partition s)).content
    pub idle : (s : ℕ) (u : PageBlob S gs) → m.held s ≡ Some u → g.unsettled u ≡ false
    pub floor : m.floor ≡ 0
    pub place : m.partition ≡ partition

  -- they are alike after a read
  pub opened_read : (m n : Sections F (PageBlob S gs)) (now next : Timeline) (before after : OpenedList) → n ≡ m → (told → Unchanged now next) → IsOver g gives told m after (disk next) → AreOpened m now before → AreOpened n next after
  opened_read m n now next before after is same over opened = subst (λ (x : Sections F (PageBlob S gs)). AreOpened x next after) (sym is) (record {
    over = over;
    held = opened.held;
    unopened = opened.unopened;
    no_leftover = opened.no_leftover;
    later = opened.later;
    bytes = λ t s held. subst (λ (d : Disk). section_bytes m d s ≡ g.holds (gives m.factory) (disk from (section_key partition s)).content) (sym (unchanged_now now next (same t))) (opened.bytes t s held);
    idle = opened.idle;
    floor = opened.floor;
    place = opened.place;
  })

  module _ (m : Sections F (PageBlob S gs)) (now : Timeline) (before : OpenedList) (opened : AreOpened m now before) (moments : told → Always from now (Each (IsSettling partition ceiling (disk from)))) (t : told) where
    own_key : (s : ℕ) → key_of m s ≡ section_key partition s
    own_key s = ap (λ (p : List ℕ). section_key p s) opened.place

    -- each is held where its blob is there, as it is now
    pub held_now : (s : ℕ) → s < 2 ^ 64 → IsHeld m s ↔ (IsTrue (disk now (key_of m s)).there × (s ≤ ceiling))
    held_now s small = (
      λ held. (let had = (opened.held t s small).0 held in (ap (λ (k : Key). (disk now k).there) (own_key s) ∙ there_now partition ceiling from now (moments t) s had.0, had.1)),
      λ there. (opened.held t s small).1 (was_there partition ceiling from now (moments t) s (ap (λ (k : Key). (disk now k).there) (sym (own_key s)) ∙ there.0), there.1),
    )

    -- by a buffer as adopting makes it
    pub adopted_now : (seal : List ℕ → ℕ) → ArePages g seal → AreAdopted seal m (disk now)
    adopted_now seal are s u held =
        let blob = disk now (key_of m s) in
        let is_held : IsHeld m s = subst IsSome (sym held) refl in
        let had : section_bytes m (disk now) s ≡ bytes_of (shown u) (disk now (key_of m s)).content = ap (λ (o : Option (PageBlob S gs)). bytes_held o (disk now (key_of m s)).content) held in
        let content : (disk from (section_key partition s)).content ≡ (disk now (key_of m s)).content = sym (ap (λ (k : Key). (disk now k).content) (own_key s) ∙ content_now partition ceiling from now (moments t) s) in
        let page : (gives m.factory).page_size ≡ u.page_size = sym (ap (λ (x : Setting). x.page_size) (opened.over.opened_list.setting s u held)) ∙ are.page_size u in
        let bytes : bytes_of (shown u) blob.content ≡ adopted_bytes seal u.page_size blob.content = sym had ∙ opened.bytes t s is_held ∙ are.holds (gives m.factory) (disk from (section_key partition s)).content
        ∙ ap (λ (n : ℕ). adopted_bytes seal n (disk from (section_key partition s)).content) page ∙ ap (adopted_bytes seal u.page_size) content in
        record {
          there = ((held_now s (opened.over.opened_list.number s (inl is_held))).0 is_held).0;
          size = sym (bytes_length (shown u) blob.content) ∙ ap length bytes ∙ length-data_from u.page_size (view blob.content) (adopted_size seal u.page_size blob.content) 0;
          bytes = bytes;
          settled = all_settled (shown u) (sym (are.unsettled u) ∙ opened.idle s u held);
          backed = adopted_backed seal (shown u) blob (are.stands u blob ((opened.over.disk t).stands s u held)).adopted;
        }

-- ---- a section's blob was read
module _ {F B : Type 0} (g : buffer.Ghosts B) (gives : F → Setting) (told : Type 0) (m : Sections F B) (old new : OpenedList) (d e : Disk) (s : ℕ) (u : B) (held : m.held s ≡ Some u) (over : IsOver g gives told m old d) where
  pub over_read : OnlyOwnEntry (key_of m s) old new → IsOpenAt new (key_of m s) (g.extent u) → (told → e ≡ d) → IsOver g gives told m new e
  over_read own is_open same = record {
    opened_list = record {
      key = over.opened_list.key;
      setting = over.opened_list.setting;
      is_open = λ q v at. elim (cases_eq q s) [
        | inl is ↦ (let same_buffer : u ≡ v = some_same u v (sym held ∙ sym (ap m.held is) ∙ at) in
            subst (λ (x : ℕ). IsOpenAt new (key_of m x) (g.extent v)) (sym is) (subst (λ (w : B). IsOpenAt new (key_of m s) (g.extent w)) same_buffer is_open))
        | inr other ↦ subst (λ (o : Option Opened). IsSomeAnd o (λ p. p.len ≡ g.extent v))
            (sym (own (key_of m q) (keys_differ m.partition q s (over.opened_list.number q (inl (subst IsSome (sym at) refl))) (over.opened_list.number s (inl (subst IsSome (sym held) refl))) other)))
            (over.opened_list.is_open q v at)
      ];
      to_ceiling = over.opened_list.to_ceiling;
      apart = over.opened_list.apart;
      from_floor = over.opened_list.from_floor;
      number = over.opened_list.number;
    };
    disk = λ t. subst (StandsOver g m) (sym (same t)) (over.disk t);
  }

module _ {A : Type 0} (seal : List ℕ → ℕ) (size : ℕ) (spelling : A → List ℕ) (accepted : A → Unit {0} → Type 0) (told : Type 0)
    (partition : List ℕ) (pages : Pages) (capacity ceiling : ℕ) (marks : ℕ → Option ℕ) (from : Timeline) where
  -- the last of n items of the section is taken in
  abbrev pub HasLast : Floors A → ℕ → ℕ → Type 0
  HasLast f s n = IsSomeAnd (f.boundary_of s) (λ o. IsSomeAnd o (IsBoundary seal pages.page_size size spelling accepted (disk from (section_key partition s)).content n))

  -- what the marker of n items of the section shows
  pub record IsMarked (f : Floors A) (s n : ℕ) : Type 0 where
    pub floor : f.floor_of s ≡ n * size
    pub fits : n * size < 2 ^ 64
    pub empty : n ≡ 0 → f.boundary_of s ≡ Some None
    pub boundary : told → 0 < n → HasLast f s n
    pub there : told → IsTrue (disk from (section_key partition s)).there

  -- The markers of these sections are taken in, and no others.
  pub record Checked (keys : List ℕ) (f : Floors A) : Type 0 where
    pub named : (s : ℕ) → Contains keys s → IsSome (marks s)
    pub marked : (s n : ℕ) → Contains keys s → marks s ≡ Some n → IsMarked f s n
    pub floors : (s : ℕ) → (Contains keys s → ⊥) → f.floor_of s ≡ 0
    pub boundaries : (s : ℕ) → (Contains keys s → ⊥) → f.boundary_of s ≡ None
    pub place : f.partition ≡ partition
    pub paging : f.pages ≡ pages
    pub buffering : f.write_buffer ≡ capacity
    pub bound : f.ceiling ≡ ceiling

  pub checked_none : (f : Floors A) → ((s : ℕ) → f.floor_of s ≡ 0) → ((s : ℕ) → f.boundary_of s ≡ None) → f.partition ≡ partition → f.pages ≡ pages → f.write_buffer ≡ capacity → f.ceiling ≡ ceiling → Checked [] f
  checked_none f floors boundaries here paged buffered most = record {
    named = λ s listed. absurd (omega (arith, listed.1));
    marked = λ s n listed. absurd (omega (arith, listed.1));
    floors = λ s none. floors s;
    boundaries = λ s none. boundaries s;
    place = here;
    paging = paged;
    buffering = buffered;
    bound = most;
  }

  -- What a check of the marker of n items of the section s makes of f.
  pub record Marks (f h : Floors A) (s n : ℕ) (now : Timeline) : Type 0 where
    pub floor : h.floor_of s ≡ n * size
    pub fits : n * size < 2 ^ 64
    pub empty : n ≡ 0 → h.boundary_of s ≡ Some None
    pub boundary : told → 0 < n → IsSomeAnd (h.boundary_of s) (λ o. IsSomeAnd o (IsBoundary seal f.pages.page_size size spelling accepted (disk now (section_key f.partition s)).content n))
    pub there : told → IsTrue (disk from (section_key partition s)).there
    pub floors : (q : ℕ) → q ≢ s → h.floor_of q ≡ f.floor_of q
    pub boundaries : (q : ℕ) → q ≢ s → h.boundary_of q ≡ f.boundary_of q
    pub place : h.partition ≡ f.partition
    pub paging : h.pages ≡ f.pages
    pub buffering : h.write_buffer ≡ f.write_buffer
    pub bound : h.ceiling ≡ f.ceiling

  module _ (keys : List ℕ) (f h : Floors A) (s n : ℕ) (is : marks s ≡ Some n) (now : Timeline) (moments : told → Always from now (Each (IsSettling partition ceiling (disk from)))) (done : Checked keys f) (more : Marks f h s n now) where
    last_here : told → 0 < n → HasLast h s n
    last_here t some = subst (λ (c : List ℕ). IsSomeAnd (h.boundary_of s) (λ o. IsSomeAnd o (IsBoundary seal pages.page_size size spelling accepted c n))) (content_now partition ceiling from now (moments t) s)
        (subst (λ (p : List ℕ). IsSomeAnd (h.boundary_of s) (λ o. IsSomeAnd o (IsBoundary seal pages.page_size size spelling accepted (disk now (section_key p s)).content n))) done.place
        (subst (λ (p : Pages). IsSomeAnd (h.boundary_of s) (λ o. IsSomeAnd o (IsBoundary seal p.page_size size spelling accepted (disk now (section_key f.partition s)).content n))) done.paging (more.boundary t some)))

    marked_here : IsMarked h s n
    marked_here = record { floor = more.floor; fits = more.fits; empty = more.empty; boundary = last_here; there = more.there }

    marked_there : (q m : ℕ) → q ≢ s → IsMarked f q m → IsMarked h q m
    marked_there q m other was = record {
      floor = more.floors q other ∙ was.floor;
      fits = was.fits;
      empty = λ none. more.boundaries q other ∙ was.empty none;
      boundary = λ t some. subst (λ (b : Option (Option A)). IsSomeAnd b (λ o. IsSomeAnd o (IsBoundary seal pages.page_size size spelling accepted (disk from (section_key partition q)).content m))) (sym (more.boundaries q other)) (was.boundary t some);
      there = was.there;
    }

    earlier : (q : ℕ) → (Contains (keys ++ s ∷ []) q → ⊥) → (q ≢ s) × (Contains keys q → ⊥)
    earlier q none = (
      λ same. none (subst (Contains (keys ++ s ∷ [])) (sym same) (Contains-push keys s)),
      λ listed. none (Contains-append_left keys (s ∷ []) q listed),
    )

    pub checked_more : Checked (keys ++ s ∷ []) h
    checked_more = record {
      named = λ q listed. elim (Contains-push_cases keys s q listed) [
        | inl before ↦ done.named q before
        | inr same ↦ subst (λ (x : ℕ). IsSome (marks x)) same (subst IsSome (sym is) refl)
      ];
      marked = λ q m listed at. elim (cases_eq q s) [
        | inl same ↦ (let number : n ≡ m = some_same n m (sym is ∙ sym (ap marks same) ∙ at) in subst (λ (x : ℕ). IsMarked h x m) (sym same) (subst (IsMarked h s) number marked_here))
        | inr other ↦ elim (Contains-push_cases keys s q listed) [
          | inl before ↦ marked_there q m other (done.marked q m before at)
          | inr same ↦ absurd (other (sym same))
        ]
      ];
      floors = λ q none. (let out = earlier q none in more.floors q out.0 ∙ done.floors q out.1);
      boundaries = λ q none. (let out = earlier q none in more.boundaries q out.0 ∙ done.boundaries q out.1);
      place = more.place ∙ done.place;
      paging = more.paging ∙ done.paging;
      buffering = more.buffering ∙ done.buffering;
      bound = more.bound ∙ done.bound;
    }

  last_value : (f : Floors A) (q n : ℕ) → HasLast f q n → (v : A) × IsBoundary seal pages.page_size size spelling accepted (disk from (section_key partition q)).content n v
  last_value f q n has =
      let o = value_of (f.boundary_of q) (λ b. IsSomeAnd b (IsBoundary seal pages.page_size size spelling accepted (disk from (section_key partition q)).content n)) has in
      let v = value_of o.value (IsBoundary seal pages.page_size size spelling accepted (disk from (section_key partition q)).content n) o.has in
      (v.value, v.has)

  -- a marker that was taken in has its last item
  pub last_taken : (keys : List ℕ) (f : Floors A) → Checked keys f → told → (q n : ℕ) → Contains keys q → marks q ≡ Some n → KeepsBoundary seal pages.page_size size spelling accepted (disk from (section_key partition q)) n
  last_taken keys f done t q n listed is = (let mark = done.marked q n listed is in record {
    last = record {
      there = mark.there t;
      fits = mark.fits;
      covered = λ some. (last_value f q n (mark.boundary t some)).1.covered;
      within = λ some. (last_value f q n (mark.boundary t some)).1.within;
    };
    decodes = λ some. last_value f q n (mark.boundary t some);
  })

  -- where all markers are taken in, each section reaches its floor
  module _ {F S : Type 0} {gs : _} (g : buffer.Ghosts (PageBlob S gs)) (gives : F → Setting) (are : ArePages g seal) (m : Sections F (PageBlob S gs)) (now : Timeline) (list : OpenedList)
      (opened : AreOpened g gives told partition ceiling from m now list) (moments : told → Always from now (Each (IsSettling partition ceiling (disk from)))) where
    pub reaches : (keys : List ℕ) (f : Floors A) → Checked keys f → ((s : ℕ) → IsSome (marks s) → Contains keys s) → ((s : ℕ) → marks s ≡ None → Contains keys s → ⊥)
        → ((s : ℕ) → IsSome (marks s) → s ≤ ceiling) → ceiling < 2 ^ 64 → (gives m.factory).page_size ≡ pages.page_size → told → (s : ℕ) → f.floor_of s ≤ section_size m s
    reaches keys f done taken never most small page t s = elim (none_or_value (marks s)) [
      | inl none ↦ omega (arith, done.floors s (never s none))
      | inr n ↦
          let some : IsSome (marks s) = subst IsSome (sym n.1) refl in
          let mark = done.marked s n.0 (taken s some) n.1 in
          elim (cases_lt 0 n.0) [
            | inl more ↦
                let last = last_value f s n.0 (mark.boundary t more) in
                let held : IsHeld m s = (opened.held t s (omega (arith, most s some, small))).1 (mark.there t, most s some) in
                elim (none_or_value (m.held s)) [
                  | inl gone ↦ absurd (cc (subst IsSome gone held))
                  | inr u ↦
                      let adopted = adopted_now g gives told partition ceiling from m now list opened moments t seal are s u.0 u.1 in
                      let here : section_size m s ≡ size_of (shown u.0) = ap size_held u.1 in
                      let paged : u.0.page_size ≡ pages.page_size = sym (are.page_size u.0) ∙ ap (λ (x : Setting). x.page_size) (opened.over.opened_list.setting s u.0 u.1) ∙ page in
                      let content : (disk now (key_of m s)).content ≡ (disk from (section_key partition s)).content = ap (λ (p : List ℕ). (disk now (section_key p s)).content) opened.place ∙ content_now partition ceiling from now (moments t) s in
                      let size : adopted_size seal u.0.page_size (disk now (key_of m s)).content ≡ adopted_size seal pages.page_size (disk from (section_key partition s)).content = ap (λ (x : ℕ). adopted_size seal x (disk now (key_of m s)).content) paged ∙ ap (adopted_size seal pages.page_size) content in
                      omega (arith, mark.floor, last.1.within, here, adopted.size, size)
                ]
            | inr none ↦ (let zero_is : n.0 ≡ 0 = omega (arith, none) in omega (arith, mark.floor, ap (λ (x : ℕ). x * size) zero_is))
          ]
    ]

  -- what a check of a marker asks and answers, by what was there at the start
  module _ (keys : List ℕ) (f : Floors A) (done : Checked keys f) (s n : ℕ) (is : marks s ≡ Some n) (now : Timeline) where
    here : section_key f.partition s ≡ section_key partition s
    here = ap (λ (p : List ℕ). section_key p s) done.place

    blob_here : disk now (section_key f.partition s) ≡ disk now (section_key partition s)
    blob_here = ap (disk now) here

    pub within : ((q : ℕ) → IsSome (marks q) → q ≤ ceiling) → s ≤ f.ceiling
    within most = omega (arith, done.bound, most s (subst IsSome (sym is) refl))

    module _ (moments : Always from now (Each (IsSettling partition ceiling (disk from)))) where
      pub marker_refused : (x : Damage) → (x.section ≡ s) × IsRefused seal f.pages.page_size size (disk now (section_key f.partition s)) n x
          → IsSomeAnd (marks x.section) (λ m. IsRefused seal pages.page_size size (disk from (section_key partition x.section)) m x)
      marker_refused x refused =
          subst (λ (q : ℕ). IsSomeAnd (marks q) (λ m. IsRefused seal pages.page_size size (disk from (section_key partition q)) m x)) (sym refused.0)
          (has_value (marks s) (λ m. IsRefused seal pages.page_size size (disk from (section_key partition s)) m x) n is
          (refused_same seal pages.page_size size (disk from (section_key partition s)) (disk now (section_key partition s)) n x (content_now partition ceiling from now moments s)
          (was_there partition ceiling from now moments s) (there_now partition ceiling from now moments s)
          (subst (λ (b : Blob). IsRefused seal pages.page_size size b n x) blob_here (subst (λ (p : Pages). IsRefused seal p.page_size size (disk now (section_key f.partition s)) n x) done.paging refused.1))))

      pub marker_codec : (refusal : List ℕ → Unit {0} → Option codec.Error) (e : codec.Error)
          → (0 < n) × (refusal (data_from f.pages.page_size (view (disk now (section_key f.partition s)).content) ((n - 1) * size) size) tt ≡ Some e) × IsCovered seal f.pages.page_size (disk now (section_key f.partition s)).content ((n - 1) * size) size
          → ((p k : ℕ) → p < s → marks p ≡ Some k → KeepsBoundary seal pages.page_size size spelling accepted (disk from (section_key partition p)) k)
          → (q m : ℕ) × (marks q ≡ Some m) × (0 < m) × (refusal (data_from pages.page_size (view (disk from (section_key partition q)).content) ((m - 1) * size) size) tt ≡ Some e) × IsCovered seal pages.page_size (disk from (section_key partition q)).content ((m - 1) * size) size
          × ((p k : ℕ) → p < q → marks p ≡ Some k → KeepsBoundary seal pages.page_size size spelling accepted (disk from (section_key partition p)) k)
      marker_codec refusal e found before =
          let content : (disk now (section_key f.partition s)).content ≡ (disk from (section_key partition s)).content = ap (λ (b : Blob). b.content) blob_here ∙ content_now partition ceiling from now moments s in (
            s,
            n,
            is,
            found.0,
            subst (λ (c : List ℕ). refusal (data_from pages.page_size (view c) ((n - 1) * size) size) tt ≡ Some e) content (subst (λ (p : Pages). refusal (data_from p.page_size (view (disk now (section_key f.partition s)).content) ((n - 1) * size) size) tt ≡ Some e) done.paging found.1),
            subst (λ (c : List ℕ). IsCovered seal pages.page_size c ((n - 1) * size) size) content (subst (λ (p : Pages). IsCovered seal p.page_size (disk now (section_key f.partition s)).content ((n - 1) * size) size) done.paging found.2),
            before,
          )

  -- a marker whose items stand in the sealed prefix is not refused
  pub none_refused : ((s n : ℕ) → marks s ≡ Some n → Keeps seal pages.page_size size (disk from (section_key partition s)) n)
      → (x : Damage) → IsSomeAnd (marks x.section) (λ n. IsRefused seal pages.page_size size (disk from (section_key partition x.section)) n x) → ⊥
  none_refused keeps x refused =
      let n = value_of (marks x.section) (λ m. IsRefused seal pages.page_size size (disk from (section_key partition x.section)) m x) refused in
      keeps_none seal pages.page_size size (disk from (section_key partition x.section)) n.value x (keeps x.section n.value n.is) n.has

-- ---- a floor that is taken in
module _ (m n : tree.BTreeMap ℕ ℕ) (k v : ℕ) (put : tree.get nat_cmp n k ≡ Some v) (kept : (q : ℕ) → q ≢ k → tree.get nat_cmp n q ≡ tree.get nat_cmp m q) where
  pub floor_there : (q : ℕ) → q ≢ k → floor_in n q ≡ floor_in m q
  floor_there q other = ap (λ (o : Option ℕ). unwrap_or o 0) (kept q other)

  -- what each floor has, where the new one has it
  pub floors_have : (P : ℕ → ℕ → Type 0) → P k v → ((q : ℕ) → P q (floor_in m q)) → (q : ℕ) → P q (floor_in n q)
  floors_have P new old q = elim (cases_eq q k) [
    | inl is ↦ subst (λ (x : ℕ). P x (floor_in n x)) (sym is) (subst (P k) (sym (ap (λ (o : Option ℕ). unwrap_or o 0) put)) new)
    | inr other ↦ subst (P q) (sym (floor_there q other)) (old q)
  ]

-- ---- floors that are kept where the test of their section gives true
module _ (keeps : ℕ → Bool) (m n : tree.BTreeMap ℕ ℕ) (is : n.entries ≡ filter (λ e. keeps e.0) m.entries) (s : ℕ) where
  floor_left : tree.get nat_cmp n s ≡ cond (keeps s) (tree.get nat_cmp m s) None
  floor_left = ap (λ (es : List (ℕ × ℕ)). lookup (tree.is_at (nat_cmp s)) es) is ∙ lookup-filter-keys (tree.is_at (nat_cmp s)) keeps (keeps s) (λ k at. ap keeps (sym (same_number s k at))) m.entries

  pub floor_kept : keeps s ≡ true → floor_in n s ≡ floor_in m s
  floor_kept has = ap (λ (o : Option ℕ). unwrap_or o 0) (floor_left ∙ cond-true (keeps s) _ _ has)

  pub floor_lifted : keeps s ≡ false → floor_in n s ≡ 0
  floor_lifted lacks = ap (λ (o : Option ℕ). unwrap_or o 0) (floor_left ∙ cond-false (keeps s) _ _ lacks)

-- ---- an opening above the floors
-- how many bytes a manager answers
pub size_is : {S : Type 0} {gs : _} (o : Option (PageBlob S gs)) (n : ℕ) → MatchOption o (n ≡ 0) (λ u. n ≡ size_of (shown u)) → n ≡ size_held o
size_is None n is = is
size_is (Some u) n is = is

-- what an opening refuses with is no damage of a section
pub not_damaged : {T : Type 0} (e : Error) (before now : ℕ) → ((n : List ℕ) × IsErrOf {T = T} (Err e) (InvalidBlobName n)) ⊎ HasFailed {T = T} (Err e) before now → (x : Damage) → e ≡ Corruption x → ⊥
not_damaged e before now (inl name) x is = (let at = name.1 in absurd (cc (at, is)))
not_damaged e before now (inr (inl memory)) x is = absurd (cc (memory, is))
not_damaged e before now (inr (inr fault)) x is = (let at = fault.0 in absurd (cc (at, is)))

-- nor of an item
pub not_coded : {T : Type 0} (e : Error) (before now : ℕ) → ((n : List ℕ) × IsErrOf {T = T} (Err e) (InvalidBlobName n)) ⊎ HasFailed {T = T} (Err e) before now → (x : codec.Error) → e ≡ Codec x → ⊥
not_coded e before now (inl name) x is = (let at = name.1 in absurd (cc (at, is)))
not_coded e before now (inr (inl memory)) x is = absurd (cc (memory, is))
not_coded e before now (inr (inr fault)) x is = (let at = fault.0 in absurd (cc (at, is)))
