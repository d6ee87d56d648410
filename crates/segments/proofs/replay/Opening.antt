-- A replay of a fixed journal begins a section: the step that this is.
use Rattle.std.specs.Prelude.{◌≡◌, ◌⊎◌, ◌↔◌, ℕ, ◌+◌, ◌-◌, ◌*◌, ◌/◌, ◌%◌, ◌^◌, ◌<◌, ◌≤◌, cond, Bool, true, false, List, [], length, IsTrue, IsSomeAnd, Option, None, Some, IsSome, Result, Ok, Err}
use Rattle.std.proofs.Common.{inl, inr, refl, sym, ◌∙◌, ap, subst, arith, eqb}
use Rattle.std.proofs.Math.Nat.{div-mul-le_self}
use Rattle.std.proofs.lemmas.Bool.{cases_Bool, cases_eq, eq-eqb, eqb-true}
use Rattle.std.proofs.lemmas.Nat.{le-div}
use Rattle.blob_device.specs.Disk.{Key, Blob, Disk}
use Rattle.blob_device.specs.Opened.{OpenedList, reads_of}
use Rattle.blob_device.specs.Timeline.{Timeline, disk, Always, Each}
use Rattle.blob_device.specs.lemmas.Moments.{always_start}
use Rattle.sealed_pages.specs.declared.page_blob.PageBlob.{PageBlob}
use Rattle.sealed_pages.specs.Shown.{shown}
use Rattle.sealed_pages.specs.Buffer.{size_of, bytes_of, IsBacked, IsSealed}
use Rattle.sealed_pages.specs.ChanceSeal.{Leaves, Sealing}
use Rattle.sealed_pages.specs.Readers.{Reader, IsReplayOf}
use Rattle.sealed_pages.specs.Reads.{pages_for}
use Rattle.sealed_pages.specs.SealedPrefix.{sealed_prefix}
use Rattle.sealed_pages.specs.Unrecovered.{IsUnrecovered, IsAdopted, HasPrefix, KeepsPrefix}
use Rattle.sealed_pages.specs.lemmas.Unrecovered.{prefix_leaves}
use Rattle.sealed_pages.specs.lemmas.looking.Replay.{covered_none}
use Rattle.sealed_pages.specs.lemmas.memory.Holding.{fit_size}
use Rattle.segments.specs.lemmas.replay.Ending.{ahead_from}
use Rattle.segments.specs.lemmas.replay.Walks.{IsBehind, IsReached, MayCut, MayFlush, MayPrefix, first_same, held_back, held_on, kept_other, key_new, later_one}
use Rattle.segments.specs.lemmas.replay.WalksOn.{IsKnownAgain, moments_of, replaying_here, replaying_start}
use Rattle.value_codec.specs.declared.codec.Error as codec
use Rattle.section_manager.specs.declared.buffer.SectionBuffer as buffer
use Rattle.section_manager.specs.declared.journal.Error.{Error}
use Rattle.section_manager.specs.Setting.{Setting}
use Rattle.section_manager.specs.Sections.{key_of, IsHeld}
use Rattle.section_manager.specs.Refusing.{HasFailed}
use Rattle.section_manager.specs.SealedLaws.{not_both}
use Rattle.segments.specs.FixedLists.{size_held, section_size, IsProven}
use Rattle.segments.specs.FixedReplay.{Place, Walk, IsAhead, IsIn, IsReadWhole, IsLeft, IsSameOrCut, HasSameBytes, IsWalk, StaysStill, Replaying, StandsIn, ReadsIn, kept_of, kept_bytes, first_of}
use Rattle.segments.specs.FixedStepping.{reads_left, way_of, sections_ahead, bytes_ahead, OnlySections, Touches, IsFlushed, BeginsOver, Steps}
use Rattle.segments.proofs.replay.Counts.{count_here, count_ahead}
use Rattle.segments.proofs.replay.Ending.{IsNext, next_after, next_from, next_back, fewer_ahead, nearer_begun}
use Rattle.segments.proofs.replay.Reading.{here}
use Rattle.segments.proofs.replay.ErrorSteps.{failed_other, failed_sound, failed_not_codec}
use Rattle.segments.specs.lemmas.FixedOwed.{same_items}
use Rattle.segments.proofs.replay.Steps.{Called, call_failed, call_passed}
use Rattle.blob_device.proofs.general.Options.{none_in, same_some, some_of, some_there, the_some}

-- the start's section is given from the start on
pub first_here : {F B : Type 0} (w : Walk F B) (s : ℕ) → s ≡ w.start_section → first_of w s ≡ w.start_position
first_here w s is = ap (λ (o : Bool). cond o w.start_position 0) (eq-eqb s w.start_section is)

first_there : {F B : Type 0} (w : Walk F B) (s : ℕ) → (s ≡ w.start_section → ⊥) → first_of w s ≡ 0
first_there w s other = elim (cases_Bool (eqb s w.start_section)) [
  | inl is ↦ absurd (other (eqb-true s w.start_section is))
  | inr not ↦ ap (λ (o : Bool). cond o w.start_position 0) not
]

module _ {F S : Type 0} {gs : _} (seal : List ℕ → ℕ) (size : ℕ) (g : buffer.Ghosts (PageBlob S gs)) (gives : F → Setting) {told : Type 0} where
  -- The first item of a section that is ahead is within it.
  module _ (w : Walk F (PageBlob S gs)) (s : ℕ) (before : OpenedList) (d : Disk) (was : IsWalk g gives seal size told w before d) (u : PageBlob S gs) (held : w.journal.sections.held s ≡ Some u) (ahead : IsAhead w s) where
    start_fits : first_of w s * size ≤ size_of (shown u)
    start_fits = elim (cases_eq s w.start_section) [
      | inl is ↦
          let there : w.journal.sections.held w.start_section ≡ Some u = subst (λ (k : ℕ). w.journal.sections.held k ≡ Some u) is held in
          let far : IsAhead w w.start_section = subst (IsAhead w) is ahead in
          omega (arith, was.walk.start_within far u there, ap (λ (k : ℕ). k * size) (first_here w s is))
      | inr other ↦ omega (arith, ap (λ (k : ℕ). k * size) (first_there w s other))
    ]

    pub begin_fits : (first : ℕ) → first ≡ cond (w.journal.unrecovered s) 0 (first_of w s) → first * size ≤ size_of (shown u)
    begin_fits first first_is = go (w.journal.unrecovered s) first_is
      where
        go : (owes : Bool) → first ≡ cond owes 0 (first_of w s) → first * size ≤ size_of (shown u)
        go true is = omega (arith, ap (λ (k : ℕ). k * size) is)
        go false is = omega (arith, start_fits, ap (λ (k : ℕ). k * size) is)

  -- and a u64 counts where it begins
  pub begin_small : (w : Walk F (PageBlob S gs)) (s : ℕ) (before : OpenedList) (d : Disk) → IsWalk g gives seal size told w before d → IsSome (w.journal.sections.held s) → IsAhead w s
      → (first : ℕ) → first ≡ cond (w.journal.unrecovered s) 0 (first_of w s) → first * size < 2 ^ 64
  begin_small w s before d was held ahead first is = (let u = some_of (w.journal.sections.held s) held in
      omega (arith, begin_fits w s before d was u.0 u.1 ahead first is, fit_size _ _ _ _ u.0.fit))

  -- A section is begun: the next one that is ahead.
  module _ (w new : Walk F (PageBlob S gs)) (s : ℕ) (n : Option ℕ) (p : Option Place) (before after : OpenedList) (a b : Timeline) (was : IsWalk g gives seal size told w before (disk a)) (none : w.place ≡ None)
      {T : Type 0} (result : Result T Error) (only : OnlySections (record w { next_section = n; place = p }) new) (next : IsNext s n)
      (touch : Touches g gives told result s w.journal.sections new.journal.sections before after a b)
      (u : PageBlob S gs) (held : w.journal.sections.held s ≡ Some u) (ahead : IsAhead w s) (least : (t : ℕ) → IsHeld w.journal.sections t → IsAhead w t → s ≤ t)
      (moments : told → IsSealed seal (shown u) (disk a (key_of w.journal.sections s)) → Sealing seal u.page_size (bytes_of (shown u) (disk a (key_of w.journal.sections s)).content) u.settled (key_of w.journal.sections s) a b)
      (steady : told → IsUnrecovered seal (shown u) (disk a (key_of w.journal.sections s)) → KeepsPrefix seal u.page_size (sealed_prefix seal u.page_size (disk a (key_of w.journal.sections s)).content) (key_of w.journal.sections s) a b)
      (adopt : (x : PageBlob S gs) (c : Blob) → g.Stands x c → IsAdopted seal (shown x) c) (idle : u.settled ≡ size_of (shown u) → b ≡ a)
      {V : Type 0} (spelling : V → List ℕ) (accepted : V → Unit {0} → Type 0) (refusal : List ℕ → Unit {0} → Option codec.Error) (few many : ℕ) (le : few ≤ many) where
    abbrev key : Key
    key = key_of w.journal.sections s

    numbers : (q : ℕ) → IsHeld w.journal.sections q → q < 2 ^ 64
    numbers q h = was.over.opened_list.number q (inl h)

    small : s < 2 ^ 64
    small = numbers s (some_there (w.journal.sections.held s) u held)

    next_new : IsNext s new.next_section
    next_new = subst (IsNext s) (sym only.next) next

    start_before : w.start_section ≤ s
    start_before = (let first = the_some w.next_section ahead in let from = was.walk.from_start first.0 first.1 in omega (arith, from, first.2))

    reached : IsReached seal size s w
    reached = record { held = some_there (w.journal.sections.held s) u held; near = inl ahead }

    ahead_back : (t : ℕ) → IsAhead new t → IsAhead w t
    ahead_back t h = ahead_from w.next_section s t (next_back s new.next_section next_new t h) ahead

    behind : IsBehind seal size s w new
    behind = record {
      in_old = λ t is. absurd (none_in w.place (λ x. x.section ≡ t) none is);
      ahead = λ t small. (
        λ h. (ahead_back t h, (next_after s new.next_section next_new t small).0 h),
        λ h. (next_after s new.next_section next_new t small).1 h.1,
      );
      later = λ t here far other. omega (arith, least t here far, other);
    }

    called : Called {V = V} seal size g gives spelling accepted refusal told s w new before after a b few many
    called = record {
      was = was;
      one = record {
        same = record { bounds = touch.bounds; unrecovered = only.unrecovered; floors = only.floors; section = only.section; position = only.position };
        small = small;
        numbers = numbers;
        others = touch.others;
        blobs = touch.blobs;
      };
      behind = behind;
      reached = reached;
      over = touch.over;
      entries = touch.entries;
      moments = λ t. moments_by t (w.journal.unrecovered s) refl;
      from = λ k is. next_from s new.start_section new.next_section next_new (subst (λ (x : ℕ). x ≤ s) (sym only.section) start_before) k is;
      faults = le;
    }
      where
        none_by : told → u.settled ≡ size_of (shown u) → Always a b (Each (Replaying seal size w (disk a)))
        none_by t settled = subst (λ (x : Timeline). Always a x (Each (Replaying seal size w (disk a)))) (sym (idle settled))
            (always_start a (Each (Replaying seal size w (disk a))) (λ q. replaying_start seal size w (disk a) q))

        not_still : (y : PageBlob S gs) → w.journal.sections.held s ≡ Some y → y.settled ≡ size_of (shown y) → (u.settled ≡ size_of (shown u) → ⊥) → ⊥
        not_still y is settled more = more (subst (λ (z : PageBlob S gs). z.settled ≡ size_of (shown z)) (same_some (w.journal.sections.held s) u y held is) settled)

        not_owed : {A : Type 0} → w.journal.unrecovered s ≡ false → IsTrue (w.journal.unrecovered s) → A
        not_owed free owes = absurd (cc (owes, free))

        -- what is said of u is said of what is held
        of_held : (P : PageBlob S gs → Type 0) → P u → (y : PageBlob S gs) → w.journal.sections.held s ≡ Some y → P y
        of_held P has y is = subst P (sym (same_some (w.journal.sections.held s) u y held is)) has

        flush_by : told → w.journal.unrecovered s ≡ false → (u.settled ≡ size_of (shown u) → ⊥) → Always a b (Each (Replaying seal size w (disk a)))
        flush_by t free more = elim (adopt u (disk a key) ((was.over.disk t).stands s u held)) [
          | inl sealed ↦ moments_of seal size w (disk a) s small numbers reached a b (MayFlush seal u (disk a key)) refl (moments t sealed)
              (λ x leaves. replaying_here seal size w (disk a) s small numbers reached x
              (λ y is free2 sealed2. of_held (λ (z : PageBlob S gs). MayFlush seal z (disk a key) x) leaves y is)
              (λ y is free2. of_held (λ (z : PageBlob S gs). IsUnrecovered seal (shown z) (disk a key) → MayPrefix seal z (disk a key) x) (λ un. absurd (not_both seal (shown u) (disk a key) sealed un)) y is)
              (λ y is. not_owed free) (λ y is rest. absurd (not_still y is rest.0 more)))
          | inr un ↦ moments_of seal size w (disk a) s small numbers reached a b (HasPrefix seal u.page_size (sealed_prefix seal u.page_size (disk a key).content)) refl (steady t un)
              (λ x has. replaying_here seal size w (disk a) s small numbers reached x
              (λ y is free2. of_held (λ (z : PageBlob S gs). IsSealed seal (shown z) (disk a key) → MayFlush seal z (disk a key) x) (λ sealed. absurd (not_both seal (shown u) (disk a key) sealed un)) y is)
              (λ y is free2 un2. of_held (λ (z : PageBlob S gs). MayPrefix seal z (disk a key) x)
              (prefix_leaves seal u.page_size (sealed_prefix seal u.page_size (disk a key).content) (length (sealed_prefix seal u.page_size (disk a key).content)) x (omega arith) has) y is)
              (λ y is. not_owed free) (λ y is rest. absurd (not_still y is rest.0 more)))
        ]

        moments_by : told → (owes : Bool) → w.journal.unrecovered s ≡ owes → Always a b (Each (Replaying seal size w (disk a)))
        moments_by t true owed = none_by t (was.walk.owes_settled.settled s u held owed)
        moments_by t false free = elim (cases_eq u.settled (size_of (shown u))) [
          | inl settled ↦ none_by t settled
          | inr more ↦ flush_by t free more
        ]

    -- It was refused, and the section may be lost.
    pub begin_failed : (x : Error) → new.place ≡ None → new.ended ≡ w.ended → ((new.journal.sections.held s ≡ None) × IsSome (new.journal.sections.unopened s)) ⊎ ((new.journal.sections.held s ≡ w.journal.sections.held s) × (b ≡ a))
        → HasFailed {T = Option (ℕ × ℕ × V)} (Err x) few many
        → Steps seal size g gives spelling accepted refusal told (Err x) w new before after a b few many
    begin_failed x none_new ended lost cause = call_failed seal size g gives spelling accepted refusal told s w new before after a b few many called nearer_failed x lost (λ going owed. idle (was.walk.owes_settled.settled s u held owed)) none_new ahead_back (inr ended)
        (failed_other x x refl few many cause) (λ t k is. absurd (failed_sound x few many cause k is)) (λ t e is. absurd (failed_not_codec x few many cause e is)) (inr (inr cause))
      where
        nearer_failed : way_of new < way_of w
        nearer_failed =
            omega (arith, ap bytes_ahead none_new, ap bytes_ahead none, nearer_begun (sections_ahead w.next_section) (sections_ahead new.next_section) 0 (fewer_ahead s w.next_section new.next_section small ahead next_new) (omega arith))

    -- The replay stands at the section's first item, or at its start.
    module _ (v : PageBlob S gs) (held_new : new.journal.sections.held s ≡ Some v) (R : Reader) (first : ℕ) (first_is : first ≡ cond (w.journal.unrecovered s) 0 (first_of w s))
        (flush : IsFlushed seal told u (disk a (key_of w.journal.sections s)) v (disk b (key_of w.journal.sections s))) (begins : BeginsOver seal (key_of w.journal.sections s) u v R)
        (replays : (content : List ℕ) → IsBacked seal (shown v) content → IsReplayOf seal content (record R { at = first * size; bytes = [] })) (holds : (x : PageBlob S gs) (c : Blob) → g.Stands x c → IsBacked seal (shown x) c.content)
        (at_first : p ≡ Some (record { section = s; position = first; reader = record R { at = first * size; bytes = [] } })) (ended : new.ended ≡ w.ended) (pos : 1 ≤ size) where
      abbrev r : Place
      r = record { section = s; position = first; reader = record R { at = first * size; bytes = [] } }

      place_new : new.place ≡ Some r
      place_new = only.place ∙ at_first

      in_new : IsIn new s
      in_new = subst (λ (o : Option Place). IsSomeAnd o (λ x. x.section ≡ s)) (sym place_new) refl

      first_fits : first * size ≤ size_of (shown u)
      first_fits = begin_fits w s before (disk a) was u held ahead first first_is

      none_before : first ≤ first_of w s
      none_before = go (w.journal.unrecovered s) first_is
        where
          go : (owes : Bool) → first ≡ cond owes 0 (first_of w s) → first ≤ first_of w s
          go true is = omega (arith, is)
          go false is = omega (arith, is)

      key_same : key_of new.journal.sections s ≡ key
      key_same = key_new seal size s w new (disk a) (disk b) called.one s

      first_new : first_of new s ≡ first_of w s
      first_new = first_same seal size s w new (disk a) (disk b) called.one s

      first_zero : IsReadWhole new s → first ≡ 0
      first_zero read = elim read [
        | inl owed ↦ first_is ∙ ap (λ (o : Bool). cond o 0 (first_of w s)) (sym (only.unrecovered s) ∙ owed)
        | inr none ↦ omega (arith, none_before, first_new, none)
      ]

      stands : StandsIn size new r v
      stands = record {
        key = begins.key ∙ sym key_same;
        page_size = begins.page_size ∙ sym flush.page_size;
        end = begins.end;
        blob_size = begins.size ∙ sym flush.size;
        flushed = flush.flushed;
        at = refl;
        within = omega (arith, first_fits, flush.size);
        begun = λ free. (let is : first ≡ first_of w s = first_is ∙ ap (λ (o : Bool). cond o 0 (first_of w s)) (sym (only.unrecovered s) ∙ free) in omega (arith, is, first_new));
      }

      reads : told → ReadsIn seal new (disk b) r v
      reads t = record {
        replays = replays (disk b (key_of new.journal.sections s)).content (holds v (disk b (key_of new.journal.sections s)) ((touch.over.disk t).stands s v held_new));
        checked = λ read. (let is : first ≡ 0 = first_zero read in
            covered_none seal v.page_size (disk b (key_of new.journal.sections s)).content 0 (first * size + 0) (omega (arith, ap (λ (k : ℕ). k * size) is)));
      }

      sealed : told → IsProven w.journal s → IsSealed seal (shown v) (disk b (key_of new.journal.sections s))
      sealed t proven = subst (λ (k : Key). IsSealed seal (shown v) (disk b k)) (sym key_same) (flush.sealed t ((was.disk t).sealed.sealed s u held proven))

      whole : told → w.journal.unrecovered s ≡ false → size_of (shown v) % size ≡ 0
      whole t free = ap (λ (k : ℕ). k % size) flush.size ∙ (was.disk t).sealed.whole s u held free

      same_time : IsTrue (w.journal.unrecovered s) → b ≡ a
      same_time owed = idle (was.walk.owes_settled.settled s u held owed)

      kept : told → kept_bytes seal size new (disk b) s ≡ kept_bytes seal size w (disk a) s
      kept t = opens_new ∙ go (w.journal.unrecovered s) refl ∙ sym opens_old
        where
          opens_new : kept_bytes seal size new (disk b) s ≡ kept_of seal (w.journal.unrecovered s) (Some v) (disk b key).content
          opens_new = λ i. kept_of seal (only.unrecovered s i) (held_new i) (disk b (key_same i)).content

          opens_old : kept_bytes seal size w (disk a) s ≡ kept_of seal (w.journal.unrecovered s) (Some u) (disk a key).content
          opens_old = λ i. kept_of seal (w.journal.unrecovered s) (held i) (disk a key).content

          go : (owes : Bool) → w.journal.unrecovered s ≡ owes → kept_of seal (w.journal.unrecovered s) (Some v) (disk b key).content ≡ kept_of seal (w.journal.unrecovered s) (Some u) (disk a key).content
          go true owed = ap (λ (o : Bool). kept_of seal o (Some v) (disk b key).content) owed
              ∙ (λ i. sealed_prefix seal (flush.page_size i) (disk (same_time owed i) key).content)
              ∙ ap (λ (o : Bool). kept_of seal o (Some u) (disk a key).content) (sym owed)
          go false free = ap (λ (o : Bool). kept_of seal o (Some v) (disk b key).content) free
              ∙ flush.bytes t
              ∙ ap (λ (o : Bool). kept_of seal o (Some u) (disk a key).content) (sym free)

      onward : (t : ℕ) → IsAhead new t ⊎ IsIn new t → IsAhead w t ⊎ IsIn w t
      onward t (inl far) = inl (ahead_back t far)
      onward t (inr there) = (let at : s ≡ t = subst (λ (o : Option Place). IsSomeAnd o (λ x. x.section ≡ t)) place_new there in inl (subst (IsAhead w) at ahead))

      later : told → (q : Key) (x : Blob) → Replaying seal size new (disk b) q x → Replaying seal size w (disk a) q x
      later t = later_one seal size s w new (disk a) (disk b) called.one t reached onward v held_new
          (λ y is free. subst (λ (z : PageBlob S gs). IsSealed seal (shown z) (disk a key) → IsSealed seal (shown v) (disk b key) × ((x : Blob) → MayFlush seal v (disk b key) x → MayFlush seal z (disk a key) x))
          (sym (same_some (w.journal.sections.held s) u y held is)) (λ is_sealed. (flush.sealed t is_sealed, flushed_leaves)))
          (λ y is free. subst (λ (z : PageBlob S gs). IsUnrecovered seal (shown z) (disk a key) → IsUnrecovered seal (shown v) (disk b key) × ((x : Blob) → MayPrefix seal v (disk b key) x → MayPrefix seal z (disk a key) x))
          (sym (same_some (w.journal.sections.held s) u y held is)) (λ un. ((flush.unsealed t un).0, same_leaves (flush.unsealed t un).1)))
          (λ y is owes x may. subst (λ (z : PageBlob S gs). MayCut seal size z (w.journal.floor_of s) (disk a key) x) (sym (same_some (w.journal.sections.held s) u y held is)) (cut_leaves owes x may))
          (λ y is rest. stays (subst (λ (z : PageBlob S gs). StaysStill seal size (w.journal.unrecovered s) z (disk a key)) (same_some (w.journal.sections.held s) u y held is) rest))
        where
          stays : StaysStill seal size (w.journal.unrecovered s) u (disk a key) → StaysStill seal size (w.journal.unrecovered s) v (disk b key) × (disk b key ≡ disk a key)
          stays rest =
              let blob : disk b key ≡ disk a key = ap (λ (y : Timeline). disk y key) (idle rest.0) in (
                (
                  flush.settled ∙ rest.0 ∙ sym flush.size,
                  elim rest.1 [
                    | inl free ↦ inl free
                    | inr none ↦ inr (record {
                      sealed = (λ i. length (sealed_prefix seal (flush.page_size i) (blob i).content)) ∙ none.sealed ∙ sym flush.size;
                      whole = ap (λ (n : ℕ). n % size) flush.size ∙ none.whole;
                    })
                  ],
                ),
                blob,
              )

          same_leaves : sealed_prefix seal u.page_size (disk b key).content ≡ sealed_prefix seal u.page_size (disk a key).content → (x : Blob) → MayPrefix seal v (disk b key) x → MayPrefix seal u (disk a key) x
          same_leaves same x left =
              let c = (disk b key).content in
              let paged : Leaves seal u.page_size (sealed_prefix seal u.page_size c) (length (sealed_prefix seal u.page_size c)) x =
              subst (λ (P : ℕ). Leaves seal P (sealed_prefix seal P c) (length (sealed_prefix seal P c)) x) flush.page_size left in
              subst (λ (l : List ℕ). Leaves seal u.page_size l (length l) x) same paged

          flushed_leaves : (x : Blob) → MayFlush seal v (disk b key) x → MayFlush seal u (disk a key) x
          flushed_leaves x left =
              let paged : Leaves seal u.page_size (bytes_of (shown v) (disk b key).content) v.settled x = subst (λ (P : ℕ). Leaves seal P (bytes_of (shown v) (disk b key).content) v.settled x) flush.page_size left in
              let settled : Leaves seal u.page_size (bytes_of (shown v) (disk b key).content) u.settled x = subst (λ (k : ℕ). Leaves seal u.page_size (bytes_of (shown v) (disk b key).content) k x) flush.settled paged in
              subst (λ (l : List ℕ). Leaves seal u.page_size l u.settled x) (flush.bytes t) settled

          cut_leaves : IsTrue (w.journal.unrecovered s) → (x : Blob) → MayCut seal size v (w.journal.floor_of s) (disk b key) x → MayCut seal size u (w.journal.floor_of s) (disk a key) x
          cut_leaves owes x may =
              let blob : disk b key ≡ disk a key = ap (λ (y : Timeline). disk y key) (same_time owes) in
              subst (λ (y : Blob). MayCut seal size u (w.journal.floor_of s) y x) blob
              (subst (λ (P : ℕ). (x ≡ disk b key) ⊎ ((w.journal.floor_of s ≤ length (sealed_prefix seal P (disk b key).content) / size * size)
              × Leaves seal P (sealed_prefix seal P (disk b key).content) (length (sealed_prefix seal P (disk b key).content) / size * size) x)) flush.page_size may)

      again : IsKnownAgain seal size g gives w new before after (disk a) (disk b) was s v
      again = record {
        held = held_new;
        not_ahead = λ h. omega (arith, (next_after s new.next_section next_new s small).0 h);
        settled = λ owed. flush.settled ∙ was.walk.owes_settled.settled s u held owed ∙ sym flush.size;
        sealed = sealed;
        whole = whole;
        gone_over = λ t out read. absurd (out in_new);
        place = λ x is. (let at : r ≡ x = cc (place_new, is) in
            subst (λ (y : Place). (y.section ≡ s) × StandsIn size new y v × (told → ReadsIn seal new (disk b) y v)) at (refl, stands, reads));
        begun = λ there. subst (λ (k : ℕ). k ≤ s) (sym only.section) start_before;
      }

      left : told → (t q : ℕ) → IsLeft seal size new (disk b) t q ↔ IsLeft seal size w (disk a) t q
      left tells t q = (forth, back)
        where
          first_t : first_of new t ≡ first_of w t
          first_t = first_same seal size s w new (disk a) (disk b) called.one t

          kept_t : kept_bytes seal size new (disk b) t ≡ kept_bytes seal size w (disk a) t
          kept_t = elim (cases_eq t s) [
            | inl is ↦ subst (λ (k : ℕ). kept_bytes seal size new (disk b) k ≡ kept_bytes seal size w (disk a) k) (sym is) (kept tells)
            | inr other ↦ kept_other seal size s w new (disk a) (disk b) called.one tells t other
          ]

          held_t : IsHeld new.journal.sections t → IsHeld w.journal.sections t
          held_t h = elim (cases_eq t s) [
            | inl is ↦ subst (IsHeld w.journal.sections) (sym is) reached.held
            | inr other ↦ held_back seal size s w new (disk a) (disk b) called.one t other h
          ]

          forth : IsLeft seal size new (disk b) t q → IsLeft seal size w (disk a) t q
          forth l = record {
            goes_on = sym ended ∙ l.goes_on;
            begun = subst (λ (k : ℕ). k ≤ q) first_t l.begun;
            whole = subst (λ (c : List ℕ). q < length c / size) kept_t l.whole;
            ahead = elim l.ahead [
              | inl here ↦ inl (held_t here.0, ahead_back t here.1)
              | inr there ↦ (let at : s ≡ t = (subst (λ (o : Option Place). IsSomeAnd o (λ x. (x.section ≡ t) × (x.position ≤ q))) place_new there).0 in
                  inl (subst (IsHeld w.journal.sections) at reached.held, subst (IsAhead w) at ahead))
            ];
          }

          back : IsLeft seal size w (disk a) t q → IsLeft seal size new (disk b) t q
          back l = record {
            goes_on = ended ∙ l.goes_on;
            begun = subst (λ (k : ℕ). k ≤ q) (sym first_t) l.begun;
            whole = subst (λ (c : List ℕ). q < length c / size) (sym kept_t) l.whole;
            ahead = elim l.ahead [
              | inl here ↦ elim (cases_eq t s) [
                | inl is ↦ inr (subst (λ (o : Option Place). IsSomeAnd o (λ x. (x.section ≡ t) × (x.position ≤ q))) (sym place_new)
                    (sym is, (let begun : first_of w s ≤ q = subst (λ (k : ℕ). first_of w k ≤ q) is l.begun in omega (arith, begun, none_before))))
                | inr other ↦ inl (
                  held_on seal size s w new (disk a) (disk b) called.one t other here.0,
                  (next_after s new.next_section next_new t (numbers t here.0)).1 (behind.later t here.0 here.1 other),
                )
              ]
              | inr there ↦ absurd (none_in w.place (λ x. (x.section ≡ t) × (x.position ≤ q)) none there)
            ];
          }

      pub begin_begun : reads_of (after (key_of w.journal.sections s)) ≤ reads_of (before (key_of w.journal.sections s)) → Steps seal size g gives spelling accepted refusal told (Ok None) w new before after a b few many
      unfolding called
      begin_begun none_begun = call_passed seal size g gives spelling accepted refusal told s w new before after a b few many called v
          (record {
            again = again;
            failed = only.failed;
            ended = ended;
            bytes = λ y is free. subst (λ (z : PageBlob S gs). HasSameBytes told z (disk a key) v (disk b key)) (sym (same_some (w.journal.sections.held s) u y held is)) (record { size = flush.size; settled = flush.settled; bytes = flush.bytes });
            cut = λ y is. subst (λ (z : PageBlob S gs). IsSameOrCut (w.journal.floor_of s) z v) (sym (same_some (w.journal.sections.held s) u y held is)) (record { page_size = flush.page_size; shorter = omega (arith, flush.size); reached = inl flush.size });
            items = λ t y is owed. same_items seal y.page_size size (disk a key) (disk b key) (ap (λ (x : Timeline). disk x key) (same_time owed));
            later = later;
          }) (λ fine out at. absurd (out new_here)) onward nearer left kept_all size_same new_in reads_here
        where
          new_here : IsIn new s
          new_here = subst (λ (o : Option Place). IsSomeAnd o (λ y. y.section ≡ s)) (sym place_new) refl

          new_in : (x : ℕ) → IsIn new x → x ≡ s
          new_in x there = sym (subst (λ (o : Option Place). IsSomeAnd o (λ y. y.section ≡ x)) place_new there)

          reads_here : reads_of (after (key_of w.journal.sections s)) + reads_left new s ≤ reads_of (before (key_of w.journal.sections s)) + reads_left w s
          reads_here =
              let pages : R.size / R.page_size ≤ pages_for u.page_size (size_of (shown u)) = subst (λ (x : ℕ × ℕ). x.1 / x.0 ≤ pages_for u.page_size (size_of (shown u))) (λ i. (sym begins.page_size i, sym begins.size i))
              (le-div (size_of (shown u) / u.page_size) (size_of (shown u) + (u.page_size - 1)) u.page_size (omega (arith, u.fit.begun)) (omega (arith, div-mul-le_self (size_of (shown u)) u.page_size))) in
              omega (arith, none_begun, pages, count_here new r v place_new held_new, count_ahead w s u none held ahead, ap {B = ℕ} (λ (o : Bool). cond o 1 0) (only.unrecovered s))

          nearer : way_of new < way_of w
          nearer =
              let fits = fit_size u.page_size u.first u.from u.tip.items u.fit in
              omega (
                arith,
                ap bytes_ahead place_new,
                ap bytes_ahead none,
                nearer_begun (sections_ahead w.next_section) (sections_ahead new.next_section) (R.size - first * size) (fewer_ahead s w.next_section new.next_section small ahead next_new) (omega (arith, fits, begins.size)),
              )

          size_same : IsAhead new s ⊎ IsIn new s → section_size new.journal.sections s ≡ section_size w.journal.sections s
          size_same near = ap (λ (o : Option (PageBlob S gs)). size_held o) held_new ∙ flush.size ∙ sym (ap (λ (o : Option (PageBlob S gs)). size_held o) held)

          kept_all : told → (t : ℕ) → IsAhead new t ⊎ IsIn new t → kept_bytes seal size new (disk b) t ≡ kept_bytes seal size w (disk a) t
          kept_all tells t near = elim (cases_eq t s) [
            | inl is ↦ subst (λ (k : ℕ). kept_bytes seal size new (disk b) k ≡ kept_bytes seal size w (disk a) k) (sym is) (kept tells)
            | inr other ↦ kept_other seal size s w new (disk a) (disk b) called.one tells t other
          ]
