-- Going over all that is left of a replay of a fixed journal: what a run over items keeps, and what it gives back at its end.
use Rattle.std.specs.Prelude.{◌≡◌, ◌⊎◌, ◌↔◌, ℕ, ◌+◌, ◌*◌, ◌/◌, ◌%◌, ◌<◌, ◌≤◌, Bool, true, false, List, [], length, take, drop, IsTrue, Option, None, Some, IsSomeAnd, Result, Ok, Err, IfOk, OnErr}
use Rattle.std.specs.Result.{IsErrOf}
use Rattle.std.proofs.Common.{inl, inr, refl, sym, ◌∙◌, ap, subst, arith}
use Rattle.std.proofs.lemmas.Bool.{cases_order}
use Rattle.std.proofs.lemmas.List.{drop-take, take-take, take_all}
use Rattle.std.proofs.lemmas.Nat.{div_below}
use Rattle.blob_device.specs.Disk.{Key, Disk}
use Rattle.blob_device.specs.Opened.{OpenedList, reads_of}
use Rattle.blob_device.specs.Timeline.{Timeline, disk, Always, Each}
use Rattle.blob_device.specs.declared.device.Device as device
use Rattle.blob_device.specs.declared.runtime.RError.TheVariants.{InvalidChecksum}
use Rattle.blob_device.specs.lemmas.Moments.{always_start, always_then, always_weaker}
use Rattle.sealed_pages.specs.Buffer.{size_of, bytes_of}
use Rattle.sealed_pages.specs.SealedPrefix.{sealed_prefix}
use Rattle.sealed_pages.specs.Reads.{IsShort}
use Rattle.sealed_pages.specs.Shown.{shown}
use Rattle.sealed_pages.specs.declared.page_blob.PageBlob.{PageBlob}
use Rattle.sealed_pages.specs.lemmas.cutting.Truncating.{all_flushed, settles_of}
use Rattle.sealed_pages.specs.lemmas.memory.Holding.{bytes_length}
use Rattle.segments.specs.lemmas.replay.Walks.{same_bytes}
use Rattle.segments.specs.lemmas.replay.WalksOn.{replaying_start}
use Rattle.value_codec.specs.declared.codec.Error as codec
use Rattle.section_manager.specs.Answers.{seen}
use Rattle.section_manager.specs.Sections.{Sections, section_key, key_of, IsHeld, IsKeyOf, IsOver, SameBounds}
use Rattle.section_manager.specs.Setting.{Setting}
use Rattle.section_manager.specs.declared.buffer.SectionBuffer as buffer
use Rattle.section_manager.specs.declared.journal.Damage.{Damage}
use Rattle.section_manager.specs.declared.journal.Error.{Error}
use Rattle.section_manager.specs.declared.journal.Error.TheVariants.{Codec, Corruption, ItemOutOfRange, ReplayFailed, Runtime}
use Rattle.segments.specs.FixedBounds.{whole_of}
use Rattle.segments.specs.FixedDraining.{IsBadPage, IsFromStart, IsBeforeStart, IsGoneThrough, IsFirstRefused, Drains}
use Rattle.segments.specs.FixedItems.{item_at, IsItem}
use Rattle.segments.specs.FixedLists.{Lists, bytes_held, section_bytes, OwesHeld, OwesSettled, AreSealed, UnopenedLater}
use Rattle.segments.specs.FixedReading.{HasNotRead, IsBelowFloor}
use Rattle.segments.specs.FixedReplay.{Walk, IsAhead, IsIn, IsLeft, IsDrained, IsGoneOver, SameWalk, SameItems, IsSameOrCut, KeepsSections, KeepsFloors, KeepsBytes, KeepsItems, IsWalk, Gives, Refuses, Replaying, LeavesNoMore, EndsBelow, FindsDamage, kept_of, kept_bytes}
use Rattle.segments.specs.FixedStepping.{reads_left, ReadsOnce}
use Rattle.segments.proofs.replay.Kept.{short_item}
use Rattle.segments.specs.lemmas.FixedOwed.{same_items, items_then, same_or_cut, cut_then}
use Rattle.segments.proofs.replay.Running.{idle_after}
use Rattle.blob_device.proofs.general.Numbers.{no_rest, times_more}
use Rattle.blob_device.proofs.general.Options.{has_value, none_in, same_some, some_of, some_there, value_of}

-- ---- lists of items

-- an item within the bytes that two lists share is the same
pub same_item : (size n p : ℕ) (xs ys : List ℕ) → take n xs ≡ take n ys → p * size + size ≤ n → item_at size xs p ≡ item_at size ys p
same_item size n p xs ys same fits =
    sym (drop-take (p * size) size xs)
    ∙ ap (λ (l : List ℕ). drop (p * size) l) (sym (take-take (p * size + size) n xs fits) ∙ ap (λ (l : List ℕ). take (p * size + size) l) same ∙ take-take (p * size + size) n ys fits)
    ∙ drop-take (p * size) size ys

-- Two lists have the same whole items.
pub record HasSameItems (size : ℕ) (xs ys : List ℕ) : Type 0 where
  pub count : length ys / size ≡ length xs / size
  pub items : take (length xs / size * size) ys ≡ take (length xs / size * size) xs

same_list : (size : ℕ) (xs ys : List ℕ) → ys ≡ xs → HasSameItems size xs ys
same_list size xs ys same = record { count = ap (λ (l : List ℕ). length l / size) same; items = ap (λ (l : List ℕ). take (length xs / size * size) l) same }

items_like : (size : ℕ) (xs ys vs ws : List ℕ) → xs ≡ vs → ys ≡ ws → HasSameItems size vs ws → HasSameItems size xs ys
items_like size xs ys vs ws first second is = subst (λ (l : List ℕ). HasSameItems size l ys) (sym first) (subst (λ (l : List ℕ). HasSameItems size vs l) (sym second) is)

-- what has fewer items than this had fewer
fewer_items : (size p : ℕ) (xs ys : List ℕ) → 1 ≤ size → HasSameItems size xs ys → length ys < p * size → length xs < p * size
fewer_items size p xs ys pos same less =
    let below : length ys / size < p = div_below (length ys) size p (omega (arith, pos)) less in
    short_item size (length xs) (length xs / size) p pos refl (omega (arith, below, same.count))

-- what has whole items alone is those of the other
pub whole_items : (size : ℕ) (xs ys : List ℕ) → 1 ≤ size → HasSameItems size xs ys → length ys % size ≡ 0 → ys ≡ take (whole_of size (length xs)) xs
whole_items size xs ys pos same even =
    let count : length ys / size * size + length ys % size ≡ length ys = omega (arith, pos) in
    let times : length ys / size * size ≡ length xs / size * size = ap (λ (m : ℕ). m * size) same.count in
    sym (take_all (length xs / size * size) ys (omega (arith, count, times, even))) ∙ same.items

pub not_true : (x : Bool) → (x ≡ true → ⊥) → x ≡ false
not_true true never = absurd (never refl)
not_true false never = refl

not_stuck : (x y : Bool) → (x ≡ true → y ≡ true) → y ≡ false → x ≡ false
not_stuck true y stuck is = absurd (cc (stuck refl, is))
not_stuck false y stuck is = refl

-- ---- the bytes from which items are given

module _ {F S : Type 0} {gs : _} (seal : List ℕ → ℕ) (size : ℕ) (told : Type 0) (w now : Walk F (PageBlob S gs)) (d e : Disk) (same : SameWalk w now)
    (held : (s : ℕ) → IsHeld now.journal.sections s ↔ IsHeld w.journal.sections s) (floors : KeepsFloors w now) (bytes : KeepsBytes told w now d e) (items : KeepsItems seal size w d e) (t : told) where
  -- the whole items of each section are the same
  pub kept_items : (s : ℕ) → HasSameItems size (kept_bytes seal size w d s) (kept_bytes seal size now e s)
  kept_items s = go (w.journal.unrecovered s) refl (w.journal.sections.held s) refl (now.journal.sections.held s) refl
    where
      key_now : key_of now.journal.sections s ≡ key_of w.journal.sections s
      key_now = ap (λ (p : List ℕ). section_key p s) same.bounds.place.partition

      old_is : (o : Bool) (h : Option (PageBlob S gs)) → w.journal.unrecovered s ≡ o → w.journal.sections.held s ≡ h → kept_bytes seal size w d s ≡ kept_of seal o h (d (key_of w.journal.sections s)).content
      old_is o h owes is = λ i. kept_of seal (owes i) (is i) (d (key_of w.journal.sections s)).content

      new_is : (o : Bool) (h : Option (PageBlob S gs)) → w.journal.unrecovered s ≡ o → now.journal.sections.held s ≡ h → kept_bytes seal size now e s ≡ kept_of seal o h (e (key_of w.journal.sections s)).content
      new_is o h owes is = (let owed : now.journal.unrecovered s ≡ o = same.unrecovered s ∙ owes in λ i. kept_of seal (owed i) (is i) (e (key_now i)).content)

      go : (o : Bool) → w.journal.unrecovered s ≡ o → (h : Option (PageBlob S gs)) → w.journal.sections.held s ≡ h → (k : Option (PageBlob S gs)) → now.journal.sections.held s ≡ k
          → HasSameItems size (kept_bytes seal size w d s) (kept_bytes seal size now e s)
      go o owes None was None is = items_like size (kept_bytes seal size w d s) (kept_bytes seal size now e s) [] [] (old_is o None owes was) (new_is o None owes is) (same_list size [] [] refl)
      go o owes None was (Some v) is = (let u = some_of (w.journal.sections.held s) ((held s).0 (some_there (now.journal.sections.held s) v is)) in absurd (cc (was, u.1)))
      go o owes (Some u) was None is = (let v = some_of (now.journal.sections.held s) ((held s).1 (some_there (w.journal.sections.held s) u was)) in absurd (cc (is, v.1)))
      go false free (Some u) was (Some v) is =
          items_like size (kept_bytes seal size w d s) (kept_bytes seal size now e s) (bytes_of (shown u) (d (key_of w.journal.sections s)).content) (bytes_of (shown v) (e (key_of w.journal.sections s)).content)
          (old_is false (Some u) free was) (new_is false (Some v) free is)
          (same_list size (bytes_of (shown u) (d (key_of w.journal.sections s)).content) (bytes_of (shown v) (e (key_of w.journal.sections s)).content) ((bytes s u v was is free).bytes t))
      go true owed (Some u) was (Some v) is =
          let kept = items s u was owed in
          items_like size (kept_bytes seal size w d s) (kept_bytes seal size now e s)
          (sealed_prefix seal u.page_size (d (key_of w.journal.sections s)).content) (sealed_prefix seal u.page_size (e (key_of w.journal.sections s)).content)
          (old_is true (Some u) owed was)
          (new_is true (Some v) owed is ∙ ap (λ (P : ℕ). sealed_prefix seal P (e (key_of w.journal.sections s)).content) (floors s u v was is).page_size)
          (record { count = kept.count; items = kept.items })

  -- so each of them is
  pub kept_item : (s p : ℕ) → p < length (kept_bytes seal size w d s) / size → item_at size (kept_bytes seal size now e s) p ≡ item_at size (kept_bytes seal size w d s) p
  kept_item s p lt =
      same_item size (length (kept_bytes seal size w d s) / size * size) p (kept_bytes seal size now e s) (kept_bytes seal size w d s) (kept_items s).items
      (times_more p (length (kept_bytes seal size w d s) / size) size lt)

-- ---- a run over items

module _ {F S V : Type 0} {gs : _} (seal : List ℕ → ℕ) (size : ℕ) (g : buffer.Ghosts (PageBlob S gs)) (gives : F → Setting) (spelling : V → List ℕ) (accepted : V → Unit {0} → Type 0) (told : Type 0) where
  abbrev Good : Walk F (PageBlob S gs) → Disk → ℕ → ℕ → Type 0
  Good w d s p = (v : V) × IsItem spelling accepted (item_at size (kept_bytes seal size w d s) p) v

  -- The replay has run from `old` to here, over items alone: what was left is one, or is left still.
  pub record Draining (old now : Walk F (PageBlob S gs)) (before opened : OpenedList) (a t : Timeline) (few count : ℕ) : Type 0 where
    pub over : IsWalk g gives seal size told now opened (disk t)
    pub same : SameWalk old now
    pub failed : now.failed ≡ old.failed
    pub held : (s : ℕ) → IsHeld now.journal.sections s ↔ IsHeld old.journal.sections s
    pub known : (s : ℕ) → now.journal.sections.unopened s ≡ old.journal.sections.unopened s
    pub onward : (s : ℕ) → IsAhead now s ⊎ IsIn now s → IsAhead old s ⊎ IsIn old s
    pub going : now.ended ≡ false → old.ended ≡ false
    pub floors : KeepsFloors old now
    pub bytes : KeepsBytes told old now (disk a) (disk t)
    pub items : told → now.ended ≡ false → KeepsItems seal size old (disk a) (disk t)
    pub later : told → LeavesNoMore seal size old now (disk a) (disk t)
    pub moments : told → Always a t (Each (Replaying seal size old (disk a)))
    pub once : ReadsOnce old now before opened
    pub entries : (q : Key) → (IsKeyOf old.journal.sections (λ s. IsHeld old.journal.sections s × (IsAhead old s ⊎ IsIn old s)) q → ⊥) → opened q ≡ before q
    pub faults : few ≤ count
    pub left : told → (s p : ℕ) → IsLeft seal size now (disk t) s p → IsLeft seal size old (disk a) s p
    pub good : told → now.ended ≡ false → (s p : ℕ) → IsLeft seal size old (disk a) s p → Good old (disk a) s p ⊎ IsLeft seal size now (disk t) s p

  pub draining_start : (w : Walk F (PageBlob S gs)) (before : OpenedList) (a : Timeline) (few : ℕ) → IsWalk g gives seal size told w before (disk a) → Draining w w before before a a few few
  draining_start w before a few was = record {
    over = was;
    same = record { bounds = record { place = record { partition = refl; factory = refl }; floor = refl; ceiling = refl }; unrecovered = λ s. refl; floors = λ s. refl; section = refl; position = refl };
    failed = refl;
    held = λ s. (λ h. h, λ h. h);
    known = λ s. refl;
    onward = λ s near. near;
    going = λ on. on;
    floors = λ s u v held also. same_or_cut (w.journal.floor_of s) u v (same_some (w.journal.sections.held s) u v held also);
    bytes = λ s u v held also free. same_bytes told u v (disk a (key_of w.journal.sections s)) (disk a (key_of w.journal.sections s)) (same_some (w.journal.sections.held s) u v held also) (λ t. refl);
    items = λ t going s u held owed. same_items seal u.page_size size (disk a (key_of w.journal.sections s)) (disk a (key_of w.journal.sections s)) refl;
    later = λ t q x is. is;
    moments = λ t. always_start a (Each (Replaying seal size w (disk a))) (λ q. replaying_start seal size w (disk a) q);
    once = λ s held. omega arith;
    entries = λ q never. refl;
    faults = omega arith;
    left = λ t s p l. l;
    good = λ t on s p l. inr l;
  }

  module _ (old mid new : Walk F (PageBlob S gs)) (before between after : OpenedList) (a b c : Timeline) (few some many : ℕ)
      (first : Draining old mid before between a b few some) (second : Draining mid new between after b c some many) where
    key_mid : (s : ℕ) → key_of mid.journal.sections s ≡ key_of old.journal.sections s
    key_mid s = ap (λ (p : List ℕ). section_key p s) first.same.bounds.place.partition

    -- the section's buffer between the two
    held_mid : (s : ℕ) (u : PageBlob S gs) → old.journal.sections.held s ≡ Some u → (x : PageBlob S gs) × (mid.journal.sections.held s ≡ Some x)
    held_mid s u held = some_of (mid.journal.sections.held s) ((first.held s).1 (some_there (old.journal.sections.held s) u held))

    bytes_both : KeepsBytes told old new (disk a) (disk c)
    bytes_both s u v held now free =
        let x = held_mid s u held in
        let had = first.bytes s u x.0 held x.1 free in
        let has = second.bytes s x.0 v x.1 now (first.same.unrecovered s ∙ free) in
        record {
          size = has.size ∙ had.size;
          settled = has.settled ∙ had.settled;
          bytes = λ t. subst (λ (k : Key). bytes_of (shown v) (disk c k).content ≡ bytes_of (shown x.0) (disk b k).content) (key_mid s) (has.bytes t) ∙ had.bytes t;
        }

    items_both : told → new.ended ≡ false → KeepsItems seal size old (disk a) (disk c)
    items_both t on s u held owed =
        let x = held_mid s u held in
        let paged : SameItems seal u.page_size size (disk b (key_of mid.journal.sections s)) (disk c (key_of mid.journal.sections s)) =
        subst (λ (P : ℕ). SameItems seal P size (disk b (key_of mid.journal.sections s)) (disk c (key_of mid.journal.sections s))) (first.floors s u x.0 held x.1).page_size
        (second.items t on s x.0 x.1 (subst IsTrue (sym (first.same.unrecovered s)) owed)) in
        items_then seal u.page_size size (disk a (key_of old.journal.sections s)) (disk b (key_of old.journal.sections s)) (disk c (key_of old.journal.sections s)) (first.items t (second.going on) s u held owed)
        (subst (λ (k : Key). SameItems seal u.page_size size (disk b k) (disk c k)) (key_mid s) paged)

    once_both : ReadsOnce old new before after
    once_both s held =
        let here = subst (λ (k : Key). reads_of (after k) + reads_left new s ≤ reads_of (between k) + reads_left mid s) (key_mid s) (second.once s ((first.held s).1 held)) in
        omega (arith, here, first.once s held)

    good_both : told → new.ended ≡ false → (s p : ℕ) → IsLeft seal size old (disk a) s p → Good old (disk a) s p ⊎ IsLeft seal size new (disk c) s p
    good_both t on s p l = elim (first.good t (second.going on) s p l) [
      | inl good ↦ inl good
      | inr here ↦ elim (second.good t on s p here) [
        | inl good ↦ inl (
          good.0,
          subst (λ (bytes : List ℕ). IsItem spelling accepted bytes good.0)
              (kept_item seal size told old mid (disk a) (disk b) first.same first.held first.floors first.bytes (first.items t (second.going on)) t s p l.whole) good.1,
        )
        | inr left ↦ inr left
      ]
    ]

    pub draining_then : Draining old new before after a c few many
    draining_then = record {
      over = second.over;
      same = record {
        bounds = record {
          place = record { partition = second.same.bounds.place.partition ∙ first.same.bounds.place.partition; factory = second.same.bounds.place.factory ∙ first.same.bounds.place.factory };
          floor = second.same.bounds.floor ∙ first.same.bounds.floor;
          ceiling = second.same.bounds.ceiling ∙ first.same.bounds.ceiling;
        };
        unrecovered = λ s. second.same.unrecovered s ∙ first.same.unrecovered s;
        floors = λ s. second.same.floors s ∙ first.same.floors s;
        section = second.same.section ∙ first.same.section;
        position = second.same.position ∙ first.same.position;
      };
      failed = second.failed ∙ first.failed;
      held = λ s. (λ h. (first.held s).0 ((second.held s).0 h), λ h. (second.held s).1 ((first.held s).1 h));
      known = λ s. second.known s ∙ first.known s;
      onward = λ s near. first.onward s (second.onward s near);
      going = λ on. first.going (second.going on);
      floors = λ s u v held now. (let x = held_mid s u held in
          cut_then (old.journal.floor_of s) u x.0 v (first.floors s u x.0 held x.1) (subst (λ (n : ℕ). IsSameOrCut n x.0 v) (first.same.floors s) (second.floors s x.0 v x.1 now)));
      bytes = bytes_both;
      items = items_both;
      later = λ t q x has. first.later t q x (second.later t q x has);
      moments = λ t. always_then a b c (Each (Replaying seal size old (disk a))) (first.moments t)
          (always_weaker b c (Each (Replaying seal size mid (disk b))) (Each (Replaying seal size old (disk a))) (λ x each q. first.later t q (x q) (each q)) (second.moments t));
      once = once_both;
      entries = λ q never. second.entries q (λ k. never (k.0, ((first.held k.0).0 k.1.0, first.onward k.0 k.1.1), k.2 ∙ key_mid k.0)) ∙ first.entries q never;
      faults = omega (arith, first.faults, second.faults);
      left = λ t s p l. first.left t s p (second.left t s p l);
      good = good_both;
    }

  -- One call that gave an item, or found none.
  module _ (old new : Walk F (PageBlob S gs)) (before after : OpenedList) (b c : Timeline) (some many : ℕ)
      (over : IsWalk g gives seal size told new after (disk c)) (same : SameWalk old new) (failed : new.failed ≡ old.failed)
      (held : (s : ℕ) → IsHeld new.journal.sections s ↔ IsHeld old.journal.sections s) (known : (s : ℕ) → new.journal.sections.unopened s ≡ old.journal.sections.unopened s)
      (onward : (s : ℕ) → IsAhead new s ⊎ IsIn new s → IsAhead old s ⊎ IsIn old s) (stuck : old.ended ≡ true → new.ended ≡ true) (floors : KeepsFloors old new)
      (bytes : KeepsBytes told old new (disk b) (disk c)) (items : told → new.ended ≡ false → KeepsItems seal size old (disk b) (disk c))
      (later : told → LeavesNoMore seal size old new (disk b) (disk c)) (moments : told → Always b c (Each (Replaying seal size old (disk b)))) (once : ReadsOnce old new before after)
      (entries : (q : Key) → (IsKeyOf old.journal.sections (λ s. IsHeld old.journal.sections s × (IsAhead old s ⊎ IsIn old s)) q → ⊥) → after q ≡ before q) (faults : some ≤ many) where
    draining_of : (told → (s p : ℕ) → IsLeft seal size new (disk c) s p → IsLeft seal size old (disk b) s p)
        → (told → (s p : ℕ) → IsLeft seal size old (disk b) s p → Good old (disk b) s p ⊎ IsLeft seal size new (disk c) s p) → Draining old new before after b c some many
    draining_of left good = record {
      over = over;
      same = same;
      failed = failed;
      held = held;
      known = known;
      onward = onward;
      going = not_stuck old.ended new.ended stuck;
      floors = floors;
      bytes = bytes;
      items = items;
      later = later;
      moments = moments;
      once = once;
      entries = entries;
      faults = faults;
      left = left;
      good = λ t on. good t;
    }

    -- it gave one
    pub draining_item : (s p : ℕ) (v : V) → (told → Gives seal size spelling accepted old new (disk b) (disk c) s p v) → Draining old new before after b c some many
    draining_item s p v item = draining_of (λ t x q l. (((item t).rest x q).0 l).0) (λ t x q l.
        let has = item t in
        elim (cases_order s x) [
          | inr (inl lt) ↦ inr ((has.rest x q).1 (l, inl lt))
          | inr (inr gt) ↦ absurd (has.first x q l (inl gt))
          | inl at ↦ elim (cases_order p q) [
            | inr (inl lt) ↦ inr ((has.rest x q).1 (l, inr (at, lt)))
            | inr (inr gt) ↦ absurd (has.first x q l (inr (sym at, gt)))
            | inl here ↦ inl (subst (λ (y : ℕ). Good old (disk b) y q) at (subst (λ (y : ℕ). Good old (disk b) s y) here (v, has.item)))
          ]
        ])

    -- it found that none is left
    pub draining_none : (told → (s p : ℕ) → IsLeft seal size old (disk b) s p → ⊥) → IsDrained new ⊎ (new.ended ≡ true) → Draining old new before after b c some many
    draining_none none done = draining_of (λ t s p l. absurd (none_left done s p l)) (λ t s p l. absurd (none t s p l))
      where
        none_left : IsDrained new ⊎ (new.ended ≡ true) → (s p : ℕ) → IsLeft seal size new (disk c) s p → ⊥
        none_left (inr ended) s p l = (let on = l.goes_on in cc (ended, on))
        none_left (inl drained) s p l = elim l.ahead [
          | inl here ↦ drained.last s here.0 here.1
          | inr there ↦ none_in new.place (λ r. (r.section ≡ s) × (r.position ≤ p)) drained.between there
        ]

-- ---- how it ends

-- the same error of a call, and from an earlier count of faults on
other_read : {T U : Type 0} (e : Error) (few some many : ℕ) → few ≤ some → HasNotRead {T = T} (Err e) some many → HasNotRead {T = U} (Err e) few many
other_read e few some many le (inl page) = (let at = page.1 in inl (page.0, cc at))
other_read e few some many le (inr (inl code)) = (let at = code.1 in inr (inl (code.0, cc at)))
other_read e few some many le (inr (inr (inl mem))) = inr (inr (inl (cc mem)))
other_read e few some many le (inr (inr (inr fault))) = (let at = fault.0 in inr (inr (inr (cc at, omega (arith, le, fault.1)))))

module _ {F S V D : Type 0} {gs : _} (seal : List ℕ → ℕ) (size : ℕ) (g : buffer.Ghosts (PageBlob S gs)) (gives : F → Setting) (spelling : V → List ℕ) (accepted : V → Unit {0} → Type 0)
    (refusal : List ℕ → Unit {0} → Option codec.Error) (dev : device.Ghosts D) (w now : Walk F (PageBlob S gs)) (old mid : D) (pos : 1 ≤ size)
    (run : Draining seal size g gives spelling accepted dev.Tells w now (dev.opened old) (dev.opened mid) (dev.time old) (dev.time mid) (dev.faults old) (dev.faults mid)) where
  key_now : (s : ℕ) → key_of now.journal.sections s ≡ key_of w.journal.sections s
  key_now s = ap (λ (p : List ℕ). section_key p s) run.same.bounds.place.partition

  same_kept : dev.Tells → now.ended ≡ false → (s : ℕ) → HasSameItems size (kept_bytes seal size w (disk (dev.time old)) s) (kept_bytes seal size now (disk (dev.time mid)) s)
  same_kept t on = kept_items seal size dev.Tells w now (disk (dev.time old)) (disk (dev.time mid)) run.same run.held run.floors run.bytes (run.items t on) t

  -- The next call answers an error.
  module _ {T U : Type 0} (see : T → Lists F (PageBlob S gs)) (r : Result T Error) (e : Error) (is : r ≡ Err e) (new : D) (next : Walk F (PageBlob S gs)) (on : now.ended ≡ false)
      (over : IsWalk g gives seal size dev.Tells next (dev.opened new) (disk (dev.time new))) (same : SameWalk now next) (stays : KeepsSections now next)
      (floors : KeepsFloors now next) (bytes : KeepsBytes dev.Tells now next (disk (dev.time mid)) (disk (dev.time new)))
      (moments : dev.Tells → Always (dev.time mid) (dev.time new) (Each (Replaying seal size now (disk (dev.time mid)))))
      (refused : dev.Tells → (x : codec.Error) → e ≡ Codec x → Refuses seal size refusal now next (disk (dev.time mid)) (disk (dev.time new)) x)
      (damage : dev.Tells → (x : Damage) → e ≡ Corruption x → EndsBelow seal size now (disk (dev.time mid)) x × (IsAhead now x.section ⊎ IsIn now x.section))
      (start : dev.Tells → (p : ℕ) → e ≡ ItemOutOfRange p → (p ≡ now.start_position) × (length (kept_bytes seal size now (disk (dev.time mid)) now.start_section) < p * size))
      (damaged : dev.Tells → (k : ℕ) → e ≡ Runtime (InvalidChecksum k) → FindsDamage seal size now next (disk (dev.time new)) k)
      (entries : (q : Key) → (IsKeyOf now.journal.sections (λ s. IsHeld now.journal.sections s × (IsAhead now s ⊎ IsIn now s)) q → ⊥) → dev.opened new q ≡ dev.opened mid q)
      (faults : dev.faults mid ≤ dev.faults new)
      (cause : (e ≡ ItemOutOfRange now.start_position) ⊎ (IsBelowFloor {T = U} (Err e) ⊎ HasNotRead {T = U} (Err e) (dev.faults mid) (dev.faults new))) where
    first_refused : dev.Tells → (x : codec.Error) → e ≡ Codec x → (s p : ℕ) × IsFirstRefused g gives seal size spelling accepted refusal w (disk (dev.time old)) x s p
    first_refused t x at =
        let has = refused t x at in
        let left = run.left t has.section has.position has.left in (
          has.section,
          has.position,
          record {
            left = left;
            before = λ y q l lt. elim (run.good t on y q l) [ inl good ↦ good | inr here ↦ absurd (has.first y q here lt) ];
            refused = subst (λ (bytes : List ℕ). refusal bytes tt ≡ Some x)
                (kept_item seal size dev.Tells w now (disk (dev.time old)) (disk (dev.time mid)) run.same run.held run.floors run.bytes (run.items t on) t has.section has.position left.whole) has.refused;
          },
        )

    ends_below : dev.Tells → (x : Damage) → e ≡ Corruption x → EndsBelow seal size w (disk (dev.time old)) x × (IsAhead w x.section ⊎ IsIn w x.section)
    ends_below t x at =
        let has = (damage t x at).0 in (
          record {
            owes = sym (run.same.unrecovered x.section) ∙ has.owes;
            held = (run.held x.section).0 has.held;
            kept = has.kept ∙ ap (λ (m : ℕ). m * size) (same_kept t on x.section).count;
            wanted = has.wanted ∙ run.same.floors x.section;
            less = has.less;
          },
          run.onward x.section (damage t x at).1,
        )

    past_start : dev.Tells → (p : ℕ) → e ≡ ItemOutOfRange p → (p ≡ w.start_position) × (length (kept_bytes seal size w (disk (dev.time old)) w.start_section) < p * size)
    past_start t p at =
        let has = start t p at in (
          has.0 ∙ run.same.position,
          fewer_items size p (kept_bytes seal size w (disk (dev.time old)) w.start_section) (kept_bytes seal size now (disk (dev.time mid)) w.start_section) pos (same_kept t on w.start_section)
              (subst (λ (k : ℕ). length (kept_bytes seal size now (disk (dev.time mid)) k) < p * size) run.same.section has.1),
        )

    bad_page : dev.Tells → (k : ℕ) → e ≡ Runtime (InvalidChecksum k) → (s p : ℕ) × IsBadPage seal size w (disk (dev.time new)) k s p
    bad_page t k at =
        let has = damaged t k at in
        let s = has.section in
        let v = value_of (next.journal.sections.held s) (λ v. (has.position + 1) * size ≤ size_of (shown v)) has.within in
        let held = some_there (next.journal.sections.held s) v.value v.is in
        let x = some_of (now.journal.sections.held s) ((stays s (over.over.opened_list.apart s held)).1.0 held) in
        let u = some_of (w.journal.sections.held s) ((run.held s).0 (some_there (now.journal.sections.held s) x.0 x.1)) in
        let owes_none : now.journal.unrecovered s ≡ false = sym (same.unrecovered s) ∙ has.free in
        let free : w.journal.unrecovered s ≡ false = sym (run.same.unrecovered s) ∙ owes_none in
        let count : size_of (shown v.value) ≡ size_of (shown u.0) = (bytes s x.0 v.value x.1 v.is owes_none).size ∙ (run.bytes s u.0 x.0 u.1 x.1 free).size in
        let paged : v.value.page_size ≡ u.0.page_size = (floors s x.0 v.value x.1 v.is).page_size ∙ (run.floors s u.0 x.0 u.1 x.1).page_size in
        let key : key_of next.journal.sections s ≡ key_of w.journal.sections s = ap (λ (p : List ℕ). section_key p s) same.bounds.place.partition ∙ key_now s in
        let page : IsShort seal v.value.page_size (disk (dev.time new) (key_of next.journal.sections s)).content (has.position * size) size k =
        subst (λ (o : Option (PageBlob S gs)). IsSomeAnd o (λ y. IsShort seal y.page_size (disk (dev.time new) (key_of next.journal.sections s)).content (has.position * size) size k)) v.is has.page in
        let own : IsShort seal u.0.page_size (disk (dev.time new) (key_of w.journal.sections s)).content (has.position * size) size k =
        subst (λ (n : ℕ). IsShort seal n (disk (dev.time new) (key_of w.journal.sections s)).content (has.position * size) size k) paged
        (subst (λ (q : Key). IsShort seal v.value.page_size (disk (dev.time new) q).content (has.position * size) size k) key page) in (
          s,
          has.position,
          record {
            near = run.onward s has.near;
            free = free;
            floor = omega (arith, has.floor, same.floors s, run.same.floors s);
            within = has_value (w.journal.sections.held s) (λ y. (has.position + 1) * size ≤ size_of (shown y)) u.0 u.1 (omega (arith, v.has, count));
            page = has_value (w.journal.sections.held s) (λ y. IsShort seal y.page_size (disk (dev.time new) (key_of w.journal.sections s)).content (has.position * size) size k) u.0 u.1 own;
          },
        )

    caused : (IsErrOf {T = Lists F (PageBlob S gs)} (Err e) ReplayFailed × (w.failed ≡ true)) ⊎ (IsErrOf {T = Lists F (PageBlob S gs)} (Err e) (ItemOutOfRange w.start_position)
        ⊎ (IsBelowFloor {T = Lists F (PageBlob S gs)} (Err e) ⊎ HasNotRead {T = Lists F (PageBlob S gs)} (Err e) (dev.faults old) (dev.faults new)))
    caused = elim cause [
      | inl start ↦ (let at = run.same.position in inr (inl (cc (start, at))))
      | inr (inl below) ↦ (let at = below.1 in inr (inr (inl (below.0, cc at))))
      | inr (inr failed) ↦ inr (inr (inr (other_read {T = U} e (dev.faults old) (dev.faults mid) (dev.faults new) run.faults failed)))
    ]

    pub drains_err : Drains g gives seal size spelling accepted refusal w dev (seen see r) old new
    drains_err = subst (λ (x : Result (Lists F (PageBlob S gs)) Error). Drains g gives seal size spelling accepted refusal w dev x old new) (sym (ap (seen see) is)) (record {
      moments = λ t. always_then (dev.time old) (dev.time mid) (dev.time new) (Each (Replaying seal size w (disk (dev.time old)))) (run.moments t)
          (always_weaker (dev.time mid) (dev.time new) (Each (Replaying seal size now (disk (dev.time mid)))) (Each (Replaying seal size w (disk (dev.time old)))) (λ x each q. run.later t q (x q) (each q)) (moments t));
      ends = tt;
      refused = λ t x at. first_refused t x (cc at);
      damage = λ t x at. ends_below t x (cc at);
      start = λ t p at. past_start t p (cc at);
      damaged = λ t k at. bad_page t k (cc at);
      once = λ s held. tt;
      entries = λ q never. entries q (λ k. never (k.0, ((run.held k.0).0 k.1.0, run.onward k.0 k.1.1), k.2 ∙ key_now k.0)) ∙ run.entries q never;
      faults = omega (arith, run.faults, faults);
      clean = tt;
      cause = caused;
    })

  -- Nothing is left, and the journal is given back.
  module _ (none : dev.Tells → (s p : ℕ) → IsLeft seal size now (disk (dev.time mid)) s p → ⊥) (done : IsDrained now ⊎ (now.ended ≡ true)) where
    -- a section that was gone over has the bytes from which items were given, and no partial item
    module _ (fine : now.failed ≡ false) (drained : IsDrained now) (t : dev.Tells) where
      whole_now : (s : ℕ) → w.start_section ≤ s → (section_bytes now.journal.sections (disk (dev.time mid)) s ≡ kept_bytes seal size now (disk (dev.time mid)) s)
          × (length (kept_bytes seal size now (disk (dev.time mid)) s) % size ≡ 0)
      whole_now s from = go (now.journal.unrecovered s) refl (now.journal.sections.held s) refl
        where
          content : List ℕ
          content = (disk (dev.time mid) (key_of now.journal.sections s)).content

          bytes_are : (h : Option (PageBlob S gs)) → now.journal.sections.held s ≡ h → section_bytes now.journal.sections (disk (dev.time mid)) s ≡ bytes_held h (disk (dev.time mid) (key_of now.journal.sections s)).content
          bytes_are h is = λ i. bytes_held (is i) (disk (dev.time mid) (key_of now.journal.sections s)).content

          kept_are : (o : Bool) (h : Option (PageBlob S gs)) → now.journal.unrecovered s ≡ o → now.journal.sections.held s ≡ h
              → kept_bytes seal size now (disk (dev.time mid)) s ≡ kept_of seal o h (disk (dev.time mid) (key_of now.journal.sections s)).content
          kept_are o h owes is = λ i. kept_of seal (owes i) (is i) (disk (dev.time mid) (key_of now.journal.sections s)).content

          over_it : (u : PageBlob S gs) → now.journal.sections.held s ≡ Some u → IsGoneOver now s
          over_it u is = record {
            begun = omega (arith, from, run.same.section);
            not_ahead = λ ahead. drained.last s (some_there (now.journal.sections.held s) u is) ahead;
            not_in = λ there. none_in now.place (λ r. r.section ≡ s) drained.between there;
          }

          go : (o : Bool) → now.journal.unrecovered s ≡ o → (h : Option (PageBlob S gs)) → now.journal.sections.held s ≡ h
              → (section_bytes now.journal.sections (disk (dev.time mid)) s ≡ kept_bytes seal size now (disk (dev.time mid)) s) × (length (kept_bytes seal size now (disk (dev.time mid)) s) % size ≡ 0)
          go o owes None is = (bytes_are None is ∙ sym (kept_are o None owes is), ap (λ (l : List ℕ). length l % size) (kept_are o None owes is) ∙ no_rest size)
          go false free (Some u) is = (
            bytes_are (Some u) is ∙ sym (kept_are false (Some u) free is),
            ap (λ (l : List ℕ). length l % size) (kept_are false (Some u) free is) ∙ ap (λ (n : ℕ). n % size) (bytes_length (shown u) (disk (dev.time mid) (key_of now.journal.sections s)).content)
                ∙ (run.over.disk t).sealed.whole s u is free,
          )
          go true owed (Some u) is =
              let gone = (run.over.disk t).gone_over fine s u is (over_it u is) (inl owed) in
              let settled = run.over.walk.owes_settled.settled s u is owed in
              let prefix = (settles_of seal (shown u) u.page_size (bytes_of (shown u) (disk (dev.time mid) (key_of now.journal.sections s)).content) (disk (dev.time mid) (key_of now.journal.sections s)) refl u.fit.begun
              (all_flushed (shown u) u.fit.within u.order settled) settled gone.0.holds).prefix in (
                bytes_are (Some u) is ∙ sym prefix ∙ sym (kept_are true (Some u) owed is),
                ap (λ (l : List ℕ). length l % size) (kept_are true (Some u) owed is ∙ prefix) ∙ ap (λ (n : ℕ). n % size) (bytes_length (shown u) (disk (dev.time mid) (key_of now.journal.sections s)).content) ∙ gone.1,
              )

    module _ (k : Lists F (PageBlob S gs)) (fine : now.failed ≡ false) (drained : IsDrained now) (sections : k.sections ≡ now.journal.sections) (owes_held : OwesHeld k) (owes_settled : OwesSettled k)
        (sealed : dev.Tells → AreSealed seal size k (disk (dev.time mid))) (unopened : dev.Tells → UnopenedLater k)
        (recovered : (s : ℕ) → (now.start_section < s) ⊎ ((now.start_position ≡ 0) × (now.start_section ≡ s)) → k.unrecovered s ≡ false)
        (unrecovered : (s : ℕ) → (s < now.start_section) ⊎ ((0 < now.start_position) × (now.start_section ≡ s)) → k.unrecovered s ≡ now.journal.unrecovered s)
        (lifted : (s : ℕ) → (now.start_section < s) ⊎ ((now.start_position ≡ 0) × (now.start_section ≡ s)) → k.floor_of s ≡ 0)
        (floors : (s : ℕ) → (s < now.start_section) ⊎ ((0 < now.start_position) × (now.start_section ≡ s)) → k.floor_of s ≡ now.journal.floor_of s) where
      going : now.ended ≡ false
      going = not_true now.ended (λ ended. (let failed = run.over.walk.ends ended in cc (failed, fine)))

      from_now : (s : ℕ) → IsFromStart w s → (now.start_section < s) ⊎ ((now.start_position ≡ 0) × (now.start_section ≡ s))
      from_now s from = elim from [ inl lt ↦ inl (omega (arith, lt, run.same.section)) | inr (at, zero) ↦ inr (run.same.position ∙ zero, run.same.section ∙ at) ]

      before_now : (s : ℕ) → IsBeforeStart w s → (s < now.start_section) ⊎ ((0 < now.start_position) × (now.start_section ≡ s))
      before_now s before = elim before [ inl lt ↦ inl (omega (arith, lt, run.same.section)) | inr (at, some) ↦ inr (omega (arith, some, run.same.position), run.same.section ∙ at) ]

      gone_through : IsGoneThrough g gives seal size spelling accepted refusal w dev.Tells k (dev.opened mid) (disk (dev.time old)) (disk (dev.time mid))
      gone_through = record {
        over = record {
          over = subst (λ (m : Sections F (PageBlob S gs)). IsOver g gives dev.Tells m (dev.opened mid) (disk (dev.time mid))) (sym sections) run.over.over;
          owes_held = owes_held;
          owes_settled = owes_settled;
          disk = sealed;
          unopened = unopened;
        };
        bounds = subst (λ (m : Sections F (PageBlob S gs)). SameBounds w.journal.sections m) (sym sections) run.same.bounds;
        held = λ s. subst (λ (m : Sections F (PageBlob S gs)). IsHeld m s ↔ IsHeld w.journal.sections s) (sym sections) (run.held s);
        unopened = λ s. ap (λ (m : Sections F (PageBlob S gs)). m.unopened s) sections ∙ run.known s;
        bytes = λ t s from. (let now_is = whole_now fine drained t s from in
            ap (λ (m : Sections F (PageBlob S gs)). section_bytes m (disk (dev.time mid)) s) sections ∙ now_is.0
            ∙ whole_items size (kept_bytes seal size w (disk (dev.time old)) s) (kept_bytes seal size now (disk (dev.time mid)) s) pos (same_kept t going s) now_is.1);
        same = λ s u v was is free. run.bytes s u v was (ap (λ (m : Sections F (PageBlob S gs)). m.held s) (sym sections) ∙ is) free;
        idle = λ s u v was is. idle_after size dev.Tells w now (disk (dev.time old)) (disk (dev.time mid)) run.over.walk run.same run.bytes s u v was (ap (λ (m : Sections F (PageBlob S gs)). m.held s) (sym sections) ∙ is);
        items = λ t s p l. elim (run.good t going s p l) [ inl good ↦ good | inr here ↦ absurd (none t s p here) ];
        recovered = λ s from. recovered s (from_now s from);
        lifted = λ s from. lifted s (from_now s from);
        unrecovered = λ s before. unrecovered s (before_now s before) ∙ run.same.unrecovered s;
        floors = λ s before. floors s (before_now s before) ∙ run.same.floors s;
      }

    pub drains_end : {T : Type 0} (see : T → Lists F (PageBlob S gs)) (r : Result T Error) → IfOk r (λ k. (see k).sections ≡ now.journal.sections) → IfOk r (λ k. OwesHeld (see k)) → IfOk r (λ k. OwesSettled (see k))
        → (dev.Tells → IfOk r (λ k. AreSealed seal size (see k) (disk (dev.time mid)))) → (dev.Tells → IfOk r (λ k. UnopenedLater (see k)))
        → IfOk r (λ k. (s : ℕ) → (now.start_section < s) ⊎ ((now.start_position ≡ 0) × (now.start_section ≡ s)) → (see k).unrecovered s ≡ false)
        → IfOk r (λ k. (s : ℕ) → (s < now.start_section) ⊎ ((0 < now.start_position) × (now.start_section ≡ s)) → (see k).unrecovered s ≡ now.journal.unrecovered s)
        → IfOk r (λ k. (s : ℕ) → (now.start_section < s) ⊎ ((now.start_position ≡ 0) × (now.start_section ≡ s)) → (see k).floor_of s ≡ 0)
        → IfOk r (λ k. (s : ℕ) → (s < now.start_section) ⊎ ((0 < now.start_position) × (now.start_section ≡ s)) → (see k).floor_of s ≡ now.journal.floor_of s)
        → (r ≡ Err ReplayFailed) ↔ ((now.failed ≡ true) ⊎ (IsDrained now → ⊥)) → OnErr r (r ≡ Err ReplayFailed)
        → Drains g gives seal size spelling accepted refusal w dev (seen see r) old mid
    drains_end see (Ok k) sections held settled sealed unopened recovered unrecovered lifted floors failed cause =
        let fine = not_true now.failed (λ bad. (let is = failed.1 (inl bad) in cc is)) in
        let drained : IsDrained now = elim done [ inl is ↦ is | inr ended ↦ (let bad = run.over.walk.ends ended in absurd (cc (bad, fine))) ] in
        record {
          moments = run.moments;
          ends = gone_through (see k) fine drained sections held settled sealed unopened recovered unrecovered lifted floors;
          refused = λ t x at. absurd (cc at);
          damage = λ t x at. absurd (cc at);
          start = λ t p at. absurd (cc at);
          damaged = λ t n at. absurd (cc at);
          once = λ s held. omega (arith, run.once s held);
          entries = run.entries;
          faults = run.faults;
          clean = sym run.failed ∙ fine;
          cause = tt;
        }
    drains_end see (Err e) sections held settled sealed unopened recovered unrecovered lifted floors failed cause =
        let bad : w.failed ≡ true = elim (failed.0 cause) [
          | inl is ↦ sym run.failed ∙ is
          | inr not ↦ elim done [ inl is ↦ absurd (not is) | inr ended ↦ sym run.failed ∙ run.over.walk.ends ended ]
        ] in
        record {
          moments = run.moments;
          ends = tt;
          refused = λ t x at. absurd (cc (at, cause));
          damage = λ t x at. absurd (cc (at, cause));
          start = λ t p at. absurd (cc (at, cause));
          damaged = λ t n at. absurd (cc (at, cause));
          once = λ s held. tt;
          entries = run.entries;
          faults = run.faults;
          clean = tt;
          cause = inl (cc cause, bad);
        }
