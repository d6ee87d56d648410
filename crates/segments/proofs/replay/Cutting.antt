-- A replay of a fixed journal cuts the section that it comes to the end of: the step that this is.
use Rattle.std.specs.Prelude.{◌≡◌, ◌⊎◌, ℕ, ◌+◌, ◌*◌, ◌/◌, ◌%◌, ◌^◌, ◌<◌, ◌≤◌, cond, Bool, true, false, List, length, take, IsTrue, IsSomeAnd, Option, None, Some, IsSome, Result, Ok, Err, OnErr}
use Rattle.std.proofs.Common.{inl, inr, refl, sym, ◌∙◌, ap, subst, arith, length-take}
use Rattle.std.proofs.lemmas.Nat.{mod-mul-add, div-mul-add, mul-le}
use Rattle.blob_device.specs.Disk.{Key, Blob, Disk, past}
use Rattle.blob_device.specs.Opened.{OpenedList, reads_of}
use Rattle.blob_device.specs.Timeline.{Timeline, disk, OnlyAt}
use Rattle.blob_device.specs.lemmas.Moments.{always_now}
use Rattle.sealed_pages.specs.declared.page_blob.PageBlob.{PageBlob}
use Rattle.sealed_pages.specs.Shown.{shown}
use Rattle.sealed_pages.specs.Buffer.{size_of, IsSealed}
use Rattle.sealed_pages.specs.ChanceSeal.{NoChanceSeal, Leaves, Sealing}
use Rattle.sealed_pages.specs.SealedPrefix.{Prefix, sealed_prefix}
use Rattle.sealed_pages.specs.lemmas.cutting.Calls.{prefix_whole}
use Rattle.segments.specs.lemmas.replay.Walks.{MayCut, key_new, later_one}
use Rattle.segments.specs.lemmas.replay.WalksOn.{moments_of, replaying_here}
use Rattle.value_codec.specs.declared.codec.Error as codec
use Rattle.section_manager.specs.declared.buffer.SectionBuffer as buffer
use Rattle.section_manager.specs.declared.journal.Damage.{Damage}
use Rattle.section_manager.specs.declared.journal.Error.{Error}
use Rattle.blob_device.specs.declared.runtime.RError.TheVariants.{InvalidChecksum}
use Rattle.section_manager.specs.declared.journal.Error.TheVariants.{ItemOutOfRange, Runtime}
use Rattle.section_manager.specs.Setting.{Setting}
use Rattle.section_manager.specs.Sections.{key_of, IsHeld}
use Rattle.section_manager.specs.Refusing.{HasFailed, HasDamage}
use Rattle.segments.specs.FixedLists.{size_held, section_size}
use Rattle.segments.specs.FixedReplay.{Place, Walk, SameItems, IsSameOrCut, IsWalk, HasNothingToCut, StaysStill, IsCutting, Replaying, EndsBelow, kept_bytes}
use Rattle.segments.specs.FixedStepping.{word, sections_ahead, bytes_ahead, standing, OnlySections, Touches, IsCutBack, EndsAt, Steps}
use Rattle.segments.proofs.replay.Counts.{count_here}
use Rattle.segments.proofs.replay.ErrorSteps.{cut_read, cut_other, cut_not_codec}
use Rattle.segments.proofs.replay.Kept.{whole_place}
use Rattle.segments.proofs.replay.Reading.{here, kept_owed, ahead_here, number_here, reached_here, behind_here}
use Rattle.segments.specs.lemmas.FixedOwed.{items_cut}
use Rattle.segments.proofs.replay.Steps.{Called, Answered, call_failed, call_ended, call_refused}
use Rattle.blob_device.proofs.general.Options.{none_in, same_some}

-- of a prefix of the bytes a crash leaves a prefix of them
leaves_whole : (seal : List ℕ → ℕ) (P : ℕ) (bytes : List ℕ) (n least : ℕ) (b : Blob) → Leaves seal P (take n bytes) least b → Leaves seal P bytes least b
leaves_whole seal P bytes n least b leaves left may = go left (leaves left may)
  where
    go : (l : Option (List ℕ)) → IsSomeAnd l (λ c. NoChanceSeal seal P (past b) c → Prefix seal P (take n bytes) least c) → IsSomeAnd l (λ c. NoChanceSeal seal P (past b) c → Prefix seal P bytes least c)
    go None has = has
    go (Some c) has = λ chance. prefix_whole seal P bytes n least c (has chance)

-- a cut that would be below the floor
pub ends_below : {F S : Type 0} {gs : _} (seal : List ℕ → ℕ) (size : ℕ) (w : Walk F (PageBlob S gs)) (r : Place) (d : Disk) (x : Damage) → x.section ≡ r.section → x.kept ≡ r.position * size → x.wanted ≡ w.journal.floor_of r.section → x.kept < x.wanted
    → IsTrue (w.journal.unrecovered r.section) → IsHeld w.journal.sections r.section → EndsAt seal size (standing w r) d r true → EndsBelow seal size (standing w r) d x
ends_below seal size w r d x at kept wanted less owed held last = record {
  owes = subst (λ (k : ℕ). IsTrue (w.journal.unrecovered k)) (sym at) owed;
  held = subst (IsHeld w.journal.sections) (sym at) held;
  kept = subst (λ (k : ℕ). x.kept ≡ length (kept_bytes seal size (standing w r) d k) / size * size) (sym at) (kept ∙ ap (λ (n : ℕ). n * size) (sym last.last));
  wanted = wanted ∙ ap w.journal.floor_of (sym at);
  less = less;
}

module _ {F S : Type 0} {gs : _} (seal : List ℕ → ℕ) (size : ℕ) (g : buffer.Ghosts (PageBlob S gs)) (gives : F → Setting) {told : Type 0} where
  -- What a cut of the section in which the replay stands asks of its buffer.
  module _ (w : Walk F (PageBlob S gs)) (r : Place) (before : OpenedList) (a : Timeline) (was : IsWalk g gives seal size told (standing w r) before (disk a)) (u : PageBlob S gs) (held : w.journal.sections.held r.section ≡ Some u) where
    mine : u ≡ (here seal size g gives w r before (disk a) was).0
    mine = same_some (w.journal.sections.held r.section) (here seal size g gives w r before (disk a) was).0 u (here seal size g gives w r before (disk a) was).1 held

    pub cut_within : r.position * size ≤ size_of (shown u)
    cut_within = subst (λ (x : PageBlob S gs). r.position * size ≤ size_of (shown x)) (sym mine) (here seal size g gives w r before (disk a) was).2.within

    pub cut_prefix : 1 ≤ size → told → IsTrue (w.journal.unrecovered r.section) → EndsAt seal size (standing w r) (disk a) r true → r.position * size ≤ length (sealed_prefix seal u.page_size (disk a (key_of w.journal.sections r.section)).content)
    cut_prefix pos t owed last = subst (λ (x : PageBlob S gs). r.position * size ≤ length (sealed_prefix seal x.page_size (disk a (key_of w.journal.sections r.section)).content)) (sym mine)
        (let at = whole_place size (length (kept_bytes seal size (standing w r) (disk a) r.section)) r.position pos last.last in
        omega (arith, at, ap length (kept_owed seal size g gives w r before (disk a) was owed)))

  -- A cut of the section in which the replay stands.
  module _ (w new : Walk F (PageBlob S gs)) (r : Place) (before after : OpenedList) (a b : Timeline) (was : IsWalk g gives seal size told (standing w r) before (disk a)) (none : w.place ≡ None)
      {T : Type 0} (result : Result T Error) (only : OnlySections w new) (touch : Touches g gives told result r.section w.journal.sections new.journal.sections before after a b)
      (owed : IsTrue (w.journal.unrecovered r.section)) (floor : w.journal.floor_of r.section ≤ r.position * size) (last : told → EndsAt seal size (standing w r) (disk a) r true) (pos : 1 ≤ size)
      (moments : told → (u : PageBlob S gs) → w.journal.sections.held r.section ≡ Some u
      → Sealing seal u.page_size (sealed_prefix seal u.page_size (disk a (key_of w.journal.sections r.section)).content) (r.position * size) (key_of w.journal.sections r.section) a b)
      {V : Type 0} (spelling : V → List ℕ) (accepted : V → Unit {0} → Type 0) (refusal : List ℕ → Unit {0} → Option codec.Error) (few many : ℕ) (le : few ≤ many) where
    abbrev s : ℕ
    s = r.section

    abbrev K : Key
    K = key_of w.journal.sections r.section

    abbrev u : PageBlob S gs
    u = (here seal size g gives w r before (disk a) was).0

    held : w.journal.sections.held r.section ≡ Some u
    held = (here seal size g gives w r before (disk a) was).1

    kept_count : told → length (sealed_prefix seal u.page_size (disk a K).content) / size * size ≡ r.position * size
    kept_count t = (λ i. length (sym (kept_owed seal size g gives w r before (disk a) was owed) i) / size * size) ∙ ap (λ (n : ℕ). n * size) (last t).last

    -- what a crash leaves at any moment
    cut_leaves : told → (x : Blob) → Leaves seal u.page_size (sealed_prefix seal u.page_size (disk a K).content) (r.position * size) x → MayCut seal size u (w.journal.floor_of r.section) (disk a K) x
    cut_leaves t x leaves = inr (omega (arith, floor, kept_count t), subst (λ (n : ℕ). Leaves seal u.page_size (sealed_prefix seal u.page_size (disk a K).content) n x) (sym (kept_count t)) leaves)

    not_free : w.journal.unrecovered r.section ≡ false → ⊥
    not_free free = cc (owed, free)

    -- there is something to cut off
    not_still : told → (y : PageBlob S gs) → w.journal.sections.held r.section ≡ Some y → StaysStill seal size (w.journal.unrecovered r.section) y (disk a K) → ⊥
    not_still t y is rest = elim rest.1 [
      | inl free ↦ not_free free
      | inr none ↦
          let none_u : HasNothingToCut seal size u (disk a K) = subst (λ (z : PageBlob S gs). HasNothingToCut seal size z (disk a K)) (same_some (w.journal.sections.held r.section) u y held is) none in
          let whole : size_of (shown u) / size * size + size_of (shown u) % size ≡ size_of (shown u) = omega (arith, pos) in
          let count : size_of (shown u) / size * size ≡ r.position * size = ap (λ (n : ℕ). n / size * size) (sym none_u.sealed) ∙ kept_count t in
          omega (arith, whole, count, none_u.whole, (last t).longer refl u held)
    ]

    none_new : new.place ≡ None
    none_new = only.place ∙ none

    numbers : (q : ℕ) → IsHeld w.journal.sections q → q < 2 ^ 64
    numbers q h = was.over.opened_list.number q (inl h)

    from_new : (n : ℕ) → new.next_section ≡ Some n → new.start_section ≤ n
    from_new n is = subst (λ (k : ℕ). k ≤ n) (sym only.section) (was.walk.from_start n (sym only.next ∙ is))

    called : Called {V = V} seal size g gives spelling accepted refusal told s (standing w r) new before after a b few many
    called = record {
      was = was;
      one = record {
        same = record { bounds = touch.bounds; unrecovered = only.unrecovered; floors = only.floors; section = only.section; position = only.position };
        small = number_here seal size g gives w r before a was;
        numbers = numbers;
        others = touch.others;
        blobs = touch.blobs;
      };
      behind = behind_here seal size g gives w r before a was new only.next;
      reached = reached_here seal size g gives w r before a was;
      over = touch.over;
      entries = touch.entries;
      moments = λ t. moments_of seal size (standing w r) (disk a) s (number_here seal size g gives w r before a was) numbers (reached_here seal size g gives w r before a was) a b
          (Leaves seal u.page_size (sealed_prefix seal u.page_size (disk a K).content) (r.position * size)) refl (moments t u held)
          (λ x leaves. replaying_here seal size (standing w r) (disk a) s (number_here seal size g gives w r before a was) numbers (reached_here seal size g gives w r before a was) x
          (λ y is free sealed. absurd (not_free free)) (λ y is free un. absurd (not_free free))
          (λ y is owes. subst (λ (z : PageBlob S gs). MayCut seal size z (w.journal.floor_of s) (disk a K) x) (sym (same_some (w.journal.sections.held s) u y held is)) (cut_leaves t x leaves))
          (λ y is rest. absurd (not_still t y is rest)));
      from = from_new;
      faults = le;
    }

    -- it is this section that is being cut
    cutting : IsCutting seal size told (standing w r) (disk a)
    cutting = record {
      section = r.section;
      near = inr refl;
      owes = owed;
      longer = λ t. (let count : length (kept_bytes seal size (standing w r) (disk a) r.section) / size * size ≡ r.position * size = ap (λ (n : ℕ). n * size) (last t).last in
          let at : section_size w.journal.sections r.section ≡ size_of (shown u) = ap (λ (o : Option (PageBlob S gs)). size_held o) held in
          omega (arith, count, at, (last t).longer refl u held));
      given = λ t x q l near. elim l.ahead [
        | inl here ↦ (let far : r.section < x = ahead_here seal size g gives w r before a was x here.1 in omega (arith, far, near))
        | inr there ↦ (let whole : q < length (kept_bytes seal size (standing w r) (disk a) r.section) / size = subst (λ (k : ℕ). q < length (kept_bytes seal size (standing w r) (disk a) k) / size) (sym there.0) l.whole in
            omega (arith, whole, there.1, (last t).last))
      ];
    }

    -- The cut failed, and the replay has ended.
    pub cut_failed : (x : Error) → new.ended ≡ true → OnErr {T = Unit {0}} (Err x) (((new.journal.sections.held s ≡ None) × IsSome (new.journal.sections.unopened s)) ⊎ ((new.journal.sections.held s ≡ w.journal.sections.held s) × (b ≡ a)))
        → (told → (k : ℕ) → x ≡ Runtime (InvalidChecksum k) → ⊥) → HasDamage {T = Option (ℕ × ℕ × V)} (Err x) ⊎ HasFailed {T = Option (ℕ × ℕ × V)} (Err x) few many
        → Steps seal size g gives spelling accepted refusal told (Err x) (standing w r) new before after a b few many
    cut_failed x ended lost sound cause = call_failed seal size g gives spelling accepted refusal told s (standing w r) new before after a b few many called (omega (arith, ap (λ (o : Option ℕ). sections_ahead o * (word + 1)) only.next, ap bytes_ahead none_new)) x lost (λ going owes. absurd (cc (going, ended))) none_new
        (λ t h. subst (λ (o : Option ℕ). IsSomeAnd o (λ n. n ≤ t)) only.next h)
        (inl (ended, elim cause [ inl page ↦ inl (page, λ t. sound t page.0 (let at = page.1 in cc at)) | inr failed ↦ inr failed ], cutting))
        (cut_other x x refl few many cause) (λ t k is. absurd (sound t k is)) (λ t e is. absurd (cut_not_codec x few many cause e is)) (cut_read x x refl few many cause)

    -- The section is cut.
    module _ (v : PageBlob S gs) (held_new : new.journal.sections.held r.section ≡ Some v) (going : w.ended ≡ false) (goes : new.ended ≡ false)
        (cut : IsCutBack seal told u (disk a (key_of w.journal.sections r.section)) v (disk b (key_of w.journal.sections r.section)) (r.position * size)) where
      sound : told → IsSealed seal (shown v) (disk b (key_of new.journal.sections r.section)) × (size_of (shown v) % size ≡ 0)
      sound t = (
        subst (λ (k : Key). IsSealed seal (shown v) (disk b k)) (sym (key_new seal size s (standing w r) new (disk a) (disk b) called.one s)) (cut.sealed t),
        (let whole : (r.position * size + 0) % size ≡ 0 = mod-mul-add r.position size 0 (omega (arith, pos)) in
            let same : size_of (shown v) ≡ r.position * size + 0 = omega (arith, cut.size) in
            ap (λ (n : ℕ). n % size) same ∙ whole),
      )

      -- the prefix of the new blob has as many whole items
      count_new : told → length (sealed_prefix seal v.page_size (disk b K).content) / size * size ≡ r.position * size
      count_new t =
          let long : r.position * size ≤ length (sealed_prefix seal u.page_size (disk a K).content) =
          (let at = whole_place size (length (kept_bytes seal size (standing w r) (disk a) s)) r.position pos (last t).last in omega (arith, at, ap length (kept_owed seal size g gives w r before (disk a) was owed))) in
          let same : length (sealed_prefix seal v.page_size (disk b K).content) ≡ r.position * size + 0 =
          ap (λ (P : ℕ). length (sealed_prefix seal P (disk b K).content)) cut.page_size ∙ ap length (cut.prefix t) ∙ omega (arith, length-take (r.position * size) (sealed_prefix seal u.page_size (disk a K).content), long) in
          ap (λ (n : ℕ). n / size * size) same ∙ ap (λ (n : ℕ). n * size) (div-mul-add r.position size 0 (omega (arith, pos)))

      -- the whole items are the same
      items : told → SameItems seal u.page_size size (disk a K) (disk b K)
      items t = items_cut seal u.page_size size (disk a K) (disk b K) r.position pos (ap (λ (l : List ℕ). length l / size) (sym (kept_owed seal size g gives w r before (disk a) was owed)) ∙ (last t).last)
          (cut_prefix w r before a was u held pos t owed (last t)) (cut.prefix t) (cut.there t) (cut.rests t)

      later : told → (q : Key) (x : Blob) → Replaying seal size new (disk b) q x → Replaying seal size (standing w r) (disk a) q x
      later t = later_one seal size s (standing w r) new (disk a) (disk b) called.one t called.reached
          (λ k near. elim near [
            | inl ahead ↦ inl (subst (λ (o : Option ℕ). IsSomeAnd o (λ n. n ≤ k)) only.next ahead)
            | inr there ↦ absurd (none_in new.place (λ x. x.section ≡ k) none_new there)
          ])
          v held_new
          (λ y is free sealed. absurd (not_free free)) (λ y is free un. absurd (not_free free))
          (λ y is owes x may. subst (λ (z : PageBlob S gs). MayCut seal size z (w.journal.floor_of s) (disk a K) x) (sym (same_some (w.journal.sections.held s) u y held is)) (elim may [
            | inl same ↦ cut_leaves t x (subst (Leaves seal u.page_size (sealed_prefix seal u.page_size (disk a K).content) (r.position * size)) (sym same)
                (always_now a b (OnlyAt K (disk a) (Leaves seal u.page_size (sealed_prefix seal u.page_size (disk a K).content) (r.position * size))) (moments t u held)).here)
            | inr leaves ↦ cut_leaves t x (leaves_whole seal u.page_size (sealed_prefix seal u.page_size (disk a K).content) (r.position * size) (r.position * size) x
                (shorter t x leaves.1))
          ]))
          (λ y is rest. absurd (not_still t y is rest))
        where
          shorter : told → (x : Blob) → Leaves seal v.page_size (sealed_prefix seal v.page_size (disk b K).content) (length (sealed_prefix seal v.page_size (disk b K).content) / size * size) x
              → Leaves seal u.page_size (take (r.position * size) (sealed_prefix seal u.page_size (disk a K).content)) (r.position * size) x
          shorter tells x leaves =
              let counted : Leaves seal v.page_size (sealed_prefix seal v.page_size (disk b K).content) (r.position * size) x =
              subst (λ (n : ℕ). Leaves seal v.page_size (sealed_prefix seal v.page_size (disk b K).content) n x) (count_new tells) leaves in
              let paged : Leaves seal u.page_size (sealed_prefix seal u.page_size (disk b K).content) (r.position * size) x =
              subst (λ (P : ℕ). Leaves seal P (sealed_prefix seal P (disk b K).content) (r.position * size) x) cut.page_size counted in
              subst (λ (l : List ℕ). Leaves seal u.page_size l (r.position * size) x) (cut.prefix tells) paged

      answered : Answered seal size g gives spelling accepted refusal told s (standing w r) new before after a b few many called v
      answered = record {
        again = record {
          held = held_new;
          not_ahead = λ h. (was.walk.come_to r refl).1 (subst (λ (o : Option ℕ). IsSomeAnd o (λ n. n ≤ r.section)) only.next h);
          settled = λ owes. cut.settled;
          sealed = λ t proven. absurd (not_free proven.checked);
          whole = λ t free. absurd (not_free free);
          gone_over = λ t out read. sound t;
          place = λ x is. absurd (cc (none_new, is));
          begun = λ there. absurd (none_in new.place (λ x. x.section ≡ s) none_new there);
        };
        failed = only.failed;
        ended = goes ∙ sym going;
        bytes = λ y is free. absurd (not_free free);
        cut = λ y is. subst (λ (z : PageBlob S gs). IsSameOrCut (w.journal.floor_of s) z v) (sym (same_some (w.journal.sections.held s) u y held is)) (record {
          page_size = cut.page_size;
          shorter = omega (arith, (here seal size g gives w r before (disk a) was).2.within, cut.size);
          reached = inr (omega (arith, floor, cut.size));
        });
        items = λ t y is owes. subst (λ (z : PageBlob S gs). SameItems seal z.page_size size (disk a K) (disk b K)) (sym (same_some (w.journal.sections.held s) u y held is)) (items t);
        later = later;
      }

      pub cut_ended : (r.section ≡ w.start_section → w.start_position ≤ r.position) → reads_of (after (key_of w.journal.sections r.section)) ≤ reads_of (before (key_of w.journal.sections r.section)) + 1 → Steps seal size g gives spelling accepted refusal told (Ok None) (standing w r) new before after a b few many
      cut_ended begun few_begun = call_ended seal size g gives spelling accepted refusal told s (standing w r) new before after a b few many called v answered r refl refl none_new only.next pos
          (λ at. omega (arith, mul-le w.start_position size r.position size (begun at) (omega arith), cut.size)) (λ t. (last t).last)
          (omega (arith, few_begun, count_here (standing w r) r u refl held, ap {B = ℕ} (λ (o : Bool). cond o 1 0) owed))

      pub cut_refused : r.section ≡ w.start_section → r.position < w.start_position → Steps seal size g gives spelling accepted refusal told (Err (ItemOutOfRange w.start_position)) (standing w r) new before after a b few many
      cut_refused = call_refused seal size g gives spelling accepted refusal told s (standing w r) new before after a b few many called v answered r refl refl none_new only.next pos (λ t. (last t).last)
