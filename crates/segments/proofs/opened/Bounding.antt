-- What an opening of a fixed journal up to a byte of a section leaves of the blobs, and which journal it gives.
use Rattle.std.proofs.Common.{◌≡◌, ◌≢◌, ◌⊎◌, ◌↔◌, inl, inr, ℕ, ◌+◌, ◌*◌, ◌/◌, ◌%◌, ◌^◌, ◌<◌, ◌≤◌, min, Bool, true, false, List, length, take, Option, None, Some, IsSome, IsSomeAnd, IsTrue, refl, sym, ◌∙◌, ap, subst, arith}
use Rattle.std.specs.Prelude.{eqb, cond}
use Rattle.std.proofs.Math.Nat.{div-mul-le_self}
use Rattle.std.proofs.lemmas.Bool.{cases_lt, cases_eq}
use Rattle.std.proofs.lemmas.Bool.Decides.{nat_tests}
use Rattle.std.proofs.lemmas.List.{ext_get_or, take-take, take_all}
use Rattle.blob_device.specs.Disk.{Key, Blob, Disk, MayHold, MayLeave, past, settled_at}
use Rattle.blob_device.specs.Opened.{OpenedList}
use Rattle.blob_device.specs.Timeline.{Timeline, disk, Always, Each}
use Rattle.blob_device.specs.lemmas.Moments.{always_now}
use Rattle.sealed_pages.specs.Buffer.{size_of, bytes_of}
use Rattle.sealed_pages.specs.ChanceSeal.{Leaves, NoChanceSeal}
use Rattle.sealed_pages.specs.SealedPrefix.{sealed_prefix, adopted_size, Prefix}
use Rattle.sealed_pages.specs.Shown.{shown}
use Rattle.sealed_pages.specs.View.{view}
use Rattle.sealed_pages.specs.declared.page_blob.PageBlob.{PageBlob}
use Rattle.sealed_pages.specs.declared.pages.Pages.{Pages}
use Rattle.sealed_pages.specs.lemmas.Reaching.{own_prefix}
use Rattle.sealed_pages.specs.lemmas.adopted.Adopt.{length-data_from}
use Rattle.sealed_pages.specs.lemmas.cutting.Truncating.{all_flushed, settles_of}
use Rattle.sealed_pages.specs.lemmas.memory.Holding.{bytes_length}
use Rattle.segments.specs.lemmas.adding.Write.{ArePages, bytes_here, size_here}
use Rattle.section_manager.specs.Lasting.{IsGoing, IsSettling}
use Rattle.section_manager.specs.Sealed.{adopted_bytes, is_unsettled}
use Rattle.section_manager.specs.Sections.{section_key, key_of, IsHeld, IsKnown, IsKeyOf, IsCut}
use Rattle.section_manager.specs.Setting.{Setting}
use Rattle.section_manager.specs.declared.buffer.SectionBuffer as buffer
use Rattle.section_manager.specs.declared.sealed.AppendFactory.{AppendFactory}
use Rattle.section_manager.specs.declared.unopened.Unopened.{Unopened}
use Rattle.section_manager.specs.declared.unopened.Unopened.TheVariants.{Section, Leftover}
use Rattle.section_manager.specs.lemmas.Keys.{key_injective}
use Rattle.segments.specs.FixedBounds.{whole_of, sealed_size, bounded_size, CuttingTail, IsTailCut, Bounding, IsOpenedWhole, IsOpenedCut}
use Rattle.segments.specs.FixedLists.{Lists, bytes_held, section_bytes, section_size, IsJournal}
use Rattle.blob_device.proofs.general.Numbers.{last_place}
use Rattle.blob_device.proofs.general.Options.{none_or_value, some_of, some_same, value_of}

-- a settled blob outlives every crash as it is
settled_content : (c x : List ℕ) → MayHold (settled_at c) x → x ≡ c
settled_content c x hold = ext_get_or 0 x c (omega (arith, hold.no_shorter, hold.no_longer)) (λ i lt. hold.kept i (omega (arith, lt, hold.no_longer)) tt)

module _ (seal : List ℕ → ℕ) (P : ℕ) where
  -- so does its sealed prefix
  pub settled_leaves : (c : List ℕ) (n : ℕ) → n ≤ length (sealed_prefix seal P c) → Leaves seal P (sealed_prefix seal P c) n (settled_at c)
  settled_leaves c n le left may = go left may
    where
      whole : (x : List ℕ) → x ≡ c → Prefix seal P (sealed_prefix seal P c) n x
      whole x same = subst (λ (y : List ℕ). Prefix seal P (sealed_prefix seal P c) n y) (sym same) (record {
        is = sym (take_all (length (sealed_prefix seal P c)) (sealed_prefix seal P c) (omega arith));
        no_shorter = le;
        no_longer = omega arith;
      })

      go : (l : Option (List ℕ)) → MayLeave (settled_at c) l → IsSomeAnd l (λ x. NoChanceSeal seal P (past (settled_at c)) x → Prefix seal P (sealed_prefix seal P c) n x)
      go None none = absurd (cc none)
      go (Some x) here = λ no. whole x (settled_content c x here.1)

  -- what adopting a blob finds begins with its sealed prefix
  pub adopted_prefix : (c : List ℕ) (n : ℕ) → n ≤ length (sealed_prefix seal P c) → take n (adopted_bytes seal P c) ≡ take n (sealed_prefix seal P c)
  adopted_prefix c n le =
      let own = own_prefix seal P c in
      sym (ap (λ (l : List ℕ). take n l) own.is ∙ take-take n (length (sealed_prefix seal P c)) (adopted_bytes seal P c) le)

self_eq : (n : ℕ) → eqb n n ≡ true
self_eq n = grind (arith, nat_tests)

-- whole items of whole items
pub whole_least : (size a b : ℕ) → 1 ≤ size → whole_of size (min (whole_of size a) b) ≡ whole_of size (min a b)
whole_least size a b pos =
    let count : a / size * size + a % size ≡ a = omega (arith, pos) in
    let rest : a % size < size = omega (arith, pos) in
    elim (cases_lt (a / size * size) b) [
      | inl lt ↦
          let low : min (a / size * size) b / size ≡ a / size = last_place size (min (a / size * size) b) (a / size) pos (omega (arith, lt)) (omega (arith, lt, pos)) in
          let high : min a b / size ≡ a / size = last_place size (min a b) (a / size) pos (omega (arith, lt, count)) (omega (arith, lt, count, rest)) in
          ap (λ (n : ℕ). n * size) (low ∙ sym high)
      | inr le ↦
          let same : min (a / size * size) b ≡ min a b = omega (arith, le, count) in
          ap (λ (n : ℕ). n / size * size) same
    ]

pub bounded_le : (b : Bool) (size end n : ℕ) → whole_of size (cond b (min end n) n) ≤ n
bounded_le true size end n = omega (arith, div-mul-le_self (min end n) size)
bounded_le false size end n = div-mul-le_self n size

only_section : (o : Option Unopened) → o ≢ Some Leftover → IsSome o → o ≡ Some Section
only_section None never has = absurd (cc has)
only_section (Some Section) never has = refl
only_section (Some Leftover) never has = absurd (never refl)

none_of : {T : Type 0} (o : Option T) → (IsSome o → ⊥) → o ≡ None
none_of None never = refl
none_of (Some v) never = absurd (never refl)

not_held : {T : Type 0} (o : Option T) → o ≡ None → IsSome o → ⊥
not_held o none has = absurd (cc (subst IsSome none has))

-- ---- while sections are opened

module _ (seal : List ℕ → ℕ) (P size : ℕ) (partition : List ℕ) (last end : ℕ) (small : last < 2 ^ 64) (from d : Disk) (each : Each (IsSettling partition last from) d) where
  pub later_same : (s : ℕ) → last < s → s < 2 ^ 64 → d (section_key partition s) ≡ from (section_key partition s)
  later_same s lt number = elim (each (section_key partition s)) [
    | inl same ↦ same
    | inr other ↦ absurd (let e = key_injective partition s other.0 number (omega (arith, other.1, small)) other.2 in omega (arith, e, other.1, lt))
  ]

  pub as_read : (s : ℕ) → (d (section_key partition s) ≡ from (section_key partition s)) ⊎ (d (section_key partition s) ≡ settled_at (from (section_key partition s)).content)
  as_read s = elim (each (section_key partition s)) [ inl same ↦ inl same | inr other ↦ inr other.4 ]

  -- what is as it was, or settled as it read, has all that is kept
  pub kept_read : (s : ℕ) (b : Blob) → (b ≡ from (section_key partition s)) ⊎ (b ≡ settled_at (from (section_key partition s)).content)
      → (b ≡ from (section_key partition s)) ⊎ Leaves seal P (sealed_prefix seal P (from (section_key partition s)).content)
      (bounded_size seal P size partition last end s (from (section_key partition s)).content) b
  kept_read s b is = elim is [
    | inl same ↦ inl same
    | inr settled ↦ inr (subst (λ (x : Blob). Leaves seal P (sealed_prefix seal P (from (section_key partition s)).content) (bounded_size seal P size partition last end s (from (section_key partition s)).content) x) (sym settled)
        (settled_leaves seal P (from (section_key partition s)).content (bounded_size seal P size partition last end s (from (section_key partition s)).content)
        (bounded_le (eqb s last) size end (length (sealed_prefix seal P (from (section_key partition s)).content)))))
  ]

  pub settling_bounding : Bounding seal P size partition last end from d
  settling_bounding = record {
    later = λ s lt there. inl (later_same s lt there.0);
    order = λ s t lt less there also. inl (later_same s lt there.0);
    kept = λ s le there. kept_read s (d (section_key partition s)) (as_read s);
    first = λ s le there. elim (as_read s) [ inl same ↦ inl same | inr settled ↦ inr (inl settled) ];
    others = λ q never. elim (each q) [
      | inl same ↦ same
      | inr other ↦ absurd (never other.0 (omega (arith, other.1, small), subst (λ (k : Key). IsTrue (from k).there) other.2 other.3) other.2)
    ];
  }

-- ---- once they are opened

-- The journal j has the sections of the partition p up to the last one, and knows of the later ones.
pub record Found {S : Type 0} {gs : _} (g : buffer.Ghosts (PageBlob S gs)) (gives : AppendFactory S → Setting) (told : Type 0) (j : Lists (AppendFactory S) (PageBlob S gs)) (last : ℕ) (a b : Timeline) (p : List ℕ) : Type 0 where
  pub held : told → (s : ℕ) → s < 2 ^ 64 → IsHeld j.sections s ↔ (IsTrue (disk a (section_key p s)).there × (s ≤ last))
  pub unopened : told → (s : ℕ) → s < 2 ^ 64 → (j.sections.unopened s ≡ Some Section) ↔ (IsTrue (disk a (section_key p s)).there × (last < s))
  pub bytes : told → (s : ℕ) → IsHeld j.sections s → section_bytes j.sections (disk b) s ≡ g.holds (gives j.sections.factory) (disk a (section_key p s)).content
  pub moments : told → Always a b (Each (IsSettling p last (disk a)))

module _ {S : Type 0} {gs : _} (seal : List ℕ → ℕ) (P size : ℕ) (pos : 1 ≤ size) (g : buffer.Ghosts (PageBlob S gs)) (laws : ArePages g seal) (gives : AppendFactory S → Setting) (told : Type 0)
    (j : Lists (AppendFactory S) (PageBlob S gs)) (last end n : ℕ) (small : last < 2 ^ 64) (a b : Timeline) (opened : OpenedList)
    (journal : IsJournal g gives seal size told j opened (disk b)) (found : Found g gives told j last a b j.sections.partition)
    (no_leftover : (s : ℕ) → j.sections.unopened s ≢ Some Leftover) (paged : (gives j.sections.factory).page_size ≡ P)
    (owes : (s : ℕ) → IsTrue (j.unrecovered s) ↔ (0 < section_size j.sections s))
    (cut_at : told → whole_of size end < section_size j.sections last → n ≡ sealed_size seal size (j.sections.held last) (disk b (key_of j.sections last)).content (whole_of size end))
    (short_at : section_size j.sections last ≤ whole_of size end → n ≡ whole_of size end) where
  page_of : (s : ℕ) (u : PageBlob S gs) → j.sections.held s ≡ Some u → u.page_size ≡ P
  page_of s u held = sym (laws.page_size u) ∙ ap (λ (x : Setting). x.page_size) (journal.over.opened_list.setting s u held) ∙ paged

  module _ (t : told) where
    settled_now : Each (IsSettling j.sections.partition last (disk a)) (disk b)
    settled_now = always_now a b (Each (IsSettling j.sections.partition last (disk a))) (found.moments t)

    known_there : (s : ℕ) → IsKnown j.sections s → (s < 2 ^ 64) × IsTrue (disk a (key_of j.sections s)).there
    known_there s known =
        let number = journal.over.opened_list.number s known in (
          number,
          elim known [
            | inl held ↦ ((found.held t s number).0 held).0
            | inr un ↦ ((found.unopened t s number).0 (only_section (j.sections.unopened s) (no_leftover s) un)).0
          ],
        )

    there_known : (s : ℕ) → s < 2 ^ 64 → IsTrue (disk a (key_of j.sections s)).there → IsKnown j.sections s
    there_known s number there = elim (cases_lt last s) [
      | inl lt ↦ inr (subst IsSome (sym ((found.unopened t s number).1 (there, lt))) refl)
      | inr le ↦ inl ((found.held t s number).1 (there, le))
    ]

    apart : (s : ℕ) → s < last → IsKeyOf j.sections (λ x. IsKnown j.sections x × (last ≤ x)) (key_of j.sections s) → ⊥
    apart s lt (x, doomed, same) = (let e = key_injective j.sections.partition s x (omega (arith, lt, small)) (journal.over.opened_list.number x doomed.0) same in omega (arith, e, lt, doomed.1))

    content_same : (s : ℕ) → (disk b (key_of j.sections s)).content ≡ (disk a (key_of j.sections s)).content
    content_same s = elim (as_read seal P size j.sections.partition last end small (disk a) (disk b) settled_now s) [
      | inl same ↦ ap (λ (x : Blob). x.content) same
      | inr settled ↦ ap (λ (x : Blob). x.content) settled
    ]

    -- where it is longer than what is kept, the last section is cut to that
    module _ (u : PageBlob S gs) (held : j.sections.held last ≡ Some u) (longer : whole_of size end < section_size j.sections last) where
      prefix_size : ℕ
      prefix_size = length (sealed_prefix seal P (disk a (key_of j.sections last)).content)

      n_is : n ≡ whole_of size (min (whole_of size end) (length (sealed_prefix seal P (disk a (key_of j.sections last)).content)))
      n_is = cut_at t longer
          ∙ ap (λ (o : Option (PageBlob S gs)). sealed_size seal size o (disk b (key_of j.sections last)).content (whole_of size end)) held
          ∙ ap (λ (Q : ℕ). whole_of size (min (whole_of size end) (length (sealed_prefix seal Q (disk b (key_of j.sections last)).content)))) (page_of last u held)
          ∙ ap (λ (x : List ℕ). whole_of size (min (whole_of size end) (length (sealed_prefix seal P x)))) (content_same last)

      n_within : n ≤ length (sealed_prefix seal P (disk a (key_of j.sections last)).content)
      n_within = omega (arith, n_is, div-mul-le_self (min (whole_of size end) (length (sealed_prefix seal P (disk a (key_of j.sections last)).content))) size)

      n_bound : n ≡ bounded_size seal P size j.sections.partition last end last (disk a (key_of j.sections last)).content
      n_bound = n_is ∙ whole_least size end (length (sealed_prefix seal P (disk a (key_of j.sections last)).content)) pos
          ∙ ap (λ (x : Bool). whole_of size (cond x (min end (length (sealed_prefix seal P (disk a (key_of j.sections last)).content))) (length (sealed_prefix seal P (disk a (key_of j.sections last)).content)))) (sym (self_eq last))

    -- a section that is cut was longer
    cut_longer : (u : PageBlob S gs) → j.sections.held last ≡ Some u → n < size_of (shown u) → whole_of size end < section_size j.sections last
    cut_longer u held lt = elim (cases_lt (whole_of size end) (section_size j.sections last)) [
      | inl longer ↦ longer
      | inr le ↦ absurd (omega (arith, short_at le, le, size_here j.sections last u held, lt))
    ]

    module _ (d : Disk) (is : CuttingTail seal j last n (disk b) d) where
      read_at : (s : ℕ) → d (key_of j.sections s) ≡ disk b (key_of j.sections s)
          → (d (key_of j.sections s) ≡ disk a (key_of j.sections s)) ⊎ (d (key_of j.sections s) ≡ settled_at (disk a (key_of j.sections s)).content)
      read_at s same = elim (as_read seal P size j.sections.partition last end small (disk a) (disk b) settled_now s) [ inl e ↦ inl (same ∙ e) | inr e ↦ inr (same ∙ e) ]

      cut_leaves : IsSomeAnd (j.sections.held last) (λ u. n < size_of (shown u))
          → Leaves seal P (sealed_prefix seal P (disk a (key_of j.sections last)).content) (bounded_size seal P size j.sections.partition last end last (disk a (key_of j.sections last)).content) (d (key_of j.sections last))
      cut_leaves longer =
          let u = value_of (j.sections.held last) (λ u. n < size_of (shown u)) longer in
          let long = cut_longer u.value u.is u.has in
          let prefix = is.prefix u.value u.is ((owes last).1 (omega (arith, size_here j.sections last u.value u.is, u.has))) in
          let paged = subst (λ (Q : ℕ). Leaves seal Q (sealed_prefix seal Q (disk b (key_of j.sections last)).content) (min n (length (sealed_prefix seal Q (disk b (key_of j.sections last)).content))) (d (key_of j.sections last)))
          (page_of last u.value u.is) prefix in
          let read = subst (λ (x : List ℕ). Leaves seal P (sealed_prefix seal P x) (min n (length (sealed_prefix seal P x))) (d (key_of j.sections last))) (content_same last) paged in
          let least : min n (length (sealed_prefix seal P (disk a (key_of j.sections last)).content)) ≡ n = omega (arith, n_within u.value u.is long) in
          subst (λ (m : ℕ). Leaves seal P (sealed_prefix seal P (disk a (key_of j.sections last)).content) m (d (key_of j.sections last))) (least ∙ n_bound u.value u.is long) read

      later_here : (s : ℕ) → last < s → s < 2 ^ 64 → disk b (key_of j.sections s) ≡ disk a (key_of j.sections s)
      later_here = later_same seal P size j.sections.partition last end small (disk a) (disk b) settled_now

      pub tail_bounding : Bounding seal P size j.sections.partition last end (disk a) d
      tail_bounding = record {
        later = λ s lt there. subst (λ (x : Blob). IsGoing x (d (key_of j.sections s))) (later_here s lt there.0) (is.later.each s (there_known s there.0 there.1, lt));
        order = λ s q lt less there also. elim (is.later.order q s (there_known q also.0 also.1, omega (arith, lt, less)) (there_known s there.0 there.1, lt) less) [
          | inl same ↦ inl (same ∙ later_here s lt there.0)
          | inr none ↦ inr none
        ];
        kept = λ s le there. elim (cases_eq s last) [
          | inr other ↦ kept_read seal P size j.sections.partition last end small (disk a) (disk b) settled_now s (d (key_of j.sections s)) (read_at s (is.others (key_of j.sections s) (apart s (omega (arith, le, other)))))
          | inl at ↦ subst (λ (x : ℕ). (d (key_of j.sections x) ≡ disk a (key_of j.sections x)) ⊎ Leaves seal P (sealed_prefix seal P (disk a (key_of j.sections x)).content)
              (bounded_size seal P size j.sections.partition last end x (disk a (key_of j.sections x)).content) (d (key_of j.sections x))) (sym at) (elim is.last [
                | inl same ↦ kept_read seal P size j.sections.partition last end small (disk a) (disk b) settled_now last (d (key_of j.sections last)) (read_at last same)
                | inr cut ↦ inr (cut_leaves cut.0)
              ])
        ];
        first = λ s le there. elim (cases_eq s last) [
          | inr other ↦ elim (read_at s (is.others (key_of j.sections s) (apart s (omega (arith, le, other))))) [ inl same ↦ inl same | inr settled ↦ inr (inl settled) ]
          | inl at ↦ elim is.last [
            | inl same ↦ elim (read_at s (subst (λ (x : ℕ). d (key_of j.sections x) ≡ disk b (key_of j.sections x)) (sym at) same)) [ inl e ↦ inl e | inr settled ↦ inr (inl settled) ]
            | inr cut ↦ inr (inr (λ q lt has. cut.1 q (there_known q has.0 has.1) lt))
          ]
        ];
        others = λ q never. is.others q (λ k. never k.0 (known_there k.0 k.1.0) k.2)
            ∙ (settling_bounding seal P size j.sections.partition last end small (disk a) (disk b) settled_now).others q never;
      }

  -- ---- the journal that is left

  module _ (c : Timeline) (k : Lists (AppendFactory S) (PageBlob S gs)) (entries : OpenedList) (cut : IsTailCut g gives seal size told j last n k entries (disk b) (disk c))
      (moments : told → Always b c (CuttingTail seal j last n (disk b))) (pages : Pages) (write_buffer : ℕ) (no_later : (s : ℕ) → IsSome (j.sections.unopened s) → last < s)
      (floors : (s : ℕ) → j.floor_of s ≡ 0) (idle : (s : ℕ) (u : PageBlob S gs) → j.sections.held s ≡ Some u → g.unsettled u ≡ false)
      (pages_are : j.sections.factory.pages ≡ pages) (write_buffer_is : j.sections.factory.write_buffer ≡ write_buffer) (floor : j.sections.floor ≡ 0) where
    key_k : (s : ℕ) → key_of k.sections s ≡ key_of j.sections s
    key_k s = ap (λ (p : List ℕ). section_key p s) cut.place.partition

    -- what the last section was cut to
    last_cut : (w : PageBlob S gs) → j.sections.held last ≡ Some w → (v : PageBlob S gs) × (k.sections.held last ≡ Some v) × IsCut g told n w v (disk b (key_of j.sections last)) (disk c (key_of j.sections last))
    last_cut w held = (let v = value_of (k.sections.held last) (λ v. IsCut g told n w v (disk b (key_of j.sections last)) (disk c (key_of j.sections last))) (cut.cut w held) in (v.value, v.is, v.has))

    held_same : (s : ℕ) → s ≤ last → IsHeld k.sections s ↔ IsHeld j.sections s
    held_same s le = elim (cases_eq s last) [
      | inr other ↦ (let same = (cut.earlier s (omega (arith, le, other))).held in (λ h. subst IsSome same h, λ h. subst IsSome (sym same) h))
      | inl at ↦ subst (λ (x : ℕ). IsHeld k.sections x ↔ IsHeld j.sections x) (sym at) (elim (none_or_value (j.sections.held last)) [
        | inl none ↦ (λ h. absurd (not_held (k.sections.held last) (cut.absent none) h), λ h. absurd (not_held (j.sections.held last) none h))
        | inr w ↦ (λ h. subst IsSome (sym w.1) refl, λ h. subst IsSome (sym (last_cut w.0 w.1).1) refl)
      ])
    ]

    held_up : (s : ℕ) → IsHeld k.sections s → s ≤ last
    held_up s held = elim (cases_lt last s) [ inl lt ↦ absurd (not_held (k.sections.held s) (cut.later s lt).held held) | inr le ↦ le ]

    last_idle : (u : PageBlob S gs) → k.sections.held last ≡ Some u → g.unsettled u ≡ false
    last_idle u held = elim (none_or_value (j.sections.held last)) [
      | inl none ↦ (let gone = cut.absent none in absurd (cc (gone, held)))
      | inr w ↦
          let v = last_cut w.0 w.1 in
          let same : v.0 ≡ u = some_same v.0 u (sym v.1 ∙ held) in
          subst (λ (x : PageBlob S gs). g.unsettled x ≡ false) same (elim (cases_lt n (g.byte_count w.0)) [
            | inl lt ↦ v.2.done lt
            | inr le ↦ subst (λ (x : PageBlob S gs). g.unsettled x ≡ false) (sym (v.2.same le)) (idle last w.0 w.1)
          ])
    ]

    idle_k : (s : ℕ) (u : PageBlob S gs) → k.sections.held s ≡ Some u → is_unsettled (shown u) ≡ false
    idle_k s u held = sym (laws.unsettled u) ∙ elim (cases_eq s last) [
      | inr other ↦ (let le = held_up s (subst IsSome (sym held) refl) in idle s u (sym (cut.earlier s (omega (arith, other, le))).held ∙ held))
      | inl at ↦ last_idle u (subst (λ (x : ℕ). k.sections.held x ≡ Some u) at held)
    ]

    known_k : (s : ℕ) → k.sections.unopened s ≡ None
    known_k s = elim (cases_lt last s) [
      | inl lt ↦ (cut.later s lt).unopened
      | inr le ↦ elim (cases_eq s last) [
        | inr other ↦ (cut.earlier s (omega (arith, le, other))).unopened ∙ none_of (j.sections.unopened s) (λ is. omega (arith, le, no_later s is))
        | inl at ↦ subst (λ (x : ℕ). k.sections.unopened x ≡ None) (sym at) (cut.unopened ∙ none_of (j.sections.unopened last) (λ is. omega (arith, no_later last is)))
      ]
    ]

    opened_whole : IsOpenedWhole seal P size j.sections.partition last end g gives told pages write_buffer k entries (disk a) (disk c)
    opened_whole = record {
      over = cut.over;
      held = λ t s number. elim (cases_lt last s) [
        | inl lt ↦ (λ h. absurd (not_held (k.sections.held s) (cut.later s lt).held h), λ x. absurd (omega (arith, lt, x.1)))
        | inr le ↦ (λ h. (found.held t s number).0 ((held_same s le).0 h), λ x. (held_same s le).1 ((found.held t s number).1 x))
      ];
      known = known_k;
      gone = λ t s lt there. cut.gone t s (there_known t s there.0 there.1) lt;
      floors = λ s. elim (cases_lt last s) [ inl lt ↦ cut.lifted s lt | inr le ↦ cut.floors s le ∙ floors s ];
      idle = idle_k;
      partition_is = cut.place.partition;
      pages_are = ap (λ (f : AppendFactory S). f.pages) cut.place.factory ∙ pages_are;
      write_buffer_is = ap (λ (f : AppendFactory S). f.write_buffer) cut.place.factory ∙ write_buffer_is;
      floor = cut.floor ∙ floor;
      ceiling = cut.ceiling;
    }

    module _ (t : told) where
      found_bytes : (s : ℕ) → IsHeld j.sections s → section_bytes j.sections (disk b) s ≡ adopted_bytes seal P (disk a (key_of j.sections s)).content
      found_bytes s held = found.bytes t s held ∙ laws.holds (gives j.sections.factory) (disk a (key_of j.sections s)).content
          ∙ ap (λ (Q : ℕ). adopted_bytes seal Q (disk a (key_of j.sections s)).content) paged

      found_size : (s : ℕ) → IsHeld j.sections s → section_size j.sections s ≡ adopted_size seal P (disk a (key_of j.sections s)).content
      found_size s held =
          let u = some_of (j.sections.held s) held in
          size_here j.sections s u.0 u.1 ∙ sym (bytes_length (shown u.0) (disk b (key_of j.sections s)).content)
          ∙ ap (λ (l : List ℕ). length l) (sym (bytes_here j.sections s u.0 u.1 (disk b)) ∙ found_bytes s held)
          ∙ length-data_from P (view (disk a (key_of j.sections s)).content) (adopted_size seal P (disk a (key_of j.sections s)).content) 0

      bytes_stay : (s : ℕ) → k.sections.held s ≡ j.sections.held s → disk c (key_of k.sections s) ≡ disk b (key_of j.sections s) → section_bytes k.sections (disk c) s ≡ section_bytes j.sections (disk b) s
      bytes_stay s held blob = λ i. bytes_held (held i) (blob i).content

      last_uncut : IsHeld j.sections last → adopted_size seal P (disk a (key_of j.sections last)).content ≤ whole_of size end → section_bytes k.sections (disk c) last ≡ adopted_bytes seal P (disk a (key_of j.sections last)).content
      last_uncut held le =
          let w = some_of (j.sections.held last) held in
          let v = last_cut w.0 w.1 in
          let small_size : section_size j.sections last ≤ whole_of size end = omega (arith, found_size last held, le) in
          let past_end : g.byte_count w.0 ≤ n = omega (arith, short_at small_size, small_size, size_here j.sections last w.0 w.1, laws.count w.0) in
          let now : k.sections.held last ≡ j.sections.held last = v.1 ∙ ap Some (v.2.same past_end) ∙ sym w.1 in
          bytes_stay last now (ap (disk c) (key_k last) ∙ v.2.stays t past_end) ∙ found_bytes last held

      uncut : (s : ℕ) → IsHeld k.sections s → (s < last) ⊎ (adopted_size seal P (disk a (key_of j.sections s)).content ≤ whole_of size end)
          → section_bytes k.sections (disk c) s ≡ adopted_bytes seal P (disk a (key_of j.sections s)).content
      uncut s held which = (let here = (held_same s (held_up s held)).0 held in elim (cases_lt s last) [
        | inl lt ↦ bytes_stay s (cut.earlier s lt).held
            (ap (disk c) (key_k s) ∙ (always_now b c (CuttingTail seal j last n (disk b)) (moments t)).others (key_of j.sections s) (apart t s lt)) ∙ found_bytes s here
        | inr ge ↦ elim which [
          | inl lt ↦ absurd (omega (arith, lt, ge))
          | inr le ↦
              let at : last ≡ s = omega (arith, ge, held_up s held) in
              subst (λ (x : ℕ). IsHeld j.sections x → adopted_size seal P (disk a (key_of j.sections x)).content ≤ whole_of size end
              → section_bytes k.sections (disk c) x ≡ adopted_bytes seal P (disk a (key_of j.sections x)).content) at last_uncut here le
        ]
      ])

      last_bytes : IsHeld k.sections last → whole_of size end < adopted_size seal P (disk a (key_of j.sections last)).content → section_bytes k.sections (disk c) last
          ≡ take (bounded_size seal P size j.sections.partition last end last (disk a (key_of j.sections last)).content) (sealed_prefix seal P (disk a (key_of j.sections last)).content)
      last_bytes held lt =
          let here = (held_same last (omega arith)).0 held in
          let w = some_of (j.sections.held last) here in
          let v = last_cut w.0 w.1 in
          let longer : whole_of size end < section_size j.sections last = omega (arith, lt, found_size last here) in
          bytes_here k.sections last v.0 v.1 (disk c)
          ∙ ap (λ (q : Key). bytes_of (shown v.0) (disk c q).content) (key_k last)
          ∙ sym (laws.bytes v.0 (disk c (key_of j.sections last)).content)
          ∙ v.2.bytes t
          ∙ ap (λ (l : List ℕ). take n l) (laws.bytes w.0 (disk b (key_of j.sections last)).content ∙ sym (bytes_here j.sections last w.0 w.1 (disk b)) ∙ found_bytes last here)
          ∙ adopted_prefix seal P (disk a (key_of j.sections last)).content n (n_within t w.0 w.1 longer)
          ∙ ap (λ (m : ℕ). take m (sealed_prefix seal P (disk a (key_of j.sections last)).content)) (n_bound t w.0 w.1 longer)

      -- the blob of a section that is not cut has its sealed prefix
      sealed_uncut : (s : ℕ) → IsHeld k.sections s → (s < last) ⊎ (adopted_size seal P (disk a (key_of j.sections s)).content ≤ whole_of size end)
          → sealed_prefix seal P (disk c (key_of j.sections s)).content ≡ sealed_prefix seal P (disk a (key_of j.sections s)).content
      sealed_uncut s held which = (let here = (held_same s (held_up s held)).0 held in elim (cases_lt s last) [
        | inl lt ↦ ap (λ (x : Blob). sealed_prefix seal P x.content) ((always_now b c (CuttingTail seal j last n (disk b)) (moments t)).others (key_of j.sections s) (apart t s lt))
            ∙ ap (λ (l : List ℕ). sealed_prefix seal P l) (content_same t s)
        | inr ge ↦ elim which [
          | inl lt ↦ absurd (omega (arith, lt, ge))
          | inr le ↦
              let at : last ≡ s = omega (arith, ge, held_up s held) in
              subst (λ (x : ℕ). IsHeld j.sections x → adopted_size seal P (disk a (key_of j.sections x)).content ≤ whole_of size end
              → sealed_prefix seal P (disk c (key_of j.sections x)).content ≡ sealed_prefix seal P (disk a (key_of j.sections x)).content) at sealed_still here le
        ]
      ])
        where
          sealed_still : IsHeld j.sections last → adopted_size seal P (disk a (key_of j.sections last)).content ≤ whole_of size end
              → sealed_prefix seal P (disk c (key_of j.sections last)).content ≡ sealed_prefix seal P (disk a (key_of j.sections last)).content
          sealed_still here le =
              let w = some_of (j.sections.held last) here in
              let v = last_cut w.0 w.1 in
              let small_size : section_size j.sections last ≤ whole_of size end = omega (arith, found_size last here, le) in
              let past_end : g.byte_count w.0 ≤ n = omega (arith, short_at small_size, small_size, size_here j.sections last w.0 w.1, laws.count w.0) in
              ap (λ (x : Blob). sealed_prefix seal P x.content) (v.2.stays t past_end) ∙ ap (λ (l : List ℕ). sealed_prefix seal P l) (content_same t last)

      -- that of one that is cut has what is kept
      sealed_last : IsHeld k.sections last → whole_of size end < adopted_size seal P (disk a (key_of j.sections last)).content → sealed_prefix seal P (disk c (key_of j.sections last)).content
          ≡ take (bounded_size seal P size j.sections.partition last end last (disk a (key_of j.sections last)).content) (sealed_prefix seal P (disk a (key_of j.sections last)).content)
      sealed_last held lt =
          let here = (held_same last (omega arith)).0 held in
          let w = some_of (j.sections.held last) here in
          let v = last_cut w.0 w.1 in
          let longer : whole_of size end < section_size j.sections last = omega (arith, lt, found_size last here) in
          let shorter : n < g.byte_count w.0 = omega (
            arith,
            n_is t w.0 w.1 longer,
            div-mul-le_self (min (whole_of size end) (length (sealed_prefix seal P (disk a (key_of j.sections last)).content))) size,
            longer,
            size_here j.sections last w.0 w.1,
            laws.count w.0,
          ) in
          let settled : v.0.settled ≡ size_of (shown v.0) = sym (laws.settled v.0) ∙ v.2.settled shorter ∙ (let e : n ≡ size_of (shown v.0) = omega (arith, v.2.size, laws.count v.0, shorter) in e) in
          let settles = settles_of seal (shown v.0) v.0.page_size (bytes_of (shown v.0) (disk c (key_of j.sections last)).content) (disk c (key_of j.sections last)) refl v.0.fit.begun
          (all_flushed (shown v.0) v.0.fit.within v.0.order settled) settled (laws.whole v.0 (disk c (key_of j.sections last)) (v.2.mended t shorter)).holds in
          let page : v.0.page_size ≡ P = sym (laws.page_size v.0) ∙ ap (λ (x : Setting). x.page_size) (cut.over.over.opened_list.setting last v.0 v.1) ∙ ap (λ (f : AppendFactory S). (gives f).page_size) cut.place.factory ∙ paged in
          ap (λ (Q : ℕ). sealed_prefix seal Q (disk c (key_of j.sections last)).content) (sym page) ∙ settles.prefix
          ∙ ap (λ (q : Key). bytes_of (shown v.0) (disk c q).content) (sym (key_k last)) ∙ sym (bytes_here k.sections last v.0 v.1 (disk c)) ∙ last_bytes held lt

      owed_k : (s : ℕ) → IsTrue (k.unrecovered s) ↔ (IsHeld k.sections s × (0 < adopted_size seal P (disk a (key_of j.sections s)).content))
      owed_k s = elim (cases_lt last s) [
        | inl lt ↦ (λ is. (let no = cut.recovered s lt in absurd (cc (is, no))), λ x. absurd (not_held (k.sections.held s) (cut.later s lt).held x.0))
        | inr le ↦ (
          λ is.
              let was : IsTrue (j.unrecovered s) = sym (cut.unrecovered s le) ∙ is in
              let held = journal.owes_held.held s was in
              ((held_same s le).1 held, omega (arith, (owes s).0 was, found_size s held)),
          λ x. cut.unrecovered s le ∙ (owes s).1 (omega (arith, x.1, found_size s ((held_same s le).0 x.0))),
        )
      ]

    pub opened_cut : IsOpenedCut seal P size j.sections.partition last end g gives told pages write_buffer k entries (disk a) (disk c)
    opened_cut = record { whole = opened_whole; bytes = uncut; cut = last_bytes; sealed = sealed_uncut; sealed_cut = sealed_last; unrecovered = owed_k }
