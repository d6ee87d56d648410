-- A journal that was opened up to a byte of a section, once it was gone over: what is left of its blobs, and what it has.
use Rattle.std.proofs.Common.{◌≡◌, ◌⊎◌, inl, inr, ℕ, ◌+◌, ◌*◌, ◌/◌, ◌%◌, ◌^◌, ◌<◌, ◌≤◌, min, Bool, true, false, List, length, take, Option, None, Some, IsSomeAnd, IsTrue, refl, sym, ◌∙◌, ap, subst, arith, length-take}
use Rattle.std.specs.Prelude.{eqb, cond}
use Rattle.std.proofs.Math.Nat.{div-mul-le_self}
use Rattle.std.proofs.lemmas.Bool.{cases_lt, cases_eq}
use Rattle.std.proofs.lemmas.Bool.Decides.{nat_tests}
use Rattle.std.proofs.lemmas.List.{take-take}
use Rattle.std.proofs.lemmas.Nat.{le-div}
use Rattle.blob_device.specs.Disk.{Blob, Disk, past}
use Rattle.blob_device.specs.Opened.{OpenedList}
use Rattle.blob_device.specs.Timeline.{Each}
use Rattle.sealed_pages.specs.Buffer.{bytes_of}
use Rattle.sealed_pages.specs.ChanceSeal.{Leaves, NoChanceSeal}
use Rattle.sealed_pages.specs.SealedPrefix.{sealed_prefix, adopted_size, Prefix}
use Rattle.sealed_pages.specs.Shown.{shown}
use Rattle.sealed_pages.specs.View.{view}
use Rattle.sealed_pages.specs.declared.page_blob.PageBlob.{PageBlob}
use Rattle.sealed_pages.specs.declared.pages.Pages.{Pages}
use Rattle.sealed_pages.specs.lemmas.Reaching.{prefix_size}
use Rattle.sealed_pages.specs.lemmas.adopted.Adopt.{length-data_from}
use Rattle.segments.specs.lemmas.adding.Write.{ArePages, bytes_here}
use Rattle.value_codec.specs.declared.codec.Error as codec
use Rattle.section_manager.specs.Lasting.{IsGoing}
use Rattle.section_manager.specs.SealedLaws.{all_settled}
use Rattle.section_manager.specs.Sections.{key_of, IsHeld}
use Rattle.section_manager.specs.Setting.{Setting}
use Rattle.section_manager.specs.declared.buffer.SectionBuffer as buffer
use Rattle.section_manager.specs.declared.sealed.AppendFactory.{AppendFactory}
use Rattle.section_manager.specs.lemmas.Keys.{key_injective}
use Rattle.segments.specs.FixedBounds.{whole_of, bounded_size, Bounding, IsOpenedCut, IsOpenedAtMost, IsRefusedItem}
use Rattle.segments.specs.FixedDraining.{IsFromStart, IsGoneThrough, IsFirstRefused}
use Rattle.segments.specs.FixedItems.{item_at, IsItem}
use Rattle.segments.specs.FixedLists.{Lists}
use Rattle.segments.specs.FixedReplay.{Walk, IsLeft, Replaying, kept_of, kept_bytes}
use Rattle.segments.proofs.opened.Bounding.{bounded_le}
use Rattle.segments.proofs.opened.BoundLemmas.{whole_whole}
use Rattle.segments.proofs.replay.DrainLemmas.{same_item}
use Rattle.blob_device.proofs.general.Numbers.{times_more, times_next}
use Rattle.blob_device.proofs.general.Options.{some_of, some_there}

-- what leaves a prefix of the first bytes of a list leaves one of the list
leaves_prefix_on : (seal : List ℕ → ℕ) (P m least : ℕ) (bytes : List ℕ) (b : Blob) → m ≤ length bytes → Leaves seal P (take m bytes) least b → Leaves seal P bytes least b
leaves_prefix_on seal P m least bytes b le leaves left may = go left (leaves left may)
  where
    go : (l : Option (List ℕ)) → IsSomeAnd l (λ c. NoChanceSeal seal P (past b) c → Prefix seal P (take m bytes) least c) → IsSomeAnd l (λ c. NoChanceSeal seal P (past b) c → Prefix seal P bytes least c)
    go None has = has
    go (Some c) has = λ no.
        let p = has no in
        let within : length (sealed_prefix seal P c) ≤ m = omega (arith, p.no_longer, length-take m bytes) in
        record {
          is = p.is ∙ take-take (length (sealed_prefix seal P c)) m bytes within;
          no_shorter = p.no_shorter;
          no_longer = omega (arith, within, le);
        }

parts : (size n : ℕ) → 1 ≤ size → n / size * size + n % size ≡ n
parts size n pos = omega (arith, pos)

-- whole items are whole
whole_again : (size n : ℕ) → 1 ≤ size → whole_of size (whole_of size n) ≡ whole_of size n
whole_again size n pos = omega (arith, parts size (whole_of size n) pos, whole_whole size n pos)

-- The first bytes of a section are those that are kept, and it has no whole item more.
pub record KeepsWhole (size bound : ℕ) (kept prefix : List ℕ) : Type 0 where
  pub count : whole_of size (length kept) ≡ bound
  pub same : take bound kept ≡ take bound prefix

keeps_list : (size bound : ℕ) (kept prefix xs : List ℕ) → kept ≡ xs → KeepsWhole size bound xs prefix → KeepsWhole size bound kept prefix
keeps_list size bound kept prefix xs is has = subst (λ (l : List ℕ). KeepsWhole size bound l prefix) (sym is) has

other_eq : (m n : ℕ) → (m ≡ n → ⊥) → eqb m n ≡ false
other_eq m n other = grind (arith, nat_tests)

self_eq : (n : ℕ) → eqb n n ≡ true
self_eq n = grind (arith, nat_tests)

-- the replay of a journal from its start on
abbrev pub begun : {F B : Type 0} → Lists F B → Walk F B
begun j = record { journal = j; start_section = 0; start_position = 0; next_section = Some 0; place = None; failed = false; ended = false }

module _ {S : Type 0} {gs : _} (seal : List ℕ → ℕ) (P size : ℕ) (pos : 1 ≤ size) (g : buffer.Ghosts (PageBlob S gs)) (laws : ArePages g seal) (gives : AppendFactory S → Setting) (told : Type 0)
    (last end : ℕ) (small : last < 2 ^ 64) (pages : Pages) (write_buffer : ℕ) (j : Lists (AppendFactory S) (PageBlob S gs)) (opened : OpenedList) (from mid : Disk)
    (cut : IsOpenedCut seal P size j.sections.partition last end g gives told pages write_buffer j opened from mid) (paged : (gives j.sections.factory).page_size ≡ P) where
  page_of : (s : ℕ) (u : PageBlob S gs) → j.sections.held s ≡ Some u → u.page_size ≡ P
  page_of s u held = sym (laws.page_size u) ∙ ap (λ (x : Setting). x.page_size) (cut.whole.over.over.opened_list.setting s u held) ∙ paged

  -- how many bytes are kept of a section
  abbrev bound : ℕ → ℕ
  bound s = bounded_size seal P size j.sections.partition last end s (from (key_of j.sections s)).content

  module _ (t : told) where
    there_of : (s : ℕ) → IsHeld j.sections s → ((s < 2 ^ 64) × IsTrue (from (key_of j.sections s)).there) × (s ≤ last)
    there_of s held =
        let number = cut.whole.over.over.opened_list.number s (inl held) in
        let is = (cut.whole.held t s number).0 held in
        ((number, is.0), is.1)

    -- of a section that was not cut
    bound_uncut : (s : ℕ) → s ≤ last → (s < last) ⊎ (adopted_size seal P (from (key_of j.sections s)).content ≤ whole_of size end) → whole_of size (length (sealed_prefix seal P (from (key_of j.sections s)).content)) ≡ bound s
    bound_uncut s le which = elim (cases_eq s last) [
      | inr other ↦ ap (λ (x : Bool). whole_of size (cond x (min end (length (sealed_prefix seal P (from (key_of j.sections s)).content))) (length (sealed_prefix seal P (from (key_of j.sections s)).content)))) (sym (other_eq s last other))
      | inl at ↦
          let short : length (sealed_prefix seal P (from (key_of j.sections s)).content) ≤ end = elim which [
            | inl lt ↦ absurd (omega (arith, lt, at))
            | inr fits ↦ omega (arith, fits, prefix_size seal P (from (key_of j.sections s)).content, div-mul-le_self end size)
          ] in
          let least : length (sealed_prefix seal P (from (key_of j.sections s)).content) ≡ min end (length (sealed_prefix seal P (from (key_of j.sections s)).content)) = omega (arith, short) in
          ap (λ (m : ℕ). whole_of size m) least
          ∙ ap (λ (x : Bool). whole_of size (cond x (min end (length (sealed_prefix seal P (from (key_of j.sections s)).content))) (length (sealed_prefix seal P (from (key_of j.sections s)).content))))
          (sym (subst (λ (m : ℕ). eqb s m ≡ true) at (self_eq s)))
    ]

    -- the last section, or one before, was cut or not
    cut_or_not : (s : ℕ) → s ≤ last → ((s < last) ⊎ (adopted_size seal P (from (key_of j.sections s)).content ≤ whole_of size end))
        ⊎ ((s ≡ last) × (whole_of size end < adopted_size seal P (from (key_of j.sections last)).content))
    cut_or_not s le = elim (cases_lt s last) [
      | inl lt ↦ inl (inl lt)
      | inr ge ↦
          let at : s ≡ last = omega (arith, le, ge) in
          elim (cases_lt (whole_of size end) (adopted_size seal P (from (key_of j.sections last)).content)) [
            | inl longer ↦ inr (at, longer)
            | inr fits ↦ inl (inr (subst (λ (x : ℕ). adopted_size seal P (from (key_of j.sections x)).content ≤ whole_of size end) (sym at) fits))
          ]
    ]

    bound_within : (s : ℕ) → bound s ≤ length (sealed_prefix seal P (from (key_of j.sections s)).content)
    bound_within s = bounded_le (eqb s last) size end (length (sealed_prefix seal P (from (key_of j.sections s)).content))

    bound_whole : (s : ℕ) → whole_of size (bound s) ≡ bound s
    bound_whole s = whole_again size (cond (eqb s last) (min end (length (sealed_prefix seal P (from (key_of j.sections s)).content))) (length (sealed_prefix seal P (from (key_of j.sections s)).content))) pos

    -- what the sealed prefix of its blob is
    abbrev SealedAs : ℕ → List ℕ → Type 0
    SealedAs s l = (l ≡ sealed_prefix seal P (from (key_of j.sections s)).content) × (whole_of size (length (sealed_prefix seal P (from (key_of j.sections s)).content)) ≡ bound s)
        ⊎ (l ≡ take (bound s) (sealed_prefix seal P (from (key_of j.sections s)).content))

    sealed_as : (s : ℕ) → IsHeld j.sections s → SealedAs s (sealed_prefix seal P (mid (key_of j.sections s)).content)
    sealed_as s held = (let le = (there_of s held).1 in elim (cut_or_not s le) [
      | inl which ↦ inl (cut.sealed t s held which, bound_uncut s le which)
      | inr longer ↦ inr (subst (λ (x : ℕ). IsHeld j.sections x → sealed_prefix seal P (mid (key_of j.sections x)).content ≡ take (bound x) (sealed_prefix seal P (from (key_of j.sections x)).content)) (sym longer.0)
          (λ last_held. cut.sealed_cut t last_held longer.1) held)
    ])

    keeps_prefix : (s : ℕ) → IsHeld j.sections s → KeepsWhole size (bound s) (sealed_prefix seal P (mid (key_of j.sections s)).content) (sealed_prefix seal P (from (key_of j.sections s)).content)
    keeps_prefix s held = elim (sealed_as s held) [
      | inl uncut ↦ record {
        count = ap (λ (l : List ℕ). whole_of size (length l)) uncut.0 ∙ uncut.1;
        same = ap (λ (l : List ℕ). take (bound s) l) uncut.0;
      }
      | inr is ↦
          let long : length (take (bound s) (sealed_prefix seal P (from (key_of j.sections s)).content)) ≡ bound s = omega (arith, length-take (bound s) (sealed_prefix seal P (from (key_of j.sections s)).content), bound_within s) in
          record {
            count = ap (λ (l : List ℕ). whole_of size (length l)) is ∙ ap (λ (n : ℕ). whole_of size n) long ∙ bound_whole s;
            same = ap (λ (l : List ℕ). take (bound s) l) is ∙ take-take (bound s) (bound s) (sealed_prefix seal P (from (key_of j.sections s)).content) (omega arith);
          }
    ]

    -- a section that owes no replay had no bytes
    free_none : (s : ℕ) → IsHeld j.sections s → j.unrecovered s ≡ false → adopted_size seal P (from (key_of j.sections s)).content ≡ 0
    free_none s held free = elim (cases_lt 0 (adopted_size seal P (from (key_of j.sections s)).content)) [
      | inl some ↦ (let owed = (cut.unrecovered t s).1 (held, some) in absurd (cc (owed, free)))
      | inr none ↦ omega (arith, none)
    ]

    free_keeps : (s : ℕ) (u : PageBlob S gs) → j.sections.held s ≡ Some u → j.unrecovered s ≡ false
        → KeepsWhole size (bound s) (bytes_of (shown u) (mid (key_of j.sections s)).content) (sealed_prefix seal P (from (key_of j.sections s)).content)
    free_keeps s u held free =
        let here : IsHeld j.sections s = some_there (j.sections.held s) u held in
        let zero = free_none s here free in
        let fits : adopted_size seal P (from (key_of j.sections s)).content ≤ whole_of size end = omega (arith, zero) in
        let none : length (bytes_of (shown u) (mid (key_of j.sections s)).content) ≡ 0 =
        ap (λ (l : List ℕ). length l) (sym (bytes_here j.sections s u held mid) ∙ cut.bytes t s here (inr fits))
        ∙ length-data_from P (view (from (key_of j.sections s)).content) (adopted_size seal P (from (key_of j.sections s)).content) 0 ∙ zero in
        let least : bound s ≡ 0 = omega (arith, bound_within s, prefix_size seal P (from (key_of j.sections s)).content, zero) in
        record {
          count = omega (arith, none, least, div-mul-le_self (length (bytes_of (shown u) (mid (key_of j.sections s)).content)) size);
          same = ap (λ (m : ℕ). take m (bytes_of (shown u) (mid (key_of j.sections s)).content)) least ∙ sym (ap (λ (m : ℕ). take m (sealed_prefix seal P (from (key_of j.sections s)).content)) least);
        }

    -- the bytes from which a replay gives a section's items
    kept_whole : (s : ℕ) → IsHeld j.sections s → KeepsWhole size (bound s) (kept_bytes seal size (begun j) mid s) (sealed_prefix seal P (from (key_of j.sections s)).content)
    kept_whole s held = (let u = some_of (j.sections.held s) held in go u.0 u.1 (j.unrecovered s) refl)
      where
        kept_are : (u : PageBlob S gs) → j.sections.held s ≡ Some u → (o : Bool) → j.unrecovered s ≡ o → kept_bytes seal size (begun j) mid s ≡ kept_of seal o (Some u) (mid (key_of j.sections s)).content
        kept_are u is o owes = λ i. kept_of seal (owes i) (is i) (mid (key_of j.sections s)).content

        go : (u : PageBlob S gs) → j.sections.held s ≡ Some u → (o : Bool) → j.unrecovered s ≡ o → KeepsWhole size (bound s) (kept_bytes seal size (begun j) mid s) (sealed_prefix seal P (from (key_of j.sections s)).content)
        go u is false free = keeps_list size (bound s) (kept_bytes seal size (begun j) mid s) (sealed_prefix seal P (from (key_of j.sections s)).content) (bytes_of (shown u) (mid (key_of j.sections s)).content)
            (kept_are u is false free) (free_keeps s u is free)
        go u is true owed = keeps_list size (bound s) (kept_bytes seal size (begun j) mid s) (sealed_prefix seal P (from (key_of j.sections s)).content) (sealed_prefix seal P (mid (key_of j.sections s)).content)
            (kept_are u is true owed ∙ ap (λ (Q : ℕ). sealed_prefix seal Q (mid (key_of j.sections s)).content) (page_of s u is)) (keeps_prefix s held)

    -- each kept item is as before
    item_kept : (s p : ℕ) → IsHeld j.sections s → (p + 1) * size ≤ bound s → item_at size (kept_bytes seal size (begun j) mid s) p ≡ item_at size (sealed_prefix seal P (from (key_of j.sections s)).content) p
    item_kept s p held within = same_item size (bound s) p (kept_bytes seal size (begun j) mid s) (sealed_prefix seal P (from (key_of j.sections s)).content) (kept_whole s held).same (omega (arith, within, times_next p size))

    -- ---- while it is gone over

    -- no blob of a later section changes
    later_still : (d : Disk) → Each (Replaying seal size (begun j) mid) d → (s : ℕ) → last < s → s < 2 ^ 64 → d (key_of j.sections s) ≡ mid (key_of j.sections s)
    later_still d each s lt number = (each (key_of j.sections s)).others (λ k.
        let there = there_of k.0 k.1.0 in
        let e = key_injective j.sections.partition s k.0 number there.0.0 k.2 in
        omega (arith, e, there.1, lt))

    module _ (d : Disk) (each : Each (Replaying seal size (begun j) mid) d) (before : Bounding seal P size j.sections.partition last end from mid) where
      later_same : (s : ℕ) → last < s → s < 2 ^ 64 → d (key_of j.sections s) ≡ mid (key_of j.sections s)
      later_same = later_still d each

      -- what a cut to the whole items of its sealed prefix leaves
      cut_keeps : (s : ℕ) (u : PageBlob S gs) → j.sections.held s ≡ Some u → (b : Blob)
          → Leaves seal u.page_size (sealed_prefix seal u.page_size (mid (key_of j.sections s)).content) (length (sealed_prefix seal u.page_size (mid (key_of j.sections s)).content) / size * size) b
          → Leaves seal P (sealed_prefix seal P (from (key_of j.sections s)).content) (bound s) b
      cut_keeps s u held b leaves =
          let here : IsHeld j.sections s = some_there (j.sections.held s) u held in
          let paged_leaves = subst (λ (Q : ℕ). Leaves seal Q (sealed_prefix seal Q (mid (key_of j.sections s)).content) (length (sealed_prefix seal Q (mid (key_of j.sections s)).content) / size * size) b) (page_of s u held) leaves in
          let least = subst (λ (m : ℕ). Leaves seal P (sealed_prefix seal P (mid (key_of j.sections s)).content) m b) (keeps_prefix s here).count paged_leaves in
          elim (sealed_as s here) [
            | inl uncut ↦ subst (λ (l : List ℕ). Leaves seal P l (bound s) b) uncut.0 least
            | inr is ↦ leaves_prefix_on seal P (bound s) (bound s) (sealed_prefix seal P (from (key_of j.sections s)).content) b (bound_within s) (subst (λ (l : List ℕ). Leaves seal P l (bound s) b) is least)
          ]

      kept_still : (s : ℕ) → s ≤ last → (s < 2 ^ 64) × IsTrue (from (key_of j.sections s)).there → d (key_of j.sections s) ≡ mid (key_of j.sections s)
          → (d (key_of j.sections s) ≡ from (key_of j.sections s)) ⊎ Leaves seal P (sealed_prefix seal P (from (key_of j.sections s)).content) (bound s) (d (key_of j.sections s))
      kept_still s le there same = elim (before.kept s le there) [
        | inl is ↦ inl (same ∙ is)
        | inr leaves ↦ inr (subst (λ (x : Blob). Leaves seal P (sealed_prefix seal P (from (key_of j.sections s)).content) (bound s) x) (sym same) leaves)
      ]

      kept_drained : (s : ℕ) → s ≤ last → (s < 2 ^ 64) × IsTrue (from (key_of j.sections s)).there
          → (d (key_of j.sections s) ≡ from (key_of j.sections s)) ⊎ Leaves seal P (sealed_prefix seal P (from (key_of j.sections s)).content) (bound s) (d (key_of j.sections s))
      kept_drained s le there = (let u = some_of (j.sections.held s) ((cut.whole.held t s there.0).1 (there.1, le)) in go u.0 u.1 (j.unrecovered s) refl)
        where
          go : (u : PageBlob S gs) → j.sections.held s ≡ Some u → (o : Bool) → j.unrecovered s ≡ o
              → (d (key_of j.sections s) ≡ from (key_of j.sections s)) ⊎ Leaves seal P (sealed_prefix seal P (from (key_of j.sections s)).content) (bound s) (d (key_of j.sections s))
          go u is false free = kept_still s le there ((each (key_of j.sections s)).still s u is (all_settled (shown u) (cut.whole.idle s u is), inl free) refl)
          go u is true owed = elim ((each (key_of j.sections s)).cut s u is owed refl) [
            | inl same ↦ kept_still s le there same
            | inr leaves ↦ inr (cut_keeps s u is (d (key_of j.sections s)) leaves.1)
          ]

      pub drained_bounding : Bounding seal P size j.sections.partition last end from d
      drained_bounding = record {
        later = λ s lt there. subst (λ (x : Blob). IsGoing (from (key_of j.sections s)) x) (sym (later_same s lt there.0)) (before.later s lt there);
        order = λ s q lt less there also. elim (before.order s q lt less there also) [
          | inl same ↦ inl (later_same s lt there.0 ∙ same)
          | inr none ↦ inr (later_same q (omega (arith, lt, less)) also.0 ∙ none)
        ];
        kept = kept_drained;
        first = λ s le there. inr (inr (λ q lt has. later_same q lt has.0 ∙ cut.whole.gone t q lt has));
        others = λ q never. (each q).others (λ k. never k.0 (there_of k.0 k.1.0).0 k.2) ∙ before.others q never;
      }

  -- ---- once it was gone over

  module _ {V : Type 0} (spelling : V → List ℕ) (accepted : V → Unit {0} → Type 0) (refusal : List ℕ → Unit {0} → Option codec.Error) where
    from_start : (s : ℕ) → IsFromStart (begun j) s
    from_start s = elim (cases_eq s 0) [ inl zero ↦ inr (sym zero, refl) | inr other ↦ inl (omega (arith, other)) ]

    no_start : (b : Bool) (p : ℕ) → cond b 0 0 ≤ p
    no_start true p = omega arith
    no_start false p = omega arith

    left_of : (t : told) (s p : ℕ) → IsHeld j.sections s → (p + 1) * size ≤ bound s → IsLeft seal size (begun j) mid s p
    left_of t s p held within =
        let count = (kept_whole t s held).count in
        let fits : (p + 1) * size ≤ length (kept_bytes seal size (begun j) mid s) = omega (arith, within, count, div-mul-le_self (length (kept_bytes seal size (begun j) mid s)) size) in
        record {
          goes_on = refl;
          begun = no_start (eqb s 0) p;
          whole = (let more = le-div (p + 1) (length (kept_bytes seal size (begun j) mid s)) size (omega (arith, pos)) fits in omega (arith, more));
          ahead = inl (held, omega arith);
        }

    within_of : (t : told) (s p : ℕ) → IsHeld j.sections s → p < length (kept_bytes seal size (begun j) mid s) / size → (p + 1) * size ≤ bound s
    within_of t s p held lt = omega (arith, times_more p (length (kept_bytes seal size (begun j) mid s) / size) size lt, times_next p size, (kept_whole t s held).count)

    -- a refused item is one that is kept
    pub refused_kept : told → (e : codec.Error) (s p : ℕ) → IsFirstRefused g gives seal size spelling accepted refusal (begun j) mid e s p
        → IsRefusedItem seal P size j.sections.partition last end spelling accepted refusal from e s p
    refused_kept t e s p has =
        let held : IsHeld j.sections s = elim has.left.ahead [ inl here ↦ here.0 | inr there ↦ absurd there ] in
        let there = there_of t s held in
        let within = within_of t s p held has.left.whole in
        record {
          kept = record { there = there.0; under = there.1; within = within };
          before = λ y q kept earlier.
              let here : IsHeld j.sections y = (cut.whole.held t y kept.there.0).1 (kept.there.1, kept.under) in
              let good = has.before y q (left_of t y q here kept.within) earlier in
              (good.0, subst (λ (l : List ℕ). IsItem spelling accepted l good.0) (item_kept t y q here kept.within) good.1);
          refused = subst (λ (l : List ℕ). refusal l tt ≡ Some e) (item_kept t s p held within) has.refused;
        }

    module _ (k : Lists (AppendFactory S) (PageBlob S gs)) (entries : OpenedList) (to : Disk) (gone : IsGoneThrough g gives seal size spelling accepted refusal (begun j) told k entries mid to)
        (now : told → Each (Replaying seal size (begun j) mid) to) where
      pub opened_at_most : IsOpenedAtMost seal P size j.sections.partition last end g gives told pages write_buffer spelling accepted k entries from to
      opened_at_most = record {
        whole = record {
          over = gone.over;
          held = λ t s number. (λ h. (cut.whole.held t s number).0 ((gone.held s).0 h), λ x. (gone.held s).1 ((cut.whole.held t s number).1 x));
          known = λ s. gone.unopened s ∙ cut.whole.known s;
          gone = λ t s lt there. later_still t to (now t) s lt there.0 ∙ cut.whole.gone t s lt there;
          floors = λ s. gone.lifted s (from_start s);
          idle = λ s v held. (let u = some_of (j.sections.held s) ((gone.held s).0 (some_there (k.sections.held s) v held)) in gone.idle s u.0 v u.1 held (cut.whole.idle s u.0 u.1));
          partition_is = gone.bounds.place.partition;
          pages_are = ap (λ (f : AppendFactory S). f.pages) gone.bounds.place.factory ∙ cut.whole.pages_are;
          write_buffer_is = ap (λ (f : AppendFactory S). f.write_buffer) gone.bounds.place.factory ∙ cut.whole.write_buffer_is;
          floor = gone.bounds.floor ∙ cut.whole.floor;
          ceiling = gone.bounds.ceiling ∙ cut.whole.ceiling;
        };
        bytes = λ t s held. (let keeps = kept_whole t s ((gone.held s).0 held) in
            gone.bytes t s (omega arith) ∙ ap (λ (m : ℕ). take m (kept_bytes seal size (begun j) mid s)) keeps.count ∙ keeps.same);
        items = λ t s p held within. (let here = (gone.held s).0 held in let good = gone.items t s p (left_of t s p here within) in
            (good.0, subst (λ (l : List ℕ). IsItem spelling accepted l good.0) (item_kept t s p here within) good.1));
        recovered = λ s. gone.recovered s (from_start s);
      }
