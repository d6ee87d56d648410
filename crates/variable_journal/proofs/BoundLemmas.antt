-- A journal of frames that was opened up to a byte of a section: what its blobs are while it is gone over.
use Rattle.std.specs.Prelude.{◌≡◌, ◌⊎◌, ℕ, ◌*◌, ◌/◌, ◌^◌, ◌<◌, ◌≤◌, min, eqb, cond, Bool, false, true, List, [], length, take, Option, Some, None, IsTrue}
use Rattle.std.proofs.Common.{inl, inr, refl, sym, ap, ◌∙◌, subst, arith, length-take}
use Rattle.std.proofs.Math.Seq.{take-length}
use Rattle.std.proofs.lemmas.Bool.{cases_lt}
use Rattle.std.proofs.lemmas.Bool.Decides.{nat_tests}
use Rattle.std.proofs.lemmas.List.{take_all, take_min}
use Rattle.blob_device.specs.Disk.{Key, Blob, Disk}
use Rattle.blob_device.specs.Opened.{OpenedList}
use Rattle.blob_device.specs.Timeline.{Timeline, disk, Always, Each}
use Rattle.blob_device.specs.lemmas.Moments.{always_weaker}
use Rattle.sealed_pages.specs.Buffer.{bytes_of}
use Rattle.sealed_pages.specs.ChanceSeal.{Leaves}
use Rattle.sealed_pages.specs.Cutting.{StandsSettled}
use Rattle.sealed_pages.specs.SealedPrefix.{sealed_prefix, adopted_size}
use Rattle.sealed_pages.specs.Shown.{shown}
use Rattle.sealed_pages.specs.View.{view}
use Rattle.sealed_pages.specs.declared.page_blob.PageBlob.{PageBlob}
use Rattle.sealed_pages.specs.declared.pages.Pages.{Pages}
use Rattle.sealed_pages.specs.lemmas.Reaching.{prefix_size, rest_leaves}
use Rattle.sealed_pages.specs.lemmas.adopted.Adopt.{length-data_from}
use Rattle.segments.specs.lemmas.adding.Write.{ArePages, bytes_here}
use Rattle.variable_journal.specs.lemmas.Frame.{rest_none}
use Rattle.variable_journal.specs.lemmas.Offset.{whole_within}
use Rattle.section_manager.specs.Lasting.{IsGoing}
use Rattle.section_manager.specs.SealedLaws.{all_settled}
use Rattle.section_manager.specs.Sections.{section_key, key_of, IsHeld}
use Rattle.section_manager.specs.Setting.{Setting}
use Rattle.section_manager.specs.declared.buffer.SectionBuffer as buffer
use Rattle.section_manager.specs.declared.sealed.AppendFactory.{AppendFactory}
use Rattle.section_manager.specs.lemmas.Keys.{key_injective}
use Rattle.segments.specs.FixedBounds.{bounded_size, whole_of, Bounding, IsOpenedCut}
use Rattle.segments.specs.FixedLists.{Lists, bytes_held, section_bytes}
use Rattle.segments.specs.FixedReplay.{Walk, kept_of}
use Rattle.variable_journal.specs.Frames.{rest_of, whole_end, HasBadLength}
use Rattle.variable_journal.specs.Lists.{AreFramed}
use Rattle.variable_journal.specs.OpeningAtMost.{BoundingFrames, IsThere, LeavesSettled, judged, judged_bytes}
use Rattle.variable_journal.specs.Replaying.{ReplayingFrames, given_bytes}
use Rattle.variable_journal.proofs.LeavingLemmas.{leaves_on}
use Rattle.blob_device.proofs.general.Options.{some_of, some_there}

no_bytes : (xs ys : List ℕ) → length xs ≡ 0 → length ys ≡ 0 → xs ≡ ys
no_bytes xs ys one two = sym (take_all 0 xs (omega (arith, one))) ∙ take_all 0 ys (omega (arith, two))

-- a list, or its first bytes
module _ (xs : List ℕ) (end : ℕ) where
  part_own : (b : Bool) → cond b (take end xs) xs ≡ take (length (cond b (take end xs) xs)) xs
  part_own true = sym (ap (λ (n : ℕ). take n xs) (length-take end xs) ∙ take_min end xs)
  part_own false = sym (take-length xs)

  part_within : (b : Bool) → length (cond b (take end xs) xs) ≤ length xs
  part_within true = omega (arith, length-take end xs)
  part_within false = omega arith

  part_long : (b : Bool) → whole_of 1 (cond b (min end (length xs)) (length xs)) ≡ length (cond b (take end xs) xs)
  part_long true = omega (arith, length-take end xs)
  part_long false = omega arith

  part_full : (b : Bool) → (b ≡ true → length xs ≤ end) → cond b (take end xs) xs ≡ xs
  part_full true short = take_all end xs (short refl)
  part_full false short = refl

same_number : (m n : ℕ) → eqb m n ≡ true → m ≡ n
same_number m n is = grind (arith, nat_tests)

-- what is kept of a section's bytes
module _ (seal : List ℕ → ℕ) (P : ℕ) (partition : List ℕ) (last end s : ℕ) (content : List ℕ) where
  pub judged_own : judged seal P partition last end s content ≡ take (length (judged seal P partition last end s content)) (sealed_prefix seal P content)
  judged_own = part_own (sealed_prefix seal P content) end (eqb s last)

  pub judged_within : length (judged seal P partition last end s content) ≤ length (sealed_prefix seal P content)
  judged_within = part_within (sealed_prefix seal P content) end (eqb s last)

  -- it is as long as what is kept of single bytes
  judged_long : bounded_size seal P 1 partition last end s content ≡ length (judged seal P partition last end s content)
  judged_long = part_long (sealed_prefix seal P content) end (eqb s last)

-- what an opening of bytes leaves at a moment one of frames may leave
pub bounding_frames : (seal : List ℕ → ℕ) (P : ℕ) (partition : List ℕ) (last end : ℕ) (from d : Disk) → Bounding seal P 1 partition last end from d → BoundingFrames seal P partition last end from d
bounding_frames seal P partition last end from d b = record {
  later = b.later;
  order = b.order;
  kept = λ s le there. elim (b.kept s le there) [
    | inl same ↦ inl same
    | inr leaves ↦ (
        let content = (from (section_key partition s)).content in
        let prefix = sealed_prefix seal P content in
        inr (leaves_on seal P (bounded_size seal P 1 partition last end s content) (whole_end (judged_bytes seal P partition last end from s)) prefix prefix (d (section_key partition s)) (sym (take-length prefix)) (omega arith)
        (omega (arith, judged_long seal P partition last end s content, whole_within (judged_bytes seal P partition last end from s))) leaves))
  ];
  lengths = λ s le there bad. elim (b.kept s le there) [
    | inl same ↦ inl same
    | inr leaves ↦ (
        let content = (from (section_key partition s)).content in
        inr (subst (λ (n : ℕ). Leaves seal P (sealed_prefix seal P content) n (d (section_key partition s))) (judged_long seal P partition last end s content) leaves))
  ];
  first = b.first;
  others = b.others;
}

-- of a blob that had settled each crash leaves what is kept
pub leaves_settled : (seal : List ℕ → ℕ) (P : ℕ) → 1 ≤ P → (partition : List ℕ) (last end : ℕ) (from d : Disk) → BoundingFrames seal P partition last end from d
    → (s : ℕ) → s ≤ last → IsThere seal P partition last end from s → StandsSettled (from (section_key partition s)) → LeavesSettled seal P partition last end from d s
leaves_settled seal P pos partition last end from d b s le there settled = record {
  frames = elim (b.kept s le there) [
    | inr leaves ↦ leaves
    | inl same ↦ as_it_was same (whole_end kept) (omega (arith, whole_within kept, judged_within seal P partition last end s (from q).content))
  ];
  lengths = λ bad. elim (b.lengths s le there bad) [ inr leaves ↦ leaves | inl same ↦ as_it_was same (length kept) (judged_within seal P partition last end s (from q).content) ];
}
  where
    q : Key
    q = section_key partition s

    kept : List ℕ
    kept = judged_bytes seal P partition last end from s

    as_it_was : d q ≡ from q → (n : ℕ) → n ≤ length (sealed_prefix seal P (from q).content) → Leaves seal P (sealed_prefix seal P (from q).content) n (d q)
    as_it_was same n le_n = (let prefix = sealed_prefix seal P (from q).content in
        subst (Leaves seal P prefix n) (sym same) (leaves_on seal P (length prefix) n prefix prefix (from q) (sym (take-length prefix)) (omega arith) le_n (rest_leaves seal P (from q) pos settled)))

pub settled_always : (seal : List ℕ → ℕ) (P : ℕ) → 1 ≤ P → (partition : List ℕ) (last end : ℕ) (a b : Timeline) → Always a b (BoundingFrames seal P partition last end (disk a))
    → Always a b (λ d. (s : ℕ) → s ≤ last → IsThere seal P partition last end (disk a) s → StandsSettled (disk a (section_key partition s)) → LeavesSettled seal P partition last end (disk a) d s)
settled_always seal P pos partition last end a b always = always_weaker a b (BoundingFrames seal P partition last end (disk a))
    (λ d. (s : ℕ) → s ≤ last → IsThere seal P partition last end (disk a) s → StandsSettled (disk a (section_key partition s)) → LeavesSettled seal P partition last end (disk a) d s)
    (leaves_settled seal P pos partition last end (disk a)) always

-- before any call
pub bounding_start : (seal : List ℕ → ℕ) (P : ℕ) (partition : List ℕ) (last end : ℕ) (d : Disk) → BoundingFrames seal P partition last end d d
bounding_start seal P partition last end d = record {
  later = λ s lt there. inl refl;
  order = λ s t lt less there also. inl refl;
  kept = λ s le there. inl refl;
  lengths = λ s le there bad. inl refl;
  first = λ s le there. inl refl;
  others = λ q never. refl;
}

cases_owes : (b : Bool) → (b ≡ false) ⊎ IsTrue b
cases_owes false = inl refl
cases_owes true = inr refl

-- the replay of a journal from its start on
abbrev pub begun : {F B : Type 0} → Lists F B → Walk F B
begun j = record { journal = j; start_section = 0; start_position = 0; next_section = Some 0; place = None; failed = false; ended = false }

module _ {S : Type 0} {gs : _} (seal : List ℕ → ℕ) (P : ℕ) (g : buffer.Ghosts (PageBlob S gs)) (laws : ArePages g seal) (gives : AppendFactory S → Setting) (told : Type 0)
    (last end : ℕ) (paged : Pages) (capacity : ℕ) (j : Lists (AppendFactory S) (PageBlob S gs)) (opened : OpenedList) (from mid : Disk)
    (cut : IsOpenedCut seal P 1 j.sections.partition last end g gives told paged capacity j opened from mid) (sized : (gives j.sections.factory).page_size ≡ P) where
  pub page_of : (s : ℕ) (u : PageBlob S gs) → j.sections.held s ≡ Some u → u.page_size ≡ P
  page_of s u held = sym (laws.page_size u) ∙ ap (λ (x : Setting). x.page_size) (cut.whole.over.over.opened_list.setting s u held) ∙ sized

  -- what is kept of a section
  abbrev kept : ℕ → List ℕ
  kept = judged_bytes seal P j.sections.partition last end from

  abbrev prefix : ℕ → List ℕ
  prefix s = sealed_prefix seal P (from (key_of j.sections s)).content

  module _ (t : told) where
    pub there_of : (s : ℕ) → IsHeld j.sections s → IsThere seal P j.sections.partition last end from s × (s ≤ last)
    there_of s held =
        let number = cut.whole.over.over.opened_list.number s (inl held) in
        let is = (cut.whole.held t s number).0 held in
        ((number, is.0), is.1)

    pub held_of : (s : ℕ) → IsThere seal P j.sections.partition last end from s → s ≤ last → IsHeld j.sections s
    held_of s there le = (cut.whole.held t s there.0).1 (there.1, le)

    -- the last section, or one before, was cut or not
    cut_or_not : (s : ℕ) → s ≤ last → ((s < last) ⊎ (adopted_size seal P (from (key_of j.sections s)).content ≤ whole_of 1 end)) ⊎ ((s ≡ last) × (whole_of 1 end < adopted_size seal P (from (key_of j.sections last)).content))
    cut_or_not s le = elim (cases_lt s last) [
      | inl lt ↦ inl (inl lt)
      | inr ge ↦
          let at : s ≡ last = omega (arith, le, ge) in
          elim (cases_lt (whole_of 1 end) (adopted_size seal P (from (key_of j.sections last)).content)) [
            | inl longer ↦ inr (at, longer)
            | inr fits ↦ inl (inr (subst (λ (x : ℕ). adopted_size seal P (from (key_of j.sections x)).content ≤ whole_of 1 end) (sym at) fits))
          ]
    ]

    -- its sealed prefix is that, once it is cut
    pub prefix_mid : (s : ℕ) → IsHeld j.sections s → sealed_prefix seal P (mid (key_of j.sections s)).content ≡ kept s
    prefix_mid s held = elim (cut_or_not s (there_of s held).1) [
      | inl which ↦ cut.sealed t s held which
          ∙ sym (part_full (prefix s) end (eqb s last) (λ is. elim which [
            | inl lt ↦ absurd (omega (arith, lt, same_number s last is))
            | inr fits ↦ omega (arith, fits, prefix_size seal P (from (key_of j.sections s)).content)
          ]))
      | inr longer ↦ subst (λ (x : ℕ). IsHeld j.sections x → sealed_prefix seal P (mid (key_of j.sections x)).content ≡ kept x) (sym longer.0)
          (λ here. cut.sealed_cut t here longer.1
          ∙ ap (λ (n : ℕ). take n (prefix last)) (judged_long seal P j.sections.partition last end last (from (key_of j.sections last)).content)
          ∙ sym (judged_own seal P j.sections.partition last end last (from (key_of j.sections last)).content)) held
    ]

    -- a section that owes no replay had no bytes
    free_none : (s : ℕ) → IsHeld j.sections s → j.unrecovered s ≡ false → adopted_size seal P (from (key_of j.sections s)).content ≡ 0
    free_none s held free = elim (cases_lt 0 (adopted_size seal P (from (key_of j.sections s)).content)) [
      | inl some ↦ (let owed = (cut.unrecovered t s).1 (held, some) in absurd (cc (owed, free)))
      | inr none ↦ omega (arith, none)
    ]

    free_given : (s : ℕ) (u : PageBlob S gs) → j.sections.held s ≡ Some u → j.unrecovered s ≡ false → bytes_of (shown u) (mid (key_of j.sections s)).content ≡ kept s
    free_given s u held free =
        let here : IsHeld j.sections s = some_there (j.sections.held s) u held in
        let zero = free_none s here free in
        let none : length (bytes_of (shown u) (mid (key_of j.sections s)).content) ≡ 0 =
        ap (λ (l : List ℕ). length l) (sym (bytes_here j.sections s u held mid) ∙ cut.bytes t s here (inr (omega (arith, zero))))
        ∙ length-data_from P (view (from (key_of j.sections s)).content) (adopted_size seal P (from (key_of j.sections s)).content) 0 ∙ zero in
        no_bytes (bytes_of (shown u) (mid (key_of j.sections s)).content) (kept s) none
        (omega (arith, judged_within seal P j.sections.partition last end s (from (key_of j.sections s)).content, prefix_size seal P (from (key_of j.sections s)).content, zero))

    -- so the journal is whole frames, but for what owes a replay
    pub framed_mid : AreFramed j mid
    framed_mid s free = go (j.sections.held s) refl
      where
        go : (o : Option (PageBlob S gs)) → j.sections.held s ≡ o → rest_of (section_bytes j.sections mid s) ≡ []
        go None is = ap (λ (o : Option (PageBlob S gs)). rest_of (bytes_held o (mid (key_of j.sections s)).content)) is ∙ rest_none
        go (Some u) is =
            let none : kept s ≡ [] = no_bytes (kept s) []
            (omega (arith, judged_within seal P j.sections.partition last end s (from (key_of j.sections s)).content, prefix_size seal P (from (key_of j.sections s)).content, free_none s (some_there (j.sections.held s) u is) free)) refl in
            ap rest_of (bytes_here j.sections s u is mid ∙ free_given s u is free ∙ none) ∙ rest_none

    -- the bytes from which a replay gives its items
    pub given_mid : (s : ℕ) → IsHeld j.sections s → given_bytes seal (begun j) mid s ≡ kept s
    given_mid s held = (let u = some_of (j.sections.held s) held in go u.0 u.1 (j.unrecovered s) refl)
      where
        go : (u : PageBlob S gs) → j.sections.held s ≡ Some u → (o : Bool) → j.unrecovered s ≡ o → given_bytes seal (begun j) mid s ≡ kept s
        go u is false free = (λ i. kept_of seal (free i) (is i) (mid (key_of j.sections s)).content) ∙ free_given s u is free
        go u is true owed = (λ i. kept_of seal (owed i) (is i) (mid (key_of j.sections s)).content) ∙ ap (λ (Q : ℕ). sealed_prefix seal Q (mid (key_of j.sections s)).content) (page_of s u is) ∙ prefix_mid s held

    -- ---- while it is gone over

    module _ (d : Disk) (each : Each (ReplayingFrames seal (begun j) mid) d) where
      -- a blob of no held section stays
      other_still : (q : Key) → ((s : ℕ) → IsHeld j.sections s → q ≡ key_of j.sections s → ⊥) → d q ≡ mid q
      other_still q never = elim (each q) [
        | inl rep ↦ rep.others (λ k. never k.0 k.1.0 k.2)
        | inr cuts ↦ absurd (never cuts.section (some_there (j.sections.held cuts.section) cuts.buffer cuts.held) cuts.key)
      ]

      -- so do those of sections behind the last one
      pub later_still : (s : ℕ) → last < s → s < 2 ^ 64 → d (key_of j.sections s) ≡ mid (key_of j.sections s)
      later_still s lt number = other_still (key_of j.sections s) (λ x held is. (
          let there = there_of x held in
          let e = key_injective j.sections.partition s x number there.0.0 is in
          omega (arith, e, there.1, lt)))

      module _ (before : BoundingFrames seal P j.sections.partition last end from mid) where
        abbrev IsKept : ℕ → Blob → Type 0
        IsKept s b = (b ≡ from (key_of j.sections s)) ⊎ Leaves seal P (prefix s) (whole_end (kept s)) b

        still_kept : (s : ℕ) → s ≤ last → IsThere seal P j.sections.partition last end from s → d (key_of j.sections s) ≡ mid (key_of j.sections s) → IsKept s (d (key_of j.sections s))
        still_kept s le there same = subst (IsKept s) (sym same) (before.kept s le there)

        -- what leaves the frames of its sealed prefix leaves them
        leaves_kept : (s : ℕ) → IsHeld j.sections s → (u : PageBlob S gs) (x : ℕ) → j.sections.held x ≡ Some u → (f : List ℕ → ℕ) → ((l : List ℕ) → whole_end l ≤ f l) → (b : Blob)
            → Leaves seal u.page_size (sealed_prefix seal u.page_size (mid (key_of j.sections s)).content) (f (sealed_prefix seal u.page_size (mid (key_of j.sections s)).content)) b → IsKept s b
        leaves_kept s held u x is f most b leaves = inr (leaves_on seal P (f (kept s)) (whole_end (kept s)) (kept s) (prefix s) b
            (judged_own seal P j.sections.partition last end s (from (key_of j.sections s)).content) (judged_within seal P j.sections.partition last end s (from (key_of j.sections s)).content) (most (kept s))
            (subst (λ (l : List ℕ). Leaves seal P l (f l) b) (prefix_mid s held)
            (subst (λ (Q : ℕ). Leaves seal Q (sealed_prefix seal Q (mid (key_of j.sections s)).content) (f (sealed_prefix seal Q (mid (key_of j.sections s)).content)) b) (page_of x u is) leaves)))

        now_kept : (s : ℕ) → s ≤ last → IsThere seal P j.sections.partition last end from s → IsKept s (d (key_of j.sections s))
        now_kept s le there = elim (each (key_of j.sections s)) [
          | inl rep ↦ (
              let held = held_of s there le in
              let u = some_of (j.sections.held s) held in
              elim (cases_owes (j.unrecovered s)) [
                | inl free ↦ still_kept s le there (rep.still s u.0 u.1 (all_settled (shown u.0) (cut.whole.idle s u.0 u.1), inl free) refl)
                | inr owed ↦ elim (rep.cut s u.0 u.1 owed refl) [
                  | inl same ↦ still_kept s le there same
                  | inr leaves ↦ leaves_kept s held u.0 s u.1 (λ l. length l / 1 * 1) (λ l. omega (arith, whole_within l)) (d (key_of j.sections s)) leaves.1
                ]
              ])
          | inr cuts ↦ leaves_kept s (held_of s there le) cuts.buffer cuts.section cuts.held whole_end (λ l. omega arith) (d (key_of j.sections s)) cuts.leaves
        ]

        -- where a length is refused, no bytes are cut off
        now_lengths : (s : ℕ) → s ≤ last → IsThere seal P j.sections.partition last end from s → HasBadLength (rest_of (kept s))
            → (d (key_of j.sections s) ≡ from (key_of j.sections s)) ⊎ Leaves seal P (prefix s) (length (kept s)) (d (key_of j.sections s))
        now_lengths s le there bad = elim (each (key_of j.sections s)) [
          | inr cuts ↦ absurd (cuts.torn (subst (λ (l : List ℕ). HasBadLength (rest_of l))
              (sym (ap (λ (Q : ℕ). sealed_prefix seal Q (mid (key_of j.sections s)).content) (page_of cuts.section cuts.buffer cuts.held) ∙ prefix_mid s held)) bad))
          | inl rep ↦ elim (cases_owes (j.unrecovered s)) [
            | inl free ↦ still (rep.still s u.0 u.1 (all_settled (shown u.0) (cut.whole.idle s u.0 u.1), inl free) refl)
            | inr owed ↦ elim (rep.cut s u.0 u.1 owed refl) [
              | inl same ↦ still same
              | inr leaves ↦ inr (leaves_on seal P (length (kept s) / 1 * 1) (length (kept s)) (kept s) (prefix s) (d (key_of j.sections s))
                  (judged_own seal P j.sections.partition last end s (from (key_of j.sections s)).content) (judged_within seal P j.sections.partition last end s (from (key_of j.sections s)).content) (omega arith)
                  (subst (λ (l : List ℕ). Leaves seal P l (length l / 1 * 1) (d (key_of j.sections s))) (prefix_mid s held)
                  (subst (λ (Q : ℕ). Leaves seal Q (sealed_prefix seal Q (mid (key_of j.sections s)).content) (length (sealed_prefix seal Q (mid (key_of j.sections s)).content) / 1 * 1) (d (key_of j.sections s))) (page_of s u.0 u.1) leaves.1)))
            ]
          ]
        ]
          where
            held : IsHeld j.sections s
            held = held_of s there le

            u : (v : PageBlob S gs) × (j.sections.held s ≡ Some v)
            u = some_of (j.sections.held s) held

            still : d (key_of j.sections s) ≡ mid (key_of j.sections s) → (d (key_of j.sections s) ≡ from (key_of j.sections s)) ⊎ Leaves seal P (prefix s) (length (kept s)) (d (key_of j.sections s))
            still same = subst (λ (b : Blob). (b ≡ from (key_of j.sections s)) ⊎ Leaves seal P (prefix s) (length (kept s)) b) (sym same) (before.lengths s le there bad)

        pub bounding_now : BoundingFrames seal P j.sections.partition last end from d
        bounding_now = record {
          later = λ s lt there. subst (λ (x : Blob). IsGoing (from (key_of j.sections s)) x) (sym (later_still s lt there.0)) (before.later s lt there);
          order = λ s q lt less there also. elim (before.order s q lt less there also) [
            | inl same ↦ inl (later_still s lt there.0 ∙ same)
            | inr none ↦ inr (later_still q (omega (arith, lt, less)) also.0 ∙ none)
          ];
          kept = now_kept;
          lengths = now_lengths;
          first = λ s le there. inr (inr (λ q lt has. later_still q lt has.0 ∙ cut.whole.gone t q lt has));
          others = λ q never. other_still q (λ s held is. never s (there_of s held).0 is) ∙ before.others q never;
        }
