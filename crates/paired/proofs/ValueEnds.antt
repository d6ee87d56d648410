-- Where the values of sections with records end, and what is left of a glob that is cut there.
use Rattle.std.specs.Prelude.{◌≡◌, ◌≢◌, ◌⊎◌, ◌↔◌, ℕ, ◌<◌, ◌≤◌, min, ⊤, false, List, [], ◌∷◌, take, Option, None, Some, IsSome, IsSomeAnd, Result, Err}
use Rattle.std.proofs.Common.{inl, inr, refl, sym, ◌∙◌, ap, subst, arith}
use Rattle.std.specs.List.{Contains}
use Rattle.std.specs.Option.{option_map}
use Rattle.std.proofs.lemmas.Bool.{cases_lt, cases_eq}
use Rattle.std.proofs.lemmas.List.Elements.{Contains-append_right, Contains-append_cases, Contains-push_cases}
use Rattle.blob_device.specs.Disk.{Key, Blob, past}
use Rattle.blob_device.specs.Opened.{OpenedList}
use Rattle.blob_device.specs.Timeline.{Timeline, disk, Always, Each}
use Rattle.blob_device.specs.lemmas.Moments.{always_start, always_weaker}
use Rattle.sealed_pages.specs.declared.page_blob.PageBlob.{PageBlob}
use Rattle.sealed_pages.specs.declared.write_blob.WriteBlob.{WriteBlob}
use Rattle.sealed_pages.specs.Reading.{Unchanged}
use Rattle.paired.specs.lemmas.Glob.{buffers}
use Rattle.sealed_pages.specs.lemmas.looking.Looking.{unchanged_start}
use Rattle.section_manager.specs.declared.buffer.SectionBuffer as buffer
use Rattle.section_manager.specs.declared.journal.Error.{Error}
use Rattle.section_manager.specs.Leaving.{Leaves}
use Rattle.section_manager.specs.Refusing.{HasFailed, IsPruned}
use Rattle.section_manager.specs.Sections.{Sections, key_of, IsHeld, IsKeyOf, IsCut}
use Rattle.section_manager.specs.Setting.{Setting}
use Rattle.section_manager.specs.unsealed.Buffer.{Stands, MayKeep, count_of, is_unsettled}
use Rattle.section_manager.specs.unsealed.Laws.{passes, looser}
use Rattle.segments.specs.FixedLists.{Lists, IsJournal, section_bytes}
use Rattle.paired.specs.glob.Lasting.{Cutting}
use Rattle.paired.specs.glob.Sections.{IsGlob}
use Rattle.paired.specs.glob.Sections as glob
use Rattle.paired.specs.Places.{last_end}
use Rattle.paired.specs.Reconciling.{EndOf, IsCutOff, IsEndWithin}
use Rattle.paired.specs.Records.{records}
use Rattle.paired.proofs.FailLemmas.{failed_as}
use Rattle.paired.proofs.pair.Stays.{journal_stays}
use Rattle.paired.proofs.StepLemmas.{crash_keeps}
use Rattle.blob_device.proofs.general.Options.{has_value, none_or_value, some_same, value_of}

-- ---- the ends that were taken over so far: of the held sections but for those that are left
pub record EndsFound {F B : Type 0} (m : Sections F B) (IsEnd : ℕ → ℕ → Type 0) (ends : ℕ → Option ℕ) (left : List ℕ) : Type 0 where
  pub whose : (s : ℕ) → IsSome (ends s) ⊎ Contains left s → IsHeld m s
  pub each : (s : ℕ) → IsHeld m s → IsSome (ends s) ⊎ Contains left s
  pub found : (s n : ℕ) → ends s ≡ Some n → IsEnd s n

module _ {F B : Type 0} (m : Sections F B) (IsEnd : ℕ → ℕ → Type 0) where
  pub ends_start : (ends : ℕ → Option ℕ) (left : List ℕ) → ((s : ℕ) → ends s ≡ None) → ((s : ℕ) → Contains left s ↔ IsHeld m s) → EndsFound m IsEnd ends left
  ends_start ends left none all = record {
    whose = λ s why. elim why [
      | inl some ↦ absurd (cc (subst IsSome (none s) some))
      | inr has ↦ (all s).0 has
    ];
    each = λ s held. inr ((all s).1 held);
    found = λ s n is. absurd (cc (none s, is));
  }

  pub ends_more : (old new : ℕ → Option ℕ) (x n : ℕ) (later : List ℕ) → new x ≡ Some n → ((s : ℕ) → s ≢ x → new s ≡ old s) → IsEnd x n
      → EndsFound m IsEnd old (x ∷ later) → EndsFound m IsEnd new later
  ends_more old new x n later here others found was = record {
    whose = λ s why. elim why [
      | inl some ↦ elim (cases_eq s x) [
        | inl is ↦ was.whose s (inr (0, omega arith, sym is))
        | inr other ↦ was.whose s (inl (subst IsSome (others s other) some))
      ]
      | inr has ↦ was.whose s (inr (Contains-append_right (x ∷ []) later s has))
    ];
    each = λ s held. elim (cases_eq s x) [
      | inl is ↦ inl (subst IsSome (sym (ap new is ∙ here)) refl)
      | inr other ↦ elim (was.each s held) [
        | inl some ↦ inl (subst IsSome (sym (others s other)) some)
        | inr has ↦ elim (Contains-append_cases (x ∷ []) later s has) [
          | inl first ↦ absurd (other (sym (only x s first)))
          | inr more ↦ inr more
        ]
      ]
    ];
    found = λ s k is. elim (cases_eq s x) [
      | inl same ↦ subst (λ (q : ℕ). IsEnd q k) (sym same) (subst (IsEnd x) (sym (some_same k n (sym is ∙ ap new same ∙ here))) found)
      | inr other ↦ was.found s k (sym (others s other) ∙ is)
    ];
  }
    where
      only : (x s : ℕ) → Contains (x ∷ []) s → x ≡ s
      only x s has = elim (Contains-push_cases [] x s has) [
        | inl none ↦ absurd (omega (arith, none.1))
        | inr is ↦ is
      ]

  pub ends_all : (ends : ℕ → Option ℕ) (left : List ℕ) → left ≡ [] → EndsFound m IsEnd ends left → (s : ℕ) → IsSome (ends s) ↔ IsHeld m s
  ends_all ends left none found s = (
    λ some. found.whose s (inl some),
    λ held. elim (found.each s held) [
      | inl some ↦ some
      | inr has ↦ absurd (omega (arith, (subst (λ (l : List ℕ). Contains l s) none has).1))
    ],
  )

-- an end within the bytes is not cut off
pub exact_end : {end size k n : ℕ} → IsCutOff k size n → IsEndWithin end size k → n ≡ end
exact_end cut is = omega (arith, cut.least, cut.counted, is.counted, is.within)

-- ---- a glob that is cut at these ends
few_some : (u : WriteBlob) (b : Blob) (few : ℕ) → few ≤ u.settled → (contents : List (List ℕ)) (o : Option (List ℕ)) → IsSomeAnd o (λ c. ⊤ → MayKeep u b u.settled contents c) → IsSomeAnd o (λ c. ⊤ → MayKeep u b few contents c)
few_some u b few le contents None has = has
few_some u b few le contents (Some c) has = λ x. looser u b few u.settled contents c le (has x)

few_leaves : (u : WriteBlob) (b : Blob) (few : ℕ) → few ≤ u.settled → Stands u b → Leaves (λ _ _. ⊤) (MayKeep u b few) b
few_leaves u b few le stands left may = few_some u b few le (past b) left (passes u b stands left may)

module _ {F G S Dev : Type 0} {gs : _} (takes : G → Setting) (place : List ℕ → ℕ × ℕ) (size : ℕ) {told : Type 0} (time : Dev → Timeline) (opened : Dev → OpenedList)
    (j : Lists F (PageBlob S gs)) (m : Sections G WriteBlob) (a : Dev) (over : IsGlob buffers takes told m (opened a) (disk (time a))) where
  cutting_start : told → (size_of : ℕ → Option ℕ) → Each (Cutting m size_of (disk (time a))) (disk (time a))
  cutting_start t size_of q = record {
    shortened = λ s n u to held is. crash_keeps takes m (opened a) (disk (time a)) over t s u q (disk (time a) q) (min u.settled n) held is (omega arith)
        (subst (λ (k : Key). Leaves (λ _ _. ⊤) (MayKeep u (disk (time a) k) (min u.settled n)) (disk (time a) k)) (sym is)
        (few_leaves u (disk (time a) (key_of m s)) (min u.settled n) (omega arith) ((over.over.disk t).stands s u held)));
    others = λ none. refl;
  }

  -- where nothing was cut
  pub uncut_moments : told → (size_of : ℕ → Option ℕ) → Always (time a) (time a) (Each (Cutting m size_of (disk (time a))))
  uncut_moments t size_of = always_start (time a) (Each (Cutting m size_of (disk (time a)))) (cutting_start t size_of)

  -- ---- the ends are those of the sections with records
  module _ (ends : ℕ → Option ℕ) (each : (s : ℕ) → IsSome (ends s) ↔ IsHeld j.sections s) (c : Dev) where
    module _ (found : (s n : ℕ) → ends s ≡ Some n → n ≡ last_end place (records size (section_bytes j.sections (disk (time a)) s))) where
      end_as : (s : ℕ) → ends s ≡ EndOf place size j.sections (disk (time a)) s
      end_as s = elim (none_or_value (ends s)) [
        | inl none ↦ elim (none_or_value (j.sections.held s)) [
          | inl absent ↦ none ∙ sym (ap (option_map (λ u. last_end place (records size (section_bytes j.sections (disk (time a)) s)))) absent)
          | inr some ↦ absurd (cc (subst IsSome none ((each s).1 (subst IsSome (sym some.1) refl))))
        ]
        | inr some ↦ elim (none_or_value (j.sections.held s)) [
          | inl absent ↦ absurd (cc (subst IsSome absent ((each s).0 (subst IsSome (sym some.1) refl))))
          | inr u ↦ some.1 ∙ ap (λ (n : ℕ). Some n) (found s some.0 some.1) ∙ sym (ap (option_map (λ u. last_end place (records size (section_bytes j.sections (disk (time a)) s)))) u.1)
        ]
      ]

      pub cut_moments : Always (time a) (time c) (Each (Cutting m ends (disk (time a)))) → Always (time a) (time c) (Each (Cutting m (EndOf place size j.sections (disk (time a))) (disk (time a))))
      cut_moments moments = always_weaker (time a) (time c) (Each (Cutting m ends (disk (time a)))) (Each (Cutting m (EndOf place size j.sections (disk (time a))) (disk (time a)))) (λ d cutting q. record {
        shortened = λ s n u to held is. (cutting q).shortened s n u (end_as s ∙ to) held is;
        others = λ none. (cutting q).others (λ k. none (k.0, subst (λ (o : Option ℕ). IsSomeAnd o (glob.IsLonger m k.0)) (end_as k.0) k.1, k.2));
      }) moments

      pub cut_idle : (((s : ℕ) → IsSomeAnd (ends s) (glob.IsLonger m s) → ⊥) → c ≡ a) → ((s : ℕ) → IsHeld j.sections s → glob.section_size m s ≤ last_end place (records size (section_bytes j.sections (disk (time a)) s)))
          → Unchanged (time a) (time c)
      cut_idle idle within =
          let same : c ≡ a = idle (λ s is.
          let n = value_of (ends s) (glob.IsLonger m s) is in
          let u = value_of (m.held s) (λ w. n.value < count_of w) n.has in
          let all : glob.section_size m s ≡ count_of u.value = ap glob.size_held u.is in
          absurd (omega (arith, u.has, all, found s n.value n.is, within s ((each s).0 (subst IsSome (sym n.is) refl))))) in
          subst (λ (x : Dev). Unchanged (time a) (time x)) (sym same) (unchanged_start (time a))

      pub cut_bytes : (n : Sections G WriteBlob) → ((s k : ℕ) → ends s ≡ Some k → glob.section_bytes n (disk (time c)) s ≡ take k (glob.section_bytes m (disk (time a)) s)) → (s : ℕ) → IsHeld j.sections s
          → glob.section_bytes n (disk (time c)) s ≡ take (last_end place (records size (section_bytes j.sections (disk (time a)) s))) (glob.section_bytes m (disk (time a)) s)
      cut_bytes n bytes s held = elim (none_or_value (ends s)) [
        | inl none ↦ absurd (cc (subst IsSome none ((each s).1 held)))
        | inr end ↦ bytes s end.0 end.1 ∙ ap (λ (k : ℕ). take k (glob.section_bytes m (disk (time a)) s)) (found s end.0 end.1)
      ]

    -- no entry changes but those of values
    pub cut_entries : ((q : Key) → (IsKeyOf m (λ s. IsSomeAnd (ends s) (glob.IsLonger m s)) q → ⊥) → opened c q ≡ opened a q) → (q : Key) → (IsKeyOf m (IsHeld j.sections) q → ⊥) → opened c q ≡ opened a q
    cut_entries entries q none = entries q (λ is. none (is.0, (each is.0).0 (some_end (ends is.0) (glob.IsLonger m is.0) is.1), is.2))
      where
        some_end : (o : Option ℕ) (P : ℕ → Type 0) → IsSomeAnd o P → IsSome o
        some_end None P has = absurd has
        some_end (Some n) P has = refl

    -- what the cuts made of the glob
    module _ (n : Sections G WriteBlob)
        (cut : (s k : ℕ) (u : WriteBlob) → ends s ≡ Some k → m.held s ≡ Some u → IsSomeAnd (n.held s) (λ v. IsCut buffers told k u v (disk (time a) (key_of m s)) (disk (time c) (key_of m s))))
        (absent : (s : ℕ) → m.held s ≡ None → n.held s ≡ None) (others : (s : ℕ) → ends s ≡ None → n.held s ≡ m.held s) where
      none_ends : (s : ℕ) → j.sections.held s ≡ None → ends s ≡ None
      none_ends s none = elim (none_or_value (ends s)) [
        | inl is ↦ is
        | inr some ↦ absurd (cc (subst IsSome none ((each s).0 (subst IsSome (sym some.1) refl))))
      ]

      pub cut_others : (s : ℕ) → j.sections.held s ≡ None → n.held s ≡ m.held s
      cut_others s none = others s (none_ends s none)

      pub cut_held : (s : ℕ) → IsHeld n s ↔ IsHeld m s
      cut_held s = (
        λ is. elim (none_or_value (m.held s)) [
          | inl none ↦ absurd (cc (subst IsSome (absent s none) is))
          | inr some ↦ subst IsSome (sym some.1) refl
        ],
        λ is. elim (none_or_value (ends s)) [
          | inl none ↦ subst IsSome (sym (others s none)) is
          | inr end ↦ elim (none_or_value (m.held s)) [
            | inl none ↦ absurd (cc (subst IsSome none is))
            | inr some ↦ (let v = value_of (n.held s) (λ v. IsCut buffers told end.0 some.0 v (disk (time a) (key_of m s)) (disk (time c) (key_of m s))) (cut s end.0 some.0 end.1 some.1) in subst IsSome (sym v.is) refl)
          ]
        ],
      )

      pub cut_settled : ((s k : ℕ) → ends s ≡ Some k → glob.IsLonger m s k → glob.IsAllSettled n s) → ((s : ℕ) → IsHeld m s → glob.IsAllSettled m s) → (s : ℕ) → IsHeld n s → glob.IsAllSettled n s
      cut_settled longer settled s is = elim (none_or_value (ends s)) [
        | inl none ↦ stays s (others s none) ((cut_held s).0 is)
        | inr end ↦ elim (none_or_value (m.held s)) [
          | inl none ↦ absurd (cc (subst IsSome (absent s none) is))
          | inr some ↦ elim (cases_lt end.0 (count_of some.0)) [
            | inl lt ↦ longer s end.0 end.1 (has_value (m.held s) (λ u. end.0 < count_of u) some.0 some.1 lt)
            | inr within ↦
                (let v = value_of (n.held s) (λ v. IsCut buffers told end.0 some.0 v (disk (time a) (key_of m s)) (disk (time c) (key_of m s))) (cut s end.0 some.0 end.1 some.1) in
                stays s (v.is ∙ ap (λ (w : WriteBlob). Some w) (v.has.same within) ∙ sym some.1) ((cut_held s).0 is))
          ]
        ]
      ]
        where
          stays : (s : ℕ) → n.held s ≡ m.held s → IsHeld m s → glob.IsAllSettled n s
          stays s same held = subst (λ (o : Option WriteBlob). IsSomeAnd o (λ u. (u.settled ≡ count_of u) × (is_unsettled u ≡ false))) (sym same) (settled s held)

  -- the index is as it was once the values are cut
  module _ (apart : j.sections.partition ≢ m.partition) where
    no_value : (P : ℕ → Type 0) (s : ℕ) → IsKeyOf m P (key_of j.sections s) → ⊥
    no_value P s is = apart (ap (λ (k : Key). k.0) is.2)

    pub journal_cut : {g : buffer.Ghosts (PageBlob S gs)} {gives : F → Setting} (seal : List ℕ → ℕ) (c : Dev) (P : ℕ → Type 0) → ((q : Key) → (IsKeyOf m P q → ⊥) → opened c q ≡ opened a q) → (told → (q : Key) → (IsKeyOf m P q → ⊥) → disk (time c) q ≡ disk (time a) q)
        → IsJournal g gives seal size told j (opened a) (disk (time a)) → IsJournal g gives seal size told j (opened c) (disk (time c))
    journal_cut seal c P entries blobs = journal_stays seal size j (opened a) (opened c) (disk (time a)) (disk (time c)) (λ s small. entries (key_of j.sections s) (no_value P s)) (λ t s small. blobs t (key_of j.sections s) (no_value P s))

-- ---- an error of the cut of the values: that of a device or of memory
pub pruned_none : {T : Type 0} (r : Result T Error) (ends : ℕ → Option ℕ) (floor : ℕ) → floor ≡ 0 → (IsPruned r floor → (s : ℕ) × IsSome (ends s) × (s < floor)) → IsPruned r floor → ⊥
pruned_none r ends floor none guard pruned = let w = guard pruned in omega (arith, w.2, none)

pub cut_failed : {T U : Type 0} (r : Result T Error) (e : Error) (floor before now : ℕ) → r ≡ Err e → (IsPruned {T = U} (Err e) floor → ⊥) → IsPruned {T = U} (Err e) floor ⊎ HasFailed {T = U} (Err e) before now → HasFailed r before now
cut_failed r e floor before now is pruned (inl below) = absurd (pruned below)
cut_failed r e floor before now is pruned (inr failed) = failed_as r e before now is failed
