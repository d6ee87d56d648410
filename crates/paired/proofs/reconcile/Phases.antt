-- What the calls at the end of an opening leave of a pair of which all has settled: each crash keeps what it kept before.
use Rattle.std.proofs.Common.{◌≡◌, ◌⊎◌, inl, inr, ℕ, zero, suc, ◌+◌, ◌*◌, ◌/◌, ◌^◌, ◌<◌, ◌≤◌, min, not, true, false, List, [], length, take, IsTrue, Option, None, Some, IsSome, IsSomeAnd, unwrap_or, refl, sym, ◌∙◌, ap, subst, arith}
use Rattle.std.specs.Prelude.{is_some}
use Rattle.std.specs.Option.{option_map}
use Rattle.std.proofs.lemmas.Bool.{cases_lt}
use Rattle.std.proofs.lemmas.List.{take_all}
use Rattle.blob_device.specs.Disk.{Key, Blob, Disk, MayLeave, reads}
use Rattle.blob_device.specs.Opened.{OpenedList}
use Rattle.blob_device.specs.Timeline.{Each}
use Rattle.sealed_pages.specs.Buffer.{bytes_of, size_of}
use Rattle.sealed_pages.specs.ChanceSeal as pages
use Rattle.sealed_pages.specs.Cutting.{StandsSettled}
use Rattle.sealed_pages.specs.SealedPrefix.{sealed_prefix}
use Rattle.sealed_pages.specs.Shown.{shown}
use Rattle.sealed_pages.specs.declared.page_blob.PageBlob.{PageBlob}
use Rattle.sealed_pages.specs.declared.write_blob.WriteBlob.{WriteBlob}
use Rattle.section_manager.specs.declared.buffer.SectionBuffer as buffer
use Rattle.section_manager.specs.declared.unsealed.WriteFactory.{WriteFactory}
use Rattle.section_manager.specs.Prefixes.{IsPrefixOf}
use Rattle.section_manager.specs.SealedLaws as sealed_laws
use Rattle.section_manager.specs.Sections.{Sections, section_key, key_of, IsHeld}
use Rattle.section_manager.specs.Setting.{Setting}
use Rattle.section_manager.specs.unsealed.Buffer.{content_of, count_of}
use Rattle.section_manager.specs.unsealed.Laws.{counted}
use Rattle.section_manager.specs.lemmas.Keys.{key_injective}
use Rattle.segments.specs.FixedLists.{Lists}
use Rattle.segments.specs.FixedLists as fixed
use Rattle.value_codec.specs.declared.key.Key8.{Key8}
use Rattle.meta_store.specs.Store.{Store}
use Rattle.meta_store.specs.lemmas.Uses.{IsReadable}
use Rattle.paired.specs.lemmas.Ends.{Ends}
use Rattle.paired.specs.lemmas.opening.Phases.{IsBare, IsCut, IsPhase, IsTrimmed, records_by, values_by}
use Rattle.paired.specs.lemmas.reconcile.Resting.{Known, Resting, absent_of, all_of, frames_at, index_absent, index_key, index_number, index_rest, index_settles, known_no_chance, none_stored, paged, reads_absent, reads_there, rest_left, rest_there, rests_no_chance, stored_at, value_idle, values_absent, values_key, values_number, values_rest}
use Rattle.paired.specs.Crashes.{IsIndexOf, IsValuesOf}
use Rattle.paired.specs.glob.Lasting.{Cutting, Outlasts, settled_to}
use Rattle.paired.specs.glob.Sections as glob
use Rattle.paired.specs.Kept.{Layout, marker_of, content_at, stored_records, is_sound_in, kept}
use Rattle.paired.specs.Opening.{as_read, MayBeOpened, Relation, IsOrder, RecallsBy}
use Rattle.paired.specs.Pair.{AreApart}
use Rattle.paired.specs.Places.{last_end}
use Rattle.paired.specs.Reconciling.{CutTo, EndOf, Shortening}
use Rattle.paired.specs.Records.{records, unbroken_prefix}
use Rattle.paired.specs.lemmas.Records.{length-records}
use Rattle.paired.proofs.reconcile.Resting.{left_bare}
use Rattle.paired.proofs.Ends.{Bare, Bounds, CutsTo}
use Rattle.blob_device.proofs.general.Numbers.{item_ends}
use Rattle.blob_device.proofs.general.Options.{none_or_value}
use Rattle.paired.specs.lemmas.reconcile.Phases.{has_markers}

-- ---- small facts
pub some_or_none : {T : Type 0} (o : Option T) → (is_some o ≡ true) ⊎ (o ≡ None)
some_or_none None = inr refl
some_or_none (Some v) = inl refl

unset : {T : Type 0} (o : Option T) → IsTrue (not (is_some o)) → o ≡ None
unset None is = refl
unset (Some v) is = absurd (cc is)

take_none : (k : ℕ) (c : List ℕ) → c ≡ [] → take k c ≡ []
take_none k c is = ap (take k) is ∙ go k
  where
    go : (n : ℕ) → take {A = ℕ} n [] ≡ []
    go zero = refl
    go (suc n) = refl

prefix_none : (n : ℕ) (c left : List ℕ) → c ≡ [] → left ≡ [] → IsPrefixOf (take n c) left
prefix_none n c left none bare = ap (take (length (take n c))) bare ∙ take_none (length (take n c)) [] refl ∙ sym (take_none n c none)

take_min : (k n : ℕ) (c : List ℕ) → k ≡ length c → take (min k n) c ≡ take n c
take_min k n c is = elim (cases_lt n k) [
  | inl less ↦ (let e : min k n ≡ n = omega (arith, less) in ap (λ (x : ℕ). take x c) e)
  | inr more ↦ take_all (min k n) c (omega (arith, is, more)) ∙ sym (take_all n c (omega (arith, is, more)))
]

prefix_of : (kept : List ℕ) (left : Option (List ℕ)) → IsSomeAnd left (IsPrefixOf kept) → IsPrefixOf kept (unwrap_or left [])
prefix_of kept None is = absurd is
prefix_of kept (Some c) is = is

ends_both : {S : Type 0} {gs : _} (y : Option (PageBlob S gs)) (v : Option WriteBlob) (n : ℕ) → IsSomeAnd (option_map (λ w. n) y) (λ k. IsSomeAnd v (λ w. k < count_of w)) → IsSome y × IsSome v
ends_both None v n is = absurd is
ends_both (Some w) None n is = absurd is
ends_both (Some w) (Some v) n is = (refl, refl)

module _ {F S : Type 0} {gs : _} {g : buffer.Ghosts (PageBlob S gs)} {gives : F → Setting} {takes : WriteFactory → Setting} {told : Type 0} {l : Layout}
    {i : Sections F (PageBlob S gs)} {m : Sections WriteFactory WriteBlob} {u : Store Key8 ℕ} {o : OpenedList} {d : Disk} (known : Known g gives takes told l i m u o d) (t : told) where
  -- where the disk may be opened
  pub bare_of : MayBeOpened l d → Bare l i m d
  bare_of may = record {
    index = λ s small none. may.absent s small (absent_of known.parts t known.index_known s small none);
    values = λ s small none. may.values_absent s small (values_absent known.parts t s small none);
  }

  module _ (bare : Bare l i m d) where
    -- each crash leaves the bytes that the blobs read as
    pub index_left : (s : ℕ) → s < 2 ^ 64 → (left : Option (List ℕ)) → MayLeave (d (section_key l.index s)) left → unwrap_or left [] ≡ content_at (as_read d) l.index s
    index_left s small left may = elim (none_or_value (i.held s)) [
      | inl none ↦ left_bare (d (section_key l.index s)) (bare.index s small none) left may
          ∙ sym (ap (λ (x : Option (List ℕ)). unwrap_or x []) (reads_absent (d (section_key l.index s)) (absent_of known.parts t known.index_known s small none)))
      | inr some ↦ ap (λ (x : Option (List ℕ)). unwrap_or x []) (rest_left (d (section_key l.index s)) (index_rest known.parts t s some.0 some.1) left may)
    ]

    pub values_left : (s : ℕ) → s < 2 ^ 64 → (left : Option (List ℕ)) → MayLeave (d (section_key l.values s)) left → unwrap_or left [] ≡ content_at (as_read d) l.values s
    values_left s small left may = elim (none_or_value (m.held s)) [
      | inl none ↦ left_bare (d (section_key l.values s)) (bare.values s small none) left may
          ∙ sym (ap (λ (x : Option (List ℕ)). unwrap_or x []) (reads_absent (d (section_key l.values s)) (values_absent known.parts t s small none)))
      | inr some ↦ ap (λ (x : Option (List ℕ)). unwrap_or x []) (rest_left (d (section_key l.values s)) (values_rest known.parts t s some.0 some.1).0 left may)
    ]

    -- so the disk may be opened
    pub rests_open : MayBeOpened l d
    rests_open = record {
      no_chance = known_no_chance known t;
      named = λ image crash s small slots. frames_at known.parts t s small (stored_records l image s);
      absent = λ s small gone. elim (none_or_value (i.held s)) [
        | inl none ↦ bare.index s small none
        | inr some ↦ absurd (cc (gone, rest_there (d (section_key l.index s)) (index_rest known.parts t s some.0 some.1)))
      ];
      values_absent = λ s small gone. elim (none_or_value (m.held s)) [
        | inl none ↦ bare.values s small none
        | inr some ↦ absurd (cc (gone, rest_there (d (section_key l.values s)) (values_rest known.parts t s some.0 some.1).0))
      ];
    }

-- ---- markers that are synced

module _ {F S : Type 0} {gs : _} {g : buffer.Ghosts (PageBlob S gs)} {gives : F → Setting} {takes : WriteFactory → Setting} {told : Type 0} {l : Layout}
    {j : Lists F (PageBlob S gs)} {m : Sections WriteFactory WriteBlob} {u : Store Key8 ℕ} {o : OpenedList} {d : Disk} (rests : Resting g gives takes told l j m u o d) (t : told) where
  -- ---- values are cut
  module _ (apart : AreApart l) (x : Disk) (each : Each (Cutting m (EndOf l.place l.record_size j.sections d) d) x) where
    held_end : (s : ℕ) → IsSomeAnd (EndOf l.place l.record_size j.sections d s) (glob.IsLonger m s) → IsHeld j.sections s × IsHeld m s
    held_end s is = ends_both (j.sections.held s) (m.held s) (last_end l.place (records l.record_size (fixed.section_bytes j.sections d s))) is

    pub values_cut_only : (q : Key) → (IsValuesOf l (IsHeld j.sections) q → ⊥) → x q ≡ d q
    values_cut_only q none = (each q).others (λ w. (let held = held_end w.0 w.1 in none (w.0, index_number rests.parts w.0 held.0, held.0, w.2 ∙ values_key rests.parts w.0)))

    pub values_still : (s : ℕ) → s < 2 ^ 64 → m.held s ≡ None → x (section_key l.values s) ≡ d (section_key l.values s)
    values_still s small none = (each (section_key l.values s)).others (λ w.
        let held = (held_end w.0 w.1).1 in
        let same : s ≡ w.0 = key_injective l.values s w.0 small (values_number rests.parts w.0 held) (w.2 ∙ values_key rests.parts w.0) in
        absurd (cc (subst IsSome none (subst (IsHeld m) (sym same) held))))

    index_still : (s : ℕ) → x (section_key l.index s) ≡ d (section_key l.index s)
    index_still s = values_cut_only (section_key l.index s) (λ is. apart.values (ap (λ (k : Key). k.0) is.3))

    module _ (bare : Bare l j.sections m d) (readable : (q : Key) → MayLeave (d q) (reads (d q))) (map_readable : IsReadable l.markers)
        (whole : (s : ℕ) → s < 2 ^ 64 → unbroken_prefix (is_sound_in l (as_read d) s) (marker_of u.entries s) 0 (stored_records l (as_read d) s) ≡ stored_records l (as_read d) s) where
      pub trimming : IsPhase l apart d x (λ s. is_some (j.sections.held s)) false
      trimming = record {
        readable = λ q own. readable q;
        no_chance = rests_no_chance rests t;
        others = λ q none. values_cut_only q (λ is. none (inr (inl is)));
      }

      rest_of : (s : ℕ) → IsHeld j.sections s → StandsSettled (d (section_key l.index s))
      rest_of s held = elim (none_or_value (j.sections.held s)) [
        | inl none ↦ absurd (cc (subst IsSome none held))
        | inr some ↦ index_rest rests.parts t s some.0 some.1
      ]

      abbrev ending : ℕ → ℕ
      ending s = last_end l.place (records l.record_size (fixed.section_bytes j.sections d s))

      trim_left : (s : ℕ) → s < 2 ^ 64 → IsHeld j.sections s → (left : Option (List ℕ)) → MayLeave (x (section_key l.values s)) left → IsPrefixOf (take (ending s) (content_at (as_read d) l.values s)) (unwrap_or left [])
      trim_left s small held left may = elim (none_or_value (m.held s)) [
        | inl none ↦ prefix_none (ending s) (content_at (as_read d) l.values s) (unwrap_or left [])
            (ap (λ (y : Option (List ℕ)). unwrap_or y []) (reads_absent (d (section_key l.values s)) (values_absent rests.parts t s small none)))
            (left_bare (d (section_key l.values s)) (bare.values s small none) left (subst (λ (b : Blob). MayLeave b left) (values_still s small none) may))
        | inr some ↦ elim (none_or_value (j.sections.held s)) [
          | inl absent ↦ absurd (cc (subst IsSome absent held))
          | inr has ↦
              let v = some.0 in
              let content : List ℕ = (d (section_key l.values s)).content in
              let rest = values_rest rests.parts t s v some.1 in
              let stands = (rests.parts.values.over.disk t).stands s v some.1 in
              let bytes : content_of v content ≡ content = sym (rest.1 ∙ ap (λ (y : Option WriteBlob). glob.bytes_held y (d (key_of m s)).content) some.1 ∙ ap (λ (k : Key). content_of v (d k).content) (values_key rests.parts s)) in
              let long : v.settled ≡ length content = (value_idle rests.parts s v some.1).0 ∙ sym (counted v (d (key_of m s)) stands) ∙ ap (λ (k : Key). length (content_of v (d k).content)) (values_key rests.parts s) ∙ ap length bytes in
              let out : Outlasts (settled_to (ending s) v content) (content_of v content) (x (section_key l.values s)) = (each (section_key l.values s)).shortened s (ending s) v (ap (λ (y : Option (PageBlob S gs)). option_map (λ w. ending s) y) has.1) some.1 (sym (values_key rests.parts s)) in
              subst (λ (c : List ℕ). IsPrefixOf (take (ending s) c) (unwrap_or left [])) (sym (ap (λ (y : Option (List ℕ)). unwrap_or y []) (reads_there (d (section_key l.values s)) (rest_there (d (section_key l.values s)) rest.0))))
              (subst (λ (c : List ℕ). IsPrefixOf c (unwrap_or left [])) (ap (take (min v.settled (ending s))) bytes ∙ take_min v.settled (ending s) content long)
              (prefix_of (settled_to (ending s) v content) left (out.leaves left may)))
        ]
      ]

      pub trimmed : (s : ℕ) → s < 2 ^ 64 → IsTrue (is_some (j.sections.held s)) → IsTrimmed l apart d x (λ s. is_some (j.sections.held s)) false trimming (marker_of u.entries s) s
      trimmed s small held = record {
        n = ending s;
        reach = omega (arith, ap (last_end l.place) (stored_at rests t s small));
        whole = whole s small;
        leaves = trim_left s small held;
        index = λ left may. rest_left (d (section_key l.index s)) (rest_of s held) left (subst (λ (b : Blob). MayLeave b left) (index_still s) may);
      }

      pub cutting_recalls : (Rel : Relation) → IsOrder Rel → RecallsBy l Rel d x
      cutting_recalls Rel order = values_by l apart d x (λ s. is_some (j.sections.held s)) false trimming Rel order refl (λ s. marker_of u.entries s) (has_markers rests.marks t map_readable apart x (λ s. is_some (j.sections.held s)) trimming)
          (λ s small changed. inl (trimmed s small changed))

  -- ---- values without records are removed
  module _ (apart : AreApart l) (x : Disk) (others : (q : Key) → (IsValuesOf l (λ s. j.sections.held s ≡ None) q → ⊥) → x q ≡ d q) (bare : Bare l j.sections m d) (readable : (q : Key) → MayLeave (d q) (reads (d q))) (map_readable : IsReadable l.markers) where
    pub removing : IsPhase l apart d x (λ s. not (is_some (j.sections.held s))) false
    removing = record {
      readable = λ q own. readable q;
      no_chance = rests_no_chance rests t;
      others = λ q none. others q (λ is. none (inr (inl (is.0, is.1, ap (λ (y : Option (PageBlob S gs)). not (is_some y)) is.2, is.3))));
    }

    index_same : (s : ℕ) → x (section_key l.index s) ≡ d (section_key l.index s)
    index_same s = others (section_key l.index s) (λ is. apart.values (ap (λ (k : Key). k.0) is.3))

    pub bare_now : (s : ℕ) → s < 2 ^ 64 → IsTrue (not (is_some (j.sections.held s))) → IsBare l apart d x (λ s. not (is_some (j.sections.held s))) false removing s
    bare_now s small changed =
        let none : j.sections.held s ≡ None = unset (j.sections.held s) changed in
        record {
          absent = reads_absent (d (section_key l.index s)) (index_absent rests t s small none);
          none = stored_at rests t s small ∙ none_stored rests t s none;
          index = λ left may. ap (λ (c : List ℕ). records l.record_size (sealed_prefix l.seal l.page_size c))
              (left_bare (d (section_key l.index s)) (bare.index s small none) left (subst (λ (b : Blob). MayLeave b left) (index_same s) may)
              ∙ sym (ap (λ (y : Option (List ℕ)). unwrap_or y []) (reads_absent (d (section_key l.index s)) (index_absent rests t s small none))))
              ∙ stored_at rests t s small ∙ none_stored rests t s none;
        }

    pub removing_recalls : (Rel : Relation) → IsOrder Rel → RecallsBy l Rel d x
    removing_recalls Rel order = values_by l apart d x (λ s. not (is_some (j.sections.held s))) false removing Rel order refl (λ s. marker_of u.entries s) (has_markers rests.marks t map_readable apart x (λ s. not (is_some (j.sections.held s))) removing)
        (λ s small changed. inr (bare_now s small changed))

-- ---- records are cut
-- from a call that says its moments in the bytes of the sections, of which each is proven
module _ {F S : Type 0} {gs : _} {g : buffer.Ghosts (PageBlob S gs)} {gives : F → Setting} {takes : WriteFactory → Setting} {told : Type 0} {Rel : Relation} {l : Layout} {i0 : Sections F (PageBlob S gs)} {m0 : Sections WriteFactory WriteBlob} {u : Store Key8 ℕ} {ends : ℕ → Option ℕ} {given : ℕ → List (List ℕ)} {j : Lists F (PageBlob S gs)} {o : OpenedList}
    {d : Disk} (e : Ends g gives takes told Rel l i0 m0 u ends given j o d) (t : told) (x : Disk) (each : Each (Shortening l.seal j.sections (λ s. CutTo l.record_size (ends s)) d) x) where
  both : (end : Option ℕ) (held : Option (PageBlob S gs)) → IsSomeAnd (CutTo l.record_size end) (λ n. IsSomeAnd held (λ v. n < size_of (shown v))) → IsSome end × IsSome held
  both None held is = absurd is
  both (Some p) None is = absurd is
  both (Some p) (Some v) is = (refl, refl)

  pub index_cut_only : (q : Key) → (IsIndexOf l (λ s. IsSome (ends s)) q → ⊥) → x q ≡ d q
  index_cut_only q none = (each q).others (λ w. (let has = both (ends w.0) (j.sections.held w.0) w.1 in none (w.0, index_number e.rests.parts w.0 has.1, has.0, w.2 ∙ index_key e.rests.parts w.0)))

  -- what is left of a section that is cut
  cut_left : (s p : ℕ) → s < 2 ^ 64 → ends s ≡ Some p
      → pages.Leaves l.seal l.page_size (sealed_prefix l.seal l.page_size (content_at (as_read d) l.index s)) (p * l.record_size) (x (section_key l.index s))
  cut_left s p small is = elim (none_or_value (j.sections.held s)) [
    | inl none ↦ absurd (omega (arith, e.within t s p is, ap length (none_stored e.rests t s none)))
    | inr some ↦
        let v = some.0 in
        let key = section_key l.index s in
        let settles = index_settles e.rests t s v some.1 in
        let bytes : bytes_of (shown v) (d key).content ≡ fixed.section_bytes j.sections d s = sym (ap (λ (y : Option (PageBlob S gs)). fixed.bytes_held y (d (key_of j.sections s)).content) some.1 ∙ ap (λ (k : Key). bytes_of (shown v) (d k).content) (index_key e.rests.parts s)) in
        let count : length (records l.record_size (fixed.section_bytes j.sections d s)) ≡ length (fixed.section_bytes j.sections d s) / l.record_size = length-records l.record_size (fixed.section_bytes j.sections d s) in
        let lt : p < length (fixed.section_bytes j.sections d s) / l.record_size = omega (arith, e.within t s p is, count) in
        let fit : p * l.record_size + l.record_size ≤ length (fixed.section_bytes j.sections d s) = item_ends l.record_size (length (fixed.section_bytes j.sections d s)) p lt in
        let least : min v.settled (p * l.record_size) ≡ p * l.record_size = omega (arith, all_of e.rests.parts s v some.1, sealed_laws.counted (shown v) (d key).content, ap length bytes, fit) in
        let there : content_at (as_read d) l.index s ≡ (d key).content = ap (λ (y : Option (List ℕ)). unwrap_or y []) (reads_there (d key) (rest_there (d key) settles.rest)) in
        subst (λ (c : List ℕ). pages.Leaves l.seal l.page_size (sealed_prefix l.seal l.page_size c) (p * l.record_size) (x key)) (sym there)
        (subst (λ (c : List ℕ). pages.Leaves l.seal l.page_size c (p * l.record_size) (x key)) (bytes ∙ sym settles.prefix)
        (subst (λ (n : ℕ). pages.Leaves l.seal l.page_size (bytes_of (shown v) (d key).content) n (x key)) least
        (subst (λ (n : ℕ). pages.Leaves l.seal n (bytes_of (shown v) (d key).content) (min v.settled (p * l.record_size)) (x key)) (paged e.rests.parts s v some.1)
        ((each key).shortened s (p * l.record_size) v (ap (CutTo l.record_size) is) some.1 (sym (index_key e.rests.parts s))))))
  ]

  pub shortening_cuts : CutsTo l ends d x
  shortening_cuts = record { leaves = λ s p small is. cut_left s p small is; others = index_cut_only }

-- Whatever is owed of a replay: what is left are sealed records up to the ends.
module _ {F S : Type 0} {gs : _} {g : buffer.Ghosts (PageBlob S gs)} {gives : F → Setting} {takes : WriteFactory → Setting} {told : Type 0} {Rel : Relation} {l : Layout} {i : Sections F (PageBlob S gs)} {m : Sections WriteFactory WriteBlob} {u : Store Key8 ℕ} {ends : ℕ → Option ℕ} {o : OpenedList}
    {d : Disk} (known : Known g gives takes told l i m u o d) (t : told) (apart : AreApart l) (bounds : Bounds Rel l u ends d) (x : Disk) (cuts : CutsTo l ends d x) where
  values_same : (s : ℕ) → x (section_key l.values s) ≡ d (section_key l.values s)
  values_same s = cuts.others (section_key l.values s) (λ is. apart.values (sym (ap (λ (k : Key). k.0) is.3)))

  module _ (may : MayBeOpened l d) (readable : (q : Key) → MayLeave (d q) (reads (d q))) (map_readable : IsReadable l.markers) where
    pub shortening : IsPhase l apart d x (λ s. is_some (ends s)) false
    shortening = record {
      readable = λ q own. readable q;
      no_chance = known_no_chance known t;
      others = λ q none. cuts.others q (λ is. none (inl is));
    }

    pub cut_at : (s p : ℕ) → s < 2 ^ 64 → ends s ≡ Some p → IsCut l apart d x (λ s. is_some (ends s)) false shortening Rel (marker_of u.entries s) s
    cut_at s p small is = record {
      p = p;
      high = (bounds.from s p is).1;
      prefixes = bounds.prefixes s p small is;
      leaves = cuts.leaves s p small is;
      values = λ left left_may. values_left known t (bare_of known t may) s small left (subst (λ (b : Blob). MayLeave b left) (values_same s) left_may);
    }

    pub shortening_recalls : RecallsBy l Rel d x
    shortening_recalls = records_by l apart d x (λ s. is_some (ends s)) false shortening Rel bounds.order refl known.parts.some (λ s. marker_of u.entries s) (has_markers known.marks t map_readable apart x (λ s. is_some (ends s)) shortening)
        (λ s small changed. go s small (ends s) refl changed)
      where
        go : (s : ℕ) → s < 2 ^ 64 → (y : Option ℕ) → ends s ≡ y → IsTrue (is_some (ends s)) → IsCut l apart d x (λ s. is_some (ends s)) false shortening Rel (marker_of u.entries s) s
        go s small None is changed = absurd (cc (subst IsSome is changed))
        go s small (Some p) is changed = cut_at s p small is
