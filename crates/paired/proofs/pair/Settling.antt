-- What a sync of a pair's sections keeps at each moment: their records settle first, then their values.
use Rattle.std.proofs.Common.{◌≡◌, ◌⊎◌, inl, inr, ℕ, ◌^◌, ◌<◌, ◌≤◌, true, List, [], take, length, None, Some, IsSome, IsSomeAnd, refl, sym, ◌∙◌, ap, subst}
use Rattle.std.specs.Prelude.{⊤}
use Rattle.blob_device.specs.Disk.{Key, Blob, Disk}
use Rattle.blob_device.specs.Opened.{OpenedList}
use Rattle.blob_device.specs.Timeline.{Timeline, disk, Always, Each}
use Rattle.blob_device.specs.lemmas.Moments.{always_now, always_then, always_weaker}
use Rattle.sealed_pages.specs.declared.page_blob.PageBlob.{PageBlob}
use Rattle.sealed_pages.specs.declared.write_blob.WriteBlob.{WriteBlob}
use Rattle.section_manager.specs.declared.buffer.SectionBuffer as buffer
use Rattle.section_manager.specs.declared.unsealed.WriteFactory.{WriteFactory}
use Rattle.section_manager.specs.Lasting as lasting
use Rattle.section_manager.specs.Sections.{Sections, section_key, key_of, IsHeld, IsKeyOf, SameBounds, IsSynced}
use Rattle.section_manager.specs.Setting.{Setting}
use Rattle.section_manager.specs.unsealed.Buffer.{content_of}
use Rattle.section_manager.specs.lemmas.Keys.{key_injective}
use Rattle.segments.specs.FixedLasting as fixed
use Rattle.segments.specs.FixedLists.{Lists, IsJournal}
use Rattle.paired.specs.lemmas.Glob.{buffers}
use Rattle.paired.specs.lemmas.pair.Blobs.{lasting_none}
use Rattle.paired.specs.lemmas.pair.Facts.{Parts, facts_of, good_of, holding_of, lasting_held, proven_of, unvalued, values_held, values_last}
use Rattle.paired.specs.lemmas.pair.Synced.{Here}
use Rattle.segments.specs.lemmas.adding.Write.{ArePages}
use Rattle.meta_store.specs.Store.{contents_of}
use Rattle.paired.specs.Crashes.{IsIndexOf, IsValuesOf, IsBlobOf, IsCopy, IsOwn, InOrder, LeavesAlone, Keeping}
use Rattle.paired.specs.glob.Lasting.{Outlasts}
use Rattle.paired.specs.glob.Lasting as values_lasting
use Rattle.paired.specs.glob.Sections.{IsGlob}
use Rattle.paired.specs.glob.Sections as glob
use Rattle.paired.specs.Holding.{Facts, AreGood, IsLasting, LeavesNoRecords, ValuesStand, Holding}
use Rattle.paired.specs.Kept.{Layout, HasNoFloor}
use Rattle.paired.specs.Pair.{Pair, AreApart, IsPair, IsSoundOn, list_of, synced_length}
use Rattle.paired.specs.Records.{Entry, records}
use Rattle.paired.proofs.pair.Calls.{sync_records, sync_values}
use Rattle.paired.proofs.pair.Holding.{leaves_list}
use Rattle.paired.proofs.pair.Sections.{IndexSynced, ValuesSynced}
use Rattle.blob_device.proofs.general.Options.{none_or_value, value_of}

-- an unsettled section is held
pub unsettled_held : {F : Type 0} (m : Sections F WriteBlob) (s : ℕ) → glob.IsUnsettled m s → IsHeld m s
unsettled_held m s is = let some = value_of (m.held s) _ is in subst IsSome (sym some.is) refl

-- a copy of the markers is no blob of a section
pub copy_no_blob : (l : Layout) (IsNamed : ℕ → Type 0) → AreApart l → (q : Key) → IsCopy l q → IsBlobOf l IsNamed q → ⊥
copy_no_blob l IsNamed apart q copy (inl is) = apart.metadata (ap (λ (k : Key). k.0) (sym is.3 ∙ copy.1))
copy_no_blob l IsNamed apart q copy (inr is) = apart.both (ap (λ (k : Key). k.0) (sym is.3 ∙ copy.1))

pub own_blob : (l : Layout) (IsNamed : ℕ → Type 0) (q : Key) → IsBlobOf l IsNamed q → IsOwn l IsNamed q
own_blob l IsNamed q (inl is) = inl is
own_blob l IsNamed q (inr is) = inr (inl is)

-- ---- what the calls of the two kinds of sections say
pub index_synced_of : {F S : Type 0} {gs : _} {g : buffer.Ghosts (PageBlob S gs)} {gives : F → Setting} {told : Type 0} (seal : List ℕ → ℕ) (size : ℕ) (IsNamed : ℕ → Type 0) (j k : Lists F (PageBlob S gs)) (old new : OpenedList) (a b : Timeline)
    → IsJournal g gives seal size told j old (disk a)
    → ((s : ℕ) (u : PageBlob S gs) → IsNamed s → j.sections.held s ≡ Some u → IsSomeAnd (k.sections.held s) (λ v. IsSynced g told u v (disk a (key_of j.sections s)) (disk b (key_of j.sections s))))
    → ((s : ℕ) → j.sections.held s ≡ None → k.sections.held s ≡ None) → ((s : ℕ) → (IsNamed s → ⊥) → k.sections.held s ≡ j.sections.held s)
    → ((s : ℕ) → k.sections.unopened s ≡ j.sections.unopened s) → SameBounds j.sections k.sections → ((s : ℕ) → k.unrecovered s ≡ j.unrecovered s) → ((s : ℕ) → k.floor_of s ≡ j.floor_of s)
    → ((q : Key) → (IsKeyOf j.sections (λ s. IsNamed s × lasting.IsUnsettled g j.sections s) q → ⊥) → new q ≡ old q)
    → (told → Always a b (Each (fixed.Settling seal j IsNamed (disk a)))) → IndexSynced g told IsNamed j k old new (disk a) (disk b)
index_synced_of {g = g} seal size IsNamed j k old new a b journal named none others unopened bounds unrecovered floors entries moments = record {
  named = named;
  none = none;
  others = others;
  unopened = unopened;
  bounds = bounds;
  unrecovered = unrecovered;
  floors = floors;
  number = λ s held. journal.over.opened_list.number s (inl held);
  entries = λ q not. entries q (λ w. (let some = value_of (j.sections.held w.0) (λ u. g.unsettled u ≡ true) w.1.1 in not (w.0, (w.1.0, subst IsSome (sym some.is) refl), w.2)));
  blobs = λ t q not. (always_now a b (Each (fixed.Settling seal j IsNamed (disk a))) (moments t) q).others (λ w. not (w.0, (w.1.0, w.1.1), w.2));
}

pub values_synced_of : {F : Type 0} {told : Type 0} (IsNamed : ℕ → Type 0) (m n : Sections F WriteBlob) (old new : OpenedList) (a b : Timeline)
    → ((s : ℕ) (u : WriteBlob) → IsNamed s → m.held s ≡ Some u → IsSomeAnd (n.held s) (λ v. IsSynced buffers told u v (disk a (key_of m s)) (disk b (key_of m s))))
    → ((s : ℕ) → m.held s ≡ None → n.held s ≡ None) → ((s : ℕ) → (IsNamed s → ⊥) → n.held s ≡ m.held s)
    → ((s : ℕ) → n.unopened s ≡ m.unopened s) → SameBounds m n → (told → (s : ℕ) → glob.section_bytes n (disk b) s ≡ glob.section_bytes m (disk a) s)
    → ((q : Key) → (IsKeyOf m (λ s. IsNamed s × glob.IsUnsettled m s) q → ⊥) → new q ≡ old q)
    → (told → Always a b (Each (values_lasting.Settling m IsNamed (disk a)))) → ValuesSynced told IsNamed m n old new (disk a) (disk b)
values_synced_of IsNamed m n old new a b named none others unopened bounds bytes entries moments = record {
  named = named;
  none = none;
  others = others;
  unopened = unopened;
  bounds = bounds;
  bytes = bytes;
  entries = λ q not. entries q (λ w. not (w.0, (w.1.0, unsettled_held m w.0 w.1.1), w.2));
  blobs = λ t q not. (always_now a b (Each (values_lasting.Settling m IsNamed (disk a))) (moments t) q).others (λ w. not (w.0, (w.1.0, unsettled_held m w.0 w.1.1), w.2));
}

-- ---- the entries that they may change
module _ {F S : Type 0} {gs : _} {g : buffer.Ghosts (PageBlob S gs)} {gives : F → Setting} {takes : WriteFactory → Setting} {told : Type 0} (p : Pair F (PageBlob S gs)) (o : OpenedList) (d : Disk) (IsNamed : ℕ → Type 0)
    (here : Here gives p) (pair : IsPair g gives buffers takes told p o d) (q : Key) (not : IsBlobOf p.layout IsNamed q → ⊥) where
  pub index_entry : IsKeyOf p.index.sections (λ s. IsNamed s × lasting.IsUnsettled g p.index.sections s) q → ⊥
  index_entry w =
      let some = value_of (p.index.sections.held w.0) (λ u. g.unsettled u ≡ true) w.1.1 in
      not (inl (w.0, pair.index.over.opened_list.number w.0 (inl (subst IsSome (sym some.is) refl)), w.1.0, w.2 ∙ ap (λ (x : List ℕ). section_key x w.0) here.index))

  pub values_entry : IsKeyOf p.values (λ s. IsNamed s × glob.IsUnsettled p.values s) q → ⊥
  values_entry w = not (inr (w.0, pair.values.over.opened_list.number w.0 (inl (unsettled_held p.values w.0 w.1.1)), w.1.0, w.2 ∙ ap (λ (x : List ℕ). section_key x w.0) here.values))

-- ---- one call behind another
abbrev Ordered : (Key → Type 0) → (Key → Type 0) → Timeline → Timeline → Disk → Type 0
Ordered First Second a c d = ((q : Key) → Second q → d q ≡ disk a q) ⊎ ((q : Key) → First q → d q ≡ disk c q)

pub in_order : (First Second : Key → Type 0) (a b c : Timeline) → Always a b (λ d. (q : Key) → Second q → d q ≡ disk a q) → Always b c (λ d. (q : Key) → First q → d q ≡ disk b q) → InOrder First Second a c
in_order First Second a b c first second =
    always_then a b c (Ordered First Second a c) (always_weaker a b (λ d. (q : Key) → Second q → d q ≡ disk a q) (Ordered First Second a c) (λ d is. inl is) first)
    (always_weaker b c (λ d. (q : Key) → First q → d q ≡ disk b q) (Ordered First Second a c) (λ d is. inr (λ q f. is q f ∙ sym (always_now b c (λ e. (x : Key) → First x → e x ≡ disk b x) second q f))) second)

-- and one more that touches nothing of the first kind
pub in_order_then : (First Second : Key → Type 0) (a b c : Timeline) → InOrder First Second a b → Always b c (λ d. (q : Key) → First q → d q ≡ disk b q) → InOrder First Second a c
in_order_then First Second a b c first second =
    always_then a b c (Ordered First Second a c) (always_weaker a b (Ordered First Second a b) (Ordered First Second a c) go first)
    (always_weaker b c (λ d. (q : Key) → First q → d q ≡ disk b q) (Ordered First Second a c) (λ d is. inr (λ q f. is q f ∙ sym (after q f))) second)
  where
    after : (q : Key) → First q → disk c q ≡ disk b q
    after = always_now b c (λ e. (x : Key) → First x → e x ≡ disk b x) second

    go : (d : Disk) → Ordered First Second a b d → Ordered First Second a c d
    go d (inl same) = inl same
    go d (inr done) = inr (λ q f. done q f ∙ sym (after q f))

-- Blobs of sections that are not named did not change: what is in order for the named ones is for all.
module _ (l : Layout) (apart : AreApart l) (IsNamed : ℕ → Type 0) (decides : (s : ℕ) → IsNamed s ⊎ (IsNamed s → ⊥)) (a b : Timeline) (alone : Always a b (λ d. (q : Key) → (IsBlobOf l IsNamed q → ⊥) → d q ≡ disk a q)) where
  other_index : (d : Disk) → ((q : Key) → (IsBlobOf l IsNamed q → ⊥) → d q ≡ disk a q) → (q : Key) → (is : IsIndexOf l (λ _. ⊤) q) → (IsNamed is.0 → ⊥) → d q ≡ disk a q
  other_index d same q is out = same q (λ w. elim w [
    | inl i ↦ out (subst IsNamed (key_injective l.index i.0 is.0 i.1 is.1 (sym i.3 ∙ is.3)) i.2)
    | inr v ↦ absurd (apart.values (ap (λ (k : Key). k.0) (sym is.3 ∙ v.3)))
  ])

  other_values : (d : Disk) → ((q : Key) → (IsBlobOf l IsNamed q → ⊥) → d q ≡ disk a q) → (q : Key) → (is : IsValuesOf l (λ _. ⊤) q) → (IsNamed is.0 → ⊥) → d q ≡ disk a q
  other_values d same q is out = same q (λ w. elim w [
    | inl i ↦ absurd (apart.values (ap (λ (k : Key). k.0) (sym i.3 ∙ is.3)))
    | inr v ↦ out (subst IsNamed (key_injective l.values v.0 is.0 v.1 is.1 (sym v.3 ∙ is.3)) v.2)
  ])

  both : InOrder (IsIndexOf l IsNamed) (IsValuesOf l IsNamed) a b → Always a b (λ d. Ordered (IsIndexOf l IsNamed) (IsValuesOf l IsNamed) a b d × ((q : Key) → (IsBlobOf l IsNamed q → ⊥) → d q ≡ disk a q))
  both order = record { later = order.later; kept = order.kept; each = λ m lo hi. (order.each m lo hi, alone.each m lo hi) }

  go : (d : Disk) → Ordered (IsIndexOf l IsNamed) (IsValuesOf l IsNamed) a b d → ((q : Key) → (IsBlobOf l IsNamed q → ⊥) → d q ≡ disk a q) → Ordered (IsIndexOf l (λ _. ⊤)) (IsValuesOf l (λ _. ⊤)) a b d
  go d (inl same) others = inl (λ q is. elim (decides is.0) [
    | inl named ↦ same q (is.0, is.1, named, is.3)
    | inr out ↦ other_values d others q is out
  ])
  go d (inr done) others = inr (λ q is. elim (decides is.0) [
    | inl named ↦ done q (is.0, is.1, named, is.3)
    | inr out ↦ other_index d others q is out ∙ sym (other_index (disk b) (always_now a b (λ e. (k : Key) → (IsBlobOf l IsNamed k → ⊥) → e k ≡ disk a k) alone) q is out)
  ])

  pub all_in_order : InOrder (IsIndexOf l IsNamed) (IsValuesOf l IsNamed) a b → InOrder (IsIndexOf l (λ _. ⊤)) (IsValuesOf l (λ _. ⊤)) a b
  all_in_order order = always_weaker a b (λ d. Ordered (IsIndexOf l IsNamed) (IsValuesOf l IsNamed) a b d × ((q : Key) → (IsBlobOf l IsNamed q → ⊥) → d q ≡ disk a q))
      (Ordered (IsIndexOf l (λ _. ⊤)) (IsValuesOf l (λ _. ⊤)) a b) (λ d is. go d is.0 is.1) (both order)

-- a blob of a section that is named twice is one of a section that is named so
pub blob_within : (l : Layout) (P Q : ℕ → Type 0) → ((s : ℕ) → P s → Q s) → (q : Key) → IsBlobOf l P q → IsBlobOf l Q q
blob_within l P Q within q (inl is) = inl (is.0, is.1, within is.0 is.2, is.3)
blob_within l P Q within q (inr is) = inr (is.0, is.1, within is.0 is.2, is.3)

-- a blob of a named section is one of some section
pub any_blob : (l : Layout) (IsNamed : ℕ → Type 0) (q : Key) → IsBlobOf l IsNamed q → IsIndexOf l (λ _. ⊤) q ⊎ IsValuesOf l (λ _. ⊤) q
any_blob l IsNamed q (inl is) = inl (is.0, is.1, tt, is.3)
any_blob l IsNamed q (inr is) = inr (is.0, is.1, tt, is.3)

-- what is kept of lists is kept of longer ones, of which no more was synced, by a call that may touch more
pub keeping_wider : (l : Layout) (wanted longer : ℕ → List Entry) (synced few : ℕ → ℕ) (Gone : ℕ → Type 0) (Touches May : Key → Type 0) (a b : Timeline)
    → ((s : ℕ) → take (length (wanted s)) (longer s) ≡ wanted s) → ((s : ℕ) → few s ≤ synced s) → ((q : Key) → Touches q → May q) → Keeping l wanted synced Gone Touches a b → Keeping l longer few Gone May a b
keeping_wider l wanted longer synced few Gone Touches May a b prefix le may keeping =
    always_weaker a b (LeavesAlone l wanted synced Gone Touches (disk a)) (LeavesAlone l longer few Gone May (disk a)) (λ d alone. record {
      leaves = leaves_list l wanted longer synced few Gone Gone d prefix le (λ s gone. gone) alone.leaves;
      others = λ q not. alone.others q (λ is. not (may q is));
    }) keeping

-- ---- a sync of the named sections, from what its two calls leave
module _ {F S : Type 0} {gs : _} (g : buffer.Ghosts (PageBlob S gs)) (gives : F → Setting) {takes : WriteFactory → Setting} (told : Type 0) (p : Pair F (PageBlob S gs)) (o : OpenedList) (IsNamed : ℕ → Type 0) (a b : Timeline)
    (here : Here gives p) (pair : IsPair g gives buffers takes told p o (disk a)) (index : Always a b (Each (fixed.Settling p.layout.seal p.index IsNamed (disk a)))) where
  -- a section that is named and held
  abbrev Acts : ℕ → Type 0
  Acts s = IsNamed s × IsHeld p.index.sections s

  index_others : (d : Disk) → Each (fixed.Settling p.layout.seal p.index IsNamed (disk a)) d → (q : Key) → (IsIndexOf p.layout Acts q → ⊥) → d q ≡ disk a q
  index_others d each q not = (each q).others (λ w. not (w.0, pair.index.over.opened_list.number w.0 (inl w.1.1), (w.1.0, w.1.1), w.2 ∙ ap (λ (x : List ℕ). section_key x w.0) here.index))

  named_index : (q : Key) → IsIndexOf p.layout Acts q → IsIndexOf p.layout IsNamed q
  named_index q is = (is.0, is.1, is.2.0, is.3)

  named_values : (q : Key) → IsValuesOf p.layout Acts q → IsValuesOf p.layout IsNamed q
  named_values q is = (is.0, is.1, is.2.0, is.3)

  -- while the records settle no other blob changes
  index_only : Always a b (λ d. (q : Key) → (IsIndexOf p.layout IsNamed q → ⊥) → d q ≡ disk a q)
  index_only = always_weaker a b (Each (fixed.Settling p.layout.seal p.index IsNamed (disk a))) (λ d. (q : Key) → (IsIndexOf p.layout IsNamed q → ⊥) → d q ≡ disk a q)
      (λ d each q not. index_others d each q (λ is. not (named_index q is))) index

  pub settle_index_alone : Always a b (λ d. (q : Key) → (IsBlobOf p.layout IsNamed q → ⊥) → d q ≡ disk a q)
  settle_index_alone = always_weaker a b (λ d. (q : Key) → (IsIndexOf p.layout IsNamed q → ⊥) → d q ≡ disk a q) (λ d. (q : Key) → (IsBlobOf p.layout IsNamed q → ⊥) → d q ≡ disk a q)
      (λ d only q not. only q (λ is. not (inl is))) index_only

  -- nor does one of a section that is not held
  pub settle_index_untouched : Always a b (λ d. (q : Key) → (IsBlobOf p.layout Acts q → ⊥) → d q ≡ disk a q)
  settle_index_untouched = always_weaker a b (Each (fixed.Settling p.layout.seal p.index IsNamed (disk a))) (λ d. (q : Key) → (IsBlobOf p.layout Acts q → ⊥) → d q ≡ disk a q)
      (λ d each q not. index_others d each q (λ is. not (inl is))) index

  index_leaves_values : Always a b (λ d. (q : Key) → IsValuesOf p.layout IsNamed q → d q ≡ disk a q)
  index_leaves_values = always_weaker a b (λ d. (q : Key) → (IsIndexOf p.layout IsNamed q → ⊥) → d q ≡ disk a q) (λ d. (q : Key) → IsValuesOf p.layout IsNamed q → d q ≡ disk a q)
      (λ d only q is. only q (λ other. pair.apart.values (ap (λ (k : Key). k.0) (sym other.3 ∙ is.3)))) index_only

  pub settle_index_order : InOrder (IsIndexOf p.layout IsNamed) (IsValuesOf p.layout IsNamed) a b
  settle_index_order = always_weaker a b (λ d. (q : Key) → IsValuesOf p.layout IsNamed q → d q ≡ disk a q)
      (λ d. ((q : Key) → IsValuesOf p.layout IsNamed q → d q ≡ disk a q) ⊎ ((q : Key) → IsIndexOf p.layout IsNamed q → d q ≡ disk b q)) (λ d is. inl is) index_leaves_values

  module _ (c : Timeline) (values : Always b c (Each (values_lasting.Settling p.values IsNamed (disk b)))) where
    values_others : (d : Disk) → Each (values_lasting.Settling p.values IsNamed (disk b)) d → (q : Key) → (IsValuesOf p.layout Acts q → ⊥) → d q ≡ disk b q
    values_others d each q not = (each q).others (λ w. (let held : IsHeld p.index.sections w.0 = pair.whole.values_held w.0 (unsettled_held p.values w.0 w.1.1) in
        not (w.0, pair.index.over.opened_list.number w.0 (inl held), (w.1.0, held), w.2 ∙ ap (λ (x : List ℕ). section_key x w.0) here.values)))

    values_only : Always b c (λ d. (q : Key) → (IsValuesOf p.layout IsNamed q → ⊥) → d q ≡ disk b q)
    values_only = always_weaker b c (Each (values_lasting.Settling p.values IsNamed (disk b))) (λ d. (q : Key) → (IsValuesOf p.layout IsNamed q → ⊥) → d q ≡ disk b q)
        (λ d each q not. values_others d each q (λ is. not (named_values q is))) values

    pub settle_alone : Always a c (λ d. (q : Key) → (IsBlobOf p.layout IsNamed q → ⊥) → d q ≡ disk a q)
    settle_alone = always_then a b c (λ d. (q : Key) → (IsBlobOf p.layout IsNamed q → ⊥) → d q ≡ disk a q) settle_index_alone
        (always_weaker b c (λ d. (q : Key) → (IsValuesOf p.layout IsNamed q → ⊥) → d q ≡ disk b q) (λ d. (q : Key) → (IsBlobOf p.layout IsNamed q → ⊥) → d q ≡ disk a q)
        (λ d only q not. only q (λ is. not (inr is)) ∙ always_now a b (λ e. (x : Key) → (IsBlobOf p.layout IsNamed x → ⊥) → e x ≡ disk a x) settle_index_alone q not) values_only)

    pub settle_untouched : Always a c (λ d. (q : Key) → (IsBlobOf p.layout Acts q → ⊥) → d q ≡ disk a q)
    settle_untouched = always_then a b c (λ d. (q : Key) → (IsBlobOf p.layout Acts q → ⊥) → d q ≡ disk a q) settle_index_untouched
        (always_weaker b c (Each (values_lasting.Settling p.values IsNamed (disk b))) (λ d. (q : Key) → (IsBlobOf p.layout Acts q → ⊥) → d q ≡ disk a q)
        (λ d each q not. values_others d each q (λ is. not (inr is)) ∙ always_now a b (λ e. (x : Key) → (IsBlobOf p.layout Acts x → ⊥) → e x ≡ disk a x) settle_index_untouched q not) values)

    pub settle_order : InOrder (IsIndexOf p.layout IsNamed) (IsValuesOf p.layout IsNamed) a c
    settle_order = in_order (IsIndexOf p.layout IsNamed) (IsValuesOf p.layout IsNamed) a b c index_leaves_values
        (always_weaker b c (λ d. (q : Key) → (IsValuesOf p.layout IsNamed q → ⊥) → d q ≡ disk b q) (λ d. (q : Key) → IsIndexOf p.layout IsNamed q → d q ≡ disk b q)
        (λ d only q is. only q (λ other. pair.apart.values (ap (λ (k : Key). k.0) (sym is.3 ∙ other.3)))) values_only)

  -- ---- what a crash leaves
  module _ (pages : ArePages g p.layout.seal) (decides : (s : ℕ) → IsNamed s ⊎ (IsNamed s → ⊥)) (x : told) (parts : Parts p.layout p.index p.values (synced_length p) (disk a) g gives takes told p.store o)
      (no_floor : HasNoFloor (contents_of p.store)) where
    abbrev facts : ℕ → Facts
    facts = facts_of p.layout p.index p.values (synced_length p) (disk a)

    good : (s : ℕ) → AreGood p.layout (facts s)
    good = good_of p.layout p.index p.values (synced_length p) (disk a) p.store o here.some parts x

    holding : Holding p.layout facts (λ _. ⊥) (contents_of p.store) (contents_of p.store) (disk a)
    holding = holding_of p.layout p.index p.values (synced_length p) (disk a) p.store o here.some parts x no_floor (λ _. ⊥)

    acts_or_not : (s : ℕ) → Acts s ⊎ (Acts s → ⊥)
    acts_or_not s = elim (decides s) [
      | inl is ↦ elim (none_or_value (p.index.sections.held s)) [
        | inl none ↦ inr (λ both. absurd (cc (subst IsSome none both.1)))
        | inr some ↦ inl (is, subst IsSome (sym some.1) refl)
      ]
      | inr not ↦ inr (λ both. not both.0)
    ]

    index_lasts : (d : Disk) → Each (fixed.Settling p.layout.seal p.index IsNamed (disk a)) d → (s : ℕ) → s < 2 ^ 64 → Acts s → IsLasting p.layout (facts s) (d (section_key p.layout.index s))
    index_lasts d each s lt is = elim (none_or_value (p.index.sections.held s)) [
      | inl none ↦ absurd (cc (subst IsSome none is.1))
      | inr some ↦ subst (λ (y : List ℕ). IsLasting p.layout (facts s) (d (section_key y s))) here.index
          (lasting_held p.layout p.index p.values (synced_length p) (disk a) s some.0 (d (key_of p.index.sections s)) some.1 (parts.paged s some.0 some.1)
          ((each (key_of p.index.sections s)).named s some.0 is.0 some.1 ((pair.index.disk x).sealed s some.0 some.1 (proven_of pair.whole s)) refl))
    ]

    no_records : (s : ℕ) → p.values.held s ≡ None → records p.layout.record_size (facts s).index ≡ []
    no_records s none = unvalued p.layout p.index p.values (synced_length p) (disk a) p.store o here.some parts s none

    index_valued : (s : ℕ) → s < 2 ^ 64 → Acts s → ValuesStand p.layout (facts s) (disk a (section_key p.layout.values s)) ⊎ (records p.layout.record_size (facts s).index ≡ [])
    index_valued s lt is = elim (none_or_value (p.values.held s)) [
      | inl none ↦ inr (no_records s none)
      | inr some ↦ inl (values_last p.layout p.index p.values (synced_length p) (disk a) p.store o here.some parts x s some.0 some.1)
    ]

    pub settle_index_keeps : Keeping p.layout (list_of p (disk a)) (synced_length p) (λ _. ⊥) (IsBlobOf p.layout IsNamed) a b
    settle_index_keeps = sync_records p.layout here.some pair.apart.values pair.apart.metadata pair.apart.both facts good (λ _. ⊥) (IsBlobOf p.layout IsNamed) (contents_of p.store) Acts acts_or_not
        (λ q is. inl (named_index q is)) (λ q is. inr (named_values q is)) a b holding (Each (fixed.Settling p.layout.seal p.index IsNamed (disk a))) index index_others index_lasts index_valued

    module _ (c : Timeline) (values : Always b c (Each (values_lasting.Settling p.values IsNamed (disk b)))) where
      -- the value blobs are as they were when the records have settled
      same_values : (s : ℕ) → disk b (key_of p.values s) ≡ disk a (key_of p.values s)
      same_values s = always_now a b (λ d. (q : Key) → (IsIndexOf p.layout IsNamed q → ⊥) → d q ≡ disk a q) index_only (key_of p.values s)
          (λ is. pair.apart.values (ap (λ (k : Key). k.0) (sym is.3) ∙ here.values))

      values_stand : (d : Disk) → Each (values_lasting.Settling p.values IsNamed (disk b)) d → (s : ℕ) → s < 2 ^ 64 → Acts s
          → ValuesStand p.layout (facts s) (d (section_key p.layout.values s)) ⊎ LeavesNoRecords p.layout (disk b (section_key p.layout.index s))
      values_stand d each s lt is = elim (none_or_value (p.values.held s)) [
        | inl none ↦ inr (lasting_none p.layout (facts s) here.some (disk b (section_key p.layout.index s)) (no_records s none)
            (index_lasts (disk b) (always_now a b (Each (fixed.Settling p.layout.seal p.index IsNamed (disk a))) index) s lt is))
        | inr some ↦ inl (subst (λ (y : List ℕ). ValuesStand p.layout (facts s) (d (section_key y s))) here.values
            (values_held p.layout p.index p.values (synced_length p) (disk a) s some.0 (d (key_of p.values s)) some.1
            (subst (λ (y : Blob). Outlasts (take some.0.settled (content_of some.0 y.content)) (content_of some.0 y.content) (d (key_of p.values s))) (same_values s)
            ((each (key_of p.values s)).named s some.0 is.0 some.1 refl))))
      ]

      pub settle_keeps : Keeping p.layout (list_of p (disk a)) (synced_length p) (λ _. ⊥) (IsBlobOf p.layout IsNamed) a c
      settle_keeps = sync_values p.layout here.some pair.apart.values pair.apart.metadata pair.apart.both facts good (λ _. ⊥) (IsBlobOf p.layout IsNamed) (contents_of p.store) Acts acts_or_not
          (λ q is. inl (named_index q is)) (λ q is. inr (named_values q is)) a b holding (Each (fixed.Settling p.layout.seal p.index IsNamed (disk a))) index index_others index_lasts index_valued
          c (Each (values_lasting.Settling p.values IsNamed (disk b))) values (values_others c values) values_stand

-- the three parts of a pair that is sound
pub parts_of : {F S : Type 0} {gs : _} (g : buffer.Ghosts (PageBlob S gs)) (gives : F → Setting) {takes : WriteFactory → Setting} (told : Type 0) (p : Pair F (PageBlob S gs)) (pages : ArePages g p.layout.seal) (o : OpenedList) (d : Disk)
    → Here gives p → IsPair g gives buffers takes told p o d → told → IsSoundOn p d → Parts p.layout p.index p.values (synced_length p) d g gives takes told p.store o
parts_of g gives told p pages o d here pair x sound = record {
  journal = pair.index;
  values = pair.values;
  store = (pair.disk x).markers;
  proven = proven_of pair.whole;
  index_here = here.index;
  values_here = here.values;
  store_here = here.store;
  is_marked = here.marked;
  paged = λ s u held. sym (pages.page_size u) ∙ ap (λ (y : Setting). y.page_size) (pair.index.over.opened_list.setting s u held) ∙ here.page_size;
  absent = sound.absent;
  marked = pair.markers.marked;
  good = λ s. record { places = sound.places s; sound = sound.sound s; index_settled = pair.settled.index s; values_settled = sound.values_settled s; lengths = pair.settled.lengths s };
}
