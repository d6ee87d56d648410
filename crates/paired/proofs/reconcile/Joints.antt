-- Between the stages of the end of an opening: all has settled, and the journal has the records that were given.
use Rattle.std.proofs.Common.{◌≡◌, ◌↔◌, ◌⊎◌, inl, inr, ℕ, ◌+◌, ◌*◌, ◌^◌, ◌<◌, ◌≤◌, false, List, length, take, Option, None, IsSome, IsSomeAnd, IsTrue, refl, sym, ◌∙◌, ap, subst, arith}
use Rattle.std.specs.Prelude.{is_some, ◌≢◌}
use Rattle.blob_device.specs.Disk.{Key, Blob, Disk, MayLeave, reads, nothing}
use Rattle.blob_device.specs.Opened.{OpenedList}
use Rattle.blob_device.specs.Timeline.{Timeline, disk, Each}
use Rattle.blob_device.specs.lemmas.Moments.{always_now}
use Rattle.sealed_pages.specs.declared.page_blob.PageBlob.{PageBlob}
use Rattle.sealed_pages.specs.declared.write_blob.WriteBlob.{WriteBlob}
use Rattle.section_manager.specs.declared.buffer.SectionBuffer as buffer
use Rattle.section_manager.specs.declared.unsealed.WriteFactory.{WriteFactory}
use Rattle.section_manager.specs.Sections.{Sections, section_key, key_of, IsHeld, IsKeyOf, SameBounds}
use Rattle.section_manager.specs.Setting.{Setting}
use Rattle.section_manager.specs.unsealed.Buffer.{count_of, is_unsettled}
use Rattle.section_manager.specs.lemmas.Keys.{key_injective}
use Rattle.segments.specs.FixedLists.{Lists, IsJournal, IsProven}
use Rattle.segments.specs.FixedLists as fixed
use Rattle.meta_store.specs.declared.error.Side.{Side}
use Rattle.meta_store.specs.declared.error.Side.TheVariants.{Left, Right}
use Rattle.meta_store.specs.Blobs.{blob_of}
use Rattle.meta_store.specs.Calls.{IsOpened}
use Rattle.meta_store.specs.lemmas.Uses.{stands_same}
use Rattle.paired.specs.lemmas.Ends.{Ends}
use Rattle.paired.specs.lemmas.Glob.{same_bytes}
use Rattle.paired.specs.lemmas.reconcile.Resting.{MarksRest, Resting, index_key, index_number, known_of, none_stored, values_key, values_number}
use Rattle.paired.specs.Crashes.{IsIndexOf, IsValuesOf}
use Rattle.paired.specs.glob.Lasting.{Cutting}
use Rattle.paired.specs.glob.Sections.{IsGlob, IsAllSettled}
use Rattle.paired.specs.glob.Sections as glob
use Rattle.value_codec.specs.declared.key.Key8.{Key8}
use Rattle.meta_store.specs.Store.{Store, contents_of}
use Rattle.paired.specs.Kept.{Layout}
use Rattle.paired.specs.Opening.{MayBeOpened, Relation}
use Rattle.paired.specs.Pair.{HasNoBytes}
use Rattle.paired.specs.Reconciling.{CutTo, EndOf, Shortening}
use Rattle.paired.specs.Records.{records}
use Rattle.paired.proofs.pair.Sections.{glob_kept}
use Rattle.paired.proofs.pair.Stays.{journal_stays}
use Rattle.paired.specs.lemmas.Records.{length-records, records-take}
use Rattle.paired.proofs.Ends.{Between, RecordsCut, ValuesCut, ValuesRemoved, none_of_not, not_of_none}
use Rattle.paired.proofs.reconcile.Phases.{bare_of, index_cut_only, values_cut_only, values_still}
use Rattle.blob_device.proofs.general.Numbers.{item_ends, last_place}
use Rattle.blob_device.proofs.general.Options.{none_or_value}

module _ {F S : Type 0} {gs : _} {g : buffer.Ghosts (PageBlob S gs)} {gives : F → Setting} {takes : WriteFactory → Setting} {told : Type 0} {Rel : Relation} {l : Layout} {i0 : Sections F (PageBlob S gs)} {m0 : Sections WriteFactory WriteBlob} {u : Store Key8 ℕ} {ends : ℕ → Option ℕ} {given : ℕ → List (List ℕ)} {j0 : Lists F (PageBlob S gs)} {o : OpenedList}
    (a : Timeline) (e : Ends g gives takes told Rel l i0 m0 u ends given j0 o (disk a)) where
  copy_other : (side : Side) (partition : List ℕ) (s : ℕ) → (partition ≡ l.index) ⊎ (partition ≡ l.values) → blob_of l.metadata side ≡ section_key partition s → ⊥
  copy_other side partition s (inl is) same = e.apart.metadata (sym (ap (λ (k : Key). k.0) same ∙ is))
  copy_other side partition s (inr is) same = e.apart.both (sym (ap (λ (k : Key). k.0) same ∙ is))

  copy_at : IsTrue l.marked → (side : Side) → blob_of u.partition side ≡ blob_of l.metadata side
  copy_at is side = ap (λ (p : List ℕ). blob_of p side) (e.rests.marks.here is)

  -- the markers are synced still
  marks_stay : (b c : Disk) → (told → (side : Side) → c (blob_of l.metadata side) ≡ b (blob_of l.metadata side)) → MarksRest told l u b → MarksRest told l u c
  marks_stay b c same was = record {
    stands = λ t is. stands_same l.markers u (contents_of u) b c
        (subst (λ (q : Key). c q ≡ b q) (sym (copy_at is Left)) (same t Left)) (subst (λ (q : Key). c q ≡ b q) (sym (copy_at is Right)) (same t Right)) (was.stands t is);
    here = was.here;
    none = was.none;
  }

  -- ---- after the cut of records
  module _ (k : Lists F (PageBlob S gs)) (o1 : OpenedList) (b : Timeline) (did : RecordsCut g gives told l ends j0 k o o1 a b) (readable : told → (q : Key) → MayLeave (disk b q) (reads (disk b q))) where
    now_cut : told → (q : Key) → (IsIndexOf l (λ s. IsSome (ends s)) q → ⊥) → disk b q ≡ disk a q
    now_cut t = index_cut_only e t (disk b) (always_now a b (Each (Shortening l.seal j0.sections (λ s. CutTo l.record_size (ends s)) (disk a))) (did.moments t))

    index_uncut : told → (s : ℕ) → s < 2 ^ 64 → ends s ≡ None → disk b (section_key l.index s) ≡ disk a (section_key l.index s)
    index_uncut t s small none = now_cut t (section_key l.index s) (λ is. not_of_none (ends s) none (subst (λ (x : ℕ). IsSome (ends x)) (sym (key_injective l.index s is.0 small is.1 is.3)) is.2))

    pub values_uncut : told → (s : ℕ) → disk b (section_key l.values s) ≡ disk a (section_key l.values s)
    values_uncut t s = now_cut t (section_key l.values s) (λ is. e.apart.values (sym (ap (λ (q : Key). q.0) is.3)))

    copies_uncut : told → (side : Side) → disk b (blob_of l.metadata side) ≡ disk a (blob_of l.metadata side)
    copies_uncut t side = now_cut t (blob_of l.metadata side) (λ is. copy_other side l.index is.0 (inl refl) is.3)

    entry_uncut : (q : Key) → (q.0 ≢ l.index) → o1 q ≡ o q
    entry_uncut q other = did.entries q (λ w. other (ap (λ (x : Key). x.0) (w.2 ∙ index_key e.rests.parts w.0)))

    here_values : (s : ℕ) → key_of m0 s ≡ section_key l.values s
    here_values s = ap (λ (p : List ℕ). section_key p s) e.rests.parts.values_here

    pub cut_held : (s : ℕ) → IsHeld k.sections s ↔ IsHeld i0 s
    cut_held s = subst (λ (m : Sections F (PageBlob S gs)). IsHeld k.sections s ↔ IsHeld m s) e.begins (did.held s)

    pub cut_bounds : SameBounds i0 k.sections
    cut_bounds = subst (λ (m : Sections F (PageBlob S gs)). SameBounds m k.sections) e.begins did.bounds

    pub cut_opened : IsTrue l.marked → IsOpened u.partition o → IsOpened u.partition o1
    cut_opened marked was = record {
      left = subst IsSome (sym (entry_uncut (blob_of u.partition Left) (λ is. e.apart.metadata (sym is ∙ e.rests.marks.here marked)))) was.left;
      right = subst IsSome (sym (entry_uncut (blob_of u.partition Right) (λ is. e.apart.metadata (sym is ∙ e.rests.marks.here marked)))) was.right;
    }

    pub cut_rests : Resting g gives takes told l k m0 u o1 (disk b)
    cut_rests =
        let was = e.rests in
        record {
          parts = record {
            pages = e.rests.parts.pages;
            index = did.over.over;
            index_settled = did.settled was.parts.index_settled;
            index_here = did.bounds.place.partition ∙ was.parts.index_here;
            page_size = ap (λ (f : F). (gives f).page_size) did.bounds.place.factory ∙ was.parts.page_size;
            some = e.rests.parts.some;
            values = glob_kept m0 o o1 (disk a) (disk b) (λ s. entry_uncut (key_of m0 s) (λ is. e.apart.values (sym is ∙ e.rests.parts.values_here))) (λ t s. subst (λ (q : Key). disk b q ≡ disk a q) (sym (here_values s)) (values_uncut t s)) e.rests.parts.values;
            values_settled = was.parts.values_settled;
            values_known = was.parts.values_known;
            values_here = e.rests.parts.values_here;
          };
          journal = did.over;
          proven = did.proven;
          index_known = λ s. did.unopened s ∙ was.index_known s;
          marks = marks_stay (disk a) (disk b) copies_uncut was.marks;
        }

    -- the section's bytes where it has no end
    same_index : told → (s : ℕ) → ends s ≡ None → fixed.section_bytes k.sections (disk b) s ≡ fixed.section_bytes j0.sections (disk a) s
    same_index t s none = elim (none_or_value (j0.sections.held s)) [
      | inl absent ↦ ap (λ (x : Option (PageBlob S gs)). fixed.bytes_held x (disk b (key_of k.sections s)).content) ((did.others s none).held ∙ absent)
          ∙ sym (ap (λ (x : Option (PageBlob S gs)). fixed.bytes_held x (disk a (key_of j0.sections s)).content) absent)
      | inr some ↦
          ap (λ (x : Option (PageBlob S gs)). fixed.bytes_held x (disk b (key_of k.sections s)).content) (did.others s none).held
          ∙ ap (λ (q : Key). fixed.bytes_held (j0.sections.held s) (disk b q).content) (index_key cut_rests.parts s)
          ∙ ap (λ (x : Blob). fixed.bytes_held (j0.sections.held s) x.content) (index_uncut t s (index_number e.rests.parts s (ap is_some some.1)) none)
          ∙ sym (ap (λ (q : Key). fixed.bytes_held (j0.sections.held s) (disk a q).content) (index_key e.rests.parts s))
    ]

    -- p whole records
    taken : (p : ℕ) (bytes : List ℕ) → p < length (records l.record_size bytes) → records l.record_size (take (p * l.record_size) bytes) ≡ take p (records l.record_size bytes)
    taken p bytes lt =
        let size : ℕ = l.record_size in
        let ends : p * size + size ≤ length bytes = item_ends size (length bytes) p (omega (arith, lt, length-records size bytes)) in
        records-take size (p * size) bytes e.rests.parts.some (omega (arith, ends)) ∙ ap (λ (n : ℕ). take n (records size bytes)) (last_place size (p * size) p e.rests.parts.some (omega arith) (omega (arith, e.rests.parts.some)))

    pub cut_records : told → (s : ℕ) → records l.record_size (fixed.section_bytes k.sections (disk b) s) ≡ given s
    cut_records t s = elim (none_or_value (ends s)) [
      | inl none ↦ ap (records l.record_size) (same_index t s none) ∙ sym (e.gives_all t s none)
      | inr some ↦
          ap (records l.record_size) (did.cut t s some.0 some.1)
          ∙ taken some.0 (fixed.section_bytes j0.sections (disk a) s) (omega (arith, e.within t s some.0 some.1))
          ∙ sym (e.gives_to t s some.0 some.1)
    ]

    -- a section that is not held has no end
    unheld_none : told → (s : ℕ) → j0.sections.held s ≡ None → ends s ≡ None
    unheld_none t s absent = elim (none_or_value (ends s)) [
      | inl none ↦ none
      | inr some ↦ absurd (omega (arith, e.within t s some.0 some.1, ap length (none_stored e.rests t s absent)))
    ]

    pub cut_joint : Between g gives takes told l i0 u given (MayBeOpened l (disk a)) k m0 o1 (disk b)
    cut_joint = record {
      rests = cut_rests;
      held = cut_held;
      records = cut_records;
      bare = λ t may.
          let was = bare_of (known_of e.rests) t may in
          record {
            index = λ s small none.
                let absent : j0.sections.held s ≡ None = none_of_not (j0.sections.held s) (λ has. not_of_none (k.sections.held s) none ((did.held s).1 has)) in
                subst HasNoBytes (sym (index_uncut t s small (unheld_none t s absent))) (was.index s small absent);
            values = λ s small none. subst HasNoBytes (sym (values_uncut t s)) (was.values s small none);
          };
      readable = readable;
    }

    -- the values are as they were
    pub cut_values_same : told → (s : ℕ) → glob.section_bytes m0 (disk b) s ≡ glob.section_bytes m0 (disk a) s
    cut_values_same t s = same_bytes m0 m0 (disk a) (disk b) s refl (λ held. subst (λ (q : Key). disk b q ≡ disk a q) (sym (here_values s)) (values_uncut t s))

  -- ---- after the cut of values
  module _ (b : Timeline) (j : Lists F (PageBlob S gs)) (o1 : OpenedList) (joint : Between g gives takes told l i0 u given (MayBeOpened l (disk a)) j m0 o1 (disk b)) (n : Sections WriteFactory WriteBlob) (o2 : OpenedList) (c : Timeline)
      (did : ValuesCut g gives takes told l j m0 n o1 o2 b c) (readable : told → (q : Key) → MayLeave (disk c q) (reads (disk c q))) where
    now_trim : told → (q : Key) → (IsValuesOf l (IsHeld j.sections) q → ⊥) → disk c q ≡ disk b q
    now_trim t = values_cut_only joint.rests t e.apart (disk c) (always_now b c (Each (Cutting m0 (EndOf l.place l.record_size j.sections (disk b)) (disk b))) (did.moments t))

    index_untrimmed : told → (s : ℕ) → disk c (section_key l.index s) ≡ disk b (section_key l.index s)
    index_untrimmed t s = now_trim t (section_key l.index s) (λ is. e.apart.values (ap (λ (q : Key). q.0) is.3))

    copies_untrimmed : told → (side : Side) → disk c (blob_of l.metadata side) ≡ disk b (blob_of l.metadata side)
    copies_untrimmed t side = now_trim t (blob_of l.metadata side) (λ is. copy_other side l.values is.0 (inr refl) is.3)

    pub trim_bytes : told → (s : ℕ) → fixed.section_bytes j.sections (disk c) s ≡ fixed.section_bytes j.sections (disk b) s
    trim_bytes t s = ap (λ (q : Key). fixed.bytes_held (j.sections.held s) (disk c q).content) (index_key joint.rests.parts s)
        ∙ ap (λ (x : Blob). fixed.bytes_held (j.sections.held s) x.content) (index_untrimmed t s) ∙ sym (ap (λ (q : Key). fixed.bytes_held (j.sections.held s) (disk b q).content) (index_key joint.rests.parts s))

    pub trim_opened : IsTrue l.marked → IsOpened u.partition o1 → IsOpened u.partition o2
    trim_opened marked was = record {
      left = subst IsSome (sym (did.entries (blob_of u.partition Left) (other Left))) was.left;
      right = subst IsSome (sym (did.entries (blob_of u.partition Right) (other Right))) was.right;
    }
      where
        other : (side : Side) → IsKeyOf m0 (IsHeld j.sections) (blob_of u.partition side) → ⊥
        other side w = copy_other side l.values w.0 (inr refl) (sym (copy_at marked side) ∙ w.2 ∙ values_key joint.rests.parts w.0)

    pub trim_rests : Resting g gives takes told l j n u o2 (disk c)
    trim_rests = record {
      parts = record {
        pages = joint.rests.parts.pages;
        index = did.over.over;
        index_settled = joint.rests.parts.index_settled;
        index_here = joint.rests.parts.index_here;
        page_size = joint.rests.parts.page_size;
        some = joint.rests.parts.some;
        values = did.values;
        values_settled = did.settled joint.rests.parts.values_settled;
        values_known = λ s. did.unopened s ∙ joint.rests.parts.values_known s;
        values_here = did.bounds.place.partition ∙ joint.rests.parts.values_here;
      };
      journal = did.over;
      proven = joint.rests.proven;
      index_known = joint.rests.index_known;
      marks = marks_stay (disk b) (disk c) copies_untrimmed joint.rests.marks;
    }

    pub trim_joint : Between g gives takes told l i0 u given (MayBeOpened l (disk a)) j n o2 (disk c)
    trim_joint = record {
      rests = trim_rests;
      held = joint.held;
      records = λ t s. ap (records l.record_size) (trim_bytes t s) ∙ joint.records t s;
      bare = λ t may.
          let was = joint.bare t may in
          record {
            index = λ s small none. subst HasNoBytes (sym (index_untrimmed t s)) (was.index s small none);
            values = λ s small none.
                let absent : m0.held s ≡ None = none_of_not (m0.held s) (λ has. not_of_none (n.held s) none ((did.held s).1 has)) in
                subst HasNoBytes (sym (values_untrimmed t s small absent)) (was.values s small absent);
          };
      readable = readable;
    }
      where
        values_untrimmed : told → (s : ℕ) → s < 2 ^ 64 → m0.held s ≡ None → disk c (section_key l.values s) ≡ disk b (section_key l.values s)
        values_untrimmed t s small none = values_still joint.rests t e.apart (disk c) (always_now b c (Each (Cutting m0 (EndOf l.place l.record_size j.sections (disk b)) (disk b))) (did.moments t)) s small none

  -- ---- after the removal of values
  module _ (c : Timeline) (j : Lists F (PageBlob S gs)) (m : Sections WriteFactory WriteBlob) (o2 : OpenedList) (joint : Between g gives takes told l i0 u given (MayBeOpened l (disk a)) j m o2 (disk c)) (Doomed : ℕ → Type 0) (decides : (s : ℕ) → Doomed s ⊎ (Doomed s → ⊥))
      (doomed : (s : ℕ) → Doomed s ↔ (IsHeld m s × (IsHeld j.sections s → ⊥))) (n : Sections WriteFactory WriteBlob) (o3 : OpenedList) (f : Timeline) (did : ValuesRemoved takes told Doomed m n o2 o3 c f)
      (readable : told → (q : Key) → MayLeave (disk f q) (reads (disk f q))) where
    now_gone : told → (q : Key) → (IsKeyOf m (λ s. Doomed s × IsHeld m s) q → ⊥) → disk f q ≡ disk c q
    now_gone t = always_now c f (λ d. (q : Key) → (IsKeyOf m (λ s. Doomed s × IsHeld m s) q → ⊥) → d q ≡ disk c q) (did.moments t)

    index_kept : told → (s : ℕ) → disk f (section_key l.index s) ≡ disk c (section_key l.index s)
    index_kept t s = now_gone t (section_key l.index s) (λ w. e.apart.values (ap (λ (q : Key). q.0) (w.2 ∙ values_key joint.rests.parts w.0)))

    copies_kept : told → (side : Side) → disk f (blob_of l.metadata side) ≡ disk c (blob_of l.metadata side)
    copies_kept t side = now_gone t (blob_of l.metadata side) (λ w. copy_other side l.values w.0 (inr refl) (w.2 ∙ values_key joint.rests.parts w.0))

    entry_kept : (q : Key) → (IsKeyOf m Doomed q → ⊥) → o3 q ≡ o2 q
    entry_kept q none = elim (did.entries q) [
      | inl same ↦ same
      | inr gone ↦ absurd (none gone.0)
    ]

    pub removed_bytes : told → (s : ℕ) → fixed.section_bytes j.sections (disk f) s ≡ fixed.section_bytes j.sections (disk c) s
    removed_bytes t s = ap (λ (q : Key). fixed.bytes_held (j.sections.held s) (disk f q).content) (index_key joint.rests.parts s)
        ∙ ap (λ (x : Blob). fixed.bytes_held (j.sections.held s) x.content) (index_kept t s) ∙ sym (ap (λ (q : Key). fixed.bytes_held (j.sections.held s) (disk c q).content) (index_key joint.rests.parts s))

    pub removed_opened : IsTrue l.marked → IsOpened u.partition o2 → IsOpened u.partition o3
    removed_opened marked was = record {
      left = subst IsSome (sym (entry_kept (blob_of u.partition Left) (λ w. copy_other Left l.values w.0 (inr refl) (sym (copy_at marked Left) ∙ w.2 ∙ values_key joint.rests.parts w.0)))) was.left;
      right = subst IsSome (sym (entry_kept (blob_of u.partition Right) (λ w. copy_other Right l.values w.0 (inr refl) (sym (copy_at marked Right) ∙ w.2 ∙ values_key joint.rests.parts w.0)))) was.right;
    }

    -- only sections with records still have values
    pub removed_held : (s : ℕ) → IsHeld n s ↔ (IsHeld m s × IsHeld i0 s)
    removed_held s = elim (decides s) [
      | inl is ↦ (λ has. absurd (not_of_none (n.held s) (did.removed s is) has), λ both. absurd (((doomed s).0 is).1 ((joint.held s).1 both.1)))
      | inr not ↦ (
        λ has. (let was : IsHeld m s = subst IsSome (did.others s not).held has in (was, (joint.held s).0 (kept not was))),
        λ both. subst IsSome (sym (did.others s not).held) both.0,
      )
    ]
      where
        kept : (Doomed s → ⊥) → IsHeld m s → IsHeld j.sections s
        kept not was = elim (none_or_value (j.sections.held s)) [
          | inl none ↦ absurd (not ((doomed s).1 (was, not_of_none (j.sections.held s) none)))
          | inr some ↦ ap is_some some.1
        ]

    values_kept : told → (s : ℕ) → s < 2 ^ 64 → m.held s ≡ None → disk f (section_key l.values s) ≡ disk c (section_key l.values s)
    values_kept t s small none = now_gone t (section_key l.values s) (λ w.
        not_of_none (m.held s) none (subst (IsHeld m) (sym (key_injective l.values s w.0 small (values_number joint.rests.parts w.0 w.1.1) (w.2 ∙ values_key joint.rests.parts w.0))) w.1.1))

    pub removed_rests : Resting g gives takes told l j n u o3 (disk f)
    removed_rests = record {
      parts = record {
        pages = joint.rests.parts.pages;
        index = kept_journal.over;
        index_settled = joint.rests.parts.index_settled;
        index_here = joint.rests.parts.index_here;
        page_size = joint.rests.parts.page_size;
        some = joint.rests.parts.some;
        values = did.values;
        values_settled = λ s has. elim (decides s) [
          | inl is ↦ absurd (not_of_none (n.held s) (did.removed s is) has)
          | inr not ↦ subst (λ (x : Option WriteBlob). IsSomeAnd x (λ u. (u.settled ≡ count_of u) × (is_unsettled u ≡ false))) (sym (did.others s not).held) (joint.rests.parts.values_settled s (subst IsSome (did.others s not).held has))
        ];
        values_known = λ s. did.unopened s ∙ joint.rests.parts.values_known s;
        values_here = did.bounds.place.partition ∙ joint.rests.parts.values_here;
      };
      journal = kept_journal;
      proven = joint.rests.proven;
      index_known = joint.rests.index_known;
      marks = marks_stay (disk c) (disk f) copies_kept joint.rests.marks;
    }
      where
        kept_journal : IsJournal g gives l.seal l.record_size told j o3 (disk f)
        kept_journal = journal_stays l.seal l.record_size j o2 o3 (disk c) (disk f)
            (λ s small. entry_kept (key_of j.sections s) (λ w. e.apart.values (ap (λ (q : Key). q.0) (sym (index_key joint.rests.parts s) ∙ w.2 ∙ values_key joint.rests.parts w.0))))
            (λ t s small. subst (λ (q : Key). disk f q ≡ disk c q) (sym (index_key joint.rests.parts s)) (index_kept t s)) joint.rests.journal

    pub removed_joint : Between g gives takes told l i0 u given (MayBeOpened l (disk a)) j n o3 (disk f)
    removed_joint = record {
      rests = removed_rests;
      held = joint.held;
      records = λ t s. ap (records l.record_size) (removed_bytes t s) ∙ joint.records t s;
      bare = λ t may.
          let was = joint.bare t may in
          record {
            index = λ s small none. subst HasNoBytes (sym (index_kept t s)) (was.index s small none);
            values = λ s small none. elim (none_or_value (m.held s)) [
              | inl absent ↦ subst HasNoBytes (sym (values_kept t s small absent)) (was.values s small absent)
              | inr some ↦ subst HasNoBytes (sym (removed_blob t s none (ap is_some some.1))) refl
            ];
          };
      readable = readable;
    }
      where
        removed_blob : told → (s : ℕ) → n.held s ≡ None → IsHeld m s → disk f (section_key l.values s) ≡ nothing
        removed_blob t s none has = elim (decides s) [
          | inl is ↦ subst (λ (q : Key). disk f q ≡ nothing) (values_key joint.rests.parts s) (did.gone t s is has)
          | inr not ↦ absurd (not_of_none (n.held s) none (subst IsSome (sym (did.others s not).held) has))
        ]
