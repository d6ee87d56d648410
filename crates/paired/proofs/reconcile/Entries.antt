-- What the calls at the end of an opening leave of the list of opened blobs, and which reads they begin.
use Rattle.std.proofs.Common.{◌≡◌, ◌↔◌, inl, inr, ℕ, ◌/◌, ◌^◌, ◌<◌, ◌≤◌, unwrap_or, Bool, false, List, Option, None, Some, IsSome, IsTrue, refl, sym, ◌∙◌, ap, subst, arith}
use Rattle.std.specs.Prelude.{⊤}
use Rattle.std.proofs.lemmas.Bool.{cases_Bool}
use Rattle.blob_device.specs.Disk.{Key}
use Rattle.blob_device.specs.Opened.{OpenedList, reads_of}
use Rattle.blob_device.specs.Timeline.{Timeline, disk}
use Rattle.sealed_pages.specs.declared.page_blob.PageBlob.{PageBlob}
use Rattle.sealed_pages.specs.declared.write_blob.WriteBlob.{WriteBlob}
use Rattle.section_manager.specs.declared.buffer.SectionBuffer as buffer
use Rattle.section_manager.specs.declared.unsealed.WriteFactory.{WriteFactory}
use Rattle.section_manager.specs.Lasting.{EntriesLeave}
use Rattle.section_manager.specs.Sections.{Sections, section_key, key_of, IsHeld, IsKeyOf}
use Rattle.section_manager.specs.Setting.{Setting}
use Rattle.section_manager.specs.lemmas.Keys.{key_injective}
use Rattle.segments.specs.FixedLists.{Lists}
use Rattle.segments.specs.FixedLists as fixed
use Rattle.segments.specs.FixedReplay.{Walk, IsDrained}
use Rattle.value_codec.specs.declared.key.Key8.{Key8}
use Rattle.meta_store.specs.Store.{Store}
use Rattle.paired.specs.Crashes.{IsOwn}
use Rattle.paired.specs.Kept.{marker_of}
use Rattle.paired.specs.Replaying.{Run, pair_of}
use Rattle.paired.specs.Tracked.{Tracked, Trails, synced_of}
use Rattle.paired.proofs.pair.Synced.{made, pair_as}
use Rattle.paired.specs.lemmas.reconcile.Resting.{index_key, index_number, values_key, values_number}
use Rattle.paired.specs.lemmas.reconcile.Start.{Drained, GaveBack, back_rests, opening}
use Rattle.paired.proofs.Ends.{RecordsCut, ValuesCut, ValuesRemoved, not_of_none}
use Rattle.paired.proofs.reconcile.Stages.{Joint}
use Rattle.paired.proofs.reconcile.Pair.{Notes, pair_with}
use Rattle.blob_device.proofs.general.Options.{none_or_value}

-- ---- the replay at its end

pub drained_of : {F B : Type 0} (w : Walk F B) → ((IsDrained w → ⊥) → ⊥) → IsDrained w
drained_of w never = record {
  between = elim (none_or_value w.place) [
    | inl none ↦ none
    | inr some ↦ absurd (never (λ is. absurd (cc (some.1, is.between))))
  ];
  last = λ s has ahead. never (λ is. is.last s has ahead);
}

-- ---- what calls say, at these types
module _ {F S : Type 0} {gs : _} {g : buffer.Ghosts (PageBlob S gs)} {gives : F → Setting} {takes : WriteFactory → Setting} {told : Type 0} {run : Run F (PageBlob S gs)} {o : OpenedList} (a : Timeline) (e : Drained g gives takes told run o (disk a)) where
  pub as_back : (j : Lists F (PageBlob S gs)) → GaveBack run j → GaveBack run j
  as_back j is = is

  pub as_cut : (j k : Lists F (PageBlob S gs)) (o1 : OpenedList) (b : Timeline) → RecordsCut g gives told run.layout run.ends.at j k o o1 a b → RecordsCut g gives told run.layout run.ends.at j k o o1 a b
  as_cut j k o1 b is = is

  pub as_trim : (k : Lists F (PageBlob S gs)) (m : Sections WriteFactory WriteBlob) (o1 o2 : OpenedList) (b c : Timeline) → ValuesCut g gives takes told run.layout k run.values m o1 o2 b c → ValuesCut g gives takes told run.layout k run.values m o1 o2 b c
  as_trim k m o1 o2 b c is = is

  pub as_removed : (Doomed : ℕ → Type 0) (m n : Sections WriteFactory WriteBlob) (o2 o3 : OpenedList) (c f : Timeline) → ValuesRemoved takes told Doomed m n o2 o3 c f → ValuesRemoved takes told Doomed m n o2 o3 c f
  as_removed Doomed m n o2 o3 c f is = is

  -- ---- entries of other blobs
  module _ (q : Key) (not : IsOwn run.layout (λ _. ⊤) q → ⊥) where
    pub cut_entry : (j : Lists F (PageBlob S gs)) (back : GaveBack run j) (o1 : OpenedList) → ((k : Key) → (IsKeyOf j.sections (λ s. IsSome (run.ends.at s)) k → ⊥) → o1 k ≡ o k) → o1 q ≡ o q
    cut_entry j back o1 entries = entries q (λ w. not (inl (w.0, small w.0 (run.ends.at w.0) refl w.1, tt, w.2 ∙ index_key (back_rests e j back).parts w.0)))
      where
        small : (s : ℕ) (y : Option ℕ) → run.ends.at s ≡ y → IsSome (run.ends.at s) → s < 2 ^ 64
        small s None none some = absurd (not_of_none (run.ends.at s) none some)
        small s (Some p) is some = ((opening e).ends_from s p is).0

    pub trim_entry : (b : Timeline) (k : Lists F (PageBlob S gs)) (o1 o2 : OpenedList) → Joint g gives takes told run (disk a) k run.values o1 (disk b)
        → ((x : Key) → (IsKeyOf run.values (IsHeld k.sections) x → ⊥) → o2 x ≡ o1 x) → o2 q ≡ o1 q
    trim_entry b k o1 o2 joint entries = entries q (λ w. not (inr (inl (w.0, index_number joint.rests.parts w.0 w.1, tt, w.2 ∙ values_key joint.rests.parts w.0))))

    pub removed_entry : (c : Timeline) (k : Lists F (PageBlob S gs)) (m : Sections WriteFactory WriteBlob) (o2 o3 : OpenedList) → Joint g gives takes told run (disk a) k m o2 (disk c) → (Doomed : ℕ → Type 0) → ((s : ℕ) → Doomed s → IsHeld m s)
        → EntriesLeave (IsKeyOf m Doomed) o2 o3 → o3 q ≡ o2 q
    removed_entry c k m o2 o3 joint Doomed held entries = elim (entries q) [
      | inl same ↦ same
      | inr gone ↦ absurd (not (inr (inl (gone.0.0, values_number joint.rests.parts gone.0.0 (held gone.0.0 gone.0.1), tt, gone.0.2 ∙ values_key joint.rests.parts gone.0.0))))
    ]

  -- ---- reads of values
  pub cut_reads : (j : Lists F (PageBlob S gs)) (back : GaveBack run j) (o1 : OpenedList) → ((k : Key) → (IsKeyOf j.sections (λ s. IsSome (run.ends.at s)) k → ⊥) → o1 k ≡ o k) → (s : ℕ) → o1 (section_key run.layout.values s) ≡ o (section_key run.layout.values s)
  cut_reads j back o1 entries s = entries (section_key run.layout.values s) (λ w. e.over.apart.values (sym (ap (λ (k : Key). k.0) (w.2 ∙ index_key (back_rests e j back).parts w.0))))

  pub trim_reads : (o1 o2 : OpenedList) → ((s : ℕ) → reads_of (o2 (key_of run.values s)) ≤ reads_of (o1 (key_of run.values s))) → (s : ℕ) → reads_of (o2 (section_key run.layout.values s)) ≤ reads_of (o1 (section_key run.layout.values s))
  trim_reads o1 o2 reads s = subst (λ (p : List ℕ). reads_of (o2 (section_key p s)) ≤ reads_of (o1 (section_key p s))) e.here.values (reads s)

  -- ---- no record is read of a section that is not cut
  pub cut_unread : (j : Lists F (PageBlob S gs)) (back : GaveBack run j) (o1 : OpenedList) → ((k : Key) → (IsKeyOf j.sections (λ s. IsSome (run.ends.at s)) k → ⊥) → o1 k ≡ o k)
      → (s : ℕ) → s < 2 ^ 64 → run.ends.at s ≡ None → o1 (section_key run.layout.index s) ≡ o (section_key run.layout.index s)
  cut_unread j back o1 entries s small none = entries (section_key run.layout.index s) (λ w. elim (none_or_value (run.ends.at w.0)) [
    | inl uncut ↦ not_of_none (run.ends.at w.0) uncut w.1
    | inr some ↦
        let same : s ≡ w.0 = key_injective run.layout.index s w.0 small ((opening e).ends_from w.0 some.0 some.1).0 (w.2 ∙ index_key (back_rests e j back).parts w.0) in
        not_of_none (run.ends.at w.0) (subst (λ (x : ℕ). run.ends.at x ≡ None) same none) w.1
  ])

  pub trim_unread : (b : Timeline) (k : Lists F (PageBlob S gs)) (o1 o2 : OpenedList) → Joint g gives takes told run (disk a) k run.values o1 (disk b)
      → ((x : Key) → (IsKeyOf run.values (IsHeld k.sections) x → ⊥) → o2 x ≡ o1 x) → (s : ℕ) → o2 (section_key run.layout.index s) ≡ o1 (section_key run.layout.index s)
  trim_unread b k o1 o2 joint entries s = entries (section_key run.layout.index s) (λ w. e.over.apart.values (ap (λ (x : Key). x.0) (w.2 ∙ values_key joint.rests.parts w.0)))

-- the reads of a blob do not rise where its entry leaves
pub leaves_reads : (P : Key → Type 0) (old new : OpenedList) → EntriesLeave P old new → (q : Key) → reads_of (new q) ≤ reads_of (old q)
leaves_reads P old new entries q = elim (entries q) [
  | inl same ↦ omega (arith, ap reads_of same)
  | inr gone ↦ omega (arith, ap reads_of gone.1)
]

-- ---- which sections are named to the calls
pub doomed_of : {F B : Type 0} (m : Sections WriteFactory WriteBlob) (k : Lists F B) (among : ℕ → Bool) → ((s : ℕ) → IsTrue (among s) ↔ IsHeld k.sections s) → (Doomed : ℕ → Type 0) → ((s : ℕ) → Doomed s ↔ (IsHeld m s × (among s ≡ false)))
    → (s : ℕ) → Doomed s ↔ (IsHeld m s × (IsHeld k.sections s → ⊥))
doomed_of m k among held Doomed each s = (
  λ is. (let both = (each s).0 is in (both.0, λ has. absurd (cc ((held s).1 has, both.1)))),
  λ both. (each s).1 (
    both.0,
    elim (cases_Bool (among s)) [
      | inl has ↦ absurd (both.1 ((held s).0 has))
      | inr not ↦ not
    ],
  ),
)

pub notes_of : {F S : Type 0} {gs : _} (run : Run F (PageBlob S gs)) (k : Lists F (PageBlob S gs)) (t : Tracked) (Named : ℕ → Type 0) → ((s : ℕ) → Named s ↔ IsHeld k.sections s) → t.store ≡ run.store → Trails t
    → ((s : ℕ) → Named s → synced_of t s ≡ fixed.section_size k.sections s / run.layout.record_size) → ((s : ℕ) → (Named s → ⊥) → t.trailing s ≡ run.trailing s) → ((s : ℕ) → run.trailing s ≡ None) → Notes run k t.trailing
notes_of run k t Named each store trails named others none = record {
  trails = λ s n is same. trails s n is (same ∙ ap (λ (u : Store Key8 ℕ). marker_of u.entries s) (sym store));
  named = λ s has. ap (λ (u : Store Key8 ℕ). unwrap_or (t.trailing s) (marker_of u.entries s)) (sym store) ∙ named s ((each s).1 has);
  others = λ s not. others s (λ is. not ((each s).0 is)) ∙ none s;
}

-- the pair that it is noted of
pub noted_same : {F S : Type 0} {gs : _} (gives : F → Setting) (run : Run F (PageBlob S gs)) (k : Lists F (PageBlob S gs)) (n : Sections WriteFactory WriteBlob) (u : Store Key8 ℕ) (trailing : ℕ → Option ℕ) (metadata : List ℕ) (size : ℕ)
    → k.sections.partition ≡ run.layout.index → n.partition ≡ run.layout.values → metadata ≡ run.layout.metadata → size ≡ run.layout.page_size → u ≡ run.store
    → pair_with run k n trailing ≡ made (pair_of run) k n trailing k.sections.partition n.partition metadata size u
noted_same gives run k n u trailing metadata size index values at paged same = pair_as (pair_of run) k.sections.partition n.partition metadata size k n u run.store trailing index values at paged same
