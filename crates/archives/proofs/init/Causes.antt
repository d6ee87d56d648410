-- Why an opening of an archive refuses what its parts refuse.
use Rattle.std.proofs.Common.{◌≡◌, inl, inr, sym, ◌∙◌, ap, subst, ℕ, ◌+◌, ◌*◌, ◌<◌, ◌≤◌, cond, true, List, [], length, get_or, None, arith}
use Rattle.std.specs.List.{AllByRecursion}
use Rattle.std.proofs.lemmas.Bool.{cases_lt}
use Rattle.std.proofs.lemmas.Nat.{mul-le}
use Rattle.blob_device.specs.Disk.{Disk, Image}
use Rattle.sealed_pages.specs.Reads.{IsShort}
use Rattle.sealed_pages.specs.declared.page_blob.PageBlob.{PageBlob}
use Rattle.section_manager.specs.Sections.{section_key}
use Rattle.section_manager.specs.declared.journal.Damage.{Damage}
use Rattle.value_codec.specs.declared.codec.Error as codec
use Rattle.value_codec.specs.Spelling.{size_refusal}
use Rattle.paired.specs.Kept.{Layout, Markers, MarkerMap, IsMarked, content_at, is_sound_in, marker_of, stored_records}
use Rattle.paired.specs.OpeningRefusing.{IsSomeRefused}
use Rattle.paired.specs.Records as stored
use Rattle.paired.specs.Records.{unbroken_prefix}
use Rattle.paired.specs.Replaying.{Run, is_sound_over, marker, records_given, records_over}
use Rattle.paired.specs.lemmas.Kept.{stored_entries}
use Rattle.paired.specs.lemmas.opening.Ends.{marked_is, marked_or_zero}
use Rattle.paired.specs.lemmas.Records.{prefix-take}
use Rattle.archives.specs.Filing.{Filing, kept_entries}
use Rattle.archives.specs.IndexRecord.{index_of}
use Rattle.archives.specs.Lawful.{Lawful}
use Rattle.archives.specs.Machine.{section_of}
use Rattle.archives.specs.Opening.{FindsShort, HasStray, IsPastLimits}
use Rattle.archives.proofs.ArchiveStands.{all_unmap}
use Rattle.archives.proofs.init.Records.{all_whole}
use Rattle.archives.proofs.init.State.{all_has}
use Rattle.blob_device.proofs.general.Lists.{all_take, each_at}

-- ---- what a marker counts
module _ (entries : MarkerMap) (size : ℕ) (floor_of : ℕ → ℕ) (floors : (s : ℕ) → floor_of s ≡ marker_of entries s * size) where
  -- a section with fewer bytes than its floor has a marker
  pub marked_damage : (x : Damage) (bytes : ℕ) → (x.wanted ≡ floor_of x.section) × (x.kept < x.wanted) × (x.kept ≡ bytes) → (m : ℕ) × IsMarked entries x.section m × (x.wanted ≡ m * size) × (x.kept ≡ bytes) × (x.kept < x.wanted)
  marked_damage x bytes says = elim (marked_or_zero entries x.section) [
    | inl some ↦ (some.0, some.1, says.0 ∙ floors x.section ∙ ap (λ (n : ℕ). n * size) (marked_is entries x.section some.0 some.1), says.2, says.1)
    | inr none ↦ absurd (omega (arith, says.0, says.1, floors x.section, ap (λ (n : ℕ). n * size) none))
  ]

  -- a page with bytes of a record below the floor has bytes of one that the marker counts
  pub marked_short : (l : Layout) → l.record_size ≡ size → 1 ≤ size → (d : Disk) (k : ℕ) → FindsShort l floor_of d k
      → (s : ℕ) × (m : ℕ) × (p : ℕ) × IsMarked entries s m × (p < m) × IsShort l.seal l.page_size (d (section_key l.index s)).content (p * l.record_size) l.record_size k
  marked_short l same pos d k finds =
      let s : ℕ = finds.section in
      let p : ℕ = finds.position in
      let below : (p + 1) * size ≤ marker_of entries s * size = omega (arith, subst (λ (n : ℕ). (p + 1) * n ≤ floor_of s) same finds.below, floors s) in
      elim (cases_lt p (marker_of entries s)) [
        | inr behind ↦ absurd (omega (arith, pos, below, mul-le (marker_of entries s) size p size behind (omega arith)))
        | inl before ↦ elim (marked_or_zero entries s) [
          | inl some ↦ (s, some.0, p, some.1, omega (arith, before, marked_is entries s some.0 some.1), finds.page)
          | inr none ↦ absurd (omega (arith, before, none))
        ]
      ]

-- ---- what a lawful image keeps
module _ (f : Filing) (image : Image) (markers : Markers) where
  module _ (lawful : Lawful f image markers) where
    pub lawful_no_stray : HasStray f.items (kept_entries f image markers) → ⊥
    lawful_no_stray (s, x, small, has, stray) =
        let P : List ℕ → Type 0 = λ r. section_of f.items (index_of r) ≡ s in
        let Q : stored.Entry → Type 0 = λ y. section_of f.items (index_of y.stored) ≡ s in
        let all : List (List ℕ) = stored_records f.layout image s in
        let sound = is_sound_in f.layout image s in
        let some : List (List ℕ) = unbroken_prefix sound (marker_of markers.entries s) 0 all in
        let first : AllByRecursion P some = subst (AllByRecursion P) (sym (prefix-take sound (marker_of markers.entries s) 0 all)) (all_take P (length some) all (lawful.in_section s small)) in
        let again = stored_entries f.layout.place (content_at image f.layout.values s) some in
        let entries : AllByRecursion Q (kept_entries f image markers s) = all_unmap (λ y. y.stored) P (kept_entries f image markers s) (subst (AllByRecursion P) (sym again) first) in
        stray (all_has Q (kept_entries f image markers s) x entries has)

    pub lawful_no_over : IsPastLimits f.most_sections f.most_records (kept_entries f image markers) → ⊥
    lawful_no_over (inl (ss, sorted, all, more)) = omega (arith, more, lawful.few_sections ss sorted all)
    lawful_no_over (inr (s, small, more)) = omega (arith, more, lawful.few_records s small)

-- ---- no record is refused by its size
pub none_refused : {F S : Type 0} {gs : _} (run : Run F (PageBlob S gs)) (d : Disk) → run.tracked ≡ true → (s : ℕ) (e : codec.Error) → IsSomeRefused (λ bytes _. size_refusal run.layout.record_size bytes) (records_given run d s) e → ⊥
none_refused run d tracked s e has =
    let P : List ℕ → Type 0 = λ r. size_refusal run.layout.record_size r ≡ None in
    let over : List (List ℕ) = records_over run d s in
    let sound = is_sound_over run d s in
    let some : List (List ℕ) = unbroken_prefix sound (marker run s) 0 over in
    let given : records_given run d s ≡ some = ap (λ b. cond b some over) tracked in
    let first : AllByRecursion P some = subst (AllByRecursion P) (sym (prefix-take sound (marker run s) 0 over)) (all_take P (length some) over (all_whole run.layout.record_size _)) in
    let fine : P (get_or (records_given run d s) has.position []) = each_at P (records_given run d s) has.position [] (subst (AllByRecursion P) (sym given) first) has.within in
    let bad = has.refused in
    cc (fine, bad)
