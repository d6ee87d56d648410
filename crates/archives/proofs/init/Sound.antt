-- What is lawful on a disk whose crashes leave lawful images, and what an archive has that keeps what a lawful image keeps.
use Rattle.std.proofs.Common.{◌≡◌, ◌≢◌, inl, inr, refl, sym, ◌∙◌, ap, subst, ℕ, ◌+◌, ◌<◌, ◌≤◌, ◌^◌, List, [], ◌∷◌, length, map, take, Option, None, Some, IsSome, IsTrue, unwrap_or, arith}
use Rattle.std.specs.Prelude.{⊤}
use Rattle.std.specs.List.{AllByRecursion}
use Rattle.std.proofs.lemmas.Bool.{cases_lt}
use Rattle.std.proofs.lemmas.Bool.Decides.{nat_tests}
use Rattle.blob_device.specs.Disk.{Disk, Image, IsCrashOf, Key, MayLeave, past, put, reads}
use Rattle.blob_device.specs.lemmas.Puts.{put_other, put_same, same_or_other}
use Rattle.sealed_pages.specs.ChanceSeal as pages
use Rattle.sealed_pages.specs.SealedPrefix.{sealed_prefix}
use Rattle.sealed_pages.specs.declared.page_blob.PageBlob.{PageBlob}
use Rattle.section_manager.specs.Sections.{IsHeld, section_key}
use Rattle.meta_store.specs.Blobs.{blob_of, bytes_of}
use Rattle.meta_store.specs.Crashes as metadata
use Rattle.paired.specs.Crashes.{IsOwn, NoChanceSeal, WasThere}
use Rattle.paired.specs.Crashes as pair
use Rattle.paired.specs.glob.Sections as glob
use Rattle.paired.specs.Kept.{Layout, Markers, content_at, is_sound_in, marker_of, stored_records}
use Rattle.paired.specs.Opening.{as_read}
use Rattle.paired.specs.Pair.{AreApart, IsSoundOn, list_of, records_of, synced_length}
use Rattle.paired.specs.Places.{Follow, end_of}
use Rattle.paired.specs.Records as stored
use Rattle.paired.specs.Records.{unbroken_prefix, is_sound, records}
use Rattle.paired.specs.lemmas.Kept.{stored_entries}
use Rattle.paired.specs.lemmas.opening.Ends.{follow_first}
use Rattle.paired.specs.lemmas.Records.{prefix-take}
use Rattle.archives.specs.Archives.{Archive, LeavesNoForeign, filing_of, state_of}
use Rattle.archives.specs.Filing.{Filing, filed, kept_entries}
use Rattle.archives.specs.IndexRecord.{index_of}
use Rattle.archives.specs.Lawful.{Lawful}
use Rattle.archives.specs.Machine.{State, section_of}
use Rattle.archives.specs.Opening.{LeavesLawful}
use Rattle.archives.specs.Standing.{Leaves}
use Rattle.archives.proofs.ArchiveStands.{all_unmap, foreign_not_own, list_records, names_left}
use Rattle.archives.proofs.StandLemmas.{AreFiled, keeps_stand}
use Rattle.blob_device.proofs.general.Lists.{all_by, all_take}
use Rattle.blob_device.proofs.general.Options.{none_or_value, some_there}

-- ---- what a lawful image keeps is filed as a lawful image asks
pub follow_end : (place : List ℕ → ℕ × ℕ) (at : ℕ) (rs : List (List ℕ)) (end : ℕ) → Follow place at rs end → end_of place at rs ≡ end
follow_end place at [] end follow = follow
follow_end place at (r ∷ rs) end follow = follow_end place (at + (place r).1) rs end follow.2

module _ (f : Filing) (image : Image) (markers : Markers) (lawful : Lawful f image markers) where
  abbrev entries : ℕ → List stored.Entry
  entries s = kept_entries f image markers s

  abbrev firsts : ℕ → List (List ℕ)
  firsts s = unbroken_prefix (is_sound_in f.layout image s) (marker_of markers.entries s) 0 (stored_records f.layout image s)

  again : (s : ℕ) → map (λ e. e.stored) (entries s) ≡ firsts s
  again s = stored_entries f.layout.place (content_at image f.layout.values s) (firsts s)

  are_first : (s : ℕ) → firsts s ≡ take (length (firsts s)) (stored_records f.layout image s)
  are_first s = prefix-take (is_sound_in f.layout image s) (marker_of markers.entries s) 0 (stored_records f.layout image s)

  followed : (s : ℕ) (small : s < 2 ^ 64) → (end_of f.layout.place 0 (firsts s) ≤ (lawful.pair.places s small).end) × Follow f.layout.place 0 (firsts s) (end_of f.layout.place 0 (firsts s))
  followed s small =
      let n = length (firsts s) in
      let all = stored_records f.layout image s in
      subst (λ (rs : List (List ℕ)). (end_of f.layout.place 0 rs ≤ (lawful.pair.places s small).end) × Follow f.layout.place 0 rs (end_of f.layout.place 0 rs)) (sym (are_first s))
      (follow_first f.layout.place n 0 all (lawful.pair.places s small).end (lawful.pair.places s small).follow)

  pub lawful_filed : AreFiled f entries
  lawful_filed = record {
    in_section = λ s small.
        (let P : List ℕ → Type 0 = λ r. section_of f.items (index_of r) ≡ s in
        all_unmap (λ y. y.stored) P (entries s) (subst (AllByRecursion P) (sym (again s)) (subst (AllByRecursion P) (sym (are_first s)) (all_take P (length (firsts s)) (stored_records f.layout image s) (lawful.in_section s small)))));
    decoded = lawful.decoded;
    end = λ s. end_of f.layout.place 0 (firsts s);
    fits = λ s small. omega (arith, (followed s small).0, (lawful.pair.places s small).fits);
    follow = λ s small. subst (λ (rs : List (List ℕ)). Follow f.layout.place 0 rs (end_of f.layout.place 0 (firsts s))) (sym (again s)) (followed s small).1;
    few_sections = lawful.few_sections;
    few_records = lawful.few_records;
  }

-- so are lists that are the same
pub filed_alike : (f : Filing) (v w : ℕ → List stored.Entry) → ((s : ℕ) → s < 2 ^ 64 → w s ≡ v s) → AreFiled f v → AreFiled f w
filed_alike f v w same was = record {
  in_section = λ s small. subst (AllByRecursion (λ e. section_of f.items (index_of e.stored) ≡ s)) (sym (same s small)) (was.in_section s small);
  decoded = λ s small. subst (AllByRecursion (λ e. f.refusal e.value ≡ None)) (sym (same s small)) (was.decoded s small);
  end = was.end;
  fits = was.fits;
  follow = λ s small. subst (λ (es : List stored.Entry). Follow f.layout.place 0 (map (λ e. e.stored) es) (was.end s)) (sym (same s small)) (was.follow s small);
  few_sections = λ ss sorted all. was.few_sections ss sorted (all_by (λ s. (s < 2 ^ 64) × (w s ≢ [])) (λ s. (s < 2 ^ 64) × (v s ≢ [])) (λ s has. (has.0, λ none. has.1 (same s has.0 ∙ none))) ss all);
  few_records = λ s small. omega (arith, ap length (same s small), was.few_records s small);
}

-- ---- names
-- what reads as it did at the pair's blobs has no chance seal where that had none
module _ (l : Layout) (d : Disk) (was new : Image) (same : (q : Key) → IsOwn l (λ _. ⊤) q → new q ≡ was q) where
  index_same : (s : ℕ) → s < 2 ^ 64 → new (section_key l.index s) ≡ was (section_key l.index s)
  index_same s small = same (section_key l.index s) (inl (s, small, tt, refl))

  values_same : (s : ℕ) → s < 2 ^ 64 → new (section_key l.values s) ≡ was (section_key l.values s)
  values_same s small = same (section_key l.values s) (inr (inl (s, small, tt, refl)))

  pub no_chance_alike : NoChanceSeal l d was → NoChanceSeal l d new
  no_chance_alike none = record {
    slots = λ s small. subst (λ (o : Option (List ℕ)). pages.NoChanceSeal l.seal l.page_size (past (d (section_key l.index s))) (unwrap_or o [])) (sym (index_same s small)) (none.slots s small);
    frames = λ s small.
        (let b = past (d (section_key l.values s)) in
        let P : Option (List ℕ) → Option (List ℕ) → Type 0 =
        λ i v. AllByRecursion (λ r. IsTrue (is_sound l.seal (unwrap_or v []) (l.place r)) → WasThere b (unwrap_or v []) (l.place r)) (records l.record_size (sealed_prefix l.seal l.page_size (unwrap_or i []))) in
        subst (λ i. P i (new (section_key l.values s))) (sym (index_same s small)) (subst (λ v. P (was (section_key l.index s)) v) (sym (values_same s small)) (none.frames s small)));
    copies = λ is side. subst (λ (o : Option (List ℕ)). metadata.NoChanceSeal l.markers.seal (past (d (blob_of l.metadata side))) (bytes_of o)) (sym (same (blob_of l.metadata side) (inr (inr (side, refl))))) (none.copies is side);
  }

-- what stands for a state is lawful
pub all_lawful : (f : Filing) (st : State (List ℕ)) (from : Disk) → Leaves f st None from → LeavesLawful f from
all_lawful f st from leaves image crash no_chance = (let stands = leaves image crash no_chance in (stands.markers, stands.lawful))

module _ (f : Filing) (from : Disk) (law : (q : Key) → MayLeave (from q) (reads (from q))) (none : NoChanceSeal f.layout from (as_read from)) (leaves : LeavesLawful f from) where
  -- the image as the disk reads is one that a crash leaves
  pub lawful_read : (markers : Markers) × Lawful f (as_read from) markers
  lawful_read = leaves (as_read from) law none

  -- a crash may leave another blob so, and the pair's as they read
  module _ (k : Key) (other : IsOwn f.layout (λ _. ⊤) k → ⊥) (c : List ℕ) (left : MayLeave (from k) (Some c)) where
    abbrev with_left : Image
    with_left = put (as_read from) k (Some c)

    is_crash : IsCrashOf from with_left
    is_crash q = elim (same_or_other q k) [
      | inl here ↦ subst (λ (x : Key). MayLeave (from x) (with_left x)) (sym here) (subst (MayLeave (from k)) (sym (put_same (as_read from) k (Some c))) left)
      | inr away ↦ subst (MayLeave (from q)) (sym (put_other (as_read from) k (Some c) q away)) (law q)
    ]

    still_own : (q : Key) → IsOwn f.layout (λ _. ⊤) q → with_left q ≡ as_read from q
    still_own q own = put_other (as_read from) k (Some c) q (λ same. other (subst (IsOwn f.layout (λ _. ⊤)) same own))

    lawful_left : (markers : Markers) × Lawful f with_left markers
    lawful_left = leaves with_left is_crash (no_chance_alike f.layout from (as_read from) with_left still_own none)

    is_left : IsSome (with_left k)
    is_left = subst IsSome (sym (put_same (as_read from) k (Some c))) refl

  -- so no crash leaves a foreign name
  pub no_foreign_before : AreApart f.layout → LeavesNoForeign f.layout from
  no_foreign_before apart = record {
    index = λ name c left. decide (length name) (λ other. (lawful_left (f.layout.index, name) (foreign_not_own f.layout apart (λ _. ⊤) name other).0 c left).1.pair.names.index name (is_left (f.layout.index, name) (foreign_not_own f.layout apart (λ _. ⊤) name other).0 c left));
    values = λ name c left. decide (length name) (λ other. (lawful_left (f.layout.values, name) (foreign_not_own f.layout apart (λ _. ⊤) name other).1 c left).1.pair.names.values name (is_left (f.layout.values, name) (foreign_not_own f.layout apart (λ _. ⊤) name other).1 c left));
  }
    where
      decide : (n : ℕ) → ((n ≡ 8 → ⊥) → n ≡ 8) → n ≡ 8
      decide n other = grind (arith, nat_tests, other)

-- ---- the archive
module _ {F S : Type 0} {gs : _} (f : Filing) (from : Disk) (markers : Markers) (lawful : Lawful f (as_read from) markers) (arch : Archive F (PageBlob S gs)) (z : Disk) (own : arch.pair.layout ≡ f.layout)
    (lists : (s : ℕ) → s < 2 ^ 64 → list_of arch.pair z s ≡ kept_entries f (as_read from) markers s) (sound : IsSoundOn arch.pair z) where
  pub lists_filed : AreFiled f (list_of arch.pair z)
  lists_filed = filed_alike f (kept_entries f (as_read from) markers) (list_of arch.pair z) lists (lawful_filed f (as_read from) markers lawful)

  -- a u64 counts the bytes of a section's values
  pub counted : ((s : ℕ) → IsHeld arch.pair.values s → s < 2 ^ 64) → (s : ℕ) → glob.section_size arch.pair.values s < 2 ^ 64
  counted number s = elim (none_or_value (arch.pair.values.held s)) [
    | inl none ↦ omega (arith, ap glob.size_held none)
    | inr some ↦
        let small : s < 2 ^ 64 = number s (some_there (arch.pair.values.held s) some.0 some.1) in
        let size = glob.section_size arch.pair.values s in
        let places : Follow f.layout.place 0 (records_of arch.pair z s) size = subst (λ (l : Layout). Follow l.place 0 (records_of arch.pair z s) size) own (sound.places s) in
        let other : Follow f.layout.place 0 (records_of arch.pair z s) (lists_filed.end s) = subst (λ (rs : List (List ℕ)). Follow f.layout.place 0 rs (lists_filed.end s)) (list_records arch z s) (lists_filed.follow s small) in
        omega (arith, follow_end f.layout.place 0 (records_of arch.pair z s) size places, follow_end f.layout.place 0 (records_of arch.pair z s) (lists_filed.end s) other, lists_filed.fits s small)
  ]

  -- each value is a spelling that the codec accepts
  pub decoded : ((s : ℕ) → 2 ^ 64 ≤ s → list_of arch.pair z s ≡ []) → ((bytes : List ℕ) → arch.refusal bytes ≡ f.refusal bytes) → (s : ℕ) → AllByRecursion (λ e. arch.refusal e.value ≡ None) (list_of arch.pair z s)
  decoded behind same s = elim (cases_lt s (2 ^ 64)) [
    | inl small ↦ all_by (λ e. f.refusal e.value ≡ None) (λ e. arch.refusal e.value ≡ None) (λ e is. same e.value ∙ is) (list_of arch.pair z s) (lists_filed.decoded s small)
    | inr far ↦ subst (AllByRecursion (λ e. arch.refusal e.value ≡ None)) (sym (behind s far)) tt
  ]

  -- once settled, each crash leaves what stands for its state
  pub rests : arch.items ≡ f.items → ((s : ℕ) → map (filed (filing_of arch)) (list_of arch.pair z s) ≡ map (filed f) (list_of arch.pair z s)) → LeavesNoForeign f.layout z
      → pair.Leaves arch.pair.layout (list_of arch.pair z) (synced_length arch.pair) (λ _. ⊥) z → Leaves f (state_of arch z) None z
  rests items same names leaves image crash no_chance =
      keeps_stand f (list_of arch.pair z) (synced_length arch.pair) image lists_filed (names_left f.layout z names image crash)
      (subst (λ (l : Layout). pair.Leaves l (list_of arch.pair z) (synced_length arch.pair) (λ _. ⊥) z) own leaves image crash no_chance)
      (state_of arch z) None (λ s small. same s) (λ s small. omega arith)
