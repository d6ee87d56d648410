-- Why an opening refuses, against a lawful image: no marker of a lawful image is refused, nor a record below it.
use Rattle.std.specs.Prelude.{◌≡◌, ◌⊎◌, ℕ, ◌+◌, ◌-◌, ◌*◌, ◌^◌, ◌<◌, ◌≤◌, cond, Bool, true, false, List, [], length, take, get_or, IsTrue, IsSome, Option, None, Some}
use Rattle.std.proofs.Common.{inl, inr, refl, ◌∙◌, ap, subst, arith, length-take-le}
use Rattle.std.specs.List.{AllByRecursion}
use Rattle.std.proofs.lemmas.List.{get_or-take}
use Rattle.blob_device.specs.Disk.{Blob, Disk, reads}
use Rattle.sealed_pages.specs.SealedPrefix.{sealed_prefix, adopted_size, data_from, pages_in}
use Rattle.sealed_pages.specs.Slots.{best_slot}
use Rattle.sealed_pages.specs.View.{view}
use Rattle.paired.specs.lemmas.Boundary.{content_there}
use Rattle.paired.specs.lemmas.Kept.{EndsBy, follow_ends, sound_parts}
use Rattle.sealed_pages.specs.lemmas.Reaching.{prefix_size, size_at_most}
use Rattle.sealed_pages.specs.lemmas.adopted.Adopt.{best_length}
use Rattle.sealed_pages.specs.lemmas.slots.Slot.{slot_length-le, slot_stands, times_page}
use Rattle.segments.specs.lemmas.replay.Kept.{prefix_data}
use Rattle.value_codec.specs.declared.codec.Error as codec
use Rattle.section_manager.specs.declared.journal.Damage.{Damage}
use Rattle.section_manager.specs.Sections.{section_key}
use Rattle.segments.specs.FixedFloors.{IsRefused}
use Rattle.paired.specs.Kept.{Layout, Markers, IsMarked, content_at, stored_records, is_sound_in}
use Rattle.paired.specs.Opening.{as_read, IsLawful}
use Rattle.paired.specs.OpeningRefusing.{AreSpellings, IsCutOff, IsLost, IsOutside, IsUnreadable, last_of}
use Rattle.paired.specs.Places.{end_of}
use Rattle.blob_device.proofs.general.Lists.{all_at}
use Rattle.paired.specs.lemmas.opening.StartRefusals.{last_is_record, records_end, sealed_small}

-- ---- lengths
pub adopted_within : (seal : List ℕ → ℕ) (P : ℕ) (c : List ℕ) → adopted_size seal P c ≤ length c
adopted_within seal P c = size_at_most seal P (length c) c (pages_in P c) (λ k some.
    let is = best_length seal P c k in
    let b : Bool = best_slot seal P c k in
    omega (arith, is, slot_length-le seal P c k b, slot_stands seal P c k b (omega (arith, is, some)), times_page P k))

pub sealed_within : (seal : List ℕ → ℕ) (P : ℕ) (c : List ℕ) → length (sealed_prefix seal P c) ≤ length c
sealed_within seal P c = omega (arith, prefix_size seal P c, adopted_within seal P c)

-- a blob that reads as something is there
reads_there : (b : Blob) → IsSome (reads b) → b.there ≡ true
reads_there b has = go b.there refl
  where
    go : (t : Bool) → b.there ≡ t → b.there ≡ true
    go true is = is
    go false is = absurd (cc (subst (λ (x : Bool). IsSome (cond x (Some b.content) None)) is has))

-- ---- a lawful image
module _ (l : Layout) (paged : 1 ≤ l.page_size) (sized : 1 ≤ l.record_size) (d : Disk) (markers : Markers) (lawful : IsLawful l (as_read d) markers) where
  -- a marked section's blob is there, with so many records, all sealed
  record HasMarked (s m : ℕ) : Type 0 where
    pub there : (d (section_key l.index s)).there ≡ true
    pub content : content_at (as_read d) l.index s ≡ (d (section_key l.index s)).content
    pub fits : m * l.record_size ≤ length (sealed_prefix l.seal l.page_size (d (section_key l.index s)).content)
    pub last : 0 < m → get_or (stored_records l (as_read d) s) (m - 1) [] ≡ last_of l d s m
    pub few : m ≤ length (stored_records l (as_read d) s)

  has_marked : (s m : ℕ) → IsMarked markers.entries s m → HasMarked s m
  has_marked s m marked =
      let key = section_key l.index s in
      let is = lawful.true_markers s m marked in
      let there : (d key).there ≡ true = reads_there (d key) is.index_blob in
      let content : content_at (as_read d) l.index s ≡ (d key).content = content_there d l.index s there in
      let sealed : List ℕ = sealed_prefix l.seal l.page_size (content_at (as_read d) l.index s) in
      let long : m * l.record_size ≤ length sealed = records_end l.record_size m sealed is.enough in
      record {
        there = there;
        content = content;
        fits = subst (λ (c : List ℕ). m * l.record_size ≤ length (sealed_prefix l.seal l.page_size c)) content long;
        last = λ some. last_is_record l.seal l.page_size (content_at (as_read d) l.index s) sealed l.record_size m paged sized (prefix_data l.seal l.page_size (content_at (as_read d) l.index s) paged) some long
            ∙ ap (λ (c : List ℕ). data_from l.page_size (view c) ((m - 1) * l.record_size) l.record_size) content;
        few = is.enough;
      }

  -- the value of the last record below a marker stands within the values, and a u64 counts its end
  inside : (s m : ℕ) → IsMarked markers.entries s m → 0 < m → ((l.place (last_of l d s m)).0 + (l.place (last_of l d s m)).1 ≤ length (content_at (as_read d) l.values s)) × ((l.place (last_of l d s m)).0 + (l.place (last_of l d s m)).1 < 2 ^ 64)
  inside s m marked some =
      let has = has_marked s m marked in
      let is = lawful.true_markers s m marked in
      let rs : List (List ℕ) = stored_records l (as_read d) s in
      let in_place = lawful.places s marked.0 in
      let first : get_or (take m rs) (m - 1) [] ≡ last_of l d s m = get_or-take m rs (m - 1) [] (omega (arith, some)) ∙ has.last some in
      let long : m - 1 < length (take m rs) = omega (arith, some, length-take-le m rs has.few) in
      let sound : IsTrue (is_sound_in l (as_read d) s (last_of l d s m)) = subst (λ (r : List ℕ). IsTrue (is_sound_in l (as_read d) s r)) first (all_at (λ r. IsTrue (is_sound_in l (as_read d) s r)) [] (take m rs) is.sound (m - 1) long) in
      let parts = sound_parts l.seal (content_at (as_read d) l.values s) (l.place (last_of l d s m)).0 (l.place (last_of l d s m)).1 sound in
      let ends : AllByRecursion (EndsBy l.place in_place.end) (take m rs) = follow_ends l.place m 0 rs in_place.end (end_of l.place 0 (take m rs)) in_place.end in_place.follow (omega arith) (omega arith) in
      let end : EndsBy l.place in_place.end (last_of l d s m) = subst (EndsBy l.place in_place.end) first (all_at (EndsBy l.place in_place.end) [] (take m rs) ends (m - 1) long) in
      (parts.1, omega (arith, end, in_place.fits))

  pub no_loss : (x : Damage) → IsLost l (IsMarked markers.entries) d x → ⊥
  no_loss x lost = go lost.why
    where
      has : HasMarked x.section lost.items
      has = has_marked x.section lost.items lost.marked

      refused : IsRefused l.seal l.page_size l.record_size (d (section_key l.index x.section)) lost.items x → ⊥
      refused (inl many) = omega (arith, many.many, has.fits, sealed_small l.seal l.page_size (d (section_key l.index x.section)).content)
      refused (inr (inl missing)) = cc (missing.absent, has.there)
      refused (inr (inr unsealed)) = omega (arith, unsealed.less, unsealed.kept, unsealed.wanted, has.fits)

      outside : (at n len : ℕ) → (at + n ≤ len) → (at + n < 2 ^ 64) → IsOutside (at, n) len x → ⊥
      outside at n len fits small (inl large) = omega (arith, large.0, small)
      outside at n len fits small (inr past) = omega (arith, past.1, fits)

      go : IsRefused l.seal l.page_size l.record_size (d (section_key l.index x.section)) lost.items x ⊎ IsCutOff l d x.section lost.items x → ⊥
      go (inl is) = refused is
      go (inr cut) =
          let both = inside x.section lost.items lost.marked cut.some in
          outside (l.place (last_of l d x.section lost.items)).0 (l.place (last_of l d x.section lost.items)).1 (length (content_at (as_read d) l.values x.section)) both.0 both.1 cut.outside

  pub no_unreadable : (refusal : List ℕ → Unit {0} → Option codec.Error) → AreSpellings l refusal (as_read d) → (e : codec.Error) → IsUnreadable l (IsMarked markers.entries) refusal d e → ⊥
  no_unreadable refusal spelled e is =
      let has = has_marked is.section is.items is.marked in
      let rs : List (List ℕ) = stored_records l (as_read d) is.section in
      let long : is.items - 1 < length rs = omega (arith, is.some, has.few) in
      let none : refusal (last_of l d is.section is.items) tt ≡ None = subst (λ (r : List ℕ). refusal r tt ≡ None) (has.last is.some) (all_at (λ r. refusal r tt ≡ None) [] rs (spelled is.section is.marked.0) (is.items - 1) long) in
      cc (none, is.refused)
