-- What an opening's walk refuses is among what the image keeps: it has gone past it, so it is sealed.
use Rattle.std.proofs.Common.{◌≡◌, ◌≢◌, inl, inr, refl, sym, ◌∙◌, ap, subst, ℕ, zero, suc, ◌<◌, ◌^◌, true, List, [], ◌∷◌, length, map, take, get_or, arith, length-take}
use Rattle.std.specs.List.{Contains}
use Rattle.std.proofs.lemmas.List.{get_or-take, length-map, nil_from_length}
use Rattle.std.proofs.lemmas.List.Elements.{Contains-get_or}
use Rattle.blob_device.specs.Disk.{Disk}
use Rattle.blob_device.specs.Opened.{OpenedList}
use Rattle.blob_device.specs.Timeline.{Timeline, disk}
use Rattle.sealed_pages.specs.declared.page_blob.PageBlob.{PageBlob}
use Rattle.meta_store.specs.Store.{Store, contents_of}
use Rattle.value_codec.specs.declared.key.Key8.{Key8}
use Rattle.section_manager.specs.declared.buffer.SectionBuffer as buffer
use Rattle.section_manager.specs.declared.unsealed.WriteFactory.{WriteFactory}
use Rattle.section_manager.specs.Setting.{Setting}
use Rattle.paired.specs.lemmas.Glob.{buffers}
use Rattle.paired.specs.lemmas.pair.Synced.{Here}
use Rattle.segments.specs.lemmas.adding.Write.{ArePages}
use Rattle.paired.specs.Kept.{Layout, kept, marker_of, stored_records}
use Rattle.paired.specs.Opening.{as_read}
use Rattle.paired.specs.Records as stored
use Rattle.paired.specs.Replaying.{GivesRecord, HasFailed, IsDue, IsRun, Run, marker, pair_of, records_given}
use Rattle.archives.specs.IndexRecord.{index_of}
use Rattle.archives.specs.Machine.{section_of}
use Rattle.archives.specs.Opening.{HasEntered, HasStray, IsPastLimits}
use Rattle.archives.specs.Rows.{HasRoom, Row, row_in}
use Rattle.archives.proofs.init.Stored.{given_number}
use Rattle.archives.proofs.opening.Full.{is_over, rows_given, some_long}
use Rattle.archives.proofs.opening.Passed.{kept_first, passed_stored}
use Rattle.archives.proofs.opening.Walk.{Stays}
use Rattle.blob_device.proofs.general.Lists.{all_by}

-- ---- the same records kept
module _ (few many : ℕ → List stored.Entry) (same : (s : ℕ) → s < 2 ^ 64 → few s ≡ many s) where
  pub stray_same : (items : ℕ) → HasStray items few → HasStray items many
  stray_same items (s, x, small, has, stray) = (s, x, small, subst (λ (xs : List stored.Entry). Contains xs x) (same s small) has, stray)

  pub over_same : (sections per_section : ℕ) → IsPastLimits sections per_section few → IsPastLimits sections per_section many
  over_same sections per_section (inl (ss, sorted, all, more)) =
      inl (ss, sorted, all_by (λ s. (s < 2 ^ 64) × (few s ≢ [])) (λ s. (s < 2 ^ 64) × (many s ≢ [])) (λ s has. (has.0, λ none. has.1 (same s has.0 ∙ none))) ss all, more)
  over_same sections per_section (inr (s, small, more)) = inr (s, small, subst (λ (xs : List stored.Entry). per_section < length xs) (same s small) more)

-- what the walk's disk keeps is what the first one kept
pub kept_start : {F S : Type 0} {gs : _} (told : Type 0) (start now : Run F (PageBlob S gs)) (a e : Timeline) → now.layout ≡ start.layout → now.store ≡ start.store → Stays start.layout (contents_of start.store) told a e → told → (s : ℕ) → s < 2 ^ 64
    → kept now.layout (as_read (disk e)) (marker now s) s ≡ kept start.layout (as_read (disk a)) (marker start s) s
kept_start told start now a e laid store stays t s small =
    ap (λ (l : Layout). kept l (as_read (disk e)) (marker now s) s) laid ∙ ap (λ (u : Store Key8 ℕ). kept start.layout (as_read (disk e)) (marker_of u.entries s) s) store ∙ stays.keeps t s small

-- ---- what was given and entered is due no more
module _ {F S V : Type 0} {gs : _} (key_size : ℕ) (rows : ℕ → List Row) (now x : Run F (PageBlob S gs)) (d e : Disk) (entered : HasEntered key_size rows now d) (spelling : V → List ℕ) (accepted : V → Unit {0} → Type 0)
    (s p : ℕ) (v : V) (gives : GivesRecord spelling accepted now x d e s p v) where
  pub undue : IsDue x e s p → ⊥
  undue due = elim ((gives.rest s p).0 due).1 [
    | inl before ↦ omega (arith, before)
    | inr before ↦ omega (arith, before.1)
  ]

  pub undue_rows : (t : ℕ) → rows t ≢ [] → IsDue x e t 0 → ⊥
  undue_rows t some due = some (nil_from_length (rows t) (let from = ((entered.due t 0).0 ((gives.rest t 0).0 due).0).0 in omega (arith, from)))

  pub given_rows : ((t : ℕ) → records_given x e t ≡ records_given now d t) → (t : ℕ) → rows t ≢ [] → 0 < length (records_given x e t)
  given_rows same t some = omega (arith, ap length (same t), some_long (records_given now d t) (rows_given (row_in key_size) (rows t) (records_given now d t) (entered.listed t) some))

blank : stored.Entry
blank = record { stored = []; value = [] }

get_or_stored : (xs : List stored.Entry) (p : ℕ) → p < length xs → get_or (map (λ x. x.stored) xs) p [] ≡ (get_or xs p blank).stored
get_or_stored [] p lt = absurd (omega (arith, lt))
get_or_stored (x ∷ xs) zero lt = refl
get_or_stored (x ∷ xs) (suc p) lt = get_or_stored xs p (omega (arith, lt))

module _ {F S : Type 0} {gs : _} {g : buffer.Ghosts (PageBlob S gs)} {gives : F → Setting} {takes : WriteFactory → Setting} {told : Type 0} (run : Run F (PageBlob S gs)) (o : OpenedList) (d : Disk)
    (pages : ArePages g run.layout.seal) (here : Here gives (pair_of run)) (was : IsRun run g gives buffers takes told o d) (tracked : run.tracked ≡ true) (unfailed : HasFailed run → ⊥) (t : told)
    (entries : ℕ → List stored.Entry) (same : (s : ℕ) → s < 2 ^ 64 → kept run.layout (as_read d) (marker run s) s ≡ entries s) where
  -- the records of a section that the image keeps
  abbrev first : ℕ → List (List ℕ)
  first s = take (length (stored_records run.layout (as_read d) s)) (records_given run d s)

  first_kept : (s : ℕ) → s < 2 ^ 64 → map (λ x. x.stored) (entries s) ≡ first s
  first_kept s small = ap (map (λ (x : stored.Entry). x.stored)) (sym (same s small)) ∙ kept_first run o d pages here was tracked unfailed t s small

  first_long : (s p : ℕ) → p < length (records_given run d s) → (IsDue run d s p → ⊥) → p < length (first s)
  first_long s p given passed =
      let few : p < length (stored_records run.layout (as_read d) s) = passed_stored run o d pages here was tracked unfailed t s p given passed in
      omega (arith, given, few, length-take (length (stored_records run.layout (as_read d) s)) (records_given run d s))

  first_small : (s : ℕ) → first s ≢ [] → s < 2 ^ 64
  first_small s some = given_number run o d pages here was tracked unfailed t s 0
      (omega (arith, some_long (first s) some, length-take (length (stored_records run.layout (as_read d) s)) (records_given run d s)))

  -- A record of another section that was given is kept.
  pub stray_kept : (items s p : ℕ) → p < length (records_given run d s) → (IsDue run d s p → ⊥) → section_of items (index_of (get_or (records_given run d s) p [])) ≢ s → HasStray items entries
  stray_kept items s p given passed stray =
      let small : s < 2 ^ 64 = given_number run o d pages here was tracked unfailed t s p given in
      let long : p < length (first s) = first_long s p given passed in
      let within : p < length (entries s) = omega (arith, long, ap length (first_kept s small), length-map (entries s) (λ x. x.stored)) in
      let few : p < length (stored_records run.layout (as_read d) s) = passed_stored run o d pages here was tracked unfailed t s p given passed in
      let is : get_or (records_given run d s) p [] ≡ (get_or (entries s) p blank).stored =
      sym (get_or-take (length (stored_records run.layout (as_read d) s)) (records_given run d s) p [] few) ∙ ap (λ (rs : List (List ℕ)). get_or rs p []) (sym (first_kept s small)) ∙ get_or_stored (entries s) p within in
      (s, get_or (entries s) p blank, small, Contains-get_or (entries s) p blank within, λ at. stray (ap (λ (r : List ℕ). section_of items (index_of r)) is ∙ at))

  -- Where there was no room for a record behind those that are entered, more is kept than the limits allow.
  pub over_kept : (sections per_section s p : ℕ) (rows : ℕ → List Row) → ((q : ℕ) → rows q ≢ [] → IsDue run d q 0 → ⊥) → ((q : ℕ) → rows q ≢ [] → 0 < length (records_given run d q)) → p ≡ length (rows s)
      → p < length (records_given run d s) → (IsDue run d s p → ⊥) → (HasRoom sections per_section rows s → ⊥) → IsPastLimits sections per_section entries
  over_kept sections per_section s p rows gone some at given passed none =
      of_first (is_over sections per_section s rows first (λ q has is. (let long = first_long q 0 (some q has) (gone q has) in omega (arith, long, ap length is))) first_small (let long = first_long s p given passed in omega (arith, long, at)) none)
    where
      of_first : IsPastLimits sections per_section first → IsPastLimits sections per_section entries
      of_first (inl (ss, sorted, all, more)) =
          inl (ss, sorted, all_by (λ q. (q < 2 ^ 64) × (first q ≢ [])) (λ q. (q < 2 ^ 64) × (entries q ≢ [])) (λ q has. (has.0, λ is. has.1 (sym (first_kept q has.0) ∙ ap (map (λ (x : stored.Entry). x.stored)) is))) ss all, more)
      of_first (inr (q, small, more)) = inr (q, small, omega (arith, more, ap length (first_kept q small), length-map (entries q) (λ x. x.stored)))
