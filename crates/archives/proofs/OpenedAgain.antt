-- A disk whose blobs read as contents that they have had may be opened, and that of an archive in use is such a disk.
use Rattle.std.specs.Prelude.{◌≡◌, ◌⊎◌, ℕ, ◌<◌, ◌^◌, ◌||◌, not, Bool, true, false, List, [], ◌∷◌, length, IsTrue, Option, None, Some, unwrap_or}
use Rattle.std.specs.List.{AllByRecursion, Contains}
use Rattle.std.proofs.Common.{inl, inr, refl, sym, ap, subst, zero, suc, get_or, arith}
use Rattle.blob_device.specs.Disk.{Blob, Disk, MayLeave, past, reads}
use Rattle.blob_device.specs.Opened.{OpenedList}
use Rattle.sealed_pages.specs.ChanceSeal as pages
use Rattle.sealed_pages.specs.Contents.{IsHad}
use Rattle.sealed_pages.specs.Cutting.{StandsSettled}
use Rattle.sealed_pages.specs.declared.page_blob.PageBlob.{PageBlob}
use Rattle.sealed_pages.specs.declared.write_blob.WriteBlob.{WriteBlob}
use Rattle.section_manager.specs.declared.buffer.SectionBuffer as buffer
use Rattle.section_manager.specs.declared.unsealed.WriteFactory.{WriteFactory}
use Rattle.section_manager.specs.SealedLaws.{no_chance}
use Rattle.section_manager.specs.Sections.{key_of, section_key}
use Rattle.section_manager.specs.Setting.{Setting}
use Rattle.section_manager.specs.unsealed.Buffer.{Stands}
use Rattle.paired.specs.lemmas.pair.Facts.{journal_lasts, not_there, proven_of}
use Rattle.paired.specs.lemmas.reconcile.Resting.{no_slots, none_sound, of_rest, reads_absent, reads_there}
use Rattle.segments.specs.lemmas.adding.Had.{journal_had, sections_had}
use Rattle.segments.specs.lemmas.adding.Write.{ArePages}
use Rattle.meta_store.specs.declared.error.Side.{Side}
use Rattle.meta_store.specs.declared.error.Side.TheVariants.{Left, Right}
use Rattle.meta_store.specs.Blobs.{blob_of}
use Rattle.meta_store.specs.Crashes as metadata
use Rattle.paired.specs.Crashes.{WasThere}
use Rattle.paired.specs.Frames.{bytes_at}
use Rattle.paired.specs.Kept.{Layout, content_at, is_sound_in, stored_records}
use Rattle.paired.specs.Opening.{MayBeOpened, as_read}
use Rattle.paired.specs.Pair.{HasNoBytes}
use Rattle.paired.specs.Records.{is_sound}
use Rattle.archives.specs.Archives.{Archive, IsArchive, IsSoundArchive}
use Rattle.archives.proofs.ArchiveStands.{glob_buffers}
use Rattle.blob_device.proofs.general.Options.{none_or_value}

-- ---- contents

-- what one of the contents has, some of them has
some_of : (Q : List ℕ → Type 0) (cs : List (List ℕ)) (c : List ℕ) → Q c → (k : ℕ) → k < length cs → get_or cs k c ≡ c → metadata.SomeByRecursion Q cs
some_of Q [] c has k lt is = absurd (omega (arith, lt))
some_of Q (x ∷ cs) c has zero lt is = inl (subst Q (sym is) has)
some_of Q (x ∷ cs) c has (suc k) lt is = inr (some_of Q cs c has k (omega (arith, lt)) is)

-- what a content that the blob had has at a place was there
had_there : (cs : List (List ℕ)) (c : List ℕ) (at : ℕ × ℕ) → Contains cs c → WasThere cs c at
had_there cs c (at, n) has = some_of (λ p. bytes_at p at n ≡ bytes_at c at n) cs c refl has.0 has.1 has.2

-- ---- blobs

-- The blob reads as a content that it has had since it settled, or it is not there, and no crash brings bytes back into it.
abbrev pub ReadsAsHad : Blob → Type 0
ReadsAsHad b = ((b.there ≡ true) × IsHad b) ⊎ ((b.there ≡ false) × HasNoBytes b)

-- what holds of each content that a blob has had, and of no bytes, holds of what it reads as
of_read : (P : List (List ℕ) → List ℕ → Type 0) (b : Blob) → ReadsAsHad b → ((cs : List (List ℕ)) (c : List ℕ) → Contains cs c → P cs c) → ((cs : List (List ℕ)) → P cs [])
    → P (past b) (unwrap_or (reads b) [])
of_read P b (inl there) has none = subst (λ (o : Option (List ℕ)). P (past b) (unwrap_or o [])) (sym (reads_there b there.0)) (has (past b) b.content there.1)
of_read P b (inr gone) has none = subst (λ (o : Option (List ℕ)). P (past b) (unwrap_or o [])) (sym (reads_absent b gone.0)) (none (past b))

-- one that is not there has no bytes
bare : (b : Blob) → ReadsAsHad b → b.there ≡ false → HasNoBytes b
bare b (inl there) gone = absurd (cc (there.0, gone))
bare b (inr none) gone = none.1

-- one that no crash takes away is there
left_there : (b : Blob) → (MayLeave b None → ⊥) → b.there ≡ true
left_there b stays = go b.there refl
  where
    go : (t : Bool) → b.there ≡ t → b.there ≡ true
    go true is = is
    go false is = absurd (stays (ap (λ (t : Bool). not t || b.unsure) is))

-- ---- a disk
module _ (l : Layout) (d : Disk) (index : (s : ℕ) → s < 2 ^ 64 → ReadsAsHad (d (section_key l.index s))) (values : (s : ℕ) → s < 2 ^ 64 → ReadsAsHad (d (section_key l.values s)))
    (copies : (side : Side) → StandsSettled (d (blob_of l.metadata side))) where
  slots_read : (s : ℕ) → s < 2 ^ 64 → pages.NoChanceSeal l.seal l.page_size (past (d (section_key l.index s))) (content_at (as_read d) l.index s)
  slots_read s small = of_read (pages.NoChanceSeal l.seal l.page_size) (d (section_key l.index s)) (index s small) (no_chance l.seal l.page_size) (no_slots l.seal l.page_size)

  frame_read : (s : ℕ) → s < 2 ^ 64 → (r : List ℕ) → IsTrue (is_sound_in l (as_read d) s r) → WasThere (past (d (section_key l.values s))) (content_at (as_read d) l.values s) (l.place r)
  frame_read s small r = of_read (λ cs c. IsTrue (is_sound l.seal c (l.place r)) → WasThere cs c (l.place r)) (d (section_key l.values s)) (values s small)
      (λ cs c has sound. had_there cs c (l.place r) has) (λ cs sound. absurd (none_sound l.seal (l.place r).0 (l.place r).1 sound))

  -- whatever the records are
  frames_read : (s : ℕ) → s < 2 ^ 64 → (rs : List (List ℕ)) → AllByRecursion (λ r. IsTrue (is_sound_in l (as_read d) s r) → WasThere (past (d (section_key l.values s))) (content_at (as_read d) l.values s) (l.place r)) rs
  frames_read s small [] = tt
  frames_read s small (r ∷ rs) = (frame_read s small r, frames_read s small rs)

  pub may_be_opened : MayBeOpened l d
  may_be_opened = record {
    no_chance = record {
      slots = slots_read;
      frames = λ s small. frames_read s small (stored_records l (as_read d) s);
      copies = λ is side. of_rest (metadata.NoChanceSeal l.markers.seal) (d (blob_of l.metadata side)) (copies side) (λ c version form body sealed. inl refl);
    };
    named = λ image crash s small slots. frames_read s small (stored_records l image s);
    absent = λ s small gone. bare (d (section_key l.index s)) (index s small) gone;
    values_absent = λ s small gone. bare (d (section_key l.values s)) (values s small) gone;
  }

-- ---- an archive
module _ {F S : Type 0} {gs : _} (a : Archive F (PageBlob S gs)) {g : buffer.Ghosts (PageBlob S gs)} {gives : F → Setting} {takes : WriteFactory → Setting} {told : Type 0} (opened : OpenedList) (d : Disk)
    (are_pages : ArePages g a.pair.layout.seal) (index : a.pair.index.sections.partition ≡ a.pair.layout.index) (values : a.pair.values.partition ≡ a.pair.layout.values) (store : a.pair.store.partition ≡ a.pair.layout.metadata)
    (archive : IsArchive a (glob_buffers g gives takes) told opened d) (t : told) (sound : IsSoundArchive a d) where
  index_held : (s : ℕ) (u : PageBlob S gs) → a.pair.index.sections.held s ≡ Some u → ReadsAsHad (d (key_of a.pair.index.sections s))
  index_held s u held =
      let leaves = journal_lasts a.pair.layout.seal a.pair.layout.record_size a.pair.index opened d archive.pair.index t s u held (proven_of archive.pair.whole s) in
      inl (left_there (d (key_of a.pair.index.sections s)) (leaves None), journal_had a.pair.layout.seal a.pair.layout.record_size told g are_pages gives a.pair.index opened d archive.pair.index t s u held)

  index_read : (s : ℕ) → s < 2 ^ 64 → ReadsAsHad (d (section_key a.pair.layout.index s))
  index_read s small = elim (none_or_value (a.pair.index.sections.held s)) [
    | inl none ↦ inr (subst (λ (p : List ℕ). (d (section_key p s)).there ≡ false) index (not_there a.pair.index.sections opened d archive.pair.index.over t s small none (archive.pair.whole.index_known s)), sound.pair.sound.absent s small none)
    | inr some ↦ subst (λ (p : List ℕ). ReadsAsHad (d (section_key p s))) index (index_held s some.0 some.1)
  ]

  values_held : (s : ℕ) (v : WriteBlob) → a.pair.values.held s ≡ Some v → ReadsAsHad (d (key_of a.pair.values s))
  values_held s v held =
      let stands : Stands v (d (key_of a.pair.values s)) = (archive.pair.values.over.disk t).stands s v held in
      inl (stands.over.lasts.there, sections_had told takes a.pair.values opened d archive.pair.values.over t s v held)

  values_read : (s : ℕ) → s < 2 ^ 64 → ReadsAsHad (d (section_key a.pair.layout.values s))
  values_read s small = elim (none_or_value (a.pair.values.held s)) [
    | inl none ↦ inr (subst (λ (p : List ℕ). (d (section_key p s)).there ≡ false) values (not_there a.pair.values opened d archive.pair.values.over t s small none (archive.pair.whole.values_known s)), sound.absent s small none)
    | inr some ↦ subst (λ (p : List ℕ). ReadsAsHad (d (section_key p s))) values (values_held s some.0 some.1)
  ]

  copy_rest : (side : Side) → StandsSettled (d (blob_of a.pair.layout.metadata side))
  copy_rest side = subst (λ (p : List ℕ). StandsSettled (d (blob_of p side))) store (go side)
    where
      go : (x : Side) → StandsSettled (d (blob_of a.pair.store.partition x))
      go Left = (archive.pair.disk t).markers.left
      go Right = (archive.pair.disk t).markers.right

  -- its disk may be opened again
  pub opened_again : MayBeOpened a.pair.layout d
  opened_again = may_be_opened a.pair.layout d index_read values_read copy_rest
