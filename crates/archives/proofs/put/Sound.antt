-- A sound archive to which a record with its value was added: it is sound, and its state is that which a put leaves.
use Rattle.std.proofs.Common.{◌≡◌, ◌≢◌, inl, inr, refl, sym, ◌∙◌, ap, subst, ℕ, ◌+◌, ◌^◌, ◌<◌, List, [], ◌∷◌, ◌++◌, map, Bool, true, Option, None, Some, arith}
use Rattle.std.specs.List.{AllByRecursion}
use Rattle.blob_device.specs.Disk.{Disk, Key, MayLeave}
use Rattle.value_codec.specs.declared.codec.Error as codec
use Rattle.sealed_pages.specs.declared.page_blob.PageBlob.{PageBlob}
use Rattle.section_manager.specs.Sections.{section_key}
use Rattle.section_manager.specs.lemmas.Keys.{keys_differ}
use Rattle.paired.specs.glob.Sections as glob
use Rattle.paired.specs.Pair.{HasNoBytes, Pair, list_of, records_of, IsSafeOn}
use Rattle.paired.specs.Places.{Follow}
use Rattle.archives.specs.Archives.{Archive, Buffers, IsArchive, IsSoundArchive, LeavesNoForeign, filing_of, state_of}
use Rattle.archives.specs.Filing.{filed}
use Rattle.archives.specs.Machine.{appended, section_of}
use Rattle.archives.specs.Putting.{Times, after_putting}
use Rattle.archives.specs.Rows.{Row}
use Rattle.archives.proofs.ArchiveStands.{no_foreign}
use Rattle.archives.proofs.put.Lemmas.{Adds, grown, new_record, records_now}
use Rattle.archives.specs.lemmas.put.Rows.{other_or_same}
use Rattle.archives.proofs.put.Stands.{IsFree, lists_appended, new_entry, put_is, wanted, wanted_here, wanted_other}
use Rattle.blob_device.proofs.general.Lists.{all_by, all_push}

-- the last of places that follow each other ends where they do
pub follow_last : (place : List ℕ → ℕ × ℕ) (at : ℕ) (rs : List (List ℕ)) (r : List ℕ) (end : ℕ) → Follow place at (rs ++ r ∷ []) end → end ≡ (place r).0 + (place r).1
follow_last place at [] r end follow = omega (arith, follow.0, follow.2)
follow_last place at (x ∷ xs) r end follow = follow_last place (at + (place x).1) xs r end follow.2

module _ {F S : Type 0} {gs : _} (a : Archive F (PageBlob S gs)) (q : Pair F (PageBlob S gs)) (refusal : List ℕ → Option codec.Error) (rows : ℕ → List Row) (Tied : Type 0) (indices is_written : ℕ → Bool)
    (index sec : ℕ) (here : sec ≡ section_of a.items index) (key value : List ℕ) (n : ℕ) (d e : Disk) where
  abbrev new : Archive F (PageBlob S gs)
  new = grown a q refusal rows Tied indices is_written index sec here key n d e

  -- What an append of a safe pair did.
  pub record Sounds : Type 0 where
    pub index_here : q.layout.index ≡ a.pair.layout.index
    pub values_here : q.layout.values ≡ a.pair.layout.values
    pub place : q.layout.place ≡ a.pair.layout.place
    pub sound : IsSafeOn q e
    pub list : list_of q e sec ≡ list_of a.pair d sec ++ new_entry a index sec here key value n d ∷ []
    pub alone : (k : Key) → k ≢ section_key a.pair.layout.index sec → k ≢ section_key a.pair.layout.values sec → e k ≡ d k
    pub same : (bytes : List ℕ) → refusal bytes ≡ a.refusal bytes
    pub small : sec < 2 ^ 64

  module _ {bs : Buffers F (PageBlob S gs)} {told : Type 0} {opened : _} (archive : IsArchive a bs told opened d) (t : told)
      (adds : Adds a q refusal rows Tied indices is_written index sec here key n d e told) (times : Times) (asked : IsFree a index sec here key value n d times) (sound : IsSoundArchive a d) (sounds : Sounds) where
    abbrev record_now : List ℕ
    record_now = new_record a q refusal rows Tied indices is_written index sec here key n d e

    -- the values have grown by the frame
    size_now : glob.section_size q.values sec ≡ glob.section_size a.pair.values sec + n
    size_now =
        let place = a.pair.layout.place in
        let follow : Follow place 0 (records_of q e sec) (glob.section_size q.values sec) = subst (λ (pl : List ℕ → ℕ × ℕ). Follow pl 0 (records_of q e sec) (glob.section_size q.values sec)) sounds.place (sounds.sound.sound.places sec) in
        let all : Follow place 0 (records_of a.pair d sec ++ record_now ∷ []) (glob.section_size q.values sec) =
        subst (λ (rs : List (List ℕ)). Follow place 0 rs (glob.section_size q.values sec)) (records_now a q refusal rows Tied indices is_written index sec here key n d e archive adds t) follow in
        follow_last place 0 (records_of a.pair d sec) record_now (glob.section_size q.values sec) all ∙ ap (λ (x : ℕ × ℕ). x.0 + x.1) asked.place

    list_now : (s : ℕ) → list_of q e s ≡ wanted a index sec here key value n d s
    list_now s = elim (other_or_same sec s) [
      | inl same ↦ subst (λ (u : ℕ). list_of q e u ≡ wanted a index sec here key value n d u) (sym same) (sounds.list ∙ sym (wanted_here a index sec here key value n d))
      | inr other ↦ adds.other_lists t s other ∙ sym (wanted_other a index sec here key value n d s other)
    ]

    decoded_old : (s : ℕ) → AllByRecursion (λ x. refusal x.value ≡ None) (list_of a.pair d s)
    decoded_old s = all_by (λ x. a.refusal x.value ≡ None) (λ x. refusal x.value ≡ None) (λ x is. sounds.same x.value ∙ is) (list_of a.pair d s) (sound.decoded s)

    decoded_now : (s : ℕ) → AllByRecursion (λ x. refusal x.value ≡ None) (list_of q e s)
    decoded_now s = elim (other_or_same sec s) [
      | inl same ↦ subst (λ (u : ℕ). AllByRecursion (λ x. refusal x.value ≡ None) (list_of q e u)) (sym same)
          (subst (AllByRecursion (λ x. refusal x.value ≡ None)) (sym sounds.list)
          (all_push (λ x. refusal x.value ≡ None) (list_of a.pair d sec) (new_entry a index sec here key value n d) (decoded_old sec) (sounds.same value ∙ asked.accepted)))
      | inr other ↦ subst (AllByRecursion (λ x. refusal x.value ≡ None)) (sym (adds.other_lists t s other)) (decoded_old s)
    ]

    other_size : (s : ℕ) → s ≢ sec → glob.section_size q.values s ≡ glob.section_size a.pair.values s
    other_size s other = ap glob.size_held (adds.others s other).1.held

    counted_now : (s : ℕ) → glob.section_size q.values s < 2 ^ 64
    counted_now s = elim (other_or_same sec s) [
      | inl same ↦ subst (λ (u : ℕ). glob.section_size q.values u < 2 ^ 64) (sym same) (omega (arith, size_now, adds.room t))
      | inr other ↦ omega (arith, other_size s other, sound.counted s)
    ]

    absent_now : (s : ℕ) → s < 2 ^ 64 → q.values.held s ≡ None → HasNoBytes (e (section_key q.layout.values s))
    absent_now s small none = elim (other_or_same sec s) [
      | inl same ↦
          let size : glob.section_size q.values sec ≡ 0 = ap (λ (u : ℕ). glob.size_held (q.values.held u)) (sym same) ∙ ap glob.size_held none in
          absurd (omega (arith, size, size_now, asked.some))
      | inr other ↦
          let was : HasNoBytes (d (section_key a.pair.layout.values s)) = sound.absent s small (sym (adds.others s other).1.held ∙ none) in
          let alone : e (section_key a.pair.layout.values s) ≡ d (section_key a.pair.layout.values s) = sounds.alone (section_key a.pair.layout.values s)
          (λ is. archive.pair.apart.values (sym (ap (λ (k : Key). k.0) is))) (keys_differ a.pair.layout.values s sec small sounds.small other) in
          subst (λ (p : List ℕ). HasNoBytes (e (section_key p s))) (sym sounds.values_here) (subst HasNoBytes (sym alone) was)
    ]

    names_now : LeavesNoForeign q.layout e
    names_now =
        let none = no_foreign a.pair.layout archive.pair.apart (λ s. s ≡ sec) d e
        (λ k other. sounds.alone k (λ is. other (inl (sec, sounds.small, refl, is))) (λ is. other (inr (inl (sec, sounds.small, refl, is))))) sound.names in
        record {
          index = λ name c may. none.index name c (subst (λ (p : List ℕ). MayLeave (e (p, name)) (Some c)) sounds.index_here may);
          values = λ name c may. none.values name c (subst (λ (p : List ℕ). MayLeave (e (p, name)) (Some c)) sounds.values_here may);
        }

    -- it is sound
    pub grown_sound : IsSoundArchive new e
    grown_sound = record {
      pair = sounds.sound;
      decoded = decoded_now;
      counted = counted_now;
      absent = absent_now;
      names = names_now;
    }

    -- its state has the record at the end of its section
    pub grown_state : state_of new e ≡ after_putting times a.items index key value (state_of a d)
    grown_state =
        let is : state_of new e ≡ appended a.items index key value (state_of a d) = λ i. record {
          is_open = true;
          lists = λ s. (ap (map (filed (filing_of a))) (list_now s) ∙ lists_appended a index sec here key value n d times asked s) i;
          synced = λ s. adds.synced s i;
          floor = a.floor;
        } in
        is ∙ sym (put_is a index sec here key value n d times asked archive t sound)
