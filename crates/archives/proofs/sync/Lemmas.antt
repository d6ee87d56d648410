-- What a sync of its pair makes of an archive, and what it leaves at each moment.
use Rattle.std.proofs.Common.{◌≡◌, ◌≢◌, ◌⊎◌, inl, inr, refl, sym, ◌∙◌, ap, subst, ℕ, ◌+◌, ◌<◌, ◌≤◌, ◌^◌, Bool, true, false, List, [], ◌∷◌, length, map, Option, None, Some, IsSome, IsTrue, arith}
use Rattle.std.proofs.Math.Path.{fun_ext}
use Rattle.std.specs.BTreeSet as set
use Rattle.std.specs.BTreeMap.{is_at}
use Rattle.std.specs.Ordering.{nat_cmp}
use Rattle.std.specs.List.{AllByRecursion, list_any}
use Rattle.std.proofs.lemmas.List.{length-map}
use Rattle.blob_device.specs.Disk.{Disk, Key}
use Rattle.blob_device.specs.Opened.{OpenedList}
use Rattle.blob_device.specs.Timeline.{Timeline, disk, Always}
use Rattle.blob_device.specs.lemmas.Moments.{always_now, always_weaker}
use Rattle.sealed_pages.specs.declared.page_blob.PageBlob.{PageBlob}
use Rattle.sealed_pages.specs.declared.write_blob.WriteBlob.{WriteBlob}
use Rattle.section_manager.specs.Sections.{section_key, IsHeld}
use Rattle.value_codec.specs.declared.codec.Error as codec
use Rattle.paired.specs.Crashes.{IsOwn, LeavesAlone}
use Rattle.paired.specs.Crashes as pair
use Rattle.paired.specs.glob.Sections as glob
use Rattle.paired.specs.Kept.{Layout}
use Rattle.paired.specs.Pair.{HasNoBytes, IsPair, Pair, length_of, list_of, records_of, synced_length, IsSafeOn}
use Rattle.paired.specs.PairFaults.{IsSyncedAfter}
use Rattle.paired.specs.PairSync.{IsSyncOf, SyncKeeps}
use Rattle.paired.specs.Places.{Follow}
use Rattle.paired.specs.lemmas.Kept.{follow_least}
use Rattle.paired.specs.lemmas.pair.Reads.{leaves_now}
use Rattle.archives.specs.Archives.{Archive, IsArchive, IsSoundArchive, LeavesNoForeign, filing_of, state_of}
use Rattle.archives.specs.Filing.{filed}
use Rattle.archives.specs.IndexRecord.{IsSpelled}
use Rattle.archives.specs.Machine.{Entry, State, after_sync}
use Rattle.archives.specs.Rows.{row_in}
use Rattle.archives.specs.Standing.{Leaves}
use Rattle.archives.proofs.ArchiveStands.{are_filed, glob_buffers, names_left, no_foreign, stands_at, stored_again, values_apart}
use Rattle.archives.proofs.PuttingLemmas.{none_still}
use Rattle.archives.proofs.StandLemmas.{keeps_stand}
use Rattle.blob_device.proofs.general.Lists.{all_by}
use Rattle.blob_device.proofs.general.Options.{none_or_value}
use Rattle.archives.specs.lemmas.sync.Lemmas.{list_counted}

-- places that follow each other end at one place only
pub follow_one_end : (place : List ℕ → ℕ × ℕ) (rs : List (List ℕ)) (at m n : ℕ) → Follow place at rs m → Follow place at rs n → m ≡ n
follow_one_end place [] at m n one other = sym one ∙ other
follow_one_end place (r ∷ rs) at m n one other = follow_one_end place rs (at + (place r).1) m n one.2 other.2

-- no records stand in no room
follow_none : (place : List ℕ → ℕ × ℕ) (rs : List (List ℕ)) → Follow place 0 rs 0 → rs ≡ []
follow_none place [] follow = refl
follow_none place (r ∷ rs) follow = absurd (omega (arith, follow.1, follow_least place (0 + (place r).1) rs 0 follow.2))

pub true_or_false : (b : Bool) → IsTrue b ⊎ (b ≡ false)
true_or_false true = inl refl
true_or_false false = inr refl

not_true : (b : Bool) → b ≡ false → IsTrue b → ⊥
not_true b is has = absurd (cc (is, has))

pub not_false : (b : Bool) → (IsTrue b → ⊥) → b ≡ false
not_false true not = absurd (not refl)
not_false false not = refl

-- no number is in an empty set
pub none_in : (x : set.BTreeSet ℕ) → x.keys ≡ [] → (s : ℕ) → set.contains nat_cmp x s ≡ false
none_in x none s = ap (list_any (is_at (nat_cmp s))) none

-- a pair that lists the same has the same records
pub records_same : {F S : Type 0} {gs : _} (p q : Pair F (PageBlob S gs)) (d e : Disk) (s : ℕ) → list_of q e s ≡ list_of p d s → records_of q e s ≡ records_of p d s
records_same p q d e s same =
    sym (stored_again q.layout.place (glob.section_bytes q.values e s) (records_of q e s)) ∙ ap (map (λ x. x.stored)) same ∙ stored_again p.layout.place (glob.section_bytes p.values d s) (records_of p d s)

module _ {F S : Type 0} {gs : _} (a : Archive F (PageBlob S gs)) where
  abbrev pub IsNamed : ℕ → Type 0
  IsNamed s = IsTrue (a.is_written s)

  -- a section with rows holds its values
  pub has_values : {bs : _} {told : Type 0} (opened : OpenedList) (d : Disk) → IsArchive a bs told opened d → told → IsSoundArchive a d
      → (s : ℕ) → a.rows s ≢ [] → IsHeld a.pair.values s
  has_values opened d archive t sound s some = elim (none_or_value (a.pair.values.held s)) [
    | inl none ↦
        let rs = records_of a.pair d s in
        let follow : Follow a.pair.layout.place 0 rs 0 = subst (λ (o : Option WriteBlob). Follow a.pair.layout.place 0 rs (glob.size_held o)) none (sound.pair.sound.places s) in
        absurd (some (archive.listed t s ∙ ap (map (row_in a.key_size)) (follow_none a.pair.layout.place rs follow)))
    | inr has ↦ subst IsSome (sym has.1) refl
  ]

  -- ---- what is left now

  -- What a crash now leaves of an archive that is sound stands for its state.
  pub stands_now : {g : _} {gives : _} {takes : _} {told : Type 0} (opened : OpenedList) (d : Disk)
      → 1 ≤ a.pair.layout.record_size → a.pair.index.sections.partition ≡ a.pair.layout.index → a.pair.values.partition ≡ a.pair.layout.values → a.pair.store.partition ≡ a.pair.layout.metadata → IsTrue a.pair.layout.marked
      → ((s : ℕ) (v : PageBlob S gs) → a.pair.index.sections.held s ≡ Some v → v.page_size ≡ a.pair.layout.page_size)
      → IsArchive a (glob_buffers g gives takes) told opened d → told → IsSoundArchive a d → Leaves (filing_of a) (state_of a d) None d
  stands_now opened d pos index values store is_marked paged archive t sound =
      stands_at a d archive t sound (λ _. ⊥) d (λ q not. refl) (leaves_now a.pair opened d pos index values store is_marked paged archive.pair t sound.pair)

  module _ {bs : _} {told : Type 0} (opened : OpenedList) (old new : Timeline) (M N : ℕ → Type 0) (archive : IsArchive a bs told opened (disk old)) (t : told)
      (sound : IsSoundArchive a (disk old)) (keeps : SyncKeeps a.pair M N old new) where
    -- at every moment
    pub sync_moments : Always old new (Leaves (filing_of a) (state_of a (disk old)) None)
    sync_moments = always_weaker old new (LeavesAlone a.pair.layout (list_of a.pair (disk old)) (synced_length a.pair) (λ _. ⊥) (IsOwn a.pair.layout M) (disk old)) (Leaves (filing_of a) (state_of a (disk old)) None)
        (λ d at. stands_at a (disk old) archive t sound M d at.others at.leaves) (keeps.moments sound.pair)

    -- no other blob has changed at its end
    others_now : (q : Key) → (IsOwn a.pair.layout M q → ⊥) → disk new q ≡ disk old q
    others_now = (always_now old new (LeavesAlone a.pair.layout (list_of a.pair (disk old)) (synced_length a.pair) (λ _. ⊥) (IsOwn a.pair.layout M) (disk old)) (keeps.moments sound.pair)).others

    -- Where the markers stopped it, all has settled that was written.
    pub sync_settled : (leaves : (synced : ℕ → ℕ) → IsSyncedAfter a.pair M synced → pair.Leaves a.pair.layout (list_of a.pair (disk old)) synced (λ _. ⊥) (disk new))
        → ((s : ℕ) → IsNamed s → M s) → Leaves (filing_of a) (after_sync (state_of a (disk old))) None (disk new)
    sync_settled leaves all image crash no_chance =
        let lists = list_of a.pair (disk old) in
        let none = no_foreign a.pair.layout archive.pair.apart M (disk old) (disk new) others_now sound.names in
        let after : IsSyncedAfter a.pair M (λ s. length (lists s)) = record {
          named = λ s is. list_counted a.pair (disk old) s;
          others = λ s not. list_counted a.pair (disk old) s ∙ sym (archive.unwritten s (not_false (a.is_written s) (λ is. not (all s is))));
        } in
        keeps_stand (filing_of a) lists (λ s. length (lists s)) image (are_filed a (disk old) archive t sound) (names_left a.pair.layout (disk new) none image crash) (leaves (λ s. length (lists s)) after image crash no_chance)
        (after_sync (state_of a (disk old))) None (λ s small. refl) (λ s small. omega (arith, length-map (lists s) (filed (filing_of a))))

  -- ---- what it is then

  module _ (p : Pair F (PageBlob S gs)) (refusal : List ℕ → Option codec.Error) (is_written : ℕ → Bool) where
    -- the archive after a sync that made this pair
    abbrev pub synced_archive : Archive F (PageBlob S gs)
    synced_archive = record a { pair = p; refusal = refusal; is_written = is_written }

    module _ (sync : IsSyncOf a.pair IsNamed IsNamed p) {bs : _} {told : Type 0} (opened : OpenedList) (d e : Disk) (archive : IsArchive a bs told opened d) where
      all_synced : (s : ℕ) → synced_length p s ≡ length_of p s
      all_synced s = elim (true_or_false (a.is_written s)) [
        | inl is ↦ sync.named s is ∙ sym (sync.lengths s)
        | inr not ↦ sync.others s (not_true (a.is_written s) not) ∙ archive.unwritten s not ∙ sym (sync.lengths s)
      ]

      pub synced_over : (after : OpenedList) → ((s : ℕ) → is_written s ≡ false) → IsPair bs.pages bs.gives bs.values bs.takes told p after e → (told → (s : ℕ) → list_of p e s ≡ list_of a.pair d s) → IsArchive synced_archive bs told after e
      synced_over after none pair lists = record {
        pair = pair;
        items = archive.items;
        floor = archive.floor;
        pair_floor = omega (arith, sync.bounds.0.floor, archive.pair_floor);
        below = λ s low.
            (let bare = archive.below s low in
            record {
              rows = bare.rows;
              records = none_still (a.pair.index.sections.held s) (p.index.sections.held s) (sync.held s).0 bare.records;
              values = none_still (a.pair.values.held s) (p.values.held s) (sync.values_held s).0 bare.values;
            });
        listed = λ t s. archive.listed t s ∙ ap (map (row_in a.key_size)) (sym (records_same a.pair p d e s (lists t s)));
        spelled = λ t s. subst (AllByRecursion (IsSpelled a.key_size)) (sym (records_same a.pair p d e s (lists t s))) (archive.spelled t s);
        tied = archive.tied;
        indices = archive.indices;
        within = archive.within;
        unwritten = λ s _. all_synced s;
        written = λ s is. absurd (not_true (is_written s) (none s) is);
        unsynced = λ t s is. absurd (not_true (is_written s) (none s) is);
      }

      module _ (lists : (s : ℕ) → list_of p e s ≡ list_of a.pair d s) where
        -- its state is the one after a sync
        pub synced_state : state_of synced_archive e ≡ after_sync (state_of a d)
        synced_state =
            let of : (ℕ → List (Entry (List ℕ))) → (ℕ → ℕ) → State (List ℕ) = λ ls ns. record { is_open = true; lists = ls; synced = ns; floor = a.floor } in
            let file = map (filed (filing_of a)) in
            ap (λ ls. of ls (synced_length p)) (fun_ext (λ s. ap file (lists s)))
            ∙ ap (of (λ s. file (list_of a.pair d s))) (fun_ext (λ s. all_synced s ∙ sync.lengths s ∙ sym (list_counted a.pair d s) ∙ sym (length-map (list_of a.pair d s) (filed (filing_of a)))))

        module _ (layout : p.layout ≡ a.pair.layout) (t : told) (sound : IsSoundArchive a d) (pair_sound : IsSafeOn p e) where
          -- the values are as many bytes as before
          size_same : (s : ℕ) → glob.section_size p.values s ≡ glob.section_size a.pair.values s
          size_same s =
              let follow : Follow a.pair.layout.place 0 (records_of p e s) (glob.section_size p.values s) = subst (λ (l : Layout). Follow l.place 0 (records_of p e s) (glob.section_size p.values s)) layout (pair_sound.sound.places s) in
              follow_one_end a.pair.layout.place (records_of a.pair d s) 0 (glob.section_size p.values s) (glob.section_size a.pair.values s)
              (subst (λ rs. Follow a.pair.layout.place 0 rs (glob.section_size p.values s)) (records_same a.pair p d e s (lists s)) follow) (sound.pair.sound.places s)

          still_unheld : (s : ℕ) → p.values.held s ≡ None → a.pair.values.held s ≡ None
          still_unheld s none = elim (none_or_value (a.pair.values.held s)) [
            | inl was ↦ was
            | inr some ↦ absurd (cc (none, (sync.values_held s).1 (subst IsSome (sym some.1) refl)))
          ]

          module _ (others : (q : Key) → (IsOwn a.pair.layout (λ s. IsNamed s × IsHeld a.pair.index.sections s) q → ⊥) → e q ≡ d q) (written : (s : ℕ) → IsNamed s → IsHeld a.pair.values s) where
            -- a section's values that are not held are none of the blobs that change
            not_touched : (s : ℕ) → s < 2 ^ 64 → a.pair.values.held s ≡ None → IsOwn a.pair.layout (λ s. IsNamed s × IsHeld a.pair.index.sections s) (section_key a.pair.layout.values s) → ⊥
            not_touched s small none =
                values_apart a.pair.layout archive.pair.apart (λ s. IsNamed s × IsHeld a.pair.index.sections s) (λ s. IsNamed s × IsHeld a.pair.index.sections s) s small (λ is. (let held = written s is.0 in cc (none, held)))

            pub synced_sound : ((bytes : List ℕ) → refusal bytes ≡ a.refusal bytes) → IsSoundArchive synced_archive e
            synced_sound refuses = record {
              pair = pair_sound;
              decoded = λ s. subst (AllByRecursion (λ x. refusal x.value ≡ None)) (sym (lists s)) (all_by (λ x. a.refusal x.value ≡ None) (λ x. refusal x.value ≡ None) (λ x is. refuses x.value ∙ is) (list_of a.pair d s) (sound.decoded s));
              counted = λ s. omega (arith, sound.counted s, size_same s);
              absent = λ s small none.
                  (let was = still_unheld s none in
                  let blob : HasNoBytes (e (section_key a.pair.layout.values s)) = subst HasNoBytes (sym (others (section_key a.pair.layout.values s) (not_touched s small was))) (sound.absent s small was) in
                  subst (λ (l : Layout). HasNoBytes (e (section_key l.values s))) (sym layout) blob);
              names = subst (λ (l : Layout). LeavesNoForeign l e) (sym layout) (no_foreign a.pair.layout archive.pair.apart (λ s. IsNamed s × IsHeld a.pair.index.sections s) d e others sound.names);
            }
