-- What the end of an opening keeps: where the values of the given records are in place, the pair is sound and its lists are what the disk kept.
use Rattle.std.proofs.Common.{◌≡◌, ◌⊎◌, inl, inr, ℕ, ◌+◌, ◌^◌, ◌<◌, ◌≤◌, Bool, List, [], ◌∷◌, length, map, take, IsTrue, Option, None, unwrap_or, refl, sym, ◌∙◌, ap, subst, arith, length-take, length-take-le}
use Rattle.std.specs.Prelude.{is_some}
use Rattle.std.specs.List.{AllByRecursion}
use Rattle.std.proofs.lemmas.Bool.{cases_lt}
use Rattle.std.proofs.lemmas.List.{take_all, take-take}
use Rattle.blob_device.specs.Disk.{Key, Blob, Disk}
use Rattle.blob_device.specs.Opened.{OpenedList}
use Rattle.blob_device.specs.Timeline.{Timeline, disk}
use Rattle.sealed_pages.specs.declared.page_blob.PageBlob.{PageBlob}
use Rattle.sealed_pages.specs.declared.write_blob.WriteBlob.{WriteBlob}
use Rattle.section_manager.specs.declared.buffer.SectionBuffer as buffer
use Rattle.section_manager.specs.declared.unsealed.WriteFactory.{WriteFactory}
use Rattle.section_manager.specs.Prefixes.{IsPrefixOf}
use Rattle.section_manager.specs.Sections.{Sections, section_key, key_of, IsHeld}
use Rattle.section_manager.specs.Setting.{Setting}
use Rattle.paired.specs.lemmas.Glob.{section_counted}
use Rattle.paired.specs.lemmas.Kept.{EndsBy, entry_same, follow_ends, settled_bytes, sound_parts, sound_settled}
use Rattle.paired.specs.lemmas.opening.Ends.{follow_first, follow_last_end, marked_is, marked_or_zero, prefix_is_sound}
use Rattle.paired.specs.lemmas.reconcile.Resting.{none_of, value_idle}
use Rattle.paired.specs.lemmas.reconcile.Start.{Drained, GaveBack, end_of as ending_of, given_all, given_to, given_whole, kept_given, kept_stored, over_sound, over_stored}
use Rattle.section_manager.specs.lemmas.buffers.UnsealedCalls.{prefix_itself}
use Rattle.segments.specs.FixedLists.{Lists}
use Rattle.segments.specs.FixedLists as fixed
use Rattle.segments.specs.FixedReplay.{kept_of}
use Rattle.meta_store.specs.Store.{contents_of}
use Rattle.paired.specs.Crashes.{IsCopy}
use Rattle.paired.specs.glob.Sections as glob
use Rattle.paired.specs.Kept.{stored_records, kept}
use Rattle.paired.specs.Opening.{as_read, IsLawful, MayBeOpened}
use Rattle.paired.specs.OpeningFound.{GivesInPlace, HasKept}
use Rattle.paired.specs.Pair.{HasNoBytes, Pair, IsSoundOn, list_of, records_of}
use Rattle.paired.specs.Places.{Follow, end_of, last_end}
use Rattle.paired.specs.Records.{records, is_sound, entry_of}
use Rattle.paired.specs.Replaying.{Run, marker, records_over, records_given, is_sound_over}
use Rattle.paired.proofs.pair.Synced.{end_within}
use Rattle.paired.specs.lemmas.Records.{map-same}
use Rattle.paired.proofs.Ends.{none_of_not, not_of_none}
use Rattle.paired.proofs.reconcile.Pair.{Reconciled, Notes, pair_with}
use Rattle.blob_device.proofs.general.Lists.{all_by, all_with}
use Rattle.blob_device.proofs.general.Options.{none_or_value}

-- ---- places
module _ (place : List ℕ → ℕ × ℕ) where
  -- where the values follow each other, each ends where they all do, at most
  pub all_by_end : (rs : List (List ℕ)) (end : ℕ) → Follow place 0 rs end → AllByRecursion (EndsBy place end) rs
  all_by_end rs end follow = subst (AllByRecursion (EndsBy place end)) (take_all (length rs) rs (omega arith))
      (follow_ends place (length rs) 0 rs end end end follow (follow_first place (length rs) 0 rs end follow).0 (omega arith))

  -- the last of them ends by where all do
  pub last_by : (n : ℕ) (rs : List (List ℕ)) → AllByRecursion (EndsBy place n) rs → last_end place rs ≤ n
  last_by n [] all = omega arith
  last_by n (r ∷ []) all = all.0
  last_by n (r ∷ q ∷ rs) all = last_by n (q ∷ rs) all.1

  -- they end where the last does
  pub follow_to_last : (rs : List (List ℕ)) (end : ℕ) → Follow place 0 rs end → Follow place 0 rs (last_end place rs)
  follow_to_last rs end follow = elim (follow_last_end place 0 rs end follow) [
    | inl none ↦ subst (λ (xs : List (List ℕ)). Follow place 0 xs (last_end place xs)) (sym none) refl
    | inr same ↦ subst (Follow place 0 rs) (sym same) follow
  ]

-- sound ranges lie within the bytes
pub sound_within : (seal : List ℕ → ℕ) (place : List ℕ → ℕ × ℕ) (bytes : List ℕ) (rs : List (List ℕ)) → AllByRecursion (λ r. IsTrue (is_sound seal bytes (place r))) rs → AllByRecursion (EndsBy place (length bytes)) rs
sound_within seal place bytes rs all = all_by (λ r. IsTrue (is_sound seal bytes (place r))) (EndsBy place (length bytes)) (λ r sound. (sound_parts seal bytes (place r).0 (place r).1 sound).1) rs all

module _ {F S : Type 0} {gs : _} {g : buffer.Ghosts (PageBlob S gs)} {gives : F → Setting} {takes : WriteFactory → Setting} {told : Type 0} {run : Run F (PageBlob S gs)} {o : OpenedList} (a : Timeline) (e : Drained g gives takes told run o (disk a)) (t : told)
    (j0 : Lists F (PageBlob S gs)) (back : GaveBack run j0) where
  abbrev AllSound : ℕ → List (List ℕ) → Type 0
  AllSound s rs = AllByRecursion (λ r. IsTrue (is_sound_over run (disk a) s r)) rs

  -- nothing is given of a section that is not held
  pub none_given : (s : ℕ) → run.walk.journal.sections.held s ≡ None → records_given run (disk a) s ≡ []
  none_given s none = elim (none_or_value (run.ends.at s)) [
    | inl all ↦ given_all e t s all ∙ none_over
    | inr some ↦ absurd (omega (arith, (ending_of e t s some.0 some.1).within, ap length none_over))
  ]
    where
      none_over : records_over run (disk a) s ≡ []
      none_over = ap (λ (x : Option (PageBlob S gs)). records run.layout.record_size (kept_of run.layout.seal (run.walk.journal.unrecovered s) x (disk a (key_of run.walk.journal.sections s)).content)) none ∙ none_of run.layout.record_size e.here.some

  -- ---- which given records are in place
  -- where their places follow each other, and those below the marker are sound
  pub in_place_from : (s end : ℕ) → Follow run.layout.place 0 (records_given run (disk a) s) end → AllSound s (take (marker run s) (records_given run (disk a) s)) → GivesInPlace run (disk a) s
  in_place_from s end follow sound = record {
    end = end;
    follow = follow;
    sound = prefix_is_sound (is_sound_over run (disk a) s) (marker run s) (marker run s) 0 (records_given run (disk a) s) (omega arith) sound (given_whole e t s);
  }

  pub none_in_place : (s : ℕ) → records_given run (disk a) s ≡ [] → GivesInPlace run (disk a) s
  none_in_place s none = record {
    end = 0;
    follow = subst (λ (rs : List (List ℕ)). Follow run.layout.place 0 rs 0) (sym none) refl;
    sound = subst (AllSound s) (sym none) tt;
  }

  -- the first of those that are stored, with all below the marker
  given_first : (s : ℕ) → ((k : ℕ) × (records_given run (disk a) s ≡ take k (records_over run (disk a) s)) × ((marker run s ≤ k) ⊎ (records_given run (disk a) s ≡ records_over run (disk a) s)))
  given_first s = elim (none_or_value (run.ends.at s)) [
    | inl none ↦ (length (records_over run (disk a) s), given_all e t s none ∙ sym (take_all (length (records_over run (disk a) s)) (records_over run (disk a) s) (omega arith)), inr (given_all e t s none))
    | inr some ↦ (some.0, given_to e t s some.0 some.1, inl (ending_of e t s some.0 some.1).from)
  ]

  -- on a lawful disk
  pub in_place_lawful : IsLawful run.layout (as_read (disk a)) (contents_of run.store) → (s : ℕ) → GivesInPlace run (disk a) s
  in_place_lawful lawful s = elim (cases_lt s (2 ^ 64)) [
    | inr large ↦ none_in_place s (none_given s (none_of_not (run.walk.journal.sections.held s) (λ has. absurd (omega (arith, large, e.over.index.over.opened_list.number s (inl has))))))
    | inl small ↦
        let over : List (List ℕ) = records_over run (disk a) s in
        let first = given_first s in
        let places = lawful.places s small in
        let follow : Follow run.layout.place 0 over places.end = subst (λ (rs : List (List ℕ)). Follow run.layout.place 0 rs places.end) (over_stored e j0 back t s small) places.follow in
        in_place_from s (end_of run.layout.place 0 (take first.0 over)) (subst (λ (rs : List (List ℕ)). Follow run.layout.place 0 rs (end_of run.layout.place 0 (take first.0 over))) (sym first.1) (follow_first run.layout.place first.0 0 over places.end follow).1)
        (below s small first)
  ]
    where
      marked_sound : (s : ℕ) → s < 2 ^ 64 → AllSound s (take (marker run s) (records_over run (disk a) s))
      marked_sound s small = elim (marked_or_zero run.store.entries s) [
        | inl is ↦
            let was = (lawful.true_markers s is.0 is.1).sound in
            let same : marker run s ≡ is.0 = marked_is run.store.entries s is.0 is.1 in
            subst (λ (m : ℕ). AllSound s (take m (records_over run (disk a) s))) (sym same)
            (subst (λ (rs : List (List ℕ)). AllSound s (take is.0 rs)) (over_stored e j0 back t s small)
            (subst (λ (f : List ℕ → Bool). AllByRecursion (λ r. IsTrue (f r)) (take is.0 (stored_records run.layout (as_read (disk a)) s))) (over_sound e j0 back t s small) was))
        | inr none ↦ subst (λ (m : ℕ). AllSound s (take m (records_over run (disk a) s))) (sym none) tt
      ]

      below : (s : ℕ) → s < 2 ^ 64 → ((k : ℕ) × (records_given run (disk a) s ≡ take k (records_over run (disk a) s)) × ((marker run s ≤ k) ⊎ (records_given run (disk a) s ≡ records_over run (disk a) s))) → AllSound s (take (marker run s) (records_given run (disk a) s))
      below s small (k, is, inl le) = subst (AllSound s) (sym (ap (take (marker run s)) is ∙ take-take (marker run s) k (records_over run (disk a) s) le)) (marked_sound s small)
      below s small (k, is, inr same) = subst (λ (rs : List (List ℕ)). AllSound s (take (marker run s) rs)) (sym same) (marked_sound s small)

  -- ---- the pair over them
  module _ (j : Lists F (PageBlob S gs)) (n : Sections WriteFactory WriteBlob) (o3 : OpenedList) (d : Disk) (did : Reconciled g gives takes told run (disk a) j n o3 d) (trailing : ℕ → Option ℕ) (notes : Notes run j trailing) where
    abbrev given : ℕ → List (List ℕ)
    given s = records_given run (disk a) s

    abbrev old_values : ℕ → List ℕ
    old_values s = glob.section_bytes run.values (disk a) s

    abbrev new_values : ℕ → List ℕ
    new_values s = glob.section_bytes n d s

    -- the values are cut where the last one ends
    pub new_prefix : (s : ℕ) → IsHeld run.walk.journal.sections s → IsPrefixOf (take (last_end run.layout.place (given s)) (old_values s)) (new_values s)
    new_prefix s has = subst (IsPrefixOf (take (last_end run.layout.place (given s)) (old_values s))) (sym (did.values t s has)) (prefix_itself (take (last_end run.layout.place (given s)) (old_values s)))

    module _ (s : ℕ) (has : IsHeld run.walk.journal.sections s) (is : GivesInPlace run (disk a) s) where
      abbrev cut_at : ℕ
      cut_at = last_end run.layout.place (given s)

      inside : (r : List ℕ) → EndsBy run.layout.place cut_at r → EndsBy run.layout.place (length (old_values s)) r → (run.layout.place r).0 + (run.layout.place r).1 ≤ length (take cut_at (old_values s))
      inside r low high = omega (arith, low, high, length-take (last_end run.layout.place (given s)) (old_values s))

      all_inside : AllByRecursion (λ r. (run.layout.place r).0 + (run.layout.place r).1 ≤ length (take cut_at (old_values s))) (given s)
      all_inside = all_with (EndsBy run.layout.place (last_end run.layout.place (given s))) (EndsBy run.layout.place (length (old_values s))) (λ r. (run.layout.place r).0 + (run.layout.place r).1 ≤ length (take (last_end run.layout.place (given s)) (old_values s)))
          inside (given s) (all_by_end run.layout.place (given s) (last_end run.layout.place (given s)) (follow_to_last run.layout.place (given s) is.end is.follow)) (sound_within run.layout.seal run.layout.place (old_values s) (given s) is.sound)

      pub still_sound : AllByRecursion (λ r. IsTrue (is_sound run.layout.seal (new_values s) (run.layout.place r))) (given s)
      still_sound = all_with (λ r. (run.layout.place r).0 + (run.layout.place r).1 ≤ length (take (last_end run.layout.place (given s)) (old_values s))) (λ r. IsTrue (is_sound_over run (disk a) s r)) (λ r. IsTrue (is_sound run.layout.seal (new_values s) (run.layout.place r)))
          (λ r within sound. sound_settled run.layout.seal (old_values s) (new_values s) (last_end run.layout.place (given s)) (run.layout.place r).0 (run.layout.place r).1 (new_prefix s has) within sound) (given s) all_inside is.sound

      pub still_entries : map (entry_of run.layout.place (new_values s)) (given s) ≡ map (entry_of run.layout.place (old_values s)) (given s)
      still_entries = map-same (entry_of run.layout.place (new_values s)) (entry_of run.layout.place (old_values s)) (given s)
          (all_by (λ r. (run.layout.place r).0 + (run.layout.place r).1 ≤ length (take (last_end run.layout.place (given s)) (old_values s))) (λ r. entry_of run.layout.place (new_values s) r ≡ entry_of run.layout.place (old_values s) r)
          (λ r within. entry_same run.layout.place (old_values s) (new_values s) r (settled_bytes (old_values s) (new_values s) (last_end run.layout.place (given s)) (run.layout.place r).0 (run.layout.place r).1 (new_prefix s has) within)) (given s) all_inside)

      -- the values end there
      pub ends_there : glob.section_size n s ≡ last_end run.layout.place (given s)
      ends_there =
          let low : last_end run.layout.place (given s) ≤ length (old_values s) = last_by run.layout.place (length (old_values s)) (given s) (sound_within run.layout.seal run.layout.place (old_values s) (given s) is.sound) in
          sym (section_counted takes n o3 d did.joint.rests.parts.values t s) ∙ ap length (did.values t s has) ∙ length-take-le (last_end run.layout.place (given s)) (old_values s) low

    unheld : (s : ℕ) → run.walk.journal.sections.held s ≡ None → n.held s ≡ None
    unheld s none = none_of_not (n.held s) (λ has. not_of_none (run.walk.journal.sections.held s) none ((did.values_held s).0 has).1)

    -- how many bytes the values have
    pub ends_at : (s : ℕ) → GivesInPlace run (disk a) s → glob.section_size n s ≡ last_end run.layout.place (given s)
    ends_at s is = elim (none_or_value (run.walk.journal.sections.held s)) [
      | inl none ↦ ap glob.size_held (unheld s none) ∙ sym (ap (last_end run.layout.place) (none_given s none))
      | inr some ↦ ends_there s (ap is_some some.1) is
    ]

    same_entries : (s : ℕ) → GivesInPlace run (disk a) s → map (entry_of run.layout.place (new_values s)) (given s) ≡ map (entry_of run.layout.place (old_values s)) (given s)
    same_entries s is = elim (none_or_value (run.walk.journal.sections.held s)) [
      | inl none ↦ ap (map (entry_of run.layout.place (new_values s))) (none_given s none) ∙ sym (ap (map (entry_of run.layout.place (old_values s))) (none_given s none))
      | inr some ↦ still_entries s (ap is_some some.1) is
    ]

    pub lists_kept : (s : ℕ) → s < 2 ^ 64 → GivesInPlace run (disk a) s → list_of (pair_with run j n trailing) d s ≡ kept run.layout (as_read (disk a)) (marker run s) s
    lists_kept s small is = ap (map (entry_of run.layout.place (new_values s))) (did.joint.records t s) ∙ same_entries s is ∙ sym (kept_given e j0 back t s small)

    pub sound_values : (s : ℕ) → GivesInPlace run (disk a) s → AllByRecursion (λ r. IsTrue (is_sound run.layout.seal (new_values s) (run.layout.place r))) (given s)
    sound_values s is = elim (none_or_value (run.walk.journal.sections.held s)) [
      | inl none ↦ subst (AllByRecursion (λ r. IsTrue (is_sound run.layout.seal (new_values s) (run.layout.place r)))) (sym (none_given s none)) tt
      | inr some ↦ still_sound s (ap is_some some.1) is
    ]

    settled_all : (s : ℕ) → glob.settled_size n s ≡ glob.section_size n s
    settled_all s = elim (none_or_value (n.held s)) [
      | inl none ↦ ap glob.settled_held none ∙ sym (ap glob.size_held none)
      | inr some ↦ ap glob.settled_held some.1 ∙ (value_idle did.joint.rests.parts s some.0 some.1).0 ∙ sym (ap glob.size_held some.1)
    ]

    pub sound_pair : MayBeOpened run.layout (disk a) → ((s : ℕ) → GivesInPlace run (disk a) s) → IsSoundOn (pair_with run j n trailing) d
    sound_pair may each = record {
      places = λ s.
          let is = each s in
          subst (λ (rs : List (List ℕ)). Follow run.layout.place 0 rs (glob.section_size n s)) (sym (did.joint.records t s))
          (subst (Follow run.layout.place 0 (given s)) (sym (ends_at s is)) (follow_to_last run.layout.place (given s) is.end is.follow));
      sound = λ s. subst (AllByRecursion (λ r. IsTrue (is_sound run.layout.seal (new_values s) (run.layout.place r)))) (sym (did.joint.records t s)) (sound_values s (each s));
      values_settled = λ s.
          let is = each s in
          let synced : ℕ = unwrap_or (trailing s) (marker run s) in
          let within : end_of run.layout.place 0 (take synced (given s)) ≤ last_end run.layout.place (given s) =
          end_within run.layout.place synced 0 (given s) (last_end run.layout.place (given s)) (follow_to_last run.layout.place (given s) is.end is.follow) in
          subst (λ (rs : List (List ℕ)). end_of run.layout.place 0 (take synced rs) ≤ glob.settled_size n s) (sym (did.joint.records t s)) (omega (arith, within, ends_at s is, settled_all s));
      absent = λ s small none. (did.joint.bare t may).index s small none;
    }

    -- ---- what the pair has kept, over a disk on which the copies alone are others
    pub kept_all : (q : Pair F (PageBlob S gs)) (f : Disk) → ((k : Key) → (IsCopy run.layout k → ⊥) → f k ≡ d k) → q.index ≡ j → q.values ≡ n → q.layout.record_size ≡ run.layout.record_size
        → ((s : ℕ) → list_of q f s ≡ list_of (pair_with run j n trailing) d s) → (IsSoundOn (pair_with run j n trailing) d → IsSoundOn q f) → HasKept run (disk a) f q
    kept_all q f alone index values sized lists sound = record {
      records = here;
      stored = λ s small. here s ∙ sym (kept_stored e j0 back t s small);
      values = λ s has. now s ∙ did.values t s has;
      orphans = λ s has none. no_copy s ∙ did.orphans t s has none;
      in_place = in_place_lawful;
      lists = λ s small is. lists s ∙ lists_kept s small is;
      sound = λ may each. sound (sound_pair may each);
      bare = λ may s small none. subst HasNoBytes (sym (no_copy s)) ((did.joint.bare t may).values s small (ap (λ (x : Sections WriteFactory WriteBlob). x.held s) (sym values) ∙ none));
    }
      where
        no_copy : (s : ℕ) → f (section_key run.layout.values s) ≡ d (section_key run.layout.values s)
        no_copy s = alone (section_key run.layout.values s) (λ copy. e.over.apart.both (ap (λ (k : Key). k.0) copy.1))

        index_blob : (s : ℕ) → f (key_of j.sections s) ≡ d (key_of j.sections s)
        index_blob s = alone (key_of j.sections s) (λ copy. e.over.apart.metadata (sym did.joint.rests.parts.index_here ∙ ap (λ (k : Key). k.0) copy.1))

        values_blob : (s : ℕ) → f (key_of n s) ≡ d (key_of n s)
        values_blob s = alone (key_of n s) (λ copy. e.over.apart.both (sym did.joint.rests.parts.values_here ∙ ap (λ (k : Key). k.0) copy.1))

        here : (s : ℕ) → records_of q f s ≡ records_given run (disk a) s
        here s = ap (λ (k : ℕ). records k (fixed.section_bytes q.index.sections f s)) sized
            ∙ ap (λ (x : Lists F (PageBlob S gs)). records run.layout.record_size (fixed.section_bytes x.sections f s)) index
            ∙ ap (λ (x : Blob). records run.layout.record_size (fixed.bytes_held (j.sections.held s) x.content)) (index_blob s) ∙ did.joint.records t s

        now : (s : ℕ) → glob.section_bytes q.values f s ≡ glob.section_bytes n d s
        now s = ap (λ (x : Sections WriteFactory WriteBlob). glob.section_bytes x f s) values ∙ ap (λ (x : Blob). glob.bytes_held (n.held s) x.content) (values_blob s)
