-- Sorting the records that a replay gives, and the pair that a replay gives back.
use Rattle.std.specs.Prelude.{◌≡◌, ◌≢◌, ◌↔◌, ◌⊎◌, ℕ, ◌*◌, ◌/◌, ◌<◌, ◌≤◌, Bool, true, false, List, take, IsTrue, Option, None, Some, is_some, unwrap_or, nat_eq, Result, Ok, Err, IfOk}
use Rattle.std.proofs.Common.{inl, inr, refl, sym, ◌∙◌, ap, subst, arith}
use Rattle.std.specs.List.{AllByRecursion}
use Rattle.std.specs.Option.{option_eq}
use Rattle.std.proofs.lemmas.Bool.{cases_lt, cases_Bool, eq-eqb}
use Rattle.blob_device.specs.Disk.{Disk}
use Rattle.sealed_pages.specs.declared.page_blob.PageBlob.{PageBlob}
use Rattle.sealed_pages.specs.declared.write_blob.WriteBlob.{WriteBlob}
use Rattle.section_manager.specs.declared.unsealed.WriteFactory.{WriteFactory}
use Rattle.section_manager.specs.Sections.{Sections, section_key, IsHeld}
use Rattle.segments.specs.FixedLists.{Lists, IsProven}
use Rattle.segments.specs.FixedLists as fixed
use Rattle.meta_store.specs.Store.{Store}
use Rattle.value_codec.specs.declared.key.Key8.{Key8}
use Rattle.paired.specs.glob.Sections as glob
use Rattle.paired.specs.Kept.{IsMarked, marker_of}
use Rattle.paired.specs.Pair.{Pair, AreMarkers, AreWhole, HasSettled, IsSoundOn, HasNoBytes, records_of, synced_length}
use Rattle.paired.specs.Places.{Follow, end_of}
use Rattle.paired.specs.Records.{records, is_sound}
use Rattle.paired.specs.Replaying.{Run, NotesRecord, counted_end, pair_of, marker, Sorts}
use Rattle.blob_device.proofs.general.Options.{some_same}

-- ---- what tests say
pub ended_not : (o : Option ℕ) (s : ℕ) → false ≡ option_eq nat_eq o (Some s) → o ≢ Some s
ended_not None s is same = cc same
ended_not (Some r) s is same = (let at : r ≡ s = some_same r s same in cc (is, eq-eqb r s at))

pub no_end : (o : Option ℕ) → false ≡ is_some o → o ≡ None
no_end None is = refl
no_end (Some r) is = absurd (cc is)

pub each_ok : {T E : Type 0} (x : Result T E) (P : T → Type 0) → ((r : T) → x ≡ Ok r → P r) → IfOk x P
each_ok (Ok r) P make = make r refl
each_ok (Err e) P make = tt

pub ok_has : {T E : Type 0} (x : Result T E) (P : T → Type 0) (r : T) → x ≡ Ok r → IfOk x P → P r
ok_has {T} {E} x P r is has = (let at : IfOk {T = T} {E = E} (Ok r) P = subst (λ (y : Result T E). IfOk y P) is has in at)

-- ---- a record is sorted
module _ {F S : Type 0} {gs : _} (old : Run F (PageBlob S gs)) (d : Disk) (s p : ℕ) (location : ℕ × ℕ) where
  -- one that was judged is kept where it is good
  pub sorts_noted : (new : Run F (PageBlob S gs)) (r : Bool) → old.tracked ≡ true → old.ended_section ≢ Some s → old.ends.at s ≡ None
      → (IsTrue r ↔ ((p < marker old s) ⊎ IsTrue (is_sound old.layout.seal (glob.section_bytes old.values d s) location)))
      → NotesRecord old.ends new.ends s p (counted_end location) r → Sorts old new d s p location (IsTrue r)
  sorts_noted new r tracked going none good notes = record {
    kept = ((λ so. inr (going, none, good.0 so)), kept_back);
    goes_on = λ so. notes.goes_on so;
    ends = λ never now. end_now (cases_Bool r) never;
    ended = λ is. absurd (going is);
    others = notes.others;
    value = λ so tracks. notes.value so;
    other_values = λ t why. notes.other_values t (elim why [ inl other ↦ inl other | inr never ↦ inr (not_true (cases_Bool r) never) ]);
  }
    where
      kept_back : (old.tracked ≡ false) ⊎ ((old.ended_section ≢ Some s) × (old.ends.at s ≡ None) × ((p < marker old s) ⊎ IsTrue (is_sound old.layout.seal (glob.section_bytes old.values d s) location))) → IsTrue r
      kept_back (inl live) = absurd (cc (tracked, live))
      kept_back (inr parts) = good.1 parts.2

      not_true : (r ≡ true) ⊎ (r ≡ false) → (IsTrue r → ⊥) → r ≡ false
      not_true (inl is) never = absurd (never is)
      not_true (inr bad) never = bad

      end_now : (r ≡ true) ⊎ (r ≡ false) → (IsTrue r → ⊥) → new.ends.at s ≡ Some (unwrap_or (old.ends.at s) p)
      end_now (inl is) never = absurd (never is)
      end_now (inr bad) never = (let here : unwrap_or (old.ends.at s) p ≡ p = ap (λ (o : Option ℕ). unwrap_or o p) none in cc (notes.ends bad, here))

-- ---- the pair that is given back
-- from its start on a replay has proven each section, and before it each was
pub proven_back : {F B : Type 0} (old new : Lists F B) (start position : ℕ) → ((s : ℕ) → (start < s) ⊎ ((position ≡ 0) × (start ≡ s)) → new.unrecovered s ≡ false)
    → ((s : ℕ) → (s < start) ⊎ ((0 < position) × (start ≡ s)) → new.unrecovered s ≡ old.unrecovered s) → ((s : ℕ) → (start < s) ⊎ ((position ≡ 0) × (start ≡ s)) → new.floor_of s ≡ 0)
    → ((s : ℕ) → (s < start) ⊎ ((0 < position) × (start ≡ s)) → new.floor_of s ≡ old.floor_of s) → ((s : ℕ) → IsProven old s) → (s : ℕ) → IsProven new s
proven_back old new start position recovered unrecovered lifted floors proven s = elim (sides (cases_lt start s) (cases_lt s start) (cases_lt 0 position)) [
  | inl on ↦ record { checked = recovered s on; free = lifted s on }
  | inr before ↦ record { checked = unrecovered s before ∙ (proven s).checked; free = floors s before ∙ (proven s).free }
]
  where
    sides : (start < s) ⊎ (s ≤ start) → (s < start) ⊎ (start ≤ s) → (0 < position) ⊎ (position ≤ 0) → ((start < s) ⊎ ((position ≡ 0) × (start ≡ s))) ⊎ ((s < start) ⊎ ((0 < position) × (start ≡ s)))
    sides (inl later) two three = inl (inl later)
    sides (inr le) (inl earlier) three = inr (inl earlier)
    sides (inr le) (inr ge) (inl some) = inr (inr (some, omega (arith, le, ge)))
    sides (inr le) (inr ge) (inr none) = inl (inr (omega (arith, none), omega (arith, le, ge)))

module _ {F S : Type 0} {gs : _} (run : Run F (PageBlob S gs)) (p : Pair F (PageBlob S gs)) (sections : p.index.sections ≡ run.walk.journal.sections) (values : p.values ≡ run.values) (store : p.store ≡ run.store)
    (trailing : p.trailing ≡ run.trailing) (size : p.layout.record_size ≡ run.layout.record_size) where
  held_back : (s : ℕ) → IsHeld run.walk.journal.sections s → IsHeld p.index.sections s
  held_back s held = subst (λ (m : Sections F (PageBlob S gs)). IsHeld m s) (sym sections) held

  was_held : (s : ℕ) (u : PageBlob S gs) → p.index.sections.held s ≡ Some u → run.walk.journal.sections.held s ≡ Some u
  was_held s u held = sym (ap (λ (m : Sections F (PageBlob S gs)). m.held s) sections) ∙ held

  synced_back : (s : ℕ) → synced_length p s ≡ synced_length (pair_of run) s
  synced_back s = λ i. unwrap_or (trailing i s) (marker_of (store i).entries s)

  size_back : (s : ℕ) → fixed.section_size p.index.sections s ≡ fixed.section_size run.walk.journal.sections s
  size_back s = ap (λ (m : Sections F (PageBlob S gs)). fixed.section_size m s) sections

  pub whole_back : ((s : ℕ) → IsProven p.index s) → AreWhole (pair_of run) → AreWhole p
  whole_back proven whole = record {
    recovered = λ s. (proven s).checked;
    unfloored = λ s. (proven s).free;
    index_ceiling = ap (λ (m : Sections F (PageBlob S gs)). m.ceiling) sections ∙ whole.index_ceiling;
    values_ceiling = ap (λ (m : Sections WriteFactory WriteBlob). m.ceiling) values ∙ whole.values_ceiling;
    index_known = λ s. ap (λ (m : Sections F (PageBlob S gs)). m.unopened s) sections ∙ whole.index_known s;
    values_known = λ s. ap (λ (m : Sections WriteFactory WriteBlob). m.unopened s) values ∙ whole.values_known s;
    values_held = λ s held. held_back s (whole.values_held s (subst (λ (m : Sections WriteFactory WriteBlob). IsHeld m s) values held));
    floors = omega (arith, ap (λ (m : Sections WriteFactory WriteBlob). m.floor) values, ap (λ (m : Sections F (PageBlob S gs)). m.floor) sections, whole.floors);
  }

  pub markers_back : AreMarkers (pair_of run) → AreMarkers p
  markers_back markers = record {
    marked = λ s m is.
        let was = markers.marked s m (subst (λ (u : Store Key8 ℕ). IsMarked u.entries s m) store is) in
        (held_back s was.0, omega (arith, was.1, synced_back s));
    trails = λ s n is.
        let was = markers.trails s n (sym (ap (λ (f : ℕ → Option ℕ). f s) trailing) ∙ is) in
        (held_back s was.0, λ same. was.1 (same ∙ ap (λ (u : Store Key8 ℕ). marker_of u.entries s) store));
  }

  pub settled_back : HasSettled (pair_of run) → HasSettled p
  settled_back settled = record {
    index = λ s u held. subst (λ (n : ℕ). n ≤ u.settled) (λ i. sym (synced_back s) i * sym size i) (settled.index s u (was_held s u held));
    lengths = λ s. subst (λ (n : ℕ). n ≤ fixed.section_size p.index.sections s / p.layout.record_size) (sym (synced_back s))
        (subst (λ (n : ℕ). synced_length (pair_of run) s ≤ n) (λ i. sym (size_back s) i / sym size i) (settled.lengths s));
  }

  pub sound_back : p.layout.place ≡ run.layout.place → p.layout.seal ≡ run.layout.seal → p.layout.index ≡ run.layout.index → (d : Disk) → IsSoundOn (pair_of run) d → IsSoundOn p d
  sound_back place seal index d sound = record {
    places = λ s. subst (λ (X : Type 0). X) (sym (follow_same s)) (sound.places s);
    sound = λ s. subst (λ (X : Type 0). X) (sym (sound_same s)) (sound.sound s);
    values_settled = λ s. subst (λ (X : Type 0). X) (sym (settled_same s)) (sound.values_settled s);
    absent = λ s small none. subst (λ (n : List ℕ). HasNoBytes (d (section_key n s))) (sym index) (sound.absent s small (sym (ap (λ (m : Sections F (PageBlob S gs)). m.held s) sections) ∙ none));
  }
    where
      records_same : (s : ℕ) → records_of p d s ≡ records_of (pair_of run) d s
      records_same s = λ i. records (size i) (fixed.section_bytes (sections i) d s)

      follow_same : (s : ℕ) → Follow p.layout.place 0 (records_of p d s) (glob.section_size p.values s) ≡ Follow run.layout.place 0 (records_of (pair_of run) d s) (glob.section_size run.values s)
      follow_same s = λ i. Follow (place i) 0 (records_same s i) (glob.section_size (values i) s)

      sound_same : (s : ℕ) → AllByRecursion (λ r. IsTrue (is_sound p.layout.seal (glob.section_bytes p.values d s) (p.layout.place r))) (records_of p d s)
          ≡ AllByRecursion (λ r. IsTrue (is_sound run.layout.seal (glob.section_bytes run.values d s) (run.layout.place r))) (records_of (pair_of run) d s)
      sound_same s = λ i. AllByRecursion (λ r. IsTrue (is_sound (seal i) (glob.section_bytes (values i) d s) (place i r))) (records_same s i)

      settled_same : (s : ℕ) → (end_of p.layout.place 0 (take (synced_length p s) (records_of p d s)) ≤ glob.settled_size p.values s)
          ≡ (end_of run.layout.place 0 (take (synced_length (pair_of run) s) (records_of (pair_of run) d s)) ≤ glob.settled_size run.values s)
      settled_same s = λ i. end_of (place i) 0 (take (synced_back s i) (records_same s i)) ≤ glob.settled_size (values i) s
