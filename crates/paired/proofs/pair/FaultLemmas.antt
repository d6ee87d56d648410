-- Under which group a call of a pair answers that the device failed.
use Rattle.std.proofs.Common.{◌≡◌, ◌⊎◌, inl, inr, ℕ, ◌^◌, ◌<◌, ◌≤◌, List, Result, Ok, Err, OnErr, IsSome, refl, sym, ◌∙◌, ap, subst}
use Rattle.std.specs.Result.{IsErrOf}
use Rattle.blob_device.specs.Disk.{Key, Disk}
use Rattle.blob_device.specs.Opened.{OpenedList}
use Rattle.blob_device.specs.Timeline.{Timeline, disk, Always}
use Rattle.blob_device.specs.declared.runtime.RError.TheVariants.{Fault}
use Rattle.sealed_pages.specs.Cutting.{StandsSettled}
use Rattle.sealed_pages.specs.declared.page_blob.PageBlob.{PageBlob}
use Rattle.sealed_pages.specs.declared.write_blob.WriteBlob.{WriteBlob}
use Rattle.section_manager.specs.declared.buffer.SectionBuffer as buffer
use Rattle.section_manager.specs.declared.journal.Error.{Error}
use Rattle.section_manager.specs.declared.journal.Error.TheVariants.{Runtime, Full}
use Rattle.section_manager.specs.declared.unsealed.WriteFactory.{WriteFactory}
use Rattle.section_manager.specs.Raised.{raised_metadata}
use Rattle.section_manager.specs.Refusing.{HasFailed, IsPruned}
use Rattle.section_manager.specs.Sections.{Sections, section_key, key_of, IsHeld, IsSynced}
use Rattle.section_manager.specs.Setting.{Setting}
use Rattle.segments.specs.FixedLists.{Lists}
use Rattle.meta_store.specs.declared.error.Error as meta
use Rattle.meta_store.specs.declared.error.Side.{Side}
use Rattle.meta_store.specs.Blobs.{blob_of}
use Rattle.meta_store.specs.Store.{Store, Stands, contents_of}
use Rattle.value_codec.specs.declared.key.Key8.{Key8}
use Rattle.meta_store.specs.declared.error.Error.TheVariants as store
use Rattle.paired.specs.Crashes.{IsBlobOf, IsCopy}
use Rattle.paired.specs.Pair.{Pair, AreApart}
use Rattle.paired.specs.Kept.{IsMarked, marker_of}
use Rattle.paired.specs.PairFaults.{StandSettled, FaultsInOrder, StopsAtMarkers, AreDropped}
use Rattle.paired.specs.lemmas.Glob.{buffers}
use Rattle.paired.specs.lemmas.pair.Synced.{Here}
use Rattle.paired.proofs.pair.Removed.{stands_stays}
use Rattle.paired.proofs.pair.Sections.{other_partition, IndexSynced, ValuesSynced}
use Rattle.meta_store.specs.declared.copy.Contents.{Contents}
use Rattle.blob_device.proofs.general.Options.{none_or_value, value_of}

abbrev answer : (T : Type 0) → Error → Result T Error
answer T e = Err e

same_error : {T : Type 0} (e x : Error) → answer T e ≡ answer T x → e ≡ x
same_error e x is = cc is

-- what the markers' map failed with is no failure of another part
raised_apart : (e : meta.Error) → raised_metadata e ≡ Runtime Fault → ⊥
raised_apart (store.Runtime r) is = cc is
raised_apart (store.Corruption side) is = cc is
raised_apart store.Full is = cc is
raised_apart store.Mem is = cc is

pub markers_apart : {T : Type 0} (r : Result T Error) (e : meta.Error) → r ≡ Err (raised_metadata e) → IsErrOf r (Runtime Fault) → ⊥
markers_apart {T = T} r e is has = raised_apart e (same_error {T = T} (raised_metadata e) (Runtime Fault) (sym is ∙ has))

module _ {T : Type 0} where
  -- a call that failed before it came to the markers did not end there
  pub before_them : (r : Result T Error) (floor a b x y : ℕ) → OnErr r (IsPruned r floor ⊎ HasFailed r a b) → StopsAtMarkers r x y → ⊥
  before_them (Ok v) floor a b x y cause (inl full) = absurd (cc full)
  before_them (Ok v) floor a b x y cause (inr lost) = absurd (cc lost.0)
  before_them (Err e) floor a b x y (inl pruned) (inl full) = absurd (cc (pruned, full))
  before_them (Err e) floor a b x y (inl pruned) (inr lost) = absurd (cc (pruned, lost.0))
  before_them (Err e) floor a b x y (inr (inl memory)) (inl full) = absurd (cc (memory, full))
  before_them (Err e) floor a b x y (inr (inl memory)) (inr lost) = absurd (cc (memory, lost.0))
  before_them (Err e) floor a b x y (inr (inr fault)) (inl full) = absurd (cc (fault.0, full))
  before_them (Err e) floor a b x y (inr (inr fault)) (inr lost) = absurd (cc (fault.0, lost.0))

  pub before_them_as : {U : Type 0} (r : Result T Error) (e : Error) (floor a b x y : ℕ) → r ≡ Err e → IsPruned {T = U} (Err e) floor ⊎ HasFailed {T = U} (Err e) a b → StopsAtMarkers r x y → ⊥
  before_them_as r e floor a b x y is (inl pruned) (inl full) = absurd (cc (is, pruned, full))
  before_them_as r e floor a b x y is (inl pruned) (inr lost) = absurd (cc (is, pruned, lost.0))
  before_them_as r e floor a b x y is (inr (inl memory)) (inl full) = absurd (cc (is, memory, full))
  before_them_as r e floor a b x y is (inr (inl memory)) (inr lost) = absurd (cc (is, memory, lost.0))
  before_them_as r e floor a b x y is (inr (inr fault)) (inl full) = absurd (cc (is, fault.0, full))
  before_them_as r e floor a b x y is (inr (inr fault)) (inr lost) = absurd (cc (is, fault.0, lost.0))

module _ {F S : Type 0} {gs : _} (p : Pair F (PageBlob S gs)) (IsNamed : ℕ → Type 0) where
  -- where the call did not end at the markers, and their copies stayed
  pub before_markers : {T : Type 0} (r : Result T Error) (x y : ℕ) (a b : Timeline) → Always a b (λ d. (q : Key) → IsCopy p.layout q → d q ≡ disk a q) → (StopsAtMarkers r x y → ⊥) → FaultsInOrder p IsNamed r x y a b
  before_markers r x y a b copies never = record { sections = λ is. copies; stands_settled = λ stops. absurd (never stops); leaves = λ stops sound synced is. absurd (never stops) }

  -- an error that is handed on
  pub faults_as : {T U : Type 0} (r : Result T Error) (e : Error) (x y : ℕ) (a b : Timeline) → r ≡ Err e → FaultsInOrder p IsNamed {T = U} (Err e) x y a b → FaultsInOrder p IsNamed r x y a b
  faults_as {T = T} {U = U} r e x y a b is faults =
      let handed : (w : Error) → IsErrOf r w → IsErrOf {T = U} (Err e) w = λ w has. ap (answer U) (same_error {T = T} e w (sym is ∙ has)) in
      let stopped : StopsAtMarkers r x y → StopsAtMarkers {T = U} (Err e) x y = λ stops. elim stops [
        | inl full ↦ inl (handed Full full)
        | inr lost ↦ inr (handed _ lost.0, lost.1)
      ] in
      record {
        sections = λ has. faults.sections (handed (Runtime Fault) has);
        stands_settled = λ stops. faults.stands_settled (stopped stops);
        leaves = λ stops sound synced after. faults.leaves (stopped stops) sound synced after;
      }

  never_stops : {T : Type 0} (v : T) (x y : ℕ) → StopsAtMarkers {T = T} (Ok v) x y → ⊥
  never_stops v x y (inl full) = absurd (cc full)
  never_stops v x y (inr lost) = absurd (cc lost.0)

  pub faults_ok : {T : Type 0} (v : T) (x y : ℕ) (a b : Timeline) → FaultsInOrder p IsNamed {T = T} (Ok v) x y a b
  faults_ok v x y a b = record { sections = λ is. absurd (cc is); stands_settled = λ stops. absurd (never_stops v x y stops); leaves = λ stops sound synced after. absurd (never_stops v x y stops) }

  -- sections that have settled, while other blobs change
  pub rests_still : (d e : Disk) → ((s : ℕ) → IsHeld p.index.sections s → s < 2 ^ 64) → ((s : ℕ) → IsHeld p.values s → s < 2 ^ 64) → ((q : Key) → IsBlobOf p.layout IsNamed q → e q ≡ d q)
      → StandSettled p IsNamed d → StandSettled p IsNamed e
  rests_still d e index_number values_number same rests = record {
    index = λ s is held. subst StandsSettled (sym (same (section_key p.layout.index s) (inl (s, index_number s held, is, refl)))) (rests.index s is held);
    values = λ s is held. subst StandsSettled (sym (same (section_key p.layout.values s) (inr (s, values_number s held, is, refl)))) (rests.values s is held);
  }

  -- what the calls of the two kinds of sections leave
  pub rests_after : (g : buffer.Ghosts (PageBlob S gs)) (gives : F → Setting) (told : Type 0) (k : Lists F (PageBlob S gs)) (n : Sections WriteFactory WriteBlob) (o0 o1 o2 : OpenedList) (d0 d1 d2 : Disk)
      → Here gives p → AreApart p.layout → IndexSynced g told IsNamed p.index k o0 o1 d0 d1 → ValuesSynced told IsNamed p.values n o1 o2 d1 d2 → told → StandSettled p IsNamed d2
  rests_after g gives told k n o0 o1 o2 d0 d1 d2 here apart index values x = record { index = index_rests; values = values_rest }
    where
      same : (s : ℕ) → d2 (key_of p.index.sections s) ≡ d1 (key_of p.index.sections s)
      same s = values.blobs x (key_of p.index.sections s) (other_partition p.values (λ s. IsNamed s × IsHeld p.values s) p.layout.values (key_of p.index.sections s) here.values (λ is. apart.values (sym here.index ∙ is)))

      index_rests : (s : ℕ) → IsNamed s → IsHeld p.index.sections s → StandsSettled (d2 (section_key p.layout.index s))
      index_rests s is held = elim (none_or_value (p.index.sections.held s)) [
        | inl none ↦ absurd (cc (subst IsSome none held))
        | inr some ↦
            let w = value_of (k.sections.held s) (λ v. IsSynced g told some.0 v (d0 (key_of p.index.sections s)) (d1 (key_of p.index.sections s))) (index.named s some.0 is some.1) in
            subst (λ (l : List ℕ). StandsSettled (d2 (section_key l s))) here.index (subst StandsSettled (sym (same s)) (w.has.rests x))
      ]

      values_rest : (s : ℕ) → IsNamed s → IsHeld p.values s → StandsSettled (d2 (section_key p.layout.values s))
      values_rest s is held = elim (none_or_value (p.values.held s)) [
        | inl none ↦ absurd (cc (subst IsSome none held))
        | inr some ↦
            let w = value_of (n.held s) (λ v. IsSynced buffers told some.0 v (d1 (key_of p.values s)) (d2 (key_of p.values s))) (values.named s some.0 is some.1) in
            subst (λ (l : List ℕ). StandsSettled (d2 (section_key l s))) here.values (w.has.rests x)
      ]

-- markers that were dropped, while no copy of them changes
pub dropped_still : {F B : Type 0} (p : Pair F B) (least : ℕ) (u : Store Key8 ℕ) (held : Contents Key8 ℕ) (d e : Disk) → u.partition ≡ p.layout.metadata → contents_of u ≡ held
    → ((side : Side) → e (blob_of p.layout.metadata side) ≡ d (blob_of p.layout.metadata side)) → Stands p.layout.markers u held d
    → ((s m : ℕ) → IsMarked held.entries s m → (least ≤ s) × IsMarked p.store.entries s m) → ((s : ℕ) → least ≤ s → marker_of held.entries s ≡ marker_of p.store.entries s) → held.floor ≡ p.store.floor → AreDropped p least e
dropped_still p least u held d e here same copies stands marked kept floor = record {
  store = u;
  here = here;
  stands = stands_stays p.layout.markers u (contents_of u) d e (λ side. subst (λ (x : List ℕ). e (blob_of x side) ≡ d (blob_of x side)) (sym here) (copies side)) (subst (λ (m : Contents Key8 ℕ). Stands p.layout.markers u m d) (sym same) stands);
  marked = λ s m is. marked s m (subst (λ (x : Contents Key8 ℕ). IsMarked x.entries s m) same is);
  kept = λ s from. ap (λ (x : Contents Key8 ℕ). marker_of x.entries s) same ∙ kept s from;
  floor = ap (λ (x : Contents Key8 ℕ). x.floor) same ∙ floor;
}
