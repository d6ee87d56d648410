-- Where the copies of a settled pair's markers stay, each lawful image has the same markers.
use Rattle.std.proofs.Common.{◌≡◌, inl, inr, ℕ, not, Bool, false, List, IsTrue, Option, Some, refl, sym, ◌∙◌, ap, subst}
use Rattle.std.proofs.lemmas.Bool.{cases_Bool}
use Rattle.blob_device.specs.Disk.{Blob, Disk, Image, IsCrashOf, MayLeave, reads}
use Rattle.value_codec.specs.declared.key.Key8.{Key8}
use Rattle.meta_store.specs.declared.error.Side.{Side}
use Rattle.meta_store.specs.declared.error.Side.TheVariants.{Left, Right}
use Rattle.meta_store.specs.Blobs.{blob_of}
use Rattle.meta_store.specs.Blobs as metadata
use Rattle.meta_store.specs.Pairs.{HoldMap}
use Rattle.meta_store.specs.Store.{Store, chosen_by, contents_of}
use Rattle.meta_store.specs.lemmas.Uses.{IsReadable, one_map}
use Rattle.paired.specs.lemmas.opening.Phases.{HasMarkers, IsBack, IsPhase, not_copy}
use Rattle.paired.specs.lemmas.reconcile.Resting.{MarksRest, copy_rest, reads_there, rest_left, rest_there}
use Rattle.paired.specs.Kept.{Layout, Markers, marker_of}
use Rattle.paired.specs.Opening.{IsLawful}
use Rattle.paired.specs.Pair.{AreApart}

-- the copies hold the entries alone
module _ {told : Type 0} {l : Layout} {u : Store Key8 ℕ} {d : Disk} (marks : MarksRest told l u d) (t : told) (readable : IsReadable l.markers) where
  pub copies_hold : IsTrue l.marked → HoldMap l.markers (metadata.bytes_of (reads (d (blob_of l.metadata Left)))) (metadata.bytes_of (reads (d (blob_of l.metadata Right)))) (contents_of u)
  copies_hold is =
      let left : reads (d (blob_of l.metadata Left)) ≡ Some (d (blob_of l.metadata Left)).content = reads_there (d (blob_of l.metadata Left)) (rest_there (d (blob_of l.metadata Left)) (copy_rest marks t is Left)) in
      let right : reads (d (blob_of l.metadata Right)) ≡ Some (d (blob_of l.metadata Right)).content = reads_there (d (blob_of l.metadata Right)) (rest_there (d (blob_of l.metadata Right)) (copy_rest marks t is Right)) in
      subst (λ (x : Option (List ℕ)). HoldMap l.markers (metadata.bytes_of x) (metadata.bytes_of (reads (d (blob_of l.metadata Right)))) (contents_of u)) (sym left)
      (subst (λ (x : Option (List ℕ)). HoldMap l.markers (d (blob_of l.metadata Left)).content (metadata.bytes_of x) (contents_of u)) (sym right)
      (subst (λ (p : List ℕ). HoldMap l.markers (d (blob_of p Left)).content (d (blob_of p Right)).content (contents_of u)) (marks.here is)
      (record { chosen = chosen_by u (contents_of u); reads = (marks.stands t is).pair; map = refl })))

  -- so an image that has them as they read is lawful with these alone
  pub markers_one : (old : Image) → (IsTrue l.marked → (side : Side) → old (blob_of l.metadata side) ≡ reads (d (blob_of l.metadata side))) → (markers : Markers) → IsLawful l old markers → markers ≡ contents_of u
  markers_one old same markers lawful = elim (cases_Bool l.marked) [
    | inr not ↦ lawful.held.none not ∙ sym (marks.none not)
    | inl is ↦ one_map l.markers readable (metadata.bytes_of (old (blob_of l.metadata Left))) (metadata.bytes_of (old (blob_of l.metadata Right))) markers (contents_of u) (lawful.held.copies is)
        (subst (λ (x : Option (List ℕ)). HoldMap l.markers (metadata.bytes_of x) (metadata.bytes_of (old (blob_of l.metadata Right))) (contents_of u)) (sym (same is Left))
        (subst (λ (x : Option (List ℕ)). HoldMap l.markers (metadata.bytes_of (reads (d (blob_of l.metadata Left)))) (metadata.bytes_of x) (contents_of u)) (sym (same is Right)) (copies_hold is)))
  ]

  -- where the copies stay, each lawful image has the same markers
  pub same_markers : (apart : AreApart l) (x : Disk) (IsChanged : ℕ → Bool) (phase : IsPhase l apart d x IsChanged false) (image old : Image) (markers : Markers) → IsCrashOf x image → IsBack l apart d x IsChanged false image old → IsLawful l old markers → markers ≡ contents_of u
  same_markers apart x IsChanged phase image old markers crash back lawful =
      markers_one old (λ is side.
      back.other (blob_of l.metadata side) (not_copy l apart d x IsChanged false side refl)
      ∙ rest_left (d (blob_of l.metadata side)) (copy_rest marks t is side) (image (blob_of l.metadata side))
      (subst (λ (b : Blob). MayLeave b (image (blob_of l.metadata side))) (phase.others (blob_of l.metadata side) (not_copy l apart d x IsChanged false side refl)) (crash (blob_of l.metadata side)))) markers lawful

  pub has_markers : (apart : AreApart l) (x : Disk) (IsChanged : ℕ → Bool) (phase : IsPhase l apart d x IsChanged false) → HasMarkers l apart d x IsChanged false phase (λ s. marker_of u.entries s)
  has_markers apart x IsChanged phase image old markers crash back lawful s small =
      ap (λ (ms : Markers). marker_of ms.entries s) (same_markers apart x IsChanged phase image old markers crash back lawful)
