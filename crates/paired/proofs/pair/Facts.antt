-- A pair's copies that are gone hold no markers.
use Rattle.std.proofs.Common.{◌≡◌, inl, ℕ, sym, ◌∙◌, ap, subst}
use Rattle.blob_device.specs.Disk.{Disk, nothing}
use Rattle.value_codec.specs.declared.key.Key8.{Key8}
use Rattle.meta_store.specs.declared.copy.CopyText.{CopyText}
use Rattle.meta_store.specs.declared.copy.CopyText.TheVariants.{Absent}
use Rattle.meta_store.specs.declared.error.Side.{Side}
use Rattle.meta_store.specs.declared.error.Side.TheVariants.{Left, Right}
use Rattle.meta_store.specs.Blobs.{blob_of}
use Rattle.meta_store.specs.Crashes as metadata
use Rattle.meta_store.specs.lemmas.Choices.{both_absent, chosen_on}
use Rattle.meta_store.specs.lemmas.Leaving.{ChooseEither, LeavesText, keeps_of, nothing_leaves}
use Rattle.paired.specs.Kept.{Layout}
use Rattle.meta_store.specs.Pairs.{empty_map}

-- copies that are gone hold no markers, and no floor
pub copies_gone : (l : Layout) (d : Disk) → ((side : Side) → d (blob_of l.metadata side) ≡ nothing) → metadata.Keeps l.markers l.metadata empty_map empty_map d
copies_gone l d gone =
    keeps_of l.markers l.metadata Left empty_map empty_map (λ x. x ≡ Absent) (λ x. x ≡ Absent) d
    (subst (LeavesText l.markers (λ x. x ≡ Absent)) (sym (gone Left)) (nothing_leaves l.markers)) (subst (LeavesText l.markers (λ x. x ≡ Absent)) (sym (gone Right)) (nothing_leaves l.markers)) choose
  where
    choose : ChooseEither l.markers Left empty_map empty_map (λ x. x ≡ Absent) (λ x. x ≡ Absent)
    choose a b is_a is_b =
        let none = both_absent {K = Key8} {V = ℕ} Left in
        (none.0, ap (λ (x : CopyText Key8 ℕ). chosen_on Left x b) is_a ∙ ap (λ (x : CopyText Key8 ℕ). chosen_on Left Absent x) is_b ∙ none.1, inl none.2)
