-- What removing the copies of a map, the older one first, leaves of it.
use Rattle.std.proofs.Common.{◌≡◌, ◌≢◌, ◌⊎◌, inl, inr, ℕ, List, Result, Ok, Err, refl, sym, ◌∙◌, ap, subst}
use Rattle.blob_device.specs.declared.error.DevError.{DevError}
use Rattle.blob_device.specs.Disk.{Key, Blob, Disk, nothing}
use Rattle.blob_device.specs.Change.{Remove, FailedTo}
use Rattle.blob_device.specs.Timeline.{Timeline, disk, Passes, Always, OnlyAt}
use Rattle.blob_device.specs.lemmas.Moments.{always_now, always_then, always_weaker, only_start, only_on, ok_blob, err_has}
use Rattle.meta_store.specs.declared.copy.Contents.{Contents}
use Rattle.meta_store.specs.declared.copy.CopyText.{CopyText}
use Rattle.meta_store.specs.declared.copy.CopyText.TheVariants.{Absent}
use Rattle.meta_store.specs.declared.error.Side.{Side}
use Rattle.meta_store.specs.Format.{Format}
use Rattle.meta_store.specs.Blobs.{blob_of, other_side}
use Rattle.meta_store.specs.Crashes.{KeepsAlone, Keeps}
use Rattle.meta_store.specs.Pairs.{empty_map}
use Rattle.meta_store.specs.Removing.{Removes, as_before, begun, unseen, gone, Removing}
use Rattle.meta_store.specs.lemmas.Choices.{both_absent, chosen_on, newer_text, older_absent}
use Rattle.meta_store.specs.lemmas.Leaving.{ChooseEither, LeavesText, keeps_of, nothing_leaves, settled_leaves}
use Rattle.meta_store.specs.lemmas.Sides.{StandsOn, neither, sides_apart}
use Rattle.meta_store.proofs.Leaving.{goes_of, goes_leaves, OrAbsent}
use Rattle.meta_store.proofs.Sides.{apart}

removes_failed : (old new : Blob) → FailedTo Remove old new → Removes old new
removes_failed old new (inl is) = begun is
removes_failed old new (inr is) = unseen is

-- one blob is removed
removed : {T : Type 0} (k : Key) (r : Result T DevError) (a b : Timeline) → Passes k Remove r a b → Always a b (OnlyAt k (disk a) (Removes (disk a k)))
removed {T = T} k r a b passes = only_on a a b k (disk a) (Removes (disk a k)) Remove r (only_start a k (Removes (disk a k)) (as_before refl)) passes (begun refl) (after r passes)
  where
    after : (s : Result T DevError) → Passes k Remove s a b → Removes (disk a k) (disk b k)
    after (Ok v) p = gone (ok_blob k Remove v a b p)
    after (Err e) p = err_has {T = T} (Removes (disk a k)) k Remove e a b p (as_before refl) (λ new failed. removes_failed (disk a k) new failed)

module _ (p : List ℕ) (side : Side) {T : Type 0} (k : Key) (a b : Timeline) (key : k ≡ blob_of p side) where
  -- the older copy's blob is
  pub first_moments : (r : Result T DevError) → Passes k Remove r a b → Always a b (Removing p side (disk a))
  first_moments r passes = always_weaker a b (OnlyAt (blob_of p side) (disk a) (Removes (disk a (blob_of p side)))) (Removing p side (disk a))
      (λ d only. record {
        older_blob = only.here;
        newer_blob = as_before (only.others (blob_of p (other_side side)) (sides_apart p side));
        order = inl (only.others (blob_of p (other_side side)) (sides_apart p side));
        others = λ q left right. only.others q (neither p q side left right);
      })
      (removed (blob_of p side) r a b (subst (λ (x : Key). Passes x Remove r a b) key passes))

  -- it has been, and the newer one's is
  module _ {U : Type 0} (l : Key) (v : T) (r : Result U DevError) (c : Timeline) (key' : l ≡ blob_of p (other_side side)) (first : Passes k Remove (Ok v) a b) (second : Passes l Remove r b c) where
    first_at : Passes (blob_of p side) Remove (Ok v) a b
    first_at = subst (λ (x : Key). Passes x Remove (Ok v) a b) key first

    second_at : Passes (blob_of p (other_side side)) Remove r b c
    second_at = subst (λ (x : Key). Passes x Remove r b c) key' second

    between_gone : disk b (blob_of p side) ≡ nothing
    between_gone = ok_blob (blob_of p side) Remove v a b first_at

    between_others : (q : Key) → q ≢ blob_of p side → disk b q ≡ disk a q
    between_others = (always_now a b (OnlyAt (blob_of p side) (disk a) (Removes (disk a (blob_of p side)))) (removed (blob_of p side) (Ok v) a b first_at)).others

    second_removed : Always b c (OnlyAt (blob_of p (other_side side)) (disk b) (Removes (disk b (blob_of p (other_side side)))))
    second_removed = removed (blob_of p (other_side side)) r b c second_at

    pub both_moments : Always a c (Removing p side (disk a))
    both_moments = always_then a b c (Removing p side (disk a)) (first_moments (Ok v) first)
        (always_weaker b c (OnlyAt (blob_of p (other_side side)) (disk b) (Removes (disk b (blob_of p (other_side side))))) (Removing p side (disk a))
        (λ d only. record {
          older_blob = gone (only.others (blob_of p side) (apart p side) ∙ between_gone);
          newer_blob = subst (λ (x : Blob). Removes x (d (blob_of p (other_side side)))) (between_others (blob_of p (other_side side)) (sides_apart p side)) only.here;
          order = inr (only.others (blob_of p side) (apart p side) ∙ between_gone);
          others = λ q left right. only.others q (neither p q (other_side side) left right) ∙ between_others q (neither p q side left right);
        })
        second_removed)

    pub older_gone : disk c (blob_of p side) ≡ nothing
    older_gone = (always_now b c (OnlyAt (blob_of p (other_side side)) (disk b) (Removes (disk b (blob_of p (other_side side))))) second_removed).others (blob_of p side) (apart p side) ∙ between_gone

-- what they leave of the map meanwhile
module _ {K V : Type 0} (f : Format K V) (p : List ℕ) (side : Side) (version : ℕ) (synced : Contents K V) (from : Disk) (s : StandsOn f p side version synced from) where
  only_newer : chosen_on side Absent s.theirs_text ≡ Ok (record { version = version; older = side; contents = synced })
  only_newer = older_absent side s.theirs_text version synced (newer_text side s.mine_text s.theirs_text version synced s.is)

  first_either : ChooseEither f side synced empty_map (OrAbsent s.mine_text) (λ x. x ≡ s.theirs_text)
  first_either a b (inl is_a) is_b = (_, ap (λ (x : CopyText K V). chosen_on side x b) is_a ∙ ap (λ (x : CopyText K V). chosen_on side s.mine_text x) is_b ∙ s.is, inl refl)
  first_either a b (inr is_a) is_b = (_, ap (λ (x : CopyText K V). chosen_on side x b) is_a ∙ ap (λ (x : CopyText K V). chosen_on side Absent x) is_b ∙ only_newer, inl refl)

  then_either : ChooseEither f side synced empty_map (λ x. x ≡ Absent) (OrAbsent s.theirs_text)
  then_either a b is_a (inl is_b) = (_, ap (λ (x : CopyText K V). chosen_on side x b) is_a ∙ ap (λ (x : CopyText K V). chosen_on side Absent x) is_b ∙ only_newer, inl refl)
  then_either a b is_a (inr is_b) = let none = both_absent {K = K} {V = V} side in (none.0, ap (λ (x : CopyText K V). chosen_on side x b) is_a ∙ ap (λ (x : CopyText K V). chosen_on side Absent x) is_b ∙ none.1, inr none.2)

  pub removing_keeps : (d : Disk) → Removing p side from d → KeepsAlone f p synced empty_map from d
  removing_keeps d removing = record { keeps = by_order removing.order; others = removing.others }
    where
      by_order : (d (blob_of p (other_side side)) ≡ from (blob_of p (other_side side))) ⊎ (d (blob_of p side) ≡ nothing) → Keeps f p synced empty_map d
      by_order (inl same) = keeps_of f p side synced empty_map (OrAbsent s.mine_text) (λ x. x ≡ s.theirs_text) d
          (goes_leaves f s.mine s.mine_text (d (blob_of p side)) s.mine_reads (goes_of s.mine (from (blob_of p side)) (d (blob_of p side)) s.mine_settled removing.older_blob))
          (subst (LeavesText f (λ x. x ≡ s.theirs_text)) (sym (same ∙ s.theirs_settled)) (settled_leaves f s.theirs s.theirs_text (λ x. x ≡ s.theirs_text) s.theirs_reads refl))
          first_either
      by_order (inr none) = keeps_of f p side synced empty_map (λ x. x ≡ Absent) (OrAbsent s.theirs_text) d
          (subst (LeavesText f (λ x. x ≡ Absent)) (sym none) (nothing_leaves f))
          (goes_leaves f s.theirs s.theirs_text (d (blob_of p (other_side side))) s.theirs_reads (goes_of s.theirs (from (blob_of p (other_side side))) (d (blob_of p (other_side side))) s.theirs_settled removing.newer_blob))
          then_either
