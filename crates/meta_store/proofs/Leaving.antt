-- What a crash leaves of a map while one of its blobs is removed.
use Rattle.std.proofs.Common.{◌≡◌, ◌⊎◌, inl, inr, ℕ, Bool, true, false, List, Option, Some, None, refl, sym, ◌∙◌, ap, subst}
use Rattle.blob_device.specs.Disk.{Blob, MayLeave, past, settled_at, nothing}
use Rattle.blob_device.specs.Change.{Remove, during}
use Rattle.meta_store.specs.declared.copy.CopyText.{CopyText}
use Rattle.meta_store.specs.declared.copy.CopyText.TheVariants.{Absent}
use Rattle.meta_store.specs.Format.{Format}
use Rattle.meta_store.specs.Copies.{ReadsAs}
use Rattle.meta_store.specs.Blobs.{bytes_of}
use Rattle.meta_store.specs.Removing.{Removes, as_before, begun, unseen, gone}
use Rattle.meta_store.specs.Crashes.{NoChanceSeal}
use Rattle.meta_store.specs.lemmas.Sealing.{empty_absent}
use Rattle.meta_store.specs.lemmas.Leaving.{LeavesText, leaves_weaker, nothing_leaves, settled_content, settled_leaves}

-- a blob that held these bytes, while it is removed
pub data Goes (c : List ℕ) (b : Blob) : Type 0 where
  stays : b ≡ settled_at c → Goes c b
  going : (there : Bool) → b ≡ record (settled_at c) { there = there; unsure = true } → Goes c b
  went : b ≡ nothing → Goes c b

pub goes_of : (c : List ℕ) (old b : Blob) → old ≡ settled_at c → Removes old b → Goes c b
goes_of c old b is (as_before same) = stays (same ∙ is)
goes_of c old b is (begun same) = going true (same ∙ ap (during Remove) is)
goes_of c old b is (unseen same) = going false (same ∙ ap (λ (x : Blob). record (during Remove x) { there = false }) is)
goes_of c old b is (gone same) = went same

-- it leaves its text, or none
abbrev pub OrAbsent : {K V : Type 0} → CopyText K V → CopyText K V → Type 0
OrAbsent t x = (x ≡ t) ⊎ (x ≡ Absent)

pub goes_leaves : {K V : Type 0} (f : Format K V) (c : List ℕ) (t : CopyText K V) (b : Blob) → ReadsAs f c t → Goes c b → LeavesText f (OrAbsent t) b
goes_leaves f c t b reads (stays is) = subst (LeavesText f (OrAbsent t)) (sym is) (settled_leaves f c t (OrAbsent t) reads (inl refl))
goes_leaves {K = K} {V = V} f c t b reads (going there is) = subst (LeavesText f (OrAbsent t)) (sym is) (record { crash = left })
  where
    held : Blob
    held = record (settled_at c) { there = there; unsure = true }

    left : (l : Option (List ℕ)) → MayLeave held l → NoChanceSeal f.seal (past held) (bytes_of l) → (x : CopyText K V) × ReadsAs f (bytes_of l) x × OrAbsent t x
    left None may none = (Absent, empty_absent f.seal, inr refl)
    left (Some c') may none = (t, subst (λ (x : List ℕ). ReadsAs f x t) (sym (settled_content c c' (record { no_shorter = may.1.no_shorter; no_longer = may.1.no_longer; kept = may.1.kept; bytes = may.1.bytes }))) reads, inl refl)
goes_leaves f c t b reads (went is) = subst (LeavesText f (OrAbsent t)) (sym is) (leaves_weaker f (λ x. x ≡ Absent) (OrAbsent t) nothing (λ x e. inr e) (nothing_leaves f))
