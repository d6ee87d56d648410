-- What a crash leaves of each blob of a map by itself: its text, and what the two make of the map.
use Rattle.std.proofs.Common.{◌≡◌, ◌⊎◌, inl, inr, ℕ, List, Ok, Option, Some, None, refl, sym, subst, arith}
use Rattle.std.proofs.lemmas.List.{ext_get_or}
use Rattle.blob_device.specs.Disk.{Blob, Disk, MayHold, MayLeave, past, settled_at, nothing}
use Rattle.meta_store.specs.declared.copy.Contents.{Contents}
use Rattle.meta_store.specs.declared.copy.CopyText.{CopyText}
use Rattle.meta_store.specs.declared.copy.CopyText.TheVariants.{Absent}
use Rattle.meta_store.specs.declared.error.Side.{Side}
use Rattle.meta_store.specs.declared.error.Side.TheVariants.{Left, Right}
use Rattle.meta_store.specs.declared.pair.Chosen.{Chosen}
use Rattle.meta_store.specs.Format.{Format}
use Rattle.meta_store.specs.Copies.{ReadsAs}
use Rattle.meta_store.specs.Blobs.{blob_of, bytes_of, other_side}
use Rattle.meta_store.specs.Crashes.{NoChanceSeal, Keeps}
use Rattle.meta_store.specs.lemmas.Choices.{chosen_on, hold_on, holds_on}
use Rattle.meta_store.specs.lemmas.Sealing.{empty_absent}

-- a settled blob outlives every crash as it is
pub settled_content : (c c' : List ℕ) → MayHold (settled_at c) c' → c' ≡ c
settled_content c c' hold = ext_get_or 0 c' c (omega (arith, hold.no_shorter, hold.no_longer)) (λ i lt. hold.kept i (omega (arith, lt, hold.no_longer)) tt)

module _ {K V : Type 0} (f : Format K V) where
  -- each crash leaves a text of which T holds
  pub record LeavesText (T : CopyText K V → Type 0) (b : Blob) : Type 0 where
    pub crash : (left : Option (List ℕ)) → MayLeave b left → NoChanceSeal f.seal (past b) (bytes_of left) → (t : CopyText K V) × ReadsAs f (bytes_of left) t × T t

  pub settled_leaves : (c : List ℕ) (t : CopyText K V) (T : CopyText K V → Type 0) → ReadsAs f c t → T t → LeavesText T (settled_at c)
  settled_leaves c t T reads here = record { crash = left }
    where
      left : (l : Option (List ℕ)) → MayLeave (settled_at c) l → NoChanceSeal f.seal (past (settled_at c)) (bytes_of l) → (x : CopyText K V) × ReadsAs f (bytes_of l) x × T x
      left None may none = absurd (cc may)
      left (Some c') may none = (t, subst (λ (x : List ℕ). ReadsAs f x t) (sym (settled_content c c' may.1)) reads, here)

  pub leaves_weaker : (T U : CopyText K V → Type 0) (b : Blob) → ((t : CopyText K V) → T t → U t) → LeavesText T b → LeavesText U b
  leaves_weaker T U b weaker leaves = record {
    crash = λ l may none. let x = leaves.crash l may none in (x.0, x.1, weaker x.0 x.2);
  }

  -- what is chosen of each two texts holds the one map or the other
  abbrev pub ChooseEither : Side → Contents K V → Contents K V → (T U : CopyText K V → Type 0) → Type 0
  ChooseEither side one other T U = (a b : CopyText K V) → T a → U b → (chosen : Chosen K V) × (chosen_on side a b ≡ Ok chosen) × ((chosen.contents ≡ one) ⊎ (chosen.contents ≡ other))

  hold_one : (side : Side) (mine theirs : List ℕ) (one other : Contents K V) (a b : CopyText K V) (chosen : Chosen K V) → ReadsAs f mine a → ReadsAs f theirs b → chosen_on side a b ≡ Ok chosen
      → (chosen.contents ≡ one) ⊎ (chosen.contents ≡ other) → holds_on f side mine theirs one ⊎ holds_on f side mine theirs other
  hold_one side mine theirs one other a b chosen is_a is_b is (inl same) = inl (hold_on f side mine theirs a b chosen one is_a is_b is same)
  hold_one side mine theirs one other a b chosen is_a is_b is (inr same) = inr (hold_on f side mine theirs a b chosen other is_a is_b is same)

  -- the text of a side and that of the other one make the map
  pub keeps_of : (p : List ℕ) (side : Side) (one other : Contents K V) (T U : CopyText K V → Type 0) (d : Disk) → LeavesText T (d (blob_of p side)) → LeavesText U (d (blob_of p (other_side side)))
      → ChooseEither side one other T U → Keeps f p one other d
  keeps_of p Left one other T U d mine theirs choose = record {
    crash = λ l r may_l may_r none_l none_r.
        let x = mine.crash l may_l none_l in
        let y = theirs.crash r may_r none_r in
        let c = choose x.0 y.0 x.2 y.2 in
        hold_one Left (bytes_of l) (bytes_of r) one other x.0 y.0 c.0 x.1 y.1 c.1 c.2;
  }
  keeps_of p Right one other T U d mine theirs choose = record {
    crash = λ l r may_l may_r none_l none_r.
        let x = mine.crash r may_r none_r in
        let y = theirs.crash l may_l none_l in
        let c = choose x.0 y.0 x.2 y.2 in
        hold_one Right (bytes_of r) (bytes_of l) one other x.0 y.0 c.0 x.1 y.1 c.1 c.2;
  }

-- what is not there leaves nothing
pub nothing_leaves : {K V : Type 0} (f : Format K V) → LeavesText f (λ x. x ≡ Absent) nothing
nothing_leaves {K = K} {V = V} f = record { crash = left }
  where
    left : (l : Option (List ℕ)) → MayLeave nothing l → NoChanceSeal f.seal (past nothing) (bytes_of l) → (x : CopyText K V) × ReadsAs f (bytes_of l) x × (x ≡ Absent)
    left None may none = (Absent, empty_absent f.seal, refl)
    left (Some c') may none = absurd (cc may.0)
