-- What two copies hold once the older one is written, lost or removed.
use Rattle.std.proofs.Common.{◌≡◌, ℕ, ◌+◌, ◌<◌, List, Result, Ok, refl, sym, ap, subst, arith}
use Rattle.std.proofs.lemmas.Bool.Decides.{nat_tests}
use Rattle.meta_store.specs.declared.copy.Contents.{Contents}
use Rattle.meta_store.specs.declared.copy.CopyText.{CopyText}
use Rattle.meta_store.specs.declared.copy.CopyText.TheVariants.{Absent, Refused, Whole}
use Rattle.meta_store.specs.declared.error.Side.{Side}
use Rattle.meta_store.specs.declared.error.Side.TheVariants.{Left, Right}
use Rattle.meta_store.specs.declared.pair.Chosen.{Chosen}
use Rattle.meta_store.specs.Format.{Format}
use Rattle.meta_store.specs.Copies.{ReadsAs}
use Rattle.meta_store.specs.Pairs.{newer_of, chosen_of, empty_map, HoldMap}
use Rattle.meta_store.specs.Blobs.{other_side}

-- the copy of a side and the other one
abbrev pub chosen_on : {K V : Type 0} → Side → CopyText K V → CopyText K V → Result (Chosen K V) Side
chosen_on Left mine theirs = chosen_of mine theirs
chosen_on Right mine theirs = chosen_of theirs mine

abbrev pub holds_on : {K V : Type 0} → Format K V → Side → List ℕ → List ℕ → Contents K V → Type 0
holds_on f Left mine theirs contents = HoldMap f mine theirs contents
holds_on f Right mine theirs contents = HoldMap f theirs mine contents

pub hold_on : {K V : Type 0} (f : Format K V) (side : Side) (mine theirs : List ℕ) (a b : CopyText K V) (chosen : Chosen K V) (contents : Contents K V) → ReadsAs f mine a → ReadsAs f theirs b
    → chosen_on side a b ≡ Ok chosen → chosen.contents ≡ contents → holds_on f side mine theirs contents
hold_on f Left mine theirs a b chosen contents is_a is_b is same = record { chosen = chosen; reads = record { left_text = a; right_text = b; left_reads = is_a; right_reads = is_b; is = is }; map = same }
hold_on f Right mine theirs a b chosen contents is_a is_b is same = record { chosen = chosen; reads = record { left_text = b; right_text = a; left_reads = is_b; right_reads = is_a; is = is }; map = same }

module _ {K V : Type 0} where
  -- what a choice says of itself
  abbrev pub Is : Result (Chosen K V) Side → ℕ → Side → Contents K V → Type 0
  Is r version older contents = r ≡ Ok (record { version = version; older = older; contents = contents })

  -- a copy that holds this
  abbrev pub whole_of : ℕ → Contents K V → CopyText K V
  whole_of v contents = Whole v contents.floor contents.entries

  -- the left copy is newer
  left_newer : (v w : ℕ) (xs ys : Contents K V) → w < v → Is (newer_of v xs w ys) v Right xs
  left_newer v w xs ys more = grind (arith, nat_tests)

  -- the right copy is newer
  right_newer : (v w : ℕ) (xs ys : Contents K V) → v < w → Is (newer_of v xs w ys) w Left ys
  right_newer v w xs ys more = grind (arith, nat_tests)

  -- what a choice of two whole copies says
  newer_left : (v w n : ℕ) (xs ys zs : Contents K V) → Is (newer_of v xs w ys) n Left zs → (n ≡ w) × (zs ≡ ys) × (v < w)
  newer_left v w n xs ys zs is = grind (arith, nat_tests)

  newer_right : (v w n : ℕ) (xs ys zs : Contents K V) → Is (newer_of v xs w ys) n Right zs → (n ≡ v) × (zs ≡ xs) × (w < v)
  newer_right v w n xs ys zs is = grind (arith, nat_tests)

  -- a choice by its parts
  parts : (x y : Chosen K V) → ◌≡◌ {A = Result (Chosen K V) Side} (Ok x) (Ok y) → (x.version ≡ y.version) × (x.older ≡ y.older) × (x.contents ≡ y.contents)
  parts x y is = let e : x ≡ y = cc is in (ap (λ (c : Chosen K V). c.version) e, ap (λ (c : Chosen K V). c.older) e, ap (λ (c : Chosen K V). c.contents) e)

  -- a copy of one version that holds one thing is one text
  one_whole : (v w : ℕ) (xs ys : Contents K V) → v ≡ w → xs ≡ ys → whole_of v xs ≡ whole_of w ys
  one_whole v w xs ys version same = λ i. Whole (version i) (same i).floor (same i).entries

  -- what is known of the newer copy where something is chosen: it is absent and the map is empty, or it holds the map
  pub data Newer (side : Side) (v : ℕ) (held : Contents K V) (t : CopyText K V) : Type 0 where
    none : side ≡ Left → v ≡ 0 → held ≡ empty_map → t ≡ Absent → Newer side v held t
    whole : t ≡ whole_of v held → Newer side v held t

  pub newer_text : (side : Side) (a b : CopyText K V) (v : ℕ) (held : Contents K V) → Is (chosen_on side a b) v side held → Newer side v held b
  newer_text Left (Refused r) b v held is = absurd (cc is)
  newer_text Left Absent (Refused r) v held is = absurd (cc is)
  newer_text Left (Whole x fl xs) (Refused r) v held is = absurd (cc is)
  newer_text Left Absent Absent v held is = let e = parts _ _ is in none refl (sym e.0) (sym e.2) refl
  newer_text Left (Whole x fl xs) Absent v held is = let e = parts _ _ is in absurd (cc e.1)
  newer_text Left Absent (Whole w fl ys) v held is = let e = parts _ _ is in whole (one_whole w v (record { floor = fl; entries = ys }) held e.0 e.2)
  newer_text Left (Whole x fl xs) (Whole w gl ys) v held is =
      let n = newer_left x w v (record { floor = fl; entries = xs }) (record { floor = gl; entries = ys }) held is in
      whole (one_whole w v (record { floor = gl; entries = ys }) held (sym n.0) (sym n.1))
  newer_text Right a (Refused r) v held is = absurd (cc is)
  newer_text Right (Refused r) Absent v held is = absurd (cc is)
  newer_text Right (Refused r) (Whole w fl ys) v held is = absurd (cc is)
  newer_text Right Absent Absent v held is = let e = parts _ _ is in absurd (cc e.1)
  newer_text Right (Whole x fl xs) Absent v held is = let e = parts _ _ is in absurd (cc e.1)
  newer_text Right Absent (Whole w fl ys) v held is = let e = parts _ _ is in whole (one_whole w v (record { floor = fl; entries = ys }) held e.0 e.2)
  newer_text Right (Whole x fl xs) (Whole w gl ys) v held is =
      let n = newer_right w x v (record { floor = gl; entries = ys }) (record { floor = fl; entries = xs }) held is in
      whole (one_whole w v (record { floor = gl; entries = ys }) held (sym n.0) (sym n.1))

  -- Without the older copy the map is the same.
  pub older_absent : (side : Side) (b : CopyText K V) (v : ℕ) (held : Contents K V) → Newer side v held b → Is (chosen_on side Absent b) v side held
  older_absent Left b v held (none is zero empty absent) = subst (λ (t : CopyText K V). Is (chosen_of Absent t) v Left held) (sym absent) (λ i. Ok (record { version = sym zero i; older = Left; contents = sym empty i }))
  older_absent Right b v held (none is zero empty absent) = absurd (cc is)
  older_absent Left b v held (whole is) = subst (λ (t : CopyText K V). Is (chosen_of Absent t) v Left held) (sym is) refl
  older_absent Right b v held (whole is) = subst (λ (t : CopyText K V). Is (chosen_of t Absent) v Right held) (sym is) refl

  -- With the next version in its place the map is what that holds.
  pub older_next : (side : Side) (b : CopyText K V) (v : ℕ) (held new : Contents K V) → Newer side v held b → Is (chosen_on side (whole_of (v + 1) new) b) (v + 1) (other_side side) new
  older_next Left b v held new (none is zero empty absent) = subst (λ (t : CopyText K V). Is (chosen_of (whole_of (v + 1) new) t) (v + 1) Right new) (sym absent) refl
  older_next Right b v held new (none is zero empty absent) = absurd (cc is)
  older_next Left b v held new (whole is) = subst (λ (t : CopyText K V). Is (chosen_of (whole_of (v + 1) new) t) (v + 1) Right new) (sym is) (left_newer (v + 1) v new held (omega arith))
  older_next Right b v held new (whole is) = subst (λ (t : CopyText K V). Is (chosen_of t (whole_of (v + 1) new)) (v + 1) Left new) (sym is) (right_newer v (v + 1) held new (omega arith))

  -- Without both it is empty.
  pub both_absent : (side : Side) → (chosen : Chosen K V) × (chosen_on side Absent Absent ≡ Ok chosen) × (chosen.contents ≡ empty_map)
  both_absent Left = (record { version = 0; older = Left; contents = empty_map }, refl, refl)
  both_absent Right = (record { version = 0; older = Left; contents = empty_map }, refl, refl)
