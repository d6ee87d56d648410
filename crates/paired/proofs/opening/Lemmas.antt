-- Steps of an opening: what two partitions' openings leave of their blobs, and boundaries that are gone over one by one.
use Rattle.std.proofs.Common.{◌≡◌, ◌≢◌, ◌↔◌, ◌⊎◌, inl, inr, ℕ, List, [], ◌∷◌, IsTrue, Option, Some, IsSome, refl, sym, ◌∙◌, ap, subst, arith}
use Rattle.std.specs.BTreeMap.{is_at}
use Rattle.std.specs.List.{All, AllByRecursion, Contains}
use Rattle.std.specs.Map.{lookup}
use Rattle.std.specs.Ordering.{nat_cmp}
use Rattle.std.proofs.lemmas.Bool.{cases_eq}
use Rattle.std.proofs.lemmas.Map.Entries.{lookup_tail}
use Rattle.std.proofs.lemmas.List.Elements.{recursion_from_All, Contains-append_right, Contains-append_cases, Contains-push_cases}
use Rattle.blob_device.specs.Disk.{Key, Blob, Disk, settled_at}
use Rattle.blob_device.specs.Timeline.{Timeline, disk, Always, Each}
use Rattle.blob_device.specs.lemmas.Moments.{always_then, always_weaker, always_now}
use Rattle.section_manager.specs.Lasting.{IsSettling}
use Rattle.paired.proofs.tracking.Lemmas.{apart}

-- ---- blobs that are settled as they read
module _ (ceiling : ℕ) (partition : List ℕ) (from d : Disk) (each : Each (IsSettling partition ceiling from) d) where
  -- the blobs of other partitions stay
  pub settling_others : (q : Key) → q.0 ≢ partition → d q ≡ from q
  settling_others q other = elim (each q) [
    | inl same ↦ same
    | inr found ↦ absurd (other (ap (λ (k : Key). k.0) found.2))
  ]

-- the same of the partition and the bound by other names
pub settling_of : (p q : List ℕ) (m n : ℕ) (a b : Timeline) → p ≡ q → m ≡ n → Always a b (Each (IsSettling p m (disk a))) → Always a b (Each (IsSettling q n (disk a)))
settling_of p q m n a b same bound always = subst (λ (x : List ℕ). Always a b (Each (IsSettling x n (disk a)))) same (subst (λ (k : ℕ). Always a b (Each (IsSettling p k (disk a)))) bound always)

-- settled twice is settled once
settling_on : (ceiling : ℕ) (partition : List ℕ) (from mid : Disk) (q : Key) (b : Blob) → IsSettling partition ceiling from q (mid q) → IsSettling partition ceiling mid q b → IsSettling partition ceiling from q b
settling_on ceiling partition from mid q b first second = elim second [
  | inl same ↦ subst (IsSettling partition ceiling from q) (sym same) first
  | inr found ↦ elim first [
    | inl before ↦ inr (found.0, found.1, found.2, subst (λ (x : Blob). IsTrue x.there) before found.3, found.4 ∙ ap (λ (x : Blob). settled_at x.content) before)
    | inr earlier ↦ inr (earlier.0, earlier.1, earlier.2, earlier.3, found.4 ∙ ap (λ (x : Blob). settled_at x.content) earlier.4)
  ]
]

-- One partition is settled, then another.
module _ (ceiling : ℕ) (i v : List ℕ) (differ : i ≢ v) (t0 t1 : Timeline) (first : Always t0 t1 (Each (IsSettling i ceiling (disk t0)))) where
  abbrev pub Both : Disk → Type 0
  Both = Each (λ q b. IsSettling i ceiling (disk t0) q b ⊎ IsSettling v ceiling (disk t0) q b)

  pub both_first : Always t0 t1 Both
  both_first = always_weaker t0 t1 (Each (IsSettling i ceiling (disk t0))) Both (λ d each q. inl (each q)) first

  now_first : Each (IsSettling i ceiling (disk t0)) (disk t1)
  now_first = always_now t0 t1 (Each (IsSettling i ceiling (disk t0))) first

  pub values_first : (name : List ℕ) → disk t1 (v, name) ≡ disk t0 (v, name)
  values_first name = settling_others ceiling i (disk t0) (disk t1) now_first (v, name) (λ same. differ (sym same))

  module _ (t2 : Timeline) (second : Always t1 t2 (Each (IsSettling v ceiling (disk t1)))) where
    now_second : Each (IsSettling v ceiling (disk t1)) (disk t2)
    now_second = always_now t1 t2 (Each (IsSettling v ceiling (disk t1))) second

    both_at : (d : Disk) → Each (IsSettling v ceiling (disk t1)) d → Both d
    both_at d each q = elim (each q) [
      | inl same ↦ inl (subst (IsSettling i ceiling (disk t0) q) (sym same) (now_first q))
      | inr found ↦
          let is : q.0 ≡ v = ap (λ (k : Key). k.0) found.2 in
          inr (settling_on ceiling v (disk t0) (disk t1) q (d q) (inl (settling_others ceiling i (disk t0) (disk t1) now_first q (λ same. differ (sym same ∙ is)))) (inr found))
    ]

    pub both_second : Always t0 t2 Both
    both_second = always_then t0 t1 t2 Both both_first (always_weaker t1 t2 (Each (IsSettling v ceiling (disk t1))) Both both_at second)

    -- nor does it change since
    pub both_still : (t3 : Timeline) → t3 ≡ t2 → Always t0 t3 Both
    both_still t3 same = subst (λ (t : Timeline). Always t0 t Both) (sym same) both_second

-- ---- boundaries, one by one
-- Those that are left are among all, and each other one ends within.
module _ {V : Type 0} (all : ℕ → Option (Option V)) (Within : ℕ → V → Type 0) where
  pub record Checking (rest : List (ℕ × Option V)) : Type 0 where
    pub among : (s : ℕ) (o : Option V) → Contains rest (s, o) → all s ≡ Some o
    pub others : (s : ℕ) (v : V) → all s ≡ Some (Some v) → Contains rest (s, Some v) ⊎ Within s v

  pub checking_all : (rest : List (ℕ × Option V)) → ((s : ℕ) (o : Option V) → Contains rest (s, o) ↔ (all s ≡ Some o)) → Checking rest
  checking_all rest each = record { among = λ s o. (each s o).0; others = λ s v is. inl ((each s (Some v)).1 is) }

  pub checking_first : (s : ℕ) (o : Option V) (later : List (ℕ × Option V)) → Checking ((s, o) ∷ later) → all s ≡ Some o
  checking_first s o later was = was.among s o (0, omega arith, refl)

  pub checking_more : (s : ℕ) (o : Option V) (later : List (ℕ × Option V)) → ((v : V) → o ≡ Some v → Within s v) → Checking ((s, o) ∷ later) → Checking later
  checking_more s o later within was = record {
    among = λ t p has. was.among t p (Contains-append_right ((s, o) ∷ []) later (t, p) has);
    others = λ t v is. elim (was.others t v is) [
      | inl has ↦ elim (Contains-append_cases ((s, o) ∷ []) later (t, Some v) has) [
        | inl one ↦ inr (here t v one)
        | inr more ↦ inl more
      ]
      | inr done ↦ inr done
    ];
  }
    where
      here : (t : ℕ) (v : V) → Contains {X = ℕ × Option V} ((s, o) ∷ []) (t, Some v) → Within t v
      here t v one = elim (Contains-push_cases [] (s, o) (t, Some v) one) [
        | inl none ↦ absurd (omega (arith, none.1))
        | inr same ↦ subst (λ (x : ℕ). Within x v) (ap (λ (p : ℕ × Option V). p.0) same) (within v (ap (λ (p : ℕ × Option V). p.1) same))
      ]

  pub checking_none : (rest : List (ℕ × Option V)) → rest ≡ [] → Checking rest → (s : ℕ) (v : V) → all s ≡ Some (Some v) → Within s v
  checking_none rest none was s v is = elim (was.others s v is) [
    | inl has ↦ absurd (omega (arith, (subst (λ (l : List (ℕ × Option V)). Contains l (s, Some v)) none has).1))
    | inr done ↦ done
  ]

-- ---- numbers that are gone over one by one
-- A set has those that were gone over: with the rest they are all.
module _ (Whole : ℕ → Type 0) where
  abbrev pub GoneOver : (ℕ → Type 0) → List ℕ → Type 0
  GoneOver Has rest = (s : ℕ) → (Has s ⊎ Contains rest s) ↔ Whole s

  pub gone_over_more : (Has Now : ℕ → Type 0) (x : ℕ) (later : List ℕ) → Now x → ((s : ℕ) → Has s → Now s) → ((s : ℕ) → s ≢ x → Now s → Has s) → GoneOver Has (x ∷ later) → GoneOver Now later
  gone_over_more Has Now x later here stays only was s = (to, from)
    where
      to : Now s ⊎ Contains later s → Whole s
      to (inl now) = elim (cases_eq s x) [
        | inl same ↦ (was s).0 (inr (subst (Contains (x ∷ later)) (sym same) (0, omega arith, refl)))
        | inr other ↦ (was s).0 (inl (only s other now))
      ]
      to (inr more) = (was s).0 (inr (Contains-append_right (x ∷ []) later s more))

      from : Whole s → Now s ⊎ Contains later s
      from all = elim ((was s).1 all) [
        | inl had ↦ inl (stays s had)
        | inr has ↦ elim (Contains-append_cases (x ∷ []) later s has) [
          | inl one ↦ elim (Contains-push_cases [] x s one) [
            | inl none ↦ absurd (omega (arith, none.1))
            | inr same ↦ inl (subst Now same here)
          ]
          | inr more ↦ inr more
        ]
      ]

  pub gone_over_all : (Has : ℕ → Type 0) (rest : List ℕ) → rest ≡ [] → GoneOver Has rest → (s : ℕ) → Has s ↔ Whole s
  gone_over_all Has rest none was s = (
    λ has. (was s).0 (inl has),
    λ all. elim ((was s).1 all) [
      | inl has ↦ has
      | inr has ↦ absurd (omega (arith, (subst (λ (l : List ℕ). Contains l s) none has).1))
    ],
  )

-- The markers but for those that are left are of held sections, and those that are left are among all.
pub record AreHeld (IsHeld : ℕ → Type 0) (all rest : List (ℕ × ℕ)) : Type 0 where
  pub held : (s : ℕ) → IsSome (lookup (is_at (nat_cmp s)) all) → IsSome (lookup (is_at (nat_cmp s)) rest) ⊎ IsHeld s
  pub among : AllByRecursion (λ e. lookup (is_at (nat_cmp e.0)) all ≡ Some e.1) rest

pub are_held_more : (IsHeld : ℕ → Type 0) (all later : List (ℕ × ℕ)) (k v : ℕ) → IsHeld k → AreHeld IsHeld all ((k, v) ∷ later) → AreHeld IsHeld all later
are_held_more IsHeld all later k v here was = record {
  held = λ s has. elim (cases_eq s k) [
    | inl same ↦ inr (subst IsHeld (sym same) here)
    | inr other ↦ elim (was.held s has) [
      | inl left ↦ inl (subst IsSome (lookup_tail (is_at (nat_cmp s)) (k, v) later (apart k s (λ same. other (sym same)))) left)
      | inr held ↦ inr held
    ]
  ];
  among = was.among.1;
}

pub are_held_none : (IsHeld : ℕ → Type 0) (all rest : List (ℕ × ℕ)) → rest ≡ [] → AreHeld IsHeld all rest → (s : ℕ) → IsSome (lookup (is_at (nat_cmp s)) all) → IsHeld s
are_held_none IsHeld all rest none was s has = elim (was.held s has) [
  | inl left ↦ absurd (cc (subst (λ (l : List (ℕ × ℕ)). IsSome (lookup (is_at (nat_cmp s)) l)) none left))
  | inr held ↦ held
]

pub are_held_all : (IsHeld : ℕ → Type 0) (all : List (ℕ × ℕ)) → All (λ e. lookup (is_at (nat_cmp e.0)) all ≡ Some e.1) all → AreHeld IsHeld all all
are_held_all IsHeld all found = record { held = λ s has. inl has; among = recursion_from_All (λ e. lookup (is_at (nat_cmp e.0)) all ≡ Some e.1) all found }
