-- What is left of a glob by the manager's calls on several of its sections.
use Rattle.std.specs.Prelude.{◌≡◌, ◌≢◌, ◌⊎◌, ℕ, zero, suc, ◌^◌, ◌<◌, ◌≤◌, List, [], take, Option, None, Some, IsSome, IsSomeAnd, IsTrue}
use Rattle.std.proofs.Common.{inl, inr, refl, sym, ◌∙◌, ap, subst, arith}
use Rattle.std.specs.Option.{is_some}
use Rattle.std.proofs.lemmas.Bool.{cases_lt, cases_eq}
use Rattle.blob_device.specs.Disk.{Key, Disk}
use Rattle.blob_device.specs.Opened.{OpenedList}
use Rattle.blob_device.specs.Timeline.{Each}
use Rattle.sealed_pages.specs.declared.write_blob.WriteBlob.{WriteBlob}
use Rattle.section_manager.specs.Setting.{Setting}
use Rattle.section_manager.specs.Sections.{Sections, section_key, key_of, IsHeld, IsKnown, IsGone, IsSame, SameBounds, IsOver, IsSynced, IsCut}
use Rattle.section_manager.specs.Lasting.{Syncing, Cutting, Truncating, Removing, IsLonger, IsUnsettled}
use Rattle.paired.specs.lemmas.Glob.{Serves, buffers, glob_one, no_bytes, other_key, same_bytes, serves_of}
use Rattle.section_manager.specs.lemmas.sections.Remove.{gone_unknown}
use Rattle.paired.specs.glob.Sections.{section_bytes, HasSettled, IsAllSettled, IsGlob}
use Rattle.paired.proofs.StepLemmas.{of_some, Steps, step_synced, step_cut, step_same, glob_steps, synced_bytes, synced_settled, synced_all, cut_bytes, cut_settled, cut_all}
use Rattle.blob_device.proofs.general.Options.{none_or_value, some_same, some_there, value_of}

pub held_some : {T : Type 0} (o : Option T) → IsSome o → (v : T) × (o ≡ Some v)
held_some None held = absurd (cc held)
held_some (Some v) held = (v, refl)

take_none : (n : ℕ) (l : List ℕ) → l ≡ [] → take n l ≡ l
take_none zero l none = sym none
take_none (suc n) l none = subst (λ (k : List ℕ). take (suc n) k ≡ k) (sym none) refl

-- where one section and the others are known, all are
pub none_each : {F : Type 0} (m n : Sections F WriteBlob) (s : ℕ) → (m.held s ≡ None → n.held s ≡ None) → ((q : ℕ) → q ≢ s → IsSame m n q) → (q : ℕ) → m.held q ≡ None → n.held q ≡ None
none_each m n s absent others q none = elim (cases_eq q s) [
  | inl is ↦ subst (λ (k : ℕ). n.held k ≡ None) (sym is) (absent (subst (λ (k : ℕ). m.held k ≡ None) is none))
  | inr other ↦ (others q other).held ∙ none
]

-- where the later ones are gone
pub none_after : {F : Type 0} (m n : Sections F WriteBlob) (s : ℕ) → ((q : ℕ) → s < q → IsGone n q) → ((q : ℕ) → q < s → IsSame m n q) → (m.held s ≡ None → n.held s ≡ None) → (q : ℕ) → m.held q ≡ None → n.held q ≡ None
none_after m n s later earlier absent q none = elim (cases_lt s q) [
  | inl behind ↦ (later q behind).held
  | inr up_to ↦ elim (cases_lt q s) [
    | inl before ↦ (earlier q before).held ∙ none
    | inr from ↦
        let is : s ≡ q = omega (arith, up_to, from) in
        subst (λ (k : ℕ). m.held k ≡ None → n.held k ≡ None) is absent none
  ]
]

-- where the earlier ones are gone
pub none_from : {F : Type 0} (m n : Sections F WriteBlob) (least : ℕ) → ((q : ℕ) → q < least → IsGone n q) → ((q : ℕ) → least ≤ q → IsSame m n q) → (q : ℕ) → m.held q ≡ None → n.held q ≡ None
none_from m n least removed kept q none = elim (cases_lt q least) [
  | inl below ↦ (removed q below).held
  | inr from ↦ (kept q from).held ∙ none
]

module _ {F : Type 0} (gives : F → Setting) {told : Type 0} (m n : Sections F WriteBlob) (old new : OpenedList) (d e : Disk)
    (glob : IsGlob buffers gives told m old d) (over : IsOver buffers gives told n new e) (place : n.partition ≡ m.partition)
    (none : (s : ℕ) → m.held s ≡ None → n.held s ≡ None) where
  known_small : (s : ℕ) → IsKnown m s → s < 2 ^ 64
  known_small = glob.over.opened_list.number

  here : (s : ℕ) → key_of n s ≡ key_of m s
  here s = ap (λ (p : List ℕ). section_key p s) place

  -- the bytes of a section that stays over a blob that stays
  stays_bytes : (s : ℕ) → n.held s ≡ m.held s → (IsHeld m s → e (key_of m s) ≡ d (key_of m s)) → section_bytes n e s ≡ section_bytes m d s
  stays_bytes s same blob = same_bytes m n d e s same (λ held. ap e (here s) ∙ blob held)

  module _ (Named : ℕ → Type 0) (named_or_not : (s : ℕ) → Named s ⊎ (Named s → ⊥))
      (named : (s : ℕ) (u : WriteBlob) → Named s → m.held s ≡ Some u → IsSomeAnd (n.held s) (λ v. IsSynced buffers told u v (d (key_of m s)) (e (key_of m s))))
      (others : (s : ℕ) → (Named s → ⊥) → n.held s ≡ m.held s) (moments : told → Each (Syncing buffers m Named d) e) where
    unsynced_blob : told → (s : ℕ) → IsHeld m s → (Named s → ⊥) → e (key_of m s) ≡ d (key_of m s)
    unsynced_blob t s held not_named = (moments t (key_of m s)).others
        (other_key m (λ q. Named q × IsUnsettled buffers m q) (λ q p. let w = value_of (m.held q) _ p.1 in known_small q (inl (some_there (m.held q) w.value w.is))) s (known_small s (inl held)) (λ p. not_named p.0))

    synced : (s : ℕ) (u v : WriteBlob) → Named s → m.held s ≡ Some u → n.held s ≡ Some v → IsSynced buffers told u v (d (key_of m s)) (e (key_of m s))
    synced s u v is was now = of_some (n.held s) (λ w. IsSynced buffers told u w (d (key_of m s)) (e (key_of m s))) v now (named s u is was)

    pub sync_glob : (told → (s : ℕ) → IsSome (n.unopened s) → n.ceiling < s) → IsGlob buffers gives told n new e
    sync_glob unopened = glob_steps gives m n old new d e glob over place none (λ s u v was now. elim (named_or_not s) [
      | inl is ↦ step_synced u v (d (key_of m s)) (e (key_of m s)) (synced s u v is was now)
      | inr not_named ↦ step_same u v (d (key_of m s)) (e (key_of m s)) (some_same v u (sym now ∙ others s not_named ∙ was)) (λ t. unsynced_blob t s (some_there (m.held s) u was) not_named)
    ]) unopened

    pub sync_bytes : told → (s : ℕ) → section_bytes n e s ≡ section_bytes m d s
    sync_bytes t s = elim (none_or_value (m.held s)) [
      | inl absent ↦ no_bytes n e s (none s absent) ∙ sym (no_bytes m d s absent)
      | inr was ↦ elim (named_or_not s) [
        | inl is ↦
            let w = value_of (n.held s) _ (named s was.0 is was.1) in
            synced_bytes gives m n old new d e glob over place none s was.0 w.value was.1 w.is t w.has
        | inr not_named ↦ stays_bytes s (others s not_named) (λ held. unsynced_blob t s held not_named)
      ]
    ]

    pub sync_settled : told → (s : ℕ) → Named s → IsHeld m s → HasSettled n e s
    sync_settled t s is held =
        let was = held_some (m.held s) held in
        let w = value_of (n.held s) _ (named s was.0 is was.1) in
        synced_settled gives m n old new d e glob over place none s was.0 w.value was.1 w.is t w.has

    pub sync_all : (s : ℕ) → Named s → IsHeld m s → IsAllSettled n s
    sync_all s is held =
        let was = held_some (m.held s) held in
        let w = value_of (n.held s) _ (named s was.0 is was.1) in
        synced_all gives m n old new d e glob over place none s was.0 w.value was.1 w.is w.has

  -- one section was cut, or not held
  module _ (s size : ℕ) (cut : (u : WriteBlob) → m.held s ≡ Some u → IsSomeAnd (n.held s) (λ v. IsCut buffers told size u v (d (key_of m s)) (e (key_of m s)))) where
    pub one_cut : (u v : WriteBlob) → m.held s ≡ Some u → n.held s ≡ Some v → Steps told u v (d (key_of m s)) (e (key_of m s))
    one_cut u v was now = step_cut u v (d (key_of m s)) (e (key_of m s)) size (of_some (n.held s) (λ w. IsCut buffers told size u w (d (key_of m s)) (e (key_of m s))) v now (cut u was))

    pub one_bytes : told → section_bytes n e s ≡ take size (section_bytes m d s)
    one_bytes t = elim (none_or_value (m.held s)) [
      | inl absent ↦ no_bytes n e s (none s absent) ∙ sym (no_bytes m d s absent) ∙ sym (take_none size (section_bytes m d s) (no_bytes m d s absent))
      | inr was ↦
          let w = value_of (n.held s) _ (cut was.0 was.1) in
          cut_bytes gives m n old new d e glob over place none s was.0 w.value was.1 w.is size w.has t
    ]

    pub one_settled : told → IsLonger buffers m s size → HasSettled n e s
    one_settled t longer =
        let was = value_of (m.held s) _ longer in
        let w = value_of (n.held s) _ (cut was.value was.is) in
        cut_settled gives m n old new d e glob over place none s was.value w.value was.is w.is size w.has t longer

    pub one_all : IsLonger buffers m s size → IsAllSettled n s
    one_all longer =
        let was = value_of (m.held s) _ longer in
        let w = value_of (n.held s) _ (cut was.value was.is) in
        cut_all gives m n old new d e glob over place none s was.value w.value was.is w.is size w.has longer

    -- and the others stay
    pub cut_glob : SameBounds m n → ((q : ℕ) → q ≢ s → IsSame m n q) → s < 2 ^ 64 → (told → (q : Key) → q ≢ key_of m s → e q ≡ d q) → n.unopened s ≡ m.unopened s → IsGlob buffers gives told n new e
    cut_glob bounds others small blobs unopened = glob_one gives m old d glob n new e s over bounds others small blobs
        (λ v now. elim (none_or_value (m.held s)) [
          | inl absent ↦ absurd (cc (now, none s absent))
          | inr was ↦ subst (λ (k : Key). Serves told v (e k)) (sym (here s)) (one_cut was.0 v was.1 now (serves_of gives m old d glob s was.0 was.1))
        ])
        (λ t some. omega (arith, bounds.ceiling, glob.unopened t s (subst IsSome unopened some)))

  module _ (size_of : ℕ → Option ℕ)
      (cut : (s size : ℕ) (u : WriteBlob) → size_of s ≡ Some size → m.held s ≡ Some u → IsSomeAnd (n.held s) (λ v. IsCut buffers told size u v (d (key_of m s)) (e (key_of m s))))
      (others : (s : ℕ) → size_of s ≡ None → n.held s ≡ m.held s) (moments : told → Each (Cutting buffers m size_of d) e) where
    uncut_blob : told → (s : ℕ) → IsHeld m s → size_of s ≡ None → e (key_of m s) ≡ d (key_of m s)
    uncut_blob t s held unnamed = (moments t (key_of m s)).others
        (other_key m (λ q. IsSomeAnd (size_of q) (IsLonger buffers m q))
        (λ q p. let k = value_of (size_of q) _ p in let w = value_of (m.held q) _ k.has in known_small q (inl (some_there (m.held q) w.value w.is)))
        s (known_small s (inl held)) (λ p. let k = value_of (size_of s) _ p in absurd (cc (k.is, unnamed))))

    pub cuts_glob : (told → (s : ℕ) → IsSome (n.unopened s) → n.ceiling < s) → IsGlob buffers gives told n new e
    cuts_glob unopened = glob_steps gives m n old new d e glob over place none (λ s u v was now. elim (none_or_value (size_of s)) [
      | inl unnamed ↦ step_same u v (d (key_of m s)) (e (key_of m s)) (some_same v u (sym now ∙ others s unnamed ∙ was)) (λ t. uncut_blob t s (some_there (m.held s) u was) unnamed)
      | inr is ↦ one_cut s is.0 (λ w held. cut s is.0 w is.1 held) u v was now
    ]) unopened

    pub uncut_bytes : told → (s : ℕ) → size_of s ≡ None → section_bytes n e s ≡ section_bytes m d s
    uncut_bytes t s unnamed = stays_bytes s (others s unnamed) (λ held. uncut_blob t s held unnamed)

  module _ (target size : ℕ) (later : (s : ℕ) → target < s → IsGone n s) (earlier : (s : ℕ) → s < target → IsSame m n s)
      (cut : (u : WriteBlob) → m.held target ≡ Some u → IsSomeAnd (n.held target) (λ v. IsCut buffers told size u v (d (key_of m target)) (e (key_of m target))))
      (moments : told → Truncating buffers m target size d e) where
    earlier_blob : told → (s : ℕ) → IsHeld m s → s < target → e (key_of m s) ≡ d (key_of m s)
    earlier_blob t s held before = (moments t).others (key_of m s)
        (other_key m (λ q. IsKnown m q × (target ≤ q)) (λ q p. known_small q p.0) s (known_small s (inl held)) (λ p. absurd (omega (arith, p.1, before))))

    pub earlier_bytes : told → (s : ℕ) → s < target → section_bytes n e s ≡ section_bytes m d s
    earlier_bytes t s before = stays_bytes s (earlier s before).held (λ held. earlier_blob t s held before)

    pub truncate_glob : target ≤ m.ceiling → n.unopened target ≡ m.unopened target → IsGlob buffers gives told n new e
    truncate_glob below unopened = glob_steps gives m n old new d e glob over place none
        (λ s u v was now. elim (cases_lt target s) [
          | inl behind ↦ absurd (cc (now, (later s behind).held))
          | inr up_to ↦ elim (cases_lt s target) [
            | inl before ↦ step_same u v (d (key_of m s)) (e (key_of m s)) (some_same v u (sym now ∙ (earlier s before).held ∙ was)) (λ t. earlier_blob t s (some_there (m.held s) u was) before)
            | inr from ↦
                let is : target ≡ s = omega (arith, up_to, from) in
                subst (λ (k : ℕ). m.held k ≡ Some u → n.held k ≡ Some v → Steps told u v (d (key_of m k)) (e (key_of m k))) is (one_cut target size cut u v) was now
          ]
        ])
        (λ t s some. elim (cases_lt target s) [
          | inl behind ↦ absurd (cc (some, ap is_some (later s behind).unopened))
          | inr up_to ↦ elim (cases_lt s target) [
            | inl before ↦ absurd (omega (arith, before, below, glob.unopened t s (subst IsSome (earlier s before).unopened some)))
            | inr from ↦
                let is : s ≡ target = omega (arith, up_to, from) in
                absurd (omega (arith, below, glob.unopened t target (subst IsSome unopened (subst (λ (k : ℕ). IsSome (n.unopened k)) is some))))
          ]
        ])

  module _ (least : ℕ) (removed : (s : ℕ) → s < least → IsGone n s) (kept : (s : ℕ) → least ≤ s → IsSame m n s)
      (moments : told → Removing m (λ s. IsKnown m s × (s < least)) (λ s q. s < q) d e) where
    kept_blob : told → (s : ℕ) → IsHeld m s → least ≤ s → e (key_of m s) ≡ d (key_of m s)
    kept_blob t s held from = (moments t).others (key_of m s)
        (other_key m (λ q. IsKnown m q × (q < least)) (λ q p. known_small q p.0) s (known_small s (inl held)) (λ p. absurd (omega (arith, p.1, from))))

    pub kept_bytes : told → (s : ℕ) → least ≤ s → section_bytes n e s ≡ section_bytes m d s
    kept_bytes t s from = stays_bytes s (kept s from).held (λ held. kept_blob t s held from)

    -- no blob is left of a section that was removed
    pub pruned_gone : told → (s : ℕ) → s < 2 ^ 64 → s < least → IsTrue (e (key_of m s)).there → ⊥
    pruned_gone t s small below there =
        gone_unknown n s (removed s below) ((over.disk t).whose s small (subst (λ (k : Key). IsTrue (e k).there) (sym (here s)) there))

    pub prune_glob : n.ceiling ≡ m.ceiling → IsGlob buffers gives told n new e
    prune_glob ceiling = glob_steps gives m n old new d e glob over place none
        (λ s u v was now. elim (cases_lt s least) [
          | inl below ↦ absurd (cc (now, (removed s below).held))
          | inr from ↦ step_same u v (d (key_of m s)) (e (key_of m s)) (some_same v u (sym now ∙ (kept s from).held ∙ was)) (λ t. kept_blob t s (some_there (m.held s) u was) from)
        ])
        (λ t s some. elim (cases_lt s least) [
          | inl below ↦ absurd (cc (some, ap is_some (removed s below).unopened))
          | inr from ↦ omega (arith, ceiling, glob.unopened t s (subst IsSome (kept s from).unopened some))
        ])
