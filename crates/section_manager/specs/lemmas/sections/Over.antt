-- What a manager is over after one of its sections changed.
use Rattle.std.specs.Prelude.{◌≡◌, ◌≢◌, ℕ, ◌^◌, ◌<◌, ◌≤◌, IsTrue, IsSomeAnd, Option, None, Some, IsSome}
use Rattle.std.proofs.Common.{inl, inr, refl, sym, ◌∙◌, ap, subst, arith}
use Rattle.std.proofs.lemmas.Bool.{cases_eq}
use Rattle.blob_device.specs.Disk.{Key, Blob, Disk}
use Rattle.blob_device.specs.Opened.{Opened, OpenedList}
use Rattle.sealed_pages.specs.Entries.{IsOpenAt}
use Rattle.section_manager.specs.declared.buffer.SectionBuffer as buffer
use Rattle.section_manager.specs.Entries.{OnlyOwnEntry}
use Rattle.section_manager.specs.managing.Lending.{IsPut}
use Rattle.section_manager.specs.Setting.{Setting}
use Rattle.section_manager.specs.Sections.{Sections, section_key, key_of, IsHeld, IsKnown, IsSame, SameBounds, HasOpened, StandsOver, IsOver}
use Rattle.section_manager.specs.lemmas.Keys.{keys_differ}

module _ {F B : Type 0} where
  -- where the sections stay in their partition, their blobs are the same
  pub same_key : (m n : Sections F B) → SameBounds m n → (s : ℕ) → key_of n s ≡ key_of m s
  same_key m n bounds s = ap (λ p. section_key p s) bounds.place.partition

  pub same_known : (m n : Sections F B) (s : ℕ) → IsSame m n s → IsKnown n s → IsKnown m s
  same_known m n s same known = elim known [
    | inl held ↦ inl (subst IsSome same.held held)
    | inr unopened ↦ inr (subst IsSome same.unopened unopened)
  ]

  pub known_same : (m n : Sections F B) (s : ℕ) → IsSame m n s → IsKnown m s → IsKnown n s
  known_same m n s same known = elim known [
    | inl held ↦ inl (subst IsSome (sym same.held) held)
    | inr unopened ↦ inr (subst IsSome (sym same.unopened) unopened)
  ]

module _ {F B : Type 0} (g : buffer.Ghosts B) (gives : F → Setting) where
  -- what the list of opened blobs and the manager's bounds have of one section
  pub record HasOpenedAt (m : Sections F B) (opened : OpenedList) (s : ℕ) : Type 0 where
    pub key : (u : B) → m.held s ≡ Some u → g.key u ≡ key_of m s
    pub setting : (u : B) → m.held s ≡ Some u → g.setting u ≡ gives m.factory
    pub is_open : (u : B) → m.held s ≡ Some u → IsOpenAt opened (key_of m s) (g.extent u)
    pub to_ceiling : IsHeld m s → s ≤ m.ceiling
    pub apart : IsHeld m s → m.unopened s ≡ None
    pub from_floor : IsKnown m s → m.floor ≤ s

  -- what the disk has of it
  pub record StandsAt (m : Sections F B) (d : Disk) (s : ℕ) : Type 0 where
    pub stands : (u : B) → m.held s ≡ Some u → g.Stands u (d (key_of m s))
    pub whose : IsTrue (d (key_of m s)).there → IsKnown m s

  -- the section s alone changed: of it, all is known again
  pub record Changes (told : Type 0) (m n : Sections F B) (old new : OpenedList) (d e : Disk) (s : ℕ) : Type 0 where
    pub number : s < 2 ^ 64
    pub bounds : SameBounds m n
    pub others : (q : ℕ) → q ≢ s → IsSame m n q
    pub entries : OnlyOwnEntry (key_of m s) old new
    pub blobs : told → (q : Key) → q ≢ key_of m s → e q ≡ d q
    pub opened : HasOpenedAt n new s
    pub disk : told → StandsAt n e s

  module _ {told : Type 0} (m n : Sections F B) (old new : OpenedList) (d e : Disk) (s : ℕ) (over : IsOver g gives told m old d) (change : Changes told m n old new d e s) where
    -- another section's entry is as before
    other_entry : (q : ℕ) → IsKnown m q → q ≢ s → new (key_of n q) ≡ old (key_of m q)
    other_entry q known other =
        ap new (same_key m n change.bounds q) ∙ change.entries (key_of m q) (keys_differ m.partition q s (over.opened_list.number q known) change.number other)

    other_blob : told → (q : ℕ) → q < 2 ^ 64 → q ≢ s → e (key_of n q) ≡ d (key_of m q)
    other_blob tells q small other =
        ap e (same_key m n change.bounds q) ∙ change.blobs tells (key_of m q) (keys_differ m.partition q s small change.number other)

    was : (q : ℕ) (u : B) → q ≢ s → n.held q ≡ Some u → m.held q ≡ Some u
    was q u other held = sym (change.others q other).held ∙ held

    known_as : (q : ℕ) (u : B) → m.held q ≡ Some u → IsKnown m q
    known_as q u held = inl (subst IsSome (sym held) refl)

    opened_changed : HasOpened g gives n new
    opened_changed = record {
      key = λ q u held. elim (cases_eq q s) [
        | inl is ↦ subst (λ (k : ℕ). n.held k ≡ Some u → g.key u ≡ key_of n k) (sym is) (change.opened.key u) held
        | inr other ↦ over.opened_list.key q u (was q u other held) ∙ sym (same_key m n change.bounds q)
      ];
      setting = λ q u held. elim (cases_eq q s) [
        | inl is ↦ subst (λ (k : ℕ). n.held k ≡ Some u → g.setting u ≡ gives n.factory) (sym is) (change.opened.setting u) held
        | inr other ↦ over.opened_list.setting q u (was q u other held) ∙ ap gives (sym change.bounds.place.factory)
      ];
      is_open = λ q u held. elim (cases_eq q s) [
        | inl is ↦ subst (λ (k : ℕ). n.held k ≡ Some u → IsOpenAt new (key_of n k) (g.extent u)) (sym is) (change.opened.is_open u) held
        | inr other ↦
            let before = was q u other held in
            subst (λ (o : Option Opened). IsSomeAnd o (λ p. p.len ≡ g.extent u)) (sym (other_entry q (known_as q u before) other)) (over.opened_list.is_open q u before)
      ];
      to_ceiling = λ q held. elim (cases_eq q s) [
        | inl is ↦ subst (λ (k : ℕ). IsHeld n k → k ≤ n.ceiling) (sym is) change.opened.to_ceiling held
        | inr other ↦ omega (arith, change.bounds.ceiling, over.opened_list.to_ceiling q (subst IsSome (change.others q other).held held))
      ];
      apart = λ q held. elim (cases_eq q s) [
        | inl is ↦ subst (λ (k : ℕ). IsHeld n k → n.unopened k ≡ None) (sym is) change.opened.apart held
        | inr other ↦ (change.others q other).unopened ∙ over.opened_list.apart q (subst IsSome (change.others q other).held held)
      ];
      from_floor = λ q known. elim (cases_eq q s) [
        | inl is ↦ subst (λ (k : ℕ). IsKnown n k → n.floor ≤ k) (sym is) change.opened.from_floor known
        | inr other ↦ omega (arith, change.bounds.floor, over.opened_list.from_floor q (same_known m n q (change.others q other) known))
      ];
      number = λ q known. elim (cases_eq q s) [
        | inl is ↦ subst (λ (k : ℕ). k < 2 ^ 64) (sym is) change.number
        | inr other ↦ over.opened_list.number q (same_known m n q (change.others q other) known)
      ];
    }

    stands_changed : told → StandsOver g n e
    stands_changed tells = record {
      stands = λ q u held. elim (cases_eq q s) [
        | inl is ↦ subst (λ (k : ℕ). n.held k ≡ Some u → g.Stands u (e (key_of n k))) (sym is) ((change.disk tells).stands u) held
        | inr other ↦
            let before = was q u other held in
            subst (g.Stands u) (sym (other_blob tells q (over.opened_list.number q (known_as q u before)) other)) ((over.disk tells).stands q u before)
      ];
      whose = λ q small there. elim (cases_eq q s) [
        | inl is ↦ subst (λ (k : ℕ). IsTrue (e (key_of n k)).there → IsKnown n k) (sym is) (change.disk tells).whose there
        | inr other ↦ known_same m n q (change.others q other) ((over.disk tells).whose q small (subst (λ (b : Blob). IsTrue b.there) (other_blob tells q small other) there))
      ];
    }

    -- the manager's sections are those of the partition again
    pub over_changed : IsOver g gives told n new e
    over_changed = record { opened_list = opened_changed; disk = stands_changed }

module _ {F B : Type 0} (g : buffer.Ghosts B) (gives : F → Setting) {told : Type 0} (m n : Sections F B) (old new : OpenedList) (d e : Disk) (s : ℕ) (v : B)
    (over : IsOver g gives told m old d) (put : IsPut s v m n) where
  -- A buffer that was taken out of a section, and on whose blob alone there were calls since, is put back.
  pub over_put : IsKnown m s → s ≤ m.ceiling → g.key v ≡ key_of m s → g.setting v ≡ gives m.factory → IsOpenAt new (key_of m s) (g.extent v)
      → OnlyOwnEntry (key_of m s) old new → (told → (q : Key) → q ≢ key_of m s → e q ≡ d q) → (told → g.Stands v (e (key_of m s))) → IsOver g gives told n new e
  over_put known to_ceiling key setting is_open entries blobs stands = over_changed g gives m n old new d e s over (record {
    number = over.opened_list.number s known;
    bounds = put.bounds;
    others = put.others;
    entries = entries;
    blobs = blobs;
    opened = record {
      key = λ u held. subst (λ (w : B). g.key w ≡ key_of n s) (is_v u held) (key ∙ sym here);
      setting = λ u held. subst (λ (w : B). g.setting w ≡ gives n.factory) (is_v u held) (setting ∙ ap gives (sym put.bounds.place.factory));
      is_open = λ u held. subst (λ (w : B). IsOpenAt new (key_of n s) (g.extent w)) (is_v u held) (subst (λ (k : Key). IsOpenAt new k (g.extent v)) (sym here) is_open);
      to_ceiling = λ held. omega (arith, put.bounds.ceiling, to_ceiling);
      apart = λ held. put.opened;
      from_floor = λ is. omega (arith, put.bounds.floor, over.opened_list.from_floor s known);
    };
    disk = λ tells. record {
      stands = λ u held. subst (λ (w : B). g.Stands w (e (key_of n s))) (is_v u held) (subst (λ (k : Key). g.Stands v (e k)) (sym here) (stands tells));
      whose = λ there. inl (subst IsSome (sym put.here) refl);
    };
  })
    where
      here : key_of n s ≡ key_of m s
      here = same_key m n put.bounds s

      is_v : (u : B) → n.held s ≡ Some u → v ≡ u
      is_v u held = cc (put.here, held)
