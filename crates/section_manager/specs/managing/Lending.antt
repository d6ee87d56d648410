-- What is written through a buffer that is lent.
use Rattle.std.specs.Prelude.{◌≡◌, ◌≢◌, ◌<◌, ℕ, Option, Some, None, OnSome, Result}
use Rattle.std.specs.Borrow.{LendsSo, LendsSoOk, MutBor, Fml, RattleType}
use Rattle.std.specs.Ordering.{nat_cmp}
use Rattle.std.specs.BTreeMap.{get}
use Rattle.section_manager.specs.declared.held.Held.{Held}
use Rattle.section_manager.specs.contracts.held.Held as held
use Rattle.section_manager.specs.declared.manager.Manager.{Manager}
use Rattle.section_manager.specs.contracts.manager.Manager as manager
use Rattle.section_manager.specs.declared.journal.Error.{Error}
use Rattle.section_manager.specs.Sections.{Sections, IsSection, IsSame, SameBounds}
use Rattle.section_manager.specs.managing.Managed.{shown}

-- the buffer w is put into the section, which is no longer unopened; no other section changes
pub record IsPut {F B : Type 0} (section : ℕ) (w : B) (m n : Sections F B) : Type 0 where
  pub here : n.held section ≡ Some w
  pub opened : n.unopened section ≡ None
  pub others : (q : ℕ) → q ≢ section → IsSame m n q
  pub bounds : SameBounds m n

-- The section is held as before, and so are the others; a blob of it that was not known is a leftover at most, and none below the floor.
pub record IsRefused {F B : Type 0} (section : ℕ) (m n : Sections F B) : Type 0 where
  pub held : n.held section ≡ m.held section
  pub still_section : IsSection n section → IsSection m section
  pub guarded : section < m.floor → IsSame m n section
  pub others : (q : ℕ) → q ≢ section → IsSame m n q
  pub bounds : SameBounds m n

module _ (B : RattleType) where
  -- the section ends with the last value behind r; the others stay
  abbrev pub lends_held : MutBor (Held B.Denot) → ℕ → Option (MutBor B.Denot) → Fml
  lends_held s section r = LendsSo (held.the_row B) B s r
      (λ n w. OnSome r ((get nat_cmp n.buffers section ≡ Some w) × ((q : ℕ) → q ≢ section → get nat_cmp n.buffers q ≡ get nat_cmp s.now.buffers q)))
      (λ n. n.buffers.entries ≡ s.now.buffers.entries)

module _ (F B : RattleType) where
  -- the section ends with the last value behind r; where it was refused, the manager is as `Rest` says
  abbrev pub lends_made : MutBor (Manager F.Denot B.Denot) → ℕ → Result (MutBor B.Denot) Error → (Sections F.Denot B.Denot → Type 0) → Fml
  lends_made s section r Rest = LendsSoOk (manager.the_row F B) B s r (λ n w. IsPut section w (shown s.now) (shown n)) (λ n. Rest (shown n))
