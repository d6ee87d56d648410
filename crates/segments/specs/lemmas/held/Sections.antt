-- One held section of a fixed journal, and the journal after calls that only read.
use Rattle.std.proofs.Common.{◌≡◌, inl, inr, ℕ, List, Option, Some, IsSomeAnd, refl, sym, ◌∙◌, ap, subst}
use Rattle.blob_device.specs.Disk.{Key, Blob, Disk}
use Rattle.blob_device.specs.Opened.{Opened, OpenedList}
use Rattle.blob_device.specs.lemmas.Puts.{same_or_other}
use Rattle.sealed_pages.specs.declared.page_blob.PageBlob.{PageBlob}
use Rattle.sealed_pages.specs.Buffer.{size_of, bytes_of, IsBacked}
use Rattle.sealed_pages.specs.Buffer as pages
use Rattle.sealed_pages.specs.Entries.{IsOpenAt}
use Rattle.sealed_pages.specs.Reading.{OnlyRead}
use Rattle.sealed_pages.specs.Shown.{shown}
use Rattle.sealed_pages.specs.lemmas.Unrecovered.{adopted_backed}
use Rattle.section_manager.specs.declared.buffer.SectionBuffer as buffer
use Rattle.section_manager.specs.Sealed.{Stands}
use Rattle.section_manager.specs.Setting.{Setting}
use Rattle.section_manager.specs.Sections.{Sections, key_of, IsHeld, HasOpened}
use Rattle.segments.specs.FixedLists.{Lists, section_bytes, section_size, IsJournal}

module _ {F S : Type 0} {gs : _} (m : Sections F (PageBlob S gs)) (s : ℕ) (u : PageBlob S gs) (held : m.held s ≡ Some u) where
  pub size_here : section_size m s ≡ size_of (shown u)
  size_here = rw held refl

  pub bytes_here : (d : Disk) → section_bytes m d s ≡ bytes_of (shown u) (d (key_of m s)).content
  bytes_here d = rw held refl

  pub some_here : (P : PageBlob S gs → Type 0) → P u → IsSomeAnd (m.held s) P
  some_here P has = subst (λ (o : Option (PageBlob S gs)). IsSomeAnd o P) (sym held) has

  pub from_here : (P : PageBlob S gs → Type 0) → IsSomeAnd (m.held s) P → P u
  from_here P has = subst (λ (o : Option (PageBlob S gs)). IsSomeAnd o P) held has

  pub is_held : IsHeld m s
  is_held = rw held refl

  module _ (key : pages.key_of (shown u) ≡ key_of m s) where
    pub bytes_own : (d : Disk) → section_bytes m d s ≡ bytes_of (shown u) (d (pages.key_of (shown u))).content
    bytes_own d = bytes_here d ∙ ap (λ (q : Key). bytes_of (shown u) (d q).content) (sym key)

    -- what holds of the buffer and its blob
    pub own_here : (P : PageBlob S gs → Blob → Type 0) (d : Disk) → P u (d (pages.key_of (shown u))) → IsSomeAnd (m.held s) (λ v. P v (d (key_of m s)))
    own_here P d has = some_here (λ v. P v (d (key_of m s))) (subst (λ (q : Key). P u (d q)) key has)

    -- what it has in memory is as in its blob
    pub holds_own : (seal : List ℕ → ℕ) (d : Disk) → Stands seal (shown u) (d (key_of m s)) → IsBacked seal (shown u) (d (pages.key_of (shown u))).content
    holds_own seal d stands = subst (λ (q : Key). IsBacked seal (shown u) (d q).content) (sym key) (adopted_backed seal (shown u) (d (key_of m s)) stands.adopted)

module _ {F S : Type 0} {gs : _} (g : buffer.Ghosts (PageBlob S gs)) (gives : F → Setting) where
  -- reads leave each blob opened, as long as it was
  pub opened_read : (m : Sections F (PageBlob S gs)) (k : Key) (a b : OpenedList) → OnlyRead k a b → HasOpened g gives m a → HasOpened g gives m b
  opened_read m k a b only has = record {
    key = has.key;
    setting = has.setting;
    is_open = λ s u held. elim (same_or_other (key_of m s) k) [
      | inl is ↦ subst (λ (q : Key). IsOpenAt b q (g.extent u)) (sym is) (only.length (g.extent u) (subst (λ (q : Key). IsOpenAt a q (g.extent u)) is (has.is_open s u held)))
      | inr other ↦ subst (λ (o : Option Opened). IsSomeAnd o (λ e. e.len ≡ g.extent u)) (sym (only.others (key_of m s) other)) (has.is_open s u held)
    ];
    to_ceiling = has.to_ceiling;
    apart = has.apart;
    from_floor = has.from_floor;
    number = has.number;
  }

  pub journal_read : (seal : List ℕ → ℕ) (size : ℕ) (told : Type 0) (j : Lists F (PageBlob S gs)) (k : Key) (a b : OpenedList) (d e : Disk) → OnlyRead k a b → (told → e ≡ d)
      → IsJournal g gives seal size told j a d → IsJournal g gives seal size told j b e
  journal_read seal size told j k a b d e only same is = record {
    over = record {
      opened_list = opened_read j.sections k a b only is.over.opened_list;
      disk = λ t. rw (same t) (is.over.disk t);
    };
    owes_held = is.owes_held;
    owes_settled = is.owes_settled;
    disk = λ t. rw (same t) (is.disk t);
    unopened = is.unopened;
  }
