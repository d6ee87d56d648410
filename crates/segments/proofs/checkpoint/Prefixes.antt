-- What is told of a section that is sealed no further than a checkpoint.
use Rattle.std.specs.Result.{IsErrOf}
use Rattle.std.proofs.Common.{◌≡◌, ℕ, ◌<◌, ◌≤◌, min, List, length, Some, Err, IsSomeAnd, refl, sym, ◌∙◌, ap, subst, arith}
use Rattle.blob_device.specs.Disk.{Key, Disk}
use Rattle.sealed_pages.specs.Buffer as pages
use Rattle.sealed_pages.specs.Buffer.{size_of}
use Rattle.sealed_pages.specs.SealedPrefix.{sealed_prefix}
use Rattle.sealed_pages.specs.Shown.{shown}
use Rattle.sealed_pages.specs.declared.page_blob.PageBlob.{PageBlob}
use Rattle.section_manager.specs.Sections.{Sections, key_of}
use Rattle.section_manager.specs.declared.journal.Damage.{Damage}
use Rattle.section_manager.specs.declared.journal.Error.TheVariants.{Corruption}
use Rattle.blob_device.proofs.general.Options.{has_value, some_same}

module _ {F S : Type 0} {gs : _} (seal : List ℕ → ℕ) (m : Sections F (PageBlob S gs)) (section size kept : ℕ) (u : PageBlob S gs) (held : m.held section ≡ Some u) (d : Disk)
    (key : pages.key_of (shown u) ≡ key_of m section) (is : kept ≡ min size (length (sealed_prefix seal u.page_size (d (pages.key_of (shown u))).content))) where
  here : length (sealed_prefix seal u.page_size (d (pages.key_of (shown u))).content) ≡ length (sealed_prefix seal u.page_size (d (key_of m section)).content)
  here = ap (λ (k : Key). length (sealed_prefix seal u.page_size (d k).content)) key

  -- less is sealed
  pub prefix_short : {T : Type 0} → kept < size → (x : Damage) → IsErrOf {T = T} (Err (Corruption (record { section = section; kept = kept; wanted = size }))) (Corruption x)
      → IsSomeAnd (m.held section) (λ u. (x.section ≡ section) × (x.kept ≡ length (sealed_prefix seal u.page_size (d (key_of m section)).content)) × (x.wanted ≡ size) × (x.kept < size))
  prefix_short less x bad =
      let own : Damage = record { section = section; kept = kept; wanted = size } in
      let same : own ≡ x = cc bad in
      subst (λ (y : Damage). IsSomeAnd (m.held section) (λ u. (y.section ≡ section) × (y.kept ≡ length (sealed_prefix seal u.page_size (d (key_of m section)).content)) × (y.wanted ≡ size) × (y.kept < size))) same
      (has_value (m.held section) (λ w. (section ≡ section) × (kept ≡ length (sealed_prefix seal w.page_size (d (key_of m section)).content)) × (size ≡ size) × (kept < size)) u held
      (refl, omega (arith, is, less, here), refl, less))

  -- no less is
  pub prefix_long : size ≤ kept → (v : PageBlob S gs) → m.held section ≡ Some v → size ≤ length (sealed_prefix seal v.page_size (d (key_of m section)).content)
  prefix_long more v is_v = subst (λ (w : PageBlob S gs). size ≤ length (sealed_prefix seal w.page_size (d (key_of m section)).content)) (some_same u v (sym held ∙ is_v)) (omega (arith, is, more, here))
