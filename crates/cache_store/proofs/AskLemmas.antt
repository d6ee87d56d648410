-- What a cache answers of its indices is what the machine answers.
use Rattle.std.specs.Prelude.{◌≡◌, ℕ, ◌≤◌, ◌||◌, if◌then◌else◌, Bool, false, List, Option, is_some, Result, Ok, Err}
use Rattle.std.proofs.Common.{refl, sym, ap, ◌∙◌, subst}
use Rattle.std.proofs.lemmas.Bool.{le-ltb}
use Rattle.blob_device.specs.Disk.{Disk}
use Rattle.ordinal_store.specs.Indices.{GivesMissing, IsGap}
use Rattle.ordinal_store.specs.Numbers.{Set, AreMissing, IsLeast, IsNextRun, IsRunEnd}
use Rattle.sealed_pages.specs.declared.page_blob.PageBlob.{PageBlob}
use Rattle.section_manager.specs.declared.journal.Error.{Error}
use Rattle.section_manager.specs.declared.journal.Error.TheVariants.{Mem}
use Rattle.variable_journal.specs.Frames.{items_of}
use Rattle.cache_store.specs.Caches.{Cache, IsTold, bytes_in, holds, state_of}
use Rattle.cache_store.specs.Changes.{Says, SaysItems}
use Rattle.cache_store.specs.Machine.{Ends, First, Flag, Gap, Has, Index, Items, Missing, after_put, appended, has_index, section_of}
use Rattle.cache_store.proofs.OffsetLemmas.{offset_some}

module _ {F S : Type 0} {gs : _} (c : Cache F (PageBlob S gs)) where
  -- the state has the indices that are held
  pub held_is : (d : Disk) → IsTold c d → (i : ℕ) → holds c i ≡ has_index c.layout.items (state_of c d) i
  held_is d told i = ap is_some (told.listed i) ∙ offset_some i 0 (items_of (bytes_in c d (section_of c.layout.items i)))

  -- a put is not skipped where the index is not held, from the floor on
  pub not_skipped : (index : ℕ) (value : List ℕ) → c.floor ≤ index → holds c index ≡ false → (d : Disk) → IsTold c d
      → after_put c.layout.items index value (state_of c d) ≡ appended c.layout.items index value (state_of c d)
  not_skipped index value high new d told =
      ap (λ (b : Bool). if b || has_index c.layout.items (state_of c d) index then state_of c d else appended c.layout.items index value (state_of c d)) (le-ltb index c.floor high)
      ∙ ap (λ (b : Bool). if b then state_of c d else appended c.layout.items index value (state_of c d)) (sym (held_is d told index) ∙ new)

  indices_are : (d : Disk) → IsTold c d → c.indices ≡ has_index c.layout.items (state_of c d)
  indices_are d told j i = (told.indices i ∙ held_is d told i) j

  pub says_has : (i : ℕ) (b : Bool) → b ≡ holds c i → Says c (λ x. b ≡ holds x i) (Has i) (Flag b)
  says_has i b is = record { memory = is; step = λ d told. (is ∙ held_is d told i, refl) }

  pub says_gap : (i : ℕ) (r : Option ℕ × Option ℕ) → IsGap c.indices i r → Says c (λ x. IsGap x.indices i r) (Gap i) (Ends r.0 r.1)
  says_gap i r gap = record {
    memory = gap;
    step = λ d told. (
      subst (λ (set : Set). IsRunEnd set i r.0) (indices_are d told) gap.end,
      subst (λ (set : Set). IsNextRun set i r.1) (indices_are d told) gap.next,
      refl,
    );
  }

  pub says_missing : (start most : ℕ) (xs : List ℕ) → AreMissing c.indices start most xs
      → Says c (λ x. AreMissing x.indices start most xs) (Missing start most) (Items xs)
  says_missing start most xs are = record { memory = are; step = λ d told. (subst (λ (set : Set). AreMissing set start most xs) (indices_are d told) are, refl) }

  pub says_first : (i : Option ℕ) → IsLeast c.indices i → Says c (λ x. IsLeast x.indices i) First (Index i)
  says_first i least = record { memory = least; step = λ d told. (subst (λ (set : Set). IsLeast set i) (indices_are d told) least, refl) }

  pub says_items : (start most : ℕ) (r : Result (List ℕ) Error) → GivesMissing Mem c.indices start most r → SaysItems c start most r
  says_items start most (Ok xs) are = says_missing start most xs are
  says_items start most (Err e) is = is
