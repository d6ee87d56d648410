-- Which bytes the sections of a journal of frames have after a call, and that it is a journal of frames then.
use Rattle.std.specs.Prelude.{⊤}
use Rattle.std.proofs.Common.{◌≡◌, ◌∙◌, ◌⊎◌, inl, inr, ℕ, ◌<◌, ◌≤◌, ◌^◌, List, true, Option, None, Some, IsSome, IsSomeAnd, refl, sym, subst, arith}
use Rattle.blob_device.specs.Disk.{Blob}
use Rattle.blob_device.specs.Timeline.{Timeline, disk, Always, Each}
use Rattle.blob_device.specs.lemmas.Moments.{always_now, always_weaker}
use Rattle.sealed_pages.specs.Buffer.{bytes_of}
use Rattle.sealed_pages.specs.Shown.{shown}
use Rattle.sealed_pages.specs.declared.page_blob.PageBlob.{PageBlob}
use Rattle.section_manager.specs.Lasting.{IsUnsettled}
use Rattle.section_manager.specs.Sections.{Sections, section_key, key_of, IsHeld, IsKnown, IsSynced, SameBounds}
use Rattle.section_manager.specs.declared.buffer.SectionBuffer as buffer
use Rattle.section_manager.specs.lemmas.Keys.{key_injective}
use Rattle.segments.specs.FixedLasting.{Settling}
use Rattle.segments.specs.FixedLists.{Lists, bytes_held, section_bytes}
use Rattle.variable_journal.specs.lemmas.Section.{held_again}

pub held_or_not : {B : Type 0} (held : ℕ → Option B) (s : ℕ) → IsSome (held s) ⊎ (IsSome (held s) → ⊥)
held_or_not {B = B} held s = go (held s)
  where
    go : (o : Option B) → IsSome o ⊎ (IsSome o → ⊥)
    go None = inr (λ is. cc is)
    go (Some v) = inl refl

module _ {F S : Type 0} {gs : _} (g : buffer.Ghosts (PageBlob S gs))
    (same_bytes : (u : PageBlob S gs) (c : List ℕ) → g.bytes u c ≡ bytes_of (shown u) c)
    (seal : List ℕ → ℕ) (told : Type 0) (j k : Lists F (PageBlob S gs)) (IsNamed : ℕ → Type 0)
    (named_or_not : (s : ℕ) → IsNamed s ⊎ (IsNamed s → ⊥)) (a b : Timeline) where
  -- a sync leaves the bytes of each section
  pub synced_bytes : told → ((s : ℕ) → IsHeld j.sections s → s < 2 ^ 64)
      → ((s : ℕ) (u : PageBlob S gs) → IsNamed s → j.sections.held s ≡ Some u
      → IsSomeAnd (k.sections.held s) (λ v. IsSynced g told u v (disk a (key_of j.sections s)) (disk b (key_of j.sections s))))
      → ((s : ℕ) → j.sections.held s ≡ None → k.sections.held s ≡ None)
      → ((s : ℕ) → (IsNamed s → ⊥) → k.sections.held s ≡ j.sections.held s)
      → SameBounds j.sections k.sections
      → Always a b (Each (Settling seal j IsNamed (disk a)))
      → (s : ℕ) → section_bytes k.sections (disk b) s ≡ section_bytes j.sections (disk a) s
  synced_bytes t number named none others bounds moments s = go (j.sections.held s) refl
    where
      settled : (u : PageBlob S gs) (o : Option (PageBlob S gs)) (x y : Blob) → IsSomeAnd o (λ v. IsSynced g told u v x y)
          → bytes_held o y.content ≡ bytes_of (shown u) x.content
      settled u None x y has = absurd has
      settled u (Some v) x y has = sym (same_bytes v y.content) ∙ has.bytes t ∙ same_bytes u x.content

      untouched : (u : PageBlob S gs) → j.sections.held s ≡ Some u → (IsNamed s → ⊥)
          → disk b (key_of j.sections s) ≡ disk a (key_of j.sections s)
      untouched u was not = (always_now a b (Each (Settling seal j IsNamed (disk a))) moments (key_of j.sections s)).others
          (λ x. not (subst IsNamed (key_injective j.sections.partition x.0 s (number x.0 x.1.1)
          (number s (subst (λ o. IsSome o) (sym was) refl)) (sym x.2)) x.1.0))

      go : (o : Option (PageBlob S gs)) → j.sections.held s ≡ o
          → section_bytes k.sections (disk b) s ≡ section_bytes j.sections (disk a) s
      go None was = held_again j k (disk a) (disk b) s bounds.place.partition (none s was ∙ sym was) (λ u is. absurd (cc (is, was)))
      go (Some u) was = elim (named_or_not s) [
        | inl is ↦ (λ i. bytes_held (k.sections.held s) (disk b (section_key (bounds.place.partition i) s)).content)
            ∙ settled u (k.sections.held s) (disk a (key_of j.sections s)) (disk b (key_of j.sections s)) (named s u is was)
            ∙ sym (λ i. bytes_held (was i) (disk a (key_of j.sections s)).content)
        | inr not ↦ held_again j k (disk a) (disk b) s bounds.place.partition (others s not) (λ v is. untouched v is not)
      ]

-- ---- a sync of all sections names those that are held

module _ {F S : Type 0} {gs : _} (j : Lists F (PageBlob S gs)) where
  pub not_held : (s : ℕ) → (IsHeld j.sections s → ⊥) → j.sections.held s ≡ None
  not_held s not = go (j.sections.held s) not
    where
      go : (o : Option (PageBlob S gs)) → (IsSome o → ⊥) → o ≡ None
      go None never = refl
      go (Some u) never = absurd (never refl)

pub unsettled_held : {F S : Type 0} {gs : _} (g : buffer.Ghosts (PageBlob S gs)) (j : Lists F (PageBlob S gs)) (s : ℕ) → IsUnsettled g j.sections s → IsHeld j.sections s
unsettled_held {S = S} {gs = gs} g j s un = go (j.sections.held s) un
  where
    go : (o : Option (PageBlob S gs)) → IsSomeAnd o (λ u. g.unsettled u ≡ true) → IsSome o
    go None is = absurd is
    go (Some u) is = refl

-- no held section is below the floor
pub no_low : {F B : Type 0} (m : Sections F B) → ((s : ℕ) → IsKnown m s → m.floor ≤ s) → (s : ℕ) → IsHeld m s → s < m.floor → ⊥
no_low m from s held low = let le = from s (inl held) in omega (arith, le, low)

pub settling_held : {F S : Type 0} {gs : _} (seal : List ℕ → ℕ) (j : Lists F (PageBlob S gs)) (a b : Timeline)
    → Always a b (Each (Settling seal j (λ s. ⊤) (disk a))) → Always a b (Each (Settling seal j (IsHeld j.sections) (disk a)))
settling_held seal j a b moments = always_weaker a b (Each (Settling seal j (λ s. ⊤) (disk a))) (Each (Settling seal j (IsHeld j.sections) (disk a)))
    (λ d all q. record {
      named = λ s u is. (all q).named s u tt;
      prefix = λ s u is. (all q).prefix s u tt;
      others = λ never. (all q).others (λ x. never (x.0, (x.1.1, x.1.1, x.1.2), x.2));
    }) moments
