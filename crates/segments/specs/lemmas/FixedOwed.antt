-- What a replay of a fixed journal keeps of the sections that owe one: their whole items, and as many bytes as their floors ask.
use Rattle.std.specs.Prelude.{◌≡◌, ◌⊎◌, ℕ, ◌+◌, ◌*◌, ◌/◌, ◌≤◌, List, length, take}
use Rattle.std.proofs.Common.{inl, inr, refl, sym, ◌∙◌, ap, subst, arith, length-take}
use Rattle.std.proofs.lemmas.List.{take-take}
use Rattle.std.proofs.lemmas.Nat.{div-mul-add}
use Rattle.blob_device.specs.Disk.{Blob}
use Rattle.sealed_pages.specs.declared.page_blob.PageBlob.{PageBlob}
use Rattle.sealed_pages.specs.Shown.{shown}
use Rattle.sealed_pages.specs.Buffer.{size_of}
use Rattle.sealed_pages.specs.Cutting.{StandsSettled}
use Rattle.sealed_pages.specs.SealedPrefix.{sealed_prefix}
use Rattle.segments.specs.FixedReplay.{SameItems, IsSameOrCut}

module _ (seal : List ℕ → ℕ) (P size : ℕ) where
  -- the same blob has the same items
  pub same_items : (b c : Blob) → c ≡ b → SameItems seal P size b c
  same_items b c same = subst (λ (x : Blob). SameItems seal P size b x) (sym same) (record { there = refl; count = refl; items = refl; rests = inl refl })

  pub items_then : (b c d : Blob) → SameItems seal P size b c → SameItems seal P size c d → SameItems seal P size b d
  items_then b c d first second = record {
    there = second.there ∙ first.there;
    count = second.count ∙ first.count;
    items = subst (λ (n : ℕ). take (n * size) (sealed_prefix seal P d.content) ≡ take (n * size) (sealed_prefix seal P c.content)) first.count second.items ∙ first.items;
    rests = elim second.rests [
      | inr rest ↦ inr rest
      | inl same ↦ elim first.rests [ inl also ↦ inl (same ∙ also) | inr rest ↦ inr (subst StandsSettled (sym same) rest) ]
    ];
  }

  -- a cut of the sealed prefix behind its last whole item, the n-th
  pub items_cut : (b c : Blob) (n : ℕ) → 1 ≤ size → length (sealed_prefix seal P b.content) / size ≡ n → n * size ≤ length (sealed_prefix seal P b.content) → sealed_prefix seal P c.content ≡ take (n * size) (sealed_prefix seal P b.content)
      → c.there ≡ b.there → (c ≡ b) ⊎ StandsSettled c → SameItems seal P size b c
  items_cut b c n pos count long cut there rests = record {
    there = there;
    count = ap (λ (m : ℕ). m / size) length_cut ∙ div-mul-add n size 0 (omega (arith, pos)) ∙ sym count;
    items = ap (take (length (sealed_prefix seal P b.content) / size * size)) cut
        ∙ take-take (length (sealed_prefix seal P b.content) / size * size) (n * size) (sealed_prefix seal P b.content) (omega (arith, ap (λ (m : ℕ). m * size) count));
    rests = rests;
  }
    where
      length_cut : length (sealed_prefix seal P c.content) ≡ n * size + 0
      length_cut = ap length cut ∙ omega (arith, length-take (n * size) (sealed_prefix seal P b.content), long)

module _ {S : Type 0} {gs : _} (floor : ℕ) where
  pub same_or_cut : (u v : PageBlob S gs) → v ≡ u → IsSameOrCut floor u v
  same_or_cut u v same = record { page_size = ap (λ (x : PageBlob S gs). x.page_size) same; shorter = omega (arith, ap (λ (x : PageBlob S gs). size_of (shown x)) same); reached = inl (ap (λ (x : PageBlob S gs). size_of (shown x)) same) }

  pub cut_then : (u v w : PageBlob S gs) → IsSameOrCut floor u v → IsSameOrCut floor v w → IsSameOrCut floor u w
  cut_then u v w first second = record {
    page_size = second.page_size ∙ first.page_size;
    shorter = omega (arith, first.shorter, second.shorter);
    reached = elim second.reached [
      | inr cut ↦ inr cut
      | inl same ↦ elim first.reached [ inl also ↦ inl (same ∙ also) | inr cut ↦ inr (omega (arith, cut, same)) ]
    ];
  }
