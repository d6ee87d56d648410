-- Which indices a cache holds in memory once a put has ended.
use Rattle.std.specs.Prelude.{◌≡◌, ℕ, ◌<◌, ◌≤◌, ◌==◌, ◌||◌, ◌&&◌, nat_le, max, if◌then◌else◌, Bool, true, false, Option, None, Some, is_some}
use Rattle.std.proofs.Common.{⊎_elim, refl, sym, ap, ◌∙◌, subst, arith}
use Rattle.std.proofs.lemmas.Bool.{cases_lt, eqb-true, le-leb, lt-leb}
use Rattle.ordinal_store.specs.Numbers.{Set}
use Rattle.sealed_pages.specs.declared.page_blob.PageBlob.{PageBlob}
use Rattle.cache_store.specs.Caches.{Cache, holds}
use Rattle.cache_store.specs.Changes.{Recalls, held_from, with_index}
use Rattle.cache_store.specs.Holding.{forgotten, noted}

-- nothing is added to what is there
stays : (held here high : Bool) → (here ≡ true → high ≡ true → held ≡ true) → held ≡ (held || (here && high))
stays true here high there = refl
stays false true true there = there refl refl
stays false true false there = refl
stays false false high there = refl

-- an index is added
added : (was : Option ℕ) (offset : ℕ) (here high : Bool) → high ≡ true → is_some (if here then Some offset else was) ≡ (is_some was || (here && high))
added (Some x) offset true high is = refl
added (Some x) offset false high is = refl
added None offset true high is = sym is
added None offset false high is = refl

module _ {F S : Type 0} {gs : _} (c : Cache F (PageBlob S gs)) where
  -- it is the cache as it was
  pub recalls_same : (indices : Set) → ((i : ℕ) → holds c i ≡ indices i) → (r : Cache F (PageBlob S gs)) → c ≡ r → Recalls r c.floor indices
  recalls_same indices are r same = subst (λ (x : Cache F (PageBlob S gs)). Recalls x c.floor indices) same (record { floor = refl; held = are })

  -- an index below the floor is not added
  pub recalls_low : (index : ℕ) → index < c.floor → (i : ℕ) → holds c i ≡ with_index c index i
  recalls_low index low i = stays (holds c i) (i == index) (nat_le c.floor index) (λ here high. absurd (cc (high, lt-leb c.floor index low)))

  -- nor one that is held
  pub recalls_held : (index : ℕ) → holds c index ≡ true → (i : ℕ) → holds c i ≡ with_index c index i
  recalls_held index has i = stays (holds c i) (i == index) (nat_le c.floor index) (λ here high. ap (holds c) (eqb-true i index here) ∙ has)

  -- another one is
  pub recalls_new : (index offset : ℕ) → c.floor ≤ index → (offsets : ℕ → Option ℕ) → ((i : ℕ) → offsets i ≡ noted index offset c.offsets i)
      → (i : ℕ) → is_some (offsets i) ≡ with_index c index i
  recalls_new index offset high offsets are i = ap is_some (are i) ∙ added (c.offsets i) offset (i == index) (nat_le c.floor index) (le-leb c.floor index high)

-- as a cache was that had these in memory
pub recalls_after : {F S : Type 0} {gs : _} (c r : Cache F (PageBlob S gs)) (indices : Set) → Recalls r c.floor indices → (x : Cache F (PageBlob S gs)) → Recalls x r.floor (holds r)
    → Recalls x c.floor indices
recalls_after c r indices before x after = record { floor = after.floor ∙ before.floor; held = λ i. after.held i ∙ before.held i }

-- what is not forgotten is held
pub forgotten_held : (bound : ℕ) (offsets : ℕ → Option ℕ) (i : ℕ) → is_some (forgotten bound offsets i) ≡ (is_some (offsets i) && nat_le bound i)
forgotten_held bound offsets i = go (nat_le bound i) (offsets i)
  where
    go : (b : Bool) (o : Option ℕ) → is_some (if b then o else None) ≡ (is_some o && b)
    go true None = refl
    go true (Some x) = refl
    go false None = refl
    go false (Some x) = refl

-- where a prune does nothing
pub recalls_pruned : {F S : Type 0} {gs : _} (c : Cache F (PageBlob S gs)) (bound : ℕ) → bound ≤ c.floor → ((i : ℕ) → i < c.floor → holds c i ≡ false)
    → (r : Cache F (PageBlob S gs)) → c ≡ r → Recalls r (max c.floor bound) (held_from c bound)
recalls_pruned c bound low none r same = subst (λ (x : Cache _ _). Recalls x (max c.floor bound) (held_from c bound)) same (record {
  floor = omega (arith, low);
  held = λ i. ⊎_elim
      (λ (under : i < bound). none i (omega (arith, under, low)) ∙ sym (ap (λ (b : Bool). b && nat_le bound i) (none i (omega (arith, under, low)))))
      (λ high. sym (ap (λ (b : Bool). holds c i && b) (le-leb bound i high) ∙ and_true (holds c i)))
      (cases_lt i bound);
})
  where
    and_true : (b : Bool) → (b && true) ≡ b
    and_true true = refl
    and_true false = refl
