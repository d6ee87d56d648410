-- What a buffer has in memory behind a flush.
use Rattle.std.proofs.Common.{◌≡◌, inl, inr, ℕ, ◌+◌, ◌-◌, ◌*◌, ◌<◌, ◌≤◌, List, [], ◌++◌, length, sym, ◌∙◌, ap, subst, arith, ◌/◌, ◌%◌}
use Rattle.std.proofs.lemmas.Bool.{cases_lt}
use Rattle.std.proofs.lemmas.List.Elements.{All-append, All-take, All-nil}
use Rattle.blob_device.specs.Disk.{Blob}
use Rattle.sealed_pages.specs.Buffer.{Buffer, size_of, FlushesInto, IsBacked}
use Rattle.sealed_pages.specs.Cached.{full_pages, AreFull, AreWhole, IsCachedOf, AreCachedOf}
use Rattle.sealed_pages.specs.Flushing.{Data, CoversFrom}
use Rattle.sealed_pages.specs.Slots.{page_length}
use Rattle.sealed_pages.specs.Unrecovered.{SparedPrefix}
use Rattle.sealed_pages.specs.View.{view, page_at, StandsAt}
use Rattle.sealed_pages.proofs.slots.CoverLemmas.{cached_spared, cached_put}
use Rattle.std.proofs.Math.Nat.{mod-eq-sub-div-mul}
use Rattle.sealed_pages.specs.Readers.{IsTipOf}
use Rattle.sealed_pages.specs.lemmas.memory.Held.{page_is}
use Rattle.sealed_pages.proofs.memory.Holding.{tip_stands}
use Rattle.sealed_pages.proofs.Syncing.{flushed_backed}

-- the buffer v that a flush of w leaves, where w is u but for what the flush removed before
pub memory_flushed : (seal : List ℕ → ℕ) (u w v : Buffer) (a b : Blob) (all : List ℕ) → w.page_size ≡ u.page_size → w.first ≡ u.first → w.tip ≡ u.tip → w.cache ≡ u.cache → v.from < v.page_size → FlushesInto w v
    → SparedPrefix (page_at u.page_size u.first) a b → AreFull u.page_size u.first u.cache → Data u.page_size all (size_of u) (view b.content) → length all ≡ size_of u → StandsAt all (u.first * u.page_size) u.tip
    → CoversFrom seal u.page_size b.content u.first (size_of u) → AreCachedOf seal u.page_size a.content u.cache → IsBacked seal v b.content
memory_flushed seal u w v a b all page first tip cache begun into has full same long at covers cached = record {
  flushed = flushed_backed v u.page_size (size_of u) all b.content (omega (arith, begun)) size_is size same ends long (omega (arith, from));
  tip = subst (λ (p : ℕ). v.from ≤ page_length seal p b.content v.first) (sym size_is) (elim (cases_lt 0 (length v.tip)) [
    | inl some ↦ omega (arith, from, covers v.first (omega (arith, into.later, first)) (omega (arith, some, size, at_page)), size, at_page, short)
    | inr none ↦ omega (arith, from, none)
  ]);
  cache = subst (λ (p : ℕ). AreCachedOf seal p b.content v.cache) (sym size_is) (subst (AreCachedOf seal u.page_size b.content) (sym into.cache)
      (All-take (IsCachedOf seal u.page_size b.content) w.cache_pages (full_pages w.page_size w.first (v.first - w.first) w.tip ++ w.cache)
      (All-append (IsCachedOf seal u.page_size b.content) (full_pages w.page_size w.first (v.first - w.first) w.tip) w.cache
      (subst (λ (x : ℕ × ℕ × List ℕ). AreCachedOf seal u.page_size b.content (full_pages x.0 x.1 (v.first - w.first) x.2)) (λ i. (sym page i, sym first i, sym tip i))
      (cached_put seal u.page_size u.first (v.first - w.first) u.tip all b.content (size_of u) (omega (arith, begun, size_is)) (omega (arith, into.long, ap (λ (p : ℕ). (v.first - w.first) * p) page, ap length tip)) refl_size same at covers))
      (subst (AreCachedOf seal u.page_size b.content) (sym cache) (cached_spared seal u.page_size u.first a b u.cache has full cached)))));
}
  where
    size_is : v.page_size ≡ u.page_size
    size_is = ap (λ (x : Buffer). x.page_size) into.same ∙ page

    from : v.from ≡ length v.tip
    from = ap (λ (x : Buffer). x.from) into.same

    size : size_of v ≡ size_of u
    size = into.size ∙ (λ i. first i * page i + length (tip i))

    at_page : v.first * v.page_size ≡ v.first * u.page_size
    at_page = ap (λ (p : ℕ). v.first * p) size_is

    short : length v.tip < u.page_size
    short = omega (arith, begun, from, size_is)

    refl_size : size_of u ≡ u.first * u.page_size + length u.tip
    refl_size = λ i. size_of u

    ends : StandsAt all (v.first * v.page_size) v.tip
    ends = into.tip all (subst (λ (x : ℕ × ℕ × List ℕ). StandsAt all (x.1 * x.0) x.2) (λ i. (sym page i, sym first i, sym tip i)) at)

-- no pages in memory
pub none_cached : (seal : List ℕ → ℕ) (P : ℕ) (c : List ℕ) (pages : List (ℕ × List ℕ)) → pages ≡ [] → AreCachedOf seal P c pages
none_cached seal P c pages is = subst (AreCachedOf seal P c) (sym is) (All-nil (IsCachedOf seal P c))

pub none_whole : (P : ℕ) (pages : List (ℕ × List ℕ)) → pages ≡ [] → AreWhole P pages
none_whole P pages is = subst (AreWhole P) (sym is) (All-nil (λ (e : ℕ × List ℕ). length e.1 ≡ P))

pub none_full : (P first : ℕ) (pages : List (ℕ × List ℕ)) → pages ≡ [] → AreFull P first pages
none_full P first pages is = subst (AreFull P first) (sym is) (All-nil (λ (e : ℕ × List ℕ). (e.0 < first) × (length e.1 ≡ P)))

-- the tip that a reader gets
pub tip_backed : (seal : List ℕ → ℕ) (u : Buffer) (n : ℕ) (content : List ℕ) → u.from < u.page_size → u.from ≡ length u.tip → n ≡ size_of u → IsBacked seal u content → IsTipOf seal u.page_size content (n / u.page_size) u.tip
tip_backed seal u n content begun flushed is backed =
    let first : n / u.page_size ≡ u.first = page_is u.page_size u.first n (omega (arith, begun)) (omega (arith, is)) (omega (arith, is, begun, flushed)) in
    subst (λ (k : ℕ). IsTipOf seal u.page_size content k u.tip) (sym first) (record {
      same = λ i lt. (tip_stands u content).same i lt ∙ sym (backed.flushed u.first i (omega (arith, lt, begun, flushed)) (omega (arith, lt, flushed)));
      covered = omega (arith, backed.tip, flushed);
    })

pub tip_rest : (P first n k : ℕ) → k < P → n ≡ first * P + k → k ≡ n % P
tip_rest P first n k small is = let q : n / P ≡ first = page_is P first n (omega (arith, small)) (omega (arith, is)) (omega (arith, is, small)) in
    omega (arith, mod-eq-sub-div-mul n P, ap (λ (x : ℕ). x * P) q, is)
