-- What each crash leaves of a buffer without seals, where its calls make prefixes of its bytes alone.
use Rattle.std.proofs.Common.{◌≡◌, ◌⊎◌, inl, inr, ℕ, zero, suc, ◌+◌, ◌<◌, ◌≤◌, false, List, [], ◌∷◌, length, take, Option, Some, None, IsSomeAnd, refl, sym, ap, subst, arith}
use Rattle.std.specs.Prelude.{⊤}
use Rattle.std.specs.List.{AllByRecursion}
use Rattle.std.proofs.lemmas.Bool.{cases_lt}
use Rattle.std.proofs.lemmas.List.{take_all}
use Rattle.blob_device.specs.Disk.{Key, Blob, Outside, MayLeave, past}
use Rattle.blob_device.specs.Timeline.{Timeline, disk}
use Rattle.sealed_pages.specs.declared.write_blob.WriteBlob.{WriteBlob}
use Rattle.sealed_pages.specs.Contents.{AllSince, KeepsAll, AddsOnly}
use Rattle.sealed_pages.specs.Sparing.{Lasts, SameByte, Spares, Sparing}
use Rattle.sealed_pages.specs.unsealed.Writing.{shown, run_of, StandsBehind}
use Rattle.sealed_pages.specs.lemmas.unsealed.Content.{adds_keep}
use Rattle.section_manager.specs.Prefixes.{IsPrefixOf}
use Rattle.section_manager.specs.Leaving.{Leaves, AllMoments}
use Rattle.section_manager.specs.unsealed.Buffer.{Stands, IsWhole, KeepsBytes, IsOldOrPrefix, MayKeep, content_of, is_unsettled}
use Rattle.section_manager.specs.unsealed.Laws.{all_weaker, all_old, idle_parts}

module _ (u : WriteBlob) (R : ℕ → Type 0) (n m : ℕ) (le : m ≤ n) (small : m ≤ u.settled) (covers : (i : ℕ) → i < m → Outside (run_of (shown u) ∷ []) i → R i) where
  -- what each crash leaves keeps the bytes that settled
  pub crash_keeps : (from b : Blob) → Stands u from → Spares R n from b → (left : Option (List ℕ)) → MayLeave b left → IsSomeAnd left (KeepsBytes u from m)
  crash_keeps from b stands spares left may = go left may (spares.crashes m le lasts left may)
    where
      lasts : Lasts m from
      lasts = record { there = stands.over.lasts.there; sure = stands.over.lasts.sure; short = omega (arith, small, stands.over.lasts.short); long = omega (arith, small, stands.over.lasts.long) }

      go : (l : Option (List ℕ)) → MayLeave b l → IsSomeAnd l (λ c. (i : ℕ) → i < m → R i → Outside from.loose i → SameByte i from.content c) → IsSomeAnd l (KeepsBytes u from m)
      go None may crash = absurd crash
      go (Some c) may crash = record {
        long = omega (arith, (spares.lasts m le lasts).short, may.1.no_shorter);
        same = λ i lt out loose. crash i lt (covers i lt out) loose;
      }

  keeps : (from b : Blob) → Stands u from → Spares R n from b → (StandsBehind (shown u) → AllSince (IsOldOrPrefix u from) b) → Leaves (λ _ _. ⊤) (MayKeep u from m) b
  keeps from b stands spares since left may = go left (crash_keeps from b stands spares left may)
    where
      go : (l : Option (List ℕ)) → IsSomeAnd l (KeepsBytes u from m) → IsSomeAnd l (λ c. ⊤ → MayKeep u from m (past b) c)
      go None has = absurd has
      go (Some c) has = λ sealed. record { bytes = has; since = since }

  module _ (k : Key) (old new : Timeline) (stands : Stands u (disk old k)) (sparing : Sparing R n k old new) where
    -- calls that make prefixes of the buffer's bytes alone
    pub all_moments : (made : List (List ℕ)) → AllByRecursion (λ c. IsPrefixOf c (content_of u (disk old k).content)) made → (StandsBehind (shown u) → AddsOnly made k old new)
        → AllMoments k (Leaves (λ _ _. ⊤) (MayKeep u (disk old k) m)) old new
    all_moments made prefixes adds = record {
      later = sparing.later;
      kept = sparing.kept;
      each = λ t low high. record {
        here = keeps (disk old k) (new.at t k) stands (sparing.each t low high).here (λ behind. (since behind).each t low high);
        others = (sparing.each t low high).others;
      };
    }
      where
        since : StandsBehind (shown u) → KeepsAll (IsOldOrPrefix u (disk old k)) k old new
        since behind = adds_keep (IsOldOrPrefix u (disk old k)) made k old new (all_old u (disk old k))
            (all_weaker (λ c. IsPrefixOf c (content_of u (disk old k).content)) (IsOldOrPrefix u (disk old k)) made (λ c prefix. inr prefix) prefixes) (adds behind)

-- bytes begin with themselves
pub prefix_itself : (c : List ℕ) → IsPrefixOf c c
prefix_itself c = take_all (length c) c (omega arith)

-- and with as many of them as are taken
pub prefix_taken : (n : ℕ) (c : List ℕ) → IsPrefixOf (take n c) c
prefix_taken zero c = refl
prefix_taken (suc n) [] = refl
prefix_taken (suc n) (x ∷ c) = ap (λ (l : List ℕ). x ∷ l) (prefix_taken n c)

-- no place is in a run of no bytes
outside_none : (at n i : ℕ) → n ≡ 0 → (i < at) ⊎ (at + n ≤ i)
outside_none at n i none = elim (cases_lt i at) [
  | inl below ↦ inl below
  | inr beyond ↦ inr (omega (arith, none, beyond))
]

-- where nothing is unsettled and nothing is loose, no settled byte was written since
pub whole_settled : (u : WriteBlob) (b : Blob) → is_unsettled u ≡ false → b.loose ≡ [] → IsWhole u b
whole_settled u b idle none i lt = (
  (outside_none u.at (length u.pending.items) i (idle_parts u.dirty (length u.pending.items) u.at u.end idle).1.0, tt),
  subst (λ (l : List (ℕ × ℕ)). Outside l i) (sym none) tt,
)
