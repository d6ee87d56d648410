-- What the contents of a blob have, before calls and added by them, each content has.
use Rattle.std.proofs.Common.{ℕ, List, [], ◌∷◌, ◌++◌, Result}
use Rattle.std.specs.List.{AllByRecursion, Contains}
use Rattle.std.proofs.lemmas.List.Elements.{All-from_recursion, All-contains}
use Rattle.blob_device.specs.declared.error.DevError.{DevError}
use Rattle.blob_device.specs.Disk.{Key, Blob, past}
use Rattle.blob_device.specs.Change.{Change, during, done, FailedTo}
use Rattle.blob_device.specs.Timeline.{Timeline, disk, Passes, OnlyAt}
use Rattle.blob_device.specs.lemmas.Moments.{always_now, always_weaker}
use Rattle.sealed_pages.specs.Contents.{AllSince, KeepsAll, AddsOnly}
use Rattle.sealed_pages.specs.lemmas.unsealed.Sparing.{any_call}

module _ (Q : List ℕ → Type 0) where
  all_append : (xs ys : List (List ℕ)) → AllByRecursion Q xs → AllByRecursion Q ys → AllByRecursion Q (xs ++ ys)
  all_append [] ys all more = more
  all_append (x ∷ xs) ys all more = (all.0, all_append xs ys all.1 more)

  pub all_left : (xs ys : List (List ℕ)) → AllByRecursion Q (xs ++ ys) → AllByRecursion Q xs
  all_left [] ys all = tt
  all_left (x ∷ xs) ys all = (all.0, all_left xs ys all.1)

  pub all_right : (xs ys : List (List ℕ)) → AllByRecursion Q (xs ++ ys) → AllByRecursion Q ys
  all_right [] ys all = all
  all_right (x ∷ xs) ys all = all_right xs ys all.1

  -- what all of some contents have, each content among them has
  pub all_among : (xs ys : List (List ℕ)) → AllByRecursion Q xs → AllByRecursion (Contains xs) ys → AllByRecursion Q ys
  all_among xs [] all among = tt
  all_among xs (y ∷ ys) all among = (All-contains Q xs y (All-from_recursion Q xs all) among.0, all_among xs ys all among.1)

  -- what the contents before have, and those that calls add, each content has at each moment
  pub adds_keep : (made : List (List ℕ)) (k : Key) (t0 t1 : Timeline) → AllSince Q (disk t0 k) → AllByRecursion Q made → AddsOnly made k t0 t1 → KeepsAll Q k t0 t1
  adds_keep made k t0 t1 had new adds = always_weaker t0 t1 (λ d. AllSince (Contains (past (disk t0 k) ++ made)) (d k)) (λ d. AllSince Q (d k))
      (λ d among. all_among (past (disk t0 k) ++ made) (past (d k)) (all_append (past (disk t0 k)) made had new) among) adds

  -- and so at the last one
  pub keeps_now : (k : Key) (t0 t1 : Timeline) → KeepsAll Q k t0 t1 → AllSince Q (disk t1 k)
  keeps_now k t0 t1 keeps = always_now t0 t1 (λ d. AllSince Q (d k)) keeps

  -- a call of which all that it makes has Q
  pub keeps_call : {T : Type 0} (k : Key) (t0 t1 : Timeline) (change : Change) (r : Result T DevError) → Passes k change r t0 t1 → AllSince Q (disk t0 k) → AllSince Q (during change (disk t0 k)) → AllSince Q (done change (disk t0 k))
      → ((new : Blob) → FailedTo change (disk t0 k) new → AllSince Q new) → KeepsAll Q k t0 t1
  keeps_call k t0 t1 change r passes had inside after failed = always_weaker t0 t1 (OnlyAt k (disk t0) (AllSince Q)) (λ d. AllSince Q (d k)) (λ d only. only.here)
      (any_call (AllSince Q) k t0 t1 change r had passes inside after failed)
