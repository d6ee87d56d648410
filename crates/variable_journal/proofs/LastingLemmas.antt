-- What a crash leaves of bytes has the first items in them.
use Rattle.std.specs.Prelude.{◌≡◌, ℕ, ◌^◌, ◌<◌, List, [], ◌∷◌, ◌++◌, length, Option, Some, None, IsSomeAnd}
use Rattle.std.proofs.Common.{inl, inr, subst}
use Rattle.blob_device.specs.Disk.{Key, Blob, past, MayLeave}
use Rattle.blob_device.specs.Timeline.{Timeline, disk, OnlyAt}
use Rattle.blob_device.specs.lemmas.Moments.{always_weaker}
use Rattle.sealed_pages.specs.Buffer.{Buffer, bytes_of}
use Rattle.sealed_pages.specs.ChanceSeal.{NoChanceSeal, Leaves, Sealing}
use Rattle.sealed_pages.specs.SealedPrefix.{sealed_prefix, Prefix}
use Rattle.section_manager.specs.Leaving.{AllMoments}
use Rattle.segments.specs.FixedLasting.{IsBeginning}
use Rattle.segments.specs.FixedResting.{Promises}
use Rattle.segments.specs.lemmas.FixedRested.{promised}
use Rattle.variable_journal.specs.Frames.{AreFirst, frame, frames, items_of, offset_of, rest_of, whole_end}
use Rattle.variable_journal.specs.Lasting.{BeginsItems, LeavesItems, LeavingItems, PromisesItems}
use Rattle.variable_journal.specs.lemmas.Frame.{one_more, rest_none}
use Rattle.variable_journal.specs.lemmas.Resting.{first_of_prefix}

-- ---- each crash

module _ (seal : List ℕ → ℕ) (P : ℕ) (b : Blob) where
  -- each crash leaves the blob, without a chance seal with R; or none
  abbrev LeavesSuch : (List ℕ → Type 0) → Type 0
  LeavesSuch R = (left : Option (List ℕ)) → MayLeave b left → IsSomeAnd left (λ c. NoChanceSeal seal P (past b) c → R c)

  leaves_map : (R Q : List ℕ → Type 0) → ((c : List ℕ) → R c → Q c) → LeavesSuch R → LeavesSuch Q
  leaves_map R Q map leaves left may = go left (leaves left may)
    where
      go : (l : Option (List ℕ)) → IsSomeAnd l (λ c. NoChanceSeal seal P (past b) c → R c) → IsSomeAnd l (λ c. NoChanceSeal seal P (past b) c → Q c)
      go None has = has
      go (Some c) has = λ no. map c (has no)

  -- what is said of bytes is said of the items in them
  pub leaves_items : (bytes : List ℕ) (least : ℕ) → Leaves seal P bytes least b → LeavesItems seal P (items_of bytes) least b
  leaves_items bytes least = leaves_map (Prefix seal P bytes least) (λ c. AreFirst (items_of bytes) least (items_of (sealed_prefix seal P c))) (first_of_prefix seal P bytes least)

-- what was promised of bytes is promised of items
pub promise_items : (seal : List ℕ → ℕ) (u : Buffer) (from b : Blob) → Promises seal u from b → PromisesItems seal u from b
promise_items seal u from b promises = record {
  sealed = λ sealed. leaves_items seal u.page_size b (bytes_of u from.content) u.settled (promises.sealed sealed);
  prefix = λ un. leaves_items seal u.page_size b (sealed_prefix seal u.page_size from.content) (length (sealed_prefix seal u.page_size from.content)) (promises.prefix un);
}

pub items_now : (seal : List ℕ → ℕ) (u : Buffer) (b : Blob) → u.from < u.page_size → PromisesItems seal u b b
items_now seal u b begun = promise_items seal u b b (promised seal u b begun)

-- ---- a call on one blob

module _ (seal : List ℕ → ℕ) (P : ℕ) (key : Key) (old new : Timeline) where
  pub flushing_items : (bytes : List ℕ) (least : ℕ) → Sealing seal P bytes least key old new → LeavingItems seal P (items_of bytes) least key old new
  flushing_items bytes least = always_weaker old new (OnlyAt key (disk old) (Leaves seal P bytes least)) (OnlyAt key (disk old) (LeavesItems seal P (items_of bytes) least))
      (λ d at. record { here = leaves_items seal P (d key) bytes least at.here; others = at.others })

  pub appending_items : (bytes item : List ℕ) (least : ℕ) → rest_of bytes ≡ [] → length item < 2 ^ 32 → Sealing seal P (bytes ++ frame item) least key old new
      → LeavingItems seal P (items_of bytes ++ item ∷ []) least key old new
  appending_items bytes item least whole fits sealing =
      subst (λ (xs : List (List ℕ)). LeavingItems seal P xs least key old new) (one_more bytes item whole fits).0 (flushing_items (bytes ++ frame item) least sealing)

  making_here : (item : List ℕ) → items_of (frame item) ≡ item ∷ [] → (b : Blob) → IsBeginning seal P (frame item) (disk old key) b → BeginsItems seal P (item ∷ []) (disk old key) b
  making_here item one b (inl opening) = inl opening
  making_here item one b (inr leaves) = inr (subst (λ (xs : List (List ℕ)). LeavesItems seal P xs 0 b) one (leaves_items seal P b (frame item) 0 leaves))

  pub making_items : (item : List ℕ) → length item < 2 ^ 32 → AllMoments key (IsBeginning seal P (frame item) (disk old key)) old new → AllMoments key (BeginsItems seal P (item ∷ []) (disk old key)) old new
  unfolding Rattle.variable_journal.specs.Frames.items_within
  making_items item fits = always_weaker old new (OnlyAt key (disk old) (IsBeginning seal P (frame item) (disk old key))) (OnlyAt key (disk old) (BeginsItems seal P (item ∷ []) (disk old key)))
      (λ d at. record { here = making_here item (one_more [] item rest_none fits).0 (d key) at.here; others = at.others })
