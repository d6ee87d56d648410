-- What a crash left in a blob is removed and settled before a byte is written.
use Rattle.std.proofs.Common.{◌≡◌, ◌⊎◌, inl, inr, ℕ, zero, suc, ◌+◌, ◌<◌, ◌≤◌, not, Bool, true, false, cond, List, [], length, get_or, Result, refl, sym, ◌∙◌, ap, subst, arith}
use Rattle.std.proofs.lemmas.Bool.{cases_lt}
use Rattle.blob_device.specs.declared.error.DevError.{DevError}
use Rattle.blob_device.specs.Change.{Write, Resize, Settle, during, done, FailedTo, written, resized}
use Rattle.blob_device.specs.Disk.{Key, Blob, Outside}
use Rattle.blob_device.specs.Timeline.{Timeline, disk, Passes, Always, OnlyAt}
use Rattle.blob_device.specs.lemmas.Bytes.{outside_push}
use Rattle.blob_device.specs.lemmas.Moments.{always_now, only_start}
use Rattle.sealed_pages.specs.Buffer.{pages_of}
use Rattle.sealed_pages.specs.Cutting.{StandsSettled}
use Rattle.sealed_pages.specs.Flushing.{no_slot}
use Rattle.sealed_pages.specs.Leftover.{IsBlank, IsTorn, Leftover, IsCleared, OnlySlot, ClearsFirst, SettlesNothing}
use Rattle.sealed_pages.specs.Slots.{slot_length}
use Rattle.sealed_pages.specs.View.{page_at, slot_at}
use Rattle.sealed_pages.specs.lemmas.Prefixes.{kept_on}
use Rattle.sealed_pages.specs.lemmas.adopted.Adopting.{pages_some}
use Rattle.sealed_pages.specs.lemmas.slots.PageCalls.{only_then, only_weaker}
use Rattle.sealed_pages.specs.lemmas.slots.Slot.{page_next}
use Rattle.sealed_pages.specs.lemmas.slots.SlotSteps.{slot_is}
use Rattle.sealed_pages.specs.lemmas.slots.Steps.{slot_high}
use Rattle.sealed_pages.proofs.adopted.Keeping.{cut_same}
use Rattle.blob_device.specs.Lengths.{length-resized, length-written}
use Rattle.blob_device.specs.Places.{resized_below}

-- nothing settles
pub settles_start : (key : Key) (t : Timeline) → SettlesNothing key t t
settles_start key t = only_start t key (λ b. b.settled ≡ (disk t key).settled) refl

pub settles_write : {T : Type 0} (key : Key) (a b c : Timeline) (at : ℕ) (bytes : List ℕ) (result : Result T DevError) → SettlesNothing key a b → Passes key (Write at bytes) result b c → SettlesNothing key a c
settles_write key a b c at bytes result first passes = kept_on (λ x. x.settled ≡ (disk a key).settled) key (disk a) a b c (Write at bytes) result first passes (λ x same. same) (λ x same. same)
    (λ x y same part. ap (λ (z : Blob). z.settled) part.2 ∙ same)

pub settles_then : (key : Key) (a b c : Timeline) → SettlesNothing key a b → SettlesNothing key b c → SettlesNothing key a c
settles_then key a b c first second =
    let same : (disk b key).settled ≡ (disk a key).settled = (always_now a b (OnlyAt key (disk a) (λ x. x.settled ≡ (disk a key).settled)) first).here in
    only_then a b c key (λ x. x.settled ≡ (disk a key).settled) first
    (only_weaker b c key (disk b) (λ x. x.settled ≡ (disk b key).settled) (λ x. x.settled ≡ (disk a key).settled) (λ x e. e ∙ same) second)

-- only the slot is loose
rest_loose : (b : Blob) → StandsSettled b → b.loose ≡ []
rest_loose b rest = ap (λ (x : Blob). x.loose) rest

none_loose : (at : ℕ) (b : Blob) → b.loose ≡ [] → OnlySlot at b
none_loose at b none i = inl (subst (λ (rs : List (ℕ × ℕ)). Outside rs i) (sym none) tt)

pub slot_start : (at : ℕ) (key : Key) (t : Timeline) → StandsSettled (disk t key) → Always t t (OnlyAt key (disk t) (OnlySlot at))
slot_start at key t rest = only_start t key (OnlySlot at) (none_loose at (disk t key) (rest_loose (disk t key) rest))

pub slot_resize : {T : Type 0} (at : ℕ) (key : Key) (a b c : Timeline) (n : ℕ) (result : Result T DevError) → Always a b (OnlyAt key (disk a) (OnlySlot at)) → Passes key (Resize n) result b c → Always a c (OnlyAt key (disk a) (OnlySlot at))
slot_resize at key a b c n result first passes = kept_on (OnlySlot at) key (disk a) a b c (Resize n) result first passes (λ x only. only) (λ x only. only) failed
  where
    failed : (x y : Blob) → OnlySlot at x → FailedTo (Resize n) x y → OnlySlot at y
    failed x y only (inl same) = subst (OnlySlot at) (sym same) only
    failed x y only (inr same) = subst (OnlySlot at) (sym same) only

slot_more : (at : ℕ) (x y : Blob) → y.loose ≡ (during (Write at no_slot) x).loose → OnlySlot at x → OnlySlot at y
slot_more at x y same only i = elim (only i) [
  | inl outside ↦ elim (cases_lt i at) [
    | inl before ↦ inl (pushed outside (inl before))
    | inr from ↦ elim (cases_lt i (at + 6)) [
      | inl inside ↦ inr (record { low = from; high = inside })
      | inr behind ↦ inl (pushed outside (inr behind))
    ]
  ]
  | inr inside ↦ inr inside
]
  where
    pushed : Outside x.loose i → (i < at) ⊎ (at + 6 ≤ i) → Outside y.loose i
    pushed outside apart = subst (λ (rs : List (ℕ × ℕ)). Outside rs i) (sym same) (outside_push x.loose at 6 i outside apart)

pub slot_write : {T : Type 0} (at : ℕ) (key : Key) (a b c : Timeline) (result : Result T DevError) → Always a b (OnlyAt key (disk a) (OnlySlot at)) → Passes key (Write at no_slot) result b c → Always a c (OnlyAt key (disk a) (OnlySlot at))
slot_write at key a b c result first passes = kept_on (OnlySlot at) key (disk a) a b c (Write at no_slot) result first passes
    (λ x only. slot_more at x (during (Write at no_slot) x) refl only) (λ x only. slot_more at x (done (Write at no_slot) x) refl only)
    (λ x y only part. slot_more at x y (ap (λ (z : Blob). z.loose) part.2) only)

pub slot_settle : {T : Type 0} (at : ℕ) (key : Key) (a b c : Timeline) (result : Result T DevError) → Always a b (OnlyAt key (disk a) (OnlySlot at)) → Passes key Settle result b c → Always a c (OnlyAt key (disk a) (OnlySlot at))
slot_settle at key a b c result first passes = kept_on (OnlySlot at) key (disk a) a b c Settle result first passes (λ x only. only) (λ x only. none_loose at (done Settle x) refl)
    (λ x y only same. subst (OnlySlot at) (sym same) only)

zero_of : (i : ℕ) → get_or no_slot i 0 ≡ 0
zero_of zero = refl
zero_of (suc zero) = refl
zero_of (suc (suc zero)) = refl
zero_of (suc (suc (suc zero))) = refl
zero_of (suc (suc (suc (suc zero)))) = refl
zero_of (suc (suc (suc (suc (suc zero))))) = refl
zero_of (suc (suc (suc (suc (suc (suc i)))))) = refl

module _ (seal : List ℕ → ℕ) (P first from : ℕ) (newest : Bool) where
  pub slot_clears : (key : Key) (a b : Timeline) → Always a b (OnlyAt key (disk a) (OnlySlot (slot_at P first (not newest)))) → Always a b (OnlyAt key (disk a) (ClearsFirst seal P first from newest))
  slot_clears key a b always = only_weaker a b key (disk a) (OnlySlot (slot_at P first (not newest))) (ClearsFirst seal P first from newest) (λ x only. inl only) always

  pub clears_start : (key : Key) (t : Timeline) → StandsSettled (disk t key) → Always t t (OnlyAt key (disk t) (ClearsFirst seal P first from newest))
  clears_start key t rest = slot_clears key t t (slot_start (slot_at P first (not newest)) key t rest)

  -- once that is settled, any byte may be written
  pub clears_then : (key : Key) (a b c : Timeline) → Always a b (OnlyAt key (disk a) (ClearsFirst seal P first from newest)) → IsCleared seal P first from newest (disk b key).settled → SettlesNothing key b c
      → Always a c (OnlyAt key (disk a) (ClearsFirst seal P first from newest))
  clears_then key a b c before cleared stays = only_then a b c key (ClearsFirst seal P first from newest) before
      (only_weaker b c key (disk b) (λ x. x.settled ≡ (disk b key).settled) (ClearsFirst seal P first from newest) (λ x same. inr (subst (IsCleared seal P first from newest) (sym same) cleared)) stays)

  pub clears_settle : {T : Type 0} (key : Key) (a b c : Timeline) (result : Result T DevError) → Always a b (OnlyAt key (disk a) (ClearsFirst seal P first from newest)) → Passes key Settle result b c → Always a c (OnlyAt key (disk a) (ClearsFirst seal P first from newest))
  clears_settle key a b c result before passes = kept_on (ClearsFirst seal P first from newest) key (disk a) a b c Settle result before passes (λ x clears. clears) (λ x clears. inl (none_loose (slot_at P first (not newest)) (done Settle x) refl))
      (λ x y clears same. subst (ClearsFirst seal P first from newest) (sym same) clears)

  module _ (c : List ℕ) (behind torn : Bool) (left : Leftover seal P c first from newest behind torn) where
    cut_short : (b : Bool) → behind ≡ b → length (cond b (resized c (page_at P (pages_of first from))) c) ≤ page_at P (pages_of first from)
    cut_short true is = omega (arith, length-resized c (page_at P (pages_of first from)))
    cut_short false is = elim (cases_lt (page_at P (pages_of first from)) (length c)) [
      | inl more ↦ absurd (cc (is, left.behind_is.1 more))
      | inr le ↦ le
    ]

    torn_before : (b : Bool) → behind ≡ b → 0 < from → IsTorn seal P (cond b (resized c (page_at P (pages_of first from))) c) first (not newest) → IsTorn seal P c first (not newest)
    torn_before false is some torn_now = torn_now
    torn_before true is some torn_now =
        let pages : pages_of first from ≡ first + 1 = pages_some first from some in
        let inside : slot_at P first (not newest) + 6 ≤ page_at P (pages_of first from) = omega (arith, slot_high P first (not newest), page_next P first, ap (page_at P) pages) in
        let long : page_at P (pages_of first from) ≤ length c = omega (arith, left.behind_is.0 is) in
        let same : slot_length seal P (resized c (page_at P (pages_of first from))) first (not newest) ≡ slot_length seal P c first (not newest)
        = cut_same seal P c 0 (λ k. false) c (pages_of first from) first (not newest) long (omega (arith, pages)) in
        (sym same ∙ torn_now.0, λ blank. torn_now.1 (λ i lt. resized_below c (page_at P (pages_of first from)) (slot_at P first (not newest) + i) (omega (arith, lt, inside)) ∙ blank i lt))

    pub whole_cleared : torn ≡ false → IsCleared seal P first from newest (cond behind (resized c (page_at P (pages_of first from))) c)
    whole_cleared none = record {
      short = cut_short behind refl;
      whole = λ some torn_now. cc (none, left.torn_is.1 (some, torn_before behind refl some torn_now));
    }

    pub torn_cleared : 0 < from → IsCleared seal P first from newest (written (cond behind (resized c (page_at P (pages_of first from))) c) (slot_at P first (not newest)) no_slot)
    torn_cleared some =
        let pages : pages_of first from ≡ first + 1 = pages_some first from some in
        record {
          short = omega (
            arith,
            cut_short behind refl,
            length-written (cond behind (resized c (page_at P (pages_of first from))) c) (slot_at P first (not newest)) no_slot,
            slot_high P first (not newest),
            page_next P first,
            ap (page_at P) pages,
          );
          whole = λ more torn_now. torn_now.1 (zeros (cond behind (resized c (page_at P (pages_of first from))) c));
        }
      where
        zeros : (d : List ℕ) → IsBlank P (written d (slot_at P first (not newest)) no_slot) first (not newest)
        zeros d i lt = slot_is seal P d first (not newest) no_slot refl i lt ∙ zero_of i

    -- both steps
    pub both_cleared : (t : Bool) → torn ≡ t → (torn ≡ true → 0 < from)
        → IsCleared seal P first from newest (cond t (written (cond behind (resized c (page_at P (pages_of first from))) c) (slot_at P first (not newest)) no_slot) (cond behind (resized c (page_at P (pages_of first from))) c))
    both_cleared true is inside = torn_cleared (inside is)
    both_cleared false is inside = whole_cleared is

-- once a slot alone was written, it alone is written on
pub slot_then : (at : ℕ) (key : Key) (a b c : Timeline) → Always a b (OnlyAt key (disk a) (OnlySlot at)) → (OnlySlot at (disk b key) → Always b c (OnlyAt key (disk b) (OnlySlot at))) → Always a c (OnlyAt key (disk a) (OnlySlot at))
slot_then at key a b c first second = only_then a b c key (OnlySlot at) first (second (always_now a b (OnlyAt key (disk a) (OnlySlot at)) first).here)

-- of a blob that has settled, and of which nothing is left, nothing has to be removed
pub rest_cleared : (seal : List ℕ → ℕ) (P first from : ℕ) (newest : Bool) (b : Blob) (behind torn : Bool) → Leftover seal P b.content first from newest behind torn → StandsSettled b → behind ≡ false → torn ≡ false
    → IsCleared seal P first from newest b.settled
rest_cleared seal P first from newest b behind torn left rest no_behind no_torn = subst (λ (c : List ℕ). IsCleared seal P first from newest c) (sym (ap (λ (x : Blob). x.settled) rest)) (record {
  short = elim (cases_lt (page_at P (pages_of first from)) (length b.content)) [
    | inl more ↦ absurd (cc (no_behind, left.behind_is.1 more))
    | inr le ↦ le
  ];
  whole = λ some torn_now. cc (no_torn, left.torn_is.1 (some, torn_now));
})
