-- Where the records of a section end, and the last of them. What adopting a blob finds has a length in range.
use Rattle.std.specs.Prelude.{◌≡◌, ℕ, zero, suc, ◌+◌, ◌-◌, ◌*◌, ◌/◌, ◌^◌, ◌<◌, ◌≤◌, Bool, List, [], length, get_or}
use Rattle.std.proofs.Common.{refl, sym, ◌∙◌, ap, arith}
use Rattle.std.proofs.lemmas.List.{take_all}
use Rattle.std.proofs.lemmas.Nat.{le-div, mul-le}
use Rattle.std.proofs.Math.Nat.{div-mul-le_self}
use Rattle.sealed_pages.specs.SealedPrefix.{sealed_prefix, adopted_size, data_from, pages_in}
use Rattle.sealed_pages.specs.Slots.{best_slot}
use Rattle.sealed_pages.specs.View.{view}
use Rattle.sealed_pages.specs.lemmas.Reaching.{prefix_size, size_at_most}
use Rattle.sealed_pages.specs.lemmas.adopted.Adopt.{best_length, length-data_from}
use Rattle.sealed_pages.specs.lemmas.looking.Looking.{page_places}
use Rattle.sealed_pages.specs.lemmas.slots.Slot.{slot_length-le, times_page}
use Rattle.segments.specs.lemmas.replay.Kept.{item_kept}
use Rattle.segments.specs.FixedItems.{item_count, item_at}
use Rattle.paired.specs.Records.{each_below, records}
use Rattle.paired.specs.lemmas.Records.{length-records}
use Rattle.blob_device.proofs.general.Numbers.{times_next}

each_at : {X : Type 0} (x : X) (n : ℕ) (f : ℕ → X) (i : ℕ) → i < n → get_or (each_below n f) i x ≡ f i
each_at x zero f i lt = absurd (omega (arith, lt))
each_at x (suc n) f zero lt = refl
each_at x (suc n) f (suc i) lt = each_at x n (λ j. f (j + 1)) i (omega (arith, lt)) ∙ (let e : i + 1 ≡ suc i = omega arith in ap f e)

-- so many records end by the length of the bytes
pub records_end : (size n : ℕ) (bytes : List ℕ) → n ≤ length (records size bytes) → n * size ≤ length bytes
records_end size n bytes le =
    let few : n ≤ length bytes / size = omega (arith, le, length-records size bytes) in
    omega (arith, mul-le n size (length bytes / size) size few (omega arith), div-mul-le_self (length bytes) size)

-- the last of n records, of bytes that stand in a blob from its start on, is what stands at its place
pub last_is_record : (seal : List ℕ → ℕ) (P : ℕ) (content bytes : List ℕ) (size n : ℕ) → 1 ≤ P → 1 ≤ size → bytes ≡ data_from P (view content) 0 (length bytes) → 0 < n → n * size ≤ length bytes
    → get_or (records size bytes) (n - 1) [] ≡ data_from P (view content) ((n - 1) * size) size
last_is_record seal P content bytes size n pos some stands more fits =
    let at : ℕ = (n - 1) * size in
    let item : List ℕ = data_from P (view content) at size in
    let long : length item ≡ size = length-data_from P (view content) size at in
    let next : n ≡ (n - 1) + 1 = omega (arith, more) in
    let ends : at + size ≡ n * size = sym (times_next (n - 1) size) ∙ sym (ap (λ (k : ℕ). k * size) next) in
    let here : n - 1 < length bytes / size = omega (arith, more, le-div n (length bytes) size (omega (arith, some)) fits) in
    each_at [] (item_count size bytes) (item_at size bytes) (n - 1) here
    ∙ sym (item_kept seal P content pos bytes stands size (n - 1) at item (ap (data_from P (view content) at) (sym long)) refl (omega (arith, long)) (omega (arith, long, ends, fits)))
    ∙ take_all size item (omega (arith, long))

-- a u64 counts the bytes that adopting finds, of a blob of any length
adopted_small : (seal : List ℕ → ℕ) (P : ℕ) (c : List ℕ) → adopted_size seal P c ≤ 2 ^ 64 - 1
adopted_small seal P c = size_at_most seal P (2 ^ 64 - 1) c (pages_in P c) (λ k some.
    let is = best_length seal P c k in
    let b : Bool = best_slot seal P c k in
    omega (arith, is, slot_length-le seal P c k b, page_places seal P c k some, times_page P k))

pub sealed_small : (seal : List ℕ → ℕ) (P : ℕ) (c : List ℕ) → length (sealed_prefix seal P c) < 2 ^ 64
sealed_small seal P c = omega (arith, prefix_size seal P c, adopted_small seal P c)
