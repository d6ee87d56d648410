-- The length that a slot says of its page, in a blob and in a page by itself; and calls that only look.
use Rattle.std.proofs.Common.{◌≡◌, ◌≢◌, ◌⊎◌, inl, inr, ℕ, suc, ◌+◌, ◌-◌, ◌*◌, ◌^◌, ◌<◌, ◌≤◌, leb, eqb, min, max, Bool, true, false, cond, List, ◌++◌, length, drop, Result, Ok, Err, Option, Some, None, IsSomeAnd, refl, sym, ◌∙◌, ap, arith, length-take, length-drop}
use Rattle.std.specs.Prelude.{IfSome}
use Rattle.std.specs.Int.{w16, w32, from_be_bytes}
use Rattle.std.proofs.lemmas.Bool.{cases_lt, cases_eq, le-leb, eq-eqb, ne_eqb}
use Rattle.std.proofs.lemmas.List.{get_or-take, get_or-drop, ext_get_or}
use Rattle.blob_device.specs.declared.error.DevError.{DevError}
use Rattle.blob_device.specs.Disk.{Key, Disk, put}
use Rattle.blob_device.specs.Change.{Look}
use Rattle.blob_device.specs.Timeline.{Timeline, disk, Passes}
use Rattle.blob_device.specs.Opened.{Opened, OpenedList}
use Rattle.blob_device.specs.lemmas.Moments.{always_start, always_then, always_on, always_weaker, passes_after, ok_blob, err_has}
use Rattle.blob_device.specs.lemmas.Puts.{put_self, put_same}
use Rattle.sealed_pages.specs.lemmas.slots.Slot.{get_or-bytes_at, length-bytes_at, slot_length-le, slot_named, slot_room, slot_stands, whole_true}
use Rattle.sealed_pages.specs.Entries.{IsOpenAt}
use Rattle.sealed_pages.specs.Reading.{page_of, Unchanged}
use Rattle.sealed_pages.specs.SealedPrefix.{size_below}
use Rattle.sealed_pages.specs.Slots.{named_length, named_seal, computed_seal, slot_length, page_length}
use Rattle.sealed_pages.specs.View.{view, bytes_at, page_at, slot_at}

pub page_zero : (P : ℕ) → page_at P 0 ≡ 0
unfolding page_at
page_zero P = omega arith

module _ (seal : List ℕ → ℕ) (P : ℕ) (c : List ℕ) (k : ℕ) (b : Bool) where
  pub slot_short : length c < slot_at P k b + 6 → slot_length seal P c k b ≡ 0
  slot_short short = elim (cases_lt 0 (slot_length seal P c k b)) [
    | inl some ↦ absurd (omega (arith, short, slot_stands seal P c k b some))
    | inr none ↦ omega (arith, none)
  ]

  pub slot_long : P < named_length (view c) (slot_at P k b) → slot_length seal P c k b ≡ 0
  slot_long long = elim (cases_lt 0 (slot_length seal P c k b)) [
    | inl some ↦ absurd (omega (arith, long, slot_named seal P c k b some, slot_length-le seal P c k b))
    | inr none ↦ omega (arith, none)
  ]

  named : ℕ
  named = named_length (view c) (slot_at P k b)

  computed : ℕ
  computed = computed_seal seal P (view c) (page_at P k) (slot_at P k b) (named_length (view c) (slot_at P k b))

  pub slot_right : slot_at P k b + 6 ≤ length c → page_at P k + (P + 12) < 2 ^ 64 → named_length (view c) (slot_at P k b) ≤ P → computed_seal seal P (view c) (page_at P k) (slot_at P k b) (named_length (view c) (slot_at P k b)) ≡ named_seal (view c) (slot_at P k b) → slot_length seal P c k b ≡ named_length (view c) (slot_at P k b)
  unfolding slot_length
  slot_right stands room short holds = ap (λ (t : Bool). cond t (cond (leb (named_length (view c) (slot_at P k b)) P) (cond (eqb (computed_seal seal P (view c) (page_at P k) (slot_at P k b) (named_length (view c) (slot_at P k b))) (named_seal (view c) (slot_at P k b))) (named_length (view c) (slot_at P k b)) 0) 0) 0) (whole_true P c k b stands room)
      ∙ ap (λ (t : Bool). cond t (cond (eqb (computed_seal seal P (view c) (page_at P k) (slot_at P k b) (named_length (view c) (slot_at P k b))) (named_seal (view c) (slot_at P k b))) (named_length (view c) (slot_at P k b)) 0) 0) (le-leb (named_length (view c) (slot_at P k b)) P short)
      ∙ ap (λ (t : Bool). cond t (named_length (view c) (slot_at P k b)) 0) (eq-eqb (computed_seal seal P (view c) (page_at P k) (slot_at P k b) (named_length (view c) (slot_at P k b))) (named_seal (view c) (slot_at P k b)) holds)

  pub slot_wrong : slot_at P k b + 6 ≤ length c → page_at P k + (P + 12) < 2 ^ 64 → named_length (view c) (slot_at P k b) ≤ P → computed_seal seal P (view c) (page_at P k) (slot_at P k b) (named_length (view c) (slot_at P k b)) ≢ named_seal (view c) (slot_at P k b) → slot_length seal P c k b ≡ 0
  unfolding slot_length
  slot_wrong stands room short differ = ap (λ (t : Bool). cond t (cond (leb (named_length (view c) (slot_at P k b)) P) (cond (eqb (computed_seal seal P (view c) (page_at P k) (slot_at P k b) (named_length (view c) (slot_at P k b))) (named_seal (view c) (slot_at P k b))) (named_length (view c) (slot_at P k b)) 0) 0) 0) (whole_true P c k b stands room)
      ∙ ap (λ (t : Bool). cond t (cond (eqb (computed_seal seal P (view c) (page_at P k) (slot_at P k b) (named_length (view c) (slot_at P k b))) (named_seal (view c) (slot_at P k b))) (named_length (view c) (slot_at P k b)) 0) 0) (le-leb (named_length (view c) (slot_at P k b)) P short)
      ∙ ap (λ (t : Bool). cond t (named_length (view c) (slot_at P k b)) 0) (ne_eqb (computed_seal seal P (view c) (page_at P k) (slot_at P k b) (named_length (view c) (slot_at P k b))) (named_seal (view c) (slot_at P k b)) differ)

-- A page by itself, and in the blob.
module _ (seal : List ℕ → ℕ) (P : ℕ) (c : List ℕ) (k : ℕ) where
  pub part_view : (i : ℕ) → i < P + 12 → view (page_of P c k) i ≡ view c (page_at P k + i)
  part_view i lt = get_or-take (P + 12) (drop (page_at P k) c) i 0 lt ∙ get_or-drop (page_at P k) c i 0

  pub part_length : length (page_of P c k) ≡ min (P + 12) (length c - page_at P k)
  part_length = omega (arith, length-take (P + 12) (drop (page_at P k) c), length-drop (page_at P k) c)

  pub offset : (b : Bool) → slot_at P k b ≡ page_at P k + slot_at P 0 b
  offset b = omega (arith, page_zero P)

  pub low : (b : Bool) → slot_at P 0 b + 6 ≤ P + 12
  low false = omega (arith, page_zero P)
  low true = omega (arith, page_zero P)

  moved : (d : List ℕ) (n x y : ℕ) → y ≡ page_at P k + x → x + n ≤ P + 12 → ((i : ℕ) → i < P + 12 → view d i ≡ view c (page_at P k + i)) → bytes_at (view d) x n ≡ bytes_at (view c) y n
  moved d n x y is fits same = ext_get_or 0 (bytes_at (view d) x n) (bytes_at (view c) y n) (length-bytes_at (view d) n x ∙ sym (length-bytes_at (view c) n y))
      (λ i lt. let inside : i < n = omega (arith, lt, length-bytes_at (view d) n x) in
      get_or-bytes_at (view d) n x i inside ∙ same (x + i) (omega (arith, inside, fits)) ∙ (let e : page_at P k + (x + i) ≡ y + i = omega (arith, is) in ap (view c) e) ∙ sym (get_or-bytes_at (view c) n y i inside))

  move_list : (d : List ℕ) (b : Bool) → ((i : ℕ) → i < P + 12 → view d i ≡ view c (page_at P k + i)) → bytes_at (view d) (slot_at P 0 b) 2 ≡ bytes_at (view c) (slot_at P k b) 2
  move_list d b same = moved d 2 (slot_at P 0 b) (slot_at P k b) (offset b) (omega (arith, low b)) same

  pub part_slot : page_at P k + (P + 12) < 2 ^ 64 → (b : Bool) → slot_length seal P (page_of P c k) 0 b ≡ slot_length seal P c k b
  part_slot room b = elim (cases_lt (length c) (slot_at P k b + 6)) [
    | inl short ↦ slot_short seal P (page_of P c k) 0 b (omega (arith, short, part_length, offset b, low b)) ∙ sym (slot_short seal P c k b short)
    | inr stands ↦ matching_same (page_of P c k) (omega (arith, stands, part_length, offset b, low b)) stands part_view
  ]
    where
      matching_same : (d : List ℕ) → slot_at P 0 b + 6 ≤ length d → slot_at P k b + 6 ≤ length c → ((i : ℕ) → i < P + 12 → view d i ≡ view c (page_at P k + i)) → slot_length seal P d 0 b ≡ slot_length seal P c k b
      matching_same d in_d in_c same =
          let two : bytes_at (view d) (slot_at P 0 b) 2 ≡ bytes_at (view c) (slot_at P k b) 2 = move_list d b same in
          let name : named_length (view d) (slot_at P 0 b) ≡ named_length (view c) (slot_at P k b) = ap (from_be_bytes w16) two in
          elim (cases_lt P (named_length (view c) (slot_at P k b))) [
            | inl long ↦ slot_long seal P d 0 b (omega (arith, long, name)) ∙ sym (slot_long seal P c k b long)
            | inr fits ↦ by_seal two name fits (cases_eq (computed_seal seal P (view c) (page_at P k) (slot_at P k b) (named_length (view c) (slot_at P k b))) (named_seal (view c) (slot_at P k b)))
          ]
        where
          four : bytes_at (view d) (slot_at P 0 b + 2) 4 ≡ bytes_at (view c) (slot_at P k b + 2) 4
          four = moved d 4 (slot_at P 0 b + 2) (slot_at P k b + 2) (omega (arith, offset b)) (omega (arith, low b)) same

          seals : named_seal (view d) (slot_at P 0 b) ≡ named_seal (view c) (slot_at P k b)
          seals = ap (from_be_bytes w32) four

          by_seal : bytes_at (view d) (slot_at P 0 b) 2 ≡ bytes_at (view c) (slot_at P k b) 2 → named_length (view d) (slot_at P 0 b) ≡ named_length (view c) (slot_at P k b) → named_length (view c) (slot_at P k b) ≤ P
              → (computed_seal seal P (view c) (page_at P k) (slot_at P k b) (named_length (view c) (slot_at P k b)) ≡ named_seal (view c) (slot_at P k b)) ⊎ (computed_seal seal P (view c) (page_at P k) (slot_at P k b) (named_length (view c) (slot_at P k b)) ≢ named_seal (view c) (slot_at P k b))
              → slot_length seal P d 0 b ≡ slot_length seal P c k b
          by_seal two name fits yes_no =
              let prefix : bytes_at (view d) (page_at P 0) (named_length (view d) (slot_at P 0 b)) ≡ bytes_at (view c) (page_at P k) (named_length (view c) (slot_at P k b))
              = ap (bytes_at (view d) (page_at P 0)) name ∙ moved d (named_length (view c) (slot_at P k b)) (page_at P 0) (page_at P k) (omega (arith, page_zero P)) (omega (arith, page_zero P, fits)) same in
              let made : computed_seal seal P (view d) (page_at P 0) (slot_at P 0 b) (named_length (view d) (slot_at P 0 b)) ≡ computed_seal seal P (view c) (page_at P k) (slot_at P k b) (named_length (view c) (slot_at P k b)) = λ t. seal (two t ++ prefix t) in
              elim yes_no [
                | inl holds ↦ slot_right seal P d 0 b in_d (omega (arith, room, page_zero P)) (omega (arith, name, fits)) (made ∙ holds ∙ sym seals) ∙ name ∙ sym (slot_right seal P c k b in_c room fits holds)
                | inr differ ↦ slot_wrong seal P d 0 b in_d (omega (arith, room, page_zero P)) (omega (arith, name, fits)) (λ e. differ (sym made ∙ e ∙ seals)) ∙ sym (slot_wrong seal P c k b in_c room fits differ)
              ]

-- a call that looks
pub unchanged_start : (t : Timeline) → Unchanged t t
unchanged_start t = always_start t (λ d. d ≡ disk t) refl

pub unchanged_on : {T : Type 0} {k : Key} {r : Result T DevError} (a b : Timeline) → Passes k Look r a b → Unchanged a b
unchanged_on {T = T} {k = k} {r = r} a b passes = always_on a a b (λ d. d ≡ disk a) k Look r (unchanged_start a) passes (put_self (disk a) k) (same r passes)
  where
    from_after : (s : Result T DevError) → (disk b k ≡ disk a k) → Passes k Look s a b → disk b ≡ disk a
    from_after s here p = let after = passes_after k Look s a b p in
        after.is ∙ ap (put (disk a) k) (sym (ap (λ (d : Disk). d k) after.is ∙ put_same (disk a) k after.blob) ∙ here) ∙ put_self (disk a) k

    same : (s : Result T DevError) → Passes k Look s a b → disk b ≡ disk a
    same (Ok v) p = from_after (Ok v) (ok_blob k Look v a b p) p
    same (Err e) p = from_after (Err e) (err_has {T = T} (λ x. x ≡ disk a k) k Look e a b p refl (λ new is. is)) p

pub unchanged_then : (a b c : Timeline) → Unchanged a b → Unchanged b c → Unchanged a c
unchanged_then a b c first second =
    let now : disk b ≡ disk a = always_then_now a b first in
    always_then a b c (λ d. d ≡ disk a) first (always_weaker b c (λ d. d ≡ disk b) (λ d. d ≡ disk a) (λ d is. is ∙ now) second)
  where
    always_then_now : (x y : Timeline) → Unchanged x y → disk y ≡ disk x
    always_then_now x y always = always.each (2 * y.calls) (omega (arith, always.later)) (omega arith)

pub unchanged_now : (a b : Timeline) → Unchanged a b → disk b ≡ disk a
unchanged_now a b always = always.each (2 * b.calls) (omega (arith, always.later)) (omega arith)

-- how long the content of an opened blob is
pub content_length : (o : OpenedList) (k : Key) (n : ℕ) (there : Type 0) (c : List ℕ) → IfSome (o k) (λ x. there × (length c ≡ x.len)) → IsOpenAt o k n → length c ≡ n
content_length o k n there c stands is = go (o k) stands is
  where
    go : (e : Option Opened) → IfSome e (λ x. there × (length c ≡ x.len)) → IsSomeAnd e (λ x. x.len ≡ n) → length c ≡ n
    go None stands is = absurd is
    go (Some x) stands is = stands.1 ∙ is

pub page_length_is : (seal : List ℕ → ℕ) (P : ℕ) (c : List ℕ) (k : ℕ) → page_length seal P c k ≡ max (slot_length seal P c k false) (slot_length seal P c k true)
unfolding page_length
page_length_is seal P c k = refl

pub size_found : (seal : List ℕ → ℕ) (P : ℕ) (c : List ℕ) (k : ℕ) → 1 ≤ page_length seal P c k → size_below seal P c (suc k) ≡ k * P + page_length seal P c k
unfolding size_below
size_found seal P c k some = let differ : page_length seal P c k ≢ 0 = λ e. omega (arith, e, some) in
    ap (λ (t : Bool). cond t (size_below seal P c k) (k * P + page_length seal P c k)) (ne_eqb (page_length seal P c k) 0 differ)

pub size_none : (seal : List ℕ → ℕ) (P : ℕ) (c : List ℕ) (k : ℕ) → page_length seal P c k ≡ 0 → size_below seal P c (suc k) ≡ size_below seal P c k
unfolding size_below
size_none seal P c k none = ap (λ (t : Bool). cond t (size_below seal P c k) (k * P + page_length seal P c k)) (eq-eqb (page_length seal P c k) 0 none)

pub size_zero : (seal : List ℕ → ℕ) (P : ℕ) (c : List ℕ) → size_below seal P c 0 ≡ 0
unfolding size_below
size_zero seal P c = refl

-- a page without its places has no matching slot
pub no_places : (seal : List ℕ → ℕ) (P : ℕ) (c : List ℕ) (k : ℕ) → 2 ^ 64 ≤ page_at P k + (P + 12) → page_length seal P c k ≡ 0
no_places seal P c k past = omega (arith, page_length_is seal P c k, none false, none true)
  where
    none : (b : Bool) → slot_length seal P c k b ≡ 0
    none b = elim (cases_lt 0 (slot_length seal P c k b)) [
      | inl some ↦ absurd (omega (arith, past, slot_room seal P c k b some))
      | inr nothing ↦ omega (arith, nothing)
    ]

-- a page with a matching slot has its places
pub page_places : (seal : List ℕ → ℕ) (P : ℕ) (c : List ℕ) (k : ℕ) → 1 ≤ page_length seal P c k → page_at P k + (P + 12) < 2 ^ 64
page_places seal P c k some = elim (cases_lt (page_at P k + (P + 12)) (2 ^ 64)) [
  | inl room ↦ room
  | inr past ↦ absurd (omega (arith, some, no_places seal P c k past))
]
