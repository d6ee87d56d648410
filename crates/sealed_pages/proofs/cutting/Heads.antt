-- The bytes of a page that were read, and what its slots say of them.
use Rattle.std.proofs.Common.{◌≡◌, ℕ, ◌+◌, ◌-◌, ◌^◌, ◌<◌, ◌≤◌, ◌∙◌, min, max, ltb, true, false, List, length, take, drop, sym, ap, arith, length-drop}
use Rattle.std.specs.Prelude.{IfSome}
use Rattle.blob_device.specs.Disk.{Key}
use Rattle.blob_device.specs.Timeline.{disk}
use Rattle.blob_device.specs.declared.device.Device as device
use Rattle.sealed_pages.specs.Entries.{IsOpenAt}
use Rattle.sealed_pages.specs.Reading.{page_of}
use Rattle.sealed_pages.specs.Slots.{slot_length, page_length, best_slot}
use Rattle.sealed_pages.specs.View.{page_at}
use Rattle.sealed_pages.proofs.cutting.Cuts.{covered_inside}
use Rattle.sealed_pages.proofs.looking.Looking.{take_short}
use Rattle.sealed_pages.specs.lemmas.cutting.Cuts.{take_prefix}
use Rattle.sealed_pages.specs.lemmas.looking.Looking.{content_length, page_length_is, part_slot, slot_short}
use Rattle.sealed_pages.specs.lemmas.slots.Slot.{slot_length-le}
use Rattle.sealed_pages.specs.lemmas.slots.Steps.{slot_low}

-- an opened blob is as long as its entry says
pub end_is : {D : Type 0} (dev : device.Ghosts D) (blob : Key) (n : ℕ) (d : D) (there : Type 0) → IfSome (dev.opened d blob) (λ x. there × (length (disk (dev.time d) blob).content ≡ x.len)) → IsOpenAt (dev.opened d) blob n → length (disk (dev.time d) blob).content ≡ n
end_is dev blob n d there stands opened = content_length (dev.opened d) blob n there (disk (dev.time d) blob).content stands opened

-- they are the page's, and these are the lengths of its slots
pub record Looked (seal : List ℕ → ℕ) (P page : ℕ) (c buf : List ℕ) (a b : ℕ) : Type 0 where
  pub part : buf ≡ page_of P c page
  pub first : a ≡ slot_length seal P c page false
  pub second : b ≡ slot_length seal P c page true

-- bytes that a slot covers stand there
pub keep_inside : (seal : List ℕ → ℕ) (P : ℕ) (buf : List ℕ) (a b keep : ℕ) → a ≡ slot_length seal P buf 0 false → b ≡ slot_length seal P buf 0 true → keep ≤ max a b → keep ≤ length buf
keep_inside seal P buf a b keep a_is b_is le = omega (arith, le, covered_inside seal P buf false a a_is, covered_inside seal P buf true b b_is)

module _ (seal : List ℕ → ℕ) (P page : ℕ) (c : List ℕ) where
  -- a page that begins at the content's end has no slot
  pub none_there : length c ≤ page_at P page → page_length seal P c page ≡ 0
  none_there short =
      let first = slot_short seal P c page false (omega (arith, short, slot_low P page false)) in
      let second = slot_short seal P c page true (omega (arith, short, slot_low P page true)) in
      omega (arith, page_length_is seal P c page, first, second)

  pub looked : page_at P page + (P + 12) < 2 ^ 64 → (n place have a b : ℕ) (buf : List ℕ) → length c ≡ n → place ≡ page_at P page → have ≡ min (n - place) (P + 12) → buf ≡ take have (drop place c)
      → a ≡ slot_length seal P buf 0 false → b ≡ slot_length seal P buf 0 true → Looked seal P page c buf a b
  looked room n place have a b buf end at is read a_is b_is = record {
    part = part_is;
    first = a_is ∙ ap (λ (l : List ℕ). slot_length seal P l 0 false) part_is ∙ part_slot seal P c page room false;
    second = b_is ∙ ap (λ (l : List ℕ). slot_length seal P l 0 true) part_is ∙ part_slot seal P c page room true;
  }
    where
      part_is : buf ≡ page_of P c page
      part_is = read ∙ take_short have (P + 12) (drop place c) (omega (arith, is, end, length-drop place c)) ∙ ap (λ (m : ℕ). take (P + 12) (drop m c)) at

  module _ (buf : List ℕ) (a b keep : ℕ) (s : Looked seal P page c buf a b) where
    pub is_covered : keep ≤ max a b → keep ≤ page_length seal P c page
    is_covered le = omega (arith, page_length_is seal P c page, s.first, s.second, le)

    pub is_refused : max a b < keep → page_length seal P c page < keep
    is_refused lt = omega (arith, page_length_is seal P c page, s.first, s.second, lt)

    pub is_best : best_slot seal P c page ≡ ltb a b
    is_best i = ltb (sym s.first i) (sym s.second i)

    pub head_is : keep ≤ max a b → take keep buf ≡ take keep (drop (page_at P page) c)
    head_is le = ap (take keep) s.part ∙ take_prefix keep (P + 12) (drop (page_at P page) c) (omega (arith, s.first, s.second, le, slot_length-le seal P c page false, slot_length-le seal P c page true))
