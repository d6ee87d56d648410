-- How a buffer starts over an adopted blob.
use Rattle.std.proofs.Common.{◌≡◌, ◌≢◌, ◌⊎◌, inl, inr, ℕ, ◌+◌, ◌-◌, ◌*◌, ◌/◌, ◌^◌, ◌<◌, ◌≤◌, not, ltb, max, Bool, true, false, cond, List, length, get_or, take, length-take, Option, Some, None, refl, sym, ◌∙◌, ap, subst, arith}
use Rattle.std.specs.Prelude.{IfSome}
use Rattle.std.proofs.lemmas.Bool.{cases_lt, cases_order, ltb-true, ltb-false}
use Rattle.blob_device.specs.Disk.{settled_at}
use Rattle.sealed_pages.specs.Buffer.{extent, Buffer, bytes_of, pages_of, Adopted, HasFlushed}
use Rattle.sealed_pages.specs.Flushing.{Data, Covers, Below, KeptContent, IsClean}
use Rattle.sealed_pages.specs.Found.{Finds}
use Rattle.sealed_pages.specs.Reading.{page_of}
use Rattle.sealed_pages.specs.SealedPrefix.{sealed_prefix, adopted_size, place, data_from}
use Rattle.sealed_pages.specs.Slots.{slot_length, page_length, best_slot}
use Rattle.sealed_pages.specs.Starts.{Starts, StartsOver}
use Rattle.sealed_pages.specs.View.{view, page_at, slot_at}
use Rattle.sealed_pages.specs.declared.reading.LastPage.{LastPage}
use Rattle.sealed_pages.specs.lemmas.adopted.Adopt.{best_covers, length-data_from, own_data}
use Rattle.sealed_pages.specs.lemmas.adopted.Adopting.{pages_none, pages_some}
use Rattle.sealed_pages.specs.lemmas.adopted.Repairing.{adopted_below, page_order}
use Rattle.sealed_pages.specs.lemmas.looking.Looking.{page_length_is, page_zero, part_view}
use Rattle.sealed_pages.specs.lemmas.memory.Holding.{extent_more}
use Rattle.sealed_pages.specs.lemmas.slots.Slot.{slot_length-le}
use Rattle.std.proofs.lemmas.List.{get_or_append_left, get_or-append_right, get_or-take}
use Rattle.sealed_pages.proofs.adopted.Adopting.{pages_reach}
use Rattle.std.proofs.Math.Nat.{div-lt_iff_lt-mul}
use Rattle.sealed_pages.proofs.looking.Looking.{blank_named, page_reaches}
use Rattle.blob_device.proofs.general.Numbers.{times_more, times_next}

module _ (seal : List ℕ → ℕ) (P : ℕ) (c : List ℕ) (page a b : ℕ) (first : a ≡ slot_length seal P c page false) (second : b ≡ slot_length seal P c page true) (some : 1 ≤ page_length seal P c page) where
  length_is : page_length seal P c page ≡ max a b
  length_is = omega (arith, page_length_is seal P c page, first, second)

  module _ (place end : ℕ) (at : place ≡ page_at P (page + 1)) (long : length c ≡ end) where
    longer : ltb place end ≡ true → page_at P (page + 1) ≤ length c
    longer e = omega (arith, ltb-true place end e, at, long)

    shorter : ltb place end ≡ false → length c ≤ page_at P (page + 1)
    shorter e = omega (arith, ltb-false place end e, at, long)

    pub starts_full : 1 ≤ P → max a b ≡ P → Starts seal P c page (page + 1) 0 (ltb a b) (ltb place end) false
    starts_full pos full = record {
      size = omega (arith, length_is, full, times_next page P);
      begun = pos;
      pages = pages_none (page + 1) 0 refl;
      within = λ none. absurd (omega (arith, none));
      newest_is = λ t. ltb (first t) (second t);
      longer = longer;
      shorter = shorter;
      inside = λ e. absurd (cc e);
      clean = λ e none. absurd (omega (arith, none));
    }

    other_is : (newest : Bool) → cond newest a b ≡ slot_length seal P c page (not newest)
    other_is true = first
    other_is false = second

    pub starts_part : (len : ℕ) (torn : Bool) → len ≡ max a b → len ≢ P → (torn ≡ false → (1 ≤ cond (ltb a b) a b) ⊎ ((i : ℕ) → i < 6 → get_or (page_of P c page) (slot_at P 0 (not (ltb a b)) + i) 0 ≡ 0)) → Starts seal P c page page len (ltb a b) (ltb place end) torn
    starts_part len torn is short clean = record {
      size = omega (arith, is, length_is);
      begun = omega (arith, is, short, first, second, slot_length-le seal P c page false, slot_length-le seal P c page true);
      pages = pages_some page len (omega (arith, is, length_is, some));
      within = λ more. refl;
      newest_is = λ t. ltb (first t) (second t);
      longer = longer;
      shorter = shorter;
      inside = λ e. omega (arith, is, length_is, some);
      clean = λ e more. go (clean e);
    }
      where
        go : (1 ≤ cond (ltb a b) a b) ⊎ ((i : ℕ) → i < 6 → get_or (page_of P c page) (slot_at P 0 (not (ltb a b)) + i) 0 ≡ 0) → IsClean seal P c page (not (ltb a b))
        go (inl match) = inl (omega (arith, match, other_is (ltb a b)))
        go (inr zeros) = inr (blank_named seal P c page (not (ltb a b)) zeros)

-- what the buffer has of the last page
pub backed_of : (u : Buffer) (c : List ℕ) → u.from < u.page_size → length u.tip ≡ u.from → ((i : ℕ) → i < u.from → get_or u.tip i 0 ≡ view c (page_at u.page_size u.first + i)) → HasFlushed u c
backed_of u c begun long tip k i lt below = elim (cases_lt (k * u.page_size + i) (u.first * u.page_size)) [
  | inl prefix ↦ own_data u.page_size (u.first * u.page_size) (view c) k i lt prefix
      ∙ sym (get_or_append_left (data_from u.page_size (view c) 0 (u.first * u.page_size)) u.tip 0 (k * u.page_size + i) (omega (arith, prefix, len)))
  | inr past ↦ in_tip past (cases_order k u.first)
]
  where
    wide : u.from ≤ u.page_size
    wide = omega (arith, begun)

    len : length (data_from u.page_size (view c) 0 (u.first * u.page_size)) ≡ u.first * u.page_size
    len = length-data_from u.page_size (view c) (u.first * u.page_size) 0

    in_page : k ≡ u.first → view c (page_at u.page_size k + i) ≡ get_or (bytes_of u c) (k * u.page_size + i) 0
    in_page is =
        let near : i < u.from = omega (arith, below, ap (λ (m : ℕ). m * u.page_size) is) in
        let off : k * u.page_size + i - u.first * u.page_size ≡ i = omega (arith, ap (λ (m : ℕ). m * u.page_size) is) in
        ap (λ (m : ℕ). view c (page_at u.page_size m + i)) is ∙ sym (tip i near) ∙ sym (ap (λ (x : ℕ). get_or u.tip x 0) off)
        ∙ sym (get_or-append_right (data_from u.page_size (view c) 0 (u.first * u.page_size)) u.tip (u.first * u.page_size) (k * u.page_size + i) 0 len (omega (arith, ap (λ (m : ℕ). m * u.page_size) is)))

    in_tip : u.first * u.page_size ≤ k * u.page_size + i → (k ≡ u.first) ⊎ ((k < u.first) ⊎ (u.first < k)) → view c (page_at u.page_size k + i) ≡ get_or (bytes_of u c) (k * u.page_size + i) 0
    in_tip past (inl is) = in_page is
    in_tip past (inr (inl less)) = absurd (omega (arith, past, lt, times_more k u.first u.page_size less))
    in_tip past (inr (inr more)) = absurd (omega (arith, below, wide, times_more u.first k u.page_size more))

-- the state of an adopted blob whose sealed prefix is its size
module _ (seal : List ℕ → ℕ) (P : ℕ) (c : List ℕ) (pos : 1 ≤ P) (all : List ℕ) (first from : ℕ) (newest behind torn : Bool) (begun : from < P) (size : adopted_size seal P c ≡ first * P + from)
    (sealed : length (sealed_prefix seal P c) ≡ adopted_size seal P c) (fits : first * P + from ≤ length all) (same : Data P all (first * P + from) (view c)) where
  content_kept : KeptContent seal P all (first * P + from) (best_slot seal P c) c
  content_kept = record {
    fits = fits;
    below = subst (λ (n : ℕ). Below seal P n c) size (adopted_below seal P c);
    same = same;
    covers = subst (λ (n : ℕ). Covers seal P c n (best_slot seal P c)) (sealed ∙ size) (best_covers seal P c);
  }

  pub adopted_some : (page : ℕ) → Starts seal P c page first from newest behind torn → Adopted seal P all first from newest behind torn (settled_at c)
  adopted_some page s = record {
    σ = best_slot seal P c;
    is = refl;
    content = content_kept;
    head = λ some. ap (best_slot seal P c) (s.within some) ∙ sym s.newest_is;
    longer = λ e. omega (arith, s.longer e, ap (page_at P) s.pages);
    shorter = λ e. omega (arith, s.shorter e, ap (page_at P) s.pages);
    inside = s.inside;
    clean = λ e some. subst (λ (k : ℕ). IsClean seal P c k (not newest)) (sym (s.within some)) (s.clean e some);
  }

  pub adopted_none : first ≡ 0 → from ≡ 0 → torn ≡ false → (behind ≡ false → length c ≡ 0) → Adopted seal P all first from newest behind torn (settled_at c)
  adopted_none zero_first zero_from whole empty =
      let at : page_at P (pages_of first from) ≡ 0 = ap (page_at P) (pages_none first from zero_from ∙ zero_first) ∙ page_zero P in
      record {
        σ = best_slot seal P c;
        is = refl;
        content = content_kept;
        head = λ some. absurd (omega (arith, some, zero_from));
        longer = λ e. omega (arith, at);
        shorter = λ e. omega (arith, at, empty e);
        inside = λ e. absurd (cc (e, whole));
        clean = λ e some. absurd (omega (arith, some, zero_from));
      }

module _ (seal : List ℕ → ℕ) (P : ℕ) (c : List ℕ) (found : Option LastPage) (buf : List ℕ) (first from : ℕ) (newest behind torn : Bool) where
  pub size_is : Finds seal P c found buf → StartsOver seal P c found first from newest behind torn → adopted_size seal P c ≡ first * P + from
  size_is = go found
    where
      go : (r : Option LastPage) → Finds seal P c r buf → StartsOver seal P c r first from newest behind torn → adopted_size seal P c ≡ first * P + from
      go None finds s = omega (arith, finds, ap (λ (m : ℕ). m * P) s.0, s.1)
      go (Some p) finds s = finds.0 ∙ sym s.size

  pub adopted_is : 1 ≤ P → (all : List ℕ) → from < P → Finds seal P c found buf → StartsOver seal P c found first from newest behind torn → length (sealed_prefix seal P c) ≡ adopted_size seal P c → first * P + from ≤ length all → Data P all (first * P + from) (view c)
      → Adopted seal P all first from newest behind torn (settled_at c)
  adopted_is pos all begun finds s sealed fits same = go found (size_is finds s) s
    where
      go : (r : Option LastPage) → adopted_size seal P c ≡ first * P + from → StartsOver seal P c r first from newest behind torn → Adopted seal P all first from newest behind torn (settled_at c)
      go None size s = adopted_none seal P c pos all first from newest behind torn begun size sealed fits same s.0 s.1 s.2 s.3
      go (Some p) size s = adopted_some seal P c pos all first from newest behind torn begun size sealed fits same p.page s

  -- the bytes of the tip, which are a prefix of that page
  pub tip_is : Finds seal P c found buf → StartsOver seal P c found first from newest behind torn → (i : ℕ) → i < from → get_or (take from buf) i 0 ≡ view c (page_at P first + i)
  tip_is finds s i lt = get_or-take from buf i 0 lt ∙ go found finds s
    where
      here : (p : LastPage) → Finds seal P c (Some p) buf → Starts seal P c p.page first from newest behind torn → get_or buf i 0 ≡ view c (page_at P first + i)
      here p finds s =
          let have = page_reaches seal P c p.page finds.1 in
          let some : 0 < from = omega (arith, lt) in
          let inside : i < p.have = omega (arith, lt, s.begun, have, ap length finds.4, length-take p.have buf) in
          sym (get_or-take p.have buf i 0 inside) ∙ ap (λ (l : List ℕ). get_or l i 0) finds.4 ∙ part_view seal P c p.page i (omega (arith, lt, s.begun))
          ∙ ap (λ (m : ℕ). view c (page_at P m + i)) (sym (s.within some))

      go : (r : Option LastPage) → Finds seal P c r buf → StartsOver seal P c r first from newest behind torn → get_or buf i 0 ≡ view c (page_at P first + i)
      go None finds s = absurd (omega (arith, lt, s.1))
      go (Some p) finds s = here p finds s

-- the slot that adopting finds covers what is in the tip
pub starts_tip : (seal : List ℕ → ℕ) (P : ℕ) (c : List ℕ) (found : Option LastPage) (first from : ℕ) (newest behind torn : Bool) → StartsOver seal P c found first from newest behind torn → from ≤ page_length seal P c first
starts_tip seal P c None first from newest behind torn over = omega (arith, over.1)
starts_tip seal P c (Some p) first from newest behind torn over = elim (cases_lt 0 from) [
  | inl some ↦ (let is = over.within some in omega (arith, over.size, ap (λ (k : ℕ). k * P) is, ap (page_length seal P c) is))
  | inr none ↦ omega (arith, none)
]

pub extent_pages : (P first from : ℕ) → from < P → extent P (first * P + from) ≤ page_at P (pages_of first from)
extent_pages P first from begun =
    let reach = pages_reach P first from begun in
    let next = times_next (pages_of first from) P in
    let below : first * P + from + (P - 1) < (pages_of first from + 1) * P = omega (arith, reach, next, begun) in
    let pos : 0 < P = omega (arith, begun) in
    let few : (first * P + from + (P - 1)) / P < pages_of first from + 1 = (div-lt_iff_lt-mul {k = P} {x = first * P + from + (P - 1)} {y = pages_of first from + 1} pos).1 below in
    page_order (λ x. 0) P ((first * P + from + (P - 1)) / P) (pages_of first from) (omega (arith, few))

pub start_fits : (P first from : ℕ) → from < P → page_at P (pages_of first from) < 2 ^ 64 → first * P + from < 2 ^ 64
start_fits P first from begun place = omega (arith, extent_more P (first * P + from) (omega (arith, begun)), extent_pages P first from begun, place)

-- the bytes of the page that was found, also by another name
pub found_page : (seal : List ℕ → ℕ) (P : ℕ) (c : List ℕ) (found : Option LastPage) (buf bytes : List ℕ) → bytes ≡ buf → Finds seal P c found buf → IfSome found (λ p. take p.have bytes ≡ page_of P c p.page)
found_page seal P c None buf bytes same finds = tt
found_page seal P c (Some p) buf bytes same finds = ap (take p.have) same ∙ finds.4
