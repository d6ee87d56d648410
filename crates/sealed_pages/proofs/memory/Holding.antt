-- What a buffer holds, after a flush and after an append.
use Rattle.std.proofs.Common.{◌≡◌, inl, inr, ℕ, ◌+◌, ◌-◌, ◌*◌, ◌/◌, ◌^◌, ◌<◌, ◌≤◌, ◌||◌, Result, Bool, false, List, ◌++◌, length, get_or, take, drop, refl, sym, ◌∙◌, ap, subst, arith, length-append, length-drop}
use Rattle.std.proofs.lemmas.Nat.{le-div}
use Rattle.std.proofs.lemmas.List.{get_or_append_left, get_or-append_right, ext_get_or}
use Rattle.std.proofs.lemmas.Bool.{cases_Bool, cases_lt}
use Rattle.blob_device.specs.declared.error.DevError.{DevError}
use Rattle.blob_device.specs.Timeline.{Timeline, Passes}
use Rattle.blob_device.specs.Change.{Settle}
use Rattle.blob_device.specs.Disk.{Blob}
use Rattle.sealed_pages.proofs.slots.SlotLemmas.{index_page}
use Rattle.sealed_pages.specs.lemmas.adopted.Adopt.{get_or-data_from, length-data_from, place_in}
use Rattle.sealed_pages.specs.lemmas.adopted.Repairing.{page_order}
use Rattle.sealed_pages.specs.lemmas.slots.PageCalls.{data_more, ready_more}
use Rattle.sealed_pages.specs.lemmas.slots.Slot.{page_next}
use Rattle.sealed_pages.proofs.slots.PageCalls.{part_stands, rest_whole}
use Rattle.sealed_pages.specs.Buffer.{Fit, Buffer, size_of, flushed_of, bytes_of, State, Holds}
use Rattle.sealed_pages.specs.Flushing.{Data, Ready}
use Rattle.sealed_pages.specs.SealedPrefix.{place, data_from}
use Rattle.sealed_pages.specs.View.{View, view, page_at, StandsAt}
use Rattle.blob_device.proofs.general.Numbers.{div_place, times_next, times_sum}

-- all pages fit their places
pub fit_room : (P first from : ℕ) (tip : List ℕ) → Fit P first from tip → (k : ℕ) → k * P < first * P + length tip → page_at P k + (P + 12) < 2 ^ 64
fit_room P first from tip fit k lt =
    let n : ℕ = first * P + length tip in
    let pos : 0 < P = omega (arith, fit.begun) in
    let next : (k + 1) * P ≤ first * P + length tip + (P - 1) = omega (arith, lt, pos, times_next k P) in
    let le : k + 1 ≤ (first * P + length tip + (P - 1)) / P = le-div (k + 1) (first * P + length tip + (P - 1)) P pos next in
    omega (arith, fit.room, page_next P k, page_order (λ x. 0) P (k + 1) ((first * P + length tip + (P - 1)) / P) le)

-- full pages at the start of the tip are let go
pub state_clean : (seal : List ℕ → ℕ) (P : ℕ) (all : List ℕ) (first from L : ℕ) (newest : Bool) (b : Blob) → Ready seal P all (first * P + from) L newest b → State seal P all first from L newest false false b
state_clean seal P all first from L newest b ready = record { ready = λ e. ready; adopted = λ e. absurd (cc e) }

pub rest_far : (P first q : ℕ) (tip rest : List ℕ) → q * P ≤ length tip → rest ≡ drop (q * P) tip → first * P + length tip ≡ (first + q) * P + length rest
rest_far P first q tip rest fits is = omega (arith, ap length is, length-drop (q * P) tip, fits, times_sum first q P)

pub rest_stands : (P first q : ℕ) (tip rest all : List ℕ) → q * P ≤ length tip → rest ≡ drop (q * P) tip → StandsAt all (first * P) tip → StandsAt all ((first + q) * P) rest
rest_stands P first q tip rest all fits is at =
    let within : q * P + (length tip - q * P) ≤ length tip = omega (arith, fits) in
    let whole : take (length tip - q * P) (drop (q * P) tip) ≡ rest = rest_whole (q * P) tip ∙ sym is in
    subst (λ (l : List ℕ). StandsAt all ((first + q) * P) l) whole (part_stands all (first * P) (q * P) (length tip - q * P) ((first + q) * P) tip at within (times_sum first q P))

pub pages_fit : (P first from q : ℕ) (tip : List ℕ) → Fit P first from tip → first < 2 ^ 64 → q * P ≤ length tip → first + q < 2 ^ 64
pages_fit P first from q tip fit small fits = elim (cases_lt 0 q) [
  | inl some ↦ (let k_next : first + (q - 1) + 1 ≡ first + q = omega (arith, some) in
      let below : (first + (q - 1)) * P < first * P + length tip = omega (arith, fits, fit.begun, times_next (first + (q - 1)) P, ap (λ (m : ℕ). m * P) k_next, times_sum first q P) in
      omega (arith, some, index_page P (first + (q - 1)), fit_room P first from tip fit (first + (q - 1)) below))
  | inr none ↦ omega (arith, none, small)
]

-- bytes are added to the tip
pub stands_more : (all tip more : List ℕ) (at : ℕ) → StandsAt all at tip → length all ≡ at + length tip → StandsAt (all ++ more) at (tip ++ more)
stands_more all tip more at stands size = record {
  room = omega (arith, size, length-append all more, length-append tip more);
  same = λ i lt. elim (cases_lt i (length tip)) [
    | inl old ↦ get_or_append_left tip more 0 i old ∙ stands.same i old ∙ sym (get_or_append_left all more 0 (at + i) (omega (arith, old, size)))
    | inr new ↦ get_or-append_right tip more (length tip) i 0 refl new
        ∙ (let e : i - length tip ≡ at + i - length all = omega (arith, size, new) in ap (λ (j : ℕ). get_or more j 0) e)
        ∙ sym (get_or-append_right all more (length all) (at + i) 0 refl (omega (arith, size, new)))
  ];
}

pub holds_more : (seal : List ℕ → ℕ) (u v : Buffer) (all more : List ℕ) (b : Blob) → v ≡ record u { tip = u.tip ++ more } → Holds seal u all b → Holds seal v (all ++ more) b
holds_more seal u v all more b is holds = subst (λ (x : Buffer). Holds seal x (all ++ more) b) (sym is) (record {
  state = record {
    ready = λ e. ready_more seal u.page_size all more (flushed_of u) u.settled u.newest b (holds.state.ready e);
    adopted = λ e. (let a = holds.state.adopted e in (
      record {
        σ = a.0.σ;
        is = a.0.is;
        content = record {
          fits = omega (arith, a.0.content.fits, length-append all more);
          below = a.0.content.below;
          same = data_more seal u.page_size all more (flushed_of u) (view b.content) a.0.content.fits a.0.content.same;
          covers = a.0.content.covers;
        };
        head = a.0.head;
        longer = a.0.longer;
        shorter = a.0.shorter;
        inside = a.0.inside;
        clean = a.0.clean;
      },
      a.1,
    ));
  };
  tip_at = stands_more all u.tip more (u.first * u.page_size) holds.tip_at holds.size;
  size = omega (arith, holds.size, length-append all more, length-append u.tip more);
})

-- what is held is what the buffer means
pub holds_data : (seal : List ℕ → ℕ) (u : Buffer) (all : List ℕ) (b : Blob) → Holds seal u all b → Data u.page_size all (flushed_of u) (view b.content)
holds_data seal u all b holds = elim (cases_Bool (u.behind || u.torn)) [
  | inl left ↦ (holds.state.adopted left).0.content.same
  | inr clean ↦ (holds.state.ready clean).flushed.same
]

-- where the data below the tip are these bytes, and the tip is the end of them, they are what the buffer means
pub bytes_is : (u : Buffer) (all content : List ℕ) → 0 < u.page_size → Data u.page_size all (u.first * u.page_size) (view content) → StandsAt all (u.first * u.page_size) u.tip → length all ≡ size_of u → bytes_of u content ≡ all
bytes_is u all content pos same at size = ext_get_or 0 (bytes_of u content) all (omega (arith, long, size)) place_is
  where
    prefix : List ℕ
    prefix = data_from u.page_size (view content) 0 (u.first * u.page_size)

    len_prefix : length (data_from u.page_size (view content) 0 (u.first * u.page_size)) ≡ u.first * u.page_size
    len_prefix = length-data_from u.page_size (view content) (u.first * u.page_size) 0

    long : length (bytes_of u content) ≡ size_of u
    long = omega (arith, length-append (data_from u.page_size (view content) 0 (u.first * u.page_size)) u.tip, len_prefix)

    in_prefix : (i : ℕ) → i < u.first * u.page_size → get_or (bytes_of u content) i 0 ≡ get_or all i 0
    in_prefix i lt =
        let d = div_place u.page_size i pos in
        let is : i / u.page_size * u.page_size + (i - i / u.page_size * u.page_size) ≡ i = omega (arith, d.0) in
        let near : i - i / u.page_size * u.page_size < u.page_size = omega (arith, d.0, d.1) in
        get_or_append_left (data_from u.page_size (view content) 0 (u.first * u.page_size)) u.tip 0 i (omega (arith, lt, len_prefix))
        ∙ get_or-data_from u.page_size (view content) (u.first * u.page_size) 0 i lt
        ∙ (let e : 0 + i ≡ i / u.page_size * u.page_size + (i - i / u.page_size * u.page_size) = omega (arith, is) in ap (λ (x : ℕ). view content (place u.page_size x)) e)
        ∙ ap (view content) (place_in u.page_size (i / u.page_size) (i - i / u.page_size * u.page_size) near)
        ∙ same (i / u.page_size) (i - i / u.page_size * u.page_size) near (omega (arith, is, lt))
        ∙ ap (λ (x : ℕ). get_or all x 0) is

    in_tip : (i : ℕ) → u.first * u.page_size ≤ i → i < length (bytes_of u content) → get_or (bytes_of u content) i 0 ≡ get_or all i 0
    in_tip i past lt = get_or-append_right (data_from u.page_size (view content) 0 (u.first * u.page_size)) u.tip (u.first * u.page_size) i 0 len_prefix past
        ∙ at.same (i - u.first * u.page_size) (omega (arith, past, lt, long))
        ∙ (let e : u.first * u.page_size + (i - u.first * u.page_size) ≡ i = omega (arith, past) in ap (λ (x : ℕ). get_or all x 0) e)

    place_is : (i : ℕ) → i < length (bytes_of u content) → get_or (bytes_of u content) i 0 ≡ get_or all i 0
    place_is i lt = elim (cases_lt i (u.first * u.page_size)) [
      | inl below ↦ in_prefix i below
      | inr past ↦ in_tip i past lt
    ]

pub data_less : (P F G : ℕ) (all : List ℕ) (v : View) → G ≤ F → Data P all F v → Data P all G v
data_less P F G all v le same k i lt below = same k i lt (omega (arith, below, le))

pub holds_bytes : (seal : List ℕ → ℕ) (u : Buffer) (all : List ℕ) (b : Blob) → 0 < u.page_size → Holds seal u all b → bytes_of u b.content ≡ all
holds_bytes seal u all b pos holds = bytes_is u all b.content pos (data_less u.page_size (flushed_of u) (u.first * u.page_size) all (view b.content) (omega arith) (holds_data seal u all b holds)) holds.tip_at holds.size

pub holds_own : (seal : List ℕ → ℕ) (u : Buffer) (all : List ℕ) (b : Blob) → 0 < u.page_size → Holds seal u all b → Holds seal u (bytes_of u b.content) b
holds_own seal u all b pos holds = subst (λ (l : List ℕ). Holds seal u l b) (sym (holds_bytes seal u all b pos holds)) holds

-- the same by the weaker premise
pub tip_stands : (u : Buffer) (content : List ℕ) → StandsAt (bytes_of u content) (u.first * u.page_size) u.tip
tip_stands u content = record {
  room = omega (arith, length-append (data_from u.page_size (view content) 0 (u.first * u.page_size)) u.tip, len_prefix);
  same = λ i lt. sym (get_or-append_right (data_from u.page_size (view content) 0 (u.first * u.page_size)) u.tip (u.first * u.page_size) (u.first * u.page_size + i) 0 len_prefix (omega arith)
      ∙ (let e : u.first * u.page_size + i - u.first * u.page_size ≡ i = omega arith in ap (λ (x : ℕ). get_or u.tip x 0) e));
}
  where
    len_prefix : length (data_from u.page_size (view content) 0 (u.first * u.page_size)) ≡ u.first * u.page_size
    len_prefix = length-data_from u.page_size (view content) (u.first * u.page_size) 0

pub settle_as : {T : Type 0} (r : Result T DevError) (p q n m : List ℕ) (t0 t1 : Timeline) → p ≡ q → n ≡ m → Passes (p, n) Settle r t0 t1 → Passes (q, m) Settle r t0 t1
settle_as r p q n m t0 t1 e f passes = subst (λ (x : List ℕ). Passes (x, m) Settle r t0 t1) e (subst (λ (x : List ℕ). Passes (p, x) Settle r t0 t1) f passes)

-- the places of pages that begin below these first bytes of the tip, by another name of the page size
pub fit_places : (P first from : ℕ) (tip : List ℕ) → Fit P first from tip → (Q : ℕ) → Q ≡ P → (n : ℕ) → n ≤ length tip → (k : ℕ) → k * Q < first * Q + n → page_at Q k + (Q + 12) < 2 ^ 64
fit_places P first from tip fit Q is n le k lt = subst (λ (p : ℕ). k * p < first * p + n → page_at p k + (p + 12) < 2 ^ 64) (sym is) (λ below. fit_room P first from tip fit k (omega (arith, below, le))) lt
