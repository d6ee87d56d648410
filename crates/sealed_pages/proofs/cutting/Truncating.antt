-- A buffer that is cut: what it holds after, and what the call says of its moments.
use Rattle.std.proofs.Common.{eqb, ◌≡◌, ◌≢◌, ◌⊎◌, inl, inr, ℕ, ◌+◌, ◌-◌, ◌*◌, ◌/◌, ◌%◌, ◌^◌, ◌<◌, ◌≤◌, not, Bool, false, cond, List, [], length, get_or, take, drop, Result, Ok, Err, refl, sym, ◌∙◌, ap, subst, arith, length-take, IsErrAnd}
use Rattle.std.proofs.lemmas.Bool.{cases_eq, cases_lt, eq-eqb, ne_eqb}
use Rattle.std.proofs.lemmas.List.{get_or-take, get_or-drop}
use Rattle.blob_device.specs.Change.{written, resized}
use Rattle.blob_device.specs.Disk.{Key, Blob, Disk, settled_at}
use Rattle.blob_device.specs.Counts.{Rose}
use Rattle.blob_device.specs.Timeline.{Timeline, disk, OnlyAt}
use Rattle.blob_device.specs.lemmas.Moments.{always_weaker}
use Rattle.std.specs.Prelude.{IfOk, OnErr}
use Rattle.std.specs.Result.{IsErr}
use Rattle.blob_device.specs.Errors.{raised}
use Rattle.blob_device.specs.declared.error.DevError.{DevError}
use Rattle.blob_device.specs.declared.error.DevError.TheVariants as device
use Rattle.blob_device.specs.declared.runtime.RError.{RError}
use Rattle.blob_device.specs.declared.runtime.RError.TheVariants.{Fault, InvalidChecksum, Mem}
use Rattle.std.proofs.Math.Nat.{div-mul-le_self, mod-eq-sub-div-mul}
use Rattle.std.proofs.lemmas.Nat.{le-div}
use Rattle.sealed_pages.specs.ChanceSeal.{Leaves, Sealing}
use Rattle.sealed_pages.specs.Buffer.{extent, Buffer, size_of, flushed_of, bytes_of, Holds, HasFlushed}
use Rattle.sealed_pages.specs.Cutting.{StandsSettled, Settles, page_cut}
use Rattle.sealed_pages.specs.Flushing.{Alone, with_slot, next_slot, no_slot, Quiet, Data, Sound, Covers, Stands, Below, Ready}
use Rattle.sealed_pages.specs.Reading.{Unchanged}
use Rattle.sealed_pages.specs.SealedPrefix.{pages_in, sealed_prefix, adopted_size}
use Rattle.sealed_pages.specs.Slots.{slot_length, page_length, best_slot, slot_bytes}
use Rattle.sealed_pages.specs.View.{View, view, page_at, slot_at, StandsAt}
use Rattle.sealed_pages.specs.lemmas.Had.{had_rest}
use Rattle.sealed_pages.specs.lemmas.Reaching.{prefix_sound, rest_leaves, size_at_most}
use Rattle.sealed_pages.specs.lemmas.adopted.Adopt.{best_covers, best_length}
use Rattle.sealed_pages.specs.lemmas.adopted.Adopting.{end_page}
use Rattle.sealed_pages.specs.lemmas.adopted.Repairing.{page_order}
use Rattle.sealed_pages.specs.lemmas.cutting.Calls.{sealing_less}
use Rattle.sealed_pages.specs.lemmas.cutting.Cuts.{below_start, best_is, cut_at_most, cut_prefix, cut_quiet, take_prefix, with_own, zeros_below, zeros_covers, zeros_prefix, zeros_quiet}
use Rattle.sealed_pages.specs.lemmas.cutting.Steps.{other_not}
use Rattle.sealed_pages.specs.lemmas.looking.Looking.{unchanged_now}
use Rattle.sealed_pages.specs.lemmas.memory.Holding.{holds_leaves}
use Rattle.sealed_pages.specs.lemmas.slots.PageCalls.{alone_then}
use Rattle.sealed_pages.specs.lemmas.slots.SealedBytes.{SoundTo, page_length-le}
use Rattle.sealed_pages.specs.lemmas.slots.Slot.{page_apart, slot_stands}
use Rattle.sealed_pages.specs.lemmas.slots.SlotSteps.{length-slot_bytes, settled_stands, slot_data_kept}
use Rattle.sealed_pages.specs.lemmas.slots.Steps.{slot_low}
use Rattle.sealed_pages.proofs.cutting.Calls.{sealing_then}
use Rattle.sealed_pages.proofs.cutting.Steps.{last2, own2, prefix2, inside2}
use Rattle.sealed_pages.proofs.memory.Holding.{bytes_is, data_less}
use Rattle.sealed_pages.proofs.adopted.Keeping.{data_cut}
use Rattle.blob_device.proofs.general.Numbers.{times_more, times_next}
use Rattle.sealed_pages.specs.lemmas.cutting.Truncating.{all_flushed, settles_of}

-- a page that an adopted blob has stands below its end
module _ (seal : List ℕ → ℕ) (P : ℕ) where
  -- bytes that each matching place has, and no slot beyond them
  sound_all : (all c : List ℕ) (F : ℕ) → F ≡ length all → SoundTo seal P all c → Below seal P F c → Sound seal P all c
  sound_all all c F is sound below = record {
    within = λ k b some. omega (arith, is, below k b some);
    same = λ k b i lt. sound.same k b i (omega (arith, is, lt, below k b (omega (arith, lt)))) lt;
  }

  data_all : (all c : List ℕ) (F : ℕ) (σ : ℕ → Bool) → Sound seal P all c → Covers seal P c F σ → Data P all F (view c)
  data_all all c F σ sound covers k i lt below = sound.same k (σ k) i (omega (arith, lt, below, covers k (omega (arith, below))))

  -- where the blob has settled with these bytes, nothing else comes to match
  pub rest_ready : (all : List ℕ) (F : ℕ) (σ : ℕ → Bool) (newest : Bool) (b : Blob) → 1 ≤ P → F ≡ length all → StandsSettled b → SoundTo seal P all b.content → Below seal P F b.content → Covers seal P b.content F σ → Quiet P F (view b.content)
      → ((k : ℕ) → k * P < F → F < k * P + P → σ k ≡ newest) → Ready seal P all F F newest b
  rest_ready all F σ newest b pos is rest sound below covers quiet head = record {
    w = b.content;
    σ = σ;
    τ = σ;
    stands = subst (Stands seal P all b.content F σ) (sym rest) (settled_stands seal P all F σ b.content pos covers (sound_all all b.content F is sound below));
    settled = covers;
    flushed = record { fits = omega (arith, is); quiet = quiet; same = data_all all b.content F σ (sound_all all b.content F is sound below) covers; covers = covers };
    order = omega arith;
    last = head;
    head = λ k low high. head k low high ∙ sym (ap (λ (t : Bool). cond t newest (next_slot P F newest k)) (eq-eqb F F refl));
    rest = λ e. rest;
    had = had_rest b rest;
  }

  -- the content cut where page j begins
  pub at_ready : (b : Blob) (c : List ℕ) (j : ℕ) (newest : Bool) → 1 ≤ P → b ≡ settled_at (take (page_at P j) c) → j * P ≤ length (sealed_prefix seal P c) → Ready seal P (take (j * P) (sealed_prefix seal P c)) (j * P) (j * P) newest b
  at_ready b c j newest pos is le = subst (Ready seal P (take (j * P) (sealed_prefix seal P c)) (j * P) (j * P) newest) (sym is)
      (rest_ready (take (j * P) (sealed_prefix seal P c)) (j * P) (best_slot seal P (take (page_at P j) c)) newest (settled_at (take (page_at P j) c)) pos length_is refl
      (subst (λ (l : List ℕ). SoundTo seal P l (take (page_at P j) c)) (cut_prefix seal P c j pos) (prefix_sound seal P (take (page_at P j) c)))
      (cut_at_most seal P c j)
      (subst (λ (n : ℕ). Covers seal P (take (page_at P j) c) n (best_slot seal P (take (page_at P j) c))) (ap length (cut_prefix seal P c j pos) ∙ sym length_is) (best_covers seal P (take (page_at P j) c)))
      (cut_quiet seal P c j)
      (λ k low high. absurd (omega (arith, high, times_more k j P (below_start P j k low)))))
    where
      length_is : j * P ≡ length (take (j * P) (sealed_prefix seal P c))
      length_is = omega (arith, length-take (j * P) (sealed_prefix seal P c), le)

  -- the content cut inside page j
  module _ (pos : 1 ≤ P) (c0 : List ℕ) (j : ℕ) (old : Bool) (page : List ℕ) (fits : (x : List ℕ) → seal x < 2 ^ 32) (small : P < 2 ^ 16) (some : 0 < length page) (short : length page < P) (own : best_slot seal P c0 j ≡ old)
      (covered : length page ≤ page_length seal P c0 j) (page_is : page ≡ take (length page) (drop (page_at P j) c0)) (inside : j * P + length page ≤ length (sealed_prefix seal P c0)) where
    c1 : List ℕ
    c1 = take (page_at P (j + 1)) c0

    c2 : List ℕ
    c2 = written (take (page_at P (j + 1)) c0) (slot_at P j (not old)) (slot_bytes seal P page)

    last_2 : length (written (take (page_at P (j + 1)) c0) (slot_at P j (not old)) (slot_bytes seal P page)) ≤ page_at P (j + 1)
    last_2 = last2 seal P pos c0 j old page fits small some short own covered page_is inside (take (page_at P (j + 1)) c0) refl (written (take (page_at P (j + 1)) c0) (slot_at P j (not old)) (slot_bytes seal P page)) refl

    own_2 : slot_length seal P (written (take (page_at P (j + 1)) c0) (slot_at P j (not old)) (slot_bytes seal P page)) j (not old) ≡ length page
    own_2 = own2 seal P pos c0 j old page fits small some short own covered page_is inside (take (page_at P (j + 1)) c0) refl (written (take (page_at P (j + 1)) c0) (slot_at P j (not old)) (slot_bytes seal P page)) refl

    inside_2 : j * P + length page ≤ length (sealed_prefix seal P (written (take (page_at P (j + 1)) c0) (slot_at P j (not old)) (slot_bytes seal P page)))
    inside_2 = inside2 seal P pos c0 j old page fits small some short own covered page_is inside (take (page_at P (j + 1)) c0) refl (written (take (page_at P (j + 1)) c0) (slot_at P j (not old)) (slot_bytes seal P page)) refl

    not_old : not old ≢ old
    not_old e = other_not old (sym e)

    pub page_cut_prefix : sealed_prefix seal P (page_cut seal P c0 j old page) ≡ take (j * P + length page) (sealed_prefix seal P c0)
    page_cut_prefix = zeros_prefix seal P (written (take (page_at P (j + 1)) c0) (slot_at P j (not old)) (slot_bytes seal P page)) j (length page) (not old) old pos some own_2 not_old last_2 inside_2
        ∙ ap (take (j * P + length page)) (prefix2 seal P pos c0 j old page fits small some short own covered page_is inside (take (page_at P (j + 1)) c0) refl (written (take (page_at P (j + 1)) c0) (slot_at P j (not old)) (slot_bytes seal P page)) refl)
        ∙ take_prefix (j * P + length page) ((j + 1) * P) (sealed_prefix seal P c0) (omega (arith, short, times_next j P))

    pub within_ready : (b : Blob) → b ≡ settled_at (page_cut seal P c0 j old page) → Ready seal P (take (j * P + length page) (sealed_prefix seal P c0)) (j * P + length page) (j * P + length page) (not old) b
    within_ready b is = subst (Ready seal P (take (j * P + length page) (sealed_prefix seal P c0)) (j * P + length page) (j * P + length page) (not old)) (sym is)
        (rest_ready (take (j * P + length page) (sealed_prefix seal P c0)) (j * P + length page)
        (with_slot (best_slot seal P (written (take (page_at P (j + 1)) c0) (slot_at P j (not old)) (slot_bytes seal P page))) j (not old)) (not old) (settled_at (page_cut seal P c0 j old page)) pos
        (omega (arith, length-take (j * P + length page) (sealed_prefix seal P c0), inside)) refl
        (subst (λ (l : List ℕ). SoundTo seal P l (page_cut seal P c0 j old page)) page_cut_prefix (prefix_sound seal P (page_cut seal P c0 j old page)))
        (zeros_below seal P (written (take (page_at P (j + 1)) c0) (slot_at P j (not old)) (slot_bytes seal P page)) j (length page) (not old) old pos some own_2 not_old last_2 inside_2)
        (zeros_covers seal P (written (take (page_at P (j + 1)) c0) (slot_at P j (not old)) (slot_bytes seal P page)) j (length page) (not old) old pos some own_2 not_old last_2 inside_2)
        (zeros_quiet seal P (written (take (page_at P (j + 1)) c0) (slot_at P j (not old)) (slot_bytes seal P page)) j (length page) (not old) old pos some own_2 not_old last_2 inside_2)
        (λ k low high. ap (with_slot (best_slot seal P (written (take (page_at P (j + 1)) c0) (slot_at P j (not old)) (slot_bytes seal P page))) j (not old)) (end_page P j (length page) short k low high).0
        ∙ with_own seal P (written (take (page_at P (j + 1)) c0) (slot_at P j (not old)) (slot_bytes seal P page)) j (length page) (not old) old pos some own_2 not_old last_2 inside_2))

    pub within_stands : StandsAt (take (j * P + length page) (sealed_prefix seal P c0)) (j * P) page
    within_stands = record {
      room = omega (arith, length-take (j * P + length page) (sealed_prefix seal P c0), inside);
      same = λ i lt. (let near : i < slot_length seal P c0 j old = omega (arith, lt, covered, best_is seal P c0 j old own) in
          ap (λ (l : List ℕ). get_or l i 0) page_is ∙ get_or-take (length page) (drop (page_at P j) c0) i 0 lt ∙ get_or-drop (page_at P j) c0 i 0
          ∙ (prefix_sound seal P c0).same j old i (omega (arith, inside)) near ∙ sym (get_or-take (j * P + length page) (sealed_prefix seal P c0) (j * P + i) 0 (omega (arith, lt))));
    }

-- what a cut buffer holds
pub holds_cut : (seal : List ℕ → ℕ) (u v : Buffer) (all : List ℕ) (b : Blob) (j end : ℕ) (tip : List ℕ) (newest : Bool) → v ≡ record u { end = end; first = j; tip = tip; from = length tip; settled = j * u.page_size + length tip; newest = newest; behind = false; torn = false; cache = [] }
    → Ready seal u.page_size all (j * u.page_size + length tip) (j * u.page_size + length tip) newest b → StandsAt all (j * u.page_size) tip → length all ≡ j * u.page_size + length tip → Holds seal v all b
holds_cut seal u v all b j end tip newest is ready at size = subst (λ (x : Buffer). Holds seal x all b) (sym is) (record {
  state = record { ready = λ e. ready; adopted = λ e. absurd (cc e) };
  tip_at = at;
  size = size;
})

-- the data that a cut leaves
pub resized_data : (P : ℕ) (all : List ℕ) (F : ℕ) (c : List ℕ) (j : ℕ) → F ≤ j * P → Data P all F (view c) → Data P all F (view (resized c (page_at P j)))
resized_data P all F c j le same = data_cut (λ x. 0) P all F (λ k. false) c j le same

taken_data : (P : ℕ) (all : List ℕ) (F : ℕ) (c : List ℕ) (j : ℕ) → F ≤ j * P → Data P all F (view c) → Data P all F (view (take (page_at P j) c))
taken_data P all F c j le same k i lt below = get_or-take (page_at P j) c (page_at P k + i) 0 (omega (arith, lt, page_apart P k j (below_start P j k (omega (arith, below, le))))) ∙ same k i lt below

pub page_cut_data : (seal : List ℕ → ℕ) (P : ℕ) (all : List ℕ) (F : ℕ) (c : List ℕ) (j : ℕ) (old : Bool) (page : List ℕ) → F ≤ (j + 1) * P → Data P all F (view c) → Data P all F (view (page_cut seal P c j old page))
page_cut_data seal P all F c j old page le same = slot_data_kept seal P (written (take (page_at P (j + 1)) c) (slot_at P j (not old)) (slot_bytes seal P page)) j old no_slot refl all F
    (slot_data_kept seal P (take (page_at P (j + 1)) c) j (not old) (slot_bytes seal P page) (length-slot_bytes seal P page) all F (taken_data P all F c (j + 1) le same))

pub head_stands : (P : ℕ) (all : List ℕ) (c : List ℕ) (j n : ℕ) (tip : List ℕ) → n ≤ P → tip ≡ take n (drop (page_at P j) c) → length tip ≡ n → length all ≡ j * P + n → Data P all (j * P + n) (view c) → StandsAt all (j * P) tip
head_stands P all c j n tip le is long size same = record {
  room = omega (arith, size, long);
  same = λ i lt. ap (λ (l : List ℕ). get_or l i 0) is ∙ get_or-take n (drop (page_at P j) c) i 0 (omega (arith, lt, long)) ∙ get_or-drop (page_at P j) c i 0 ∙ same j i (omega (arith, lt, long, le)) (omega (arith, lt, long));
}

-- what a cut buffer means
pub cut_bytes : (u v : Buffer) (all content : List ℕ) (j end : ℕ) (tip : List ℕ) (newest : Bool) → 1 ≤ u.page_size → v ≡ record u { end = end; first = j; tip = tip; from = length tip; settled = j * u.page_size + length tip; newest = newest; behind = false; torn = false; cache = [] }
    → Data u.page_size all (j * u.page_size + length tip) (view content) → StandsAt all (j * u.page_size) tip → length all ≡ j * u.page_size + length tip → bytes_of v content ≡ all
cut_bytes u v all content j end tip newest pos is same at size = ap (λ (x : Buffer). bytes_of x content) is
    ∙ bytes_is (record u { end = end; first = j; tip = tip; from = length tip; settled = j * u.page_size + length tip; newest = newest; behind = false; torn = false; cache = [] }) all content pos
    (data_less u.page_size (j * u.page_size + length tip) (j * u.page_size) all (view content) (omega arith) same) at size

pub stands_none : (all tip : List ℕ) (at : ℕ) → length tip ≡ 0 → at ≤ length all → StandsAt all at tip
stands_none all tip at none le = record { room = omega (arith, none, le); same = λ i lt. absurd (omega (arith, none, lt)) }

-- a shorter blob ends no later
pub extent_less : (P n m : ℕ) → 1 ≤ P → n ≤ m → extent P n ≤ extent P m
extent_less P n m pos le =
    let low : (n + (P - 1)) / P * P ≤ m + (P - 1) = omega (arith, le, div-mul-le_self (n + (P - 1)) P) in
    page_order (λ x. 0) P ((n + (P - 1)) / P) ((m + (P - 1)) / P) (le-div ((n + (P - 1)) / P) (m + (P - 1)) P (omega (arith, pos)) low)

-- what a cut inside a page says of its moments, for a blob of this disk
abbrev pub InsideTold : (List ℕ → ℕ) → ℕ → ℕ → Bool → List ℕ → Timeline → Timeline → Disk → Key → Type 0
InsideTold seal P j second page b d x key = StandsSettled (x key) → best_slot seal P (x key).content j ≡ second → length page ≤ page_length seal P (x key).content j → page ≡ take (length page) (drop (page_at P j) (x key).content)
    → j * P + length page ≤ length (sealed_prefix seal P (x key).content) → Sealing seal P (sealed_prefix seal P (x key).content) (j * P + length page) key b d

-- first a look, which changes nothing
module _ (seal : List ℕ → ℕ) (P : ℕ) (pos : 1 ≤ P) (key : Key) (a b : Timeline) (look : Unchanged a b) where
  pub look_sealing : (L : ℕ) → StandsSettled (disk a key) → L ≤ length (sealed_prefix seal P (disk a key).content) → Sealing seal P (sealed_prefix seal P (disk a key).content) L key a b
  look_sealing L rest le = sealing_less seal P (sealed_prefix seal P (disk a key).content) (length (sealed_prefix seal P (disk a key).content)) L key a b le
      (always_weaker a b (λ x. x ≡ disk a) (OnlyAt key (disk a) (Leaves seal P (sealed_prefix seal P (disk a key).content) (length (sealed_prefix seal P (disk a key).content))))
      (λ x same. record { here = subst (λ (y : Disk). Leaves seal P (sealed_prefix seal P (disk a key).content) (length (sealed_prefix seal P (disk a key).content)) (y key)) (sym same) (rest_leaves seal P (disk a key) pos rest); others = λ q other. ap (λ (y : Disk). y q) same }) look)

  pub look_then : (j : ℕ) (second : Bool) (page : List ℕ) (d : Timeline) → InsideTold seal P j second page b d (disk b) key → InsideTold seal P j second page a d (disk a) key
  look_then j second page d told rest own covered page_is inside = sealing_then seal P (sealed_prefix seal P (disk a key).content) (j * P + length page) key a b d (look_sealing (j * P + length page) rest inside)
      (subst (λ (x : Disk). InsideTold seal P j second page b d x key) (unchanged_now a b look) told rest own covered page_is inside)

  pub look_alone : (d : Timeline) → Alone key b d → Alone key a d
  look_alone d alone = alone_then a b d key (always_weaker a b (λ x. x ≡ disk a) (OnlyAt key (disk a) (λ y. Unit {0})) (λ x same. record { here = tt; others = λ q other. ap (λ (y : Disk). y q) same }) look) alone

-- the same of another spelling of the key and of the page size
pub as_of : (Q : Key → ℕ → Type 0) {k k' : Key} {p p' : ℕ} → k ≡ k' → p ≡ p' → Q k p → Q k' p'
as_of Q e f has = subst (λ (x : Key × ℕ). Q x.0 x.1) (λ t. (e t, f t)) has

-- after a sync
pub after_sync : (seal : List ℕ → ℕ) (u v : Buffer) (b0 b1 : Blob) → v.page_size ≡ u.page_size → v.from < v.page_size → v.from ≤ length v.tip → v.settled ≤ flushed_of v → v.settled ≡ size_of v → Holds seal v (bytes_of v b1.content) b1 → bytes_of v b1.content ≡ bytes_of u b0.content
    → Settles seal u.page_size (bytes_of u b0.content) b1
after_sync seal u v b0 b1 page begun within order settled holds same = subst (λ (l : List ℕ). Settles seal u.page_size l b1) same
    (settles_of seal v u.page_size (bytes_of v b1.content) b1 page begun (all_flushed v within order settled) settled holds)

-- a page in which an adopted blob has bytes begins within it
pub page_stands : (seal : List ℕ → ℕ) (P : ℕ) (c : List ℕ) (j : ℕ) → j * P < adopted_size seal P c → page_at P j ≤ length c
page_stands seal P c j lt = elim (cases_lt (length c) (page_at P j)) [
  | inl short ↦ absurd (omega (arith, lt, size_at_most seal P (j * P) c (pages_in P c) (pages short)))
  | inr le ↦ le
]
  where
    pages : length c < page_at P j → (k : ℕ) → 1 ≤ page_length seal P c k → k * P + page_length seal P c k ≤ j * P
    pages short k some = elim (cases_lt k j) [
      | inl less ↦ omega (arith, times_more k j P less, page_length-le seal P c k)
      | inr le ↦ (let is = best_length seal P c k in absurd (omega (arith, short, page_order seal P j k le, slot_low P k (best_slot seal P c k), slot_stands seal P c k (best_slot seal P c k) (omega (arith, is, some)))))
    ]

-- where a cut is to stand
pub cut_place : (P len : ℕ) → len / P * P + len % P ≡ len
cut_place P len = omega (arith, mod-eq-sub-div-mul len P, div-mul-le_self len P)

-- what a call that failed says of its value
pub no_value : {T E : Type 0} (P : T → Type 0) (r : Result T E) → IsErr r → IfOk r P
no_value P (Ok v) is = absurd (cc is)
no_value P (Err e) is = tt

-- an error of the device, raised
pub raised_cause : {T : Type 0} (r : Result T RError) (e : DevError) (n m : ℕ) → IsErrAnd r (λ x. x ≡ raised e) → (e ≡ device.Fault → Rose n m)
    → OnErr r ((r ≡ Err Mem) ⊎ ((r ≡ Err Fault) × Rose n m))
raised_cause (Ok v) e n m is rose = tt
raised_cause (Err x) device.Fault n m is rose = inr (ap Err is, rose refl)
raised_cause (Err x) device.Mem n m is rose = inl (ap Err is)

pub page_named : {T : Type 0} (r : Result T RError) (p q : ℕ) (A B : Type 0) → ((r ≡ Err Mem) → A) → ((r ≡ Err Fault) → B → A) → OnErr r ((r ≡ Err (InvalidChecksum q)) ⊎ ((r ≡ Err Mem) ⊎ ((r ≡ Err Fault) × B))) → r ≡ Err (InvalidChecksum p) → p ≡ q
page_named (Ok v) p q A B mem fault cause is = absurd (cc is)
page_named (Err e) p q A B mem fault cause is = elim cause [
  | inl named ↦ cc (named, is)
  | inr other ↦ elim other [
    | inl none ↦ absurd (cc (none, is))
    | inr failed ↦ absurd (cc (failed.0, is))
  ]
]

-- a refusal for what is in the blob is out of the question
pub not_named : {T : Type 0} (r : Result T RError) (q : ℕ) (B C : Type 0) → ((r ≡ Err (InvalidChecksum q)) → ⊥) → (B → C) → OnErr r ((r ≡ Err (InvalidChecksum q)) ⊎ ((r ≡ Err Mem) ⊎ ((r ≡ Err Fault) × B))) → OnErr r ((r ≡ Err Mem) ⊎ ((r ≡ Err Fault) × C))
not_named (Ok v) q B C never more cause = cause
not_named (Err e) q B C never more cause = elim cause [
  | inl named ↦ absurd (never named)
  | inr other ↦ elim other [
    | inl none ↦ inl none
    | inr failed ↦ inr (failed.0, more failed.1)
  ]
]

pub data_taken : (P : ℕ) (all : List ℕ) (F L : ℕ) (v : View) → L ≤ F → Data P all F v → Data P (take L all) L v
data_taken P all F L v le same k i lt below = same k i lt (omega (arith, below, le)) ∙ sym (get_or-take L all (k * P + i) 0 below)

pub cut_backed : (u v : Buffer) (all content : List ℕ) (j end : ℕ) (tip : List ℕ) (newest : Bool) → 1 ≤ u.page_size → v ≡ record u { end = end; first = j; tip = tip; from = length tip; settled = j * u.page_size + length tip; newest = newest; behind = false; torn = false; cache = [] }
    → Data u.page_size all (j * u.page_size + length tip) (view content) → StandsAt all (j * u.page_size) tip → length all ≡ j * u.page_size + length tip → HasFlushed v content
cut_backed u v all content j end tip newest pos is same at size =
    let w : Buffer = record u { end = end; first = j; tip = tip; from = length tip; settled = j * u.page_size + length tip; newest = newest; behind = false; torn = false; cache = [] } in
    subst (λ (x : Buffer). HasFlushed x content) (sym is)
    (subst (λ (l : List ℕ). Data u.page_size l (j * u.page_size + length tip) (view content)) (sym (cut_bytes u w all content j end tip newest pos refl same at size)) same)

pub leaves_of : (seal : List ℕ → ℕ) (v : Buffer) (P L : ℕ) (all : List ℕ) (b : Blob) → v.page_size ≡ P → v.from < v.page_size → v.settled ≡ L → Holds seal v all b → Leaves seal P all L b
leaves_of seal v P L all b page begun settled holds = subst (λ (x : ℕ × ℕ). Leaves seal x.0 all x.1 b) (λ t. (page t, settled t)) (holds_leaves seal v all b begun holds)

pub no_need : (x y : ℕ) (r : Bool) → r ≡ not (eqb x y) → r ≡ false → x ≡ y
no_need x y r is so = elim (cases_eq x y) [
  | inl same ↦ same
  | inr differ ↦ absurd (cc (is, so, ne_eqb x y differ))
]
