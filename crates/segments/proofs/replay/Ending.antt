-- A replay of a fixed journal comes to a section, or to its end: the steps that these are.
use Rattle.std.specs.Prelude.{◌≡◌, ◌⊎◌, ◌↔◌, ℕ, ◌+◌, ◌-◌, ◌*◌, ◌^◌, ◌<◌, ◌≤◌, List, IsSomeAnd, Option, None, Some}
use Rattle.std.proofs.Common.{inl, inr, refl, ap, arith}
use Rattle.std.proofs.lemmas.Nat.{mul-le}
use Rattle.blob_device.specs.Disk.{Disk}
use Rattle.blob_device.specs.Opened.{OpenedList}
use Rattle.sealed_pages.specs.declared.page_blob.PageBlob.{PageBlob}
use Rattle.section_manager.specs.declared.buffer.SectionBuffer as buffer
use Rattle.section_manager.specs.Setting.{Setting}
use Rattle.segments.specs.FixedReplay.{Place, Walk, IsWalk, StandsIn, ReadsIn}
use Rattle.segments.specs.FixedStepping.{word, sections_ahead, failing}
use Rattle.blob_device.proofs.general.Numbers.{times_next}

-- the number behind s, if it is one
abbrev pub IsNext : ℕ → Option ℕ → Type 0
IsNext s o = (o ≡ Some (s + 1)) ⊎ ((o ≡ None) × (2 ^ 64 ≤ s + 1))

pub next_after : (s : ℕ) (o : Option ℕ) → IsNext s o → (t : ℕ) → t < 2 ^ 64 → IsSomeAnd o (λ n. n ≤ t) ↔ (s < t)
next_after s None is t small = (λ h. absurd h, λ lt. elim is [ inl e ↦ absurd (cc e) | inr nil ↦ absurd (omega (arith, nil.1, lt, small)) ])
next_after s (Some n) is t small = elim is [
  | inl e ↦ (let at : n ≡ s + 1 = cc e in (λ le. omega (arith, le, at), λ lt. omega (arith, lt, at)))
  | inr nil ↦ absurd (cc nil.0)
]

pub next_from : (s start : ℕ) (o : Option ℕ) → IsNext s o → start ≤ s → (n : ℕ) → o ≡ Some n → start ≤ n
next_from s start o is le n here = elim is [
  | inl e ↦ (let at : n ≡ s + 1 = cc (e, here) in omega (arith, at, le))
  | inr nil ↦ absurd (cc (nil.0, here))
]

pub next_back : (s : ℕ) (o : Option ℕ) → IsNext s o → (t : ℕ) → IsSomeAnd o (λ n. n ≤ t) → s ≤ t
next_back s None is t h = absurd h
next_back s (Some n) is t h = elim is [ inl e ↦ (let at : n ≡ s + 1 = cc e in omega (arith, h, at)) | inr nil ↦ absurd (cc nil.0) ]

word_is : word ≡ 2 ^ 64
unfolding word
word_is = refl

-- fewer numbers are ahead
pub fewer_ahead : (s : ℕ) (o p : Option ℕ) → s < 2 ^ 64 → IsSomeAnd o (λ n. n ≤ s) → IsNext s p → sections_ahead p + 1 ≤ sections_ahead o
fewer_ahead s None p small ahead is = absurd ahead
fewer_ahead s (Some n) p small ahead is = elim is [
  | inl e ↦ (let at : sections_ahead p ≡ word - (s + 1) = ap sections_ahead e in omega (arith, at, ahead, small, word_is))
  | inr nil ↦ (let at : sections_ahead p ≡ 0 = ap sections_ahead nil.0 in omega (arith, at, ahead, small, word_is))
]

-- a section is begun: its bytes are fewer than the numbers that were passed weigh
pub nearer_begun : (a b x : ℕ) → b + 1 ≤ a → x < 2 ^ 64 → b * (word + 1) + (x + 1) < a * (word + 1)
nearer_begun a b x le small =
    let w = word in
    omega (arith, times_next b (w + 1), mul-le (b + 1) (w + 1) a (w + 1) le (omega arith), small, word_is)

pub place_fails : {F S : Type 0} {gs : _} (seal : List ℕ → ℕ) (size : ℕ) (w : Walk F (PageBlob S gs)) (r : Place) → IsSomeAnd (w.journal.sections.held r.section) (StandsIn size w r) → IsSomeAnd (w.journal.sections.held r.section) (StandsIn size (failing w) r)
place_fails {S = S} {gs = gs} seal size w r has = go (w.journal.sections.held r.section) has
  where
    go : (o : Option (PageBlob S gs)) → IsSomeAnd o (StandsIn size w r) → IsSomeAnd o (StandsIn size (failing w) r)
    go None h = h
    go (Some u) h = record { key = h.key; page_size = h.page_size; end = h.end; blob_size = h.blob_size; flushed = h.flushed; at = h.at; within = h.within; begun = h.begun }

pub reads_fails : {F S : Type 0} {gs : _} (seal : List ℕ → ℕ) (size : ℕ) (w : Walk F (PageBlob S gs)) (d : Disk) (r : Place) → IsSomeAnd (w.journal.sections.held r.section) (ReadsIn seal w d r) → IsSomeAnd (w.journal.sections.held r.section) (ReadsIn seal (failing w) d r)
reads_fails {S = S} {gs = gs} seal size w d r has = go (w.journal.sections.held r.section) has
  where
    go : (o : Option (PageBlob S gs)) → IsSomeAnd o (ReadsIn seal w d r) → IsSomeAnd o (ReadsIn seal (failing w) d r)
    go None h = h
    go (Some u) h = record { replays = h.replays; checked = h.checked }

-- one that has failed is a replay too
pub fails : {F S : Type 0} {gs : _} (seal : List ℕ → ℕ) (size : ℕ) (g : buffer.Ghosts (PageBlob S gs)) (gives : F → Setting) {told : Type 0} (w : Walk F (PageBlob S gs)) (opened : OpenedList) (d : Disk)
    → IsWalk g gives seal size told w opened d → IsWalk g gives seal size told (failing w) opened d
fails seal size g gives w opened d is = record {
  over = is.over;
  walk = record {
    owes_settled = is.walk.owes_settled;
    owes_held = λ no. absurd (cc no);
    place = λ r here. place_fails seal size w r (is.walk.place r here);
    come_to = is.walk.come_to;
    from_start = is.walk.from_start;
    start_within = is.walk.start_within;
    start_kept = λ no. absurd (cc no);
    ends = λ e. refl;
  };
  disk = λ t. record {
    sealed = (is.disk t).sealed;
    gone_over = λ no. absurd (cc no);
    unopened = λ no. absurd (cc no);
    place = λ r here. reads_fails seal size w d r ((is.disk t).place r here);
  };
}
