-- Which section a replay leaves where it does not come to its end, and what crashes leave of those that owe a replay.
use Rattle.std.specs.Prelude.{◌≡◌, ◌⊎◌, ℕ, ◌+◌, ◌-◌, ◌*◌, ◌/◌, ◌<◌, ◌≤◌, false, List, [], length, take, Option, Some, None, IsSomeAnd, IsTrue}
use Rattle.std.proofs.Common.{inl, inr, refl, sym, ap, ◌∙◌, subst, arith}
use Rattle.std.proofs.Math.Seq.{take-length}
use Rattle.std.proofs.lemmas.List.{take-take}
use Rattle.std.proofs.lemmas.Nat.{mul-le}
use Rattle.std.proofs.lemmas.Bool.{cases_eq, cases_lt}
use Rattle.blob_device.specs.Disk.{Blob, Disk, past}
use Rattle.blob_device.specs.Timeline.{disk, Each}
use Rattle.blob_device.specs.declared.device.Device as device
use Rattle.sealed_pages.specs.ChanceSeal.{Leaves, NoChanceSeal}
use Rattle.sealed_pages.specs.SealedPrefix.{sealed_prefix, Prefix}
use Rattle.sealed_pages.specs.declared.page_blob.PageBlob.{PageBlob}
use Rattle.sealed_pages.specs.lemmas.Reaching.{rest_leaves}
use Rattle.section_manager.specs.Sections.{key_of}
use Rattle.section_manager.specs.Setting.{Setting}
use Rattle.section_manager.specs.declared.buffer.SectionBuffer as buffer
use Rattle.section_manager.specs.lemmas.Keys.{key_injective}
use Rattle.segments.specs.FixedReplay.{Walk, Place, IsAhead, IsIn, IsLeft, first_of, kept_of}
use Rattle.segments.specs.FixedStepping.{bytes_ahead, sections_ahead, way_of, word}
use Rattle.segments.specs.lemmas.adding.Write.{ArePages}
use Rattle.segments.specs.lemmas.replay.Ending.{ahead_from}
use Rattle.variable_journal.specs.lemmas.Offset.{whole_within}
use Rattle.variable_journal.specs.lemmas.Running.{ahead_or_not}
use Rattle.variable_journal.specs.Frames.{whole_end}
use Rattle.variable_journal.specs.Replaying.{LeavesFrames, ReplayingFrames, given_bytes}
use Rattle.variable_journal.specs.Advancing.{IsGoing}
use Rattle.blob_device.proofs.general.Options.{none_or_value, same_some, some_there}

-- ---- whether a byte of a section is left

place_or_not : (o : Option Place) (s n : ℕ) → IsSomeAnd o (λ r. (r.section ≡ s) × (r.position ≤ n)) ⊎ (IsSomeAnd o (λ r. (r.section ≡ s) × (r.position ≤ n)) → ⊥)
place_or_not None s n = inr (λ never. never)
place_or_not (Some r) s n = elim (cases_eq r.section s) [
  | inr other ↦ inr (λ has. other has.0)
  | inl same ↦ elim (cases_lt n r.position) [ inl far ↦ inr (λ has. (let le = has.1 in omega (arith, le, far))) | inr le ↦ inl (same, le) ]
]

place_more : (o : Option Place) (s p n : ℕ) → p ≤ n → IsSomeAnd o (λ r. (r.section ≡ s) × (r.position ≤ p)) → IsSomeAnd o (λ r. (r.section ≡ s) × (r.position ≤ n))
place_more None s p n le has = has
place_more (Some r) s p n le has = (has.0, (let low = has.1 in omega (arith, low, le)))

place_section : (o : Option Place) (s p : ℕ) → IsSomeAnd o (λ r. (r.section ≡ s) × (r.position ≤ p)) → IsSomeAnd o (λ r. r.section ≡ s)
place_section None s p has = has
place_section (Some r) s p has = has.0

-- a byte that is left is of a section that is near
pub near_left : {F S : Type 0} {gs : _} (seal : List ℕ → ℕ) (w : Walk F (PageBlob S gs)) (d : Disk) (s p : ℕ) → IsLeft seal 1 w d s p → IsAhead w s ⊎ IsIn w s
near_left seal w d s p l = elim l.ahead [ inl here ↦ inl here.1 | inr there ↦ inr (place_section w.place s p there) ]

pub left_or_not : {F S : Type 0} {gs : _} (seal : List ℕ → ℕ) (w : Walk F (PageBlob S gs)) (d : Disk) (s : ℕ) → w.ended ≡ false → ((p : ℕ) × IsLeft seal 1 w d s p) ⊎ ((p : ℕ) → IsLeft seal 1 w d s p → ⊥)
left_or_not {S = S} {gs = gs} seal w d s going = elim (none_or_value (w.journal.sections.held s)) [
  | inl none ↦ inr (λ p l. (
      let empty : given_bytes seal w d s ≡ [] = ap (λ (o : Option (PageBlob S gs)). kept_of seal (w.journal.unrecovered s) o (d (key_of w.journal.sections s)).content) none in
      omega (arith, l.whole, ap length empty)))
  | inr some ↦ elim (cases_lt (first_of w s) size) [
    | inr le ↦ inr (λ p l. omega (arith, le, l.begun, l.whole))
    | inl lt ↦ elim (ahead_or_not w.next_section s) [
      | inl ahead ↦ inl (size - 1, record { goes_on = going; begun = omega (arith, lt); whole = omega (arith, lt); ahead = inl (some_there (w.journal.sections.held s) some.0 some.1, ahead) })
      | inr far ↦ elim (place_or_not w.place s (size - 1)) [
        | inl there ↦ inl (size - 1, record { goes_on = going; begun = omega (arith, lt); whole = omega (arith, lt); ahead = inr there })
        | inr out ↦ inr (λ p l. elim l.ahead [
          | inl here ↦ far here.1
          | inr there ↦ out (place_more w.place s p (size - 1) (omega (arith, l.whole)) there)
        ])
      ]
    ]
  ]
]
  where
    size : ℕ
    size = length (given_bytes seal w d s)

-- ---- a section that is left, where a replay comes nearer to its end

fewer : (a b w x : ℕ) → a * (w + 1) + x < b * (w + 1) → a < b
fewer a b w x less = elim (cases_lt a b) [
  | inl lt ↦ lt
  | inr le ↦ absurd (omega (arith, less, mul-le b (w + 1) a (w + 1) le (omega arith)))
]

module _ {F B : Type 0} (m k : Walk F B) (none : k.place ≡ None) (nearer : way_of k < way_of m) (onward : (s : ℕ) → IsAhead k s → IsAhead m s) where
  -- It is one that was near, and all that is ahead stands behind it.
  pub left_section : ((r : Place) → m.place ≡ Some r → IsAhead m r.section → ⊥) → (s : ℕ) × (IsAhead m s ⊎ IsIn m s) × ((t : ℕ) → IsAhead k t → s < t)
  left_section come = from m.place refl
    where
      behind : (r : Place) → m.place ≡ Some r → (t : ℕ) → IsAhead k t → r.section < t
      behind r at t ahead = elim (cases_lt r.section t) [ inl lt ↦ lt | inr le ↦ absurd (come r at (ahead_from m.next_section t r.section le (onward t ahead))) ]

      between : m.place ≡ None → (o p : Option ℕ) → m.next_section ≡ o → k.next_section ≡ p → (s : ℕ) × IsSomeAnd o (λ n. n ≤ s) × ((t : ℕ) → IsSomeAnd p (λ n. n ≤ t) → s < t)
      between at o p next then = go o p (fewer (sections_ahead p) (sections_ahead o) word 0 (
          let before : way_of m ≡ sections_ahead o * (word + 1) = (λ i. sections_ahead (next i) * (word + 1) + bytes_ahead (at i)) ∙ (omega arith) in
          let after : way_of k ≡ sections_ahead p * (word + 1) = (λ i. sections_ahead (then i) * (word + 1) + bytes_ahead (none i)) ∙ (omega arith) in
          omega (arith, nearer, before, after)))
        where
          go : (o p : Option ℕ) → sections_ahead p < sections_ahead o → (s : ℕ) × IsSomeAnd o (λ n. n ≤ s) × ((t : ℕ) → IsSomeAnd p (λ n. n ≤ t) → s < t)
          go None p less = absurd (omega (arith, less))
          go (Some n) None less = (n, omega arith, λ t never. absurd never)
          go (Some n) (Some q) less = (q - 1, omega (arith, less), λ t le. omega (arith, le, less))

      from : (o : Option Place) → m.place ≡ o → (s : ℕ) × (IsAhead m s ⊎ IsIn m s) × ((t : ℕ) → IsAhead k t → s < t)
      from (Some r) at = (r.section, inr (subst (λ (x : Option Place). IsSomeAnd x (λ p. p.section ≡ r.section)) (sym at) refl), behind r at)
      from None at = (let is = between at m.next_section k.next_section refl refl in (is.0, inl is.1, is.2))

-- ---- what crashes leave

-- what leaves so many of the first bytes leaves fewer of all of them
pub leaves_on : (seal : List ℕ → ℕ) (P least less : ℕ) (xs bytes : List ℕ) (b : Blob) → xs ≡ take (length xs) bytes → length xs ≤ length bytes → less ≤ least → Leaves seal P xs least b → Leaves seal P bytes less b
leaves_on seal P least less xs bytes b own within le leaves left may = go left (leaves left may)
  where
    go : (l : Option (List ℕ)) → IsSomeAnd l (λ c. NoChanceSeal seal P (past b) c → Prefix seal P xs least c) → IsSomeAnd l (λ c. NoChanceSeal seal P (past b) c → Prefix seal P bytes less c)
    go None has = has
    go (Some c) has = λ no. (let p = has no in record {
      is = p.is ∙ ap (take (length (sealed_prefix seal P c))) own ∙ take-take (length (sealed_prefix seal P c)) (length xs) bytes p.no_longer;
      no_shorter = omega (arith, le, p.no_shorter);
      no_longer = omega (arith, within, p.no_longer);
    })

module _ {F S D : Type 0} {gs : _} (g : buffer.Ghosts (PageBlob S gs)) (gives : F → Setting) (seal : List ℕ → ℕ) (dev : device.Ghosts D) (laws : ArePages g seal)
    (w : Walk F (PageBlob S gs)) (at : D) (was : IsGoing g gives seal dev w at) (t : dev.Tells) where
  abbrev d : Disk
  d = disk (dev.time at)

  abbrev prefix : ℕ → PageBlob S gs → List ℕ
  prefix s u = sealed_prefix seal u.page_size (d (key_of w.journal.sections s)).content

  fewer_bytes : (s : ℕ) (u : PageBlob S gs) (n : ℕ) → whole_end (prefix s u) ≤ n → (b : Blob) → Leaves seal u.page_size (prefix s u) n b → Leaves seal u.page_size (prefix s u) (whole_end (prefix s u)) b
  fewer_bytes s u n le b = leaves_on seal u.page_size n (whole_end (prefix s u)) (prefix s u) (prefix s u) b (sym (take-length (prefix s u))) (omega arith) le

  -- at the start: what owes a replay has settled
  leaves_start : (s : ℕ) (u : PageBlob S gs) → w.journal.sections.held s ≡ Some u → IsTrue (w.journal.unrecovered s) → Leaves seal u.page_size (prefix s u) (whole_end (prefix s u)) (d (key_of w.journal.sections s))
  leaves_start s u held owed =
      let b = d (key_of w.journal.sections s) in
      fewer_bytes s u (length (prefix s u)) (whole_within (prefix s u)) b
      (rest_leaves seal u.page_size b (omega (arith, u.fit.begun)) ((laws.stands u b ((was.bytes.over.disk t).stands s u held)).rest (was.bytes.walk.owes_settled.settled s u held owed)))

  -- a section that is cut to its frames is the one of its key
  same_section : (s : ℕ) (u : PageBlob S gs) → w.journal.sections.held s ≡ Some u → (q : ℕ) (v : PageBlob S gs) → w.journal.sections.held q ≡ Some v → key_of w.journal.sections s ≡ key_of w.journal.sections q → q ≡ s
  same_section s u held q v there key = sym (key_injective w.journal.sections.partition s q
      (was.bytes.over.opened_list.number s (inl (some_there (w.journal.sections.held s) u held))) (was.bytes.over.opened_list.number q (inl (some_there (w.journal.sections.held q) v there))) key)

  -- and at each moment of a replay
  pub leaves_frames : (x : Disk) → Each (ReplayingFrames seal w d) x → LeavesFrames seal w d x
  leaves_frames x each = record {
    owed = λ s u held owed. elim (each (key_of w.journal.sections s)) [
      | inl rep ↦ elim (rep.cut s u held owed refl) [
        | inl same ↦ subst (Leaves seal u.page_size (prefix s u) (whole_end (prefix s u))) (sym same) (leaves_start s u held owed)
        | inr cut ↦ fewer_bytes s u (length (prefix s u) / 1 * 1) (omega (arith, whole_within (prefix s u))) (x (key_of w.journal.sections s)) cut.1
      ]
      | inr cuts ↦ (
          let is = same_section s u held cuts.section cuts.buffer cuts.held cuts.key in
          let own : cuts.buffer ≡ u = same_some (w.journal.sections.held s) u cuts.buffer held (subst (λ (q : ℕ). w.journal.sections.held q ≡ Some cuts.buffer) is cuts.held) in
          subst (λ (v : PageBlob S gs). Leaves seal v.page_size (prefix s v) (whole_end (prefix s v)) (x (key_of w.journal.sections s))) own cuts.leaves)
    ];
    free = λ s u held free. elim (each (key_of w.journal.sections s)) [
      | inl rep ↦ rep.flushed s u held free ((was.bytes.disk t).sealed.sealed s u held (record { checked = free; free = was.free s })) refl
      | inr cuts ↦ absurd (let is = same_section s u held cuts.section cuts.buffer cuts.held cuts.key in let owed = subst (λ (q : ℕ). IsTrue (w.journal.unrecovered q)) is cuts.owes in cc (free, owed))
    ];
  }
