-- A replay of a fixed journal where it begins, and what it leaves as it was when it has finished.
use Rattle.std.specs.Prelude.{◌≡◌, ◌⊎◌, ℕ, ◌*◌, ◌/◌, ◌<◌, ◌≤◌, false, List, IsTrue, None, Some, IsSome}
use Rattle.std.proofs.Common.{inl, inr, sym, ◌∙◌, subst, arith}
use Rattle.std.proofs.lemmas.Bool.{cases_lt, cases_order}
use Rattle.std.proofs.lemmas.Nat.{mul-le}
use Rattle.std.proofs.Math.Nat.{div-mul-le_self}
use Rattle.blob_device.specs.Disk.{Disk}
use Rattle.blob_device.specs.Opened.{OpenedList}
use Rattle.sealed_pages.specs.declared.page_blob.PageBlob.{PageBlob}
use Rattle.sealed_pages.specs.Shown.{shown}
use Rattle.sealed_pages.specs.Buffer.{size_of}
use Rattle.section_manager.specs.declared.buffer.SectionBuffer as buffer
use Rattle.section_manager.specs.Setting.{Setting}
use Rattle.section_manager.specs.Sections.{Sections, IsHeld}
use Rattle.segments.specs.FixedLists.{Lists, OwesHeld, OwesSettled, UnopenedLater, IsJournal}
use Rattle.segments.specs.FixedReplay.{Walk, IsDrained, HasWalk, IsWalk}
use Rattle.blob_device.proofs.general.Options.{none_in, some_there}

-- a position that is not past the end is within the bytes
position_fits : (size n p : ℕ) → (n / size < p → ⊥) → p * size ≤ n
position_fits size n p fits = elim (cases_lt (n / size) p) [
  | inl past ↦ absurd (fits past)
  | inr le ↦ omega (arith, div-mul-le_self n size, mul-le p size (n / size) size le (omega arith))
]

pub begins_walk : {F S : Type 0} {gs : _} (seal : List ℕ → ℕ) (size : ℕ) (g : buffer.Ghosts (PageBlob S gs)) (gives : F → Setting) {told : Type 0} (j : Lists F (PageBlob S gs)) (s p : ℕ) (opened : OpenedList) (d : Disk)
    → IsJournal g gives seal size told j opened d → ((u : PageBlob S gs) → j.sections.held s ≡ Some u → size_of (shown u) / size < p → ⊥)
    → IsWalk g gives seal size told (record { journal = j; start_section = s; start_position = p; next_section = Some s; place = None; failed = false; ended = false }) opened d
begins_walk seal size g gives j s p opened d is fits = record {
  over = is.over;
  walk = record {
    owes_settled = is.owes_settled;
    owes_held = λ fine. is.owes_held;
    place = λ r here. absurd (cc here);
    come_to = λ r here. absurd (cc here);
    from_start = λ n here. (let at : s ≡ n = cc here in omega (arith, at));
    start_within = λ ahead u held. position_fits size (size_of (shown u)) p (fits u held);
    start_kept = λ fine over. absurd (over.not_ahead over.begun);
    ends = λ ended. absurd (cc ended);
  };
  disk = λ t. record {
    sealed = is.disk t;
    gone_over = λ fine q u held over read. absurd (over.not_ahead over.begun);
    unopened = λ fine. is.unopened t;
    place = λ r here. absurd (cc here);
  };
}

-- a replay that was drained, where it has not failed, has gone over its start, which is within its section
pub finished_start : {F S : Type 0} {gs : _} (size : ℕ) (w : Walk F (PageBlob S gs)) (j : Lists F (PageBlob S gs)) → HasWalk size w → w.failed ≡ false → IsDrained w → j.sections ≡ w.journal.sections
    → (u : PageBlob S gs) → j.sections.held w.start_section ≡ Some u → w.start_position * size ≤ size_of (shown u)
finished_start size w j walk fine drained same u held =
    let here : w.journal.sections.held w.start_section ≡ Some u = (λ i. (sym same i).held w.start_section) ∙ held in
    walk.start_kept fine (record {
      begun = omega arith;
      not_ahead = λ ahead. drained.last w.start_section (some_there (w.journal.sections.held w.start_section) u here) ahead;
      not_in = λ there. none_in w.place (λ r. r.section ≡ w.start_section) drained.between there;
    }) u here

-- what owes a replay yet owed one before
module _ {F B : Type 0} (w : Walk F B) (j : Lists F B) (recovered : (s : ℕ) → (w.start_section < s) ⊎ ((w.start_position ≡ 0) × (w.start_section ≡ s)) → j.unrecovered s ≡ false)
    (kept : (s : ℕ) → (s < w.start_section) ⊎ ((0 < w.start_position) × (w.start_section ≡ s)) → j.unrecovered s ≡ w.journal.unrecovered s) where
  pub owed_before : (s : ℕ) → IsTrue (j.unrecovered s) → IsTrue (w.journal.unrecovered s)
  owed_before s owed = elim (cases_order s w.start_section) [
    | inl at ↦ elim (cases_lt 0 w.start_position) [
      | inl some ↦ subst IsTrue (kept s (inr (some, sym at))) owed
      | inr none ↦ (let start : w.start_position ≡ 0 = omega (arith, none) in let done = recovered s (inr (start, sym at)) in absurd (cc (done, owed)))
    ]
    | inr (inl before) ↦ subst IsTrue (kept s (inl before)) owed
    | inr (inr behind) ↦ (let done = recovered s (inl behind) in absurd (cc (done, owed)))
  ]

module _ {F S : Type 0} {gs : _} (w : Walk F (PageBlob S gs)) (j : Lists F (PageBlob S gs)) (same : j.sections ≡ w.journal.sections) where
  pub finished_held : w.failed ≡ false → ((s : ℕ) → IsTrue (j.unrecovered s) → IsTrue (w.journal.unrecovered s)) → (w.failed ≡ false → OwesHeld w.journal) → OwesHeld j
  finished_held fine before held = record { held = λ s owed. subst (λ (m : Sections F (PageBlob S gs)). IsHeld m s) (sym same) ((held fine).held s (before s owed)) }

  pub finished_settled : ((s : ℕ) → IsTrue (j.unrecovered s) → IsTrue (w.journal.unrecovered s)) → OwesSettled w.journal → OwesSettled j
  finished_settled before settled = record { settled = λ s u held owed. settled.settled s u ((λ i. (sym same i).held s) ∙ held) (before s owed) }

  pub finished_unopened : UnopenedLater w.journal → UnopenedLater j
  finished_unopened has = record { later = λ s is. subst (λ (m : Sections F (PageBlob S gs)). IsSome (m.unopened s) → m.ceiling < s) (sym same) (has.later s) is }
