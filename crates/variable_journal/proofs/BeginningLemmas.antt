-- Where a replay of frames begins.
use Rattle.std.specs.Prelude.{◌≡◌, ℕ, ◌/◌, ◌<◌, ◌≤◌, List, Option, Some, None, IsSomeAnd}
use Rattle.std.proofs.Common.{sym, ap, ◌∙◌, subst, arith}
use Rattle.blob_device.specs.Disk.{Disk}
use Rattle.sealed_pages.specs.declared.page_blob.PageBlob.{PageBlob}
use Rattle.section_manager.specs.Sections.{IsHeld}
use Rattle.segments.specs.FixedLists.{Lists}
use Rattle.segments.specs.FixedReplay.{Walk, Begins}
use Rattle.variable_journal.specs.Lists.{AreFramed}
use Rattle.variable_journal.specs.Replaying.{AreWalked, IsStart}
use Rattle.variable_journal.proofs.LookingLemmas.{some_and}

module _ {F S : Type 0} {gs : _} (seal : List ℕ → ℕ) (j : Lists F (PageBlob S gs)) (s o : ℕ) (w : Walk F (PageBlob S gs)) (begins : Begins j s o w) where
  pub begun_free : ((t : ℕ) → j.floor_of t ≡ 0) → (t : ℕ) → w.journal.floor_of t ≡ 0
  begun_free free t = ap (λ (x : Lists F (PageBlob S gs)). x.floor_of t) begins.journal ∙ free t

  pub begun_walked : (d : Disk) → AreFramed j d → (IsHeld j.sections s → IsStart seal j d s o) → AreWalked seal w d
  begun_walked d framed start = record {
    start = λ going near held.
        let held_j : IsHeld j.sections s = subst (λ (x : Lists F (PageBlob S gs)). IsHeld x.sections s) begins.journal (subst (IsHeld w.journal.sections) begins.section held) in
        subst (λ (x : Lists F (PageBlob S gs)). IsStart seal x d w.start_section w.start_position) (sym begins.journal)
        (subst (λ (n : ℕ). IsStart seal j d n w.start_position) (sym begins.section) (subst (IsStart seal j d s) (sym begins.position) (start held_j)));
    framed = subst (λ (x : Lists F (PageBlob S gs)). AreFramed x d) (sym begins.journal) framed;
    gone_over = λ fine t over. absurd (over.not_ahead (some_and w.next_section (λ (n : ℕ). n ≤ t) s begins.first (omega (arith, over.begun, begins.section))));
  }

-- a number of bytes at one byte an item
pub past_one : {A : Type 0} (o : Option A) (size : A → ℕ) (n : ℕ) → (IsSomeAnd o (λ u. size u / 1 < n) → IsSomeAnd o (λ u. size u < n)) × (IsSomeAnd o (λ u. size u < n) → IsSomeAnd o (λ u. size u / 1 < n))
past_one None size n = (λ no. no, λ no. no)
past_one (Some u) size n = (λ lt. omega (arith, lt), λ lt. omega (arith, lt))
