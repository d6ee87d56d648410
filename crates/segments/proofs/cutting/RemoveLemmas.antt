-- A fixed journal after sections of it were removed.
use Rattle.std.proofs.Common.{◌≡◌, inl, inr, ℕ, ◌<◌, ◌≤◌, ◌^◌, false, List, Some, sym, ◌∙◌, ap, subst, arith}
use Rattle.std.specs.Int.{w64, to_be_bytes, from_be_bytes}
use Rattle.std.proofs.lemmas.Bool.{cases_lt}
use Rattle.std.proofs.lemmas.Nat.{from_be_bytes-to_be_bytes_8}
use Rattle.blob_device.specs.Disk.{Key, Blob, Disk}
use Rattle.blob_device.specs.Opened.{OpenedList}
use Rattle.sealed_pages.specs.declared.page_blob.PageBlob.{PageBlob}
use Rattle.sealed_pages.specs.Buffer.{IsSealed}
use Rattle.sealed_pages.specs.Shown.{shown}
use Rattle.section_manager.specs.declared.buffer.SectionBuffer as buffer
use Rattle.section_manager.specs.Setting.{Setting}
use Rattle.section_manager.specs.Sections.{key_of, IsKnown, IsGone, IsSame, IsKeyOf, SamePlace, IsOver}
use Rattle.segments.specs.FixedLists.{Lists, section_bytes, IsJournal}
use Rattle.segments.specs.lemmas.adding.Write.{proven_back}
use Rattle.segments.specs.lemmas.held.Sections.{is_held}
use Rattle.segments.proofs.adding.Spared.{bytes_spared}

pub same_number : (m n : ℕ) → m < 2 ^ 64 → n < 2 ^ 64 → to_be_bytes w64 m ≡ to_be_bytes w64 n → m ≡ n
same_number m n fits fits' same = sym (from_be_bytes-to_be_bytes_8 m fits) ∙ ap (from_be_bytes w64) same ∙ from_be_bytes-to_be_bytes_8 n fits'

module _ {F S : Type 0} {gs : _} (g : buffer.Ghosts (PageBlob S gs)) (gives : F → Setting) (seal : List ℕ → ℕ) (size : ℕ) (told : Type 0) (n : Lists F (PageBlob S gs)) (b : OpenedList) (e : Disk) (over : IsOver g gives told n.sections b e) where
  -- no section is left
  pub journal_cleared : ((s : ℕ) → IsGone n.sections s) → ((s : ℕ) → n.unrecovered s ≡ false) → IsJournal g gives seal size told n b e
  journal_cleared gone none = record {
    over = over;
    owes_held = record { held = λ s owes. absurd (cc (owes, none s)) };
    owes_settled = record { settled = λ s u held owes. absurd (cc (owes, none s)) };
    disk = λ t. record {
      sealed = λ s u held checked. absurd (cc (held, (gone s).held));
      whole = λ s u held checked. absurd (cc (held, (gone s).held));
    };
    unopened = λ t. record { later = λ s known. absurd (cc (rw (gone s).unopened at known)) };
  }

  module _ (j : Lists F (PageBlob S gs)) (least : ℕ) (a : OpenedList) (d : Disk) (is : IsJournal g gives seal size told j a d) (removed : (s : ℕ) → s < least → IsGone n.sections s) (kept : (s : ℕ) → least ≤ s → IsSame j.sections n.sections s) where
    -- a section that is held was held before, and is none of those that were removed
    stayed : (s : ℕ) (u : PageBlob S gs) → n.sections.held s ≡ Some u → (least ≤ s) × (j.sections.held s ≡ Some u)
    stayed s u held = elim (cases_lt s least) [
      | inl below ↦ absurd (cc (held, (removed s below).held))
      | inr from ↦ (from, sym (kept s from).held ∙ held)
    ]

    apart : (s : ℕ) (u : PageBlob S gs) → least ≤ s → j.sections.held s ≡ Some u → IsKeyOf j.sections (λ q. IsKnown j.sections q × (q < least)) (key_of j.sections s) → ⊥
    apart s u from held (q, doomed, same) =
        let known : IsKnown j.sections s = inl (is_held j.sections s u held) in
        let numbers = is.over.opened_list.number in
        let name = ap (λ (k : Key). k.1) same in
        absurd (omega (arith, same_number s q (numbers s known) (numbers q doomed.0) name, doomed.1, from))

    pub journal_pruned : SamePlace j.sections n.sections → n.sections.ceiling ≡ j.sections.ceiling → ((s : ℕ) → s < least → n.unrecovered s ≡ false) → ((s : ℕ) → least ≤ s → n.unrecovered s ≡ j.unrecovered s)
        → ((s : ℕ) → least ≤ s → n.floor_of s ≡ j.floor_of s) → (told → (q : Key) → (IsKeyOf j.sections (λ s. IsKnown j.sections s × (s < least)) q → ⊥) → e q ≡ d q) → IsJournal g gives seal size told n b e
    journal_pruned place ceiling below unrecovered floors others = record {
      over = over;
      owes_held = record {
        held = λ s owes. elim (cases_lt s least) [
          | inl less ↦ absurd (cc (owes, below s less))
          | inr from ↦ rw (kept s from).held (is.owes_held.held s (sym (unrecovered s from) ∙ owes))
        ];
      };
      owes_settled = record { settled = λ s u held owes. (let was = stayed s u held in is.owes_settled.settled s u was.1 (sym (unrecovered s was.0) ∙ owes)) };
      disk = λ t. record {
        sealed = λ s u held checked. (let was = stayed s u held in
            let key : key_of n.sections s ≡ key_of j.sections s = ap (λ (p : List ℕ). (p, to_be_bytes w64 s)) place.partition in
            subst (λ (x : Blob). IsSealed seal (shown u) x) (sym (ap e key ∙ others t (key_of j.sections s) (apart s u was.0 was.1))) ((is.disk t).sealed s u was.1 (proven_back j n s (unrecovered s was.0) (floors s was.0) checked)));
        whole = λ s u held checked. (let was = stayed s u held in (is.disk t).whole s u was.1 (sym (unrecovered s was.0) ∙ checked));
      };
      unopened = λ t. record {
        later = λ s known. elim (cases_lt s least) [
          | inl less ↦ absurd (cc (rw (removed s less).unopened at known))
          | inr from ↦ omega (arith, ceiling, (is.unopened t).later s (rw (kept s from).unopened at known))
        ];
      };
    }

    -- a section that is kept has the bytes that it had
    pub pruned_bytes : SamePlace j.sections n.sections → (told → (q : Key) → (IsKeyOf j.sections (λ s. IsKnown j.sections s × (s < least)) q → ⊥) → e q ≡ d q) → told → (s : ℕ) → least ≤ s
        → section_bytes n.sections e s ≡ section_bytes j.sections d s
    pruned_bytes place others t s from = bytes_spared j.sections n.sections d e s (kept s from) place (λ u held. others t (key_of j.sections s) (apart s u from held))
