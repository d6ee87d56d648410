-- Two calls on sections of a manager, one after the other, and a buffer that was cut over its blob.
use Rattle.std.specs.Prelude.{◌≡◌, ◌≢◌, ℕ, ◌<◌, ◌≤◌, List}
use Rattle.std.proofs.Common.{inl, inr, sym, ◌∙◌, ap, subst}
use Rattle.std.proofs.lemmas.Bool.{cases_lt}
use Rattle.blob_device.specs.Disk.{Key}
use Rattle.blob_device.specs.Opened.{OpenedList}
use Rattle.blob_device.specs.Timeline.{Timeline, disk}
use Rattle.sealed_pages.specs.declared.page_blob.PageBlob.{PageBlob}
use Rattle.sealed_pages.specs.Shown.{shown}
use Rattle.sealed_pages.specs.Buffer.{key_of, size_of}
use Rattle.sealed_pages.specs.Cutting.{StandsSettled}
use Rattle.sealed_pages.specs.Entries.{IsOpenAt}
use Rattle.section_manager.specs.declared.buffer.SectionBuffer as buffer
use Rattle.section_manager.specs.Entries.{OnlyOwnEntry}
use Rattle.section_manager.specs.Sealed.{Stands}
use Rattle.section_manager.specs.Setting.{Setting}
use Rattle.section_manager.specs.Sections.{Sections, IsSame, SameBounds, IsOver}
use Rattle.segments.specs.FixedStepping.{IsCutBack}

-- two changes of other sections, and of none of the bounds
pub bounds_then : {F B : Type 0} (m n p : Sections F B) → SameBounds m n → SameBounds n p → SameBounds m p
bounds_then m n p first second = record {
  place = record { partition = second.place.partition ∙ first.place.partition; factory = second.place.factory ∙ first.place.factory };
  floor = second.floor ∙ first.floor;
  ceiling = second.ceiling ∙ first.ceiling;
}

pub same_then : {F B : Type 0} (m n p : Sections F B) (q : ℕ) → IsSame m n q → IsSame n p q → IsSame m p q
same_then m n p q first second = record { held = second.held ∙ first.held; unopened = second.unopened ∙ first.unopened }

-- a manager is over what it was, where no call was made
pub over_same : {F B : Type 0} (g : buffer.Ghosts B) (gives : F → Setting) {told : Type 0} (m : Sections F B) (o p : OpenedList) (a b : Timeline) → p ≡ o → b ≡ a → IsOver g gives told m o (disk a) → IsOver g gives told m p (disk b)
over_same g gives {told = told} m o p a b entries times over = subst (λ (x : OpenedList). IsOver g gives told m x (disk b)) (sym entries) (subst (λ (t : Timeline). IsOver g gives told m o (disk t)) (sym times) over)

-- entries of another key
pub own_entries : (k K : Key) (o p q : OpenedList) → k ≡ K → p ≡ o → ((x : Key) → x ≢ k → q x ≡ p x) → OnlyOwnEntry K o q
own_entries k K o p q key same others x other = others x (λ is. other (is ∙ key)) ∙ ap (λ (l : OpenedList). l x) same

-- the blob of a buffer is opened at the section's key
pub open_at : {S : Type 0} {gs : _} (v : PageBlob S gs) (K : Key) (o : OpenedList) → key_of (shown v) ≡ K → IsOpenAt o (key_of (shown v)) v.end → IsOpenAt o K v.end
open_at v K o key is = subst (λ (k : Key). IsOpenAt o k v.end) key is

-- a buffer that was cut stands over the blob
pub cut_stands : {S : Type 0} {gs : _} (seal : List ℕ → ℕ) {told : Type 0} (bu v : PageBlob S gs) (K : Key) (a0 b : Timeline) (key : key_of (shown bu) ≡ K) (n : ℕ) (t : told) → Stands seal (shown bu) (disk a0 K) → bu.settled ≡ size_of (shown bu)
    → IsCutBack seal told bu (disk a0 K) v (disk b K) n → (n < size_of (shown bu) → StandsSettled (disk b (key_of (shown bu)))) → (size_of (shown bu) ≤ n → b ≡ a0) → Stands seal (shown v) (disk b K)
cut_stands seal bu v K a0 b key n t stands settled cut rests idle = record {
  adopted = inl (cut.sealed t);
  rest = λ all. elim (cases_lt n (size_of (shown bu))) [
    | inl less ↦ subst (λ (k : Key). StandsSettled (disk b k)) key (rests less)
    | inr past ↦ subst (λ (x : Timeline). StandsSettled (disk x K)) (sym (idle past)) (stands.rest settled)
  ];
}
