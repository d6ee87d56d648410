-- Steps of opening both parts of a pair: which sections are known, and what one part's opening says of the disk before the
-- other's. Also what each part does not answer.
use Rattle.std.specs.Prelude.{◌≡◌, ◌⊎◌, ◌↔◌, ℕ, ◌+◌, ◌-◌, ◌*◌, ◌^◌, ◌<◌, ◌≤◌, List, IsTrue, IsSome, IsSomeAnd, Option, None, Some, unwrap_or, Result, Err}
use Rattle.std.proofs.Common.{inl, inr, refl, sym, ◌∙◌, ap, subst, arith}
use Rattle.std.specs.Result.{IsErrOf}
use Rattle.blob_device.specs.Disk.{Blob, Disk}
use Rattle.blob_device.specs.Opened.{OpenedList}
use Rattle.blob_device.specs.declared.device.Device as device
use Rattle.sealed_pages.specs.Reads.{IsCovered}
use Rattle.sealed_pages.specs.SealedPrefix.{data_from}
use Rattle.sealed_pages.specs.View.{view}
use Rattle.sealed_pages.specs.declared.page_blob.PageBlob.{PageBlob}
use Rattle.value_codec.specs.declared.codec.Error as codec
use Rattle.section_manager.specs.declared.buffer.SectionBuffer as buffer
use Rattle.section_manager.specs.declared.journal.Damage.{Damage}
use Rattle.section_manager.specs.declared.journal.Error.{Error}
use Rattle.section_manager.specs.declared.journal.Error.TheVariants as journal
use Rattle.section_manager.specs.Refusing.{HasFailed, IsForeign}
use Rattle.section_manager.specs.Sections.{Sections, section_key, IsOver}
use Rattle.section_manager.specs.Setting.{Setting}
use Rattle.segments.specs.declared.fixed.preflighting.Target.{Target}
use Rattle.segments.specs.FixedCheckpoint.{Finishes, GivesCheckpoint}
use Rattle.segments.specs.FixedLists.{Lists}
use Rattle.segments.specs.FixedFloors.{IsRefused}
use Rattle.paired.specs.Kept.{Layout}
use Rattle.paired.specs.OpeningRefusing.{IsLost, IsUnreadable}
use Rattle.paired.proofs.opening.StartCauses.{PartsRefuse}
use Rattle.blob_device.proofs.general.Options.{none_or_value, value_of}

-- A section that is known is held, where what is not stands above a bound that no number passes.
pub unknown : {F B : Type 0} {g : buffer.Ghosts B} {gives : F → Setting} {told : Type 0} (m : Sections F B) (opened : OpenedList) (d : Disk) (ceiling : ℕ) → IsOver g gives told m opened d → 2 ^ 64 ≤ ceiling + 1
    → ((s : ℕ) → IsSome (m.unopened s) → ceiling < s) → (s : ℕ) → m.unopened s ≡ None
unknown m opened d ceiling over high later s = elim (none_or_value (m.unopened s)) [
  | inl none ↦ none
  | inr some ↦
      let has : IsSome (m.unopened s) = subst IsSome (sym some.1) refl in
      absurd (omega (arith, later s has, over.opened_list.number s (inr has), high))
]

-- what is held by a blob that is there is held by one that was there
pub held_before : {Held : Type 0} (b c : Blob) (s ceiling : ℕ) → (Held ↔ (IsTrue b.there × (s ≤ ceiling))) → s ≤ ceiling → b.there ≡ c.there → Held ↔ IsTrue c.there
held_before b c s ceiling both up_to same = (λ held. sym same ∙ (both.0 held).0, λ there. both.1 (same ∙ there, up_to))

pub foreign_as : (d e : Disk) (partition name : List ℕ) → (d (partition, name)).there ≡ (e (partition, name)).there → IsForeign d partition name → IsForeign e partition name
foreign_as d e partition name same is = record { there = sym same ∙ is.there; size = is.size }

-- the section of a key with another name for the partition
pub named_key : (p q : List ℕ) (s : ℕ) → p ≡ q → section_key p s ≡ section_key q s
named_key p q s same = ap (λ (x : List ℕ). section_key x s) same

-- the floor of a section, where it is so many items as a map says
pub floor_given : (o : Option ℕ) (floor size : ℕ) → ((n : ℕ) → o ≡ Some n → floor ≡ n * size) → (o ≡ None → floor ≡ 0) → floor ≡ unwrap_or o 0 * size
floor_given None floor size some none = none refl ∙ (let e : 0 ≡ 0 * size = omega arith in e)
floor_given (Some n) floor size some none = some n refl

-- where markers were checked, a journal is finished as it was opened
pub given : {F S D : Type 0} {gs : _} (g : buffer.Ghosts (PageBlob S gs)) (gives : F → Setting) (seal : List ℕ → ℕ) (size : ℕ) (dev : device.Ghosts D)
    (j : Lists F (PageBlob S gs)) (result : Result (Lists F (PageBlob S gs)) Error) (old new : D) (target : Option Target) → target ≡ None
    → Finishes g gives seal size dev j result old new target → GivesCheckpoint g gives seal size dev j result old new
given g gives seal size dev j result old new target none finishes = subst (Finishes g gives seal size dev j result old new) none finishes

-- ---- refusals of the records
-- a marker that is refused, and a last record that is none, by the partition and the page size by other names
pub refused_lost : (l : Layout) (floors : ℕ → Option ℕ) (d : Disk) (partition : List ℕ) (size : ℕ) (x : Damage) → partition ≡ l.index → size ≡ l.page_size
    → IsSomeAnd (floors x.section) (λ n. IsRefused l.seal size l.record_size (d (section_key partition x.section)) n x) → IsLost l (λ s n. floors s ≡ Some n) d x
refused_lost l floors d partition size x part pages has =
    let w = value_of (floors x.section) (λ n. IsRefused l.seal size l.record_size (d (section_key partition x.section)) n x) has in
    record {
      items = w.value;
      marked = w.is;
      why = inl (subst (λ (p : List ℕ). IsRefused l.seal l.page_size l.record_size (d (section_key p x.section)) w.value x) part
          (subst (λ (k : ℕ). IsRefused l.seal k l.record_size (d (section_key partition x.section)) w.value x) pages w.has));
    }

pub unreadable_found : (l : Layout) (refusal : List ℕ → Unit {0} → Option codec.Error) (floors : ℕ → Option ℕ) (d : Disk) (partition : List ℕ) (size : ℕ) (e : codec.Error) (s n : ℕ) → partition ≡ l.index → size ≡ l.page_size
    → floors s ≡ Some n → 0 < n → refusal (data_from size (view (d (section_key partition s)).content) ((n - 1) * l.record_size) l.record_size) tt ≡ Some e
    → IsCovered l.seal size (d (section_key partition s)).content ((n - 1) * l.record_size) l.record_size → IsUnreadable l (λ t m. floors t ≡ Some m) refusal d e
unreadable_found l refusal floors d partition size e s n part pages marked some refused covered = record {
  section = s;
  items = n;
  marked = marked;
  some = some;
  covered = subst (λ (p : List ℕ). IsCovered l.seal l.page_size (d (section_key p s)).content ((n - 1) * l.record_size) l.record_size) part
      (subst (λ (k : ℕ). IsCovered l.seal k (d (section_key partition s)).content ((n - 1) * l.record_size) l.record_size) pages covered);
  refused = subst (λ (p : List ℕ). refusal (data_from l.page_size (view (d (section_key p s)).content) ((n - 1) * l.record_size) l.record_size) tt ≡ Some e) part
      (subst (λ (k : ℕ). refusal (data_from k (view (d (section_key partition s)).content) ((n - 1) * l.record_size) l.record_size) tt ≡ Some e) pages refused);
}

-- ---- what an opening of the values does not answer
abbrev pub OnlyNamed : {T : Type 0} → Result T Error → ℕ → ℕ → Type 0
OnlyNamed r a b = ((n : List ℕ) × IsErrOf r (journal.InvalidBlobName n)) ⊎ HasFailed r a b

module _ {T U : Type 0} (r : Result T Error) (e : Error) (is : r ≡ Err e) (a b : ℕ) where
  pub named_no_damage : OnlyNamed {T = U} (Err e) a b → (x : Damage) → IsErrOf r (journal.Corruption x) → ⊥
  named_no_damage (inl named) x has = cc (is, named.1, has)
  named_no_damage (inr (inl memory)) x has = cc (is, memory, has)
  named_no_damage (inr (inr fault)) x has = cc (is, fault.0, has)

  pub named_no_codec : OnlyNamed {T = U} (Err e) a b → (x : codec.Error) → IsErrOf r (journal.Codec x) → ⊥
  named_no_codec (inl named) x has = cc (is, named.1, has)
  named_no_codec (inr (inl memory)) x has = cc (is, memory, has)
  named_no_codec (inr (inr fault)) x has = cc (is, fault.0, has)

-- why both parts' opening fails, where the one part's does
module _ {T : Type 0} (r : Result T Error) (a b : ℕ) where
  pub named_refuse : OnlyNamed r a b → PartsRefuse r a b
  named_refuse (inl named) = inl named
  named_refuse (inr failed) = inr (inr (inr failed))

-- a check of the markers' sections answers damage or want of memory alone
pub only_damage : {T U : Type 0} (r : Result T Error) (e : Error) → r ≡ Err e → ((x : Damage) × IsErrOf {T = U} (Err e) (journal.Corruption x)) ⊎ IsErrOf {T = U} (Err e) journal.Mem
    → (y : Error) → ((x : Damage) → journal.Corruption x ≡ y → ⊥) → (journal.Mem ≡ y → ⊥) → r ≡ Err y → ⊥
only_damage r e is (inl damage) y none_damage none_memory has = none_damage damage.0 (cc (is, damage.1, has))
only_damage r e is (inr memory) y none_damage none_memory has = none_memory (cc (is, memory, has))

pub same_damage : {T : Type 0} (x y : Damage) → ◌≡◌ {A = Result T Error} (Err (journal.Corruption x)) (Err (journal.Corruption y)) → x ≡ y
same_damage x y is = cc is
