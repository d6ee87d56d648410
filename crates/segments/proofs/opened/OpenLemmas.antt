-- Opening a fixed journal: which sections owe a replay, and that the journal may be used.
use Rattle.std.proofs.Common.{◌≡◌, ◌≢◌, ◌⊎◌, ◌↔◌, inl, inr, ℕ, ◌%◌, ◌^◌, ◌<◌, ◌≤◌, Bool, false, List, [], Option, None, Some, IsSome, IsTrue, Result, Ok, Err, OnErr, refl, sym, ◌∙◌, ap, subst, arith}
use Rattle.std.specs.List.{Contains}
use Rattle.std.specs.Result.{IsErrOf}
use Rattle.blob_device.specs.declared.runtime.RError.TheVariants.{Fault}
use Rattle.blob_device.specs.Disk.{Disk}
use Rattle.blob_device.specs.Opened.{OpenedList}
use Rattle.sealed_pages.specs.Buffer.{size_of}
use Rattle.sealed_pages.specs.declared.page_blob.PageBlob.{PageBlob}
use Rattle.sealed_pages.specs.Shown.{shown}
use Rattle.section_manager.specs.declared.buffer.SectionBuffer as buffer
use Rattle.section_manager.specs.declared.journal.Error.{Error}
use Rattle.section_manager.specs.declared.journal.Error.TheVariants.{Runtime, InvalidBlobName, Mem}
use Rattle.section_manager.specs.declared.unopened.Unopened.{Unopened}
use Rattle.section_manager.specs.declared.unopened.Unopened.TheVariants.{Section, Leftover}
use Rattle.std.specs.BTreeMap.{BTreeMap, is_at}
use Rattle.std.specs.Map.{lookup}
use Rattle.std.specs.Option.{unwrap_or}
use Rattle.std.specs.Ordering.{nat_cmp}
use Rattle.section_manager.specs.Refusing.{HasFailed}
use Rattle.section_manager.specs.SealedLaws.{all_settled}
use Rattle.section_manager.specs.Sections.{Sections, section_key, key_of, IsHeld, IsOver}
use Rattle.section_manager.specs.Setting.{Setting}
use Rattle.segments.specs.FixedLists.{floor_in, size_held, section_size, section_bytes, IsJournal}
use Rattle.segments.specs.lemmas.adding.Write.{ArePages, journal_of}
use Rattle.segments.specs.lemmas.cutting.Cut.{empty_sealed}
use Rattle.blob_device.proofs.general.Options.{none_or_value}

size_some : {S : Type 0} {gs : _} (o : Option (PageBlob S gs)) → 0 < size_held o → IsSome o
size_some None pos = absurd (omega (arith, pos))
size_some (Some u) pos = refl

-- what an opening refuses with is what its manager did
pub opened_cause : {T U : Type 0} (e : Error) (r : Result U Error) (before now : ℕ) → r ≡ Err e → ((n : List ℕ) × IsErrOf {T = T} (Err e) (InvalidBlobName n)) ⊎ HasFailed {T = T} (Err e) before now
    → OnErr r (((n : List ℕ) × IsErrOf r (InvalidBlobName n)) ⊎ HasFailed r before now)
opened_cause e (Ok v) before now is cause = tt
opened_cause e (Err x) before now is (inl foreign) = (let same : e ≡ InvalidBlobName foreign.0 = cc foreign.1 in inl (foreign.0, is ∙ ap Err same))
opened_cause e (Err x) before now is (inr (inl memory)) = (let same : e ≡ Mem = cc memory in inr (inl (is ∙ ap Err same)))
opened_cause e (Err x) before now is (inr (inr fault)) = (let same : e ≡ Runtime Fault = cc fault.0 in inr (inr (is ∙ ap Err same, fault.1)))

-- a map without entries gives no floor
pub no_floor : (m : BTreeMap ℕ ℕ) → m.entries ≡ [] → (s : ℕ) → floor_in m s ≡ 0
no_floor m none s = ap (λ (es : List (ℕ × ℕ)). unwrap_or (lookup (is_at (nat_cmp s)) es) 0) none

-- the sections with more bytes than their floor that were gone through are known, and the others are ahead
pub record Longer {F S : Type 0} {gs : _} (m : Sections F (PageBlob S gs)) (floors : ℕ → ℕ) (has : ℕ → Bool) (ahead : List ℕ) : Type 0 where
  pub sound : (s : ℕ) → IsTrue (has s) → floors s < section_size m s
  pub whole : (s : ℕ) → floors s < section_size m s → IsTrue (has s) ⊎ Contains ahead s

module _ {F S : Type 0} {gs : _} (seal : List ℕ → ℕ) (size : ℕ) (told : Type 0) (g : buffer.Ghosts (PageBlob S gs)) (pages : ArePages g seal) (gives : F → Setting) (m : Sections F (PageBlob S gs)) (opened : OpenedList) (d : Disk)
    (over : IsOver g gives told m opened d) where
  -- what is unopened stands above the ceiling
  pub above_ceiling : (There : ℕ → Type 0) → ((s : ℕ) → m.unopened s ≢ Some Leftover) → (ceiling : ℕ) → m.ceiling ≡ ceiling → ((s : ℕ) → s < 2 ^ 64 → (m.unopened s ≡ Some Section) ↔ (There s × (ceiling < s)))
      → (s : ℕ) → IsSome (m.unopened s) → m.ceiling < s
  above_ceiling There leftover ceiling same above s some = go (m.unopened s) refl
    where
      go : (o : Option Unopened) → m.unopened s ≡ o → m.ceiling < s
      go None is = absurd (cc (subst IsSome is some))
      go (Some Section) is = omega (arith, same, ((above s (over.opened_list.number s (inr some))).0 is).1)
      go (Some Leftover) is = absurd (leftover s is)

  -- the journal of a manager that has just been opened: a section owes a replay where it has more than its floor
  pub opened_journal : (has : ℕ → Bool) (floors : ℕ → ℕ) → ((s : ℕ) (u : PageBlob S gs) → m.held s ≡ Some u → g.unsettled u ≡ false) → ((s : ℕ) → IsTrue (has s) ↔ (floors s < section_size m s))
      → ((s : ℕ) → floors s ≤ section_size m s) → ((s : ℕ) → floors s % size ≡ 0) → (told → (s : ℕ) → IsSome (m.unopened s) → m.ceiling < s)
      → IsJournal g gives seal size told (record { sections = m; unrecovered = has; floor_of = floors }) opened d
  opened_journal has floors idle filled reached whole later = journal_of seal size told g gives (record { sections = m; unrecovered = has; floor_of = floors }) opened d over (λ s. record {
    owes_held = λ is. (let more = (filled s).0 is in size_some (m.held s) (omega (arith, more)));
    owes_settled = λ u held is. all_settled (shown u) (sym (pages.unsettled u) ∙ idle s u held);
    sealed = λ t u held is. empty_sealed seal (shown u) (d (key_of m s)) u.fit.begun (exact s u held is.checked ∙ is.free) (pages.stands u (d (key_of m s)) ((over.disk t).stands s u held)).adopted;
    whole = λ t u held is. ap (λ (n : ℕ). n % size) (exact s u held is) ∙ whole s;
    later = λ t is. later t s is;
  })
    where
      exact : (s : ℕ) (u : PageBlob S gs) → m.held s ≡ Some u → has s ≡ false → size_of (shown u) ≡ floors s
      exact s u held is =
          let long : section_size m s ≡ size_of (shown u) = rw held refl in
          let none : floors s < section_size m s → ⊥ = λ more. absurd (cc ((filled s).1 more, is)) in
          omega (arith, long, none, reached s)

  -- the bytes of each section are those that a buffer finds in its blob
  pub opened_bytes : (partition : List ℕ) (factory : F) (old : Disk) → m.partition ≡ partition → m.factory ≡ factory
      → ((s : ℕ) (u : PageBlob S gs) → m.held s ≡ Some u → g.bytes u (d (section_key partition s)).content ≡ g.holds (gives factory) (old (section_key partition s)).content)
      → (s : ℕ) → IsHeld m s → section_bytes m d s ≡ g.holds (gives m.factory) (old (section_key partition s)).content
  opened_bytes partition factory old same made bytes s held = elim (none_or_value (m.held s)) [
    | inl none ↦ absurd (cc (subst IsSome none held))
    | inr u ↦ rw u.1 (sym (pages.bytes u.0 (d (key_of m s)).content) ∙ ap (λ (p : List ℕ). g.bytes u.0 (d (section_key p s)).content) same ∙ bytes s u.0 u.1 ∙ ap (λ (f : F). g.holds (gives f) (old (section_key partition s)).content) (sym made))
  ]
