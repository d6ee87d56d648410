-- How a cut of one section of a fixed journal ends.
use Rattle.std.proofs.Common.{◌≡◌, ◌≢◌, ◌⊎◌, inl, inr, ℕ, ◌%◌, ◌^◌, ◌<◌, min, false, List, Option, None, Some, IsSome, IsSomeAnd, Result, Ok, Err, refl, sym, subst, arith}
use Rattle.blob_device.specs.Timeline.{disk}
use Rattle.blob_device.specs.declared.device.Device as device
use Rattle.blob_device.specs.lemmas.Moments.{always_now}
use Rattle.sealed_pages.specs.Buffer.{size_of}
use Rattle.sealed_pages.specs.Shown.{shown}
use Rattle.sealed_pages.specs.declared.page_blob.PageBlob.{PageBlob}
use Rattle.sealed_pages.specs.lemmas.slots.PageCalls.{only_weaker}
use Rattle.segments.specs.lemmas.adding.Write.{ArePages}
use Rattle.segments.specs.lemmas.cutting.Cut.{cut_journal, cut_prefix, cut_sealing, cut_unsealed}
use Rattle.segments.specs.lemmas.held.Passing.{guard_ok, no_error}
use Rattle.section_manager.specs.Sections.{key_of}
use Rattle.section_manager.specs.Setting.{Setting}
use Rattle.section_manager.specs.declared.buffer.SectionBuffer as buffer
use Rattle.section_manager.specs.declared.journal.Error.{Error}
use Rattle.section_manager.specs.managing.Cutting as sections
use Rattle.section_manager.specs.lemmas.Seen.{err_same, failed_again}
use Rattle.section_manager.specs.lemmas.Keys.{keys_differ}
use Rattle.segments.specs.FixedCutting.{Cuts, IsLongerHere}
use Rattle.segments.specs.FixedLists.{Lists, IsJournal}
use Rattle.segments.proofs.adding.Spared.{bytes_spared}

module _ {F S D : Type 0} {gs : _} (g : buffer.Ghosts (PageBlob S gs)) (gives : F → Setting) (seal : List ℕ → ℕ) (size : ℕ) (dev : device.Ghosts D) (j : Lists F (PageBlob S gs)) (section n : ℕ) (old new : D)
    (pages : ArePages g seal) (journal : IsJournal g gives seal size dev.Tells j (dev.opened old) (disk (dev.time old))) where
  -- a buffer is longer where it has more bytes
  longer : (o : Option (PageBlob S gs)) → IsSomeAnd o (λ u. n < g.byte_count u) → IsSomeAnd o (λ u. n < size_of (shown u))
  longer None has = has
  longer (Some u) has = omega (arith, has, pages.count u)

  -- the manager's cut failed
  pub cut_failed : (r : Result (Lists F (PageBlob S gs)) Error) (e : Error) → r ≡ Err e → sections.CutsOne g gives dev j.sections section n (section < j.sections.floor) old new (Err e)
      → Cuts g gives seal size dev j section n old r new
  cut_failed r e is did = subst (λ (x : Result (Lists F (PageBlob S gs)) Error). Cuts g gives seal size dev j section n old x new) (sym is) (record {
    over = tt;
    cut = tt;
    absent = tt;
    unopened = tt;
    others = tt;
    spares = λ t. tt;
    bounds = tt;
    emptied = λ none. tt;
    unrecovered = tt;
    lowered = tt;
    floors = tt;
    alone = λ t. only_weaker (dev.time old) (dev.time new) (key_of j.sections section) (disk (dev.time old)) _ (λ b. Unit {0}) (λ x leaves. tt) (did.moments t);
    moments = λ t u held sealed. cut_sealing seal size dev.Tells g pages gives j (dev.opened old) (dev.time old) (dev.time new) journal section n t u held (did.moments t) sealed;
    prefix = λ t u held owes. cut_prefix seal size dev.Tells g pages gives j (dev.opened old) (dev.time old) (dev.time new) journal section n t u held (did.moments t) owes;
    unsealed = λ t u held un. cut_unsealed seal size dev.Tells g pages gives j (dev.opened old) (dev.time old) (dev.time new) journal section n t u held (did.moments t) un;
    idle = λ short. did.idle (λ has. short (longer (j.sections.held section) has));
    entries = did.entries;
    guard = (λ pruned. did.guard.0 (err_same pruned), λ below. err_same (did.guard.1 below));
    refuses = did.refuses;
    faults = did.faults;
    damage = λ t (k, bad). did.damage t (k, err_same bad);
    cause = elim did.cause [
      | inl pruned ↦ inl (err_same pruned)
      | inr (inl (k, bad)) ↦ inr (inl (k, err_same bad))
      | inr (inr failed) ↦ inr (inr (failed_again e (dev.faults old) (dev.faults new) failed))
    ];
  })

  -- it was cut, and the journal's notes follow
  pub cut_made : (k : Lists F (PageBlob S gs)) → section < 2 ^ 64 → (IsLongerHere g gives seal size dev j section n old → n % size ≡ 0) → sections.CutsOne g gives dev j.sections section n (section < j.sections.floor) old new (Ok k.sections)
      → ((q : ℕ) → (q ≢ section) ⊎ (0 < n) → k.unrecovered q ≡ j.unrecovered q) → (n ≡ 0 → k.unrecovered section ≡ false) → k.floor_of section ≡ min (j.floor_of section) n
      → ((q : ℕ) → q ≢ section → k.floor_of q ≡ j.floor_of q) → Cuts g gives seal size dev j section n old (Ok k) new
  cut_made k small whole did owes emptied lowered floors = record {
    over = cut_journal seal size dev.Tells g pages gives j (dev.opened old) (dev.time old) (dev.time new) journal section n k _ small did.bounds did.unopened owes emptied lowered floors (dev.opened new) did.over did.cut did.absent did.others
        whole did.moments;
    cut = did.cut;
    absent = did.absent;
    unopened = did.unopened;
    others = did.others;
    spares = λ t q other. bytes_spared j.sections k.sections (disk (dev.time old)) (disk (dev.time new)) q (did.others q other) did.bounds.place
        (λ u held. (always_now (dev.time old) (dev.time new) _ (did.moments t)).others (key_of j.sections q)
        (keys_differ j.sections.partition q section (journal.over.opened_list.number q (inl (subst IsSome (sym held) refl))) small other));
    bounds = did.bounds;
    emptied = emptied;
    unrecovered = owes;
    lowered = lowered;
    floors = floors;
    alone = λ t. only_weaker (dev.time old) (dev.time new) (key_of j.sections section) (disk (dev.time old)) _ (λ b. Unit {0}) (λ x leaves. tt) (did.moments t);
    moments = λ t u held sealed. cut_sealing seal size dev.Tells g pages gives j (dev.opened old) (dev.time old) (dev.time new) journal section n t u held (did.moments t) sealed;
    prefix = λ t u held is. cut_prefix seal size dev.Tells g pages gives j (dev.opened old) (dev.time old) (dev.time new) journal section n t u held (did.moments t) is;
    unsealed = λ t u held un. cut_unsealed seal size dev.Tells g pages gives j (dev.opened old) (dev.time old) (dev.time new) journal section n t u held (did.moments t) un;
    idle = λ short. did.idle (λ has. short (longer (j.sections.held section) has));
    entries = did.entries;
    guard = guard_ok k k.sections j.sections.floor (section < j.sections.floor) did.guard;
    refuses = did.refuses;
    faults = did.faults;
    damage = λ t (k, bad). absurd (no_error _ _ bad);
    cause = tt;
  }
