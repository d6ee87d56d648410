-- How an opening of a section ends.
use Rattle.std.specs.Prelude.{◌≡◌, ◌≢◌, ◌⊎◌, ℕ, ◌^◌, ◌<◌, ◌≤◌, false, None, Some, is_some, IsSome, Result, Ok, Err}
use Rattle.std.proofs.Common.{inl, inr, refl, sym, ◌∙◌, ap, subst, arith}
use Rattle.blob_device.specs.declared.runtime.RError.TheVariants.{Fault, Mem as RMem}
use Rattle.blob_device.specs.declared.runtime.RError.{RError}
use Rattle.blob_device.specs.Counts.{Rose}
use Rattle.blob_device.specs.Disk.{Key, nothing}
use Rattle.blob_device.specs.Opened.{OpenedList, reads_of}
use Rattle.blob_device.specs.Timeline.{disk}
use Rattle.blob_device.specs.declared.device.Device as device
use Rattle.blob_device.specs.lemmas.Moments.{only_start}
use Rattle.section_manager.specs.declared.buffer.SectionBuffer as buffer
use Rattle.section_manager.specs.declared.journal.Error.{Error}
use Rattle.section_manager.specs.declared.journal.Error.TheVariants.{Mem}
use Rattle.section_manager.specs.declared.unopened.Unopened.TheVariants.{Section}
use Rattle.sealed_pages.specs.Entries.{IsOpenAt}
use Rattle.section_manager.specs.Entries.{OnlyOwnEntry, StartsNoRead}
use Rattle.section_manager.specs.Lasting.{IsOpening}
use Rattle.section_manager.specs.Leaving.{AllMoments}
use Rattle.section_manager.specs.managing.Lending.{IsPut, IsRefused}
use Rattle.section_manager.specs.managing.Opening.{Holds, OpensBlob, OpensNext, Takes}
use Rattle.section_manager.specs.Raised.{raised}
use Rattle.section_manager.specs.Refusing.{HasFailed, IsPruned}
use Rattle.section_manager.specs.Sections.{Sections, key_of, HasOpened, IsHeld, IsOver, IsSame, SameBounds}
use Rattle.section_manager.specs.Setting.{Setting}
use Rattle.section_manager.specs.lemmas.Seen.{failed_again, failed_unpruned}
use Rattle.section_manager.proofs.sections.OpenLemmas.{same_sections, unopened_over}
use Rattle.section_manager.specs.lemmas.sections.Over.{over_changed, same_key}
use Rattle.blob_device.proofs.general.Options.{some_same}

module _ {F B D : Type 0} (g : buffer.Ghosts B) (gives : F → Setting) (dev : device.Ghosts D) (m : Sections F B) (s : ℕ) (old : D)
    (over : IsOver g gives dev.Tells m (dev.opened old) (disk (dev.time old))) where
  start : dev.Tells → AllMoments (key_of m s) (IsOpening (disk (dev.time old) (key_of m s))) (dev.time old) (dev.time old)
  start t = only_start (dev.time old) (key_of m s) (IsOpening (disk (dev.time old) (key_of m s))) (inl refl)

  bounds_stay : SameBounds m m
  bounds_stay = record { place = record { partition = refl; factory = refl }; floor = refl; ceiling = refl }

  not_below : IsHeld m s → s < m.floor → ⊥
  not_below held below = omega (arith, below, over.opened_list.from_floor s (inl held))

  -- ---- taking the buffer out

  -- the section is below the floor
  pub take_refused : (r : Result B Error) (e : Error) → r ≡ Err e → IsPruned {T = B} (Err e) m.floor → s < m.floor → Takes g gives dev m s m old old r
  take_refused r e is pruned below = subst (Takes g gives dev m s m old old) (sym is) (record {
    over = over;
    same = tt;
    bytes = λ t none. tt;
    idle = λ none. tt;
    made = λ t none. tt;
    stands = λ t. tt;
    key = tt;
    setting = tt;
    «open» = tt;
    out = tt;
    known = tt;
    others = λ q other. record { held = refl; unopened = refl };
    refused = refl;
    still_section = λ section. section;
    guarded = λ lt. record { held = refl; unopened = refl };
    bounds = bounds_stay;
    untouched = λ held. refl;
    moments = start;
    entries = λ q other. refl;
    reads = λ none q. omega arith;
    guard = (λ yes. below, λ yes. pruned);
    refuses = λ yes. refl;
    held_cause = λ held. absurd (not_below held below);
    faults = omega arith;
    cause = inl pruned;
  })

  -- there is no memory to note it
  pub take_short : m.floor ≤ s → (n : Sections F B) → SameBounds m n → ((q : ℕ) → IsSame m n q) → (r : Result B Error) → r ≡ Err Mem → Takes g gives dev m s n old old r
  take_short from n bounds same r is = subst (λ (x : Result B Error). Takes g gives dev m s n old old x) (sym is) (subst (λ (x : Sections F B). Takes g gives dev m s x old old (Err Mem)) (same_sections m n bounds same) (record {
    over = over;
    same = tt;
    bytes = λ t none. tt;
    idle = λ none. tt;
    made = λ t none. tt;
    stands = λ t. tt;
    key = tt;
    setting = tt;
    «open» = tt;
    out = tt;
    known = tt;
    others = λ q other. record { held = refl; unopened = refl };
    refused = refl;
    still_section = λ section. section;
    guarded = λ lt. record { held = refl; unopened = refl };
    bounds = bounds_stay;
    untouched = λ held. refl;
    moments = start;
    entries = λ q other. refl;
    reads = λ none q. omega arith;
    guard = (λ yes. absurd (cc yes), λ below. absurd (omega (arith, below, from)));
    refuses = λ below. absurd (omega (arith, below, from));
    held_cause = λ held. refl;
    faults = omega arith;
    cause = inr (inl refl);
  }))

  -- it is held
  pub took_held : (u : B) (n : Sections F B) → s < 2 ^ 64 → m.held s ≡ Some u → n.held s ≡ None → n.unopened s ≡ Some Section → ((q : ℕ) → q ≢ s → IsSame m n q) → SameBounds m n
      → Takes g gives dev m s n old old (Ok u)
  took_held u n small was out known others bounds =
      let held : IsHeld m s = ap is_some was in
      record {
        over = unopened_over g gives m m n (dev.opened old) (dev.opened old) (dev.time old) (dev.time old) s small (over.opened_list.from_floor s (inl held)) bounds_stay bounds others out (ap is_some known) (λ q other. refl) start over;
        same = λ w is. some_same u w (sym was ∙ is);
        bytes = λ t none. absurd (cc (none, was));
        idle = λ none. absurd (cc (none, was));
        made = λ t none. absurd (cc (none, was));
        stands = λ t. (over.disk t).stands s u was;
        key = over.opened_list.key s u was;
        setting = over.opened_list.setting s u was;
        «open» = over.opened_list.is_open s u was;
        out = out;
        known = known;
        others = others;
        refused = tt;
        still_section = tt;
        guarded = λ below. absurd (not_below held below);
        bounds = bounds;
        untouched = λ is. refl;
        moments = start;
        entries = λ q other. refl;
        reads = λ none q. omega arith;
        guard = (λ yes. absurd (cc yes), λ below. absurd (not_below held below));
        refuses = λ below. absurd (not_below held below);
        held_cause = λ is. tt;
        faults = omega arith;
        cause = tt;
      }

  -- it is not held: its blob is opened
  module _ (small : s < 2 ^ 64) (from : m.floor ≤ s) (absent : m.held s ≡ None) (new : D) (k : Key) (maker : F) (here : k ≡ key_of m s) (made_by : maker ≡ m.factory) where
    is_none : IsHeld m s → ⊥
    is_none held = cc (subst IsSome absent held)

    refused_as : (n : Sections F B) → SameBounds m n → ((q : ℕ) → q ≢ s → IsSame m n q) → n.held s ≡ None → (n.unopened s ≡ Some Section → m.unopened s ≡ Some Section) → IsRefused s m n
    refused_as n bounds others out still = record {
      held = out ∙ sym absent;
      still_section = λ section. elim section [
        | inl held ↦ absurd (cc (subst IsSome out held))
        | inr unopened ↦ inr (still unopened)
      ];
      guarded = λ below. absurd (omega (arith, below, from));
      others = others;
      bounds = bounds;
    }

    module _ (n : Sections F B) (bounds : SameBounds m n) (others : (q : ℕ) → q ≢ s → IsSame m n q) (out : n.held s ≡ None) (known : IsSome (n.unopened s)) where
      module _ (r : Result B Error) (opens : OpensBlob g gives dev (key_of m s) m.factory old new r) where
        over_now : IsOver g gives dev.Tells n (dev.opened new) (disk (dev.time new))
        over_now = unopened_over g gives m m n (dev.opened old) (dev.opened new) (dev.time old) (dev.time new) s small from bounds_stay bounds others out known opens.entries opens.moments over

      pub open_over : (r : Result B Error) → OpensBlob g gives dev k maker old new r → IsOver g gives dev.Tells n (dev.opened new) (disk (dev.time new))
      open_over r opens = over_now r (subst (λ (x : Key). OpensBlob g gives dev x m.factory old new r) here (subst (λ (f : F). OpensBlob g gives dev k f old new r) made_by opens))

      pub make_failed : (e : Error) → (n.unopened s ≡ Some Section → m.unopened s ≡ Some Section) → OpensBlob g gives dev k maker old new (Err e) → (r : Result B Error) → r ≡ Err e → Takes g gives dev m s n old new r
      make_failed e still opened r is =
          let opens = subst (λ (x : Key). OpensBlob g gives dev x m.factory old new (Err e)) here (subst (λ (f : F). OpensBlob g gives dev k f old new (Err e)) made_by opened) in
          subst (Takes g gives dev m s n old new) (sym is) (record {
            over = over_now (Err e) opens;
            same = tt;
            bytes = λ t none. tt;
            idle = λ none. tt;
            made = λ t none. tt;
            stands = λ t. tt;
            key = tt;
            setting = tt;
            «open» = tt;
            out = tt;
            known = tt;
            others = others;
            refused = out ∙ sym absent;
            still_section = λ section. elim section [
              | inl held ↦ absurd (cc (subst IsSome out held))
              | inr unopened ↦ inr (still unopened)
            ];
            guarded = λ below. absurd (omega (arith, below, from));
            bounds = bounds;
            untouched = λ held. absurd (is_none held);
            moments = opens.moments;
            entries = opens.entries;
            reads = opens.reads;
            guard = (λ pruned. absurd (failed_unpruned {T = B} e m.floor (dev.faults old) (dev.faults new) opens.cause pruned), λ below. absurd (omega (arith, below, from)));
            refuses = λ below. absurd (omega (arith, below, from));
            held_cause = λ held. absurd (is_none held);
            faults = opens.faults;
            cause = inr opens.cause;
          })

      pub made : n.unopened s ≡ Some Section → (u : B) → OpensBlob g gives dev k maker old new (Ok u) → Takes g gives dev m s n old new (Ok u)
      made section u opened =
          let opens = subst (λ (x : Key). OpensBlob g gives dev x m.factory old new (Ok u)) here (subst (λ (f : F). OpensBlob g gives dev k f old new (Ok u)) made_by opened) in
          record {
            over = over_now (Ok u) opens;
            same = λ w is. absurd (cc (absent, is));
            bytes = λ t none. opens.bytes t;
            idle = λ none. opens.idle;
            made = λ t none. opens.made t;
            stands = opens.stands;
            key = opens.key;
            setting = opens.setting;
            «open» = opens.«open»;
            out = out;
            known = section;
            others = others;
            refused = tt;
            still_section = tt;
            guarded = λ below. absurd (omega (arith, below, from));
            bounds = bounds;
            untouched = λ held. absurd (is_none held);
            moments = opens.moments;
            entries = opens.entries;
            reads = opens.reads;
            guard = (λ yes. absurd (cc yes), λ below. absurd (omega (arith, below, from)));
            refuses = λ below. absurd (omega (arith, below, from));
            held_cause = λ held. tt;
            faults = opens.faults;
            cause = tt;
          }

      -- ---- making it, to be held: the opening failed
      pub hold_failed : {T : Type 0} (e : Error) → (n.unopened s ≡ Some Section → m.unopened s ≡ Some Section) → OpensBlob g gives dev k maker old new (Err e) → (r : Result T Error) → r ≡ Err e
          → Holds g gives dev m s n old new r
      hold_failed {T = T} e still opened r is =
          let opens = subst (λ (x : Key). OpensBlob g gives dev x m.factory old new (Err e)) here (subst (λ (f : F). OpensBlob g gives dev k f old new (Err e)) made_by opened) in
          subst (λ (x : Result T Error). Holds g gives dev m s n old new x) (sym is) (record {
            over = over_now (Err e) opens;
            held = tt;
            same = tt;
            bytes = λ t none. tt;
            idle = λ none. tt;
            made = λ t none. tt;
            others = others;
            refused = refused_as n bounds others out still;
            bounds = bounds;
            untouched = λ held. absurd (is_none held);
            moments = opens.moments;
            entries = opens.entries;
            reads = opens.reads;
            guard = (λ pruned. absurd (failed_unpruned {T = T} e m.floor (dev.faults old) (dev.faults new) (failed_again {T = B} {U = T} e (dev.faults old) (dev.faults new) opens.cause) pruned), λ below. absurd (omega (arith, below, from)));
            refuses = λ below. absurd (omega (arith, below, from));
            faults = opens.faults;
            cause = inr (failed_again {T = B} {U = T} e (dev.faults old) (dev.faults new) opens.cause);
          })

      -- the buffer was made, and there was no memory to keep it
      pub hold_short : {T : Type 0} (u : B) → (n.unopened s ≡ Some Section → m.unopened s ≡ Some Section) → OpensBlob g gives dev k maker old new (Ok u) → (o : Sections F B) → SameBounds n o → ((q : ℕ) → IsSame n o q)
          → (r : Result T Error) → r ≡ Err Mem → Holds g gives dev m s o old new r
      hold_short {T = T} u still opened o bounds_on same r is =
          let opens = subst (λ (x : Key). OpensBlob g gives dev x m.factory old new (Ok u)) here (subst (λ (f : F). OpensBlob g gives dev k f old new (Ok u)) made_by opened) in
          subst (λ (x : Result T Error). Holds g gives dev m s o old new x) (sym is)
          (subst (λ (x : Sections F B). Holds g gives dev m s {T = T} x old new (Err Mem)) (same_sections n o bounds_on same) (record {
            over = over_now (Ok u) opens;
            held = tt;
            same = tt;
            bytes = λ t none. tt;
            idle = λ none. tt;
            made = λ t none. tt;
            others = others;
            refused = refused_as n bounds others out still;
            bounds = bounds;
            untouched = λ held. absurd (is_none held);
            moments = opens.moments;
            entries = opens.entries;
            reads = opens.reads;
            guard = (λ yes. absurd (cc yes), λ below. absurd (omega (arith, below, from)));
            refuses = λ below. absurd (omega (arith, below, from));
            faults = opens.faults;
            cause = inr (inl refl);
          }))

      -- it was made, and is held
      pub holds_made : {T : Type 0} (u : B) (v : T) → OpensBlob g gives dev k maker old new (Ok u) → (o : Sections F B) → IsPut s u n o → IsOver g gives dev.Tells o (dev.opened new) (disk (dev.time new))
          → Holds g gives dev m s {T = T} o old new (Ok v)
      holds_made u v opened o put over_o =
          let opens = subst (λ (x : Key). OpensBlob g gives dev x m.factory old new (Ok u)) here (subst (λ (f : F). OpensBlob g gives dev k f old new (Ok u)) made_by opened) in
          record {
            over = over_o;
            held = ap is_some put.here;
            same = λ w is. absurd (cc (absent, is));
            bytes = λ t none w is. subst (λ (x : B). g.bytes x (disk (dev.time new) (key_of m s)).content ≡ g.holds (gives m.factory) (disk (dev.time new) (key_of m s)).content) (some_same u w (sym put.here ∙ is)) (opens.bytes t);
            idle = λ none w is. subst (λ (x : B). g.unsettled x ≡ false) (some_same u w (sym put.here ∙ is)) opens.idle;
            made = λ t none. opens.made t;
            others = λ q other. record { held = (put.others q other).held ∙ (others q other).held; unopened = (put.others q other).unopened ∙ (others q other).unopened };
            refused = tt;
            bounds = record {
              place = record { partition = put.bounds.place.partition ∙ bounds.place.partition; factory = put.bounds.place.factory ∙ bounds.place.factory };
              floor = put.bounds.floor ∙ bounds.floor;
              ceiling = put.bounds.ceiling ∙ bounds.ceiling;
            };
            untouched = λ held. absurd (is_none held);
            moments = opens.moments;
            entries = opens.entries;
            reads = opens.reads;
            guard = (λ yes. absurd (cc yes), λ below. absurd (omega (arith, below, from)));
            refuses = λ below. absurd (omega (arith, below, from));
            faults = opens.faults;
            cause = tt;
          }

  -- ---- holding it: nothing was called

  same_refused : IsRefused s m m
  same_refused = record {
    held = refl;
    still_section = λ section. section;
    guarded = λ below. record { held = refl; unopened = refl };
    others = λ q other. record { held = refl; unopened = refl };
    bounds = bounds_stay;
  }

  pub hold_refused : {T : Type 0} (r : Result T Error) (e : Error) → r ≡ Err e → IsPruned {T = T} (Err e) m.floor → s < m.floor → Holds g gives dev m s m old old r
  hold_refused {T = T} r e is pruned below = subst (λ (x : Result T Error). Holds g gives dev m s m old old x) (sym is) (record {
    over = over;
    held = tt;
    same = tt;
    bytes = λ t none. tt;
    idle = λ none. tt;
    made = λ t none. tt;
    others = λ q other. record { held = refl; unopened = refl };
    refused = same_refused;
    bounds = bounds_stay;
    untouched = λ held. refl;
    moments = start;
    entries = λ q other. refl;
    reads = λ none q. omega arith;
    guard = (λ yes. below, λ yes. pruned);
    refuses = λ yes. refl;
    faults = omega arith;
    cause = inl pruned;
  })

  pub hold_unnoted : {T : Type 0} → m.floor ≤ s → (n : Sections F B) → SameBounds m n → ((q : ℕ) → IsSame m n q) → (r : Result T Error) → r ≡ Err Mem → Holds g gives dev m s n old old r
  hold_unnoted {T = T} from n bounds same r is = subst (λ (x : Result T Error). Holds g gives dev m s n old old x) (sym is)
      (subst (λ (x : Sections F B). Holds g gives dev m s {T = T} x old old (Err Mem)) (same_sections m n bounds same) (record {
        over = over;
        held = tt;
        same = tt;
        bytes = λ t none. tt;
        idle = λ none. tt;
        made = λ t none. tt;
        others = λ q other. record { held = refl; unopened = refl };
        refused = same_refused;
        bounds = bounds_stay;
        untouched = λ held. refl;
        moments = start;
        entries = λ q other. refl;
        reads = λ none q. omega arith;
        guard = (λ yes. absurd (cc yes), λ below. absurd (omega (arith, below, from)));
        refuses = λ below. absurd (omega (arith, below, from));
        faults = omega arith;
        cause = inr (inl refl);
      }))

  -- it is held already
  pub holds_held : {T : Type 0} (v : T) → IsHeld m s → Holds g gives dev m s {T = T} m old old (Ok v)
  holds_held v held = record {
    over = over;
    held = held;
    same = λ u is. is;
    bytes = λ t none. absurd (cc (subst IsSome none held));
    idle = λ none. absurd (cc (subst IsSome none held));
    made = λ t none. absurd (cc (subst IsSome none held));
    others = λ q other. record { held = refl; unopened = refl };
    refused = tt;
    bounds = bounds_stay;
    untouched = λ is. refl;
    moments = start;
    entries = λ q other. refl;
    reads = λ none q. omega arith;
    guard = (λ yes. absurd (cc yes), λ below. absurd (not_below held below));
    refuses = λ below. absurd (not_below held below);
    faults = omega arith;
    cause = tt;
  }

  -- ---- opening one that was found

  module _ (none_pruned : m.floor ≡ 0) where
    pub next_above : m.ceiling < s → OpensNext g gives dev m s old old (Ok m)
    next_above above = record {
      over = over;
      held = λ within. absurd (omega (arith, above, within));
      same = λ u is. is;
      bytes = λ t none u is. absurd (cc (none, is));
      idle = λ none u is. absurd (cc (none, is));
      above = λ is. record { held = refl; unopened = refl };
      others = λ q other. record { held = refl; unopened = refl };
      bounds = bounds_stay;
      passed = λ is. refl;
      untouched = λ held. refl;
      moments = start;
      entries = λ q other. refl;
      reads = λ none q. omega arith;
      faults = omega arith;
      cause = tt;
    }

    module _ {T : Type 0} (within : s ≤ m.ceiling) (n : Sections F B) (new : D) where
      pub next_failed : (e : Error) → Holds g gives dev m s {T = T} n old new (Err e) → (r : Result (Sections F B) Error) → r ≡ Err e → OpensNext g gives dev m s old new r
      next_failed e holds r is = subst (OpensNext g gives dev m s old new) (sym is) (record {
        over = tt;
        held = λ le. tt;
        same = tt;
        bytes = λ t none. tt;
        idle = λ none. tt;
        above = λ lt. tt;
        others = tt;
        bounds = tt;
        passed = λ lt. absurd (omega (arith, lt, within));
        untouched = holds.untouched;
        moments = holds.moments;
        entries = holds.entries;
        reads = holds.reads;
        faults = holds.faults;
        cause = elim holds.cause [
          | inl pruned ↦ absurd (omega (arith, holds.guard.0 pruned, none_pruned))
          | inr cause ↦ failed_again {T = T} {U = Sections F B} e (dev.faults old) (dev.faults new) cause
        ];
      })

      pub next_held : (v : T) → Holds g gives dev m s {T = T} n old new (Ok v) → OpensNext g gives dev m s old new (Ok n)
      next_held v holds = record {
        over = holds.over;
        held = λ le. holds.held;
        same = holds.same;
        bytes = holds.bytes;
        idle = holds.idle;
        above = λ lt. absurd (omega (arith, lt, within));
        others = holds.others;
        bounds = holds.bounds;
        passed = λ lt. absurd (omega (arith, lt, within));
        untouched = holds.untouched;
        moments = holds.moments;
        entries = holds.entries;
        reads = holds.reads;
        faults = holds.faults;
        cause = tt;
      }

-- ---- opening a blob

module _ {F B D : Type 0} (g : buffer.Ghosts B) (gives : F → Setting) (dev : device.Ghosts D) (k : Key) (maker : F) (old : D) where
  -- it could not be opened
  pub blob_refused : (new : D) (e : Error) (r : Result B Error) → r ≡ Err e → (dev.Tells → AllMoments k (IsOpening (disk (dev.time old) k)) (dev.time old) (dev.time new)) → dev.opened new ≡ dev.opened old
      → dev.faults old ≤ dev.faults new → HasFailed {T = B} (Err e) (dev.faults old) (dev.faults new) → OpensBlob g gives dev k maker old new r
  blob_refused new e r is moments same faults failed = subst (OpensBlob g gives dev k maker old new) (sym is) (record {
    moments = moments;
    made = λ t. tt;
    stands = λ t. tt;
    bytes = λ t. tt;
    idle = tt;
    key = tt;
    setting = tt;
    «open» = tt;
    entries = λ q other. ap (λ (l : OpenedList). l q) same;
    reads = λ none q. omega (arith, ap reads_of (ap (λ (l : OpenedList). l q) same));
    faults = faults;
    cause = failed;
  })

  -- a buffer could not be made over it, by what the factory answered
  pub blob_failed : {S : Type 0} (mid new : D) (x : Result S RError) (e : RError) → x ≡ Err e → (r : Result B Error) → r ≡ Err (raised e)
      → (dev.Tells → AllMoments k (IsOpening (disk (dev.time old) k)) (dev.time old) (dev.time new)) → OnlyOwnEntry k (dev.opened old) (dev.opened new) → ((g.StartsReads → ⊥) → StartsNoRead (dev.opened old) (dev.opened new))
      → dev.faults old ≤ dev.faults mid → dev.faults mid ≤ dev.faults new
      → (x ≡ Err RMem) ⊎ ((x ≡ Err Fault) × Rose (dev.faults mid) (dev.faults new)) → OpensBlob g gives dev k maker old new r
  blob_failed {S = S} mid new x e was r is moments entries reads first then cause = subst (OpensBlob g gives dev k maker old new) (sym is) (record {
    moments = moments;
    made = λ t. tt;
    stands = λ t. tt;
    bytes = λ t. tt;
    idle = tt;
    key = tt;
    setting = tt;
    «open» = tt;
    entries = entries;
    reads = reads;
    faults = omega (arith, first, then);
    cause = elim cause [
      | inl memory ↦ (let same : e ≡ RMem = cc (was, memory) in inl (ap Err (ap raised same)))
      | inr fault ↦ (let same : e ≡ Fault = cc (was, fault.0) in inr (ap Err (ap raised same), omega (arith, first, fault.1)))
    ];
  })

-- ---- a buffer is put in

module _ {F B : Type 0} (g : buffer.Ghosts B) (gives : F → Setting) (m n : Sections F B) (s : ℕ) (w : B) (put : IsPut s w m n) (small : s < 2 ^ 64) (from : m.floor ≤ s) (to : s ≤ m.ceiling)
    (key : g.key w ≡ key_of m s) where
  is_w : (u : B) → n.held s ≡ Some u → w ≡ u
  is_w u held = some_same w u (sym put.here ∙ held)

  here : key_of n s ≡ key_of m s
  here = same_key m n put.bounds s

  pub put_opened : (list : OpenedList) → HasOpened g gives m list → g.setting w ≡ gives m.factory → IsOpenAt list (key_of m s) (g.extent w) → HasOpened g gives n list
  put_opened list has setting is_open = (over_changed g gives {told = ⊥} m n list list (λ k. nothing) (λ k. nothing) s (record { opened_list = has; disk = λ t. absurd t }) (record {
    number = small;
    bounds = put.bounds;
    others = put.others;
    entries = λ q other. refl;
    blobs = λ t q other. refl;
    opened = record {
      key = λ u held. subst (λ (x : B). g.key x ≡ key_of n s) (is_w u held) (key ∙ sym here);
      setting = λ u held. subst (λ (x : B). g.setting x ≡ gives n.factory) (is_w u held) (setting ∙ ap gives (sym put.bounds.place.factory));
      is_open = λ u held. subst (λ (x : B). IsOpenAt list (key_of n s) (g.extent x)) (is_w u held) (subst (λ (k : Key). IsOpenAt list k (g.extent w)) (sym here) is_open);
      to_ceiling = λ held. omega (arith, put.bounds.ceiling, to);
      apart = λ held. put.opened;
      from_floor = λ known. omega (arith, put.bounds.floor, from);
    };
    disk = λ t. absurd t;
  })).opened_list
