-- Reading several items of a section, one after another.
use Rattle.std.proofs.Common.{◌≡◌, ◌∙◌, ◌⊎◌, ◌↔◌, inl, inr, ℕ, ◌+◌, ◌<◌, ◌≤◌, List, [], ◌∷◌, ◌++◌, length, get_or, take, drop, Some, None, IsSomeAnd, Option, Ok, Err, refl, ap, subst, sym, arith}
use Rattle.std.specs.List.{Contains}
use Rattle.std.proofs.Math.Seq.{take-length}
use Rattle.std.proofs.lemmas.List.{take_more}
use Rattle.std.proofs.lemmas.List.Elements.{Contains-get_or, Contains-push_cases}
use Rattle.blob_device.specs.Timeline.{disk}
use Rattle.blob_device.specs.declared.device.Device as device
use Rattle.value_codec.specs.declared.codec.Error as codec
use Rattle.sealed_pages.specs.Buffer as pages
use Rattle.sealed_pages.specs.Entries.{IsOpenAt}
use Rattle.sealed_pages.specs.Reads.{IsHeld}
use Rattle.sealed_pages.specs.Shown.{shown}
use Rattle.sealed_pages.specs.declared.page_blob.PageBlob.{PageBlob}
use Rattle.sealed_pages.specs.lemmas.looking.Looking.{unchanged_start}
use Rattle.section_manager.specs.Refusing.{IsPruned}
use Rattle.section_manager.specs.Sections.{key_of}
use Rattle.section_manager.specs.Setting.{Setting}
use Rattle.section_manager.specs.declared.buffer.SectionBuffer as buffer
use Rattle.section_manager.specs.declared.journal.Error.{Error}
use Rattle.section_manager.specs.declared.journal.Error.TheVariants.{AlreadyPrunedToSection, Mem, SectionOutOfRange}
use Rattle.segments.specs.FixedLists.{Lists, section_bytes, section_size}
use Rattle.segments.specs.FixedReading.{IsAbsent, IsPast}
use Rattle.segments.specs.lemmas.adding.Write.{ArePages}
use Rattle.segments.specs.lemmas.held.Sections.{size_here}
use Rattle.variable_journal.specs.FrameReading.{IsIdle, Fails, Finds, OnlyLooks}
use Rattle.variable_journal.specs.Frames.{frame, BeginsWithFrame}
use Rattle.variable_journal.specs.Lists.{IsJournal}
use Rattle.variable_journal.specs.Reaching.{frame_reach, IsCoveredTo, IsDamagedTo}
use Rattle.variable_journal.specs.Reading.{AreThere, FrameOf, GetsMany, IsFirstRefused, IsPastLast, IsRefusedBy}
use Rattle.variable_journal.proofs.GettingLemmas.{backed_now, bytes_now, covered_now, damaged_now, entries_there, floor, idle_now, open_at, sealed_now}
use Rattle.variable_journal.proofs.ReadingLemmas.{failed_cause, failed_code, failed_held, failed_page, failed_past, looked_start, looked_then}

-- one value more
there_push : {V C : Type 0} (spelling : V → List ℕ) (accepted : V → C → Type 0) (config : C) (bytes : List ℕ) (os : List ℕ) (vs : List V) (o : ℕ) (v : V)
    → AreThere spelling accepted config bytes os vs → FrameOf spelling accepted config (drop o bytes) v → AreThere spelling accepted config bytes (os ++ o ∷ []) (vs ++ v ∷ [])
there_push spelling accepted config bytes [] [] o v are is = (is, tt)
there_push spelling accepted config bytes [] (w ∷ vs) o v are is = absurd are
there_push spelling accepted config bytes (p ∷ os) [] o v are is = absurd are
there_push spelling accepted config bytes (p ∷ os) (w ∷ vs) o v are is = (are.0, there_push spelling accepted config bytes os vs o v are.1 is)

module _ {F S V C D : Type 0} {gs : _} (seal : List ℕ → ℕ) (spelling : V → List ℕ) (accepted : V → C → Type 0) (refusal : List ℕ → C → Option codec.Error)
    (config : C) (dev : device.Ghosts D) (s : ℕ) (offsets : List ℕ) (j : Lists F (PageBlob S gs)) (old : D) where
  abbrev pub bytes : List ℕ
  bytes = section_bytes j.sections (disk (dev.time old)) s

  abbrev pub CoveredAt : ℕ → Type 0
  CoveredAt o = IsSomeAnd (j.sections.held s) (λ v. IsCoveredTo seal v (disk (dev.time old) (key_of j.sections s)).content o (frame_reach (drop o bytes)))

  abbrev DamagedAt : ℕ → ℕ → Type 0
  DamagedAt o k = IsSomeAnd (j.sections.held s) (λ v. IsDamagedTo seal v (disk (dev.time old) (key_of j.sections s)).content o (frame_reach (drop o bytes)) k)

  abbrev RefusedAt : ℕ → Type 0
  RefusedAt = IsFirstRefused dev.Tells spelling accepted config CoveredAt bytes offsets

  -- the frames are all in memory
  abbrev pub AreInMemory : Type 0
  AreInMemory = (o : ℕ) → Contains offsets o → (item : List ℕ) × (rest : List ℕ) × BeginsWithFrame (drop o bytes) item rest
      × IsSomeAnd (j.sections.held s) (λ v. IsHeld (shown v) o (length (frame item)))

  -- What holds where the first i items were read.
  pub record Going (u : PageBlob S gs) (i : ℕ) (vs : List V) (now : D) : Type 0 where
    pub values : dev.Tells → AreThere spelling accepted config bytes (take i offsets) vs
    pub inside : (o : ℕ) → Contains (take i offsets) o → o < section_size j.sections s
    pub checked : dev.Tells → (o : ℕ) → Contains (take i offsets) o → CoveredAt o
    pub idle : dev.Tells → AreInMemory → now ≡ old
    pub is_open : IsOpenAt (dev.opened now) (pages.key_of (shown u)) u.end
    pub looks : OnlyLooks dev (pages.key_of (shown u)) old now

  -- the section was refused
  pub many_refused : (e : Error) → (IsPruned {T = List V} (Err e) j.sections.floor ↔ (s < j.sections.floor))
      → (IsAbsent {T = List V} (Err e) s ↔ ((j.sections.floor ≤ s) × (j.sections.held s ≡ None)))
      → (e ≡ AlreadyPrunedToSection j.sections.floor) ⊎ (e ≡ SectionOutOfRange s)
      → GetsMany seal spelling accepted refusal config dev s offsets j (Err e) old old
  many_refused e guard absent why = record {
    values = λ t. tt;
    guard = guard;
    absent = absent;
    past = λ o is. absurd (elim why [ inl pruned ↦ cc (is, pruned) | inr none ↦ cc (is, none) ]);
    inside = tt;
    checked = λ t. tt;
    damaged = λ t k is. absurd (elim why [ inl pruned ↦ cc (is, pruned) | inr none ↦ cc (is, none) ]);
    sound = λ t free k is. elim why [ inl pruned ↦ cc (is, pruned) | inr none ↦ cc (is, none) ];
    refused = λ t x is. absurd (elim why [ inl pruned ↦ cc (is, pruned) | inr none ↦ cc (is, none) ]);
    idle = λ t all. refl;
    unchanged = λ t. unchanged_start (dev.time old);
    entries = record { others = λ q other. refl; length = λ n is. is };
    faults = omega arith;
    cause = elim why [ inl pruned ↦ inl (ap Err pruned) | inr none ↦ inr (inl (ap Err none)) ];
  }

  module _ (g : buffer.Ghosts (PageBlob S gs)) (gives : F → Setting) (are : ArePages g seal) (extent : (u : PageBlob S gs) → g.extent u ≡ u.end)
      (over : IsJournal g gives seal dev.Tells j (dev.opened old) (disk (dev.time old))) (u : PageBlob S gs) (held : j.sections.held s ≡ Some u) where
    -- before the first one
    pub going_start : Going u 0 [] old
    going_start = record {
      values = λ t. tt;
      inside = λ o none. absurd (omega (arith, none.1));
      checked = λ t o none. absurd (omega (arith, none.1));
      idle = λ t all. refl;
      is_open = open_at seal dev s j old g gives are extent over u held;
      looks = looked_start seal dev u 0 old;
    }

    from_floor : j.sections.floor ≤ s
    from_floor = floor seal dev s j old g gives are extent over u held

    module _ (i : ℕ) (lt : i < length offsets) (vs : List V) (now : D) (going : Going u i vs now) where
      abbrev next : ℕ
      next = get_or offsets i 0

      module _ (new : D) (idle : IsIdle seal dev u next now new) where
        idle_then : dev.Tells → AreInMemory → new ≡ old
        idle_then t all =
            let has = all next (Contains-get_or offsets i 0 lt) in
            idle_now seal dev s j old g gives are extent over u held now going.looks next new idle t has.0 has.1 has.2 has.3 ∙ going.idle t all

        -- one item more was read
        pub going_on : (v : V) → Finds seal dev u next now frame_reach (IsRefusedBy refusal config) (FrameOf spelling accepted config) new v → Going u (i + 1) (vs ++ v ∷ []) new
        going_on v did =
            let more = take_more offsets i 0 lt in
            record {
              values = λ t. subst (λ (os : List ℕ). AreThere spelling accepted config bytes os (vs ++ v ∷ [])) (sym more)
                  (there_push spelling accepted config bytes (take i offsets) vs next v (going.values t)
                  (subst (λ (l : List ℕ). FrameOf spelling accepted config l v) (bytes_now seal dev s j old g gives are extent over u held now going.looks next t)
                  (did.value t (backed_now seal dev s j old g gives are extent over u held now going.looks next t))));
              inside = λ o has. elim (Contains-push_cases (take i offsets) next o (subst (λ (os : List ℕ). Contains os o) more has)) [
                | inl before ↦ going.inside o before
                | inr is ↦ omega (arith, is, did.inside, size_here j.sections s u held)
              ];
              checked = λ t o has. elim (Contains-push_cases (take i offsets) next o (subst (λ (os : List ℕ). Contains os o) more has)) [
                | inl before ↦ going.checked t o before
                | inr is ↦ subst CoveredAt is (covered_now seal dev s j old g gives are extent over u held now going.looks next t
                    (did.checked t (backed_now seal dev s j old g gives are extent over u held now going.looks next t)))
              ];
              idle = idle_then;
              is_open = did.looks.entries.length u.end going.is_open;
              looks = looked_then seal dev u next old now going.looks new did.looks;
            }

        -- the next one was refused
        module _ (e : Error) (did : Fails seal dev u next now frame_reach (IsRefusedBy refusal config) new e) where
          first : RefusedAt next
          first = record { count = i; below = lt; is = refl; before = λ t. (vs, going.values t); checked = going.checked }

          past_here : (p : ℕ) → IsPast {T = List V} (Err e) p → RefusedAt p × (dev.Tells → IsPastLast (drop p bytes)) × (dev.Tells → CoveredAt p)
          past_here p is =
              let past = failed_past seal dev u next now refusal config new e did (Err e) refl p is in
              subst (λ (q : ℕ). RefusedAt q × (dev.Tells → IsPastLast (drop q bytes)) × (dev.Tells → CoveredAt q)) past.1 (
                first,
                λ t. subst IsPastLast (bytes_now seal dev s j old g gives are extent over u held now going.looks next t)
                    (past.0.past t (backed_now seal dev s j old g gives are extent over u held now going.looks next t)),
                λ t. covered_now seal dev s j old g gives are extent over u held now going.looks next t
                    (past.0.checked t (backed_now seal dev s j old g gives are extent over u held now going.looks next t)),
              )

          pub many_failed : GetsMany seal spelling accepted refusal config dev s offsets j (Err e) old new
          many_failed = record {
            values = λ t. tt;
            guard = (λ is. absurd (failed_held seal dev u next now refusal config new e did (Err e) refl j.sections.floor s (inl is)), λ low. absurd (omega (arith, low, from_floor)));
            absent = (λ is. absurd (failed_held seal dev u next now refusal config new e did (Err e) refl j.sections.floor s (inr is)), λ none. absurd (let gone = none.1 in cc (held, gone)));
            past = past_here;
            inside = tt;
            checked = λ t. tt;
            damaged = λ t k is.
                (let page = failed_page seal dev u next now refusal config new e did (Err e) refl k is in (
                  next,
                  first,
                  subst (DamagedAt next) page.1 (damaged_now seal dev s j old g gives are extent over u held now going.looks next t page.0.page
                      (page.0.damaged t (backed_now seal dev s j old g gives are extent over u held now going.looks next t))),
                ));
            sound = λ t free k is. (failed_page seal dev u next now refusal config new e did (Err e) refl k is).0.sound t (sealed_now seal dev s j old g gives are extent over u held now going.looks next t free);
            refused = λ t x is.
                (let bad = failed_code seal dev u next now refusal config new e did (Err e) refl x is in
                let backed = backed_now seal dev s j old g gives are extent over u held now going.looks next t in (
                  next,
                  first,
                  subst (IsRefusedBy refusal config (drop next bytes)) bad.1
                      (subst (λ (l : List ℕ). IsRefusedBy refusal config l bad.0.cause) (bytes_now seal dev s j old g gives are extent over u held now going.looks next t) (bad.0.refused t backed)),
                  covered_now seal dev s j old g gives are extent over u held now going.looks next t (bad.0.checked t backed),
                ));
            idle = idle_then;
            unchanged = (looked_then seal dev u next old now going.looks new did.looks).unchanged;
            entries = entries_there seal dev s j old g gives are extent over u held new (looked_then seal dev u next old now going.looks new did.looks).entries;
            faults = omega (arith, going.looks.faults, did.looks.faults);
            cause = elim (failed_cause seal dev u next now refusal config new e did (Err e) refl) [
              | inl past ↦ inr (inr (inl (next, past)))
              | inr (inl page) ↦ inr (inr (inr (inl page)))
              | inr (inr (inl code)) ↦ inr (inr (inr (inr (inl code))))
              | inr (inr (inr (inl none))) ↦ inr (inr (inr (inr (inr (inl none)))))
              | inr (inr (inr (inr fault))) ↦ inr (inr (inr (inr (inr (inr (fault.0, omega (arith, going.looks.faults, fault.1)))))))
            ];
          }

        -- there was no memory for one more
        pub many_memory : (v : V) → Finds seal dev u next now frame_reach (IsRefusedBy refusal config) (FrameOf spelling accepted config) new v
            → GetsMany seal spelling accepted refusal config dev s offsets j (Err Mem) old new
        many_memory v did = record {
          values = λ t. tt;
          guard = (λ is. absurd (cc is), λ low. absurd (omega (arith, low, from_floor)));
          absent = (λ is. absurd (cc is), λ none. absurd (let gone = none.1 in cc (held, gone)));
          past = λ p is. absurd (cc is);
          inside = tt;
          checked = λ t. tt;
          damaged = λ t k is. absurd (cc is);
          sound = λ t free k is. cc is;
          refused = λ t x is. absurd (cc is);
          idle = idle_then;
          unchanged = (looked_then seal dev u next old now going.looks new did.looks).unchanged;
          entries = entries_there seal dev s j old g gives are extent over u held new (looked_then seal dev u next old now going.looks new did.looks).entries;
          faults = omega (arith, going.looks.faults, did.looks.faults);
          cause = inr (inr (inr (inr (inr (inl refl)))));
        }

    -- all were read
    pub many_done : (i : ℕ) → i ≡ length offsets → (vs : List V) (now : D) → Going u i vs now → GetsMany seal spelling accepted refusal config dev s offsets j (Ok vs) old now
    many_done i last vs now going =
        let all : take i offsets ≡ offsets = ap (λ (n : ℕ). take n offsets) last ∙ take-length offsets in
        record {
          values = λ t. subst (λ (os : List ℕ). AreThere spelling accepted config bytes os vs) all (going.values t);
          guard = (λ is. absurd (cc is), λ low. absurd (omega (arith, low, from_floor)));
          absent = (λ is. absurd (cc is), λ none. absurd (let gone = none.1 in cc (held, gone)));
          past = λ p is. absurd (cc is);
          inside = λ o has. going.inside o (subst (λ (os : List ℕ). Contains os o) (sym all) has);
          checked = λ t o has. going.checked t o (subst (λ (os : List ℕ). Contains os o) (sym all) has);
          damaged = λ t k is. absurd (cc is);
          sound = λ t free k is. cc is;
          refused = λ t x is. absurd (cc is);
          idle = going.idle;
          unchanged = going.looks.unchanged;
          entries = entries_there seal dev s j old g gives are extent over u held now going.looks.entries;
          faults = going.looks.faults;
          cause = tt;
        }
