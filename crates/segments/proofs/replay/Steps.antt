-- The steps by which a replay of a fixed journal begins a section, or comes to its end.
use Rattle.std.specs.Prelude.{◌≡◌, ◌≢◌, ◌⊎◌, ◌↔◌, ℕ, ◌+◌, ◌*◌, ◌/◌, ◌^◌, ◌<◌, ◌≤◌, true, false, List, length, IsTrue, IsSomeAnd, Option, None, Some, IsSome, Ok, Err}
use Rattle.std.proofs.Common.{inl, inr, refl, sym, ◌∙◌, ap, subst, arith}
use Rattle.std.proofs.lemmas.Bool.{cases_eq}
use Rattle.blob_device.specs.Disk.{Key}
use Rattle.blob_device.specs.Opened.{OpenedList, reads_of}
use Rattle.blob_device.specs.Timeline.{Timeline, disk, Always, Each}
use Rattle.sealed_pages.specs.declared.page_blob.PageBlob.{PageBlob}
use Rattle.sealed_pages.specs.Shown.{shown}
use Rattle.sealed_pages.specs.Buffer.{size_of}
use Rattle.value_codec.specs.declared.codec.Error as codec
use Rattle.section_manager.specs.declared.buffer.SectionBuffer as buffer
use Rattle.section_manager.specs.declared.journal.Error.{Error}
use Rattle.section_manager.specs.declared.journal.Damage.{Damage}
use Rattle.blob_device.specs.declared.runtime.RError.TheVariants.{InvalidChecksum}
use Rattle.section_manager.specs.declared.journal.Error.TheVariants.{ItemOutOfRange, Runtime, Codec, Corruption}
use Rattle.section_manager.specs.Setting.{Setting}
use Rattle.section_manager.specs.Sections.{key_of, IsHeld, IsKeyOf, IsOver}
use Rattle.section_manager.specs.Refusing.{HasFailed, HasDamage}
use Rattle.section_manager.specs.lemmas.Keys.{keys_differ}
use Rattle.segments.specs.FixedReading.{HasNotRead, IsBelowFloor}
use Rattle.segments.specs.FixedLists.{size_held, section_size}
use Rattle.segments.specs.FixedReplay.{Place, Walk, IsAhead, IsIn, IsLeft, SameItems, IsSameOrCut, KeepsSections, KeepsFloors, KeepsItems, HasSameBytes, KeepsBytes, IsWalk, Refuses, IsEndedAt, IsCutting, Replaying, LeavesNoMore, EndsBelow, EndsDamaged, kept_bytes}
use Rattle.segments.specs.FixedStepping.{word, sections_ahead, bytes_ahead, way_of, reads_left, ReadsOnce, GoesOn, Steps}
use Rattle.segments.proofs.replay.Counts.{count_other, count_over}
use Rattle.segments.proofs.replay.Kept.{short_item}
use Rattle.segments.specs.lemmas.FixedOwed.{same_items, same_or_cut}
use Rattle.segments.specs.lemmas.replay.Walks.{IsBehind, IsReached, OnlyOne, blob_other, held_back, held_on, kept_other, key_new, left_all, left_first, left_later, not_ahead, not_near, same_bytes}
use Rattle.segments.specs.lemmas.replay.WalksOn.{IsKnownAgain, walk_broken, walk_on, walk_refused}
use Rattle.blob_device.proofs.general.Options.{none_in, same_some, some_there}

-- an error of a reading is none of a floor
pub not_below : {T : Type 0} (x : Error) (few many : ℕ) → HasNotRead {T = T} (Err x) few many → (y : Damage) → x ≡ Corruption y → ⊥
not_below x few many has y is = elim has [
  | inl page ↦ (let at = page.1 in absurd (cc (at, is)))
  | inr (inl code) ↦ (let at = code.1 in absurd (cc (at, is)))
  | inr (inr (inl mem)) ↦ absurd (cc (mem, is))
  | inr (inr (inr fault)) ↦ (let at = fault.0 in absurd (cc (at, is)))
]

module _ {F S V : Type 0} {gs : _} (seal : List ℕ → ℕ) (size : ℕ) (g : buffer.Ghosts (PageBlob S gs)) (gives : F → Setting) (spelling : V → List ℕ) (accepted : V → Unit {0} → Type 0) (refusal : List ℕ → Unit {0} → Option codec.Error) (told : Type 0)
    (s : ℕ) (old new : Walk F (PageBlob S gs)) (before after : OpenedList) (a b : Timeline) (few many : ℕ) where
  -- What a call on the section s was: what every step that makes one needs.
  pub record Called : Type 0 where
    pub was : IsWalk g gives seal size told old before (disk a)
    pub one : OnlyOne seal size told s old new (disk a) (disk b)
    pub behind : IsBehind seal size s old new
    pub reached : IsReached seal size s old
    pub over : IsOver g gives told new.journal.sections after (disk b)
    pub entries : (q : Key) → q ≢ key_of old.journal.sections s → after q ≡ before q
    pub moments : told → Always a b (Each (Replaying seal size old (disk a)))
    pub from : (n : ℕ) → new.next_section ≡ Some n → new.start_section ≤ n
    pub faults : few ≤ many

  module _ (call : Called) where
    entries_of : (q : Key) → (IsKeyOf old.journal.sections (λ t. IsHeld old.journal.sections t × (IsAhead old t ⊎ IsIn old t)) q → ⊥) → after q ≡ before q
    entries_of q not = call.entries q (λ is. not (s, (call.reached.held, call.reached.near), is))

    -- a section that is ahead of the new one was ahead
    ahead_back : (t : ℕ) → t < 2 ^ 64 → IsAhead new t → IsAhead old t
    ahead_back t small ahead = ((call.behind.ahead t small).0 ahead).0

    -- what is said of the section s is said of each
    each_of : (P : ℕ → Type 0) → P s → ((t : ℕ) → t ≢ s → P t) → (t : ℕ) → P t
    each_of P here others t = elim (cases_eq t s) [ inl at ↦ subst P (sym at) here | inr apart ↦ others t apart ]

    apart_old : old.journal.sections.unopened s ≡ None
    apart_old = call.was.over.opened_list.apart s call.reached.held

    -- the section s is unopened, or held as it was
    stays_by : (new.journal.sections.unopened s ≡ None → IsHeld new.journal.sections s) → KeepsSections old new
    stays_by here = each_of (λ t. new.journal.sections.unopened t ≡ None → (old.journal.sections.unopened t ≡ None) × (IsHeld new.journal.sections t ↔ IsHeld old.journal.sections t))
        (λ none. (apart_old, (λ h. call.reached.held, λ h. here none)))
        (λ t apart none. (sym (call.one.others t apart).unopened ∙ none, (held_back seal size s old new (disk a) (disk b) call.one t apart, held_on seal size s old new (disk a) (disk b) call.one t apart)))

    -- the items of each section are the same, if those of s are
    items_by : told → ((u : PageBlob S gs) → old.journal.sections.held s ≡ Some u → IsTrue (old.journal.unrecovered s) → SameItems seal u.page_size size (disk a (key_of old.journal.sections s)) (disk b (key_of old.journal.sections s)))
        → KeepsItems seal size old (disk a) (disk b)
    items_by t here = each_of (λ q. (u : PageBlob S gs) → old.journal.sections.held q ≡ Some u → IsTrue (old.journal.unrecovered q) → SameItems seal u.page_size size (disk a (key_of old.journal.sections q)) (disk b (key_of old.journal.sections q)))
        here
        (λ q apart u was owed. same_items seal u.page_size size (disk a (key_of old.journal.sections q)) (disk b (key_of old.journal.sections q))
        (call.one.blobs t (key_of old.journal.sections q) (keys_differ old.journal.sections.partition q s (call.one.numbers q (some_there (old.journal.sections.held q) u was)) call.one.small apart)))

    -- nothing of it or before is left
    ended_at : new.place ≡ None → told → new.ended ≡ old.ended → IsEndedAt seal size old new (disk a) (disk b) s
    ended_at none t going = record {
      first = left_first seal size s old new (disk a) (disk b) call.one call.behind;
      rest = left_later seal size s old new (disk a) (disk b) call.one call.behind none t going;
    }

    -- An error was answered; the section may be lost.
    pub call_stopped : way_of new < way_of old → (x : Error) → ((new.journal.sections.held s ≡ None) × IsSome (new.journal.sections.unopened s)) ⊎ ((new.journal.sections.held s ≡ old.journal.sections.held s) × (b ≡ a)) → (new.ended ≡ false → IsTrue (old.journal.unrecovered s) → b ≡ a) → new.place ≡ None
        → ((t : ℕ) → IsAhead new t → IsAhead old t)
        → ((new.ended ≡ true) × ((HasDamage {T = Option (ℕ × ℕ × V)} (Err x) × (told → ⊥)) ⊎ HasFailed {T = Option (ℕ × ℕ × V)} (Err x) few many) × IsCutting seal size told old (disk a)) ⊎ (new.ended ≡ old.ended) → ((p : ℕ) → x ≡ ItemOutOfRange p → ⊥)
        → (told → (y : Damage) → x ≡ Corruption y → EndsBelow seal size old (disk a) y × (IsAhead old y.section ⊎ IsIn old y.section) × IsEndedAt seal size old new (disk a) (disk b) y.section)
        → (told → (k : ℕ) → x ≡ Runtime (InvalidChecksum k) → EndsDamaged seal size old new (disk a) (disk b) k) → (told → (e : codec.Error) → x ≡ Codec e → Refuses seal size refusal old new (disk a) (disk b) e)
        → IsBelowFloor {T = Option (ℕ × ℕ × V)} (Err x) ⊎ HasNotRead {T = Option (ℕ × ℕ × V)} (Err x) few many
        → Steps seal size g gives spelling accepted refusal told (Err x) old new before after a b few many
    call_stopped nearer x lost still none onward ended other below found refuses cause = record {
      over = tt;
      broken = walk_broken seal size g gives old new before after (disk a) (disk b) call.was call.over call.one.same kept none onward call.from;
      goes = tt;
      same = call.one.same;
      nearer = nearer;
      onward = λ t near. elim near [ inl ahead ↦ inl (onward t ahead) | inr there ↦ absurd (none_in new.place (λ r. r.section ≡ t) none there) ];
      stays = stays_by (λ known. elim lost [ inl gone ↦ (let unopened = gone.1 in absurd (cc (known, unopened))) | inr same ↦ subst IsSome (sym same.0) call.reached.held ]);
      floors = λ q u v was now. same_or_cut (old.journal.floor_of q) u v (same_some (old.journal.sections.held q) u v was (kept q v now).0);
      items = λ t going. items_by t (λ u was owed. same_items seal u.page_size size (disk a (key_of old.journal.sections s)) (disk b (key_of old.journal.sections s)) (ap (λ (x : Timeline). disk x (key_of old.journal.sections s)) (still going owed)));
      later = λ t. tt;
      bytes = λ q u v was now free. (let back = kept q v now in
          same_bytes told u v (disk a (key_of old.journal.sections q)) (disk b (key_of old.journal.sections q)) (same_some (old.journal.sections.held q) u v was back.0)
          (λ t. ap (disk b) (sym (key_new seal size s old new (disk a) (disk b) call.one q)) ∙ back.1 t));
      carries = λ t is. absurd (cc is);
      item = λ t q p v is. absurd (cc is);
      stops = λ t. record {
        rest = elim ended [
          | inl end ↦ inl end.0
          | inr going ↦ inr (s, ended_at none t going)
        ];
      };
      start = λ t p is. absurd (other p (cc is));
      damage = λ t y is. below t y (cc is);
      damaged = λ t k is. found t k (cc is);
      refused = λ t e is. refuses t e (cc is);
      ends = λ is. elim ended [ inl end ↦ inr end.1 | inr going ↦ inl (sym going ∙ is) ];
      ends_cut = λ is. elim ended [ inl end ↦ inr end.2 | inr going ↦ inl (sym going ∙ is) ];
      moments = call.moments;
      entries = entries_of;
      once = tt;
      faults = call.faults;
      cause = inr cause;
    }
      where
        kept : (q : ℕ) (u : PageBlob S gs) → new.journal.sections.held q ≡ Some u → (old.journal.sections.held q ≡ Some u) × (told → disk b (key_of new.journal.sections q) ≡ disk a (key_of old.journal.sections q))
        kept q u held = elim (cases_eq q s) [
          | inl at ↦
              let here : new.journal.sections.held s ≡ Some u = subst (λ (k : ℕ). new.journal.sections.held k ≡ Some u) at held in
              elim lost [
                | inl gone ↦ (let none = gone.0 in absurd (cc (none, here)))
                | inr same ↦ (
                  subst (λ (k : ℕ). old.journal.sections.held k ≡ Some u) (sym at) (sym same.0 ∙ here),
                  λ t. ap (λ (x : Timeline). disk x (key_of new.journal.sections q)) same.1 ∙ ap (disk a) (key_new seal size s old new (disk a) (disk b) call.one q),
                )
              ]
          | inr apart ↦
              let held_old : old.journal.sections.held q ≡ Some u = sym (call.one.others q apart).held ∙ held in
              (held_old, λ t. blob_other seal size s old new (disk a) (disk b) call.one t q apart (some_there (old.journal.sections.held q) u held_old))
        ]

    -- It says nothing of a floor.
    pub call_failed : way_of new < way_of old → (x : Error) → ((new.journal.sections.held s ≡ None) × IsSome (new.journal.sections.unopened s)) ⊎ ((new.journal.sections.held s ≡ old.journal.sections.held s) × (b ≡ a)) → (new.ended ≡ false → IsTrue (old.journal.unrecovered s) → b ≡ a) → new.place ≡ None
        → ((t : ℕ) → IsAhead new t → IsAhead old t)
        → ((new.ended ≡ true) × ((HasDamage {T = Option (ℕ × ℕ × V)} (Err x) × (told → ⊥)) ⊎ HasFailed {T = Option (ℕ × ℕ × V)} (Err x) few many) × IsCutting seal size told old (disk a)) ⊎ (new.ended ≡ old.ended) → ((p : ℕ) → x ≡ ItemOutOfRange p → ⊥)
        → (told → (k : ℕ) → x ≡ Runtime (InvalidChecksum k) → EndsDamaged seal size old new (disk a) (disk b) k) → (told → (e : codec.Error) → x ≡ Codec e → Refuses seal size refusal old new (disk a) (disk b) e)
        → HasNotRead {T = Option (ℕ × ℕ × V)} (Err x) few many → Steps seal size g gives spelling accepted refusal told (Err x) old new before after a b few many
    call_failed nearer x lost still none onward ended other found refuses cause = call_stopped nearer x lost still none onward ended other (λ t y is. absurd (not_below x few many cause y is)) found refuses (inr cause)

    -- The call succeeded, and the section is held again.
    pub record Answered (v : PageBlob S gs) : Type 0 where
      pub again : IsKnownAgain seal size g gives old new before after (disk a) (disk b) call.was s v
      pub failed : new.failed ≡ old.failed
      pub ended : new.ended ≡ old.ended
      pub bytes : (u : PageBlob S gs) → old.journal.sections.held s ≡ Some u → old.journal.unrecovered s ≡ false → HasSameBytes told u (disk a (key_of old.journal.sections s)) v (disk b (key_of old.journal.sections s))
      pub cut : (u : PageBlob S gs) → old.journal.sections.held s ≡ Some u → IsSameOrCut (old.journal.floor_of s) u v
      pub items : told → (u : PageBlob S gs) → old.journal.sections.held s ≡ Some u → IsTrue (old.journal.unrecovered s) → SameItems seal u.page_size size (disk a (key_of old.journal.sections s)) (disk b (key_of old.journal.sections s))
      pub later : told → LeavesNoMore seal size old new (disk a) (disk b)

    module _ (v : PageBlob S gs) (answer : Answered v) where
      ends : new.ended ≡ true → new.failed ≡ true
      ends is = answer.failed ∙ call.was.walk.ends (sym answer.ended ∙ is)

      keeps_bytes : KeepsBytes told old new (disk a) (disk b)
      keeps_bytes q u x was now free = elim (cases_eq q s) [
        | inl at ↦
            let same : x ≡ v = same_some (new.journal.sections.held s) v x answer.again.held (subst (λ (k : ℕ). new.journal.sections.held k ≡ Some x) at now) in
            let there = answer.bytes u (subst (λ (k : ℕ). old.journal.sections.held k ≡ Some u) at was) (subst (λ (k : ℕ). old.journal.unrecovered k ≡ false) at free) in
            subst (λ (k : ℕ). HasSameBytes told u (disk a (key_of old.journal.sections k)) x (disk b (key_of old.journal.sections k))) (sym at)
            (subst (λ (y : PageBlob S gs). HasSameBytes told u (disk a (key_of old.journal.sections s)) y (disk b (key_of old.journal.sections s))) (sym same) there)
        | inr other ↦ same_bytes told u x (disk a (key_of old.journal.sections q)) (disk b (key_of old.journal.sections q)) (same_some (old.journal.sections.held q) u x was (sym (call.one.others q other).held ∙ now))
            (λ t. call.one.blobs t (key_of old.journal.sections q) (keys_differ old.journal.sections.partition q s (call.one.numbers q (some_there (old.journal.sections.held q) u was)) call.one.small other))
      ]

      held_new : IsHeld new.journal.sections s
      held_new = some_there (new.journal.sections.held s) v answer.again.held

      keeps_floors : KeepsFloors old new
      keeps_floors = each_of (λ q. (u x : PageBlob S gs) → old.journal.sections.held q ≡ Some u → new.journal.sections.held q ≡ Some x → IsSameOrCut (old.journal.floor_of q) u x)
          (λ u x was now. subst (λ (y : PageBlob S gs). IsSameOrCut (old.journal.floor_of s) u y) (sym (same_some (new.journal.sections.held s) v x answer.again.held now)) (answer.cut u was))
          (λ q apart u x was now. same_or_cut (old.journal.floor_of q) u x (same_some (old.journal.sections.held q) u x was (sym (call.one.others q apart).held ∙ now)))

      -- A start in the section is within it.
      abbrev pub StartsIn : Type 0
      StartsIn = new.failed ≡ false → (IsIn new s → ⊥) → s ≡ new.start_section → new.start_position * size ≤ size_of (shown v)

      on : StartsIn → IsWalk g gives seal size told new after (disk b)
      on start = walk_on seal size g gives old new before after (disk a) (disk b) call.was s v call.one call.behind answer.again call.over call.from answer.failed ends start

      goes_on : GoesOn old new
      goes_on = record {
        failed = answer.failed;
        ended = answer.ended;
        held = λ t. elim (cases_eq t s) [
          | inl at ↦ (λ h. subst (IsHeld old.journal.sections) (sym at) call.reached.held, λ h. subst (IsHeld new.journal.sections) (sym at) (some_there (new.journal.sections.held s) v answer.again.held))
          | inr apart ↦ (held_back seal size s old new (disk a) (disk b) call.one t apart, held_on seal size s old new (disk a) (disk b) call.one t apart)
        ];
        known = each_of (λ t. new.journal.sections.unopened t ≡ old.journal.sections.unopened t) (call.over.opened_list.apart s held_new ∙ sym apart_old) (λ t apart. (call.one.others t apart).unopened);
      }

      -- It gives nothing, and comes nearer.
      pub call_passed : StartsIn → ((t : ℕ) → IsAhead new t ⊎ IsIn new t → IsAhead old t ⊎ IsIn old t) → way_of new < way_of old
          → (told → (t q : ℕ) → IsLeft seal size new (disk b) t q ↔ IsLeft seal size old (disk a) t q)
          → (told → (t : ℕ) → IsAhead new t ⊎ IsIn new t → kept_bytes seal size new (disk b) t ≡ kept_bytes seal size old (disk a) t)
          → (IsAhead new s ⊎ IsIn new s → section_size new.journal.sections s ≡ section_size old.journal.sections s)
          → ((x : ℕ) → IsIn new x → x ≡ s) → reads_of (after (key_of old.journal.sections s)) + reads_left new s ≤ reads_of (before (key_of old.journal.sections s)) + reads_left old s
          → Steps seal size g gives spelling accepted refusal told (Ok None) old new before after a b few many
      call_passed start onward nearer left kept size_here new_in here = record {
        over = on start;
        broken = tt;
        goes = goes_on;
        same = call.one.same;
        nearer = nearer;
        onward = onward;
        stays = stays_by (λ none. held_new);
        floors = keeps_floors;
        items = λ t going. items_by t (answer.items t);
        later = answer.later;
        bytes = keeps_bytes;
        carries = λ t is. record {
          left = left t;
          kept = kept t;
          sizes = each_of (λ q. IsAhead new q ⊎ IsIn new q → section_size new.journal.sections q ≡ section_size old.journal.sections q) size_here
              (λ q apart near. ap (λ (o : Option (PageBlob S gs)). size_held o) (call.one.others q apart).held);
        };
        item = λ t q p w is. absurd (cc is);
        stops = λ t. tt;
        start = λ t p is. absurd (cc is);
        damage = λ t y is. absurd (cc is);
        damaged = λ t k is. absurd (cc is);
        refused = λ t e is. absurd (cc is);
        ends = λ is. inl (sym answer.ended ∙ is);
        ends_cut = λ is. inl (sym answer.ended ∙ is);
        moments = call.moments;
        entries = entries_of;
        once = reads_once;
        faults = call.faults;
        cause = tt;
      }
        where
          reads_once : ReadsOnce old new before after
          reads_once t held = elim (cases_eq t s) [
            | inl at ↦ subst (λ (k : ℕ). reads_of (after (key_of old.journal.sections k)) + reads_left new k ≤ reads_of (before (key_of old.journal.sections k)) + reads_left old k) (sym at) here
            | inr other ↦ omega (
              arith,
              ap reads_of (call.entries (key_of old.journal.sections t) (keys_differ old.journal.sections.partition t s (call.one.numbers t held) call.one.small other)),
              count_other seal size s old new (disk a) (disk b) call.one call.behind new_in t other held,
            )
          ]

      module _ (r : Place) (at_r : old.place ≡ Some r) (in_s : r.section ≡ s) (none : new.place ≡ None) (next : new.next_section ≡ old.next_section) (pos : 1 ≤ size) where
        near : IsIn old s
        near = subst (λ (o : Option Place). IsSomeAnd o (λ x. x.section ≡ s)) (sym at_r) in_s

        onward_end : (t : ℕ) → IsAhead new t ⊎ IsIn new t → IsAhead old t ⊎ IsIn old t
        onward_end t (inl ahead) = inl (subst (λ (o : Option ℕ). IsSomeAnd o (λ n. n ≤ t)) next ahead)
        onward_end t (inr there) = absurd (none_in new.place (λ x. x.section ≡ t) none there)

        nearer_end : way_of new < way_of old
        nearer_end = omega (arith, ap (λ (o : Option ℕ). sections_ahead o * (word + 1)) next, ap bytes_ahead none, ap bytes_ahead at_r)

        -- no item of the section was left
        never : length (kept_bytes seal size old (disk a) s) / size ≡ r.position → (q : ℕ) → IsLeft seal size old (disk a) s q → ⊥
        never last q l = elim l.ahead [
          | inl here ↦ (call.was.walk.come_to r at_r).1 (subst (IsAhead old) (sym in_s) here.1)
          | inr there ↦
              let at : r.position ≤ q = (subst (λ (o : Option Place). IsSomeAnd o (λ x. (x.section ≡ s) × (x.position ≤ q))) at_r there).1 in
              omega (arith, at, l.whole, last)
        ]

        -- The section is at its end.
        pub call_ended : (s ≡ old.start_section → old.start_position * size ≤ size_of (shown v)) → (told → length (kept_bytes seal size old (disk a) s) / size ≡ r.position) → reads_of (after (key_of old.journal.sections s)) ≤ reads_of (before (key_of old.journal.sections s)) + reads_left old s
            → Steps seal size g gives spelling accepted refusal told (Ok None) old new before after a b few many
        call_ended start last reads = call_passed (λ fine out at. omega (arith, start (at ∙ call.one.same.section), ap (λ (n : ℕ). n * size) call.one.same.position)) onward_end nearer_end
            (λ t. left_all seal size s old new (disk a) (disk b) call.one call.behind none t answer.ended (never (last t)))
            (λ t q at. kept_other seal size s old new (disk a) (disk b) call.one t q (λ is. not_near seal size s old new (disk a) (disk b) call.one call.behind none (subst (λ (k : ℕ). IsAhead new k ⊎ IsIn new k) is at)))
            (λ at. absurd (not_near seal size s old new (disk a) (disk b) call.one call.behind none at))
            (λ x there. absurd (none_in new.place (λ y. y.section ≡ x) none there)) (omega (arith, reads, count_over new s none (not_ahead seal size s old new (disk a) (disk b) call.one call.behind none)))

        -- It is, before the start of the replay.
        pub call_refused : (told → length (kept_bytes seal size old (disk a) s) / size ≡ r.position) → s ≡ old.start_section → r.position < old.start_position
            → Steps seal size g gives spelling accepted refusal told (Err (ItemOutOfRange old.start_position)) old new before after a b few many
        call_refused last first less = record {
          over = tt;
          broken = walk_refused seal size g gives old new before after (disk a) (disk b) call.was s v call.one call.behind answer.again call.over call.from none;
          goes = tt;
          same = call.one.same;
          nearer = nearer_end;
          onward = onward_end;
          stays = stays_by (λ known. held_new);
          floors = keeps_floors;
          items = λ t going. items_by t (answer.items t);
          later = λ t. tt;
          bytes = keeps_bytes;
          carries = λ t is. absurd (cc is);
          item = λ t q p w is. absurd (cc is);
          stops = λ t. record { rest = inr (s, ended_at none t answer.ended) };
          start = λ t p is. (
            cc is,
            (let at : p ≡ old.start_position = cc is in
                let short : length (kept_bytes seal size old (disk a) s) < old.start_position * size = short_item size (length (kept_bytes seal size old (disk a) s)) r.position old.start_position pos (last t) less in
                let there : length (kept_bytes seal size old (disk a) old.start_section) < old.start_position * size = subst (λ (k : ℕ). length (kept_bytes seal size old (disk a) k) < old.start_position * size) first short in
                subst (λ (n : ℕ). length (kept_bytes seal size old (disk a) old.start_section) < n * size) (sym at) there),
            subst (λ (k : ℕ). IsAhead old k ⊎ IsIn old k) first (inr near),
            subst (λ (k : ℕ). IsEndedAt seal size old new (disk a) (disk b) k) first (ended_at none t answer.ended),
          );
          damage = λ t y is. absurd (cc is);
          damaged = λ t k is. absurd (cc is);
          refused = λ t e is. absurd (cc is);
          ends = λ is. inl (sym answer.ended ∙ is);
          ends_cut = λ is. inl (sym answer.ended ∙ is);
          moments = call.moments;
          entries = entries_of;
          once = tt;
          faults = call.faults;
          cause = inl refl;
        }
