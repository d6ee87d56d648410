-- A replay of a fixed journal after some steps that gave nothing: what one more answers, from where the first began.
use Rattle.std.specs.Prelude.{◌≡◌, ◌⊎◌, ℕ, ◌+◌, ◌*◌, ◌/◌, ◌<◌, ◌≤◌, Bool, true, false, List, length, IsTrue, Option, None, Some, Result, Ok, Err, OnOk, OnErr}
use Rattle.std.specs.Result.{IsErrOf}
use Rattle.std.proofs.Common.{inl, inr, refl, sym, ◌∙◌, ap, subst, arith}
use Rattle.blob_device.specs.Disk.{Key, Disk}
use Rattle.blob_device.specs.Opened.{OpenedList, reads_of}
use Rattle.blob_device.specs.Timeline.{Timeline, disk, Always, Each}
use Rattle.blob_device.specs.lemmas.Moments.{always_start, always_then, always_weaker}
use Rattle.sealed_pages.specs.declared.page_blob.PageBlob.{PageBlob}
use Rattle.sealed_pages.specs.Shown.{shown}
use Rattle.sealed_pages.specs.Buffer.{size_of, bytes_of}
use Rattle.value_codec.specs.declared.codec.Error as codec
use Rattle.section_manager.specs.declared.buffer.SectionBuffer as buffer
use Rattle.section_manager.specs.declared.journal.Error.{Error}
use Rattle.section_manager.specs.declared.journal.Damage.{Damage}
use Rattle.blob_device.specs.declared.runtime.RError.TheVariants.{InvalidChecksum}
use Rattle.section_manager.specs.declared.journal.Error.TheVariants.{ItemOutOfRange, Runtime, Codec, Corruption}
use Rattle.section_manager.specs.Setting.{Setting}
use Rattle.section_manager.specs.Sections.{section_key, key_of, IsHeld, IsKeyOf}
use Rattle.section_manager.specs.Refusing.{HasFailed, HasDamage}
use Rattle.section_manager.specs.Sealed.{is_unsettled}
use Rattle.section_manager.specs.SealedLaws.{all_settled}
use Rattle.segments.specs.FixedItems.{item_at, IsItem}
use Rattle.segments.specs.FixedReading.{HasNotRead, IsBelowFloor}
use Rattle.segments.specs.FixedLists.{section_size}
use Rattle.segments.specs.FixedReplay.{Walk, IsAhead, IsIn, IsLeft, IsDrained, SameWalk, SameItems, IsSameOrCut, KeepsSections, KeepsFloors, KeepsBytes, KeepsItems, HasWalk, IsWalk, Gives, Refuses, IsEndedAt, Stops, IsCutting, Replaying, LeavesNoMore, EndsBelow, EndsDamaged, kept_bytes}
use Rattle.segments.specs.FixedStepping.{failing, way_of, reads_left, ReadsOnce, GoesOn, Carries, Steps}
use Rattle.segments.proofs.replay.Stopping.{ended_back, ended_failing}
use Rattle.segments.specs.lemmas.FixedOwed.{same_items, items_then, same_or_cut, cut_then}
use Rattle.segments.specs.lemmas.replay.Reading.{failed_since, not_read_since}
use Rattle.segments.specs.lemmas.replay.Walks.{in_section, same_bytes}
use Rattle.segments.specs.lemmas.replay.WalksOn.{replaying_start}
use Rattle.segments.specs.lemmas.adding.Write.{settled_idle}
use Rattle.blob_device.proofs.general.Options.{none_in, same_some, some_of, some_there}

module _ {F S : Type 0} {gs : _} (seal : List ℕ → ℕ) (size : ℕ) (g : buffer.Ghosts (PageBlob S gs)) (gives : F → Setting) {told : Type 0} {w v : Walk F (PageBlob S gs)} where
  -- the same replay, as it is written another way
  pub walk_same : (opened : OpenedList) (d : Disk) → w ≡ v → IsWalk g gives seal size told w opened d → IsWalk g gives seal size told v opened d
  walk_same opened d same is = subst (λ (x : Walk F (PageBlob S gs)). IsWalk g gives seal size told x opened d) same is

  pub steps_same : {V : Type 0} (spelling : V → List ℕ) (accepted : V → Unit {0} → Type 0) (refusal : List ℕ → Unit {0} → Option codec.Error) (result : Result (Option (ℕ × ℕ × V)) Error) (new : Walk F (PageBlob S gs)) (before after : OpenedList) (a b : Timeline) (few many : ℕ)
      → w ≡ v → Steps seal size g gives spelling accepted refusal told result v new before after a b few many → Steps seal size g gives spelling accepted refusal told result w new before after a b few many
  steps_same spelling accepted refusal result new before after a b few many same step =
      subst (λ (x : Walk F (PageBlob S gs)). Steps seal size g gives spelling accepted refusal told result x new before after a b few many) (sym same) step

-- what holds where a call succeeded, and where it failed
pub ok_at : {T E P : Type 0} (r : Result T E) (x : T) → r ≡ Ok x → OnOk r P → P
ok_at (Ok y) x is has = has
ok_at (Err y) x is has = absurd (cc is)

pub err_at : {T E P : Type 0} (r : Result T E) (x : E) → r ≡ Err x → OnErr r P → P
err_at (Ok y) x is has = absurd (cc is)
err_at (Err y) x is has = has

-- What had nothing unsettled has nothing unsettled: its bytes are the same, or it owes a replay.
pub idle_after : {F S : Type 0} {gs : _} (size : ℕ) (told : Type 0) (old new : Walk F (PageBlob S gs)) (d e : Disk) → HasWalk size new → SameWalk old new → KeepsBytes told old new d e
    → (s : ℕ) (u v : PageBlob S gs) → old.journal.sections.held s ≡ Some u → new.journal.sections.held s ≡ Some v → is_unsettled (shown u) ≡ false → is_unsettled (shown v) ≡ false
idle_after size told old new d e walk same keeps s u v was now idle = go (old.journal.unrecovered s) refl
  where
    go : (owes : Bool) → old.journal.unrecovered s ≡ owes → is_unsettled (shown v) ≡ false
    go true owed = settled_idle v.settled (size_of (shown v)) (walk.owes_settled.settled s v now (same.unrecovered s ∙ owed))
    go false free = (let has = keeps s u v was now free in settled_idle v.settled (size_of (shown v)) (has.settled ∙ all_settled (shown u) idle ∙ sym has.size))

-- an error of one call is one of another
other_result : {T U : Type 0} (r : Result T Error) (x : Error) → r ≡ Err x → (few many : ℕ) → HasNotRead r few many → HasNotRead {T = U} (Err x) few many
other_result r x is few many has = elim has [
  | inl page ↦ (let at = page.1 in inl (page.0, cc (at, is)))
  | inr other ↦ inr (elim other [
    | inl code ↦ (let at = code.1 in inl (code.0, cc (at, is)))
    | inr failed ↦ inr (elim failed [ inl mem ↦ inl (cc (mem, is)) | inr fault ↦ (let at = fault.0 in inr (cc (at, is), fault.1)) ])
  ])
]

module _ {F S : Type 0} {gs : _} (seal : List ℕ → ℕ) (size : ℕ) (g : buffer.Ghosts (PageBlob S gs)) (gives : F → Setting) (told : Type 0) (old : Walk F (PageBlob S gs)) (before : OpenedList) (a : Timeline) (few : ℕ) where
  -- The replay has run from `old` to here, and gave nothing on the way.
  pub record Running (now : Walk F (PageBlob S gs)) (opened : OpenedList) (t : Timeline) (count : ℕ) : Type 0 where
    pub over : IsWalk g gives seal size told now opened (disk t)
    pub goes : GoesOn old now
    pub same : SameWalk old now
    pub nearer : way_of now ≤ way_of old
    pub onward : (s : ℕ) → IsAhead now s ⊎ IsIn now s → IsAhead old s ⊎ IsIn old s
    pub floors : KeepsFloors old now
    pub bytes : KeepsBytes told old now (disk a) (disk t)
    pub items : told → now.ended ≡ false → KeepsItems seal size old (disk a) (disk t)
    pub later : told → LeavesNoMore seal size old now (disk a) (disk t)
    pub carries : told → Carries seal size old now (disk a) (disk t)
    pub moments : told → Always a t (Each (Replaying seal size old (disk a)))
    pub entries : (q : Key) → (IsKeyOf old.journal.sections (λ s. IsHeld old.journal.sections s × (IsAhead old s ⊎ IsIn old s)) q → ⊥) → opened q ≡ before q
    pub once : ReadsOnce old now before opened
    pub faults : few ≤ count

  pub running_start : IsWalk g gives seal size told old before (disk a) → Running old before a few
  running_start was = record {
    over = was;
    goes = record { failed = refl; ended = refl; held = λ s. (λ h. h, λ h. h); known = λ s. refl };
    same = record { bounds = record { place = record { partition = refl; factory = refl }; floor = refl; ceiling = refl }; unrecovered = λ s. refl; floors = λ s. refl; section = refl; position = refl };
    nearer = omega arith;
    onward = λ s h. h;
    floors = λ s u v held also. same_or_cut (old.journal.floor_of s) u v (same_some (old.journal.sections.held s) u v held also);
    items = λ t going s u held owed. same_items seal u.page_size size (disk a (key_of old.journal.sections s)) (disk a (key_of old.journal.sections s)) refl;
    later = λ t q x is. is;
    bytes = λ s u v held also free. same_bytes told u v (disk a (key_of old.journal.sections s)) (disk a (key_of old.journal.sections s)) (same_some (old.journal.sections.held s) u v held also) (λ t. refl);
    carries = λ t. record { left = λ s q. (λ l. l, λ l. l); kept = λ s h. refl; sizes = λ s h. refl };
    moments = λ t. always_start a (Each (Replaying seal size old (disk a))) (λ q. replaying_start seal size old (disk a) q);
    entries = λ q never. refl;
    once = λ s held. omega arith;
    faults = omega arith;
  }

  module _ (now : Walk F (PageBlob S gs)) (opened : OpenedList) (b : Timeline) (some : ℕ) (run : Running now opened b some) where
    same_then : (new : Walk F (PageBlob S gs)) → SameWalk now new → SameWalk old new
    same_then new more = record {
      bounds = record {
        place = record { partition = more.bounds.place.partition ∙ run.same.bounds.place.partition; factory = more.bounds.place.factory ∙ run.same.bounds.place.factory };
        floor = more.bounds.floor ∙ run.same.bounds.floor;
        ceiling = more.bounds.ceiling ∙ run.same.bounds.ceiling;
      };
      unrecovered = λ s. more.unrecovered s ∙ run.same.unrecovered s;
      floors = λ s. more.floors s ∙ run.same.floors s;
      section = more.section ∙ run.same.section;
      position = more.position ∙ run.same.position;
    }

    never_now : (q : Key) → (IsKeyOf old.journal.sections (λ s. IsHeld old.journal.sections s × (IsAhead old s ⊎ IsIn old s)) q → ⊥)
        → IsKeyOf now.journal.sections (λ s. IsHeld now.journal.sections s × (IsAhead now s ⊎ IsIn now s)) q → ⊥
    never_now q never k = never (k.0, ((run.goes.held k.0).0 k.1.0, run.onward k.0 k.1.1), k.2 ∙ ap (λ (p : List ℕ). section_key p k.0) run.same.bounds.place.partition)

    -- nothing is left where it is drained, or has ended
    pub left_none : told → IsDrained now ⊎ (now.ended ≡ true) → (s p : ℕ) → IsLeft seal size old (disk a) s p → ⊥
    left_none t over s p l =
        let left = ((run.carries t).left s p).1 l in
        elim over [
          | inl drained ↦ elim left.ahead [
            | inl here ↦ drained.last s here.0 here.1
            | inr there ↦ none_in now.place (λ r. (r.section ≡ s) × (r.position ≤ p)) drained.between there
          ]
          | inr ended ↦ absurd (cc (ended, left.goes_on))
        ]

    module _ {V : Type 0} (spelling : V → List ℕ) (accepted : V → Unit {0} → Type 0) (refusal : List ℕ → Unit {0} → Option codec.Error) (result : Result (Option (ℕ × ℕ × V)) Error) (new : Walk F (PageBlob S gs)) (after : OpenedList) (c : Timeline) (many : ℕ)
        (step : Steps seal size g gives spelling accepted refusal told result now new opened after b c some many) where
      pub same_after : SameWalk old new
      same_after = same_then new step.same

      pub nearer_after : way_of new < way_of old
      nearer_after = omega (arith, run.nearer, step.nearer)

      pub onward_after : (s : ℕ) → IsAhead new s ⊎ IsIn new s → IsAhead old s ⊎ IsIn old s
      onward_after s near = run.onward s (step.onward s near)

      pub stays_after : KeepsSections old new
      stays_after s none = (let more = step.stays s none in
          (sym (run.goes.known s) ∙ more.0, (λ h. (run.goes.held s).0 (more.1.0 h), λ h. more.1.1 ((run.goes.held s).1 h))))

      -- the section's buffer after the first steps
      between : (s : ℕ) (u : PageBlob S gs) → old.journal.sections.held s ≡ Some u → (x : PageBlob S gs) × (now.journal.sections.held s ≡ Some x)
      between s u held = some_of (now.journal.sections.held s) ((run.goes.held s).1 (some_there (old.journal.sections.held s) u held))

      pub floors_after : KeepsFloors old new
      floors_after s u v held now_held =
          let x = between s u held in
          cut_then (old.journal.floor_of s) u x.0 v (run.floors s u x.0 held x.1) (subst (λ (n : ℕ). IsSameOrCut n x.0 v) (run.same.floors s) (step.floors s x.0 v x.1 now_held))

      pub items_after : told → now.ended ≡ false → new.ended ≡ false → KeepsItems seal size old (disk a) (disk c)
      items_after t going goes s u held owed =
          let x = between s u held in
          let key : key_of now.journal.sections s ≡ key_of old.journal.sections s = ap (λ (p : List ℕ). section_key p s) run.same.bounds.place.partition in
          let paged : SameItems seal u.page_size size (disk b (key_of now.journal.sections s)) (disk c (key_of now.journal.sections s)) =
          subst (λ (P : ℕ). SameItems seal P size (disk b (key_of now.journal.sections s)) (disk c (key_of now.journal.sections s))) (run.floors s u x.0 held x.1).page_size (step.items t goes s x.0 x.1 (subst IsTrue (sym (run.same.unrecovered s)) owed)) in
          items_then seal u.page_size size (disk a (key_of old.journal.sections s)) (disk b (key_of old.journal.sections s)) (disk c (key_of old.journal.sections s)) (run.items t going s u held owed)
          (subst (λ (k : Key). SameItems seal u.page_size size (disk b k) (disk c k)) key paged)

      pub later_after : told → LeavesNoMore seal size now new (disk b) (disk c) → LeavesNoMore seal size old new (disk a) (disk c)
      later_after t more q x has = run.later t q x (more q x has)

      pub bytes_after : KeepsBytes told old new (disk a) (disk c)
      bytes_after s u v held now_held free =
          let x = some_of (now.journal.sections.held s) ((run.goes.held s).1 (some_there (old.journal.sections.held s) u held)) in
          let first = run.bytes s u x.0 held x.1 free in
          let more = step.bytes s x.0 v x.1 now_held (run.same.unrecovered s ∙ free) in
          let key : key_of now.journal.sections s ≡ key_of old.journal.sections s = ap (λ (p : List ℕ). section_key p s) run.same.bounds.place.partition in
          record {
            size = more.size ∙ first.size;
            settled = more.settled ∙ first.settled;
            bytes = λ t. subst (λ (k : Key). bytes_of (shown v) (disk c k).content ≡ bytes_of (shown x.0) (disk b k).content) key (more.bytes t) ∙ first.bytes t;
          }

      pub moments_after : told → Always a c (Each (Replaying seal size old (disk a)))
      moments_after t = always_then a b c (Each (Replaying seal size old (disk a))) (run.moments t)
          (always_weaker b c (Each (Replaying seal size now (disk b))) (Each (Replaying seal size old (disk a))) (λ x each q. run.later t q (x q) (each q)) (step.moments t))

      pub entries_after : (q : Key) → (IsKeyOf old.journal.sections (λ s. IsHeld old.journal.sections s × (IsAhead old s ⊎ IsIn old s)) q → ⊥) → after q ≡ before q
      entries_after q never = step.entries q (never_now q never) ∙ run.entries q never

      pub once_after : ReadsOnce now new opened after → ReadsOnce old new before after
      once_after more s held =
          let key : key_of now.journal.sections s ≡ key_of old.journal.sections s = ap (λ (p : List ℕ). section_key p s) run.same.bounds.place.partition in
          let here = subst (λ (k : Key). reads_of (after k) + reads_left new s ≤ reads_of (opened k) + reads_left now s) key (more s ((run.goes.held s).1 held)) in
          omega (arith, here, run.once s held)

      pub faults_after : few ≤ many
      faults_after = omega (arith, run.faults, step.faults)

      goes_then : GoesOn now new → GoesOn old new
      goes_then more = record {
        failed = more.failed ∙ run.goes.failed;
        ended = more.ended ∙ run.goes.ended;
        held = λ s. (λ h. (run.goes.held s).0 ((more.held s).0 h), λ h. (more.held s).1 ((run.goes.held s).1 h));
        known = λ s. more.known s ∙ run.goes.known s;
      }

      -- it gave nothing again
      pub running_on : result ≡ Ok None → Running new after c many
      running_on is = record {
        over = ok_of result is step.over;
        goes = goes_then (ok_of result is step.goes);
        same = same_after;
        nearer = omega (arith, nearer_after);
        onward = onward_after;
        floors = floors_after;
        bytes = bytes_after;
        items = λ t going. items_after t (sym (ok_of result is step.goes).ended ∙ going) going;
        later = λ t. later_after t (ok_of result is (step.later t));
        carries = λ t. (let more = step.carries t is in record {
          left = λ s q. (λ l. ((run.carries t).left s q).0 ((more.left s q).0 l), λ l. (more.left s q).1 (((run.carries t).left s q).1 l));
          kept = λ s near. more.kept s near ∙ (run.carries t).kept s (step.onward s near);
          sizes = λ s near. more.sizes s near ∙ (run.carries t).sizes s (step.onward s near);
        });
        moments = moments_after;
        entries = entries_after;
        once = once_after (ok_of result is step.once);
        faults = faults_after;
      }
        where
          ok_of : {P : Type 0} → (r : Result (Option (ℕ × ℕ × V)) Error) → r ≡ Ok None → OnOk r P → P
          ok_of (Ok x) same has = has
          ok_of (Err x) same has = absurd (cc same)

      near_of : (s p : ℕ) → IsLeft seal size now (disk b) s p → IsAhead now s ⊎ IsIn now s
      near_of s p l = elim l.ahead [ inl here ↦ inl here.1 | inr there ↦ inr (in_section now.place s p there) ]

      pub gives_after : told → (s p : ℕ) (v : V) → result ≡ Ok (Some (s, p, v)) → Gives seal size spelling accepted old new (disk a) (disk c) s p v
      gives_after t s p v is = let has = step.item t s p v is in let run_left = (run.carries t).left in record {
        left = (run_left s p).0 has.left;
        first = λ x q l. has.first x q ((run_left x q).1 l);
        item = subst (λ (bytes : List ℕ). IsItem spelling accepted (item_at size bytes p) v) ((run.carries t).kept s (near_of s p has.left)) has.item;
        covered = has.covered;
        rest = λ x q. (λ l. (let k = (has.rest x q).0 l in ((run_left x q).0 k.0, k.1)), λ l. (has.rest x q).1 ((run_left x q).1 l.0, l.1));
      }

      ended_after : told → (s : ℕ) → IsEndedAt seal size now new (disk b) (disk c) s → IsEndedAt seal size old (failing new) (disk a) (disk c) s
      ended_after t s has = ended_failing seal size old new (disk a) (disk c) s (ended_back seal size old now new (disk a) (disk b) (disk c) s (run.carries t).left has)

      pub stops_after : told → Stops seal size now new (disk b) (disk c) → Stops seal size old (failing new) (disk a) (disk c)
      stops_after t has = record {
        rest = elim has.rest [
          | inl end ↦ inl end
          | inr some ↦ inr (some.0, ended_after t some.0 some.1)
        ];
      }

      pub damaged_after : (x : Error) → result ≡ Err x → told → (k : ℕ) → x ≡ Runtime (InvalidChecksum k) → EndsDamaged seal size old (failing new) (disk a) (disk c) k
      damaged_after x is t k same = (let has = (step.damaged t k (is ∙ ap Err same)).damage in record {
        damage = record {
          section = has.section;
          position = has.position;
          near = run.onward has.section has.near;
          free = has.free;
          floor = has.floor;
          within = has.within;
          page = has.page;
        };
        ends = ended_after t has.section (step.damaged t k (is ∙ ap Err same)).ends;
      })

      pub refused_after : (x : Error) → result ≡ Err x → told → (e : codec.Error) → x ≡ Codec e → Refuses seal size refusal old (failing new) (disk a) (disk c) e
      refused_after x is t e same = let has = step.refused t e (is ∙ ap Err same) in let run_left = (run.carries t).left in record {
        section = has.section;
        position = has.position;
        left = (run_left has.section has.position).0 has.left;
        first = λ y q l. has.first y q ((run_left y q).1 l);
        refused = subst (λ (bytes : List ℕ). refusal (item_at size bytes has.position) tt ≡ Some e) ((run.carries t).kept has.section (near_of has.section has.position has.left)) has.refused;
        covered = has.covered;
        rest = λ y q. (
          λ l. (let k = (has.rest y q).0 (record { goes_on = l.goes_on; begun = l.begun; whole = l.whole; ahead = l.ahead }) in ((run_left y q).0 k.0, k.1)),
          λ l. (let k = (has.rest y q).1 ((run_left y q).1 l.0, l.1) in record { goes_on = k.goes_on; begun = k.begun; whole = k.whole; ahead = k.ahead }),
        );
      }

      -- what ended the replay
      pub ends_after : (x : Error) → result ≡ Err x → new.ended ≡ true → (old.ended ≡ true) ⊎ ((HasDamage {T = V} (Err x) × (told → ⊥)) ⊎ HasFailed {T = V} (Err x) few many)
      ends_after x is ended = elim (step.ends ended) [
        | inl end ↦ inl (sym run.goes.ended ∙ end)
        | inr has ↦ inr (elim has [
          | inl page ↦ (let at = page.0.1 in inl ((page.0.0, cc (at, is)), page.1))
          | inr failed ↦ inr (elim (failed_since result few some many run.faults failed) [ inl mem ↦ inl (cc (mem, is)) | inr fault ↦ (let at = fault.0 in inr (cc (at, is), fault.1)) ])
        ])
      ]

      pub ends_cut_after : new.ended ≡ true → (old.ended ≡ true) ⊎ IsCutting seal size told old (disk a)
      ends_cut_after ended = elim (step.ends_cut ended) [
        | inl end ↦ inl (sym run.goes.ended ∙ end)
        | inr has ↦ inr (record {
          section = has.section;
          near = run.onward has.section has.near;
          owes = sym (run.same.unrecovered has.section) ∙ has.owes;
          longer = λ t.
              let less = subst (λ (bytes : List ℕ). length bytes / size * size < section_size now.journal.sections has.section) ((run.carries t).kept has.section has.near) (has.longer t) in
              omega (arith, less, (run.carries t).sizes has.section has.near);
          given = λ t x q l. has.given t x q (((run.carries t).left x q).1 l);
        })
      ]

      pub start_after : told → (p : ℕ) → IsErrOf result (ItemOutOfRange p) → (p ≡ old.start_position) × (length (kept_bytes seal size old (disk a) old.start_section) < p * size)
          × IsEndedAt seal size old (failing new) (disk a) (disk c) old.start_section
      start_after t p is =
          let has = step.start t p is in
          let same = (run.carries t).kept now.start_section has.2 in
          let there : length (kept_bytes seal size old (disk a) now.start_section) < p * size = subst (λ (bytes : List ℕ). length bytes < p * size) same has.1 in (
            has.0 ∙ run.same.position,
            subst (λ (k : ℕ). length (kept_bytes seal size old (disk a) k) < p * size) run.same.section there,
            subst (λ (k : ℕ). IsEndedAt seal size old (failing new) (disk a) (disk c) k) run.same.section (ended_after t now.start_section has.3),
          )

      pub damage_after : told → (x : Damage) → IsErrOf result (Corruption x) → EndsBelow seal size old (disk a) x × (IsAhead old x.section ⊎ IsIn old x.section)
          × IsEndedAt seal size old (failing new) (disk a) (disk c) x.section
      damage_after t x is =
          let has = step.damage t x is in
          let same = (run.carries t).kept x.section has.1 in (
            record {
              owes = sym (run.same.unrecovered x.section) ∙ has.0.owes;
              held = (run.goes.held x.section).0 has.0.held;
              kept = subst (λ (bytes : List ℕ). x.kept ≡ length bytes / size * size) same has.0.kept;
              wanted = has.0.wanted ∙ run.same.floors x.section;
              less = has.0.less;
            },
            run.onward x.section has.1,
            ended_after t x.section has.2,
          )

      pub cause_after : (x : Error) → result ≡ Err x → (x ≡ ItemOutOfRange old.start_position) ⊎ (IsBelowFloor {T = V} (Err x) ⊎ HasNotRead {T = V} (Err x) few many)
      cause_after x is = elim (err_at result x is step.cause) [
        | inl start ↦ (let same = run.same.position in inl (cc (start, is, same)))
        | inr (inl below) ↦ (let at = below.1 in inr (inl (below.0, cc (at, is))))
        | inr (inr failed) ↦ inr (inr (other_result result x is few many (not_read_since result few some many run.faults failed)))
      ]
