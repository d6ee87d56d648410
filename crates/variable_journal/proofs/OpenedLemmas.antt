-- A journal of frames that was opened up to a byte of a section, and gone over: what it has then, or why it was refused.
use Rattle.std.specs.Prelude.{◌≡◌, ◌≢◌, ◌⊎◌, ◌↔◌, ℕ, ◌<◌, ◌≤◌, eqb, cond, Bool, false, true, List, [], length, take, Option, Some, None, Result, Ok, Err, IfOk, IsTrue}
use Rattle.std.specs.Result.{IsErrOf}
use Rattle.std.proofs.Common.{inl, inr, refl, sym, ap, ◌∙◌, subst, arith}
use Rattle.std.proofs.Math.Seq.{take-length}
use Rattle.std.proofs.lemmas.Bool.{cases_lt}
use Rattle.blob_device.specs.Disk.{Key, Disk}
use Rattle.blob_device.specs.Timeline.{disk, Always, Each}
use Rattle.blob_device.specs.declared.device.Device as device
use Rattle.blob_device.specs.declared.runtime.RError.TheVariants.{InvalidChecksum}
use Rattle.blob_device.specs.lemmas.Moments.{always_now, always_then, always_weaker}
use Rattle.value_codec.specs.declared.codec.Error as codec
use Rattle.sealed_pages.specs.Buffer.{bytes_of, size_of}
use Rattle.sealed_pages.specs.SealedPrefix.{sealed_prefix}
use Rattle.sealed_pages.specs.Shown.{shown}
use Rattle.sealed_pages.specs.declared.page_blob.PageBlob.{PageBlob}
use Rattle.sealed_pages.specs.declared.pages.Pages.{Pages}
use Rattle.sealed_pages.specs.lemmas.cutting.Truncating.{all_flushed}
use Rattle.segments.specs.lemmas.adding.Write.{ArePages, bytes_here, settled_idle}
use Rattle.segments.specs.lemmas.replay.Kept.{sealed_flushed}
use Rattle.segments.specs.lemmas.replay.Reading.{failed_since}
use Rattle.variable_journal.specs.lemmas.Frame.{bad_before, rest_none}
use Rattle.variable_journal.specs.lemmas.Offset.{whole_is}
use Rattle.variable_journal.specs.lemmas.Running.{bad_stays, keeps_on, near_or_not}
use Rattle.section_manager.specs.Refusing.{HasFailed, IsForeign}
use Rattle.section_manager.specs.Sealed.{is_unsettled}
use Rattle.section_manager.specs.SealedLaws.{all_settled}
use Rattle.section_manager.specs.Sections.{Sections, key_of, section_key, IsHeld, IsOver}
use Rattle.section_manager.specs.Setting.{Setting}
use Rattle.section_manager.specs.declared.buffer.SectionBuffer as buffer
use Rattle.section_manager.specs.declared.journal.Error.{Error}
use Rattle.section_manager.specs.declared.journal.Error.TheVariants.{Codec, InvalidBlobName, ItemOutOfRange, Runtime}
use Rattle.section_manager.specs.declared.sealed.AppendFactory.{AppendFactory}
use Rattle.segments.specs.FixedBounds.{IsOpenedCut}
use Rattle.segments.specs.FixedLists.{Lists, section_bytes}
use Rattle.segments.specs.FixedReplay.{Walk, IsDrained, IsGoneOver, kept_of}
use Rattle.variable_journal.specs.Advancing.{GivesError, Keeps}
use Rattle.variable_journal.specs.Draining.{HasComeTo}
use Rattle.variable_journal.specs.Finishing.{Finishes, given}
use Rattle.variable_journal.specs.Frames.{frames, items_of, rest_of, whole_end, HasBadLength}
use Rattle.variable_journal.specs.Lists.{IsJournal}
use Rattle.variable_journal.specs.OpeningAtMost.{BoundingFrames, IsFirstRefused, IsOpenedTo, IsThere, IsValue, OpensTo, judged_bytes}
use Rattle.variable_journal.specs.Reading.{Spells}
use Rattle.variable_journal.specs.Replaying.{IsItemAt, IsItemLeft, KeepsFrames, RefusesItem, ReplayingFrames, given_bytes}
use Rattle.variable_journal.proofs.BoundLemmas.{begun, bounding_now, given_mid, held_of, later_still, page_of, prefix_mid, settled_always, there_of}
use Rattle.variable_journal.proofs.FinishingLemmas.{HasCome, has_come}
use Rattle.variable_journal.proofs.OffsetLemmas.{item_inside, one_item}
use Rattle.blob_device.proofs.general.Options.{none_in, some_of, some_there}

-- whole frames, as they are
whole_own : (bytes : List ℕ) → rest_of bytes ≡ [] → take (whole_end bytes) bytes ≡ bytes
whole_own bytes none = ap (λ (n : ℕ). take n bytes) (omega (arith, whole_is bytes, ap length none)) ∙ take-length bytes

-- a cut of a list that has the same items, and is whole frames
cut_own : (was now : List ℕ) → items_of now ≡ items_of was → now ≡ take (length now) was → rest_of now ≡ [] → now ≡ take (whole_end was) was
cut_own was now items first none = first ∙ ap (λ (n : ℕ). take n was) (omega (arith, whole_is now, ap length none, ap (λ (xs : List (List ℕ)). length (frames xs)) items))

never_bad : (bytes : List ℕ) → rest_of bytes ≡ [] → HasBadLength (rest_of bytes) → ⊥
never_bad bytes none bad = omega (arith, bad.enough, ap length none)

from_start : (b : Bool) (p : ℕ) → cond b 0 0 ≤ p
from_start true p = omega arith
from_start false p = omega arith

module _ {S D : Type 0} {gs : _} (seal : List ℕ → ℕ) (P : ℕ) (pos : 1 ≤ P) (g : buffer.Ghosts (PageBlob S gs)) (laws : ArePages g seal) (gives : AppendFactory S → Setting) (dev : device.Ghosts D)
    (last end : ℕ) (paged : Pages) (capacity : ℕ) (j : Lists (AppendFactory S) (PageBlob S gs)) (old middle : D)
    (cut : IsOpenedCut seal P 1 j.sections.partition last end g gives dev.Tells paged capacity j (dev.opened middle) (disk (dev.time old)) (disk (dev.time middle))) (sized : (gives j.sections.factory).page_size ≡ P)
    (first : dev.Tells → Always (dev.time old) (dev.time middle) (BoundingFrames seal P j.sections.partition last end (disk (dev.time old)))) where
  abbrev from : Disk
  from = disk (dev.time old)

  abbrev mid : Disk
  mid = disk (dev.time middle)

  -- what is kept of a section
  abbrev kept : ℕ → List ℕ
  kept = judged_bytes seal P j.sections.partition last end from

  given_is : dev.Tells → (s : ℕ) → IsHeld j.sections s → given_bytes seal (begun j) mid s ≡ kept s
  given_is t s held = given_mid seal P g laws gives dev.Tells last end paged capacity j (dev.opened middle) from mid cut sized t s held

  there_is : dev.Tells → (s : ℕ) → IsHeld j.sections s → IsThere seal P j.sections.partition last end from s × (s ≤ last)
  there_is t s held = there_of seal P g laws gives dev.Tells last end paged capacity j (dev.opened middle) from mid cut sized t s held

  held_is : dev.Tells → (s : ℕ) → IsThere seal P j.sections.partition last end from s → s ≤ last → IsHeld j.sections s
  held_is t s there le = held_of seal P g laws gives dev.Tells last end paged capacity j (dev.opened middle) from mid cut sized t s there le

  -- an item of a section is left
  left_of : dev.Tells → (s o : ℕ) (i : List ℕ) → IsHeld j.sections s → IsItemAt (kept s) o i → IsItemLeft seal (begun j) mid s o i
  left_of t s o i held at =
      let whole = subst (λ (l : List ℕ). IsItemAt l o i) (sym (given_is t s held)) at in
      record {
        byte = record { goes_on = refl; begun = from_start (eqb s 0) o; whole = omega (arith, item_inside (given_bytes seal (begun j) mid s) o i whole); ahead = inl (held, omega arith) };
        whole = whole;
      }

  held_left : (s o : ℕ) (i : List ℕ) → IsItemLeft seal (begun j) mid s o i → IsHeld j.sections s
  held_left s o i l = elim l.byte.ahead [ inl here ↦ here.0 | inr there ↦ absurd there ]

  item_left : dev.Tells → (s o : ℕ) (i : List ℕ) → IsItemLeft seal (begun j) mid s o i → IsItemAt (kept s) o i
  item_left t s o i l = subst (λ (x : List ℕ). IsItemAt x o i) (given_is t s (held_left s o i l)) l.whole

  -- what each moment leaves, wherever the replay has come to
  moments_to : (n : Walk (AppendFactory S) (PageBlob S gs)) (new : D) → Keeps g gives seal dev (begun j) n middle new → dev.Tells → Always (dev.time old) (dev.time new) (BoundingFrames seal P j.sections.partition last end from)
  moments_to n new keeps t = always_then (dev.time old) (dev.time middle) (dev.time new) (BoundingFrames seal P j.sections.partition last end from) (first t)
      (always_weaker (dev.time middle) (dev.time new) (Each (ReplayingFrames seal (begun j) mid)) (BoundingFrames seal P j.sections.partition last end from)
      (λ d each. bounding_now seal P g laws gives dev.Tells last end paged capacity j (dev.opened middle) from mid cut sized t d each
      (always_now (dev.time old) (dev.time middle) (BoundingFrames seal P j.sections.partition last end from) (first t)))
      (keeps.moments t))

  entries_to : (n : Walk (AppendFactory S) (PageBlob S gs)) (new : D) → Keeps g gives seal dev (begun j) n middle new → ((q : Key) → ((s : ℕ) → q ≢ section_key j.sections.partition s) → dev.opened middle q ≡ dev.opened old q)
      → (q : Key) → ((s : ℕ) → q ≢ section_key j.sections.partition s) → dev.opened new q ≡ dev.opened old q
  entries_to n new keeps entries q never = keeps.entries q (λ k. never k.0 k.2) ∙ entries q never

  module _ {V C : Type 0} (spelling : V → List ℕ) (accepted : V → C → Type 0) (refusal : List ℕ → C → Option codec.Error) (config : C) (x : Walk (AppendFactory S) (PageBlob S gs)) (at : D)
      (come : HasComeTo g gives seal dev spelling accepted refusal config (begun j) middle x at) where
    abbrev to : Disk
    to = disk (dev.time at)

    keeps : Keeps g gives seal dev (begun j) x middle at
    keeps = come.gone.keeps

    key_same : (s : ℕ) → key_of x.journal.sections s ≡ key_of j.sections s
    key_same s = ap (λ (p : List ℕ). section_key p s) keeps.same.bounds.place.partition

    ran : (t : dev.Tells) → HasCome seal spelling accepted config (record { walk = begun j; disk = mid }) (given (come.calls t).0) (record { walk = x; disk = to })
    ran t = has_come seal spelling accepted config (record { walk = begun j; disk = mid }) (come.calls t).0 (record { walk = x; disk = to }) (come.calls t).1

    -- an item was given, and is a value; or it is left
    value_or_left : dev.Tells → (s o : ℕ) (i : List ℕ) → IsItemLeft seal (begun j) mid s o i → IsValue seal P j.sections.partition last end spelling accepted config i ⊎ IsItemLeft seal x to s o i
    value_or_left t s o i l = elim ((ran t).all s o i l) [
      | inl has ↦ (let it = (ran t).items (s, o, has.0, has.1) has.2 in
          inl (has.1, subst (λ (z : List ℕ). Spells spelling accepted config z has.1) (one_item (given_bytes seal (begun j) mid s) o it.0 i it.1.whole l.whole) it.2))
      | inr here ↦ inr here
    ]

    -- a section that owes a replay, by the buffers before and after
    module _ (t : dev.Tells) (s : ℕ) (u : PageBlob S gs) (held : x.journal.sections.held s ≡ Some u) where
      was : (v : PageBlob S gs) × (j.sections.held s ≡ Some v)
      was = some_of (j.sections.held s) ((come.gone.goes.held s).0 (some_there (x.journal.sections.held s) u held))

      pub here : IsHeld j.sections s
      here = some_there (j.sections.held s) was.0 was.1

      page : u.page_size ≡ P
      page = (keeps.floors s was.0 u was.1 held).page_size ∙ page_of seal P g laws gives dev.Tells last end paged capacity j (dev.opened middle) from mid cut sized s was.0 was.1

      -- its sealed prefix, by names of before
      prefix_to : sealed_prefix seal u.page_size (to (key_of x.journal.sections s)).content ≡ sealed_prefix seal P (to (key_of j.sections s)).content
      prefix_to = λ i. sealed_prefix seal (page i) (to (key_same s i)).content

      keeps_frames : IsTrue (x.journal.unrecovered s) → KeepsFrames seal P (mid (key_of j.sections s)) (to (key_of j.sections s))
      keeps_frames owed = subst (λ (Q : ℕ). KeepsFrames seal Q (mid (key_of j.sections s)) (to (key_of j.sections s)))
          (page_of seal P g laws gives dev.Tells last end paged capacity j (dev.opened middle) from mid cut sized s was.0 was.1)
          ((keeps.on_disk t).items come.going s was.0 was.1 (sym (keeps.same.unrecovered s) ∙ owed))

      mid_is : sealed_prefix seal P (mid (key_of j.sections s)).content ≡ kept s
      mid_is = prefix_mid seal P g laws gives dev.Tells last end paged capacity j (dev.opened middle) from mid cut sized t s here

      given_here : IsTrue (x.journal.unrecovered s) → given_bytes seal x to s ≡ sealed_prefix seal P (to (key_of j.sections s)).content
      given_here owed = (λ i. kept_of seal (owed i) (held i) (to (key_of x.journal.sections s)).content) ∙ prefix_to

      -- of any other its bytes are as before
      free_same : x.journal.unrecovered s ≡ false → section_bytes x.journal.sections to s ≡ kept s
      free_same free = bytes_here x.journal.sections s u held to
          ∙ ap (λ (q : Key). bytes_of (shown u) (to q).content) (key_same s)
          ∙ ((keeps.on_disk t).bytes s was.0 u was.1 held (sym (keeps.same.unrecovered s) ∙ free)).bytes tt
          ∙ sym (λ i. kept_of seal ((sym (keeps.same.unrecovered s) ∙ free) i) (was.1 i) (mid (key_of j.sections s)).content)
          ∙ given_is t s here

    -- a length that is refused was there
    bad_length : (t : dev.Tells) (s : ℕ) → HasBadLength (rest_of (given_bytes seal x to s)) → IsHeld j.sections s × HasBadLength (rest_of (kept s))
    bad_length t s bad = go (x.journal.sections.held s) refl (x.journal.unrecovered s) refl
      where
        go : (o : Option (PageBlob S gs)) → x.journal.sections.held s ≡ o → (b : Bool) → x.journal.unrecovered s ≡ b → IsHeld j.sections s × HasBadLength (rest_of (kept s))
        go None is b owes = absurd (never_bad [] rest_none (subst (λ (l : List ℕ). HasBadLength (rest_of l)) (ap (λ (o : Option (PageBlob S gs)). kept_of seal (x.journal.unrecovered s) o (to (key_of x.journal.sections s)).content) is) bad))
        go (Some u) is false free = absurd (never_bad (section_bytes x.journal.sections to s) ((come.over.walked t).framed s free)
            (subst (λ (l : List ℕ). HasBadLength (rest_of l)) ((λ i. kept_of seal (free i) (is i) (to (key_of x.journal.sections s)).content) ∙ sym (bytes_here x.journal.sections s u is to)) bad))
        go (Some u) is true owed =
            let frames_kept = keeps_frames t s u is owed in
            let cut_bad = subst (λ (l : List ℕ). HasBadLength (rest_of l)) (given_here t s u is owed ∙ frames_kept.first) bad in
            (here t s u is, subst (λ (l : List ℕ). HasBadLength (rest_of l)) (mid_is t s u is) (bad_before (sealed_prefix seal P (mid (key_of j.sections s)).content) (length (sealed_prefix seal P (to (key_of j.sections s)).content)) cut_bad))

    -- ---- an error was given

    module _ (n : Walk (AppendFactory S) (PageBlob S gs)) (new : D) (e : Error) (error : GivesError g gives seal dev spelling accepted refusal config x n at new e) where
      keeps_error : Keeps g gives seal dev (begun j) n middle new
      keeps_error = keeps_on g gives seal dev (begun j) x n middle at new come.gone come.going error.keeps

      refused_first : dev.Tells → (y : codec.Error) → RefusesItem seal x n to (disk (dev.time new)) refusal config y
          → (s : ℕ) × IsFirstRefused seal P j.sections.partition last end spelling accepted config refusal from y s
      refused_first t y r = (
        r.section,
        elim r.why [
          | inl item ↦
              let was = (ran t).left r.section item.0 item.1 item.2 in
              let held = held_left r.section item.0 item.1 was in
              record {
                there = (there_is t r.section held).0;
                under = (there_is t r.section held).1;
                before = earlier held;
                lengths = no_length held;
                why = inl (
                  item.0,
                  item.1,
                  item_left t r.section item.0 item.1 was,
                  (λ q i at_q less. elim (value_or_left t r.section q i (left_of t r.section q i held at_q)) [
                    | inl value ↦ value
                    | inr here ↦ absurd (omega (arith, less, item.3 q i here))
                  ]),
                  item.4,
                );
              }
          | inr bad ↦
              let was = bad_length t r.section bad.2 in
              record {
                there = (there_is t r.section was.0).0;
                under = (there_is t r.section was.0).1;
                before = earlier was.0;
                lengths = no_length was.0;
                why = inr (
                  bad.0,
                  (λ q i at_q. elim (value_or_left t r.section q i (left_of t r.section q i was.0 at_q)) [
                    | inl value ↦ value
                    | inr here ↦ absurd (bad.1 q i here)
                  ]),
                  was.1,
                );
              }
        ],
      )
        where
          earlier : IsHeld j.sections r.section → (s o : ℕ) (i : List ℕ) → IsThere seal P j.sections.partition last end from s → s < r.section → IsItemAt (kept s) o i → IsValue seal P j.sections.partition last end spelling accepted config i
          earlier held s o i there less at_o =
              let here = held_is t s there (omega (arith, less, (there_is t r.section held).1)) in
              elim (value_or_left t s o i (left_of t s o i here at_o)) [
                | inl value ↦ value
                | inr left ↦ absurd (r.ends.first s o i left less)
              ]

          no_length : IsHeld j.sections r.section → (s : ℕ) → IsThere seal P j.sections.partition last end from s → s < r.section → HasBadLength (rest_of (kept s)) → ⊥
          no_length held s there less bad =
              let here = held_is t s there (omega (arith, less, (there_is t r.section held).1)) in
              let was = subst (λ (l : List ℕ). HasBadLength (rest_of l)) (sym (given_is t s here)) bad in
              let now = subst (λ (l : List ℕ). HasBadLength (rest_of l)) (sym (bad_stays g gives seal dev (begun j) x n middle at new come.gone come.going t s was)) was in
              elim (near_or_not x s) [
                | inl near ↦ r.lengths s near less now
                | inr far ↦ never_bad (given_bytes seal x to s) ((come.over.walked t).gone_over come.gone.goes.failed s (record {
                  begun = omega (arith, keeps.same.section);
                  not_ahead = λ ahead. far (inl ahead);
                  not_in = λ inside. far (inr inside);
                })) now
              ]

      own_error : {T : Type 0} (y : Error) → IsErrOf {T = T} (Err e) y → e ≡ y
      own_error y is = cc is

      pub stopped_opens : (place : List ℕ) → j.sections.partition ≡ place → (kept_config : Result C Error) → IfOk kept_config (λ c. c ≡ config)
          → (dev.Tells → (name : List ℕ) → IsForeign (disk (dev.time old)) place name → ⊥)
          → ((q : Key) → ((s : ℕ) → q ≢ section_key place s) → dev.opened middle q ≡ dev.opened old q) → dev.faults old ≤ dev.faults middle
          → OpensTo seal P place last end spelling accepted config refusal g gives paged capacity dev (Err e) kept_config old new
      stopped_opens place same kept_config config_is never entries faults =
          subst (λ (p : List ℕ). OpensTo seal P p last end spelling accepted config refusal g gives paged capacity dev (Err e) kept_config old new) same (record {
            moments = moments_to n new keeps_error;
            settled = λ t. settled_always seal P pos j.sections.partition last end (dev.time old) (dev.time new) (moments_to n new keeps_error t);
            ends = tt;
            same_config = config_is;
            names = record {
              foreign = λ t name bad. absurd (not_foreign t name bad);
              untouched = λ t name bad. absurd (not_foreign t name bad);
              unopened = λ t name bad. absurd (not_foreign t name bad);
              named = λ t m of. absurd (unnamed m (own_error (InvalidBlobName m) of));
              entries = λ m of. absurd (unnamed m (own_error (InvalidBlobName m) of));
            };
            entries = entries_to n new keeps_error (λ q none. entries q (λ s own. none s (own ∙ ap (λ (p : List ℕ). section_key p s) (sym same))));
            faults = omega (arith, faults, keeps_error.faults);
            refused = λ t y of. refused_first t y ((error.says t).refused y (own_error (Codec y) of));
            cause = elim error.cause [
              | inl past ↦ inr (inr (inr (inl (ap Err (past ∙ ap ItemOutOfRange keeps.same.position)), λ t. (let says = (error.says t).start x.start_position past in omega (arith, says.1, keeps.same.position)))))
              | inr (inl below) ↦ inr (inr (inr (inr (inl (below.0, ap Err below.1)), λ t. (error.says t).floor below.0 below.1)))
              | inr (inr (inl page)) ↦ inr (inr (inr (inr (inr (page.0, ap Err (own_error (Runtime (InvalidChecksum page.0)) page.1))), λ t. (error.says t).damaged page.0 (own_error (Runtime (InvalidChecksum page.0)) page.1))))
              | inr (inr (inr (inl coded))) ↦ inr (inl (coded.0, ap Err (own_error (Codec coded.0) coded.1)))
              | inr (inr (inr (inr failed))) ↦ inr (inr (inl (failed_since (Err e) (dev.faults old) (dev.faults at) (dev.faults new) (omega (arith, faults, keeps.faults)) (failed_as (dev.faults at) (dev.faults new) failed))))
            ];
          })
        where
          not_foreign : dev.Tells → (name : List ℕ) → IsForeign (disk (dev.time old)) j.sections.partition name → ⊥
          not_foreign t name bad = never t name (subst (λ (p : List ℕ). IsForeign (disk (dev.time old)) p name) same bad)

          failed_as : {T : Type 0} (few many : ℕ) → HasFailed {T = V} (Err e) few many → HasFailed {T = T} (Err e) few many
          failed_as few many failed = elim failed [
            | inl none ↦ inl (ap Err (own_error _ none))
            | inr fault ↦ inr (ap Err (own_error _ fault.0), fault.1)
          ]

          unnamed : (m : List ℕ) → e ≡ InvalidBlobName m → ⊥
          unnamed m is_name = elim error.cause [
            | inl past ↦ cc (past, is_name)
            | inr (inl below) ↦ (let own = below.1 in cc (own, is_name))
            | inr (inr (inl page)) ↦ (let own = own_error _ page.1 in cc (own, is_name))
            | inr (inr (inr (inl coded))) ↦ (let own = own_error _ coded.1 in cc (own, is_name))
            | inr (inr (inr (inr (inl none)))) ↦ (let own = own_error _ none in cc (own, is_name))
            | inr (inr (inr (inr (inr fault)))) ↦ (let own = own_error _ fault.0 in cc (own, is_name))
          ]

    -- ---- all was given, and the journal was given back

    module _ (k : Lists (AppendFactory S) (PageBlob S gs)) (kept_config : Result C Error) (drained : IsDrained x) (finished : Finishes seal spelling accepted config x (Ok k) kept_config) where
      fine : x.failed ≡ false
      fine = come.gone.goes.failed

      over : IsJournal g gives seal dev.Tells k (dev.opened at) to
      over = record {
        bytes = record {
          over = subst (λ (m : Sections (AppendFactory S) (PageBlob S gs)). IsOver g gives dev.Tells m (dev.opened at) to) (sym finished.sections) come.over.bytes.over;
          owes_held = finished.held come.over.bytes.walk;
          owes_settled = finished.settled come.over.bytes.walk;
          disk = λ t. finished.sealed to (come.over.bytes.disk t);
          unopened = λ t. finished.unopened to (come.over.bytes.disk t);
        };
        free = finished.free come.over.free;
        framed = λ t. finished.framed to come.over.bytes.walk (come.over.bytes.disk t) (come.over.walked t);
      }

      held_same : (s : ℕ) → IsHeld k.sections s ↔ IsHeld j.sections s
      held_same s = (
        λ h. (come.gone.goes.held s).0 (subst (λ (m : Sections (AppendFactory S) (PageBlob S gs)). IsHeld m s) finished.sections h),
        λ h. subst (λ (m : Sections (AppendFactory S) (PageBlob S gs)). IsHeld m s) (sym finished.sections) ((come.gone.goes.held s).1 h),
      )

      -- a section that is held was gone over
      gone_over : (s : ℕ) (u : PageBlob S gs) → x.journal.sections.held s ≡ Some u → IsGoneOver x s
      gone_over s u held = record {
        begun = omega (arith, keeps.same.section);
        not_ahead = λ ahead. drained.last s (some_there (x.journal.sections.held s) u held) ahead;
        not_in = λ there. none_in x.place (λ r. r.section ≡ s) drained.between there;
      }

      -- and has its whole frames
      bytes_to : dev.Tells → (s : ℕ) (u : PageBlob S gs) → x.journal.sections.held s ≡ Some u → (b : Bool) → x.journal.unrecovered s ≡ b → section_bytes x.journal.sections to s ≡ take (whole_end (kept s)) (kept s)
      bytes_to t s u held false free =
          let same = free_same t s u held free in
          same ∙ sym (whole_own (kept s) (subst (λ (l : List ℕ). rest_of l ≡ []) same ((come.over.walked t).framed s free)))
      bytes_to t s u held true owed =
          let frames_kept = keeps_frames t s u held owed in
          let sealed = ((come.over.bytes.disk t).gone_over fine s u held (gone_over s u held) (inl owed)).0 in
          let own : sealed_prefix seal u.page_size (to (key_of x.journal.sections s)).content ≡ bytes_of (shown u) (to (key_of x.journal.sections s)).content =
          sealed_flushed seal (shown u) (to (key_of x.journal.sections s)) u.fit.begun sealed (all_flushed (shown u) u.fit.within u.order (come.over.bytes.walk.owes_settled.settled s u held owed)) in
          let none : rest_of (sealed_prefix seal P (to (key_of j.sections s)).content) ≡ [] = subst (λ (l : List ℕ). rest_of l ≡ []) (given_here t s u held owed) ((come.over.walked t).gone_over fine s (gone_over s u held)) in
          bytes_here x.journal.sections s u held to ∙ sym own ∙ prefix_to t s u held
          ∙ cut_own (sealed_prefix seal P (mid (key_of j.sections s)).content) (sealed_prefix seal P (to (key_of j.sections s)).content) frames_kept.items frames_kept.first none
          ∙ ap (λ (l : List ℕ). take (whole_end l) l) (mid_is t s u held)

      no_bad : dev.Tells → (s : ℕ) (u : PageBlob S gs) → x.journal.sections.held s ≡ Some u → (b : Bool) → x.journal.unrecovered s ≡ b → HasBadLength (rest_of (kept s)) → ⊥
      no_bad t s u held false free bad = never_bad (kept s) (subst (λ (l : List ℕ). rest_of l ≡ []) (free_same t s u held free) ((come.over.walked t).framed s free)) bad
      no_bad t s u held true owed bad =
          let frames_kept = keeps_frames t s u held owed in
          let same = frames_kept.all (subst (λ (l : List ℕ). HasBadLength (rest_of l)) (sym (mid_is t s u held)) bad) in
          let none : rest_of (sealed_prefix seal P (to (key_of j.sections s)).content) ≡ [] = subst (λ (l : List ℕ). rest_of l ≡ []) (given_here t s u held owed) ((come.over.walked t).gone_over fine s (gone_over s u held)) in
          never_bad (kept s) (subst (λ (l : List ℕ). rest_of l ≡ []) (same ∙ mid_is t s u held) none) bad

      idle_to : dev.Tells → (s : ℕ) (u : PageBlob S gs) → x.journal.sections.held s ≡ Some u → (b : Bool) → x.journal.unrecovered s ≡ b → is_unsettled (shown u) ≡ false
      idle_to t s u held true owed = settled_idle u.settled (size_of (shown u)) (come.over.bytes.walk.owes_settled.settled s u held owed)
      idle_to t s u held false free =
          let before = was t s u held in
          let same = (keeps.on_disk t).bytes s before.0 u before.1 held (sym (keeps.same.unrecovered s) ∙ free) in
          settled_idle u.settled (size_of (shown u)) (same.settled ∙ (all_settled (shown before.0) (cut.whole.idle s before.0 before.1) ∙ sym same.size))

      -- the buffer that the replay had
      held_x : (s : ℕ) (u : PageBlob S gs) → k.sections.held s ≡ Some u → x.journal.sections.held s ≡ Some u
      held_x s u is = ap (λ (m : Sections (AppendFactory S) (PageBlob S gs)). m.held s) (sym finished.sections) ∙ is

      buffer_of : (s : ℕ) → IsHeld k.sections s → (u : PageBlob S gs) × (x.journal.sections.held s ≡ Some u)
      buffer_of s held = (let u = some_of (k.sections.held s) held in (u.0, held_x s u.0 u.1))

      item_value : dev.Tells → (s o : ℕ) (i : List ℕ) → IsHeld k.sections s → IsItemAt (kept s) o i → IsValue seal P j.sections.partition last end spelling accepted config i
      item_value t s o i held at_o = elim (value_or_left t s o i (left_of t s o i ((held_same s).0 held) at_o)) [
        | inl value ↦ value
        | inr here ↦ absurd (elim here.byte.ahead [
          | inl ahead ↦ drained.last s ahead.0 ahead.1
          | inr there ↦ none_in x.place (λ r. (r.section ≡ s) × (r.position ≤ o)) drained.between there
        ])
      ]

      opened_to : IsOpenedTo seal P j.sections.partition last end spelling accepted config g gives dev.Tells paged capacity k (dev.opened at) from to
      opened_to = record {
        over = over;
        held = λ t s number. (λ h. (cut.whole.held t s number).0 ((held_same s).0 h), λ is. (held_same s).1 ((cut.whole.held t s number).1 is));
        known = λ s. ap (λ (m : Sections (AppendFactory S) (PageBlob S gs)). m.unopened s) finished.sections ∙ (come.gone.goes.known s ∙ cut.whole.known s);
        gone = λ t s lt there. later_still seal P g laws gives dev.Tells last end paged capacity j (dev.opened middle) from mid cut sized t to
            (always_now (dev.time middle) (dev.time at) (Each (ReplayingFrames seal (begun j) mid)) (keeps.moments t)) s lt there.0 ∙ cut.whole.gone t s lt there;
        bytes = λ t s held. ap (λ (m : Sections (AppendFactory S) (PageBlob S gs)). section_bytes m to s) finished.sections ∙ (let u = buffer_of s held in bytes_to t s u.0 u.1 (x.journal.unrecovered s) refl);
        items = item_value;
        lengths = λ t s held bad. (let u = buffer_of s held in no_bad t s u.0 u.1 (x.journal.unrecovered s) refl bad);
        recovered = λ s. finished.recovered s (elim (cases_lt 0 s) [
          | inl later ↦ inl (omega (arith, later, keeps.same.section))
          | inr first_one ↦ inr (keeps.same.position, omega (arith, first_one, keeps.same.section))
        ]);
        idle = λ t s u held. idle_to t s u (held_x s u held) (x.journal.unrecovered s) refl;
        partition_is = ap (λ (m : Sections (AppendFactory S) (PageBlob S gs)). m.partition) finished.sections ∙ keeps.same.bounds.place.partition;
        pages_are = ap (λ (m : Sections (AppendFactory S) (PageBlob S gs)). m.factory.pages) finished.sections ∙ (ap (λ (f : AppendFactory S). f.pages) keeps.same.bounds.place.factory ∙ cut.whole.pages_are);
        write_buffer_is = ap (λ (m : Sections (AppendFactory S) (PageBlob S gs)). m.factory.write_buffer) finished.sections ∙ (ap (λ (f : AppendFactory S). f.write_buffer) keeps.same.bounds.place.factory ∙ cut.whole.write_buffer_is);
        floor = ap (λ (m : Sections (AppendFactory S) (PageBlob S gs)). m.floor) finished.sections ∙ (keeps.same.bounds.floor ∙ cut.whole.floor);
        ceiling = ap (λ (m : Sections (AppendFactory S) (PageBlob S gs)). m.ceiling) finished.sections ∙ (keeps.same.bounds.ceiling ∙ cut.whole.ceiling);
      }

      pub drained_opens : (place : List ℕ) → j.sections.partition ≡ place
          → (dev.Tells → (name : List ℕ) → IsForeign (disk (dev.time old)) place name → ⊥)
          → ((q : Key) → ((s : ℕ) → q ≢ section_key place s) → dev.opened middle q ≡ dev.opened old q) → dev.faults old ≤ dev.faults middle
          → OpensTo seal P place last end spelling accepted config refusal g gives paged capacity dev (Ok k) kept_config old at
      drained_opens place same never entries faults =
          subst (λ (p : List ℕ). OpensTo seal P p last end spelling accepted config refusal g gives paged capacity dev (Ok k) kept_config old at) same (record {
            moments = moments_to x at keeps;
            settled = λ t. settled_always seal P pos j.sections.partition last end (dev.time old) (dev.time at) (moments_to x at keeps t);
            ends = opened_to;
            same_config = finished.same_config;
            names = record {
              foreign = λ t name bad. absurd (not_foreign t name bad);
              untouched = λ t name bad. absurd (not_foreign t name bad);
              unopened = λ t name bad. absurd (not_foreign t name bad);
              named = λ t m of. absurd (cc of);
              entries = λ m of. absurd (cc of);
            };
            entries = entries_to x at keeps (λ q none. entries q (λ s own. none s (own ∙ ap (λ (p : List ℕ). section_key p s) (sym same))));
            faults = omega (arith, faults, keeps.faults);
            refused = λ t y of. absurd (cc of);
            cause = tt;
          })
        where
          not_foreign : dev.Tells → (name : List ℕ) → IsForeign (disk (dev.time old)) j.sections.partition name → ⊥
          not_foreign t name bad = never t name (subst (λ (p : List ℕ). IsForeign (disk (dev.time old)) p name) same bad)
