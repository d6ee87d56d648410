-- A step of the replay of bytes, as one of frames: into a section, or to the end of one.
use Rattle.std.specs.Prelude.{◌≡◌, ◌⊎◌, ℕ, ◌+◌, ◌*◌, ◌/◌, ◌^◌, ◌<◌, ◌≤◌, cond, eqb, Bool, false, true, List, [], length, drop, Option, Some, None, Result, Ok, Err, OnOk, OnErr, IsTrue}
use Rattle.std.specs.Result.{IsErrOf}
use Rattle.std.proofs.Common.{inl, inr, refl, sym, ap, ◌∙◌, subst, arith, length-take, length-drop}
use Rattle.std.proofs.lemmas.Bool.{cases_order}
use Rattle.std.proofs.lemmas.List.{take_all}
use Rattle.blob_device.specs.Disk.{Key, Blob, Disk}
use Rattle.blob_device.specs.Opened.{OpenedList}
use Rattle.blob_device.specs.Timeline.{disk, Each}
use Rattle.blob_device.specs.declared.device.Device as device
use Rattle.blob_device.specs.lemmas.Moments.{always_now, always_weaker}
use Rattle.value_codec.specs.declared.codec.Error as codec
use Rattle.sealed_pages.specs.Buffer.{size_of}
use Rattle.sealed_pages.specs.ChanceSeal.{Leaves}
use Rattle.sealed_pages.specs.SealedPrefix.{sealed_prefix}
use Rattle.sealed_pages.specs.Shown.{shown}
use Rattle.sealed_pages.specs.declared.page_blob.PageBlob.{PageBlob}
use Rattle.section_manager.specs.Answers.{seen}
use Rattle.section_manager.specs.Refusing.{HasDamage, HasFailed}
use Rattle.section_manager.specs.Sections.{section_key, key_of, IsHeld, IsOver}
use Rattle.section_manager.specs.Setting.{Setting}
use Rattle.section_manager.specs.declared.buffer.SectionBuffer as buffer
use Rattle.section_manager.specs.lemmas.Keys.{key_injective}
use Rattle.section_manager.specs.declared.journal.Damage.{Damage}
use Rattle.section_manager.specs.declared.journal.Error.{Error}
use Rattle.section_manager.specs.declared.journal.Error.TheVariants.{Corruption, ItemOutOfRange}
use Rattle.segments.specs.FixedItems.{item_at}
use Rattle.segments.specs.FixedLists.{AreSealed, OwesSettled, bytes_held, section_bytes}
use Rattle.segments.specs.FixedReading.{HasNotRead}
use Rattle.segments.specs.FixedReplay as bytes
use Rattle.segments.specs.FixedReplay.{Walk, Place, IsAhead, IsIn, IsGoneOver, IsWalk, HasWalk, WalksOver, KeepsSections, SameItems, SameWalk, first_of, kept_of, kept_bytes}
use Rattle.segments.specs.FixedStepping.{bytes_ahead, failing, sections_ahead, way_of, word, Carries, Steps}
use Rattle.variable_journal.specs.Frames.{rest_of, whole_end, HasBadLength}
use Rattle.variable_journal.specs.Replaying.{AreWalked, EndsSection, IsBoundary, IsCuttingFrames, IsItemAt, IsItemLeft, IsStart, ReplayingFrames, given_bytes}
use Rattle.variable_journal.specs.Advancing.{GivesError, HasPassed, IsFailed, Keeps, LeavesLess, LeavesSection}
use Rattle.variable_journal.specs.Turning.{stopped}
use Rattle.variable_journal.specs.lemmas.Frame.{rest_none}
use Rattle.variable_journal.specs.lemmas.Offset.{whole_within}
use Rattle.variable_journal.specs.lemmas.Running.{cut_ends, frames_sealed}
use Rattle.variable_journal.proofs.LeavingLemmas.{left_or_not, left_section, near_left}
use Rattle.blob_device.proofs.general.Options.{none_in, none_or_value, some_of, some_there}

-- ---- at items of one byte

by_one : (n : ℕ) → n / 1 * 1 ≡ n
by_one n = omega arith

-- the same bytes are sealed where all items of one byte are kept
pub same_sealed : (seal : List ℕ → ℕ) (P : ℕ) (b c : Blob) → SameItems seal P 1 b c → sealed_prefix seal P c.content ≡ sealed_prefix seal P b.content
same_sealed seal P b c same =
    let B = sealed_prefix seal P b.content in
    let C = sealed_prefix seal P c.content in
    let long : length C ≡ length B = omega (arith, same.count) in
    sym (take_all (length B / 1 * 1) C (omega (arith, long))) ∙ same.items ∙ take_all (length B / 1 * 1) B (omega arith)

one_item_long : (l : List ℕ) (p : ℕ) → p < length l / 1 → length (item_at 1 l p) ≡ 1
one_item_long l p lt = omega (arith, length-take 1 (drop (p * 1) l), length-drop (p * 1) l, lt)

module _ {F S D : Type 0} {gs : _} (g : buffer.Ghosts (PageBlob S gs)) (gives : F → Setting) (seal : List ℕ → ℕ) (dev : device.Ghosts D) where
  walk_out : (k : Walk F (PageBlob S gs)) (opened : OpenedList) (d : Disk) → IsOver g gives dev.Tells k.journal.sections opened d → OwesSettled k.journal → ((n : ℕ) → k.next_section ≡ Some n → k.start_section ≤ n)
      → (IsAhead k k.start_section → (u : PageBlob S gs) → k.journal.sections.held k.start_section ≡ Some u → k.start_position * 1 ≤ size_of (shown u))
      → (dev.Tells → AreSealed seal 1 k.journal d) → IsWalk g gives seal 1 dev.Tells (stopped k) opened d
  walk_out k opened d over settled from start sealed = record {
    over = over;
    walk = record {
      owes_settled = settled;
      owes_held = λ never. absurd (cc never);
      place = λ r is. absurd (cc is);
      come_to = λ r is. absurd (cc is);
      from_start = from;
      start_within = start;
      start_kept = λ never. absurd (cc never);
      ends = λ is. refl;
    };
    disk = λ t. record {
      sealed = sealed t;
      gone_over = λ never. absurd (cc never);
      unopened = λ never. absurd (cc never);
      place = λ r is. absurd (cc is);
    };
  }

  -- an error that is noted, and a section that is left
  pub walk_stopped : (k : Walk F (PageBlob S gs)) (opened : OpenedList) (d : Disk) → IsWalk g gives seal 1 dev.Tells (failing k) opened d → IsWalk g gives seal 1 dev.Tells (stopped k) opened d
  walk_stopped k opened d was = walk_out k opened d was.over was.walk.owes_settled was.walk.from_start was.walk.start_within (λ t. (was.disk t).sealed)

  pub walk_left : (k : Walk F (PageBlob S gs)) (opened : OpenedList) (d : Disk) → IsWalk g gives seal 1 dev.Tells k opened d → IsWalk g gives seal 1 dev.Tells (stopped k) opened d
  walk_left k opened d was = walk_out k opened d was.over was.walk.owes_settled was.walk.from_start was.walk.start_within (λ t. (was.disk t).sealed)

  pub keeps_stopped : (m k : Walk F (PageBlob S gs)) (b c : D) → Keeps g gives seal dev m k b c → Keeps g gives seal dev m (stopped k) b c
  keeps_stopped m k b c has = record {
    same = record { bounds = has.same.bounds; unrecovered = has.same.unrecovered; floors = has.same.floors; section = has.same.section; position = has.same.position };
    stays = has.stays;
    floors = has.floors;
    onward = λ s near. has.onward s (elim near [ inl ahead ↦ inl ahead | inr there ↦ absurd there ]);
    on_disk = λ t. record {
      bytes = (has.on_disk t).bytes;
      items = (has.on_disk t).items;
      behind = λ s held now far. (has.on_disk t).behind s held now far;
    };
    moments = has.moments;
    entries = has.entries;
    faults = has.faults;
  }

  module _ {B : Type 0} (spelling : B → List ℕ) (accepted : B → Unit {0} → Type 0) (refusal : List ℕ → Unit {0} → Option codec.Error) (m k : Walk F (PageBlob S gs)) (b c : D) (r : Result (Unit {0}) Error)
      (step : Steps seal 1 g gives spelling accepted refusal dev.Tells (seen (λ _. None) r) m k (dev.opened b) (dev.opened c) (dev.time b) (dev.time c) (dev.faults b) (dev.faults c)) where
    abbrev d : Disk
    d = disk (dev.time b)

    abbrev e : Disk
    e = disk (dev.time c)

    key_k : (s : ℕ) → key_of k.journal.sections s ≡ key_of m.journal.sections s
    key_k s = ap (λ (p : List ℕ). section_key p s) step.same.bounds.place.partition

    -- what is held was, and the same bytes of it are given
    module _ (over : IsOver g gives dev.Tells k.journal.sections (dev.opened c) e) where
      was_held : (s : ℕ) → IsHeld k.journal.sections s → IsHeld m.journal.sections s
      was_held s held = (step.stays s (over.opened_list.apart s held)).1.0 held

      pub given_same : dev.Tells → k.ended ≡ false → (s : ℕ) → IsHeld k.journal.sections s → given_bytes seal k e s ≡ given_bytes seal m d s
      given_same t going s held =
          let v = some_of (k.journal.sections.held s) held in
          let u = some_of (m.journal.sections.held s) (was_held s held) in
          let page = (step.floors s u.0 v.0 u.1 v.1).page_size in
          (λ i. kept_of seal (step.same.unrecovered s i) (v.1 i) (e (key_k s i)).content)
          ∙ here u.0 v.0 u.1 v.1 page (m.journal.unrecovered s) refl
          ∙ sym (λ i. kept_of seal (m.journal.unrecovered s) (u.1 i) (d (key_of m.journal.sections s)).content)
        where
          here : (u v : PageBlob S gs) → m.journal.sections.held s ≡ Some u → k.journal.sections.held s ≡ Some v → v.page_size ≡ u.page_size → (o : Bool) → m.journal.unrecovered s ≡ o
              → kept_of seal o (Some v) (e (key_of m.journal.sections s)).content ≡ kept_of seal o (Some u) (d (key_of m.journal.sections s)).content
          here u v hu hv page false free = (step.bytes s u v hu hv free).bytes t
          here u v hu hv page true owed =
              ap (λ (P : ℕ). sealed_prefix seal P (e (key_of m.journal.sections s)).content) page
              ∙ same_sealed seal u.page_size (d (key_of m.journal.sections s)) (e (key_of m.journal.sections s)) (step.items t going s u hu owed)

      number : (s : ℕ) → IsHeld m.journal.sections s → s < 2 ^ 64
      number s held = elim (none_or_value (k.journal.sections.unopened s)) [
        | inl none ↦ over.opened_list.number s (inl ((step.stays s none).1.1 held))
        | inr some ↦ over.opened_list.number s (inr (some_there (k.journal.sections.unopened s) some.0 some.1))
      ]

      -- a section that it had gone over keeps its blob
      blob_behind : dev.Tells → (s : ℕ) → IsHeld m.journal.sections s → (IsAhead m s ⊎ IsIn m s → ⊥) → e (key_of m.journal.sections s) ≡ d (key_of m.journal.sections s)
      blob_behind t s held far = (always_now (dev.time b) (dev.time c) (Each (bytes.Replaying seal 1 m d)) (step.moments t) (key_of m.journal.sections s)).others (λ x. (
          let same = key_injective m.journal.sections.partition s x.0 (number s held) (number x.0 x.1.0) x.2 in
          far (subst (λ (n : ℕ). IsAhead m n ⊎ IsIn m n) (sym same) x.1.1)))

      given_behind : dev.Tells → (s : ℕ) → IsHeld m.journal.sections s → IsHeld k.journal.sections s → (IsAhead m s ⊎ IsIn m s → ⊥) → given_bytes seal k e s ≡ given_bytes seal m d s
      given_behind t s before after far =
          let v = some_of (k.journal.sections.held s) after in
          let u = some_of (m.journal.sections.held s) before in
          (λ i. kept_of seal (step.same.unrecovered s i) (v.1 i) (e (key_k s i)).content)
          ∙ here u.0 v.0 u.1 v.1 (step.floors s u.0 v.0 u.1 v.1).page_size (m.journal.unrecovered s) refl
          ∙ sym (λ i. kept_of seal (m.journal.unrecovered s) (u.1 i) (d (key_of m.journal.sections s)).content)
        where
          here : (u v : PageBlob S gs) → m.journal.sections.held s ≡ Some u → k.journal.sections.held s ≡ Some v → v.page_size ≡ u.page_size → (o : Bool) → m.journal.unrecovered s ≡ o
              → kept_of seal o (Some v) (e (key_of m.journal.sections s)).content ≡ kept_of seal o (Some u) (d (key_of m.journal.sections s)).content
          here u v hu hv page false free = (step.bytes s u v hu hv free).bytes t
          here u v hu hv page true owed = (let blob = blob_behind t s before far in λ i. sealed_prefix seal (page i) (blob i).content)

      pub keeps_steps : Keeps g gives seal dev m k b c
      keeps_steps = record {
        same = step.same;
        stays = step.stays;
        floors = step.floors;
        onward = step.onward;
        on_disk = λ t. record {
          bytes = λ s u v held now free. (let x = step.bytes s u v held now free in record { size = x.size; settled = x.settled; bytes = λ _. x.bytes t });
          items = λ going s u held owed. (let x = step.items t going s u held owed in frames_sealed seal u.page_size (d (key_of m.journal.sections s)) (e (key_of m.journal.sections s)) (same_sealed seal u.page_size (d (key_of m.journal.sections s)) (e (key_of m.journal.sections s)) x) x.rests);
          behind = given_behind t;
        };
        moments = λ t. always_weaker (dev.time b) (dev.time c) (Each (bytes.Replaying seal 1 m d)) (Each (ReplayingFrames seal m d)) (λ x each q. inl (each q)) (step.moments t);
        entries = step.entries;
        faults = step.faults;
      }

      -- sections that owe no replay are whole frames still
      pub framed_steps : dev.Tells → AreWalked seal m d → (s : ℕ) → k.journal.unrecovered s ≡ false → rest_of (section_bytes k.journal.sections e s) ≡ []
      framed_steps t walked s free = go (k.journal.sections.held s) refl
        where
          go : (o : Option (PageBlob S gs)) → k.journal.sections.held s ≡ o → rest_of (section_bytes k.journal.sections e s) ≡ []
          go None is = ap (λ (o : Option (PageBlob S gs)). rest_of (bytes_held o (e (key_of k.journal.sections s)).content)) is ∙ rest_none
          go (Some v) is =
              let u = some_of (m.journal.sections.held s) (was_held s (some_there (k.journal.sections.held s) v is)) in
              let was : m.journal.unrecovered s ≡ false = sym (step.same.unrecovered s) ∙ free in
              (λ i. rest_of (bytes_held (is i) (e (key_k s i)).content))
              ∙ ap rest_of ((step.bytes s u.0 v u.1 is was).bytes t ∙ sym (λ i. bytes_held (u.1 i) (d (key_of m.journal.sections s)).content))
              ∙ walked.framed s was

      pub start_steps : dev.Tells → AreWalked seal m d → m.ended ≡ false → k.ended ≡ false → IsAhead k k.start_section ⊎ IsIn k k.start_section → IsHeld k.journal.sections k.start_section
          → IsStart seal k.journal e k.start_section k.start_position
      start_steps t walked was going near held =
          let at = step.same.section in
          let near_m : IsAhead m m.start_section ⊎ IsIn m m.start_section = subst (λ (s : ℕ). IsAhead m s ⊎ IsIn m s) at (step.onward k.start_section near) in
          let held_m : IsHeld m.journal.sections m.start_section = subst (IsHeld m.journal.sections) at (was_held k.start_section held) in
          let start = walked.start was near_m held_m in
          let same : given_bytes seal m d m.start_section ≡ given_bytes seal k e k.start_section = ap (given_bytes seal m d) (sym at) ∙ sym (given_same t going k.start_section held) in
          subst (λ (o : ℕ). IsBoundary (given_bytes seal k e k.start_section) o ⊎ (length (given_bytes seal k e k.start_section) < o)) (sym step.same.position)
          (subst (λ (l : List ℕ). IsBoundary l m.start_position ⊎ (length l < m.start_position)) same start)

      -- it goes on over frames
      pub walked_steps : dev.Tells → AreWalked seal m d → m.ended ≡ false → (k.failed ≡ false → (s : ℕ) → IsGoneOver k s → rest_of (given_bytes seal k e s) ≡ []) → AreWalked seal k e
      walked_steps t walked was gone = record {
        start = λ going near held. start_steps t walked was going near held;
        framed = framed_steps t walked;
        gone_over = gone;
      }

      -- also behind an error
      pub walked_stopped : dev.Tells → AreWalked seal m d → m.ended ≡ false → AreWalked seal (stopped k) e
      walked_stopped t walked was = record {
        start = λ going near held. start_steps t walked was going (elim near [ inl ahead ↦ inl ahead | inr there ↦ absurd there ]) held;
        framed = framed_steps t walked;
        gone_over = λ never. absurd (cc never);
      }

      -- what a later call may leave of a blob, this one may
      leaves_steps : dev.Tells → k.ended ≡ false → bytes.LeavesNoMore seal 1 m k d e → LeavesLess seal m k d e
      leaves_steps t going less q x is = elim is [
        | inl replaying ↦ inl (less q x replaying)
        | inr cuts ↦
            let u = some_of (m.journal.sections.held cuts.section) (was_held cuts.section (some_there (k.journal.sections.held cuts.section) cuts.buffer cuts.held)) in
            let page : cuts.buffer.page_size ≡ u.0.page_size = (step.floors cuts.section u.0 cuts.buffer u.1 cuts.held).page_size in
            let owed : IsTrue (m.journal.unrecovered cuts.section) = subst IsTrue (step.same.unrecovered cuts.section) cuts.owes in
            let at : q ≡ key_of m.journal.sections cuts.section = cuts.key ∙ key_k cuts.section in
            let same : sealed_prefix seal cuts.buffer.page_size (e q).content ≡ sealed_prefix seal u.0.page_size (d q).content =
            (λ i. sealed_prefix seal (page i) (e (at i)).content) ∙ same_sealed seal u.0.page_size (d (key_of m.journal.sections cuts.section)) (e (key_of m.journal.sections cuts.section)) (step.items t going cuts.section u.0 u.1 owed) ∙ ap (λ (y : Key). sealed_prefix seal u.0.page_size (d y).content) (sym at) in
            inr (record {
              section = cuts.section;
              buffer = u.0;
              held = u.1;
              owes = owed;
              near = step.onward cuts.section cuts.near;
              key = at;
              torn = λ bad. cuts.torn (subst (λ (l : List ℕ). HasBadLength (rest_of l)) (sym same) bad);
              leaves = subst (λ (P : ℕ). Leaves seal P (sealed_prefix seal u.0.page_size (d q).content) (whole_end (sealed_prefix seal u.0.page_size (d q).content)) x) page
                  (subst (λ (l : List ℕ). Leaves seal cuts.buffer.page_size l (whole_end l) x) same cuts.leaves);
            })
      ]

      -- it gave nothing
      pub passed_steps : r ≡ Ok tt → k.ended ≡ false → HasPassed g gives seal dev m k b c
      passed_steps is going = record {
        gone = record {
          keeps = keeps_steps;
          goes = ok_at r is step.goes;
          later = λ t. leaves_steps t going (ok_at r is (step.later t));
        };
        rest = λ t. (let x = step.carries t (ap (seen (λ _. None)) is) in record {
          left = λ s o i. (λ l. left_to t x s o i l, λ l. left_back t x s o i l);
          kept = x.kept;
          sizes = x.sizes;
        });
      }
        where
          ok_at : {P : Type 0} (y : Result (Unit {0}) Error) → y ≡ Ok tt → OnOk (seen {U = Option (ℕ × ℕ × B)} (λ _. None) y) P → P
          ok_at (Ok y) same has = has
          ok_at (Err y) same has = absurd (cc same)

          left_to : (t : dev.Tells) → Carries seal 1 m k d e → (s o : ℕ) (i : List ℕ) → IsItemLeft seal k e s o i → IsItemLeft seal m d s o i
          left_to t x s o i l = record { byte = (x.left s o).0 l.byte; whole = subst (λ (y : List ℕ). IsItemAt y o i) (x.kept s (near_left seal k e s o l.byte)) l.whole }

          left_back : (t : dev.Tells) → Carries seal 1 m k d e → (s o : ℕ) (i : List ℕ) → IsItemLeft seal m d s o i → IsItemLeft seal k e s o i
          left_back t x s o i l = (let byte = (x.left s o).1 l.byte in record { byte = byte; whole = subst (λ (y : List ℕ). IsItemAt y o i) (sym (x.kept s (near_left seal k e s o byte))) l.whole })

      -- it ended a section by an error
      module _ (none : k.place ≡ None) where
        ends_frames : dev.Tells → k.ended ≡ false → (s : ℕ) → bytes.IsEndedAt seal 1 m k d e s → EndsSection seal m (stopped k) d e s
        ends_frames t going s has = record {
          first = λ x q i l lt. has.first x q l.byte lt;
          rest = λ x q i. (λ l. forth x q i l, λ l. back x q i l.0 l.1);
        }
          where
            held_of : (x q : ℕ) → bytes.IsLeft seal 1 (stopped k) e x q → IsHeld k.journal.sections x
            held_of x q l = elim l.ahead [ inl here ↦ here.0 | inr never ↦ absurd never ]

            forth : (x q : ℕ) (i : List ℕ) → IsItemLeft seal (stopped k) e x q i → IsItemLeft seal m d x q i × (s < x)
            forth x q i l =
                let b = l.byte in
                let on : bytes.IsLeft seal 1 k e x q = record { goes_on = b.goes_on; begun = b.begun; whole = b.whole; ahead = elim b.ahead [ inl here ↦ inl here | inr never ↦ absurd never ] } in
                let was = (has.rest x q).0 on in
                (record { byte = was.0; whole = subst (λ (y : List ℕ). IsItemAt y q i) (given_same t going x (held_of x q b)) l.whole }, was.1)

            back : (x q : ℕ) (i : List ℕ) → IsItemLeft seal m d x q i → s < x → IsItemLeft seal (stopped k) e x q i
            back x q i l lt =
                let b = (has.rest x q).1 (l.byte, lt) in
                let now : bytes.IsLeft seal 1 (stopped k) e x q = record { goes_on = b.goes_on; begun = b.begun; whole = b.whole; ahead = elim b.ahead [ inl here ↦ inl here | inr there ↦ absurd (none_in k.place (λ p. (p.section ≡ x) × (p.position ≤ q)) none there) ] } in
                record { byte = now; whole = subst (λ (y : List ℕ). IsItemAt y q i) (sym (given_same t going x (held_of x q now))) l.whole }

        raised_same : {x y : Error} → r ≡ Err x → IsErrOf (seen {U = Option (ℕ × ℕ × B)} (λ _. None) r) y → x ≡ y
        raised_same is at = cc (is, at)

        not_ended : (x : Error) → r ≡ Err x → m.ended ≡ false → ((HasDamage {T = Unit {0}} (Err x) ⊎ HasFailed {T = Unit {0}} (Err x) (dev.faults b) (dev.faults c)) → ⊥) → k.ended ≡ false
        not_ended x is was never = go k.ended refl
          where
            go : (o : Bool) → k.ended ≡ o → k.ended ≡ false
            go false at = at
            go true at = absurd (elim (step.ends at) [
              | inl end ↦ cc (end, was)
              | inr (inl damage) ↦ never (inl (damage.0.0, (let page = damage.0.1 in ap Err (raised_same is page))))
              | inr (inr (inl memory)) ↦ never (inr (inl (ap Err (raised_same is memory))))
              | inr (inr (inr fault)) ↦ never (inr (inr (ap Err (raised_same is fault.0), fault.1)))
            ])

        cutting_steps : dev.Tells → m.ended ≡ false → k.ended ≡ true → IsCuttingFrames seal m d
        cutting_steps t was at = elim (step.ends_cut at) [
          | inl end ↦ absurd (cc (end, was))
          | inr has ↦ record {
            section = has.section;
            near = has.near;
            owes = has.owes;
            longer = omega (arith, has.longer t, whole_within (given_bytes seal m d has.section));
            given = λ x q i l le. has.given t x q l.byte le;
          }
        ]

        failed_steps : (x : Error) → r ≡ Err x → m.ended ≡ false → k.ended ≡ true → dev.Tells → HasFailed {T = Unit {0}} (Err x) (dev.faults b) (dev.faults c)
        failed_steps x is was at t = elim (step.ends at) [
          | inl end ↦ absurd (cc (end, was))
          | inr (inl damage) ↦ absurd (damage.1 t)
          | inr (inr (inl memory)) ↦ inl (ap Err (raised_same is memory))
          | inr (inr (inr fault)) ↦ inr (ap Err (raised_same is fault.0), fault.1)
        ]

        -- the section that it left: one of which a byte was left, or one of those that it came behind
        module _ (walk : HasWalk 1 m) (ahead : (s : ℕ) → IsAhead k s → IsAhead m s) (was : m.ended ≡ false) (on : k.ended ≡ false) (t : dev.Tells) where
          abbrev Ended : ℕ → Type 0
          Ended s = EndsSection seal m (stopped k) d e s × LeavesSection m (stopped k) s

          ended_with : (s : ℕ) → bytes.IsEndedAt seal 1 m k d e s → (p : ℕ) → bytes.IsLeft seal 1 m d s p → Ended s
          ended_with s has p l = (
            ends_frames t on s has,
            record {
              near = near_left seal m d s p l;
              left = λ held near. elim near [
                | inr never ↦ absurd never
                | inl far ↦ (
                    let first_same : first_of k s ≡ first_of m s = λ i. cond (eqb s (step.same.section i)) (step.same.position i) 0 in
                    let now = (has.rest s p).0 (record {
                      goes_on = on;
                      begun = omega (arith, l.begun, first_same);
                      whole = subst (λ (y : List ℕ). p < length y / 1) (sym (given_same t on s held)) l.whole;
                      ahead = inl (held, far);
                    }) in
                    omega (arith, now.1))
              ];
            },
          )

          ended_without : (s : ℕ) → bytes.IsEndedAt seal 1 m k d e s → ((p : ℕ) → bytes.IsLeft seal 1 m d s p → ⊥) → (q : ℕ) × Ended q
          ended_without s has empty = (
            section.0,
            (
              ends_frames t on section.0 (record { first = λ x q l lt. omega (arith, lt, behind x q (kept x q l)); rest = λ x q. (λ l. (((has.rest x q).0 l).0, behind x q l), λ l. kept x q l.0) }),
              record { near = section.1; left = λ held near. elim near [ inl far ↦ (let lt = section.2 section.0 far in omega (arith, lt)) | inr never ↦ absurd never ] },
            ),
          )
            where
              section : (q : ℕ) × (IsAhead m q ⊎ IsIn m q) × ((x : ℕ) → IsAhead k x → q < x)
              section = left_section m k none step.nearer ahead (λ r at. (walk.come_to r at).1)

              kept : (x q : ℕ) → bytes.IsLeft seal 1 m d x q → bytes.IsLeft seal 1 k e x q
              kept x q l = elim (cases_order x s) [
                | inl same ↦ absurd (empty q (subst (λ (n : ℕ). bytes.IsLeft seal 1 m d n q) same l))
                | inr (inl lt) ↦ absurd (has.first x q l lt)
                | inr (inr gt) ↦ (has.rest x q).1 (l, gt)
              ]

              behind : (x q : ℕ) → bytes.IsLeft seal 1 k e x q → section.0 < x
              behind x q l = elim l.ahead [ inl here ↦ section.2 x here.1 | inr there ↦ absurd (none_in k.place (λ p. (p.section ≡ x) × (p.position ≤ q)) none there) ]

          ended_some : (s : ℕ) → bytes.IsEndedAt seal 1 m k d e s → (q : ℕ) × Ended q
          ended_some s has = elim (left_or_not seal m d s was) [
            | inl left ↦ (s, ended_with s has left.0 left.1)
            | inr empty ↦ ended_without s has empty
          ]

        stops_steps : (x : Error) → r ≡ Err x → HasWalk 1 m → ((s : ℕ) → IsAhead k s → IsAhead m s) → m.ended ≡ false → dev.Tells
            → (k.ended ≡ true) ⊎ ((s : ℕ) × EndsSection seal m (stopped k) d e s × LeavesSection m (stopped k) s)
        stops_steps x is walk ahead was t = go k.ended refl
          where
            has : bytes.Stops seal 1 m k d e
            has = err_at r is (step.stops t)
              where
                err_at : {P : Type 0} (y : Result (Unit {0}) Error) → y ≡ Err x → OnErr (seen {U = Option (ℕ × ℕ × B)} (λ _. None) y) P → P
                err_at (Ok y) same has = absurd (cc same)
                err_at (Err y) same has = has

            go : (o : Bool) → k.ended ≡ o → (k.ended ≡ true) ⊎ ((s : ℕ) × EndsSection seal m (stopped k) d e s × LeavesSection m (stopped k) s)
            go true at = inl at
            go false at = elim has.rest [
              | inl end ↦ inl end
              | inr some ↦ (let ended = ended_some walk ahead was at t some.0 some.1 in inr (ended.0, ended.1.0, ended.1.1))
            ]

        module _ {V C : Type 0} (item_spelling : V → List ℕ) (item_accepted : V → C → Type 0) (item_refusal : List ℕ → C → Option codec.Error) (config : C) (free : (s : ℕ) → m.journal.floor_of s ≡ 0) (was : m.ended ≡ false) (walk : HasWalk 1 m) (ahead : (s : ℕ) → IsAhead k s → IsAhead m s)
            (one_byte : (l : List ℕ) → length l ≡ 1 → refusal l tt ≡ None) where
          says_steps : (x : Error) → r ≡ Err x → dev.Tells → IsFailed seal m (stopped k) d e item_refusal config x (dev.faults b) (dev.faults c)
          says_steps x is t = record {
            stops = stops_steps x is walk ahead was t;
            ends = λ at. (cutting_steps t was at, failed_steps x is was at t);
            cut = cut_ends g gives seal dev m (stopped k) b c (keeps_stopped m k b c keeps_steps) t;
            start = λ p at. (let has = step.start t p (seen_at at) in (has.0, (let less = has.1 in omega (arith, less)), has.2, ends_frames t (not_ended x is was (no_start at)) m.start_section has.3));
            refused = λ y at. absurd (none_refused (step.refused t y (seen_at at)));
            damaged = λ n at. (let has = (step.damaged t n (seen_at at)).damage in no_floor has.section (step.same.floors has.section ∙ free has.section) has.floor);
            floor = λ y at. (let has = (step.damage t y (seen_at at)).0 in (let none = free y.section in omega (arith, has.less, has.wanted, none)));
          }
            where
              seen_at : {y : Error} → x ≡ y → IsErrOf (seen {U = Option (ℕ × ℕ × B)} (λ _. None) r) y
              seen_at {y = y} at = ap (seen (λ _. None)) (is ∙ ap Err at)

              no_start : {p : ℕ} → x ≡ ItemOutOfRange p → (HasDamage {T = Unit {0}} (Err x) ⊎ HasFailed {T = Unit {0}} (Err x) (dev.faults b) (dev.faults c)) → ⊥
              no_start at (inl damage) = (let page = damage.1 in cc (at, page))
              no_start at (inr (inl memory)) = cc (at, memory)
              no_start at (inr (inr fault)) = (let f = fault.0 in cc (at, f))

              no_floor : (s : ℕ) → k.journal.floor_of s ≡ 0 → 0 < k.journal.floor_of s → ⊥
              no_floor s none has = omega (arith, none, has)

              none_refused : {y : codec.Error} → bytes.Refuses seal 1 refusal m k d e y → ⊥
              none_refused {y = y} has =
                  let none = one_byte (item_at 1 (given_bytes seal m d has.section) has.position) (one_item_long (given_bytes seal m d has.section) has.position has.left.whole) in
                  let some = has.refused in
                  cc (none, some)

          -- an error
          pub error_steps : (x : Error) → r ≡ Err x → IsWalk g gives seal 1 dev.Tells (failing k) (dev.opened c) e → (dev.Tells → AreWalked seal m d)
              → GivesError g gives seal dev item_spelling item_accepted item_refusal config m (stopped k) b c x
          error_steps x is broken walked = record {
            keeps = keeps_stopped m k b c keeps_steps;
            over = record {
              bytes = walk_stopped k (dev.opened c) e broken;
              free = λ s. step.same.floors s ∙ free s;
              place = λ t p at. absurd (cc at);
              walked = λ t. walked_stopped t (walked t) was;
            };
            failed = refl;
            says = says_steps x is;
            nearer = (let same : way_of (stopped k) ≡ way_of k = ap (λ (o : Option Place). sections_ahead k.next_section * (word + 1) + bytes_ahead o) (sym none) in omega (arith, same, step.nearer));
            cause = cause_of;
          }
            where
              cause_of : (x ≡ ItemOutOfRange m.start_position) ⊎ (((y : Damage) × (x ≡ Corruption y)) ⊎ HasNotRead {T = V} (Err x) (dev.faults b) (dev.faults c))
              cause_of = elim (err_at r is step.cause) [
                | inl start ↦ inl (raised_same is start)
                | inr (inl below) ↦ inr (inl (below.0, raised_same is below.1))
                | inr (inr (inl damage)) ↦ inr (inr (inl (damage.0, ap Err (raised_same is damage.1))))
                | inr (inr (inr (inl code))) ↦ inr (inr (inr (inl (code.0, ap Err (raised_same is code.1)))))
                | inr (inr (inr (inr (inl memory)))) ↦ inr (inr (inr (inr (inl (ap Err (raised_same is memory))))))
                | inr (inr (inr (inr (inr fault)))) ↦ inr (inr (inr (inr (inr (ap Err (raised_same is fault.0), fault.1)))))
              ]
                where
                  err_at : {P : Type 0} (y : Result (Unit {0}) Error) → y ≡ Err x → OnErr (seen {U = Option (ℕ × ℕ × B)} (λ _. None) y) P → P
                  err_at (Ok y) same has = absurd (cc same)
                  err_at (Err y) same has = has
