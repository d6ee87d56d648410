-- What a buffer has in memory of a frame.
use Rattle.std.proofs.Common.{◌≡◌, ◌∙◌, ◌⊎◌, ◌↔◌, ℕ, ◌+◌, ◌-◌, ◌<◌, ◌≤◌, ◌^◌, true, false, Bool, List, [], ◌++◌, length, take, drop, Option, None, Some, Result, Ok, Err, inl, inr, sym, ap, subst, arith, append_assoc, length-append, length-take, length-drop, take-append-drop}
use Rattle.std.proofs.lemmas.Bool.{cases_lt}
use Rattle.std.proofs.lemmas.List.{append-nil, drop-drop}
use Rattle.std.proofs.Math.Seq.{drop-append_seam, take-append_seam}
use Rattle.value_codec.specs.Varint.{varint, BeginsWithVarint, ReadsBack}
use Rattle.value_codec.specs.declared.codec.Error as codec
use Rattle.sealed_pages.specs.lemmas.memory.Holding.{bytes_length}
use Rattle.value_codec.specs.lemmas.Varint.{varint_only}
use Rattle.variable_journal.specs.lemmas.Frame.{varint_few}
use Rattle.sealed_pages.specs.Buffer.{bytes_of, size_of}
use Rattle.sealed_pages.specs.PageReads.{TriesHeld}
use Rattle.sealed_pages.specs.Reads.{IsHeld}
use Rattle.sealed_pages.specs.Shown.{shown}
use Rattle.sealed_pages.specs.declared.page_blob.PageBlob.{PageBlob}
use Rattle.section_manager.specs.Refusing.{IsPruned}
use Rattle.section_manager.specs.declared.journal.Error.{Error}
use Rattle.segments.specs.FixedLists.{Lists}
use Rattle.segments.specs.FixedReading.{IsAbsent}
use Rattle.variable_journal.specs.Frames.{frame}
use Rattle.variable_journal.specs.Reading.{Spells}
use Rattle.variable_journal.specs.Trying.{GetsHeld, HoldsFrame, HoldsLength, IsCacheOf, TriesGet, bytes_from}
use Rattle.variable_journal.proofs.LengthLemmas.{found_on, header_frame, header_only}

module _ {S : Type 0} {gs : _} (seal : List ℕ → ℕ) (u : PageBlob S gs) (offset : ℕ) where
  held_less : (m n : ℕ) → IsHeld (shown u) offset n → m ≤ n → IsHeld (shown u) offset m
  held_less m n held le i from below = held i from (omega (arith, below, le))

  held_behind : (m n : ℕ) → IsHeld (shown u) offset (m + n) → IsHeld (shown u) (offset + m) n
  held_behind m n held i from below = held i (omega (arith, from)) (omega (arith, below))

  held_both : (m n : ℕ) → IsHeld (shown u) offset m → IsHeld (shown u) (offset + m) n → IsHeld (shown u) offset (m + n)
  held_both m n first then i from below = elim (cases_lt i (offset + m)) [
    | inl less ↦ first i from less
    | inr le ↦ then i le (omega (arith, below))
  ]

  there_long : (content : List ℕ) → length (bytes_from seal u offset content) ≡ size_of (shown u) - offset
  there_long content = omega (arith, length-drop offset (bytes_of (shown u) content), bytes_length (shown u) content)

  -- No frame in memory has a length of so few bytes.
  abbrev pub NoneWithin : ℕ → Type 0
  NoneWithin count = (content item : List ℕ) → HoldsFrame seal u offset content item → count < length (varint (length item))

  -- one byte more is asked for
  module _ (count : ℕ) (none : NoneWithin count) (less : count < 5) (room prefix : List ℕ) (result : Bool)
      (tried : TriesHeld seal (shown u) offset room prefix result) (size : length room ≡ count + 1) where
    -- it is not held
    pub none_held : result ≡ false → (content item : List ℕ) → HoldsFrame seal u offset content item → ⊥
    none_held out content item frame_there =
        let more = none content item frame_there in
        let yes = tried.held.1 (held_less (length room) (length (frame item)) frame_there.held (omega (arith, size, more, length-append (varint (length item)) item))) in
        cc (out, yes)

    module _ (yes : result ≡ true) (same : length prefix ≡ length room) where
      first_there : (content : List ℕ) → IsCacheOf seal u offset content → prefix ≡ take (length room) (bytes_from seal u offset content)
      first_there content cached = tried.bytes yes content (λ some. cached)

      -- the length ends there
      pub length_held : (r : ℕ × ℕ) → BeginsWithVarint (2 ^ 32) prefix r.0 r.1 → HoldsLength seal u offset r
      length_held r begins = record {
        few = omega (arith, begins.within, same, size, less);
        small = begins.in_range;
        held = held_less r.1 (length room) (tried.held.0 yes) (omega (arith, begins.within, same));
        begins = λ content cached. subst (λ (l : List ℕ). BeginsWithVarint (2 ^ 32) l r.0 r.1)
            (ap (λ (l : List ℕ). l ++ drop (length room) (bytes_from seal u offset content)) (first_there content cached) ∙ take-append-drop (length room) (bytes_from seal u offset content))
            (found_on prefix (drop (length room) (bytes_from seal u offset content)) r.0 r.1 begins);
      }

      -- it goes on
      pub none_more : (e : codec.Error) → ReadsBack (2 ^ 32) prefix (Err e) → NoneWithin (count + 1)
      none_more e gives content item frame_there =
          elim (cases_lt (count + 1) (length (varint (length item)))) [
            | inl more ↦ more
            | inr le ↦
                (let long : length (varint (length item)) ≡ length room = omega (arith, size, le, none content item frame_there) in
                let there : bytes_from seal u offset content ≡ varint (length item) ++ (item ++ frame_there.rest) = frame_there.begins.is ∙ append_assoc (varint (length item)) item frame_there.rest in
                let head : prefix ≡ varint (length item) = first_there content frame_there.cached ∙ (λ i. take (sym long i) (there i))
                ∙ take-append_seam (varint (length item)) (item ++ frame_there.rest) in
                absurd (let read = gives (length item) [] frame_there.begins.fits (head ∙ sym (append-nil (varint (length item)))) in cc read))
          ]

  -- five bytes were looked at
  pub none_left : (count : ℕ) → 5 ≤ count → NoneWithin count → (content item : List ℕ) → HoldsFrame seal u offset content item → ⊥
  none_left count enough none content item frame_there = omega (arith, enough, none content item frame_there, varint_few (length item) frame_there.begins.fits)

  -- The length of a frame was found.
  module _ (n len : ℕ) (found : HoldsLength seal u offset (n, len)) where
    -- the bytes of the item
    abbrev pub item_from : List ℕ → List ℕ
    item_from content = take n (drop len (bytes_from seal u offset content))

    module _ (content item : List ℕ) (frame_there : HoldsFrame seal u offset content item) where
      stands : (length item ≡ n) × (len + n ≤ length (bytes_from seal u offset content))
      stands = header_only (bytes_from seal u offset content) n len item frame_there.rest (found.begins content frame_there.cached) frame_there.begins

      header_long : length (varint (length item)) ≡ len
      header_long =
          let begins = found.begins content frame_there.cached in
          omega (
            arith,
            ap (λ (m : ℕ). length (varint m)) stands.0,
            ap length (varint_only (take len (bytes_from seal u offset content)) n begins.spelled),
            length-take len (bytes_from seal u offset content),
            begins.within,
          )

      -- the frame runs past the end
      pub none_past : size_of (shown u) - offset < len + n → ⊥
      none_past long = omega (arith, long, stands.1, there_long content)

      -- the item is not held
      pub none_behind : (room got : List ℕ) (result : Bool) → TriesHeld seal (shown u) (offset + len) room got result → length room ≡ n → result ≡ false → ⊥
      none_behind room got result tried size out =
          let whole : length (frame item) ≡ len + n = omega (arith, length-append (varint (length item)) item, header_long, stands.0) in
          let yes = tried.held.1 (subst (IsHeld (shown u) (offset + len)) (sym size) (held_behind len n (subst (IsHeld (shown u) offset) whole frame_there.held))) in
          cc (out, yes)

      pub item_is : item ≡ item_from content
      item_is =
          let there : bytes_from seal u offset content ≡ varint (length item) ++ (item ++ frame_there.rest) = frame_there.begins.is ∙ append_assoc (varint (length item)) item frame_there.rest in
          let behind : drop len (bytes_from seal u offset content) ≡ item ++ frame_there.rest = (λ i. drop (sym header_long i) (there i)) ∙ drop-append_seam (varint (length item)) (item ++ frame_there.rest) in
          sym (take-append_seam item frame_there.rest) ∙ (λ i. take (stands.0 i) (sym behind i))

    module _ (room got : List ℕ) (result : Bool) (tried : TriesHeld seal (shown u) (offset + len) room got result) (yes : result ≡ true) (size : length room ≡ n) (fits : len + n ≤ size_of (shown u) - offset) where
      pub got_is : (content : List ℕ) → IsCacheOf seal u offset content → got ≡ item_from content
      got_is content cached = tried.bytes yes content (λ some. cached) ∙ (λ i. take (size i) (sym (drop-drop len offset (bytes_of (shown u) content)) i))

      -- the frame is in memory
      pub frame_held : (content : List ℕ) → IsCacheOf seal u offset content → HoldsFrame seal u offset content (item_from content)
      frame_held content cached =
          let begins = found.begins content cached in
          let whole : len + n ≤ length (bytes_from seal u offset content) = omega (arith, fits, there_long content) in
          let long : length (item_from content) ≡ n = omega (arith, length-take n (drop len (bytes_from seal u offset content)), length-drop len (bytes_from seal u offset content), whole) in
          let head : length (varint (length (item_from content))) ≡ len = omega (
            arith,
            ap (λ (m : ℕ). length (varint m)) long,
            ap length (varint_only (take len (bytes_from seal u offset content)) n begins.spelled),
            length-take len (bytes_from seal u offset content),
            begins.within,
          ) in
          let all : len + n ≡ length (frame (item_from content)) = omega (arith, length-append (varint (length (item_from content))) (item_from content), head, long) in
          record {
            cached = cached;
            rest = drop (len + n) (bytes_from seal u offset content);
            begins = header_frame (bytes_from seal u offset content) n len begins whole;
            held = subst (IsHeld (shown u) offset) all (held_both len n found.held (subst (IsHeld (shown u) (offset + len)) size (tried.held.0 yes)));
          }

      -- and spells this value
      pub got_held : {V C : Type 0} (spelling : V → List ℕ) (accepted : V → C → Type 0) (config : C) (v : V) → spelling v ≡ got → accepted v config → (content : List ℕ) → IsCacheOf seal u offset content
          → (item : List ℕ) × HoldsFrame seal u offset content item × Spells spelling accepted config item v
      got_held spelling accepted config v spelled allowed content cached = (
        item_from content,
        frame_held content cached,
        record { spelled = spelled ∙ got_is content cached; allowed = allowed },
      )

      -- or is refused
      pub got_refused : {C : Type 0} (refusal : List ℕ → C → Option codec.Error) (config : C) (x : codec.Error) → refusal got config ≡ Some x → (content item : List ℕ) → HoldsFrame seal u offset content item
          → refusal item config ≡ None → ⊥
      got_refused refusal config x refused content item frame_there fine =
          let same = got_is content frame_there.cached ∙ sym (item_is content item frame_there) in
          let none = ap (λ (l : List ℕ). refusal l config) same ∙ fine in
          cc (refused, none)

-- What the section's buffer answered is the answer.
module _ {F S V C : Type 0} {gs : _} (seal : List ℕ → ℕ) (spelling : V → List ℕ) (accepted : V → C → Type 0) (refusal : List ℕ → C → Option codec.Error) (config : C)
    (s offset : ℕ) (j : Lists F (PageBlob S gs)) where
  pub tried_there : {B : Type 0} (b : B) (u : PageBlob S gs) → j.sections.held s ≡ Some u → (IsPruned (Ok b) j.sections.floor ↔ (s < j.sections.floor)) → (r : Result (Option V) Error)
      → GetsHeld seal u offset spelling accepted refusal config r → TriesGet seal spelling accepted refusal config s offset j r
  tried_there b u held guard r has = record {
    item = λ v is. (elim (cases_lt s j.sections.floor) [ inl low ↦ absurd (let it = guard.1 low in cc it) | inr from ↦ from ], u, held, subst (GetsHeld seal u offset spelling accepted refusal config) is has);
    none = λ is v there from. subst (λ (x : PageBlob S gs). GetsHeld seal x offset spelling accepted refusal config (Ok None)) (cc (held, there)) (subst (GetsHeld seal u offset spelling accepted refusal config) is has);
    cause = λ e is. subst (GetsHeld seal u offset spelling accepted refusal config) is has;
  }

  -- there is no such section
  pub tried_nowhere : {B : Type 0} (r : Result B Error) → (IsPruned r j.sections.floor ↔ (s < j.sections.floor))
      → (IsAbsent r s ↔ ((j.sections.floor ≤ s) × (j.sections.held s ≡ None))) → IsPruned r j.sections.floor ⊎ IsAbsent r s
      → TriesGet {V = V} seal spelling accepted refusal config s offset j (Ok None)
  tried_nowhere r guard absent why = record {
    item = λ v is. absurd (cc is);
    none = λ is u held from. absurd (elim why [
      | inl pruned ↦ (let low = guard.0 pruned in omega (arith, low, from))
      | inr none ↦ (let gone = (absent.0 none).1 in cc (held, gone))
    ]);
    cause = λ e is. absurd (cc is);
  }
