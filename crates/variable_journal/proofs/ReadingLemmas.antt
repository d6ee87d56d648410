-- How a read of a frame ends.
use Rattle.std.proofs.Common.{◌≡◌, ◌∙◌, ◌⊎◌, inl, inr, ℕ, ◌+◌, ◌-◌, ◌<◌, ◌≤◌, ◌^◌, List, [], ◌∷◌, ◌++◌, length, min, take, drop, Option, None, Some, Result, Ok, Err, refl, sym, ap, subst, arith, length-drop, take-append-drop}
use Rattle.std.specs.Prelude.{IfOk, IfSome}
use Rattle.std.specs.Result.{IsErrOf}
use Rattle.std.proofs.lemmas.Bool.{cases_lt}
use Rattle.std.proofs.lemmas.List.{append-nil, drop-drop, drop_all}
use Rattle.blob_device.specs.Disk.{Blob, Disk}
use Rattle.blob_device.specs.Timeline.{disk}
use Rattle.blob_device.specs.declared.device.Device as device
use Rattle.blob_device.specs.declared.runtime.RError.{RError}
use Rattle.blob_device.specs.declared.runtime.RError.TheVariants as runtime
use Rattle.value_codec.specs.Varint.{varint, BeginsWithVarint, ReadsBack}
use Rattle.value_codec.specs.declared.codec.Error as codec
use Rattle.value_codec.specs.declared.codec.Error.TheVariants as code
use Rattle.sealed_pages.specs.Buffer as pages
use Rattle.sealed_pages.specs.Buffer.{bytes_of, size_of, IsBacked, IsSealed}
use Rattle.value_codec.specs.lemmas.Varint.{varint_only}
use Rattle.sealed_pages.specs.Entries.{IsOpenAt}
use Rattle.sealed_pages.specs.PageReads.{ReadsAt}
use Rattle.sealed_pages.specs.Reads.{IsShort, below}
use Rattle.sealed_pages.specs.Shown.{shown}
use Rattle.sealed_pages.specs.declared.page_blob.PageBlob.{PageBlob}
use Rattle.sealed_pages.specs.lemmas.Entries.{only_read_of, only_read_start, only_read_then}
use Rattle.sealed_pages.specs.lemmas.looking.Looking.{unchanged_now, unchanged_start, unchanged_then}
use Rattle.sealed_pages.specs.Cached.{IsCachedOf}
use Rattle.sealed_pages.specs.lemmas.memory.Cache.{found_page_has}
use Rattle.sealed_pages.specs.lemmas.memory.Held.{held_to}
use Rattle.sealed_pages.specs.lemmas.memory.Holding.{bytes_length, fit_size}
use Rattle.section_manager.specs.Raised.{raised, raised_codec}
use Rattle.section_manager.specs.declared.journal.Error.{Error}
use Rattle.section_manager.specs.declared.journal.Error.TheVariants.{AlreadyPrunedToSection, Codec, ItemOutOfRange, Mem, Runtime, SectionOutOfRange}
use Rattle.section_manager.specs.Refusing.{HasFailed, IsPruned}
use Rattle.segments.specs.FixedReading.{IsAbsent, IsPast}
use Rattle.variable_journal.specs.FrameReading.{IsIdle, blob_under, bytes_under, EndsDamaged, EndsPast, EndsRefused, Fails, Finds, HasChecked, OnlyLooks, Reads, WhereTold}
use Rattle.variable_journal.specs.Frames.{frame, BeginsWithFrame}
use Rattle.variable_journal.specs.Reaching.{frame_reach, length_reach, IsCoveredTo, IsDamagedTo}
use Rattle.variable_journal.specs.Reading.{FrameOf, HasHeader, HasLength, IsPastLast, IsRefusedBy, Measures, SaysNoLength}
use Rattle.variable_journal.specs.Trying.{FindsLength, HoldsLength}
use Rattle.variable_journal.specs.lemmas.Reach.{reach_frame, begun_some, covered_both, covered_less, frame_begins, none_begins, length_few, length_found, length_more, reach_length, reach_none, reach_whole, short_behind, short_more}
use Rattle.variable_journal.proofs.LengthLemmas.{found_on, header_frame, none_of_bad, past_of_long, past_of_none}

-- a length that the first bytes say has no more of them
pub few_measured : (prefix : List ℕ) (result : Result (Option (ℕ × ℕ)) Error) → length prefix ≤ 5 → Measures (length prefix) (prefix ++ []) result → IfOk result (λ r. IfSome r (λ f. f.1 ≤ 5))
few_measured prefix (Ok None) few measures = tt
few_measured prefix (Ok (Some f)) few measures = omega (arith, (measures.found f refl).1, few)
few_measured prefix (Err e) few measures = tt

-- a codec's error is want of memory, or is passed on as it is
pub mem_or : (x : codec.Error) → (x ≡ code.Mem) ⊎ (raised_codec x ≡ Codec x)
mem_or code.Mem = inl refl
mem_or code.EndOfBuffer = inr refl
mem_or code.ExtraBytes = inr refl
mem_or code.TooLong = inr refl
mem_or code.InvalidVarint = inr refl
mem_or (code.InvalidEnum tag) = inr refl

module _ {S D : Type 0} {gs : _} (seal : List ℕ → ℕ) (dev : device.Ghosts D) (u : PageBlob S gs) (offset : ℕ) where
  -- nothing was read yet
  pub looked_start : (old : D) → OnlyLooks dev (pages.key_of (shown u)) old old
  looked_start old = record { unchanged = λ t. unchanged_start (dev.time old); entries = only_read_start (pages.key_of (shown u)) (dev.opened old); faults = omega arith }

  module _ (old mid : D) (first : OnlyLooks dev (pages.key_of (shown u)) old mid) where
    pub looked_then : (new : D) → OnlyLooks dev (pages.key_of (shown u)) mid new → OnlyLooks dev (pages.key_of (shown u)) old new
    looked_then new next = record {
      unchanged = λ t. unchanged_then (dev.time old) (dev.time mid) (dev.time new) (first.unchanged t) (next.unchanged t);
      entries = only_read_then (pages.key_of (shown u)) (dev.opened old) (dev.opened mid) (dev.opened new) first.entries next.entries;
      faults = omega (arith, first.faults, next.faults);
    }

    -- one read more
    pub looked_on : {T : Type 0} {m : ℕ} {room got : List ℕ} {result : Result T RError} (new : D) → ReadsAt dev seal (shown u) mid new m room got result → OnlyLooks dev (pages.key_of (shown u)) old new
    looked_on new r = looked_then new (record { unchanged = r.unchanged; entries = only_read_of _ _ _ _ r.reads; faults = r.faults })

    pub blob_now : dev.Tells → disk (dev.time mid) (pages.key_of (shown u)) ≡ blob_under dev u offset old
    blob_now t = ap (λ (d : Disk). d (pages.key_of (shown u))) (unchanged_now (dev.time old) (dev.time mid) (first.unchanged t))

    module _ (new : D) (room got : List ℕ) {T : Type 0} (v : T) (r : ReadsAt dev seal (shown u) mid new offset room got (Ok v)) where
      backed_now : WhereTold seal dev u offset old length_reach (IsBacked seal (shown u) (disk (dev.time mid) (pages.key_of (shown u))).content)
      backed_now t = subst (λ (b : Blob). IsBacked seal (shown u) b.content) (sym (blob_now t))

      -- what was read from the offset on
      pub prefix_there : WhereTold seal dev u offset old length_reach (got ≡ take (length room) (bytes_under dev u offset old))
      prefix_there t backed = r.bytes t (λ some. (backed_now t backed).cache) ∙ ap (λ (b : Blob). take (length room) (drop offset (bytes_of (shown u) b.content))) (blob_now t)

      pub prefix_covered : WhereTold seal dev u offset old length_reach (IsCoveredTo seal u (blob_under dev u offset old).content offset (length room))
      prefix_covered t backed = subst (λ (b : Blob). IsCoveredTo seal u b.content offset (length room)) (blob_now t) (r.checked t (λ some. (backed_now t backed).cache))

  module _ (old : D) where
    abbrev pub there : List ℕ
    there = bytes_under dev u offset old

    abbrev pub content : List ℕ
    content = (blob_under dev u offset old).content

    pub there_length : length there ≡ size_of (shown u) - offset
    there_length = omega (arith, length-drop offset (bytes_of (shown u) content), bytes_length (shown u) content)

    abbrev Says : Type 0 → Type 0
    Says = WhereTold seal dev u offset old length_reach

    -- A read within the buffer, after `mid`.
    module _ (reach : List ℕ → ℕ) (Refuses : List ℕ → codec.Error → Type 0) (inside : offset < size_of (shown u)) (mid new : D) (first : OnlyLooks dev (pages.key_of (shown u)) old mid) where
      -- failed
      pub read_failed : {T : Type 0} (m : ℕ) (room got : List ℕ) (e : RError) → ReadsAt dev seal (shown u) mid new {T = T} m room got (Err e) → m + length room ≤ size_of (shown u)
          → ((k : ℕ) → e ≡ runtime.InvalidChecksum k → WhereTold seal dev u offset old reach (IsShort seal u.page_size content m (below u.page_size u.first m (length room)) k → IsDamagedTo seal u content offset (reach there) k))
          → Fails seal dev u offset old reach Refuses new (raised e)
      read_failed m room got e r fits reached = record {
        looks = looked_on old mid first new r;
        why = inr (
          inside,
          elim r.cause [
            | inl over ↦ absurd (let big = r.overflow.0 over in omega (arith, big, fits, fit_size _ _ _ _ u.fit))
            | inr (inl less) ↦ absurd (let more = r.short.0 less in omega (arith, more.1, fits))
            | inr (inr (inl page)) ↦ (let is : e ≡ runtime.InvalidChecksum page.0 = cc page.1 in inl (record {
              page = page.0;
              is = ap raised is;
              damaged = λ t backed. reached page.0 is t backed (subst (λ (b : Blob). IsShort seal u.page_size b.content m (below u.page_size u.first m (length room)) page.0) (blob_now old mid first t) (r.checksum t page.0 page.1));
              sound = λ t sealed. r.whole t (subst (IsSealed seal (shown u)) (sym (blob_now old mid first t)) sealed) page.0 page.1;
            }))
            | inr (inr (inr (inl none))) ↦ (let is : e ≡ runtime.Mem = cc none in inr (inr (inl (ap raised is))))
            | inr (inr (inr (inr fault))) ↦ (let is : e ≡ runtime.Fault = cc fault.0 in inr (inr (inr (ap raised is, omega (arith, first.faults, fault.1)))))
          ],
        );
      }

    -- What was found after other reads was found.
    module _ (mid new : D) (first : OnlyLooks dev (pages.key_of (shown u)) old mid) where
      backed_at : dev.Tells → IsBacked seal (shown u) content → IsBacked seal (shown u) (blob_under dev u offset mid).content
      backed_at t = subst (λ (b : Blob). IsBacked seal (shown u) b.content) (sym (blob_now old mid first t))

      abbrev length_at : Blob → ℕ
      length_at b = length_reach (drop offset (bytes_of (shown u) b.content))

      said : (Q : Blob → Type 0) → WhereTold seal dev u offset mid length_reach (Q (blob_under dev u offset mid)) → Says (Q (blob_under dev u offset old))
      said Q has t backed = subst Q (blob_now old mid first t) (has t (backed_at t backed))

      pub length_after : (result : Result (Option (ℕ × ℕ)) Error) → Reads seal dev u offset mid length_reach SaysNoLength HasLength new result → Reads seal dev u offset old length_reach SaysNoLength HasLength new result
      length_after (Ok o) did = record {
        inside = did.inside;
        value = said (λ b. HasLength (drop offset (bytes_of (shown u) b.content)) o) did.value;
        checked = said (λ b. IsCoveredTo seal u b.content offset (length_at b)) did.checked;
        looks = looked_then old mid first new did.looks;
      }
      length_after (Err e) did = record {
        looks = looked_then old mid first new did.looks;
        why = elim did.why [
          | inl past ↦ inl (record {
            is = past.is;
            past = said (λ b. IsPastLast (drop offset (bytes_of (shown u) b.content))) past.past;
            checked = said (λ b. IsCoveredTo seal u b.content offset (length_at b)) past.checked;
          })
          | inr (inside, inl page) ↦ inr (
            inside,
            inl (record {
              page = page.page;
              is = page.is;
              damaged = said (λ b. IsDamagedTo seal u b.content offset (length_at b) page.page) page.damaged;
              sound = λ t sealed. page.sound t (subst (IsSealed seal (shown u)) (sym (blob_now old mid first t)) sealed);
            }),
          )
          | inr (inside, inr (inl bad)) ↦ inr (
            inside,
            inr (inl (record {
              cause = bad.cause;
              is = bad.is;
              refused = said (λ b. SaysNoLength (drop offset (bytes_of (shown u) b.content)) bad.cause) bad.refused;
              checked = said (λ b. IsCoveredTo seal u b.content offset (length_at b)) bad.checked;
            })),
          )
          | inr (inside, inr (inr (inl none))) ↦ inr (inside, inr (inr (inl none)))
          | inr (inside, inr (inr (inr fault))) ↦ inr (inside, inr (inr (inr (fault.0, omega (arith, first.faults, fault.1)))))
        ];
      }

    -- past the end nothing stands
    pub ended_behind : (Refuses : List ℕ → codec.Error → Type 0) → size_of (shown u) ≤ offset → Fails seal dev u offset old length_reach Refuses old (ItemOutOfRange offset)
    ended_behind Refuses le = record {
      why = inl (record {
        is = refl;
        past = λ t backed. past_of_none there (empty there (omega (arith, there_length, le)));
        checked = λ t backed k wanted. absurd (omega (arith, wanted.some, length_few there, there_length, le));
      });
      looks = looked_start old;
    }
      where
        empty : (xs : List ℕ) → length xs ≡ 0 → xs ≡ []
        empty [] none = refl
        empty (x ∷ xs) none = absurd (omega (arith, none))

    -- The length was looked for below the end.
    module _ (new : D) (inside : offset < size_of (shown u)) (looks : OnlyLooks dev (pages.key_of (shown u)) old new) where
      abbrev pub LengthReads : Result (Option (ℕ × ℕ)) Error → Type 0
      LengthReads = Reads seal dev u offset old length_reach SaysNoLength HasLength new

      -- it stands there, or no frame does
      pub length_is : (o : Option (ℕ × ℕ)) → Says (HasLength there o) → Says (HasChecked seal dev u offset old length_reach) → LengthReads (Ok o)
      length_is o value checked = record { inside = inside; value = value; checked = checked; looks = looks }

      -- five bytes say none
      pub length_bad : Says (SaysNoLength there code.InvalidVarint) → Says (HasChecked seal dev u offset old length_reach) → LengthReads (Err (Codec code.InvalidVarint))
      length_bad refused checked = record {
        why = inr (inside, inr (inl (record { cause = code.InvalidVarint; is = refl; refused = refused; checked = checked })));
        looks = looks;
      }

    -- what the first five bytes say, or all
    pub length_read : (new : D) (inside : offset < size_of (shown u)) (room prefix : List ℕ) {T : Type 0} (v : T) (result : Result (Option (ℕ × ℕ)) Error)
        → ReadsAt dev seal (shown u) old new offset room prefix (Ok v) → length room ≡ min (size_of (shown u) - offset) 5 → length prefix ≡ length room
        → ((rest : List ℕ) → (length prefix < 5 → rest ≡ []) → Measures (length prefix) (prefix ++ rest) result) → Reads seal dev u offset old length_reach SaysNoLength HasLength new result
    length_read new inside room prefix v result r few long all = go result refl
      where
        looks : OnlyLooks dev (pages.key_of (shown u)) old new
        looks = looked_on old old (looked_start old) new r

        checked : Says (HasChecked seal dev u offset old length_reach)
        checked t backed = covered_less seal u.page_size content u.first offset (length_reach there) (length room) (omega (arith, length_few there, there_length, few))
            (prefix_covered old old (looked_start old) new room prefix v r t backed)

        at : Says (Measures (length prefix) there result)
        at t backed = subst (λ (z : List ℕ). Measures (length prefix) z result)
            (ap (λ (z : List ℕ). z ++ drop (length room) there) (prefix_there old old (looked_start old) new room prefix v r t backed) ∙ take-append-drop (length room) there)
            (all (drop (length room) there) (λ less. drop_all (length room) there (omega (arith, less, long, few, there_length))))

        go : (q : Result (Option (ℕ × ℕ)) Error) → result ≡ q → LengthReads new inside looks q
        go (Ok None) is = length_is new inside looks None (λ t backed. (at t backed).none is) checked
        go (Ok (Some f)) is = length_is new inside looks (Some f) (λ t backed. ((at t backed).found f is).0) checked
        go (Err e) is = subst (λ (x : Error). LengthReads new inside looks (Err x)) (sym ((all [] (λ less. refl)).refused e is).0)
            (length_bad new inside looks (λ t backed. (refl, ((at t backed).refused e is).1)) checked)

    -- the first five bytes were not read, and no page was found damaged
    pub length_failed : {T : Type 0} (new : D) (inside : offset < size_of (shown u)) (room prefix : List ℕ) (e : RError) → ReadsAt dev seal (shown u) old new {T = T} offset room prefix (Err e)
        → length room ≡ min (size_of (shown u) - offset) 5 → ((k : ℕ) → e ≡ runtime.InvalidChecksum k → ⊥) → Fails seal dev u offset old length_reach SaysNoLength new (raised e)
    length_failed new inside room prefix e r few none = read_failed length_reach SaysNoLength inside old new (looked_start old) offset room prefix e r (omega (arith, few, inside)) (λ k is. absurd (none k is))

    -- Each length there has more bytes than so many.
    abbrev pub EndsBehind : ℕ → Type 0
    EndsBehind count = Says ((n len : ℕ) → BeginsWithVarint (2 ^ 32) there n len → count < len)

    -- What holds where so many bytes were read, one more at a time.
    pub record AreRead (most count : ℕ) (now : D) : Type 0 where
      pub few : count ≤ most
      pub none : EndsBehind count
      pub covered : Says (IsCoveredTo seal u content offset count)
      pub looks : OnlyLooks dev (pages.key_of (shown u)) old now
      pub is_open : IsOpenAt (dev.opened now) (pages.key_of (shown u)) u.end

    pub none_read : (most : ℕ) → IsOpenAt (dev.opened old) (pages.key_of (shown u)) u.end → AreRead most 0 old
    none_read most is_open = record {
      few = omega arith;
      none = λ t backed n len begins. begun_some there n len begins;
      covered = λ t backed k wanted. absurd (omega (arith, wanted.some));
      looks = looked_start old;
      is_open = is_open;
    }

    module _ (inside : offset < size_of (shown u)) (most : ℕ) (is : most ≡ min (size_of (shown u) - offset) 5) (count : ℕ) (mid : D) (are : AreRead most count mid) where
      -- one byte more is read
      module _ (less : count < most) (new : D) (room got : List ℕ) (size : length room ≡ count + 1) where
        reach_more : Says (length room ≤ length_reach there)
        reach_more t backed = length_more there (length room) (omega (arith, size, less, is, there_length)) (λ n len begins. omega (arith, size, are.none t backed n len begins))

        pub byte_failed : {T : Type 0} (e : RError) → ReadsAt dev seal (shown u) mid new {T = T} offset room got (Err e) → Fails seal dev u offset old length_reach SaysNoLength new (raised e)
        byte_failed e r = read_failed length_reach SaysNoLength inside mid new are.looks offset room got e r (omega (arith, size, less, is, inside))
            (λ k page t backed short. short_more seal u.page_size content u.first offset (length room) (length_reach there) k (reach_more t backed) short)

        module _ {T : Type 0} (v : T) (r : ReadsAt dev seal (shown u) mid new offset room got (Ok v)) where
          got_is : Says (got ≡ take (length room) there)
          got_is t backed = prefix_there old mid are.looks new room got v r t backed

          got_covered : Says (IsCoveredTo seal u content offset (length room))
          got_covered t backed = prefix_covered old mid are.looks new room got v r t backed

          -- the length ends there
          pub byte_found : (f : ℕ × ℕ) → length got ≡ count + 1 → BeginsWithVarint (2 ^ 32) got f.0 f.1 → LengthReads new inside (looked_on old mid are.looks new r) (Ok (Some f))
          byte_found f long begins = length_is new inside (looked_on old mid are.looks new r) (Some f) stands
              (λ t backed. covered_less seal u.page_size content u.first offset (length_reach there) (length room)
              (omega (arith, length_found there f.0 f.1 (stands t backed), begins.within, long, size)) (got_covered t backed))
            where
              stands : Says (BeginsWithVarint (2 ^ 32) there f.0 f.1)
              stands t backed = subst (λ (z : List ℕ). BeginsWithVarint (2 ^ 32) z f.0 f.1)
                  (ap (λ (z : List ℕ). z ++ drop (length room) there) (got_is t backed) ∙ take-append-drop (length room) there)
                  (found_on got (drop (length room) there) f.0 f.1 begins)

          -- it goes on
          pub byte_more : (e : codec.Error) → ReadsBack (2 ^ 32) got (Err e) → AreRead most (count + 1) new
          byte_more e gives = record {
            few = omega (arith, less);
            none = λ t backed n len begins. elim (cases_lt (count + 1) len) [
              | inl behind ↦ behind
              | inr le ↦
                  (let long : length room ≡ len = omega (arith, size, le, are.none t backed n len begins) in
                  let head : got ≡ varint n = got_is t backed ∙ ap (λ (k : ℕ). take k there) long ∙ varint_only (take len there) n begins.spelled in
                  absurd (let read = gives n [] begins.in_range (head ∙ sym (append-nil (varint n))) in cc read))
            ];
            covered = λ t backed. subst (IsCoveredTo seal u content offset) size (got_covered t backed);
            looks = looked_on old mid are.looks new r;
            is_open = r.reads.length u.end are.is_open;
          }

      -- all are read
      module _ (all : most ≤ count) where
        all_covered : Says (HasChecked seal dev u offset old length_reach)
        all_covered t backed = covered_less seal u.page_size content u.first offset (length_reach there) count (omega (arith, length_few there, there_length, is, all)) (are.covered t backed)

        -- they are fewer than five: the length is cut short
        pub bytes_few : most < 5 → LengthReads mid inside are.looks (Ok None)
        bytes_few few = length_is mid inside are.looks None (λ t backed. record {
          none = λ item rest frame_there.
              (let begins = frame_begins there item rest frame_there in
              omega (arith, begins.within, are.none t backed (length item) (length (varint (length item))) begins, there_length, is, few, all));
          unread = λ bad. omega (arith, bad.enough, there_length, is, few);
        }) all_covered

        -- they are five
        pub bytes_bad : 5 ≤ most → LengthReads mid inside are.looks (Err (Codec code.InvalidVarint))
        bytes_bad enough = length_bad mid inside are.looks
            (λ t backed. (refl, record { enough = omega (arith, there_length, is, enough); none = none_begins there count (omega (arith, enough, all)) (are.none t backed) })) all_covered

    -- The length of a frame is in memory.
    module _ (inside : offset < size_of (shown u)) (n len : ℕ) (held : HoldsLength seal u offset (n, len)) where
      held_covered : IsBacked seal (shown u) content → IsCoveredTo seal u content offset len
      held_covered backed k wanted =
          let has = held_to (shown u) offset len (below u.page_size u.first offset len) (omega (arith, u.fit.begun)) refl held.held k wanted in
          let page = found_page_has (IsCachedOf seal u.page_size content) k (shown u).cache backed.cache has in
          let whole = page.1.covered in
          omega (arith, whole)

      pub length_in_memory : Reads seal dev u offset old length_reach SaysNoLength HasLength old (Ok (Some (n, len)))
      length_in_memory = length_is old inside (looked_start old) (Some (n, len)) (λ t backed. held.begins content backed.cache)
          (λ t backed. subst (IsCoveredTo seal u content offset) (sym (length_found there n len (held.begins content backed.cache))) (held_covered backed))

    -- It is not, and so no frame is.
    pub none_in_memory : (new : D) → FindsLength seal u offset None → IsIdle seal dev u offset old new
    none_in_memory new none t backed item rest begins held = absurd (none content item (record { cached = backed.cache; rest = rest; begins = begins; held = held }))

    -- Its length was found.
    module _ (new : D) (n len : ℕ) (found : Finds seal dev u offset old length_reach SaysNoLength HasLength new (Some (n, len))) where
      -- but it runs past the end
      pub header_long : size_of (shown u) - offset < len + n → Fails seal dev u offset old length_reach SaysNoLength new (ItemOutOfRange offset)
      header_long more = record {
        why = inl (record { is = refl; past = λ t backed. past_of_long there n len (found.value t backed) (omega (arith, more, there_length)); checked = found.checked });
        looks = found.looks;
      }

      -- and it ends in the buffer
      pub header_is : len + n ≤ size_of (shown u) - offset → Finds seal dev u offset old length_reach SaysNoLength HasHeader new (n, len)
      header_is whole = record {
        inside = found.inside;
        value = λ t backed. (found.value t backed, omega (arith, whole, there_length));
        checked = found.checked;
        looks = found.looks;
      }

    -- no length stands there
    pub header_none : (new : D) → Finds seal dev u offset old length_reach SaysNoLength HasLength new None → Fails seal dev u offset old length_reach SaysNoLength new (ItemOutOfRange offset)
    header_none new found = record { why = inl (record { is = refl; past = found.value; checked = found.checked }); looks = found.looks }

    -- What is read of a frame, as its length and its item.
    module _ {C : Type 0} (refusal : List ℕ → C → Option codec.Error) (config : C) where
      abbrev FrameFails : D → Error → Type 0
      FrameFails = Fails seal dev u offset old frame_reach (IsRefusedBy refusal config)

      checked_more : frame_reach there ≡ length_reach there → HasChecked seal dev u offset old length_reach → HasChecked seal dev u offset old frame_reach
      checked_more same = covered_less seal u.page_size content u.first offset (frame_reach there) (length_reach there) (omega (arith, same))

      -- the length was refused
      pub frame_failed : (new : D) (e : Error) → Fails seal dev u offset old length_reach SaysNoLength new e → FrameFails new e
      frame_failed new e did = record {
        looks = did.looks;
        why = elim did.why [
          | inl past ↦ inl (record { is = past.is; past = past.past; checked = λ t backed. checked_more (reach_none there (past.past t backed).none) (past.checked t backed) })
          | inr (inside, inl page) ↦ inr (
            inside,
            inl (record {
              page = page.page;
              is = page.is;
              damaged = λ t backed. short_more seal u.page_size content u.first offset (length_reach there) (frame_reach there) page.page (reach_length there) (page.damaged t backed);
              sound = page.sound;
            }),
          )
          | inr (inside, inr (inl bad)) ↦ inr (
            inside,
            inr (inl (record {
              cause = bad.cause;
              is = bad.is;
              refused = λ t backed. inl (bad.refused t backed);
              checked = λ t backed. checked_more (reach_none there (none_of_bad there (bad.refused t backed).1)) (bad.checked t backed);
            })),
          )
          | inr (inside, inr (inr failed)) ↦ inr (inside, inr (inr failed))
        ];
      }

      module _ (mid : D) (n len : ℕ) (header : Finds seal dev u offset old length_reach SaysNoLength HasHeader mid (n, len)) where
        -- there was no memory for the item
        pub frame_memory : FrameFails mid Mem
        frame_memory = record { looks = header.looks; why = inr (header.inside, inr (inr (inl refl))) }

        reach_is : WhereTold seal dev u offset old frame_reach (frame_reach there ≡ len + n)
        reach_is t backed = let h = header.value t backed in reach_whole there n len h.0 h.1

        module _ (new : D) (room got : List ℕ) (long : length room ≡ n) where
          -- where the frame is in memory, the item is
          pub item_idle : {T : Type 0} {result : Result T RError} → ReadsAt dev seal (shown u) mid new (offset + len) room got result → IsIdle seal dev u offset old mid → IsIdle seal dev u offset old new
          item_idle r idle t backed item rest begins held =
              let all : length (frame item) ≡ len + n = sym (reach_frame there item rest begins) ∙ reach_is t backed in
              r.held (λ i from high. held i (omega (arith, from)) (omega (arith, all, long, high))) ∙ idle t backed item rest begins held

          -- the item was not read
          pub item_failed : {T : Type 0} (e : RError) → ReadsAt dev seal (shown u) mid new {T = T} (offset + len) room got (Err e) → offset + (len + n) ≤ size_of (shown u) → FrameFails new (raised e)
          item_failed e r fits = read_failed frame_reach (IsRefusedBy refusal config) header.inside mid new header.looks (offset + len) room got e r (omega (arith, long, fits))
              (λ k page t backed short. subst (λ (x : ℕ). IsDamagedTo seal u content offset x k) (sym (reach_is t backed))
              (short_behind seal u.page_size content u.first offset len n k (subst (λ (x : ℕ). IsShort seal u.page_size content (offset + len) (below u.page_size u.first (offset + len) x) k) long short)))

          module _ {T : Type 0} (v : T) (r : ReadsAt dev seal (shown u) mid new (offset + len) room got (Ok v)) where
            -- it is that of the frame
            item_is : WhereTold seal dev u offset old frame_reach (got ≡ take n (drop len there))
            item_is t backed =
                let same = blob_now old mid header.looks t in
                r.bytes t (λ some. (subst (λ (b : Blob). IsBacked seal (shown u) b.content) (sym same) backed).cache)
                ∙ (λ i. take (long i) (drop (offset + len) (bytes_of (shown u) (same i).content)))
                ∙ ap (take n) (sym (drop-drop len offset (bytes_of (shown u) content)))

            item_checked : WhereTold seal dev u offset old frame_reach (HasChecked seal dev u offset old frame_reach)
            item_checked t backed =
                let same = blob_now old mid header.looks t in
                let h = header.value t backed in
                let tail : IsCoveredTo seal u content (offset + len) (length room) = subst (λ (b : Blob). IsCoveredTo seal u b.content (offset + len) (length room)) same
                (r.checked t (λ some. (subst (λ (b : Blob). IsBacked seal (shown u) b.content) (sym same) backed).cache)) in
                subst (IsCoveredTo seal u content offset) (sym (reach_is t backed))
                (covered_both seal u.page_size content u.first offset len n
                (subst (IsCoveredTo seal u content offset) (length_found there n len h.0) (header.checked t backed))
                (subst (IsCoveredTo seal u content (offset + len)) long tail))

            -- the codec refuses it
            pub item_refused : (x : codec.Error) → (x ≡ code.Mem) ⊎ (refusal got config ≡ Some x) → FrameFails new (raised_codec x)
            item_refused x why = record {
              looks = looked_on old mid header.looks new r;
              why = inr (
                header.inside,
                inr (elim why [
                  | inl none ↦ inr (inl (ap raised_codec none))
                  | inr refused ↦ elim (mem_or x) [
                    | inl none ↦ inr (inl (ap raised_codec none))
                    | inr is ↦ inl (record {
                      cause = x;
                      is = is;
                      refused = λ t backed.
                          (let h = header.value t backed in inr (
                            got,
                            drop (len + n) there,
                            subst (λ (i : List ℕ). BeginsWithFrame there i (drop (len + n) there)) (sym (item_is t backed)) (header_frame there n len h.0 h.1),
                            refused,
                          ));
                      checked = item_checked;
                    })
                  ]
                ]),
              );
            }

            -- it is a value's
            pub item_found : {V : Type 0} (spelling : V → List ℕ) (accepted : V → C → Type 0) (w : V) → spelling w ≡ got → accepted w config
                → Finds seal dev u offset old frame_reach (IsRefusedBy refusal config) (FrameOf spelling accepted config) new w
            item_found spelling accepted w spelled allowed = record {
              inside = header.inside;
              value = λ t backed.
                  (let h = header.value t backed in record {
                    item = take n (drop len there);
                    rest = drop (len + n) there;
                    begins = header_frame there n len h.0 h.1;
                    spells = record { spelled = spelled ∙ item_is t backed; allowed = allowed };
                  });
              checked = item_checked;
              looks = looked_on old mid header.looks new r;
            }

-- A read of a frame failed by the error e, and that is the answer.
module _ {S D C T : Type 0} {gs : _} (seal : List ℕ → ℕ) (dev : device.Ghosts D) (u : PageBlob S gs) (offset : ℕ) (old : D) (refusal : List ℕ → C → Option codec.Error) (config : C)
    (new : D) (e : Error) (did : Fails seal dev u offset old frame_reach (IsRefusedBy refusal config) new e) (result : Result T Error) (is : result ≡ Err e) where
  pub failed_past : (o : ℕ) → IsPast result o → EndsPast seal dev u offset old frame_reach e × (offset ≡ o)
  failed_past o past = elim did.why [
    | inl end ↦ (end, (let at = end.is in cc (is, past, at)))
    | inr (inside, inl page) ↦ absurd (let at = page.is in cc (is, past, at))
    | inr (inside, inr (inl bad)) ↦ absurd (let at = bad.is in cc (is, past, at))
    | inr (inside, inr (inr (inl none))) ↦ absurd (cc (is, past, none))
    | inr (inside, inr (inr (inr fault))) ↦ absurd (let at = fault.0 in cc (is, past, at))
  ]

  pub failed_page : (k : ℕ) → IsErrOf result (Runtime (runtime.InvalidChecksum k)) → (page : EndsDamaged seal dev u offset old frame_reach e) × (page.page ≡ k)
  failed_page k torn = elim did.why [
    | inl end ↦ absurd (let at = end.is in cc (is, torn, at))
    | inr (inside, inl page) ↦ (page, (let at = page.is in cc (is, torn, at)))
    | inr (inside, inr (inl bad)) ↦ absurd (let at = bad.is in cc (is, torn, at))
    | inr (inside, inr (inr (inl none))) ↦ absurd (cc (is, torn, none))
    | inr (inside, inr (inr (inr fault))) ↦ absurd (let at = fault.0 in cc (is, torn, at))
  ]

  pub failed_code : (x : codec.Error) → IsErrOf result (Codec x) → (bad : EndsRefused seal dev u offset old frame_reach (IsRefusedBy refusal config) e) × (bad.cause ≡ x)
  failed_code x code = elim did.why [
    | inl end ↦ absurd (let at = end.is in cc (is, code, at))
    | inr (inside, inl page) ↦ absurd (let at = page.is in cc (is, code, at))
    | inr (inside, inr (inl bad)) ↦ (bad, (let at = bad.is in cc (is, code, at)))
    | inr (inside, inr (inr (inl none))) ↦ absurd (cc (is, code, none))
    | inr (inside, inr (inr (inr fault))) ↦ absurd (let at = fault.0 in cc (is, code, at))
  ]

  -- the section was not refused
  pub failed_held : (f s : ℕ) → IsPruned result f ⊎ IsAbsent result s → ⊥
  failed_held f s refused = elim refused [ inl pruned ↦ go (AlreadyPrunedToSection f) pruned (inl refl) | inr none ↦ go (SectionOutOfRange s) none (inr refl) ]
    where
      go : (x : Error) → IsErrOf result x → (x ≡ AlreadyPrunedToSection f) ⊎ (x ≡ SectionOutOfRange s) → ⊥
      go x err which = elim did.why [
        | inl end ↦ (let at = end.is in elim which [ inl it ↦ cc (is, err, at, it) | inr it ↦ cc (is, err, at, it) ])
        | inr (inside, inl page) ↦ (let at = page.is in elim which [ inl it ↦ cc (is, err, at, it) | inr it ↦ cc (is, err, at, it) ])
        | inr (inside, inr (inl bad)) ↦ (let at = bad.is in elim which [ inl it ↦ cc (is, err, at, it) | inr it ↦ cc (is, err, at, it) ])
        | inr (inside, inr (inr (inl none))) ↦ elim which [ inl it ↦ cc (is, err, none, it) | inr it ↦ cc (is, err, none, it) ]
        | inr (inside, inr (inr (inr fault))) ↦ (let at = fault.0 in elim which [ inl it ↦ cc (is, err, at, it) | inr it ↦ cc (is, err, at, it) ])
      ]

  pub failed_cause : IsPast result offset ⊎ (((k : ℕ) × IsErrOf result (Runtime (runtime.InvalidChecksum k))) ⊎ (((x : codec.Error) × IsErrOf result (Codec x)) ⊎ HasFailed result (dev.faults old) (dev.faults new)))
  failed_cause = elim did.why [
    | inl end ↦ inl (is ∙ ap Err end.is)
    | inr (inside, inl page) ↦ inr (inl (page.page, is ∙ ap Err page.is))
    | inr (inside, inr (inl bad)) ↦ inr (inr (inl (bad.cause, is ∙ ap Err bad.is)))
    | inr (inside, inr (inr (inl none))) ↦ inr (inr (inr (inl (is ∙ ap Err none))))
    | inr (inside, inr (inr (inr fault))) ↦ inr (inr (inr (inr (is ∙ ap Err fault.0, fault.1))))
  ]
