-- The length at the start of a frame, as a reader finds it: from five bytes, or from fewer where no more are there.
use Rattle.std.proofs.Common.{◌≡◌, ◌∙◌, ◌++◌, ◌+◌, ◌<◌, ◌≤◌, ◌^◌, ℕ, List, [], None, Some, Result, Ok, Err, inl, inr, sym, ap, subst, arith, length, drop, take, append_assoc, length-append, length-take, length-drop, take-append-drop}
use Rattle.std.proofs.lemmas.List.{append-nil, drop-drop, take-append-le}
use Rattle.value_codec.specs.Varint.{varint, BeginsWithVarint, IsVarint, IsWhyNone, ReadsBack}
use Rattle.value_codec.specs.declared.codec.Error as codec
use Rattle.value_codec.specs.declared.codec.Error.TheVariants.{InvalidVarint}
use Rattle.value_codec.specs.lemmas.Varint.{varint_apart, varint_only}
use Rattle.variable_journal.specs.lemmas.Frame.{none_extends, varint_some}
use Rattle.variable_journal.specs.lemmas.Reach.{frame_begins}
use Rattle.section_manager.specs.Raised.{raised_codec}
use Rattle.variable_journal.specs.Frames.{frame, BeginsWithFrame, BeginsWithNoFrame, HasBadLength}
use Rattle.variable_journal.specs.Reading.{IsPastLast, Measures}
use Rattle.variable_journal.proofs.FrameLemmas.{bad_of, not_bad}

-- a length is there, whatever follows
pub found_on : (prefix rest : List ℕ) (n len : ℕ) → BeginsWithVarint (2 ^ 32) prefix n len → BeginsWithVarint (2 ^ 32) (prefix ++ rest) n len
found_on prefix rest n len begins = record {
  within = omega (arith, begins.within, length-append prefix rest);
  spelled = subst (λ (z : List ℕ). IsVarint z n) (sym (take-append-le len prefix rest begins.within)) begins.spelled;
  in_range = begins.in_range;
}

-- the bytes of a frame whose length is there, and all of it
pub header_frame : (bytes : List ℕ) (n len : ℕ) → BeginsWithVarint (2 ^ 32) bytes n len → len + n ≤ length bytes
    → BeginsWithFrame bytes (take n (drop len bytes)) (drop (len + n) bytes)
header_frame bytes n len begins whole =
    let item = take n (drop len bytes) in
    let size : length item ≡ n = omega (arith, length-take n (drop len bytes), length-drop len bytes, whole) in
    let head : take len bytes ≡ varint (length item) = varint_only (take len bytes) n begins.spelled ∙ ap varint (sym size) in
    let after : drop len bytes ≡ item ++ drop (len + n) bytes = sym (take-append-drop n (drop len bytes)) ∙ ap (λ (z : List ℕ). item ++ z) (drop-drop n len bytes) in
    record {
      fits = omega (arith, size, begins.in_range);
      is = sym (take-append-drop len bytes) ∙ (λ i. head i ++ after i) ∙ sym (append_assoc (varint (length item)) item (drop (len + n) bytes));
    }

-- a frame that begins with this length has that many bytes
pub header_only : (bytes : List ℕ) (n len : ℕ) (item rest : List ℕ) → BeginsWithVarint (2 ^ 32) bytes n len → BeginsWithFrame bytes item rest
    → (length item ≡ n) × (len + n ≤ length bytes)
header_only bytes n len item rest begins frame_there =
    let v = varint (length item) in
    let stands : bytes ≡ v ++ (item ++ rest) = frame_there.is ∙ append_assoc v item rest in
    let head : take len bytes ≡ varint n = varint_only (take len bytes) n begins.spelled in
    let same = varint_apart (length item) n (item ++ rest) (drop len bytes) (sym stands ∙ sym (take-append-drop len bytes) ∙ ap (λ (z : List ℕ). z ++ drop len bytes) head) in
    let behind : length (item ++ rest) ≡ length (drop len bytes) = ap length same.1 in
    (same.0, omega (arith, behind, begins.within, length-drop len bytes, length-append item rest, same.0))

-- a length that runs past the end
pub past_of_long : (bytes : List ℕ) (n len : ℕ) → BeginsWithVarint (2 ^ 32) bytes n len → length bytes < len + n → IsPastLast bytes
past_of_long bytes n len begins long = record {
  none = λ item rest there. absurd (let is = header_only bytes n len item rest begins there in omega (arith, is.1, long));
  unread = λ bad. not_bad bytes n len begins bad;
}

-- no frame begins where bytes say no length
pub none_of_bad : (bytes : List ℕ) → HasBadLength bytes → BeginsWithNoFrame bytes
none_of_bad bytes bad item rest there = not_bad bytes (length item) (length (varint (length item))) (frame_begins bytes item rest there) bad

-- no bytes
pub past_of_none : (bytes : List ℕ) → bytes ≡ [] → IsPastLast bytes
past_of_none bytes none = record {
  none = λ item rest there. absurd (let size : length (frame item ++ rest) ≡ 0 = ap length (sym there.is ∙ none) in omega (arith, size, length-append (frame item) rest, length-append (varint (length item)) item, some item));
  unread = λ bad. absurd (let size : length bytes ≡ 0 = ap length none in omega (arith, bad.enough, size));
}
  where
    some : (item : List ℕ) → 1 ≤ length (varint (length item))
    some item = varint_some (length item)

-- fewer than five bytes, in which no length is found
past_of_few : (prefix : List ℕ) (result : Result (ℕ × ℕ) codec.Error) (e : codec.Error) → length prefix < 5 → ReadsBack (2 ^ 32) prefix result → result ≡ Err e → IsPastLast prefix
past_of_few prefix result e few gives is = record {
  none = λ item rest there. absurd (let read = gives (length item) (item ++ rest) there.fits (there.is ∙ append_assoc (varint (length item)) item rest) in cc (is, read));
  unread = λ bad. absurd (omega (arith, bad.enough, few));
}

module _ (prefix rest : List ℕ) (all : length prefix < 5 → rest ≡ []) where
  pub measured : (r : ℕ × ℕ) → BeginsWithVarint (2 ^ 32) prefix r.0 r.1 → Measures (length prefix) (prefix ++ rest) (Ok (Some r))
  measured r begins = record {
    found = λ q is. (let same : r ≡ q = cc is in subst (λ (x : ℕ × ℕ). BeginsWithVarint (2 ^ 32) (prefix ++ rest) x.0 x.1 × (x.1 ≤ length prefix)) same (found_on prefix rest r.0 r.1 begins, begins.within));
    none = λ is. absurd (cc is);
    refused = λ e is. absurd (cc is);
  }

  pub measured_none : (result : Result (ℕ × ℕ) codec.Error) (e : codec.Error) → length prefix < 5 → ReadsBack (2 ^ 32) prefix result → result ≡ Err e
      → Measures (length prefix) (prefix ++ rest) (Ok None)
  measured_none result e few gives is = record {
    found = λ q same. absurd (cc same);
    none = λ same. subst IsPastLast (sym (ap (λ (z : List ℕ). prefix ++ z) (all few) ∙ append-nil prefix)) (past_of_few prefix result e few gives is);
    refused = λ x same. absurd (cc same);
  }

  pub measured_bad : (e : codec.Error) → 5 ≤ length prefix → IsWhyNone (2 ^ 32) 5 prefix e → Measures (length prefix) (prefix ++ rest) (Err (raised_codec e))
  measured_bad e enough why = record {
    found = λ q same. absurd (cc same);
    none = λ same. absurd (cc same);
    refused = λ x same. (let is : raised_codec e ≡ x = cc same in (sym is ∙ ap raised_codec (bad_error why), bad_on (bad_of prefix e enough why)));
  }
    where
      bad_error : IsWhyNone (2 ^ 32) 5 prefix e → e ≡ InvalidVarint
      bad_error reason = elim reason [ inl cut ↦ absurd (omega (arith, enough, cut.1.few)) | inr none ↦ none.0 ]

      bad_on : HasBadLength prefix → HasBadLength (prefix ++ rest)
      bad_on bad = record { enough = omega (arith, bad.enough, length-append prefix rest); none = none_extends prefix rest bad.enough bad.none }
