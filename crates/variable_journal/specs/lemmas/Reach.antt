-- How far a read of a frame goes: to the frame's end, or to that of its length.
use Rattle.std.specs.Prelude.{◌≡◌, ℕ, ◌+◌, ◌*◌, ◌^◌, ◌<◌, ◌≤◌, min, nat_le, if◌then◌else◌, Bool, true, false, List, ◌++◌, length, take, drop, Option, Some, None, Result, Ok, Err}
use Rattle.std.specs.Option.{option_map_or}
use Rattle.std.proofs.Common.{inl, inr, refl, sym, ap, ◌∙◌, subst, arith, append_assoc, length-append, length-take, take-append-drop}
use Rattle.std.proofs.Math.Seq.{take-append_seam}
use Rattle.std.proofs.lemmas.Bool.{cases_lt}
use Rattle.std.proofs.lemmas.Bool.Decides.{nat_tests}
use Rattle.value_codec.specs.declared.codec.Error.{Error}
use Rattle.value_codec.specs.Varint.{varint, varint_prefix, BeginsWithNone, BeginsWithVarint, IsVarint}
use Rattle.value_codec.specs.lemmas.Varint.{varint_only, varint_spells}
use Rattle.value_codec.specs.lemmas.VarintPrefix.{prefix_gives}
use Rattle.sealed_pages.specs.Reads.{IsCovered, IsShort, below}
use Rattle.variable_journal.specs.Frames.{frame, first_frame, whole_of, BeginsWithFrame, BeginsWithNoFrame}
use Rattle.variable_journal.specs.Reaching.{frame_reach, length_reach, length_within}
use Rattle.variable_journal.specs.lemmas.Frame.{prefix_stands, prefix_whole, varint_few, varint_some}

module _ (bytes : List ℕ) where
  begun_long : (n len : ℕ) → BeginsWithVarint (2 ^ 32) bytes n len → length (varint n) ≡ len
  begun_long n len begins = omega (arith, ap length (varint_only (take len bytes) n begins.spelled), length-take len bytes, begins.within)

  -- a length has a byte
  pub begun_some : (n len : ℕ) → BeginsWithVarint (2 ^ 32) bytes n len → 1 ≤ len
  begun_some n len begins = omega (arith, begun_long n len begins, varint_some n)

  -- bytes that go on behind a length begin with it
  pub begins_with : (n : ℕ) (rest : List ℕ) → n < 2 ^ 32 → bytes ≡ varint n ++ rest → BeginsWithVarint (2 ^ 32) bytes n (length (varint n))
  begins_with n rest below is = record {
    within = omega (arith, ap length is, length-append (varint n) rest);
    spelled = subst (λ (z : List ℕ). IsVarint z n) (sym (ap (take (length (varint n))) is ∙ take-append_seam (varint n) rest)) (varint_spells n);
    in_range = below;
  }

  -- where each length that stands there would have more bytes than the longest, none does
  pub none_begins : (count : ℕ) → 5 ≤ count → ((n len : ℕ) → BeginsWithVarint (2 ^ 32) bytes n len → count < len) → BeginsWithNone (2 ^ 32) bytes
  none_begins count enough none n len below spelled =
      let head : take len bytes ≡ varint n = varint_only (take len bytes) n spelled in
      let begins = begins_with n (drop len bytes) below (sym (take-append-drop len bytes) ∙ ap (λ (z : List ℕ). z ++ drop len bytes) head) in
      omega (arith, enough, none n (length (varint n)) begins, varint_few n below)

  -- the length of a frame
  pub frame_begins : (item rest : List ℕ) → BeginsWithFrame bytes item rest → BeginsWithVarint (2 ^ 32) bytes (length item) (length (varint (length item)))
  frame_begins item rest there = begins_with (length item) (item ++ rest) there.fits (there.is ∙ append_assoc (varint (length item)) item rest)

  -- the length that stands there is found
  prefix_found : (n len : ℕ) → BeginsWithVarint (2 ^ 32) bytes n len → varint_prefix (2 ^ 32) 5 bytes ≡ Ok (n, len)
  prefix_found n len begins =
      let head : take len bytes ≡ varint n = varint_only (take len bytes) n begins.spelled in
      let long = begun_long n len begins in
      ap (varint_prefix (2 ^ 32) 5) (sym (take-append-drop len bytes) ∙ ap (λ (z : List ℕ). z ++ drop len bytes) head)
      ∙ prefix_gives (2 ^ 32) 5 n (drop len bytes) begins.in_range ∙ (λ i. Ok (n, long i))

  pub length_found : (n len : ℕ) → BeginsWithVarint (2 ^ 32) bytes n len → length_reach bytes ≡ len
  length_found n len begins = ap (length_within (length bytes)) (prefix_found n len begins)

  -- five bytes at most say it, and no more than there are
  pub length_few : length_reach bytes ≤ min 5 (length bytes)
  length_few = go (varint_prefix (2 ^ 32) 5 bytes) refl
    where
      go : (r : Result (ℕ × ℕ) Error) → varint_prefix (2 ^ 32) 5 bytes ≡ r → length_within (length bytes) r ≤ min 5 (length bytes)
      go (Ok r) is = let begins = prefix_stands (2 ^ 32) 5 bytes r.0 r.1 is in omega (arith, begins.within, begun_long r.0 r.1 begins, varint_few r.0 begins.in_range)
      go (Err e) is = omega arith

  -- bytes that end no length all say it
  pub length_more : (count : ℕ) → count ≤ min 5 (length bytes) → ((n len : ℕ) → BeginsWithVarint (2 ^ 32) bytes n len → count ≤ len) → count ≤ length_reach bytes
  length_more count few more = go (varint_prefix (2 ^ 32) 5 bytes) refl
    where
      go : (r : Result (ℕ × ℕ) Error) → varint_prefix (2 ^ 32) 5 bytes ≡ r → count ≤ length_within (length bytes) r
      go (Ok r) is = more r.0 r.1 (prefix_stands (2 ^ 32) 5 bytes r.0 r.1 is)
      go (Err e) is = few

  -- where no frame is whole
  pub reach_none : BeginsWithNoFrame bytes → frame_reach bytes ≡ length_reach bytes
  reach_none none = go (first_frame bytes) refl
    where
      go : (o : Option (ℕ × ℕ)) → first_frame bytes ≡ o → option_map_or (λ f. f.1 + f.0) o (length_reach bytes) ≡ length_reach bytes
      go None is = refl
      go (Some f) is = absurd (none _ _ (prefix_whole bytes f is))

  -- the length is among the bytes of the frame
  pub reach_length : length_reach bytes ≤ frame_reach bytes
  reach_length = go (length bytes) (varint_prefix (2 ^ 32) 5 bytes)
    where
      go : (size : ℕ) (r : Result (ℕ × ℕ) Error) → length_within size r ≤ option_map_or (λ (f : ℕ × ℕ). f.1 + f.0) (whole_of size r) (length_within size r)
      go size (Ok r) = by_test (nat_le (r.1 + r.0) size)
        where
          by_test : (b : Bool) → r.1 ≤ option_map_or (λ (f : ℕ × ℕ). f.1 + f.0) (if b then Some r else None) r.1
          by_test true = omega arith
          by_test false = omega arith
      go size (Err e) = omega arith

  -- a frame that is whole
  pub reach_whole : (n len : ℕ) → BeginsWithVarint (2 ^ 32) bytes n len → len + n ≤ length bytes → frame_reach bytes ≡ len + n
  reach_whole n len begins whole =
      let fits : nat_le (len + n) (length bytes) ≡ true = grind (arith, nat_tests) in
      ap (λ (r : Result (ℕ × ℕ) Error). option_map_or (λ (f : ℕ × ℕ). f.1 + f.0) (whole_of (length bytes) r) (length_within (length bytes) r)) (prefix_found n len begins)
      ∙ ap (λ (b : Bool). option_map_or (λ (f : ℕ × ℕ). f.1 + f.0) (if b then Some (n, len) else None) len) fits

  pub reach_frame : (item rest : List ℕ) → BeginsWithFrame bytes item rest → frame_reach bytes ≡ length (frame item)
  reach_frame item rest there =
      let v = varint (length item) in
      reach_whole (length item) (length v) (frame_begins item rest there)
      (omega (arith, ap length there.is, length-append (frame item) rest, length-append v item))
      ∙ sym (length-append v item)

-- Pages of a content below page `first`, of which some bytes from byte m on are read.
module _ (seal : List ℕ → ℕ) (P : ℕ) (c : List ℕ) (first m : ℕ) where
  -- a page that is damaged for some bytes is so for more
  pub short_more : (n o k : ℕ) → n ≤ o → IsShort seal P c m (below P first m n) k → IsShort seal P c m (below P first m o) k
  short_more n o k le is = record {
    wanted = record { some = omega (arith, is.wanted.some, le); low = is.wanted.low; high = omega (arith, is.wanted.high, le) };
    short = omega (arith, is.short, le);
  }

  -- pages that are covered for some bytes are so for fewer
  pub covered_less : (n o : ℕ) → n ≤ o → IsCovered seal P c m (below P first m o) → IsCovered seal P c m (below P first m n)
  covered_less n o le all k wanted =
      let covers = all k (record { some = omega (arith, wanted.some, le); low = wanted.low; high = omega (arith, wanted.high, le) }) in
      omega (arith, covers, le)

  -- a page that is damaged for bytes behind the first ones is so for both
  pub short_behind : (len n k : ℕ) → IsShort seal P c (m + len) (below P first (m + len) n) k → IsShort seal P c m (below P first m (len + n)) k
  short_behind len n k is = record {
    wanted = record { some = omega (arith, is.wanted.some); low = omega (arith, is.wanted.low); high = omega (arith, is.wanted.some, is.wanted.high) };
    short = omega (arith, is.short, is.wanted.some, is.wanted.high);
  }

  -- pages that are covered for the first bytes and for those behind them are so for both
  pub covered_both : (len n : ℕ) → IsCovered seal P c m (below P first m len) → IsCovered seal P c (m + len) (below P first (m + len) n) → IsCovered seal P c m (below P first m (len + n))
  covered_both len n head tail k wanted =
      elim (cases_lt (m + len) (k * P + P)) [
        | inl reaches ↦ elim (cases_lt 0 (below P first (m + len) n)) [
          | inl some ↦
              (let covers = tail k (record { some = some; low = reaches; high = omega (arith, some, wanted.high) }) in
              omega (arith, covers, some))
          | inr none ↦
              (let covers = head k (record { some = omega (arith, none, wanted.some); low = wanted.low; high = omega (arith, none, wanted.high) }) in
              omega (arith, covers, none))
        ]
        | inr within ↦ elim (cases_lt 0 P) [
          | inl some ↦
              (let covers = head k (record {
                some = omega (arith, within, wanted.low, wanted.some);
                low = wanted.low;
                high = omega (arith, some, within, wanted.high);
              }) in omega (arith, covers, within, wanted.high))
          | inr none ↦ omega (arith, none)
        ]
      ]
