-- Where items stand in a list of frames: at boundaries, in order.
use Rattle.std.proofs.Common.{◌≡◌, ◌∙◌, ℕ, ◌+◌, ◌≤◌, List, [], length, take, sym, ap, arith, length-append}
use Rattle.std.proofs.Math.Seq.{take-length}
use Rattle.variable_journal.specs.Frames.{frames, items_of, offset_of, rest_of, whole_end}
use Rattle.variable_journal.specs.lemmas.Frame.{are_frames, cut_items}

pub whole_is : (bytes : List ℕ) → length bytes ≡ whole_end bytes + length (rest_of bytes)
whole_is bytes = ap length (are_frames bytes).is ∙ length-append (frames (items_of bytes)) (rest_of bytes)

pub whole_within : (bytes : List ℕ) → whole_end bytes ≤ length bytes
whole_within bytes = omega (arith, whole_is bytes)

-- a cut there leaves the same items, and no rest
pub cut_whole : (bytes : List ℕ) → (items_of (take (whole_end bytes) bytes) ≡ items_of bytes) × (rest_of (take (whole_end bytes) bytes) ≡ [])
cut_whole bytes =
    let xs = items_of bytes in
    let all : take (length xs) xs ≡ xs = take-length xs in
    let end : offset_of xs (length xs) ≡ whole_end bytes = ap (λ (ys : List (List ℕ)). length (frames ys)) all in
    let cut = cut_items bytes (length xs) in (
      ap (λ (n : ℕ). items_of (take n bytes)) (sym end) ∙ cut.0 ∙ all,
      ap (λ (n : ℕ). rest_of (take n bytes)) (sym end) ∙ cut.1,
    )
