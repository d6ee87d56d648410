-- The picked images are ones that a crash may leave.
use Rattle.std.proofs.Common.{◌≡◌, ◌⊎◌, inl, inr, ℕ, zero, suc, ◌+◌, ◌<◌, ◌≤◌, ◌%◌, Bool, true, false, cond, not, ltb, leb, ◌&&◌, ◌||◌, List, [], ◌∷◌, length, get_or, map, Some, None, refl, ◌∙◌, ap, arith}
use Rattle.std.specs.List.{list_all, range_with_len}
use Rattle.std.proofs.lemmas.Bool.Decides.{Decides-ltb, nat_tests}
use Rattle.std.proofs.lemmas.List.FromFn.{fill_by_all, get_or-map-range_with_len, length-map-range_with_len}
use Rattle.blob_device.specs.Disk.{Blob, Outside, AreBytes, HoldsBytes, PastAgrees, MayHold, MayLeave, shortest, longest, least, greatest, past}
use Rattle.blob_device.specs.Laws.{Between}
use Rattle.blob_device.specs.Picked.{settled_of, is_set, is_free, free_below, mixed_length, mixed_byte, mixed_bytes, mixed_of, IsMixedBlob}

least_first : (n : ℕ) (cs : List (List ℕ)) → least n cs ≤ n
least_first n [] = omega arith
least_first n (c ∷ cs) = omega (arith, least_first n cs)

greatest_first : (n : ℕ) (cs : List (List ℕ)) → n ≤ greatest n cs
greatest_first n [] = omega arith
greatest_first n (c ∷ cs) = omega (arith, greatest_first n cs)

pub settled_left : (b : Blob) → PastAgrees b → HoldsBytes b → MayLeave b (settled_of b)
settled_left b agrees holds = go b.there refl
  where
    go : (v : Bool) → b.there ≡ v → MayLeave b (cond v (Some b.settled) None)
    go true is = (
      ap (λ (w : Bool). w || b.unsure) is,
      record {
        no_shorter = least_first (length b.settled) b.since;
        no_longer = greatest_first (length b.settled) b.since;
        kept = agrees.0;
        bytes = holds.past.0;
      },
    )
    go false is = ap (λ (w : Bool). not w || b.unsure) is

tested_outside : (rs : List (ℕ × ℕ)) (i : ℕ) → Outside rs i → list_all (λ (r : ℕ × ℕ). ltb i r.0 || leb (r.0 + r.1) i) rs ≡ true
tested_outside [] i out = refl
tested_outside (r ∷ rs) i out = ap (λ (b : Bool). b && list_all (λ (s : ℕ × ℕ). ltb i s.0 || leb (s.0 + s.1) i) rs) (one out.0) ∙ tested_outside rs i out.1
  where
    one : (i < r.0) ⊎ (r.0 + r.1 ≤ i) → (ltb i r.0 || leb (r.0 + r.1) i) ≡ true
    one (inl below) = grind (arith, nat_tests)
    one (inr past) = grind (arith, nat_tests)

not_free : (b : Blob) (i : ℕ) → i < shortest b → Outside b.loose i → is_free b i ≡ false
not_free b i lt out = ap (λ (v : Bool). not (v && list_all (λ (r : ℕ × ℕ). ltb i r.0 || leb (r.0 + r.1) i) b.loose)) ((Decides-ltb i (shortest b)).1 lt)
    ∙ ap not (tested_outside b.loose i out)

byte_of : (c : List ℕ) (i : ℕ) → AreBytes c → get_or c i 0 < 256
byte_of [] i all = omega arith
byte_of (x ∷ xs) zero all = all.0
byte_of (x ∷ xs) (suc i) all = byte_of xs i all.1

byte_cond : (v : Bool) (x : ℕ) → x < 256 → cond v 255 x < 256
byte_cond true x lt = omega arith
byte_cond false x lt = lt

bytes_from : (f : ℕ → ℕ) (a n : ℕ) → ((i : ℕ) → f i < 256) → AreBytes (map f (range_with_len a n))
bytes_from f a zero each = tt
bytes_from f a (suc n) each = (each a, bytes_from f (a + 1) n each)

pub mixed_left : (n first : ℕ) (b : Blob) → Between b → HoldsBytes b → MayLeave b (mixed_of n first b)
mixed_left n first b between holds = go (b.there || b.unsure) refl
  where
    size : (v : Bool) → (shortest b ≤ cond v (longest b) (shortest b)) × (cond v (longest b) (shortest b) ≤ longest b)
    size true = (omega (arith, between.low, between.high), omega arith)
    size false = (omega arith, omega (arith, between.low, between.high))

    hold : MayHold b (mixed_bytes n first b)
    hold = let len = length-map-range_with_len (mixed_byte n first b) 0 (mixed_length n b) in record {
      no_shorter = omega (arith, len, (size (is_set n 0)).0);
      no_longer = omega (arith, len, (size (is_set n 0)).1);
      kept = λ i lt out. get_or-map-range_with_len (mixed_byte n first b) 0 (mixed_length n b) i i 0 (omega (arith, lt, (size (is_set n 0)).0)) (omega arith)
          ∙ ap (λ (v : Bool). cond (v && not (is_set n ((first + free_below b i) % 64) && ltb i (length b.content))) 255 (get_or b.content i 0)) (not_free b i lt out);
      bytes = bytes_from (mixed_byte n first b) 0 (mixed_length n b) (λ i. byte_cond (is_free b i && not (is_set n ((first + free_below b i) % 64) && ltb i (length b.content))) (get_or b.content i 0) (byte_of b.content i holds.content));
    }

    go : (v : Bool) → (b.there || b.unsure) ≡ v → MayLeave b (cond v (Some (mixed_bytes n first b)) None)
    go true is = (is, hold)
    go false is = gone b.there b.unsure is
      where
        gone : (t u : Bool) → (t || u) ≡ false → (not t || u) ≡ true
        gone true u is = absurd (cc is)
        gone false true is = refl
        gone false false is = refl

-- the bytes that were found are the mixed ones
pub mixed_is : (n first : ℕ) (b : Blob) (c : List ℕ) → IsMixedBlob n first b c → c ≡ mixed_bytes n first b
mixed_is n first b c is = fill_by_all (mixed_byte n first b) c (mixed_length n b) 0 is.size is.each
