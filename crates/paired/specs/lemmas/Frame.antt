-- What the promises of a glob, which are on the bytes of a section, say of its frames: a frame that is added stands at its place, stays
-- there where bytes are added behind it and where the section is cut behind it, and is what a crash leaves of it where it had settled;
-- and no two spellings share a frame.
use Rattle.std.proofs.Common.{◌≡◌, ℕ, ◌+◌, ◌^◌, ◌<◌, ◌≤◌, List, ◌++◌, length, take, drop, sym, ◌∙◌, ap, subst, arith, length-append, length-drop, take-append-drop, length-take-le, refl}
use Rattle.std.specs.Int.{w32, to_be_bytes, from_be_bytes}
use Rattle.std.proofs.lemmas.List.{take-append-le, drop-append-le, length-take}
use Rattle.std.proofs.lemmas.Nat.{from_be_bytes-to_be_bytes_4}
use Rattle.std.proofs.Math.Seq.{take-length, take-append_seam, drop-append_seam}
use Rattle.section_manager.specs.Prefixes.{IsPrefixOf}
use Rattle.paired.specs.Frames.{with_number, bytes_at, frame, HasFrame, IsSealed, IsBroken}

length-number : (n : ℕ) → length (to_be_bytes w32 n) ≡ 4
length-number n = refl

pub length-with_number : (bytes : List ℕ) (n : ℕ) → length (with_number bytes n) ≡ length bytes + 4
length-with_number bytes n = omega (arith, length-append bytes (to_be_bytes w32 n), length-number n)

-- bytes that stand inside stay where bytes are added
pub bytes_at-added : (bytes more : List ℕ) (at n : ℕ) → at + n ≤ length bytes → bytes_at (bytes ++ more) at n ≡ bytes_at bytes at n
bytes_at-added bytes more at n inside =
    ap (take n) (drop-append-le at bytes more (omega arith)) ∙ take-append-le n (drop at bytes) more (omega (arith, length-drop at bytes))

pub length-bytes_at : (bytes : List ℕ) (at n : ℕ) → at + n ≤ length bytes → length (bytes_at bytes at n) ≡ n
length-bytes_at bytes at n inside = length-take-le n (drop at bytes) (omega (arith, length-drop at bytes))

-- bytes and a number behind them are known by what they make
pub one_prefix : (a b : List ℕ) (m n : ℕ) → with_number a m ≡ with_number b n → a ≡ b
one_prefix a b m n same =
    let long : length a ≡ length b = omega (arith, length-with_number a m, length-with_number b n, ap length same) in
    sym (take-append_seam a (to_be_bytes w32 m)) ∙ ap (take (length a)) same ∙ ap (λ (k : ℕ). take k (with_number b n)) long ∙ take-append_seam b (to_be_bytes w32 n)

pub one_number : (a b : List ℕ) (m n : ℕ) → m < 2 ^ 32 → n < 2 ^ 32 → with_number a m ≡ with_number b n → m ≡ n
one_number a b m n m_small n_small same =
    let long : length a ≡ length b = omega (arith, length-with_number a m, length-with_number b n, ap length same) in
    let bytes : to_be_bytes w32 m ≡ to_be_bytes w32 n =
    sym (drop-append_seam a (to_be_bytes w32 m)) ∙ ap (drop (length a)) same ∙ ap (λ (k : ℕ). drop k (with_number b n)) long ∙ drop-append_seam b (to_be_bytes w32 n) in
    sym (from_be_bytes-to_be_bytes_4 m m_small) ∙ ap (from_be_bytes w32) bytes ∙ from_be_bytes-to_be_bytes_4 n n_small

module _ (seal : List ℕ → ℕ) where
  pub length-frame : (spelled : List ℕ) → length (frame seal spelled) ≡ length spelled + 4
  length-frame spelled = length-with_number spelled (seal spelled)

  pub stands : (bytes spelled : List ℕ) → HasFrame seal (bytes ++ frame seal spelled) (length bytes) (length (frame seal spelled)) spelled
  stands bytes spelled = record {
    inside = omega (arith, length-append bytes (frame seal spelled));
    is = ap (take (length (frame seal spelled))) (drop-append_seam bytes (frame seal spelled)) ∙ take-length (frame seal spelled);
  }

  pub added : (bytes more : List ℕ) (at n : ℕ) (spelled : List ℕ) → HasFrame seal bytes at n spelled → HasFrame seal (bytes ++ more) at n spelled
  added bytes more at n spelled has = record {
    inside = omega (arith, has.inside, length-append bytes more);
    is = bytes_at-added bytes more at n has.inside ∙ has.is;
  }

  pub cut : (bytes : List ℕ) (end at n : ℕ) (spelled : List ℕ) → at + n ≤ end → HasFrame seal bytes at n spelled → HasFrame seal (take end bytes) at n spelled
  cut bytes end at n spelled before has =
      let inside : at + n ≤ length (take end bytes) = omega (arith, before, has.inside, length-take end bytes) in
      record {
        inside = inside;
        is = sym (bytes_at-added (take end bytes) (drop end bytes) at n inside) ∙ ap (λ (l : List ℕ). bytes_at l at n) (take-append-drop end bytes) ∙ has.is;
      }

  pub outlasts : (kept left : List ℕ) (at n : ℕ) (spelled : List ℕ) → IsPrefixOf kept left → HasFrame seal kept at n spelled → HasFrame seal left at n spelled
  outlasts kept left at n spelled prefix has =
      subst (λ (l : List ℕ). HasFrame seal l at n spelled) (ap (λ (l : List ℕ). l ++ drop (length kept) left) (sym prefix) ∙ take-append-drop (length kept) left)
      (added kept (drop (length kept) left) at n spelled has)

  pub one : (bytes : List ℕ) (at n : ℕ) (a b : List ℕ) → HasFrame seal bytes at n a → HasFrame seal bytes at n b → a ≡ b
  one bytes at n a b first second = one_prefix a b (seal a) (seal b) (sym first.is ∙ second.is)

  pub size : (bytes : List ℕ) (at n : ℕ) (spelled : List ℕ) → HasFrame seal bytes at n spelled → n ≡ length spelled + 4
  size bytes at n spelled has = sym (length-bytes_at bytes at n has.inside) ∙ ap length has.is ∙ length-frame spelled

  -- bytes that are sealed do not end in another number
  pub not_broken : ((spelled : List ℕ) → seal spelled < 2 ^ 32) → (bytes : List ℕ) (at n stored computed : ℕ) → IsBroken seal bytes at n stored computed → IsSealed seal bytes at n → ⊥
  not_broken fits bytes at n stored computed broken sealed =
      let same : with_number broken.spelled stored ≡ frame seal sealed.0 = sym broken.is ∙ sealed.1.is in
      let prefix : broken.spelled ≡ sealed.0 = one_prefix broken.spelled sealed.0 stored (seal sealed.0) same in
      let number : stored ≡ seal sealed.0 = one_number broken.spelled sealed.0 stored (seal sealed.0) broken.fits (fits sealed.0) same in
      broken.differs (number ∙ ap seal (sym prefix) ∙ sym broken.sealed)
