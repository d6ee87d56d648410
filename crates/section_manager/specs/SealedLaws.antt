-- Proofs of the laws of a section in a buffer whose pages carry seals.
use Rattle.std.specs.Prelude.{◌≡◌, ℕ, zero, suc, ◌+◌, ◌*◌, ◌/◌, ◌%◌, ◌<◌, ◌≤◌, ◌==◌, not, min, false, List, [], ◌∷◌, length, get_or, Option, None, Some, IsSomeAnd}
use Rattle.std.specs.List.{Contains}
use Rattle.std.proofs.Common.{inl, inr, arith, refl, sym, ap, ◌∙◌, subst, length-append}
use Rattle.std.proofs.lemmas.Bool.Decides.{nat_tests}
use Rattle.std.proofs.lemmas.List.{ext_get_or}
use Rattle.blob_device.specs.Disk.{Blob, past}
use Rattle.sealed_pages.specs.Buffer.{Buffer, Fit, size_of, flushed_of, bytes_of, IsBacked, IsSealed}
use Rattle.sealed_pages.specs.ChanceSeal.{SamePlace, SomeByRecursion, NoChanceSeal}
use Rattle.sealed_pages.specs.ChanceSeal as chance
use Rattle.sealed_pages.specs.Cutting.{StandsSettled}
use Rattle.sealed_pages.specs.Flushing.{Data}
use Rattle.sealed_pages.specs.Reads.{IsWanted}
use Rattle.sealed_pages.specs.SealedPrefix.{sealed_prefix, adopted_size, data_from, place, Prefix}
use Rattle.sealed_pages.specs.Slots.{slot_length}
use Rattle.sealed_pages.specs.Unrecovered.{IsUnrecovered}
use Rattle.sealed_pages.specs.View.{View, view}
use Rattle.sealed_pages.specs.lemmas.Unrecovered.{prefix_leaves, unrecovered_prefix}
use Rattle.sealed_pages.specs.lemmas.adopted.Adopt.{get_or-data_from, length-data_from}
use Rattle.sealed_pages.specs.lemmas.cutting.Truncating.{all_flushed, settles_of}
use Rattle.sealed_pages.specs.lemmas.memory.Holding.{holds_leaves}
use Rattle.sealed_pages.specs.lemmas.slots.Slot.{slot_stands}
use Rattle.sealed_pages.specs.lemmas.slots.Whole.{whole_covered}
use Rattle.section_manager.specs.Leaving.{Leaves}
use Rattle.section_manager.specs.Sealed.{is_unsettled, adopted_bytes, Stands, MayKeep}
use Rattle.blob_device.proofs.general.Numbers.{times_more}

settled_is : (m n : ℕ) → not (m == n) ≡ false → m ≡ n
settled_is m n is = grind (arith, nat_tests)

pub counted : (u : Buffer) (content : List ℕ) → length (bytes_of u content) ≡ size_of u
counted u content = omega (arith, length-append (data_from u.page_size (view content) 0 (u.first * u.page_size)) u.tip, length-data_from u.page_size (view content) (u.first * u.page_size) 0)

pub all_settled : (u : Buffer) → is_unsettled u ≡ false → u.settled ≡ size_of u
all_settled u idle = settled_is u.settled (size_of u) idle

-- data that stand at their places are what is read there
data_again : (P n : ℕ) (v : View) (bytes : List ℕ) → 1 ≤ P → n ≡ length bytes → Data P bytes n v → data_from P v 0 n ≡ bytes
data_again P n v bytes pos long same = ext_get_or 0 (data_from P v 0 n) bytes (omega (arith, length-data_from P v n 0, long)) (λ i lt. at i (omega (arith, lt, length-data_from P v n 0)))
  where
    at : (i : ℕ) → i < n → get_or (data_from P v 0 n) i 0 ≡ get_or bytes i 0
    at i lt =
        let whole : i / P * P + i % P ≡ i = omega (arith, pos) in
        get_or-data_from P v n 0 i lt
        ∙ (let e : 0 + i ≡ i = omega arith in ap (λ (k : ℕ). v (place P k)) e)
        ∙ same (i / P) (i % P) (omega (arith, pos)) (omega (arith, whole, lt))
        ∙ ap (λ (k : ℕ). get_or bytes k 0) whole

some_of : (Q : List ℕ → Type 0) (cs : List (List ℕ)) (c : List ℕ) → Q c → (k : ℕ) → k < length cs → get_or cs k c ≡ c → SomeByRecursion Q cs
some_of Q [] c has k lt is = absurd (omega (arith, lt))
some_of Q (d ∷ cs) c has zero lt is = inl (subst Q (sym is) has)
some_of Q (d ∷ cs) c has (suc k) lt is = inr (some_of Q cs c has k (omega (arith, lt)) is)

module _ (seal : List ℕ → ℕ) where
  pub no_chance : (P : ℕ) (contents : List (List ℕ)) (c : List ℕ) → Contains contents c → NoChanceSeal seal P contents c
  no_chance P contents c has k second some =
      some_of (λ p. SamePlace P p c k second (slot_length seal P c k second)) contents c (record { stands = slot_stands seal P c k second some; slot = λ i lt. refl; bytes = λ i lt. refl }) has.0 has.1 has.2

  module _ (u : Buffer) where
    -- a sealed buffer has no page below its tip that is not full
    pub not_both : (b : Blob) → IsSealed seal u b → IsUnrecovered seal u b → ⊥
    not_both b sealed un =
        let room : un.page * u.page_size + u.page_size ≤ u.first * u.page_size = times_more un.page u.first u.page_size un.below in
        let wanted : IsWanted u.page_size 0 (flushed_of u) un.page = record { some = omega (arith, un.short, room); low = omega (arith, un.short); high = omega (arith, un.short, room) } in
        omega (arith, un.short, room, whole_covered seal u (bytes_of u b.content) b sealed.holds (flushed_of u) refl un.page wanted)

    -- what the clauses on crashes of a sealed buffer leave passes its test
    pub sealed_keeps : (from b : Blob) (least : ℕ) → IsSealed seal u from → chance.Leaves seal u.page_size (bytes_of u from.content) least b → Leaves (NoChanceSeal seal u.page_size) (λ _. MayKeep seal u from least) b
    sealed_keeps from b least sealed leaves left may = go left (leaves left may)
      where
        go : (l : Option (List ℕ)) → IsSomeAnd l (λ c. NoChanceSeal seal u.page_size (past b) c → Prefix seal u.page_size (bytes_of u from.content) least c)
            → IsSomeAnd l (λ c. NoChanceSeal seal u.page_size (past b) c → MayKeep seal u from least c)
        go None has = has
        go (Some c) has = λ no. record { sealed = λ s. has no; unrecovered = λ un. absurd (not_both from sealed un) }

    -- and so does what is left of one whose blob was adopted with a shorter sealed prefix
    pub unrecovered_keeps : (from b : Blob) (least : ℕ) → IsUnrecovered seal u from
        → chance.Leaves seal u.page_size (sealed_prefix seal u.page_size from.content) (min least (length (sealed_prefix seal u.page_size from.content))) b
        → Leaves (NoChanceSeal seal u.page_size) (λ _. MayKeep seal u from least) b
    unrecovered_keeps from b least un leaves left may = go left (leaves left may)
      where
        go : (l : Option (List ℕ)) → IsSomeAnd l (λ c. NoChanceSeal seal u.page_size (past b) c → Prefix seal u.page_size (sealed_prefix seal u.page_size from.content) (min least (length (sealed_prefix seal u.page_size from.content))) c)
            → IsSomeAnd l (λ c. NoChanceSeal seal u.page_size (past b) c → MayKeep seal u from least c)
        go None has = has
        go (Some c) has = λ no. record { sealed = λ s. absurd (not_both from s un); unrecovered = λ s. has no }

    fewer : (bytes : List ℕ) (few more : ℕ) (c : List ℕ) → few ≤ more → Prefix seal u.page_size bytes more c → Prefix seal u.page_size bytes few c
    fewer bytes few more c le keeps = record { is = keeps.is; no_shorter = omega (arith, le, keeps.no_shorter); no_longer = keeps.no_longer }

    pub looser : (b : Blob) (few more : ℕ) (c : List ℕ) → few ≤ more → MayKeep seal u b more c → MayKeep seal u b few c
    looser b few more c le keeps = record {
      sealed = λ sealed. fewer (bytes_of u b.content) few more c le (keeps.sealed sealed);
      unrecovered = λ un. (let n = length (sealed_prefix seal u.page_size b.content) in fewer (sealed_prefix seal u.page_size b.content) (min few n) (min more n) c (omega (arith, le)) (keeps.unrecovered un));
    }

    pub rested : (b : Blob) → Stands seal u b → is_unsettled u ≡ false → StandsSettled b
    rested b stands idle = stands.rest (all_settled u idle)

    module _ (fit : Fit u.page_size u.first u.from u.tip) (order : u.settled ≤ flushed_of u) where
      pub settled_within : u.settled ≤ size_of u
      settled_within = omega (arith, order, fit.within)

      pub passes : (b : Blob) → Stands seal u b → Leaves (NoChanceSeal seal u.page_size) (λ _. MayKeep seal u b u.settled) b
      passes b stands = elim stands.adopted [
        | inl sealed ↦ sealed_keeps b b u.settled sealed (holds_leaves seal u (bytes_of u b.content) b fit.begun sealed.holds)
        | inr un ↦ unrecovered_keeps b b u.settled un
            (prefix_leaves seal u.page_size (sealed_prefix seal u.page_size b.content) (min u.settled (length (sealed_prefix seal u.page_size b.content))) b (omega arith) (unrecovered_prefix seal u b (omega (arith, fit.begun)) un).0)
      ]

      -- where all has settled, and adopting finds as many bytes, it gives the bytes again
      pub again : (content : List ℕ) → u.settled ≡ size_of u → IsBacked seal u content → size_of u ≡ adopted_size seal u.page_size content → adopted_bytes seal u.page_size content ≡ bytes_of u content
      again content settled backed size =
          let full : u.from ≡ length u.tip = all_flushed u fit.within order settled in
          data_again u.page_size (adopted_size seal u.page_size content) (view content) (bytes_of u content) (omega (arith, fit.begun)) (omega (arith, size, counted u content))
          (λ k i lt below. backed.flushed k i lt (omega (arith, below, size, full)))

      pub found_again : (b : Blob) → IsSealed seal u b → is_unsettled u ≡ false → adopted_bytes seal u.page_size b.content ≡ bytes_of u b.content
      found_again b sealed idle =
          let settled = all_settled u idle in
          let settles = settles_of seal u u.page_size (bytes_of u b.content) b refl fit.begun (all_flushed u fit.within order settled) settled sealed.holds in
          again b.content settled sealed.backed (omega (arith, settles.adopted, counted u b.content))
