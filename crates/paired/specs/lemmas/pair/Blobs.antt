-- How the blobs of one section of a pair stand while they are removed, and between calls.
use Rattle.std.proofs.Common.{◌≡◌, inl, inr, ℕ, ◌≤◌, Bool, true, false, ◌||◌, List, [], length, take, IsTrue, Option, None, Some, IsSomeAnd, unwrap_or, refl, sym, ap, subst, arith, length-take}
use Rattle.std.proofs.lemmas.List.{nil_from_length}
use Rattle.blob_device.specs.Disk.{Blob, nothing}
use Rattle.sealed_pages.specs.SealedPrefix.{sealed_prefix, Prefix}
use Rattle.section_manager.specs.Lasting.{IsGoing}
use Rattle.section_manager.specs.Prefixes.{IsPrefixOf}
use Rattle.paired.specs.glob.Lasting.{Outlasts}
use Rattle.paired.specs.Records.{records}
use Rattle.paired.specs.Kept.{Layout}
use Rattle.paired.specs.Holding.{Facts, IsLasting, IsFading, LeavesNoRecords, ValuesStand}
use Rattle.paired.specs.lemmas.Records.{records-prefix}

-- a blob under removal was there, or unsure
pub again : (t u : Bool) → IsTrue (t || (t || u)) → IsTrue (t || u)
again true u is = refl
again false u is = is

module _ (l : Layout) (f : Facts) where
  pub lasting_fades : (b : Blob) → IsLasting l f b → IsFading l f b
  lasting_fades b lasting c left seals = lasting (Some c) left seals

  -- an index blob that is removed, from the moment at which the removal begins
  pub going_fades : (from b : Blob) → IsFading l f from → IsGoing from b → IsFading l f b
  going_fades from b fading (inl same) = subst (IsFading l f) (sym same) fading
  going_fades from b fading (inr (inl (inl under))) = subst (IsFading l f) (sym under)
      (λ c left seals. fading c (again from.there from.unsure left.0, record { no_shorter = left.1.no_shorter; no_longer = left.1.no_longer; kept = left.1.kept; bytes = left.1.bytes }) seals)
  going_fades from b fading (inr (inl (inr under))) = subst (IsFading l f) (sym under)
      (λ c left seals. fading c (left.0, record { no_shorter = left.1.no_shorter; no_longer = left.1.no_longer; kept = left.1.kept; bytes = left.1.bytes }) seals)
  going_fades from b fading (inr (inr gone)) = subst (IsFading l f) (sym gone) (λ c left seals. absurd (cc left.0))

  -- what has settled of the values outlasts every crash
  pub values_of : (b : Blob) → Outlasts (take f.values_settled f.values) f.values b → ValuesStand l f b
  values_of b outlasts = record { kept = λ left may. go left (outlasts.leaves left may); prefixes = outlasts.since }
    where
      go : (o : Option (List ℕ)) → IsSomeAnd o (IsPrefixOf (take f.values_settled f.values)) → IsPrefixOf (take f.values_settled f.values) (unwrap_or o [])
      go None is = absurd is
      go (Some c) is = is

  -- of values none of which has settled there need be no blob
  pub nothing_stands : f.values_settled ≡ 0 → ValuesStand l f nothing
  nothing_stands none = record { kept = λ left may. subst (λ (n : ℕ). IsPrefixOf (take n f.values) (unwrap_or left [])) (sym none) refl; prefixes = λ left may. (refl, tt) }

  -- the index blob of a section without records
  pub lasting_none : 1 ≤ l.record_size → (b : Blob) → records l.record_size f.index ≡ [] → IsLasting l f b → LeavesNoRecords l b
  lasting_none pos b none lasting c left seals =
      let prefix : Prefix l.seal l.page_size f.index f.index_settled c = lasting (Some c) left seals in
      let rs : List (List ℕ) = records l.record_size (sealed_prefix l.seal l.page_size c) in
      let first : rs ≡ take (length rs) (records l.record_size f.index) = records-prefix l.record_size f.index (sealed_prefix l.seal l.page_size c) pos prefix.is prefix.no_longer in
      nil_from_length rs (omega (arith, ap length first, length-take (length rs) (records l.record_size f.index), ap length none))
