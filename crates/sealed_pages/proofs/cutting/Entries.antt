-- The list of opened blobs after the calls of a cut.
use Rattle.std.proofs.Common.{◌≡◌, ℕ, ◌+◌, ◌≤◌, Option, Some, None, IsSome, IsSomeAnd, refl, sym, ◌∙◌, ap, subst, arith}
use Rattle.std.specs.Option.{option_map}
use Rattle.blob_device.specs.Disk.{Key}
use Rattle.blob_device.specs.Opened.{Opened, OpenedList, updated, with_len, one_more_read, reads_of}
use Rattle.blob_device.specs.lemmas.Opened.{updated_other}
use Rattle.blob_device.specs.lemmas.Puts.{put_same}
use Rattle.sealed_pages.specs.Cutting.{FewReads}
use Rattle.sealed_pages.specs.Entries.{IsOpenAt, NoReads}
use Rattle.sealed_pages.specs.lemmas.Entries.{open_updated}

-- a blob that was opened, and then resized
pub resized_open : (k : Key) (old new : OpenedList) (m : ℕ) → new ≡ updated old k (with_len m) → IsSome (old k) → IsOpenAt new k m
resized_open k old new m same was = subst (λ (e : Option Opened). IsSomeAnd e (λ o. o.len ≡ m)) (sym (ap (λ (o : OpenedList). o k) same ∙ put_same old k _)) (mapped (old k) was)
  where
    mapped : (e : Option Opened) → IsSome e → IsSomeAnd (option_map (with_len m) e) (λ o. o.len ≡ m)
    mapped None was = absurd (cc was)
    mapped (Some x) was = refl

-- reads are counted
none_read : (e f : Option Opened) (n : ℕ) → IsSomeAnd f (λ o. o.reads ≡ reads_of e) → IsSomeAnd f (λ o. o.reads ≤ reads_of e + n)
none_read e None n is = is
none_read e (Some x) n is = omega (arith, is)

pub few_none : (n : ℕ) (k : Key) (old new : OpenedList) → NoReads k old new → FewReads n k old new
few_none n k old new none = record { others = none.others; here = none_read (old k) (new k) n none.here }

pub few_once : (k : Key) (old new : OpenedList) → new ≡ updated old k one_more_read → IsSome (old k) → FewReads 1 k old new
few_once k old new same was = record {
  others = λ q other. updated_other new old k q one_more_read same other;
  here = subst (λ (e : Option Opened). IsSomeAnd e (λ o. o.reads ≤ reads_of (old k) + 1)) (sym (ap (λ (o : OpenedList). o k) same ∙ put_same old k _)) (mapped (old k) was);
}
  where
    mapped : (e : Option Opened) → IsSome e → IsSomeAnd (option_map one_more_read e) (λ o. o.reads ≤ reads_of e + 1)
    mapped None was = absurd (cc was)
    mapped (Some x) was = omega arith

pub few_open : (n : ℕ) (k : Key) (old new : OpenedList) → FewReads n k old new → IsSome (new k)
few_open n k old new few = go (new k) few.here
  where
    go : (e : Option Opened) → IsSomeAnd e (λ o. o.reads ≤ reads_of (old k) + n) → IsSome e
    go None is = absurd is
    go (Some x) is = refl

-- calls before and after
after_some : (e f : Option Opened) (r n : ℕ) → IsSomeAnd e (λ o. o.reads ≤ r + n) → IsSomeAnd f (λ o. o.reads ≡ reads_of e) → IsSomeAnd f (λ o. o.reads ≤ r + n)
after_some None f r n first second = absurd first
after_some (Some x) None r n first second = second
after_some (Some x) (Some y) r n first second = omega (arith, first, second)

pub few_then : (n : ℕ) (k : Key) (a b c : OpenedList) → FewReads n k a b → NoReads k b c → FewReads n k a c
few_then n k a b c first second = record {
  others = λ q other. second.others q other ∙ first.others q other;
  here = after_some (b k) (c k) (reads_of (a k)) n first.here second.here;
}

before_some : (e f : Option Opened) (r n : ℕ) → IsSomeAnd e (λ o. o.reads ≡ r) → IsSomeAnd f (λ o. o.reads ≤ reads_of e + n) → IsSomeAnd f (λ o. o.reads ≤ r + n)
before_some None f r n first second = absurd first
before_some (Some x) None r n first second = second
before_some (Some x) (Some y) r n first second = omega (arith, first, second)

pub then_few : (n : ℕ) (k : Key) (a b c : OpenedList) → NoReads k a b → FewReads n k b c → FewReads n k a c
then_few n k a b c first second = record {
  others = λ q other. second.others q other ∙ first.others q other;
  here = before_some (b k) (c k) (reads_of (a k)) n first.here second.here;
}

-- a read leaves the length
pub read_open : (k : Key) (old new : OpenedList) (n : ℕ) → new ≡ updated old k one_more_read → IsOpenAt old k n → IsOpenAt new k n
read_open k old new n same was = open_updated k old new one_more_read n n same (λ o e. e) was
