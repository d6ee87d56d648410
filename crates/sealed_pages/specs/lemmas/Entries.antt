-- The list of opened blobs after calls on one of them.
use Rattle.std.proofs.Common.{◌≡◌, ◌⊎◌, inl, inr, ℕ, ◌+◌, ◌≤◌, max, Option, Some, None, IsSome, IsSomeAnd, refl, sym, ◌∙◌, ap, subst, arith}
use Rattle.std.specs.Option.{option_map}
use Rattle.blob_device.specs.Disk.{Key}
use Rattle.blob_device.specs.Opened.{Opened, OpenedList, updated, entered, with_len, one_more_read, reads_of, PartlyGrown}
use Rattle.blob_device.specs.lemmas.Puts.{put_same}
use Rattle.blob_device.specs.lemmas.Opened.{updated_other}
use Rattle.sealed_pages.specs.Entries.{IsOpenAt, NoReads, ReadsAtMost}
use Rattle.sealed_pages.specs.Reading.{OnlyRead}

pub open_some : (o : OpenedList) (k : Key) (n : ℕ) → IsOpenAt o k n → IsSome (o k)
open_some o k n is = go (o k) is
  where
    go : (e : Option Opened) → IsSomeAnd e (λ x. x.len ≡ n) → IsSome e
    go None is = absurd is
    go (Some x) is = refl

reads_some : (e : Option Opened) → IsSome e → IsSomeAnd e (λ o. o.reads ≡ reads_of e)
reads_some None is = absurd (cc is)
reads_some (Some x) is = refl

pub no_reads_start : (o : OpenedList) (k : Key) → IsSome (o k) → NoReads k o o
no_reads_start o k is = record { others = λ q other. refl; here = reads_some (o k) is }

some_open : (e : Option Opened) (n : ℕ) → IsSomeAnd e (λ o. o.reads ≡ n) → (IsSome e) × (reads_of e ≡ n)
some_open None n is = absurd is
some_open (Some x) n is = (refl, is)

pub no_reads_open : (k : Key) (a b : OpenedList) → NoReads k a b → IsSome (b k)
no_reads_open k a b first = (some_open (b k) (reads_of (a k)) first.here).0

pub no_reads_then : (k : Key) (a b c : OpenedList) → NoReads k a b → NoReads k b c → NoReads k a c
no_reads_then k a b c first second = record {
  others = λ q other. second.others q other ∙ first.others q other;
  here = subst (λ (n : ℕ). IsSomeAnd (c k) (λ o. o.reads ≡ n)) (some_open (b k) (reads_of (a k)) first.here).1 second.here;
}

-- an entry whose length alone changed
pub no_reads_updated : (k : Key) (old new : OpenedList) (f : Opened → ℕ) → new ≡ updated old k (λ o. with_len (f o) o) → IsSome (old k) → NoReads k old new
no_reads_updated k old new f same was = record {
  others = λ q other. updated_other new old k q (λ o. with_len (f o) o) same other;
  here = subst (λ (e : Option Opened). IsSomeAnd e (λ o. o.reads ≡ reads_of (old k))) (sym (ap (λ (o : OpenedList). o k) same ∙ put_same old k _)) (mapped (old k) was);
}
  where
    mapped : (e : Option Opened) → IsSome e → IsSomeAnd (option_map (λ o. with_len (f o) o) e) (λ o. o.reads ≡ reads_of e)
    mapped None was = absurd (cc was)
    mapped (Some x) was = refl

pub no_reads_same : (k : Key) (old new : OpenedList) → new ≡ old → IsSome (old k) → NoReads k old new
no_reads_same k old new same was = subst (λ (o : OpenedList). NoReads k old o) (sym same) (no_reads_start old k was)

pub no_reads_part : (k : Key) (end : ℕ) (old new : OpenedList) → PartlyGrown k end old new → IsSome (old k) → NoReads k old new
no_reads_part k end old new part was = no_reads_updated k old new (λ o. part.len) part.is was

pub no_reads_resize : (k : Key) (n : ℕ) (old new : OpenedList) → (new ≡ old) ⊎ (new ≡ updated old k (with_len n)) → IsSome (old k) → NoReads k old new
no_reads_resize k n old new (inl same) was = no_reads_same k old new same was
no_reads_resize k n old new (inr same) was = no_reads_updated k old new (λ o. n) same was

-- how long the blob is then
pub open_updated : (k : Key) (old new : OpenedList) (f : Opened → Opened) (n m : ℕ) → new ≡ updated old k f → ((o : Opened) → o.len ≡ n → (f o).len ≡ m) → IsOpenAt old k n → IsOpenAt new k m
open_updated k old new f n m same to was = subst (λ (e : Option Opened). IsSomeAnd e (λ o. o.len ≡ m)) (sym (ap (λ (o : OpenedList). o k) same ∙ put_same old k _)) (mapped (old k) was)
  where
    mapped : (e : Option Opened) → IsSomeAnd e (λ o. o.len ≡ n) → IsSomeAnd (option_map f e) (λ o. o.len ≡ m)
    mapped None was = was
    mapped (Some x) was = to x was

pub open_written : (k : Key) (old new : OpenedList) (end n m : ℕ) → new ≡ updated old k (λ o. with_len (max o.len end) o) → m ≡ max n end → IsOpenAt old k n → IsOpenAt new k m
open_written k old new end n m same is was = open_updated k old new (λ o. with_len (max o.len end) o) n m same (λ o e. omega (arith, e, is)) was

pub open_resized : (k : Key) (old new : OpenedList) (m n : ℕ) → new ≡ updated old k (with_len m) → IsOpenAt old k n → IsOpenAt new k m
open_resized k old new m n same was = open_updated k old new (with_len m) n m same (λ o e. refl) was

pub open_same : (k : Key) (old new : OpenedList) (n : ℕ) → new ≡ old → IsOpenAt old k n → IsOpenAt new k n
open_same k old new n same was = subst (λ (o : OpenedList). IsOpenAt o k n) (sym same) was

-- as far as the blob reaches
pub open_within : (o : OpenedList) (k : Key) (n m : ℕ) → IsOpenAt o k n → m ≤ n → IsSomeAnd (o k) (λ x. m ≤ x.len)
open_within o k n m is le = go (o k) is
  where
    go : (e : Option Opened) → IsSomeAnd e (λ x. x.len ≡ n) → IsSomeAnd e (λ x. m ≤ x.len)
    go None is = is
    go (Some x) is = omega (arith, is, le)

pub only_read_start : (k : Key) (o : OpenedList) → OnlyRead k o o
only_read_start k o = record { others = λ q other. refl; length = λ n is. is }

pub only_read_once : (k : Key) (old new : OpenedList) → new ≡ updated old k one_more_read → OnlyRead k old new
only_read_once k old new same = record { others = λ q other. updated_other new old k q one_more_read same other; length = λ n is. open_updated k old new one_more_read n n same (λ o e. e) is }

pub only_read_then : (k : Key) (a b c : OpenedList) → OnlyRead k a b → OnlyRead k b c → OnlyRead k a c
only_read_then k a b c first second = record { others = λ q other. second.others q other ∙ first.others q other; length = λ n is. second.length n (first.length n is) }

-- a blob that was just opened has the length that the call answered
pub open_entered : (k : Key) (old new : OpenedList) (n : ℕ) → new ≡ entered old k n → IsOpenAt new k n
open_entered k old new n same = subst (λ (e : Option Opened). IsSomeAnd e (λ o. o.len ≡ n)) (sym (ap (λ (o : OpenedList). o k) same ∙ put_same old k _)) refl

-- reads that are counted
pub reads_start : (n : ℕ) (k : Key) (o : OpenedList) → ReadsAtMost n k o o
reads_start n k o = record { others = λ q other. refl; length = λ m is. is; reads = omega arith }

pub reads_once : (k : Key) (old new : OpenedList) → new ≡ updated old k one_more_read → ReadsAtMost 1 k old new
reads_once k old new same = record {
  others = (only_read_once k old new same).others;
  length = (only_read_once k old new same).length;
  reads = subst (λ (e : Option Opened). reads_of e ≤ reads_of (old k) + 1) (sym (ap (λ (o : OpenedList). o k) same ∙ put_same old k _)) (more (old k));
}
  where
    more : (e : Option Opened) → reads_of (option_map one_more_read e) ≤ reads_of e + 1
    more None = omega arith
    more (Some x) = omega arith

pub reads_then : (k : Key) (m n l : ℕ) (a b c : OpenedList) → m + n ≤ l → ReadsAtMost m k a b → ReadsAtMost n k b c → ReadsAtMost l k a c
reads_then k m n l a b c le first second = record {
  others = λ q other. second.others q other ∙ first.others q other;
  length = λ x is. second.length x (first.length x is);
  reads = omega (arith, le, first.reads, second.reads);
}

pub reads_more : (k : Key) (m n : ℕ) (a b : OpenedList) → m ≤ n → ReadsAtMost m k a b → ReadsAtMost n k a b
reads_more k m n a b le first = record { others = first.others; length = first.length; reads = omega (arith, le, first.reads) }

pub only_read_of : (k : Key) (n : ℕ) (a b : OpenedList) → ReadsAtMost n k a b → OnlyRead k a b
only_read_of k n a b few = record { others = few.others; length = few.length }
