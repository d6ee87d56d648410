-- Opening an opened blob again.
use Rattle.std.proofs.Common.{◌≡◌, ◌⊎◌, inl, inr, ℕ, cond, Bool, true, [], ◌∷◌, ◌++◌, length, Result, Ok, Err, Option, Some, None, IsSome, IsSomeAnd, OnOk, IsTrue, refl, sym, ◌∙◌, ap, subst}
use Rattle.std.specs.Prelude.{IfSome, OnErr, IfOk}
use Rattle.blob_device.specs.declared.error.DevError.{DevError}
use Rattle.blob_device.specs.Disk.{Key, Blob, Disk, settled_at}
use Rattle.blob_device.specs.Change.{Make, during, done, FailedTo}
use Rattle.blob_device.specs.Timeline.{Timeline, disk, Passes, OnlyAt}
use Rattle.blob_device.specs.Opened.{Opened, OpenedList, entered}
use Rattle.blob_device.specs.lemmas.Moments.{always_now, always_then, always_weaker, only_start, only_on, ok_blob, err_has}
use Rattle.blob_device.specs.lemmas.Puts.{put_other}
use Rattle.sealed_pages.specs.Entries.{IsOpenAt}
use Rattle.sealed_pages.specs.Reading.{Unchanged, OnlyRead}
use Rattle.sealed_pages.specs.Reopening.{OnlySettles, StaysOpen}
use Rattle.sealed_pages.specs.lemmas.Entries.{open_some, open_entered}
use Rattle.sealed_pages.specs.lemmas.looking.Looking.{content_length}

make_during : (b : Blob) → b.there ≡ true → during Make b ≡ b
make_during b there = ap (λ (t : Bool). cond t b (record b { content = []; unsure = true; since = b.since ++ [] ∷ [] })) there

make_done : (b : Blob) → b.there ≡ true → done Make b ≡ settled_at b.content
make_done b there = ap (λ (t : Bool). settled_at (cond t b.content [])) there

-- the blob of an entry is there
pub entry_there : (o : OpenedList) (k : Key) (b : Blob) → IfSome (o k) (λ x. (IsTrue b.there) × (length b.content ≡ x.len)) → IsSome (o k) → b.there ≡ true
entry_there o k b stands is = go (o k) stands is
  where
    go : (e : Option Opened) → IfSome e (λ x. (IsTrue b.there) × (length b.content ≡ x.len)) → IsSome e → b.there ≡ true
    go None stands is = absurd (cc is)
    go (Some x) stands is = stands.0

pub open_length : (k : Key) (old new : OpenedList) (r : Result ℕ DevError) → IfOk r (λ n. new ≡ entered old k n) → IfOk r (λ n. IsOpenAt new k n)
open_length k old new (Ok n) is = open_entered k old new n is
open_length k old new (Err e) is = tt

pub open_stays : (k : Key) (old new : OpenedList) (r : Result ℕ DevError) → IfOk r (λ n. new ≡ entered old k n) → OnErr r (new ≡ old) → IsSome (old k) → StaysOpen k old new
open_stays k old new (Ok n) is err was = record {
  others = λ q other. ap (λ (o : OpenedList). o q) is ∙ put_other old k _ q other;
  here = open_some new k n (open_entered k old new n is);
}
open_stays k old new (Err e) is err was = record { others = λ q other. ap (λ (o : OpenedList). o q) err; here = subst (λ (o : OpenedList). IsSome (o k)) (sym err) was }

pub open_settled : (k : Key) (r : Result ℕ DevError) (a b : Timeline) → Passes k Make r a b → (disk a k).there ≡ true → OnOk r (disk b k ≡ settled_at (disk a k).content)
open_settled k (Ok n) a b passes there = ok_blob k Make n a b passes ∙ make_done (disk a k) there
open_settled k (Err e) a b passes there = tt

pub open_settles : (k : Key) (r : Result ℕ DevError) (a b : Timeline) → Passes k Make r a b → (disk a k).there ≡ true → OnlySettles k a b
open_settles k r a b passes there = only_on a a b k (disk a) (λ x. (x ≡ disk a k) ⊎ (x ≡ settled_at (disk a k).content)) Make r
    (only_start a k (λ x. (x ≡ disk a k) ⊎ (x ≡ settled_at (disk a k).content)) (inl refl)) passes (inl (make_during (disk a k) there)) (after r passes)
  where
    failed : (x : Blob) → FailedTo Make (disk a k) x → (x ≡ disk a k) ⊎ (x ≡ settled_at (disk a k).content)
    failed x (inl is) = inl (is ∙ make_during (disk a k) there)
    failed x (inr is) = inl (is ∙ ap (λ (y : Blob). record y { there = true }) (make_during (disk a k) there) ∙ (λ t. record (disk a k) { there = sym there t }))

    after : (s : Result ℕ DevError) → Passes k Make s a b → (disk b k ≡ disk a k) ⊎ (disk b k ≡ settled_at (disk a k).content)
    after (Ok n) p = inr (open_settled k (Ok n) a b p there)
    after (Err e) p = err_has {T = ℕ} (λ x. (x ≡ disk a k) ⊎ (x ≡ settled_at (disk a k).content)) k Make e a b p (inl refl) failed

pub open_same_length : (k : Key) (old new : OpenedList) (r : Result ℕ DevError) (a b : Timeline) → Passes k Make r a b → IfOk r (λ n. new ≡ entered old k n) → OnErr r (new ≡ old) → IfOk r (λ n. n ≡ length (disk b k).content)
    → IfSome (old k) (λ x. (IsTrue (disk a k).there) × (length (disk a k).content ≡ x.len)) → (n : ℕ) → IsOpenAt old k n → IsOpenAt new k n
open_same_length k old new (Ok m) a b passes is err long stands n was =
    let there = entry_there old k (disk a k) stands (open_some old k n was) in
    let content : length (disk a k).content ≡ n = content_length old k n _ (disk a k).content stands was in
    let same : m ≡ n = long ∙ ap (λ (x : Blob). length x.content) (open_settled k (Ok m) a b passes there) ∙ content in
    subst (λ (x : ℕ). IsOpenAt new k x) same (open_entered k old new m is)
open_same_length k old new (Err e) a b passes is err long stands n was = subst (λ (o : OpenedList). IsOpenAt o k n) (sym err) was

-- reads after that
pub settles_then : (k : Key) (a b c : Timeline) → OnlySettles k a b → Unchanged b c → OnlySettles k a c
settles_then k a b c first second = always_then a b c _ first (always_weaker b c (λ d. d ≡ disk b) _ (λ d is. subst (λ (x : Disk). OnlyAt k (disk a) (λ y. (y ≡ disk a k) ⊎ (y ≡ settled_at (disk a k).content)) x) (sym is) (always_now a b _ first)) second)

pub stays_then : (k : Key) (a b c : OpenedList) → StaysOpen k a b → OnlyRead k b c → StaysOpen k a c
stays_then k a b c first second = record {
  others = λ q other. second.others q other ∙ first.others q other;
  here = go (b k) refl first.here;
}
  where
    go : (e : Option Opened) → b k ≡ e → IsSome e → IsSome (c k)
    go None is some = absurd (cc some)
    go (Some x) is some = open_some c k x.len (second.length x.len (subst (λ (e : Option Opened). IsSomeAnd e (λ o. o.len ≡ x.len)) (sym is) refl))
