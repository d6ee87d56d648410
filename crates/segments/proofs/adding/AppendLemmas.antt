-- When a section is full, and errors and clauses of an append by other names.
use Rattle.std.proofs.Common.{◌≡◌, inl, inr, ℕ, ◌+◌, ◌-◌, ◌/◌, ◌^◌, ◌<◌, ◌≤◌, Bool, true, false, cond, List, [], ◌∷◌, ◌++◌, IsTrue, Result, Ok, Err, IfOk, refl, sym, ◌∙◌, ap, subst, arith}
use Rattle.std.specs.Result.{MatchResult}
use Rattle.std.proofs.Math.Nat.{div-le_self, mul-le-mul_right}
use Rattle.blob_device.specs.declared.runtime.RError.{RError}
use Rattle.blob_device.specs.declared.runtime.RError.TheVariants as runtime
use Rattle.blob_device.specs.Disk.{Key, Blob}
use Rattle.blob_device.specs.Timeline.{Timeline, disk}
use Rattle.sealed_pages.specs.Buffer.{Buffer, extent, bytes_of, IsSealed}
use Rattle.sealed_pages.specs.ChanceSeal.{Sealing}
use Rattle.sealed_pages.specs.Unrecovered.{IsAdopted, IsUnrecovered}
use Rattle.sealed_pages.specs.View.{page_at}
use Rattle.section_manager.specs.declared.journal.Error.TheVariants.{Full}
use Rattle.section_manager.specs.Lasting.{IsOpening}
use Rattle.section_manager.specs.Setting.{Setting}
use Rattle.segments.specs.FixedFull.{full_or_raised_of}
use Rattle.segments.specs.lemmas.adding.Append.{made_empty}

-- one that is being made is empty as soon as it is there
opening_empty : (from b : Blob) → from.there ≡ false → IsTrue b.there → IsOpening from b → b.content ≡ []
opening_empty from b not there (inl same) = absurd (cc (ap (λ (x : Blob). x.there) same, not, there))
opening_empty from b not there (inr (inl (inl under))) = ap (λ (x : Blob). x.content) under ∙ ap (λ (t : Bool). (cond t from (record from { content = []; unsure = true; since = from.since ++ [] ∷ [] })).content) not
opening_empty from b not there (inr (inl (inr under))) = ap (λ (x : Blob). x.content) under ∙ ap (λ (t : Bool). (cond t from (record from { content = []; unsure = true; since = from.since ++ [] ∷ [] })).content) not
opening_empty from b not there (inr (inr made)) = made_empty from b not made

-- a first item fits in any blob
pub first_fits : (P n : ℕ) → 1 ≤ P → P < 2 ^ 16 → n ≤ 65535 → extent P n < 2 ^ 64
unfolding page_at
first_fits P n pos small few =
    let pages : (n + (P - 1)) / P ≤ 131072 = omega (arith, div-le_self (n + (P - 1)) P, small, few) in
    omega (arith, small, mul-le-mul_right (P + 12) pages)

-- a result whose error was mapped
abbrev pub answer : {T : Type 0} (D : Type 0) → T → Result T D
answer D v = Ok v

abbrev pub refusal : (T : Type 0) {D : Type 0} → D → Result T D
refusal T e = Err e

pub was_ok : {T E : Type 0} (D : Type 0) (r : Result T E) (v : T) → MatchResult r (λ x. answer D v ≡ Ok x) (λ e. ⊥) → r ≡ Ok v
was_ok D (Ok x) v is = (let same : v ≡ x = cc is in ap Ok (sym same))
was_ok D (Err e) v is = absurd is

pub was_err : {T E D : Type 0} (r : Result T E) (y : D) (f : E → D) → MatchResult r (λ x. refusal T y ≡ Ok x) (λ e. y ≡ f e) → (e : E) × (r ≡ Err e) × (y ≡ f e)
was_err (Ok x) y f is = absurd (cc is)
was_err (Err e) y f is = (e, refl, is)

pub at_ok : {T E : Type 0} (r : Result T E) (v : T) (P : T → Type 0) → r ≡ Ok v → IfOk r P → P v
at_ok {T = T} {E = E} r v P is has = subst (λ (x : Result T E). IfOk x P) is has

-- a section is full by its length alone
pub full_is : (e : RError) → full_or_raised_of e ≡ Full → e ≡ runtime.OffsetOverflow
full_is runtime.OffsetOverflow is = refl
full_is runtime.Mem is = absurd (cc is)
full_is e is = absurd (cc is)

-- what stands over its blob does so after a call that keeps it sealed, or else with its sealed prefix
pub appended_adopted : (seal : List ℕ → ℕ) (u v : Buffer) (b c : Blob) → (IsSealed seal u b → IsSealed seal v c) → (IsUnrecovered seal u b → IsUnrecovered seal v c) → IsAdopted seal u b → IsAdopted seal v c
appended_adopted seal u v b c sealed un is = elim is [ inl has ↦ inl (sealed has) | inr has ↦ inr (un has) ]

-- what buffers are made with, part by part
abbrev pub setting_of : ℕ → ℕ → ℕ → Setting
setting_of p m c = record { page_size = p; capacity = m; cache_pages = c }

pub same_setting : (p q m n c d : ℕ) → p ≡ q → m ≡ n → c ≡ d → setting_of p m c ≡ setting_of q n d
same_setting p q m n c d page capacity cache = λ i. setting_of (page i) (capacity i) (cache i)

-- the clause on crashes, by another name of the blob and of the bytes
pub crashes_as : (seal : List ℕ → ℕ) (u : Buffer) (key k : Key) (bytes more : List ℕ) (a b : Timeline) → key ≡ k → bytes ≡ more → IsSealed seal u (disk a k)
    → (IsSealed seal u (disk a key) → Sealing seal u.page_size (bytes_of u (disk a key).content ++ bytes) u.settled key a b) → Sealing seal u.page_size (bytes_of u (disk a k).content ++ more) u.settled k a b
crashes_as seal u key k bytes more a b here same sealed crashes =
    subst (λ (l : List ℕ). Sealing seal u.page_size (bytes_of u (disk a k).content ++ l) u.settled k a b) same
    (subst (λ (q : Key). Sealing seal u.page_size (bytes_of u (disk a q).content ++ bytes) u.settled q a b) here (crashes (subst (λ (q : Key). IsSealed seal u (disk a q)) (sym here) sealed)))
