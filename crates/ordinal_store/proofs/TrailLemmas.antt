-- What holds of a call so far, however it goes on; and how a failure of one call is that of the call around it.
use Rattle.std.specs.Prelude.{◌≡◌, ◌≢◌, ℕ, ◌≤◌, cond, nat_eq, List, Option, Some, Result, Ok, Err}
use Rattle.std.specs.Result.{IsErrAnd}
use Rattle.std.proofs.Common.{inl, inr, refl, sym, ◌∙◌, ap, subst, arith}
use Rattle.blob_device.specs.lemmas.Moments.{always_start, always_weaker}
use Rattle.blob_device.specs.Disk.{Key}
use Rattle.blob_device.specs.Timeline.{Always}
use Rattle.blob_device.specs.declared.runtime.RError.TheVariants as runtime
use Rattle.ordinal_store.specs.Calls.{HasFailed, IsBlobOf, Putting, StartsNoRead}
use Rattle.ordinal_store.specs.Durable.{Stays}
use Rattle.ordinal_store.specs.Numbers.{AddsNumber}
use Rattle.ordinal_store.specs.Ranges.{set_of}
use Rattle.ordinal_store.specs.Slots.{Layout, blob_of, section_of}
use Rattle.ordinal_store.specs.Steps.{SameSlots, Settling, Stepping}
use Rattle.ordinal_store.specs.Stores.{IsQuiet, IsUsable, Sight, Store, key_of, now}
use Rattle.ordinal_store.specs.declared.ordinal.Error.{Error}
use Rattle.ordinal_store.specs.declared.ordinal.Error.TheVariants.{Mem, Runtime}
use Rattle.ordinal_store.proofs.StepLemmas.{stays_start, stays_then}
use Rattle.blob_device.proofs.general.Results.{err_of}

-- what holds of a call so far
pub record Trail (told : Type 0) (l : Layout) (IsSpared : ℕ → Type 0) (MayTouch : Key → Type 0) (old new : Sight) : Type 0 where
  pub moments : told → Always old.time new.time (Stays l IsSpared MayTouch (now old))
  pub entries : (q : Key) → (MayTouch q → ⊥) → new.opened q ≡ old.opened q
  pub unread : StartsNoRead old.opened new.opened
  pub faults : old.faults ≤ new.faults

pub trail_start : (told : Type 0) (l : Layout) (A : ℕ → Type 0) (M : Key → Type 0) (v : Sight) → Trail told l A M v v
trail_start told l A M v = record {
  moments = λ t. always_start v.time (Stays l A M (now v)) (stays_start l A M (now v));
  entries = λ q out. refl;
  unread = λ q. omega arith;
  faults = omega arith;
}

pub trail_then : (told : Type 0) (l m : Layout) (A B : ℕ → Type 0) (M N : Key → Type 0) (a b c : Sight) → m ≡ l → ((i : ℕ) → A i → B i) → ((q : Key) → N q → M q) → Trail told l A M a b → Trail told m B N b c → Trail told l A M a c
trail_then told l m A B M N a b c same spared touched first second = record {
  moments = λ t. stays_then l A B M N a.time b.time c.time spared touched (first.moments t) (subst (λ (x : Layout). Always b.time c.time (Stays x B N (now b))) same (second.moments t));
  entries = λ q out. second.entries q (λ n. out (touched q n)) ∙ first.entries q out;
  unread = λ q. omega (arith, first.unread q, second.unread q);
  faults = omega (arith, first.faults, second.faults);
}

abbrev pub as_err : {T : Type 0} → Error → Result T Error
as_err e = Err e

-- a failure, as the call around it answers it
pub failed_as : {T U : Type 0} (e : Error) (old mid new : Sight) → old.faults ≤ mid.faults → HasFailed {T = T} (Err e) mid new → HasFailed {T = U} (Err e) old new
failed_as {T = T} {U = U} e old mid new earlier (inl mem) = let same : e ≡ Mem = cc mem in let f : Error → Result U Error = λ x. Err x in inl (ap f same)
failed_as {T = T} {U = U} e old mid new earlier (inr fault) =
    let same : e ≡ Runtime runtime.Fault = cc fault.0 in
    let f : Error → Result U Error = λ x. Err x in
    inr (ap f same, omega (arith, earlier, fault.1))

module _ {T : Type 0} (show : T → Store) (told : Type 0) (o : Store) where
  step_failed : (M : Key → Type 0) (old new : Sight) (e : Error) → Trail told o.layout (IsQuiet o) M old new → HasFailed {T = T} (Err e) old new → Stepping show told o M (Err e) old new
  step_failed M old new e trail why = record { kept = tt; moments = trail.moments; entries = trail.entries; unread = trail.unread; faults = trail.faults; cause = why }

  pub step_refused : (M : Key → Type 0) (old new : Sight) (result : Result T Error) (e : Error) → IsErrAnd result (λ x. x ≡ e) → Trail told o.layout (IsQuiet o) M old new → HasFailed {T = T} (Err e) old new → Stepping show told o M result old new
  step_refused M old new result e is trail why = subst (λ (r : Result T Error). Stepping show told o M r old new) (sym (err_of result e is)) (step_failed M old new e trail why)

  settling_failed : (size : T → ℕ) (before s : ℕ) (old new : Sight) (e : Error) → Trail told o.layout (IsQuiet o) (IsBlobOf o (λ t. t ≡ s)) old new → HasFailed {T = T} (Err e) old new → Settling show size told o before s (Err e) old new
  settling_failed size before s old new e trail why = record { stepping = step_failed (IsBlobOf o (λ t. t ≡ s)) old new e trail why; domain = tt; written = tt; fewer = λ was. tt }

  pub settling_refused : (size : T → ℕ) (before s : ℕ) (old new : Sight) (result : Result T Error) (e : Error) → IsErrAnd result (λ x. x ≡ e) → Trail told o.layout (IsQuiet o) (IsBlobOf o (λ t. t ≡ s)) old new → HasFailed {T = T} (Err e) old new
      → Settling show size told o before s result old new
  settling_refused size before s old new result e is trail why = subst (λ (r : Result T Error). Settling show size told o before s r old new) (sym (err_of result e is)) (settling_failed size before s old new e trail why)

  put_failed : (i : ℕ) (slot : List ℕ) (old new : Sight) (e : Error) → Trail told o.layout (λ j. (j ≢ i) × IsQuiet o j) (λ q. q ≡ key_of o (section_of o.layout i)) old new → HasFailed {T = T} (Err e) old new → Putting show told o i slot (Err e) old new
  put_failed i slot old new e trail why = record {
    same = tt;
    usable = tt;
    held = tt;
    slots = λ t. tt;
    quiet = tt;
    moments = trail.moments;
    entries = trail.entries;
    unread = trail.unread;
    faults = trail.faults;
    cause = why;
  }

  pub put_refused : (i : ℕ) (slot : List ℕ) (old new : Sight) (result : Result T Error) (e : Error) → IsErrAnd result (λ x. x ≡ e) → Trail told o.layout (λ j. (j ≢ i) × IsQuiet o j) (λ q. q ≡ key_of o (section_of o.layout i)) old new
      → HasFailed {T = T} (Err e) old new → Putting show told o i slot result old new
  put_refused i slot old new result e is trail why = subst (λ (r : Result T Error). Putting show told o i slot r old new) (sym (err_of result e is)) (put_failed i slot old new e trail why)

  -- nothing was done
  pub step_same : (M : Key → Type 0) (v : Sight) (r : T) → show r ≡ o → IsUsable o told v.opened (now v) → Stepping show told o M (Ok r) v v
  step_same M v r is usable =
      let trail : Trail told o.layout (IsQuiet o) M v v = trail_start told o.layout (IsQuiet o) M v in
      record {
        kept = subst (SameSlots told o v v) (sym is) (record { place = record { layout = refl; capacity = refl }; usable = usable; ranges = refl; slots = λ t j. refl; quiet = λ j quiet. quiet });
        moments = trail.moments;
        entries = trail.entries;
        unread = trail.unread;
        faults = trail.faults;
        cause = tt;
      }

  pub step_done : (M : Key → Type 0) (old new : Sight) (n : Store) (r : T) → show r ≡ n → Trail told o.layout (IsQuiet o) M old new → SameSlots told o old new n → Stepping show told o M (Ok r) old new
  step_done M old new n r is trail same = record {
    kept = subst (SameSlots told o old new) (sym is) same;
    moments = trail.moments;
    entries = trail.entries;
    unread = trail.unread;
    faults = trail.faults;
    cause = tt;
  }

  -- a step, and then a put
  module _ (i : ℕ) (slot : List ℕ) (old mid new : Sight) where
    abbrev Mine : Key → Type 0
    Mine q = q ≡ key_of o (section_of o.layout i)

    abbrev Others : ℕ → Type 0
    Others j = (j ≢ i) × IsQuiet o j

    pub spared_trail : Trail told o.layout (IsQuiet o) Mine old mid → Trail told o.layout Others Mine old mid
    spared_trail t = record {
      moments = λ x. always_weaker old.time mid.time (Stays o.layout (IsQuiet o) Mine (now old)) (Stays o.layout Others Mine (now old))
          (λ d stays. record { slots = λ j s other durable. stays.slots j s other.1 durable; bounded = stays.bounded; others = stays.others }) (t.moments x);
      entries = t.entries;
      unread = t.unread;
      faults = t.faults;
    }

    module _ (n : Store) (same : SameSlots told o old mid n) (first : Trail told o.layout (IsQuiet o) Mine old mid) where
      touched : (q : Key) → q ≡ key_of n (section_of n.layout i) → Mine q
      touched q is = is ∙ ap (λ (l : Layout). blob_of l (section_of l i)) same.place.layout

      both : Trail told n.layout (λ j. (j ≢ i) × IsQuiet n j) (λ q. q ≡ key_of n (section_of n.layout i)) mid new → Trail told o.layout Others Mine old new
      both second = trail_then told o.layout n.layout Others (λ j. (j ≢ i) × IsQuiet n j) Mine (λ q. q ≡ key_of n (section_of n.layout i)) old mid new same.place.layout (λ j other. (other.0, same.quiet j other.1)) touched (spared_trail first) second

      pub put_then : (r : Result T Error) → Putting show told n i slot r mid new → Putting show told o i slot r old new
      put_then (Err e) p = put_failed i slot old new e (both (record { moments = p.moments; entries = λ q out. p.entries q out; unread = p.unread; faults = p.faults })) (failed_as {T = T} {U = T} e old mid new first.faults p.cause)
      put_then (Ok r) p =
          let trail : Trail told o.layout Others Mine old new = both (record { moments = p.moments; entries = λ q out. p.entries q out; unread = p.unread; faults = p.faults }) in
          record {
            same = record { layout = p.same.layout ∙ same.place.layout; capacity = p.same.capacity ∙ same.place.capacity };
            usable = p.usable;
            held = subst (λ (x : List (ℕ × ℕ)). AddsNumber (set_of x) (set_of (show r).ranges) i) same.ranges p.held;
            slots = λ t j. p.slots t j ∙ ap (λ (x : Option (List ℕ)). cond (nat_eq j i) (Some slot) x) (same.slots t j);
            quiet = λ j other quiet. p.quiet j other (same.quiet j quiet);
            moments = trail.moments;
            entries = λ q other. trail.entries q other;
            unread = trail.unread;
            faults = trail.faults;
            cause = tt;
          }
