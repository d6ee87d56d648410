-- What a lookup of a held index answers, case by case.
use Rattle.std.proofs.Common.{◌≡◌, ◌⊎◌, inl, inr, ℕ, ◌≤◌, List, [], Bool, true, false, cond, Option, Some, None, Result, Ok, Err, refl, sym, ◌∙◌, ap, subst, arith}
use Rattle.std.specs.Prelude.{option_map, unwrap_or}
use Rattle.blob_device.specs.Counts.{Rose}
use Rattle.blob_device.specs.lemmas.Moments.{always_now, always_start}
use Rattle.blob_device.specs.Disk.{Disk, Key}
use Rattle.blob_device.specs.declared.runtime.RError.TheVariants as runtime
use Rattle.sealed_pages.specs.declared.write_blob.WriteBlob.{WriteBlob}
use Rattle.sealed_pages.specs.Entries.{ReadsAtMost}
use Rattle.sealed_pages.specs.Reading.{Unchanged}
use Rattle.sealed_pages.specs.lemmas.Entries.{reads_start}
use Rattle.sealed_pages.specs.unsealed.Writing.{blob_key, bytes_of, shown}
use Rattle.ordinal_store.specs.Calls.{Getting}
use Rattle.ordinal_store.specs.Slots.{HasValue, IsSealed, part_at, place_of, position_of, section_of, slot_at, slot_size}
use Rattle.ordinal_store.specs.Stores.{IsUsable, Sight, Store, has, key_of, now, slots_of}
use Rattle.ordinal_store.specs.declared.ordinal.Error.{Error}
use Rattle.ordinal_store.specs.declared.ordinal.Error.TheVariants.{InvalidRecord, Mem, Runtime}
use Rattle.ordinal_store.proofs.FrameLemmas.{read_lengths, usable_on}

-- what is read at the slot's place through its section's buffer is the slot
pub slot_read : (o : Store) (d : Disk) (i : ℕ) (u : WriteBlob) (slot : List ℕ) → has o i ≡ true → o.buffers (section_of o.layout i) ≡ Some u → blob_key (shown u) ≡ key_of o (section_of o.layout i)
    → slot ≡ part_at (bytes_of (shown u) (d (blob_key (shown u))).content) (place_of o.layout i) (slot_size o.layout) → slots_of o d i ≡ Some slot
slot_read o d i u slot is_held at key read =
    let bytes : Option WriteBlob → List ℕ = λ (b : Option WriteBlob). unwrap_or (option_map (λ w. bytes_of (shown w) (d (key_of o (section_of o.layout i))).content) b) [] in
    let of_slot : List ℕ → List ℕ = λ (c : List ℕ). slot_at (slot_size o.layout) c (position_of o.layout i) in
    ap (λ (b : Bool). cond b (Some (of_slot (bytes (o.buffers (section_of o.layout i))))) None) is_held
    ∙ ap (λ (b : Option WriteBlob). Some (of_slot (bytes b))) at
    ∙ ap (λ (k : Key). Some (of_slot (bytes_of (shown u) (d k).content))) (sym key)
    ∙ ap (λ (x : List ℕ). Some x) (sym read)

-- an index that is not held has no value, and nothing is done for that answer
pub got_none : {V : Type 0} (told : Type 0) (o : Store) (spelling : V → List ℕ) (i : ℕ) (v : Sight) → has o i ≡ false → IsUsable o told v.opened (now v) → Getting told o spelling i (Ok None) v v
got_none told o spelling i v out usable = record {
  absent = (λ same. out, λ other. refl);
  found = λ t w same. absurd (cc same);
  invalid = λ t other. absurd (cc other);
  usable = usable;
  unchanged = λ t. always_start v.time (λ d. d ≡ now v) refl;
  reads = reads_start 1 (key_of o (section_of o.layout i)) v.opened;
  faults = omega arith;
  cause = tt;
}

module _ {V : Type 0} (told : Type 0) (o : Store) (spelling : V → List ℕ) (i : ℕ) (old new : Sight) (is_held : has o i ≡ true) (usable : IsUsable o told old.opened (now old)) (unchanged : told → Unchanged old.time new.time)
    (reads : ReadsAtMost 1 (key_of o (section_of o.layout i)) old.opened new.opened) (faults : old.faults ≤ new.faults) where
  usable_new : IsUsable o told new.opened (now new)
  usable_new = usable_on told o old.opened new.opened (now old) (now new) (read_lengths 1 (key_of o (section_of o.layout i)) old.opened new.opened reads) (λ t. always_now old.time new.time (λ d. d ≡ now old) (unchanged t)) usable

  abbrev failure : Error → Result (Option V) Error
  failure e = Err e

  abbrev success : V → Result (Option V) Error
  success v = Ok (Some v)

  of_err : (e : Error) → (e ≡ Mem) ⊎ ((e ≡ Runtime runtime.Fault) × Rose old.faults new.faults) → Getting told o spelling i (failure e) old new
  of_err e why = record {
    absent = (λ same. absurd (cc same), λ out. absurd (cc (is_held, out)));
    found = λ t v same. absurd (cc same);
    invalid = λ t other. elim why [
      | inl mem ↦ absurd (cc (other, mem))
      | inr fault ↦ absurd (cc (other, fault.0))
    ];
    usable = usable_new;
    unchanged = unchanged;
    reads = reads;
    faults = faults;
    cause = inr (elim why [ inl mem ↦ inl (ap failure mem) | inr fault ↦ inr (ap failure fault.0, fault.1) ]);
  }

  pub got_failed : (result : Result (Option V) Error) (e : Error) → result ≡ failure e → (e ≡ Mem) ⊎ ((e ≡ Runtime runtime.Fault) × Rose old.faults new.faults) → Getting told o spelling i result old new
  got_failed result e is why = subst (λ (r : Result (Option V) Error). Getting told o spelling i r old new) (sym is) (of_err e why)

  pub got_value : (v : V) (slot : List ℕ) → (told → slots_of o (now old) i ≡ Some slot) → IsSealed o.layout slot (spelling v) → Getting told o spelling i (success v) old new
  got_value v slot stored sealed = record {
    absent = (λ same. absurd (cc same), λ out. absurd (cc (is_held, out)));
    found = λ t w same. (slot, stored t, subst (λ (x : V). IsSealed o.layout slot (spelling x)) (cc same) sealed);
    invalid = λ t other. absurd (cc other);
    usable = usable_new;
    unchanged = unchanged;
    reads = reads;
    faults = faults;
    cause = tt;
  }

  pub got_invalid : (slot : List ℕ) → (told → slots_of o (now old) i ≡ Some slot) → (HasValue o.layout slot → ⊥) → Getting told o spelling i (failure (InvalidRecord i)) old new
  got_invalid slot stored none = record {
    absent = (λ same. absurd (cc same), λ out. absurd (cc (is_held, out)));
    found = λ t v same. absurd (cc same);
    invalid = λ t here. (slot, stored t, none);
    usable = usable_new;
    unchanged = unchanged;
    reads = reads;
    faults = faults;
    cause = inl refl;
  }
