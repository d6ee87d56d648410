-- How much of a text was written, piece by piece.
use Rattle.std.proofs.Common.{◌≡◌, ℕ, ◌≤◌, List, [], ◌++◌, Result, Ok, Err, refl, sym, ap, ◌∙◌, arith}
use Rattle.blob_device.specs.Streams.{Faulted}
use Rattle.blob_device.specs.declared.io_fault.IoFault.{IoFault}
use Rattle.blob_device.specs.declared.io_fault.IoFault.TheVariants.{Fault}
use Rattle.blob_device.specs.declared.sink.Sink as sink
use Rattle.archive_program.specs.Output.{WritesOutput}

module _ {W : Type 0} (out : sink.Ghosts W) (first mid last : W) (text rest : List ℕ)
    (told : out.Tells → (written : List ℕ) × (text ≡ written ++ rest) × (out.taken mid ≡ out.taken first ++ written)) where
  -- nothing is left to be written
  pub all_written : (v : Unit {0}) → mid ≡ last → rest ≡ [] → (text ≡ [] → last ≡ first) → WritesOutput out (Ok v) first last text
  all_written v same none nothing = record {
    cause = λ is. absurd (cc is);
    nothing = λ nil. (refl, nothing nil);
    told = λ t. let so = told t in record {
      written = so.0;
      rest = rest;
      prefix = so.1;
      taken = ap out.taken (sym same) ∙ so.2;
      whole = none;
    };
  }

  -- a write failed
  pub part_written : {T : Type 0} (e : IoFault) → out.faults first ≤ out.faults mid → Faulted {T = T} (Err e) (out.faults mid) (out.faults last)
      → (out.Tells → out.taken last ≡ out.taken mid) → (rest ≡ [] → ⊥) → (text ≡ [] → rest ≡ []) → WritesOutput out (Err e) first last text
  part_written {T} e before faulted same some nothing = record {
    cause = λ is. omega (arith, before, faulted.cause (let this : e ≡ Fault = cc is in let err : IoFault → Result T IoFault = λ x. Err x in ap err this));
    nothing = λ nil. absurd (some (nothing nil));
    told = λ t. let so = told t in record {
      written = so.0;
      rest = rest;
      prefix = so.1;
      taken = same t ∙ so.2;
      whole = tt;
    };
  }
