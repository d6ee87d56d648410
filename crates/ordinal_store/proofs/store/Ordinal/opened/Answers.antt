use Rattle.std.proofs.Common.{◌≡◌, ◌<◌, ◌^◌, ℕ, List, inl, inr, map, refl, sym, ap, ◌∙◌, subst, arith}
use Rattle.std.specs.BTreeMap.{get}
use Rattle.std.specs.Int.{w64, to_be_bytes}
use Rattle.std.specs.Ordering.{nat_cmp}
use Rattle.std.specs.Prelude.{◌↔◌, ◌≤◌, ◌+◌, ◌*◌, IsTrue, true, Ok, Err, string_bytes}
use Rattle.ordinal_store.specs.Reopening.{Listing}
use Rattle.ordinal_store.specs.Shown.{shown}
use Rattle.ordinal_store.specs.Marking.{IsKept, is_wanted}
use Rattle.ordinal_store.specs.Restoring.{RestoringAll}
use Rattle.ordinal_store.specs.Slots.{Layout, blob_of, stored_by}
use Rattle.ordinal_store.specs.Stores.{now, sight}
use Rattle.std.specs.BTreeSet.{contains}
use Rattle.std.proofs.lemmas.Bool.{cases_lt}
use Rattle.ordinal_store.specs.declared.ordinal.Error.TheVariants.{InvalidBlobName}
use Rattle.ordinal_store.proofs.OpenLemmas.{early_failed, early_full, early_named, late_failed, restored_all, there_of, way_emptied}
use Rattle.blob_device.specs.lemmas.Moments.{always_now}
use Rattle.blob_device.specs.Disk.{AreNamesIn, Disk}
use Rattle.std.specs.List.{Contains}
use Rattle.ordinal_store.proofs.TrailLemmas.{as_err, failed_as}
use Rattle.ordinal_store.proofs.store.Ordinal.opened.Goals as goal
use Rattle.ordinal_store.proofs.store.Ordinal.opened.Given.{Over}
use Rattle.ordinal_store.specs.declared.ordinal.Config.{Config}
use Rattle.ordinal_store.specs.declared.store.Ordinal.{Ordinal}
use Rattle.ordinal_store.specs.Stores.{Store}
use Rattle.blob_device.proofs.general.Results.{err_of}

-- what a store shows
abbrev show : (g : Over) → Ordinal g.row.A.Denot g.row.S.Denot → Store
show g = shown g.A.CodecFixed.SIZE g.S.Seal.seal_of g.A.Codec.refusal

-- how the configuration says that values are stored
abbrev place : (g : Over) → Config → Layout
place g cfg = stored_by (string_bytes cfg.partition) cfg.items_per_blob g.A.CodecFixed.SIZE g.S.Seal.seal_of g.A.Codec.refusal

pub returns-in_err-numbers : goal.returns-in_err-numbers
returns-in_err-numbers g c =
    let listing = subst (λ (p : List ℕ). Listing (λ r. r.items) g.D.Device.Tells p (Err c.in_err-numbers.field-0.0) (sight g.D.Device c.args.dev.now) (sight g.D.Device c.listed.new.dev)) c.as_str-partition.ensures.value c.in_err-numbers.ensures in
    elim listing.cause [
      | inl (n, is) ↦ early_named (show g) g.D.Device.Tells (place g c.args.cfg.now) (get nat_cmp c.args.map.now) c.args.cfg.now.write_buffer (sight g.D.Device c.args.dev.now) (sight g.D.Device c.listed.new.dev) listing.unchanged listing.opened listing.faults c.from_residual.result n (let at : c.in_err-numbers.field-0.0 ≡ InvalidBlobName n = cc is in err_of c.from_residual.result c.in_err-numbers.field-0.0 c.from_residual.ensures.1 ∙ ap as_err at)
          (λ t. listing.foreign t n is) (listing.size n is)
      | inr why ↦ early_failed (show g) g.D.Device.Tells (place g c.args.cfg.now) (get nat_cmp c.args.map.now) c.args.cfg.now.write_buffer (sight g.D.Device c.args.dev.now) (sight g.D.Device c.listed.new.dev) listing.unchanged listing.opened listing.faults c.from_residual.result c.in_err-numbers.field-0.0 c.from_residual.ensures.1 (failed_as c.in_err-numbers.field-0.0 (sight g.D.Device c.args.dev.now) (sight g.D.Device c.args.dev.now) (sight g.D.Device c.listed.new.dev) (omega arith) why)
    ]

pub returns-in_err-check_numbers : goal.returns-in_err-check_numbers
returns-in_err-check_numbers g c =
    let listing = subst (λ (p : List ℕ). Listing (λ r. r.items) g.D.Device.Tells p (Ok c.in_ok-numbers.numbers) (sight g.D.Device c.args.dev.now) (sight g.D.Device c.listed.new.dev)) c.as_str-partition.ensures.value c.in_ok-numbers.ensures in
    let past = c.in_err-check_numbers.ensures (place g c.args.cfg.now) refl in
    early_full (show g) g.D.Device.Tells (place g c.args.cfg.now) (get nat_cmp c.args.map.now) c.args.cfg.now.write_buffer (sight g.D.Device c.args.dev.now) c.in_ok-numbers.numbers.items listing.names listing.small (sight g.D.Device c.listed.new.dev) listing.unchanged listing.opened listing.faults c.from_residual-in_err-check_numbers.result
    (err_of c.from_residual-in_err-check_numbers.result c.in_err-check_numbers.field-0.0 c.from_residual-in_err-check_numbers.ensures.1 ∙ ap as_err past.1) past.0

pub returns-in_err-there : goal.returns-in_err-there
returns-in_err-there g c =
    early_failed (shown g.A.CodecFixed.SIZE g.S.Seal.seal_of g.A.Codec.refusal) g.D.Device.Tells (stored_by (string_bytes c.args.cfg.now.partition) c.args.cfg.now.items_per_blob g.A.CodecFixed.SIZE g.S.Seal.seal_of g.A.Codec.refusal) (get nat_cmp c.args.map.now) c.args.cfg.now.write_buffer
    (sight g.D.Device c.args.dev.now) (sight g.D.Device c.listed.new.dev) c.listed.ensures.unchanged c.listed.ensures.opened c.listed.ensures.faults c.from_residual-in_err-there.result c.in_err-there.field-0.0 c.from_residual-in_err-there.ensures.1 (inl (cc c.in_err-there.ensures.cause))

pub returns-in_err-this : goal.returns-in_err-this
returns-in_err-this g c =
    early_failed (shown g.A.CodecFixed.SIZE g.S.Seal.seal_of g.A.Codec.refusal) g.D.Device.Tells (stored_by (string_bytes c.args.cfg.now.partition) c.args.cfg.now.items_per_blob g.A.CodecFixed.SIZE g.S.Seal.seal_of g.A.Codec.refusal) (get nat_cmp c.args.map.now) c.args.cfg.now.write_buffer
    (sight g.D.Device c.args.dev.now) (sight g.D.Device c.listed.new.dev) c.listed.ensures.unchanged c.listed.ensures.opened c.listed.ensures.faults c.from_residual-in_err-this.result c.in_err-this.field-0.0 c.from_residual-in_err-this.ensures.1 (inl c.in_err-this.ensures.cause)

pub remove_unkept-requires : goal.remove_unkept-requires
remove_unkept-requires g c =
    let part = c.as_str-partition.result.now in
    record {
      named = λ t. subst (λ (d : Disk). AreNamesIn d part (map (to_be_bytes w64) c.as_slice-2.result.now)) (sym (always_now (sight g.D.Device c.args.dev.now).time (sight g.D.Device c.listed.new.dev).time (λ d. d ≡ now (sight g.D.Device c.args.dev.now)) (c.listed.ensures.unchanged t)))
          (subst (λ (ns : List ℕ). AreNamesIn (now (sight g.D.Device c.args.dev.now)) part (map (to_be_bytes w64) ns)) (sym c.as_slice-2.ensures.value) (c.in_ok-numbers.ensures.names t));
    }

pub returns-in_err-remove_unkept : goal.returns-in_err-remove_unkept
returns-in_err-remove_unkept g c =
    let listing = subst (λ (p : List ℕ). Listing (λ r. r.items) g.D.Device.Tells p (Ok c.in_ok-numbers.numbers) (sight g.D.Device c.args.dev.now) (sight g.D.Device c.listed.new.dev)) c.as_str-partition.ensures.value c.in_ok-numbers.ensures in
    let emptying = c.in_err-remove_unkept.ensures (place g c.args.cfg.now) (sym c.as_str-partition.ensures.value) c.requires.items.0 in
    late_failed (show g) g.D.Device.Tells (place g c.args.cfg.now) (get nat_cmp c.args.map.now) c.args.cfg.now.write_buffer (sight g.D.Device c.args.dev.now) c.in_ok-numbers.numbers.items listing.names listing.small (c.in_ok-check_numbers.ensures (place g c.args.cfg.now) refl) (sight g.D.Device c.remove_unkept.new.dev)
    (way_emptied (show g) g.D.Device.Tells (place g c.args.cfg.now) (get nat_cmp c.args.map.now) c.args.cfg.now.write_buffer (sight g.D.Device c.args.dev.now) c.in_ok-numbers.numbers.items listing.names listing.small (c.in_ok-check_numbers.ensures (place g c.args.cfg.now) refl) (sight g.D.Device c.listed.new.dev) listing.unchanged listing.opened listing.faults (sight g.D.Device c.remove_unkept.new.dev) emptying.goes)
    c.from_residual-in_err-remove_unkept.result c.in_err-remove_unkept.field-0.0 c.from_residual-in_err-remove_unkept.ensures.1 (failed_as c.in_err-remove_unkept.field-0.0 (sight g.D.Device c.args.dev.now) (sight g.D.Device c.listed.new.dev) (sight g.D.Device c.remove_unkept.new.dev) listing.faults emptying.cause)

pub restore_all-requires : goal.restore_all-requires
restore_all-requires g c =
    let listing = subst (λ (p : List ℕ). Listing (λ r. r.items) g.D.Device.Tells p (Ok c.in_ok-numbers.numbers) (sight g.D.Device c.args.dev.now) (sight g.D.Device c.listed.new.dev)) c.as_str-partition.ensures.value c.in_ok-numbers.ensures in
    let not_past = c.in_ok-check_numbers.ensures (place g c.args.cfg.now) refl in
    let empty = c.in_ok-this.ensures.empty in
    let each = subst (λ (ns : List ℕ). (s : ℕ) → IsTrue (contains nat_cmp c.in_ok-there.there s) ↔ Contains ns s) c.as_slice.ensures.value c.in_ok-there.ensures.each in
    let listed = there_of (show g) g.D.Device.Tells (place g c.args.cfg.now) (get nat_cmp c.args.map.now) c.args.cfg.now.write_buffer (sight g.D.Device c.args.dev.now) c.in_ok-numbers.numbers.items listing.names listing.small not_past (sight g.D.Device c.listed.new.dev) listing.unchanged listing.opened listing.faults (sight g.D.Device c.remove_unkept.new.dev) (c.in_ok-remove_unkept.ensures (place g c.args.cfg.now) (sym c.as_str-partition.ensures.value) c.requires.items.0) in
    record {
      items = subst (λ (x : Layout). 1 ≤ x.items) (sym empty.layout_is) c.requires.items.0;
      fits = subst (λ (x : Layout). (s p : ℕ) → s < 2 ^ 64 → is_wanted x.items ((get nat_cmp c.args.map.now) s) p ≡ true → s * x.items + p < 2 ^ 64) (sym empty.layout_is) (λ s p s_small wanted. elim (cases_lt (s * (place g c.args.cfg.now).items + p) (2 ^ 64)) [
        | inl below ↦ below
        | inr past ↦ absurd (not_past (s, p, (s_small, wanted), omega (arith, past)))
      ]);
      there = subst (λ (x : Layout). g.D.Device.Tells → (s : ℕ) → IsKept x (get nat_cmp c.args.map.now) s → IsTrue (contains nat_cmp c.in_ok-there.there s) ↔ IsTrue (now (sight g.D.Device c.remove_unkept.new.dev) (blob_of x s)).there) (sym empty.layout_is)
          (λ t s kept. (λ has. (listed t s kept).0 ((each s).0 has), λ there. (each s).1 ((listed t s kept).1 there)));
      empty = record { layout_is = refl; capacity_is = refl; ranges_none = empty.ranges_none; buffers_none = empty.buffers_none; written_none = empty.written_none };
    }

pub returns : goal.returns
returns g c =
    let listing = subst (λ (p : List ℕ). Listing (λ r. r.items) g.D.Device.Tells p (Ok c.in_ok-numbers.numbers) (sight g.D.Device c.args.dev.now) (sight g.D.Device c.listed.new.dev)) c.as_str-partition.ensures.value c.in_ok-numbers.ensures in
    restored_all (show g) g.D.Device.Tells (place g c.args.cfg.now) (get nat_cmp c.args.map.now) c.args.cfg.now.write_buffer (sight g.D.Device c.args.dev.now) c.in_ok-numbers.numbers.items listing.names listing.small (c.in_ok-check_numbers.ensures (place g c.args.cfg.now) refl) (sight g.D.Device c.listed.new.dev) listing.unchanged listing.opened listing.faults (sight g.D.Device c.remove_unkept.new.dev) (c.in_ok-remove_unkept.ensures (place g c.args.cfg.now) (sym c.as_str-partition.ensures.value) c.requires.items.0)
    (sight g.D.Device c.restore_all.new.dev) c.requires.items (g.met.A.CodecFixed.fixed.at_least, g.met.A.CodecFixed.fixed.at_most) c.restore_all.result
    (subst (λ (n : ℕ). RestoringAll g.D.Device.Tells (place g c.args.cfg.now) n (get nat_cmp c.args.map.now) (sight g.D.Device c.remove_unkept.new.dev) (show g) c.restore_all.result (sight g.D.Device c.restore_all.new.dev)) c.in_ok-this.ensures.empty.capacity_is
    (subst (λ (x : Layout). RestoringAll g.D.Device.Tells x c.in_ok-this.this.capacity (get nat_cmp c.args.map.now) (sight g.D.Device c.remove_unkept.new.dev) (show g) c.restore_all.result (sight g.D.Device c.restore_all.new.dev)) c.in_ok-this.ensures.empty.layout_is c.restore_all.ensures))
