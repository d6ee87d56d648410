use Rattle.std.proofs.Common.{◌≡◌, ℕ, List, inl, inr, None, refl, subst, sym, ap, ◌∙◌, arith}
use Rattle.std.specs.Prelude.{◌≢◌, ◌+◌, Bool, Option, IsSome, if◌then◌else◌}
use Rattle.std.specs.BTreeMap as tree
use Rattle.std.specs.BTreeSet as set
use Rattle.std.specs.Ordering.{nat_cmp}
use Rattle.std.specs.Map.{lookup}
use Rattle.sealed_pages.specs.Entries.{IsOpenAt}
use Rattle.sealed_pages.specs.declared.write_blob.WriteBlob.{WriteBlob}
use Rattle.ordinal_store.specs.Calls.{IsBlobOf}
use Rattle.ordinal_store.specs.Stores.{IsQuiet, sight}
use Rattle.ordinal_store.specs.Shown.{shown}
use Rattle.ordinal_store.specs.declared.ordinal.Error.TheVariants.{Mem}
use Rattle.ordinal_store.proofs.ranges.Compared.{other_stays}
use Rattle.ordinal_store.proofs.MendLemmas.{failed_of}
use Rattle.ordinal_store.proofs.SyncLemmas.{domain_kept, marks_kept, passed_same, sync_trail, synced_same}
use Rattle.ordinal_store.proofs.TrailLemmas.{failed_as, settling_refused, step_done, trail_start}
use Rattle.ordinal_store.proofs.store.Ordinal.sync_one.Goals as goal
use Rattle.ordinal_store.proofs.store.Ordinal.sync_one.Given.{Over}
use Rattle.ordinal_store.specs.declared.store.Ordinal.{Ordinal}
use Rattle.ordinal_store.specs.Stores.{Store}

-- what a store shows
abbrev show : (g : Over) → Ordinal g.row.A.Denot g.row.S.Denot → Store
show g = shown g.A.CodecFixed.SIZE g.S.Seal.seal_of g.A.Codec.refusal

pub returns-in_default : goal.returns-in_default
returns-in_default g c =
    let o = show g c.args.self in
    let v = sight g.D.Device c.args.dev.now in
    let none : tree.get nat_cmp c.args.self.buffers c.args.section ≡ None = sym c.remove-2.ensures.value ∙ c.in_default.is in
    let same : (t : ℕ) → tree.get nat_cmp c.remove-2.new.self t ≡ tree.get nat_cmp c.args.self.buffers t = λ t. ap (λ (es : List (ℕ × WriteBlob)). lookup (tree.is_at (nat_cmp t)) es) c.in_default.ensures.unchanged in
    let beside : (t : ℕ) → t ≢ c.args.section → set.contains nat_cmp c.remove.new.self t ≡ set.contains nat_cmp c.args.self.written t = λ t other. other_stays c.args.section t (set.contains nat_cmp c.args.self.written) (set.contains nat_cmp c.remove.new.self) c.remove.ensures.updates.2 other in
    record {
      stepping = step_done (show g) g.D.Device.Tells o (IsBlobOf o (λ t. t ≡ c.args.section)) v v _ _ refl (trail_start g.D.Device.Tells o.layout (IsQuiet o) (IsBlobOf o (λ t. t ≡ c.args.section)) v)
          (passed_same g.D.Device.Tells o c.args.section none v c.requires.usable (tree.get nat_cmp c.remove-2.new.self) same (set.contains nat_cmp c.remove.new.self) beside);
      domain = λ t is. subst (λ (x : Option WriteBlob). IsSome x) (same t) is;
      written = marks_kept (set.contains nat_cmp c.args.self.written) (set.contains nat_cmp c.remove.new.self) c.args.section c.remove.ensures.updates.1 beside;
      fewer = λ was. (let less : set.btree_set_len c.remove.new.self + 1 ≡ set.btree_set_len c.args.self.written =
          subst (λ (b : Bool). set.btree_set_len c.remove.new.self + (if b then 1 else 0) ≡ set.btree_set_len c.args.self.written) (c.remove.ensures.test ∙ was) c.remove.ensures.len in
          omega (arith, less));
    }

pub sync-requires : goal.sync-requires
sync-requires g c =
    let o = shown g.A.CodecFixed.SIZE g.S.Seal.seal_of g.A.Codec.refusal c.args.self in
    record { «open» = subst (λ k. IsOpenAt (g.D.Device.opened c.args.dev.now) k c.in-Some.buffer.end) (sym (c.requires.usable.key c.args.section c.in-Some.buffer (sym c.in-Some.ensures.value))) (c.requires.usable.is_open c.args.section c.in-Some.buffer (sym c.in-Some.ensures.value)) }

pub returns-in_err-buffer : goal.returns-in_err-buffer
returns-in_err-buffer g c =
    settling_refused (show g) g.D.Device.Tells (show g c.args.self) (λ r. set.btree_set_len r.written) (set.btree_set_len c.args.self.written) c.args.section (sight g.D.Device c.args.dev.now) (sight g.D.Device c.sync.new.dev) c.from_residual.result _ c.from_residual.ensures.1 (sync_trail g.D.Device.Tells (show g c.args.self) c.args.section c.in-Some.buffer (sym c.in-Some.ensures.value) (sight g.D.Device c.args.dev.now) (sight g.D.Device c.sync.new.dev) c.requires.usable c.sync.ensures.spares c.sync.ensures.since c.sync.ensures.entries c.sync.ensures.faults)
    (failed_as _ (sight g.D.Device c.args.dev.now) (sight g.D.Device c.args.dev.now) (sight g.D.Device c.sync.new.dev) (omega arith) (failed_of c.in_err-buffer.field-0.0 (sight g.D.Device c.args.dev.now) (sight g.D.Device c.sync.new.dev) (elim c.in_err-buffer.ensures.cause [ inl mem ↦ inl (cc mem) | inr fault ↦ inr (cc fault.0, fault.1) ])))

pub returns-in_err-insert : goal.returns-in_err-insert
returns-in_err-insert g c =
    settling_refused (show g) g.D.Device.Tells (show g c.args.self) (λ r. set.btree_set_len r.written) (set.btree_set_len c.args.self.written) c.args.section (sight g.D.Device c.args.dev.now) (sight g.D.Device c.sync.new.dev) c.from_residual-in_err-insert.result Mem c.from_residual-in_err-insert.ensures.1 (sync_trail g.D.Device.Tells (show g c.args.self) c.args.section c.in-Some.buffer (sym c.in-Some.ensures.value) (sight g.D.Device c.args.dev.now) (sight g.D.Device c.sync.new.dev) c.requires.usable c.sync.ensures.spares c.sync.ensures.since c.sync.ensures.entries c.sync.ensures.faults) (inl refl)

pub returns : goal.returns
returns g c =
    let o = show g c.args.self in
    let old = sight g.D.Device c.args.dev.now in
    let new = sight g.D.Device c.sync.new.dev in
    let hand = sym c.in-Some.ensures.value in
    let there : (t : ℕ) → t ≢ c.args.section → tree.get nat_cmp c.insert.new.self t ≡ tree.get nat_cmp c.args.self.buffers t = λ t other.
    other_stays c.args.section t (tree.get nat_cmp c.remove-2.new.self) (tree.get nat_cmp c.insert.new.self) c.in_ok-insert.ensures.updates.2 other
    ∙ other_stays c.args.section t (tree.get nat_cmp c.args.self.buffers) (tree.get nat_cmp c.remove-2.new.self) c.remove-2.ensures.updates.2 other in
    let beside : (t : ℕ) → t ≢ c.args.section → set.contains nat_cmp c.remove.new.self t ≡ set.contains nat_cmp c.args.self.written t = λ t other. other_stays c.args.section t (set.contains nat_cmp c.args.self.written) (set.contains nat_cmp c.remove.new.self) c.remove.ensures.updates.2 other in
    record {
      stepping = step_done (show g) g.D.Device.Tells o (IsBlobOf o (λ t. t ≡ c.args.section)) old new _ _ refl (sync_trail g.D.Device.Tells o c.args.section c.in-Some.buffer hand old new c.requires.usable c.sync.ensures.spares c.sync.ensures.since c.sync.ensures.entries c.sync.ensures.faults)
          (synced_same g.D.Device.Tells o c.args.section c.in-Some.buffer hand old new c.requires.usable c.sync.ensures.spares c.sync.ensures.since c.sync.ensures.entries c.sync.ensures.faults
          c.in_ok-buffer.buffer c.in_ok-buffer.ensures.same c.in_ok-buffer.ensures.idle c.in_ok-buffer.ensures.open c.in_ok-buffer.ensures.over c.in_ok-buffer.ensures.bytes
          (tree.get nat_cmp c.insert.new.self) c.in_ok-insert.ensures.updates.1 there (set.contains nat_cmp c.remove.new.self) beside);
      domain = domain_kept (tree.get nat_cmp c.args.self.buffers) (tree.get nat_cmp c.insert.new.self) c.args.section c.in-Some.buffer hand there;
      written = marks_kept (set.contains nat_cmp c.args.self.written) (set.contains nat_cmp c.remove.new.self) c.args.section c.remove.ensures.updates.1 beside;
      fewer = λ was. (let less : set.btree_set_len c.remove.new.self + 1 ≡ set.btree_set_len c.args.self.written =
          subst (λ (b : Bool). set.btree_set_len c.remove.new.self + (if b then 1 else 0) ≡ set.btree_set_len c.args.self.written) (c.remove.ensures.test ∙ was) c.remove.ensures.len in
          omega (arith, less));
    }
