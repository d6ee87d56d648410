use Rattle.std.proofs.Common.{◌≡◌, ◌+◌, ◌-◌, ◌*◌, ◌/◌, ◌<◌, ◌^◌, ℕ, List, sym, ap, ◌∙◌, subst, arith}
use Rattle.std.specs.Prelude.{string_bytes, Bool, true, Option, Some}
use Rattle.std.proofs.lemmas.Bool.{lt-ltb}
use Rattle.sealed_pages.specs.unsealed.Writing.{blob_key, shown, size_of}
use Rattle.ordinal_store.specs.Marking.{is_wanted}
use Rattle.ordinal_store.specs.Reopening.{Checking}
use Rattle.ordinal_store.specs.Slots.{stored_by}
use Rattle.ordinal_store.specs.Stores.{sight}
use Rattle.ordinal_store.proofs.CheckLemmas.{marked_ends}
use Rattle.ordinal_store.proofs.store.Ordinal.check_section.Goals as goal

pub check_full-requires : goal.check_full-requires
check_full-requires g c = record {
  items = c.requires.items;
  fits = (let all = subst (λ (m : Option (List Bool)). (p : ℕ) → is_wanted c.args.self.now.items (Some m) p ≡ true → c.args.wanted.0 * c.args.self.now.items + p < 2 ^ 64) c.in-None.is c.requires.fits in
      let last = all (c.args.self.now.items - 1) (lt-ltb (c.args.self.now.items - 1) c.args.self.now.items (omega (arith, c.requires.items))) in
      omega (arith, last, c.requires.items));
  ready = c.requires.ready;
}

pub check_marked-requires : goal.check_marked-requires
check_marked-requires g c = subst (λ (m : Option (List Bool)). (p : ℕ) → is_wanted c.args.self.now.items (Some m) p ≡ true → c.args.wanted.0 * c.args.self.now.items + p < 2 ^ 64) c.in-Some.is c.requires.fits

pub returns-in-None : goal.returns-in-None
returns-in-None g c = subst (λ (m : Option (List Bool)). Checking g.D.Device.Tells (stored_by (string_bytes c.args.self.now.partition) c.args.self.now.items g.A.CodecFixed.SIZE g.S.Seal.seal_of g.A.Codec.refusal) c.args.wanted.0 m (blob_key (shown c.args.buffer.now)) c.args.buffer.now c.check_full.result
    (sight g.D.Device c.args.dev.now) (sight g.D.Device c.check_full.new.dev)) (sym c.in-None.is) c.check_full.ensures

pub returns-in-Some : goal.returns-in-Some
returns-in-Some g c =
    let l = stored_by (string_bytes c.args.self.now.partition) c.args.self.now.items g.A.CodecFixed.SIZE g.S.Seal.seal_of g.A.Codec.refusal in
    let u = c.args.buffer.now in
    let old = sight g.D.Device c.args.dev.now in
    let count = c.size.result / (c.SIZE.result + 4) in
    let counted = ap (λ (n : ℕ). n / (c.SIZE.result + 4)) c.size.ensures ∙ ap (λ (n : ℕ). size_of (shown u) / (n + 4)) c.SIZE.ensures in
    subst (λ (m : Option (List Bool)). Checking g.D.Device.Tells l c.args.wanted.0 m (blob_key (shown u)) u c.check_marked.result old old) (sym c.in-Some.is)
    (marked_ends g.D.Device.Tells l c.args.wanted.0 u old c.requires.ready count counted c.in-Some.bits c.check_marked.result c.check_marked.ensures)
