use Rattle.std.proofs.Common.{inl, inr, refl, sym, arith}
use Rattle.ordinal_store.proofs.store.Ordinal.restored_if_kept.Goals as goal

pub returns-then-not-is_kept : goal.returns-then-not-is_kept
returns-then-not-is_kept g c = inl ((λ wants. absurd (cc ((c.if-not-is_kept.ensures c.args.self.items c.requires.items).1 wants))), refl, refl)

pub returns-then-not-contains : goal.returns-then-not-contains
returns-then-not-contains g c = inr (inl ((c.if-not-is_kept.ensures c.args.self.items c.requires.items).0 refl, sym c.if-not-contains.ensures, refl, refl))

pub overflow_mul-result : goal.overflow_mul-result
overflow_mul-result g c =
    let kept = (c.if-not-is_kept.ensures c.args.self.items c.requires.items).0 refl in
    omega (arith, c.requires.fits kept.0 kept.1)

pub restored-requires : goal.restored-requires
restored-requires g c = record { items = c.requires.items; fits = c.requires.fits; kept = (c.if-not-is_kept.ensures c.args.self.items c.requires.items).0 refl }

pub returns : goal.returns
returns g c = inr (inr ((c.if-not-is_kept.ensures c.args.self.items c.requires.items).0 refl, sym c.if-not-contains.ensures, c.restored.ensures))
