use Rattle.std.proofs.Common.{◌≡◌, ◌∙◌, sym, ap, subst, ⊎_elim, Some}
use Rattle.std.specs.Prelude.{unwrap_or}
use Rattle.std.specs.BTreeMap.{get}
use Rattle.std.specs.Ordering.{nat_cmp}
use Rattle.std.proofs.lemmas.Bool.{cases_eq}
use Rattle.paired.specs.Kept.{marker_of}
use Rattle.paired.proofs.tracking.Lemmas.{marker_at, apart}
use Rattle.paired.proofs.oversized.tracking.Tracking.synced.Goals as goal

pub returns-then-unwrap_or-len-clause-here : goal.returns-then-unwrap_or-len-clause-here
returns-then-unwrap_or-len-clause-here g c =
    let es = c.args.self.now.metadata.entries.entries in
    let is : marker_of es c.args.section ≡ c.unwrap_or.result =
    marker_at es c.marker_key.result c.args.section c.ranges.section.fits c.marker_key.ensures
    ∙ ap (λ o. unwrap_or o 0) (sym c.get-marker.ensures ∙ sym c.copied.ensures) ∙ sym c.unwrap_or.ensures in
    ap (λ o. unwrap_or o (marker_of es c.args.section)) c.remove.ensures.updates.1 ∙ is ∙ c.if-unwrap_or-len.true

pub returns-in_ok-insert-clause-trails : goal.returns-in_ok-insert-clause-trails
returns-in_ok-insert-clause-trails g c s n has same =
    let es = c.args.self.now.metadata.entries.entries in
    let is : marker_of es c.args.section ≡ c.unwrap_or.result =
    marker_at es c.marker_key.result c.args.section c.ranges.section.fits c.marker_key.ensures
    ∙ ap (λ o. unwrap_or o 0) (sym c.get-marker.ensures ∙ sym c.copied.ensures) ∙ sym c.unwrap_or.ensures in
    let here : get nat_cmp c.insert.new.self c.args.section ≡ Some c.args.len = c.in_ok-insert.ensures.updates.1 in
    ⊎_elim
    (λ e.
    let there : get nat_cmp c.insert.new.self c.args.section ≡ Some n = subst (λ x. get nat_cmp c.insert.new.self x ≡ Some n) e has in
    let marked : n ≡ marker_of es c.args.section = subst (λ x. n ≡ marker_of es x) e same in
    let len : c.args.len ≡ n = cc (here, there) in
    c.if-unwrap_or-len.false (sym is ∙ sym marked ∙ sym len))
    (λ other. c.requires s n (sym (c.in_ok-insert.ensures.updates.2 s (apart s c.args.section other)) ∙ has) same)
    (cases_eq s c.args.section)
