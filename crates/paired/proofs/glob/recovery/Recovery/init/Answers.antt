use Rattle.std.proofs.Common.{◌≡◌, ◌<◌, ℕ, List, inr, refl, sym, ◌∙◌, ap, subst, arith}
use Rattle.std.specs.Prelude.{IsTrue, IsSome, string_bytes}
use Rattle.blob_device.specs.Timeline.{disk}
use Rattle.section_manager.specs.managing.Managed.{shown}
use Rattle.section_manager.specs.Sections.{section_key}
use Rattle.section_manager.specs.unsealed.Buffer.{content_of}
use Rattle.paired.proofs.CallLemmas.{held_some}
use Rattle.paired.specs.lemmas.Glob.{held_bytes}
use Rattle.paired.proofs.StepLemmas.{opened_glob, opened_settled, no_leftover}
use Rattle.paired.proofs.glob.recovery.Recovery.init.Goals as goal

pub returns-in_err-init_bounded-clause-entries : goal.returns-in_err-init_bounded-clause-entries
returns-in_err-init_bounded-clause-entries g c q other =
    let same : string_bytes c.in_ok-clone.field-0 ≡ string_bytes c.args.cfg.now.partition = c.in_ok-clone.ensures.cases in
    c.init_bounded.ensures.entries q (λ s le is. other s le (is ∙ ap (λ (p : List ℕ). section_key p s) same))

pub returns-clause-entries : goal.returns-clause-entries
returns-clause-entries g c q other =
    let same : string_bytes c.in_ok-clone.field-0 ≡ string_bytes c.args.cfg.now.partition = c.in_ok-clone.ensures.cases in
    c.init_bounded.ensures.entries q (λ s le is. other s le (is ∙ ap (λ (p : List ℕ). section_key p s) same))

pub returns-clause-over : goal.returns-clause-over
returns-clause-over g c =
    let n = shown c.in_ok-init_bounded.field-0 in
    let says = c.in_ok-init_bounded.ensures in
    opened_glob _ n _ (disk (g.D.Device.time c.init_bounded.new.dev)) says.over says.idle (λ t s some.
    let small = says.over.opened_list.number s (inr some) in
    no_leftover (n.unopened s) (n.ceiling < s) some (says.no_leftover s) (λ is. omega (arith, says.ceiling, ((says.unopened t s small).0 is).1)))

pub returns-clause-settled : goal.returns-clause-settled
returns-clause-settled g c =
    let says = c.in_ok-init_bounded.ensures in
    opened_settled _ (shown c.in_ok-init_bounded.field-0) _ (disk (g.D.Device.time c.init_bounded.new.dev)) says.over says.idle

pub returns-clause-held : goal.returns-clause-held
returns-clause-held g c t s small =
    let same : string_bytes c.in_ok-clone.field-0 ≡ string_bytes c.args.cfg.now.partition = c.in_ok-clone.ensures.cases in
    let both = c.in_ok-init_bounded.ensures.held t s small in
    let d = disk (g.D.Device.time c.args.dev.now) in (
      λ held. (subst (λ (p : List ℕ). IsTrue (d (section_key p s)).there) same (both.0 held).0, (both.0 held).1),
      λ p. both.1 (subst (λ (k : List ℕ). IsTrue (d (section_key k s)).there) (sym same) p.0, p.1),
    )

pub returns-clause-unopened : goal.returns-clause-unopened
returns-clause-unopened g c t s small =
    let same : string_bytes c.in_ok-clone.field-0 ≡ string_bytes c.args.cfg.now.partition = c.in_ok-clone.ensures.cases in
    let says = c.in_ok-init_bounded.ensures in
    let n = shown c.in_ok-init_bounded.field-0 in
    let both = says.unopened t s small in
    let d = disk (g.D.Device.time c.args.dev.now) in (
      λ some. no_leftover (n.unopened s) (IsTrue (d (section_key (string_bytes c.args.cfg.now.partition) s)).there × (c.args.ceiling < s)) some (says.no_leftover s)
          (λ is. (subst (λ (p : List ℕ). IsTrue (d (section_key p s)).there) same (both.0 is).0, (both.0 is).1)),
      λ p. subst IsSome (sym (both.1 (subst (λ (k : List ℕ). IsTrue (d (section_key k s)).there) (sym same) p.0, p.1))) refl,
    )

pub returns-clause-bytes : goal.returns-clause-bytes
returns-clause-bytes g c t s held =
    let same : string_bytes c.in_ok-clone.field-0 ≡ string_bytes c.args.cfg.now.partition = c.in_ok-clone.ensures.cases in
    let says = c.in_ok-init_bounded.ensures in
    let n = shown c.in_ok-init_bounded.field-0 in
    let d = disk (g.D.Device.time c.args.dev.now) in
    let e = disk (g.D.Device.time c.init_bounded.new.dev) in
    let u = held_some (n.held s) held in
    held_bytes n e s u.0 u.1 ∙ ap (λ (p : List ℕ). content_of u.0 (e (section_key p s)).content) says.partition ∙ says.bytes t s u.0 u.1 ∙ ap (λ (p : List ℕ). (d (section_key p s)).content) same
