use Rattle.std.proofs.Common.{◌≡◌, decimal, subst, ◌∙◌}
use Rattle.archive_service.specs.Writing.{Appends}
use Rattle.archive_service.proofs.TextLemmas.{appends, appends_more}
use Rattle.archive_service.proofs.error_text.append_with.Goals as goal

pub returns : goal.returns
returns c =
    let last = c.extend_from_slice-2 in
    let mid = c.extend_from_slice.new.self.items in
    let digits : c.as_bytes.result.now ≡ decimal c.args.number = c.as_bytes.ensures.value ∙ c.in_ok-digits.ensures.ok in
    appends_more last.result c.args.out.now.items mid last.new.self.items c.args.text.now (decimal c.args.number) c.in_ok-extend_from_slice.ensures.items
    (subst (λ text. Appends last.result mid text last.new.self.items) digits (appends last.result mid last.new.self.items c.as_bytes.result.now last.ensures.items))
