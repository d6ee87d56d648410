use Rattle.sealed_pages.proofs.cutting.Truncating.{no_value}
use Rattle.std.proofs.Common.{◌+◌, ◌-◌, ◌*◌, ◌∙◌, ℕ, List, take, drop, ap, rules, refl}
use Rattle.std.proofs.lemmas.List.{with_items_is}
use Rattle.blob_device.specs.Timeline.{disk}
use Rattle.sealed_pages.specs.Reading.{page_of}
use Rattle.sealed_pages.proofs.looking.PieceLemmas.{span_page}
use Rattle.sealed_pages.specs.SlotNames.{opened_key}
use Rattle.sealed_pages.proofs.piece.Piece.read.Goals as goal

pub returns-in_err-self : goal.returns-in_err-self
returns-in_err-self g c =
    record {
      holds = no_value _ _ c.from_residual.ensures.0;
      piece = search rules;
      page = no_value _ _ c.from_residual.ensures.0;
      page_size = search rules;
      unchanged = search rules;
      entries = search rules;
      faults = search rules;
      cause = search rules;
    }

pub returns : goal.returns
returns g c =
    record {
      holds = search rules;
      piece = λ t k has.
          let content = (disk (g.D.Device.time c.args.dev.now) (opened_key c.args.blob.now)).content in
          let most : ℕ = c.min-count.result * (c.from-unit.result + 12) in
          let whole = with_items_is c.args.self.now.bytes c.read_prefix.new.buf (c.read_prefix.auto.buf ∙ c.as_mut_slice-buf.ensures.len) in
          ap (λ (l : List ℕ). page_of c.args.self.now.page_size (take c.in_ok-self.field-0 l) (k - c.args.page)) whole
          ∙ span_page c.args.self.now.page_size c.args.page c.min-count.result most k c.in_ok-self.field-0 c.read_prefix.new.buf content
          (ap (λ (n : ℕ). c.min-count.result * (n + 12)) c.from-unit.ensures) (c.in_ok-self.ensures.bytes t ∙ ap (λ (x : ℕ). take most (drop x content)) c.page_place-place.ensures) has.0 has.1;
      page = refl;
      page_size = refl;
      unchanged = search rules;
      entries = search rules;
      faults = search rules;
      cause = search rules;
    }
