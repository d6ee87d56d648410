use Rattle.std.proofs.Common.{◌≡◌, ◌+◌, ◌-◌, ◌/◌, ◌^◌, inl, inr, ◌∙◌, sym, ℕ, length, ap, arith}
use Rattle.std.proofs.lemmas.Bool.{cases_lt}
use Rattle.sealed_pages.specs.Slots.{page_length}
use Rattle.sealed_pages.proofs.looking.Looking.{places_count, fewer_places}
use Rattle.sealed_pages.proofs.looking.ReadLemmas.{page_in}
use Rattle.sealed_pages.proofs.reading.page_count.Goals.{After-min}
use Rattle.sealed_pages.proofs.reading.page_count.Goals as goal
use Rattle.sealed_pages.specs.lemmas.looking.Looking.{no_places}

-- how many pages have their places
most : (c : After-min) → (2 ^ 64 - 1) / (c.from.result + 12) ≡ (2 ^ 64 - 1) / (c.args.page_size + 12)
most c = ap (λ (n : ℕ). (2 ^ 64 - 1) / (n + 12)) c.from.ensures

pub returns-clause-fits : goal.returns-clause-fits
returns-clause-fits c =
    fewer_places c.args.page_size c.min.result ((2 ^ 64 - 1) / (c.args.page_size + 12)) (omega (arith, c.min.ensures, most c)) (places_count c.args.page_size).0

pub returns-clause-within : goal.returns-clause-within
returns-clause-within c = omega (arith, c.min.ensures, ap (λ (n : ℕ). c.args.end / (n + 12)) c.from.ensures)

pub returns-clause-none : goal.returns-clause-none
returns-clause-none c seal content size k past =
    let count : c.args.end / (c.from.result + 12) ≡ length content / (c.args.page_size + 12) = ap (λ (n : ℕ). c.args.end / (n + 12)) c.from.ensures ∙ ap (λ (n : ℕ). n / (c.args.page_size + 12)) (sym size) in
    elim (cases_lt k ((2 ^ 64 - 1) / (c.args.page_size + 12))) [
      | inr past_all ↦ no_places seal c.args.page_size content k ((places_count c.args.page_size).1 k past_all)
      | inl less ↦ elim (cases_lt 0 (page_length seal c.args.page_size content k)) [
        | inl some ↦ absurd (omega (arith, page_in seal c.args.page_size content k some, past, c.min.ensures, most c, count, less))
        | inr none ↦ omega (arith, none)
      ]
    ]
