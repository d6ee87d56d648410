use Rattle.std.proofs.Common.{◌+◌, ◌-◌, ◌*◌, ◌∙◌, ℕ, List, length, take, drop, length-take, length-drop, ap, arith}
use Rattle.sealed_pages.specs.Reading.{page_of}
use Rattle.sealed_pages.proofs.looking.PieceLemmas.{page_slice}
use Rattle.sealed_pages.proofs.piece.Piece.page_bytes.Goals as goal

pub returns : goal.returns
returns c =
    let unit = ap (λ (n : ℕ). (c.args.page - c.args.self.now.page) * (n + 12)) c.from-unit.ensures in
    page_slice c.args.self.now.page_size (c.args.page - c.args.self.now.page) c.min-from.result c.min.result (take c.args.self.now.have c.deref.result.now)
    (omega (arith, c.min-from.ensures, unit))
    (omega (arith, c.min.ensures, c.from-unit.ensures, length-take (length (take c.args.self.now.have c.deref.result.now) - c.min-from.result) (drop c.min-from.result (take c.args.self.now.have c.deref.result.now)), length-drop c.min-from.result (take c.args.self.now.have c.deref.result.now)))
    ∙ ap (λ (l : List ℕ). page_of c.args.self.now.page_size (take c.args.self.now.have l) (c.args.page - c.args.self.now.page)) c.deref.ensures.value
