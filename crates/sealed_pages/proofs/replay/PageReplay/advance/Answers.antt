use Rattle.std.proofs.Common.{◌≡◌, ◌+◌, ◌∙◌, List, ℕ, length, drop, ap, sym, arith, length-drop}
use Rattle.std.proofs.lemmas.List.{drop-drop}
use Rattle.sealed_pages.specs.SealedPrefix.{data_from}
use Rattle.sealed_pages.specs.View.{view}
use Rattle.sealed_pages.specs.lemmas.looking.Replay.{covered_rest, data_drop}
use Rattle.sealed_pages.proofs.replay.PageReplay.advance.Goals as goal

pub returns-clause-replays : goal.returns-clause-replays
returns-clause-replays g c content is =
    let same : drop (c.args.self.now.used + c.args.n) c.args.self.now.held.items ≡ drop c.args.n (drop c.args.self.now.used c.args.self.now.held.items) = sym (drop-drop c.args.n c.args.self.now.used c.args.self.now.held.items) in record {
      bytes = same ∙ data_drop c.args.self.now.page_size c.args.self.now.at c.args.n (view content) (drop c.args.self.now.used c.args.self.now.held.items) is.bytes c.requires
          ∙ ap (λ (l : List ℕ). data_from c.args.self.now.page_size (view content) (c.args.self.now.at + c.args.n) (length l)) (sym same);
      covered = covered_rest g.S.Seal.seal_of c.args.self.now.page_size content c.args.self.now.at (length (drop c.args.self.now.used c.args.self.now.held.items)) c.args.n (length (drop (c.args.self.now.used + c.args.n) c.args.self.now.held.items)) is.covered c.requires
          (omega (arith, length-drop c.args.self.now.used c.args.self.now.held.items, length-drop (c.args.self.now.used + c.args.n) c.args.self.now.held.items));
      piece = is.piece;
      tip = is.tip;
    }
