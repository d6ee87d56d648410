use Rattle.std.proofs.Common.{rules, ◌≡◌, length, drop, length-drop, arith}
use Rattle.sealed_pages.specs.View.{view}
use Rattle.sealed_pages.proofs.looking.ReplayLemmas.{data_nil}
use Rattle.sealed_pages.proofs.replay.PageReplay.seek_to.Goals as goal
use Rattle.sealed_pages.specs.lemmas.looking.Replay.{covered_none}

pub returns-clause-replays : goal.returns-clause-replays
returns-clause-replays g c content is =
    let len : c.len-self.result ≡ length c.args.self.now.held.items = search rules in record {
      bytes = data_nil c.args.self.now.page_size c.args.offset (view content) (drop c.len-self.result c.args.self.now.held.items) (omega (arith, length-drop c.len-self.result c.args.self.now.held.items, len));
      covered = covered_none g.S.Seal.seal_of c.args.self.now.page_size content c.args.offset (length (drop c.len-self.result c.args.self.now.held.items)) (omega (arith, length-drop c.len-self.result c.args.self.now.held.items, len));
      piece = is.piece;
      tip = is.tip;
    }
