use Rattle.std.proofs.Common.{rules, length, refl}
use Rattle.sealed_pages.specs.Readers.{reading}
use Rattle.sealed_pages.specs.SlotNames.{opened_key}
use Rattle.sealed_pages.specs.View.{view}
use Rattle.sealed_pages.proofs.looking.ReplayLemmas.{data_nil, not_begun}
use Rattle.sealed_pages.proofs.replay.PageReplay.new.Goals as goal
use Rattle.sealed_pages.specs.lemmas.looking.Replay.{covered_none}

pub returns-in_err-partition : goal.returns-in_err-partition
returns-in_err-partition g c = not_begun g.S.Seal.seal_of reading (opened_key c.args.blob.now) c.args.blob.now.page_size c.args.blob.now.end c.args.size c.args.tip.items c.from_residual.result c.from_residual.ensures.0 (search rules)

pub returns-in_err-name : goal.returns-in_err-name
returns-in_err-name g c = not_begun g.S.Seal.seal_of reading (opened_key c.args.blob.now) c.args.blob.now.page_size c.args.blob.now.end c.args.size c.args.tip.items c.from_residual-in_err-name.result c.from_residual-in_err-name.ensures.0 (search rules)

pub returns-in_err-piece : goal.returns-in_err-piece
returns-in_err-piece g c = not_begun g.S.Seal.seal_of reading (opened_key c.args.blob.now) c.args.blob.now.page_size c.args.blob.now.end c.args.size c.args.tip.items c.from_residual-in_err-piece.result c.from_residual-in_err-piece.ensures.0 (search rules)

pub returns : goal.returns
returns g c = record {
  key = search rules;
  page_size = refl;
  end = refl;
  size = refl;
  begin = refl;
  replays = λ content tip. record {
    covered = covered_none g.S.Seal.seal_of c.args.blob.now.page_size content 0 (length c.new-2.result.items) (search rules);
    bytes = data_nil c.args.blob.now.page_size 0 (view content) c.new-2.result.items (search rules);
    piece = c.in_ok-piece.ensures.empty content;
    tip = tip;
  };
  cause = tt;
}
