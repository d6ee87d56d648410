use Rattle.std.proofs.Common.{rules, ◌≡◌, ◌∙◌, length, drop, length-drop, arith}
use Rattle.sealed_pages.specs.lemmas.Entries.{reads_once}
use Rattle.blob_device.specs.Timeline.{disk}
use Rattle.sealed_pages.specs.lemmas.looking.Looking.{content_length, unchanged_on}
use Rattle.sealed_pages.proofs.looking.ReadLemmas.{prefix_of, span_take}
use Rattle.sealed_pages.proofs.cutting.Truncating.{no_value}
use Rattle.sealed_pages.specs.SlotNames.{opened_key}
use Rattle.sealed_pages.proofs.reading.read_span.Goals as goal

pub returns-in_err-read_at : goal.returns-in_err-read_at
returns-in_err-read_at g c = record {
  bytes = λ t. no_value _ _ c.from_residual.ensures.0;
  within = no_value _ _ c.from_residual.ensures.0;
  unchanged = λ t. unchanged_on (g.D.Device.time c.args.dev.now) (g.D.Device.time c.read_at.new.self) (c.read_at.ensures.told t);
  entries = reads_once (opened_key c.args.blob.now) _ _ c.read_at.ensures.opened;
  faults = search rules;
  cause = search rules;
}

pub returns : goal.returns
returns g c = record {
  bytes = λ t.
      let long : length (disk (g.D.Device.time c.args.dev.now) (opened_key c.args.blob.now)).content ≡ c.args.blob.now.end
      = content_length (g.D.Device.opened c.args.dev.now) (opened_key c.args.blob.now) c.args.blob.now.end _ (disk (g.D.Device.time c.args.dev.now) (opened_key c.args.blob.now)).content (g.met.D.Device.opened_stands t c.args.dev.now (opened_key c.args.blob.now)) c.requires in
      let all : length c.read_at.new.buf ≡ c.min-have.result = search rules in
      prefix_of c.min-have.result c.read_at.new.buf (drop c.min-have.result c.args.buf.now) all ∙ c.in_ok-read_at.ensures.bytes t
      ∙ span_take (length c.args.buf.now) _ (drop c.args.place (disk (g.D.Device.time c.args.dev.now) (opened_key c.args.blob.now)).content) (omega (arith, all, c.read_at.auto.buf, c.min-have.ensures, long, length-drop c.args.place (disk (g.D.Device.time c.args.dev.now) (opened_key c.args.blob.now)).content));
  within = omega (arith, c.min-have.ensures);
  unchanged = λ t. unchanged_on (g.D.Device.time c.args.dev.now) (g.D.Device.time c.read_at.new.self) (c.read_at.ensures.told t);
  entries = reads_once (opened_key c.args.blob.now) _ _ c.read_at.ensures.opened;
  faults = search rules;
  cause = search rules;
}
