-- Filings that are the same are equal.
use Rattle.std.specs.Prelude.{◌≡◌}
use Rattle.archives.specs.Filing.{Filing, IsSameFiling}

-- The markers of both are stored the same, as those of two archives of one type are by computation.
pub one_filing : (f g : Filing) → IsSameFiling f g → g.layout.markers ≡ f.layout.markers → g ≡ f
one_filing f g same markers = λ i. record {
  layout = record {
    index = same.layout.index i;
    values = same.layout.values i;
    marked = same.layout.marked i;
    metadata = same.layout.metadata i;
    page_size = same.layout.page_size i;
    record_size = same.record_size i;
    seal = λ bytes. same.seal bytes i;
    place = λ bytes. same.place bytes i;
    markers = markers i;
  };
  items = same.items i;
  key_size = same.key_size i;
  refusal = λ bytes. same.refusal bytes i;
  most_sections = same.most_sections i;
  most_records = same.most_records i;
}
