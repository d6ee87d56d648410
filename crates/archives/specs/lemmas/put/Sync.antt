-- Of three archives, each filed as the one before, the last is filed as the first.
use Rattle.std.proofs.Common.{◌∙◌}
use Rattle.archives.specs.Filing.{Filing, IsSameFiling}

pub filing_then : (f g h : Filing) → IsSameFiling f g → IsSameFiling g h → IsSameFiling f h
filing_then f g h one two = record {
  layout = record {
    index = two.layout.index ∙ one.layout.index;
    values = two.layout.values ∙ one.layout.values;
    marked = two.layout.marked ∙ one.layout.marked;
    metadata = two.layout.metadata ∙ one.layout.metadata;
    page_size = two.layout.page_size ∙ one.layout.page_size;
  };
  record_size = two.record_size ∙ one.record_size;
  seal = λ bytes. two.seal bytes ∙ one.seal bytes;
  place = λ bytes. two.place bytes ∙ one.place bytes;
  items = two.items ∙ one.items;
  key_size = two.key_size ∙ one.key_size;
  refusal = λ bytes. two.refusal bytes ∙ one.refusal bytes;
  most_sections = two.most_sections ∙ one.most_sections;
  most_records = two.most_records ∙ one.most_records;
}
