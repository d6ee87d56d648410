-- What a page blob shows of itself.
use Rattle.std.specs.Prelude.{string_bytes}
use Rattle.sealed_pages.specs.declared.page_blob.PageBlob.{PageBlob}
use Rattle.sealed_pages.specs.Buffer.{Buffer}
use Rattle.sealed_pages.specs.Cached.{held_in}
use Rattle.sealed_pages.specs.SlotNames.{is_b}

abbrev pub shown : {S : Type 0} {g : _} → PageBlob S g → Buffer
shown p = record {
  partition = string_bytes p.partition;
  name = p.name.items;
  page_size = p.page_size;
  capacity = p.capacity;
  cache_pages = p.cache.most;
  cache = held_in p.cache;
  end = p.end;
  first = p.first;
  tip = p.tip.items;
  from = p.from;
  settled = p.settled;
  newest = is_b p.newest;
  behind = p.behind;
  torn = p.torn;
}
