use Rattle.sealed_pages.specs.Cutting.{StandsSettled}
use Rattle.sealed_pages.specs.Starts.{StartsOver}
use Rattle.std.proofs.Common.{rules, ◌≡◌, ◌+◌, ◌*◌, ◌≤◌, ◌∙◌, ℕ, List, length, get_or, take, string_bytes, ap, sym, subst, arith, length-take, inl, inr, refl, ◌<◌}
use Rattle.blob_device.specs.Disk.{Key, Blob, settled_at}
use Rattle.blob_device.specs.Timeline.{disk}
use Rattle.sealed_pages.specs.Buffer.{extent, Buffer, bytes_of, State, IsSealed, IsBacked, HasFlushed}
use Rattle.sealed_pages.specs.Entries.{IsOpenAt}
use Rattle.sealed_pages.specs.lemmas.Reaching.{prefix_size}
use Rattle.sealed_pages.specs.lemmas.looking.Looking.{content_length}
use Rattle.sealed_pages.specs.lemmas.memory.Holding.{bytes_length}
use Rattle.std.proofs.lemmas.List.{with_items_is}
use Rattle.sealed_pages.specs.Found.{Finds}
use Rattle.sealed_pages.proofs.adopted.Starting.{backed_of, size_is, adopted_is, tip_is, starts_tip, extent_pages, start_fits}
use Rattle.sealed_pages.proofs.adopted.Adopting.{adopted_state}
use Rattle.sealed_pages.specs.Cached.{held_in}
use Rattle.sealed_pages.proofs.memory.MemoryLemmas.{none_cached, none_full}
use Rattle.sealed_pages.proofs.memory.Holding.{tip_stands}
use Rattle.sealed_pages.proofs.UnrecoveredLemmas.{adopted_unrecovered}
use Rattle.sealed_pages.specs.Unrecovered.{IsUnrecovered}
use Rattle.std.proofs.lemmas.Bool.{cases_lt}
use Rattle.sealed_pages.specs.SealedPrefix.{sealed_prefix, adopted_size}
use Rattle.sealed_pages.specs.SlotNames.{is_b}
use Rattle.sealed_pages.specs.Shown.{shown}
use Rattle.sealed_pages.proofs.AdoptEnds.{adopt_failed}
use Rattle.sealed_pages.proofs.page_blob.PageBlob.adopt.Given as given
use Rattle.sealed_pages.proofs.page_blob.PageBlob.adopt.Goals as goal
use Rattle.sealed_pages.proofs.page_blob.PageBlob.adopt.Goals.{After-from, In_ok-tip}

-- where the tip begins, by the page size as a number of 64 bits
place : (g : given.Over) (c : After-from g) → c.start_of-start.result.first * c.from.result ≡ c.start_of-start.result.first * c.args.pages.page_size
place g c = ap (λ (n : ℕ). c.start_of-start.result.first * n) c.from.ensures

pub overflow_mul-result : goal.overflow_mul-result
overflow_mul-result g c = omega (arith, start_fits c.args.pages.page_size c.start_of-start.result.first c.start_of-start.result.from c.start_of-start.ensures.begun c.start_of-start.ensures.place, place g (goal.at.overflow_mul-result g c).After-from)

pub overflow_add-result : goal.overflow_add-result
overflow_add-result g c = omega (arith, start_fits c.args.pages.page_size c.start_of-start.result.first c.start_of-start.result.from c.start_of-start.ensures.begun c.start_of-start.ensures.place, place g (goal.at.overflow_add-result g c).After-from)

-- the tip
tip : (g : given.Over) (c : In_ok-tip g) → c.in_ok-tip.tip.items ≡ take c.start_of-start.result.from c.as_slice-page.result.now
tip g c = search rules

-- and how many bytes it has
long : (g : given.Over) (c : In_ok-tip g) → length c.in_ok-tip.tip.items ≡ c.start_of-start.result.from
long g c =
    let wide : length c.as_slice-page.result.now ≡ c.args.pages.page_size + 12 = search rules in
    omega (arith, ap length (tip g c), length-take c.start_of-start.result.from c.as_slice-page.result.now, wide, c.start_of-start.ensures.begun)

pub invariant_of-result : goal.invariant_of-result
invariant_of-result g c =
    record {
      fit = record {
        begun = c.start_of-start.ensures.begun;
        within = omega (arith, long g (goal.at.invariant_of-result g c).In_ok-tip);
        room = omega (
          arith,
          ap (λ (n : ℕ). extent c.args.pages.page_size (c.start_of-start.result.first * c.args.pages.page_size + n)) (long g (goal.at.invariant_of-result g c).In_ok-tip),
          extent_pages c.args.pages.page_size c.start_of-start.result.first c.start_of-start.result.from c.start_of-start.ensures.begun,
          c.start_of-start.ensures.place,
        );
      };
      inside = c.start_of-start.ensures.inside;
      order = omega (arith, place g (goal.at.invariant_of-result g c).After-from);
      full = none_full c.args.pages.page_size c.start_of-start.result.first (held_in c.new.result) c.new.ensures.empty;
      few = omega (arith, ap length c.new.ensures.empty);
    }

-- no call was made before the first memory was asked for
pub returns-in_err-bytes : goal.returns-in_err-bytes
returns-in_err-bytes g c = adopt_failed g.D.Device g.S.Seal.seal_of (c.args.partition.now, c.args.name.now) c.args.pages shown c.args.size c.args.capacity _ _ _ c.from_residual.ensures.0 (search rules) (search rules) (omega arith) (search rules)

pub returns-in_err-found : goal.returns-in_err-found
returns-in_err-found g c = adopt_failed g.D.Device g.S.Seal.seal_of (c.args.partition.now, c.args.name.now) c.args.pages shown c.args.size c.args.capacity _ _ _ c.from_residual-in_err-found.ensures.0 c.in_err-found.ensures.unchanged c.in_err-found.ensures.entries c.in_err-found.ensures.faults (search rules)

pub returns-in_err-partition : goal.returns-in_err-partition
returns-in_err-partition g c = adopt_failed g.D.Device g.S.Seal.seal_of (c.args.partition.now, c.args.name.now) c.args.pages shown c.args.size c.args.capacity _ _ _ c.from_residual-in_err-partition.ensures.0 c.in_ok-found.ensures.unchanged c.in_ok-found.ensures.entries c.in_ok-found.ensures.faults (search rules)

pub returns-in_err-name : goal.returns-in_err-name
returns-in_err-name g c = adopt_failed g.D.Device g.S.Seal.seal_of (c.args.partition.now, c.args.name.now) c.args.pages shown c.args.size c.args.capacity _ _ _ c.from_residual-in_err-name.ensures.0 c.in_ok-found.ensures.unchanged c.in_ok-found.ensures.entries c.in_ok-found.ensures.faults (search rules)

pub returns-in_err-tip : goal.returns-in_err-tip
returns-in_err-tip g c = adopt_failed g.D.Device g.S.Seal.seal_of (c.args.partition.now, c.args.name.now) c.args.pages shown c.args.size c.args.capacity _ _ _ c.from_residual-in_err-tip.ensures.0 c.in_ok-found.ensures.unchanged c.in_ok-found.ensures.entries c.in_ok-found.ensures.faults (search rules)

pub returns : goal.returns
returns g c =
    let pos : 1 ≤ c.args.pages.page_size = c.requires.valid in
    let settled : c.start_of-start.result.first * c.from.result + c.start_of-start.result.from ≡ c.start_of-start.result.first * c.args.pages.page_size + c.start_of-start.result.from = ap (λ (n : ℕ). c.start_of-start.result.first * n + c.start_of-start.result.from) c.from.ensures in
    let u : Buffer = record {
      partition = string_bytes c.in_ok-partition.partition;
      name = c.in_ok-name.name.items;
      page_size = c.args.pages.page_size;
      capacity = c.args.capacity;
      cache_pages = c.new.result.most;
      cache = held_in c.new.result;
      end = c.args.size;
      first = c.start_of-start.result.first;
      tip = c.in_ok-tip.tip.items;
      from = c.start_of-start.result.from;
      settled = c.start_of-start.result.first * c.from.result + c.start_of-start.result.from;
      newest = is_b c.start_of-start.result.newest;
      behind = c.start_of-start.result.behind;
      torn = c.start_of-start.result.torn;
    } in
    let size_ : g.D.Device.Tells → length (disk (g.D.Device.time c.args.dev.now) (c.args.partition.now, c.args.name.now)).content ≡ c.args.size = λ t. content_length (g.D.Device.opened c.args.dev.now) (c.args.partition.now, c.args.name.now) c.args.size _ (disk (g.D.Device.time c.args.dev.now) (c.args.partition.now, c.args.name.now)).content (g.met.D.Device.opened_stands t c.args.dev.now (c.args.partition.now, c.args.name.now)) c.requires.«open» in
    let finds_ : g.D.Device.Tells → Finds g.S.Seal.seal_of c.args.pages.page_size (disk (g.D.Device.time c.args.dev.now) (c.args.partition.now, c.args.name.now)).content c.in_ok-found.found c.as_slice-page.result.now
    = λ t. subst (λ (l : List ℕ). Finds g.S.Seal.seal_of c.args.pages.page_size (disk (g.D.Device.time c.args.dev.now) (c.args.partition.now, c.args.name.now)).content c.in_ok-found.found l) (sym (c.as_slice-page.ensures.value ∙ with_items_is c.in_ok-bytes.bytes c.find_last.new.buf (c.find_last.auto.buf ∙ c.as_mut_slice-buf.ensures.len))) (c.in_ok-found.ensures.found t) in
    let over_ : g.D.Device.Tells → StartsOver g.S.Seal.seal_of c.args.pages.page_size (disk (g.D.Device.time c.args.dev.now) (c.args.partition.now, c.args.name.now)).content c.in_ok-found.found c.start_of-start.result.first c.start_of-start.result.from (is_b c.start_of-start.result.newest) c.start_of-start.result.behind c.start_of-start.result.torn
    = λ t. c.start_of-start.ensures.starts (disk (g.D.Device.time c.args.dev.now) (c.args.partition.now, c.args.name.now)).content (size_ t) (finds_ t) in
    let flushed_ : g.D.Device.Tells → HasFlushed u (disk (g.D.Device.time c.args.dev.now) (c.args.partition.now, c.args.name.now)).content = λ t. backed_of u (disk (g.D.Device.time c.args.dev.now) (c.args.partition.now, c.args.name.now)).content c.start_of-start.ensures.begun (long g (goal.at.returns g c).In_ok-tip)
    (λ i lt. ap (λ (l : List ℕ). get_or l i 0) (tip g (goal.at.returns g c).In_ok-tip) ∙ tip_is g.S.Seal.seal_of c.args.pages.page_size (disk (g.D.Device.time c.args.dev.now) (c.args.partition.now, c.args.name.now)).content c.in_ok-found.found c.as_slice-page.result.now c.start_of-start.result.first c.start_of-start.result.from (is_b c.start_of-start.result.newest) c.start_of-start.result.behind c.start_of-start.result.torn (finds_ t) (over_ t) i lt) in
    let backed_ : g.D.Device.Tells → IsBacked g.S.Seal.seal_of u (disk (g.D.Device.time c.args.dev.now) (c.args.partition.now, c.args.name.now)).content = λ t. record {
      flushed = flushed_ t;
      tip = starts_tip g.S.Seal.seal_of c.args.pages.page_size (disk (g.D.Device.time c.args.dev.now) (c.args.partition.now, c.args.name.now)).content c.in_ok-found.found c.start_of-start.result.first c.start_of-start.result.from (is_b c.start_of-start.result.newest) c.start_of-start.result.behind c.start_of-start.result.torn (over_ t);
      cache = none_cached g.S.Seal.seal_of c.args.pages.page_size (disk (g.D.Device.time c.args.dev.now) (c.args.partition.now, c.args.name.now)).content (held_in c.new.result) c.new.ensures.empty;
    } in
    let all : List ℕ = bytes_of u (disk (g.D.Device.time c.args.dev.now) (c.args.partition.now, c.args.name.now)).content in
    let fits : c.start_of-start.result.first * c.args.pages.page_size + c.start_of-start.result.from ≤ length (bytes_of u (disk (g.D.Device.time c.args.dev.now) (c.args.partition.now, c.args.name.now)).content) = omega (arith, bytes_length u (disk (g.D.Device.time c.args.dev.now) (c.args.partition.now, c.args.name.now)).content, long g (goal.at.returns g c).In_ok-tip) in
    let sealed_ : g.D.Device.Tells → StandsSettled (disk (g.D.Device.time c.args.dev.now) (c.args.partition.now, c.args.name.now)) → length (sealed_prefix g.S.Seal.seal_of c.args.pages.page_size (disk (g.D.Device.time c.args.dev.now) (c.args.partition.now, c.args.name.now)).content) ≡ adopted_size g.S.Seal.seal_of c.args.pages.page_size (disk (g.D.Device.time c.args.dev.now) (c.args.partition.now, c.args.name.now)).content → IsSealed g.S.Seal.seal_of u (disk (g.D.Device.time c.args.dev.now) (c.args.partition.now, c.args.name.now))
    = λ t is whole.
    let adopted = adopted_is g.S.Seal.seal_of c.args.pages.page_size (disk (g.D.Device.time c.args.dev.now) (c.args.partition.now, c.args.name.now)).content c.in_ok-found.found c.as_slice-page.result.now c.start_of-start.result.first c.start_of-start.result.from (is_b c.start_of-start.result.newest) c.start_of-start.result.behind c.start_of-start.result.torn pos all c.start_of-start.ensures.begun (finds_ t) (over_ t) whole fits (flushed_ t) in
    let state = adopted_state g.S.Seal.seal_of c.args.pages.page_size pos all c.start_of-start.result.first c.start_of-start.result.from (is_b c.start_of-start.result.newest) c.start_of-start.result.behind c.start_of-start.result.torn c.start_of-start.ensures.begun (settled_at (disk (g.D.Device.time c.args.dev.now) (c.args.partition.now, c.args.name.now)).content) adopted (c.start_of-start.result.first * c.from.result + c.start_of-start.result.from) settled in
    record {
      holds = record {
        state = subst (λ (b : Blob). State g.S.Seal.seal_of c.args.pages.page_size all c.start_of-start.result.first c.start_of-start.result.from (c.start_of-start.result.first * c.from.result + c.start_of-start.result.from) (is_b c.start_of-start.result.newest) c.start_of-start.result.behind c.start_of-start.result.torn b) (sym is) state;
        tip_at = tip_stands u (disk (g.D.Device.time c.args.dev.now) (c.args.partition.now, c.args.name.now)).content;
        size = bytes_length u (disk (g.D.Device.time c.args.dev.now) (c.args.partition.now, c.args.name.now)).content;
      };
      backed = backed_ t;
    } in
    let unrecovered_ : g.D.Device.Tells → StandsSettled (disk (g.D.Device.time c.args.dev.now) (c.args.partition.now, c.args.name.now)) → length (sealed_prefix g.S.Seal.seal_of c.args.pages.page_size (disk (g.D.Device.time c.args.dev.now) (c.args.partition.now, c.args.name.now)).content) < adopted_size g.S.Seal.seal_of c.args.pages.page_size (disk (g.D.Device.time c.args.dev.now) (c.args.partition.now, c.args.name.now)).content → IsUnrecovered g.S.Seal.seal_of u (disk (g.D.Device.time c.args.dev.now) (c.args.partition.now, c.args.name.now))
    = λ t rest less. subst (IsUnrecovered g.S.Seal.seal_of u) (sym rest) (adopted_unrecovered g.S.Seal.seal_of u (disk (g.D.Device.time c.args.dev.now) (c.args.partition.now, c.args.name.now)).content c.in_ok-found.found c.as_slice-page.result.now pos (finds_ t) (over_ t) (omega (arith, place g (goal.at.returns g c).After-from)) (backed_ t) less) in
    record {
      size = λ t. omega (arith, long g (goal.at.returns g c).In_ok-tip, size_is g.S.Seal.seal_of c.args.pages.page_size (disk (g.D.Device.time c.args.dev.now) (c.args.partition.now, c.args.name.now)).content c.in_ok-found.found c.as_slice-page.result.now c.start_of-start.result.first c.start_of-start.result.from (is_b c.start_of-start.result.newest) c.start_of-start.result.behind c.start_of-start.result.torn (finds_ t) (over_ t));
      backed = backed_;
      sealed = sealed_;
      unrecovered = unrecovered_;
      adopted = λ t rest. elim (cases_lt (length (sealed_prefix g.S.Seal.seal_of c.args.pages.page_size (disk (g.D.Device.time c.args.dev.now) (c.args.partition.now, c.args.name.now)).content)) (adopted_size g.S.Seal.seal_of c.args.pages.page_size (disk (g.D.Device.time c.args.dev.now) (c.args.partition.now, c.args.name.now)).content)) [
        | inl less ↦ inr (unrecovered_ t rest less)
        | inr whole ↦ (let is : length (sealed_prefix g.S.Seal.seal_of c.args.pages.page_size (disk (g.D.Device.time c.args.dev.now) (c.args.partition.now, c.args.name.now)).content) ≡ adopted_size g.S.Seal.seal_of c.args.pages.page_size (disk (g.D.Device.time c.args.dev.now) (c.args.partition.now, c.args.name.now)).content = omega (arith, whole, prefix_size g.S.Seal.seal_of c.args.pages.page_size (disk (g.D.Device.time c.args.dev.now) (c.args.partition.now, c.args.name.now)).content) in inl (sealed_ t rest is))
      ];
      leftover = λ t. c.start_of-start.ensures.leftover (disk (g.D.Device.time c.args.dev.now) (c.args.partition.now, c.args.name.now)).content (size_ t) (finds_ t);
      known = λ t rest has. ((rest, c.start_of-start.ensures.leftover (disk (g.D.Device.time c.args.dev.now) (c.args.partition.now, c.args.name.now)).content (size_ t) (finds_ t)), settled);
      cache = c.new.ensures.empty;
      cache_pages = c.new.ensures.most;
      unchanged = c.in_ok-found.ensures.unchanged;
      settled = omega (arith, settled, long g (goal.at.returns g c).In_ok-tip);
      key = search rules;
      page_size = refl;
      capacity = refl;
      end = refl;
      «open» =
          let p : (string_bytes c.in_ok-partition.partition, c.in_ok-name.name.items) ≡ (c.args.partition.now, c.args.name.now) = search rules in
          subst (λ (k : Key). IsOpenAt (g.D.Device.opened c.find_last.new.dev) k c.args.size) (sym p) (c.in_ok-found.ensures.entries.length c.args.size c.requires.«open»);
      entries = c.in_ok-found.ensures.entries;
      faults = c.in_ok-found.ensures.faults;
      cause = tt;
    }
