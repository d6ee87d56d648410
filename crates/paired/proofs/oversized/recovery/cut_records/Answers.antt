use Rattle.std.proofs.Common.{◌≡◌, ◌*◌, ◌↔◌, ◌∙◌, ◌<◌, ℕ, List, Some, IsSome, IsSomeAnd, map, refl, sym, ap, subst}
use Rattle.std.specs.BTreeMap.{get}
use Rattle.std.specs.List.{Contains}
use Rattle.std.specs.Map.{keys_of}
use Rattle.std.specs.Map.Iter.{deref_pair}
use Rattle.std.specs.Ordering.{nat_cmp}
use Rattle.std.proofs.lemmas.Cmp.{nat_cmp_total, eq_by_cmp_equiv}
use Rattle.std.proofs.lemmas.Map.Iter.{btree_map_turn, iter_end}
use Rattle.std.proofs.lemmas.Map.Views.{Contains-keys_from_lookup, IsSome-lookup_from_Contains}
use Rattle.sealed_pages.specs.Buffer.{size_of}
use Rattle.sealed_pages.specs.Shown as page_blob
use Rattle.section_manager.specs.contracts.sealed.PageBlobSectionBuffer.TheImpl as pages
use Rattle.segments.specs.FixedShown.{shown}
use Rattle.paired.proofs.RecordCuts.{page_laws, cut_off, CutsOne, CutOne, RecordsTried, RecordsCut, cuts_start, whole_cut, tried_more, cuts_more, cuts_moments, cuts_idle, cuts_entries, cuts_cut, cuts_sizes, cuts_others, cuts_held, cuts_settled, cause_cut}
use Rattle.paired.proofs.oversized.recovery.cut_records.Goals as goal
use Rattle.blob_device.proofs.general.Maps.{numbers_of, numbers_push, numbers_shown}
use Rattle.blob_device.proofs.general.Numbers.{same_number}
use Rattle.blob_device.proofs.general.Results.{err_of}

pub loop-section-init : goal.loop-section-init
loop-section-init g c =
    let d = g.D.Device in
    let laws = page_laws g.row.S g.S.Seal g.S.Seal-dict in
    let seal = g.S.Seal.seal_of in
    let size = g.I.CodecFixed.SIZE in
    let ends = get nat_cmp c.args.ends.now in
    let j = shown c.args.index in
    cuts_start _ _ seal size d.Tells d.time d.opened d.faults laws ends j c.args.dev.now c.requires.over c.requires.proven

pub truncate_pending_section-requires : goal.truncate_pending_section-requires
truncate_pending_section-requires g c =
    let d = g.D.Device in
    let laws = page_laws g.row.S g.S.Seal g.S.Seal-dict in
    let seal = g.S.Seal.seal_of in
    let size = g.I.CodecFixed.SIZE in
    let ends = get nat_cmp c.args.ends.now in
    let j = shown c.args.index in
    let k = shown c.loop-section.index in
    let s = c.in-Some.section.now in
    let n = c.in-Some.count.now in
    let is_end : ends s ≡ Some n = (btree_map_turn deref_pair c.loop-section.yielded c.into_iter-section-iterator.result c.loop-section.section-iterator c.next.new.self c.next.result (c.in-Some.section, c.in-Some.count) c.loop-section.yielded_by c.in-Some.is c.next.ensures.steps nat_cmp_total c.args.ends.now
    c.into_iter-section-iterator.ensures.into_iter_gives.0 c.into_iter-section-iterator.ensures.into_iter_gives.5).1 in
    let is : c.saturating_mul-size.result ≡ cut_off (n * size) = c.saturating_mul-size.ensures ∙ ap (λ (k : ℕ). cut_off (n * k)) c.SIZE.ensures in
    record {
      over = c.loop-section.invariant.journal;
      whole = λ longer. rw is (whole_cut _ _ seal size d.Tells d.time d.opened d.faults laws ends k (n * size) s c.loop-section.dev c.loop-section.dev c.loop-section.invariant.journal c.loop-section.invariant.proven n refl
          (subst (λ (m : ℕ). IsSomeAnd (k.sections.held s) (λ u. m < size_of (page_blob.shown u))) is longer));
      sealed = λ t u held longer owes. absurd (owes (c.loop-section.invariant.proven s));
    }

pub loop-section-preserved : goal.loop-section-preserved
loop-section-preserved g c =
    let d = g.D.Device in
    let laws = page_laws g.row.S g.S.Seal g.S.Seal-dict in
    let seal = g.S.Seal.seal_of in
    let size = g.I.CodecFixed.SIZE in
    let ends = get nat_cmp c.args.ends.now in
    let j = shown c.args.index in
    let k = shown c.loop-section.index in
    let s = c.in-Some.section.now in
    let n = c.in-Some.count.now in
    let is_end : ends s ≡ Some n = (btree_map_turn deref_pair c.loop-section.yielded c.into_iter-section-iterator.result c.loop-section.section-iterator c.next.new.self c.next.result (c.in-Some.section, c.in-Some.count) c.loop-section.yielded_by c.in-Some.is c.next.ensures.steps nat_cmp_total c.args.ends.now
    c.into_iter-section-iterator.ensures.into_iter_gives.0 c.into_iter-section-iterator.ensures.into_iter_gives.5).1 in
    let is : c.saturating_mul-size.result ≡ cut_off (n * size) = c.saturating_mul-size.ensures ∙ ap (λ (k : ℕ). cut_off (n * k)) c.SIZE.ensures in
    let says = c.truncate_pending_section.ensures in
    let dev = c.truncate_pending_section.new.dev in
    let call : CutsOne k seal d.Tells d.time d.opened d.faults (cut_off (n * size)) s c.loop-section.dev dev = subst (λ (m : ℕ). CutsOne k seal d.Tells d.time d.opened d.faults m s c.loop-section.dev dev) is (record {
      alone = says.alone;
      moments = says.moments;
      idle = says.idle;
      entries = says.entries;
      faults = says.faults;
    }) in
    let r = shown c.in_ok-index.index in
    let ok = c.in_ok-index.ensures in
    let made : CutOne k r _ _ seal size d.Tells d.time d.opened (cut_off (n * size)) s c.loop-section.dev dev = subst (λ (m : ℕ). CutOne k r _ _ seal size d.Tells d.time d.opened m s c.loop-section.dev dev) is (record {
      over = ok.over;
      cut = ok.cut;
      absent = ok.absent;
      unopened = ok.unopened;
      others = ok.others;
      bounds = ok.bounds;
      emptied = ok.emptied;
      unrecovered = ok.unrecovered;
      lowered = ok.lowered;
      floors = ok.floors;
    }) in
    subst (λ (ks : List ℕ). RecordsCut j r (pages.ghosts g.row.S g.S.Seal g.S.Seal-dict) (λ f. record { page_size = f.pages.page_size; capacity = f.write_buffer; cache_pages = f.pages.cache_pages }) seal size d.Tells d.time d.opened d.faults ends ks c.args.dev.now dev) (sym (numbers_push c.loop-section.yielded (c.in-Some.section, c.in-Some.count)))
    (cuts_more _ _ seal size d.Tells d.time d.opened d.faults laws ends j k (numbers_of c.loop-section.yielded) s n is_end c.args.dev.now c.loop-section.dev c.requires.over c.loop-section.invariant dev call r made)

pub returns-in_err-index-clause-moments : goal.returns-in_err-index-clause-moments
returns-in_err-index-clause-moments g c t =
    let d = g.D.Device in
    let laws = page_laws g.row.S g.S.Seal g.S.Seal-dict in
    let seal = g.S.Seal.seal_of in
    let size = g.I.CodecFixed.SIZE in
    let ends = get nat_cmp c.args.ends.now in
    let j = shown c.args.index in
    let k = shown c.loop-section.index in
    let s = c.in-Some.section.now in
    let n = c.in-Some.count.now in
    let is_end : ends s ≡ Some n = (btree_map_turn deref_pair c.loop-section.yielded c.into_iter-section-iterator.result c.loop-section.section-iterator c.next.new.self c.next.result (c.in-Some.section, c.in-Some.count) c.loop-section.yielded_by c.in-Some.is c.next.ensures.steps nat_cmp_total c.args.ends.now
    c.into_iter-section-iterator.ensures.into_iter_gives.0 c.into_iter-section-iterator.ensures.into_iter_gives.5).1 in
    let is : c.saturating_mul-size.result ≡ cut_off (n * size) = c.saturating_mul-size.ensures ∙ ap (λ (k : ℕ). cut_off (n * k)) c.SIZE.ensures in
    let says = c.truncate_pending_section.ensures in
    let dev = c.truncate_pending_section.new.dev in
    let call : CutsOne k seal d.Tells d.time d.opened d.faults (cut_off (n * size)) s c.loop-section.dev dev = subst (λ (m : ℕ). CutsOne k seal d.Tells d.time d.opened d.faults m s c.loop-section.dev dev) is (record {
      alone = says.alone;
      moments = says.moments;
      idle = says.idle;
      entries = says.entries;
      faults = says.faults;
    }) in
    let tried : RecordsTried j _ _ size d.Tells d.time d.opened d.faults ends c.args.dev.now dev = tried_more _ _ seal size d.Tells d.time d.opened d.faults laws ends j k (numbers_of c.loop-section.yielded) s n is_end c.args.dev.now c.loop-section.dev c.requires.over c.loop-section.invariant dev call in
    cuts_moments _ _ seal size d.Tells d.time d.opened d.faults laws ends j c.args.dev.now dev c.requires.over c.requires.proven tried t

pub returns-in_err-index-clause-idle : goal.returns-in_err-index-clause-idle
returns-in_err-index-clause-idle g c within =
    let d = g.D.Device in
    let laws = page_laws g.row.S g.S.Seal g.S.Seal-dict in
    let seal = g.S.Seal.seal_of in
    let size = g.I.CodecFixed.SIZE in
    let ends = get nat_cmp c.args.ends.now in
    let j = shown c.args.index in
    let k = shown c.loop-section.index in
    let s = c.in-Some.section.now in
    let n = c.in-Some.count.now in
    let is_end : ends s ≡ Some n = (btree_map_turn deref_pair c.loop-section.yielded c.into_iter-section-iterator.result c.loop-section.section-iterator c.next.new.self c.next.result (c.in-Some.section, c.in-Some.count) c.loop-section.yielded_by c.in-Some.is c.next.ensures.steps nat_cmp_total c.args.ends.now
    c.into_iter-section-iterator.ensures.into_iter_gives.0 c.into_iter-section-iterator.ensures.into_iter_gives.5).1 in
    let is : c.saturating_mul-size.result ≡ cut_off (n * size) = c.saturating_mul-size.ensures ∙ ap (λ (k : ℕ). cut_off (n * k)) c.SIZE.ensures in
    let says = c.truncate_pending_section.ensures in
    let dev = c.truncate_pending_section.new.dev in
    let call : CutsOne k seal d.Tells d.time d.opened d.faults (cut_off (n * size)) s c.loop-section.dev dev = subst (λ (m : ℕ). CutsOne k seal d.Tells d.time d.opened d.faults m s c.loop-section.dev dev) is (record {
      alone = says.alone;
      moments = says.moments;
      idle = says.idle;
      entries = says.entries;
      faults = says.faults;
    }) in
    let tried : RecordsTried j _ _ size d.Tells d.time d.opened d.faults ends c.args.dev.now dev = tried_more _ _ seal size d.Tells d.time d.opened d.faults laws ends j k (numbers_of c.loop-section.yielded) s n is_end c.args.dev.now c.loop-section.dev c.requires.over c.loop-section.invariant dev call in
    cuts_idle _ _ seal size d.Tells d.time d.opened d.faults laws ends j c.args.dev.now dev c.requires.over c.requires.proven tried within

pub returns-in_err-index-clause-entries : goal.returns-in_err-index-clause-entries
returns-in_err-index-clause-entries g c q none =
    let d = g.D.Device in
    let laws = page_laws g.row.S g.S.Seal g.S.Seal-dict in
    let seal = g.S.Seal.seal_of in
    let size = g.I.CodecFixed.SIZE in
    let ends = get nat_cmp c.args.ends.now in
    let j = shown c.args.index in
    let k = shown c.loop-section.index in
    let s = c.in-Some.section.now in
    let n = c.in-Some.count.now in
    let is_end : ends s ≡ Some n = (btree_map_turn deref_pair c.loop-section.yielded c.into_iter-section-iterator.result c.loop-section.section-iterator c.next.new.self c.next.result (c.in-Some.section, c.in-Some.count) c.loop-section.yielded_by c.in-Some.is c.next.ensures.steps nat_cmp_total c.args.ends.now
    c.into_iter-section-iterator.ensures.into_iter_gives.0 c.into_iter-section-iterator.ensures.into_iter_gives.5).1 in
    let is : c.saturating_mul-size.result ≡ cut_off (n * size) = c.saturating_mul-size.ensures ∙ ap (λ (k : ℕ). cut_off (n * k)) c.SIZE.ensures in
    let says = c.truncate_pending_section.ensures in
    let dev = c.truncate_pending_section.new.dev in
    let call : CutsOne k seal d.Tells d.time d.opened d.faults (cut_off (n * size)) s c.loop-section.dev dev = subst (λ (m : ℕ). CutsOne k seal d.Tells d.time d.opened d.faults m s c.loop-section.dev dev) is (record {
      alone = says.alone;
      moments = says.moments;
      idle = says.idle;
      entries = says.entries;
      faults = says.faults;
    }) in
    let tried : RecordsTried j _ _ size d.Tells d.time d.opened d.faults ends c.args.dev.now dev = tried_more _ _ seal size d.Tells d.time d.opened d.faults laws ends j k (numbers_of c.loop-section.yielded) s n is_end c.args.dev.now c.loop-section.dev c.requires.over c.loop-section.invariant dev call in
    cuts_entries _ _ seal size d.Tells d.time d.opened d.faults laws ends j c.args.dev.now dev c.requires.over c.requires.proven tried q none

pub returns-in_err-index-clause-faults : goal.returns-in_err-index-clause-faults
returns-in_err-index-clause-faults g c =
    let d = g.D.Device in
    let laws = page_laws g.row.S g.S.Seal g.S.Seal-dict in
    let seal = g.S.Seal.seal_of in
    let size = g.I.CodecFixed.SIZE in
    let ends = get nat_cmp c.args.ends.now in
    let j = shown c.args.index in
    let k = shown c.loop-section.index in
    let s = c.in-Some.section.now in
    let n = c.in-Some.count.now in
    let is_end : ends s ≡ Some n = (btree_map_turn deref_pair c.loop-section.yielded c.into_iter-section-iterator.result c.loop-section.section-iterator c.next.new.self c.next.result (c.in-Some.section, c.in-Some.count) c.loop-section.yielded_by c.in-Some.is c.next.ensures.steps nat_cmp_total c.args.ends.now
    c.into_iter-section-iterator.ensures.into_iter_gives.0 c.into_iter-section-iterator.ensures.into_iter_gives.5).1 in
    let is : c.saturating_mul-size.result ≡ cut_off (n * size) = c.saturating_mul-size.ensures ∙ ap (λ (k : ℕ). cut_off (n * k)) c.SIZE.ensures in
    let says = c.truncate_pending_section.ensures in
    let dev = c.truncate_pending_section.new.dev in
    let call : CutsOne k seal d.Tells d.time d.opened d.faults (cut_off (n * size)) s c.loop-section.dev dev = subst (λ (m : ℕ). CutsOne k seal d.Tells d.time d.opened d.faults m s c.loop-section.dev dev) is (record {
      alone = says.alone;
      moments = says.moments;
      idle = says.idle;
      entries = says.entries;
      faults = says.faults;
    }) in
    let tried : RecordsTried j _ _ size d.Tells d.time d.opened d.faults ends c.args.dev.now dev = tried_more _ _ seal size d.Tells d.time d.opened d.faults laws ends j k (numbers_of c.loop-section.yielded) s n is_end c.args.dev.now c.loop-section.dev c.requires.over c.loop-section.invariant dev call in
    tried.tried.faults

pub returns-in_err-index-clause-damage : goal.returns-in_err-index-clause-damage
returns-in_err-index-clause-damage g c t found =
    let same = err_of c.from_residual.result c.in_err-index.field-0.0 c.from_residual.ensures.1 in
    c.in_err-index.ensures.damage t (found.0, cc (found.1, same))

pub returns-in_err-index-clause-cause : goal.returns-in_err-index-clause-cause
returns-in_err-index-clause-cause g c =
    let d = g.D.Device in
    let laws = page_laws g.row.S g.S.Seal g.S.Seal-dict in
    let seal = g.S.Seal.seal_of in
    let size = g.I.CodecFixed.SIZE in
    let ends = get nat_cmp c.args.ends.now in
    let j = shown c.args.index in
    cause_cut c.from_residual.result c.in_err-index.field-0.0 (shown c.loop-section.index).sections.floor (d.faults c.args.dev.now) (d.faults c.loop-section.dev) (d.faults c.truncate_pending_section.new.dev) c.in-Some.section.now
    (err_of c.from_residual.result c.in_err-index.field-0.0 c.from_residual.ensures.1) c.loop-section.invariant.tried.tried.faults (c.loop-section.invariant.walked.bounds.floor ∙ c.requires.floor) c.in_err-index.ensures.guard.0 c.in_err-index.ensures.cause

pub returns-clause-cut : goal.returns-clause-cut
returns-clause-cut g c t s n is =
    let d = g.D.Device in
    let laws = page_laws g.row.S g.S.Seal g.S.Seal-dict in
    let seal = g.S.Seal.seal_of in
    let size = g.I.CodecFixed.SIZE in
    let ends = get nat_cmp c.args.ends.now in
    let j = shown c.args.index in
    let k = shown c.loop-section.index in
    let ks = numbers_of c.loop-section.yielded in
    let shows : map deref_pair c.loop-section.yielded ≡ c.args.ends.now.entries = (iter_end deref_pair c.args.ends.now.entries c.loop-section.yielded c.into_iter-section-iterator.result c.loop-section.section-iterator c.next.new.self c.next.result
    c.into_iter-section-iterator.ensures.into_iter_gives.0 c.loop-section.yielded_by c.in-None.is c.next.ensures.steps).0 in
    let all : ks ≡ keys_of c.args.ends.now.entries = numbers_shown c.loop-section.yielded ∙ ap (λ (es : List (ℕ × ℕ)). keys_of es) shows in
    let done : (s : ℕ) → Contains ks s ↔ IsSome (ends s) = λ s. (
      λ has. IsSome-lookup_from_Contains (eq_by_cmp_equiv nat_cmp_total) s c.args.ends.now.entries (subst (λ (x : List ℕ). Contains x s) all has),
      λ some. subst (λ (x : List ℕ). Contains x s) (sym all) (Contains-keys_from_lookup same_number s c.args.ends.now.entries some),
    ) in
    cuts_cut _ _ seal size d.Tells d.time d.opened d.faults laws ends j k ks c.args.dev.now c.loop-section.dev c.loop-section.invariant done t s n is

pub returns-clause-sizes : goal.returns-clause-sizes
returns-clause-sizes g c s n is =
    let d = g.D.Device in
    let laws = page_laws g.row.S g.S.Seal g.S.Seal-dict in
    let seal = g.S.Seal.seal_of in
    let size = g.I.CodecFixed.SIZE in
    let ends = get nat_cmp c.args.ends.now in
    let j = shown c.args.index in
    let k = shown c.loop-section.index in
    let ks = numbers_of c.loop-section.yielded in
    let shows : map deref_pair c.loop-section.yielded ≡ c.args.ends.now.entries = (iter_end deref_pair c.args.ends.now.entries c.loop-section.yielded c.into_iter-section-iterator.result c.loop-section.section-iterator c.next.new.self c.next.result
    c.into_iter-section-iterator.ensures.into_iter_gives.0 c.loop-section.yielded_by c.in-None.is c.next.ensures.steps).0 in
    let all : ks ≡ keys_of c.args.ends.now.entries = numbers_shown c.loop-section.yielded ∙ ap (λ (es : List (ℕ × ℕ)). keys_of es) shows in
    let done : (s : ℕ) → Contains ks s ↔ IsSome (ends s) = λ s. (
      λ has. IsSome-lookup_from_Contains (eq_by_cmp_equiv nat_cmp_total) s c.args.ends.now.entries (subst (λ (x : List ℕ). Contains x s) all has),
      λ some. subst (λ (x : List ℕ). Contains x s) (sym all) (Contains-keys_from_lookup same_number s c.args.ends.now.entries some),
    ) in
    cuts_sizes _ _ seal size d.Tells d.time d.opened d.faults laws ends j k ks c.args.dev.now c.loop-section.dev c.loop-section.invariant done s n is

pub returns-clause-others : goal.returns-clause-others
returns-clause-others g c s none =
    let d = g.D.Device in
    let laws = page_laws g.row.S g.S.Seal g.S.Seal-dict in
    let seal = g.S.Seal.seal_of in
    let size = g.I.CodecFixed.SIZE in
    let ends = get nat_cmp c.args.ends.now in
    let j = shown c.args.index in
    let k = shown c.loop-section.index in
    let ks = numbers_of c.loop-section.yielded in
    let shows : map deref_pair c.loop-section.yielded ≡ c.args.ends.now.entries = (iter_end deref_pair c.args.ends.now.entries c.loop-section.yielded c.into_iter-section-iterator.result c.loop-section.section-iterator c.next.new.self c.next.result
    c.into_iter-section-iterator.ensures.into_iter_gives.0 c.loop-section.yielded_by c.in-None.is c.next.ensures.steps).0 in
    let all : ks ≡ keys_of c.args.ends.now.entries = numbers_shown c.loop-section.yielded ∙ ap (λ (es : List (ℕ × ℕ)). keys_of es) shows in
    let done : (s : ℕ) → Contains ks s ↔ IsSome (ends s) = λ s. (
      λ has. IsSome-lookup_from_Contains (eq_by_cmp_equiv nat_cmp_total) s c.args.ends.now.entries (subst (λ (x : List ℕ). Contains x s) all has),
      λ some. subst (λ (x : List ℕ). Contains x s) (sym all) (Contains-keys_from_lookup same_number s c.args.ends.now.entries some),
    ) in
    cuts_others _ _ seal size d.Tells d.time d.opened d.faults laws ends j k ks c.args.dev.now c.loop-section.dev c.loop-section.invariant done s none

pub returns-clause-held : goal.returns-clause-held
returns-clause-held g c s =
    let d = g.D.Device in
    let laws = page_laws g.row.S g.S.Seal g.S.Seal-dict in
    let seal = g.S.Seal.seal_of in
    let size = g.I.CodecFixed.SIZE in
    let ends = get nat_cmp c.args.ends.now in
    let j = shown c.args.index in
    let k = shown c.loop-section.index in
    let ks = numbers_of c.loop-section.yielded in
    let shows : map deref_pair c.loop-section.yielded ≡ c.args.ends.now.entries = (iter_end deref_pair c.args.ends.now.entries c.loop-section.yielded c.into_iter-section-iterator.result c.loop-section.section-iterator c.next.new.self c.next.result
    c.into_iter-section-iterator.ensures.into_iter_gives.0 c.loop-section.yielded_by c.in-None.is c.next.ensures.steps).0 in
    let all : ks ≡ keys_of c.args.ends.now.entries = numbers_shown c.loop-section.yielded ∙ ap (λ (es : List (ℕ × ℕ)). keys_of es) shows in
    let done : (s : ℕ) → Contains ks s ↔ IsSome (ends s) = λ s. (
      λ has. IsSome-lookup_from_Contains (eq_by_cmp_equiv nat_cmp_total) s c.args.ends.now.entries (subst (λ (x : List ℕ). Contains x s) all has),
      λ some. subst (λ (x : List ℕ). Contains x s) (sym all) (Contains-keys_from_lookup same_number s c.args.ends.now.entries some),
    ) in
    cuts_held _ _ seal size d.Tells d.time d.opened d.faults laws ends j k ks c.args.dev.now c.loop-section.dev c.loop-section.invariant done s

pub returns-clause-settled : goal.returns-clause-settled
returns-clause-settled g c settled s u held =
    let d = g.D.Device in
    let laws = page_laws g.row.S g.S.Seal g.S.Seal-dict in
    let seal = g.S.Seal.seal_of in
    let size = g.I.CodecFixed.SIZE in
    let ends = get nat_cmp c.args.ends.now in
    let j = shown c.args.index in
    let k = shown c.loop-section.index in
    let ks = numbers_of c.loop-section.yielded in
    let shows : map deref_pair c.loop-section.yielded ≡ c.args.ends.now.entries = (iter_end deref_pair c.args.ends.now.entries c.loop-section.yielded c.into_iter-section-iterator.result c.loop-section.section-iterator c.next.new.self c.next.result
    c.into_iter-section-iterator.ensures.into_iter_gives.0 c.loop-section.yielded_by c.in-None.is c.next.ensures.steps).0 in
    let all : ks ≡ keys_of c.args.ends.now.entries = numbers_shown c.loop-section.yielded ∙ ap (λ (es : List (ℕ × ℕ)). keys_of es) shows in
    let done : (s : ℕ) → Contains ks s ↔ IsSome (ends s) = λ s. (
      λ has. IsSome-lookup_from_Contains (eq_by_cmp_equiv nat_cmp_total) s c.args.ends.now.entries (subst (λ (x : List ℕ). Contains x s) all has),
      λ some. subst (λ (x : List ℕ). Contains x s) (sym all) (Contains-keys_from_lookup same_number s c.args.ends.now.entries some),
    ) in
    cuts_settled _ _ seal size d.Tells d.time d.opened d.faults laws ends j k ks c.args.dev.now c.loop-section.dev c.loop-section.invariant done settled s u held

pub returns-clause-over : goal.returns-clause-over
returns-clause-over g c =
    c.loop-section.invariant.journal

pub returns-clause-proven : goal.returns-clause-proven
returns-clause-proven g c =
    c.loop-section.invariant.proven

pub returns-clause-unopened : goal.returns-clause-unopened
returns-clause-unopened g c s =
    c.loop-section.invariant.walked.unopened s

pub returns-clause-bounds : goal.returns-clause-bounds
returns-clause-bounds g c =
    c.loop-section.invariant.walked.bounds

pub returns-clause-faults : goal.returns-clause-faults
returns-clause-faults g c =
    c.loop-section.invariant.tried.tried.faults

pub returns-clause-moments : goal.returns-clause-moments
returns-clause-moments g c t =
    let d = g.D.Device in
    let laws = page_laws g.row.S g.S.Seal g.S.Seal-dict in
    let seal = g.S.Seal.seal_of in
    let size = g.I.CodecFixed.SIZE in
    let ends = get nat_cmp c.args.ends.now in
    let j = shown c.args.index in
    cuts_moments _ _ seal size d.Tells d.time d.opened d.faults laws ends j c.args.dev.now c.loop-section.dev c.requires.over c.requires.proven c.loop-section.invariant.tried t

pub returns-clause-idle : goal.returns-clause-idle
returns-clause-idle g c within =
    let d = g.D.Device in
    let laws = page_laws g.row.S g.S.Seal g.S.Seal-dict in
    let seal = g.S.Seal.seal_of in
    let size = g.I.CodecFixed.SIZE in
    let ends = get nat_cmp c.args.ends.now in
    let j = shown c.args.index in
    cuts_idle _ _ seal size d.Tells d.time d.opened d.faults laws ends j c.args.dev.now c.loop-section.dev c.requires.over c.requires.proven c.loop-section.invariant.tried within

pub returns-clause-entries : goal.returns-clause-entries
returns-clause-entries g c q none =
    let d = g.D.Device in
    let laws = page_laws g.row.S g.S.Seal g.S.Seal-dict in
    let seal = g.S.Seal.seal_of in
    let size = g.I.CodecFixed.SIZE in
    let ends = get nat_cmp c.args.ends.now in
    let j = shown c.args.index in
    cuts_entries _ _ seal size d.Tells d.time d.opened d.faults laws ends j c.args.dev.now c.loop-section.dev c.requires.over c.requires.proven c.loop-section.invariant.tried q none
