use Rattle.std.specs.declared.alloc.Global.{Global}
use Rattle.lru.specs.LruCache.{LruCache}
use Rattle.std.proofs.Common.{Vec, rules, ◌≡◌, ◌∷◌, ◌∙◌, ℕ, length, take, Some, ap, sym, arith}
use Rattle.std.specs.NonZero.{non_zero_usize_get}
use Rattle.sealed_pages.specs.Cached.{entries_of, held_in}
use Rattle.sealed_pages.proofs.memory.CacheLemmas.{put_shown, held_most}
use Rattle.sealed_pages.proofs.cache.PageCache.put.Goals as goal
use Rattle.sealed_pages.proofs.cache.PageCache.put.Goals.{In-Ok}

-- as many are held at most as before
cap : (c : In-Ok) → non_zero_usize_get c.in-Some.cap ≡ c.args.self.most
cap c = search rules

-- the map then: this page in front of those before, as far as there is room
held : (c : In-Ok) → entries_of (Some c.put.new.self) ≡ take c.args.self.most ((c.args.page, c.args.bytes.now) ∷ held_in c.args.self)
held c =
    let same : c.in_ok-copy.copy.items ≡ c.args.bytes.now = search rules in
    put_shown c.in_ok-pages.pages c.put.new.self _ c.args.self.most c.args.page c.in_ok-copy.copy (held_in c.args.self) c.args.bytes.now c.in-Ok.ensures.entries
    (c.in_ok-pages.ensures.cap ∙ cap c) (search (rules, cap c)) c.in_ok-pages.ensures.pages same c.requires

pub returns-in-Ok-clause-pages : goal.returns-in-Ok-clause-pages
returns-in-Ok-clause-pages c = held (goal.at.returns-in-Ok-clause-pages c).In-Ok

pub invariant_of-result : goal.invariant_of-result
invariant_of-result c =
    let ok = (goal.at.invariant_of-result c).In-Ok in
    let size : c.put.new.self.cap ≡ c.args.self.most = search (rules, cap ok) in
    let few = held_most c.put.new.self c.args.self.most c.args.page (held_in c.args.self) c.args.bytes.now (held ok) in
    record { bound = λ x is. let same : c.put.new.self ≡ x = cc is in (ap (λ (m : LruCache ℕ (Vec ℕ Global)). m.cap) (sym same) ∙ size, omega (arith, few, ap (λ (m : LruCache ℕ (Vec ℕ Global)). length m.entries) same)) }
