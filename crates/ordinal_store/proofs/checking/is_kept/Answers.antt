use Rattle.std.proofs.Common.{List, Bool, Option, true, sym, refl, subst}
use Rattle.std.specs.Prelude.{◌↔◌, IsTrue}
use Rattle.std.proofs.lemmas.Bool.{lt-ltb}
use Rattle.ordinal_store.specs.Reopening.{HasWanted}
use Rattle.ordinal_store.proofs.MarkLemmas.{kept_of}
use Rattle.ordinal_store.proofs.checking.is_kept.Goals as goal

pub returns-in-None : goal.returns-in-None
returns-in-None c items some = subst (λ (m : Option (List Bool)). IsTrue true ↔ HasWanted items m) (sym c.in-None.is) (λ is. (0, lt-ltb 0 items some), λ wanted. refl)

pub returns-in-Some : goal.returns-in-Some
returns-in-Some c items some = subst (λ (m : Option (List Bool)). IsTrue c.is_some.result ↔ HasWanted items m) (sym c.in-Some.is) (kept_of items c.in-Some.bits c.first_marked.result c.is_some.result c.is_some.ensures c.first_marked.ensures)
