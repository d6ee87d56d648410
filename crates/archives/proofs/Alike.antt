-- An archive that files its records as another one does goes on as that one does.
use Rattle.std.proofs.Common.{◌≡◌, sym, ap, subst, ℕ}
use Rattle.std.specs.Prelude.{⊤}
use Rattle.sealed_pages.specs.declared.page_blob.PageBlob.{PageBlob}
use Rattle.paired.specs.Crashes.{IsOwn}
use Rattle.archives.specs.Changes.{IsAlike}
use Rattle.archives.specs.Filing.{Filing}
use Rattle.archives.specs.Machine.{Step}
use Rattle.archives.specs.Prunable.{Prunable, filing_by, meaning}
use Rattle.archives.specs.Standing.{Leaves}

pub alike_as : {A V F S : Type 0} {gs : _} (p : Prunable A V F (PageBlob S gs)) (a r : A) → filing_by p r ≡ filing_by p a → ((v : V) → p.Accepts a v → p.Accepts r v) → IsAlike (meaning p) a r
alike_as p a r same accepts =
    let items : (p.see r).items ≡ (p.see a).items = ap (λ (f : Filing). f.items) same in
    record {
      steps = λ st next command reply. (subst (λ (n : ℕ). Step n st command reply next) (sym items), subst (λ (n : ℕ). Step n st command reply next) items);
      leaves = λ st under_way d. (subst (λ (f : Filing). Leaves f st under_way d) (sym same), subst (λ (f : Filing). Leaves f st under_way d) same);
      own = λ q. (subst (λ (f : Filing). IsOwn f.layout (λ _. ⊤) q) same, subst (λ (f : Filing). IsOwn f.layout (λ _. ⊤) q) (sym same));
      accepts = accepts;
      items = items;
    }
