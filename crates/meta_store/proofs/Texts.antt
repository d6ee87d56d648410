-- A sealed copy, as it is written part by part.
use Rattle.std.proofs.Common.{◌≡◌, ℕ, List, [], ◌++◌, length, ◌∙◌, ap}
use Rattle.std.specs.Int.{w32, w64, to_be_bytes}
use Rattle.meta_store.specs.declared.copy.Form.{Form}
use Rattle.meta_store.specs.Copies.{head_bytes, copy_bytes, form_bytes}

-- a copy that was written part by part
pub copy_written : (seal : List ℕ → ℕ) (version len sealed : ℕ) (form : Form) (body c0 c1 c2 c3 c4 c5 : List ℕ) → c0 ≡ [] → c1 ≡ c0 ++ to_be_bytes w64 version → c2 ≡ c1 ++ form_bytes form → c3 ≡ c2 ++ to_be_bytes w64 len
    → c4 ≡ c3 ++ body → c5 ≡ c4 ++ to_be_bytes w32 sealed → len ≡ length body → sealed ≡ seal c4 → c5 ≡ copy_bytes seal version form body
unfolding copy_bytes head_bytes
copy_written seal version len sealed form body c0 c1 c2 c3 c4 c5 e0 e1 e2 e3 e4 e5 long is =
    let head : c4 ≡ head_bytes version form body =
    e4 ∙ ap (λ l. l ++ body) (e3 ∙ ap (λ l. l ++ to_be_bytes w64 len) (e2 ∙ ap (λ l. l ++ form_bytes form) (e1 ∙ ap (λ l. l ++ to_be_bytes w64 version) e0))
    ∙ ap (λ (n : ℕ). to_be_bytes w64 version ++ form_bytes form ++ to_be_bytes w64 n) long) in
    e5 ∙ ap (λ (n : ℕ). c4 ++ to_be_bytes w32 n) is ∙ ap (λ l. l ++ to_be_bytes w32 (seal l)) head
