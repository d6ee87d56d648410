-- What the six bytes of a slot say, as they were read: when it matches, and how long it is.
use Rattle.std.proofs.Common.{◌≡◌, ◌≢◌, ◌+◌, ◌<◌, ◌^◌, ◌≤◌, ◌++◌, ◌∙◌, ℕ, Bool, List, [], ◌∷◌, length, get_or, take, ap, sym, arith}
use Rattle.std.specs.Int.{w16, w32, from_be_bytes}
use Rattle.sealed_pages.specs.View.{view, bytes_at, page_at, slot_at}
use Rattle.sealed_pages.specs.Slots.{named_length, named_seal, computed_seal, slot_length}
use Rattle.sealed_pages.proofs.looking.Looking.{two_at, four_at, prefix_at}
use Rattle.sealed_pages.specs.lemmas.looking.Looking.{page_zero, slot_long, slot_right, slot_short, slot_wrong}
use Rattle.sealed_pages.specs.lemmas.slots.Steps.{slot_low}

module _ (seal : List ℕ → ℕ) (P : ℕ) (page : List ℕ) (b : Bool) (at : ℕ) (is : at ≡ slot_at P 0 b) where
  -- it does not stand whole in the page
  pub cut_short : length page < at + 6 → 0 ≡ slot_length seal P page 0 b
  cut_short short = sym (slot_short seal P page 0 b (omega (arith, is, short)))

  module _ (n : ℕ) (n_is : n ≡ from_be_bytes w16 (get_or page at 0 ∷ get_or page (at + 1) 0 ∷ [])) where
    named : named_length (view page) (slot_at P 0 b) ≡ n
    named = ap (named_length (view page)) (sym is) ∙ ap (from_be_bytes w16) (two_at page at) ∙ sym n_is

    -- it names more than a page has
    pub names_more : P < n → 0 ≡ slot_length seal P page 0 b
    names_more more = sym (slot_long seal P page 0 b (omega (arith, named, more)))

    -- it names no more: the seal that it names, and the seal over the bytes
    module _ (stands : at + 6 ≤ length page) (small : P < 2 ^ 16) (short : n ≤ P) (made told : ℕ) (made_is : made ≡ seal ((get_or page at 0 ∷ get_or page (at + 1) 0 ∷ []) ++ take n page))
        (told_is : told ≡ from_be_bytes w32 (get_or page (at + 2) 0 ∷ get_or page (at + 3) 0 ∷ get_or page (at + 4) 0 ∷ get_or page (at + 5) 0 ∷ [])) where
      whole : slot_at P 0 b + 6 ≤ length page
      whole = omega (arith, is, stands)

      places : page_at P 0 + (P + 12) < 2 ^ 64
      places = omega (arith, page_zero P, small)

      names_less : named_length (view page) (slot_at P 0 b) ≤ P
      names_less = omega (arith, named, short)

      two : bytes_at (view page) (slot_at P 0 b) 2 ≡ get_or page at 0 ∷ get_or page (at + 1) 0 ∷ []
      two = ap (λ (a : ℕ). bytes_at (view page) a 2) (sym is) ∙ two_at page at

      covered : bytes_at (view page) (page_at P 0) (named_length (view page) (slot_at P 0 b)) ≡ take n page
      covered = ap (bytes_at (view page) (page_at P 0)) named ∙ prefix_at P n page (omega (arith, short, stands, is, page_zero P, slot_low P 0 b))

      made_as : computed_seal seal P (view page) (page_at P 0) (slot_at P 0 b) (named_length (view page) (slot_at P 0 b)) ≡ made
      made_as = (λ t. seal (two t ++ covered t)) ∙ sym made_is

      told_as : named_seal (view page) (slot_at P 0 b) ≡ told
      told_as = ap (named_seal (view page)) (sym is) ∙ ap (from_be_bytes w32) (four_at page at) ∙ sym told_is

      pub no_match : made ≢ told → 0 ≡ slot_length seal P page 0 b
      no_match differ = sym (slot_wrong seal P page 0 b whole places names_less (λ e. differ (sym made_as ∙ e ∙ told_as)))

      pub is_match : made ≡ told → n ≡ slot_length seal P page 0 b
      is_match same = sym (slot_right seal P page 0 b whole places names_less (made_as ∙ same ∙ sym told_as) ∙ named)
