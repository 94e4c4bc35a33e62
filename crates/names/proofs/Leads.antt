-- Searches for the first element that fails a test.
use Rattle.std.proofs.Common.{◌≡◌, ℕ, ◌+◌, ◌<◌, ◌≤◌, Bool, cond, true, false, ◌||◌, List, [], ◌∷◌, ◌++◌, length, get_or, take, drop, is_some, Some, None, Option, refl, ap, ◌∙◌}
use Rattle.std.proofs.lemmas.List.{drop_all, drop_more, take_more}
use Rattle.std.specs.List.{prefix_len, zip}
use Rattle.page.specs.Pages.{paired}
use Rattle.page.specs.declared.Entry.{Entry}
use Rattle.language.specs.declared.ValueType.{ValueType}
use Rattle.language.specs.Expressions.{type_of}
use Rattle.records.specs.Found.{or_else}
use Rattle.records.proofs.Finds.{type_of-append}
use Rattle.names.specs.Names.{fresh}
use Rattle.language.specs.Expressions.{has}
use Rattle.language.specs.Lists.{member}

-- A test of pairs of numbers is one of entries.
pub prefix_len-zip : (p : Entry → Bool) (ls rs : List ℕ) → prefix_len (λ (n : ℕ × ℕ). p (record { left = n.0; right = n.1 })) (zip ls rs) ≡ prefix_len p (paired ls rs)
prefix_len-zip p [] rs = refl
prefix_len-zip p (l ∷ ls) [] = refl
prefix_len-zip p (l ∷ ls) (r ∷ rs) = ap (λ (n : ℕ). cond (p (record { left = l; right = r })) (1 + n) 0) (prefix_len-zip p ls rs)

-- The search for the first name that is taken, or that stands among those before it, at index i.
module _ (taken : List Entry) (xs : List ℕ) (i : ℕ) where
  pub fresh_stops : i < length xs → (has (get_or xs i 0) taken || member (get_or xs i 0) (take i xs)) ≡ true → fresh taken (take i xs) (drop i xs) ≡ 0
  fresh_stops h e = rw (drop_more xs i 0 h, fresh, e) refl

  pub fresh_goes : i < length xs → (has (get_or xs i 0) taken || member (get_or xs i 0) (take i xs)) ≡ false → fresh taken (take i xs) (drop i xs) ≡ 1 + fresh taken (take (i + 1) xs) (drop (i + 1) xs)
  fresh_goes h e = rw (drop_more xs i 0 h, fresh, e, take_more xs i 0 h) refl

  pub fresh_ends : length xs ≤ i → fresh taken (take i xs) (drop i xs) ≡ 0
  fresh_ends h = ap (λ (l : List ℕ). fresh taken (take i xs) l) (drop_all i xs h)

-- A name is in two lists together where it is in one of them.
pub has_append : (name : ℕ) (xs ys : List Entry) → has name (xs ++ ys) ≡ (has name xs || has name ys)
has_append name xs ys = ap is_some (type_of-append name xs ys) ∙ either (type_of name xs)
  where
    either : (o : Option ValueType) → is_some (or_else o (type_of name ys)) ≡ (is_some o || has name ys)
    either None = refl
    either (Some t) = refl
