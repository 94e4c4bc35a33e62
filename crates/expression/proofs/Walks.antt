-- The end of the check of a page.
use Rattle.std.proofs.Common.{◌≡◌, ℕ, ◌≤◌, min, List, [], ◌∷◌, length, is_ok, Ok, Err, Decides, Result, sym, ap, ◌∙◌, subst, arith, refl}
use Rattle.fault.specs.declared.Cause.{Cause}
use Rattle.page.specs.declared.Entry.{Entry}
use Rattle.page.specs.Pages.{paired}
use Rattle.page.proofs.Pairs.{length-paired}
use Rattle.language.specs.declared.ValueType.{ValueType}
use Rattle.language.specs.Checking.{after_entries, at_end, checked}
use Rattle.language.specs.Codes.{bool}
use Rattle.language.specs.Expressions.{Postfix, Scope}
use Rattle.language.proofs.Exact.{exact}

no_pairs : (ls rs : List ℕ) → min (length ls) (length rs) ≡ 0 → paired ls rs ≡ []
no_pairs [] rs e = refl
no_pairs (l ∷ ls) [] e = refl
no_pairs (l ∷ ls) (r ∷ rs) e = absurd (omega arith)

-- Where no entries are left, what waits decides.
pub ends_page : (sc : Scope) (ls rs ms ns : List ℕ) (i n : ℕ) (ws : List ValueType) → after_entries sc i (paired ms ns) ws ≡ after_entries sc 0 (paired ls rs) []
    → min (length ms) (length ns) ≡ 0 → n ≡ min (length ls) (length rs) → at_end n ws ≡ checked sc (paired ls rs)
ends_page sc ls rs ms ns i n ws inv none e =
    ap (λ (m : ℕ). at_end m ws) (e ∙ sym (length-paired ls rs))
    ∙ ap (finished (length (paired ls rs))) (ap (λ (es : List Entry). after_entries sc i es ws) (sym (no_pairs ms ns none)) ∙ inv)
  where
    finished : ℕ → Result (List ValueType) Cause → Result (Unit {0}) Cause
    finished m o = elim o [ Ok ws ↦ at_end m ws | Err cause ↦ Err cause ]

-- What the check answers is right of the page.
pub exact_of : (sc : Scope) (es : List Entry) (r : Result (Unit {0}) Cause) → r ≡ checked sc es → length es ≤ 1024 → Decides (is_ok r) (Postfix sc es bool)
exact_of sc es r e h = subst (λ (o : Result (Unit {0}) Cause). Decides (is_ok o) (Postfix sc es bool)) (sym e) (exact sc es h)
