-- The records that stand for none, and the steps of a survey.
use Rattle.std.proofs.Common.{◌≡◌, ℕ, ◌+◌, ◌<◌, true, false, List, ◌∷◌, length, get_or, drop, None, Option, sym, ap, ◌∙◌, add_assoc, arith}
use Rattle.std.proofs.lemmas.List.{at_drop_more}
use Rattle.std.proofs.lemmas.Bool.Decides.{nat_tests}
use Rattle.page.specs.declared.Entry.{Entry}
use Rattle.records.specs.declared.lists.Clause.{Clause}
use Rattle.records.specs.declared.lists.ClauseKind.TheVariants.{Axiom}
use Rattle.records.specs.declared.lists.Declaration.{Declaration}
use Rattle.records.specs.declared.lists.DeclarationKind.TheVariants.{Constants}
use Rattle.records.specs.declared.lists.Totals.{Totals}
use Rattle.records.specs.Held.{declaration_fits}
use Rattle.records.specs.Sizes.{Few, counting, few, surveyed}

abbrev pub no_declaration : Declaration
no_declaration = record { kind = Constants; name = 0; start = 0; a = 0; b = 0 }

abbrev pub no_entry : Entry
no_entry = record { left = 0; right = 0 }

abbrev pub no_clause : Clause
no_clause = record { kind = Axiom; procedure = 0; start = 0; count = 0 }

-- A survey that has come to the record at i, with totals t so far; `whole` is what it is to answer.
module _ (count : ℕ) (ds : List Declaration) (i : ℕ) (t : Totals) (whole : Option Totals) (inv : surveyed count t (drop i ds) ≡ whole) where
  abbrev here : Declaration
  here = get_or ds i no_declaration

  step : i < length ds → surveyed count t (here ∷ drop (i + 1) ds) ≡ whole
  step h = sym (at_drop_more (surveyed count t) ds i no_declaration h) ∙ inv

  pub survey_many : i < length ds → (t' : Totals) → t' ≡ counting here t → false ≡ few t' → None ≡ whole
  survey_many h t' e f = many here (drop (i + 1) ds) (f ∙ ap few e) ∙ step h
    where
      many : (d : Declaration) (rest : List Declaration) → false ≡ few (counting d t) → None ≡ surveyed count t (d ∷ rest)
      many d rest n = grind (arith, nat_tests)

  pub survey_more : i < length ds → (t' : Totals) → t' ≡ counting here t → true ≡ declaration_fits count here → surveyed count t' (drop (i + 1) ds) ≡ whole
  survey_more h t' e f = ap (λ u. surveyed count u (drop (i + 1) ds)) e ∙ more (drop (i + 1) ds) ∙ step h
    where
      more : (rest : List Declaration) → surveyed count (counting here t) rest ≡ surveyed count t (here ∷ rest)
      more rest = rw (← f) (simp add_assoc)

pub few_few : (t : Totals) → true ≡ few t → Few t
few_few t e = grind (arith, nat_tests)
