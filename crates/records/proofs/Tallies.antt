-- A tally of clauses by rows, and the steps of the test that each clause fits.
use Rattle.std.proofs.Common.{◌≡◌, ℕ, ◌+◌, ◌<◌, ◌≤◌, Bool, true, false, cond, ◌&&◌, eqb, List, [], ◌∷◌, ◌++◌, length, get_or, take, drop, set, replicate, sym, refl, ap, ◌∙◌, subst, inl, inr, arith}
use Rattle.std.proofs.lemmas.List.{drop_more, take_more, get_or-set_same, get_or-set_other, get_or-replicate, length-take-le}
use Rattle.std.proofs.lemmas.Bool.{cases_eq, eq-eqb, ne_eqb}
use Rattle.std.proofs.lemmas.Bool.Decides.{nat_tests}
use Rattle.records.specs.declared.lists.Clause.{Clause}
use Rattle.records.specs.declared.lists.ClauseKind.{ClauseKind}
use Rattle.records.specs.declared.lists.ClauseKind.TheVariants.{Axiom, Requires, Ensures, Modifies}
use Rattle.records.specs.Book.{belongs}
use Rattle.records.specs.Held.{clause_fits, clauses_fit, count_of, is_full}
use Rattle.records.specs.Sizes.{Tallied, has_row, lies, row_of}
use Rattle.records.proofs.Steps.{no_clause}

-- One clause more counts where it belongs.
pub count_of-push : (kind : ClauseKind) (p : ℕ) (cs : List Clause) (c : Clause)
    → count_of kind p (cs ++ (c ∷ [])) ≡ count_of kind p cs + cond (belongs kind p c.kind c.procedure) 1 0
count_of-push kind p [] c = grind (arith, nat_tests)
count_of-push kind p (b ∷ cs) c = let e = count_of-push kind p cs c in grind (arith, nat_tests)

pub count_of_le : (kind : ClauseKind) (p : ℕ) (cs : List Clause) → count_of kind p cs ≤ length cs
count_of_le kind p [] = omega arith
count_of_le kind p (b ∷ cs) = let e = count_of_le kind p cs in grind (arith, nat_tests)

-- Clauses share a row exactly where they count together.
pub row_same : (k : ClauseKind) (p : ℕ) (l : ClauseKind) (q : ℕ) → has_row k p ≡ true → has_row l q ≡ true → eqb (row_of l q) (row_of k p) ≡ belongs k p l q
row_same Axiom p Axiom q g h = refl
row_same Axiom p Requires q g h = grind (arith, nat_tests)
row_same Axiom p Ensures q g h = grind (arith, nat_tests)
row_same Axiom p Modifies q g h = grind (arith, nat_tests)
row_same Requires p Axiom q g h = grind (arith, nat_tests)
row_same Requires p Requires q g h = grind (arith, nat_tests)
row_same Requires p Ensures q g h = grind (arith, nat_tests)
row_same Requires p Modifies q g h = grind (arith, nat_tests)
row_same Ensures p Axiom q g h = grind (arith, nat_tests)
row_same Ensures p Requires q g h = grind (arith, nat_tests)
row_same Ensures p Ensures q g h = grind (arith, nat_tests)
row_same Ensures p Modifies q g h = grind (arith, nat_tests)
row_same Modifies p Axiom q g h = grind (arith, nat_tests)
row_same Modifies p Requires q g h = grind (arith, nat_tests)
row_same Modifies p Ensures q g h = grind (arith, nat_tests)
row_same Modifies p Modifies q g h = grind (arith, nat_tests)

pub row_below : (k : ClauseKind) (p : ℕ) → has_row k p ≡ true → row_of k p < 193
row_below Axiom p g = omega arith
row_below Requires p g = grind (arith, nat_tests)
row_below Ensures p g = grind (arith, nat_tests)
row_below Modifies p g = grind (arith, nat_tests)

-- Rows of zeros count no clause.
pub tallied_none : Tallied (replicate 193 0) []
tallied_none kind p h = get_or-replicate 193 (row_of kind p) 0 0 (row_below kind p h)

-- One clause more, in its row.
pub tallied_more : (tally : List ℕ) (cs : List Clause) (c : Clause) → Tallied tally cs → length tally ≡ 193 → has_row c.kind c.procedure ≡ true
    → Tallied (set tally (row_of c.kind c.procedure) (get_or tally (row_of c.kind c.procedure) 0 + 1)) (cs ++ (c ∷ []))
tallied_more tally cs c t n r kind p h =
    let s = row_same kind p c.kind c.procedure h r in
    let e = count_of-push kind p cs c in
    let b = row_below c.kind c.procedure r in
    let old = t kind p h in
    elim (cases_eq (row_of kind p) (row_of c.kind c.procedure)) [
      | inl i ↦ same i s e b old
      | inr i ↦ other i s e old
    ]
  where
    same : row_of kind p ≡ row_of c.kind c.procedure → eqb (row_of c.kind c.procedure) (row_of kind p) ≡ belongs kind p c.kind c.procedure
        → count_of kind p (cs ++ (c ∷ [])) ≡ count_of kind p cs + cond (belongs kind p c.kind c.procedure) 1 0
        → row_of c.kind c.procedure < 193
        → get_or tally (row_of kind p) 0 ≡ count_of kind p cs
        → get_or (set tally (row_of c.kind c.procedure) (get_or tally (row_of c.kind c.procedure) 0 + 1)) (row_of kind p) 0 ≡ count_of kind p (cs ++ (c ∷ []))
    same i s e b old =
        ap (λ (x : ℕ). get_or (set tally (row_of c.kind c.procedure) (get_or tally (row_of c.kind c.procedure) 0 + 1)) x 0) i
        ∙ get_or-set_same tally (row_of c.kind c.procedure) (get_or tally (row_of c.kind c.procedure) 0 + 1) 0 (omega arith)
        ∙ ap (λ (x : ℕ). x + 1) (ap (λ (x : ℕ). get_or tally x 0) (sym i) ∙ old)
        ∙ ap (λ (x : Bool). count_of kind p cs + cond x 1 0) (sym (eq-eqb (row_of c.kind c.procedure) (row_of kind p) (sym i)) ∙ s)
        ∙ sym e

    other : (row_of kind p ≡ row_of c.kind c.procedure → ⊥) → eqb (row_of c.kind c.procedure) (row_of kind p) ≡ belongs kind p c.kind c.procedure
        → count_of kind p (cs ++ (c ∷ [])) ≡ count_of kind p cs + cond (belongs kind p c.kind c.procedure) 1 0
        → get_or tally (row_of kind p) 0 ≡ count_of kind p cs
        → get_or (set tally (row_of c.kind c.procedure) (get_or tally (row_of c.kind c.procedure) 0 + 1)) (row_of kind p) 0 ≡ count_of kind p (cs ++ (c ∷ []))
    other i s e old =
        let w : ◌≡◌ {A = ℕ} (cond (belongs kind p c.kind c.procedure) 1 0) 0 =
        ap (λ (x : Bool). cond x 1 0) (sym s ∙ ne_eqb (row_of c.kind c.procedure) (row_of kind p) (λ j. i (sym j))) in
        get_or-set_other tally (row_of c.kind c.procedure) (row_of kind p) (get_or tally (row_of c.kind c.procedure) 0 + 1) 0 i
        ∙ old ∙ omega (arith, e, w)

-- A clause that lies where it may has a row.
pub lies_row : (count procedures : ℕ) (c : Clause) → procedures ≤ 64 → true ≡ lies count procedures c → has_row c.kind c.procedure ≡ true
lies_row count procedures c h e = grind (arith, nat_tests)

-- The row of a clause counts the clauses that share its limit.
pub row_counts : (tally : List ℕ) (cs : List Clause) (c : Clause) (row : ℕ) → Tallied tally cs → has_row c.kind c.procedure ≡ true → row ≡ row_of c.kind c.procedure
    → get_or tally row 0 ≡ count_of c.kind c.procedure cs
row_counts tally cs c row t r e = ap (λ (x : ℕ). get_or tally x 0) e ∙ t c.kind c.procedure r

-- One clause more at i, in the row that it was told.
pub tallied_at : (tally : List ℕ) (cs : List Clause) (i row : ℕ) → i < length cs → Tallied tally (take i cs) → length tally ≡ 193
    → has_row (get_or cs i no_clause).kind (get_or cs i no_clause).procedure ≡ true
    → row ≡ row_of (get_or cs i no_clause).kind (get_or cs i no_clause).procedure
    → Tallied (set tally row (get_or tally row 0 + 1)) (take (i + 1) cs)
tallied_at tally cs i row h t n r e =
    subst (λ (l : List Clause). Tallied (set tally row (get_or tally row 0 + 1)) l) (sym (take_more cs i no_clause h))
    (subst (λ (x : ℕ). Tallied (set tally x (get_or tally x 0 + 1)) (take i cs ++ (get_or cs i no_clause ∷ []))) (sym e)
    (tallied_more tally (take i cs) (get_or cs i no_clause) t n r))

-- So few clauses leave room for one more in the count.
pub count_below : (kind : ClauseKind) (p : ℕ) (cs : List Clause) (i : ℕ) → i ≤ length cs → count_of kind p (take i cs) ≤ i
count_below kind p cs i h = let l = length-take-le i cs h in let e = count_of_le kind p (take i cs) in omega arith

-- A test that has come to the clause at i; `whole` is what it is to answer.
module _ (count procedures : ℕ) (cs : List Clause) (i : ℕ) (whole : Bool) (inv : clauses_fit count procedures (take i cs) (drop i cs) ≡ whole) where
  abbrev here : Clause
  here = get_or cs i no_clause

  step : i < length cs → (clause_fits count procedures (take i cs) here && clauses_fit count procedures (take i cs ++ (here ∷ [])) (drop (i + 1) cs)) ≡ whole
  step h = ap (λ (l : List Clause). clauses_fit count procedures (take i cs) l) (sym (drop_more cs i no_clause h)) ∙ inv

  pub fit_more : i < length cs → (n : ℕ) → n ≡ count_of here.kind here.procedure (take i cs) → false ≡ is_full here.kind n → true ≡ lies count procedures here
      → clauses_fit count procedures (take (i + 1) cs) (drop (i + 1) cs) ≡ whole
  fit_more h n e f g =
      ap (λ (l : List Clause). clauses_fit count procedures l (drop (i + 1) cs)) (take_more cs i no_clause h)
      ∙ more (ap (λ (x : ℕ). is_full here.kind x) (sym e) ∙ sym f) ∙ step h
    where
      more : is_full here.kind (count_of here.kind here.procedure (take i cs)) ≡ false
          → clauses_fit count procedures (take i cs ++ (here ∷ [])) (drop (i + 1) cs)
          ≡ (clause_fits count procedures (take i cs) here && clauses_fit count procedures (take i cs ++ (here ∷ [])) (drop (i + 1) cs))
      more n = grind (arith, nat_tests)
