-- What the guard finds is what the lists hold.
use Rattle.std.proofs.Common.{◌≡◌, ℕ, ◌+◌, Bool, true, false, cond, ◌&&◌, leb, List, [], ◌∷◌, map, length, take, drop, Some, None, sym, refl, ap, ◌∙◌, zero-add, arith}
use Rattle.std.proofs.lemmas.List.{length-append, length-drop, length-take-le}
use Rattle.std.proofs.lemmas.Bool.{and_parts}
use Rattle.std.proofs.lemmas.Bool.Decides.{nat_tests}
use Rattle.page.specs.declared.Entry.{Entry}
use Rattle.records.specs.declared.lists.Clause.{Clause}
use Rattle.records.specs.declared.lists.Declaration.{Declaration}
use Rattle.records.specs.declared.lists.DeclarationKind.{DeclarationKind}
use Rattle.records.specs.declared.lists.DeclarationKind.TheVariants.{Constants, Globals}
use Rattle.records.specs.declared.lists.Totals.{Totals}
use Rattle.records.specs.Kinds.{same_declaration}
use Rattle.records.specs.Book.{declared_as, procedures_in, constants, globals, procedures}
use Rattle.records.specs.Held.{Stored, book_in, clauses_fit, declaration_fits, declarations_fit, declared_in, parameters_fit, sound, sound_book, within_limits}
use Rattle.records.specs.Sizes.{adding, few, none, procedure_count, size_of, surveyed}

-- The entries of records that fit are as many as the records say.
pub length-declared_as : (es : List Entry) (kind : DeclarationKind) (ds : List Declaration) → declarations_fit (length es) ds ≡ true
    → length (declared_as kind (map (declared_in es) ds)) ≡ size_of kind ds
length-declared_as es kind [] h = refl
length-declared_as es kind (d ∷ ds) h =
    let p = and_parts (declaration_fits (length es) d) (declarations_fit (length es) ds) h in
    let q = and_parts (leb (d.start + (d.a + d.b)) (length es)) (parameters_fit d) p.0 in
    length-append (cond (same_declaration d.kind kind) (take (d.a + d.b) (drop d.start es)) []) (declared_as kind (map (declared_in es) ds))
    ∙ ap (λ (n : ℕ). n + length (declared_as kind (map (declared_in es) ds))) (one (same_declaration d.kind kind) q.0)
    ∙ ap (λ (n : ℕ). cond (same_declaration d.kind kind) (d.a + d.b) 0 + n) (length-declared_as es kind ds p.1)
  where
    one : (b : Bool) → leb (d.start + (d.a + d.b)) (length es) ≡ true → length (cond b (take (d.a + d.b) (drop d.start es)) []) ≡ cond b (d.a + d.b) 0
    one true g = length-take-le (d.a + d.b) (drop d.start es) (let e = length-drop d.start es in grind (arith, nat_tests))
    one false g = refl

pub length-procedures_in : (es : List Entry) (ds : List Declaration) → length (procedures_in (map (declared_in es) ds)) ≡ procedure_count ds
length-procedures_in es [] = refl
length-procedures_in es (d ∷ ds) = let e = length-procedures_in es ds in grind (arith, nat_tests)

module _ (es : List Entry) (cs : List Clause) (ds : List Declaration) where
  abbrev these : Stored
  these = record { declarations = ds; clauses = cs; entries = es }

  -- The book's limits, where the records fit.
  limits : declarations_fit (length es) ds ≡ true → within_limits (book_in these) ≡ few (adding none ds)
  limits h =
      let a = length-declared_as es Constants ds h in
      let b = length-declared_as es Globals ds h in
      let c = length-procedures_in es ds in
      grind (arith, nat_tests)

  -- Soundness is what the survey and the test of the clauses find together.
  pub sound_is : sound these ≡ ((declarations_fit (length es) ds && few (adding none ds)) && clauses_fit (length es) (procedure_count ds) [] cs)
  sound_is = by (declarations_fit (length es) ds) refl
    where
      by : (b : Bool) → declarations_fit (length es) ds ≡ b
          → sound these ≡ ((declarations_fit (length es) ds && few (adding none ds)) && clauses_fit (length es) (procedure_count ds) [] cs)
      by false e = rw e
      by true e =
          rw e
          (rw (limits e)
          (ap (λ (n : ℕ). few (adding none ds) && clauses_fit (length es) n [] cs) (length-procedures_in es ds)))

  -- Where the survey finds nothing, no book is held.
  pub no_survey : None ≡ surveyed (length es) none ds → None ≡ sound_book these
  no_survey e = rw sound_is (fails (declarations_fit (length es) ds && few (adding none ds)) e)
    where
      fails : (b : Bool) → None ≡ cond b (Some (adding none ds)) None → None ≡ cond (b && clauses_fit (length es) (procedure_count ds) [] cs) (Some (book_in these)) None
      fails true i = let z : ◌≡◌ {A = ℕ} 0 1 = cc in absurd (omega arith)
      fails false i = refl

  -- The survey found totals, which are those of the book.
  pub record Surveyed (t : Totals) : Type 0 where
    pub fits : (declarations_fit (length es) ds && few (adding none ds)) ≡ true
    pub totals : t ≡ adding none ds

  pub surveys : (t : Totals) → Some t ≡ surveyed (length es) none ds → Surveyed t
  surveys t e = by (declarations_fit (length es) ds && few (adding none ds)) refl e
    where
      by : (b : Bool) → (declarations_fit (length es) ds && few (adding none ds)) ≡ b → Some t ≡ cond b (Some (adding none ds)) None → Surveyed t
      by true f i = record { fits = f; totals = cc }
      by false f i = let z : ◌≡◌ {A = ℕ} 0 1 = cc in absurd (omega arith)

  count-is : (t : Totals) → Surveyed t → t.procedures ≡ procedure_count ds
  count-is t s = ap (λ (u : Totals). u.procedures) s.totals ∙ zero-add (procedure_count ds)

  pub held_by : (t : Totals) → Some t ≡ surveyed (length es) none ds → (b : Bool) → b ≡ clauses_fit (length es) t.procedures [] cs
      → cond b (Some (book_in these)) None ≡ sound_book these
  held_by t e b f =
      let s = surveys t e in
      rw sound_is
      (rw s.fits
      (ap (λ (x : Bool). cond x (Some (book_in these)) None) (f ∙ ap (λ (n : ℕ). clauses_fit (length es) n [] cs) (count-is t s))))

  -- Those totals are the book's, and within the limits.
  pub counts : (t : Totals) → Some t ≡ surveyed (length es) none ds
      → (t.constants ≡ length (constants (book_in these))) × (t.globals ≡ length (globals (book_in these))) × (t.procedures ≡ length (procedures (book_in these)))
      × (few t ≡ true)
  counts t e =
      let s = surveys t e in
      let p = and_parts (declarations_fit (length es) ds) (few (adding none ds)) s.fits in (
        ap (λ (u : Totals). u.constants) s.totals ∙ zero-add (size_of Constants ds) ∙ sym (length-declared_as es Constants ds p.0),
        ap (λ (u : Totals). u.globals) s.totals ∙ zero-add (size_of Globals ds) ∙ sym (length-declared_as es Globals ds p.0),
        count-is t s ∙ sym (length-procedures_in es ds),
        ap few s.totals ∙ p.1,
      )
