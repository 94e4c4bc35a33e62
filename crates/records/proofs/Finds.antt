-- Laws of look-ups.
use Rattle.std.proofs.Common.{◌≡◌, ℕ, ◌+◌, ◌<◌, Bool, true, false, cond, ◌||◌, is_some, ◌==◌, eqb, List, [], ◌∷◌, ◌++◌, map, length, get_or, take, drop, Some, None, Option, sym, refl, ap, ◌∙◌, arith}
use Rattle.std.proofs.lemmas.List.{at_drop_more}
use Rattle.std.proofs.lemmas.Bool.Decides.{nat_tests}
use Rattle.std.specs.List.{enumerate_from, filter, find, flat_map, list_any}
use Rattle.std.specs.Option.{option_flatten, option_map}
use Rattle.page.specs.declared.Entry.{Entry}
use Rattle.language.specs.declared.ValueType.{ValueType}
use Rattle.language.specs.Expressions.{has, type_of}
use Rattle.records.specs.declared.lists.Clause.{Clause}
use Rattle.records.specs.declared.lists.ClauseKind.{ClauseKind}
use Rattle.records.specs.declared.lists.Declaration.{Declaration}
use Rattle.records.specs.declared.lists.DeclarationKind.TheVariants.{Procedure}
use Rattle.records.specs.Book.{Declared, Numbered, belongs, numbered_from, procedures_in, stated_as}
use Rattle.records.specs.Found.{or_else}
use Rattle.records.specs.Held.{declared_in, stated_in}
use Rattle.records.specs.Kinds.{same_declaration}
use Rattle.records.proofs.Steps.{no_clause}

-- A look-up goes through the first list, and then through the second.
pub type_of-append : (name : ℕ) (xs ys : List Entry) → type_of name (xs ++ ys) ≡ or_else (type_of name xs) (type_of name ys)
type_of-append name [] ys = refl
type_of-append name (x ∷ xs) ys = by (eqb x.left name) (type_of-append name xs ys)
  where
    by : (b : Bool) → type_of name (xs ++ ys) ≡ or_else (type_of name xs) (type_of name ys)
        → cond b (Some (record { number = x.right })) (type_of name (xs ++ ys)) ≡ or_else (cond b (Some (record { number = x.right })) (type_of name xs)) (type_of name ys)
    by true e = refl
    by false e = e

-- What the first list with that name has is what the joined lists have.
pub first_has : {X Y : Type 0} (f : Y → List Entry) (g : X → Y) (name : ℕ) (xs : List X)
    → option_flatten (find is_some (map (λ x. type_of name (f (g x))) xs)) ≡ type_of name (flat_map f (map g xs))
first_has f g name [] = refl
first_has f g name (x ∷ xs) =
    by (type_of name (f (g x))) (find is_some (map (λ x. type_of name (f (g x))) xs)) (first_has f g name xs)
    ∙ sym (type_of-append name (f (g x)) (flat_map f (map g xs)))
  where
    by : (o : Option ValueType) (rest : Option (Option ValueType)) → option_flatten rest ≡ type_of name (flat_map f (map g xs))
        → option_flatten (cond (is_some o) (Some o) rest) ≡ or_else o (type_of name (flat_map f (map g xs)))
    by None rest h = h
    by (Some t) rest h = refl

pub option_map_twice : {X Y Z : Type 0} (f : Y → Z) (g : X → Y) (o : Option X) → option_map (λ x. f (g x)) o ≡ option_map f (option_map g o)
option_map_twice f g None = refl
option_map_twice f g (Some x) = refl

-- The look-up of a type is the search for the first entry of that name.
abbrev pub found_type : Entry → ValueType
found_type e = record { number = e.right }

pub type_found : (name : ℕ) (es : List Entry) → option_map found_type (find (λ e. e.left == name) es) ≡ type_of name es
type_found name [] = refl
type_found name (e ∷ es) = by (e.left == name) (type_found name es)
  where
    by : (b : Bool) → option_map found_type (find (λ e. e.left == name) es) ≡ type_of name es
        → option_map found_type (cond b (Some e) (find (λ e. e.left == name) es)) ≡ cond b (Some (found_type e)) (type_of name es)
    by true h = refl
    by false h = h

-- Joined lists have a name where one of them has it.
pub has_any : {X Y : Type 0} (f : Y → List Entry) (g : X → Y) (name : ℕ) (xs : List X)
    → list_any (λ x. has name (f (g x))) xs ≡ has name (flat_map f (map g xs))
has_any f g name [] = refl
has_any f g name (x ∷ xs) =
    ap (λ (b : Bool). has name (f (g x)) || b) (has_any f g name xs)
    ∙ (by (type_of name (f (g x))) (type_of name (flat_map f (map g xs))) ∙ sym (ap is_some (type_of-append name (f (g x)) (flat_map f (map g xs)))))
  where
    by : (a b : Option ValueType) → (is_some a || is_some b) ≡ is_some (or_else a b)
    by None b = refl
    by (Some t) b = refl

-- A count of clauses that has come to the one at i, n so far; `whole` is what it is to answer.
module _ (kind : ClauseKind) (p : ℕ) (es : List Entry) (cs : List Clause) (i n whole : ℕ)
    (inv : n + length (stated_as kind p (map (stated_in es) (drop i cs))) ≡ whole) where
  abbrev clause : Clause
  clause = get_or cs i no_clause

  counted : i < length cs → n + length (stated_as kind p (map (stated_in es) (clause ∷ drop (i + 1) cs))) ≡ whole
  counted h = ap (λ (k : ℕ). n + k) (sym (at_drop_more (λ l. length (stated_as kind p (map (stated_in es) l))) cs i no_clause h)) ∙ inv

  pub count_yes : i < length cs → true ≡ belongs kind p clause.kind clause.procedure → (m : ℕ) → m ≡ n + 1
      → m + length (stated_as kind p (map (stated_in es) (drop (i + 1) cs))) ≡ whole
  count_yes h e m k = let c = counted h in grind (arith, nat_tests)

  pub count_no : i < length cs → false ≡ belongs kind p clause.kind clause.procedure → (m : ℕ) → m ≡ n
      → m + length (stated_as kind p (map (stated_in es) (drop (i + 1) cs))) ≡ whole
  count_no h e m k = let c = counted h in grind (arith, nat_tests)

-- The first procedure of a name among the procedures, which are numbered from n on.
abbrev pub numbered_at : List Entry → ℕ × Declaration → Numbered
numbered_at es p = record { number = p.0; ins = p.1.a; parameters = take (p.1.a + p.1.b) (drop p.1.start es) }

abbrev pub is_procedure : Declaration → Bool
is_procedure d = same_declaration d.kind Procedure

pub procedure_found : (name : ℕ) (es : List Entry) (n : ℕ) (ds : List Declaration)
    → option_map (numbered_at es) (find (λ p. p.1.name == name) (enumerate_from n (filter is_procedure ds))) ≡ numbered_from n name (procedures_in (map (declared_in es) ds))
procedure_found name es n [] = refl
procedure_found name es n (d ∷ ds) = by (is_procedure d) (procedure_found name es n ds) (procedure_found name es (n + 1) ds)
  where
    rest : ℕ → Option (ℕ × Declaration)
    rest m = find (λ p. p.1.name == name) (enumerate_from m (filter is_procedure ds))

    named : (b : Bool) → option_map (numbered_at es) (rest (n + 1)) ≡ numbered_from (n + 1) name (procedures_in (map (declared_in es) ds))
        → option_map (numbered_at es) (cond b (Some (n, d)) (rest (n + 1)))
        ≡ cond b (Some (numbered_at es (n, d))) (numbered_from (n + 1) name (procedures_in (map (declared_in es) ds)))
    named true h = refl
    named false h = h

    by : (b : Bool) → option_map (numbered_at es) (rest n) ≡ numbered_from n name (procedures_in (map (declared_in es) ds))
        → option_map (numbered_at es) (rest (n + 1)) ≡ numbered_from (n + 1) name (procedures_in (map (declared_in es) ds))
        → option_map (numbered_at es) (find (λ p. p.1.name == name) (enumerate_from n (cond b (d ∷ filter is_procedure ds) (filter is_procedure ds))))
        ≡ numbered_from n name (cond b (declared_in es d ∷ procedures_in (map (declared_in es) ds)) (procedures_in (map (declared_in es) ds)))
    by true here next = named (d.name == name) next
    by false here next = here

-- A procedure's number counts those before it.
pub numbered_below : (number name : ℕ) (ps : List Declared) (q : Numbered) → Some q ≡ numbered_from number name ps → q.number < number + length ps
numbered_below number name [] q e = let z : ◌≡◌ {A = ℕ} 0 1 = cc in absurd (omega arith)
numbered_below number name (p ∷ ps) q e = by (eqb p.name name) e (λ h. numbered_below (number + 1) name ps q h)
  where
    by : (b : Bool) → Some q ≡ cond b (Some (record { number = number; ins = p.ins; parameters = p.entries })) (numbered_from (number + 1) name ps)
        → (Some q ≡ numbered_from (number + 1) name ps → q.number < (number + 1) + length ps) → q.number < number + length (p ∷ ps)
    by true i f = let n : q.number ≡ number = cc in omega arith
    by false i f = let l = f i in omega arith
