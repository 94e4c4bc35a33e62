-- The check accepts exactly the pages that are the postfix form of a rightly typed bool expression.
use Rattle.std.proofs.Common.{◌≡◌, ℕ, ◌+◌, ◌≤◌, true, not, ◌&&◌, eqb, ltb, List, [], ◌∷◌, ◌++◌, length, is_some, is_ok, IfOk, Some, None, Ok, Err, Option, Result, refl, ap, subst, arith}
use Rattle.std.proofs.lemmas.List.{append_assoc, append-nil, length-append}
use Rattle.std.proofs.lemmas.Bool.{and_parts, cond_both, eqb-true, false≢true, not-false}
use Rattle.std.proofs.lemmas.Bool.Decides.{nat_tests}
use Rattle.fault.specs.declared.Cause.{Cause}
use Rattle.fault.specs.declared.Ground.{Ground}
use Rattle.fault.specs.declared.Ground.TheVariants.{Code, NotUsable}
use Rattle.page.specs.declared.Entry.{Entry}
use Rattle.language.specs.declared.ValueType.{ValueType}
use Rattle.language.specs.Codes.{between, bool, word_type, unary_type, binary_type}
use Rattle.language.specs.Expressions.{Expression, word, identifier, old, entry, postfix}
use Rattle.language.specs.Expressions.{Scope, type_of, old_type}
use Rattle.language.specs.Expressions.{Typed, a_word, a_literal, an_identifier, an_old, a_unary, a_binary, Postfix}
use Rattle.language.specs.Checking.{Waiting, waiting_for, leaf, replaced, on_one, on_two, after_entry, located, after_entries, at_end, checked, Exact}

-- What is accepted is a postfix form.
module _ (sc : Scope) where
  -- The entries are the postfix forms of rightly typed expressions of these types, the last expression's type in front.
  pub data Spelled : List ValueType → List Entry → Type 0 where
    nothing : Spelled [] []
    more : {ws : List ValueType} {es : List Entry} {x : Expression} {t : ValueType} → Spelled ws es → Typed sc x t → Spelled (t ∷ ws) (es ++ postfix x)

  waiting_spelled : {ws : List ValueType} {es : List Entry} {x : Expression} {t : ValueType} → Spelled ws es → Typed sc x t → IfOk (waiting_for t ws) (λ vs. Spelled vs (es ++ postfix x))
  waiting_spelled {ws} {es} {x} s d = cond_both (ltb (length ws) 1024) _ _ (λ r. IfOk r (λ vs. Spelled vs (es ++ postfix x))) (λ b. more s d) (λ b. tt)

  leaf_spelled : (reason : Ground) {ws : List ValueType} {es : List Entry} (x : Expression) (o : Option ValueType)
      → Spelled ws es → ((t : ValueType) → o ≡ Some t → Typed sc x t) → IfOk (leaf reason o ws) (λ vs. Spelled vs (es ++ postfix x))
  leaf_spelled reason x None s d = tt
  leaf_spelled reason x (Some t) s d = waiting_spelled s (d t refl)

  replaced_spelled : {ws : List ValueType} {es : List Entry} (o : Option ValueType) → ((t : ValueType) → o ≡ Some t → Spelled (t ∷ ws) es) → IfOk (replaced o ws) (λ vs. Spelled vs es)
  replaced_spelled None d = tt
  replaced_spelled (Some t) d = d t refl

  one_spelled : (code : ℕ) {ws : List ValueType} {es : List Entry} → Spelled ws es → IfOk (on_one code ws) (λ vs. Spelled vs (es ++ (entry code 0 ∷ [])))
  one_spelled code nothing = tt
  one_spelled code (more {t = x} s d) = replaced_spelled (unary_type code x) (λ t i. rw append_assoc (more s (a_unary code d i)))

  two_spelled : (code : ℕ) {ws : List ValueType} {es : List Entry} → Spelled ws es → IfOk (on_two code ws) (λ vs. Spelled vs (es ++ (entry code 0 ∷ [])))
  two_spelled code nothing = tt
  two_spelled code (more nothing d) = tt
  two_spelled code (more {t = y} (more {t = x} s d) f) = replaced_spelled (binary_type code x y) (λ t i. simp append_assoc (more s (a_binary code d f i)))

  -- One entry more keeps the entries spelled.
  pub entry_spelled : (e : Entry) {ws : List ValueType} {es : List Entry} → Spelled ws es → IfOk (after_entry sc e ws) (λ vs. Spelled vs (es ++ (e ∷ [])))
  entry_spelled e {es = es} s =
      cond_both (eqb e.left 4) _ _ Good
      (λ b. rw (eqb-true e.left 4 b) (waiting_spelled s (a_literal e.right))) (λ b.
      cond_both (eqb e.left 5) _ _ Good
      (λ b. rw (eqb-true e.left 5 b) (leaf_spelled NotUsable (identifier e.right) (type_of e.right sc.names) s (λ t i. an_identifier e.right i))) (λ b.
      cond_both (eqb e.left 8 && is_some sc.olds) _ _ Good
      (λ b. rw (eqb-true e.left 8 (and_parts (eqb e.left 8) (is_some sc.olds) b).0)
      (leaf_spelled NotUsable (old e.right) (old_type e.right sc.olds) s (λ t i. an_old e.right i))) (λ b.
      cond_both (not (eqb e.right 0)) _ _ Good (λ b. tt) (λ b.
      let z : e.right ≡ 0 = eqb-true e.right 0 (not-false (eqb e.right 0) b) in
      cond_both (between 1 3 e.left) _ _ Good (λ b. rw z (leaf_spelled Code (word e.left) (word_type e.left) s (λ t i. a_word e.left i))) (λ b.
      cond_both (between 12 13 e.left) _ _ Good (λ b. rw z (one_spelled e.left s)) (λ b.
      cond_both (between 14 29 e.left) _ _ Good (λ b. rw z (two_spelled e.left s)) (λ b. tt)))))))
    where
      Good : Waiting → Type 0
      Good r = IfOk r (λ vs. Spelled vs (es ++ (e ∷ [])))

  entries_spelled : (i : ℕ) (new : List Entry) {ws : List ValueType} {es : List Entry} → Spelled ws es → IfOk (after_entries sc i new ws) (λ vs. Spelled vs (es ++ new))
  entries_spelled i [] s = rw append-nil s
  entries_spelled i (e ∷ new) {ws} {es} s = go (after_entry sc e ws) (λ vs k. simp append_assoc at (entries_spelled (i + 1) new k)) (entry_spelled e s)
    where
      go : (r : Waiting) → ((vs : List ValueType) → Spelled vs (es ++ (e ∷ [])) → IfOk (after_entries sc (i + 1) new vs) (λ us. Spelled us (es ++ (e ∷ new)))) → IfOk r (λ vs. Spelled vs (es ++ (e ∷ [])))
          → IfOk (elim (located r i e.left) [ Ok vs ↦ after_entries sc (i + 1) new vs | Err cause ↦ Err cause ]) (λ us. Spelled us (es ++ (e ∷ new)))
      go (Ok vs) f k = f vs k
      go (Err reason) f k = tt

  end_spelled : {ws : List ValueType} {es : List Entry} (n : ℕ) → Spelled ws es → is_ok (at_end n ws) ≡ true → Postfix sc es bool
  end_spelled n nothing i = absurd (false≢true i)
  end_spelled n (more {x = x} {t = t} nothing d) i =
      let one : t.number ≡ 1 = grind (arith, nat_tests) in
      let same : t ≡ bool = ap (λ (m : ℕ). record { number = m }) one in
      record { expression = x; written = refl; typed = subst (λ (u : ValueType). Typed sc x u) same d }
  end_spelled n (more (more s d) f) i = absurd (grind (arith, nat_tests))

  -- A page that is accepted is the postfix form of a rightly typed bool expression.
  pub accepted-postfix : (es : List Entry) → is_ok (checked sc es) ≡ true → Postfix sc es bool
  accepted-postfix es = go (after_entries sc 0 es []) (entries_spelled 0 es nothing)
    where
      go : (r : Result (List ValueType) Cause) → IfOk r (λ vs. Spelled vs es) → is_ok (elim r [ Ok ws ↦ at_end (length es) ws | Err cause ↦ Err cause ]) ≡ true → Postfix sc es bool
      go (Ok ws) s i = end_spelled (length es) s i
      go (Err cause) s i = absurd (false≢true i)

has_olds : (name : ℕ) {t : ValueType} (olds : Option (List Entry)) → old_type name olds ≡ Some t → is_some olds ≡ true
has_olds name None i = cc
has_olds name (Some globals) i = refl

-- A postfix form is accepted.
module _ (sc : Scope) where
  -- Entry by entry, the first waiting types become the second.
  pub data Leads : List Entry → List ValueType → List ValueType → Type 0 where
    stay : {ws : List ValueType} → Leads [] ws ws
    step : {e : Entry} {es : List Entry} {ws vs us : List ValueType} → after_entry sc e ws ≡ Ok vs → Leads es vs us → Leads (e ∷ es) ws us

  leads_after : {es : List Entry} {ws vs : List ValueType} (i : ℕ) → Leads es ws vs → after_entries sc i es ws ≡ Ok vs
  leads_after i stay = refl
  leads_after i (step a l) = rw (a, after_entries) (leads_after (i + 1) l)

  -- The entries of a rightly typed expression put its type in front.
  pub leads-postfix : {x : Expression} {t : ValueType} {es : List Entry} {ws vs : List ValueType}
      → Typed sc x t → length ws + length (postfix x) ≤ 1024 → Leads es (t ∷ ws) vs → Leads (postfix x ++ es) ws vs
  leads-postfix (a_word code i) h l = step (grind (arith, nat_tests)) l
  leads-postfix (a_literal value) h l = step (grind (arith, nat_tests)) l
  leads-postfix (an_identifier name i) h l = step (grind (arith, nat_tests)) l
  leads-postfix (an_old name i) h l = step (grind (arith, nat_tests, has_olds name sc.olds i)) l
  leads-postfix (a_unary code {e} d i) h l =
      let n = length-append (postfix e) (entry code 0 ∷ []) in
      rw append_assoc (leads-postfix d (omega arith) (step (grind (arith, nat_tests)) l))
  leads-postfix (a_binary code {e} {f} d k i) h l =
      let m = length-append (postfix e) (postfix f ++ (entry code 0 ∷ [])) in
      let n = length-append (postfix f) (entry code 0 ∷ []) in
      simp append_assoc (leads-postfix d (omega arith) (leads-postfix k (omega arith) (step (grind (arith, nat_tests)) l)))

  -- A page of at most 1,024 entries that is the postfix form of a rightly typed bool expression is accepted.
  pub postfix_accepted : (es : List Entry) → length es ≤ 1024 → Postfix sc es bool → is_ok (checked sc es) ≡ true
  postfix_accepted es h p =
      let l = simp append-nil at (leads-postfix {ws = []} p.typed (omega (arith, ap length p.written)) stay) in
      rw (p.written, leads_after 0 l, is_ok)

-- The check accepts a page of at most 1,024 entries exactly where it is such a form.
pub exact : Exact
exact sc es h = (accepted-postfix sc es, postfix_accepted sc es h)
