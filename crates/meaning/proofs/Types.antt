-- Rightly typed expressions have values of their types.
use Rattle.std.proofs.Common.{◌≡◌, ℕ, zero, suc, ◌<◌, Bool, true, false, ◌⊎◌, List, [], ◌∷◌, ◌++◌, map, length, get_or, take, Some, sym, refl, ◌∙◌, inl, inr}
use Rattle.std.specs.List.{AllByRecursion, slice_get}
use Rattle.std.proofs.lemmas.Option.{none-some, slice_get-get_or}
use Rattle.std.proofs.lemmas.Bool.{true≢false}
use Rattle.language.specs.declared.ValueType.{ValueType}
use Rattle.language.specs.Codes.{bool}
use Rattle.world.specs.Worlds.{World, OfTypes}
use Rattle.meaning.specs.Routine.{Expression, Procedure, Routine, variables, view, value, values, Typed, leaf_typed, constant_typed, variable_typed, before_typed, one_typed, two_typed, AllTyped, Clauses, Places, SoundProcedure, Sound}
use Rattle.meaning.specs.Runs.{Tested, none_left, this_false, this_true, on_entry, on_exit}
use Rattle.meaning.proofs.Alikes.{alike_at, alike-append, alike-take}
use Rattle.meaning.proofs.Passes.{holds}

-- A place of the first list is the same place of both.
pub nth_left : {A : Type 0} (ts us : List A) (x : ℕ) (t : A) → slice_get ts x ≡ Some t → slice_get (ts ++ us) x ≡ Some t
nth_left [] us x t e = absurd (none-some _ e)
nth_left (u ∷ ts) us zero t e = e
nth_left (u ∷ ts) us (suc x) t e = nth_left ts us x t e

-- The modified globals are at their places among all variables.
pub modified_places : (ts us : List ValueType) (gs : List ℕ) → AllByRecursion (λ g. g < length ts) gs → Places (ts ++ us) gs (map (λ g. get_or ts g bool) gs)
modified_places ts us [] h = tt
modified_places ts us (g ∷ gs) h = (nth_left ts us g _ (slice_get-get_or ts g bool h.0), modified_places ts us gs h.1)

module _ {V : Type 0} (w : World V) where
  -- A state that has a value of the right type at each place.
  abbrev pub Looks : List ValueType → List V → Type 0
  Looks ts s = (x : ℕ) (t : ValueType) → slice_get ts x ≡ Some t → w.belongs t (get_or s x (w.truth true)) ≡ true

  -- Constants that have values of these types.
  abbrev pub Constants : List ValueType → Type 0
  Constants cs = (n : ℕ) (t : ValueType) → slice_get cs n ≡ Some t → w.belongs t (w.operate 5 n []) ≡ true

  -- Values of given types are such a state.
  pub looks : (ts : List ValueType) (s : List V) → OfTypes w ts s → Looks ts s
  looks ts s h x t e = alike_at (λ t v. w.belongs t v ≡ true) ts s x t (w.truth true) h e

  -- Where there is no variable, anything is.
  pub looks_none : (s : List V) → Looks [] s
  looks_none s x t e = absurd (none-some _ e)

  -- So is the front of a state.
  pub looks_left : (ts us : List ValueType) (s : List V) → OfTypes w (ts ++ us) s → Looks ts s
  looks_left ts us s h x t e = looks (ts ++ us) s h x t (nth_left ts us x t e)

  -- The value of a rightly typed expression is of its type.
  pub value_typed : (cs ts os : List ValueType) (s o : List V) → Constants cs → Looks ts s → Looks os o → (e : Expression) (t : ValueType) → Typed cs ts os e t → w.belongs t (value w s o e) ≡ true
  value_typed cs ts os s o C S O e t (leaf_typed c a h) = w.typed c a t [] [] h tt
  value_typed cs ts os s o C S O e t (constant_typed n h) = C n t h
  value_typed cs ts os s o C S O e t (variable_typed x h) = S x t h
  value_typed cs ts os s o C S O e t (before_typed x h) = O x t h
  value_typed cs ts os s o C S O e t (one_typed c {e = f} {t = u} d h) = w.typed c 0 t (u ∷ []) _ h (value_typed cs ts os s o C S O f u d, tt)
  value_typed cs ts os s o C S O e t (two_typed c {e = f} {f = g} {t = u} {s = v} d d' h) = w.typed c 0 t (u ∷ v ∷ []) _ h (value_typed cs ts os s o C S O f u d, (value_typed cs ts os s o C S O g v d', tt))

  values_typed : (cs ts os : List ValueType) (s o : List V) → Constants cs → Looks ts s → Looks os o → (es : List Expression) (us : List ValueType) → AllTyped cs ts os es us → OfTypes w us (values w s o es)
  values_typed cs ts os s o C S O [] [] h = tt
  values_typed cs ts os s o C S O [] (u ∷ us) h = absurd h
  values_typed cs ts os s o C S O (e ∷ es) [] h = absurd h
  values_typed cs ts os s o C S O (e ∷ es) (u ∷ us) h = (value_typed cs ts os s o C S O e u h.0, values_typed cs ts os s o C S O es us h.1)

  -- Values that are all of type bool.
  abbrev pub Bools : List V → Type 0
  Bools vs = AllByRecursion (λ v. w.belongs bool v ≡ true) vs

  -- The values of clauses are.
  pub clauses_bools : (cs ts os : List ValueType) (s o : List V) → Constants cs → Looks ts s → Looks os o → (es : List Expression) → Clauses cs ts os es → Bools (values w s o es)
  clauses_bools cs ts os s o C S O [] h = tt
  clauses_bools cs ts os s o C S O (e ∷ es) h = (value_typed cs ts os s o C S O e bool h.0, clauses_bools cs ts os s o C S O es h.1)

  is_false : (v : V) (b : Bool) → v ≡ w.truth b → holds w v ≡ false → v ≡ w.truth false
  is_false v false e h = e
  is_false v true e h = absurd (true≢false (sym (rw e (w.same_self (w.truth true))) ∙ h))

  -- A bool that does not hold is false.
  pub truly_false : (v : V) → w.belongs bool v ≡ true → holds w v ≡ false → v ≡ w.truth false
  truly_false v h e = let b = w.bool_only v h in is_false v b.0 b.1 e

  -- What holds is true.
  pub truly_true : (v : V) → holds w v ≡ true → v ≡ w.truth true
  truly_true v e = w.same_only v (w.truth true) e

  -- Conditions of type bool are all true, or one is false after true ones.
  pub decided : (vs : List V) → Bools vs → Tested w vs true ⊎ Tested w vs false
  decided [] h = inl none_left
  decided (v ∷ vs) h = go (holds w v) refl (decided vs h.1)
    where
      go : (b : Bool) → holds w v ≡ b → Tested w vs true ⊎ Tested w vs false → Tested w (v ∷ vs) true ⊎ Tested w (v ∷ vs) false
      go false e k = inr (this_false (truly_false v h.0 e))
      go true e (inl t) = inl (this_true (truly_true v e) t)
      go true e (inr t) = inr (this_true (truly_true v e) t)

  module _ (r : Routine) where
    -- What a procedure's clauses speak of is of the right types.
    pub view_typed : (rest : List ValueType) (s arguments outs : List V) (ins os : List ValueType) → OfTypes w (r.globals ++ rest) s → OfTypes w ins arguments → OfTypes w os outs → OfTypes w (r.globals ++ (ins ++ os)) (view r s arguments outs)
    view_typed rest s arguments outs ins os h i o =
        alike-append R r.globals (ins ++ os) (take (length r.globals) s) (arguments ++ outs) (alike-take R r.globals rest s h) (alike-append R ins os arguments outs i o)
      where
        R : ValueType → V → Type 0
        R t v = w.belongs t v ≡ true

    abbrev others : List ValueType
    others = r.own.ins ++ (r.own.outs ++ r.locals)

    -- The values of a procedure's requires at a call are of type bool.
    pub entry_bools : Constants r.constants → (p : Procedure) → SoundProcedure r p → (s arguments : List V) → OfTypes w (variables r) s → OfTypes w p.ins arguments → Bools (on_entry w r p s arguments)
    entry_bools C p P s arguments h i = clauses_bools r.constants _ [] _ [] C (looks _ _ (view_typed others s arguments [] p.ins [] h i tt)) (looks_none []) p.requires P.requires_typed

    -- And those of its ensures.
    pub exit_bools : Constants r.constants → (p : Procedure) → SoundProcedure r p → (s s' arguments outs : List V) → OfTypes w (variables r) s → OfTypes w (variables r) s' → OfTypes w p.ins arguments → OfTypes w p.outs outs → Bools (on_exit w r p s s' arguments outs)
    exit_bools C p P s s' arguments outs h h' i o = clauses_bools r.constants _ r.globals _ s C (looks _ _ (view_typed others s' arguments outs p.ins p.outs h' i o)) (looks_left r.globals others s h) p.ensures P.ensures_typed

    -- The value of a command's expression is of its type.
    pub expression_typed : Constants r.constants → (s : List V) → OfTypes w (variables r) s → (e : Expression) (t : ValueType) → Typed r.constants (variables r) [] e t → w.belongs t (value w s [] e) ≡ true
    expression_typed C s h e t d = value_typed r.constants (variables r) [] s [] C (looks (variables r) s h) (looks_none []) e t d

    -- And those of a call's arguments.
    pub arguments_typed : Constants r.constants → (s : List V) → OfTypes w (variables r) s → (es : List Expression) (ts : List ValueType) → AllTyped r.constants (variables r) [] es ts → OfTypes w ts (values w s [] es)
    arguments_typed C s h es ts d = values_typed r.constants (variables r) [] s [] C (looks (variables r) s h) (looks_none []) es ts d

    -- The values of the own ensures are of type bool.
    pub return_bools : Constants r.constants → Sound r → (s start : List V) → OfTypes w (variables r) s → OfTypes w (variables r) start → Bools (values w s start r.own.ensures)
    return_bools C S s start h k = clauses_bools r.constants (variables r) (variables r) s start C (looks (variables r) s h) (looks (variables r) start k) r.own.ensures S.ensures_typed
