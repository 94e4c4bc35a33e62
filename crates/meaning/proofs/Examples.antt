-- A world in which every reading fits, and the two examples.
use Rattle.std.proofs.Common.{◌≡◌, ℕ, zero, suc, Bool, true, false, cond, not, ◌&&◌, ◌||◌, eqb, List, [], ◌∷◌, length, refl, sym, arith}
use Rattle.std.specs.Bool.{beq}
use Rattle.std.proofs.lemmas.Option.{none-some}
use Rattle.language.specs.declared.ValueType.{ValueType}
use Rattle.language.specs.Codes.{bool}
use Rattle.world.specs.Worlds.{World, Reading, OfTypes}
use Rattle.meaning.specs.Lists.{counted}
use Rattle.meaning.specs.Routine.{leaf, Command, block, Typed, leaf_typed, SoundCommands, TargetsLater, Sound}
use Rattle.meaning.specs.Runs.{none_left, asserts_false}
use Rattle.meaning.specs.Telling.{answer, ◌>>=◌, tell, layout, formula_value, symbol_types}
use Rattle.meaning.specs.Examples.{just_one, fails, succeeds, AllFits, Examples}

-- An operator on truth values.
works : ℕ → ℕ → List Bool → Bool
works c a [] = eqb c 2
works c a (x ∷ []) = not x
works c a (x ∷ y ∷ []) = cond (eqb c 26) (x && y) (cond (eqb c 27) (x || y) (cond (eqb c 28) (not x || y) (cond (eqb c 15) (not (beq x y)) (beq x y))))
works c a (x ∷ y ∷ z ∷ vs) = false

beq_self : (b : Bool) → beq b b ≡ true
beq_self true = refl
beq_self false = refl

beq_only : (a b : Bool) → beq a b ≡ true → a ≡ b
beq_only true true e = refl
beq_only true false e = sym e
beq_only false true e = e
beq_only false false e = refl

-- Each type has the two truth values.
plain : World Bool
unfolding works
plain = record {
  belongs = λ t v. true;
  truth = λ b. b;
  same = beq;
  operate = works;
  non_empty = λ t. (true, refl);
  bool_has = λ b. refl;
  bool_only = λ v h. (v, refl);
  apart = λ a b e. e;
  same_self = beq_self;
  same_only = beq_only;
  typed = λ c a t ts vs h k. refl;
  false_is = refl;
  true_is = refl;
  not_is = λ a. refl;
  equal_is = λ v u. refl;
  unequal_is = λ v u. refl;
  and_is = λ a b. refl;
  or_is = λ a b. refl;
  implies_is = λ a b. refl;
  equivalent_is = λ a b. refl;
}

all_belong : (ts : List ValueType) (f : ℕ → Bool) (n : ℕ) → OfTypes plain ts (counted f n (length ts))
unfolding plain
all_belong [] f n = tt
all_belong (t ∷ ts) f n = (refl, all_belong ts f (suc n))

-- In that world every reading fits.
pub all_fits : AllFits Bool
unfolding plain
all_fits = record {
  world = plain;
  constants_typed = λ r n t e. refl;
  fits = λ symbol r. all_belong (symbol_types r (layout r)) symbol 0;
}

one_sound : (cs : List Command) → SoundCommands (just_one cs) cs → Sound (just_one cs)
one_sound cs h = record {
  some_block = omega arith;
  axioms_typed = tt;
  requires_typed = tt;
  ensures_typed = tt;
  commands_sound = λ k l. commands k;
  targets_later = λ k l. targets k;
}
  where
    commands : (k : ℕ) → SoundCommands (just_one cs) (block (just_one cs) k).commands
    commands zero = h
    commands (suc k) = tt

    targets : (k : ℕ) → TargetsLater k 1 (block (just_one cs) k).targets
    targets zero = tt
    targets (suc k) = tt

falsity : {cs ts os : List ValueType} → Typed cs ts os (leaf 1 0) bool
falsity = leaf_typed 1 0 refl

fails_value : {V : Type 0} (q : Reading V) → formula_value q fails ≡ q.world.truth false
unfolding ◌>>=◌ tell answer
fails_value q = rw (q.world.false_is, q.world.true_is) (q.world.and_is false true)

succeeds_value : {V : Type 0} (q : Reading V) → formula_value q succeeds ≡ q.world.truth true
unfolding ◌>>=◌ tell answer
succeeds_value q = rw (q.world.false_is, q.world.true_is, q.world.and_is false true) (q.world.implies_is false false)

-- The examples, over any type of values.
pub examples : (V : Type 0) → Examples V
examples V = record {
  fails_sound = one_sound _ (falsity, tt);
  fails_wrong = λ w. record { constants_typed = λ n t e. absurd (none-some _ e); axioms_true = none_left; start_typed = tt; requires_true = none_left; steps = asserts_false w.false_is };
  fails_false = fails_value;
  succeeds_sound = one_sound _ (falsity, (falsity, tt));
  succeeds_true = succeeds_value;
}
