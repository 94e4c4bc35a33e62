-- A term list's step keeps the laws of a sink.
use Rattle.std.specs.Prelude.{◌≡◌, ℕ, ◌+◌, ◌<◌, ◌≤◌, true, false, Ok, Err, ◌==◌, refl}
use Rattle.std.proofs.Common.{sym, ap, subst, ◌∙◌, arith}
use Rattle.std.proofs.lemmas.Bool.{eqb-true, eqb-false, cond_both}
use Rattle.std.proofs.lemmas.Bool.Decides.{nat_tests}
use Rattle.sink.specs.declared.Cause.TheVariants.{Operands, Code, Full}
use Rattle.sink.specs.Causes.{Answer}
use Rattle.sink.specs.Laws.{apt, Told}
use Rattle.world.specs.Tells.{Tell}
use Rattle.world.specs.declared.Carrier.{Ghosts}
use Rattle.terms.specs.declared.Terms.{Terms}
use Rattle.terms.specs.Held.{Held, Outcome, spare_of, value_of, grown_by, told_to}
use Rattle.terms.specs.Steps.{held, Steps}
use Rattle.terms.specs.Growing.{Sound, falls_one, new_value, old_value}

-- The three ways that a tell can go.
pub by_told : (t : Tell) (h : Held) (P : Outcome → Type 0) → (apt h.used t ≡ false → P (record { answer = Err Operands; held = h })) → (apt h.used t ≡ true → spare_of h ≡ 0 → P (record { answer = Err Full; held = h })) → (apt h.used t ≡ true → 0 < spare_of h → P (record { answer = Ok h.used; held = grown_by t h })) → P (told_to t h)
by_told t h P unsuited full more =
    cond_both (apt h.used t) _ _ P
    (λ a. cond_both (spare_of h == 0) _ _ P (λ e. full a (eqb-true (spare_of h) 0 e)) (λ e. let n = eqb-false (spare_of h) 0 e in let l : 0 < spare_of h = omega arith in more a l))
    unsuited

module _ (t : Tell) (h : Held) (z : Held) where
  -- What an accepted tell shows.
  pub record Grew (e : ℕ) : Type 0 where
    pub suits : apt h.used t ≡ true
    pub spare : 0 < spare_of h
    pub entry : e ≡ h.used
    pub grown : z ≡ grown_by t h

  -- An accepted tell shows this.
  grew : (e : ℕ) → record { answer = Ok e; held = z } ≡ told_to t h → Grew e
  grew e same = grind (arith, nat_tests)

  -- What is refused for its operands is not apt.
  unsuited : record { answer = Err Operands; held = z } ≡ told_to t h → apt h.used t ≡ false
  unsuited same = grind (arith, nat_tests)

  -- Every code is taken.
  taken : record { answer = Err Code; held = z } ≡ told_to t h → ⊥
  taken same = grind (arith, nat_tests)

  -- What is refused for want of room is apt, at spare 0.
  full : record { answer = Err Full; held = z } ≡ told_to t h → (apt h.used t ≡ true) × (spare_of h ≡ 0)
  full same = grind (arith, nat_tests)

-- What the ghost fields say.
pub sound_of : {C : Type 0} {G : Ghosts C} (s : Terms C G) → Sound (held s)
sound_of s = record { fit = s.fit; room = s.room; operands = s.operands }

module _ {C : Type 0} {G : Ghosts C} (V : Type 0) where
  -- What the laws ask of a term list's tell.
  abbrev pub TermTold : Terms C G → Tell → Answer → Terms C G → Type 0
  TermTold = Told {S = Terms C G} {V = V} (λ s q. Unit {0}) (λ s. s.used) (λ s q k. value_of (held s) q k) (λ s c. true) (λ s. spare_of (held s))

  -- One more entry keeps the laws of an accepted tell.
  accepted : (s : Terms C G) (t : Tell) (e : ℕ) (z : Terms C G) → Grew t (held s) (held z) e → TermTold s t (Ok e) z
  accepted s t e z g =
      let h = held s in
      let used : z.used ≡ s.used + 1 = ap (λ (x : Held). x.used) g.grown in
      let entry = g.entry in
      let one = falls_one t h (sound_of s) g.suits g.spare in
      record {
        apt = g.suits;
        taken = refl;
        within = omega arith;
        meaning = λ q w b. ap (λ (x : Held). value_of x q e) g.grown ∙ ap (value_of (grown_by t h) q) entry ∙ new_value t h (sound_of s) g.suits g.spare q;
        watching = λ q. (λ w. w, λ w. w);
        older = omega arith;
        values = λ q w k b. ap (λ (x : Held). value_of x q k) g.grown ∙ old_value t h (sound_of s) g.suits g.spare q k b;
        codes = λ c. refl;
        falls = subst (λ (x : Held). spare_of h ≤ spare_of x + 1) (sym g.grown) one;
      }

  -- Each step of a term list keeps the laws.
  pub term_lawful : (s : Terms C G) (t : Tell) (a : Answer) (z : Terms C G) → Steps s t a z → TermTold s t a z
  term_lawful s t (Ok e) z step = accepted s t e z (grew t (held s) (held z) e step.told)
  term_lawful s t (Err Operands) z step = (step.stays, unsuited t (held s) (held z) step.told)
  term_lawful s t (Err Code) z step = absurd (taken t (held s) (held z) step.told)
  term_lawful s t (Err Full) z step = let f = full t (held s) (held z) step.told in (step.stays, f.0, refl, f.1)
