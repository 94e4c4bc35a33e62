-- What tells leave of a lawful sink as it was.
use Rattle.std.proofs.Common.{◌≡◌, ℕ, ◌+◌, ◌<◌, Bool, eqb, List, length, Ok, Err, refl, ◌∙◌, arith}
use Rattle.std.proofs.lemmas.Bool.{cond_both, eqb-false}
use Rattle.world.specs.Tells.{Tell}
use Rattle.world.specs.Worlds.{Reading}
use Rattle.sink.specs.declared.Cause.{Cause}
use Rattle.sink.specs.declared.Cause.TheVariants.{Operands, Code, Full}
use Rattle.sink.specs.Causes.{Answer}
use Rattle.sink.specs.Laws.{Accepted, Refused, Told}
use Rattle.sink.specs.Paths.{entry_of, sent, Follows, nothing, then, Stopped, Kept}

module _ {S V : Type 0} (watches : S → Reading V → Type 0) (entries : S → ℕ) (value : S → Reading V → ℕ → V) (takes : S → ℕ → Bool) (spare : S → ℕ) where
  -- A refused tell leaves the sink as before, whatever the cause.
  pub refused_same : (s z : S) (t : Tell) (c : Cause) → Refused watches entries value takes spare s t c z → z ≡ s
  refused_same s z t Operands r = r.0
  refused_same s z t Code r = r.0
  refused_same s z t Full r = r.0

module _ {S V : Type 0} {watches : S → Reading V → Type 0} {entries : S → ℕ} {value : S → Reading V → ℕ → V} {takes : S → ℕ → Bool} {spare : S → ℕ} where
  -- No tell keeps everything.
  pub kept_refl : (s : S) → Kept watches entries value takes spare 0 s s
  kept_refl s = record { older = omega arith; watching = λ q. (λ w. w, λ w. w); values = λ q w k h. refl; codes = λ c. refl; falls = omega arith }

  -- What two paths keep, the path through both keeps.
  pub kept_trans : {k m n : ℕ} {s x z : S} → k ≡ m + n → Kept watches entries value takes spare m s x → Kept watches entries value takes spare n x z → Kept watches entries value takes spare k s z
  kept_trans {x = x} c f h = record {
    older = omega arith;
    watching = λ q. (λ w. (h.watching q).0 ((f.watching q).0 w), λ w. (f.watching q).1 ((h.watching q).1 w));
    values = λ q w k l. let b : k < entries x = omega arith in h.values q ((f.watching q).0 w) k b ∙ f.values q w k l;
    codes = λ c. h.codes c ∙ f.codes c;
    falls = omega arith;
  }

  -- An accepted tell keeps what a path keeps.
  pub accepted_kept : {s z : S} {t : Tell} {e : ℕ} → Accepted watches entries value takes spare s t e z → Kept watches entries value takes spare 1 s z
  accepted_kept a = record { older = a.older; watching = a.watching; values = a.values; codes = a.codes; falls = a.falls }

  module _ {steps : S → Tell → Answer → S → Type 0} (lawful : (s : S) (t : Tell) (a : Answer) (z : S) → steps s t a z → Told watches entries value takes spare s t a z) where
    -- A path keeps older entries and their values, the codes and the watched readings; each tell costs at most one of the spare.
    pub follows_kept : {s : S} {ts : List Tell} {z : S} {answers : List ℕ} → Follows steps s ts z answers → Kept watches entries value takes spare (length ts) s z
    follows_kept nothing = kept_refl _
    follows_kept (then t d step) = kept_trans (omega arith) (follows_kept d) (accepted_kept (lawful _ _ (Ok _) _ step))

    -- A path has as many answers as tells.
    pub follows_length : {s : S} {ts : List Tell} {z : S} {answers : List ℕ} → Follows steps s ts z answers → length answers ≡ length ts
    follows_length nothing = refl
    follows_length (then t d step) = let h = follows_length d in omega arith

    -- Each answer on a path is an entry at its end.
    pub follows_entries : {s : S} {ts : List Tell} {z : S} {answers : List ℕ} → Follows steps s ts z answers → (i : ℕ) → i < length ts → entry_of answers i < entries z
    follows_entries nothing i h = absurd (omega arith)
    follows_entries (then {ts = ts} {s₁ = x} {s₂ = z} {answers = answers} {e = e} t d step) i h =
        let a : Accepted watches entries value takes spare x (sent answers t) e z = lawful _ _ (Ok e) _ step in
        let l = follows_length d in
        let old = follows_entries d in
        cond_both (eqb i (length answers)) e (entry_of answers i) (λ n. n < entries z)
        (λ _. a.within)
        (λ k. let n = eqb-false i (length answers) k in let b : i < length ts = omega arith in let o = old i b in let p = a.older in omega arith)

    -- A stopped path leaves the sink as its last accepted tell did.
    pub stopped_same : {all : List Tell} {s z : S} {c : Cause} (d : Stopped steps all s z c) → z ≡ d.before
    stopped_same {z = z} {c = c} d = refused_same watches entries value takes spare d.before z (sent d.answers d.refused) c (lawful d.before (sent d.answers d.refused) (Err c) z d.stops)
