-- The entries that a sink answers have the values of the tells, and a sink with room stops no telling.
use Rattle.std.proofs.Common.{◌≡◌, ℕ, suc, ◌+◌, ◌<◌, ◌≤◌, Bool, true, false, eqb, List, [], ◌∷◌, ◌++◌, map, length, Some, Ok, Err, sym, refl, ap, ◌∙◌, subst, arith, length-append}
use Rattle.std.proofs.lemmas.List.{length-map}
use Rattle.std.specs.List.{AllByRecursion}
use Rattle.std.proofs.lemmas.Bool.{eqb-false, true≢false, false≢true}
use Rattle.world.specs.Tells.{Binds, Tell, meant}
use Rattle.world.specs.Worlds.{Reading}
use Rattle.meaning.specs.Bound.{T}
use Rattle.meaning.specs.Routine.{Routine, Sound}
use Rattle.meaning.specs.Runs.{HasConstants}
use Rattle.meaning.specs.Telling.{Fits, Lawful, LawfulTell, formula_value, told, told_value}
use Rattle.meaning.proofs.Costs.{at_most_t}
use Rattle.meaning.proofs.Examples.{all_fits}
use Rattle.meaning.proofs.Theorem.{false_is_wrong, told_lawfully, wrong_is_false}
use Rattle.sink.specs.declared.Cause.{Cause}
use Rattle.sink.specs.declared.Cause.TheVariants.{Operands, Code, Full}
use Rattle.sink.specs.Causes.{Answer}
use Rattle.sink.specs.Laws.{Refused, Told}
use Rattle.sink.specs.Paths.{Follows, Kept, Stopped, entry_of, nothing, sent, then}
use Rattle.sink.proofs.Apt.{apt_from}
use Rattle.sink.proofs.Keeping.{follows_entries, follows_kept, follows_length}
use Rattle.formula.specs.InSinks.{Holds, Written}

module _ {S V : Type 0} (watches : S → Reading V → Type 0) (entries : S → ℕ) (value : S → Reading V → ℕ → V) (takes : S → ℕ → Bool) (spare : S → ℕ) (steps : S → Tell → Answer → S → Type 0)
    (lawful : (s : S) (t : Tell) (a : Answer) (z : S) → steps s t a z → Told watches entries value takes spare s t a z) where
  -- The operands' entries have the values of the tells that they were answered for.
  values_of : (q : Reading V) (ts : List Tell) (s : S) (answers : List ℕ) → ((i : ℕ) → i < length ts → value s q (entry_of answers i) ≡ told_value q ts i)
      → (es : List ℕ) → AllByRecursion (λ e. e < length ts) es → map (value s q) (map (entry_of answers) es) ≡ map (told_value q ts) es
  values_of q ts s answers h [] a = refl
  values_of q ts s answers h (e ∷ es) (l, a) = rw (h e l, values_of q ts s answers h es a)

  -- Each answer on a path of lawful tells has the value of its tell.
  pub answers_mean : (q : Reading V) (s : S) → watches s q → {ts : List Tell} {s' : S} {answers : List ℕ} → Follows steps s ts s' answers → Lawful q ts
      → (i : ℕ) → i < length ts → value s' q (entry_of answers i) ≡ told_value q ts i
  answers_mean q s w nothing l i h = absurd (omega arith)
  answers_mean q s w (then {ts = ts} {s₁ = x} {s₂ = z} {answers = answers} {e = e} t d step) l i h = by (answers_mean q s w d l.1) (eqb i (length ts)) refl
    where
      la : length answers ≡ length ts
      la = follows_length lawful d

      by : ((i : ℕ) → i < length ts → value x q (entry_of answers i) ≡ told_value q ts i) → (b : Bool) → eqb i (length ts) ≡ b
          → value z q (entry_of (e ∷ answers) i) ≡ told_value q (t ∷ ts) i
      by H true c =
          let a = lawful x (sent answers t) (Ok e) z step in
          let wx = ((follows_kept lawful d).watching q).0 w in
          let m = values_of q ts x answers H t.operands l.0.earlier in
          let b = subst (λ (vs : List V). Binds q t.code vs) (sym m) l.0.binds in
          rw (la, c) (a.meaning q wx b ∙ ap (λ (vs : List V). meant q t.code t.argument vs) m)
      by H false c =
          let a = lawful x (sent answers t) (Ok e) z step in
          let wx = ((follows_kept lawful d).watching q).0 w in
          let n = eqb-false i (length ts) c in
          let k : i < length ts = omega arith in
          rw (la, c) (a.values q wx (entry_of answers i) (follows_entries lawful d i k) ∙ H i k)

  -- The entry of a formula has the formula's value in each watched reading that fits.
  entry_value : (r : Routine) → Sound r → (s s' : S) (e : ℕ) → Written steps r s s' e → (q : Reading V) → watches s q → HasConstants q.world r → Fits q r → value s' q e ≡ formula_value q r
  entry_value r R s s' e W q w C F =
      let l = told_lawfully V r R q C F in
      ap (λ (n : ℕ). value s' q n) W.entry_is ∙ answers_mean q s w W.tells l.0 (told r).0 l.1

  -- A tell in the middle of lawful ones is lawful after the earlier ones.
  lawful_at : (q : Reading Bool) (later : List Tell) (t : Tell) (earlier : List Tell) → Lawful q (later ++ (t ∷ earlier)) → LawfulTell q earlier t
  lawful_at q [] t earlier h = h.0
  lawful_at q (u ∷ later) t earlier h = lawful_at q later t earlier h.1

  -- The answers for earlier tells are entries.
  sent_below : (n : ℕ) (ts : List Tell) (answers : List ℕ) → ((i : ℕ) → i < length ts → entry_of answers i < n) → (es : List ℕ) → AllByRecursion (λ e. e < length ts) es → AllByRecursion (λ e. e < n) (map (entry_of answers) es)
  sent_below n ts answers h [] a = tt
  sent_below n ts answers h (e ∷ es) (l, a) = (h e l, sent_below n ts answers h es a)

  -- So many tells were accepted before one was refused.
  stopped_count : (r : Routine) → Sound r → (s s' : S) (cause : Cause) (d : Stopped steps (told r).1 s s' cause) → suc (length d.earlier) ≤ T r
  stopped_count r R s s' cause d =
      let h = at_most_t r R in
      let e : length (told r).1 ≡ length d.later + length (d.refused ∷ d.earlier) = ap (λ (ts : List Tell). length ts) d.all_told ∙ length-append d.later (d.refused ∷ d.earlier) in
      omega arith

  -- All tells of the telling are lawful in some reading, whatever the routine.
  some_reading : Reading Bool
  some_reading = record { world = all_fits.world; symbol = λ n. true }

  all_lawful : (r : Routine) → Sound r → Lawful some_reading (told r).1 × ((told r).0 < length (told r).1)
  unfolding some_reading
  all_lawful r R = told_lawfully Bool r R some_reading (all_fits.constants_typed r) (all_fits.fits (λ n. true) r)

  not_stopped : (r : Routine) → Sound r → (s s' : S) (cause : Cause) → ((c : ℕ) → takes s c ≡ true) → T r ≤ spare s → (d : Stopped steps (told r).1 s s' cause)
      → Refused watches entries value takes spare d.before (sent d.answers d.refused) cause s' → ⊥
  not_stopped r R s s' cause all room d = by cause (stopped_count r R s s' cause d)
    where
      kept : Kept watches entries value takes spare (length d.earlier) s d.before
      kept = follows_kept lawful d.tells

      L : LawfulTell some_reading d.earlier d.refused
      L = lawful_at some_reading d.later d.refused d.earlier (subst (λ (ts : List Tell). Lawful some_reading ts) d.all_told (all_lawful r R).0)

      by : (c : Cause) → suc (length d.earlier) ≤ T r → Refused watches entries value takes spare d.before (sent d.answers d.refused) c s' → ⊥
      by Operands few x =
          true≢false (sym (apt_from (entries d.before) (sent d.answers d.refused)
          (L.count ∙ ap Some (sym (length-map d.refused.operands (entry_of d.answers))))
          (sent_below (entries d.before) d.earlier d.answers (follows_entries lawful d.tells) d.refused.operands L.earlier)) ∙ x.1)
      by Code few x = false≢true (sym x.2 ∙ (kept.codes d.refused.code ∙ all d.refused.code))
      by Full few x = let f = kept.falls in let z = x.3 in omega arith

  -- All of it.
  pub holds : Holds watches entries value takes spare steps
  holds = record {
    written = λ r R s s' e W. record {
      is_entry = subst (λ (n : ℕ). n < entries s') (sym W.entry_is) (follows_entries lawful W.tells (told r).0 (all_lawful r R).1);
      false_is_wrong = λ q w C F h. false_is_wrong V r R q C F (sym (entry_value r R s s' e W q w C F) ∙ h);
      wrong_is_false = λ q w F start d h. entry_value r R s s' e W q w d.constants_typed F ∙ wrong_is_false V r R q F start d h;
    };
    written_most = at_most_t;
    stopped_most = stopped_count;
    never_stopped = λ r R s s' cause all room d. not_stopped r R s s' cause all room d (lawful d.before (sent d.answers d.refused) (Err cause) s' d.stops);
  }
