-- The values that a call takes are of their types, and so is the state after it.
use Rattle.std.proofs.Common.{◌≡◌, ℕ, ◌+◌, List, ◌++◌, length}
use Rattle.std.proofs.lemmas.List.{length-map}
use Rattle.world.specs.Worlds.{Reading, OfTypes}
use Rattle.meaning.specs.Lists.{put}
use Rattle.meaning.specs.Routine.{Command, Procedure, Routine, variables, modified_types, Places, SoundProcedure}
use Rattle.meaning.specs.Telling.{takes, symbols_at}
use Rattle.meaning.proofs.Alikes.{alike-put, counted_left, counted_right}
use Rattle.meaning.proofs.Types.{modified_places}

module _ {V : Type 0} (q : Reading V) (r : Routine) (p : Procedure) (xs : List ℕ) (cs : List Command) (n : ℕ) (s : List V) where
  -- The values that the call takes for the modified globals, n being the number of the next symbol.
  abbrev pub taken : List V
  taken = symbols_at q n (length p.modifies)

  -- And for the out-parameters.
  abbrev pub given : List V
  given = symbols_at q (n + length p.modifies) (length p.outs)

  -- What is known of a call with the receivers xs in the state s, before the commands cs.
  pub record CallTyped : Type 0 where
    pub taken_typed : OfTypes q.world (modified_types r p) taken
    pub given_typed : OfTypes q.world p.outs given
    pub middle_typed : OfTypes q.world (variables r) (put s p.modifies taken)
    pub ending_typed : OfTypes q.world (variables r) (put (put s p.modifies taken) xs given)
    pub rest_typed : OfTypes q.world (takes r cs) (symbols_at q (n + length p.modifies + length p.outs) (length (takes r cs)))

  -- It holds where the reading fits.
  pub call_typed : SoundProcedure r p → Places (variables r) xs p.outs → OfTypes q.world (variables r) s
      → OfTypes q.world (modified_types r p ++ (p.outs ++ takes r cs)) (symbols_at q n (length (modified_types r p ++ (p.outs ++ takes r cs)))) → CallTyped
  call_typed P R T M =
      let em : length (modified_types r p) ≡ length p.modifies = length-map p.modifies _ in
      let fore : OfTypes q.world (modified_types r p) taken = rw em at (counted_left _ _ n (modified_types r p) (p.outs ++ takes r cs) M) in
      let aft : OfTypes q.world (p.outs ++ takes r cs) (symbols_at q (n + length p.modifies) (length (p.outs ++ takes r cs))) = rw em at (counted_right _ _ n (modified_types r p) (p.outs ++ takes r cs) M) in
      let second : OfTypes q.world p.outs given = counted_left _ _ (n + length p.modifies) p.outs (takes r cs) aft in
      let middle : OfTypes q.world (variables r) (put s p.modifies taken) = alike-put _ (variables r) s p.modifies (modified_types r p) taken T (modified_places r.globals _ p.modifies P.modifies_globals) fore in
      record {
        taken_typed = fore;
        given_typed = second;
        middle_typed = middle;
        ending_typed = alike-put _ (variables r) (put s p.modifies taken) xs p.outs given middle R second;
        rest_typed = counted_right _ _ (n + length p.modifies) p.outs (takes r cs) aft;
      }
