-- The check accepts exactly the pages that are the postfix form of right commands.
use Rattle.std.proofs.Common.{◌≡◌, ℕ, ◌+◌, ◌≤◌, true, false, not, eqb, ltb, List, [], ◌∷◌, ◌++◌, map, reverse, length, take, is_ok, IfOk, Some, None, Ok, Err, Option, Result, sym, refl, ap, ◌∙◌, subst, ⊎_elim, arith}
use Rattle.std.specs.List.{flat_map, AllByRecursion}
use Rattle.std.proofs.ByRecursion.{All-push}
use Rattle.std.proofs.lemmas.List.{append_assoc, append-nil, flat_map_more, length-append, length-reverse, map_push, reverse-append, reverse-reverse, take_all}
use Rattle.std.proofs.lemmas.Slice.Zip.{all_zipped_more, AllZip-long}
use Rattle.std.proofs.lemmas.Bool.{and_parts, cases_Bool, cond_both, eqb-true, false≢true, not-false}
use Rattle.std.proofs.lemmas.Bool.Decides.{nat_tests}
use Rattle.fault.specs.declared.Cause.{Cause}
use Rattle.fault.specs.declared.Ground.TheVariants.{Remaining, TooFewWaiting, WrongTypes}
use Rattle.page.specs.declared.Entry.{Entry}
use Rattle.language.specs.declared.ValueType.{ValueType}
use Rattle.language.specs.Codes.{alike, between, bool}
use Rattle.language.specs.Expressions.{Expression, word, literal, identifier, old, unary, binary, Typed, entry, postfix}
use Rattle.language.specs.Checking.{Waiting, after_entry}
use Rattle.language.specs.Commands.{Command, written, Callee, BodyScope, scope_in}
use Rattle.language.specs.Commands.{Standing, changeable, fixed, unmodified, unknown, standing, distinct, covered}
use Rattle.language.specs.Lists.{member, Alike}
use Rattle.language.specs.Commands.{Right, an_assignment, an_assertion, an_assumption, a_havoc, a_call, CommandPage}
use Rattle.language.specs.CommandChecking.{Waits, nothing, Step, unless, remains, on_assign, on_condition, on_havoc, on_receiver, fit}
use Rattle.language.specs.CommandChecking.{receives, received, on_call, valued, after_command, placed, after_commands, at_page_end, checked_commands, ExactCommands}
use Rattle.language.proofs.Exact.{Spelled, nothing as none, more, entry_spelled, Leads, stay, step, leads-postfix}

-- Types of one number are the same.
same_type : {s t : ValueType} → alike s t ≡ true → s ≡ t
same_type {s} {t} i =
    let n : s.number ≡ t.number = eqb-true s.number t.number i in
    ap (λ (m : ℕ). record { number = m }) n

-- What fits the parameters are their types.
same_types : (xs ts : List ValueType) → fit xs ts ≡ true → xs ≡ ts
same_types [] [] i = refl
same_types [] (t ∷ ts) i = absurd (false≢true i)
same_types (x ∷ xs) [] i = absurd (false≢true i)
same_types (x ∷ xs) (t ∷ ts) i =
    let both = and_parts (alike x t) (fit xs ts) i in
    let one : x ≡ t = same_type both.0 in
    let rest : xs ≡ ts = same_types xs ts both.1 in
    cc

nothing_remains : (ts : List ValueType) (rs : List ℕ) → remains ts rs ≡ false → (ts ≡ []) × (rs ≡ [])
nothing_remains [] [] i = (refl, refl)
nothing_remains [] (r ∷ rs) i = absurd (false≢true (sym i))
nothing_remains (t ∷ ts) rs i = absurd (false≢true (sym i))

member-push : (m n : ℕ) (xs : List ℕ) → member m xs ≡ false → eqb n m ≡ false → member m (xs ++ (n ∷ [])) ≡ false
member-push m n [] i j = grind (arith, nat_tests)
member-push m n (x ∷ xs) i j = let ih = member-push m n xs in grind (arith, nat_tests)

distinct_push : (n : ℕ) (xs : List ℕ) → distinct xs ≡ true → member n xs ≡ false → distinct (xs ++ (n ∷ [])) ≡ true
distinct_push n [] i j = refl
distinct_push n (x ∷ xs) i j = let ih = distinct_push n xs in let k = member-push x n xs in grind (arith, nat_tests)

other_member : (m n : ℕ) (xs ys : List ℕ) → member m (xs ++ (n ∷ ys)) ≡ false → eqb m n ≡ false
other_member m n [] ys i = grind (arith, nat_tests)
other_member m n (x ∷ xs) ys i = let ih = other_member m n xs ys in grind (arith, nat_tests)

-- A list with no name twice has none of its later names among its earlier ones.
later_apart : (n : ℕ) (xs ys : List ℕ) → distinct (xs ++ (n ∷ ys)) ≡ true → member n xs ≡ false
later_apart n [] ys i = refl
later_apart n (x ∷ xs) ys i = let ih = later_apart n xs ys in let k = other_member x n xs ys in grind (arith, nat_tests)

-- What is accepted is a page of right commands.
module _ (b : BodyScope) where
  abbrev Changeable : ℕ → Type 0
  Changeable n = (t : ValueType) × (standing b n ≡ changeable t)

  -- The entries are those of right commands, then those of the waiting expressions, then those of the waiting receivers.
  record Stands (w : Waits) (es : List Entry) : Type 0 where
    page : List Entry
    values : List Entry
    earlier : CommandPage b page
    spelled : Spelled (scope_in b) w.types values
    changeables : AllByRecursion Changeable w.receivers
    apart : distinct w.receivers ≡ true
    are : es ≡ page ++ (values ++ map (entry 47) w.receivers)

  -- Where the step is not refused, what waits then stands.
  abbrev Good : List Entry → Entry → Step → Type 0
  Good es e r = IfOk r (λ v. Stands v (es ++ (e ∷ [])))

  one_more : {es : List Entry} {c : Command} → CommandPage b es → Right b c → CommandPage b (es ++ written c)
  one_more {c = c} p r =
      record {
        commands = p.commands ++ (c ∷ []);
        is_written = ap (λ l. l ++ written c) p.is_written ∙ flat_map_more written [] p.commands c;
        right = All-push (Right b) p.commands c p.right r;
      }

  -- An entry that finishes a command of what waits.
  finished : {w : Waits} {es : List Entry} {c : Command} (e : Entry) (k : Stands w es) → Right b c → (k.values ++ map (entry 47) w.receivers) ++ (e ∷ []) ≡ written c → Stands nothing (es ++ (e ∷ []))
  finished {c = c} e k r i =
      record { page = k.page ++ written c; values = []; earlier = one_more k.earlier r; spelled = none; changeables = tt; apart = refl; are = rw (append-nil, k.are, append_assoc, i) }

  no_values : {ws : List ValueType} {es : List Entry} → Spelled (scope_in b) ws es → ws ≡ [] → es ≡ []
  no_values none i = refl
  no_values (more s d) i = absurd (grind arith)

  -- A command takes the one value that waits.
  taking : (t : ValueType) (rs : List ℕ) (rest : Step) (K : Waits → Type 0) {ws : List ValueType} {values : List Entry} → Spelled (scope_in b) ws values
      → ((x : Expression) → Typed (scope_in b) x t → values ≡ postfix x → rs ≡ [] → IfOk rest K)
      → IfOk (elim ws [ [] ↦ Err TooFewWaiting | x ∷ ts ↦ unless (not (alike x t)) WrongTypes (unless (remains ts rs) Remaining rest) ]) K
  taking t rs rest K none f = tt
  taking t rs rest K (more {ws = ws} {es = es} {x = x} {t = s} l d) f =
      cond_both (not (alike s t)) _ _ (λ r. IfOk r K) (λ i. tt) (λ i.
      cond_both (remains ws rs) _ _ (λ r. IfOk r K) (λ j. tt) (λ j.
      let same : s ≡ t = same_type (not-false (alike s t) i) in
      let empty = nothing_remains ws rs j in
      let first : es ≡ [] = no_values l empty.0 in
      f x (subst (λ (u : ValueType). Typed (scope_in b) x u) same d) (ap (λ l. l ++ postfix x) first) empty.1))

  assign_stands : (name : ℕ) (s : Standing) → standing b name ≡ s → (w : Waits) {es : List Entry} → Stands w es → Good es (entry 40 name) (on_assign s w)
  assign_stands name (changeable t) i w k =
      taking t w.receivers _ _ k.spelled (λ x d j n. finished (entry 40 name) k (an_assignment name i d) (rw (j, n, append-nil)))
  assign_stands name (fixed t) i w k = taking t w.receivers _ _ k.spelled (λ x d j n. tt)
  assign_stands name (unmodified t) i w k = taking t w.receivers _ _ k.spelled (λ x d j n. tt)
  assign_stands name unknown i w k = tt

  assert_stands : (w : Waits) {es : List Entry} → Stands w es → Good es (entry 43 0) (on_condition w)
  assert_stands w k = taking bool w.receivers _ _ k.spelled (λ x d j n. finished (entry 43 0) k (an_assertion d) (rw (j, n, append-nil)))

  assume_stands : (w : Waits) {es : List Entry} → Stands w es → Good es (entry 44 0) (on_condition w)
  assume_stands w k = taking bool w.receivers _ _ k.spelled (λ x d j n. finished (entry 44 0) k (an_assumption d) (rw (j, n, append-nil)))

  havoc_stands : (name : ℕ) (s : Standing) → standing b name ≡ s → (w : Waits) {es : List Entry} → Stands w es → Good es (entry 45 name) (on_havoc s w)
  havoc_stands name (changeable t) i w {es} k =
      cond_both (remains w.types w.receivers) _ _ (Good es (entry 45 name)) (λ j. tt) (λ j.
      let empty = nothing_remains w.types w.receivers j in
      let first : k.values ≡ [] = no_values k.spelled empty.0 in
      finished (entry 45 name) k (a_havoc name i) (rw (first, empty.1)))
  havoc_stands name (fixed t) i w {es} k = cond_both (remains w.types w.receivers) _ _ (Good es (entry 45 name)) (λ j. tt) (λ j. tt)
  havoc_stands name (unmodified t) i w {es} k = cond_both (remains w.types w.receivers) _ _ (Good es (entry 45 name)) (λ j. tt) (λ j. tt)
  havoc_stands name unknown i w k = tt

  receiver_stands : (name : ℕ) (s : Standing) → standing b name ≡ s → (w : Waits) {es : List Entry} → Stands w es → Good es (entry 47 name) (on_receiver s name w)
  receiver_stands name (changeable t) i w {es} k =
      cond_both (member name w.receivers) _ _ (Good es (entry 47 name)) (λ j. tt) (λ j.
      record {
        page = k.page;
        values = k.values;
        earlier = k.earlier;
        spelled = k.spelled;
        changeables = All-push Changeable w.receivers name k.changeables (t, i);
        apart = distinct_push name w.receivers k.apart j;
        are = simp (k.are, map_push, append_assoc);
      })
  receiver_stands name (fixed t) i w k = tt
  receiver_stands name (unmodified t) i w k = tt
  receiver_stands name unknown i w k = tt

  -- The waiting expressions in their order.
  record Ordered (ws : List ValueType) (es : List Entry) : Type 0 where
    expressions : List Expression
    typed : Alike (λ e t. Typed (scope_in b) e t) expressions (reverse ws)
    spell : es ≡ flat_map postfix expressions

  in_order : {ws : List ValueType} {es : List Entry} → Spelled (scope_in b) ws es → Ordered ws es
  in_order none = record { expressions = []; typed = tt; spell = refl }
  in_order (more {ws = ws} {x = x} {t = t} s d) =
      let before = in_order s in
      record {
        expressions = before.expressions ++ (x ∷ []);
        typed = rw (reverse-append (t ∷ []) ws) (all_zipped_more (λ e t. Typed (scope_in b) e t) before.expressions (reverse ws) x t before.typed d);
        spell = ap (λ l. l ++ postfix x) before.spell ∙ flat_map_more postfix [] before.expressions x;
      }

  -- Receivers of right types, as many as there are out-parameters.
  receiving : (rs : List ℕ) (ts : List ValueType) → AllByRecursion Changeable rs → received b rs ts ≡ true → length rs ≡ length ts → Alike (λ n t. standing b n ≡ changeable t) rs ts
  receiving [] [] a i n = tt
  receiving [] (t ∷ ts) a i n = absurd (omega arith)
  receiving (r ∷ rs) [] a i n = absurd (omega arith)
  receiving (r ∷ rs) (t ∷ ts) a i n =
      let (s, j) = a.0 in
      let both = and_parts (receives (standing b r) t) (received b rs ts) i in
      let same : t ≡ s = same_type (ap (λ u. receives u t) (sym j) ∙ both.0) in
      (j ∙ ap changeable (sym same), receiving rs ts a.1 both.1 (omega arith))

  call_stands : (name : ℕ) (o : Option Callee) → b.callee name ≡ o → (w : Waits) {es : List Entry} → Stands w es → Good es (entry 46 name) (on_call b o w)
  call_stands name None i w k = tt
  call_stands name (Some q) i w {es} k =
      let few = ltb (length w.types) (length q.ins) in
      let fits = fit (reverse (take (length q.ins) w.types)) q.ins in
      let suits = received b w.receivers q.outs in
      let many = ltb (length q.ins) (length w.types) in
      let covers = covered b.modifies q.modifies in
      let count = eqb (length w.receivers) (length q.outs) in
      cond_both few _ _ (Good es (entry 46 name)) (λ t. tt) (λ t0.
      cond_both (not fits) _ _ (Good es (entry 46 name)) (λ t. tt) (λ t1.
      cond_both (not suits) _ _ (Good es (entry 46 name)) (λ t. tt) (λ t2.
      cond_both many _ _ (Good es (entry 46 name)) (λ t. tt) (λ t3.
      cond_both (not covers) _ _ (Good es (entry 46 name)) (λ t. tt) (λ t4.
      cond_both (not count) _ _ (Good es (entry 46 name)) (λ t. tt) (λ t5.
      let whole : take (length q.ins) w.types ≡ w.types = take_all (length q.ins) w.types (grind (arith, nat_tests)) in
      let same : reverse w.types ≡ q.ins = ap reverse (sym whole) ∙ same_types _ _ (not-false fits t1) in
      let arguments = in_order k.spelled in
      let outs = receiving w.receivers q.outs k.changeables (not-false suits t2) (eqb-true _ _ (not-false count t5)) in
      let form = ap (λ l. (l ++ map (entry 47) w.receivers) ++ (entry 46 name ∷ [])) arguments.spell ∙ append_assoc (flat_map postfix arguments.expressions) _ _ in
      finished (entry 46 name) k (a_call name q i (rw same at arguments.typed) outs k.apart (not-false covers t4)) form))))))

  value_stands : (e : Entry) (w : Waits) {es : List Entry} → Stands w es → Good es e (valued (after_entry (scope_in b) e w.types) w.receivers)
  value_stands e w {es} k = go (after_entry (scope_in b) e w.types) w.receivers k.are (entry_spelled (scope_in b) e k.spelled)
    where
      go : (r : Waiting) (rs : List ℕ) → es ≡ k.page ++ (k.values ++ map (entry 47) rs) → IfOk r (λ vs. Spelled (scope_in b) vs (k.values ++ (e ∷ []))) → Good es e (valued r rs)
      go (Err reason) rs i s = tt
      go (Ok ts) [] i s = record { page = k.page; values = k.values ++ (e ∷ []); earlier = k.earlier; spelled = s; changeables = tt; apart = refl; are = simp (i, append-nil, append_assoc) }
      go (Ok ts) (r ∷ rs) i s = tt

  entry_stands : (e : Entry) (w : Waits) {es : List Entry} → Stands w es → Good es e (after_command b e w)
  entry_stands e w {es} k =
      cond_both (eqb e.left 40) _ _ (Good es e) (λ i. rw (eqb-true e.left 40 i) (assign_stands e.right _ refl w k)) (λ i.
      cond_both (between 43 44 e.left) _ _ (Good es e) (λ j.
      cond_both (not (eqb e.right 0)) _ _ (Good es e) (λ n. tt) (λ n.
      let z : e.right ≡ 0 = eqb-true e.right 0 (not-false (eqb e.right 0) n) in
      ⊎_elim (λ c. rw (eqb-true e.left 43 c, z) (assert_stands w k)) (λ c.
      let l : e.left ≡ 44 = grind (arith, nat_tests) in
      rw (l, z) (assume_stands w k)) (cases_Bool (eqb e.left 43)))) (λ j.
      cond_both (eqb e.left 45) _ _ (Good es e) (λ n. rw (eqb-true e.left 45 n) (havoc_stands e.right _ refl w k)) (λ n.
      cond_both (eqb e.left 46) _ _ (Good es e) (λ m. rw (eqb-true e.left 46 m) (call_stands e.right _ refl w k)) (λ m.
      cond_both (eqb e.left 47) _ _ (Good es e) (λ l. rw (eqb-true e.left 47 l) (receiver_stands e.right _ refl w k)) (λ l. value_stands e w k)))))

  entries_stand : (i : ℕ) (new : List Entry) (w : Waits) {es : List Entry} → Stands w es → IfOk (after_commands b i new w) (λ v. Stands v (es ++ new))
  entries_stand i [] w k = rw append-nil k
  entries_stand i (e ∷ new) w {es} k = go (after_command b e w) (λ v s. simp append_assoc at (entries_stand (i + 1) new v s)) (entry_stands e w k)
    where
      go : (r : Step) → ((v : Waits) → Stands v (es ++ (e ∷ [])) → IfOk (after_commands b (i + 1) new v) (λ u. Stands u (es ++ (e ∷ new)))) → Good es e r
          → IfOk (elim (placed r i e.left) [ Ok v ↦ after_commands b (i + 1) new v | Err cause ↦ Err cause ]) (λ u. Stands u (es ++ (e ∷ new)))
      go (Ok v) f s = f v s
      go (Err reason) f s = tt

  end_stands : (w : Waits) {es : List Entry} → Stands w es → remains w.types w.receivers ≡ false → CommandPage b es
  end_stands w {es} k i =
      let empty = nothing_remains w.types w.receivers i in
      let none_left : k.values ≡ [] = no_values k.spelled empty.0 in
      let all : es ≡ k.page = k.are ∙ rw (none_left, empty.1, append-nil) in
      rw all k.earlier

  -- A page that is accepted is the postfix form of right commands.
  pub accepted_commands : (es : List Entry) → is_ok (checked_commands b es) ≡ true → CommandPage b es
  accepted_commands es = go (after_commands b 0 es nothing) (entries_stand 0 es nothing start)
    where
      start : Stands nothing []
      start = record { page = []; values = []; earlier = record { commands = []; is_written = refl; right = tt }; spelled = none; changeables = tt; apart = refl; are = refl }

      go : (r : Result Waits Cause) → IfOk r (λ v. Stands v es) → is_ok (elim r [ Ok w ↦ at_page_end (length es) w | Err cause ↦ Err cause ]) ≡ true → CommandPage b es
      go (Ok w) k i = end_stands w k (grind (arith, nat_tests))
      go (Err cause) k i = absurd (false≢true i)

fits_itself : (ts : List ValueType) → fit ts ts ≡ true
fits_itself [] = refl
fits_itself (t ∷ ts) = let ih = fits_itself ts in grind (arith, nat_tests)

some_entry : (x : Expression) → 1 ≤ length (postfix x)
some_entry (word code) = omega arith
some_entry (literal value) = omega arith
some_entry (identifier name) = omega arith
some_entry (old name) = omega arith
some_entry (unary code x) = simp length-append (omega arith)
some_entry (binary code x y) = simp length-append (omega arith)

-- Right commands are accepted.
module _ (b : BodyScope) where
  -- Types that wait, and no receivers.
  abbrev only : List ValueType → Waits
  only ts = record { types = ts; receivers = [] }

  -- Entry by entry, what waits first becomes what waits last.
  data Takes : List Entry → Waits → Waits → Type 0 where
    end : {w : Waits} → Takes [] w w
    one : {e : Entry} {es : List Entry} {w v u : Waits} → after_command b e w ≡ Ok v → Takes es v u → Takes (e ∷ es) w u

  takes_after : {es : List Entry} {w v : Waits} (i : ℕ) → Takes es w v → after_commands b i es w ≡ Ok v
  takes_after i end = refl
  takes_after i (one a l) = rw (a, after_commands) (takes_after (i + 1) l)

  -- An entry of an expression is not one of a command.
  value_taken : (e : Entry) (ws vs : List ValueType) → after_entry (scope_in b) e ws ≡ Ok vs → after_command b e (only ws) ≡ Ok (only vs)
  value_taken e ws vs i =
      let low : e.left ≤ 29 = grind (arith, nat_tests) in
      let same : after_command b e (only ws) ≡ valued (after_entry (scope_in b) e ws) [] = grind (arith, nat_tests) in
      same ∙ rw i

  leads_taken : {es rest : List Entry} {ws vs : List ValueType} {u : Waits} → Leads (scope_in b) es ws vs → Takes rest (only vs) u → Takes (es ++ rest) (only ws) u
  leads_taken stay l = l
  leads_taken (step {e} {ws = ws} {vs = vs} a k) l = one (value_taken e ws vs a) (leads_taken k l)

  value_takes : {x : Expression} {t : ValueType} {rest : List Entry} (ws : List ValueType) {u : Waits}
      → Typed (scope_in b) x t → length ws + length (postfix x) ≤ 1024 → Takes rest (only (t ∷ ws)) u → Takes (postfix x ++ rest) (only ws) u
  value_takes ws d h l = leads_taken (simp append-nil at (leads-postfix (scope_in b) {ws = ws} d h stay)) l

  arguments_take : (xs : List Expression) (ts ws : List ValueType) {rest : List Entry} {u : Waits} → Alike (λ e t. Typed (scope_in b) e t) xs ts
      → length ws + length (flat_map postfix xs) ≤ 1024 → Takes rest (only (reverse ts ++ ws)) u → Takes (flat_map postfix xs ++ rest) (only ws) u
  arguments_take [] [] ws a h l = l
  arguments_take [] (t ∷ ts) ws a h l = absurd a
  arguments_take (x ∷ xs) [] ws a h l = absurd a
  arguments_take (x ∷ xs) (t ∷ ts) ws a h l =
      let n = length-append (postfix x) (flat_map postfix xs) in
      let m = some_entry x in
      let last : reverse (t ∷ ts) ++ ws ≡ reverse ts ++ (t ∷ ws) = rw (reverse-append (t ∷ []) ts, append_assoc) refl in
      rw append_assoc (value_takes ws a.0 (omega arith) (arguments_take xs ts (t ∷ ws) a.1 (omega arith) (rw last at l)))

  receivers-take : (new : List ℕ) (outs : List ValueType) (ts : List ValueType) (rs : List ℕ) {rest : List Entry} {u : Waits} → Alike (λ n t. standing b n ≡ changeable t) new outs
      → distinct (rs ++ new) ≡ true → Takes rest (record { types = ts; receivers = rs ++ new }) u → Takes (map (entry 47) new ++ rest) (record { types = ts; receivers = rs }) u
  receivers-take [] [] ts rs a i l = rw append-nil at l
  receivers-take [] (o ∷ outs) ts rs a i l = absurd a
  receivers-take (n ∷ new) [] ts rs a i l = absurd a
  receivers-take (n ∷ new) (o ∷ outs) ts rs a i l =
      let apart = later_apart n rs new i in
      let first : after_command b (entry 47 n) (record { types = ts; receivers = rs }) ≡ Ok (record { types = ts; receivers = rs ++ (n ∷ []) }) = rw (a.0, apart) in
      one first (receivers-take new outs ts (rs ++ (n ∷ [])) a.1 (rw append_assoc i) (rw append_assoc l))

  received_all : (rs : List ℕ) (outs : List ValueType) → Alike (λ n t. standing b n ≡ changeable t) rs outs → received b rs outs ≡ true
  received_all [] [] a = refl
  received_all [] (o ∷ outs) a = refl
  received_all (r ∷ rs) [] a = refl
  received_all (r ∷ rs) (o ∷ outs) a = let ih = received_all rs outs a.1 in rw (a.0, ih) (grind (arith, nat_tests))

  call_taken : (name : ℕ) (q : Callee) (rs : List ℕ) → b.callee name ≡ Some q → Alike (λ n t. standing b n ≡ changeable t) rs q.outs → covered b.modifies q.modifies ≡ true
      → after_command b (entry 46 name) (record { types = reverse q.ins; receivers = rs }) ≡ Ok nothing
  call_taken name q rs i a c =
      let n = length-reverse q.ins in
      let m = AllZip-long (λ n t. standing b n ≡ changeable t) rs q.outs a in
      let whole : take (length q.ins) (reverse q.ins) ≡ reverse q.ins = take_all (length q.ins) (reverse q.ins) (omega arith) in
      rw (i, n, whole, reverse-reverse, fits_itself, received_all rs q.outs a, c, m) (grind (arith, nat_tests))

  command_takes : {c : Command} {rest : List Entry} {u : Waits} → Right b c → length (written c) ≤ 1024 → Takes rest nothing u → Takes (written c ++ rest) nothing u
  command_takes (an_assignment name {e} {t} i d) h l =
      let n = length-append (postfix e) (entry 40 name ∷ []) in
      let last : after_command b (entry 40 name) (only (t ∷ [])) ≡ Ok nothing = rw i (grind (arith, nat_tests)) in
      rw append_assoc (value_takes [] d (omega arith) (one last l))
  command_takes (an_assertion {e} d) h l =
      let n = length-append (postfix e) (entry 43 0 ∷ []) in
      rw append_assoc (value_takes [] d (omega arith) (one refl l))
  command_takes (an_assumption {e} d) h l =
      let n = length-append (postfix e) (entry 44 0 ∷ []) in
      rw append_assoc (value_takes [] d (omega arith) (one refl l))
  command_takes (a_havoc name i) h l = one (rw i) l
  command_takes (a_call name {arguments} {receivers} q i ins outs apart covers) h l =
      let n = length-append (flat_map postfix arguments) (map (entry 47) receivers ++ (entry 46 name ∷ [])) in
      simp append_assoc (arguments_take arguments q.ins [] ins (omega arith)
      (rw append-nil (receivers-take receivers q.outs (reverse q.ins) [] outs apart (one (call_taken name q receivers i outs covers) l))))

  commands-take : (cs : List Command) → AllByRecursion (Right b) cs → length (flat_map written cs) ≤ 1024 → Takes (flat_map written cs) nothing nothing
  commands-take [] a h = end
  commands-take (c ∷ cs) a h = let n = length-append (written c) (flat_map written cs) in command_takes a.0 (omega arith) (commands-take cs a.1 (omega arith))

  -- A page of at most 1,024 entries that is the postfix form of right commands is accepted.
  pub commands_accepted : (es : List Entry) → length es ≤ 1024 → CommandPage b es → is_ok (checked_commands b es) ≡ true
  commands_accepted es h p =
      let l = commands-take p.commands p.right (omega (arith, ap length p.is_written)) in
      rw (p.is_written, takes_after 0 l, is_ok)

-- The check accepts a page of at most 1,024 entries exactly where it is such a form.
pub exact_commands : ExactCommands
exact_commands b es h = (accepted_commands b es, commands_accepted b es h)
