-- How a page is checked, entry by entry, types waiting; the last to come stands in front.
use Rattle.std.specs.Prelude.{ℕ, ◌+◌, ◌≤◌, cond, not, ◌&&◌, List, [], ◌∷◌, length, is_some, is_ok, Some, None, Ok, Err, Decides, Option, Result, ◌==◌, nat_lt}
use Rattle.fault.specs.declared.Cause.{Cause}
use Rattle.fault.specs.declared.Cause.TheVariants.{Entry as AtEntry}
use Rattle.fault.specs.declared.Ground.{Ground}
use Rattle.fault.specs.declared.Ground.TheVariants.{Code, NotUsable, TooFewWaiting, TooManyWaiting, WrongTypes, Remaining}
use Rattle.fault.specs.declared.Place.TheVariants.{At, End}
use Rattle.page.specs.declared.Entry.{Entry}
use Rattle.language.specs.declared.ValueType.{ValueType}
use Rattle.language.specs.Codes.{alike, between, bool, int, word_type, unary_type, binary_type}
use Rattle.language.specs.Expressions.{Scope, Postfix, type_of, old_type}

-- What waits after an entry, or the ground on which it is refused.
abbrev pub Waiting : Type 0
Waiting = Result (List ValueType) Ground

-- One value more; at most 1,024 may wait.
abbrev pub waiting_for : ValueType → List ValueType → Waiting
waiting_for t ws = cond (nat_lt (length ws) 1024) (Ok (t ∷ ws)) (Err TooManyWaiting)

abbrev pub leaf : Ground → Option ValueType → List ValueType → Waiting
leaf reason None ws = Err reason
leaf reason (Some t) ws = waiting_for t ws

-- The result in the place of its operands.
abbrev pub replaced : Option ValueType → List ValueType → Waiting
replaced None ws = Err WrongTypes
replaced (Some t) ws = Ok (t ∷ ws)

abbrev pub on_one : ℕ → List ValueType → Waiting
on_one code [] = Err TooFewWaiting
on_one code (x ∷ ws) = replaced (unary_type code x) ws

abbrev pub on_two : ℕ → List ValueType → Waiting
on_two code [] = Err TooFewWaiting
on_two code (y ∷ []) = Err TooFewWaiting
on_two code (y ∷ x ∷ ws) = replaced (binary_type code x y) ws

-- One entry. Codes 4, 5 and 8 carry an argument, the others 0; 8 stands only where `old` may.
abbrev pub after_entry : Scope → Entry → List ValueType → Waiting
after_entry sc e ws =
    cond (e.left == 4) (waiting_for int ws)
    (cond (e.left == 5) (leaf NotUsable (type_of e.right sc.names) ws)
    (cond (e.left == 8 && is_some sc.olds) (leaf NotUsable (old_type e.right sc.olds) ws)
    (cond (not (e.right == 0)) (Err Code)
    (cond (between 1 3 e.left) (leaf Code (word_type e.left) ws)
    (cond (between 12 13 e.left) (on_one e.left ws)
    (cond (between 14 29 e.left) (on_two e.left ws)
    (Err Code)))))))

abbrev pub located : Waiting → ℕ → ℕ → Result (List ValueType) Cause
located (Ok ws) index item = Ok ws
located (Err reason) index item = Err (AtEntry reason (At index item))

-- All entries, the first of them having that index; the first at fault stops it.
abbrev pub after_entries : Scope → ℕ → List Entry → List ValueType → Result (List ValueType) Cause
after_entries sc index [] ws = Ok ws
after_entries sc index (e ∷ es) ws =
    elim (located (after_entry sc e ws) index e.left) [ Ok vs ↦ after_entries sc (index + 1) es vs | Err cause ↦ Err cause ]

-- At the end of a page of expression entries one bool waits, and nothing else.
abbrev pub at_end : ℕ → List ValueType → Result (Unit {0}) Cause
at_end length [] = Err (AtEntry TooFewWaiting (End length))
at_end length (t ∷ ws) =
    cond (alike t bool) (nothing_left ws) (Err (AtEntry WrongTypes (End length)))
  where
    nothing_left : List ValueType → Result (Unit {0}) Cause
    nothing_left [] = Ok tt
    nothing_left (u ∷ us) = Err (AtEntry Remaining (End length))

-- A page that is to be one bool expression: accepted, or the cause of its refusal.
abbrev pub checked : Scope → List Entry → Result (Unit {0}) Cause
checked sc es = elim (after_entries sc 0 es []) [ Ok ws ↦ at_end (length es) ws | Err cause ↦ Err cause ]

-- The check accepts exactly the pages that are the postfix form of a rightly typed bool expression.
abbrev pub Exact : Type 0
Exact = (sc : Scope) (es : List Entry) → length es ≤ 1024 → Decides (is_ok (checked sc es)) (Postfix sc es bool)
