-- How a command page is checked, entry by entry, types and receivers waiting.
use Rattle.std.specs.Prelude.{ℕ, ◌+◌, ◌≤◌, Bool, true, false, cond, not, ◌&&◌, List, [], ◌∷◌, ◌++◌, reverse, length, take, is_ok, Some, None, Ok, Err, Decides, Option, Result, ◌==◌, nat_lt}
use Rattle.fault.specs.declared.Cause.{Cause}
use Rattle.fault.specs.declared.Cause.TheVariants.{Entry as AtEntry}
use Rattle.fault.specs.declared.Ground.{Ground}
use Rattle.fault.specs.declared.Ground.TheVariants.{Code, NotUsable, TooFewWaiting, WrongTypes, Remaining, Unchangeable, NotModified, Receivers}
use Rattle.fault.specs.declared.Place.TheVariants.{At, End}
use Rattle.page.specs.declared.Entry.{Entry}
use Rattle.language.specs.declared.ValueType.{ValueType}
use Rattle.language.specs.Codes.{alike, between, bool}
use Rattle.language.specs.Checking.{Waiting, after_entry}
use Rattle.language.specs.Commands.{BodyScope, Callee, CommandPage, Standing, changeable, covered, fixed, scope_in, standing, unknown, unmodified}
use Rattle.language.specs.Lists.{member}

-- Types that wait, the last to come in front, and the names of receivers that wait, in their order.
pub record Waits : Type 0 where
  pub types : List ValueType
  pub receivers : List ℕ

abbrev pub nothing : Waits
nothing = record { types = []; receivers = [] }

abbrev pub Step : Type 0
Step = Result Waits Ground

-- The grounds that follow one another: the first whose test says so.
abbrev pub unless : Bool → Ground → Step → Step
unless test reason rest = cond test (Err reason) rest

-- Does anything wait that the command does not take?
abbrev pub remains : List ValueType → List ℕ → Bool
remains [] [] = false
remains [] (r ∷ rs) = true
remains (t ∷ ts) rs = true

-- A name that a command is to change, once the command's other tests are passed.
abbrev pub changed : Standing → Step → Step
changed (changeable t) rest = rest
changed (fixed t) rest = Err Unchangeable
changed (unmodified t) rest = Err NotModified
changed unknown rest = Err NotUsable

-- An assignment: the name must mean something; then the waiting value, its type, what is left, and the name once more.
abbrev pub assigning : ValueType → Standing → Waits → Step
assigning t s w =
    elim w.types [
      | [] ↦ Err TooFewWaiting
      | x ∷ ts ↦ unless (not (alike x t)) WrongTypes (unless (remains ts w.receivers) Remaining (changed s (Ok nothing)))
    ]

abbrev pub on_assign : Standing → Waits → Step
on_assign (changeable t) w = assigning t (changeable t) w
on_assign (fixed t) w = assigning t (fixed t) w
on_assign (unmodified t) w = assigning t (unmodified t) w
on_assign unknown w = Err NotUsable

-- Assert and assume take one bool.
abbrev pub on_condition : Waits → Step
on_condition w =
    elim w.types [
      | [] ↦ Err TooFewWaiting
      | x ∷ ts ↦ unless (not (alike x bool)) WrongTypes (unless (remains ts w.receivers) Remaining (Ok nothing))
    ]

abbrev pub havocking : Standing → Waits → Step
havocking s w = unless (remains w.types w.receivers) Remaining (changed s (Ok nothing))

abbrev pub on_havoc : Standing → Waits → Step
on_havoc (changeable t) w = havocking (changeable t) w
on_havoc (fixed t) w = havocking (fixed t) w
on_havoc (unmodified t) w = havocking (unmodified t) w
on_havoc unknown w = Err NotUsable

-- A receiver waits for its call; none may wait twice.
abbrev pub on_receiver : Standing → ℕ → Waits → Step
on_receiver s name w =
    changed s (unless (member name w.receivers) Receivers (Ok (record { types = w.types; receivers = w.receivers ++ (name ∷ []) })))

-- Are these the types of the parameters?
abbrev pub fit : List ValueType → List ValueType → Bool
fit [] [] = true
fit [] (t ∷ ts) = false
fit (x ∷ xs) [] = false
fit (x ∷ xs) (t ∷ ts) = alike x t && fit xs ts

-- The declared type of a receiver.
abbrev pub receives : Standing → ValueType → Bool
receives (changeable s) t = alike t s
receives (fixed s) t = alike t s
receives (unmodified s) t = alike t s
receives unknown t = false

-- Out-parameters fit the receivers, in order while both last.
abbrev pub received : BodyScope → List ℕ → List ValueType → Bool
received b [] ts = true
received b (n ∷ ns) [] = true
received b (n ∷ ns) (t ∷ ts) = receives (standing b n) t && received b ns ts

-- A call takes as many waiting values as it has in-parameters.
abbrev pub calling : BodyScope → Callee → Waits → Step
calling b q w =
    unless (nat_lt (length w.types) (length q.ins)) TooFewWaiting
    (unless (not (fit (reverse (take (length q.ins) w.types)) q.ins)) WrongTypes
    (unless (not (received b w.receivers q.outs)) WrongTypes
    (unless (nat_lt (length q.ins) (length w.types)) Remaining
    (unless (not (covered b.modifies q.modifies)) NotModified
    (unless (not (length w.receivers == length q.outs)) Receivers (Ok nothing))))))

abbrev pub on_call : BodyScope → Option Callee → Waits → Step
on_call b None w = Err NotUsable
on_call b (Some q) w = calling b q w

-- A code of an expression; receivers may not stand before it.
abbrev pub valued : Waiting → List ℕ → Step
valued (Err reason) rs = Err reason
valued (Ok ts) [] = Ok (record { types = ts; receivers = [] })
valued (Ok ts) (r ∷ rs) = Err Remaining

-- One entry of a command page.
abbrev pub after_command : BodyScope → Entry → Waits → Step
after_command b e w =
    cond (e.left == 40) (on_assign (standing b e.right) w)
    (cond (between 43 44 e.left) (unless (not (e.right == 0)) Code (on_condition w))
    (cond (e.left == 45) (on_havoc (standing b e.right) w)
    (cond (e.left == 46) (on_call b (b.callee e.right) w)
    (cond (e.left == 47) (on_receiver (standing b e.right) e.right w)
    (valued (after_entry (scope_in b) e w.types) w.receivers)))))

abbrev pub placed : Step → ℕ → ℕ → Result Waits Cause
placed (Ok w) index item = Ok w
placed (Err reason) index item = Err (AtEntry reason (At index item))

-- All entries, the first of them having that index; the first at fault stops it.
abbrev pub after_commands : BodyScope → ℕ → List Entry → Waits → Result Waits Cause
after_commands b index [] w = Ok w
after_commands b index (e ∷ es) w =
    elim (placed (after_command b e w) index e.left) [ Ok v ↦ after_commands b (index + 1) es v | Err cause ↦ Err cause ]

-- At the end nothing waits.
abbrev pub at_page_end : ℕ → Waits → Result (Unit {0}) Cause
at_page_end length w = cond (remains w.types w.receivers) (Err (AtEntry Remaining (End length))) (Ok tt)

-- A command page: accepted, or the cause of its refusal.
abbrev pub checked_commands : BodyScope → List Entry → Result (Unit {0}) Cause
checked_commands b es = elim (after_commands b 0 es nothing) [ Ok w ↦ at_page_end (length es) w | Err cause ↦ Err cause ]

-- The check accepts exactly the pages that are the postfix form of right commands.
abbrev pub ExactCommands : Type 0
ExactCommands = (b : BodyScope) (es : List Entry) → length es ≤ 1024 → Decides (is_ok (checked_commands b es)) (CommandPage b es)
