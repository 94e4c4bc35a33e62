-- What a term list holds, what it answers to a tell, and the values of its entries.
use Rattle.std.specs.Prelude.{ℕ, ◌+◌, ◌-◌, ◌/◌, min, false, cond, List, [], ◌∷◌, ◌++◌, map, length, take, drop, Some, None, Ok, Err, Option, ◌==◌, nat_lt, slice_index_or, slice_set}
use Rattle.std.proofs.Math.Seq.{paste}
use Rattle.sink.specs.declared.Cause.TheVariants.{Operands, Full}
use Rattle.sink.specs.Causes.{Answer}
use Rattle.sink.specs.Laws.{apt}
use Rattle.world.specs.Tells.{Tell, meant}
use Rattle.world.specs.Worlds.{Reading}
use Rattle.terms.specs.declared.Term.{Term}

-- The records and the operand places, and how many of each are used, the first ones.
pub record Held : Type 0 where
  pub records : List Term
  pub places : List ℕ
  pub used : ℕ
  pub placed : ℕ

-- How many are free; records and places count up to 4,294,967,295.
abbrev pub left : ℕ → ℕ → ℕ
left room used = min room 4294967295 - used

-- The lesser of the free records and a sixteenth of the free places, rounded down.
abbrev pub spare_of : Held → ℕ
spare_of h = min (left (length h.records) h.used) (left (length h.places) h.placed / 16)

-- The record of a tell: its operands stand at the first free places.
abbrev pub new_term : Tell → Held → Term
new_term t h = record { code = t.code; argument = t.argument; first = h.placed; count = length t.operands }

-- One more entry, behind the used ones.
abbrev pub grown_by : Tell → Held → Held
grown_by t h = record {
  records = slice_set h.records h.used (new_term t h);
  places = paste h.places h.placed t.operands (length t.operands);
  used = h.used + 1;
  placed = h.placed + length t.operands;
}

-- An answer, with what is held then.
pub record Outcome : Type 0 where
  pub answer : Answer
  pub held : Held

-- What a tell comes to: refused for its operands or at spare 0, and else one more entry.
abbrev pub told_to : Tell → Held → Outcome
told_to t h =
    cond (apt h.used t)
    (cond (spare_of h == 0) (record { answer = Err Full; held = h }) (record { answer = Ok h.used; held = grown_by t h }))
    (record { answer = Err Operands; held = h })

-- The record of an entry; the default stands for none.
abbrev pub record_at : Held → ℕ → Term
record_at h k = slice_index_or h.records k (record { code = 0; argument = 0; first = 0; count = 0 })

-- The operands of a record, from the places.
abbrev pub operands_in : List ℕ → Term → List ℕ
operands_in places t = take t.count (drop t.first places)

-- An entry's record, where it is one.
abbrev pub term_at : Held → ℕ → Option Term
term_at h k = cond (nat_lt k h.used) (Some (record_at h k)) None

-- An entry's operands, where it is one.
abbrev pub operands_at : Held → ℕ → Option (List ℕ)
operands_at h k = cond (nat_lt k h.used) (Some (operands_in h.places (record_at h k))) None

-- The value at a number; false past the last.
abbrev pub looked : {V : Type 0} → Reading V → List V → ℕ → V
looked q vs k = slice_index_or vs k (q.world.truth false)

-- The value of a record, from those of the entries before it.
abbrev pub entered : {V : Type 0} → Reading V → List ℕ → List V → Term → V
entered q places vs t = meant q t.code t.argument (map (looked q vs) (operands_in places t))

-- The values of records in turn, each from those before it.
abbrev pub grown : {V : Type 0} → Reading V → List ℕ → List V → List Term → List V
grown q places vs [] = vs
grown q places vs (t ∷ ts) = grown q places (vs ++ (entered q places vs t ∷ [])) ts

-- The values of all entries.
abbrev pub values_of : {V : Type 0} → Held → Reading V → List V
values_of h q = grown q h.places [] (take h.used h.records)

-- The value of an entry.
abbrev pub value_of : {V : Type 0} → Held → Reading V → ℕ → V
value_of h q k = looked q (values_of h q) k
