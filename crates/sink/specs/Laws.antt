-- What a sink promises of one tell.
use Rattle.std.specs.Prelude.{◌≡◌, ℕ, ◌+◌, ◌<◌, ◌≤◌, Bool, true, false, ◌&&◌, List, map, length, Some, None, Ok, Err, Option, ◌==◌, nat_lt}
use Rattle.std.specs.List.{list_all}
use Rattle.world.specs.Tells.{Tell, arity, meant, Binds}
use Rattle.world.specs.Worlds.{Reading}
use Rattle.sink.specs.declared.Cause.{Cause}
use Rattle.sink.specs.declared.Cause.TheVariants.{Operands, Code, Full}
use Rattle.sink.specs.Causes.{Answer}

-- Is this the count of operands? A code that is never told has none.
abbrev pub suits : Option ℕ → ℕ → Bool
suits None count = false
suits (Some n) count = count == n

-- Is each of these numbers below n?
abbrev pub below : ℕ → List ℕ → Bool
below n xs = list_all (λ x. nat_lt x n) xs

-- In a sink with so many entries: are these operands entries, and as many as the code has?
abbrev pub fitting : ℕ → ℕ → List ℕ → Bool
fitting entries code operands = suits (arity code) (length operands) && below entries operands

-- Are the operands of a tell such?
abbrev pub apt : ℕ → Tell → Bool
apt entries t = fitting entries t.code t.operands

-- The ghost members of a sink whose states are S.
module _ {S V : Type 0} (watches : S → Reading V → Type 0) (entries : S → ℕ) (value : S → Reading V → ℕ → V) (takes : S → ℕ → Bool) (spare : S → ℕ) where
  -- The tell t was accepted with the entry e, which may be an old one.
  pub record Accepted (s : S) (t : Tell) (e : ℕ) (s' : S) : Type 0 where
    pub apt : apt (entries s) t ≡ true
    pub taken : takes s t.code ≡ true
    pub within : e < entries s'
    -- the entry's value in each watched reading is the reading's for the tell; logic binds it on truth values only
    pub meaning : (q : Reading V) → watches s q → Binds q t.code (map (value s q) t.operands) → value s' q e ≡ meant q t.code t.argument (map (value s q) t.operands)
    -- the same readings are watched, older entries and their values stay, and so do the codes
    pub watching : (q : Reading V) → (watches s q → watches s' q) × (watches s' q → watches s q)
    pub older : entries s ≤ entries s'
    pub values : (q : Reading V) → watches s q → (k : ℕ) → k < entries s → value s' q k ≡ value s q k
    pub codes : (c : ℕ) → takes s' c ≡ takes s c
    -- the spare falls by at most one
    pub falls : spare s ≤ spare s' + 1

  -- The tell t was refused, which leaves the sink as before. Operands comes exactly where the tell is not apt; else Code exactly
  -- where the code is not taken; and Full only at spare 0.
  abbrev pub Refused : S → Tell → Cause → S → Type 0
  Refused s t Operands s' = (s' ≡ s) × (apt (entries s) t ≡ false)
  Refused s t Code s' = (s' ≡ s) × (apt (entries s) t ≡ true) × (takes s t.code ≡ false)
  Refused s t Full s' = (s' ≡ s) × (apt (entries s) t ≡ true) × (takes s t.code ≡ true) × (spare s ≡ 0)

  -- What a sink owes for a tell that it gave this answer.
  abbrev pub Told : S → Tell → Answer → S → Type 0
  Told s t (Ok e) s' = Accepted s t e s'
  Told s t (Err c) s' = Refused s t c s'
