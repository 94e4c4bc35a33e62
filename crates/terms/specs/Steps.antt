-- A term list's own step.
use Rattle.std.specs.Prelude.{◌≡◌, Ok, Err}
use Rattle.sink.specs.Causes.{Answer}
use Rattle.world.specs.Tells.{Tell}
use Rattle.world.specs.declared.Carrier.{Ghosts}
use Rattle.terms.specs.declared.Terms.{Terms}
use Rattle.terms.specs.Held.{Held, told_to}

module _ {C : Type 0} {G : Ghosts C} where
  -- What a term list holds.
  abbrev pub held : Terms C G → Held
  held s = record { records = s.records.now; places = s.places.now; used = s.used; placed = s.placed }

  -- The same records and places are lent.
  abbrev pub Lent : Terms C G → Terms C G → Type 0
  Lent s z = (z.records.ghost_name ≡ s.records.ghost_name) × (z.places.ghost_name ≡ s.places.ghost_name)

  -- An accepted tell keeps what was lent, and a refused one everything.
  abbrev pub Stays : Answer → Terms C G → Terms C G → Type 0
  Stays (Ok e) s z = Lent s z
  Stays (Err c) s z = z ≡ s

  -- The answer and what is held then are those that are defined.
  pub record Steps (s : Terms C G) (t : Tell) (a : Answer) (z : Terms C G) : Type 0 where
    pub told : record { answer = a; held = held z } ≡ told_to t (held s)
    pub stays : Stays a s z
