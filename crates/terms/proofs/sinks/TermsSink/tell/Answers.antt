use Rattle.std.proofs.Common.{◌<◌, Ok, sym, arith}
use Rattle.std.proofs.lemmas.Grind.{common_steps}
use Rattle.world.specs.Tells.{Tell}
use Rattle.sink.specs.Laws.{apt}
use Rattle.terms.specs.Held.{spare_of}
use Rattle.terms.specs.Steps.{held}
use Rattle.terms.specs.Growing.{among_more}
use Rattle.terms.specs.Lawful.{sound_of, term_lawful}
use Rattle.terms.proofs.sinks.TermsSink.tell.Goals as goal

pub invariant_of-self-2-clause-operands : goal.invariant_of-self-2-clause-operands
invariant_of-self-2-clause-operands g c =
    let h = held c.args.self.now in
    let t : Tell = record { code = c.args.code; argument = c.args.argument; operands = c.args.operands.now } in
    let spare : 0 < spare_of h = omega arith in
    among_more t h (sound_of c.args.self.now) (sym {b = apt h.used t} c.if-not-suited.ensures) spare

pub returns-clause-told : goal.returns-clause-told
returns-clause-told g c = term_lawful g.C.Carrier.Value _ _ (Ok _) _ (grind (arith, common_steps))
