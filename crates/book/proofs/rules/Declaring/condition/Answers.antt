use Rattle.std.proofs.Common.{rules}
use Rattle.book.proofs.Procedures.{procedure_fits}
use Rattle.book.proofs.rules.Declaring.condition.Goals as goal

pub overflow_cast-result : goal.overflow_cast-result
overflow_cast-result c = procedure_fits c.args.self.now.book c.args.self.now.request.name c.in_ok-procedure.procedure (search rules)
