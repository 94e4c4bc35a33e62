use Rattle.language.proofs.ExactCommands.{exact_commands}
use Rattle.language.proofs.command_pages_are_exact.Goals as goal

pub returns : goal.returns
returns c = exact_commands
