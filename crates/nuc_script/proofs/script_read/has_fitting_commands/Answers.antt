use Rattle.nuc_script.proofs.CommandsFit.{every_script_fits}
use Rattle.nuc_script.proofs.script_read.has_fitting_commands.Goals as goal

pub returns : goal.returns
returns c = every_script_fits
