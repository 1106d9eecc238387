use Rattle.std.proofs.Common.{[], sym, subst}
use Rattle.nuc_script.specs.Fitting.{FitBehind}
use Rattle.nuc_script.specs.Taking.{ReadsScript}
use Rattle.nuc_script.specs.declared.script_read.ScriptRead.TheVariants as read
use Rattle.nuc_script.proofs.CommandsFit.{every_script_fits}
use Rattle.nuc_run.proofs.AtRest.{plans_are_exact, rests_throughout, sound_throughout}
use Rattle.nuc_run.proofs.Ended.{ran_script, was_read}
use Rattle.nuc_run.proofs.run.run_script.Goals as goal

pub returns-then-not-are_run-clause-sound : goal.returns-then-not-are_run-clause-sound
returns-then-not-are_run-clause-sound g c = sound_throughout _

pub returns-then-not-are_run-clause-plans : goal.returns-then-not-are_run-clause-plans
returns-then-not-are_run-clause-plans g c = plans_are_exact _

pub returns-then-not-are_run-clause-rests : goal.returns-then-not-are_run-clause-rests
returns-then-not-are_run-clause-rests g c = rests_throughout _

pub run-requires : goal.run-requires
run-requires g c =
    let script = c.in-Commands.ensures.script in
    subst (FitBehind []) (sym c.as_slice.ensures) ((every_script_fits script.0 c.in-Commands.commands script.3).0)

pub returns-in-Commands-clause-script : goal.returns-in-Commands-clause-script
returns-in-Commands-clause-script g c =
    let left = g.S.Source.left c.args.input.now in
    let rest = g.S.Source.left c.read_script.new.src in
    let cs = c.as_slice.result.now in
    let script = subst (λ cs. ReadsScript left (read.Commands cs) rest) (sym c.as_slice.ensures) c.in-Commands.ensures.script in
    ran_script left rest cs c.run.result.before c.run.result.log (was_read left rest cs script) c.run.ensures.before

pub returns-in-Commands-clause-sound : goal.returns-in-Commands-clause-sound
returns-in-Commands-clause-sound g c = sound_throughout _

pub returns-in-Commands-clause-plans : goal.returns-in-Commands-clause-plans
returns-in-Commands-clause-plans g c = plans_are_exact _

pub returns-in-Commands-clause-rests : goal.returns-in-Commands-clause-rests
returns-in-Commands-clause-rests g c = rests_throughout _

pub returns-in-Fault-clause-sound : goal.returns-in-Fault-clause-sound
returns-in-Fault-clause-sound g c = sound_throughout _

pub returns-in-Fault-clause-plans : goal.returns-in-Fault-clause-plans
returns-in-Fault-clause-plans g c = plans_are_exact _

pub returns-in-Fault-clause-rests : goal.returns-in-Fault-clause-rests
returns-in-Fault-clause-rests g c = rests_throughout _

pub returns-in-ReadFault-clause-sound : goal.returns-in-ReadFault-clause-sound
returns-in-ReadFault-clause-sound g c = sound_throughout _

pub returns-in-ReadFault-clause-plans : goal.returns-in-ReadFault-clause-plans
returns-in-ReadFault-clause-plans g c = plans_are_exact _

pub returns-in-ReadFault-clause-rests : goal.returns-in-ReadFault-clause-rests
returns-in-ReadFault-clause-rests g c = rests_throughout _

pub returns-in-Memory-clause-sound : goal.returns-in-Memory-clause-sound
returns-in-Memory-clause-sound g c = sound_throughout _

pub returns-in-Memory-clause-plans : goal.returns-in-Memory-clause-plans
returns-in-Memory-clause-plans g c = plans_are_exact _

pub returns-in-Memory-clause-rests : goal.returns-in-Memory-clause-rests
returns-in-Memory-clause-rests g c = rests_throughout _
