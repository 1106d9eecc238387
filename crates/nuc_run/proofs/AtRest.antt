-- What holds of every log: the laws of a client that is left alone, and of a plan.
use Rattle.std.proofs.Common.{List}
use Rattle.nuc_log.specs.declared.log.LogEntry.{LogEntry}
use Rattle.nuc_converge.proofs.Exact.{each_plan_is_exact}
use Rattle.nuc_converge.proofs.Rest.{each_lowers_it, few_are_planned, few_unless_collision, none_is_refused}
use Rattle.nuc_world.proofs.Accounted.{nothing_is_lost}
use Rattle.nuc_world.proofs.Reached.{reached_world}
use Rattle.nuc_run.specs.AtRest.{PlansAreExact, RestsThroughout}
use Rattle.nuc_run.specs.Sound.{IsSoundThroughout}

pub sound_throughout : (log : List LogEntry) → IsSoundThroughout log
sound_throughout log es rest w whole reached = record { world = reached_world es w reached; accounted = nothing_is_lost es w reached }

pub plans_are_exact : (log : List LogEntry) → PlansAreExact log
plans_are_exact log es rest c p w v m whole reached step was = each_plan_is_exact es w v c p m step was

pub rests_throughout : (log : List LogEntry) → RestsThroughout log
rests_throughout log es part rest c w v m whole reached rested alone = record {
  lowers = λ n a b was before after. each_lowers_it c es part w v m n a b reached rested alone was before after;
  few = λ d differ. few_are_planned c es part w v m d reached rested alone differ;
  unless = λ d differ none. few_unless_collision c es part w v m d reached rested alone differ none;
  accepted = none_is_refused c es part w v m reached rested alone;
}
