-- Whether a client is done.
use Rattle.std.specs.Prelude.{◌≡◌, []}
use Rattle.nuc_log.specs.declared.reply.MarkReply.{MarkReply}
use Rattle.nuc_log.specs.declared.reply.MarkReply.TheVariants as mark
use Rattle.nuc_measure.specs.Differing.{IsDiffering}
use Rattle.nuc_step.specs.Client.{ClientState}

-- nothing is in flight, and the three trees are equal
pub record IsQuiet (c : ClientState) : Type 0 where
  pub landed : c.flights ≡ []
  pub remote : c.remote.tree ≡ c.synced
  pub local : c.local.tree ≡ c.synced

-- quiet, or stalled with the number of identities that haven't equal values in the three trees
abbrev pub Marks : ClientState → MarkReply → Type 0
Marks c mark.Quiet = IsQuiet c
Marks c (mark.Stalled n) = ¬ (IsQuiet c) × IsDiffering c.remote.tree c.local.tree c.synced n
