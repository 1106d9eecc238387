-- The operation that carries out a wish.
use Rattle.std.specs.Prelude.{ℕ, Bool, Option, Some, None}
use Rattle.nuc_base.specs.declared.change.Change.{Change}
use Rattle.nuc_base.specs.declared.change.Change.TheVariants.{Keep, Put, Cut}
use Rattle.nuc_base.specs.declared.node.Node.{Node}
use Rattle.nuc_class.specs.Effects.{effect_of}
use Rattle.nuc_class.specs.Merge.{target}
use Rattle.nuc_class.specs.declared.op.Effect.TheVariants.{Commit}
use Rattle.nuc_class.specs.declared.op.Op.{Op}
use Rattle.nuc_class.specs.declared.op.Verb.{Verb}
use Rattle.nuc_class.specs.declared.op.Verb.TheVariants as verb
use Rattle.nuc_class.specs.declared.wishes.Wish.{Wish}
use Rattle.nuc_class.specs.declared.wishes.Wish.TheVariants as wish

-- an operation with these changes of Remote, Local and Synced, not numbered yet, planned over what Local and Synced have
abbrev pub planned : (ℕ → ℕ → Bool) → Verb → ℕ → Change → Change → Change → Option Node → Option Node → Op
planned same verb id remote local synced l s = record {
  number = 0;
  verb = verb;
  id = record { 0 = id };
  other = record { 0 = 0 };
  remote = remote;
  local = local;
  synced = synced;
  old_local = l;
  old_synced = s;
  base = 0;
  effect = effect_of same l local remote;
}

-- by x's values in Remote, Local and Synced: what is written in each of them. A split is carried out by a mend, and
-- where nothing is wished there is nothing to do
abbrev pub operation : (ℕ → ℕ → Bool) → Wish → ℕ → Option Node → Option Node → Option Node → Option Op
operation same wish.Down x (Some r) l s = Some (planned same verb.Down x Keep (Put (target r l s)) (Put r) l s)
operation same wish.Down x None l s = None
operation same wish.Up x r (Some l) s = Some (planned same verb.Up x (Put l) Keep (Put l) (Some l) s)
operation same wish.Up x r None s = None
operation same wish.CutDown x r l s = Some (planned same verb.CutDown x Keep Cut Cut l s)
operation same wish.CutUp x r l s = Some (planned same verb.CutUp x Cut Keep Cut l s)
operation same wish.Forget x r l s = Some (planned same verb.Forget x Keep Keep Cut l s)
operation same wish.Split x r l s = None
operation same wish.Nothing x r l s = None

-- the operation that commits a file which stands in Local alone
abbrev pub up_of_new : ℕ → Node → Op
up_of_new id node = record {
  number = 0;
  verb = verb.Up;
  id = record { 0 = id };
  other = record { 0 = 0 };
  remote = Put node;
  local = Keep;
  synced = Put node;
  old_local = Some node;
  old_synced = None;
  base = 0;
  effect = Commit;
}
