use Rattle.std.proofs.Common.{◌-◌, ◌≡◌, ◌≤◌, length}
use Rattle.std.specs.List.{AllWithin}
use Rattle.std.specs.declared.cmp.Ordering.TheVariants.{Less, Greater}
use Rattle.nuc_index.specs.Slots.{compare_slot}
use Rattle.nuc_index.proofs.sought.position.Given as goal

abbrev pub invariant-loop-low : goal.invariant-loop-low
invariant-loop-low l = record {
  order : l.low ≤ l.high;
  within : l.high ≤ length l.slots.items;
  less : AllWithin (λ k. compare_slot l.entries l.sought k ≡ Less) l.slots.items 0 l.low;
  more : AllWithin (λ k. compare_slot l.entries l.sought k ≡ Greater) l.slots.items l.high (length l.slots.items);
}

abbrev pub decreases-loop-low : goal.decreases-loop-low
decreases-loop-low l = l.high - l.low
