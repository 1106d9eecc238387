use Rattle.std.proofs.Common.{◌≡◌, ◌+◌, ◌-◌, ◌/◌, ◌∙◌, ap, sym, arith}
use Rattle.std.specs.declared.cmp.Ordering.TheVariants.{Less, Greater}
use Rattle.nuc_index.specs.Slots.{compare, compare_slot}
use Rattle.nuc_index.proofs.Rows.{at_in}
use Rattle.nuc_index.proofs.Search.{found_at, gap_at, less_up_to, more_from}
use Rattle.nuc_index.proofs.Slots.{entry_is}
use Rattle.nuc_index.proofs.sought.position.Goals as goal

pub index-requires : goal.index-requires
index-requires c = c.requires.full _ (at_in _ _ _ (sym c.get.ensures ∙ c.in-Some.is))

pub loop-low-preserved-in-Less : goal.loop-low-preserved-in-Less
loop-low-preserved-in-Less c =
    let to = compare_slot c.args.entries.now c.args.sought in
    let less : to c.in-Some.slot ≡ Less = ap (compare c.args.sought) (entry_is c.args.entries.now c.in-Some.slot c.index.result.now c.index.ensures)
    ∙ sym c.order_to.ensures ∙ c.in-Less.is in
    record {
      order = omega arith;
      within = c.loop-low.invariant.within;
      less = λ k d a b. less_up_to to c.args.slots.now.items (c.loop-low.low + (c.loop-low.high - c.loop-low.low) / 2) c.in-Some.slot c.requires.rise
          (sym c.get.ensures ∙ c.in-Some.is) less k d a (omega arith);
      more = c.loop-low.invariant.more;
    }

pub returns-in-Equal-clause-place : goal.returns-in-Equal-clause-place
returns-in-Equal-clause-place c = found_at (compare_slot c.args.entries.now c.args.sought) c.args.slots.now.items
    (c.loop-low.low + (c.loop-low.high - c.loop-low.low) / 2) c.in-Some.slot (sym c.get.ensures ∙ c.in-Some.is)
    (ap (compare c.args.sought) (entry_is c.args.entries.now c.in-Some.slot c.index.result.now c.index.ensures) ∙ sym c.order_to.ensures ∙ c.in-Equal.is)

pub loop-low-preserved : goal.loop-low-preserved
loop-low-preserved c =
    let to = compare_slot c.args.entries.now c.args.sought in
    let more : to c.in-Some.slot ≡ Greater = ap (compare c.args.sought) (entry_is c.args.entries.now c.in-Some.slot c.index.result.now c.index.ensures)
    ∙ sym c.order_to.ensures ∙ c.in-Greater.is in
    record {
      order = omega arith;
      within = omega arith;
      less = c.loop-low.invariant.less;
      more = λ k d a b. more_from to c.args.slots.now.items (c.loop-low.low + (c.loop-low.high - c.loop-low.low) / 2) c.in-Some.slot c.requires.rise
          (sym c.get.ensures ∙ c.in-Some.is) more k d a b;
    }

pub returns-clause-place : goal.returns-clause-place
returns-clause-place c = gap_at (compare_slot c.args.entries.now c.args.sought) c.args.slots.now.items c.loop-low.low (omega arith)
    c.loop-low.invariant.less
    (λ k d a b. c.loop-low.invariant.more k d (omega arith) b)
