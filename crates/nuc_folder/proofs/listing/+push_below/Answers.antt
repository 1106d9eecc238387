use Rattle.std.proofs.Common.{◌≡◌, ◌≤◌, ◌++◌, ◌∷◌, [], ℕ, refl, sym, subst, arith, append_assoc, rules}
use Rattle.nuc_folder.specs.Listing.{AreInside}
use Rattle.nuc_folder.specs.Listing.Unfolds.{none}
use Rattle.nuc_folder.proofs.Unfolding.{item_added, item_room, none_added}
use Rattle.nuc_folder.proofs.listing.+push_below.Goals as goal

pub loop-item-init : goal.loop-item-init
loop-item-init t c = record { added = ([], none_added _, none); inside = search rules }

pub overflow_sub-left : goal.overflow_sub-left
overflow_sub-left t c = (item_room _ _ _ c.loop-item.yielded _ _ c.in-Some.item c.requires.shelf c.requires.room c.in-Some.ensures.steps.0 c.loop-item.invariant.inside).0

pub push_below-requires : goal.push_below-requires
push_below-requires t c =
    let row = item_room _ _ _ c.loop-item.yielded _ _ c.in-Some.item c.requires.shelf c.requires.room c.in-Some.ensures.steps.0 c.loop-item.invariant.inside in
    let some = row.0 in
    let less = c.decreases in
    (omega (arith, some, less), (c.requires.shelf, row.1))

pub loop-item-preserved : goal.loop-item-preserved
loop-item-preserved t c = record {
  added = item_added _ _ _ _ _ _ c.in-Some.item c.in_ok-push.ensures.ok c.loop-item.invariant.added c.in_ok-push_below.ensures;
  inside = subst (AreInside c.args.shelf.now.now c.args.key.0) (sym (append_assoc c.loop-item.yielded (c.in-Some.item ∷ []) c.next.new.self.rest.items))
      (subst (λ l. AreInside c.args.shelf.now.now c.args.key.0 (c.loop-item.yielded ++ l)) c.in-Some.ensures.steps.0 c.loop-item.invariant.inside);
}
