use Rattle.std.proofs.Common.{◌≡◌, ◌∙◌, ◌++◌, [], ◌∷◌, arith, sym, take, ℕ}
use Rattle.std.specs.Prelude.{unwrap_or}
use Rattle.nuc_folder.specs.declared.item.Item.{Item}
use Rattle.nuc_lookup.specs.declared.row.Row.{Row}
use Rattle.nuc_observe.specs.Observed.{id_of}
use Rattle.nuc_observe.specs.Turns.{next_after}
use Rattle.nuc_observe.proofs.InTurn.{after_turn, given}
use Rattle.nuc_observe.proofs.identities.drawn_rows.Goals as goal

pub loop-item-preserved : goal.loop-item-preserved
loop-item-preserved c =
    let items = c.args.items.now in
    let i = c.loop-item.item-index in
    let item = c.item-item.result in
    let inv = c.loop-item.invariant in
    record {
      rows =
          c.in_ok-push.ensures.items
          ∙ (λ k. inv.rows k ++ record { from = item.key.0; to = (c.unwrap_or-to.ensures ∙ (λ j. unwrap_or (c.own_id-own.ensures j) (inv.next j))) k } ∷ [])
          ∙ sym (given (λ (x : Item). id_of c.args.keys.now.now x.key.0) (λ (x : ℕ) (it : Item). record { from = it.key.0; to = x } ∷ []) c.args.next_id items i item (omega arith) c.item-item.is);
      next =
          c.in_ok-next.ensures
          ∙ (λ k. next_after (c.own_id-own.ensures k) (inv.next k))
          ∙ sym (after_turn (λ (x : Item). id_of c.args.keys.now.now x.key.0) c.args.next_id items i item (omega arith) c.item-item.is);
    }
