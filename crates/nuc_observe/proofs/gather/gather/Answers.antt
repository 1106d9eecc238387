use Rattle.std.proofs.Common.{◌≡◌, ◌∙◌, ◌++◌, [], ◌∷◌, arith, sym, ap, take, ℕ}
use Rattle.std.specs.Prelude.{unwrap_or}
use Rattle.nuc_observe.specs.Known.{before_of}
use Rattle.nuc_observe.specs.Observed as observed
use Rattle.nuc_observe.specs.Observed.{own_version, known_node, base_of, put_by, put_of, observed_node}
use Rattle.nuc_observe.specs.Turns.{next_after}
use Rattle.nuc_observe.proofs.InTurn.{after_turn, given}
use Rattle.nuc_observe.proofs.gather.gather.Goals as goal

pub loop-item-preserved : goal.loop-item-preserved
loop-item-preserved g c =
    let items = c.args.items.now in
    let i = c.loop-item.item-index in
    let item = c.item-item.result in
    let ids = c.args.by_key.now.numbers in
    let b = before_of g.T.TreeLike.nodes c.args.known.now in
    let inv = c.loop-item.invariant in
    let ver = c.unwrap_or.ensures ∙ (λ k. unwrap_or (c.own_version-own.ensures k) (inv.next k)) in
    let base = base_of (known_node b.keys b.local item.key.0) in
    record {
      nodes =
          c.in_ok-push.ensures.items
          ∙ (λ k. inv.nodes k ++ record { id = record { 0 = c.identity-id.ensures k }; node = (c.in_ok-node.ensures ∙ ap (λ v. observed.node_of ids v item) ver) k } ∷ [])
          ∙ sym (given (own_version b) (λ v it. observed_node ids v it ∷ []) c.args.next_ver items i item (omega arith) c.item-item.is);
      edits =
          c.in_ok-push_any.ensures
          ∙ (λ k. inv.edits k ++ (c.in_ok-edit.ensures ∙ (λ j. put_by (c.own_version-own.ensures j) item.content base (c.identity-id.ensures j) (ver j))) k)
          ∙ sym (given (own_version b) (put_of b ids) c.args.next_ver items i item (omega arith) c.item-item.is);
      next =
          c.in_ok-next.ensures
          ∙ (λ k. next_after (c.own_version-own.ensures k) (inv.next k))
          ∙ sym (after_turn (own_version b) c.args.next_ver items i item (omega arith) c.item-item.is);
    }
