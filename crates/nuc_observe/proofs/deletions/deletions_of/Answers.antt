use Rattle.std.proofs.Common.{◌≡◌, ◌∙◌, ◌≤◌, ◌++◌, [], ◌∷◌, arith, sym, ap, take, length, ℕ}
use Rattle.std.specs.Prelude.{unwrap_or}
use Rattle.std.specs.FinMap as map
use Rattle.std.proofs.lemmas.List.{take_all}
use Rattle.std.proofs.lemmas.Option.{get_or_from_slice_get, slice_get_within}
use Rattle.nuc_observe.specs.Known.{before_of}
use Rattle.nuc_observe.specs.Observed.{deletion_of, deletions, gone, next_ver_after_deletions, own_of_gone}
use Rattle.nuc_observe.specs.Turns.{next_after}
use Rattle.nuc_observe.proofs.Distinct.{keys_long}
use Rattle.nuc_observe.proofs.InTurn.{after_turn, given}
use Rattle.nuc_observe.proofs.deletions.deletions_of.Goals as goal

pub loop-i-preserved : goal.loop-i-preserved
loop-i-preserved g c =
    let b = before_of g.T.TreeLike.nodes c.args.known.now in
    let ids = c.args.by_key.now.numbers in
    let xs = map.keys (g.T.TreeLike.nodes c.args.known.now.local.now) in
    let i = c.loop-i.i in
    let x = c.nth-id.result.0 in
    let inv = c.loop-i.invariant in
    let own = c.own_number-own.ensures ∙ ap own_of_gone c.gone-base.ensures in
    let ver = c.unwrap_or.ensures ∙ (λ k. unwrap_or (own k) (inv.next k)) in
    let within = slice_get_within xs i x c.nth-id.ensures in
    let is = sym (get_or_from_slice_get xs i x x c.nth-id.ensures) in
    record {
      edits =
          c.in_ok-push_any.ensures
          ∙ (λ k. inv.edits k ++ (c.deletion_of.ensures ∙ (λ j. deletion_of (c.gone-base.ensures j) (ver j) x)) k)
          ∙ sym (given (λ y. own_of_gone (gone b ids y)) (λ v y. deletion_of (gone b ids y) v y) c.args.next_ver xs i x within is);
      next =
          c.in_ok-next.ensures
          ∙ (λ k. next_after (own k) (inv.next k))
          ∙ sym (after_turn (λ y. own_of_gone (gone b ids y)) c.args.next_ver xs i x within is);
    }

pub returns-clause-edits : goal.returns-clause-edits
returns-clause-edits g c =
    let m = g.T.TreeLike.nodes c.args.known.now.local.now in
    let all : length (map.keys m) ≤ c.loop-i.i = omega (arith, keys_long m, c.len-i-end.ensures, c.loop-i-test.false) in
    c.loop-i.invariant.edits
    ∙ ap (deletions (before_of g.T.TreeLike.nodes c.args.known.now) c.args.by_key.now.numbers c.args.next_ver) (take_all c.loop-i.i (map.keys m) all)

pub returns-clause-next : goal.returns-clause-next
returns-clause-next g c =
    let m = g.T.TreeLike.nodes c.args.known.now.local.now in
    let all : length (map.keys m) ≤ c.loop-i.i = omega (arith, keys_long m, c.len-i-end.ensures, c.loop-i-test.false) in
    c.loop-i.invariant.next
    ∙ ap (next_ver_after_deletions (before_of g.T.TreeLike.nodes c.args.known.now) c.args.by_key.now.numbers c.args.next_ver) (take_all c.loop-i.i (map.keys m) all)
