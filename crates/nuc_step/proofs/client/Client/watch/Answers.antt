use Rattle.std.proofs.Common.{◌∙◌, ap}
use Rattle.nuc_step.specs.Client.{ClientStates}
use Rattle.nuc_step.specs.Watching.{LeadsTo}
use Rattle.nuc_step.proofs.Leading.{matched, watched_may}
use Rattle.nuc_step.proofs.client.Client.watch.Goals as goal

pub note_watched-requires-clause-can : goal.note_watched-requires-clause-can
note_watched-requires-clause-can g c =
    let inside = c.self.inside in
    let r = g.T.TreeLike.nodes c.tree-remote.result.now in
    let s = g.T.TreeLike.nodes c.tree-synced.result.now in
    let e = c.args.edits.now.now in
    let leads = matched c.in_ok-watched.field-0 _ (LeadsTo r inside.local.now s e.edits c.args.ids.now c.args.change.now) c.in-Some.watched c.in-Some.is c.in_ok-watched.ensures in
    (watched_may r s inside.local.now c.args.self.now.now e c.args.ids.now c.args.change.now c.in-Some.watched
    (c.tree-remote.ensures.nodes ∙ ap (λ (t : ClientStates). t.now.remote.tree) c.self.view_is) (ap (λ (t : ClientStates). t.now.local) c.self.view_is)
    (c.tree-synced.ensures.nodes ∙ ap (λ (t : ClientStates). t.now.synced) c.self.view_is) c.requires leads).0

pub note_watched-requires-clause-version : goal.note_watched-requires-clause-version
note_watched-requires-clause-version g c =
    let inside = c.self.inside in
    let r = g.T.TreeLike.nodes c.tree-remote.result.now in
    let s = g.T.TreeLike.nodes c.tree-synced.result.now in
    let e = c.args.edits.now.now in
    let leads = matched c.in_ok-watched.field-0 _ (LeadsTo r inside.local.now s e.edits c.args.ids.now c.args.change.now) c.in-Some.watched c.in-Some.is c.in_ok-watched.ensures in
    (watched_may r s inside.local.now c.args.self.now.now e c.args.ids.now c.args.change.now c.in-Some.watched
    (c.tree-remote.ensures.nodes ∙ ap (λ (t : ClientStates). t.now.remote.tree) c.self.view_is) (ap (λ (t : ClientStates). t.now.local) c.self.view_is)
    (c.tree-synced.ensures.nodes ∙ ap (λ (t : ClientStates). t.now.synced) c.self.view_is) c.requires leads).1
