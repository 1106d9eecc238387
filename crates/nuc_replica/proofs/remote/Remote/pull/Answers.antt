use Rattle.std.proofs.Common.{◌+◌, ◌++◌, ◌∷◌, [], ◌∙◌, ap, sym, subst, drop, take, arith}
use Rattle.std.proofs.lemmas.List.{take_more}
use Rattle.nuc_replica.specs.Remote.{Follows, RemoteState, with_entries}
use Rattle.nuc_replica.proofs.Followed.{drop_item, entry_by_entry, follows_first, follows_rest, one_more}
use Rattle.nuc_replica.proofs.remote.Remote.pull.Goals as goal

pub pull_one-requires : goal.pull_one-requires
pull_one-requires g c =
    let i = c.loop-entry.entry-index in
    let entry = c.entry-item.result in
    let front = drop_item c.args.page.now i entry (omega arith) c.entry-item.is in
    follows_first c.loop-entry.self.now entry (drop (i + 1) c.args.page.now) (subst (Follows c.loop-entry.self.now) front c.loop-entry.invariant.follows)

pub loop-entry-preserved : goal.loop-entry-preserved
loop-entry-preserved g c =
    let i = c.loop-entry.entry-index in
    let entry = c.entry-item.result in
    let rest = drop (i + 1) c.args.page.now in
    let now = c.loop-entry.self.now in
    let page = c.args.page.now in
    let front = drop_item c.args.page.now i entry (omega arith) c.entry-item.is in
    let one = c.in_ok-pull_one.ensures in
    record {
      follows = subst (λ (s : RemoteState). Follows s rest) (sym one.ok) (follows_rest now entry rest (subst (Follows now) front c.loop-entry.invariant.follows));
      same = ap (λ (s : RemoteState). with_entries s rest) one.ok ∙ sym (entry_by_entry now entry rest) ∙ ap (with_entries now) (sym front) ∙ c.loop-entry.invariant.same;
      moved = one.ok ∙ ap (λ (s : RemoteState). with_entries s (entry ∷ [])) c.loop-entry.invariant.moved ∙ one_more c.args.self.now.now (take i page) entry
          ∙ sym (ap (with_entries c.args.self.now.now) (take_more page i entry (omega arith) ∙ ap (λ e. take i page ++ e ∷ []) (sym c.entry-item.is)));
      settled = one.settled ∙ c.loop-entry.invariant.settled;
    }
