use Rattle.std.proofs.Common.{◌≡◌, ◌++◌, ◌∷◌, [], refl, ap, sym, subst, ◌∙◌}
use Rattle.std.specs.Prelude.{nat_eq}
use Rattle.indexmap.specs.IndexMap.{get}
use Rattle.nuc_journal.specs.Journal.{IsNextEntry, IsJournal}
use Rattle.nuc_journal.specs.Tracks.{IsKept}
use Rattle.nuc_journal.proofs.Journals.{journal_push}
use Rattle.nuc_journal.proofs.Kept.{kept_push}
use Rattle.nuc_journal.proofs.journal.Journal.push.Goals as goal

pub returns-clause-journal : goal.returns-clause-journal
returns-clause-journal c =
    let next = subst (λ es. IsNextEntry es c.args.entry) (sym (ap (λ s. s.now) c.self.view_is)) c.requires in
    subst IsJournal (sym c.in_ok-push.ensures.items) (journal_push _ _ c.self.invariant.journal next)

pub invariant_of-self-2 : goal.invariant_of-self-2
invariant_of-self-2 c =
    let fields = c.self.inside in
    let next = subst (λ es. IsNextEntry es c.args.entry) (sym (ap (λ s. s.now) c.self.view_is)) c.requires in
    let kept = kept_push fields.entries.items fields.settled (get nat_eq fields.tracks) fields.before.items c.args.entry
    c.track_of-prior.result c.next_track-next.result (get nat_eq c.reserve-2.new.self) (get nat_eq c.note.new.tracks)
    c.self.invariant next c.track_of-prior.ensures (λ x. rw c.in_ok-reserve-2.ensures.entries refl) c.next_track-next.ensures c.note.ensures.tracks in
    let olds : c.note.new.before.items ≡ fields.before.items ++ c.track_of-prior.result ∷ [] =
    c.note.ensures.before ∙ ap (λ bs. bs ++ c.track_of-prior.result ∷ []) c.in_ok-reserve.ensures.items in
    subst (λ bs. IsKept c.push.new.self.items fields.settled (get nat_eq c.note.new.tracks) bs) (sym olds)
    (subst (λ es. IsKept es fields.settled (get nat_eq c.note.new.tracks) (fields.before.items ++ c.track_of-prior.result ∷ [])) (sym c.in_ok-push.ensures.items) kept)
