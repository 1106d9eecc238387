-- What a view of a world lends is what a report shows of that world.
use Rattle.std.proofs.Common.{◌≡◌, ◌∙◌, List, map, ap, sym}
use Rattle.std.proofs.lemmas.Simd.{map-map}
use Rattle.nuc_edits.specs.Edits.{Recorded}
use Rattle.nuc_journal.specs.declared.entry.Entry.{Entry}
use Rattle.nuc_log.specs.declared.view.Member.{Member}
use Rattle.nuc_log.specs.declared.view.View.{View}
use Rattle.nuc_report.specs.Seen.{Shown, WorldShown, shown_by}
use Rattle.nuc_world.specs.Parts.{member_now}
use Rattle.nuc_world.specs.State.{MemberState, WorldState}
use Rattle.nuc_run.specs.Outcome.{shown_in}

abbrev shown_with : List Entry → Recorded → List Shown → WorldShown
shown_with entries recorded members = record { entries = entries; recorded = recorded; members = members }

abbrev shown_member : MemberState → Shown
shown_member m = record { client = m.client; folder = m.folder.held }

pub viewed : {T : Type 0} (view : View T) (w : WorldState) → view.server.now.now ≡ w.shared.entries → view.edits.now.now ≡ w.shared.edits
    → map (λ (m : Member T). member_now m.client m.folder) view.members.now ≡ w.members → shown_by view ≡ shown_in w
viewed {T} view w entries edits members =
    ap (λ x. shown_with x view.edits.now.now (map (λ (m : Member T). shown_member (member_now m.client m.folder)) view.members.now)) entries
    ∙ ap (λ x. shown_with w.shared.entries x (map (λ (m : Member T). shown_member (member_now m.client m.folder)) view.members.now)) edits
    ∙ ap (shown_with w.shared.entries w.shared.edits)
    (sym (map-map shown_member (λ (m : Member T). member_now m.client m.folder) view.members.now) ∙ ap (map shown_member) members)
