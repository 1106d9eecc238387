-- A step of a client is the turn of its one member.
use Rattle.std.proofs.Common.{◌≡◌, List, Some, sym, ◌∙◌, ap, subst}
use Rattle.std.proofs.lemmas.Option.{same_Some}
use Rattle.nuc_log.specs.declared.event.Event.{Event}
use Rattle.nuc_log.specs.declared.log.LogEntry.{LogEntry}
use Rattle.nuc_log.specs.declared.reply.Reply.{Reply}
use Rattle.nuc_world.specs.Parts.{turn_at}
use Rattle.nuc_world.specs.State.{MemberState, WorldState, member_of}
use Rattle.nuc_world.specs.Step.{Does, IsTurn, client_of}
use Rattle.nuc_converge.proofs.Stepping.{member_there}

-- what it does, it does of the member that was there to the one that is there then
pub own_does : (log : List LogEntry) (w v : WorldState) (e : Event) (r : Reply) (m k : MemberState) → IsTurn log e r w v
    → member_of (client_of e) w.members ≡ Some m → member_of (client_of e) v.members ≡ Some k → Does log e r (turn_at w.shared m) (turn_at v.shared k)
own_does log w v e r m k turn was there =
    let before : turn.member ≡ m = same_Some turn.member m (sym turn.was ∙ was) in
    let now : member_of (client_of e) v.members ≡ Some turn.after =
    ap (member_of (client_of e)) turn.now ∙ member_there (client_of e) w.members turn.member turn.after turn.was in
    let after : turn.after ≡ k = same_Some turn.after k (sym now ∙ there) in
    subst (λ (x : MemberState). Does log e r (turn_at w.shared x) (turn_at v.shared k)) before
    (subst (λ (x : MemberState). Does log e r (turn_at w.shared turn.member) (turn_at v.shared x)) after turn.does)
