-- A scan keeps a member.
use Rattle.std.proofs.Common.{◌≡◌, ℕ, Option, Some, None, refl, sym, ◌∙◌, ap, subst, arith}
use Rattle.std.specs.Prelude.{IsSomeAnd}
use Rattle.nuc_base.specs.declared.node.Kind.{Kind}
use Rattle.nuc_step.specs.Client.{ClientState}
use Rattle.nuc_step.specs.Held.{HeldData, HeldState}
use Rattle.nuc_step.specs.Scanning.{IsScanned}
use Rattle.nuc_step.specs.Watching.{Watching}
use Rattle.nuc_step.specs.declared.answers.Scanned.{Scanned}
use Rattle.nuc_step.specs.declared.answers.Scanned.TheVariants as scan
use Rattle.nuc_step.proofs.ScanBrings.{ItemsBelow, scan_observes}
use Rattle.nuc_world.specs.Form.{AllGiven, IsListedBelow, IsMember, IsShared}
use Rattle.nuc_world.specs.Starts.{with_client}
use Rattle.nuc_world.specs.State.{MemberState, Turn}
use Rattle.nuc_world.specs.Step.{Scans, watching_of, with_watching}
use Rattle.nuc_world.proofs.Grown.{Turned, turned_alone}
use Rattle.nuc_world.proofs.Later.{member_beside}
use Rattle.nuc_world.proofs.Observed.{over_turns}
use Rattle.nuc_world.proofs.Ready.{member_can_watch}

-- the turn with what a scan may change, and no listing held any more
abbrev scanned : Watching → ClientState → Turn → Turn
scanned w c t = record (with_watching w t) { member = record (with_client c t.member) { listing = None } }

module _ (t : Turn) (kinds : ℕ → Kind) (shared : IsShared t.shared kinds) (member : IsMember t.shared kinds t.member) where
  unlisted_given : AllGiven t.member.folder None
  unlisted_given = record { held = member.given.held; pending = member.given.pending; listed = tt }

  -- nothing but the listing changes
  let_go_turns : (u : Turn) → watching_of u ≡ watching_of t → u ≡ scanned (watching_of u) u.member.client t → Turned t u kinds
  let_go_turns u same now =
      let m : MemberState = record t.member { listing = None } in
      let stays : u ≡ record t { member = m } = now ∙ ap (λ (w : Watching). scanned w w.client t) same in
      subst (λ (v : Turn). Turned t v kinds) (sym stays)
      (turned_alone t (record t { member = m }) kinds shared refl (member_beside t.shared kinds t.member m refl (omega arith) unlisted_given member))

  by_held : (k : ℕ) (u : Turn) (held : Option HeldData) → IsListedBelow t.member.folder.next held
      → IsSomeAnd held (λ h. (h.changes ≡ t.member.client.changes) × IsScanned (watching_of t) k (watching_of u) h.items)
      → u ≡ scanned (watching_of u) u.member.client t → Turned t u kinds
  by_held k u None below is now = absurd is
  by_held k u (Some h) below is now =
      let over = scan_observes (watching_of t) h.items member.client.local (member_can_watch t.shared kinds t.member member shared) k (watching_of u) is.1 in
      let so = now ∙ ap (λ (c : ClientState). scanned (watching_of u) c t) over.client in
      subst (λ (v : Turn). Turned t v kinds) (sym so)
      (over_turns t kinds shared member (watching_of u) (ItemsBelow h.items) over below t.member.folder.pending None unlisted_given)

  -- no listing is held then
  gone : (u : Turn) (listing : Option HeldData) → listing ≡ None
      → u ≡ record (with_watching (watching_of u) t) { member = record (with_client u.member.client t.member) { listing = listing } } → u ≡ scanned (watching_of u) u.member.client t
  gone u listing none now = now ∙ ap (λ held. record (with_watching (watching_of u) t) { member = record (with_client u.member.client t.member) { listing = held } }) none

pub scan_turns : (answer : Scanned) (t u : Turn) (kinds : ℕ → Kind) → IsShared t.shared kinds → IsMember t.shared kinds t.member → Scans answer t u → Turned t u kinds
scan_turns scan.NoListing t u kinds shared member ((none, dropped, same), now) =
    let_go_turns t kinds shared member u same (gone t kinds shared member u u.member.listing (ap (λ (h : HeldState). h.now) dropped) now)
scan_turns (scan.Stale changes) t u kinds shared member ((stale, count, dropped, same), now) =
    let_go_turns t kinds shared member u same (gone t kinds shared member u u.member.listing (ap (λ (h : HeldState). h.now) dropped) now)
scan_turns (scan.Bad number) t u kinds shared member ((bad, dropped, same), now) =
    let_go_turns t kinds shared member u same (gone t kinds shared member u u.member.listing (ap (λ (h : HeldState). h.now) dropped) now)
scan_turns (scan.Changed k) t u kinds shared member ((is, dropped), now) =
    by_held t kinds shared member k u t.member.listing member.given.listed is (gone t kinds shared member u u.member.listing (ap (λ (h : HeldState). h.now) dropped) now)
