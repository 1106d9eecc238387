-- A client that took over what its folder is: what Local has then is known, as all is that the client held before.
use Rattle.std.specs.Prelude.{nat_le}
use Rattle.std.proofs.Common.{◌≡◌, ◌<◌, ◌≤◌, ℕ, cond, List, Option, Some, None, refl, sym, ◌∙◌, ap, subst, inl, inr, arith}
use Rattle.std.proofs.lemmas.Bool.Decides.{leb_tells}
use Rattle.std.specs.FinMap.{get}
use Rattle.nuc_base.specs.Kinds.{Fits, FitsKind}
use Rattle.nuc_base.specs.Trees.{Nodes}
use Rattle.nuc_base.specs.declared.node.Kind.{Kind}
use Rattle.nuc_base.specs.declared.node.Kind.TheVariants.{Folder, File}
use Rattle.nuc_base.specs.declared.node.Node.{Node}
use Rattle.nuc_edits.specs.Edits.{Recorded, WasPut}
use Rattle.nuc_edits.proofs.Contents.{put_kept}
use Rattle.nuc_folder.specs.declared.noticed.Noticed.{Noticed}
use Rattle.nuc_server.specs.WebEdits.{WebState}
use Rattle.nuc_step.specs.Client.{ClientState}
use Rattle.nuc_step.specs.Held.{HeldData}
use Rattle.nuc_step.specs.Holdings.{Holds, IsOf}
use Rattle.nuc_step.specs.Holdings.Holds.{remote as in_remote, local as in_local, synced as in_synced, ahead as in_ahead, flight as in_flight}
use Rattle.nuc_step.specs.Watching.{Watching}
use Rattle.nuc_step.proofs.Observes.{Observes}
use Rattle.nuc_world.specs.Form.{AllGiven, IsKnown, IsMember, IsPutAs, IsShared}
use Rattle.nuc_world.specs.State.{MemberState, Turn}
use Rattle.nuc_world.specs.Step.{watching_of}
use Rattle.nuc_world.proofs.Entered.{no_entry_later, no_entry_passes}
use Rattle.nuc_world.proofs.Grown.{Grows, Turned, known_grown}

-- KINDS: identities from the next on have the kinds that the tree gives them
abbrev kind_or : Option Node → Kind → Kind
kind_or None k = k
kind_or (Some n) k = n.kind

abbrev pub kinds_of : (ℕ → Kind) → ℕ → Nodes → ℕ → Kind
kinds_of kinds next m x = cond (nat_le next x) (kind_or (get m x) (kinds x)) (kinds x)

old_kind : (kinds : ℕ → Kind) (next : ℕ) (m : Nodes) (x : ℕ) → x < next → kinds_of kinds next m x ≡ kinds x
old_kind kinds next m x below = elim (leb_tells next x) [
  | inl (is, above) ↦ absurd (omega (arith, below, above))
  | inr (is, less) ↦ ap (λ b. cond b (kind_or (get m x) (kinds x)) (kinds x)) is
]

new_kind : (kinds : ℕ → Kind) (next : ℕ) (m : Nodes) (x : ℕ) (n : Node) → next ≤ x → get m x ≡ Some n → kinds_of kinds next m x ≡ n.kind
new_kind kinds next m x n above at = elim (leb_tells next x) [
  | inl (is, from) ↦ ap (λ b. cond b (kind_or (get m x) (kinds x)) (kinds x)) is ∙ ap (λ o. kind_or o (kinds x)) at
  | inr (is, less) ↦ absurd (omega (arith, above, less))
]

-- WHAT IS SO THEN, by what such a client is
module _ (t : Turn) (kinds : ℕ → Kind) (shared : IsShared t.shared kinds) (member : IsMember t.shared kinds t.member)
    (v : Watching) (Comes : ℕ → Type 0) (over : Observes (watching_of t) v Comes) (comes : Comes t.member.folder.next) where
  abbrev Now : WebState
  Now = record t.shared { edits = v.recorded; ids = v.ids }

  abbrev Later : ℕ → Kind
  Later = kinds_of kinds t.shared.ids.next_id v.client.local.tree

  abbrev Client : ClientState
  Client = record t.member.client { local = v.client.local; changes = v.client.changes }

  in_local_known : (x : ℕ) (n : Node) → get t.member.client.local.tree x ≡ Some n → IsKnown t.shared kinds x n.kind n.ver.0
  in_local_known x n at = member.holds x n.kind n.ver.0 (in_local (subst (IsOf n.kind n.ver.0) (sym at) (refl, refl)))

  in_local_put : (x : ℕ) (n : Node) → get t.member.client.local.tree x ≡ Some n → n.kind ≡ File → WasPut t.shared.edits.edits n.ver.0
  in_local_put x n at file = subst (λ k. IsPutAs t.shared.edits.edits k n.ver.0) file (in_local_known x n at).put

  grows : Grows t.shared Now kinds Later
  grows = record {
    kind = old_kind kinds t.shared.ids.next_id v.client.local.tree;
    below = over.later;
    put = λ ver was. subst (λ (r : Recorded). WasPut r.edits ver) (sym over.recorded) (put_kept t.shared.edits.edits over.more ver was);
  }

  put_as : (k : Kind) (n : Node) → n.kind ≡ k → FitsKind n → (n.kind ≡ File → WasPut v.recorded.edits n.ver.0) → IsPutAs v.recorded.edits k n.ver.0
  put_as Folder n is fits put = (subst (λ kind. Fits kind n.ver.0 n.bit) is fits).0
  put_as File n is fits put = put is

  kind_is : (x : ℕ) (n : Node) → get v.client.local.tree x ≡ Some n → n.kind ≡ Later x
  kind_is x n at = elim (leb_tells t.shared.ids.next_id x) [
    | inl (is, above) ↦ sym (new_kind kinds t.shared.ids.next_id v.client.local.tree x n above at)
    | inr (is, less) ↦ (let (h, there, same) = over.kinds x n at less in
        sym same ∙ (in_local_known x h there).kind ∙ sym (old_kind kinds t.shared.ids.next_id v.client.local.tree x less))
  ]

  local_known : (x : ℕ) (k : Kind) (ver : ℕ) (o : Option Node) → get v.client.local.tree x ≡ o → IsOf k ver o → IsKnown Now Later x k ver
  local_known x k ver None at is = absurd is
  local_known x k ver (Some n) at (kind, same) = record {
    kind = sym kind ∙ kind_is x n at;
    below = over.after.fit.local x n at;
    put = subst (IsPutAs v.recorded.edits k) same (put_as k n kind (over.local.form.fits x n at) (over.put in_local_put x n at));
  }

  old_known : (x : ℕ) (k : Kind) (ver : ℕ) → Holds t.member.client x k ver → IsKnown Now Later x k ver
  old_known x k ver holds = known_grown t.shared Now kinds Later grows x k ver (member.holds x k ver holds)

  all_known : (x : ℕ) (k : Kind) (ver : ℕ) → Holds Client x k ver → IsKnown Now Later x k ver
  all_known x k ver (in_remote is) = old_known x k ver (in_remote is)
  all_known x k ver (in_local is) = local_known x k ver (get v.client.local.tree x) refl is
  all_known x k ver (in_synced is) = old_known x k ver (in_synced is)
  all_known x k ver (in_ahead some) = old_known x k ver (in_ahead some)
  all_known x k ver (in_flight some) = old_known x k ver (in_flight some)

  -- then this is pending, and this is held
  abbrev Member : List Noticed → Option HeldData → MemberState
  Member notices listing = record t.member { client = Client; folder = record t.member.folder { pending = notices }; listing = listing }

  pub over_turns : (notices : List Noticed) (listing : Option HeldData) → AllGiven (record t.member.folder { pending = notices }) listing
      → Turned t (record { shared = Now; member = Member notices listing }) kinds
  over_turns notices listing given =
      let its : IsMember Now Later (Member notices listing) = record {
        client = record {
          remote = member.client.remote;
          local = over.local;
          synced = member.client.synced;
          flights = member.client.flights;
          numbers = member.client.numbers;
        };
        at = member.at;
        holds = all_known;
        flights = member.flights;
        keys = over.keys t.member.folder.next comes member.keys;
        made = member.made;
        given = given;
      } in
      record {
        passes = no_entry_passes t.shared Now kinds Later shared grows refl over.after.next;
        member = subst (λ later. IsMember Now later (Member notices listing))
            (sym (no_entry_later t.shared Now kinds Later shared grows refl over.after.next)) its;
      }
