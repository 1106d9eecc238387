-- What a watched change leads to may take place.
use Rattle.std.specs.Prelude.{IfSome, IsSomeAnd, MatchBool, MatchOption, not, option_and_then, option_map, unwrap_or}
use Rattle.std.proofs.Common.{◌≡◌, ◌≢◌, ◌<◌, ℕ, Bool, List, Option, None, Some, refl, sym, ◌∙◌, ap, subst, inl, inr, arith}
use Rattle.std.specs.FinMap.{get}
use Rattle.nuc_base.specs.Kinds.{Fits, FitsKind}
use Rattle.nuc_base.specs.Legal.{LegalPut}
use Rattle.nuc_base.specs.Trees.{NoChild, Nodes, WellFormed}
use Rattle.nuc_base.specs.declared.node.Counters.{Counters}
use Rattle.nuc_base.specs.declared.node.Kind.{Kind}
use Rattle.nuc_base.specs.declared.node.Kind.TheVariants.{Folder, File}
use Rattle.nuc_base.specs.declared.node.Node.{Node}
use Rattle.nuc_base.specs.declared.node.Ver.{Ver}
use Rattle.nuc_base.proofs.Depths.{no_loop}
use Rattle.nuc_base.proofs.Maps.{not_both, one_node, same_or_not}
use Rattle.nuc_conflict.specs.FitTogether.{FitBelow, IsBelow}
use Rattle.nuc_edits.specs.Edits.{Recorded}
use Rattle.nuc_edits.specs.declared.edit.Edit.{Edit}
use Rattle.nuc_folder.specs.declared.key_place.KeyPlace.{KeyPlace}
use Rattle.nuc_folder.specs.declared.noticed.Noticed.{Noticed}
use Rattle.nuc_folder.specs.declared.noticed.Noticed.TheVariants as noticed
use Rattle.nuc_hash.specs.Content.{ContentData}
use Rattle.nuc_observe.specs.Listing.{kind_of}
use Rattle.nuc_observe.specs.Observed.{bit_of}
use Rattle.nuc_observe.specs.Versions.{has_hash}
use Rattle.nuc_observe.proofs.KeptFits.{HasVersion, drawn_above, file_has, kept_above}
use Rattle.nuc_replica.specs.Local.{LocalState}
use Rattle.nuc_step.specs.Client.{ClientState}
use Rattle.nuc_step.specs.Watching.{CanTurn, CanWatch, IsKnown, LeadsTo, MadeIn, deletion_of, edit_of, known_of, made_version, moved, moved_node, node_after, parent_of, own_version, removed, turned, with_bit, written, written_edit}
use Rattle.nuc_step.specs.declared.watched.Turn.{Turn}
use Rattle.nuc_step.specs.declared.watched.Turn.TheVariants as turn
use Rattle.nuc_step.specs.declared.watched.Watched.{Watched}
use Rattle.nuc_step.proofs.Noticed.{cut_differs, put_differs}

-- A TURN CHANGES LOCAL exactly where it gives another value
by_turn : (b : Bool) (l : LocalState) (x : ℕ) (t : Turn) → MatchBool b (get l.tree x ≡ node_after t) (get l.tree x ≢ node_after t)
    → MatchBool (not b) ((turned l x t).tree ≢ l.tree) ((turned l x t).tree ≡ l.tree)
by_turn b l x (turn.Add key node) tells = put_differs b l.tree x node tells
by_turn b l x (turn.Put node) tells = put_differs b l.tree x node tells
by_turn b l x turn.Cut tells = cut_differs b l.tree x tells

pub turned_differs : (b : Bool) (l : LocalState) (x : ℕ) (t : Turn) (old new : Option Node) → old ≡ get l.tree x → new ≡ node_after t
    → MatchBool b (old ≡ new) (old ≢ new) → MatchBool (not b) ((turned l x t).tree ≢ l.tree) ((turned l x t).tree ≡ l.tree)
turned_differs b l x t old new at after tells =
    by_turn b l x t (subst (λ o. MatchBool b (o ≡ node_after t) (o ≢ node_after t)) at (subst (λ n. MatchBool b (old ≡ n) (old ≢ n)) after tells))

-- WHO IS KNOWN
pub sound_at : (m : Nodes) (x : ℕ) (n : Node) → WellFormed m → get m x ≡ Some n → (0 < x) × FitsKind n
sound_at m x n form at = (
  elim (same_or_not x 0) [
    | inl e ↦ absurd (not_both m 0 n form.no_root (subst (λ z. get m z ≡ Some n) e at))
    | inr some ↦ omega (arith, some)
  ],
  form.fits x n at,
)

pub some_and : {A : Type 0} (o : Option A) (P : A → Type 0) → IsSomeAnd o P → (a : A) × (o ≡ Some a) × P a
some_and None P is = absurd is
some_and (Some a) P is = (a, refl, is)

node_there : (x : ℕ) (o : Option Node) (k : ℕ × Node) → option_map (λ (n : Node). (x, n)) o ≡ Some k → (x ≡ k.0) × (o ≡ Some k.1)
node_there x None k is = absurd (let bad : None ≡ Some k = is in cc)
node_there x (Some n) k is = let same : (x, n) ≡ k = cc in (ap (λ (j : ℕ × Node). j.0) same, ap (λ (j : ℕ × Node). Some j.1) same)

there_by : (m : Nodes) (o : Option ℕ) (k : ℕ × Node) → option_and_then (λ x. option_map (λ (n : Node). (x, n)) (get m x)) o ≡ Some k → get m k.0 ≡ Some k.1
there_by m None k is = absurd (let bad : None ≡ Some k = is in cc)
there_by m (Some x) k is = let at = node_there x (get m x) k is in subst (λ y. get m y ≡ Some k.1) at.0 at.1

-- somebody stands there who is so
pub known_there : (l : LocalState) (key : ℕ) (P : ℕ → Node → Type 0) → IsKnown l key P → (x : ℕ) × (n : Node) × (get l.tree x ≡ Some n) × P x n
known_there l key P is =
    let at = some_and (known_of l key) (λ k. P k.0 k.1) is in
    (at.0.0, at.0.1, there_by l.tree _ at.0 at.1, at.2)

-- IT MAY TAKE PLACE
absent_at : (o : Option Node) → ((n : Node) → o ≡ Some n → ⊥) → o ≡ None
absent_at None off = refl
absent_at (Some n) off = absurd (off n refl)

next_absent : (m : Nodes) (next : ℕ) → IsBelow m next → get m next ≡ None
next_absent m next below = absent_at (get m next) (λ n at. absurd (let less = below next n at in omega (arith, less)))

in_place : (m : Nodes) (x : ℕ) (n : Node) (ver : Ver) (bit : Bool) → WellFormed m → get m x ≡ Some n → LegalPut m x (record n { ver = ver; bit = bit })
in_place m x n ver bit form at = record {
  kind = λ k e. ap (λ (r : Node). r.kind) (one_node m x k n e at);
  parent = form.parents x n at;
  free = λ y k e near. form.places y x k n e at near;
  no_cycle = no_loop m x n form at;
}

new_fits : (content : Option ContentData) (next : ℕ) (bit : Bool) → 0 < next → Fits (kind_of content) (made_version content next) (bit_of content bit)
new_fits None next bit some = (refl, refl)
new_fits (Some content) next bit some = some

file_fits : (kind : Kind) (ver : ℕ) (bit : Bool) → kind ≡ File → 0 < ver → Fits kind ver bit
file_fits kind ver bit is some = subst (λ k. Fits k ver bit) (sym is) some

-- the parent is known, and who has the key may stand there
abbrev pub MovedTo : LocalState → ℕ → KeyPlace → Watched → ℕ → Type 0
MovedTo l key place d parent = IsKnown l key (λ x n. LegalPut l.tree x (moved_node parent place.name n) × (d ≡ moved parent place.name x n))

module _ (r : Nodes) (l : LocalState) (s : Nodes) (edits : List Edit) (ids : Counters) (fit : FitBelow r l.tree s ids.next_id)
    (some : 0 < ids.next_id) (next : 0 < ids.next_ver) where
  abbrev form : WellFormed l.tree
  form = fit.fit.local

  remote_has : (x : ℕ) (n : Node) → get l.tree x ≡ Some n → n.kind ≡ File → (o : Option Node) → get r x ≡ o → HasVersion o
  remote_has x n there is None at = tt
  remote_has x n there is (Some h) at = file_has h (fit.fit.remote.fits x h at) (fit.fit.remote_local x h n at there ∙ is)

  written_above : (content : ContentData) (x : ℕ) (n : Node) → get l.tree x ≡ Some n → n.kind ≡ File → 0 < unwrap_or (own_version edits r s content x n) ids.next_ver
  written_above content x n there is =
      drawn_above ids.next_ver _
      (λ v kept. kept_above (has_hash edits content.hash) (Some n) (get s x) (get r x) v (file_has n (form.fits x n there) is) (remote_has x n there is (get r x) refl) kept) next

  pub can_turn : (change : Noticed) (d : Watched) → LeadsTo r l s edits ids change d → CanTurn l d.id.0 d.turn
  can_turn (noticed.Made item) d is =
      let inside = some_and (parent_of l item.parent.0) (MadeIn l ids item d) is.inside in
      subst (λ (e : Watched). CanTurn l e.id.0 e.turn) (sym inside.2.is) (record {
        some = some;
        absent = next_absent l.tree ids.next_id fit.local;
        fits = new_fits item.content ids.next_ver item.bit next;
        legal = inside.2.legal;
        keyed = is.may.own;
        free = is.may.new;
      })
  can_turn (noticed.Written key content) d is =
      let (x, n, there, so) = known_there l key.0 (λ x n. (n.kind ≡ File) × (d ≡ written (own_version edits r s content x n) ids.next_ver content x n)) is.known in
      let file = so.0 in
      let same = so.1 in
      subst (λ (e : Watched). CanTurn l e.id.0 e.turn) (sym same) (record {
        there = (n, there);
        fits = file_fits n.kind _ n.bit file (written_above content x n there file);
        legal = in_place l.tree x n _ n.bit form there;
      })
  can_turn (noticed.Moved key place) d is =
      let inside = some_and (parent_of l place.parent.0) (MovedTo l key.0 place d) is in
      let (x, n, there, so) = known_there l key.0 (λ x n. LegalPut l.tree x (moved_node inside.0 place.name n) × (d ≡ moved inside.0 place.name x n)) inside.2 in
      let legal = so.0 in
      let same = so.1 in
      subst (λ (e : Watched). CanTurn l e.id.0 e.turn) (sym same) (record { there = (n, there); fits = form.fits x n there; legal = legal })
  can_turn (noticed.Removed key) d is =
      let (x, n, there, so) = known_there l key.0 (λ x n. NoChild l.tree x × (d ≡ removed ids.next_ver x n)) is in
      let empty = so.0 in
      let same = so.1 in
      subst (λ (e : Watched). CanTurn l e.id.0 e.turn) (sym same) (record { there = (n, there); empty = empty })
  can_turn (noticed.Bit key bit) d is =
      let (x, n, there, so) = known_there l key.0 (λ x n. (n.kind ≡ File) × (d ≡ with_bit bit x n)) is in
      let file = so.0 in
      let same = so.1 in
      subst (λ (e : Watched). CanTurn l e.id.0 e.turn) (sym same) (record {
        there = (n, there);
        fits = file_fits n.kind n.ver.0 bit file (file_has n (form.fits x n there) file);
        legal = in_place l.tree x n n.ver bit form there;
      })

-- ITS EDIT has the next version
made_next : (content : Option ContentData) (ver x : ℕ) (base : Ver) → IfSome (option_map (edit_of ver x base) content) (λ e. e.ver.0 ≡ ver)
made_next None ver x base = tt
made_next (Some content) ver x base = refl

written_next : (own : Option ℕ) (next x : ℕ) (base : Ver) (content : ContentData) → IfSome (written_edit own next x base content) (λ e. e.ver.0 ≡ next)
written_next None next x base content = refl
written_next (Some own) next x base content = tt

removed_next : (kind : Kind) (ver x : ℕ) (base : Ver) → IfSome (deletion_of kind ver x base) (λ e. e.ver.0 ≡ ver)
removed_next Folder ver x base = tt
removed_next File ver x base = refl

pub edit_next : (r : Nodes) (l : LocalState) (s : Nodes) (edits : List Edit) (ids : Counters) (change : Noticed) (d : Watched) → LeadsTo r l s edits ids change d
    → IfSome d.edit (λ e. e.ver.0 ≡ ids.next_ver)
edit_next r l s edits ids (noticed.Made item) d is =
    let inside = some_and (parent_of l item.parent.0) (MadeIn l ids item d) is.inside in
    subst (λ (w : Watched). IfSome w.edit (λ e. e.ver.0 ≡ ids.next_ver)) (sym inside.2.is) (made_next item.content ids.next_ver ids.next_id _)
edit_next r l s edits ids (noticed.Written key content) d is =
    let (x, n, there, so) = known_there l key.0 (λ x n. (n.kind ≡ File) × (d ≡ written (own_version edits r s content x n) ids.next_ver content x n)) is.known in
    let file = so.0 in
    let same = so.1 in
    subst (λ (w : Watched). IfSome w.edit (λ e. e.ver.0 ≡ ids.next_ver)) (sym same) (written_next (own_version edits r s content x n) ids.next_ver x n.ver content)
edit_next r l s edits ids (noticed.Moved key place) d is =
    let inside = some_and (parent_of l place.parent.0) (MovedTo l key.0 place d) is in
    let (x, n, there, so) = known_there l key.0 (λ x n. LegalPut l.tree x (moved_node inside.0 place.name n) × (d ≡ moved inside.0 place.name x n)) inside.2 in
    let legal = so.0 in
    let same = so.1 in
    subst (λ (w : Watched). IfSome w.edit (λ e. e.ver.0 ≡ ids.next_ver)) (sym same) tt
edit_next r l s edits ids (noticed.Removed key) d is =
    let (x, n, there, so) = known_there l key.0 (λ x n. NoChild l.tree x × (d ≡ removed ids.next_ver x n)) is in
    let empty = so.0 in
    let same = so.1 in
    subst (λ (w : Watched). IfSome w.edit (λ e. e.ver.0 ≡ ids.next_ver)) (sym same) (removed_next n.kind ids.next_ver x n.ver)
edit_next r l s edits ids (noticed.Bit key bit) d is =
    let (x, n, there, so) = known_there l key.0 (λ x n. (n.kind ≡ File) × (d ≡ with_bit bit x n)) is in
    let file = so.0 in
    let same = so.1 in
    subst (λ (w : Watched). IfSome w.edit (λ e. e.ver.0 ≡ ids.next_ver)) (sym same) tt

-- OF A CLIENT
pub matched : {A : Type 0} (o : Option A) (N : Type 0) (P : A → Type 0) (a : A) → o ≡ Some a → MatchOption o N P → P a
matched o N P a is m = subst (λ p. MatchOption p N P) is m

pub watched_may : (r s : Nodes) (l : LocalState) (c : ClientState) (e : Recorded) (ids : Counters) (change : Noticed) (d : Watched)
    → r ≡ c.remote.tree → l ≡ c.local → s ≡ c.synced → CanWatch c e ids → LeadsTo r l s e.edits ids change d
    → CanTurn c.local d.id.0 d.turn × IfSome d.edit (λ edit. edit.ver.0 ≡ ids.next_ver)
watched_may r s l c e ids change d remote local synced can leads =
    let here : LeadsTo c.remote.tree c.local c.synced e.edits ids change d =
    subst (λ m. LeadsTo m c.local c.synced e.edits ids change d) remote
    (subst (λ m. LeadsTo r c.local m e.edits ids change d) synced (subst (λ m. LeadsTo r m s e.edits ids change d) local leads)) in
    (can_turn c.remote.tree c.local c.synced e.edits ids can.fit can.some can.next.some change d here, edit_next c.remote.tree c.local c.synced e.edits ids change d here)

-- who comes has the next identity
abbrev pub AddsNext : Turn → ℕ → ℕ → Type 0
AddsNext (turn.Add key node) x next = x ≡ next
AddsNext (turn.Put node) x next = Unit {0}
AddsNext turn.Cut x next = Unit {0}

pub adds_next : (r : Nodes) (l : LocalState) (s : Nodes) (edits : List Edit) (ids : Counters) (change : Noticed) (d : Watched) → LeadsTo r l s edits ids change d
    → AddsNext d.turn d.id.0 ids.next_id
adds_next r l s edits ids (noticed.Made item) d is =
    let inside = some_and (parent_of l item.parent.0) (MadeIn l ids item d) is.inside in
    subst (λ (w : Watched). AddsNext w.turn w.id.0 ids.next_id) (sym inside.2.is) refl
adds_next r l s edits ids (noticed.Written key content) d is =
    let (x, n, there, so) = known_there l key.0 (λ x n. (n.kind ≡ File) × (d ≡ written (own_version edits r s content x n) ids.next_ver content x n)) is.known in
    subst (λ (w : Watched). AddsNext w.turn w.id.0 ids.next_id) (sym so.1) tt
adds_next r l s edits ids (noticed.Moved key place) d is =
    let inside = some_and (parent_of l place.parent.0) (MovedTo l key.0 place d) is in
    let (x, n, there, so) = known_there l key.0 (λ x n. LegalPut l.tree x (moved_node inside.0 place.name n) × (d ≡ moved inside.0 place.name x n)) inside.2 in
    subst (λ (w : Watched). AddsNext w.turn w.id.0 ids.next_id) (sym so.1) tt
adds_next r l s edits ids (noticed.Removed key) d is =
    let (x, n, there, so) = known_there l key.0 (λ x n. NoChild l.tree x × (d ≡ removed ids.next_ver x n)) is in
    subst (λ (w : Watched). AddsNext w.turn w.id.0 ids.next_id) (sym so.1) tt
adds_next r l s edits ids (noticed.Bit key bit) d is =
    let (x, n, there, so) = known_there l key.0 (λ x n. (n.kind ≡ File) × (d ≡ with_bit bit x n)) is in
    subst (λ (w : Watched). AddsNext w.turn w.id.0 ids.next_id) (sym so.1) tt
