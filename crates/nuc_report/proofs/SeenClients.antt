use Rattle.std.proofs.Common.{◌≡◌, ◌<◌, refl, sym, ap, subst, ◌∙◌, ℕ, zero, suc, ◌+◌, List, [], ◌∷◌, ◌++◌, length, map, take, slice_index_or, arith, add-one}
use Rattle.std.proofs.Math.Seq.{take-length}
use Rattle.std.proofs.lemmas.List.{flat_map_more}
use Rattle.std.specs.List.{flat_map}
use Rattle.nuc_log.specs.declared.view.Member.{Member}
use Rattle.nuc_report.specs.Report.{ClientSeen, client_text}
use Rattle.nuc_report.specs.Seen.{AreSeen, IsClientSeen, shown_of}

-- one client more is seen, under the number behind the others
seen_more : {T : Type 0} (all : List (Member T)) (i first number : ℕ) (member : Member T) (seen : List ClientSeen) (more : ClientSeen)
    → i < length all → member ≡ slice_index_or all i member → number ≡ first + i
    → AreSeen first (map shown_of (take i all)) seen → IsClientSeen number (shown_of member) more
    → AreSeen first (map shown_of (take (suc i) all)) (seen ++ more ∷ [])
seen_more [] i first number member seen more within there at are is = absurd (omega (arith, within))
seen_more (m ∷ ms) zero first number member [] more within there at are is =
    let same : number ≡ first = omega (arith, at) in
    (subst (λ x. IsClientSeen first (shown_of x) more) there (subst (λ x. IsClientSeen x (shown_of member) more) same is), tt)
seen_more (m ∷ ms) zero first number member (s ∷ ss) more within there at are is = absurd are
seen_more (m ∷ ms) (suc i) first number member [] more within there at are is = absurd are
seen_more (m ∷ ms) (suc i) first number member (s ∷ ss) more within there at are is =
    (are.0, seen_more ms i (suc first) number member ss more (omega (arith, within)) there (omega (arith, at)) are.1 is)

-- the clients so far are seen, and their text stands behind what was there
abbrev pub Walked : {T : Type 0} → List (Member T) → ℕ → List ℕ → List ℕ → Type 0
Walked all i start now = (seen : List ClientSeen) × AreSeen 1 (map shown_of (take i all)) seen × (now ≡ start ++ flat_map client_text seen)

pub walked_on : {T : Type 0} (all : List (Member T)) (i number : ℕ) (member : Member T) (start before after : List ℕ)
    → i < length all → member ≡ slice_index_or all i member → number ≡ i + 1 → Walked all i start before
    → (more : ClientSeen) × IsClientSeen number (shown_of member) more × (after ≡ before ++ client_text more)
    → Walked all (i + 1) start after
walked_on all i number member start before after within there at (seen, are, text) (more, is, one) = (
  seen ++ more ∷ [],
  subst (λ k. AreSeen 1 (map shown_of (take k all)) (seen ++ more ∷ [])) (sym (add-one i)) (seen_more all i 1 number member seen more within there (omega (arith, at)) are is),
  one ∙ ap (λ t. t ++ client_text more) text ∙ flat_map_more client_text start seen more,
)

pub all_walked : {T : Type 0} (all : List (Member T)) (i : ℕ) (start now : List ℕ) → i ≡ length all → Walked all i start now
    → (seen : List ClientSeen) × AreSeen 1 (map shown_of all) seen × (now ≡ start ++ flat_map client_text seen)
all_walked all i start now end (seen, are, text) =
    let whole : take i all ≡ all = rw end (take-length all) in
    (seen, subst (λ ms. AreSeen 1 (map shown_of ms) seen) whole are, text)
