use Rattle.std.proofs.Common.{◌≡◌, ℕ, ◌+◌, ◌<◌, ◌≤◌, ◌||◌, cond, nat_eq, List, [], ◌∷◌, ◌++◌, length, take, suc, zero, Option, None, Some, refl, sym, ap, subst, ◌∙◌, arith}
use Rattle.std.proofs.Math.Bool.{or-false}
use Rattle.std.proofs.lemmas.List.{length-append, length-take-le, map-append, take-append-le, take-map, take_all}
use Rattle.std.proofs.lemmas.List.Elements.{All-take, All-append, All-cons}
use Rattle.std.proofs.lemmas.List.Folds.{list_any-append}
use Rattle.std.specs.Map.{values_of, lookup}
use Rattle.std.specs.Option.{option_and_then}
use Rattle.nuc_edits.proofs.Contents.{next_has_none}
use Rattle.nuc_edits.specs.Edits.{IsNext, edit_of, content_at, content_put, is_base}
use Rattle.nuc_edits.specs.Marks.{MarksState, is_marked}
use Rattle.nuc_edits.specs.Tied.{AreKeyed, AreTied, MarksBases, MarksAdopted}
use Rattle.nuc_edits.specs.declared.edit.Adoption.{Adoption}
use Rattle.nuc_edits.specs.declared.edit.Edit.{Edit}

-- LOOKING UP a version finds its edit
lookup_is : (v : ℕ) (es : List (ℕ × Edit)) → AreKeyed es → lookup (nat_eq v) es ≡ edit_of (values_of es) v
lookup_is v [] keyed = refl
lookup_is v (e ∷ es) keyed = λ i. cond (nat_eq v (keyed.0 i)) (Some e.1) (lookup_is v es keyed.1 i)

pub content_is : (v : ℕ) (es : List (ℕ × Edit)) (edits : List Edit) → AreKeyed es → values_of es ≡ edits → (found : Option Edit) → found ≡ lookup (nat_eq v) es
    → option_and_then (λ edit. content_put edit.what) found ≡ content_at edits v
content_is v es edits keyed view found is =
    ap (option_and_then (λ (edit : Edit). content_put edit.what)) (is ∙ lookup_is v es keyed ∙ ap (λ edits. edit_of edits v) view)

-- THE NEXT VERSION has no edit yet
pub next_absent : (next : ℕ) (es : List (ℕ × Edit)) (edits : List Edit) → AreKeyed es → values_of es ≡ edits → IsNext next edits → lookup (nat_eq next) es ≡ None
next_absent next es edits keyed view is_next = lookup_is next es keyed ∙ ap (λ edits. edit_of edits next) view ∙ next_has_none next edits is_next

-- A FRONT of the entries
keyed_take : (n : ℕ) (es : List (ℕ × Edit)) → AreKeyed es → AreKeyed (take n es)
keyed_take zero es keyed = tt
keyed_take (suc n) [] keyed = tt
keyed_take (suc n) (e ∷ es) keyed = (keyed.0, keyed_take n es keyed.1)

pub values_take : (n : ℕ) (es : List (ℕ × Edit)) → values_of (take n es) ≡ take n (values_of es)
values_take n es = sym (take-map (λ (e : ℕ × Edit). e.1) n es)

pub take_twice : {A : Type 0} (n : ℕ) (xs : List A) → n ≤ length xs → take n (take n xs) ≡ take n xs
take_twice n xs within = let long = length-take-le n xs within in take_all n (take n xs) (omega (arith, long))

pub front_next : (next n : ℕ) (edits : List Edit) → IsNext next edits → IsNext next (take n edits)
front_next next n edits is_next = record {
  some = is_next.some;
  above = All-take (λ (edit : Edit). edit.ver.0 < next) n edits is_next.above;
}

-- ONE MORE
keyed_more : (es : List (ℕ × Edit)) (k : ℕ) (edit : Edit) → k ≡ edit.ver.0 → AreKeyed es → AreKeyed (es ++ (k, edit) ∷ [])
keyed_more [] k edit is keyed = (is, tt)
keyed_more (e ∷ es) k edit is keyed = (keyed.0, keyed_more es k edit is keyed.1)

pub next_more : (next : ℕ) (edits : List Edit) (edit : Edit) → edit.ver.0 ≡ next → IsNext next edits → IsNext (next + 1) (edits ++ edit ∷ [])
next_more next edits edit is is_next = record {
  some = omega arith;
  above = All-append (λ (e : Edit). e.ver.0 < next + 1) edits (edit ∷ [])
      (λ k d below. let low = is_next.above k d below in omega (arith, low))
      (All-cons (λ (e : Edit). e.ver.0 < next + 1) edit [] (omega (arith, is)) (λ k d below. absurd (omega (arith, below))));
}

bases_more : (marked marked' : List ℕ) (edits : List Edit) (edit : Edit) → MarksBases marked edits
    → ((v : ℕ) → is_marked marked' v ≡ (is_marked marked v || nat_eq v edit.base.0)) → MarksBases marked' (edits ++ edit ∷ [])
bases_more marked marked' edits edit before more v =
    more v ∙ ap (λ b. b || nat_eq v edit.base.0) (before v)
    ∙ ap (λ b. is_base edits v || b) (sym (or-false (nat_eq v edit.base.0)))
    ∙ sym (list_any-append (λ (e : Edit). nat_eq v e.base.0) edits (edit ∷ []))

module _ (es : List (ℕ × Edit)) (adoptions : List Adoption) (bases adopted : MarksState) (n m : ℕ) (tied : AreTied es adoptions bases adopted n m) where
  -- after one more edit, whose base was marked
  pub tied_edit : (edit : Edit) (bases' : MarksState)
      → ((v : ℕ) → is_marked bases'.now v ≡ (is_marked bases.now v || nat_eq v edit.base.0)) → bases'.settled ≡ bases.settled
      → (es' : List (ℕ × Edit)) → es' ≡ es ++ (edit.ver.0, edit) ∷ [] → AreTied es' adoptions bases' adopted n m
  tied_edit edit bases' more stays es' grown = subst (λ es'. AreTied es' adoptions bases' adopted n m) (sym grown) (record {
    keyed = keyed_more es edit.ver.0 edit refl tied.keyed;
    edits_within = let long = length-append es ((edit.ver.0, edit) ∷ []) in omega (arith, long, tied.edits_within);
    adoptions_within = tied.adoptions_within;
    bases_now = subst (MarksBases bases'.now) (sym values_more) (bases_more bases.now bases'.now (values_of es) edit tied.bases_now more);
    bases_settled = subst (MarksBases bases'.settled) (sym (front_stays)) (subst (λ marked. MarksBases marked (take n (values_of es))) (sym stays) tied.bases_settled);
    adopted_now = tied.adopted_now;
    adopted_settled = tied.adopted_settled;
  })
    where
      values_more : values_of (es ++ (edit.ver.0, edit) ∷ []) ≡ values_of es ++ edit ∷ []
      values_more = map-append (λ (e : ℕ × Edit). e.1) es ((edit.ver.0, edit) ∷ [])

      front_stays : take n (values_of (es ++ (edit.ver.0, edit) ∷ [])) ≡ take n (values_of es)
      front_stays = sym (values_take n (es ++ (edit.ver.0, edit) ∷ [])) ∙ ap values_of (take-append-le n es ((edit.ver.0, edit) ∷ []) tied.edits_within) ∙ values_take n es

  -- after all that was not settled is taken back
  pub tied_front : (bases' adopted' : MarksState) → bases'.now ≡ bases.settled → bases'.settled ≡ bases.settled
      → adopted'.now ≡ adopted.settled → adopted'.settled ≡ adopted.settled
      → (es' : List (ℕ × Edit)) (adoptions' : List Adoption) → es' ≡ take n es → adoptions' ≡ take m adoptions → AreTied es' adoptions' bases' adopted' n m
  tied_front bases' adopted' bases_back bases_stay adopted_back adopted_stay es' adoptions' shorter fewer =
      subst (λ es'. AreTied es' adoptions' bases' adopted' n m) (sym shorter)
      (subst (λ adoptions'. AreTied (take n es) adoptions' bases' adopted' n m) (sym fewer) (record {
        keyed = keyed_take n es tied.keyed;
        edits_within = let long = length-take-le n es tied.edits_within in omega (arith, long);
        adoptions_within = let long = length-take-le m adoptions tied.adoptions_within in omega (arith, long);
        bases_now = subst (MarksBases bases'.now) (sym (values_take n es)) (subst (λ marked. MarksBases marked (take n (values_of es))) (sym bases_back) tied.bases_settled);
        bases_settled = subst (MarksBases bases'.settled) (sym front_twice) (subst (λ marked. MarksBases marked (take n (values_of es))) (sym bases_stay) tied.bases_settled);
        adopted_now = subst (λ marked. MarksAdopted marked (take m adoptions)) (sym adopted_back) tied.adopted_settled;
        adopted_settled = subst (MarksAdopted adopted'.settled) (sym (take_twice m adoptions tied.adoptions_within))
            (subst (λ marked. MarksAdopted marked (take m adoptions)) (sym adopted_stay) tied.adopted_settled);
      }))
    where
      front_twice : take n (values_of (take n es)) ≡ take n (values_of es)
      front_twice = sym (values_take n (take n es)) ∙ ap values_of (take_twice n es tied.edits_within) ∙ values_take n es
