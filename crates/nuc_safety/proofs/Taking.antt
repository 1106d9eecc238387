-- What a batch takes of a list that it is offered.
use Rattle.std.proofs.Common.{◌≡◌, ◌+◌, ◌≤◌, List, [], ◌∷◌, ◌++◌, length, All, AllPairs, sym, subst, ◌∙◌, refl, inl, inr, append_assoc, length-append, arith}
use Rattle.std.proofs.lemmas.List.{append-nil}
use Rattle.std.proofs.lemmas.List.Elements.{All-head, All-push, All-tail}
use Rattle.std.proofs.lemmas.List.Quantifiers.{all_pairs_push}
use Rattle.nuc_base.specs.Trees.{Nodes}
use Rattle.nuc_class.specs.declared.op.Op.{Op}
use Rattle.nuc_safety.specs.FirstFit.{BeginsWith, EachIsSettled, FirstFit, IsPartOf, IsSettled, Joins, StaysOut, Takes, most_in_batch}
use Rattle.nuc_safety.specs.FirstFit.IsPartOf.{ended, kept, left_out}
use Rattle.nuc_safety.specs.Together.{Together}

module _ (r l s : Nodes) where
  -- no operation both joins and stays out
  joins_or_not : (taken : List Op) (op : Op) → Joins r l s taken op → ¬ (StaysOut r l s taken op)
  joins_or_not taken op joins (inl full) = omega (arith, joins.room, full)
  joins_or_not taken op joins (inr (k, other, below, at, apart)) = apart (subst (λ o. Together r l s o op) at (joins.together k other below))

  pub one_batch : (taken rest all other : List Op) → Takes r l s taken rest all → Takes r l s taken rest other → all ≡ other
  one_batch taken [] all other first second = first ∙ sym second
  one_batch taken (op ∷ rest) all other (inl (joins, first)) (inl (too, second)) = one_batch (taken ++ op ∷ []) rest all other first second
  one_batch taken (op ∷ rest) all other (inl (joins, first)) (inr (out, second)) = absurd (joins_or_not taken op joins out)
  one_batch taken (op ∷ rest) all other (inr (out, first)) (inl (joins, second)) = absurd (joins_or_not taken op joins out)
  one_batch taken (op ∷ rest) all other (inr (out, first)) (inr (too, second)) = one_batch taken rest all other first second

  -- what is taken later comes behind what was taken
  pub begins : (taken rest all : List Op) → Takes r l s taken rest all → BeginsWith taken all
  begins taken [] all end = ([], end ∙ sym (append-nil taken))
  begins taken (op ∷ rest) all (inl (joins, later)) =
      let more = begins (taken ++ op ∷ []) rest all later in
      (op ∷ more.0, more.1 ∙ append_assoc taken (op ∷ []) more.0)
  begins taken (op ∷ rest) all (inr (out, later)) = begins taken rest all later

  -- each operation joins what was taken of those before it, or stays out
  pub settles : (taken before after : List Op) (op : Op) (all : List Op) → Takes r l s taken (before ++ op ∷ after) all
      → (first : List Op) × Takes r l s taken before first × IsSettled r l s first op all
  settles taken [] after op all (inl (joins, later)) = (taken, refl, inl (joins, begins (taken ++ op ∷ []) after all later))
  settles taken [] after op all (inr (out, later)) = (taken, refl, inr (out, begins taken after all later))
  settles taken (b ∷ before) after op all (inl (joins, later)) =
      let rest = settles (taken ++ b ∷ []) before after op all later in
      (rest.0, inl (joins, rest.1), rest.2)
  settles taken (b ∷ before) after op all (inr (out, later)) =
      let rest = settles taken before after op all later in
      (rest.0, inr (out, rest.1), rest.2)

  pub settled : (due batch : List Op) → FirstFit r l s due batch → EachIsSettled r l s due batch
  settled due batch fit before after op is = settles [] before after op batch (subst (λ ops. Takes r l s [] ops batch) is fit)

  part_of : (taken rest all : List Op) → Takes r l s taken rest all → (more : List Op) × (all ≡ taken ++ more) × IsPartOf more rest
  part_of taken [] all end = ([], end ∙ sym (append-nil taken), ended)
  part_of taken (op ∷ rest) all (inl (joins, later)) =
      let more = part_of (taken ++ op ∷ []) rest all later in
      (op ∷ more.0, more.1 ∙ append_assoc taken (op ∷ []) more.0, kept op more.0 rest more.2)
  part_of taken (op ∷ rest) all (inr (out, later)) =
      let more = part_of taken rest all later in
      (more.0, more.1, left_out op more.0 rest more.2)

  pub is_part : (due batch : List Op) → FirstFit r l s due batch → IsPartOf batch due
  is_part due batch fit =
      let more = part_of [] due batch fit in
      subst (λ ops. IsPartOf ops due) (sym more.1) more.2

  few : (taken rest all : List Op) → length taken ≤ most_in_batch → Takes r l s taken rest all → length all ≤ most_in_batch
  few taken [] all enough end = subst (λ ops. length ops ≤ most_in_batch) (sym end) enough
  few taken (op ∷ rest) all enough (inl (joins, later)) =
      let long : length (taken ++ op ∷ []) ≡ length taken + 1 = length-append taken (op ∷ []) in
      few (taken ++ op ∷ []) rest all (omega (arith, joins.room, long)) later
  few taken (op ∷ rest) all enough (inr (out, later)) = few taken rest all enough later

  pub is_few : (due batch : List Op) → FirstFit r l s due batch → length batch ≤ most_in_batch
  is_few due batch fit = few [] due batch (omega arith) fit

  -- any two that are taken are together
  pub pairs : (taken rest all : List Op) → AllPairs (Together r l s) taken → Takes r l s taken rest all → AllPairs (Together r l s) all
  pairs taken [] all before end = subst (λ ops. AllPairs (Together r l s) ops) (sym end) before
  pairs taken (op ∷ rest) all before (inl (joins, later)) =
      pairs (taken ++ op ∷ []) rest all (all_pairs_push (Together r l s) taken op before joins.together) later
  pairs taken (op ∷ rest) all before (inr (out, later)) = pairs taken rest all before later

  -- what holds of each operation of the list holds of each that is taken
  pub each_taken : (P : Op → Type 0) (taken rest all : List Op) → All P taken → All P rest → Takes r l s taken rest all → All P all
  each_taken P taken [] all before offered end = subst (λ ops. All P ops) (sym end) before
  each_taken P taken (op ∷ rest) all before offered (inl (joins, later)) =
      each_taken P (taken ++ op ∷ []) rest all (All-push P taken op before (All-head P op rest offered)) (All-tail P op rest offered) later
  each_taken P taken (op ∷ rest) all before offered (inr (out, later)) = each_taken P taken rest all before (All-tail P op rest offered) later

  -- the first operation of a list is taken
  pub first_taken : (op : Op) (rest batch : List Op) → FirstFit r l s (op ∷ rest) batch → BeginsWith (op ∷ []) batch
  first_taken op rest batch (inl (joins, later)) = begins (op ∷ []) rest batch later
  first_taken op rest batch (inr (inl full, later)) = absurd (omega (arith, full))
  first_taken op rest batch (inr (inr (k, other, below, at, apart), later)) = absurd (omega (arith, below))

  pub some_taken : (due batch : List Op) → FirstFit r l s due batch → batch ≡ [] → due ≡ []
  some_taken [] batch fit none = refl
  some_taken (op ∷ rest) batch fit none =
      let begun = first_taken op rest batch fit in
      let still : op ∷ begun.0 ≡ [] = sym begun.1 ∙ none in
      absurd (cc)
