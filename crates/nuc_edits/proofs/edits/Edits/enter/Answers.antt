use Rattle.std.proofs.Common.{rules, refl, ap, subst, sym, ◌∙◌, ◌≡◌, ◌+◌, ◌||◌, ◌++◌, ◌∷◌, [], ℕ, nat_eq, OnOk, take}
use Rattle.std.proofs.lemmas.List.{map-append, take-append-le}
use Rattle.std.specs.Map.{values_of}
use Rattle.indexmap.proofs.CallerLemmas.{insert_entry-new}
use Rattle.nuc_edits.specs.Edits.{EditsState, IsNext, content_at}
use Rattle.nuc_edits.proofs.Contents.{content_entered, content_kept}
use Rattle.nuc_edits.specs.Marks.{is_marked}
use Rattle.nuc_edits.specs.declared.edit.Edit.{Edit}
use Rattle.nuc_edits.proofs.TiedLemmas.{tied_edit, next_absent, next_more, values_take}
use Rattle.nuc_edits.proofs.edits.Edits.enter.Goals as goal

abbrev entered : goal.After-ids-1 → Edit
entered c = record { ver = record { 0 = c.args.ids.now.next_ver }; id = c.args.id; base = c.args.base; what = c.args.what }

-- no edit had the version, so the new one stands last
grown : (c : goal.After-ids-1) → c.insert.new.self.entries ≡ c.self.inside.entries.entries ++ (c.args.ids.now.next_ver, entered c) ∷ []
grown c = c.in_ok-insert.ensures.entries
    ∙ insert_entry-new nat_eq c.self.inside.entries c.args.ids.now.next_ver (entered c)
    (next_absent c.args.ids.now.next_ver _ _ c.self.invariant.keyed (ap (λ s. s.now.edits) c.self.view_is) c.requires)

values_grown : (c : goal.After-ids-1) → values_of c.insert.new.self.entries ≡ c.args.self.now.now.edits ++ entered c ∷ []
values_grown c =
    ap values_of (grown c) ∙ map-append (λ (e : ℕ × Edit). e.1) c.self.inside.entries.entries ((c.args.ids.now.next_ver, entered c) ∷ [])
    ∙ ap (λ (s : EditsState). s.now.edits ++ entered c ∷ []) c.self.view_is

pub invariant_of-self-2 : goal.invariant_of-self-2
invariant_of-self-2 c = tied_edit _ _ _ _ _ _ c.self.invariant (entered c) c.mark.new.self
    (λ v. subst (λ r. OnOk r ((v : ℕ) → is_marked c.mark.new.self.now v ≡ (is_marked c.reserve.new.self.now v || nat_eq v c.args.base.0))) c.unwrap.ensures c.mark.ensures.ok v
    ∙ ap (λ marked. is_marked marked v || nat_eq v c.args.base.0) c.reserve.ensures.now)
    (c.mark.ensures.settled ∙ c.reserve.ensures.settled) _ (grown c)

pub returns-clause-edit : goal.returns-clause-edit
returns-clause-edit c = λ i. record { edits = values_grown c i; adoptions = (c.self.view_is i).now.adoptions }

pub returns-clause-next : goal.returns-clause-next
returns-clause-next c =
    let after : c.in_ok-next_ver.next_ver ≡ c.args.ids.now.next_ver + 1 = search rules in
    subst (IsNext c.in_ok-next_ver.next_ver) (sym (values_grown c))
    (subst (λ next. IsNext next (c.args.self.now.now.edits ++ entered c ∷ [])) (sym after)
    (next_more c.args.ids.now.next_ver c.args.self.now.now.edits (entered c) refl c.requires))

pub returns-clause-settled : goal.returns-clause-settled
returns-clause-settled c =
    let n = c.self.inside.settled_edits in
    let es = c.self.inside.entries.entries in
    (λ i. record {
      edits = (ap (λ es. take n (values_of es)) (grown c) ∙ sym (values_take n (es ++ (c.args.ids.now.next_ver, entered c) ∷ []))
          ∙ ap values_of (take-append-le n es ((c.args.ids.now.next_ver, entered c) ∷ []) c.self.invariant.edits_within) ∙ values_take n es) i;
      adoptions = take c.self.inside.settled_adoptions c.self.inside.adoptions.items;
    })
    ∙ ap (λ (s : EditsState). s.settled) c.self.view_is

pub returns-clause-content : goal.returns-clause-content
returns-clause-content c =
    ap (λ edits. content_at edits c.args.ids.now.next_ver) (values_grown c)
    ∙ content_entered c.args.self.now.now.edits (entered c) c.requires

pub returns-clause-kept : goal.returns-clause-kept
returns-clause-kept c v put =
    ap (λ edits. content_at edits v) (values_grown c) ∙ content_kept v c.args.self.now.now.edits (entered c ∷ []) put
