-- What is kept beside the entries, as one comes and as one goes.
use Rattle.std.proofs.Common.{◌≡◌, ◌+◌, ◌==◌, ℕ, cond, List, [], ◌∷◌, ◌++◌, length, take, slice_get, Option, Some, None, IsSome, MatchOption, refl, sym, ◌∙◌, ap, subst, inl, inr, arith}
use Rattle.std.proofs.lemmas.Bool.Decides.{eqb_tells}
use Rattle.std.proofs.lemmas.List.{take-append-le, length-append}
use Rattle.std.proofs.Math.Seq.{take-append_seam}
use Rattle.nuc_base.specs.declared.node.Kind.{Kind}
use Rattle.nuc_base.specs.declared.node.Node.{Node}
use Rattle.nuc_journal.specs.Entries.{kind_with, kind_of}
use Rattle.nuc_journal.specs.Tracks.{Tells, IsTrack, AreTracks, AreBefore, IsKept}
use Rattle.nuc_journal.specs.Journal.{IsNextEntry}
use Rattle.nuc_journal.specs.declared.entry.Entry.{Entry}
use Rattle.nuc_journal.specs.declared.track.Track.{Track}
use Rattle.nuc_journal.proofs.Ends.{kind_push-same, track_push-other, track_before-other}
use Rattle.nuc_journal.proofs.Journals.{journal_push}
use Rattle.nuc_journal.proofs.Lists.{push_cases, push_before, push_at, within}

-- a track that tells no kind is none
no_track : (t : Option Track) (rev : ℕ) → Tells t rev None → t ≡ None
no_track None rev h = refl
no_track (Some t) rev h = cc

kind_none : (v : Option Node) (before : Option Kind) → kind_with v before ≡ None → before ≡ None
kind_none None before h = h
kind_none (Some n) before h = cc

module _ (es : List Entry) (e : Entry) (told : ℕ → Option Track) where
  -- an index with the entry's own track in it
  tracks_with : (told' : ℕ → Option Track) (t : Option Track) → IsTrack t (es ++ e ∷ []) e.id.0
      → ((x : ℕ) → told' x ≡ cond (e.id.0 == x) t (told x)) → AreTracks told es → AreTracks told' (es ++ e ∷ [])
  tracks_with told' t own set tracks x = elim (eqb_tells e.id.0 x) [
    | inl (b, s) ↦ subst (λ u. IsTrack u (es ++ e ∷ []) x) (sym (set x ∙ ap (λ c. cond c t (told x)) b)) (subst (IsTrack t (es ++ e ∷ [])) s own)
    | inr (b, apart) ↦ subst (λ u. IsTrack u (es ++ e ∷ []) x) (sym (set x ∙ ap (λ c. cond c t (told x)) b)) (track_push-other es e x apart (told x) (tracks x))
  ]

  -- where the entry's identity comes to nothing, it was nothing before
  nothing_before : IsTrack None (es ++ e ∷ []) e.id.0 → AreTracks told es → told e.id.0 ≡ None
  nothing_before own tracks =
      let none : kind_of es e.id.0 ≡ None = kind_none e.value (kind_of es e.id.0) (sym (kind_push-same es e) ∙ own.1) in
      no_track (told e.id.0) _ (subst (Tells (told e.id.0) _) none (tracks e.id.0))

  unchanged_with : (told' : ℕ → Option Track) → told e.id.0 ≡ None → ((x : ℕ) → told' x ≡ told x) → (x : ℕ) → told' x ≡ cond (e.id.0 == x) None (told x)
  unchanged_with told' none same x = elim (eqb_tells e.id.0 x) [
    | inl (b, s) ↦ same x ∙ subst (λ y. told y ≡ None) s none ∙ sym (ap (λ c. cond c None (told x)) b)
    | inr (b, apart) ↦ same x ∙ sym (ap (λ c. cond c None (told x)) b)
  ]

  pub more_tracks : (told' : ℕ → Option Track) (t : Option Track) → IsTrack t (es ++ e ∷ []) e.id.0
      → MatchOption t ((x : ℕ) → told' x ≡ told x) (λ u. (x : ℕ) → told' x ≡ cond (e.id.0 == x) (Some u) (told x))
      → AreTracks told es → AreTracks told' (es ++ e ∷ [])
  more_tracks told' None own set tracks = tracks_with told' None own (unchanged_with told' (nothing_before own tracks) set) tracks
  more_tracks told' (Some u) own set tracks = tracks_with told' (Some u) own set tracks

  -- the index before the entry, once its identity has its old track again
  pub fewer_tracks : (told' : ℕ → Option Track) (t : Option Track) → IsTrack t es e.id.0
      → ((x : ℕ) → told' x ≡ cond (e.id.0 == x) t (told x)) → AreTracks told (es ++ e ∷ []) → AreTracks told' es
  fewer_tracks told' t own set tracks x = elim (eqb_tells e.id.0 x) [
    | inl (b, s) ↦ subst (λ u. IsTrack u es x) (sym (set x ∙ ap (λ c. cond c t (told x)) b)) (subst (IsTrack t es) s own)
    | inr (b, apart) ↦ subst (λ u. IsTrack u es x) (sym (set x ∙ ap (λ c. cond c t (told x)) b)) (track_before-other es e x apart (told x) (tracks x))
  ]

  -- an identity that came to something before still does
  pub still_told : (t : Option Track) → IsTrack t es e.id.0 → AreTracks told (es ++ e ∷ []) → IsSome t → IsSome (told e.id.0)
  still_told None own tracks had = cc
  still_told (Some u) own tracks had = elim (told e.id.0) as (λ o. told e.id.0 ≡ o → IsSome o) [
    | Some w ↦ λ is. refl
    | None ↦ λ is.
        let now = subst (λ o. IsTrack o (es ++ e ∷ []) e.id.0) is (tracks e.id.0) in
        let none : kind_of es e.id.0 ≡ None = kind_none e.value (kind_of es e.id.0) (sym (kind_push-same es e) ∙ now.1) in
        absurd (let both = own.1 in cc)
  ] refl

pub before_ends : (es fs : List Entry) (olds us : List (Option Track)) → es ≡ fs → olds ≡ us → AreBefore olds es → AreBefore us fs
before_ends es fs olds us a b before = subst (λ vs. AreBefore vs fs) b (subst (AreBefore olds) a before)

module _ (es : List Entry) (e : Entry) (olds : List (Option Track)) (t : Option Track) where
  pub more_before : AreBefore olds es → IsTrack t es e.id.0 → AreBefore (olds ++ t ∷ []) (es ++ e ∷ [])
  more_before before own = record {
    many = length-append olds (t ∷ []) ∙ ap (λ n. n + 1) before.many ∙ sym (length-append es (e ∷ []));
    each = λ k f u at told. elim (push_cases es e k f at) [
      | inl (lt, old) ↦ elim (push_cases olds t k u told) [
        | inl (_, mine) ↦ subst (λ fs. IsTrack u fs f.id.0) (sym (take-append-le k es (e ∷ []) (omega arith))) (before.each k f u old mine)
        | inr (end, _) ↦ absurd (omega (arith, before.many, lt, end))
      ]
      | inr (end, same) ↦ elim (push_cases olds t k u told) [
        | inl (lt, _) ↦ absurd (omega (arith, before.many, lt, end))
        | inr (_, mine) ↦
            let front : take k (es ++ e ∷ []) ≡ es = ap (λ n. take n (es ++ e ∷ [])) end ∙ take-append_seam es (e ∷ []) in
            subst (λ fs. IsTrack u fs f.id.0) (sym front) (subst (λ (g : Entry). IsTrack u es g.id.0) same (subst (λ w. IsTrack w es e.id.0) mine own))
      ]
    ];
  }

  module _ (before : AreBefore (olds ++ t ∷ []) (es ++ e ∷ [])) where
    fewer : length olds ≡ length es
    fewer =
        let all : length olds + 1 ≡ length es + 1 = sym (length-append olds (t ∷ [])) ∙ before.many ∙ length-append es (e ∷ []) in
        omega (arith, all)

    pub last_before : IsTrack t es e.id.0
    last_before = subst (λ fs. IsTrack t fs e.id.0) (take-append_seam es (e ∷ []))
        (before.each (length es) e t (push_at es e) (ap (slice_get (olds ++ t ∷ [])) (sym fewer) ∙ push_at olds t))

    pub fewer_before : AreBefore olds es
    fewer_before = record {
      many = fewer;
      each = λ k f u at told.
          let lt = within es k f at in
          subst (λ fs. IsTrack u fs f.id.0) (take-append-le k es (e ∷ []) (omega arith)) (before.each k f u (push_before es e k f at) (push_before olds t k u told));
    }

-- a journal with one more entry, its index and its list
pub kept_push : (es : List Entry) (n : ℕ) (told : ℕ → Option Track) (olds : List (Option Track)) (e : Entry)
    (prior next : Option Track) (mid told' : ℕ → Option Track)
    → IsKept es n told olds → IsNextEntry es e → prior ≡ told e.id.0 → ((x : ℕ) → mid x ≡ told x)
    → ((fs : List Entry) → IsTrack prior fs e.id.0 → IsTrack next (fs ++ e ∷ []) e.id.0)
    → MatchOption next ((x : ℕ) → told' x ≡ mid x) (λ u. (x : ℕ) → told' x ≡ cond (e.id.0 == x) (Some u) (mid x))
    → IsKept (es ++ e ∷ []) n told' (olds ++ prior ∷ [])
kept_push es n told olds e prior next mid told' kept legal is same step set =
    let own : IsTrack prior es e.id.0 = subst (λ u. IsTrack u es e.id.0) (sym is) (kept.tracks e.id.0) in
    let longer : length (es ++ e ∷ []) ≡ length es + 1 = length-append es (e ∷ []) in
    record {
      journal = journal_push es e kept.journal legal;
      settled = omega (arith, longer, kept.settled);
      tracks = more_tracks es e mid told' next (step es own) set (λ x. subst (λ u. IsTrack u es x) (sym (same x)) (kept.tracks x));
      before = more_before es e olds prior kept.before own;
    }
