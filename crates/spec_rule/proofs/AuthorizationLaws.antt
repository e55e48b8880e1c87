-- What each answer about one requested name means: unrestricted, forbidden by a record, or granted by the governing records.
use Rattle.std.proofs.lemmas.Option.{none-some, same_Some}
use Rattle.std.specs.Prelude.{Option, None, Some}
use Prim.Native.Nat.{ℕ}
use mathlib.Core.Path.{◌≡◌, refl, sym, ap, ◌∙◌}
use mathlib.Core.Logic.{◌↔◌, inl, inr, ⊎_elim}
use mathlib.Core.Bool.{Bool, true, false, false≢true, and-eq-true_iff}
use mathlib.Core.List.Memᴰ
use mathlib.Core.List.{List, [], ◌∷◌, cons≢nil, Memᴰ}
use Rattle.spec_octets.specs.Lists.{any, select, All, all_nil, all_cons, Any, any_here, any_there, Selects}
use Rattle.spec_octets.specs.Octets.{same, lowered}
use Rattle.spec_octets.proofs.ListLaws.{All-imp, any_true}
use Rattle.spec_octets.proofs.ListLaws
use Rattle.spec_octets.proofs.SelectLaws.{selected, selects_none, selects_first, first_selects, selects_unique, selects_alike, any_kept, any_of_kept}
use Rattle.spec_octets.proofs.Texts.{same_equal}
use Rattle.spec_name.specs.Names.{Name}
use Rattle.spec_request.specs.Request.{is_wildcard, base}
use Rattle.spec_issuer.specs.Issuer.{is_issuer}
use Rattle.spec_issuer.proofs.Dotted.{issuer_is_its_labels}
use Rattle.spec_record.specs.declared.PropertyTag.{PropertyTag}
use Rattle.spec_record.specs.declared.PropertyTag.TheVariants.{Issue, IssueWild, Iodef, Unknown}
use Rattle.spec_record.specs.Property.{is_critical}
use Rattle.spec_value.specs.IssueValues.{IssueValue, malformed, nameless, named, issue_value}
use Rattle.spec_value.specs.Parameters.{Parameter, parameters_in}
use Rattle.spec_value.specs.Productions.{value_of}
use Rattle.spec_value.proofs.NamedParameters.{parameters_by_the_grammar}
use Rattle.spec_applicant.specs.Applicant.{Applicant}
use Rattle.spec_applicant.specs.Admission.{admits}
use Rattle.spec_applicant.proofs.Admissions.{admits_exactly}
use Rattle.spec_rule.specs.RelevantSet.{CaaRecord, Book, Lookup, empty, found, endless, relevant_set}
use Rattle.spec_rule.specs.Authorizations.{Authorization, unrestricted, forbidden, granted, unresolved, is_issue_tag, is_issue_wild_tag, is_unknown_tag, property_tag, is_unknown_critical, is_issue, is_issue_wild, or_else, governing, grantee_of_value, grantee, cons_some, grantees, governed_by, unless_forbidden, authorization_from, authorization, permits}
use Rattle.spec_rule.specs.Meaning.{Tagged, UnknownCriticalRecord, Governs, Grants, Relevant, Unrestricted, GrantedTo, PermittedTo, ForbiddenBy, GovernedFrom, GoverningRecords, UnresolvedFrom}

-- each test of a tag passes one tag only
only :
    (t : PropertyTag) →
    (is_issue_tag t ≡ true → t ≡ Issue) × (is_issue_wild_tag t ≡ true → t ≡ IssueWild) × (is_unknown_tag t ≡ true → t ≡ Unknown)
only Issue = (λ e. refl, λ e. absurd (false≢true e), λ e. absurd (false≢true e))
only IssueWild = (λ e. absurd (false≢true e), λ e. refl, λ e. absurd (false≢true e))
only Iodef = (λ e. absurd (false≢true e), λ e. absurd (false≢true e), λ e. absurd (false≢true e))
only Unknown = (λ e. absurd (false≢true e), λ e. absurd (false≢true e), λ e. refl)

unknown_critical : (r : CaaRecord) → (is_unknown_critical r ≡ true) ↔ UnknownCriticalRecord r
unfolding is_unknown_critical
unknown_critical r = (
  λ e. let k = both.0 e in (k.0, (only (property_tag r)).2 k.1),
  λ k. both.1 (k.0, rw k.1),
)
  where
    both : (is_unknown_critical r ≡ true) ↔ ((is_critical r.property ≡ true) × (is_unknown_tag (property_tag r) ≡ true))
    both = and-eq-true_iff (is_critical r.property) (is_unknown_tag (property_tag r))

pub critical_selects : (rs : List CaaRecord) → Selects UnknownCriticalRecord rs (select is_unknown_critical rs)
critical_selects rs = selected is_unknown_critical unknown_critical rs

issue_selects : (rs : List CaaRecord) → Selects (Tagged Issue) rs (select is_issue rs)
issue_selects rs = selected is_issue (λ r. ((only (property_tag r)).0, λ e. rw e)) rs

issuewild_selects : (rs : List CaaRecord) → Selects (Tagged IssueWild) rs (select is_issue_wild rs)
issuewild_selects rs = selected is_issue_wild (λ r. ((only (property_tag r)).1, λ e. rw e)) rs

pub governing_selects : (wildcard : Bool) (rs : List CaaRecord) → Selects (Governs wildcard rs) rs (governing wildcard rs)
unfolding governing
governing_selects false rs = issue_selects rs
governing_selects true rs = go (select is_issue_wild rs) refl
  where
    every : {P : CaaRecord → Type 0} → ((r : CaaRecord) → P r) → (rs : List CaaRecord) → All P rs
    every h [] = all_nil
    every h (r ∷ rs) = all_cons (h r) (every h rs)

    go : (ws : List CaaRecord) → select is_issue_wild rs ≡ ws → Selects (Governs true rs) rs (or_else ws (select is_issue rs))
    go [] e =
        let n = (selects_none (issuewild_selects rs)).0 e in
        selects_alike (All-imp (λ r h. (λ i. inr (i, n), ⊎_elim (λ w. absurd (h w)) (λ k. k.0))) n) (issue_selects rs)
    go (w ∷ ws) e =
        selects_alike
        (every (λ r. (inl, ⊎_elim (λ w. w) (λ k. absurd (cons≢nil (sym e ∙ (selects_none (issuewild_selects rs)).1 k.1))))) rs)
        (rw e at (issuewild_selects rs))

pub any_same : (d : List ℕ) (ns : List (List ℕ)) → (any (same d) ns ≡ true) ↔ Memᴰ d ns
any_same d ns = (
  λ e. let (m, h, t) = (any_true (same d) ns).0 e in rw ((same_equal d m).0 t) h,
  λ m. (any_true (same d) ns).1 (d, m, (same_equal d d).1 refl),
)

module _ (who : Applicant) where
  pub grantee_exactly : (r : CaaRecord) (d : List ℕ) → (grantee who r ≡ Some d) ↔ Grants who d r
  unfolding grantee
  grantee_exactly r d = (
    λ h. ⊎_elim (λ t. holds t (issue_value v) refl (rw t at h)) (λ t. absurd (none-some d (rw t at h))) (ListLaws.true_or_false (admits who (parameters_in v))),
    λ (n, ps, g, w, l, a). let (name, parameters) = (grammar n ps).1 g in rw (name, parameters, (admits_exactly who ps).1 a, (issuer_is_its_labels n).1 w, l),
  )
    where
      v : List ℕ
      v = r.property.value

      grammar : (n : List ℕ) (ps : List Parameter) → ((issue_value v ≡ named n) × (parameters_in v ≡ ps)) ↔ value_of n ps v
      grammar = parameters_by_the_grammar v

      holds : admits who (parameters_in v) ≡ true → (i : IssueValue) → issue_value v ≡ i → grantee_of_value i ≡ Some d → Grants who d r
      holds t malformed e h = absurd (none-some d h)
      holds t nameless e h = absurd (none-some d h)
      holds t (named n) e h =
          ⊎_elim
          (λ w. (n, parameters_in v, (grammar n (parameters_in v)).0 (e, refl), (issuer_is_its_labels n).0 w, same_Some (lowered n) d (rw w at h), (admits_exactly who (parameters_in v)).0 t))
          (λ w. absurd (none-some d (rw w at h)))
          (ListLaws.true_or_false (is_issuer n))

  listed_granted : (gs : List CaaRecord) (d : List ℕ) → Memᴰ d (grantees who gs) → Any (Grants who d) gs
  listed_granted [] d m = absurd (Memᴰ.not-nil m)
  listed_granted (g ∷ gs) d m = go (grantee who g) refl m (listed_granted gs d)
    where
      go :
          (o : Option (List ℕ)) → grantee who g ≡ o → Memᴰ d (cons_some o (grantees who gs)) →
          (Memᴰ d (grantees who gs) → Any (Grants who d) gs) → Any (Grants who d) (g ∷ gs)
      go None e m rest = any_there (rest m)
      go (Some n) e m rest = ⊎_elim (λ k. any_here ((grantee_exactly g d).0 (rw k e))) (λ l. any_there (rest l)) (Memᴰ.cases_cons m)

  granted_listed : (d : List ℕ) {gs : List CaaRecord} → Any (Grants who d) gs → Memᴰ d (grantees who gs)
  granted_listed d (any_here {x = g} h) = rw ((grantee_exactly g d).1 h) (Memᴰ.head refl)
  granted_listed d (any_there {x = g} h) = past (grantee who g) (granted_listed d h)
    where
      past : {ns : List (List ℕ)} (o : Option (List ℕ)) → Memᴰ d ns → Memᴰ d (cons_some o ns)
      past None m = m
      past (Some n) m = Memᴰ.tail m

  -- the issuers granted are those to whom some governing record grants
  pub grantees_exactly : (gs : List CaaRecord) (d : List ℕ) → Memᴰ d (grantees who gs) ↔ Any (Grants who d) gs
  grantees_exactly gs d = (listed_granted gs d, granted_listed d)

  granted_permits : (gs : List CaaRecord) (d : List ℕ) → Any (Grants who (lowered d)) gs → permits d (governed_by who gs) ≡ true
  granted_permits [] d h = refl
  granted_permits (g ∷ gs) d h = (any_same (lowered d) (grantees who (g ∷ gs))).1 ((grantees_exactly (g ∷ gs) (lowered d)).1 h)

  -- what an answer says of the name
  module _ (book : Book) (n : Name) where
    abbrev pub Says : Authorization → Type 0
    Says unrestricted = Unrestricted book n
    Says (forbidden r) = ForbiddenBy book n r
    Says (granted r ns) = GovernedFrom book n r × ((gs : List CaaRecord) × GoverningRecords book n gs × (ns ≡ grantees who gs))
    Says (unresolved r) = UnresolvedFrom book n r

    pub authorization_says : Says (authorization who book n)
    unfolding authorization
    authorization_says = of (relevant_set book (base n)) refl
      where
        among :
            (rs : List CaaRecord) → Relevant book n rs → (us gs : List CaaRecord) → select is_unknown_critical rs ≡ us →
            governing (is_wildcard n) rs ≡ gs → Says (unless_forbidden us (governed_by who gs))
        among rs e (u ∷ us) gs i j = (rs, u, e, selects_first (critical_selects rs) i, refl)
        among rs e [] [] i j = inr (rs, e, (selects_none (critical_selects rs)).0 i, (selects_none (governing_selects (is_wildcard n) rs)).0 j)
        among rs e [] (g ∷ gs) i j =
            let s = governing_selects (is_wildcard n) rs in
            let none_critical = (selects_none (critical_selects rs)).0 i in
            ((rs, g, e, none_critical, selects_first s j, refl), (g ∷ gs, (rs, e, none_critical, rw j at s), refl))

        of : (l : Lookup) → relevant_set book (base n) ≡ l → Says (authorization_from who (is_wildcard n) l)
        of empty e = inl e
        of (found rs) e = among rs e (select is_unknown_critical rs) (governing (is_wildcard n) rs) refl refl
        of (endless r) e = e

    -- the governing records alone decide, where there is no unknown critical record
    pub governed : (gs : List CaaRecord) → GoverningRecords book n gs → authorization who book n ≡ governed_by who gs
    unfolding authorization
    governed gs (rs, e, c, s) = rw (e, (selects_none (critical_selects rs)).1 c, selects_unique (governing_selects (is_wildcard n) rs) s)

    pub unrestricted_exactly : (authorization who book n ≡ unrestricted) ↔ Unrestricted book n
    unfolding authorization
    unrestricted_exactly = (
      λ e. rw e at authorization_says,
      ⊎_elim
          (λ e. rw e)
          (λ (rs, e, c, g). rw (e, (selects_none (critical_selects rs)).1 c, (selects_none (governing_selects (is_wildcard n) rs)).1 g)),
    )

    pub forbidden_exactly : (r : ℕ) → (authorization who book n ≡ forbidden r) ↔ ForbiddenBy book n r
    unfolding authorization
    forbidden_exactly r = (
      λ e. rw e at authorization_says,
      λ (rs, c, e, f, k). rw (e, (first_selects (critical_selects rs) f).1, k),
    )

    pub unresolved_exactly : (r : ℕ) → (authorization who book n ≡ unresolved r) ↔ UnresolvedFrom book n r
    unfolding authorization
    unresolved_exactly r = (λ e. rw e at authorization_says, λ e. rw e)

    pub granted_governs : (r : ℕ) (ns : List (List ℕ)) → authorization who book n ≡ granted r ns → Says (granted r ns)
    granted_governs r ns e = rw e at authorization_says

    pub governs_granted : (r : ℕ) → GovernedFrom book n r → (ns : List (List ℕ)) × (authorization who book n ≡ granted r ns)
    governs_granted r (rs, c, e, none_critical, f, k) =
        let s = governing_selects (is_wildcard n) rs in
        let (zs, h) = first_selects s f in
        (grantees who (c ∷ zs), governed (c ∷ zs) (rs, e, none_critical, rw h at s) ∙ ap (λ m. granted m (grantees who (c ∷ zs))) k)

  module _ (book : Book) (n : Name) (d : List ℕ) where
    pub permits_exactly : (permits d (authorization who book n) ≡ true) ↔ PermittedTo book n who d
    permits_exactly = (permitted (authorization who book n) (authorization_says book n), ⊎_elim open_to_all granted_to)
      where
        permitted : (a : Authorization) → Says book n a → permits d a ≡ true → PermittedTo book n who d
        permitted unrestricted s e = inl s
        permitted (forbidden r) s e = absurd (false≢true e)
        permitted (unresolved r) s e = absurd (false≢true e)
        permitted (granted r ns) (g, (gs, (rs, re, c, sel), k)) e =
            inr (rs, re, c, any_of_kept sel ((grantees_exactly gs (lowered d)).0 (rw k at ((any_same (lowered d) ns).0 e))))

        open_to_all : Unrestricted book n → permits d (authorization who book n) ≡ true
        open_to_all u = rw ((unrestricted_exactly book n).1 u)

        granted_to : GrantedTo book n who d → permits d (authorization who book n) ≡ true
        granted_to (rs, e, c, h) =
            let s = governing_selects (is_wildcard n) rs in
            rw (governed book n (governing (is_wildcard n) rs) (rs, e, c, s)) (granted_permits (governing (is_wildcard n) rs) d (any_kept s h))
