-- With other record numbers only the numbers in the answer change.
use Rattle.std.specs.Prelude.{Option, None, Some}
use Prim.Native.Nat.{ℕ, zero, suc}
use mathlib.Core.Path.{◌≡◌, refl, ap, fun_ext}
use mathlib.Core.Bool.{Bool, true, false, cond}
use mathlib.Core.List.{List, [], ◌∷◌, map, map-map}
use Rattle.spec_limits.specs.Limits.{max_aliases}
use Rattle.spec_octets.specs.Lists.{all, select}
use Rattle.spec_octets.proofs.SelectLaws.{select_map}
use Rattle.spec_name.specs.Names.{Name, same_name, ancestors}
use Rattle.spec_request.specs.Request.{is_wildcard, base}
use Rattle.spec_applicant.specs.Applicant.{Applicant}
use Rattle.spec_rule.specs.declared.Judgement.{Judgement}
use Rattle.spec_rule.specs.Aliases.{Alias, aliases_of, through, followed}
use Rattle.spec_rule.specs.RelevantSet.{CaaRecord, Book, Lookup, empty, found, endless, as_lookup, caa_at, looked_up, lookup, first_found, empty_before, relevant_set, labels_off}
use Rattle.spec_rule.specs.Authorizations.{Authorization, unrestricted, forbidden, granted, unresolved, is_unknown_critical, is_issue, is_issue_wild, or_else, governing, grantee, grantees, governed_by, unless_forbidden, authorization_from, authorization, permits}
use Rattle.spec_rule.specs.Verdicts.{Decision, decision, denied, verdict_from, verdict}
use Rattle.spec_rule.specs.IssuerLists.{listed, distinct, issuers}
use Rattle.spec_rule.specs.Theorems.{renumbered, renumbered_alias, renumbered_book, renumbered_authorization, renumbered_verdict, Renumbering}

module _ (f : ℕ → ℕ) (who : Applicant) where
  abbrev others : List CaaRecord → List CaaRecord
  others rs = map (renumbered f) rs

  -- a test that doesn't look at the number selects the same records
  same_select :
      (p : CaaRecord → Bool) → ((r : CaaRecord) → p (renumbered f r) ≡ p r) → (rs : List CaaRecord) →
      select p (others rs) ≡ others (select p rs)
  same_select p h rs = select_map (renumbered f) p p h rs

  -- the relevant set
  abbrev other_lookup : Lookup → Lookup
  other_lookup empty = empty
  other_lookup (found rs) = found (others rs)
  other_lookup (endless r) = endless (f r)

  as_lookup_lem : (rs : List CaaRecord) → as_lookup (others rs) ≡ other_lookup (as_lookup rs)
  as_lookup_lem [] = refl
  as_lookup_lem (r ∷ rs) = refl

  -- aliases: the same ones are followed
  abbrev other_aliases : List Alias → List Alias
  other_aliases al = map (renumbered_alias f) al

  same_aliases : (al : List Alias) (x : Name) → aliases_of (other_aliases al) x ≡ other_aliases (aliases_of al x)
  same_aliases al x = select_map (renumbered_alias f) (λ a. same_name a.owner x) (λ a. same_name a.owner x) (λ a. refl) al

  same_through : (bs : List Alias) (follow : Name → Option Name) (x : Name) → through (other_aliases bs) follow x ≡ through bs follow x
  same_through [] follow x = refl
  same_through (a ∷ bs) follow x = refl

  same_followed : (n : ℕ) (al : List Alias) (x : Name) → followed n (other_aliases al) x ≡ followed n al x
  same_followed zero al x = rw (same_aliases al x) (same_through (aliases_of al x) (λ t. None) x)
  same_followed (suc n) al x = rw (same_aliases al x, fun_ext (same_followed n al)) (same_through (aliases_of al x) (followed n al) x)

  looked_up_lem :
      (rs : List CaaRecord) (bs : List Alias) (o : Option Name) →
      looked_up (others rs) (other_aliases bs) o ≡ other_lookup (looked_up rs bs o)
  looked_up_lem rs bs (Some y) = rw (same_select (λ r. same_name r.owner y) (λ r. refl) rs) (as_lookup_lem (caa_at rs y))
  looked_up_lem rs [] None = refl
  looked_up_lem rs (a ∷ bs) None = refl

  same_lookup : (book : Book) (x : Name) → lookup (renumbered_book f book) x ≡ other_lookup (lookup book x)
  unfolding lookup
  same_lookup book x =
      rw (same_aliases book.aliases x, same_followed max_aliases book.aliases x)
      (looked_up_lem book.caa (aliases_of book.aliases x) (followed max_aliases book.aliases x))

  first_found_lem : (ls : List Lookup) → first_found (map other_lookup ls) ≡ other_lookup (first_found ls)
  first_found_lem [] = refl
  first_found_lem (empty ∷ ls) = first_found_lem ls
  first_found_lem (found rs ∷ ls) = refl
  first_found_lem (endless r ∷ ls) = refl

  same_set : (book : Book) (x : Name) → relevant_set (renumbered_book f book) x ≡ other_lookup (relevant_set book x)
  unfolding relevant_set
  same_set book x =
      rw (fun_ext (same_lookup book), ← map-map other_lookup (lookup book) (ancestors x)) (first_found_lem (map (lookup book) (ancestors x)))

  -- the labels taken off
  empty_before_lem : (ls : List Lookup) → empty_before (map other_lookup ls) ≡ empty_before ls
  empty_before_lem [] = refl
  empty_before_lem (empty ∷ ls) = ap suc (empty_before_lem ls)
  empty_before_lem (found rs ∷ ls) = refl
  empty_before_lem (endless r ∷ ls) = refl

  same_labels_off : (book : Book) (x : Name) → labels_off (renumbered_book f book) x ≡ labels_off book x
  unfolding labels_off
  same_labels_off book x =
      rw (fun_ext (same_lookup book), ← map-map other_lookup (lookup book) (ancestors x)) (empty_before_lem (map (lookup book) (ancestors x)))

  -- what CAA says of a name
  or_else_lem : (rs qs : List CaaRecord) → or_else (others rs) (others qs) ≡ others (or_else rs qs)
  or_else_lem [] qs = refl
  or_else_lem (r ∷ rs) qs = refl

  same_governing : (wildcard : Bool) (rs : List CaaRecord) → governing wildcard (others rs) ≡ others (governing wildcard rs)
  unfolding governing
  same_governing true rs =
      rw (same_select is_issue_wild (λ r. refl) rs, same_select is_issue (λ r. refl) rs) (or_else_lem (select is_issue_wild rs) (select is_issue rs))
  same_governing false rs = same_select is_issue (λ r. refl) rs

  same_grantees : (gs : List CaaRecord) → grantees who (others gs) ≡ grantees who gs
  unfolding grantee
  same_grantees [] = refl
  same_grantees (g ∷ gs) = rw (same_grantees gs)

  governed_by_lem : (gs : List CaaRecord) → governed_by who (others gs) ≡ renumbered_authorization f (governed_by who gs)
  governed_by_lem [] = refl
  governed_by_lem (g ∷ gs) = rw (same_grantees (g ∷ gs))

  unless_forbidden_lem :
      (us : List CaaRecord) (a : Authorization) →
      unless_forbidden (others us) (renumbered_authorization f a) ≡ renumbered_authorization f (unless_forbidden us a)
  unless_forbidden_lem [] a = refl
  unless_forbidden_lem (u ∷ us) a = refl

  same_from_lookup : (wildcard : Bool) (l : Lookup) → authorization_from who wildcard (other_lookup l) ≡ renumbered_authorization f (authorization_from who wildcard l)
  unfolding is_unknown_critical
  same_from_lookup wildcard empty = refl
  same_from_lookup wildcard (found rs) =
      rw (same_select is_unknown_critical (λ r. refl) rs, same_governing wildcard rs, governed_by_lem (governing wildcard rs))
      (unless_forbidden_lem (select is_unknown_critical rs) (governed_by who (governing wildcard rs)))
  same_from_lookup wildcard (endless r) = refl

  same_authorization : (book : Book) (n : Name) → authorization who (renumbered_book f book) n ≡ renumbered_authorization f (authorization who book n)
  unfolding authorization
  same_authorization book n = rw (same_set book (base n)) (same_from_lookup (is_wildcard n) (relevant_set book (base n)))

  abbrev otherwise : List Authorization → List Authorization
  otherwise said = map (renumbered_authorization f) said

  same_authorizations : (book : Book) (ns : List Name) → map (authorization who (renumbered_book f book)) ns ≡ otherwise (map (authorization who book) ns)
  same_authorizations book ns = rw (fun_ext (same_authorization book), map-map)

  abbrev other_decision : Decision → Decision
  other_decision s = record { says = renumbered_authorization f s.says; up = s.up }

  same_decision : (book : Book) (n : Name) → decision who (renumbered_book f book) n ≡ other_decision (decision who book n)
  unfolding decision
  same_decision book n = rw (same_authorization book n, same_labels_off book (base n))

  same_decisions : (book : Book) (ns : List Name) → map (decision who (renumbered_book f book)) ns ≡ map other_decision (map (decision who book) ns)
  same_decisions book ns = rw (fun_ext (same_decision book), map-map)

  -- the verdict, and the issuers
  same_permits : (d : List ℕ) (a : Authorization) → permits d (renumbered_authorization f a) ≡ permits d a
  same_permits d unrestricted = refl
  same_permits d (forbidden r) = refl
  same_permits d (granted r ns) = refl
  same_permits d (unresolved r) = refl

  same_denied : (k u : ℕ) (a : Authorization) → denied k u (renumbered_authorization f a) ≡ renumbered_verdict f (denied k u a)
  same_denied k u unrestricted = refl
  same_denied k u (forbidden r) = refl
  same_denied k u (granted r ns) = refl
  same_denied k u (unresolved r) = refl

  same_verdict :
      (k : ℕ) (d : List ℕ) (said : List Decision) → verdict_from k d (map other_decision said) ≡ renumbered_verdict f (verdict_from k d said)
  same_verdict k d [] = refl
  same_verdict k d (s ∷ rest) =
      rw (same_permits d s.says, same_denied k s.up s.says, same_verdict (suc k) d rest)
      (go (permits d s.says) (verdict_from (suc k) d rest) (denied k s.up s.says))
    where
      go : (t : Bool) (v w : Judgement) → cond t (renumbered_verdict f v) (renumbered_verdict f w) ≡ renumbered_verdict f (cond t v w)
      go true v w = refl
      go false v w = refl

  all_permit : (said : List Authorization) (d : List ℕ) → all (permits d) (otherwise said) ≡ all (permits d) said
  all_permit [] d = refl
  all_permit (a ∷ rest) d = rw (same_permits d a, all_permit rest d)

  same_issuers : (said : List Authorization) → issuers (otherwise said) ≡ issuers said
  same_issuers [] = refl
  same_issuers (unrestricted ∷ rest) = same_issuers rest
  same_issuers (forbidden r ∷ rest) = refl
  same_issuers (unresolved r ∷ rest) = refl
  same_issuers (granted r ns ∷ rest) = ap (λ p. listed (select p (distinct ns))) (fun_ext (all_permit rest))

pub renumbering : Renumbering
unfolding verdict
renumbering f who book ns =
    let said = map (authorization who book) ns in
    rw (same_authorizations f who book ns, same_decisions f who book ns) (refl, λ d. same_verdict f who 0 d (map (decision who book) ns), same_issuers f who said)
