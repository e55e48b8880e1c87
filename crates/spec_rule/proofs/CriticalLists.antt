-- A critical record with an unknown tag for any requested name empties the list, and so do aliases that don't end.
use Prim.Native.Nat.{ℕ}
use native.Mathlib.Omega.{arith}
use mathlib.Core.Path.{◌≡◌, refl, ap}
use mathlib.Core.Logic.{◌⊎◌, inl, inr}
use mathlib.Core.Bool.{Bool, false, and-false}
use mathlib.Core.List.{List, [], ◌∷◌, map}
use Rattle.spec_octets.specs.Lists.{all, select, All, all_cons, Any, any_here, any_there, all_nil}
use Rattle.spec_octets.proofs.SelectLaws.{selects_none}
use Rattle.spec_name.specs.Names.{Name}
use Rattle.spec_request.specs.Request.{is_wildcard, requested_names}
use Rattle.spec_record.specs.Records.{records}
use Rattle.spec_applicant.specs.Applicant.{Applicant}
use Rattle.spec_rule.specs.RelevantSet.{CaaRecord, Book, as_book}
use Rattle.spec_rule.specs.Authorizations.{Authorization, unrestricted, forbidden, granted, unresolved, is_unknown_critical, governing, governed_by, unless_forbidden, authorization, permits}
use Rattle.spec_rule.specs.IssuerLists.{listed, distinct, issuers}
use Rattle.spec_rule.specs.Calls.{authorizations}
use Rattle.spec_rule.specs.Meaning.{UnknownCriticalRecord, Relevant, UnresolvedFrom}
use Rattle.spec_rule.specs.Theorems.{UnknownCriticalListsNobody, UnresolvedListsNobody}
use Rattle.spec_rule.proofs.AuthorizationLaws.{critical_selects, unresolved_exactly}
use Rattle.spec_rule.proofs.BufferLaws.{list_in_the_buffer}

none_of : {A : Type 0} {P : A → Type 0} {xs : List A} → All (λ x. P x → ⊥) xs → Any P xs → ⊥
none_of all_nil x3 = elim x3 [ ]
none_of (all_cons n ns) (any_here h) = n h
none_of (all_cons n ns) (any_there h) = none_of ns h

-- nobody may issue for a name with this authorization
abbrev Closed : Authorization → Type 0
Closed a = (r : ℕ) × ((a ≡ forbidden r) ⊎ (a ≡ unresolved r))

forbids :
    (who : Applicant) (book : Book) (n : Name) (rs : List CaaRecord) → Relevant book n rs → Any UnknownCriticalRecord rs →
    Closed (authorization who book n)
unfolding authorization
forbids who book n rs e u = rw e (go (select is_unknown_critical rs) refl)
  where
    go :
        (us : List CaaRecord) → select is_unknown_critical rs ≡ us →
        Closed (unless_forbidden us (governed_by who (governing (is_wildcard n) rs)))
    go [] i = absurd (none_of ((selects_none (critical_selects rs)).0 i) u)
    go (c ∷ cs) i = (c.number, inl refl)

none_permitted : (d : List ℕ) (says : List Authorization) → Any Closed says → all (permits d) says ≡ false
none_permitted d [] x' = elim x' [ ]
none_permitted d (a ∷ says) (any_here (r, inl e)) = rw e refl
none_permitted d (a ∷ says) (any_here (r, inr e)) = rw e refl
none_permitted d (a ∷ says) (any_there h) = rw (none_permitted d says h) (and-false (permits d a))

nobody_kept : (p : List ℕ → Bool) → ((d : List ℕ) → p d ≡ false) → (ns : List (List ℕ)) → select p ns ≡ []
nobody_kept p h [] = refl
nobody_kept p h (n ∷ ns) = rw (h n) (nobody_kept p h ns)

nobody : (says : List Authorization) → Any Closed says → issuers says ≡ listed []
nobody [] h = elim h [ ]
nobody (unrestricted ∷ says) (any_here (r, inl e)) = let z : ◌≡◌ {A = ℕ} 0 1 = cc in absurd (omega arith)
nobody (unrestricted ∷ says) (any_here (r, inr e)) = let z : ◌≡◌ {A = ℕ} 0 1 = cc in absurd (omega arith)
nobody (unrestricted ∷ says) (any_there h) = nobody says h
nobody (forbidden r ∷ says) h = refl
nobody (unresolved r ∷ says) h = refl
nobody (granted r ns ∷ says) (any_here (q, inl e)) = let z : ◌≡◌ {A = ℕ} 0 1 = cc in absurd (omega arith)
nobody (granted r ns ∷ says) (any_here (q, inr e)) = let z : ◌≡◌ {A = ℕ} 0 1 = cc in absurd (omega arith)
nobody (granted r ns ∷ says) (any_there h) =
    ap listed (nobody_kept (λ d. all (permits d) says) (λ d. none_permitted d says h) (distinct ns))

any_forbidden :
    (who : Applicant) (book : Book) (ns : List Name) →
    Any (λ n. (rs : List CaaRecord) × Relevant book n rs × Any UnknownCriticalRecord rs) ns →
    Any Closed (map (authorization who book) ns)
any_forbidden who book [] x' = elim x' [ ]
any_forbidden who book (n ∷ ns) (any_here (rs, e, u)) = any_here (forbids who book n rs e u)
any_forbidden who book (n ∷ ns) (any_there h) = any_there (any_forbidden who book ns h)

pub unknown_critical_lists_nobody : UnknownCriticalListsNobody
unfolding authorizations
unknown_critical_lists_nobody request who book buffer r a b h =
    (list_in_the_buffer request who book buffer r a b).1 [] (nobody _ (any_forbidden who (as_book (records book)) (requested_names request) h)) (omega arith)

any_unresolved :
    (who : Applicant) (book : Book) (ns : List Name) → Any (λ n. (r : ℕ) × UnresolvedFrom book n r) ns →
    Any Closed (map (authorization who book) ns)
any_unresolved who book [] x' = elim x' [ ]
any_unresolved who book (n ∷ ns) (any_here (r, e)) = any_here (r, inr ((unresolved_exactly who book n r).1 e))
any_unresolved who book (n ∷ ns) (any_there h) = any_there (any_unresolved who book ns h)

pub unresolved_lists_nobody : UnresolvedListsNobody
unfolding authorizations
unresolved_lists_nobody request who book buffer r a b h =
    (list_in_the_buffer request who book buffer r a b).1 [] (nobody _ (any_unresolved who (as_book (records book)) (requested_names request) h)) (omega arith)
