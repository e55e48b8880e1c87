-- Who may issue: anyone, or those that the verdict permits, each once and in the order of the governing records.
use Prim.Native.Nat.{ℕ}
use mathlib.Core.Path.{◌≡◌, sym, ◌∙◌}
use mathlib.Core.Logic.Iff
use mathlib.Core.Logic.{◌↔◌}
use mathlib.Core.Bool.{true}
use mathlib.Core.List.{List, [], ◌∷◌, map, map-append, Memᴰ}
use Rattle.spec_octets.specs.Lists.{all, All, all_nil, all_cons}
use Rattle.spec_octets.proofs.ListLaws.{all_true, All-head, All-tail}
use Rattle.spec_name.specs.Names.{Name}
use Rattle.spec_request.specs.Request.{requested_names}
use Rattle.spec_issuer.proofs.Dotted.{issuer_refusals}
use Rattle.spec_record.specs.Records.{records}
use Rattle.spec_applicant.specs.Applicant.{Applicant}
use Rattle.spec_rule.specs.RelevantSet.{CaaRecord, Book, as_book}
use Rattle.spec_rule.specs.Authorizations.{Authorization, unrestricted, grantees, governed_by, authorization, permits}
use Rattle.spec_rule.specs.IssuerLists.{listed, issuers}
use Rattle.spec_rule.specs.Calls.{authorizations}
use Rattle.spec_rule.specs.Meaning.{Unrestricted, PermittedTo, GoverningRecords, LowestNot, Before, GrantedBefore}
use Rattle.spec_rule.specs.Theorems.{PermittedIssuersExactly}
use Rattle.spec_rule.proofs.AuthorizationLaws.{governed, unrestricted_exactly, granted_governs, permits_exactly}
use Rattle.spec_rule.proofs.VerdictLaws.{judge_accepted}
use Rattle.spec_rule.proofs.IssuerListLaws.{GrantsOnly, issuers_anyone, issuers_past, issuers_all, issuers_distinct, issuers_permitted, issuers_order}
use Rattle.spec_rule.proofs.GranteeLaws.{SmallName, grantees_small, granted_before}

-- what holds of each value of f holds, said otherwise, of each argument
All-of_map : {A B : Type 0} {P : B → Type 0} {Q : A → Type 0} (f : A → B) → ((x : A) → P (f x) ↔ Q x) → (xs : List A) → All P (map f xs) ↔ All Q xs
All-of_map f h [] = (λ k. all_nil, λ k. all_nil)
All-of_map f h (x ∷ xs) = (
  λ k. all_cons ((h x).0 (All-head k)) ((All-of_map f h xs).0 (All-tail k)),
  λ k. all_cons ((h x).1 (All-head k)) ((All-of_map f h xs).1 (All-tail k)),
)

module _ (who : Applicant) (book : Book) where
  names_unrestricted : (ns : List Name) → All (λ a. a ≡ unrestricted) (map (authorization who book) ns) ↔ All (Unrestricted book) ns
  names_unrestricted ns = All-of_map (authorization who book) (unrestricted_exactly who book) ns

  names_permitted : (d : List ℕ) (ns : List Name) → (all (permits d) (map (authorization who book) ns) ≡ true) ↔ All (λ n. PermittedTo book n who d) ns
  names_permitted d ns =
      Iff.trans (all_true (permits d) (map (authorization who book) ns)) (All-of_map (authorization who book) (λ n. permits_exactly who book n d) ns)

  names_grant_small : (ns : List Name) → All (GrantsOnly SmallName) (map (authorization who book) ns)
  names_grant_small [] = all_nil
  names_grant_small (n ∷ ns) =
      all_cons (λ r ms e. let (gs, h, k) = (granted_governs who book n r ms e).1 in rw k (grantees_small who gs)) (names_grant_small ns)

  -- the names before the lowest restricted one don't count, and its governing records say what it grants
  order :
      (names : List Name) (ns : List (List ℕ)) → issuers (map (authorization who book) names) ≡ listed ns → (k : ℕ) (n : Name) (gs : List CaaRecord) →
      LowestNot (Unrestricted book) names k n → GoverningRecords book n gs → (a b : List ℕ) → Memᴰ a ns → Memᴰ b ns →
      Before a b ns ↔ GrantedBefore who gs a b
  order names ns e k n gs (before, after, s, l, hs, q) h a b m m' = go gs (governed who book n gs h)
    where
      from_here : issuers (authorization who book n ∷ map (authorization who book) after) ≡ listed ns
      from_here =
          sym (issuers_past (map (authorization who book) before) (map (authorization who book) (n ∷ after)) ((names_unrestricted before).1 hs))
          ∙ rw (← map-append (authorization who book) before (n ∷ after), ← s) e

      go : (gs : List CaaRecord) → authorization who book n ≡ governed_by who gs → Before a b ns ↔ GrantedBefore who gs a b
      go [] i = absurd (q ((unrestricted_exactly who book n).0 i))
      go (g ∷ gs) i = Iff.trans
          (issuers_order g.number (grantees who (g ∷ gs)) (map (authorization who book) after) ns (rw i at from_here) a b m m')
          (granted_before who a b (g ∷ gs))

pub permitted_issuers_exactly : PermittedIssuersExactly
unfolding authorizations
permitted_issuers_exactly request who book r a b = record {
  anyone_exactly = Iff.trans (issuers_anyone says) (names_unrestricted who rs names);
  permitted_exactly = λ d w. Iff.trans
      (judge_accepted request d who book r ((issuer_refusals d).1.1 w) a b).0
      (Iff.trans (Iff.symm (names_permitted who rs d names)) (issuers_permitted d says));
  well_formed = λ ns. issuers_all SmallName says ns (names_grant_small who rs names);
  none_twice = issuers_distinct says;
  in_order = order who rs names;
}
  where
    rs : Book
    rs = as_book (records book)

    names : List Name
    names = requested_names request

    says : List Authorization
    says = map (authorization who rs) names
