-- The verdict is that of the lowest name that is not permitted; permitted if there is none.
use Prim.Native.Nat.{ℕ, suc, ◌+◌}
use native.Mathlib.Omega.{arith}
use mathlib.Core.Path.{◌≡◌, refl, ap, ◌∙◌}
use mathlib.Core.Logic.{◌↔◌, ◌⊎◌, inl, inr, ⊎_elim}
use mathlib.Core.Bool.{Bool, true}
use mathlib.Core.List.{List, [], ◌∷◌, ◌++◌, map}
use lib.ListN.{length}
use Rattle.spec_octets.specs.Lists.{All, all_nil, all_cons}
use Rattle.spec_octets.proofs.ListLaws.{true_or_false}
use Rattle.spec_octets.proofs.SelectLaws.{fails}
use Rattle.spec_name.specs.Names.{Name}
use Rattle.spec_request.specs.Request.{requested_names}
use Rattle.spec_record.specs.Records.{records}
use Rattle.spec_applicant.specs.Applicant.{Applicant}
use Rattle.spec_rule.specs.declared.Judgement.{Judgement}
use Rattle.spec_rule.specs.declared.Judgement.TheVariants.{Permitted, UnknownCritical, NotGranted, TooManyAliases, Refused}
use Rattle.spec_rule.specs.RelevantSet.{Book, as_book}
use Rattle.spec_rule.specs.Authorizations.{Authorization, unrestricted, forbidden, granted, unresolved, authorization, permits}
use Rattle.spec_rule.specs.Verdicts.{decision, denied, verdict_from, verdict}
use Rattle.spec_rule.specs.Calls.{decisions, judge}
use Rattle.spec_rule.specs.Meaning.{PermittedTo, ForbiddenBy, GovernedFrom, UnresolvedFrom, DecidedAt, LowestNot}
use Rattle.spec_rule.specs.Theorems.{VerdictByTheRule, JudgeAccepted}
use Rattle.spec_rule.proofs.LabelsTakenOff.{taken_off, decided_found, decided_endless, decided_there}
use Rattle.spec_rule.proofs.AuthorizationLaws.{Says, authorization_says, forbidden_exactly, unresolved_exactly, governs_granted, permits_exactly}

-- every name is of a kind that a test decides, or there is a lowest one that is not
pub all_or_lowest :
    {P : Name → Type 0} (p : Name → Bool) → ((n : Name) → (p n ≡ true) ↔ P n) → (ns : List Name) →
    All P ns ⊎ ((k : ℕ) × (n : Name) × LowestNot P ns k n)
all_or_lowest p decides [] = inl all_nil
all_or_lowest {P} p decides (n ∷ ns) = ⊎_elim
    (λ t. ⊎_elim (λ h. inl (all_cons ((decides n).0 t) h)) (λ l. inr (later ((decides n).0 t) l)) (all_or_lowest p decides ns))
    (λ t. inr (0, n, ([], ns, refl, refl, all_nil, (fails p decides n).0 t)))
    (true_or_false (p n))
  where
    later : P n → (k : ℕ) × (m : Name) × LowestNot P ns k m → (k : ℕ) × (m : Name) × LowestNot P (n ∷ ns) k m
    later h (k, m, (before, after, e, l, hs, q)) = (suc k, m, (n ∷ before, after, ap (◌∷◌ n) e, ap suc l, all_cons h hs, q))

module _ (who : Applicant) (book : Book) (d : List ℕ) where
  -- the issuer d may sign for the name
  abbrev Allowed : Name → Type 0
  Allowed n = PermittedTo book n who d

  allowed : (n : Name) → (permits d (authorization who book n) ≡ true) ↔ Allowed n
  allowed n = permits_exactly who book n d

  all_allowed : (j : ℕ) {ns : List Name} → All Allowed ns → verdict_from j d (map (decision who book) ns) ≡ Permitted
  unfolding decision
  all_allowed j all_nil = refl
  all_allowed j (all_cons {x = n} h hs) = rw ((allowed n).1 h) (all_allowed (suc j) hs)

  -- the names before it are passed, each with its number
  lowest_denied :
      (n : Name) (after : List Name) → (Allowed n → ⊥) → (before : List Name) → All Allowed before → (j k : ℕ) → k ≡ j + length before →
      verdict_from j d (map (decision who book) (before ++ (n ∷ after))) ≡ denied k (taken_off book n) (authorization who book n)
  unfolding decision
  lowest_denied n after q [] h j k e =
      let i : j ≡ k = omega arith in
      rw ((fails (λ m. permits d (authorization who book m)) allowed n).1 q, i)
  lowest_denied n after q (b ∷ before) (all_cons h hs) j k e =
      rw ((allowed b).1 h) (lowest_denied n after q before hs (suc j) k (omega arith))

  module _ (ns : List Name) where
    -- what a judgement says of the names
    abbrev Means : Judgement → Type 0
    Means Permitted = All Allowed ns
    Means (UnknownCritical e) = (n : Name) × LowestNot Allowed ns e.name.0 n × ForbiddenBy book n e.rr.0 × DecidedAt book n e.up.0
    Means (NotGranted e) = (n : Name) × LowestNot Allowed ns e.name.0 n × GovernedFrom book n e.rr.0 × DecidedAt book n e.up.0
    Means (TooManyAliases e) = (n : Name) × LowestNot Allowed ns e.name.0 n × UnresolvedFrom book n e.rr.0 × DecidedAt book n e.up.0
    Means (Refused r) = ⊥

    at_lowest :
        (k : ℕ) (n : Name) → LowestNot Allowed ns k n →
        verdict d (map (decision who book) ns) ≡ denied k (taken_off book n) (authorization who book n)
    unfolding verdict
    at_lowest k n (before, after, e, l, hs, q) = rw e (lowest_denied n after q before hs 0 k (omega arith))

    verdict_means : Means (verdict d (map (decision who book) ns))
    unfolding verdict
    verdict_means = ⊎_elim
        (λ h. rw (all_allowed 0 h) h)
        (λ (k, n, l). rw (at_lowest k n l) (why k n l (authorization who book n) (authorization_says who book n)))
        (all_or_lowest (λ m. permits d (authorization who book m)) allowed ns)
      where
        why : (k : ℕ) (n : Name) → LowestNot Allowed ns k n → (a : Authorization) → Says who book n a → Means (denied k (taken_off book n) a)
        why k n (before, after, e, l, hs, q) unrestricted s = absurd (q (inl s))
        why k n l (forbidden r) s = (n, l, s, decided_found book n s.0 s.2)
        why k n l (granted r gs) s = (n, l, s.0, decided_found book n s.0.0 s.0.2)
        why k n l (unresolved r) s = (n, l, s, decided_endless book n r s)

pub verdict_by_the_rule : VerdictByTheRule
unfolding verdict
verdict_by_the_rule who book ns d = (
  (λ e. rw e at means, all_allowed who book d 0),
  λ k r u. (λ e. rw e at means, λ (n, l, f, at). at_lowest who book d ns k n l ∙ rw ((forbidden_exactly who book n r).1 f, decided_there book n at)),
  λ k r u. (λ e. rw e at means, λ (n, l, g, at). at_lowest who book d ns k n l ∙ rw ((governs_granted who book n r g).1, decided_there book n at)),
  λ k r u. (λ e. rw e at means, λ (n, l, f, at). at_lowest who book d ns k n l ∙ rw ((unresolved_exactly who book n r).1 f, decided_there book n at)),
  λ r e. rw e at means,
)
  where
    means : Means who book d ns (verdict d (map (decision who book) ns))
    means = verdict_means who book d ns

pub judge_accepted : JudgeAccepted
unfolding judge decisions
judge_accepted request issuer who book r i a b = rw (r, i, a, b) (verdict_by_the_rule who (as_book (records book)) (requested_names request) issuer)
