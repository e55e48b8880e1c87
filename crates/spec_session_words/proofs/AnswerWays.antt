-- The three ways of an answer with a book.
use Rattle.std.proofs.lemmas.Option.{none-some}
use Rattle.std.specs.Prelude.{Option, None, Some}
use Prim.Native.Nat.{ℕ, suc, ◌<◌}
use native.Mathlib.Omega.{arith}
use mathlib.Core.Path.{◌≡◌, refl, ap, sym, ◌∙◌}
use mathlib.Core.Logic.{◌≢◌, ◌⊎◌, inl, inr}
use mathlib.Core.Bool.{Bool, true, false, cond, true≢false}
use mathlib.Core.List.{List}
use lib.Dec.{ltb}
use lib.ListN.{length, drop}
use borrow.Author.Tests.{ltb-true, ltb-false}
use Rattle.spec_refusal.specs.declared.Refusal.{Refusal}
use Rattle.spec_name.specs.Names.{Name}
use Rattle.spec_request.specs.Request.{is_wildcard, base}
use Rattle.spec_record.specs.Records.{records, book_refusal}
use Rattle.spec_rule.specs.declared.Judgement.{Judgement}
use Rattle.spec_rule.specs.declared.Judgement.TheVariants.{Refused}
use Rattle.spec_rule.specs.RelevantSet.{as_book, Lookup, empty, found, endless, lookup}
use Rattle.spec_session.specs.declared.Session.{Session}
use Rattle.spec_session.specs.declared.SessionAnswer.TheVariants.{Judged}
use Rattle.spec_session.specs.Sessions.{held, kept_applicant, is_asking, state}
use Rattle.spec_session.specs.Steps.{ended_refusal, goes_to, one_up, concluded, by_lookup, answered, book}
use Rattle.spec_session.proofs.StepLaws.{asks_nothing, ended_refuses, refused_book, state_tells}
use Rattle.spec_session.proofs.Trails.{OnCourse}
use Rattle.spec_session.proofs.Runs.{concluded_stands}
use Rattle.spec_session_words.proofs.States
use Rattle.spec_session_words.proofs.States.{Asking}
use Rattle.spec_session_words.proofs.Rulings.{ruling}

-- what the book b has for the name y, and what the rule says of it
abbrev pub had : List ℕ → Name → Lookup
had b y = lookup (as_book (records b)) y

abbrev pub rule : Session → Name → Lookup → Judgement
rule s n l = ruling (kept_applicant s) (is_wildcard n) (held s.issuer) s.up l

module _ (s : Session) (b : List ℕ) where
  -- the parent is asked for; a verdict is given; the answer is refused
  pub record Climbs : Type 0 where
    pub from : Asking s
    pub nothing : had b from.next ≡ empty
    pub parent : suc s.up < length (base from.kept)
    pub goes : answered s b ≡ goes_to (one_up s)

  pub record Decides : Type 0 where
    pub from : Asking s
    pub why : (had b from.next ≢ empty) ⊎ (suc s.up ≡ length (base from.kept))
    pub goes : answered s b ≡ goes_to (concluded s from.kept (had b from.next))
    pub says : (answered s b).answer ≡ Judged (rule s from.kept (had b from.next))

  abbrev pub Refusing : Type 0
  Refusing = (r : Refusal) × (answered s b ≡ record { answer = Judged (Refused r); session = s })

  abbrev pub Ways : Type 0
  Ways = Refusing ⊎ Climbs ⊎ Decides

  read : (h : Asking s) → book_refusal b ≡ None → answered s b ≡ goes_to (by_lookup s h.kept (had b h.next))
  unfolding answered ended_refusal
  read h e = rw (h.takes, e, h.is_kept_lem, h.is_next) refl

  pub course : (h : Asking s) → OnCourse (held s.issuer) (kept_applicant s) h.kept s
  course h = record { takes = h.takes; of_name = h.is_kept_lem; of_issuer = refl; of_applicant = refl }

  concluded_says : (h : Asking s) → state (concluded s h.kept (had b h.next)) ≡ Judged (rule s h.kept (had b h.next))
  concluded_says h = rw h.is_next ((state_tells (concluded s h.kept (had b (drop s.up (base h.kept))))).1 _ (concluded_stands _ _ _ (course h) b))

  accepted : (h : Asking s) → book_refusal b ≡ None → Climbs ⊎ Decides
  accepted h e = by_lookup_lem (had b h.next) refl (read h e)
    where
      decides :
          (l : Lookup) → had b h.next ≡ l → answered s b ≡ goes_to (concluded s h.kept l) →
          (had b h.next ≢ empty) ⊎ (suc s.up ≡ length (base h.kept)) → Climbs ⊎ Decides
      decides l f g why =
          let goes : answered s b ≡ goes_to (concluded s h.kept (had b h.next)) = g ∙ ap (λ m. goes_to (concluded s h.kept m)) (sym f) in
          inr (record { from = h; why = why; goes = goes; says = ap (λ t. t.answer) goes ∙ concluded_says h })

      by_label :
          (t : Bool) → ltb (suc s.up) (length (base h.kept)) ≡ t → had b h.next ≡ empty →
          answered s b ≡ goes_to (cond t (one_up s) (concluded s h.kept empty)) → Climbs ⊎ Decides
      by_label true u f g = inl (record { from = h; nothing = f; parent = ltb-true _ _ u; goes = g })
      by_label false u f g = decides empty f g (inr (omega (arith, ltb-false (suc s.up) (length (base h.kept)) u, h.below)))

      by_lookup_lem : (l : Lookup) → had b h.next ≡ l → answered s b ≡ goes_to (by_lookup s h.kept l) → Climbs ⊎ Decides
      by_lookup_lem empty f g = by_label (ltb (suc s.up) (length (base h.kept))) refl f g
      by_lookup_lem (found rs) f g = decides (found rs) f g (inl (λ z. true≢false (let v = sym f ∙ z in cc)))
      by_lookup_lem (endless r) f g = decides (endless r) f g (inl (λ z. true≢false (let v = sym f ∙ z in cc)))

  pub ways : Ways
  ways = by_asking (is_asking s) refl
    where
      by_book : Asking s → (o : Option Refusal) → book_refusal b ≡ o → Ways
      by_book h None e = inr (accepted h e)
      by_book h (Some r) e = inl (r, refused_book s b r (λ z. none-some h.next (sym z ∙ h.asks_next)) e)

      by_asking : (t : Bool) → is_asking s ≡ t → Ways
      by_asking true t = by_book (States.asking s t) (book_refusal b) refl
      by_asking false t = inl (_, ended_refuses s (book b) (asks_nothing s t))
