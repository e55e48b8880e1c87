-- The word of caa_judge_for: the first row of the table that holds, or the verdict.
use Rattle.std.specs.Prelude.{Option, None, Some}
use Prim.Native.Nat.{ℕ, ◌≤◌}
use native.Mathlib.Omega.{arith}
use mathlib.Core.Path.{◌≡◌, refl, sym, ◌∙◌}
use mathlib.Core.Logic.{◌↔◌}
use mathlib.Core.List.{List, [], ◌∷◌, Memᴰ}
use Rattle.spec_refusal.specs.declared.Refusal.{Refusal}
use Rattle.spec_octets.specs.Octets.{Octets}
use Rattle.spec_request.specs.Request.{requested_names, request_refusal}
use Rattle.spec_request.proofs.Requests.{request_is_its_names}
use Rattle.spec_issuer.specs.Issuer.{issuer_refusal}
use Rattle.spec_record.specs.Records.{records, book_refusal}
use Rattle.spec_record.proofs.Book.{book_is_its_records}
use Rattle.spec_applicant.specs.Applicant.{Applicant, applicant_refusal}
use Rattle.spec_rule.specs.declared.Judgement.{Judgement}
use Rattle.spec_rule.specs.declared.Judgement.TheVariants.{Permitted, UnknownCritical, NotGranted, TooManyAliases, Refused}
use Rattle.spec_rule.specs.RelevantSet.{as_book}
use Rattle.spec_rule.specs.Verdicts.{denial}
use Rattle.spec_rule.specs.Calls.{judge, judgement_code}
use Rattle.spec_rule.specs.Theorems.{VerdictOn}
use Rattle.spec_rule.proofs.RefusalLaws.{judge_numbers, judge_keeps, judge_refusals}
use Rattle.spec_rule.proofs.VerdictLaws.{judge_accepted}
use Rattle.spec_packed.specs.Packed.{number_in, field_a, field_b, field_c}
use Rattle.spec_answers.specs.Door.{caa_judge_for, JudgeTable, FirstToHold, NoneHolds, JudgeWord, CaaJudgeFor}
use Rattle.spec_answers.proofs.NumberBounds.{judge_fits}
use Rattle.spec_answers.proofs.JudgementUnpacks.{up_small, judgement_unpacks}
use Rattle.spec_answers.proofs.DoorRows.{judge_rows, one_of, among, none_holds, never_refuses, refuses_exactly}
use Rattle.spec_answers.proofs.DoorWords.{Holds, of_answer, judge_refused, judge_0, judge_20, judge_21, judge_22, judge_b, judge_c, judge_a}

apart : ◌≡◌ {A = ℕ} 0 1 → ⊥
apart e = omega arith

module _ (request issuer : List ℕ) (who : Applicant) (book : List ℕ) where
  abbrev j : Judgement
  j = judge request issuer who book

  abbrev w : ℕ
  w = caa_judge_for request issuer who book

  abbrev u : Holds (number_in w) (field_a w) (field_b w) (field_c w) (judgement_code j)
  u = judgement_unpacks request issuer who book

  -- number 0 stands for the permission, whatever the octets
  pub permitted_word : (number_in (caa_judge_for request issuer who book) ≡ 0) ↔ (judge request issuer who book ≡ Permitted)
  unfolding judgement_code
  permitted_word = (judge_0 _ _ _ _ j u, λ e. (of_answer _ _ _ _ judgement_code e u).0)

  -- a call that is not refused finds nothing wrong with what it was handed
  abbrev Accepted : Type 0
  Accepted = (request_refusal request ≡ None) × (issuer_refusal issuer ≡ None) × (applicant_refusal who ≡ None) × (book_refusal book ≡ None)

  accepted : ((r : Refusal) → j ≡ Refused r → ⊥) → Accepted
  unfolding judge
  accepted never = go (request_refusal request) (issuer_refusal issuer) (applicant_refusal who) (book_refusal book) refl refl refl refl
    where
      go :
          (a b c d : Option Refusal) → request_refusal request ≡ a → issuer_refusal issuer ≡ b → applicant_refusal who ≡ c → book_refusal book ≡ d →
          Accepted
      go None None None None e f g h = (e, f, g, h)
      go (Some r) b c d e f g h = absurd (never r (rw e))
      go None (Some r) c d e f g h = absurd (never r (rw (e, f)))
      go None None (Some r) d e f g h = absurd (never r (rw (e, f, g)))
      go None None None (Some r) e f g h = absurd (never r (rw (e, f, g, h)))

  abbrev Unrefused_all : Type 0
  Unrefused_all = NoneHolds (JudgeTable request issuer who book)

  abbrev Ruled : Type 0
  Ruled = VerdictOn who (as_book (records book)) (requested_names request) issuer j

  module _ (request-octets : Octets request) (book-octets : Octets book) where
    none_held : ((r : Refusal) → j ≡ Refused r → ⊥) → Unrefused_all
    none_held = none_holds (judge_rows request issuer who book) (λ r. j ≡ Refused r) (judge_refusals request issuer who book request-octets book-octets)

    passed : Unrefused_all → Accepted
    passed h =
        accepted
        (never_refuses (judge_rows request issuer who book) (λ r. j ≡ Refused r) (judge_refusals request issuer who book request-octets book-octets) h)

    -- an answer v that is no refusal: A is how the word has it, B is what the rule has for it
    verdict_exactly : {A B : Type 0} (v : Judgement) → ((r : Refusal) → v ≡ Refused r → ⊥) → A ↔ (j ≡ v) → (Ruled → (j ≡ v) ↔ B) → A ↔ (Unrefused_all × B)
    verdict_exactly {A} {B} v other word rule = (λ h. found (word.0 h), λ (no_row, h). word.1 ((rule (ruled (passed no_row))).1 h))
      where
        ruled : Accepted → Ruled
        ruled (e, f, g, h) = judge_accepted request issuer who book e f g h

        found : j ≡ v → Unrefused_all × B
        found e =
            let calm : (r : Refusal) → j ≡ Refused r → ⊥ = λ r f. other r (sym e ∙ f) in
            (none_held calm, (rule (ruled (accepted calm))).0 e)

    refused_word : (n p : ℕ) → 1 ≤ n → n ≤ 19 → ((number_in w ≡ n) × (field_a w ≡ p)) ↔ FirstToHold (JudgeTable request issuer who book) n p
    unfolding judgement_code
    refused_word =
        refuses_exactly (judge_rows request issuer who book) (λ r. j ≡ Refused r) (judge_refusals request issuer who book request-octets book-octets)
        (number_in w) (field_a w) (judge_refused _ _ _ _ j u) (λ r e. let h = of_answer _ _ _ _ judgement_code e u in (h.0, h.1))

    number_found_lem : (j' : Judgement) → j ≡ j' → Memᴰ (number_in w) (0 ∷ 1 ∷ 2 ∷ 3 ∷ 4 ∷ 15 ∷ 5 ∷ 6 ∷ 7 ∷ 12 ∷ 20 ∷ 21 ∷ 22 ∷ [])
    unfolding judgement_code
    number_found_lem Permitted e = rw (of_answer _ _ _ _ judgement_code e u).0 (one_of 0 _ refl)
    number_found_lem (UnknownCritical d) e = rw (of_answer _ _ _ _ judgement_code e u).0 (one_of 20 _ refl)
    number_found_lem (NotGranted d) e = rw (of_answer _ _ _ _ judgement_code e u).0 (one_of 21 _ refl)
    number_found_lem (TooManyAliases d) e = rw (of_answer _ _ _ _ judgement_code e u).0 (one_of 22 _ refl)
    number_found_lem (Refused r) e =
        let row = ((judge_refusals request issuer who book request-octets book-octets r).0 e).0 in
        rw (of_answer _ _ _ _ judgement_code e u).0
        (among judge_numbers _ refl ((judge_keeps request issuer who book request-octets book-octets).numbered r row))

    pub judge_word : JudgeWord request issuer who book (caa_judge_for request issuer who book)
    unfolding judgement_code
    judge_word = record {
      refused_exactly = refused_word;
      permitted_exactly = verdict_exactly Permitted (λ r e. apart (cc)) permitted_word (λ v. v.0);
      unknown_critical_exactly = λ k r u₀. verdict_exactly (UnknownCritical (denial k r u₀)) (λ q e. apart (cc)) (
        λ (n, a, b, c). rw (← a, ← b, ← c) (judge_20 _ _ _ _ j u n),
        λ e. let h = of_answer _ _ _ _ judgement_code e u in (h.0, h.1, h.2, h.3),
      ) (λ v. v.1 k r u₀);
      not_granted_exactly = λ k r u₀. verdict_exactly (NotGranted (denial k r u₀)) (λ q e. apart (cc)) (
        λ (n, a, b, c). rw (← a, ← b, ← c) (judge_21 _ _ _ _ j u n),
        λ e. let h = of_answer _ _ _ _ judgement_code e u in (h.0, h.1, h.2, h.3),
      ) (λ v. v.2 k r u₀);
      too_many_aliases_exactly = λ k r u₀. verdict_exactly (TooManyAliases (denial k r u₀)) (λ q e. apart (cc)) (
        λ (n, a, b, c). rw (← a, ← b, ← c) (judge_22 _ _ _ _ j u n),
        λ e. let h = of_answer _ _ _ _ judgement_code e u in (h.0, h.1, h.2, h.3),
      ) (λ v. v.3 k r u₀);
      numbers = number_found_lem j refl;
      c_small = rw u.3 (up_small j (judge_fits request issuer who book));
      c_unused = judge_c _ _ _ _ j u;
      b_unused = judge_b _ _ _ _ j u;
      a_unused = judge_a _ _ _ _ j u;
      names_read = λ h. let k = (request_is_its_names request request-octets (requested_names request)).0 ((passed h).0, refl) in (k.0, k.1);
      records_read = λ h. let k = (book_is_its_records book book-octets (records book)).0 ((passed h).3, refl) in (k.0, k.1);
    }

pub caa_judge_for_lem : CaaJudgeFor
caa_judge_for_lem = judge_word
