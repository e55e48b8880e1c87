-- The limits of the parameters that are left, when some limits were seen before: one parameter at a time.
use Rattle.std.specs.Prelude.{Option, Some, None}
use Prim.Native.Nat.{ℕ, ◌+◌, ◌-◌, ◌≤◌, ◌<◌}
use Prim.Native.Char.{code}
use native.Mathlib.Omega.{arith}
use mathlib.Core.Path.{◌≡◌, refl, sym, ap, ◌∙◌}
use mathlib.Core.Logic.{⊎_elim}
use mathlib.Core.Bool.{Bool, true, false, not, cond, ◌&&◌, and-false, and-true}
use mathlib.Core.List.{List, [], ◌∷◌, map}
use lib.Dec.{ltb}
use lib.ListN.{length, take, drop}
use borrow.Author.Tests.{ltb-true, ltb-false}
use Rattle.spec_octets.specs.Lists.{all, is_empty}
use Rattle.spec_octets.specs.Octets.{text, is_upper, is_blank, lower, lowered, same, equal_ignoring_case, trim_start}
use Rattle.spec_octets.specs.Pieces.{split}
use Rattle.spec_octets.proofs.ListLaws.{true_or_false, not_passed, all_true}
use Rattle.spec_octets.proofs.Texts.{same_text}
use Rattle.spec_octets.proofs.TrimEnds.{trim_end_back}
use Rattle.text_labels.specs.Places.{piece_end}
use Rattle.text_labels.proofs.PieceWalk.{pieces_more, pieces_last}
use Rattle.spec_value.specs.IssueValues.{is_blank_alone}
use Rattle.spec_value.specs.Parameters.{Parameter, parameter_in, parameters_in}
use Rattle.spec_applicant.specs.Applicant.{Applicant}
use Rattle.spec_applicant.specs.Admission.{is_tagged, values_of, at_most_one, admits}
use Rattle.read_parameters.specs.Parameters.{parameters_behind}
use Rattle.read_methods.specs.Methods.{names_method_in}
use Rattle.read_limits.specs.Limits.{limit_step}
use Rattle.read_limits.specs.declared.Seen.{Seen}

-- The values that are left: none if the limit was set before, otherwise at most one.
abbrev still_met : Bool → (List ℕ → Bool) → List (List ℕ) → Bool
still_met seen test vs = cond seen (is_empty vs) (at_most_one test vs)

abbrev pub left : Applicant → Seen → List Parameter → Bool
left who seen ps =
    still_met seen.account (same who.account) (values_of (text "accounturi") ps)
    && still_met seen.methods (names_method_in who.method) (values_of (text "validationmethods") ps)

abbrev left_after : Applicant → Option Seen → List Parameter → Bool
left_after who (Some seen) ps = left who seen ps
left_after who None ps = false

-- A parameter has one of the two tags at most.
tags_differ : (p : Parameter) → is_tagged (text "accounturi") p ≡ true → is_tagged (text "validationmethods") p ≡ false
unfolding lower is_upper
tags_differ p e = not_passed (is_tagged (text "validationmethods") p) (λ h.
    let both : lowered (text "accounturi") ≡ lowered (text "validationmethods") =
    sym ((same_text p.tag (text "accounturi")).0 e) ∙ (same_text p.tag (text "validationmethods")).0 h in
    let z : ◌≡◌ {A = ℕ} 0 1 = cc in
    omega arith)

-- One value more.
one_value : (seen : Bool) (test : List ℕ → Bool) (v : List ℕ) (vs : List (List ℕ)) →
    still_met seen test (v ∷ vs) ≡ ((not seen && test v) && still_met true test vs)
one_value true test v vs = refl
one_value false test v [] = sym (and-true (test v))
one_value false test v (w ∷ vs) = sym (and-false (test v))

module _ (who : Applicant) (seen : Seen) (p : Parameter) (ps : List Parameter) where
  step : left who seen (p ∷ ps) ≡ left_after who (limit_step who seen p) ps
  step = ⊎_elim account other (true_or_false (is_tagged (text "accounturi") p))
    where
      account : is_tagged (text "accounturi") p ≡ true → left who seen (p ∷ ps) ≡ left_after who (limit_step who seen p) ps
      account e = rw (e, tags_differ p e, one_value seen.account (same who.account) p.value (values_of (text "accounturi") ps))
          (go (not seen.account && same who.account p.value))
        where
          go : (t : Bool) →
              ((t && is_empty (values_of (text "accounturi") ps))
              && still_met seen.methods (names_method_in who.method) (values_of (text "validationmethods") ps))
              ≡ left_after who (cond t (Some (record { account = true; methods = seen.methods })) None) ps
          go true = refl
          go false = refl

      other : is_tagged (text "accounturi") p ≡ false → left who seen (p ∷ ps) ≡ left_after who (limit_step who seen p) ps
      other e = ⊎_elim methods neither (true_or_false (is_tagged (text "validationmethods") p))
        where
          neither : is_tagged (text "validationmethods") p ≡ false → left who seen (p ∷ ps) ≡ left_after who (limit_step who seen p) ps
          neither n = rw (e, n) refl

          methods : is_tagged (text "validationmethods") p ≡ true → left who seen (p ∷ ps) ≡ left_after who (limit_step who seen p) ps
          methods h =
              rw (e, h, one_value seen.methods (names_method_in who.method) p.value (values_of (text "validationmethods") ps))
              (go (not seen.methods && names_method_in who.method p.value))
            where
              go : (t : Bool) →
                  (still_met seen.account (same who.account) (values_of (text "accounturi") ps)
                  && (t && is_empty (values_of (text "validationmethods") ps)))
                  ≡ left_after who (cond t (Some (record { account = seen.account; methods = true })) None) ps
              go true = refl
              go false = and-false (still_met seen.account (same who.account) (values_of (text "accounturi") ps))

-- Only white space sets no limit.
blank_none : (s : List ℕ) → all is_blank s ≡ true → parameter_in s ≡ record { tag = []; value = [] }
unfolding parameter_in
blank_none s h = rw (ap trim_start (trim_end_back [] ((all_true is_blank s).0 h)))

abbrev none : Seen
none = record { account = false; methods = false }

pub from_start : (who : Applicant) (s : List ℕ) → admits who (parameters_behind s) ≡ left who none (map parameter_in (split (code ";") s))
unfolding parameters_in admits equal_ignoring_case
from_start who s = go (split (code ";") s)
  where
    go : (ps : List (List ℕ)) → left who none (cond (is_blank_alone ps) [] (map parameter_in ps)) ≡ left who none (map parameter_in ps)
    go [] = refl
    go (p ∷ []) = by (all is_blank p) refl
      where
        by : (t : Bool) → all is_blank p ≡ t → left who none (cond t [] (parameter_in p ∷ [])) ≡ left who none (parameter_in p ∷ [])
        by true e = rw (blank_none p e)
        by false e = refl
    go (p ∷ q ∷ ps) = refl

-- x is the parameter at the offset `at`, which ends at e, and o what it says
module _ (who : Applicant) (s : List ℕ) (at e : ℕ) (cut : e ≡ piece_end (code ";") s at) (seen : Seen)
    (rest : admits who (parameters_behind s) ≡ left who seen (map parameter_in (split (code ";") (drop at s))))
    (x : List ℕ) (part : x ≡ take (e - at) (drop at s)) (o : Option Seen) (told : o ≡ limit_step who seen (parameter_in x)) where
  last_one : length s ≤ e → admits who (parameters_behind s) ≡ left_after who o []
  last_one h = rest ∙ rw (pieces_last (code ";") s at e cut h, ← part, told) (step who seen (parameter_in x) [])

  next_one : (j : ℕ) → e < length s → j ≡ e + 1 → admits who (parameters_behind s) ≡ left_after who o (map parameter_in (split (code ";") (drop j s)))
  next_one j h next =
      rest ∙ rw (pieces_more (code ";") s at e cut j h next, ← part, told)
      (step who seen (parameter_in x) (map parameter_in (split (code ";") (drop j s))))

  pub not_admitted : o ≡ None → false ≡ admits who (parameters_behind s)
  not_admitted g = ⊎_elim
      (λ h. sym (next_one (e + 1) (ltb-true e (length s) h) refl ∙ rw g))
      (λ h. sym (last_one (ltb-false e (length s) h) ∙ rw g))
      (true_or_false (ltb e (length s)))

  module _ (after : Seen) (g : o ≡ Some after) where
    pub last_admitted : length s ≤ e → true ≡ admits who (parameters_behind s)
    last_admitted h = sym (last_one h ∙ rw g (nothing_left after.account after.methods))
      where
        nothing_left : (a m : Bool) → left who (record { account = a; methods = m }) [] ≡ true
        nothing_left true true = refl
        nothing_left true false = refl
        nothing_left false true = refl
        nothing_left false false = refl

    pub next_admitted : (j : ℕ) → e < length s → j ≡ e + 1 →
        admits who (parameters_behind s) ≡ left who after (map parameter_in (split (code ";") (drop j s)))
    next_admitted j h next = next_one j h next ∙ rw g
