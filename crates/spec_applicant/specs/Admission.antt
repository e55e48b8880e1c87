-- The limits that the parameters of an issue value set (RFC 8657): which account may issue, and by which validation methods.
use Rattle.std.specs.Prelude.{ℕ, Bool, true, false, not, ◌&&◌, List, [], ◌∷◌, map}
use Prim.Native.Char.{code}
use Rattle.spec_octets.specs.Lists.{any, select, is_empty}
use Rattle.spec_octets.specs.Octets.{text, same, equal_ignoring_case}
use Rattle.spec_octets.specs.Pieces.{split}
use Rattle.spec_value.specs.Parameters.{Parameter}
use Rattle.spec_applicant.specs.Applicant.{Applicant}

-- The parameter has the tag t, in any letter case: the requirements' own rule.
abbrev pub is_tagged : List ℕ → Parameter → Bool
is_tagged t p = equal_ignoring_case p.tag t

-- The values of the parameters with the tag t.
abbrev pub values_of : List ℕ → List Parameter → List (List ℕ)
values_of t ps = map (λ p. p.value) (select (is_tagged t) ps)

-- No value, or one that passes the test. Two never pass, also if they are equal.
abbrev pub at_most_one : (List ℕ → Bool) → List (List ℕ) → Bool
at_most_one test [] = true
at_most_one test (v ∷ []) = test v
at_most_one test (v ∷ w ∷ vs) = false

-- The method is one of the items, and no item is empty.
abbrev pub names_method : List ℕ → List (List ℕ) → Bool
names_method m items = not (any is_empty items) && any (same m) items

-- RFC 8657 section 3, "accounturi": equal octet for octet. Section 4, "validationmethods": items separated by commas, one of them equal
-- octet for octet. Other parameters don't matter.
unfoldable pub admits : Applicant → List Parameter → Bool
admits who ps =
    at_most_one (same who.account) (values_of (text "accounturi") ps)
    && at_most_one (λ v. names_method who.method (split (code ",") v)) (values_of (text "validationmethods") ps)
