-- The issuer that CAA data names and the one that it grants: the offsets are right, a law for each return of the code, and laws for callers.
use Rattle.std.specs.Prelude.{Option, None, Some}
use Prim.Native.Nat.{ℕ, ◌≤◌, ◌+◌, ◌-◌}
use native.Mathlib.Omega.{arith}
use mathlib.Core.Path.{◌≡◌, refl, sym, ap, ◌∙◌}
use mathlib.Core.Logic.{◌⊎◌, inl, inr}
use mathlib.Core.Bool.{Bool, true, false, cond, not}
use mathlib.Core.List.{List, []}
use lib.ListN.{length, take, drop}
use lib.Seq.{drop-drop}
use mir.Syntax.{w64}
use mir.Val.{Fits}
use denote.Enum.Declared.{tag_of as variant}
use borrow.Author.Tests.{not-true, not-false}
use Rattle.spec_octets.specs.Octets.{lowered}
use Rattle.spec_octets.proofs.Walks.{rest_whole}
use Rattle.spec_issuer.specs.Issuer.{is_issuer}
use Rattle.read_property.specs.Places.{value_part}
use Rattle.spec_value.specs.IssueValues.{are_parameters, issue_value}
use Rattle.spec_value.specs.Parameters.{parameters_in}
use Rattle.read_parameters.specs.Parameters.{parameters_behind}
use Rattle.read_value.specs.Places.{value_at}
use Rattle.read_value.specs.declared.NameAt.{NameAt}
use Rattle.read_value.specs.declared.ValueRead.{ValueRead}
use Rattle.read_value.specs.declared.ValueRead.TheVariants.{Malformed, Nameless, Named}
use Rattle.read_value.specs.contracts.ValueRead.{the_type}
use Rattle.read_value.proofs.ValuePlaces.{read_malformed, read_nameless, read_named, read_parameters, name_from, name_to, parameters_within}
use Rattle.spec_applicant.specs.Applicant.{Applicant}
use Rattle.spec_applicant.specs.Admission.{admits}
use Rattle.spec_rule.specs.Authorizations.{grantee_of_value, grantee}
use Rattle.read_grantee.specs.Places.{grantee_of_data, name_at, issuer_places, issuer_at, if_admitted, grantee_at, grantee_there}
use Rattle.read_grantee.specs.Theorems.{GranteeOfData, GranteeByPlace}
use Rattle.read_grantee.proofs.ValueEnd.{value_short, value_ends}

nobody_anyway : (t : Bool) → ◌≡◌ {A = Option (List ℕ)} (cond t None None) None
nobody_anyway true = refl
nobody_anyway false = refl

-- data laid out wrongly has an empty value, which grants nobody
pub grantee_of_data_lem : GranteeOfData
unfolding grantee_of_data grantee value_part issue_value are_parameters
grantee_of_data_lem who d = (λ c e. rw e, λ e. rw e (nobody_anyway (admits who (parameters_in []))))

module _ (d : List ℕ) where
  abbrev start : ℕ
  start = length d - length (value_part d)

  -- a place in the value, in the data
  abbrev shifted : NameAt → NameAt
  shifted n = record { from = start + n.from; to = start + n.to; parameters = start + n.parameters }

  shifted_name : (n : NameAt) → name_at d (shifted n) ≡ name_at (value_part d) n
  shifted_name n = rw (long, ← drop-drop n.from start d) (ap (λ l. take (n.to - n.from) (drop n.from l)) (value_ends d))
    where
      long : start + n.to - (start + n.from) ≡ n.to - n.from
      long = omega arith

  shifted_rest : (n : NameAt) → drop (shifted n).parameters d ≡ drop n.parameters (value_part d)
  shifted_rest n = sym (drop-drop n.parameters start d) ∙ ap (drop n.parameters) (value_ends d)

-- what the answer o of issuer_in says: the value names an issuer, which stands at the offsets, or it grants nobody
module _ (d : List ℕ) where
  pub record Issuer (n : NameAt) : Type 0 where
    pub ordered : n.from ≤ n.to
    pub within : n.to ≤ length d
    pub ended : n.parameters ≤ length d
    pub there : grantee_of_value (issue_value (value_part d)) ≡ Some (lowered (name_at d n))
    pub behind : parameters_in (value_part d) ≡ parameters_behind (drop n.parameters d)

  abbrev Told : Option NameAt → Type 0
  Told None = grantee_of_value (issue_value (value_part d)) ≡ None
  Told (Some n) = Issuer n

  told : Told (issuer_at d)
  unfolding issuer_at
  told = go (value_at v) refl
    where
      v : List ℕ
      v = value_part d

      go : (r : ValueRead) → value_at v ≡ r → Told (issuer_places d v r)
      go Malformed e = rw (read_malformed v (value_at v) refl e)
      go Nameless e = rw (read_nameless v (value_at v) refl e)
      go (Named n) e = by (is_issuer (name_at v n)) refl
        where
          by : (t : Bool) → is_issuer (name_at v n) ≡ t → Told (cond t (Some (shifted d n)) None)
          by true t = record {
            ordered = omega (arith, name_from v (value_at v) refl n e);
            within = omega (arith, name_to v (value_at v) refl n e, value_short d);
            ended = omega (arith, parameters_within v (value_at v) refl n e, value_short d);
            there = rw (read_named v (value_at v) refl n e _ refl, t) (ap (λ l. Some (lowered l)) (sym (shifted_name d n)));
            behind = read_parameters v (value_at v) refl n e ∙ ap parameters_behind (sym (shifted_rest d n));
          }
          by false t = rw (read_named v (value_at v) refl n e _ refl, t)

-- o is the answer of issuer_in
module _ (d : List ℕ) (o : Option NameAt) (f : o ≡ issuer_at d) where
  pub nobody_named : o ≡ None → (who : Applicant) → grantee_of_data who d ≡ None
  unfolding grantee_of_data
  nobody_named g who =
      let nobody : grantee_of_value (issue_value (value_part d)) ≡ None = rw (← f, g) at (told d) in
      rw nobody (nobody_anyway (admits who (parameters_in (value_part d))))

  module _ (n : NameAt) (g : o ≡ Some n) where
    issuer : Issuer d n
    issuer = rw (← f, g) at (told d)

    pub issuer_from : n.from ≤ n.to
    issuer_from = issuer.ordered

    pub issuer_to : n.to ≤ length d
    issuer_to = issuer.within

    pub parameters_to : n.parameters ≤ length d
    parameters_to = issuer.ended

    -- limits are read from the parameters alone
    pub issuer_granted : (who : Applicant) →
        grantee_of_data who d ≡ cond (admits who (parameters_behind (drop n.parameters d))) (Some (lowered (name_at d n))) None
    unfolding grantee_of_data
    issuer_granted who = rw (issuer.there, issuer.behind)

pub grantee_by_place : GranteeByPlace
unfolding grantee_at
grantee_by_place who d = go (issuer_at d) refl
  where
    go : (o : Option NameAt) → issuer_at d ≡ o → grantee_there d (if_admitted who d o) ≡ grantee_of_data who d
    go None e = sym (nobody_named d (issuer_at d) refl e who)
    go (Some n) e = by (admits who (parameters_behind (drop n.parameters d))) ∙ sym (issuer_granted d (issuer_at d) refl n e who)
      where
        by : (t : Bool) → grantee_there d (cond t (Some n) None) ≡ cond t (Some (lowered (name_at d n))) None
        by true = refl
        by false = refl

-- o is the answer of read_value about the value v of d
module _ (d v : List ℕ) (part : v ≡ value_part d) (o : ValueRead) (f : o ≡ value_at v) where
  placed : issuer_at d ≡ issuer_places d v o
  unfolding issuer_at
  placed = rw (f, part)

  -- what `let ValueRead::Named(n) = o else` knows
  pub no_name : (variant the_type o ≡ 0) ⊎ (variant the_type o ≡ 1) → None ≡ issuer_at d
  no_name k = rw placed (go o k)
    where
      go : (r : ValueRead) → (variant the_type r ≡ 0) ⊎ (variant the_type r ≡ 1) → None ≡ issuer_places d v r
      go Malformed k = refl
      go Nameless k = refl
      go (Named n) (inl k) = absurd (omega arith)
      go (Named n) (inr k) = absurd (omega arith)

  pub value_within : length v ≤ length d
  value_within = rw part (value_short d)

  module _ (n : NameAt) (g : o ≡ Named n) where
    pub first_fits : Fits w64 (length d) → Fits w64 (length d - length v + n.from)
    first_fits room = record { fits = omega (arith, value_within, name_from v o f n g, name_to v o f n g, room.fits) }

    pub end_fits : Fits w64 (length d) → Fits w64 (length d - length v + n.to)
    end_fits room = record { fits = omega (arith, value_within, name_to v o f n g, room.fits) }

    pub parameters_fit : Fits w64 (length d) → Fits w64 (length d - length v + n.parameters)
    parameters_fit room = record { fits = omega (arith, value_within, parameters_within v o f n g, room.fits) }

    module _ (b : Bool) (test : b ≡ is_issuer (take (n.to - n.from) (drop n.from v))) where
      pub name_no_issuer : not b ≡ true → None ≡ issuer_at d
      name_no_issuer e = rw (placed, g, ← test, not-true b e)

      pub name_issuer : not b ≡ false → (x : NameAt) →
          x ≡ record {
            from = length d - length v + n.from;
            to = length d - length v + n.to;
            parameters = length d - length v + n.parameters;
          } → Some x ≡ issuer_at d
      name_issuer e x h = rw (placed, g, ← test, not-false b e, h)

-- o is the answer of issuer_in, and the parameters are tested for an applicant
module _ (who : Applicant) (d : List ℕ) (o : Option NameAt) (f : o ≡ issuer_at d) where
  pub nobody_there : o ≡ None → None ≡ grantee_at who d
  unfolding grantee_at
  nobody_there g = rw (← f, g)

  module _ (n : NameAt) (g : o ≡ Some n) (x : List ℕ) (rest : x ≡ take (length d - n.parameters) (drop n.parameters d)) (b : Bool)
      (test : b ≡ admits who (parameters_behind x)) where
    pub limits_not_met : not b ≡ true → None ≡ grantee_at who d
    unfolding grantee_at
    limits_not_met e = rw (← f, g, ← rest_whole d n.parameters, ← rest, ← test, not-true b e)

    pub limits_kept : not b ≡ false → Some n ≡ grantee_at who d
    unfolding grantee_at
    limits_kept e = rw (← f, g, ← rest_whole d n.parameters, ← rest, ← test, not-false b e)

-- o is the answer of read_grantee
module _ (who : Applicant) (d : List ℕ) (o : Option NameAt) (f : o ≡ grantee_at who d) where
  pub nobody_granted : o ≡ None → grantee_of_data who d ≡ None
  nobody_granted g = sym (grantee_by_place who d) ∙ rw (← f, g)

  module _ (n : NameAt) (g : o ≡ Some n) where
    pub somebody_granted : grantee_of_data who d ≡ Some (lowered (name_at d n))
    somebody_granted = sym (grantee_by_place who d) ∙ rw (← f, g)

    -- the issuer granted is the issuer named
    named : issuer_at d ≡ Some n
    unfolding grantee_at
    named = go (issuer_at d) (sym f ∙ g)
      where
        by : (m : NameAt) (t : Bool) → cond t (Some m) None ≡ Some n → Some m ≡ Some n
        by m true e = e
        by m false e = let z : ◌≡◌ {A = ℕ} 0 1 = cc in absurd (omega arith)

        go : (r : Option NameAt) → if_admitted who d r ≡ Some n → r ≡ Some n
        go None e = let z : ◌≡◌ {A = ℕ} 0 1 = cc in absurd (omega arith)
        go (Some m) e = by m (admits who (parameters_behind (drop m.parameters d))) e

    pub grantee_from : n.from ≤ n.to
    grantee_from = issuer_from d (issuer_at d) refl n named

    pub grantee_to : n.to ≤ length d
    grantee_to = issuer_to d (issuer_at d) refl n named
