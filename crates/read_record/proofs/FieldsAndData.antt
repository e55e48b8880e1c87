-- A record is read by reading its fields, and then testing its data.
use Rattle.std.proofs.lemmas.Option.{none-some}
use Rattle.std.specs.Prelude.{Option, None, Some}
use Prim.Native.Nat.{ℕ}
use mathlib.Core.Path.{◌≡◌, refl, sym, subst}
use mathlib.Core.Logic.{◌↔◌}
use mathlib.Core.Bool.{Bool, true, false, cond}
use mathlib.Core.List.{List}
use Rattle.spec_octets.specs.Reader.{Reader, given, and_then, ◌>>=◌, octets, number}
use Rattle.spec_octets.proofs.ReaderLaws.{pure_some}
use Rattle.spec_name.specs.Names.{name}
use Rattle.spec_record.specs.Records.{Record, is_laid_out, resource_record}
use Rattle.read_record.specs.Places.{record_fields}
use Rattle.read_record.specs.Theorems.{FieldsAndData}

abbrev is_good : Record → Bool
is_good r = is_laid_out r.type r.class r.rdata

-- what is left of fields that were read, once their data is tested
abbrev tested : Option (Record × List ℕ) → Option (Record × List ℕ)
tested None = None
tested (Some x) = cond (is_good x.0) (Some x) None

module _ {A : Type 0} (p : Reader A) (f g : A → Reader Record) (h : (a : A) (s : List ℕ) → f a s ≡ tested (g a s)) where
  then_tested : (s : List ℕ) → (p >>= f) s ≡ tested ((p >>= g) s)
  then_tested s = go (p s)
    where
      go : (o : Option (A × List ℕ)) → and_then o f ≡ tested (and_then o g)
      go None = refl
      go (Some r) = h r.0 r.1

given_tested : (t : Bool) (r : Record) (s : List ℕ) → given t r s ≡ cond t (Some (r, s)) None
given_tested true r s = refl
given_tested false r s = refl

by_fields : (s : List ℕ) → resource_record s ≡ tested (record_fields s)
unfolding resource_record record_fields
by_fields =
    then_tested name _ _ (λ owner.
    then_tested (number 2) _ _ (λ type.
    then_tested (number 2) _ _ (λ class.
    then_tested (number 4) _ _ (λ ttl.
    then_tested (number 2) _ _ (λ n.
    then_tested (octets n) _ _ (λ d.
    given_tested (is_laid_out type class d) (record { owner = owner; type = type; class = class; ttl = ttl; rdata = d })))))))

pub fields_and_data : FieldsAndData
fields_and_data s r rest = rw (by_fields s) (go (record_fields s))
  where
    Passes : Option (Record × List ℕ) → Type 0
    Passes o = (o ≡ Some (r, rest)) × (is_good r ≡ true)

    go : (o : Option (Record × List ℕ)) → (tested o ≡ Some (r, rest)) ↔ Passes o
    go None = (λ e. absurd (none-some _ e), λ k. absurd (none-some _ k.0))
    go (Some x) = (passes (is_good x.0) refl, stands)
      where
        passes : (t : Bool) → is_good x.0 ≡ t → cond t (Some x) None ≡ Some (r, rest) → Passes (Some x)
        passes true good e = (e, subst (λ (q : Record). is_good q ≡ true) ((pure_some x.0 r x.1 rest).0 e).0 good)
        passes false good e = absurd (none-some _ e)

        stands : Passes (Some x) → cond (is_good x.0) (Some x) None ≡ Some (r, rest)
        stands k =
            let good = subst (λ (q : Record). is_good q ≡ true) (sym ((pure_some x.0 r x.1 rest).0 k.0).0) k.1 in
            rw good k.0
