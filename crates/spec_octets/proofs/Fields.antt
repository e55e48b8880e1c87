-- Reading several fields in a row: each begins where the one before it ends.
use Rattle.std.specs.Prelude.{Some}
use Prim.Native.Nat.{ℕ, ◌^◌, ◌<◌}
use mathlib.Core.Path.{◌≡◌, subst, subst₂}
use mathlib.Core.Bool.{Bool, true}
use mathlib.Core.List.{List, ◌++◌}
use lib.ListN.{length}
use Rattle.spec_octets.specs.Octets.{Octets}
use Rattle.spec_octets.specs.Reader.{Reader, given, ◌>>=◌, octets, number, in_octets}
use Rattle.spec_octets.specs.Theorems.{Reads}
use Rattle.spec_octets.proofs.ListLaws.{All-rest}
use Rattle.spec_octets.proofs.ReaderLaws.{bind_some, given_some, octets_some}
use Rattle.spec_octets.proofs.Numbers.{numbers_high_octet_first}

-- a reader with what it reads
pub record Field (A : Type 0) : Type 1 where
  pub read : Reader A
  pub wire : A → List ℕ
  pub Good : A → Type 0
  pub reads : Reads read wire Good

abbrev pub number_field_lem : ℕ → Field ℕ
number_field_lem k = record { read = number k; wire = in_octets k; Good = λ n. n < 256 ^ k; reads = numbers_high_octet_first k }

abbrev pub octets_field : ℕ → Field (List ℕ)
octets_field n = record { read = octets n; wire = λ a. a; Good = λ a. length a ≡ n; reads = λ s o. octets_some n s }

module _ {A B : Type 0} (field : Field A) (f : A → Reader B) {s : List ℕ} (o : Octets s) where
  octets_behind : (a : A) (mid : List ℕ) → s ≡ field.wire a ++ mid → Octets mid
  octets_behind a mid front = All-rest (field.wire a) mid (subst Octets front o)

  pub then_read :
      {C : Type 0} {b : B} {rest : List ℕ} → (field.read >>= f) s ≡ Some (b, rest) →
      ((a : A) (mid : List ℕ) → Octets mid → s ≡ field.wire a ++ mid → field.Good a → f a mid ≡ Some (b, rest) → C) → C
  then_read {b} {rest} h next =
      let (a, mid, e, r) = (bind_some field.read f s b rest).0 h in
      let (front, good) = (field.reads s o a mid).0 e in
      next a mid (octets_behind a mid front) front good r

  pub then_stand :
      {b : B} {rest : List ℕ} {a : A} {mid : List ℕ} → s ≡ field.wire a ++ mid → field.Good a →
      (Octets mid → f a mid ≡ Some (b, rest)) → (field.read >>= f) s ≡ Some (b, rest)
  then_stand {b} {rest} {a} {mid} front good next =
      (bind_some field.read f s b rest).1 (a, mid, (field.reads s o a mid).1 (front, good), next (octets_behind a mid front))

-- the last step: what holds of the value found holds of the value handed out
pub given_read :
    {A : Type 0} (P : A → List ℕ → Type 0) {t : Bool} {a b : A} {s rest : List ℕ} →
    given t a s ≡ Some (b, rest) → (t ≡ true → P a s) → P b rest
given_read P {t} {a} {b} {s} {rest} h k = let (e, p, q) = (given_some t a b s rest).0 h in subst₂ P p q (k e)
