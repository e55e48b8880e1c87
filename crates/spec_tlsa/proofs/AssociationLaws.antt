-- TLSA data holds an association exactly when it is its wire form; the known values of its fields; the TLSA records of a book.
use Rattle.std.proofs.lemmas.Option.{same_Some, none-some}
use Rattle.std.specs.Prelude.{Some}
use Prim.Native.Nat.{ℕ, zero, suc, ◌≤◌}
use native.Mathlib.Omega.{arith}
use mathlib.Core.Path.{◌≡◌, refl}
use mathlib.Core.Logic.{◌↔◌, ◌⊎◌, inl, inr}
use mathlib.Core.Bool.{true, and-eq-true_iff}
use mathlib.Core.List.{List, [], ◌∷◌}
use lib.Dec.{eqb}
use lib.ListN.{length}
use borrow.Author.Tests.{leb-true, le-leb, eqb-true, eq-eqb}
use Rattle.spec_record.proofs.KindLaws.{kind_records}
use Rattle.spec_tlsa.specs.Association.{Association, is_tlsa, read_association, association, is_usage, is_selector, is_matching_type}
use Rattle.spec_tlsa.specs.Matches.{TlsaRecord, as_tlsa}
use Rattle.spec_tlsa.specs.Meaning.{Holds}
use Rattle.spec_tlsa.specs.Pinned.{AssociationForm}
use Rattle.spec_tlsa.specs.Theorems.{AssociationIsItsParts, KnownFields, TlsaRecords}

pub association_form : AssociationForm
association_form a = refl

pub association_is_its_parts : AssociationIsItsParts
unfolding association read_association
association_is_its_parts d a = (read d, stand)
  where
    stand : Holds d a → association d ≡ Some a
    stand h = rw (h.0, le-leb 1 (length a.octets) h.1)

    read : (d : List ℕ) → association d ≡ Some a → Holds d a
    read [] e = absurd (none-some _ e)
    read (u ∷ []) e = absurd (none-some _ e)
    read (u ∷ s ∷ []) e = absurd (none-some _ e)
    read (u ∷ s ∷ m ∷ []) e = absurd (none-some _ e)
    read (u ∷ s ∷ m ∷ x ∷ d) e =
        let same = same_Some _ _ (rw (le-leb 1 (length (x ∷ d)) (omega arith)) at e) in
        rw (← same) (refl, omega arith)

up_to_3 : (x : ℕ) → x ≤ 3 → (x ≡ 0) ⊎ (x ≡ 1) ⊎ (x ≡ 2) ⊎ (x ≡ 3)
up_to_3 zero h = inl refl
up_to_3 (suc zero) h = inr (inl refl)
up_to_3 (suc (suc zero)) h = inr (inr (inl refl))
up_to_3 (suc (suc (suc zero))) h = inr (inr (inr refl))
up_to_3 (suc (suc (suc (suc x)))) h = absurd (omega arith)

up_to_1 : (x : ℕ) → x ≤ 1 → (x ≡ 0) ⊎ (x ≡ 1)
up_to_1 zero h = inl refl
up_to_1 (suc zero) h = inr refl
up_to_1 (suc (suc x)) h = absurd (omega arith)

pub known_fields : KnownFields
unfolding is_usage is_selector is_matching_type
known_fields x = ((λ e. up_to_3 x (leb-true x 3 e), usage), (λ e. up_to_1 x (leb-true x 1 e), selector), (eqb-true x 0, eq-eqb x 0))
  where
    usage : (x ≡ 0) ⊎ (x ≡ 1) ⊎ (x ≡ 2) ⊎ (x ≡ 3) → is_usage x ≡ true
    usage (inl e) = rw e
    usage (inr (inl e)) = rw e
    usage (inr (inr (inl e))) = rw e
    usage (inr (inr (inr e))) = rw e

    selector : (x ≡ 0) ⊎ (x ≡ 1) → is_selector x ≡ true
    selector (inl e) = rw e
    selector (inr e) = rw e

pub tlsa_exactly : (type class : ℕ) → (is_tlsa type class ≡ true) ↔ ((type ≡ 52) × (class ≡ 1))
unfolding is_tlsa
tlsa_exactly type class = (
  λ e. let (t, c) = (and-eq-true_iff (eqb type 52) (eqb class 1)).0 e in (eqb-true type 52 t, eqb-true class 1 c),
  λ h. (and-eq-true_iff (eqb type 52) (eqb class 1)).1 (eq-eqb type 52 h.0, eq-eqb class 1 h.1),
)

pub tlsa_records_lem : TlsaRecords
tlsa_records_lem rs good = kind_records Association TlsaRecord 52 1 is_tlsa association Holds as_tlsa tlsa_exactly association_is_its_parts 0 rs good
