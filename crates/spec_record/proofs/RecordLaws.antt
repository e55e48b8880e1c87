-- A resource record is read exactly where the octets begin with its fields in order.
use Rattle.std.specs.Prelude.{Option, None, Some}
use Prim.Native.Nat.{ℕ}
use native.Mathlib.Omega.{arith}
use mathlib.Core.Path.{◌≡◌, refl, ◌∙◌}
use mathlib.Core.Logic.Iff
use mathlib.Core.Logic.{◌↔◌}
use mathlib.Core.Bool.{Bool, true, false, not, ◌||◌, and-eq-true_iff, false≢true}
use mathlib.Core.List.{List, ◌++◌, append_assoc}
use lib.ListN.{length}
use Rattle.spec_octets.specs.Reader.{in_octets}
use Rattle.spec_octets.proofs.ListLaws.{all_true}
use Rattle.spec_octets.proofs.ReaderLaws.{given_some}
use Rattle.spec_octets.proofs.Fields.{number_field_lem, octets_field, then_read, then_stand, given_read}
use Rattle.spec_name.specs.Names.{wire}
use Rattle.spec_name.proofs.NameField.{name_field}
use Rattle.spec_record.specs.Property.{Property, property}
use Rattle.spec_record.specs.Records.{Record, wire_record, target, is_some, is_caa_data, is_laid_out, resource_record, GoodData, GoodRecord}
use Rattle.spec_record.specs.Theorems.{RecordIsItsFields, RecordExample}
use Rattle.spec_record.specs.Pinned.{RecordForm}
use Rattle.spec_record.proofs.PropertyLaws.{property_is_its_parts}
use Rattle.spec_record.proofs.AliasLaws.{target_is_its_name}
use Rattle.spec_record.proofs.KindLaws.{caa_exactly, alias_exactly}

pub caa_data : (d : List ℕ) → is_caa_data (property d) ≡ true → (p : Property) × (property d ≡ Some p) × (is_caa_data (Some p) ≡ true)
caa_data d = go (property d)
  where
    go : (o : Option Property) → is_caa_data o ≡ true → (p : Property) × (o ≡ Some p) × (is_caa_data (Some p) ≡ true)
    go None e = absurd (false≢true e)
    go (Some p) e = (p, refl, e)

some_there : {A : Type 0} (o : Option A) → is_some o ≡ true → (a : A) × (o ≡ Some a)
some_there None e = absurd (false≢true e)
some_there (Some a) e = (a, refl)

-- one clause of the data rule: `t` tests type and class, `good` the data
clause : {T C G : Type 0} (t good : Bool) → (t ≡ true) ↔ (T × C) → (good ≡ true) ↔ G → (not t || good ≡ true) ↔ (T → C → G)
clause true good kind law = (λ e x y. law.0 e, λ h. let (x, y) = kind.0 refl in law.1 (h x y))
clause false good kind law = (λ e x y. absurd (false≢true (kind.1 (x, y))), λ h. refl)

pub laid_out : (type class : ℕ) (d : List ℕ) → (is_laid_out type class d ≡ true) ↔ GoodData type class d
unfolding is_laid_out
laid_out type class d =
    Iff.trans (and-eq-true_iff _ _)
    (Iff.and
    (clause _ _ (caa_exactly type class) (
      λ h. let (p, e, tag) = caa_data d h in let (written, long) = (property_is_its_parts d p).0 e in (p, written, long, (all_true _ _).0 tag),
      λ h. rw ((property_is_its_parts d h.0).1 (h.1, h.2)) ((all_true _ _).1 h.3),
    ))
    (clause _ _ (alias_exactly type class) (
      λ h. let (t, e) = some_there (target d) h in let (written, good) = (target_is_its_name d t).0 e in (t, written, good),
      λ h. rw ((target_is_its_name d h.0).1 (h.1, h.2)),
    )))

-- the fields, each before all that follows it
abbrev fields : Record → List ℕ → List ℕ
fields r rest =
    wire r.owner
    ++ (in_octets 2 r.type ++ (in_octets 2 r.class ++ (in_octets 4 r.ttl ++ (in_octets 2 (length r.rdata) ++ (r.rdata ++ rest)))))

wire_fields : (r : Record) (rest : List ℕ) → wire_record r ++ rest ≡ fields r rest
wire_fields r rest = simp append_assoc

pub record_form : RecordForm
record_form r = refl

pub record_example : RecordExample
record_example = refl

pub record_is_its_fields : RecordIsItsFields
unfolding resource_record
record_is_its_fields s o r rest = (read, stand)
  where
    Stands : Record → List ℕ → Type 0
    Stands r rest = (s ≡ wire_record r ++ rest) × GoodRecord r

    read : resource_record s ≡ Some (r, rest) → Stands r rest
    read h =
        then_read name_field _ o h (λ owner s₁ o₁ e₁ g₁ h₁.
        then_read (number_field_lem 2) _ o₁ h₁ (λ type s₂ o₂ e₂ g₂ h₂.
        then_read (number_field_lem 2) _ o₂ h₂ (λ class s₃ o₃ e₃ g₃ h₃.
        then_read (number_field_lem 4) _ o₃ h₃ (λ ttl s₄ o₄ e₄ g₄ h₄.
        then_read (number_field_lem 2) _ o₄ h₄ (λ n s₅ o₅ e₅ g₅ h₅.
        then_read (octets_field n) _ o₅ h₅ (λ d s₆ o₆ e₆ g₆ h₆.
        given_read Stands h₆ (λ t. (
          cc (wire_fields (record { owner = owner; type = type; class = class; ttl = ttl; rdata = d }) s₆),
          (g₁, g₂, g₃, g₄, omega arith, (laid_out type class d).0 t),
        ))))))))

    stand : Stands r rest → resource_record s ≡ Some (r, rest)
    stand h =
        let (front, good) = h in
        let (g₁, g₂, g₃, g₄, g₅, g₆) = good in
        then_stand name_field _ o (front ∙ wire_fields r rest) g₁ (λ o₁.
        then_stand (number_field_lem 2) _ o₁ refl g₂ (λ o₂.
        then_stand (number_field_lem 2) _ o₂ refl g₃ (λ o₃.
        then_stand (number_field_lem 4) _ o₃ refl g₄ (λ o₄.
        then_stand (number_field_lem 2) _ o₄ refl g₅ (λ o₅.
        then_stand (octets_field (length r.rdata)) _ o₅ refl refl (λ o₆.
        (given_some _ _ r rest rest).1 ((laid_out r.type r.class r.rdata).1 g₆, refl, refl)))))))
