-- Records of one kind, such as CAA records or aliases: those that a test of type and class accepts, each with what a reader makes of its data.
use Rattle.std.specs.Prelude.{ℕ, suc, ◌≡◌, Bool, cond, List, [], ◌∷◌, ◌++◌, Option, None, Some}
use Rattle.spec_name.specs.Names.{Name}
use Rattle.spec_record.specs.Records.{Record}

abbrev pub kept : {A B : Type 0} → (A → B) → Option A → List B
kept made None = []
kept made (Some a) = made a ∷ []

-- "Records are numbered from 0 over the whole book". Records of other kinds are dropped after numbering. The first record has the number k.
abbrev pub of_kind_from : {A B : Type 0} → (ℕ → ℕ → Bool) → (List ℕ → Option A) → (ℕ → Name → A → B) → ℕ → List Record → List B
of_kind_from is_of read made k [] = []
of_kind_from is_of read made k (r ∷ rs) =
    cond (is_of r.type r.class) (kept (made k r.owner) (read r.rdata)) [] ++ of_kind_from is_of read made (suc k) rs

-- The same without a test and a reader: bs are the records of rs that have this type and class, in their order, each with its number, its owner and
-- what its data holds. The first record of rs has the number k.
pub data OfKind {A B : Type 0} (type class : ℕ) (Holds : List ℕ → A → Type 0) (made : ℕ → Name → A → B) : ℕ → List Record → List B → Type 0 where
  at_end : {k : ℕ} → OfKind type class Holds made k [] []
  of_kind : {k : ℕ} {r : Record} {rs : List Record} {bs : List B} (a : A) →
      r.type ≡ type → r.class ≡ class → Holds r.rdata a → OfKind type class Holds made (suc k) rs bs →
      OfKind type class Holds made k (r ∷ rs) (made k r.owner a ∷ bs)
  is_other : {k : ℕ} {r : Record} {rs : List Record} {bs : List B} →
      ((r.type ≡ type) × (r.class ≡ class) → ⊥) → OfKind type class Holds made (suc k) rs bs →
      OfKind type class Holds made k (r ∷ rs) bs
