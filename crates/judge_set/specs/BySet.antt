-- The verdict on one name by its relevant set, found by the table and the chains of a book.
use Rattle.std.specs.Prelude.{ℕ, Bool, List, [], ◌∷◌}
use Rattle.spec_refusal.specs.declared.RecordNo.{RecordNo}
use Rattle.spec_applicant.specs.Applicant.{Applicant}
use Rattle.spec_rule.specs.declared.Judgement.{Judgement}
use Rattle.spec_rule.specs.Verdicts.{verdict_from}
use Rattle.book_places.specs.NameAuthorizations.{set_authorization, meaning}

module _ (who : Applicant) (issuer book table links : List ℕ) where
  -- The verdict on name k alone, given its relevant set and how many labels were taken off to reach it.
  unfoldable pub verdict_by_set : ℕ → RecordNo → ℕ → Bool → Judgement
  verdict_by_set k set up wildcard =
      verdict_from k issuer (record { says = meaning who book table links (set_authorization book table links wildcard set); up = up } ∷ [])
