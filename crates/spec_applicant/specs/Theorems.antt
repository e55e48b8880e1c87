-- What the definitions of this crate mean. Each statement is proved under its name in proofs/.
use Rattle.std.specs.Prelude.{◌≡◌, ◌↔◌, ◌⊎◌, true, List, map, None, Some}
use Rattle.spec_refusal.specs.declared.Refusal.{Refusal}
use Rattle.spec_refusal.specs.declared.Refusal.TheVariants.{BadAccountOrMethod}
use Rattle.spec_octets.specs.Lists.{Selects}
use Rattle.spec_octets.specs.Octets.{text}
use Rattle.spec_value.specs.Parameters.{Parameter, parameters_in}
use Rattle.spec_applicant.specs.Applicant.{Applicant, is_applicant, applicant_refusal}
use Rattle.spec_applicant.specs.Admission.{admits}
use Rattle.spec_applicant.specs.Meaning.{GoodApplicant, Tagged, Admits}
use Rattle.spec_applicant.specs.ApplicantEdges.{applicant_edges}
use Rattle.spec_applicant.specs.AdmissionEdges.{someone, admission_edges, longest, long_edges}

abbrev pub ApplicantTexts : Type 0
ApplicantTexts = (who : Applicant) → (is_applicant who ≡ true) ↔ GoodApplicant who

-- Row 15 of the table: the account text, the method text or both break a rule.
abbrev pub Row15 : Applicant → Type 0
Row15 who = GoodApplicant who → ⊥

-- The same by refusal.
abbrev pub ApplicantRow : Applicant → Refusal → Type 0
ApplicantRow who r = (r ≡ BadAccountOrMethod) × Row15 who

abbrev pub ApplicantRefusals : Type 0
ApplicantRefusals =
    (who : Applicant) → ((applicant_refusal who ≡ Some BadAccountOrMethod) ↔ Row15 who) × ((applicant_refusal who ≡ None) ↔ GoodApplicant who)
    × ((r : Refusal) → applicant_refusal who ≡ Some r → r ≡ BadAccountOrMethod)

-- Parameters admit an applicant exactly when the account and the method keep to both limits.
abbrev pub AdmitsExactly : Type 0
AdmitsExactly = (who : Applicant) (ps : List Parameter) → (admits who ps ≡ true) ↔ Admits who ps

-- Only the two tags matter: the same holds of the parameters that have one of them, taken alone.
abbrev pub OthersIgnored : Type 0
OthersIgnored =
    (who : Applicant) (ps qs : List Parameter) →
    Selects (λ p. Tagged (text "accounturi") p ⊎ Tagged (text "validationmethods") p) ps qs → admits who ps ≡ admits who qs

-- The table ApplicantEdges.antt.
abbrev pub ApplicantEdges : Type 0
ApplicantEdges = map (λ e. is_applicant e.0) applicant_edges ≡ map (λ e. e.1) applicant_edges

-- The table AdmissionEdges.antt.
abbrev pub AdmissionEdges : Type 0
AdmissionEdges = map (λ e. admits someone (parameters_in e.0)) admission_edges ≡ map (λ e. e.1) admission_edges

-- The same with the longest texts.
abbrev pub LongTextEdges : Type 0
LongTextEdges = map (λ e. admits longest (parameters_in e.0)) long_edges ≡ map (λ e. e.1) long_edges
