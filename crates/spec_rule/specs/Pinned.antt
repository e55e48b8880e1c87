-- Equations that restate a definition, so that it can't change unnoticed. Each is proved under its name in proofs/.
use Rattle.std.specs.Prelude.{ℕ, ◌≡◌, List, [], ◌∷◌, ◌++◌, length}
use Rattle.spec_rule.specs.IssuerLists.{entries}
use Rattle.spec_refusal.specs.declared.Refusal.{Refusal}
use Rattle.spec_refusal.specs.Refusal.{number, place}
use Rattle.spec_rule.specs.declared.Judgement.TheVariants.{Permitted, UnknownCritical, NotGranted, TooManyAliases, Refused}
use Rattle.spec_rule.specs.declared.PermittedIssuers.TheVariants.{Refused as ListRefused, Anyone, Listed}
use Rattle.spec_rule.specs.Verdicts.{denial}
use Rattle.spec_rule.specs.Calls.{judgement_code, permitted_issuers_code}

-- Each entry follows its own length octet.
abbrev pub EntriesLaidOut : Type 0
EntriesLaidOut = (entries [] ≡ []) × ((n : List ℕ) (ns : List (List ℕ)) → entries (n ∷ ns) ≡ length n ∷ (n ++ entries ns))

-- The numbers of the answers: 0; 20, 21 and 22 with the numbers of name, record and labels taken off; for a refusal its own number and place.
abbrev pub AnswerCodes : Type 0
AnswerCodes =
    (judgement_code Permitted ≡ record { number = 0; values = [] })
    × ((k r u : ℕ) → (judgement_code (UnknownCritical (denial k r u)) ≡ record { number = 20; values = k ∷ r ∷ u ∷ [] })
    × (judgement_code (NotGranted (denial k r u)) ≡ record { number = 21; values = k ∷ r ∷ u ∷ [] })
    × (judgement_code (TooManyAliases (denial k r u)) ≡ record { number = 22; values = k ∷ r ∷ u ∷ [] }))
    × ((r : Refusal) → (judgement_code (Refused r) ≡ record { number = number r; values = place r ∷ [] })
    × (permitted_issuers_code (ListRefused r) ≡ record { number = number r; values = place r ∷ [] }))

-- The numbers of the list are this project's own: 30 for anyone; 31 with octets and count.
abbrev pub ListCodes : Type 0
ListCodes =
    (permitted_issuers_code Anyone ≡ record { number = 30; values = [] })
    × ((count octets : ℕ) → permitted_issuers_code (Listed count octets) ≡ record { number = 31; values = octets ∷ count ∷ [] })
