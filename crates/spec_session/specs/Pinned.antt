-- Equations that restate a definition, so that it can't change unnoticed. Each is proved under its name in proofs/.
use Rattle.std.specs.Prelude.{ℕ, ◌≡◌, [], ◌∷◌}
use Rattle.spec_refusal.specs.declared.Refusal.TheVariants.{SessionEnded}
use Rattle.spec_rule.specs.declared.Judgement.{Judgement}
use Rattle.spec_rule.specs.declared.Judgement.TheVariants.{Refused}
use Rattle.spec_rule.specs.Calls.{judgement_code}
use Rattle.spec_session.specs.declared.SessionAnswer.TheVariants.{Asks, Judged, LookupFailed, NoVerdict}
use Rattle.spec_session.specs.Steps.{session_code}

-- The numbers of the answers: 40 with length and offset of the name asked for; 23; 41 for no verdict; those of a judgement, with refusals: 14 has place 0.
abbrev pub SessionCodes : Type 0
SessionCodes =
    ((o l : ℕ) → session_code (Asks o l) ≡ record { number = 40; values = l ∷ o ∷ [] })
    × ((j : Judgement) → session_code (Judged j) ≡ judgement_code j)
    × (session_code LookupFailed ≡ record { number = 23; values = [] })
    × (session_code NoVerdict ≡ record { number = 41; values = [] })
    × (session_code (Judged (Refused SessionEnded)) ≡ record { number = 14; values = 0 ∷ [] })
