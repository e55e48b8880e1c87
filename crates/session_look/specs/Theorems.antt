-- What `look` computes for an accepted book, in terms of the rule. The statement is proved under its name in proofs/.
use Rattle.spec_rule.specs.declared.Judgement.{Judgement}
use Rattle.std.specs.Prelude.{ℕ, ◌≡◌, Bool, List, [], ◌∷◌, None, Option, Some}
use Rattle.spec_name.specs.Names.{Name, wire, GoodName}
use Rattle.spec_record.specs.Records.{records, book_refusal}
use Rattle.spec_applicant.specs.Applicant.{Applicant}
use Rattle.spec_rule.specs.RelevantSet.{as_book, Lookup, empty, found, endless, lookup}
use Rattle.spec_rule.specs.Authorizations.{authorization_from}
use Rattle.spec_rule.specs.Verdicts.{verdict}
use Rattle.session_look.specs.Looks.{looked_at}

module _ (who : Applicant) (issuer : List ℕ) (up : ℕ) (wildcard : Bool) where
  -- The verdict of the rule on one name by this lookup, if anything is found.
  abbrev pub looked_by_rule : Lookup → Option Judgement
  looked_by_rule empty = None
  looked_by_rule (found rs) = Some (verdict issuer (record { says = authorization_from who wildcard (found rs); up = up } ∷ []))
  looked_by_rule (endless r) = Some (verdict issuer (record { says = authorization_from who wildcard (endless r); up = up } ∷ []))

-- For an accepted book, a lookup by table and chains decides as the rule's lookup of that name does.
abbrev pub LookByTheRule : Type 0
LookByTheRule =
    (who : Applicant) (issuer book : List ℕ) (up : ℕ) (wildcard : Bool) (x : Name) → book_refusal book ≡ None → GoodName x →
    looked_at who issuer book up wildcard (wire x) ≡ looked_by_rule who issuer up wildcard (lookup (as_book (records book)) x)
