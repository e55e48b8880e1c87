-- The verdict on a request: step 5 of the requirements' rule of issue, with their numbers for name, record and labels taken off.
use Rattle.std.specs.Prelude.{ℕ, suc, cond, List, [], ◌∷◌}
use Rattle.spec_name.specs.Names.{Name}
use Rattle.spec_request.specs.Request.{base}
use Rattle.spec_applicant.specs.Applicant.{Applicant}
use Rattle.spec_rule.specs.declared.Judgement.{Judgement}
use Rattle.spec_rule.specs.declared.Judgement.TheVariants.{Permitted, UnknownCritical, NotGranted, TooManyAliases}
use Rattle.spec_rule.specs.declared.Denial.{Denial}
use Rattle.spec_rule.specs.RelevantSet.{Book, labels_off}
use Rattle.spec_rule.specs.Authorizations.{Authorization, unrestricted, forbidden, granted, unresolved, authorization, permits}

-- What CAA says about a requested name, and how many labels are taken off X where it says so.
pub record Decision : Type 0 where
  pub says : Authorization
  pub up : ℕ

-- For X and for *.X the labels of X are counted: the asterisk is not one of them.
unfoldable pub decision : Applicant → Book → Name → Decision
decision who book n = record { says = authorization who book n; up = labels_off book (base n) }

abbrev pub denial : ℕ → ℕ → ℕ → Denial
denial k r u = record { name = record { 0 = k }; rr = record { 0 = r }; up = record { 0 = u } }

-- Why name k is not permitted, with u labels taken off.
abbrev pub denied : ℕ → ℕ → Authorization → Judgement
denied k u unrestricted = Permitted
denied k u (forbidden r) = UnknownCritical (denial k r u)
denied k u (granted r ns) = NotGranted (denial k r u)
denied k u (unresolved r) = TooManyAliases (denial k r u)

-- The first name that is not permitted decides. k is the number of the first name in the list.
abbrev pub verdict_from : ℕ → List ℕ → List Decision → Judgement
verdict_from k d [] = Permitted
verdict_from k d (s ∷ rest) = cond (permits d s.says) (verdict_from (suc k) d rest) (denied k s.up s.says)

unfoldable pub verdict : List ℕ → List Decision → Judgement
verdict d names = verdict_from 0 d names
