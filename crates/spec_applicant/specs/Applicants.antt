-- The two texts that a call lends, as the applicant of the definitions.
use Rattle.spec_applicant.specs.declared.Applicant.{Applicant as Lent}
use Rattle.spec_applicant.specs.Applicant.{Applicant}

abbrev pub texts : Lent → Applicant
texts a = record { account = a.account.now; method = a.method.now }
