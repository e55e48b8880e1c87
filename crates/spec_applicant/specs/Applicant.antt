-- Who asks for the certificate: the account at the CA (RFC 8657 section 3) and the validation method (section 4), as texts.
use Rattle.std.specs.Prelude.{ℕ, Bool, cond, not, ◌&&◌, List, eqb, length, Option, None, Some}
use Prim.Native.Char.{code}
use Rattle.spec_limits.specs.Limits.{max_account_octets}
use Rattle.spec_refusal.specs.declared.Refusal.{Refusal}
use Rattle.spec_refusal.specs.declared.Refusal.TheVariants.{BadAccountOrMethod}
use Rattle.spec_octets.specs.Lists.{all}
use Rattle.spec_octets.specs.Octets.{between, is_parameter_octet}

pub record Applicant : Type 0 where
  pub account : List ℕ
  pub method : List ℕ

-- "1 to 255 octets of 33 to 126 except `;`": what the value of a parameter may hold, and not empty.
unfoldable pub is_account : List ℕ → Bool
is_account t = between 1 max_account_octets (length t) && all is_parameter_octet t

-- The same without a comma, which separates the methods of a record.
unfoldable pub is_method : List ℕ → Bool
is_method t = is_account t && all (λ x. not (eqb x (code ","))) t

unfoldable pub is_applicant : Applicant → Bool
is_applicant who = is_account who.account && is_method who.method

-- Row 15 of the table of refusals.
unfoldable pub applicant_refusal : Applicant → Option Refusal
applicant_refusal who = cond (is_applicant who) None (Some BadAccountOrMethod)
