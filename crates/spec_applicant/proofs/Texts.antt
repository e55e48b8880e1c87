-- The tests of an account text and of a method text are what the requirements say of them; both are refused exactly when one fails.
use Prim.Native.Nat.{ℕ}
use Prim.Native.Char.{code}
use mathlib.Core.Path.{◌≡◌}
use mathlib.Core.Logic.{◌↔◌}
use mathlib.Core.Bool.{true, not, and-eq-true_iff}
use mathlib.Core.List.{List}
use lib.Dec.{leb, eqb}
use lib.ListN.{length}
use borrow.Author.Tests.{leb-true, le-leb, eqb-false, ne_eqb, not-true}
use Rattle.spec_limits.specs.Limits.{max_account_octets}
use Rattle.spec_refusal.specs.declared.Refusal.TheVariants.{BadAccountOrMethod}
use Rattle.spec_refusal.proofs.Tested.{refused_unless}
use Rattle.spec_octets.specs.Lists.{all}
use Rattle.spec_octets.specs.Octets.{between, is_parameter_octet}
use Rattle.spec_octets.proofs.ListLaws.{all_true, All-imp}
use Rattle.spec_octets.proofs.ParameterOctets.{parameter_octets}
use Rattle.spec_applicant.specs.Applicant.{is_account, is_method, is_applicant, applicant_refusal}
use Rattle.spec_applicant.specs.Meaning.{GoodAccount, GoodMethod}
use Rattle.spec_applicant.specs.Theorems.{ApplicantTexts, ApplicantRefusals}

account : (t : List ℕ) → (is_account t ≡ true) ↔ GoodAccount t
unfolding is_account
account t =
    let both = and-eq-true_iff (between 1 max_account_octets (length t)) (all is_parameter_octet t) in
    let sized = and-eq-true_iff (leb 1 (length t)) (leb (length t) max_account_octets) in (
      λ e. let size = sized.0 (both.0 e).0 in (
        leb-true 1 (length t) size.0,
        leb-true (length t) max_account_octets size.1,
        All-imp (λ x. (parameter_octets x).0) ((all_true is_parameter_octet t).0 (both.0 e).1),
      ),
      λ k. both.1 (
        sized.1 (le-leb 1 (length t) k.0, le-leb (length t) max_account_octets k.1),
        (all_true is_parameter_octet t).1 (All-imp (λ x. (parameter_octets x).1) k.2),
      ),
    )

method : (t : List ℕ) → (is_method t ≡ true) ↔ GoodMethod t
unfolding is_method
method t =
    let both = and-eq-true_iff (is_account t) (all (λ x. not (eqb x (code ","))) t) in (
      λ e. (
        (account t).0 (both.0 e).0,
        All-imp (λ x h. eqb-false x (code ",") (not-true (eqb x (code ",")) h)) ((all_true (λ x. not (eqb x (code ","))) t).0 (both.0 e).1),
      ),
      λ k. both.1 (
        (account t).1 k.0,
        (all_true (λ x. not (eqb x (code ","))) t).1 (All-imp (λ x n. rw (ne_eqb x (code ",") n)) k.1),
      ),
    )

pub applicant_texts : ApplicantTexts
unfolding is_applicant
applicant_texts who =
    let both = and-eq-true_iff (is_account who.account) (is_method who.method) in (
      λ e. ((account who.account).0 (both.0 e).0, (method who.method).0 (both.0 e).1),
      λ k. both.1 ((account who.account).1 k.0, (method who.method).1 k.1),
    )

pub applicant_refusals : ApplicantRefusals
unfolding applicant_refusal
applicant_refusals who = refused_unless BadAccountOrMethod (is_applicant who) (applicant_texts who)
