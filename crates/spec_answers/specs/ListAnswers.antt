-- The answers of the call that lists the permitted issuers, packed.
use Rattle.std.specs.Prelude.{ℕ}
use Rattle.spec_rule.specs.declared.PermittedIssuers.{PermittedIssuers}
use Rattle.spec_rule.specs.Calls.{permitted_issuers_code}
use Rattle.spec_answers.specs.Answers.{packed_code}

unfoldable pub packed_issuers : PermittedIssuers → ℕ
packed_issuers a = packed_code (permitted_issuers_code a)
